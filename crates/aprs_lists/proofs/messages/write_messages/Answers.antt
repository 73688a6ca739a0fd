use Rattle.aprs_lists.proofs.Common.{refl}
use Rattle.aprs_lists.specs.Messages.{messages_table}
use Rattle.aprs_lists.proofs.messages.write_messages.Goals as goal

pub returns : goal.returns
returns g c = (
  messages_table c.messages.result,
  record { messages = c.messages.result; are_messages = c.messages.ensures; text_is = refl },
  c.write_table.ensures,
)
