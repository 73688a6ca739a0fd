use Rattle.aprs_summary.proofs.Exchanges.{no_id}
use Rattle.aprs_summary.proofs.lists.message_key.awaited_in.Goals as goal

pub returns : goal.returns
returns c = λ n. (
  λ e. (no_id c.args.message.now.id c.if-is_some.ensures, (c.number_in.ensures n).0 e),
  λ h. (c.number_in.ensures n).1 h.1,
)
