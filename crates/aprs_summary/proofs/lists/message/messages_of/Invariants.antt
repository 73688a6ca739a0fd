use Rattle.aprs_summary.proofs.Common.{◌≡◌, ◌++◌, map}
use Rattle.aprs_summary.specs.MessageRows.{row_in}
use Rattle.aprs_summary.proofs.lists.message.messages_of.Given as goal

abbrev pub invariant-loop-message : goal.invariant-loop-message
invariant-loop-message g l = l.list.items ++ l.message-iterator
    ≡ map (row_in l.exchange.answers.entries) l.exchange.spans.entries
