use Rattle.aprs_summary.proofs.Common.{◌∙◌, ◌∷◌, ◌++◌, [], ap, append-nil, append_assoc, sym, subst}
use Rattle.aprs_summary.specs.Messages.{ReportsMessages}
use Rattle.aprs_summary.proofs.lists.message.messages_of.Goals as goal

pub loop-message-init : goal.loop-message-init
loop-message-init g c =
    ap (λ l. l ++ c.into_iter-message-iterator.result)
    (c.reserve_exact.ensures.items ∙ c.new-list.ensures.items)
    ∙ c.into_iter-message-iterator.ensures.into_iter_gives ∙ c.of-message-items.ensures.rows

pub loop-message-preserved : goal.loop-message-preserved
loop-message-preserved g c =
    ap (λ l. l ++ c.next.new.self) c.in_ok-push.ensures.items
    ∙ append_assoc c.loop-message.list.items (c.in-Some.message ∷ []) c.next.new.self
    ∙ ap (λ r. c.loop-message.list.items ++ r) (sym c.in-Some.ensures.steps)
    ∙ c.loop-message.invariant

pub returns : goal.returns
returns g c = λ gap rows known.
    subst (ReportsMessages gap rows)
    (c.of-message-items.ensures.rows ∙ sym c.loop-message.invariant
    ∙ ap (λ r. c.loop-message.list.items ++ r) c.in-None.ensures.steps.0
    ∙ append-nil c.loop-message.list.items)
    (c.of-message-items.ensures.messages gap rows known)
