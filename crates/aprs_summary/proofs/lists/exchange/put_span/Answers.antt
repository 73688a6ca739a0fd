use Rattle.aprs_summary.proofs.Common.{◌≡◌, ◌∙◌, Some, sym, ap}
use Rattle.aprs_summary.specs.MessageRows.{span_of, span_with}
use Rattle.aprs_summary.proofs.Collected.{adds_last}
use Rattle.aprs_summary.proofs.Messages.{keys_alike, spans_put_by, spans_put_twice}
use Rattle.aprs_summary.proofs.lists.exchange.put_span.Goals as goal

pub returns-in-Ok-None : goal.returns-in-Ok-None
returns-in-Ok-None g c = λ rows r held message first last.
    let span : c.args.more.now ≡ span_of r = λ i. record { first = first i; last = last i } in
    spans_put_by rows _ r (adds_last rows r) c.args.spans.now.entries held _ keys_alike
    c.args.message c.args.more.now c.insert.new.self.entries message
    (span ∙ ap (λ t. span_with t (span_of r))
    (sym c.in-Ok-None.field-0-is ∙ c.in-Ok-None.ensures.old))
    c.in-Ok-None.ensures.entries c.in-Ok-None.ensures.ordered

pub returns : goal.returns
returns g c = λ rows r held message first last.
    let span : c.args.more.now ≡ span_of r = λ i. record { first = first i; last = last i } in
    spans_put_twice rows _ r (adds_last rows r) c.args.spans.now.entries held _ keys_alike
    c.args.message message c.copy-again.result c.copy-again.ensures c.args.more.now
    c.span_with.result c.insert.new.self.entries c.insert-2.new.self.entries
    (c.span_with.ensures ∙ ap (span_with (Some c.in-Ok-Some.known)) span
    ∙ ap (λ t. span_with t (span_of r))
    (sym c.in-Ok-Some.field-0-is ∙ c.in-Ok-Some.ensures.old))
    c.in-Ok-Some.ensures.entries
    c.in_ok-insert.ensures.entries c.in_ok-insert.ensures.ordered
