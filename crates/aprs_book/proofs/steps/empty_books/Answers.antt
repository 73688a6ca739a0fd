use Rattle.aprs_book.proofs.Common.{◌∙◌, ◌∷◌, ◌++◌, [], List, get_or, length, ap, arith, BookValue, one_value}
use Rattle.std.proofs.Common.{length-append}
use Rattle.aprs_book.specs.Replay.{empty_book}
use Rattle.aprs_book.proofs.Replays.{one_more_empty}
use Rattle.aprs_book.proofs.steps.empty_books.Goals as goal

pub filling-preserved : goal.filling-preserved
filling-preserved g c =
    let none = empty_book c.args.gap in
    let added =
    c.in_ok-push.ensures.items in
    let more = ap length added ∙ length-append c.filling.books.items (c.with_gap.result ∷ []) in (
      λ i.
          ap (λ (t : List BookValue). get_or t i none)
          (added
          ∙ ap (λ (b : BookValue). c.filling.books.items ++ b ∷ [])
          (one_value c.with_gap.result none c.with_gap.ensures.gap c.with_gap.ensures.rows))
          ∙ one_more_empty none c.filling.books.items c.filling.invariant.0 i,
      omega (arith, more, c.filling-test.true, c.len.ensures),
    )
