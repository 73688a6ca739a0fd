use Rattle.aprs_booktext.proofs.Common.{◌≡◌, ◌<◌, ◌∙◌, List, ap, arith, refl, IfOk-weaker, millis_of, BookValue, Row, witnesses, witnessed}
use Rattle.aprs_transmissions.specs.JoinRow.{merge}
use Rattle.aprs_transmissions.specs.Together.{book_together}
use Rattle.aprs_transmissions.proofs.Books.{one_book}
use Rattle.aprs_transmissions.proofs.Together.{together}
use Rattle.aprs_rows.proofs.SoundOrder.{in_order}
use Rattle.aprs_booktext.proofs.read.book_in.Goals as goal

pub add-requires : goal.add-requires
add-requires g c = in_order _ c.args.rows refl c.requires

pub returns : goal.returns
returns g c =
    let rows = c.args.rows in
    let gap = millis_of c.args.gap in
    let some : 0 < gap = omega (arith, c.requires.range) in
    let same : book_together gap rows ≡ rows =
    one_book gap (witnesses rows) (book_together gap rows) rows
    (together gap rows some c.requires.sound.each) (witnessed gap rows some c.requires.sound) in
    IfOk-weaker c.of_rows.result _ _ (λ book is. is ∙ c.in_ok-book_rows.ensures.book
    ∙ c.in_ok-add.ensures.added ∙ ap (λ (b : BookValue). record {
      gap = b.gap;
      rows = merge (millis_of b.gap) b.rows rows;
    }) c.new-store.ensures ∙ ap (λ (own : List Row). record { gap = c.args.gap; rows = own }) same)
    c.of_rows.ensures
