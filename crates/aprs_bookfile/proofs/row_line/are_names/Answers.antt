use Rattle.aprs_bookfile.proofs.Common.{◌≡◌, ◌∙◌, sym, true, false, IsName}
use Rattle.aprs_bookfile.proofs.Spellings.{NamesFirst-none, NamesFirst-more, NamesFirst-not, NamesFirst-last}
use Rattle.aprs_bookfile.proofs.row_line.are_names.Goals as goal

pub loop-piece-init : goal.loop-piece-init
loop-piece-init c = NamesFirst-none _

pub loop-piece-preserved : goal.loop-piece-preserved
loop-piece-preserved c = NamesFirst-more _ _ _ _ c.loop-piece.invariant c.in-Some.ensures.pieces
    (c.is_name.ensures.0 c.if-not-is_name.false)

pub returns-then-not-is_name : goal.returns-then-not-is_name
returns-then-not-is_name c =
    let none : ¬ IsName c.in-Some.piece.now = λ h. let yes = c.is_name.ensures.1 h in
    let no : false ≡ true = sym c.if-not-is_name.true ∙ yes in cc in (
      λ no. absurd (let f : false ≡ true = no in cc),
      λ all. absurd (NamesFirst-not _ _ _ _ c.loop-piece.invariant c.in-Some.ensures.pieces none
          all),
    )

pub returns : goal.returns
returns c = NamesFirst-last _ _ _ c.loop-piece.invariant c.in_default.ensures.one _
    c.is_name-2.ensures
