-- Lemmas on an input whose book is widened.
use Rattle.aprs_runs.proofs.Common.{◌≡◌, ◌∙◌, ◌<◌, ◌≤◌, ◌==◌, not, true, false, ℕ, List, [], ap, subst, arith, nat_tests, Received, BookValue, IsGap, written_text}
use Rattle.aprs_log.specs.declared.InputEnd.{InputEnd}
use Rattle.aprs_runs.specs.InputRows.{GivesRows}
use Rattle.aprs_runs.specs.Merge.{IsTextOfBook}
use Rattle.aprs_runs.specs.Outcome.{IsToldOf}
use Rattle.aprs_runs.specs.Refused.{IsFaulty}
use Rattle.aprs_runs.specs.Widen.{GivesSetWithin, IsNotWidened}
use Rattle.aprs_runs.specs.declared.fault.InputFault.{InputFault}
use Rattle.aprs_runs.specs.declared.fault.InputFault.TheVariants.{Narrower}
use Rattle.aprs_runs.proofs.Into.{file_of}
use Rattle.aprs_runs.proofs.Merges.{text_of_book}
use Rattle.aprs_runs.proofs.RowsTold.{holds_wide}
use Rattle.aprs_runs.proofs.Sets.{set_gap}

-- the gap of a number that tests say
pub same_gap : (own gap : ℕ) → false ≡ not (own == gap) → own ≡ gap
same_gap own gap e = grind (arith, nat_tests)

pub differing_gap : (own gap : ℕ) → true ≡ not (own == gap) → own ≡ gap → ⊥
differing_gap own gap e same = grind (arith, nat_tests)

-- an input that is refused itself
pub not_widened : (gap : ℕ) (t : List ℕ) (c : InputEnd) (fault : InputFault) → IsFaulty fault t c
    → IsNotWidened gap t c 0 fault
not_widened gap t c Narrower h = absurd h
not_widened gap t c fault h = h

-- rows that were read into no others, by the seconds of both gaps
module _ (gap own seconds its : ℕ) (old new : BookValue) (t : List ℕ) (c : InputEnd)
    (asked : seconds ≡ gap) (found : its ≡ own) (none : old ≡ record { gap = gap; rows = [] })
    (h : GivesRows old.gap own old new t c) where
  given : GivesRows gap own old new t c
  given = subst (λ (v : BookValue). GivesRows v.gap own old new t c) none h

  -- an input of a greater gap
  pub not_wide : seconds < its → IsNotWidened gap t c 0 Narrower
  not_wide less =
      let differs : own ≡ gap → ⊥ = λ same. omega (arith, less, same, asked, found) in (
        own,
        h.set,
        omega (arith, less, asked, found),
        file_of gap own t c h.set differs given.gap_is h.gives,
      )

  -- of another gap
  pub within : its ≤ seconds → (S : List Received) × GivesSetWithin gap t c S
  within l = (h.set, (own, omega (arith, l, asked, found), h.gives))

  -- the text of the book under this gap
  pub wide_text : IsGap seconds → IsGap its → its ≤ seconds
      → IsToldOf (GivesSetWithin gap t c) (IsTextOfBook gap) (written_text new)
  wide_text r o l = (
    within l,
    λ S gives. text_of_book gap new
        (ap (λ (v : BookValue). v.gap) h.new_is ∙ ap (λ (v : BookValue). v.gap) none) S
        (holds_wide gap own old new t c (subst IsGap asked r) (subst IsGap found o)
        (omega (arith, l, asked, found)) none given S
        (set_gap own gives.0 t c h.set S h.gives gives.2)),
  )
