-- Worked examples.
use Rattle.aprs_transmissions.proofs.Common.{◌≡◌, ℕ, ◌<◌, List, [], ◌∷◌, refl, sym, ap, ◌∙◌, subst, arith, Equal, Greater, Received, bytes_cmp}
use Rattle.aprs_transmissions.specs.Key.{key_of, key_cmp}
use Rattle.aprs_transmissions.specs.Row.{Row}
use Rattle.aprs_transmissions.specs.Book.{BookOf}
use Rattle.aprs_transmissions.specs.Sound.{Sound}
use Rattle.aprs_transmissions.specs.Joining.{Joined}
use Rattle.aprs_transmissions.specs.JoinRow.{single, merge, plain_book}
use Rattle.aprs_transmissions.specs.Examples.{hi_frame, hi_after_digipeater, hi_as_response, hi_key, rx1, rx2, reception_at, near_pair, near_row, far_pair, early_row, late_row, close_row, tied_pair, tied_row}
use Rattle.aprs_transmissions.proofs.Soundness.{sound}
use Rattle.aprs_transmissions.proofs.TakenSteps.{plain_is_book}
use Rattle.aprs_transmissions.proofs.Views.{joined_by_merge}

pub key_direct : key_of hi_frame ≡ hi_key
unfolding key_of
key_direct = refl

pub key_repeated : key_of hi_after_digipeater ≡ hi_key
unfolding key_of
key_repeated = refl

pub key_answered : key_of hi_as_response ≡ hi_key
unfolding key_of
key_answered = refl

pub same_key : key_of hi_after_digipeater ≡ key_of hi_frame
same_key = key_repeated ∙ sym key_direct

pub near_plain : plain_book 30000 near_pair ≡ near_row ∷ []
unfolding key_of key_cmp
near_plain = refl

pub far_plain : plain_book 30000 far_pair ≡ early_row ∷ late_row ∷ []
unfolding key_of key_cmp
far_plain = refl

pub tied_plain : plain_book 30000 tied_pair ≡ tied_row ∷ []
unfolding key_of key_cmp
tied_plain = refl

-- a computed book is the book
book_by : (S : List Received) (rows : List Row) → plain_book 30000 S ≡ rows → BookOf 30000 S rows
book_by S rows e = subst (λ (p : List Row). BookOf 30000 S p) e (plain_is_book 30000 S)

pub near_book : BookOf 30000 near_pair (near_row ∷ [])
near_book = book_by near_pair (near_row ∷ []) near_plain

pub far_book : BookOf 30000 far_pair (early_row ∷ late_row ∷ [])
far_book = book_by far_pair (early_row ∷ late_row ∷ []) far_plain

pub tied_book : BookOf 30000 tied_pair (tied_row ∷ [])
tied_book = book_by tied_pair (tied_row ∷ []) tied_plain

-- the book of one reception
pub single_sound : (s : Received) → Sound 30000 (single s ∷ [])
single_sound s = sound 30000 (s ∷ []) (single s ∷ []) (plain_is_book 30000 (s ∷ []))

gap_is_some : 0 < 30000
gap_is_some = omega arith

joined_singles : (s t : Received) (rows : List Row)
    → merge 30000 (single s ∷ []) (single t ∷ []) ≡ rows
    → Joined 30000 (single s ∷ []) (single t ∷ []) rows
joined_singles s t rows e =
    subst (λ (p : List Row). Joined 30000 (single s ∷ []) (single t ∷ []) p) e
    (joined_by_merge 30000 gap_is_some (single s ∷ []) (single t ∷ []) (single_sound s)
    (single_sound t))

pub joined_near : Joined 30000 (early_row ∷ []) (close_row ∷ []) (near_row ∷ [])
unfolding key_of key_cmp
joined_near =
    joined_singles (reception_at 0 rx2 hi_after_digipeater) (reception_at 30000 rx1 hi_frame) (near_row ∷ []) refl

pub joined_far : Joined 30000 (early_row ∷ []) (late_row ∷ []) (early_row ∷ late_row ∷ [])
unfolding key_of key_cmp
joined_far =
    joined_singles (reception_at 0 rx2 hi_after_digipeater) (reception_at 30001 rx1 hi_frame)
    (early_row ∷ late_row ∷ []) refl

pub other_receiver : rx2 ≡ rx1 → ⊥
other_receiver e = let g : Greater ≡ Equal = ap (λ (r : List ℕ). bytes_cmp r rx1) e in cc
