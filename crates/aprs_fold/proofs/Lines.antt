-- Lines that are read in parts.
use Rattle.std.proofs.Common.{◌≡◌, ◌∙◌, ℕ, ◌+◌, ◌≤◌, List, [], ◌∷◌, ◌++◌, length, take, drop, refl, sym, ap, subst, append_assoc, arith}
use Rattle.std.proofs.Math.Seq.{drop-append_seam}
use Rattle.std.specs.Prelude.{IfSome, Option, Some, None, Result, Ok, Err}
use Rattle.std.specs.Io.{ReadsAtMost}
use Rattle.std.specs.Result.{result_ok}
use Rattle.aprs_fold.specs.ReadAt.{GivesAt, HasSize}
use Rattle.std.specs.Option.{SomeIff}
use Rattle.std.proofs.lemmas.List.{drop-drop, take-append-drop}
use Rattle.aprs_io.specs.Cut.{Lacks}
use Rattle.aprs_fold.specs.Lines.{IsLineAt}

pub lacks_append : (c : ℕ) (a b : List ℕ) → Lacks c a → Lacks c b → Lacks c (a ++ b)
lacks_append c [] b h k = k
lacks_append c (x ∷ a) b h k = (h.0, lacks_append c a b h.1 k)

-- what stands after some bytes at a place
pub after_part : (bytes : List ℕ) (at : ℕ) (part rest : List ℕ) → drop at bytes ≡ part ++ rest
    → drop (at + length part) bytes ≡ rest
after_part bytes at part rest h = sym (drop-drop (length part) at bytes)
    ∙ ap (drop (length part)) h ∙ drop-append_seam part rest

-- the part, without an LF, stands at this place
pub record IsPartAt (bytes : List ℕ) (at : ℕ) (part : List ℕ) : Type 0 where
  pub is : drop at bytes ≡ part ++ drop (at + length part) bytes
  pub lacks : Lacks 10 part

pub part_none : (bytes : List ℕ) (at : ℕ) → IsPartAt bytes at []
part_none bytes at = record { is = ap (λ n. drop n bytes) (omega arith); lacks = tt }

module _ (bytes : List ℕ) (at next : ℕ) (part : List ℕ) (here : IsPartAt bytes at part)
    (next_is : next ≡ at + length part) (room rest : List ℕ) (n : ℕ)
    (given : drop next bytes ≡ take n room ++ rest) where
  whole : drop at bytes ≡ part ++ (take n room ++ rest)
  whole = here.is ∙ ap (λ l. part ++ l) (ap (λ m. drop m bytes) (sym next_is) ∙ given)

  pub part_more : Lacks 10 (take n room) → IsPartAt bytes at (part ++ take n room)
  part_more lacks =
      let is : drop at bytes ≡ (part ++ take n room) ++ rest = whole
      ∙ sym (append_assoc part (take n room) rest) in
      record {
        is = is ∙ ap (λ l. (part ++ take n room) ++ l)
            (sym (after_part bytes at (part ++ take n room) rest is));
        lacks = lacks_append 10 part (take n room) here.lacks lacks;
      }

  pub part_end : (len : ℕ) → Lacks 10 (take len (take n room))
      → drop len (take n room) ≡ 10 ∷ drop (len + 1) (take n room)
      → IsLineAt bytes at (part ++ take len (take n room))
  part_end len lacks lf =
      let read = take n room in
      let cut : read ≡ take len read ++ 10 ∷ drop (len + 1) read =
      sym (take-append-drop len read) ∙ ap (λ l. take len read ++ l) lf in
      record {
        after = drop (len + 1) read ++ rest;
        is = whole ∙ ap (λ l. part ++ (l ++ rest)) cut
            ∙ ap (λ l. part ++ l) (append_assoc (take len read) (10 ∷ drop (len + 1) read) rest)
            ∙ sym (append_assoc part (take len read) (10 ∷ (drop (len + 1) read ++ rest)));
        lacks = lacks_append 10 part (take len read) here.lacks lacks;
      }

-- a sum that fits
pub from_iff : (r : Option ℕ) (P : Type 0) (n : ℕ) (Q : ℕ → Type 0) → SomeIff r P n → Q n
    → IfSome r Q
from_iff None P n Q h q = tt
from_iff (Some x) P n Q h q = subst Q (sym h.1) q

-- what a read at a place gave
pub record IsGiven (bytes : List ℕ) (at : ℕ) (room : List ℕ) (n : ℕ) : Type 0 where
  pub rest : List ℕ
  pub is : drop at bytes ≡ take n room ++ rest

pub given_at : {E : Type 0} (known : Option (List ℕ)) (bytes : List ℕ) (at : ℕ) (r : Result ℕ E)
    (room : List ℕ) (n : ℕ) → known ≡ Some bytes → Some n ≡ result_ok r → GivesAt known at r room
    → IsGiven bytes at room n
given_at None bytes at r room n k e h = absurd (cc)
given_at (Some own) bytes at (Err fault) room n k e h = absurd (cc)
given_at (Some own) bytes at (Ok m) room n k e h =
    let same : own ≡ bytes = cc in
    let count : n ≡ m = cc in
    record {
      rest = h.0;
      is = ap (drop at) (sym same) ∙ h.1 ∙ ap (λ k. take k room ++ h.0) (sym count);
    }

pub given_len : {E : Type 0} (r : Result ℕ E) (room : List ℕ) (n : ℕ) → Some n ≡ result_ok r
    → ReadsAtMost r room → n ≤ length room
given_len (Err fault) room n e h = absurd (cc)
given_len (Ok m) room n e h =
    let count : n ≡ m = cc in
    subst (λ k. k ≤ length room) (sym count) h.0

pub given_ok : (known : Option (List ℕ)) (bytes : List ℕ) (at : ℕ) (room : List ℕ) (n : ℕ)
    → known ≡ Some bytes → GivesAt {E = Unit {0}} known at (Ok n) room → IsGiven bytes at room n
given_ok known bytes at room n k h = given_at {E = Unit {0}} known bytes at (Ok n) room n k refl h

pub has_size : {E : Type 0} (known : Option (List ℕ)) (bytes : List ℕ) (r : Result ℕ E) (n : ℕ)
    → known ≡ Some bytes → Some n ≡ result_ok r → HasSize known r → n ≡ length bytes
has_size None bytes r n k e h = absurd (cc)
has_size (Some own) bytes (Err fault) n k e h = absurd (cc)
has_size (Some own) bytes (Ok m) n k e h =
    let same : own ≡ bytes = cc in
    let count : n ≡ m = cc in
    count ∙ h ∙ ap length same

-- whatever the value is
pub iff_any : {X : Type 0} (r : Option X) (P : Type 0) → P → IfSome r (λ x. P)
iff_any None P h = tt
iff_any (Some x) P h = h
