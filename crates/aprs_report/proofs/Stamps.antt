-- A stamp that is read is spelled so, and what is spelled so is read.
use Rattle.aprs_report.proofs.Common.{◌≡◌, ℕ, List, [], ◌∷◌, ◌++◌, Some, refl, ap, subst, ◌∙◌, append_assoc}
use Rattle.aprs_report.specs.declared.stamp.Stamp.{Stamp}
use Rattle.aprs_report.specs.Stamp.{is_time_mark, IsStamp, stamp_bytes}
use Rattle.aprs_report.specs.Reader.{stamp_at}
use Rattle.aprs_report.proofs.Steps.{after_some, guarded_some, chunk_found, chunk_takes}
use Rattle.aprs_report.proofs.Steps.{byte_found}

-- a stamp at the start of some bytes
pub record StampAt (bytes : List ℕ) (s : Stamp) (rest : List ℕ) : Type 0 where
  pub stamp : IsStamp s
  pub whole : bytes ≡ stamp_bytes s ++ rest

parts : (mark : ℕ) (digits rest after bytes : List ℕ) → bytes ≡ digits ++ after →
    after ≡ mark ∷ rest → bytes ≡ (digits ++ mark ∷ []) ++ rest
parts mark digits rest after bytes e1 e2 = rw (e1, e2) (simp append_assoc)

pub stamp_found : (bytes : List ℕ) (x : Stamp × List ℕ) → stamp_at bytes ≡ Some x →
    StampAt bytes x.0 x.1
unfolding stamp_at
stamp_found bytes x e = after_some _ _ _ _ e (λ digits e1 r1. after_some _ _ _ _ r1 (λ mark e2 r2.
    let g = guarded_some _ _ _ r2 in
    let start = chunk_found 6 bytes digits e1 in
    let after = byte_found is_time_mark digits.1 mark e2 in
    subst (λ (x : Stamp × List ℕ). StampAt bytes x.0 x.1) g.1 (record {
      stamp = record { six = start.len; digits = g.0; mark = after.1 };
      whole = parts mark.0 digits.0 mark.1 digits.1 bytes start.parts after.0;
    })))

pub stamp_takes : (s : Stamp) (rest : List ℕ) → IsStamp s →
    stamp_at (stamp_bytes s ++ rest) ≡ Some (s, rest)
unfolding stamp_at
stamp_takes s rest is =
    ap stamp_at (append_assoc s.digits (s.mark ∷ []) rest)
    ∙ rw (chunk_takes 6 s.digits (s.mark ∷ rest) is.six, is.mark, is.digits) refl
