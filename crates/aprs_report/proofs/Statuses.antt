-- A status that is read is spelled so, and what is spelled so is read.
use Rattle.aprs_report.proofs.Common.{◌≡◌, ℕ, List, ◌∷◌, Option, Some, None, refl, sym, ap, subst, ◌∙◌, eqb-true, eq-eqb, none-some}
use Rattle.aprs_report.specs.declared.stamp.Stamp.{Stamp}
use Rattle.aprs_report.specs.Status.{BeginsInUtc, IsStatus}
use Rattle.aprs_report.specs.Reading.{Value, status, HasForm}
use Rattle.aprs_report.specs.Reader.{utc_at, status_with, status_of}
use Rattle.aprs_report.proofs.Steps.{after_some, guarded_some}
use Rattle.aprs_report.proofs.Stamps.{stamp_found, stamp_takes}

utc_found : (bytes : List ℕ) (x : Stamp × List ℕ) → utc_at bytes ≡ Some x →
    BeginsInUtc x.0 bytes x.1
unfolding utc_at
utc_found bytes x e = after_some _ _ _ _ e (λ s e1 r1.
    let at = stamp_found bytes s e1 in
    let g = guarded_some _ _ _ r1 in
    subst (λ (x : Stamp × List ℕ). BeginsInUtc x.0 bytes x.1) g.1
    (record { stamped = at.stamp; utc = eqb-true _ _ g.0; whole = at.whole }))

utc_takes : (stamp : Stamp) (bytes rest : List ℕ) → BeginsInUtc stamp bytes rest →
    utc_at bytes ≡ Some (stamp, rest)
unfolding utc_at
utc_takes stamp bytes rest h =
    ap utc_at h.whole ∙ rw (stamp_takes stamp rest h.stamped, eq-eqb _ _ h.utc) refl

found_with : (bytes : List ℕ) (o : Option (Stamp × List ℕ)) → utc_at bytes ≡ o →
    HasForm (status_with bytes o) (62 ∷ bytes)
found_with bytes None e =
    (refl, λ stamp rest h. none-some (stamp, rest) (sym e ∙ utc_takes stamp bytes rest h))
found_with bytes (Some x) e = (bytes, utc_found bytes x e, refl)

pub status_found : (bytes : List ℕ) → HasForm (status_of bytes) (62 ∷ bytes)
status_found bytes = found_with bytes (utc_at bytes) refl

without_stamp : (bytes : List ℕ) (o : Option (Stamp × List ℕ)) → utc_at bytes ≡ o →
    ((stamp : Stamp) (rest : List ℕ) → BeginsInUtc stamp bytes rest → ⊥) →
    status_with bytes o ≡ status None bytes
without_stamp bytes None e h = refl
without_stamp bytes (Some x) e h = absurd (h x.0 x.1 (utc_found bytes x e))

-- the bytes after the first, and what they read as
pub record StatusAt (v : Value) (info : List ℕ) : Type 0 where
  pub bytes : List ℕ
  pub whole : info ≡ 62 ∷ bytes
  pub value : status_of bytes ≡ v

pub status_takes : (stamp : Option Stamp) (text info : List ℕ) → IsStatus stamp text info →
    StatusAt (status stamp text) info
status_takes (Some stamp) text info h =
    record {
      bytes = h.0;
      whole = h.2;
      value = ap (status_with h.0) (utc_takes stamp h.0 text h.1);
    }
status_takes None text info h =
    record { bytes = text; whole = h.0; value = without_stamp text (utc_at text) refl h.1 }
