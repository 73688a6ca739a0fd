-- From when to when something was heard, by the rows of a book.
use Rattle.aprs_transmissions.proofs.Common.{◌≡◌, ℕ, List, ◌↔◌, sym, subst, arith, Received}
use Rattle.aprs_transmissions.specs.Lists.{◌∈◌}
use Rattle.aprs_transmissions.specs.Key.{Key, key_of}
use Rattle.aprs_transmissions.specs.Row.{Row, row_key, last_moment}
use Rattle.aprs_transmissions.specs.Book.{BookOf}
use Rattle.aprs_transmissions.specs.Spans.{IsFirstMoment, IsLastMoment, IsLeastFirst, IsGreatestLast}
use Rattle.aprs_transmissions.proofs.Views.{a_row}

module _ (gap : ℕ) (S : List Received) (rows : List Row) (P : Key → Type 0) (b : BookOf gap S rows)
  where
    -- a reception at the first moment of a row
    at_first : (x : Row) → x ∈ rows → P (row_key x)
        → (s : Received) × (s ∈ S) × P (key_of s.frame) × (s.moment ≡ x.first)
    at_first x h k = let t = ((b.exactly x).0 h).run.at_first in
        (t.0, t.1, subst P (sym t.2) k, t.3)

    at_last : (x : Row) → x ∈ rows → P (row_key x)
        → (s : Received) × (s ∈ S) × P (key_of s.frame) × (s.moment ≡ last_moment x)
    at_last x h k = let t = ((b.exactly x).0 h).run.at_last in (t.0, t.1, subst P (sym t.2) k, t.3)

    first_shown : (m : ℕ) → IsFirstMoment S P m → IsLeastFirst rows P m
    first_shown m f =
        let s = f.heard in
        let t = a_row gap S rows b s.0 s.1 in
        let k = subst P t.2.key s.2 in
        let r = at_first t.0 t.1 k in
        record {
          row = (t.0, t.1, k, omega (arith, f.least r.0 r.1 r.2, r.3, s.3, t.2.from));
          least = λ x h q.
              let u = at_first x h q in omega (arith, f.least u.0 u.1 u.2, u.3);
        }

    first_known : (m : ℕ) → IsLeastFirst rows P m → IsFirstMoment S P m
    first_known m f =
        let x = f.row in
        let t = at_first x.0 x.1 x.2 in
        record {
          heard = (t.0, t.1, t.2, omega (arith, t.3, x.3));
          least = λ s h q.
              let u = a_row gap S rows b s h in
              omega (arith, f.least u.0 u.1 (subst P u.2.key q), u.2.from);
        }

    last_shown : (m : ℕ) → IsLastMoment S P m → IsGreatestLast rows P m
    last_shown m f =
        let s = f.heard in
        let t = a_row gap S rows b s.0 s.1 in
        let k = subst P t.2.key s.2 in
        let r = at_last t.0 t.1 k in
        record {
          row = (t.0, t.1, k, omega (arith, f.greatest r.0 r.1 r.2, r.3, s.3, t.2.to));
          greatest = λ x h q.
              let u = at_last x h q in omega (arith, f.greatest u.0 u.1 u.2, u.3);
        }

    last_known : (m : ℕ) → IsGreatestLast rows P m → IsLastMoment S P m
    last_known m f =
        let x = f.row in
        let t = at_last x.0 x.1 x.2 in
        record {
          heard = (t.0, t.1, t.2, omega (arith, t.3, x.3));
          greatest = λ s h q.
              let u = a_row gap S rows b s h in
              omega (arith, f.greatest u.0 u.1 (subst P u.2.key q), u.2.to);
        }

    pub first_moment_is : (m : ℕ) → IsFirstMoment S P m ↔ IsLeastFirst rows P m
    first_moment_is m = (first_shown m, first_known m)

    pub last_moment_is : (m : ℕ) → IsLastMoment S P m ↔ IsGreatestLast rows P m
    last_moment_is m = (last_shown m, last_known m)
