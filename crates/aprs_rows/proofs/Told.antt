-- The book of rows that are told has such rows.
use Rattle.aprs_rows.proofs.Common.{ℕ, List, [], ◌∷◌, inl, inr, sym, subst, All, AllByRecursion, All-from_recursion, recursion_from_All, IsName, Row, Received, choose, combine, compare_near, greater, is_greater_of}
use Rattle.std.specs.declared.cmp.Ordering.{Ordering}
use Rattle.std.specs.declared.cmp.Ordering.TheVariants.{Less, Equal, Greater}
use Rattle.aprs_ax25.specs.Frame.{FrameOf}
use Rattle.aprs_ax25.specs.FrameFault.{parts_of}
use Rattle.aprs_transmissions.specs.JoinRow.{join_row, merge}
use Rattle.aprs_transmissions.specs.Together.{book_together}
use Rattle.aprs_rows.specs.Told.{HasNamesAndFrame}
use Rattle.aprs_rows.proofs.Unions.{all_union}

abbrev IsToldHeard : Received → Type 0
IsToldHeard s = IsName s.receiver × FrameOf (parts_of s.frame) s.frame

told_combined : (x y : Row) → HasNamesAndFrame x → HasNamesAndFrame y → HasNamesAndFrame (combine x y)
told_combined x y s t = record {
  names_are = all_union x.receivers y.receivers (recursion_from_All IsName x.receivers s.names_are)
      (recursion_from_All IsName y.receivers t.names_are);
  name_is = its.0;
  frame_is = its.1;
}
  where
    its : IsToldHeard (greater x.greatest y.greatest)
    its = elim (is_greater_of x.greatest y.greatest).one [
      | inl e ↦ subst IsToldHeard (sym e) (s.name_is, s.frame_is)
      | inr e ↦ subst IsToldHeard (sym e) (t.name_is, t.frame_is)
    ]

told_joined : (gap : ℕ) (p : List Row) (r : Row) → AllByRecursion HasNamesAndFrame p → HasNamesAndFrame r
    → AllByRecursion HasNamesAndFrame (join_row gap p r)
told_joined gap [] r s t = (t, tt)
told_joined gap (x ∷ p) r s t =
    by (compare_near gap x r) (told_joined gap p r s.1 t)
    (told_joined gap p (combine x r) s.1 (told_combined x r s.0 t))
  where
    by : (o : Ordering) → AllByRecursion HasNamesAndFrame (join_row gap p r)
        → AllByRecursion HasNamesAndFrame (join_row gap p (combine x r)) → AllByRecursion HasNamesAndFrame
        (choose o (x ∷ join_row gap p r) (join_row gap p (combine x r)) (r ∷ x ∷ p))
    by Less h k = (s.0, h)
    by Equal h k = k
    by Greater h k = (t, s)

told_merged : (gap : ℕ) (p rows : List Row) → AllByRecursion HasNamesAndFrame p → AllByRecursion HasNamesAndFrame rows
    → AllByRecursion HasNamesAndFrame (merge gap p rows)
told_merged gap p [] s t = s
told_merged gap p (r ∷ rows) s t =
    told_merged gap (join_row gap p r) rows (told_joined gap p r s t.0) t.1

pub told_together : (gap : ℕ) (rows : List Row) → AllByRecursion HasNamesAndFrame rows
    → All HasNamesAndFrame (book_together gap rows)
told_together gap rows h =
    All-from_recursion HasNamesAndFrame (book_together gap rows) (told_merged gap [] rows tt h)
