-- The row that was taken last of several streams.
use Rattle.aprs_fold.proofs.Common.{◌≡◌, ◌≤◌, ◌<◌, ◌∙◌, ℕ, zero, suc, Bool, true, false, cond, List, [], ◌∷◌, Option, None, Some, IfSome, IfNone, inr, refl, sym, ap, subst, arith, length, get_or, Row}
use Rattle.std.specs.Ordering.{is_eq}
use Rattle.aprs_transmissions.specs.JoinRow.{combine, compare_near}
use Rattle.aprs_rows.specs.OpenRow.{JoinsOrNot, PutsJoined}
use Rattle.aprs_bookfile.specs.RowReader.{list_of_row}
use Rattle.aprs_bookfile.specs.RowStream.{taken_of}
use Rattle.aprs_bookfile.specs.declared.row_stream.RowStream.{RowStream}
use Rattle.aprs_fold.specs.LastRow.{lent_or, row_taken_at, taken_or, IsOfStream}

-- the list of a row that is there, or not
pub listed : (o : Option Row) (rows : List Row) → IfSome o (λ x. rows ≡ x ∷ [])
    → IfNone o (rows ≡ []) → list_of_row o ≡ rows
listed None rows some none = sym none
listed (Some x) rows some none = sym some

module _ {A : Type 0} where
  pub taken_none : (streams : List (RowStream A)) (k : ℕ) → length streams ≤ k
      → row_taken_at streams k ≡ []
  taken_none [] k le = refl
  taken_none (s ∷ streams) zero le = absurd (omega (arith, le))
  taken_none (s ∷ streams) (suc k) le = taken_none streams k (omega (arith, le))

  pub taken_some : (streams : List (RowStream A)) (k : ℕ) (s : RowStream A) → k < length streams
      → s ≡ get_or streams k s → row_taken_at streams k ≡ taken_of s
  taken_some [] k s lt is = absurd (omega (arith, lt))
  taken_some (t ∷ streams) zero s lt is = ap taken_of (sym is)
  taken_some (t ∷ streams) (suc k) s lt is = taken_some streams k s (omega (arith, lt)) is

  -- the next row joins a row that a stream lends, or not
  pub joins_lent : (joined : Bool) (gap index : ℕ) (stream : Option ℕ) (old mid : List Row)
      (own copy x : Row) (streams : List (RowStream A)) → stream ≡ Some index
      → list_of_row (Some own) ≡ row_taken_at streams index → copy ≡ own
      → PutsJoined joined gap old copy x mid
      → JoinsOrNot joined gap (lent_or stream old streams) x
      (lent_or (cond joined None stream) mid streams)
  joins_lent true gap index stream old mid own copy x streams at is same puts =
      let lent = ap (λ (s : Option ℕ). lent_or s old streams) at ∙ sym is in (
        own,
        lent,
        subst (λ (z : Row). is_eq (compare_near gap z x) ≡ true) same puts.0,
        puts.1 ∙ ap (λ (z : Row). combine z x ∷ []) same,
      )
  joins_lent false gap index stream old mid own copy x streams at is same puts =
      let lent : (rows : List Row) → lent_or stream rows streams ≡ own ∷ [] =
      λ rows. ap (λ (s : Option ℕ). lent_or s rows streams) at ∙ sym is in (
        lent mid ∙ sym (lent old),
        inr (
          own,
          lent old,
          subst (λ (z : Row). is_eq (compare_near gap z x) ≡ false) same puts.0,
        ),
      )

  -- a joined row is lent by no stream
  pub joined_after : (stream : Option ℕ) (joined : List Row) (x : Row)
      (streams : List (RowStream A)) → stream ≡ None
      → lent_or stream joined streams ≡ taken_or stream joined x
  joined_after stream joined x streams none =
      ap (λ (s : Option ℕ). lent_or s joined streams) none
      ∙ sym (ap (λ (s : Option ℕ). taken_or s joined x) none)

  -- once its stream was read on, the row that was taken is lent
  pub lent_again : (index : ℕ) (stream : Option ℕ) (joined : List Row) (x : Row)
      (streams : List (RowStream A)) → IsOfStream index stream
      → row_taken_at streams index ≡ x ∷ []
      → taken_or stream joined x ≡ lent_or stream joined streams
  lent_again index None joined x streams of lent = refl
  lent_again index (Some k) joined x streams of lent =
      sym (ap (row_taken_at streams) (of k refl) ∙ lent)

-- the stream that is to lend the row, if one is
pub none_of : (index : ℕ) (stream : Option ℕ) → stream ≡ None → IsOfStream index stream
none_of index stream none = λ k e. absurd (let f = sym none ∙ e in cc)

pub one_of : (index : ℕ) (stream : Option ℕ) → stream ≡ Some index → IsOfStream index stream
one_of index stream some = λ k e. (let f : Some k ≡ Some index = sym e ∙ some in cc)
