-- Lines that were put, one after another.
use Rattle.aprs_fold.proofs.Common.{◌≡◌, ◌∙◌, ◌<◌, ℕ, length, Bool, true, false, cond, List, [], ◌∷◌, ◌++◌, Option, Result, Ok, Err, IfOk, OnOk, inl, inr, refl, sym, ap, subst, append-nil, flat_map-append, in_either, Puts, Puts-is, Puts-none, Puts-then, Row}
use Rattle.aprs_io.specs.Device.{Sends, SendsAllBut}
use Rattle.aprs_io.specs.Outlet.{held_of, writer_loan_of, writer_of}
use Rattle.aprs_io.specs.declared.outlet.Outlet.{Outlet}
use Rattle.aprs_io.proofs.Sends.{Sends-last, Sends-ok}
use Rattle.aprs_log.specs.declared.moment_form.MomentForm.TheVariants.{Millis}
use Rattle.aprs_bookfile.specs.RowLines.{line_and_lf}
use Rattle.aprs_bookfile.specs.Text.{IsBookRow}
use Rattle.aprs_rows.specs.OpenRow.{JoinsOrNot}
use Rattle.aprs_fold.specs.Range.{rows_of_sources}
use Rattle.aprs_fold.specs.Taking.{lines_of_rows, FailsPut, FailsTaking, HasPut, IsThere, Takes}
use Rattle.aprs_fold.specs.declared.fault.FoldFault.{FoldFault}
use Rattle.aprs_fold.specs.declared.fault.FoldFault.TheVariants.{Write}
use Rattle.aprs_fold.specs.declared.range.SourceRange.{SourceRange}
use Rattle.aprs_fold.proofs.Kept.{is_row_within}

-- what is said of a result in two clauses
pub both_ok : {X E : Type 0} (r : Result X E) (P : Type 0) (Q S : X → Type 0) → OnOk r P
    → IfOk r Q → (P → (x : X) → Q x → S x) → IfOk r S
both_ok (Ok x) P Q S p q f = f p x q
both_ok (Err e) P Q S p q f = tt

module _ {W : Type 0} {contents : W → Option (List ℕ)} where
  -- which error it would be is not said
  pub Puts-ok : {E F : Type 0} {o p : Outlet W} {x : List ℕ}
      → Puts {E = E} contents (Ok tt) o p x → Puts {E = F} contents (Ok tt) o p x
  Puts-ok put = record {
    same_reference = put.same_reference;
    took = put.took;
    fails = tt;
    empty = tt;
  }

  pub HasPut-none : (o : Outlet W) → HasPut contents o o []
  HasPut-none o = record { puts = Puts-none o; spelled = λ x h. absurd h }

  pub HasPut-then : (o p q : Outlet W) (a b : List Row) → HasPut contents o p a
      → HasPut contents p q b → HasPut contents o q (a ++ b)
  HasPut-then o p q a b first then = record {
    puts = Puts-is (Puts-then first.puts then.puts) (sym (flat_map-append line_and_lf a b));
    spelled = λ x h. elim (in_either x a b h) [
      | inl k ↦ first.spelled x k
      | inr k ↦ then.spelled x k
    ];
  }

  pub HasPut-one : {E : Type 0} (o p : Outlet W) (x : Row)
      → Puts {E = E} contents (Ok tt) o p (line_and_lf x)
      → (0 < length x.receivers → IsBookRow Millis x) → HasPut contents o p (x ∷ [])
  HasPut-one o p x put spelled = record {
    puts = Puts-is (Puts-ok put) (sym (append-nil (line_and_lf x)));
    spelled = λ y h some. elim h [
      | inl same ↦ subst (IsBookRow Millis) same (spelled (subst (λ (z : Row).
          0 < length z.receivers) (sym same) some))
      | inr never ↦ absurd never
    ];
  }

  -- some lines were put, and then a prefix of others
  pub HasPut-fails : {E : Type 0} {e : E} (o p q : Outlet W) (a b : List Row)
      → HasPut contents o p a → Puts {E = E} contents (Err e) p q (lines_of_rows b)
      → Puts {E = E} contents (Err e) o q (lines_of_rows (a ++ b))
  HasPut-fails o p q a b first then =
      Puts-is (Puts-then first.puts then) (sym (flat_map-append line_and_lf a b))

  -- what is held is sent too
  pub Puts-sent : {E F : Type 0} (r : Result (Unit {0}) F) (o p q : Outlet W) (x : List ℕ)
      → Puts {E = E} contents (Ok tt) o p x → writer_loan_of q ≡ writer_loan_of p
      → held_of q ≡ [] → Sends contents r (writer_of p) (writer_of q) (held_of p)
      → Puts contents r o q x
  Puts-sent (Ok u) o p q x put same none sent = record {
    same_reference = same ∙ put.same_reference;
    took = subst (λ l. SendsAllBut contents (writer_of o) (writer_of q) (held_of o ++ x) l) (sym none) (record {
      gone = held_of o ++ x;
      whole = sym (append-nil (held_of o ++ x));
      sends = Sends-ok (Sends-last put.took refl sent);
    });
    fails = tt;
    empty = tt;
  }
  Puts-sent (Err f) o p q x put same none sent = record {
    same_reference = same ∙ put.same_reference;
    took = tt;
    fails = Sends-last put.took refl sent;
    empty = none;
  }

module _ {W : Type 0} (contents : W → Option (List ℕ)) (range : SourceRange) (gap : ℕ)
    (o p : Outlet W) (old mid : List Row) (x : Row) where
  -- the last row's line could not be put, which the next row didn't join
  pub put_fails : (fault : FoldFault) (joined : Bool) → joined ≡ false
      → JoinsOrNot joined gap old x mid → FailsPut contents fault o p (rows_of_sources range mid)
      → FailsTaking contents range gap fault o p old x
  put_fails fault true e joins fails = absurd (cc)
  put_fails fault false e joins fails =
      subst (λ (f : FoldFault). FailsTaking contents range gap f o p old x) (sym fails.0)
      (subst (λ (l : List Row). Puts {E = FoldFault} contents (Err Write) o p
      (lines_of_rows (rows_of_sources range l))) joins.0 fails.1)

  -- the next row joined it
  pub takes_joined : (joined : Bool) → joined ≡ true → JoinsOrNot joined gap old x mid
      → Takes contents range false gap o o old x mid
  takes_joined true e joins = record {
    closed = false;
    takes = inl joins;
    puts = HasPut-none o;
    is_there = refl;
  }
  takes_joined false e joins = absurd (cc)

  -- no row joined it, and its line was put
  module _ (joined : Bool) (far : joined ≡ false) (joins : JoinsOrNot joined gap old x mid)
      (put : HasPut contents o p (rows_of_sources range mid)) where
    stays : JoinsOrNot false gap old x mid
    stays = subst (λ (b : Bool). JoinsOrNot b gap old x mid) far joins

    put_old : HasPut contents o p (rows_of_sources range old)
    put_old = subst (λ (l : List Row). HasPut contents o p (rows_of_sources range l)) stays.0 put

    put_none : old ≡ [] → HasPut contents o p []
    put_none none =
        subst (λ (l : List Row). HasPut contents o p (rows_of_sources range l)) none put_old

    pub takes_closed : (wrote : Bool) → IsThere wrote (rows_of_sources range mid)
        → (new : List Row) → new ≡ x ∷ [] → Takes contents range wrote gap o p old x new
    takes_closed wrote there new is =
        let there_old = subst (λ (l : List Row). IsThere wrote (rows_of_sources range l)) stays.0
        there in
        elim stays.1 [
          | inl none ↦ record {
            closed = false;
            takes = inr (none, is);
            puts = put_none none;
            is_there = subst (λ (l : List Row). IsThere wrote (rows_of_sources range l)) none
                there_old;
          }
          | inr own ↦ record {
            closed = true;
            takes = (own.0, own.1, own.2, is);
            puts = put_old;
            is_there = there_old;
          }
        ]

-- the row is within the range, or not
pub one_within : (range : SourceRange) (x : Row) (last : List Row) → last ≡ x ∷ []
    → is_row_within range x ≡ true → rows_of_sources range last ≡ x ∷ []
one_within range x last is within = ap (rows_of_sources range) is
    ∙ ap (λ b. cond b (x ∷ []) []) within

pub one_without : (range : SourceRange) (x : Row) (last : List Row) → last ≡ x ∷ []
    → is_row_within range x ≡ false → rows_of_sources range last ≡ []
one_without range x last is without = ap (rows_of_sources range) is
    ∙ ap (λ b. cond b (x ∷ []) []) without
