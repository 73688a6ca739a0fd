-- Lemmas on what was asked of the readers of inputs.
use Rattle.aprs_runs.proofs.Common.{◌⊎◌, ◌≡◌, ℕ, zero, suc, List, [], ◌∷◌, length, drop, Some, Result, Ok, Err, inl, inr, slice_get, set, refl, sym, ap, subst, Calls, Going, Counted, Calls-then, MergeFault}
use Rattle.aprs_io.specs.Device.{End}
use Rattle.aprs_transmissions.specs.declared.merge_fault.MergeFault.TheVariants as merge
use Rattle.aprs_bookfile.specs.Asking.{AsksAt}
use Rattle.aprs_bookfile.specs.declared.fault.BookCause.{BookCause}
use Rattle.aprs_bookfile.specs.declared.fault.BookCause.TheVariants as why
use Rattle.aprs_runs.specs.Devices.{AsksEach, AsksInput, AsksRows, AsksToFault}
use Rattle.aprs_runs.specs.Refused.{fault_of_merge}
use Rattle.aprs_runs.specs.declared.fault.InputFault.{InputFault}
use Rattle.aprs_runs.specs.declared.fault.InputFault.TheVariants.{Book, Memory}
use Rattle.aprs_runs.specs.declared.fault.RunFault.TheVariants.{Input}

-- ---- one reader

module _ {R : Type 0} (a b c : Counted R) (first : Calls Going a b) where
  then_either : Calls Going b c ⊎ Calls End b c → Calls Going a c ⊎ Calls End a c
  then_either h = elim h [
    | inl going ↦ inl (Calls-then first going)
    | inr end ↦ inr (Calls-then first end)
  ]

  AsksAt-then : (cause : BookCause) → AsksAt cause b c → AsksAt cause a c
  AsksAt-then why.Ending h = then_either h
  AsksAt-then why.Read h = Calls-then first h
  AsksAt-then cause h = Calls-then first h

  AsksToFault-then : (fault : InputFault) → AsksToFault fault b c → AsksToFault fault a c
  AsksToFault-then (Book fault) h = AsksAt-then fault.cause h
  AsksToFault-then fault h = Calls-then first h

  -- its first bytes, and then the others
  pub AsksRows-then : {A : Type 0} (r : Result A InputFault) → AsksRows r b c → AsksRows r a c
  AsksRows-then (Ok value) h = Calls-then first h
  AsksRows-then (Err fault) h = AsksToFault-then fault h

  pub AsksInput-then : {A : Type 0} (r : Result A InputFault) → AsksInput r b c → AsksInput r a c
  AsksInput-then r h = elim h [
    | inl rows ↦ inl (AsksRows-then r rows)
    | inr whole ↦ inr (whole.0, Calls-then first whole.1)
  ]

-- an input that was read to its end gives a book
pub AsksInput-ends : {A R : Type 0} {a b : Counted R} (value : A) → AsksInput (Ok value) a b
    → Calls End a b
AsksInput-ends value h = elim h [
  | inl rows ↦ rows
  | inr whole ↦ (let e = whole.0 in absurd cc)
]

-- whether it isn't taken says nothing of the value that it would give
pub AsksInput-err : {A B R : Type 0} {a b : Counted R} (fault : InputFault)
    → AsksInput {A = A} (Err fault) a b → AsksInput {A = B} (Err fault) a b
AsksInput-err fault h = elim h [
  | inl rows ↦ inl rows
  | inr whole ↦ (
      let e = whole.0 in
      let same : fault ≡ Memory = cc in
      inr (ap Err same, whole.1)
      )
]

-- an input that was read to its end isn't merged
pub asks_merge : {A R : Type 0} {a b : Counted R} (fault : MergeFault) → Calls End a b
    → AsksInput {A = A} (Err (fault_of_merge fault)) a b
asks_merge merge.OtherGap h = inl h
asks_merge merge.Memory h = inr (refl, h)

-- ---- readers one after another

-- The first `n` inputs were read to their ends, and no other was asked.
abbrev pub ReadsFirst : {R : Type 0} → ℕ → List (Counted R) → List (Counted R) → Type 0
ReadsFirst zero old new = new ≡ old
ReadsFirst (suc n) (r ∷ old) (s ∷ new) = Calls End r s × ReadsFirst n old new
ReadsFirst (suc n) old new = ⊥

module _ {R : Type 0} where
  -- all were
  pub ReadsFirst-all : (old now : List (Counted R)) → ReadsFirst (length old) old now
      → AsksEach (Ok tt) old now
  ReadsFirst-all [] [] h = tt
  ReadsFirst-all [] (s ∷ now) h = absurd cc
  ReadsFirst-all (r ∷ old) [] h = absurd h
  ReadsFirst-all (r ∷ old) (s ∷ now) h = (h.0, ReadsFirst-all old now h.1)

  -- the next one wasn't asked yet
  pub ReadsFirst-next : (n : ℕ) (old now : List (Counted R)) → ReadsFirst n old now
      → slice_get old n ≡ slice_get now n
  ReadsFirst-next zero old now h = ap (λ l. slice_get l zero) (sym h)
  ReadsFirst-next (suc n) (r ∷ old) (s ∷ now) h = ReadsFirst-next n old now h.1
  ReadsFirst-next (suc n) [] now h = absurd h
  ReadsFirst-next (suc n) (r ∷ old) [] h = absurd h

  -- nor was any after it
  pub ReadsFirst-rest : (n : ℕ) (old now : List (Counted R)) → ReadsFirst n old now
      → drop (suc n) now ≡ drop (suc n) old
  ReadsFirst-rest zero old now h = ap (drop (suc zero)) h
  ReadsFirst-rest (suc n) (r ∷ old) (s ∷ now) h = ReadsFirst-rest n old now h.1
  ReadsFirst-rest (suc n) [] now h = absurd h
  ReadsFirst-rest (suc n) (r ∷ old) [] h = absurd h

  module _ (x y : Counted R) where
    -- it is read to its end
    pub ReadsFirst-more : (n : ℕ) (old now : List (Counted R)) → ReadsFirst n old now
        → slice_get now n ≡ Some x → Calls End x y → ReadsFirst (suc n) old (set now n y)
    ReadsFirst-more zero old [] h is calls = absurd cc
    ReadsFirst-more zero [] (s ∷ now) h is calls = absurd cc
    ReadsFirst-more zero (r ∷ old) (s ∷ now) h is calls =
        let same : x ≡ r = cc in (subst (λ z. Calls End z y) same calls, cc)
    ReadsFirst-more (suc n) (r ∷ old) (s ∷ now) h is calls =
        (h.0, ReadsFirst-more n old now h.1 is calls)
    ReadsFirst-more (suc n) [] now h is calls = absurd h
    ReadsFirst-more (suc n) (r ∷ old) [] h is calls = absurd h

    -- or to its fault
    pub AsksEach-next : (fault : InputFault) (n : ℕ) (old now : List (Counted R))
        → ReadsFirst n old now → slice_get now n ≡ Some x → AsksToFault fault x y
        → AsksEach (Err (Input n fault)) old (set now n y)
    AsksEach-next fault zero old [] h is asks = absurd cc
    AsksEach-next fault zero [] (s ∷ now) h is asks = absurd cc
    AsksEach-next fault zero (r ∷ old) (s ∷ now) h is asks =
        let same : x ≡ r = cc in (subst (λ z. AsksToFault fault z y) same asks, cc)
    AsksEach-next fault (suc n) (r ∷ old) (s ∷ now) h is asks =
        (h.0, AsksEach-next fault n old now h.1 is asks)
    AsksEach-next fault (suc n) [] now h is asks = absurd h
    AsksEach-next fault (suc n) (r ∷ old) [] h is asks = absurd h
