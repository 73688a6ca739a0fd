-- A run over several inputs that are known, with an output that is empty at first.
use Rattle.aprs_web.proofs.Common.{◌≡◌, ℕ, List, [], ◌++◌, Option, None, Some, Ok, Err, map, subst, sym, ap, ◌∙◌, most_input, Counted, InputEnd, OfGot, IsTextOfBook, Input, Write, Memory}
use Rattle.std.specs.Io.KnownBytes.{Appends}
use Rattle.aprs_log.specs.Reception.{Received}
use Rattle.aprs_runs.specs.Widen.{GivesSetWithin, IsNotWidened}
use Rattle.aprs_runs.specs.Outcome.{IsToldOf, RefusesFor, WritesFor}
use Rattle.aprs_runs.specs.Several.{GiveUnion, IsFirstRefused, OfEach}
use Rattle.aprs_runs.specs.declared.fault.InputFault.{InputFault}
use Rattle.aprs_web.specs.Answer.{Outcome}
use Rattle.aprs_web.specs.Runs.{GathersTo, Gives, Widens}

-- the bytes, where they are known
abbrev bytes_in : Option (List ℕ) → List ℕ
bytes_in None = []
bytes_in (Some bytes) = bytes

module _ {W : Type 0} (contents : W → Option (List ℕ)) (w x : Counted W) (text : List ℕ)
    (empty : contents w.device ≡ Some []) (is : contents x.device ≡ Some text) where
  appended : (bytes : List ℕ) → Appends (contents w.device) (contents x.device) bytes → text ≡ bytes
  appended bytes h =
      subst (λ (k : Option (List ℕ) × Option (List ℕ)). Appends k.0 k.1 bytes)
      (λ i. (empty i, is i)) h

  unwritten : x ≡ w → text ≡ []
  unwritten same = ap bytes_in (sym is ∙ ap (λ (d : Counted W). contents d.device) same ∙ empty)

  pub gives : (Stand : List Received → Type 0) (TellsOf : List Received → List ℕ → Type 0)
      (Refused : ℕ → InputFault → Type 0) (outcome : Outcome)
      → WritesFor (IsToldOf Stand TellsOf) contents outcome w x
      → RefusesFor Stand Refused outcome w x → Gives Stand TellsOf Refused outcome text
  gives Stand TellsOf Refused (Ok u) writes refuses =
      subst (IsToldOf Stand TellsOf) (sym (appended writes.0 writes.2)) writes.1
  gives Stand TellsOf Refused (Err (Input index fault)) writes refuses =
      (refuses.0, unwritten refuses.1)
  gives Stand TellsOf Refused (Err Write) writes refuses = (
    writes.2.0,
    subst (IsToldOf Stand TellsOf) (writes.2.1.1 ∙ ap (λ (xs : List ℕ). xs ++ writes.2.0)
        (sym (appended writes.2.1.0 writes.2.1.2))) writes.1,
  )
  gives Stand TellsOf Refused (Err Memory) writes refuses = (refuses.0, unwritten refuses.1)

  pub gathers : {R : Type 0} (remaining : R → Option (List ℕ)) (gap : ℕ)
      (TellsOf : List Received → List ℕ → Type 0) (old new : List (Counted R))
      (inputs : List (List ℕ)) (outcome : Outcome)
      → map (λ r. remaining r.device) old ≡ map (λ (input : List ℕ). Some input) inputs
      → OfEach most_input remaining old new (λ gots.
      WritesFor (IsToldOf (GiveUnion gap gots) TellsOf) contents outcome w x)
      → OfEach most_input remaining old new (λ gots.
      RefusesFor (GiveUnion gap gots) (IsFirstRefused gap gots) outcome w x)
      → GathersTo TellsOf gap inputs outcome text
  gathers remaining gap TellsOf old new inputs (Ok u) known writes refuses =
      let h = writes inputs known in
      (h.0, h.1, gives (GiveUnion gap h.0) TellsOf (IsFirstRefused gap h.0) (Ok u) h.3 tt)
  gathers remaining gap TellsOf old new inputs (Err (Input index fault)) known writes refuses =
      let h = refuses inputs known in
      (h.0, h.1, gives (GiveUnion gap h.0) TellsOf (IsFirstRefused gap h.0) (Err (Input index fault)) tt h.3)
  gathers remaining gap TellsOf old new inputs (Err Write) known writes refuses =
      let h = writes inputs known in
      (h.0, h.1, gives (GiveUnion gap h.0) TellsOf (IsFirstRefused gap h.0) (Err Write) h.3 tt)
  gathers remaining gap TellsOf old new inputs (Err Memory) known writes refuses =
      unwritten (refuses inputs known).3.1

  widens_known : {R : Type 0} (remaining : R → Option (List ℕ)) (gap : ℕ) (new : Counted R)
      (input : List ℕ) (outcome : Outcome)
      → OfGot most_input (Some input) (remaining new.device) (λ got ending.
      WritesFor (IsToldOf (GivesSetWithin gap got ending) (IsTextOfBook gap)) contents outcome w x)
      → OfGot most_input (Some input) (remaining new.device) (λ got ending.
      RefusesFor (GivesSetWithin gap got ending) (IsNotWidened gap got ending) outcome w x)
      → Widens gap input outcome text
  widens_known remaining gap new input (Ok u) writes refuses =
      let h = writes in (
        remaining new.device,
        (
          h.0,
          h.1,
          h.2,
          gives (GivesSetWithin gap h.0 h.1) (IsTextOfBook gap) (IsNotWidened gap h.0 h.1) (Ok u) h.3 tt,
        ),
      )
  widens_known remaining gap new input (Err (Input index fault)) writes refuses =
      let h = refuses in (
        remaining new.device,
        (
          h.0,
          h.1,
          h.2,
          gives (GivesSetWithin gap h.0 h.1) (IsTextOfBook gap) (IsNotWidened gap h.0 h.1) (Err (Input index fault)) tt h.3,
        ),
      )
  widens_known remaining gap new input (Err Write) writes refuses =
      let h = writes in (
        remaining new.device,
        (
          h.0,
          h.1,
          h.2,
          gives (GivesSetWithin gap h.0 h.1) (IsTextOfBook gap) (IsNotWidened gap h.0 h.1) (Err Write) h.3 tt,
        ),
      )
  widens_known remaining gap new input (Err Memory) writes refuses =
      let h = refuses in (
        remaining new.device,
        (
          h.0,
          h.1,
          h.2,
          gives (GivesSetWithin gap h.0 h.1) (IsTextOfBook gap) (IsNotWidened gap h.0 h.1) (Err Memory) tt h.3,
        ),
      )

  pub widens : {R : Type 0} (remaining : R → Option (List ℕ)) (gap : ℕ) (old new : Counted R)
      (input : List ℕ) (outcome : Outcome) → remaining old.device ≡ Some input
      → OfGot most_input (remaining old.device) (remaining new.device) (λ got ending.
      WritesFor (IsToldOf (GivesSetWithin gap got ending) (IsTextOfBook gap)) contents outcome w x)
      → OfGot most_input (remaining old.device) (remaining new.device) (λ got ending.
      RefusesFor (GivesSetWithin gap got ending) (IsNotWidened gap got ending) outcome w x)
      → Widens gap input outcome text
  widens remaining gap old new input outcome known writes refuses =
      let W : List ℕ → InputEnd → Type 0 = λ got ending. WritesFor (IsToldOf (GivesSetWithin gap got ending) (IsTextOfBook gap))
      contents outcome w x in
      let F : List ℕ → InputEnd → Type 0 = λ got ending. RefusesFor (GivesSetWithin gap got ending)
      (IsNotWidened gap got ending) outcome w x in
      widens_known remaining gap new input outcome
      (subst (λ (k : Option (List ℕ)). OfGot most_input k (remaining new.device) W) known writes)
      (subst (λ (k : Option (List ℕ)). OfGot most_input k (remaining new.device) F) known refuses)
