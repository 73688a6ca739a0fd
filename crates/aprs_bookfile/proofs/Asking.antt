-- Lemmas on what is asked of the reader of a book's text.
use Rattle.aprs_bookfile.proofs.Common.{◌≡◌, ℕ, List, Option, None, Some, IfSome, IfErr, Result, Ok, Err, inl, inr, refl, sym, subst, Calls, Going, Fault, Rose, last_of_ending, Counted, InputEnd, Calls-then, BookValue}
use Rattle.aprs_io.specs.declared.input.InputEnd.TheVariants as how
use Rattle.aprs_bookfile.specs.Asking.{Asks, AsksAt, Takes, TakesAt, TakesAtMost}
use Rattle.aprs_bookfile.specs.Fault.{ending_cause}
use Rattle.aprs_bookfile.specs.Reader.{AgreesWithEnding, IsOfText}
use Rattle.aprs_bookfile.specs.declared.fault.BookCause.{BookCause}
use Rattle.aprs_bookfile.specs.declared.fault.BookCause.TheVariants as why
use Rattle.aprs_bookfile.specs.declared.fault.BookFault.{BookFault}

module _ {R : Type 0} {a b : Counted R} (calls : Calls Going a b) where
  asks_at : (cause : BookCause) → IsOfText cause → AsksAt cause a b
  asks_at why.Read of = absurd (of.0 refl)
  asks_at why.Ending of = inl calls
  asks_at cause of = calls

  -- a fault in the text
  pub Asks-fault : (f : BookFault) → IsOfText f.cause → Asks (Err f) a b
  Asks-fault f of = asks_at f.cause of

  module _ {c : Counted R} where
    ends_at : (way : InputEnd) → Calls (last_of_ending way) b c → AsksAt (ending_cause way) a c
    ends_at how.End last = inr (Calls-then calls last)
    ends_at how.Read last = Calls-then calls last
    ends_at how.TooLong last = Calls-then calls last

    -- the input ends
    pub Asks-end : (way : InputEnd) (r : Result BookValue BookFault) → AgreesWithEnding way r
        → Calls (last_of_ending way) b c → Asks r a c
    Asks-end way (Ok book) is last =
        Calls-then calls (subst (λ w. Calls (last_of_ending w) b c) is last)
    Asks-end way (Err f) is last = subst (λ cause. AsksAt cause a c) (sym is) (ends_at way last)

-- at a failed read the count of failed calls rose
pub Asks-rose : {R : Type 0} (a b : Counted R) (r : Result BookValue BookFault) → Asks r a b
    → IfErr r (λ f. f.cause ≡ why.Read → Rose a.failed b.failed)
Asks-rose a b (Ok book) asks = tt
Asks-rose a b (Err f) asks = λ e.
    let calls : Calls Fault a b = subst (λ cause. AsksAt cause a b) e asks in calls.fault

module _ (most : ℕ) (input : List ℕ) (after : Option (List ℕ)) where
  takes_at : (cause : BookCause) → IsOfText cause → TakesAtMost most input after
      → TakesAt cause most input after
  takes_at why.TooLong of takes = absurd (of.1 refl)
  takes_at cause of takes = takes

  -- the input ends so
  pub Takes-end : (way : InputEnd) (r : Result BookValue BookFault) → AgreesWithEnding way r
      → TakesAt (ending_cause way) most input after → Takes r most input after
  Takes-end way (Ok book) is takes =
      subst (λ w. TakesAt (ending_cause w) most input after) is takes
  Takes-end way (Err f) is takes = subst (λ cause. TakesAt cause most input after) (sym is) takes

-- a fault in the text
pub Takes-fault : (most : ℕ) (known after : Option (List ℕ)) (f : BookFault) → IsOfText f.cause
    → IfSome known (λ input. TakesAtMost most input after)
    → IfSome known (λ input. Takes (Err f) most input after)
Takes-fault most None after f of takes = tt
Takes-fault most (Some input) after f of takes = takes_at most input after f.cause of takes
