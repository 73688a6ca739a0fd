-- Lemmas on what was got of an input.
use Rattle.aprs_bookfile.proofs.Common.{◌≡◌, ℕ, ◌+◌, ◌-◌, ◌≤◌, List, [], ◌++◌, length, drop, Option, None, Some, IfSome, Result, Err, inl, inr, refl, sym, ap, ◌∙◌, subst, append_assoc, append-nil, length-append, arith, drop-append-add, Calls, Going, Counted, EndsIfKnown, EndsSo, Gets, last_of_ending, InputEnd, BookValue}
use Rattle.std.specs.Io.KnownBytes.{Consumes}
use Rattle.std.proofs.KnownBytes.{Consumes-nil, Consumes-trans}
use Rattle.aprs_io.specs.declared.input.InputEnd.TheVariants as ending
use Rattle.aprs_bookfile.specs.Asking.{Takes, TakesAt, TakesAtMost}
use Rattle.aprs_bookfile.specs.TextFault.{most_ahead}
use Rattle.aprs_bookfile.specs.BookAnswers.{ReadsBook, IsAnswerFor}
use Rattle.aprs_bookfile.specs.Fault.{ending_cause}
use Rattle.aprs_bookfile.specs.Reader.{AgreesWithEnding, IsFault, IsOfText}
use Rattle.aprs_bookfile.specs.Reading.{Got, IsAnswered}
use Rattle.aprs_bookfile.specs.declared.fault.BookFault.{BookFault}
use Rattle.aprs_bookfile.proofs.Asking.{Asks-end, Asks-fault, Takes-end, Takes-fault}
use Rattle.aprs_bookfile.proofs.SameFaults.{first_is, memory_is}

pub Got-none : (P : List ℕ → Type 0) (head : List ℕ) (old : Option (List ℕ)) (limit left : ℕ)
    → P head → length head + left ≡ limit → Got P head old old limit left
Got-none P head old limit left p size = record {
  got = [];
  stands = subst P (sym (append-nil head)) p;
  took = Consumes-nil old;
  size = ap (λ l. length l + left) (append-nil head) ∙ size;
}

pub Got-weaker : (P Q : List ℕ → Type 0) (head : List ℕ) (old now : Option (List ℕ))
    (limit left : ℕ) → ((t : List ℕ) → P t → Q t) → Got P head old now limit left
    → Got Q head old now limit left
Got-weaker P Q head old now limit left step p =
    record { got = p.got; stands = step (head ++ p.got) p.stands; took = p.took; size = p.size }

module _ (P : List ℕ → Type 0) (head : List ℕ) (old now : Option (List ℕ)) (limit left : ℕ)
    (p : Got P head old now limit left) where
  -- one piece more
  pub Got-more : (Q : List ℕ → Type 0) (next : Option (List ℕ)) (piece : List ℕ) (less : ℕ)
      → ((t : List ℕ) → P t → Q (t ++ piece)) → Consumes now next piece
      → less + length piece ≡ left → Got Q head old next limit less
  Got-more Q next piece less step took e = record {
    got = p.got ++ piece;
    stands = subst Q (append_assoc head p.got piece) (step (head ++ p.got) p.stands);
    took = Consumes-trans old now next p.got piece p.took took;
    size = let len : length (head ++ (p.got ++ piece)) ≡ length (head ++ p.got) + length piece =
        ap length (sym (append_assoc head p.got piece))
        ∙ length-append (head ++ p.got) piece in omega (arith, len, p.size, e);
  }

  ends_so : (e : InputEnd) (rest : List ℕ) (after : Option (List ℕ)) → EndsSo e left [] rest after
      → EndsSo e limit (head ++ p.got) rest after
  ends_so ending.End rest after h = (h.0, omega (arith, p.size))
  ends_so ending.Read rest after h = (h.0, omega (arith, p.size))
  ends_so ending.TooLong rest after h = (h.0, omega (arith, p.size, h.1), h.2)

  -- nothing more is got, since the input ends so
  pub Gets-here : (e : InputEnd) (after : Option (List ℕ))
      → IfSome now (λ rest. Gets left rest after [] e)
      → IfSome old (λ input. Gets limit (head ++ input) after (head ++ p.got) e)
  Gets-here e after h = here old now p.took h where
    here : (old now : Option (List ℕ)) → Consumes old now p.got
        → IfSome now (λ rest. Gets left rest after [] e)
        → IfSome old (λ input. Gets limit (head ++ input) after (head ++ p.got) e)
    here None now took h = tt
    here (Some input) None took h = absurd took
    here (Some input) (Some y) took h = record {
      rest = h.rest;
      whole = ap (λ l. head ++ l) (took ∙ ap (λ l. p.got ++ l) h.whole)
          ∙ sym (append_assoc head p.got h.rest);
      ends = ends_so e h.rest after h.ends;
    }

  -- what the reader has left may follow
  pub Gets-read : IfSome old (λ input. Gets limit (head ++ input) now (head ++ p.got) ending.Read)
  Gets-read = Gets-here ending.Read now (may now) where
    may : (now : Option (List ℕ)) → IfSome now (λ rest. Gets left rest now [] ending.Read)
    may None = tt
    may (Some y) = record { rest = y; whole = refl; ends = (refl, omega arith) }

  at_most : (input y rest : List ℕ) → input ≡ p.got ++ y → length y ≤ length rest
      → length input ≤ limit - length head + length rest
  at_most input y rest took few = omega (
    arith,
    p.size,
    length-append head p.got,
    ap length took,
    length-append p.got y,
    few,
  )

  -- what was got is all that was taken
  pub takes_got : IfSome old (λ input. TakesAtMost (limit - length head) input now)
  takes_got = takes old now p.took where
    takes : (old now : Option (List ℕ)) → Consumes old now p.got
        → IfSome old (λ input. TakesAtMost (limit - length head) input now)
    takes None now took = tt
    takes (Some input) None took = tt
    takes (Some input) (Some y) took = at_most input y y took (omega arith)

  taken : (e : InputEnd) (input y : List ℕ) (after : Option (List ℕ)) → input ≡ p.got ++ y
      → Gets left y after [] e → TakesAt (ending_cause e) (limit - length head) input after
  taken ending.End input y None took gets = tt
  taken ending.End input y (Some rest) took gets =
      let none = ap length (gets.whole ∙ gets.ends.0) in
      at_most input y rest took (omega (arith, none))
  taken ending.Read input y after took gets =
      subst (TakesAtMost (limit - length head) input) (sym gets.ends.0)
      (let all = ap length gets.whole in
      at_most input y gets.rest took (omega (arith, all)))
  taken ending.TooLong input y after took gets =
      let size : limit - length head ≡ length p.got =
      omega (arith, p.size, gets.ends.1, length-append head p.got) in
      gets.ends.2 ∙ ap (λ l. Some (drop 1 l)) (sym gets.whole)
      ∙ ap Some (sym (ap (λ n. drop (n + 1) input) size
      ∙ ap (drop (length p.got + 1)) took ∙ drop-append-add p.got y 1))

  -- the input ends so, and the answer says it
  pub Takes-here : (e : InputEnd) (after : Option (List ℕ)) (r : Result BookValue BookFault)
      → AgreesWithEnding e r → IfSome now (λ rest. Gets left rest after [] e)
      → IfSome old (λ input. Takes r (limit - length head) input after)
  Takes-here e after r is gets = here old now p.took gets where
    here : (old now : Option (List ℕ)) → Consumes old now p.got
        → IfSome now (λ rest. Gets left rest after [] e)
        → IfSome old (λ input. Takes r (limit - length head) input after)
    here None now took gets = tt
    here (Some input) None took gets = absurd took
    here (Some input) (Some y) took gets =
        Takes-end (limit - length head) input after e r is (taken e input y after took gets)

-- what was got is read so
pub ReadsBook-got : (old after : Option (List ℕ)) (limit : ℕ) (head got : List ℕ) (e : InputEnd)
    (r : Result BookValue BookFault) → IfSome old
    (λ input. Gets limit (head ++ input) after (head ++ got) e)
    → IsAnswerFor r (head ++ got) e → IfSome old (λ input. ReadsBook limit head input after r)
ReadsBook-got None after limit head got e r gets reads = tt
ReadsBook-got (Some input) after limit head got e r gets reads =
    record { got = got; ending = e; gets = gets; reads = reads }

pub fault_reads : (f : BookFault) (t : List ℕ) (e : InputEnd) → IsFault most_ahead f t
    → IsAnswerFor (Err f) t e
fault_reads f t e h = elim h [
  | inl m ↦ memory_is t e f m
  | inr first ↦ first_is t e f (first e)
]

-- a fault in what was got
pub ReadsBook-fault : (f : BookFault) (head : List ℕ) (old now : Option (List ℕ)) (limit left : ℕ)
    → Got (IsFault most_ahead f) head old now limit left
    → IfSome old (λ input. ReadsBook limit head input now (Err f))
ReadsBook-fault f head old now limit left p =
    ReadsBook-got old now limit head p.got ending.Read (Err f)
    (Gets-read (IsFault most_ahead f) head old now limit left p)
    (fault_reads f (head ++ p.got) ending.Read p.stands)

-- ---- what is answered

module _ {R : Type 0} (remaining : R → Option (List ℕ)) (limit : ℕ) (head : List ℕ)
    (a b : Counted R) (left : ℕ) (calls : Calls Going a b) where
  -- a fault in what was got
  pub IsAnswered-fault : (f : BookFault) → IsOfText f.cause
      → Got (IsFault most_ahead f) head (remaining a.device) (remaining b.device) limit left
      → IsAnswered remaining limit head (Err f) a b
  IsAnswered-fault f of p = record {
    reads = ReadsBook-fault f head _ _ limit left p;
    calls = Asks-fault calls f of;
    over = Takes-fault _ _ _ f of (takes_got _ head _ _ limit left p);
  }

  -- the input ends
  pub IsAnswered-end : (P : List ℕ → Type 0) (c : Counted R) (way : InputEnd)
      (r : Result BookValue BookFault)
      → Got P head (remaining a.device) (remaining b.device) limit left → AgreesWithEnding way r
      → EndsIfKnown way left (remaining b.device) (remaining c.device)
      → Calls (last_of_ending way) b c → ((t : List ℕ) → P t → IsAnswerFor r t way)
      → IsAnswered remaining limit head r a c
  IsAnswered-end P c way r p is end last reads = record {
    reads = ReadsBook-got _ _ limit head p.got way r
        (Gets-here P head _ _ limit left p way _ end) (reads _ p.stands);
    calls = Asks-end calls way r is last;
    over = Takes-here P head _ _ limit left p way _ r is end;
  }
