-- Which reports are equal.
use Rattle.std.proofs.Common.{◌≡◌, ◌↔◌, ◌&&◌, IsTrue, Bool, true, false, Option, Some, None}
use Rattle.std.proofs.Common.{List, ℕ, eqb, refl, rules}
use Rattle.std.specs.Borrow.{Bor}
use Rattle.std.specs.Option.{option_eq, option_map}
use lib.Pointwise.{pointwise}
use mathlib.Core.Bool.{beq}
use Rattle.std.specs.Cmp.Rules.{comparing}
use Rattle.aprs_report.specs.declared.stamp.Stamp.{Stamp}
use Rattle.aprs_report.specs.declared.symbol.Symbol.{Symbol}
use Rattle.aprs_report.specs.declared.place.Place.{Place}
use Rattle.aprs_report.specs.declared.place.Place.TheVariants.{Plain, Base91}
use Rattle.aprs_report.specs.declared.report.Report.{Report}
use Rattle.aprs_report.specs.declared.report.Report.TheVariants.{Position, Object, Item, Message}
use Rattle.aprs_report.specs.declared.report.Report.TheVariants.{Ack, Rej, Status, Raw}
use Rattle.aprs_report.specs.contracts.stamp.StampPartialEq.TheImpl as by_stamp
use Rattle.aprs_report.specs.contracts.symbol.SymbolPartialEq.TheImpl as by_symbol
use Rattle.aprs_report.specs.contracts.place.PlacePartialEq.TheImpl as by_place
use Rattle.aprs_report.specs.contracts.report.ReportPartialEq.TheImpl as by
use Rattle.aprs_report.specs.Reading.{view}

-- A comparison whose answer is no, of two values that differ.
unequal : {A : Type 0} {x y : A} → (x ≡ y → ⊥) → IsTrue false ↔ (x ≡ y)
unequal differ = (λ yes. cc, λ same. absurd (differ same))

-- Two comparisons, both of which hold.
both : {b c : Bool} {A B : Type 0} → IsTrue b ↔ A → IsTrue c ↔ B → IsTrue (b && c) ↔ (A × B)
both {b = true} {c = true} one other = (λ yes. (one.0 refl, other.0 refl), λ parts. refl)
both {b = true} {c = false} one other = (λ yes. cc, λ parts. other.1 parts.1)
both {b = false} one other = (λ yes. cc, λ parts. one.1 parts.0)

-- A comparison that holds where other values are equal.
instead : {b : Bool} {A B : Type 0} → IsTrue b ↔ A → (A → B) → (B → A) → IsTrue b ↔ B
instead one there back = (λ yes. there (one.0 yes), λ same. one.1 (back same))

-- Equality of flags.
flags : (a b : Bool) → IsTrue (beq a b) ↔ (a ≡ b)
flags a b = search (comparing, rules)

-- Equality of byte lists.
texts : (a b : List ℕ) → IsTrue (pointwise eqb a b) ↔ (a ≡ b)
texts a b = search (comparing, rules)

-- Equality of byte lists that may be left out, wherever they lie.
known_texts : (a b : Option (Bor (List ℕ)))
    → IsTrue (option_eq (λ x y. pointwise eqb x.now y.now) a b)
    ↔ (option_map (λ x. x.now) a ≡ option_map (λ x. x.now) b)
known_texts None None = (λ yes. refl, λ same. refl)
known_texts (Some a) (Some b) = instead (texts a.now b.now) (λ same. cc) (λ same. cc)
known_texts a b = unequal (λ same. cc)

-- The derived equality of stamps.
stamps : (a b : Stamp) → IsTrue ((by_stamp.ghosts).eq a b) ↔ (a ≡ b)
stamps a b = search (comparing, rules)

-- The same of stamps that may be left out.
known_stamps : (a b : Option Stamp) → IsTrue (option_eq (by_stamp.ghosts).eq a b) ↔ (a ≡ b)
known_stamps None None = (λ yes. refl, λ same. refl)
known_stamps (Some a) (Some b) = instead (stamps a b) (λ same. cc) (λ same. cc)
known_stamps a b = unequal (λ same. cc)

-- The derived equality of symbols.
symbols : (a b : Symbol) → IsTrue ((by_symbol.ghosts).eq a b) ↔ (a ≡ b)
symbols a b = search (comparing, rules)

-- The derived equality of places.
places : (a b : Place) → IsTrue ((by_place.ghosts).eq a b) ↔ (a ≡ b)
places (Plain a b c) (Plain u v w) = search (comparing, rules)
places (Base91 a b c) (Base91 u v w) = search (comparing, rules)
places a b = unequal (λ same. cc)

-- The derived equality decides whether two reports say the same.
pub equal_says_the_same : (a b : Report) → IsTrue ((by.ghosts).eq a b) ↔ (view a ≡ view b)
equal_says_the_same (Position a b c d e) (Position u v w x y) =
    let placed = both (places c w) (both (symbols d x) (texts e.now y.now)) in
    instead (both (flags a u) (both (known_stamps b v) placed)) (λ parts. cc)
    (λ same. (cc, (cc, (cc, (cc, cc)))))
equal_says_the_same (Object a b c d e f) (Object u v w x y z) =
    let placed = both (places d x) (both (symbols e y) (texts f.now z.now)) in
    instead (both (texts a.now u.now) (both (flags b v) (both (stamps c w) placed))) (λ parts. cc)
    (λ same. (cc, (cc, (cc, (cc, (cc, cc))))))
equal_says_the_same (Item a b c d e) (Item u v w x y) =
    let placed = both (places c w) (both (symbols d x) (texts e.now y.now)) in
    instead (both (texts a.now u.now) (both (flags b v) placed)) (λ parts. cc)
    (λ same. (cc, (cc, (cc, (cc, cc)))))
equal_says_the_same (Message a b c) (Message u v w) =
    instead (both (texts a.now u.now) (both (texts b.now v.now) (known_texts c w))) (λ parts. cc)
    (λ same. (cc, (cc, cc)))
equal_says_the_same (Ack a b) (Ack u v) =
    instead (both (texts a.now u.now) (texts b.now v.now)) (λ parts. cc) (λ same. (cc, cc))
equal_says_the_same (Rej a b) (Rej u v) =
    instead (both (texts a.now u.now) (texts b.now v.now)) (λ parts. cc) (λ same. (cc, cc))
equal_says_the_same (Status a b) (Status u v) =
    instead (both (known_stamps a u) (texts b.now v.now)) (λ parts. cc) (λ same. (cc, cc))
equal_says_the_same Raw Raw = search (comparing, rules)
equal_says_the_same a b = unequal (λ same. cc)
