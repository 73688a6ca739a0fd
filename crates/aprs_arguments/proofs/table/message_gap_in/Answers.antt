use Rattle.aprs_arguments.proofs.Common.{◌≡◌, ◌∙◌, ◌^◌, ◌<◌, ℕ, Bool, true, false, List, None, Some, ap, refl, sym, arith, IsUnsignedIn}
use Rattle.std.proofs.Common.{if◌then◌else◌, leb, leb-true}
use Rattle.std.proofs.lemmas.Bool.{le-leb}
use Rattle.std.specs.Str.Parse.{IsNumeral, digits_value, without_leading_plus}
use Rattle.clap.specs.ValueTests.{is_unsigned_in}
use Rattle.clap.specs.declared.builder.value_parser.ValueParser.TheVariants as vp
use Rattle.clap.proofs.ValueTestLemmas.{Accepts-accepts, accepts-Accepts}
use Rattle.aprs_arguments.specs.Arguments.{gap_unless_0, message_gap_of, read_message_gap}
use Rattle.aprs_arguments.proofs.table.message_gap_in.Goals as goal

read : (t : List ℕ) → IsUnsignedIn 0 3600 t → read_message_gap t
    ≡ Some (gap_unless_0 (digits_value 10 (without_leading_plus t)))
read t h = let is : is_unsigned_in 0 3600 t ≡ true =
    Accepts-accepts false (vp.Unsigned 0 3600) t h in rw is refl

not_read : (t : List ℕ) → (IsUnsignedIn 0 3600 t → ⊥) → read_message_gap t ≡ None
not_read t none = by (is_unsigned_in 0 3600 t) refl
  where
    by : (b : Bool) → is_unsigned_in 0 3600 t ≡ b → read_message_gap t ≡ None
    by true e = absurd (none (accepts-Accepts false (vp.Unsigned 0 3600) t e))
    by false e = rw e refl

-- the number of a text, as a message gap
of_number : (t : List ℕ) (n : ℕ) → IsNumeral 10 (without_leading_plus t)
    → digits_value 10 (without_leading_plus t) < 2 ^ 64
    → n ≡ digits_value 10 (without_leading_plus t) → message_gap_of n ≡ read_message_gap t
of_number t n is few e = by (leb n 3600) refl
  where
    by : (b : Bool) → leb n 3600 ≡ b
        → (if b then Some (gap_unless_0 n) else None) ≡ read_message_gap t
    by true q = ap (λ m. Some (gap_unless_0 m)) e
        ∙ sym (read t (is, few, omega arith, omega (arith, leb-true n 3600 q, e)))
    by false q = sym (not_read t (λ p.
        let c : true ≡ false = sym (le-leb n 3600 (omega (arith, p.3, e))) ∙ q in absurd (cc)))

pub returns-in-Ok : goal.returns-in-Ok
returns-in-Ok c =
    let read = c.in-Ok.ensures.value.0 in
    c.message_gap_of.ensures ∙ of_number c.args.text.now c.in-Ok.seconds read.0.0 read.0.1 read.1

pub returns-in-Err : goal.returns-in-Err
returns-in-Err c = sym (not_read c.args.text.now (λ p. c.in-Err.ensures.value.0 (p.0, p.1)))
