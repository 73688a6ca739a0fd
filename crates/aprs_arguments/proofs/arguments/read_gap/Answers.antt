use Rattle.aprs_arguments.proofs.Common.{◌≡◌, ◌^◌, ◌<◌, ℕ, Bool, true, false, List, Option, None, Some, refl, sym, arith, IsUnsignedIn}
use Rattle.std.specs.Option.{SomeIff}
use Rattle.std.specs.Str.Parse.{IsNumeral, digits_value, without_leading_plus}
use Rattle.clap.specs.ValueTests.{is_unsigned_in}
use Rattle.clap.specs.declared.builder.value_parser.ValueParser.TheVariants as vp
use Rattle.clap.proofs.ValueTestLemmas.{Accepts-accepts, accepts-Accepts}
use Rattle.aprs_transmissions.specs.Gap.{IsGap}
use Rattle.aprs_arguments.specs.Arguments.{read_gap}
use Rattle.aprs_arguments.proofs.arguments.read_gap.Goals as goal

read : (t : List ℕ) → IsUnsignedIn 1 3600 t → read_gap t
    ≡ Some (digits_value 10 (without_leading_plus t))
read t h = let is : is_unsigned_in 1 3600 t ≡ true =
    Accepts-accepts false (vp.Unsigned 1 3600) t h in rw is refl

not_read : (t : List ℕ) → (IsUnsignedIn 1 3600 t → ⊥) → read_gap t ≡ None
not_read t none = by (is_unsigned_in 1 3600 t) refl
  where
    by : (b : Bool) → is_unsigned_in 1 3600 t ≡ b → read_gap t ≡ None
    by true e = absurd (none (accepts-Accepts false (vp.Unsigned 1 3600) t e))
    by false e = rw e refl

-- the number of a text, as a gap
of_number : (t : List ℕ) (n : ℕ) (r : Option ℕ) → IsNumeral 10 (without_leading_plus t)
    → digits_value 10 (without_leading_plus t) < 2 ^ 64
    → n ≡ digits_value 10 (without_leading_plus t) → SomeIff r (IsGap n) n → r ≡ read_gap t
of_number t n (Some g) is few e h =
    rw (h.1, e) (sym (read t (is, few, omega (arith, h.0.0, e), omega (arith, h.0.1, e))))
of_number t n None is few e h = sym (not_read t
    (λ p. h (omega (arith, p.2, e), omega (arith, p.3, e))))

pub returns-in-Ok : goal.returns-in-Ok
returns-in-Ok c =
    let read = c.in-Ok.ensures.value.0 in
    of_number c.args.text.now c.in-Ok.seconds c.new.result read.0.0 read.0.1 read.1 c.new.ensures

pub returns-in-Err : goal.returns-in-Err
returns-in-Err c = sym (not_read c.args.text.now (λ p. c.in-Err.ensures.value.0 (p.0, p.1)))
