use Rattle.aprs_bookfile.proofs.Common.{◌≡◌, ◌∙◌, ◌*◌, None, Option, Some, arith, take, length, ap, IfNone, lower_digits, length-encode_with}
use Rattle.aprs_bookfile.proofs.Digits.{length-spelled}
use Rattle.aprs_bookfile.proofs.hexadecimal.decode_frame.Goals as goal

pub returns-then-digits-gt-MAX_DIGITS-clause-none :
    goal.returns-then-digits-gt-MAX_DIGITS-clause-none
returns-then-digits-gt-MAX_DIGITS-clause-none c =
    λ bytes h. omega (
      arith,
      length-spelled c.args.digits.now bytes h,
      h.few,
      c.if-digits-gt-MAX_DIGITS.true,
    )

pub returns-in_default-clause-none : goal.returns-in_default-clause-none
returns-in_default-clause-none c =
    λ bytes h. c.in_default.ensures.bytes bytes h.bytes_are h.digits_are

none_weaker : {A : Type 0} (r : Option A) (P Q : Type 0) → (P → Q) → IfNone r P → IfNone r Q
none_weaker None P Q f h = f h
none_weaker (Some x) P Q f h = tt

pub returns-clause-none : goal.returns-clause-none
returns-clause-none c = none_weaker c.nonempty.result _ _ (λ none bytes h.
    let read = take c.in-Some.count c.decode_lower_into.new.room in
    let size : length c.args.digits.now ≡ 2 * length read
    = ap length c.in-Some.ensures.bytes.1 ∙ length-encode_with lower_digits read in
    omega (arith, ap length none, size, length-spelled c.args.digits.now bytes h, h.few))
    c.nonempty.ensures.none
