use Rattle.std.proofs.Common.{◌≡◌, ◌+◌, ◌*◌, ℕ, arith, sym, ◌∙◌, subst}
use Rattle.aprs_ax25.proofs.Plains.{ArePlain, ArePlain-more, plain-frame, ends-here, past-first, second-many, second-is}
use Rattle.aprs_ax25.proofs.plain.plain_field_len.Goals as goal

pub returns-then-is_plain_rest : goal.returns-then-is_plain_rest
returns-then-is_plain_rest c =
    let plain = c.is_plain_callsign.ensures c.if-is_plain_callsign.true in
    let odd = sym c.ends_field.ensures ∙ c.if-ends_field.true in
    let count : 14 * c.loop-pair.pair + 7 ≡ 7 * (2 * c.loop-pair.pair) + 7 = omega arith in (
      plain-frame _ _ _ _ _ c.loop-pair.invariant (omega (arith, c.if-rest-lt17.false))
          c.split_at.ensures.front c.split_at.ensures.back plain odd
          (omega (arith, c.if-pair-gt0.true)) (omega (arith, c.loop-pair-test.true))
          (c.is_plain_rest.ensures c.if-is_plain_rest.true),
      count ∙ ends-here _ _ _ _ _ c.loop-pair.invariant (omega (arith, c.if-rest-lt17.false))
          c.split_at.ensures.front c.split_at.ensures.back plain odd,
    )

pub returns-then-is_plain_rest-2 : goal.returns-then-is_plain_rest-2
returns-then-is_plain_rest-2 c =
    let plain = c.are_plain_callsigns.ensures.first c.if-not-are_plain_callsigns.false in
    let next = c.are_plain_callsigns.ensures.second c.if-not-are_plain_callsigns.false in
    let even = sym c.ends_field.ensures ∙ c.if-ends_field.false in
    let odd = sym c.ends_field-in-loop-pair.ensures ∙ c.if-ends_field-2.true in
    let held = past-first _ _ _ _ _ c.split_at-in-loop-pair.result.0.now
    c.split_at-in-loop-pair.result.1.now c.loop-pair.invariant c.if-rest-lt17.false
    c.split_at.ensures.front c.split_at.ensures.back c.split_at-in-loop-pair.ensures.front plain
    next even in
    let many = second-many _ _ _ _ _ c.split_at-in-loop-pair.result.0.now
    c.split_at-in-loop-pair.result.1.now c.loop-pair.invariant c.if-rest-lt17.false
    c.split_at.ensures.front c.split_at.ensures.back c.split_at-in-loop-pair.ensures.front plain
    next even in
    let is = second-is _ _ _ _ _ c.split_at-in-loop-pair.result.0.now
    c.split_at-in-loop-pair.result.1.now c.loop-pair.invariant c.if-rest-lt17.false
    c.split_at.ensures.front c.split_at.ensures.back c.split_at-in-loop-pair.ensures.front plain
    next even in
    let count : 14 * c.loop-pair.pair + 14 ≡ 7 * (2 * c.loop-pair.pair + 1) + 7 = omega arith in (
      plain-frame _ _ _ _ _ held many c.split_at-in-loop-pair.ensures.front
          c.split_at-in-loop-pair.ensures.back is odd
          (omega arith) (omega (arith, c.loop-pair-test.true))
          (c.is_plain_rest-then-ends_field-2.ensures c.if-is_plain_rest-2.true),
      count ∙ ends-here _ _ _ _ _ held many c.split_at-in-loop-pair.ensures.front
          c.split_at-in-loop-pair.ensures.back is odd,
    )

pub loop-pair-preserved : goal.loop-pair-preserved
loop-pair-preserved c =
    let plain = c.are_plain_callsigns.ensures.first c.if-not-are_plain_callsigns.false in
    let next = c.are_plain_callsigns.ensures.second c.if-not-are_plain_callsigns.false in
    let even = sym c.ends_field.ensures ∙ c.if-ends_field.false in
    let odd = sym c.ends_field-in-loop-pair.ensures ∙ c.if-ends_field-2.false in
    let held = past-first _ _ _ _ _ c.split_at-in-loop-pair.result.0.now
    c.split_at-in-loop-pair.result.1.now c.loop-pair.invariant c.if-rest-lt17.false
    c.split_at.ensures.front c.split_at.ensures.back c.split_at-in-loop-pair.ensures.front plain
    next even in
    let many = second-many _ _ _ _ _ c.split_at-in-loop-pair.result.0.now
    c.split_at-in-loop-pair.result.1.now c.loop-pair.invariant c.if-rest-lt17.false
    c.split_at.ensures.front c.split_at.ensures.back c.split_at-in-loop-pair.ensures.front plain
    next even in
    let is = second-is _ _ _ _ _ c.split_at-in-loop-pair.result.0.now
    c.split_at-in-loop-pair.result.1.now c.loop-pair.invariant c.if-rest-lt17.false
    c.split_at.ensures.front c.split_at.ensures.back c.split_at-in-loop-pair.ensures.front plain
    next even in
    let count : (2 * c.loop-pair.pair + 1) + 1 ≡ 2 * (c.loop-pair.pair + 1) = omega arith in
    subst (λ (n : ℕ). ArePlain n c.args.bytes.now c.split_at-in-loop-pair.result.1.now) count
    (ArePlain-more _ _ _ _ _ held many c.split_at-in-loop-pair.ensures.front
    c.split_at-in-loop-pair.ensures.back is odd)
