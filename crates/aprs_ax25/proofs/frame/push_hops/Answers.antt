use Rattle.std.proofs.Common.{◌≡◌, ◌+◌, ◌∙◌, ap, length, arith, cond, eq-eqb, ne_eqb}
use Rattle.std.proofs.lemmas.List.{length-append}
use Rattle.aprs_ax25.specs.Address.{address_octets}
use Rattle.aprs_ax25.specs.Making.{hop_address}
use Rattle.aprs_ax25.proofs.Addresses.{length-address_octets}
use Rattle.aprs_ax25.proofs.Making.{field-more, hops-more}
use Rattle.aprs_ax25.proofs.frame.push_hops.Goals as goal

pub loop-i-preserved : goal.loop-i-preserved
loop-i-preserved c =
    let octets = address_octets c.extension_bit.result (hop_address c.index-hops-i.result) in
    let out : length c.push.new.out.items ≡ length c.loop-i.out.items + length octets =
    ap length c.push.ensures.octets ∙ length-append c.loop-i.out.items octets in
    let seven : length octets ≡ 7 =
    length-address_octets c.extension_bit.result (hop_address c.index-hops-i.result)
    c.push.ensures.address in
    record {
      room = omega (arith, c.loop-i.invariant.room, out, seven);
      field = field-more _ _ c.args.hops.now c.loop-i.i c.extension_bit.result c.index-hops-i.result
          c.loop-i-test.true c.index-hops-i.is c.push.ensures.octets
          (λ e. c.extension_bit.ensures ∙ ap (λ b. cond b 1 0) (eq-eqb _ _ e))
          (λ e. c.extension_bit.ensures
          ∙ ap (λ b. cond b 1 0)
          (ne_eqb (c.loop-i.i + 1) (length c.args.hops.now) (λ n. omega arith)))
          ∙ c.loop-i.invariant.field;
      each = hops-more c.args.hops.now c.loop-i.i c.index-hops-i.result c.loop-i-test.true
          c.index-hops-i.is c.loop-i.invariant.each c.push.ensures.address;
    }
