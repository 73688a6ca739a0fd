use Rattle.std.proofs.Common.{◌+◌, ◌∙◌, ap, sym, arith, Some}
use Rattle.std.proofs.lemmas.Option.{slice_get_past}
use Rattle.aprs_ax25.specs.FrameFault.{has_callsign, parts_of, address_of}
use Rattle.aprs_ax25.proofs.Sounds.{frame_fault-IsSound, within-digipeaters, callsign-at, digipeater-at, room-at}
use Rattle.aprs_ax25.proofs.frame_ref.FrameRef.hop_octets.Goals as goal

pub seven_at-requires : goal.seven_at-requires
seven_at-requires c =
    let f = c.args.self.now in
    let many = within-digipeaters f.bytes.now _ _ f.sound c.hops.ensures.value
    c.if-i-hops.true in
    let room = room-at f.bytes.now (frame_fault-IsSound f.bytes.now f.sound) (c.args.i + 2) many in
    omega arith

pub returns-then-i-hops : goal.returns-then-i-hops
returns-then-i-hops c =
    let f = c.args.self.now in
    let s = frame_fault-IsSound f.bytes.now f.sound in
    let many = within-digipeaters f.bytes.now _ _ f.sound c.hops.ensures.value
    c.if-i-hops.true in
    record {
      address = digipeater-at f.bytes.now s c.args.i many
          ∙ ap (λ l. Some (address_of l)) (sym c.seven_at.ensures.value);
      seven = c.seven_at.ensures.seven;
      callsign = ap has_callsign c.seven_at.ensures.value
          ∙ callsign-at f.bytes.now s (c.args.i + 2) many;
      none = tt;
    }

pub returns-else-i-hops-clause-none : goal.returns-else-i-hops-clause-none
returns-else-i-hops-clause-none c =
    slice_get_past (parts_of c.args.self.now.bytes.now).digipeaters c.args.i
    (omega (arith, c.hops.ensures.value, c.if-i-hops.false))
