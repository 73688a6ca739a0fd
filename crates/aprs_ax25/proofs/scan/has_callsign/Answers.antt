use Rattle.std.proofs.Common.{ap, ◌∙◌}
use Rattle.std.specs.List.{list_all}
use Rattle.aprs_ax25.specs.FrameFault.{is_space_octet}
use Rattle.aprs_ax25.proofs.Scans.{has_callsign_at}
use Rattle.aprs_ax25.proofs.scan.has_callsign.Goals as goal

pub returns-then-len-gt0 : goal.returns-then-len-gt0
returns-then-len-gt0 c =
    has_callsign_at c.args.octets.now c.characters_len-len.result _ c.characters_len-len.ensures.value
    c.if-len-gt0.true
    (c.are_spaces.ensures ∙ ap (list_all is_space_octet) c.split_at.ensures.back)
