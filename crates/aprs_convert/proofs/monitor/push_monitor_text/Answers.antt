use Rattle.aprs_convert.proofs.Common.{◌∙◌, ◌++◌, ℕ, List, ap, codes, map, flat_map}
use Rattle.aprs_ax25.specs.Callsign.{call_text}
use Rattle.aprs_ax25.specs.FrameFault.{parts_of}
use Rattle.aprs_ax25.specs.FrameRef.{frame_bytes}
use Rattle.aprs_ax25.specs.Hop.{hop_of, hop_text}
use Rattle.aprs_io.specs.Shown.{shown_text}
use Rattle.aprs_convert.specs.Monitor.{monitor_text}
use Rattle.aprs_convert.proofs.Texts.{goes_on}
use Rattle.aprs_convert.proofs.monitor.push_monitor_text.Goals as goal

pub returns-clause-text : goal.returns-clause-text
returns-clause-text c =
    let p = parts_of (frame_bytes c.of-frame.result) in
    let out = c.args.out.now.items in
    let source = call_text p.source.call in
    let stations = source ++ codes ">" ++ call_text p.destination.call in
    let path = stations ++ flat_map hop_text (map hop_of p.digipeaters) in
    let arrow = goes_on out source (codes ">") c.push_source_text.ensures.text c.push.ensures.items in
    let to = goes_on out (source ++ codes ">") (call_text p.destination.call) arrow
    c.push_destination_text.ensures.text in
    let via = goes_on out stations (flat_map hop_text (map hop_of p.digipeaters)) to
    c.push_hops_text.ensures.text in
    let colon = goes_on out path (codes ":") via c.push-2.ensures.items in
    goes_on out (path ++ codes ":") (shown_text p.info) colon (c.push_shown.ensures.shown
    ∙ ap (λ (l : List ℕ). c.push-2.new.self.items ++ shown_text l) c.info.ensures.value)
    ∙ ap (λ (f : List ℕ). out ++ monitor_text (parts_of f)) c.of-frame.ensures
