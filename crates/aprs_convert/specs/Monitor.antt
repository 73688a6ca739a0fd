-- A frame as a monitor prints it.
use Rattle.std.specs.Prelude.{ℕ, List, ◌++◌, codes, map}
use Rattle.std.specs.List.{flat_map}
use Rattle.aprs_ax25.specs.Callsign.{call_text}
use Rattle.aprs_ax25.specs.Hop.{hop_of, hop_text}
use Rattle.aprs_ax25.specs.Frame.{Parts}
use Rattle.aprs_report.specs.Reading.{kind_of}
use Rattle.aprs_report.specs.Reader.{reading_of}
use Rattle.aprs_io.specs.Shown.{shown_text}

-- SOURCE>DESTINATION,DIGIPEATER*,..:INFORMATION. A star stands only after a digipeater that has
-- repeated the frame. In the information a backslash, and each byte outside 20 to 7E, is shown as a
-- backslash, x and two hexadecimal digits (`shown_text`).
abbrev pub monitor_text : Parts → List ℕ
monitor_text p = call_text p.source.call ++ codes ">" ++ call_text p.destination.call
    ++ flat_map hop_text (map hop_of p.digipeaters) ++ codes ":" ++ shown_text p.info

-- The kind of report that the information is, a space, and the frame as a monitor prints it.
abbrev pub kind_and_monitor_text : Parts → List ℕ
kind_and_monitor_text p = kind_of (reading_of p.info) ++ codes " " ++ monitor_text p
