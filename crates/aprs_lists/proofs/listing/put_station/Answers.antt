use Rattle.std.specs.Fmt.{decimal}
use Rattle.aprs_lists.proofs.Common.{[], ◌∷◌, ap, codes, Call, call_text, Puts-fails, Puts-is, Puts-then}
use Rattle.aprs_lists.specs.Listing.{station_line}
use Rattle.aprs_table.specs.SpacedLine.{spaced_line}
use Rattle.aprs_lists.proofs.listing.put_station.Goals as goal

pub returns-in_err-put_spaced_line : goal.returns-in_err-put_spaced_line
returns-in_err-put_spaced_line g c =
    let same = ap (λ (call : Call). spaced_line (codes "station")
    (call_text call ∷ decimal c.args.station.now.transmissions ∷ [])) c.copy.ensures in
    Puts-fails {x = station_line c.args.station.now} c.from_residual.result
    c.from_residual.ensures.0 (Puts-is c.in_err-put_spaced_line.ensures same) _

pub returns-in_err-put_known : goal.returns-in_err-put_known
returns-in_err-put_known g c =
    let same = ap (λ (call : Call). spaced_line (codes "station")
    (call_text call ∷ decimal c.args.station.now.transmissions ∷ [])) c.copy.ensures in
    Puts-then {x = station_line c.args.station.now} (Puts-is c.in_ok-put_spaced_line.ensures same)
    (Puts-fails c.from_residual-in_err-put_known.result
    c.from_residual-in_err-put_known.ensures.0 c.in_err-put_known.ensures _)

pub returns : goal.returns
returns g c =
    let same = ap (λ (call : Call). spaced_line (codes "station")
    (call_text call ∷ decimal c.args.station.now.transmissions ∷ [])) c.copy.ensures in
    Puts-then {x = station_line c.args.station.now} (Puts-is c.in_ok-put_spaced_line.ensures same)
    (Puts-then c.in_ok-put_known.ensures c.put_known-2.ensures)
