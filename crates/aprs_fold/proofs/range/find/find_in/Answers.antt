use Rattle.std.proofs.Common.{◌≡◌, ◌<◌, ◌^◌, ◌∙◌, length, sym, arith}
use Rattle.aprs_bookfile.specs.Version.{header_of}
use Rattle.aprs_fold.proofs.Stretches.{has_stretch}
use Rattle.aprs_fold.proofs.range.find.find_in.Goals as goal

pub returns-clause-finds : goal.returns-clause-finds
returns-clause-finds g c bytes known size =
    let header : c.read_line.new.line.items ≡ header_of c.in_ok-version.version =
    sym c.as_slice.ensures.value ∙ c.in_ok-version.ensures.some.1 in
    let few : length bytes < 2 ^ 64 = omega (arith, size, c.ranges.size.fits) in
    let read = c.last_line.ensures.stays ∙ known in
    let first = c.read_line.ensures.stays ∙ read in
    has_stretch c.args.range.now bytes
    (record {
      version = c.in_ok-version.version;
      from = c.in_ok-from.from;
      until = c.in_ok-until.until;
    })
    c.read_line.new.line.items c.in_ok-start.start (c.in_ok-start.ensures.reads bytes read)
    header few (c.in_ok-from.ensures.finds bytes first)
    (c.in_ok-until.ensures.finds bytes (c.find_first.ensures.stays ∙ first))
