use Rattle.aprs_log.proofs.Common.{◌-◌, length}
use Rattle.aprs_log.specs.Window.{items}
use Rattle.aprs_log.specs.declared.reader.ending.State.TheVariants.{Reading}
use Rattle.aprs_log.proofs.Awaiting.{from_start, something}
use Rattle.aprs_log.proofs.reader.LogReader.new.Goals as goal

pub returns-clause-whole : goal.returns-clause-whole
returns-clause-whole g c end a w =
    from_start _ end c.args.limit c.args.head.now _ a c.requires.within
    c.new.ensures w

pub returns-clause-awaits : goal.returns-clause-awaits
returns-clause-awaits g c = something Reading _ (c.args.limit - length c.args.head.now) 0
    (items c.new.result)
