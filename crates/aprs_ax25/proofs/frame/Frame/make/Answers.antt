use Rattle.aprs_ax25.proofs.Spellings.{FrameOf-parts_of}
use Rattle.aprs_ax25.proofs.frame.Frame.make.Goals as goal

pub returns-in-None-clause-parts : goal.returns-in-None-clause-parts
returns-in-None-clause-parts c = FrameOf-parts_of _ c.spell.result c.spell.ensures
