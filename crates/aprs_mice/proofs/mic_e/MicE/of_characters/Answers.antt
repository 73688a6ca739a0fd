use Rattle.aprs_mice.proofs.Readings.{answers_found, answers_only}
use Rattle.aprs_mice.proofs.mic_e.MicE.of_characters.Goals as goal

pub returns-clause-found : goal.returns-clause-found
returns-clause-found c = answers_found c.mic_e_or_none.result c.args.characters.now c.args.info.now
    c.mic_e_or_none.ensures

pub returns-clause-only : goal.returns-clause-only
returns-clause-only c v h = answers_only c.mic_e_or_none.result c.args.characters.now c.args.info.now v
    c.mic_e_or_none.ensures h
