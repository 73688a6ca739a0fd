use Rattle.aprs_table.proofs.Common.{refl}
use Rattle.aprs_table.proofs.Steps.{line_of}
use Rattle.aprs_table.proofs.examples.places.places_at_0_have_a_sign.Goals as goal

pub returns-clause-equator : goal.returns-clause-equator
unfolding line_of
returns-clause-equator c = refl

pub returns-clause-other_halves : goal.returns-clause-other_halves
unfolding line_of
returns-clause-other_halves c = refl

pub returns-clause-next_to_it : goal.returns-clause-next_to_it
unfolding line_of
returns-clause-next_to_it c = refl

pub returns-clause-on_the_other_side : goal.returns-clause-on_the_other_side
unfolding line_of
returns-clause-on_the_other_side c = refl

pub returns-clause-compressed : goal.returns-clause-compressed
unfolding line_of
returns-clause-compressed c = refl

pub returns-clause-compressed_next : goal.returns-clause-compressed_next
unfolding line_of
returns-clause-compressed_next c = refl

pub returns-clause-compressed_other_side : goal.returns-clause-compressed_other_side
unfolding line_of
returns-clause-compressed_other_side c = refl

pub returns-clause-mic_e : goal.returns-clause-mic_e
unfolding line_of
returns-clause-mic_e c = refl

pub returns-clause-mic_e_next : goal.returns-clause-mic_e_next
unfolding line_of
returns-clause-mic_e_next c = refl

pub returns-clause-mic_e_other_side : goal.returns-clause-mic_e_other_side
unfolding line_of
returns-clause-mic_e_other_side c = refl

pub returns-clause-sentence : goal.returns-clause-sentence
unfolding line_of
returns-clause-sentence c = refl

pub returns-clause-sentence_next : goal.returns-clause-sentence_next
unfolding line_of
returns-clause-sentence_next c = refl

pub returns-clause-sentence_other_side : goal.returns-clause-sentence_other_side
unfolding line_of
returns-clause-sentence_other_side c = refl
