use Rattle.aprs_table.proofs.history.put_answer_line.Goals as goal

pub returns : goal.returns
returns g c = c.put_spaced_line.ensures
