use Rattle.aprs_lists.proofs.examples.answers.runs_have_one_line_each.Goals as goal

pub returns : goal.returns
returns c = record {
  none = tt;
  misses_run = λ t h. h;
  misses_line = λ r h. h;
}
