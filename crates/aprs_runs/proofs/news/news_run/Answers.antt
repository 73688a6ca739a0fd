use Rattle.aprs_runs.proofs.Common.{Sends-ok}
use Rattle.aprs_runs.proofs.news.news_run.Goals as goal

pub returns-in-Ok-clause-news : goal.returns-in-Ok-clause-news
returns-in-Ok-clause-news g c =
    let h = c.in-Ok.ensures.news in
    (h.0, h.1, Sends-ok h.2)

pub returns-in-Err-clause-refuses : goal.returns-in-Err-clause-refuses
returns-in-Err-clause-refuses g c = record {
  fault = c.in-Err.fault;
  is = c.run_fault_of.ensures;
  refused = c.in-Err.ensures.refuses;
  left = c.in-Err.ensures.left;
}
