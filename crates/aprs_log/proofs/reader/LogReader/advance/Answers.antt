use Rattle.aprs_log.proofs.Common.{rules}
use Rattle.aprs_log.proofs.Awaiting.{something}
use Rattle.aprs_log.proofs.reader.LogReader.advance.Goals as goal

pub returns-in-Ended : goal.returns-in-Ended
returns-in-Ended g c = record {
  gives = search rules;
  awaits = something _ _ _ _ _;
  fault = search rules;
  current = search rules;
  stays = search rules;
  unread = search rules;
  same_reference = search rules;
  calls = search rules;
}

pub returns-in-Failed : goal.returns-in-Failed
returns-in-Failed g c = record {
  gives = search rules;
  awaits = something _ _ _ _ _;
  fault = search rules;
  current = search rules;
  stays = search rules;
  unread = search rules;
  same_reference = search rules;
  calls = search rules;
}

pub returns-then-step : goal.returns-then-step
returns-then-step g c = record {
  gives = search rules;
  awaits = something _ _ _ _ _;
  fault = search rules;
  current = search rules;
  stays = search rules;
  unread = search rules;
  same_reference = search rules;
  calls = search rules;
}
