use Rattle.aprs_fold.proofs.taking_new.put_open_new.Goals as goal

pub returns-clause-fails : goal.returns-clause-fails
returns-clause-fails g c = rw c.row.ensures at c.put_last_new.ensures.fails
