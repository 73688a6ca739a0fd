use Rattle.aprs_lists.proofs.Common.{List, map, subst, sym, BookValue}
use Rattle.aprs_lists.specs.Answers.{reply_of}
use Rattle.aprs_lists.specs.declared.net.answers.Answer.{Answer}
use Rattle.aprs_lists.specs.Traffic.{AreGiven, GivesNetReply}
use Rattle.aprs_lists.proofs.traffic.Traffic.answers.Goals as goal

pub returns-clause-given : goal.returns-clause-given
returns-clause-given g c =
    subst (λ (b : BookValue). AreGiven GivesNetReply b.rows (map reply_of c.as_slice.result.now))
    c.self.view_is
    (subst (λ (xs : List Answer). AreGiven GivesNetReply c.self.inside.store.now.rows (map reply_of xs))
    (sym c.as_slice.ensures.value) c.self.invariant.answers_given)
