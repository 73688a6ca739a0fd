use Rattle.aprs_lists.proofs.Common.{List, map, subst, sym, BookValue}
use Rattle.aprs_lists.specs.Copies.{copy_of}
use Rattle.aprs_lists.specs.declared.net.copies.MessageCopy.{MessageCopy}
use Rattle.aprs_lists.specs.Traffic.{AreGiven, GivesCopy}
use Rattle.aprs_lists.proofs.traffic.Traffic.copies.Goals as goal

pub returns-clause-given : goal.returns-clause-given
returns-clause-given g c =
    subst (λ (b : BookValue). AreGiven GivesCopy b.rows (map copy_of c.as_slice.result.now))
    c.self.view_is
    (subst (λ (xs : List MessageCopy). AreGiven GivesCopy c.self.inside.store.now.rows (map copy_of xs))
    (sym c.as_slice.ensures.value) c.self.invariant.copies_given)
