-- Lemmas on what a run over several inputs writes.
use Rattle.aprs_runs.proofs.Common.{ℕ, List, Option, Ok, Err, Sends, Counted, Received, BookOf, BookValue, millis_of}
use Rattle.aprs_runs.specs.Gathered.{ReadsEach}
use Rattle.aprs_runs.specs.Outcome.{IsToldOf, WritesFor}
use Rattle.aprs_runs.specs.Several.{GiveUnion, GotOf}
use Rattle.aprs_runs.specs.declared.fault.RunFault.{RunFault}
use Rattle.aprs_runs.specs.declared.fault.RunFault.TheVariants.{Write}
use Rattle.aprs_runs.proofs.Merges.{HoldsOfEach}
use Rattle.aprs_runs.proofs.OneMerge.{book_of_union}
use Rattle.aprs_runs.proofs.Outcomes.{prefix_went, text_went}

-- ---- what follows of what was got

pub each_so : (limit : ℕ) (inputs : List (List ℕ)) (afters : List (Option (List ℕ)))
    (P Q : List (GotOf limit) → Type 0) → ((gots : List (GotOf limit)) → P gots → Q gots)
    → HoldsOfEach limit inputs afters P → HoldsOfEach limit inputs afters Q
each_so limit inputs afters P Q follows h = (h.0, h.1, h.2, follows h.0 h.3)

-- a clause that says nothing of this answer
pub unsaid : (limit : ℕ) (inputs : List (List ℕ)) (afters : List (Option (List ℕ)))
    (P : List (GotOf limit) → Type 0) → HoldsOfEach limit inputs afters P
    → HoldsOfEach limit inputs afters (λ gots. Unit {0})
unsaid limit inputs afters P h = each_so limit inputs afters P (λ gots. Unit {0}) (λ gots p. tt) h

-- ---- a text that tells of whatever set the rows are the book of

module _ {W : Type 0} (limit gap : ℕ) (inputs : List (List ℕ)) (afters : List (Option (List ℕ)))
    (Tells : List Received → List ℕ → Type 0) (contents : W → Option (List ℕ)) (old new : Counted W)
    (b : BookValue) (text : List ℕ)
    (tells : (S : List Received) → BookOf (millis_of gap) S b.rows → Tells S text)
    (read : HoldsOfEach limit inputs afters (ReadsEach gap (Ok b))) where
  told_of : (gots : List (GotOf limit)) → ReadsEach gap (Ok b) gots
      → IsToldOf (GiveUnion gap gots) Tells text
  told_of gots p = (
    (p.1.0, p.1.1),
    λ S gives. tells S (book_of_union gap limit gots S b.rows gives p.1),
  )

  pub all_written : Sends {E = RunFault} contents (Ok tt) old new text
      → HoldsOfEach limit inputs afters
      (λ gots. WritesFor (IsToldOf (GiveUnion gap gots) Tells) contents (Ok tt) old new)
  all_written went = each_so limit inputs afters (ReadsEach gap (Ok b)) _
      (λ gots p. text_went (IsToldOf (GiveUnion gap gots) Tells) contents old new text
      (told_of gots p) went) read

  pub all_cut : Sends {E = RunFault} contents (Err Write) old new text
      → HoldsOfEach limit inputs afters
      (λ gots. WritesFor (IsToldOf (GiveUnion gap gots) Tells) contents (Err Write) old new)
  all_cut went = each_so limit inputs afters (ReadsEach gap (Ok b)) _
      (λ gots p. prefix_went (IsToldOf (GiveUnion gap gots) Tells) contents old new text
      (told_of gots p) went) read
