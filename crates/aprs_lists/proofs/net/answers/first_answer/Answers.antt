use Rattle.aprs_lists.proofs.Common.{◌≡◌, ◌∙◌, ◌<◌, ◌≤◌, ℕ, ap, false, option_map, rules, subst, sym, Option, IsPartitionPoint-from_clause}
use Rattle.aprs_lists.specs.Answers.{IsFirstAnswer, reply_of}
use Rattle.aprs_lists.specs.Chosen.{chosen, is_early}
use Rattle.aprs_lists.specs.declared.net.answers.Answer.{Answer}
use Rattle.std.proofs.Common.{map}
use Rattle.aprs_lists.proofs.FirstAnswers.{chosen_is, found_so, late_of, parted}
use Rattle.aprs_lists.proofs.net.answers.first_answer.Goals as goal

pub returns : goal.returns
returns c =
    let xs = c.args.answers.now in
    let least = c.args.least.now in
    let at = c.partition_point-at.result in
    let point = IsPartitionPoint-from_clause (is_early least) _ _
    c.partition_point-at.ensures.partitioned (parted least xs c.requires.ordered)
    (λ a r q k. search rules) in
    let early = λ (k : ℕ) (d : Answer) (p : 0 ≤ k) (q : k < at). point.0 k d p q in
    let late = late_of (λ (x : Answer). is_early least x ≡ false) xs at (λ k d p q. point.1 k d p q) in
    let back = c.split_at.ensures.back in
    record {
      first =
          subst (λ (o : Option Answer). IsFirstAnswer (map reply_of xs) (reply_of least).asked
          least.moment c.args.until (option_map reply_of o)) (sym c.chosen.ensures)
          (chosen_is least c.requires.least c.args.until xs at c.requires.ordered early late
          c.split_at.result.1.now (sym back));
      found =
          ap (option_map reply_of) (c.chosen.ensures ∙ ap (chosen least c.args.until) back)
          ∙ found_so least c.args.until xs at early late;
    }
