use Rattle.aprs_book.proofs.Common.{◌≡◌, ◌+◌, ◌++◌, min, length, flat_map}
use Rattle.aprs_book.proofs.rows.walk.WalkIterator.next.Given as goal

abbrev pub invariant-loop-self : goal.invariant-loop-self
invariant-loop-self g l =
    l.initial.self-inside.rows.now
    ++ (l.initial.self-inside.back.now ++ flat_map (λ v. v.items) l.initial.self-inside.others)
    ≡ l.self-inside.rows.now
    ++ (l.self-inside.back.now ++ flat_map (λ v. v.items) l.self-inside.others)

abbrev pub decreases-loop-self : goal.decreases-loop-self
decreases-loop-self g l =
    length l.self-inside.others + length l.self-inside.others + min 1 (length l.self-inside.back.now)
