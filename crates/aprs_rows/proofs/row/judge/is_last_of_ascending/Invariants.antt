use Rattle.aprs_rows.proofs.Common.{◌≡◌, ◌||◌, ◌∷◌, None, length, last_or, list_any}
use Rattle.aprs_rows.specs.Names.{names_in}
use Rattle.aprs_rows.specs.Refusal.{is_ascending, is_same_name}
use Rattle.aprs_rows.proofs.row.judge.is_last_of_ascending.Given as goal

abbrev pub invariant-loop-next : goal.invariant-loop-next
invariant-loop-next l = record {
  ascending : is_ascending (names_in l.fn.text) ≡ is_ascending (l.before ∷ names_in l.rest);
  named : list_any (is_same_name l.fn.name) (names_in l.fn.text)
      ≡ (l.has_name || list_any (is_same_name l.fn.name) (names_in l.rest));
  last : last_or None (names_in l.fn.text) ≡ last_or None (names_in l.rest);
}

abbrev pub decreases-loop-next : goal.decreases-loop-next
decreases-loop-next l = length l.rest
