use Rattle.aprs_summary.proofs.Common.{◌≡◌, ◌∙◌, ap, set_value, true, false}
use Rattle.aprs_summary.specs.Known.{known_at, plain_entries}
use Rattle.aprs_summary.proofs.KnownSteps.{at, is_none_there, set_at}
use Rattle.aprs_summary.proofs.known.index.Index.put_back.Goals as goal
use Rattle.aprs_summary.proofs.known.index.Index.put_back.Goals.{in-Some, in_default}

pub returns : goal.returns
returns g c = λ q. elim c.match-get_mut.branch [
  | in-Some w ↦
      ap (λ m. known_at q (plain_entries (λ k. k.items) g.X.Kept.received m.map.entries)) w.self-inside-is
      ∙ set_at (λ k. k.items) g.X.Kept.received c.args.bytes.now c.self.inside.map.entries _ c.self.view_is
      (c.get_mut.follows.lender w.put_in.new.place).entries w.in-Some.place.now c.args.known q
      w.in-Some.ensures.value
      ((c.get_mut.follows.holds w.put_in.new.place).0
      ∙ ap (set_value (at (λ k. k.items) c.args.bytes.now) c.self.inside.map.entries) w.put_in.ensures)
  | in_default w ↦
      let no : false ≡ true =
      is_none_there (λ k. k.items) g.X.Kept.received c.args.bytes.now c.self.inside.map.entries _ c.self.view_is
      w.in_default.ensures.value c.requires in
      absurd (cc)
]
