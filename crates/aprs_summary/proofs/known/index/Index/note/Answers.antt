use Rattle.aprs_summary.proofs.Common.{◌≡◌, ◌∙◌, ap, true, false}
use Rattle.aprs_summary.specs.Known.{known_at, plain_entries}
use Rattle.aprs_summary.proofs.KnownSteps.{is_none_there, noted_at}
use Rattle.aprs_summary.proofs.known.index.Index.note.Goals as goal
use Rattle.aprs_summary.proofs.known.index.Index.note.Goals.{in-Some, in_default}

pub returns : goal.returns
returns g c = λ q. elim c.match-get_mut.branch [
  | in-Some w ↦
      ap (λ m. known_at q (plain_entries (λ k. k.items) g.X.Kept.received m.map.entries)) w.self-inside-is
      ∙ noted_at (λ k. k.items) g.X.Kept.received c.args.bytes.now c.self.inside.map.entries _ c.self.view_is
      (c.get_mut.follows.lender w.keep.new.known).entries w.in-Some.known.now w.keep.new.known
      c.args.x.now q w.in-Some.ensures.value (c.get_mut.follows.holds w.keep.new.known).0
      w.keep.ensures
  | in_default w ↦
      let no : false ≡ true =
      is_none_there (λ k. k.items) g.X.Kept.received c.args.bytes.now c.self.inside.map.entries _ c.self.view_is
      w.in_default.ensures.value c.requires in
      absurd (cc)
]
