use Rattle.aprs_kiss.proofs.Common.{◌≡◌, ◌∙◌, ◌++◌, ap, sym, length-append, arith, Some}
use Rattle.aprs_kiss.specs.Unspelling.{spelled_bytes}
use Rattle.aprs_kiss.proofs.Pieces.{HasNoEnd-append}
use Rattle.aprs_kiss.proofs.Escapes.{unspelled-run-all}
use Rattle.aprs_kiss.proofs.Holding.{HasNoEnd-plain, HoldsAfter-in, HoldsAfter-more, HoldsAfter-run, nonempty_from_test}
use Rattle.aprs_kiss.proofs.reader.KissReader.take_unescaped.Goals as goal

pub returns-in_default : goal.returns-in_default
returns-in_default c e s = record {
  whole = HasNoEnd-append e _ s.whole (HasNoEnd-plain _ c.requires.plain);
  held = HoldsAfter-more _ _ e _ c.in_default.not-Ended c.in_default.not-Plain
      c.requires.closed s.whole c.requires.plain s.held;
}

pub returns-in-Plain : goal.returns-in-Plain
returns-in-Plain c e s =
    let h = HoldsAfter-in _ _ _ e c.in-Plain.is s.held in
    c.append-in-Plain.ensures.stands (e ++ c.args.run.now)
    (HasNoEnd-append e _ s.whole (HasNoEnd-plain _ c.requires.plain))
    (omega (arith, h.nonempty, length-append e c.args.run.now))
    (HoldsAfter-run _ e _ s.whole c.requires.plain h.spelled)

pub returns-in-Ended-2 : goal.returns-in-Ended-2
returns-in-Ended-2 c e s =
    let empty = HoldsAfter-in _ _ _ e c.in-Ended-2.is s.held in
    let same : e ++ c.args.run.now ≡ c.args.run.now = ap (λ l. l ++ c.args.run.now) empty in
    c.append.ensures.stands (e ++ c.args.run.now)
    (HasNoEnd-append e _ s.whole (HasNoEnd-plain _ c.requires.plain))
    (rw same (nonempty_from_test c.args.run.now c.if-is_empty.ensures))
    (ap spelled_bytes same ∙ unspelled-run-all c.args.run.now c.requires.plain
    ∙ ap (λ l. Some (l ++ c.args.run.now)) (sym c.clear.ensures))
