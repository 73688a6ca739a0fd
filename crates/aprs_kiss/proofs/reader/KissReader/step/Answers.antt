use Rattle.aprs_kiss.proofs.Common.{◌∙◌, sym, subst, refl, ◌∷◌, [], append-nil, rules}
use Rattle.aprs_kiss.specs.Plain.{CutsPlain}
use Rattle.aprs_kiss.proofs.Reading.{Quiet-none, Quiet-all, HasRead-run, HasRead-mark, HasRead-end, begun_by_test, ReadsPiece-used, frame_end_else, some_used}
use Rattle.aprs_kiss.proofs.reader.KissReader.step.Goals as goal

pub loop-byte-init : goal.loop-byte-init
loop-byte-init c = record { seen = []; cut = refl; quiet = Quiet-none _ }

pub returns-in_default : goal.returns-in_default
returns-in_default c =
    let cut = subst (CutsPlain _ _) c.in_default.is c.cut_plain.ensures.cut in
    let read =
    HasRead-run _ _ _ _ _ _ [] c.loop-byte.invariant
    (cut ∙ sym (append-nil _)) c.take_plain.ensures in
    let quiet = Quiet-all _ _ _ read in
    record {
      stands = quiet.stands;
      judged = quiet.silent;
      used = search rules;
      whole = search rules;
      ends = search rules;
      progress = search rules;
      frame = search rules;
    }

-- at each byte that doesn't stand for itself
pub returns-then-not-finish : goal.returns-then-not-finish
returns-then-not-finish c =
    let cut = subst (CutsPlain _ _) c.in-Some.is c.cut_plain.ensures.cut in
    let read =
    HasRead-mark _ _ _ _ _ _ _ _ 0xC0 c.loop-byte.invariant cut.0
    (frame_end_else _ cut.1 c.if-byte.false) c.take_plain.ensures in
    let ended = ReadsPiece-used _ _ _ _ _ c.in-Some.after.now _ read refl
    (λ d s. begun_by_test _ d c.if-not-finish.true (c.finish.ensures d s).1)
    c.end_piece.ensures.stands c.end_piece.ensures.judged in
    record {
      stands = ended.stands;
      judged = ended.judged;
      used = search rules;
      whole = search rules;
      ends = ended.ends;
      progress = some_used _ _ _ _ [] c.in-Some.after.now 0xC0 read refl;
      frame = search rules;
    }

pub loop-byte-preserved-then-byte : goal.loop-byte-preserved-then-byte
loop-byte-preserved-then-byte c =
    let cut = subst (CutsPlain _ _) c.in-Some.is c.cut_plain.ensures.cut in
    let read =
    HasRead-mark _ _ _ _ _ _ _ _ 0xDB c.loop-byte.invariant cut.0 c.if-byte.true
    c.take_plain.ensures in
    HasRead-run _ _ _ _ _ (0xDB ∷ []) _ read refl c.take_escape.ensures

pub loop-byte-preserved : goal.loop-byte-preserved
loop-byte-preserved c =
    let cut = subst (CutsPlain _ _) c.in-Some.is c.cut_plain.ensures.cut in
    let read =
    HasRead-mark _ _ _ _ _ _ _ _ 0xC0 c.loop-byte.invariant cut.0
    (frame_end_else _ cut.1 c.if-byte.false) c.take_plain.ensures in
    HasRead-end _ _ _ _ _ read refl (λ d s. (c.finish.ensures d s).0 c.if-not-finish.false)
