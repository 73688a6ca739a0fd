use Rattle.aprs_kiss.proofs.Common.{◌≡◌, ◌∙◌, ◌∷◌, [], ap, sym, refl, subst, length, Some, arith}
use Rattle.aprs_kiss.specs.Judgement.{Judgement, data_frame_of}
use Rattle.aprs_kiss.specs.ReaderSteps.{judgements_of_outcome}
use Rattle.aprs_kiss.proofs.Pieces.{HasNoEnd-nil}
use Rattle.aprs_kiss.proofs.Holding.{HoldsAfter-in, judgement_of-plain, judgement_of-long, judgement_of-broken}
use Rattle.aprs_kiss.proofs.reader.KissReader.end_piece.Goals as goal

alone : (a b : Judgement) → a ≡ b → b ∷ [] ≡ a ∷ []
alone a b e = ap (λ j. j ∷ []) (sym e)

pub returns-in-Plain-clause-judged : goal.returns-in-Plain-clause-judged
returns-in-Plain-clause-judged c e s l =
    subst (λ bytes. judgements_of_outcome (Some c.port_of.result) bytes
    ≡ data_frame_of bytes ∷ []) c.as_slice.ensures.value c.port_of.ensures.judged
    ∙ alone _ _
    (judgement_of-plain e c.args.self.now.bytes.items
    (HoldsAfter-in _ _ _ e c.in-Plain.is s.held).spelled
    (omega (arith, c.as_slice.ensures.fits, ap length c.as_slice.ensures.value)))

pub returns-in-Long-clause-judged : goal.returns-in-Long-clause-judged
returns-in-Long-clause-judged c e s l =
    alone _ _ (judgement_of-long e c.args.self.now.bytes.items
    (HoldsAfter-in _ _ _ e c.in-Long.is s.held))

pub returns-in_default : goal.returns-in_default
returns-in_default c = record {
  stands = record { whole = HasNoEnd-nil; held = refl };
  judged = λ e s l. alone _ _
      (judgement_of-broken _ _ e c.in_default.not-Plain c.in_default.not-Long l s.whole s.held);
  frame = tt;
}
