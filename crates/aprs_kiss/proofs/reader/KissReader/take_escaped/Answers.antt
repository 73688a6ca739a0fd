use Rattle.aprs_kiss.proofs.Common.{◌++◌, ◌∷◌, [], length-append, arith}
use Rattle.aprs_kiss.proofs.Pieces.{HasNoEnd-append, HasNoEnd-one}
use Rattle.aprs_kiss.proofs.Escapes.{not_end}
use Rattle.aprs_kiss.proofs.Holding.{HoldsAfter-in, HoldsAfter-unescaped, HoldsAfter-escaped_long, unspelled-escaped}
use Rattle.aprs_kiss.proofs.reader.KissReader.take_escaped.Goals as goal

pub returns-in-None-clause-stands : goal.returns-in-None-clause-stands
returns-in-None-clause-stands c e s = record {
  whole = HasNoEnd-append e _ s.whole (HasNoEnd-one _ (not_end _ c.requires.plain));
  held = HoldsAfter-unescaped _ _ e _ c.requires.open s.whole c.in-None.ensures s.held;
}

pub returns-in-Escape-clause-stands : goal.returns-in-Escape-clause-stands
returns-in-Escape-clause-stands c e s =
    let h = HoldsAfter-in _ _ _ e c.in-Escape.is s.held in
    c.append.ensures.stands (e ++ c.args.code ∷ [])
    (HasNoEnd-append e _ s.whole (HasNoEnd-one _ (not_end _ c.requires.plain)))
    (omega (arith, length-append e (c.args.code ∷ [])))
    (unspelled-escaped _ h.prefix e _ s.whole h.escape h.spelled _ c.in-Some.ensures)

pub returns-in_default : goal.returns-in_default
returns-in_default c = record {
  stands = λ e s. record {
    whole = HasNoEnd-append e _ s.whole (HasNoEnd-one _ (not_end _ c.requires.plain));
    held = HoldsAfter-escaped_long _ _ e _ _ c.requires.open c.in_default.not-Escape s.whole
        c.in-Some.ensures s.held;
  };
  closed = tt;
}
