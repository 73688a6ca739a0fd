use Rattle.aprs_kiss.proofs.Common.{◌∙◌, ap, sym, refl, Some}
use Rattle.aprs_kiss.specs.Unspelling.{spelled_bytes}
use Rattle.aprs_kiss.proofs.Pieces.{HasNoEnd-append, HasNoEnd-one}
use Rattle.aprs_kiss.proofs.Escapes.{unspelled-nil}
use Rattle.aprs_kiss.proofs.Holding.{HoldsAfter-in, HoldsAfter-escape_again}
use Rattle.aprs_kiss.proofs.reader.KissReader.take_escape.Goals as goal

pub returns-in-Ended : goal.returns-in-Ended
returns-in-Ended c e s =
    let empty = HoldsAfter-in _ _ _ e c.in-Ended.is s.held in
    record {
      whole = HasNoEnd-append e _ s.whole (HasNoEnd-one 0xDB refl);
      held = record {
        prefix = e;
        escape = refl;
        spelled = ap spelled_bytes empty ∙ unspelled-nil ∙ ap Some (sym c.clear.ensures);
      };
    }

pub returns-in-Plain : goal.returns-in-Plain
returns-in-Plain c e s = record {
  whole = HasNoEnd-append e _ s.whole (HasNoEnd-one 0xDB refl);
  held = record {
    prefix = e;
    escape = refl;
    spelled = (HoldsAfter-in _ _ _ e c.in-Plain.is s.held).spelled;
  };
}

pub returns-in-Long : goal.returns-in-Long
returns-in-Long c e s =
    let h = HoldsAfter-in _ _ _ e c.in-Long.is s.held in
    record {
      whole = HasNoEnd-append e _ s.whole (HasNoEnd-one 0xDB refl);
      held = record {
        prefix = e;
        all = h.all;
        escape = refl;
        spelled = h.spelled;
        long = h.long;
      };
    }

pub returns-in_default : goal.returns-in_default
returns-in_default c e s = record {
  whole = HasNoEnd-append e _ s.whole (HasNoEnd-one 0xDB refl);
  held = HoldsAfter-escape_again _ _ e c.in_default.not-Ended c.in_default.not-Plain
      c.in_default.not-Long s.whole s.held;
}
