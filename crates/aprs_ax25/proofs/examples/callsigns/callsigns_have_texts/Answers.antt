use Rattle.std.proofs.Common.{◌++◌, codes, refl, sym, ap, arith, rules}
use Rattle.aprs_ax25.proofs.Calls.{ssid_text-one, ssid_text-two}
use Rattle.aprs_ax25.proofs.CallTexts.{call_fault-FirstCallFault}
use Rattle.aprs_ax25.proofs.examples.callsigns.callsigns_have_texts.Goals as goal

pub returns : goal.returns
returns c = record {
  ssid = record {
    call = record { some = omega arith; most = omega arith; bytes = refl; ssid = omega arith };
    spelled = ap (λ ssid. codes "N7OO" ++ ssid) (sym (ssid_text-one 1 (omega arith) (omega arith)));
  };
  no_ssid = search rules;
  greatest = record {
    call = record { some = omega arith; most = omega arith; bytes = refl; ssid = omega arith };
    spelled =
        ap (λ ssid. codes "N0CALL" ++ ssid) (sym (ssid_text-two 15 (omega arith) (omega arith)));
  };
  misses_sixteen = call_fault-FirstCallFault _ _ refl;
  misses_nought = call_fault-FirstCallFault _ _ refl;
  misses_leading_nought = call_fault-FirstCallFault _ _ refl;
  misses_seven = search rules;
  misses_none = search rules;
  misses_small = search rules;
  misses_all = call_fault-FirstCallFault _ _ refl;
  misses_two = call_fault-FirstCallFault _ _ refl;
}
