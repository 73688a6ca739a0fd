use Rattle.aprs_log.proofs.Common.{◌≡◌, ◌++◌, ◌∷◌, length, arith, ap, refl, subst, sym, ◌∙◌, CutsPlain}
use Rattle.std.proofs.Common.{length-append}
use Rattle.aprs_log.proofs.WrittenLines.{put_first, put_last, put_cut, reads_back}
use Rattle.aprs_log.proofs.write.put_frame.Goals as goal

pub returns-in_default-clause-digits : goal.returns-in_default-clause-digits
returns-in_default-clause-digits c =
    let cut = subst (CutsPlain _ _) c.in_default.is c.cut_plain.ensures.cut in
    put_last _ _ _ _ _ _ c.cut_plain.ensures.plain cut
    c.cuts.invariant.digits c.put_hex-end.ensures.digits c.put.ensures.bytes
    ∙ put_first c.args.frame.now _ _ c.put-end.ensures.bytes

pub returns-in_default-clause-back : goal.returns-in_default-clause-back
returns-in_default-clause-back c =
    reads_back c.args.frame.now (λ i. let fits = c.type_inv.frame i in omega arith)

pub cuts-init : goal.cuts-init
cuts-init c = record {
  digits = refl;
  end = omega (arith, c.put-end.ensures.end, c.requires.few);
  room = refl;
}

pub cuts-preserved : goal.cuts-preserved
cuts-preserved c =
    let cut = subst (CutsPlain _ _) c.in-Some.is c.cut_plain.ensures.cut in
    let plain = c.cut_plain.result.0.now in
    let len : length (plain ++ c.in-Some.byte ∷ c.in-Some.after.now) ≡ length c.cuts.rest.now
    = ap length (sym cut.0) in
    let parts = length-append plain (c.in-Some.byte ∷ c.in-Some.after.now) in
    record {
      digits = put_cut _ _ _ _ _ _ _ c.in-Some.byte
          c.cut_plain.ensures.plain cut.0 c.cuts.invariant.digits
          c.put_hex-end.ensures.digits c.put_escape-end.ensures.digits;
      end = omega (
        arith,
        len,
        parts,
        c.cuts.invariant.end,
        c.put_hex-end.ensures.end,
        c.put_escape-end.ensures.end,
      );
      room = omega (
        arith,
        c.cuts.invariant.room,
        c.put_hex-end.ensures.len,
        c.put_escape-end.ensures.len,
      );
    }
