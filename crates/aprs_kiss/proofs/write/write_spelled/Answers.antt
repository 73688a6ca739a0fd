use Rattle.aprs_kiss.proofs.Common.{refl, subst, [], ◌∷◌, ◌++◌}
use Rattle.aprs_io.proofs.Sends.{Sends-broken, Sends-fails, Sends-is, Sends-last, left_after, left_all}
use Rattle.aprs_kiss.specs.Plain.{CutsPlain}
use Rattle.aprs_kiss.specs.Spelling.{kiss_text, spelling_of}
use Rattle.aprs_kiss.proofs.Escapes.{spelling_of-all, spelling_of-cut, spelling_of-prefix}
use Rattle.aprs_kiss.proofs.write.write_spelled.Goals as goal

-- the frame end and the type byte
pub returns-in_err-send : goal.returns-in_err-send
returns-in_err-send g c =
    Sends-fails _ c.from_residual.ensures.0 c.in_err-send.ensures
    (spelling_of c.args.frame.now ++ 0xC0 ∷ [])

pub loop-byte-init : goal.loop-byte-init
loop-byte-init g c = left_after (left_all _ (kiss_text c.args.frame.now)) _ refl
    c.in_ok-send.ensures

-- plain bytes
pub returns-in_err-send-2 : goal.returns-in_err-send-2
returns-in_err-send-2 g c =
    let plain =
    spelling_of-prefix _ _ (0xC0 ∷ []) _ c.cut_plain.ensures.plain c.cut_plain.ensures.cut in
    Sends-broken c.loop-byte.invariant _ c.from_residual-in_err-send-2.ensures.0 plain.0 plain.1
    c.in_err-send-2.ensures

-- the last plain bytes, and the frame end
pub returns-in_default : goal.returns-in_default
returns-in_default g c =
    let cut = subst (CutsPlain _ _) c.in_default.is c.cut_plain.ensures.cut in
    let e = spelling_of-all _ _ (0xC0 ∷ []) c.cut_plain.ensures.plain cut in
    Sends-last (left_after c.loop-byte.invariant (0xC0 ∷ []) e c.in_ok-send-2.ensures) refl
    c.send-in_default.ensures

-- what stands for the next special byte
pub returns-in_err-send-3 : goal.returns-in_err-send-3
returns-in_err-send-3 g c =
    let cut = subst (CutsPlain _ _) c.in-Some.is c.cut_plain.ensures.cut in
    let e = spelling_of-cut _ _ _ (0xC0 ∷ []) _ c.cut_plain.ensures.plain cut.0 in
    Sends-broken (left_after c.loop-byte.invariant _ e c.in_ok-send-2.ensures) _
    c.from_residual-in_err-send-3.ensures.0 _ refl
    (Sends-is c.in_err-send-3.ensures c.escape_of.ensures)

pub loop-byte-preserved : goal.loop-byte-preserved
loop-byte-preserved g c =
    let cut = subst (CutsPlain _ _) c.in-Some.is c.cut_plain.ensures.cut in
    let e = spelling_of-cut _ _ _ (0xC0 ∷ []) _ c.cut_plain.ensures.plain cut.0 in
    left_after (left_after c.loop-byte.invariant _ e c.in_ok-send-2.ensures) _ refl
    (Sends-is c.in_ok-send-3.ensures c.escape_of.ensures)
