use Rattle.aprs_bookfile.proofs.Common.{◌∙◌, sym, subst, IsUtf8, parse-decimal, IsAscii-decimal, decimal}
use Rattle.std.proofs.lemmas.Str.{IsUtf8-from_ascii}
use Rattle.aprs_bookfile.proofs.version.number_in.Goals as goal

pub returns-in-Ok-parse : goal.returns-in-Ok-parse
returns-in-Ok-parse c = λ n h e.
    let r = parse-decimal 64 n c.in-Ok.text.now c.parse.result h h (c.in-Ok.ensures.cases.0 ∙ e)
    c.parse.ensures.value.0 in
    let s = c.in-Ok-parse.is in
    cc (r, s)

pub returns-in-Err-parse : goal.returns-in-Err-parse
returns-in-Err-parse c = λ n h e.
    let r = parse-decimal 64 n c.in-Ok.text.now c.parse.result h h (c.in-Ok.ensures.cases.0 ∙ e)
    c.parse.ensures.value.0 in
    let s = c.in-Err-parse.is in
    absurd (cc (r, s))

pub returns-in-Err : goal.returns-in-Err
returns-in-Err c = λ n h e.
    absurd (c.in-Err.ensures.cases.0
    (subst IsUtf8 (sym e) (IsUtf8-from_ascii (decimal n) (IsAscii-decimal n h))))
