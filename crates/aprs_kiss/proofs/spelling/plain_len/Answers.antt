use Rattle.aprs_kiss.proofs.Common.{subst, sym}
use Rattle.aprs_kiss.proofs.Marks.{IsMark, first_mark}
use Rattle.aprs_kiss.proofs.spelling.plain_len.Goals as goal

pub returns : goal.returns
returns c =
    let bytes = c.args.bytes.now in
    let m = subst (IsMark bytes) (sym c.unwrap_or.ensures) (first_mark bytes _ c.memchr2.ensures) in
    record { within = m.within; plain = m.plain; mark = m.mark }
