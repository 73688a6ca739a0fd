use Rattle.std.proofs.Common.{◌+◌, length, arith, rules, sym, ap}
use Rattle.std.proofs.lemmas.List.Sums.{position_or_len_is}
use Rattle.aprs_ax25.specs.FrameFault.{ends_field}
use Rattle.aprs_ax25.proofs.scan.field_len.Goals as goal

pub returns-then-octet-eq1 : goal.returns-then-octet-eq1
returns-then-octet-eq1 c =
    ap (λ n. n + 1) (sym
    (position_or_len_is ends_field c.args.bytes.now c.loop-i.i 0 (omega arith) c.loop-i.invariant
    (λ _. search rules)))

pub returns : goal.returns
returns c = ap (λ n. n + 1)
    (sym (position_or_len_is ends_field c.args.bytes.now (length c.args.bytes.now) 0 (omega arith)
    (λ k h. c.loop-i.invariant k (omega arith)) (λ h. absurd (omega arith))))
