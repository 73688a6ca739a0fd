use Rattle.std.proofs.Common.{◌+◌, ◌-◌, ◌∙◌, length, drop, sym, arith, length-drop}
use Rattle.std.proofs.lemmas.List.{take_all}
use Rattle.std.proofs.lemmas.Option.{IfSome_then}
use Rattle.aprs_fold.proofs.Frames.{frame_is}
use Rattle.aprs_fold.proofs.range.judge.frame_in.Goals as goal

pub returns : goal.returns
returns c =
    let line = c.args.line.now in
    let after = c.in_ok-space.space + 1 in
    let all = take_all (length line - after) (drop after line)
    (omega (arith, length-drop after line)) in
    IfSome_then c.frame_of.result c.frame_of.ensures.frame (λ frame same form x row is.
    same ∙ frame_is form x row line is c.in_ok-space.space _ c.in_ok-space.ensures.1
    c.in_ok-space.ensures.2 c.frame_of.ensures.bytes
    (sym all ∙ c.in_ok-count.ensures.bytes.1))
