use Rattle.aprs_bookfile.proofs.Common.{◌≡◌, ◌∙◌, ◌<◌, ◌+◌, ◌++◌, ◌∷◌, length, suc, take, drop, get_or, ap, sym, arith, rules, take_rest}
use Rattle.std.proofs.Math.Seq.{drop-cons}
use Rattle.std.proofs.lemmas.List.{take-append-drop}
use Rattle.aprs_bookfile.proofs.row_line.cut_known.Goals as goal

pub returns-then-eq : goal.returns-then-eq
returns-then-eq c =
    let n = length c.args.known.now in
    let t = c.args.text.now in
    let more : n < length t = omega (arith, c.if-text-size.false) in
    let space : get_or t n 0 ≡ 32 = c.if-text-size-ne32.false in
    let next : suc n ≡ n + 1 = omega arith in
    let rest = drop-cons t n 0 more ∙ ap (λ b. b ∷ drop (suc n) t) space
    ∙ ap (λ k. 32 ∷ drop k t) next ∙ ap (λ r. 32 ∷ r) (sym (take_rest t (n + 1))) in (
      omega (arith, c.if-size-eq0.false),
      search rules,
      sym (take-append-drop n t) ∙ ap (λ r. take n t ++ r) rest,
    )
