-- `cut` splits the units behind the block, or hands them back. Assumes `Logic`.
use Rattle.std.proofs.Common.{◌≡◌, ◌+◌, ◌-◌, ◌*◌, ◌^◌, ◌<◌, ◌≤◌, List, [], ◌∷◌, ◌++◌, Ok, Err, refl, ap, ◌∙◌, arith, lit<, ltb→lt, nltb→le, w64}
use Rattle.std.proofs.raw_atomic.Walks.{proved_at, leaves}
use Rattle.std_alloc.proofs.Pairs.{pair_of, pair_val}
use Rattle.std.proofs.ResultValues.{ok_of, err_of}
use Rattle.std.proofs.alloc.Calls.{Goes-blank}
use mir.Val.{Val, vint, vcons, vnil}
use base.Logic.{SProp, emp, id⊢}
use prog.Wp.{WpFn}
use contract.Monad.{fact, fact_i}
use contract.Running.{tables}
use types.Kit.{‵, raw, ◌⊛◌, prop, at_ret, ◌$◌, ◌∵◌, !, qed, by, move, keep, drop, use0, use1, use2, split, regoal, fsplit, fjoin}
use types.Match.{live}
use types.Part.{whole, sub, agg}
use types.Run.{stop, fld, lit, bin, of_opd, no_more, and_then, first, blocks, branches, skips, exec, returns, returns_within, enter}
use types.ByLocal.{alloc_all, pass_all, free_all, look_at, get, get_in, sets, sets_last, env}
use denote.Builtin.{usize}
use denote.RattleType.{RattleType, owns}
use denote.RawPtr.{Ptr, block_ptr, in_a_block}
use denote.Signature.{plain, types_at}
use denote.Steps.{nothing, heard}
use denote.Struct.Tuple.{Tuple}
use denote.Triple.Entry.{alive}
use denote.Triple.Walked.{Stays, stay_dropped, walk_of, Goes-dropped}
use Rattle.aprs_arena.proofs.Parts.{region_val, opened, closed, halves}
use Rattle.aprs_arena.specs.Room.{units_at}
use Rattle.std.specs.contracts.result.Result as result
use Rattle.aprs_arena.specs.contracts.region.Region as region
use Rattle.aprs_arena.specs.contracts.region.Region.cut as f
use Rattle.aprs_arena.proofs.region.Region.cut.Statement.{statement}
use Rattle.aprs_arena.proofs.region.Region.cut.Code as code

abbrev R : RattleType
R = region.the_row

abbrev Parts : RattleType
Parts = Tuple (R ∷ R ∷ [])

abbrev Out : RattleType
Out = result.the_row Parts R

abbrev stayed : Stays f.ended.signature.params f.ended.kept
stayed = (stay_dropped _ _, (stay_dropped _ _, tt))

pub cut_spec : {M : Type 1} → statement M
cut_spec 𝓤 𝓛 𝓜 𝓡 wired =
    let c = f.clauses 𝓛 𝓜.mem 𝓡.returns in
    let 𝓣 = tables 𝓤 𝓛.H 𝓜 𝓡 𝓡.env in
    proved_at 𝓛 f.ended stayed c 𝓜 𝓡 (Goes-blank 𝓛 0 (plain (λ _. R)) f.ended.kept.0 (λ κs x w. tt), (Goes-dropped 𝓛 0 (plain (λ _. usize)) f.ended.kept.1.0 (λ κs x w. refl), tt))
    f.Key.name code.function (code.unfolded 𝓤 𝓛.H 𝓜 𝓡 wired) (λ z are.
    let Post : Val → SProp 𝓤 = (walk_of 𝓛 f.ended stayed c).post z in
    let x = z.0.3.0 in let n = z.0.3.1.0 in let all = x.units in let asked = are.1.0.1 in
    qed 𝓛 ((raw (alive 𝓛 f.signature z.0.0 z.0.1) ⊛ ‵ (owns (types_at f.signature.params z.0.0) z.0.3 z.0.4)) ∷ raw (fact 𝓤 (n < 2 ^ 60)) ∷ []) ∵
    move ! (1 ∷ []) $ heard ! (n < 2 ^ 60) (λ small. split ! $ move ! (1 ∷ []) $ fsplit ! $ move ! (1 ∷ []) $ drop ! $
    opened ! x z.0.4.0 (λ is fits. in_a_block ! x.start (units_at all) (id⊢ 𝓤 _) (λ b o e.
    let p : Ptr = block_ptr b o in
    regoal ! (λ (us : List Val). prop (WpFn 𝓤 𝓛.H 𝓣.C 𝓣.Λ code.function us Post)) (λ i. (is ∙ ap (λ (u : Ptr). region_val u all ∷ []) e) i ++ (are.1.0.0 i ++ [])) refl $
    enter ! 𝓣.C 𝓣.Λ code.function (region_val p all ∷ vint w64 n ∷ []) Post $
    alloc_all ! (λ l. pass_all ! refl ((tt, (tt, (record { fits = fits }, tt))), ((tt, record { fits = asked }), tt)) $
    sets ! (of_opd ! (get_in ! (fld ! refl (stop !)) (sub ! 0 refl (whole !)))) refl (tt, tt) $
    sets ! (of_opd ! (get_in ! (fld ! refl (stop !)) (sub ! 1 refl (whole !)))) refl (tt, record { fits = fits }) $
    sets ! (bin ! (get ! refl) (get ! refl) tt) refl (tt, tt) $
    first ! $ branches ! (get ! refl)
    (λ short. sets ! (agg ! (and_then ! (get ! refl) (and_then ! (get ! refl) (no_more !)))) refl (tt, (tt, (record { fits = fits }, tt))) $
    sets ! (agg ! (and_then ! (lit ! tt) (and_then ! (get ! refl) (no_more !)))) refl (tt, (record { fits = lit< tt }, ((tt, (record { fits = fits }, tt)), tt))) $
    returns_within ! Post refl (look_at ! 0 refl) $ free_all ! refl $ keep ! (0 ∷ 1 ∷ []) $
    let whole : R.Denot = record { start = p; units = all } in let v : Val = region_val p all in
    use1 𝓛 (‵ (R.own_val whole (v ∷ []))) (closed 𝓛 p all fits) $
    use1 𝓛 (‵ (Out.own_val (Err whole) (live 1 (vcons v vnil) ∷ []))) (err_of 𝓛 Parts R whole v) $
    use0 𝓛 (raw (fact 𝓤 ((all < n) × (all ≡ all)))) (fact_i 𝓤 ((all < n) × (all ≡ all)) (emp 𝓤) (ltb→lt all n short, refl)) $
    nothing ! $ nothing ! $ fjoin ! $ nothing ! $ fjoin ! $ move ! (3 ∷ 0 ∷ 2 ∷ 1 ∷ []) $
    by ! (leaves 𝓛 f.ended stayed c z (live 1 (vcons v vnil)) (Err whole) (tt, (tt, tt)) (tt, (tt, tt))))
    (λ long. let less : n ≤ all = nltb→le all n long in let q : Ptr = block_ptr b (n * 16 + o) in let rest = all - n in
    skips ! $ exec ! 𝓣.C 𝓣.Λ (env code.Mir.locals l) code.Mir.t-5 (at_ret (env code.Mir.locals l) Post) $
    first ! $ blocks ! $ sets ! (bin ! (get ! refl) (lit ! tt) (omega arith)) refl (tt, record { fits = omega arith }) $
    sets_last ! (bin ! (get ! refl) (get ! refl) tt) refl (tt, tt) $
    exec ! 𝓣.C 𝓣.Λ (env code.Mir.locals l) code.Mir.t-6 (at_ret (env code.Mir.locals l) Post) $
    sets ! (of_opd ! (get ! refl)) refl (tt, tt) $
    sets ! (agg ! (and_then ! (get ! refl) (and_then ! (get ! refl) (no_more !)))) refl (tt, (tt, (record { fits = asked }, tt))) $
    sets ! (bin ! (get ! refl) (get ! refl) (omega arith)) refl (tt, record { fits = omega arith }) $
    sets ! (agg ! (and_then ! (get ! refl) (and_then ! (get ! refl) (no_more !)))) refl (tt, (tt, (record { fits = omega arith }, tt))) $
    sets ! (agg ! (and_then ! (get ! refl) (and_then ! (get ! refl) (no_more !)))) refl (tt, ((tt, (record { fits = asked }, tt)), ((tt, (record { fits = omega arith }, tt)), tt))) $
    sets ! (agg ! (and_then ! (lit ! tt) (and_then ! (get ! refl) (no_more !)))) refl (tt, (record { fits = lit< tt }, (((tt, (record { fits = asked }, tt)), ((tt, (record { fits = omega arith }, tt)), tt)), tt))) $
    returns ! (look_at ! 0 refl) $ free_all ! refl $ keep ! (0 ∷ 1 ∷ []) $
    let first : R.Denot = record { start = p; units = n } in let second : R.Denot = record { start = q; units = rest } in
    let v : Val = pair_val (region_val p n) (region_val q rest) in
    use1 𝓛 (‵ (units_at n p) ⊛ ‵ (units_at rest q)) (halves 𝓛 b o n all less) $ split ! $
    use1 𝓛 (‵ (R.own_val first (region_val p n ∷ []))) (closed 𝓛 p n asked) $ move ! (1 ∷ []) $
    use1 𝓛 (‵ (R.own_val second (region_val q rest ∷ []))) (closed 𝓛 q rest (omega arith)) $ move ! (1 ∷ 0 ∷ []) $
    use2 𝓛 (‵ (Parts.own_val (first, second) (v ∷ []))) (pair_of 𝓛 R R first second (region_val p n) (region_val q rest)) $
    use1 𝓛 (‵ (Out.own_val (Ok (first, second)) (live 0 (vcons v vnil) ∷ []))) (ok_of 𝓛 Parts R (first, second) v) $
    use0 𝓛 (raw (fact 𝓤 ((n ≡ n) × (n + rest ≡ all)))) (fact_i 𝓤 ((n ≡ n) × (n + rest ≡ all)) (emp 𝓤) (refl, omega arith)) $
    nothing ! $ nothing ! $ fjoin ! $ nothing ! $ fjoin ! $ move ! (3 ∷ 0 ∷ 2 ∷ 1 ∷ []) $
    by ! (leaves 𝓛 f.ended stayed c z (live 0 (vcons v vnil)) (Ok (first, second)) (tt, (tt, tt)) (tt, (tt, tt)))))))))
