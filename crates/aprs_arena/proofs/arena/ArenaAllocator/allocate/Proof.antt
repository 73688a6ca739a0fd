-- `allocate` hands out the units that were taken, as room for the type. Assumes `Logic`.
use Rattle.std.proofs.Common.{◌≡◌, ℕ, ◌^◌, ◌<◌, true, false, [], ◌∷◌, Ok, Err, Some, IfSome, refl, sym, ap, subst, ◌∙◌, arith, lit<, w64}
use Rattle.std.proofs.raw_atomic.Walks.{proved, leaves}
use Rattle.std.proofs.alloc.Calls.{Answer, answer_val, Answer-Ok, Answer-err}
use Rattle.std.proofs.alloc.Shapes.{arm_body}
use mir.Syntax.{named}
use mir.Val.{Val, vcons, vnil}
use base.Logic.{SProp, id⊢}
use base.Fml.{froom}
use prog.Capped.{capped_is, capped_small}
use prog.Memory.{size, align, capped}
use prog.Wp.{Wp, after_seq, at_return}
use contract.Monad.{fact}
use contract.Running.{tables}
use types.Kit.{‵, raw, ◌⊛◌, any_q, some, later, at_ret, ◌$◌, ◌∵◌, !, qed, by, move, drop, use0, use1, split, join, pick, fsplit, fjoin, await}
use types.Match.{live, vrt, in_variant}
use types.Part.{whole, sub, agg}
use types.Run.{stop, fld, lit, of_opd, no_more, and_then, first, switches_on, exec, returns, enter}
use types.ByLocal.{alloc_all, pass_all, free_all, look_at, get, get_in, get_tag, sets, sets_last, lands_as, env}
use denote.Builtin.{usize, RefOf}
use denote.Plain.{uint_vals, uint_Tells}
use denote.RattleType.{owns}
use denote.RawPtr.{Ptr, block_ptr, in_a_block}
use denote.Ref.{shr_vals, shr_Tells}
use denote.Signature.{plain, types_at}
use denote.Steps.{nothing, heard}
use denote.Triple.Call.{calls_at}
use denote.Triple.Clauses.{Lasts, lasts}
use denote.Triple.Entry.{alive}
use denote.Triple.Spec.{triple_of}
use denote.Triple.Table.{framed}
use denote.Triple.Walked.{Stays, stay_dropped, walk_of, Goes-dropped}
use Rattle.aprs_arena.proofs.Parts.{Maybe, region_val, matched, hands_out}
use Rattle.aprs_arena.specs.Room.{units_at, units_for, to_give_back}
use Rattle.aprs_arena.specs.contracts.arena.Arena as arena
use Rattle.aprs_arena.specs.contracts.arena.Arena.take as g
use Rattle.aprs_arena.proofs.arena.Arena.take.Met.{met}
use Rattle.aprs_arena.specs.contracts.arena.ArenaAllocator.allocate as f
use Rattle.aprs_arena.proofs.arena.ArenaAllocator.allocate.Statement.{statement}
use Rattle.aprs_arena.proofs.arena.ArenaAllocator.allocate.Code as code

abbrev stayed : Stays f.ended.signature.params f.ended.kept
stayed = (stay_dropped _ _, (stay_dropped _ _, (stay_dropped _ _, tt)))

-- what `take` tells of its block
abbrev Told : ℕ → Maybe.Denot → Type 0
Told n r = IfSome r (λ x. (x.units ≡ units_for n) × (n < 2 ^ 63))

pub allocate_spec : {M : Type 1} → statement M
allocate_spec 𝓤 𝓛 𝓜 𝓡 wired =
    let c = f.clauses 𝓛 𝓜.mem 𝓡.returns in let W = walk_of 𝓛 f.ended stayed c in let 𝓣 = tables 𝓤 𝓛.H 𝓜 𝓡 𝓡.env in
    let number = Goes-dropped 𝓛 1 (plain (λ _. usize)) f.ended.kept.1.0 (λ κs x w. refl) in
    proved 𝓛 f.ended stayed c 𝓜 𝓡 (Goes-dropped 𝓛 1 (RefOf (0 ∷ []) tt (plain (λ _. arena.the_row)) (λ _. tt)) f.ended.kept.0 (λ κs x w. refl), (number, (number, tt)))
    f.Key.name code.function (code.unfolded 𝓤 𝓛.H 𝓜 𝓡 wired)
    (λ κs. (shr_vals, (uint_vals w64, (uint_vals w64, tt)))) (λ κs. (shr_Tells (named 0) κs.0 arena.the_row, (uint_Tells w64, (uint_Tells w64, tt)))) (λ κs qs bounds a τ are.
    let n = a.1.0 in let al = a.1.1.0 in
    let z : W.Ghost = ((κs, qs, bounds, a, (shr_vals a.0, (uint_vals w64 n, (uint_vals w64 al, tt)))), τ) in
    let Post : Val → SProp 𝓤 = W.post z in
    let k = triple_of 𝓛 g.signature (g.spec 𝓛 𝓜.mem 𝓡.returns) in
    let y : k.Ghost = ((κs, qs, bounds, (a.0, (n, tt)), (shr_vals a.0, (uint_vals w64 n, tt))), tt) in
    let Asked : Type 0 = (capped (size τ) ≡ n) × (capped (align τ) ≡ al) in
    qed 𝓛 ((raw (alive 𝓛 f.signature κs qs) ⊛ ‵ (owns (types_at f.signature.params κs) a z.0.4)) ∷ raw (fact 𝓤 Asked) ∷ []) ∵ move ! (1 ∷ []) $ heard ! Asked (λ asked.
    split ! $ move ! (1 ∷ []) $ fsplit ! $ move ! (1 ∷ []) $ fsplit ! $ move ! (1 ∷ []) $ drop ! $ nothing ! $ move ! (1 ∷ 0 ∷ []) $ fjoin ! $ move ! (1 ∷ 0 ∷ []) $ fjoin ! $ move ! (1 ∷ 0 ∷ []) $ join ! $
    nothing ! $ move ! (1 ∷ 0 ∷ []) $ join ! $ use1 𝓛 (raw (k.pre y)) (id⊢ 𝓤 _) $
    enter ! _ _ _ _ _ $ alloc_all ! (λ l. pass_all ! refl ((tt, tt), ((tt, record { fits = are.1.0.1 }), ((tt, record { fits = are.1.1.0.1 }), tt))) $
    let Then = any_q (after_seq 𝓤 𝓛.H (Wp 𝓤 𝓛.H 𝓣.C 𝓣.Λ (env code.Mir.locals l) code.Mir.t-3 (at_return 𝓤 𝓛.H (env code.Mir.locals l) Post)) (at_return 𝓤 𝓛.H (env code.Mir.locals l) Post)) in
    calls_at ! (framed 𝓤 𝓛.H 𝓜 𝓣) k (met 𝓤 𝓛 𝓜 𝓡 (code.calls-aprs_arena::arena::Arena::take 𝓡.env wired)) y
    (and_then ! (get ! refl) (and_then ! (get ! refl) (no_more !))) (λ v.
    use1 𝓛 (later (some (λ (r : Maybe.Denot). (raw (alive 𝓛 f.signature κs qs) ⊛ ‵ (Maybe.own_val r (v ∷ []))) ⊛ some (λ (ls : Lasts g.ended κs y.0.3). ‵ (lasts g.ended κs y.0.3 ls) ⊛ raw (fact 𝓤 (Told n r)))))) (id⊢ 𝓤 _) $
    await ! tt $ pick ! (λ r. split ! $ move ! (1 ∷ []) $ pick ! (λ _. split ! $ drop ! $ heard ! (Told n r) (λ told. split ! $ move ! (1 ∷ []) $
    let En = env code.Mir.locals l in
    matched ! r v
    (λ is. lands_as ! is refl (tt, (record { fits = lit< tt }, tt)) $
    first ! $ switches_on ! (get_tag ! (vrt ! refl (fld ! refl (stop !))) (whole !)) $ exec ! 𝓣.C 𝓣.Λ En (arm_body 1 code.Mir.s-2) Then $
    sets ! (agg ! (no_more !)) refl (tt, tt) $
    sets_last ! (agg ! (and_then ! (lit ! tt) (and_then ! (get ! refl) (no_more !)))) refl (tt, (record { fits = lit< tt }, (tt, tt))) $
    exec ! 𝓣.C 𝓣.Λ En code.Mir.t-3 (at_ret En Post) $
    sets ! (of_opd ! (get ! refl)) refl (tt, (record { fits = lit< tt }, (tt, tt))) $
    returns ! (look_at ! 0 refl) $ free_all ! refl $
    use0 𝓛 (‵ (Answer.own_val (Err (record {})) (answer_val false 0 0 ∷ []))) (Answer-err 𝓛) $ nothing ! $
    nothing ! $ nothing ! $ fjoin ! $ nothing ! $ fjoin ! $ nothing ! $ fjoin ! $ move ! (3 ∷ 0 ∷ 2 ∷ 1 ∷ []) $
    by ! (leaves 𝓛 f.ended stayed c z (answer_val false 0 0) (Err (record {})) (tt, (tt, (tt, tt))) (tt, (tt, (tt, tt)))))
    (λ x taken is fits. in_a_block ! x.start (units_at x.units) (id⊢ 𝓤 _) (λ b o e.
    let said : Told n (Some x) = subst (Told n) taken told in
    let exact : capped (size τ) ≡ size τ = capped_is (size τ) (omega (arith, capped_small (size τ) (omega (arith, said.1, asked.0)))) in
    use1 𝓛 (‵ (froom τ b o) ⊛ ‵ (to_give_back τ (block_ptr b o))) (hands_out 𝓛 τ b o x.units (said.0 ∙ ap units_for (sym asked.0 ∙ exact)) (omega (arith, said.1, asked.0, exact))) $
    lands_as ! (is ∙ ap (λ (u : Ptr). live 1 (vcons (region_val u x.units) vnil)) e) refl (tt, (record { fits = lit< tt }, ((tt, (record { fits = fits }, tt)), tt))) $
    first ! $ switches_on ! (get_tag ! (vrt ! refl (fld ! refl (stop !))) (whole !)) $ exec ! 𝓣.C 𝓣.Λ En (arm_body 0 code.Mir.s-2) Then $
    sets ! (of_opd ! (get_in ! (vrt ! refl (fld ! refl (fld ! refl (stop !)))) (sub ! 0 refl (in_variant ! 1 0 refl refl (whole !))))) refl (tt, tt) $
    sets_last ! (agg ! (and_then ! (lit ! tt) (and_then ! (get ! refl) (no_more !)))) refl (tt, (record { fits = lit< tt }, (tt, tt))) $
    exec ! 𝓣.C 𝓣.Λ En code.Mir.t-3 (at_ret En Post) $
    sets ! (of_opd ! (get ! refl)) refl (tt, (record { fits = lit< tt }, (tt, tt))) $
    returns ! (look_at ! 0 refl) $ free_all ! refl $
    use0 𝓛 (‵ (Answer.own_val (Ok (block_ptr b o)) (answer_val true b o ∷ []))) (Answer-Ok 𝓛 b o) $
    nothing ! $ nothing ! $ fjoin ! $ nothing ! $ fjoin ! $ nothing ! $ fjoin ! $ move ! (3 ∷ 0 ∷ 1 ∷ 2 ∷ []) $
    by ! (leaves 𝓛 f.ended stayed c z (answer_val true b o) (Ok (block_ptr b o)) (tt, (tt, (tt, tt))) (tt, (tt, (tt, tt)))))))))))))
