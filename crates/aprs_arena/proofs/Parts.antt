-- A `Region` and its machine value, and units as room. Assumes `Logic`.
use native.Mathlib.Nat.{mod-add-div', le-div_iff_mul-le}
use Rattle.std.proofs.Calls.{aligned}
use Rattle.std.specs.contracts.option.Option as option
use Rattle.std.proofs.Common.{◌≡◌, ℕ, zero, suc, ◌+◌, ◌-◌, ◌*◌, ◌/◌, ◌^◌, ◌<◌, ◌≤◌, List, [], ◌∷◌, ◌++◌, None, Some, refl, sym, ap, subst, ◌∙◌, arith}
use seplogic.Ra.Ura.{Ura}
use mir.Syntax.{Ty, w64, w128, ty_int, ty_array}
use mir.Val.{Val, vint, vstruct, vcons, vnil, of_list, bytes}
use base.Logic.{SProp, ent, sep, wand, apply∗}
use base.Fml.{Fml, fwand, froom}
use prog.Align.{Dv, dv→, dv_mul, dv_self, align_w, align-bytes, align_size, bytes_pos}
use prog.Memory.{size}
use types.Logic.{Logic, sem}
use types.Match.{live}
use types.Kit.{Item, Goal, Seq, ‵, raw, ◌⊛◌, ◌$◌, ◌∵◌, !, qed, by, assume, move, drop, use1, use2, split, fsplit, fjoin, fpick, fpack, feq_l, frame, rewrite, done}
use denote.Builtin.{usize}
use denote.Plain.{uint_vals, uint_Tells}
use denote.RawPtr.{Ptr, RawPtr, block_ptr, ptr_val, room_for, rawptr_vals, rawptr_Tells}
use denote.RawPtr.Room.{room_cut, room_glue, past}
use denote.RattleType.{RattleType}
use denote.Shadow.{pure_i, pure_l}
use denote.Steps.{only}
use denote.Struct.Struct.{Shape, Struct, Struct-Tells}
use Rattle.aprs_arena.specs.Room.{units_of, units_at, units_for, to_give_back}
use Rattle.aprs_arena.specs.contracts.region.Region as region

abbrev pub region_val : Ptr → ℕ → Val
region_val p n = vstruct (vcons (ptr_val p) (vcons (vint w64 n) vnil))

abbrev pair : Shape
pair = record { name = []; args = []; types = []; fields = RawPtr ∷ usize ∷ [] }

-- what the fields own
abbrev fields : Ptr → ℕ → List Val → Fml
fields p n = (Struct pair).own_val (p, (n, tt))

abbrev pub Maybe : RattleType
Maybe = option.the_row region.the_row

module _ {M : Type 1} {𝓤 : Ura M} {𝓛 : Logic 𝓤} {K : Type 0} {Γ : List (Item 𝓤)} {G : Goal 𝓤 𝓛.H} where
  pub opened : K → (x : region.the_row.Denot) (vs : List Val) → (vs ≡ region_val x.start x.units ∷ [] → x.units < 2 ^ 64 → Seq K 𝓛 (‵ (units_at x.units x.start) ∷ Γ) G)
      → Seq K 𝓛 (‵ (region.the_row.own_val x vs) ∷ Γ) G
  opened t x vs k = fsplit t $ pure_l t (fields x.start x.units vs) (λ s.
      k (Struct-Tells pair (rawptr_vals, (uint_vals w64, tt)) (rawptr_Tells, (uint_Tells w64, tt)) (x.start, (x.units, tt)) vs s) s.1.1.1.0.1)

  pub matched : K → (r : Maybe.Denot) (v : Val) → (v ≡ live 0 vnil → Seq K 𝓛 Γ G)
      → ((x : region.the_row.Denot) → r ≡ Some x → v ≡ live 1 (vcons (region_val x.start x.units) vnil) → x.units < 2 ^ 64 → Seq K 𝓛 (‵ (units_at x.units x.start) ∷ Γ) G)
      → Seq K 𝓛 (‵ (Maybe.own_val r (v ∷ [])) ∷ Γ) G
  matched t None v none some = fpick t (λ us. fsplit t $ feq_l t (λ is. fpick t (λ vss. fsplit t $ feq_l t (λ made. drop t $
      none (ap only is ∙ ap (λ (ws : List Val). live 0 (of_list ws)) made)))))
  matched t (Some x) v none some = fpick t (λ us. fsplit t $ feq_l t (λ is. fpick t (λ vss. fsplit t $ feq_l t (λ made. fsplit t $ move t (1 ∷ []) $ drop t $ opened t x vss.0 (λ told fits.
      some x refl (ap only is ∙ ap (λ (ws : List Val). live 1 (of_list ws)) (made ∙ ap (λ (ws : List Val). ws ++ []) told)) fits)))))

-- n bytes are whole cells of a bytes
whole : (a n : ℕ) → Dv a n → n / a * a ≡ n
whole a n d = omega (arith, dv→ a n d, mod-add-div' n a)

module _ {M : Type 1} {𝓤 : Ura M} (𝓛 : Logic 𝓤) where
  open 𝓛 use {H}

  -- units are room for a type that they hold, and it is theirs again: as an array of integers of the type's alignment, cut at its size
  pub serves : (τ : Ty) (b o k : ℕ) → size τ ≤ k * 16 → ent 𝓤 (sem 𝓛 (units_at k (block_ptr b o))) (sep 𝓤 (H.room τ b o) (wand 𝓤 (H.room τ b o) (H.room (units_of k) b o)))
  serves τ b o k enough =
      let w = align_w τ in let a = bytes w in let cell : Ty = ty_int w in
      let i = size τ / a in let m = k * 16 / a in
      let all : m * a ≡ k * 16 = whole a (k * 16) (dv_mul a 16 k (aligned cell)) in
      let part : i * a ≡ size τ = whole a (size τ) (subst (λ (d : ℕ). Dv d (size τ)) (align-bytes τ) (align_size τ)) in
      let less : i ≤ m = (le-div_iff_mul-le {k = a} {x = i} {y = k * 16} (bytes_pos w)).1 (omega (arith, part)) in
      let sum : i + (m - i) ≡ m = omega arith in
      let Cells : ℕ → SProp 𝓤 = λ n. H.room (ty_array cell n) b o in
      let Rest : SProp 𝓤 = H.room (ty_array cell (m - i)) b (past cell i o) in
      let Room : SProp 𝓤 = H.room τ b o in let Units : SProp 𝓤 = H.room (units_of k) b o in
      qed 𝓛 (‵ (units_at k (block_ptr b o)) ∷ []) ∵
      use1 𝓛 (raw (Cells m) ⊛ raw (wand 𝓤 (Cells m) Units)) (𝓛.laws.room_as (units_of k) (ty_array cell m) b o all (aligned cell)) $ split ! $
      rewrite ! 0 (λ (n : ℕ). raw (Cells n)) (sym sum) refl $
      use1 𝓛 (raw (Cells i) ⊛ raw Rest) (room_cut 𝓛 cell i (m - i) b o) $ split ! $
      use1 𝓛 (raw Room ⊛ raw (wand 𝓤 Room (Cells i))) (𝓛.laws.room_as (ty_array cell i) τ b o (sym part) (subst (λ (d : ℕ). Dv d a) (sym (align-bytes τ)) (dv_self a))) $ split ! $
      frame ! $ assume ! (raw Room) $
      use2 𝓛 (raw (Cells i)) (apply∗ 𝓤 Room (Cells i)) $
      use2 𝓛 (raw (Cells (i + (m - i)))) (room_glue 𝓛 cell i (m - i) b o) $
      rewrite ! 0 (λ (n : ℕ). raw (Cells n)) sum refl $
      by ! (apply∗ 𝓤 (Cells m) Units)

  -- a block of as many units as a type asks for, as its room and the right to give it back
  pub hands_out : (τ : Ty) (b o k : ℕ) → k ≡ units_for (size τ) → size τ < 2 ^ 63
      → ent 𝓤 (sem 𝓛 (units_at k (block_ptr b o))) (sep 𝓤 (H.room τ b o) (sem 𝓛 (to_give_back τ (block_ptr b o))))
  hands_out τ b o k exact small =
      let p : Ptr = block_ptr b o in
      qed 𝓛 (‵ (units_at k p) ∷ []) ∵ rewrite ! 0 (λ (n : ℕ). ‵ (units_at n p)) exact refl $
      use1 𝓛 (‵ (froom τ b o) ⊛ ‵ (fwand (froom τ b o) (units_at (units_for (size τ)) p))) (serves τ b o (units_for (size τ)) (omega arith)) $ split ! $
      frame ! $ fpack ! (size τ < 2 ^ 63) (λ _. fwand (room_for τ p) (units_at (units_for (size τ)) p)) small $ done !

  pub closed : (p : Ptr) (n : ℕ) → n < 2 ^ 64 → ent 𝓤 (sem 𝓛 (units_at n p)) (sem 𝓛 (region.the_row.own_val (record { start = p; units = n }) (region_val p n ∷ [])))
  closed p n small =
      qed 𝓛 (‵ (units_at n p) ∷ []) ∵ pure_i ! (fields p n (region_val p n ∷ [])) (λ _. (tt, (tt, ((tt, tt), tt)))) ((ptr_val p ∷ [], (vint w64 n ∷ [], tt)), (refl, (refl, ((refl, small), tt)))) $ fjoin ! $ done !

  far : (n o : ℕ) → past (ty_int w128) n o ≡ n * 16 + o
  far zero o = omega arith
  far (suc n) o = far n (o + 16) ∙ omega arith

  pub halves : (b o n all : ℕ) → n ≤ all → ent 𝓤 (sem 𝓛 (units_at all (block_ptr b o))) (sep 𝓤 (sem 𝓛 (units_at n (block_ptr b o))) (sem 𝓛 (units_at (all - n) (block_ptr b (n * 16 + o)))))
  halves b o n all less =
      let sum : all ≡ n + (all - n) = omega arith in
      qed 𝓛 (‵ (units_at all (block_ptr b o)) ∷ []) ∵ rewrite ! 0 (λ (k : ℕ). ‵ (units_at k (block_ptr b o))) sum refl $
      use1 𝓛 (‵ (units_at n (block_ptr b o)) ⊛ ‵ (units_at (all - n) (block_ptr b (past (ty_int w128) n o)))) (room_cut 𝓛 (ty_int w128) n (all - n) b o) $
      split ! $ rewrite ! 1 (λ (x : ℕ). ‵ (units_at (all - n) (block_ptr b x))) (far n o) refl $ frame ! $ done !
