-- Lemmas on the pieces of a line's bytes.
use Rattle.aprs_log.proofs.Common.{◌≡◌, ℕ, ◌-◌, ◌<◌, ◌≤◌, Bool, true, false, not, ◌||◌, List, [], ◌∷◌, ◌++◌, length, get_or, take, drop, refl, arith, sym, ap, ◌∙◌, subst, append_assoc, take-append-drop, ◌⊎◌, inl, inr, suc, nat_eq, eqb-true, All-append, All-nil, drop-cons, drop-length, HasNoEnd, is_frame_end, is_nonempty, cuts, judgements_of-empty, judgements_of-end, rest_of-none, begins_empty, ended_stream, judged_in_parts, left_in_parts}
use Rattle.aprs_kiss.specs.Stream.{rest_of, judgements_of}
use Rattle.aprs_kiss.specs.Judgement.{judgement_of}
use Rattle.std.proofs.Common.{append-nil, length-append}
use Rattle.aprs_log.specs.FrameEnds.{has_other_than_ends}

no_end-nil : HasNoEnd []
no_end-nil = All-nil (λ b. is_frame_end b ≡ false)

no_end-one : (x : ℕ) → is_frame_end x ≡ false → HasNoEnd (x ∷ [])
no_end-one x h = grind arith

no_end-append : (a b : List ℕ) → HasNoEnd a → HasNoEnd b → HasNoEnd (a ++ b)
no_end-append a b = All-append (λ b. is_frame_end b ≡ false) a b

nonempty_end : (xs : List ℕ) (b : ℕ) → is_nonempty (xs ++ b ∷ []) ≡ true
nonempty_end [] b = refl
nonempty_end (x ∷ xs) b = refl

pub rest_nil : (xs : List ℕ) → is_nonempty xs ≡ false → xs ≡ []
rest_nil [] e = refl
rest_nil (x ∷ xs) e = absurd (let f : true ≡ false = e in cc)

front_and_last : (xs : List ℕ) → 1 ≤ length xs
    → take (length xs - 1) xs ++ get_or xs (length xs - 1) 0 ∷ [] ≡ xs
front_and_last xs h =
    let n = length xs - 1 in
    let low : n < length xs = omega arith in
    let end : suc n ≡ length xs = omega arith in
    let past : drop (suc n) xs ≡ [] = ap (λ k. drop k xs) end ∙ drop-length xs in
    let last : drop n xs ≡ get_or xs n 0 ∷ []
    = drop-cons xs n 0 low ∙ ap (λ l. get_or xs n 0 ∷ l) past in
    ap (λ l. take n xs ++ l) (sym last) ∙ take-append-drop n xs

-- a stream that ends at a frame end, and in which a byte from `more` on is none, has a judgement
abbrev Judges : List ℕ → List ℕ → Type 0
Judges d more = HasNoEnd d → rest_of (d ++ more) ≡ []
    → (0 < length d) ⊎ (has_other_than_ends more ≡ true)
    → 0 < length (judgements_of (d ++ more))

-- ---- the last byte shows whether bytes follow the last frame end

rest_of-last : (ys : List ℕ) (b : ℕ) → is_frame_end b ≡ false
    → rest_of (ys ++ b ∷ []) ≡ rest_of ys ++ b ∷ []
rest_of-last ys b h =
    let none = no_end-append (rest_of ys) (b ∷ []) (cuts ys []).whole (no_end-one b h) in
    left_in_parts ys (b ∷ []) ∙ rest_of-none (rest_of ys ++ b ∷ []) none

rest_by : (ys : List ℕ) (b : ℕ) (t : Bool) → is_frame_end b ≡ t
    → not t ≡ is_nonempty (rest_of (ys ++ b ∷ []))
rest_by ys b true e =
    let same : b ≡ 0xC0 = eqb-true b 0xC0 e in
    sym (ap (λ x. is_nonempty (rest_of (ys ++ x ∷ []))) same ∙ ap is_nonempty (ended_stream ys))
rest_by ys b false e = sym (ap is_nonempty (rest_of-last ys b e) ∙ nonempty_end (rest_of ys) b)

pub is_unended-last : (xs : List ℕ) → 1 ≤ length xs
    → not (nat_eq (get_or xs (length xs - 1) 0) 0xC0) ≡ is_nonempty (rest_of xs)
is_unended-last xs h =
    let b = get_or xs (length xs - 1) 0 in
    rest_by (take (length xs - 1) xs) b (is_frame_end b) refl
    ∙ ap (λ l. is_nonempty (rest_of l)) (front_and_last xs h)

pub is_unended-nil : (xs : List ℕ) → length xs < 1 → false ≡ is_nonempty (rest_of xs)
is_unended-nil [] h = sym (ap is_nonempty begins_empty.1)
is_unended-nil (x ∷ xs) h = absurd (omega arith)

-- ---- what follows the end of a piece

after_end : (more : List ℕ) → judgements_of (0xC0 ∷ more) ≡ judgements_of more
after_end more =
    judged_in_parts (0xC0 ∷ []) more
    ∙ ap (λ js. js ++ judgements_of (rest_of (0xC0 ∷ []) ++ more)) judgements_of-empty
    ∙ ap (λ l. judgements_of (l ++ more)) (ended_stream [])

ends_from : (x : ℕ) (more : List ℕ) → (has_other_than_ends more ≡ false → judgements_of more ≡ [])
    → (t : Bool) → is_frame_end x ≡ t → not t || has_other_than_ends more ≡ false
    → judgements_of (x ∷ more) ≡ []
ends_from x more rest true e f =
    ap (λ b. judgements_of (b ∷ more)) (eqb-true x 0xC0 e) ∙ after_end more ∙ rest f
ends_from x more rest false e f = absurd (let g : true ≡ false = f in cc)

-- frame ends alone have no judgement
pub ends_alone : (more : List ℕ) → has_other_than_ends more ≡ false → judgements_of more ≡ []
ends_alone [] h = begins_empty.0
ends_alone (x ∷ more) h = ends_from x more (ends_alone more) (is_frame_end x) refl h

-- a piece that ended has a judgement
judged_first : (d more : List ℕ) → HasNoEnd d → 0 < length d
    → 0 < length (judgements_of (d ++ 0xC0 ∷ more))
judged_first d more h some =
    let ended = d ++ 0xC0 ∷ [] in
    let regroup : ended ++ more ≡ d ++ 0xC0 ∷ more = append_assoc d (0xC0 ∷ []) more in
    let rest = judgements_of (rest_of ended ++ more) in
    let first : judgements_of (ended ++ more) ≡ judgement_of d ∷ rest
    = judged_in_parts ended more ∙ ap (λ js. js ++ rest) (judgements_of-end d h some) in
    omega (arith, ap length (ap judgements_of (sym regroup) ∙ first))

judges_end : (d more : List ℕ) → Judges [] more → Judges d (0xC0 ∷ more)
judges_end [] more rest p w (inl s) = absurd (omega (arith, s))
judges_end [] more rest p w (inr s) =
    let left : rest_of (0xC0 ∷ more) ≡ rest_of more
    = left_in_parts (0xC0 ∷ []) more ∙ ap (λ l. rest_of (l ++ more)) (ended_stream []) in
    rw (after_end more) (rest no_end-nil (sym left ∙ w) (inr s))
judges_end (y ∷ d) more rest p w s = judged_first (y ∷ d) more p (omega arith)

judges_from : (d : List ℕ) (x : ℕ) (more : List ℕ) → ((k : List ℕ) → Judges k more)
    → (t : Bool) → is_frame_end x ≡ t → Judges d (x ∷ more)
judges_from d x more rest true e h whole some =
    let P : ℕ → Type 0 = λ b. Judges d (b ∷ more) in
    (subst P (sym (eqb-true x 0xC0 e)) (judges_end d more (rest []))) h whole some
judges_from d x more rest false e h whole some =
    let longer = d ++ x ∷ [] in
    let regroup : longer ++ more ≡ d ++ x ∷ more = append_assoc d (x ∷ []) more in
    let len : 0 < length longer = simp length-append (omega arith) in
    let none = no_end-append d (x ∷ []) h (no_end-one x e) in
    rw (← regroup) (rest longer none (ap rest_of regroup ∙ whole) (inl len))

judges : (more d : List ℕ) → Judges d more
judges [] d h whole (inl some) =
    let e : d ≡ [] = sym (rest_of-none d h) ∙ ap rest_of (sym (append-nil d)) ∙ whole in
    absurd (omega (arith, ap length e))
judges [] d h whole (inr other) = absurd (let f : false ≡ true = other in cc)
judges (x ∷ more) d h whole some =
    judges_from d x more (judges more) (is_frame_end x) refl h whole some

pub judges_other : (more : List ℕ) → rest_of more ≡ [] → has_other_than_ends more ≡ true
    → 0 < length (judgements_of more)
judges_other more whole other = judges more [] no_end-nil whole (inr other)
