-- Lemmas on texts that are cut at a byte.
use Rattle.aprs_io.proofs.Common.{◌≡◌, ℕ, ◌+◌, ◌-◌, ◌<◌, ◌≤◌, Bool, true, false, List, [], ◌∷◌, ◌++◌, length, get_or, take, drop, None, Some, cond, refl, arith, sym, ap, ◌∙◌, eq-eqb, length-append, position_or_len, before_first, after_first, AllByRecursion, take_rest, Option, unwrap_or, false_from_ne_true}
use Rattle.std.proofs.Common.{eqb-true}
use Rattle.std.proofs.lemmas.Bool.Decides.{nat_tests}
use Rattle.std.proofs.lemmas.List.Sums.{split_at_first, passes_at_first}
use Rattle.std.proofs.Math.Seq.{take-append_seam, drop-append-add}
use Rattle.std.proofs.lemmas.List.Sums.{position_or_len_is}
use Rattle.memchr.specs.Find.{IsFirstByte, is_byte as is_sought}
use Rattle.aprs_io.specs.Cut.{Cut, cut_at, first_cut, has_byte, is_byte}

-- where a search finds the first such byte, or how many bytes there are
pub first_byte-place : (stop : ℕ) (text : List ℕ) (r : Option ℕ)
    → IsFirstByte (is_sought stop) text r →
    unwrap_or r (length text) ≡ position_or_len (is_byte stop) text
first_byte-place stop text None h =
    sym (position_or_len_is (is_byte stop) text (length text) 0 (omega arith)
    (λ k l. false_from_ne_true _ (h k (omega arith) l)) (λ l. absurd (omega arith)))
first_byte-place stop text (Some i) h =
    let high = h.0.high in
    sym (position_or_len_is (is_byte stop) text i 0 (omega arith)
    (λ k l. false_from_ne_true _ (h.0.before k (omega arith) l)) (λ l. h.1))

some_if : (b : Bool) (x : Cut) → b ≡ true → Some x ≡ cond b (Some x) None
some_if true x e = refl
some_if false x e = absurd (let f : false ≡ true = e in cc)

none_if : (b : Bool) (x : Cut) → b ≡ false → None ≡ cond b (Some x) None
none_if true x e = absurd (let f : true ≡ false = e in cc)
none_if false x e = refl

pub cut_at-found : (stop : ℕ) (text : List ℕ) (n : ℕ) → n ≡ position_or_len (is_byte stop) text
    → n < length text
    → Some (record {
      before = take n text;
      after = take (length text - (n + 1)) (drop (n + 1) text);
    }) ≡ cut_at stop text
unfolding cut_at
cut_at-found stop text n e h =
    let has : has_byte stop text ≡ true = grind (arith, nat_tests) in
    let before : take n text ≡ before_first (is_byte stop) text = ap (λ k. take k text) e in
    let after : take (length text - (n + 1)) (drop (n + 1) text) ≡ after_first (is_byte stop) text
    = take_rest text (n + 1) ∙ ap (λ k. drop (k + 1) text) e in
    let same : (record {
      before = take n text;
      after
          = take (length text - (n + 1)) (drop (n + 1) text);
    }) ≡ first_cut stop text = cc in
    ap (λ (x : Cut). Some x) same ∙ some_if (has_byte stop text) (first_cut stop text) has

pub cut_at-missing : (stop : ℕ) (text : List ℕ) → length text ≤ position_or_len (is_byte stop) text
    → None ≡ cut_at stop text
unfolding cut_at
cut_at-missing stop text h =
    let has : has_byte stop text ≡ false = grind (arith, nat_tests) in
    none_if (has_byte stop text) (first_cut stop text) has

-- no element is `stop`
abbrev pub Lacks : ℕ → List ℕ → Type 0
Lacks stop text = AllByRecursion (λ b. is_byte stop b ≡ false) text

position-here : (stop : ℕ) (rest : List ℕ) (b : Bool) → is_byte stop stop ≡ b → b ≡ true
    → position_or_len (is_byte stop) (stop ∷ rest) ≡ 0
position-here stop rest b e h = let f : is_byte stop stop ≡ true = e ∙ h in rw f refl

position-next : (stop x : ℕ) (text : List ℕ) → is_byte stop x ≡ false
    → position_or_len (is_byte stop) (x ∷ text) ≡ position_or_len (is_byte stop) text + 1
position-next stop x text h = rw h (omega arith)

position-lacks : (stop : ℕ) (prefix rest : List ℕ) → Lacks stop prefix
    → position_or_len (is_byte stop) (prefix ++ stop ∷ rest) ≡ length prefix
position-lacks stop [] rest h = position-here stop rest (is_byte stop stop) refl
    (eq-eqb stop stop refl)
position-lacks stop (x ∷ prefix) rest h =
    position-next stop x (prefix ++ stop ∷ rest) h.0
    ∙ omega (arith, position-lacks stop prefix rest h.1)

-- a text is cut where a byte stands after a prefix without it
pub cut_at-append : (stop : ℕ) (prefix rest : List ℕ) → Lacks stop prefix
    → cut_at stop (prefix ++ stop ∷ rest) ≡ Some (record { before = prefix; after = rest })
unfolding cut_at
cut_at-append stop prefix rest h =
    let text = prefix ++ stop ∷ rest in
    let at = position-lacks stop prefix rest h in
    let len : length text ≡ length prefix + (length rest + 1) = simp length-append (omega arith) in
    let has : has_byte stop text ≡ true = grind (arith, nat_tests) in
    let before : before_first (is_byte stop) text ≡ prefix = ap (λ n. take n text) at
    ∙ take-append_seam prefix (stop ∷ rest) in
    let after : after_first (is_byte stop) text ≡ rest = ap (λ n. drop (n + 1) text) at
    ∙ drop-append-add prefix (stop ∷ rest) 1 in
    let same : first_cut stop text ≡ (record { before = prefix; after = rest }) = cc in
    sym (some_if (has_byte stop text) (first_cut stop text) has) ∙ ap (λ (x : Cut). Some x) same

-- a byte stands between the parts
some_of_if : (b : Bool) (x y : Cut) → cond b (Some x) None ≡ Some y → (b ≡ true) × (x ≡ y)
some_of_if true x y e = (refl, cc)
some_of_if false x y e = absurd cc

below_len : (stop : ℕ) (text : List ℕ) → has_byte stop text ≡ true
    → position_or_len (is_byte stop) text < length text
below_len stop text h = grind (arith, nat_tests)

pub cut_at-parts : (stop : ℕ) (text : List ℕ) (cut : Cut) → cut_at stop text ≡ Some cut
    → text ≡ cut.before ++ stop ∷ cut.after
unfolding cut_at
cut_at-parts stop text cut e =
    let found = some_of_if (has_byte stop text) (first_cut stop text) cut e in
    let h = below_len stop text found.0 in
    let x = get_or text (position_or_len (is_byte stop) text) 0 in
    let same : x ≡ stop = eqb-true x stop (passes_at_first (is_byte stop) text 0 h) in
    split_at_first (is_byte stop) text 0 h
    ∙ ap (λ b. before_first (is_byte stop) text ++ b ∷ after_first (is_byte stop) text) same
    ∙ ap (λ (c : Cut). c.before ++ stop ∷ c.after) found.1

-- the parts and the byte are all of the text
cut_len : (stop : ℕ) (text : List ℕ) (cut : Cut) → cut_at stop text ≡ Some cut
    → length text ≡ length cut.before + 1 + length cut.after
cut_len stop text cut e =
    let len : length (cut.before ++ stop ∷ cut.after) ≡ length cut.before + (length cut.after + 1)
    = simp length-append (omega arith) in
    omega (arith, len, ap length (cut_at-parts stop text cut e))

-- what stands after the byte is no longer than all
pub cut_at-after : (stop : ℕ) (text : List ℕ) (cut : Cut) → Some cut ≡ cut_at stop text
    → length cut.after ≤ length text
cut_at-after stop text cut e = omega (arith, cut_len stop text cut (sym e))

-- what is left once the first part and the byte are gone
pub record Taken (stop : ℕ) (text : List ℕ) (cut : Cut) : Type 0 where
  pub is : cut_at stop text ≡ Some cut
  pub used : length cut.before + 1 ≤ length text
  pub left : drop (length cut.before + 1) text ≡ cut.after
  pub len : length text ≡ length cut.before + 1 + length cut.after

pub taken : (stop : ℕ) (part text : List ℕ) (cut : Cut) → Some cut ≡ cut_at stop part → part ≡ text
    → Taken stop text cut
taken stop part text cut e same =
    let is : cut_at stop text ≡ Some cut = sym (e ∙ ap (cut_at stop) same) in
    let parts = cut_at-parts stop text cut is in
    record {
      is = is;
      used = omega (arith, cut_len stop text cut is);
      left = ap (λ t. drop (length cut.before + 1) t) parts
          ∙ drop-append-add cut.before (stop ∷ cut.after) 1;
      len = cut_len stop text cut is;
    }
