-- Lemmas on texts in pieces.
use Rattle.aprs_bookfile.proofs.Common.{◌≡◌, ℕ, zero, suc, ◌<◌, true, false, eqb, List, [], ◌∷◌, ◌++◌, length, get_or, take, drop, refl, sym, ap, ◌∙◌, arith, join_with_byte, onto_first, AllByRecursion, All-from_recursion, false_from_ne_true, is_byte}
use Rattle.std.proofs.lemmas.List.Splits.{slice_split_none, slice_split_at, join_with_byte-slice_split, length-slice_split}
use Rattle.aprs_bookfile.specs.Lines.{pieces}
use Rattle.aprs_io.specs.Cut.{Lacks}

-- ---- texts without the byte

pub lacks_append : (c : ℕ) (a b : List ℕ) → Lacks c a → Lacks c b → Lacks c (a ++ b)
lacks_append c [] b h k = k
lacks_append c (x ∷ a) b h k = (h.0, lacks_append c a b h.1 k)

pub lacks_of : (c : ℕ) (text : List ℕ) → ((k : ℕ) → k < length text
    → ¬ (is_byte c (get_or text k 0) ≡ true)) → Lacks c text
lacks_of c [] none = tt
lacks_of c (x ∷ text) none = (
  false_from_ne_true _ (none 0 (omega arith)),
  lacks_of c text (λ k h. none (suc k) (omega arith)),
)

-- ---- pieces

pub byte_is : (c : ℕ) → eqb c c ≡ true
byte_is c = grind arith

pub pieces_at : (c : ℕ) (a b : List ℕ) → Lacks c a → pieces c (a ++ c ∷ b) ≡ a ∷ pieces c b
pieces_at c a b h = slice_split_at (is_byte c) a c b
    (All-from_recursion (λ x. is_byte c x ≡ false) a h) (byte_is c)

pub pieces_end : (c : ℕ) (a : List ℕ) → Lacks c a → pieces c a ≡ a ∷ []
pieces_end c a h = slice_split_none (is_byte c) a
    (All-from_recursion (λ x. is_byte c x ≡ false) a h)

pub pieces_some : (c : ℕ) (text : List ℕ) → 0 < length (pieces c text)
pieces_some c text = omega (arith, length-slice_split (is_byte c) text)

-- what is joined of pieces without the byte has these pieces
pub pieces_joined : (c : ℕ) (ps : List (List ℕ)) → 0 < length ps → AllByRecursion (Lacks c) ps
    → pieces c (join_with_byte c ps) ≡ ps
pieces_joined c [] some h = absurd (omega arith)
pieces_joined c (p ∷ []) some h = pieces_end c p h.0
pieces_joined c (p ∷ q ∷ ps) some h = pieces_at c p (join_with_byte c (q ∷ ps)) h.0
    ∙ ap (λ t. p ∷ t) (pieces_joined c (q ∷ ps) (omega arith) h.1)

pub joined_pieces : (c : ℕ) (text : List ℕ) (ps : List (List ℕ)) → pieces c text ≡ ps
    → text ≡ join_with_byte c ps
joined_pieces c text ps e = sym (join_with_byte-slice_split c text) ∙ ap (join_with_byte c) e

-- of a join by another byte
pub lacks_joined : (c d : ℕ) (ps : List (List ℕ)) → is_byte c d ≡ false
    → AllByRecursion (Lacks c) ps → Lacks c (join_with_byte d ps)
lacks_joined c d [] e h = tt
lacks_joined c d (p ∷ []) e h = h.0
lacks_joined c d (p ∷ q ∷ ps) e h = lacks_append c p (d ∷ join_with_byte d (q ∷ ps)) h.0 (
  e,
  lacks_joined c d (q ∷ ps) e h.1,
)

-- the first piece ends at the first such byte
pub pieces_first : (c i j : ℕ) (text : List ℕ) → i < length text → j ≡ suc i
    → ((k : ℕ) → k < i → ¬ (is_byte c (get_or text k 0) ≡ true))
    → is_byte c (get_or text i 0) ≡ true
    → pieces c text ≡ take i text ∷ pieces c (drop j text)
pieces_first c i j [] lt e none here = absurd (omega arith)
pieces_first c zero j (x ∷ xs) lt e none here = rw (e, here) refl
pieces_first c (suc i) j (x ∷ xs) lt e none here =
    let rest : pieces c xs ≡ take i xs ∷ pieces c (drop (suc i) xs) =
    pieces_first c i (suc i) xs (omega arith) refl (λ k h. none (suc k) (omega arith)) here in
    let first : is_byte c x ≡ false = false_from_ne_true _ (none 0 (omega arith)) in
    rw (e, first) (ap (onto_first x) rest)
