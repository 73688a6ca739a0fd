-- Names in texts.
use Rattle.aprs_rows.proofs.Common.{◌≡◌, ◌∙◌, ℕ, ◌<◌, zero, suc, ◌==◌, Bool, true, false, List, [], ◌∷◌, length, get_or, take, drop, refl, ap, arith, All, list_all, join_with_byte, onto_first, AllByRecursion, and_parts, false_from_ne_true, nat_tests, All-from_recursion, recursion_from_All, slice_split_none, slice_split_at, IsName, is_name_byte}
use Rattle.aprs_rows.specs.Names.{names_in}

abbrev is_comma : ℕ → Bool
is_comma b = b == 44

no_comma : (b : ℕ) → is_name_byte b ≡ true → is_comma b ≡ false
no_comma b h = grind (arith, nat_tests)

lacks : (bytes : List ℕ) → list_all is_name_byte bytes ≡ true
    → AllByRecursion (λ b. is_comma b ≡ false) bytes
lacks [] h = tt
lacks (b ∷ bytes) h =
    (no_comma b (and_parts _ _ h).0, lacks bytes (and_parts _ _ h).1)

name_lacks : (r : List ℕ) → IsName r → All (λ b. is_comma b ≡ false) r
name_lacks r h = All-from_recursion (λ b. is_comma b ≡ false) r (lacks r (and_parts _ _ h).1)

-- a name has a letter
pub some_letters : (r : List ℕ) → IsName r → 0 < length r
some_letters r n = grind (arith, nat_tests)

-- a name is the only one in itself
pub name_alone : (r : List ℕ) → IsName r → names_in r ≡ r ∷ []
name_alone r h = slice_split_none is_comma r (name_lacks r h)

joined : (names : List (List ℕ)) → 0 < length names → AllByRecursion IsName names
    → names_in (join_with_byte 44 names) ≡ names
joined [] some h = absurd (omega (arith, some))
joined (r ∷ []) some h = name_alone r h.0
joined (r ∷ s ∷ names) some h =
    slice_split_at is_comma r 44 (join_with_byte 44 (s ∷ names)) (name_lacks r h.0) refl
    ∙ ap (λ rest. r ∷ rest) (joined (s ∷ names) (omega arith) h.1)

-- the names of a text of names with commas between are these
pub names_joined : (names : List (List ℕ)) → 0 < length names → All IsName names
    → names_in (join_with_byte 44 names) ≡ names
names_joined names some h = joined names some (recursion_from_All IsName names h)

-- ---- the first name of a text

-- the first name ends at the first comma
pub first_name : (i j : ℕ) (text : List ℕ) → i < length text → j ≡ suc i
    → ((k : ℕ) → k < i → ¬ (is_comma (get_or text k 0) ≡ true))
    → is_comma (get_or text i 0) ≡ true
    → names_in text ≡ take i text ∷ names_in (drop j text)
first_name i j [] lt e none here = absurd (omega arith)
first_name zero j (x ∷ xs) lt e none here = rw (e, here) refl
first_name (suc i) j (x ∷ xs) lt e none here =
    let rest : names_in xs ≡ take i xs ∷ names_in (drop (suc i) xs) =
    first_name i (suc i) xs (omega arith) refl (λ k h. none (suc k) (omega arith)) here in
    let first : is_comma x ≡ false = false_from_ne_true _ (none 0 (omega arith)) in
    rw (e, first) (ap (onto_first x) rest)

without : (text : List ℕ) → ((k : ℕ) → k < length text → ¬ (is_comma (get_or text k 0) ≡ true))
    → AllByRecursion (λ b. is_comma b ≡ false) text
without [] none = tt
without (x ∷ text) none = (
  false_from_ne_true _ (none 0 (omega arith)),
  without text (λ k h. none (suc k) (omega arith)),
)

pub only_name : (text : List ℕ)
    → ((k : ℕ) → k < length text → ¬ (is_comma (get_or text k 0) ≡ true))
    → names_in text ≡ text ∷ []
only_name text none =
    slice_split_none is_comma text
    (All-from_recursion (λ b. is_comma b ≡ false) text (without text none))
