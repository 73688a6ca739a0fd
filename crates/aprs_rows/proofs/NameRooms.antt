-- Names that were gathered, and how many bytes they and their text have.
use Rattle.aprs_rows.proofs.Common.{◌≡◌, ◌∙◌, ℕ, ◌+◌, ◌<◌, ◌≤◌, List, [], ◌∷◌, ◌++◌, length, refl, sym, ap, subst, arith, length-append, join_with_byte-slice_split, length-slice_split, All, AllByRecursion, recursion_from_All, IsName, bytes_cmp, is_ne, join_with_byte, if◌then◌else◌, Bool, true, false, ◌-◌, ◌==◌, Bor, map, IsPermutation, IsPermutation-map, IsSorted, union}
use Rattle.std.proofs.lemmas.List.Sorted.{sum_by-IsPermutation}
use Rattle.aprs_rows.proofs.Judgements.{some_names}
use Rattle.aprs_rows.proofs.NameTexts.{names_joined, some_letters}
use Rattle.aprs_rows.proofs.SortedTexts.{names_cmp, text_of_sort}
use Rattle.aprs_rows.proofs.Unions.{all_append, united_names, united_some}
use Rattle.std.proofs.lemmas.List.Sums.{sum_by-append, sum_by-cons}
use Rattle.aprs_rows.specs.NameRoom.{HasRoom, names_size}
use Rattle.aprs_rows.specs.Names.{names_in}
use Rattle.aprs_rows.specs.Sorted.{ascending_text, further, next_text}

abbrev size_of : List ℕ → ℕ
size_of name = length name + 1

-- names with commas between have one comma less than names
joined_size : (x : List ℕ) (xs : List (List ℕ))
    → length (join_with_byte 44 (x ∷ xs)) + 1 ≡ names_size (x ∷ xs)
joined_size x [] = let s = sum_by-cons size_of x [] in omega (arith, s)
joined_size x (y ∷ ys) =
    let l = length-append x (44 ∷ join_with_byte 44 (y ∷ ys)) in
    omega (arith, l, joined_size y ys, sum_by-cons size_of x (y ∷ ys))

text_size : (text : List ℕ) → names_size (names_in text) ≡ length text + 1
text_size text = by_names (names_in text) (join_with_byte-slice_split 44 text) (some_names text) where
  by_names : (names : List (List ℕ)) → join_with_byte 44 names ≡ text → 0 < length names
      → names_size names ≡ length text + 1
  by_names [] e h = absurd (omega (arith, h))
  by_names (x ∷ xs) e h = omega (arith, joined_size x xs, ap length e)

-- each name has a letter
few : (names : List (List ℕ)) → AllByRecursion IsName names
    → length names + length names ≤ names_size names
few [] a = omega arith
few (x ∷ xs) a = omega (arith, few xs a.1, some_letters x a.0, sum_by-cons size_of x xs)

-- the text of ascending names is no longer than the names with a comma after each
further_size : (before : List ℕ) (names : List (List ℕ))
    → length (further before names) ≤ names_size names
further_size before [] = omega arith
further_size before (n ∷ names) =
    let l = length-append (next_text before n) (further n names) in
    omega (
      arith,
      l,
      at_most (is_ne (bytes_cmp before n)),
      further_size n names,
      sum_by-cons size_of n names,
    ) where
      at_most : (b : Bool) → length (if b then 44 ∷ n else []) ≤ length n + 1
      at_most true = omega arith
      at_most false = omega arith

ascending_size : (names : List (List ℕ)) → length (ascending_text names) ≤ names_size names
ascending_size [] = omega arith
ascending_size (n ∷ names) =
    let l = length-append n (further n names) in
    omega (arith, l, further_size n names, sum_by-cons size_of n names)

-- ---- names that are gathered

-- What names are with those of a text after them.
pub record Gathers (names : List (List ℕ)) (text : List ℕ) (count size room left : ℕ)
    : Type 0 where
  pub has_room : HasRoom (names ++ names_in text) count size room
  pub left_is : (room - names_size (names ++ names_in text)) + (length text + 1) ≡ left

pub gathers : (names : List (List ℕ)) (text : List ℕ) (count size room left : ℕ)
    → HasRoom names count size room → left ≡ room - names_size names
    → All IsName (names_in text) → length text + 1 ≤ left
    → Gathers names text count size room left
gathers names text count size room left h l a fits =
    let more = sum_by-append size_of names (names_in text) in
    let own = text_size text in
    record {
      has_room = record {
        each = all_append names (names_in text) h.each a;
        within = omega (arith, more, own, l, fits, h.within);
        enough = h.enough;
        text = h.text;
      };
      left_is = omega (arith, more, own, l, fits, h.within);
    }

-- there is room for one more of them
pub one_more : (names done : List (List ℕ)) (rest : List ℕ) (count size room : ℕ)
    → HasRoom names count size room → done ++ names_in rest ≡ names → length done < count
one_more names done rest count size room h e =
    let all = ap length e in
    omega (
      arith,
      all,
      length-append done (names_in rest),
      length-slice_split (λ b. b == 44) rest,
      few names (recursion_from_All IsName names h.each),
      h.within,
      h.enough,
    )

-- What the text of names is, once they are sorted.
pub record Unites (names : List (List ℕ)) (text : List ℕ) : Type 0 where
  pub is : names_in text ≡ union bytes_cmp names []
  pub each : All IsName (names_in text)
  pub size : length text ≤ names_size names

pub unites : (names sorted shown : List (Bor (List ℕ))) (own : List (List ℕ)) (text : List ℕ)
    → IsPermutation names sorted → IsSorted names_cmp sorted → shown ≡ sorted
    → map (λ n. n.now) names ≡ own → (own ≡ [] → ⊥) → All IsName (map (λ n. n.now) names)
    → text ≡ ascending_text (map (λ n. n.now) shown) → Unites own text
unites names sorted shown own text p s f e some a t =
    let same = sum_by-IsPermutation size_of (map (λ n. n.now) names) (map (λ n. n.now) sorted)
    (IsPermutation-map (λ (n : Bor (List ℕ)). n.now) names sorted p) in
    let sizes = ap names_size e in
    let is = t ∙ ap (λ (ns : List (Bor (List ℕ))). ascending_text (map (λ n. n.now) ns)) f in
    let long = ap length is in
    let united = union bytes_cmp own [] in
    let named = united_names own (subst (All IsName) e a) in
    let in_text = ap names_in (is ∙ text_of_sort names sorted p s
    ∙ ap (λ ns. join_with_byte 44 (union bytes_cmp ns [])) e)
    ∙ names_joined united (united_some own (some_of own some)) named in
    record {
      is = in_text;
      each = subst (All IsName) (sym in_text) named;
      size = omega (arith, same, sizes, long, ascending_size (map (λ n. n.now) sorted));
    } where
      some_of : (ns : List (List ℕ)) → (ns ≡ [] → ⊥) → 0 < length ns
      some_of [] h = absurd (h refl)
      some_of (n ∷ ns) h = omega arith

-- it fits in the room
pub text_fits : (names sorted shown : List (Bor (List ℕ))) → IsPermutation names sorted
    → shown ≡ sorted
    → length (ascending_text (map (λ n. n.now) shown)) ≤ names_size (map (λ n. n.now) names)
text_fits names sorted shown p f =
    let same = sum_by-IsPermutation size_of (map (λ n. n.now) names) (map (λ n. n.now) sorted)
    (IsPermutation-map (λ (n : Bor (List ℕ)). n.now) names sorted p) in
    let long = ap (λ (ns : List (Bor (List ℕ))). length (ascending_text (map (λ n. n.now) ns))) f in
    omega (arith, same, long, ascending_size (map (λ n. n.now) sorted))
