-- Names that are put into a text one after another, with commas between.
use Rattle.aprs_rows.proofs.Common.{◌≡◌, ◌∙◌, ℕ, ◌+◌, ◌<◌, List, [], ◌∷◌, ◌++◌, length, get_or, take, sym, ap, subst, append_assoc, take_more, All-push, All, join_with_byte, flat_map, IsName}
use Rattle.std.proofs.Common.{append-nil}
use Rattle.std.proofs.lemmas.List.Concat.{flat_map-append}

abbrev pub after_comma : List ℕ → List ℕ
after_comma name = 44 ∷ name

joined : (x : List ℕ) (xs : List (List ℕ))
    → join_with_byte 44 (x ∷ xs) ≡ x ++ flat_map after_comma xs
joined x [] = sym (append-nil x)
joined x (y ∷ ys) = ap (λ l. x ++ 44 ∷ l) (joined y ys)

-- the first name, and each of the others after a comma
pub joined_first : (names : List (List ℕ)) (x bytes : List ℕ) (xs : List (List ℕ)) → names ≡ x ∷ xs
    → bytes ≡ x → join_with_byte 44 names ≡ bytes ++ flat_map after_comma xs
joined_first names x bytes xs e is =
    ap (join_with_byte 44) e ∙ joined x xs ∙ ap (λ l. l ++ flat_map after_comma xs) (sym is)

-- one name more
pub more_text : (start text : List ℕ) (names : List (List ℕ)) (i : ℕ) (name : List ℕ)
    → i < length names → name ≡ get_or names i name
    → text ≡ start ++ flat_map after_comma (take i names)
    → (text ++ 44 ∷ []) ++ name ≡ start ++ flat_map after_comma (take (i + 1) names)
more_text start text names i name lt is so =
    append_assoc text (44 ∷ []) name ∙ ap (λ t. t ++ 44 ∷ name) so
    ∙ append_assoc start (flat_map after_comma (take i names)) (44 ∷ name)
    ∙ ap (λ t. start ++ (flat_map after_comma (take i names) ++ t)) (sym (append-nil (44 ∷ name)))
    ∙ ap (λ t. start ++ t) (sym (flat_map-append after_comma (take i names) (name ∷ [])))
    ∙ ap (λ (n : List ℕ). start ++ flat_map after_comma (take i names ++ n ∷ [])) is
    ∙ ap (λ t. start ++ flat_map after_comma t) (sym (take_more names i name lt))

pub more_names : (names : List (List ℕ)) (i : ℕ) (name : List ℕ) → i < length names
    → name ≡ get_or names i name → All IsName (take i names) → IsName name
    → All IsName (take (i + 1) names)
more_names names i name lt is h n =
    subst (All IsName) (ap (λ (y : List ℕ). take i names ++ y ∷ []) is
    ∙ sym (take_more names i name lt)) (All-push IsName (take i names) name h n)
