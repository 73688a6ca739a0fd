-- Lemmas on texts that are put together element by element, and on bytes as texts show them.
use Rattle.aprs_io.proofs.Common.{◌≡◌, ℕ, ◌+◌, ◌≤◌, ◌<◌, List, [], ◌∷◌, ◌++◌, length, take, Some, None, Option, map, get_or, IfSome, ◌⊎◌, inl, inr, slice_get, refl, ap, sym, ◌∙◌, arith, Bool, true, false, cond, flat_map, list_all, take_more, flat_map_more, and_parts, encode_lower}
use Rattle.std.specs.Option.{option_map}
use Rattle.std.proofs.lemmas.Option.{slice_get_within, slice_get_cases, slice_get-map, get_or_from_slice_get}
use Rattle.aprs_io.specs.Shown.{is_shown_as_is, shown_text}

-- one more element was shown
pub shown-more : {X : Type 0} (f : X → List ℕ) (a b : List ℕ) (xs : List X) (i : ℕ) (x : X)
    → slice_get xs i ≡ Some x → b ≡ a ++ f x
    → (start : List ℕ) → a ≡ start ++ flat_map f (take i xs)
    → b ≡ start ++ flat_map f (take (i + 1) xs)
shown-more f a b xs i x is out start done =
    out ∙ ap (λ l. l ++ f x) done ∙ flat_map_more f start (take i xs) x
    ∙ ap (λ l. start ++ flat_map f l) (ap (λ y. take i xs ++ y ∷ [])
    (sym (get_or_from_slice_get xs i x x is))
    ∙ sym (take_more xs i x (slice_get_within xs i x is)))

-- the same of elements that are made of others
pub shown-each : {X Y : Type 0} (f : Y → List ℕ) (g : X → Y) (a b : List ℕ) (xs : List X) (i : ℕ)
    → i < length xs
    → IfSome (slice_get xs i) (λ x. b ≡ a ++ f (g x))
    → (start : List ℕ) → a ≡ start ++ flat_map f (take i (map g xs)) → b ≡ start
    ++ flat_map f (take (i + 1) (map g xs))
shown-each {X} f g a b xs i within out start done = by (slice_get xs i) refl out
  where
    by : (x : Option X) → slice_get xs i ≡ x → IfSome x (λ x. b ≡ a ++ f (g x)) → b ≡ start
        ++ flat_map f (take (i + 1) (map g xs))
    by None none out = absurd (there ((slice_get_cases xs i).1) none)
      where
        there : ((x : X) × (i < length xs) × (slice_get xs i ≡ Some x) × (get_or xs i x ≡ x))
            ⊎ ((length xs ≤ i) × (slice_get xs i ≡ None))
            → slice_get xs i ≡ None → ⊥
        there (inl x) none = absurd cc (sym x.2 ∙ none)
        there (inr past) none = omega (arith, within, past.0)
    by (Some x) is out = shown-more f a b (map g xs) i (g x)
        (slice_get-map g xs i ∙ ap (option_map g) is) out start done

-- a byte that is shown as itself
shown_byte-plain : (b : ℕ) (rest : List ℕ) (t : Bool) → is_shown_as_is b ≡ t → t ≡ true
    → b ∷ rest ≡ (cond t (b ∷ []) (92 ∷ 120 ∷ encode_lower (b ∷ []))) ++ rest
shown_byte-plain b rest true is e = refl
shown_byte-plain b rest false is e = absurd cc

-- bytes that are shown as themselves
pub shown-plain : (bytes : List ℕ) → list_all is_shown_as_is bytes ≡ true → bytes ≡ shown_text bytes
shown-plain [] e = refl
shown-plain (b ∷ bytes) e =
    let p = and_parts _ _ e in
    ap (λ l. b ∷ l) (shown-plain bytes p.1) ∙ shown_byte-plain b (shown_text bytes) (is_shown_as_is b) refl p.0
