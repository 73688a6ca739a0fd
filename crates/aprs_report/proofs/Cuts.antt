-- Cutting bytes at the end, one at a time.
use Rattle.aprs_report.proofs.Common.{◌≡◌, ℕ, suc, ◌-◌, ◌<◌, Bool, true, false, List, [], ◌∷◌, ◌++◌, length, take, get_or, refl, sym, ap, ◌∙◌, arith, take-append-drop, drop_all, list_all, cond_both, and_from, and_parts, drop-cons}
use Rattle.aprs_report.specs.Reader.{byte_before, cut_end}
use Rattle.aprs_report.specs.Trailing.{ends_in, IsTrimmed}

cut_push : (p : ℕ → Bool) (xs : List ℕ) (b : ℕ) → p b ≡ true →
    cut_end p (xs ++ b ∷ []) ≡ cut_end p xs
unfolding cut_end
cut_push p [] b h = rw h refl
cut_push p (x ∷ xs) b h = ap (byte_before p x) (cut_push p xs b h)

kept_more : (p : ℕ → Bool) (x : ℕ) (xs : List ℕ) (b : ℕ) →
    byte_before p x (xs ++ b ∷ []) ≡ x ∷ (xs ++ b ∷ [])
kept_more p x [] b = refl
kept_more p x (y ∷ xs) b = refl

cut_stays : (p : ℕ → Bool) (xs : List ℕ) (b : ℕ) → p b ≡ false →
    cut_end p (xs ++ b ∷ []) ≡ xs ++ b ∷ []
unfolding cut_end
cut_stays p [] b h = rw h refl
cut_stays p (x ∷ xs) b h = ap (byte_before p x) (cut_stays p xs b h) ∙ kept_more p x xs b

last_apart : (xs : List ℕ) → 0 < length xs → xs ≡ take (length xs - 1) xs ++
    get_or xs (length xs - 1) 0 ∷ []
last_apart xs lt =
    sym (take-append-drop (length xs - 1) xs) ∙ ap (λ (r : List ℕ). take (length xs - 1) xs ++ r)
    (drop-cons xs (length xs - 1) 0 (omega arith)
    ∙ ap (λ (r : List ℕ). get_or xs (length xs - 1) 0 ∷ r)
    (drop_all (suc (length xs - 1)) xs (omega arith)))

pub cut_one : (p : ℕ → Bool) (xs : List ℕ) → 0 < length xs →
    p (get_or xs (length xs - 1) 0) ≡ true → cut_end p (take (length xs - 1) xs) ≡ cut_end p xs
cut_one p xs lt h =
    sym (cut_push p (take (length xs - 1) xs) (get_or xs (length xs - 1) 0) h)
    ∙ ap (cut_end p) (sym (last_apart xs lt))

pub cut_none : (p : ℕ → Bool) (xs : List ℕ) → 0 < length xs →
    p (get_or xs (length xs - 1) 0) ≡ false → xs ≡ cut_end p xs
cut_none p xs lt h =
    last_apart xs lt ∙ sym (cut_stays p (take (length xs - 1) xs) (get_or xs (length xs - 1) 0) h)
    ∙ ap (cut_end p) (sym (last_apart xs lt))

pub cut_nothing : (p : ℕ → Bool) (xs : List ℕ) → length xs ≡ 0 → xs ≡ cut_end p xs
unfolding cut_end
cut_nothing p [] e = refl
cut_nothing p (x ∷ xs) e = absurd (omega arith)

-- ---- the laws

kept_stops : (p : ℕ → Bool) (b : ℕ) (xs : List ℕ) → ends_in p xs ≡ false →
    ends_in p (byte_before p b xs) ≡ false
kept_stops p b [] h =
    cond_both (p b) [] (b ∷ []) (λ (l : List ℕ). ends_in p l ≡ false) (λ _. refl) (λ e. e)
kept_stops p b (x ∷ xs) h = h

cut_stops : (p : ℕ → Bool) (bytes : List ℕ) → ends_in p (cut_end p bytes) ≡ false
unfolding cut_end
cut_stops p [] = refl
cut_stops p (b ∷ bytes) = kept_stops p b (cut_end p bytes) (cut_stops p bytes)

-- one byte more before what was cut
more_cut : (p : ℕ → Bool) (b : ℕ) (bytes left ending : List ℕ) → bytes ≡ left ++ ending →
    list_all p ending ≡ true
    → (rest : List ℕ) × (b ∷ bytes ≡ byte_before p b left ++ rest) × (list_all p rest ≡ true)
more_cut p b bytes [] ending whole cut =
    cond_both (p b) [] (b ∷ []) (λ (l : List ℕ). (rest : List ℕ) × (b ∷ bytes ≡ l ++ rest) ×
    (list_all p rest ≡ true))
    (λ e. (b ∷ ending, ap (λ (t : List ℕ). b ∷ t) whole, and_from _ _ e cut))
    (λ _. (ending, ap (λ (t : List ℕ). b ∷ t) whole, cut))
more_cut p b bytes (x ∷ left) ending whole cut = (ending, ap (λ (t : List ℕ). b ∷ t) whole, cut)

cut_parts : (p : ℕ → Bool) (bytes : List ℕ) →
    (ending : List ℕ) × (bytes ≡ cut_end p bytes ++ ending) × (list_all p ending ≡ true)
unfolding cut_end
cut_parts p [] = ([], refl, refl)
cut_parts p (b ∷ bytes) =
    let more = cut_parts p bytes in more_cut p b bytes (cut_end p bytes) more.0 more.1 more.2

pub cut_found : (p : ℕ → Bool) (bytes : List ℕ) → IsTrimmed p (cut_end p bytes) bytes
cut_found p bytes =
    let parts = cut_parts p bytes in
    record { ending = parts.0; whole = parts.1; cut = parts.2; stops = cut_stops p bytes }

all_cut : (p : ℕ → Bool) (ending : List ℕ) → list_all p ending ≡ true → cut_end p ending ≡ []
unfolding cut_end
all_cut p [] h = refl
all_cut p (b ∷ ending) h =
    let d = and_parts (p b) (list_all p ending) h in
    rw (all_cut p ending d.1, d.0) refl

left_alone : (p : ℕ → Bool) (left ending : List ℕ) → ends_in p left ≡ false →
    list_all p ending ≡ true → cut_end p (left ++ ending) ≡ left
unfolding cut_end
left_alone p [] ending stops cut = all_cut p ending cut
left_alone p (b ∷ []) ending stops cut = rw (all_cut p ending cut, stops) refl
left_alone p (b ∷ x ∷ left) ending stops cut =
    ap (byte_before p b) (left_alone p (x ∷ left) ending stops cut)

pub cut_takes : (p : ℕ → Bool) (left bytes : List ℕ) → IsTrimmed p left bytes → cut_end p bytes
    ≡ left
cut_takes p left bytes h = ap (cut_end p) h.whole ∙ left_alone p left h.ending h.stops h.cut
