-- What is read first in a text, from the left.
use Rattle.aprs_details.proofs.Common.{◌≡◌, ℕ, suc, ◌+◌, ◌<◌, ◌≤◌, List, [], ◌∷◌, length, drop, get_or, Option, Some, None, refl, sym, ap, ◌∙◌, add-one, drop-cons, drop_all}
use Rattle.aprs_details.specs.First.{first_in, or_other}

first_cons : {A : Type 0} (reading : List ℕ → Option A) (b : ℕ) (bs : List ℕ) →
    first_in reading (b ∷ bs) ≡ or_other (reading (b ∷ bs)) (first_in reading bs)
unfolding first_in
first_cons reading b bs = refl

first_nothing : {A : Type 0} (reading : List ℕ → Option A) → first_in reading [] ≡ None
unfolding first_in
first_nothing reading = refl

first_here : {A : Type 0} (reading : List ℕ → Option A) (text : List ℕ) (i : ℕ) → i < length text →
    first_in reading (drop i text) ≡ or_other (reading (drop i text)) (first_in reading (drop (suc i) text))
first_here {A} reading text i lt =
    let here : drop i text ≡ get_or text i 0 ∷ drop (suc i) text = drop-cons text i 0 lt in
    ap (first_in reading) here ∙ first_cons reading (get_or text i 0) (drop (suc i) text)
    ∙ ap (λ (l : List ℕ). or_other (reading l) (first_in reading (drop (suc i) text))) (sym here)

pub first_goes_on : {A : Type 0} (reading : List ℕ → Option A) (text : List ℕ) (i : ℕ) (t : Option A) →
    i < length text → reading (drop i text) ≡ None → first_in reading (drop i text) ≡ t →
    first_in reading (drop (i + 1) text) ≡ t
first_goes_on {A} reading text i t lt none h =
    ap (λ (k : ℕ). first_in reading (drop k text)) (add-one i)
    ∙ sym (first_here reading text i lt
    ∙ ap (λ (o : Option A). or_other o (first_in reading (drop (suc i) text))) none) ∙ h

pub first_stops : {A : Type 0} (reading : List ℕ → Option A) (text : List ℕ) (i : ℕ) (x : A) (t : Option A) →
    i < length text → reading (drop i text) ≡ Some x → first_in reading (drop i text) ≡ t → Some x ≡ t
first_stops {A} reading text i x t lt some h =
    sym (first_here reading text i lt
    ∙ ap (λ (o : Option A). or_other o (first_in reading (drop (suc i) text))) some) ∙ h

pub first_ends : {A : Type 0} (reading : List ℕ → Option A) (text : List ℕ) (i : ℕ) (t : Option A) →
    length text ≤ i → first_in reading (drop i text) ≡ t → None ≡ t
first_ends reading text i t le h =
    sym (ap (first_in reading) (drop_all i text le) ∙ first_nothing reading) ∙ h
