-- What a reading finds first begins first in the text, and the other way, where what it finds at a
-- place is what begins there.
use Rattle.aprs_details.proofs.Common.{◌≡◌, ℕ, List, [], ◌∷◌, ◌++◌, Option, Some, None, refl, sym, ap, subst, ◌∙◌}
use Rattle.aprs_details.specs.First.{first_in, or_other}
use Rattle.aprs_details.specs.IsFirst.{IsFirst}

-- The reading finds at the start of a text exactly what begins there, and nothing in no text.
pub record FindsWhatBegins {A : Type 0} (Begins : A → List ℕ → Type 0) (reading : List ℕ → Option A) : Type 0 where
  pub found : (text : List ℕ) (x : A) → reading text ≡ Some x → Begins x text
  pub takes : (text : List ℕ) (x : A) → Begins x text → reading text ≡ Some x
  pub nothing : reading [] ≡ None

step : {A : Type 0} (reading : List ℕ → Option A) (b : ℕ) (bs : List ℕ) →
    first_in reading (b ∷ bs) ≡ or_other (reading (b ∷ bs)) (first_in reading bs)
unfolding first_in
step reading b bs = refl

none_of_nothing : {A : Type 0} (reading : List ℕ → Option A) (x : A) → first_in reading [] ≡ Some x → ⊥
unfolding first_in
none_of_nothing reading x e = absurd cc

no_parts : (start later : List ℕ) (b : ℕ) → [] ≡ start ++ (b ∷ later) → ⊥
no_parts [] later b e = absurd cc
no_parts (s ∷ start) later b e = absurd cc

none_some : {A : Type 0} (o : Option A) (x : A) → o ≡ None → o ≡ Some x → ⊥
none_some o x e h = absurd cc

-- nothing before a later one begins so, where nothing does here
before_later : {A : Type 0} (Begins : A → List ℕ → Type 0) (reading : List ℕ → Option A)
    (h : FindsWhatBegins Begins reading) (b : ℕ) (before text : List ℕ) →
    reading (b ∷ (before ++ text)) ≡ None →
    ((start later : List ℕ) (c : ℕ) (y : A) → before ≡ start ++ (c ∷ later) →
    Begins y (c ∷ (later ++ text)) → ⊥) →
    (start later : List ℕ) (c : ℕ) (y : A) → b ∷ before ≡ start ++ (c ∷ later) →
    Begins y (c ∷ (later ++ text)) → ⊥
before_later {A} Begins reading h b before text none others [] later c y e k =
    let same : c ≡ b = cc in
    let rest : later ≡ before = cc in
    none_some (reading (b ∷ (before ++ text))) y none
    (h.takes (b ∷ (before ++ text)) y
    (subst (λ (l : List ℕ). Begins y l)
    (ap (λ (c : ℕ). c ∷ (later ++ text)) same ∙ ap (λ (l : List ℕ). b ∷ (l ++ text)) rest) k))
before_later {A} Begins reading h b before text none others (s ∷ start) later c y e k =
    let rest : before ≡ start ++ (c ∷ later) = cc in
    others start later c y rest k

here_or_later : {A : Type 0} (Begins : A → List ℕ → Type 0) (reading : List ℕ → Option A)
    (h : FindsWhatBegins Begins reading) (b : ℕ) (bs : List ℕ) (x : A) (o : Option A) →
    reading (b ∷ bs) ≡ o → or_other o (first_in reading bs) ≡ Some x →
    (first_in reading bs ≡ Some x → IsFirst Begins x bs) → IsFirst Begins x (b ∷ bs)
here_or_later {A} Begins reading h b bs x (Some y) at e later = record {
  before = [];
  rest = b ∷ bs;
  whole = refl;
  begins = h.found (b ∷ bs) x (at ∙ e);
  first = λ start middle c z parts k. no_parts start middle c parts;
}
here_or_later {A} Begins reading h b bs x None at e later =
    let k = later e in
    record {
      before = b ∷ k.before;
      rest = k.rest;
      whole = ap (λ (l : List ℕ). b ∷ l) k.whole;
      begins = k.begins;
      first = before_later Begins reading h b k.before k.rest
          (ap (λ (l : List ℕ). reading (b ∷ l)) (sym k.whole) ∙ at) k.first;
    }

pub first_found : {A : Type 0} (Begins : A → List ℕ → Type 0) (reading : List ℕ → Option A)
    (h : FindsWhatBegins Begins reading) (text : List ℕ) (x : A) → first_in reading text ≡ Some x →
    IsFirst Begins x text
first_found Begins reading h [] x e = absurd (none_of_nothing reading x e)
first_found Begins reading h (b ∷ bs) x e =
    here_or_later Begins reading h b bs x (reading (b ∷ bs)) refl (sym (step reading b bs) ∙ e)
    (λ k. first_found Begins reading h bs x k)

-- ---- and the other way

takes_here : {A : Type 0} (Begins : A → List ℕ → Type 0) (reading : List ℕ → Option A)
    (h : FindsWhatBegins Begins reading) (text : List ℕ) (x : A) → Begins x text →
    first_in reading text ≡ Some x
takes_here Begins reading h [] x k = absurd (none_some (reading []) x h.nothing (h.takes [] x k))
takes_here {A} Begins reading h (b ∷ bs) x k =
    step reading b bs ∙ ap (λ (o : Option A). or_other o (first_in reading bs)) (h.takes (b ∷ bs) x k)

takes_by : {A : Type 0} (Begins : A → List ℕ → Type 0) (reading : List ℕ → Option A)
    (h : FindsWhatBegins Begins reading) (b : ℕ) (bs : List ℕ) (x : A) →
    ((y : A) → Begins y (b ∷ bs) → ⊥) → (o : Option A) → reading (b ∷ bs) ≡ o →
    first_in reading bs ≡ Some x → first_in reading (b ∷ bs) ≡ Some x
takes_by Begins reading h b bs x never (Some y) at e = absurd (never y (h.found (b ∷ bs) y at))
takes_by {A} Begins reading h b bs x never None at e =
    step reading b bs ∙ ap (λ (o : Option A). or_other o (first_in reading bs)) at ∙ e

takes_after : {A : Type 0} (Begins : A → List ℕ → Type 0) (reading : List ℕ → Option A)
    (h : FindsWhatBegins Begins reading) (before text : List ℕ) (x : A) → Begins x text →
    ((start later : List ℕ) (c : ℕ) (y : A) → before ≡ start ++ (c ∷ later) →
    Begins y (c ∷ (later ++ text)) → ⊥) → first_in reading (before ++ text) ≡ Some x
takes_after Begins reading h [] text x k others = takes_here Begins reading h text x k
takes_after Begins reading h (b ∷ before) text x k others =
    takes_by Begins reading h b (before ++ text) x (λ y m. others [] before b y refl m)
    (reading (b ∷ (before ++ text))) refl
    (takes_after Begins reading h before text x k (λ start later c y e m.
    others (b ∷ start) later c y (ap (λ (l : List ℕ). b ∷ l) e) m))

pub first_takes : {A : Type 0} (Begins : A → List ℕ → Type 0) (reading : List ℕ → Option A)
    (h : FindsWhatBegins Begins reading) (text : List ℕ) (x : A) → IsFirst Begins x text →
    first_in reading text ≡ Some x
first_takes Begins reading h text x k =
    ap (first_in reading) k.whole ∙ takes_after Begins reading h k.before k.rest x k.begins k.first
