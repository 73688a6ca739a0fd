-- Texts that lack a byte, and where they are cut.
use Rattle.aprs_details.proofs.Common.{◌≡◌, ℕ, suc, ◌≤◌, Bool, true, false, cond, List, [], ◌∷◌, ◌++◌, length, take, Option, Some, None, refl, sym, ap, subst, ◌∙◌, arith, take_all, some_is}
use Rattle.std.specs.List.{position_or_len, before_first}
use Rattle.std.proofs.lemmas.Bool.Decides.{nat_tests}
use Rattle.aprs_io.specs.Cut.{Cut, Lacks, cut_at, first_cut, has_byte, is_byte}
use Rattle.aprs_io.proofs.Cuts.{cut_at-missing}
use Rattle.aprs_report.specs.Reader.{◌>>=◌}
use Rattle.aprs_report.proofs.Steps.{if_some}

-- a step that has a value, and the next ones from there
pub then_some : {A B : Type 0} (o : Option A) (x : A) (f : A → Option B) (r : Option B) →
    o ≡ Some x → f x ≡ r → (o >>= f) ≡ r
then_some o x f r e h = ap (λ o. o >>= f) e ∙ h

pub none_some : {A : Type 0} (x : A) → ◌≡◌ {A = Option A} None (Some x) → ⊥
none_some x e = absurd cc

pub lacks_append : (stop : ℕ) (a b : List ℕ) → Lacks stop a → Lacks stop b → Lacks stop (a ++ b)
lacks_append stop [] b h k = k
lacks_append stop (x ∷ a) b h k = (h.0, lacks_append stop a b h.1 k)

first_is : (stop x : ℕ) (text : List ℕ) → is_byte stop x ≡ true →
    position_or_len (is_byte stop) (x ∷ text) ≡ 0
first_is stop x text h = rw h refl

first_is_not : (stop x : ℕ) (text : List ℕ) → is_byte stop x ≡ false →
    position_or_len (is_byte stop) (x ∷ text) ≡ suc (position_or_len (is_byte stop) text)
first_is_not stop x text h = rw h (omega arith)

-- what stands before the first such byte lacks it
pub before_lacks : (stop : ℕ) (text : List ℕ) → Lacks stop (before_first (is_byte stop) text)
before_lacks stop [] = tt
before_lacks stop (x ∷ text) = go (is_byte stop x) refl (before_lacks stop text)
  where
    go : (t : Bool) → is_byte stop x ≡ t → Lacks stop (before_first (is_byte stop) text) →
        Lacks stop (before_first (is_byte stop) (x ∷ text))
    go true e h = subst (λ (n : ℕ). Lacks stop (take n (x ∷ text))) (sym (first_is stop x text e)) tt
    go false e h =
        subst (λ (n : ℕ). Lacks stop (take n (x ∷ text))) (sym (first_is_not stop x text e)) (e, h)

all_before : (stop : ℕ) (text : List ℕ) → Lacks stop text →
    position_or_len (is_byte stop) text ≡ length text
all_before stop [] h = refl
all_before stop (x ∷ text) h = first_is_not stop x text h.0 ∙ ap suc (all_before stop text h.1)

-- a text that lacks the byte isn't cut, and one that isn't cut lacks it
pub cut_at-lacks : (stop : ℕ) (text : List ℕ) → Lacks stop text → cut_at stop text ≡ None
cut_at-lacks stop text h = sym (cut_at-missing stop text (omega (arith, all_before stop text h)))

pub cut_at-before : (stop : ℕ) (text : List ℕ) (cut : Cut) → cut_at stop text ≡ Some cut →
    Lacks stop cut.before
unfolding cut_at
cut_at-before stop text cut e =
    let f = if_some (has_byte stop text) (Some (first_cut stop text)) cut e in
    subst (λ (c : Cut). Lacks stop c.before) (some_is (first_cut stop text) cut f.1)
    (before_lacks stop text)

none_if : (b : Bool) (x : Cut) → cond b (Some x) None ≡ None → b ≡ false
none_if true x e = absurd cc
none_if false x e = refl

pub cut_at-none : (stop : ℕ) (text : List ℕ) → cut_at stop text ≡ None → Lacks stop text
unfolding cut_at
cut_at-none stop text e =
    let has : has_byte stop text ≡ false = none_if (has_byte stop text) (first_cut stop text) e in
    let le : length text ≤ position_or_len (is_byte stop) text = grind (arith, nat_tests) in
    subst (Lacks stop) (take_all (position_or_len (is_byte stop) text) text le)
    (before_lacks stop text)
