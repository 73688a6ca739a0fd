-- Lemmas on the book of inputs that were all read, where an allocation failed for it.
use Rattle.aprs_runs.proofs.Common.{◌≡◌, ◌∙◌, ℕ, ◌-◌, List, [], ◌∷◌, ◌++◌, length, Option, Ok, Err, inr, refl, sym, ap, subst, arith, length-append, length-map, Sends, Counted, Sends-err, Sends-ok, BookOf, BookValue, millis_of, one_book, book_of_nothing, written_text, Received}
use Rattle.aprs_runs.specs.Gathered.{ReadsEach, WritesText}
use Rattle.aprs_runs.specs.Inputs.{GivesSet}
use Rattle.aprs_runs.specs.Several.{GiveUnion, GotOf, IsFirstRefused}
use Rattle.aprs_runs.proofs.Merges.{HoldsOfEach, refused_after}
use Rattle.aprs_runs.specs.declared.fault.InputFault.TheVariants.{Memory}
use Rattle.aprs_runs.specs.declared.fault.RunFault.{RunFault}
use Rattle.aprs_runs.specs.declared.fault.RunFault.TheVariants.{Write}
use Rattle.aprs_runs.specs.declared.gathered.OutputFault.{OutputFault}
use Rattle.aprs_runs.specs.declared.gathered.OutputFault.TheVariants as output

-- the last of inputs that are faultless, and those before it
record Last (gap limit : ℕ) (gots : List (GotOf limit)) : Type 0 where
  before : List (GotOf limit)
  at : GotOf limit
  whole : gots ≡ before ++ at ∷ []
  first : (S : List Received) × GiveUnion gap before S
  last : (T : List Received) × GivesSet gap at.text at.ending T

last_of : (gap limit : ℕ) (g : GotOf limit) (gots : List (GotOf limit)) (S : List Received)
    → GiveUnion gap (g ∷ gots) S → Last gap limit (g ∷ gots)
last_of gap limit g [] S h =
    record { before = []; at = g; whole = refl; first = ([], refl); last = (h.0, h.2) }
last_of gap limit g (x ∷ gots) S h =
    let rest = last_of gap limit x gots h.1 h.3 in
    let union = h.0 ++ rest.first.0 in
    record {
      before = g ∷ rest.before;
      at = rest.at;
      whole = ap (λ l. g ∷ l) rest.whole;
      first = (union, (h.0, rest.first.0, h.2, rest.first.1, λ s. (λ k. k, λ k. k)));
      last = rest.last;
    }

refused : (gap limit n : ℕ) (gots : List (GotOf limit)) (b : BookValue) → length gots ≡ n
    → ReadsEach gap (Ok b) gots → (b.rows ≡ [] → ⊥) → IsFirstRefused gap gots (n - 1) Memory
refused gap limit n [] b e read some =
    absurd (some (one_book (millis_of gap) [] b.rows []
    (subst (λ S. BookOf (millis_of gap) S b.rows) read.1.1 read.1.2)
    (book_of_nothing (millis_of gap))))
refused gap limit n (g ∷ gots) b e read some =
    let its = last_of gap limit g gots read.1.0 read.1.1 in
    let all = ap length its.whole in
    let parts = length-append its.before (its.at ∷ []) in
    let number : n - 1 ≡ length its.before = omega (arith, all, parts, e) in
    subst (λ (all : List (GotOf limit)). IsFirstRefused gap all (n - 1) Memory) (sym its.whole)
    (refused_after gap limit (n - 1) its.before [] its.at Memory number its.first (inr its.last))

-- of all inputs, the last is refused
pub refused_at_last : (gap limit n : ℕ) (inputs : List (List ℕ)) (afters : List (Option (List ℕ)))
    (b : BookValue) → HoldsOfEach limit inputs afters (ReadsEach gap (Ok b)) → length inputs ≡ n
    → (b.rows ≡ [] → ⊥)
    → HoldsOfEach limit inputs afters (λ gots. IsFirstRefused gap gots (n - 1) Memory)
refused_at_last gap limit n inputs afters b read e some = (
  read.0,
  read.1,
  read.2,
  refused gap limit n read.0 b
      (sym (ap length read.1 ∙ length-map read.0 (λ (g : GotOf limit). g.text ++ g.rest)) ∙ e)
      read.3 some,
)

-- ---- what was written

module _ {W : Type 0} (contents : W → Option (List ℕ)) (b : BookValue) (old new : Counted W) where
  pub text_sent : WritesText contents (Ok tt) b old new
      → Sends {E = RunFault} contents (Ok tt) old new (written_text b)
  unfolding WritesText
  text_sent h = Sends-ok h

  pub text_cut : (u : OutputFault) → u ≡ output.Write → WritesText contents (Err u) b old new
      → Sends {E = RunFault} contents (Err Write) old new (written_text b)
  unfolding WritesText
  text_cut u e h = Sends-err (Err Write) refl (subst (λ v. WritesText contents (Err v) b old new) e h)

  pub text_none : (u : OutputFault) → u ≡ output.Memory → WritesText contents (Err u) b old new
      → (new ≡ old) × (b.rows ≡ [] → ⊥)
  unfolding WritesText
  text_none u e h = subst (λ v. WritesText contents (Err v) b old new) e h
