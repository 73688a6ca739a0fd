-- The number that a text has between braces at its end.
use Rattle.aprs_summary.proofs.Common.{◌≡◌, ◌∙◌, ◌&&◌, ℕ, true, List, [], ◌∷◌, ◌++◌, Option, Some, None, ap, arith, eqb, eqb-true, refl, sym, inl, inr, ◌⊎◌, and_from, and_parts}
use Rattle.std.specs.Option.{option_or}
use Rattle.aprs_report.proofs.Steps.{guarded_some, guarded_takes, if_some}
use Rattle.aprs_report.specs.Reader.{value_when}
use Rattle.aprs_summary.specs.Messages.{HasNumber, Message}
use Rattle.aprs_summary.specs.MessageRows.{number_without}
use Rattle.aprs_summary.specs.ReplyAcks.{is_message_number, is_number_or_nothing}
use Rattle.aprs_summary.specs.ReplyTexts.{HoldsOnly, closed_number, trailing_number, number_of_two}
use Rattle.aprs_summary.proofs.ReplyTexts.{Has, letters, not_empty, numbered_once}

either_some : {A : Type 0} (o p : Option A) (x : A) → option_or o p ≡ Some x
    → (o ≡ Some x) ⊎ (p ≡ Some x)
either_some (Some y) p x h = inl h
either_some None p x h = inr h

both_none : {A : Type 0} (o p : Option A) → option_or o p ≡ None → (o ≡ None) × (p ≡ None)
both_none (Some y) p h = absurd cc
both_none None p h = (refl, h)

-- ---- after the opening brace

record IsClosed (number bytes : List ℕ) : Type 0 where
  acknowledged : List ℕ
  a_number : is_message_number number ≡ true
  a_number_or_nothing : is_number_or_nothing acknowledged ≡ true
  whole : bytes ≡ number ++ 125 ∷ acknowledged

closed_by : (number : List ℕ) (brace : ℕ) (rest n : List ℕ)
    → value_when (eqb brace 125 && is_message_number number && is_number_or_nothing rest) number
    ≡ Some n → IsClosed n (number ++ brace ∷ rest)
closed_by number brace rest n h =
    let g = guarded_some (eqb brace 125 && is_message_number number && is_number_or_nothing rest)
    number n h in
    let d = and_parts (eqb brace 125 && is_message_number number) (is_number_or_nothing rest) g.0 in
    let f = and_parts (eqb brace 125) (is_message_number number) d.0 in
    record {
      acknowledged = rest;
      a_number = ap is_message_number (sym g.1) ∙ f.1;
      a_number_or_nothing = d.1;
      whole = ap (λ (b : ℕ). number ++ b ∷ rest) (eqb-true brace 125 f.0)
          ∙ ap (λ (l : List ℕ). l ++ 125 ∷ rest) g.1;
    }

closed_so : (bytes n : List ℕ) → closed_number bytes ≡ Some n → IsClosed n bytes
closed_so [] n h = absurd cc
closed_so (x ∷ []) n h = absurd cc
closed_so (x ∷ y ∷ rest) n h = elim (either_some _ _ n h) [
  | inl e ↦ closed_by (x ∷ []) y rest n e
  | inr e ↦ two rest e
] where
  two : (rest : List ℕ) → number_of_two x y rest ≡ Some n → IsClosed n (x ∷ y ∷ rest)
  two [] e = absurd cc
  two (z ∷ rest) e = closed_by (x ∷ y ∷ []) z rest n e

untaken : (number a : List ℕ) → is_message_number number ≡ true → is_number_or_nothing a ≡ true
    → value_when (is_message_number number && is_number_or_nothing a) number ≡ None → ⊥
untaken number a p q h =
    let t : None ≡ Some number = sym h ∙ guarded_takes
    (is_message_number number && is_number_or_nothing a) number
    (and_from (is_message_number number) (is_number_or_nothing a) p q) in
    absurd cc

closed_there : (n a : List ℕ) → is_message_number n ≡ true → is_number_or_nothing a ≡ true
    → closed_number (n ++ 125 ∷ a) ≡ None → ⊥
closed_there [] a p q h = absurd cc
closed_there (x ∷ []) a p q h = untaken (x ∷ []) a p q (both_none _ _ h).0
closed_there (x ∷ y ∷ []) a p q h = untaken (x ∷ y ∷ []) a p q (both_none _ _ h).1
closed_there (x ∷ y ∷ z ∷ n) a p q h =
    absurd (omega (arith, (letters (x ∷ y ∷ z ∷ n) (not_empty (x ∷ y ∷ z ∷ n) p).1).0))

-- ---- of a text

number_found : (text n : List ℕ) → trailing_number text ≡ Some n → Has text n
number_found [] n h = absurd cc
number_found (b ∷ text) n h = elim (either_some _ _ n h) [
  | inl e ↦ (let g = if_some (eqb b 123) (closed_number text) n e in
      let s = closed_so text n g.1 in (
        s.acknowledged,
        record {
          body = [];
          a_number = s.a_number;
          a_number_or_nothing = s.a_number_or_nothing;
          whole = ap (λ (t : List ℕ). b ∷ t) s.whole
              ∙ ap (λ (c : ℕ). c ∷ (n ++ 125 ∷ s.acknowledged)) (eqb-true b 123 g.0);
        },
      ))
  | inr e ↦ (let s = number_found text n e in (
    s.0,
    record {
      body = b ∷ s.1.body;
      a_number = s.1.a_number;
      a_number_or_nothing = s.1.a_number_or_nothing;
      whole = ap (λ (t : List ℕ). b ∷ t) s.1.whole;
    },
  ))
]

number_there : (n a body : List ℕ) → is_message_number n ≡ true → is_number_or_nothing a ≡ true
    → trailing_number (body ++ 123 ∷ (n ++ 125 ∷ a)) ≡ None → ⊥
number_there n a [] p q h = closed_there n a p q (both_none _ _ h).0
number_there n a (b ∷ body) p q h = number_there n a body p q (both_none _ _ h).1

text_number : (text : List ℕ) → HoldsOnly (Has text) (trailing_number text)
text_number text n = (number_found text n, λ h. there (trailing_number text) refl h) where
  there : (o : Option (List ℕ)) → trailing_number text ≡ o → Has text n → trailing_number text ≡ Some n
  there None e h = absurd (number_there n h.0 h.1.body h.1.a_number h.1.a_number_or_nothing
      (ap trailing_number (sym h.1.whole) ∙ e))
  there (Some m) e h = let f = number_found text m e in
      e ∙ ap (λ (p : List ℕ × List ℕ). Some p.0)
      (numbered_once text (m, f.0) (n, h.0) f.1 h.1)

without_id : (id number : Option (List ℕ)) (n : List ℕ) → number_without id number ≡ Some n
    → (id ≡ None) × (number ≡ Some n)
without_id None number n h = (refl, h)
without_id (Some i) number n h = absurd cc

-- the number that a message has is this alone
pub message_number : (m : Message) → HoldsOnly (HasNumber m) (number_without m.id (trailing_number m.text))
message_number m n = (
  λ e. (let w = without_id m.id (trailing_number m.text) n e in
      (w.0, (text_number m.text n).0 w.1)),
  λ h. ap (λ (o : Option (List ℕ)). number_without o (trailing_number m.text)) h.0
      ∙ (text_number m.text n).1 h.1,
)
