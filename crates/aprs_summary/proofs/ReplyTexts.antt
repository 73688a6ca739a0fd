-- A text ends in one way, and has at most one number and one that it acknowledges.
use Rattle.aprs_summary.proofs.Common.{Bool, List, None, Option, Some, [], ap, append_assoc, arith, codes, eqb, false, get_or, leb, length, list_all, list_all-append, length-append, option_map, refl, subst, suc, sym, true, zero, inl, inr, and_from, and_left, and_parts, and_right, eqb-true, le-leb, leb-true, ℕ, ◌&&◌, ◌++◌, ◌<◌, ◌∙◌, ◌∷◌, ◌≡◌, ◌≤◌}
use Rattle.aprs_report.specs.Bytes.{is_alphanumeric}
use Rattle.aprs_report.proofs.Steps.{guarded_some}
use Rattle.aprs_summary.specs.ReplyAcks.{IsAckText, IsNumberedText, IsReplyAckText, is_message_number, is_number_or_nothing}
use Rattle.aprs_summary.specs.ReplyTexts.{EndsAfter, EndsSo, HoldsOnly, number_at}

-- ---- bytes of worked examples

-- the byte at a place, or 0 after the end
abbrev pub byte_at : ℕ → List ℕ → ℕ
byte_at i bytes = get_or bytes i 0

-- what is as long as its end is that end
pub whole_tail : (text body tail : List ℕ) → text ≡ body ++ tail → length text ≡ length tail
    → text ≡ tail
whole_tail text [] tail e l = e
whole_tail text (b ∷ body) tail e l =
    absurd (omega (arith, l, ap length e ∙ length-append (b ∷ body) tail))

-- ---- options that hold just what is so

pub only_some : {X : Type 0} (P : X → Type 0) (a : X) → P a → ((x : X) → P x → a ≡ x)
    → HoldsOnly P (Some a)
only_some {X} P a p u x = (λ e. subst P (held a x e) p, λ q. ap Some (u x q)) where
  held : (a x : X) → ◌≡◌ {A = Option X} (Some a) (Some x) → a ≡ x
  held a x e = cc

pub only_none : {X : Type 0} (P : X → Type 0) → ((x : X) → P x → ⊥) → HoldsOnly P None
only_none {X} P n x = (λ e. absurd (empty x e), λ p. absurd (n x p)) where
  empty : (x : X) → ◌≡◌ {A = Option X} None (Some x) → ⊥
  empty x e = absurd cc

pub held_so : {X : Type 0} (P : X → Type 0) (a : X) → HoldsOnly P (Some a) → P a
held_so P a h = (h a).0 refl

pub one_held : {X : Type 0} (P : X → Type 0) (a x : X) → HoldsOnly P (Some a) → P x → a ≡ x
one_held {X} P a x h p = held ((h x).1 p) where
  held : ◌≡◌ {A = Option X} (Some a) (Some x) → a ≡ x
  held e = cc

pub none_held : {X : Type 0} (P : X → Type 0) (x : X) → HoldsOnly P None → P x → ⊥
none_held {X} P x h p = empty ((h x).1 p) where
  empty : ◌≡◌ {A = Option X} None (Some x) → ⊥
  empty e = absurd cc

-- two options that hold the same are one
pub same_held : {X : Type 0} (P : X → Type 0) (o p : Option X) → HoldsOnly P o → HoldsOnly P p
    → o ≡ p
same_held P (Some x) p h k = sym ((k x).1 (held_so P x h))
same_held P None (Some y) h k = absurd (none_held P y h (held_so P y k))
same_held P None None h k = refl

-- what nothing is so of holds nothing
pub held_none : {X : Type 0} (P : X → Type 0) (o : Option X) → HoldsOnly P o
    → ((x : X) → P x → ⊥) → o ≡ None
held_none P (Some x) h n = absurd (n x (held_so P x h))
held_none P None h n = refl

-- an option that is seen through f, where it is None
pub holds_as : {X Y : Type 0} (P : X → Type 0) (f : Y → X) {o : Option Y} → o ≡ None
    → HoldsOnly P None → HoldsOnly P (option_map f o)
holds_as P f n h = subst (λ t. HoldsOnly P (option_map f t)) (sym n) h

-- ---- ends

true_false : (b : Bool) → b ≡ true → b ≡ false → ⊥
true_false b t f = let e : true ≡ false = sym t ∙ f in absurd (cc)

no_mark : (m : ℕ) (t e : List ℕ) → is_alphanumeric m ≡ false
    → list_all is_alphanumeric (t ++ m ∷ e) ≡ false
no_mark m [] e n = and_left (is_alphanumeric m) (list_all is_alphanumeric e) n
no_mark m (b ∷ t) e n = and_right (is_alphanumeric b) _ (no_mark m t e n)

tails : (x y : ℕ) (xs ys : List ℕ) → x ∷ xs ≡ y ∷ ys → xs ≡ ys
tails x y xs ys e = cc

heads : (x y : ℕ) (xs ys : List ℕ) → x ∷ xs ≡ y ∷ ys → x ≡ y
heads x y xs ys e = cc

one_cut : (m : ℕ) (b e c f : List ℕ) → is_alphanumeric m ≡ false → b ++ m ∷ e ≡ c ++ m ∷ f
    → list_all is_alphanumeric e ≡ true → list_all is_alphanumeric f ≡ true
    → ◌≡◌ {A = List ℕ × List ℕ} (b, e) (c, f)
one_cut m [] e [] f n h p q = ap (λ (t : List ℕ). ([], t)) (tails m m e f h)
one_cut m [] e (y ∷ c) f n h p q =
    absurd (true_false _ (ap (list_all is_alphanumeric) (sym (tails m y e (c ++ m ∷ f) h)) ∙ p)
    (no_mark m c f n))
one_cut m (x ∷ b) e [] f n h p q =
    absurd (true_false _ (ap (list_all is_alphanumeric) (tails x m (b ++ m ∷ e) f h) ∙ q)
    (no_mark m b e n))
one_cut m (x ∷ b) e (y ∷ c) f n h p q =
    let r = one_cut m b e c f n (tails x y (b ++ m ∷ e) (c ++ m ∷ f) h) p q in
    λ i. (heads x y (b ++ m ∷ e) (c ++ m ∷ f) h i ∷ (r i).0, (r i).1)

pub letters : (bytes : List ℕ) → is_number_or_nothing bytes ≡ true
    → (length bytes ≤ 2) × (list_all is_alphanumeric bytes ≡ true)
letters bytes e = let d = and_parts (leb (length bytes) 2) (list_all is_alphanumeric bytes) e in
    (leb-true (length bytes) 2 d.0, d.1)

one_end : (m : ℕ) (bytes : List ℕ) (x y : List ℕ × List ℕ) → is_alphanumeric m ≡ false
    → EndsAfter m bytes x → EndsAfter m bytes y → x ≡ y
one_end m bytes x y n h k = one_cut m x.0 x.1 y.0 y.1 n (sym h.whole ∙ k.whole)
    (letters x.1 h.a_number_or_nothing).1 (letters y.1 k.a_number_or_nothing).1

within : (m n : ℕ) (bytes : List ℕ) (x : List ℕ × List ℕ) → n < 3 → EndsSo m n bytes x
    → EndsAfter m bytes x
within m n bytes x l h = record {
  whole = h.whole;
  a_number_or_nothing =
      and_from (leb (length x.1) 2) (list_all is_alphanumeric x.1)
      (le-leb (length x.1) 2 (omega (arith, l, h.long))) h.alphanumeric;
}

so_long : (m n : ℕ) (bytes : List ℕ) (x : List ℕ × List ℕ) → length x.1 ≡ n → EndsAfter m bytes x
    → EndsSo m n bytes x
so_long m n bytes x l h = record {
  whole = h.whole;
  long = l;
  alphanumeric = (letters x.1 h.a_number_or_nothing).1;
}

module _ (m : ℕ) (no : is_alphanumeric m ≡ false) (bytes : List ℕ) where
  pub end_found : (n : ℕ) (x : List ℕ × List ℕ) → n < 3 → HoldsOnly (EndsSo m n bytes) (Some x)
      → HoldsOnly (EndsAfter m bytes) (Some x)
  end_found n x l h =
      let here = within m n bytes x l (held_so (EndsSo m n bytes) x h) in
      only_some (EndsAfter m bytes) x here (λ y k. one_end m bytes x y no here k)

  none_of : (n : ℕ) (x : List ℕ × List ℕ) → HoldsOnly (EndsSo m n bytes) None
      → EndsAfter m bytes x → length x.1 ≡ n → ⊥
  none_of n x h k e = none_held (EndsSo m n bytes) x h (so_long m n bytes x e k)

  two_long : (x : List ℕ × List ℕ) → HoldsOnly (EndsSo m 0 bytes) None
      → HoldsOnly (EndsSo m 1 bytes) None → EndsAfter m bytes x → EndsSo m 2 bytes x
  two_long x h k e = at (length x.1) refl (letters x.1 e.a_number_or_nothing).0 where
    at : (n : ℕ) → length x.1 ≡ n → length x.1 ≤ 2 → EndsSo m 2 bytes x
    at zero l s = absurd (none_of 0 x h e l)
    at (suc zero) l s = absurd (none_of 1 x k e l)
    at (suc (suc n)) l s = so_long m 2 bytes x (omega (arith, l, s)) e

  pub end_of_two : (o : Option (List ℕ × List ℕ)) → HoldsOnly (EndsSo m 0 bytes) None
      → HoldsOnly (EndsSo m 1 bytes) None → HoldsOnly (EndsSo m 2 bytes) o
      → HoldsOnly (EndsAfter m bytes) o
  end_of_two o h k t x = (
    λ e. within m 2 bytes x (omega arith) ((t x).0 e),
    λ e. (t x).1 (two_long x h k e),
  )

-- ---- numbered texts

abbrev Numbered : List ℕ → List ℕ × List ℕ → Type 0
Numbered text x = IsNumberedText x.0 x.1 text

abbrev BraceAfter : List ℕ → List ℕ × List ℕ → Type 0
BraceAfter text x = EndsAfter 125 text x

abbrev BraceBefore : List ℕ → List ℕ × List ℕ → Type 0
BraceBefore text x = EndsAfter 123 text x

pub not_empty : (number : List ℕ) → is_message_number number ≡ true
    → (1 ≤ length number) × (is_number_or_nothing number ≡ true)
not_empty number e = let d = and_parts (leb 1 (length number)) (is_number_or_nothing number) e in
    (leb-true 1 (length number) d.0, d.1)

-- what a test for no bytes tells
pub nothing : (n : ℕ) → true ≡ eqb n 0 → n ≡ 0
nothing n e = eqb-true n 0 (sym e)

pub something : (n : ℕ) → false ≡ eqb n 0 → 1 ≤ n
something zero e = absurd cc
something (suc n) e = omega arith

outer : (text : List ℕ) (x : List ℕ × List ℕ) (h : Numbered text x)
    → BraceAfter text (h.body ++ 123 ∷ x.0, x.1)
outer text x h = record {
  whole = h.whole ∙ sym (append_assoc h.body (123 ∷ x.0) (125 ∷ x.1));
  a_number_or_nothing = h.a_number_or_nothing;
}

inner : (text : List ℕ) (x : List ℕ × List ℕ) (h : Numbered text x)
    → BraceBefore (h.body ++ 123 ∷ x.0) (h.body, x.0)
inner text x h = record {
  whole = refl;
  a_number_or_nothing = (not_empty x.0 h.a_number).1;
}

module _ (text : List ℕ) where
  pub no_number : HoldsOnly (BraceAfter text) None → HoldsOnly (Numbered text) None
  no_number h = only_none (Numbered text)
      (λ x n. none_held (BraceAfter text) (n.body ++ 123 ∷ x.0, x.1) h (outer text x n))

  module _ (y : List ℕ × List ℕ) (h : HoldsOnly (BraceAfter text) (Some y)) where
    body_is : (x : List ℕ × List ℕ) (n : Numbered text x)
        → y ≡ (n.body ++ 123 ∷ x.0, x.1)
    body_is x n = one_held (BraceAfter text) y (n.body ++ 123 ∷ x.0, x.1) h (outer text x n)

    inner_in : (x : List ℕ × List ℕ) (n : Numbered text x) → BraceBefore y.0 (n.body, x.0)
    inner_in x n = subst (λ (t : List ℕ × List ℕ). BraceBefore t.0 (n.body, x.0)) (sym (body_is x n))
        (inner text x n)

    pub no_number_before : HoldsOnly (BraceBefore y.0) None → HoldsOnly (Numbered text) None
    no_number_before k = only_none (Numbered text)
        (λ x n. none_held (BraceBefore y.0) (n.body, x.0) k (inner_in x n))

    module _ (z : List ℕ × List ℕ) (k : HoldsOnly (BraceBefore y.0) (Some z)) where
      number_is : (x : List ℕ × List ℕ) (n : Numbered text x) → (z.1, y.1) ≡ x
      number_is x n =
          let e = one_held (BraceBefore y.0) z (n.body, x.0) k (inner_in x n) in
          λ i. ((e i).1, (body_is x n i).1)

      pub empty_number : length z.1 ≡ 0 → HoldsOnly (Numbered text) None
      empty_number e = only_none (Numbered text) (λ x n.
          let l : length z.1 ≡ length x.0 = ap (λ (t : List ℕ × List ℕ). length t.0) (number_is x n) in
          absurd (omega (arith, e, l, (not_empty x.0 n.a_number).0)))

      pub number_found : 1 ≤ length z.1 → HoldsOnly (Numbered text) (Some (z.1, y.1))
      number_found l =
          let a = held_so (BraceAfter text) y h in
          let b = held_so (BraceBefore y.0) z k in
          only_some (Numbered text) (z.1, y.1) (record {
            body = z.0;
            a_number = and_from (leb 1 (length z.1)) (is_number_or_nothing z.1)
                (le-leb 1 (length z.1) l) b.a_number_or_nothing;
            a_number_or_nothing = a.a_number_or_nothing;
            whole = a.whole ∙ ap (λ (t : List ℕ). t ++ 125 ∷ y.1) b.whole
                ∙ append_assoc z.0 (123 ∷ z.1) (125 ∷ y.1);
          })
          number_is

-- a text has one number, and acknowledges one
pub numbered_once : (text : List ℕ) (x y : List ℕ × List ℕ) → IsNumberedText x.0 x.1 text
    → IsNumberedText y.0 y.1 text → x ≡ y
numbered_once text x y h k =
    let e = one_end 125 text (h.body ++ 123 ∷ x.0, x.1) (k.body ++ 123 ∷ y.0, y.1) refl
    (outer text x h) (outer text y k) in
    let f = one_end 123 (k.body ++ 123 ∷ y.0) (h.body, x.0) (k.body, y.0) refl
    (subst (λ (t : List ℕ × List ℕ). BraceBefore t.0 (h.body, x.0)) e (inner text x h))
    (inner text y k) in
    λ i. ((f i).1, (e i).1)

-- ---- acks

at_found : (bytes number : List ℕ) → number_at bytes ≡ Some number
    → (bytes ≡ codes "ack" ++ number) × (is_message_number number ≡ true)
unfolding number_at
at_found [] number e = absurd cc
at_found (x ∷ []) number e = absurd cc
at_found (x ∷ y ∷ []) number e = absurd cc
at_found (x ∷ y ∷ z ∷ bytes) number e =
    let g = guarded_some (eqb x 97 && eqb y 99 && eqb z 107 && is_message_number bytes) bytes number e in
    let d1 = and_parts (eqb x 97 && eqb y 99 && eqb z 107) (is_message_number bytes) g.0 in
    let d2 = and_parts (eqb x 97 && eqb y 99) (eqb z 107) d1.0 in
    let d3 = and_parts (eqb x 97) (eqb y 99) d2.0 in
    let e1 = eqb-true _ _ d3.0 in let e2 = eqb-true _ _ d3.1 in let e3 = eqb-true _ _ d2.1 in
    (cc (e1, e2, e3, g.1), ap is_message_number (sym g.1) ∙ d1.1)

at_takes : (bytes number : List ℕ) → bytes ≡ codes "ack" ++ number → is_message_number number ≡ true
    → number_at bytes ≡ Some number
unfolding number_at
at_takes bytes number w h = ap number_at w ∙ rw h refl

module _ (text : List ℕ) where
  abbrev Ack : List ℕ → Type 0
  Ack number = IsAckText number text

  ack_end : (number : List ℕ) (a : Ack number) → BraceAfter text (codes "ack" ++ number, a.acknowledged)
  ack_end number a = record {
    whole = a.whole ∙ sym (append_assoc (codes "ack") number (125 ∷ a.acknowledged));
    a_number_or_nothing = a.a_number_or_nothing;
  }

  pub no_ack : HoldsOnly (BraceAfter text) None → HoldsOnly Ack None
  no_ack h = only_none Ack
      (λ n a. none_held (BraceAfter text) (codes "ack" ++ n, a.acknowledged) h (ack_end n a))

  pub ack_found : (y : List ℕ × List ℕ) → HoldsOnly (BraceAfter text) (Some y)
      → (o : Option (List ℕ)) → o ≡ number_at y.0 → HoldsOnly Ack o
  ack_found y h o e n = (
    λ s. (let b = held_so (BraceAfter text) y h in
        let f = at_found y.0 n (sym e ∙ s) in
        record {
          acknowledged = y.1;
          a_number = f.1;
          a_number_or_nothing = b.a_number_or_nothing;
          whole = b.whole ∙ ap (λ (t : List ℕ). t ++ 125 ∷ y.1) f.0
              ∙ append_assoc (codes "ack") n (125 ∷ y.1);
        }),
    λ a. e ∙ at_takes y.0 n
        (ap (λ (t : List ℕ × List ℕ). t.0)
        (one_held (BraceAfter text) y (codes "ack" ++ n, a.acknowledged) h (ack_end n a)))
        a.a_number,
  )

  -- no text is both
  no_both : (x : List ℕ × List ℕ) (n : List ℕ) → Numbered text x → Ack n → ⊥
  no_both x n t a =
      let e = one_end 125 text (t.body ++ 123 ∷ x.0, x.1) (codes "ack" ++ n, a.acknowledged) refl
      (outer text x t) (ack_end n a) in
      true_false (list_all is_alphanumeric (t.body ++ 123 ∷ x.0))
      (ap (λ (p : List ℕ × List ℕ). list_all is_alphanumeric p.0) e
      ∙ (list_all-append is_alphanumeric (codes "ack") n
      ∙ (letters n (not_empty n a.a_number).1).1))
      (no_mark 123 t.body x.0 refl)

  -- ---- what a text acknowledges

  abbrev Replies : List ℕ → Type 0
  Replies number = IsReplyAckText number text

  pub reply_found : (x : List ℕ × List ℕ) → HoldsOnly (Numbered text) (Some x) → 1 ≤ length x.1
      → HoldsOnly Replies (Some x.1)
  reply_found x h l =
      let t = held_so (Numbered text) x h in
      only_some Replies x.1 (record {
        a_number = and_from (leb 1 (length x.1)) (is_number_or_nothing x.1)
            (le-leb 1 (length x.1) l) t.a_number_or_nothing;
        reply = inl (x.0, t);
      })
      (λ n r. elim r.reply [
        | inl s ↦ ap (λ (p : List ℕ × List ℕ). p.1) (one_held (Numbered text) x (s.0, n) h s.1)
        | inr a ↦ absurd (no_both x n t a)
      ])

  pub no_reply : (x : List ℕ × List ℕ) → HoldsOnly (Numbered text) (Some x) → length x.1 ≡ 0
      → HoldsOnly Replies None
  no_reply x h l =
      let t = held_so (Numbered text) x h in
      only_none Replies (λ n r. elim r.reply [
        | inl s ↦ (let e : length x.1 ≡ length n =
            ap (λ (p : List ℕ × List ℕ). length p.1) (one_held (Numbered text) x (s.0, n) h s.1) in
            absurd (omega (arith, e, l, (not_empty n r.a_number).0)))
        | inr a ↦ no_both x n t a
      ])

  pub ack_replies : (o : Option (List ℕ)) → HoldsOnly (Numbered text) None → HoldsOnly Ack o
      → HoldsOnly Replies o
  ack_replies o h k n = (
    λ s. (let a = (k n).0 s in record { a_number = a.a_number; reply = inr a }),
    λ r. elim r.reply [
      | inl s ↦ absurd (none_held (Numbered text) (s.0, n) h s.1)
      | inr a ↦ (k n).1 a
    ],
  )

  -- what follows its number is all that it acknowledges
  pub one_replied : (x : List ℕ × List ℕ) (n : List ℕ) → Numbered text x → IsReplyAckText n text → x.1 ≡ n
  one_replied x n t r = elim r.reply [
    | inl s ↦ ap (λ (p : List ℕ × List ℕ). p.1) (numbered_once text x (s.0, n) t s.1)
    | inr a ↦ absurd (no_both x n t a)
  ]

  -- an ack acknowledges one number
  pub one_acknowledged : (k n : List ℕ) → IsAckText k text → IsReplyAckText n text → k ≡ n
  one_acknowledged k n a r = elim r.reply [
    | inl s ↦ absurd (no_both (s.0, n) k s.1 a)
    | inr b ↦ tails_of_ack k n (ap (λ (p : List ℕ × List ℕ). p.0)
        (one_end 125 text (codes "ack" ++ k, a.acknowledged) (codes "ack" ++ n, b.acknowledged) refl
        (ack_end k a) (ack_end n b)))
  ] where
    tails_of_ack : (k n : List ℕ) → codes "ack" ++ k ≡ codes "ack" ++ n → k ≡ n
    tails_of_ack k n e = cc

  -- a text whose braces no number follows acknowledges none
  pub no_reply_of : (number : List ℕ) → IsNumberedText number [] text → (n : List ℕ)
      → IsReplyAckText n text → ⊥
  no_reply_of number t n r =
      let e : 0 ≡ length n = ap length (one_replied (number, []) n t r) in
      omega (arith, e, (not_empty n r.a_number).0)

  -- ---- the number of a text

  abbrev pub Has : List ℕ → Type 0
  Has number = (acknowledged : List ℕ) × IsNumberedText number acknowledged text

  pub has_none : HoldsOnly (Numbered text) None → HoldsOnly Has None
  has_none h = only_none Has (λ n t. none_held (Numbered text) (n, t.0) h t.1)

  pub has_one : (x : List ℕ × List ℕ) → HoldsOnly (Numbered text) (Some x) → HoldsOnly Has (Some x.0)
  has_one x h = only_some Has x.0 (x.1, held_so (Numbered text) x h)
      (λ n t. ap (λ (p : List ℕ × List ℕ). p.0) (one_held (Numbered text) x (n, t.0) h t.1))
