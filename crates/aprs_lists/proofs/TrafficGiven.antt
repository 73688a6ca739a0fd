-- What rows give of messages and answers.
use Rattle.aprs_lists.proofs.Common.{◌≡◌, ◌∙◌, ◌++◌, ◌∷◌, [], ℕ, List, None, Option, Some, ap, inl, inr, map, refl, subst, sym, Row, SameMembers, ◌∈◌}
use Rattle.std.proofs.Common.{◌↔◌, ◌⊎◌, true, false}
use Rattle.aprs_ax25.specs.Callsign.{Call}
use Rattle.aprs_ax25.specs.CallText.{SpellsCall}
use Rattle.aprs_transmissions.proofs.Lists.{from_map, in_either, in_left, in_map, in_right}
use Rattle.aprs_transmissions.specs.Row.{row_key}
use Rattle.aprs_report.specs.Reader.{reading_of}
use Rattle.aprs_report.specs.Reading.{Value, message}
use Rattle.aprs_lists.specs.Answers.{Reply}
use Rattle.aprs_summary.proofs.ReplyTexts.{held_so, none_held, one_held, only_none, only_some}
use Rattle.aprs_summary.proofs.SpelledCalls.{spelled}
use Rattle.aprs_summary.specs.MessageRows.{spelled_call}
use Rattle.aprs_summary.specs.ReplyAcks.{IsReplyAckText}
use Rattle.aprs_summary.specs.ReplyTexts.{HoldsOnly}
use Rattle.aprs_lists.specs.Said.{Said, said_in}
use Rattle.aprs_lists.specs.Traffic.{Answering, AreGiven, GivesNetReply, SaysAnswer, by_ack, by_rej, by_reply, with_one}

some_once : {X : Type 0} (x y : X) → ◌≡◌ {A = Option X} (Some x) (Some y) → x ≡ y
some_once x y e = cc

none_some : {X : Type 0} (x : X) → ◌≡◌ {A = Option X} None (Some x) → ⊥
none_some x e = absurd cc

-- ---- reply-acks

-- to whom a report is, and its text
abbrev to_of : Value → List ℕ
to_of (message addressee text id) = addressee
to_of v = []

abbrev text_of : Value → List ℕ
text_of (message addressee text id) = text
text_of v = []

pub reply_only : (to text number : List ℕ)
    → HoldsOnly (λ (n : List ℕ). IsReplyAckText n text) (Some number)
    → HoldsOnly (λ (a : Answering). SaysAnswer a (message to text None))
    (Some (record { addressee = to; number = number; is_reply = true; is_rejection = false }))
reply_only to text number h =
    only_some (λ (a : Answering). SaysAnswer a (message to text None))
    (record { addressee = to; number = number; is_reply = true; is_rejection = false })
    (by_reply text refl (held_so (λ (n : List ℕ). IsReplyAckText n text) number h) refl refl) one where
      one : (a : Answering) → SaysAnswer a (message to text None)
          → record { addressee = to; number = number; is_reply = true; is_rejection = false } ≡ a
      one a (by_ack e p q) = absurd (cc)
      one a (by_rej e p q) = absurd (cc)
      one a (by_reply t e r p q) =
          let same : number ≡ a.number = one_held (λ (n : List ℕ). IsReplyAckText n text) number a.number h
          (subst (λ (x : List ℕ). IsReplyAckText a.number x) (sym (ap text_of e)) r) in
          λ i. record {
            addressee = ap to_of e i;
            number = same i;
            is_reply = sym p i;
            is_rejection = sym q i;
          }

-- ---- the answer of a row

module _ (x : Row) (s : Said) (is : said_in (row_key x) ≡ Some s) where
  abbrev Says : Answering → Type 0
  Says a = SaysAnswer a (reading_of s.info)

  -- what an answer names
  abbrev named : List ℕ → Reply → Answering
  named to a = record {
    addressee = to;
    number = a.asked.number;
    is_reply = a.asked.is_reply;
    is_rejection = a.is_rejection;
  }

  says_so : (a : Reply) (g : GivesNetReply x a) → Says (named g.addressee a)
  says_so a g = subst (λ (t : Said). SaysAnswer (named g.addressee a) (reading_of t.info))
      (some_once g.said s (sym g.is_said ∙ is)) g.answer

  pub no_reply : HoldsOnly Says None → HoldsOnly (GivesNetReply x) None
  no_reply h = only_none (GivesNetReply x) (λ a g. none_held Says (named g.addressee a) h (says_so a g))

  module _ (p : Answering) (h : HoldsOnly Says (Some p)) where
    named_so : (a : Reply) (g : GivesNetReply x a) → p ≡ named g.addressee a
    named_so a g = one_held Says p (named g.addressee a) h (says_so a g)

    spelled_so : (a : Reply) (g : GivesNetReply x a) → spelled_call p.addressee ≡ Some a.asked.source
    spelled_so a g = (spelled p.addressee a.asked.source).1
        (subst (λ (t : List ℕ). SpellsCall a.asked.source t)
        (sym (ap (λ (q : Answering). q.addressee) (named_so a g))) g.to)

    pub no_call : spelled_call p.addressee ≡ None → HoldsOnly (GivesNetReply x) None
    no_call n = only_none (GivesNetReply x)
        (λ a g. none_some a.asked.source (sym n ∙ spelled_so a g))

    -- the answer with these parts
    abbrev pub replied : Call → ℕ → Reply
    replied c moment = record {
      asked = record {
        source = c;
        answerer = s.source;
        number = p.number;
        is_reply = p.is_reply;
      };
      moment = moment;
      is_rejection = p.is_rejection;
    }

    pub one_reply : (c : Call) → spelled_call p.addressee ≡ Some c
        → HoldsOnly (GivesNetReply x) (Some (replied c x.first))
    one_reply c e = only_some (GivesNetReply x) (replied c x.first)
        (record {
          said = s;
          is_said = is;
          addressee = p.addressee;
          answer = held_so Says p h;
          answerer = refl;
          to = (spelled p.addressee c).0 e;
          moment = refl;
        })
        (λ a g.
        let source = some_once c a.asked.source (sym e ∙ spelled_so a g) in
        let same = named_so a g in
        let from : s.source ≡ a.asked.answerer =
        ap (λ (t : Said). t.source) (some_once s g.said (sym is ∙ g.is_said)) ∙ sym g.answerer in
        λ i. record {
          asked = record {
            source = source i;
            answerer = from i;
            number = (same i).number;
            is_reply = (same i).is_reply;
          };
          moment = sym g.moment i;
          is_rejection = (same i).is_rejection;
        })

-- ---- what more rows give

module _ {A : Type 0} (P : Row → A → Type 0) where
  pub given_first : (xs : List A) → xs ≡ [] → AreGiven P [] xs
  given_first xs e a = (λ h. absurd (subst (λ (l : List A). a ∈ l) e h), λ h. absurd h.1)

  pub given_more : (rows : List Row) (r : Row) (xs ys : List A) → AreGiven P rows xs
      → ((a : A) → (a ∈ ys) ↔ ((a ∈ xs) ⊎ P r a)) → AreGiven P (rows ++ r ∷ []) ys
  given_more rows r xs ys h k a = (
    λ m. elim ((k a).0 m) [
      | inl i ↦ (let q = (h a).0 i in (q.0, in_left q.0 rows (r ∷ []) q.1, q.2))
      | inr p ↦ (r, in_right r rows (r ∷ []) (inl refl), p)
    ],
    λ q. elim (in_either q.0 rows (r ∷ []) q.1) [
      | inl i ↦ (k a).1 (inl ((h a).1 (q.0, i, q.2)))
      | inr i ↦ elim i [
        | inl e ↦ (k a).1 (inr (subst (λ (x : Row). P x a) (sym e) q.2))
        | inr j ↦ absurd j
      ]
    ],
  )

-- a list, and what is held behind it
pub one_more : {A : Type 0} (P : A → Type 0) (xs ys : List A) (o : Option A) → HoldsOnly P o
    → ys ≡ with_one xs o → (a : A) → (a ∈ ys) ↔ ((a ∈ xs) ⊎ P a)
one_more {A} P xs ys None h e a = (
  λ m. inl (subst (λ (l : List A). a ∈ l) e m),
  λ m. elim m [
    | inl i ↦ subst (λ (l : List A). a ∈ l) (sym e) i
    | inr p ↦ absurd (none_held P a h p)
  ],
)
one_more {A} P xs ys (Some x) h e a = (
  λ m. elim (in_either a xs (x ∷ []) (subst (λ (l : List A). a ∈ l) e m)) [
    | inl i ↦ inl i
    | inr i ↦ elim i [
      | inl s ↦ inr (subst P s (held_so P x h))
      | inr j ↦ absurd j
    ]
  ],
  λ m. subst (λ (l : List A). a ∈ l) (sym e) (elim m [
    | inl i ↦ in_left a xs (x ∷ []) i
    | inr p ↦ in_right a xs (x ∷ []) (inl (one_held P x a h p))
  ]),
)

-- the same members in another order
pub given_sorted : {A B : Type 0} (P : Row → A → Type 0) (f : B → A) (rows : List Row) (xs ys : List B)
    → AreGiven P rows (map f xs) → SameMembers xs ys → AreGiven P rows (map f ys)
given_sorted {A} P f rows xs ys h same a = (
  λ m. (let q = from_map f a ys m in
      (h a).0 (subst (λ (z : A). z ∈ map f xs) q.2 (in_map f q.0 xs ((same q.0).1 q.1)))),
  λ q. (let r = from_map f a xs ((h a).1 q) in
      subst (λ (z : A). z ∈ map f ys) r.2 (in_map f r.0 ys ((same r.0).0 r.1))),
)
