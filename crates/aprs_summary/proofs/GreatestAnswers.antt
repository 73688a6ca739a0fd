-- The answers to messages in rows.
use Rattle.aprs_summary.proofs.Common.{◌≡◌, ◌∙◌, ℕ, Bool, bool_cmp, bool_cmp_total, true, false, List, ◌↔◌, Option, Some, None, sym, ap, refl, subst, inl, inr, Bor, option_copied, lookup, keys_of, is_at, insert_entry, IsTotalOrder, ordering_then, Ordering, upto, on_total, then_total, CmpEqualImpliesEq, exact_pairs, Call, SpellsCall, call_cmp, Received, bytes_cmp, heard_cmp, ◌∈◌, IsUpTo, Row, row_key, greater_known, greater, is_greater_of, call_total, call_exact, bytes_total, bytes_exact, heard_total, up_to_itself}
use Rattle.std.specs.List.Sorted.{IsStrictlySortedBy}
use Rattle.aprs_summary.specs.declared.lists.message_key.AnswerKey.{AnswerKey}
use Rattle.aprs_summary.specs.MessageRows.{Answer, answer_at, answer_cmp, answer_from, answer_of, answer_to, GivesAnswer, IsGreatestAnswer, AreAnswers, spelled_call}
use Rattle.aprs_summary.specs.ReplyTexts.{HoldsOnly}
use Rattle.aprs_summary.specs.Messages.{Message}
use Rattle.std.specs.Option.{option_and_then}
use Rattle.aprs_summary.proofs.ReplyTexts.{held_none, held_so, none_held, one_held}
use Rattle.aprs_summary.proofs.SpelledCalls.{spelled}
use Rattle.aprs_summary.proofs.Collected.{cmp_of, found, absent, Adds, passed, put_by, same_lookup}

pub answer_total : IsTotalOrder answer_cmp
answer_total =
    then_total (on_total (λ (a : Answer). a.source) call_total)
    (then_total (on_total (λ (a : Answer). a.addressee) call_total)
    (then_total (on_total (λ (a : Answer). a.id) bytes_total)
    (on_total (λ (a : Answer). a.is_reply) bool_cmp_total)))

bools_exact : CmpEqualImpliesEq bool_cmp
bools_exact true true h = refl
bools_exact true false h = absurd (cc)
bools_exact false true h = absurd (cc)
bools_exact false false h = refl

pub answer_exact : CmpEqualImpliesEq answer_cmp
answer_exact a b h =
    ap (λ (p : Call × (Call × (List ℕ × Bool))). record
    { source = p.0; addressee = p.1.0; id = p.1.1.0; is_reply = p.1.1.1 })
    (exact_pairs call_cmp
    (λ (x y : Call × (List ℕ × Bool)). ordering_then (call_cmp x.0 y.0)
    (ordering_then (bytes_cmp x.1.0 y.1.0) (bool_cmp x.1.1 y.1.1))) call_exact
    (exact_pairs call_cmp
    (λ (x y : List ℕ × Bool). ordering_then (bytes_cmp x.0 y.0) (bool_cmp x.1 y.1)) call_exact
    (exact_pairs bytes_cmp bool_cmp bytes_exact bools_exact))
    (a.source, (a.addressee, (a.id, a.is_reply))) (b.source, (b.addressee, (b.id, b.is_reply))) h)

module _ (rows more : List Row) (x : Row) (adds : Adds rows x more) (a : Answer) where
  abbrev pub Q : Row → Type 0
  Q y = GivesAnswer a (row_key y)

  pub answer_stays : (g : Received) → (Q x → ⊥) → IsGreatestAnswer rows a g → IsGreatestAnswer more a g
  answer_stays g n t = record {
    row = (t.row.0, adds.old t.row.0 t.row.1, t.row.2, t.row.3);
    greatest = λ y h p. elim (adds.to y h) [
      | inl j ↦ t.greatest y j p
      | inr e ↦ absurd (n (subst Q (sym e) p))
    ];
  }

  pub answer_begins : Q x → ((y : Row) → y ∈ rows → Q y → ⊥) → IsGreatestAnswer more a x.greatest
  answer_begins p n = record {
    row = (x, adds.new, p, refl);
    greatest = λ y h q. elim (adds.to y h) [
      | inl j ↦ absurd (n y j q)
      | inr e ↦ subst (λ (t : Row). IsUpTo heard_cmp t.greatest x.greatest) e
          (up_to_itself heard_total x.greatest)
    ];
  }

  pub answer_grows : (g : Received) → Q x → IsGreatestAnswer rows a g
      → IsGreatestAnswer more a (greater g x.greatest)
  answer_grows g p t = let c = is_greater_of g x.greatest in record {
    row = elim c.one [
      | inl e ↦ (t.row.0, adds.old t.row.0 t.row.1, t.row.2, t.row.3 ∙ sym e)
      | inr e ↦ (x, adds.new, p, sym e)
    ];
    greatest = λ y h q. elim (adds.to y h) [
      | inl j ↦ upto heard_total y.greatest g (greater g x.greatest) (t.greatest y j q) c.left
      | inr e ↦ subst (λ (u : Row). IsUpTo heard_cmp u.greatest (greater g x.greatest)) e c.right
    ];
  }

-- the order of the keys that code has
pub answer_keys_alike : (x y : AnswerKey)
    → ordering_then (call_cmp x.source y.source)
    (ordering_then (call_cmp x.addressee y.addressee)
    (ordering_then (bytes_cmp x.id.now y.id.now) (bool_cmp x.is_reply y.is_reply)))
    ≡ answer_cmp (answer_of x) (answer_of y)
answer_keys_alike x y = refl

abbrev pub answer_key_cmp : AnswerKey → AnswerKey → Ordering
answer_key_cmp = cmp_of answer_of answer_cmp

module _ (rows more : List Row) (x : Row) (adds : Adds rows x more)
    (es : List (AnswerKey × Received)) (c : AreAnswers rows es) where
  pub answers_passed : ((a : Answer) → GivesAnswer a (row_key x) → ⊥) → AreAnswers more es
  answers_passed n =
      passed answer_of answer_cmp answer_total answer_exact GivesAnswer IsGreatestAnswer rows
      more x adds
      (λ a v. answer_stays rows more x adds a v) es c n

  answer_there : (k : AnswerKey) → GivesAnswer (answer_of k) (row_key x) → (known : Option Received)
      → lookup (is_at (answer_key_cmp k)) es ≡ known
      → IsGreatestAnswer more (answer_of k)
      (greater_known known x.greatest)
  answer_there k q None h =
      answer_begins rows more x adds (answer_of k) q
      (λ y j p. let t = c.every y j (answer_of k) p in
      absent answer_of answer_cmp answer_total answer_exact k es h t.0 t.1 (sym t.2))
  answer_there k q (Some s) h =
      let f = found answer_of answer_cmp answer_total answer_exact k s es h in
      answer_grows rows more x adds (answer_of k) s q
      (subst (IsGreatestAnswer rows (answer_of k)) f.3
      (subst (λ (t : Answer). IsGreatestAnswer rows t f.0.1) (sym f.2) (c.each f.0 f.1)))

  pub answers_put : (R : AnswerKey → AnswerKey → Ordering)
      → ((a b : AnswerKey) → R a b ≡ answer_key_cmp a b)
      → (k : AnswerKey) (v : Received) (new : List (AnswerKey × Received))
      → ((a : Answer) → GivesAnswer a (row_key x) ↔ (Some (answer_of k) ≡ Some a))
      → v ≡ greater_known (lookup (is_at (R k)) es) x.greatest
      → new ≡ insert_entry R es k v → IsStrictlySortedBy R (keys_of new)
      → AreAnswers more new
  answers_put R same k v new q e n sorted =
      put_by answer_of answer_cmp answer_total answer_exact GivesAnswer IsGreatestAnswer rows
      more x adds
      (λ a v. answer_stays rows more x adds a v) es c R
      same k v new n sorted
      (λ a p. unwrapped (answer_of k) a ((q a).0 p))
      (subst (IsGreatestAnswer more (answer_of k))
      (sym (e ∙ ap (λ t. greater_known t x.greatest)
      (same_lookup answer_of answer_cmp R same k es)))
      (answer_there k ((q (answer_of k)).1 refl) (lookup (is_at (answer_key_cmp k)) es) refl)) where
        unwrapped : (a b : Answer) → Some a ≡ Some b → a ≡ b
        unwrapped a b h = cc

pub kept_greater : (r : Received) (o : Option (Bor Received)) (m : Option Received) (x y : Received)
    → r ≡ greater_known (option_copied o) x → option_copied o ≡ m → x ≡ y
    → r ≡ greater_known m y
kept_greater r o m x y e f h = e ∙ (ap (λ t. greater_known t x) f ∙ ap (greater_known m) h)

-- an answer is known by its parts
pub same_answer : (a b : Answer) → a.source ≡ b.source → a.addressee ≡ b.addressee → a.id ≡ b.id
    → a.is_reply ≡ b.is_reply → a ≡ b
same_answer a b s t d r =
    λ i. record { source = s i; addressee = t i; id = d i; is_reply = r i }

-- ---- the answer that a look-up finds

-- An answer that is one to this id of a message, or a reply-ack to this number of it.
pub record IsFor (m : Message) (id : List ℕ) (is_reply : Bool) (a : Answer) : Type 0 where
  pub source : a.source ≡ m.source
  pub addressee : SpellsCall a.addressee m.addressee
  pub same_id : a.id ≡ id
  pub same_kind : a.is_reply ≡ is_reply

-- The greatest answer to this id of a message, or the greatest reply-ack to this number: that of
-- the one entry which is for it, or none where no entry is.
abbrev pub ReportsAnswer : List (AnswerKey × Received) → Message → List ℕ → Bool → Option Received
    → Type 0
ReportsAnswer entries m id is_reply None =
    (e : AnswerKey × Received) → e ∈ entries → IsFor m id is_reply (answer_of e.0) → ⊥
ReportsAnswer entries m id is_reply (Some g) =
    (e : AnswerKey × Received) × (e ∈ entries) × IsFor m id is_reply (answer_of e.0)
    × ((a : Answer) → IsFor m id is_reply a → a ≡ answer_of e.0) × (e.1 ≡ g)

-- a key that stands for an answer
abbrev key_of_answer : Answer → AnswerKey
key_of_answer a = record {
  source = a.source;
  addressee = a.addressee;
  id = record { ref_ptr = (0, 0); now = a.id };
  is_reply = a.is_reply;
}

abbrev Spells : Message → Call → Type 0
Spells m call = SpellsCall call m.addressee

module _ (es : List (AnswerKey × Received)) (m : Message) (id : List ℕ) (kind : Bool) where
  module _ (a : Answer) (f : IsFor m id kind a) (u : (b : Answer) → IsFor m id kind b → b ≡ a) where
    answer_found : (known : Option Received) → answer_at es a ≡ known → ReportsAnswer es m id kind known
    answer_found None h = λ e j g.
        absent answer_of answer_cmp answer_total answer_exact (key_of_answer a) es h e j
        (sym (u (answer_of e.0) g))
    answer_found (Some v) h =
        let t = found answer_of answer_cmp answer_total answer_exact (key_of_answer a) v es h in
        (t.0, t.1, subst (IsFor m id kind) t.2 f, λ b g. u b g ∙ t.2, t.3)

  abbrev at_call : Call → Option Received
  at_call call = answer_at es (answer_from m id kind call)

  answer_of_call : (o : Option Call) → HoldsOnly (Spells m) o
      → ReportsAnswer es m id kind (option_and_then at_call o)
  answer_of_call None h = λ e j f. none_held (Spells m) (answer_of e.0).addressee h f.addressee
  answer_of_call (Some call) h =
      answer_found (answer_from m id kind call)
      (record {
        source = refl;
        addressee = held_so (Spells m) call h;
        same_id = refl;
        same_kind = refl;
      })
      (λ b f. same_answer b (answer_from m id kind call) f.source
      (sym (one_held (Spells m) call b.addressee h f.addressee)) f.same_id f.same_kind)
      (at_call call) refl

  pub answer_reported : ReportsAnswer es m id kind (answer_to es m id kind)
  answer_reported = answer_of_call (spelled_call m.addressee) (spelled m.addressee)

  pub answer_looked_up : (R : AnswerKey → AnswerKey → Ordering)
      → ((a b : AnswerKey) → R a b ≡ answer_key_cmp a b) → (k : AnswerKey) (call : Call)
      → SpellsCall call m.addressee → answer_of k ≡ answer_from m id kind call
      → (o : Option Received) → o ≡ lookup (is_at (R k)) es → o ≡ answer_to es m id kind
  answer_looked_up R same k call s f o e =
      e ∙ same_lookup answer_of answer_cmp R same k es ∙ ap (answer_at es) f
      ∙ sym (ap (option_and_then at_call) ((spelled m.addressee call).1 s))

  pub none_looked_up : ((call : Call) → SpellsCall call m.addressee → ⊥)
      → None ≡ answer_to es m id kind
  none_looked_up n = sym (ap (option_and_then at_call)
      (held_none (Spells m) (spelled_call m.addressee) (spelled m.addressee) n))
