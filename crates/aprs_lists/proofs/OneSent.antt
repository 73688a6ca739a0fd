-- A set of copies has one list of runs, and a set of answers one first answer.
use Rattle.aprs_lists.proofs.Common.{◌≡◌, ◌∙◌, ◌<◌, ◌≤◌, ◌+◌, ℕ, Bool, List, Option, None, Some, ap, arith, refl, subst, sym, inl, inr, suc, zero, cases_lt, Call, call_cmp, call_exact, nat_cmp, exact_unsigned, exact_pairs, bool_cmp, option_cmp, ordering_then, CmpEqualImpliesEq, not_both, same_greatest, tied_itself, Less, Equal, SameMembers, ◌∈◌}
use Rattle.aprs_transmissions.proofs.Lists.{ordered_same}
use Rattle.aprs_lists.specs.Answers.{AskedAnswer, IsFirstAnswer, Reply, asked_cmp, reply_cmp}
use Rattle.aprs_lists.specs.Copies.{Copy, copy_cmp}
use Rattle.aprs_summary.specs.Messages.{Message, message_cmp}
use Rattle.aprs_lists.specs.Runs.{AreInTime, AreSent, IsNextBegin, IsRunOf, IsSentBefore, IsSentOnce, Sent, SentAt}
use Rattle.aprs_summary.proofs.Messages.{message_exact, message_total}
use Rattle.aprs_lists.proofs.CopyOrder.{copy_total}
use Rattle.aprs_lists.proofs.FirstAnswers.{asked_exact, bool_exact, reply_total}

-- ---- exact orders

calls_exact : CmpEqualImpliesEq (option_cmp call_cmp)
calls_exact None None h = refl
calls_exact None (Some y) h = absurd (cc)
calls_exact (Some x) None h = absurd (cc)
calls_exact (Some x) (Some y) h = ap Some (call_exact x y h)

copy_exact : CmpEqualImpliesEq copy_cmp
copy_exact a b h =
    ap (λ (p : Message × (ℕ × (Option Call × ℕ))). record
    { message = p.0; first = p.1.0; gate = p.1.1.0; last = p.1.1.1 })
    (exact_pairs message_cmp
    (λ (x y : ℕ × (Option Call × ℕ)). ordering_then (nat_cmp x.0 y.0)
    (ordering_then (option_cmp call_cmp x.1.0 y.1.0) (nat_cmp x.1.1 y.1.1))) message_exact
    (exact_pairs nat_cmp
    (λ (x y : Option Call × ℕ). ordering_then (option_cmp call_cmp x.0 y.0) (nat_cmp x.1 y.1))
    exact_unsigned
    (exact_pairs (option_cmp call_cmp) nat_cmp calls_exact exact_unsigned))
    (a.message, (a.first, (a.gate, a.last))) (b.message, (b.first, (b.gate, b.last))) h)

reply_exact : CmpEqualImpliesEq reply_cmp
reply_exact a b h =
    ap (λ (p : AskedAnswer × (ℕ × Bool)). record { asked = p.0; moment = p.1.0; is_rejection = p.1.1 })
    (exact_pairs asked_cmp
    (λ (x y : ℕ × Bool). ordering_then (nat_cmp x.0 y.0) (bool_cmp x.1 y.1)) asked_exact
    (exact_pairs nat_cmp bool_cmp exact_unsigned bool_exact)
    (a.asked, (a.moment, a.is_rejection)) (b.asked, (b.moment, b.is_rejection)) h)

-- ---- one first answer

pub first_once : (R S : List Reply) (same : SameMembers R S) (q : AskedAnswer) (start : ℕ) (until : Option ℕ)
    (x y : Option Reply) → IsFirstAnswer R q start until x → IsFirstAnswer S q start until y → x ≡ y
first_once R S same q start until None None h k = refl
first_once R S same q start until None (Some b) h k = absurd (h b ((same b).1 k.0) k.1)
first_once R S same q start until (Some a) None h k = absurd (k a ((same a).0 h.0) h.1)
first_once R S same q start until (Some a) (Some b) h k =
    ap Some (same_greatest reply_total reply_exact a b (h.2 b ((same b).1 k.0) k.1)
    (k.2 a ((same a).0 h.0) h.1))

-- ---- one run

module _ (gap : ℕ) (At : ℕ → Type 0) where
  -- no run begins inside another that began before
  reaches : (n m first last a b : ℕ) → IsRunOf gap At first last → IsRunOf gap At a b → At m
      → first ≤ m → m < a → a ≤ last → a ≤ m + n → ⊥
  reaches zero m first last a b r s at f l e d = omega (arith, l, d)
  reaches (suc n) m first last a b r s at f l e d = elim (cases_lt (m + gap) a) [
    | inl far ↦ (let k = r.linked m at f (omega (arith, l, e)) in
        reaches n k.0 first last a b r s k.3 (omega (arith, f, k.1)) (omega (arith, k.2, far)) e
        (omega (arith, k.1, d)))
    | inr near ↦ s.none_before m l near at
  ]

  no_sooner : (first last a b : ℕ) → IsRunOf gap At first last → IsRunOf gap At a b
      → first < a → a ≤ last → ⊥
  no_sooner first last a b r s l e =
      reaches a first first last a b r s r.at_first (omega arith) l e (omega arith)

  -- where one of two runs of one beginning ends, the other does
  no_longer : (first last b : ℕ) → IsRunOf gap At first last → IsRunOf gap At first b → last < b → ⊥
  no_longer first last b r s l =
      let k = s.linked last r.at_last r.in_order l in
      r.none_after k.0 k.1 k.2 k.3

  pub one_begin : (first last a b : ℕ) → IsRunOf gap At first last → IsRunOf gap At a b
      → a ≤ last → first ≤ b → first ≡ a
  one_begin first last a b r s e f = elim (cases_lt first a) [
    | inl l ↦ absurd (no_sooner first last a b r s l e)
    | inr l ↦ elim (cases_lt a first) [
      | inl m ↦ absurd (no_sooner a b first last s r m f)
      | inr m ↦ omega (arith, l, m)
    ]
  ]

  pub one_end : (first last b : ℕ) → IsRunOf gap At first last → IsRunOf gap At first b → last ≡ b
  one_end first last b r s = elim (cases_lt last b) [
    | inl l ↦ absurd (no_longer first last b r s l)
    | inr l ↦ elim (cases_lt b last) [
      | inl m ↦ absurd (no_longer first b last s r m)
      | inr m ↦ omega (arith, l, m)
    ]
  ]

module _ (gap : ℕ) (C D : List Copy) (same : SameMembers C D) where
  moved_at : (m : Message) (t : ℕ) → SentAt D m t → SentAt C m t
  moved_at m t s = (s.0, (same s.0).1 s.1, s.2, s.3, s.4)

  moved_back : (m : Message) (t : ℕ) → SentAt C m t → SentAt D m t
  moved_back m t s = (s.0, (same s.0).0 s.1, s.2, s.3, s.4)

  moved : (m : Message) (a b : ℕ) → IsRunOf gap (SentAt D m) a b → IsRunOf gap (SentAt C m) a b
  moved m a b r = record {
    in_order = r.in_order;
    at_first = moved_at m a r.at_first;
    at_last = moved_at m b r.at_last;
    none_before = λ t l n s. r.none_before t l n (moved_back m t s);
    none_after = λ t l n s. r.none_after t l n (moved_back m t s);
    linked = λ t s f l. let k = r.linked t (moved_back m t s) f l in (k.0, k.1, k.2, moved_at m k.0 k.3);
  }

  one_next : (m : Message) (last : ℕ) (x y : Option ℕ) → IsNextBegin C m last x
      → IsNextBegin D m last y → x ≡ y
  one_next m last None None h k = refl
  one_next m last None (Some b) h k =
      absurd (h k.0.0 ((same k.0.0).1 k.0.1) k.0.2 (omega (arith, k.0.3, k.1)))
  one_next m last (Some a) None h k =
      absurd (k h.0.0 ((same h.0.0).0 h.0.1) h.0.2 (omega (arith, h.0.3, h.1)))
  one_next m last (Some a) (Some b) h k =
      let p = h.2 k.0.0 ((same k.0.0).1 k.0.1) k.0.2 (omega (arith, k.0.3, k.1)) in
      let q = k.2 h.0.0 ((same h.0.0).0 h.0.1) h.0.2 (omega (arith, h.0.3, h.1)) in
      ap Some (omega (arith, p, q, k.0.3, h.0.3))

  -- two runs of one message that meet are one
  one_run : (r s : Sent) → IsSentOnce gap C r → IsSentOnce gap D s → r.message ≡ s.message
      → s.first ≤ r.last → r.first ≤ s.last → r ≡ s
  one_run r s h k e f l =
      let own = subst (λ (m : Message). IsRunOf gap (SentAt C m) s.first s.last) (sym e)
      (moved s.message s.first s.last k.run) in
      let first = one_begin gap (SentAt C r.message) r.first r.last s.first s.last h.run own f l in
      let last = one_end gap (SentAt C r.message) r.first r.last s.last h.run
      (subst (λ (n : ℕ). IsRunOf gap (SentAt C r.message) n s.last) (sym first) own) in
      let a = h.gate in
      let b = k.gate in
      let copies : a.0 ≡ b.0 = same_greatest copy_total copy_exact a.0 b.0
      (a.1.least b.0 ((same b.0).1 b.1.member) (b.1.message ∙ sym e) (omega (arith, b.1.begins, first)))
      (b.1.least a.0 ((same a.0).0 a.1.member) (a.1.message ∙ e) (omega (arith, a.1.begins, first))) in
      let gate : r.gate ≡ s.gate = sym a.2 ∙ ap (λ (c : Copy). c.gate) copies ∙ b.2 in
      let until : r.until ≡ s.until = one_next r.message r.last r.until s.until h.until
      (subst (λ (m : Message). IsNextBegin D m r.last s.until) (sym e)
      (subst (λ (n : ℕ). IsNextBegin D s.message n s.until) (sym last) k.until)) in
      λ i. record { message = e i; first = first i; last = last i; gate = gate i; until = until i }

  -- each run of the one list is in the other
  found_in : AreInTime C → (rs ss : List Sent) → AreSent gap C rs → AreSent gap D ss → (r : Sent)
      → r ∈ rs → r ∈ ss
  found_in timely rs ss h k r m =
      let o = h.each r m in
      let c = o.gate.0 in
      let w = k.every c ((same c).0 o.gate.1.member) in
      let e : r.message ≡ w.0.message = sym o.gate.1.message ∙ sym w.2.message in
      let at = o.run.in_order in
      let t = (k.each w.0 w.1).run.in_order in
      let same_run = one_run r w.0 o (k.each w.0 w.1) e
      (omega (arith, w.2.begins, o.gate.1.begins, at))
      (omega (arith, o.gate.1.begins, timely c o.gate.1.member, w.2.ends)) in
      subst (λ (x : Sent). x ∈ ss) (sym same_run) w.1

asym : (r s : Sent) → IsSentBefore r s → IsSentBefore s r → ⊥
asym r s (inl a) (inl b) = not_both message_total r.message s.message a b
asym r s (inl a) (inr b) =
    let t : Less ≡ Equal = sym (subst (λ (m : Message). message_cmp r.message m ≡ Less) b.0 a)
    ∙ tied_itself message_total r.message in absurd (cc)
asym r s (inr a) (inl b) =
    let t : Less ≡ Equal = sym (subst (λ (m : Message). message_cmp s.message m ≡ Less) a.0 b)
    ∙ tied_itself message_total s.message in absurd (cc)
asym r s (inr a) (inr b) = omega (arith, a.1, b.1)

-- sets of copies with the same members have one list of runs
pub one_sent : (gap : ℕ) (C D : List Copy) → SameMembers C D → AreInTime C → (rs ss : List Sent)
    → AreSent gap C rs → AreSent gap D ss → rs ≡ ss
one_sent gap C D same timely rs ss h k =
    ordered_same IsSentBefore asym rs ss h.ascending k.ascending
    (found_in gap C D same timely rs ss h k)
    (found_in gap D C (λ c. ((same c).1, (same c).0)) (λ c m. timely c ((same c).1 m)) ss rs k h)
