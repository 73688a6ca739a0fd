-- The messages of rows.
use Rattle.aprs_summary.proofs.Common.{◌≡◌, ◌∙◌, ℕ, ◌≤◌, min, max, true, List, Option, Some, None, sym, ap, refl, subst, inl, inr, arith, Bor, Result, Ok, Err, is_ok, OnOk, lookup, keys_of, is_at, insert_entry, option_cmp, option_map, IsTotalOrder, options_total, ordering_then, Ordering, on_total, then_total, cases_lt, CmpEqualImpliesEq, exact_pairs, Call, call_cmp, bytes_cmp, ◌∈◌, Ordered, Row, row_key, last_moment, call_total, call_exact, bytes_total, bytes_exact}
use Rattle.std.specs.List.Sorted.{IsStrictlySortedBy}
use Rattle.aprs_summary.specs.declared.lists.message_key.Span.{Span}
use Rattle.aprs_summary.specs.Messages.{Message, ReportsIt, message_in, message_cmp}
use Rattle.aprs_summary.specs.declared.lists.message_key.MessageKey.{MessageKey}
use Rattle.aprs_summary.specs.MessageRows.{message_of, span_with, span_of, IsKeyBefore, IsSpan, AreSpans}
use Rattle.aprs_summary.proofs.Inserts.{inserted_twice}
use Rattle.aprs_summary.proofs.Collected.{cmp_of, found, absent, Adds, in_order, passed, put}

-- ---- the order of messages

pub message_total : IsTotalOrder message_cmp
message_total =
    then_total (on_total (λ (m : Message). m.source) call_total)
    (then_total (on_total (λ (m : Message). m.addressee) bytes_total)
    (then_total (on_total (λ (m : Message). m.text) bytes_total)
    (on_total (λ (m : Message). m.id) (options_total bytes_total))))

ids_exact : CmpEqualImpliesEq (option_cmp bytes_cmp)
ids_exact None None h = refl
ids_exact None (Some y) h = absurd (cc)
ids_exact (Some x) None h = absurd (cc)
ids_exact (Some x) (Some y) h = ap Some (bytes_exact x y h)

pub message_exact : CmpEqualImpliesEq message_cmp
message_exact a b h =
    ap (λ (p : Call × (List ℕ × (List ℕ × Option (List ℕ)))). record
    { source = p.0; addressee = p.1.0; text = p.1.1.0; id = p.1.1.1 })
    (exact_pairs call_cmp
    (λ (x y : List ℕ × (List ℕ × Option (List ℕ))). ordering_then (bytes_cmp x.0 y.0)
    (ordering_then (bytes_cmp x.1.0 y.1.0) (option_cmp bytes_cmp x.1.1 y.1.1))) call_exact
    (exact_pairs bytes_cmp
    (λ (x y : List ℕ × Option (List ℕ)). ordering_then (bytes_cmp x.0 y.0)
    (option_cmp bytes_cmp x.1 y.1)) bytes_exact
    (exact_pairs bytes_cmp (option_cmp bytes_cmp) bytes_exact ids_exact))
    (a.source, (a.addressee, (a.text, a.id))) (b.source, (b.addressee, (b.text, b.id))) h)

-- ---- spans

module _ (rows more : List Row) (x : Row) (adds : Adds rows x more) (m : Message) where
  abbrev pub P : Row → Type 0
  P y = ReportsIt m (row_key y)

  pub span_stays : (s : Span) → (P x → ⊥) → IsSpan rows m s → IsSpan more m s
  span_stays s n t = record {
    first = record {
      row = (t.first.row.0, adds.old t.first.row.0 t.first.row.1, t.first.row.2, t.first.row.3);
      least = λ y h p. elim (adds.to y h) [
        | inl j ↦ t.first.least y j p
        | inr e ↦ absurd (n (subst P (sym e) p))
      ];
    };
    last = record {
      row = (t.last.row.0, adds.old t.last.row.0 t.last.row.1, t.last.row.2, t.last.row.3);
      greatest = λ y h p. elim (adds.to y h) [
        | inl j ↦ t.last.greatest y j p
        | inr e ↦ absurd (n (subst P (sym e) p))
      ];
    };
  }

  pub span_begins : P x → ((y : Row) → y ∈ rows → P y → ⊥) → IsSpan more m (span_of x)
  span_begins p n = record {
    first = record {
      row = (x, adds.new, p, refl);
      least = λ y h q. elim (adds.to y h) [
        | inl j ↦ absurd (n y j q)
        | inr e ↦ subst (λ (t : Row). x.first ≤ t.first) e (omega arith)
      ];
    };
    last = record {
      row = (x, adds.new, p, refl);
      greatest = λ y h q. elim (adds.to y h) [
        | inl j ↦ absurd (n y j q)
        | inr e ↦ subst (λ (t : Row). last_moment t ≤ last_moment x) e (omega arith)
      ];
    };
  }

  module _ (s : Span) (p : P x) (t : IsSpan rows m s) where
    least_row : (y : Row) × (y ∈ more) × P y × (y.first ≡ min s.first x.first)
    least_row = elim (cases_lt s.first x.first) [
      | inl l ↦ let r = t.first.row in (r.0, adds.old r.0 r.1, r.2, omega (arith, r.3, l))
      | inr l ↦ (x, adds.new, p, omega (arith, l))
    ]

    greatest_row : (y : Row) × (y ∈ more) × P y × (last_moment y ≡ max s.last (last_moment x))
    greatest_row = elim (cases_lt s.last (last_moment x)) [
      | inl l ↦ (x, adds.new, p, omega (arith, l))
      | inr l ↦ let r = t.last.row in (r.0, adds.old r.0 r.1, r.2, omega (arith, r.3, l))
    ]

    pub span_grows : IsSpan more m (record {
      first = min s.first x.first;
      last =
          max s.last (last_moment x);
    })
    span_grows = record {
      first = record {
        row = least_row;
        least = λ y h q. elim (adds.to y h) [
          | inl j ↦ omega (arith, t.first.least y j q)
          | inr e ↦ subst (λ (u : Row). min s.first x.first ≤ u.first) e (omega arith)
        ];
      };
      last = record {
        row = greatest_row;
        greatest = λ y h q. elim (adds.to y h) [
          | inl j ↦ omega (arith, t.last.greatest y j q)
          | inr e ↦ subst (λ (u : Row). last_moment u ≤ max s.last (last_moment x)) e (omega arith)
        ];
      };
    }

-- ---- the keys that code has

ids_alike : (p q : Option (Bor (List ℕ)))
    → option_cmp (λ (x y : Bor (List ℕ)). bytes_cmp x.now y.now) p q
    ≡ option_cmp bytes_cmp (option_map (λ x. x.now) p) (option_map (λ x. x.now) q)
ids_alike None None = refl
ids_alike None (Some y) = refl
ids_alike (Some x) None = refl
ids_alike (Some x) (Some y) = refl

-- keys are in the order of the messages that they show
pub keys_alike : (x y : MessageKey)
    → ordering_then (call_cmp x.source y.source)
    (ordering_then (bytes_cmp x.addressee.now y.addressee.now)
    (ordering_then (bytes_cmp x.text.now y.text.now)
    (option_cmp (λ (a b : Bor (List ℕ)). bytes_cmp a.now b.now) x.id y.id)))
    ≡ message_cmp (message_of x) (message_of y)
keys_alike x y =
    ap (λ o. ordering_then (call_cmp x.source y.source)
    (ordering_then (bytes_cmp x.addressee.now y.addressee.now)
    (ordering_then (bytes_cmp x.text.now y.text.now) o))) (ids_alike x.id y.id)

abbrev pub keys_cmp : MessageKey → MessageKey → Ordering
keys_cmp = cmp_of message_of message_cmp

module _ (rows more : List Row) (x : Row) (adds : Adds rows x more)
    (es : List (MessageKey × Span)) (c : AreSpans rows es) where
  pub spans_passed : message_in (row_key x) ≡ None → AreSpans more es
  spans_passed n =
      passed message_of message_cmp message_total message_exact ReportsIt IsSpan rows
      more x adds
      (λ m s. span_stays rows more x adds m s) es c
      (λ m p. let t : None ≡ Some m = sym n ∙ p in absurd (cc))

  span_there : (k : MessageKey) (m : Message) → m ≡ message_of k → message_in (row_key x) ≡ Some m
      → (known : Option Span) → lookup (is_at (keys_cmp k)) es ≡ known
      → IsSpan more m (span_with known (span_of x))
  span_there k m e q None h =
      span_begins rows more x adds m q
      (λ y j p. let t = c.every y j m p in
      absent message_of message_cmp message_total message_exact k es h t.0 t.1 (sym e ∙ sym t.2))
  span_there k m e q (Some s) h =
      let f = found message_of message_cmp message_total message_exact k s es h in
      span_grows rows more x adds m s q
      (subst (IsSpan rows m) f.3
      (subst (λ (t : Message). IsSpan rows t f.0.1) (sym f.2 ∙ sym e) (c.each f.0 f.1)))

  pub spans_put : (k : MessageKey) (s : Span) → message_in (row_key x) ≡ Some (message_of k)
      → s ≡ span_with (lookup (is_at (keys_cmp k)) es) (span_of x)
      → IsStrictlySortedBy keys_cmp (keys_of (insert_entry keys_cmp es k s))
      → AreSpans more (insert_entry keys_cmp es k s)
  spans_put k s q e sorted =
      put message_of message_cmp message_total message_exact ReportsIt IsSpan rows
      more x adds
      (λ m v. span_stays rows more x adds m v) es c k s
      sorted
      (λ m p. unwrapped (message_of k) m (sym q ∙ p))
      (subst (IsSpan more (message_of k)) (sym e)
      (span_there k (message_of k) refl q (lookup (is_at (keys_cmp k)) es) refl)) where
        unwrapped : (a b : Message) → Some a ≡ Some b → a ≡ b
        unwrapped a b h = cc

  -- the same, by an order that is that of the messages
  pub spans_put_by : (R : MessageKey → MessageKey → Ordering)
      → ((a b : MessageKey) → R a b ≡ keys_cmp a b)
      → (k : MessageKey) (s : Span) (new : List (MessageKey × Span))
      → message_in (row_key x) ≡ Some (message_of k) → s ≡ span_with (lookup (is_at (R k)) es) (span_of x)
      → new ≡ insert_entry R es k s → IsStrictlySortedBy R (keys_of new)
      → AreSpans more new
  spans_put_by R same k s new q e n sorted =
      let p : keys_cmp ≡ R = λ j a b. sym (same a b) j in
      subst (AreSpans more) (sym n)
      (subst (λ (Q : MessageKey → MessageKey → Ordering). s ≡ span_with (lookup (is_at (Q k)) es) (span_of x)
      → IsStrictlySortedBy Q (keys_of (insert_entry Q es k s))
      → AreSpans more (insert_entry Q es k s)) p (spans_put k s q) e
      (subst (λ (t : List (MessageKey × Span)). IsStrictlySortedBy R (keys_of t)) n sorted))

-- a span that is put, and put again with what was known
module _ (rows more : List Row) (x : Row) (adds : Adds rows x more)
    (es : List (MessageKey × Span)) (c : AreSpans rows es)
    (R : MessageKey → MessageKey → Ordering) (same : (a b : MessageKey) → R a b ≡ keys_cmp a b)
    (k : MessageKey) (q : message_in (row_key x) ≡ Some (message_of k)) where
  pub spans_put_twice : (again : MessageKey) → again ≡ k → (s t : Span)
      (once twice : List (MessageKey × Span))
      → t ≡ span_with (lookup (is_at (R k)) es) (span_of x)
      → once ≡ insert_entry R es k s → twice ≡ insert_entry R once again t
      → IsStrictlySortedBy R (keys_of twice) → AreSpans more twice
  spans_put_twice again alike s t once twice e first second sorted =
      spans_put_by rows more x adds es c R same k t twice q e
      (second ∙ (λ i. insert_entry R (first i) (alike i) t) ∙ inserted_twice R total k s t es) sorted where
        total : IsTotalOrder R
        total =
            subst (λ (Q : MessageKey → MessageKey → Ordering). IsTotalOrder Q)
            (λ j a b. sym (same a b) j) (on_total message_of message_total)

pub where_ok : {A E : Type 0} {P : Type 0} (r : Result A E) → is_ok r ≡ true → OnOk r P → P
where_ok (Ok v) e h = h
where_ok (Err q) e h = absurd (cc)

-- ---- the order of the keys that code has

pub ascending_keys : (R : MessageKey → MessageKey → Ordering)
    → ((a b : MessageKey) → R a b ≡ keys_cmp a b)
    → (es : List (MessageKey × Span)) → IsStrictlySortedBy R (keys_of es) → Ordered IsKeyBefore es
ascending_keys R same es s =
    let p : R ≡ keys_cmp = λ j a b. same a b j in
    in_order message_of message_cmp es
    (subst (λ (Q : MessageKey → MessageKey → Ordering). IsStrictlySortedBy Q (keys_of es)) p s)
