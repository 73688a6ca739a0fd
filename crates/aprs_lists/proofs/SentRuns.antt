-- One copy after another, in order, gives the maximal runs.
use Rattle.aprs_lists.proofs.Common.{◌≡◌, ◌∙◌, ◌<◌, ◌≤◌, ◌+◌, ◌⊎◌, ℕ, Bool, true, false, List, [], ◌∷◌, None, Some, max, leb, leb-true, ap, arith, refl, subst, sym, inl, inr, and_from, and_parts, cases_lt, le-leb, if◌then◌else◌, is_eq, is_gt, nat_cmp, option_cmp, call_cmp, ordering_then, Ordered, Ordering, Less, Equal, Greater, IsBelow, IsUpTo, MatchOrdering, ranks, same_greatest, up_to_itself, tied_itself, ◌∈◌}
use Rattle.aprs_lists.specs.Copies.{Copy, copy_cmp}
use Rattle.aprs_summary.specs.Messages.{Message, message_cmp}
use Rattle.aprs_lists.specs.Runs.{AreInTime, AreSent, IsCopyOf, IsFirstCopy, IsNextBegin, IsRunOf, IsSentBefore, IsSentOnce, Sent, SentAt, PlainIsSent, ended, goes_on, is_same, next_begin, runs_after, runs_of, sent_again, sent_first}
use Rattle.aprs_summary.proofs.Messages.{message_exact, message_total}
use Rattle.aprs_lists.proofs.CopyOrder.{copy_total}

-- ---- the order of copies

messages_up_to : (a b : Copy) → IsUpTo copy_cmp a b → IsUpTo message_cmp a.message b.message
messages_up_to a b h = by_case (message_cmp a.message b.message) _ h where
  by_case : (o rest : Ordering) → is_gt (ordering_then o rest) ≡ false → is_gt o ≡ false
  by_case Less rest h = refl
  by_case Equal rest h = refl
  by_case Greater rest h = h

no_later : (m n : ℕ) (rest : Ordering) → is_gt (ordering_then (nat_cmp m n) rest) ≡ false → m ≤ n
no_later m n rest h = by_case (nat_cmp m n) (ranks m n) h where
  by_case : (o : Ordering) → MatchOrdering o (m < n) (m ≡ n) (n < m)
      → is_gt (ordering_then o rest) ≡ false → m ≤ n
  by_case Less c h = omega (arith, c)
  by_case Equal c h = omega (arith, c)
  by_case Greater c h = absurd (cc)

firsts_up_to : (a b : Copy) → a.message ≡ b.message → IsUpTo copy_cmp a b → a.first ≤ b.first
firsts_up_to a b e h =
    let tie : message_cmp a.message b.message ≡ Equal =
    ap (message_cmp a.message) (sym e) ∙ tied_itself message_total a.message in
    no_later a.first b.first _
    (subst (λ (o : Ordering). is_gt (ordering_then o (ordering_then (nat_cmp a.first b.first)
    (ordering_then (option_cmp call_cmp a.gate b.gate) (nat_cmp a.last b.last)))) ≡ false) tie h)

equal_so : (o : Ordering) → is_eq o ≡ true → o ≡ Equal
equal_so Less h = absurd (cc)
equal_so Equal h = refl
equal_so Greater h = absurd (cc)

same_so : (m n : Message) → is_same m n ≡ true → m ≡ n
same_so m n h = message_exact m n (equal_so (message_cmp m n) h)

same_test : (m n : Message) → m ≡ n → is_same m n ≡ true
same_test m n e = ap (λ x. is_eq (message_cmp m x)) (sym e) ∙ ap is_eq (tied_itself message_total m)

-- a message that is up to another, and isn't it, is below it
strictly : (m n : Message) → IsUpTo message_cmp m n → is_same m n ≡ false → IsBelow message_cmp m n
strictly m n h k = by_case (message_cmp m n) h k where
  by_case : (o : Ordering) → is_gt o ≡ false → is_eq o ≡ false → o ≡ Less
  by_case Less h k = refl
  by_case Equal h k = absurd (cc)
  by_case Greater h k = absurd (cc)

true_or_false : (b : Bool) → (b ≡ true) ⊎ (b ≡ false)
true_or_false true = inl refl
true_or_false false = inr refl

-- ---- a run that goes on

-- The run of the copies that came, of which the last came last.
record IsOpen (gap : ℕ) (done : List Copy) (r : Sent) (start : Copy) : Type 0 where
  start_in : start ∈ done
  start_message : start.message ≡ r.message
  start_first : start.first ≡ r.first
  start_gate : start.gate ≡ r.gate
  least : (d : Copy) → d ∈ done → d.message ≡ r.message → r.first ≤ d.first → IsUpTo copy_cmp start d
  in_order : r.first ≤ r.last
  at_last : (d : Copy) × (d ∈ done) × (d.message ≡ r.message) × (d.last ≡ r.last)
  before : (d : Copy) → d ∈ done → d.message ≡ r.message → d.first < r.first
      → d.last + gap < r.first
  up_to_last : (d : Copy) → d ∈ done → d.message ≡ r.message → d.last ≤ r.last
  dense : (t : ℕ) → r.first ≤ t → t < r.last
      → (n : ℕ) × (t < n) × (n ≤ t + gap) × SentAt done r.message n
  below : (d : Copy) → d ∈ done → IsUpTo message_cmp d.message r.message

-- what was sent at a moment still was, with one more copy
still : (c : Copy) (done : List Copy) (m : Message) (t : ℕ) → SentAt done m t → SentAt (c ∷ done) m t
still c done m t s = (s.0, inr s.1, s.2, s.3, s.4)

module _ (gap : ℕ) (some : 0 < gap) where
  module _ (done : List Copy) (r : Sent) (start : Copy) (opened : IsOpen gap done r start)
      (c : Copy) (in_time : c.first ≤ c.last)
      (after : (d : Copy) → d ∈ done → IsUpTo copy_cmp d c) where
    r_up_to_c : IsUpTo message_cmp r.message c.message
    r_up_to_c = subst (λ (m : Message). IsUpTo message_cmp m c.message) opened.start_message
        (messages_up_to start c (after start opened.start_in))

    -- ---- one more copy

    module _ (same : r.message ≡ c.message) (near : c.first ≤ r.last + gap) where
      by_copy : (t : ℕ) → c.first ≤ t → t ≤ c.last → SentAt (c ∷ done) r.message t
      by_copy t f l = (c, inl refl, sym same, f, l)

      goes : (t : ℕ) → r.first ≤ t → t < max r.last c.last
          → (n : ℕ) × (t < n) × (n ≤ t + gap) × SentAt (c ∷ done) r.message n
      goes t f l = elim (cases_lt t r.last) [
        | inl u ↦ (let d = opened.dense t f u in (d.0, d.1, d.2, still c done r.message d.0 d.3))
        | inr u ↦ elim (cases_lt t c.first) [
          | inl v ↦ (c.first, v, omega (arith, near, u), by_copy c.first (omega arith) in_time)
          | inr v ↦ (
            t + 1,
            omega arith,
            omega (arith, some),
            by_copy (t + 1) (omega (arith, v)) (omega (arith, l, u)),
          )
        ]
      ]

      last_copy : (d : Copy) × (d ∈ (c ∷ done)) × (d.message ≡ r.message) × (d.last ≡ max r.last c.last)
      last_copy = elim (cases_lt r.last c.last) [
        | inl l ↦ (c, inl refl, sym same, omega (arith, l))
        | inr l ↦ (let d = opened.at_last in (d.0, inr d.1, d.2, omega (arith, d.3, l)))
      ]

      first_up_to : r.first ≤ c.first
      first_up_to = omega (
        arith,
        opened.start_first,
        firsts_up_to start c (opened.start_message ∙ same) (after start opened.start_in),
      )

      again : IsOpen gap (c ∷ done) (sent_again r c) start
      again = record {
        start_in = inr opened.start_in;
        start_message = opened.start_message;
        start_first = opened.start_first;
        start_gate = opened.start_gate;
        least = λ d m e f. elim m [
          | inl i ↦ subst (λ (x : Copy). IsUpTo copy_cmp start x) i (after start opened.start_in)
          | inr k ↦ opened.least d k e f
        ];
        in_order = omega (arith, opened.in_order);
        at_last = last_copy;
        before = λ d m e f. elim m [
          | inl i ↦ absurd (omega (arith, f, first_up_to, ap (λ (x : Copy). x.first) i))
          | inr k ↦ opened.before d k e f
        ];
        up_to_last = λ d m e. elim m [
          | inl i ↦ omega (arith, ap (λ (x : Copy). x.last) i)
          | inr k ↦ omega (arith, opened.up_to_last d k e)
        ];
        dense = goes;
        below = λ d m. elim m [
          | inl i ↦ subst (λ (x : Copy). IsUpTo message_cmp x.message r.message) i
              (subst (λ (x : Message). IsUpTo message_cmp x r.message) same (up_to_itself message_total r.message))
          | inr k ↦ opened.below d k
        ];
      }

    -- ---- a copy that begins another run

    module _ (parts : goes_on gap r c ≡ false) where
      apart_or_below : ((r.message ≡ c.message) × (r.last + gap < c.first))
          ⊎ (is_same r.message c.message ≡ false)
      apart_or_below = elim (true_or_false (is_same r.message c.message)) [
        | inl e ↦ inl (
          same_so r.message c.message e,
          elim (cases_lt (r.last + gap) c.first) [
            | inl l ↦ l
            | inr l ↦ (let t = and_from (is_same r.message c.message) (leb c.first (r.last + gap)) e
                (le-leb c.first (r.last + gap) (omega (arith, l))) in
                let f : true ≡ false = sym t ∙ parts in absurd (cc))
          ],
        )
        | inr e ↦ inr e
      ]

      -- a copy of the new message that came before ended long before
      not_met : (d : Copy) → d ∈ done → d.message ≡ c.message → d.last + gap < c.first
      not_met d m e = elim apart_or_below [
        | inl p ↦ omega (arith, p.1, opened.up_to_last d m (e ∙ sym p.0))
        | inr n ↦ (let up = subst (λ (x : Message). IsUpTo message_cmp x r.message) e (opened.below d m) in
            let same = same_greatest message_total message_exact r.message c.message r_up_to_c up in
            let t = same_test r.message c.message same in
            let f : true ≡ false = sym t ∙ n in absurd (cc))
      ]

      fresh : ((d : Copy) → d ∈ done → d.first ≤ d.last) → IsOpen gap (c ∷ done) (sent_first c) c
      fresh timely = record {
        start_in = inl refl;
        start_message = refl;
        start_first = refl;
        start_gate = refl;
        least = λ d m e f. elim m [
          | inl i ↦ subst (λ (x : Copy). IsUpTo copy_cmp c x) i (up_to_itself copy_total c)
          | inr k ↦ absurd (omega (arith, not_met d k e, timely d k, f))
        ];
        in_order = in_time;
        at_last = (c, inl refl, refl, refl);
        before = λ d m e f. elim m [
          | inl i ↦ absurd (omega (arith, f, ap (λ (x : Copy). x.first) i))
          | inr k ↦ not_met d k e
        ];
        up_to_last = λ d m e. elim m [
          | inl i ↦ omega (arith, ap (λ (x : Copy). x.last) i)
          | inr k ↦ omega (arith, not_met d k e, in_time)
        ];
        dense = λ t f l. (
          t + 1,
          omega arith,
          omega (arith, some),
          (c, inl refl, refl, omega (arith, f), omega (arith, l)),
        );
        below = λ d m. elim m [
          | inl i ↦ subst (λ (x : Copy). IsUpTo message_cmp x.message c.message) i
              (up_to_itself message_total c.message)
          | inr k ↦ messages_up_to d c (after d k)
        ];
      }

  -- ---- a run that ends

  module _ (all done rest : List Copy) (r : Sent) (start : Copy) (opened : IsOpen gap done r start)
      (of : (d : Copy) → d ∈ all → (d ∈ done) ⊎ (d ∈ rest))
      (into_done : (d : Copy) → d ∈ done → d ∈ all)
      (into_rest : (d : Copy) → d ∈ rest → d ∈ all)
      (timely : AreInTime all)
      (after : (d e : Copy) → d ∈ done → e ∈ rest → IsUpTo copy_cmp d e)
      (far : (d : Copy) → d ∈ rest → d.message ≡ r.message → r.last + gap < d.first) where
    was_sent : (t : ℕ) → SentAt done r.message t → SentAt all r.message t
    was_sent t s = (s.0, into_done s.0 s.1, s.2, s.3, s.4)

    run : IsRunOf gap (SentAt all r.message) r.first r.last
    run = record {
      in_order = opened.in_order;
      at_first = (
        start,
        into_done start opened.start_in,
        opened.start_message,
        omega (arith, opened.start_first),
        omega (arith, opened.start_first, timely start (into_done start opened.start_in)),
      );
      at_last = (
        opened.at_last.0,
        into_done opened.at_last.0 opened.at_last.1,
        opened.at_last.2,
        omega (arith, opened.at_last.3, timely opened.at_last.0 (into_done opened.at_last.0 opened.at_last.1)),
        omega (arith, opened.at_last.3),
      );
      none_before = λ t l near s. elim (of s.0 s.1) [
        | inl k ↦ omega (arith, l, near, s.3, s.4, opened.before s.0 k s.2 (omega (arith, s.3, l)))
        | inr k ↦ omega (arith, l, s.3, opened.in_order, far s.0 k s.2)
      ];
      none_after = λ t l near s. elim (of s.0 s.1) [
        | inl k ↦ omega (arith, l, s.4, opened.up_to_last s.0 k s.2)
        | inr k ↦ omega (arith, near, s.3, far s.0 k s.2)
      ];
      linked = λ t s f l. let d = opened.dense t f l in (d.0, d.1, d.2, was_sent d.0 d.3);
    }

    first_copy : IsFirstCopy all r.message r.first start
    first_copy = record {
      member = into_done start opened.start_in;
      message = opened.start_message;
      begins = opened.start_first;
      least = λ d m e f. elim (of d m) [
        | inl k ↦ opened.least d k e f
        | inr k ↦ after start d opened.start_in k
      ];
    }

    no_more : (d : Copy) → d ∈ done → d.message ≡ r.message → r.last < d.first → ⊥
    no_more d m e l = omega (arith, l, opened.up_to_last d m e, timely d (into_done d m))

    -- when the next run begins, by the first of the copies behind
    begins_then : (cs : List Copy) → rest ≡ cs → Ordered (IsUpTo copy_cmp) cs
        → IsNextBegin all r.message r.last (next_begin r.message cs)
    begins_then [] e o = λ d m f l. elim (of d m) [
      | inl k ↦ no_more d k f l
      | inr k ↦ subst (λ (xs : List Copy). d ∈ xs) e k
    ]
    begins_then (c ∷ cs) e o = by_test (is_same r.message c.message) refl where
      in_rest : c ∈ rest
      in_rest = subst (λ (xs : List Copy). c ∈ xs) (sym e) (inl refl)

      up_to_c : IsUpTo message_cmp r.message c.message
      up_to_c = subst (λ (m : Message). IsUpTo message_cmp m c.message) opened.start_message
          (messages_up_to start c (after start c opened.start_in in_rest))

      behind : (d : Copy) → d ∈ rest → IsUpTo copy_cmp c d
      behind d k = elim (subst (λ (xs : List Copy). d ∈ xs) e k) [
        | inl i ↦ subst (λ (x : Copy). IsUpTo copy_cmp c x) i (up_to_itself copy_total c)
        | inr j ↦ o.0 d j
      ]

      by_test : (b : Bool) → is_same r.message c.message ≡ b
          → IsNextBegin all r.message r.last (if b then Some c.first else None)
      by_test true t =
          let same = same_so r.message c.message t in (
            (c, into_rest c in_rest, sym same, refl),
            omega (arith, far c in_rest (sym same)),
            λ d m f l. elim (of d m) [
              | inl k ↦ absurd (no_more d k f l)
              | inr k ↦ firsts_up_to c d (sym same ∙ sym f) (behind d k)
            ],
          )
      by_test false t = λ d m f l. elim (of d m) [
        | inl k ↦ no_more d k f l
        | inr k ↦ (let down = subst (λ (x : Message). IsUpTo message_cmp c.message x) f
            (messages_up_to c d (behind d k)) in
            let same = same_greatest message_total message_exact r.message c.message up_to_c down in
            let u : true ≡ false = sym (same_test r.message c.message same) ∙ t in absurd (cc))
      ]

    sent_once : Ordered (IsUpTo copy_cmp) rest → IsSentOnce gap all (ended r rest)
    sent_once o = record {
      run = run;
      gate = (start, first_copy, opened.start_gate);
      until = begins_then rest refl o;
    }

  -- ---- all runs

  -- The run is of the same message as the other or of one above, and begins no earlier.
  abbrev IsNoEarlier : Sent → Sent → Type 0
  IsNoEarlier r s = IsBelow message_cmp r.message s.message
      ⊎ ((r.message ≡ s.message) × (r.first ≤ s.first))

  record AreAfter (all rest : List Copy) (r : Sent) (rs : List Sent) : Type 0 where
    ascending : Ordered IsSentBefore rs
    no_earlier : (s : Sent) → s ∈ rs → IsNoEarlier r s
    each : (s : Sent) → s ∈ rs → IsSentOnce gap all s
    every : (c : Copy) → c ∈ rest → (s : Sent) × (s ∈ rs) × IsCopyOf s c
    own : (s : Sent) × (s ∈ rs) × (s.message ≡ r.message) × (s.first ≡ r.first) × (r.last ≤ s.last)

  -- one more copy
  module _ (all done cs : List Copy) (r : Sent) (start c : Copy) (opened : IsOpen gap done r start)
      (of : (d : Copy) → d ∈ all → (d ∈ done) ⊎ (d ∈ (c ∷ cs)))
      (into_done : (d : Copy) → d ∈ done → d ∈ all)
      (into_rest : (d : Copy) → d ∈ (c ∷ cs) → d ∈ all)
      (timely : AreInTime all)
      (after : (d e : Copy) → d ∈ done → e ∈ (c ∷ cs) → IsUpTo copy_cmp d e)
      (o : Ordered (IsUpTo copy_cmp) (c ∷ cs)) where
    in_time : c.first ≤ c.last
    in_time = timely c (into_rest c (inl refl))

    after_c : (d : Copy) → d ∈ done → IsUpTo copy_cmp d c
    after_c d m = after d c m (inl refl)

    of_more : (d : Copy) → d ∈ all → (d ∈ (c ∷ done)) ⊎ (d ∈ cs)
    of_more d m = elim (of d m) [
      | inl k ↦ inl (inr k)
      | inr k ↦ elim k [ inl e ↦ inl (inl e) | inr j ↦ inr j ]
    ]

    into_more : (d : Copy) → d ∈ (c ∷ done) → d ∈ all
    into_more d m = elim m [
      | inl e ↦ into_rest d (inl e)
      | inr k ↦ into_done d k
    ]

    after_more : (d e : Copy) → d ∈ (c ∷ done) → e ∈ cs → IsUpTo copy_cmp d e
    after_more d e m k = elim m [
      | inl i ↦ subst (λ (x : Copy). IsUpTo copy_cmp x e) i (o.0 e k)
      | inr j ↦ after d e j (inr k)
    ]

    tests : goes_on gap r c ≡ true → (is_same r.message c.message ≡ true) × (leb c.first (r.last + gap) ≡ true)
    tests t = and_parts (is_same r.message c.message) (leb c.first (r.last + gap)) t

    again_open : goes_on gap r c ≡ true → IsOpen gap (c ∷ done) (sent_again r c) start
    again_open t = again done r start opened c in_time after_c (same_so r.message c.message (tests t).0)
        (leb-true c.first (r.last + gap) (tests t).1)

    fresh_open : goes_on gap r c ≡ false → IsOpen gap (c ∷ done) (sent_first c) c
    fresh_open t = fresh done r start opened c in_time after_c t (λ d m. timely d (into_done d m))

    goes_on_so : goes_on gap r c ≡ true → AreAfter all cs (sent_again r c) (runs_after gap (sent_again r c) cs)
        → AreAfter all (c ∷ cs) r (runs_after gap (sent_again r c) cs)
    goes_on_so t h =
        let same = same_so r.message c.message (tests t).0 in
        let begun = first_up_to done r start opened c in_time after_c same
        (leb-true c.first (r.last + gap) (tests t).1) in
        record {
          ascending = h.ascending;
          no_earlier = h.no_earlier;
          each = h.each;
          every = λ x m. elim m [
            | inl e ↦ (
              h.own.0,
              h.own.1,
              record {
                message = h.own.2 ∙ same ∙ ap (λ (y : Copy). y.message) e;
                begins = omega (arith, h.own.3, begun, ap (λ (y : Copy). y.first) e);
                ends = omega (arith, h.own.4, ap (λ (y : Copy). y.last) e);
              },
            )
            | inr k ↦ h.every x k
          ];
          own = (h.own.0, h.own.1, h.own.2, h.own.3, omega (arith, h.own.4));
        }

    module _ (t : goes_on gap r c ≡ false) where
      up : IsUpTo message_cmp r.message c.message
      up = r_up_to_c done r start opened c in_time after_c

      ab : ((r.message ≡ c.message) × (r.last + gap < c.first)) ⊎ (is_same r.message c.message ≡ false)
      ab = apart_or_below done r start opened c in_time after_c t

      far : (d : Copy) → d ∈ (c ∷ cs) → d.message ≡ r.message → r.last + gap < d.first
      far d m e = elim ab [
        | inl p ↦ elim m [
          | inl i ↦ omega (arith, p.1, ap (λ (y : Copy). y.first) i)
          | inr k ↦ omega (arith, p.1, firsts_up_to c d (sym p.0 ∙ sym e) (o.0 d k))
        ]
        | inr n ↦ (let down : IsUpTo message_cmp c.message d.message = elim m [
          | inl i ↦ subst (λ (y : Copy). IsUpTo message_cmp c.message y.message) i
              (up_to_itself message_total c.message)
          | inr k ↦ messages_up_to c d (o.0 d k)
        ] in
            let same = same_greatest message_total message_exact r.message c.message up
            (subst (λ (x : Message). IsUpTo message_cmp c.message x) e down) in
            let u : true ≡ false = sym (same_test r.message c.message same) ∙ n in absurd (cc))
      ]

      between : (s : Sent) → IsNoEarlier (sent_first c) s → IsSentBefore r s
      between s h = elim ab [
        | inl p ↦ elim h [
          | inl b ↦ inl (subst (λ (x : Message). IsBelow message_cmp x s.message) (sym p.0) b)
          | inr q ↦ inr (p.0 ∙ q.0, omega (arith, p.1, q.1, opened.in_order))
        ]
        | inr n ↦ (let l = strictly r.message c.message up n in
            elim h [
              | inl b ↦ inl (message_total.trans r.message c.message s.message l b)
              | inr q ↦ inl (subst (λ (x : Message). IsBelow message_cmp r.message x) q.0 l)
            ])
      ]

      weaker : (s : Sent) → IsSentBefore r s → IsNoEarlier r s
      weaker s h = elim h [
        | inl b ↦ inl b
        | inr q ↦ inr (q.0, omega (arith, q.1))
      ]

      parts_so : AreAfter all cs (sent_first c) (runs_after gap (sent_first c) cs)
          → AreAfter all (c ∷ cs) r (ended r (c ∷ cs) ∷ runs_after gap (sent_first c) cs)
      parts_so h = record {
        ascending = (λ s m. between s (h.no_earlier s m), h.ascending);
        no_earlier = λ s m. elim m [
          | inl e ↦ inr (ap (λ (x : Sent). x.message) e, omega (arith, ap (λ (x : Sent). x.first) e))
          | inr k ↦ weaker s (between s (h.no_earlier s k))
        ];
        each = λ s m. elim m [
          | inl e ↦ subst (λ (x : Sent). IsSentOnce gap all x) e
              (sent_once all done (c ∷ cs) r start opened of into_done into_rest timely after far o)
          | inr k ↦ h.each s k
        ];
        every = λ x m. elim m [
          | inl e ↦ (
            h.own.0,
            inr h.own.1,
            record {
              message = h.own.2 ∙ ap (λ (y : Copy). y.message) e;
              begins = omega (arith, h.own.3, ap (λ (y : Copy). y.first) e);
              ends = omega (arith, h.own.4, ap (λ (y : Copy). y.last) e);
            },
          )
          | inr k ↦ (let q = h.every x k in (q.0, inr q.1, q.2))
        ];
        own = (ended r (c ∷ cs), inl refl, refl, refl, omega arith);
      }

    step : (b : Bool) → goes_on gap r c ≡ b
        → (goes_on gap r c ≡ true → AreAfter all cs (sent_again r c) (runs_after gap (sent_again r c) cs))
        → (goes_on gap r c ≡ false → AreAfter all cs (sent_first c) (runs_after gap (sent_first c) cs))
        → AreAfter all (c ∷ cs) r (if b then runs_after gap (sent_again r c) cs
        else (ended r (c ∷ cs) ∷ runs_after gap (sent_first c) cs))
    step true t h k = goes_on_so t (h t)
    step false t h k = parts_so t (k t)

  module _ (all : List Copy) (timely : AreInTime all) where
    runs_are : (rest done : List Copy) (r : Sent) (start : Copy) → IsOpen gap done r start
        → ((d : Copy) → d ∈ all → (d ∈ done) ⊎ (d ∈ rest))
        → ((d : Copy) → d ∈ done → d ∈ all) → ((d : Copy) → d ∈ rest → d ∈ all)
        → ((d e : Copy) → d ∈ done → e ∈ rest → IsUpTo copy_cmp d e)
        → Ordered (IsUpTo copy_cmp) rest
        → AreAfter all rest r (runs_after gap r rest)
    runs_are [] done r start opened of into_done into_rest after o = record {
      ascending = (λ s h. absurd h, tt);
      no_earlier = λ s h. elim h [
        | inl e ↦ inr (ap (λ (x : Sent). x.message) e, omega (arith, ap (λ (x : Sent). x.first) e))
        | inr k ↦ absurd k
      ];
      each = λ s h. elim h [
        | inl e ↦ subst (λ (x : Sent). IsSentOnce gap all x) e
            (sent_once all done [] r start opened of into_done into_rest timely after
            (λ d k f. absurd k) o)
        | inr k ↦ absurd k
      ];
      every = λ c h. absurd h;
      own = (ended r [], inl refl, refl, refl, omega arith);
    }
    runs_are (c ∷ cs) done r start opened of into_done into_rest after o =
        step all done cs r start c opened of into_done into_rest timely after o (goes_on gap r c) refl
        (λ t. runs_are cs (c ∷ done) (sent_again r c) start
        (again_open all done cs r start c opened of into_done into_rest timely after o t)
        (of_more all done cs r start c opened of into_done into_rest timely after o)
        (into_more all done cs r start c opened of into_done into_rest timely after o)
        (λ x k. into_rest x (inr k))
        (after_more all done cs r start c opened of into_done into_rest timely after o) o.1)
        (λ t. runs_are cs (c ∷ done) (sent_first c) c
        (fresh_open all done cs r start c opened of into_done into_rest timely after o t)
        (of_more all done cs r start c opened of into_done into_rest timely after o)
        (into_more all done cs r start c opened of into_done into_rest timely after o)
        (λ x k. into_rest x (inr k))
        (after_more all done cs r start c opened of into_done into_rest timely after o) o.1)

  first_open : (c : Copy) → c.first ≤ c.last → IsOpen gap (c ∷ []) (sent_first c) c
  first_open c in_time = record {
    start_in = inl refl;
    start_message = refl;
    start_first = refl;
    start_gate = refl;
    least = λ d m e f. elim m [
      | inl i ↦ subst (λ (x : Copy). IsUpTo copy_cmp c x) i (up_to_itself copy_total c)
      | inr k ↦ absurd k
    ];
    in_order = in_time;
    at_last = (c, inl refl, refl, refl);
    before = λ d m e f. elim m [
      | inl i ↦ absurd (omega (arith, f, ap (λ (x : Copy). x.first) i))
      | inr k ↦ absurd k
    ];
    up_to_last = λ d m e. elim m [
      | inl i ↦ omega (arith, ap (λ (x : Copy). x.last) i)
      | inr k ↦ absurd k
    ];
    dense = λ t f l. (
      t + 1,
      omega arith,
      omega (arith, some),
      (c, inl refl, refl, omega (arith, f), omega (arith, l)),
    );
    below = λ d m. elim m [
      | inl i ↦ subst (λ (x : Copy). IsUpTo message_cmp x.message c.message) i
          (up_to_itself message_total c.message)
      | inr k ↦ absurd k
    ];
  }

  sent_of_all : (copies : List Copy) → AreInTime copies → Ordered (IsUpTo copy_cmp) copies
      → AreSent gap copies (runs_of gap copies)
  sent_of_all [] timely o = record {
    ascending = tt;
    each = λ r h. absurd h;
    every = λ c h. absurd h;
  }
  sent_of_all (c ∷ cs) timely o =
      let h = runs_are (c ∷ cs) timely cs (c ∷ []) (sent_first c) c
      (first_open c (timely c (inl refl)))
      (λ d m. elim m [ inl e ↦ inl (inl e) | inr k ↦ inr k ])
      (λ d m. elim m [ inl e ↦ inl e | inr k ↦ absurd k ])
      (λ d m. inr m)
      (λ d e m k. elim m [
        | inl i ↦ subst (λ (x : Copy). IsUpTo copy_cmp x e) i (o.0 e k)
        | inr j ↦ absurd j
      ])
      o.1 in
      record {
        ascending = h.ascending;
        each = h.each;
        every = λ x m. elim m [
          | inl e ↦ (
            h.own.0,
            h.own.1,
            record {
              message = h.own.2 ∙ ap (λ (y : Copy). y.message) e;
              begins = omega (arith, h.own.3, ap (λ (y : Copy). y.first) e);
              ends = omega (arith, h.own.4, ap (λ (y : Copy). y.last) e);
            },
          )
          | inr k ↦ h.every x k
        ];
      }

pub plain_is_sent : PlainIsSent
plain_is_sent gap copies some timely o = sent_of_all gap some copies timely o
