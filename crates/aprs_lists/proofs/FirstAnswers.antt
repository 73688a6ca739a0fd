-- The first answer is where a search in order finds it.
use Rattle.aprs_lists.proofs.Common.{◌≡◌, ◌∙◌, ◌<◌, ◌≤◌, ◌⊎◌, ℕ, Bool, true, false, List, [], ◌∷◌, Option, None, Some, drop, length, get_or, map, suc, zero, ap, arith, refl, subst, sym, inl, inr, Call, call_cmp, call_total, call_exact, bytes_cmp, bytes_total, bytes_exact, bool_cmp, bool_cmp_total, nat_cmp, nat_cmp_total, exact_pairs, CmpEqualImpliesEq, IsTotalOrder, MatchOrdering, ranks, IsPartitionedBy, is_eq, is_gt, is_lt, and_from, and_parts, lt-ltb, ltb-true, on, on_total, then_total, ordering_then, Ordered, Ordering, Less, Equal, Greater, IsUpTo, same_greatest, up_to_itself, tied_itself, place_of, in_place, cases_lt, option_map, if◌then◌else◌, from_map, in_map, ◌∈◌}
use Rattle.aprs_lists.specs.Answers.{AnswersInTime, AskedAnswer, IsFirstAnswer, Reply, asked_cmp, chosen_of, first_in_time, is_before, reply_cmp, reply_of}
use Rattle.aprs_lists.specs.Chosen.{chosen, is_early, is_timely}
use Rattle.aprs_lists.specs.declared.net.answers.Answer.{Answer}
use Rattle.aprs_lists.proofs.Orders.{not_after, ordered_drop, dropped_in}

pub asked_total : IsTotalOrder asked_cmp
asked_total =
    then_total (on_total (λ (q : AskedAnswer). q.source) call_total)
    (then_total (on_total (λ (q : AskedAnswer). q.answerer) call_total)
    (then_total (on_total (λ (q : AskedAnswer). q.number) bytes_total)
    (on_total (λ (q : AskedAnswer). q.is_reply) bool_cmp_total)))

pub bool_exact : CmpEqualImpliesEq bool_cmp
bool_exact true true h = refl
bool_exact false false h = refl
bool_exact true false h = absurd (cc)
bool_exact false true h = absurd (cc)

pub asked_exact : CmpEqualImpliesEq asked_cmp
asked_exact a b h =
    ap (λ (p : Call × (Call × (List ℕ × Bool))). record
    { source = p.0; answerer = p.1.0; number = p.1.1.0; is_reply = p.1.1.1 })
    (exact_pairs call_cmp
    (λ (x y : Call × (List ℕ × Bool)). ordering_then (call_cmp x.0 y.0)
    (ordering_then (bytes_cmp x.1.0 y.1.0) (bool_cmp x.1.1 y.1.1))) call_exact
    (exact_pairs call_cmp
    (λ (x y : List ℕ × Bool). ordering_then (bytes_cmp x.0 y.0) (bool_cmp x.1 y.1)) call_exact
    (exact_pairs bytes_cmp bool_cmp bytes_exact bool_exact))
    (a.source, (a.answerer, (a.number, a.is_reply))) (b.source, (b.answerer, (b.number, b.is_reply))) h)

pub reply_total : IsTotalOrder reply_cmp
reply_total =
    then_total (on_total (λ (a : Reply). a.asked) asked_total)
    (then_total (on_total (λ (a : Reply). a.moment) nat_cmp_total)
    (on_total (λ (a : Reply). a.is_rejection) bool_cmp_total))

-- ---- parts of the order

-- what is not after another is for nothing that is after
pub asked_up_to : (a b : Reply) → IsUpTo reply_cmp a b → IsUpTo asked_cmp a.asked b.asked
asked_up_to a b h = by_case (asked_cmp a.asked b.asked) _ h where
  by_case : (o rest : Ordering) → is_gt (ordering_then o rest) ≡ false → is_gt o ≡ false
  by_case Less rest h = refl
  by_case Equal rest h = refl
  by_case Greater rest h = h

-- of what is for the same, what is not after another isn't heard later
not_later : (m n : ℕ) (p q : Bool) → is_gt (ordering_then (nat_cmp m n) (bool_cmp p q)) ≡ false
    → m ≤ n
not_later m n p q h = by_case (nat_cmp m n) (ranks m n) h where
  by_case : (o : Ordering) → MatchOrdering o (m < n) (m ≡ n) (n < m)
      → is_gt (ordering_then o (bool_cmp p q)) ≡ false → m ≤ n
  by_case Less c h = omega (arith, c)
  by_case Equal c h = omega (arith, c)
  by_case Greater c h = absurd (cc)

-- of answers for the same, one that isn't after another wasn't heard later
pub moments_up_to : (a b : Reply) → a.asked ≡ b.asked → IsUpTo reply_cmp a b → a.moment ≤ b.moment
moments_up_to a b e h =
    let tie : asked_cmp a.asked b.asked ≡ Equal =
    ap (asked_cmp a.asked) (sym e) ∙ tied_itself asked_total a.asked in
    not_later a.moment b.moment a.is_rejection b.is_rejection
    (subst (λ (o : Ordering). is_gt (ordering_then o (ordering_then (nat_cmp a.moment b.moment)
    (bool_cmp a.is_rejection b.is_rejection))) ≡ false) tie h)

-- what is no later than a moment before another is before it too
pub earlier_before : (until : Option ℕ) (m n : ℕ) → m ≤ n → is_before until n ≡ true
    → is_before until m ≡ true
earlier_before None m n le h = refl
earlier_before (Some u) m n le h = lt-ltb m u (omega (arith, ltb-true n u h, le))

pub equal_so : (o : Ordering) → is_eq o ≡ true → o ≡ Equal
equal_so Less h = absurd (cc)
equal_so Equal h = refl
equal_so Greater h = absurd (cc)

-- what is heard no earlier doesn't come before an acknowledgement
pub not_early : (m n : ℕ) (p : Bool) → n ≤ m → is_lt (ordering_then (nat_cmp m n) (bool_cmp p false)) ≡ false
not_early m n p h = by_case (nat_cmp m n) (ranks m n) where
  by_case : (o : Ordering) → MatchOrdering o (m < n) (m ≡ n) (n < m)
      → is_lt (ordering_then o (bool_cmp p false)) ≡ false
  by_case Less c = absurd (omega (arith, c, h))
  by_case Equal c = no_less p where
    no_less : (p : Bool) → is_lt (bool_cmp p false) ≡ false
    no_less true = refl
    no_less false = refl
  by_case Greater c = refl

module _ (least : Answer) (acknowledges : least.is_rejection ≡ false) (until : Option ℕ) where
  abbrev q : AskedAnswer
  q = (reply_of least).asked

  abbrev Timely : Reply → Type 0
  Timely a = AnswersInTime q least.moment until a

  -- what answers in time isn't early
  timely_late : (x : Answer) → Timely (reply_of x) → is_early least x ≡ false
  timely_late x t =
      ap (λ o. is_lt (ordering_then o (ordering_then (nat_cmp x.moment least.moment)
      (bool_cmp x.is_rejection least.is_rejection))))
      (ap (λ a. asked_cmp a q) t.for_it ∙ tied_itself asked_total q)
      ∙ ap (λ b. is_lt (ordering_then (nat_cmp x.moment least.moment) (bool_cmp x.is_rejection b)))
      acknowledges
      ∙ not_early x.moment least.moment x.is_rejection t.not_before

  early_or_behind : (xs : List Answer) (at : ℕ)
      → ((k : ℕ) (d : Answer) → 0 ≤ k → k < at → is_early least (get_or xs k d) ≡ true)
      → (x : Answer) → x ∈ xs → (is_early least x ≡ true) ⊎ (x ∈ drop at xs)
  early_or_behind xs zero h x m = inr m
  early_or_behind [] (suc n) h x m = absurd m
  early_or_behind (y ∷ xs) (suc n) h x (inl e) =
      inl (subst (λ (z : Answer). is_early least z ≡ true) e (h 0 y (omega arith) (omega arith)))
  early_or_behind (y ∷ xs) (suc n) h x (inr m) =
      early_or_behind xs n (λ k d p q. h (suc k) d (omega arith) (omega (arith, q))) x m

  module _ (xs : List Answer) (at : ℕ)
      (ascending : Ordered (IsUpTo (on reply_of reply_cmp)) xs)
      (early : (k : ℕ) (d : Answer) → 0 ≤ k → k < at → is_early least (get_or xs k d) ≡ true)
      (late : (x : Answer) → x ∈ drop at xs → is_early least x ≡ false) where
    -- what answers in time stands behind
    behind : (x : Answer) → x ∈ xs → Timely (reply_of x) → x ∈ drop at xs
    behind x m t = elim (early_or_behind xs at early x m) [
      | inl e ↦ (let f = timely_late x t in let c : true ≡ false = sym e ∙ f in absurd (cc))
      | inr d ↦ d
    ]

    none_timely : drop at xs ≡ [] → (a : Reply) → a ∈ map reply_of xs → Timely a → ⊥
    none_timely e a m t =
        let f = from_map reply_of a xs m in
        let d = behind f.0 f.1 (subst Timely (sym f.2) t) in
        subst (λ (ys : List Answer). f.0 ∈ ys) e d

    -- the first that stands behind is up to all that answer in time
    module _ (y : Answer) (ys : List Answer) (is : drop at xs ≡ y ∷ ys) where
      up_to : (b : Reply) → b ∈ map reply_of xs → Timely b → IsUpTo reply_cmp (reply_of y) b
      up_to b m t =
          let f = from_map reply_of b xs m in
          let d = subst (λ (zs : List Answer). f.0 ∈ zs) is (behind f.0 f.1 (subst Timely (sym f.2) t)) in
          let o = subst (λ (zs : List Answer). Ordered (IsUpTo (on reply_of reply_cmp)) zs) is
          (ordered_drop (IsUpTo (on reply_of reply_cmp)) at xs ascending) in
          subst (λ (r : Reply). IsUpTo reply_cmp (reply_of y) r) f.2
          (elim d [
            | inl e ↦ subst (λ (z : Answer). IsUpTo reply_cmp (reply_of y) (reply_of z)) e
                (up_to_itself reply_total (reply_of y))
            | inr k ↦ o.0 f.0 k
          ])

      from_least : IsUpTo reply_cmp (reply_of least) (reply_of y)
      from_least = not_after reply_total (reply_of least) (reply_of y)
          (late y (subst (λ (zs : List Answer). y ∈ zs) (sym is) (inl refl)))

      -- where one answers in time, the first does
      timely_first : (b : Reply) → b ∈ map reply_of xs → Timely b → Timely (reply_of y)
      timely_first b m t =
          let u = up_to b m t in
          let same : (reply_of y).asked ≡ q =
          same_greatest asked_total asked_exact (reply_of y).asked q
          (subst (λ (a : AskedAnswer). IsUpTo asked_cmp (reply_of y).asked a) t.for_it
          (asked_up_to (reply_of y) b u))
          (asked_up_to (reply_of least) (reply_of y) from_least) in
          record {
            for_it = same;
            not_before = moments_up_to (reply_of least) (reply_of y) (sym same) from_least;
            before =
                earlier_before until y.moment b.moment
                (moments_up_to (reply_of y) b (same ∙ sym t.for_it) u) t.before;
          }

      test_passes : Timely (reply_of y) → is_timely least until y ≡ true
      test_passes t =
          and_from (is_eq (asked_cmp (reply_of y).asked q)) (is_before until y.moment)
          (ap (λ a. is_eq (asked_cmp a q)) t.for_it ∙ ap is_eq (tied_itself asked_total q)) t.before

      chosen_so : (b : Bool) → is_timely least until y ≡ b
          → IsFirstAnswer (map reply_of xs) q least.moment until
          (option_map reply_of (if b then Some y else None))
      chosen_so false e = λ a m t. let c : true ≡ false = sym (test_passes (timely_first a m t)) ∙ e in
          absurd (cc)
      chosen_so true e =
          let d = and_parts (is_eq (asked_cmp (reply_of y).asked q)) (is_before until y.moment) e in
          let same = asked_exact (reply_of y).asked q (equal_so (asked_cmp (reply_of y).asked q) d.0) in (
            in_map reply_of y xs
                (dropped_in at xs y (subst (λ (zs : List Answer). y ∈ zs) (sym is) (inl refl))),
            record {
              for_it = same;
              not_before = moments_up_to (reply_of least) (reply_of y) (sym same) from_least;
              before = d.1;
            },
            up_to,
          )

    pub chosen_is : (zs : List Answer) → drop at xs ≡ zs
        → IsFirstAnswer (map reply_of xs) q least.moment until
        (option_map reply_of (chosen least until zs))
    chosen_is [] e = none_timely e
    chosen_is (y ∷ ys) e = chosen_so y ys e (is_timely least until y) refl

-- ---- where a search parts answers in order

pair_in_order : (xs : List Answer) (i j : ℕ) (d : Answer) → i < j → j < length xs
    → Ordered (IsUpTo (on reply_of reply_cmp)) xs
    → IsUpTo reply_cmp (reply_of (get_or xs i d)) (reply_of (get_or xs j d))
pair_in_order [] i j d l w o = absurd (omega (arith, w))
pair_in_order (x ∷ xs) zero zero d l w o = absurd (omega (arith, l))
pair_in_order (x ∷ xs) zero (suc j) d l w o = o.0 (get_or xs j d) (in_place xs j d (omega (arith, w)))
pair_in_order (x ∷ xs) (suc i) zero d l w o = absurd (omega (arith, l))
pair_in_order (x ∷ xs) (suc i) (suc j) d l w o =
    pair_in_order xs i j d (omega (arith, l)) (omega (arith, w)) o.1

less_so : (o : Ordering) → is_lt o ≡ true → o ≡ Less
less_so Less h = refl
less_so Equal h = absurd (cc)
less_so Greater h = absurd (cc)

below_by : (a b c : Reply) (o : Ordering) → reply_cmp a b ≡ o → is_gt o ≡ false
    → reply_cmp b c ≡ Less → reply_cmp a c ≡ Less
below_by a b c Less e h l = reply_total.trans a b c e l
below_by a b c Equal e h l = reply_total.congr a b c e ∙ l
below_by a b c Greater e h l = absurd (cc)

-- answers in order are parted by whether they are early
pub parted : (least : Answer) (xs : List Answer) → Ordered (IsUpTo (on reply_of reply_cmp)) xs
    → IsPartitionedBy (is_early least) xs
parted least xs o i j d le within e = elim (cases_lt i j) [
  | inl under ↦ ap is_lt (below_by (reply_of (get_or xs i d)) (reply_of (get_or xs j d)) (reply_of least)
      (reply_cmp (reply_of (get_or xs i d)) (reply_of (get_or xs j d))) refl
      (pair_in_order xs i j d under within o)
      (less_so (reply_cmp (reply_of (get_or xs j d)) (reply_of least)) e))
  | inr over ↦ (let same : i ≡ j = omega (arith, le, over) in
      subst (λ (k : ℕ). is_early least (get_or xs k d) ≡ true) (sym same) e)
]

-- what holds from a place on holds of all that stands behind
pub late_of : (P : Answer → Type 0) (xs : List Answer) (at : ℕ)
    → ((k : ℕ) (d : Answer) → at ≤ k → k < length xs → P (get_or xs k d))
    → (x : Answer) → x ∈ drop at xs → P x
late_of P xs zero h x m = let p = place_of xs x m in subst P (p.2 x) (h p.0 x (omega arith) p.1)
late_of P [] (suc n) h x m = absurd m
late_of P (y ∷ xs) (suc n) h x m =
    late_of P xs n (λ k d p q. h (suc k) d (omega (arith, p)) (omega (arith, q))) x m

-- looking at one answer after another finds the same
module _ (least : Answer) (until : Option ℕ) where
  pub found_so : (xs : List Answer) (at : ℕ)
      → ((k : ℕ) (d : Answer) → 0 ≤ k → k < at → is_early least (get_or xs k d) ≡ true)
      → ((x : Answer) → x ∈ drop at xs → is_early least x ≡ false)
      → option_map reply_of (chosen least until (drop at xs))
      ≡ first_in_time (reply_of least) until (map reply_of xs)
  found_so [] zero e l = refl
  found_so [] (suc n) e l = refl
  found_so (x ∷ xs) zero e l =
      chosen_alike (is_timely least until x)
      ∙ sym (ap (λ b. if b then first_in_time (reply_of least) until (map reply_of xs)
      else chosen_of (reply_of least) until (map reply_of (x ∷ xs))) (l x (inl refl))) where
        chosen_alike : (b : Bool) → option_map reply_of (if b then Some x else None)
            ≡ (if b then Some (reply_of x) else None)
        chosen_alike true = refl
        chosen_alike false = refl
  found_so (x ∷ xs) (suc n) e l =
      found_so xs n (λ k d p q. e (suc k) d (omega arith) (omega (arith, q))) l
      ∙ sym (ap (λ b. if b then first_in_time (reply_of least) until (map reply_of xs)
      else chosen_of (reply_of least) until (map reply_of (x ∷ xs)))
      (e 0 x (omega arith) (omega arith)))
