-- One answer after another, in order, gives the first that counts.
use Rattle.aprs_lists.proofs.Common.{◌≡◌, ◌∙◌, ℕ, Bool, true, false, List, [], ◌∷◌, Option, None, Some, ap, refl, subst, sym, inl, inr, bool_cmp, nat_cmp, is_eq, is_lt, and_from, and_parts, if◌then◌else◌, ordering_then, Ordered, IsUpTo, same_greatest, up_to_itself, tied_itself, ◌∈◌}
use Rattle.aprs_lists.specs.Answers.{AnswersInTime, AskedAnswer, IsFirstAnswer, PlainIsFirst, Reply, asked_cmp, chosen_of, first_in_time, is_before, is_early, is_timely, reply_cmp}
use Rattle.aprs_lists.proofs.FirstAnswers.{asked_exact, asked_total, asked_up_to, earlier_before, equal_so, moments_up_to, not_early, reply_total}
use Rattle.aprs_lists.proofs.Orders.{not_after}

module _ (least : Reply) (acknowledges : least.is_rejection ≡ false) (until : Option ℕ) where
  abbrev q : AskedAnswer
  q = least.asked

  abbrev Timely : Reply → Type 0
  Timely a = AnswersInTime q least.moment until a

  -- what answers in time isn't early
  timely_late : (x : Reply) → Timely x → is_early least x ≡ false
  timely_late x t =
      ap (λ o. is_lt (ordering_then o (ordering_then (nat_cmp x.moment least.moment)
      (bool_cmp x.is_rejection least.is_rejection))))
      (ap (λ a. asked_cmp a q) t.for_it ∙ tied_itself asked_total q)
      ∙ ap (λ b. is_lt (ordering_then (nat_cmp x.moment least.moment) (bool_cmp x.is_rejection b)))
      acknowledges
      ∙ not_early x.moment least.moment x.is_rejection t.not_before

  abbrev Is : List Reply → Option Reply → Type 0
  Is replies o = IsFirstAnswer replies q least.moment until o

  -- one that is early changes nothing
  passed : (x : Reply) (xs : List Reply) (o : Option Reply) → is_early least x ≡ true → Is xs o
      → Is (x ∷ xs) o
  passed x xs None e h = λ a m t. elim m [
    | inl i ↦ (let late = timely_late a t in
        let c : true ≡ false = sym (subst (λ (y : Reply). is_early least y ≡ true) i e) ∙ late in
        absurd (cc))
    | inr k ↦ h a k t
  ]
  passed x xs (Some y) e h = (
    inr h.0,
    h.1,
    λ b m t. elim m [
      | inl i ↦ (let late = timely_late b t in
          let c : true ≡ false = sym (subst (λ (z : Reply). is_early least z ≡ true) i e) ∙ late in
          absurd (cc))
      | inr k ↦ h.2 b k t
    ],
  )

  module _ (x : Reply) (xs : List Reply) (o : Ordered (IsUpTo reply_cmp) (x ∷ xs))
      (late : is_early least x ≡ false) where
    up_to : (b : Reply) → b ∈ (x ∷ xs) → IsUpTo reply_cmp x b
    up_to b m = elim m [
      | inl i ↦ subst (λ (y : Reply). IsUpTo reply_cmp x y) i (up_to_itself reply_total x)
      | inr k ↦ o.0 b k
    ]

    from_least : IsUpTo reply_cmp least x
    from_least = not_after reply_total least x late

    timely_first : (b : Reply) → b ∈ (x ∷ xs) → Timely b → Timely x
    timely_first b m t =
        let u = up_to b m in
        let same : x.asked ≡ q = same_greatest asked_total asked_exact x.asked q
        (subst (λ (a : AskedAnswer). IsUpTo asked_cmp x.asked a) t.for_it (asked_up_to x b u))
        (asked_up_to least x from_least) in
        record {
          for_it = same;
          not_before = moments_up_to least x (sym same) from_least;
          before =
              earlier_before until x.moment b.moment (moments_up_to x b (same ∙ sym t.for_it) u)
              t.before;
        }

    passes : Timely x → is_timely least until x ≡ true
    passes t = and_from (is_eq (asked_cmp x.asked q)) (is_before until x.moment)
        (ap (λ a. is_eq (asked_cmp a q)) t.for_it ∙ ap is_eq (tied_itself asked_total q)) t.before

    chosen_so : (b : Bool) → is_timely least until x ≡ b → Is (x ∷ xs) (if b then Some x else None)
    chosen_so false e = λ a m t. let c : true ≡ false = sym (passes (timely_first a m t)) ∙ e in absurd (cc)
    chosen_so true e =
        let d = and_parts (is_eq (asked_cmp x.asked q)) (is_before until x.moment) e in
        let same = asked_exact x.asked q (equal_so (asked_cmp x.asked q) d.0) in (
          inl refl,
          record {
            for_it = same;
            not_before = moments_up_to least x (sym same) from_least;
            before = d.1;
          },
          λ b m t. up_to b m,
        )

  first_is : (replies : List Reply) → Ordered (IsUpTo reply_cmp) replies
      → Is replies (first_in_time least until replies)
  first_is [] o = λ a m t. absurd m
  first_is (x ∷ xs) o = by_test (is_early least x) refl (first_is xs o.1) where
    by_test : (b : Bool) → is_early least x ≡ b → Is xs (first_in_time least until xs)
        → Is (x ∷ xs) (if b then first_in_time least until xs else chosen_of least until (x ∷ xs))
    by_test true e h = passed x xs (first_in_time least until xs) e h
    by_test false e h = chosen_so x xs o e (is_timely least until x) refl

pub plain_is_first : PlainIsFirst
plain_is_first replies least until o acknowledges = first_is least acknowledges until replies o
