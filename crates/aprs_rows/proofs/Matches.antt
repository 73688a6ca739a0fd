-- Matches between the rows in front of several streams.
use Rattle.aprs_rows.proofs.Common.{◌≡◌, ◌<◌, ◌≤◌, ◌+◌, ◌-◌, ◌*◌, ◌/◌, ◌==◌, ◌⊎◌, ◌∙◌, ℕ, zero, suc, true, false, List, [], ◌∷◌, length, get_or, Option, inl, inr, refl, sym, ap, subst, arith, Row}
use Rattle.std.proofs.lemmas.Bool.{cases_lt}
use Rattle.std.specs.Prelude.{◌≢◌, set}
use Rattle.aprs_rows.specs.Fronts.{front_at, NotAfter}
use Rattle.aprs_rows.specs.Matches.{halved, winner_of, AreWithin, IsAbove, IsPlayed, IsPlayedBut, IsWon}
use Rattle.aprs_rows.proofs.Fronts.{NotAfter-itself, NotAfter-then}

-- ---- who won

pub winner_of-get : (ws : List ℕ) (k d : ℕ) → k < length ws → winner_of ws k ≡ get_or ws k d
winner_of-get [] k d lt = absurd (omega (arith, lt))
winner_of-get (w ∷ ws) zero d lt = refl
winner_of-get (w ∷ ws) (suc k) d lt = winner_of-get ws k d (omega (arith, lt))

pub winner_of-past : (ws : List ℕ) (k : ℕ) → length ws ≤ k → winner_of ws k ≡ k - length ws
winner_of-past [] k le = omega arith
winner_of-past (w ∷ ws) zero le = absurd (omega (arith, le))
winner_of-past (w ∷ ws) (suc k) le =
    let own = winner_of-past ws k (omega (arith, le)) in omega (arith, own, le)

pub winner_of-other : (ws : List ℕ) (i k x : ℕ) → k ≢ i
    → winner_of (set ws i x) k ≡ winner_of ws k
winner_of-other [] i k x unlike = refl
winner_of-other (w ∷ ws) zero zero x unlike = absurd (unlike refl)
winner_of-other (w ∷ ws) zero (suc k) x unlike = refl
winner_of-other (w ∷ ws) (suc i) zero x unlike = refl
winner_of-other (w ∷ ws) (suc i) (suc k) x unlike =
    winner_of-other ws i k x (λ e. unlike (ap suc e))

winner_of-same : (ws : List ℕ) (i x : ℕ) → i < length ws → winner_of (set ws i x) i ≡ x
winner_of-same [] i x lt = absurd (omega (arith, lt))
winner_of-same (w ∷ ws) zero x lt = refl
winner_of-same (w ∷ ws) (suc i) x lt = winner_of-same ws i x (omega (arith, lt))

same_or_not : (k i : ℕ) → (k ≡ i) ⊎ (k ≢ i)
same_or_not k i = elim (cases_lt k i) [
  | inl less ↦ inr (λ e. omega (arith, less, e))
  | inr up ↦ elim (cases_lt i k) [
    | inl more ↦ inr (λ e. omega (arith, more, e))
    | inr down ↦ inl (omega (arith, up, down))
  ]
]

-- ---- the matches after a number

halved_half : (times number : ℕ) → halved (suc times) number ≡ halved times number / 2
halved_half zero number = refl
halved_half (suc times) number = halved_half times (number / 2)

halved_none : (times : ℕ) → halved times 0 ≡ 0
halved_none zero = refl
halved_none (suc times) = halved_none times

pub above_last : (number k : ℕ) → number ≤ 1 → 0 < k → IsAbove number k → ⊥
above_last number k le some h =
    let none : number / 2 ≡ 0 = omega (arith, le) in
    let own : k ≡ 0 = h.1 ∙ ap (halved h.0) none ∙ halved_none h.0 in
    omega (arith, own, some)

pub above_next : (number k : ℕ) → IsAbove number k → (k ≡ number / 2) ⊎ IsAbove (number / 2) k
above_next number k h = by_times h.0 h.1 where
  by_times : (times : ℕ) → k ≡ halved (suc times) number
      → (k ≡ number / 2) ⊎ IsAbove (number / 2) k
  by_times zero e = inl e
  by_times (suc times) e = inr (times, e)

pub above_after : (number k : ℕ) → (2 * k ≡ number) ⊎ (2 * k + 1 ≡ number) → IsAbove number k
above_after number k h = elim h [
  | inl e ↦ (zero, omega (arith, e))
  | inr e ↦ (zero, omega (arith, e))
]

-- ---- the matches before a number

pub fewer_to_play : (number k : ℕ) → 1 < number → k < number
    → (k ≡ number - 1) ⊎ (k < number - 1)
fewer_to_play number k more lt = elim (cases_lt k (number - 1)) [
  | inl less ↦ inr less
  | inr up ↦ inl (omega (arith, up, lt, more))
]

pub second_to_play : (number k : ℕ) → 0 < k → (2 * k ≡ number) ⊎ (2 * k + 1 ≡ number)
    → k < number
second_to_play number k some h = elim h [
  | inl e ↦ omega (arith, e, some)
  | inr e ↦ omega (arith, e, some)
]

pub some_of : (count : ℕ) → (count == 0) ≡ false → 0 < count
some_of zero e = absurd (let f : true ≡ false = e in cc)
some_of (suc count) e = omega arith

module _ {X : Type 0} (front : X → Option Row) (streams : List X) where
  not_after : (i j k l : ℕ) → i ≡ j → k ≡ l → NotAfter (front_at front streams i) (front_at front streams k)
      → NotAfter (front_at front streams j) (front_at front streams l)
  not_after i j k l e f h = subst (λ (n : ℕ). NotAfter (front_at front streams n) (front_at front streams l)) e
      (subst (λ (n : ℕ). NotAfter (front_at front streams i) (front_at front streams n)) f h)

  won_stays : (old new : List ℕ) (k : ℕ) → winner_of new k ≡ winner_of old k
      → winner_of new (2 * k) ≡ winner_of old (2 * k)
      → winner_of new (2 * k + 1) ≡ winner_of old (2 * k + 1)
      → IsWon front streams old k → IsWon front streams new k
  won_stays old new k own left right h = record {
    either = elim h.either [
      | inl e ↦ inl (own ∙ e ∙ sym left)
      | inr e ↦ inr (own ∙ e ∙ sym right)
    ];
    one = not_after (winner_of old k) (winner_of new k) (winner_of old (2 * k))
        (winner_of new (2 * k)) (sym own) (sym left) h.one;
    other = not_after (winner_of old k) (winner_of new k) (winner_of old (2 * k + 1))
        (winner_of new (2 * k + 1)) (sym own) (sym right) h.other;
  }

  -- the match that was played
  pub won_here : (old : List ℕ) (i x one other : ℕ) → 0 < i → i < length old
      → one ≡ winner_of old (2 * i) → other ≡ winner_of old (2 * i + 1)
      → (x ≡ one) ⊎ (x ≡ other) → NotAfter (front_at front streams x) (front_at front streams one)
      → NotAfter (front_at front streams x) (front_at front streams other)
      → IsWon front streams (set old i x) i
  won_here old i x one other some within left right either least more =
      let own = winner_of-same old i x within in
      let first : one ≡ winner_of (set old i x) (2 * i) =
      left ∙ sym (winner_of-other old i (2 * i) x (λ e. omega (arith, e, some))) in
      let second : other ≡ winner_of (set old i x) (2 * i + 1) =
      right ∙ sym (winner_of-other old i (2 * i + 1) x (λ e. omega (arith, e, some))) in
      record {
        either = elim either [
          | inl e ↦ inl (own ∙ e ∙ first)
          | inr e ↦ inr (own ∙ e ∙ second)
        ];
        one = not_after x (winner_of (set old i x) i) one (winner_of (set old i x) (2 * i))
            (sym own) first least;
        other = not_after x (winner_of (set old i x) i) other
            (winner_of (set old i x) (2 * i + 1)) (sym own) second more;
      }

  -- one match more was played, and those just after it are to be played
  pub played_one : (old new : List ℕ) (i : ℕ) (Open Next : ℕ → Type 0)
      → IsPlayedBut front streams old Open → 0 < i → i < length streams
      → length new ≡ length streams → IsWon front streams new i
      → ((k : ℕ) → k ≢ i → winner_of new k ≡ winner_of old k)
      → ((k : ℕ) → Open k → (k ≡ i) ⊎ Next k)
      → ((k : ℕ) → 0 < k → (2 * k ≡ i) ⊎ (2 * k + 1 ≡ i) → Next k)
      → IsPlayedBut front streams new Next
  played_one old new i Open Next h some lt each won others left after = record {
    each = each;
    within = λ k less. elim (same_or_not k i) [
      | inl e ↦ subst (λ (j : ℕ). winner_of new j < length streams) (sym e) within_here
      | inr unlike ↦ (let own = h.within k less in
          let same = others k unlike in omega (arith, own, same))
    ];
    won = λ k most less. elim (same_or_not k i) [
      | inl e ↦ inl (subst (λ (j : ℕ). IsWon front streams new j) (sym e) won)
      | inr unlike ↦ elim (same_or_not (2 * k) i) [
        | inl e ↦ inr (after k most (inl e))
        | inr before ↦ elim (same_or_not (2 * k + 1) i) [
          | inl e ↦ inr (after k most (inr e))
          | inr beside ↦ elim (h.won k most less) [
            | inl w ↦ inl (won_stays old new k (others k unlike) (others (2 * k) before)
                (others (2 * k + 1) beside) w)
            | inr to_play ↦ elim (left k to_play) [
              | inl e ↦ absurd (unlike e)
              | inr next ↦ inr next
            ]
          ]
        ]
      ]
    ];
  } where
    within_here : winner_of new i < length streams
    within_here = elim won.either [
      | inl e ↦ (let same = others (2 * i) (λ f. omega (arith, f, some)) in
          let own = h.within (2 * i) (omega (arith, lt)) in omega (arith, e, same, own))
      | inr e ↦ (let same = others (2 * i + 1) (λ f. omega (arith, f, some)) in
          let own = h.within (2 * i + 1) (omega (arith, lt)) in omega (arith, e, same, own))
    ]

  module _ (ws : List ℕ) (h : IsPlayed front streams ws) where
    is_won : (k : ℕ) → 0 < k → k < length streams → IsWon front streams ws k
    is_won k some lt = elim (h.won k some lt) [ inl w ↦ w | inr never ↦ absurd never ]

    -- a stream's matches come after it
    comes_after : (s left k : ℕ) → length streams + length streams ≤ k + left
        → winner_of ws k ≡ s → 0 < k → k < length streams + length streams
        → (times : ℕ) × (k ≡ halved times (length streams + s))
    comes_after s zero k le is some lt = absurd (omega (arith, le, lt))
    comes_after s (suc left) k le is some lt = elim (cases_lt k (length streams)) [
      | inl less ↦ elim (is_won k some less).either [
        | inl e ↦
            let rest = comes_after s left (2 * k) (omega (arith, le, some)) (sym e ∙ is)
            (omega (arith, some)) (omega (arith, less)) in
            let half = halved_half rest.0 (length streams + s) in
            let own = rest.1 in
            (suc rest.0, omega (arith, half, own))
        | inr e ↦
            let rest = comes_after s left (2 * k + 1) (omega (arith, le, some)) (sym e ∙ is)
            (omega (arith, some)) (omega (arith, less)) in
            let half = halved_half rest.0 (length streams + s) in
            let own = rest.1 in
            (suc rest.0, omega (arith, half, own))
      ]
      | inr past ↦
          let each = h.each in
          let own = winner_of-past ws k (omega (arith, past, each)) in
          (zero, omega (arith, own, is, past, each))
    ]

    after_next : (s k j : ℕ) → (j ≡ 2 * k) ⊎ (j ≡ 2 * k + 1) → winner_of ws j ≡ s → 0 < k
        → k < length streams → IsAbove (length streams + s) k
    after_next s k j of is some lt = elim of [
      | inl e ↦
          let at = comes_after s (length streams + length streams) j (omega arith) is
          (omega (arith, e, some)) (omega (arith, e, lt)) in
          let half = halved_half at.0 (length streams + s) in
          let own = at.1 in
          (at.0, omega (arith, half, own, e))
      | inr e ↦
          let at = comes_after s (length streams + length streams) j (omega arith) is
          (omega (arith, e, some)) (omega (arith, e, lt)) in
          let half = halved_half at.0 (length streams + s) in
          let own = at.1 in
          (at.0, omega (arith, half, own, e))
    ]

    after_own : (s k : ℕ) → winner_of ws k ≡ s → 0 < k → k < length streams
        → IsAbove (length streams + s) k
    after_own s k is some lt = elim (is_won k some lt).either [
      | inl e ↦ after_next s k (2 * k) (inl refl) (sym e ∙ is) some lt
      | inr e ↦ after_next s k (2 * k + 1) (inr refl) (sym e ∙ is) some lt
    ]

    -- one stream's row is another than before: its matches have to be played again
    pub opened_again : (others : List (X)) (s : ℕ)
        → length others ≡ length streams
        → ((k : ℕ) → k ≢ s → front_at front others k ≡ front_at front streams k)
        → IsPlayedBut front others ws (IsAbove (length others + s))
    opened_again others s len same =
        subst (λ (n : ℕ). (each : length ws ≡ n) → AreWithin ws n
        → ((k : ℕ) → 0 < k → k < n → IsWon front others ws k ⊎ IsAbove (n + s) k)
        → IsPlayedBut front others ws (IsAbove (length others + s))) len
        (λ each within won. record { each = each; within = within; won = won })
        h.each h.within
        (λ k some lt. elim (same_or_not (winner_of ws k) s) [
          | inl e ↦ inr (after_own s k e some lt)
          | inr own ↦ elim (same_or_not (winner_of ws (2 * k)) s) [
            | inl e ↦ inr (after_next s k (2 * k) (inl refl) e some lt)
            | inr one ↦ elim (same_or_not (winner_of ws (2 * k + 1)) s) [
              | inl e ↦ inr (after_next s k (2 * k + 1) (inr refl) e some lt)
              | inr other ↦ inl (won_on k (same (winner_of ws k) own)
                  (same (winner_of ws (2 * k)) one) (same (winner_of ws (2 * k + 1)) other)
                  (is_won k some lt))
            ]
          ]
        ]) where
          won_on : (k : ℕ) → front_at front others (winner_of ws k) ≡ front_at front streams (winner_of ws k)
              → front_at front others (winner_of ws (2 * k)) ≡ front_at front streams (winner_of ws (2 * k))
              → front_at front others (winner_of ws (2 * k + 1))
              ≡ front_at front streams (winner_of ws (2 * k + 1))
              → IsWon front streams ws k → IsWon front others ws k
          won_on k own left right w = record {
            either = w.either;
            one = subst (λ (o : Option Row). NotAfter o
                (front_at front others (winner_of ws (2 * k)))) (sym own)
                (subst (λ (o : Option Row). NotAfter (front_at front streams (winner_of ws k)) o)
                (sym left) w.one);
            other = subst (λ (o : Option Row). NotAfter o
                (front_at front others (winner_of ws (2 * k + 1)))) (sym own)
                (subst (λ (o : Option Row). NotAfter (front_at front streams (winner_of ws k)) o)
                (sym right) w.other);
          }

    -- the last match's winner comes after none
    last_least : (most k : ℕ) → k ≤ most → 0 < k → k < length streams + length streams
        → NotAfter (front_at front streams (winner_of ws 1)) (front_at front streams (winner_of ws k))
    last_least zero k le some lt = absurd (omega (arith, le, some))
    last_least (suc most) k le some lt = elim (cases_lt 1 k) [
      | inr one ↦ (let same : 1 ≡ k = omega (arith, one, some) in
          subst (λ (j : ℕ). NotAfter (front_at front streams (winner_of ws 1))
          (front_at front streams (winner_of ws j))) same
          (NotAfter-itself (front_at front streams (winner_of ws 1))))
      | inl more ↦
          let w = is_won (k / 2) (omega (arith, more)) (omega (arith, lt)) in
          let before = last_least most (k / 2) (omega (arith, le, more)) (omega (arith, more))
          (omega (arith, lt)) in
          elim (cases_lt (2 * (k / 2)) k) [
            | inl odd ↦ (let same : 2 * (k / 2) + 1 ≡ k = omega (arith, odd) in
                subst (λ (j : ℕ). NotAfter (front_at front streams (winner_of ws 1))
                (front_at front streams (winner_of ws j))) same
                (NotAfter-then (front_at front streams (winner_of ws 1))
                (front_at front streams (winner_of ws (k / 2)))
                (front_at front streams (winner_of ws (2 * (k / 2) + 1))) before w.other))
            | inr even ↦ (let same : 2 * (k / 2) ≡ k = omega (arith, even) in
                subst (λ (j : ℕ). NotAfter (front_at front streams (winner_of ws 1))
                (front_at front streams (winner_of ws j))) same
                (NotAfter-then (front_at front streams (winner_of ws 1))
                (front_at front streams (winner_of ws (k / 2)))
                (front_at front streams (winner_of ws (2 * (k / 2)))) before w.one))
          ]
    ]

    winner_least : (k : ℕ) → k < length streams
        → NotAfter (front_at front streams (winner_of ws 1)) (front_at front streams k)
    winner_least k lt =
        let each = h.each in
        let own = winner_of-past ws (length streams + k) (omega (arith, each)) in
        let same : winner_of ws (length streams + k) ≡ k = omega (arith, own, each) in
        subst (λ (j : ℕ). NotAfter (front_at front streams (winner_of ws 1)) (front_at front streams j)) same
        (last_least (length streams + k) (length streams + k) (omega arith) (omega (arith, lt))
        (omega (arith, lt)))

    -- so the winner is the first
    pub winner_first : (first : ℕ) → first ≡ winner_of ws 1 → 0 < length streams
        → (first < length streams)
        × ((k : ℕ) → k < length streams → NotAfter (front_at front streams first) (front_at front streams k))
    winner_first first is some =
        let own = h.within 1 (omega (arith, some)) in (
          omega (arith, is, own),
          λ k lt. subst (λ (j : ℕ). NotAfter (front_at front streams j) (front_at front streams k)) (sym is)
              (winner_least k lt),
        )

-- before the first match
pub none_played : {X : Type 0} (front : X → Option Row) (streams : List X) (ws : List ℕ)
    → length ws ≡ length streams → AreWithin ws (length streams)
    → IsPlayedBut front streams ws (λ k. k < length streams)
none_played front streams ws each within = record {
  each = each;
  within = within;
  won = λ k some lt. inr lt;
}

-- after the last one
pub all_played : {X : Type 0} (front : X → Option Row) (streams : List X) (ws : List ℕ) (Open : ℕ → Type 0)
    → IsPlayedBut front streams ws Open → ((k : ℕ) → 0 < k → Open k → ⊥) → IsPlayed front streams ws
all_played front streams ws Open h none = record {
  each = h.each;
  within = h.within;
  won = λ k some lt. elim (h.won k some lt) [
    | inl w ↦ inl w
    | inr to_play ↦ absurd (none k some to_play)
  ];
}

-- where no match was played, the first stream stands for each winner
pub zeros_within : (ws : List ℕ) (count : ℕ) → length ws ≡ count
    → ((k : ℕ) → k < count → get_or ws k 0 ≡ 0) → AreWithin ws count
zeros_within ws count each zeros k lt = elim (cases_lt k count) [
  | inl less ↦ (let own = winner_of-get ws k 0 (omega (arith, less, each)) in
      let none = zeros k less in omega (arith, own, none, less))
  | inr past ↦ (let own = winner_of-past ws k (omega (arith, past, each)) in
      omega (arith, own, past, each, lt))
]
