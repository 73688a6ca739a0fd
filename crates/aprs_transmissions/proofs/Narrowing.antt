-- Under a lesser gap the rows don't decide the book.
use Rattle.aprs_transmissions.proofs.Common.{◌≡◌, ℕ, ◌<◌, List, [], ◌∷◌, inl, inr, refl, ap, ◌∙◌, subst, arith, Received, heard_cmp}
use Rattle.aprs_transmissions.specs.Order.{IsUpTo}
use Rattle.aprs_transmissions.specs.Row.{Row, IsOf}
use Rattle.aprs_transmissions.specs.Book.{BookOf}
use Rattle.aprs_transmissions.specs.Sound.{IsSoundRow, Sound}
use Rattle.aprs_transmissions.specs.Witnesses.{witnesses}
use Rattle.aprs_transmissions.proofs.Orders.{up_to_itself, heard_total, up_to_moment}
use Rattle.aprs_transmissions.proofs.Rows.{Makes}
use Rattle.aprs_transmissions.proofs.Books.{book_of_keeps, one_book}
use Rattle.aprs_transmissions.proofs.Soundness.{witnessed}
use Rattle.aprs_transmissions.proofs.Pushes.{push_first}

module _ (narrow wide : ℕ) (pos : 0 < narrow) (less : narrow < wide)
    (narrowed : List Row → List Row)
    (gives : (S : List Received) (rows : List Row) → BookOf wide S rows
    → BookOf narrow S (narrowed rows)) where
  -- two receptions as far apart as the wide gap allows, and their row
  abbrev at : ℕ → Received
  at m = record { moment = m; receiver = []; frame = [] }

  abbrev pair : List Received
  pair = at 0 ∷ at wide ∷ []

  abbrev row : Row
  row = record { first = 0; receivers = [] ∷ []; greatest = at wide }

  own_row : IsSoundRow row
  own_row = record {
    in_order = omega arith;
    ascending = (λ y h. absurd h, tt);
    receiver = inl refl;
    single = λ e. absurd (omega (arith, e));
  }

  makes_pair : Makes wide pair row
  makes_pair = record {
    own = λ s h. elim h [
      | inl e ↦ subst (λ (t : Received). IsOf row t) e
          (record { key = refl; from = omega arith; to = omega arith })
      | inr k ↦ elim k [
        | inl e ↦ subst (λ (t : Received). IsOf row t) e
            (record { key = refl; from = omega arith; to = omega arith })
        | inr j ↦ absurd j
      ]
    ];
    at_first = (at 0, inl refl, refl);
    linked = λ m a b. (at wide, inr (inl refl), b, omega arith);
    ascending = (λ y h. absurd h, tt);
    receivers = λ r. (
      λ h. elim h [ inl e ↦ (at 0, inl refl, e) | inr k ↦ absurd k ],
      λ t. elim t.1 [
        | inl e ↦ inl (ap (λ (s : Received). s.receiver) e ∙ t.2)
        | inr k ↦ elim k [
          | inl e ↦ inl (ap (λ (s : Received). s.receiver) e ∙ t.2)
          | inr j ↦ absurd j
        ]
      ],
    );
    member = inr (inl refl);
    greatest = λ s h. elim h [
      | inl e ↦ subst (λ (t : Received). IsUpTo heard_cmp t (at wide)) e
          (up_to_moment (at 0) (at wide) (omega arith))
      | inr k ↦ elim k [
        | inl e ↦ subst (λ (t : Received). IsUpTo heard_cmp t (at wide)) e
            (up_to_itself heard_total (at wide))
        | inr j ↦ absurd j
      ]
    ];
  }

  book_of_pair : BookOf wide pair (row ∷ [])
  book_of_pair = book_of_keeps wide pair (row ∷ []) (record {
    made = (
      pair,
      [],
      λ s. (λ h. inl h, λ h. elim h [ inl k ↦ k | inr k ↦ absurd k ]),
      makes_pair,
      λ s h. h,
    );
    ordered = (λ y h. absurd h, tt);
  })

  sound_under : (gap : ℕ) → Sound gap (row ∷ [])
  sound_under gap = push_first gap row own_row

  -- the same rows are those of a set that is heard at each moment, and that set gives the answer
  answer : narrowed (row ∷ []) ≡ row ∷ []
  answer =
      one_book narrow (witnesses (row ∷ [])) (narrowed (row ∷ [])) (row ∷ [])
      (gives (witnesses (row ∷ [])) (row ∷ [])
      (witnessed wide (row ∷ []) (omega arith) (sound_under wide)))
      (witnessed narrow (row ∷ []) pos (sound_under narrow))

  -- but the pair is not linked under the narrow gap
  pub not_narrowed : ⊥
  not_narrowed =
      let b : BookOf narrow pair (row ∷ []) =
      subst (λ (p : List Row). BookOf narrow pair p) answer (gives pair (row ∷ []) book_of_pair) in
      let r = ((b.exactly row).0 (inl refl)).run in
      let t = r.linked 0 r.at_first (omega arith) (omega arith) in
      elim t.3.1 [
        | inl e ↦ let m : 0 ≡ t.3.0.moment = ap (λ (s : Received). s.moment) e in
            omega (arith, t.1, t.3.3, m)
        | inr k ↦ elim k [
          | inl e ↦ let m : wide ≡ t.3.0.moment = ap (λ (s : Received). s.moment) e in
              omega (arith, t.2, t.3.3, m)
          | inr j ↦ absurd j
        ]
      ]

pub narrows_not : (narrow wide : ℕ) (narrowed : List Row → List Row) → 0 < narrow → narrow < wide
    → ((S : List Received) (rows : List Row) → BookOf wide S rows → BookOf narrow S (narrowed rows))
    → ⊥
narrows_not narrow wide narrowed pos less gives = not_narrowed narrow wide pos less narrowed gives
