-- Rows of one reception, and how many rows there are.
use Rattle.aprs_rows.proofs.Common.{◌≡◌, ◌↔◌, ◌==◌, Bool, true, ◌∙◌, ℕ, ◌<◌, List, [], ◌∷◌, length, Result, Ok, Err, OnOk, IfOk, refl, sym, ap, subst, arith, All, IsTrue, join_with_byte, nat_tests, All-nil, All-cons, IsName, Received, single, Row, IsSoundRow, single_is_sound}
use Rattle.aprs_rows.specs.Names.{names_in, row_of_text}
use Rattle.aprs_rows.proofs.NameTexts.{name_alone}

-- ---- a row of one reception

single_is : (m : ℕ) (r f : List ℕ) → IsName r
    → row_of_text m m r r f ≡ single (record { moment = m; receiver = r; frame = f })
single_is m r f h = ap (λ names. record {
  first = m;
  receivers = names;
  greatest = record { moment = m; receiver = r; frame = f };
}) (name_alone r h)

-- its names are one name
pub single_names : (r : List ℕ) → IsName r → All IsName (names_in r)
single_names r h =
    subst (All IsName) (sym (name_alone r h)) (All-cons IsName r [] h (All-nil IsName))

-- What is known of the row of one reception.
pub record IsSingle (x : Received) (row : Row) : Type 0 where
  pub is : row ≡ single x
  pub sound : IsSoundRow row
  pub short : length (join_with_byte 44 row.receivers) < 4294967296

pub single_row : (x g : Received) (row : Row) (m : ℕ) (r : List ℕ)
    → row ≡ (record { first = m; receivers = names_in r; greatest = g })
    → m ≡ g.moment → r ≡ g.receiver → g ≡ x → IsName g.receiver → IsSingle x row
single_row x g row m r e moment receiver heard name =
    let alone : row ≡ single g =
    e ∙ (λ t. record { first = moment t; receivers = names_in (receiver t); greatest = g })
    ∙ single_is g.moment g.receiver g.frame name in
    let is = alone ∙ ap single heard in
    record {
      is = is;
      sound = subst (λ (y : Row). IsSoundRow y) (sym is) (single_is_sound x);
      short = subst (λ (y : Row). length (join_with_byte 44 y.receivers) < 4294967296) (sym alone)
          (few g.receiver name);
    } where
      few : (r : List ℕ) → IsName r → length r < 4294967296
      few r n = grind (arith, nat_tests)

-- ---- how many rows there are

pub none_exactly : (rows : List Row) (n : ℕ) (b : Bool) → n ≡ length rows → b ≡ (n == 0)
    → IsTrue b ↔ (rows ≡ [])
none_exactly rows n b l h = (
  λ t. none rows (omega (arith, l, zero_is n (sym h ∙ t))),
  λ k. h ∙ ap (λ m. m == 0) (nothing k),
) where
  zero_is : (m : ℕ) → (m == 0) ≡ true → m ≡ 0
  zero_is m z = grind (arith, nat_tests)

  none : (xs : List Row) → length xs ≡ 0 → xs ≡ []
  none [] z = refl
  none (x ∷ xs) z = absurd (omega (arith, z))

  nothing : rows ≡ [] → n ≡ 0
  nothing k = let m = ap length k in omega (arith, l, m)

-- ---- what follows from an answer that is `Ok`

pub on_ok : {A E : Type 0} {P Q : Type 0} (r : Result A E) → (P → Q) → OnOk r P → OnOk r Q
on_ok (Ok a) f h = f h
on_ok (Err e) f h = h

pub if_ok : {A E : Type 0} {P Q : A → Type 0} (r : Result A E) → ((a : A) → P a → Q a) → IfOk r P
    → IfOk r Q
if_ok (Ok a) f h = f a h
if_ok (Err e) f h = h
