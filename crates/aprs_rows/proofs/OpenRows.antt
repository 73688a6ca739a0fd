-- A row that later ones may still join.
use Rattle.aprs_rows.proofs.Common.{◌≡◌, ◌≤◌, ◌∙◌, ℕ, Bool, true, List, [], ◌∷◌, ◌++◌, Option, None, Some, length, arith, ap, inl, min, sym, refl, subst, last_or, is_eq, Ordering, Less, Equal, Greater, Row, IsSoundRow, combine, compare_near, greater, union, bytes_cmp, ◌∈◌, IsGap, millis_of, some_millis}
use Rattle.std.specs.Prelude.{IfSome}
use Rattle.aprs_transmissions.proofs.Together.{near_is_sound}
use Rattle.aprs_rows.specs.Merger.{IsByTest, with_names}
use Rattle.aprs_rows.specs.Names.{names_in}
use Rattle.aprs_rows.proofs.Unions.{united_alone, united_more}

-- the last of at most one row is that one
pub only_one : (rows : List Row) (x : Row) → length rows ≤ 1 → last_or None rows ≡ Some x
    → rows ≡ x ∷ []
only_one [] x few e = absurd (cc)
only_one (y ∷ []) x few e = let same : Some y ≡ Some x = e in ap (λ z. z ∷ []) (cc)
only_one (y ∷ z ∷ rows) x few e = absurd (omega (arith, few))

pub last_alone : (rows : List Row) (r : Option Row) → length rows ≤ 1
    → IfSome r (λ x. last_or None rows ≡ Some x) → IfSome r (λ x. rows ≡ x ∷ [])
last_alone rows None few h = tt
last_alone rows (Some x) few h = only_one rows x few h

pub alone_in : (rows : List Row) (x : Row) → rows ≡ x ∷ [] → x ∈ rows
alone_in rows x e = subst (λ (r : List Row). x ∈ r) (sym e) (inl refl)

near_of : (o : Ordering) → is_eq o ≡ true → o ≡ Equal
near_of Less e = absurd (cc)
near_of Equal e = refl
near_of Greater e = absurd (cc)

-- near rows as one are sound
pub near_sound : (gap : ℕ) (own next : Row) → IsGap gap → IsSoundRow own → IsSoundRow next
    → is_eq (compare_near (millis_of gap) own next) ≡ true → IsSoundRow (combine own next)
near_sound gap own next range s t near =
    near_is_sound (millis_of gap) (some_millis gap range) own next s t
    (near_of (compare_near (millis_of gap) own next) near)

-- the row of the names of both, the earlier first moment and the greater reception
pub joined_is : (own next copy greatest made : Row) (start first : ℕ)
    (none names both : List (List ℕ)) (ours theirs : List ℕ) (texts : List (List ℕ))
    → IsSoundRow own → IsSoundRow next → none ≡ [] → names ≡ none ++ names_in ours
    → both ≡ names ++ names_in theirs → names_in ours ≡ own.receivers
    → names_in theirs ≡ next.receivers → texts ≡ union bytes_cmp both [] → copy ≡ next
    → start ≡ own.first → first ≡ min start copy.first
    → greatest.greatest ≡ greater own.greatest copy.greatest
    → made ≡ record { first = first; receivers = texts; greatest = greatest.greatest }
    → made ≡ combine own next
joined_is own next copy greatest made start first none names both ours theirs texts s t e0 e1 e2 eo et eu ec es ef eg em =
    let all : both ≡ own.receivers ++ next.receivers =
    e2 ∙ ap (λ ns. ns ++ names_in theirs) (e1 ∙ ap (λ ns. ns ++ names_in ours) e0)
    ∙ (λ i. eo i ++ et i) in
    let united : texts ≡ union bytes_cmp own.receivers next.receivers =
    eu ∙ ap (λ ns. union bytes_cmp ns []) all
    ∙ united_more own.receivers next.receivers t.ascending
    ∙ ap (λ ns. union bytes_cmp ns next.receivers) (united_alone own.receivers s.ascending) in
    let begun : first ≡ min own.first next.first =
    ef ∙ ap (λ (x : Row). min start x.first) ec ∙ ap (λ n. min n next.first) es in
    let great : greatest.greatest ≡ greater own.greatest next.greatest =
    eg ∙ ap (λ (x : Row). greater own.greatest x.greatest) ec in
    em ∙ (λ i. record { first = begun i; receivers = united i; greatest = great i })

-- the test of nearness, at the row itself
pub tested : (near : Bool) (gap first : ℕ) (own next : Row) → IsByTest near gap first own next
    → first ≡ own.first → near ≡ is_eq (compare_near gap own next)
tested near gap first own next h e =
    h own.receivers
    ∙ ap (λ n. is_eq (compare_near gap (with_names n own own.receivers) next)) e
