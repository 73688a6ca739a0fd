-- The rows of several books are folded one after another.
use Rattle.aprs_transmissions.proofs.Common.{◌≡◌, ◌∙◌, Bool, true, false, ℕ, ◌<◌, List, [], ◌∷◌, ◌++◌, inl, inr, refl, sym, subst, upto}
use Rattle.std.proofs.Common.{append-nil}
use Rattle.aprs_transmissions.specs.Lists.{SameMembers}
use Rattle.aprs_transmissions.specs.Order.{IsUpTo}
use Rattle.aprs_transmissions.specs.Row.{Row, row_cmp}
use Rattle.aprs_transmissions.specs.Sound.{IsSoundRow, AreSoundRows}
use Rattle.aprs_transmissions.specs.JoinRow.{combine}
use Rattle.aprs_transmissions.proofs.Books.{row_total}
use Rattle.aprs_transmissions.proofs.Lists.{in_either, in_left, in_right}
use Rattle.aprs_transmissions.proofs.Places.{ordered_append}
use Rattle.aprs_transmissions.proofs.Together.{order_is_free}
use Rattle.aprs_fold.specs.Folded.{IsFolded}
use Rattle.aprs_fold.specs.Folding.{Begins, BeginsBook, EndsAsBook, TakesNext, TakesOn, rows_put}
use Rattle.aprs_fold.proofs.Folding.{far_closes, first_is_last, folded_is_book, near_joins, written_stays}

pub begins : (gap : ℕ) → Begins gap
begins gap front = record {
  taken = [];
  members = λ x. (λ h. h, λ h. h);
  ordered = tt;
  each = λ x h. absurd h;
  ahead = λ x h y k. absurd h;
  folded = (refl, refl);
}

-- without a last row none was taken
none_taken : (gap : ℕ) (taken written last : List Row) → IsFolded gap taken written last
    → last ≡ [] → (taken ≡ []) × (written ≡ [])
none_taken gap [] written last h e = (refl, h.0)
none_taken gap (l ∷ xs) written last h e = absurd (let f = sym h.1 ∙ e in cc)

first_taken : (gap : ℕ) (taken written : List Row) (x : Row) → (taken ≡ []) × (written ≡ [])
    → IsFolded gap (taken ++ x ∷ []) (written ++ []) (x ∷ [])
first_taken gap taken written x none =
    subst (λ (t : List Row). IsFolded gap (t ++ x ∷ []) (written ++ []) (x ∷ [])) (sym none.0)
    (subst (λ (w : List Row). IsFolded gap (x ∷ []) (w ++ []) (x ∷ [])) (sym none.1)
    (first_is_last gap x))

folds_next : (gap : ℕ) (taken written last : List Row) (x : Row) (wrote : Bool) (new : List Row)
    → IsFolded gap taken written last → TakesNext wrote gap last x new
    → IsFolded gap (taken ++ x ∷ []) (written ++ rows_put wrote last) new
folds_next gap taken written last x true new h (own, e, far, n) =
    subst (λ (w : List Row). IsFolded gap (taken ++ x ∷ []) (written ++ last) w) (sym n)
    (subst (λ (w : List Row). IsFolded gap (taken ++ x ∷ []) (written ++ w) (x ∷ [])) (sym e)
    (far_closes gap taken written own x
    (subst (λ (w : List Row). IsFolded gap taken written w) e h) far))
folds_next gap taken written last x false new h (inl (own, e, near, n)) =
    subst (λ (w : List Row). IsFolded gap (taken ++ x ∷ []) (written ++ []) w) (sym n)
    (subst (λ (w : List Row). IsFolded gap (taken ++ x ∷ []) w (combine own x ∷ []))
    (sym (append-nil written))
    (near_joins gap taken written own x
    (subst (λ (w : List Row). IsFolded gap taken written w) e h) near))
folds_next gap taken written last x false new h (inr (e, n)) =
    subst (λ (w : List Row). IsFolded gap (taken ++ x ∷ []) (written ++ []) w) (sym n)
    (first_taken gap taken written x (none_taken gap taken written last h e))

pub takes_on : (gap : ℕ) → TakesOn gap
takes_on gap read front written last x wrote all ahead new s front_has own members least next =
    record {
      taken = s.taken ++ x ∷ [];
      members = λ z. (
        λ h. elim ((members z).0 h) [
          | inl e ↦ in_right z s.taken (x ∷ []) (inl e)
          | inr k ↦ in_left z s.taken (x ∷ []) ((s.members z).0 k)
        ],
        λ h. elim (in_either z s.taken (x ∷ []) h) [
          | inl k ↦ (members z).1 (inr ((s.members z).1 k))
          | inr k ↦ elim k [ inl e ↦ (members z).1 (inl e) | inr n ↦ absurd n ]
        ],
      );
      ordered = ordered_append (IsUpTo row_cmp) s.taken (x ∷ []) s.ordered (λ y h. absurd h, tt)
          (λ y z h k. elim k [
            | inl e ↦ subst (λ (r : Row). IsUpTo row_cmp y r) e (s.ahead y h x front_has)
            | inr n ↦ absurd n
          ]);
      each = λ z h. elim (in_either z s.taken (x ∷ []) h) [
        | inl k ↦ s.each z k
        | inr k ↦ elim k [
          | inl e ↦ subst (λ (r : Row). IsSoundRow r) e own
          | inr n ↦ absurd n
        ]
      ];
      ahead = λ y h z k. elim (in_either y s.taken (x ∷ []) h) [
        | inl j ↦ upto row_total y x z (s.ahead y j x front_has) (least z k)
        | inr j ↦ elim j [
          | inl e ↦ subst (λ (r : Row). IsUpTo row_cmp r z) e (least z k)
          | inr n ↦ absurd n
        ]
      ];
      folded = folds_next gap s.taken written last x wrote new s.folded next;
    }

same_back : (xs ys : List Row) → SameMembers xs ys → SameMembers ys xs
same_back xs ys e z = ((e z).1, (e z).0)

same_more : (xs ys more : List Row) → SameMembers xs ys → SameMembers (xs ++ more) (ys ++ more)
same_more xs ys more e z = (
  λ h. elim (in_either z xs more h) [
    | inl k ↦ in_left z ys more ((e z).0 k)
    | inr k ↦ in_right z ys more k
  ],
  λ h. elim (in_either z ys more h) [
    | inl k ↦ in_left z xs more ((e z).1 k)
    | inr k ↦ in_right z xs more k
  ],
)

pub ends_as_book : (gap : ℕ) → 0 < gap → EndsAsBook gap
ends_as_book gap pos read front written last s =
    folded_is_book gap pos s.taken written last s.ordered s.each s.folded
    ∙ order_is_free gap pos s.taken read s.each (same_back read s.taken s.members)

pub begins_book : (gap : ℕ) → 0 < gap → BeginsBook gap
begins_book gap pos read front written last more s ordered each after =
    let sound : AreSoundRows (s.taken ++ more) = λ z h. elim (in_either z s.taken more h) [
      | inl k ↦ s.each z k
      | inr k ↦ each z k
    ] in
    let stays = written_stays gap pos s.taken written last more
    (ordered_append (IsUpTo row_cmp) s.taken more s.ordered ordered
    (λ x y h k. let a = after y k in upto row_total x a.0 y (s.ahead x h a.0 a.1) a.2)) sound
    s.folded in (
      stays.0,
      order_is_free gap pos (read ++ more) (s.taken ++ more)
          (λ z h. sound z ((same_more read s.taken more s.members z).0 h))
          (same_more read s.taken more s.members)
          ∙ stays.1,
    )
