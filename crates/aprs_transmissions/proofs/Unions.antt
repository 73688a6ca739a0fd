-- The book of two sets; two sets with one book add alike; joining books.
use Rattle.aprs_transmissions.proofs.Common.{◌≡◌, ℕ, ◌<◌, List, ◌++◌, ◌↔◌, inl, inr, sym, subst, Received}
use Rattle.aprs_transmissions.specs.Lists.{◌∈◌}
use Rattle.aprs_transmissions.specs.Row.{Row}
use Rattle.aprs_transmissions.specs.Book.{BookOf}
use Rattle.aprs_transmissions.specs.Sound.{Sound}
use Rattle.aprs_transmissions.specs.Witnesses.{witnesses}
use Rattle.aprs_transmissions.specs.Joining.{Joined}
use Rattle.aprs_transmissions.specs.JoinRow.{merge}
use Rattle.aprs_transmissions.proofs.Lists.{in_left, in_right, in_either}
use Rattle.aprs_transmissions.proofs.Made.{appended, keeps_merge}
use Rattle.aprs_transmissions.proofs.Soundness.{witnessed, sound, exists}
use Rattle.aprs_transmissions.proofs.Books.{book_of_keeps, book_carries, one_book, unique, keeps_of_book}

-- the book of S and the book of T merge to that of both
pub merged : (gap : ℕ) (S T : List Received) (p q : List Row) → BookOf gap S p → BookOf gap T q
    → BookOf gap (S ++ T) (merge gap p q)
merged gap S T p q b c =
    book_of_keeps gap (S ++ T) (merge gap p q)
    (keeps_merge gap (S ++ T) S T p q (appended S T) (keeps_of_book gap S p b)
    (keeps_of_book gap T q c).made)

pub congruence : (gap : ℕ) (S T U : List Received) (x p : List Row) → BookOf gap S x → BookOf gap T x
    → BookOf gap (S ++ U) p → BookOf gap (T ++ U) p
congruence gap S T U x p b c d =
    let u = exists gap U in
    subst (λ (q : List Row). BookOf gap (T ++ U) q)
    (one_book gap (S ++ U) (merge gap x u.0) p (merged gap S U x u.0 b u.1) d)
    (merged gap T U x u.0 c u.1)

pub around : (S T : List Received) (s : Received) → (s ∈ (S ++ T)) ↔ (s ∈ (T ++ S))
around S T s = (
  λ h. elim (in_either s S T h) [ inl k ↦ in_right s T S k | inr k ↦ in_left s T S k ],
  λ h. elim
      (in_either s T S h) [ inl k ↦ in_right s S T k | inr k ↦ in_left s S T k ],
)

pub commutative : (gap : ℕ) (a b c : List Row) → Joined gap a b c → Joined gap b a c
commutative gap a b c j =
    book_carries gap (witnesses a ++ witnesses b) (witnesses b ++ witnesses a) c
    (around (witnesses a) (witnesses b)) j

pub twice : (gap : ℕ) (a : List Row) → 0 < gap → Sound gap a → Joined gap a a a
twice gap a pos w =
    book_carries gap (witnesses a) (witnesses a ++ witnesses a) a
    (λ s. (
      in_left s (witnesses a) (witnesses a),
      λ h. elim
          (in_either s (witnesses a) (witnesses a) h) [ inl k ↦ k | inr k ↦ k ],
    )) (witnessed gap a pos w)

pub idempotent : (gap : ℕ) (a x : List Row) → 0 < gap → Sound gap a → (Joined gap a a x ↔ (x ≡ a))
idempotent gap a x pos w = (
  λ j. one_book gap (witnesses a ++ witnesses a) x a j (twice gap a pos w),
  λ e. subst (λ (y : List Row). Joined gap a a y) (sym e) (twice gap a pos w),
)

pub associative : (gap : ℕ) (a b c x y p q : List Row) → 0 < gap → Joined gap a b x
    → Joined gap x c p → Joined gap b c y → Joined gap a y q → p ≡ q
associative gap a b c x y p q pos abx xcp bcy ayq =
    let A = witnesses a in let B = witnesses b in let C = witnesses c in
    let f : BookOf gap ((A ++ B) ++ C) p =
    congruence gap (witnesses x) (A ++ B) C x p
    (witnessed gap x pos (sound gap (A ++ B) x abx)) abx xcp in
    let g : BookOf gap ((B ++ C) ++ A) q =
    congruence gap (witnesses y) (B ++ C) A y q (witnessed gap y pos (sound gap (B ++ C) y bcy)) bcy
    (commutative gap a y q ayq) in
    unique gap ((A ++ B) ++ C) ((B ++ C) ++ A) p q (λ s. cycle A B C s) f g where
      cycle : (A B C : List Received) (s : Received) → (s ∈ ((A ++ B) ++ C)) ↔ (s ∈ ((B ++ C) ++ A))
      cycle A B C s = (
        λ h. elim (in_either s (A ++ B) C h) [
          | inl k ↦ elim
              (in_either s A B k) [
                | inl j ↦ in_right s (B ++ C) A j
                | inr j ↦ in_left s (B ++ C) A
                    (in_left s B C j)
              ]
          | inr k ↦ in_left s (B ++ C) A (in_right s B C k)
        ],
        λ h. elim (in_either s (B ++ C) A h) [
          | inl k ↦ elim
              (in_either s B C k) [
                | inl j ↦ in_left s (A ++ B) C
                    (in_right s A B j)
                | inr j ↦ in_right s (A ++ B) C j
              ]
          | inr k ↦ in_left s (A ++ B) C (in_left s A B k)
        ],
      )
