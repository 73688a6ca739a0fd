-- Steps on sets and on their books.
use Rattle.aprs_transmissions.proofs.Common.{◌≡◌, ℕ, ◌==◌, ◌<◌, if◌then◌else◌, Bool, true, false, List, [], ◌∷◌, ◌++◌, refl, Received}
use Rattle.aprs_transmissions.specs.Lists.{SameMembers}
use Rattle.aprs_transmissions.specs.Row.{Row}
use Rattle.aprs_transmissions.specs.Book.{BookOf}
use Rattle.aprs_transmissions.specs.Sound.{IsSoundRow, Sound}
use Rattle.aprs_transmissions.specs.Joining.{Joined}
use Rattle.aprs_transmissions.specs.Taken.{Step, Take, Merge, after_step, after_steps, sets_after}
use Rattle.aprs_transmissions.specs.JoinRow.{single, join_row, merge, plain_book}
use Rattle.aprs_transmissions.specs.StepLaws.{rows_after_step, rows_after_steps}
use Rattle.aprs_transmissions.proofs.Made.{keeps_book}
use Rattle.aprs_transmissions.proofs.Books.{book_of_keeps, book_carries, unique}
use Rattle.aprs_transmissions.proofs.Unions.{around, merged}
use Rattle.aprs_transmissions.proofs.Views.{taken_first, joined_by_merge}
use Rattle.aprs_transmissions.proofs.Pushes.{push_first}
use Rattle.aprs_transmissions.proofs.RunRows.{book_of_nothing}

-- one more reception, at the end of the set's list
pub taken_last : (gap : ℕ) (S : List Received) (s : Received) (p : List Row) → BookOf gap S p
    → BookOf gap (S ++ s ∷ []) (join_row gap p (single s))
taken_last gap S s p b =
    book_carries gap (s ∷ S) (S ++ s ∷ []) (join_row gap p (single s)) (around (s ∷ []) S)
    (taken_first gap S s p b)

-- one more sound row
pub joined_row : (gap : ℕ) → 0 < gap → (p : List Row) (r : Row) → Sound gap p → IsSoundRow r
    → Joined gap p (r ∷ []) (join_row gap p r)
joined_row gap pos p r v w = joined_by_merge gap pos p (r ∷ []) v (push_first gap r w)

pub plain_is_book : (gap : ℕ) (S : List Received) → BookOf gap S (plain_book gap S)
plain_is_book gap S = book_of_keeps gap S (plain_book gap S) (keeps_book gap S)

-- of one place, by a test
by_test : (gap : ℕ) (S T : List Received) (p q : List Row) (b : Bool) → BookOf gap S p → BookOf gap T q
    → BookOf gap (if b then S else T) (if b then p else q)
by_test gap S T p q true f g = f
by_test gap S T p q false f g = g

-- one more step keeps a book of each set at its place
pub step_keeps : (gap : ℕ) (step : Step) (sets : ℕ → List Received) (rows : ℕ → List Row)
    → ((k : ℕ) → BookOf gap (sets k) (rows k)) → (k : ℕ)
    → BookOf gap (after_step step sets k) (rows_after_step gap step rows k)
step_keeps gap (Take i x) sets rows f k =
    by_test gap (sets k ++ x ∷ []) (sets k) (join_row gap (rows k) (single x)) (rows k) (k == i)
    (taken_last gap (sets k) x (rows k) (f k)) (f k)
step_keeps gap (Merge i j) sets rows f k =
    by_test gap (sets k ++ sets j) (sets k) (merge gap (rows k) (rows j)) (rows k) (k == i)
    (merged gap (sets k) (sets j) (rows k) (rows j) (f k) (f j)) (f k)

pub steps_keep : (gap : ℕ) (steps : List Step) (sets : ℕ → List Received) (rows : ℕ → List Row)
    → ((k : ℕ) → BookOf gap (sets k) (rows k)) → (k : ℕ)
    → BookOf gap (after_steps steps sets k) (rows_after_steps gap steps rows k)
steps_keep gap [] sets rows f = f
steps_keep gap (step ∷ steps) sets rows f =
    steps_keep gap steps (after_step step sets) (rows_after_step gap step rows)
    (step_keeps gap step sets rows f)

pub steps_give : (gap : ℕ) (steps : List Step) (i : ℕ)
    → BookOf gap (sets_after steps i) (rows_after_steps gap steps (λ k. []) i)
steps_give gap steps = steps_keep gap steps (λ k. []) (λ k. []) (λ k. book_of_nothing gap)

-- the steps so far, and one more
pub after_steps_last : (steps : List Step) (step : Step) (sets : ℕ → List Received)
    → after_steps (steps ++ step ∷ []) sets ≡ after_step step (after_steps steps sets)
after_steps_last [] step sets = refl
after_steps_last (s ∷ steps) step sets = after_steps_last steps step (after_step s sets)

pub same_taken : (gap : ℕ) (steps others : List Step) (i j : ℕ)
    → SameMembers (sets_after steps i) (sets_after others j)
    → rows_after_steps gap steps (λ k. []) i ≡ rows_after_steps gap others (λ k. []) j
same_taken gap steps others i j e =
    unique gap (sets_after steps i) (sets_after others j) (rows_after_steps gap steps (λ k. []) i)
    (rows_after_steps gap others (λ k. []) j) e (steps_give gap steps i) (steps_give gap others j)
