-- Rows are sound, or have one fault that isn't of memory.
use Rattle.aprs_book.proofs.Common.{◌≡◌, ◌≢◌, ◌∙◌, ℕ, zero, suc, ◌+◌, ◌<◌, ◌≤◌, ◌⊎◌, inl, inr, List, [], ◌∷◌, ◌++◌, Option, None, Some, Err, get_or, length, take, drop, take-take, take-append-drop, refl, sym, ap, subst, arith, slice_get, cases_lt, take_more, Row, Sound, sound_prefix, sound, book_of_nothing, RowCause, refusal, Answers, none_exactly, never_memory}
use Rattle.std.proofs.Common.{take_all}
use Rattle.std.proofs.lemmas.Option.{slice_get_cases, slice_get_read, slice_get_within, get_or_from_slice_get}
use Rattle.aprs_transmissions.specs.declared.row_cause.RowCause.TheVariants.{Memory}
use Rattle.aprs_book.specs.declared.from_parts.RowsFault.{RowsFault}
use Rattle.aprs_book.specs.RowsFault.{IsRowsFault, AreSoundOrFaulty, SoundRowsAreFaultless, HaveOneRowsFault}

-- ---- prefixes of rows

one_more : {X : Type 0} (xs : List X) (i : ℕ) (x : X) → slice_get xs i ≡ Some x
    → take (i + 1) xs ≡ take i xs ++ x ∷ []
one_more xs i x at =
    take_more xs i x (slice_get_within xs i x at)
    ∙ ap (λ y. take i xs ++ y ∷ []) (get_or_from_slice_get xs i x x at)

prefix_of_all : (gap : ℕ) (rows : List Row) (n : ℕ) → Sound gap rows → Sound gap (take n rows)
prefix_of_all gap rows n s =
    sound_prefix gap (take n rows) (drop n rows)
    (subst (Sound gap) (sym (take-append-drop n rows)) s)

prefix_of_prefix : (gap : ℕ) (rows : List Row) (m n : ℕ) → m ≤ n → Sound gap (take n rows)
    → Sound gap (take m rows)
prefix_of_prefix gap rows m n le s =
    subst (Sound gap) (take-take m n rows le) (prefix_of_all gap (take n rows) m s)

-- the rows up to one that nothing refuses are sound
sound_with : (gap : ℕ) (rows : List Row) (n : ℕ) (x : Row) → slice_get rows n ≡ Some x
    → Sound gap (take n rows) → refusal gap (take n rows) x ≡ None → Sound gap (take (n + 1) rows)
sound_with gap rows n x at s free =
    subst (Sound gap) (sym (one_more rows n x at)) ((none_exactly gap (take n rows) x s).0 free)

-- ---- faults of rows

-- no more rows are sound than those before one that a cause refuses
up_to_fault : (gap : ℕ) (rows : List Row) (f : RowsFault) (fault : IsRowsFault gap rows f)
    → refusal gap (take f.place rows) fault.row ≡ Some f.cause → (n : ℕ) → Sound gap (take n rows)
    → n ≤ f.place
up_to_fault gap rows f fault refused n s = elim (cases_lt f.place n) [
  | inl lt ↦
      let with = subst (Sound gap) (one_more rows f.place fault.row fault.at_place)
      (prefix_of_prefix gap rows (f.place + 1) n (omega arith) s) in
      let free = (none_exactly gap (take f.place rows) fault.row fault.sound).1 with in
      absurd (cc)
  | inr le ↦ le
]

pub faultless : (gap : ℕ) → SoundRowsAreFaultless gap
faultless gap rows f s fault = elim fault.refused [
  | inl e ↦
      let le = up_to_fault gap rows f fault e (f.place + 1)
      (prefix_of_all gap rows (f.place + 1) s) in
      absurd (omega arith)
  | inr m ↦ m.0
]

-- at one place there is one cause
one_cause : (gap : ℕ) (rows : List Row) (m n : ℕ) (x y : Row) (c d : RowCause) → m ≡ n
    → slice_get rows m ≡ Some x → slice_get rows n ≡ Some y
    → refusal gap (take m rows) x ≡ Some c → refusal gap (take n rows) y ≡ Some d → c ≡ d
one_cause gap rows m n x y c d e at_m at_n a b =
    let same : Some x ≡ Some y = sym at_m ∙ ap (slice_get rows) e ∙ at_n in
    let row : x ≡ y = cc in
    let causes : Some c ≡ Some d = sym a ∙ ap (λ k. refusal gap (take k rows) x) e
    ∙ ap (refusal gap (take n rows)) row ∙ b in
    cc

same_fault : (f g : RowsFault) → f.place ≡ g.place → f.cause ≡ g.cause → f ≡ g
same_fault f g place cause =
    let P : ℕ → RowCause → RowsFault = λ n k. record { place = n; cause = k } in
    ap (λ n. P n f.cause) place ∙ ap (P g.place) cause

pub one_fault : (gap : ℕ) → HaveOneRowsFault gap
one_fault gap rows f g a other b = elim a.refused [
  | inl e ↦ elim b.refused [
    | inl k ↦
        let g_first = up_to_fault gap rows f a e g.place b.sound in
        let f_first = up_to_fault gap rows g b k f.place a.sound in
        let place : g.place ≡ f.place = omega arith in
        inl (same_fault g f place
        (one_cause gap rows g.place f.place b.row a.row g.cause f.cause place
        b.at_place a.at_place k e))
    | inr m ↦
        let le = up_to_fault gap rows f a e (g.place + 1)
        (sound_with gap rows g.place b.row b.at_place b.sound m.1) in
        inr (m.0, omega arith)
  ]
  | inr m ↦ absurd (other m.0)
]

-- ---- rows one after another

abbrev Judged : ℕ → List Row → ℕ → Type 0
Judged gap rows n = Sound gap (take n rows)
    ⊎ ((f : RowsFault) × IsRowsFault gap rows f × (f.cause ≢ Memory))

judged_next : (gap : ℕ) (rows : List Row) (n : ℕ) (x : Row) → slice_get rows n ≡ Some x
    → Sound gap (take n rows) → (first : Option RowCause) → refusal gap (take n rows) x ≡ first
    → Judged gap rows (n + 1)
judged_next gap rows n x at s None e = inl (sound_with gap rows n x at s e)
judged_next gap rows n x at s (Some cause) e = inr (
  record { place = n; cause = cause },
  record { row = x; at_place = at; sound = s; refused = inl e },
  λ is. never_memory gap (take n rows) x (e ∙ ap Some is),
)

judged : (gap : ℕ) (rows : List Row) (n : ℕ) → n ≤ length rows → Judged gap rows n
judged gap rows zero h = inl (sound gap [] [] (book_of_nothing gap))
judged gap rows (suc n) h = elim (judged gap rows n (omega arith)) [
  | inl s ↦
      let P : ℕ → Type 0 = Judged gap rows in
      let on : n + 1 ≡ suc n = omega arith in
      subst P on (next s)
  | inr f ↦ inr f
] where
  next : Sound gap (take n rows) → Judged gap rows (n + 1)
  next s = elim (slice_get_cases rows n).1 [
    | inl t ↦ judged_next gap rows n t.0 t.2 s (refusal gap (take n rows) t.0) refl
    | inr past ↦ absurd (omega (arith, past.0))
  ]

pub sound_or_faulty : (gap : ℕ) → AreSoundOrFaulty gap
sound_or_faulty gap rows = elim (judged gap rows (length rows) (omega arith)) [
  | inl s ↦ inl (subst (Sound gap) (take_all (length rows) rows (omega arith)) s)
  | inr f ↦ inr f
]

-- ---- what `from_rows` answers

for_a_cause : (first : Option RowCause) (cause : RowCause)
    → Answers {U = Unit {0}} first (Err cause) → (first ≡ Some cause)
    ⊎ ((cause ≡ Memory) × (first ≡ None))
for_a_cause None cause h = inr (h, refl)
for_a_cause (Some other) cause h = inl (cc)

-- what wasn't pushed after the rows before it
pub fault_of_push : (gap : ℕ) (rows book : List Row) (n : ℕ) (x : Row) (cause : RowCause)
    → n < length rows → x ≡ get_or rows n x → book ≡ take n rows → Sound gap (take n rows)
    → Answers {U = Unit {0}} (refusal gap book x) (Err cause)
    → IsRowsFault gap rows (record { place = n; cause = cause })
fault_of_push gap rows book n x cause lt is prefix s answer = record {
  row = x;
  at_place = slice_get_read rows (length rows) n x refl lt is;
  sound = s;
  refused = for_a_cause (refusal gap (take n rows) x) cause
      (subst (λ (b : List Row). Answers {U = Unit {0}} (refusal gap b x) (Err cause)) prefix
      answer);
}
