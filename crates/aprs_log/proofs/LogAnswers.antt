-- Lemmas on the answers of a log, of which only the first bytes may be known.
use Rattle.aprs_log.proofs.Common.{◌≡◌, ℕ, ◌+◌, ◌≤◌, ◌<◌, List, [], ◌∷◌, ◌++◌, Bool, true, false, length, get_or, None, Some, inl, inr, cond, refl, arith, sym, ap, ◌∙◌, append_assoc, IsTrue, slice_split, position_or_len, before_first, after_first, All, get_or-take, nat_tests, cases_lt, Cut, first_cut, has_byte, InputEnd}
use Rattle.aprs_io.specs.Cut.{cut_at}
use Rattle.std.proofs.Common.{append-nil, length-append, length-take}
use Rattle.std.proofs.lemmas.List.Splits.{slice_split_at, slice_split_none, length-slice_split}
use Rattle.std.proofs.lemmas.List.Sums.{fails_before_first, passes_at_first, split_at_first}
use Rattle.std.proofs.Math.ListN.{get_or-append}
use Rattle.aprs_log.specs.Line.{line_of}
use Rattle.aprs_log.proofs.Lines.{line_of-long}
use Rattle.aprs_log.specs.LogAnswers.{is_lf, tail_cause, fault_at, end_with, then_answers, answers_of, answers_from}
use Rattle.aprs_log.specs.declared.fault.LogCause.TheVariants as cause
use Rattle.aprs_log.specs.declared.line.TheConstants.{MAX_LINE}

answers_of-more : (n : ℕ) (l : List ℕ) (more : List (List ℕ)) (c : InputEnd) → 0 < length more
    → answers_of n (l ∷ more) c ≡ then_answers n (line_of l) (answers_of (n + 1) more c)
answers_of-more n l [] c h = absurd (omega (arith, h))
answers_of-more n l (x ∷ more) c h = refl

-- ---- a line that is whole

found : (b : Bool) (x y : Cut) → cond b (Some x) None ≡ Some y → (b ≡ true) × (x ≡ y)
found true x y e = (refl, cc)
found false x y e = absurd cc

missing : (b : Bool) (x : Cut) → cond b (Some x) None ≡ None → b ≡ false
missing true x e = absurd cc
missing false x e = refl

below : (text : List ℕ) → has_byte 10 text ≡ true → position_or_len is_lf text < length text
below text h = grind (arith, nat_tests)

above : (text : List ℕ) → has_byte 10 text ≡ false → length text ≤ position_or_len is_lf text
above text h = grind (arith, nat_tests)

-- the first line of what is held is answered, whatever comes after what is held
from_first : (n : ℕ) (held more : List ℕ) (c : InputEnd) → position_or_len is_lf held < length held
    → answers_from n (held ++ more) c
    ≡ then_answers n (line_of (before_first is_lf held))
    (answers_from (n + 1) (after_first is_lf held ++ more) c)
from_first n held more c h =
    let i = position_or_len is_lf held in
    let prefix = before_first is_lf held in
    let after = after_first is_lf held in
    let lf = get_or held i 0 in
    let none : All (λ x. is_lf x ≡ false) prefix = λ k d lt. let low : k < i
    = omega (arith, simp length-take at lt) in
    ap is_lf (get_or-take i held k d low) ∙ fails_before_first is_lf held k d low in
    let cut : held ++ more ≡ prefix ++ lf ∷ (after ++ more)
    = ap (λ l. l ++ more) (split_at_first is_lf held 0 h)
    ∙ append_assoc prefix (lf ∷ after) more in
    ap (λ l. answers_of n (slice_split is_lf l) c) cut
    ∙ ap (λ parts. answers_of n parts c)
    (slice_split_at is_lf prefix lf (after ++ more) none (passes_at_first is_lf held 0 h))
    ∙ answers_of-more n prefix (slice_split is_lf (after ++ more)) c
    (omega (arith, length-slice_split is_lf (after ++ more)))

pub answers_from-line : (n : ℕ) (held more : List ℕ) (c : InputEnd) (cut : Cut)
    → cut_at 10 held ≡ Some cut
    → answers_from n (held ++ more) c
    ≡ then_answers n (line_of cut.before) (answers_from (n + 1) (cut.after ++ more) c)
unfolding cut_at
answers_from-line n held more c cut e =
    let parts = found (has_byte 10 held)
    (record { before = before_first is_lf held; after = after_first is_lf held }) cut e in
    from_first n held more c (below held parts.0)
    ∙ ap (λ (x : Cut). then_answers n (line_of x.before)
    (answers_from (n + 1) (x.after ++ more) c)) parts.1

-- ---- what stands after the last LF

pub no_lf : (text : List ℕ) → cut_at 10 text ≡ None → length text ≤ position_or_len is_lf text
unfolding cut_at
no_lf text e = above text
    (missing (has_byte 10 text)
    (record { before = before_first is_lf text; after = after_first is_lf text }) e)

-- bytes that aren't cut at `stop` have none
pub uncut_lacks : (stop : ℕ) (text : List ℕ) → cut_at stop text ≡ None → IsTrue (has_byte stop text)
    → ⊥
unfolding cut_at
uncut_lacks stop text e h =
    let lacks : has_byte stop text ≡ false = missing (has_byte stop text) (first_cut stop text) e in
    let bad : true ≡ false = sym h ∙ lacks in cc

pub answers_from-tail : (n : ℕ) (t : List ℕ) (c : InputEnd) → length t ≤ position_or_len is_lf t
    → answers_from n t c ≡ end_with (fault_at n (tail_cause t c))
answers_from-tail n t c h =
    let all : All (λ x. is_lf x ≡ false) t
    = λ k d i. fails_before_first is_lf t k d (omega arith) in
    ap (λ parts. answers_of n parts c) (slice_split_none is_lf t all)

-- ---- more bytes than a line may have, and no LF: the line is too long, whatever comes

pub too_long_tail : (l : List ℕ) (c : InputEnd) → MAX_LINE < length l
    → tail_cause l c ≡ Some cause.LongLine
too_long_tail l c h = grind (arith, nat_tests)

not_below : (held more : List ℕ) → length held ≤ position_or_len is_lf held
    → position_or_len is_lf (held ++ more) < length held → ⊥
not_below held more h lt =
    let i = position_or_len is_lf (held ++ more) in
    let found = passes_at_first is_lf (held ++ more) 0 (simp length-append (omega arith)) in
    let same = get_or-append held more 0 i lt in
    let missed = fails_before_first is_lf held i 0 (omega arith) in
    let bad : true ≡ false = sym found ∙ ap is_lf same ∙ missed in cc

past : (held more : List ℕ) → length held ≤ position_or_len is_lf held
    → length held ≤ position_or_len is_lf (held ++ more)
past held more h = omega (arith, not_below held more h)

pub answers_from-long : (n : ℕ) (held more : List ℕ) (c : InputEnd)
    → length held ≤ position_or_len is_lf held → MAX_LINE < length held
    → answers_from n (held ++ more) c ≡ end_with (fault_at n (Some cause.LongLine))
answers_from-long n held more c none long =
    let all = held ++ more in
    let p = past held more none in
    elim (cases_lt (position_or_len is_lf all) (length all)) [
      | inl lt ↦ ap (λ l. answers_from n l c) (sym (append-nil all)) ∙ from_first n all [] c lt
          ∙ ap (λ r. then_answers n r (answers_from (n + 1) (after_first is_lf all ++ []) c))
          (sym (line_of-long (before_first is_lf all) (simp length-take (omega arith))))
      | inr ge ↦ answers_from-tail n all c ge
          ∙ ap (λ o. end_with (fault_at n o)) (too_long_tail all c (simp length-append (omega arith)))
    ]
