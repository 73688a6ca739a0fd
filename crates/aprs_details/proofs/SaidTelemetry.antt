-- Telemetry of a comment that is read is said so, and what is said so is read.
use Rattle.aprs_details.proofs.Common.{◌≡◌, ℕ, true, List, [], ◌∷◌, ◌++◌, length, Option, Some, None, refl, ap, subst, ◌∙◌, eqb-true, after_some, guarded_some, some_is, byte_found, chunk_found, chunk_takes, arith}
use Rattle.std.specs.Prelude.{◌==◌}
use Rattle.aprs_io.proofs.Cuts.{cut_at-parts, cut_at-append}
use Rattle.aprs_details.specs.declared.comment_telemetry.CommentTelemetry.{CommentTelemetry}
use Rattle.aprs_details.specs.CommentTelemetry.{digit_pair, next_number, numbers_in, is_bar, telemetry_at}
use Rattle.aprs_details.specs.SaidTelemetry.{StartsWithNumber, IsNextNumber, AreNumbers, BeginsWithTelemetry}
use Rattle.aprs_details.proofs.Lacking.{cut_at-before}
use Rattle.aprs_details.proofs.FirstReadings.{FindsWhatBegins}

-- ---- a number

pair_found : (text : List ℕ) (x : ℕ × List ℕ) → digit_pair text ≡ Some x → StartsWithNumber x.0 text x.1
unfolding digit_pair
pair_found text x e = after_some _ _ _ _ e (λ digits e1 r1. after_some _ _ _ _ r1 (λ n e2 r2.
    let f = chunk_found 2 text digits e1 in
    subst (λ (x : ℕ × List ℕ). StartsWithNumber x.0 text x.1) (some_is (n, digits.1) x r2)
    (record { digits = digits.0; two = f.len; number = e2; whole = f.parts })))

pair_takes : (n : ℕ) (left later : List ℕ) → StartsWithNumber n left later →
    digit_pair left ≡ Some (n, later)
unfolding digit_pair
pair_takes n left later h =
    ap digit_pair h.whole ∙ rw (chunk_takes 2 h.digits later h.two, h.number) refl

next_found : (text : List ℕ) (x : Option ℕ × List ℕ) → next_number text ≡ Some x →
    IsNextNumber x.0 text x.1
next_found [] x e =
    subst (λ (x : Option ℕ × List ℕ). IsNextNumber x.0 [] x.1) (some_is (None, []) x e) (refl, refl)
next_found (b ∷ bs) x e = after_some _ _ _ _ e (λ y e1 r1.
    subst (λ (x : Option ℕ × List ℕ). IsNextNumber x.0 (b ∷ bs) x.1) (some_is (Some y.0, y.1) x r1)
    (pair_found (b ∷ bs) y e1))

no_digits : (digits later : List ℕ) → length digits ≡ 2 → [] ≡ digits ++ later → ⊥
no_digits [] later two e = absurd cc
no_digits (d ∷ digits) later two e = absurd cc

next_takes : (o : Option ℕ) (left later : List ℕ) → IsNextNumber o left later →
    next_number left ≡ Some (o, later)
next_takes None left later h = rw (h.0, h.1) refl
next_takes (Some n) [] later h = absurd (no_digits h.digits later h.two h.whole)
next_takes (Some n) (b ∷ bs) later h = rw (pair_takes n (b ∷ bs) later h) refl

-- ---- the numbers

nothing_left : (rest : List ℕ) → (length rest == 0) ≡ true → rest ≡ []
nothing_left [] h = refl
nothing_left (b ∷ rest) h = absurd (omega (arith, eqb-true (length (b ∷ rest)) 0 h))

numbers_found : (text : List ℕ) (t : CommentTelemetry) → numbers_in text ≡ Some t → AreNumbers t text
unfolding numbers_in
numbers_found text t e = after_some _ _ _ _ e (λ s e0 r0. after_some _ _ _ _ r0 (λ a1 e1 r1.
    after_some _ _ _ _ r1 (λ a2 e2 r2. after_some _ _ _ _ r2 (λ a3 e3 r3.
    after_some _ _ _ _ r3 (λ a4 e4 r4. after_some _ _ _ _ r4 (λ a5 e5 r5.
    after_some _ _ _ _ r5 (λ last e6 r6.
    let g = guarded_some _ _ _ r6 in
    subst (λ (t : CommentTelemetry). AreNumbers t text) g.1 (record {
      after_sequence = s.1;
      after_a1 = a1.1;
      after_a2 = a2.1;
      after_a3 = a3.1;
      after_a4 = a4.1;
      after_a5 = a5.1;
      bits_number = last.0;
      sequence = pair_found text s e0;
      first = pair_found s.1 a1 e1;
      second = next_found a1.1 a2 e2;
      third = next_found a2.1 a3 e3;
      fourth = next_found a3.1 a4 e4;
      fifth = next_found a4.1 a5 e5;
      last = subst (λ (l : List ℕ). IsNextNumber last.0 a5.1 l) (nothing_left last.1 g.0)
          (next_found a5.1 last e6);
      bits = refl;
    }))))))))

numbers_take : (text : List ℕ) (t : CommentTelemetry) → AreNumbers t text → numbers_in text ≡ Some t
unfolding numbers_in
numbers_take text t h =
    rw (
      pair_takes t.sequence text h.after_sequence h.sequence,
      pair_takes t.a1 h.after_sequence h.after_a1 h.first,
      next_takes t.a2 h.after_a1 h.after_a2 h.second,
      next_takes t.a3 h.after_a2 h.after_a3 h.third,
      next_takes t.a4 h.after_a3 h.after_a4 h.fourth,
      next_takes t.a5 h.after_a4 h.after_a5 h.fifth,
      next_takes h.bits_number h.after_a5 [] h.last,
      ← h.bits,
    ) refl

-- ---- between bars

whole_is : (text rest numbers later : List ℕ) (b : ℕ) → text ≡ b ∷ rest → is_bar b ≡ true →
    rest ≡ numbers ++ 124 ∷ later → text ≡ 124 ∷ (numbers ++ 124 ∷ later)
whole_is text rest numbers later b e h r = rw (e, eqb-true b 124 h, r) refl

telemetry_found : (text : List ℕ) (t : CommentTelemetry) → telemetry_at text ≡ Some t →
    BeginsWithTelemetry t text
unfolding telemetry_at
telemetry_found text t e = after_some _ _ _ _ e (λ bar e1 r1. after_some _ _ _ _ r1 (λ parts e2 r2.
    let f = byte_found is_bar text bar e1 in
    record {
      numbers = parts.before;
      rest = parts.after;
      whole = whole_is text bar.1 parts.before parts.after bar.0 f.0 f.1 (cut_at-parts 124 bar.1 parts e2);
      alone = cut_at-before 124 bar.1 parts e2;
      are = numbers_found parts.before t r2;
    }))

telemetry_takes : (text : List ℕ) (t : CommentTelemetry) → BeginsWithTelemetry t text →
    telemetry_at text ≡ Some t
unfolding telemetry_at
telemetry_takes text t h =
    ap telemetry_at h.whole
    ∙ rw (cut_at-append 124 h.numbers h.rest h.alone, numbers_take h.numbers t h.are) refl

nothing : telemetry_at [] ≡ None
unfolding telemetry_at
nothing = refl

pub telemetry_is_what_begins : FindsWhatBegins BeginsWithTelemetry telemetry_at
telemetry_is_what_begins = record {
  found = λ text t e. telemetry_found text t e;
  takes = λ text t h. telemetry_takes text t h;
  nothing = nothing;
}
