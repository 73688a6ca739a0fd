-- Places where lines begin, in a text of lines.
use Rattle.std.proofs.Common.{◌≡◌, ◌∙◌, ℕ, ◌+◌, ◌-◌, ◌≤◌, ◌⊎◌, false, true, eqb, List, [], ◌∷◌, ◌++◌, length, take, drop, inl, inr, refl, sym, ap, subst, append_assoc, append-nil, length-append, length-drop, arith}
use Rattle.std.proofs.lemmas.List.{drop-drop, take-append-drop, length-take-le}
use Rattle.std.specs.List.{AllByRecursion}
use Rattle.aprs_io.specs.Cut.{Lacks}
use Rattle.aprs_log.specs.LogText.{text_of_lines}
use Rattle.aprs_fold.specs.Lines.{IsLineAt, ReadsLine}
use Rattle.aprs_fold.proofs.Lines.{after_part}

byte_is : (c : ℕ) → eqb c c ≡ true
byte_is c = grind arith

-- no line has an LF
abbrev pub AllLack : List (List ℕ) → Type 0
AllLack = AllByRecursion (Lacks 10)

pub lack_right : (a b : List (List ℕ)) → AllLack (a ++ b) → AllLack b
lack_right [] b h = h
lack_right (l ∷ a) b h = lack_right a b h.1

pub line_first : (line : List ℕ) (lines : List (List ℕ))
    → text_of_lines (line ∷ lines) ≡ line ++ 10 ∷ text_of_lines lines
line_first line lines = append_assoc line (10 ∷ []) (text_of_lines lines)

-- ---- the first line

pub same_line : (a b x y : List ℕ) → Lacks 10 a → Lacks 10 x → a ++ 10 ∷ b ≡ x ++ 10 ∷ y
    → (a ≡ x) × (b ≡ y)
same_line [] b [] y h k e = (refl, cc)
same_line [] b (z ∷ x) y h k e =
    let is : 10 ≡ z = cc in
    let f : false ≡ true = sym k.0 ∙ ap (λ n. eqb n 10) (sym is) ∙ byte_is 10 in
    absurd cc
same_line (z ∷ a) b [] y h k e =
    let is : z ≡ 10 = cc in
    let f : false ≡ true = sym h.0 ∙ ap (λ n. eqb n 10) is ∙ byte_is 10 in
    absurd cc
same_line (z ∷ a) b (w ∷ x) y h k e =
    let head : z ≡ w = cc in
    let tail : a ++ 10 ∷ b ≡ x ++ 10 ∷ y = cc in
    let t = same_line a b x y h.1 k.1 tail in
    (ap (λ n. n ∷ a) head ∙ ap (λ l. w ∷ l) t.0, t.1)

no_text : (q after : List ℕ) → [] ≡ q ++ 10 ∷ after → ⊥
no_text [] after e = cc
no_text (x ∷ q) after e = cc

pub record BeginsWith (lines : List (List ℕ)) (line after : List ℕ) : Type 0 where
  pub more : List (List ℕ)
  pub is : lines ≡ line ∷ more
  pub text : text_of_lines more ≡ after

pub first_of : (lines : List (List ℕ)) (line after : List ℕ) → AllLack lines → Lacks 10 line
    → text_of_lines lines ≡ line ++ 10 ∷ after → BeginsWith lines line after
first_of [] line after h k e = absurd (no_text line after e)
first_of (l ∷ lines) line after h k e =
    let s = same_line l (text_of_lines lines) line after h.0 k (sym (line_first l lines) ∙ e) in
    record { more = lines; is = ap (λ x. x ∷ lines) s.0; text = s.1 }

-- ---- any LF ends a line

-- the line is all that stands before the LF, or the LF is after it
pub record IsPast (line text q after : List ℕ) : Type 0 where
  pub more : List ℕ
  pub is : q ≡ line ++ 10 ∷ more
  pub text_is : text ≡ more ++ 10 ∷ after

lf_of : (line text q after : List ℕ) → Lacks 10 line → line ++ 10 ∷ text ≡ q ++ 10 ∷ after
    → ((q ≡ line) × (text ≡ after)) ⊎ IsPast line text q after
lf_of [] text [] after h e = inl (refl, cc)
lf_of [] text (z ∷ q) after h e =
    let is : z ≡ 10 = cc in
    let t : text ≡ q ++ 10 ∷ after = cc in
    inr (record { more = q; is = ap (λ x. x ∷ q) is; text_is = t })
lf_of (z ∷ line) text [] after h e =
    let is : z ≡ 10 = cc in
    let f : false ≡ true = sym h.0 ∙ ap (λ n. eqb n 10) is ∙ byte_is 10 in
    absurd cc
lf_of (z ∷ line) text (w ∷ q) after h e =
    let head : z ≡ w = cc in
    let tail : line ++ 10 ∷ text ≡ q ++ 10 ∷ after = cc in
    elim (lf_of line text q after h.1 tail) [
      | inl s ↦ inl (ap (λ l. w ∷ l) s.0 ∙ ap (λ n. n ∷ line) (sym head), s.1)
      | inr p ↦ inr (record {
        more = p.more;
        is = ap (λ l. w ∷ l) p.is ∙ ap (λ n. n ∷ (line ++ 10 ∷ p.more)) (sym head);
        text_is = p.text_is;
      })
    ]

-- the lines are cut where these texts meet
pub record IsCut (lines : List (List ℕ)) (before after : List ℕ) : Type 0 where
  pub first : List (List ℕ)
  pub rest : List (List ℕ)
  pub is : lines ≡ first ++ rest
  pub before_is : text_of_lines first ≡ before
  pub after_is : text_of_lines rest ≡ after

pub cut_of : (lines : List (List ℕ)) (q after : List ℕ) → AllLack lines
    → text_of_lines lines ≡ q ++ 10 ∷ after → IsCut lines (q ++ 10 ∷ []) after
cut_of [] q after h e = absurd (no_text q after e)
cut_of (l ∷ lines) q after h e =
    elim (lf_of l (text_of_lines lines) q after h.0 (sym (line_first l lines) ∙ e)) [
      | inl s ↦ record {
        first = l ∷ [];
        rest = lines;
        is = refl;
        before_is = append-nil (l ++ 10 ∷ []) ∙ ap (λ x. x ++ 10 ∷ []) (sym s.0);
        after_is = s.1;
      }
      | inr p ↦ more p (cut_of lines p.more after h.1 p.text_is)
    ] where
      more : (p : IsPast l (text_of_lines lines) q after) → IsCut lines (p.more ++ 10 ∷ []) after
          → IsCut (l ∷ lines) (q ++ 10 ∷ []) after
      more p c = record {
        first = l ∷ c.first;
        rest = c.rest;
        is = ap (λ x. l ∷ x) c.is;
        before_is = line_first l c.first ∙ ap (λ x. l ++ 10 ∷ x) c.before_is
            ∙ sym (append_assoc l (10 ∷ p.more) (10 ∷ []))
            ∙ ap (λ x. x ++ 10 ∷ []) (sym p.is);
        after_is = c.after_is;
      }

-- ---- places

-- the lines stand at `start`, and a line or the end of them at `at`
pub record IsPlace (lines : List (List ℕ)) (bytes : List ℕ) (start at : ℕ) : Type 0 where
  pub first : List (List ℕ)
  pub rest : List (List ℕ)
  pub is : lines ≡ first ++ rest
  pub place : at ≡ start + length (text_of_lines first)
  pub stand : drop at bytes ≡ text_of_lines rest

module _ (lines : List (List ℕ)) (bytes : List ℕ) (start : ℕ)
    (stand : drop start bytes ≡ text_of_lines lines) (lack : AllLack lines) where
  unfoldable pub place_start : IsPlace lines bytes start start
  place_start = record {
    first = [];
    rest = lines;
    is = refl;
    place = omega arith;
    stand = stand;
  }

  -- after an LF a line begins
  pub place_after : (from : ℕ) (part : List ℕ) (at : ℕ) → start ≤ from
      → ReadsLine bytes from part at → IsPlace lines bytes start at
  place_after from part at le r = record {
    first = c.first;
    rest = c.rest;
    is = c.is;
    place = r.1 ∙ place_is;
    stand = ap (λ n. drop n bytes) (r.1 ∙ far) ∙ after_lf ∙ sym c.after_is;
  } where
    skipped : List ℕ
    skipped = take (from - start) (text_of_lines lines)

    left : drop (from - start) (text_of_lines lines) ≡ part ++ 10 ∷ r.0.after
    left = ap (drop (from - start)) (sym stand) ∙ drop-drop (from - start) start bytes
        ∙ ap (λ n. drop n bytes) (omega arith) ∙ r.0.is

    whole : text_of_lines lines ≡ (skipped ++ part) ++ 10 ∷ r.0.after
    whole = sym (take-append-drop (from - start) (text_of_lines lines))
        ∙ ap (λ l. skipped ++ l) left ∙ sym (append_assoc skipped part (10 ∷ r.0.after))

    c : IsCut lines ((skipped ++ part) ++ 10 ∷ []) r.0.after
    c = cut_of lines (skipped ++ part) r.0.after lack whole

    sizes : length (drop (from - start) (text_of_lines lines))
        ≡ length part + (length r.0.after + 1)
    sizes = ap length left ∙ length-append part (10 ∷ r.0.after) ∙ omega arith

    skipped_len : length skipped ≡ from - start
    skipped_len = length-take-le (from - start) (text_of_lines lines)
        (omega (arith, sizes, length-drop (from - start) (text_of_lines lines)))

    first_len : length (text_of_lines c.first) ≡ (from - start) + length part + 1
    first_len = ap length c.before_is ∙ length-append (skipped ++ part) (10 ∷ [])
        ∙ ap (λ n. n + 1) (length-append skipped part ∙ ap (λ n. n + length part) skipped_len)

    place_is : from + length part + 1 ≡ start + length (text_of_lines c.first)
    place_is = omega (arith, first_len)

    far : from + length part + 1 ≡ from + length (part ++ 10 ∷ [])
    far = omega (arith, length-append part (10 ∷ []))

    after_lf : drop (from + length (part ++ 10 ∷ [])) bytes ≡ r.0.after
    after_lf = after_part bytes from (part ++ 10 ∷ []) r.0.after
        (r.0.is ∙ sym (append_assoc part (10 ∷ []) r.0.after))

-- the line at a place is the first of those that stand there
pub line_there : (lines : List (List ℕ)) (bytes : List ℕ) (start at : ℕ) (line : List ℕ)
    (p : IsPlace lines bytes start at) → AllLack lines → (l : IsLineAt bytes at line)
    → BeginsWith p.rest line l.after
line_there lines bytes start at line p lack l = first_of p.rest line l.after
    (lack_right p.first p.rest (subst AllLack p.is lack)) l.lacks (sym p.stand ∙ l.is)
