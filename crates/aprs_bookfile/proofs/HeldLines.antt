-- What is held of a line is judged as the whole line is.
use Rattle.aprs_bookfile.proofs.Common.{◌≡◌, ℕ, zero, suc, ◌+◌, ◌-◌, ◌^◌, ◌<◌, ◌≤◌, Bool, true, false, List, [], ◌∷◌, ◌++◌, length, take, drop, Option, None, Some, Result, Ok, Err, inl, inr, refl, sym, ap, ◌∙◌, subst, append_assoc, append-nil, length-append, arith, and_parts, nat_tests, cases_lt, length-decimal-le, take-append-add, MomentForm, millis_of, Row}
use Rattle.std.specs.Prelude.{nat_le, ◌&&◌}
use Rattle.std.proofs.lemmas.List.{length-drop, length-take-le, take_all, take-append-drop, take-append-le}
use Rattle.aprs_bookfile.specs.HeldLine.{held_anyway, is_hopeless, is_wrong_place, Decides, IsHeldOf, IsLean, Passes}
use Rattle.aprs_bookfile.specs.Reader.{is_first, JudgesHeader, JudgesLine, JudgesRowLine}
use Rattle.aprs_bookfile.specs.RowPlace.{place_in}
use Rattle.aprs_bookfile.specs.RowReader.{JudgesKept}
use Rattle.aprs_bookfile.specs.Text.{end_line}
use Rattle.aprs_bookfile.specs.TextFault.{is_end, IsWrong}
use Rattle.aprs_bookfile.specs.Version.{form_of, gap_of, header_of, IsVersion}
use Rattle.aprs_bookfile.specs.declared.fault.BookCause.{BookCause}
use Rattle.aprs_bookfile.specs.declared.fault.BookCause.TheVariants as cause
use Rattle.aprs_bookfile.specs.declared.row_place.Place.{Place}
use Rattle.aprs_bookfile.specs.declared.row_reader.Keeping.{Keeping}
use Rattle.aprs_bookfile.specs.declared.stage.Stage.{Stage}
use Rattle.aprs_bookfile.specs.declared.stage.Stage.TheVariants.{Header, Rows, Done}
use Rattle.aprs_bookfile.specs.declared.version.Version.{Version}
use Rattle.aprs_bookfile.specs.declared.version.Version.TheVariants.{One, Two, Three}
use Rattle.aprs_bookfile.proofs.RowPlaces.{no_row, place_in-further, place_in-none}

-- ---- headers and last lines are short

header_few : (v : Version) → IsVersion v → length (header_of v) < 60
header_few One h = omega arith
header_few Two h = omega arith
header_few (Three gap) h = omega (
  arith,
  length-decimal-le 4 gap (omega arith) (omega (arith, h.1)) (omega (arith, h.1)),
)

end_few : (n : ℕ) → n < 2 ^ 64 → length (end_line n) < 60
end_few n h = omega (arith, length-decimal-le 20 n (omega arith) (omega arith) h)

-- ---- a line that is longer than those

is_end-more : (held more : List ℕ) → 60 ≤ length held → is_end (held ++ more) ≡ is_end held
is_end-more [] more long = absurd (omega arith)
is_end-more (a ∷ []) more long = absurd (omega arith)
is_end-more (a ∷ b ∷ []) more long = absurd (omega arith)
is_end-more (a ∷ b ∷ c ∷ held) more long = refl

module _ (held more : List ℕ) (long : 60 ≤ length held) where
  more_long : 60 ≤ length (held ++ more)
  more_long = omega (arith, length-append held more)

  not_so_long : (line short : List ℕ) → 60 ≤ length line → length short < 60 → line ≡ short → ⊥
  not_so_long line short l s e = let n : length line ≡ length short = ap length e in omega arith

  header_more : (answer : Result Stage BookCause) (old new : List Row)
      → JudgesHeader answer old held new → JudgesHeader answer old (held ++ more) new
  header_more (Ok Header) old new j = absurd j
  header_more (Ok (Rows v)) old new j =
      absurd (not_so_long held (header_of v) long (header_few v j.0) j.1)
  header_more (Ok (Done v)) old new j = absurd j
  header_more (Err c) old new j = (
    (
      (λ v is e. not_so_long (held ++ more) (header_of v) more_long (header_few v is) e),
      j.0.1,
    ),
    j.1,
  )

  module _ (none : place_in held ≡ None) where
    wrong_more : (gap : ℕ) (form : MomentForm) (rows : List Row) (c : BookCause)
        → length rows < 2 ^ 64 → IsWrong gap form rows held c
        → IsWrong gap form rows (held ++ more) c
    wrong_more gap form rows cause.Ending few w = (
      is_end-more held more long ∙ w.0,
      λ e. not_so_long (held ++ more) (end_line (length rows)) more_long (end_few (length rows) few)
          e,
    )
    wrong_more gap form rows cause.RowSyntax few w = (
      is_end-more held more long ∙ w.0,
      λ x is e. no_row form x (held ++ more) (place_in-none held more none) is e,
    )
    wrong_more gap form rows cause.Frame few w =
        absurd (no_row form w.row held none w.is w.spelled)
    wrong_more gap form rows cause.Order few w =
        absurd (no_row form w.row held none w.is.spelled w.spelled)
    wrong_more gap form rows cause.Span few w =
        absurd (no_row form w.row held none w.is.spelled w.spelled)
    wrong_more gap form rows cause.Near few w =
        absurd (no_row form w.row held none w.is.spelled w.spelled)
    wrong_more gap form rows cause.Receivers few w =
        absurd (no_row form w.row held none w.is.spelled w.spelled)
    wrong_more gap form rows cause.NotGreatest few w =
        absurd (no_row form w.row held none w.is.spelled w.spelled)
    wrong_more gap form rows cause.Header few w = absurd w
    wrong_more gap form rows cause.After few w = absurd w
    wrong_more gap form rows cause.Read few w = absurd w
    wrong_more gap form rows cause.TooLong few w = absurd w
    wrong_more gap form rows cause.Memory few w = absurd w

    row_more : (v : Version) (answer : Result Stage BookCause) (old new : List Row)
        → length old < 2 ^ 64 → JudgesRowLine v answer old held new
        → JudgesRowLine v answer old (held ++ more) new
    row_more v (Ok Header) old new few j = absurd j
    row_more v (Ok (Rows w)) old new few j =
        absurd (no_row (form_of v) j.1 held none j.2.spelled j.3)
    row_more v (Ok (Done w)) old new few j =
        absurd (not_so_long held (end_line (length old)) long (end_few (length old) few) j.1)
    row_more v (Err c) old new few j = (
      elim j.0 [
        | inl m ↦ inl m
        | inr w ↦ inr (wrong_more (millis_of (gap_of v)) (form_of v) old c few w)
      ],
      j.1,
    )

no_place : (o : Option Place) → is_wrong_place false o ≡ true → o ≡ None
no_place None h = refl
no_place (Some p) h = absurd (let f : false ≡ true = h in cc)

judged_more : (stage : Stage) (answer : Result Stage BookCause) (old new : List Row)
    (held more : List ℕ) → length old < 2 ^ 64
    → is_hopeless (is_first stage) (length held) (place_in held) ≡ true
    → JudgesLine stage answer old held new → JudgesLine stage answer old (held ++ more) new
judged_more stage answer old new held more few h j =
    let p = and_parts (nat_le held_anyway (length held))
    (is_wrong_place (is_first stage) (place_in held)) h in
    let long : 60 ≤ length held = grind (arith, nat_tests, p.0) in
    by_stage stage long p.1 j where
      by_stage : (stage : Stage) → 60 ≤ length held
          → is_wrong_place (is_first stage) (place_in held) ≡ true
          → JudgesLine stage answer old held new → JudgesLine stage answer old (held ++ more) new
      by_stage Header long wrong j = header_more held more long answer old new j
      by_stage (Rows v) long wrong j =
          row_more held more long (no_place (place_in held) wrong) v answer old new few j
      by_stage (Done v) long wrong j = j

pub judged_line : (stage : Stage) (answer : Result Stage BookCause) (old new : List Row)
    (held line : List ℕ) → length old < 2 ^ 64 → IsHeldOf (is_first stage) held line
    → JudgesLine stage answer old held new → JudgesLine stage answer old line new
judged_line stage answer old new held line few h j = elim h [
  | inl e ↦ subst (λ l. JudgesLine stage answer old l new) e j
  | inr m ↦ subst (λ l. JudgesLine stage answer old l new) (sym m.1)
      (judged_more stage answer old new held m.0 few m.2 j)
]

pub kept_line : (keeping : Keeping) (stage : Stage) (answer : Result Stage BookCause)
    (old kept : List Row) (held line : List ℕ) → length old < 2 ^ 64
    → IsHeldOf (is_first stage) held line
    → JudgesKept keeping stage answer old held kept → JudgesKept keeping stage answer old line kept
kept_line keeping stage answer old kept held line few h j = record {
  new = j.new;
  judged = judged_line stage answer old j.new held line few h j.judged;
  keeps = j.keeps;
}

-- ---- what is held

-- nothing is held of an empty line alone
pub none_held : (first : Bool) (line : List ℕ) → IsHeldOf first [] line → line ≡ []
none_held first line h = elim h [
  | inl e ↦ sym e
  | inr m ↦ absurd (let f : false ≡ true = m.2 in cc)
]

-- what is held of a line that nothing was read of
pub nothing_held : (first : Bool) (held : List ℕ) → held ≡ [] → IsHeldOf first held []
nothing_held first held e = inl e

pub nothing_lean : (first : Bool) (held : List ℕ) → held ≡ [] → IsLean first held
nothing_lean first held e =
    subst (IsLean first) (sym e) (λ n h. absurd (omega arith))

-- it wasn't hopeless before this byte
pub not_yet : (first : Bool) (size held i : ℕ) (place before : Option Place) (answer : Bool)
    → size ≡ held + i → place ≡ before → answer ≡ is_hopeless first size place → answer ≡ false
    → is_hopeless first (held + i) before ≡ false
not_yet first size held i place before answer e p is other =
    ap (λ n. is_hopeless first n before) (sym e)
    ∙ ap (λ (o : Option Place). is_hopeless first size o) (sym p) ∙ sym is ∙ other

and_none : (a : Bool) → (a && false) ≡ false
and_none true = refl
and_none false = refl

-- bytes that were passed at once after others
module _ (first : Bool) (held bytes : List ℕ) (i count : ℕ) (place after : Option Place)
    (there : i ≤ length bytes) (is : place ≡ place_in (held ++ take i bytes))
    (p : Passes first place (drop i bytes) count after) where
  pub passed_within : i + count ≤ length bytes
  passed_within = omega (arith, p.within, length-drop i bytes, there)

  pub passed_place : after ≡ place_in (held ++ take (i + count) bytes)
  passed_place = p.after_is ∙ place_in-further held bytes i count place is

  passed_none : (m : ℕ) → 0 < m → m < count
      → is_hopeless first (length held + (i + m)) (place_in (held ++ take (i + m) bytes)) ≡ false
  passed_none m some less =
      ap (λ (o : Option Place). is_hopeless first (length held + (i + m)) o)
      (sym (place_in-further held bytes i m place is))
      ∙ ap (λ b. nat_le held_anyway (length held + (i + m)) && b) (p.before m some less)
      ∙ and_none (nat_le held_anyway (length held + (i + m)))

  pub passed_before :
      ((n : ℕ) → n < i + 1
      → is_hopeless first (length held + n) (place_in (held ++ take n bytes)) ≡ false)
      → (n : ℕ) → n < i + count
      → is_hopeless first (length held + n) (place_in (held ++ take n bytes)) ≡ false
  passed_before before n less = elim (cases_lt n (i + 1)) [
    | inl lt ↦ before n lt
    | inr ge ↦
        let e : i + (n - i) ≡ n = omega (arith, ge) in
        subst (λ k. is_hopeless first (length held + k) (place_in (held ++ take k bytes)) ≡ false)
        e (passed_none (n - i) (omega (arith, ge)) (omega (arith, ge, less)))
  ]

take_front : (j n : ℕ) (l : List ℕ) → j ≤ n → take j (take n l) ≡ take j l
take_front zero n l h = refl
take_front (suc j) zero l h = absurd (omega arith)
take_front (suc j) (suc n) [] h = refl
take_front (suc j) (suc n) (x ∷ l) h = ap (λ t. x ∷ t) (take_front j n l (omega arith))

module _ (first : Bool) (held bytes : List ℕ) (count : ℕ) (place : Option Place)
    (d : Decides first held bytes count place) where
  new_hopeless : is_hopeless first (length held + count) place ≡ true
      → is_hopeless first (length (held ++ take count bytes)) (place_in (held ++ take count bytes))
      ≡ true
  new_hopeless s =
      let n : length (held ++ take count bytes) ≡ length held + count =
      length-append held (take count bytes)
      ∙ ap (λ k. length held + k) (length-take-le count bytes d.within) in
      subst (λ (o : Option Place). is_hopeless first (length (held ++ take count bytes)) o ≡ true)
      d.place_is (subst (λ k. is_hopeless first k place ≡ true) (sym n) s)

  first_is : is_hopeless first (length held + 0) (place_in (held ++ take 0 bytes))
      ≡ is_hopeless first (length held) (place_in held)
  first_is = let n : length held + 0 ≡ length held = omega arith in
      ap (λ l. is_hopeless first (length held + 0) (place_in l)) (append-nil held)
      ∙ ap (λ k. is_hopeless first k (place_in held)) n

  -- what is hopeless takes no more
  no_more : is_hopeless first (length held) (place_in held) ≡ true → count ≡ 0
  no_more s = elim (cases_lt 0 count) [
    | inl some ↦ absurd (let f : true ≡ false = sym s ∙ sym first_is ∙ d.before 0 some in cc)
    | inr none ↦ omega (arith, none)
  ]

  same_held : is_hopeless first (length held) (place_in held) ≡ true
      → held ++ take count bytes ≡ held
  same_held s = ap (λ n. held ++ take n bytes) (no_more s) ∙ append-nil held

  -- bytes more
  pub more_held : (line : List ℕ) → IsHeldOf first held line
      → IsHeldOf first (held ++ take count bytes) (line ++ bytes)
  more_held line h = elim h [
    | inl e ↦ elim d.stops [
      | inl all ↦ inl (ap (λ l. held ++ l) (take_all count bytes (omega (arith, all)))
          ∙ ap (λ l. l ++ bytes) e)
      | inr stops ↦ inr (
        drop count bytes,
        ap (λ l. l ++ bytes) (sym e)
            ∙ ap (λ l. held ++ l) (sym (take-append-drop count bytes))
            ∙ sym (append_assoc held (take count bytes) (drop count bytes)),
        new_hopeless stops,
      )
    ]
    | inr m ↦ inr (
      m.0 ++ bytes,
      ap (λ l. l ++ bytes) m.1 ∙ append_assoc held m.0 bytes
          ∙ ap (λ l. l ++ (m.0 ++ bytes)) (sym (same_held m.2)),
      subst (λ l. is_hopeless first (length l) (place_in l) ≡ true) (sym (same_held m.2)) m.2,
    )
  ]

  lean_at : (j : ℕ) → j < count
      → is_hopeless first (length held + j)
      (place_in (take (length held + j) (held ++ take count bytes))) ≡ false
  lean_at j lt = subst
      (λ l. is_hopeless first (length held + j) (place_in l) ≡ false)
      (sym (take-append-add held (take count bytes) j
      ∙ ap (λ l. held ++ l) (take_front j count bytes (omega arith)))) (d.before j lt)

  pub more_lean : IsLean first held → IsLean first (held ++ take count bytes)
  more_lean lean n h = elim (cases_lt n (length held)) [
    | inl lt ↦ subst (λ l. is_hopeless first n (place_in l) ≡ false)
        (sym (take-append-le n held (take count bytes) (omega (arith, lt)))) (lean n lt)
    | inr ge ↦
        let size : length (held ++ take count bytes) ≡ length held + count =
        length-append held (take count bytes)
        ∙ ap (λ k. length held + k) (length-take-le count bytes d.within) in
        let is : length held + (n - length held) ≡ n = omega (arith, ge) in
        subst (λ k. is_hopeless first k (place_in (take k (held ++ take count bytes))) ≡ false) is
        (lean_at (n - length held) (omega (arith, ge, h, size)))
  ]
