-- A text has one first fault at most.
use Rattle.aprs_bookfile.proofs.Common.{◌≡◌, ℕ, ◌+◌, ◌^◌, ◌<◌, ◌≤◌, List, [], ◌∷◌, ◌++◌, length, map, ◌⊎◌, inl, inr, refl, sym, ap, ◌∙◌, subst, append_assoc, append-nil, length-append, arith, All, AllByRecursion, length-map, All-head, All-tail, InputEnd, MomentForm, millis_of, Row, Sound, text_of_lines}
use Rattle.aprs_bookfile.specs.FirstFault.{AmongRows, EndFault, RestIsAtFault, FirstFault, HeaderFault, IsCut, LineFault, PastEnd}
use Rattle.aprs_bookfile.specs.TextFault.{IsWrong}
use Rattle.aprs_io.specs.Cut.{Lacks}
use Rattle.aprs_bookfile.specs.Text.{row_line, end_line, lines_of, IsBookRow, IsBookRows}
use Rattle.aprs_bookfile.specs.Version.{form_of, gap_of, header_of, IsVersion}
use Rattle.aprs_bookfile.specs.declared.fault.BookCause.{BookCause}
use Rattle.aprs_bookfile.specs.declared.fault.BookFault.{BookFault}
use Rattle.aprs_bookfile.specs.declared.version.Version.{Version}
use Rattle.aprs_bookfile.proofs.Accepting.{lines_few}
use Rattle.aprs_bookfile.proofs.OneText.{All-middle, end_is_row, end_lacks, has_line, line_first, row_lacks, same_line, same_row, wrong_end, wrong_row}
use Rattle.aprs_bookfile.proofs.Versions.{header_lacks, headers_differ}
use Rattle.aprs_bookfile.proofs.BookRows.{rows_sound}
use Rattle.aprs_bookfile.proofs.OneCause.{wrong, spelled_twice}

-- ---- equal lists and faults by their parts

cons_first : (x : List ℕ) (xs : List (List ℕ)) (y : List ℕ) (ys : List (List ℕ)) → x ∷ xs ≡ y ∷ ys
    → x ≡ y
cons_first x xs y ys e = cc

cons_others : (x : List ℕ) (xs : List (List ℕ)) (y : List ℕ) (ys : List (List ℕ)) → x ∷ xs ≡ y ∷ ys
    → xs ≡ ys
cons_others x xs y ys e = cc

fault_is : (f g : BookFault) → f.line ≡ g.line → f.cause ≡ g.cause → f ≡ g
fault_is f g line why =
    let first : f ≡ record { line = g.line; cause = f.cause } =
    ap (λ n. record { line = n; cause = f.cause }) line in
    first ∙ ap (λ c. record { line = g.line; cause = c }) why

-- ---- two prefixes of one text

-- the second goes on with a line, which stands in the text after the first
record GoesOn (a b : List (List ℕ)) (rest : List ℕ) : Type 0 where
  line : List ℕ
  more : List (List ℕ)
  tail : List ℕ
  is : b ≡ a ++ line ∷ more
  one : Lacks 10 line
  text_is : rest ≡ line ++ 10 ∷ tail

goes_first : (line : List ℕ) (more : List (List ℕ)) (s rest : List ℕ) → Lacks 10 line
    → rest ≡ text_of_lines (line ∷ more) ++ s → GoesOn [] (line ∷ more) rest
goes_first line more s rest one e = record {
  line = line;
  more = more;
  tail = text_of_lines more ++ s;
  is = refl;
  one = one;
  text_is = e ∙ line_first line more s;
}

goes_later : (x y : List ℕ) (a b : List (List ℕ)) (rest : List ℕ) → x ≡ y → GoesOn a b rest
    → GoesOn (x ∷ a) (y ∷ b) rest
goes_later x y a b rest e f = record {
  line = f.line;
  more = f.more;
  tail = f.tail;
  is = ap (λ l. y ∷ l) f.is ∙ ap (λ z. z ∷ (a ++ f.line ∷ f.more)) (sym e);
  one = f.one;
  text_is = f.text_is;
}

two_prefixes : (a b : List (List ℕ)) (r s : List ℕ) → AllByRecursion (Lacks 10) a
    → AllByRecursion (Lacks 10) b → text_of_lines a ++ r ≡ text_of_lines b ++ s
    → ((a ≡ b) × (r ≡ s)) ⊎ (GoesOn a b r ⊎ GoesOn b a s)
two_prefixes [] [] r s h k e = inl (refl, e)
two_prefixes [] (y ∷ b) r s h k e = inr (inl (goes_first y b s r k.0 e))
two_prefixes (x ∷ a) [] r s h k e = inr (inr (goes_first x a r s h.0 (sym e)))
two_prefixes (x ∷ a) (y ∷ b) r s h k e =
    let t = same_line 10 x (text_of_lines a ++ r) y (text_of_lines b ++ s) h.0 k.0
    (sym (line_first x a r) ∙ e ∙ line_first y b s) in
    elim (two_prefixes a b r s h.1 k.1 t.1) [
      | inl same ↦ inl (ap (λ z. z ∷ a) t.0 ∙ ap (λ l. y ∷ l) same.0, same.1)
      | inr on ↦ elim on [
        | inl f ↦ inr (inl (goes_later x y a b r t.0 f))
        | inr g ↦ inr (inr (goes_later y x b a s (sym t.0) g))
      ]
    ]

-- ---- the lines of rows

rows_lack : (form : MomentForm) (rows : List Row) (last : List (List ℕ)) → All (IsBookRow form) rows
    → AllByRecursion (Lacks 10) last → AllByRecursion (Lacks 10) (map (row_line form) rows ++ last)
rows_lack form [] last h k = k
rows_lack form (x ∷ rows) last h k = (
  row_lacks form x (All-head (IsBookRow form) x rows h).spelled,
  rows_lack form rows last (All-tail (IsBookRow form) x rows h) k,
)

-- rows that go on with a row
record RowsGoOn (form : MomentForm) (a b : List Row) (line : List ℕ) : Type 0 where
  row_is : Row
  more : List Row
  is : b ≡ a ++ row_is ∷ more
  line_is : line ≡ row_line form row_is

-- the lines of some rows, then this line, are those of others
rows_on : (form : MomentForm) (a b : List Row) (line : List ℕ) (more : List (List ℕ))
    → All (IsBookRow form) a → All (IsBookRow form) b
    → map (row_line form) b ≡ map (row_line form) a ++ line ∷ more → RowsGoOn form a b line
rows_on form [] [] line more h k e = absurd (let l = ap length e in omega (arith, l))
rows_on form [] (y ∷ b) line more h k e = record {
  row_is = y;
  more = b;
  is = refl;
  line_is = (let f : row_line form y ≡ line = cc in sym f);
}
rows_on form (x ∷ a) [] line more h k e = absurd (let l = ap length e in omega (arith, l))
rows_on form (x ∷ a) (y ∷ b) line more h k e =
    let first : row_line form y ≡ row_line form x = cc in
    let others : map (row_line form) b ≡ map (row_line form) a ++ line ∷ more = cc in
    let same : y ≡ x = same_row form y x (All-head (IsBookRow form) y b k).spelled
    (All-head (IsBookRow form) x a h).spelled first in
    let r = rows_on form a b line more (All-tail (IsBookRow form) x a h)
    (All-tail (IsBookRow form) y b k) others in
    record {
      row_is = r.row_is;
      more = r.more;
      is = ap (λ l. y ∷ l) r.is
          ∙ ap (λ z. z ∷ (a ++ r.row_is ∷ r.more)) same;
      line_is = r.line_is;
    }

-- the same with a last line
end_on : (form : MomentForm) (a b : List Row) (n : ℕ) (line : List ℕ) (more : List (List ℕ))
    → All (IsBookRow form) a → All (IsBookRow form) b
    → map (row_line form) b ++ end_line n ∷ [] ≡ map (row_line form) a ++ line ∷ more
    → RowsGoOn form a b line ⊎ ((a ≡ b) × (line ≡ end_line n))
end_on form [] [] n line more h k e = inr (refl, (let f : end_line n ≡ line = cc in sym f))
end_on form [] (y ∷ b) n line more h k e = inl
    (record {
      row_is = y;
      more = b;
      is = refl;
      line_is = (let f : row_line form y ≡ line = cc in sym f);
    })
end_on form (x ∷ a) [] n line more h k e = absurd (let f : end_line n ≡ row_line form x = cc in
    end_is_row form n x f)
end_on form (x ∷ a) (y ∷ b) n line more h k e =
    let first : row_line form y ≡ row_line form x = cc in
    let others : map (row_line form) b ++ end_line n ∷ [] ≡ map (row_line form) a ++ line ∷ more =
    cc in
    let same : y ≡ x = same_row form y x (All-head (IsBookRow form) y b k).spelled
    (All-head (IsBookRow form) x a h).spelled first in
    elim (end_on form a b n line more (All-tail (IsBookRow form) x a h)
    (All-tail (IsBookRow form) y b k) others) [
      | inl r ↦ inl (record {
        row_is = r.row_is;
        more = r.more;
        is = ap (λ l. y ∷ l) r.is
            ∙ ap (λ z. z ∷ (a ++ r.row_is ∷ r.more)) same;
        line_is = r.line_is;
      })
      | inr last ↦ inr (ap (λ l. x ∷ l) last.0 ∙ ap (λ z. z ∷ b) (sym same), last.1)
    ]

same_rows : (form : MomentForm) (a b : List Row) → All (IsBookRow form) a → All (IsBookRow form) b
    → map (row_line form) a ≡ map (row_line form) b → a ≡ b
same_rows form [] [] h k e = refl
same_rows form [] (y ∷ b) h k e = absurd (let l = ap length e in omega (arith, l))
same_rows form (x ∷ a) [] h k e = absurd (let l = ap length e in omega (arith, l))
same_rows form (x ∷ a) (y ∷ b) h k e =
    let first : row_line form x ≡ row_line form y = cc in
    let others : map (row_line form) a ≡ map (row_line form) b = cc in
    let same = same_row form x y (All-head (IsBookRow form) x a h).spelled
    (All-head (IsBookRow form) y b k).spelled first in
    ap (λ z. z ∷ a) same ∙ ap (λ l. y ∷ l) (same_rows form a b (All-tail (IsBookRow form) x a h)
    (All-tail (IsBookRow form) y b k) others)

-- a last line is none of the rows'
no_last : (form : MomentForm) (a b : List Row) (n : ℕ) (more : List (List ℕ))
    → All (IsBookRow form) a → All (IsBookRow form) b
    → map (row_line form) b ≡ map (row_line form) a ++ end_line n ∷ more → ⊥
no_last form a b n more h k e = let r = rows_on form a b (end_line n) more h k e in
    end_is_row form n r.row_is r.line_is

-- ---- no line that was read has an LF

abbrev lines_in : Version → List Row → List (List ℕ)
lines_in v rows = map (row_line (form_of v)) rows

lines_lack : (lines : List (List ℕ)) (rest text : List ℕ) (e : InputEnd) (c : BookCause)
    → length text < 2 ^ 64 → text ≡ text_of_lines lines ++ rest → RestIsAtFault lines rest e c
    → AllByRecursion (Lacks 10) lines
lines_lack lines rest text e c small whole h = elim h [
  | inl start ↦ subst (AllByRecursion (Lacks 10)) (sym start.none_read) tt
  | inr k ↦ elim k [
    | inl among ↦ in_rows among
    | inr past ↦ in_book past
  ]
] where
  in_rows : AmongRows lines rest e c → AllByRecursion (Lacks 10) lines
  in_rows h =
      let v = h.version in
      let all = rows_lack (form_of v) h.rows [] h.sound.each tt in
      subst (AllByRecursion (Lacks 10)) (sym h.read) (
        header_lacks v h.sound.version,
        subst (AllByRecursion (Lacks 10))
            (append-nil (lines_in v h.rows)) all,
      )

  in_book : PastEnd lines rest e c → AllByRecursion (Lacks 10) lines
  in_book h =
      let v = h.version in
      let rows = h.rows in
      let all : length (lines_of v rows) ≡ length (lines_in v rows) + 2 =
      simp length-append (omega arith) in
      let few : length lines ≤ length (text_of_lines lines) = lines_few lines in
      let size : length text ≡ length (text_of_lines lines) + length rest
      = ap length whole ∙ length-append (text_of_lines lines) rest in
      let count : length lines ≡ length (lines_of v rows) = ap length h.read in
      let n : length rows < 2 ^ 64
      = omega (arith, all, few, size, count, small, length-map rows (row_line (form_of v))) in
      subst (AllByRecursion (Lacks 10)) (sym h.read) (
        header_lacks v h.sound.version,
        rows_lack (form_of v) rows (end_line (length rows) ∷ []) h.sound.each
            (end_lacks (length rows) n, tt),
      )

-- ---- no prefix goes on after a fault

not_cut : (rest line tail : List ℕ) (e : InputEnd) (c : BookCause) → rest ≡ line ++ 10 ∷ tail
    → IsCut rest e c → ⊥
not_cut rest line tail e c is h = has_line 10 line tail (subst (Lacks 10) is h.0)

wrong_on : (v : Version) (a b : List Row) (line rest tail : List ℕ) (e : InputEnd) (c : BookCause)
    → IsBookRows v b → RowsGoOn (form_of v) a b line → rest ≡ line ++ 10 ∷ tail → Lacks 10 line
    → LineFault v a rest e c → ⊥
wrong_on v a b line rest tail e c is on text one h = elim h [
  | inl cut ↦ not_cut rest line tail e c text cut
  | inr w ↦
      let gap = millis_of (gap_of v) in
      let form = form_of v in
      let same : w.line ≡ row_line form on.row_is
      = (same_line 10 w.line w.more line tail w.one one (sym w.is ∙ text)).0 ∙ on.line_is in
      wrong_row gap form a on.more on.row_is c
      (All-middle (IsBookRow form) a on.row_is on.more (subst (All (IsBookRow form)) on.is is.each))
      (subst (Sound gap) on.is (rows_sound v b is))
      (subst (λ l. IsWrong gap form a l c) same w.holds)
]

wrong_at_end : (v : Version) (a b : List Row) (line rest tail : List ℕ) (e : InputEnd)
    (c : BookCause) → a ≡ b → line ≡ end_line (length b) → rest ≡ line ++ 10 ∷ tail → Lacks 10 line
    → LineFault v a rest e c → ⊥
wrong_at_end v a b line rest tail e c same is text one h = elim h [
  | inl cut ↦ not_cut rest line tail e c text cut
  | inr w ↦
      let gap = millis_of (gap_of v) in
      let form = form_of v in
      let line_is : w.line ≡ end_line (length b)
      = (same_line 10 w.line w.more line tail w.one one (sym w.is ∙ text)).0 ∙ is in
      wrong_end gap form b c
      (subst (λ (r : List Row). IsWrong gap form r (end_line (length b)) c) same
      (subst (λ l. IsWrong gap form a l c) line_is w.holds))
]

-- these lines begin with the header of a version
record HaveHeader (lines : List (List ℕ)) : Type 0 where
  version : Version
  is : IsVersion version
  more : List (List ℕ)
  lines_are : lines ≡ header_of version ∷ more

abbrev row_header : (lines : List (List ℕ)) (rest : List ℕ) (e : InputEnd) (c : BookCause)
    → AmongRows lines rest e c → HaveHeader lines
row_header lines rest e c h = record {
  version = h.version;
  is = h.sound.version;
  more = lines_in h.version h.rows;
  lines_are = h.read;
}

abbrev end_header : (lines : List (List ℕ)) (rest : List ℕ) (e : InputEnd) (c : BookCause)
    → PastEnd lines rest e c → HaveHeader lines
end_header lines rest e c h = record {
  version = h.version;
  is = h.sound.version;
  more = lines_in h.version h.rows ++ end_line (length h.rows) ∷ [];
  lines_are = h.read;
}

-- the lines before a fault, if any, begin with a header
some_header : (lines : List (List ℕ)) (rest line : List ℕ) (more : List (List ℕ)) (e : InputEnd)
    (c : BookCause) → RestIsAtFault lines rest e c → lines ≡ line ∷ more → HaveHeader lines
some_header lines rest line more e c h is = elim h [
  | inl start ↦ absurd (let l = ap length (sym start.none_read ∙ is) in omega (arith, l))
  | inr k ↦ elim k [
    | inl among ↦ row_header lines rest e c among
    | inr past ↦ end_header lines rest e c past
  ]
]

no_lines : (lines : List (List ℕ)) → lines ≡ [] → HaveHeader lines → ⊥
no_lines lines none h = let l = ap length (sym none ∙ h.lines_are) in omega (arith, l)

-- a header is of one version
same_version : (lines : List (List ℕ)) (v : Version) (more : List (List ℕ)) (h : HaveHeader lines)
    → IsVersion v → lines ≡ header_of v ∷ more → h.version ≡ v
same_version lines v more h is e =
    headers_differ h.version v h.is is
    (cons_first (header_of h.version) h.more (header_of v) more (sym h.lines_are ∙ e))

module _ (lines b : List (List ℕ)) (rest other : List ℕ) (e : InputEnd) (c d : BookCause)
    (k : RestIsAtFault b other e d) (on : GoesOn lines b rest) where
  after_start : lines ≡ [] → HeaderFault rest e c → ⊥
  after_start none h = elim h [
    | inl cut ↦ not_cut rest on.line on.tail e c on.text_is cut
    | inr w ↦
        let whole : b ≡ on.line ∷ on.more = on.is ∙ ap (λ l. l ++ on.line ∷ on.more) none in
        let first = some_header b other on.line on.more e d k whole in
        let header : on.line ≡ header_of first.version
        = cons_first on.line on.more (header_of first.version) first.more (sym whole
        ∙ first.lines_are) in
        let same = same_line 10 w.line w.more on.line on.tail w.one on.one (sym w.is
        ∙ on.text_is) in
        w.holds.0 first.version first.is (same.0 ∙ header)
  ]

  -- after the lines of rows
  module _ (v : Version) (rows : List Row) (is : IsBookRows v rows) where
    -- in the other prefix, these lines come after the header
    module _ (more : List (List ℕ)) (whole : b ≡ header_of v ∷ (lines_in v rows ++ more)) where
      in_rows : AmongRows b other e d → (others : List Row) × IsBookRows v others
          × (lines_in v others ≡ lines_in v rows ++ more)
      in_rows h =
          let same = same_version b v (lines_in v rows ++ more)
          (row_header b other e d h) is.version whole in
          let read = subst (λ (u : Version). b ≡ header_of u ∷ lines_in u h.rows) same h.read in (
            h.rows,
            subst (λ (u : Version). IsBookRows u h.rows) same h.sound,
            cons_others (header_of v) (lines_in v h.rows) (header_of v) (lines_in v rows ++ more)
                (sym read ∙ whole),
          )

      in_book : PastEnd b other e d → (others : List Row) × IsBookRows v others
          × (lines_in v others ++ end_line (length others) ∷ [] ≡ lines_in v rows ++ more)
      in_book h =
          let same = same_version b v (lines_in v rows ++ more)
          (end_header b other e d h) is.version whole in
          let read = subst (λ (u : Version). b ≡ lines_of u h.rows) same h.read in
          let last = end_line (length h.rows) ∷ [] in (
            h.rows,
            subst (λ (u : Version). IsBookRows u h.rows) same h.sound,
            cons_others (header_of v) (lines_in v h.rows ++ last) (header_of v)
                (lines_in v rows ++ more) (sym read ∙ whole),
          )

    after_rows : lines ≡ header_of v ∷ lines_in v rows → LineFault v rows rest e c → ⊥
    after_rows read h = elim k [
      | inl start ↦ let l = ap length (sym start.none_read ∙ whole) in omega (arith, l)
      | inr k ↦ elim k [
        | inl among ↦
            let r = in_rows (on.line ∷ on.more) whole among in
            further r.0 r.1 (rows_on (form_of v) rows r.0 on.line on.more is.each r.1.each r.2)
        | inr past ↦
            let r = in_book (on.line ∷ on.more) whole past in
            elim (end_on (form_of v) rows r.0 (length r.0) on.line on.more is.each r.1.each r.2) [
              | inl more ↦ further r.0 r.1 more
              | inr last ↦ wrong_at_end v rows r.0 on.line rest on.tail e c last.0 last.1 on.text_is
                  on.one h
            ]
      ]
    ] where
      whole : b ≡ header_of v ∷ (lines_in v rows ++ on.line ∷ on.more)
      whole = on.is ∙ ap (λ l. l ++ on.line ∷ on.more) read

      further : (others : List Row) → IsBookRows v others → RowsGoOn (form_of v) rows others on.line
          → ⊥
      further others book more = wrong_on v rows others on.line rest on.tail e c book more
          on.text_is on.one h

    after_end : lines ≡ lines_of v rows → ⊥
    after_end read = elim k [
      | inl start ↦ let l = ap length (sym start.none_read ∙ whole) in omega (arith, l)
      | inr k ↦ elim k [
        | inl among ↦
            let r = in_rows (end_line (length rows) ∷ on.line ∷ on.more) whole among in
            no_last (form_of v) rows r.0 (length rows) (on.line ∷ on.more) is.each r.1.each r.2
        | inr past ↦ let r = in_book (end_line (length rows) ∷ on.line ∷ on.more) whole past in
            ends_twice r.0 r.1 r.2
      ]
    ] where
      whole : b ≡ header_of v ∷ (lines_in v rows ++ end_line (length rows) ∷ on.line ∷ on.more)
      whole = on.is ∙ ap (λ l. l ++ on.line ∷ on.more) read
          ∙ ap (λ l. header_of v ∷ l) (append_assoc (lines_in v rows) (end_line (length rows) ∷ [])
          (on.line ∷ on.more))

      ends_twice : (others : List Row) → IsBookRows v others
          → lines_in v others ++ end_line (length others) ∷ [] ≡ lines_in v rows
          ++ end_line (length rows) ∷ on.line ∷ on.more → ⊥
      ends_twice others book tails =
          elim (end_on (form_of v) rows others (length others) (end_line (length rows))
          (on.line ∷ on.more) is.each book.each tails) [
            | inl r ↦ end_is_row (form_of v) (length rows) r.row_is r.line_is
            | inr last ↦
                let l = ap length tails in
                let left = length-append (lines_in v others) (end_line (length others) ∷ []) in
                let right = length-append (lines_in v rows)
                (end_line (length rows) ∷ on.line ∷ on.more) in
                let count = length-map rows (row_line (form_of v)) in
                omega (
                  arith,
                  l,
                  left,
                  right,
                  count,
                  length-map others (row_line (form_of v)),
                  ap length last.0,
                )
          ]

  no_further : RestIsAtFault lines rest e c → ⊥
  no_further h = elim h [
    | inl start ↦ after_start start.none_read start.fault
    | inr k ↦ elim k [
      | inl among ↦ after_rows among.version among.rows among.sound among.read among.fault
      | inr past ↦ after_end past.version past.rows past.sound past.read
    ]
  ]

-- ---- after the same lines the cause is one

module _ (rest : List ℕ) (e : InputEnd) (c d : BookCause) where
  start_once : HeaderFault rest e c → HeaderFault rest e d → c ≡ d
  start_once h k = elim h [
    | inl cut ↦ elim k [
      | inl too ↦ cut.1 ∙ sym too.1
      | inr w ↦ absurd (not_cut rest w.line w.more e c w.is cut)
    ]
    | inr w ↦ elim k [
      | inl cut ↦ absurd (not_cut rest w.line w.more e d w.is cut)
      | inr v ↦ w.holds.1 ∙ sym v.holds.1
    ]
  ]

  rows_once : (v : Version) (rows : List Row) → LineFault v rows rest e c
      → LineFault v rows rest e d
      → c ≡ d
  rows_once v rows h k = elim h [
    | inl cut ↦ elim k [
      | inl too ↦ cut.1 ∙ sym too.1
      | inr w ↦ absurd (not_cut rest w.line w.more e c w.is cut)
    ]
    | inr w ↦ elim k [
      | inl cut ↦ absurd (not_cut rest w.line w.more e d w.is cut)
      | inr z ↦
          let gap = millis_of (gap_of v) in
          let form = form_of v in
          let line : z.line ≡ w.line = (same_line 10 z.line z.more w.line w.more z.one w.one
          (sym z.is ∙ w.is)).0 in
          spelled_twice gap form rows w.line c d (wrong gap form rows w.line c w.holds)
          (wrong gap form rows w.line d (subst (λ l. IsWrong gap form rows l d) line z.holds))
    ]
  ]

  end_once : EndFault rest e c → EndFault rest e d → c ≡ d
  end_once h k = elim h [
    | inl after ↦ elim k [
      | inl too ↦ after.1 ∙ sym too.1
      | inr end ↦ absurd (let l = ap length end.0 in omega (arith, after.0, l))
    ]
    | inr end ↦ elim k [
      | inl after ↦ absurd (let l = ap length end.0 in omega (arith, after.0, l))
      | inr too ↦ end.2 ∙ sym too.2
    ]
  ]

  module _ (lines : List (List ℕ)) where
    -- the same version, and maybe other rows
    among_once : AmongRows lines rest e c → AmongRows lines rest e d → c ≡ d
    among_once h k =
        let v = h.version in
        let same = same_version lines v (lines_in v h.rows)
        (row_header lines rest e d k) h.sound.version h.read in
        let sound = subst (λ (u : Version). IsBookRows u k.rows) same k.sound in
        let read = subst (λ (u : Version). lines ≡ header_of u ∷ lines_in u k.rows) same k.read in
        let fault = subst (λ (u : Version). LineFault u k.rows rest e d) same k.fault in
        let rows : k.rows ≡ h.rows
        = same_rows (form_of v) k.rows h.rows sound.each h.sound.each
        (cons_others (header_of v) (lines_in v k.rows) (header_of v) (lines_in v h.rows) (sym read
        ∙ h.read)) in
        rows_once v h.rows h.fault (subst (λ (r : List Row). LineFault v r rest e d) rows fault)

    -- lines that end with a row's are not a book's
    not_both : (a b : BookCause) → AmongRows lines rest e a → PastEnd lines rest e b → ⊥
    not_both a b h k =
        let v = h.version in
        let same = same_version lines v (lines_in v h.rows)
        (end_header lines rest e b k) h.sound.version h.read in
        let sound = subst (λ (u : Version). IsBookRows u k.rows) same k.sound in
        let read = subst (λ (u : Version). lines ≡ lines_of u k.rows) same k.read in
        let last = end_line (length k.rows) ∷ [] in
        no_last (form_of v) k.rows h.rows (length k.rows) [] sound.each h.sound.each
        (cons_others (header_of v) (lines_in v h.rows) (header_of v) (lines_in v k.rows ++ last)
        (sym h.read ∙ read))

    one_cause : RestIsAtFault lines rest e c → RestIsAtFault lines rest e d → c ≡ d
    one_cause h k = elim h [
      | inl start ↦ elim k [
        | inl too ↦ start_once start.fault too.fault
        | inr k ↦ elim k [
          | inl among ↦ absurd (no_lines lines start.none_read (row_header lines rest e d among))
          | inr past ↦ absurd (no_lines lines start.none_read (end_header lines rest e d past))
        ]
      ]
      | inr h ↦ elim h [
        | inl among ↦ elim k [
          | inl start ↦ absurd (no_lines lines start.none_read (row_header lines rest e c among))
          | inr k ↦ elim k [
            | inl too ↦ among_once among too
            | inr past ↦ absurd (not_both c d among past)
          ]
        ]
        | inr past ↦ elim k [
          | inl start ↦ absurd (no_lines lines start.none_read (end_header lines rest e c past))
          | inr k ↦ elim k [
            | inl among ↦ absurd (not_both d c among past)
            | inr too ↦ end_once past.fault too.fault
          ]
        ]
      ]
    ]

pub one_fault : (text : List ℕ) (e : InputEnd) (f g : BookFault) → length text < 2 ^ 64
    → FirstFault text e f → FirstFault text e g → f ≡ g
one_fault text e f g small h k =
    elim (two_prefixes h.lines k.lines h.rest k.rest first second (sym h.whole ∙ k.whole)) [
      | inl same ↦
          let line : f.line ≡ g.line
          = h.line ∙ ap (λ (l : List (List ℕ)). length l + 1) same.0 ∙ sym k.line in
          let other : RestIsAtFault h.lines h.rest e g.cause
          = subst (λ r. RestIsAtFault h.lines r e g.cause) (sym same.1)
          (subst (λ l. RestIsAtFault l k.rest e g.cause) (sym same.0) k.fault) in
          fault_is f g line (one_cause h.rest e f.cause g.cause h.lines h.fault other)
      | inr on ↦ absurd (elim on [
        | inl further ↦ no_further h.lines k.lines h.rest k.rest e f.cause g.cause k.fault further
            h.fault
        | inr further ↦ no_further k.lines h.lines k.rest h.rest e g.cause f.cause h.fault further
            k.fault
      ])
    ] where
      first : AllByRecursion (Lacks 10) h.lines
      first = lines_lack h.lines h.rest text e f.cause small h.whole h.fault

      second : AllByRecursion (Lacks 10) k.lines
      second = lines_lack k.lines k.rest text e g.cause small k.whole k.fault
