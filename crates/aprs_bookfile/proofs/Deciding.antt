-- Each line spells a row or none, and each text is a book's or has a first fault.
use Rattle.aprs_bookfile.proofs.Common.{◌≡◌, ℕ, zero, suc, ◌+◌, ◌<◌, ◌≤◌, Bool, true, false, cond, List, [], ◌∷◌, ◌++◌, length, Option, Some, None, Result, Ok, Err, ◌⊎◌, inl, inr, refl, sym, ap, ◌∙◌, subst, append_assoc, append-nil, length-append, arith, ◌≢◌, All, codes, bytes_eq, AllByRecursion, join_with_byte, cases_lt, nil_from_length, bytes_eq-Decides, All-from_recursion, recursion_from_All, encode_lower, decode_of, decode_of-ok, frame_or_fault, frame_of-is, is-frame_of, FrameFault, IsWritable, moment_in, IsName, is_receiver, MomentForm, moment_in-text, InputEnd, greatest_gap, IsGap, millis_of, Row, last_moment, is_refused, row_with, RowCause, is_byte}
use Rattle.aprs_log.specs.Moment.{moment_text_in}
use Rattle.aprs_rows.specs.Refusal.{refusal}
use Rattle.hex.specs.declared.error.FromHexError.{FromHexError}
use Rattle.aprs_transmissions.specs.declared.row_cause.RowCause.TheVariants as row
use Rattle.aprs_bookfile.specs.FirstFault.{FirstFault}
use Rattle.aprs_bookfile.specs.TextFault.{is_end, SpellsRefusedRow}
use Rattle.aprs_bookfile.specs.Law.{IsBookText}
use Rattle.aprs_bookfile.specs.Lines.{pieces}
use Rattle.aprs_io.specs.Cut.{Lacks}
use Rattle.aprs_bookfile.specs.Reader.{JudgesLine, HasReadLines, is_done, line_number, may_end}
use Rattle.aprs_bookfile.specs.RowFields.{SpellsBytes}
use Rattle.aprs_bookfile.specs.Text.{row_line, end_line, lines_of, book_text, most_frame_bytes, IsSpelled, IsBookRow}
use Rattle.aprs_bookfile.specs.Version.{form_of, gap_of, header_of}
use Rattle.aprs_bookfile.specs.declared.fault.BookCause.{BookCause}
use Rattle.aprs_bookfile.specs.declared.fault.BookCause.TheVariants as cause
use Rattle.aprs_bookfile.specs.declared.fault.BookFault.{BookFault}
use Rattle.aprs_bookfile.specs.declared.stage.Stage.{Stage}
use Rattle.aprs_bookfile.specs.declared.stage.Stage.TheVariants.{Header, Rows, Done}
use Rattle.aprs_bookfile.specs.declared.version.Version.{Version}
use Rattle.aprs_bookfile.specs.declared.version.Version.TheVariants.{One, Two, Three}
use Rattle.aprs_bookfile.proofs.Cuts.{joined_pieces, pieces_some}
use Rattle.aprs_bookfile.proofs.Digits.{decode_of-spelled}
use Rattle.aprs_bookfile.proofs.RowReading.{IsNoRow}
use Rattle.aprs_bookfile.proofs.Spellings.{moment_found, moment_missed, moment_read, names_pieces, same_fields, six_pieces, spelled_by}
use Rattle.aprs_bookfile.proofs.Standing.{cut_fault, ended_fault, ended_stands, ended_whole, held_stands}
use Rattle.aprs_bookfile.proofs.Versions.{no_header, standard_range}

-- ---- one list, or another

one_or_other : (a b : List ℕ) → (a ≡ b) ⊎ (a ≢ b)
one_or_other a b = by (bytes_eq a b) refl where
  by : (t : Bool) → bytes_eq a b ≡ t → (a ≡ b) ⊎ (a ≢ b)
  by true e = inl ((bytes_eq-Decides a b).0 e)
  by false e = inr (λ same. let yes = (bytes_eq-Decides a b).1 same in let f : false ≡ true = sym e
      ∙ yes in absurd cc)

-- ---- fields

abbrev IsMoment : MomentForm → List ℕ → ℕ → Type 0
IsMoment form t m = IsWritable form m × (t ≡ moment_text_in form m)

moment_or_none : (form : MomentForm) (t : List ℕ)
    → ((m : ℕ) × IsMoment form t m) ⊎ ((m : ℕ) → IsWritable form m → t ≢ moment_text_in form m)
moment_or_none form t = by (moment_in form t) refl where
  by : (o : Option ℕ) → moment_in form t ≡ o → ((m : ℕ) × IsMoment form t m) ⊎ ((m : ℕ)
      → IsWritable form m → t ≢ moment_text_in form m)
  by None e = inr (moment_missed form t e)
  by (Some m) e = elim (cases_lt 4102444799999 m) [
    | inl late ↦ inr (λ k h same.
        let some : Some m ≡ Some k = sym e ∙ ap (moment_in form) same ∙ moment_read form k h in
        let is : m ≡ k = cc in
        omega (arith, late, h.in_range, is))
    | inr low ↦ inl (m, moment_found form t m low (moment_in-text form t m e))
  ]

all_names : (ps : List (List ℕ)) → AllByRecursion IsName ps ⊎ (AllByRecursion IsName ps → ⊥)
all_names [] = inl tt
all_names (p ∷ ps) = by (all_names ps) (is_receiver p) refl where
  by : AllByRecursion IsName ps ⊎ (AllByRecursion IsName ps → ⊥) → (b : Bool) → is_receiver p ≡ b
      → AllByRecursion IsName (p ∷ ps) ⊎ (AllByRecursion IsName (p ∷ ps) → ⊥)
  by others false e = inr (λ h. let f : false ≡ true = sym e ∙ h.0 in absurd cc)
  by others true e = elim others [
    | inl all ↦ inl (e, all)
    | inr none ↦ inr (λ h. none h.1)
  ]

-- The field spells these names, at least one, with commas between.
record SpellsNames (field : List ℕ) (names : List (List ℕ)) : Type 0 where
  field_is : field ≡ join_with_byte 44 names
  names_are : All IsName names
  some : 0 < length names

names_or_none : (n : List ℕ) → ((names : List (List ℕ)) × SpellsNames n names)
    ⊎ ((names : List (List ℕ)) → SpellsNames n names → ⊥)
names_or_none n = elim (all_names (pieces 44 n)) [
  | inl all ↦ inl (
    pieces 44 n,
    record {
      field_is = joined_pieces 44 n (pieces 44 n) refl;
      names_are = All-from_recursion IsName (pieces 44 n) all;
      some = pieces_some 44 n;
    },
  )
  | inr none ↦ inr (λ names h.
      let same : names ≡ pieces 44 n = sym (names_pieces names h.some h.names_are)
      ∙ ap (pieces 44) (sym h.field_is) in
      none (subst (AllByRecursion IsName) same (recursion_from_All IsName names h.names_are)))
]

bytes_or_none : (d : List ℕ) → ((bytes : List ℕ) × SpellsBytes d bytes) ⊎ ((bytes : List ℕ)
    → SpellsBytes d bytes → ⊥)
bytes_or_none d = by (decode_of d) refl where
  by : (r : Result (List ℕ) FromHexError) → decode_of d ≡ r
      → ((bytes : List ℕ) × SpellsBytes d bytes) ⊎ ((bytes : List ℕ) → SpellsBytes d bytes → ⊥)
  by (Err e) is = inr (λ bytes h. let f : Err e ≡ Ok bytes = sym is
      ∙ decode_of-spelled d bytes h in absurd cc)
  by (Ok b) is = elim (one_or_other d (encode_lower b)) [
    | inr other ↦ inr (λ bytes h. let f : Ok b ≡ Ok bytes = sym is
        ∙ decode_of-spelled d bytes h in let same : b ≡ bytes = cc in
        other (h.digits_are ∙ ap encode_lower (sym same)))
    | inl digits ↦ elim (cases_lt 0 (length b)) [
      | inr none ↦ inr (λ bytes h. let f : Ok b ≡ Ok bytes = sym is
          ∙ decode_of-spelled d bytes h in let same : b ≡ bytes = cc in let few = h.few.0 in
          omega (arith, none, few, ap length same))
      | inl some ↦ elim (cases_lt most_frame_bytes (length b)) [
        | inl many ↦ inr (λ bytes h. let f : Ok b ≡ Ok bytes = sym is
            ∙ decode_of-spelled d bytes h in let same : b ≡ bytes = cc in let few = h.few.1 in
            omega (arith, many, few, ap length same))
        | inr few ↦ inl (
          b,
          record {
            digits_are = digits;
            bytes_are = (decode_of-ok d b is).3;
            few = (some, few);
          },
        )
      ]
    ]
  ]

-- ---- a row's line

pub record SpelledRow (form : MomentForm) (line : List ℕ) : Type 0 where
  pub row : Row
  pub is : IsSpelled form row
  pub line_is : line ≡ row_line form row

module _ (form : MomentForm) (line t f l n w d : List ℕ)
    (is : pieces 32 line ≡ t ∷ f ∷ l ∷ n ∷ w ∷ d ∷ []) where
  row_or_none : SpelledRow form line ⊎ IsNoRow form line
  row_or_none = elim (one_or_other t (codes "T")) [
    | inr other ↦ inr (λ x h e. other (same_fields form line t f l n w d is x h e).tag)
    | inl tag ↦ elim (moment_or_none form f) [
      | inr none ↦ inr (λ x h e. none x.first h.first
          (same_fields form line t f l n w d is x h e).first)
      | inl first ↦ elim (moment_or_none form l) [
        | inr none ↦ inr (λ x h e. none (last_moment x) h.last
            (same_fields form line t f l n w d is x h e).last)
        | inl last ↦ elim (names_or_none n) [
          | inr none ↦ inr (λ x h e. none x.receivers
              (record {
                field_is = (same_fields form line t f l n w d is x h e).receivers;
                names_are = h.receivers;
                some = h.some;
              }))
          | inl names ↦ elim (all_names (w ∷ [])) [
            | inr none ↦ inr (λ x h e. none (
              subst IsName
                  (sym (same_fields form line t f l n w d is x h e).receiver) h.receiver,
              tt,
            ))
            | inl name ↦ elim (bytes_or_none d) [
              | inr none ↦ inr (λ x h e. none x.greatest.frame
                  (record {
                    digits_are = (same_fields form line t f l n w d is x h e).frame;
                    bytes_are = h.bytes;
                    few = h.few;
                  }))
              | inl bytes ↦ inl (record {
                row = row_with first.0 last.0 names.0 w bytes.0;
                is = record {
                  first = first.1.0;
                  last = last.1.0;
                  some = names.1.some;
                  receivers = names.1.names_are;
                  receiver = name.0;
                  bytes = bytes.1.bytes_are;
                  few = bytes.1.few;
                };
                line_is = spelled_by form line t f l n w d is
                    (row_with first.0 last.0 names.0 w bytes.0)
                    (record {
                      tag = tag;
                      first = first.1.1;
                      last = last.1.1;
                      receivers = names.1.field_is;
                      receiver = refl;
                      frame = bytes.1.digits_are;
                    });
              })
            ]
          ]
        ]
      ]
    ]
  ]

not_six : (form : MomentForm) (line : List ℕ) → ¬ (length (pieces 32 line) ≡ 6)
    → SpelledRow form line ⊎ IsNoRow form line
not_six form line other = inr (λ x h e. six_pieces form x line h other e)

by_fields : (form : MomentForm) (line : List ℕ) (ps : List (List ℕ)) → pieces 32 line ≡ ps
    → SpelledRow form line ⊎ IsNoRow form line
by_fields form line [] is = not_six form line (λ six. omega (arith, ap length is, six))
by_fields form line (a ∷ []) is = not_six form line (λ six. omega (arith, ap length is, six))
by_fields form line (a ∷ b ∷ []) is = not_six form line (λ six. omega (arith, ap length is, six))
by_fields form line (a ∷ b ∷ c ∷ []) is = not_six form line
    (λ six. omega (arith, ap length is, six))
by_fields form line (a ∷ b ∷ c ∷ d ∷ []) is =
    not_six form line (λ six. omega (arith, ap length is, six))
by_fields form line (a ∷ b ∷ c ∷ d ∷ e ∷ []) is =
    not_six form line (λ six. omega (arith, ap length is, six))
by_fields form line (t ∷ f ∷ l ∷ n ∷ w ∷ d ∷ []) is = row_or_none form line t f l n w d is
by_fields form line (a ∷ b ∷ c ∷ d ∷ e ∷ f ∷ g ∷ ps) is =
    not_six form line (λ six. omega (arith, ap length is, six))

-- ---- what a line is judged to be

pub record Judged (stage : Stage) (rows : List Row) (line : List ℕ) : Type 0 where
  pub result : Result Stage BookCause
  pub new : List Row
  pub judged : JudgesLine stage result rows line new
  pub known : result ≢ Err cause.Memory

judged_as : {stage : Stage} {rows : List Row} {line : List ℕ} (r : Result Stage BookCause)
    (new : List Row) → JudgesLine stage r rows line new → r ≢ Err cause.Memory
    → Judged stage rows line
judged_as r new judged known = record { result = r; new = new; judged = judged; known = known }

five : (a b c d e : Bool) → cond a (Some row.Order)
    (cond b (Some row.Span) (cond c (Some row.Near)
    (cond d (Some row.Receivers) (cond e (Some row.NotGreatest) None)))) ≡ Some row.Memory → ⊥
five true b c d e is = absurd cc
five false true c d e is = absurd cc
five false false true d e is = absurd cc
five false false false true e is = absurd cc
five false false false false true is = absurd cc
five false false false false false is = absurd cc

never_memory : (gap : ℕ) (rows : List Row) (x : Row) → refusal gap rows x ≡ Some row.Memory → ⊥
unfolding refusal
never_memory gap rows x is = five (is_refused gap rows x row.Order) (is_refused gap rows x row.Span)
    (is_refused gap rows x row.Near)
    (is_refused gap rows x row.Receivers) (is_refused gap rows x row.NotGreatest) is

-- a line names a gap up to n, or none
gap_or_none : (line : List ℕ) (n : ℕ) → n ≤ greatest_gap
    → ((g : ℕ) × IsGap g × (line ≡ header_of (Three g))) ⊎ ((g : ℕ) → 0 < g → g ≤ n
    → line ≢ header_of (Three g))
gap_or_none line zero h = inr (λ g some few e. absurd (omega (arith, some, few)))
gap_or_none line (suc n) h = elim (gap_or_none line n (omega (arith, h))) [
  | inl found ↦ inl found
  | inr none ↦ elim (one_or_other line (header_of (Three (suc n)))) [
    | inl same ↦ inl (suc n, (omega arith, h), same)
    | inr other ↦ inr (λ g some few e. elim (cases_lt n g) [
      | inl more ↦ let is : g ≡ suc n = omega (arith, more, few) in
          other (e ∙ ap (λ k. header_of (Three k)) is)
      | inr less ↦ none g some (omega (arith, less)) e
    ])
  ]
]

judge_header : (rows : List Row) (line : List ℕ) → Judged Header rows line
judge_header rows line = elim (one_or_other line (header_of One)) [
  | inl same ↦ judged_as (Ok (Rows One)) rows (standard_range, same, refl) (λ e. absurd cc)
  | inr first ↦ elim (one_or_other line (header_of Two)) [
    | inl same ↦ judged_as (Ok (Rows Two)) rows (standard_range, same, refl) (λ e. absurd cc)
    | inr second ↦ elim (gap_or_none line greatest_gap (omega arith)) [
      | inl third ↦
          judged_as (Ok (Rows (Three third.0))) rows (third.1, third.2, refl) (λ e. absurd cc)
      | inr none ↦ judged_as (Err cause.Header) rows
          ((no_header line first second (λ g is. none g is.0 is.1), refl), refl) (λ e. absurd cc)
    ]
  ]
]

module _ (v : Version) (rows : List Row) (line : List ℕ) (s : SpelledRow (form_of v) line) where
  -- the row is refused, for this reason
  refused : (why : RowCause) → refusal (millis_of (gap_of v)) rows s.row ≡ Some why
      → IsBookRow (form_of v) s.row
      → SpellsRefusedRow (millis_of (gap_of v)) (form_of v) rows line why
  refused why e is = record { row = s.row; is = is; spelled = s.line_is; refused = e }

  judge_why : (why : RowCause) → refusal (millis_of (gap_of v)) rows s.row ≡ Some why
      → IsBookRow (form_of v) s.row → Judged (Rows v) rows line
  judge_why row.Order e is =
      judged_as (Err cause.Order) rows (inr (refused row.Order e is), refl) (λ f. absurd cc)
  judge_why row.Span e is =
      judged_as (Err cause.Span) rows (inr (refused row.Span e is), refl) (λ f. absurd cc)
  judge_why row.Near e is =
      judged_as (Err cause.Near) rows (inr (refused row.Near e is), refl) (λ f. absurd cc)
  judge_why row.Receivers e is =
      judged_as (Err cause.Receivers) rows (inr (refused row.Receivers e is), refl) (λ f. absurd cc)
  judge_why row.NotGreatest e is =
      judged_as (Err cause.NotGreatest) rows (inr (refused row.NotGreatest e is), refl)
      (λ f. absurd cc)
  judge_why row.Memory e is = absurd (never_memory (millis_of (gap_of v)) rows s.row e)

  judge_row : (o : Option RowCause) → refusal (millis_of (gap_of v)) rows s.row ≡ o
      → IsBookRow (form_of v) s.row → Judged (Rows v) rows line
  judge_row None e is =
      judged_as (Ok (Rows v)) (rows ++ s.row ∷ []) (refl, s.row, is, s.line_is, refl, e)
      (λ f. absurd cc)
  judge_row (Some why) e is = judge_why why e is

  judge_frame : (r : Result (List ℕ) FrameFault)
      → frame_or_fault s.row.greatest.frame ≡ r → Judged (Rows v) rows line
  judge_frame (Err fault) e = judged_as (Err cause.Frame) rows (
    inr (record {
      row = s.row;
      is = s.is;
      spelled = s.line_is;
      refused = λ u. absurd (let x : Err fault ≡ Ok s.row.greatest.frame = sym e
          ∙ is-frame_of s.row.greatest.frame u in cc);
    }),
    refl,
  ) (λ f. absurd cc)
  judge_frame (Ok b) e =
      judge_row (refusal (millis_of (gap_of v)) rows s.row) refl
      (record { spelled = s.is; frame = frame_of-is s.row.greatest.frame b e })

judge_row_line : (v : Version) (rows : List Row) (line : List ℕ) → Judged (Rows v) rows line
judge_row_line v rows line = by (is_end line) refl where
  by : (b : Bool) → is_end line ≡ b → Judged (Rows v) rows line
  by true e = elim (one_or_other line (end_line (length rows))) [
    | inl same ↦ judged_as (Ok (Done v)) rows (refl, same, refl) (λ f. absurd cc)
    | inr other ↦ judged_as (Err cause.Ending) rows (inr (e, other), refl) (λ f. absurd cc)
  ]
  by false e = elim (by_fields (form_of v) line (pieces 32 line) refl) [
    | inl s ↦ judge_frame v rows line s (frame_or_fault s.row.greatest.frame) refl
    | inr none ↦ judged_as (Err cause.RowSyntax) rows (inr (e, none), refl) (λ f. absurd cc)
  ]

judge_line : (stage : Stage) (rows : List Row) (line : List ℕ) → Judged stage rows line
judge_line Header rows line = judge_header rows line
judge_line (Rows v) rows line = judge_row_line v rows line
judge_line (Done v) rows line = judged_as (Err cause.After) rows (refl, refl) (λ f. absurd cc)

-- ---- a text, line by line

record CutsLine (text : List ℕ) : Type 0 where
  line : List ℕ
  more : List ℕ
  is : text ≡ line ++ 10 ∷ more
  one : Lacks 10 line

cut_text : (text : List ℕ) → Lacks 10 text ⊎ CutsLine text
cut_text [] = inl tt
cut_text (b ∷ text) = by (cut_text text) (is_byte 10 b) refl where
  by : Lacks 10 text ⊎ CutsLine text → (t : Bool) → is_byte 10 b ≡ t
      → Lacks 10 (b ∷ text) ⊎ CutsLine (b ∷ text)
  by others true e = inr (record {
    line = [];
    more = text;
    is = ap (λ n. n ∷ text) (grind (arith, e));
    one = tt;
  })
  by others false e = elim others [
    | inl lacks ↦ inl (e, lacks)
    | inr c ↦ inr (record {
      line = b ∷ c.line;
      more = c.more;
      is = ap (λ l. b ∷ l) c.is;
      one = (e, c.one);
    })
  ]

-- it is a book's, or has a first fault
pub record HasFault (text : List ℕ) (e : InputEnd) : Type 0 where
  pub fault : BookFault
  pub first : FirstFault text e fault

abbrev pub Found : List ℕ → InputEnd → Type 0
Found text e = IsBookText text e ⊎ HasFault text e

-- the text ends in this line
at_end : (stage : Stage) (rows : List Row) (line t : List ℕ) (e : InputEnd)
    → HasReadLines stage rows line t → Found t e
at_end stage rows line t e s = by (may_end stage e) refl where
  by : (b : Bool) → may_end stage e ≡ b → Found t e
  by true may = let r = ended_whole stage rows line t e may s in
      inl (record {
        version = r.version;
        rows = rows;
        is = r.is;
        text_is = r.text_is;
        ended = r.ended;
      })
  by false may = inr (record { fault = _; first = cut_fault stage rows line t e may s })

-- of a line that goes on
goes_on : (stage : Stage) (rows : List Row) (line t : List ℕ) → (is_done stage ≡ true → ⊥)
    → Lacks 10 line → HasReadLines stage rows [] t → HasReadLines stage rows line (t ++ line)
goes_on stage rows line t going one s = held_stands stage rows [] t line
    (undone (is_done stage) going) one s where
      undone : (b : Bool) → (b ≡ true → ⊥) → b ≡ false
      undone true h = absurd (h refl)
      undone false h = refl

after_last : (v : Version) (rows : List Row) (rest t : List ℕ) (e : InputEnd) → 0 < length rest
    → HasReadLines (Done v) rows [] t → HasFault (t ++ rest) e
after_last v rows rest t e some s = record {
  fault = record { line = length (lines_of v rows) + 1; cause = cause.After };
  first = record {
    lines = lines_of v rows;
    rest = rest;
    whole = ap (λ l. l ++ rest) (s.text_is ∙ append-nil (book_text v rows));
    line = refl;
    fault = inr (inr (record {
      version = v;
      rows = rows;
      sound = s.holds.0;
      read = refl;
      fault = inl (some, refl);
    }));
  };
}

abbrev FoundAfter : InputEnd → List ℕ → Type 0
FoundAfter e rest = (stage : Stage) (rows : List Row) (t : List ℕ) → HasReadLines stage rows [] t
    → Found (t ++ rest) e

-- one line more, and then what is found after it
step : (e : InputEnd) (rest : List ℕ) (stage : Stage) (rows : List Row) (t : List ℕ)
    → (is_done stage ≡ true → ⊥) → HasReadLines stage rows [] t
    → ((more : List ℕ) → length more < length rest → FoundAfter e more) → Found (t ++ rest) e
step e rest stage rows t going s next = elim (cut_text rest) [
  | inl lacks ↦ at_end stage rows rest (t ++ rest) e (goes_on stage rows rest t going lacks s)
  | inr c ↦ by c (goes_on stage rows c.line t going c.one s) (judge_line stage rows c.line)
] where
  text_is : (c : CutsLine rest) → (t ++ c.line) ++ 10 ∷ c.more ≡ t ++ rest
  text_is c = append_assoc t c.line (10 ∷ c.more) ∙ ap (λ l. t ++ l) (sym c.is)

  shorter : (c : CutsLine rest) → length c.more < length rest
  shorter c = let l = length-append c.line (10 ∷ c.more) in omega (arith, l, ap length c.is)

  whole : (c : CutsLine rest) (r : Result Stage BookCause) (new : List Row)
      → HasReadLines stage rows c.line (t ++ c.line) → JudgesLine stage r rows c.line new
      → r ≢ Err cause.Memory → Found (t ++ rest) e
  whole c (Ok after) new stands judged known =
      subst (λ l. Found l e) (append_assoc (t ++ c.line) (10 ∷ []) c.more ∙ text_is c)
      (next c.more (shorter c) after new ((t ++ c.line) ++ 10 ∷ [])
      (ended_stands stage after rows new c.line (t ++ c.line) judged stands))
  whole c (Err k) new stands judged known = elim
      (ended_fault stage rows new c.line (t ++ c.line) c.more k judged stands) [
        | inl m ↦ absurd (known (ap (λ (x : BookCause). Err x) m.refused))
        | inr first ↦ inr (record {
          fault = record { line = line_number stage (length new); cause = k };
          first = subst (λ l. FirstFault l e
              (record { line = line_number stage (length new); cause = k }))
              (text_is c) (first e);
        })
      ]

  by : (c : CutsLine rest) → HasReadLines stage rows c.line (t ++ c.line) → Judged stage rows c.line
      → Found (t ++ rest) e
  by c stands j = whole c j.result j.new stands j.judged j.known

run : (n : ℕ) (e : InputEnd) (rest : List ℕ) → length rest ≤ n → FoundAfter e rest
run n e rest fits (Done v) rows t s = elim (cases_lt 0 (length rest)) [
  | inl some ↦ inr (after_last v rows rest t e some s)
  | inr none ↦ subst (λ l. Found (t ++ l) e) (sym (nil_from_length rest (omega (arith, none))))
      (at_end (Done v) rows [] (t ++ []) e (subst (λ l. HasReadLines (Done v) rows [] l)
      (sym (append-nil t)) s))
]
run zero e rest fits Header rows t s = step e rest Header rows t
    (λ done. absurd (let f : false ≡ true = done in cc)) s
    (λ more less. absurd (omega (arith, less, fits)))
run zero e rest fits (Rows v) rows t s = step e rest (Rows v) rows t
    (λ done. absurd (let f : false ≡ true = done in cc)) s
    (λ more less. absurd (omega (arith, less, fits)))
run (suc n) e rest fits Header rows t s = step e rest Header rows t
    (λ done. absurd (let f : false ≡ true = done in cc)) s
    (λ more less. run n e more (omega (arith, less, fits)))
run (suc n) e rest fits (Rows v) rows t s = step e rest (Rows v) rows t
    (λ done. absurd (let f : false ≡ true = done in cc)) s
    (λ more less. run n e more (omega (arith, less, fits)))

found : (text : List ℕ) (e : InputEnd) → Found text e
found text e = run (length text) e text (omega arith) Header [] []
    (record { text_is = refl; one = tt; holds = refl })

pub book_or_fault : (text : List ℕ) (e : InputEnd)
    → IsBookText text e ⊎ ((f : BookFault) × FirstFault text e f)
book_or_fault text e = elim (found text e) [
  | inl whole ↦ inl whole
  | inr has ↦ inr (has.fault, has.first)
]
