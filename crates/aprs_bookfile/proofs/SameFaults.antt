-- A text's fault is its first, as it is found, or Memory.
use Rattle.aprs_bookfile.proofs.Common.{◌≡◌, ◌∙◌, ℕ, ◌<◌, ◌≤◌, false, true, List, [], ◌∷◌, ◌++◌, ◌⊎◌, inl, inr, length, refl, sym, ap, subst, append-nil, arith, ◌≢◌, All-nil, All-cons, All-head, All-tail, nat_tests, is_byte, InputEnd, HasNoLf, text_of_lines, millis_of, Row}
use Rattle.aprs_io.specs.declared.input.InputEnd.TheVariants as how
use Rattle.aprs_bookfile.specs.Fault.{ending_cause}
use Rattle.aprs_bookfile.specs.FirstFault.{EndFault, RestIsAtFault, FirstFault, HeaderFault, IsMemoryAt, LineFault}
use Rattle.aprs_io.specs.Cut.{Lacks}
use Rattle.aprs_bookfile.specs.TextFault.{AreBook, AreOfRows, BeginBook, EndsLine, HasBookFault, IsWrong, IsWrongRest, most_ahead, StopsIn}
use Rattle.aprs_bookfile.specs.Version.{form_of, gap_of, header_of, IsVersion}
use Rattle.aprs_bookfile.specs.declared.fault.BookCause.{BookCause}
use Rattle.aprs_bookfile.specs.declared.fault.BookCause.TheVariants as why
use Rattle.aprs_bookfile.specs.declared.fault.BookFault.{BookFault}
use Rattle.aprs_bookfile.specs.declared.version.Version.{Version}

-- ---- bytes without LF

differs : (b : ℕ) → is_byte 10 b ≡ false → b ≢ 10
differs b h e = let bad : true ≡ false = subst (λ c. is_byte 10 c ≡ false) e h in absurd cc

no_byte : (b : ℕ) → b ≢ 10 → is_byte 10 b ≡ false
no_byte b h = grind (arith, nat_tests, h)

pub has_none : (l : List ℕ) → Lacks 10 l → HasNoLf l
has_none [] h = All-nil (λ b. b ≢ 10)
has_none (b ∷ l) h = All-cons (λ b. b ≢ 10) b l (differs b h.0) (has_none l h.1)

pub lacks : (l : List ℕ) → HasNoLf l → Lacks 10 l
lacks [] h = tt
lacks (b ∷ l) h =
    (no_byte b (All-head (λ b. b ≢ 10) b l h), lacks l (All-tail (λ b. b ≢ 10) b l h))

-- ---- from the first fault

-- a cut has this cause
stops : (lines : List (List ℕ)) (line : List ℕ) (e : InputEnd) → BeginBook lines
    → IsWrongRest lines line [] e (ending_cause e)
stops lines line how.End b = inl (refl, b, refl, refl)
stops lines line how.Read b = ((refl, inl b), refl)
stops lines line how.TooLong b = ((refl, inl b), refl)

stops_after : (lines : List (List ℕ)) (e : InputEnd) → AreBook lines → e ≢ how.End
    → IsWrongRest lines [] [] e (ending_cause e)
stops_after lines how.End b not_end = absurd (not_end refl)
stops_after lines how.Read b not_end = ((refl, inr (b, refl)), refl)
stops_after lines how.TooLong b not_end = ((refl, inr (b, refl)), refl)

module _ (lines : List (List ℕ)) (line more : List ℕ) (e : InputEnd) where
  -- a wrong line after those of rows
  at_row : (v : Version) (rows : List Row) → AreOfRows v rows lines → (c : BookCause)
      → IsWrong (millis_of (gap_of v)) (form_of v) rows line c
      → IsWrongRest lines line (10 ∷ more) e c
  at_row v rows are why.Ending w = inr (v, rows, are, (more, refl), w)
  at_row v rows are why.RowSyntax w = inr (v, rows, are, (more, refl), w)
  at_row v rows are why.Frame w = inr (v, rows, are, (more, refl), w)
  at_row v rows are why.Order w = inr (v, rows, are, (more, refl), w)
  at_row v rows are why.Span w = inr (v, rows, are, (more, refl), w)
  at_row v rows are why.Near w = inr (v, rows, are, (more, refl), w)
  at_row v rows are why.Receivers w = inr (v, rows, are, (more, refl), w)
  at_row v rows are why.NotGreatest w = inr (v, rows, are, (more, refl), w)
  at_row v rows are why.Header w = absurd w
  at_row v rows are why.After w = absurd w
  at_row v rows are why.Read w = absurd w
  at_row v rows are why.TooLong w = absurd w
  at_row v rows are why.Memory w = absurd w

module _ (text : List ℕ) (e : InputEnd) (fault : BookFault) (h : FirstFault text e fault) where
  has : (line more : List ℕ) → h.rest ≡ line ++ more → Lacks 10 line
      → IsWrongRest h.lines line more e fault.cause → HasBookFault text e fault
  has line more is one wrong = record {
    lines = h.lines;
    line = line;
    more = more;
    text_is = h.whole ∙ ap (λ r. text_of_lines h.lines ++ r) is;
    one = has_none line one;
    number = h.line;
    wrong = wrong;
  }

  cut : BeginBook h.lines → Lacks 10 h.rest → fault.cause ≡ ending_cause e
      → HasBookFault text e fault
  cut begins one is = has h.rest [] (sym (append-nil h.rest)) one
      (subst (IsWrongRest h.lines h.rest [] e) (sym is) (stops h.lines h.rest e begins))

  at_start : h.lines ≡ [] → HeaderFault h.rest e fault.cause → HasBookFault text e fault
  at_start none (inl c) = cut (inl none) c.0 c.1
  at_start none (inr w) = has w.line (10 ∷ w.more) w.is w.one
      (subst (IsWrongRest h.lines w.line (10 ∷ w.more) e) (sym w.holds.1)
      (none, w.holds.0, (w.more, refl)))

  among : (v : Version) (rows : List Row) → AreOfRows v rows h.lines
      → LineFault v rows h.rest e fault.cause → HasBookFault text e fault
  among v rows are (inl c) = cut (inr (v, rows, are)) c.0 c.1
  among v rows are (inr w) = has w.line (10 ∷ w.more) w.is w.one
      (at_row h.lines w.line w.more e v rows are fault.cause w.holds)

  past : AreBook h.lines → EndFault h.rest e fault.cause → HasBookFault text e fault
  past book (inl after) = has [] h.rest refl tt
      (subst (IsWrongRest h.lines [] h.rest e) (sym after.1)
      (book, λ none. (let l = ap length none in omega (arith, l, after.0))))
  past book (inr end) = has [] [] end.0 tt
      (subst (IsWrongRest h.lines [] [] e) (sym end.2) (stops_after h.lines e book end.1))

  -- a first fault is a text's fault
  pub first_is : HasBookFault text e fault
  first_is = elim h.fault [
    | inl start ↦ at_start start.none_read start.fault
    | inr k ↦ elim k [
      | inl a ↦ among a.version a.rows (record { rows_are = a.sound; lines_are = a.read }) a.fault
      | inr p ↦ past (p.version, p.rows, p.sound, p.read) p.fault
    ]
  ]

pub memory_is : (text : List ℕ) (e : InputEnd) (fault : BookFault)
    → IsMemoryAt most_ahead text fault → HasBookFault text e fault
memory_is text e fault m = record {
  lines = m.lines;
  line = m.line;
  more = m.more;
  text_is = m.whole;
  one = has_none m.line m.one;
  number = m.number;
  wrong = subst (IsWrongRest m.lines m.line m.more e) (sym m.refused) (m.begins, m.near);
}

-- ---- to the first fault

module _ (lines : List (List ℕ)) (line more : List ℕ) (e : InputEnd) (one : Lacks 10 line) where
  all_of : more ≡ [] → line ++ more ≡ line
  all_of none = ap (λ m. line ++ m) none ∙ append-nil line

  -- the text stops in a line
  cut_after : (c : BookCause) → BeginBook lines → more ≡ [] → c ≡ ending_cause e
      → RestIsAtFault lines (line ++ more) e c
  cut_after c (inl none) no_more is =
      inl (record {
        none_read = none;
        fault = inl (subst (Lacks 10) (sym (all_of no_more)) one, is);
      })
  cut_after c (inr b) no_more is = inr (inl (record {
    version = b.0;
    rows = b.1;
    sound = b.2.rows_are;
    read = b.2.lines_are;
    fault = inl (subst (Lacks 10) (sym (all_of no_more)) one, is);
  }))

  stopped : (c : BookCause) → StopsIn lines line more → c ≡ ending_cause e → e ≢ how.End
      → RestIsAtFault lines (line ++ more) e c
  stopped c (no_more, inl begins) is not_end = cut_after c begins no_more is
  stopped c (no_more, inr book) is not_end = inr (inr (record {
    version = book.0.0;
    rows = book.0.1;
    sound = book.0.2;
    read = book.0.3;
    fault = inr (all_of no_more ∙ book.1, not_end, is);
  }))

  header_after : (lines ≡ []) × ((v : Version) → IsVersion v → line ≢ header_of v) × EndsLine more
      → RestIsAtFault lines (line ++ more) e why.Header
  header_after h = inl (record {
    none_read = h.0;
    fault = inr (record {
      line = line;
      more = h.2.0;
      is = ap (λ m. line ++ m) h.2.1;
      one = one;
      holds = (h.1, refl);
    });
  })

  past_book : AreBook lines → line ++ more ≢ [] → RestIsAtFault lines (line ++ more) e why.After
  past_book b some = inr (inr (record {
    version = b.0;
    rows = b.1;
    sound = b.2;
    read = b.3;
    fault = inl (is_some (line ++ more) some, refl);
  })) where
    is_some : (rest : List ℕ) → rest ≢ [] → 0 < length rest
    is_some [] h = absurd (h refl)
    is_some (b ∷ rest) h = omega arith

  -- the text stops in a line, or a line can't come after rows
  other : (c : BookCause) → ((c ≡ why.Ending) × BeginBook lines × (more ≡ []) × (e ≡ how.End))
      ⊎ ((v : Version) × (rows : List Row) × AreOfRows v rows lines × EndsLine more
      × IsWrong (millis_of (gap_of v)) (form_of v) rows line c)
      → RestIsAtFault lines (line ++ more) e c
  other c (inl h) = cut_after c h.1 h.2 (h.0 ∙ sym (ap ending_cause h.3))
  other c (inr h) = inr (inl (record {
    version = h.0;
    rows = h.1;
    sound = h.2.rows_are;
    read = h.2.lines_are;
    fault = inr (record {
      line = line;
      more = h.3.0;
      is = ap (λ m. line ++ m) h.3.1;
      one = one;
      holds = h.4;
    });
  }))

  abbrev IsMemory : BookCause → Type 0
  IsMemory c = (c ≡ why.Memory) × BeginBook lines × (length more ≤ most_ahead)

  fault_after : (c : BookCause) → IsWrongRest lines line more e c
      → IsMemory c ⊎ RestIsAtFault lines (line ++ more) e c
  fault_after why.Header w = inr (header_after w)
  fault_after why.After w = inr (past_book w.0 w.1)
  fault_after why.Read w = inr (stopped why.Read w.0 (sym (ap ending_cause w.1))
      (λ end. (let bad : how.Read ≡ how.End = sym w.1 ∙ end in cc)))
  fault_after why.TooLong w = inr (stopped why.TooLong w.0 (sym (ap ending_cause w.1))
      (λ end. (let bad : how.TooLong ≡ how.End = sym w.1 ∙ end in cc)))
  fault_after why.Memory w = inl (refl, w.0, w.1)
  fault_after why.Ending w = inr (other why.Ending w)
  fault_after why.RowSyntax w = inr (other why.RowSyntax w)
  fault_after why.Frame w = inr (other why.Frame w)
  fault_after why.Order w = inr (other why.Order w)
  fault_after why.Span w = inr (other why.Span w)
  fault_after why.Near w = inr (other why.Near w)
  fault_after why.Receivers w = inr (other why.Receivers w)
  fault_after why.NotGreatest w = inr (other why.NotGreatest w)

-- a text's fault is Memory, or the first
pub memory_or_first : (text : List ℕ) (e : InputEnd) (fault : BookFault)
    → HasBookFault text e fault → IsMemoryAt most_ahead text fault ⊎ FirstFault text e fault
memory_or_first text e fault h =
    let one = lacks h.line h.one in
    elim (fault_after h.lines h.line h.more e one fault.cause h.wrong) [
      | inl m ↦ inl (record {
        refused = m.0;
        lines = h.lines;
        line = h.line;
        more = h.more;
        whole = h.text_is;
        one = one;
        near = m.2;
        begins = m.1;
        number = h.number;
      })
      | inr after ↦ inr (record {
        lines = h.lines;
        rest = h.line ++ h.more;
        whole = h.text_is;
        line = h.number;
        fault = after;
      })
    ]

pub first_of : (text : List ℕ) (e : InputEnd) (fault : BookFault) → HasBookFault text e fault
    → fault.cause ≢ why.Memory → FirstFault text e fault
first_of text e fault h other = elim (memory_or_first text e fault h) [
  | inl m ↦ absurd (other m.refused)
  | inr first ↦ first
]

ending_other : (e : InputEnd) → ending_cause e ≡ why.Memory → ⊥
ending_other how.End h = cc
ending_other how.Read h = cc
ending_other how.TooLong h = cc

-- a first fault isn't Memory
not_memory : (lines : List (List ℕ)) (rest : List ℕ) (e : InputEnd) (c : BookCause)
    → RestIsAtFault lines rest e c → c ≢ why.Memory
not_memory lines rest e c (inl start) is = header start.fault where
  header : HeaderFault rest e c → ⊥
  header (inl k) = ending_other e (sym k.1 ∙ is)
  header (inr w) = let bad : why.Header ≡ why.Memory = sym w.holds.1 ∙ is in cc
not_memory lines rest e c (inr (inl a)) is = among a.fault where
  among : LineFault a.version a.rows rest e c → ⊥
  among (inl k) = ending_other e (sym k.1 ∙ is)
  among (inr w) = subst
      (IsWrong (millis_of (gap_of a.version)) (form_of a.version) a.rows w.line) is w.holds
not_memory lines rest e c (inr (inr p)) is = past p.fault where
  past : EndFault rest e c → ⊥
  past (inl k) = let bad : why.After ≡ why.Memory = sym k.1 ∙ is in cc
  past (inr k) = ending_other e (sym k.2 ∙ is)

pub first_other : (text : List ℕ) (e : InputEnd) (fault : BookFault) → FirstFault text e fault
    → fault.cause ≢ why.Memory
first_other text e fault h = not_memory h.lines h.rest e fault.cause h.fault
