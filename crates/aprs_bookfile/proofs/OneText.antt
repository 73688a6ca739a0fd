-- The text of a book's rows is that of no others, and has no fault but that it may be cut short.
use Rattle.aprs_bookfile.proofs.Common.{◌≡◌, ℕ, ◌+◌, ◌^◌, ◌<◌, true, false, eqb, List, [], ◌∷◌, ◌++◌, length, get_or, map, Some, None, Ok, inl, inr, refl, sym, ap, ◌∙◌, subst, append_assoc, append-nil, length-append, arith, ◌≢◌, All, codes, join_with_byte, All-head, All-tail, false≢true, nil_from_length, flat_map-append, encode_lower, decode_of, decode_of-encode_lower, IsUiFrame, IsWritable, moment_in, MomentForm, InputEnd, BookValue, millis_of, Row, last_moment, Sound, row_with, RowCause, none_exactly, text_of_lines}
use Rattle.aprs_log.specs.Moment.{moment_text_in}
use Rattle.aprs_rows.specs.Refusal.{refusal}
use Rattle.aprs_io.specs.declared.input.InputEnd.TheVariants as ending
use Rattle.aprs_transmissions.proofs.Pushes.{sound_prefix}
use Rattle.aprs_bookfile.specs.FirstFault.{EndFault, RestIsAtFault, FirstFault, HasLine, HeaderFault, IsCut, LineFault}
use Rattle.aprs_bookfile.specs.TextFault.{SpellsRefusedRow, IsWrong}
use Rattle.aprs_bookfile.specs.Lines.{pieces}
use Rattle.aprs_io.specs.Cut.{Lacks}
use Rattle.aprs_bookfile.specs.Text.{fields_of, row_line, end_line, book_text, IsSpelled, IsBookRow, IsBookRows, written_text, written_version}
use Rattle.aprs_bookfile.specs.RowLines.{ended_by_lf}
use Rattle.aprs_bookfile.specs.Fault.{ending_cause}
use Rattle.aprs_bookfile.specs.Version.{form_of, gap_of, header_of, IsVersion}
use Rattle.aprs_bookfile.specs.declared.fault.BookCause.{BookCause}
use Rattle.aprs_bookfile.specs.declared.fault.BookCause.TheVariants as cause
use Rattle.aprs_bookfile.specs.declared.fault.BookFault.{BookFault}
use Rattle.aprs_bookfile.specs.declared.version.Version.{Version}
use Rattle.aprs_bookfile.proofs.Cuts.{lacks_joined}
use Rattle.aprs_bookfile.proofs.Versions.{decimal_lacks, header_lacks, headers_differ}
use Rattle.aprs_bookfile.proofs.Spellings.{moment_read, names_pieces, row_fields_lack, row_pieces}
use Rattle.aprs_bookfile.proofs.BookRows.{rows_sound}

-- ---- lines

byte_is : (c : ℕ) → eqb c c ≡ true
byte_is c = grind arith

-- a text that begins with a line has one
pub has_line : (c : ℕ) (a b : List ℕ) → Lacks c (a ++ c ∷ b) → ⊥
has_line c [] b h = let f : false ≡ true = sym h.0 ∙ byte_is c in absurd cc
has_line c (x ∷ a) b h = has_line c a b h.1

-- one text has one first line
pub same_line : (c : ℕ) (a b x y : List ℕ) → Lacks c a → Lacks c x → a ++ c ∷ b ≡ x ++ c ∷ y
    → (a ≡ x) × (b ≡ y)
same_line c [] b [] y h k e = (refl, cc)
same_line c [] b (z ∷ x) y h k e =
    let is : c ≡ z = cc in
    let f : false ≡ true = sym k.0 ∙ ap (λ n. eqb n c) (sym is) ∙ byte_is c in
    absurd cc
same_line c (z ∷ a) b [] y h k e =
    let is : z ≡ c = cc in
    let f : false ≡ true = sym h.0 ∙ ap (λ n. eqb n c) is ∙ byte_is c in
    absurd cc
same_line c (z ∷ a) b (w ∷ x) y h k e =
    let head : z ≡ w = cc in
    let tail : a ++ c ∷ b ≡ x ++ c ∷ y = cc in
    let t = same_line c a b x y h.1 k.1 tail in
    (ap (λ n. n ∷ a) head ∙ ap (λ l. w ∷ l) t.0, t.1)

pub line_first : (line : List ℕ) (ls : List (List ℕ)) (rest : List ℕ)
    → text_of_lines (line ∷ ls) ++ rest ≡ line ++ 10 ∷ (text_of_lines ls ++ rest)
line_first line ls rest = ap (λ l. l ++ rest) (append_assoc line (10 ∷ []) (text_of_lines ls))
    ∙ append_assoc line (10 ∷ text_of_lines ls) rest

-- ---- no line of a row or of a number has an LF

pub row_lacks : (form : MomentForm) (x : Row) → IsSpelled form x → Lacks 10 (row_line form x)
row_lacks form x h = lacks_joined 10 32 (fields_of form x) refl
    (row_fields_lack form 10 x (omega arith) h)

-- ---- a line is that of one row

same_moment : (form : MomentForm) (m n : ℕ) → IsWritable form m → IsWritable form n
    → moment_text_in form m ≡ moment_text_in form n → m ≡ n
same_moment form m n h k e =
    let some : Some m ≡ Some n = sym (moment_read form m h) ∙ ap (moment_in form) e
    ∙ moment_read form n k in
    cc

pub same_row : (form : MomentForm) (x y : Row) → IsSpelled form x → IsSpelled form y
    → row_line form x ≡ row_line form y → x ≡ y
same_row form x y h k e =
    let lists : codes "T" ∷ moment_text_in form x.first ∷ moment_text_in form (last_moment x)
    ∷ join_with_byte 44 x.receivers ∷ x.greatest.receiver ∷ encode_lower x.greatest.frame ∷ []
    ≡ codes "T" ∷ moment_text_in form y.first ∷ moment_text_in form (last_moment y)
    ∷ join_with_byte 44 y.receivers ∷ y.greatest.receiver ∷ encode_lower y.greatest.frame ∷ []
    = sym (row_pieces form x h) ∙ ap (pieces 32) e ∙ row_pieces form y k in
    let first_text : moment_text_in form x.first ≡ moment_text_in form y.first = cc in
    let last_text : moment_text_in form (last_moment x) ≡ moment_text_in form (last_moment y) = cc in
    let names_text : join_with_byte 44 x.receivers ≡ join_with_byte 44 y.receivers = cc in
    let who : x.greatest.receiver ≡ y.greatest.receiver = cc in
    let digits : encode_lower x.greatest.frame ≡ encode_lower y.greatest.frame = cc in
    let first = same_moment form x.first y.first h.first k.first first_text in
    let last = same_moment form (last_moment x) (last_moment y) h.last k.last last_text in
    let names = sym (names_pieces x.receivers h.some h.receivers) ∙ ap (pieces 44) names_text
    ∙ names_pieces y.receivers k.some k.receivers in
    let read : Ok x.greatest.frame ≡ Ok y.greatest.frame =
    sym (decode_of-encode_lower x.greatest.frame h.bytes) ∙ ap decode_of digits
    ∙ decode_of-encode_lower y.greatest.frame k.bytes in
    let frame : x.greatest.frame ≡ y.greatest.frame = cc in
    ap (λ m. row_with m (last_moment x) x.receivers x.greatest.receiver x.greatest.frame) first
    ∙ ap (λ m. row_with y.first m x.receivers x.greatest.receiver x.greatest.frame) last
    ∙ ap (λ r. row_with y.first (last_moment y) r x.greatest.receiver x.greatest.frame) names
    ∙ ap (λ r. row_with y.first (last_moment y) y.receivers r x.greatest.frame) who
    ∙ ap (λ b. row_with y.first (last_moment y) y.receivers y.greatest.receiver b) frame

-- ---- the last line

pub end_lacks : (n : ℕ) → n < 2 ^ 64 → Lacks 10 (end_line n)
end_lacks n h = (refl, (refl, (refl, (refl, decimal_lacks n h))))

-- it is no row's
end_or_row : (form : MomentForm) (n : ℕ) (x : Row) (a b : List ℕ)
    → end_line n ++ a ≡ row_line form x ++ b → ⊥
end_or_row form n x a b e = let f : 69 ≡ 84 = ap (λ l. get_or l 0 0) e in omega (arith, f)

pub end_is_row : (form : MomentForm) (n : ℕ) (x : Row) → end_line n ≡ row_line form x → ⊥
end_is_row form n x e = let f : 69 ≡ 84 = ap (λ l. get_or l 0 0) e in omega (arith, f)

-- ---- the lines of rows, and then the last

abbrev pub row_lines : MomentForm → List Row → ℕ → List ℕ
row_lines form rows n = text_of_lines (map (row_line form) rows ++ end_line n ∷ [])

-- b's rows come first
pub record Begins (form : MomentForm) (a b : List Row) (n : ℕ) (rest : List ℕ) : Type 0 where
  pub more : List Row
  pub rows : a ≡ b ++ more
  pub text : rest ≡ row_lines form more n

row_lines_cons : (form : MomentForm) (x : Row) (a : List Row) (n : ℕ)
    → row_lines form (x ∷ a) n ≡ row_line form x ++ 10 ∷ row_lines form a n
row_lines_cons form x a n = append_assoc (row_line form x) (10 ∷ []) (row_lines form a n)

row_lines_nil : (form : MomentForm) (n : ℕ) → row_lines form [] n ≡ end_line n ++ 10 ∷ []
row_lines_nil form n = append-nil (ended_by_lf (end_line n))

peel : (form : MomentForm) (a b : List Row) (n : ℕ) (rest : List ℕ) → All (IsBookRow form) a
    → All (IsBookRow form) b → row_lines form a n ≡ text_of_lines (map (row_line form) b) ++ rest
    → Begins form a b n rest
peel form a [] n rest h k e = record { more = a; rows = refl; text = sym e }
peel form [] (y ∷ b) n rest h k e =
    absurd (end_or_row form n y (10 ∷ []) (10 ∷ (text_of_lines (map (row_line form) b) ++ rest))
    (sym (row_lines_nil form n) ∙ e ∙ line_first (row_line form y)
    (map (row_line form) b) rest))
peel form (x ∷ a) (y ∷ b) n rest h k e =
    let hx = All-head (IsBookRow form) x a h in
    let ky = All-head (IsBookRow form) y b k in
    let whole : row_line form x ++ 10 ∷ row_lines form a n ≡ row_line form y ++ 10
    ∷ (text_of_lines (map (row_line form) b) ++ rest)
    = sym (row_lines_cons form x a n) ∙ e ∙ line_first (row_line form y)
    (map (row_line form) b) rest in
    let s = same_line 10 _ _ _ _ (row_lacks form x hx.spelled)
    (row_lacks form y ky.spelled) whole in
    let same = same_row form x y hx.spelled ky.spelled s.0 in
    let p = peel form a b n rest (All-tail (IsBookRow form) x a h)
    (All-tail (IsBookRow form) y b k) s.1 in
    record { more = p.more; rows = ap (λ z. z ∷ a) same ∙ ap (λ l. y ∷ l) p.rows; text = p.text }

book_first : (v : Version) (rows : List Row) → book_text v rows ≡ header_of v ++ 10
    ∷ row_lines (form_of v) rows (length rows)
book_first v rows = append_assoc (header_of v) (10 ∷ []) (row_lines (form_of v) rows (length rows))

-- after the header and some rows' lines
begun : (v w : Version) (a b : List Row) (rest : List ℕ) → IsBookRows v a → IsBookRows w b
    → book_text v a ≡ text_of_lines (header_of w ∷ map (row_line (form_of w)) b) ++ rest
    → (w ≡ v) × Begins (form_of v) a b (length a) rest
begun v w a b rest h k e =
    let whole : header_of v ++ 10 ∷ row_lines (form_of v) a (length a) ≡ header_of w ++ 10
    ∷ (text_of_lines (map (row_line (form_of w)) b) ++ rest)
    = sym (book_first v a) ∙ e ∙ line_first (header_of w) (map (row_line (form_of w)) b) rest in
    let s = same_line 10 (header_of v) _ (header_of w) _ (header_lacks v h.version)
    (header_lacks w k.version) whole in
    let same : w ≡ v = sym (headers_differ v w h.version k.version s.0) in (
      same,
      peel (form_of v) a b (length a) rest h.each
          (subst (λ (u : Version). All (IsBookRow (form_of u)) b) same k.each)
          (s.1 ∙ ap (λ (u : Version). text_of_lines (map (row_line (form_of u)) b) ++ rest) same),
    )

-- what is the same of two texts, after one of which this stands
pub record IsEnded (v w : Version) (a b : List Row) (rest : List ℕ) : Type 0 where
  pub version : w ≡ v
  pub rows : a ≡ b
  pub none : rest ≡ []

-- after the last line of as many rows nothing is left
ended : (v w : Version) (a b : List Row) (rest : List ℕ) → IsBookRows v a → IsBookRows w b
    → book_text v a ≡ book_text w b ++ rest → IsEnded v w a b rest
ended v w a b rest h k e = last p.1.more p.1.rows p.1.text where
  prefix : List ℕ
  prefix = text_of_lines (header_of w ∷ map (row_line (form_of w)) b)

  lines : book_text w b ++ rest ≡ prefix ++ (end_line (length b) ++ 10 ∷ rest)
  lines = ap (λ l. l ++ rest) (flat_map-append ended_by_lf
      (header_of w ∷ map (row_line (form_of w)) b) (end_line (length b) ∷ []))
      ∙ append_assoc prefix (text_of_lines (end_line (length b) ∷ [])) rest
      ∙ ap (λ l. prefix ++ l) (ap (λ l. l ++ rest) (append-nil (ended_by_lf (end_line (length b))))
      ∙ append_assoc (end_line (length b)) (10 ∷ []) rest)

  p : (w ≡ v) × Begins (form_of v) a b (length a) (end_line (length b) ++ 10 ∷ rest)
  p = begun v w a b (end_line (length b) ++ 10 ∷ rest) h k (e ∙ lines)

  last : (more : List Row) → a ≡ b ++ more → end_line (length b) ++ 10 ∷ rest
      ≡ row_lines (form_of v) more (length a) → IsEnded v w a b rest
  last [] r t =
      let same : a ≡ b = r ∙ append-nil b in
      let both : end_line (length b) ++ 10 ∷ rest ≡ end_line (length b) ++ 10 ∷ [] = t
      ∙ row_lines_nil (form_of v) (length a)
      ∙ ap (λ (l : List Row). end_line (length l) ++ 10 ∷ []) same in
      let left : length (end_line (length b) ++ 10 ∷ rest)
      ≡ length (end_line (length b)) + (length rest + 1) = simp length-append (omega arith) in
      let right : length (end_line (length b) ++ 10 ∷ []) ≡ length (end_line (length b)) + 1 =
      simp length-append (omega arith) in
      record {
        version = p.0;
        rows = same;
        none = nil_from_length rest (omega (arith, left, right, ap length both));
      }
  last (x ∷ more) r t = absurd (end_or_row (form_of v) (length b) x (10 ∷ rest)
      (10 ∷ row_lines (form_of v) more (length a)) (t
      ∙ row_lines_cons (form_of v) x more (length a)))

-- the text of rows in a version is that of no others
pub one_text : (v w : Version) (a b : List Row) → IsBookRows v a → IsBookRows w b
    → book_text v a ≡ book_text w b → (v ≡ w) × (a ≡ b)
one_text v w a b h k e = let same = ended v w a b [] h k (e ∙ sym (append-nil (book_text w b))) in
    (sym same.version, same.rows)

-- equal texts are of one version, whatever the rows
pub one_version : (v w : Version) (a b : List Row) → IsVersion v → IsVersion w
    → book_text v a ≡ book_text w b → v ≡ w
one_version v w a b h k e = headers_differ v w h k
    (same_line 10 (header_of v) _ (header_of w) _ (header_lacks v h) (header_lacks w k)
    (sym (book_first v a) ∙ e ∙ book_first w b)).0

-- books of equal values
pub same_book : (a b : BookValue) → a.gap ≡ b.gap → a.rows ≡ b.rows → a ≡ b
same_book a b gap rows =
    let first : a ≡ record { gap = b.gap; rows = a.rows } =
    ap (λ n. record { gap = n; rows = a.rows }) gap in
    first ∙ ap (λ r. record { gap = b.gap; rows = r }) rows

-- books that are written as one text
pub one_book : (a b : BookValue) → IsBookRows (written_version a) a.rows
    → IsBookRows (written_version b) b.rows → written_text a ≡ written_text b → a ≡ b
one_book a b h k e =
    let t = one_text (written_version a) (written_version b) a.rows b.rows h k e in
    same_book a b (ap gap_of t.0) t.1

-- ---- lines of a book's text are not wrong

pub All-middle : (P : Row → Type 0) (a : List Row) (x : Row) (b : List Row) → All P (a ++ x ∷ b)
    → P x
All-middle P [] x b h = All-head P x b h
All-middle P (y ∷ a) x b h = All-middle P a x b (All-tail P y (a ++ x ∷ b) h)

-- no cause refuses a row after those that it follows
refused : (gap : ℕ) (form : MomentForm) (rows more : List Row) (x : Row) (why : RowCause)
    → IsBookRow form x → Sound gap (rows ++ x ∷ more)
    → SpellsRefusedRow gap form rows (row_line form x) why → ⊥
refused gap form rows more x why h s w =
    let same = same_row form x w.row h.spelled w.is.spelled w.spelled in
    let first : Sound gap (rows ++ x ∷ []) = sound_prefix gap (rows ++ x ∷ []) more
    (subst (Sound gap) (sym (append_assoc rows (x ∷ []) more)) s) in
    let none : refusal gap rows x ≡ None = (none_exactly gap rows x
    (sound_prefix gap rows (x ∷ []) first)).1 first in
    let f : None ≡ Some why = sym none ∙ ap (λ (r : Row). refusal gap rows r) same ∙ w.refused in
    absurd cc

pub wrong_row : (gap : ℕ) (form : MomentForm) (rows more : List Row) (x : Row) (c : BookCause)
    → IsBookRow form x → Sound gap (rows ++ x ∷ more) → IsWrong gap form rows (row_line form x) c
    → ⊥
wrong_row gap form rows more x cause.Ending h s w = false≢true w.0
wrong_row gap form rows more x cause.RowSyntax h s w = w.1 x h.spelled refl
wrong_row gap form rows more x cause.Frame h s w =
    let same = same_row form x w.row h.spelled w.is w.spelled in
    w.refused (subst (λ (r : Row). IsUiFrame r.greatest.frame) same h.frame)
wrong_row gap form rows more x cause.Order h s w = refused gap form rows more x _ h s w
wrong_row gap form rows more x cause.Span h s w = refused gap form rows more x _ h s w
wrong_row gap form rows more x cause.Near h s w = refused gap form rows more x _ h s w
wrong_row gap form rows more x cause.Receivers h s w = refused gap form rows more x _ h s w
wrong_row gap form rows more x cause.NotGreatest h s w = refused gap form rows more x _ h s w
wrong_row gap form rows more x cause.Header h s w = w
wrong_row gap form rows more x cause.After h s w = w
wrong_row gap form rows more x cause.Read h s w = w
wrong_row gap form rows more x cause.TooLong h s w = w
wrong_row gap form rows more x cause.Memory h s w = w

pub wrong_end : (gap : ℕ) (form : MomentForm) (rows : List Row) (c : BookCause)
    → IsWrong gap form rows (end_line (length rows)) c → ⊥
wrong_end gap form rows cause.Ending w = w.1 refl
wrong_end gap form rows cause.RowSyntax w = false≢true (sym w.0)
wrong_end gap form rows cause.Frame w = end_is_row form (length rows) w.row w.spelled
wrong_end gap form rows cause.Order w = end_is_row form (length rows) w.row w.spelled
wrong_end gap form rows cause.Span w = end_is_row form (length rows) w.row w.spelled
wrong_end gap form rows cause.Near w = end_is_row form (length rows) w.row w.spelled
wrong_end gap form rows cause.Receivers w = end_is_row form (length rows) w.row w.spelled
wrong_end gap form rows cause.NotGreatest w = end_is_row form (length rows) w.row w.spelled
wrong_end gap form rows cause.Header w = w
wrong_end gap form rows cause.After w = w
wrong_end gap form rows cause.Read w = w
wrong_end gap form rows cause.TooLong w = w
wrong_end gap form rows cause.Memory w = w

-- ---- the fault of a prefix of a book's text is that it is cut there

-- the byte that is missing, if it is a byte
abbrev pub IsCutShort : InputEnd → List ℕ → BookCause → Type 0
IsCutShort e more c = (c ≡ ending_cause e) × (e ≡ ending.End → more ≢ [])

cut_at_line : (rest more line tail : List ℕ) (e : InputEnd) (c : BookCause)
    → rest ++ more ≡ line ++ 10 ∷ tail → IsCut rest e c → IsCutShort e more c
cut_at_line rest more line tail e c is h = (
  h.1,
  λ end none. has_line 10 line tail (subst (Lacks 10) (sym (append-nil rest)
      ∙ ap (λ l. rest ++ l) (sym none) ∙ is) h.0),
)

module _ (v : Version) (rows : List Row) (is : IsBookRows v rows) (small : length rows < 2 ^ 64)
    (more : List ℕ) (e : InputEnd) (c : BookCause) where
  at_start : (rest : List ℕ) → rest ++ more ≡ book_text v rows → HeaderFault rest e c
      → IsCutShort e more c
  at_start rest whole h = elim h [
    | inl cut ↦ cut_at_line rest more (header_of v) (row_lines (form_of v) rows (length rows)) e c
        (whole ∙ book_first v rows) cut
    | inr w ↦ absurd (w.holds.0 v is.version (same_line 10 w.line (w.more ++ more) (header_of v)
        (row_lines (form_of v) rows (length rows)) w.one (header_lacks v is.version)
        (sym (append_assoc w.line (10 ∷ w.more) more) ∙ ap (λ l. l ++ more) (sym w.is) ∙ whole
        ∙ book_first v rows)).0)
  ]

  after_rows : (prefix : List Row) (rest : List ℕ)
      → Begins (form_of v) rows prefix (length rows) (rest ++ more) → LineFault v prefix rest e c
      → IsCutShort e more c
  after_rows prefix rest b h = go b.more b.rows b.text where
    wrong : (x : Row) (tail : List Row) → rows ≡ prefix ++ x ∷ tail
        → rest ++ more ≡ row_lines (form_of v) (x ∷ tail) (length rows)
        → HasLine rest (λ line. IsWrong (millis_of (gap_of v)) (form_of v) prefix line c) → ⊥
    wrong x tail r t w =
        let book : IsBookRow (form_of v) x = All-middle (IsBookRow (form_of v)) prefix x tail
        (subst (All (IsBookRow (form_of v))) r is.each) in
        let line : w.line ≡ row_line (form_of v) x =
        (same_line 10 w.line (w.more ++ more) (row_line (form_of v) x)
        (row_lines (form_of v) tail (length rows)) w.one (row_lacks (form_of v) x book.spelled)
        (sym (append_assoc w.line (10 ∷ w.more) more) ∙ ap (λ l. l ++ more) (sym w.is) ∙ t
        ∙ row_lines_cons (form_of v) x tail (length rows))).0 in
        wrong_row (millis_of (gap_of v)) (form_of v) prefix tail x c book
        (subst (Sound (millis_of (gap_of v))) r (rows_sound v rows is))
        (subst (λ l. IsWrong (millis_of (gap_of v)) (form_of v) prefix l c) line w.holds)

    wrong_last : rows ≡ prefix → rest ++ more ≡ row_lines (form_of v) [] (length rows)
        → HasLine rest (λ line. IsWrong (millis_of (gap_of v)) (form_of v) prefix line c) → ⊥
    wrong_last r t w =
        let line : w.line ≡ end_line (length rows) =
        (same_line 10 w.line (w.more ++ more) (end_line (length rows)) [] w.one
        (end_lacks (length rows) small)
        (sym (append_assoc w.line (10 ∷ w.more) more) ∙ ap (λ l. l ++ more) (sym w.is) ∙ t
        ∙ row_lines_nil (form_of v) (length rows))).0 in
        wrong_end (millis_of (gap_of v)) (form_of v) prefix c
        (subst (λ l. IsWrong (millis_of (gap_of v)) (form_of v) prefix l c) (line
        ∙ ap (λ (l : List Row). end_line (length l)) r) w.holds)

    go : (tail : List Row) → rows ≡ prefix ++ tail
        → rest ++ more ≡ row_lines (form_of v) tail (length rows) → IsCutShort e more c
    go [] r t = elim h [
      | inl cut ↦ cut_at_line rest more (end_line (length rows)) [] e c (t
          ∙ row_lines_nil (form_of v) (length rows)) cut
      | inr w ↦ absurd (wrong_last (r ∙ append-nil prefix) t w)
    ]
    go (x ∷ tail) r t = elim h [
      | inl cut ↦ cut_at_line rest more (row_line (form_of v) x)
          (row_lines (form_of v) tail (length rows)) e c (t
          ∙ row_lines_cons (form_of v) x tail (length rows)) cut
      | inr w ↦ absurd (wrong x tail r t w)
    ]

  at_end : (rest : List ℕ) → rest ++ more ≡ [] → EndFault rest e c → IsCutShort e more c
  at_end rest none h = elim h [
    | inl after ↦ absurd (let l : length (rest ++ more) ≡ length rest + length more =
        length-append rest more in omega (arith, l, ap length none, after.0))
    | inr end ↦ (end.2, λ is n. end.1 is)
  ]

  pub cut_short : (text : List ℕ) (f : BookFault) → text ++ more ≡ book_text v rows → f.cause ≡ c
      → FirstFault text e f → IsCutShort e more c
  cut_short text f whole cause_is first = go (subst
      (RestIsAtFault first.lines first.rest e) cause_is first.fault) where
        all : (lines : List (List ℕ)) → first.lines ≡ lines
            → text_of_lines lines ++ (first.rest ++ more) ≡ book_text v rows
        all lines same =
            ap (λ ls. text_of_lines ls ++ (first.rest ++ more)) (sym same)
            ∙ sym (append_assoc (text_of_lines first.lines) first.rest more)
            ∙ ap (λ l. l ++ more) (sym first.whole) ∙ whole

        go : RestIsAtFault first.lines first.rest e c → IsCutShort e more c
        go h = elim h [
          | inl start ↦ at_start first.rest (all [] start.none_read) start.fault
          | inr k ↦ elim k [
            | inl among ↦
                let b = begun v among.version rows among.rows (first.rest ++ more) is among.sound
                (sym (all _ among.read)) in
                after_rows among.rows first.rest b.1
                (subst (λ (u : Version). LineFault u among.rows first.rest e c) b.0 among.fault)
            | inr past ↦ at_end first.rest (ended v past.version rows past.rows
                (first.rest ++ more) is past.sound (sym (all _ past.read))).none past.fault
          ]
        ]
