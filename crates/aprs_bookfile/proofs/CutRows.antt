-- A book's text that was cut among the lines of its rows.
use Rattle.aprs_bookfile.proofs.Common.{◌≡◌, ◌∙◌, ◌⊎◌, ◌+◌, ℕ, List, [], ◌∷◌, ◌++◌, length, map, inl, inr, refl, sym, ap, subst, append-nil, append_assoc, All, All-nil, All-cons, All-head, All-tail, Row, Sound, millis_of, text_of_lines, MomentForm}
use Rattle.aprs_io.specs.declared.input.InputEnd.TheVariants as how
use Rattle.aprs_transmissions.specs.Lists.{Ordered}
use Rattle.aprs_transmissions.specs.Order.{IsBelow}
use Rattle.aprs_transmissions.specs.Row.{row_cmp}
use Rattle.aprs_transmissions.specs.Sound.{IsFar}
use Rattle.aprs_transmissions.proofs.Lists.{in_left}
use Rattle.aprs_bookfile.specs.Law.{LackAnEnd}
use Rattle.aprs_io.specs.Cut.{Lacks}
use Rattle.aprs_bookfile.specs.Reader.{HasReadLines}
use Rattle.aprs_bookfile.specs.Text.{row_line, IsBookRow, IsBookRows}
use Rattle.aprs_bookfile.specs.Version.{form_of, gap_of, header_of}
use Rattle.aprs_bookfile.specs.declared.stage.Stage.TheVariants.{Rows}
use Rattle.aprs_bookfile.specs.declared.version.Version.{Version}
use Rattle.aprs_bookfile.proofs.BookRows.{rows_are, rows_sound}
use Rattle.aprs_bookfile.proofs.OneText.{row_lacks}
use Rattle.aprs_bookfile.proofs.SameFaults.{first_is}
use Rattle.aprs_bookfile.proofs.Standing.{cut_fault}

-- ---- the first rows of a book are a book

front_ordered : {X : Type 0} (Q : X → X → Type 0) (xs ys : List X) → Ordered Q (xs ++ ys)
    → Ordered Q xs
front_ordered Q [] ys h = tt
front_ordered Q (x ∷ xs) ys h =
    ((λ y k. h.0 y (in_left y xs ys k)), front_ordered Q xs ys h.1)

pub front_sound : (gap : ℕ) (xs ys : List Row) → Sound gap (xs ++ ys) → Sound gap xs
front_sound gap xs ys h = record {
  ascending = front_ordered (IsBelow row_cmp) xs ys h.ascending;
  apart = front_ordered (IsFar gap) xs ys h.apart;
  each = λ x k. h.each x (in_left x xs ys k);
}

front_all : {X : Type 0} (P : X → Type 0) (xs ys : List X) → All P (xs ++ ys) → All P xs
front_all P [] ys h = All-nil P
front_all P (x ∷ xs) ys h =
    All-cons P x xs (All-head P x (xs ++ ys) h) (front_all P xs ys (All-tail P x (xs ++ ys) h))

pub front_rows : (v : Version) (xs ys : List Row) → IsBookRows v (xs ++ ys) → IsBookRows v xs
front_rows v xs ys h = rows_are v xs h.version
    (front_sound (millis_of (gap_of v)) xs ys (rows_sound v (xs ++ ys) h))
    (front_all (IsBookRow (form_of v)) xs ys h.each)

-- ---- where a text is cut

cut_lists : (a b c d : List ℕ) → a ++ b ≡ c ++ d → ((m : List ℕ) × (a ≡ c ++ m))
    ⊎ ((m : List ℕ) × (c ≡ a ++ m) × (b ≡ m ++ d))
cut_lists [] b c d e = inr (c, refl, e)
cut_lists (x ∷ a) b [] d e = inl (x ∷ a, refl)
cut_lists (x ∷ a) b (y ∷ c) d e =
    let head : x ≡ y = cc in
    let tail : a ++ b ≡ c ++ d = cc in
    elim (cut_lists a b c d tail) [
      | inl r ↦ inl (r.0, (let t = r.1 in cc))
      | inr r ↦ inr (r.0, (let t = r.1 in cc), r.2)
    ]

lacks_front : (a b : List ℕ) → Lacks 10 (a ++ b) → Lacks 10 a
lacks_front [] b h = tt
lacks_front (x ∷ a) b h = (h.0, lacks_front a b h.1)

within_line : (line part rest : List ℕ) → Lacks 10 line → line ++ 10 ∷ [] ≡ part ++ rest
    → Lacks 10 part ⊎ (part ≡ line ++ 10 ∷ [])
within_line line part rest lacks e = elim (cut_lists line (10 ∷ []) part rest e) [
  | inl r ↦ inl (lacks_front part r.0 (subst (Lacks 10) r.1 lacks))
  | inr r ↦ by_end r.0 r.1 r.2
] where
  by_end : (m : List ℕ) → part ≡ line ++ m → 10 ∷ [] ≡ m ++ rest
      → Lacks 10 part ⊎ (part ≡ line ++ 10 ∷ [])
  by_end [] is f = inl (subst (Lacks 10) (sym (is ∙ append-nil line)) lacks)
  by_end (y ∷ []) is f = let same : 10 ≡ y = cc in inr (is ∙ ap (λ b. line ++ b ∷ []) (sym same))
  by_end (y ∷ z ∷ m) is f = absurd (cc)

-- The part has the lines of the rows before, and a part of the next line.
record IsCut (form : MomentForm) (rows : List Row) (part : List ℕ) : Type 0 where
  before : List Row
  more : List Row
  line : List ℕ
  rows_are : rows ≡ before ++ more
  part_is : part ≡ text_of_lines (map (row_line form) before) ++ line
  one : Lacks 10 line

rows_cut : (form : MomentForm) (rows : List Row) (part rest : List ℕ) → All (IsBookRow form) rows
    → text_of_lines (map (row_line form) rows) ≡ part ++ rest → IsCut form rows part
rows_cut form [] [] rest each e = record {
  before = [];
  more = [];
  line = [];
  rows_are = refl;
  part_is = refl;
  one = tt;
}
rows_cut form [] (b ∷ part) rest each e = absurd (cc)
rows_cut form (x ∷ rows) part rest each e =
    let line = row_line form x in
    let own = row_lacks form x (All-head (IsBookRow form) x rows each).spelled in
    elim (cut_lists (line ++ 10 ∷ []) (text_of_lines (map (row_line form) rows)) part rest e) [
      | inl r ↦ elim (within_line line part r.0 own r.1) [
        | inl lacks ↦ record {
          before = [];
          more = x ∷ rows;
          line = part;
          rows_are = refl;
          part_is = refl;
          one = lacks;
        }
        | inr whole ↦ record {
          before = x ∷ [];
          more = rows;
          line = [];
          rows_are = refl;
          part_is = whole ∙ sym (append-nil (line ++ 10 ∷ []))
              ∙ sym (append-nil ((line ++ 10 ∷ []) ++ []));
          one = tt;
        }
      ]
      | inr r ↦
          let further = rows_cut form rows r.0 rest (All-tail (IsBookRow form) x rows each) r.2 in
          record {
            before = x ∷ further.before;
            more = further.more;
            line = further.line;
            rows_are = ap (λ l. x ∷ l) further.rows_are;
            part_is = r.1 ∙ ap (λ l. (line ++ 10 ∷ []) ++ l) further.part_is
                ∙ sym (append_assoc (line ++ 10 ∷ [])
                (text_of_lines (map (row_line form) further.before)) further.line);
            one = further.one;
          }
    ]

-- a text without its last line isn't ended
pub lack_an_end : LackAnEnd
lack_an_end v rows is part rest e =
    let form = form_of v in
    let cut = rows_cut form rows part rest is.each e in
    let own : IsBookRows v cut.before =
    front_rows v cut.before cut.more (subst (IsBookRows v) cut.rows_are is) in
    let text = (header_of v ++ 10 ∷ []) ++ part in
    let read : HasReadLines (Rows v) cut.before cut.line text = record {
      text_is = ap (λ l. (header_of v ++ 10 ∷ []) ++ l) cut.part_is
          ∙ sym (append_assoc (header_of v ++ 10 ∷ [])
          (text_of_lines (map (row_line form) cut.before)) cut.line);
      one = cut.one;
      holds = own;
    } in (
      length cut.before + 2,
      first_is text how.End _
          (cut_fault (Rows v) cut.before cut.line text how.End refl read),
    )
