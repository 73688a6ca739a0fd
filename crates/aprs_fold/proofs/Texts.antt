-- The text of a fold, from its header to its last line.
use Rattle.aprs_fold.proofs.Common.{◌≡◌, ◌∙◌, inl, ℕ, List, [], ◌∷◌, ◌++◌, append-nil, length, map, Option, Result, Ok, Err, refl, sym, ap, subst, Puts, Puts-fails, Puts-is, Puts-then, Sends-unput, Counted, Row, IsGap, millis_of}
use Rattle.std.specs.Io.KnownBytes.{Appends}
use Rattle.aprs_io.proofs.Common.{Appends-trans}
use Rattle.aprs_io.proofs.Sends.{Calls-then, left_of_both}
use Rattle.aprs_io.specs.Device.{Calls, Going, Sends}
use Rattle.aprs_io.specs.Outlet.{HasTaken, held_of, writer_of}
use Rattle.aprs_io.specs.declared.outlet.Outlet.{Outlet}
use Rattle.aprs_log.specs.LogText.{text_of_lines}
use Rattle.aprs_log.specs.declared.moment_form.MomentForm.TheVariants.{Millis}
use Rattle.aprs_transmissions.specs.BookValue.{BookValue}
use Rattle.aprs_bookfile.specs.RowLines.{ended_by_lf, line_and_lf}
use Rattle.aprs_bookfile.specs.Text.{end_line, row_line, written_text}
use Rattle.aprs_bookfile.specs.declared.version.Version.TheVariants.{Three}
use Rattle.aprs_bookfile.proofs.CutRows.{lack_an_end}
use Rattle.aprs_bookfile.proofs.TextParts.{text_parts}
use Rattle.aprs_fold.proofs.Steps.{begins}
use Rattle.aprs_fold.specs.Fold.{header_text, IsFoldedBook, IsLeft, IsPart, IsWhole, LacksEnd, LeavesRows, LeavesText, PutsPart, PutsRows, PutsTextPart}
use Rattle.aprs_fold.specs.Range.{rows_of_sources}
use Rattle.aprs_fold.specs.Taking.{lines_of_rows}
use Rattle.aprs_fold.specs.declared.fault.FoldFault.{FoldFault}
use Rattle.aprs_fold.specs.declared.fault.FoldFault.TheVariants.{Input, OtherGap, Memory, Write}
use Rattle.aprs_fold.specs.declared.range.SourceRange.{SourceRange}
use Rattle.aprs_fold.proofs.Walking.{folded_whole}

abbrev pub book_of : ℕ → List Row → BookValue
book_of gap rows = record { gap = gap; rows = rows }

pub text_is : (gap : ℕ) (rows : List Row) (n : ℕ) → n ≡ length rows → written_text (book_of gap rows)
    ≡ header_text gap ++ (lines_of_rows rows ++ ended_by_lf (end_line n))
text_is gap rows n e = text_parts (book_of gap rows) gap (header_text gap) refl refl n
    (ended_by_lf (end_line n)) e refl

row_lines : (rows : List Row) → text_of_lines (map (row_line Millis) rows) ≡ lines_of_rows rows
row_lines [] = refl
row_lines (x ∷ rows) = ap (λ l. line_and_lf x ++ l) (row_lines rows)

-- ---- parts of a text

module _ {W : Type 0} (contents : W → Option (List ℕ)) (gap : ℕ) where
  -- the header was sent, and then some lines were put
  pub text_part : (old mid new : Outlet W)
      → Puts {E = Unit {0}} contents (Ok tt) old mid (header_text gap) → held_of mid ≡ []
      → (fault : FoldFault) (rows last : List Row) → PutsPart contents fault rows last mid new
      → PutsTextPart contents gap fault rows last old new
  text_part old mid new header none Write rows last put = Puts-is
      (Puts-then header (Puts-fails (Err Write) refl put
      (ended_by_lf (end_line (length (rows ++ last))))))
      (sym (text_is gap (rows ++ last) (length (rows ++ last)) refl))
  text_part old mid new header none (Input index fault) rows last put = (mid, header, none, put)
  text_part old mid new header none (OtherGap index) rows last put = (mid, header, none, put)
  text_part old mid new header none Memory rows last put = (mid, header, none, put)

  -- the last line was put, or not
  pub whole_text : {E : Type 0} (r : Result (Unit {0}) E) (old mid put new : Outlet W) (count : ℕ)
      (rows : List Row) → Puts {E = Unit {0}} contents (Ok tt) old mid (header_text gap)
      → Puts {E = Unit {0}} contents (Ok tt) mid put (lines_of_rows rows) → count ≡ length rows
      → Puts contents r put new (ended_by_lf (end_line count))
      → Puts contents r old new (written_text (book_of gap rows))
  whole_text r old mid put new count rows header lines counted end =
      Puts-is (Puts-then header (Puts-then lines end)) (sym (text_is gap rows count counted))

  -- what went out of it
  module _ (first : Counted W) (o p : Outlet W) (none : HasTaken contents first o []) where
    sent_part : (rows : List Row) → IsWhole gap rows → (mid : Outlet W)
        → Puts {E = Unit {0}} contents (Ok tt) o mid (header_text gap) → held_of mid ≡ []
        → Puts {E = Unit {0}} contents (Ok tt) mid p (lines_of_rows rows)
        → (part : List ℕ) × (rest : List ℕ) × (lines_of_rows rows ≡ part ++ rest)
        × Appends (contents first.device) (contents (writer_of p).device) (header_text gap ++ part)
        × Calls Going first (writer_of p)
        × LacksEnd (header_text gap ++ part)
    sent_part rows whole_rows mid header empty lines =
        let head = left_of_both none (header_text gap) header.took in
        let whole : header_text gap ≡ head.gone =
        head.whole ∙ ap (λ l. head.gone ++ l) empty ∙ append-nil head.gone in
        let rest = lines.took in
        let cut : lines_of_rows rows ≡ rest.gone ++ held_of p =
        ap (λ l. l ++ lines_of_rows rows) (sym empty) ∙ rest.whole in (
          rest.gone,
          held_of p,
          cut,
          subst (λ l. Appends (contents first.device) (contents (writer_of p).device) (l ++ rest.gone))
              (sym whole)
              (Appends-trans (contents first.device) (contents (writer_of mid).device)
              (contents (writer_of p).device) head.gone rest.gone head.sends.sent rest.sends.sent),
          Calls-then head.sends.calls rest.sends.calls,
          lack_an_end (Three gap) rows whole_rows rest.gone (held_of p) (row_lines rows ∙ cut),
        )

    pub parts : (fault : FoldFault) (rows last : List Row) → IsWhole gap rows
        → PutsTextPart contents gap fault rows last o p
        → IsPart contents gap fault rows last first (writer_of p)
    parts Write rows last whole put = Sends-unput none (Err Write) refl put
    parts (Input index fault) rows last whole put = sent_part rows whole put.0 put.1 put.2 put.3
    parts (OtherGap index) rows last whole put = sent_part rows whole put.0 put.1 put.2 put.3
    parts Memory rows last whole put = sent_part rows whole put.0 put.1 put.2 put.3

-- ---- the text of a fold

module _ {R W : Type 0} {remaining : R → Option (List ℕ)} {contents : W → Option (List ℕ)}
    {limit gap : ℕ} {range : SourceRange} {begun now : List (Counted R)} where
  -- the header was refused
  pub leaves_header : {E : Type 0} {e : E} {old new : Outlet W} → IsGap gap
      → Puts {E = E} contents (Err e) old new (header_text gap)
      → LeavesText remaining contents limit gap range Write begun now old new
  leaves_header is_gap put = record {
    rows = [];
    last = [];
    begun = inl (refl, refl);
    rows_are = folded_whole gap is_gap range [] [] [] [] (begins (millis_of gap) [])
        (λ x h. absurd h);
    put = Puts-is (Puts-fails (Err Write) refl put (ended_by_lf (end_line 0)))
        (sym (text_is gap [] 0 refl));
  }

  module _ {old mid new : Outlet W} (header : Puts {E = Unit {0}} contents (Ok tt) old mid
      (header_text gap)) where
    -- the fold ended within the rows
    pub leaves_rows : (fault : FoldFault) → held_of mid ≡ []
        → LeavesRows remaining contents limit gap range fault begun now mid new
        → LeavesText remaining contents limit gap range fault begun now old new
    leaves_rows fault none h = record {
      rows = h.rows;
      last = h.last;
      begun = h.begun;
      rows_are = h.rows_are;
      put = text_part contents gap old mid new header none fault (rows_of_sources range h.rows)
          (rows_of_sources range h.last) h.put;
    }

  -- the last line was put, or not
  pub text_ends : {E : Type 0} {r : Result (Unit {0}) E} {old mid put new : Outlet W} {count : ℕ}
      {rows : List Row} → Puts {E = Unit {0}} contents (Ok tt) old mid (header_text gap)
      → PutsRows remaining contents limit gap range begun now count mid put rows
      → Puts contents r put new (ended_by_lf (end_line count))
      → Puts contents r old new (written_text (book_of gap rows))
  text_ends {r = r} {old} {mid} {put} {new} {count} {rows} header lines end =
      whole_text contents gap r old mid put new count rows header lines.puts lines.counted end

  -- where the output was refused after all rows, a prefix of the text went out
  pub leaves_all : {E : Type 0} {e : E} {old new : Outlet W} {rows : List Row}
      → IsFoldedBook remaining limit gap range begun now rows
      → Puts {E = E} contents (Err e) old new (written_text (book_of gap rows))
      → LeavesText remaining contents limit gap range Write begun now old new
  leaves_all {rows = rows} book put = record {
    rows = book.written;
    last = book.last;
    begun = book.begun;
    rows_are = book.before;
    put = Puts-is (Puts-fails (Err Write) refl put [])
        (append-nil (written_text (book_of gap rows))
        ∙ ap (λ (l : List Row). written_text (book_of gap l)) book.all);
  }

  -- ---- what went out

  module _ (first : Counted W) (o p : Outlet W) (none : HasTaken contents first o []) where
    pub leaves_text : (fault : FoldFault)
        → LeavesText remaining contents limit gap range fault begun now o p
        → IsLeft remaining contents limit gap range fault begun now first (writer_of p)
    leaves_text fault h = record {
      rows = h.rows;
      last = h.last;
      begun = h.begun;
      rows_are = h.rows_are;
      part = parts contents gap first o p none fault (rows_of_sources range h.rows)
          (rows_of_sources range h.last) h.rows_are h.put;
    }

  -- the whole text was put, but not sent
  pub leaves_sent : {E : Type 0} {e : E} {first last : Counted W} {rows : List Row}
      → IsFoldedBook remaining limit gap range begun now rows
      → Sends {E = E} contents (Err e) first last (written_text (book_of gap rows))
      → IsLeft remaining contents limit gap range Write begun now first last
  leaves_sent {first = first} {last} book sent = record {
    rows = book.written;
    last = book.last;
    begun = book.begun;
    rows_are = book.before;
    part = subst (λ (l : List Row). Sends {E = FoldFault} contents (Err Write) first last
        (written_text (book_of gap l))) book.all (record {
          sent = sent.sent;
          prefix = sent.prefix;
          calls = sent.calls;
          tries = sent.tries;
          unasked = sent.unasked;
        });
  }
