-- The text of what is new, from its header to its last line.
use Rattle.aprs_fold.proofs.Common.{◌≡◌, ◌∙◌, ℕ, List, [], append-nil, Option, Ok, Err, refl, sym, ap, subst, Puts, Puts-fails, Puts-is, Sends, Counted, Row, IsGap}
use Rattle.aprs_io.specs.Outlet.{HasTaken, held_of, writer_of}
use Rattle.aprs_io.specs.declared.outlet.Outlet.{Outlet}
use Rattle.aprs_bookfile.specs.RowLines.{ended_by_lf}
use Rattle.aprs_bookfile.specs.Text.{end_line, written_text}
use Rattle.aprs_fold.specs.Fold.{header_text, IsWhole}
use Rattle.aprs_fold.specs.News.{LeavesNews, LeavesNewsText, LeavesPart}
use Rattle.aprs_fold.specs.declared.fault.FoldFault.{FoldFault}
use Rattle.aprs_fold.specs.declared.fault.FoldFault.TheVariants.{Write}
use Rattle.aprs_fold.proofs.Newing.{none_whole}
use Rattle.aprs_fold.proofs.Texts.{book_of, parts, text_is, text_part}

module _ {W : Type 0} (contents : W → Option (List ℕ)) (gap : ℕ) where
  -- the header was refused
  pub news_header : {E : Type 0} {e : E} (old new : Outlet W) → IsGap gap
      → Puts {E = E} contents (Err e) old new (header_text gap)
      → LeavesNewsText contents gap Write old new
  news_header old new is_gap put = (
    [],
    [],
    none_whole gap is_gap,
    Puts-is (Puts-fails (Err Write) refl put (ended_by_lf (end_line 0)))
        (sym (text_is gap [] 0 refl)),
  )

  -- it ended within the rows
  pub news_rows : (old mid new : Outlet W)
      → Puts {E = Unit {0}} contents (Ok tt) old mid (header_text gap) → held_of mid ≡ []
      → (fault : FoldFault) → LeavesNews contents gap fault mid new
      → LeavesNewsText contents gap fault old new
  news_rows old mid new header none fault h =
      (h.0, h.1, h.2, text_part contents gap old mid new header none fault h.0 h.1 h.3)

  -- the output was refused after all rows
  pub news_all : {E : Type 0} {e : E} (old new : Outlet W) (rows : List Row) → IsWhole gap rows
      → Puts {E = E} contents (Err e) old new (written_text (book_of gap rows))
      → LeavesNewsText contents gap Write old new
  news_all old new rows whole put = (
    rows,
    [],
    whole,
    Puts-is (Puts-fails (Err Write) refl put [])
        (append-nil (written_text (book_of gap rows))
        ∙ ap (λ (l : List Row). written_text (book_of gap l)) (sym (append-nil rows))),
  )

  -- ---- what went out

  pub news_part : (first : Counted W) (o p : Outlet W) → HasTaken contents first o []
      → (fault : FoldFault) → LeavesNewsText contents gap fault o p
      → LeavesPart contents gap fault first (writer_of p)
  news_part first o p none fault h =
      (h.0, h.1, h.2, parts contents gap first o p none fault h.0 h.1 h.2 h.3)

  -- the whole text was put, but not sent
  pub news_unsent : {E : Type 0} {e : E} (first last : Counted W) (rows : List Row)
      → IsWhole gap rows
      → Sends {E = E} contents (Err e) first last (written_text (book_of gap rows))
      → LeavesPart contents gap Write first last
  news_unsent first last rows whole sent = (
    rows,
    [],
    whole,
    subst (λ (l : List Row). Sends {E = FoldFault} contents (Err Write) first last
        (written_text (book_of gap l))) (sym (append-nil rows)) (record {
          sent = sent.sent;
          prefix = sent.prefix;
          calls = sent.calls;
          tries = sent.tries;
          unasked = sent.unasked;
        }),
  )
