-- What the worked examples of headers cite.
use Rattle.aprs_fold.proofs.Common.{◌≡◌, ◌∙◌, ℕ, List, [], ◌∷◌, ◌++◌, Some, append-nil, append_assoc, refl, sym, ap, arith, IsGap}
use Rattle.std.specs.Fmt.{digits}
use Rattle.std.specs.Prelude.{codes}
use Rattle.aprs_io.specs.declared.input.InputEnd.TheVariants as how
use Rattle.aprs_bookfile.proofs.OneText.{cut_short, same_line}
use Rattle.aprs_bookfile.proofs.SameFaults.{first_of}
use Rattle.aprs_bookfile.proofs.Versions.{header_lacks, headers_differ, standard_range}
use Rattle.aprs_bookfile.specs.Text.{written_text}
use Rattle.aprs_bookfile.specs.Version.{gap_of, header_of, IsVersion}
use Rattle.aprs_bookfile.specs.declared.fault.BookCause.TheVariants as why
use Rattle.aprs_bookfile.specs.declared.fault.BookFault.{BookFault}
use Rattle.aprs_bookfile.specs.declared.version.Version.{Version}
use Rattle.aprs_bookfile.specs.declared.version.Version.TheVariants.{Three, Two}
use Rattle.aprs_fold.specs.Examples.{begun_under_31}
use Rattle.aprs_fold.specs.Fold.{LacksEnd}
use Rattle.aprs_fold.specs.Inputs.{BeginsOther}
use Rattle.aprs_fold.proofs.Newing.{none_whole}

pub gap_31 : IsGap 31
gap_31 = (omega arith, omega arith)

-- a text has one header
pub one_header : (v w : Version) → IsVersion v → IsVersion w → (a b : List ℕ)
    → header_of v ++ 10 ∷ a ≡ header_of w ++ 10 ∷ b → v ≡ w
one_header v w is own a b e = headers_differ v w is own
    (same_line 10 (header_of v) a (header_of w) b (header_lacks v is) (header_lacks w own) e).0

pub two_is_other : BeginsOther 31 (Some (codes "APRSBOOK 2" ++ 10 ∷ []))
two_is_other = (Two, [], standard_range, λ e. omega (arith, e), refl)

pub not_other : BeginsOther 31 (Some begun_under_31) → ⊥
unfolding digits
not_other h = h.3 (ap gap_of (sym (one_header (Three 31) h.0 gap_31 h.2 (codes "T") h.1
    (h.4 ∙ append_assoc (header_of h.0) (10 ∷ []) h.1))))

pub has_end : LacksEnd (written_text (record { gap = 31; rows = [] })) → ⊥
has_end h =
    let text : List ℕ = written_text (record { gap = 31; rows = [] }) in
    let fault : BookFault = record { line = h.0; cause = why.Ending } in
    let first = first_of text how.End fault h.1
    (λ e. absurd (let f : why.Ending ≡ why.Memory = e in cc)) in
    (cut_short (Three 31) [] (none_whole 31 gap_31) (omega arith) [] how.End why.Ending text fault
    (append-nil text) refl first).1 refl refl
