use Rattle.aprs_fold.proofs.Common.{◌≡◌, ◌∙◌, [], ◌∷◌, ◌++◌, append_assoc, refl, sym, ap, arith}
use Rattle.std.specs.Fmt.{digits}
use Rattle.std.specs.Prelude.{codes}
use Rattle.aprs_log.specs.LogText.{text_of_lines}
use Rattle.aprs_bookfile.proofs.OneText.{line_first}
use Rattle.aprs_bookfile.proofs.Versions.{standard_range}
use Rattle.aprs_bookfile.specs.Version.{gap_of, header_of}
use Rattle.aprs_bookfile.specs.declared.version.Version.TheVariants.{Three, Two}
use Rattle.aprs_fold.proofs.Newing.{none_whole}
use Rattle.aprs_fold.proofs.Worked.{gap_31, not_other, one_header, two_is_other}
use Rattle.aprs_fold.proofs.examples.inputs.headers_tell_the_gap.Goals as goal

pub returns-clause-other : goal.returns-clause-other
unfolding digits
returns-clause-other c = (Three 31, codes "T", gap_31, λ e. omega (arith, e), refl)

pub returns-clause-version_two : goal.returns-clause-version_two
returns-clause-version_two c = two_is_other

pub returns-clause-begins : goal.returns-clause-begins
unfolding digits
returns-clause-begins c = (Three 31, codes "T", refl, none_whole 31 gap_31, refl)

pub returns-clause-misses_same : goal.returns-clause-misses_same
returns-clause-misses_same c = not_other

pub returns-clause-misses_standard : goal.returns-clause-misses_standard
returns-clause-misses_standard c = λ h. h.3 (ap gap_of (sym (one_header Two h.0 standard_range
    h.2 [] h.1 (h.4 ∙ append_assoc (header_of h.0) (10 ∷ []) h.1))))

pub returns-clause-misses_gap : goal.returns-clause-misses_gap
unfolding digits
returns-clause-misses_gap c = λ h.
    let e = one_header (Three 31) h.0 gap_31 h.3.version (codes "T") (text_of_lines [] ++ h.1)
    (h.4 ∙ line_first (header_of h.0) [] h.1) in
    let f : 31 ≡ 30 = ap gap_of e ∙ h.2 in
    omega (arith, f)
