use Rattle.aprs_fold.proofs.Common.{◌≡◌, [], ◌++◌, append-nil, refl, sym, subst, arith}
use Rattle.std.specs.Fmt.{digits}
use Rattle.aprs_bookfile.proofs.CutRows.{lack_an_end}
use Rattle.aprs_bookfile.specs.declared.version.Version.TheVariants.{Three}
use Rattle.aprs_fold.specs.Fold.{header_text, LacksEnd}
use Rattle.aprs_fold.proofs.Newing.{none_whole}
use Rattle.aprs_fold.proofs.Worked.{gap_31, has_end}
use Rattle.aprs_fold.proofs.examples.parts.headers_lack_an_end.Goals as goal

lacks : LacksEnd (header_text 31 ++ [])
lacks = lack_an_end (Three 31) [] (none_whole 31 gap_31) [] [] refl

pub returns-clause-header : goal.returns-clause-header
unfolding digits
returns-clause-header c = refl

pub returns-clause-lacks : goal.returns-clause-lacks
returns-clause-lacks c = subst LacksEnd (append-nil (header_text 31)) lacks

pub returns-clause-part : goal.returns-clause-part
returns-clause-part c = (
  [],
  [],
  refl,
  sym (append-nil (header_text 31)),
  record { count = omega arith; fault = omega arith; answered = refl; ended = refl },
  lacks,
)

pub returns-clause-misses_end : goal.returns-clause-misses_end
returns-clause-misses_end c = has_end

pub returns-clause-misses_whole : goal.returns-clause-misses_whole
returns-clause-misses_whole c = λ h. has_end (subst LacksEnd (sym h.3) h.5)

pub returns-clause-misses_nothing : goal.returns-clause-misses_nothing
returns-clause-misses_nothing c = λ h.
    let e : [] ≡ header_text 31 ++ h.0 = h.3 in
    absurd (cc)
