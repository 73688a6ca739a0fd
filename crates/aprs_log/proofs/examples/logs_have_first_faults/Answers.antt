use Rattle.aprs_log.proofs.Common.{◌≡◌, [], ◌∷◌, ◌++◌, ℕ, List, None, Some, refl, inl, inr, length, ◌≤◌, arith, InputEnd, End, Read}
use Rattle.aprs_log.specs.Examples.{heard_after, hi_line, leap_line, unended_line}
use Rattle.aprs_log.specs.LogAnswers.{log_answers}
use Rattle.aprs_log.specs.LogText.{BeginsWrong, HasLogFault, ReportAll}
use Rattle.aprs_log.specs.declared.fault.LineFault.TheVariants as fault
use Rattle.aprs_log.specs.declared.fault.LogCause.{LogCause}
use Rattle.aprs_log.specs.declared.fault.LogCause.TheVariants as why
use Rattle.aprs_log.specs.declared.fault.LogFault.{LogFault}
use Rattle.aprs_log.specs.declared.fault.Reason.TheVariants as reason
use Rattle.aprs_log.proofs.LineTexts.{line_of-passed, line_of-reports, line_of-wrong}
use Rattle.aprs_log.proofs.LogTexts.{log_fault-answers, log_text-answers}
use Rattle.aprs_log.proofs.Worked.{hi_has_no_lf, hi_read, leap_has_no_lf, leap_line_read, unended_read}
use Rattle.aprs_log.proofs.examples.logs_have_first_faults.Goals as goal

one_report : ReportAll (hi_line ∷ []) (heard_after 0 ∷ [])
one_report = inr (heard_after 0, [], line_of-reports hi_line (heard_after 0) hi_read, refl, refl)

-- what is wrong in the second line, after the one that is in order
second : (rest : List ℕ) (e : InputEnd) (cause : LogCause) → BeginsWrong rest e cause
    → HasLogFault (hi_line ++ 10 ∷ rest) e (record { line = 2; cause = cause })
second rest e cause wrong = record {
  lines = hi_line ∷ [];
  rest = rest;
  text_is = refl;
  before = (heard_after 0 ∷ [], one_report);
  number = refl;
  wrong = wrong;
}

wrong : HasLogFault (hi_line ++ 10 ∷ leap_line ++ 10 ∷ []) End
    (record { line = 2; cause = why.Moment })
wrong = second (leap_line ++ 10 ∷ []) End why.Moment
    (inr (leap_line, [], refl, leap_has_no_lf, line_of-wrong leap_line fault.Moment leap_line_read))

both_ways : (text : List ℕ) (f : LogFault) → (log_answers text End).fault ≡ Some f
    → (log_answers text End).fault ≡ None → ⊥
both_ways text f e g = absurd cc

short : length hi_line ≤ 8192
short = omega arith

pub returns : goal.returns
returns c = record {
  faultless = record {
    lines = unended_line ∷ hi_line ∷ [];
    text_is = refl;
    whole = refl;
    report = inl (line_of-passed unended_line (reason.Unended, unended_read), one_report);
  };
  misses_wrong = λ S h.
      let text = hi_line ++ 10 ∷ leap_line ++ 10 ∷ [] in
      both_ways text (record { line = 2; cause = why.Moment })
      (log_fault-answers text End (record { line = 2; cause = why.Moment }) wrong)
      (log_text-answers text End S h).0;
  wrong = wrong;
  unended = second hi_line End why.NoNewline
      (inl (hi_has_no_lf, (short, refl, λ e. let bad : ⊥ = absurd cc in bad)));
  cut_short = second hi_line Read why.Read (inl (hi_has_no_lf, (short, refl)));
}
