-- Lemmas on lines that are in order: what a reader gives of them, and of the log that they are of.
use Rattle.aprs_convert.proofs.Common.{◌≡◌, ◌∙◌, ℕ, ◌+◌, List, [], ◌∷◌, ◌++◌, length, Option, None, Some, Result, Ok, Err, inl, inr, refl, sym, ap, append_assoc, append-nil, arith, AllZip, slice_split, log_cause_of, frame_in, heard_or_passed, line_of, Answers, answers_from, answers_of, fault_at, is_lf, log_answers, receptions_of, tail_cause, then_answers, HasLogFault, IsLogText, ReportAll, text_of_lines, InputEnd, LogFault, Reason, Line, HasFields, line_of-syntax, passed-line_of, reports-line_of, line_lacks, log_fault-answers}
use Rattle.aprs_io.proofs.Cuts.{cut_at-append}
use Rattle.aprs_log.specs.LineText.{IsLine}
use Rattle.aprs_log.specs.Reception.{Received}
use Rattle.aprs_log.specs.declared.InputEnd.TheVariants as how
use Rattle.aprs_log.specs.declared.fault.LineFault.{LineFault}
use Rattle.aprs_log.specs.declared.fault.LogCause.{LogCause}
use Rattle.aprs_log.specs.declared.line.Line.TheVariants as line
use Rattle.aprs_log.proofs.LogAnswers.{answers_from-line}
use Rattle.aprs_convert.specs.Check.{PassesOver}
use Rattle.aprs_convert.proofs.Seen.{prepended}

-- ---- one line

pub same_line : (a b : Line) (r : Result Line LineFault) → r ≡ Ok a → r ≡ Ok b → a ≡ b
same_line a b r e f = cc

reason_in : (m : ℕ) (name : List ℕ) (found : Result (List ℕ) Reason) (reason : Reason)
    → heard_or_passed m name found ≡ line.Passed reason → found ≡ Err reason
reason_in m name (Ok frame) reason e = absurd cc
reason_in m name (Err other) reason e = let same : other ≡ reason = cc in ap Err same

-- the reason why a line is passed over is that of its bytes
pub reason_of : (l : List ℕ) (m : ℕ) (name bytes : List ℕ) (reason : Reason) → IsLine l m name bytes
    → line_of l ≡ Ok (line.Passed reason) → frame_in bytes ≡ Err reason
reason_of l m name bytes reason is e = reason_in m name (frame_in bytes) reason
    (same_line _ (line.Passed reason) (line_of l) (line_of-syntax l m name bytes is) e)

-- ---- lines one after another

-- the numbers and reasons of lines that are passed over, of which the first line has number n
abbrev pub passed_in : ℕ → List Line → List (ℕ × Reason)
passed_in n [] = []
passed_in n (line.Heard x ∷ lines) = passed_in (n + 1) lines
passed_in n (line.Passed reason ∷ lines) = (n, reason) ∷ passed_in (n + 1) lines

-- the line is in order, and a reader gives this of it
abbrev IsGiven : List ℕ → Line → Type 0
IsGiven l x = HasFields l × (line_of l ≡ Ok x)

-- what a reader gives of lines from number n on, which report S
pub record Said (n : ℕ) (lines : List (List ℕ)) (S : List Received) : Type 0 where
  pub given : List Line
  pub each : AllZip IsGiven lines given
  pub heard : receptions_of given ≡ S
  pub passes : PassesOver n lines (passed_in n given)

said : (n : ℕ) (lines : List (List ℕ)) (S : List Received) → ReportAll lines S → Said n lines S
said n [] S all = record { given = []; each = tt; heard = sym all; passes = refl }
said n (l ∷ lines) S (inl passed) =
    let found = passed-line_of l passed.0 in
    let its = passed.0 in
    let rest = said (n + 1) lines S passed.1 in
    record {
      given = line.Passed found.0 ∷ rest.given;
      each = (((its.0, its.1, its.2, its.3), found.1), rest.each);
      heard = rest.heard;
      passes = inr (
        found.0,
        passed_in (n + 1) rest.given,
        (
          its.0,
          its.1,
          its.2,
          its.3,
          reason_of l its.0 its.1 its.2 found.0 its.3 found.1,
        ),
        rest.passes,
        refl,
      );
    }
said n (l ∷ lines) S (inr one) =
    let x = one.0 in
    let rest = said (n + 1) lines one.1 one.3 in
    record {
      given = line.Heard x ∷ rest.given;
      each = (
        ((x.moment, x.receiver, one.2.0, one.2.1), reports-line_of l x one.2),
        rest.each,
      );
      heard = ap (λ T. x ∷ T) rest.heard ∙ sym one.4;
      passes = inl (x, one.2, rest.passes);
    }

-- the answers of these lines come before those of the rest
answers_after : (n : ℕ) (lines : List (List ℕ)) (given : List Line) (rest : List ℕ) (e : InputEnd)
    → AllZip IsGiven lines given → answers_from n (text_of_lines lines ++ rest) e
    ≡ prepended given (answers_from (n + length lines) rest e)
answers_after n [] [] rest e all =
    let same : n ≡ n + 0 = omega arith in ap (λ k. answers_from k rest e) same
answers_after n [] (x ∷ given) rest e all = absurd all
answers_after n (l ∷ lines) [] rest e all = absurd all
answers_after n (l ∷ lines) (x ∷ given) rest e all =
    let more = text_of_lines lines ++ rest in
    let number : n + 1 + length lines ≡ n + length (l ∷ lines) = omega arith in
    ap (λ t. answers_from n t e) (append_assoc (l ++ 10 ∷ []) (text_of_lines lines) rest)
    ∙ answers_from-line n (l ++ 10 ∷ []) more e (record { before = l; after = [] })
    (cut_at-append 10 l [] (line_lacks l all.0.0))
    ∙ ap (λ r. then_answers n r (answers_from (n + 1) more e)) all.0.1
    ∙ ap (λ a. prepended (x ∷ []) a) (answers_after (n + 1) lines given rest e all.1
    ∙ ap (λ k. prepended given (answers_from k rest e)) number)

-- ---- where a log ends

at_number : (n : ℕ) (cause : Option LogCause) (f : LogFault) → fault_at n cause ≡ Some f
    → f.line ≡ n
at_number n None f e = absurd cc
at_number n (Some cause) f e =
    let same : record { line = n; cause = cause } ≡ f = cc in
    sym (ap (λ (f : LogFault). f.line) same)

number_by : (n : ℕ) (r : Result Line LineFault) (rest : Answers) (f : LogFault)
    → (rest.fault ≡ Some f → f.line ≡ n + 1 + length rest.given)
    → (then_answers n r rest).fault ≡ Some f
    → f.line ≡ n + length (then_answers n r rest).given
number_by n (Ok x) rest f after is = let at = after is in omega (arith, at)
number_by n (Err fault) rest f after is =
    let at = at_number n (Some (log_cause_of fault)) f is in omega (arith, at)

-- a fault stands in the line after those that are given
fault_number : (n : ℕ) (parts : List (List ℕ)) (e : InputEnd) (f : LogFault)
    → (answers_of n parts e).fault ≡ Some f → f.line ≡ n + length (answers_of n parts e).given
fault_number n [] e f is = absurd cc
fault_number n (tail ∷ []) e f is =
    let at = at_number n (tail_cause tail e) f is in omega (arith, at)
fault_number n (l ∷ next ∷ more) e f is = number_by n (line_of l)
    (answers_of (n + 1) (next ∷ more) e) f (fault_number (n + 1) (next ∷ more) e f) is

none : {X : Type 0} (xs : List X) → length xs ≡ 0 → xs ≡ []
none [] e = refl
none (x ∷ xs) e = absurd (omega (arith, e))

-- ---- a whole log

-- all that is given of a log is that of its lines
pub record SaidWhole (text : List ℕ) (e : InputEnd) (S : List Received) (lines : List (List ℕ))
    : Type 0 where
  pub said : Said 1 lines S
  pub whole : (log_answers text e).given ≡ said.given

pub faultless_said : (t : List ℕ) (c : InputEnd) (S : List Received) (log : IsLogText t c S)
    → SaidWhole t c S log.lines
faultless_said t c S log =
    let its = said 1 log.lines S log.report in
    let same = ap (λ l. log_answers l c) (log.text_is ∙ sym (append-nil (text_of_lines log.lines)))
    ∙ ap (λ e. log_answers (text_of_lines log.lines ++ []) e) log.whole in
    record {
      said = its;
      whole = ap (λ (a : Answers). a.given)
          (same ∙ answers_after 1 log.lines its.given [] how.End its.each)
          ∙ append-nil its.given;
    }

pub faulty_said : (t : List ℕ) (c : InputEnd) (fault : LogFault) (log : HasLogFault t c fault)
    → SaidWhole t c log.before.0 log.lines
faulty_said t c fault log =
    let its = said 1 log.lines log.before.0 log.before.1 in
    let rest = answers_from (1 + length log.lines) log.rest c in
    let same = ap (λ l. log_answers l c) log.text_is
    ∙ answers_after 1 log.lines its.given log.rest c its.each in
    let at = fault_number (1 + length log.lines) (slice_split is_lf log.rest) c fault
    (sym (ap (λ (a : Answers). a.fault) same) ∙ log_fault-answers t c fault log) in
    record {
      said = its;
      whole = ap (λ (a : Answers). a.given) same
          ∙ ap (λ l. its.given ++ l) (none rest.given (omega (arith, at, log.number)))
          ∙ append-nil its.given;
    }
