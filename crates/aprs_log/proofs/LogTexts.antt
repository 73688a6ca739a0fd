-- A log's text, as relations and as the answers of its reading.
use Rattle.aprs_log.proofs.Common.{◌≡◌, ◌≢◌, ◌⊎◌, ℕ, zero, suc, ◌+◌, ◌<◌, ◌≤◌, nat_lt, Bool, true, false, List, [], ◌∷◌, ◌++◌, length, Option, None, Some, Result, Ok, Err, inl, inr, cond, refl, arith, sym, ap, ◌∙◌, subst, append_assoc, eqb-true, AllByRecursion, cases_lt, nat_tests, All-from_recursion, recursion_from_All, is_hex_digit, decode_of-ok, Cut, is_byte, Lacks, cut_at-append, cut_at-parts, InputEnd}
use Rattle.aprs_io.specs.Cut.{cut_at}
use Rattle.std.proofs.Common.{append-nil, length-append}
use Rattle.aprs_io.specs.declared.input.InputEnd.TheVariants as how
use Rattle.aprs_log.specs.Fault.{log_cause_of}
use Rattle.aprs_log.specs.Line.{line_of}
use Rattle.aprs_log.specs.LineText.{IsWrongLine}
use Rattle.aprs_log.specs.LogAnswers.{Answers, answers_from, end_with, short_tail_cause, fault_at, log_answers, receptions_of, tail_cause, then_answers}
use Rattle.aprs_log.specs.LogText.{BeginsWrong, HasLogFault, HasNoLf, IsLogText, IsWrongTail, ReportAll, text_of_lines}
use Rattle.aprs_log.specs.Reception.{Received}
use Rattle.aprs_log.specs.declared.fault.LineFault.{LineFault}
use Rattle.aprs_log.specs.declared.fault.LogCause.{LogCause}
use Rattle.aprs_log.specs.declared.fault.LogCause.TheVariants as why
use Rattle.aprs_log.specs.declared.fault.LogFault.{LogFault}
use Rattle.aprs_log.specs.declared.line.Line.{Line}
use Rattle.aprs_log.specs.declared.line.Line.TheVariants as line
use Rattle.aprs_log.specs.declared.line.TheConstants.{MAX_LINE}
use Rattle.aprs_log.proofs.Lines.{HasFields, moment_lacks, name_lacks}
use Rattle.aprs_log.proofs.LineTexts.{line_of-is, line_of-passed, line_of-reports, line_of-wrong, passed-line_of, reports-line_of, wrong-line_of}
use Rattle.aprs_log.proofs.LogAnswers.{answers_from-line, answers_from-tail, no_lf, too_long_tail}
use Rattle.aprs_log.proofs.Moments.{IsTextOf-text}

-- ---- bytes without an LF

differs : (b : ℕ) → is_byte 10 b ≡ false → b ≢ 10
differs b e = λ same.
    let is : is_byte 10 b ≡ true = ap (is_byte 10) same in
    let bad : true ≡ false = sym is ∙ e in cc

is_other : (b : ℕ) (t : Bool) → is_byte 10 b ≡ t → b ≢ 10 → t ≡ false
is_other b true e h = absurd (h (eqb-true b 10 e))
is_other b false e h = refl

each_differs : (l : List ℕ) → Lacks 10 l → AllByRecursion (λ b. b ≢ 10) l
each_differs [] h = tt
each_differs (b ∷ l) h = (differs b h.0, each_differs l h.1)

each_lacks : (l : List ℕ) → AllByRecursion (λ b. b ≢ 10) l → Lacks 10 l
each_lacks [] h = tt
each_lacks (b ∷ l) h = (is_other b (is_byte 10 b) refl h.0, each_lacks l h.1)

pub lacks-none : (l : List ℕ) → Lacks 10 l → HasNoLf l
lacks-none l h = All-from_recursion (λ b. b ≢ 10) l (each_differs l h)

none-lacks : (l : List ℕ) → HasNoLf l → Lacks 10 l
none-lacks l h = each_lacks l (recursion_from_All (λ b. b ≢ 10) l h)

lacks_append : (a b : List ℕ) → Lacks 10 a → Lacks 10 b → Lacks 10 (a ++ b)
lacks_append [] b h k = k
lacks_append (x ∷ a) b h k = (h.0, lacks_append a b h.1 k)

has_lf : (a b : List ℕ) → Lacks 10 (a ++ 10 ∷ b) → ⊥
has_lf [] b h = let bad : true ≡ false = h.0 in cc
has_lf (x ∷ a) b h = has_lf a b h.1

digit_differs : (c : ℕ) (t : Bool) → is_byte 10 c ≡ t → is_hex_digit c ≡ true → t ≡ false
digit_differs c true e h =
    let bad : false ≡ true = subst (λ c. is_hex_digit c ≡ true) (eqb-true c 10 e) h in
    absurd cc
digit_differs c false e h = refl

digits_lack : (ds : List ℕ) → AllByRecursion (λ c. is_hex_digit c ≡ true) ds → Lacks 10 ds
digits_lack [] h = tt
digits_lack (c ∷ ds) h = (digit_differs c (is_byte 10 c) refl h.0, digits_lack ds h.1)

-- a line of the syntax has none
pub line_lacks : (l : List ℕ) → HasFields l → Lacks 10 l
line_lacks l h =
    let is = h.3 in
    let text = is.fields.1.0 in
    let digits = digits_lack is.digits (recursion_from_All (λ c. is_hex_digit c ≡ true) is.digits
    (decode_of-ok is.digits h.2 is.is_hex).1) in
    let name = name_lacks 10 (omega arith) h.1 is.fields.0 in
    let moment = moment_lacks 10 (omega arith) h.0 text (IsTextOf-text h.0 text is.fields.1.1) in
    subst (Lacks 10) (sym is.fields.1.2)
    (lacks_append text (32 ∷ (h.1 ++ 32 ∷ is.digits)) moment
    (refl, lacks_append h.1 (32 ∷ is.digits) name (refl, digits)))

-- a text has no LF, or is cut at its first
record FirstLine (text : List ℕ) : Type 0 where
  line : List ℕ
  more : List ℕ
  is : text ≡ line ++ 10 ∷ more
  lacks : Lacks 10 line

first_by : (b : ℕ) (text : List ℕ) (t : Bool) → is_byte 10 b ≡ t
    → Lacks 10 text ⊎ FirstLine text → Lacks 10 (b ∷ text) ⊎ FirstLine (b ∷ text)
first_by b text true e found = inr (record {
  line = [];
  more = text;
  is = ap (λ c. c ∷ text) (eqb-true b 10 e);
  lacks = tt;
})
first_by b text false e (inl lacks) = inl (e, lacks)
first_by b text false e (inr first) = inr (record {
  line = b ∷ first.line;
  more = first.more;
  is = ap (λ l. b ∷ l) first.is;
  lacks = (e, first.lacks);
})

first_line : (text : List ℕ) → Lacks 10 text ⊎ FirstLine text
first_line [] = inl tt
first_line (b ∷ text) = first_by b text (is_byte 10 b) refl (first_line text)

-- ---- the answers of a text

-- the first line is answered, and then what follows it
answers_from-first : (n : ℕ) (l more : List ℕ) (e : InputEnd) → Lacks 10 l
    → answers_from n (l ++ 10 ∷ more) e
    ≡ then_answers n (line_of l) (answers_from (n + 1) more e)
answers_from-first n l more e h =
    ap (λ t. answers_from n t e) (sym (append_assoc l (10 ∷ []) more))
    ∙ answers_from-line n (l ++ 10 ∷ []) more e (record { before = l; after = [] })
    (cut_at-append 10 l [] h)

uncut_by : (t : List ℕ) → Lacks 10 t → (o : Option Cut) → cut_at 10 t ≡ o → cut_at 10 t ≡ None
uncut_by t h None e = e
uncut_by t h (Some cut) e =
    absurd (has_lf cut.before cut.after (subst (Lacks 10) (cut_at-parts 10 t cut e) h))

-- what has no LF is the tail
answers_from-last : (n : ℕ) (t : List ℕ) (e : InputEnd) → Lacks 10 t
    → answers_from n t e ≡ end_with (fault_at n (tail_cause t e))
answers_from-last n t e h =
    answers_from-tail n t e (no_lf t (uncut_by t h (cut_at 10 t) refl))

-- ---- the tail

short_tail : (t : List ℕ) (e : InputEnd) → length t ≤ MAX_LINE → tail_cause t e ≡ short_tail_cause e t
short_tail t e h = unless_long (nat_lt MAX_LINE (length t)) (grind (arith, nat_tests)) where
  unless_long : (b : Bool) → b ≡ false
      → cond b (Some why.LongLine) (short_tail_cause e t) ≡ short_tail_cause e t
  unless_long true h = absurd (let bad : true ≡ false = h in cc)
  unless_long false h = refl

some_same : (c d : LogCause) (o : Option LogCause) → o ≡ Some c → o ≡ Some d → c ≡ d
some_same c d o e f = cc

none_some : (c : LogCause) (o : Option LogCause) → o ≡ None → o ≡ Some c → ⊥
none_some c o e f = absurd cc

good_ending : (t : List ℕ) (e : InputEnd) → short_tail_cause e t ≡ None → (t ≡ []) × (e ≡ how.End)
good_ending t how.Read h = absurd cc
good_ending t how.TooLong h = absurd cc
good_ending [] how.End h = (refl, refl)
good_ending (b ∷ t) how.End h = absurd cc

wrong_ending : (t : List ℕ) (e : InputEnd) (c : LogCause) → length t ≤ MAX_LINE
    → short_tail_cause e t ≡ Some c → IsWrongTail t e c
wrong_ending t how.Read c short h =
    subst (IsWrongTail t how.Read) (some_same why.Read c _ refl h) (short, refl)
wrong_ending t how.TooLong c short h =
    subst (IsWrongTail t how.TooLong) (some_same why.TooLong c _ refl h) (short, refl)
wrong_ending [] how.End c short h = absurd cc
wrong_ending (b ∷ t) how.End c short h =
    subst (IsWrongTail (b ∷ t) how.End) (some_same why.NoNewline c _ refl h)
    (short, refl, λ e. let bad : ⊥ = absurd cc in bad)

good_tail : (t : List ℕ) (e : InputEnd) → tail_cause t e ≡ None → (t ≡ []) × (e ≡ how.End)
good_tail t e h = elim (cases_lt MAX_LINE (length t)) as (λ _. (t ≡ []) × (e ≡ how.End)) [
  | inl long ↦ absurd (none_some why.LongLine (tail_cause t e) h (too_long_tail t e long))
  | inr short ↦ good_ending t e (sym (short_tail t e short) ∙ h)
]

wrong_tail : (t : List ℕ) (e : InputEnd) (c : LogCause) → tail_cause t e ≡ Some c
    → IsWrongTail t e c
wrong_tail t e c h = elim (cases_lt MAX_LINE (length t)) as (λ _. IsWrongTail t e c) [
  | inl long ↦
      subst (IsWrongTail t e) (some_same why.LongLine c _ (too_long_tail t e long) h) long
  | inr short ↦ wrong_ending t e c short (sym (short_tail t e short) ∙ h)
]

not_newline : (t : List ℕ) → t ≢ [] → short_tail_cause how.End t ≡ Some why.NoNewline
not_newline [] h = absurd (h refl)
not_newline (b ∷ t) h = refl

cause_of_tail : (t : List ℕ) (e : InputEnd) (c : LogCause) → IsWrongTail t e c
    → tail_cause t e ≡ Some c
cause_of_tail t e why.LongLine h = too_long_tail t e h
cause_of_tail t e why.NoNewline h =
    short_tail t e h.0 ∙ ap (λ e. short_tail_cause e t) h.1 ∙ not_newline t h.2
cause_of_tail t e why.Moment h = absurd h
cause_of_tail t e why.Receiver h = absurd h
cause_of_tail t e why.Hex h = absurd h
cause_of_tail t e why.Read h = short_tail t e h.0 ∙ ap (λ e. short_tail_cause e t) h.1
cause_of_tail t e why.TooLong h = short_tail t e h.0 ∙ ap (λ e. short_tail_cause e t) h.1
cause_of_tail t e why.Memory h = absurd h

-- ---- what the answers tell of the text

-- as `HasLogFault`, where the first line is line n
record FaultFrom (n : ℕ) (text : List ℕ) (e : InputEnd) (fault : LogFault) : Type 0 where
  lines : List (List ℕ)
  rest : List ℕ
  text_is : text ≡ text_of_lines lines ++ rest
  before : (S : List Received) × ReportAll lines S
  number : fault.line ≡ length lines + n
  wrong : BeginsWrong rest e fault.cause

first_number : (n : ℕ) → n ≡ 0 + n
first_number n = omega arith

record Tells (n : ℕ) (text : List ℕ) (e : InputEnd) (answers : Answers) : Type 0 where
  sound : answers.fault ≡ None → IsLogText text e (receptions_of answers.given)
  fault : (f : LogFault) → answers.fault ≡ Some f → FaultFrom n text e f

no_cause : (n : ℕ) (o : Option LogCause) → fault_at n o ≡ None → o ≡ None
no_cause n None e = refl
no_cause n (Some c) e = absurd cc

record IsFault (n : ℕ) (o : Option LogCause) (f : LogFault) : Type 0 where
  line : f.line ≡ n
  cause : o ≡ Some f.cause

is_fault : (n : ℕ) (o : Option LogCause) (f : LogFault) → fault_at n o ≡ Some f → IsFault n o f
is_fault n None f e = absurd cc
is_fault n (Some c) f e =
    let same : record { line = n; cause = c } ≡ f = cc in record {
      line = sym (ap (λ (f : LogFault). f.line) same);
      cause = ap (λ (f : LogFault). Some f.cause) same;
    }

tells_last : (n : ℕ) (t : List ℕ) (e : InputEnd) → Lacks 10 t
    → Tells n t e (end_with (fault_at n (tail_cause t e)))
tells_last n t e h = record {
  sound = λ none.
      let good = good_tail t e (no_cause n (tail_cause t e) none) in
      record { lines = []; text_is = good.0; whole = good.1; report = refl };
  fault = λ f some.
      let is = is_fault n (tail_cause t e) f some in record {
        lines = [];
        rest = t;
        text_is = refl;
        before = ([], refl);
        number = is.line ∙ first_number n;
        wrong = inl (lacks-none t h, wrong_tail t e f.cause is.cause);
      };
}

module _ (n : ℕ) (l more : List ℕ) (e : InputEnd) (answers : Answers)
    (told : Tells (n + 1) more e answers) where
  lines_join : (lines : List (List ℕ)) (rest : List ℕ) → more ≡ text_of_lines lines ++ rest
      → l ++ 10 ∷ more ≡ text_of_lines (l ∷ lines) ++ rest
  lines_join lines rest is = ap (λ t. l ++ 10 ∷ t) is
      ∙ sym (append_assoc l (10 ∷ []) (text_of_lines lines ++ rest))
      ∙ sym (append_assoc (l ++ 10 ∷ []) (text_of_lines lines) rest)

  all_join : (lines : List (List ℕ)) → more ≡ text_of_lines lines
      → l ++ 10 ∷ more ≡ text_of_lines (l ∷ lines)
  all_join lines is = ap (λ t. l ++ 10 ∷ t) is
      ∙ sym (append_assoc l (10 ∷ []) (text_of_lines lines))

  -- a line that is in order goes before what is told of the rest
  join : (add : List Received → List Received)
      → ((lines : List (List ℕ)) (S : List Received) → ReportAll lines S
      → ReportAll (l ∷ lines) (add S))
      → (given : List Line) → receptions_of given ≡ add (receptions_of answers.given)
      → Tells n (l ++ 10 ∷ more) e (record { given = given; fault = answers.fault })
  join add reports given is = record {
    sound = λ none.
        let rest = told.sound none in record {
          lines = l ∷ rest.lines;
          text_is = all_join rest.lines rest.text_is;
          whole = rest.whole;
          report = subst (ReportAll (l ∷ rest.lines)) (sym is)
              (reports rest.lines (receptions_of answers.given) rest.report);
        };
    fault = λ f some.
        let after = told.fault f some in record {
          lines = l ∷ after.lines;
          rest = after.rest;
          text_is = lines_join after.lines after.rest after.text_is;
          before = (add after.before.0, reports after.lines after.before.0 after.before.1);
          number = omega (arith, after.number);
          wrong = after.wrong;
        };
  }

  tells_line : Lacks 10 l → (r : Result Line LineFault) → line_of l ≡ r
      → Tells n (l ++ 10 ∷ more) e (then_answers n r answers)
  tells_line h (Ok (line.Heard x)) is =
      join (λ S. x ∷ S) (λ lines S all. inr (x, S, line_of-reports l x is, all, refl))
      (line.Heard x ∷ answers.given) refl
  tells_line h (Ok (line.Passed reason)) is =
      join (λ S. S) (λ lines S all. inl (line_of-passed l (reason, is), all))
      (line.Passed reason ∷ answers.given) refl
  tells_line h (Err fault) is = record {
    sound = λ none. absurd cc;
    fault = λ f some.
        let is_f = is_fault n (Some (log_cause_of fault)) f some in record {
          lines = [];
          rest = l ++ 10 ∷ more;
          text_is = refl;
          before = ([], refl);
          number = is_f.line ∙ first_number n;
          wrong = inr (
            l,
            more,
            refl,
            lacks-none l h,
            subst (IsWrongLine l) (some_same (log_cause_of fault) f.cause _ refl is_f.cause)
                (line_of-wrong l fault is),
          );
        };
  }

shorter : (text l more : List ℕ) → text ≡ l ++ 10 ∷ more → length more < length text
shorter text l more is =
    let len : length (l ++ 10 ∷ more) ≡ length l + (length more + 1)
    = simp length-append (omega arith) in
    let same : length text ≡ length (l ++ 10 ∷ more) = ap length is in
    omega (arith, len, same)

tells_by : (n : ℕ) (text : List ℕ) (e : InputEnd)
    → ((more : List ℕ) → length more < length text
    → Tells (n + 1) more e (answers_from (n + 1) more e))
    → Lacks 10 text ⊎ FirstLine text → Tells n text e (answers_from n text e)
tells_by n text e told (inl lacks) =
    subst (Tells n text e) (sym (answers_from-last n text e lacks)) (tells_last n text e lacks)
tells_by n text e told (inr first) =
    let l = first.line in
    let more = first.more in
    let one = tells_line n l more e (answers_from (n + 1) more e)
    (told more (shorter text l more first.is)) first.lacks (line_of l) refl in
    subst (λ t. Tells n t e (answers_from n t e)) (sym first.is)
    (subst (Tells n (l ++ 10 ∷ more) e) (sym (answers_from-first n l more e first.lacks)) one)

tells : (k n : ℕ) (text : List ℕ) (e : InputEnd) → length text ≤ k
    → Tells n text e (answers_from n text e)
tells zero n text e few =
    tells_by n text e (λ more less. absurd (omega (arith, few, less))) (first_line text)
tells (suc k) n text e few =
    tells_by n text e (λ more less. tells k (n + 1) more e (omega (arith, few, less)))
    (first_line text)

-- ---- what the text tells of the answers

-- lines that are in order are answered, and then the rest
record Gives (lines : List (List ℕ)) (S : List Received) (n : ℕ) (rest : List ℕ) (e : InputEnd)
    : Type 0 where
  fault : (answers_from n (text_of_lines lines ++ rest) e).fault
      ≡ (answers_from (length lines + n) rest e).fault
  heard : receptions_of (answers_from n (text_of_lines lines ++ rest) e).given
      ≡ S ++ receptions_of (answers_from (length lines + n) rest e).given

answers_join : (n : ℕ) (l : List ℕ) (lines : List (List ℕ)) (rest : List ℕ) (e : InputEnd) (x : Line)
    → line_of l ≡ Ok x → answers_from n (text_of_lines (l ∷ lines) ++ rest) e
    ≡ then_answers n (Ok x) (answers_from (n + 1) (text_of_lines lines ++ rest) e)
answers_join n l lines rest e x found =
    ap (λ t. answers_from n t e) (append_assoc (l ++ 10 ∷ []) (text_of_lines lines) rest
    ∙ append_assoc l (10 ∷ []) (text_of_lines lines ++ rest))
    ∙ answers_from-first n l (text_of_lines lines ++ rest) e (line_lacks l (line_of-is l x found))
    ∙ ap (λ r. then_answers n r (answers_from (n + 1) (text_of_lines lines ++ rest) e)) found

abbrev heard_in : Answers → List Received
heard_in answers = receptions_of answers.given

next_number : (k n : ℕ) → k + (n + 1) ≡ suc k + n
next_number k n = omega arith

gives : (lines : List (List ℕ)) (S : List Received) → ReportAll lines S → (n : ℕ) (rest : List ℕ)
    (e : InputEnd) → Gives lines S n rest e
gives [] S all n rest e =
    let at = ap (λ k. answers_from k rest e) (first_number n) in record {
      fault = ap (λ (a : Answers). a.fault) at;
      heard = ap heard_in at
          ∙ ap (λ S. S ++ heard_in (answers_from (0 + n) rest e)) (sym all);
    }
gives (l ∷ lines) S (inl passed) n rest e =
    let found = passed-line_of l passed.0 in
    let joined = answers_join n l lines rest e (line.Passed found.0) found.1 in
    let more = gives lines S passed.1 (n + 1) rest e in
    let at = ap (λ k. answers_from k rest e) (next_number (length lines) n) in record {
      fault = ap (λ (a : Answers). a.fault) joined ∙ more.fault ∙ ap (λ (a : Answers). a.fault) at;
      heard = ap heard_in joined ∙ more.heard ∙ ap (λ a. S ++ heard_in a) at;
    }
gives (l ∷ lines) S (inr one) n rest e =
    let x = one.0 in
    let T = one.1 in
    let found = reports-line_of l x one.2 in
    let joined = answers_join n l lines rest e (line.Heard x) found in
    let more = gives lines T one.3 (n + 1) rest e in
    let at = ap (λ k. answers_from k rest e) (next_number (length lines) n) in record {
      fault = ap (λ (a : Answers). a.fault) joined ∙ more.fault ∙ ap (λ (a : Answers). a.fault) at;
      heard = ap heard_in joined ∙ ap (λ S. x ∷ S) more.heard ∙ ap (λ a. x ∷ (T ++ heard_in a)) at
          ∙ ap (λ S. S ++ heard_in (answers_from (length (l ∷ lines) + n) rest e))
          (sym one.4);
    }

-- ---- both ways

pub answers-log_text : (text : List ℕ) (e : InputEnd) (S : List Received)
    → ((log_answers text e).fault ≡ None) × (receptions_of (log_answers text e).given ≡ S)
    → IsLogText text e S
answers-log_text text e S h = subst (IsLogText text e) h.1
    ((tells (length text) 1 text e (omega arith)).sound h.0)

pub log_text-answers : (text : List ℕ) (e : InputEnd) (S : List Received) → IsLogText text e S
    → ((log_answers text e).fault ≡ None) × (receptions_of (log_answers text e).given ≡ S)
log_text-answers text e S h =
    let all = gives h.lines S h.report 1 [] how.End in
    let same : log_answers text e ≡ log_answers (text_of_lines h.lines ++ []) how.End
    = ap (λ t. log_answers t e) (h.text_is ∙ sym (append-nil (text_of_lines h.lines)))
    ∙ ap (λ e. log_answers (text_of_lines h.lines ++ []) e) h.whole in (
      ap (λ (a : Answers). a.fault) same ∙ all.fault,
      ap heard_in same ∙ all.heard ∙ append-nil S,
    )

pub answers-log_fault : (text : List ℕ) (e : InputEnd) (fault : LogFault)
    → (log_answers text e).fault ≡ Some fault → HasLogFault text e fault
answers-log_fault text e fault h =
    let found = (tells (length text) 1 text e (omega arith)).fault fault h in record {
      lines = found.lines;
      rest = found.rest;
      text_is = found.text_is;
      before = found.before;
      number = found.number;
      wrong = found.wrong;
    }

fault_there : (n : ℕ) (rest : List ℕ) (e : InputEnd) (cause : LogCause) → BeginsWrong rest e cause
    → (answers_from n rest e).fault ≡ Some (record { line = n; cause = cause })
fault_there n rest e cause (inl tail) =
    ap (λ (a : Answers). a.fault) (answers_from-last n rest e (none-lacks rest tail.0))
    ∙ ap (fault_at n) (cause_of_tail rest e cause tail.1)
fault_there n rest e cause (inr wrong) =
    let l = wrong.0 in
    let more = wrong.1 in
    let refused = wrong-line_of l cause wrong.4 in
    ap (λ t. (answers_from n t e).fault) wrong.2
    ∙ ap (λ (a : Answers). a.fault)
    (answers_from-first n l more e (none-lacks l wrong.3)
    ∙ ap (λ r. then_answers n r (answers_from (n + 1) more e)) refused.1)
    ∙ ap (λ c. fault_at n (Some c)) refused.2

pub log_fault-answers : (text : List ℕ) (e : InputEnd) (fault : LogFault)
    → HasLogFault text e fault → (log_answers text e).fault ≡ Some fault
log_fault-answers text e fault h =
    ap (λ t. (log_answers t e).fault) h.text_is
    ∙ (gives h.lines h.before.0 h.before.1 1 h.rest e).fault
    ∙ fault_there (length h.lines + 1) h.rest e fault.cause h.wrong
    ∙ ap (λ (n : ℕ). Some (record { line = n; cause = fault.cause })) (sym h.number)
