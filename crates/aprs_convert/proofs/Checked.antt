-- Lemmas on a check over the lines that a reader gives.
use Rattle.aprs_convert.proofs.Common.{◌≡◌, ℕ, ◌+◌, List, [], ◌∷◌, ◌++◌, length, Option, None, Some, Ok, Err, refl, ap, sym, ◌∙◌, arith, append_assoc, append-nil, subst, Appends, Appends-nil, Appends-trans, AppendsPrefix, AppendsPrefix-more, AppendsPrefix-then, Answers, end_with, prepend_line, LogFault, Reason, Line}
use Rattle.std.proofs.lemmas.List.{length-append}
use Rattle.aprs_log.specs.declared.line.Line.TheVariants.{Heard, Passed}
use Rattle.aprs_log.specs.Reception.{Received as Reception}
use Rattle.aprs_convert.specs.Plan.{RunsOver, check_lines, check_of, check_plan, count_heard, count_passed, totals}
use Rattle.aprs_convert.specs.Check.{passed_line_of, totals_line_of}
use Rattle.aprs_convert.specs.declared.fault.ConvertFault.{ConvertFault}
use Rattle.aprs_convert.specs.declared.fault.ConvertFault.TheVariants.{Log, Write}
use Rattle.aprs_convert.proofs.Seen.{HasSeen, HasSeen-none, HasSeen-line, IsWhole, over, prepended}

-- the report of a line, with its LF
abbrev report : ℕ → Reason → List ℕ
report n reason = passed_line_of (n, reason) ++ 10 ∷ []

-- that of how many there are, with its LF
abbrev sums : ℕ → ℕ → List ℕ
sums heard passed = totals_line_of heard passed ++ 10 ∷ []

check_lines-append : (n : ℕ) (xs ys : List Line)
    → check_lines n (xs ++ ys) ≡ check_lines n xs ++ check_lines (n + length xs) ys
check_lines-append n [] ys = let e : n ≡ n + 0 = omega arith in ap (λ k. check_lines k ys) e
check_lines-append n (Heard x ∷ xs) ys =
    let e : n + 1 + length xs ≡ n + length (Heard x ∷ xs) = omega arith in
    check_lines-append (n + 1) xs ys ∙ ap (λ k. check_lines (n + 1) xs ++ check_lines k ys) e
check_lines-append n (Passed reason ∷ xs) ys =
    let e : n + 1 + length xs ≡ n + length (Passed reason ∷ xs) = omega arith in
    ap (λ l. report n reason ++ l) (check_lines-append (n + 1) xs ys
    ∙ ap (λ k. check_lines (n + 1) xs ++ check_lines k ys) e)
    ∙ sym (append_assoc (report n reason) (check_lines (n + 1) xs)
    (check_lines (n + length (Passed reason ∷ xs)) ys))

count_heard-more : (xs : List Line) (x : Line)
    → count_heard (xs ++ x ∷ []) ≡ count_heard xs + count_heard (x ∷ [])
count_heard-more [] x = omega arith
count_heard-more (Heard y ∷ xs) x = let e = count_heard-more xs x in omega arith
count_heard-more (Passed y ∷ xs) x = count_heard-more xs x

count_passed-more : (xs : List Line) (x : Line)
    → count_passed (xs ++ x ∷ []) ≡ count_passed xs + count_passed (x ∷ [])
count_passed-more [] x = omega arith
count_passed-more (Heard y ∷ xs) x = count_passed-more xs x
count_passed-more (Passed y ∷ xs) x = let e = count_passed-more xs x in omega arith

counts : (xs : List Line) → count_heard xs + count_passed xs ≡ length xs
counts [] = omega arith
counts (Heard x ∷ xs) = let e = counts xs in omega arith
counts (Passed x ∷ xs) = let e = counts xs in omega arith

-- what a check of these lines has written and counted
pub record Checked (first now : Answers → Type 0) (old new : Option (List ℕ))
    (heard passed lines : ℕ) : Type 0 where
  pub seen : List Line
  pub has : HasSeen first now seen
  pub out : Appends old new (check_lines 1 seen)
  pub heard_is : heard ≡ count_heard seen
  pub passed_is : passed ≡ count_passed seen
  pub lines_are : lines ≡ length seen

pub Checked-none : (first : Answers → Type 0) (a : Option (List ℕ)) (lines : ℕ) → lines ≡ 0
    → Checked first first a a 0 0 lines
Checked-none first a lines none =
    record {
      seen = [];
      has = HasSeen-none first;
      out = Appends-nil a;
      heard_is = refl;
      passed_is = refl;
      lines_are = none;
    }

-- the line that was given is this one
given_as : (after now : Answers → Type 0) (line x : Line) → line ≡ x
    → ((a : Answers) → after a → now (prepend_line line a))
    → (a : Answers) → after a → now (prepend_line x a)
given_as after now line x is next a may = subst (λ (y : Line). now (prepend_line y a)) is (next a may)

pub Checked-sum : (first now : Answers → Type 0) (old new : Option (List ℕ))
    (heard passed lines : ℕ) → Checked first now old new heard passed lines → heard + passed ≡ lines
Checked-sum first now old new heard passed lines h =
    let sum = counts h.seen in
    let a = h.heard_is in
    let b = h.passed_is in
    let c = h.lines_are in
    omega arith

module _ (first now after : Answers → Type 0) (a b : Option (List ℕ)) (heard passed lines : ℕ)
    (h : Checked first now a b heard passed lines) (count : ℕ) (next_line : count ≡ lines + 1) where
  -- a line is heard
  pub Checked-heard : (line : Line) (x : Reception) → line ≡ Heard x
      → ((answers : Answers) → after answers → now (prepend_line line answers))
      → Checked first after a b (heard + 1) passed count
  Checked-heard line x is given =
      let next = given_as after now line (Heard x) is given in
      let k = h.heard_is in
      let p = h.passed_is in
      let n = h.lines_are in
      let kmore = count_heard-more h.seen (Heard x) in
      let pmore = count_passed-more h.seen (Heard x) in
      let len = length-append h.seen (Heard x ∷ []) in
      record {
        seen = h.seen ++ Heard x ∷ [];
        has = HasSeen-line first now after h.seen (Heard x) h.has next;
        out = subst (Appends a b) (sym (check_lines-append 1 h.seen (Heard x ∷ [])
            ∙ append-nil (check_lines 1 h.seen))) h.out;
        heard_is = omega arith;
        passed_is = omega arith;
        lines_are = omega arith;
      }

  -- a line is passed over, which is reported
  pub Checked-passed : (c : Option (List ℕ)) (number : ℕ) (line : Line) (reason : Reason)
      → number ≡ count → line ≡ Passed reason
      → ((answers : Answers) → after answers → now (prepend_line line answers))
      → Appends b c (report number reason) → Checked first after a c heard (passed + 1) count
  Checked-passed c number line reason same is given out =
      let next = given_as after now line (Passed reason) is given in
      let k = h.heard_is in
      let p = h.passed_is in
      let n = h.lines_are in
      let kmore = count_heard-more h.seen (Passed reason) in
      let pmore = count_passed-more h.seen (Passed reason) in
      let len = length-append h.seen (Passed reason ∷ []) in
      let at : number ≡ 1 + length h.seen = omega arith in
      let text : check_lines 1 (h.seen ++ Passed reason ∷ []) ≡ check_lines 1 h.seen
      ++ report number reason =
      check_lines-append 1 h.seen (Passed reason ∷ [])
      ∙ ap (λ l. check_lines 1 h.seen ++ l) (append-nil (report (1 + length h.seen) reason)
      ∙ ap (λ i. report i reason) (sym at)) in
      record {
        seen = h.seen ++ Passed reason ∷ [];
        has = HasSeen-line first now after h.seen (Passed reason) h.has next;
        out = subst (Appends a c) (sym text) (Appends-trans a b c (check_lines 1 h.seen)
            (report number reason) h.out out);
        heard_is = omega arith;
        passed_is = omega arith;
        lines_are = omega arith;
      }

  -- the report of such a line is refused
  pub Checked-refused : (limit : ℕ) (known end c : Option (List ℕ)) (number : ℕ) (line : Line)
      (reason : Reason) → number ≡ count → line ≡ Passed reason
      → ((answers : Answers) → after answers → now (prepend_line line answers))
      → (answers : Answers) → after answers → AppendsPrefix b c (report number reason)
      → IsWhole first limit known end
      → RunsOver check_plan limit known end (Err Write) a c
  Checked-refused limit known end c number line reason same is given answers may prefix whole =
      let next = given_as after now line (Passed reason) is given in
      let n = h.lines_are in
      let at : number ≡ 1 + length h.seen = omega arith in
      let line = report number reason in
      let all = prepended h.seen (prepend_line (Passed reason) answers) in
      let more = check_lines (1 + length h.seen + 1) answers.given
      ++ totals answers.fault all.given in
      let text : check_of all ≡ (check_lines 1 h.seen ++ line) ++ more =
      ap (λ l. l ++ totals answers.fault all.given)
      (check_lines-append 1 h.seen (Passed reason ∷ answers.given)
      ∙ ap (λ i. check_lines 1 h.seen ++ (report i reason
      ++ check_lines (1 + length h.seen + 1) answers.given)) (sym at)
      ∙ sym (append_assoc (check_lines 1 h.seen) line
      (check_lines (1 + length h.seen + 1) answers.given)))
      ∙ append_assoc (check_lines 1 h.seen ++ line)
      (check_lines (1 + length h.seen + 1) answers.given) (totals answers.fault all.given) in
      over check_of limit known end (Err Write) a c all
      (whole all (h.has.complete (prepend_line (Passed reason) answers) (next answers may)))
      (subst (AppendsPrefix a c) (sym text) (AppendsPrefix-more a c
      (check_lines 1 h.seen ++ line) more
      (AppendsPrefix-then a b c (check_lines 1 h.seen) line h.out prefix)))

module _ (first now : Answers → Type 0) (a b : Option (List ℕ)) (heard passed lines : ℕ)
    (h : Checked first now a b heard passed lines) (limit : ℕ) (known end : Option (List ℕ))
    (whole : IsWhole first limit known end) where
  seen_whole : (fault : Option LogFault) → check_of (prepended h.seen (end_with fault))
      ≡ check_lines 1 h.seen ++ totals fault h.seen
  seen_whole fault = ap (λ (lines : List Line). check_lines 1 lines ++ totals fault lines)
      (append-nil h.seen)

  text_is : check_of (prepended h.seen (end_with None)) ≡ check_lines 1 h.seen
      ++ sums heard passed
  text_is = seen_whole None ∙ ap (λ k. check_lines 1 h.seen ++ sums k (count_passed h.seen))
      (sym h.heard_is)
      ∙ ap (λ k. check_lines 1 h.seen ++ sums heard k) (sym h.passed_is)

  -- the log ended
  pub Checked-ended : (c : Option (List ℕ)) → now (end_with None)
      → Appends b c (sums heard passed)
      → RunsOver check_plan limit known end (Ok tt) a c
  Checked-ended c may out =
      over check_of limit known end (Ok tt) a c (prepended h.seen (end_with None))
      (whole _ (h.has.complete (end_with None) may)) (
        refl,
        subst (Appends a c) (sym text_is)
            (Appends-trans a b c (check_lines 1 h.seen) (sums heard passed) h.out out),
      )

  -- the totals are refused
  pub Checked-totals_refused : (c : Option (List ℕ)) → now (end_with None)
      → AppendsPrefix b c (sums heard passed)
      → RunsOver check_plan limit known end (Err Write) a c
  Checked-totals_refused c may prefix =
      over check_of limit known end (Err Write) a c (prepended h.seen (end_with None))
      (whole _ (h.has.complete (end_with None) may))
      (subst (AppendsPrefix a c) (sym text_is)
      (AppendsPrefix-then a b c (check_lines 1 h.seen) (sums heard passed) h.out prefix))

  -- the log has a fault
  pub Checked-fault : (fault : LogFault) (answer : ConvertFault) → answer ≡ Log fault
      → now (end_with (Some fault))
      → RunsOver check_plan limit known end (Err answer) a b
  Checked-fault fault answer same may =
      subst (λ (t : ConvertFault). RunsOver check_plan limit known end (Err t) a b) (sym same)
      (over check_of limit known end (Err (Log fault)) a b
      (prepended h.seen (end_with (Some fault)))
      (whole _ (h.has.complete (end_with (Some fault)) may)) (
        refl,
        subst (Appends a b) (sym (seen_whole (Some fault)
            ∙ append-nil (check_lines 1 h.seen))) h.out,
      ))
