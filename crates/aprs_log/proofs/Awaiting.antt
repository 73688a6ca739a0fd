-- Lemmas on what a reader of a log may still answer.
use Rattle.aprs_log.proofs.Common.{◌≡◌, ℕ, ◌+◌, ◌-◌, ◌<◌, ◌≤◌, List, [], ◌++◌, length, Option, None, Some, Ok, Err, IfSome, refl, arith, sym, ap, ◌∙◌, append_assoc, subst, Cut, InputEnd}
use Rattle.aprs_io.specs.Cut.{cut_at}
use Rattle.std.proofs.Common.{append-nil}
use Rattle.std.specs.Io.KnownBytes.{Consumes}
use Rattle.aprs_log.specs.States.{HasNotRunOutOfMemory, state_after}
use Rattle.aprs_log.specs.Fault.{log_cause_of}
use Rattle.aprs_log.specs.Line.{line_of}
use Rattle.aprs_log.specs.LogAnswers.{Answers, answers_from, end_with, fault_at, tail_cause, then_answers, prepend_line}
use Rattle.aprs_log.specs.Awaits.{AwaitsIn, EndsIfKnown, fault_after}
use Rattle.aprs_log.specs.Reader.{AreAnswersOf}
use Rattle.aprs_log.specs.declared.line.Line.{Line}
use Rattle.aprs_log.specs.declared.fault.LineFault.{LineFault}
use Rattle.aprs_log.specs.declared.fault.LineFault.TheVariants as fault
use Rattle.aprs_log.specs.declared.fault.LogCause.{LogCause}
use Rattle.aprs_log.specs.declared.fault.LogCause.TheVariants as cause
use Rattle.aprs_io.specs.declared.input.InputEnd.TheVariants as ending
use Rattle.aprs_log.specs.declared.reader.ending.State.{State}
use Rattle.aprs_log.specs.declared.reader.ending.State.TheVariants.{Reading, Ended, Failed}
pub use Rattle.aprs_io.proofs.Inputs.{Gets-nothing}
use Rattle.aprs_io.proofs.Inputs.{Gets-after}
use Rattle.aprs_log.proofs.LogAnswers.{answers_from-line, answers_from-tail, answers_from-long, no_lf}
use Rattle.aprs_log.specs.declared.line.TheConstants.{MAX_LINE}

-- an answer that doesn't depend on the bytes to come, where no more is read
always : (known : Option (List ℕ)) (left line : ℕ) (held : List ℕ) (a : Answers)
    → ((text : List ℕ) (c : InputEnd) → a ≡ answers_from (line + 1) (held ++ text) c)
    → AwaitsIn Reading known known left line held a
always None left line held a h = tt
always (Some input) left line held a h = record {
  text = [];
  ending = ending.Read;
  gets = Gets-nothing left input;
  is = h [] ending.Read;
}

-- ---- a line

pub awaits_line : (known end : Option (List ℕ)) (left line : ℕ) (held : List ℕ) (cut : Cut)
    (x : Line)
    (a : Answers) → cut_at 10 held ≡ Some cut
    → Ok x ≡ line_of cut.before → AwaitsIn Reading known end left (line + 1) cut.after a
    → AwaitsIn Reading known end left line held (prepend_line x a)
awaits_line None end left line held cut x a e f w = tt
awaits_line (Some input) end left line held cut x a e f w = record {
  text = w.text;
  ending = w.ending;
  gets = w.gets;
  is = ap (λ a. prepend_line x a) w.is
      ∙ ap (λ r. then_answers (line + 1) r
      (answers_from (line + 1 + 1) (cut.after ++ w.text) w.ending)) f
      ∙ sym (answers_from-line (line + 1) held w.text w.ending cut e);
}

pub awaits_fault : (known : Option (List ℕ)) (left line : ℕ) (held : List ℕ) (cut : Cut)
    (f : LineFault) → cut_at 10 held ≡ Some cut
    → Err f ≡ line_of cut.before
    → AwaitsIn Reading known known left line held
    (end_with (Some (fault_after line (log_cause_of f))))
awaits_fault known left line held cut f e g = always known left line held _
    (λ text c. ap (λ r. then_answers (line + 1) r
    (answers_from (line + 1 + 1) (cut.after ++ text) c)) g
    ∙ sym (answers_from-line (line + 1) held text c cut e))

-- ---- no whole line

pub awaits_long : (known : Option (List ℕ)) (left line : ℕ) (held : List ℕ)
    → cut_at 10 held ≡ None
    → MAX_LINE < length held
    → AwaitsIn Reading known known left line held (end_with (Some (fault_after line cause.LongLine)))
awaits_long known left line held none long = always known left line held _
    (λ text c. sym (answers_from-long (line + 1) held text c (no_lf held none) long))

pub awaits_end : (known end : Option (List ℕ)) (left line : ℕ) (held : List ℕ) (c : InputEnd)
    → cut_at 10 held ≡ None → EndsIfKnown c left known end
    → AwaitsIn Reading known end left line held (end_with (fault_at (line + 1) (tail_cause held c)))
awaits_end None end left line held c none ends = tt
awaits_end (Some input) end left line held c none ends = record {
  text = [];
  ending = c;
  gets = ends;
  is = sym (ap (λ t. answers_from (line + 1) t c) (append-nil held)
      ∙ answers_from-tail (line + 1) held c (no_lf held none));
}

-- ---- more bytes

pub awaits_more : (known after end : Option (List ℕ)) (left n line : ℕ) (held more : List ℕ)
    (a : Answers) → Consumes known after more → length more ≡ n
    → n ≤ left → AwaitsIn Reading after end (left - n) line (held ++ more) a
    → AwaitsIn Reading known end left line held a
awaits_more None after end left n line held more a took len le w = tt
awaits_more (Some input) None end left n line held more a took len le w = absurd took
awaits_more (Some input) (Some rest) end left n line held more a took len le w = record {
  text = more ++ w.text;
  ending = w.ending;
  gets = Gets-after left (left - n) input more rest w.text end w.ending took
      (omega (arith, len, le)) w.gets;
  is = w.is ∙ ap (λ t. answers_from (line + 1) t w.ending) (append_assoc held more w.text);
}

-- ---- from the first line on

pub from_start : (known end : Option (List ℕ)) (limit : ℕ) (head held : List ℕ) (a : Answers)
    → length head ≤ limit → held ≡ head
    → AwaitsIn Reading known end (limit - length head) 0 held a
    → IfSome known (λ input. AreAnswersOf limit (head ++ input) end a)
from_start None end limit head held a le e w = tt
from_start (Some input) end limit head held a le e w = record {
  text = head ++ w.text;
  ending = w.ending;
  gets = Gets-after limit (limit - length head) (head ++ input) head input w.text end w.ending refl
      (omega (arith, le)) w.gets;
  is = w.is ∙ ap (λ l. answers_from 1 (l ++ w.text) w.ending) e;
}

-- ---- the steps of a reader that goes on, by what the code knows of them

going_on : (s : State) (known end : Option (List ℕ)) (left line : ℕ) (held : List ℕ) (a : Answers)
    → s ≡ Reading
    → AwaitsIn Reading known end left line held a → AwaitsIn s known end left line held a
going_on s known end left line held a going w = subst (λ s. AwaitsIn s known end left line held a)
    (sym going) w

went_on : (s : State) (known end : Option (List ℕ)) (left line : ℕ) (held : List ℕ) (a : Answers)
    → s ≡ Reading
    → AwaitsIn s known end left line held a → AwaitsIn Reading known end left line held a
went_on s known end left line held a going w =
    subst (λ s. AwaitsIn s known end left line held a) going w

pub step_line : (s : State) (known end : Option (List ℕ)) (left line : ℕ) (held now : List ℕ)
    (x : Line) (cut : Cut) (a : Answers) → s ≡ Reading
    → cut_at 10 held ≡ Some cut → Ok x ≡ line_of cut.before → now ≡ cut.after
    → AwaitsIn s known end left (line + 1) now a
    → AwaitsIn s known end left line held (prepend_line x a)
step_line s known end left line held now x cut a going e f rest w =
    going_on s known end left line held (prepend_line x a) going
    (awaits_line known end left line held cut x a e f
    (subst (λ t. AwaitsIn Reading known end left (line + 1) t a) rest
    (went_on s known end left (line + 1) now a going w)))

pub step_fault : (s : State) (known end : Option (List ℕ)) (left line : ℕ) (held : List ℕ)
    (f : LineFault) (cut : Cut) (c : LogCause) (a : Answers) → s ≡ Reading
    → cut_at 10 held ≡ Some cut → Err f ≡ line_of cut.before → c ≡ log_cause_of f
    → (end ≡ known) × (a ≡ end_with (Some (fault_after line c)))
    → AwaitsIn s known end left line held a
step_fault s known end left line held f cut c a going e g same is =
    going_on s known end left line held a going
    (subst (λ end. AwaitsIn Reading known end left line held a) (sym is.0)
    (subst (λ a. AwaitsIn Reading known known left line held a)
    (sym (is.1 ∙ ap (λ c. end_with (Some (fault_after line c))) same))
    (awaits_fault known left line held cut f e g)))

pub step_long : (s : State) (known end : Option (List ℕ)) (left line : ℕ) (held slice : List ℕ)
    (a : Answers) → s ≡ Reading
    → cut_at 10 held ≡ None → slice ≡ held → MAX_LINE < length slice
    → (end ≡ known) × (a ≡ end_with (Some (fault_after line cause.LongLine)))
    → AwaitsIn s known end left line held a
step_long s known end left line held slice a going none same long is =
    going_on s known end left line held a going
    (subst (λ end. AwaitsIn Reading known end left line held a) (sym is.0)
    (subst (λ a. AwaitsIn Reading known known left line held a) (sym is.1)
    (awaits_long known left line held none (omega (arith, long, ap length same)))))

-- more bytes came
pub record CameMore (known after : Option (List ℕ)) (held now : List ℕ) (n : ℕ) : Type 0 where
  pub more : List ℕ
  pub count : length more ≡ n
  pub grown : now ≡ held ++ more
  pub took : Consumes known after more

pub step_more : (s : State) (known after end : Option (List ℕ)) (left n line : ℕ)
    (held now : List ℕ)
    (a : Answers) → s ≡ Reading → n ≤ left
    → CameMore known after held now n → AwaitsIn s after end (left - n) line now a
    → AwaitsIn s known end left line held a
step_more s known after end left n line held now a going le came w =
    going_on s known end left line held a going
    (awaits_more known after end left n line held came.more a came.took came.count le
    (subst (λ t. AwaitsIn Reading after end (left - n) line t a) came.grown
    (went_on s after end (left - n) line now a going w)))

-- the input ends
stopped_at : (next : State) (o : Option LogCause) (known end : Option (List ℕ)) (left line : ℕ)
    (held : List ℕ) (a : Answers) → next ≡ state_after o
    → AwaitsIn next known end left line held a
    → (end ≡ known) × (a ≡ end_with (fault_at (line + 1) o))
stopped_at next None known end left line held a to w =
    subst (λ s. AwaitsIn s known end left line held a) to w
stopped_at next (Some c) known end left line held a to w =
    subst (λ s. AwaitsIn s known end left line held a) to w

pub step_end : (s next : State) (known after end : Option (List ℕ)) (left line : ℕ)
    (held now slice : List ℕ) (e : InputEnd) (o : Option LogCause) (a : Answers) → s ≡ Reading
    → cut_at 10 held ≡ None → now ≡ held → slice ≡ now → EndsIfKnown e left known after
    → o ≡ tail_cause slice e → next ≡ state_after o
    → AwaitsIn next after end left line now a → AwaitsIn s known end left line held a
step_end s next known after end left line held now slice e o a going none same is ends why to w =
    let stopped = stopped_at next o after end left line now a to w in
    let cause = why ∙ ap (λ t. tail_cause t e) (is ∙ same) in
    going_on s known end left line held a going
    (subst (λ a. AwaitsIn Reading known end left line held a)
    (sym (stopped.1 ∙ ap (λ o. end_with (fault_at (line + 1) o)) cause))
    (awaits_end known end left line held e none
    (subst (λ end. EndsIfKnown e left known end) (sym stopped.0) ends)))

-- no line's fault is a failed allocation
pub faults_keep : (f : LineFault) (c : LogCause) → c ≡ log_cause_of f → HasNotRunOutOfMemory (Failed c)
faults_keep fault.LongLine c e k = cc
faults_keep fault.NoNewline c e k = cc
faults_keep fault.Moment c e k = cc
faults_keep fault.Receiver c e k = cc
faults_keep fault.Hex c e k = cc

-- some answers may always come
pub something : (s : State) (known : Option (List ℕ)) (left line : ℕ) (held : List ℕ)
    → (a : Answers) × AwaitsIn s known known left line held a
something Reading None left line held = (end_with None, tt)
something Reading (Some input) left line held = (
  answers_from (line + 1) (held ++ []) ending.Read,
  record
      { text = []; ending = ending.Read; gets = Gets-nothing left input; is = refl },
)
something Ended known left line held = (end_with None, (refl, refl))
something (Failed c) known left line held = (end_with (Some (fault_after line c)), (refl, refl))
