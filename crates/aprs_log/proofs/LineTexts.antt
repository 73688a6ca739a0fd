-- What a line says, as relations and as the reading of the line.
use Rattle.aprs_log.proofs.Common.{◌≡◌, ◌⊎◌, ℕ, ◌≤◌, Bool, true, false, List, ◌∷◌, ◌++◌, length, Option, None, Some, Result, Ok, Err, IsErr, inl, inr, refl, sym, ap, ◌∙◌, subst, cases_lt, decode_of, Cut}
use Rattle.aprs_io.specs.Cut.{cut_at}
use Rattle.hex.specs.declared.error.FromHexError.{FromHexError}
use Rattle.aprs_log.specs.Fault.{log_cause_of}
use Rattle.aprs_log.specs.Line.{frame_in, heard_or_passed, line_of, line_of_digits}
use Rattle.aprs_log.specs.LineText.{HasMoment, HasReceiver, IsLine, IsPassed, IsWrongLine, Reports}
use Rattle.aprs_log.specs.MomentReading.{moment_of}
use Rattle.aprs_log.specs.Receiver.{IsName, is_receiver}
use Rattle.aprs_log.specs.Reception.{Received}
use Rattle.aprs_log.specs.declared.fault.LineFault.{LineFault}
use Rattle.aprs_log.specs.declared.fault.LineFault.TheVariants as fault
use Rattle.aprs_log.specs.declared.fault.LogCause.{LogCause}
use Rattle.aprs_log.specs.declared.fault.LogCause.TheVariants as why
use Rattle.aprs_log.specs.declared.fault.Reason.{Reason}
use Rattle.aprs_log.specs.declared.line.Line.{Line}
use Rattle.aprs_log.specs.declared.line.Line.TheVariants as line
use Rattle.aprs_log.specs.declared.line.TheConstants.{MAX_LINE}
use Rattle.aprs_log.proofs.CarriesFrames.{carried-frame_in, frame_in-carried}
use Rattle.aprs_log.proofs.Lines.{HasFields, has_moment, has_receiver, line_of-fields, line_of-long, line_of-no_moment, line_of-no_name, line_of-one_cut, line_of-syntax, line_of-uncut, moment_cut, moment_read, name_cut}

-- ---- a line that is in order

-- what reading makes of a reception that is reported
pub reports-line_of : (l : List ℕ) (x : Received) → Reports l x → line_of l ≡ Ok (line.Heard x)
reports-line_of l x h =
    line_of-syntax l x.moment x.receiver h.0 h.1
    ∙ ap (λ r. Ok (heard_or_passed x.moment x.receiver r)) (frame_in-carried h.0 x.frame h.2)

-- the line is passed over for some reason
abbrev pub IsPassedOver : Result Line LineFault → Type 0
IsPassedOver r = (reason : Reason) × (r ≡ Ok (line.Passed reason))

passed_by : (r : Result Line LineFault) (m : ℕ) (name : List ℕ) (found : Result (List ℕ) Reason)
    → r ≡ Ok (heard_or_passed m name found)
    → ((frame : List ℕ) → found ≡ Ok frame → ⊥) → IsPassedOver r
passed_by r m name (Ok frame) e none = absurd (none frame refl)
passed_by r m name (Err reason) e none = (reason, e)

pub passed-line_of : (l : List ℕ) → IsPassed l → IsPassedOver (line_of l)
passed-line_of l h =
    passed_by (line_of l) h.0 h.1 (frame_in h.2) (line_of-syntax l h.0 h.1 h.2 h.3)
    (λ frame e. h.4 frame (carried-frame_in h.2 frame e))

heard_parts : (m : ℕ) (name : List ℕ) (found : Result (List ℕ) Reason) (x : Received)
    → heard_or_passed m name found ≡ line.Heard x
    → (x.moment ≡ m) × (x.receiver ≡ name) × (found ≡ Ok x.frame)
heard_parts m name (Ok frame) x e =
    let same : record { moment = m; receiver = name; frame = frame } ≡ x = cc in (
      sym (ap (λ (x : Received). x.moment) same),
      sym (ap (λ (x : Received). x.receiver) same),
      ap (λ (x : Received). Ok x.frame) same,
    )
heard_parts m name (Err reason) x e = absurd cc

passed_parts : (m : ℕ) (name : List ℕ) (found : Result (List ℕ) Reason) (reason : Reason)
    → heard_or_passed m name found ≡ line.Passed reason → (frame : List ℕ) → found ≡ Ok frame → ⊥
passed_parts m name (Ok f) reason e frame is = absurd cc
passed_parts m name (Err other) reason e frame is = absurd cc

ok_same : (a b : Line) (r : Result Line LineFault) → r ≡ Ok a → r ≡ Ok b → a ≡ b
ok_same a b r e f = cc

-- a line of this syntax reports what reading found, or is passed over
said : (l : List ℕ) (is : HasFields l) (found : Line) → line_of l ≡ Ok found
    → heard_or_passed is.0 is.1 (frame_in is.2) ≡ found
said l is found e = ok_same _ found (line_of l) (line_of-syntax l is.0 is.1 is.2 is.3) e

pub line_said-reports : (l : List ℕ) → HasFields l → (x : Received) → line_of l ≡ Ok (line.Heard x)
    → Reports l x
line_said-reports l is x e =
    let parts = heard_parts is.0 is.1 (frame_in is.2) x (said l is _ e) in (
      is.2,
      subst (λ m. IsLine l m x.receiver is.2) (sym parts.0)
          (subst (λ name. IsLine l is.0 name is.2) (sym parts.1) is.3),
      carried-frame_in is.2 x.frame parts.2,
    )

pub line_said-passed : (l : List ℕ) → HasFields l → (reason : Reason)
    → line_of l ≡ Ok (line.Passed reason) → IsPassed l
line_said-passed l is reason e =
    let none = passed_parts is.0 is.1 (frame_in is.2) reason (said l is _ e) in
    (is.0, is.1, is.2, is.3, λ frame carried. none frame (frame_in-carried is.2 frame carried))

-- ---- a line that is refused

-- reading refuses the line for a fault that is this cause
abbrev pub IsRefusedFor : List ℕ → LogCause → Type 0
IsRefusedFor l cause = (fault : LineFault) × (line_of l ≡ Err fault) × (log_cause_of fault ≡ cause)

module _ (l : List ℕ) (short : length l ≤ MAX_LINE) where
  unread : (first : Cut) → cut_at 32 l ≡ Some first → (r : Option ℕ) → moment_of first.before ≡ r
      → ((m : ℕ) (more : List ℕ) → ¬ HasMoment l m more) → line_of l ≡ Err fault.Moment
  unread first e None read none = sym (line_of-no_moment l short first (sym e) (sym read))
  unread first e (Some m) read none = absurd (none m first.after (has_moment l first m e read))

  no_moment : (o : Option Cut) → cut_at 32 l ≡ o
      → ((m : ℕ) (more : List ℕ) → ¬ HasMoment l m more) → line_of l ≡ Err fault.Moment
  no_moment None e none = sym (line_of-uncut l short (sym e))
  no_moment (Some first) e none = unread first e (moment_of first.before) refl none

  module _ (first : Cut) (m : ℕ) (e : cut_at 32 l ≡ Some first)
      (read : moment_of first.before ≡ Some m) where
    unnamed : (next : Cut) → cut_at 32 first.after ≡ Some next
        → (b : Bool) → is_receiver next.before ≡ b
        → ((m : ℕ) (name more : List ℕ) → ¬ HasReceiver l m name more)
        → line_of l ≡ Err fault.Receiver
    unnamed next second true named none =
        absurd (none m next.before next.after (has_receiver l first next m e read second named))
    unnamed next second false named none =
        sym (line_of-no_name l short first next m (sym e) (sym read) (sym second)
        (λ is. let bad : true ≡ false = sym is ∙ named in cc))

    no_name : (o : Option Cut) → cut_at 32 first.after ≡ o
        → ((m : ℕ) (name more : List ℕ) → ¬ HasReceiver l m name more)
        → line_of l ≡ Err fault.Receiver
    no_name None second none =
        sym (line_of-one_cut l short first m (sym e) (sym read) (sym second))
    no_name (Some next) second none = unnamed next second (is_receiver next.before) refl none

  no_receiver : (m : ℕ) (more : List ℕ) → HasMoment l m more
      → ((m : ℕ) (name more : List ℕ) → ¬ HasReceiver l m name more)
      → line_of l ≡ Err fault.Receiver
  no_receiver m more h none =
      no_name (record { before = h.0; after = more }) m (moment_cut l m more h)
      (moment_read m h.0 h.1) (cut_at 32 more) refl none

  no_digits : (m : ℕ) (name more : List ℕ) → (d : Result (List ℕ) FromHexError)
      → decode_of more ≡ d → IsErr d → line_of_digits m name more ≡ Err fault.Hex
  no_digits m name more (Ok bytes) e err = absurd cc
  no_digits m name more (Err error) e err = rw e refl

  no_hex : (m : ℕ) (name more : List ℕ) → HasReceiver l m name more → IsErr (decode_of more)
      → line_of l ≡ Err fault.Hex
  no_hex m name more h err =
      let text = h.1.0 in
      sym (line_of-fields l short (record { before = text; after = name ++ 32 ∷ more })
      (record { before = name; after = more }) m name (sym (moment_cut l m (name ++ 32 ∷ more) h.1))
      (sym (moment_read m text h.1.1)) (sym (name_cut name more h.0)) h.0 refl)
      ∙ no_digits m name more (decode_of more) refl err

pub wrong-line_of : (l : List ℕ) (cause : LogCause) → IsWrongLine l cause → IsRefusedFor l cause
wrong-line_of l why.LongLine long = (fault.LongLine, sym (line_of-long l long), refl)
wrong-line_of l why.NoNewline h = absurd h
wrong-line_of l why.Moment h =
    (fault.Moment, no_moment l h.0 (cut_at 32 l) refl h.1, refl)
wrong-line_of l why.Receiver h =
    (fault.Receiver, no_receiver l h.0 h.1.0 h.1.1 h.1.2 h.2, refl)
wrong-line_of l why.Hex h =
    (fault.Hex, no_hex l h.0 h.1.0 h.1.1 h.1.2 h.1.3 h.1.4, refl)
wrong-line_of l why.Read h = absurd h
wrong-line_of l why.TooLong h = absurd h
wrong-line_of l why.Memory h = absurd h

-- ---- each line is in order or wrong

abbrev pub IsWrong : List ℕ → Type 0
IsWrong l = (cause : LogCause) × IsWrongLine l cause

some_same : {X : Type 0} (x y : X) (o : Option X) → o ≡ Some x → o ≡ Some y → x ≡ y
some_same x y o e f = cc

not_none : {X : Type 0} (x : X) (o : Option X) → o ≡ Some x → o ≡ None → ⊥
not_none x o e f = absurd cc

module _ (l : List ℕ) (short : length l ≤ MAX_LINE) where
  -- the line is cut where its moment ends
  cut_same : (first : Cut) → cut_at 32 l ≡ Some first → (m : ℕ) (more : List ℕ)
      → (h : HasMoment l m more) → (first.before ≡ h.0) × (first.after ≡ more)
  cut_same first e m more h =
      let same = some_same first (record { before = h.0; after = more }) (cut_at 32 l) e
      (moment_cut l m more h) in
      (ap (λ (c : Cut). c.before) same, ap (λ (c : Cut). c.after) same)

  module _ (first next : Cut) (m : ℕ) (e : cut_at 32 l ≡ Some first)
      (read : moment_of first.before ≡ Some m) (second : cut_at 32 first.after ≡ Some next)
      (name : IsName next.before) where
    has : HasReceiver l m next.before next.after
    has = has_receiver l first next m e read second name

    by_digits : (d : Result (List ℕ) FromHexError) → decode_of next.after ≡ d
        → IsWrong l ⊎ HasFields l
    by_digits (Ok bytes) decoded = inr (
      m,
      next.before,
      bytes,
      record { short = short; digits = next.after; fields = has; is_hex = decoded },
    )
    by_digits (Err error) decoded =
        let bad : IsErr (decode_of next.after) = subst (λ r. IsErr r) (sym decoded) refl in
        inl (why.Hex, (short, (m, next.before, next.after, has, bad)))

  module _ (first : Cut) (m : ℕ) (e : cut_at 32 l ≡ Some first)
      (read : moment_of first.before ≡ Some m) where
    -- what follows the moment is the rest of what has a receiver
    after_same : (n : ℕ) (name more : List ℕ) → HasReceiver l n name more
        → cut_at 32 first.after ≡ Some (record { before = name; after = more })
    after_same n name more h =
        ap (cut_at 32) (cut_same first e n (name ++ 32 ∷ more) h.1).1 ∙ name_cut name more h.0

    wrong_name : ((n : ℕ) (name more : List ℕ) → ¬ HasReceiver l n name more) → IsWrong l
    wrong_name none =
        (why.Receiver, (short, (m, first.after, has_moment l first m e read), none))

    by_name : (next : Cut) → cut_at 32 first.after ≡ Some next → (b : Bool)
        → is_receiver next.before ≡ b → IsWrong l ⊎ HasFields l
    by_name next second true named =
        by_digits first next m e read second named (decode_of next.after) refl
    by_name next second false named = inl (wrong_name (λ n name more h.
        let same : name ≡ next.before = ap (λ (c : Cut). c.before)
        (some_same _ next (cut_at 32 first.after) (after_same n name more h) second) in
        let is : is_receiver next.before ≡ true = subst (λ b. is_receiver b ≡ true) same h.0 in
        let bad : true ≡ false = sym is ∙ named in cc))

    by_second : (o : Option Cut) → cut_at 32 first.after ≡ o → IsWrong l ⊎ HasFields l
    by_second None second = inl (wrong_name (λ n name more h.
        not_none _ (cut_at 32 first.after) (after_same n name more h) second))
    by_second (Some next) second = by_name next second (is_receiver next.before) refl

  by_moment : (first : Cut) → cut_at 32 l ≡ Some first → (r : Option ℕ)
      → moment_of first.before ≡ r → IsWrong l ⊎ HasFields l
  by_moment first e None read = inl (
    why.Moment,
    (
      short,
      λ m more h.
          not_none m (moment_of first.before)
          (ap moment_of (cut_same first e m more h).0 ∙ moment_read m h.0 h.1) read,
    ),
  )
  by_moment first e (Some m) read = by_second first m e read (cut_at 32 first.after) refl

  by_first : (o : Option Cut) → cut_at 32 l ≡ o → IsWrong l ⊎ HasFields l
  by_first None e = inl (
    why.Moment,
    (
      short,
      λ m more h.
          not_none _ (cut_at 32 l) (moment_cut l m more h) e,
    ),
  )
  by_first (Some first) e = by_moment first e (moment_of first.before) refl

pub wrong_or_line : (l : List ℕ) → IsWrong l ⊎ HasFields l
wrong_or_line l = elim (cases_lt MAX_LINE (length l)) as (λ _. IsWrong l ⊎ HasFields l) [
  | inl long ↦ inl (why.LongLine, long)
  | inr short ↦ by_first l short (cut_at 32 l) refl
]

-- ---- what reading finds, as relations

ok_err : (x : Line) (f : LineFault) (r : Result Line LineFault) → r ≡ Ok x → r ≡ Err f → ⊥
ok_err x f r e g = absurd cc

pub err_same : (f g : LineFault) (r : Result Line LineFault) → r ≡ Err f → r ≡ Err g → f ≡ g
err_same f g r e h = cc

pub line_of-is : (l : List ℕ) (x : Line) → line_of l ≡ Ok x → HasFields l
line_of-is l x e = elim (wrong_or_line l) as (λ _. HasFields l) [
  | inl wrong ↦
      let refused = wrong-line_of l wrong.0 wrong.1 in
      absurd (ok_err x refused.0 (line_of l) e refused.1)
  | inr is ↦ is
]

pub line_of-reports : (l : List ℕ) (x : Received) → line_of l ≡ Ok (line.Heard x) → Reports l x
line_of-reports l x e = line_said-reports l (line_of-is l (line.Heard x) e) x e

pub line_of-passed : (l : List ℕ) → IsPassedOver (line_of l) → IsPassed l
line_of-passed l h = line_said-passed l (line_of-is l (line.Passed h.0) h.1) h.0 h.1

pub line_of-wrong : (l : List ℕ) (f : LineFault) → line_of l ≡ Err f
    → IsWrongLine l (log_cause_of f)
line_of-wrong l f e = elim (wrong_or_line l) as (λ _. IsWrongLine l (log_cause_of f)) [
  | inl wrong ↦
      let refused = wrong-line_of l wrong.0 wrong.1 in
      let same : f ≡ refused.0 = err_same f refused.0 (line_of l) e refused.1 in
      subst (IsWrongLine l) (sym (ap log_cause_of same ∙ refused.2)) wrong.1
  | inr is ↦ absurd (ok_err _ f (line_of l) (line_of-syntax l is.0 is.1 is.2 is.3) e)
]
