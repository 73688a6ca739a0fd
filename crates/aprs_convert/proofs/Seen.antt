-- Lemmas on a run over the lines that a reader gives.
use Rattle.aprs_convert.proofs.Common.{◌≡◌, ℕ, List, [], ◌∷◌, ◌++◌, Option, None, Some, Result, Ok, Err, IfSome, refl, ap, sym, ◌∙◌, append_assoc, append-nil, subst, flat_map, Appends, Appends-nil, Appends-trans, flat_map_more, AppendsPrefix, AppendsPrefix-more, AppendsPrefix-then, Answers, end_with, log_answers, prepend_line, AreAnswersOf, Line, LogFault}
use Rattle.aprs_convert.specs.Plan.{EndsAsPlanned, RunsOver, line_text, lines_plan}
use Rattle.aprs_convert.specs.declared.fault.ConvertFault.{ConvertFault}
use Rattle.aprs_convert.specs.declared.fault.ConvertFault.TheVariants.{Log, Write}
use Rattle.aprs_convert.specs.declared.form.Form.{Form}

-- these lines came before those answers
abbrev pub prepended : List Line → Answers → Answers
prepended seen a = record { given = seen ++ a.given; fault = a.fault }

-- After these lines, the answers that may still come complete those that were to come. What may
-- come is a fact of the answers alone, so that the reader's own state is not spoken of.
pub record HasSeen (first now : Answers → Type 0) (seen : List Line) : Type 0 where
  pub complete : (a : Answers) → now a → first (prepended seen a)

pub HasSeen-none : (first : Answers → Type 0) → HasSeen first first []
HasSeen-none first = record { complete = λ a h. h }

pub HasSeen-line : (first now after : Answers → Type 0) (seen : List Line) (x : Line)
    → HasSeen first now seen
    → ((a : Answers) → after a → now (prepend_line x a)) → HasSeen first after (seen ++ x ∷ [])
HasSeen-line first now after seen x h next = record {
  complete = λ a may. subst (λ (lines : List Line). first
      (record { given = lines; fault = a.fault }))
      (sym (append_assoc seen (x ∷ []) a.given)) (h.complete (prepend_line x a) (next a may));
}

-- what a run over these lines has written
pub record Ran (text : List Line → List ℕ) (first now : Answers
    → Type 0) (old new : Option (List ℕ)) : Type 0 where
  pub seen : List Line
  pub has : HasSeen first now seen
  pub out : Appends old new (text seen)

flat_map-append : (f : Line → List ℕ) (xs ys : List Line)
    → flat_map f (xs ++ ys) ≡ flat_map f xs ++ flat_map f ys
flat_map-append f [] ys = refl
flat_map-append f (x ∷ xs) ys = ap (λ l. f x ++ l) (flat_map-append f xs ys)
    ∙ sym (append_assoc (f x) (flat_map f xs) (flat_map f ys))

-- before the first line nothing is written
pub Ran-none : (f : Line → List ℕ) (first : Answers → Type 0) (a : Option (List ℕ))
    → Ran (flat_map f) first first a a
Ran-none f first a = record { seen = []; has = HasSeen-none first; out = Appends-nil a }

-- a line was written, which the reader lent
pub Ran-line : (f : Line → List ℕ) (first now after : Answers
    → Type 0) (a b c : Option (List ℕ)) (x lent : Line) → lent ≡ x
    → Ran (flat_map f) first now a b
    → ((answers : Answers) → after answers → now (prepend_line x answers)) → Appends b c (f lent)
    → Ran (flat_map f) first after a c
Ran-line f first now after a b c x lent same h next out = record {
  seen = h.seen ++ x ∷ [];
  has = HasSeen-line first now after h.seen x h.has next;
  out = subst (Appends a c) (flat_map_more f [] h.seen x)
      (Appends-trans a b c (flat_map f h.seen) (f x) h.out
      (subst (λ (y : Line). Appends b c (f y)) same out));
}

-- ---- the run of a log of which these answers may come first

abbrev pub IsWhole : (Answers → Type 0) → ℕ → Option (List ℕ) → Option (List ℕ) → Type 0
IsWhole first limit known end = (a : Answers) → first a
    → IfSome known (λ input. AreAnswersOf limit input end a)

-- it runs so where all its answers are these
pub over : (whole : Answers → List ℕ) (limit : ℕ) (known end : Option (List ℕ))
    (r : Result (Unit {0}) ConvertFault) (old new : Option (List ℕ)) (a : Answers)
    → IfSome known (λ input. AreAnswersOf limit input end a)
    → EndsAsPlanned r old new (record { text = whole a; fault = a.fault })
    → RunsOver (λ t c. record { text = whole (log_answers t c); fault = (log_answers t c).fault })
    limit known end r old new
over whole limit None end r old new a h runs = tt
over whole limit (Some input) end r old new a h runs = (
  h.text,
  h.ending,
  h.gets,
  subst (λ (x : Answers). EndsAsPlanned r old new (record { text = whole x; fault = x.fault }))
      h.is runs,
)

abbrev lines_of : Form → Answers → List ℕ
lines_of form a = flat_map (line_text form) a.given

-- the output was refused
pub Ran-refused : (form : Form) (first now after : Answers
    → Type 0) (limit : ℕ) (known end a b c : Option (List ℕ)) (x lent : Line) → lent ≡ x
    → Ran (flat_map (line_text form)) first now a b
    → ((answers : Answers) → after answers → now (prepend_line x answers))
    → (answers : Answers) → after answers → AppendsPrefix b c (line_text form lent)
    → IsWhole first limit known end
    → RunsOver (lines_plan form) limit known end (Err Write) a c
Ran-refused form first now after limit known end a b c x lent same h next answers may prefix whole =
    let f = line_text form in
    let all = prepended h.seen (prepend_line x answers) in
    let text : flat_map f all.given ≡ (flat_map f h.seen ++ f x) ++ flat_map f answers.given =
    flat_map-append f h.seen (x ∷ answers.given)
    ∙ sym (append_assoc (flat_map f h.seen) (f x) (flat_map f answers.given)) in
    over (lines_of form) limit known end (Err Write) a c all
    (whole all (h.has.complete (prepend_line x answers) (next answers may)))
    (subst (AppendsPrefix a c) (sym text) (AppendsPrefix-more a c (flat_map f h.seen ++ f x)
    (flat_map f answers.given)
    (AppendsPrefix-then a b c (flat_map f h.seen) (f x) h.out
    (subst (λ (y : Line). AppendsPrefix b c (f y)) same prefix))))

-- what was written is the text of all answers, where none is left
whole_text : (f : Line → List ℕ) (seen : List Line) (a b : Option (List ℕ))
    → Appends a b (flat_map f seen) → Appends a b (flat_map f (seen ++ []))
whole_text f seen a b out = subst (λ (lines : List Line). Appends a b (flat_map f lines))
    (sym (append-nil seen)) out

-- the log ended
pub Ran-ended : (form : Form) (first now : Answers
    → Type 0) (limit : ℕ) (known end a b : Option (List ℕ))
    → Ran (flat_map (line_text form)) first now a b → now (end_with None)
    → IsWhole first limit known end
    → RunsOver (lines_plan form) limit known end (Ok tt) a b
Ran-ended form first now limit known end a b h may whole =
    over (lines_of form) limit known end (Ok tt) a b (prepended h.seen (end_with None))
    (whole _ (h.has.complete (end_with None) may))
    (refl, whole_text (line_text form) h.seen a b h.out)

-- the log has a fault
pub Ran-fault : (form : Form) (first now : Answers
    → Type 0) (limit : ℕ) (known end a b : Option (List ℕ)) (fault : LogFault)
    (answer : ConvertFault) → answer ≡ Log fault
    → Ran (flat_map (line_text form)) first now a b → now (end_with (Some fault))
    → IsWhole first limit known end
    → RunsOver (lines_plan form) limit known end (Err answer) a b
Ran-fault form first now limit known end a b fault answer same h may whole =
    subst (λ (t : ConvertFault). RunsOver (lines_plan form) limit known end (Err t) a b) (sym same)
    (over (lines_of form) limit known end (Err (Log fault)) a b
    (prepended h.seen (end_with (Some fault))) (whole _ (h.has.complete (end_with (Some fault)) may))
    (refl, whole_text (line_text form) h.seen a b h.out))
