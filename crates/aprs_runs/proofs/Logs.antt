-- Lemmas on the receptions of a log whose lines are read one by one.
use Rattle.aprs_runs.proofs.Common.{◌≡◌, ℕ, List, [], ◌∷◌, ◌++◌, Option, None, Some, Result, Ok, Err, IfSome, refl, ap, sym, ◌∙◌, append-nil, map, Answers, end_with, log_answers, receptions_of, prepend_line, AreAnswersOf, LogFault, Line, map-append, single, Row, BookValue, millis_of, merge_append}
use Rattle.aprs_log.specs.declared.InputEnd.{InputEnd}
use Rattle.aprs_log.specs.declared.line.Line.TheVariants.{Heard, Passed}
use Rattle.aprs_runs.specs.Gathered.{with_rows}
use Rattle.aprs_runs.specs.InputRows.{HoldsOfGot, ReadsLog}
use Rattle.aprs_runs.specs.declared.fault.InputFault.{InputFault}
use Rattle.aprs_runs.specs.declared.fault.InputFault.TheVariants.{Log, Memory}
use Rattle.aprs_convert.proofs.Seen.{HasSeen, HasSeen-none, HasSeen-line, prepended}

receptions_of-append : (xs ys : List Line) → receptions_of (xs ++ ys) ≡ receptions_of xs
    ++ receptions_of ys
receptions_of-append [] ys = refl
receptions_of-append (Heard x ∷ xs) ys = ap (λ l. x ∷ l) (receptions_of-append xs ys)
receptions_of-append (Passed reason ∷ xs) ys = receptions_of-append xs ys

-- rows that join a book after others join it together with these
with_rows-append : (b : BookValue) (xs ys : List Row)
    → with_rows (with_rows b xs) ys ≡ with_rows b (xs ++ ys)
with_rows-append b xs ys =
    ap (λ (rows : List Row). record { gap = b.gap; rows = rows })
    (sym (merge_append (millis_of b.gap) b.rows xs ys))

-- the receptions of the lines that were read joined the book
pub record Took (first now : Answers → Type 0) (old book : BookValue) : Type 0 where
  pub seen : List Line
  pub has : HasSeen first now seen
  pub are : book ≡ with_rows old (map single (receptions_of seen))

pub Took-none : (first : Answers → Type 0) (book : BookValue) → Took first first book book
Took-none first book = record { seen = []; has = HasSeen-none first; are = refl }

-- the reception of a line, which the reader lent, joined it
pub Took-line : (first now after : Answers → Type 0) (old book new : BookValue)
    (x lent : Line) → lent ≡ x → Took first now old book
    → ((answers : Answers) → after answers → now (prepend_line x answers))
    → new ≡ with_rows book (map single (receptions_of (lent ∷ []))) → Took first after old new
Took-line first now after old book new x lent same h next is = record {
  seen = h.seen ++ x ∷ [];
  has = HasSeen-line first now after h.seen x h.has next;
  are = is ∙ (λ t. with_rows (h.are t) (map single (receptions_of (same t ∷ []))))
      ∙ with_rows-append old (map single (receptions_of h.seen))
      (map single (receptions_of (x ∷ [])))
      ∙ ap (with_rows old)
      (sym (map-append single (receptions_of h.seen) (receptions_of (x ∷ []))))
      ∙ ap (λ T. with_rows old (map single T)) (sym (receptions_of-append h.seen (x ∷ [])));
}

-- of a log whose answers are these
over_log : (known end : Option (List ℕ)) (limit : ℕ) (head : List ℕ) (a : Answers)
    (r : Result (Unit {0}) InputFault) (old new : BookValue)
    → IfSome known (λ input. AreAnswersOf limit (head ++ input) end a)
    → ((t : List ℕ) (c : InputEnd) → a ≡ log_answers t c → ReadsLog r old new t c)
    → IfSome known (λ input. HoldsOfGot limit (head ++ input) end (ReadsLog r old new))
over_log None end limit head a r old new h reads = tt
over_log (Some input) end limit head a r old new h reads =
    (h.text, h.ending, h.gets, reads h.text h.ending h.is)

-- the log ended
pub Took-ended : (first now : Answers → Type 0) (old book : BookValue)
    (known end : Option (List ℕ)) (limit : ℕ) (head : List ℕ) → Took first now old book
    → now (end_with None) → ((a : Answers) → first a
    → IfSome known (λ input. AreAnswersOf limit (head ++ input) end a))
    → IfSome known (λ input. HoldsOfGot limit (head ++ input) end (ReadsLog (Ok tt) old book))
Took-ended first now old book known end limit head h may whole =
    let all = prepended h.seen (end_with None) in
    over_log known end limit head all (Ok tt) old book
    (whole all (h.has.complete (end_with None) may))
    (λ t c e. (
      ap (λ (a : Answers). a.fault) (sym e),
      h.are
          ∙ ap (λ (lines : List Line). with_rows old (map single (receptions_of lines))) (sym (append-nil h.seen))
          ∙ ap (λ (a : Answers). with_rows old (map single (receptions_of a.given))) e,
    ))

-- the log has a fault
pub Took-fault : (first now : Answers → Type 0) (old book : BookValue)
    (known end : Option (List ℕ)) (limit : ℕ) (head : List ℕ) (fault : LogFault)
    → Took first now old book → now (end_with (Some fault)) → ((a : Answers) → first a
    → IfSome known (λ input. AreAnswersOf limit (head ++ input) end a))
    → IfSome known (λ input. HoldsOfGot limit (head ++ input) end
    (ReadsLog (Err (Log fault)) old book))
Took-fault first now old book known end limit head fault h may whole =
    let all = prepended h.seen (end_with (Some fault)) in
    over_log known end limit head all (Err (Log fault)) old book
    (whole all (h.has.complete (end_with (Some fault)) may))
    (λ t c e. ap (λ (a : Answers). a.fault) (sym e))

-- an allocation failed
pub Took-refused : (first now after : Answers → Type 0) (old book new : BookValue)
    (known end : Option (List ℕ)) (limit : ℕ) (head : List ℕ) (x : Line)
    → Took first now old book
    → ((answers : Answers) → after answers → now (prepend_line x answers))
    → (answers : Answers) → after answers → ((a : Answers) → first a
    → IfSome known (λ input. AreAnswersOf limit (head ++ input) end a))
    → IfSome known (λ input. HoldsOfGot limit (head ++ input) end
    (ReadsLog (Err Memory) old new))
Took-refused first now after old book new known end limit head x h next answers may whole =
    let line = prepend_line x answers in
    let all = prepended h.seen line in
    over_log known end limit head all (Err Memory) old new
    (whole all (h.has.complete line (next answers may))) (λ t c e. tt)
