use Rattle.aprs_summary.proofs.Common.{◌≡◌, ◌∙◌, refl, ◌∷◌, ◌++◌, [], Option, Some, if◌then◌else◌, List, ℕ, map, ap, subst, sym, Received, greater, LastKnown, greater_known, Passes}
use Rattle.aprs_summary.specs.Known.{index_of, has_bytes, known_at, subject_bytes, topic_bytes, is_report_on, greatest_of}
use Rattle.aprs_summary.specs.Notes.{known_with}
use Rattle.aprs_summary.specs.declared.known.notes.Streak.{Streak}
use Rattle.aprs_summary.proofs.Noting.{run_grows, run_begins, run_stays}
use Rattle.aprs_summary.proofs.known.notes.Notes.take.Goals as goal

pub returns-then-is_nothing : goal.returns-then-is_nothing
returns-then-is_nothing g c = λ rows r known reported is topic bytes.
    run_stays rows r topic bytes (subject_bytes topic c.args.subject) (reported topic) _
    (c.is_nothing.ensures c.if-is_nothing.true topic) (known topic bytes)

pub returns-in-Some : goal.returns-in-Some
returns-in-Some g c = λ rows r known reported is topic bytes.
    let indexes = c.args.self.now.indexes in
    let k = known_at bytes (index_of topic indexes) in
    let last : c.args.self.now.last ≡ Some c.in-Some.run' =
    sym c.take.ensures.value ∙ c.in-Some.is in
    let one = c.is_same.ensures c.if-is_same.true topic in
    let made : greater c.in-Some.run'.greatest r.greatest ≡ c.greater_known-greatest.result =
    sym (c.greater_known-greatest.ensures ∙ ap (λ (x : Received). greater c.in-Some.run'.greatest x) is) in
    subst (λ (x : Received). LastKnown (map greatest_of (rows ++ r ∷ []))
    (Passes (is_report_on (topic_bytes topic) bytes))
    (if has_bytes bytes (subject_bytes topic c.args.subject)
    then Some (greater_known k x) else k)) made
    (run_grows rows r topic bytes (subject_bytes topic c.args.subject) (reported topic) k
    c.in-Some.run'.greatest
    (subst (λ (o : Option (List ℕ)). LastKnown (map greatest_of rows)
    (Passes (is_report_on (topic_bytes topic) bytes))
    (if has_bytes bytes o then Some (greater_known k c.in-Some.run'.greatest) else k)) one
    (subst (λ (l : Option Streak). LastKnown (map greatest_of rows)
    (Passes (is_report_on (topic_bytes topic) bytes)) (known_with l topic bytes indexes)) last
    (known topic bytes))))

pub returns-in-None : goal.returns-in-None
returns-in-None g c = λ rows r known reported is topic bytes.
    let indexes = c.args.self.now.indexes in
    run_begins rows r topic bytes (subject_bytes topic c.args.subject) (reported topic)
    (known_at bytes (index_of topic indexes)) c.args.x is _ refl
    (subst (λ (l : Option Streak). LastKnown (map greatest_of rows)
    (Passes (is_report_on (topic_bytes topic) bytes)) (known_with l topic bytes indexes))
    (sym c.take.ensures.value ∙ c.in-None.is) (known topic bytes))

pub returns-in_ok-take-in-Some-2 : goal.returns-in_ok-take-in-Some-2
returns-in_ok-take-in-Some-2 g c = λ rows r known reported is topic bytes.
    let indexes = c.args.self.now.indexes in
    run_begins rows r topic bytes (subject_bytes topic c.args.subject) (reported topic)
    (known_at bytes (index_of topic c.take-in-Some-2.new.self)) c.args.x is _
    (c.in_ok-take-in-Some-2.ensures.taken topic bytes)
    (subst (λ (l : Option Streak). LastKnown (map greatest_of rows)
    (Passes (is_report_on (topic_bytes topic) bytes)) (known_with l topic bytes indexes))
    (sym c.take.ensures.value ∙ c.in-Some.is) (known topic bytes))
