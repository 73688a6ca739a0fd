-- What is noted after one more row.
use Rattle.aprs_summary.proofs.Common.{◌≡◌, ◌∙◌, ℕ, Bool, true, false, List, [], ◌∷◌, ◌++◌, Option, Some, None, if◌then◌else◌, map, refl, sym, ap, subst, Received, Row, row_key, greater, LastKnown, greater_known, Passes, greatest_laws, is_greater_of}
use Rattle.aprs_summary.specs.Known.{Topic, has_bytes, topic_bytes, is_report_on, greatest_of}
use Rattle.aprs_summary.proofs.IndexSteps.{pushes_note}

-- the greatest of three
greater_three : (k : Option Received) (x y : Received)
    → greater (greater_known k x) y ≡ greater_known k (greater x y)
greater_three None x y = refl
greater_three (Some g) x y =
    greatest_laws.associative g x y (greater g x) (greater x y) (greater (greater g x) y)
    (greater g (greater x y)) (is_greater_of g x) (is_greater_of (greater g x) y)
    (is_greater_of x y) (is_greater_of g (greater x y))

one_more : (b : Bool) (k : Option Received) (x y : Received)
    → (if b then Some (greater_known (if b then Some (greater_known k x) else k) y)
    else (if b then Some (greater_known k x) else k))
    ≡ (if b then Some (greater_known k (greater x y)) else k)
one_more true k x y = ap Some (greater_three k x y)
one_more false k x y = refl

module _ (rows : List Row) (r : Row) (topic : Topic) (bytes : List ℕ) (o : Option (List ℕ))
    (same : o ≡ topic_bytes topic (row_key r)) (k : Option Received) where
  -- a row that reports on what the last ones do
  pub run_grows : (x : Received)
      → LastKnown (map greatest_of rows) (Passes (is_report_on (topic_bytes topic) bytes))
      (if has_bytes bytes o then Some (greater_known k x) else k)
      → LastKnown (map greatest_of (rows ++ r ∷ []))
      (Passes (is_report_on (topic_bytes topic) bytes))
      (if has_bytes bytes o then Some (greater_known k (greater x r.greatest)) else k)
  run_grows x h =
      let before = if has_bytes bytes o then Some (greater_known k x) else k in
      subst (LastKnown (map greatest_of (rows ++ r ∷ []))
      (Passes (is_report_on (topic_bytes topic) bytes)))
      (ap (λ p. if has_bytes bytes p then Some (greater_known before r.greatest) else before)
      (sym same)
      ∙ one_more (has_bytes bytes o) k x r.greatest)
      (pushes_note rows r (is_report_on (topic_bytes topic) bytes) before h)

  -- a row that reports on nothing
  pub run_stays : o ≡ None
      → LastKnown (map greatest_of rows) (Passes (is_report_on (topic_bytes topic) bytes)) k
      → LastKnown (map greatest_of (rows ++ r ∷ []))
      (Passes (is_report_on (topic_bytes topic) bytes)) k
  run_stays none h =
      subst (LastKnown (map greatest_of (rows ++ r ∷ []))
      (Passes (is_report_on (topic_bytes topic) bytes)))
      (ap (λ p. if has_bytes bytes p then Some (greater_known k r.greatest) else k)
      (sym same ∙ none))
      (pushes_note rows r (is_report_on (topic_bytes topic) bytes) k h)

  -- a row that reports on something else
  pub run_begins : (x : Received) → x ≡ r.greatest → (was : Option Received) → k ≡ was
      → LastKnown (map greatest_of rows) (Passes (is_report_on (topic_bytes topic) bytes)) was
      → LastKnown (map greatest_of (rows ++ r ∷ []))
      (Passes (is_report_on (topic_bytes topic) bytes))
      (if has_bytes bytes o then Some (greater_known k x) else k)
  run_begins x is was e h =
      let P = Passes (is_report_on (topic_bytes topic) bytes) in
      subst (LastKnown (map greatest_of (rows ++ r ∷ [])) P)
      (ap (λ p. if has_bytes bytes p then Some (greater_known k r.greatest) else k) (sym same)
      ∙ ap (λ (y : Received). if has_bytes bytes o then Some (greater_known k y) else k) (sym is))
      (pushes_note rows r (is_report_on (topic_bytes topic) bytes) k
      (subst (LastKnown (map greatest_of rows) P) (sym e) h))
