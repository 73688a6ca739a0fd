-- Each information field is one report.
use Rattle.aprs_report.proofs.Common.{◌≡◌, ℕ, Bool, true, false, List, [], ◌∷◌, ◌++◌, Option, Some, None, refl, sym, ap, subst, ◌∙◌, eqb, ◌↔◌, unwrap_or, eqb-true, none-some}
use Rattle.aprs_report.specs.declared.stamp.Stamp.{Stamp}
use Rattle.aprs_report.specs.declared.symbol.Symbol.{Symbol}
use Rattle.aprs_report.specs.declared.place.Place.{Place}
use Rattle.aprs_report.specs.Stamp.{IsStamp, stamp_bytes}
use Rattle.aprs_report.specs.Position.{position_byte, IsOptionalStamp, IsPosition}
use Rattle.aprs_report.specs.Reading.{Value, position, object, item, message, ack, rej, status}
use Rattle.aprs_report.specs.Reading.{raw, HasForm, Reads, OneReading}
use Rattle.aprs_report.specs.Examples.{Example}
use Rattle.aprs_report.specs.Reader.{position_of, stamped_position_of, status_of, report_by_form, reading_of}
use Rattle.aprs_report.proofs.Steps.{after_some, some_is, if_either}
use Rattle.aprs_report.proofs.Stamps.{stamp_found, stamp_takes}
use Rattle.aprs_report.proofs.Objects.{object_found, object_takes, item_found, item_takes}
use Rattle.aprs_report.proofs.Statuses.{status_found, status_takes}
use Rattle.aprs_report.proofs.Messages.{message_found, message_takes, acks_take, rejs_take}
use Rattle.aprs_report.proofs.Places.{place_found, place_takes}

position_found : (messaging : Bool) (stamp : Option Stamp) (stamp_text bytes : List ℕ)
    (v : Value) → IsOptionalStamp stamp stamp_text → position_of messaging stamp bytes ≡ Some v
    → HasForm v (position_byte messaging stamp ∷ (stamp_text ++ bytes))
unfolding position_of
position_found messaging stamp stamp_text bytes v h e = after_some _ _ _ _ e (λ p e1 r1.
    let at = place_found bytes p e1 in
    subst (λ (v : Value). HasForm v (position_byte messaging stamp ∷ (stamp_text ++ bytes)))
    (some_is (position messaging stamp p.0 p.1 p.2) v r1) (record {
      stamp_text = stamp_text;
      place_text = at.text;
      at_stamp = h;
      at_place = at.at_place;
      whole = ap (λ (t : List ℕ). position_byte messaging stamp ∷ (stamp_text ++ t)) at.whole;
    }))

stamped_found : (messaging : Bool) (b : ℕ) (bytes : List ℕ) (v : Value) →
    ((s : Stamp) → position_byte messaging (Some s) ≡ b) → stamped_position_of messaging bytes ≡ Some v →
    HasForm v (b ∷ bytes)
unfolding stamped_position_of
stamped_found messaging b bytes v first e = after_some _ _ _ _ e (λ s e1 r1.
    let at = stamp_found bytes s e1 in
    subst (HasForm v) (ap (λ (b : ℕ). b ∷ (stamp_bytes s.0 ++ s.1)) (first s.0)
    ∙ sym (ap (λ (t : List ℕ). b ∷ t) at.whole))
    (position_found messaging (Some s.0) (stamp_bytes s.0) s.1 v (at.stamp, refl) r1))

-- the same at a first byte that was tested
at_byte : (v : Value) (b n : ℕ) (rest : List ℕ) → eqb b n ≡ true → HasForm v (n ∷ rest) →
    HasForm v (b ∷ rest)
at_byte v b n rest t h = subst (λ (k : ℕ). HasForm v (k ∷ rest)) (sym (eqb-true b n t)) h

pub form_found : (info : List ℕ) (v : Value) → report_by_form info ≡ Some v → HasForm v info
unfolding report_by_form
form_found [] v e = absurd cc
form_found (b ∷ rest) v e =
    if_either _ _ _ _ _ e (λ t h. at_byte v b 33 rest t
    (position_found false None [] rest v refl h)) (λ _ e2.
    if_either _ _ _ _ _ e2 (λ t h. at_byte v b 61 rest t
    (position_found true None [] rest v refl h)) (λ _ e3.
    if_either _ _ _ _ _ e3 (λ t h. at_byte v b 47 rest t
    (stamped_found false 47 rest v (λ s. refl) h)) (λ _ e4.
    if_either _ _ _ _ _ e4 (λ t h. at_byte v b 64 rest t
    (stamped_found true 64 rest v (λ s. refl) h)) (λ _ e5.
    if_either _ _ _ _ _ e5 (λ t h. at_byte v b 59 rest t (object_found rest v h)) (λ _ e6.
    if_either _ _ _ _ _ e6 (λ t h. at_byte v b 41 rest t (item_found rest v h)) (λ _ e7.
    if_either _ _ _ _ _ e7 (λ t h. at_byte v b 62 rest t
    (subst (λ (v : Value). HasForm v (62 ∷ rest)) (some_is (status_of rest) v h)
    (status_found rest))) (λ _ e8.
    if_either _ _ _ _ _ e8 (λ t h. at_byte v b 58 rest t (message_found rest v h))
    (λ _ e9. absurd (none-some v e9)))))))))

position_takes : (messaging : Bool) (stamp : Option Stamp) (place : Place) (symbol : Symbol)
    (comment info : List ℕ) (h : IsPosition messaging stamp place symbol comment info)
    → position_of messaging stamp (h.place_text ++ comment) ≡
    Some (position messaging stamp place symbol comment)
unfolding position_of
position_takes messaging stamp place symbol comment info h =
    rw (place_takes place symbol h.place_text comment h.at_place) refl

stamped_takes : (messaging : Bool) (s : Stamp) (bytes : List ℕ) (v : Value) → IsStamp s →
    position_of messaging (Some s) bytes ≡ Some v →
    stamped_position_of messaging (stamp_bytes s ++ bytes) ≡ Some v
unfolding stamped_position_of
stamped_takes messaging s bytes v is h = rw (stamp_takes s bytes is) h

pub form_takes : (v : Value) (info : List ℕ) → HasForm v info → report_by_form info ≡ Some v
unfolding report_by_form
form_takes (position false None place symbol comment) info h =
    ap report_by_form (h.whole ∙ ap (λ (t : List ℕ). 33 ∷ (t ++ (h.place_text ++ comment))) h.at_stamp)
    ∙ position_takes _ _ _ _ _ _ h
form_takes (position true None place symbol comment) info h =
    ap report_by_form (h.whole ∙ ap (λ (t : List ℕ). 61 ∷ (t ++ (h.place_text ++ comment))) h.at_stamp)
    ∙ position_takes _ _ _ _ _ _ h
form_takes (position false (Some s) place symbol comment) info h =
    ap report_by_form (h.whole ∙ ap (λ (t : List ℕ). 47 ∷ (t ++ (h.place_text ++ comment))) h.at_stamp.1)
    ∙ stamped_takes false s (h.place_text ++ comment) _ h.at_stamp.0 (position_takes _ _ _ _ _ _ h)
form_takes (position true (Some s) place symbol comment) info h =
    ap report_by_form (h.whole ∙ ap (λ (t : List ℕ). 64 ∷ (t ++ (h.place_text ++ comment))) h.at_stamp.1)
    ∙ stamped_takes true s (h.place_text ++ comment) _ h.at_stamp.0 (position_takes _ _ _ _ _ _ h)
form_takes (object name live stamp place symbol comment) info h =
    ap report_by_form h.whole ∙ object_takes _ _ _ _ _ _ _ h
form_takes (item name live place symbol comment) info h =
    ap report_by_form h.whole ∙ item_takes _ _ _ _ _ _ h
form_takes (message addressee text id) info h =
    let at = message_takes addressee text id info h in ap report_by_form at.whole ∙ at.value
form_takes (ack addressee id) info h =
    let at = acks_take addressee id info h in ap report_by_form at.whole ∙ at.value
form_takes (rej addressee id) info h =
    let at = rejs_take addressee id info h in ap report_by_form at.whole ∙ at.value
form_takes (status stamp text) info h =
    let at = status_takes stamp text info h in
    ap report_by_form at.whole ∙ ap (λ (v : Value). Some v) at.value
form_takes raw info h = absurd h

-- ---- the same for any forms, so that a further form changes nothing below

form_reads : (v : Value) (info : List ℕ) → HasForm v info → Reads v info
form_reads (position m st p s c) info h = h
form_reads (object name live st p s c) info h = h
form_reads (item name live p s c) info h = h
form_reads (message a t id) info h = h
form_reads (ack a id) info h = h
form_reads (rej a id) info h = h
form_reads (status st t) info h = h
form_reads raw info h = absurd h

found_as : (o : Option Value) (info : List ℕ) → report_by_form info ≡ o → Reads (unwrap_or o raw) info
found_as (Some v) info e = form_reads v info (form_found info v e)
found_as None info e = λ v h. none-some v (sym e ∙ form_takes v info h)

-- a field reads as what a reader found
pub reading_found : (o : Option Value) (info : List ℕ) → o ≡ report_by_form info →
    Reads (unwrap_or o raw) info
reading_found o info e = found_as o info (sym e)

pub form_value : (o : Option Value) (info : List ℕ) → o ≡ report_by_form info →
    unwrap_or o raw ≡ reading_of info
form_value o info e = ap (λ (o : Option Value). unwrap_or o raw) e

raw_takes : (o : Option Value) (info : List ℕ) → report_by_form info ≡ o →
    ((v : Value) → HasForm v info → ⊥) → unwrap_or o raw ≡ raw
raw_takes (Some v) info e h = absurd (h v (form_found info v e))
raw_takes None info e h = refl

of_form : (v : Value) (info : List ℕ) → HasForm v info → reading_of info ≡ v
of_form v info h = ap (λ (o : Option Value). unwrap_or o raw) (form_takes v info h)

-- ---- for the crates above: `reading_of` is the reading

pub reads_as : (info : List ℕ) → Reads (reading_of info) info
reads_as info = found_as (report_by_form info) info refl

pub reading_is : (v : Value) (info : List ℕ) → Reads v info → reading_of info ≡ v
reading_is (position m st p s c) info h = of_form (position m st p s c) info h
reading_is (object name live st p s c) info h = of_form (object name live st p s c) info h
reading_is (item name live p s c) info h = of_form (item name live p s c) info h
reading_is (message a t id) info h = of_form (message a t id) info h
reading_is (ack a id) info h = of_form (ack a id) info h
reading_is (rej a id) info h = of_form (rej a id) info h
reading_is (status st t) info h = of_form (status st t) info h
reading_is raw info h = raw_takes (report_by_form info) info refl h

-- each field has exactly one reading
pub one_reading : (info : List ℕ) → OneReading info
one_reading info = (reading_of info, reads_as info, λ w h. sym (reading_is w info h))

-- `reading_of` and `Reads` say the same
pub reading_iff : (info : List ℕ) (v : Value) → Reads v info ↔ (reading_of info ≡ v)
reading_iff info v =
    (reading_is v info, λ e. subst (λ (v : Value). Reads v info) e (reads_as info))

-- an example by computation
pub computed : {info : List ℕ} {v : Value} → reading_of info ≡ v → Example info v
computed {info} {v} e = record { reads = subst (λ (v : Value). Reads v info) e (reads_as info) }
