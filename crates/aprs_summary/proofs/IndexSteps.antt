-- What the indexes know after one more reception, one more row, or a merge.
use Rattle.aprs_summary.proofs.Common.{◌≡◌, ◌∙◌, Bool, true, false, ◌&&◌, if◌then◌else◌, List, [], ◌∷◌, ◌++◌, Option, None, Some, map, refl, sym, ap, subst, arith, length, take, ℕ, ◌<◌, and-false, and-true, tied_itself, map-append, Less, Equal, Greater, by_order, is_eq, Call, call_cmp, call_text, ssid_text, Received, bytes_cmp, Value, position, object, item, message, ack, rej, status, raw, Key, Row, row_key, insert_heard, FitsInPlace, Sound, LastKnown, greater_known, known_after, Passes, witnessed, inserted_is_book, bytes_exact, bytes_total, call_exact, call_total, rows_know, set_knows, known_last}
use Rattle.aprs_transmissions.specs.Key.{key_of}
use Rattle.std.proofs.lemmas.List.{length-append}
use Rattle.std.proofs.Math.Seq.{take-append_seam}
use Rattle.aprs_transmissions.specs.Witnesses.{witnesses}
use Rattle.aprs_summary.specs.declared.known.subject.Subject.{Subject}
use Rattle.aprs_summary.specs.Reports.{report_of, is_position_report, is_status_report, is_object_named, is_item_named, has_source, reports_position, reports_status, reports_object, reports_item, without_spaces}
use Rattle.aprs_summary.specs.LastKnown.{IsLastKnown}
use Rattle.aprs_summary.specs.Known.{FourIndexes, Topic, call_bytes, positions, statuses, objects, items, index_of, known_at, has_bytes, is_report_on, report_bytes, topic_bytes, subject_bytes, AreIndexesOf, SameKnown, HaveEntries, greatest_of}
use Rattle.aprs_summary.proofs.KnownSteps.{entry_there, same_as_itself}

-- the receptions of a row are of its greatest's key: what the rows know the book's set knows
pub takes_note : (gap : ℕ) → 0 < gap → (x : Received) (old : List Row) (test : Key → Bool)
    (known : Option Received)
    → Sound gap old → LastKnown (map greatest_of old) (Passes test) known
    → LastKnown (map greatest_of (insert_heard gap x old)) (Passes test)
    (known_after test known x)
takes_note gap pos x old test known w h =
    let b = witnessed gap old pos w in
    rows_know gap (witnesses old ++ x ∷ []) (insert_heard gap x old) (Passes test)
    (known_after test known x) (inserted_is_book gap (witnesses old) x old b)
    (known_last test x (witnesses old) known (set_knows gap (witnesses old) old
    (Passes test) known b h))

-- what the views look up
pub entry_reports : (gap : ℕ) (rows : List Row) (test : Key → Bool) (known : Option Received)
    → LastKnown (map greatest_of rows) (Passes test) known → IsLastKnown gap rows test known
entry_reports gap rows test known h = λ S b. set_knows gap S rows (Passes test) known b h

-- a row after the others
pub pushes_note : (old : List Row) (r : Row) (test : Key → Bool) (known : Option Received)
    → LastKnown (map greatest_of old) (Passes test) known
    → LastKnown (map greatest_of (old ++ r ∷ [])) (Passes test)
    (known_after test known r.greatest)
pushes_note old r test known h =
    subst (λ (t : List Received). LastKnown t (Passes test) (known_after test known r.greatest))
    (sym (map-append greatest_of old (r ∷ [])))
    (known_last test r.greatest (map greatest_of old) known h)

-- ---- the four indexes

-- what a reception reports on is noted
abbrev pub Noted : Subject → Received → FourIndexes → FourIndexes → Type 0
Noted t x old new = (topic : Topic) (bytes : List ℕ)
    → known_at bytes (index_of topic new) ≡ (if has_bytes bytes (subject_bytes topic t)
    then Some (greater_known (known_at bytes (index_of topic old)) x)
    else known_at bytes (index_of topic old))

abbrev pub IsReported : Subject → Key → Type 0
IsReported t k = (topic : Topic) → subject_bytes topic t ≡ topic_bytes topic k

noted_known : (t : Subject) (x : Received) (i j k : FourIndexes) → IsReported t (key_of x.frame)
    → SameKnown i j
    → Noted t x j k → (topic : Topic) (bytes : List ℕ)
    → known_after (is_report_on (topic_bytes topic) bytes) (known_at bytes (index_of topic i)) x
    ≡ known_at bytes (index_of topic k)
noted_known t x i j k reported same noted topic bytes =
    sym (noted topic bytes
    ∙ ap (λ o. if has_bytes bytes o then Some
    (greater_known (known_at bytes (index_of topic j)) x) else known_at bytes
    (index_of topic j)) (reported topic)
    ∙ ap (λ n. if has_bytes bytes (topic_bytes topic (key_of x.frame)) then Some
    (greater_known n x) else n) (same topic bytes))

pub takes_indexes : (gap : ℕ) → 0 < gap → (t : Subject) (x : Received) (rows new : List Row)
    (i j k : FourIndexes) → Sound gap rows → AreIndexesOf rows i → IsReported t (key_of x.frame)
    → SameKnown i j → Noted t x j k → new ≡ insert_heard gap x rows → AreIndexesOf new k
takes_indexes gap pos t x rows new i j k w h reported same noted made = λ topic bytes.
    subst (λ (r : List Row). LastKnown (map greatest_of r)
    (Passes (is_report_on (topic_bytes topic) bytes)) (known_at bytes (index_of topic k)))
    (sym made)
    (subst (LastKnown (map greatest_of (insert_heard gap x rows))
    (Passes (is_report_on (topic_bytes topic) bytes)))
    (noted_known t x i j k reported same noted topic bytes)
    (takes_note gap pos x rows (is_report_on (topic_bytes topic) bytes)
    (known_at bytes (index_of topic i)) w
    (h topic bytes)))

pub pushes_indexes : (t : Subject) (r : Row) (rows new : List Row) (i j k : FourIndexes)
    → AreIndexesOf rows i → IsReported t (row_key r) → SameKnown i j → Noted t r.greatest j k
    → new ≡ rows ++ r ∷ [] → AreIndexesOf new k
pushes_indexes t r rows new i j k h reported same noted made = λ topic bytes.
    subst (λ (q : List Row). LastKnown (map greatest_of q)
    (Passes (is_report_on (topic_bytes topic) bytes)) (known_at bytes (index_of topic k)))
    (sym made)
    (subst (LastKnown (map greatest_of (rows ++ r ∷ []))
    (Passes (is_report_on (topic_bytes topic) bytes)))
    (noted_known t r.greatest i j k reported same noted topic bytes)
    (pushes_note rows r (is_report_on (topic_bytes topic) bytes) (known_at bytes (index_of topic i))
    (h topic bytes)))

pub near_entries : (gap : ℕ) (t : Subject) (x : Received) (rows : List Row) (i : FourIndexes)
    → AreIndexesOf rows i → IsReported t (key_of x.frame) → FitsInPlace gap rows x → HaveEntries t i
near_entries gap t x rows i h reported f = λ topic bytes e.
    entry_there (topic_bytes topic) rows (index_of topic i) bytes f.row (h topic) f.member
    (ap (λ k. has_bytes bytes (topic_bytes topic k)) f.near.key
    ∙ ap (has_bytes bytes) (sym (reported topic) ∙ e) ∙ same_as_itself bytes)

-- ---- what reports are about

reported_position : (call : Call) (v : Value)
    → report_bytes positions call v ≡ (if is_position_report v then Some (call_bytes call) else None)
reported_position call (position messaging stamp place symbol comment) = refl
reported_position call (object name live stamp place symbol comment) = refl
reported_position call (item name live place symbol comment) = refl
reported_position call (message addressee text id) = refl
reported_position call (ack addressee id) = refl
reported_position call (rej addressee id) = refl
reported_position call (status stamp text) = refl
reported_position call raw = refl

reported_status : (call : Call) (v : Value)
    → report_bytes statuses call v ≡ (if is_status_report v then Some (call_bytes call) else None)
reported_status call (position messaging stamp place symbol comment) = refl
reported_status call (object name live stamp place symbol comment) = refl
reported_status call (item name live place symbol comment) = refl
reported_status call (message addressee text id) = refl
reported_status call (ack addressee id) = refl
reported_status call (rej addressee id) = refl
reported_status call (status stamp text) = refl
reported_status call raw = refl

reported_object : (wanted : List ℕ) (call : Call) (v : Value)
    → has_bytes wanted (report_bytes objects call v) ≡ is_object_named wanted v
reported_object wanted call (position messaging stamp place symbol comment) = refl
reported_object wanted call (object name live stamp place symbol comment) = refl
reported_object wanted call (item name live place symbol comment) = refl
reported_object wanted call (message addressee text id) = refl
reported_object wanted call (ack addressee id) = refl
reported_object wanted call (rej addressee id) = refl
reported_object wanted call (status stamp text) = refl
reported_object wanted call raw = refl

reported_item : (wanted : List ℕ) (call : Call) (v : Value)
    → has_bytes wanted (report_bytes items call v) ≡ is_item_named wanted v
reported_item wanted call (position messaging stamp place symbol comment) = refl
reported_item wanted call (object name live stamp place symbol comment) = refl
reported_item wanted call (item name live place symbol comment) = refl
reported_item wanted call (message addressee text id) = refl
reported_item wanted call (ack addressee id) = refl
reported_item wanted call (rej addressee id) = refl
reported_item wanted call (status stamp text) = refl
reported_item wanted call raw = refl

-- ---- what is looked up

-- an index by bytes knows what a test of keys finds
pub by_bytes : (gap : ℕ) (rows : List Row) (test : Key → Bool) (topic : Topic) (bytes : List ℕ)
    (i : FourIndexes) (known : Option Received) → AreIndexesOf rows i
    → ((k : Key) → is_report_on (topic_bytes topic) bytes k ≡ test k)
    → known ≡ known_at bytes (index_of topic i)
    → IsLastKnown gap rows test known
by_bytes gap rows test topic bytes i known h same is =
    let alike : is_report_on (topic_bytes topic) bytes ≡ test = λ j k. same k j in
    entry_reports gap rows test known
    (subst (LastKnown (map greatest_of rows) (Passes test)) (sym is)
    (subst (λ (p : Key → Bool). LastKnown (map greatest_of rows) (Passes p)
    (known_at bytes (index_of topic i))) alike
    (h topic bytes)))

same_front : (a b t : List ℕ) → a ++ t ≡ b ++ t → a ≡ b
same_front a b t e =
    let n : length a ≡ length b =
    omega (arith, ap length e, length-append a t, length-append b t) in
    sym (take-append_seam a t) ∙ ap (take (length a)) e ∙ ap (λ m. take m (b ++ t)) n
    ∙ take-append_seam b t

-- the bytes of a callsign are no other's
same_bytes : (a b : Call) → call_bytes a ≡ call_bytes b → a ≡ b
same_bytes a b e =
    let s : a.ssid ≡ b.ssid = cc in
    let t : call_text a ≡ call_text b = cc in
    let l = same_front a.characters b.characters (ssid_text b.ssid)
    (subst (λ (n : ℕ). a.characters ++ ssid_text n ≡ call_text b) s t) in
    λ i. record { characters = l i; ssid = s i }

apart : (a b : Call) → (a ≡ b → ⊥) → is_eq (bytes_cmp (call_bytes a) (call_bytes b)) ≡ false
apart a b n =
    by_order (bytes_cmp (call_bytes a) (call_bytes b))
    (λ o. ap is_eq o)
    (λ o. absurd (n (same_bytes a b (bytes_exact (call_bytes a) (call_bytes b) o))))
    (λ o. ap is_eq o)

itself : (a b : Call) → a ≡ b → call_cmp a b ≡ Equal
itself a b e = ap (call_cmp a) (sym e) ∙ tied_itself call_total a

call_same : (a b : Call) → is_eq (bytes_cmp (call_bytes a) (call_bytes b)) ≡ is_eq (call_cmp a b)
call_same a b =
    by_order (call_cmp a b)
    (λ o. apart a b (λ e. let no : Less ≡ Equal = sym o ∙ itself a b e in cc) ∙ ap is_eq (sym o))
    (λ o. ap is_eq (ap (λ c. bytes_cmp (call_bytes a) (call_bytes c)) (sym (call_exact a b o))
    ∙ tied_itself bytes_total (call_bytes a)) ∙ ap is_eq (sym o))
    (λ o. apart a b (λ e. let no : Greater ≡ Equal = sym o ∙ itself a b e in cc)
    ∙ ap is_eq (sym o))

of_call : (own : Bool) (call : Call) (k : Key)
    → has_bytes (call_bytes call) (if own then Some (call_bytes k.source) else None)
    ≡ has_source call k && own
of_call true call k = call_same k.source call ∙ sym (and-true (has_source call k))
of_call false call k = sym (and-false (has_source call k))

pub reports_of_position : (call : Call) (k : Key)
    → is_report_on (topic_bytes positions) (call_bytes call) k ≡ reports_position call k
reports_of_position call k =
    ap (has_bytes (call_bytes call)) (reported_position k.source (report_of k))
    ∙ of_call (is_position_report (report_of k)) call k

pub reports_of_status : (call : Call) (k : Key)
    → is_report_on (topic_bytes statuses) (call_bytes call) k ≡ reports_status call k
reports_of_status call k =
    ap (has_bytes (call_bytes call)) (reported_status k.source (report_of k))
    ∙ of_call (is_status_report (report_of k)) call k

pub reports_of_object : (name : List ℕ) (k : Key)
    → is_report_on (topic_bytes objects) (without_spaces name) k ≡ reports_object name k
reports_of_object name k = reported_object (without_spaces name) k.source (report_of k)

pub reports_of_item : (name : List ℕ) (k : Key)
    → is_report_on (topic_bytes items) (without_spaces name) k ≡ reports_item name k
reports_of_item name k = reported_item (without_spaces name) k.source (report_of k)
