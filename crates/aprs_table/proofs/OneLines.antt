-- No line of a history has an LF but at its end.
use Rattle.aprs_table.proofs.Common.{All, ◌≡◌, ◌≢◌, ◌∙◌, ℕ, suc, Bool, true, false, ◌==◌, cond, List, [], ◌∷◌, ◌++◌, map, Option, Some, None, refl, ap, sym, append_assoc, arith, codes, AllByRecursion, flat_map, list_all, signed_decimal, Parts, IsParts, parts_of, hop_of, is_shown_as_is, shown_byte, shown_text, Row, last_moment, reading_of, Value, Reads, position, object, item, message, ack, rej, status, raw, MicEValue}
use Rattle.std.specs.Prelude.{unwrap_or}
use Rattle.std.proofs.lemmas.Bool.{and_parts}
use Rattle.std.proofs.lemmas.List.Elements.{All-from_recursion, recursion_from_All}
use Rattle.aprs_ax25.specs.Address.{Address, IsAddress}
use Rattle.aprs_log.specs.LogText.{HasNoLf}
use Rattle.aprs_log.specs.Receiver.{IsName}
use Rattle.aprs_report.specs.Place.{latitude_of, longitude_of}
use Rattle.aprs_report.specs.declared.place.Fraction.{Fraction}
use Rattle.aprs_report.specs.declared.place.Place.{Place}
use Rattle.aprs_report.specs.declared.place.Place.TheVariants.{Plain, Base91}
use Rattle.aprs_report.specs.declared.stamp.Stamp.{Stamp}
use Rattle.aprs_report.specs.declared.symbol.Symbol.{Symbol}
use Rattle.aprs_report.proofs.Readings.{reads_as}
use Rattle.aprs_mice.specs.Reader.{mic_e_or_none}
use Rattle.aprs_table.specs.History.{history_line, history_text, other_line, row_fields, told_line, via_text}
use Rattle.aprs_table.specs.SpacedLine.{after_space, ambiguity_text, degrees_text, id_word, spaced_line, line_with_text, place_fields, stamp_text, word, word_byte}
use Rattle.aprs_table.specs.Cells.{stamp_field}
use Rattle.aprs_table.proofs.Frees.{AreFree, Free, ◌&◌, are_append, free_append, free_byte, free_call, free_decimal, free_flat, free_id, free_moment, free_names, free_says, free_shown, free_signed, free_stamp, free_via, free_word, high}
use Rattle.aprs_table.proofs.Shapes.{optional_stamp, state_free, status_stamp, text_id}
use Rattle.aprs_rows.specs.Told.{HasNamesAndFrame}
use Rattle.aprs_table.specs.OneLine.{HasOneLineEach}

no_lf : (text : List ℕ) → Free text → AllByRecursion (λ b. b ≢ 10) text
no_lf [] h = tt
no_lf (b ∷ text) h = (h.0.1, no_lf text h.1)

-- ---- fields

dash_free : Free (codes "-")
dash_free = free_word (codes "-") refl

word_byte_free : (b : ℕ) → Free (word_byte b)
word_byte_free b = go (b == 32)
  where
    go : (t : Bool) → Free (cond t (codes "\\x20") (shown_byte b))
    go true = (high 92 (omega arith), free_word (codes "x20") refl)
    go false = free_byte b

word_free : (text : List ℕ) → Free (word text)
word_free text = free_flat word_byte word_byte_free text

degrees_free : (f : Fraction) → Free (degrees_text f)
degrees_free f = free_append (signed_decimal f.numerator ++ codes "/") _
    (free_append (signed_decimal f.numerator) _ (free_signed f.numerator)
    (high 47 (omega arith), tt)) (free_signed f.denominator)

ambiguity_free : (place : Place) → Free (ambiguity_text place)
ambiguity_free (Plain lat lon ambiguity) = free_decimal ambiguity
ambiguity_free (Base91 y x cst) = free_word (codes "c") refl

stamp_free : (s : Option Stamp) → Free (stamp_field s) → Free (stamp_text s)
stamp_free None h = dash_free
stamp_free (Some s) h = h

id_free : (id : Option (List ℕ)) → Free (unwrap_or id []) → Free (id_word id)
id_free None h = dash_free
id_free (Some id) h = h

via_free : (all : List Address) → AllByRecursion IsAddress all → Free (via_text (map hop_of all))
via_free [] h = dash_free
via_free (a ∷ all) h = free_via (a ∷ all) h

place_free : (s : Option Stamp) (place : Place) (symbol : Symbol) → Free (stamp_field s)
    → AreFree (place_fields s place symbol)
place_free s place symbol h = stamp_free s h & degrees_free (latitude_of place)
    & degrees_free (longitude_of place) & ambiguity_free place
    & free_shown (symbol.table ∷ symbol.code ∷ []) & tt

fields_free : (fields : List (List ℕ)) → AreFree fields → Free (flat_map after_space fields)
fields_free [] h = tt
fields_free (x ∷ fields) h =
    (high 32 (omega arith), free_append x _ h.0 (fields_free fields h.1))

-- ---- lines

record Line (text : List ℕ) : Type 0 where
  body : List ℕ
  free : Free body
  is : text ≡ body ++ 10 ∷ []

text_line : (kind : List ℕ) (fields : List (List ℕ)) (text : List ℕ)
    → list_all is_shown_as_is kind ≡ true → AreFree fields → Line (line_with_text kind fields text)
text_line kind fields text k f =
    let more = flat_map after_space fields in
    record {
      body = kind ++ (more ++ 58 ∷ shown_text text);
      free = free_append kind _ (free_word kind k) (free_append more _ (fields_free fields f)
          (high 58 (omega arith), free_shown text));
      is = ap (λ l. kind ++ l) (sym (append_assoc more (58 ∷ shown_text text) (10 ∷ [])))
          ∙ sym (append_assoc kind (more ++ 58 ∷ shown_text text) (10 ∷ []));
    }

plain_line : (kind : List ℕ) (fields : List (List ℕ)) → list_all is_shown_as_is kind ≡ true
    → AreFree fields → Line (spaced_line kind fields)
plain_line kind fields k f =
    let more = flat_map after_space fields in
    record {
      body = kind ++ more;
      free = free_append kind _ (free_word kind k) (fields_free fields f);
      is = sym (append_assoc kind more (10 ∷ []));
    }

other : (head : List (List ℕ)) → AreFree head → (p : Parts) → IsParts p → (m : Option MicEValue)
    → Line (other_line head p m)
other head h p are (Some m) =
    text_line (codes "mic-e") _ m.comment refl (are_append head _ h (free_decimal m.course
    & free_decimal m.speed & free_says m.message & place_free None m.place m.symbol tt))
other head h p are None =
    text_line (codes "raw") _ p.info refl
    (are_append head _ h (free_call p.destination.call are.destination.call & tt))

told : (head : List (List ℕ)) → AreFree head → (p : Parts) → IsParts p → (v : Value)
    → Reads v p.info → Line (told_line head p v)
told head h p are (position messaging stamp place symbol comment) is =
    text_line (codes "position") _ comment refl
    (are_append head _ h (place_free stamp place symbol (optional_stamp stamp _ is.at_stamp)))
told head h p are (object name live stamp place symbol comment) is =
    text_line (codes "object") _ comment refl (are_append head _ h (word_free name
    & state_free live & place_free (Some stamp) place symbol (free_stamp stamp is.stamped)))
told head h p are (item name live place symbol comment) is =
    text_line (codes "item") _ comment refl (are_append head _ h (word_free name
    & state_free live & place_free None place symbol tt))
told head h p are (message addressee text id) is =
    text_line (codes "message") _ text refl (are_append head _ h (word_free addressee
    & id_free id (text_id text is.part id is.at_text) & tt))
told head h p are (ack addressee id) is =
    plain_line (codes "ack") _ refl (are_append head _ h (word_free addressee
    & free_id id (and_parts _ _ is.answer.an_id).1 & tt))
told head h p are (rej addressee id) is =
    plain_line (codes "rej") _ refl (are_append head _ h (word_free addressee
    & free_id id (and_parts _ _ is.answer.an_id).1 & tt))
told head h p are (status stamp text) is =
    text_line (codes "status") _ text refl
    (are_append head _ h (stamp_free stamp (status_stamp stamp text p.info is) & tt))
told head h p are raw is = other head h p are (mic_e_or_none p.destination.call.characters p.info)

row_line : (x : Row) → HasNamesAndFrame x → Line (history_line x)
row_line x h =
    let p = parts_of x.greatest.frame in
    let are = h.frame_is.parts in
    told (row_fields x) (free_moment x.first & free_moment (last_moment x)
    & free_names x.receivers (recursion_from_All IsName x.receivers h.names_are)
    & free_call p.source.call are.source.call & via_free p.digipeaters are.digipeaters & tt)
    p are (reading_of p.info) (reads_as p.info)

one_line_each : (rows : List Row) → AllByRecursion HasNamesAndFrame rows → HasOneLineEach rows
one_line_each [] h = ([], refl, All-from_recursion HasNoLf [] tt, refl)
one_line_each (x ∷ rows) h =
    let line = row_line x h.0 in
    let more = one_line_each rows h.1 in (
      line.body ∷ more.0,
      ap suc more.1,
      All-from_recursion HasNoLf (line.body ∷ more.0) (
        All-from_recursion (λ b. b ≢ 10) line.body (no_lf line.body line.free),
        recursion_from_All HasNoLf more.0 more.2,
      ),
      ap (λ l. l ++ history_text rows) line.is ∙ ap (λ l. (line.body ++ 10 ∷ []) ++ l) more.3,
    )

pub lines_of_told : (rows : List Row) → All HasNamesAndFrame rows → HasOneLineEach rows
lines_of_told rows h = one_line_each rows (recursion_from_All HasNamesAndFrame rows h)
