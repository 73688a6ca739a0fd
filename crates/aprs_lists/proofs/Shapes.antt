-- Each line of the tables has all fields.
use Rattle.aprs_lists.proofs.Common.{◌≡◌, ◌∙◌, ◌∷◌, ◌++◌, [], ℕ, Bool, List, None, Option, Some, ap, ap₂, codes, length, refl, Received, Row, Value, key_of, report_of}
use Rattle.std.specs.Prelude.{true, false, if◌then◌else◌}
use Rattle.std.proofs.Common.{suc, ◌+◌}
use Rattle.std.proofs.lemmas.List.{length-append}
use Rattle.aprs_ax25.specs.Callsign.{Call, IsCall}
use Rattle.aprs_log.specs.Receiver.{IsName}
use Rattle.aprs_report.specs.Place.{latitude_of, longitude_of}
use Rattle.aprs_report.specs.Reading.{Reads, position, object, item, message, ack, rej, status, raw}
use Rattle.aprs_report.specs.declared.place.Place.{Place}
use Rattle.aprs_report.specs.declared.stamp.Stamp.{Stamp}
use Rattle.aprs_report.specs.declared.symbol.Symbol.{Symbol}
use Rattle.aprs_report.proofs.Readings.{reads_as}
use Rattle.aprs_summary.specs.Messages.{Message, state_text}
use Rattle.aprs_summary.specs.Names.{ReportsOf, Thing, reported_thing, shown_thing}
use Rattle.aprs_summary.specs.declared.lists.message.MessageState.{MessageState}
use Rattle.aprs_summary.specs.declared.lists.message.MessageState.TheVariants.{Unnumbered, Unanswered, Acknowledged, Rejected}
use Rattle.aprs_summary.specs.declared.lists.named.Named.{Named}
use Rattle.aprs_summary.specs.declared.lists.reply_ack.ReplyAck.{ReplyAck}
use Rattle.aprs_summary.specs.declared.lists.reply_ack.ReplyAck.TheVariants.{NotAwaited, Awaited, Heard}
use Rattle.aprs_summary.specs.declared.lists.station.Station.{Station}
use Rattle.aprs_table.specs.Cells.{stamp_field}
use Rattle.aprs_table.proofs.Shapes.{ambiguity_free, compressed_free, optional_stamp, state_free, status_stamp}
use Rattle.aprs_table.proofs.Frees.{AreFree, Free, ◌&◌, are_append, are_fields, free_call, free_decimal, free_degrees, free_moment, free_name, free_shown, free_stamp, free_word}
use Rattle.aprs_lists.specs.Lines.{tabbed_line}
use Rattle.aprs_lists.specs.Class.{class_text, is_announcement, is_answer, is_bulletin, is_query, is_telemetry, is_weather_bulletin}
use Rattle.aprs_lists.specs.Told.{Told, answer_fields, bytes_or_nothing, call_or_nothing, message_columns, message_number, moment_or_nothing, net_fields, reply_ack_fields, told_fields, told_message_line}
use Rattle.aprs_lists.specs.Shape.{HasAllFieldsOf, HasCall, HasName}
use Rattle.aprs_lists.specs.Activity.{frames_passed, heard_last}
use Rattle.aprs_lists.specs.Stations.{activity_fields, position_fields, position_in, station_columns, station_fields, station_table_line, status_fields, status_in}
use Rattle.aprs_lists.specs.Things.{named_fields, placed_fields, thing_columns, thing_line_in, thing_table_line}

-- so many fields without a tab and an LF
record AreSo (n : ℕ) (fields : List (List ℕ)) : Type 0 where
  count : length fields ≡ n
  free : AreFree fields

-- ---- messages

outcome_free : (s : MessageState) → Free (state_text s)
outcome_free Unnumbered = free_word (codes "unnumbered") refl
outcome_free Unanswered = free_word (codes "unanswered") refl
outcome_free Acknowledged = free_word (codes "acknowledged") refl
outcome_free Rejected = free_word (codes "rejected") refl

answer_free : (o : Option ℕ) (to : List ℕ) → AreFree (answer_fields o to)
answer_free None to = (tt, (tt, tt))
answer_free (Some answered) to = (free_moment answered, (free_shown to, tt))

reply_free : (r : ReplyAck) → AreFree (reply_ack_fields r)
reply_free NotAwaited = (tt, (tt, tt))
reply_free Awaited = (free_word (codes "unanswered") refl, (tt, tt))
reply_free (Heard moment) = (free_word (codes "acknowledged") refl, (free_moment moment, tt))

either_free : (b : Bool) (x y : List ℕ) → Free x → Free y → Free (if b then x else y)
either_free true x y h k = h
either_free false x y h k = k

class_free : (m : Message) → Free (class_text m)
class_free m =
    either_free (is_bulletin m.addressee) _ _ (free_word (codes "bulletin") refl)
    (either_free (is_announcement m.addressee) _ _ (free_word (codes "announcement") refl)
    (either_free (is_weather_bulletin m.addressee) _ _ (free_word (codes "weather-bulletin") refl)
    (either_free (is_telemetry m.text) _ _ (free_word (codes "telemetry") refl)
    (either_free (is_query m.text) _ _ (free_word (codes "query") refl)
    (either_free (is_answer m.id m.text) _ _ (free_word (codes "answer") refl)
    (free_word (codes "message") refl))))))

gate_free : (o : Option Call) → HasCall o → Free (call_or_nothing o)
gate_free None h = tt
gate_free (Some call) h = free_call call h

moment_free : (o : Option ℕ) → Free (moment_or_nothing o)
moment_free None = tt
moment_free (Some moment) = free_moment moment

net_free : (t : Told) → HasCall t.gate → AreFree (net_fields t)
net_free t gate = gate_free t.gate gate & class_free t.message
    & free_shown (bytes_or_nothing (message_number t.message)) & outcome_free t.outcome
    & moment_free t.settled & tt

nine : (o : Option ℕ) (to : List ℕ) (r : ReplyAck) (t : Told)
    → length (answer_fields o to ++ (reply_ack_fields r ++ net_fields t)) ≡ 9
nine None to NotAwaited t = refl
nine None to Awaited t = refl
nine None to (Heard moment) t = refl
nine (Some answered) to NotAwaited t = refl
nine (Some answered) to Awaited t = refl
nine (Some answered) to (Heard moment) t = refl

pub message_line : (t : Told) → IsCall t.message.source → HasCall t.gate
    → HasAllFieldsOf message_columns (told_message_line t)
message_line t call gate =
    let to = t.message.addressee in
    record {
      fields = told_fields t;
      count =
          ap (λ (n : ℕ). suc (suc (suc (suc (suc (suc (suc n)))))))
          (nine t.answered to t.reply_ack t);
      are_fields = are_fields (told_fields t) (free_call t.message.source call & free_shown to
          & free_shown (bytes_or_nothing t.message.id) & free_shown t.message.text
          & outcome_free t.state & free_moment t.first & free_moment t.last
          & are_append (answer_fields t.answered to) (reply_ack_fields t.reply_ack ++ net_fields t)
          (answer_free t.answered to)
          (are_append (reply_ack_fields t.reply_ack) (net_fields t) (reply_free t.reply_ack)
          (net_free t gate)));
      whole = refl;
    }

-- ---- places

placed_free : (stamp : Option Stamp) (p : Place) (symbol : Symbol) (text : List ℕ)
    → Free (stamp_field stamp) → AreFree (placed_fields stamp p symbol text)
placed_free stamp p symbol text h = h & free_degrees (latitude_of p) & free_degrees (longitude_of p)
    & ambiguity_free (Some p) & compressed_free (Some p)
    & free_shown (symbol.table ∷ symbol.code ∷ []) & free_shown text & tt

-- ---- stations

nothing : (tail : AreFree []) → AreFree ([] ∷ [] ∷ [] ∷ [] ∷ [])
nothing tail = (tt, (tt, (tt, (tt, tail))))

no_place : AreFree ([] ∷ [] ∷ [] ∷ [] ∷ [] ∷ [] ∷ [] ∷ [] ∷ [] ∷ [])
no_place = (tt, (tt, (tt, (tt, (tt, (tt, (tt, (tt, (tt, tt)))))))))

position_so : (x : Received) (v : Value) (info : List ℕ) → IsName x.receiver → Reads v info
    → AreSo 9 (position_in x v)
position_so x (position messaging stamp p symbol comment) info n is = record {
  count = refl;
  free = free_moment x.moment & free_name x.receiver n
      & placed_free stamp p symbol comment (optional_stamp stamp _ is.at_stamp);
}
position_so x (object a b c d e f) info n is = record { count = refl; free = no_place }
position_so x (item a b c d e) info n is = record { count = refl; free = no_place }
position_so x (message a b c) info n is = record { count = refl; free = no_place }
position_so x (ack a b) info n is = record { count = refl; free = no_place }
position_so x (rej a b) info n is = record { count = refl; free = no_place }
position_so x (status a b) info n is = record { count = refl; free = no_place }
position_so x raw info n is = record { count = refl; free = no_place }

status_so : (x : Received) (v : Value) (info : List ℕ) → IsName x.receiver → Reads v info
    → AreSo 4 (status_in x v)
status_so x (status stamp text) info n is = record {
  count = refl;
  free = free_moment x.moment & free_name x.receiver n & status_stamp stamp text info is
      & free_shown text & tt;
}
status_so x (position a b c d e) info n is = record { count = refl; free = nothing tt }
status_so x (object a b c d e f) info n is = record { count = refl; free = nothing tt }
status_so x (item a b c d e) info n is = record { count = refl; free = nothing tt }
status_so x (message a b c) info n is = record { count = refl; free = nothing tt }
status_so x (ack a b) info n is = record { count = refl; free = nothing tt }
status_so x (rej a b) info n is = record { count = refl; free = nothing tt }
status_so x raw info n is = record { count = refl; free = nothing tt }

known_position : (o : Option Received) → HasName o → AreSo 9 (position_fields o)
known_position None h = record { count = refl; free = no_place }
known_position (Some x) h = let info = (key_of x.frame).info in
    position_so x (report_of (key_of x.frame)) info h (reads_as info)

known_status : (o : Option Received) → HasName o → AreSo 4 (status_fields o)
known_status None h = record { count = refl; free = nothing tt }
known_status (Some x) h = let info = (key_of x.frame).info in
    status_so x (report_of (key_of x.frame)) info h (reads_as info)

pub station_line : (rows : List Row) (x : Station) → IsCall x.call → HasName x.position
    → HasName x.status → HasAllFieldsOf station_columns (station_table_line rows x)
station_line rows x call p s =
    let at = known_position x.position p in
    let of = known_status x.status s in
    let heard = heard_last x.call rows in
    let passed = frames_passed x.call rows in
    let status = status_fields x.status ++ activity_fields heard passed in
    record {
      fields = station_fields x (activity_fields heard passed);
      count = ap (λ (n : ℕ). suc (suc n))
          (length-append (position_fields x.position) status
          ∙ ap₂ (λ (m n : ℕ). m + n) at.count
          (length-append (status_fields x.status) (activity_fields heard passed)
          ∙ ap (λ (n : ℕ). n + 2) of.count));
      are_fields = are_fields (station_fields x (activity_fields heard passed))
          (free_call x.call call & free_decimal x.transmissions
          & are_append (position_fields x.position) status at.free
          (are_append (status_fields x.status) (activity_fields heard passed) of.free
          (moment_free heard & free_decimal passed & tt)));
      whole = refl;
    }

-- ---- objects and items

named_free : (name : List ℕ) (live : Bool) (x : Received) → IsCall (key_of x.frame).source
    → IsName x.receiver → AreFree (named_fields name live x)
named_free name live x call n = free_shown name & state_free live & free_moment x.moment
    & free_name x.receiver n & free_call (key_of x.frame).source call & tt

named_line : (kind name : List ℕ) (live : Bool) (x : Received) (stamp : Option Stamp) (p : Place)
    (symbol : Symbol) (text : List ℕ) → Free kind → Free (stamp_field stamp)
    → IsCall (key_of x.frame).source → IsName x.receiver
    → HasAllFieldsOf thing_columns
    (tabbed_line (kind ∷ named_fields name live x ++ placed_fields stamp p symbol text))
named_line kind name live x stamp p symbol text k s call n = record {
  fields = kind ∷ named_fields name live x ++ placed_fields stamp p symbol text;
  count = refl;
  are_fields = are_fields (kind ∷ named_fields name live x ++ placed_fields stamp p symbol text)
      (k & are_append (named_fields name live x) (placed_fields stamp p symbol text)
      (named_free name live x call n) (placed_free stamp p symbol text s));
  whole = refl;
}

line_in : (x : Received) (v : Value) (info : List ℕ) (t : Thing) → reported_thing v ≡ Some t
    → IsCall (key_of x.frame).source → IsName x.receiver → Reads v info
    → HasAllFieldsOf thing_columns (thing_line_in x v)
line_in x (object name live stamp p symbol comment) info t e call n is =
    named_line (codes "object") name live x (Some stamp) p symbol comment
    (free_word (codes "object") refl) (free_stamp stamp is.stamped) call n
line_in x (item name live p symbol comment) info t e call n is =
    named_line (codes "item") name live x None p symbol comment (free_word (codes "item") refl) tt
    call n
line_in x (position a b c d f) info t e call n is = absurd (cc)
line_in x (message a b c) info t e call n is = absurd (cc)
line_in x (ack a b) info t e call n is = absurd (cc)
line_in x (rej a b) info t e call n is = absurd (cc)
line_in x (status a b) info t e call n is = absurd (cc)
line_in x raw info t e call n is = absurd (cc)

pub thing_line : (x : Named) → ReportsOf (shown_thing x) (key_of x.heard.frame)
    → IsCall (key_of x.heard.frame).source → IsName x.heard.receiver
    → HasAllFieldsOf thing_columns (thing_table_line x)
thing_line x e call n = let info = (key_of x.heard.frame).info in
    line_in x.heard (report_of (key_of x.heard.frame)) info (shown_thing x) e call n (reads_as info)
