-- Sets with the same members have one text of each table.
use Rattle.aprs_lists.proofs.Common.{◌≡◌, ◌∙◌, ◌++◌, [], ℕ, List, None, Option, Some, ap, arith, refl, subst, sym, bytes_total, bool_cmp_total, on_total, then_total, IsTotalOrder, BookOf, Received, Row, SameMembers, ◌∈◌, Key, call_total, known_once, not_both}
use Rattle.std.specs.List.{count_by}
use Rattle.aprs_ax25.specs.Callsign.{Call, call_cmp}
use Rattle.aprs_transmissions.proofs.Books.{unique}
use Rattle.aprs_transmissions.specs.Best.{LastKnown}
use Rattle.aprs_transmissions.specs.BestLaws.{Passes}
use Rattle.aprs_transmissions.specs.Order.{IsBelow}
use Rattle.aprs_transmissions.specs.Row.{row_key}
use Rattle.aprs_transmissions.specs.Spans.{IsFirstMoment, IsLastMoment}
use Rattle.aprs_summary.proofs.Messages.{message_total}
use Rattle.aprs_summary.proofs.OneReplyAck.{reply_ack_once}
use Rattle.aprs_summary.specs.declared.lists.reply_ack.ReplyAck.{ReplyAck}
use Rattle.aprs_summary.specs.Messages.{AnswersIt, AreMessages, IsAnsweredAt, IsReplyAckOf, IsStateOf, Message, ReportsIt, answered_by, message_cmp, shown_message, state_by}
use Rattle.aprs_summary.specs.Names.{AreNamed, ReportsOf, Thing, shown_thing, thing_cmp}
use Rattle.aprs_summary.specs.Reports.{has_source, reports_position, reports_status}
use Rattle.aprs_summary.specs.Stations.{AreStations}
use Rattle.aprs_summary.specs.declared.lists.message.MessageRow.{MessageRow}
use Rattle.aprs_summary.specs.declared.lists.message.MessageState.{MessageState}
use Rattle.aprs_summary.specs.declared.lists.named.Named.{Named}
use Rattle.aprs_summary.specs.declared.lists.station.Station.{Station}
use Rattle.aprs_lists.specs.Lines.{tabbed_line}
use Rattle.aprs_lists.specs.Messages.{messages_table}
use Rattle.aprs_lists.specs.Told.{listed_line, listed_outcome, listed_settled, message_columns, told_message_line}
use Rattle.aprs_lists.specs.Stations.{station_columns, station_table_line, stations_table}
use Rattle.aprs_lists.specs.Things.{heard_thing_line, thing_columns, thing_table_line, things_table}
use Rattle.aprs_lists.proofs.Once.{same_lines}

module _ (S T : List Received) (same : SameMembers S T) where
  -- ---- messages

  first_once : (P : Key → Type 0) (m n : ℕ) → IsFirstMoment S P m → IsFirstMoment T P n → m ≡ n
  first_once P m n h k =
      let a = h.least k.heard.0 ((same k.heard.0).1 k.heard.1) k.heard.2 in
      let b = k.least h.heard.0 ((same h.heard.0).0 h.heard.1) h.heard.2 in
      omega (arith, a, b, h.heard.3, k.heard.3)

  last_once : (P : Key → Type 0) (m n : ℕ) → IsLastMoment S P m → IsLastMoment T P n → m ≡ n
  last_once P m n h k =
      let a = h.greatest k.heard.0 ((same k.heard.0).1 k.heard.1) k.heard.2 in
      let b = k.greatest h.heard.0 ((same h.heard.0).0 h.heard.1) h.heard.2 in
      omega (arith, a, b, h.heard.3, k.heard.3)

  state_once : (m : Message) (first : ℕ) (id : Option (List ℕ)) (s t : MessageState)
      → IsStateOf S m first id s → IsStateOf T m first id t → s ≡ t
  state_once m first None s t h k = h ∙ sym k
  state_once m first (Some id) s t h k = h.2
      ∙ (ap (state_by first) (known_once S T (AnswersIt m id) h.0 k.0 same h.1 k.1) ∙ sym k.2)

  answer_once : (m : Message) (first : ℕ) (id : Option (List ℕ)) (s t : Option ℕ)
      → IsAnsweredAt S m first id s → IsAnsweredAt T m first id t → s ≡ t
  answer_once m first None s t h k = h ∙ sym k
  answer_once m first (Some id) s t h k = h.2
      ∙ (ap (answered_by first) (known_once S T (AnswersIt m id) h.0 k.0 same h.1 k.1) ∙ sym k.2)

  abbrev message_told : Message → MessageState → ℕ → ℕ → Option ℕ → ReplyAck → List ℕ
  message_told m state first last answered reply_ack = told_message_line (record {
    message = record { source = m.source; addressee = m.addressee; text = m.text; id = m.id };
    state = state;
    first = first;
    last = last;
    answered = answered;
    reply_ack = reply_ack;
    gate = None;
    outcome = listed_outcome state reply_ack;
    settled = listed_settled answered reply_ack;
  })

  module _ (xs ys : List MessageRow) (p : AreMessages S xs) (q : AreMessages T ys) where
    one_message_line : (x y : MessageRow) → x ∈ xs → y ∈ ys → shown_message x ≡ shown_message y
        → listed_line x ≡ listed_line y
    one_message_line x y i j e =
        let a = p.each x i in
        let b = q.each y j in
        let first : x.first ≡ y.first = first_once (ReportsIt (shown_message x)) x.first y.first
        a.first (subst (λ (m : Message). IsFirstMoment T (ReportsIt m) y.first) (sym e) b.first) in
        let last : x.last ≡ y.last = last_once (ReportsIt (shown_message x)) x.last y.last
        a.last (subst (λ (m : Message). IsLastMoment T (ReportsIt m) y.last) (sym e) b.last) in
        let state : x.state ≡ y.state = state_once (shown_message x) x.first (shown_message x).id
        x.state y.state a.state
        (subst (λ (m : Message). IsStateOf T m x.first m.id y.state) (sym e)
        (subst (λ (n : ℕ). IsStateOf T (shown_message y) n (shown_message y).id y.state)
        (sym first) b.state)) in
        let answered : x.answered ≡ y.answered = answer_once (shown_message x) x.first
        (shown_message x).id x.answered y.answered a.answered
        (subst (λ (m : Message). IsAnsweredAt T m x.first m.id y.answered) (sym e)
        (subst (λ (n : ℕ). IsAnsweredAt T (shown_message y) n (shown_message y).id y.answered)
        (sym first) b.answered)) in
        let reply_ack : x.reply_ack ≡ y.reply_ack = reply_ack_once S T same (shown_message x)
        x.first x.reply_ack y.reply_ack a.reply_ack
        (subst (λ (m : Message). IsReplyAckOf T m x.first y.reply_ack) (sym e)
        (subst (λ (n : ℕ). IsReplyAckOf T (shown_message y) n y.reply_ack) (sym first)
        b.reply_ack)) in
        λ k. message_told (e k) (state k) (first k) (last k) (answered k) (reply_ack k)

    pub one_messages : messages_table xs ≡ messages_table ys
    one_messages = ap (λ (l : List ℕ). tabbed_line message_columns ++ l)
        (same_lines shown_message listed_line (IsBelow message_cmp)
        (not_both message_total) xs ys p.ascending q.ascending
        (λ x i. let s = (p.messages (shown_message x)).0 (x, i, refl) in
        (q.messages (shown_message x)).1 (s.0, (same s.0).0 s.1, s.2))
        (λ y i. let s = (q.messages (shown_message y)).0 (y, i, refl) in
        (p.messages (shown_message y)).1 (s.0, (same s.0).1 s.1, s.2))
        one_message_line)

  -- ---- stations

  abbrev rows_of : Call → List Row → ℕ
  rows_of call rows = count_by (λ (r : Row). has_source call (row_key r)) rows

  module _ (gap : ℕ) (rows more : List Row) (f : BookOf gap S rows) (g : BookOf gap T more)
      (xs ys : List Station) (p : AreStations S rows xs) (q : AreStations T more ys) where
    same_rows : rows ≡ more
    same_rows = unique gap S T rows more same f g

    one_station_line : (x y : Station) → x ∈ xs → y ∈ ys → x.call ≡ y.call
        → station_table_line rows x ≡ station_table_line rows y
    one_station_line x y i j e =
        let a = p.each x i in
        let b = q.each y j in
        let n : x.transmissions ≡ y.transmissions = a.transmissions
        ∙ (ap (rows_of x.call) same_rows
        ∙ (ap (λ (c : Call). rows_of c more) e ∙ sym b.transmissions)) in
        let position : x.position ≡ y.position =
        known_once S T (Passes (reports_position x.call)) x.position y.position same a.position
        (subst (λ (c : Call). LastKnown T (Passes (reports_position c)) y.position) (sym e)
        b.position) in
        let status : x.status ≡ y.status =
        known_once S T (Passes (reports_status x.call)) x.status y.status same a.status
        (subst (λ (c : Call). LastKnown T (Passes (reports_status c)) y.status) (sym e) b.status) in
        λ i. station_table_line rows (record {
          call = e i;
          transmissions = n i;
          position = position i;
          status = status i;
        })

    pub one_stations : stations_table rows xs ≡ stations_table more ys
    one_stations = ap (λ (l : List ℕ). tabbed_line station_columns ++ l)
        (same_lines (λ (x : Station). x.call) (station_table_line rows) (IsBelow call_cmp)
        (not_both call_total) xs ys p.ascending q.ascending
        (λ x i. let s = (p.sources x.call).0 (x, i, refl) in
        (q.sources x.call).1 (s.0, (same s.0).0 s.1, s.2))
        (λ y i. let s = (q.sources y.call).0 (y, i, refl) in
        (p.sources y.call).1 (s.0, (same s.0).1 s.1, s.2))
        one_station_line)
        ∙ ap (λ (r : List Row). stations_table r ys) same_rows

  -- ---- objects and items

  thing_total : IsTotalOrder thing_cmp
  thing_total = then_total (on_total (λ (t : Thing). t.is_item) bool_cmp_total)
      (on_total (λ (t : Thing). t.name) bytes_total)

  abbrev line_of_known : Option Received → List ℕ
  line_of_known None = []
  line_of_known (Some x) = heard_thing_line x

  module _ (xs ys : List Named) (p : AreNamed S xs) (q : AreNamed T ys) where
    one_thing_line : (x y : Named) → x ∈ xs → y ∈ ys → shown_thing x ≡ shown_thing y
        → thing_table_line x ≡ thing_table_line y
    one_thing_line x y i j e = ap line_of_known
        (known_once S T (ReportsOf (shown_thing x)) (Some x.heard) (Some y.heard) same (p.each x i)
        (subst (λ (t : Thing). LastKnown T (ReportsOf t) (Some y.heard)) (sym e) (q.each y j)))

    pub one_things : things_table xs ≡ things_table ys
    one_things = ap (λ (l : List ℕ). tabbed_line thing_columns ++ l)
        (same_lines shown_thing thing_table_line (IsBelow thing_cmp)
        (not_both thing_total) xs ys p.ascending q.ascending
        (λ x i. let s = (p.things (shown_thing x)).0 (x, i, refl) in
        (q.things (shown_thing x)).1 (s.0, (same s.0).0 s.1, s.2))
        (λ y i. let s = (q.things (shown_thing y)).0 (y, i, refl) in
        (p.things (shown_thing y)).1 (s.0, (same s.0).1 s.1, s.2))
        one_thing_line)
