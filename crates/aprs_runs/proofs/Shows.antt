-- Lemmas on the text of a listing.
use Rattle.aprs_runs.proofs.Common.{◌≡◌, ◌≢◌, ℕ, List, [], ◌∷◌, ◌++◌, Option, inl, inr, refl, ap, ap₂, sym, ◌∙◌, append_assoc, subst, codes, flat_map, flat_map-append, decimal, Call, call_cmp, call_text, known_once, BookOf, BookValue, millis_of, LastKnown, Passes, ◌∈◌, Ordered, Received, reports_position, known_line, spaced_line, message_line, named_line, station_lines}
use Rattle.std.specs.declared.cmp.Ordering.TheVariants.{Less}
use Rattle.aprs_transmissions.proofs.Orders.{call_total, not_both}
use Rattle.aprs_summary.specs.Stations.{ComesBefore, IsSource}
use Rattle.aprs_summary.specs.declared.lists.station.Station.{Station}
use Rattle.aprs_runs.specs.Show.{IsListingOf, TellsPosition}
use Rattle.aprs_lists.specs.Listing.{IsShown}

below_itself : (c : Call) → call_cmp c c ≡ Less → ⊥
below_itself c h = not_both call_total c c h h

-- a station of the list, and those before it, which are others
record Cut (xs : List Station) (call : Call) : Type 0 where
  before : List Station
  found : Station
  after : List Station
  is : found.call ≡ call
  member : found ∈ xs
  others : (x : Station) → x ∈ before → x.call ≢ call
  whole : xs ≡ before ++ found ∷ after

cut_at : (xs : List Station) (call : Call) (x : Station) → Ordered ComesBefore xs → x ∈ xs
    → x.call ≡ call → Cut xs call
cut_at [] call x o m e = absurd m
cut_at (y ∷ ys) call x o (inl s) e =
    record {
      before = [];
      found = y;
      after = ys;
      is = ap (λ (x : Station). x.call) s
          ∙ e;
      member = inl refl;
      others = λ z m. absurd m;
      whole = refl;
    }
cut_at (y ∷ ys) call x o (inr m) e =
    let rest = cut_at ys call x o.1 m e in
    let first : y.call ≢ call = λ same. below_itself y.call
    (subst (λ c. call_cmp y.call c ≡ Less) (e ∙ sym same) (o.0 x m)) in
    record {
      before = y ∷ rest.before;
      found = rest.found;
      after = rest.after;
      is = rest.is;
      member = inr rest.member;
      others = λ z k. elim k [
        | inl s ↦ subst (λ (t : Station). t.call ≢ call) s first
        | inr k ↦ rest.others z k
      ];
      whole = ap (λ l. y ∷ l) rest.whole;
    }

parts : (before after : List Station) (x : Station) (line position status rest : List ℕ)
    → station_lines x ≡ line ++ (position ++ status)
    → flat_map station_lines (before ++ x ∷ after) ++ rest ≡ flat_map station_lines before
    ++ (line ++ (position ++ (status ++ (flat_map station_lines after ++ rest))))
parts before after x line position status rest e =
    ap (λ l. l ++ rest) (flat_map-append station_lines before (x ∷ after)
    ∙ ap (λ l. flat_map station_lines before ++ (l ++ flat_map station_lines after)) e)
    ∙ simp append_assoc

pub tells_position_of : (gap : ℕ) (S : List Received) (text : List ℕ) (call : Call)
    (known : Option Received) → IsListingOf gap S text → IsSource S call
    → LastKnown S (Passes (reports_position call)) known
    → TellsPosition text call known
tells_position_of gap S text call known l source best =
    let found = (l.are_stations.sources call).1 source in
    let cut = cut_at l.stations call found.0 l.are_stations.ascending found.1 found.2 in
    let x = cut.found in
    let rest = flat_map named_line l.named ++ flat_map message_line l.messages in
    let its = (l.are_stations.each x cut.member).position in
    let same : x.position ≡ known = known_once S S (Passes (reports_position call)) x.position known
    (λ s. (λ h. h, λ h. h)) (subst (λ c. LastKnown S (Passes (reports_position c)) x.position)
    cut.is its) best in
    record {
      before = cut.before;
      transmissions = x.transmissions;
      after = known_line x.status ++ (flat_map station_lines cut.after ++ rest);
      others = cut.others;
      text_is = l.text_is ∙ ap (λ l. flat_map station_lines l ++ rest) cut.whole
          ∙ parts cut.before cut.after x (spaced_line (codes "station")
          (call_text call ∷ decimal x.transmissions ∷ [])) (known_line known)
          (known_line x.status) rest
          (ap₂ (λ (c : Call) (p : Option Received). spaced_line (codes "station")
          (call_text c ∷ decimal x.transmissions ∷ [])
          ++ (known_line p ++ known_line x.status)) cut.is same);
    }

-- the listing of whatever set the rows are the book of
pub listing_of_shown : (gap : ℕ) (b : BookValue) (text : List ℕ) → b.gap ≡ gap → IsShown b text
    → (S : List Received) → BookOf (millis_of gap) S b.rows → IsListingOf gap S text
listing_of_shown gap b text is s S book =
    let own = subst (λ g. BookOf (millis_of g) S b.rows) (sym is) book in
    record {
      rows = b.rows;
      stations = s.stations;
      named = s.named;
      messages = s.messages;
      book = book;
      are_stations = s.are_stations S own;
      are_named = s.are_named S own;
      are_messages = s.are_messages S own;
      text_is = s.text_is;
    }
