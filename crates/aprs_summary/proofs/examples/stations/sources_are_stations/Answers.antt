use Rattle.aprs_summary.proofs.Common.{◌≡◌, ℕ, Bool, Option, Some, None, List, [], ◌∷◌, inl, inr, refl, ap, subst, arith, option_map_or, Call, Received, Key, LastKnown, known_of, Passes, n0call, plain_known, known_once, ◌∈◌, each_of}
use Rattle.aprs_report.specs.Reader.{report_by_form, utc_at, stamp_at, position_of, place_of, plain_of, angle_of, minutes_of, numeral_of, cut_end}
use Rattle.aprs_transmissions.specs.Key.{key_of}
use Rattle.aprs_summary.specs.declared.lists.station.Station.{Station}
use Rattle.aprs_summary.specs.Reports.{reports_position, reports_status}
use Rattle.aprs_summary.specs.Stations.{ComesBefore, IsSource, IsStation}
use Rattle.aprs_summary.specs.Examples.{status_at, position_at, two_stations, two_stations_rows, station_of}
use Rattle.aprs_summary.proofs.examples.stations.sources_are_stations.Goals as goal

-- both stations, as they are listed
abbrev seventh : Station
seventh = station_of 7 2 (Some (position_at 0)) (Some (status_at 7 30000))

abbrev eighth : Station
eighth = station_of 8 1 None (Some (status_at 8 0))

-- what is known of the set, by computation
known : (test : Key → Bool) (x : Option Received) → known_of test None two_stations ≡ x
    → LastKnown two_stations (Passes test) x
known test x e = subst (λ (k : Option Received). LastKnown two_stations (Passes test) k) e
    (plain_known test two_stations)

known_position : LastKnown two_stations (Passes (reports_position (n0call 7))) (Some (position_at 0))
unfolding key_of report_by_form utc_at stamp_at position_of place_of plain_of angle_of minutes_of
    numeral_of cut_end
known_position = known (reports_position (n0call 7)) (Some (position_at 0)) refl

known_status : LastKnown two_stations (Passes (reports_status (n0call 7)))
    (Some (status_at 7 30000))
unfolding key_of report_by_form utc_at stamp_at position_of place_of plain_of angle_of minutes_of
    numeral_of cut_end
known_status = known (reports_status (n0call 7)) (Some (status_at 7 30000)) refl

is_seventh : IsStation two_stations two_stations_rows seventh
unfolding key_of
is_seventh = record { transmissions = refl; position = known_position; status = known_status }

is_eighth : IsStation two_stations two_stations_rows eighth
unfolding key_of report_by_form utc_at stamp_at position_of place_of plain_of angle_of minutes_of
    numeral_of cut_end
is_eighth = record {
  transmissions = refl;
  position = known (reports_position (n0call 8)) None refl;
  status = known (reports_status (n0call 8)) (Some (status_at 8 0)) refl;
}

abbrev listed : List Station
listed = seventh ∷ eighth ∷ []

-- the moment of what is known
abbrev moment_of : Option Received → ℕ
moment_of known = option_map_or (λ s. s.moment) known 1

pub returns : goal.returns
unfolding key_of
returns c = record {
  stations = record {
    ascending = (each_of (ComesBefore seventh) (eighth ∷ []) (refl, tt), (λ y h. absurd h, tt));
    sources = λ call. (
      λ t. each_of (λ (x : Station). x.call ≡ call → IsSource two_stations call) listed (
        λ e. (status_at 7 0, inl refl, e),
        (λ e. (status_at 8 0, inr (inr (inr (inl refl))), e), tt),
      ) t.0 t.1 t.2,
      λ t. each_of (λ (s : Received). (key_of s.frame).source ≡ call
          → (x : Station) × (x ∈ listed) × (x.call ≡ call)) two_stations (
            λ e. (seventh, inl refl, e),
            (
              λ e. (seventh, inl refl, e),
              (λ e. (seventh, inl refl, e), (λ e. (eighth, inr (inl refl), e), tt)),
            ),
          ) t.0 t.1 t.2,
    );
    each =
        each_of (λ (y : Station). IsStation two_stations two_stations_rows y) listed
        (is_seventh, (is_eighth, tt));
  };
  misses_receptions = λ a. let n : 3 ≡ 2 =
      (a.each (station_of 7 3 (Some (position_at 0)) (Some (status_at 7 30000)))
      (inl refl)).transmissions in omega (arith, n);
  misses_status = λ a. let n : 0 ≡ 30000 =
      ap moment_of
      (known_once two_stations two_stations (Passes (reports_status (n0call 7)))
      (Some (status_at 7 0)) (Some (status_at 7 30000)) (λ x. (λ h. h, λ h. h))
      (a.each (station_of 7 2 (Some (position_at 0)) (Some (status_at 7 0))) (inl refl)).status
      known_status) in omega (arith, n);
  misses_position = λ a. let n : 1 ≡ 0 =
      ap moment_of
      (known_once two_stations two_stations (Passes (reports_position (n0call 7)))
      None (Some (position_at 0)) (λ x. (λ h. h, λ h. h))
      (a.each (station_of 7 2 None (Some (status_at 7 30000))) (inl refl)).position
      known_position) in omega (arith, n);
  misses_order = λ a. let h = a.ascending.0 seventh (inl refl) in cc h;
  misses_station = λ a. let t =
      (a.sources (n0call 8)).1 (status_at 8 0, inr (inr (inr (inl refl))), refl) in
      each_of (λ (x : Station). x.call ≡ n0call 8 → ⊥) (seventh ∷ [])
      (λ e. let n : 7 ≡ 8 = ap (λ (x : Call). x.ssid) e in omega (arith, n), tt) t.0 t.1 t.2;
}
