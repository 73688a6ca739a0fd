use Rattle.aprs_lists.proofs.Listings.{is_shown}
use Rattle.aprs_table.proofs.Chains.{◌before◌, refused}
use Rattle.aprs_lists.proofs.listing.put_listing.Goals as goal

pub returns-in_err-put_stations : goal.returns-in_err-put_stations
returns-in_err-put_stations g c = (
  _,
  is_shown _ _ _ _ c.stations-stations.ensures c.objects-named.ensures c.messages-messages.ensures,
  refused c.from_residual.ensures.0 c.in_err-put_stations.ensures _,
)

pub returns-in_err-put_all_named : goal.returns-in_err-put_all_named
returns-in_err-put_all_named g c = (
  _,
  is_shown _ _ _ _ c.stations-stations.ensures c.objects-named.ensures c.messages-messages.ensures,
  c.in_ok-put_stations.ensures before refused c.from_residual-in_err-put_all_named.ensures.0
      c.in_err-put_all_named.ensures _,
)

pub returns : goal.returns
returns g c = (
  _,
  is_shown _ _ _ _ c.stations-stations.ensures c.objects-named.ensures c.messages-messages.ensures,
  c.in_ok-put_stations.ensures before c.in_ok-put_all_named.ensures before c.put_messages.ensures,
)
