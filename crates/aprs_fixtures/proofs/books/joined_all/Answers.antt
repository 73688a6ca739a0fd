use Rattle.aprs_fixtures.proofs.books.joined_all.Goals as goal

pub join_all-requires : goal.join_all-requires
join_all-requires g c = c.all_fit.ensures.0 (cc)
