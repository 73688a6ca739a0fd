use Rattle.aprs_rows.proofs.Common.{◌≡◌, ◌++◌, take, All, flat_map, IsName}
use Rattle.aprs_rows.proofs.JoinedNames.{after_comma}
use Rattle.aprs_rows.proofs.row.names.put_further_names.Given as goal

abbrev pub invariant-loop-name : goal.invariant-loop-name
invariant-loop-name g l =
    let names = take l.name-index l.names in
    record {
      text : l.text.items ≡ l.initial.text.items ++ flat_map after_comma names;
      names : All IsName names;
    }
