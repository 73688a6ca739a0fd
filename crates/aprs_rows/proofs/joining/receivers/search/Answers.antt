use Rattle.aprs_rows.proofs.ReceiverNames.{searched_name}
use Rattle.aprs_rows.proofs.joining.receivers.search.Goals as goal

pub returns : goal.returns
returns c =
    searched_name c.binary_search.result c.args.name.now c.args.names.now c.requires
    c.binary_search.ensures.bound c.binary_search.ensures.position
