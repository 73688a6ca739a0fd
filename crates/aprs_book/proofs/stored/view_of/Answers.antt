use Rattle.aprs_book.proofs.Common.{◌∙◌}
use Rattle.aprs_book.proofs.InStore.{names_have, row_is}
use Rattle.aprs_book.proofs.stored.view_of.Goals as goal

pub new-requires : goal.new-requires
new-requires g c =
    names_have c.args.row.now c.args.text.now c.requires.text c.requires.names c.requires.sound

pub returns : goal.returns
returns g c =
    row_is c.args.row.now c.args.text.now c.requires.text c.requires.names c.requires.sound
    c.new.result c.first.result c.of.result c.new.ensures c.first.ensures
    (c.of.ensures ∙ c.greatest.ensures)
