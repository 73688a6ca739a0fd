use Rattle.aprs_rows.proofs.Common.{◌∙◌, ◌∷◌, [], ap, sym, subst, arith, length, Row, IsSoundRow, join_with_byte, join_with_byte-slice_split, nat_tests}
use Rattle.aprs_rows.specs.NameRoom.{GatheredNames}
use Rattle.aprs_rows.specs.Names.{names_in}
use Rattle.aprs_rows.proofs.Opens.{not_none}
use Rattle.aprs_rows.proofs.OpenRows.{joined_is, near_sound}
use Rattle.aprs_rows.proofs.Rows.{on_ok}
use Rattle.aprs_rows.proofs.store.open_row.join_into.Goals as goal

pub unite-both-requires : goal.unite-both-requires
unite-both-requires g c =
    not_none c.gather-2.new.self.names c.gather.new.self.names c.receivers-theirs.result.now
    c.gather-2.ensures.names

pub set-requires-clause-sound : goal.set-requires-clause-sound
set-requires-clause-sound g c =
    subst (λ (x : Row). IsSoundRow x) (sym (joined_is c.args.own c.args.next.now c.copy.result c.grown-first.result.1
    c.with_first_and_names.result c.first.result c.grown-first.result.0 c.in_ok-room.room.names
    c.gather.new.self.names c.gather-2.new.self.names c.receivers-ours.result.now
    c.receivers-theirs.result.now (names_in c.unite-both.result.now) c.requires.sound.0
    c.requires.sound.1 (ap (λ (r : GatheredNames). r.names) c.in_ok-room.ensures.room)
    c.gather.ensures.names c.gather-2.ensures.names c.receivers-ours.ensures.names
    c.receivers-theirs.ensures.names c.unite-both.ensures.text c.copy.ensures c.first.ensures
    c.grown-first.ensures.first c.grown-first.ensures.greatest c.with_first_and_names.ensures))
    (near_sound c.args.gap c.args.own c.args.next.now c.requires.range c.requires.sound.0
    c.requires.sound.1 c.requires.near)

pub set-requires-clause-short : goal.set-requires-clause-short
set-requires-clause-short g c =
    let text = c.unite-both.result.now in
    let n = ap (λ (x : Row). length (join_with_byte 44 x.receivers)) c.with_first_and_names.ensures
    ∙ ap length (join_with_byte-slice_split 44 text) in
    grind (arith, nat_tests, n, c.if-both-gt-MOST_NAMES.false)

pub returns : goal.returns
returns g c =
    on_ok c.set.result (λ e. e ∙ ap (λ (x : Row). x ∷ []) (joined_is c.args.own c.args.next.now c.copy.result c.grown-first.result.1
    c.with_first_and_names.result c.first.result c.grown-first.result.0 c.in_ok-room.room.names
    c.gather.new.self.names c.gather-2.new.self.names c.receivers-ours.result.now
    c.receivers-theirs.result.now (names_in c.unite-both.result.now) c.requires.sound.0
    c.requires.sound.1 (ap (λ (r : GatheredNames). r.names) c.in_ok-room.ensures.room)
    c.gather.ensures.names c.gather-2.ensures.names c.receivers-ours.ensures.names
    c.receivers-theirs.ensures.names c.unite-both.ensures.text c.copy.ensures c.first.ensures
    c.grown-first.ensures.first c.grown-first.ensures.greatest c.with_first_and_names.ensures)) c.set.ensures.set
