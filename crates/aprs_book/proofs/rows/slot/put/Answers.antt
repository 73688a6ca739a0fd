use Rattle.aprs_book.proofs.Common.{◌≡◌, ◌∙◌, false, true, arith}
use Rattle.aprs_book.proofs.Slots.{grow_listed, grow_done, bridge_done, one_within, two_within}
use Rattle.aprs_book.proofs.rows.slot.put.Goals as goal

pub returns-in_err-grow-in-One-clause-in_place : goal.returns-in_err-grow-in-One-clause-in_place
returns-in_err-grow-in-One-clause-in_place g c = λ p.
    let found = c.in-One.ensures in
    let listed =
    grow_listed c.args.gap c.args.x.now c.args.rows.now.items _ _ c.index_mut-row.ensures.value
    found.0 found.1 found.2 p in
    let no : false ≡ true = c.in_err-grow-in-One.ensures.listed listed in
    absurd (cc)

pub index_mut-row-requires : goal.index_mut-row-requires
index_mut-row-requires g c =
    let within = one_within c.args.gap c.args.x.now c.args.rows.now.items c.in-One.i
    c.in-One.ensures in
    omega (arith, within, c.args.rows.now.ok.0)

pub index-requires : goal.index-requires
index-requires g c =
    let within = two_within c.args.gap c.args.x.now c.args.rows.now.items c.in-Two.i
    c.in-Two.ensures in
    omega (arith, within, c.args.rows.now.ok.0)

pub index-requires-in-Two : goal.index-requires-in-Two
index-requires-in-Two g c =
    let within = two_within c.args.gap c.args.x.now c.args.rows.now.items c.in-Two.i
    c.in-Two.ensures in
    omega (arith, within, c.args.rows.now.ok.0)

pub take_out-requires : goal.take_out-requires
take_out-requires g c =
    let within = two_within c.args.gap c.args.x.now c.args.rows.now.items c.in-Two.i
    c.in-Two.ensures in
    omega (arith, within, c.args.rows.now.ok.0)

pub returns-in_ok-grow-in-One-clause-inserted : goal.returns-in_ok-grow-in-One-clause-inserted
returns-in_ok-grow-in-One-clause-inserted g c =
    let found = c.in-One.ensures in
    grow_done c.args.gap c.args.x.now c.args.rows.now.items _ _ _ c.index_mut-row.ensures.value
    found.0 found.1 found.2 c.in_ok-grow-in-One.ensures.grown

pub returns-in_ok-row-in-Two-clause-inserted : goal.returns-in_ok-row-in-Two-clause-inserted
returns-in_ok-row-in-Two-clause-inserted g c =
    let found = c.in-Two.ensures in
    c.take_out.ensures.items
    ∙ bridge_done c.args.gap c.args.x.now c.args.rows.now.items _ _ _ _ c.index.ensures
    c.index-in-Two.ensures found.0 found.1 found.2 found.3 c.in_ok-row-in-Two.ensures
