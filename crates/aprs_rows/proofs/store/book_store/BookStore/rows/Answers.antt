use Rattle.aprs_rows.proofs.Common.{◌∙◌, arith}
use Rattle.std.proofs.lemmas.Result.{on_err_weaker}
use Rattle.aprs_rows.proofs.Cases.{at_err}
use Rattle.aprs_rows.proofs.InStore.{some_in_chunk, some_in_store, some_names, walked}
use Rattle.aprs_rows.proofs.Rows.{if_ok}
use Rattle.aprs_rows.proofs.store.book_store.BookStore.rows.Goals as goal

pub new-requires-clause-sound : goal.new-requires-clause-sound
new-requires-clause-sound g c =
    (walked c.self.inside.gap c.self.inside.sorted.items c.as_slice.result.now c.self.inside.chunk
    c.in_ok-sorted.field-0 c.in_ok-merger.merger c.args.self.now c.self.invariant
    c.in_ok-sorted.ensures.same c.as_slice.ensures.value c.in_ok-merger.ensures.members
    c.self.view_is).0

pub new-requires-clause-room : goal.new-requires-clause-room
new-requires-clause-room g c =
    omega (
      arith,
      c.in_ok-merger.ensures.room,
      c.in_ok-resize.ensures.len,
      c.as_mut_slice.ensures.len,
      c.resize.new.self.ok.1,
      c.resize.new.self.small,
    )

pub returns-in_err-sorted-clause-some : goal.returns-in_err-sorted-clause-some
returns-in_err-sorted-clause-some g c =
    at_err c.from_residual.result
    (some_in_chunk c.self.inside.gap c.self.inside.sorted.items c.self.inside.chunk c.args.self.now
    c.self.view_is c.in_err-sorted.ensures.some)

pub returns-in_err-merger-clause-some : goal.returns-in_err-merger-clause-some
returns-in_err-merger-clause-some g c =
    at_err c.from_residual-in_err-merger.result
    (some_in_store c.self.inside.gap c.self.inside.sorted.items c.as_slice.result.now
    c.self.inside.chunk c.in_ok-sorted.field-0 c.args.self.now c.self.view_is
    c.in_ok-sorted.ensures.same c.as_slice.ensures.value c.in_err-merger.ensures.some)

pub returns-in_err-resize-clause-some : goal.returns-in_err-resize-clause-some
returns-in_err-resize-clause-some g c =
    at_err c.from_residual-in_err-resize.result
    (some_names c.self.inside.gap c.in_ok-merger.merger c.args.self.now
    (walked c.self.inside.gap c.self.inside.sorted.items c.as_slice.result.now c.self.inside.chunk
    c.in_ok-sorted.field-0 c.in_ok-merger.merger c.args.self.now c.self.invariant
    c.in_ok-sorted.ensures.same c.as_slice.ensures.value c.in_ok-merger.ensures.members
    c.self.view_is).1
    (omega (arith, c.in_err-resize.ensures.full, c.in_ok-merger.ensures.room)))

pub returns-clause-book : goal.returns-clause-book
returns-clause-book g c =
    if_ok c.new.result (λ rows e. e
    ∙ (walked c.self.inside.gap c.self.inside.sorted.items c.as_slice.result.now
    c.self.inside.chunk c.in_ok-sorted.field-0 c.in_ok-merger.merger c.args.self.now
    c.self.invariant c.in_ok-sorted.ensures.same c.as_slice.ensures.value
    c.in_ok-merger.ensures.members c.self.view_is).1)
    c.new.ensures.book

pub returns-clause-some : goal.returns-clause-some
returns-clause-some g c =
    on_err_weaker c.new.result (λ h.
    some_names c.self.inside.gap c.in_ok-merger.merger c.args.self.now
    (walked c.self.inside.gap c.self.inside.sorted.items c.as_slice.result.now c.self.inside.chunk
    c.in_ok-sorted.field-0 c.in_ok-merger.merger c.args.self.now c.self.invariant
    c.in_ok-sorted.ensures.same c.as_slice.ensures.value c.in_ok-merger.ensures.members
    c.self.view_is).1
    (omega (
      arith,
      h,
      c.in_ok-merger.ensures.room,
      c.in_ok-resize.ensures.len,
      c.as_mut_slice.ensures.len,
    )))
    c.new.ensures.some
