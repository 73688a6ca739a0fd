use Rattle.std.proofs.Common.{◌≡◌, ◌∙◌, ◌+◌, ◌++◌, length, take, sym, ap, subst, arith, length-append, if◌then◌else◌}
use Rattle.std.proofs.lemmas.List.{length-take-le}
use Rattle.aprs_fold.specs.Lines.{IsLineAt}
use Rattle.aprs_fold.proofs.Lines.{IsPartAt, from_iff, given_at, given_len, part_end, part_more}
use Rattle.aprs_fold.proofs.range.line.read_line.Goals as goal

pub returns-in-Some-clause-reads : goal.returns-in-Some-clause-reads
returns-in-Some-clause-reads g c =
    let read = take c.in_ok-count.count c.read_at.new.buf in
    let line = take c.in-Some.len read in
    let items : c.extend_from_slice.new.self.items ≡ c.loop-piece.line.items ++ line =
    c.extend_from_slice.ensures.items
    ∙ ap (λ b. if b then c.loop-piece.line.items ++ line else c.loop-piece.line.items)
    (sym c.in_ok-ok.ensures.variant) in
    let len : length line ≡ c.in-Some.len =
    length-take-le c.in-Some.len read (omega (arith, c.in-Some.ensures.some.0)) in
    from_iff c.checked_add.result _ _ _ c.checked_add.ensures (λ bytes known.
    let given = given_at _ bytes c.loop-piece.next c.read_at.result c.read_at.new.buf
    c.in_ok-count.count (c.loop-piece.invariant.stays ∙ known) c.in_ok-count.ensures.value
    c.read_at.ensures.gives in (
      subst (IsLineAt bytes c.args.at) (sym items)
          (part_end bytes c.args.at c.loop-piece.next c.loop-piece.line.items
          (c.loop-piece.invariant.part bytes known) c.loop-piece.invariant.next
          c.read_at.new.buf given.rest c.in_ok-count.count given.is c.in-Some.len
          c.in-Some.ensures.some.1 c.in-Some.ensures.some.2),
      (let size : length c.extend_from_slice.new.self.items
          ≡ length c.loop-piece.line.items + c.in-Some.len = ap length items
          ∙ length-append c.loop-piece.line.items line
          ∙ ap (λ n. length c.loop-piece.line.items + n) len in
          omega (arith, size, c.loop-piece.invariant.next)),
    ))

pub loop-piece-preserved : goal.loop-piece-preserved
loop-piece-preserved g c =
    let read = take c.in_ok-count.count c.read_at.new.buf in
    let items : c.extend_from_slice-in-loop-piece.new.self.items
    ≡ c.loop-piece.line.items ++ read = c.extend_from_slice-in-loop-piece.ensures.items
    ∙ ap (λ b. if b then c.loop-piece.line.items ++ read else c.loop-piece.line.items)
    (sym c.in_ok-ok-2.ensures.variant) in
    let bound = given_len c.read_at.result c.read_at.new.buf c.in_ok-count.count
    c.in_ok-count.ensures.value c.read_at.ensures.bound in
    let size : length c.extend_from_slice-in-loop-piece.new.self.items
    ≡ length c.loop-piece.line.items + c.in_ok-count.count = ap length items
    ∙ length-append c.loop-piece.line.items read
    ∙ ap (λ n. length c.loop-piece.line.items + n)
    (length-take-le c.in_ok-count.count c.read_at.new.buf bound) in
    record {
      stays = c.read_at.ensures.stays ∙ c.loop-piece.invariant.stays;
      next = omega (arith, size, c.loop-piece.invariant.next, c.in_ok-next.ensures.1);
      part = λ bytes known.
          let given = given_at _ bytes c.loop-piece.next c.read_at.result c.read_at.new.buf
          c.in_ok-count.count (c.loop-piece.invariant.stays ∙ known) c.in_ok-count.ensures.value
          c.read_at.ensures.gives in
          subst (IsPartAt bytes c.args.at) (sym items)
          (part_more bytes c.args.at c.loop-piece.next c.loop-piece.line.items
          (c.loop-piece.invariant.part bytes known) c.loop-piece.invariant.next
          c.read_at.new.buf given.rest c.in_ok-count.count given.is c.in_default.ensures.none);
    }
