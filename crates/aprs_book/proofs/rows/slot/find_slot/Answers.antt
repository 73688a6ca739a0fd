use Rattle.aprs_book.proofs.Common.{◌∙◌, sym, ap, suc, drop, rules, arith, add-one, is_gt}
use Rattle.aprs_book.proofs.Searches.{IsFound, found_here, new_at_end, new_before, grows_last, grows_before, bridges}
use Rattle.aprs_book.proofs.rows.slot.find_slot.Goals as goal
use Rattle.aprs_book.proofs.rows.slot.find_slot.Goals.{then-i-len-via-then-i-len, then-i-len-via-else-i-len+then-is_gt, then-i-len-2-via-then-i-len-2, then-i-len-2-via-else-i-len-2+then-is_gt-2}

pub returns-then-i-len : goal.returns-then-i-len
returns-then-i-len g c =
    let gap = c.args.gap in
    let x = c.args.x.now in
    let rows = c.args.rows.now.items in
    let all = c.args.rows.now.ok.0 in
    let bound = c.partition_point-i.ensures.bound in
    let found : IsFound gap x rows c.partition_point-i.result =
    found_here gap x rows _ c.requires (omega (arith, all, bound))
    c.partition_point-i.ensures.partitioned (λ a b f k. search rules) in elim c.then-i-len.branch [
      | then-i-len-via-then-i-len w ↦
          new_at_end gap x rows _ found (omega (arith, all, c.len.ensures, w.if-i-len.true))
      | then-i-len-via-else-i-len+then-is_gt w ↦
          new_before gap x rows _ _ found
          (omega (arith, all, bound, c.len.ensures, w.if-i-len.false)) w.index.ensures
          (sym (w.is_gt.ensures ∙ ap is_gt w.compare_near_to.ensures) ∙ w.if-is_gt.true)
    ]

pub returns-then-i-len-2 : goal.returns-then-i-len-2
returns-then-i-len-2 g c =
    let gap = c.args.gap in
    let x = c.args.x.now in
    let rows = c.args.rows.now.items in
    let all = c.args.rows.now.ok.0 in
    let bound = c.partition_point-i.ensures.bound in
    let found : IsFound gap x rows c.partition_point-i.result =
    found_here gap x rows _ c.requires (omega (arith, all, bound))
    c.partition_point-i.ensures.partitioned (λ a b f k. search rules) in
    let not_after = sym (c.is_gt.ensures ∙ ap is_gt c.compare_near_to.ensures) ∙ c.if-is_gt.false in (
      c.index.result.now,
      drop (suc c.partition_point-i.result) rows,
      elim c.then-i-len-2.branch [
        | then-i-len-2-via-then-i-len-2 w ↦
            grows_last gap x rows _ _ found
            (omega (arith, all, c.len-2.ensures, w.if-i-len-2.true)) c.index.ensures not_after
        | then-i-len-2-via-else-i-len-2+then-is_gt-2 w ↦
            grows_before gap x rows _ _ w.index-else-i-len-2.result.now found
            (omega (
              arith,
              all,
              bound,
              c.len.ensures,
              c.if-i-len.false,
              c.len-2.ensures,
              w.if-i-len-2.false,
            )) c.index.ensures not_after
            (rw (← add-one) w.index-else-i-len-2.ensures)
            (sym (w.is_gt-else-i-len-2.ensures ∙ ap is_gt w.compare_near_to-else-i-len-2.ensures)
            ∙ w.if-is_gt-2.true)
      ],
    )

pub returns : goal.returns
returns g c =
    let gap = c.args.gap in
    let x = c.args.x.now in
    let rows = c.args.rows.now.items in
    let all = c.args.rows.now.ok.0 in
    let bound = c.partition_point-i.ensures.bound in
    let found : IsFound gap x rows c.partition_point-i.result =
    found_here gap x rows _ c.requires (omega (arith, all, bound))
    c.partition_point-i.ensures.partitioned (λ a b f k. search rules) in (
      c.index.result.now,
      c.index-else-i-len-2.result.now,
      drop (suc (suc c.partition_point-i.result)) rows,
      bridges gap x rows _ _ c.index-else-i-len-2.result.now found
          (omega (
            arith,
            all,
            bound,
            c.len.ensures,
            c.if-i-len.false,
            c.len-2.ensures,
            c.if-i-len-2.false,
          )) c.index.ensures
          (sym (c.is_gt.ensures ∙ ap is_gt c.compare_near_to.ensures) ∙ c.if-is_gt.false)
          (rw (← add-one) c.index-else-i-len-2.ensures)
          (sym (c.is_gt-else-i-len-2.ensures ∙ ap is_gt c.compare_near_to-else-i-len-2.ensures)
          ∙ c.if-is_gt-2.false),
    )
