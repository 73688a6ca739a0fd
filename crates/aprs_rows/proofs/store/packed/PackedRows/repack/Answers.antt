use Rattle.aprs_rows.proofs.Common.{sym, subst, Row, IsSoundRow, in_place}
use Rattle.aprs_rows.specs.Packed.{IsShort}
use Rattle.aprs_rows.proofs.store.packed.PackedRows.repack.Goals as goal

pub push-requires : goal.push-requires
push-requires g c =
    let there = in_place c.args.rows.now c.loop-row.row-index c.row-item.result
    c.loop-row-test.true in
    record {
      sound = subst (λ (x : Row). IsSoundRow x) (sym c.row-item.is) (c.requires.sound _ there);
      short = subst (λ (x : Row). IsShort x) (sym c.row-item.is) (c.requires.short _ there);
    }
