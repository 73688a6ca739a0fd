-- The rows of a sound book are in order.
use Rattle.std.proofs.Common.{◌≡◌, List, ap, subst, sym}
use Rattle.std.specs.Ordering.{is_gt}
use Rattle.aprs_transmissions.proofs.Lists.{ordered_weaker}
use Rattle.aprs_transmissions.specs.BookValue.{BookValue, IsSoundBook}
use Rattle.aprs_transmissions.specs.Coalescing.{AreInOrder}
use Rattle.aprs_transmissions.specs.Order.{IsBelow, IsUpTo}
use Rattle.aprs_transmissions.specs.Row.{Row, row_cmp}

pub in_order : (b : BookValue) (rows : List Row) → rows ≡ b.rows → IsSoundBook b → AreInOrder rows
in_order b rows e w =
    subst AreInOrder (sym e)
    (ordered_weaker (IsBelow row_cmp) (IsUpTo row_cmp) b.rows (λ x y hx hy less. ap is_gt less)
    w.sound.ascending)
