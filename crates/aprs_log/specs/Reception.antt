-- What a contract sees of a reception, and the order of receptions.
use Rattle.std.specs.Prelude.{ℕ, List}
use Rattle.std.specs.declared.cmp.Ordering.{Ordering}
use Rattle.std.specs.Ordering.{nat_cmp, on, then_cmp}
pub use Rattle.aprs_ax25.specs.Order.{bytes_cmp}

-- When and by whom a frame was heard, and its bytes.
pub record Received : Type 0 where
  pub moment : ℕ
  pub receiver : List ℕ
  pub frame : List ℕ

-- The order of receptions: by moment, then receiver, then frame.
abbrev pub heard_cmp : Received → Received → Ordering
heard_cmp = then_cmp (on (λ x. x.moment) nat_cmp)
    (then_cmp (on (λ x. x.receiver) bytes_cmp) (on (λ x. x.frame) bytes_cmp))
