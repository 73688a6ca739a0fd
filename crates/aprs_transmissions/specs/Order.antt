-- Two values in an order.
use Rattle.std.specs.Prelude.{◌≡◌, false}
use Rattle.std.specs.Ordering.{is_gt}
use Rattle.std.specs.declared.cmp.Ordering.{Ordering}
use Rattle.std.specs.declared.cmp.Ordering.TheVariants.{Less}

-- x comes strictly before y.
abbrev pub IsBelow : {X : Type 0} → (X → X → Ordering) → X → X → Type 0
IsBelow cmp x y = cmp x y ≡ Less

-- x does not come after y.
abbrev pub IsUpTo : {X : Type 0} → (X → X → Ordering) → X → X → Type 0
IsUpTo cmp x y = is_gt (cmp x y) ≡ false
