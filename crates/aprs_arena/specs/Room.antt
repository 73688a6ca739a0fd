-- What a `Region` owns, and what a block of an arena.
use Rattle.std.specs.Prelude.{ℕ, ◌^◌, ◌<◌}
use Rattle.std.specs.Int.{div_ceil}
use mir.Syntax.{Ty, w128, ty_int, ty_array}
use prog.Memory.{size}
use base.Fml.{Fml, fex, fwand}
use denote.RawPtr.{Ptr, room_for}

-- n units of 16 bytes, each aligned to 16
abbrev pub units_of : ℕ → Ty
units_of n = ty_array (ty_int w128) n

-- room for them at p
abbrev pub units_at : ℕ → Ptr → Fml
units_at n p = room_for (units_of n) p

-- how many units hold n bytes
abbrev pub units_for : ℕ → ℕ
units_for n = div_ceil n 16

-- the right to give the block for a τ at p back: its room is that of whole units again
abbrev pub to_give_back : Ty → Ptr → Fml
to_give_back τ p = fex (size τ < 2 ^ 63)
    (λ _. fwand (room_for τ p) (units_at (units_for (size τ)) p))
