-- What a step of judging a line's bytes says of frame ends. No public clause cites this module.
use Rattle.std.specs.Prelude.{ℕ, Bool, not, List}
use Rattle.std.specs.List.{list_any}
use Rattle.aprs_kiss.specs.Spelling.{is_frame_end}

-- Whether any of the bytes is no frame end.
abbrev pub has_other_than_ends : List ℕ → Bool
has_other_than_ends bytes = list_any (λ b. not (is_frame_end b)) bytes
