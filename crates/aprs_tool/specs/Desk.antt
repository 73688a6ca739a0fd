-- What contracts see of a desk.
use Rattle.std.specs.Prelude.{ℕ, List}
use Rattle.aprs_transmissions.specs.BookValue.{BookValue}
use Rattle.aprs_transmissions.specs.Row.{Row}
use Rattle.aprs_tool.specs.declared.desk.Desk.{Desk}

-- The desk's book.
abbrev pub desk_book : {A : Type 0} → Desk A → BookValue
desk_book desk = desk.book

-- The gap of the desk's book, in seconds.
abbrev pub desk_gap : {A : Type 0} → Desk A → ℕ
desk_gap desk = desk.book.gap

-- The rows of the desk's book.
abbrev pub desk_rows : {A : Type 0} → Desk A → List Row
desk_rows desk = desk.book.rows

-- The most bytes that an input of the desk may have.
abbrev pub desk_limit : {A : Type 0} → Desk A → ℕ
desk_limit desk = desk.limit
