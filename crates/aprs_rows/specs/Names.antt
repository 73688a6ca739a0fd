-- Names of receivers in a text, with commas between, and the row that has such a text.
use Rattle.std.specs.Prelude.{ℕ, ◌==◌, List}
use Rattle.std.specs.List.{slice_split}
use Rattle.aprs_transmissions.specs.Row.{Row}

-- The names in the text: what stands before, between and after its commas.
abbrev pub names_in : List ℕ → List (List ℕ)
names_in text = slice_split (λ b. b == 44) text

-- The row of a first and a last moment, the text of its receivers, and the greatest reception's
-- receiver and frame.
abbrev pub row_of_text : ℕ → ℕ → List ℕ → List ℕ → List ℕ → Row
row_of_text start end text who bytes = record {
  first = start;
  receivers = names_in text;
  greatest = record { moment = end; receiver = who; frame = bytes };
}
