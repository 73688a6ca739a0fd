-- Which bytes a list spells, if it spells any: it is cut at each escape.
use Rattle.std.specs.Prelude.{◌==◌, ℕ, if◌then◌else◌, List, [], ◌∷◌, ◌++◌, map, Option, None, Some}
use Rattle.std.specs.List.{slice_split}
use Rattle.std.specs.Option.{option_map, option_and_then}
use Rattle.aprs_kiss.specs.Spelling.{is_escape}

-- The bytes that the part after an escape, up to the next, stands for. None where its first isn't
-- TFEND or TFESC.
abbrev pub bytes_after_escape : List ℕ → Option (List ℕ)
bytes_after_escape [] = None
bytes_after_escape (code ∷ more) =
    if code == 0xDC then Some (0xC0 ∷ more) else (if code == 0xDD then Some (0xDB ∷ more) else None)

-- The bytes of the parts, one part after another. None where a part stands for no bytes.
abbrev pub concat_all : List (Option (List ℕ)) → Option (List ℕ)
concat_all [] = Some []
concat_all (part ∷ parts) =
    option_and_then (λ bytes. option_map (λ more. bytes ++ more) (concat_all parts)) part

-- The bytes that a list stands for that was cut at each escape.
abbrev pub bytes_of_parts : List (List ℕ) → Option (List ℕ)
bytes_of_parts [] = Some []
bytes_of_parts (first ∷ parts) =
    option_map (λ more. first ++ more) (concat_all (map bytes_after_escape parts))

-- The bytes that a list spells, if it spells any.
unfoldable pub spelled_bytes : List ℕ → Option (List ℕ)
spelled_bytes spelled = bytes_of_parts (slice_split is_escape spelled)
