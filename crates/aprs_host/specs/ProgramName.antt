-- The names by which the program is called.
use Rattle.std.specs.Prelude.{ℕ, List, Option, None, Some, codes, bytes_eq, if◌then◌else◌}
use Rattle.std.specs.Path.{path_file_name}
use Rattle.aprs_host.specs.declared.program_name.ProgramName.{ProgramName}
use Rattle.aprs_host.specs.declared.program_name.ProgramName.TheVariants as name

-- The text of a name.
abbrev pub text_of : ProgramName → List ℕ
text_of name.Book = codes "aprsbook"
text_of name.History = codes "aprsbook-history"
text_of name.Table = codes "aprsbook-table"
text_of name.Fold = codes "aprsbook-fold"

-- The name with this text, and `aprsbook` where there is none.
abbrev pub named : Option (List ℕ) → ProgramName
named None = name.Book
named (Some text) =
    if bytes_eq text (text_of name.History) then name.History else
    if bytes_eq text (text_of name.Table) then name.Table else
    if bytes_eq text (text_of name.Fold) then name.Fold else name.Book

-- The name that a program of this path has by the path's last component.
abbrev pub program_name_of : List ℕ → ProgramName
program_name_of path = named (path_file_name path)
