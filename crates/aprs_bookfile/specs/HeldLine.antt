-- What is held of a line that is read. A place says in which field of a row's line some bytes end,
-- and how far in it. It is `None` where no row's line begins so.
use Rattle.std.specs.Prelude.{◌≡◌, ℕ, ◌+◌, ◌<◌, ◌≤◌, ◌&&◌, ◌⊎◌, Bool, true, false, List, ◌++◌, length, Option, None, Some, nat_le, take}
use Rattle.aprs_bookfile.specs.RowPlace.{last_after, place_in}
use Rattle.aprs_bookfile.specs.declared.row_place.Place.{Place}

-- More bytes than a header or a last line has.
abbrev pub held_anyway : ℕ
held_anyway = 60

-- Whether a line that begins so, and is no last line, is wrong: no header is so long.
abbrev pub is_wrong_place : Bool → Option Place → Bool
is_wrong_place true place = true
is_wrong_place false None = true
is_wrong_place false (Some p) = false

-- Whether each line that begins with so many bytes, and has this place after them, is wrong, the
-- first line of a text (`first`) or another.
abbrev pub is_hopeless : Bool → ℕ → Option Place → Bool
is_hopeless first size place = nat_le held_anyway size && is_wrong_place first place

-- What is held stands for the line that is read: it is the line, or a beginning of it after which
-- whatever follows is wrong.
abbrev pub IsHeldOf : Bool → List ℕ → List ℕ → Type 0
IsHeldOf first held line = (held ≡ line)
    ⊎ ((more : List ℕ) × (line ≡ held ++ more)
    × (is_hopeless first (length held) (place_in held) ≡ true))

-- No shorter beginning of what is held would do.
abbrev pub IsLean : Bool → List ℕ → Type 0
IsLean first held = (n : ℕ) → n < length held → is_hopeless first n (place_in (take n held)) ≡ false

-- So many of these bytes, which come after what is held, decide what the line is, and this is the
-- place after them: the line is hopeless after these and no fewer, or they are all.
pub record Decides (first : Bool) (held bytes : List ℕ) (count : ℕ) (place : Option Place)
    : Type 0 where
  pub within : count ≤ length bytes
  pub place_is : place ≡ place_in (held ++ take count bytes)
  pub before : (n : ℕ) → n < count
      → is_hopeless first (length held + n) (place_in (held ++ take n bytes)) ≡ false
  pub stops : (count ≡ length bytes)
      ⊎ (is_hopeless first (length held + count) place ≡ true)

-- So many of these bytes, at least one, are passed at once, and this is the place after them. After
-- fewer of them the line isn't wrong yet.
pub record Passes (first : Bool) (place : Option Place) (bytes : List ℕ) (count : ℕ)
    (after : Option Place) : Type 0 where
  pub some : 0 < count
  pub within : count ≤ length bytes
  pub after_is : after ≡ last_after place (take count bytes)
  pub before : (n : ℕ) → 0 < n → n < count
      → is_wrong_place first (last_after place (take n bytes)) ≡ false
