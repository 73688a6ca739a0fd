-- What an opener of inputs was asked for, and what is complained of.
use Rattle.std.specs.Prelude.{◌≡◌, ℕ, ⊤, List, [], ◌∷◌, ◌++◌, map, take, slice_get, string_bytes, Option, None, Some}
use Rattle.std.specs.declared.string.String.{String}
use Rattle.std.specs.Borrow.{Bor}
use Rattle.aprs_io.specs.Device.{device_of}
use Rattle.aprs_io.specs.declared.device.Counted.{Counted}
use Rattle.aprs_host.specs.Complaint.{standard_input}
use Rattle.aprs_host.specs.declared.complaint.Complaint.{Complaint}
use Rattle.aprs_host.specs.declared.complaint.Complaint.TheVariants as why
use Rattle.aprs_host.specs.declared.opening.OpenFault.{OpenFault}
use Rattle.aprs_host.specs.declared.opening.OpenFault.TheVariants as fault

-- What an opener was asked for and its answer: a path or the name of standard input, and why that
-- can't be opened, or `None` where it is open.
abbrev pub Asked : Type 0
Asked = List ℕ × Option OpenFault

-- After what the opener was asked for before, where that is known, it was asked for these, in this
-- order.
abbrev pub AsksFor : Option (List Asked) → Option (List Asked) → List Asked → Type 0
AsksFor None new asked = ⊤
AsksFor (Some before) None asked = ⊥
AsksFor (Some before) (Some after) asked = after ≡ before ++ asked

-- Where the path of an input is known, it is this one.
abbrev pub IsKnownAs : Option (List ℕ) → List ℕ → Type 0
IsKnownAs None path = ⊤
IsKnownAs (Some known) path = known ≡ path

-- There are as many inputs as paths. The path at which an input is open is the one in its place,
-- where it is known.
abbrev pub AreAt : {I Z : Type 0} → (I → Option (List ℕ)) → List (Counted I) → List (String Z)
    → Type 0
AreAt path_of [] [] = ⊤
AreAt path_of (input ∷ inputs) (path ∷ paths) =
    IsKnownAs (path_of (device_of input)) (string_bytes path) × AreAt path_of inputs paths
AreAt path_of inputs paths = ⊥

-- What an opener was asked for and answered, where it opened the input of each of these paths.
abbrev pub opened : {Z : Type 0} → List (String Z) → List Asked
opened paths = map (λ path. (string_bytes path, None)) paths

-- What an opener was asked for and answered, where it opened the input of each of these paths, or
-- standard input if there is no path.
abbrev pub opened_inputs : {Z : Type 0} → List (String Z) → List Asked
opened_inputs [] = (standard_input, None) ∷ []
opened_inputs (path ∷ paths) = opened (path ∷ paths)

-- What is complained of where the input of this place can't be opened.
abbrev pub complaint_at : Bor (List ℕ) → OpenFault → Complaint
complaint_at place fault.Refused = why.CannotOpen place
complaint_at place fault.IsOutput = why.IsOutput place
complaint_at place fault.Memory = why.OutOfMemory

-- What is complained of after this answer for this place: that its input can't be opened, and why;
-- or, where it is open, that memory was refused.
abbrev pub ComplainsOf : List ℕ → Option OpenFault → Complaint → Type 0
ComplainsOf place None complaint = complaint ≡ why.OutOfMemory
ComplainsOf place (Some refused) complaint =
    (it : Bor (List ℕ)) × (it.now ≡ place) × (complaint ≡ complaint_at it refused)

-- The path of number `at`, from 0, is the last that the opener was asked for, and the inputs of all
-- before it are open. The opener's answer for it decides what is complained of.
pub record StopsAtPath {Z : Type 0} (old new : Option (List Asked)) (paths : List (String Z))
    (complaint : Complaint) : Type 0 where
  pub at : ℕ
  pub path : String Z
  pub answer : Option OpenFault
  pub is_there : slice_get paths at ≡ Some path
  pub asked : AsksFor old new (opened (take at paths) ++ (string_bytes path, answer) ∷ [])
  pub says : ComplainsOf (string_bytes path) answer complaint

-- The opener was asked for standard input alone, and its answer decides what is complained of.
abbrev pub StopsAtStandard : Option (List Asked) → Option (List Asked) → Complaint → Type 0
StopsAtStandard old new complaint = (answer : Option OpenFault)
    × AsksFor old new ((standard_input, answer) ∷ []) × ComplainsOf standard_input answer complaint

-- Where there is no path, that is standard input. Otherwise a path is the last that the opener was
-- asked for.
abbrev pub StopsAtInput : {Z : Type 0} → Option (List Asked) → Option (List Asked)
    → List (String Z) → Complaint → Type 0
StopsAtInput old new [] complaint = StopsAtStandard old new complaint
StopsAtInput old new (path ∷ paths) complaint = StopsAtPath old new (path ∷ paths) complaint
