-- Lemmas on inputs that are opened one after another.
use Rattle.aprs_host.proofs.Common.{◌≡◌, ◌∙◌, ℕ, ◌+◌, ◌<◌, List, [], ◌∷◌, ◌++◌, take, length, get_or, Option, Some, None, ap, sym, subst, append_assoc, string_bytes}
use Rattle.std.specs.declared.string.String.{String}
use Rattle.std.proofs.lemmas.List.{map-append, take_more}
use Rattle.std.proofs.lemmas.Option.{slice_get-get_or}
use Rattle.aprs_io.specs.Device.{device_of}
use Rattle.aprs_io.specs.declared.device.Counted.{Counted}
use Rattle.aprs_host.specs.Opening.{AreAt, Asked, AsksFor, ComplainsOf, IsKnownAs, StopsAtPath, opened}
use Rattle.aprs_host.specs.declared.complaint.Complaint.{Complaint}
use Rattle.aprs_host.specs.declared.opening.OpenFault.{OpenFault}

pub asks_then : (a b c : Option (List Asked)) (xs ys : List Asked) → AsksFor a b xs
    → AsksFor b c ys → AsksFor a c (xs ++ ys)
asks_then None b c xs ys h k = tt
asks_then (Some before) None c xs ys h k = absurd h
asks_then (Some before) (Some mid) None xs ys h k = absurd k
asks_then (Some before) (Some mid) (Some after) xs ys h k =
    k ∙ ap (λ l. l ++ ys) h ∙ append_assoc before xs ys

-- one more input at one more path
pub at_then : {I Z : Type 0} (path_of : I → Option (List ℕ)) (inputs : List (Counted I))
    (paths : List (String Z)) (input : Counted I) (path : String Z) → AreAt path_of inputs paths
    → IsKnownAs (path_of (device_of input)) (string_bytes path)
    → AreAt path_of (inputs ++ input ∷ []) (paths ++ path ∷ [])
at_then path_of [] [] input path h k = (k, tt)
at_then path_of [] (p ∷ paths) input path h k = absurd h
at_then path_of (i ∷ inputs) [] input path h k = absurd h
at_then path_of (i ∷ inputs) (p ∷ paths) input path h k =
    (h.0, at_then path_of inputs paths input path h.1 k)

-- the input of the next path, which is open there
pub at_more : {I Z : Type 0} (path_of : I → Option (List ℕ)) (inputs : List (Counted I))
    (paths : List (String Z)) (i : ℕ) (input : Counted I) (path : String Z) (text : List ℕ)
    → i < length paths → path ≡ get_or paths i path → text ≡ string_bytes path
    → AreAt path_of inputs (take i paths) → IsKnownAs (path_of (device_of input)) text
    → AreAt path_of (inputs ++ input ∷ []) (take (i + 1) paths)
at_more path_of inputs paths i input path text lt is t before here =
    subst (λ these. AreAt path_of (inputs ++ input ∷ []) these)
    (sym (take_more paths i path lt ∙ ap (λ it. take i paths ++ it ∷ []) (sym is)))
    (at_then path_of inputs (take i paths) input path before
    (subst (λ it. IsKnownAs (path_of (device_of input)) it) t here))

-- the next path, whose input is open
pub asks_more : {Z : Type 0} (old mid new : Option (List Asked)) (paths : List (String Z)) (i : ℕ)
    (path : String Z) (text : List ℕ) → i < length paths → path ≡ get_or paths i path
    → text ≡ string_bytes path → AsksFor old mid (opened (take i paths))
    → AsksFor mid new ((text, None) ∷ []) → AsksFor old new (opened (take (i + 1) paths))
asks_more old mid new paths i path text lt is t before here =
    subst (AsksFor old new)
    (sym (ap opened (take_more paths i path lt ∙ ap (λ it. take i paths ++ it ∷ []) (sym is))
    ∙ map-append _ (take i paths) (path ∷ [])))
    (asks_then old mid new (opened (take i paths)) ((string_bytes path, None) ∷ []) before
    (subst (λ it. AsksFor mid new ((it, None) ∷ [])) t here))

module _ {Z : Type 0} (paths : List (String Z)) (i : ℕ) (path : String Z)
    (lt : i < length paths) (is : path ≡ get_or paths i path) where
  -- the input of this number is the last that was asked for
  pub stops_at : (old mid new : Option (List Asked)) (complaint : Complaint) (text : List ℕ)
      (answer : Option OpenFault) → AsksFor old mid (opened (take i paths))
      → AsksFor mid new ((text, answer) ∷ []) → text ≡ string_bytes path
      → ComplainsOf (string_bytes path) answer complaint → StopsAtPath old new paths complaint
  stops_at old mid new complaint text answer before here t says = record {
    at = i;
    path = path;
    answer = answer;
    is_there = slice_get-get_or paths i path lt ∙ ap (λ it. Some it) (sym is);
    asked = subst (λ it. AsksFor old new (opened (take i paths) ++ (it, answer) ∷ [])) t
        (asks_then old mid new (opened (take i paths)) ((text, answer) ∷ []) before here);
    says = says;
  }
