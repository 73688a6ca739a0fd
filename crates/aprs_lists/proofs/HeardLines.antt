-- Lemmas on the fields of what was heard.
use Rattle.aprs_lists.proofs.Common.{◌≡◌, ℕ, Bool, List, [], ◌∷◌, ◌++◌, refl, ap₂, Call, call_text, moment_text, Received, key_of}
use Rattle.aprs_lists.specs.Listing.{heard_fields, name_fields}
use Rattle.aprs_report.specs.Object.{live_text}
use Rattle.aprs_table.specs.SpacedLine.{line_with_text, word}

-- the fields of a line and those of a place
pub placed : (kind comment : List ℕ) (fields known others place : List (List ℕ))
    → fields ≡ known → others ≡ place
    → line_with_text kind (fields ++ others) comment ≡ line_with_text kind (known ++ place) comment
placed kind comment fields known others place e o =
    ap₂ (λ l m. line_with_text kind (l ++ m) comment) e o

pub heard_fields_of : (heard shown_as : Received) (who : List ℕ) → heard ≡ shown_as
    → who ≡ heard.receiver → moment_text heard.moment ∷ who ∷ [] ≡ heard_fields shown_as
heard_fields_of heard shown_as who e w = rw (w, e) refl

pub name_fields_of : (name live_word who : List ℕ) (live : Bool) (heard shown_as : Received)
    (from : Call) → heard ≡ shown_as → live_word ≡ live_text live → who ≡ heard.receiver
    → from ≡ (key_of heard.frame).source
    → word name ∷ live_word ∷ moment_text heard.moment ∷ who ∷ call_text from ∷ []
    ≡ name_fields name live shown_as
name_fields_of name live_word who live heard shown_as from e l w f = rw (l, w, f, e) refl
