-- Messages and what answers them (APRS Protocol Reference 1.0.1, chapter 14).
use Rattle.std.specs.Prelude.{◌≡◌, ℕ, Bool, true, ◌&&◌, nat_le, List, ◌++◌, length, Option}
use Rattle.std.specs.Prelude.{Some, None, codes}
use Rattle.std.specs.List.{list_all}
use Rattle.aprs_report.specs.Bytes.{is_alphanumeric, is_line_end}
use Rattle.aprs_report.specs.Trailing.{IsTrimmed}
use Rattle.aprs_report.specs.Name.{IsPaddedName}

-- The field is ":", an addressee in nine bytes, ":", and a part, taken without CR and LF at its
-- end.
pub record IsAddressed (addressee part info : List ℕ) : Type 0 where
  pub field : List ℕ
  pub bytes : List ℕ
  pub nine : length field ≡ 9
  pub named : IsPaddedName addressee field
  pub cut : IsTrimmed is_line_end part bytes
  pub whole : info ≡ codes ":" ++ (field ++ (codes ":" ++ bytes))

-- An id is one to five letters or digits.
abbrev pub is_id : List ℕ → Bool
is_id id = nat_le 1 (length id) && nat_le (length id) 5 && list_all is_alphanumeric id

-- The part is a word, "ack" or "rej", and an id.
pub record IsAnswer (word id part : List ℕ) : Type 0 where
  pub an_id : is_id id ≡ true
  pub whole : part ≡ word ++ id

-- The part is a text, a brace and an id; no id has a brace, so this brace is the last.
pub record IsNumbered (text id part : List ℕ) : Type 0 where
  pub an_id : is_id id ≡ true
  pub whole : part ≡ text ++ (codes "{" ++ id)

-- The part is neither an acknowledgement nor a rejection.
pub record IsNoAnswer (part : List ℕ) : Type 0 where
  pub no_ack : (id : List ℕ) → IsAnswer (codes "ack") id part → ⊥
  pub no_rej : (id : List ℕ) → IsAnswer (codes "rej") id part → ⊥

-- A part that is no answer is a text with its id, or all text where it has no id.
abbrev pub IsText : List ℕ → Option (List ℕ) → List ℕ → Type 0
IsText text (Some id) part = IsNumbered text id part
IsText text None part = (text ≡ part) × ((other id : List ℕ) → IsNumbered other id part → ⊥)

-- The field is a message of this text and id, if it has one, to the addressee.
pub record IsMessage (addressee text : List ℕ) (id : Option (List ℕ)) (info : List ℕ) : Type 0
  where
    pub part : List ℕ
    pub addressed : IsAddressed addressee part info
    pub no_answer : IsNoAnswer part
    pub at_text : IsText text id part

-- The field is the word, "ack" or "rej", and an id, to the addressee.
pub record IsReply (word addressee id info : List ℕ) : Type 0 where
  pub part : List ℕ
  pub addressed : IsAddressed addressee part info
  pub answer : IsAnswer word id part
