-- Reply-acks (APRS 1.1): the number that a text has, and what it acknowledges.
use Rattle.std.specs.Prelude.{◌≡◌, ◌⊎◌, ℕ, Bool, true, ◌&&◌, nat_le, List, ◌∷◌, ◌++◌, length, codes}
use Rattle.std.specs.List.{list_all}
use Rattle.aprs_log.specs.Octet.{octet}
use Rattle.aprs_report.specs.Bytes.{is_alphanumeric}

-- At most two letters or digits.
abbrev pub is_number_or_nothing : List ℕ → Bool
is_number_or_nothing bytes = nat_le (length bytes) 2 && list_all is_alphanumeric bytes

-- A number is one or two letters or digits.
abbrev pub is_message_number : List ℕ → Bool
is_message_number bytes = nat_le 1 (length bytes) && is_number_or_nothing bytes

-- The text ends with its number between braces, and then the number that it acknowledges, or
-- nothing.
pub record IsNumberedText (number acknowledged text : List ℕ) : Type 0 where
  pub body : List ℕ
  pub a_number : is_message_number number ≡ true
  pub a_number_or_nothing : is_number_or_nothing acknowledged ≡ true
  pub whole : text ≡ body ++ octet "{" ∷ (number ++ octet "}" ∷ acknowledged)

-- The text is "ack", the number, a closing brace, and another number or nothing.
pub record IsAckText (number text : List ℕ) : Type 0 where
  pub acknowledged : List ℕ
  pub a_number : is_message_number number ≡ true
  pub a_number_or_nothing : is_number_or_nothing acknowledged ≡ true
  pub whole : text ≡ codes "ack" ++ (number ++ octet "}" ∷ acknowledged)

-- The text acknowledges this number: after its own number, or as an ack.
pub record IsReplyAckText (number text : List ℕ) : Type 0 where
  pub a_number : is_message_number number ≡ true
  pub reply : ((own : List ℕ) × IsNumberedText own number text) ⊎ IsAckText number text
