-- Of which class a message is (APRS Protocol Reference 1.0.1, chapters 13 to 15; APRS 1.1).
use Rattle.std.specs.Prelude.{ℕ, Bool, false, ◌==◌, ◌&&◌, ◌||◌, nat_eq, if◌then◌else◌, List, [], ◌∷◌, Option, None, Some, codes}
use Rattle.std.specs.List.{starts_with}
use Rattle.aprs_log.specs.Octet.{octet}
use Rattle.aprs_report.specs.Bytes.{is_alphanumeric, is_capital, is_digit}
use Rattle.aprs_summary.specs.Messages.{Message}
use Rattle.aprs_summary.specs.ReplyAcks.{is_number_or_nothing}

-- The addressee is BLN and a byte that passes the test, whatever follows.
unfoldable pub is_bulletin_of : (ℕ → Bool) → List ℕ → Bool
is_bulletin_of test [] = false
is_bulletin_of test (b ∷ []) = false
is_bulletin_of test (b ∷ l ∷ []) = false
is_bulletin_of test (b ∷ l ∷ n ∷ []) = false
is_bulletin_of test (b ∷ l ∷ n ∷ mark ∷ rest) =
    b == octet "B" && l == octet "L" && n == octet "N" && test mark

-- The addressee is that of a bulletin: BLN and a digit, whatever follows.
abbrev pub is_bulletin : List ℕ → Bool
is_bulletin addressee = is_bulletin_of is_digit addressee

-- The addressee is that of an announcement: BLN and a capital, whatever follows.
abbrev pub is_announcement : List ℕ → Bool
is_announcement addressee = is_bulletin_of is_capital addressee

-- A bulletin of the weather service is for NWS and a dash, whatever follows.
abbrev pub is_weather_bulletin : List ℕ → Bool
is_weather_bulletin addressee = starts_with nat_eq addressee (codes "NWS-")

-- The text tells what values of telemetry mean.
abbrev pub is_telemetry : List ℕ → Bool
is_telemetry text = starts_with nat_eq text (codes "PARM.")
    || starts_with nat_eq text (codes "UNIT.")
    || starts_with nat_eq text (codes "EQNS.") || starts_with nat_eq text (codes "BITS.")

-- The text asks a station for a report.
abbrev pub is_query : List ℕ → Bool
is_query text = starts_with nat_eq text (codes "?APRS") || starts_with nat_eq text (codes "?PING?")

-- A closing brace, and at most two letters or digits.
abbrev pub is_ack_end : List ℕ → Bool
is_ack_end [] = false
is_ack_end (brace ∷ rest) = brace == octet "}" && is_number_or_nothing rest

-- One or two letters or digits, and such an end.
unfoldable pub is_ended_number : List ℕ → Bool
is_ended_number [] = false
is_ended_number (x ∷ []) = false
is_ended_number (x ∷ y ∷ rest) = is_alphanumeric x && is_ack_end (y ∷ rest)
    || is_alphanumeric x && is_alphanumeric y && is_ack_end rest

-- The text is an ack with a brace, as reply-acks have it.
unfoldable pub is_ack_text : List ℕ → Bool
is_ack_text [] = false
is_ack_text (x ∷ []) = false
is_ack_text (x ∷ y ∷ []) = false
is_ack_text (x ∷ y ∷ z ∷ number) =
    x == octet "a" && y == octet "c" && z == octet "k" && is_ended_number number

-- A message without an id whose text is such an ack is an answer.
abbrev pub is_answer : Option (List ℕ) → List ℕ → Bool
is_answer None text = is_ack_text text
is_answer (Some id) text = false

-- The class of a message, the first that fits: by its addressee, then by its text.
abbrev pub class_text : Message → List ℕ
class_text m =
    if is_bulletin m.addressee then codes "bulletin"
    else if is_announcement m.addressee then codes "announcement"
    else if is_weather_bulletin m.addressee then codes "weather-bulletin"
    else if is_telemetry m.text then codes "telemetry"
    else if is_query m.text then codes "query"
    else if is_answer m.id m.text then codes "answer"
    else codes "message"
