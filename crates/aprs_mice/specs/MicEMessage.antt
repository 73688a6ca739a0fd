-- Which message the bits A, B and C are (APRS Protocol Reference 1.0.1, chapter 10).
use Rattle.std.specs.Prelude.{ℕ, Bool, true, false, ◌||◌, if◌then◌else◌, List, codes}
use Rattle.aprs_mice.specs.declared.mark.Bit.{Bit}
use Rattle.aprs_mice.specs.declared.mic_e_message.MicEMessage.{MicEMessage}
use Rattle.aprs_mice.specs.declared.mic_e_message.MicEMessage.TheVariants as say
use Rattle.aprs_mice.specs.Mark.{is_standard, is_custom, is_one}

-- The table of standard messages, M0 to M6 and the emergency, by the bits A, B and C.
abbrev pub standard_message : Bool → Bool → Bool → MicEMessage
standard_message true true true = say.OffDuty
standard_message true true false = say.EnRoute
standard_message true false true = say.InService
standard_message true false false = say.Returning
standard_message false true true = say.Committed
standard_message false true false = say.Special
standard_message false false true = say.Priority
standard_message false false false = say.Emergency

-- The table of custom messages, C0 to C6 and the emergency, by the bits A, B and C.
abbrev pub custom_message : Bool → Bool → Bool → MicEMessage
custom_message true true true = say.Custom0
custom_message true true false = say.Custom1
custom_message true false true = say.Custom2
custom_message true false false = say.Custom3
custom_message false true true = say.Custom4
custom_message false true false = say.Custom5
custom_message false false true = say.Custom6
custom_message false false false = say.Emergency

-- The message of three bits: with a custom bit it stands in the table of custom messages, and else
-- in that of standard ones; with bits of both kinds it is unknown.
abbrev pub message_of_bits : Bit → Bit → Bit → MicEMessage
message_of_bits a b c =
    if is_custom a || is_custom b || is_custom c
    then (if is_standard a || is_standard b || is_standard c
    then say.Unknown
    else custom_message (is_one a) (is_one b) (is_one c))
    else standard_message (is_one a) (is_one b) (is_one c)

-- The name of a message.
abbrev pub message_name : MicEMessage → List ℕ
message_name say.OffDuty = codes "off-duty"
message_name say.EnRoute = codes "en-route"
message_name say.InService = codes "in-service"
message_name say.Returning = codes "returning"
message_name say.Committed = codes "committed"
message_name say.Special = codes "special"
message_name say.Priority = codes "priority"
message_name say.Emergency = codes "emergency"
message_name say.Custom0 = codes "custom-0"
message_name say.Custom1 = codes "custom-1"
message_name say.Custom2 = codes "custom-2"
message_name say.Custom3 = codes "custom-3"
message_name say.Custom4 = codes "custom-4"
message_name say.Custom5 = codes "custom-5"
message_name say.Custom6 = codes "custom-6"
message_name say.Unknown = codes "unknown"
