-- The steps with which it is computed what a frame says.
use Rattle.std.specs.Prelude.{List, ℕ}
use Rattle.std.specs.Fmt.{digits}
use Rattle.aprs_io.specs.Cut.{cut_at}
use Rattle.aprs_report.specs.Reader.{numeral_of}
use Rattle.aprs_report.specs.declared.place.Place.{Place}
use Rattle.aprs_report.specs.declared.symbol.Symbol.{Symbol}
use Rattle.aprs_details.specs.Altitude.{feet_at, feet_of}
use Rattle.aprs_details.specs.CommentTelemetry.{digit_pair, numbers_in, telemetry_at}
use Rattle.aprs_details.specs.Compressed.{knots_of, range_of}
use Rattle.aprs_details.specs.Details.{altitude_of, base91_at, details_of, mic_e_altitude_of, motion_at, range_of_place, weather_at}
use Rattle.aprs_details.specs.Extension.{pair_of, phg_at, range_at}
use Rattle.aprs_details.specs.First.{first_in}
use Rattle.aprs_details.specs.Frequency.{after_extension, frequency_of, khz_at, mic_e_frequency_of, tuned_at, word_at}
use Rattle.aprs_details.specs.GgaAltitude.{feet_of_cs}
use Rattle.aprs_details.specs.Nmea.{checksum_at, fix_of, gga_of, gll_of, place_at, rmc_of, sent_angle, sent_latitude, sent_longitude, sent_minutes}
use Rattle.aprs_details.specs.Precision.{precision_at, precision_in}
use Rattle.aprs_details.specs.Telemetry.{after_mic, telemetry_of}
use Rattle.aprs_details.specs.ThirdParty.{passed_of}
use Rattle.aprs_details.specs.Weather.{field_at, fields_of_info, places_after, weather_of_comment, weather_of_cst, weather_of_fields, weather_of_info, weather_with}
use Rattle.aprs_details.specs.declared.details.Details.{Details}

-- What a position says. Whoever unfolds this computes it, and whatever else a frame says.
unfoldable pub said_of : Place → Symbol → List ℕ → Details
unfolding after_extension after_mic altitude_of base91_at checksum_at cut_at details_of digit_pair digits feet_at feet_of feet_of_cs field_at fields_of_info first_in fix_of frequency_of gga_of gll_of khz_at knots_of mic_e_altitude_of mic_e_frequency_of motion_at numbers_in numeral_of pair_of passed_of phg_at place_at places_after precision_at precision_in range_at range_of range_of_place rmc_of sent_angle sent_latitude sent_longitude sent_minutes telemetry_at telemetry_of tuned_at weather_at weather_of_comment weather_of_cst weather_of_fields weather_of_info weather_with word_at
said_of place symbol comment = details_of place symbol comment
