-- More digits of a position as a comment says them (APRS 1.2, !DAO!).
use Rattle.std.specs.Prelude.{◌≡◌, ℕ, List, ◌∷◌, Some}
use Rattle.aprs_details.specs.declared.precision.Precision.{Precision}
use Rattle.aprs_details.specs.Precision.{scale_of, scaled_digit}
use Rattle.aprs_io.specs.Octet.{octet}

-- The text begins with these digits: an exclamation mark, the letter of the datum, a digit of the
-- latitude, a digit of the longitude, and an exclamation mark.
pub record BeginsWithDigits (x : Precision) (text : List ℕ) : Type 0 where
  pub datum : ℕ
  pub north : ℕ
  pub east : ℕ
  pub rest : List ℕ
  pub whole : text ≡ octet "!" ∷ datum ∷ north ∷ east ∷ octet "!" ∷ rest
  pub scale : scale_of datum ≡ Some x.scale
  pub latitude : scaled_digit x.scale north ≡ Some x.latitude
  pub longitude : scaled_digit x.scale east ≡ Some x.longitude
