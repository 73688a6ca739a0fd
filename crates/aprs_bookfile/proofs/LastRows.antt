-- The last of rows is one of them.
use Rattle.aprs_bookfile.proofs.Common.{◌≡◌, List, [], ◌∷◌, Option, None, Some, inl, inr, Row, IsSoundRow}
use Rattle.std.specs.Prelude.{IfSome}
use Rattle.std.specs.List.{last_or}
use Rattle.aprs_transmissions.specs.Lists.{◌∈◌}
use Rattle.aprs_transmissions.specs.Sound.{AreSoundRows}
use Rattle.aprs_rows.specs.Packed.{AreShort, IsShort}

last_in : (rows : List Row) (x : Row) → last_or None rows ≡ Some x → x ∈ rows
last_in [] x e = absurd (cc)
last_in (y ∷ []) x e = inl (let same : Some y ≡ Some x = e in cc)
last_in (y ∷ z ∷ rows) x e = inr (last_in (z ∷ rows) x e)

pub last_is_sound : (rows : List Row) (r : Option Row) → AreSoundRows rows → AreShort rows
    → IfSome r (λ x. last_or None rows ≡ Some x) → IfSome r (λ x. IsSoundRow x × IsShort x)
last_is_sound rows None sound short h = tt
last_is_sound rows (Some x) sound short h =
    (sound x (last_in rows x h), short x (last_in rows x h))
