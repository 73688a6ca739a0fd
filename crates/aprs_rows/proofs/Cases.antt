-- Cases on an ordering and on a result.
use Rattle.aprs_rows.proofs.Common.{◌≡◌, false, true, Result, Ok, Err, OnOk, OnErr, refl, is_err, Ordering, Less, Equal, Greater}

-- cases on an ordering, with the equation
pub by_order : {G : Type 0} (o : Ordering) → (o ≡ Less → G) → (o ≡ Equal → G)
    → (o ≡ Greater → G) → G
by_order Less a b c = a refl
by_order Equal a b c = b refl
by_order Greater a b c = c refl

-- what holds on `Ok` of a result that is no `Err`
pub on_not_err : {A E : Type 0} (r : Result A E) (P : Type 0) → OnOk r P → false ≡ is_err r → P
on_not_err (Ok _) P h e = h
on_not_err (Err _) P h e = absurd (cc)

-- what holds anyhow
pub at_err : {A E P : Type 0} (r : Result A E) → P → OnErr r P
at_err (Ok _) h = tt
at_err (Err _) h = h

-- what holds on `Err` of a result that is no `Ok`
pub on_err : {A E : Type 0} (r : Result A E) (P : Type 0) → OnErr r P → true ≡ is_err r → P
on_err (Ok _) P h e = absurd (cc)
on_err (Err _) P h e = h
