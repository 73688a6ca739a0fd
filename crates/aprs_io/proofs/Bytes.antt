-- Lemmas on the bytes that go out of a writer.
use Rattle.aprs_io.proofs.Common.{◌≡◌, Result, Ok, Err, OnErr, ℕ, ◌-◌, List, [], ◌++◌, refl, append-nil, length, take, drop, Option, sym, ap, ◌∙◌, append_assoc, take-append-drop, take_rest, Appends, Appends-nil, Appends-trans}
use Rattle.aprs_io.specs.Device.{AppendsAllBut, AppendsPrefix}

-- the writer took n bytes of what was left
pub AppendsAllBut-more : (a b c : Option (List ℕ)) (bs rest : List ℕ) (n : ℕ)
    → AppendsAllBut a b bs rest
    → Appends b c (take n rest) → AppendsAllBut a c bs (take (length rest - n) (drop n rest))
AppendsAllBut-more a b c bs rest n p q = (
  p.0 ++ take n rest,
  p.1 ∙ ap (λ l. p.0 ++ l) (sym (take-append-drop n rest))
      ∙ sym (append_assoc p.0 (take n rest) (drop n rest))
      ∙ ap (λ l. (p.0 ++ take n rest) ++ l) (sym (take_rest rest n)),
  Appends-trans a b c p.0 (take n rest) p.2 q,
)

-- ---- a text that goes out part by part

-- nothing of it went out yet
pub AppendsAllBut-none : (a : Option (List ℕ)) (bs : List ℕ) → AppendsAllBut a a bs bs
AppendsAllBut-none a bs = ([], refl, Appends-nil a)

-- one part more
pub AppendsAllBut-sent : (a b c : Option (List ℕ)) (bs rest part more : List ℕ)
    → AppendsAllBut a b bs rest → rest ≡ part ++ more
    → Appends b c part → AppendsAllBut a c bs more
AppendsAllBut-sent a b c bs rest part more p e q = (
  p.0 ++ part,
  p.1 ∙ ap (λ l. p.0 ++ l) e ∙ sym (append_assoc p.0 part more),
  Appends-trans a b c p.0 part p.2 q,
)

-- a prefix of the next part
pub AppendsPrefix-after : (a b c : Option (List ℕ)) (bs rest part more : List ℕ)
    → AppendsAllBut a b bs rest → rest ≡ part ++ more
    → AppendsPrefix b c part → AppendsPrefix a c bs
AppendsPrefix-after a b c bs rest part more p e q = (
  q.0 ++ more,
  (
    p.0 ++ q.1.0,
    p.1 ∙ ap (λ l. p.0 ++ l) (e ∙ ap (λ l. l ++ more) q.1.1 ∙ append_assoc q.1.0 q.0 more)
        ∙ sym (append_assoc p.0 q.1.0 (q.0 ++ more)),
    Appends-trans a b c p.0 q.1.0 p.2 q.1.2,
  ),
)

-- two texts, one after another
pub AppendsPrefix-more : (a b : Option (List ℕ)) (bs more : List ℕ) → AppendsPrefix a b bs
    → AppendsPrefix a b (bs ++ more)
AppendsPrefix-more a b bs more p =
    AppendsPrefix-after a a b (bs ++ more) (bs ++ more) bs more
    (AppendsAllBut-none a (bs ++ more)) refl p

pub AppendsPrefix-then : (a b c : Option (List ℕ)) (bs more : List ℕ) → Appends a b bs
    → AppendsPrefix b c more → AppendsPrefix a c (bs ++ more)
AppendsPrefix-then a b c bs more p q =
    let whole =
    AppendsAllBut-sent a a b (bs ++ more) (bs ++ more) bs more
    (AppendsAllBut-none a (bs ++ more)) refl p in
    AppendsPrefix-after a b c (bs ++ more) more more [] whole (sym (append-nil more)) q

-- ---- where a call's answer is known, or not

pub on_err : {T E P : Type 0} (r : Result T E) → P → OnErr r P
on_err (Ok x) p = tt
on_err (Err e) p = p
