-- Lemmas on a writer with bytes on their way to it.
use Rattle.aprs_io.proofs.Common.{◌≡◌, ◌<◌, ℕ, ◌+◌, List, [], ◌∷◌, ◌++◌, length, get_or, take, drop, Option, Result, Ok, Err, refl, sym, ap, ◌∙◌, append_assoc, append-nil, take-append-drop, subst, take_more, drop_more, flat_map_more, flat_map, IsErr}
use Rattle.std.proofs.lemmas.List.Concat.{flat_map-append}
use Rattle.aprs_io.specs.Device.{Sends, SendsAllBut}
use Rattle.aprs_io.specs.declared.device.Counted.{Counted}
use Rattle.aprs_io.proofs.Sends.{Sends-err, Sends-fails, Sends-is, Sends-last, Sends-ok, fails_of_both, left_all, left_of_both}
use Rattle.aprs_io.specs.Outlet.{HasTaken, Puts, held_of, writer_loan_of, writer_of}
use Rattle.aprs_io.specs.declared.outlet.Outlet.{Outlet}

module _ {W : Type 0} {contents : W → Option (List ℕ)} {old new : Outlet W} {text : List ℕ}
    (same : writer_loan_of new ≡ writer_loan_of old) where
  -- it sent all that it held, and the text
  pub Puts-sent : {E : Type 0} (r : Result (Unit {0}) E) → held_of new ≡ []
      → Sends contents r (writer_of old) (writer_of new) (held_of old ++ text)
      → Puts contents r old new text
  Puts-sent (Ok v) none p = record {
    same_reference = same;
    took = subst (SendsAllBut contents (writer_of old) (writer_of new) (held_of old ++ text))
        (sym none) (record {
          gone = held_of old ++ text;
          whole = sym (append-nil (held_of old ++ text));
          sends = Sends-ok p;
        });
    fails = tt;
    empty = tt;
  }
  Puts-sent (Err e) none p =
      record { same_reference = same; took = tt; fails = p; empty = none }

module _ {W : Type 0} {contents : W → Option (List ℕ)} where
  -- nothing is put
  pub Puts-none : {E : Type 0} (o : Outlet W) → Puts {E = E} contents (Ok tt) o o []
  Puts-none o = record {
    same_reference = refl;
    took = subst (λ t. SendsAllBut contents (writer_of o) (writer_of o) t (held_of o))
        (sym (append-nil (held_of o))) (left_all (writer_of o) (held_of o));
    fails = tt;
    empty = tt;
  }

  -- a text by another name
  pub Puts-is : {E : Type 0} {r : Result (Unit {0}) E} {o p : Outlet W} {x y : List ℕ}
      → Puts contents r o p x → x ≡ y → Puts contents r o p y
  Puts-is {E} {r} {o} {p} is e = subst (Puts contents r o p) e is

  -- one text, and then another
  pub Puts-then : {E F : Type 0} {r : Result (Unit {0}) F} {o p q : Outlet W} {x y : List ℕ}
      → Puts {E = E} contents (Ok tt) o p x → Puts contents r p q y
      → Puts contents r o q (x ++ y)
  Puts-then {E} {F} {r = Ok v} {o} {p} {q} {x} {y} first then = record {
    same_reference = then.same_reference ∙ first.same_reference;
    took = subst (λ t. SendsAllBut contents (writer_of o) (writer_of q) t (held_of q))
        (append_assoc (held_of o) x y) (left_of_both first.took y then.took);
    fails = tt;
    empty = tt;
  }
  Puts-then {E} {F} {r = Err e} {o} {p} {q} {x} {y} first then = record {
    same_reference = then.same_reference ∙ first.same_reference;
    took = tt;
    fails = Sends-is (fails_of_both first.took y then.fails) (append_assoc (held_of o) x y);
    empty = then.empty;
  }

  -- the first of two texts failed
  pub Puts-fails : {E F : Type 0} {e : E} {o p : Outlet W} {x : List ℕ} (r : Result (Unit {0}) F)
      → IsErr r → Puts contents (Err e) o p x → (y : List ℕ) → Puts contents r o p (x ++ y)
  Puts-fails (Ok v) is put y = absurd cc
  Puts-fails {E} {F} {e} {o} {p} {x} (Err f) is put y = record {
    same_reference = put.same_reference;
    took = tt;
    fails = Sends-is (Sends-fails (Err f) is put.fails y) (append_assoc (held_of o) x y);
    empty = put.empty;
  }

-- ---- pieces one after another

module _ {X : Type 0} (f : X → List ℕ) (xs : List X) (i : ℕ) (x : X) (lt : i < length xs)
    (is : x ≡ get_or xs i x) where
  -- the pieces: those before, this one, and those after it
  pieces : flat_map f xs ≡ flat_map f (take i xs) ++ (f x ++ flat_map f (drop (i + 1) xs))
  pieces = ap (flat_map f) (sym (take-append-drop i xs) ∙ ap (λ ys. take i xs ++ ys)
      (drop_more xs i x lt ∙ ap (λ y. y ∷ drop (i + 1) xs) (sym is)))
      ∙ flat_map-append f (take i xs) (x ∷ drop (i + 1) xs)

  module _ {W : Type 0} {contents : W → Option (List ℕ)} {o p q : Outlet W}
      (before : Puts {E = Unit {0}} contents (Ok tt) o p (flat_map f (take i xs))) where
    -- one piece more
    pub Puts-more : {E : Type 0} → Puts {E = E} contents (Ok tt) p q (f x)
        → Puts {E = Unit {0}} contents (Ok tt) o q (flat_map f (take (i + 1) xs))
    Puts-more put = Puts-is (Puts-then before (ok put))
        (flat_map_more f [] (take i xs) x
        ∙ ap (flat_map f) (ap (λ y. take i xs ++ y ∷ []) is ∙ sym (take_more xs i x lt)))
      where
        ok : {E : Type 0} → Puts {E = E} contents (Ok tt) p q (f x)
            → Puts {E = Unit {0}} contents (Ok tt) p q (f x)
        ok put = record {
          same_reference = put.same_reference;
          took = put.took;
          fails = tt;
          empty = tt;
        }

    -- a piece failed
    pub Puts-broken : {E F : Type 0} {e : E} (r : Result (Unit {0}) F) → IsErr r
        → Puts contents (Err e) p q (f x) → Puts contents r o q (flat_map f xs)
    Puts-broken r e put = Puts-is
        (Puts-then before (Puts-fails r e put (flat_map f (drop (i + 1) xs)))) (sym pieces)

-- ---- from the first byte to the last

module _ {W : Type 0} {contents : W → Option (List ℕ)} {first : Counted W} {o p : Outlet W}
    {x : List ℕ} (new : HasTaken contents first o []) where
  -- what was put is sent
  pub Sends-put : {E F : Type 0} {r : Result (Unit {0}) F} {last : Counted W}
      → Puts {E = E} contents (Ok tt) o p x → Sends contents r (writer_of p) last (held_of p)
      → Sends contents r first last x
  Sends-put put sent = Sends-last (left_of_both new x put.took) refl sent

  -- it could not be put
  pub Sends-unput : {E F : Type 0} {e : E} (r : Result (Unit {0}) F) → IsErr r
      → Puts contents (Err e) o p x → Sends contents r first (writer_of p) x
  Sends-unput r is put = Sends-err r is (fails_of_both new x put.fails)
