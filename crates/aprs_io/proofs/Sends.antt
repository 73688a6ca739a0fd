-- Laws of what a function did to its device.
use Rattle.aprs_io.proofs.Common.{◌≡◌, ◌≤◌, ℕ, List, [], ◌++◌, length, Option, Result, Ok, Err, refl, sym, ap, ◌∙◌, subst, append_assoc, length-append, arith, IsErr, IsOk, Appends-nil, Appends-trans}
use Rattle.aprs_io.specs.Device.{Calls, Last, Going, Fault, End, Sends, SendsAllBut, faults_after, ends_after}
use Rattle.aprs_io.specs.declared.device.Counted.{Counted}
use Rattle.aprs_io.proofs.Bytes.{AppendsPrefix-more, AppendsPrefix-then}

-- ---- the counts

pub Calls-none : {T : Type 0} (a : Counted T) → Calls Going a a
Calls-none a = record { count = omega arith; fault = omega arith; answered = refl; ended = refl }

later : (last : Last) (m n o : ℕ) → m ≤ n → faults_after last n ≤ o → faults_after last m ≤ o
later Going m n o p q = omega (arith, p, q)
later Fault m n o p q = omega (arith, p, q)
later End m n o p q = omega (arith, p, q)

-- a call after others that went on
pub Calls-then : {T : Type 0} {last : Last} {a b c : Counted T} → Calls Going a b → Calls last b c
    → Calls last a c
Calls-then {T} {last} {a} {b} {c} p q = record {
  count = let first = p.count in let second = q.count in omega (arith, first, second);
  fault = later last _ _ _ p.count q.fault;
  answered = q.answered ∙ ap (faults_after last) p.answered;
  ended = q.ended ∙ ap (ends_after last) p.ended;
}

-- ---- texts

module _ {W : Type 0} {contents : W → Option (List ℕ)} where
  -- nothing is sent
  pub Sends-none : {E : Type 0} (a : Counted W) → Sends {E = E} contents (Ok tt) a a []
  Sends-none a = record {
    sent = Appends-nil (contents a.device);
    prefix = tt;
    calls = Calls-none a;
    tries = omega arith;
    unasked = λ e. (refl, refl);
  }

  -- a text by another name
  pub Sends-is : {E : Type 0} {r : Result (Unit {0}) E} {a b : Counted W} {x y : List ℕ}
      → Sends contents r a b x → x ≡ y → Sends contents r a b y
  Sends-is {E} {r} {a} {b} p e = subst (Sends contents r a b) e p

  -- what the error would be is not said
  pub Sends-ok : {E F : Type 0} {a b : Counted W} {x : List ℕ}
      → Sends {E = E} contents (Ok tt) a b x → Sends {E = F} contents (Ok tt) a b x
  Sends-ok p = record {
    sent = p.sent;
    prefix = tt;
    calls = p.calls;
    tries = p.tries;
    unasked = λ e. (refl, (p.unasked e).1);
  }

  -- of two texts without bytes nothing is asked
  unasked_then : {E F : Type 0} {r : Result (Unit {0}) F} {a b c : Counted W} {x y : List ℕ}
      → Sends {E = E} contents (Ok tt) a b x → Sends contents r b c y
      → length (x ++ y) ≡ 0 → IsOk r × (c ≡ a)
  unasked_then {E} {F} {r} {a} {b} {c} {x} {y} p q none =
      let first = p.unasked (omega (arith, none, length-append x y)) in
      let second = q.unasked (omega (arith, none, length-append x y)) in
      (second.0, second.1 ∙ first.1)

  -- a text, and then another
  pub Sends-then : {E F : Type 0} {r : Result (Unit {0}) F} {a b c : Counted W} {x y : List ℕ}
      → Sends {E = E} contents (Ok tt) a b x → Sends contents r b c y
      → Sends contents r a c (x ++ y)
  Sends-then {E} {F} {r = Ok v} {a} {b} {c} {x} {y} p q = record {
    sent = Appends-trans (contents a.device) (contents b.device) (contents c.device) x y p.sent q.sent;
    prefix = tt;
    calls = Calls-then p.calls q.calls;
    tries = omega (arith, length-append x y, p.tries, q.tries);
    unasked = unasked_then p q;
  }
  Sends-then {E} {F} {r = Err e} {a} {b} {c} {x} {y} p q = record {
    sent = tt;
    prefix = AppendsPrefix-then (contents a.device) (contents b.device) (contents c.device) x y p.sent
        q.prefix;
    calls = Calls-then p.calls q.calls;
    tries = omega (arith, length-append x y, p.tries, q.tries);
    unasked = unasked_then p q;
  }

  -- which error it is is not said
  pub Sends-err : {E F : Type 0} {e : E} {a b : Counted W} {x : List ℕ} (r : Result (Unit {0}) F)
      → IsErr r → Sends contents (Err e) a b x → Sends contents r a b x
  Sends-err (Ok v) is p = absurd cc
  Sends-err (Err f) is p = record {
    sent = tt;
    prefix = p.prefix;
    calls = p.calls;
    tries = p.tries;
    unasked = λ none. absurd (let ok = (p.unasked none).0 in cc);
  }

  -- a text failed that another begins with
  pub Sends-fails : {E F : Type 0} {e : E} {a b : Counted W} {x : List ℕ}
      (r : Result (Unit {0}) F) → IsErr r
      → Sends contents (Err e) a b x → (y : List ℕ) → Sends contents r a b (x ++ y)
  Sends-fails (Ok v) is p y = absurd cc
  Sends-fails {E} {F} {e} {a} {b} {x} (Err f) is p y = record {
    sent = tt;
    prefix = AppendsPrefix-more (contents a.device) (contents b.device) x y p.prefix;
    calls = p.calls;
    tries = omega (arith, length-append x y, p.tries);
    unasked = λ none.
        absurd (let ok = (p.unasked (omega (arith, none, length-append x y))).0 in cc);
  }

-- ---- a text that goes out part by part

module _ {W : Type 0} {contents : W → Option (List ℕ)} where
  -- nothing of it went out yet
  pub left_all : (a : Counted W) (text : List ℕ) → SendsAllBut contents a a text text
  left_all a text = record { gone = []; whole = refl; sends = Sends-none a }

  module _ {a b c : Counted W} {text rest part : List ℕ} (p : SendsAllBut contents a b text rest)
    where
      -- one part more
      pub left_after : {E : Type 0} (more : List ℕ) → rest ≡ part ++ more
          → Sends {E = E} contents (Ok tt) b c part → SendsAllBut contents a c text more
      left_after more e q = record {
        gone = p.gone ++ part;
        whole = p.whole ∙ ap (λ l. p.gone ++ l) e ∙ sym (append_assoc p.gone part more);
        sends = Sends-then p.sends (Sends-ok q);
      }

      -- the last part is sent, or a prefix of it
      pub Sends-last : {E : Type 0} {r : Result (Unit {0}) E} → rest ≡ part
          → Sends contents r b c part → Sends contents r a c text
      Sends-last e q = Sends-is (Sends-then p.sends q)
          (ap (λ l. p.gone ++ l) (sym e) ∙ sym p.whole)

      -- a part failed
      pub Sends-broken : {E F : Type 0} {e : E} (r : Result (Unit {0}) F) → IsErr r → (more : List ℕ)
          → rest ≡ part ++ more → Sends contents (Err e) b c part → Sends contents r a c text
      Sends-broken {E} {F} r is more s q = Sends-is (Sends-then p.sends (Sends-fails r is q more))
          (ap (λ l. p.gone ++ l) (sym s) ∙ sym p.whole)

  module _ {a b : Counted W} {text rest : List ℕ} (p : SendsAllBut contents a b text rest) where
    -- what is left of one text, and another after it
    pub left_of_both : {d : Counted W} {now : List ℕ} (more : List ℕ)
        → SendsAllBut contents b d (rest ++ more) now → SendsAllBut contents a d (text ++ more) now
    left_of_both {d} {now} more q = record {
      gone = p.gone ++ q.gone;
      whole = ap (λ l. l ++ more) p.whole ∙ append_assoc p.gone rest more
          ∙ ap (λ l. p.gone ++ l) q.whole ∙ sym (append_assoc p.gone q.gone now);
      sends = Sends-then p.sends q.sends;
    }

    -- what is left of one text fails to go out, or another after it
    pub fails_of_both : {E : Type 0} {r : Result (Unit {0}) E} {d : Counted W} (more : List ℕ)
        → Sends contents r b d (rest ++ more) → Sends contents r a d (text ++ more)
    fails_of_both {E} {r} {d} more q = Sends-is (Sends-then p.sends q)
        (sym (append_assoc p.gone rest more) ∙ ap (λ l. l ++ more) (sym p.whole))
