-- The orders of callsigns, keys and receptions: each is total, and equals are identical.
use Rattle.aprs_transmissions.proofs.Common.{◌≡◌, ℕ, ◌<◌, ◌≤◌, List, refl, ap, ◌∙◌, subst, false, arith, IsTotalOrder, nat_cmp, ordering_then, ordering_reverse, is_gt, MatchOrdering, Ordering, Less, Equal, Greater, then_total, on_total, nat_cmp_total, nat_list_cmp_total, tied_itself, nat_tests, CmpEqualImpliesEq, exact_pairs, exact_unsigned, exact_bytes, Received, bytes_cmp, heard_cmp}
use Rattle.aprs_ax25.specs.Callsign.{Call, call_cmp}
use Rattle.aprs_transmissions.specs.Order.{IsUpTo}
use Rattle.aprs_transmissions.specs.Key.{key_cmp}

pub not_both : {X : Type 0} {R : X → X → Ordering} → IsTotalOrder R → (x y : X) → R x y ≡ Less
    → R y x ≡ Less → ⊥
not_both o x y h k = let a = o.antisymm x y in cc

-- the three ways in which two values of an exact order lie
pub compared : {X : Type 0} {R : X → X → Ordering} → IsTotalOrder R → CmpEqualImpliesEq R
    → (x y : X)
    → MatchOrdering (R x y) (R x y ≡ Less) (x ≡ y) (R y x ≡ Less)
compared {X} {R} o e x y = by_case (R x y) refl where
  by_case : (r : Ordering) → R x y ≡ r → MatchOrdering r (R x y ≡ Less) (x ≡ y) (R y x ≡ Less)
  by_case Less h = h
  by_case Equal h = e x y h
  by_case Greater h = let a = o.antisymm y x in a ∙ ap ordering_reverse h

-- two values, neither after the other
pub same_greatest : {X : Type 0} {R : X → X → Ordering} → IsTotalOrder R → CmpEqualImpliesEq R
    → (x y : X) → IsUpTo R x y → IsUpTo R y x → x ≡ y
same_greatest {X} {R} o e x y h k = by_case (R x y) refl where
  by_case : (r : Ordering) → R x y ≡ r → x ≡ y
  by_case Less g =
      let a =
      o.antisymm y x in let b : R y x ≡ Greater = a ∙ ap ordering_reverse g in cc (ap is_gt b)
  by_case Equal g = e x y g
  by_case Greater g = cc (ap is_gt g)

-- a value is not after itself
pub up_to_itself : {X : Type 0} {R : X → X → Ordering} → IsTotalOrder R → (x : X) → IsUpTo R x x
up_to_itself o x = ap is_gt (tied_itself o x)

pub bytes_total : IsTotalOrder bytes_cmp
bytes_total = nat_list_cmp_total

pub bytes_exact : CmpEqualImpliesEq bytes_cmp
bytes_exact = exact_bytes

pub call_total : IsTotalOrder call_cmp
call_total =
    then_total (on_total (λ c. c.characters) nat_list_cmp_total) (on_total (λ c. c.ssid) nat_cmp_total)

pub call_exact : CmpEqualImpliesEq call_cmp
call_exact a b h =
    ap (λ (p : List ℕ × ℕ). record { characters = p.0; ssid = p.1 })
    (exact_pairs bytes_cmp nat_cmp exact_bytes exact_unsigned (a.characters, a.ssid)
    (b.characters, b.ssid) h)

pub key_total : IsTotalOrder key_cmp
unfolding key_cmp
key_total =
    then_total (on_total (λ k. k.source) call_total)
    (then_total (on_total (λ k. k.destination) call_total) (on_total (λ k. k.info) bytes_total))

pub key_exact : CmpEqualImpliesEq key_cmp
unfolding key_cmp
key_exact a b h =
    ap (λ (p : Call × (Call × List ℕ)). record { source = p.0; destination = p.1.0; info = p.1.1 })
    (exact_pairs call_cmp
    (λ (x y : Call × List ℕ). ordering_then (call_cmp x.0 y.0) (bytes_cmp x.1 y.1)) call_exact
    (exact_pairs call_cmp bytes_cmp call_exact bytes_exact) (a.source, (a.destination, a.info))
    (b.source, (b.destination, b.info)) h)

pub heard_total : IsTotalOrder heard_cmp
heard_total =
    then_total (on_total (λ s. s.moment) nat_cmp_total)
    (then_total (on_total (λ s. s.receiver) bytes_total) (on_total (λ s. s.frame) bytes_total))

pub heard_exact : CmpEqualImpliesEq heard_cmp
heard_exact a b h =
    ap (λ (p : ℕ × (List ℕ × List ℕ)). record { moment = p.0; receiver = p.1.0; frame = p.1.1 })
    (exact_pairs nat_cmp
    (λ (x y : List ℕ × List ℕ). ordering_then (bytes_cmp x.0 y.0)
    (bytes_cmp x.1 y.1)) exact_unsigned
    (exact_pairs bytes_cmp bytes_cmp bytes_exact bytes_exact) (a.moment, (a.receiver, a.frame))
    (b.moment, (b.receiver, b.frame)) h)

-- a reception is not after one of a greater or equal moment
pub moment_up_to : (s t : Received) → IsUpTo heard_cmp s t → s.moment ≤ t.moment
moment_up_to s t h = by_case (bytes_cmp s.receiver t.receiver) h where
  by_case : (r : Ordering)
      → is_gt
      (ordering_then (nat_cmp s.moment t.moment) (ordering_then r (bytes_cmp s.frame t.frame)))
      ≡ false → s.moment ≤ t.moment
  by_case r h = grind (arith, nat_tests)

-- a reception of a smaller moment is not after
pub up_to_moment : (s t : Received) → s.moment < t.moment → IsUpTo heard_cmp s t
up_to_moment s t l =
    by_case (ordering_then (bytes_cmp s.receiver t.receiver) (bytes_cmp s.frame t.frame)) where
      by_case : (o : Ordering) → is_gt (ordering_then (nat_cmp s.moment t.moment) o) ≡ false
      by_case o = grind (arith, nat_tests)

-- one by a receiver that is not after, of the same moment and frame, is not after
pub up_to_receiver : (s t : Received) → s.moment ≡ t.moment → IsUpTo bytes_cmp s.receiver t.receiver
    → s.frame ≡ t.frame → IsUpTo heard_cmp s t
up_to_receiver s t e h f =
    by_case (bytes_cmp s.receiver t.receiver) (bytes_cmp s.frame t.frame) h
    (subst (λ (q : List ℕ). bytes_cmp s.frame q ≡ Equal) f (tied_itself bytes_total s.frame)) where
      by_case : (o p : Ordering) → is_gt o ≡ false → p ≡ Equal
          → is_gt (ordering_then (nat_cmp s.moment t.moment) (ordering_then o p)) ≡ false
      by_case Less p h k = grind (arith, nat_tests)
      by_case Equal p h k = rw k (grind (arith, nat_tests))
      by_case Greater p h k = absurd (cc h)

-- receptions of one moment are in the order of their receivers
pub receiver_up_to : (s t : Received) → s.moment ≡ t.moment → IsUpTo heard_cmp s t
    → IsUpTo bytes_cmp s.receiver t.receiver
receiver_up_to s t e h = by_case (bytes_cmp s.receiver t.receiver) h where
  by_case : (o : Ordering)
      → is_gt
      (ordering_then (nat_cmp s.moment t.moment) (ordering_then o (bytes_cmp s.frame t.frame)))
      ≡ false → is_gt o ≡ false
  by_case Less h = refl
  by_case Equal h = refl
  by_case Greater h = grind (arith, nat_tests)

pub ordering_then_assoc : (p q r : Ordering)
    → ordering_then (ordering_then p q) r ≡ ordering_then p (ordering_then q r)
ordering_then_assoc Less q r = refl
ordering_then_assoc Equal q r = refl
ordering_then_assoc Greater q r = refl
