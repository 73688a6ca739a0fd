-- An entry that is put among others in order.
use Rattle.aprs_summary.proofs.Common.{◌≡◌, ◌∙◌, List, [], ◌∷◌, Some, refl, ap, AllByRecursion, lookup, keys_of, is_at, insert_entry, IsTotalOrder, ordering_reverse, Ordering, Less, Equal, Greater, tied_itself}
use Rattle.std.specs.List.Sorted.{IsStrictlySortedBy}

module _ {K : Type 0} (R : K → K → Ordering) (total : IsTotalOrder R) where
  above : (k e : K) → R k e ≡ Greater → R e k ≡ Less
  above k e d = total.antisymm e k ∙ ap ordering_reverse d

  below_all : (k e : K) (ks : List K) → R k e ≡ Less → AllByRecursion (λ y. R e y ≡ Less) ks
      → AllByRecursion (λ y. R k y ≡ Less) ks
  below_all k e [] d a = tt
  below_all k e (y ∷ ks) d a = (total.trans k e y d a.0, below_all k e ks d a.1)

  module _ {V : Type 0} where
    -- the value that is put last stays
    pub inserted_twice : (k : K) (v w : V) (es : List (K × V))
        → insert_entry R (insert_entry R es k v) k w ≡ insert_entry R es k w
    inserted_twice k v w [] = rw (tied_itself total k) refl
    inserted_twice k v w (e ∷ es) = by_order (R k e.0) refl (inserted_twice k v w es) where
      by_order : (o : Ordering) → R k e.0 ≡ o
          → insert_entry R (insert_entry R es k v) k w ≡ insert_entry R es k w
          → insert_entry R (insert_entry R (e ∷ es) k v) k w ≡ insert_entry R (e ∷ es) k w
      by_order Less d r = rw (d, tied_itself total k) refl
      by_order Equal d r = rw (d, d) refl
      by_order Greater d r = rw (d, d) (ap (λ t. e ∷ t) r)

    -- what was put is found
    pub inserted_found : (k : K) (v : V) (es : List (K × V))
        → lookup (is_at (R k)) (insert_entry R es k v) ≡ Some v
    inserted_found k v [] = rw (tied_itself total k) refl
    inserted_found k v (e ∷ es) = by_order (R k e.0) refl (inserted_found k v es) where
      by_order : (o : Ordering) → R k e.0 ≡ o
          → lookup (is_at (R k)) (insert_entry R es k v) ≡ Some v
          → lookup (is_at (R k)) (insert_entry R (e ∷ es) k v) ≡ Some v
      by_order Less d r = rw (d, tied_itself total k) refl
      by_order Equal d r = rw (d, d) refl
      by_order Greater d r = rw (d, d) r

    still_below : (e k : K) (v : V) (es : List (K × V)) → R e k ≡ Less
        → AllByRecursion (λ y. R e y ≡ Less) (keys_of es)
        → AllByRecursion (λ y. R e y ≡ Less) (keys_of (insert_entry R es k v))
    still_below e k v [] d a = (d, tt)
    still_below e k v (f ∷ es) d a = by_order (R k f.0) refl (still_below e k v es d a.1) where
      by_order : (o : Ordering) → R k f.0 ≡ o
          → AllByRecursion (λ y. R e y ≡ Less) (keys_of (insert_entry R es k v))
          → AllByRecursion (λ y. R e y ≡ Less) (keys_of (insert_entry R (f ∷ es) k v))
      by_order Less c r = rw c (d, a)
      by_order Equal c r = rw c a
      by_order Greater c r = rw c (a.0, r)

    -- the keys stay in order
    pub inserted_sorted : (k : K) (v : V) (es : List (K × V)) → IsStrictlySortedBy R (keys_of es)
        → IsStrictlySortedBy R (keys_of (insert_entry R es k v))
    unfolding IsStrictlySortedBy
    inserted_sorted k v [] s = (tt, tt)
    inserted_sorted k v (e ∷ es) s =
        by_order (R k e.0) refl (inserted_sorted k v es s.1) where
          by_order : (o : Ordering) → R k e.0 ≡ o
              → IsStrictlySortedBy R (keys_of (insert_entry R es k v))
              → IsStrictlySortedBy R (keys_of (insert_entry R (e ∷ es) k v))
          by_order Less d r = rw d ((d, below_all k e.0 (keys_of es) d s.0), s)
          by_order Equal d r = rw d s
          by_order Greater d r = rw d (still_below e.0 k v es (above k e.0 d) s.0, r)
