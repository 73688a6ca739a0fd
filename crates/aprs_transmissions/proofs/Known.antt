-- What is last known of a set, and that its book decides it.
use Rattle.aprs_transmissions.proofs.Common.{◌≡◌, ℕ, Bool, true, false, List, [], ◌∷◌, ◌++◌, if◌then◌else◌, inl, inr, sym, refl, ◌∙◌, ap, subst, map, Option, None, Some, upto, Received, heard_cmp}
use Rattle.aprs_transmissions.specs.Lists.{◌∈◌, SameMembers}
use Rattle.aprs_transmissions.specs.Order.{IsUpTo}
use Rattle.aprs_transmissions.specs.Key.{Key, key_of}
use Rattle.aprs_transmissions.specs.Row.{Row}
use Rattle.aprs_transmissions.specs.Book.{BookOf}
use Rattle.aprs_transmissions.specs.Best.{IsBest, LastKnown, greater_known, known_after, known_of}
use Rattle.aprs_transmissions.specs.BestLaws.{Passes}
use Rattle.aprs_transmissions.specs.JoinRow.{greater}
use Rattle.aprs_transmissions.proofs.Lists.{in_left, in_right, in_either, in_map, from_map}
use Rattle.aprs_transmissions.proofs.Orders.{same_greatest, up_to_itself, heard_total, heard_exact}
use Rattle.aprs_transmissions.proofs.Joins.{is_greater_of}
use Rattle.aprs_transmissions.proofs.Unions.{around}
use Rattle.aprs_transmissions.proofs.Views.{a_row, best_of_rows}

-- the greatest reception of a row
abbrev pub greatest_of : Row → Received
greatest_of x = x.greatest

pub known_once : (S T : List Received) (P : Key → Type 0) (x y : Option Received) → SameMembers S T
    → LastKnown S P x → LastKnown T P y → x ≡ y
known_once S T P None None e h k = refl
known_once S T P None (Some g) e h k = absurd (h g ((e g).1 k.member) k.property)
known_once S T P (Some g) None e h k = absurd (k g ((e g).0 h.member) h.property)
known_once S T P (Some f) (Some g) e h k =
    ap Some
    (same_greatest heard_total heard_exact f g (k.greatest f ((e f).0 h.member) h.property)
    (h.greatest g ((e g).1 k.member) k.property))

-- what is known of S is known of the rows' greatest receptions
pub rows_know : (gap : ℕ) (S : List Received) (p : List Row) (P : Key → Type 0) (known : Option Received)
    → BookOf gap S p → LastKnown S P known → LastKnown (map greatest_of p) P known
rows_know gap S p P None b h =
    λ s m k. let t =
    from_map greatest_of s p m in
    h s (subst (λ (u : Received). u ∈ S) t.2 ((b.exactly t.0).0 t.1).member) k
rows_know gap S p P (Some g) b h =
    let t = a_row gap S p b g h.member in
    let r = t.3 in
    let e : t.0.greatest ≡ g =
    same_greatest heard_total heard_exact t.0.greatest g
    (h.greatest t.0.greatest r.member (subst P t.2.key h.property))
    (r.greatest g h.member t.2) in
    record {
      member = subst (λ (u : Received). u ∈ map greatest_of p) e (in_map greatest_of t.0 p t.1);
      property = h.property;
      greatest =
          λ s m k. let u =
          from_map greatest_of s p m in
          h.greatest s (subst (λ (v : Received). v ∈ S) u.2 ((b.exactly u.0).0 u.1).member) k;
    }

pub set_knows : (gap : ℕ) (S : List Received) (p : List Row) (P : Key → Type 0) (known : Option Received)
    → BookOf gap S p → LastKnown (map greatest_of p) P known → LastKnown S P known
set_knows gap S p P None b h =
    λ s m k. let t =
    a_row gap S p b s m in h t.0.greatest (in_map greatest_of t.0 p t.1) (subst P t.2.key k)
set_knows gap S p P (Some g) b h =
    let t = from_map greatest_of g p h.member in
    subst (λ (u : Received). IsBest S P u) t.2
    (best_of_rows gap S p P b t.0 t.1
    (subst (λ (u : Received). P (key_of u.frame)) (sym t.2) h.property)
    (λ y m k. subst (λ (u : Received). IsUpTo heard_cmp y.greatest u) (sym t.2)
    (h.greatest y.greatest (in_map greatest_of y p m) k)))

pub known_carries : (S T : List Received) (P : Key → Type 0) (known : Option Received)
    → SameMembers S T → LastKnown S P known → LastKnown T P known
known_carries S T P None e h = λ s m. h s ((e s).1 m)
known_carries S T P (Some g) e h = record {
  member = (e g).0 h.member;
  property = h.property;
  greatest = λ s m. h.greatest s ((e s).1 m);
}

-- one more reception that has the property
known_greater : (P : Key → Type 0) (s : Received) (S : List Received) (known : Option Received)
    → P (key_of s.frame) → LastKnown S P known → LastKnown (s ∷ S) P (Some (greater_known known s))
known_greater P s S None q h = record {
  member = inl refl;
  property = q;
  greatest = λ t m k. elim m [
    | inl e ↦ subst (λ (u : Received). IsUpTo heard_cmp u s) e (up_to_itself heard_total s)
    | inr j ↦ absurd (h t j k)
  ];
}
known_greater P s S (Some g) q h =
    let c = is_greater_of g s in
    record {
      member = elim c.one [
        | inl e ↦ inr (subst (λ (u : Received). u ∈ S) (sym e) h.member)
        | inr e ↦ inl (sym e)
      ];
      property = elim c.one [
        | inl e ↦ subst (λ (u : Received). P (key_of u.frame)) (sym e) h.property
        | inr e ↦ subst (λ (u : Received). P (key_of u.frame)) (sym e) q
      ];
      greatest = λ t m k. elim m [
        | inl e ↦ subst (λ (u : Received). IsUpTo heard_cmp u (greater g s)) e c.right
        | inr j ↦ upto heard_total t g (greater g s) (h.greatest t j k) c.left
      ];
    }

-- and one that has not
known_passed : (P : Key → Type 0) (s : Received) (S : List Received) (known : Option Received)
    → (P (key_of s.frame) → ⊥) → LastKnown S P known → LastKnown (s ∷ S) P known
known_passed P s S None q h = λ t m k. elim m [
  | inl e ↦ q (subst (λ (u : Received). P (key_of u.frame)) (sym e) k)
  | inr j ↦ h t j k
]
known_passed P s S (Some g) q h = record {
  member = inr h.member;
  property = h.property;
  greatest = λ t m k. elim m [
    | inl e ↦ absurd (q (subst (λ (u : Received). P (key_of u.frame)) (sym e) k))
    | inr j ↦ h.greatest t j k
  ];
}

-- one more reception, at the end of the set's list
pub known_last : (test : Key → Bool) (s : Received) (S : List Received) (known : Option Received)
    → LastKnown S (Passes test) known → LastKnown (S ++ s ∷ []) (Passes test)
    (known_after test known s)
known_last test s S known h =
    known_carries (s ∷ S) (S ++ s ∷ []) (Passes test) (known_after test known s) (around (s ∷ []) S)
    (by_case (test (key_of s.frame)) refl) where
      by_case : (b : Bool) → test (key_of s.frame) ≡ b
          → LastKnown (s ∷ S) (Passes test) (if b then Some (greater_known known s) else known)
      by_case true e = known_greater (Passes test) s S known e h
      by_case false e =
          known_passed (Passes test) s S known (λ q. let n : true ≡ false = sym q ∙ e in cc) h

-- what was known of the receptions so far, and those that are left
pub known_on : (test : Key → Bool) (done S : List Received) (known : Option Received)
    → LastKnown done (Passes test) known → LastKnown (done ++ S) (Passes test)
    (known_of test known S)
known_on test done [] known h =
    known_carries done (done ++ []) (Passes test) known
    (λ s. (in_left s done [], λ m. elim (in_either s done [] m) [ inl k ↦ k | inr k ↦ absurd k ])) h
known_on test done (s ∷ S) known h =
    known_carries ((done ++ s ∷ []) ++ S) (done ++ s ∷ S) (Passes test)
    (known_of test (known_after test known s) S) (λ t. (to t, from t))
    (known_on test (done ++ s ∷ []) S (known_after test known s)
    (known_last test s done known h)) where
      to : (t : Received) → t ∈ ((done ++ s ∷ []) ++ S) → t ∈ (done ++ s ∷ S)
      to t m = elim (in_either t (done ++ s ∷ []) S m) [
        | inl k ↦ elim (in_either t done (s ∷ []) k) [
          | inl j ↦ in_left t done (s ∷ S) j
          | inr j ↦ elim j [ inl e ↦ in_right t done (s ∷ S) (inl e) | inr i ↦ absurd i ]
        ]
        | inr k ↦ in_right t done (s ∷ S) (inr k)
      ]

      from : (t : Received) → t ∈ (done ++ s ∷ S) → t ∈ ((done ++ s ∷ []) ++ S)
      from t m = elim (in_either t done (s ∷ S) m) [
        | inl k ↦ in_left t (done ++ s ∷ []) S (in_left t done (s ∷ []) k)
        | inr k ↦ elim k [
          | inl e ↦ in_left t (done ++ s ∷ []) S (in_right t done (s ∷ []) (inl e))
          | inr j ↦ in_right t (done ++ s ∷ []) S j
        ]
      ]

pub plain_known : (test : Key → Bool) (S : List Received)
    → LastKnown S (Passes test) (known_of test None S)
plain_known test S = known_on test [] S None (λ s m. absurd m)

pub some_known : (test : Key → Bool) (S : List Received)
    → (known : Option Received) × LastKnown S (Passes test) known
some_known test S = (known_of test None S, plain_known test S)
