-- Lists in one order, whose members have the same keys, have the same lines.
use Rattle.aprs_lists.proofs.Common.{◌≡◌, ◌∙◌, ◌++◌, ◌∷◌, [], ℕ, List, ap, ap₂, flat_map, inl, inr, refl, subst, sym, ◌∈◌, Ordered}

module _ {X K : Type 0} (key : X → K) (line : X → List ℕ) (B : K → K → Type 0)
    (never : (a b : K) → B a b → B b a → ⊥) where
  -- the one's key is below the other's
  abbrev Below : X → X → Type 0
  Below x y = B (key x) (key y)

  -- each of xs has one of its key in ys
  abbrev Covers : List X → List X → Type 0
  Covers xs ys = (x : X) → x ∈ xs → (y : X) × (y ∈ ys) × (key y ≡ key x)

  -- the lines of two members of one key are the same
  abbrev Agree : List X → List X → Type 0
  Agree xs ys = (x y : X) → x ∈ xs → y ∈ ys → key x ≡ key y → line x ≡ line y

  heads : (x y : X) (xs ys : List X) → Ordered Below (x ∷ xs) → Ordered Below (y ∷ ys)
      → (w : X) × (w ∈ (y ∷ ys)) × (key w ≡ key x) → (w : X) × (w ∈ (x ∷ xs)) × (key w ≡ key y)
      → key x ≡ key y
  heads x y xs ys o q p r = elim p.1 [
    | inl e ↦ sym p.2 ∙ ap key (sym e)
    | inr h ↦ elim r.1 [
      | inl e ↦ ap key e ∙ r.2
      | inr k ↦ absurd (never (key x) (key y) (subst (B (key x)) r.2 (o.0 r.0 k))
          (subst (B (key y)) p.2 (q.0 p.0 h)))
    ]
  ]

  tails : (x y : X) (xs ys : List X) → key x ≡ key y → Ordered Below (x ∷ xs)
      → Covers (x ∷ xs) (y ∷ ys) → Covers xs ys
  tails x y xs ys same o c z m =
      let p = c z (inr m) in
      elim p.1 [
        | inl e ↦ (let b : B (key x) (key x) =
            subst (B (key x)) (sym p.2 ∙ (ap key (sym e) ∙ sym same)) (o.0 z m) in
            absurd (never (key x) (key x) b b))
        | inr h ↦ (p.0, h, p.2)
      ]

  pub same_lines : (xs ys : List X) → Ordered Below xs → Ordered Below ys → Covers xs ys
      → Covers ys xs → Agree xs ys → flat_map line xs ≡ flat_map line ys
  same_lines [] [] o q c d l = refl
  same_lines [] (y ∷ ys) o q c d l = absurd ((d y (inl refl)).1)
  same_lines (x ∷ xs) [] o q c d l = absurd ((c x (inl refl)).1)
  same_lines (x ∷ xs) (y ∷ ys) o q c d l =
      let first = heads x y xs ys o q (c x (inl refl)) (d y (inl refl)) in
      ap₂ (λ (a b : List ℕ). a ++ b) (l x y (inl refl) (inl refl) first)
      (same_lines xs ys o.1 q.1 (tails x y xs ys first o c) (tails y x ys xs (sym first) q d)
      (λ a b i j. l a b (inr i) (inr j)))
