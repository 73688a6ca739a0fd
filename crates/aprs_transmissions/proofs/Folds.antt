-- What follows from the laws of joining alone: a fold is the same for items in another order, or
-- with repeats.
use Rattle.aprs_transmissions.proofs.Common.{◌≡◌, List, [], ◌∷◌, ◌++◌, inl, inr, sym, refl, subst}
use Rattle.aprs_transmissions.specs.Lists.{◌∈◌}
use Rattle.aprs_transmissions.specs.Joining.{JoinLaws, FoldsTo, FoldsFreely}

module _ {X : Type 0} (valid : X → Type 0) (alike : X → X → Type 0) (joined : X → X → X → Type 0)
    (laws : JoinLaws valid alike joined) where
  -- c·a = c, where that has the value p
  fixed : (c a p : X) → joined c a p → p ≡ c → joined c a c
  fixed c a p j e = subst (λ (q : X). joined c a q) e j

  itself : (a : X) → valid a → joined a a a
  itself a v = (laws.idempotent a a v).1 refl

  takes_first : (a b c : X) → valid a → valid b → joined a b c → joined c a c
  takes_first a b c v w j =
      let k = laws.commutative a b c j in
      let p = laws.some c a (laws.stays a b c j) v
      (laws.symmetric a c (laws.both a b c j).0) in
      fixed c a p.0 p.1 (laws.associative b a a c a p.0 c k p.1 (itself a v) k)

  takes_second : (a b c : X) → valid a → valid b → joined a b c → joined c b c
  takes_second a b c v w j =
      let p = laws.some c b (laws.stays a b c j) w
      (laws.symmetric b c (laws.both a b c j).1) in
      fixed c b p.0 p.1 (laws.associative a b b c b p.0 c j p.1 (itself b w) j)

  -- what takes two values in takes their join in
  takes_joined : (a b c e : X) → valid c → joined a b e → joined c a c → joined c b c → joined c e c
  takes_joined a b c e v j k l =
      let p = laws.some c e v (laws.stays a b e j)
      (laws.transitive c a e (laws.symmetric a c (laws.both c a c k).1) (laws.both a b e j).0) in
      fixed c e p.0 p.1 (sym (laws.associative c a b c e c p.0 k l j p.1))

  takes_through : (a b c : X) → valid a → valid c → joined c b c → joined b a b → joined c a c
  takes_through a b c v w j k =
      let p = laws.some c a w v
      (laws.symmetric a c (laws.transitive a b c (laws.both b a b k).1
      (laws.both c b c j).1)) in
      fixed c a p.0 p.1 (laws.associative c b a c b p.0 c j p.1 k j)

  pub fold_valid : (a : X) (xs : List X) (c : X) → valid a → FoldsTo joined a xs c → valid c
  fold_valid a [] c v f = subst valid (sym f) v
  fold_valid a (x ∷ xs) c v f = fold_valid f.0 xs c (laws.stays a x f.0 f.1) f.2

  fold_takes_start : (a : X) (xs : List X) (c : X) → valid a → ((x : X) → x ∈ xs → valid x)
      → FoldsTo joined a xs c → joined c a c
  fold_takes_start a [] c v w f = subst (λ (q : X). joined q a q) (sym f) (itself a v)
  fold_takes_start a (x ∷ xs) c v w f =
      let b = laws.stays a x f.0 f.1 in
      takes_through a f.0 c v (fold_valid f.0 xs c b f.2)
      (fold_takes_start f.0 xs c b (λ y h. w y (inr h)) f.2)
      (takes_first a x f.0 v (w x (inl refl)) f.1)

  fold_takes : (a : X) (xs : List X) (c : X) → valid a → ((x : X) → x ∈ xs → valid x)
      → FoldsTo joined a xs c → (x : X) → x ∈ xs → joined c x c
  fold_takes a [] c v w f x h = absurd h
  fold_takes a (y ∷ xs) c v w f x (inl e) =
      let b = laws.stays a y f.0 f.1 in
      subst (λ (q : X). joined c q c) e
      (takes_through y f.0 c (w y (inl refl)) (fold_valid f.0 xs c b f.2)
      (fold_takes_start f.0 xs c b (λ z k. w z (inr k)) f.2)
      (takes_second a y f.0 v (w y (inl refl)) f.1))
  fold_takes a (y ∷ xs) c v w f x (inr h) =
      fold_takes f.0 xs c (laws.stays a y f.0 f.1) (λ z k. w z (inr k)) f.2 x h

  taken_in : (a : X) (xs : List X) (c d : X) → valid c → joined c a c
      → ((x : X) → x ∈ xs → joined c x c) → FoldsTo joined a xs d → joined c d c
  taken_in a [] c d v j f g = subst (λ (q : X). joined c q c) (sym g) j
  taken_in a (x ∷ xs) c d v j f g =
      taken_in g.0 xs c d v (takes_joined a x c g.0 v g.1 j (f x (inl refl)))
      (λ y h. f y (inr h)) g.2

  -- items in another order or with repeats fold to the same
  pub fold_same : FoldsFreely valid joined
  fold_same a xs ys c d v w e f g =
      let u : (x : X) → x ∈ ys → valid x = λ x h. w x ((e x).1 h) in
      let j =
      taken_in a ys c d (fold_valid a xs c v f) (fold_takes_start a xs c v w f)
      (λ x h. fold_takes a xs c v w f x ((e x).1 h)) g in
      let k =
      taken_in a xs d c (fold_valid a ys d v g) (fold_takes_start a ys d v u g)
      (λ x h. fold_takes a ys d v u g x ((e x).0 h)) f in
      laws.only c d c d j (laws.commutative d c d k)

  -- a fold goes on by one item
  pub fold_more : (a : X) (xs : List X) (b x c : X) → FoldsTo joined a xs b → joined b x c
      → FoldsTo joined a (xs ++ x ∷ []) c
  fold_more a [] b x c f j = (c, subst (λ (q : X). joined q x c) f j, refl)
  fold_more a (y ∷ ys) b x c f j = (f.0, f.1, fold_more f.0 ys b x c f.2 j)
