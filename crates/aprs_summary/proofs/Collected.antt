-- Entries of a map that are collected from rows: one for each thing that some row reports on.
use Rattle.aprs_summary.proofs.Common.{by_order, ◌≡◌, ◌∙◌, List, [], ◌∷◌, ◌++◌, append_assoc, append-nil, ◌⊎◌, Some, None, Result, Ok, Err, OnOk, sym, ap, refl, subst, inl, inr, AllByRecursion, lookup, keys_of, is_at, insert_entry, IsTotalOrder, Ordering, Less, Equal, Greater, tied_itself, CmpEqualImpliesEq, sorted_head, sorted_tail, ◌∈◌, Ordered, in_left, in_right, in_either, Key, Row, row_key}
use Rattle.std.specs.List.Sorted.{IsStrictlySortedBy}
use Rattle.aprs_summary.specs.MessageRows.{IsCollected}

-- ---- entries in order

module _ {K M : Type 0} (shown : K → M) (C : M → M → Ordering) where
  abbrev pub cmp_of : K → K → Ordering
  cmp_of x y = C (shown x) (shown y)

  abbrev pub IsEntryBefore : {V : Type 0} → K × V → K × V → Type 0
  IsEntryBefore a b = C (shown a.0) (shown b.0) ≡ Less

  all_below : {V : Type 0} (k : K) (es : List (K × V))
      → AllByRecursion (λ (y : K). C (shown k) (shown y) ≡ Less) (keys_of es) → (b : K × V) → b ∈ es
      → C (shown k) (shown b.0) ≡ Less
  all_below k [] a b h = absurd h
  all_below {V} k (e ∷ es) a b (inl s) =
      subst (λ (t : K × V). C (shown k) (shown t.0) ≡ Less) s a.0
  all_below k (e ∷ es) a b (inr j) = all_below k es a.1 b j

  pub in_order : {V : Type 0} (es : List (K × V)) → IsStrictlySortedBy cmp_of (keys_of es)
      → Ordered IsEntryBefore es
  in_order [] s = tt
  in_order (e ∷ es) s = (
    λ b h. all_below e.0 es (sorted_head cmp_of e.0 (keys_of es) s) b h,
    in_order es (sorted_tail cmp_of e.0 (keys_of es) s),
  )

  not_less : (total : IsTotalOrder C) (a : M) → C a a ≡ Less → ⊥
  not_less total a l = let t : Less ≡ Equal = sym l ∙ tied_itself total a in absurd (cc)

  module _ {V : Type 0} (total : IsTotalOrder C) (exact : CmpEqualImpliesEq C) where
    -- entries in order that show the same are one
    pub one_entry : (es : List (K × V)) → Ordered IsEntryBefore es → (a b : K × V) → a ∈ es → b ∈ es
        → shown a.0 ≡ shown b.0 → a ≡ b
    one_entry [] o a b h k e = absurd h
    one_entry (x ∷ es) o a b (inl h) (inl k) e = sym h ∙ k
    one_entry (x ∷ es) o a b (inl h) (inr k) e =
        absurd
        (not_less total (shown b.0)
        (subst (λ (t : M). C t (shown b.0) ≡ Less) (ap (λ (t : K × V). shown t.0) h ∙ e) (o.0 b k)))
    one_entry (x ∷ es) o a b (inr h) (inl k) e =
        absurd
        (not_less total (shown a.0)
        (subst (λ (t : M). C t (shown a.0) ≡ Less) (ap (λ (t : K × V). shown t.0) k ∙ sym e)
        (o.0 a h)))
    one_entry (x ∷ es) o a b (inr h) (inr k) e = one_entry es o.1 a b h k e

    abbrev pub IsFound : K → V → List (K × V) → Type 0
    IsFound q v es = (e : K × V) × (e ∈ es) × (shown q ≡ shown e.0) × (e.1 ≡ v)

    -- the entry that a look-up finds
    pub found : (q : K) (v : V) (es : List (K × V)) → lookup (is_at (cmp_of q)) es ≡ Some v
        → IsFound q v es
    found q v [] h = absurd (cc)
    found q v (e ∷ es) h =
        by_order (C (shown q) (shown e.0))
        (λ o. let f = found q v es (rw o at h) in (f.0, inr f.1, f.2, f.3))
        (λ o. let s : Some e.1 ≡ Some v = rw o at h in
        (e, inl refl, exact (shown q) (shown e.0) o, cc))
        (λ o. let f = found q v es (rw o at h) in (f.0, inr f.1, f.2, f.3))

    pub absent : (q : K) (es : List (K × V)) → lookup (is_at (cmp_of q)) es ≡ None → (e : K × V)
        → e ∈ es → shown q ≡ shown e.0 → ⊥
    absent q [] h e m d = m
    absent q (f ∷ es) h e (inl s) d =
        let tie : C (shown q) (shown f.0) ≡ Equal =
        ap (C (shown q)) (ap (λ (t : K × V). shown t.0) s ∙ sym d) ∙ tied_itself total (shown q) in
        let g : Some f.1 ≡ None = rw tie at h in absurd (cc)
    absent q (f ∷ es) h e (inr j) d =
        by_order (C (shown q) (shown f.0))
        (λ o. absent q es (rw o at h) e j d)
        (λ o. absurd (let g : Some f.1 ≡ None = rw o at h in cc))
        (λ o. absent q es (rw o at h) e j d)

    -- ---- one entry put

    pub from_insert : (k : K) (v : V) (es : List (K × V)) (e : K × V)
        → e ∈ insert_entry cmp_of es k v → (shown e.0 ≡ shown k) ⊎ (e ∈ es)
    from_insert k v [] e (inl s) = inl (ap (λ (t : K × V). shown t.0) (sym s))
    from_insert k v [] e (inr j) = absurd j
    from_insert k v (f ∷ es) e h =
        by_order (C (shown k) (shown f.0))
        (λ o. let i = rw o at h in
        elim i [ inl s ↦ inl (ap (λ (t : K × V). shown t.0) (sym s)) | inr j ↦ inr j ])
        (λ o. let i = rw o at h in elim i [
          | inl s ↦
              inl (ap (λ (t : K × V). shown t.0) (sym s) ∙ sym (exact (shown k) (shown f.0) o))
          | inr j ↦ inr (inr j)
        ])
        (λ o. let i = rw o at h in elim i [
          | inl s ↦ inr (inl s)
          | inr j ↦ elim (from_insert k v es e j) [ inl s ↦ inl s | inr m ↦ inr (inr m) ]
        ])

    abbrev pub IsThere : K → V → List (K × V) → Type 0
    IsThere k v es = (e : K × V) × (e ∈ es) × (shown e.0 ≡ shown k) × (e.1 ≡ v)

    pub inserted_there : (k : K) (v : V) (es : List (K × V))
        → IsThere k v (insert_entry cmp_of es k v)
    inserted_there k v [] = ((k, v), inl refl, refl, refl)
    inserted_there k v (f ∷ es) =
        by_order (C (shown k) (shown f.0))
        (λ o. rw o ((k, v), inl refl, refl, refl))
        (λ o. rw o ((f.0, v), inl refl, sym (exact (shown k) (shown f.0) o), refl))
        (λ o. let t = inserted_there k v es in rw o (t.0, inr t.1, t.2, t.3))

    abbrev pub Stays : K × V → List (K × V) → Type 0
    Stays e es = (f : K × V) × (f ∈ es) × (shown f.0 ≡ shown e.0)

    pub stays_there : (k : K) (v : V) (es : List (K × V)) (e : K × V) → e ∈ es
        → Stays e (insert_entry cmp_of es k v)
    stays_there k v [] e h = absurd h
    stays_there k v (f ∷ es) e h =
        by_order (C (shown k) (shown f.0))
        (λ o. rw o (e, inr h, refl))
        (λ o. elim h [
          | inl s ↦ rw o ((f.0, v), inl refl, ap (λ (t : K × V). shown t.0) s)
          | inr j ↦ rw o (e, inr j, refl)
        ])
        (λ o. elim h [
          | inl s ↦ rw o (f, inl refl, ap (λ (t : K × V). shown t.0) s)
          | inr j ↦ let t = stays_there k v es e j in rw o (t.0, inr t.1, t.2)
        ])

-- ---- one row more

pub record Adds (rows : List Row) (x : Row) (more : List Row) : Type 0 where
  pub last : more ≡ rows ++ x ∷ []
  pub to : (y : Row) → y ∈ more → (y ∈ rows) ⊎ (x ≡ y)
  pub old : (y : Row) → y ∈ rows → y ∈ more
  pub new : x ∈ more

module _ {K V M : Type 0} (shown : K → M) (C : M → M → Ordering) (total : IsTotalOrder C)
    (exact : CmpEqualImpliesEq C) (P : M → Key → Type 0) (T : List Row → M → V → Type 0)
    (rows more : List Row) (x : Row) (adds : Adds rows x more)
    (other : (m : M) (v : V) → (P m (row_key x) → ⊥) → T rows m v → T more m v) (es : List (K × V))
    (c : IsCollected shown P T rows es) where
  -- a row that reports on nothing
  pub passed : ((m : M) → P m (row_key x) → ⊥) → IsCollected shown P T more es
  passed n = record {
    each = λ e h. other (shown e.0) e.1 (n (shown e.0)) (c.each e h);
    every = λ y h m p. elim (adds.to y h) [
      | inl j ↦ c.every y j m p
      | inr s ↦ absurd (n m (subst (λ (t : Row). P m (row_key t)) (sym s) p))
    ];
  }

  -- a row that reports on what k shows
  pub put : (k : K) (v : V) → IsStrictlySortedBy (cmp_of shown C)
      (keys_of (insert_entry (cmp_of shown C) es k v))
      → ((m : M) → P m (row_key x) → shown k ≡ m) → T more (shown k) v
      → IsCollected shown P T more (insert_entry (cmp_of shown C) es k v)
  put k v sorted only t = record {
    each = λ e h. reported e h (C (shown e.0) (shown k)) refl;
    every = λ y h m p. elim (adds.to y h) [
      | inl j ↦ let f = c.every y j m p in
          let g = stays_there shown C total exact k v es f.0 f.1 in
          (g.0, g.1, g.2 ∙ f.2)
      | inr s ↦ let g = inserted_there shown C total exact k v es in
          (g.0, g.1, g.2 ∙ only m (subst (λ (t : Row). P m (row_key t)) (sym s) p))
    ];
  } where
    apart : (e : K × V) → e ∈ insert_entry (cmp_of shown C) es k v → (shown e.0 ≡ shown k → ⊥)
        → T more (shown e.0) e.1
    apart e h n = elim (from_insert shown C total exact k v es e h) [
      | inl s ↦ absurd (n s)
      | inr j ↦ other (shown e.0) e.1 (λ p. n (sym (only (shown e.0) p))) (c.each e j)
    ]

    unequal : (a b : M) → a ≡ b → (C a b ≡ Equal → ⊥) → ⊥
    unequal a b s n = n (ap (C a) (sym s) ∙ tied_itself total a)

    reported : (e : K × V) → e ∈ insert_entry (cmp_of shown C) es k v → (o : Ordering)
        → C (shown e.0) (shown k) ≡ o → T more (shown e.0) e.1
    reported e h Less d = apart e h (λ s. unequal _ _ s
        (λ q. let t : Less ≡ Equal = sym d ∙ q in absurd (cc)))
    reported e h Greater d = apart e h (λ s. unequal _ _ s
        (λ q. let t : Greater ≡ Equal = sym d ∙ q in absurd (cc)))
    reported e h Equal d =
        let i = inserted_there shown C total exact k v es in
        let s = exact (shown e.0) (shown k) d in
        let one = one_entry shown C total exact (insert_entry (cmp_of shown C) es k v)
        (in_order shown C (insert_entry (cmp_of shown C) es k v) sorted) e i.0 h i.1
        (s ∙ sym i.2) in
        subst (λ (m : M). T more m e.1) (sym s)
        (subst (T more (shown k)) (sym (ap (λ (f : K × V). f.1) one ∙ i.3)) t)

  -- by an order of keys that is that of what they show
  pub put_by : (R : K → K → Ordering) → ((a b : K) → R a b ≡ cmp_of shown C a b) → (k : K) (v : V)
      (new : List (K × V)) → new ≡ insert_entry R es k v → IsStrictlySortedBy R (keys_of new)
      → ((m : M) → P m (row_key x) → shown k ≡ m) → T more (shown k) v
      → IsCollected shown P T more new
  put_by R same k v new n sorted only t =
      let p : cmp_of shown C ≡ R = λ j a b. sym (same a b) j in
      subst (IsCollected shown P T more) (sym n)
      (subst (λ (Q : K → K → Ordering). IsStrictlySortedBy Q (keys_of (insert_entry Q es k v))
      → IsCollected shown P T more (insert_entry Q es k v)) p (λ s. put k v s only t)
      (subst (λ (u : List (K × V)). IsStrictlySortedBy R (keys_of u)) n sorted))

-- a look-up by such an order
pub same_lookup : {K V M : Type 0} (shown : K → M) (C : M → M → Ordering) (R : K → K → Ordering)
    → ((a b : K) → R a b ≡ cmp_of shown C a b) → (k : K) (es : List (K × V))
    → lookup (is_at (R k)) es ≡ lookup (is_at (cmp_of shown C k)) es
same_lookup {K} shown C R same k es =
    let p : R ≡ cmp_of shown C = λ j a b. same a b j in
    ap (λ (Q : K → K → Ordering). lookup (is_at (Q k)) es) p

-- of no rows nothing is reported
pub collected_first : {K V M : Type 0} (shown : K → M) (P : M → Key → Type 0)
    (T : List Row → M → V → Type 0) (es : List (K × V)) → es ≡ [] → IsCollected shown P T [] es
collected_first {K} {V} shown P T es e =
    record {
      each = λ x h. absurd (subst (λ (t : List (K × V)). x ∈ t) e h);
      every =
          λ x h. absurd h;
    }

-- ---- a walk over all rows, of which P holds as far as it has come

pub record SoFar (P : List Row → Type 0) (all rest : List Row) : Type 0 where
  pub done : List Row
  pub split : all ≡ done ++ rest
  pub holds : P done

pub adds_last : (rows : List Row) (x : Row) → Adds rows x (rows ++ x ∷ [])
adds_last rows x = record {
  last = refl;
  to = λ y h. elim (in_either y rows (x ∷ []) h) [
    | inl i ↦ inl i
    | inr j ↦ elim j [ inl s ↦ inr s | inr k ↦ absurd k ]
  ];
  old = λ y h. in_left y rows (x ∷ []) h;
  new = in_right x rows (x ∷ []) (inl refl);
}

-- what holds where it went well
pub on_ok : {A E : Type 0} {P Q : Type 0} (r : Result A E) → (P → Q) → OnOk r P → OnOk r Q
on_ok (Ok v) f h = f h
on_ok (Err e) f h = tt

-- what holds of rows and one more
pub last_added : (P : List Row → Type 0) {rows : List Row} {x : Row} {more : List Row}
    → Adds rows x more → P (rows ++ x ∷ []) → P more
last_added P adds h = subst P (sym adds.last) h

module _ (P : List Row → Type 0) (all : List Row) where
  pub walk_starts : (rest : List Row) → rest ≡ all → P [] → SoFar P all rest
  walk_starts rest e p = record { done = []; split = sym e; holds = p }

  pub walk_goes : (Q : List Row → Type 0) (old new : List Row) (x : Row) → old ≡ x ∷ new
      → ((done more : List Row) → Adds done x more → P done → Q more) → SoFar P all old
      → SoFar Q all new
  walk_goes Q old new x e step s = record {
    done = s.done ++ x ∷ [];
    split = s.split ∙ ap (λ t. s.done ++ t) e ∙ sym (append_assoc s.done (x ∷ []) new);
    holds = step s.done (s.done ++ x ∷ []) (adds_last s.done x) s.holds;
  }

  pub walk_ends : (rest : List Row) → rest ≡ [] → SoFar P all rest → P all
  walk_ends rest e s =
      subst P (sym (s.split ∙ ap (λ t. s.done ++ t) e ∙ append-nil s.done)) s.holds
