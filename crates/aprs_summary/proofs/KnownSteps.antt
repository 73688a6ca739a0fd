-- How the entries of an index change.
use Rattle.aprs_summary.proofs.Common.{subst, inl, inr, ◌≡◌, ◌∙◌, ℕ, Bool, true, false, cond, List, [], ◌∷◌, Option, None, Some, refl, sym, ap, is_some, IsSome, option_map, is_eq, ordering_reverse, Ordering, Less, Equal, Greater, tied_itself, lookup, set_value, keys_of, AllByRecursion, sorted_head, sorted_tail, is_at, insert_entry, Received, bytes_cmp, LastKnown, greater_known, Passes, Key, ◌∈◌, Ordered, Row, row_key, in_map, bytes_total, bytes_exact, IsTrue, map, by_order}
use Rattle.std.specs.List.Sorted.{IsStrictlySortedBy}
use Rattle.aprs_summary.specs.Known.{Entries, entry_at, plain_entries, HasEntry, IsIndexOf, entry_known, known_at, is_report_on, IsEntryBefore, greatest_of}

-- ---- whether two lists of bytes are one

pub same_of : (a b : List ℕ) → is_eq (bytes_cmp a b) ≡ true → a ≡ b
same_of a b e =
    by_order (bytes_cmp a b)
    (λ o. absurd (let f : false ≡ true = sym (ap is_eq o) ∙ e in cc))
    (λ o. bytes_exact a b o)
    (λ o. absurd (let f : false ≡ true = sym (ap is_eq o) ∙ e in cc))

pub same_as_itself : (a : List ℕ) → is_eq (bytes_cmp a a) ≡ true
same_as_itself a = ap is_eq (tied_itself bytes_total a)

either_way : (o : Ordering) → is_eq (ordering_reverse o) ≡ is_eq o
either_way Less = refl
either_way Equal = refl
either_way Greater = refl

pub same_turned : (a b : List ℕ) → is_eq (bytes_cmp b a) ≡ is_eq (bytes_cmp a b)
same_turned a b = ap is_eq (bytes_total.antisymm b a) ∙ either_way (bytes_cmp a b)

-- cases on a test, with the equation
pub by_test : {G : Type 0} (b : Bool) → (b ≡ true → G) → (b ≡ false → G) → G
by_test true x y = x refl
by_test false x y = y refl

-- ---- what is looked up after a change

module _ {K : Type 0} (bytes : K → List ℕ) where
  abbrev pub at : List ℕ → K → Bool
  at k = is_at (λ q. bytes_cmp k (bytes q))

  abbrev pub got : {V : Type 0} → List ℕ → List (K × V) → Option V
  got k es = lookup (at k) es

  pub got_set : {V : Type 0} (k q : List ℕ) (es : List (K × V)) (old new : V) → Some old ≡ got k es
      → got q (set_value (at k) es new) ≡ cond (is_eq (bytes_cmp k q)) (Some new) (got q es)
  got_set k q [] old new found = absurd (cc)
  got_set k q (e ∷ es) old new found =
      by_test (is_eq (bytes_cmp k (bytes e.0)))
      (λ t.
      let same = same_of k (bytes e.0) t in
      by_test (is_eq (bytes_cmp q (bytes e.0)))
      (λ u. rw (t, u, same_turned q k ∙ ap (λ b. is_eq (bytes_cmp q b)) same ∙ u) refl)
      (λ u. rw (t, u, same_turned q k ∙ ap (λ b. is_eq (bytes_cmp q b)) same ∙ u) refl))
      (λ t.
      let rest = got_set k q es old new (rw t at found) in
      by_test (is_eq (bytes_cmp q (bytes e.0)))
      (λ u.
      let other : is_eq (bytes_cmp k q) ≡ false =
      ap (λ b. is_eq (bytes_cmp k b)) (same_of q (bytes e.0) u) ∙ t in
      rw (t, u, other) refl)
      (λ u. rw (t, u) rest))

  pub got_insert : {V : Type 0} (key : K) (q : List ℕ) (es : List (K × V)) (new : V)
      → got q (insert_entry (λ a b. bytes_cmp (bytes a) (bytes b)) es key new)
      ≡ cond (is_eq (bytes_cmp (bytes key) q)) (Some new) (got q es)
  got_insert key q [] new = rw (same_turned (bytes key) q) refl
  got_insert key q (e ∷ es) new =
      by_order (bytes_cmp (bytes key) (bytes e.0))
      (λ o. rw (o, same_turned (bytes key) q) refl)
      (λ o.
      let same = bytes_exact (bytes key) (bytes e.0) o in
      by_test (is_eq (bytes_cmp q (bytes e.0)))
      (λ u. rw (o, u, same_turned q (bytes key) ∙ ap (λ b. is_eq (bytes_cmp q b)) same ∙ u) refl)
      (λ u. rw (o, u, same_turned q (bytes key) ∙ ap (λ b. is_eq (bytes_cmp q b)) same ∙ u) refl))
      (λ o.
      by_test (is_eq (bytes_cmp q (bytes e.0)))
      (λ u.
      let other : is_eq (bytes_cmp (bytes key) q) ≡ false =
      ap (λ b. is_eq (bytes_cmp (bytes key) b)) (same_of q (bytes e.0) u) ∙ ap is_eq o in
      rw (o, u, other) refl)
      (λ u. rw (o, u) (got_insert key q es new)))

  -- the same of the plain entries
  pub plain_got : {X : Type 0} (received : X → Received) (k : List ℕ) (es : List (K × Option X))
      → option_map (option_map received) (got k es) ≡ entry_at k (plain_entries bytes received es)
  plain_got received k [] = refl
  plain_got received k (e ∷ es) =
      by_test (is_eq (bytes_cmp k (bytes e.0)))
      (λ t. rw t refl)
      (λ t. rw t (plain_got received k es))

-- ---- entries

pub no_entry : {X : Type 0} (o : Option X) → false ≡ is_some o → IsSome o → false ≡ true
no_entry None e h = absurd (cc)
no_entry (Some x) e h = e

pub not_none : {X : Type 0} (o : Option X) → o ≡ None → IsSome o → false ≡ true
not_none o e h = no_entry o (ap is_some (sym e)) h

pub none_of : {X : Type 0} (o : Option X) → false ≡ is_some o → o ≡ None
none_of None e = refl
none_of (Some x) e = absurd (cc)

pub placed : (k q : List ℕ) (es es' : Entries) → entry_at k es ≡ None
    → entry_at q es' ≡ cond (is_eq (bytes_cmp k q)) (Some None) (entry_at q es)
    → known_at q es' ≡ known_at q es
placed k q es es' none e =
    by_test (is_eq (bytes_cmp k q))
    (λ t.
    ap entry_known (e ∙ ap (λ b. cond b (Some None) (entry_at q es)) t)
    ∙ sym (ap entry_known (ap (λ b. entry_at b es) (sym (same_of k q t)) ∙ none)))
    (λ t. ap entry_known (e ∙ ap (λ b. cond b (Some None) (entry_at q es)) t))

pub placed_there : (k : List ℕ) (es es' : Entries) (o : Option Received)
    → entry_at k es' ≡ cond (is_eq (bytes_cmp k k)) (Some o) (entry_at k es) → HasEntry k es'
placed_there k es es' o e =
    ap is_some (e ∙ ap (λ b. cond b (Some o) (entry_at k es)) (same_as_itself k))

pub unwrapped : {X : Type 0} (a b : X) → Some a ≡ Some b → a ≡ b
unwrapped a b h = cc

-- what was put is known
pub known_put : (k q : List ℕ) (es es' : Entries) (v : Received)
    → entry_at q es' ≡ cond (is_eq (bytes_cmp k q)) (Some (Some v)) (entry_at q es)
    → known_at q es' ≡ cond (is_eq (bytes_cmp k q)) (Some v) (known_at q es)
known_put k q es es' v e =
    by_test (is_eq (bytes_cmp k q))
    (λ t.
    ap entry_known (e ∙ ap (λ b. cond b (Some (Some v)) (entry_at q es)) t)
    ∙ ap (λ b. cond b (Some v) (known_at q es)) (sym t))
    (λ t.
    ap entry_known (e ∙ ap (λ b. cond b (Some (Some v)) (entry_at q es)) t)
    ∙ ap (λ b. cond b (Some v) (known_at q es)) (sym t))

-- the greater of what was known and x is what was put
pub greater_put : (k q : List ℕ) (es es' : Entries) (v x : Received)
    → known_at q es' ≡ cond (is_eq (bytes_cmp k q)) (Some v) (known_at q es)
    → v ≡ greater_known (known_at k es) x
    → known_at q es' ≡ cond (is_eq (bytes_cmp k q)) (Some (greater_known (known_at q es) x))
    (known_at q es)
greater_put k q es es' v x e made =
    by_test (is_eq (bytes_cmp k q))
    (λ t.
    e
    ∙ ap (λ w. cond (is_eq (bytes_cmp k q)) (Some w) (known_at q es))
    (made ∙ ap (λ b. greater_known (known_at b es) x) (same_of k q t)))
    (λ t.
    e ∙ ap (λ b. cond b (Some v) (known_at q es)) t
    ∙ ap (λ b. cond b (Some (greater_known (known_at q es) x)) (known_at q es)) (sym t))

-- what is put twice is what was put last
pub put_twice : (k q : List ℕ) (es es' es'' : Entries) (v w : Received)
    → known_at q es' ≡ cond (is_eq (bytes_cmp k q)) (Some v) (known_at q es)
    → known_at q es'' ≡ cond (is_eq (bytes_cmp k q)) (Some w) (known_at q es')
    → known_at q es'' ≡ cond (is_eq (bytes_cmp k q)) (Some w) (known_at q es)
put_twice k q es es' es'' v w e f =
    by_test (is_eq (bytes_cmp k q))
    (λ t.
    f ∙ ap (λ b. cond b (Some w) (known_at q es')) t
    ∙ ap (λ b. cond b (Some w) (known_at q es)) (sym t))
    (λ t.
    f ∙ ap (λ b. cond b (Some w) (known_at q es')) t
    ∙ e ∙ ap (λ b. cond b (Some v) (known_at q es)) t
    ∙ ap (λ b. cond b (Some w) (known_at q es)) (sym t))

pub noted : (k q : List ℕ) (es es' : Entries) (known new : Option Received) (x : Received)
    → Some known ≡ entry_at k es → entry_at q es' ≡ cond (is_eq (bytes_cmp k q)) (Some new)
    (entry_at q es)
    → new ≡ Some (greater_known known x)
    → known_at q es' ≡ cond (is_eq (bytes_cmp k q)) (Some (greater_known (known_at q es) x))
    (known_at q es)
noted k q es es' known new x some e made =
    by_test (is_eq (bytes_cmp k q))
    (λ t.
    ap entry_known (e ∙ ap (λ b. cond b (Some new) (entry_at q es)) t)
    ∙ made
    ∙ ap (λ o. Some (greater_known (entry_known o) x))
    (some ∙ ap (λ b. entry_at b es) (same_of k q t))
    ∙ ap (λ b. cond b (Some (greater_known (known_at q es) x)) (known_at q es)) (sym t))
    (λ t.
    ap entry_known (e ∙ ap (λ b. cond b (Some new) (entry_at q es)) t)
    ∙ ap (λ b. cond b (Some (greater_known (known_at q es) x)) (known_at q es)) (sym t))

-- ---- the same of a map's entries

some_alike : {X Y : Type 0} (f : X → Y) (o : Option X) → is_some (option_map f o) ≡ is_some o
some_alike f None = refl
some_alike f (Some x) = refl

known_alike : {X : Type 0} (received : X → Received) (o : Option (Option X))
    → entry_known (option_map (option_map received) o) ≡ option_map received (entry_known o)
known_alike received None = refl
known_alike received (Some known) = refl

cond_alike : {X Y : Type 0} (f : X → Y) (b : Bool) (x : X) (o : Option X)
    → option_map f (cond b (Some x) o) ≡ cond b (Some (f x)) (option_map f o)
cond_alike f true x o = refl
cond_alike f false x o = refl

module _ {K X : Type 0} (bytes : K → List ℕ) (received : X → Received) (k : List ℕ)
    (es : List (K × Option X)) (now : Entries)
    (view : plain_entries bytes received es ≡ now) where
  pub entry_of : option_map (option_map received) (got bytes k es) ≡ entry_at k now
  entry_of = plain_got bytes received k es ∙ ap (entry_at k) view

  some_of : is_some (got bytes k es) ≡ is_some (entry_at k now)
  some_of = sym (some_alike (option_map received) (got bytes k es)) ∙ ap is_some entry_of

  pub is_there : true ≡ is_some (got bytes k es) → HasEntry k now
  is_there e = sym some_of ∙ sym e

  pub not_there : false ≡ is_some (got bytes k es) → HasEntry k now → false ≡ true
  not_there e h = no_entry (got bytes k es) e (some_of ∙ h)

  pub is_none_there : None ≡ got bytes k es → HasEntry k now → false ≡ true
  is_none_there e h = not_none (got bytes k es) (sym e) (some_of ∙ h)

  pub known_got : (o : Option (Option X)) → o ≡ got bytes k es
      → option_map received (entry_known o) ≡ known_at k now
  known_got o e = sym (known_alike received o)
      ∙ ap entry_known (ap (option_map (option_map received)) e ∙ entry_of)

  inserted_at : (es' : List (K × Option X)) (key : K) (new : Option X) → bytes key ≡ k
      → es' ≡ insert_entry (λ a b. bytes_cmp (bytes a) (bytes b)) es key new → (q : List ℕ)
      → entry_at q (plain_entries bytes received es')
      ≡ cond (is_eq (bytes_cmp k q)) (Some (option_map received new)) (entry_at q now)
  inserted_at es' key new own put q =
      sym (plain_got bytes received q es')
      ∙ ap (λ l. option_map (option_map received) (got bytes q l)) put
      ∙ ap (option_map (option_map received)) (got_insert bytes key q es new)
      ∙ ap (λ b. option_map (option_map received)
      (cond (is_eq (bytes_cmp b q)) (Some new) (got bytes q es))) own
      ∙ cond_alike (option_map received) (is_eq (bytes_cmp k q)) new (got bytes q es)
      ∙ ap (λ o. cond (is_eq (bytes_cmp k q)) (Some (option_map received new)) o)
      (plain_got bytes received q es ∙ ap (entry_at q) view)

  module _ (es' : List (K × Option X)) (key : K) (own : bytes key ≡ k)
      (put : es' ≡ insert_entry (λ a b. bytes_cmp (bytes a) (bytes b)) es key None) where
    pub placed_same : false ≡ is_some (got bytes k es) → (q : List ℕ)
        → known_at q (plain_entries bytes received es') ≡ known_at q now
    placed_same e q =
        placed k q now (plain_entries bytes received es')
        (none_of (entry_at k now) (e ∙ some_of)) (inserted_at es' key None own put q)

    pub placed_made : HasEntry k (plain_entries bytes received es')
    placed_made =
        placed_there k now (plain_entries bytes received es') None
        (inserted_at es' key None own put k)

  module _ (es' : List (K × Option X)) (key : K) (own : bytes key ≡ k) (new : X)
      (put : es' ≡ insert_entry (λ a b. bytes_cmp (bytes a) (bytes b)) es key (Some new)) where
    pub put_there : HasEntry k (plain_entries bytes received es')
    put_there =
        placed_there k now (plain_entries bytes received es') (Some (received new))
        (inserted_at es' key (Some new) own put k)

    pub put_known : (x : Received) → received new ≡ x → (q : List ℕ)
        → known_at q (plain_entries bytes received es')
        ≡ cond (is_eq (bytes_cmp k q)) (Some x) (known_at q now)
    put_known x made q =
        known_put k q now (plain_entries bytes received es') x
        (inserted_at es' key (Some new) own put q
        ∙ ap (λ v. cond (is_eq (bytes_cmp k q)) (Some (Some v)) (entry_at q now)) made)

  -- of what an entry had and x the greater is what is known there now
  pub taken_at : (key : K) → bytes key ≡ k → (old : Option (Option X)) → old ≡ got bytes (bytes key) es
      → (v x : Received) → v ≡ greater_known (option_map received (entry_known old)) x
      → (es'' : Entries)
      → ((q : List ℕ) → known_at q es'' ≡ cond (is_eq (bytes_cmp k q)) (Some v) (known_at q now))
      → (q : List ℕ) → known_at q es'' ≡ cond (is_eq (bytes_cmp k q))
      (Some (greater_known (known_at q now) x)) (known_at q now)
  taken_at key own old had v x made es'' known q =
      greater_put k q now es'' v x (known q)
      (made
      ∙ ap (λ o. greater_known o x) (known_got old (had ∙ ap (λ b. got bytes b es) own)))

  pub set_at : (es' : List (K × Option X)) (old : Option X) (new : X) (q : List ℕ)
      → Some old ≡ got bytes k es → es' ≡ set_value (at bytes k) es (Some new)
      → known_at q (plain_entries bytes received es')
      ≡ cond (is_eq (bytes_cmp k q)) (Some (received new)) (known_at q now)
  set_at es' old new q found put =
      known_put k q now (plain_entries bytes received es') (received new)
      (sym (plain_got bytes received q es')
      ∙ ap (λ l. option_map (option_map received) (got bytes q l)) put
      ∙ ap (option_map (option_map received)) (got_set bytes k q es old (Some new) found)
      ∙ cond_alike (option_map received) (is_eq (bytes_cmp k q)) (Some new) (got bytes q es)
      ∙ ap (λ o. cond (is_eq (bytes_cmp k q)) (Some (Some (received new))) o)
      (plain_got bytes received q es ∙ ap (entry_at q) view))

  pub noted_at : (es' : List (K × Option X)) (known new : Option X) (x : Received) (q : List ℕ)
      → Some known ≡ got bytes k es → es' ≡ set_value (at bytes k) es new
      → option_map received new ≡ Some (greater_known (option_map received known) x)
      → known_at q (plain_entries bytes received es') ≡ cond (is_eq (bytes_cmp k q))
      (Some (greater_known (known_at q now) x)) (known_at q now)
  noted_at es' known new x q found put made =
      noted k q now (plain_entries bytes received es') (option_map received known)
      (option_map received new) x (ap (option_map (option_map received)) found ∙ entry_of)
      (sym (plain_got bytes received q es')
      ∙ ap (λ l. option_map (option_map received) (got bytes q l)) put
      ∙ ap (option_map (option_map received)) (got_set bytes k q es known new found)
      ∙ cond_alike (option_map received) (is_eq (bytes_cmp k q)) new (got bytes q es)
      ∙ ap (λ o. cond (is_eq (bytes_cmp k q)) (Some (option_map received new)) o)
      (plain_got bytes received q es ∙ ap (entry_at q) view)) made

-- ---- entries in order

module _ {K X : Type 0} (bytes : K → List ℕ) (received : X → Received) where
  abbrev pub Ascend : List (K × Option X) → Type 0
  Ascend es = IsStrictlySortedBy (λ a b. bytes_cmp (bytes a) (bytes b)) (keys_of es)

  later_ascend : (e : K × Option X) (rest : List (K × Option X)) → Ascend (e ∷ rest)
      → Ascend rest
  later_ascend e rest s = sorted_tail (λ a b. bytes_cmp (bytes a) (bytes b)) e.0 (keys_of rest) s

  below_all : (k : List ℕ) (es : List (K × Option X))
      → AllByRecursion (λ q. bytes_cmp k (bytes q) ≡ Less) (keys_of es)
      → (e : List ℕ × Option Received) → e ∈ plain_entries bytes received es → bytes_cmp k e.0 ≡ Less
  below_all k [] h e m = absurd m
  below_all k (f ∷ es) h e (inl s) =
      subst (λ (t : List ℕ × Option Received). bytes_cmp k t.0 ≡ Less) s h.0
  below_all k (f ∷ es) h e (inr j) = below_all k es h.1 e j

  -- the entries in order
  pub plain_ascend : (es : List (K × Option X)) → Ascend es
      → Ordered IsEntryBefore (plain_entries bytes received es)
  plain_ascend [] s = tt
  plain_ascend (e ∷ es) s = (
    λ f m. below_all (bytes e.0) es
        (sorted_head (λ a b. bytes_cmp (bytes a) (bytes b)) e.0 (keys_of es) s) f m,
    plain_ascend es (later_ascend e es s),
  )

-- where a row reports on it there is an entry: a reception that is near to that row needs no place
pub entry_there : (reported : Key → Option (List ℕ)) (rows : List Row) (es : Entries) (k : List ℕ)
    (r : Row)
    → IsIndexOf reported rows es → r ∈ rows → IsTrue (is_report_on reported k (row_key r))
    → HasEntry k es
entry_there reported rows es k r index m p = case (entry_at k es) refl where
  case : (o : Option (Option Received)) → entry_at k es ≡ o → HasEntry k es
  case None e =
      absurd (subst (λ (o : Option Received). LastKnown (map greatest_of rows)
      (Passes (is_report_on reported k)) o)
      (ap entry_known e) (index k) r.greatest (in_map greatest_of r rows m) p)
  case (Some known) e = ap is_some e
