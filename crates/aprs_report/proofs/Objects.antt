-- An object or item that is read is spelled so, and what is spelled so is read.
use Rattle.aprs_report.proofs.Common.{◌≡◌, ℕ, zero, suc, ◌<◌, ◌≤◌, Bool, true, false, not, List, [], ◌∷◌, ◌++◌, length, take, get_or, Some, refl, sym, ap, subst, ◌∙◌, arith, eqb, leb, list_all, position, position_or_len, and_parts, and_from, not_from_false, not-true, eqb-true, eq-eqb, leb-true, le-leb, lt-ltb, none-some, take_at, drop_at, take-append-drop, length-append, length-take-le}
use Rattle.std.proofs.lemmas.List.Quantifiers.{position-Some}
use Rattle.aprs_report.specs.declared.stamp.Stamp.{Stamp}
use Rattle.aprs_report.specs.declared.symbol.Symbol.{Symbol}
use Rattle.aprs_report.specs.declared.place.Place.{Place}
use Rattle.aprs_report.specs.Stamp.{stamp_bytes}
use Rattle.aprs_report.specs.Object.{state_mark, IsObject, is_item_mark, IsItem}
use Rattle.aprs_report.specs.Reading.{Value, object, item, HasForm}
use Rattle.aprs_report.specs.Reader.{state_of, object_of, item_field_of, item_of}
use Rattle.aprs_report.proofs.Steps.{after_some, guarded_some, some_is, if_either, chunk_found}
use Rattle.aprs_report.proofs.Steps.{chunk_takes}
use Rattle.aprs_report.proofs.Names.{name_found, name_takes}
use Rattle.aprs_report.proofs.Stamps.{stamp_found, stamp_takes}
use Rattle.aprs_report.proofs.Places.{place_found, place_takes}

state_found : (live : ℕ) (bytes : List ℕ) (x : Bool × List ℕ) → state_of live bytes ≡ Some x →
    bytes ≡ state_mark live x.0 ∷ x.1
state_found live [] x e = absurd (none-some x e)
state_found live (b ∷ rest) x e =
    let at : Bool × List ℕ → List ℕ = λ (x : Bool × List ℕ). state_mark live x.0 ∷ x.1 in
    if_either (eqb b live) (Some (true, rest)) _ (Some x) _ e
    (λ t h. ap (λ (n : ℕ). n ∷ rest) (eqb-true b live t) ∙ ap at (some_is (true, rest) x h))
    (λ _ h. let g = guarded_some _ _ _ h in
    ap (λ (n : ℕ). n ∷ rest) (eqb-true b 95 g.0) ∙ ap at g.1)

state_takes : (live : ℕ) (state : Bool) (rest : List ℕ) → eqb 95 live ≡ false →
    state_of live (state_mark live state ∷ rest) ≡ Some (state, rest)
state_takes live true rest h = rw (eq-eqb live live refl) refl
state_takes live false rest h = rw h refl

-- ---- objects

object_parts : (b : ℕ) (bytes field c1 c2 stamp c3 text comment : List ℕ) → bytes ≡ field ++ c1 →
    c1 ≡ b ∷ c2 → c2 ≡ stamp ++ c3 → c3 ≡ text ++ comment
    → bytes ≡ field ++ (b ∷ (stamp ++ (text ++ comment)))
object_parts b bytes field c1 c2 stamp c3 text comment e1 e2 e3 e4 = rw (e1, e2, e3, e4) refl

pub object_found : (bytes : List ℕ) (v : Value) → object_of bytes ≡ Some v → HasForm v (59 ∷ bytes)
unfolding object_of
object_found bytes v e =
    after_some _ _ _ _ e (λ field e1 r1. after_some _ _ _ _ r1
    (λ name e2 r2. after_some _ _ _ _ r2 (λ st e3 r3.
    after_some _ _ _ _ r3 (λ s e4 r4. after_some _ _ _ _ r4 (λ p e5 r5.
    let start = chunk_found 9 bytes field e1 in
    let stamped = stamp_found st.1 s e4 in
    let at = place_found s.1 p e5 in
    let marked = state_found 42 field.1 st e3 in
    subst (λ (v : Value). HasForm v (59 ∷ bytes)) (some_is (object name st.0 s.0 p.0 p.1 p.2) v r5)
    (record {
      field = field.0;
      place_text = at.text;
      nine = start.len;
      named = name_found field.0 name e2;
      stamped = stamped.stamp;
      at_place = at.at_place;
      whole =
          ap (λ (t : List ℕ). 59 ∷ t) (object_parts (state_mark 42 st.0) bytes field.0 field.1 st.1
          (stamp_bytes s.0) s.1 at.text p.2 start.parts marked stamped.whole at.whole);
    }))))))

pub object_takes : (name : List ℕ) (live : Bool) (stamp : Stamp) (place : Place) (symbol : Symbol)
    (comment info : List ℕ) (h : IsObject name live stamp place symbol comment info)
    → object_of (h.field ++ (state_mark 42 live ∷ (stamp_bytes stamp ++ (h.place_text ++ comment))))
    ≡ Some (object name live stamp place symbol comment)
unfolding object_of
object_takes name live stamp place symbol comment info h =
    rw (
      chunk_takes 9 h.field (state_mark 42 live ∷ (stamp_bytes stamp ++ (h.place_text ++ comment)))
          h.nine,
      name_takes h.field name h.named,
      state_takes 42 live (stamp_bytes stamp ++ (h.place_text ++ comment)) refl,
      stamp_takes stamp (h.place_text ++ comment) h.stamped,
      place_takes place symbol h.place_text comment h.at_place,
    ) refl

-- ---- items

-- none of the first bytes passes
none_before : (p : ℕ → Bool) (bytes : List ℕ) (i : ℕ) → i ≤ length bytes →
    ((k : ℕ) → k < i → p (get_or bytes k 0) ≡ false) →
    list_all (λ b. not (p b)) (take i bytes) ≡ true
none_before p bytes zero le h = refl
none_before p [] (suc i) le h = refl
none_before p (b ∷ bytes) (suc i) le h =
    and_from _ _ (not_from_false (p b) (h 0 (omega arith)))
    (none_before p bytes i (omega arith) (λ k lt. h (suc k) (omega arith)))

-- the first that passes stands after bytes none of which does
first_after : (p : ℕ → Bool) (field : List ℕ) (b : ℕ) (rest : List ℕ) →
    list_all (λ b. not (p b)) field ≡ true → p b ≡ true →
    position_or_len p (field ++ b ∷ rest) ≡ length field
first_after p [] b rest h t = rw t refl
first_after p (x ∷ field) b rest h t =
    let d = and_parts (not (p x)) _ h in
    rw (not-true (p x) d.0, first_after p field b rest d.1 t) (omega arith)

place_after : (p : ℕ → Bool) (field : List ℕ) (b : ℕ) (rest : List ℕ) →
    list_all (λ b. not (p b)) field ≡ true → p b ≡ true →
    position p (field ++ b ∷ rest) ≡ Some (length field)
place_after p field b rest h t =
    rw (
      first_after p field b rest h t,
      lt-ltb (length field) (length (field ++ b ∷ rest))
          (omega (arith, length-append field (b ∷ rest))),
    ) refl

-- a name before a mark
record ItemField (bytes field rest : List ℕ) : Type 0 where
  pub at_least : 3 ≤ length field
  pub at_most : length field ≤ 9
  pub unmarked : list_all (λ b. not (is_item_mark b)) field ≡ true
  pub whole : bytes ≡ field ++ rest

field_found : (bytes : List ℕ) (x : List ℕ × List ℕ) → item_field_of bytes ≡ Some x →
    ItemField bytes x.0 x.1
unfolding item_field_of
field_found bytes x e = after_some _ _ _ _ e (λ end e1 r1.
    let g = guarded_some _ _ _ r1 in
    let d = and_parts (leb 3 end) (leb end 9) g.0 in
    let at = position-Some is_item_mark bytes end 0 e1 in
    let len : length (take end bytes) ≡ end = length-take-le end bytes (omega (arith, at.0)) in
    subst (λ (x : List ℕ × List ℕ). ItemField bytes x.0 x.1) g.1 (record {
      at_least = omega (arith, len, leb-true _ _ d.0);
      at_most = omega (arith, len, leb-true _ _ d.1);
      unmarked = none_before is_item_mark bytes end (omega (arith, at.0)) at.2;
      whole = sym (take-append-drop end bytes);
    }))

is_mark_of : (live : Bool) → is_item_mark (state_mark 33 live) ≡ true
is_mark_of true = refl
is_mark_of false = refl

field_takes : (field : List ℕ) (live : Bool) (rest : List ℕ) → 3 ≤ length field →
    length field ≤ 9 → list_all (λ b. not (is_item_mark b)) field ≡ true
    → item_field_of (field ++ state_mark 33 live ∷ rest) ≡ Some (field, state_mark 33 live ∷ rest)
unfolding item_field_of
field_takes field live rest low high h =
    rw (
      place_after is_item_mark field (state_mark 33 live) rest h (is_mark_of live),
      le-leb _ _ low,
      le-leb _ _ high,
      take_at field (state_mark 33 live ∷ rest) (length field) refl,
      drop_at field (state_mark 33 live ∷ rest) (length field) refl,
    ) refl

item_parts : (b : ℕ) (bytes field c1 c2 text comment : List ℕ) → bytes ≡ field ++ c1 →
    c1 ≡ b ∷ c2 → c2 ≡ text ++ comment → bytes ≡ field ++ (b ∷ (text ++ comment))
item_parts b bytes field c1 c2 text comment e1 e2 e3 = rw (e1, e2, e3) refl

pub item_found : (bytes : List ℕ) (v : Value) → item_of bytes ≡ Some v → HasForm v (41 ∷ bytes)
unfolding item_of
item_found bytes v e =
    after_some _ _ _ _ e (λ field e1 r1. after_some _ _ _ _ r1
    (λ name e2 r2. after_some _ _ _ _ r2 (λ st e3 r3. after_some _ _ _ _ r3 (λ p e4 r4.
    let start = field_found bytes field e1 in
    let at = place_found st.1 p e4 in
    let marked = state_found 33 field.1 st e3 in
    subst (λ (v : Value). HasForm v (41 ∷ bytes)) (some_is (item name st.0 p.0 p.1 p.2) v r4)
    (record {
      field = field.0;
      place_text = at.text;
      at_least = start.at_least;
      at_most = start.at_most;
      unmarked = start.unmarked;
      named = name_found field.0 name e2;
      at_place = at.at_place;
      whole =
          ap (λ (t : List ℕ). 41 ∷ t) (item_parts (state_mark 33 st.0) bytes field.0 field.1 st.1
          at.text p.2 start.whole marked at.whole);
    })))))

pub item_takes : (name : List ℕ) (live : Bool) (place : Place) (symbol : Symbol)
    (comment info : List ℕ) (h : IsItem name live place symbol comment info)
    → item_of (h.field ++ (state_mark 33 live ∷ (h.place_text ++ comment))) ≡
    Some (item name live place symbol comment)
unfolding item_of
item_takes name live place symbol comment info h =
    rw (
      field_takes h.field live (h.place_text ++ comment) h.at_least h.at_most h.unmarked,
      name_takes h.field name h.named,
      state_takes 33 live (h.place_text ++ comment) refl,
      place_takes place symbol h.place_text comment h.at_place,
    ) refl
