-- A position that is read is spelled so, and what is spelled so is read.
use Rattle.aprs_report.proofs.Common.{◌≡◌, ℕ, ℤ, ◌<◌, true, false, List, [], ◌∷◌, ◌++◌, length, Some, refl, sym, ap, subst, ◌∙◌, arith, append_assoc, list_all, and_parts, leb-true, le-leb, nat_tests}
use Rattle.aprs_report.specs.declared.symbol.Symbol.{Symbol}
use Rattle.aprs_report.specs.declared.place.coordinate.Axis.TheVariants.{Latitude, Longitude}
use Rattle.aprs_report.specs.declared.place.Place.{Place}
use Rattle.aprs_report.specs.declared.place.Place.TheVariants.{Plain, Base91}
use Rattle.aprs_report.specs.Bytes.{is_digit}
use Rattle.aprs_report.specs.Symbol.{is_table, is_code, compressed_table}
use Rattle.aprs_report.specs.Numeral.{is_digit_of, IsNumeral}
use Rattle.aprs_report.specs.Compressed.{IsBase91}
use Rattle.aprs_report.specs.Place.{IsPlainPlace, IsCompressedPlace, IsPlace}
use Rattle.aprs_report.specs.Reader.{ambiguity_of, plain_of, table_of_byte, table_at, base91_of}
use Rattle.aprs_report.specs.Reader.{compressed_of, place_of}
use Rattle.aprs_report.proofs.Steps.{after_some, guarded_some, if_either, some_is, chunk_found}
use Rattle.aprs_report.proofs.Steps.{chunk_takes, byte_found}
use Rattle.aprs_report.proofs.Numerals.{numeral_found, numeral_takes}
use Rattle.aprs_report.proofs.Coordinates.{angle_found, angle_takes, minute_text, ambiguity_is}
use Rattle.aprs_report.proofs.Coordinates.{ambiguity_small}

-- a position at the start of some bytes
pub record PlaceAt (bytes : List ℕ) (p : Place) (s : Symbol) (rest : List ℕ) : Type 0 where
  pub text : List ℕ
  pub at_place : IsPlace p s text
  pub whole : bytes ≡ text ++ rest

-- ---- plain

plain_parts : (table code : ℕ) (bytes north north_minutes east east_minutes c1 c2 c3 c4 c5 rest :
    List ℕ) → bytes ≡ north ++ c1 → c1 ≡ north_minutes ++ c2 → c2 ≡ table ∷ c3 → c3 ≡ east ++ c4
    → c4 ≡ east_minutes ++ c5 → c5 ≡ code ∷ rest →
    bytes ≡ ((north ++ north_minutes) ++ (table ∷ ((east ++ east_minutes) ++ code ∷ []))) ++
    rest
plain_parts table code bytes north north_minutes east east_minutes c1 c2 c3 c4 c5 rest e1 e2 e3 e4
    e5 e6 = rw (e1, e2, e3, e4, e5, e6) (simp append_assoc)

plain_found : (bytes : List ℕ) (x : Place × Symbol × List ℕ) → plain_of bytes ≡ Some x →
    PlaceAt bytes x.0 x.1 x.2
unfolding plain_of
plain_found bytes x e =
    after_some _ _ _ _ e (λ north e1 r1. after_some _ _ _ _ r1
    (λ north_minutes e2 r2. after_some _ _ _ _ r2
    (λ table e3 r3. after_some _ _ _ _ r3 (λ east e4 r4.
    after_some _ _ _ _ r4 (λ east_minutes e5 r5. after_some _ _ _ _ r5
    (λ code e6 r6. after_some _ _ _ _ r6 (λ lat e7 r7. after_some _ _ _ _ r7 (λ lon e8 r8.
    let f1 = chunk_found 2 bytes north e1 in
    let f2 = chunk_found 6 north.1 north_minutes e2 in
    let f3 = byte_found is_table north_minutes.1 table e3 in
    let f4 = chunk_found 3 table.1 east e4 in
    let f5 = chunk_found 6 east.1 east_minutes e5 in
    let f6 = byte_found is_code east_minutes.1 code e6 in
    let a : ℕ = ambiguity_of north_minutes.0 in
    let s : Symbol = record { table = table.0; code = code.0 } in
    let made : Place × Symbol × List ℕ = (Plain lat lon a, s, code.1) in
    subst (λ (x : Place × Symbol × List ℕ). PlaceAt bytes x.0 x.1 x.2) (some_is made x r8)
    (record {
      text = (north.0 ++ north_minutes.0) ++ (s.table ∷
          ((east.0 ++ east_minutes.0) ++ s.code ∷ []));
      at_place = record {
        lat_text = north.0 ++ north_minutes.0;
        lon_text = east.0 ++ east_minutes.0;
        at_lat =
            angle_found Latitude a north.0 north_minutes.0 lat f1.len f2.len
            (ambiguity_small north_minutes.0) e7;
        at_lon =
            angle_found Longitude a east.0 east_minutes.0 lon f4.len f5.len
            (ambiguity_small north_minutes.0) e8;
        symbol = record { table = f3.1; code = f6.1 };
        whole = refl;
      };
      whole =
          plain_parts table.0 code.0 bytes north.0 north_minutes.0 east.0 east_minutes.0 north.1
          north_minutes.1 table.1 east.1 east_minutes.1 code.1 f1.parts f2.parts f3.0 f4.parts
          f5.parts f6.0;
    })))))))))

plain_takes : (lat lon : ℤ) (a : ℕ) (s : Symbol) (text rest : List ℕ) → IsPlainPlace lat lon a s text →
    plain_of (text ++ rest) ≡ Some (Plain lat lon a, s, rest)
unfolding plain_of
plain_takes lat lon a s text rest h =
    let n = h.at_lat in
    let e = h.at_lon in
    let north : List ℕ = minute_text Latitude a lat h.lat_text n in
    let east : List ℕ = minute_text Longitude a lon h.lon_text e in
    let regrouped : text ++ rest ≡ n.degree_text ++
    (north ++ (s.table ∷ (e.degree_text ++ (east ++ (s.code ∷ rest))))) =
    rw (h.whole, n.whole, e.whole) (simp append_assoc) in
    ap plain_of regrouped
    ∙ rw (
      chunk_takes 2 n.degree_text (north ++ (s.table ∷
          (e.degree_text ++ (east ++ (s.code ∷ rest))))) n.width,
      chunk_takes 6 north (s.table ∷ (e.degree_text ++ (east ++ (s.code ∷ rest)))) refl,
      h.symbol.table,
      chunk_takes 3 e.degree_text (east ++ (s.code ∷ rest)) e.width,
      chunk_takes 6 east (s.code ∷ rest) refl,
      h.symbol.code,
      ambiguity_is a lat h.lat_text n,
      angle_takes Latitude a lat h.lat_text n,
      angle_takes Longitude a lon h.lon_text e,
    ) refl

-- ---- compressed

record TableAt (bytes : List ℕ) (table : ℕ) (rest : List ℕ) : Type 0 where
  pub sound : is_table table ≡ true
  pub whole : bytes ≡ compressed_table table ∷ rest

named_table : (b t : ℕ) → table_of_byte b ≡ Some t → (is_table t ≡ true) × (b ≡ compressed_table t)
named_table b t e = (grind (arith, nat_tests), grind (arith, nat_tests))

table_takes : (t : ℕ) → is_table t ≡ true → table_of_byte (compressed_table t) ≡ Some t
table_takes t h = grind (arith, nat_tests)

named_found : (bytes : List ℕ) (x : ℕ × List ℕ) → table_at bytes ≡ Some x → TableAt bytes x.0 x.1
unfolding table_at
named_found [] x e = absurd cc
named_found (b ∷ rest) x e = after_some _ _ _ _ e (λ t e1 r1.
    let n = named_table b t e1 in
    subst (λ (x : ℕ × List ℕ). TableAt (b ∷ rest) x.0 x.1) (some_is (t, rest) x r1)
    (record { sound = n.0; whole = ap (λ (b : ℕ). b ∷ rest) n.1 }))

named_takes : (t : ℕ) (rest : List ℕ) → is_table t ≡ true →
    table_at (compressed_table t ∷ rest) ≡ Some (t, rest)
unfolding table_at
named_takes t rest h = rw (table_takes t h) refl

base91_found : (text : List ℕ) (n : ℕ) → length text ≡ 4 → base91_of text ≡ Some n →
    IsBase91 n text
unfolding base91_of
base91_found text n four e = after_some _ _ _ _ e (λ m e1 r1.
    let g = guarded_some _ _ _ r1 in
    record {
      four = four;
      numeral = subst (λ (n : ℕ). IsNumeral 91 33 n text) g.1
          (numeral_found 91 33 text m e1);
      within = omega (arith, g.1, leb-true _ _ g.0);
    })

base91_takes : (n : ℕ) (text : List ℕ) → IsBase91 n text → base91_of text ≡ Some n
unfolding base91_of
base91_takes n text h = rw (numeral_takes 91 33 text n h.numeral, le-leb _ _ h.within) refl

compressed_parts : (b code : ℕ) (bytes c1 y c2 x c3 c4 cst rest : List ℕ) → bytes ≡ b ∷ c1 →
    c1 ≡ y ++ c2 → c2 ≡ x ++ c3 → c3 ≡ code ∷ c4 → c4 ≡ cst ++ rest
    → bytes ≡ (b ∷ (y ++ (x ++ (code ∷ cst)))) ++ rest
compressed_parts b code bytes c1 y c2 x c3 c4 cst rest e1 e2 e3 e4 e5 =
    rw (e1, e2, e3, e4, e5) (simp append_assoc)

compressed_found : (bytes : List ℕ) (x : Place × Symbol × List ℕ) → compressed_of bytes ≡ Some x →
    PlaceAt bytes x.0 x.1 x.2
unfolding compressed_of
compressed_found bytes x e =
    after_some _ _ _ _ e (λ table e1 r1. after_some _ _ _ _ r1
    (λ ys e2 r2. after_some _ _ _ _ r2 (λ xs e3 r3.
    after_some _ _ _ _ r3 (λ code e4 r4. after_some _ _ _ _ r4 (λ cst e5 r5.
    after_some _ _ _ _ r5 (λ y e6 r6. after_some _ _ _ _ r6 (λ xx e7 r7.
    let f1 = named_found bytes table e1 in
    let f2 = chunk_found 4 table.1 ys e2 in
    let f3 = chunk_found 4 ys.1 xs e3 in
    let f4 = byte_found is_code xs.1 code e4 in
    let f5 = chunk_found 3 code.1 cst e5 in
    let s : Symbol = record { table = table.0; code = code.0 } in
    let made : Place × Symbol × List ℕ = (Base91 y xx cst.0, s, cst.1) in
    subst (λ (x : Place × Symbol × List ℕ). PlaceAt bytes x.0 x.1 x.2) (some_is made x r7)
    (record {
      text = compressed_table s.table ∷ (ys.0 ++ (xs.0 ++ (s.code ∷ cst.0)));
      at_place = record {
        y_text = ys.0;
        x_text = xs.0;
        at_y = base91_found ys.0 y f2.len e6;
        at_x = base91_found xs.0 xx f3.len e7;
        three = f5.len;
        symbol = record { table = f1.sound; code = f4.1 };
        whole = refl;
      };
      whole =
          compressed_parts (compressed_table table.0) code.0 bytes table.1 ys.0 ys.1 xs.0 xs.1
          code.1 cst.0 cst.1 f1.whole f2.parts f3.parts f4.0 f5.parts;
    }))))))))

compressed_takes : (y x : ℕ) (cst : List ℕ) (s : Symbol) (text rest : List ℕ) →
    IsCompressedPlace y x cst s text → compressed_of (text ++ rest) ≡ Some (Base91 y x cst, s, rest)
unfolding compressed_of
compressed_takes y x cst s text rest h =
    let regrouped : text ++ rest ≡ compressed_table s.table ∷
    (h.y_text ++ (h.x_text ++ (s.code ∷ (cst ++ rest)))) = rw h.whole (simp append_assoc) in
    ap compressed_of regrouped
    ∙ rw (
      named_takes s.table (h.y_text ++ (h.x_text ++ (s.code ∷ (cst ++ rest)))) h.symbol.table,
      chunk_takes 4 h.y_text (h.x_text ++ (s.code ∷ (cst ++ rest))) h.at_y.four,
      chunk_takes 4 h.x_text (s.code ∷ (cst ++ rest)) h.at_x.four,
      h.symbol.code,
      chunk_takes 3 cst rest h.three,
      base91_takes y h.y_text h.at_y,
      base91_takes x h.x_text h.at_x,
    ) refl

-- ---- either

-- a compressed position begins with no digit
no_digit : (t : ℕ) → is_table t ≡ true → is_digit (compressed_table t) ≡ false
no_digit t h = grind (arith, nat_tests)

-- a digit in base ten
is_a_digit : (b : ℕ) → is_digit_of 10 48 b ≡ true → is_digit b ≡ true
is_a_digit b h = grind (arith, nat_tests)

pub place_found : (bytes : List ℕ) (x : Place × Symbol × List ℕ) → place_of bytes ≡ Some x →
    PlaceAt bytes x.0 x.1 x.2
unfolding place_of
place_found [] x e = absurd cc
place_found (b ∷ rest) x e =
    if_either (is_digit b) (plain_of (b ∷ rest)) (compressed_of (b ∷ rest)) (Some x) _ e
    (λ _ h. plain_found (b ∷ rest) x h) (λ _ h. compressed_found (b ∷ rest) x h)

by_digit : (b : ℕ) (rest : List ℕ) → is_digit b ≡ true → place_of (b ∷ rest) ≡ plain_of (b ∷ rest)
unfolding place_of
by_digit b rest h = rw h refl

by_no_digit : (b : ℕ) (rest : List ℕ) → is_digit b ≡ false →
    place_of (b ∷ rest) ≡ compressed_of (b ∷ rest)
unfolding place_of
by_no_digit b rest h = rw h refl

-- text that begins with digits reads as plain
begins_plain : (degrees more : List ℕ) → 0 < length degrees →
    list_all (is_digit_of 10 48) degrees ≡ true →
    place_of (degrees ++ more) ≡ plain_of (degrees ++ more)
begins_plain [] more lt h = absurd (omega arith)
begins_plain (b ∷ degrees) more lt h =
    by_digit b (degrees ++ more) (is_a_digit b (and_parts (is_digit_of 10 48 b) _ h).0)

pub place_takes : (p : Place) (s : Symbol) (text rest : List ℕ) → IsPlace p s text →
    place_of (text ++ rest) ≡ Some (p, s, rest)
place_takes (Plain lat lon a) s text rest h =
    let n = h.at_lat in
    let more : List ℕ =
    minute_text Latitude a lat h.lat_text n ++ (s.table ∷ (h.lon_text ++ (s.code ∷ rest))) in
    let whole : text ++ rest ≡ n.degree_text ++ more = rw (h.whole, n.whole) (simp append_assoc) in
    ap place_of whole ∙ begins_plain n.degree_text more (omega (arith, n.width))
    n.at_degrees.digits ∙ ap plain_of (sym whole) ∙ plain_takes lat lon a s text rest h
place_takes (Base91 y x cst) s text rest h =
    let more : List ℕ = h.y_text ++ (h.x_text ++ (s.code ∷ cst)) in
    let whole : text ++ rest ≡ compressed_table s.table ∷ (more ++ rest) =
    ap (λ (t : List ℕ). t ++ rest) h.whole in
    ap place_of whole ∙ by_no_digit (compressed_table s.table) (more ++ rest)
    (no_digit s.table h.symbol.table) ∙ ap compressed_of (sym whole)
    ∙ compressed_takes y x cst s text rest h
