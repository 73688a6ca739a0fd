-- Lemmas on several inputs that are read one after another.
use Rattle.aprs_runs.proofs.Common.{◌≡◌, ◌<◌, ℕ, zero, suc, ◌+◌, List, [], ◌∷◌, ◌++◌, length, map, take, drop, Option, Some, Ok, Err, slice_get, set, option_map, inl, inr, refl, ap, sym, ◌∙◌, add-one, append_assoc, append-nil, length-append, take-append-drop, subst, arith, drop-append-add, take-append_seam, take-suc-set, drop-map, length-map, map-append, map-set, take_all, slice_get-map, slice_get_within, BookOf, BookValue, millis_of, SameMembers, Row, in_either, in_left, in_right, Received, book_text, written_text, Three, OfGot}
use Rattle.aprs_io.specs.declared.input.InputEnd.{InputEnd}
use Rattle.aprs_io.specs.declared.input.InputEnd.TheVariants as ending
use Rattle.aprs_runs.specs.Gathered.{ReadsEach}
use Rattle.aprs_runs.specs.InputBook.{TakesInput}
use Rattle.aprs_runs.specs.InputRows.{HoldsOfGot}
use Rattle.aprs_runs.specs.Inputs.{GivesSet}
use Rattle.aprs_runs.specs.Merge.{IsBookOfAll, IsTextOfBook}
use Rattle.aprs_runs.specs.Refused.{IsNotTaken}
use Rattle.aprs_runs.specs.Several.{GiveUnion, GotOf, IsFirstRefused}
use Rattle.aprs_runs.specs.declared.fault.InputFault.{InputFault}

-- P holds of what was got of inputs of these bytes, whose devices then have `afters`.
abbrev pub HoldsOfEach : (limit : ℕ) → List (List ℕ) → List (Option (List ℕ))
    → (List (GotOf limit) → Type 0) → Type 0
HoldsOfEach limit inputs afters P = (gots : List (GotOf limit))
    × (inputs ≡ map (λ (g : GotOf limit). g.text ++ g.rest) gots)
    × (afters ≡ map (λ (g : GotOf limit). g.after) gots) × P gots

abbrev pub some_each : List (List ℕ) → List (Option (List ℕ))
some_each inputs = map (λ input. Some input) inputs

-- ---- an element that is written

pub element_of : {X Y : Type 0} (f : X → Y) (old : List X) (all : List Y) (i : ℕ) (x : X)
    → slice_get old i ≡ Some x → map f old ≡ all → slice_get all i ≡ Some (f x)
element_of f old all i x is e = ap (λ l. slice_get l i) (sym e) ∙ slice_get-map f old i
    ∙ ap (option_map f) is

-- a place that is read adds what its device then has
pub after_more : {X Y : Type 0} (f : X → Y) (now : List X) (i : ℕ) (y : X) → i < length now
    → take (i + 1) (map f (set now i y)) ≡ take i (map f now) ++ f y ∷ []
after_more f now i y within =
    ap (take (i + 1)) (map-set f now i y) ∙ ap (λ n. take n (set (map f now) i (f y))) (add-one i)
    ∙ take-suc-set (map f now) i (f y) (omega (arith, within, length-map now f))

rest_same : {X : Type 0} (xs : List X) (i : ℕ) (y : X)
    → drop (suc i) (set xs i y) ≡ drop (suc i) xs
rest_same [] i y = refl
rest_same (x ∷ xs) zero y = refl
rest_same (x ∷ xs) (suc i) y = rest_same xs i y

-- the devices after that place are as they were
pub after_same : {X Y : Type 0} (f : X → Y) (now old : List X) (all : List Y) (i : ℕ) (y : X)
    → drop (suc i) now ≡ drop (suc i) old → map f old ≡ all
    → drop (i + 1) (map f (set now i y)) ≡ drop (i + 1) all
after_same f now old all i y same e =
    ap (λ n. drop n (map f (set now i y))) (add-one i) ∙ drop-map f (suc i) (set now i y)
    ∙ ap (map f) (rest_same now i y ∙ same) ∙ sym (drop-map f (suc i) old)
    ∙ ap (drop (suc i)) e ∙ ap (λ n. drop n all) (sym (add-one i))

-- ---- one input more

-- a set with more of both sides
more_members : (S U T : List Received) → SameMembers S U → SameMembers (S ++ T) (U ++ T)
more_members S U T same s = (
  λ h. elim (in_either s S T h) [
    | inl k ↦ in_left s U T ((same s).0 k)
    | inr k ↦ in_right s U T k
  ],
  λ h. elim (in_either s U T h) [
    | inl k ↦ in_left s S T ((same s).1 k)
    | inr k ↦ in_right s S T k
  ],
)

same_lists : (S T : List Received) → S ≡ T → SameMembers S T
same_lists S T e = subst (λ U. SameMembers S U) e (λ s. (λ h. h, λ h. h))

union_more : (gap limit : ℕ) (gots : List (GotOf limit)) (g : GotOf limit) (S T : List Received)
    → GiveUnion gap gots S → GivesSet gap g.text g.ending T
    → GiveUnion gap (gots ++ g ∷ []) (S ++ T)
union_more gap limit [] g S T h k =
    (T, [], k, refl, same_lists (S ++ T) (T ++ []) (ap (λ l. l ++ T) h ∙ sym (append-nil T)))
union_more gap limit (x ∷ gots) g S T h k = (
  h.0,
  h.1 ++ T,
  h.2,
  union_more gap limit gots g h.1 T h.3 k,
  subst (λ l. SameMembers (S ++ T) l) (append_assoc h.0 h.1 T)
      (more_members S (h.0 ++ h.1) T h.4),
)

-- of inputs that aren't read nothing is got
record GetsUnread (limit : ℕ) (inputs : List (List ℕ)) : Type 0 where
  gots : List (GotOf limit)
  inputs_are : inputs ≡ map (λ (g : GotOf limit). g.text ++ g.rest) gots
  afters_are : some_each inputs ≡ map (λ (g : GotOf limit). g.after) gots

gets_unread : (limit : ℕ) (inputs : List (List ℕ)) → GetsUnread limit inputs
gets_unread limit [] = record { gots = []; inputs_are = refl; afters_are = refl }
gets_unread limit (input ∷ inputs) =
    let more = gets_unread limit inputs in
    record {
      gots = record {
        text = [];
        ending = ending.Read;
        rest = input;
        after = Some input;
        ends = (refl, omega arith);
      } ∷ more.gots;
      inputs_are = ap (λ l. input ∷ l) more.inputs_are;
      afters_are = ap (λ l. Some input ∷ l) more.afters_are;
    }

-- ---- the first that is refused

at_seam : {X : Type 0} (before after : List X) (x : X)
    → slice_get (before ++ x ∷ after) (length before) ≡ Some x
at_seam [] after x = refl
at_seam (y ∷ before) after x = at_seam before after x

-- it comes after faultless ones
pub refused_after : (gap limit index : ℕ) (before after : List (GotOf limit)) (at : GotOf limit)
    (fault : InputFault) → index ≡ length before → ((S : List Received) × GiveUnion gap before S)
    → IsNotTaken gap fault at.text at.ending
    → IsFirstRefused gap (before ++ at ∷ after) index fault
refused_after gap limit index before after at fault number faultless refused = record {
  at = at;
  is_there = ap (slice_get (before ++ at ∷ after)) number ∙ at_seam before after at;
  faultless = subst (λ gots. (S : List Received) × GiveUnion gap gots S)
      (sym (ap (λ n. take n (before ++ at ∷ after)) number
      ∙ take-append_seam before (at ∷ after))) faultless;
  refused = refused;
}

-- ---- as far as they were read

-- the rows are the book of the first `index` inputs
pub record HasRead (gap limit : ℕ) (inputs : List (List ℕ)) (afters : List (Option (List ℕ)))
    (index : ℕ) (rows : List Row) : Type 0 where
  pub gots : List (GotOf limit)
  pub rest : List (List ℕ)
  pub cut : inputs ≡ map (λ (g : GotOf limit). g.text ++ g.rest) gots ++ rest
  pub place : length gots ≡ index
  pub left : take index afters ≡ map (λ (g : GotOf limit). g.after) gots
  pub book : IsBookOfAll gap rows gots

pub HasRead-none : (gap limit : ℕ) (inputs : List (List ℕ)) (afters : List (Option (List ℕ)))
    (rows : List Row) → BookOf (millis_of gap) [] rows → HasRead gap limit inputs afters 0 rows
HasRead-none gap limit inputs afters rows book = record {
  gots = [];
  rest = inputs;
  cut = refl;
  place = refl;
  left = refl;
  book = ([], refl, book);
}

-- the input at the place
known_at : (done rest : List (List ℕ)) (input : List ℕ) (known : Option (List ℕ))
    → slice_get (some_each (done ++ input ∷ rest)) (length done) ≡ Some known
    → known ≡ Some input
known_at [] rest input known e = cc
known_at (x ∷ done) rest input known e = known_at done rest input known e

module _ (gap limit : ℕ) (inputs : List (List ℕ)) (afters next : List (Option (List ℕ))) (index : ℕ)
    (rows : List Row) (known after : Option (List ℕ))
    (h : HasRead gap limit inputs afters index rows)
    (at : slice_get (some_each inputs) index ≡ Some known)
    (adds : take (index + 1) next ≡ take index afters ++ after ∷ []) where
  abbrev done : List (List ℕ)
  done = map (λ (g : GotOf limit). g.text ++ g.rest) h.gots

  so_many : length done ≡ index
  so_many = length-map h.gots (λ (g : GotOf limit). g.text ++ g.rest) ∙ h.place

  whole : (rest : List (List ℕ)) → h.rest ≡ rest → inputs ≡ done ++ rest
  whole rest e = h.cut ∙ ap (λ l. map (λ (g : GotOf limit). g.text ++ g.rest) h.gots ++ l) e

  here : (input : List ℕ) (rest : List (List ℕ)) → h.rest ≡ input ∷ rest → known ≡ Some input
  here input rest e = known_at done rest input known
      (ap (λ l. slice_get (some_each l) (length done)) (sym (whole (input ∷ rest) e))
      ∙ ap (λ i. slice_get (some_each inputs) i) so_many ∙ at)

  none_left : h.rest ≡ [] → ⊥
  none_left e =
      let within = slice_get_within (some_each inputs) index known at in
      let len : length inputs ≡ length done = ap length (whole [] e ∙ append-nil done) in
      omega (arith, within, len, so_many, length-map inputs (λ (input : List ℕ). Some input))

  -- what was got of it
  abbrev got_of : (P : List ℕ → InputEnd → Type 0) (input : List ℕ) → HoldsOfGot limit input after P
      → GotOf limit
  got_of P input got = record {
    text = got.0;
    ending = got.1;
    rest = got.2.rest;
    after = after;
    ends = got.2.ends;
  }

  -- it is taken
  pub HasRead-more : (new : List Row) (most : ℕ) → most ≡ limit → (own : ℕ) → own ≡ gap
      → OfGot most known after (TakesInput own (Ok tt) rows new)
      → HasRead gap limit inputs next (index + 1) new
  HasRead-more new most same own is took = go h.rest refl
    where
      go : (rest : List (List ℕ)) → h.rest ≡ rest → HasRead gap limit inputs next (index + 1) new
      go [] e = absurd (none_left e)
      go (input ∷ rest) e =
          let got : HoldsOfGot limit input after (TakesInput gap (Ok tt) rows new) =
          subst (λ k. OfGot limit k after (TakesInput gap (Ok tt) rows new)) (here input rest e)
          (subst (λ l. OfGot l known after (TakesInput gap (Ok tt) rows new)) same
          (subst (λ n. OfGot most known after (TakesInput n (Ok tt) rows new)) is took)) in
          let g = got_of (TakesInput gap (Ok tt) rows new) input got in
          let T = got.3.0.0 in
          record {
            gots = h.gots ++ g ∷ [];
            rest = rest;
            cut = whole (input ∷ rest) e ∙ sym (append_assoc done (input ∷ []) rest)
                ∙ ap (λ i. (done ++ i ∷ []) ++ rest) got.2.whole
                ∙ ap (λ l. l ++ rest)
                (sym (map-append (λ (g : GotOf limit). g.text ++ g.rest) h.gots (g ∷ [])));
            place = let len = length-append h.gots (g ∷ []) in omega (arith, len, h.place);
            left = adds ∙ ap (λ l. l ++ after ∷ []) h.left
                ∙ sym (map-append (λ (g : GotOf limit). g.after) h.gots (g ∷ []));
            book = (
              h.book.0 ++ T,
              union_more gap limit h.gots g h.book.0 T h.book.1 got.3.0.1,
              got.3.1 h.book.0 T got.3.0.1 h.book.2,
            );
          }

  -- it is not
  pub HasRead-refused : (e : InputFault) (old new : List Row) (most : ℕ) → most ≡ limit
      → drop (index + 1) next ≡ drop (index + 1) (some_each inputs) → (own : ℕ) → own ≡ gap
      → OfGot most known after (TakesInput own (Err e) old new)
      → HoldsOfEach limit inputs next (ReadsEach gap (Err (index, e)))
  HasRead-refused fault old new most same unread own is took = go h.rest refl
    where
      tail : List (Option (List ℕ))
      tail = drop (index + 1) next

      parts : next ≡ take index afters ++ after ∷ tail
      parts = sym (take-append-drop (index + 1) next) ∙ ap (λ l. l ++ tail) adds
          ∙ append_assoc (take index afters) (after ∷ []) tail

      others : (input : List ℕ) (rest : List (List ℕ)) → h.rest ≡ input ∷ rest
          → tail ≡ some_each rest
      others input rest e =
          unread ∙ ap (λ l. drop (index + 1) (some_each l)) (whole (input ∷ rest) e)
          ∙ ap (drop (index + 1)) (map-append (λ input. Some input) done (input ∷ rest))
          ∙ ap (λ n. drop (n + 1) (some_each done ++ some_each (input ∷ rest)))
          (sym (length-map done (λ input. Some input) ∙ so_many))
          ∙ drop-append-add (some_each done) (some_each (input ∷ rest)) 1

      go : (rest : List (List ℕ)) → h.rest ≡ rest
          → HoldsOfEach limit inputs next (ReadsEach gap (Err (index, fault)))
      go [] e = absurd (none_left e)
      go (input ∷ rest) e =
          let got : HoldsOfGot limit input after (TakesInput gap (Err fault) old new) =
          subst (λ k. OfGot limit k after (TakesInput gap (Err fault) old new))
          (here input rest e) (subst (λ l. OfGot l known after
          (TakesInput gap (Err fault) old new)) same
          (subst (λ n. OfGot most known after (TakesInput n (Err fault) old new)) is took)) in
          let g = got_of (TakesInput gap (Err fault) old new) input got in
          let left = gets_unread limit rest in (
            h.gots ++ g ∷ left.gots,
            whole (input ∷ rest) e ∙ ap (λ i. done ++ i ∷ rest) got.2.whole
                ∙ ap (λ l. done ++ (g.text ++ g.rest) ∷ l) left.inputs_are
                ∙ sym (map-append (λ (g : GotOf limit). g.text ++ g.rest) h.gots
                (g ∷ left.gots)),
            parts ∙ ap (λ l. l ++ after ∷ tail) h.left
                ∙ ap (λ l. map (λ (g : GotOf limit). g.after) h.gots ++ after ∷ l)
                (others input rest e ∙ left.afters_are)
                ∙ sym (map-append (λ (g : GotOf limit). g.after) h.gots (g ∷ left.gots)),
            refused_after gap limit index h.gots left.gots g fault (sym h.place)
                (h.book.0, h.book.1) got.3,
          )

-- there are as many as their bytes
pub same_len : {X : Type 0} (f : X → Option (List ℕ)) (xs : List X) (inputs : List (List ℕ))
    → map f xs ≡ some_each inputs → length inputs ≡ length xs
same_len f xs inputs e = sym (length-map inputs (λ input. Some input)) ∙ ap length (sym e)
    ∙ length-map xs f

-- all are read
pub HasRead-all : (gap limit : ℕ) (inputs : List (List ℕ)) (afters : List (Option (List ℕ)))
    (index : ℕ) (b : BookValue) → b.gap ≡ gap → HasRead gap limit inputs afters index b.rows
    → length inputs ≡ index → length afters ≡ index
    → HoldsOfEach limit inputs afters (ReadsEach gap (Ok b))
HasRead-all gap limit inputs afters index b same h all many =
    let done = map (λ (g : GotOf limit). g.text ++ g.rest) h.gots in
    let len : length inputs ≡ length done + length h.rest = ap length h.cut
    ∙ length-append done h.rest in
    let so_many = length-map h.gots (λ (g : GotOf limit). g.text ++ g.rest) in (
      h.gots,
      h.cut ∙ ap (λ l. done ++ l) (none h.rest (omega (arith, len, all, so_many, h.place)))
          ∙ append-nil done,
      sym (take_all index afters (omega (arith, many))) ∙ h.left,
      (same, h.book),
    )
  where
    none : (l : List (List ℕ)) → length l ≡ 0 → l ≡ []
    none [] e = refl
    none (x ∷ l) e = absurd (omega (arith, e))

-- the text of a book of this gap tells of each set whose book it is
pub text_of_book : (gap : ℕ) (b : BookValue) → b.gap ≡ gap → (S : List Received)
    → BookOf (millis_of gap) S b.rows → IsTextOfBook gap S (written_text b)
text_of_book gap b same S book = record {
  rows = b.rows;
  book = book;
  text_is = ap (λ g. book_text (Three g) b.rows) same;
}
