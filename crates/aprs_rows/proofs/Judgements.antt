-- Names that are seen one after another, and the row before another.
use Rattle.aprs_rows.proofs.Common.{◌≡◌, ◌∙◌, ℕ, ◌<◌, ◌==◌, ◌&&◌, ◌||◌, Bool, true, false, not, ltb, List, [], ◌∷◌, length, Option, None, Some, refl, sym, ap, arith, last_or, list_any, option_map_or, is_lt, length-slice_split, bytes_cmp, Row, last_moment, IsSoundRow}
use Rattle.aprs_rows.specs.Judging.{list_of}
use Rattle.aprs_rows.specs.Names.{names_in}
use Rattle.aprs_rows.specs.Refusal.{is_of_last, is_out_of_order, is_too_near, is_ascending, is_same_name, refusal}
use Rattle.aprs_rows.proofs.Refusals.{first_of, refused_first, free_of_none, next_of_free}

pub some_names : (text : List ℕ) → 0 < length (names_in text)
some_names text = omega (arith, length-slice_split (λ b. b == 44) text)

last_of_more : {X : Type 0} (o p : Option X) (xs : List X) → 0 < length xs
    → last_or o xs ≡ last_or p xs
last_of_more o p [] h = absurd (omega (arith, h))
last_of_more o p (x ∷ xs) h = refl

either : (a b c : Bool) → (a || (b || c)) ≡ ((a || b) || c)
either true b c = refl
either false b c = refl

pub has_it : (a b : Bool) → a ≡ true → a ≡ (a || b)
has_it true b e = refl
has_it false b e = absurd (cc)

pub is_it : (a b c : Bool) → a ≡ false → c ≡ b → c ≡ (a || b)
is_it true b c e f = absurd (cc)
is_it false b c e f = f

-- Of the names of a text those up to `before` were seen, which ascend, and whether this name is
-- one of them; the others are those of `rest`.
pub record AreSeen (text name before rest : List ℕ) (has : Bool) : Type 0 where
  pub ascending : is_ascending (names_in text) ≡ is_ascending (before ∷ names_in rest)
  pub named : list_any (is_same_name name) (names_in text)
      ≡ (has || list_any (is_same_name name) (names_in rest))
  pub last : last_or None (names_in text) ≡ last_or None (names_in rest)

pub first_seen : (text name first rest : List ℕ) (has : Bool)
    → names_in text ≡ first ∷ names_in rest → has ≡ is_same_name name first
    → AreSeen text name first rest has
first_seen text name first rest has e h = record {
  ascending = ap is_ascending e;
  named = ap (list_any (is_same_name name)) e
      ∙ ap (λ b. b || list_any (is_same_name name) (names_in rest)) (sym h);
  last = ap (last_or None) e ∙ last_of_more (Some first) None (names_in rest) (some_names rest);
}

pub next_seen : (text name before rest next after : List ℕ) (has now : Bool)
    → AreSeen text name before rest has → names_in rest ≡ next ∷ names_in after
    → is_lt (bytes_cmp before next) ≡ true → now ≡ (has || is_same_name name next)
    → AreSeen text name next after now
next_seen text name before rest next after has now s e lt h = record {
  ascending = s.ascending ∙ ap (λ ns. is_ascending (before ∷ ns)) e
      ∙ ap (λ b. b && is_ascending (next ∷ names_in after)) lt;
  named = s.named ∙ ap (λ ns. has || list_any (is_same_name name) ns) e
      ∙ either has (is_same_name name next) (list_any (is_same_name name) (names_in after))
      ∙ ap (λ b. b || list_any (is_same_name name) (names_in after)) (sym h);
  last = s.last ∙ ap (last_or None) e
      ∙ last_of_more (Some next) None (names_in after) (some_names after);
}

-- the last row alone decides
pub same_refusal : (gap : ℕ) (rows : List Row) (o : Option Row) (x : Row) → last_or None rows ≡ o
    → refusal gap (list_of o) x ≡ refusal gap rows x
same_refusal gap rows o x e =
    refused_first gap (list_of o) x
    ∙ ap (λ p. first_of (option_map_or (λ l. is_out_of_order l x) p false) (ltb (last_moment x) x.first)
    (option_map_or (λ l. is_too_near gap l x) p false)
    (not (is_ascending x.receivers && list_any (is_same_name x.greatest.receiver) x.receivers))
    ((x.first == last_moment x) && not (is_of_last (is_same_name x.greatest.receiver) x.receivers)))
    (alone o ∙ sym e)
    ∙ sym (refused_first gap rows x)
  where
    alone : (p : Option Row) → last_or None (list_of p) ≡ p
    alone None = refl
    alone (Some r) = refl

pub free_is_sound : (gap : ℕ) (rows : List Row) (x : Row) → refusal gap rows x ≡ None
    → IsSoundRow x
free_is_sound gap rows x e = (next_of_free gap rows x (free_of_none gap rows x e)).own
