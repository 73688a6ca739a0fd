-- The end of rows refuses what the rows refuse.
use Rattle.aprs_book.proofs.Common.{◌≡◌, ◌∙◌, ℕ, ◌==◌, ◌<◌, false, not, ◌&&◌, ltb, List, [], ◌∷◌, ◌++◌, inl, inr, None, length, append_assoc, append-nil, arith, refl, sym, ap, subst, IfSome, last_or, list_any, option_map_or, is_lt, is_gt, ordering_then, Ordering, Less, Equal, Greater, key_cmp, Row, row_key, last_moment, FollowsFar, empty_or_last, is_of_last, is_out_of_order, is_too_near, is_ascending, is_same_name, refusal, last_after, first_of, refused_first, free_of_none, next_of_free}
use Rattle.aprs_book.specs.Keyed.{LastKeyIsUpTo, IsEndOf}

same_last : (end all : List Row) → IsEndOf end all → last_or None end ≡ last_or None all
same_last end all e = elim (empty_or_last end) [
  | inl n ↦ ap (last_or None) (n ∙ sym (e.none n))
  | inr t ↦ ap (last_or None) t.2 ∙ last_after None t.0 t.1
      ∙ sym (ap (last_or None)
      (e.split ∙ ap (λ q. e.prefix ++ q) t.2 ∙ sym (append_assoc e.prefix t.0 (t.1 ∷ [])))
      ∙ last_after None (e.prefix ++ t.0) t.1)
]

-- of two lists that are all rows the last one with rows is their end
pub front_is_end : (a b all : List Row) → a ++ b ≡ all → length b ≡ 0 → IsEndOf a all
front_is_end a [] all e n = record {
  prefix = [];
  split = sym e ∙ append-nil a;
  none = λ m. sym e ∙ append-nil a ∙ m;
}
front_is_end a (x ∷ b) all e n = absurd (omega (arith, n))

pub back_is_end : (a b all : List Row) → a ++ b ≡ all → 0 < length b → IsEndOf b all
back_is_end a [] all e n = absurd (omega (arith, n))
back_is_end a (x ∷ b) all e n = record { prefix = a; split = sym e; none = λ m. absurd (cc) }

-- what rows end with that all rows end with
pub end_of_end : (a b all : List Row) → IsEndOf a b → IsEndOf b all → IsEndOf a all
end_of_end a b all e f = record {
  prefix = f.prefix ++ e.prefix;
  split = f.split ∙ ap (λ t. f.prefix ++ t) e.split ∙ sym (append_assoc f.prefix e.prefix a);
  none = λ n. f.none (e.none n);
}

-- where the same row is the last, the same is refused
pub refused_at_end : (gap : ℕ) (end all : List Row) (x : Row) → IsEndOf end all
    → refusal gap end x ≡ refusal gap all x
refused_at_end gap end all x e =
    refused_first gap end x
    ∙ ap (λ o. first_of (option_map_or (λ l. is_out_of_order l x) o false) (ltb (last_moment x) x.first)
    (option_map_or (λ l. is_too_near gap l x) o false)
    (not (is_ascending x.receivers && list_any (is_same_name x.greatest.receiver) x.receivers))
    ((x.first == last_moment x) && not (is_of_last (is_same_name x.greatest.receiver) x.receivers)))
    (same_last end all e)
    ∙ sym (refused_first gap all x)

up_first : (o p : Ordering) → not (is_lt (ordering_then o p)) ≡ false → is_gt o ≡ false
up_first Less p h = refl
up_first Equal p h = refl
up_first Greater p h = absurd (cc)

-- what isn't refused has a key not below that of the last row
pub none_ends_up_to : (gap : ℕ) (rows : List Row) (x : Row) → None ≡ refusal gap rows x
    → LastKeyIsUpTo x rows
none_ends_up_to gap rows x h prefix l e =
    up_first (key_cmp (row_key l) (row_key x)) _
    (ap (λ o. not (is_lt o))
    (subst (λ o. IfSome o (FollowsFar gap x)) (ap (last_or None) e ∙ last_after None prefix l)
    (next_of_free gap rows x (free_of_none gap rows x (sym h))).after).0)
