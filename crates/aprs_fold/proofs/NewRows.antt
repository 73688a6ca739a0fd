-- What is new to a book is enough for whoever has taken it.
use Rattle.aprs_transmissions.proofs.Common.{◌≡◌, ◌∙◌, ◌⊎◌, ◌&&◌, not, Bool, true, false, ℕ, ◌<◌, List, [], ◌∷◌, ◌++◌, inl, inr, refl, sym, ap, subst, Ordering, Less, Equal, Greater, tied_itself}
use Rattle.std.specs.Prelude.{cond, nat_eq, ◌||◌}
use Rattle.std.specs.List.{filter, flat_map}
use Rattle.std.specs.Ordering.{is_eq}
use Rattle.std.proofs.lemmas.Bool.{eq-eqb, eqb-true}
use Rattle.aprs_log.specs.Reception.{bytes_cmp, heard_cmp}
use Rattle.aprs_transmissions.specs.JoinRow.{merge}
use Rattle.aprs_transmissions.specs.Lists.{◌∈◌, Ordered, SameMembers}
use Rattle.aprs_transmissions.specs.Order.{IsBelow}
use Rattle.aprs_transmissions.specs.Row.{Row, row_cmp}
use Rattle.aprs_transmissions.specs.Sound.{IsFar, AreSoundRows, Sound}
use Rattle.aprs_transmissions.specs.Together.{book_together}
use Rattle.aprs_transmissions.specs.Witnesses.{witnesses}
use Rattle.aprs_transmissions.proofs.Books.{one_book, same_row}
use Rattle.aprs_transmissions.proofs.Lists.{in_either, in_left, in_right}
use Rattle.aprs_transmissions.proofs.Orders.{bytes_exact, bytes_total, heard_exact, heard_total}
use Rattle.aprs_transmissions.proofs.Soundness.{witnessed}
use Rattle.aprs_transmissions.proofs.Together.{book_is_sound, joined_rows, merge_append, order_is_free, together}
use Rattle.aprs_transmissions.proofs.Unions.{merged}
use Rattle.aprs_fold.specs.NewRows.{AreSoundBooks, HasMerged, MergedIsNoMore, NewAreLacking, NewAreSound, NewsComeFreely, NewsStandForBooks, NoneIsNew, NothingIsLost, TakenIsKept, are_same_names, is_among, is_same_row, new_rows, news_of, take_all}

-- ---- equal rows

and_both : (a b : Bool) → (a && b) ≡ true → (a ≡ true) × (b ≡ true)
and_both true b h = (refl, h)
and_both false b h = absurd (cc)

tied : (o : Ordering) → is_eq o ≡ true → o ≡ Equal
tied Less e = absurd (cc)
tied Equal e = refl
tied Greater e = absurd (cc)

names_are : (rs ss : List (List ℕ)) → are_same_names rs ss ≡ true → rs ≡ ss
names_are [] [] h = refl
names_are [] (s ∷ ss) h = absurd (cc)
names_are (r ∷ rs) [] h = absurd (cc)
names_are (r ∷ rs) (s ∷ ss) h =
    let both = and_both (is_eq (bytes_cmp r s)) (are_same_names rs ss) h in
    (λ i. bytes_exact r s (tied (bytes_cmp r s) both.0) i ∷ names_are rs ss both.1 i)

names_same : (rs : List (List ℕ)) → are_same_names rs rs ≡ true
names_same [] = refl
names_same (r ∷ rs) = (λ i. is_eq (tied_itself bytes_total r i) && names_same rs i)

row_is : (x y : Row) → is_same_row x y ≡ true → x ≡ y
row_is x y h =
    let outer = and_both (nat_eq x.first y.first)
    (is_eq (heard_cmp x.greatest y.greatest) && are_same_names x.receivers y.receivers) h in
    let inner = and_both (is_eq (heard_cmp x.greatest y.greatest))
    (are_same_names x.receivers y.receivers) outer.1 in
    same_row x y (eqb-true x.first y.first outer.0)
    (names_are x.receivers y.receivers inner.1)
    (heard_exact x.greatest y.greatest (tied (heard_cmp x.greatest y.greatest) inner.0))

row_same : (x : Row) → is_same_row x x ≡ true
row_same x = (λ i. eq-eqb x.first x.first refl i
    && (is_eq (tied_itself heard_total x.greatest i) && names_same x.receivers i))

pub among_in : (rows : List Row) (x : Row) → is_among rows x ≡ true → x ∈ rows
among_in [] x h = absurd (cc)
among_in (y ∷ rows) x h = by (is_same_row x y) refl (among_in rows x) h where
  by : (b : Bool) → is_same_row x y ≡ b → (is_among rows x ≡ true → x ∈ rows)
      → (b || is_among rows x) ≡ true → x ∈ (y ∷ rows)
  by true e more k = inl (sym (row_is x y e))
  by false e more k = inr (more k)

or_right : (a b : Bool) → b ≡ true → (a || b) ≡ true
or_right true b h = refl
or_right false b h = h

pub in_among : (rows : List Row) (x : Row) → x ∈ rows → is_among rows x ≡ true
in_among [] x h = absurd h
in_among (y ∷ rows) x (inl e) =
    (λ i. subst (λ (z : Row). is_same_row x z ≡ true) (sym e) (row_same x) i ||
    is_among rows x)
in_among (y ∷ rows) x (inr h) =
    or_right (is_same_row x y) (is_among rows x) (in_among rows x h)

-- ---- filters

module _ {X : Type 0} (p : X → Bool) where
  from_filter : (y : X) (xs : List X) → y ∈ filter p xs → (y ∈ xs) × (p y ≡ true)
  from_filter y [] h = absurd h
  from_filter y (x ∷ xs) h = by (p x) refl (from_filter y xs) h where
    by : (b : Bool) → p x ≡ b → (y ∈ filter p xs → (y ∈ xs) × (p y ≡ true))
        → y ∈ cond b (x ∷ filter p xs) (filter p xs) → (y ∈ (x ∷ xs)) × (p y ≡ true)
    by true e more h = elim h [
      | inl same ↦ (inl same, subst (λ (z : X). p z ≡ true) same e)
      | inr k ↦ let t = more k in (inr t.0, t.1)
    ]
    by false e more h = let t = more h in (inr t.0, t.1)

  to_filter : (y : X) (xs : List X) → y ∈ xs → p y ≡ true → y ∈ filter p xs
  to_filter y [] h t = absurd h
  to_filter y (x ∷ xs) h t = by (p x) refl (λ k. to_filter y xs k t) h where
    by : (b : Bool) → p x ≡ b → (y ∈ xs → y ∈ filter p xs) → y ∈ (x ∷ xs)
        → y ∈ cond b (x ∷ filter p xs) (filter p xs)
    by true e more h = elim h [ inl same ↦ inl same | inr k ↦ inr (more k) ]
    by false e more h = elim h [
      | inl same ↦ absurd (let f : p y ≡ false = subst (λ (z : X). p z ≡ false) same e in cc (f, t))
      | inr k ↦ more k
    ]

  ordered_filter : (Q : X → X → Type 0) (xs : List X) → Ordered Q xs → Ordered Q (filter p xs)
  ordered_filter Q [] h = tt
  ordered_filter Q (x ∷ xs) h = by (p x) (ordered_filter Q xs h.1) where
    by : (b : Bool) → Ordered Q (filter p xs)
        → Ordered Q (cond b (x ∷ filter p xs) (filter p xs))
    by true more = ((λ y k. h.0 y (from_filter y xs k).0), more)
    by false more = more

-- ---- the new rows

not_false : (b : Bool) → not b ≡ true → b ≡ false
not_false true h = absurd (cc)
not_false false h = refl

abbrev pub is_new : List Row → Row → Bool
is_new old x = not (is_among old x)

pub new_are_lacking : NewAreLacking
new_are_lacking old rows x = (
  λ h. let t = from_filter (is_new old) x rows h in
      (t.0, λ k. absurd (cc (in_among old x k, not_false (is_among old x) t.1))),
  λ h. by (is_among old x) refl h,
) where
  by : (b : Bool) → is_among old x ≡ b → (x ∈ rows) × (x ∈ old → ⊥) → x ∈ new_rows old rows
  by true e h = absurd (h.1 (among_in old x e))
  by false e h = to_filter (is_new old) x rows h.0 (ap not e)

pub new_are_sound : (gap : ℕ) → NewAreSound gap
new_are_sound gap old rows h = record {
  ascending = ordered_filter (is_new old) (IsBelow row_cmp) rows h.ascending;
  apart = ordered_filter (is_new old) (IsFar gap) rows h.apart;
  each = λ x k. h.each x (from_filter (is_new old) x rows k).0;
}

sound_new : (old rows : List Row) → AreSoundRows rows → AreSoundRows (new_rows old rows)
sound_new old rows h x k = h x (from_filter (is_new old) x rows k).0

-- each row is among the old or is new
old_or_new : (old rows : List Row) (x : Row) → x ∈ rows → (x ∈ old) ⊎ (x ∈ new_rows old rows)
old_or_new old rows x h = by (is_among old x) refl where
  by : (b : Bool) → is_among old x ≡ b → (x ∈ old) ⊎ (x ∈ new_rows old rows)
  by true e = inl (among_in old x e)
  by false e = inr (to_filter (is_new old) x rows h (ap not e))

-- with the old rows the new ones are all
new_fill : (own old rows : List Row)
    → SameMembers ((own ++ old) ++ new_rows old rows) ((own ++ old) ++ rows)
new_fill own old rows x = (
  λ h. elim (in_either x (own ++ old) (new_rows old rows) h) [
    | inl k ↦ in_left x (own ++ old) rows k
    | inr k ↦ in_right x (own ++ old) rows (from_filter (is_new old) x rows k).0
  ],
  λ h. elim (in_either x (own ++ old) rows h) [
    | inl k ↦ in_left x (own ++ old) (new_rows old rows) k
    | inr k ↦ elim (old_or_new old rows x k) [
      | inl j ↦ in_left x (own ++ old) (new_rows old rows) (in_right x own old j)
      | inr j ↦ in_right x (own ++ old) (new_rows old rows) j
    ]
  ],
)

-- ---- rows that join a book

sound_both : (p q : List Row) → AreSoundRows p → AreSoundRows q → AreSoundRows (p ++ q)
sound_both p q s t x h = elim (in_either x p q h) [ inl k ↦ s x k | inr k ↦ t x k ]

module _ (gap : ℕ) (pos : 0 < gap) where
  -- a book is the book of its rows
  of_itself : (p : List Row) → Sound gap p → book_together gap p ≡ p
  of_itself p s = one_book gap (witnesses p) (book_together gap p) p
      (together gap p pos s.each) (witnessed gap p pos s)

  -- so what joins it gives the book of the rows of both
  joined_is : (p q : List Row) → Sound gap p → merge gap p q ≡ book_together gap (p ++ q)
  joined_is p q s = sym (merge_append gap [] p q ∙ ap (λ w. merge gap w q) (of_itself p s))

  joined_sound : (p q : List Row) → Sound gap p → AreSoundRows q → Sound gap (merge gap p q)
  joined_sound p q s t = subst (λ (w : List Row). Sound gap w) (sym (joined_is p q s))
      (book_is_sound gap pos (p ++ q) (sound_both p q s.each t))

  -- the rows of two lists one after the other
  joined_twice : (p q more : List Row) → Sound gap p
      → merge gap (merge gap p q) more ≡ book_together gap ((p ++ q) ++ more)
  joined_twice p q more s =
      ap (λ w. merge gap w more) (joined_is p q s) ∙ sym (merge_append gap [] (p ++ q) more)

  -- their book joins as they do
  book_joins : (p rows : List Row) → Sound gap p → AreSoundRows rows
      → merge gap p (book_together gap rows) ≡ merge gap p rows
  book_joins p rows s t =
      one_book gap (witnesses p ++ witnesses rows) (merge gap p (book_together gap rows))
      (merge gap p rows)
      (merged gap (witnesses p) (witnesses rows) p (book_together gap rows)
      (witnessed gap p pos s) (together gap rows pos t))
      (joined_rows gap (witnesses p) p rows pos t (witnessed gap p pos s))

  pub nothing_is_lost : NothingIsLost gap
  nothing_is_lost old rows own so sr s taken =
      ap (λ w. merge gap w (new_rows old rows)) (sym taken)
      ∙ joined_twice own old (new_rows old rows) s
      ∙ order_is_free gap pos ((own ++ old) ++ new_rows old rows) ((own ++ old) ++ rows)
      (sound_both (own ++ old) (new_rows old rows) (sound_both own old s.each so)
      (sound_new old rows sr)) (new_fill own old rows)
      ∙ sym (joined_twice own old rows s)
      ∙ ap (λ w. merge gap w rows) taken

  -- rows that are there already, or joined before, change nothing
  repeats : (p q : List Row) → Sound gap p → AreSoundRows q → ((x : Row) → x ∈ q → x ∈ p)
      → HasMerged gap p q
  repeats p q s t within = joined_is p q s
      ∙ order_is_free gap pos (p ++ q) p (sound_both p q s.each t) (λ x. (
        λ h. elim (in_either x p q h) [ inl k ↦ k | inr k ↦ within x k ],
        λ h. in_left x p q h,
      ))
      ∙ of_itself p s

  repeated : (p q more : List Row) → Sound gap p → AreSoundRows q → AreSoundRows more
      → ((x : Row) → x ∈ more → x ∈ (p ++ q)) → HasMerged gap (merge gap p q) more
  repeated p q more s t u within = joined_twice p q more s
      ∙ order_is_free gap pos ((p ++ q) ++ more) (p ++ q)
      (sound_both (p ++ q) more (sound_both p q s.each t) u) (λ x. (
        λ h. elim (in_either x (p ++ q) more h) [ inl k ↦ k | inr k ↦ within x k ],
        λ h. in_left x (p ++ q) more h,
      ))
      ∙ sym (joined_is p q s)

  -- what was taken before more rows came
  keeps_taken : (old own more : List Row) → AreSoundRows old → Sound gap own → AreSoundRows more
      → HasMerged gap own old → HasMerged gap (merge gap own more) old
  keeps_taken old own more so s sm taken =
      ap (λ w. merge gap (merge gap w more) old) (sym taken)
      ∙ ap (λ w. merge gap w old) (joined_twice own old more s)
      ∙ sym (merge_append gap [] ((own ++ old) ++ more) old)
      ∙ order_is_free gap pos (((own ++ old) ++ more) ++ old) ((own ++ old) ++ more)
      (sound_both ((own ++ old) ++ more) old
      (sound_both (own ++ old) more (sound_both own old s.each so) sm) so) (λ x. (
        λ h. elim (in_either x ((own ++ old) ++ more) old h) [
          | inl k ↦ k
          | inr k ↦ in_left x (own ++ old) more (in_right x own old k)
        ],
        λ h. in_left x ((own ++ old) ++ more) old h,
      ))
      ∙ sym (joined_twice own old more s)
      ∙ ap (λ w. merge gap w more) taken

  pub taken_is_kept : TakenIsKept gap
  taken_is_kept old own more so s sm = (
    repeats own own s s.each (λ x h. h),
    keeps_taken old own more so s sm,
    repeated own more more s sm sm (λ x h. in_right x own more h),
  )

  -- ---- nothing new

  none_new : (old rows : List Row) → ((x : Row) → x ∈ rows → x ∈ old) → new_rows old rows ≡ []
  none_new old rows within = by (new_rows old rows) (λ x h.
      let t = (new_are_lacking old rows x).0 h in t.1 (within x t.0)) where
        by : (xs : List Row) → ((x : Row) → x ∈ xs → ⊥) → xs ≡ []
        by [] none = refl
        by (x ∷ xs) none = absurd (none x (inl refl))

  pub merged_is_no_more : MergedIsNoMore gap
  merged_is_no_more old rows own so sr s taken =
      nothing_is_lost old (merge gap old rows) own so.each (joined_sound old rows so sr).each s taken
      ∙ ap (λ w. merge gap own w) (joined_is old rows so)
      ∙ book_joins own (old ++ rows) s (sound_both old rows so.each sr)
      ∙ merge_append gap own old rows
      ∙ ap (λ w. merge gap w rows) taken

  pub none_is_new : NoneIsNew gap
  none_is_new old rows so sr = (
    none_new old old (λ x h. h),
    (
      λ e. sym (ap (λ w. merge gap old w) (sym e)
          ∙ merged_is_no_more old rows old so sr so (repeats old old so so.each (λ x h. h))),
      λ taken. ap (λ w. new_rows old w) taken ∙ none_new old old (λ x h. h),
    ),
  )

  -- ---- one after another

  abbrev all_of : List (List Row) → List Row
  all_of = flat_map (λ rows. rows)

  taken_together : (own : List Row) (books : List (List Row))
      → take_all gap own books ≡ merge gap own (all_of books)
  taken_together own [] = refl
  taken_together own (rows ∷ books) =
      taken_together (merge gap own rows) books ∙ sym (merge_append gap own rows (all_of books))

  in_all : (books : List (List Row)) (x : Row) → x ∈ all_of books
      → (rows : List Row) × (rows ∈ books) × (x ∈ rows)
  in_all [] x h = absurd h
  in_all (rows ∷ books) x h = elim (in_either x rows (all_of books) h) [
    | inl k ↦ (rows, inl refl, k)
    | inr k ↦ let t = in_all books x k in (t.0, inr t.1, t.2)
  ]

  to_all : (books : List (List Row)) (rows : List Row) (x : Row) → rows ∈ books → x ∈ rows
      → x ∈ all_of books
  to_all [] rows x h k = absurd h
  to_all (own ∷ books) rows x (inl e) k =
      in_left x own (all_of books) (subst (λ (w : List Row). x ∈ w) (sym e) k)
  to_all (own ∷ books) rows x (inr h) k =
      in_right x own (all_of books) (to_all books rows x h k)

  sound_all : (books : List (List Row)) → AreSoundBooks books → AreSoundRows (all_of books)
  sound_all books s x h = let t = in_all books x h in s t.0 t.1 x t.2

  -- in any order and with any repeats
  taken_freely : (own : List Row) (books came : List (List Row)) → Sound gap own
      → AreSoundBooks books → SameMembers came books
      → take_all gap own came ≡ take_all gap own books
  taken_freely own books came s sb e =
      taken_together own came
      ∙ joined_is own (all_of came) s
      ∙ order_is_free gap pos (own ++ all_of came) (own ++ all_of books)
      (sound_both own (all_of came) s.each
      (sound_all came (λ rows h. sb rows ((e rows).0 h)))) (λ x. (
        λ h. elim (in_either x own (all_of came) h) [
          | inl k ↦ in_left x own (all_of books) k
          | inr k ↦ let t = in_all came x k in
              in_right x own (all_of books) (to_all books t.0 x ((e t.0).0 t.1) t.2)
        ],
        λ h. elim (in_either x own (all_of books) h) [
          | inl k ↦ in_left x own (all_of came) k
          | inr k ↦ let t = in_all books x k in
              in_right x own (all_of came) (to_all came t.0 x ((e t.0).1 t.1) t.2)
        ],
      ))
      ∙ sym (joined_is own (all_of books) s)
      ∙ sym (taken_together own books)

  sound_news : (old : List Row) (books : List (List Row)) → AreSoundBooks books
      → AreSoundBooks (news_of gap old books)
  sound_news old [] sb rows h = absurd h
  sound_news old (own ∷ books) sb rows (inl e) =
      subst (λ (w : List Row). AreSoundRows w) e (sound_new old own (sb own (inl refl)))
  sound_news old (own ∷ books) sb rows (inr h) =
      sound_news (merge gap old own) books (λ r k. sb r (inr k)) rows h

  -- a place that has taken `old` and then a book has taken what these two are together
  both_taken : (old own rows : List Row) → Sound gap old → Sound gap own → AreSoundRows rows
      → HasMerged gap own old → HasMerged gap (merge gap own rows) (merge gap old rows)
  both_taken old own rows so s sr taken =
      let next = merge gap own rows in
      let t = taken_is_kept old own rows so.each s sr in
      ap (λ w. merge gap next w) (joined_is old rows so)
      ∙ book_joins next (old ++ rows) (joined_sound own rows s sr) (sound_both old rows so.each sr)
      ∙ merge_append gap next old rows
      ∙ ap (λ w. merge gap w rows) (t.1 taken)
      ∙ t.2

  news_in_order : (old own : List Row) (books : List (List Row)) → Sound gap old → Sound gap own
      → AreSoundBooks books → HasMerged gap own old
      → take_all gap own (news_of gap old books) ≡ take_all gap own books
  news_in_order old own [] so s sb taken = refl
  news_in_order old own (rows ∷ books) so s sb taken =
      let sr = sb rows (inl refl) in
      ap (λ w. take_all gap w (news_of gap (merge gap old rows) books))
      (nothing_is_lost old rows own so.each sr s taken)
      ∙ news_in_order (merge gap old rows) (merge gap own rows) books (joined_sound old rows so sr)
      (joined_sound own rows s sr) (λ r h. sb r (inr h)) (both_taken old own rows so s sr taken)

  pub news_come_freely : NewsComeFreely gap
  news_come_freely old own books came so s sb taken e =
      taken_freely own (news_of gap old books) came s (sound_news old books sb) e
      ∙ news_in_order old own books so s sb taken

  -- ---- at once

  taken_then : (own : List Row) (books others : List (List Row))
      → take_all gap (take_all gap own books) others ≡ take_all gap own (books ++ others)
  taken_then own [] others = refl
  taken_then own (rows ∷ books) others = taken_then (merge gap own rows) books others

  pub news_stand : NewsStandForBooks gap
  news_stand old own books others came so s sb st taken e =
      let all = all_of books in
      let rows = book_together gap (old ++ all) in
      let sound : Sound gap rows = book_is_sound gap pos (old ++ all)
      (sound_both old all so.each (sound_all books sb)) in
      let sent = new_rows old rows in
      let each : AreSoundBooks (sent ∷ others) = λ x h. elim h [
        | inl same ↦ subst (λ (w : List Row). AreSoundRows w) same (sound_new old rows sound.each)
        | inr k ↦ st x k
      ] in
      let joined : merge gap own sent ≡ take_all gap own books =
      ap (λ w. merge gap own (new_rows old w)) (sym (joined_is old all so))
      ∙ merged_is_no_more old all own so (sound_all books sb) s taken
      ∙ sym (taken_together own books) in
      taken_freely own (sent ∷ others) came s each e
      ∙ ap (λ w. take_all gap w others) joined
      ∙ taken_then own books others
