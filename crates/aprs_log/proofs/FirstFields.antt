-- Lemmas on the first field of a text.
use Rattle.aprs_log.proofs.Common.{◌≡◌, ◌⊎◌, inl, inr, ℕ, ◌+◌, ◌<◌, ◌≤◌, suc, ◌&&◌, Bool, true, false, not, cond, List, [], ◌∷◌, ◌++◌, length, take, drop, slice_index, Option, None, Some, Err, nat_le, nat_lt, refl, arith, sym, ap, ◌∙◌, subst, take-append-drop, MatchOption, list_all, position, position_or_len, take-append_seam, and_from, le-leb, leb-true, ltb-true, nat_tests, drop_more, get_or-append-add, get_or-take, length-take-le, Cut, Lacks, cut_at-after, cut_at-append, cut_at-parts}
use Rattle.aprs_io.specs.Cut.{cut_at}
use Rattle.std.proofs.lemmas.List.{length-append}
use Rattle.aprs_log.specs.Fields.{EndsMoment, EndsNoMoment, HasSpace, TakesMoment, TakesName, TakesNoMoment, TakesNoName, ends_name}
use Rattle.aprs_log.specs.Line.{line_of, line_of_digits}
use Rattle.aprs_log.specs.declared.fault.LineFault.TheVariants as fault
use Rattle.aprs_log.specs.MomentReading.{moment_of}
use Rattle.aprs_log.specs.Receiver.{IsName, is_name_byte}
use Rattle.aprs_log.proofs.Clocks.{moment_of-inside, moment_of-length}
use Rattle.aprs_log.proofs.Lines.{IsName-lacks, MomentText-lacks, both, line_of-fields, line_of-no_moment, line_of-no_name, line_of-one_cut, line_of-uncut}
use Rattle.aprs_log.proofs.Moments.{moment_of-text}
use Rattle.aprs_log.specs.declared.line.TheConstants.{MAX_LINE}

-- a text that has a space at n
at_space : (text : List ℕ) (n : ℕ) → n < length text → slice_index text n ≡ 32
    → text ≡ take n text ++ 32 ∷ drop (n + 1) text
at_space text n h e =
    sym (take-append-drop n text) ∙ ap (λ l. take n text ++ l) (drop_more text n 0 h)
    ∙ ap (λ b. take n text ++ b ∷ drop (n + 1) text) e

-- so it is cut there, if there is no space before
cut_there : (text : List ℕ) (n : ℕ) → n < length text → slice_index text n ≡ 32
    → Lacks 32 (take n text)
    → Some (record { before = take n text; after = drop (n + 1) text }) ≡ cut_at 32 text
cut_there text n h e none =
    sym (ap (cut_at 32) (at_space text n h e)
    ∙ cut_at-append 32 (take n text) (drop (n + 1) text) none)

-- what a cut says of the text
record CutText (text : List ℕ) (cut : Cut) : Type 0 where
  whole : text ≡ cut.before ++ 32 ∷ cut.after
  prefix : take (length cut.before) text ≡ cut.before
  space : slice_index text (length cut.before) ≡ 32
  room : length cut.before < length text

cut_text : (text : List ℕ) (cut : Cut) → Some cut ≡ cut_at 32 text → CutText text cut
cut_text text cut e =
    let whole = cut_at-parts 32 text cut (sym e) in
    let n = length cut.before in
    let zero : n + 0 ≡ n = omega arith in
    let len : length (cut.before ++ 32 ∷ cut.after) ≡ n + (length cut.after + 1) =
    simp length-append (omega arith) in
    record {
      whole = whole;
      prefix = ap (λ l. take n l) whole ∙ take-append_seam cut.before (32 ∷ cut.after);
      space = ap (λ l. slice_index l n) whole
          ∙ ap (λ k. slice_index (cut.before ++ 32 ∷ cut.after) k) (sym zero)
          ∙ get_or-append-add cut.before (32 ∷ cut.after) 0 0;
      room = omega (arith, len, ap length whole);
    }

-- ---- an answer of none

pub none_matches : {A : Type 0} (r : Option A) (P : Type 0) (Q : A → Type 0) → r ≡ None → P
    → MatchOption r P Q
none_matches None P Q e p = p
none_matches (Some x) P Q e p = absurd (let no : Some x ≡ None = e in cc)

-- ---- a moment

none_if : (o : Option ℕ) → ((m : ℕ) → o ≡ Some m → ⊥) → None ≡ o
none_if None h = refl
none_if (Some m) h = absurd (h m refl)

pub EndsMoment-space : (text : List ℕ) (n : ℕ) → EndsMoment text n → HasSpace text n
EndsMoment-space text n (inl short) = subst (HasSpace text) (sym short.0) short.1
EndsMoment-space text n (inr long) = subst (HasSpace text) (sym long.0) long.1

pub TakesMoment-at : (text : List ℕ) (n m : ℕ) (rest : List ℕ) → HasSpace text n
    → moment_of (take n text) ≡ Some m → rest ≡ drop (n + 1) text → TakesMoment text m rest
TakesMoment-at text n m rest space read after = record {
  cut = record { before = take n text; after = drop (n + 1) text };
  is = cut_there text n space.0 space.1
      (MomentText-lacks m (take n text) (moment_of-text (take n text) m read));
  moment = sym read;
  rest_is = after;
}

-- the first field of a text that has a moment there
record MomentThere (text : List ℕ) (n m : ℕ) : Type 0 where
  space : HasSpace text n
  place : (n ≡ 20) ⊎ (n ≡ 24)
  read : moment_of (take n text) ≡ Some m

moment_there : (text : List ℕ) (cut : Cut) (m : ℕ) → Some cut ≡ cut_at 32 text
    → moment_of cut.before ≡ Some m
    → MomentThere text (length cut.before) m
moment_there text cut m e read =
    let t = cut_text text cut e in
    record {
      space = (t.room, t.space);
      place = moment_of-length cut.before m read;
      read = ap moment_of t.prefix ∙ read;
    }

pub TakesNoMoment-nowhere : (text : List ℕ) → EndsNoMoment text → TakesNoMoment text
TakesNoMoment-nowhere text none = λ cut e. none_if (moment_of cut.before) (λ m read.
    let there = moment_there text cut m e read in nowhere there.place there.space)
  where
    nowhere : {n : ℕ} → (n ≡ 20) ⊎ (n ≡ 24) → HasSpace text n → ⊥
    nowhere (inl e) space = none.0 (subst (HasSpace text) e space)
    nowhere (inr e) space = none.1 (subst (HasSpace text) e space)

-- where a space ends a moment, no other ends it
pub TakesNoMoment-unread : (text : List ℕ) (n : ℕ) → EndsMoment text n
    → None ≡ moment_of (take n text) → TakesNoMoment text
TakesNoMoment-unread text n ends none = λ cut e. none_if (moment_of cut.before) (λ m read.
    let there = moment_there text cut m e read in other ends there.place there.space there.read)
  where
    same : {k m : ℕ} → n ≡ k → moment_of (take k text) ≡ Some m → ⊥
    same {k} {m} e read =
        let no : None ≡ Some m = none ∙ ap (λ k. moment_of (take k text)) e ∙ read in cc

    other : {k m : ℕ} → EndsMoment text n → (k ≡ 20) ⊎ (k ≡ 24) → HasSpace text k
        → moment_of (take k text) ≡ Some m → ⊥
    other (inl short) (inl e) space read = same (short.0 ∙ sym e) read
    other (inr long) (inr e) space read = same (long.0 ∙ sym e) read
    other (inr long) (inl e) space read = long.2 (subst (HasSpace text) e space)
    other {k} {m} (inl short) (inr e) space read =
        let there = subst (HasSpace text) e space in
        moment_of-inside (take 24 text) m (ap (λ k. moment_of (take k text)) (sym e) ∙ read)
        (length-take-le 24 text (omega (arith, there.0)))
        (get_or-take 24 text 20 0 (omega arith) ∙ short.1.1)

-- ---- a name

-- the bytes before the first that no name has
names-prefix : (l : List ℕ) → list_all is_name_byte (take (position_or_len ends_name l) l) ≡ true
names-prefix [] = refl
names-prefix (x ∷ l) =
    elim (is_name_byte x) as (λ t. is_name_byte x ≡ t
    → list_all is_name_byte (take (position_or_len ends_name (x ∷ l)) (x ∷ l)) ≡ true) [
      | true ↦ λ e.
          let next : 1 + position_or_len ends_name l ≡ suc (position_or_len ends_name l) =
          omega arith in
          ap (λ t. list_all is_name_byte (take
          (cond (not (not t)) (1 + position_or_len ends_name l) 0) (x ∷ l))) e
          ∙ ap (λ n. list_all is_name_byte (take n (x ∷ l))) next
          ∙ and_from _ _ e (names-prefix l)
      | false ↦ λ e. ap (λ t. list_all is_name_byte
          (take (cond (not (not t)) (1 + position_or_len ends_name l) 0) (x ∷ l))) e
    ] refl

-- a name that ends before a space
names-end : (prefix rest : List ℕ) → list_all is_name_byte prefix ≡ true
    → position_or_len ends_name (prefix ++ 32 ∷ rest) ≡ length prefix
names-end [] rest h = refl
names-end (x ∷ prefix) rest h =
    let parts = both (is_name_byte x) (list_all is_name_byte prefix) h in
    let next : 1 + position_or_len ends_name (prefix ++ 32 ∷ rest) ≡ suc (length prefix)
    = omega (arith, names-end prefix rest parts.1) in
    ap (λ t. cond (not (not t)) (1 + position_or_len ends_name (prefix ++ 32 ∷ rest)) 0) parts.0
    ∙ next

pub IsName-prefix : (text : List ℕ) (n : ℕ) → n ≡ position_or_len ends_name text → n ≤ length text
    → 1 ≤ n → n ≤ 16 → IsName (take n text)
IsName-prefix text n e fits low high =
    let len : length (take n text) ≡ n = length-take-le n text fits in
    let some : nat_le 1 (length (take n text)) ≡ true = le-leb _ _ (omega (arith, len)) in
    let few : nat_le (length (take n text)) 16 ≡ true = le-leb _ _ (omega (arith, len)) in
    let all : list_all is_name_byte (take n text) ≡ true =
    ap (λ k. list_all is_name_byte (take k text)) e ∙ names-prefix text in
    and_from _ _ (and_from _ _ some few) all

-- where the first such byte stands
record NameEnd (text : List ℕ) (n : ℕ) : Type 0 where
  is : n ≡ position_or_len ends_name text
  room : n < length text

name_end : (text : List ℕ) (n : ℕ) → Some n ≡ position ends_name text → NameEnd text n
name_end text n e = by (nat_lt (position_or_len ends_name text) (length text)) refl e
  where
    by : (b : Bool) → b ≡ nat_lt (position_or_len ends_name text) (length text)
        → Some n ≡ cond b (Some (position_or_len ends_name text)) None → NameEnd text n
    by true t e =
        let is : n ≡ position_or_len ends_name text = cc in
        record { is = is; room = omega (arith, is, ltb-true _ _ (sym t)) }
    by false t e = absurd (let no : Some n ≡ None = e in cc)

no_name_end : (text : List ℕ) → None ≡ position ends_name text
    → length text ≤ position_or_len ends_name text
no_name_end text e = by (nat_lt (position_or_len ends_name text) (length text)) refl e
  where
    by : (b : Bool) → b ≡ nat_lt (position_or_len ends_name text) (length text)
        → None ≡ cond b (Some (position_or_len ends_name text)) None
        → length text ≤ position_or_len ends_name text
    by true t e = absurd (let no : None ≡ Some (position_or_len ends_name text) = e in cc)
    by false t e = grind (arith, nat_tests)

pub IsName-there : (text : List ℕ) (n : ℕ) → Some n ≡ position ends_name text → 1 ≤ n → n ≤ 16
    → IsName (take n text)
IsName-there text n e low high =
    let end = name_end text n e in IsName-prefix text n end.is (omega (arith, end.room)) low high

pub name_room : (text : List ℕ) (n : ℕ) → Some n ≡ position ends_name text → n < length text
name_room text n e = (name_end text n e).room

pub TakesName-at : (text : List ℕ) (n : ℕ) (r rest : List ℕ) → Some n ≡ position ends_name text
    → 1 ≤ n → n ≤ 16 → slice_index text n ≡ 32 → r ≡ take n text → rest ≡ drop (n + 1) text
    → TakesName text r rest
TakesName-at text n r rest e low high space is after =
    let name = IsName-there text n e low high in
    record {
      cut = record { before = take n text; after = drop (n + 1) text };
      is = cut_there text n (name_room text n e) space (IsName-lacks (take n text) name);
      name = name;
      name_is = is;
      rest_is = after;
    }

-- where a name would end
record NameThere (text : List ℕ) (n : ℕ) : Type 0 where
  low : 1 ≤ n
  high : n ≤ 16
  room : n < length text
  space : slice_index text n ≡ 32

name_there : (text : List ℕ) (cut : Cut) (n : ℕ) → n ≡ position_or_len ends_name text
    → Some cut ≡ cut_at 32 text
    → IsName cut.before → NameThere text n
name_there text cut n p e name =
    let t = cut_text text cut e in
    let parts = both (nat_le 1 (length cut.before) && nat_le (length cut.before) 16)
    (list_all is_name_byte cut.before) name in
    let size = both (nat_le 1 (length cut.before)) (nat_le (length cut.before) 16) parts.0 in
    let same : n ≡ length cut.before
    = p ∙ ap (position_or_len ends_name) t.whole ∙ names-end cut.before cut.after parts.1 in
    record {
      low = omega (arith, same, leb-true _ _ size.0);
      high = omega (arith, same, leb-true _ _ size.1);
      room = omega (arith, same, t.room);
      space = ap (λ k. slice_index text k) same ∙ t.space;
    }

pub TakesNoName-no_end : (text : List ℕ) → None ≡ position ends_name text → TakesNoName text
TakesNoName-no_end text none = λ cut e name.
    let there = name_there text cut _ refl e name in
    omega (arith, there.room, no_name_end text none)

pub TakesNoName-if : (text : List ℕ) (n : ℕ) → Some n ≡ position ends_name text
    → (1 ≤ n → n ≤ 16 → slice_index text n ≡ 32 → ⊥) → TakesNoName text
TakesNoName-if text n p h = λ cut e name.
    let there = name_there text cut n (name_end text n p).is e name in
    h there.low there.high there.space

-- ---- a line, field by field

module _ (l : List ℕ) (short : length l ≤ MAX_LINE) where
  no_moment_by : (o : Option Cut) → o ≡ cut_at 32 l → TakesNoMoment l → Err fault.Moment ≡ line_of l
  no_moment_by None e none = line_of-uncut l short e
  no_moment_by (Some cut) e none = line_of-no_moment l short cut e (none cut e)

  pub line_of-takes_no_moment : TakesNoMoment l → Err fault.Moment ≡ line_of l
  line_of-takes_no_moment = no_moment_by (cut_at 32 l) refl

  module _ (m : ℕ) (rest : List ℕ) (first : TakesMoment l m rest) where
    no_name_by : (o : Option Cut) → o ≡ cut_at 32 first.cut.after
        → ((cut : Cut) → Some cut ≡ cut_at 32 first.cut.after → ¬ IsName cut.before)
        → Err fault.Receiver ≡ line_of l
    no_name_by None e none = line_of-one_cut l short first.cut m first.is first.moment e
    no_name_by (Some cut) e none = line_of-no_name l short first.cut cut m first.is first.moment e
        (none cut e)

    pub line_of-takes_no_name : TakesNoName rest → Err fault.Receiver ≡ line_of l
    line_of-takes_no_name none =
        no_name_by (cut_at 32 first.cut.after) refl
        (λ cut e. none cut (e ∙ ap (cut_at 32) (sym first.rest_is)))

    pub line_of-takes : (r digits : List ℕ) → TakesName rest r digits
        → line_of_digits m r digits ≡ line_of l
    line_of-takes r digits next =
        ap (λ d. line_of_digits m r d) next.rest_is
        ∙ line_of-fields l short first.cut next.cut m r first.is first.moment
        (next.is ∙ ap (cut_at 32) first.rest_is) next.name next.name_is

    -- what is left is no longer than the line
    pub digits_fit : (r digits : List ℕ) → TakesName rest r digits → length digits ≤ MAX_LINE
    digits_fit r digits next =
        omega (
          arith,
          short,
          cut_at-after 32 l first.cut first.is,
          cut_at-after 32 rest next.cut next.is,
          ap length first.rest_is,
          ap length next.rest_is,
        )
