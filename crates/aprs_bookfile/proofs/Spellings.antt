-- Lemmas on the fields of a row's line.
use Rattle.aprs_bookfile.proofs.Common.{◌≡◌, ℕ, zero, suc, ◌/◌, ◌%◌, ◌<◌, ◌≤◌, Bool, true, List, [], ◌∷◌, ◌++◌, length, get_or, Option, Some, None, Ok, refl, sym, ap, ◌∙◌, subst, append_assoc, arith, rules, ◌↔◌, All, IsTrue, codes, join_with_byte, AllByRecursion, list_all, and_parts, nat_tests, All-nil, All-push, recursion_from_All, encode_lower, lower_digits, IsBytes, fraction_text, two_digits, IsWritable, moment_in, civil_text, Civil, MomentForm, Seconds, Millis, IsName, is_name_byte, text-moment_in, one_text, moment_text-is, millis_kept, same_text, Row, last_moment, frame_or_fault, frame_fault, unless_fault, FrameFault}
use Rattle.hex.specs.Hex.{encode_with}
use Rattle.aprs_log.specs.Moment.{moment_text_in}
use Rattle.aprs_log.specs.CivilMoment.{IsMomentTextIn, civil_after}
use Rattle.aprs_bookfile.specs.Lines.{pieces}
use Rattle.aprs_io.specs.Cut.{Lacks}
use Rattle.aprs_bookfile.specs.Text.{fields_of, row_line, IsSpelled}
use Rattle.aprs_bookfile.proofs.Cuts.{lacks_joined, pieces_joined, joined_pieces}

-- ---- moments

pub moment_found : (form : MomentForm) (t : List ℕ) (m : ℕ) → m ≤ 4102444799999
    → IsMomentTextIn form m t
    → IsWritable form m × (t ≡ moment_text_in form m)
moment_found form t m h is =
    let whole = millis_kept form m t is in (
      record { in_range = h; whole = whole },
      one_text form m t (moment_text_in form m) is
          (moment_text-is form m h whole),
    )

-- what is read of the text of a moment that can be written
pub moment_read : (form : MomentForm) (m : ℕ) → IsWritable form m
    → moment_in form (moment_text_in form m) ≡ Some m
moment_read form m h = text-moment_in form (moment_text_in form m) m
    (moment_text-is form m h.in_range h.whole)

pub moment_missed : (form : MomentForm) (t : List ℕ) → moment_in form t ≡ None → (m : ℕ)
    → IsWritable form m → t ≡ moment_text_in form m → ⊥
moment_missed form t none m h e =
    let f : None ≡ Some m = sym none ∙ ap (moment_in form) e ∙ moment_read form m h in
    cc

-- ---- no field but the receivers' has a byte below `-`

abbrev pub High : List ℕ → Type 0
High text = AllByRecursion (λ b. 45 ≤ b) text

pub high_lacks : (c : ℕ) (text : List ℕ) → c < 45 → High text → Lacks c text
high_lacks c [] h high = tt
high_lacks c (b ∷ text) h high = let low = high.0 in
    (grind (arith, nat_tests), high_lacks c text h high.1)

high_two : (n : ℕ) (rest : List ℕ) → High rest → High (two_digits n ++ rest)
high_two n rest h = (omega arith, (omega arith, h))

high_end : (form : MomentForm) (n : ℕ) → High (fraction_text form n ++ 90 ∷ [])
high_end Seconds n = search rules
high_end Millis n = (omega arith, (omega arith, high_two (n % 100) (90 ∷ []) (omega arith, tt)))

high_civil : (form : MomentForm) (c : Civil) (n : ℕ) → High (civil_text form c n)
high_civil form c n =
    let end = fraction_text form n ++ 90 ∷ [] in
    let second = 58 ∷ two_digits c.second ++ end in
    let minute = 58 ∷ two_digits c.minute ++ second in
    let hour = 84 ∷ two_digits c.hour ++ minute in
    let day = 45 ∷ two_digits c.day ++ hour in
    let month = 45 ∷ two_digits c.month ++ day in
    let s : High second = (omega arith, high_two c.second end (high_end form n)) in
    let m : High minute = (omega arith, high_two c.minute second s) in
    let h : High hour = (omega arith, high_two c.hour minute m) in
    let d : High day = (omega arith, high_two c.day hour h) in
    let o : High month = (omega arith, high_two c.month day d) in
    high_two (c.year / 100) (two_digits (c.year % 100) ++ month) (high_two (c.year % 100) month o)

pub high_moment : (form : MomentForm) (m : ℕ) → High (moment_text_in form m)
high_moment form m =
    subst High (sym (same_text form m)) (high_civil form (civil_after (m / 1000)) (m % 1000))

name_byte : (b : ℕ) → is_name_byte b ≡ true → 45 ≤ b
name_byte b h = grind (arith, nat_tests)

high_bytes : (r : List ℕ) → list_all is_name_byte r ≡ true → High r
high_bytes [] h = tt
high_bytes (b ∷ r) h = let p = and_parts _ _ h in (name_byte b p.0, high_bytes r p.1)

pub name_len : (r : List ℕ) → IsName r → length r ≤ 16
name_len r h = grind (arith, nat_tests)

pub high_name : (r : List ℕ) → IsName r → High r
high_name r h = high_bytes r (and_parts _ _ h).1

-- ---- digits

high_at : (table : List ℕ) (n : ℕ) → n < length table → High table → 45 ≤ get_or table n 0
high_at [] n h high = absurd (omega arith)
high_at (b ∷ table) zero h high = high.0
high_at (b ∷ table) (suc n) h high = high_at table n (omega arith) high.1

high_table : High lower_digits
high_table = search rules

pub high_digits : (bytes : List ℕ) → IsBytes bytes → High (encode_lower bytes)
unfolding encode_with
high_digits [] h = tt
high_digits (b ∷ bytes) h =
    let low : b < 256 = h 0 in (
      high_at lower_digits (b / 16) (omega arith) high_table,
      (high_at lower_digits (b % 16) (omega arith) high_table, high_digits bytes (λ i. h (suc i))),
    )

-- ---- names

high_names : (names : List (List ℕ)) → AllByRecursion IsName names → AllByRecursion High names
high_names [] h = tt
high_names (r ∷ names) h = (high_name r h.0, high_names names h.1)

lack_all : (c : ℕ) → c < 45 → (names : List (List ℕ)) → AllByRecursion High names
    → AllByRecursion (Lacks c) names
lack_all c low [] h = tt
lack_all c low (r ∷ names) h = (high_lacks c r low h.0, lack_all c low names h.1)

all_names : (names : List (List ℕ)) → All IsName names → AllByRecursion High names
all_names names h = high_names names (recursion_from_All IsName names h)

pub names_pieces : (names : List (List ℕ)) → 0 < length names → All IsName names
    → pieces 44 (join_with_byte 44 names) ≡ names
names_pieces names some h = pieces_joined 44 names some
    (lack_all 44 (omega arith) names (all_names names h))

-- a byte below the comma
pub lacks_names : (c : ℕ) (names : List (List ℕ)) → c < 44 → All IsName names
    → Lacks c (join_with_byte 44 names)
lacks_names c names low h = lacks_joined c 44 names (grind (arith, nat_tests))
    (lack_all c (omega arith) names (all_names names h))

-- ---- a row's line

pub row_fields_lack : (form : MomentForm) (c : ℕ) (x : Row) → c < 44 → IsSpelled form x
    → AllByRecursion (Lacks c) (fields_of form x)
row_fields_lack form c x low h =
    let below : c < 45 = omega arith in (
      high_lacks c (codes "T") below (search rules),
      (
        high_lacks c (moment_text_in form x.first) below (high_moment form x.first),
        (
          high_lacks c (moment_text_in form (last_moment x)) below (high_moment form (last_moment x)),
          (
            lacks_names c x.receivers low h.receivers,
            (
              high_lacks c x.greatest.receiver below (high_name x.greatest.receiver h.receiver),
              (
                high_lacks c (encode_lower x.greatest.frame) below
                    (high_digits x.greatest.frame h.bytes),
                tt,
              ),
            ),
          ),
        ),
      ),
    )

pub row_pieces : (form : MomentForm) (x : Row) → IsSpelled form x
    → pieces 32 (row_line form x) ≡ fields_of form x
row_pieces form x h = pieces_joined 32 (fields_of form x) (omega arith)
    (row_fields_lack form 32 x (omega arith) h)

-- what the fields of a line are that spells a row
pub record SameFields (form : MomentForm) (x : Row) (t f l n w d : List ℕ) : Type 0 where
  pub tag : t ≡ codes "T"
  pub first : f ≡ moment_text_in form x.first
  pub last : l ≡ moment_text_in form (last_moment x)
  pub receivers : n ≡ join_with_byte 44 x.receivers
  pub receiver : w ≡ x.greatest.receiver
  pub frame : d ≡ encode_lower x.greatest.frame

module _ (form : MomentForm) (line t f l n w d : List ℕ)
    (is : pieces 32 line ≡ t ∷ f ∷ l ∷ n ∷ w ∷ d ∷ []) where
  pub same_fields : (x : Row) → IsSpelled form x → line ≡ row_line form x
      → SameFields form x t f l n w d
  same_fields x h e =
      let same : t ∷ f ∷ l ∷ n ∷ w ∷ d ∷ [] ≡ fields_of form x = sym is ∙ ap (pieces 32) e
      ∙ row_pieces form x h in
      let lists : t ∷ f ∷ l ∷ n ∷ w ∷ d ∷ [] ≡ codes "T" ∷ moment_text_in form x.first
      ∷ moment_text_in form (last_moment x) ∷ join_with_byte 44 x.receivers ∷ x.greatest.receiver
      ∷ encode_lower x.greatest.frame ∷ [] = same in
      record { tag = cc; first = cc; last = cc; receivers = cc; receiver = cc; frame = cc }

  pub spelled_by : (x : Row) → SameFields form x t f l n w d → line ≡ row_line form x
  spelled_by x s =
      let fields : t ∷ f ∷ l ∷ n ∷ w ∷ d ∷ [] ≡ fields_of form x =
      cc (s.tag, s.first, s.last, s.receivers, s.receiver, s.frame) in
      joined_pieces 32 line (t ∷ f ∷ l ∷ n ∷ w ∷ d ∷ []) is ∙ ap (join_with_byte 32) fields

-- a row's line has six pieces
pub six_pieces : (form : MomentForm) (x : Row) (line : List ℕ) → IsSpelled form x
    → ¬ (length (pieces 32 line) ≡ 6) → line ≡ row_line form x → ⊥
six_pieces form x line h other e = other (ap (λ l. length (pieces 32 l)) e
    ∙ ap length (row_pieces form x h))

-- ---- names tested one by one

at_middle : {X : Type 0} (P : X → Type 0) (a : List X) (x : X) (b : List X)
    → AllByRecursion P (a ++ x ∷ b) → P x
at_middle P [] x b h = h.0
at_middle P (y ∷ a) x b h = at_middle P a x b h.1

-- the pieces are some names, and then these
pub record NamesFirst (ps rest : List (List ℕ)) : Type 0 where
  pub names : List (List ℕ)
  pub are : All IsName names
  pub is : ps ≡ names ++ rest

pub NamesFirst-none : (ps : List (List ℕ)) → NamesFirst ps ps
NamesFirst-none ps = record { names = []; are = All-nil IsName; is = refl }

pub NamesFirst-more : (ps : List (List ℕ)) (piece : List ℕ) (rest more : List (List ℕ))
    → NamesFirst ps rest → rest ≡ piece ∷ more → IsName piece → NamesFirst ps more
NamesFirst-more ps piece rest more n e h = record {
  names = n.names ++ piece ∷ [];
  are = All-push IsName n.names piece n.are h;
  is = n.is ∙ ap (λ r. n.names ++ r) e ∙ sym (append_assoc n.names (piece ∷ []) more);
}

-- a piece that is no name
pub NamesFirst-not : (ps : List (List ℕ)) (piece : List ℕ) (rest more : List (List ℕ))
    → NamesFirst ps rest → rest ≡ piece ∷ more → ¬ IsName piece → ¬ All IsName ps
NamesFirst-not ps piece rest more n e other all = other (at_middle IsName n.names piece more
    (subst (AllByRecursion IsName) (n.is ∙ ap (λ r. n.names ++ r) e)
    (recursion_from_All IsName ps all)))

-- the last piece decides
pub NamesFirst-last : (ps : List (List ℕ)) (last : List ℕ) (rest : List (List ℕ))
    → NamesFirst ps rest → rest ≡ last ∷ [] → (answer : Bool) → IsTrue answer ↔ IsName last
    → IsTrue answer ↔ All IsName ps
NamesFirst-last ps last rest n e answer d =
    let is : ps ≡ n.names ++ last ∷ [] = n.is ∙ ap (λ r. n.names ++ r) e in (
      λ yes. subst (All IsName) (sym is) (All-push IsName n.names last n.are (d.0 yes)),
      λ all. d.1 (at_middle IsName n.names last [] (subst (AllByRecursion IsName) is
          (recursion_from_All IsName ps all))),
    )

-- a frame is its bytes
pub frame_is : (bytes frame : List ℕ) → frame_or_fault bytes ≡ Ok frame → frame ≡ bytes
frame_is bytes frame e = go (frame_fault bytes) e where
  go : (o : Option FrameFault) → unless_fault bytes o ≡ Ok frame → frame ≡ bytes
  go None e = cc
  go (Some f) e = absurd cc
