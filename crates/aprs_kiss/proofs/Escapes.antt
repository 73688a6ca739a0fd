-- Lemmas on what a list of bytes spells.
use Rattle.aprs_kiss.proofs.Common.{◌≡◌, ◌≢◌, ℕ, ◌∙◌, sym, ap, refl, Bool, true, false, List, [], ◌∷◌, ◌++◌, map, append_assoc, append-nil, arith, ◌⊎◌, inl, inr, Option, None, Some, slice_split, onto_first, AllByRecursion, option_map, eqb-true, nat_tests, recursion_from_All, slice_split-cons_no, slice_split-cons_yes}
use Rattle.std.specs.Borrow.{Bor}
use Rattle.std.proofs.lemmas.Grind.{flat_map-append}
use Rattle.aprs_kiss.specs.Plain.{IsPlain, CutsPlain, is_special}
use Rattle.aprs_kiss.specs.Spelling.{HasNoEnd, is_frame_end, is_escape, kiss_text, spelling_of_byte, spelling_of}
use Rattle.aprs_kiss.specs.Unspelling.{bytes_after_escape, concat_all, bytes_of_parts, spelled_bytes}

pub is_true_or_not : (b : Bool) → (b ≡ true) ⊎ (b ≡ false)
is_true_or_not true = inl refl
is_true_or_not false = inr refl

pub not_escape : (x : ℕ) → is_special x ≡ false → is_escape x ≡ false
not_escape x h = grind (arith, nat_tests)

pub not_end : (x : ℕ) → is_special x ≡ false → is_frame_end x ≡ false
not_end x h = grind (arith, nat_tests)

is_some_or_none : (o : Option (List ℕ)) → ((l : List ℕ) × (o ≡ Some l)) ⊎ (o ≡ None)
is_some_or_none None = inr refl
is_some_or_none (Some l) = inl (l, refl)

-- ---- what is spelled, from its first byte on

pub unspelled-nil : spelled_bytes [] ≡ Some []
unfolding spelled_bytes
unspelled-nil = refl

-- nothing follows the escape
pub unspelled-open : spelled_bytes (0xDB ∷ []) ≡ None
unfolding spelled_bytes
unspelled-open = refl

parts_plain : (x : ℕ) (parts : List (List ℕ))
    → bytes_of_parts (onto_first x parts) ≡ option_map (λ l. x ∷ l) (bytes_of_parts parts)
parts_plain x [] = refl
parts_plain x (part ∷ parts) =
    let o = concat_all (map bytes_after_escape parts) in
    elim o as
    (λ o. option_map (λ more. (x ∷ part) ++ more) o
    ≡ option_map (λ l. x ∷ l) (option_map (λ more. part ++ more) o))
    [ None ↦ refl | Some l ↦ refl ]

-- any other byte stands for itself
pub unspelled-plain : (x : ℕ) (more : List ℕ) → is_escape x ≡ false
    → spelled_bytes (x ∷ more) ≡ option_map (λ l. x ∷ l) (spelled_bytes more)
unfolding spelled_bytes
unspelled-plain x more h =
    ap bytes_of_parts (slice_split-cons_no is_escape x more h)
    ∙ parts_plain x (slice_split is_escape more)

parts_escaped : (code x : ℕ) (parts : List (List ℕ))
    → ((bytes : List ℕ) → bytes_after_escape (code ∷ bytes) ≡ Some (x ∷ bytes))
    → bytes_of_parts ([] ∷ onto_first code parts) ≡ option_map (λ l. x ∷ l) (bytes_of_parts parts)
parts_escaped code x [] h = rw (h []) refl
parts_escaped code x (part ∷ parts) h =
    rw (h part)
    (elim (concat_all (map bytes_after_escape parts))
    as (λ o. option_map (λ l. l) (option_map (λ more. (x ∷ part) ++ more) o)
    ≡ option_map (λ l. x ∷ l) (option_map (λ more. part ++ more) o))
    [ None ↦ refl | Some l ↦ refl ])

-- FESC TFEND and FESC TFESC
pub unspelled-end : (more : List ℕ)
    → spelled_bytes (0xDB ∷ 0xDC ∷ more) ≡ option_map (λ l. 0xC0 ∷ l) (spelled_bytes more)
unfolding spelled_bytes
unspelled-end more = parts_escaped 0xDC 0xC0 (slice_split is_escape more) (λ _. refl)

pub unspelled-escape : (more : List ℕ)
    → spelled_bytes (0xDB ∷ 0xDD ∷ more) ≡ option_map (λ l. 0xDB ∷ l) (spelled_bytes more)
unfolding spelled_bytes
unspelled-escape more = parts_escaped 0xDD 0xDB (slice_split is_escape more) (λ _. refl)

-- an escape before another
pub unspelled-twice : (more : List ℕ) → spelled_bytes (0xDB ∷ 0xDB ∷ more) ≡ None
unfolding spelled_bytes
unspelled-twice more = refl

parts_broken : (x : ℕ) (parts : List (List ℕ)) → x ≢ 0xDC → x ≢ 0xDD
    → bytes_of_parts ([] ∷ onto_first x parts) ≡ None
parts_broken x [] h g = grind (arith, nat_tests)
parts_broken x (part ∷ parts) h g = grind (arith, nat_tests)

-- an escape before any other byte
pub unspelled-broken : (x : ℕ) (more : List ℕ) → x ≢ 0xDC → x ≢ 0xDD
    → spelled_bytes (0xDB ∷ x ∷ more) ≡ None
unfolding spelled_bytes
unspelled-broken x more h g =
    elim (is_true_or_not (is_escape x)) as (λ _. spelled_bytes (0xDB ∷ x ∷ more) ≡ None) [
      | inl e ↦ rw (slice_split-cons_yes is_escape x more e) refl
      | inr e ↦ rw (slice_split-cons_no is_escape x more e)
          (parts_broken x (slice_split is_escape more) h g)
    ]

-- ---- spelling and reading back

-- what a byte is sent as, by cases
record SpelledByte (x : ℕ) : Type 0 where
  reads : (more : List ℕ)
      → spelled_bytes (spelling_of_byte x ++ more) ≡ option_map (λ l. x ∷ l) (spelled_bytes more)

spelled_byte : (x : ℕ) → SpelledByte x
spelled_byte x = record {
  reads = λ more.
      elim (is_true_or_not (is_frame_end x))
      as (λ _. spelled_bytes (spelling_of_byte x ++ more)
      ≡ option_map (λ l. x ∷ l) (spelled_bytes more)) [
        | inl e ↦ let n : x ≡ 0xC0 = eqb-true x 0xC0 e in rw n (unspelled-end more)
        | inr e ↦ elim (is_true_or_not (is_escape x))
            as (λ _. spelled_bytes (spelling_of_byte x ++ more)
            ≡ option_map (λ l. x ∷ l) (spelled_bytes more)) [
              | inl d ↦ let n : x ≡ 0xDB = eqb-true x 0xDB d in rw n (unspelled-escape more)
              | inr d ↦ rw (e, d) (unspelled-plain x more d)
            ]
      ];
}

option_map-cons : (x : ℕ) (bytes : List ℕ) (o : Option (List ℕ))
    → option_map (λ l. x ∷ l) (option_map (λ l. bytes ++ l) o)
    ≡ option_map (λ l. (x ∷ bytes) ++ l) o
option_map-cons x bytes None = refl
option_map-cons x bytes (Some l) = refl

option_map-nil : (o : Option (List ℕ)) → option_map (λ l. [] ++ l) o ≡ o
option_map-nil None = refl
option_map-nil (Some l) = refl

-- a list that goes on after what is spelled
pub unspelled-spelling : (bytes more : List ℕ)
    → spelled_bytes (spelling_of bytes ++ more) ≡ option_map (λ l. bytes ++ l) (spelled_bytes more)
unfolding spelling_of
unspelled-spelling [] more = sym (option_map-nil (spelled_bytes more))
unspelled-spelling (x ∷ bytes) more =
    ap spelled_bytes (append_assoc (spelling_of_byte x) (spelling_of bytes) more)
    ∙ (spelled_byte x).reads (spelling_of bytes ++ more)
    ∙ ap (option_map (λ l. x ∷ l)) (unspelled-spelling bytes more)
    ∙ option_map-cons x bytes (spelled_bytes more)

-- what is spelled reads as itself
pub unspelled-of : (bytes : List ℕ) → spelled_bytes (spelling_of bytes) ≡ Some bytes
unspelled-of bytes =
    ap spelled_bytes (sym (append-nil (spelling_of bytes))) ∙ unspelled-spelling bytes []
    ∙ ap (option_map (λ l. bytes ++ l)) unspelled-nil ∙ ap Some (append-nil bytes)

-- ---- a list that reads as some bytes is their spelling

from_more : (x : ℕ) (list more bytes : List ℕ) → list ≡ spelling_of_byte x ++ more
    → ((b : List ℕ) → spelled_bytes more ≡ Some b → more ≡ spelling_of b)
    → option_map (λ l. x ∷ l) (spelled_bytes more) ≡ Some bytes → list ≡ spelling_of bytes
unfolding spelling_of
from_more x list more bytes e ih h =
    elim (is_some_or_none (spelled_bytes more)) as (λ _. list ≡ spelling_of bytes) [
      | inl s ↦
          let same : Some (x ∷ s.0) ≡ Some bytes = ap (option_map (λ l. x ∷ l)) (sym s.1) ∙ h in
          let n : x ∷ s.0 ≡ bytes = cc in
          e ∙ ap (λ l. spelling_of_byte x ++ l) (ih s.0 s.1) ∙ ap spelling_of n
      | inr s ↦
          let nothing : Option (List ℕ) = None in
          let none : nothing ≡ Some bytes = ap (option_map (λ l. x ∷ l)) (sym s) ∙ h in
          cc
    ]

-- a list that goes on as its reading does
abbrev ReadsBack : List ℕ → Type 0
ReadsBack list = (bytes : List ℕ) → spelled_bytes list ≡ Some bytes → list ≡ spelling_of bytes

reads_back_plain : (x : ℕ) (more : List ℕ) → is_frame_end x ≡ false → is_escape x ≡ false
    → ReadsBack more → ReadsBack (x ∷ more)
reads_back_plain x more d e ih bytes h =
    from_more x (x ∷ more) more bytes (rw (d, e) refl) ih (sym (unspelled-plain x more e) ∙ h)

nothing_read : (list bytes : List ℕ) → spelled_bytes list ≡ None → spelled_bytes list ≡ Some bytes → ⊥
nothing_read list bytes e h =
    let nothing : Option (List ℕ) = None in
    let none : nothing ≡ Some bytes = sym e ∙ h in
    cc

is_or_not : (x y : ℕ) → (x ≡ y) ⊎ (x ≢ y)
is_or_not x y = grind (arith, nat_tests)

reads_back_escape : (x : ℕ) (more : List ℕ) → ReadsBack more → ReadsBack (0xDB ∷ x ∷ more)
reads_back_escape x more ih bytes h =
    elim (is_or_not x 0xDC) as (λ _. 0xDB ∷ x ∷ more ≡ spelling_of bytes) [
      | inl e ↦ from_more 0xC0 (0xDB ∷ x ∷ more) more bytes (rw e refl) ih
          (sym (unspelled-end more) ∙ ap (λ x. spelled_bytes (0xDB ∷ x ∷ more)) (sym e) ∙ h)
      | inr e ↦ elim (is_or_not x 0xDD) as (λ _. 0xDB ∷ x ∷ more ≡ spelling_of bytes) [
        | inl d ↦ from_more 0xDB (0xDB ∷ x ∷ more) more bytes (rw d refl) ih
            (sym (unspelled-escape more) ∙ ap (λ x. spelled_bytes (0xDB ∷ x ∷ more)) (sym d) ∙ h)
        | inr d ↦ absurd (nothing_read (0xDB ∷ x ∷ more) bytes (unspelled-broken x more e d) h)
      ]
    ]

abbrev NoEnds : List ℕ → Type 0
NoEnds list = AllByRecursion (λ b. is_frame_end b ≡ false) list

reads_back_nil : ReadsBack []
unfolding spelling_of
reads_back_nil bytes h =
    let same : Some [] ≡ Some bytes = sym unspelled-nil ∙ h in
    let e : [] ≡ bytes = cc in
    ap spelling_of e

reads_back : (list : List ℕ) → NoEnds list → ReadsBack list
reads_back [] n bytes h = reads_back_nil bytes h
reads_back (x ∷ []) n bytes h =
    elim (is_true_or_not (is_escape x)) as (λ _. x ∷ [] ≡ spelling_of bytes) [
      | inl e ↦ absurd
          (nothing_read (0xDB ∷ []) bytes unspelled-open
          (ap (λ x. spelled_bytes (x ∷ [])) (sym (eqb-true x 0xDB e)) ∙ h))
      | inr e ↦ reads_back_plain x [] n.0 e reads_back_nil bytes h
    ]
reads_back (x ∷ y ∷ more) n bytes h =
    elim (is_true_or_not (is_escape x)) as (λ _. x ∷ y ∷ more ≡ spelling_of bytes) [
      | inl e ↦
          let same : x ≡ 0xDB = eqb-true x 0xDB e in
          ap (λ x. x ∷ y ∷ more) same
          ∙ reads_back_escape y more (reads_back more n.1.1) bytes
          (ap (λ x. spelled_bytes (x ∷ y ∷ more)) (sym same) ∙ h)
      | inr e ↦ reads_back_plain x (y ∷ more) n.0 e (reads_back (y ∷ more) n.1) bytes h
    ]

pub spelling_of-unspelled : (list bytes : List ℕ) → HasNoEnd list → spelled_bytes list ≡ Some bytes
    → list ≡ spelling_of bytes
spelling_of-unspelled list bytes n h =
    reads_back list (recursion_from_All (λ b. is_frame_end b ≡ false) list n) bytes h

-- a list that goes on after what reads as some bytes
pub unspelled-append : (list bytes more : List ℕ) → HasNoEnd list → spelled_bytes list ≡ Some bytes
    → spelled_bytes (list ++ more) ≡ option_map (λ l. bytes ++ l) (spelled_bytes more)
unspelled-append list bytes more n h =
    ap (λ l. spelled_bytes (l ++ more)) (spelling_of-unspelled list bytes n h)
    ∙ unspelled-spelling bytes more

-- bytes that are neither frame end nor escape stand for themselves
pub unspelled-run : (run : List ℕ) → AllByRecursion (λ b. is_special b ≡ false) run
    → spelled_bytes run ≡ Some run
unspelled-run [] p = unspelled-nil
unspelled-run (x ∷ run) p =
    unspelled-plain x run (not_escape x p.0) ∙ ap (option_map (λ l. x ∷ l)) (unspelled-run run p.1)

pub spelling_of-run : (run : List ℕ) → AllByRecursion (λ b. is_special b ≡ false) run
    → spelling_of run ≡ run
unfolding spelling_of
spelling_of-run [] p = refl
spelling_of-run (x ∷ run) p =
    let e : is_escape x ≡ false = not_escape x p.0 in
    let d : is_frame_end x ≡ false = not_end x p.0 in
    ap (λ l. spelling_of_byte x ++ l) (spelling_of-run run p.1) ∙ rw (d, e) refl

pub spelling_of-append : (a b : List ℕ) → spelling_of (a ++ b) ≡ spelling_of a ++ spelling_of b
unfolding spelling_of
spelling_of-append a b = flat_map-append spelling_of_byte a b

pub unspelled-run-all : (run : List ℕ) → IsPlain run → spelled_bytes run ≡ Some run
unspelled-run-all run p = unspelled-run run (recursion_from_All (λ b. is_special b ≡ false) run p)

spelling_of-cons : (mark : ℕ) (after end : List ℕ)
    → spelling_of (mark ∷ after) ++ end ≡ spelling_of_byte mark ++ (spelling_of after ++ end)
unfolding spelling_of
spelling_of-cons mark after end = append_assoc (spelling_of_byte mark) (spelling_of after) end

-- ---- a frame that is written part by part

pub spelling_of-all : (rest plain end : List ℕ) → IsPlain plain → rest ≡ plain
    → spelling_of rest ++ end ≡ plain ++ end
spelling_of-all rest plain end p e =
    ap (λ l. spelling_of l ++ end) e
    ∙ ap (λ l. l ++ end)
    (spelling_of-run plain (recursion_from_All (λ b. is_special b ≡ false) plain p))

pub spelling_of-cut : (rest plain after end : List ℕ) (mark : ℕ) → IsPlain plain
    → rest ≡ plain ++ mark ∷ after
    → spelling_of rest ++ end ≡ plain ++ (spelling_of_byte mark ++ (spelling_of after ++ end))
spelling_of-cut rest plain after end mark p e =
    ap (λ l. spelling_of l ++ end) e
    ∙ ap (λ l. l ++ end) (spelling_of-append plain (mark ∷ after))
    ∙ append_assoc (spelling_of plain) (spelling_of (mark ∷ after)) end
    ∙ ap (λ l. l ++ (spelling_of (mark ∷ after) ++ end))
    (spelling_of-run plain (recursion_from_All (λ b. is_special b ≡ false) plain p))
    ∙ ap (λ l. plain ++ l) (spelling_of-cons mark after end)

-- the plain bytes go out first, whatever follows them
pub spelling_of-prefix : (rest plain end : List ℕ) (mark : Option (ℕ × Bor (List ℕ)))
    → IsPlain plain → CutsPlain rest plain mark
    → (more : List ℕ) × (spelling_of rest ++ end ≡ plain ++ more)
spelling_of-prefix rest plain end None p e = (end, spelling_of-all rest plain end p e)
spelling_of-prefix rest plain end (Some (mark, after)) p e = (
  spelling_of_byte mark ++
      (spelling_of after.now ++ end),
  spelling_of-cut rest plain after.now end mark p e.0,
)

-- plain bytes between two frame ends are what is sent for them
pub plain_text : (frame begun put text : List ℕ) → IsPlain frame → begun ≡ 0xC0 ∷ 0 ∷ []
    → put ≡ begun ++ frame → text ≡ put ++ 0xC0 ∷ [] → text ≡ kiss_text frame
plain_text frame begun put text plain e f g =
    g ∙ ap (λ l. l ++ 0xC0 ∷ []) (f ∙ ap (λ l. l ++ frame) e)
    ∙ ap (λ l. 0xC0 ∷ 0 ∷ l) (sym (spelling_of-all frame frame (0xC0 ∷ []) plain refl))
