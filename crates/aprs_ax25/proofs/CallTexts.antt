-- Lemmas on the text of a callsign.
use Rattle.std.proofs.Common.{◌≡◌, ◌⊎◌, ℕ, ◌+◌, ◌-◌, ◌%◌, ◌≤◌, ◌<◌, ◌==◌, inl, inr, List, [], ◌∷◌, ◌++◌, length, take, drop, Bool, true, false, not, cond, ◌&&◌, nat_le, None, Some, is_none, add-zero, arith, sym, ap, ◌∙◌, refl, slice_index, subst, take-append-drop}
use Rattle.std.specs.Fmt.{decimal}
use Rattle.std.specs.Str.{IsAscii}
use Rattle.std.specs.List.{list_all, position_or_len}
use Rattle.std.proofs.lemmas.Fmt.{IsAscii-decimal}
use Rattle.std.proofs.lemmas.Str.{IsAscii-append}
use Rattle.std.proofs.lemmas.Str.Ascii.{IsAscii-nil, IsAscii-cons}
use Rattle.std.proofs.lemmas.Bool.Decides.{nat_tests}
use Rattle.std.proofs.lemmas.List.{get_or-drop, take_at, drop_at, length-drop}
use Rattle.std.proofs.lemmas.List.Folds.{length-prefix_len}
use Rattle.std.proofs.lemmas.List.Sums.{passes_at_first}
use Rattle.std.proofs.lemmas.Bool.{and_parts, and_from, leb-true, le-leb, eqb-true, ne_eqb, cases_lt}
use Rattle.aprs_ax25.specs.Callsign.{Call, IsCall, is_callsign_byte, call_text, ssid_text}
use Rattle.aprs_ax25.specs.CallText.{SpellsCall, NamesSsid, IsWrongCall, FirstCallFault, is_dash, before_dash, from_dash}
use Rattle.aprs_ax25.specs.Scan.{ssid_of, has_call_fault, call_fault}
use Rattle.aprs_ax25.specs.Fault.{call_fault_number}
use Rattle.aprs_ax25.specs.declared.fault.CallFault.{CallFault}
use Rattle.aprs_ax25.specs.declared.fault.CallFault.TheVariants.{Length, Character, Ssid}
use Rattle.aprs_ax25.proofs.Calls.{ssid_text-one, ssid_text-two}
use Rattle.aprs_ax25.proofs.Sounds.{cond-None, not-false}

some-is : {X : Type 0} (x y : X) → Some x ≡ Some y → x ≡ y
some-is x y h = cc

cond-Some : {X : Type 0} (b : Bool) (x y : X) → cond b (Some x) None ≡ Some y → (b ≡ true) × (x ≡ y)
cond-Some true x y h = (refl, some-is x y h)
cond-Some false x y h = cc

-- what an SSID is read from is its text
module _ (s : ℕ) where
  pub ssid_of-Some : (d : List ℕ) → (0 < length d → slice_index d 0 ≡ 45) → ssid_of d ≡ Some s
      → (d ≡ ssid_text s) × (s < 16)
  ssid_of-Some [] first h = let e : 0 ≡ s = some-is 0 s h in (ap ssid_text e, omega arith)
  ssid_of-Some (x ∷ []) first h = cc
  ssid_of-Some (x ∷ d ∷ []) first h =
      let p = cond-Some (nat_le 49 d && nat_le d 57) (d - 48) s h in
      let q = and_parts (nat_le 49 d) (nat_le d 57) p.0 in
      let low = leb-true 49 d q.0 in
      let high = leb-true d 57 q.1 in
      let value : d - 48 ≡ s = p.1 in
      let back : d ≡ 48 + s = omega arith in (
        ap (λ u. u ∷ d ∷ []) (first (omega arith)) ∙ ap (λ u. 45 ∷ u ∷ []) back
            ∙ sym (ssid_text-one s (omega arith) (omega arith)),
        omega arith,
      )
  ssid_of-Some (x ∷ c ∷ d ∷ []) first h =
      let p = cond-Some (c == 49 && nat_le 48 d && nat_le d 53) (d - 38) s h in
      let q = and_parts (c == 49 && nat_le 48 d) (nat_le d 53) p.0 in
      let r = and_parts (c == 49) (nat_le 48 d) q.0 in
      let one = eqb-true c 49 r.0 in
      let low = leb-true 48 d r.1 in
      let high = leb-true d 53 q.1 in
      let value : d - 38 ≡ s = p.1 in
      let back : d ≡ 48 + s % 10 = omega arith in (
        ap (λ u. u ∷ c ∷ d ∷ []) (first (omega arith)) ∙ ap (λ u. 45 ∷ u ∷ d ∷ []) one
            ∙ ap (λ u. 45 ∷ 49 ∷ u ∷ []) back
            ∙ sym (ssid_text-two s (omega arith) (omega arith)),
        omega arith,
      )
  ssid_of-Some (x ∷ b ∷ c ∷ d ∷ more) first h = cc

  ssid_of-one : 0 < s → s < 10 → ssid_of (ssid_text s) ≡ Some s
  ssid_of-one some low =
      let e : (48 + s) - 48 ≡ s = omega arith in
      ap ssid_of (ssid_text-one s some low)
      ∙ ap (λ b. cond b (Some ((48 + s) - 48)) None)
      (and_from (nat_le 49 (48 + s)) (nat_le (48 + s) 57) (le-leb 49 (48 + s) (omega arith))
      (le-leb (48 + s) 57 (omega arith)))
      ∙ ap (λ n. Some n) e

  ssid_of-two : 10 ≤ s → s < 16 → ssid_of (ssid_text s) ≡ Some s
  ssid_of-two low high =
      let d = 48 + s % 10 in
      let e : d - 38 ≡ s = omega arith in
      ap ssid_of (ssid_text-two s low high)
      ∙ ap (λ b. cond b (Some (d - 38)) None)
      (and_from (nat_le 48 d) (nat_le d 53) (le-leb 48 d (omega arith))
      (le-leb d 53 (omega arith)))
      ∙ ap (λ n. Some n) e

-- and its text is read as it
pub ssid_of-ssid_text : (s : ℕ) → s < 16 → ssid_of (ssid_text s) ≡ Some s
ssid_of-ssid_text s h =
    elim (cases_lt 0 s) [
      | inl some ↦ elim (cases_lt s 10) [
        | inl low ↦ ssid_of-one s some low
        | inr high ↦ ssid_of-two s high h
      ]
      | inr none ↦ let e : 0 ≡ s = omega arith in
          subst (λ (n : ℕ). ssid_of (ssid_text n) ≡ Some n) e refl
    ]

-- so the SSIDs that are found are those whose text it is
pub SsidText-ssid_of : (s : ℕ) (d : List ℕ) → NamesSsid s d → ssid_of d ≡ Some s
SsidText-ssid_of s d h = ap ssid_of h.spelled ∙ ssid_of-ssid_text s h.range

-- ---- text that has no fault

pub length-before_dash : (text : List ℕ) → length (before_dash text) ≡ position_or_len is_dash text
length-before_dash text = length-prefix_len (λ b. not (is_dash b)) text

apart : (text : List ℕ) → text ≡ before_dash text ++ from_dash text
apart text = sym (take-append-drop (position_or_len is_dash text) text)
    ∙ ap (λ n. before_dash text ++ drop n text) (sym (length-before_dash text))

from_dash-first : (text : List ℕ) → 0 < length (from_dash text) → slice_index (from_dash text) 0
    ≡ 45
from_dash-first text h =
    let n = position_or_len is_dash text in
    let e = length-before_dash text in
    let more : n < length text = omega (arith, length-drop (length (before_dash text)) text) in
    ap (λ k. slice_index (drop k text) 0) e ∙ get_or-drop n text 0 0
    ∙ ap (slice_index text) (add-zero n)
    ∙ eqb-true (slice_index text n) 45 (passes_at_first is_dash text 0 more)

pub call_fault-CallText : (text : List ℕ) (s : ℕ) → call_fault text ≡ None
    → ssid_of (from_dash text) ≡ Some s
    → SpellsCall (record { characters = before_dash text; ssid = s }) text
call_fault-CallText text s h e =
    let size = cond-None (has_call_fault Length text) _ _ h in
    let bytes = cond-None (has_call_fault Character text) _ _ size.1 in
    let n = length (before_dash text) in
    let within = and_parts (nat_le 1 n) (nat_le n 6) (not-false _ size.0) in
    let ssid = ssid_of-Some s (from_dash text) (from_dash-first text) e in
    record {
      call = record {
        some = leb-true 1 n within.0;
        most = leb-true n 6 within.1;
        bytes =
            not-false _ bytes.0;
        ssid = ssid.1;
      };
      spelled = apart text ∙ ap (λ l. before_dash text ++ l) ssid.0;
    }

-- ---- the text of a callsign

no_dash : (characters d : List ℕ) → list_all is_callsign_byte characters ≡ true
    → position_or_len is_dash (characters ++ d) ≡ length characters + position_or_len is_dash d
no_dash [] d h = omega arith
no_dash (b ∷ characters) d h =
    let p = and_parts _ _ h in
    let ne : is_dash b ≡ false =
    ne_eqb b 45 (λ e. let bad : is_callsign_byte 45 ≡ true = ap is_callsign_byte (sym e)
    ∙ p.0 in cc) in
    ap (λ t. cond (not t) (1 + position_or_len is_dash (characters ++ d)) 0) ne
    ∙ ap (λ n. 1 + n) (no_dash characters d p.1) ∙ omega arith

ssid_dash : (s : ℕ) → position_or_len is_dash (ssid_text s) ≡ 0
ssid_dash s = elim (s == 0) as
    (λ b. position_or_len is_dash (cond b [] (45 ∷ decimal s)) ≡ 0)
    [ true ↦ refl | false ↦ refl ]

module _ (c : Call) (text : List ℕ) (h : SpellsCall c text) where
  place : position_or_len is_dash text ≡ length c.characters
  place = ap (position_or_len is_dash) h.spelled ∙ no_dash c.characters (ssid_text c.ssid) h.call.bytes
      ∙ ap (λ n. length c.characters + n) (ssid_dash c.ssid) ∙ omega arith

  pub before_dash-is : before_dash text ≡ c.characters
  before_dash-is = ap (λ n. take n text) place ∙ ap (take (length c.characters)) h.spelled
      ∙ take_at c.characters (ssid_text c.ssid) (length c.characters) refl

  pub from_dash-is : from_dash text ≡ ssid_text c.ssid
  from_dash-is = ap (λ l. drop (length l) text) before_dash-is
      ∙ ap (drop (length c.characters)) h.spelled
      ∙ drop_at c.characters (ssid_text c.ssid) (length c.characters) refl

  pub ssid-is : ssid_of (from_dash text) ≡ Some c.ssid
  ssid-is = ap ssid_of from_dash-is ∙ ssid_of-ssid_text c.ssid h.call.ssid

  pub CallText-call_fault : call_fault text ≡ None
  CallText-call_fault =
      let n = length c.characters in
      let size : has_call_fault Length text ≡ false =
      ap (λ l. not (nat_le 1 (length l) && nat_le (length l) 6)) before_dash-is
      ∙ ap not (and_from (nat_le 1 n) (nat_le n 6) (le-leb 1 n h.call.some)
      (le-leb n 6 h.call.most)) in
      let bytes : has_call_fault Character text ≡ false =
      ap (λ l. not (list_all is_callsign_byte l)) before_dash-is ∙ ap not h.call.bytes in
      let ssid : has_call_fault Ssid text ≡ false = ap is_none ssid-is in
      rw (size, bytes, ssid) refl

  -- the text says which callsign it is of
  pub CallText-is : (s : ℕ) → ssid_of (from_dash text) ≡ Some s
      → record { characters = before_dash text; ssid = s } ≡ c
  CallText-is s e =
      ap (λ l. record { characters = l; ssid = s }) before_dash-is
      ∙ ap (λ n. record { characters = c.characters; ssid = n }) (some-is s c.ssid (sym e ∙ ssid-is))

-- ---- text that has a fault

no-SsidText : (d : List ℕ) → is_none (ssid_of d) ≡ true → (s : ℕ) → NamesSsid s d → ⊥
no-SsidText d h s t = let e : true ≡ false = sym h ∙ ap is_none (SsidText-ssid_of s d t) in cc

too-short-or-long : (n : ℕ) → not (nat_le 1 n && nat_le n 6) ≡ true → (n ≡ 0) ⊎ (6 < n)
too-short-or-long n h = elim (cases_lt n 1) [
  | inl none ↦ inl (omega arith)
  | inr some ↦ elim (cases_lt 6 n) [
    | inl long ↦ inr long
    | inr short ↦ absurd (
        let e : not (nat_le 1 n && nat_le n 6) ≡ false =
        ap not (and_from (nat_le 1 n) (nat_le n 6) (le-leb 1 n some) (le-leb n 6 short)) in
        let no : true ≡ false = sym h ∙ e in
        cc
        )
  ]
]

in-range : (n : ℕ) → not (nat_le 1 n && nat_le n 6) ≡ false → (n ≡ 0) ⊎ (6 < n) → ⊥
in-range n h (inl e) = let p = and_parts (nat_le 1 n) (nat_le n 6) (not-false _ h) in let some =
    leb-true 1 n p.0 in omega arith
in-range n h (inr e) = let p = and_parts (nat_le 1 n) (nat_le n 6) (not-false _ h) in let most =
    leb-true n 6 p.1 in omega arith

all-not : (b : Bool) → not b ≡ true → b ≡ false
all-not true h = cc
all-not false h = refl

module _ (text : List ℕ) where
  abbrev not-before : CallFault → Type 0
  not-before fault = (other : CallFault) → call_fault_number other < call_fault_number fault
      → IsWrongCall other text → ⊥

  before-Length : not-before Length
  before-Length Length h = absurd (omega arith)
  before-Length Character h = absurd (omega arith)
  before-Length Ssid h = absurd (omega arith)

  before-Character : has_call_fault Length text ≡ false → not-before Character
  before-Character a Length h = in-range (length (before_dash text)) a
  before-Character a Character h = absurd (omega arith)
  before-Character a Ssid h = absurd (omega arith)

  before-Ssid : has_call_fault Length text ≡ false → has_call_fault Character text ≡ false
      → not-before Ssid
  before-Ssid a b Length h = in-range (length (before_dash text)) a
  before-Ssid a b Character h = λ w. let e : true ≡ false = sym (not-false _ b) ∙ w in cc
  before-Ssid a b Ssid h = absurd (omega arith)

  found : (fault : CallFault) (a b c : Bool) → has_call_fault Length text ≡ a
      → has_call_fault Character text ≡ b → has_call_fault Ssid text ≡ c
      → cond a (Some Length) (cond b (Some Character) (cond c (Some Ssid) None)) ≡ Some fault
      → FirstCallFault text fault
  found fault true b c p q r h =
      subst (FirstCallFault text) (some-is Length fault h)
      (record {
        wrong = too-short-or-long (length (before_dash text)) p;
        first =
            before-Length;
      })
  found fault false true c p q r h =
      subst (FirstCallFault text) (some-is Character fault h)
      (record { wrong = all-not _ q; first = before-Character p })
  found fault false false true p q r h =
      subst (FirstCallFault text) (some-is Ssid fault h)
      (record { wrong = no-SsidText (from_dash text) r; first = before-Ssid p q })
  found fault false false false p q r h = cc

-- the fault that is found is the first
pub call_fault-FirstCallFault : (text : List ℕ) (fault : CallFault) → call_fault text ≡ Some fault
    → FirstCallFault text fault
call_fault-FirstCallFault text fault h = found text fault _ _ _ refl refl refl h

-- ---- the bytes of a callsign's text

characters-ascii : (characters : List ℕ) → list_all is_callsign_byte characters ≡ true → IsAscii characters
characters-ascii [] h = IsAscii-nil
characters-ascii (b ∷ characters) h =
    let p = and_parts _ _ h in
    IsAscii-cons b characters (grind (arith, nat_tests)) (characters-ascii characters p.1)

ssid_text-ascii : (s : ℕ) → s < 16 → IsAscii (ssid_text s)
ssid_text-ascii s h = elim (s == 0) as (λ b. IsAscii (cond b [] (45 ∷ decimal s)))
    [ true ↦ IsAscii-nil | false ↦ IsAscii-cons 45 _ (omega arith) (IsAscii-decimal s (omega arith)) ]

-- it is ASCII
pub IsAscii-call_text : (c : Call) → IsCall c → IsAscii (call_text c)
IsAscii-call_text c h = IsAscii-append c.characters (ssid_text c.ssid) (characters-ascii c.characters h.bytes)
    (ssid_text-ascii c.ssid h.ssid)
