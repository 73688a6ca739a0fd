-- Proofs of the laws on what a piece spells and how it is judged.
use Rattle.aprs_kiss.proofs.Common.{◌≡◌, ◌≢◌, ℕ, ◌<◌, ◌≤◌, ◌%◌, ◌/◌, ◌∙◌, sym, ap, refl, subst, List, [], ◌∷◌, length, arith, ◌⊎◌, inl, inr, Option, None, Some, Ok, Err, lt-ltb, le-ltb, eq-eqb, eqb_tells, nat_tests}
use Rattle.aprs_kiss.specs.Spelling.{HasNoEnd, Spells, spelling_of}
use Rattle.aprs_kiss.specs.Unspelling.{spelled_bytes}
use Rattle.aprs_kiss.specs.Judgement.{Judgement, Judged, judgement_of, judgement_by, data_frame_of}
use Rattle.aprs_kiss.specs.Laws.{SpellsOnce, JudgedOnce}
use Rattle.aprs_kiss.specs.declared.fault.PassFault.TheVariants.{BadEscape, TooLong, NotData}
use Rattle.aprs_kiss.proofs.Escapes.{unspelled-of, spelling_of-unspelled}

unspelled_at : (bytes piece : List ℕ) → Spells bytes piece → spelled_bytes piece ≡ Some bytes
unspelled_at bytes piece s = ap spelled_bytes s ∙ unspelled-of bytes

pub spells_once : SpellsOnce
spells_once spelled a b p q =
    let e : Some a ≡ Some b = sym (unspelled_at a spelled p) ∙ unspelled_at b spelled q in
    cc

-- ---- each judgement of a piece is the one that the definition gives

only_long : (piece bytes : List ℕ) → Spells bytes piece → 1024 < length bytes
    → judgement_of piece ≡ Err TooLong
unfolding judgement_of
only_long piece bytes s l =
    ap judgement_by (unspelled_at bytes piece s) ∙ rw (lt-ltb 1024 (length bytes) l) refl

only_short : (piece bytes : List ℕ) → Spells bytes piece → length bytes ≤ 1024
    → judgement_of piece ≡ data_frame_of bytes
unfolding judgement_of
only_short piece bytes s l =
    ap judgement_by (unspelled_at bytes piece s) ∙ rw (le-ltb 1024 (length bytes) l) refl

command_other : (head : ℕ) (bytes : List ℕ) → head % 16 ≢ 0 → data_frame_of (head ∷ bytes) ≡ Err NotData
command_other head bytes n = grind (arith, nat_tests)

command_data : (head : ℕ) (bytes : List ℕ) → head % 16 ≡ 0
    → data_frame_of (head ∷ bytes) ≡ Ok (record { port = head / 16; bytes = bytes })
command_data head bytes e = rw (eq-eqb (head % 16) 0 e) refl

broken_or_not : (o : Option (List ℕ)) → (o ≡ None) ⊎ ((bytes : List ℕ) × (o ≡ Some bytes))
broken_or_not None = inl refl
broken_or_not (Some bytes) = inr (bytes, refl)

only_broken : (piece : List ℕ) → HasNoEnd piece → ((bytes : List ℕ) → ¬ Spells bytes piece)
    → judgement_of piece ≡ Err BadEscape
unfolding judgement_of
only_broken piece n h =
    elim (broken_or_not (spelled_bytes piece)) as (λ _. judgement_of piece ≡ Err BadEscape) [
      | inl e ↦ ap judgement_by e
      | inr b ↦ absurd (h b.0 (spelling_of-unspelled piece b.0 n b.1))
    ]

judged_only : (piece : List ℕ) → HasNoEnd piece → (j : Judgement) → Judged piece j
    → j ≡ judgement_of piece
judged_only piece n (Err BadEscape) h = sym (only_broken piece n h)
judged_only piece n (Err TooLong) h = sym (only_long piece h.bytes h.spelled h.long)
judged_only piece n (Err NotData) h =
    sym (only_short piece (h.head ∷ h.bytes) h.spelled h.fits
    ∙ command_other h.head h.bytes h.command)
judged_only piece n (Ok frame) h =
    ap (λ p. Ok (record { port = p; bytes = frame.bytes })) h.port
    ∙ sym (only_short piece (h.head ∷ frame.bytes) h.spelled h.fits
    ∙ command_data h.head frame.bytes h.command)

-- ---- and the one that it gives is one

judged_data : (piece bytes : List ℕ) → 0 < length bytes → Spells bytes piece → length bytes ≤ 1024
    → Judged piece (data_frame_of bytes)
judged_data piece [] z s l = absurd (omega (arith, z))
judged_data piece (head ∷ bytes) z s l =
    elim (eqb_tells (head % 16) 0) as (λ _. Judged piece (data_frame_of (head ∷ bytes))) [
      | inl e ↦ rw e.0
          (record { head = head; spelled = s; fits = l; command = e.1; port = refl })
      | inr e ↦ rw e.0
          (record { head = head; bytes = bytes; spelled = s; fits = l; command = e.1 })
    ]

long_or_not : (n : ℕ) → (1024 < n) ⊎ (n ≤ 1024)
long_or_not n = grind arith

-- a nonempty piece spells some bytes
spelled_some : (bytes piece : List ℕ) → Spells bytes piece → 0 < length piece → 0 < length bytes
unfolding spelling_of
spelled_some [] piece s z = absurd (omega (arith, z, ap length s))
spelled_some (b ∷ bs) piece s z = omega arith

judged_bytes : (piece bytes : List ℕ) → 0 < length piece → Spells bytes piece
    → Judged piece (judgement_by (Some bytes))
judged_bytes piece bytes z s =
    elim (long_or_not (length bytes)) as (λ _. Judged piece (judgement_by (Some bytes))) [
      | inl l ↦ rw (lt-ltb 1024 (length bytes) l) (record { bytes = bytes; spelled = s; long = l })
      | inr l ↦ rw (le-ltb 1024 (length bytes) l)
          (judged_data piece bytes (spelled_some bytes piece s z) s l)
    ]

judged_so : (piece : List ℕ) → 0 < length piece → HasNoEnd piece → Judged piece (judgement_of piece)
unfolding judgement_of
judged_so piece z n =
    elim (broken_or_not (spelled_bytes piece)) as (λ _. Judged piece (judgement_by (spelled_bytes piece))) [
      | inl e ↦ rw e
          (λ bytes s. let none : Option (List ℕ) =
          None in let w : none ≡ Some bytes = sym e ∙ unspelled_at bytes piece s in cc)
      | inr b ↦ rw b.1 (judged_bytes piece b.0 z (spelling_of-unspelled piece b.0 n b.1))
    ]

pub judged_once : JudgedOnce
judged_once piece z n j =
    (judged_only piece n j, λ e. subst (Judged piece) (sym e) (judged_so piece z n))
