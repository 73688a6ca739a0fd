-- Lemmas on what a reader holds as bytes come.
use Rattle.aprs_kiss.proofs.Common.{◌≡◌, ◌≢◌, ℕ, ◌<◌, ◌≤◌, ◌∙◌, sym, ap, refl, false, List, [], ◌∷◌, ◌++◌, length, length-append, append_assoc, append-nil, arith, ◌==◌, subst, Option, None, Some, Err, All, option_map, lt-ltb, le-ltb, eqb-false, recursion_from_All, All-weaker, All-take, take-append_seam}
use Rattle.aprs_kiss.specs.Plain.{IsPlain, is_special}
use Rattle.aprs_kiss.specs.Spelling.{HasNoEnd, is_frame_end}
use Rattle.aprs_kiss.specs.Unspelling.{spelled_bytes}
use Rattle.aprs_kiss.specs.Judgement.{judgement_by, judgement_of, data_frame_of}
use Rattle.aprs_kiss.specs.Reader.{HoldsAfter}
use Rattle.aprs_kiss.specs.ReaderSteps.{IsOpen, IsClosed}
use Rattle.aprs_kiss.specs.declared.reader.State.{State}
use Rattle.aprs_kiss.specs.declared.reader.State.TheVariants.{Ended, Plain, Escape, Long, LongEscape, Broken}
use Rattle.aprs_kiss.specs.declared.fault.PassFault.TheVariants.{BadEscape, TooLong}
use Rattle.aprs_kiss.proofs.Escapes.{not_end, unspelled-nil, unspelled-open, unspelled-append, unspelled-run, unspelled-twice}

pub HasNoEnd-prefix : (a b : List ℕ) → HasNoEnd (a ++ b) → HasNoEnd a
HasNoEnd-prefix a b h =
    subst HasNoEnd (take-append_seam a b)
    (All-take (λ b. is_frame_end b ≡ false) (length a) (a ++ b) h)

pub HasNoEnd-plain : (run : List ℕ) → IsPlain run → HasNoEnd run
HasNoEnd-plain run p =
    All-weaker (λ b. is_special b ≡ false) (λ b. is_frame_end b ≡ false) not_end run p

-- what is held in the state that a test found
pub HoldsAfter-in : (s t : State) (held bytes : List ℕ) → s ≡ t → HoldsAfter s held bytes → HoldsAfter t held bytes
HoldsAfter-in s t held bytes e h = subst (λ s. HoldsAfter s held bytes) e h

-- a piece has begun in every state but one
pub HoldsAfter-begun : (s : State) (held bytes : List ℕ) → s ≢ Ended → HoldsAfter s held bytes → bytes ≢ []
HoldsAfter-begun Ended held bytes n h = λ _. n refl
HoldsAfter-begun Plain held bytes n h = λ e.
    let z : length bytes ≡ 0 = ap length e in omega (arith, h.nonempty)
HoldsAfter-begun Escape held bytes n h =
    λ e. let z : length bytes ≡ 0 =
    ap length e in omega (arith, ap length h.escape, length-append h.prefix (0xDB ∷ []))
HoldsAfter-begun Long held bytes n h = λ e.
    let r : Some [] ≡ Some h.all = sym unspelled-nil ∙ ap spelled_bytes (sym e) ∙ h.spelled in
    let z : [] ≡ h.all = cc in
    omega (arith, h.long, ap length z)
HoldsAfter-begun LongEscape held bytes n h =
    λ e. let z : length bytes ≡ 0 =
    ap length e in omega (arith, ap length h.escape, length-append h.prefix (0xDB ∷ []))
HoldsAfter-begun Broken held bytes n h = λ e.
    let none : Option (List ℕ) = None in
    let r : Some [] ≡ none = sym unspelled-nil ∙ ap (λ l. spelled_bytes (l ++ [])) (sym e) ∙ h [] in
    cc

-- ---- bytes that stand for themselves

pub HoldsAfter-run : (held bytes run : List ℕ) → HasNoEnd bytes → All (λ b. is_special b ≡ false) run
    → spelled_bytes bytes ≡ Some held → spelled_bytes (bytes ++ run) ≡ Some (held ++ run)
HoldsAfter-run held bytes run n p h =
    unspelled-append bytes held run n h
    ∙ ap (option_map (λ l. held ++ l))
    (unspelled-run run (recursion_from_All (λ b. is_special b ≡ false) run p))

pub HoldsAfter-broken : (held bytes run : List ℕ) → HoldsAfter Broken held bytes
    → HoldsAfter Broken held (bytes ++ run)
HoldsAfter-broken held bytes run h = λ more. ap spelled_bytes (append_assoc bytes run more) ∙ h (run ++ more)

-- ---- the byte after an escape

module _ (held prefix bytes : List ℕ) (code : ℕ) (n : HasNoEnd bytes)
    (e : bytes ≡ prefix ++ 0xDB ∷ []) (h : spelled_bytes prefix ≡ Some held) where
  after_escape : (more : List ℕ)
      → spelled_bytes (bytes ++ code ∷ more)
      ≡ option_map (λ l. held ++ l) (spelled_bytes (0xDB ∷ code ∷ more))
  after_escape more =
      ap (λ l. spelled_bytes (l ++ code ∷ more)) e
      ∙ ap spelled_bytes (append_assoc prefix (0xDB ∷ []) (code ∷ more))
      ∙ unspelled-append prefix held (0xDB ∷ code ∷ more)
      (HasNoEnd-prefix prefix (0xDB ∷ []) (subst HasNoEnd e n)) h

  -- the code stands for a byte
  pub unspelled-escaped : (x : ℕ)
      → ((more : List ℕ)
      → spelled_bytes (0xDB ∷ code ∷ more) ≡ option_map (λ l. x ∷ l) (spelled_bytes more))
      → spelled_bytes (bytes ++ code ∷ []) ≡ Some (held ++ x ∷ [])
  unspelled-escaped x k =
      after_escape []
      ∙ ap (option_map (λ l. held ++ l)) (k [] ∙ ap (option_map (λ l. x ∷ l)) unspelled-nil)

  -- it stands for nothing
  pub unspelled-unescaped : ((more : List ℕ) → spelled_bytes (0xDB ∷ code ∷ more) ≡ None)
      → (more : List ℕ) → spelled_bytes ((bytes ++ code ∷ []) ++ more) ≡ None
  unspelled-unescaped k more =
      ap spelled_bytes (append_assoc bytes (code ∷ []) more) ∙ after_escape more
      ∙ ap (option_map (λ l. held ++ l)) (k more)

-- no byte stands for the code
pub HoldsAfter-unescaped : (s : State) (held bytes : List ℕ) (code : ℕ) → IsOpen s → HasNoEnd bytes
    → ((more : List ℕ) → spelled_bytes (0xDB ∷ code ∷ more) ≡ None) → HoldsAfter s held bytes
    → HoldsAfter Broken held (bytes ++ code ∷ [])
HoldsAfter-unescaped Escape held bytes code o n k h =
    unspelled-unescaped held h.prefix bytes code n h.escape h.spelled k
HoldsAfter-unescaped LongEscape held bytes code o n k h =
    unspelled-unescaped h.all h.prefix bytes code n h.escape h.spelled k
HoldsAfter-unescaped Ended held bytes code o n k h = absurd o
HoldsAfter-unescaped Plain held bytes code o n k h = absurd o
HoldsAfter-unescaped Long held bytes code o n k h = absurd o
HoldsAfter-unescaped Broken held bytes code o n k h = absurd o

-- a byte for which there is no room
pub HoldsAfter-escaped_long : (s : State) (held bytes : List ℕ) (code x : ℕ) → IsOpen s → s ≢ Escape
    → HasNoEnd bytes
    → ((more : List ℕ) → spelled_bytes (0xDB ∷ code ∷ more) ≡ option_map (λ l. x ∷ l) (spelled_bytes more))
    → HoldsAfter s held bytes → HoldsAfter Long held (bytes ++ code ∷ [])
HoldsAfter-escaped_long Escape held bytes code x o e n k h = absurd (e refl)
HoldsAfter-escaped_long LongEscape held bytes code x o e n k h = record {
  all = h.all ++ x ∷ [];
  spelled = unspelled-escaped h.all h.prefix bytes code n h.escape h.spelled x k;
  long = omega (arith, h.long, length-append h.all (x ∷ []));
}
HoldsAfter-escaped_long Ended held bytes code x o e n k h = absurd o
HoldsAfter-escaped_long Plain held bytes code x o e n k h = absurd o
HoldsAfter-escaped_long Long held bytes code x o e n k h = absurd o
HoldsAfter-escaped_long Broken held bytes code x o e n k h = absurd o

-- ---- the reader's steps

-- bytes that stand for themselves, where the buffer is of no more use
pub HoldsAfter-more : (s : State) (held bytes run : List ℕ) → s ≢ Ended → s ≢ Plain → IsClosed s
    → HasNoEnd bytes → IsPlain run
    → HoldsAfter s held bytes → HoldsAfter s held (bytes ++ run)
HoldsAfter-more Ended held bytes run e p k n q h = absurd (e refl)
HoldsAfter-more Plain held bytes run e p k n q h = absurd (p refl)
HoldsAfter-more Escape held bytes run e p k n q h = absurd k
HoldsAfter-more Long held bytes run e p k n q h =
    record {
      all = h.all ++ run;
      spelled = HoldsAfter-run h.all bytes run n q h.spelled;
      long = omega (arith, h.long, length-append h.all run);
    }
HoldsAfter-more LongEscape held bytes run e p k n q h = absurd k
HoldsAfter-more Broken held bytes run e p k n q h = HoldsAfter-broken held bytes run h

-- an escape begins
pub HoldsAfter-escape_again : (s : State) (held bytes : List ℕ) → s ≢ Ended → s ≢ Plain → s ≢ Long
    → HasNoEnd bytes
    → HoldsAfter s held bytes → HoldsAfter Broken held (bytes ++ 0xDB ∷ [])
HoldsAfter-escape_again Ended held bytes e p l n h = absurd (e refl)
HoldsAfter-escape_again Plain held bytes e p l n h = absurd (p refl)
HoldsAfter-escape_again Escape held bytes e p l n h =
    unspelled-unescaped held h.prefix bytes 0xDB n h.escape h.spelled unspelled-twice
HoldsAfter-escape_again Long held bytes e p l n h = absurd (l refl)
HoldsAfter-escape_again LongEscape held bytes e p l n h =
    unspelled-unescaped h.all h.prefix bytes 0xDB n h.escape h.spelled unspelled-twice
HoldsAfter-escape_again Broken held bytes e p l n h = HoldsAfter-broken held bytes (0xDB ∷ []) h

-- ---- the end of a piece

open_ends : (held prefix bytes : List ℕ) → HasNoEnd bytes → bytes ≡ prefix ++ 0xDB ∷ []
    → spelled_bytes prefix ≡ Some held
    → spelled_bytes bytes ≡ None
open_ends held prefix bytes n e h =
    ap spelled_bytes e
    ∙ unspelled-append prefix held (0xDB ∷ [])
    (HasNoEnd-prefix prefix (0xDB ∷ []) (subst HasNoEnd e n)) h
    ∙ ap (option_map (λ l. held ++ l)) unspelled-open

-- an escape is broken, or isn't whole
pub judgement_of-broken : (s : State) (held bytes : List ℕ) → s ≢ Plain → s ≢ Long
    → 0 < length bytes → HasNoEnd bytes
    → HoldsAfter s held bytes → judgement_of bytes ≡ Err BadEscape
unfolding judgement_of
judgement_of-broken Ended held bytes p l z n h =
    absurd (let e : length bytes ≡ 0 = ap length h in omega (arith, z))
judgement_of-broken Plain held bytes p l z n h = absurd (p refl)
judgement_of-broken Long held bytes p l z n h = absurd (l refl)
judgement_of-broken Escape held bytes p l z n h =
    ap judgement_by (open_ends held h.prefix bytes n h.escape h.spelled)
judgement_of-broken LongEscape held bytes p l z n h =
    ap judgement_by (open_ends h.all h.prefix bytes n h.escape h.spelled)
judgement_of-broken Broken held bytes p l z n h =
    ap judgement_by (ap spelled_bytes (sym (append-nil bytes)) ∙ h [])

pub judgement_of-long : (bytes held : List ℕ) → HoldsAfter Long held bytes
    → judgement_of bytes ≡ Err TooLong
unfolding judgement_of
judgement_of-long bytes held h =
    ap judgement_by h.spelled ∙ rw (lt-ltb 1024 (length h.all) h.long) refl

pub judgement_of-plain : (bytes held : List ℕ) → spelled_bytes bytes ≡ Some held → length held ≤ 1024
    → judgement_of bytes ≡ data_frame_of held
unfolding judgement_of
judgement_of-plain bytes held h l = ap judgement_by h ∙ rw (le-ltb 1024 (length held) l) refl

pub nonempty_from_test : (bytes : List ℕ) → false ≡ (length bytes == 0) → 0 < length bytes
nonempty_from_test bytes h = omega (arith, eqb-false (length bytes) 0 (sym h))
