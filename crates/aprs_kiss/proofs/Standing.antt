-- A reader always stands after some bytes.
use Rattle.aprs_kiss.proofs.Common.{◌≡◌, ◌<◌, ◌+◌, ℕ, List, [], ◌∷◌, ◌++◌, length, Some, replicate, refl, sym, ap, ◌∙◌, arith, length-replicate}
use Rattle.aprs_kiss.specs.Reader.{HoldsAfter, StandsAfter}
use Rattle.aprs_kiss.specs.ReaderSteps.{HoldsSome}
use Rattle.aprs_kiss.specs.Sizes.{most_bytes}
use Rattle.aprs_kiss.specs.Spelling.{HasNoEnd, spelling_of}
use Rattle.aprs_kiss.specs.Unspelling.{spelled_bytes}
use Rattle.aprs_kiss.specs.declared.reader.KissReader.{KissReader}
use Rattle.aprs_kiss.specs.declared.reader.State.{State}
use Rattle.aprs_kiss.specs.declared.reader.State.TheVariants.{Ended, Plain, Escape, Long, LongEscape, Broken}
use Rattle.aprs_kiss.proofs.Escapes.{unspelled-broken, unspelled-nil, unspelled-of}
use Rattle.aprs_kiss.proofs.Pieces.{HasNoEnd-append, HasNoEnd-nil, HasNoEnd-one}
use Rattle.aprs_kiss.proofs.ReadingBack.{no_end}

-- bytes that a state may stand after
record Somewhere (state : State) (held : List ℕ) : Type 0 where
  bytes : List ℕ
  whole : HasNoEnd bytes
  are : HoldsAfter state held bytes

-- what spells one byte more than a frame may have
abbrev long : List ℕ
long = replicate (most_bytes + 1) 0

none : (held : List ℕ) → Some [] ≡ Some held → [] ≡ held
none held e = cc

-- what spells some bytes isn't empty
spells_some : (held : List ℕ) → 0 < length held → 0 < length (spelling_of held)
spells_some held some =
    elim (spelling_of held) as (λ s. spelled_bytes s ≡ Some held → 0 < length s) [
      | [] ↦ λ e. absurd (omega (arith, some, ap length (none held (sym unspelled-nil ∙ e))))
      | b ∷ bs ↦ λ e. omega arith
    ] (unspelled-of held)

somewhere : (state : State) (held : List ℕ) → HoldsSome state held → Somewhere state held
somewhere Ended held some = record { bytes = []; whole = HasNoEnd-nil; are = refl }
somewhere Plain held some = record {
  bytes = spelling_of held;
  whole = no_end held;
  are = record { nonempty = spells_some held (some refl); spelled = unspelled-of held };
}
somewhere Escape held some = record {
  bytes = spelling_of held ++ 0xDB ∷ [];
  whole = HasNoEnd-append (spelling_of held) (0xDB ∷ []) (no_end held) (HasNoEnd-one 0xDB refl);
  are = record { prefix = spelling_of held; escape = refl; spelled = unspelled-of held };
}
somewhere Long held some = record {
  bytes = spelling_of long;
  whole = no_end long;
  are = record {
    all = long;
    spelled = unspelled-of long;
    long = omega (arith, length-replicate {A = ℕ} (most_bytes + 1) 0);
  };
}
somewhere LongEscape held some = record {
  bytes = spelling_of long ++ 0xDB ∷ [];
  whole = HasNoEnd-append (spelling_of long) (0xDB ∷ []) (no_end long) (HasNoEnd-one 0xDB refl);
  are = record {
    prefix = spelling_of long;
    all = long;
    escape = refl;
    spelled = unspelled-of long;
    long = omega (arith, length-replicate {A = ℕ} (most_bytes + 1) 0);
  };
}
somewhere Broken held some = record {
  bytes = 0xDB ∷ 0 ∷ [];
  whole = HasNoEnd-append (0xDB ∷ []) (0 ∷ []) (HasNoEnd-one 0xDB refl) (HasNoEnd-one 0 refl);
  are = λ more. unspelled-broken 0 more (λ e. cc) (λ e. cc);
}

pub stands_somewhere : (r : KissReader) → (before : List ℕ) × StandsAfter r before
stands_somewhere r =
    let s = somewhere r.state r.bytes.items r.some in
    (s.bytes, record { whole = s.whole; held = s.are })
