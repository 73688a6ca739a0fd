-- Lemmas on the pieces of a stream and its rest, however it is cut.
use Rattle.aprs_kiss.proofs.Common.{sym, All, ◌≡◌, ℕ, ◌<◌, ◌∙◌, ap, refl, false, List, [], ◌∷◌, ◌++◌, length, map, filter, append_assoc, append-nil, arith, ◌⊎◌, inl, inr, nat_tests, slice_split, flat_map, map-append, filter-append, All-append, All-cons, All-nil, slice_split_none, slice_split_at, length-slice_split}
use Rattle.aprs_kiss.specs.Spelling.{HasNoEnd, is_frame_end}
use Rattle.aprs_kiss.specs.Stream.{all_but_last, last_part, pieces_of, rest_of, is_nonempty, nonempty_pieces_of, judgements_of}
use Rattle.aprs_kiss.specs.Judgement.{judgement_of}

pub HasNoEnd-nil : HasNoEnd []
HasNoEnd-nil = All-nil (λ b. is_frame_end b ≡ false)

pub HasNoEnd-append : (a b : List ℕ) → HasNoEnd a → HasNoEnd b → HasNoEnd (a ++ b)
HasNoEnd-append a b = All-append (λ b. is_frame_end b ≡ false) a b

pub HasNoEnd-one : (x : ℕ) → is_frame_end x ≡ false → HasNoEnd (x ∷ [])
HasNoEnd-one x h = grind (arith)

-- ---- where no frame end is

pub pieces_of-none : (d : List ℕ) → HasNoEnd d → pieces_of d ≡ []
unfolding pieces_of
pieces_of-none d h = ap all_but_last (slice_split_none is_frame_end d h)

pub rest_of-none : (d : List ℕ) → HasNoEnd d → rest_of d ≡ d
unfolding rest_of
rest_of-none d h = ap last_part (slice_split_none is_frame_end d h)

-- ---- up to the first frame end

all_but_last-cons : (part : List ℕ) (parts : List (List ℕ)) → 0 < length parts
    → all_but_last (part ∷ parts) ≡ part ∷ all_but_last parts
all_but_last-cons part [] h = absurd (omega (arith, h))
all_but_last-cons part (next ∷ more) h = refl

last_part-cons : (part : List ℕ) (parts : List (List ℕ)) → 0 < length parts
    → last_part (part ∷ parts) ≡ last_part parts
last_part-cons part [] h = absurd (omega (arith, h))
last_part-cons part (next ∷ more) h = refl

pub pieces_of-end : (d u : List ℕ) → HasNoEnd d → pieces_of (d ++ 0xC0 ∷ u) ≡ d ∷ pieces_of u
unfolding pieces_of
pieces_of-end d u h =
    ap all_but_last (slice_split_at is_frame_end d 0xC0 u h refl)
    ∙ all_but_last-cons d (slice_split is_frame_end u)
    (omega (arith, length-slice_split is_frame_end u))

pub rest_of-end : (d u : List ℕ) → HasNoEnd d → rest_of (d ++ 0xC0 ∷ u) ≡ rest_of u
unfolding rest_of
rest_of-end d u h =
    ap last_part (slice_split_at is_frame_end d 0xC0 u h refl)
    ∙ last_part-cons d (slice_split is_frame_end u)
    (omega (arith, length-slice_split is_frame_end u))

-- ---- a stream that goes on

-- the pieces of t and u are those of t, and those of what t left and u
pub record Cuts (t u : List ℕ) : Type 0 where
  pub pieces : pieces_of (t ++ u) ≡ pieces_of t ++ pieces_of (rest_of t ++ u)
  pub rest : rest_of (t ++ u) ≡ rest_of (rest_of t ++ u)
  pub whole : HasNoEnd (rest_of t)

cuts_none : (d u : List ℕ) → HasNoEnd d → Cuts d u
cuts_none d u h =
    let r = rest_of-none d h in
    record {
      pieces = rw (pieces_of-none d h, r) refl;
      rest = rw r refl;
      whole = rw r h;
    }

cuts_end : (d t u : List ℕ) → HasNoEnd d → Cuts t u → Cuts (d ++ 0xC0 ∷ t) u
cuts_end d t u h c =
    record {
      pieces = rw (
        append_assoc d (0xC0 ∷ t) u,
        pieces_of-end d
            (t ++ u) h,
        pieces_of-end d t h,
        rest_of-end d t h,
      ) (ap (λ l. d ∷ l) c.pieces);
      rest = rw (append_assoc d (0xC0 ∷ t) u, rest_of-end d (t ++ u) h, rest_of-end d t h) c.rest;
      whole = rw (rest_of-end d t h) c.whole;
    }

is_end_or_not : (x : ℕ) → (x ≡ 0xC0) ⊎ (is_frame_end x ≡ false)
is_end_or_not x = grind (arith, nat_tests)

cuts_from : (t d u : List ℕ) → HasNoEnd d → Cuts (d ++ t) u
cuts_from [] d u h = rw (append-nil d) (cuts_none d u h)
cuts_from (x ∷ t) d u h =
    elim (is_end_or_not x) as (λ _. Cuts (d ++ x ∷ t) u) [
      | inl e ↦ rw e (cuts_end d t u h (cuts_from t [] u HasNoEnd-nil))
      | inr e ↦ rw (← append_assoc d (x ∷ []) t)
          (cuts_from t (d ++ x ∷ []) u (HasNoEnd-append d (x ∷ []) h (HasNoEnd-one x e)))
    ]

pub cuts : (t u : List ℕ) → Cuts t u
cuts t u = cuts_from t [] u HasNoEnd-nil

-- ---- judgements

pub judgements_of-append : (t u : List ℕ)
    → judgements_of (t ++ u) ≡ judgements_of t ++ judgements_of (rest_of t ++ u)
unfolding judgements_of
judgements_of-append t u =
    ap (λ pieces. map judgement_of (filter is_nonempty pieces)) (cuts t u).pieces
    ∙ ap (map judgement_of) (filter-append is_nonempty (pieces_of t) (pieces_of (rest_of t ++ u)))
    ∙ map-append judgement_of (nonempty_pieces_of t) (nonempty_pieces_of (rest_of t ++ u))

pub judgements_of-none : (d : List ℕ) → HasNoEnd d → judgements_of d ≡ []
unfolding judgements_of
judgements_of-none d h = rw (pieces_of-none d h) refl

-- an empty piece has no judgement
pub judgements_of-empty : judgements_of (0xC0 ∷ []) ≡ []
unfolding judgements_of pieces_of
judgements_of-empty = refl

pub judgements_of-end : (d : List ℕ) → HasNoEnd d → 0 < length d
    → judgements_of (d ++ 0xC0 ∷ []) ≡ judgement_of d ∷ []
unfolding judgements_of
judgements_of-end [] h l = absurd (omega (arith, l))
judgements_of-end (x ∷ xs) h l =
    rw (pieces_of-end (x ∷ xs) [] h, pieces_of-none [] HasNoEnd-nil) refl

-- ---- a stream and its pieces

-- the bytes, and then each piece with the frame end after it, and the rest
joined_end : (d t more rest : List ℕ) → t ≡ more ++ rest
    → d ++ 0xC0 ∷ t ≡ ((d ++ 0xC0 ∷ []) ++ more) ++ rest
joined_end d t more rest e =
    ap (λ l. d ++ 0xC0 ∷ l) e
    ∙ sym (append_assoc d (0xC0 ∷ []) (more ++ rest))
    ∙ sym (append_assoc (d ++ 0xC0 ∷ []) more rest)

pub record MadeSo (stream : List ℕ) : Type 0 where
  pub joined : stream ≡ flat_map (λ piece. piece ++ 0xC0 ∷ []) (pieces_of stream) ++ rest_of stream
  pub clean : All HasNoEnd (pieces_of stream)

made_none : (d : List ℕ) → HasNoEnd d → MadeSo d
made_none d h = record {
  joined = rw (pieces_of-none d h, rest_of-none d h) refl;
  clean = rw (pieces_of-none d h) (All-nil HasNoEnd);
}

made_end : (d t : List ℕ) → HasNoEnd d → MadeSo t → MadeSo (d ++ 0xC0 ∷ t)
made_end d t h m = record {
  joined = rw (pieces_of-end d t h, rest_of-end d t h)
      (joined_end d t (flat_map (λ piece. piece ++ 0xC0 ∷ []) (pieces_of t)) (rest_of t) m.joined);
  clean = rw (pieces_of-end d t h) (All-cons HasNoEnd d (pieces_of t) h m.clean);
}

made_from : (t d : List ℕ) → HasNoEnd d → MadeSo (d ++ t)
made_from [] d h = rw (append-nil d) (made_none d h)
made_from (x ∷ t) d h =
    elim (is_end_or_not x) as (λ _. MadeSo (d ++ x ∷ t)) [
      | inl e ↦ rw e (made_end d t h (made_from t [] HasNoEnd-nil))
      | inr e ↦ rw (← append_assoc d (x ∷ []) t)
          (made_from t (d ++ x ∷ []) (HasNoEnd-append d (x ∷ []) h (HasNoEnd-one x e)))
    ]

pub made_so : (stream : List ℕ) → MadeSo stream
made_so stream = made_from stream [] HasNoEnd-nil
