-- Lemmas on the answers of a stream that is fed part by part.
use Rattle.aprs_kiss.proofs.Common.{◌≡◌, ℕ, ◌∙◌, sym, ap, refl, List, [], ◌∷◌, ◌++◌, append_assoc, append-nil, take, drop, take-append-drop, FoldsTo}
use Rattle.aprs_kiss.specs.Stream.{rest_of, judgements_of}
use Rattle.aprs_kiss.specs.Judgement.{Judgement}
use Rattle.aprs_kiss.specs.Reader.{StandsAfter}
use Rattle.aprs_kiss.specs.declared.reader.KissReader.{KissReader}
use Rattle.aprs_kiss.proofs.Pieces.{cuts, rest_of-none, judgements_of-append, judgements_of-none}

-- a listener's answers, some after others
pub FoldsTo-append : {P A : Type 0} (R : P → A → P → Type 0) (p m q : P) (xs ys : List A)
    → FoldsTo R p xs m → FoldsTo R m ys q
    → FoldsTo R p (xs ++ ys) q
FoldsTo-append R p m q [] ys f g = rw f g
FoldsTo-append R p m q (x ∷ xs) ys f g = (f.0, f.1, FoldsTo-append R f.0 m q xs ys f.2 g)

-- a part and what is left of the rest
pub parts_of : (rest part left : List ℕ) (used : ℕ) → part ≡ take used rest
    → left ≡ drop used rest → rest ≡ part ++ left
parts_of rest part left used p l =
    sym (ap (λ x. x ++ left) p ∙ ap (λ x. take used rest ++ x) l ∙ take-append-drop used rest)

module _ {P : Type 0} (R : P → Judgement → P → Type 0) where
  -- the reader went from old to new over these bytes, and its listener from before to after
  pub record Hears (old new : KissReader) (before after : P) (seen : List ℕ) : Type 0 where
    pub stands : (e : List ℕ) → StandsAfter old e → StandsAfter new (rest_of (e ++ seen))
    pub heard : (e : List ℕ) → StandsAfter old e
        → FoldsTo R before (judgements_of (e ++ seen)) after

  -- so they did over what of the piece comes before the rest
  pub record HasHeard (old new : KissReader) (before after : P) (piece rest : List ℕ) : Type 0 where
    pub seen : List ℕ
    pub cut : piece ≡ seen ++ rest
    pub hears : Hears old new before after seen

  Hears-none : (old : KissReader) (before : P) → Hears old old before before []
  Hears-none old before = record {
    stands = λ e s. rw (append-nil e, rest_of-none e s.whole) s;
    heard = λ e s. rw (append-nil e, judgements_of-none e s.whole) refl;
  }

  Hears-more : (old mid new : KissReader) (before between after : P) (seen more : List ℕ)
      → Hears old mid before between seen → Hears mid new between after more
      → Hears old new before after (seen ++ more)
  Hears-more old mid new before between after seen more p q = record {
    stands = λ e s. rw (← append_assoc e seen more, (cuts (e ++ seen) more).rest)
        (q.stands (rest_of (e ++ seen)) (p.stands e s));
    heard = λ e s. rw (← append_assoc e seen more, judgements_of-append (e ++ seen) more)
        (FoldsTo-append R before between after (judgements_of (e ++ seen))
        (judgements_of (rest_of (e ++ seen) ++ more))
        (p.heard e s) (q.heard (rest_of (e ++ seen)) (p.stands e s)));
  }

  pub HasHeard-none : (old : KissReader) (before : P) (piece : List ℕ)
      → HasHeard old old before before piece piece
  HasHeard-none old before piece = record { seen = []; cut = refl; hears = Hears-none old before }

  pub HasHeard-more : (old mid new : KissReader) (before between after : P)
      (piece rest part left : List ℕ)
      → HasHeard old mid before between piece rest → rest ≡ part ++ left
      → Hears mid new between after part
      → HasHeard old new before after piece left
  HasHeard-more old mid new before between after piece rest part left h e p = record {
    seen = h.seen ++ part;
    cut = h.cut ∙ ap (λ l. h.seen ++ l) e ∙ sym (append_assoc h.seen part left);
    hears = Hears-more old mid new before between after h.seen part h.hears p;
  }

  -- nothing is left
  pub Hears-all : (old new : KissReader) (before after : P) (piece rest : List ℕ)
      → HasHeard old new before after piece rest → rest ≡ [] → Hears old new before after piece
  Hears-all old new before after piece rest h e =
      rw (h.cut ∙ ap (λ l. h.seen ++ l) e ∙ append-nil h.seen) h.hears

  -- one call of the reader, whose answer is heard
  pub Hears-call : (old new : KissReader) (before after : P) (judgements : List Judgement)
      (used : List ℕ)
      → ((e : List ℕ) → StandsAfter old e → StandsAfter new (rest_of (e ++ used)))
      → ((e : List ℕ) → StandsAfter old e → judgements_of (e ++ used) ≡ judgements)
      → FoldsTo R before judgements after → Hears old new before after used
  Hears-call old new before after judgements used stands judged h = record {
    stands = stands;
    heard = λ e s. rw (judged e s) h;
  }
