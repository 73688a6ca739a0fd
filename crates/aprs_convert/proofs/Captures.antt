-- Lemmas on what is written for a stream that is read chunk by chunk.
use Rattle.aprs_convert.proofs.Common.{◌≡◌, ◌≤◌, ℕ, ◌+◌, ◌∙◌, sym, ap, refl, List, [], ◌∷◌, ◌++◌, length, Option, None, Some, Err, IfSome, append_assoc, append-nil, subst, arith, flat_map, Appends, Consumes, Appends-nil, Appends-trans, Consumes-nil, Consumes-trans, AppendsPrefix, AppendsPrefix-more, AppendsPrefix-then, rest_of, judgements_of, Judgement, Gets}
use Rattle.std.proofs.Common.{length-append}
use Rattle.aprs_kiss.specs.Reader.{StandsAfter}
use Rattle.aprs_kiss.specs.declared.reader.KissReader.{KissReader}
use Rattle.aprs_log.specs.declared.InputEnd.TheVariants as ending
use Rattle.aprs_convert.specs.Plan.{RunsOver, capture_text, stream_plan}
use Rattle.aprs_convert.specs.declared.fault.ConvertFault.TheVariants.{Write}
use Rattle.aprs_kiss.proofs.Pieces.{cuts, rest_of-none, judgements_of-append, judgements_of-none}

flat_map-append : (f : Judgement → List ℕ) (xs ys : List Judgement)
    → flat_map f (xs ++ ys) ≡ flat_map f xs ++ flat_map f ys
flat_map-append f [] ys = refl
flat_map-append f (x ∷ xs) ys = ap (λ l. f x ++ l) (flat_map-append f xs ys)
    ∙ sym (append_assoc (f x) (flat_map f xs) (flat_map f ys))

module _ (text : Judgement → List ℕ) where
  abbrev pub text_of : List ℕ → List ℕ
  text_of t = flat_map text (judgements_of t)

  -- the text of a stream that goes on
  text-append : (prefix back : List ℕ) → text_of (prefix ++ back) ≡ text_of prefix
      ++ text_of (rest_of prefix ++ back)
  text-append prefix back = ap (flat_map text) (judgements_of-append prefix back)
      ∙ flat_map-append text (judgements_of prefix) (judgements_of (rest_of prefix ++ back))

  -- the reader went from old to new over these bytes, and the writer's bytes from before to after
  pub record Captures (old new : KissReader) (before after : Option (List ℕ))
      (seen : List ℕ) : Type 0 where
    pub stands : (e : List ℕ) → StandsAfter old e → StandsAfter new (rest_of (e ++ seen))
    pub sent : (e : List ℕ) → StandsAfter old e → Appends before after (text_of (e ++ seen))

  pub Captures-none : (old : KissReader) (before : Option (List ℕ))
      → Captures old old before before []
  Captures-none old before = record {
    stands = λ e s. rw (append-nil e, rest_of-none e s.whole) s;
    sent = λ e s. rw (append-nil e, judgements_of-none e s.whole) (Appends-nil before);
  }

  pub Captures-more : (old mid new : KissReader) (before between after : Option (List ℕ))
      (seen more : List ℕ)
      → Captures old mid before between seen → Captures mid new between after more
      → Captures old new before after (seen ++ more)
  Captures-more old mid new before between after seen more p q = record {
    stands = λ e s. rw (← append_assoc e seen more, (cuts (e ++ seen) more).rest)
        (q.stands (rest_of (e ++ seen)) (p.stands e s));
    sent = λ e s. subst (Appends before after)
        (sym (ap text_of (sym (append_assoc e seen more)) ∙ text-append (e ++ seen) more))
        (Appends-trans before between after (text_of (e ++ seen))
        (text_of (rest_of (e ++ seen) ++ more)) (p.sent e s)
        (q.sent (rest_of (e ++ seen)) (p.stands e s)));
  }

  -- so they did over what of the chunk comes before the rest
  pub record HasCaptured (old new : KissReader) (before after : Option (List ℕ))
      (chunk rest : List ℕ) : Type 0 where
    pub seen : List ℕ
    pub cut : chunk ≡ seen ++ rest
    pub captures : Captures old new before after seen

  pub HasCaptured-none : (old : KissReader) (before : Option (List ℕ)) (chunk : List ℕ)
      → HasCaptured old old before before chunk chunk
  HasCaptured-none old before chunk = record {
    seen = [];
    cut = refl;
    captures = Captures-none old before;
  }

  -- one call of the reader, whose answer is written
  pub HasCaptured-more : (old mid new : KissReader) (before between after : Option (List ℕ))
      (chunk rest part left : List ℕ) (judgements : List Judgement)
      → HasCaptured old mid before between chunk rest → rest ≡ part ++ left
      → ((e : List ℕ) → StandsAfter mid e → StandsAfter new (rest_of (e ++ part)))
      → ((e : List ℕ) → StandsAfter mid e → judgements_of (e ++ part) ≡ judgements)
      → Appends between after (flat_map text judgements)
      → HasCaptured old new before after chunk left
  HasCaptured-more old mid new before between after chunk rest part left judgements h e stands
      judged out = record {
        seen = h.seen ++ part;
        cut = h.cut ∙ ap (λ l. h.seen ++ l) e ∙ sym (append_assoc h.seen part left);
        captures = Captures-more old mid new before between after h.seen part h.captures (record {
          stands = stands;
          sent = λ f s. subst (Appends between after) (sym (ap (flat_map text) (judged f s))) out;
        });
      }

  -- an answer is refused
  pub HasCaptured-refused : (old mid : KissReader) (before between after : Option (List ℕ))
      (chunk rest part left : List ℕ) (judgements : List Judgement)
      → HasCaptured old mid before between chunk rest → rest ≡ part ++ left
      → ((e : List ℕ) → StandsAfter mid e → judgements_of (e ++ part) ≡ judgements)
      → AppendsPrefix between after (flat_map text judgements)
      → (e : List ℕ) → StandsAfter old e → AppendsPrefix before after (text_of (e ++ chunk))
  HasCaptured-refused old mid before between after chunk rest part left judgements h e judged prefix
      f s =
      let seen = f ++ h.seen in
      let stands = h.captures.stands f s in
      let whole : f ++ chunk ≡ (seen ++ part) ++ left =
      ap (λ l. f ++ l) (h.cut ∙ ap (λ l. h.seen ++ l) e)
      ∙ sym (append_assoc f h.seen (part ++ left)) ∙ sym (append_assoc seen part left) in
      let written : text_of (f ++ chunk) ≡ (text_of seen ++ flat_map text judgements)
      ++ text_of (rest_of (seen ++ part) ++ left) =
      ap text_of whole ∙ text-append (seen ++ part) left
      ∙ ap (λ l. l ++ text_of (rest_of (seen ++ part) ++ left)) (text-append seen part
      ∙ ap (λ j. text_of seen ++ flat_map text j) (judged (rest_of seen) stands)) in
      subst (AppendsPrefix before after) (sym written)
      (AppendsPrefix-more before after (text_of seen ++ flat_map text judgements)
      (text_of (rest_of (seen ++ part) ++ left))
      (AppendsPrefix-then before between after (text_of seen) (flat_map text judgements)
      (h.captures.sent f s) prefix))

-- ---- the stream as far as it was read

module _ (text : Judgement → List ℕ) where
  -- of `limit` bytes all but `left` were got, and what is written for them went out
  pub record HasGot (limit left : ℕ) (reader : KissReader)
      (first now old new : Option (List ℕ)) : Type 0 where
    pub bytes : List ℕ
    pub consumed : Consumes first now bytes
    pub count : length bytes + left ≡ limit
    pub stands : StandsAfter reader (rest_of bytes)
    pub sent : Appends old new (text_of text bytes)

  pub HasGot-none : (limit : ℕ) (reader : KissReader) (first old : Option (List ℕ))
      → StandsAfter reader [] → HasGot limit limit reader first first old old
  HasGot-none limit reader first old s = record {
    bytes = [];
    consumed = Consumes-nil first;
    count = omega arith;
    stands = rw (rest_of-none [] s.whole) s;
    sent = rw (judgements_of-none [] s.whole) (Appends-nil old);
  }

  pub HasGot-more : (limit left after : ℕ) (reader next : KissReader)
      (first now then_ old mid new : Option (List ℕ)) (chunk : List ℕ)
      → HasGot limit left reader first now old mid → Consumes now then_ chunk
      → after + length chunk ≡ left
      → ((e : List ℕ) → StandsAfter reader e → StandsAfter next (rest_of (e ++ chunk)))
      → ((e : List ℕ) → StandsAfter reader e → Appends mid new (text_of text (e ++ chunk)))
      → HasGot limit after next first then_ old new
  HasGot-more limit left after reader next first now then_ old mid new chunk h consumed less stands
      sent =
      let count = h.count in
      record {
        bytes = h.bytes ++ chunk;
        consumed = Consumes-trans first now then_ h.bytes chunk h.consumed consumed;
        count = omega (arith, length-append h.bytes chunk);
        stands = rw (cuts h.bytes chunk).rest (stands (rest_of h.bytes) h.stands);
        sent = subst (Appends old new) (sym (text-append text h.bytes chunk))
            (Appends-trans old mid new (text_of text h.bytes)
            (text_of text (rest_of h.bytes ++ chunk)) h.sent (sent (rest_of h.bytes) h.stands));
      }

-- of an input that is left so, these bytes were got, and no further byte is spoken of
gets_prefix : (first now : Option (List ℕ)) (t : List ℕ) (limit : ℕ) → Consumes first now t
    → length t ≤ limit
    → IfSome first (λ input. Gets limit input now t ending.Read)
gets_prefix None now t limit p h = tt
gets_prefix (Some x) None t limit p h = absurd p
gets_prefix (Some x) (Some y) t limit p h = record { rest = y; whole = p; ends = (refl, h) }

-- the output was refused while a chunk was written
pub HasGot-refused : (r : List ℕ) (m limit left : ℕ) (reader : KissReader)
    (first now then_ old mid new : Option (List ℕ)) (chunk : List ℕ)
    → HasGot (capture_text r m) limit left reader first now old mid → Consumes now then_ chunk
    → length chunk ≤ left
    → ((e : List ℕ) → StandsAfter reader e → AppendsPrefix mid new
    (text_of (capture_text r m) (e ++ chunk)))
    → RunsOver (stream_plan r m) limit first then_ (Err Write) old new
HasGot-refused r m limit left reader first now then_ old mid new chunk h consumed less prefix =
    let text = capture_text r m in
    let bytes = h.bytes ++ chunk in
    let count = h.count in
    let got = gets_prefix first then_ bytes limit
    (Consumes-trans first now then_ h.bytes chunk h.consumed consumed)
    (omega (arith, length-append h.bytes chunk)) in
    let out : AppendsPrefix old new (text_of text bytes) =
    subst (AppendsPrefix old new) (sym (text-append text h.bytes chunk))
    (AppendsPrefix-then old mid new (text_of text h.bytes)
    (text_of text (rest_of h.bytes ++ chunk)) h.sent (prefix (rest_of h.bytes) h.stands)) in
    runs first bytes got out
  where
    runs : (first : Option (List ℕ)) (bytes : List ℕ)
        → IfSome first (λ input. Gets limit input then_ bytes ending.Read)
        → AppendsPrefix old new (text_of (capture_text r m) bytes)
        → RunsOver (stream_plan r m) limit first then_ (Err Write) old new
    runs None bytes g out = tt
    runs (Some x) bytes g out = (bytes, ending.Read, g, out)
