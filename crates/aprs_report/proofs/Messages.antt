-- A message that is read is spelled so, and what is spelled so is read.
use Rattle.aprs_report.proofs.Common.{◌≡◌, ℕ, suc, ◌+◌, ◌-◌, ◌<◌, ◌≤◌, Bool, true, false, ◌&&◌, List, [], ◌∷◌, ◌++◌, length, take, drop, get_or, Option, Some, None, refl, sym, zero, ap, subst, ◌∙◌, arith, append_assoc, add-one, eqb, leb, codes, list_all, eqb-true, eq-eqb, and_parts, and_left, and_right, lt-leb, none-some, drop-cons, take-suc, append-nil, drop_all, take_all, length-drop}
use Rattle.aprs_report.specs.Bytes.{is_alphanumeric, is_line_end}
use Rattle.aprs_report.specs.Message.{is_id, IsAddressed, IsAnswer, IsNumbered, IsNoAnswer, IsText}
use Rattle.aprs_report.specs.Message.{IsMessage, IsReply}
use Rattle.aprs_report.specs.Reading.{Value, message, ack, rej, HasForm}
use Rattle.aprs_report.specs.Reader.{◌>>=◌, value_when, cut_end, is_colon, addressee_and_part_of, answer_at}
use Rattle.aprs_report.specs.Reader.{id_at, text_and_id_with, text_and_id_of, part_with, part_of}
use Rattle.aprs_report.specs.Reader.{message_with}
use Rattle.aprs_report.proofs.Steps.{after_some, guarded_some, some_is, chunk_found, chunk_takes}
use Rattle.aprs_report.proofs.Steps.{byte_found}
use Rattle.aprs_report.proofs.Cuts.{cut_found, cut_takes}
use Rattle.aprs_report.proofs.Names.{name_found, name_takes}

-- ---- the loop

abbrev pub with_prefix : List ℕ → Option (List ℕ × List ℕ) → Option (List ℕ × List ℕ)
with_prefix start o = o >>= λ x. Some (start ++ x.0, x.1)

regroup : (start : List ℕ) (b : ℕ) (o : Option (List ℕ × List ℕ)) →
    with_prefix start (o >>= λ x. Some (b ∷ x.0, x.1)) ≡ with_prefix (start ++ b ∷ []) o
regroup start b (Some x) = ap (λ (t : List ℕ). Some (t, x.1)) (simp append_assoc)
regroup start b None = refl

numbered_at_none : (b : ℕ) (bs : List ℕ) → id_at (b ∷ bs) ≡ None →
    text_and_id_of (b ∷ bs) ≡ (text_and_id_of bs >>= λ x. Some (b ∷ x.0, x.1))
unfolding text_and_id_of
numbered_at_none b bs h = ap (λ (o : Option (List ℕ)). text_and_id_with b o (text_and_id_of bs)) h

numbered_at_some : (b : ℕ) (bs id : List ℕ) → id_at (b ∷ bs) ≡ Some id →
    text_and_id_of (b ∷ bs) ≡ Some ([], id)
unfolding text_and_id_of
numbered_at_some b bs id h = ap (λ (o : Option (List ℕ)). text_and_id_with b o (text_and_id_of bs)) h

pub to_the_end : (part : List ℕ) (i : ℕ) → drop i part ≡ take (length part - i) (drop i part)
to_the_end part i =
    sym (take_all (length part - i) (drop i part) (omega (arith, length-drop i part)))

goes_on_suc : (part : List ℕ) (i : ℕ) (t : Option (List ℕ × List ℕ)) → i < length part →
    id_at (drop i part) ≡ None → with_prefix (take i part) (text_and_id_of (drop i part)) ≡ t →
    with_prefix (take (suc i) part) (text_and_id_of (drop (suc i) part)) ≡ t
goes_on_suc part i t lt none h =
    let here : drop i part ≡ get_or part i 0 ∷ drop (suc i) part = drop-cons part i 0 lt in
    let step =
    numbered_at_none (get_or part i 0) (drop (suc i) part) (ap id_at (sym here) ∙ none) in
    ap (λ (f : List ℕ). with_prefix f (text_and_id_of (drop (suc i) part))) (take-suc part i 0 lt)
    ∙ sym (regroup (take i part) (get_or part i 0) (text_and_id_of (drop (suc i) part)))
    ∙ ap (with_prefix (take i part)) (sym (ap text_and_id_of here ∙ step)) ∙ h

pub goes_on : (part : List ℕ) (i : ℕ) (t : Option (List ℕ × List ℕ)) → i < length part →
    id_at (drop i part) ≡ None → with_prefix (take i part) (text_and_id_of (drop i part)) ≡ t →
    with_prefix (take (i + 1) part) (text_and_id_of (drop (i + 1) part)) ≡ t
goes_on part i t lt none h =
    subst (λ (k : ℕ). with_prefix (take k part) (text_and_id_of (drop k part)) ≡ t) (sym (add-one i))
    (goes_on_suc part i t lt none h)

pub stops : (part : List ℕ) (i : ℕ) (id : List ℕ) (t : Option (List ℕ × List ℕ)) →
    i < length part → id_at (drop i part) ≡ Some id →
    with_prefix (take i part) (text_and_id_of (drop i part)) ≡ t → Some (take i part, id) ≡ t
stops part i id t lt some h =
    let here : drop i part ≡ get_or part i 0 ∷ drop (suc i) part = drop-cons part i 0 lt in
    let step =
    numbered_at_some (get_or part i 0) (drop (suc i) part) id (ap id_at (sym here) ∙ some) in
    ap (λ (f : List ℕ). Some (f, id)) (sym (append-nil (take i part)))
    ∙ ap (with_prefix (take i part)) (sym (ap text_and_id_of here ∙ step)) ∙ h

pub ends : (part : List ℕ) (i : ℕ) (t : Option (List ℕ × List ℕ)) → length part ≤ i →
    with_prefix (take i part) (text_and_id_of (drop i part)) ≡ t → None ≡ t
unfolding text_and_id_of
ends part i t le h =
    ap (λ (r : List ℕ). with_prefix (take i part) (text_and_id_of r)) (sym (drop_all i part le)) ∙ h

-- ---- what comes before the last six bytes

no_prefix : (o : Option (List ℕ × List ℕ)) → with_prefix [] o ≡ o
no_prefix (Some x) = refl
no_prefix None = refl

too_long : (bytes : List ℕ) → 6 < length bytes → id_at bytes ≡ None
too_long [] h = absurd (omega arith)
too_long (b ∷ id) h =
    let short : leb (length id) 5 ≡ false = lt-leb (length id) 5 (omega arith) in
    let no : is_id id ≡ false = and_left _ (list_all is_alphanumeric id) (and_right _ _ short) in
    ap (λ (p : Bool). value_when p id) (and_right (eqb b 123) _ no)

skipped : (part : List ℕ) (i : ℕ) → i ≤ length part - 6 →
    with_prefix (take i part) (text_and_id_of (drop i part)) ≡ text_and_id_of part
skipped part zero h = no_prefix (text_and_id_of part)
skipped part (suc i) h =
    goes_on_suc part i (text_and_id_of part) (omega arith)
    (too_long (drop i part) (omega (arith, length-drop i part))) (skipped part i (omega arith))

-- an id can begin at one of the last six bytes alone
pub starts : (part : List ℕ) →
    with_prefix (take (length part - 6) part) (text_and_id_of (drop (length part - 6) part))
    ≡ text_and_id_of part
starts part = skipped part (length part - 6) (omega arith)

-- ---- answers

-- a word of three bytes, at both ends
abbrev word_of : ℕ → ℕ → ℕ → List ℕ
word_of a b c = a ∷ b ∷ c ∷ []

answer_found : (a b c : ℕ) (part id : List ℕ) → answer_at (word_of a b c) part ≡ Some id →
    IsAnswer (word_of a b c) id part
unfolding answer_at
answer_found a b c [] id e = absurd (none-some id e)
answer_found a b c (x ∷ []) id e = absurd (none-some id e)
answer_found a b c (x ∷ y ∷ []) id e = absurd (none-some id e)
answer_found a b c (x ∷ y ∷ z ∷ bytes) id e =
    let g = guarded_some (eqb x a && eqb y b && eqb z c && is_id bytes) bytes id e in
    let d1 = and_parts (eqb x a && eqb y b && eqb z c) (is_id bytes) g.0 in
    let d2 = and_parts (eqb x a && eqb y b) (eqb z c) d1.0 in
    let d3 = and_parts (eqb x a) (eqb y b) d2.0 in
    let e1 = eqb-true _ _ d3.0 in let e2 = eqb-true _ _ d3.1 in let e3 = eqb-true _ _ d2.1 in
    record { an_id = ap is_id (sym g.1) ∙ d1.1; whole = cc (e1, e2, e3, g.1) }

answer_takes : (a b c : ℕ) (part id : List ℕ) → IsAnswer (word_of a b c) id part →
    answer_at (word_of a b c) part ≡ Some id
unfolding answer_at
answer_takes a b c part id h =
    ap (answer_at (word_of a b c)) h.whole ∙ rw (
      eq-eqb a a refl,
      eq-eqb b b refl,
      eq-eqb c c refl,
      h.an_id,
    ) refl

abbrev ack_id : List ℕ → Option (List ℕ)
ack_id part = answer_at (codes "ack") part

abbrev rej_id : List ℕ → Option (List ℕ)
rej_id part = answer_at (codes "rej") part

-- ---- ids at the end

found_here : (b : ℕ) (bs : List ℕ) (x : List ℕ × List ℕ) (o : Option (List ℕ)) →
    ((y : List ℕ × List ℕ) → text_and_id_of bs ≡ Some y → IsNumbered y.0 y.1 bs) →
    id_at (b ∷ bs) ≡ o → text_and_id_with b o (text_and_id_of bs) ≡ Some x → IsNumbered x.0 x.1 (b ∷ bs)
found_here b bs x (Some id) later is e =
    let g = guarded_some (eqb b 123 && is_id bs) bs id is in
    let d = and_parts (eqb b 123) (is_id bs) g.0 in
    let at : b ≡ 123 = eqb-true b 123 d.0 in
    subst (λ (x : List ℕ × List ℕ). IsNumbered x.0 x.1 (b ∷ bs)) (some_is ([], id) x e)
    (record { an_id = ap is_id (sym g.1) ∙ d.1; whole = cc (at, g.1) })
found_here b bs x None later is e = after_some _ _ _ _ e (λ y e1 r1.
    let more = later y e1 in
    subst (λ (x : List ℕ × List ℕ). IsNumbered x.0 x.1 (b ∷ bs)) (some_is (b ∷ y.0, y.1) x r1)
    (record { an_id = more.an_id; whole = ap (λ (t : List ℕ). b ∷ t) more.whole }))

pub numbered_found : (part : List ℕ) (x : List ℕ × List ℕ) → text_and_id_of part ≡ Some x →
    IsNumbered x.0 x.1 part
unfolding text_and_id_of
numbered_found [] x e = absurd (none-some x e)
numbered_found (b ∷ bs) x e =
    found_here b bs x (id_at (b ∷ bs)) (λ y h. numbered_found bs y h) refl e

no_id_part : (t id : List ℕ) → list_all is_alphanumeric (t ++ 123 ∷ id) ≡ false
no_id_part [] id = refl
no_id_part (b ∷ t) id = and_right (is_alphanumeric b) _ (no_id_part t id)

no_id : (b : ℕ) (t id : List ℕ) → id_at (b ∷ (t ++ 123 ∷ id)) ≡ None
no_id b t id =
    let no : is_id (t ++ 123 ∷ id) ≡ false = and_right _ _ (no_id_part t id) in
    ap (λ (p : Bool). value_when p (t ++ 123 ∷ id)) (and_right (eqb b 123) _ no)

numbered_again : (t id : List ℕ) → is_id id ≡ true → text_and_id_of (t ++ 123 ∷ id) ≡ Some (t, id)
numbered_again [] id h = numbered_at_some 123 id id (ap (λ (p : Bool). value_when p id) h)
numbered_again (b ∷ t) id h =
    numbered_at_none b (t ++ 123 ∷ id) (no_id b t id)
    ∙ ap (λ (o : Option (List ℕ × List ℕ)). o >>= λ x. Some (b ∷ x.0, x.1)) (numbered_again t id h)

pub numbered_takes : (part t id : List ℕ) → IsNumbered t id part → text_and_id_of part ≡ Some (t, id)
numbered_takes part t id h = ap text_and_id_of h.whole ∙ numbered_again t id h.an_id

-- ---- parts

no_answers : (part : List ℕ) → ack_id part ≡ None → rej_id part ≡ None → IsNoAnswer part
no_answers part e1 e2 = record {
  no_ack = λ id h. none-some id (sym e1 ∙ answer_takes 97 99 107 part id h);
  no_rej = λ id h. none-some id (sym e2 ∙ answer_takes 114 101 106 part id h);
}

-- whatever was found, it is so
found_with : (addressee part info : List ℕ) (acked rejected : Option (List ℕ))
    (numbered : Option (List ℕ × List ℕ)) → IsAddressed addressee part info → ack_id part ≡ acked →
    rej_id part ≡ rejected
    → text_and_id_of part ≡ numbered → HasForm (part_with addressee part acked rejected numbered) info
found_with addressee part info (Some id) rejected numbered a e1 e2 e3 =
    record { part = part; addressed = a; answer = answer_found 97 99 107 part id e1 }
found_with addressee part info None (Some id) numbered a e1 e2 e3 =
    record { part = part; addressed = a; answer = answer_found 114 101 106 part id e2 }
found_with addressee part info None None (Some x) a e1 e2 e3 =
    record {
      part = part;
      addressed = a;
      no_answer = no_answers part e1 e2;
      at_text =
          numbered_found part x e3;
    }
found_with addressee part info None None None a e1 e2 e3 =
    record {
      part = part;
      addressed = a;
      no_answer = no_answers part e1 e2;
      at_text =
          (refl, λ t id h. none-some (t, id) (sym e3 ∙ numbered_takes part t id h));
    }

part_found : (addressee part info : List ℕ) → IsAddressed addressee part info →
    HasForm (part_of addressee part) info
part_found addressee part info a = found_with addressee part info _ _ _ a refl refl refl

none_answered : (a b c : ℕ) (part : List ℕ) (o : Option (List ℕ)) →
    answer_at (word_of a b c) part ≡ o → ((id : List ℕ) → IsAnswer (word_of a b c) id part → ⊥) →
    o ≡ None
none_answered a b c part None e h = refl
none_answered a b c part (Some id) e h = absurd (h id (answer_found a b c part id e))

none_numbered : (part : List ℕ) (o : Option (List ℕ × List ℕ)) → text_and_id_of part ≡ o →
    ((t id : List ℕ) → IsNumbered t id part → ⊥) → o ≡ None
none_numbered part None e h = refl
none_numbered part (Some x) e h = absurd (h x.0 x.1 (numbered_found part x e))

-- no part begins with both words
no_both : (id id' part : List ℕ) → IsAnswer (codes "rej") id part →
    IsAnswer (codes "ack") id' part → ⊥
no_both id id' part h k =
    let heads : ◌≡◌ {A = ℕ} 114 97 = ap (λ (l : List ℕ). get_or l 0 0) (sym h.whole ∙ k.whole) in
    absurd (omega (arith, heads))

ack_takes : (addressee id part : List ℕ) → IsAnswer (codes "ack") id part →
    part_of addressee part ≡ ack addressee id
ack_takes addressee id part h = rw (answer_takes 97 99 107 part id h) refl

rej_takes : (addressee id part : List ℕ) → IsAnswer (codes "rej") id part →
    part_of addressee part ≡ rej addressee id
rej_takes addressee id part h =
    rw (
      none_answered 97 99 107 part (ack_id part) refl (λ id' k. no_both id id' part h k),
      answer_takes 114 101 106 part id h,
    ) refl

text_takes : (addressee text : List ℕ) (id : Option (List ℕ)) (part : List ℕ) → IsNoAnswer part →
    IsText text id part → part_of addressee part ≡ message addressee text id
text_takes addressee text (Some id) part free h =
    rw (
      none_answered 97 99 107 part (ack_id part) refl free.no_ack,
      none_answered 114 101 106 part (rej_id part) refl free.no_rej,
      numbered_takes part text id h,
    ) refl
text_takes addressee text None part free h =
    rw (
      none_answered 97 99 107 part (ack_id part) refl free.no_ack,
      none_answered 114 101 106 part (rej_id part) refl free.no_rej,
      none_numbered part (text_and_id_of part) refl h.1,
    )
    (ap (λ (t : List ℕ). message addressee t None) (sym h.0))

-- ---- messages

addressed_found : (bytes : List ℕ) (x : List ℕ × List ℕ) → addressee_and_part_of bytes ≡ Some x →
    IsAddressed x.0 x.1 (58 ∷ bytes)
unfolding addressee_and_part_of
addressed_found bytes x e =
    after_some _ _ _ _ e (λ field e1 r1. after_some _ _ _ _ r1
    (λ name e2 r2. after_some _ _ _ _ r2 (λ colon e3 r3.
    let start = chunk_found 9 bytes field e1 in
    let mark = byte_found is_colon field.1 colon e3 in
    let after : field.1 ≡ 58 ∷ colon.1 =
    mark.0 ∙ ap (λ (n : ℕ). n ∷ colon.1) (eqb-true colon.0 58 mark.1) in
    subst (λ (x : List ℕ × List ℕ). IsAddressed x.0 x.1 (58 ∷ bytes))
    (some_is (name, cut_end is_line_end colon.1) x r3) (record {
      field = field.0;
      bytes = colon.1;
      nine = start.len;
      named = name_found field.0 name e2;
      cut = cut_found is_line_end colon.1;
      whole = ap (λ (t : List ℕ). 58 ∷ t) (start.parts ∙ ap (λ (t : List ℕ). field.0 ++ t) after);
    }))))

addressed_takes : (addressee part info : List ℕ) (h : IsAddressed addressee part info) →
    addressee_and_part_of (h.field ++ (58 ∷ h.bytes)) ≡ Some (addressee, part)
unfolding addressee_and_part_of
addressed_takes addressee part info h =
    rw (chunk_takes 9 h.field (58 ∷ h.bytes) h.nine, name_takes h.field addressee h.named)
    (ap (λ (t : List ℕ). Some (addressee, t)) (cut_takes is_line_end part h.bytes h.cut))

pub message_found : (bytes : List ℕ) (v : Value) → message_with bytes ≡ Some v →
    HasForm v (58 ∷ bytes)
unfolding message_with
message_found bytes v e = after_some _ _ _ _ e (λ a e1 r1.
    subst (λ (v : Value). HasForm v (58 ∷ bytes)) (some_is (part_of a.0 a.1) v r1)
    (part_found a.0 a.1 (58 ∷ bytes) (addressed_found bytes a e1)))

-- the bytes after the first, and what they read as
pub record MessageAt (v : Value) (info : List ℕ) : Type 0 where
  pub bytes : List ℕ
  pub whole : info ≡ 58 ∷ bytes
  pub value : message_with bytes ≡ Some v

part_takes : (addressee part info : List ℕ) (v : Value) → IsAddressed addressee part info →
    part_of addressee part ≡ v → MessageAt v info
unfolding message_with
part_takes addressee part info v a e = record {
  bytes = a.field ++ (58 ∷ a.bytes);
  whole = a.whole;
  value = rw (addressed_takes addressee part info a) (ap (λ (v : Value). Some v) e);
}

pub message_takes : (addressee text : List ℕ) (id : Option (List ℕ)) (info : List ℕ) →
    IsMessage addressee text id info → MessageAt (message addressee text id) info
message_takes addressee text id info h =
    part_takes addressee h.part info _ h.addressed
    (text_takes addressee text id h.part h.no_answer h.at_text)

pub acks_take : (addressee id info : List ℕ) → IsReply (codes "ack") addressee id info →
    MessageAt (ack addressee id) info
acks_take addressee id info h =
    part_takes addressee h.part info _ h.addressed (ack_takes addressee id h.part h.answer)

pub rejs_take : (addressee id info : List ℕ) → IsReply (codes "rej") addressee id info →
    MessageAt (rej addressee id) info
rejs_take addressee id info h =
    part_takes addressee h.part info _ h.addressed (rej_takes addressee id h.part h.answer)
