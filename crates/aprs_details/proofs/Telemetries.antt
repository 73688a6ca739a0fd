-- A telemetry report that is read is spelled so, and what is spelled so is read.
use Rattle.aprs_details.proofs.Common.{◌≡◌, ◌∙◌, ap, Bool, ℕ, true, List, [], ◌∷◌, ◌++◌, length, Option, Some, None, refl, sym, subst, eqb, eqb-true, and_parts, after_some, guarded_some, some_is, chunk_found, arith, false, not, cond, list_all, chunk_takes}
use Rattle.std.proofs.Common.{append-nil}
use Rattle.aprs_io.specs.Cut.{Cut, Lacks, cut_at, is_byte}
use Rattle.std.proofs.lemmas.Bool.Decides.{nat_tests}
use Rattle.aprs_io.proofs.Cuts.{cut_at-parts, cut_at-append}
use Rattle.aprs_report.specs.Bytes.{is_digit}
use Rattle.aprs_report.proofs.Steps.{StartsWith, guarded_takes}
use Rattle.aprs_details.proofs.Lacking.{cut_at-lacks, lacks_append}
use Rattle.aprs_details.proofs.Marks.{three_are}
use Rattle.aprs_report.specs.Reader.{◌>>=◌, value_when, chunk_of}
use Rattle.aprs_details.specs.Value.{is_number, is_whole, is_unsigned_in}
use Rattle.aprs_details.specs.Telemetry.{Measured, IsTelemetry, BeginsWithNumber, numbered, unnumbered, IsNextValue, comma_before, without_comma, is_mic, is_telemetry_mark, after_mic, sequence_with, sequence_at, numbered_in, value_in, value_at, telemetry_of}

-- ---- the number

mic_parts : (text word more : List ℕ) → text ≡ word ++ more → word ≡ 77 ∷ 73 ∷ 67 ∷ [] →
    text ≡ 77 ∷ 73 ∷ 67 ∷ more
mic_parts text word more e1 e2 = rw (e1, e2) refl

mic_found : (text rest : List ℕ) → after_mic text ≡ Some rest → text ≡ 77 ∷ 73 ∷ 67 ∷ rest
unfolding after_mic
mic_found text rest e = after_some _ _ _ _ e (λ word e1 r1.
    let f = chunk_found 3 text word e1 in
    let g = guarded_some (is_mic word.0) word.1 rest r1 in
    subst (λ (l : List ℕ). text ≡ 77 ∷ 73 ∷ 67 ∷ l) g.1
    (mic_parts text word.0 word.1 f.parts (three_are 77 73 67 word.0 f.len g.0)))

numbered_found : (text : List ℕ) (o : Option Cut) (x : List ℕ × List ℕ) → cut_at 44 text ≡ o →
    numbered_in o ≡ Some x → BeginsWithNumber x.0 x.1 text
numbered_found text None x c e = absurd cc
numbered_found text (Some cut) x c e =
    let g = guarded_some (is_whole cut.before) (cut.before, cut.after) x e in
    subst (λ (x : List ℕ × List ℕ). BeginsWithNumber x.0 x.1 text) g.1
    (numbered g.0 (cut_at-parts 44 text cut c))

number_found : (text : List ℕ) (o : Option (List ℕ)) (x : List ℕ × List ℕ) → after_mic text ≡ o →
    sequence_with o (cut_at 44 text) ≡ Some x → BeginsWithNumber x.0 x.1 text
number_found text None x m e = numbered_found text (cut_at 44 text) x refl e
number_found text (Some rest) x m e =
    subst (λ (x : List ℕ × List ℕ). BeginsWithNumber x.0 x.1 text)
    (some_is ([], without_comma rest) x e)
    (unnumbered rest refl refl (mic_found text rest m))

-- ---- the values

value_in_found : (text : List ℕ) (o : Option Cut) (x : List ℕ × Option (List ℕ)) →
    cut_at 44 text ≡ o → value_in text o ≡ Some x → IsNextValue x.0 (Some text) x.1
value_in_found text None x c e =
    let g = guarded_some (is_number text) (text, None) x e in
    subst (λ (x : List ℕ × Option (List ℕ)). IsNextValue x.0 (Some text) x.1) g.1
    (g.0, sym (append-nil text))
value_in_found text (Some cut) x c e =
    let g = guarded_some (is_number cut.before) (cut.before, Some cut.after) x e in
    subst (λ (x : List ℕ × Option (List ℕ)). IsNextValue x.0 (Some text) x.1) g.1
    (g.0, cut_at-parts 44 text cut c)

value_found : (left : Option (List ℕ)) (x : List ℕ × Option (List ℕ)) → value_at left ≡ Some x →
    IsNextValue x.0 left x.1
value_found None x e =
    subst (λ (x : List ℕ × Option (List ℕ)). IsNextValue x.0 None x.1) (some_is ([], None) x e)
    (refl, refl)
value_found (Some text) x e = value_in_found text (cut_at 44 text) x refl e

-- ---- the report

-- two bytes that pass the test are these
mark_is : (mark : List ℕ) → length mark ≡ 2 → is_telemetry_mark mark ≡ true → mark ≡ 84 ∷ 35 ∷ []
mark_is [] two h = absurd cc
mark_is (a ∷ []) two h = absurd cc
mark_is (a ∷ b ∷ c ∷ more) two h = absurd (omega (arith, two))
mark_is (a ∷ b ∷ []) two h =
    let p = and_parts (eqb a 84) (eqb b 35) h in
    rw (eqb-true a 84 p.0, eqb-true b 35 p.1) refl

mark_parts : (info mark text : List ℕ) → info ≡ mark ++ text → mark ≡ 84 ∷ 35 ∷ [] →
    info ≡ 84 ∷ 35 ∷ text
mark_parts info mark text e1 e2 = rw (e1, e2) refl

-- a report that is read is one
pub telemetry_found : (info : List ℕ) (t : Measured) → telemetry_of info ≡ Some t →
    IsTelemetry t info
unfolding telemetry_of
telemetry_found info t e = after_some _ _ _ _ e (λ mark e1 r1.
    after_some _ _ _ _ r1 (λ sequence e2 r2. after_some _ _ _ _ r2 (λ a1 e3 r3.
    after_some _ _ _ _ r3 (λ a2 e4 r4. after_some _ _ _ _ r4 (λ a3 e5 r5.
    after_some _ _ _ _ r5 (λ a4 e6 r6. after_some _ _ _ _ r6 (λ a5 e7 r7.
    let f = chunk_found 2 info mark e1 in
    let g = guarded_some _ _ _ r7 in
    subst (λ (t : Measured). IsTelemetry t info) g.1 (record {
      text = mark.1;
      values = sequence.1;
      after_a1 = a1.1;
      after_a2 = a2.1;
      after_a3 = a3.1;
      after_a4 = a4.1;
      after_a5 = a5.1;
      whole = mark_parts info mark.0 mark.1 f.parts (mark_is mark.0 f.len g.0);
      number = number_found mark.1 (after_mic mark.1) sequence refl e2;
      first = value_found (Some sequence.1) a1 e3;
      second = value_found a1.1 a2 e4;
      third = value_found a2.1 a3 e5;
      fourth = value_found a3.1 a4 e6;
      fifth = value_found a4.1 a5 e7;
      bits = refl;
    }))))))))

-- ---- and the other way

none_by : (b : ℕ) (bs : List ℕ) (o : Option (List ℕ × List ℕ)) → eqb b 77 ≡ false →
    chunk_of 3 (b ∷ bs) ≡ o → (o >>= λ (w : List ℕ × List ℕ). value_when (is_mic w.0) w.1) ≡ None
none_by b bs None n e = refl
none_by b bs (Some w) n e = first_of w.0 w.1 f.parts f.len
  where
    f : StartsWith 3 (b ∷ bs) w.0 w.1
    f = chunk_found 3 (b ∷ bs) w e

    first_of : (word more : List ℕ) → b ∷ bs ≡ word ++ more → length word ≡ 3 →
        value_when (is_mic word) more ≡ None
    first_of [] more p l = absurd cc
    first_of (x ∷ word) more p l =
        let same : x ≡ b = cc in
        let other : eqb x 77 ≡ false = ap (λ (k : ℕ). eqb k 77) same ∙ n in
        rw other refl

other_letter : (b : ℕ) → is_digit b ≡ true → eqb b 77 ≡ false
other_letter b h = grind (arith, nat_tests)

no_mic : (sequence rest : List ℕ) → is_whole sequence ≡ true → after_mic (sequence ++ 44 ∷ rest) ≡ None
unfolding after_mic
no_mic [] rest h = absurd cc
no_mic (d ∷ digits) rest h =
    let all = (and_parts (not (eqb (length (d ∷ digits)) 0)) (list_all is_digit (d ∷ digits)) h).1 in
    let one = (and_parts (is_digit d) (list_all is_digit digits) all).0 in
    none_by d (digits ++ 44 ∷ rest) (chunk_of 3 (d ∷ (digits ++ 44 ∷ rest))) (other_letter d one) refl

mic_takes : (more : List ℕ) → after_mic (77 ∷ 73 ∷ 67 ∷ more) ≡ Some more
unfolding after_mic
mic_takes more = rw (chunk_takes 3 (77 ∷ 73 ∷ 67 ∷ []) more refl) refl

-- numbers have no comma
other_than_comma : (b : ℕ) → is_digit b ≡ true → is_byte 44 b ≡ false
other_than_comma b h = grind (arith, nat_tests)

digits_lack : (text : List ℕ) → list_all is_digit text ≡ true → Lacks 44 text
digits_lack [] h = tt
digits_lack (b ∷ text) h =
    let p = and_parts (is_digit b) (list_all is_digit text) h in
    (other_than_comma b p.0, digits_lack text p.1)

whole_lacks : (text : List ℕ) → is_whole text ≡ true → Lacks 44 text
whole_lacks text h = digits_lack text (and_parts _ _ h).1

unsigned_in_lacks : (text : List ℕ) (o : Option Cut) → cut_at 46 text ≡ o →
    is_unsigned_in text o ≡ true → Lacks 44 text
unsigned_in_lacks text None c h = whole_lacks text h
unsigned_in_lacks text (Some x) c h =
    let p = and_parts (list_all is_digit x.before) (is_whole x.after) h in
    subst (Lacks 44) (sym (cut_at-parts 46 text x c))
    (lacks_append 44 x.before (46 ∷ x.after) (digits_lack x.before p.0) (refl, whole_lacks x.after p.1))

unsigned_lacks : (text : List ℕ) → is_unsigned_in text (cut_at 46 text) ≡ true → Lacks 44 text
unsigned_lacks text h = unsigned_in_lacks text (cut_at 46 text) refl h

number_lacks : (text : List ℕ) → is_number text ≡ true → Lacks 44 text
number_lacks [] h = tt
number_lacks (b ∷ rest) h = go (eqb b 45) refl h
  where
    go : (t : Bool) → eqb b 45 ≡ t →
        is_unsigned_in (cond t rest (b ∷ rest)) (cut_at 46 (cond t rest (b ∷ rest))) ≡ true →
        Lacks 44 (b ∷ rest)
    go true e k = (ap (is_byte 44) (eqb-true b 45 e), unsigned_lacks rest k)
    go false e k = unsigned_lacks (b ∷ rest) k

number_takes : (sequence rest text : List ℕ) → BeginsWithNumber sequence rest text →
    sequence_at text ≡ Some (sequence, rest)
number_takes sequence rest text (numbered w e) =
    let all : List ℕ = sequence ++ 44 ∷ rest in
    ap sequence_at e
    ∙ ap (λ (o : Option (List ℕ)). sequence_with o (cut_at 44 all)) (no_mic sequence rest w)
    ∙ ap numbered_in (cut_at-append 44 sequence rest (whole_lacks sequence w))
    ∙ guarded_takes (is_whole sequence) (sequence, rest) w
number_takes sequence rest text (unnumbered more n r e) =
    ap sequence_at e
    ∙ ap (λ (o : Option (List ℕ)). sequence_with o (cut_at 44 (77 ∷ 73 ∷ 67 ∷ more))) (mic_takes more)
    ∙ rw (n, r) refl

value_in_takes : (value text : List ℕ) (later : Option (List ℕ)) → is_number value ≡ true →
    text ≡ value ++ comma_before later → value_in text (cut_at 44 text) ≡ Some (value, later)
value_in_takes value text None h e =
    ap (λ (t : List ℕ). value_in t (cut_at 44 t)) (e ∙ append-nil value)
    ∙ ap (value_in value) (cut_at-lacks 44 value (number_lacks value h))
    ∙ guarded_takes (is_number value) (value, None) h
value_in_takes value text (Some rest) h e =
    ap (λ (t : List ℕ). value_in t (cut_at 44 t)) e
    ∙ ap (value_in (value ++ 44 ∷ rest)) (cut_at-append 44 value rest (number_lacks value h))
    ∙ guarded_takes (is_number value) (value, Some rest) h

value_takes : (value : List ℕ) (left later : Option (List ℕ)) → IsNextValue value left later →
    value_at left ≡ Some (value, later)
value_takes value None later h = rw (h.0, h.1) refl
value_takes value (Some text) later h = value_in_takes value text later h.0 h.1

-- a report that stands in the field is read
pub telemetry_takes : (info : List ℕ) (t : Measured) → IsTelemetry t info →
    telemetry_of info ≡ Some t
unfolding telemetry_of
telemetry_takes info t h =
    ap telemetry_of h.whole
    ∙ rw (
      chunk_takes 2 (84 ∷ 35 ∷ []) h.text refl,
      number_takes t.sequence h.values h.text h.number,
      value_takes t.a1 (Some h.values) h.after_a1 h.first,
      value_takes t.a2 h.after_a1 h.after_a2 h.second,
      value_takes t.a3 h.after_a2 h.after_a3 h.third,
      value_takes t.a4 h.after_a3 h.after_a4 h.fourth,
      value_takes t.a5 h.after_a4 h.after_a5 h.fifth,
      ← h.bits,
    ) refl
