-- A frequency that is read is said so, and what is said so is read.
use Rattle.aprs_details.proofs.Common.{◌≡◌, ◌&&◌, ◌∙◌, ℕ, ℤ, ◌*◌, Bool, true, false, cond, List, [], ◌∷◌, ◌++◌, length, Option, Some, None, refl, sym, ap, subst, eqb, eqb-true, after_some, guarded_some, some_is, byte_found, chunk_found, chunk_takes, arith}
use Rattle.aprs_report.specs.Bytes.{is_space}
use Rattle.aprs_report.specs.Numeral.{is_digit_of}
use Rattle.aprs_report.specs.Reader.{◌>>=◌, numeral_of}
use Rattle.aprs_report.proofs.Steps.{if_some}
use Rattle.aprs_details.specs.Details.{without_mark}
use Rattle.aprs_details.specs.Value.{is_dot}
use Rattle.aprs_details.specs.Frequency.{Tuned, tens_of, thousandths_of, khz_at, word_at, is_tone, tone_in, tone_at, offset_of, offset_at, tuned_after, tuned_at, is_extension, after_extension, extended, frequency_of, after_altitude, mic_e_frequency_of}
use Rattle.aprs_details.specs.SaidFrequency.{IsThousandths, three, two, BeginsWithKilohertz, BeginsWithWord, IsNextTone, toned, untoned, IsNextOffset, worded, wordless, BeginsWithFrequency, HasNoFrequency, HasExtension, HasFrequency, beginning, following, HasMicEFrequency, unmarked, marked}
use Rattle.aprs_details.proofs.Lacking.{none_some, then_some}
use Rattle.aprs_details.proofs.Marks.{three_are}
use Rattle.aprs_details.specs.First.{or_other}

true_false : (b : Bool) → b ≡ true → b ≡ false → ⊥
true_false b e h = absurd cc

-- ---- the places after the point

space_last : (a b c : ℕ) → eqb c 32 ≡ true → a ∷ b ∷ c ∷ [] ≡ (a ∷ b ∷ []) ++ 32 ∷ []
space_last a b c h = rw (eqb-true c 32 h) refl

tens_found : (places : List ℕ) (n : ℕ) → length places ≡ 3 → tens_of places ≡ Some n →
    IsThousandths n places
tens_found [] n len e = absurd cc
tens_found (a ∷ []) n len e = absurd cc
tens_found (a ∷ b ∷ []) n len e = absurd cc
tens_found (a ∷ b ∷ c ∷ d ∷ more) n len e = absurd (omega (arith, len))
tens_found (a ∷ b ∷ c ∷ []) n len e =
    let f = if_some (is_space c) (numeral_of 10 48 (a ∷ b ∷ []) >>= λ m. Some (m * 10)) n e in
    after_some (numeral_of 10 48 (a ∷ b ∷ [])) (λ (m : ℕ). Some (m * 10)) n
    (IsThousandths n (a ∷ b ∷ c ∷ [])) f.1
    (λ m e1 r1. two (a ∷ b ∷ []) m refl e1 (sym (some_is (m * 10) n r1)) (space_last a b c f.0))

thousandths_in : (places : List ℕ) (n : ℕ) (o : Option ℕ) → length places ≡ 3 →
    numeral_of 10 48 places ≡ o → or_other o (tens_of places) ≡ Some n → IsThousandths n places
thousandths_in places n (Some m) len e h = three len (e ∙ h)
thousandths_in places n None len e h = tens_found places n len h

thousandths_found : (places : List ℕ) (n : ℕ) → length places ≡ 3 → thousandths_of places ≡ Some n →
    IsThousandths n places
thousandths_found places n len e = thousandths_in places n (numeral_of 10 48 places) len refl e

all_but_last : (p q : Bool) → (p && (q && false)) ≡ false
all_but_last true true = refl
all_but_last true false = refl
all_but_last false q = refl

no_number : (a b : ℕ) → numeral_of 10 48 (a ∷ b ∷ 32 ∷ []) ≡ None
unfolding numeral_of
no_number a b = rw (all_but_last (is_digit_of 10 48 a) (is_digit_of 10 48 b)) refl

tens_take : (tens : List ℕ) (m : ℕ) → length tens ≡ 2 → numeral_of 10 48 tens ≡ Some m →
    thousandths_of (tens ++ 32 ∷ []) ≡ Some (m * 10)
tens_take [] m len e = absurd cc
tens_take (a ∷ []) m len e = absurd cc
tens_take (a ∷ b ∷ c ∷ more) m len e = absurd (omega (arith, len))
tens_take (a ∷ b ∷ []) m len e =
    ap (λ (o : Option ℕ). or_other o (tens_of (a ∷ b ∷ 32 ∷ []))) (no_number a b)
    ∙ ap (λ (o : Option ℕ). o >>= λ n. Some (n * 10)) e

thousandths_take : (places : List ℕ) (n : ℕ) → IsThousandths n places → thousandths_of places ≡ Some n
thousandths_take places n (three len e) = ap (λ (o : Option ℕ). or_other o (tens_of places)) e
thousandths_take places n (two tens m len e value parts) =
    ap thousandths_of parts ∙ tens_take tens m len e ∙ ap (λ (k : ℕ). Some k) (sym value)

three_places : (places : List ℕ) (n : ℕ) → IsThousandths n places → length places ≡ 3
three_places places n (three len e) = len
three_places places n (two tens m len e value parts) = ap length parts ∙ three_of tens len
  where
    three_of : (tens : List ℕ) → length tens ≡ 2 → length (tens ++ 32 ∷ []) ≡ 3
    three_of [] h = absurd cc
    three_of (a ∷ []) h = absurd cc
    three_of (a ∷ b ∷ []) h = refl
    three_of (a ∷ b ∷ c ∷ more) h = absurd (omega (arith, h))

-- ---- the frequency

khz_parts : (text megahertz c1 c2 places c3 unit rest : List ℕ) (b : ℕ) → text ≡ megahertz ++ c1 →
    c1 ≡ b ∷ c2 → is_dot b ≡ true → c2 ≡ places ++ c3 → c3 ≡ unit ++ rest →
    unit ≡ 77 ∷ 72 ∷ 122 ∷ [] → text ≡ megahertz ++ 46 ∷ (places ++ 77 ∷ 72 ∷ 122 ∷ rest)
khz_parts text megahertz c1 c2 places c3 unit rest b e1 e2 h e3 e4 e5 =
    rw (e1, e2, eqb-true b 46 h, e3, e4, e5) refl

khz_found : (text : List ℕ) (x : ℕ × List ℕ) → khz_at text ≡ Some x → BeginsWithKilohertz x.0 x.1 text
unfolding khz_at
khz_found text x e = after_some _ _ _ _ e (λ megahertz e1 r1. after_some _ _ _ _ r1 (λ dot e2 r2.
    after_some _ _ _ _ r2 (λ places e3 r3. after_some _ _ _ _ r3 (λ unit e4 r4.
    after_some _ _ _ _ r4 (λ whole e5 r5. after_some _ _ _ _ r5 (λ thousandths e6 r6.
    let f1 = chunk_found 3 text megahertz e1 in
    let f2 = byte_found is_dot megahertz.1 dot e2 in
    let f3 = chunk_found 3 dot.1 places e3 in
    let f4 = chunk_found 3 places.1 unit e4 in
    let g = guarded_some _ _ _ r6 in
    subst (λ (x : ℕ × List ℕ). BeginsWithKilohertz x.0 x.1 text) g.1 (record {
      megahertz = megahertz.0;
      places = places.0;
      whole = whole;
      thousandths = thousandths;
      parts =
          khz_parts text megahertz.0 megahertz.1 dot.1 places.0 places.1 unit.0 unit.1 dot.0
          f1.parts f2.0 f2.1 f3.parts f4.parts (three_are 77 72 122 unit.0 f4.len g.0);
      three = f1.len;
      at_megahertz = e5;
      at_places = thousandths_found places.0 thousandths f3.len e6;
      value = refl;
    })))))))

khz_takes : (khz : ℕ) (rest text : List ℕ) → BeginsWithKilohertz khz rest text →
    khz_at text ≡ Some (khz, rest)
unfolding khz_at
khz_takes khz rest text h =
    let end : List ℕ = 77 ∷ 72 ∷ 122 ∷ rest in
    ap khz_at h.parts
    ∙ rw (
      chunk_takes 3 h.megahertz (46 ∷ (h.places ++ end)) h.three,
      chunk_takes 3 h.places end (three_places h.places h.thousandths h.at_places),
      chunk_takes 3 (77 ∷ 72 ∷ 122 ∷ []) rest refl,
      h.at_megahertz,
      thousandths_take h.places h.thousandths h.at_places,
      h.value,
    ) refl

-- ---- a word, a tone and an offset

word_parts : (text rest word later : List ℕ) (b : ℕ) → text ≡ b ∷ rest → is_space b ≡ true →
    rest ≡ word ++ later → text ≡ 32 ∷ (word ++ later)
word_parts text rest word later b e h r = rw (e, eqb-true b 32 h, r) refl

word_found : (text : List ℕ) (x : List ℕ × List ℕ) → word_at text ≡ Some x → BeginsWithWord x.0 x.1 text
unfolding word_at
word_found text x e = after_some _ _ _ _ e (λ space e1 r1. after_some _ _ _ _ r1 (λ word e2 r2.
    let f1 = byte_found is_space text space e1 in
    let f2 = chunk_found 4 space.1 word e2 in
    subst (λ (x : List ℕ × List ℕ). BeginsWithWord x.0 x.1 text) (some_is (word.0, word.1) x r2)
    (record {
      four = f2.len;
      whole = word_parts text space.1 word.0 word.1 space.0 f1.0 f1.1 f2.parts;
    })))

word_takes : (word rest text : List ℕ) → BeginsWithWord word rest text → word_at text ≡ Some (word, rest)
unfolding word_at
word_takes word rest text h = ap word_at h.whole ∙ rw (chunk_takes 4 word rest h.four) refl

same_word : (text word later : List ℕ) (x : List ℕ × List ℕ) → word_at text ≡ Some x →
    BeginsWithWord word later text → x.0 ≡ word
same_word text word later x e h =
    ap (λ (y : List ℕ × List ℕ). y.0) (some_is x (word, later) (sym e ∙ word_takes word later text h))

-- the word and what follows it, or nothing and the text
abbrev chosen : List ℕ → List ℕ × List ℕ → Bool → List ℕ × List ℕ
chosen text x t = cond t (x.0, x.1) ([], text)

tone_by : (text : List ℕ) (x : List ℕ × List ℕ) (t : Bool) → word_at text ≡ Some x → is_tone x.0 ≡ t →
    IsNextTone (chosen text x t).0 (chosen text x t).1 text
tone_by text x true e h = toned (word_found text x e) h
tone_by text x false e h =
    untoned (λ word later w is. true_false (is_tone x.0) (ap is_tone (same_word text word later x e w) ∙ is) h)
    refl refl

tone_with : (text : List ℕ) (o : Option (List ℕ × List ℕ)) → word_at text ≡ o →
    IsNextTone (tone_in text o).0 (tone_in text o).1 text
tone_with text None e =
    untoned (λ word later w is. none_some (word, later) (sym e ∙ word_takes word later text w)) refl refl
tone_with text (Some x) e = tone_by text x (is_tone x.0) e refl

tone_said : (text : List ℕ) → IsNextTone (tone_at text).0 (tone_at text).1 text
tone_said text = tone_with text (word_at text) refl

untoned_by : (text : List ℕ) (x : List ℕ × List ℕ) (t : Bool) → word_at text ≡ Some x → is_tone x.0 ≡ t →
    ((word later : List ℕ) → BeginsWithWord word later text → is_tone word ≡ true → ⊥) →
    chosen text x t ≡ ([], text)
untoned_by text x true e h never = absurd (never x.0 x.1 (word_found text x e) h)
untoned_by text x false e h never = refl

untoned_with : (text : List ℕ) (o : Option (List ℕ × List ℕ)) → word_at text ≡ o →
    ((word later : List ℕ) → BeginsWithWord word later text → is_tone word ≡ true → ⊥) →
    tone_in text o ≡ ([], text)
untoned_with text None e never = refl
untoned_with text (Some x) e never = untoned_by text x (is_tone x.0) e refl never

tone_takes : (tone rest text : List ℕ) → IsNextTone tone rest text → tone_at text ≡ (tone, rest)
tone_takes tone rest text (toned w is) = ap (tone_in text) (word_takes tone rest text w) ∙ rw is refl
tone_takes tone rest text (untoned never e r) =
    untoned_with text (word_at text) refl never ∙ rw (e, r) refl

offset_with : (text : List ℕ) (o : Option (List ℕ × List ℕ)) → word_at text ≡ o →
    IsNextOffset (o >>= λ (x : List ℕ × List ℕ). offset_of x.0) text
offset_with text None e =
    wordless (λ word rest w. none_some (word, rest) (sym e ∙ word_takes word rest text w)) refl
offset_with text (Some x) e = worded x.0 x.1 (word_found text x e) refl

offset_said : (text : List ℕ) → IsNextOffset (offset_at text) text
offset_said text = offset_with text (word_at text) refl

wordless_with : (text : List ℕ) (o : Option (List ℕ × List ℕ)) → word_at text ≡ o →
    ((word rest : List ℕ) → BeginsWithWord word rest text → ⊥) →
    (o >>= λ (x : List ℕ × List ℕ). offset_of x.0) ≡ None
wordless_with text None e never = refl
wordless_with text (Some x) e never = absurd (never x.0 x.1 (word_found text x e))

offset_takes : (offset : Option ℤ) (text : List ℕ) → IsNextOffset offset text → offset_at text ≡ offset
offset_takes offset text (worded word rest w e) =
    ap (λ (o : Option (List ℕ × List ℕ)). o >>= λ (x : List ℕ × List ℕ). offset_of x.0)
    (word_takes word rest text w) ∙ e
offset_takes offset text (wordless never e) = wordless_with text (word_at text) refl never ∙ sym e

-- ---- all of it

pub tuned_found : (text : List ℕ) (x : Tuned) → tuned_at text ≡ Some x → BeginsWithFrequency x text
unfolding tuned_at
tuned_found text x e =
    after_some (khz_at text) (λ (y : ℕ × List ℕ). Some (tuned_after y)) x (BeginsWithFrequency x text) e
    (λ y e1 r1. subst (λ (x : Tuned). BeginsWithFrequency x text) (some_is (tuned_after y) x r1) (record {
      after = y.1;
      after_tone = (tone_at y.1).1;
      frequency = khz_found text y e1;
      tone = tone_said y.1;
      offset = offset_said (tone_at y.1).1;
    }))

tuned_is : (x : Tuned) (after after_tone : List ℕ) → IsNextTone x.tone after_tone after →
    IsNextOffset x.offset after_tone → tuned_after (x.khz, after) ≡ x
tuned_is x after after_tone t o =
    ap (λ (y : List ℕ × List ℕ). record { khz = x.khz; tone = y.0; offset = offset_at y.1 })
    (tone_takes x.tone after_tone after t)
    ∙ ap (λ (z : Option ℤ). record { khz = x.khz; tone = x.tone; offset = z }) (offset_takes x.offset after_tone o)

pub tuned_takes : (text : List ℕ) (x : Tuned) → BeginsWithFrequency x text → tuned_at text ≡ Some x
unfolding tuned_at
tuned_takes text x h =
    then_some (khz_at text) (x.khz, h.after) (λ (y : ℕ × List ℕ). Some (tuned_after y)) (Some x)
    (khz_takes x.khz h.after text h.frequency)
    (ap (λ (x : Tuned). Some x) (tuned_is x h.after h.after_tone h.tone h.offset))

-- ---- where it stands

none_there : (text : List ℕ) → tuned_at text ≡ None → HasNoFrequency text
none_there text e x h = none_some x (sym e ∙ tuned_takes text x h)

none_read : (text : List ℕ) (o : Option Tuned) → tuned_at text ≡ o → HasNoFrequency text →
    tuned_at text ≡ None
none_read text None e never = e
none_read text (Some x) e never = absurd (never x (tuned_found text x e))

extension_found : (rest comment : List ℕ) → after_extension comment ≡ Some rest → HasExtension rest comment
unfolding after_extension
extension_found rest comment e = after_some _ _ _ _ e (λ field e1 r1.
    let f = chunk_found 7 comment field e1 in
    let g = guarded_some (is_extension field.0) field.1 rest r1 in
    record {
      field = field.0;
      seven = f.len;
      extension = g.0;
      whole = f.parts ∙ ap (λ (l : List ℕ). field.0 ++ l) g.1;
    })

extension_takes : (rest comment : List ℕ) → HasExtension rest comment → after_extension comment ≡ Some rest
unfolding after_extension
extension_takes rest comment h =
    ap after_extension h.whole ∙ rw (chunk_takes 7 h.field rest h.seven, h.extension) refl

frequency_in : (comment : List ℕ) (x : Tuned) (o : Option Tuned) → tuned_at comment ≡ o →
    or_other o (extended comment) ≡ Some x → HasFrequency x comment
frequency_in comment x (Some y) e h = beginning (tuned_found comment x (e ∙ h))
frequency_in comment x None e h =
    after_some (after_extension comment) tuned_at x (HasFrequency x comment) h
    (λ rest e1 r1. following rest (none_there comment e) (extension_found rest comment e1)
    (tuned_found rest x r1))

pub frequency_found : (comment : List ℕ) (x : Tuned) → frequency_of comment ≡ Some x →
    HasFrequency x comment
unfolding frequency_of
frequency_found comment x e = frequency_in comment x (tuned_at comment) refl e

pub frequency_takes : (comment : List ℕ) (x : Tuned) → HasFrequency x comment →
    frequency_of comment ≡ Some x
unfolding frequency_of
frequency_takes comment x (beginning h) =
    ap (λ (o : Option Tuned). or_other o (extended comment)) (tuned_takes comment x h)
frequency_takes comment x (following rest never extension h) =
    ap (λ (o : Option Tuned). or_other o (extended comment))
    (none_read comment (tuned_at comment) refl never)
    ∙ then_some (after_extension comment) rest tuned_at (Some x) (extension_takes rest comment extension)
    (tuned_takes rest x h)

mic_e_in : (comment : List ℕ) (x : Tuned) (o : Option Tuned) → tuned_at (after_altitude comment) ≡ o →
    or_other o (tuned_at (after_altitude (without_mark comment))) ≡ Some x → HasMicEFrequency x comment
mic_e_in comment x (Some y) e h = unmarked (tuned_found (after_altitude comment) x (e ∙ h))
mic_e_in comment x None e h =
    marked (none_there (after_altitude comment) e)
    (tuned_found (after_altitude (without_mark comment)) x h)

pub mic_e_found : (comment : List ℕ) (x : Tuned) → mic_e_frequency_of comment ≡ Some x →
    HasMicEFrequency x comment
unfolding mic_e_frequency_of
mic_e_found comment x e = mic_e_in comment x (tuned_at (after_altitude comment)) refl e

pub mic_e_takes : (comment : List ℕ) (x : Tuned) → HasMicEFrequency x comment →
    mic_e_frequency_of comment ≡ Some x
unfolding mic_e_frequency_of
mic_e_takes comment x (unmarked h) =
    ap (λ (o : Option Tuned). or_other o (tuned_at (after_altitude (without_mark comment))))
    (tuned_takes (after_altitude comment) x h)
mic_e_takes comment x (marked never h) =
    ap (λ (o : Option Tuned). or_other o (tuned_at (after_altitude (without_mark comment))))
    (none_read (after_altitude comment) (tuned_at (after_altitude comment)) refl never)
    ∙ tuned_takes (after_altitude (without_mark comment)) x h
