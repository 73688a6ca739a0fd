-- Lemmas on the lines of a log.
use Rattle.aprs_log.proofs.Common.{◌≡◌, ◌↔◌, ℕ, ◌/◌, ◌%◌, ◌<◌, ◌≤◌, ◌&&◌, Bool, true, false, List, [], ◌∷◌, ◌++◌, length, Option, None, Some, Result, Ok, Err, IsOk, nat_le, unwrap_or, refl, arith, sym, ap, ◌∙◌, subst, list_all, le-leb, leb-true, nat_tests, result_ok, decode_of, Cut, is_byte, Lacks, cut_at-append, cut_at-parts}
use Rattle.aprs_io.specs.Cut.{cut_at}
use Rattle.aprs_log.specs.declared.moment_form.MomentForm.{MomentForm}
use Rattle.aprs_log.specs.declared.moment_form.MomentForm.TheVariants.{Seconds, Millis}
use Rattle.aprs_log.specs.Moment.{two_digits, fraction_text, IsTextOf}
use Rattle.aprs_log.specs.CivilMoment.{IsMomentText}
use Rattle.aprs_log.specs.MomentReading.{Civil, civil_text, moment_of}
use Rattle.aprs_log.specs.Receiver.{IsName, is_receiver, is_name_byte}
use Rattle.aprs_log.specs.Line.{frame_in, heard_or_passed, line_of, line_of_digits}
use Rattle.aprs_log.specs.LineText.{HasMoment, HasReceiver, IsLine}
use Rattle.aprs_log.specs.Steps.{◌otherwise◌then◌, guard}
use Rattle.aprs_log.specs.declared.line.TheConstants.{MAX_LINE}
use Rattle.aprs_log.specs.declared.fault.LineFault.{LineFault}
use Rattle.aprs_log.specs.declared.fault.LineFault.TheVariants as fault
use Rattle.aprs_log.specs.declared.line.Line.{Line}
use Rattle.aprs_log.proofs.Moments.{IsTextOf-text, moment_of-text, text-IsTextOf, text-moment_of}

-- ---- a line's first two fields have no space

not_low : (stop b : ℕ) → stop < b → is_byte stop b ≡ false
not_low stop b h = grind (arith, nat_tests)

pub name_byte : (b : ℕ) → is_name_byte b ≡ true → 32 < b
name_byte b h = grind (arith, nat_tests)

pub both : (a b : Bool) → a && b ≡ true → (a ≡ true) × (b ≡ true)
both true b h = (refl, h)
both false b h = absurd (let e : false ≡ true = h in cc)

module _ (stop : ℕ) (low : stop ≤ 32) where
  names_lack : (r : List ℕ) → list_all is_name_byte r ≡ true → Lacks stop r
  names_lack [] h = tt
  names_lack (b ∷ r) h =
      let parts = both (is_name_byte b) (list_all is_name_byte r) h in
      let above = name_byte b parts.0 in
      (not_low stop b (omega (arith, low, above)), names_lack r parts.1)

  pub name_lacks : (r : List ℕ) → IsName r → Lacks stop r
  name_lacks r h = names_lack r (both _ (list_all is_name_byte r) h).1

  -- a text lacks bytes up to the space if its parts do
  lacks_pair : (n : ℕ) (xs : List ℕ) → Lacks stop xs → Lacks stop (two_digits n ++ xs)
  lacks_pair n xs k =
      (not_low stop _ (omega (arith, low)), (not_low stop _ (omega (arith, low)), k))

  lacks_end : (form : MomentForm) (n : ℕ) → Lacks stop (fraction_text form n ++ 90 ∷ [])
  lacks_end Seconds n = (not_low stop _ (omega (arith, low)), tt)
  lacks_end Millis n =
      let last : Lacks stop (90 ∷ []) = (not_low stop _ (omega (arith, low)), tt) in (
        not_low stop _ (omega (arith, low)),
        (not_low stop _ (omega (arith, low)), lacks_pair (n % 100) (90 ∷ []) last),
      )

  marked : (b : ℕ) (xs : List ℕ) → 32 < b → Lacks stop xs → Lacks stop (b ∷ xs)
  marked b xs h k = (not_low stop b (omega (arith, low, h)), k)

  civil_text-lacks : (form : MomentForm) (c : Civil) (n : ℕ) → Lacks stop (civil_text form c n)
  civil_text-lacks form c n =
      let end = fraction_text form n ++ 90 ∷ [] in
      let second = 58 ∷ two_digits c.second ++ end in
      let minute = 58 ∷ two_digits c.minute ++ second in
      let hour = 84 ∷ two_digits c.hour ++ minute in
      let day = 45 ∷ two_digits c.day ++ hour in
      let month = 45 ∷ two_digits c.month ++ day in
      let s : Lacks stop second
      = marked 58 (two_digits c.second ++ end) (omega arith)
      (lacks_pair c.second end (lacks_end form n)) in
      let m : Lacks stop minute
      = marked 58 (two_digits c.minute ++ second) (omega arith) (lacks_pair c.minute second s) in
      let h : Lacks stop hour
      = marked 84 (two_digits c.hour ++ minute) (omega arith) (lacks_pair c.hour minute m) in
      let d : Lacks stop day
      = marked 45 (two_digits c.day ++ hour) (omega arith) (lacks_pair c.day hour h) in
      let o : Lacks stop month
      = marked 45 (two_digits c.month ++ day) (omega arith) (lacks_pair c.month day d) in
      lacks_pair (c.year / 100) (two_digits (c.year % 100) ++ month)
      (lacks_pair (c.year % 100) month o)

  pub moment_lacks : (m : ℕ) (t : List ℕ) → IsMomentText m t → Lacks stop t
  moment_lacks m t h = subst (Lacks stop) (sym h.1.spelled)
      (civil_text-lacks h.0 h.1.civil h.1.millis)

pub IsName-lacks : (r : List ℕ) → IsName r → Lacks 32 r
IsName-lacks r h = name_lacks 32 (omega arith) r h

pub MomentText-lacks : (m : ℕ) (t : List ℕ) → IsMomentText m t → Lacks 32 t
MomentText-lacks m t h = moment_lacks 32 (omega arith) m t h

-- ---- where the first two fields of a line end

-- the line is cut after its moment
pub moment_cut : (l : List ℕ) (m : ℕ) (more : List ℕ) (h : HasMoment l m more)
    → cut_at 32 l ≡ Some (record { before = h.0; after = more })
moment_cut l m more h = ap (cut_at 32) h.2
    ∙ cut_at-append 32 h.0 more (MomentText-lacks m h.0 (IsTextOf-text m h.0 h.1))

pub moment_read : (m : ℕ) (text : List ℕ) → IsTextOf m text → moment_of text ≡ Some m
moment_read m text h = text-moment_of text m (IsTextOf-text m text h)

-- and what follows it after the name
pub name_cut : (name more : List ℕ) → IsName name
    → cut_at 32 (name ++ 32 ∷ more) ≡ Some (record { before = name; after = more })
name_cut name more h = cut_at-append 32 name more (IsName-lacks name h)

-- ---- the steps of a reading

-- a reading that ends well found something at its first step
found_if : {A B : Type 0} (o : Option A) (why : LineFault) (next : A → Result B LineFault)
    → IsOk (o otherwise why then next) → (x : A) × (o ≡ Some x) × IsOk (next x)
found_if None why next h = absurd cc
found_if (Some x) why next h = (x, refl, h)

guard_if : (b : Bool) (u : Unit {0}) → guard b ≡ Some u → b ≡ true
guard_if true u e = refl
guard_if false u e = absurd cc

value_if : {E : Type 0} (r : Result (List ℕ) E) (x : List ℕ) → result_ok r ≡ Some x → r ≡ Ok x
value_if (Ok y) x e = ap (λ o. Ok (unwrap_or o [])) e
value_if (Err error) x e = absurd cc

-- ---- a line's fields and its answer

is_short : (l : List ℕ) → length l ≤ MAX_LINE → nat_le (length l) MAX_LINE ≡ true
is_short l h = le-leb _ _ h

is_false : (b : Bool) → ¬ (b ≡ true) → b ≡ false
is_false true h = absurd (h refl)
is_false false h = refl

-- a line of this syntax is sound, whatever its bytes are
pub line_of-syntax : (l : List ℕ) (m : ℕ) (name bytes : List ℕ) → IsLine l m name bytes
    → line_of l ≡ Ok (heard_or_passed m name (frame_in bytes))
unfolding line_of
line_of-syntax l m name bytes s =
    let rest = name ++ 32 ∷ s.digits in
    let text = s.fields.1.0 in
    let first : cut_at 32 l ≡ Some (record { before = text; after = rest })
    = moment_cut l m rest s.fields.1 in
    let second : cut_at 32 rest ≡ Some (record { before = name; after = s.digits })
    = name_cut name s.digits s.fields.0 in
    let moment : moment_of text ≡ Some m = moment_read m text s.fields.1.1 in
    let named : is_receiver name ≡ true = s.fields.0 in
    rw (is_short l s.short, first, moment, second, named, s.is_hex)

-- the line has this syntax
abbrev pub HasFields : List ℕ → Type 0
HasFields l = (m : ℕ) × (name : List ℕ) × (bytes : List ℕ) × IsLine l m name bytes

-- a text that is cut where a moment was read has that moment
pub has_moment : (l : List ℕ) (first : Cut) (m : ℕ) → cut_at 32 l ≡ Some first
    → moment_of first.before ≡ Some m → HasMoment l m first.after
has_moment l first m e read = (
  first.before,
  text-IsTextOf m first.before (moment_of-text first.before m read),
  cut_at-parts 32 l first e,
)

-- and if what follows is cut after a name, it has that receiver
pub has_receiver : (l : List ℕ) (first next : Cut) (m : ℕ) → cut_at 32 l ≡ Some first
    → moment_of first.before ≡ Some m → cut_at 32 first.after ≡ Some next → IsName next.before
    → HasReceiver l m next.before next.after
has_receiver l first next m e read second name = (
  name,
  subst (HasMoment l m) (cut_at-parts 32 first.after next second) (has_moment l first m e read),
)

-- a sound line has this syntax
pub line_of-sound : (l : List ℕ) → IsOk (line_of l) → HasFields l
unfolding line_of
line_of-sound l h =
    let short = found_if (guard (nat_le (length l) MAX_LINE)) fault.LongLine _ h in
    let first = found_if (cut_at 32 l) fault.Moment _ short.2 in
    let moment = found_if (moment_of first.0.before) fault.Moment _ first.2 in
    let second = found_if (cut_at 32 first.0.after) fault.Receiver _ moment.2 in
    let named = found_if (guard (is_receiver second.0.before)) fault.Receiver _ second.2 in
    let bytes = found_if (result_ok (decode_of second.0.after)) fault.Hex _ named.2 in (
      moment.0,
      second.0.before,
      bytes.0,
      record {
        short = leb-true _ _ (guard_if _ short.0 short.1);
        digits = second.0.after;
        fields = has_receiver l first.0 second.0 moment.0 first.1 moment.1 second.1
            (guard_if (is_receiver second.0.before) named.0 named.1);
        is_hex = value_if (decode_of second.0.after) bytes.0 bytes.1;
      },
    )

-- ---- the answer, field by field

pub line_of-long : (l : List ℕ) → MAX_LINE < length l → Err fault.LongLine ≡ line_of l
unfolding line_of
line_of-long l h =
    let long : nat_le (length l) MAX_LINE ≡ false = grind (arith, nat_tests) in rw long

module _ (l : List ℕ) (short : length l ≤ MAX_LINE) where
  pub line_of-uncut : None ≡ cut_at 32 l → Err fault.Moment ≡ line_of l
  unfolding line_of
  line_of-uncut e = rw (is_short l short, ← e)

  pub line_of-no_moment : (first : Cut) → Some first ≡ cut_at 32 l → None ≡ moment_of first.before
      → Err fault.Moment ≡ line_of l
  unfolding line_of
  line_of-no_moment first e none = rw (is_short l short, ← e, ← none)

  pub line_of-one_cut : (first : Cut) (m : ℕ) → Some first ≡ cut_at 32 l
      → Some m ≡ moment_of first.before → None ≡ cut_at 32 first.after
      → Err fault.Receiver ≡ line_of l
  unfolding line_of
  line_of-one_cut first m e read none = rw (is_short l short, ← e, ← read, ← none)

  pub line_of-no_name : (first next : Cut) (m : ℕ) → Some first ≡ cut_at 32 l
      → Some m ≡ moment_of first.before → Some next ≡ cut_at 32 first.after
      → ¬ IsName next.before → Err fault.Receiver ≡ line_of l
  unfolding line_of
  line_of-no_name first next m e read second none =
      rw (is_short l short, ← e, ← read, ← second, is_false (is_receiver next.before) none)

  pub line_of-fields : (first next : Cut) (m : ℕ) (r : List ℕ) → Some first ≡ cut_at 32 l
      → Some m ≡ moment_of first.before
      → Some next ≡ cut_at 32 first.after → IsName next.before → r ≡ next.before
      → line_of_digits m r next.after ≡ line_of l
  unfolding line_of
  line_of-fields first next m r e read second name is =
      let named : is_receiver next.before ≡ true = name in
      ap (λ r. line_of_digits m r next.after) is
      ∙ rw (is_short l short, ← e, ← read, ← second, named)

ok_is : (m : ℕ) (r : List ℕ) (bytes : List ℕ) (x : Result Line LineFault)
    → x ≡ Ok (heard_or_passed m r (frame_in bytes)) → IsOk x
ok_is m r bytes x e = subst (λ y. IsOk y) (sym e) refl

-- sound exactly where it has the syntax
pub IsOk-line_of : (l : List ℕ) (x : Result Line LineFault) → x ≡ line_of l
    → IsOk x ↔ HasFields l
IsOk-line_of l x e = (
  λ h. line_of-sound l (subst (λ y. IsOk y) e h),
  λ h. ok_is h.0 h.1 h.2 x (e ∙ line_of-syntax l h.0 h.1 h.2 h.3),
)
