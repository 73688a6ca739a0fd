-- Lemmas on reading a row's line field by field.
use Rattle.aprs_bookfile.proofs.Common.{◌≡◌, ℕ, ◌<◌, List, [], ◌∷◌, ◌++◌, length, get_or, take, drop, IsErr, Option, Some, None, inl, inr, refl, sym, ap, ◌∙◌, subst, length-append, arith, take-append_seam, ◌≢◌, All, IfNone, false≢true, join_with_byte, encode_lower, frame_or_fault, frame_of-is, is-frame_of, IsWritable, MomentForm, Seconds, Millis, IsName, Row, last_moment}
use Rattle.aprs_log.specs.Moment.{moment_text_in}
use Rattle.aprs_log.specs.Clock.{form_size}
use Rattle.aprs_rows.specs.Names.{row_of_text}
use Rattle.aprs_bookfile.specs.Lines.{pieces}
use Rattle.aprs_io.specs.Cut.{Lacks}
use Rattle.aprs_bookfile.specs.TextFault.{HasNoFrame}
use Rattle.aprs_bookfile.specs.RowFields.{SpellsBytes, SpellsFrame, IsWrongFrame, IsWrongRow}
use Rattle.aprs_bookfile.specs.Text.{row_line, IsSpelled, IsBookRow}
use Rattle.aprs_bookfile.specs.declared.fault.BookCause.{BookCause}
use Rattle.aprs_bookfile.specs.declared.fault.BookCause.TheVariants as cause
use Rattle.aprs_bookfile.proofs.Cuts.{joined_pieces, pieces_some}
use Rattle.aprs_bookfile.proofs.OneText.{same_line}
use Rattle.aprs_bookfile.proofs.Spellings.{high_lacks, high_moment, high_name, lacks_names, names_pieces}

-- ---- a field of known length, and the space after it

at_seam : (a rest : List ℕ) → get_or (a ++ 32 ∷ rest) (length a) 0 ≡ 32
at_seam [] rest = refl
at_seam (b ∷ a) rest = at_seam a rest

-- The text has these bytes and a space in front.
pub record HasField (n : ℕ) (a text : List ℕ) : Type 0 where
  pub long : n < length text
  pub space : get_or text n 0 ≡ 32
  pub field : take n text ≡ a

has_field : (a rest : List ℕ) → HasField (length a) a (a ++ 32 ∷ rest)
has_field a rest = record {
  long = omega (arith, length-append a (32 ∷ rest));
  space = at_seam a rest;
  field = take-append_seam a (32 ∷ rest);
}

pub moment_len : (form : MomentForm) (m : ℕ) → length (moment_text_in form m) ≡ form_size form
unfolding moment_text_in
moment_len Seconds m = refl
moment_len Millis m = refl

pub has_moment : (form : MomentForm) (m : ℕ) (rest text : List ℕ)
    → text ≡ moment_text_in form m ++ 32 ∷ rest
    → HasField (form_size form) (moment_text_in form m) text
has_moment form m rest text e =
    subst (λ t. HasField (form_size form) (moment_text_in form m) t) (sym e)
    (subst (λ n. HasField n (moment_text_in form m) (moment_text_in form m ++ 32 ∷ rest))
    (moment_len form m) (has_field (moment_text_in form m) rest))

-- ---- an answer that may be none

-- what holds anyway holds where there is none
pub if_none : {A : Type 0} (o : Option A) {P : Type 0} → P → IfNone o P
if_none None p = p
if_none (Some x) p = tt

-- ---- fields that hold no space

pub lacks_name : (w : List ℕ) → IsName w → Lacks 32 w
lacks_name w h = high_lacks 32 w (omega arith) (high_name w h)

pub lacks_field : (n : List ℕ) → All IsName (pieces 44 n) → Lacks 32 n
lacks_field n h = subst (Lacks 32) (sym (joined_pieces 44 n (pieces 44 n) refl))
    (lacks_names 32 (pieces 44 n) (omega arith) h)

lacks_moment : (form : MomentForm) (m : ℕ) → Lacks 32 (moment_text_in form m)
lacks_moment form m = high_lacks 32 (moment_text_in form m) (omega arith) (high_moment form m)

-- a text has one field before its first space
pub one_field : (text a b x y : List ℕ) → Lacks 32 a → Lacks 32 x → text ≡ a ++ 32 ∷ b
    → text ≡ x ++ 32 ∷ y → (a ≡ x) × (b ≡ y)
one_field text a b x y h k e f = same_line 32 a b x y h k (sym e ∙ f)

lacks_seam : (a rest : List ℕ) → Lacks 32 (a ++ 32 ∷ rest) → ⊥
lacks_seam [] rest h = absurd cc
lacks_seam (b ∷ a) rest h = lacks_seam a rest h.1

pub no_field : (text a rest : List ℕ) → Lacks 32 text → text ≡ a ++ 32 ∷ rest → ⊥
no_field text a rest h e = lacks_seam a rest (subst (Lacks 32) e h)

-- ---- a row's line from each of its fields on

abbrev from_frame : Row → List ℕ
from_frame x = encode_lower x.greatest.frame

abbrev from_receiver : Row → List ℕ
from_receiver x = x.greatest.receiver ++ 32 ∷ from_frame x

abbrev from_names : Row → List ℕ
from_names x = join_with_byte 44 x.receivers ++ 32 ∷ from_receiver x

abbrev from_last : MomentForm → Row → List ℕ
from_last form x = moment_text_in form (last_moment x) ++ 32 ∷ from_names x

abbrev from_first : MomentForm → Row → List ℕ
from_first form x = moment_text_in form x.first ++ 32 ∷ from_last form x

-- no row is spelled
abbrev pub IsNoRow : MomentForm → List ℕ → Type 0
IsNoRow form line = (x : Row) → IsSpelled form x → line ≢ row_line form x

pub no_row : (form : MomentForm) (line : List ℕ) → IsNoRow form line
    → IsWrongRow form line cause.RowSyntax
no_row form line none = inl (refl, none)

pub wrong_tag : (form : MomentForm) (line : List ℕ)
    → ((rest : List ℕ) → line ≢ 84 ∷ 32 ∷ rest) → IsWrongRow form line cause.RowSyntax
wrong_tag form line none = no_row form line (λ x h e. none (from_first form x) e)

module _ (form : MomentForm) (line a : List ℕ) (tag_is : line ≡ 84 ∷ 32 ∷ a) where
  at_first : (x : Row) → line ≡ row_line form x → a ≡ from_first form x
  at_first x e =
      let same : 84 ∷ 32 ∷ a ≡ 84 ∷ 32 ∷ from_first form x = sym tag_is ∙ e in
      ap (drop 2) same

  pub wrong_first : ((m : ℕ) (rest : List ℕ) → IsWritable form m
      → a ≢ moment_text_in form m ++ 32 ∷ rest) → IsWrongRow form line cause.RowSyntax
  wrong_first none = no_row form line
      (λ x h e. none x.first (from_last form x) h.first (at_first x e))

  module _ (first : ℕ) (b : List ℕ)
      (first_is : IsWritable form first × (a ≡ moment_text_in form first ++ 32 ∷ b)) where
    at_last : (x : Row) → line ≡ row_line form x → b ≡ from_last form x
    at_last x e = (one_field a (moment_text_in form first) b (moment_text_in form x.first)
        (from_last form x) (lacks_moment form first) (lacks_moment form x.first) first_is.1
        (at_first x e)).1

    pub wrong_last : ((m : ℕ) (rest : List ℕ) → IsWritable form m
        → b ≢ moment_text_in form m ++ 32 ∷ rest) → IsWrongRow form line cause.RowSyntax
    wrong_last none = no_row form line
        (λ x h e. none (last_moment x) (from_names x) h.last (at_last x e))

    module _ (last : ℕ) (c : List ℕ)
        (last_is : IsWritable form last × (b ≡ moment_text_in form last ++ 32 ∷ c)) where
      at_names : (x : Row) → line ≡ row_line form x → c ≡ from_names x
      at_names x e = (one_field b (moment_text_in form last) c (moment_text_in form (last_moment x))
          (from_names x) (lacks_moment form last) (lacks_moment form (last_moment x)) last_is.1
          (at_last x e)).1

      pub wrong_names : ((names rest : List ℕ) → All IsName (pieces 44 names)
          → c ≢ names ++ 32 ∷ rest) → IsWrongRow form line cause.RowSyntax
      wrong_names none = no_row form line (λ x h e. none (join_with_byte 44 x.receivers)
          (from_receiver x)
          (subst (All IsName) (sym (names_pieces x.receivers h.some h.receivers)) h.receivers)
          (at_names x e))

      module _ (n d : List ℕ)
          (names_are : All IsName (pieces 44 n) × (c ≡ n ++ 32 ∷ d)) where
        at_receiver : (x : Row) → IsSpelled form x → line ≡ row_line form x
            → d ≡ from_receiver x
        at_receiver x h e = (one_field c n d (join_with_byte 44 x.receivers) (from_receiver x)
            (lacks_field n names_are.0) (lacks_names 32 x.receivers (omega arith) h.receivers)
            names_are.1 (at_names x e)).1

        pub wrong_receiver : ((name rest : List ℕ) → IsName name → d ≢ name ++ 32 ∷ rest)
            → IsWrongRow form line cause.RowSyntax
        wrong_receiver none = no_row form line (λ x h e. none x.greatest.receiver (from_frame x)
            h.receiver (at_receiver x h e))

        module _ (w g : List ℕ) (name_is : IsName w × (d ≡ w ++ 32 ∷ g)) where
          at_frame : (x : Row) → IsSpelled form x → line ≡ row_line form x → g ≡ from_frame x
          at_frame x h e = (one_field d w g x.greatest.receiver (from_frame x)
              (lacks_name w name_is.0) (lacks_name x.greatest.receiver h.receiver) name_is.1
              (at_receiver x h e)).1

          -- the row of these fields
          module _ (frame : List ℕ) where
            spelled : SpellsBytes g frame → IsSpelled form (row_of_text first last n w frame)
            spelled h = record {
              first = first_is.0;
              last = last_is.0;
              some = pieces_some 44 n;
              receivers = names_are.0;
              receiver = name_is.0;
              bytes = h.bytes_are;
              few = h.few;
            }

            lined : SpellsBytes g frame
                → line ≡ row_line form (row_of_text first last n w frame)
            lined h = tag_is ∙ ap (λ t. 84 ∷ 32 ∷ t) (first_is.1
                ∙ ap (λ t. moment_text_in form first ++ 32 ∷ t) (last_is.1
                ∙ ap (λ t. moment_text_in form last ++ 32 ∷ t) (names_are.1
                ∙ ap (λ t. t ++ 32 ∷ d) (joined_pieces 44 n (pieces 44 n) refl)
                ∙ ap (λ t. join_with_byte 44 (pieces 44 n) ++ 32 ∷ t) (name_is.1
                ∙ ap (λ t. w ++ 32 ∷ t) h.digits_are))))

            pub row_found : SpellsFrame g frame
                → IsBookRow form (row_of_text first last n w frame)
                × (line ≡ row_line form (row_of_text first last n w frame))
            row_found h = (
              record { spelled = spelled h.spelled; frame = frame_of-is frame frame h.is },
              lined h.spelled,
            )

            no_frame : SpellsBytes g frame → IsErr (frame_or_fault frame) → HasNoFrame form line
            no_frame h err = record {
              row = row_of_text first last n w frame;
              is = spelled h;
              spelled = lined h;
              refused = λ u. false≢true (subst IsErr (is-frame_of frame u) err);
            }

          pub wrong_frame : (why : BookCause) → IsWrongFrame g why → IsWrongRow form line why
          wrong_frame why h = elim h [
            | inl r ↦ inl (
              r.0,
              λ x s e. r.1 x.greatest.frame
                  (record { digits_are = at_frame x s e; bytes_are = s.bytes; few = s.few }),
            )
            | inr r ↦ inr (r.0, no_frame r.1.0 r.1.1 r.1.2)
          ]
