-- Lemmas on the parts of a book's text.
use Rattle.aprs_bookfile.proofs.Common.{◌≡◌, ℕ, ◌+◌, ◌<◌, List, [], ◌∷◌, ◌++◌, length, take, drop, map, refl, sym, ap, ◌∙◌, append_assoc, append-nil, drop-append-add, take-append-add, take_more_set, flat_map-append, flat_map, join_with_byte, codes, encode_lower, moment_text, Millis, BookValue, Row, last_moment, row_with}
use Rattle.std.proofs.Math.ListN.{replicate, set}
use borrow.Rule.Slice.PartMut.{put_mid}
use Rattle.aprs_bookfile.specs.RowLines.{line_and_lf, ended_by_lf}
use Rattle.aprs_bookfile.specs.Text.{row_line, end_line, written_text}
use Rattle.aprs_bookfile.specs.Version.{header_of}
use Rattle.aprs_bookfile.specs.declared.version.Version.TheVariants.{Three}

-- ---- the parts of a line

space_between : (a b c : List ℕ) → (a ++ 32 ∷ b) ++ c ≡ a ++ 32 ∷ (b ++ c)
space_between a b c = append_assoc a (32 ∷ b) c

line_parts : (a b names who digits : List ℕ) → ended_by_lf
    (84 ∷ 32 ∷ (a ++ 32 ∷ (b ++ 32 ∷ (names ++ 32 ∷ (who ++ 32 ∷ digits)))))
    ≡ (84 ∷ 32 ∷ (a ++ 32 ∷ (b ++ 32 ∷ []))) ++ (names ++ 32 ∷ (who ++ 32 ∷ (digits ++ 10 ∷ [])))
line_parts a b names who digits =
    let last = 10 ∷ [] in
    let tail = names ++ 32 ∷ (who ++ 32 ∷ (digits ++ last)) in
    ap (λ t. 84 ∷ 32 ∷ t) (
    space_between a (b ++ 32 ∷ (names ++ 32 ∷ (who ++ 32 ∷ digits))) last ∙ ap (λ t. a ++ 32 ∷ t) (
    space_between b (names ++ 32 ∷ (who ++ 32 ∷ digits)) last ∙ ap (λ t. b ++ 32 ∷ t) (
    space_between names (who ++ 32 ∷ digits) last
    ∙ ap (λ t. names ++ 32 ∷ t) (space_between who digits last)
    )
    )
    ∙ sym (space_between a (b ++ 32 ∷ []) tail ∙ ap (λ t. a ++ 32 ∷ t) (space_between b [] tail))
    )

pub row_parts : (row : Row) (head tail : List ℕ)
    → head ≡ codes "T " ++ moment_text row.first ++ 32 ∷ moment_text (last_moment row) ++ 32 ∷ []
    → tail ≡ 32 ∷ row.greatest.receiver ++ 32 ∷ encode_lower row.greatest.frame ++ 10 ∷ []
    → ended_by_lf (row_line Millis row) ≡ head ++ (join_with_byte 44 row.receivers ++ tail)
row_parts row head tail h t =
    let first = moment_text row.first in
    let last = moment_text (last_moment row) in
    let names = join_with_byte 44 row.receivers in
    let who = row.greatest.receiver in
    let digits = encode_lower row.greatest.frame in
    line_parts first last names who digits
    ∙ ap (λ l. l ++ (names ++ 32 ∷ (who ++ 32 ∷ (digits ++ 10 ∷ []))))
    (sym (h ∙ append_assoc (84 ∷ 32 ∷ first) (32 ∷ last) (32 ∷ [])))
    ∙ ap (λ l. head ++ (names ++ l)) (sym (t ∙ append_assoc (32 ∷ who) (32 ∷ digits) (10 ∷ [])))

-- the same of a row that is told by its parts
pub told_parts : (row : Row) (start end : ℕ) (names : List (List ℕ)) (who bytes : List ℕ)
    → row_with start end names who bytes ≡ row → (head tail : List ℕ)
    → head ≡ codes "T " ++ moment_text start ++ 32 ∷ moment_text end ++ 32 ∷ []
    → tail ≡ 32 ∷ who ++ 32 ∷ encode_lower bytes ++ 10 ∷ []
    → ended_by_lf (row_line Millis row) ≡ head ++ (join_with_byte 44 names ++ tail)
told_parts row start end names who bytes is head tail h t =
    ap (λ (x : Row). ended_by_lf (row_line Millis x)) (sym is)
    ∙ row_parts (row_with start end names who bytes) head tail h t

-- ---- the parts of a line, as they are put at their places

front_of : (a rest : List ℕ) → length a ≡ 24 → take 25 (a ++ rest) ≡ a ++ take 1 rest
front_of a rest len = ap (λ n. take (n + 1) (a ++ rest)) (sym len) ∙ take-append-add a rest 1

back_of : (a rest : List ℕ) → length a ≡ 24 → drop 25 (a ++ rest) ≡ drop 1 rest
back_of a rest len = ap (λ n. drop (n + 1) (a ++ rest)) (sym len) ∙ drop-append-add a rest 1

-- two moments of 24 bytes, put over spaces
pub head_is : (first last a b : List ℕ) → length a ≡ 24 → a ≡ first → b ≡ last
    → put_mid 27 24 (84 ∷ 32 ∷ (a ++ replicate 26 32)) b
    ≡ codes "T " ++ first ++ 32 ∷ last ++ 32 ∷ []
head_is first last a b len f l =
    let spaces = replicate 26 32 in
    ap (λ t. 84 ∷ 32 ∷ (t ++ (b ++ drop 24 (drop 25 (a ++ spaces))))) (front_of a spaces len)
    ∙ ap (λ t. 84 ∷ 32 ∷ ((a ++ 32 ∷ []) ++ (b ++ drop 24 t))) (back_of a spaces len)
    ∙ ap (λ t. 84 ∷ 32 ∷ t) (append_assoc a (32 ∷ []) (b ++ 32 ∷ [])
    ∙ ap (λ t. t ++ 32 ∷ (b ++ 32 ∷ [])) f ∙ ap (λ t. first ++ 32 ∷ (t ++ 32 ∷ [])) l
    ∙ sym (append_assoc first (32 ∷ last) (32 ∷ [])))

-- a name and digits, with a byte before each and after them, put one after another
pub tail_is : (r s t who digits : List ℕ) (space end : ℕ) → 0 < length r → space < length s
    → end < length t → take space s ≡ take 1 (set r 0 32) ++ who
    → take end t ≡ take (space + 1) (set s space 32) ++ digits
    → take (end + 1) (set t end 10) ≡ 32 ∷ who ++ 32 ∷ digits ++ 10 ∷ []
tail_is r s t who digits space end some is end_is name hex =
    take_more_set t end 10 end_is
    ∙ ap (λ l. l ++ 10 ∷ []) (hex ∙ ap (λ l. l ++ digits) (take_more_set s space 32 is
    ∙ ap (λ l. l ++ 32 ∷ []) (name ∙ ap (λ l. l ++ who) (take_more_set r 0 32 some)))
    ∙ append_assoc (32 ∷ who) (32 ∷ []) digits)

-- ---- the parts of a text

row_lines : (rows : List Row) → flat_map ended_by_lf (map (row_line Millis) rows)
    ≡ flat_map line_and_lf rows
row_lines [] = refl
row_lines (x ∷ rows) = ap (λ l. line_and_lf x ++ l) (row_lines rows)

pub text_parts : (book : BookValue) (gap : ℕ) (head : List ℕ) → gap ≡ book.gap
    → head ≡ ended_by_lf (header_of (Three gap)) → (n : ℕ) (last : List ℕ) → n ≡ length book.rows
    → last ≡ ended_by_lf (end_line n)
    → written_text book ≡ head ++ (flat_map line_and_lf book.rows ++ last)
text_parts book gap head g h n last e is = ap (λ l. ended_by_lf (header_of (Three book.gap)) ++ l) (
    flat_map-append ended_by_lf (map (row_line Millis) book.rows) (end_line (length book.rows) ∷ [])
    ∙ ap (λ l. l ++ flat_map ended_by_lf (end_line (length book.rows) ∷ [])) (row_lines book.rows)
    ∙ ap (λ l. flat_map line_and_lf book.rows ++ l)
    (append-nil (ended_by_lf (end_line (length book.rows)))
    ∙ ap (λ k. ended_by_lf (end_line k)) (sym e) ∙ sym is)
    )
    ∙ ap (λ l. l ++ (flat_map line_and_lf book.rows ++ last))
    (sym (h ∙ ap (λ k. ended_by_lf (header_of (Three k))) g))
