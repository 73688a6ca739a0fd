-- Worked examples of what is at fault in a text.
use Rattle.aprs_bookfile.proofs.Common.{◌≡◌, ◌∙◌, ℕ, zero, suc, ◌^◌, ◌+◌, ◌<◌, ◌≤◌, Bool, cond, false, true, List, [], ◌∷◌, ◌++◌, get_or, length, codes, Some, inl, inr, refl, ap, subst, arith, ◌≢◌, nat_lt, list_all, nat_tests, decimal_digit, All-cons, All-nil, IsBytes, IsUiFrame, frame_of-is, is_byte, text_of_lines, IsName, bytes_cmp, Millis, millis_of, standard_gap, Row, IsSoundRow, Sound}
use Rattle.hex.specs.Hex.{encode_with}
use Rattle.aprs_log.specs.Moment.{day_after, moment_text_in}
use Rattle.aprs_rows.specs.Refusal.{refusal}
use Rattle.aprs_io.specs.declared.input.InputEnd.TheVariants.{End}
use Rattle.aprs_log.specs.Examples.{hi_frame}
use Rattle.aprs_log.proofs.Lines.{both}
use Rattle.aprs_transmissions.specs.Key.{key_cmp, key_of}
use Rattle.aprs_transmissions.specs.Order.{IsUpTo}
use Rattle.aprs_transmissions.specs.declared.row_cause.RowCause.TheVariants.{Order}
use Rattle.aprs_transmissions.proofs.Orders.{bytes_total, up_to_itself}
use Rattle.aprs_bookfile.specs.Examples.{fault_in, miscounted_text, disordered_text, unfinished_text}
use Rattle.aprs_bookfile.specs.Text.{end_line, row_line, IsBookRow, IsBookRows, IsSpelled}
use Rattle.aprs_bookfile.specs.TextFault.{AreOfRows, HasBookFault}
use Rattle.aprs_bookfile.specs.declared.fault.BookCause.{BookCause}
use Rattle.aprs_bookfile.specs.declared.fault.BookCause.TheVariants as why
use Rattle.aprs_bookfile.specs.declared.version.Version.TheVariants.{Two}
use Rattle.aprs_bookfile.proofs.BookRows.{rows_are}
use Rattle.aprs_bookfile.proofs.OneFault.{one_fault}
use Rattle.aprs_bookfile.proofs.OneText.{line_first, row_lacks}
use Rattle.aprs_bookfile.proofs.SameFaults.{first_of, has_none}
use Rattle.aprs_bookfile.proofs.Standing.{no_rows}
use Rattle.aprs_bookfile.proofs.Versions.{standard_range}

-- a text with a fault has no other but Memory
no_other : (text : List ℕ) (n : ℕ) (c d : BookCause) → length text < 2 ^ 64
    → HasBookFault text End (fault_in n c) → c ≢ why.Memory → c ≢ d → d ≢ why.Memory
    → HasBookFault text End (fault_in n d) → ⊥
no_other text n c d small h some apart other k =
    apart (ap (λ f. f.cause) (one_fault text End (fault_in n c) (fault_in n d) small
    (first_of text End (fault_in n c) h some) (first_of text End (fault_in n d) k other)))

no_row_yet : AreOfRows Two [] (codes "APRSBOOK 2" ∷ [])
no_row_yet = record { rows_are = no_rows Two standard_range; lines_are = refl }

-- ---- the last line

other_end : codes "END 1" ≢ end_line 0
other_end e =
    let same : codes "END 1" ≡ codes "END 0"
    = e ∙ ap (λ many. codes "END " ++ many) (decimal_digit 0 (omega arith)) in
    let digit : 49 ≡ 48 = ap (λ text. get_or text 4 0) same in
    omega (arith, digit)

pub wrong_end : HasBookFault miscounted_text End (fault_in 2 why.Ending)
wrong_end = record {
  lines = codes "APRSBOOK 2" ∷ [];
  line = codes "END 1";
  more = 10 ∷ [];
  text_is = refl;
  one = has_none (codes "END 1") (refl, (refl, (refl, (refl, (refl, tt)))));
  number = refl;
  wrong = inr (Two, [], no_row_yet, ([], refl), (refl, other_end));
}

pub no_syntax : HasBookFault miscounted_text End (fault_in 2 why.RowSyntax) → ⊥
no_syntax = no_other miscounted_text 2 why.Ending why.RowSyntax (omega arith) wrong_end (λ e. cc)
    (λ e. cc) (λ e. cc)

-- ---- memory

pub second_line : HasBookFault unfinished_text End (fault_in 2 why.Memory)
second_line = record {
  lines = codes "APRSBOOK 2" ∷ [];
  line = codes "EN";
  more = [];
  text_is = refl;
  one = has_none (codes "EN") (refl, (refl, tt));
  number = refl;
  wrong = (inr (Two, [], no_row_yet), omega arith);
}

-- how many bytes are LF
lfs : List ℕ → ℕ
lfs [] = 0
lfs (b ∷ text) = cond (is_byte 10 b) (suc (lfs text)) (lfs text)

one_more : (line more : List ℕ) → suc (lfs more) ≤ lfs (line ++ 10 ∷ more)
unfolding lfs
one_more [] more = omega arith
one_more (b ∷ line) more = by (is_byte 10 b) (one_more line more) where
  by : (t : Bool) → suc (lfs more) ≤ lfs (line ++ 10 ∷ more)
      → suc (lfs more) ≤ cond t (suc (lfs (line ++ 10 ∷ more))) (lfs (line ++ 10 ∷ more))
  by true h = omega arith
  by false h = h

as_many : (lines : List (List ℕ)) (rest : List ℕ) → length lines ≤ lfs (text_of_lines lines ++ rest)
as_many [] rest = omega arith
as_many (l ∷ lines) rest =
    let h = as_many lines rest in
    let k = one_more l (text_of_lines lines ++ rest) in
    omega (arith, h, k, ap lfs (line_first l lines rest))

pub no_third_line : HasBookFault unfinished_text End (fault_in 3 why.Memory) → ⊥
unfolding lfs
no_third_line h =
    let many = as_many h.lines (h.line ++ h.more) in
    let text : lfs unfinished_text ≡ lfs (text_of_lines h.lines ++ (h.line ++ h.more)) =
    ap lfs h.text_is in
    let one : lfs unfinished_text ≡ 1 = refl in
    let two : 3 ≡ length h.lines + 1 = h.number in
    omega (arith, many, text, one, two)

-- ---- the order of causes

hi_is_frame : IsUiFrame hi_frame
hi_is_frame = frame_of-is hi_frame hi_frame refl

below_is : (b : ℕ) → nat_lt b 256 ≡ true → b < 256
below_is b e = grind (arith, nat_tests)

bytes_small : (xs : List ℕ) → list_all (λ b. nat_lt b 256) xs ≡ true → IsBytes xs
bytes_small [] e i = omega arith
bytes_small (b ∷ xs) e zero = below_is b (both (nat_lt b 256) (list_all (λ b. nat_lt b 256) xs) e).0
bytes_small (b ∷ xs) e (suc i) =
    bytes_small xs (both (nat_lt b 256) (list_all (λ b. nat_lt b 256) xs) e).1 i

-- a row of RX1, from one moment to another
abbrev row_in : ℕ → ℕ → Row
row_in first last = record {
  first = first;
  receivers = codes "RX1" ∷ [];
  greatest = record { moment = last; receiver = codes "RX1"; frame = hi_frame };
}

row_spelled : (first last : ℕ) → first ≤ 4102444799999 → last ≤ 4102444799999
    → IsSpelled Millis (row_in first last)
row_spelled first last f l = record {
  first = record { in_range = f; whole = omega arith };
  last = record { in_range = l; whole = omega arith };
  some = omega arith;
  receivers = All-cons IsName (codes "RX1") [] refl (All-nil IsName);
  receiver = refl;
  bytes = bytes_small hi_frame refl;
  few = (omega arith, omega arith);
}

row_sound : (gap m : ℕ) → Sound gap (row_in m m ∷ [])
row_sound gap m = record {
  ascending = (λ y h. absurd h, tt);
  apart = (λ y h. absurd h, tt);
  each = λ x h. elim h [
    | inl same ↦ subst IsSoundRow same (record {
      in_order = omega arith;
      ascending = (λ y h. absurd h, tt);
      receiver = inl refl;
      single = λ e r h. elim h [
        | inl is ↦ subst (λ (q : List ℕ). IsUpTo bytes_cmp q (codes "RX1")) is
            (up_to_itself bytes_total (codes "RX1"))
        | inr h ↦ absurd h
      ];
    })
    | inr h ↦ absurd h
  ];
}

first_row : IsBookRows Two (row_in 3000 3000 ∷ [])
first_row = rows_are Two (row_in 3000 3000 ∷ []) standard_range
    (row_sound (millis_of standard_gap) 3000)
    (All-cons (IsBookRow Millis) (row_in 3000 3000) [] (record {
      spelled = row_spelled 3000 3000 (omega arith) (omega arith);
      frame = hi_is_frame;
    }) (All-nil (IsBookRow Millis)))

lines_of_rows : disordered_text ≡ text_of_lines (codes "APRSBOOK 2"
    ∷ row_line Millis (row_in 3000 3000) ∷ []) ++ (row_line Millis (row_in 2000 1000) ++ 10 ∷ [])
unfolding moment_text_in day_after encode_with
lines_of_rows = refl

refused_order : refusal (millis_of standard_gap) (row_in 3000 3000 ∷ []) (row_in 2000 1000)
    ≡ Some Order
unfolding refusal key_cmp key_of
refused_order = refl

pub out_of_order : HasBookFault disordered_text End (fault_in 3 why.Order)
out_of_order = record {
  lines = codes "APRSBOOK 2" ∷ row_line Millis (row_in 3000 3000) ∷ [];
  line = row_line Millis (row_in 2000 1000);
  more = 10 ∷ [];
  text_is = lines_of_rows;
  one = has_none (row_line Millis (row_in 2000 1000)) (row_lacks Millis (row_in 2000 1000) spelled);
  number = refl;
  wrong = inr (
    Two,
    row_in 3000 3000 ∷ [],
    record { rows_are = first_row; lines_are = refl },
    ([], refl),
    record {
      row = row_in 2000 1000;
      is = record { spelled = spelled; frame = hi_is_frame };
      spelled = refl;
      refused = refused_order;
    },
  );
} where
  spelled : IsSpelled Millis (row_in 2000 1000)
  spelled = row_spelled 2000 1000 (omega arith) (omega arith)

pub no_span : HasBookFault disordered_text End (fault_in 3 why.Span) → ⊥
no_span = no_other disordered_text 3 why.Order why.Span (omega arith) out_of_order (λ e. cc)
    (λ e. cc) (λ e. cc)
