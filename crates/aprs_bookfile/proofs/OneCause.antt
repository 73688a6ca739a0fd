-- A line is wrong for one cause at most.
use Rattle.aprs_bookfile.proofs.Common.{◌≡◌, ℕ, false, true, List, Some, ◌⊎◌, inl, inr, refl, sym, ap, ◌∙◌, subst, ◌≢◌, IsUiFrame, MomentForm, Row, RowCause}
use Rattle.aprs_rows.specs.Refusal.{refusal}
use Rattle.aprs_transmissions.specs.declared.row_cause.RowCause.TheVariants as row
use Rattle.aprs_bookfile.specs.TextFault.{HasNoFrame, SpellsRefusedRow, IsWrong, is_end}
use Rattle.aprs_bookfile.specs.Fault.{book_cause_of}
use Rattle.aprs_bookfile.specs.Text.{row_line, IsSpelled}
use Rattle.aprs_bookfile.specs.declared.fault.BookCause.{BookCause}
use Rattle.aprs_bookfile.specs.declared.fault.BookCause.TheVariants as cause
use Rattle.aprs_bookfile.proofs.OneText.{same_row}

-- a row can't be refused in two ways
same_why : (gap : ℕ) (form : MomentForm) (rows : List Row) (line : List ℕ) (a b : RowCause)
    → SpellsRefusedRow gap form rows line a → SpellsRefusedRow gap form rows line b → a ≡ b
same_why gap form rows line a b h k =
    let same = same_row form h.row k.row h.is.spelled k.is.spelled (sym h.spelled ∙ k.spelled) in
    let some : Some a ≡ Some b = sym h.refused ∙ ap (λ (r : Row). refusal gap rows r) same
    ∙ k.refused in
    cc

no_frame : (gap : ℕ) (form : MomentForm) (rows : List Row) (line : List ℕ) (why : RowCause)
    → HasNoFrame form line → SpellsRefusedRow gap form rows line why → ⊥
no_frame gap form rows line why h k =
    let same = same_row form h.row k.row h.is k.is.spelled (sym h.spelled ∙ k.spelled) in
    h.refused (subst (λ (r : Row). IsUiFrame r.greatest.frame) (sym same) k.is.frame)

no_end : (form : MomentForm) (line : List ℕ) (x : Row) → is_end line ≡ true → line ≡ row_line form x
    → ⊥
no_end form line x e is = let f : false ≡ true = sym (ap is_end is) ∙ e in absurd cc

-- what each cause says, in one sum
abbrev pub Wrong : ℕ → MomentForm → List Row → List ℕ → BookCause → Type 0
Wrong gap form rows line c = ((c ≡ cause.Ending) × (is_end line ≡ true))
    ⊎ (((c ≡ cause.RowSyntax) × (is_end line ≡ false) × ((x : Row) → IsSpelled form x
    → line ≢ row_line form x))
    ⊎ (((c ≡ cause.Frame) × HasNoFrame form line)
    ⊎ ((why : RowCause) × (c ≡ book_cause_of why) × SpellsRefusedRow gap form rows line why)))

pub wrong : (gap : ℕ) (form : MomentForm) (rows : List Row) (line : List ℕ) (c : BookCause)
    → IsWrong gap form rows line c → Wrong gap form rows line c
wrong gap form rows line cause.Ending w = inl (refl, w.0)
wrong gap form rows line cause.RowSyntax w = inr (inl (refl, w.0, w.1))
wrong gap form rows line cause.Frame w = inr (inr (inl (refl, w)))
wrong gap form rows line cause.Order w = inr (inr (inr (row.Order, refl, w)))
wrong gap form rows line cause.Span w = inr (inr (inr (row.Span, refl, w)))
wrong gap form rows line cause.Near w = inr (inr (inr (row.Near, refl, w)))
wrong gap form rows line cause.Receivers w = inr (inr (inr (row.Receivers, refl, w)))
wrong gap form rows line cause.NotGreatest w = inr (inr (inr (row.NotGreatest, refl, w)))
wrong gap form rows line cause.Header w = absurd w
wrong gap form rows line cause.After w = absurd w
wrong gap form rows line cause.Read w = absurd w
wrong gap form rows line cause.TooLong w = absurd w
wrong gap form rows line cause.Memory w = absurd w

module _ (gap : ℕ) (form : MomentForm) (rows : List Row) (line : List ℕ) (a b : BookCause) where
  pub spelled_twice : Wrong gap form rows line a → Wrong gap form rows line b → a ≡ b
  spelled_twice h k = elim h [
    | inl ends ↦ elim k [
      | inl e ↦ ends.0 ∙ sym e.0
      | inr k ↦ elim k [
        | inl s ↦ absurd (let f : true ≡ false = sym ends.1 ∙ s.1 in cc)
        | inr k ↦ elim k [
          | inl f ↦ absurd (no_end form line f.1.row ends.1 f.1.spelled)
          | inr r ↦ absurd (no_end form line r.2.row ends.1 r.2.spelled)
        ]
      ]
    ]
    | inr h ↦ elim h [
      | inl s ↦ elim k [
        | inl e ↦ absurd (let f : true ≡ false = sym e.1 ∙ s.1 in cc)
        | inr k ↦ elim k [
          | inl t ↦ s.0 ∙ sym t.0
          | inr k ↦ elim k [
            | inl f ↦ absurd (s.2 f.1.row f.1.is f.1.spelled)
            | inr r ↦ absurd (s.2 r.2.row r.2.is.spelled r.2.spelled)
          ]
        ]
      ]
      | inr h ↦ elim h [
        | inl f ↦ elim k [
          | inl e ↦ absurd (no_end form line f.1.row e.1 f.1.spelled)
          | inr k ↦ elim k [
            | inl t ↦ absurd (t.2 f.1.row f.1.is f.1.spelled)
            | inr k ↦ elim k [
              | inl g ↦ f.0 ∙ sym g.0
              | inr r ↦ absurd (no_frame gap form rows line r.0 f.1 r.2)
            ]
          ]
        ]
        | inr r ↦ elim k [
          | inl e ↦ absurd (no_end form line r.2.row e.1 r.2.spelled)
          | inr k ↦ elim k [
            | inl t ↦ absurd (t.2 r.2.row r.2.is.spelled r.2.spelled)
            | inr k ↦ elim k [
              | inl g ↦ absurd (no_frame gap form rows line r.0 g.1 r.2)
              | inr q ↦ r.1 ∙ ap book_cause_of (same_why gap form rows line r.0 q.0 r.2 q.2)
                  ∙ sym q.1
            ]
          ]
        ]
      ]
    ]
  ]
