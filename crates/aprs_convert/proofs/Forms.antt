-- Lemmas on forms.
use Rattle.aprs_convert.proofs.Common.{◌≡◌, ◌⊎◌, inl, inr, ℕ, List, InputEnd}
use Rattle.aprs_convert.specs.Plan.{Plan, convert_plan, lines_plan}
use Rattle.aprs_convert.specs.declared.form.Form.{Form}
use Rattle.aprs_convert.specs.declared.form.Form.TheVariants.{Text, Kind, Kiss, Log, Capture}

-- each form but a capture goes by the lines
pub by_lines : (P : (List ℕ → InputEnd → Plan) → Type 0) (f : Form)
    → (f ≡ Text) ⊎ ((f ≡ Kind) ⊎ ((f ≡ Kiss) ⊎ (f ≡ Log))) → P (lines_plan f) → P (convert_plan f)
by_lines P Text e h = h
by_lines P Kind e h = h
by_lines P Kiss e h = h
by_lines P Log e h = h
by_lines P (Capture r m) (inl e) h = cc
by_lines P (Capture r m) (inr (inl e)) h = cc
by_lines P (Capture r m) (inr (inr (inl e))) h = cc
by_lines P (Capture r m) (inr (inr (inr e))) h = cc
