-- An input that stands for a set has no fault.
use Rattle.aprs_runs.proofs.Common.{◌≡◌, ◌∙◌, ℕ, ◌^◌, ◌<◌, ◌≤◌, true, false, List, [], length, None, Some, inl, inr, refl, sym, ap, append-nil, arith, most_input, Received, log_fault-answers, FirstFault, BookFault, cut_short}
use Rattle.aprs_io.specs.declared.input.InputEnd.{InputEnd}
use Rattle.aprs_bookfile.proofs.Accepting.{rows_few}
use Rattle.aprs_bookfile.proofs.SameFaults.{memory_or_first}
use Rattle.aprs_runs.specs.Inputs.{GivesSet, IsBookFileOf}
use Rattle.aprs_runs.specs.Refused.{IsFaulty}
use Rattle.aprs_runs.proofs.Beginnings.{file_begins, log_is_no_book}
use Rattle.aprs_runs.proofs.Sets.{file_rows, log_none}
use Rattle.aprs_runs.specs.ExitStatus.{status_of_book_cause, status_of_input}
use Rattle.aprs_runs.specs.declared.fault.InputFault.{InputFault}
use Rattle.aprs_runs.specs.declared.fault.InputFault.TheVariants.{Log, Book, Memory, OtherGap, Narrower}

pub file_none : (gap : ℕ) (S : List Received) (t : List ℕ) (c : InputEnd) (f : BookFault)
    → length t ≤ most_input → IsBookFileOf gap S t c → FirstFault t c f → ⊥
file_none gap S t c f small p first =
    let size : length t ≡ length _ = ap length p.text_is in
    let few : length p.rows < 2 ^ 64 = omega (arith, small, size, rows_few p.version p.rows) in
    (cut_short p.version p.rows (file_rows gap S t c p) few [] c f.cause t f (append-nil t ∙ p.text_is) refl
    first).1 p.whole refl

pub no_fault : (gap : ℕ) (t : List ℕ) (c : InputEnd) (S : List Received) (e : InputFault)
    → length t ≤ most_input → GivesSet gap t c S → IsFaulty e t c → status_of_input e ≡ 4
no_fault gap t c S (Log f) small (inl p) h =
    absurd (let x : true ≡ false = sym (file_begins gap S t c p) ∙ h.0 in cc)
no_fault gap t c S (Log f) small (inr p) h =
    absurd (let x : None ≡ Some f = sym (log_none S t c p) ∙ log_fault-answers t c f h.1 in cc)
no_fault gap t c S (Book f) small (inl p) h = elim (memory_or_first t c f h.1) [
  | inl memory ↦ ap status_of_book_cause memory.refused
  | inr first ↦ absurd (file_none gap S t c f small p first)
]
no_fault gap t c S (Book f) small (inr p) h = absurd (log_is_no_book t c p.0 p.1 h.0)
no_fault gap t c S Memory small gives h = refl
no_fault gap t c S OtherGap small gives h = absurd h
no_fault gap t c S Narrower small gives h = absurd h
