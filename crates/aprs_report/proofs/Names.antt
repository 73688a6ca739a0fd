-- A name that is read is spelled so, and what is spelled so is read.
use Rattle.aprs_report.proofs.Common.{◌≡◌, ℕ, List, length, Some, refl, subst, ltb, list_all, and_parts, ltb-true, lt-ltb}
use Rattle.aprs_report.specs.Bytes.{is_printable, is_space}
use Rattle.aprs_report.specs.Name.{IsPaddedName}
use Rattle.aprs_report.specs.Reader.{name_of, cut_end}
use Rattle.aprs_report.proofs.Steps.{guarded_some}
use Rattle.aprs_report.proofs.Cuts.{cut_found, cut_takes}

pub name_found : (field name : List ℕ) → name_of field ≡ Some name → IsPaddedName name field
name_found field name e =
    let g = guarded_some _ _ _ e in
    let d =
    and_parts (list_all is_printable field) (ltb 0 (length (cut_end is_space field))) g.0 in
    subst (λ (n : List ℕ). IsPaddedName n field) g.1 (record
    { printable = d.0; cut = cut_found is_space field; nonempty = ltb-true _ _ d.1 })

pub name_takes : (field name : List ℕ) → IsPaddedName name field → name_of field ≡ Some name
name_takes field name h =
    rw (cut_takes is_space name field h.cut, h.printable, lt-ltb 0 (length name) h.nonempty) refl
