use Rattle.aprs_bookfile.proofs.Common.{◌∙◌, sym, ap}
use Rattle.aprs_bookfile.specs.declared.version.Version.TheVariants.{Three}
use Rattle.aprs_bookfile.specs.Version.{header_of}
use Rattle.aprs_bookfile.proofs.Versions.{no_header, found_other, found_same, other_text}
use Rattle.aprs_bookfile.proofs.version.Version.of_header.Goals as goal

pub returns-in_default-clause-none : goal.returns-in_default-clause-none
returns-in_default-clause-none c =
    no_header c.args.line.now
    (λ e. other_text c.eq.result c.args.line.now _ c.if-eq.false c.eq.ensures (e
    ∙ sym c.as_slice.ensures))
    (λ e. other_text c.eq-2.result c.args.line.now _ c.if-eq-2.false c.eq-2.ensures (e
    ∙ sym c.as_slice-2.ensures))
    (λ g h e. found_other c.gap_in.result g c.in_default.is (c.gap_in.ensures.only g h e))

pub returns-else-eq-3-clause-none : goal.returns-else-eq-3-clause-none
returns-else-eq-3-clause-none c =
    no_header c.args.line.now
    (λ e. other_text c.eq.result c.args.line.now _ c.if-eq.false c.eq.ensures (e
    ∙ sym c.as_slice.ensures))
    (λ e. other_text c.eq-2.result c.args.line.now _ c.if-eq-2.false c.eq-2.ensures (e
    ∙ sym c.as_slice-2.ensures))
    (λ g h e. other_text c.eq-3.result c.args.line.now _ c.if-eq-3.false c.eq-3.ensures
    (e ∙ ap (λ n. header_of (Three n))
    (found_same c.gap_in.result g c.in-Some.gap (c.gap_in.ensures.only g h e) c.in-Some.is)
    ∙ sym c.header.ensures.text ∙ sym c.as_slice-3.ensures.value))
