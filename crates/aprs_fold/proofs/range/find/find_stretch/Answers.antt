use Rattle.std.proofs.Common.{◌∙◌}
use Rattle.std.proofs.lemmas.Option.{IfSome_then}
use Rattle.aprs_fold.proofs.Lines.{has_size}
use Rattle.aprs_fold.proofs.range.find.find_stretch.Goals as goal

pub returns-clause-finds : goal.returns-clause-finds
returns-clause-finds g c =
    IfSome_then c.find_in.result c.find_in.ensures.finds (λ s finds bytes known.
    finds bytes (c.size.ensures.stays ∙ known)
    (has_size _ bytes c.size.result c.in_ok-size.size known c.in_ok-size.ensures.value
    c.size.ensures.size))

pub returns-clause-ends : goal.returns-clause-ends
returns-clause-ends g c =
    IfSome_then c.find_in.result c.find_in.ensures.ends (λ s ends bytes known.
    ends bytes (c.size.ensures.stays ∙ known)
    (has_size _ bytes c.size.result c.in_ok-size.size known c.in_ok-size.ensures.value
    c.size.ensures.size))
