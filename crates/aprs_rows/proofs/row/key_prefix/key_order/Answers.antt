use Rattle.aprs_rows.proofs.Common.{◌∙◌, sym, bytes_cmp}
use Rattle.aprs_rows.proofs.KeyPrefixes.{heads_decide, infos_decide}
use Rattle.aprs_rows.proofs.row.key_prefix.key_order.Goals as goal

pub returns-in-Equal : goal.returns-in-Equal
returns-in-Equal c =
    c.cmp-in-Equal.ensures ∙ (λ t. bytes_cmp (c.info.ensures.value t) (c.info-in-Equal.ensures.value t))
    ∙ infos_decide _ _ _ _ c.requires.head c.requires.other (sym c.in-Equal.ensures)

pub returns-in_default : goal.returns-in_default
returns-in_default c =
    c.cmp.ensures ∙ heads_decide _ _ _ _ c.requires.head c.requires.other
    (λ e. c.in_default.not-Equal (c.cmp.ensures ∙ e))
