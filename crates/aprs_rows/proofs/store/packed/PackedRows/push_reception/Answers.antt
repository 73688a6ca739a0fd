use Rattle.aprs_rows.proofs.Common.{◌∙◌, ◌∷◌, ◌++◌, [], sym, ap, subst, IsName, Row}
use Rattle.aprs_rows.proofs.Rows.{on_ok, single_names, single_row}
use Rattle.aprs_rows.proofs.store.packed.PackedRows.push_reception.Goals as goal

pub new-requires : goal.new-requires
new-requires g c =
    single_names c.receiver.result.now
    (subst IsName (sym c.receiver.ensures.value) c.receiver.ensures.name)

pub push-requires : goal.push-requires
push-requires g c =
    let one = single_row c.args.x.now c.of-heard.result c.new.result _ _ c.new.ensures
    c.moment.ensures c.receiver.ensures.value c.of-heard.ensures c.receiver.ensures.name in
    record { sound = one.sound; short = one.short }

pub returns-clause-pushed : goal.returns-clause-pushed
returns-clause-pushed g c =
    let one = single_row c.args.x.now c.of-heard.result c.new.result _ _ c.new.ensures
    c.moment.ensures c.receiver.ensures.value c.of-heard.ensures c.receiver.ensures.name in
    on_ok c.push.result (λ e. e ∙ ap (λ (x : Row). c.args.self.now ++ x ∷ []) one.is)
    c.push.ensures.pushed
