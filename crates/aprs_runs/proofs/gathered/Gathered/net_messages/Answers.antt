use Rattle.aprs_runs.proofs.Common.{Ok, Err, refl, subst, ◌∙◌, err_from_is_err_and, Sends-err, Sends-ok}
use Rattle.aprs_lists.specs.Net.{IsNetTable}
use Rattle.aprs_runs.specs.ToldBook.{WritesTold}
use Rattle.aprs_runs.specs.declared.gathered.OutputFault.TheVariants.{Write}
use Rattle.aprs_runs.proofs.gathered.Gathered.net_messages.Goals as goal

pub returns-in_err-store : goal.returns-in_err-store
unfolding WritesTold
returns-in_err-store g c =
    let p = err_from_is_err_and c.from_residual.result c.from_residual.ensures.1 in
    rw (p.1, p.2) refl

pub returns-in_err-traffic : goal.returns-in_err-traffic
unfolding WritesTold
returns-in_err-traffic g c =
    let p = err_from_is_err_and c.from_residual-in_err-traffic.result
    c.from_residual-in_err-traffic.ensures.1 in
    rw (p.1, p.2) refl

pub returns-in_err-write_net_messages : goal.returns-in_err-write_net_messages
unfolding WritesTold
returns-in_err-write_net_messages g c =
    let p = err_from_is_err_and c.from_residual-in_err-write_net_messages.result
    c.from_residual-in_err-write_net_messages.ensures.1 in
    let shown = c.in_err-write_net_messages.ensures in
    rw (p.1, p.2) (subst (λ b. WritesTold (IsNetTable c.args.message_gap) g.W.Write.contents (Err Write) b c.args.w.now
    c.write_net_messages.new.w) (c.in_ok-traffic.ensures ∙ c.in_ok-store.ensures.book)
    (shown.0, shown.1, Sends-err (Err Write) refl shown.2))

pub returns : goal.returns
unfolding WritesTold
returns g c =
    let shown = c.in_ok-write_net_messages.ensures in
    subst (λ b. WritesTold (IsNetTable c.args.message_gap) g.W.Write.contents (Ok tt) b c.args.w.now c.write_net_messages.new.w)
    (c.in_ok-traffic.ensures ∙ c.in_ok-store.ensures.book)
    (shown.0, shown.1, Sends-ok shown.2)
