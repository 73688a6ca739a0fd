use Rattle.aprs_lists.proofs.Common.{rules, subst, Sends, Sends-put, Sends-unput}
use Rattle.aprs_lists.proofs.listing.write_listing.Goals as goal

pub returns-in_err-put_listing : goal.returns-in_err-put_listing
returns-in_err-put_listing g c =
    let put = c.in_err-put_listing.ensures in (
      put.0,
      put.1,
      subst (λ w. Sends g.W.Write.contents c.from_residual.result c.args.w.now w put.0)
          (search rules) (Sends-unput c.new-out.ensures.nothing _ c.from_residual.ensures.0 put.2),
    )

pub returns : goal.returns
returns g c =
    let put = c.in_ok-put_listing.ensures in (
      put.0,
      put.1,
      subst (λ w. Sends g.W.Write.contents c.flush.result c.args.w.now w put.0) (search rules)
          (Sends-put c.new-out.ensures.nothing put.2 c.flush.ensures.sent),
    )
