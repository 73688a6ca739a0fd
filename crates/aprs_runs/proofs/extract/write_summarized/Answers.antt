use Rattle.aprs_runs.proofs.Common.{subst, sym}
use Rattle.aprs_runs.specs.Extract.{IsSummarized}
use Rattle.aprs_runs.specs.declared.extract.Summarized.{Summarized}
use Rattle.aprs_runs.proofs.extract.write_summarized.Goals as goal

pub returns-in-Listing : goal.returns-in-Listing
returns-in-Listing g c =
    let written = c.write_listing.ensures in (
      written.0,
      subst (λ (what : Summarized). IsSummarized what c.args.summary.now written.0)
          (sym c.in-Listing.is) written.1,
      written.2,
    )

pub returns-in-Messages : goal.returns-in-Messages
returns-in-Messages g c =
    let written = c.write_messages.ensures in (
      written.0,
      subst (λ (what : Summarized). IsSummarized what c.args.summary.now written.0)
          (sym c.in-Messages.is) written.1,
      written.2,
    )

pub returns-in-Things : goal.returns-in-Things
returns-in-Things g c =
    let written = c.write_things.ensures in (
      written.0,
      subst (λ (what : Summarized). IsSummarized what c.args.summary.now written.0)
          (sym c.in-Things.is) written.1,
      written.2,
    )
