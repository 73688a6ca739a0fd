use Rattle.aprs_summary.proofs.Common.{◌∙◌, ◌+◌, [], ◌∷◌, ◌++◌, ap, refl, sym, Received, reading_of}
use Rattle.aprs_transmissions.specs.Key.{key_of}
use Rattle.aprs_summary.specs.Known.{report_bytes}
use Rattle.aprs_summary.specs.StationRows.{tally_of}
use Rattle.aprs_summary.proofs.Collected.{adds_last, on_ok}
use Rattle.aprs_summary.proofs.Stations.{stays_in_order, tallies_put}
use Rattle.aprs_summary.proofs.lists.summary_builder.SummaryBuilder.take.Goals as goal

pub take-requires : goal.take-requires
take-requires g c =
    c.requires.sender ∙ ap (λ (x : Received). (key_of x.frame).source) (sym c.greatest-heard.ensures)

pub returns : goal.returns
returns g c =
    on_ok c.take-2.result (λ noted rows held.
    let row = c.args.row.now in
    let is = c.greatest-heard.ensures in
    let source = c.requires.sender in
    let info = c.info_of.ensures ∙ ap (λ (x : Received). (key_of x.frame).info) is in
    record {
      notes =
          noted rows row held.notes
          (λ topic. c.of-subject.ensures topic
          ∙ (λ i. report_bytes topic (source i) (reading_of (info i)))) is;
      tallies =
          tallies_put rows c.args.self.now.tallies held.tallies (rows ++ row ∷ []) row
          (adds_last rows row) c.args.sender.now
          (tally_of c.args.sender.now c.args.self.now.tallies + 1) c.add.new.self source refl
          c.in_ok-add.ensures
          (stays_in_order c.args.sender.now c.args.self.now.tallies c.add.new.self
          c.in_ok-add.ensures held.sorted);
      sorted =
          stays_in_order c.args.sender.now c.args.self.now.tallies c.add.new.self
          c.in_ok-add.ensures held.sorted;
      exchange = c.in_ok-take.ensures rows row held.exchange c.first.ensures is;
    }) c.take-2.ensures
