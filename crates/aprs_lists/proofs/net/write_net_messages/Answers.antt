use Rattle.aprs_lists.proofs.Common.{◌++◌, ℕ, List, flat_map, map, millis_of, subst, Sends}
use Rattle.aprs_io.specs.declared.device.WriteFault.{WriteFault}
use Rattle.aprs_lists.specs.Answers.{reply_of}
use Rattle.aprs_lists.specs.Lines.{tabbed_line}
use Rattle.aprs_lists.specs.Told.{found_line, message_columns}
use Rattle.aprs_lists.proofs.NetTable.{net_table}
use Rattle.aprs_lists.proofs.net.write_net_messages.Goals as goal

pub returns : goal.returns
returns g c = (
  _,
  net_table c.args.traffic.now c.args.message_gap c.copies.result.now c.answers.result.now
      c.gap.ensures.sound c.of.ensures.range c.copies.ensures.given c.answers.ensures.given
      c.copies.ensures.ordered c.answers.ensures.ordered,
  subst (λ (text : List ℕ). Sends {W = g.row.W.Denot} {E = WriteFault} g.W.Write.contents
      c.write_table.result c.args.w.now c.write_table.new.w text)
      (λ i. tabbed_line message_columns
      ++ flat_map (found_line (millis_of (c.gap.ensures.value i)) (map reply_of c.answers.result.now))
      (c.of.ensures.runs i)) c.write_table.ensures,
)
