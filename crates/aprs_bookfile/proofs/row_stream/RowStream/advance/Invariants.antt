use Rattle.aprs_bookfile.proofs.Common.{◌≡◌, ℕ, ◌≤◌, List, Row, Counted}
use Rattle.aprs_bookfile.specs.RowReader.{KeepsVersion}
use Rattle.aprs_bookfile.specs.RowStream.{stream_ahead, stream_size, HasGot}
use Rattle.aprs_bookfile.specs.declared.row_reader.Keeping.TheVariants.{Last}
use Rattle.aprs_bookfile.proofs.row_stream.RowStream.advance.Given as goal

abbrev pub invariant-loop-self : goal.invariant-loop-self
invariant-loop-self g l =
    let remaining = g.R.Read.remaining in
    record {
      size : stream_size l.self ≤ stream_size l.fn.self;
      less : stream_ahead l.self ≤ stream_ahead l.fn.self;
      keeping : l.self.reader.keeping ≡ l.fn.self.reader.keeping;
      rows : l.fn.self.reader.keeping ≡ Last → l.self.reader.rows ≡ l.fn.self.reader.rows;
      version : KeepsVersion l.fn.self.reader.stage l.self.reader.stage;
      fed : (limit : ℕ) (head : List ℕ) (first : Counted _) (rows : List Row)
          → HasGot remaining limit head first l.fn.source l.fn.self rows
          → HasGot remaining limit head first l.source l.self rows;
    }

abbrev pub decreases-loop-self : goal.decreases-loop-self
decreases-loop-self g l = stream_ahead l.self
