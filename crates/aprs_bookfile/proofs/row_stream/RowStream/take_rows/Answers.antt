use Rattle.aprs_bookfile.proofs.row_stream.RowStream.take_rows.Goals as goal

pub returns-clause-text : goal.returns-clause-text
returns-clause-text g c = λ rows got h. (h.0, h.1, c.take_rows.ensures.reads rows h.0 h.2)
