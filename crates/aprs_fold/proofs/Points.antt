-- A point of the loop in which the rows of several streams are taken.
use Rattle.aprs_fold.proofs.Common.{◌≡◌, ◌≢◌, ◌<◌, ℕ, List, length, Option, sym, subst, arith, Counted, Row}
use Rattle.aprs_bookfile.specs.declared.row_stream.RowStream.{RowStream}
use Rattle.aprs_fold.specs.Fronts.{IsFirst}
use Rattle.aprs_fold.specs.Inputs.{AreAsked, IsRefused}
use Rattle.aprs_fold.specs.Streams.{AreReading, IsOfInputs, IsReadyAt}
use Rattle.aprs_fold.specs.declared.fault.FoldFault.{FoldFault}
use Rattle.aprs_fold.specs.declared.fault.FoldFault.TheVariants.{Input, OtherGap, Memory, Write}
use Rattle.aprs_fold.proofs.Reading.{AreReading-asked, AreReading-len, AreReading-ready}

-- want of memory refuses no input
pub memory_refuses : {R : Type 0} (remaining : R → Option (List ℕ)) (limit gap : ℕ)
    (old new : List (Counted R)) (fault : FoldFault) → fault ≡ Memory
    → IsRefused remaining limit gap fault old new
memory_refuses remaining limit gap old new fault e =
    subst (λ (f : FoldFault). IsRefused remaining limit gap f old new) (sym e) tt

-- a fault of the inputs is no refusal of the output
pub unwritten : (fault : FoldFault) → IsOfInputs fault → fault ≢ Write
unwritten (Input index fault) is e = absurd (cc)
unwritten (OtherGap index) is e = absurd (cc)
unwritten Memory is e = absurd (cc)
unwritten Write is e = is

-- So far these rows were taken of each input.
pub record Point {R A : Type 0} (remaining : R → Option (List ℕ)) (limit gap : ℕ)
    (first now : List (Counted R)) (streams : List (RowStream A)) : Type 0 where
  pub taken : List (List Row)
  pub reading : AreReading remaining limit gap first now streams taken

module _ {R A : Type 0} {remaining : R → Option (List ℕ)} {limit gap : ℕ}
    {first now : List (Counted R)} {streams : List (RowStream A)}
    (p : Point remaining limit gap first now streams) where
  pub asked : AreAsked remaining limit first now
  asked = AreReading-asked remaining limit gap first now streams p.taken p.reading

  -- neither want of memory nor a refusal of the output refuses an input
  pub by_memory : (fault : FoldFault) → fault ≡ Memory → IsRefused remaining limit gap fault first now
  by_memory fault e = memory_refuses remaining limit gap first now fault e

  pub by_write : (fault : FoldFault) → fault ≡ Write → IsRefused remaining limit gap fault first now
  by_write fault e =
      subst (λ (f : FoldFault). IsRefused remaining limit gap f first now) (sym e) tt

  -- the stream whose row comes first may be read on
  module _ {i : ℕ} (f : IsFirst streams i) where
    pub is_ready : IsReadyAt streams i
    is_ready =
        AreReading-ready remaining limit gap i first now streams p.taken f.row f.is p.reading

    pub is_within : i < length now
    is_within = let len = AreReading-len remaining limit gap first now streams p.taken p.reading in
        omega (arith, len, f.within)
