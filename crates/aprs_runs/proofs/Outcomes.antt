-- Lemmas on what a run writes of what is told of its inputs.
use Rattle.aprs_runs.proofs.Common.{ℕ, List, Option, Ok, Err, Sends, Counted}
use Rattle.aprs_runs.specs.Outcome.{WritesFor}
use Rattle.aprs_runs.specs.declared.fault.RunFault.{RunFault}
use Rattle.aprs_runs.specs.declared.fault.RunFault.TheVariants.{Write}

module _ {W : Type 0} (Told : List ℕ → Type 0) (contents : W → Option (List ℕ))
    (old new : Counted W) (text : List ℕ) (told : Told text) where
  -- a text that is told was sent
  pub text_went : Sends {E = RunFault} contents (Ok tt) old new text
      → WritesFor Told contents (Ok tt) old new
  text_went p = (text, told, p.sent, p.tries)

  -- or a prefix of it
  pub prefix_went : Sends {E = RunFault} contents (Err Write) old new text
      → WritesFor Told contents (Err Write) old new
  prefix_went p = (text, told, p.prefix, p.tries)
