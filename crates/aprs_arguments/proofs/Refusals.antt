-- Lemmas on arguments that are refused.
use Rattle.aprs_arguments.proofs.Common.{◌≡◌, ℕ, List, sym, subst, inl, inr, HasKind, App, fault_of, kind_of}
use Rattle.std.specs.Prelude.{◌⊎◌, ◌≢◌}
use Rattle.clap.specs.declared.error.Error.{Error}
use Rattle.clap.specs.declared.error.kind.ErrorKind.TheVariants.{OutOfMemory}
use Rattle.aprs_arguments.specs.Arguments.{RefusesSo}
use Rattle.aprs_arguments.specs.declared.jobs.JobFault.{JobFault}
use Rattle.aprs_arguments.specs.declared.jobs.JobFault.TheVariants as fault

-- an error is refused as its kind says
pub refused : (a : App) (arguments : List (List ℕ)) (e : Error) (f : JobFault)
    → HasKind (fault_of a arguments) e
    → ((kind_of e ≡ OutOfMemory) × (f ≡ fault.Memory))
    ⊎ ((kind_of e ≢ OutOfMemory) × (f ≡ fault.Clap e)) → RefusesSo a arguments f
refused a arguments e f has known = elim known [
  | inl h ↦ subst (RefusesSo a arguments) (sym h.1) tt
  | inr h ↦ subst (RefusesSo a arguments) (sym h.1) (elim has [
    | inl out ↦ absurd (h.0 out)
    | inr among ↦ among
  ])
]
