-- What the arguments of `aprsbook-fold` ask for.
use Rattle.std.specs.Prelude.{◌≡◌, ◌⊎◌, Bool, List, [], true, false, None, Some, Option, Result, MatchResult, codes, option_map}
use Rattle.std.specs.Str.{bytes_eq}
use Rattle.std.specs.String.{string_bytes}
use Rattle.std.specs.declared.string.String.{String}
use Rattle.clap.specs.Words.{App, IsAmong, Row, Rule, Text, fault_of, first_of, kind_of, matches_of, new_rule, takes, with_rule}
use Rattle.clap.specs.declared.builder.action.ArgAction.TheVariants.{SetTrue}
use Rattle.clap.specs.declared.error.kind.ErrorKind.TheVariants.{ValueValidation}
use Rattle.aprs_ax25.specs.Callsign.{Call}
use Rattle.aprs_ax25.specs.CallText.{SpellsCall}
use Rattle.aprs_arguments.specs.Arguments.{chosen_gap, given_inputs, option_rule, paths_of, versioned_app, with_gathered}
use Rattle.aprs_arguments.specs.declared.fold.FoldJob.{FoldJob}
use Rattle.aprs_arguments.specs.declared.jobs.JobFault.{JobFault}
use Rattle.aprs_arguments.specs.declared.jobs.JobFault.TheVariants as fault

-- The option --check, which has no value.
abbrev pub check_rule : Rule
check_rule = record (new_rule (codes "check")) {
  long = Some (codes "check");
  action = Some SetTrue;
}

-- The command, with `[--from SOURCE] [--until SOURCE]` too.
abbrev pub with_sources : App → App
with_sources a = with_rule (with_rule a (option_rule (codes "from"))) (option_rule (codes "until"))

-- The program of folds, which has a version:
-- `aprsbook-fold [--gap SECONDS] [--from SOURCE] [--until SOURCE] [--new-to OLD] [--check]
-- [BOOK]...`.
abbrev pub fold_app : App
fold_app = with_rule (with_rule (with_sources (with_gathered (versioned_app
    (codes "aprsbook-fold")))) (option_rule (codes "new-to"))) check_rule

-- The value of an option without one, as clap has it: `true` where the option is given.
abbrev pub is_true : Option Text → Bool
is_true None = false
is_true (Some t) = bytes_eq t (codes "true")

-- Whether --check is given.
abbrev pub is_check_asked : List Row → Bool
is_check_asked rows = is_true (first_of (codes "check") rows)

-- The bytes of the path, if there is one.
abbrev pub path_in : {Z : Type 0} → Option (String Z) → Option Text
path_in path = option_map (λ p. string_bytes p) path

-- The source is the callsign that the text spells, or there is neither a source nor a text.
abbrev pub IsSourceIn : Option Text → Option Call → Type 0
IsSourceIn None None = Unit {0}
IsSourceIn (Some text) (Some source) = SpellsCall source text
IsSourceIn given source = ⊥

-- The text is given, and spells no callsign.
abbrev pub SpellsNone : Option Text → Type 0
SpellsNone None = ⊥
SpellsNone (Some text) = (source : Call) → SpellsCall source text → ⊥

-- --from or --until has a text that spells no callsign.
abbrev pub HasBadSource : List Row → Type 0
HasBadSource rows =
    SpellsNone (first_of (codes "from") rows) ⊎ SpellsNone (first_of (codes "until") rows)

-- The job has the gap, the sources, the old book and the inputs that these matches ask for, and
-- only checks if they say so.
pub record IsFoldJobOf (rows : List Row) (j : FoldJob) : Type 0 where
  pub gap : chosen_gap rows ≡ Some j.gap
  pub from : IsSourceIn (first_of (codes "from") rows) j.from
  pub until : IsSourceIn (first_of (codes "until") rows) j.until
  pub new_to : path_in j.new_to ≡ first_of (codes "new-to") rows
  pub inputs : paths_of j.inputs.items ≡ given_inputs rows
  pub checks : j.is_check ≡ is_check_asked rows

-- Clap refuses the arguments only where the command doesn't take them or a source is no callsign.
-- They are refused for `Options` only where the gap can't be read. Of `Memory` nothing is said.
abbrev pub FailsFold : List Text → JobFault → Type 0
FailsFold arguments fault.Memory = Unit {0}
FailsFold arguments fault.Options = chosen_gap (matches_of fold_app arguments) ≡ None
FailsFold arguments (fault.Clap error) =
    (takes fold_app arguments ≡ true → ⊥) ⊎ HasBadSource (matches_of fold_app arguments)

-- The answer is the job that the matches ask for, or a refusal as `FailsFold` says.
abbrev pub AnswersFold : List Text → Result FoldJob JobFault → Type 0
AnswersFold arguments answer = MatchResult answer
    (IsFoldJobOf (matches_of fold_app arguments)) (FailsFold arguments)

-- Where arguments are refused for `Options`, the command's definition finds no fault in them. A
-- refusal of clap has one of the kinds that it finds, or `ValueValidation` where a source is no
-- callsign. Of `Memory` nothing is said.
abbrev pub RefusesFold : List Text → JobFault → Type 0
RefusesFold arguments fault.Memory = Unit {0}
RefusesFold arguments fault.Options = fault_of fold_app arguments ≡ []
RefusesFold arguments (fault.Clap error) = IsAmong (kind_of error) (fault_of fold_app arguments)
    ⊎ ((kind_of error ≡ ValueValidation) × HasBadSource (matches_of fold_app arguments))

-- A job is returned only where the command's definition finds no fault in the arguments, and a
-- refusal is as `RefusesFold` says.
abbrev pub JudgesFold : List Text → Result FoldJob JobFault → Type 0
JudgesFold arguments answer =
    MatchResult answer (λ j. fault_of fold_app arguments ≡ []) (RefusesFold arguments)
