-- The program's arguments, as the definition of its command reads them.
use Rattle.std.specs.Prelude.{◌≡◌, ◌⊎◌, ◌==◌, nat_le, ℕ, List, [], ◌∷◌, map, true, Option, None, Some, Result, MatchResult, codes, if◌then◌else◌, option_map, option_and_then, unwrap_or}
use Rattle.std.specs.Str.{bytes_eq}
use Rattle.std.specs.Str.Parse.{digits_value, without_leading_plus}
use Rattle.std.specs.String.{string_bytes}
use Rattle.std.specs.declared.string.String.{String}
use Rattle.std.specs.Borrow.{Bor}
use Rattle.clap.specs.Lexer.{usize_max}
use Rattle.clap.specs.Words.{App, Row, Rule, Text, all_of, first_of, new_app, new_rule, subcommand_of, matches_of, IsAmong, fault_of, kind_of, takes, with_rule, with_subcommand}
use Rattle.clap.specs.ValueTests.{is_unsigned_in}
use Rattle.clap.specs.declared.builder.value_parser.ValueParser.{ValueParser}
use Rattle.clap.specs.declared.builder.value_parser.ValueParser.TheVariants as vp
use Rattle.clap.specs.declared.builder.possible_value.PossibleValue.{PossibleValue}
use Rattle.aprs_transmissions.specs.Gap.{greatest_gap, standard_gap}
use Rattle.aprs_log.specs.MomentReading.{moment_of}
use Rattle.aprs_log.specs.Receiver.{is_receiver}
use Rattle.aprs_convert.specs.declared.form.Form.{Form}
use Rattle.aprs_convert.specs.declared.form.Form.TheVariants as form
use Rattle.aprs_arguments.specs.declared.jobs.HistoryJob.{HistoryJob}
use Rattle.aprs_arguments.specs.declared.jobs.Table.{Table}
use Rattle.aprs_arguments.specs.declared.jobs.Table.TheVariants as table
use Rattle.aprs_arguments.specs.declared.jobs.TableJob.{TableJob}
use Rattle.aprs_arguments.specs.declared.jobs.Job.{Job}
use Rattle.aprs_arguments.specs.declared.jobs.Job.TheVariants as job
use Rattle.aprs_arguments.specs.declared.jobs.JobFault.{JobFault}
use Rattle.aprs_arguments.specs.declared.jobs.JobFault.TheVariants as fault
use Rattle.aprs_arguments.specs.declared.arguments.Task.{Task}
use Rattle.aprs_arguments.specs.declared.arguments.Task.TheVariants as task

-- ---- the command

-- The names of the forms.
abbrev pub form_names : List Text
form_names = codes "text" ∷ codes "kind" ∷ codes "kiss" ∷ codes "log" ∷ codes "capture" ∷ []

-- The name of a value and its aliases.
abbrev pub words_for : PossibleValue → List Text
words_for v = v.name.now ∷ map (λ s. s.now) v.aliases.now

-- Each value has the name of a form and no alias.
abbrev pub AreForms : List PossibleValue → Type 0
AreForms values = map words_for values ≡ map (λ name. name ∷ []) form_names

-- The parser takes the names of the forms and nothing else.
abbrev pub IsForms : ValueParser → Type 0
IsForms p = (values : Bor (List PossibleValue)) × (p ≡ vp.Values values) × AreForms values.now

-- An argument of this name that has to be given.
abbrev pub required_rule : Text → Rule
required_rule name = record (new_rule name) { required = true; value_names = 1 }

-- The argument FORM.
abbrev pub form_rule : ValueParser → Rule
form_rule p = record (required_rule (codes "form")) { parser = Some p }

-- An option of this name, with one value.
abbrev pub option_rule : Text → Rule
option_rule name = record (new_rule name) { long = Some name; value_names = 1 }

-- The argument INPUT.
abbrev pub input_rule : Rule
input_rule = record (new_rule (codes "input")) { value_names = 1 }

-- A number of 1 to 3,600.
abbrev pub gap_parser : ValueParser
gap_parser = vp.Unsigned 1 greatest_gap

-- The option --gap.
abbrev pub gap_rule : Rule
gap_rule = record (option_rule (codes "gap")) { parser = Some gap_parser }

-- The message gap that is taken where no other is chosen: half an hour.
abbrev pub standard_message_gap : ℕ
standard_message_gap = 1800

-- The option --message-gap: a number of 0 to 3,600.
abbrev pub message_gap_rule : Rule
message_gap_rule = record (option_rule (codes "message-gap")) {
  parser = Some (vp.Unsigned 0 greatest_gap);
}

-- The argument SECONDS.
abbrev pub seconds_rule : Rule
seconds_rule =
    record (required_rule (codes "seconds")) {
      parser = Some gap_parser;
    }

-- The argument INPUT, with any number of values.
abbrev pub inputs_rule : Rule
inputs_rule = record input_rule {
  range = Some (record { start_inclusive = 1; end_inclusive = usize_max });
}

-- `convert FORM [INPUT] [--receiver NAME] [--moment MOMENT]`.
abbrev pub convert_app : ValueParser → App
convert_app p =
    with_rule (with_rule (with_rule (with_rule (new_app (codes "convert")) (form_rule p))
    input_rule) (option_rule (codes "receiver"))) (option_rule (codes "moment"))

-- `check [INPUT]`.
abbrev pub check_app : App
check_app = with_rule (new_app (codes "check")) input_rule

-- The command, with `[--gap SECONDS] [INPUT]...` too.
abbrev pub with_gathered : App → App
with_gathered a = with_rule (with_rule a inputs_rule) gap_rule

-- A command of this name with `[--gap SECONDS] [INPUT]...`.
abbrev pub gathering_app : Text → App
gathering_app name = with_gathered (new_app name)

-- `merge [--gap SECONDS] [INPUT]...`.
abbrev pub merge_app : App
merge_app = gathering_app (codes "merge")

-- `show [--gap SECONDS] [INPUT]...`.
abbrev pub show_app : App
show_app = gathering_app (codes "show")

-- `widen SECONDS [INPUT]`.
abbrev pub widen_app : App
widen_app = with_rule (with_rule (new_app (codes "widen")) seconds_rule) input_rule

-- A program of this name, which has a version.
abbrev pub versioned_app : Text → App
versioned_app name = let a = new_app name in
    record a { top = record a.top { has_version = true } }

-- The program, which has a version.
abbrev pub program_top : App
program_top = versioned_app (codes "aprsbook")

-- The program with its commands.
abbrev pub program_app : ValueParser → App
program_app p = with_subcommand (with_subcommand (with_subcommand (with_subcommand
    (with_subcommand program_top (convert_app p).top) check_app.top) merge_app.top) show_app.top)
    widen_app.top

-- The program of histories, which has a version: `aprsbook-history [--gap SECONDS] [INPUT]...`.
abbrev pub history_app : App
history_app = with_gathered (versioned_app (codes "aprsbook-history"))

-- The program of tables, which has a version. Its arguments are `[--gap SECONDS]
-- [--message-gap SECONDS] [INPUT]...`, where the first INPUT may name a table.
abbrev pub table_app : App
table_app = with_rule (with_gathered (versioned_app (codes "aprsbook-table"))) message_gap_rule

-- ---- what is read of the matches

-- The text as the name of a receiver, if it is one.
abbrev pub receiver_of : Text → Option (List ℕ)
receiver_of t = if is_receiver t then Some t else None

-- This form, which isn't a capture. None where a receiver or a moment is given, which only a
-- capture has.
abbrev pub plain_form_of : Form → Option Text → Option Text → Option Form
plain_form_of f None None = Some f
plain_form_of f _ _ = None

-- A capture of this receiver at this moment, if both are given.
abbrev pub capture_of : Option (List ℕ) → Option ℕ → Option Form
capture_of (Some r) (Some m) = Some (form.Capture r m)
capture_of _ _ = None

-- A capture of the receiver and the moment that these texts name, if both are given and name one.
abbrev pub capture_form_of : Option Text → Option Text → Option Form
capture_form_of r m = capture_of (option_and_then receiver_of r) (option_and_then moment_of m)

-- The form of this name: `text`, `kind`, `kiss` and `log` without options, and any other name as a
-- capture with both. The command takes `capture` alone as another name.
abbrev pub named_form_of : Text → Option Text → Option Text → Option Form
named_form_of name r m = if bytes_eq name (codes "text") then plain_form_of form.Text r m
    else (if bytes_eq name (codes "kind") then plain_form_of form.Kind r m
    else (if bytes_eq name (codes "kiss") then plain_form_of form.Kiss r m
    else (if bytes_eq name (codes "log") then plain_form_of form.Log r m
    else capture_form_of r m)))

-- The form that the matches name.
abbrev pub asked_form : List Row → Option Form
asked_form rows = option_and_then (λ name. named_form_of name (first_of (codes "receiver") rows)
    (first_of (codes "moment") rows)) (first_of (codes "form") rows)

-- The number of seconds in a text, if the command takes it as a gap. It may begin with a plus sign.
abbrev pub read_gap : Text → Option ℕ
read_gap t = if is_unsigned_in 1 greatest_gap t
    then Some (digits_value 10 (without_leading_plus t)) else None

-- The gap in a text, or the standard one without a text.
abbrev pub given_gap : Option Text → Option ℕ
given_gap None = Some standard_gap
given_gap (Some t) = read_gap t

-- The gap of a merge or a listing.
abbrev pub chosen_gap : List Row → Option ℕ
chosen_gap rows = given_gap (first_of (codes "gap") rows)

-- The gap to widen to.
abbrev pub widened_gap : List Row → Option ℕ
widened_gap rows = option_and_then read_gap (first_of (codes "seconds") rows)

-- The task of the command of this name, if its options are right. Any name that isn't another
-- command's is taken as `check`.
abbrev pub task_by_name : Text → List Row → Option Task
task_by_name name rows =
    if bytes_eq name (codes "convert") then option_map (λ f. task.Convert f) (asked_form rows)
    else (if bytes_eq name (codes "merge") then option_map (λ g. task.Merge g) (chosen_gap rows)
    else (if bytes_eq name (codes "show") then option_map (λ g. task.Show g) (chosen_gap rows)
    else (if bytes_eq name (codes "widen") then option_map (λ g. task.Widen g) (widened_gap rows)
    else Some task.Check)))

-- The task: `convert text` without a command. None where the options break the rule on capture, or
-- a gap can't be read.
abbrev pub task_of : Option (Text × List Row) → Option Task
task_of None = Some (task.Convert form.Text)
task_of (Some p) = task_by_name p.0 p.1

-- The paths of the inputs among the matches, in the order of the arguments.
abbrev pub given_inputs : List Row → List Text
given_inputs rows = unwrap_or (all_of (codes "input") rows) []

-- The paths of the inputs, in the order of the arguments; none without a command.
abbrev pub inputs_in : Option (Text × List Row) → List Text
inputs_in None = []
inputs_in (Some p) = given_inputs p.1

-- ---- the answer

-- The bytes of paths.
abbrev pub paths_of : {Z : Type 0} → List (String Z) → List Text
paths_of inputs = map (λ path. string_bytes path) inputs

-- The paths of a job's inputs.
abbrev pub inputs_of : Job → List Text
inputs_of (job.Check inputs) = paths_of inputs.items
inputs_of (job.Convert f inputs) = paths_of inputs.items
inputs_of (job.Merge g inputs) = paths_of inputs.items
inputs_of (job.Show g inputs) = paths_of inputs.items
inputs_of (job.Widen g inputs) = paths_of inputs.items

-- What a job asks for, apart from its inputs.
abbrev pub job_task : Job → Task
job_task (job.Check inputs) = task.Check
job_task (job.Convert f inputs) = task.Convert f
job_task (job.Merge g inputs) = task.Merge g
job_task (job.Show g inputs) = task.Show g
job_task (job.Widen g inputs) = task.Widen g

-- The job is the one that these matches ask for, with their inputs.
pub record IsJobOf (found : Option (Text × List Row)) (j : Job) : Type 0 where
  pub task : task_of found ≡ Some (job_task j)
  pub inputs : inputs_of j ≡ inputs_in found

-- Clap refuses arguments only where the command doesn't take them. They are refused for `Options`
-- only where they break the rule on capture, or a gap can't be read. Of `Memory` nothing is said.
abbrev pub FailsSo : App → List Text → JobFault → Type 0
FailsSo a arguments fault.Memory = Unit {0}
FailsSo a arguments fault.Options = task_of (subcommand_of a arguments) ≡ None
FailsSo a arguments (fault.Clap error) = takes a arguments ≡ true → ⊥

-- The answer is the job that the matches ask for, or a refusal as `FailsSo` says.
abbrev pub AnswersArguments : App → List Text → Result Job JobFault → Type 0
AnswersArguments a arguments answer =
    MatchResult answer (IsJobOf (subcommand_of a arguments)) (FailsSo a arguments)

-- Where arguments are refused for `Options`, the command's definition finds no fault in them. A
-- refusal of clap has one of the kinds that it finds. Of `Memory` nothing is said.
abbrev pub RefusesSo : App → List Text → JobFault → Type 0
RefusesSo a arguments fault.Memory = Unit {0}
RefusesSo a arguments fault.Options = fault_of a arguments ≡ []
RefusesSo a arguments (fault.Clap error) =
    IsAmong (kind_of error) (fault_of a arguments)

-- A job is returned only where the command's definition finds no fault in the arguments, and a
-- refusal is as `RefusesSo` says.
abbrev pub JudgesArguments : {J : Type 0} → App → List Text → Result J JobFault → Type 0
JudgesArguments a arguments answer =
    MatchResult answer (λ j. fault_of a arguments ≡ []) (RefusesSo a arguments)

-- Where a program gathers inputs, clap refuses its arguments only where the command doesn't take
-- them. They are refused for `Options` only where the gap can't be read. Of `Memory` nothing is
-- said.
abbrev pub FailsGathering : App → List Text → JobFault → Type 0
FailsGathering a arguments fault.Memory = Unit {0}
FailsGathering a arguments fault.Options = chosen_gap (matches_of a arguments) ≡ None
FailsGathering a arguments (fault.Clap error) = takes a arguments ≡ true → ⊥

-- ---- the program of histories

-- The job has the gap and the inputs that these matches ask for.
pub record IsHistoryJobOf (rows : List Row) (j : HistoryJob) : Type 0 where
  pub gap : chosen_gap rows ≡ Some j.gap
  pub inputs : paths_of j.inputs.items ≡ given_inputs rows

-- The answer is the job that the matches ask for, or a refusal as `FailsGathering` says.
abbrev pub AnswersHistory : List Text → Result HistoryJob JobFault → Type 0
AnswersHistory arguments answer = MatchResult answer
    (IsHistoryJobOf (matches_of history_app arguments)) (FailsGathering history_app arguments)

-- ---- the program of tables

-- The gap of so many seconds, or none of 0.
abbrev pub gap_unless_0 : ℕ → Option ℕ
gap_unless_0 n = if n == 0 then None else Some n

-- The message gap of so many seconds, 0 to 3,600: none of 0.
abbrev pub message_gap_of : ℕ → Option (Option ℕ)
message_gap_of n = if nat_le n greatest_gap then Some (gap_unless_0 n) else None

-- The message gap in a text, if the command takes it. It may begin with a plus sign.
abbrev pub read_message_gap : Text → Option (Option ℕ)
read_message_gap t = if is_unsigned_in 0 greatest_gap t
    then Some (gap_unless_0 (digits_value 10 (without_leading_plus t))) else None

-- The message gap in a text, or the standard one without a text.
abbrev pub given_message_gap : Option Text → Option (Option ℕ)
given_message_gap None = Some (Some standard_message_gap)
given_message_gap (Some t) = read_message_gap t

-- The message gap of a table.
abbrev pub chosen_message_gap : List Row → Option (Option ℕ)
chosen_message_gap rows = given_message_gap (first_of (codes "message-gap") rows)

-- The table, under this message gap if it is that of messages.
abbrev pub with_message_gap : Option ℕ → Table → Table
with_message_gap gap (table.Messages other) = table.Messages gap
with_message_gap gap table.Rows = table.Rows
with_message_gap gap table.Stations = table.Stations
with_message_gap gap table.Things = table.Things

-- The table that a word names.
abbrev pub named_table : Text → Option Table
named_table word = if bytes_eq word (codes "rows") then Some table.Rows
    else (if bytes_eq word (codes "messages")
    then Some (table.Messages (Some standard_message_gap))
    else (if bytes_eq word (codes "stations") then Some table.Stations
    else (if bytes_eq word (codes "things") then Some table.Things else None)))

-- The table that the first value names and the paths after it; where it names none, the rows, and
-- all values are paths.
abbrev pub table_or_path : Option Table → Text → List Text → Table × List Text
table_or_path (Some t) first others = (t, others)
table_or_path None first others = (table.Rows, first ∷ others)

-- The table and the paths of the inputs that these values of INPUT ask for. Without values it is
-- the table of the rows.
abbrev pub table_and_paths : List Text → Table × List Text
table_and_paths [] = (table.Rows, [])
table_and_paths (first ∷ others) = table_or_path (named_table first) first others

-- A table under this message gap, and paths.
abbrev pub under_message_gap : Option ℕ → Table × List Text → Table × List Text
under_message_gap gap p = (with_message_gap gap p.0, p.1)

-- The job has the table, the gaps and the inputs that these matches ask for.
pub record IsTableJobOf (rows : List Row) (j : TableJob) : Type 0 where
  pub gap : chosen_gap rows ≡ Some j.gap
  pub message_gap : Option ℕ
  pub is_message_gap : chosen_message_gap rows ≡ Some message_gap
  pub table_and_inputs : (j.table, paths_of j.inputs.items)
      ≡ under_message_gap message_gap (table_and_paths (given_inputs rows))

-- Clap refuses arguments only where the command doesn't take them. They are refused for `Options`
-- only where a gap can't be read. Of `Memory` nothing is said.
abbrev pub FailsTable : List Text → JobFault → Type 0
FailsTable arguments fault.Memory = Unit {0}
FailsTable arguments fault.Options = (chosen_gap (matches_of table_app arguments) ≡ None)
    ⊎ (chosen_message_gap (matches_of table_app arguments) ≡ None)
FailsTable arguments (fault.Clap error) = takes table_app arguments ≡ true → ⊥

-- The answer is the job that the matches ask for, or a refusal as `FailsTable` says.
abbrev pub AnswersTable : List Text → Result TableJob JobFault → Type 0
AnswersTable arguments answer = MatchResult answer
    (IsTableJobOf (matches_of table_app arguments)) (FailsTable arguments)
