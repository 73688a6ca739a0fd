-- A command as it is made step by step.
use Rattle.aprs_arguments.proofs.Common.{◌≡◌, ◌∙◌, ap₂, false, true, App, Bool}
use Rattle.std.specs.Prelude.{◌||◌}
use Rattle.clap.specs.declared.builder.command.Command.{Command}
use Rattle.clap.specs.declared.builder.command.Command.TheOpen.{Command-F}

-- the same program, which has a version
abbrev pub versioned : App → App
versioned a = record a { top = record a.top { has_version = true } }

-- an argument of the command is one of other commands too
abbrev pub has_globals : Command-F Command → Bool
has_globals c = c.has_globals

-- a command has no such argument, and none with one more argument that is its own
pub none_with : {old new global : Bool} → new ≡ (old || global) → old ≡ false → global ≡ false
    → new ≡ false
none_with is old_has_none own = is ∙ ap₂ ◌||◌ old_has_none own
