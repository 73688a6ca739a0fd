use Rattle.std.specs.Prelude.{map}
use Rattle.aprs_host.proofs.Common.{◌≡◌, take, string_bytes}
use Rattle.aprs_host.proofs.texts.texts_of.Given as goal

abbrev pub invariant-loop-argument : goal.invariant-loop-argument
invariant-loop-argument g l = record {
  texts : map (λ text. text.now) l.texts.items
      ≡ map (λ argument. string_bytes argument) (take l.argument-index l.arguments);
}
