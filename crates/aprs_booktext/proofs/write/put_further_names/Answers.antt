use Rattle.aprs_booktext.proofs.Common.{◌∷◌, arith, Puts-broken, Puts-is, Puts-more, more_names}
use Rattle.aprs_booktext.proofs.write.put_further_names.Goals as goal

pub returns-in_err-put-clause-puts : goal.returns-in_err-put-clause-puts
returns-in_err-put-clause-puts g c =
    Puts-broken (λ name. 44 ∷ name) c.args.names.now c.loop-name.name-index _ (omega arith)
    c.name-item.is c.loop-name.invariant.puts _ c.from_residual.ensures.0
    (Puts-is c.in_err-put.ensures (cc))

pub loop-name-preserved : goal.loop-name-preserved
loop-name-preserved g c = record {
  puts = Puts-more (λ name. 44 ∷ name) c.args.names.now c.loop-name.name-index _ (omega arith)
      c.name-item.is c.loop-name.invariant.puts (Puts-is c.in_ok-put.ensures (cc));
  names = more_names c.args.names.now c.loop-name.name-index _ (omega arith) c.name-item.is
      c.loop-name.invariant.names c.comma_and_name.ensures.name;
}
