use Rattle.aprs_booktext.proofs.Common.{◌∷◌, take, Ok, All, flat_map, IsName, Puts}
use Rattle.aprs_booktext.proofs.write.put_further_names.Given as goal

abbrev pub invariant-loop-name : goal.invariant-loop-name
invariant-loop-name g l =
    let names = take l.name-index l.names in
    record {
      puts : Puts {E = Unit {0}} g.W.Write.contents (Ok tt) l.initial.out l.out
          (flat_map (λ name. 44 ∷ name) names);
      names : All IsName names;
    }
