-- What was put so far of a list.
use Rattle.std.proofs.lemmas.List.Concat.{flat_map-append}
use Rattle.aprs_io.proofs.Common.{◌≡◌, ◌∙◌, ◌∷◌, ◌++◌, [], ℕ, List, Option, Result, Ok, Err, ap, append-nil, append_assoc, flat_map, flat_map_more, refl, sym}
use Rattle.aprs_io.proofs.Outlets.{Puts-fails, Puts-is, Puts-none, Puts-then}
use Rattle.aprs_io.specs.Outlet.{Puts}
use Rattle.std.specs.Result.{IsErr}
use Rattle.aprs_io.specs.declared.device.WriteFault.{WriteFault}
use Rattle.aprs_io.specs.declared.outlet.Outlet.{Outlet}

module _ {X : Type 0} (line : X → List ℕ) where
  -- The lines of a prefix of the list were put.
  pub record PutSoFar {W : Type 0} (contents : W → Option (List ℕ)) (first now : Outlet W)
      (all rest : List X) : Type 0 where
    pub prefix : List X
    pub whole : all ≡ prefix ++ rest
    pub puts : Puts {E = WriteFault} contents (Ok tt) first now (flat_map line prefix)

module _ {X W : Type 0} {line : X → List ℕ} {contents : W → Option (List ℕ)} where
  pub PutSoFar-none : (o : Outlet W) (all : List X) → PutSoFar line contents o o all all
  PutSoFar-none o all = record { prefix = []; whole = refl; puts = Puts-none o }

  module _ {o p : Outlet W} {all rest : List X} (so : PutSoFar line contents o p all rest) where
    module _ (x : X) (more : List X) (next : rest ≡ x ∷ more) where
      cut : all ≡ so.prefix ++ x ∷ more
      cut = so.whole ∙ ap (λ r. so.prefix ++ r) next

      -- one more
      pub PutSoFar-more : {q : Outlet W}
          → Puts {E = WriteFault} contents (Ok tt) p q (line x)
          → PutSoFar line contents o q all more
      PutSoFar-more {q} put = record {
        prefix = so.prefix ++ x ∷ [];
        whole = cut ∙ sym (append_assoc so.prefix (x ∷ []) more);
        puts = Puts-is (Puts-then so.puts put) (flat_map_more line [] so.prefix x);
      }

      -- one could not be put
      pub PutSoFar-broken : {q : Outlet W} {e : WriteFault} (r : Result (Unit {0}) WriteFault)
          → IsErr r → Puts contents (Err e) p q (line x)
          → Puts contents r o q (flat_map line all)
      PutSoFar-broken r is put = Puts-is
          (Puts-then so.puts (Puts-fails r is put (flat_map line more)))
          (sym (ap (flat_map line) cut ∙ flat_map-append line so.prefix (x ∷ more)))

    -- all were put
    pub PutSoFar-all : rest ≡ [] → Puts {E = WriteFault} contents (Ok tt) o p (flat_map line all)
    PutSoFar-all none = Puts-is so.puts (ap (flat_map line)
        (sym (so.whole ∙ ap (λ r. so.prefix ++ r) none ∙ append-nil so.prefix)))
