-- The last row is put where it is new.
use Rattle.aprs_fold.proofs.Common.{◌≡◌, ℕ, Bool, true, false, List, [], ◌∷◌, Option, Result, Ok, Err, IfOk, OnOk, inl, inr, refl, sym, subst, Row, Puts}
use Rattle.aprs_io.specs.declared.outlet.Outlet.{Outlet}
use Rattle.aprs_rows.specs.OpenRow.{JoinsOrNot}
use Rattle.aprs_fold.specs.NewRows.{new_rows}
use Rattle.aprs_fold.specs.Known.{FailsNew, PutsNew, TakesNew}
use Rattle.aprs_fold.specs.Range.{rows_of_sources}
use Rattle.aprs_fold.specs.Taking.{lines_of_rows, FailsPut, HasPut, IsThere}
use Rattle.aprs_fold.specs.declared.fault.FoldFault.{FoldFault}
use Rattle.aprs_fold.specs.declared.fault.FoldFault.TheVariants.{Memory, Write}
use Rattle.aprs_fold.specs.declared.range.SourceRange.{SourceRange}
use Rattle.aprs_fold.proofs.Puttings.{HasPut-none}

module _ {W : Type 0} (contents : W → Option (List ℕ)) (range : SourceRange) (known : List Row)
  where
    -- there is none to be put
    pub puts_none : (o : Outlet W) (last : List Row) → rows_of_sources range last ≡ []
        → PutsNew contents range false known o o last
    puts_none o last none = record {
      puts = subst (λ (l : List Row). HasPut contents o o (new_rows known l)) (sym none)
          (HasPut-none o);
      is_there = subst (λ (l : List Row). IsThere false (new_rows known l)) (sym none) refl;
    }

    -- there is one
    module _ (x : Row) (last : List Row) (kept : rows_of_sources range last ≡ x ∷ [])
        (o p : Outlet W) where
      pub puts_one : (result : Result Bool FoldFault)
          → IfOk result (λ wrote. IsThere wrote (new_rows known (x ∷ [])))
          → OnOk result (HasPut contents o p (new_rows known (x ∷ [])))
          → IfOk result (λ wrote. PutsNew contents range wrote known o p last)
      puts_one (Ok wrote) there put = record {
        puts = subst (λ (l : List Row). HasPut contents o p (new_rows known l)) (sym kept) put;
        is_there = subst (λ (l : List Row). IsThere wrote (new_rows known l)) (sym kept) there;
      }
      puts_one (Err fault) there put = tt

      pub fails_one : (fault : FoldFault) → FailsPut contents fault o p (x ∷ [])
          → FailsPut contents fault o p (rows_of_sources range last)
      fails_one fault fails = (
        fails.0,
        subst (λ (l : List Row). Puts {E = FoldFault} contents (Err Write) o p (lines_of_rows l))
            (sym kept) fails.1,
      )

    -- ---- where the next row is taken

    module _ (gap : ℕ) (o p : Outlet W) (old mid : List Row) (x : Row) where
      -- there is no memory for it
      pub fails_first : (fault : FoldFault) → fault ≡ Memory
          → FailsNew contents range fault known o o old
      fails_first fault is = inl (is, (false, false, puts_none o [] refl))

      -- it joined the last one
      pub takes_joined : (joined : Bool) → joined ≡ true → JoinsOrNot joined gap old x mid
          → TakesNew contents range false gap known o o old x mid
      takes_joined true e joins = record {
        closed = false;
        takes = inl joins;
        puts = puts_none o [] refl;
      }
      takes_joined false e joins = absurd (cc)

      module _ (joined : Bool) (far : joined ≡ false) (joins : JoinsOrNot joined gap old x mid)
        where
          stays : JoinsOrNot false gap old x mid
          stays = subst (λ (b : Bool). JoinsOrNot b gap old x mid) far joins

          -- it didn't, and this one isn't put
          pub fails_last : (fault : FoldFault)
              → FailsPut contents fault o p (rows_of_sources range mid)
              → FailsNew contents range fault known o p old
          fails_last fault fails = inr (subst (λ (l : List Row).
              FailsPut contents fault o p (rows_of_sources range l)) stays.0 fails)

          -- it didn't, and this one was put
          module _ (wrote : Bool) (puts : PutsNew contents range wrote known o p mid) where
            put_old : PutsNew contents range wrote known o p old
            put_old =
                subst (λ (l : List Row). PutsNew contents range wrote known o p l) stays.0 puts

            put_none : old ≡ [] → PutsNew contents range wrote known o p []
            put_none none =
                subst (λ (l : List Row). PutsNew contents range wrote known o p l) none put_old

            pub takes_closed : (new : List Row) → new ≡ x ∷ []
                → TakesNew contents range wrote gap known o p old x new
            takes_closed new is = elim stays.1 [
              | inl none ↦ record {
                closed = false;
                takes = inr (none, is);
                puts = put_none none;
              }
              | inr own ↦ record {
                closed = true;
                takes = (own.0, own.1, own.2, is);
                puts = put_old;
              }
            ]
