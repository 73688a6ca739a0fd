use Rattle.aprs_summary.proofs.Common.{◌≡◌, Bool, true, false, Option, Some, List, [], ◌∷◌, codes, inl, inr, refl, sym, ap, ◌∙◌, Received, heard_cmp, IsUpTo, IsBest, ◌∈◌, each_of}
use Rattle.aprs_transmissions.specs.Key.{key_of}
use Rattle.aprs_summary.specs.declared.lists.named.Named.{Named}
use Rattle.aprs_summary.specs.Names.{Thing, IsNamedBefore, ReportsOf, shown_thing}
use Rattle.aprs_summary.specs.Examples.{object_at, killed_at, item_at, two_leaders, leader_listed}
use Rattle.aprs_summary.proofs.Worked.{object_is, killed_is, item_is}
use Rattle.aprs_summary.proofs.examples.named.things_are_named_once.Goals as goal

-- the object or the item
abbrev leader_thing : Bool → Thing
leader_thing is_item = record { is_item = is_item; name = codes "LEADER" }

-- a report is of one thing
one_thing : {o : Option Thing} (t u : Thing) → o ≡ Some u → o ≡ Some t → u ≡ t
one_thing t u e f = cc

not_item : leader_thing false ≡ leader_thing true → ⊥
not_item e = let b : false ≡ true = ap (λ (t : Thing). t.is_item) e in cc b

best_object : IsBest two_leaders (ReportsOf (leader_thing false)) (killed_at 10)
best_object = record {
  member = inr (inr (inl refl));
  property = killed_is;
  greatest =
      each_of (λ (s : Received). ReportsOf (leader_thing false) (key_of s.frame)
      → IsUpTo heard_cmp s (killed_at 10)) two_leaders
      (λ r. absurd (not_item (sym (one_thing _ _ item_is r))), (λ r. refl, (λ r. refl, tt)));
}

best_item : IsBest two_leaders (ReportsOf (leader_thing true)) (item_at 20)
best_item = record {
  member = inl refl;
  property = item_is;
  greatest =
      each_of (λ (s : Received). ReportsOf (leader_thing true) (key_of s.frame)
      → IsUpTo heard_cmp s (item_at 20)) two_leaders
      (λ r. refl, (λ r. refl, (λ r. refl, tt)));
}

-- both, as they are listed
abbrev object_row : Named
object_row = leader_listed false (killed_at 10)

abbrev item_row : Named
item_row = leader_listed true (item_at 20)

abbrev listed : List Named
listed = object_row ∷ item_row ∷ []

pub returns : goal.returns
returns c = record {
  named = record {
    ascending =
        (each_of (IsNamedBefore object_row) (item_row ∷ []) (refl, tt), (λ y h. absurd h, tt));
    things = λ t. (
      λ x. each_of (λ (y : Named). shown_thing y ≡ t
          → (s : Received) × (s ∈ two_leaders) × ReportsOf t (key_of s.frame)) listed (
            λ e. (killed_at 10, inr (inr (inl refl)), killed_is ∙ ap Some e),
            (λ e. (item_at 20, inl refl, item_is ∙ ap Some e), tt),
          ) x.0 x.1 x.2,
      λ x. each_of (λ (s : Received). ReportsOf t (key_of s.frame)
          → (y : Named) × (y ∈ listed) × (shown_thing y ≡ t)) two_leaders (
            λ r. (item_row, inr (inl refl), one_thing _ _ item_is r),
            (
              λ r. (object_row, inl refl, one_thing _ _ object_is r),
              (λ r. (object_row, inl refl, one_thing _ _ killed_is r), tt),
            ),
          ) x.0 x.1 x.2,
    );
    each =
        each_of (λ (y : Named). IsBest two_leaders (ReportsOf (shown_thing y)) y.heard) listed
        (best_object, (best_item, tt));
  };
  misses_killed = λ a. let h =
      (a.each (leader_listed false (object_at 0)) (inl refl)).greatest (killed_at 10)
      (inr (inr (inl refl))) killed_is in cc h;
  misses_order = λ a. let h = a.ascending.0 object_row (inl refl) in cc h;
  misses_item = λ a. let t =
      (a.things (leader_thing true)).1 (item_at 20, inl refl, item_is) in
      each_of (λ (y : Named). shown_thing y ≡ leader_thing true → ⊥) (object_row ∷ [])
      (not_item, tt) t.0 t.1 t.2;
}
