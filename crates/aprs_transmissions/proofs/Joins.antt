-- The laws of joining, for receptions, lists of receivers and rows.
use Rattle.aprs_transmissions.proofs.Common.{◌≡◌, ℕ, ◌<◌, List, ◌++◌, ◌⊎◌, ◌↔◌, inl, inr, sym, refl, ◌∙◌, subst, arith, upto, IsTotalOrder, Ordering, CmpEqualImpliesEq, Received, heard_cmp}
use Rattle.aprs_transmissions.specs.Lists.{◌∈◌, Ordered}
use Rattle.aprs_transmissions.specs.Order.{IsBelow, IsUpTo}
use Rattle.aprs_transmissions.specs.Gap.{IsGap, millis_of}
use Rattle.aprs_transmissions.specs.Row.{Row}
use Rattle.aprs_transmissions.specs.Sound.{Sound}
use Rattle.aprs_transmissions.specs.Witnesses.{witnesses}
use Rattle.aprs_transmissions.specs.Joining.{JoinLaws, AreAny, IsGreaterOf, IsAny, IsUnited, Joined}
use Rattle.aprs_transmissions.specs.BookValue.{BookValue, IsSoundBook, HaveOneGap, AreJoined}
use Rattle.aprs_transmissions.specs.JoinRow.{union, greater}
use Rattle.aprs_transmissions.proofs.Lists.{ordered_same}
use Rattle.aprs_transmissions.proofs.Orders.{not_both, same_greatest, up_to_itself, heard_total, heard_exact}
use Rattle.aprs_transmissions.proofs.Choices.{in_union, union_ordered}
use Rattle.aprs_transmissions.proofs.Rows.{the_greater}
use Rattle.aprs_transmissions.proofs.Books.{one_book}
use Rattle.aprs_transmissions.proofs.Soundness.{sound, exists}
use Rattle.aprs_transmissions.proofs.Unions as unions

pub book_laws : (gap : ℕ) → 0 < gap → JoinLaws (Sound gap) AreAny (Joined gap)
book_laws gap pos = record {
  reflexive = λ a. tt;
  symmetric = λ a b h. tt;
  transitive = λ a b c h k. tt;
  both = λ a b c j. (tt, tt);
  some = λ a b v w _. exists gap (witnesses a ++ witnesses b);
  only = λ a b c d j k. one_book gap (witnesses a ++ witnesses b) c d j k;
  stays = λ a b c j. sound gap (witnesses a ++ witnesses b) c j;
  commutative = unions.commutative gap;
  idempotent = λ a x v. unions.idempotent gap a x pos v;
  associative = λ a b c x y p q j k l m. unions.associative gap a b c x y p q pos j k l m;
}

-- ---- books with their gaps

pub one_value : (a b : BookValue) → a.gap ≡ b.gap → a.rows ≡ b.rows → a ≡ b
one_value a b g r = λ i. record { gap = g i; rows = r i }

-- rows joined under one gap are so under an equal one
pub under : (g h : ℕ) (a b c : List Row) → g ≡ h → Joined (millis_of g) a b c
    → Joined (millis_of h) a b c
under g h a b c e j = subst (λ (k : ℕ). Joined (millis_of k) a b c) e j

pub some_millis : (gap : ℕ) → IsGap gap → 0 < millis_of gap
some_millis gap r = omega (arith, r.0)

pub gap_laws : JoinLaws IsSoundBook HaveOneGap AreJoined
gap_laws = record {
  reflexive = λ a. refl;
  symmetric = λ a b h. sym h;
  transitive = λ a b c h k. h ∙ k;
  both = λ a b c j. (j.left, j.right);
  some = λ a b v w e. let t = exists (millis_of a.gap) (witnesses a.rows ++ witnesses b.rows) in (
    record { gap = a.gap; rows = t.0 },
    record { left = refl; right = sym e; range = v.range; rows = t.1 },
  );
  only = λ a b c d j k. let e : c.gap ≡ d.gap = sym j.left ∙ k.left in
      one_value c d e (one_book (millis_of d.gap)
      (witnesses a.rows ++ witnesses b.rows) c.rows d.rows
      (under c.gap d.gap a.rows b.rows c.rows e j.rows) k.rows);
  stays = λ a b c j. record {
    range = j.range;
    sound = sound (millis_of c.gap) (witnesses a.rows ++ witnesses b.rows) c.rows j.rows;
  };
  commutative = λ a b c j. record {
    left = j.right;
    right = j.left;
    range = j.range;
    rows = unions.commutative (millis_of c.gap) a.rows b.rows c.rows j.rows;
  };
  idempotent = λ a x v. (
    λ j. one_value x a (sym j.left)
        ((unions.idempotent (millis_of a.gap) a.rows x.rows (some_millis a.gap v.range) v.sound).0
        (under x.gap a.gap a.rows a.rows x.rows (sym j.left) j.rows)),
    λ e. subst (λ (y : BookValue). AreJoined a a y) (sym e) (record {
      left = refl;
      right = refl;
      range = v.range;
      rows = (unions.idempotent (millis_of a.gap) a.rows a.rows
          (some_millis a.gap v.range) v.sound).1
          refl;
    }),
  );
  associative = λ a b c x y p q j k l m.
      let x_p : x.gap ≡ p.gap = k.left in
      let y_p : y.gap ≡ p.gap = sym l.right ∙ k.right in
      let q_p : q.gap ≡ p.gap = sym m.right ∙ y_p in
      sym (one_value q p q_p (sym (unions.associative
      (millis_of p.gap) a.rows b.rows c.rows x.rows y.rows
      p.rows q.rows (some_millis p.gap k.range)
      (under x.gap p.gap a.rows b.rows x.rows x_p j.rows) k.rows
      (under y.gap p.gap b.rows c.rows y.rows y_p l.rows)
      (under q.gap p.gap a.rows y.rows q.rows q_p m.rows))));
}

same_united : {X : Type 0} {R : X → X → Ordering} → IsTotalOrder R → (c d : List X)
    → Ordered (IsBelow R) c → Ordered (IsBelow R) d → ((r : X) → (r ∈ c) ↔ (r ∈ d)) → c ≡ d
same_united {X} {R} t c d o p e =
    ordered_same (IsBelow R) (λ x y. not_both t x y) c d o p (λ r h. (e r).0 h) (λ r h. (e r).1 h)

pub receivers_laws : {X : Type 0} {R : X → X → Ordering} → IsTotalOrder R → CmpEqualImpliesEq R
    → JoinLaws (Ordered (IsBelow R)) AreAny (IsUnited R)
receivers_laws {X} {R} t e = record {
  reflexive = λ a. tt;
  symmetric = λ a b h. tt;
  transitive = λ a b c h k. tt;
  both = λ a b c j. (tt, tt);
  some =
      λ a b v w _.
      (union R a b, record { ascending = union_ordered t e a b w; members = in_union t e a b });
  only =
      λ a b c d j k. same_united t c d j.ascending k.ascending
      (λ r. (λ h. (k.members r).1 ((j.members r).0 h), λ h. (j.members r).1 ((k.members r).0 h)));
  stays = λ a b c j. j.ascending;
  commutative =
      λ a b c j. record {
        ascending = j.ascending;
        members = λ r.
            (λ h. flip ((j.members r).0 h), λ h. (j.members r).1 (flip h));
      };
  idempotent = λ a x v. (
    λ j. same_united t x a j.ascending v
        (λ r. (λ h. either ((j.members r).0 h), λ h. (j.members r).1 (inl h))),
    λ e. record {
      ascending = subst (λ (c : List X). Ordered (IsBelow R) c)
          (sym e) v;
      members =
          λ r. subst (λ (c : List X). (r ∈ c) ↔ ((r ∈ a) ⊎ (r ∈ a))) (sym e)
          (λ h. inl h, λ h. either h);
    },
  );
  associative = λ a b c x y p q j k l m. same_united t p q k.ascending m.ascending (λ r. (
    λ h. elim ((k.members r).0 h) [
      | inl g ↦ elim
          ((j.members r).0 g) [
            | inl f ↦ (m.members r).1 (inl f)
            | inr f ↦ (m.members r).1
                (inr ((l.members r).1 (inl f)))
          ]
      | inr g ↦ (m.members r).1 (inr ((l.members r).1 (inr g)))
    ],
    λ h. elim ((m.members r).0 h) [
      | inl g ↦ (k.members r).1 (inl ((j.members r).1 (inl g)))
      | inr g ↦ elim
          ((l.members r).0 g) [
            | inl f ↦ (k.members r).1 (inl ((j.members r).1 (inr f)))
            | inr f ↦
                (k.members r).1 (inr f)
          ]
    ],
  ));
} where
  flip : {A B : Type 0} → A ⊎ B → B ⊎ A
  flip (inl h) = inr h
  flip (inr h) = inl h

  either : {A : Type 0} → A ⊎ A → A
  either (inl h) = h
  either (inr h) = h

-- a greatest of a and b is up to what both are up to
least : (a b c d : Received) → IsGreaterOf a b c → IsUpTo heard_cmp a d → IsUpTo heard_cmp b d
    → IsUpTo heard_cmp c d
least a b c d g h k = elim g.one [
  | inl e ↦ subst (λ (s : Received). IsUpTo heard_cmp s d) (sym e) h
  | inr e ↦ subst (λ (s : Received). IsUpTo heard_cmp s d) (sym e) k
]

then : (a b c : Received) → IsUpTo heard_cmp a b → IsUpTo heard_cmp b c → IsUpTo heard_cmp a c
then a b c h k = upto heard_total a b c h k

same : (a b : Received) → IsUpTo heard_cmp a b → IsUpTo heard_cmp b a → a ≡ b
same a b h k = same_greatest heard_total heard_exact a b h k

-- the greater of two is their joined value
pub is_greater_of : (a b : Received) → IsGreaterOf a b (greater a b)
is_greater_of a b = elim (the_greater a b) as (λ _. IsGreaterOf a b (greater a b)) [
  | inl g ↦ record {
    one = inl g.0;
    left = subst (λ (c : Received). IsUpTo heard_cmp a c) (sym g.0)
        (up_to_itself heard_total a);
    right =
        subst (λ (c : Received). IsUpTo heard_cmp b c) (sym g.0) g.1;
  }
  | inr g ↦ record {
    one = inr g.0;
    left = subst (λ (c : Received). IsUpTo heard_cmp a c)
        (sym g.0) g.1;
    right =
        subst (λ (c : Received). IsUpTo heard_cmp b c) (sym g.0) (up_to_itself heard_total b);
  }
]

pub greatest_laws : JoinLaws IsAny AreAny IsGreaterOf
greatest_laws = record {
  reflexive = λ a. tt;
  symmetric = λ a b h. tt;
  transitive = λ a b c h k. tt;
  both = λ a b c j. (tt, tt);
  some = λ a b v w _. (greater a b, is_greater_of a b);
  only = λ a b c d j k. same c d (least a b c d j k.left k.right) (least a b d c k j.left j.right);
  stays = λ a b c j. tt;
  commutative =
      λ a b c j. record {
        one = elim j.one [ inl e ↦ inr e | inr e ↦ inl e ];
        left = j.right;
        right = j.left;
      };
  idempotent = λ a x v. (
    λ j. elim j.one [ inl e ↦ e | inr e ↦ e ],
    λ e. subst (λ (c : Received). IsGreaterOf a a c) (sym e)
        (record {
          one = inl refl;
          left = up_to_itself heard_total a;
          right = up_to_itself heard_total a;
        }),
  );
  associative = λ a b c x y p q j k l m.
      same p q
      (least x c p q k (least a b x q j m.left (then b y q l.left m.right))
      (then c y q l.right m.right))
      (least a y q p m (then a x p j.left k.left)
      (least b c y p l (then b x p j.right k.left) k.right));
}
