use Rattle.aprs_book.proofs.Common.{[], ◌≡◌, ◌∙◌, sym, ap, subst, true, false, arith, Sound, insert_heard, has_place_for, insert_entry, head_cmp}
use Rattle.aprs_book.proofs.Searches.{none_sound, found_sound}
use Rattle.aprs_book.proofs.Entries.{writes, written_ok, written_err, written_keyed, written_in_place, lacks, absent_in_place, absent_done}
use Rattle.aprs_book.proofs.EntryEnds.{found_length, count_set, count_insert, inserted_some, filled_insert, written_filled}
use Rattle.aprs_book.proofs.rows.keyed.KeyedRows.insert.Goals as goal

pub put-taken-requires-clause-sound : goal.put-taken-requires-clause-sound
put-taken-requires-clause-sound g c =
    found_sound (λ v. v.items) c.args.gap c.of_frame-head.result c.self.inside.map.entries
    c.in-Some.rows.now (subst (Sound c.args.gap) (sym c.self.view_is) c.requires)
    (sym c.in-Some.ensures.value)

pub put-taken-requires-clause-fewer : goal.put-taken-requires-clause-fewer
put-taken-requires-clause-fewer g c =
    omega (
      arith,
      found_length (λ v. v.items) c.of_frame-head.result c.self.inside.map.entries
          c.in-Some.rows.now c.in-Some.ensures.value,
      c.self.invariant.1,
    )

pub put-requires-clause-sound : goal.put-requires-clause-sound
put-requires-clause-sound g c = none_sound c.args.gap _ c.new-rows.ensures.items

pub invariant_of-self : goal.invariant_of-self
invariant_of-self g c =
    let x = c.args.x.now in
    let es = c.self.inside.map.entries in
    let w = writes (λ v. v.items) x c.frame.result.now c.of_frame-head.result es
    (c.get_mut.follows.lender c.put-taken.new.rows).entries c.in-Some.rows.now c.put-taken.new.rows
    c.of_frame-head.ensures c.frame.ensures c.in-Some.ensures.ordered c.self.invariant.0.0
    c.in-Some.ensures.value (c.get_mut.follows.holds c.put-taken.new.rows).0 in (
      (
        written_keyed (λ v. v.items) c.args.gap x _ es _ _ _ c.put-taken.result w
            c.put-taken.ensures.inserted c.put-taken.ensures.unchanged,
        written_filled (λ v. v.items) c.args.gap x _ es _ _ _ c.put-taken.result w
            c.self.invariant.0.1 c.put-taken.ensures.inserted c.put-taken.ensures.unchanged,
      ),
      count_set (λ v. v.items) c.of_frame-head.result es _ c.in-Some.rows.now c.put-taken.new.rows
          c.self.inside.count c.put-taken.new.count c.in-Some.ensures.value
          (c.get_mut.follows.holds c.put-taken.new.rows).0 c.self.invariant.1
          c.put-taken.ensures.counted,
    )

pub returns-in-Some : goal.returns-in-Some
returns-in-Some g c =
    let x = c.args.x.now in
    let es = c.self.inside.map.entries in
    let w = writes (λ v. v.items) x c.frame.result.now c.of_frame-head.result es
    (c.get_mut.follows.lender c.put-taken.new.rows).entries c.in-Some.rows.now c.put-taken.new.rows
    c.of_frame-head.ensures c.frame.ensures c.in-Some.ensures.ordered c.self.invariant.0.0
    c.in-Some.ensures.value (c.get_mut.follows.holds c.put-taken.new.rows).0 in record {
      inserted = rw (← c.self.view_is) (written_ok (λ v. v.items) c.args.gap x _ es _ _ _
          c.put-taken.result w c.put-taken.ensures.inserted);
      unchanged = rw (← c.self.view_is) (written_err (λ v. v.items) x _ es _ _ _
          c.put-taken.result w c.put-taken.ensures.unchanged);
      in_place = λ p. c.put-taken.ensures.in_place
          (sym (written_in_place (λ v. v.items) c.args.gap x _ es _ _ _ w)
          ∙ ap (λ t. has_place_for c.args.gap x t) c.self.view_is ∙ p);
    }

pub returns-in_err-put-clause-in_place : goal.returns-in_err-put-clause-in_place
returns-in_err-put-clause-in_place g c = λ p.
    let x = c.args.x.now in
    let es = c.self.inside.map.entries in
    let a = lacks (λ v. v.items) x c.frame.result.now c.of_frame-head.result es
    c.of_frame-head.ensures c.frame.ensures c.in_default.ensures.ordered c.self.invariant.0.0
    c.in_default.ensures.value in
    let no : false ≡ true = sym (absent_in_place (λ v. v.items) c.args.gap x _ es a)
    ∙ ap (λ t. has_place_for c.args.gap x t) c.self.view_is ∙ p in
    absurd (cc)

pub returns-in_err-insert-clause-in_place : goal.returns-in_err-insert-clause-in_place
returns-in_err-insert-clause-in_place g c = λ p.
    let x = c.args.x.now in
    let es = c.self.inside.map.entries in
    let a = lacks (λ v. v.items) x c.frame.result.now c.of_frame-head.result es
    c.of_frame-head.ensures c.frame.ensures c.in_default.ensures.ordered c.self.invariant.0.0
    c.in_default.ensures.value in
    let no : false ≡ true = sym (absent_in_place (λ v. v.items) c.args.gap x _ es a)
    ∙ ap (λ t. has_place_for c.args.gap x t) c.self.view_is ∙ p in
    absurd (cc)

pub invariant_of-self-in_err-insert : goal.invariant_of-self-in_err-insert
invariant_of-self-in_err-insert g c =
    let same =
    c.in_err-insert.ensures.err
    ∙ ap (λ m. m.entries) c.get_mut.follows.holds-at-none in
    rw same c.self.invariant

pub invariant_of-self-2 : goal.invariant_of-self-2
invariant_of-self-2 g c =
    let x = c.args.x.now in
    let es = c.self.inside.map.entries in
    let a = lacks (λ v. v.items) x c.frame.result.now c.of_frame-head.result es
    c.of_frame-head.ensures c.frame.ensures c.in_default.ensures.ordered c.self.invariant.0.0
    c.in_default.ensures.value in
    let put = c.in_ok-insert.ensures.entries in
    let same = ap (λ m. m.entries) c.get_mut.follows.holds-at-none in
    let made = c.in_ok-put.ensures.inserted ∙ ap
    (λ t. insert_heard c.args.gap x t) c.new-rows.ensures.items in
    let entries = put
    ∙ ap (λ t. insert_entry head_cmp t c.of_frame-head.result c.put.new.rows) same in (
      (
        (absent_done (λ v. v.items) c.args.gap x c.of_frame-head.result es
            c.insert.new.self.entries c.put.new.rows a made entries).1,
        rw entries (filled_insert (λ v. v.items) c.of_frame-head.result es c.put.new.rows
            c.self.invariant.0.1 (rw made (inserted_some c.args.gap x []))),
      ),
      count_insert (λ v. v.items) c.of_frame-head.result es c.insert.new.self.entries
          c.put.new.rows c.new-rows.result.items c.self.inside.count c.put.new.count
          c.in_default.ensures.value c.new-rows.ensures.items entries c.self.invariant.1
          c.in_ok-put.ensures.counted,
    )

pub returns-clause-inserted : goal.returns-clause-inserted
returns-clause-inserted g c =
    let x = c.args.x.now in
    let es = c.self.inside.map.entries in
    let a = lacks (λ v. v.items) x c.frame.result.now c.of_frame-head.result es
    c.of_frame-head.ensures c.frame.ensures c.in_default.ensures.ordered c.self.invariant.0.0
    c.in_default.ensures.value in
    let put = c.in_ok-insert.ensures.entries in
    let same = ap (λ m. m.entries) c.get_mut.follows.holds-at-none in
    let made = c.in_ok-put.ensures.inserted ∙ ap
    (λ t. insert_heard c.args.gap x t) c.new-rows.ensures.items in
    let entries = put
    ∙ ap (λ t. insert_entry head_cmp t c.of_frame-head.result c.put.new.rows) same in
    (absent_done (λ v. v.items) c.args.gap x c.of_frame-head.result es
    c.insert.new.self.entries c.put.new.rows a made entries).0
    ∙ ap (λ t. insert_heard c.args.gap x t) c.self.view_is
