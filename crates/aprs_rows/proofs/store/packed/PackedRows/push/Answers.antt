use Rattle.aprs_rows.proofs.Common.{◌∙◌, ◌∷◌, ◌++◌, [], ap, append_assoc, arith, length}
use Rattle.aprs_rows.proofs.Packed.{LiesAfter, lies_after, room_fits}
use Rattle.aprs_rows.proofs.store.packed.PackedRows.push.Goals as goal

-- one more lies there
lies : (g : _) (c : goal.After-put-3 g)
    → LiesAfter c.self.inside.marks.items c.push_reserved.new.self.items c.self.inside.bytes.items
    c.put-3.new.items.items c.args.row.now
lies g c =
    let bytes = c.self.inside.bytes.items in
    let a = c.receivers-receivers.result.now in
    let b = c.receiver-receiver.result.now in
    let f = c.bytes-frame.result.now in
    lies_after c.self.inside.marks.items c.push_reserved.new.self.items bytes
    c.put-3.new.items.items c.mark.result c.args.row.now c.self.invariant.0 c.mark.ensures
    (c.push_reserved.ensures.items
    ∙ ap (λ ms. ms ++ c.mark.result ∷ []) c.in_ok-reserve.ensures.items)
    (c.put-3.ensures.items ∙ ap (λ bs. bs ++ f) (c.put-2.ensures.items
    ∙ ap (λ bs. bs ++ b) (c.put.ensures.items
    ∙ ap (λ bs. bs ++ a) c.in_ok-reserve-2.ensures.items))
    ∙ append_assoc (bytes ++ a) b f ∙ append_assoc bytes a (b ++ f)
    ∙ (λ t. bytes ++ (c.receivers-receivers.ensures.text t
    ++ (c.receiver-receiver.ensures.value t ++ (c.bytes-frame.ensures.value ∙ c.frame.ensures) t))))

pub overflow_add-self-2 : goal.overflow_add-self-2
overflow_add-self-2 g c =
    let fits = room_fits c.self.inside.marks.items c.self.inside.bytes.items c.self.invariant.0 in
    let n = ap length c.receivers-receivers.ensures.text in
    omega (
      arith,
      fits,
      n,
      c.requires.short,
      c.self.invariant.1,
      c.self.inside.bytes.ok.0,
      c.self.inside.bytes.ok.1,
      c.self.inside.bytes.small,
    )

pub invariant_of-self-2 : goal.invariant_of-self-2
invariant_of-self-2 g c =
    let l = lies g c in
    let n = ap length c.receivers-receivers.ensures.text in
    (l.lies, omega (arith, l.room, c.self.invariant.1, n))

pub returns-clause-pushed : goal.returns-clause-pushed
returns-clause-pushed g c =
    (lies g c).is ∙ ap (λ rows. rows ++ c.args.row.now ∷ []) c.self.view_is
