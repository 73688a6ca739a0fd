-- The order of copies of messages.
use Rattle.aprs_lists.proofs.Common.{◌≡◌, ℕ, List, Option, None, Some, ap, refl, subst, sym, Bor, call_cmp, call_total, bytes_cmp, nat_cmp, nat_cmp_total, IsTotalOrder, IsSortedBy, IsUpTo, Ordered, Ordering, is_lt, on, on_total, then_total, options_total, option_cmp, option_map, ordering_then}
use Rattle.aprs_lists.specs.Copies.{Copy, copy_cmp, copy_of}
use Rattle.aprs_summary.proofs.Messages.{message_total}
use Rattle.aprs_lists.specs.declared.net.copies.MessageCopy.{MessageCopy}
use Rattle.aprs_lists.proofs.Orders.{sorted_ordered}

pub copy_total : IsTotalOrder copy_cmp
copy_total =
    then_total (on_total (λ (c : Copy). c.message) message_total)
    (then_total (on_total (λ (c : Copy). c.first) nat_cmp_total)
    (then_total (on_total (λ (c : Copy). c.gate) (options_total call_total))
    (on_total (λ (c : Copy). c.last) nat_cmp_total)))

-- ---- the order that code has

ids_alike : (p q : Option (Bor (List ℕ)))
    → option_cmp (λ (x y : Bor (List ℕ)). bytes_cmp x.now y.now) p q
    ≡ option_cmp bytes_cmp (option_map (λ x. x.now) p) (option_map (λ x. x.now) q)
ids_alike None None = refl
ids_alike None (Some y) = refl
ids_alike (Some x) None = refl
ids_alike (Some x) (Some y) = refl

pub copies_alike : (x y : MessageCopy)
    → ordering_then
    (ordering_then (call_cmp x.message.source y.message.source)
    (ordering_then (bytes_cmp x.message.addressee.now y.message.addressee.now)
    (ordering_then (bytes_cmp x.message.text.now y.message.text.now)
    (option_cmp (λ (a b : Bor (List ℕ)). bytes_cmp a.now b.now) x.message.id y.message.id))))
    (ordering_then (nat_cmp x.first y.first)
    (ordering_then (option_cmp call_cmp x.gate y.gate) (nat_cmp x.last y.last)))
    ≡ copy_cmp (copy_of x) (copy_of y)
copies_alike x y =
    ap (λ o. ordering_then
    (ordering_then (call_cmp x.message.source y.message.source)
    (ordering_then (bytes_cmp x.message.addressee.now y.message.addressee.now)
    (ordering_then (bytes_cmp x.message.text.now y.message.text.now) o)))
    (ordering_then (nat_cmp x.first y.first)
    (ordering_then (option_cmp call_cmp x.gate y.gate) (nat_cmp x.last y.last))))
    (ids_alike x.message.id y.message.id)

pub copies_sorted : (R : MessageCopy → MessageCopy → Ordering)
    → ((a b : MessageCopy) → R a b ≡ copy_cmp (copy_of a) (copy_of b))
    → (xs : List MessageCopy) → IsSortedBy (λ x y. is_lt (R x y)) xs
    → Ordered (IsUpTo (on copy_of copy_cmp)) xs
copies_sorted R same xs up =
    let p : on copy_of copy_cmp ≡ R = λ j a b. sym (same a b) j in
    sorted_ordered (on_total copy_of copy_total) xs
    (subst (λ (Q : MessageCopy → MessageCopy → Ordering). IsSortedBy (λ x y. is_lt (Q x y)) xs)
    (sym p) up)
