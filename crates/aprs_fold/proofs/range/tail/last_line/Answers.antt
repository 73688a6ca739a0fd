use Rattle.std.proofs.Common.{arith}
use Rattle.aprs_fold.proofs.Lent.{ends_whole}
use Rattle.aprs_fold.proofs.Lines.{given_at, given_len, iff_any}
use Rattle.aprs_fold.proofs.range.tail.last_line.Goals as goal

pub returns-clause-ends : goal.returns-clause-ends
returns-clause-ends g c = iff_any c.checked_sub.result _ (λ bytes known size.
    let room = c.read_at.new.buf in
    let n = c.in_ok-count.count in
    let bound = given_len c.read_at.result room n c.in_ok-count.ensures.value
    c.read_at.ensures.bound in
    ends_whole bytes c.args.size c.saturating_sub-at.result n room
    (given_at _ bytes c.saturating_sub-at.result c.read_at.result room n known
    c.in_ok-count.ensures.value c.read_at.ensures.gives) bound size (omega arith) (omega arith)
    c.in_ok-len.ensures)
