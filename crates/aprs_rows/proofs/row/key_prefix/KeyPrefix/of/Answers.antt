use Rattle.aprs_rows.proofs.Common.{◌≡◌, ◌<◌, ◌%◌, ℕ, List, sym, ap, length, take, drop, arith, subst, slice_index}
use Rattle.aprs_ax25.specs.FrameRef.{frame_bytes}
use Rattle.aprs_rows.proofs.KeyPrefixes.{two_addresses, head_made, source_even, destination_even}
use Rattle.aprs_rows.proofs.row.key_prefix.KeyPrefix.of.Goals as goal

pub slice_bounds-call_number-end : goal.slice_bounds-call_number-end
slice_bounds-call_number-end c =
    let n = two_addresses (frame_bytes c.args.frame.now) c.bytes-bytes.ensures.frame in
    omega (arith, n, ap length c.bytes-bytes.ensures.value)

pub call_number-requires-clause-even : goal.call_number-requires-clause-even
call_number-requires-clause-even c =
    subst (λ (l : List ℕ). (i : ℕ) → i < 6 → slice_index (take 8 (drop 7 l)) i % 2 ≡ 0)
    (sym c.bytes-bytes.ensures.value)
    (source_even (frame_bytes c.args.frame.now) c.bytes-bytes.ensures.frame)

pub call_number-requires-2-clause-even : goal.call_number-requires-2-clause-even
call_number-requires-2-clause-even c =
    subst (λ (l : List ℕ). (i : ℕ) → i < 6 → slice_index (take 8 l) i % 2 ≡ 0)
    (sym c.bytes-bytes.ensures.value)
    (destination_even (frame_bytes c.args.frame.now) c.bytes-bytes.ensures.frame)

pub returns : goal.returns
returns c = record {
  frame = c.bytes-bytes.ensures.frame;
  bytes = subst (λ (l : List ℕ). (i : ℕ) → slice_index l i < 256) c.info.ensures.value
      c.info_number.ensures.bytes;
  head = head_made (frame_bytes c.args.frame.now) c.bytes-bytes.ensures.frame
      c.bytes-bytes.result.now c.info.result.now
      c.call_number.result c.call_number-2.result c.info_number.result c.bytes-bytes.ensures.value
      c.info.ensures.value c.call_number.ensures c.call_number-2.ensures
      c.info_number.ensures.value;
}
