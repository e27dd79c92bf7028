-- A count of bits is at most 8 for each byte, so each sum fits.
use Rattle.std.proofs.Common.{ℕ, ◌≡◌, ◌+◌, ◌-◌, ◌*◌, ◌/◌, ap, arith}
use lib.Count.{ones, ones-le}
use lib.ListN.{length}
use Rattle.bits.specs.Routines.{set_bits}
use Rattle.bits.proofs.Words.{set_bits-le, set_bits-more}
use Rattle.buffers.proofs.bit.count_set_bits.Goals as goal

pub loop-k-init : goal.loop-k-init
loop-k-init c = record { counted = omega (arith, set_bits-le 0 c.args.buf.now) }

pub overflow_add-t : goal.overflow_add-t
overflow_add-t c = omega (arith, ones-le 64 c.read_number.result c.read_number.type_inv, set_bits-le (c.loop-k.k * 8) c.args.buf.now)

pub loop-k-preserved : goal.loop-k-preserved
loop-k-preserved c =
    let k = c.loop-k.k in
    let next : (k + 1) * 8 ≡ k * 8 + 8 = omega arith in
    record { counted = rw next (omega (arith, set_bits-more 8 (k * 8) c.args.buf.now c.type_inv.buf (omega arith), ap ones c.read_number.ensures)) }

pub overflow_add-result : goal.overflow_add-result
overflow_add-result c = omega (arith, ones-le 64 c.read_rest-rest.result c.read_rest-rest.type_inv, set_bits-le (c.loop-k.k * 8) c.args.buf.now)

pub returns : goal.returns
returns c =
    let s = c.args.buf.now in
    let k = length s / 8 * 8 in
    let end : c.loop-k.k * 8 ≡ k = omega arith in
    let all : k + (length s - k) ≡ length s = omega arith in
    let more = set_bits-more (length s - k) k s c.type_inv.buf (omega arith) in
    omega (arith, c.loop-k.invariant.counted, ap (λ (n : ℕ). set_bits n s) end, ap ones c.read_rest-rest.ensures, more, ap (λ (n : ℕ). set_bits n s) all)
