-- A turn writes the next eight packed bytes, or the next one.
use Rattle.std.proofs.Common.{◌≡◌, ◌+◌, ◌*◌, ◌<◌, length, arith}
use Rattle.bits.proofs.Packing.{packed-word, packed_byte}
use Rattle.buffers.proofs.bit.pack_bits.Goals as goal

pub loop-k-preserved : goal.loop-k-preserved
loop-k-preserved c =
    let a = c.args in
    let k = c.loop-k.k in
    let next : (k + 1) * 8 ≡ k * 8 + 8 = omega arith in
    record {
      packed =
          rw next
          (packed-word a.src.now a.out.now a.bit_offset a.n (k * 8) c.loop-k.invariant.packed c.word_from.result (omega arith) c.word_from.ensures c.write_number.ensures);
    }

pub loop-k-2-preserved : goal.loop-k-2-preserved
loop-k-2-preserved c =
    let a = c.args in
    let at = c.loop-k-2 in
    let l : at.k < length a.out.now = omega arith in
    record { packed = packed_byte a.src.now a.out.now a.bit_offset a.n at.k at.invariant.packed l (omega arith) c.byte_from.ensures }
