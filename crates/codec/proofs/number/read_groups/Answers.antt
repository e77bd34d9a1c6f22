use Rattle.std.proofs.Common.{◌+◌, ◌*◌, ◌<◌, refl, arith}
use Rattle.codec.proofs.Numbers.{below_next, room_next, scale_fits, read_start, read_more}
use Rattle.codec.proofs.number.read_groups.Goals as goal

pub loop-i-init : goal.loop-i-init
loop-i-init c = (omega arith, refl, omega arith, read_start c.args.bytes.now c.args.at)

-- the sum at the last byte
pub returns-then-byte-lt128-clause-within : goal.returns-then-byte-lt128-clause-within
returns-then-byte-lt128-clause-within c =
    let l = c.loop-i in
    let n = below_next l.value l.scale c.from.result l.invariant.2 (omega arith) in
    let f = scale_fits l.i l.scale (omega arith) l.invariant.1 in
    (omega arith, omega (arith, c.in-Some.ensures.lookup.3.0), omega arith)

-- the byte that is read, less its top bit
group_below : (c : goal.After-from-in-loop-i) → c.from-in-loop-i.result < 128
group_below c = omega (arith, c.in-Some.ensures.lookup.3.1 0, c.type_inv.bytes c.loop-i.next)

-- the sum at another byte
more_fits : (c : goal.After-from-in-loop-i) → c.loop-i.value + c.from-in-loop-i.result * c.loop-i.scale < c.loop-i.scale * 128
more_fits c = below_next c.loop-i.value c.loop-i.scale c.from-in-loop-i.result c.loop-i.invariant.2 (group_below c)

pub overflow_mul-value : goal.overflow_mul-value
overflow_mul-value c = omega (arith, scale_fits c.loop-i.i c.loop-i.scale (omega arith) c.loop-i.invariant.1, more_fits c)

pub overflow_add-value : goal.overflow_add-value
overflow_add-value c = omega (arith, scale_fits c.loop-i.i c.loop-i.scale (omega arith) c.loop-i.invariant.1, more_fits c)

pub loop-i-preserved : goal.loop-i-preserved
loop-i-preserved c =
    let l = c.loop-i in
    let look = c.in-Some.ensures.lookup.3 in (
      omega arith,
      room_next l.i l.scale l.invariant.1,
      more_fits c,
      rw (c.from-in-loop-i.ensures, look.1 0) (read_more c.args.bytes.now c.args.at l.i l.value l.scale l.next (omega arith) l.invariant.3 look.0 (omega (arith, look.1 0))),
    )
