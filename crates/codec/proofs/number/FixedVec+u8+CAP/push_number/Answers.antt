use Rattle.std.proofs.Common.{◌++◌, length, sym, ap, arith, rules, length-append}
use Rattle.codec.specs.Limits.{number_bytes}
use Rattle.codec.proofs.Numbers.{form_is, groups_some}
use Rattle.codec.proofs.number.FixedVec+u8+CAP.push_number.Goals as goal

pub loop-rest-init : goal.loop-rest-init
loop-rest-init g c = (number_bytes, omega arith, omega arith, ap (λ l. c.args.self.now.items ++ l) (sym (form_is c.args.value)))

pub push-requires : goal.push-requires
push-requires g c =
    let i = c.loop-rest.invariant in
    let some = groups_some i.0 c.loop-rest.rest i.1 in
    (search rules, omega (arith, simp length-append at (ap length i.3)))
