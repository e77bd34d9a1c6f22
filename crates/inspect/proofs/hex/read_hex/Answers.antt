use Rattle.std.proofs.Common.{◌≡◌, ◌<◌, length, get_or, ◌∙◌, arith}
use Rattle.std.proofs.lemmas.Result.{err_from_is_err_and}
use Rattle.inspect.proofs.HexSteps.{fault_step}
use Rattle.inspect.proofs.hex.read_hex.Goals as goal

pub returns-in_err-read_pair : goal.returns-in_err-read_pair
returns-in_err-read_pair c =
    let p = err_from_is_err_and c.from_residual.result c.from_residual.ensures.1 in
    let here : c.loop-character.at < length c.args.line.now = grind arith in
    let other : get_or c.args.line.now c.loop-character.at 0 ≡ 32 → ⊥ = grind arith in
    rw (p.1, p.2) (c.loop-character.invariant ∙ fault_step _ _ _ _ here other c.in_err-read_pair.ensures.value)
