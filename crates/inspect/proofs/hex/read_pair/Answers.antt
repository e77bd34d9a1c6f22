use Rattle.std.proofs.lemmas.Result.{err_from_is_err_and}
use Rattle.inspect.proofs.HexSteps.{pair_fault, pair_read}
use Rattle.inspect.proofs.hex.read_pair.Goals as goal

pub returns-in_err-low : goal.returns-in_err-low
returns-in_err-low c =
    let p = err_from_is_err_and c.from_residual-in_err-low.result c.from_residual-in_err-low.ensures.1 in
    rw (p.1, p.2) (record {
      value = pair_fault c.args.line.now c.args.at _ _ c.in_ok-high.ensures.value c.in_err-low.ensures.value;
      within = tt;
    })

pub returns : goal.returns
returns c = record {
  value = pair_read c.args.line.now c.args.at _ _ c.in_ok-high.ensures.value c.in_ok-low.ensures.value;
  within = c.in_ok-low.ensures.within.1;
}
