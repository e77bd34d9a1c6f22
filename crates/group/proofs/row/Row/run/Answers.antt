use Rattle.std.proofs.Common.{arith}
use Rattle.group.specs.Row.{shows}
use Rattle.group.proofs.Lives.{none_made, one_more, all_made}
use Rattle.group.proofs.row.Row.run.Goals as goal

pub loop-made-init : goal.loop-made-init
loop-made-init g c =
    let world = shows g.M.Memory.holds g.S.DecisionService.board in
    none_made g.M.Memory.named (world c.args.self.now) c.args.calls.now c.args.answers.now

pub loop-made-preserved : goal.loop-made-preserved
loop-made-preserved g c =
    let world = shows g.M.Memory.holds g.S.DecisionService.board in
    one_more g.M.Memory.named (world c.args.self.now) c.args.calls.now c.args.answers.now c.loop-made.made c.loop-made.answers (world c.loop-made.self)
    (world c.perform.new.self) c.perform.result _ c.loop-made-test.true
    (omega (arith, c.loop-made-test.true, c.loop-made.auto.answers, c.if-answers-calls.false)) c.loop-made.invariant c.perform.ensures

pub returns : goal.returns
returns g c =
    let world = shows g.M.Memory.holds g.S.DecisionService.board in
    all_made g.M.Memory.named (world c.args.self.now) c.args.calls.now c.args.answers.now c.loop-made.made c.loop-made.answers (world c.loop-made.self)
    c.if-answers-calls.false c.loop-made-test.false c.loop-made.invariant
