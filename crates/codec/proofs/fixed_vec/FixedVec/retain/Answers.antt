use Rattle.std.proofs.Common.{◌+◌, ◌<◌, true, false, ◌∷◌, [], ◌++◌, length, get_or, sym, ap, ◌∙◌, length-append, arith, of_calls}
use Rattle.std.proofs.lemmas.Fn.{called_at}
use Rattle.std.specs.Fn.{CalledAt}
use Rattle.codec.proofs.FixedVecs.{kept_more, none_more, answers_more}
use Rattle.codec.proofs.fixed_vec.FixedVec.retain.Goals.{then-test, else-test}
use Rattle.codec.proofs.fixed_vec.FixedVec.retain.Goals as goal

pub loop-item-preserved : goal.loop-item-preserved
loop-item-preserved g c =
    let R = CalledAt g.F.FnMut in
    let i = c.loop-item.invariant in
    let bs = i.2.0 in
    let xs = c.as_slice-item-items.result.now in
    let x = c.item-item.result in
    let lt : length bs < length xs = omega (arith, i.2.1) in
    let at = c.item-item.is ∙ ap (λ k. get_or xs k x) (sym i.2.1) in
    elim c.if-test.branch [
      | then-test w ↦
          (let kept = w.push.ensures in
          let longer = ap length kept in (
            search of_calls,
            rw w.self-is (simp (kept, length-append) (omega (arith, i.1))),
            (
              bs ++ true ∷ [],
              length-append bs (true ∷ []) ∙ ap (λ k. k + 1) i.2.1,
              answers_more R _ _ _ bs xs x true lt at i.2.2 (called_at g.F.FnMut c.test.ensures w.if-test.true),
              ap (λ v. v.items) w.self-is ∙ kept ∙ ap (λ l. l ++ x ∷ []) i.2.3 ∙ sym (kept_more bs xs x lt at),
            ),
          ))
      | else-test w ↦ (
        search of_calls,
        rw w.self-is (omega (arith, i.1)),
        (
          bs ++ false ∷ [],
          length-append bs (false ∷ []) ∙ ap (λ k. k + 1) i.2.1,
          answers_more R _ _ _ bs xs x false lt at i.2.2 (called_at g.F.FnMut c.test.ensures w.if-test.false),
          ap (λ v. v.items) w.self-is ∙ i.2.3 ∙ sym (none_more bs xs),
        ),
      )
    ]
