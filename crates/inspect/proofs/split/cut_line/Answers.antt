use Rattle.std.proofs.Common.{◌≡◌, ◌≢◌, ℕ, ◌+◌, Some, None, length, take, drop, sym, ap, ◌∙◌, rules, arith}
use Rattle.std.proofs.lemmas.List.{take_rest, take_all, drop_all}
use Rattle.std.proofs.lemmas.Iterator.{YieldsList-from_slice, IsFirst-from_position}
use borrow.Author.Tests.{tests}
use Rattle.inspect.specs.Split.{end_of}
use Rattle.inspect.proofs.SplitSteps.{end_found}
use Rattle.inspect.proofs.split.cut_line.Goals as goal

pub returns-in-Some : goal.returns-in-Some
returns-in-Some c =
    let cs = c.args.text.now in
    let first = IsFirst-from_position _ _ _ (λ x. x ≡ 10) (λ x. x ≢ 10) c.in-Some.ensures.ran (YieldsList-from_slice cs cc) (λ x q k. search (rules, tests)) (λ x q k. search (rules, tests)) in
    let e : end_of cs ≡ c.in-Some.end = end_found cs (Some c.in-Some.end) first in
    record {
      line = ap (λ (n : ℕ). take n cs) (sym e);
      rest = take_rest cs (c.in-Some.end + 1) ∙ ap (λ (n : ℕ). drop (n + 1) cs) (sym e);
    }

pub returns-in-None : goal.returns-in-None
returns-in-None c =
    let cs = c.args.text.now in
    let first = IsFirst-from_position _ _ _ (λ x. x ≡ 10) (λ x. x ≢ 10) c.in-None.ensures.ran (YieldsList-from_slice cs cc) (λ x q k. search (rules, tests)) (λ x q k. search (rules, tests)) in
    let e : end_of cs ≡ length cs = end_found cs None first in
    record { line = sym (take_all (end_of cs) cs (omega arith)); rest = sym (drop_all (end_of cs + 1) cs (omega arith)) }
