-- The numbers of a decision service's refusals; assumes nothing.
use Rattle.std.specs.Prelude.{ℕ}
use Rattle.decision.specs.declared.refusal.DecisionRefusal.{DecisionRefusal}
use Rattle.decision.specs.declared.refusal.DecisionRefusal.TheVariants.{Size, Undecided, Limits}

abbrev pub refusal_number : DecisionRefusal → ℕ
refusal_number Size = 1
refusal_number Undecided = 14
refusal_number Limits = 17
