-- The numbers of a memory's refusals; assumes nothing.
use Rattle.std.specs.Prelude.{ℕ}
use Rattle.memory.specs.declared.refusal.MemoryRefusal.{MemoryRefusal}
use Rattle.memory.specs.declared.refusal.MemoryRefusal.TheVariants.{Cells, Limits, Differs}

abbrev pub refusal_number : MemoryRefusal → ℕ
refusal_number Cells = 16
refusal_number Limits = 17
refusal_number Differs = 18
