use Rattle.std.proofs.Common.{◌≡◌, ◌+◌, ◌*◌, ◌≤◌, string_bytes}
use Rattle.inspect.specs.Image.{beds_text, empty_of_beds}
use Rattle.inspect.proofs.ImageSteps.{text_to, empty_to}
use Rattle.inspect.proofs.image.memory_text.Given as goal

-- what the beds so far came to
abbrev pub invariant-loop-bed : goal.invariant-loop-bed
invariant-loop-bed g l = record {
  text : string_bytes l.text ≡ beds_text l.beds.count (g.M.Memory.holds l.memory) l.bed;
  empty : l.empty ≡ empty_of_beds (g.M.Memory.holds l.memory) l.bed;
  few : l.empty ≤ 32 * l.bed;
}

-- and what the slots of this bed so far came to
abbrev pub invariant-loop-slot : goal.invariant-loop-slot
invariant-loop-slot g l = record {
  text : string_bytes l.text ≡ text_to l.beds.count (g.M.Memory.holds l.memory) l.bed l.slot;
  empty : l.empty ≡ empty_to (g.M.Memory.holds l.memory) l.bed l.slot;
  few : l.empty ≤ 32 * l.bed + l.slot;
}
