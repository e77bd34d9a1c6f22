use Rattle.std.proofs.Common.{◌≡◌, ◌++◌, string_bytes}
use Rattle.codec.specs.Reading.{part_count, remaining}
use Rattle.inspect.specs.Answer.{parts_text}
use Rattle.inspect.proofs.answer.parts_text.Given as goal

-- what was written, and what is still to come
abbrev pub invariant-loop-head : goal.invariant-loop-head
invariant-loop-head l = string_bytes l.text ++ parts_text l.length (remaining l.reader) ≡ parts_text l.length (remaining l.initial.reader)

abbrev pub decreases-loop-head : goal.decreases-loop-head
decreases-loop-head l = part_count (remaining l.reader)
