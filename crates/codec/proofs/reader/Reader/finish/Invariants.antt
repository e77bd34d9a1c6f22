use Rattle.std.proofs.Common.{◌≡◌}
use Rattle.codec.specs.Reading.{remaining, part_count}
use Rattle.codec.proofs.Wholes.{all_of}
use Rattle.codec.proofs.reader.Reader.finish.Given as goal

abbrev pub invariant-loop : goal.invariant-loop
invariant-loop l = all_of l.self ≡ all_of l.initial.self

abbrev pub decreases-loop : goal.decreases-loop
decreases-loop l = part_count (remaining l.self)
