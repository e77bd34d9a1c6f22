use Rattle.std.proofs.Common.{◌≡◌, ◌+◌, ◌≤◌, length, drop}
use Rattle.group.specs.Queue.{append}
use Rattle.group.specs.Record.{queued_in}
use Rattle.group.proofs.queue.Queue.append.Given as goal

-- the tickets still to come lead to the same queue
abbrev pub invariant-loop-ticket : goal.invariant-loop-ticket
invariant-loop-ticket l =
    (length (queued_in l.self) ≤ length (queued_in l.initial.self) + l.ticket-index) × (append (queued_in l.self) (drop l.ticket-index l.batch) ≡ append (queued_in l.initial.self) l.batch)
