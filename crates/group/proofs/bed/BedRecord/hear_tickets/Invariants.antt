use Rattle.std.proofs.Common.{◌≡◌, ◌+◌, ◌≤◌, drop}
use Rattle.group.specs.Hearing.{unheard, hear_all}
use Rattle.group.specs.Record.{waiting_in, queued_in, hearing_of, with_waiting}
use Rattle.group.proofs.bed.BedRecord.hear_tickets.Given as goal

-- the tickets still to come lead to the same set and counts
abbrev pub invariant-loop-ticket : goal.invariant-loop-ticket
invariant-loop-ticket l =
    (hear_all (queued_in l.initial.self.queue) (hearing_of l.self l.heard) (drop l.ticket-index l.tickets) ≡ hear_all (queued_in l.initial.self.queue) (unheard (waiting_in l.initial.self.waiting)) l.tickets)
    × (l.heard.taken + l.heard.full ≤ l.ticket-index)
    × (l.self ≡ with_waiting l.initial.self l.self.waiting)
