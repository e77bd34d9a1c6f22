-- What a submit comes to, by what the record of its bed does.
use Rattle.std.proofs.Common.{◌≡◌, ℕ, ◌+◌, ◌<◌, map, length, take, set, Ok, Result, sym, ap, ◌∙◌, subst, inl, inr, arith}
use Rattle.std.proofs.lemmas.Bool.{cases_Bool, cases_lt, both_ways, or_parts}
use Rattle.codec.specs.Chain.{map_ok}
use Rattle.codec.specs.Ticket.{InRange}
use Rattle.codec.specs.TicketList.{Sound, known}
use Rattle.codec.specs.Edits.{placed}
use Rattle.codec.specs.declared.ticket.Ticket.{Ticket}
use Rattle.codec.proofs.ListEdits.{edit_laws}
use Rattle.memory.specs.Meaning.{Slots}
use Rattle.decision.specs.Meaning.{Board}
use Rattle.group.specs.Limits.{set_tickets}
use Rattle.group.specs.World.{Bed, World, bed, size}
use Rattle.group.specs.Outcome.{Answer}
use Rattle.group.specs.Calls.{SubmitDoes, ticket_of, knows, with_set}
use Rattle.group.specs.Record.{bed_of, BedSound, MakesTicket, TakesIn, record_knows, waiting_in, queued_in}
use Rattle.group.specs.Table.{world_of, no_record, record_of}
use Rattle.group.specs.declared.bed.BedRecord.{BedRecord}
use Rattle.group.specs.declared.call.Reply.TheVariants.{Submitted}
use Rattle.group.specs.declared.refusal.Refusal.{Refusal}
use Rattle.group.specs.declared.table.Table.{Table}
use Rattle.group.proofs.Moves.{in_range_from}
use Rattle.group.proofs.Tables.{table_size, table_bed, table_changed, table_unchanged, runs, Admitted}

-- a ticket of bed b is in range for any group that has the bed
pub ranged_for : (n : ℕ) (t : Ticket) → t.origin < n → InRange (t.origin + 1) t → InRange n t
ranged_for n t low r = record { paths = r.paths; origin = low; least = r.least; number = r.number; sheet = r.sheet }

-- the record after a ticket was offered is sound
pub take_sound : (n : ℕ) (t : Ticket) (r r' : BedRecord) (a : Result (Unit {0}) Refusal) → InRange n t → TakesIn t r a r' → BedSound n r → BedSound n r'
take_sound n t r r' a ranged h s =
    elim (cases_Bool (record_knows r t)) [
      | inl k ↦ subst (BedSound n) (sym (h.known k).1) s
      | inr k ↦
          elim (cases_lt (length (waiting_in r.waiting)) set_tickets) [
            | inr l ↦ subst (BedSound n) (sym (h.full k l).1) s
            | inl l ↦
                let p = h.takes k l in
                subst (BedSound n) (sym p.2)
                (record {
                  set = subst (Sound n set_tickets) (sym p.1) (edit_laws.placed_sound n set_tickets t (waiting_in r.waiting) s.set ranged (or_parts (known t (waiting_in r.waiting)) (known t (queued_in r.queue)) k).0 (omega arith));
                  queue_len = s.queue_len;
                  round = s.round;
                  waits = s.waits;
                })
          ]
    ]

module _ (t : Table) (kept : Slots) (board : Board) (b number paths sheet i : ℕ) (on : Admitted t b i) where
  takes : InRange (b + 1) (ticket_of b number paths sheet) → (a : Result (Unit {0}) Refusal) (r : BedRecord) → TakesIn (ticket_of b number paths sheet) (record_of t i) a r →
      SubmitDoes (world_of t kept board) b number paths sheet (map_ok (λ _. Submitted (ticket_of b number paths sheet)) a) (record { beds = map bed_of (take t.size.count (set t.beds i r)); kept = kept; board = board })
  takes ranged a r h =
      let job : Ticket = ticket_of b number paths sheet in
      let w : World = world_of t kept board in
      let own : BedRecord = record_of t i in
      let shows : bed w b ≡ bed_of own = table_bed t b no_record on.low ∙ ap (λ k. bed_of (record_of t k)) (sym on.place) in
      let room : length (bed w b).waiting ≡ length (waiting_in own.waiting) = ap (λ (x : Bed). length x.waiting) shows in
      runs t kept board b _ _ on.low on.on
      (inr (
        (λ out. out (ranged_for (size w) job (subst (λ k. b < k) (sym (table_size t)) on.low) ranged)),
        elim (cases_Bool (record_knows own job)) [
          | inl k ↦ inl (ap (λ (x : Bed). knows x job) shows ∙ k, (ap (map_ok (λ _. Submitted job)) (h.known k).0, table_unchanged t kept board i r (h.known k).1))
          | inr k ↦
              inr (
                (λ y. both_ways (record_knows own job) k (sym (ap (λ (x : Bed). knows x job) shows) ∙ y)),
                elim (cases_lt (length (waiting_in own.waiting)) set_tickets) [
                  | inr l ↦ inl (omega (arith, room, l), (ap (map_ok (λ _. Submitted job)) (h.full k l).0, table_unchanged t kept board i r (h.full k l).1))
                  | inl l ↦
                      let p = h.takes k l in
                      inr (
                        (λ y. omega (arith, room, l, y)),
                        (
                          ap (map_ok (λ _. Submitted job)) p.0,
                          table_changed t kept board b i r _ on.place on.low (ap bed_of p.2 ∙ ap (with_set (bed_of own)) p.1 ∙ ap (λ (x : Bed). with_set x (placed job x.waiting)) (sym shows)),
                        ),
                      )
                ],
              )
        ],
      ))

  pub submit_takes : InRange (b + 1) (ticket_of b number paths sheet) → (a : Result (Unit {0}) Refusal) (r : BedRecord) → TakesIn (ticket_of b number paths sheet) (record_of t i) a r →
      (o : Answer) → map_ok (λ _. Submitted (ticket_of b number paths sheet)) a ≡ o → SubmitDoes (world_of t kept board) b number paths sheet o (record { beds = map bed_of (take t.size.count (set t.beds i r)); kept = kept; board = board })
  submit_takes ranged a r h o e =
      subst (λ x. SubmitDoes (world_of t kept board) b number paths sheet x (record { beds = map bed_of (take t.size.count (set t.beds i r)); kept = kept; board = board })) e (takes ranged a r h)

-- a ticket that was made is in range
pub made_ranged : (t u : Ticket) (a : Result Ticket Refusal) → MakesTicket t a → a ≡ Ok u → InRange (t.origin + 1) t × (u ≡ t)
made_ranged t u a h e = let r = in_range_from (t.origin + 1) t (λ out. let f = h.refused out in let z : ◌≡◌ {A = ℕ} 0 1 = cc in omega arith) in (r, let f = h.made r in cc)
