-- What a send comes to, by what is written.
use Rattle.std.proofs.Common.{◌≡◌, ℕ, ◌<◌, ◌≤◌, List, ◌++◌, length, take, drop, Ok, Err, Result, sym, refl, ap, ◌∙◌, subst, inl, inr, arith, take_at}
use Rattle.codec.specs.Limits.{max_packet_bytes}
use Rattle.codec.specs.Limits.{packet_tickets}
use Rattle.codec.specs.Packet.{packet_bytes, SoundPacket}
use Rattle.codec.specs.TicketList.{Sound}
use Rattle.codec.specs.Write.{Wrote}
use Rattle.codec.specs.declared.refusal.WriteRefusal.{WriteRefusal}
use Rattle.codec.specs.declared.refusal.WriteRefusal.TheVariants as wr
use Rattle.group.specs.declared.refusal.Refusal.TheVariants as rf
use Rattle.codec.specs.declared.ticket.Ticket.{Ticket}
use Rattle.memory.specs.Meaning.{Slots}
use Rattle.decision.specs.Meaning.{Board}
use Rattle.group.specs.World.{Bed, bed, size}
use Rattle.group.specs.Calls.{SendDoes, own_packet, sent_answer, sent_bytes, sent_packet}
use Rattle.std.proofs.ByRecursion.{All-get_or}
use Rattle.group.specs.Record.{BedSound, bed_of, waiting_in}
use Rattle.group.specs.Table.{world_of, no_record, record_of}
use Rattle.group.specs.declared.call.Reply.TheVariants.{Sent}
use Rattle.group.specs.declared.bed.Phase.TheVariants.{Off}
use Rattle.group.specs.declared.call.SentPacket.{SentPacket}
use Rattle.group.specs.declared.refusal.Refusal.{Refusal}
use Rattle.group.specs.declared.table.Table.{Table}
use Rattle.codec.proofs.FormLaws.{packet_laws}
use Rattle.group.proofs.Moves.{not_le}
use Rattle.group.proofs.Tables.{table_size, table_bed, in_table, unsound, bounded, runs, Admitted}

module _ (t : Table) (kept : Slots) (board : Board) (b i : ℕ) (on : Admitted t b i) (ts : List Ticket) (same : ts ≡ waiting_in (record_of t i).waiting) where
  shows : bed (world_of t kept board) b ≡ bed_of (record_of t i)
  shows = table_bed t b no_record on.low ∙ ap (λ k. bed_of (record_of t k)) (sym on.place)

  pub own_packet_lem : own_packet (world_of t kept board) b ≡ packet_bytes b (record_of t i).round ts
  own_packet_lem = ap (λ (x : Bed). packet_bytes b x.round x.waiting) shows ∙ ap (packet_bytes b (record_of t i).round) (sym same)

  pub send_fills : (was buffer : List ℕ) (len : ℕ) → len ≡ length (packet_bytes b (record_of t i).round ts) → len ≤ length was → buffer ≡ packet_bytes b (record_of t i).round ts ++ drop len was →
      SendDoes (world_of t kept board) b (length was) (Ok (Sent (sent_packet (take len buffer)))) (world_of t kept board)
  send_fills was buffer len e l f =
      runs t kept board b _ _ on.low on.on
      (inr (
        (λ k. omega (arith, ap (λ (p : List ℕ). length p) own_packet_lem, e, l, k)),
        record {
          packet = sent_packet (take len buffer);
          bytes = ap (take len) f ∙ take_at (packet_bytes b (record_of t i).round ts) (drop len was) len (sym e) ∙ sym own_packet_lem;
          answer = refl;
          after = refl;
        },
      ))

  -- what a write of the packet comes to: it has a form, so only the room can be missing
  pub send_ends : (was buffer : List ℕ) (r : Result ℕ WriteRefusal) (a : Result ℕ Refusal) → Wrote (SoundPacket t.size.count b (record_of t i).round ts) (packet_bytes b (record_of t i).round ts) was r buffer →
      ((len : ℕ) → r ≡ Ok len → a ≡ Ok len) → ((e : WriteRefusal) → r ≡ Err e → a ≡ Err rf.NoRoom) → SendDoes (world_of t kept board) b (length was) (sent_answer a buffer) (world_of t kept board)
  send_ends was buffer (Ok len) a w ok err = subst (λ x. SendDoes (world_of t kept board) b (length was) (sent_answer x buffer) (world_of t kept board)) (sym (ok len refl)) (send_fills was buffer len w.1 w.2 w.3)
  send_ends was buffer (Err wr.NoForm) a w ok err =
      absurd (unsound t (λ all.
      let s = All-get_or (BedSound t.size.count) t.beds i no_record on.inside all in
      w.0 (record { bed_in = on.low; round_in = s.round; sound = subst (Sound t.size.count packet_tickets) (sym same) s.set })))
  send_ends was buffer (Err wr.NoRoom) a w ok err =
      subst (λ x. SendDoes (world_of t kept board) b (length was) (sent_answer x buffer) (world_of t kept board)) (sym (err wr.NoRoom refl))
      (runs t kept board b _ _ on.low on.on (inl (subst (λ (v : List ℕ). length was < length v) (sym own_packet_lem) w.1, (refl, refl))))

-- ---- more room than any packet needs

-- a bed's packet is never longer than a packet can be
packet_short : (t : Table) (kept : Slots) (board : Board) (b : ℕ) → b < t.size.count → length (own_packet (world_of t kept board) b) ≤ max_packet_bytes
packet_short t kept board b low =
    subst (λ (x : Bed). length (packet_bytes b x.round x.waiting) ≤ max_packet_bytes) (sym (table_bed t b no_record low))
    (bounded t b _ _ (in_table t b low) (λ s.
    packet_laws.short t.size.count b (record_of t b).round (waiting_in (record_of t b).waiting) t.size.most (record { bed_in = low; round_in = s.round; sound = s.set })))

module _ (t : Table) (kept : Slots) (board : Board) (b room : ℕ) where
  -- a buffer for any packet never lacks room
  pub send_refuses : (e : Refusal) → SendDoes (world_of t kept board) b max_packet_bytes (Err e) (world_of t kept board) → SendDoes (world_of t kept board) b room (Err e) (world_of t kept board)
  send_refuses e (inl h) = inl h
  send_refuses e (inr (x, inl h)) = inr (x, inl h)
  send_refuses e (inr (x, inr (y, inl h))) = absurd (omega (arith, h.0, packet_short t kept board b (subst (λ n. b < n) (table_size t) (not_le (size (world_of t kept board)) b x))))
  send_refuses e (inr (x, inr (y, inr h))) = let f = h.1.answer in let z : ◌≡◌ {A = ℕ} 0 1 = cc in absurd (omega arith)

  -- a packet that was written to such a buffer
  record Written (p : SentPacket) : Type 0 where
    in_group : size (world_of t kept board) ≤ b → ⊥
    runs_on : (bed (world_of t kept board) b).phase ≡ Off → ⊥
    bytes : sent_bytes p ≡ own_packet (world_of t kept board) b
    long : length (own_packet (world_of t kept board) b) ≡ length (sent_bytes p)

  written : (p : SentPacket) → SendDoes (world_of t kept board) b max_packet_bytes (Ok (Sent p)) (world_of t kept board) → Written p
  written p (inl h) = let f = h.1.0 in let z : ◌≡◌ {A = ℕ} 0 1 = cc in absurd (omega arith)
  written p (inr (x, inl h)) = let f = h.1.0 in let z : ◌≡◌ {A = ℕ} 0 1 = cc in absurd (omega arith)
  written p (inr (x, inr (y, inl h))) = let f = h.1.0 in let z : ◌≡◌ {A = ℕ} 0 1 = cc in absurd (omega arith)
  written p (inr (x, inr (y, inr h))) =
      let f = h.1.answer in
      let same : p ≡ h.1.packet = cc in
      let bytes = ap sent_bytes same ∙ h.1.bytes in
      record { in_group = x; runs_on = y; bytes = bytes; long = ap (λ (v : List ℕ). length v) (sym bytes) }
