-- The bytes of a list, ticket by ticket, and how many they are.
use Rattle.std.proofs.Common.{◌≡◌, ℕ, zero, suc, ◌+◌, ◌*◌, ◌<◌, ◌≤◌, List, [], ◌∷◌, ◌++◌, length, get_or, drop, ap, arith}
use Rattle.std.proofs.lemmas.List.{length-append, at_drop_more}
use Rattle.codec.specs.Limits.{max_beds, batch_tickets, packet_tickets, max_batch_bytes, max_packet_bytes}
use Rattle.codec.specs.Number.{form}
use Rattle.codec.specs.Ticket.{InRange, ticket_bytes}
use Rattle.codec.specs.TicketList.{none, Each, Sound, tickets_bytes, list_bytes}
use Rattle.codec.specs.Reading.{mark}
use Rattle.codec.specs.Batch.{batch_bytes}
use Rattle.codec.specs.Packet.{SoundPacket, packet_bytes}
use Rattle.codec.specs.declared.ticket.Ticket.{Ticket}
use Rattle.codec.proofs.Numbers.{form_one, form_some}
use Rattle.codec.proofs.TicketLists.{each_weaker}
use Rattle.codec.proofs.TicketForms.{ticket_short, in_range_more}

pub each_at : (P : Ticket → Type 0) (ts : List Ticket) (i : ℕ) → Each P ts → i < length ts → P (get_or ts i none)
each_at P [] i e h = absurd (omega arith)
each_at P (t ∷ ts) zero e h = e.0
each_at P (t ∷ ts) (suc i) e h = each_at P ts i e.1 (omega arith)

-- one ticket more
pub tickets_next : (ts : List Ticket) (i : ℕ) → i < length ts → tickets_bytes (drop i ts) ≡ ticket_bytes (get_or ts i none) ++ tickets_bytes (drop (i + 1) ts)
tickets_next ts i h = at_drop_more tickets_bytes ts i none h

-- the bytes of a list from some ticket on, after those so far
module _ (was now : List ℕ) (ts : List Ticket) (i : ℕ) (h : i < length ts) (e : now ++ tickets_bytes (drop i ts) ≡ was ++ list_bytes ts) where
  pub ticket_room : (cap : ℕ) → length was + length (list_bytes ts) ≤ cap → length now + length (ticket_bytes (get_or ts i none)) ≤ cap
  ticket_room cap fits = omega (arith, simp length-append at (ap length e), ap length (tickets_next ts i h), length-append {A = ℕ})

pub tickets_short : (ts : List Ticket) → Each (InRange max_beds) ts → length (tickets_bytes ts) ≤ 8 * length ts
tickets_short [] e = omega arith
tickets_short (t ∷ ts) e = omega (arith, length-append (ticket_bytes t) (tickets_bytes ts), ticket_short t e.0, tickets_short ts e.1)

-- a count takes one byte
pub count_one : (k : ℕ) → k ≤ packet_tickets → length (form k) ≡ 1
count_one k h = ap length (form_one k (omega arith))

pub list_length : (ts : List Ticket) → length (list_bytes ts) ≡ length (form (length ts)) + length (tickets_bytes ts)
unfolding list_bytes
list_length ts = length-append (form (length ts)) (tickets_bytes ts)

pub list_short : (ts : List Ticket) → Each (InRange max_beds) ts → length ts ≤ packet_tickets → length (list_bytes ts) ≤ 1 + 8 * length ts
list_short ts e h = omega (arith, list_length ts, count_one (length ts) h, tickets_short ts e)

-- the tickets of a sound list are in range for the largest group
pub sound_ranged : (n most : ℕ) (ts : List Ticket) → n ≤ max_beds → Sound n most ts → Each (InRange max_beds) ts
sound_ranged n most ts h s = each_weaker (InRange n) (InRange max_beds) (λ t r. in_range_more n max_beds t h r) ts s.ranged

pub packet_length : (bed round : ℕ) (ts : List Ticket) → length (packet_bytes bed round ts) ≡ length mark + length (form bed) + length (form round) + length (list_bytes ts)
unfolding packet_bytes
packet_length bed round ts = simp length-append

-- a batch has 1 to 65 bytes
pub batch_some : (ts : List Ticket) → 1 ≤ length (batch_bytes ts)
batch_some ts = let l = list_length ts in let s = form_some (length ts) in omega arith

pub batch_short : (n : ℕ) (ts : List Ticket) → n ≤ max_beds → Sound n batch_tickets ts → length (batch_bytes ts) ≤ max_batch_bytes
batch_short n ts h s = omega (arith, list_short ts (sound_ranged n batch_tickets ts h s) (omega (arith, s.few)), s.few)

-- a packet has 7 to 135 bytes
pub packet_some : (bed round : ℕ) (ts : List Ticket) → 7 ≤ length (packet_bytes bed round ts)
packet_some bed round ts = omega (arith, packet_length bed round ts, form_some bed, form_some round, batch_some ts)

pub packet_short : (n bed round : ℕ) (ts : List Ticket) → n ≤ max_beds → SoundPacket n bed round ts → length (packet_bytes bed round ts) ≤ max_packet_bytes
packet_short n bed round ts h s =
    let l = packet_length bed round ts in
    let b = ap length (form_one bed (omega (arith, s.bed_in))) in
    let r = ap length (form_one round (omega (arith, s.round_in))) in
    let t = list_short ts (sound_ranged n packet_tickets ts h s.sound) s.sound.few in
    omega (arith, s.sound.few)

-- the parts of a packet fit into its longest form
pub packet_fits : (n bed round : ℕ) (ts : List Ticket) → n ≤ max_beds → SoundPacket n bed round ts
    → length mark + length (form bed) + length (form round) + length (list_bytes ts) ≤ max_packet_bytes
packet_fits n bed round ts h s = let l = packet_length bed round ts in let f = packet_short n bed round ts h s in omega arith
