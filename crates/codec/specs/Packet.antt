-- Packets: their bytes, and what is read from bytes at once; assumes that bytes are below 256.
use Rattle.std.specs.Prelude.{◌≡◌, ℕ, ◌<◌, ◌≤◌, List, [], ◌++◌, length, Ok, Err, Result}
use Rattle.codec.specs.Limits.{packet_tickets, max_round}
use Rattle.codec.specs.Chain.{and_then, map_ok}
use Rattle.codec.specs.Number.{form}
use Rattle.codec.specs.TicketList.{Sound, list_bytes}
use Rattle.codec.specs.Tickets.{listed}
use Rattle.codec.specs.Reading.{mark, packet_head, count_of, list_reading, tickets_of}
use Rattle.codec.specs.declared.ticket.Ticket.{Ticket}
use Rattle.codec.specs.declared.reader.Head.{Head}
use Rattle.codec.specs.declared.reader.Head.TheVariants as hd
use Rattle.codec.specs.declared.packet.Packet.{Packet}
use Rattle.codec.specs.declared.whole.WholeFault.{WholeFault}

-- the bytes of a packet
unfoldable pub packet_bytes : ℕ → ℕ → List Ticket → List ℕ
packet_bytes bed round ts = mark ++ form bed ++ form round ++ list_bytes ts

-- what a packet may say, for a group of n beds
pub record SoundPacket (n bed round : ℕ) (ts : List Ticket) : Type 0 where
  pub bed_in : bed < n
  pub round_in : round ≤ max_round
  pub sound : Sound n packet_tickets ts

-- bytes are those of a sound packet, for a group of n beds
pub record IsPacket (n : ℕ) (bs : List ℕ) (bed round : ℕ) (ts : List Ticket) : Type 0 where
  pub sound : SoundPacket n bed round ts
  pub bytes : bs ≡ packet_bytes bed round ts

-- the head and the tickets of a packet, or the first fault
unfoldable pub packet_of : ℕ → List ℕ → Result (Head × List Ticket) WholeFault
packet_of n bs = and_then (packet_head n bs packet_tickets) (λ h next. map_ok (λ ts. (h, ts)) (tickets_of (list_reading n bs (count_of h) [] next)))

-- the head and the tickets that a packet holds
abbrev pub packet_parts : Packet → Head × List Ticket
packet_parts p = (hd.Packet p.bed p.round (length (listed p.tickets)), listed p.tickets)

-- what is read: the one sound packet that has these bytes, or that there is none
abbrev pub ReadPacket : ℕ → List ℕ → Result Packet WholeFault → Type 0
ReadPacket n bs (Ok p) = IsPacket n bs p.bed p.round (listed p.tickets)
ReadPacket n bs (Err f) = (bed round : ℕ) (ts : List Ticket) → IsPacket n bs bed round ts → ⊥
