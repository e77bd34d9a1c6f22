-- The laws above the definitions, in the subject's words.
use Rattle.std.specs.Prelude.{◌≡◌, ℕ, ◌+◌, ◌<◌, ◌≤◌, Bool, true, false, ◌||◌, ◌⊎◌, List, ◌++◌, length, take, drop, Ok}
use Rattle.codec.specs.Limits.{max_beds, number_end, number_bytes, batch_tickets, max_batch_bytes, max_packet_bytes}
use Rattle.codec.specs.Number.{form, number_at, Bytes, group_value, Continued}
use Rattle.codec.specs.Ticket.{same_identity, stands_before, InRange}
use Rattle.codec.specs.TicketList.{Sound, known}
use Rattle.codec.specs.Reading.{head, mark, batch_reading, packet_reading, parts_at}
use Rattle.codec.specs.Batch.{batch_bytes, IsBatch, batch_of}
use Rattle.codec.specs.Packet.{packet_bytes, SoundPacket, IsPacket, packet_of}
use Rattle.std.specs.List.{filter}
use Rattle.codec.specs.Edits.{placed}
use Rattle.codec.specs.declared.reader.Head.TheVariants as hd
use Rattle.codec.specs.declared.ticket.Ticket.{Ticket}

-- a number's form is its shortest in LEB128, and reading and writing undo each other
pub record NumberLaws : Type 0 where
  pub value : (v : ℕ) → v < number_end → group_value (form v) ≡ v
  pub continued : (v : ℕ) → v < number_end → Continued (form v)
  pub shortest : (v : ℕ) (bs : List ℕ) → v < number_end → 0 < length bs → group_value bs ≡ v → length (form v) ≤ length bs
  pub short : (v : ℕ) → length (form v) ≤ number_bytes
  -- what is written is read again, wherever it stands
  pub back : (bs : List ℕ) (at v : ℕ) (post : List ℕ) → v < number_end → drop at bs ≡ form v ++ post → number_at bs at ≡ Ok (v, at + length (form v))
  -- what is read stands there in its form
  pub only : (bs : List ℕ) (at v next : ℕ) → Bytes bs → number_at bs at ≡ Ok (v, next) → (v < number_end) × (drop at bs ≡ form v ++ drop next bs)

-- batches: for every group, reading and writing undo each other, and no two have the same bytes
pub record BatchLaws : Type 0 where
  -- what is written is read again, part by part
  pub back : (n : ℕ) (ts : List Ticket) → n ≤ max_beds → Sound n batch_tickets ts
      → batch_reading n (batch_bytes ts) ≡ head (hd.Batch (length ts)) (parts_at (length (form (length ts))) ts)
  -- what is accepted is the bytes of the sound list that is read, and the bytes of a sound list are accepted
  pub only : (n : ℕ) (bs : List ℕ) (ts : List Ticket) → Bytes bs → batch_of n bs ≡ Ok ts → IsBatch n bs ts
  pub whole : (n : ℕ) (bs : List ℕ) (ts : List Ticket) → n ≤ max_beds → IsBatch n bs ts → batch_of n bs ≡ Ok ts
  pub one : (n : ℕ) (ts us : List Ticket) → n ≤ max_beds → Sound n batch_tickets ts → Sound n batch_tickets us → batch_bytes ts ≡ batch_bytes us → ts ≡ us
  pub some : (ts : List Ticket) → 1 ≤ length (batch_bytes ts)
  pub short : (n : ℕ) (ts : List Ticket) → n ≤ max_beds → Sound n batch_tickets ts → length (batch_bytes ts) ≤ max_batch_bytes

-- packets: the same with their head
pub record PacketLaws : Type 0 where
  pub back : (n bed round : ℕ) (ts : List Ticket) → n ≤ max_beds → SoundPacket n bed round ts
      → packet_reading n (packet_bytes bed round ts)
      ≡ head (hd.Packet bed round (length ts)) (parts_at (length mark + length (form bed) + length (form round) + length (form (length ts))) ts)
  pub only : (n : ℕ) (bs : List ℕ) (bed round count : ℕ) (ts : List Ticket) → Bytes bs → packet_of n bs ≡ Ok (hd.Packet bed round count, ts) → (count ≡ length ts) × IsPacket n bs bed round ts
  pub whole : (n : ℕ) (bs : List ℕ) (bed round : ℕ) (ts : List Ticket) → n ≤ max_beds → IsPacket n bs bed round ts → packet_of n bs ≡ Ok (hd.Packet bed round (length ts), ts)
  pub one : (n bed round bed' round' : ℕ) (ts us : List Ticket) → n ≤ max_beds → SoundPacket n bed round ts → SoundPacket n bed' round' us
      → packet_bytes bed round ts ≡ packet_bytes bed' round' us → (bed ≡ bed') × (round ≡ round') × (ts ≡ us)
  pub some : (bed round : ℕ) (ts : List Ticket) → 7 ≤ length (packet_bytes bed round ts)
  pub short : (n bed round : ℕ) (ts : List Ticket) → n ≤ max_beds → SoundPacket n bed round ts → length (packet_bytes bed round ts) ≤ max_packet_bytes

-- identity is an equivalence, and ticket order a strict order that is total on tickets of different identities
pub record OrderLaws : Type 0 where
  pub same_itself : (t : Ticket) → same_identity t t ≡ true
  pub same_back : (s t : Ticket) → same_identity s t ≡ same_identity t s
  pub same_through : (s t u : Ticket) → same_identity s t ≡ true → same_identity t u ≡ true → same_identity s u ≡ true
  pub not_before_itself : (t : Ticket) → stands_before t t ≡ false
  pub before_through : (s t u : Ticket) → stands_before s t ≡ true → stands_before t u ≡ true → stands_before s u ≡ true
  pub one_before : (s t : Ticket) → same_identity s t ≡ false → (stands_before s t ≡ true) ⊎ (stands_before t s ≡ true)

-- what keeps a list sound
pub record EditLaws : Type 0 where
  -- one more in its place: it is there, the others are there as before, and nothing else is
  pub placed_sound : (n most : ℕ) (t : Ticket) (ts : List Ticket) → Sound n most ts → InRange n t → known t ts ≡ false → length ts < most → Sound n most (placed t ts)
  pub placed_known : (u t : Ticket) (ts : List Ticket) → known u (placed t ts) ≡ (same_identity t u || known u ts)
  pub placed_length : (t : Ticket) (ts : List Ticket) → length (placed t ts) ≡ length ts + 1
  -- the first k
  pub first_sound : (n most k : ℕ) (ts : List Ticket) → Sound n most ts → Sound n k (take k ts)
  -- those that pass a test
  pub passing_sound : (n most : ℕ) (test : Ticket → Bool) (ts : List Ticket) → Sound n most ts → Sound n most (filter test ts)
