-- Validity: as long as beds hear only what beds sent, every queued ticket was submitted; assumes nothing.
use Rattle.std.specs.Prelude.{◌≡◌, ℕ, List, ◌∷◌, ◌++◌, Some, None, Ok, Option}
use Rattle.codec.specs.declared.ticket.Ticket.{Ticket}
use Rattle.group.specs.World.{World}
use Rattle.group.specs.Calls.{sent_bytes}
use Rattle.group.specs.History.{Event, History, Accepted, after, Earlier}
use Rattle.group.specs.Agreement.{Shows}
use Rattle.group.specs.declared.call.Call.{Call}
use Rattle.group.specs.declared.call.Call.TheVariants as call
use Rattle.group.specs.declared.call.Reply.TheVariants as rp
use Rattle.group.specs.declared.call.SentPacket.{SentPacket}

-- an accepted submit took exactly this ticket: the bed is its origin, and number, paths and sheet are the same
pub record SubmittedBy (t : Ticket) (e : Event) : Type 0 where
  pub call : e.call ≡ call.Submit t.origin t.number t.paths t.sheet
  pub accepted : Accepted e.answer

-- an accepted send wrote exactly these bytes
pub record WrittenBy (bytes : List ℕ) (e : Event) : Type 0 where
  pub bed : ℕ
  pub room : ℕ
  pub call : e.call ≡ call.Send bed room
  pub packet : SentPacket
  pub answer : e.answer ≡ Ok (rp.Sent packet)
  pub same : sent_bytes packet ≡ bytes

-- the bytes that a call has a bed hear
abbrev pub heard_bytes : Call → Option (List ℕ)
heard_bytes (call.Hear b bytes) = Some bytes.now
heard_bytes (call.Start b) = None
heard_bytes (call.Submit b number paths sheet) = None
heard_bytes (call.Send b room) = None
heard_bytes (call.Propose b) = None
heard_bytes (call.Trip b «at» junk) = None
heard_bytes (call.Collect b) = None
heard_bytes (call.Off b) = None

-- every packet that was heard and accepted was written by an earlier send
abbrev pub OnlySentHeard : History → Type 0
OnlySentHeard h =
    (past rest : History) (e : Event) (bytes : List ℕ) → h ≡ past ++ (e ∷ rest) →
    heard_bytes e.call ≡ Some bytes → Accepted e.answer → Earlier past (WrittenBy bytes)

abbrev pub Validity : World → History → Type 0
Validity w h =
    (past rest : History) → h ≡ past ++ rest → OnlySentHeard past →
    (b place : ℕ) (t : Ticket) → Shows (after w past) b place t → Earlier past (SubmittedBy t)
