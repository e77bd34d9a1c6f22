-- What a value holds, and which one a batch is; assumes nothing.
use Rattle.std.specs.Prelude.{◌≡◌, ℕ, List, Some, None, Ok, Err, Option, Result}
use Rattle.codec.specs.Limits.{batch_tickets}
use Rattle.codec.specs.TicketList.{Sound}
use Rattle.codec.specs.Batch.{batch_bytes}
use Rattle.codec.specs.declared.refusal.WriteRefusal.{WriteRefusal}
use Rattle.codec.specs.declared.refusal.WriteRefusal.TheVariants.{NoForm, NoRoom}
use Rattle.codec.specs.declared.ticket.Ticket.{Ticket}
use Rattle.codec.specs.declared.value.Value.{Value}

abbrev pub value_bytes : Value → List ℕ
value_bytes v = v.bytes.items

-- what a place for a value shows
abbrev pub shown : Option Value → Option (List ℕ)
shown None = None
shown (Some v) = Some (value_bytes v)

-- a sound batch always finds room; any other list has no form
abbrev pub BatchValue : ℕ → List Ticket → Result Value WriteRefusal → Type 0
BatchValue n ts (Ok v) = Sound n batch_tickets ts × (value_bytes v ≡ batch_bytes ts)
BatchValue n ts (Err NoForm) = Sound n batch_tickets ts → ⊥
BatchValue n ts (Err NoRoom) = ⊥
