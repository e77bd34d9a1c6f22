-- The law of the queue, whole, and what holds of every history besides; assumes nothing.
use Rattle.std.specs.Prelude.{◌≡◌, ℕ, ◌≤◌, List, [], ◌∷◌, ◌++◌, length, Err, ◌≢◌}
use Rattle.codec.specs.TicketList.{Sound}
use Rattle.codec.specs.declared.ticket.Ticket.{Ticket}
use Rattle.codec.specs.declared.whole.SitedFault.{SitedFault}
use Rattle.codec.specs.declared.whole.Source.TheVariants as so
use Rattle.memory.specs.declared.refusal.MemoryRefusal.{MemoryRefusal}
use Rattle.group.specs.Limits.{set_tickets, queue_tickets}
use Rattle.group.specs.World.{World, bed, size, Running}
use Rattle.group.specs.History.{Event, History, Accepted, New, Lived, after}
use Rattle.group.specs.Agreement.{Agreement}
use Rattle.group.specs.Recovery.{Recovery, last_queue}
use Rattle.group.specs.Validity.{Validity}
use Rattle.group.specs.Delivery.{Delivery, Ripe}
use Rattle.group.specs.declared.refusal.Refusal.TheVariants as rf

pub record Law (w : World) (h : History) : Type 0 where
  pub agreement : Agreement w h
  pub recovery : Recovery w h
  pub validity : Validity w h
  pub delivery : Delivery w h

-- a running bed shows all that it ever showed, whatever failed in between
abbrev pub Lasting : World → History → Type 0
Lasting w h =
    (past between rest : History) → h ≡ past ++ (between ++ rest) → (b : ℕ) → Running (after w (past ++ between)) b →
    (more : List Ticket) × ((bed (after w (past ++ between)) b).queue ≡ last_queue b [] past ++ more)

-- once enough beds have proposed, the collect of a waiting bed is accepted
abbrev pub Progress : World → History → Type 0
Progress w h = (past rest : History) (e : Event) → h ≡ past ++ (e ∷ rest) → (b : ℕ) → Ripe e b → Accepted e.answer

-- kept and decided bytes are never faulty, only heard ones can be; and no memory ever refuses a call
pub record Clean (e : Event) : Type 0 where
  pub only_heard : (f : SitedFault) → e.answer ≡ Err (rf.Faulty f) → f.site.source ≡ so.Packet
  pub no_memory : (r : MemoryRefusal) → e.answer ≢ Err (rf.Memory r)

abbrev pub Untroubled : World → History → Type 0
Untroubled w h = (past rest : History) (e : Event) → h ≡ past ++ (e ∷ rest) → Clean e

-- the waiting set of a running bed is in ticket order, without repeats and of at most 16 tickets, and its queue has at most 256
pub record InBounds (w : World) (b : ℕ) : Type 0 where
  pub waiting : Sound (size w) set_tickets (bed w b).waiting
  pub queue : length (bed w b).queue ≤ queue_tickets

abbrev pub Bounded : World → History → Type 0
Bounded w h = (past rest : History) → h ≡ past ++ rest → (b : ℕ) → Running (after w past) b → InBounds (after w past) b

-- what holds besides the law
pub record Besides (w : World) (h : History) : Type 0 where
  pub lasting : Lasting w h
  pub progress : Progress w h
  pub untroubled : Untroubled w h
  pub bounded : Bounded w h

-- a fact holds of every history that a new group can live, over every memory and every service
abbrev pub Always : (World → History → Type 0) → Type 0
Always Fact = (named : ℕ) (w₀ : World) (h : History) (w : World) → New w₀ → Lived named w₀ h w → Fact w₀ h
