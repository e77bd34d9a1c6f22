-- Agreement: whatever two running beds show at one place is one ticket, now and after every later call; assumes nothing.
use Rattle.std.specs.Prelude.{◌≡◌, ℕ, ◌<◌, true, ◌++◌, length, Some}
use Rattle.std.specs.List.{slice_get}
use Rattle.codec.specs.Ticket.{same_identity}
use Rattle.codec.specs.declared.ticket.Ticket.{Ticket}
use Rattle.group.specs.World.{World, bed, Running}
use Rattle.group.specs.History.{History, after}

-- a running bed has this ticket at this place of its queue
abbrev pub Shows : World → ℕ → ℕ → Ticket → Type 0
Shows w b place t = Running w b × (slice_get (bed w b).queue place ≡ Some t)

-- what a bed shows at one moment, every running bed whose queue reaches that place shows at another
abbrev pub Agree : World → World → Type 0
Agree earlier later =
    (b c place : ℕ) (t : Ticket) → Shows earlier b place t → Running later c → place < length (bed later c).queue → Shows later c place t

-- no identity stands at two places of a queue
abbrev pub NoRepeat : World → Type 0
NoRepeat w = (b i j : ℕ) (t u : Ticket) → Shows w b i t → Shows w b j u → same_identity t u ≡ true → i ≡ j

-- at every moment of a history, and between it and every later one, itself included
abbrev pub Agreement : World → History → Type 0
Agreement w h =
    (past between rest : History) → h ≡ past ++ (between ++ rest) → Agree (after w past) (after w (past ++ between)) × NoRepeat (after w past)
