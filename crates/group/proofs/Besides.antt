-- What holds of every history besides the law: no bytes of our own are ever faulty, and no list outgrows its room.
use Rattle.std.proofs.Common.{ℕ, ◌*◌, ◌≤◌, List, [], length, sym, subst, arith}
use Rattle.codec.specs.Limits.{max_beds, batch_tickets}
use Rattle.codec.specs.TicketList.{Sound}
use Rattle.codec.specs.declared.ticket.Ticket.{Ticket}
use Rattle.group.specs.Limits.{set_tickets}
use Rattle.group.specs.World.{World, bed, size, Running}
use Rattle.group.specs.History.{History, New, Lived, after}
use Rattle.group.specs.Law.{Untroubled, InBounds, Bounded}
use Rattle.group.proofs.Delivered.{delivered-length}
use Rattle.group.proofs.Stores.{decided_tickets}
use Rattle.group.proofs.Steps.{Good, Harmless}
use Rattle.group.proofs.Runs.{Any, moment, moments}

pub untroubled : (named : ℕ) (w₀ : World) (h : History) (w : World) → New w₀ → Lived named w₀ h w → Untroubled w₀ h
untroubled named w₀ h w new l past rest e eq =
    let ok = (moment named w₀ h w new l past rest e eq).next.harmless in
    record { only_heard = λ f a. subst Harmless a ok; no_memory = λ r a. subst Harmless a ok }

in_bounds : (n : ℕ) (w : World) → n ≤ max_beds → Good Any n w → (b : ℕ) → Running w b → InBounds w b
in_bounds n w most g b run =
    let x = g.bed b run in
    let short : length (bed w b).queue ≤ batch_tickets * (bed w b).round =
    subst (λ (q : List Ticket). length q ≤ batch_tickets * (bed w b).round) (sym x.queue)
    (delivered-length n w.board.decision (bed w b).round
    (decided_tickets (λ ts. length ts ≤ batch_tickets) Any n w.kept w.board most g.store (omega arith) (λ v batch. batch.sound.sound.few))) in
    record { waiting = subst (λ k. Sound k set_tickets (bed w b).waiting) (sym g.size) x.set.sound; queue = omega (arith, short, x.round) }

pub bounded : (named : ℕ) (w₀ : World) (h : History) (w : World) → New w₀ → Lived named w₀ h w → Bounded w₀ h
bounded named w₀ h w new l past rest eq b run =
    in_bounds (size w₀) (after w₀ past) new.most (moments named w₀ h w new l past [] rest eq).earlier b run
