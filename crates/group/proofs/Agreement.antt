-- Agreement: two queues, at one moment or two, differ only by what one has more at its end.
use Rattle.std.proofs.Common.{◌≡◌, ℕ, ◌<◌, List, ◌++◌, length, Some, sym, ap, ◌∙◌, subst, inl, inr, arith}
use Rattle.std.specs.List.{slice_get}
use Rattle.std.proofs.lemmas.Bool.{cases_lt}
use Rattle.codec.specs.TicketList.{Apart}
use Rattle.codec.specs.declared.ticket.Ticket.{Ticket}
use Rattle.group.specs.World.{World, bed, size}
use Rattle.group.specs.History.{History, New, Lived}
use Rattle.group.specs.Delivered.{delivered}
use Rattle.group.specs.Agreement.{Agree, NoRepeat, Agreement}
use Rattle.group.proofs.Appends.{apart_nth, nth_front, nth_within}
use Rattle.group.proofs.Delivered.{delivered_grow, delivered_more, delivered_apart}
use Rattle.group.proofs.Steps.{Good}
use Rattle.group.proofs.Runs.{Any, Between, moments}

nth_longer : (q p rest : List Ticket) (i : ℕ) (t : Ticket) → q ≡ p ++ rest → slice_get p i ≡ Some t → slice_get q i ≡ Some t
nth_longer q p rest i t e h = ap (λ l. slice_get l i) e ∙ nth_front p rest i (nth_within p i t h) ∙ h

nth_shorter : (q p rest : List Ticket) (i : ℕ) (t : Ticket) → q ≡ p ++ rest → i < length p → slice_get q i ≡ Some t → slice_get p i ≡ Some t
nth_shorter q p rest i t e l h = sym (nth_front p rest i l) ∙ ap (λ k. slice_get k i) (sym e) ∙ h

agree : (n : ℕ) (u v : World) → Between n u v → Agree u v
agree n u v m b c place t shows run l =
    let x = m.earlier.bed b shows.0 in
    let y = m.later.bed c run in
    let d = v.board.decision in
    let qb : (bed u b).queue ≡ delivered n d (bed u b).round =
    x.queue ∙ delivered_grow n u.board.decision d m.grows.decision (bed u b).round (λ r k. (x.passed r k).1) in
    elim (cases_lt (bed u b).round (bed v c).round) [
      | inl k ↦
          let more = delivered_more n d (bed u b).round (bed v c).round (omega arith) in
          (run, nth_longer (bed v c).queue (bed u b).queue more.0 place t (y.queue ∙ more.1 ∙ ap (λ q. q ++ more.0) (sym qb)) shows.1)
      | inr k ↦
          let more = delivered_more n d (bed v c).round (bed u b).round k in
          (run, nth_shorter (bed u b).queue (bed v c).queue more.0 place t (qb ∙ more.1 ∙ ap (λ q. q ++ more.0) (sym y.queue)) l shows.1)
    ]

no_repeat : (n : ℕ) (w : World) → Good Any n w → NoRepeat w
no_repeat n w g b i j t u p q e =
    let x = g.bed b p.0 in
    apart_nth (bed w b).queue i j t u (subst Apart (sym x.queue) (delivered_apart n w.board.decision (bed w b).round)) p.1 q.1 e

pub agreement : (named : ℕ) (w₀ : World) (h : History) (w : World) → New w₀ → Lived named w₀ h w → Agreement w₀ h
agreement named w₀ h w new l past between rest e =
    let m = moments named w₀ h w new l past between rest e in
    (agree (size w₀) _ _ m, no_repeat (size w₀) _ m.earlier)
