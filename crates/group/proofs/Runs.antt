-- Runs: all that holds of a group holds of a new one, and stays over every history.
use Rattle.std.proofs.Common.{◌≡◌, ℕ, ◌≤◌, List, [], ◌∷◌, ◌++◌, sym, refl, ap, subst}
use Rattle.std.proofs.lemmas.List.{append-nil}
use Rattle.codec.specs.Limits.{max_beds}
use Rattle.codec.specs.TicketList.{Each}
use Rattle.codec.specs.declared.ticket.Ticket.{Ticket}
use Rattle.group.specs.World.{World, Bed, size}
use Rattle.group.specs.Outcome.{Answer}
use Rattle.group.specs.Calls.{Does}
use Rattle.group.specs.History.{Event, History, New, Lived, after}
use Rattle.group.specs.declared.call.Call.{Call}
use Rattle.group.proofs.Options.{not_none}
use Rattle.group.proofs.Steps.{Good, Grows, Feeds, Next}
use Rattle.group.proofs.Moves.{step}

-- nothing is asked of a ticket
abbrev pub Any : Ticket → Type 0
Any t = Unit {0}

pub each_any : (ts : List Ticket) → Each Any ts
each_any [] = tt
each_any (t ∷ ts) = (tt, each_any ts)

any_feeds : (n : ℕ) (c : Call) (a : Answer) → Feeds Any n c a
any_feeds n c a = record { submitted = λ b number paths sheet e d. tt; heard = λ bytes from round ts e d p. each_any ts }

-- a new group
pub new_good : (V : Ticket → Type 0) (w : World) → New w → Good V (size w) w
new_good V w f =
    record {
      size = refl;
      store = record {
        beds = f.board.size;
        slots = λ b r v e. absurd (not_none (w.kept b r) v e (f.empty b r));
        proposals = λ b r v e. absurd (not_none (w.board.proposal b r) v e (f.board.proposed b r));
        decisions = λ r v e. absurd (not_none (w.board.decision r) v e (f.board.decided r));
      };
      bed = λ b run. absurd (run (ap (λ (x : Bed). x.phase) (f.off b)));
    }

-- ---- histories

pub after_append : (w : World) (g h : History) → after w (g ++ h) ≡ after (after w g) h
after_append w [] h = refl
after_append w (e ∷ g) h = after_append e.after g h

pub lived_split : (named : ℕ) (g h : History) (w w' : World) → Lived named w (g ++ h) w' → Lived named w g (after w g) × Lived named (after w g) h w'
lived_split named [] h w w' l = (refl, l)
lived_split named (e ∷ g) h w w' l = let s = lived_split named g h e.after w' l.2 in ((l.0, l.1, s.0), s.1)

grows_trans : (u v w : World) → Grows u v → Grows v w → Grows u w
grows_trans u v w g h = record { kept = λ c k x e. h.kept c k x (g.kept c k x e); decision = λ r x e. h.decision r x (g.decision r x e) }

module _ (named n : ℕ) (most : n ≤ max_beds) where
  -- one call
  pub event_next : (e : Event) (w : World) → Good Any n w → e.before ≡ w → Does named e.before e.call e.answer e.after → Next Any n w e.answer e.after
  event_next e w g same does =
      step named (record { most = most; good = g; more = λ t v. v }) e.call (any_feeds n e.call e.answer) (subst (λ u. Does named u e.call e.answer e.after) same does)

  -- all of them
  pub run_good : (h : History) (w w' : World) → Good Any n w → Lived named w h w' → Grows w (after w h) × Good Any n (after w h)
  run_good [] w w' g l = (record { kept = λ c k x e. e; decision = λ r x e. e }, g)
  run_good (e ∷ h) w w' g l =
      let s = event_next e w g l.0 l.1 in
      let r = run_good h e.after w' s.good l.2 in
      (grows_trans w e.after (after e.after h) s.grows r.0, r.1)

-- ---- the moments of a history

-- the world that a history leads to is what stands after it
pub last_good : (named : ℕ) (w₀ : World) (h : History) (w : World) → New w₀ → Lived named w₀ h w → Good Any (size w₀) w
last_good named w₀ h w new l =
    let s = lived_split named h [] w₀ w (subst (λ k. Lived named w₀ k w) (sym (append-nil h)) l) in
    subst (Good Any (size w₀)) (sym s.1) (run_good named (size w₀) new.most h w₀ w (new_good Any w₀ new) l).1

-- a moment, and a later one
pub record Between (n : ℕ) (u v : World) : Type 0 where
  pub earlier : Good Any n u
  pub later : Good Any n v
  pub grows : Grows u v

pub moments : (named : ℕ) (w₀ : World) (h : History) (w : World) → New w₀ → Lived named w₀ h w → (past between rest : History) → h ≡ past ++ (between ++ rest) →
    Between (size w₀) (after w₀ past) (after w₀ (past ++ between))
moments named w₀ h w new l past between rest e =
    let n = size w₀ in
    let s = lived_split named past (between ++ rest) w₀ w (subst (λ k. Lived named w₀ k w) e l) in
    let u = after w₀ past in
    let gu = (run_good named n new.most past w₀ u (new_good Any w₀ new) s.0).1 in
    let s₂ = lived_split named between rest u w s.1 in
    let r = run_good named n new.most between u (after u between) gu s₂.0 in
    subst (Between n u) (sym (after_append w₀ past between)) (record { earlier = gu; later = r.1; grows = r.0 })

-- one call of a history, and what stood before it
pub record Moment (named n : ℕ) (e : Event) : Type 0 where
  pub good : Good Any n e.before
  pub does : Does named e.before e.call e.answer e.after
  pub next : Next Any n e.before e.answer e.after

pub moment : (named : ℕ) (w₀ : World) (h : History) (w : World) → New w₀ → Lived named w₀ h w → (past rest : History) (e : Event) → h ≡ past ++ (e ∷ rest) → Moment named (size w₀) e
moment named w₀ h w new l past rest e eq =
    let n = size w₀ in
    let s = lived_split named past (e ∷ rest) w₀ w (subst (λ k. Lived named w₀ k w) eq l) in
    let g = (run_good named n new.most past w₀ (after w₀ past) (new_good Any w₀ new) s.0).1 in
    let ge : Good Any n e.before = subst (Good Any n) (sym s.1.0) g in
    record { good = ge; does = s.1.1; next = event_next named n new.most e e.before ge refl s.1.1 }
