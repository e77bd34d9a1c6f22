-- What holds of a group at every moment, and what has to be shown of a call so that it holds after it too.
use Rattle.std.proofs.Common.{◌≡◌, ℕ, ◌<◌, ◌≤◌, true, ◌⊎◌, List, length, get_or, set, is_some, Some, Ok, Err, sym, refl, ap, ◌∙◌, subst, inl, inr, arith}
use Rattle.std.proofs.lemmas.List.{length-set, get_or-set_same, get_or-set_other, get_or_past}
use Rattle.std.proofs.lemmas.Bool.{cases_eq, cases_lt}
use Rattle.codec.specs.Limits.{max_beds}
use Rattle.codec.specs.TicketList.{Each}
use Rattle.codec.specs.Packet.{IsPacket}
use Rattle.codec.specs.declared.ticket.Ticket.{Ticket}
use Rattle.codec.specs.declared.whole.Source.TheVariants as so
use Rattle.memory.specs.Meaning.{Slots}
use Rattle.decision.specs.Limits.{round_count}
use Rattle.group.specs.World.{World, Bed, bed, size, off_bed, Running, changed}
use Rattle.group.specs.Outcome.{Answer, refused}
use Rattle.group.specs.Calls.{ticket_of}
use Rattle.group.specs.Delivered.{delivered}
use Rattle.group.specs.History.{Accepted}
use Rattle.group.specs.Validity.{heard_bytes}
use Rattle.group.specs.declared.bed.Phase.TheVariants.{Off}
use Rattle.group.specs.declared.call.Call.{Call}
use Rattle.group.specs.declared.call.Call.TheVariants as call
use Rattle.group.specs.declared.refusal.Refusal.{Refusal}
use Rattle.group.specs.declared.refusal.Refusal.TheVariants as rf
use Rattle.group.proofs.Delivered.{Grow}
use Rattle.group.proofs.Stores.{GrowAll, Store, store_more}
use Rattle.group.proofs.Replays.{BedGood, bed_grow, First, SetGood}

-- ---- at one moment

-- V holds of every ticket that is kept, proposed, decided, waiting or queued
pub record Good (V : Ticket → Type 0) (n : ℕ) (w : World) : Type 0 where
  pub size : size w ≡ n
  pub store : Store V n w.kept w.board
  pub bed : (b : ℕ) → Running w b → BedGood V n (w.kept b) w.board.decision (bed w b)

off_is : (x : Bed) → x ≡ off_bed → x.phase ≡ Off
off_is x e = ap (λ (y : Bed). y.phase) e

-- a running bed stands in the group
pub in_group : (V : Ticket → Type 0) (n : ℕ) (w : World) → Good V n w → (b : ℕ) → Running w b → b < n
in_group V n w g b run =
    elim (cases_lt b n) [
      | inl l ↦ l
      | inr l ↦ absurd (run (off_is (bed w b) (get_or_past w.beds b off_bed (subst (λ k. k ≤ b) (sym g.size) l))))
    ]

-- ---- from one moment to the next

-- what was kept and decided stays
pub record Grows (w w' : World) : Type 0 where
  pub kept : GrowAll w.kept w'.kept
  pub decision : Grow w.board.decision w'.board.decision

-- a running bed went on, or it started in the first round that it has not passed
abbrev pub Moves : World → World → ℕ → Bed → Type 0
Moves w w' b x = (Running w b × ((bed w b).round ≤ x.round)) ⊎ First (w'.kept b) w'.board.decision x.round

-- an answer that does not speak of faulty bytes of our own, or of a memory that refuses
abbrev pub Harmless : Answer → Type 0
Harmless (Ok reply) = Unit {0}
Harmless (Err (rf.Faulty f)) = f.site.source ≡ so.Packet
Harmless (Err (rf.Memory r)) = ⊥
Harmless (Err (rf.Service r)) = Unit {0}
Harmless (Err rf.NoBed) = Unit {0}
Harmless (Err rf.BedOff) = Unit {0}
Harmless (Err rf.Running) = Unit {0}
Harmless (Err rf.Field) = Unit {0}
Harmless (Err rf.Known) = Unit {0}
Harmless (Err rf.SetFull) = Unit {0}
Harmless (Err rf.NoRoom) = Unit {0}
Harmless (Err rf.Waiting) = Unit {0}
Harmless (Err rf.LastRound) = Unit {0}
Harmless (Err rf.Nothing) = Unit {0}
Harmless (Err rf.Idle) = Unit {0}
Harmless (Err rf.Place) = Unit {0}

-- V' holds of the tickets that a call brings in
pub record Feeds (V' : Ticket → Type 0) (n : ℕ) (c : Call) (a : Answer) : Type 0 where
  pub submitted : (b number paths sheet : ℕ) → c ≡ call.Submit b number paths sheet → Accepted a → V' (ticket_of b number paths sheet)
  pub heard : (bytes : List ℕ) (from round : ℕ) (ts : List Ticket) → heard_bytes c ≡ Some bytes → Accepted a → IsPacket n bytes from round ts → Each V' ts

pub record Next (V' : Ticket → Type 0) (n : ℕ) (w : World) (a : Answer) (w' : World) : Type 0 where
  pub grows : Grows w w'
  pub good : Good V' n w'
  pub moves : (b : ℕ) → Running w' b → Moves w w' b (bed w' b)
  pub harmless : Harmless a

-- what is to be shown of a call that leaves bed b as x
pub record Changes (V' : Ticket → Type 0) (n : ℕ) (w w' : World) (b : ℕ) (x : Bed) : Type 0 where
  pub beds : w'.beds ≡ set w.beds b x
  pub own : Grow (w.kept b) (w'.kept b)
  pub others : (c : ℕ) → (c ≡ b → ⊥) → (k : ℕ) → w'.kept c k ≡ w.kept c k
  pub decisions : Grow w.board.decision w'.board.decision
  pub store : Store V' n w'.kept w'.board
  pub here : (x.phase ≡ Off → ⊥) → BedGood V' n (w'.kept b) w'.board.decision x
  pub went : (x.phase ≡ Off → ⊥) → Moves w w' b x

-- a call that is made where all holds: V of tickets before it, V' after it
pub record Made (V V' : Ticket → Type 0) (n : ℕ) (w : World) (a : Answer) (w' : World) : Type 0 where
  pub most : n ≤ max_beds
  pub good : Good V n w
  pub more : (t : Ticket) → V t → V' t

module _ {V V' : Ticket → Type 0} {n : ℕ} {w w' : World} {a : Answer} (m : Made V V' n w a w') where
  -- the bed as it was, after a call of another
  old_bed : (c : ℕ) → ((k : ℕ) → w'.kept c k ≡ w.kept c k) → Grow w.board.decision w'.board.decision → Running w c →
      BedGood V' n (w'.kept c) w'.board.decision (bed w c)
  old_bed c same gd run = bed_grow V V' n (w.kept c) (w'.kept c) w.board.decision w'.board.decision (bed w c) m.more same gd (m.good.bed c run)

  pub change : (b : ℕ) → b < n → (x : Bed) → Harmless a → Changes V' n w w' b x → Next V' n w a w'
  change b l x ok ch =
      record {
        grows = record { kept = grow; decision = ch.decisions };
        good = record { size = ap length ch.beds ∙ length-set w.beds b x ∙ m.good.size; store = ch.store; bed = each };
        moves = goes;
        harmless = ok;
      }
    where
      grow : GrowAll w.kept w'.kept
      grow c k u e =
          elim (cases_eq c b) [
            | inl d ↦ ap (λ j. w'.kept j k) d ∙ ch.own k u (ap (λ j. w.kept j k) (sym d) ∙ e)
            | inr d ↦ ch.others c d k ∙ e
          ]

      at_b : bed w' b ≡ x
      at_b = ap (λ l. get_or l b off_bed) ch.beds ∙ get_or-set_same w.beds b x off_bed (subst (λ k. b < k) (sym m.good.size) l)

      at_c : (c : ℕ) → (c ≡ b → ⊥) → bed w' c ≡ bed w c
      at_c c d = ap (λ l. get_or l c off_bed) ch.beds ∙ get_or-set_other w.beds b c x off_bed d

      -- what holds of bed b and its x holds of each bed that is b
      here_b : (P : ℕ → Bed → Type 0) → ((x.phase ≡ Off → ⊥) → P b x) → (c : ℕ) → c ≡ b → Running w' c → P c (bed w' c)
      here_b P h c d run =
          subst (λ k. P k (bed w' k)) (sym d) (subst (P b) (sym at_b) (h (λ z. run (ap (λ k. (bed w' k).phase) d ∙ ap (λ (y : Bed). y.phase) at_b ∙ z))))

      runs_c : (c : ℕ) → (c ≡ b → ⊥) → Running w' c → Running w c
      runs_c c d run z = run (ap (λ (y : Bed). y.phase) (at_c c d) ∙ z)

      goes : (c : ℕ) → Running w' c → Moves w w' c (bed w' c)
      goes c run =
          elim (cases_eq c b) [
            | inl d ↦ here_b (Moves w w') ch.went c d run
            | inr d ↦ inl (runs_c c d run, let r = ap (λ (y : Bed). y.round) (at_c c d) in omega arith)
          ]

      each : (c : ℕ) → Running w' c → BedGood V' n (w'.kept c) w'.board.decision (bed w' c)
      each c run =
          elim (cases_eq c b) [
            | inl d ↦ here_b (λ k y. BedGood V' n (w'.kept k) w'.board.decision y) ch.here c d run
            | inr d ↦ subst (BedGood V' n (w'.kept c) w'.board.decision) (sym (at_c c d)) (old_bed c (ch.others c d) ch.decisions (runs_c c d run))
          ]

  -- no bed changes, and no slot; a decision may have come
  pub still : w'.beds ≡ w.beds → w'.kept ≡ w.kept → Grow w.board.decision w'.board.decision → Store V' n w'.kept w'.board → Harmless a → Next V' n w a w'
  still e k gd st ok =
      record {
        grows = record { kept = λ c j u f. slots c j ∙ f; decision = gd };
        good = record {
          size = ap length e ∙ m.good.size;
          store = st;
          bed = λ c run. subst (BedGood V' n (w'.kept c) w'.board.decision) (sym (same c)) (old_bed c (slots c) gd (runs c run));
        };
        moves = λ c run. inl (runs c run, let r = ap (λ (y : Bed). y.round) (same c) in omega arith);
        harmless = ok;
      }
    where
      slots : (c j : ℕ) → w'.kept c j ≡ w.kept c j
      slots c j = ap (λ (slots : Slots). slots c j) k

      same : (c : ℕ) → bed w' c ≡ bed w c
      same c = ap (λ l. get_or l c off_bed) e

      runs : (c : ℕ) → Running w' c → Running w c
      runs c run z = run (ap (λ (y : Bed). y.phase) (same c) ∙ z)

  -- nothing changes
  pub stay : w' ≡ w → Harmless a → Next V' n w a w'
  stay e ok =
      still (ap (λ (u : World). u.beds) e) (ap (λ (u : World). u.kept) e) (λ r v f. ap (λ (u : World). u.board.decision r) e ∙ f)
      (subst (λ u. Store V' n u.kept u.board) (sym e) (store_more V V' n w.kept w.board m.more m.good.store)) ok

  -- one row of the table
  pub by_row : {Fits Rest : Type 0} {r : Refusal} → (Fits × refused w r a w') ⊎ ((Fits → ⊥) × Rest) → Harmless (Err r) → ((Fits → ⊥) → Rest → Next V' n w a w') → Next V' n w a w'
  by_row (inl h) ok k = stay h.1.1 (subst Harmless (sym h.1.0) ok)
  by_row (inr h) ok k = k h.0 h.1

  -- a call on a running bed
  pub on_running_lem : {b : ℕ} {Rest : Type 0} → ((size w ≤ b) × refused w rf.NoBed a w') ⊎ ((size w ≤ b → ⊥) × ((((bed w b).phase ≡ Off) × refused w rf.BedOff a w') ⊎ (((bed w b).phase ≡ Off → ⊥) × Rest)))
      → (b < n → Running w b → Rest → Next V' n w a w') → Next V' n w a w'
  on_running_lem {b} h k =
      by_row h tt λ in_group h.
      by_row h tt λ run h.
      k (elim (cases_lt b (size w)) [ inl l ↦ subst (λ j. b < j) m.good.size l | inr l ↦ absurd (in_group l) ]) run h

  -- a call that changes one bed and neither memory nor service
  pub alone : (b : ℕ) → b < n → Harmless a → (x : Bed) → w' ≡ changed w b x → ((x.phase ≡ Off → ⊥) → BedGood V' n (w.kept b) w.board.decision x × Moves w w b x) → Next V' n w a w'
  alone b l ok x e h =
      change b l x ok
      (subst (λ u. Changes V' n w u b x) (sym e)
      (record {
        beds = refl;
        own = λ k u f. f;
        others = λ c d k. refl;
        decisions = λ r v f. f;
        store = store_more V V' n w.kept w.board m.more m.good.store;
        here = λ z. (h z).0;
        went = λ z. (h z).1;
      }))

  -- one that leaves the bed in its phase and its round, with the same queue
  pub same_round : (b : ℕ) → b < n → Running w b → Harmless a → (x : Bed) → w' ≡ changed w b x →
      x.phase ≡ (bed w b).phase → x.round ≡ (bed w b).round → x.queue ≡ (bed w b).queue → SetGood V' n x.waiting → Next V' n w a w'
  same_round b l run ok x e p r q s = alone b l ok x e (λ z. (here, inl (run, omega arith)))
    where
      old : BedGood V n (w.kept b) w.board.decision (bed w b)
      old = m.good.bed b run

      here : BedGood V' n (w.kept b) w.board.decision x
      here =
          record {
            round = omega (arith, old.round);
            queue = q ∙ old.queue ∙ ap (delivered n w.board.decision) (sym r);
            passed = λ k j. old.passed k (omega arith);
            waiting = λ y. subst (λ k. (k < round_count) × (is_some (w.kept b k) ≡ true)) (sym r) (old.waiting (sym p ∙ y));
            ahead = λ k j. old.ahead k (omega arith);
            idle = λ y. ap (w.kept b) r ∙ old.idle (sym p ∙ y);
            set = s;
          }
