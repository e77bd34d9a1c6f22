-- What holds of a running bed, and where a replay ends: never at a fault, and in the first round that the bed has not passed.
use Rattle.std.proofs.Common.{◌≡◌, ℕ, suc, ◌<◌, ◌≤◌, true, ◌⊎◌, List, [], is_some, Some, None, Ok, Err, Option, Result, sym, refl, ap, ◌∙◌, subst, inl, inr, add-one, arith}
use Rattle.codec.specs.Limits.{max_beds}
use Rattle.codec.specs.TicketList.{Each, Sound}
use Rattle.codec.specs.Batch.{IsBatch, batch_of}
use Rattle.codec.specs.declared.ticket.Ticket.{Ticket}
use Rattle.codec.specs.declared.whole.WholeFault.{WholeFault}
use Rattle.codec.proofs.FormLaws.{batch_laws}
use Rattle.codec.proofs.TicketLists.{each_weaker}
use Rattle.memory.specs.Meaning.{Slots}
use Rattle.decision.specs.Limits.{round_count}
use Rattle.decision.specs.Meaning.{Board}
use Rattle.group.specs.Limits.{set_tickets}
use Rattle.group.specs.Queue.{append}
use Rattle.group.specs.World.{Bed}
use Rattle.group.specs.Replay.{Replay, Proposed, started}
use Rattle.group.specs.Delivered.{tickets_in, delivered}
use Rattle.group.specs.declared.bed.Phase.TheVariants.{Off, Idle, Waiting}
use Rattle.group.specs.declared.refusal.Refusal.{Refusal}
use Rattle.group.proofs.Options.{is_some_lem, some_of, not_none, none_from}
use Rattle.group.proofs.Delivered.{Grow, grow_trans, tickets_in_lem, delivered_grow}
use Rattle.group.proofs.Stores.{Past, AllPast, past_more, past_grow, Batch, Store, decided_batch, empty_ahead, put_store, put_stands, poll_store, settles_grow}

-- ---- phases

pub idle_runs : Idle ≡ Off → ⊥
idle_runs e = let z : ◌≡◌ {A = ℕ} 0 1 = cc in omega arith

pub waiting_runs : Waiting ≡ Off → ⊥
waiting_runs e = let z : ◌≡◌ {A = ℕ} 0 1 = cc in omega arith

pub idle_waits : Idle ≡ Waiting → ⊥
idle_waits e = let z : ◌≡◌ {A = ℕ} 0 1 = cc in omega arith

-- ---- a running bed

-- a waiting set: sound, and V holds of its tickets
pub record SetGood (V : Ticket → Type 0) (n : ℕ) (ts : List Ticket) : Type 0 where
  pub sound : Sound n set_tickets ts
  pub valid : Each V ts

pub set_more : (V V' : Ticket → Type 0) (n : ℕ) (ts : List Ticket) → ((t : Ticket) → V t → V' t) → SetGood V n ts → SetGood V' n ts
set_more V V' n ts f g = record { sound = g.sound; valid = each_weaker V V' f ts g.valid }

pub set_empty : (V : Ticket → Type 0) (n : ℕ) → SetGood V n []
set_empty V n = record { sound = record { ranged = tt; rising = tt; apart = tt; few = omega arith }; valid = tt }

-- a running bed, given its slots and the decisions
pub record BedGood (V : Ticket → Type 0) (n : ℕ) (m d : ℕ → Option (List ℕ)) (x : Bed) : Type 0 where
  pub round : x.round ≤ round_count
  pub queue : x.queue ≡ delivered n d x.round
  pub passed : AllPast m d x.round
  -- a waiting bed has kept its proposal; the slots after it, and an idle bed's own, are empty
  pub waiting : x.phase ≡ Waiting → (x.round < round_count) × (is_some (m x.round) ≡ true)
  pub ahead : (k : ℕ) → x.round < k → m k ≡ None
  pub idle : x.phase ≡ Idle → m x.round ≡ None
  pub set : SetGood V n x.waiting

-- another bed's call
pub bed_grow : (V V' : Ticket → Type 0) (n : ℕ) (m m' d d' : ℕ → Option (List ℕ)) (x : Bed) → ((t : Ticket) → V t → V' t) →
    ((k : ℕ) → m' k ≡ m k) → Grow d d' → BedGood V n m d x → BedGood V' n m' d' x
bed_grow V V' n m m' d d' x f same h b =
    record {
      round = b.round;
      queue = b.queue ∙ delivered_grow n d d' h x.round (λ r l. (b.passed r l).1);
      passed = past_grow m m' d d' (λ k u e. same k ∙ e) h x.round b.passed;
      waiting = λ e. let p = b.waiting e in (p.0, ap is_some (same x.round) ∙ p.1);
      ahead = λ k l. same k ∙ b.ahead k l;
      idle = λ e. same x.round ∙ b.idle e;
      set = set_more V V' n x.waiting f b.set;
    }

-- ---- where a replay ends

-- the first round that is not passed, or the end
abbrev pub First : (ℕ → Option (List ℕ)) → (ℕ → Option (List ℕ)) → ℕ → Type 0
First m d r = (r ≡ round_count) ⊎ ((r < round_count) × (Past m d r → ⊥))

-- it waits exactly where it has kept something, and with that as its proposal
pub record Stands (b : ℕ) (m : ℕ → Option (List ℕ)) (s : Board) (x : Bed) : Type 0 where
  pub waits : (v : List ℕ) → m x.round ≡ Some v → (x.phase ≡ Waiting) × (s.proposal b x.round ≡ Some v) × (s.decision x.round ≡ None)
  pub idles : m x.round ≡ None → x.phase ≡ Idle

pub record Ends (V : Ticket → Type 0) (n : ℕ) (K : Slots) (b : ℕ) (s : Board) (end : Result Bed Refusal) (s' : Board) : Type 0 where
  pub store : Store V n K s'
  pub grows : Grow s.decision s'.decision
  pub bed : Bed
  pub ends : end ≡ Ok bed
  pub runs : bed.phase ≡ Off → ⊥
  pub good : BedGood V n (K b) s'.decision bed
  pub first : First (K b) s'.decision bed.round
  pub stands : Stands b (K b) s' bed

-- bytes that a batch has are not faulty
not_faulty : (n : ℕ) (v : List ℕ) (ts : List Ticket) (f : WholeFault) → n ≤ max_beds → IsBatch n v ts → batch_of n v ≡ Err f → ⊥
not_faulty n v ts f most b e = let g = batch_laws.whole n v ts most b in let z : ◌≡◌ {A = ℕ} 0 1 = cc in omega arith

pub batch_not_faulty : (V : Ticket → Type 0) (n : ℕ) (v : List ℕ) (f : WholeFault) → n ≤ max_beds → Batch V n v → batch_of n v ≡ Err f → ⊥
batch_not_faulty V n v f most b e = not_faulty n v b.tickets f most b.sound e

module _ (V : Ticket → Type 0) (n : ℕ) (most : n ≤ max_beds) (K : Slots) (b : ℕ) where
  -- an idle end in an empty slot or past all rounds
  idle_ends : (r : ℕ) (q : List Ticket) (s : Board) → Store V n K s → r ≤ round_count → q ≡ delivered n s.decision r → AllPast (K b) s.decision r →
      K b r ≡ None → First (K b) s.decision r → Ends V n K b s (Ok (started Idle r q)) s
  idle_ends r q s st l e p none first =
      record {
        store = st;
        grows = λ k v f. f;
        bed = started Idle r q;
        ends = refl;
        runs = idle_runs;
        good = record {
          round = l;
          queue = e;
          passed = p;
          waiting = λ y. absurd (idle_waits y);
          ahead = empty_ahead V n K s b r st first;
          idle = λ y. none;
          set = set_empty V n;
        };
        first = first;
        stands = record { waits = λ v f. absurd (not_none (K b r) v f none); idles = λ f. refl };
      }

  -- past all rounds there is nothing
  none_over : (s : Board) → Store V n K s → K b round_count ≡ None
  none_over s st =
      none_from (K b round_count) (λ v e. omega (arith, (st.slots b round_count v e).round_in))

  -- a round whose proposal was put and polled
  pub record Polled (r : ℕ) (s s' : Board) : Type 0 where
    pub store : Store V n K s'
    pub grows : Grow s.decision s'.decision
    pub full : (v : List ℕ) → K b r ≡ Some v → s'.proposal b r ≡ Some v
    pub held : is_some (K b r) ≡ true

  pub polled : (r : ℕ) (s s' : Board) → Store V n K s → Proposed n b r (K b r) s s' → Polled r s s'
  polled r s s' st p =
      let put = put_store V n most K s b r p.bytes p.put_answer p.between p.full p.puts st in
      let stands = put_stands V n most K s b r p.bytes p.put_answer p.between p.full p.puts st in
      record {
        store = poll_store V n K p.between r p.poll_answer s' p.polls put;
        grows = grow_trans s.decision p.between.decision s'.decision (settles_grow s r p.between p.puts.settles) (settles_grow p.between r s' p.polls.settles);
        full = λ v e. p.polls.same_proposals b r ∙ stands ∙ sym p.full ∙ e;
        held = is_some_lem (K b r) p.bytes p.full;
      }

  pub replay_ends : {r : ℕ} {q : List Ticket} {s : Board} {end : Result Bed Refusal} {s' : Board} → Replay n (K b) b r q s end s' →
      Store V n K s → r ≤ round_count → q ≡ delivered n s.decision r → AllPast (K b) s.decision r → Ends V n K b s end s'
  replay_ends (Replay.over {queue = q} {s}) st l e p = idle_ends round_count q s st l e p (none_over s st) (inl refl)
  replay_ends (Replay.empty {round = r} {queue = q} {s} h z) st l e p =
      idle_ends r q s st l e p z (inr (h, λ x. let y = some_of (K b r) x.0 in not_none (K b r) y.0 y.1 z))
  replay_ends (Replay.bad_kept {round = r} {queue = q} {s} v f h k z) st l e p = absurd (batch_not_faulty V n v f most (st.slots b r v k).batch z)
  replay_ends (Replay.undecided {round = r} {queue = q} {s} {s'} h z) st l e p =
      let o = polled r s s' st h in
      let first : First (K b) s'.decision r = inr (h.left, λ x. let y = some_of (s'.decision r) x.1 in not_none (s'.decision r) y.0 y.1 z) in
      record {
        store = o.store;
        grows = o.grows;
        bed = started Waiting r q;
        ends = refl;
        runs = waiting_runs;
        good = record {
          round = l;
          queue = e ∙ delivered_grow n s.decision s'.decision o.grows r (λ k y. (p k y).1);
          passed = past_grow (K b) (K b) s.decision s'.decision (λ k u y. y) o.grows r p;
          waiting = λ w. (h.left, o.held);
          ahead = empty_ahead V n K s' b r o.store first;
          idle = λ y. absurd (idle_waits (sym y));
          set = set_empty V n;
        };
        first = first;
        stands = record { waits = λ v k. (refl, o.full v k, z); idles = λ k. absurd (not_none (K b r) h.bytes h.full k) };
      }
  replay_ends (Replay.bad_decided {round = r} {queue = q} {s} {s'} v f h d z) st l e p =
      let o = polled r s s' st h in
      absurd (batch_not_faulty V n v f most (decided_batch V n K s' o.store r v d) z)
  replay_ends (Replay.next {round = r} {queue = q} {s} {s'} {s''} {end} v ts h d good more) st l e p =
      let o = polled r s s' st h in
      let front : q ≡ delivered n s'.decision r = e ∙ delivered_grow n s.decision s'.decision o.grows r (λ k y. (p k y).1) in
      let here : ts ≡ tickets_in n (s'.decision r) = sym (tickets_in_lem n v ts most good) ∙ ap (tickets_in n) (sym d) in
      let whole : append q ts ≡ delivered n s'.decision (suc r) = ap (λ a. append a ts) front ∙ ap (append (delivered n s'.decision r)) here in
      let past : AllPast (K b) s'.decision (suc r) =
      subst (AllPast (K b) s'.decision) (add-one r)
      (past_more (K b) s'.decision r (past_grow (K b) (K b) s.decision s'.decision (λ k u y. y) o.grows r p) (o.held, is_some_lem (s'.decision r) v d)) in
      let rest = replay_ends more o.store (omega (arith, h.left)) whole past in
      record {
        store = rest.store;
        grows = grow_trans s.decision s'.decision s''.decision o.grows rest.grows;
        bed = rest.bed;
        ends = rest.ends;
        runs = rest.runs;
        good = rest.good;
        first = rest.first;
        stands = rest.stands;
      }
