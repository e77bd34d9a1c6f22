-- Every call preserves what holds of a group.
use Rattle.std.proofs.Common.{◌≡◌, ℕ, suc, ◌+◌, ◌<◌, ◌≤◌, Bool, true, false, not, List, [], length, take, set, Some, Ok, Err, Result, sym, refl, ap, ◌∙◌, subst, inl, inr, add-one, arith}
use Rattle.std.proofs.lemmas.Bool.{cases_lt, cases_Bool, or_parts}
use Rattle.codec.specs.Limits.{max_beds, batch_tickets, max_paths, min_number, max_number, max_sheet}
use Rattle.codec.specs.Ticket.{InRange}
use Rattle.codec.specs.TicketList.{Each, known}
use Rattle.codec.specs.Edits.{placed}
use Rattle.codec.specs.Batch.{IsBatch, batch_of}
use Rattle.codec.specs.Packet.{IsPacket}
use Rattle.codec.specs.declared.ticket.Ticket.{Ticket}
use Rattle.codec.proofs.ListEdits.{edit_laws, each_placed, passing_part}
use Rattle.codec.proofs.TicketLists.{each_part, each_take}
use Rattle.memory.specs.Meaning.{Slots}
use Rattle.memory.specs.declared.refusal.MemoryRefusal.TheVariants as mr
use Rattle.decision.specs.Limits.{round_count}
use Rattle.decision.specs.Meaning.{Board}
use Rattle.group.specs.Limits.{set_tickets}
use Rattle.group.specs.Queue.{append}
use Rattle.group.specs.World.{World, Bed, bed, size, off_bed, Running}
use Rattle.group.specs.Outcome.{Answer, Outcome, row}
use Rattle.group.specs.Calls.{OffDoes, SubmitDoes, SendDoes, HearDoes, ProposeDoes, TripDoes, CollectDoes, StartDoes, Does, knows, with_set, ticket_of, hearing, own_batch, proposing, waiting_now, HoldsOther, Proposes, Trips, Collected, collected, Starts, StartEnds}
use Rattle.group.specs.Replay.{Replay}
use Rattle.group.specs.Delivered.{tickets_in, delivered}
use Rattle.group.specs.History.{Accepted}
use Rattle.group.specs.declared.bed.Phase.{Phase}
use Rattle.group.specs.declared.bed.Phase.TheVariants.{Off, Idle, Waiting}
use Rattle.group.specs.declared.call.Call.{Call}
use Rattle.group.specs.declared.call.Call.TheVariants as call
use Rattle.group.specs.declared.call.Reply.{Reply}
use Rattle.group.specs.declared.call.Reply.TheVariants as rp
use Rattle.group.specs.declared.refusal.Refusal.{Refusal}
use Rattle.group.specs.declared.refusal.Refusal.TheVariants as rf
use Rattle.group.proofs.Options.{is_some_lem, not_none}
use Rattle.group.proofs.Hearings.{hear_laws, hear_each}
use Rattle.group.proofs.Delivered.{Grow, tickets_in_lem, delivered_grow}
use Rattle.group.proofs.Stores.{past_more, past_grow, Batch, Slot, Store, store_more, decided_batch, settles_grow, put_store, poll_store, Fills, fills_grow, fills_store, keep_within}
use Rattle.group.proofs.Replays.{SetGood, set_more, bed_grow, Ends, replay_ends, batch_not_faulty, idle_waits, First}
use Rattle.group.proofs.Steps.{Good, Harmless, Feeds, Next, Made, change, still, stay, by_row, on_running_lem, alone, same_round}

-- ---- tests that did not fit

pub not_le : (a b : ℕ) → (a ≤ b → ⊥) → b < a
not_le a b f = elim (cases_lt b a) [ inl l ↦ l | inr l ↦ absurd (f l) ]

le_from : (a b : ℕ) → ((a ≤ b → ⊥) → ⊥) → a ≤ b
le_from a b f = elim (cases_lt b a) [ inl l ↦ absurd (f (λ k. omega arith)) | inr l ↦ l ]

-- a ticket that is not out of range is in range
pub in_range_from : (n : ℕ) (t : Ticket) → ((InRange n t → ⊥) → ⊥) → InRange n t
in_range_from n t f =
    record {
      paths = le_from t.paths max_paths (λ h. f (λ r. h r.paths));
      origin = le_from (suc t.origin) n (λ h. f (λ r. h r.origin));
      least = le_from min_number t.number (λ h. f (λ r. h r.least));
      number = le_from t.number max_number (λ h. f (λ r. h r.number));
      sheet = le_from t.sheet max_sheet (λ h. f (λ r. h r.sheet));
    }

not_true : (b : Bool) → (b ≡ true → ⊥) → b ≡ false
not_true b f = elim (cases_Bool b) [ inl h ↦ absurd (f h) | inr h ↦ h ]

idle_from : (p : Phase) → (p ≡ Off → ⊥) → (p ≡ Waiting → ⊥) → p ≡ Idle
idle_from Off f h = absurd (f refl)
idle_from Idle f h = refl
idle_from Waiting f h = absurd (h refl)

waiting_from : (p : Phase) → (p ≡ Off → ⊥) → (p ≡ Idle → ⊥) → p ≡ Waiting
waiting_from Off f h = absurd (f refl)
waiting_from Idle f h = absurd (h refl)
waiting_from Waiting f h = refl

off_from : (p : Phase) → ((p ≡ Off → ⊥) → ⊥) → p ≡ Off
off_from Off f = refl
off_from Idle f = absurd (f (λ e. let z : ◌≡◌ {A = ℕ} 0 1 = cc in omega arith))
off_from Waiting f = absurd (f (λ e. let z : ◌≡◌ {A = ℕ} 0 1 = cc in omega arith))

-- ---- answers

pub ok_accepted : (a : Answer) (reply : Reply) → a ≡ Ok reply → Accepted a
ok_accepted a reply e r f = let z : ◌≡◌ {A = ℕ} 0 1 = cc in omega arith

ok_harmless : (a : Answer) (reply : Reply) → a ≡ Ok reply → Harmless a
ok_harmless a reply e = subst Harmless (sym e) tt

-- the batch that a bed would propose
pub own_batch_lem : (V : Ticket → Type 0) (n : ℕ) (x : Bed) → SetGood V n x.waiting → Batch V n (own_batch x)
own_batch_lem V n x s =
    record {
      tickets = take batch_tickets x.waiting;
      sound = record { sound = edit_laws.first_sound n set_tickets batch_tickets x.waiting s.sound; bytes = refl };
      valid = each_take V batch_tickets x.waiting s.valid;
    }

-- ---- what a start of a bed that is off comes to

pub record Started (V : Ticket → Type 0) (n : ℕ) (w : World) (b : ℕ) (a : Answer) (w' : World) : Type 0 where
  pub kept : w'.kept ≡ w.kept
  pub end : Result Bed Refusal
  pub ends : Ends V n w.kept b w.board end w'.board
  pub beds : w'.beds ≡ set w.beds b ends.bed
  pub done : a ≡ Ok rp.Done

pub start_starts : (V : Ticket → Type 0) (n : ℕ) (w : World) (b : ℕ) (a : Answer) (w' : World) → n ≤ max_beds → Good V n w → Starts w b a w' → Started V n w b a w'
start_starts V n w b a w' most g s =
    let e : Ends V n w.kept b w.board s.end w'.board =
    replay_ends V n most w.kept b (subst (λ k. Replay k (w.kept b) b 0 [] w.board s.end w'.board) g.size s.replay) g.store (omega arith) refl (λ r y. absurd (omega arith)) in
    let f : StartEnds w b (Ok e.bed) a w' = subst (λ o. StartEnds w b o a w') e.ends s.ends in
    record { kept = s.kept; end = s.end; ends = e; beds = f.1; done = f.0 }

module _ {V V' : Ticket → Type 0} {n : ℕ} {w w' : World} {a : Answer} (m : Made V V' n w a w') where
  old_set : (b : ℕ) → Running w b → SetGood V' n (bed w b).waiting
  old_set b run = set_more V V' n (bed w b).waiting m.more (m.good.bed b run).set

  old_store : Store V' n w.kept w.board
  old_store = store_more V V' n w.kept w.board m.more m.good.store

  off_next : (b : ℕ) → OffDoes w b a w' → Next V' n w a w'
  off_next b h =
      on_running_lem m h λ l run d.
      alone m b l (ok_harmless a rp.Done d.0) off_bed d.1 (λ z. absurd (z refl))

  submit_next : (b number paths sheet : ℕ) → (Accepted a → V' (ticket_of b number paths sheet)) → SubmitDoes w b number paths sheet a w' → Next V' n w a w'
  submit_next b number paths sheet new h =
      let t : Ticket = ticket_of b number paths sheet in
      let x : Bed = bed w b in
      on_running_lem m h λ l run h.
      by_row m h tt λ ranged h.
      by_row m h tt λ unknown h.
      by_row m h tt λ room d.
      let s = old_set b run in
      same_round m b l run (ok_harmless a (rp.Submitted t) d.0) (with_set x (placed t x.waiting)) d.1 refl refl refl
      (record {
        sound = edit_laws.placed_sound n set_tickets t x.waiting s.sound (subst (λ k. InRange k t) m.good.size (in_range_from (size w) t ranged))
            (or_parts (known t x.waiting) (known t x.queue) (not_true (knows x t) unknown)).0 (not_le set_tickets (length x.waiting) room);
        valid = each_placed V' t x.waiting (new (ok_accepted a (rp.Submitted t) d.0)) s.valid;
      })

  send_next : (b room : ℕ) → SendDoes w b room a w' → Next V' n w a w'
  send_next b room h =
      on_running_lem m h λ l run h.
      by_row m h tt λ fits d.
      stay m d.after (ok_harmless a (rp.Sent d.packet) d.answer)

  hear_next : (b : ℕ) (bytes : List ℕ) → ((from round : ℕ) (ts : List Ticket) → Accepted a → IsPacket n bytes from round ts → Each V' ts) → HearDoes w b bytes a w' → Next V' n w a w'
  hear_next b bytes new h =
      on_running_lem m h λ l run h.
      elim h [
        | inl d ↦ stay m d.refusal.1 (subst Harmless (sym d.refusal.0) refl)
        | inr d ↦
            let x : Bed = bed w b in
            let ts : List Ticket = d.tickets in
            let p : IsPacket n bytes d.from d.round ts = subst (λ k. IsPacket k bytes d.from d.round ts) m.good.size d.packet in
            let s = old_set b run in
            same_round m b l run (ok_harmless a _ d.answer) (hearing x d.round ts) d.after refl refl refl
            (record {
              sound = hear_laws.sound n x.queue x.waiting ts p.sound.sound.ranged s.sound;
              valid = hear_each V' x.queue _ ts s.valid (new d.from d.round ts (ok_accepted a _ d.answer) p);
            })
      ]

  proposing_next : (b : ℕ) (rest : Outcome) → proposing w b rest a w' → (b < n → Running w b → (bed w b).phase ≡ Idle → (bed w b).round < round_count → rest a w' → Next V' n w a w') → Next V' n w a w'
  proposing_next b rest h k =
      let x : Bed = bed w b in
      on_running_lem m h λ l run h.
      by_row m h tt λ idle h.
      by_row m h tt λ left h.
      by_row m h tt λ reason h.
      k l run (idle_from x.phase run idle) (not_le round_count x.round left) h

  -- what an idle bed keeps, whole or torn
  module _ (b : ℕ) (l : b < n) (run : Running w b) (idle : (bed w b).phase ≡ Idle) (left : (bed w b).round < round_count) where
    own : Batch V' n (own_batch (bed w b))
    own = own_batch_lem V' n (bed w b) (old_set b run)

    own_slot : Slot V' n b (bed w b).round (w.kept b) w.board.decision (own_batch (bed w b))
    own_slot = record { bed_in = l; round_in = left; batch = own; ordered = (m.good.bed b run).passed }

    kept_store : Fills w.kept b (bed w b).round (own_batch (bed w b)) w'.kept → Store V' n w'.kept w.board
    kept_store f = fills_store V' n w.kept w'.kept w.board b (bed w b).round (own_batch (bed w b)) f own_slot old_store

    kept_others : Fills w.kept b (bed w b).round (own_batch (bed w b)) w'.kept → (c : ℕ) → (c ≡ b → ⊥) → (k : ℕ) → w'.kept c k ≡ w.kept c k
    kept_others f c d k = f.elsewhere c k (λ e z. d e)

  propose_next : (b : ℕ) → ProposeDoes w b a w' → Next V' n w a w'
  propose_next b h =
      proposing_next b (row w (HoldsOther w b) (rf.Memory mr.Differs) (Proposes w b)) h λ l run idle left h.
      elim h [
        | inl d ↦ absurd (not_none (w.kept b (bed w b).round) d.0.old d.0.held ((m.good.bed b run).idle idle))
        | inr d ↦ go l run idle left d.1
      ]
    where
      go : b < n → Running w b → (bed w b).phase ≡ Idle → (bed w b).round < round_count → Proposes w b a w' → Next V' n w a w'
      go l run idle left p =
          let x : Bed = bed w b in
          let r : ℕ = x.round in
          let v : List ℕ = own_batch x in
          let old = m.good.bed b run in
          let in_memory = keep_within V' n b r v m.most l left (own b l run idle left) in
          let holds : w'.kept b r ≡ Some v = p.keeps.takes in_memory (old.idle idle) in
          let f : Fills w.kept b r v w'.kept = record { was = old.idle idle; now = inr holds; elsewhere = p.keeps.elsewhere } in
          let gd = settles_grow w.board r w'.board p.puts.settles in
          let grow = fills_grow w.kept b r v w'.kept f b in
          change m b l (waiting_now x) (ok_harmless a rp.Done p.answer)
          (record {
            beds = p.beds;
            own = grow;
            others = kept_others b l run idle left f;
            decisions = gd;
            store = put_store V' n m.most w'.kept w.board b r v p.put_answer w'.board holds p.puts (kept_store b l run idle left f);
            here = λ z. record {
              round = old.round;
              queue = old.queue ∙ delivered_grow n w.board.decision w'.board.decision gd r (λ k j. (old.passed k j).1);
              passed = past_grow (w.kept b) (w'.kept b) w.board.decision w'.board.decision grow gd r old.passed;
              waiting = λ y. (left, is_some_lem (w'.kept b r) v holds);
              ahead = λ k j. p.keeps.elsewhere b k (λ e y. omega arith) ∙ old.ahead k j;
              idle = λ y. absurd (idle_waits (sym y));
              set = old_set b run;
            };
            went = λ z. inl (run, omega arith);
          })

  trip_next : (named b «at» : ℕ) → TripDoes named w b «at» a w' → Next V' n w a w'
  trip_next named b «at» h =
      proposing_next b (Trips named w b «at») h λ l run idle left p.
      let x : Bed = bed w b in
      let r : ℕ = x.round in
      let v : List ℕ = own_batch x in
      let empty = (m.good.bed b run).idle idle in
      let in_memory = keep_within V' n b r v m.most l left (own b l run idle left) in
      let f : Fills w.kept b r v w'.kept = record { was = empty; now = p.tears.either in_memory empty; elsewhere = p.tears.elsewhere } in
      change m b l off_bed (ok_harmless a rp.Done p.answer)
      (record {
        beds = p.beds;
        own = fills_grow w.kept b r v w'.kept f b;
        others = kept_others b l run idle left f;
        decisions = λ k u e. ap (λ (s : Board). s.decision k) p.board ∙ e;
        store = subst (Store V' n w'.kept) (sym p.board) (kept_store b l run idle left f);
        here = λ z. absurd (z refl);
        went = λ z. absurd (z refl);
      })

  collect_next : (b : ℕ) → CollectDoes w b a w' → Next V' n w a w'
  collect_next b h =
      on_running_lem m h λ l run h.
      by_row m h tt λ waits p.
      go l run (waiting_from (bed w b).phase run waits) p.kept (settles_grow w.board (bed w b).round w'.board p.polls.settles)
      (subst (λ slots. Store V' n slots w'.board) (sym p.kept) (poll_store V' n w.kept w.board (bed w b).round p.poll_answer w'.board p.polls old_store)) p.outcome
    where
      x : Bed
      x = bed w b

      go : b < n → Running w b → x.phase ≡ Waiting → w'.kept ≡ w.kept → Grow w.board.decision w'.board.decision → Store V' n w'.kept w'.board → Collected w b a w' → Next V' n w a w'
      go l run waits kept gd st (Collected.undecided none answer beds) = still m beds kept gd st (subst Harmless (sym answer) tt)
      go l run waits kept gd st (Collected.bad_decided v f d bad answer beds) =
          absurd (batch_not_faulty V' n v f m.most (decided_batch V' n w'.kept w'.board st x.round v d) (subst (λ k. batch_of k v ≡ Err f) m.good.size bad))
      go l run waits kept gd st (Collected.decided v ts d good answer beds) =
          let r : ℕ = x.round in
          let slots : (c j : ℕ) → w'.kept c j ≡ w.kept c j = λ c j. ap (λ (slots : Slots). slots c j) kept in
          let old = bed_grow V V' n (w.kept b) (w'.kept b) w.board.decision w'.board.decision x m.more (slots b) gd (m.good.bed b run) in
          let held = old.waiting waits in
          let batch : IsBatch n v ts = subst (λ k. IsBatch k v ts) m.good.size good in
          let here : ts ≡ tickets_in n (w'.board.decision r) = sym (tickets_in_lem n v ts m.most batch) ∙ ap (tickets_in n) (sym d) in
          let whole : append x.queue ts ≡ delivered n w'.board.decision (suc r) = ap (λ q. append q ts) old.queue ∙ ap (append (delivered n w'.board.decision r)) here in
          change m b l (collected x ts) (ok_harmless a rp.Done answer)
          (record {
            beds = beds;
            own = λ k u e. slots b k ∙ e;
            others = λ c z k. slots c k;
            decisions = gd;
            store = st;
            here = λ z. record {
              round = omega (arith, held.0);
              queue = whole ∙ ap (delivered n w'.board.decision) (sym (add-one r));
              passed = past_more (w'.kept b) w'.board.decision r old.passed (held.1, is_some_lem (w'.board.decision r) v d);
              waiting = λ y. absurd (idle_waits y);
              ahead = λ k j. old.ahead k (omega arith);
              idle = λ y. old.ahead (r + 1) (omega arith);
              set = record {
                sound = edit_laws.passing_sound n set_tickets (λ t. not (known t (append x.queue ts))) x.waiting old.set.sound;
                valid = each_part V' _ x.waiting (passing_part (λ t. not (known t (append x.queue ts))) x.waiting) old.set.valid;
              };
            };
            went = λ z. inl (run, omega arith);
          })

  start_next : (b : ℕ) → StartDoes w b a w' → Next V' n w a w'
  start_next b h =
      by_row m h tt λ in_group h.
      by_row m h tt λ off p.
      let s = start_starts V n w b a w' m.most m.good p in
      let e = s.ends in
      let slots : (c j : ℕ) → w'.kept c j ≡ w.kept c j = λ c j. ap (λ (slots : Slots). slots c j) s.kept in
      change m b (subst (λ k. b < k) m.good.size (not_le (size w) b in_group)) e.bed (ok_harmless a rp.Done s.done)
      (record {
        beds = s.beds;
        own = λ k u f. slots b k ∙ f;
        others = λ c z k. slots c k;
        decisions = e.grows;
        store = subst (λ slots. Store V' n slots w'.board) (sym s.kept) (store_more V V' n w.kept w'.board m.more e.store);
        here = λ z. bed_grow V V' n (w.kept b) (w'.kept b) w'.board.decision w'.board.decision e.bed m.more (slots b) (λ r u f. f) e.good;
        went = λ z. inr (subst (λ (slots : Slots). First (slots b) w'.board.decision e.bed.round) (sym s.kept) e.first);
      })

-- any call
pub step : (named : ℕ) {V V' : Ticket → Type 0} {n : ℕ} {w w' : World} {a : Answer} → Made V V' n w a w' → (c : Call) → Feeds V' n c a → Does named w c a w' → Next V' n w a w'
step named m (call.Start b) f h = start_next m b h
step named m (call.Submit b number paths sheet) f h = submit_next m b number paths sheet (f.submitted b number paths sheet refl) h
step named m (call.Send b room) f h = send_next m b room h
step named m (call.Hear b bytes) f h = hear_next m b bytes.now (λ from round ts acc p. f.heard bytes.now from round ts refl acc p) h
step named m (call.Propose b) f h = propose_next m b h
step named m (call.Trip b «at» junk) f h = trip_next m named b «at» h
step named m (call.Collect b) f h = collect_next m b h
step named m (call.Off b) f h = off_next m b h
