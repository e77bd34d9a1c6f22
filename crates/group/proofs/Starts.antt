-- What one round of a start comes to.
use Rattle.std.proofs.Common.{◌≡◌, ℕ, suc, ◌<◌, ◌≤◌, List, [], length, Some, None, Ok, Err, Option, Result, sym, refl, ap, ◌∙◌, subst, inl, inr, add-one, arith, Bor}
use Rattle.codec.specs.Limits.{max_beds, batch_tickets}
use Rattle.codec.specs.TicketList.{Sound}
use Rattle.codec.specs.Batch.{IsBatch, batch_of}
use Rattle.codec.specs.Value.{value_bytes}
use Rattle.codec.specs.declared.ticket.Ticket.{Ticket}
use Rattle.codec.specs.declared.value.Value.{Value}
use Rattle.codec.specs.declared.whole.Source.TheVariants as so
use Rattle.codec.specs.declared.whole.WholeFault.{WholeFault}
use Rattle.memory.specs.Meaning.{Slots, Reads, behind}
use Rattle.memory.specs.declared.refusal.MemoryRefusal.{MemoryRefusal}
use Rattle.decision.specs.Limits.{round_count}
use Rattle.decision.specs.Meaning.{Board, Puts, Polls}
use Rattle.decision.specs.declared.refusal.DecisionRefusal.{DecisionRefusal}
use Rattle.decision.specs.declared.refusal.DecisionRefusal.TheVariants as dr
use Rattle.decision.specs.declared.service.PutAnswer.{PutAnswer}
use Rattle.group.specs.Queue.{append}
use Rattle.group.specs.Limits.{set_tickets}
use Rattle.group.specs.World.{Bed, World, size}
use Rattle.group.specs.Outcome.{Answer, faulty}
use Rattle.group.specs.Admission.{admitted}
use Rattle.group.specs.Replay.{Replay, Proposed, started}
use Rattle.group.specs.Calls.{collected, starting, StartDoes}
use Rattle.group.specs.Table.{world_of, no_record, record_of}
use Rattle.group.specs.Record.{bed_of, BedSound, queued_in, waiting_in, CollectsBatch}
use Rattle.group.specs.Start.{StartSound, From}
use Rattle.group.specs.declared.bed.BedRecord.{BedRecord}
use Rattle.group.specs.declared.bed.Event.TheVariants as ev
use Rattle.group.specs.declared.bed.Phase.{Phase}
use Rattle.group.specs.declared.bed.Phase.TheVariants.{Off, Idle, Waiting}
use Rattle.group.specs.declared.queue.Queue.{Queue}
use Rattle.group.specs.declared.table.Table.{Table}
use Rattle.group.specs.declared.refusal.Refusal.TheVariants as rf
use Rattle.group.specs.declared.refusal.Refusal.{Refusal}
use Rattle.group.proofs.Replays.{idle_runs, waiting_runs, idle_waits}
use Rattle.group.proofs.Tables.{table_size, table_bed}
use Rattle.group.proofs.Options.{cases_option, ok_err, same_ok}

-- what a read lends is what the slot holds
pub read_is : (m : Slots) (b r : ℕ) (a : Result (Option (Bor (List ℕ))) MemoryRefusal) (o : Option (Bor (List ℕ))) → b < max_beds → r < round_count → Reads m b r a → a ≡ Ok o → behind o ≡ m b r
read_is m b r a o low left h e =
    let x = h.inside (record { bed_in = low; slot_in = left }) in
    ap behind (same_ok a o x.0 e x.1.0) ∙ x.1.1

module _ (n : ℕ) (slots : ℕ → Option (List ℕ)) (b : ℕ) (r : BedRecord) (sound : StartSound r) where
  pub replay_over : (s : Board) → round_count ≤ r.round → Replay n slots b r.round (queued_in r.queue) s (Ok (bed_of r)) s
  replay_over s l =
      let e : r.round ≡ round_count = omega (arith, sound.round, l) in
      subst (λ x. Replay n slots b r.round (queued_in r.queue) s (Ok x) s) (sym sound.bed)
      (subst (λ k. Replay n slots b k (queued_in r.queue) s (Ok (started Idle k (queued_in r.queue))) s) (sym e) Replay.over)

  module _ (left : r.round < round_count) where
    pub replay_empty : (s : Board) → slots r.round ≡ None → Replay n slots b r.round (queued_in r.queue) s (Ok (bed_of r)) s
    replay_empty s z = subst (λ x. Replay n slots b r.round (queued_in r.queue) s (Ok x) s) (sym sound.bed) (Replay.empty left z)

    pub replay_bad_kept : (s : Board) (bytes : List ℕ) (f : WholeFault) → slots r.round ≡ Some bytes → batch_of n bytes ≡ Err f → Replay n slots b r.round (queued_in r.queue) s (Err (faulty f b r.round so.Memory)) s
    replay_bad_kept s bytes f full bad = Replay.bad_kept bytes f left full bad

    -- the kept batch put and its round polled
    pub proposed : (s : Board) (bytes : List ℕ) (ts : List Ticket) (o : Result PutAnswer DecisionRefusal) (s₁ : Board) (p : Result Value DecisionRefusal) (s₂ : Board) → slots r.round ≡ Some bytes → IsBatch n bytes ts →
        Puts s b r.round bytes o s₁ → Polls s₁ r.round p s₂ → Proposed n b r.round (slots r.round) s s₂
    proposed s bytes ts o s₁ p s₂ full batch puts polls =
        record { left = left; bytes = bytes; full = full; tickets = ts; sound = batch; put_answer = o; between = s₁; puts = puts; poll_answer = p; polls = polls }

    -- what a poll answers is the decision that then stands
    pub no_decision : (s₁ : Board) (p : Result Value DecisionRefusal) (e : DecisionRefusal) (s₂ : Board) → Polls s₁ r.round p s₂ → p ≡ Err e → s₂.decision r.round ≡ None
    no_decision s₁ p e s₂ h f =
        elim (cases_option (s₂.decision r.round)) [ inl z ↦ z | inr v ↦ let x = (h.answer left).decision v.0 v.1 in absurd (ok_err p x.0 e x.1.0 f) ]

    pub a_decision : (s₁ : Board) (p : Result Value DecisionRefusal) (x : Value) (s₂ : Board) → Polls s₁ r.round p s₂ → p ≡ Ok x → s₂.decision r.round ≡ Some (value_bytes x)
    a_decision s₁ p x s₂ h f =
        elim (cases_option (s₂.decision r.round)) [
          | inl z ↦ absurd (ok_err p x dr.Undecided f ((h.answer left).none z))
          | inr v ↦ let y = (h.answer left).decision v.0 v.1 in v.1 ∙ ap Some (sym y.1.1) ∙ ap (λ z. Some (value_bytes z)) (same_ok p y.0 x y.1.0 f)
        ]

    pub replay_undecided : (s s₂ : Board) (r' : BedRecord) → Proposed n b r.round (slots r.round) s s₂ → s₂.decision r.round ≡ None → bed_of r' ≡ started Waiting r.round (queued_in r.queue) →
        Replay n slots b r.round (queued_in r.queue) s (Ok (bed_of r')) s₂
    replay_undecided s s₂ r' p z e = subst (λ x. Replay n slots b r.round (queued_in r.queue) s (Ok x) s₂) (sym e) (Replay.undecided p z)

    pub replay_bad_decided : (s s₂ : Board) (bytes : List ℕ) (f : WholeFault) → Proposed n b r.round (slots r.round) s s₂ → s₂.decision r.round ≡ Some bytes → batch_of n bytes ≡ Err f →
        Replay n slots b r.round (queued_in r.queue) s (Err (faulty f b r.round so.Service)) s₂
    replay_bad_decided s s₂ bytes f p d bad = Replay.bad_decided bytes f p d bad

    -- the decided batch comes into the queue
    module _ (ts : List Ticket) (r' : BedRecord) (h : CollectsBatch ts r r') where
      pub next_round : r'.round ≡ suc r.round
      next_round = ap (λ (x : Bed). x.round) h.bed ∙ add-one r.round

      queue_is : queued_in r'.queue ≡ append (queued_in r.queue) ts
      queue_is = ap (λ (x : Bed). x.queue) h.bed

      pub replay_next : (s s₂ : Board) (bytes : List ℕ) → Proposed n b r.round (slots r.round) s s₂ → s₂.decision r.round ≡ Some bytes → IsBatch n bytes ts → From n slots b r s r' s₂
      replay_next s s₂ bytes p d batch end s₃ more =
          Replay.next bytes ts p d batch
          (subst (λ q. Replay n slots b (suc r.round) q s₂ end s₃) queue_is (subst (λ k. Replay n slots b k (queued_in r'.queue) s₂ end s₃) next_round more))

      pub next_sound : length ts ≤ batch_tickets → StartSound r'
      next_sound few =
          record {
            bed =
                h.bed ∙ ap (λ (x : Bed). collected x ts) sound.bed ∙ ap (λ k. started Idle k (append (queued_in r.queue) ts)) (add-one r.round ∙ sym next_round)
                ∙ ap (started Idle r'.round) (sym queue_is);
            queue_len = omega (arith, h.queue_len, sound.queue_len, next_round, few);
            round = omega (arith, next_round, left);
          }

-- ---- the rows

refuses : (x : Phase) (e : Refusal) → admitted x ev.Start ≡ Err e → (x ≡ Off → ⊥) × (e ≡ rf.Running)
refuses Off e h = let z : ◌≡◌ {A = ℕ} 0 1 = cc in absurd (omega arith)
refuses Idle e h = (idle_runs, cc)
refuses Waiting e h = (waiting_runs, cc)

accepts : (x p : Phase) → admitted x ev.Start ≡ Ok p → x ≡ Off
accepts Off p h = refl
accepts Idle p h = let z : ◌≡◌ {A = ℕ} 0 1 = cc in absurd (omega arith)
accepts Waiting p h = let z : ◌≡◌ {A = ℕ} 0 1 = cc in absurd (omega arith)

pub start_refuses : (w : World) (b : ℕ) (a : Answer) (w' : World) → starting w b (λ _ _. ⊥) a w' → StartDoes w b a w'
start_refuses w b a w' (inl h) = inl h
start_refuses w b a w' (inr (x, inl h)) = inr (x, inl h)
start_refuses w b a w' (inr (x, inr h)) = absurd h.1

-- ---- sound in the end

pub end_sound : (n : ℕ) (r r' : BedRecord) → StartSound r → r'.waiting ≡ r.waiting → r'.queue ≡ r.queue → r'.round ≡ r.round → (r'.phase ≡ Waiting → r.round < round_count) → BedSound n r'
end_sound n r r' s w q k left = record {
  set = subst (Sound n set_tickets) (sym (ap waiting_in w ∙ ap (λ (x : Bed). x.waiting) s.bed)) (record { ranged = tt; rising = tt; apart = tt; few = omega arith });
  queue_len = omega (arith, ap (λ (x : Queue). length (queued_in x)) q, s.queue_len, k);
  round = omega (arith, k, s.round);
  waits = λ e. omega (arith, k, left e);
}

pub idle_sound : (n : ℕ) (r : BedRecord) → StartSound r → BedSound n r
idle_sound n r s = end_sound n r r s refl refl refl (λ e. absurd (idle_waits (sym (ap (λ (x : Bed). x.phase) s.bed) ∙ e)))

-- ---- the call

module _ (t : Table) (m : Slots) (s : Board) (b : ℕ) (low : b < t.size.count) (off : (record_of t b).phase ≡ Off) where
  rows : {Rest : Type 0} (a : Answer) (w' : World) → Rest → starting (world_of t m s) b (λ _ _. Rest) a w'
  rows a w' h = inr ((λ l. omega (arith, table_size t, low, l)), inr ((λ f. f (ap (λ (x : Bed). x.phase) (table_bed t b no_record low) ∙ off)), h))

  sized : (end : Result Bed Refusal) (s' : Board) → Replay t.size.count (m b) b 0 [] s end s' → Replay (size (world_of t m s)) (m b) b 0 [] s end s'
  sized end s' h = subst (λ n. Replay n (m b) b 0 [] s end s') (sym (table_size t)) h
