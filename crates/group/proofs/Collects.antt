-- What a collect comes to, by what the service does.
use Rattle.std.proofs.Common.{◌≡◌, ℕ, ◌+◌, ◌<◌, ◌≤◌, not, ◌⊎◌, List, length, get_or, set, Some, Ok, Err, Result, sym, refl, ap, ◌∙◌, subst, inl, inr, arith}
use Rattle.codec.specs.Limits.{batch_tickets}
use Rattle.codec.specs.TicketList.{Sound, known}
use Rattle.codec.specs.Batch.{IsBatch, batch_of}
use Rattle.codec.specs.Value.{value_bytes}
use Rattle.codec.specs.declared.ticket.Ticket.{Ticket}
use Rattle.codec.specs.declared.value.Value.{Value}
use Rattle.codec.specs.declared.whole.Source.TheVariants as so
use Rattle.codec.specs.declared.whole.WholeFault.{WholeFault}
use Rattle.codec.proofs.ListEdits.{edit_laws}
use Rattle.memory.specs.Meaning.{Slots}
use Rattle.decision.specs.Limits.{round_count}
use Rattle.decision.specs.Meaning.{Board, Polls}
use Rattle.decision.specs.declared.refusal.DecisionRefusal.{DecisionRefusal}
use Rattle.decision.specs.declared.refusal.DecisionRefusal.TheVariants as dr
use Rattle.group.specs.Limits.{set_tickets}
use Rattle.group.specs.Queue.{append}
use Rattle.group.specs.World.{Bed, World, bed, off_bed}
use Rattle.group.specs.Outcome.{Answer, faulty}
use Rattle.group.specs.Admission.{admitted}
use Rattle.group.specs.Calls.{collecting, CollectDoes, Collected, collected}
use Rattle.group.specs.Proposal.{Collectable}
use Rattle.group.specs.Record.{bed_of, BedSound, CollectsBatch, waiting_in, queued_in}
use Rattle.group.specs.Table.{world_of, beds_of, no_record, record_of}
use Rattle.group.specs.declared.bed.BedRecord.{BedRecord}
use Rattle.group.specs.declared.bed.Event.TheVariants as ev
use Rattle.group.specs.declared.bed.Phase.{Phase}
use Rattle.group.specs.declared.bed.Phase.TheVariants.{Off, Idle, Waiting}
use Rattle.group.specs.declared.call.Reply.TheVariants.{Done}
use Rattle.group.specs.declared.proposal.Turn.{Turn}
use Rattle.group.specs.declared.refusal.Refusal.{Refusal}
use Rattle.group.specs.declared.refusal.Refusal.TheVariants as rf
use Rattle.group.specs.declared.table.Table.{Table}
use Rattle.group.proofs.Options.{cases_option, ok_err, same_err, same_ok}
use Rattle.group.proofs.Replays.{waiting_runs, idle_waits}
use Rattle.group.proofs.Tables.{table_size, table_bed, fits, bounded, runs}

-- ---- the rows

refuses : (x : Phase) (e : Refusal) → admitted x ev.Collect ≡ Err e → ((x ≡ Off) × (e ≡ rf.BedOff)) ⊎ ((x ≡ Idle) × (e ≡ rf.Idle))
refuses Off e h = inl (refl, cc)
refuses Idle e h = inr (refl, cc)
refuses Waiting e h = let z : ◌≡◌ {A = ℕ} 0 1 = cc in absurd (omega arith)

accepts : (x p : Phase) → admitted x ev.Collect ≡ Ok p → x ≡ Waiting
accepts Off p h = let z : ◌≡◌ {A = ℕ} 0 1 = cc in absurd (omega arith)
accepts Idle p h = let z : ◌≡◌ {A = ℕ} 0 1 = cc in absurd (omega arith)
accepts Waiting p h = refl

pub collect_refuses : (w : World) (b : ℕ) (a : Answer) (w' : World) → collecting w b (λ _ _. ⊥) a w' → CollectDoes w b a w'
collect_refuses w b a w' (inl h) = inl h
collect_refuses w b a w' (inr (x, inl h)) = inr (x, inl h)
collect_refuses w b a w' (inr (x, inr (y, inl h))) = inr (x, inr (y, inl h))
collect_refuses w b a w' (inr (x, inr (y, inr h))) = absurd h.1

-- ---- the record

-- a waiting record has a round left
pub round_left : (t : Table) (i : ℕ) → i < length t.beds → (record_of t i).phase ≡ Waiting → (record_of t i).round < round_count
round_left t i low waits = bounded t i _ _ low (λ s. s.waits waits)

pub collected_sound : (n : ℕ) (ts : List Ticket) (r r' : BedRecord) → CollectsBatch ts r r' → r.round < round_count → length ts ≤ batch_tickets → BedSound n r → BedSound n r'
collected_sound n ts r r' h left few s =
    let round : r'.round ≡ r.round + 1 = ap (λ (x : Bed). x.round) h.bed in
    record {
      set =
          subst (Sound n set_tickets) (sym (ap (λ (x : Bed). x.waiting) h.bed))
          (edit_laws.passing_sound n set_tickets (λ t. not (known t (append (queued_in r.queue) ts))) (waiting_in r.waiting) s.set);
      queue_len = omega (arith, h.queue_len, s.queue_len, round, few);
      round = omega (arith, round, left);
      waits = λ e. absurd (idle_waits (sym (ap (λ (x : Bed). x.phase) h.bed) ∙ e));
    }

-- ---- the call

module _ (t : Table) (m : Slots) (s : Board) (b : ℕ) (p : Turn) (on : Collectable t b p) where
  shows : bed (world_of t m s) b ≡ bed_of (record_of t b)
  shows = table_bed t b no_record on.low

  round_is : p.round ≡ (bed (world_of t m s) b).round
  round_is = on.round ∙ ap (λ (x : Bed). x.round) (sym shows)

  left : p.round < round_count
  left = subst (λ k. k < round_count) (sym on.round) (round_left t b (omega (arith, on.low, fits t)) on.waits)

  rows : {Rest : Type 0} (a : Answer) (w' : World) → Rest → collecting (world_of t m s) b (λ _ _. Rest) a w'
  rows a w' h =
      runs t m s b a w' on.low (λ z. waiting_runs (sym on.waits ∙ z))
      (inr ((λ z. idle_waits (sym z ∙ ap (λ (x : Bed). x.phase) shows ∙ on.waits)), h))

  -- by the poll of the bed's round
  polled : (o : Result Value DecisionRefusal) (s' : Board) → Polls s p.round o s' → Polls s (bed (world_of t m s) b).round o s'
  polled o s' h = subst (λ r. Polls s r o s') round_is h

  pub collect_undecided : (o : Result Value DecisionRefusal) (e : DecisionRefusal) (s' : Board) → Polls s p.round o s' → o ≡ Err e → CollectDoes (world_of t m s) b (Err (rf.Service e)) (world_of t m s')
  collect_undecided o e s' h f =
      rows (Err (rf.Service e)) (world_of t m s')
      (elim (cases_option (s'.decision p.round)) [
        | inr v ↦ let x = (h.answer left).decision v.0 v.1 in absurd (ok_err o x.0 e x.1.0 f)
        | inl z ↦
            record {
              kept = refl;
              poll_answer = o;
              polls = polled o s' h;
              outcome = Collected.undecided (ap s'.decision (sym round_is) ∙ z) (ap (λ x. Err (rf.Service x)) (same_err o e dr.Undecided f ((h.answer left).none z))) refl;
            }
      ])

  -- what a poll answers is the decision that then stands
  decided : (o : Result Value DecisionRefusal) (x : Value) (s' : Board) → Polls s p.round o s' → o ≡ Ok x → s'.decision p.round ≡ Some (value_bytes x)
  decided o x s' h f =
      elim (cases_option (s'.decision p.round)) [
        | inl z ↦ absurd (ok_err o x dr.Undecided f ((h.answer left).none z))
        | inr v ↦
            let y = (h.answer left).decision v.0 v.1 in
            let same : y.0 ≡ x = same_ok o y.0 x y.1.0 f in
            v.1 ∙ ap Some (sym y.1.1) ∙ ap (λ z. Some (value_bytes z)) same
      ]

  pub collect_faulty : (o : Result Value DecisionRefusal) (x : Value) (s' : Board) (f : WholeFault) → Polls s p.round o s' → o ≡ Ok x → batch_of t.size.count (value_bytes x) ≡ Err f →
      CollectDoes (world_of t m s) b (Err (faulty f b p.round so.Service)) (world_of t m s')
  collect_faulty o x s' f h ok bad =
      rows _ (world_of t m s')
      (record {
        kept = refl;
        poll_answer = o;
        polls = polled o s' h;
        outcome = Collected.bad_decided (value_bytes x) f (ap s'.decision (sym round_is) ∙ decided o x s' h ok) (ap (λ k. batch_of k (value_bytes x)) (table_size t) ∙ bad) (ap (λ r. Err (faulty f b r so.Service)) round_is) refl;
      })

  pub collect_done : (o : Result Value DecisionRefusal) (x : Value) (s' : Board) (ts : List Ticket) (t' : Table) → Polls s p.round o s' → o ≡ Ok x → IsBatch t.size.count (value_bytes x) ts →
      beds_of t' ≡ set (beds_of t) p.index (collected (get_or (beds_of t) p.index off_bed) ts) → CollectDoes (world_of t m s) b (Ok Done) (world_of t' m s')
  collect_done o x s' ts t' h ok batch beds =
      rows (Ok Done) (world_of t' m s')
      (record {
        kept = refl;
        poll_answer = o;
        polls = polled o s' h;
        outcome = Collected.decided (value_bytes x) ts (ap s'.decision (sym round_is) ∙ decided o x s' h ok) (subst (λ k. IsBatch k (value_bytes x) ts) (sym (table_size t)) batch) refl (beds ∙ ap (λ i. set (beds_of t) i (collected (get_or (beds_of t) i off_bed) ts)) on.index);
      })
