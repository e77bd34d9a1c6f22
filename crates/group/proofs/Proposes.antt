-- What a propose and a trip come to, by what memory and service do.
use Rattle.std.proofs.Common.{◌≡◌, ℕ, List, length, get_or, set, Some, Ok, Err, Result, sym, refl, ap, ◌∙◌, subst, inl, inr, arith}
use Rattle.codec.specs.Value.{value_bytes}
use Rattle.codec.proofs.Values.{value_some, value_most}
use Rattle.memory.specs.Meaning.{Slots, Within, Keeps}
use Rattle.memory.specs.declared.refusal.MemoryRefusal.{MemoryRefusal}
use Rattle.memory.specs.declared.refusal.MemoryRefusal.TheVariants as mr
use Rattle.decision.specs.Meaning.{Board, Puts}
use Rattle.decision.specs.declared.refusal.DecisionRefusal.{DecisionRefusal}
use Rattle.decision.specs.declared.service.PutAnswer.{PutAnswer}
use Rattle.group.specs.World.{Bed, World, bed, off_bed}
use Rattle.group.specs.Outcome.{Answer, Outcome, row}
use Rattle.group.specs.Calls.{proposing, ProposeDoes, TripDoes, HoldsOther, Proposes, Trips, own_batch, waiting_now, NoReason}
use Rattle.group.specs.Proposal.{Proposable}
use Rattle.group.specs.Record.{bed_of}
use Rattle.group.specs.Table.{world_of, beds_of, no_record, record_of}
use Rattle.group.specs.declared.call.Reply.TheVariants.{Done}
use Rattle.group.specs.declared.proposal.Proposal.{Proposal}
use Rattle.group.specs.declared.refusal.Refusal.TheVariants as rf
use Rattle.group.specs.declared.table.Table.{Table}
use Rattle.group.proofs.Options.{cases_option, ok_err, same_err}
use Rattle.group.proofs.Replays.{idle_runs, idle_waits}
use Rattle.group.proofs.Stores.{cases_place, at_place}
use Rattle.group.proofs.Tables.{table_bed, runs}

-- refused by the rows, whatever comes after them
rows_refuse : (w : World) (b : ℕ) (rest : Outcome) (a : Answer) (w' : World) → proposing w b (λ _ _. ⊥) a w' → proposing w b rest a w'
rows_refuse w b rest a w' (inl h) = inl h
rows_refuse w b rest a w' (inr (x, inl h)) = inr (x, inl h)
rows_refuse w b rest a w' (inr (x, inr (y, inl h))) = inr (x, inr (y, inl h))
rows_refuse w b rest a w' (inr (x, inr (y, inr (z, inl h)))) = inr (x, inr (y, inr (z, inl h)))
rows_refuse w b rest a w' (inr (x, inr (y, inr (z, inr (v, inl h))))) = inr (x, inr (y, inr (z, inr (v, inl h))))
rows_refuse w b rest a w' (inr (x, inr (y, inr (z, inr (v, inr h))))) = absurd h.1

pub propose_refuses : (w : World) (b : ℕ) (a : Answer) (w' : World) → proposing w b (λ _ _. ⊥) a w' → ProposeDoes w b a w'
propose_refuses w b a w' h = rows_refuse w b (row w (HoldsOther w b) (rf.Memory mr.Differs) (Proposes w b)) a w' h

pub trip_refuses : (named : ℕ) (w : World) (b «at» : ℕ) (a : Answer) (w' : World) → proposing w b (λ _ _. ⊥) a w' → TripDoes named w b «at» a w'
trip_refuses named w b «at» a w' h = rows_refuse w b (Trips named w b «at») a w' h

-- slots that are all as they were
same_slots : (m m' : Slots) → ((b s : ℕ) → m' b s ≡ m b s) → m' ≡ m
same_slots m m' h k b s = h b s k

module _ (t : Table) (m : Slots) (s : Board) (b : ℕ) (p : Proposal) (on : Proposable t b p) where
  shows : bed (world_of t m s) b ≡ bed_of (record_of t b)
  shows = table_bed t b no_record on.low

  round_is : (bed (world_of t m s) b).round ≡ p.turn.round
  round_is = ap (λ (x : Bed). x.round) shows ∙ sym on.round

  batch_is : value_bytes p.batch ≡ own_batch (bed (world_of t m s) b)
  batch_is = on.batch ∙ ap own_batch (sym shows)

  within : Within b p.turn.round (length (value_bytes p.batch))
  within = record {
    place = record { bed_in = omega (arith, on.low, t.size.most); slot_in = omega (arith, on.left, on.round) };
    some = value_some p.batch;
    most = value_most p.batch;
  }

  rows : {Rest : Type 0} (a : Answer) (w' : World) → Rest → proposing (world_of t m s) b (λ _ _. Rest) a w'
  rows a w' h =
      runs t m s b a w' on.low (λ z. idle_runs (sym on.idle ∙ z))
      (inr (
        (λ z. idle_waits (sym (ap (λ (x : Bed). x.phase) shows ∙ on.idle) ∙ z)),
        inr (
          (λ l. omega (arith, l, on.left, ap (λ (x : Bed). x.round) shows)),
          inr ((λ n. on.reason (subst NoReason shows n)), h),
        ),
      ))

  -- the slot holds other bytes, and nothing has changed
  record Refused (a : Result (Unit {0}) MemoryRefusal) (e : MemoryRefusal) (m' : Slots) : Type 0 where
    differs : e ≡ mr.Differs
    other : HoldsOther (world_of t m s) b
    same : m' ≡ m

  refused : (a : Result (Unit {0}) MemoryRefusal) (e : MemoryRefusal) (m' : Slots) → Keeps m b p.turn.round (value_bytes p.batch) a m' → a ≡ Err e → Refused a e m'
  refused a e m' k f =
      elim (cases_option (m b p.turn.round)) [
        | inl z ↦ absurd (ok_err a tt e ((k.inside within).fresh z) f)
        | inr y ↦
            let old : List ℕ = y.0 in
            let d : old ≡ value_bytes p.batch → ⊥ = λ x. ok_err a tt e ((k.inside within).again (y.1 ∙ ap Some x)) f in
            record {
              differs = same_err a e mr.Differs f ((k.inside within).differs old y.1 d);
              other = record { old = old; held = ap (m b) round_is ∙ y.1; differs = λ x. d (x ∙ sym batch_is) };
              same = same_slots m m' (λ c j.
                  elim (cases_place b p.turn.round c j) [
                    | inl q ↦ at_place m' b p.turn.round c j q ∙ k.stays old y.1 ∙ sym y.1 ∙ sym (at_place m b p.turn.round c j q)
                    | inr q ↦ k.elsewhere c j q
                  ]);
            }
      ]

  pub propose_differs : (a : Result (Unit {0}) MemoryRefusal) (e : MemoryRefusal) (m' : Slots) → Keeps m b p.turn.round (value_bytes p.batch) a m' → a ≡ Err e → ProposeDoes (world_of t m s) b (Err (rf.Memory e)) (world_of t m' s)
  propose_differs a e m' k f =
      let r = refused a e m' k f in
      rows (Err (rf.Memory e)) (world_of t m' s) (inl (r.other, (ap (λ x. Err (rf.Memory x)) r.differs, ap (λ x. world_of t x s) r.same)))

  pub propose_done : (a : Result (Unit {0}) MemoryRefusal) (m' : Slots) (o : Result PutAnswer DecisionRefusal) (s' : Board) (t' : Table) →
      Keeps m b p.turn.round (value_bytes p.batch) a m' → a ≡ Ok tt → Puts s b p.turn.round (value_bytes p.batch) o s' →
      beds_of t' ≡ set (beds_of t) p.turn.index (waiting_now (get_or (beds_of t) p.turn.index off_bed)) → ProposeDoes (world_of t m s) b (Ok Done) (world_of t' m' s')
  propose_done a m' o s' t' k ok put beds =
      rows (Ok Done) (world_of t' m' s')
      (inr (
        (λ h. free h),
        record {
          keeps = subst (λ r. Keeps m b r (own_batch (bed (world_of t m s) b)) (Ok tt) m') (sym round_is) (subst (λ v. Keeps m b p.turn.round v (Ok tt) m') batch_is (subst (λ x. Keeps m b p.turn.round (value_bytes p.batch) x m') ok k));
          put_answer = o;
          puts = subst (λ r. Puts s b r (own_batch (bed (world_of t m s) b)) o s') (sym round_is) (subst (λ v. Puts s b p.turn.round v o s') batch_is put);
          beds = beds ∙ ap (λ i. set (beds_of t) i (waiting_now (get_or (beds_of t) i off_bed))) on.index;
          answer = refl;
        },
      ))
    where
      free : HoldsOther (world_of t m s) b → ⊥
      free h = ok_err a tt mr.Differs ok ((k.inside within).differs h.old (sym (ap (m b) round_is) ∙ h.held) (λ x. h.differs (x ∙ batch_is)))
