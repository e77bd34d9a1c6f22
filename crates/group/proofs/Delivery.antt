-- Delivery: once enough beds have proposed, a collect is accepted, and brings what every proposal of the round holds.
use Rattle.std.proofs.Common.{◌≡◌, ℕ, ◌<◌, ◌≤◌, true, List, ◌∷◌, ◌++◌, get_or, set, Some, Ok, Err, sym, ap, ◌∙◌, subst, inl, inr, arith}
use Rattle.std.proofs.lemmas.List.{get_or-set_same}
use Rattle.codec.specs.Limits.{max_beds}
use Rattle.codec.specs.TicketList.{known}
use Rattle.codec.specs.Batch.{IsBatch, batch_of}
use Rattle.codec.specs.declared.ticket.Ticket.{Ticket}
use Rattle.decision.specs.Meaning.{Enough}
use Rattle.group.specs.World.{World, Bed, bed, size, off_bed, Running}
use Rattle.group.specs.Outcome.{Answer}
use Rattle.group.specs.Calls.{Does, CollectDoes, Collects, Collected, collected}
use Rattle.group.specs.History.{Event, History, Accepted, New, Lived}
use Rattle.group.specs.Delivered.{tickets_in}
use Rattle.group.specs.Delivery.{AllHold, Ripe, Delivery}
use Rattle.group.specs.Law.{Progress}
use Rattle.group.specs.declared.bed.Phase.TheVariants.{Waiting}
use Rattle.group.specs.declared.call.Reply.TheVariants as rp
use Rattle.group.proofs.Options.{some_of, not_none}
use Rattle.group.proofs.Appends.{append_laws}
use Rattle.group.proofs.Delivered.{tickets_in_lem}
use Rattle.group.proofs.Stores.{Store, decided_batch, poll_store}
use Rattle.group.proofs.Replays.{batch_not_faulty, waiting_runs, idle_waits}
use Rattle.group.proofs.Steps.{Good}
use Rattle.group.proofs.Moves.{ok_accepted}
use Rattle.group.proofs.Runs.{Any, moment}

-- of a waiting bed of the group no row of a collect fits
collects_of : (w : World) (b : ℕ) (a : Answer) (w' : World) → b < size w → (bed w b).phase ≡ Waiting → CollectDoes w b a w' → Collects w b a w'
collects_of w b a w' low wait (inl h) = absurd (omega (arith, h.0))
collects_of w b a w' low wait (inr (_, inl h)) = absurd (waiting_runs (sym wait ∙ h.0))
collects_of w b a w' low wait (inr (_, inr (_, inl h))) = absurd (idle_waits (sym h.0 ∙ wait))
collects_of w b a w' low wait (inr (_, inr (_, inr h))) = h.1

module _ (n : ℕ) (most : n ≤ max_beds) (w w' : World) (b : ℕ) (a : Answer) (g : Good Any n w) (low : b < size w) (wait : (bed w b).phase ≡ Waiting) (enough : Enough w.board (bed w b).round) where
  -- what such a collect brings: the batch of a proposal that stands
  record Brings : Type 0 where
    done : a ≡ Ok rp.Done
    tickets : List Ticket
    bytes : List ℕ
    batch : IsBatch n bytes tickets
    by : ℕ
    by_in : by < size w
    stood : w.board.proposal by (bed w b).round ≡ Some bytes
    beds : w'.beds ≡ set w.beds b (collected (bed w b) tickets)

  brings : Collects w b a w' → Brings
  brings c = go c.outcome
    where
      r : ℕ
      r = (bed w b).round

      runs : Running w b
      runs e = waiting_runs (sym wait ∙ e)

      st : Store Any n w.kept w'.board
      st = poll_store Any n w.kept w.board r c.poll_answer w'.board c.polls g.store

      there : (v : List ℕ) × (w'.board.decision r ≡ Some v)
      there = some_of (w'.board.decision r) (c.polls.enough ((g.bed b runs).waiting wait).0 enough)

      go : Collected w b a w' → Brings
      go (Collected.undecided none answer beds) = absurd (not_none (w'.board.decision r) there.0 there.1 none)
      go (Collected.bad_decided v f d bad answer beds) =
          absurd (batch_not_faulty Any n v f most (decided_batch Any n w.kept w'.board st r v d) (subst (λ k. batch_of k v ≡ Err f) g.size bad))
      go (Collected.decided v ts d good answer beds) =
          let chosen = st.decisions r v d in
          record {
            done = answer;
            tickets = ts;
            bytes = v;
            batch = subst (λ k. IsBatch k v ts) g.size good;
            by = chosen.0;
            by_in = subst (λ k. chosen.0 < k) (sym g.size) chosen.1;
            stood = sym (c.polls.same_proposals chosen.0 r) ∙ chosen.2;
            beds = beds;
          }

  queued : (t : Ticket) → AllHold w (bed w b).round t → Brings → known t (bed w' b).queue ≡ true
  queued t holds c =
      let held : known t c.tickets ≡ true =
      ap (known t) (sym (tickets_in_lem n c.bytes c.tickets most c.batch)) ∙ ap (λ k. known t (tickets_in k (Some c.bytes))) (sym g.size) ∙ holds c.by c.bytes c.by_in c.stood in
      let at_b : bed w' b ≡ collected (bed w b) c.tickets = ap (λ k. get_or k b off_bed) c.beds ∙ get_or-set_same w.beds b (collected (bed w b) c.tickets) off_bed low in
      ap (λ (x : Bed). known t x.queue) at_b ∙ append_laws.takes (bed w b).queue c.tickets t held

module _ (named : ℕ) (w₀ : World) (h : History) (w : World) (new : New w₀) (l : Lived named w₀ h w) (past rest : History) (e : Event) (eq : h ≡ past ++ (e ∷ rest)) (b : ℕ) (ripe : Ripe e b) where
  good : Good Any (size w₀) e.before
  good = (moment named w₀ h w new l past rest e eq).good

  ripe_brings : Brings (size w₀) new.most e.before e.after b e.answer good ripe.in_group ripe.waits ripe.enough
  ripe_brings =
      brings (size w₀) new.most e.before e.after b e.answer good ripe.in_group ripe.waits ripe.enough
      (collects_of e.before b e.answer e.after ripe.in_group ripe.waits
      (subst (λ c. Does named e.before c e.answer e.after) ripe.call (moment named w₀ h w new l past rest e eq).does))

  ripe_accepted : Accepted e.answer
  ripe_accepted = ok_accepted e.answer rp.Done ripe_brings.done

  ripe_queued : (t : Ticket) → AllHold e.before (bed e.before b).round t → known t (bed e.after b).queue ≡ true
  ripe_queued t holds = queued (size w₀) new.most e.before e.after b e.answer good ripe.in_group ripe.waits ripe.enough t holds ripe_brings

pub progress : (named : ℕ) (w₀ : World) (h : History) (w : World) → New w₀ → Lived named w₀ h w → Progress w₀ h
progress named w₀ h w new l past rest e eq b ripe = ripe_accepted named w₀ h w new l past rest e eq b ripe

pub delivery : (named : ℕ) (w₀ : World) (h : History) (w : World) → New w₀ → Lived named w₀ h w → Delivery w₀ h
delivery named w₀ h w new l past rest e eq b t ripe holds =
    (ripe_accepted named w₀ h w new l past rest e eq b ripe, ripe_queued named w₀ h w new l past rest e eq b ripe t holds)
