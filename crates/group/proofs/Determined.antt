-- Two outcomes of one call that agree on what is kept and decided agree on everything.
use Rattle.std.proofs.Common.{◌≡◌, ℕ, suc, ◌<◌, ◌≤◌, ◌⊎◌, List, [], length, set, Some, Ok, Err, Option, Result, sym, refl, ap, ◌∙◌, subst, inl, inr, arith}
use Rattle.std.proofs.lemmas.Bool.{cases_eq}
use Rattle.codec.specs.Limits.{max_beds}
use Rattle.codec.specs.Batch.{IsBatch, batch_of}
use Rattle.codec.specs.Packet.{packet_of}
use Rattle.codec.specs.declared.ticket.Ticket.{Ticket}
use Rattle.codec.specs.declared.whole.Source.TheVariants as so
use Rattle.codec.proofs.FormLaws.{batch_laws, packet_laws}
use Rattle.memory.specs.Meaning.{Slots}
use Rattle.decision.specs.Limits.{round_count}
use Rattle.decision.specs.Meaning.{Board, Within}
use Rattle.group.specs.Queue.{append}
use Rattle.group.specs.World.{World, Bed, bed, size, Running, changed}
use Rattle.group.specs.Outcome.{Answer, refused, faulty}
use Rattle.group.specs.Replay.{Replay, Proposed}
use Rattle.group.specs.Calls.{Does, own_batch, Hears, HearsFaulty, heard_by, counts_of, hearing, Collected, Collects, collected, Proposes, Starts, StartEnds}
use Rattle.group.specs.Determined.{SameChoices, SameAnswer, SameOutcome, Determined}
use Rattle.group.specs.declared.call.Call.{Call}
use Rattle.group.specs.declared.call.Call.TheVariants as call
use Rattle.group.specs.declared.call.Reply.TheVariants as rp
use Rattle.group.specs.declared.refusal.Refusal.{Refusal}
use Rattle.group.proofs.Options.{ok_err, same_err, not_none, same_some, cases_option}
use Rattle.group.proofs.Delivered.{Grow, grow_trans}
use Rattle.group.proofs.Stores.{Store, settles_grow, decided_batch, batch-length, cases_place, at_place}
use Rattle.group.proofs.Moves.{own_batch_lem, not_le}
use Rattle.group.proofs.Steps.{Good}
use Rattle.group.proofs.Replays.{polled, batch_not_faulty}
use Rattle.group.proofs.Runs.{Any, last_good}

-- ---- answers and rows

same_from : (a b : Answer) → a ≡ b → SameAnswer a b
same_from a b e = subst (SameAnswer a) e SameAnswer.same

-- equal worlds and equal answers
equal : {a : Answer} {v : World} {b : Answer} {v' : World} → a ≡ b → v ≡ v' → SameOutcome a v b v'
equal {a} {v} {b} {v'} e f = record {
  answer = same_from a b e;
  beds = ap (λ (w : World). w.beds) f;
  size = ap (λ (w : World). w.board.beds) f;
  proposals = λ c r. ap (λ (w : World). w.board.proposal c r) f;
}

-- the same row fits both times, or none does
by_rows : {Fits Rest Rest' : Type 0} {w : World} {r : Refusal} {a : Answer} {v : World} {b : Answer} {v' : World} →
    (Fits × refused w r a v) ⊎ ((Fits → ⊥) × Rest) → (Fits × refused w r b v') ⊎ ((Fits → ⊥) × Rest') → ((Fits → ⊥) → Rest → Rest' → SameOutcome a v b v') → SameOutcome a v b v'
by_rows (inl h) (inl k) f = equal (h.1.0 ∙ sym k.1.0) (h.1.1 ∙ sym k.1.1)
by_rows (inl h) (inr k) f = absurd (k.0 h.0)
by_rows (inr h) (inl k) f = absurd (h.0 k.0)
by_rows (inr h) (inr k) f = f h.0 h.1 k.1

-- ---- bytes are read in one way

one_batch : (n : ℕ) (v : List ℕ) (ts us : List Ticket) → n ≤ max_beds → IsBatch n v ts → IsBatch n v us → ts ≡ us
one_batch n v ts us most b c = batch_laws.one n ts us most b.sound c.sound (sym b.bytes ∙ c.bytes)

-- ---- replays

-- the same proposals stand
abbrev SameBoard : Board → Board → Type 0
SameBoard s t = (s.beds ≡ t.beds) × ((c k : ℕ) → s.proposal c k ≡ t.proposal c k)

proposed_grow : {n b r : ℕ} {slot : Option (List ℕ)} {s s' : Board} → Proposed n b r slot s s' → Grow s.decision s'.decision
proposed_grow {n} {b} {r} {slot} {s} {s'} p =
    grow_trans s.decision p.between.decision s'.decision (settles_grow s r p.between p.puts.settles) (settles_grow p.between r s' p.polls.settles)

replay_grow : {n b : ℕ} {m : ℕ → Option (List ℕ)} {r : ℕ} {q : List Ticket} {s s' : Board} {end : Result Bed Refusal} → Replay n m b r q s end s' → Grow s.decision s'.decision
replay_grow (Replay.over) k v e = e
replay_grow (Replay.empty l z) k v e = e
replay_grow (Replay.bad_kept u f l z d) k v e = e
replay_grow (Replay.undecided p z) k v e = proposed_grow p k v e
replay_grow (Replay.bad_decided u f p d z) k v e = proposed_grow p k v e
replay_grow (Replay.next u ts p d g more) k v e = replay_grow more k v (proposed_grow p k v e)

module _ (n : ℕ) (most : n ≤ max_beds) (K : Slots) (b : ℕ) where
  -- one round leaves the same proposals
  same_round : (r : ℕ) (s s' t t' : Board) → Store Any n K s → Store Any n K t → Proposed n b r (K b r) s s' → Proposed n b r (K b r) t t' → SameBoard s t → SameBoard s' t'
  same_round r s s' t t' ss st p o e = (
    p.polls.same_beds ∙ p.puts.same_beds ∙ e.0 ∙ sym o.puts.same_beds ∙ sym o.polls.same_beds,
    λ c k. elim (cases_eq c b) [
      | inr d ↦ others c k (λ x y. d x)
      | inl x ↦ elim (cases_eq k r) [ inr d ↦ others c k (λ z y. d y) | inl y ↦ ap (λ j. s'.proposal j k) x ∙ ap (s'.proposal b) y ∙ here ∙ sym (ap (t'.proposal b) y) ∙ sym (ap (λ j. t'.proposal j k) x) ]
    ],
  )
    where
      here : s'.proposal b r ≡ t'.proposal b r
      here = (polled Any n most K b r s s' ss p).full p.bytes p.full ∙ sym ((polled Any n most K b r t t' st o).full p.bytes p.full)

      others : (c k : ℕ) → (c ≡ b → k ≡ r → ⊥) → s'.proposal c k ≡ t'.proposal c k
      others c k d =
          p.polls.same_proposals c k ∙ p.puts.others c k d ∙ e.1 c k ∙ sym (o.puts.others c k d) ∙ sym (o.polls.same_proposals c k)

  same_replay : {r : ℕ} {q : List Ticket} {s s' t t' : Board} {end end' : Result Bed Refusal} → Replay n (K b) b r q s end s' → Replay n (K b) b r q t end' t' →
      Store Any n K s → Store Any n K t → SameBoard s t → ((k : ℕ) → s'.decision k ≡ t'.decision k) → (end ≡ end') × SameBoard s' t'
  same_replay Replay.over Replay.over ss st e d = (refl, e)
  same_replay Replay.over (Replay.empty l z) ss st e d = absurd (omega arith)
  same_replay Replay.over (Replay.bad_kept v f l k z) ss st e d = absurd (omega arith)
  same_replay Replay.over (Replay.undecided p z) ss st e d = absurd (omega (arith, p.left))
  same_replay Replay.over (Replay.bad_decided v f p x z) ss st e d = absurd (omega (arith, p.left))
  same_replay Replay.over (Replay.next v ts p x g more) ss st e d = absurd (omega (arith, p.left))
  same_replay (Replay.empty l z) Replay.over ss st e d = absurd (omega arith)
  same_replay (Replay.empty l z) (Replay.empty l' z') ss st e d = (refl, e)
  same_replay (Replay.empty {round = r} l z) (Replay.bad_kept v f l' k z') ss st e d = absurd (not_none (K b r) v k z)
  same_replay (Replay.empty {round = r} l z) (Replay.undecided p z') ss st e d = absurd (not_none (K b r) p.bytes p.full z)
  same_replay (Replay.empty {round = r} l z) (Replay.bad_decided v f p x z') ss st e d = absurd (not_none (K b r) p.bytes p.full z)
  same_replay (Replay.empty {round = r} l z) (Replay.next v ts p x g more) ss st e d = absurd (not_none (K b r) p.bytes p.full z)
  same_replay (Replay.bad_kept {round = r} v f l k z) y ss st e d = absurd (batch_not_faulty Any n v f most (ss.slots b r v k).batch z)
  same_replay (Replay.undecided p z) Replay.over ss st e d = absurd (omega (arith, p.left))
  same_replay (Replay.undecided {round = r} p z) (Replay.empty l z') ss st e d = absurd (not_none (K b r) p.bytes p.full z')
  same_replay (Replay.undecided {round = r} p z) (Replay.bad_kept v f l k z') ss st e d = absurd (batch_not_faulty Any n v f most (st.slots b r v k).batch z')
  same_replay (Replay.undecided {round = r} {s = s} {s' = s'} p z) (Replay.undecided {s = t} {s' = t'} o z') ss st e d = (refl, same_round r s s' t t' ss st p o e)
  same_replay (Replay.undecided {round = r} {s' = s'} p z) (Replay.bad_decided {s' = t'} v f o x z') ss st e d = absurd (not_none (t'.decision r) v x (sym (d r) ∙ z))
  same_replay (Replay.undecided {round = r} {s' = s'} p z) (Replay.next {s'' = t''} v ts o x g more) ss st e d = absurd (not_none (t''.decision r) v (replay_grow more r v x) (sym (d r) ∙ z))
  same_replay (Replay.bad_decided {round = r} {s = s} {s' = s'} v f p x z) y ss st e d =
      absurd (batch_not_faulty Any n v f most (decided_batch Any n K s' (polled Any n most K b r s s' ss p).store r v x) z)
  same_replay (Replay.next v ts p x g more) Replay.over ss st e d = absurd (omega (arith, p.left))
  same_replay (Replay.next {round = r} v ts p x g more) (Replay.empty l z) ss st e d = absurd (not_none (K b r) p.bytes p.full z)
  same_replay (Replay.next {round = r} v ts p x g more) (Replay.bad_kept u f l k z) ss st e d = absurd (batch_not_faulty Any n u f most (st.slots b r u k).batch z)
  same_replay (Replay.next {round = r} {s'' = s''} v ts p x g more) (Replay.undecided o z) ss st e d = absurd (not_none (s''.decision r) v (replay_grow more r v x) (d r ∙ z))
  same_replay (Replay.next {round = r} v ts p x g more) (Replay.bad_decided {s = t} {s' = t'} u f o y z) ss st e d =
      absurd (batch_not_faulty Any n u f most (decided_batch Any n K t' (polled Any n most K b r t t' st o).store r u y) z)
  same_replay (Replay.next {round = r} {queue = q} {s = s} {s' = s'} {s'' = s''} v ts p x g more) (Replay.next {s = t} {s' = t'} {s'' = t''} {end = end'} u us o y h rest) ss st e d =
      let bytes : v ≡ u = same_some (t''.decision r) v u (sym (d r) ∙ replay_grow more r v x) (replay_grow rest r u y) in
      let tickets : us ≡ ts = one_batch n u us ts most h (subst (λ (l : List ℕ). IsBatch n l ts) bytes g) in
      same_replay more (subst (λ (l : List Ticket). Replay n (K b) b (suc r) (append q l) t' end' t'') tickets rest)
      (polled Any n most K b r s s' ss p).store (polled Any n most K b r t t' st o).store (same_round r s s' t t' ss st p o e) d

-- ---- the calls

module _ (n : ℕ) (most : n ≤ max_beds) (w : World) (g : Good Any n w) (v v' : World) (a a' : Answer) (choices : SameChoices v v') where
  sized : size w ≤ max_beds
  sized = subst (λ k. k ≤ max_beds) (sym g.size) most

  not_both : (b : ℕ) (bytes : List ℕ) {c c' : Answer} {u u' : World} → HearsFaulty w b bytes c u → Hears w b bytes c' u' → ⊥
  not_both b bytes h k =
      ok_err (packet_of (size w) bytes) _ h.fault (packet_laws.whole (size w) bytes k.from k.round k.tickets sized k.packet) h.read

  same_hear : (b : ℕ) (bytes : List ℕ) → HearsFaulty w b bytes a v ⊎ Hears w b bytes a v → HearsFaulty w b bytes a' v' ⊎ Hears w b bytes a' v' → SameOutcome a v a' v'
  same_hear b bytes (inl h) (inl k) =
      let e : h.fault ≡ k.fault = same_err (packet_of (size w) bytes) h.fault k.fault h.read k.read in
      equal (h.refusal.0 ∙ ap (λ f. Err (faulty f b (bed w b).round so.Packet)) e ∙ sym k.refusal.0) (h.refusal.1 ∙ sym k.refusal.1)
  same_hear b bytes (inl h) (inr k) = absurd (not_both b bytes h k)
  same_hear b bytes (inr h) (inl k) = absurd (not_both b bytes k h)
  same_hear b bytes (inr h) (inr k) =
      let one = packet_laws.one (size w) h.from h.round k.from k.round h.tickets k.tickets sized h.packet.sound k.packet.sound (sym h.packet.bytes ∙ k.packet.bytes) in
      let x : Bed = bed w b in
      equal (h.answer ∙ ap (λ ts. Ok (rp.Heard (counts_of (heard_by x ts)))) one.2 ∙ sym k.answer)
      (h.after ∙ ap (λ r. changed w b (hearing x r h.tickets)) one.1 ∙ ap (λ ts. changed w b (hearing x k.round ts)) one.2 ∙ sym k.after)

  same_propose : (b : ℕ) → (size w ≤ b → ⊥) → Running w b → (round_count ≤ (bed w b).round → ⊥) → Proposes w b a v → Proposes w b a' v' → SameOutcome a v a' v'
  same_propose b in_group run left h k = record {
    answer = same_from a a' (h.answer ∙ sym k.answer);
    beds = h.beds ∙ sym k.beds;
    size = h.puts.same_beds ∙ sym k.puts.same_beds;
    proposals = λ c j. elim (cases_place b r c j) [
      | inl p ↦ at_place v.board.proposal b r c j p ∙ here ∙ sym (at_place v'.board.proposal b r c j p)
      | inr d ↦ h.puts.others c j d ∙ sym (k.puts.others c j d)
    ];
  }
    where
      r : ℕ
      r = (bed w b).round

      within : Within w.board.beds b r (length (own_batch (bed w b)))
      within =
          let l = batch-length Any n (own_batch (bed w b)) most (own_batch_lem Any n (bed w b) (g.bed b run).set) in
          record { bed_in = subst (λ j. b < j) (g.size ∙ sym g.store.beds) (not_le (size w) b in_group); round_in = not_le round_count r left; some = l.0; most = l.1 }

      here : v.board.proposal b r ≡ v'.board.proposal b r
      here =
          elim (cases_option (w.board.proposal b r)) [
            | inl z ↦ (h.puts.taken within z).1 ∙ sym (k.puts.taken within z).1
            | inr y ↦ (h.puts.had y.0 within y.1).1 ∙ sym (k.puts.had y.0 within y.1).1
          ]

  same_bytes : (b : ℕ) (u u' : List ℕ) → v.board.decision (bed w b).round ≡ Some u → v'.board.decision (bed w b).round ≡ Some u' → u ≡ u'
  same_bytes b u u' d d' = same_some (v'.board.decision (bed w b).round) u u' (sym (choices.decided (bed w b).round) ∙ d) d'

  same_collected : (b : ℕ) → Collected w b a v → Collected w b a' v' → (a ≡ a') × (v.beds ≡ v'.beds)
  same_collected b (Collected.undecided z x y) (Collected.undecided z' x' y') = (x ∙ sym x', y ∙ sym y')
  same_collected b (Collected.undecided z x y) (Collected.bad_decided u f d e x' y') = absurd (not_none (v'.board.decision (bed w b).round) u d (sym (choices.decided (bed w b).round) ∙ z))
  same_collected b (Collected.undecided z x y) (Collected.decided u ts d e x' y') = absurd (not_none (v'.board.decision (bed w b).round) u d (sym (choices.decided (bed w b).round) ∙ z))
  same_collected b (Collected.bad_decided u f d e x y) (Collected.undecided z x' y') = absurd (not_none (v.board.decision (bed w b).round) u d (choices.decided (bed w b).round ∙ z))
  same_collected b (Collected.decided u ts d e x y) (Collected.undecided z x' y') = absurd (not_none (v.board.decision (bed w b).round) u d (choices.decided (bed w b).round ∙ z))
  same_collected b (Collected.bad_decided u f d e x y) (Collected.bad_decided u' f' d' e' x' y') =
      let s : u ≡ u' = same_bytes b u u' d d' in
      let t : f ≡ f' = same_err (batch_of (size w) u') f f' (subst (λ (l : List ℕ). batch_of (size w) l ≡ Err f) s e) e' in
      (x ∙ ap (λ h. Err (faulty h b (bed w b).round so.Service)) t ∙ sym x', y ∙ sym y')
  same_collected b (Collected.bad_decided u f d e x y) (Collected.decided u' ts d' e' x' y') =
      absurd (ok_err (batch_of (size w) u') ts f (batch_laws.whole (size w) u' ts sized e') (subst (λ (l : List ℕ). batch_of (size w) l ≡ Err f) (same_bytes b u u' d d') e))
  same_collected b (Collected.decided u ts d e x y) (Collected.bad_decided u' f d' e' x' y') =
      absurd (ok_err (batch_of (size w) u) ts f (batch_laws.whole (size w) u ts sized e) (subst (λ (l : List ℕ). batch_of (size w) l ≡ Err f) (sym (same_bytes b u u' d d')) e'))
  same_collected b (Collected.decided u ts d e x y) (Collected.decided u' ts' d' e' x' y') =
      let t : ts ≡ ts' = one_batch (size w) u' ts ts' sized (subst (λ (l : List ℕ). IsBatch (size w) l ts) (same_bytes b u u' d d') e) e' in
      (x ∙ sym x', y ∙ ap (λ l. set w.beds b (collected (bed w b) l)) t ∙ sym y')

  same_collect : (b : ℕ) → Collects w b a v → Collects w b a' v' → SameOutcome a v a' v'
  same_collect b h k =
      let c = same_collected b h.outcome k.outcome in
      record {
        answer = same_from a a' c.0;
        beds = c.1;
        size = h.polls.same_beds ∙ sym k.polls.same_beds;
        proposals = λ x r. h.polls.same_proposals x r ∙ sym (k.polls.same_proposals x r);
      }

  same_ends : (b : ℕ) (o : Result Bed Refusal) → StartEnds w b o a v → StartEnds w b o a' v' → (a ≡ a') × (v.beds ≡ v'.beds)
  same_ends b (Ok x) h k = (h.0 ∙ sym k.0, h.1 ∙ sym k.1)
  same_ends b (Err r) h k = (h.0 ∙ sym k.0, h.1 ∙ sym k.1)

  same_start : (b : ℕ) → Starts w b a v → Starts w b a' v' → SameOutcome a v a' v'
  same_start b h k =
      let e = same_replay n most w.kept b (sized_replay h.replay) (sized_replay k.replay) g.store g.store (refl, λ c r. refl) choices.decided in
      let c = same_ends b k.end (subst (λ o. StartEnds w b o a v) e.0 h.ends) k.ends in
      record { answer = same_from a a' c.0; beds = c.1; size = e.1.0; proposals = e.1.1 }
    where
      sized_replay : {end : Result Bed Refusal} {s : Board} → Replay (size w) (w.kept b) b 0 [] w.board end s → Replay n (w.kept b) b 0 [] w.board end s
      sized_replay {end} {s} r = subst (λ j. Replay j (w.kept b) b 0 [] w.board end s) g.size r

-- ---- any call

same_call : (named n : ℕ) → n ≤ max_beds → (w : World) → Good Any n w → (c : Call) (a : Answer) (v : World) (b : Answer) (v' : World) → Does named w c a v → Does named w c b v' → SameChoices v v' → SameOutcome a v b v'
same_call named n most w g (call.Start bed) a v b v' d e ch =
    by_rows d e λ _ d e.
    by_rows d e λ _ d e.
    same_start n most w g v v' a b ch bed d e
same_call named n most w g (call.Submit bed number paths sheet) a v b v' d e ch =
    by_rows d e λ _ d e.
    by_rows d e λ _ d e.
    by_rows d e λ _ d e.
    by_rows d e λ _ d e.
    by_rows d e λ _ d e.
    equal (d.0 ∙ sym e.0) (d.1 ∙ sym e.1)
same_call named n most w g (call.Send bed room) a v b v' d e ch =
    by_rows d e λ _ d e.
    by_rows d e λ _ d e.
    by_rows d e λ _ d e.
    record {
      answer = subst (λ x. SameAnswer x b) (sym d.answer) (subst (SameAnswer (Ok (rp.Sent d.packet))) (sym e.answer) (SameAnswer.packet d.packet e.packet (d.bytes ∙ sym e.bytes)));
      beds = ap (λ (x : World). x.beds) (d.after ∙ sym e.after);
      size = ap (λ (x : World). x.board.beds) (d.after ∙ sym e.after);
      proposals = λ c r. ap (λ (x : World). x.board.proposal c r) (d.after ∙ sym e.after);
    }
same_call named n most w g (call.Hear bed bytes) a v b v' d e ch =
    by_rows d e λ _ d e.
    by_rows d e λ _ d e.
    same_hear n most w g v v' a b ch bed bytes.now d e
same_call named n most w g (call.Propose bed) a v b v' d e ch =
    by_rows d e λ in_group d e.
    by_rows d e λ run d e.
    by_rows d e λ _ d e.
    by_rows d e λ left d e.
    by_rows d e λ _ d e.
    by_rows d e λ _ d e.
    same_propose n most w g v v' a b ch bed in_group run left d e
same_call named n most w g (call.Trip bed «at» junk) a v b v' d e ch =
    by_rows d e λ _ d e.
    by_rows d e λ _ d e.
    by_rows d e λ _ d e.
    by_rows d e λ _ d e.
    by_rows d e λ _ d e.
    record {
      answer = same_from a b (d.answer ∙ sym e.answer);
      beds = d.beds ∙ sym e.beds;
      size = ap (λ (x : Board). x.beds) (d.board ∙ sym e.board);
      proposals = λ c r. ap (λ (x : Board). x.proposal c r) (d.board ∙ sym e.board);
    }
same_call named n most w g (call.Collect bed) a v b v' d e ch =
    by_rows d e λ _ d e.
    by_rows d e λ _ d e.
    by_rows d e λ _ d e.
    same_collect n most w g v v' a b ch bed d e
same_call named n most w g (call.Off bed) a v b v' d e ch =
    by_rows d e λ _ d e.
    by_rows d e λ _ d e.
    equal (d.0 ∙ sym e.0) (d.1 ∙ sym e.1)

pub determined : Determined
determined named w₀ h w new lived c a v b v' d e choices =
    let n = size w₀ in
    same_call named n new.most w (last_good named w₀ h w new lived) c a v b v' d e choices
