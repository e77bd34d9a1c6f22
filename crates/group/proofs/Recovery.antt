-- Recovery: a start takes up all that the bed had, and goes on as far as the bed has passed.
use Rattle.std.proofs.Common.{◌≡◌, ℕ, ◌<◌, ◌≤◌, List, [], ◌∷◌, ◌++◌, length, get_or, Option, sym, refl, ap, ◌∙◌, subst, inl, inr, arith}
use Rattle.std.proofs.lemmas.List.{length-set, get_or-set_same}
use Rattle.std.proofs.lemmas.Bool.{cases_lt}
use Rattle.codec.specs.Limits.{max_beds}
use Rattle.codec.specs.declared.ticket.Ticket.{Ticket}
use Rattle.memory.specs.Meaning.{Slots}
use Rattle.decision.specs.Limits.{round_count}
use Rattle.group.specs.World.{World, Bed, bed, size, off_bed, Running}
use Rattle.group.specs.Outcome.{Answer}
use Rattle.group.specs.Calls.{Does, StartDoes, Starts}
use Rattle.group.specs.History.{History, New, Lived, after}
use Rattle.group.specs.Delivered.{delivered}
use Rattle.group.specs.Recovery.{queue_or, last_queue, Recovered, Recovery}
use Rattle.group.specs.Law.{Lasting}
use Rattle.group.specs.declared.bed.Phase.{Phase}
use Rattle.group.specs.declared.bed.Phase.TheVariants.{Off, Idle, Waiting}
use Rattle.group.specs.declared.call.Reply.TheVariants as rp
use Rattle.group.proofs.Appends.{Begins}
use Rattle.group.proofs.Delivered.{delivered_grow, delivered_more}
use Rattle.group.proofs.Stores.{AllPast, past_grow}
use Rattle.group.proofs.Replays.{First, Stands, idle_runs, waiting_runs}
use Rattle.group.proofs.Steps.{Good, Next}
use Rattle.group.proofs.Moves.{Started, start_starts, ok_accepted}
use Rattle.group.proofs.Runs.{Any, new_good, lived_split, run_good, event_next, after_append}

-- ---- the queue that a bed last had

-- it is what the bed's first rounds delivered, the bed has passed these, and while it runs it is as far again
record LastAt (n : ℕ) (w : World) (b : ℕ) (last : List Ticket) : Type 0 where
  rounds : ℕ
  most : rounds ≤ round_count
  shown : last ≡ delivered n w.board.decision rounds
  passed : AllPast (w.kept b) w.board.decision rounds
  reached : Running w b → rounds ≤ (bed w b).round

-- a start in the first round that is not passed is as far as any round that is
far_enough : (m d : ℕ → Option (List ℕ)) (rounds r : ℕ) → rounds ≤ round_count → AllPast m d rounds → First m d r → rounds ≤ r
far_enough m d rounds r most passed (inl e) = omega arith
far_enough m d rounds r most passed (inr e) = elim (cases_lt r rounds) [ inr k ↦ k | inl k ↦ absurd (e.1 (passed r k)) ]

never : (n : ℕ) (w : World) (b : ℕ) → LastAt n w b []
never n w b = record { rounds = 0; most = omega arith; shown = refl; passed = λ r k. absurd (omega arith); reached = λ run. omega arith }

last_next : (n : ℕ) (w w' : World) (a : Answer) (b : ℕ) (last : List Ticket) → Next Any n w a w' → LastAt n w b last → LastAt n w' b last
last_next n w w' a b last g l =
    let now : AllPast (w'.kept b) w'.board.decision l.rounds =
    past_grow (w.kept b) (w'.kept b) w.board.decision w'.board.decision (g.grows.kept b) g.grows.decision l.rounds l.passed in
    record {
      rounds = l.rounds;
      most = l.most;
      shown = l.shown ∙ delivered_grow n w.board.decision w'.board.decision g.grows.decision l.rounds (λ r k. (l.passed r k).1);
      passed = now;
      reached = λ run.
          elim (g.moves b run) [
            | inl m ↦ let k = l.reached m.0 in omega arith
            | inr m ↦ far_enough (w'.kept b) w'.board.decision l.rounds (bed w' b).round l.most now m
          ];
    }

last_now : (n : ℕ) (w : World) (b : ℕ) (last : List Ticket) → Good Any n w → LastAt n w b last → LastAt n w b (queue_or (bed w b) last)
last_now n w b last g l = go (bed w b).phase refl
  where
    shows : Running w b → LastAt n w b (bed w b).queue
    shows run = let x = g.bed b run in record { rounds = (bed w b).round; most = x.round; shown = x.queue; passed = x.passed; reached = λ z. omega arith }

    go : (p : Phase) → (bed w b).phase ≡ p → LastAt n w b (elim p [ Off ↦ last | Idle ↦ (bed w b).queue | Waiting ↦ (bed w b).queue ])
    go Off e = l
    go Idle e = shows (λ f. idle_runs (sym e ∙ f))
    go Waiting e = shows (λ f. waiting_runs (sym e ∙ f))

module _ (named n : ℕ) (most : n ≤ max_beds) where
  last_run : (h : History) (w w' : World) (b : ℕ) (last : List Ticket) → Good Any n w → LastAt n w b last → Lived named w h w' → LastAt n (after w h) b (last_queue b last h)
  last_run [] w w' b last g l li = l
  last_run (e ∷ h) w w' b last g l li =
      let s = event_next named n most e w g li.0 li.1 in
      last_run h e.after w' b (queue_or (bed e.after b) last) s.good (last_now n e.after b last s.good (last_next n w e.after e.answer b last s l)) li.2

  -- and it stays so after more calls
  last_stays : (h : History) (w w' : World) (b : ℕ) (last : List Ticket) → Good Any n w → LastAt n w b last → Lived named w h w' → LastAt n (after w h) b last
  last_stays [] w w' b last g l li = l
  last_stays (e ∷ h) w w' b last g l li =
      let s = event_next named n most e w g li.0 li.1 in
      last_stays h e.after w' b last s.good (last_next n w e.after e.answer b last s l) li.2

-- ---- a start

recovered : (n : ℕ) (w w' : World) (b : ℕ) (a : Answer) (last : List Ticket) → Good Any n w → b < n → LastAt n w b last → Started Any n w b a w' → Recovered last w' b
recovered n w w' b a last g l la s =
    record {
      begins = (more.0, queue ∙ more.1 ∙ ap (λ q. q ++ more.0) (sym shown));
      replayed = queue ∙ ap (λ (x : Bed). delivered n decided x.round) (sym at_b) ∙ ap (λ k. delivered k decided (bed w' b).round) (sym same_size);
      passed = place.0;
      first = place.1;
      waits = place.2.waits;
      idles = place.2.idles;
    }
  where
    -- the bed that the replay ended as
    x : Bed
    x = s.ends.bed

    decided : ℕ → Option (List ℕ)
    decided = w'.board.decision

    at_b : bed w' b ≡ x
    at_b = ap (λ k. get_or k b off_bed) s.beds ∙ get_or-set_same w.beds b x off_bed (subst (λ k. b < k) (sym g.size) l)

    same_size : size w' ≡ n
    same_size = ap length s.beds ∙ length-set w.beds b x ∙ g.size

    queue : (bed w' b).queue ≡ delivered n decided x.round
    queue = ap (λ (y : Bed). y.queue) at_b ∙ s.ends.good.queue

    far : la.rounds ≤ x.round
    far =
        far_enough (w.kept b) decided la.rounds x.round la.most
        (past_grow (w.kept b) (w.kept b) w.board.decision decided (λ r v e. e) s.ends.grows la.rounds la.passed) s.ends.first

    shown : last ≡ delivered n decided la.rounds
    shown = la.shown ∙ delivered_grow n w.board.decision decided s.ends.grows la.rounds (λ r k. (la.passed r k).1)

    more : Begins (delivered n decided x.round) (delivered n decided la.rounds)
    more = delivered_more n decided la.rounds x.round far

    Place : Slots → Bed → Type 0
    Place slots y = AllPast (slots b) decided y.round × First (slots b) decided y.round × Stands b (slots b) w'.board y

    place : Place w'.kept (bed w' b)
    place =
        subst (λ slots. Place slots (bed w' b)) (sym s.kept) (subst (Place w.kept) (sym at_b) (s.ends.good.passed, s.ends.first, s.ends.stands))

-- ---- the two statements

pub recovery : (named : ℕ) (w₀ : World) (h : History) (w : World) → New w₀ → Lived named w₀ h w → Recovery w₀ h
recovery named w₀ h w new l past rest e eq b call low off =
    let n = size w₀ in
    let s = lived_split named past (e ∷ rest) w₀ w (subst (λ k. Lived named w₀ k w) eq l) in
    let u = after w₀ past in
    let g₀ = new_good Any w₀ new in
    let ge : Good Any n e.before = subst (Good Any n) (sym s.1.0) (run_good named n new.most past w₀ u g₀ s.0).1 in
    let la : LastAt n e.before b (last_queue b [] past) =
    subst (λ v. LastAt n v b (last_queue b [] past)) (sym s.1.0) (last_run named n new.most past w₀ u b [] g₀ (never n w₀ b) s.0) in
    let starts = start_of e.before b e.answer e.after low off (subst (λ c. Does named e.before c e.answer e.after) call s.1.1) in
    let st = start_starts Any n e.before b e.answer e.after new.most ge starts in
    (ok_accepted e.answer rp.Done st.done, recovered n e.before e.after b e.answer (last_queue b [] past) ge (subst (λ k. b < k) ge.size low) la st)
  where
    -- of an off bed of the group no row fits
    start_of : (v : World) (c : ℕ) (a : Answer) (v' : World) → c < size v → (bed v c).phase ≡ Off → StartDoes v c a v' → Starts v c a v'
    start_of v c a v' low off (inl h) = absurd (omega (arith, h.0))
    start_of v c a v' low off (inr (_, inl h)) = absurd (h.0 off)
    start_of v c a v' low off (inr (_, inr h)) = h.1

pub lasting : (named : ℕ) (w₀ : World) (h : History) (w : World) → New w₀ → Lived named w₀ h w → Lasting w₀ h
lasting named w₀ h w new l past between rest e b =
    let n = size w₀ in
    let s = lived_split named past (between ++ rest) w₀ w (subst (λ k. Lived named w₀ k w) e l) in
    let u = after w₀ past in
    let s₂ = lived_split named between rest u w s.1 in
    let g₀ = new_good Any w₀ new in
    let gu = (run_good named n new.most past w₀ u g₀ s.0).1 in
    let v = after u between in
    let gv = (run_good named n new.most between u v gu s₂.0).1 in
    let la : LastAt n v b (last_queue b [] past) =
    last_stays named n new.most between u v b (last_queue b [] past) gu (last_run named n new.most past w₀ u b [] g₀ (never n w₀ b) s.0) s₂.0 in
    subst (λ (x : World). Running x b → Begins (bed x b).queue (last_queue b [] past)) (sym (after_append w₀ past between))
    (λ run.
    let m = delivered_more n v.board.decision la.rounds (bed v b).round (la.reached run) in
    (m.0, (gv.bed b run).queue ∙ m.1 ∙ ap (λ q. q ++ m.0) (sym la.shown)))
