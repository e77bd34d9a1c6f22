-- The stories, lived: worlds and steps for each.
use Rattle.std.proofs.Common.{◌≡◌, ℕ, zero, suc, ◌+◌, ◌<◌, ◌≤◌, true, false, List, [], ◌∷◌, ◌++◌, length, take, Some, None, Ok, Option, sym, refl, ap, ◌∙◌, subst, arith}
use Rattle.std.specs.List.{ContainsAt as Has}
use Rattle.std.proofs.lemmas.List.{append-nil, append_assoc}
use Rattle.std.proofs.lemmas.Bool.{or_left}
use Rattle.codec.specs.Limits.{batch_tickets, packet_tickets}
use Rattle.codec.specs.Number.{form}
use Rattle.codec.specs.Ticket.{InRange, same_identity, ticket_bytes}
use Rattle.codec.specs.TicketList.{Sound, known, list_bytes}
use Rattle.codec.specs.Batch.{batch_bytes, IsBatch}
use Rattle.codec.specs.Packet.{SoundPacket}
use Rattle.codec.specs.declared.ticket.Ticket.{Ticket}
use Rattle.codec.proofs.Orders.{order_laws}
use Rattle.codec.proofs.FormLaws.{packet_laws}
use Rattle.memory.specs.Meaning.{Slots}
use Rattle.decision.specs.Limits.{round_count}
use Rattle.decision.specs.Meaning.{Enough}
use Rattle.group.specs.Limits.{set_tickets}
use Rattle.group.specs.World.{World, bed, size, off_bed, changed}
use Rattle.group.specs.Calls.{SubmitDoes, CollectDoes, own_packet, heard_by, counts_of, hearing}
use Rattle.group.specs.History.{Event, History, New, Lived, Earlier}
use Rattle.group.specs.Delivered.{tickets_in}
use Rattle.group.specs.Delivery.{AllHold}
use Rattle.group.specs.Validity.{WrittenBy, heard_bytes, OnlySentHeard}
use Rattle.group.specs.Stories.{job, rival, lent, Lost, Saved, Served, Late, Rivals, Shared, Stories}
use Rattle.group.specs.declared.bed.Phase.TheVariants.{Idle, Waiting}
use Rattle.group.specs.declared.call.Call.{Call}
use Rattle.group.specs.declared.call.Call.TheVariants as call
use Rattle.group.specs.declared.call.Reply.{Reply}
use Rattle.group.specs.declared.call.Reply.TheVariants as rp
use Rattle.group.proofs.Options.{same_some}
use Rattle.group.proofs.Delivered.{tickets_in_lem}
use Rattle.group.proofs.Replays.{idle_runs}
use Rattle.group.proofs.StorySteps.{fill, with_proposal, with_decision, freshly, start_fresh, waiting, start_waits, submitted, submit_does, packet_out, out_bytes, send_does, hear_does, CanPropose, proposed, propose_does, tripped, trip_keeps, trip_loses, CanCollect, collected_by, collect_decides, collect_stands}

-- ---- a new group of two beds

abbrev nothing : Slots
nothing b s = None

abbrev w₀ : World
w₀ = record { beds = off_bed ∷ off_bed ∷ []; kept = nothing; board = record { beds = 2; proposal = nothing; decision = λ r. None } }

w₀_new : New w₀
w₀_new = record { some = omega arith; most = omega arith; off = off; empty = λ b s. refl; board = record { size = refl; proposed = λ b r. refl; decided = λ r. refl } }
  where
    off : (b : ℕ) → bed w₀ b ≡ off_bed
    off zero = refl
    off (suc zero) = refl
    off (suc (suc b)) = refl

-- ---- what is sound

job_ranged : InRange 2 job
job_ranged = record { paths = omega arith; origin = omega arith; least = omega arith; number = omega arith; sheet = omega arith }

rival_ranged : InRange 2 rival
rival_ranged = record { paths = omega arith; origin = omega arith; least = omega arith; number = omega arith; sheet = omega arith }

none_sound : (most : ℕ) → Sound 2 most []
none_sound most = record { ranged = tt; rising = tt; apart = tt; few = omega arith }

one_sound : (most : ℕ) (t : Ticket) → 1 ≤ most → InRange 2 t → Sound 2 most (t ∷ [])
one_sound most t l r = record { ranged = (r, tt); rising = (tt, tt); apart = (tt, tt); few = l }

one_batch : (t : Ticket) → InRange 2 t → IsBatch 2 (batch_bytes (t ∷ [])) (t ∷ [])
one_batch t r = record { sound = one_sound batch_tickets t (omega arith) r; bytes = refl }

-- ---- steps

abbrev event : World → Call → Reply → World → Event
event w c r w' = record { before = w; call = c; answer = Ok r; after = w' }

-- one ticket is a reason to propose
has_reason : (t : Ticket) (ts : List Ticket) → ts ≡ t ∷ [] → ts ≡ [] → ⊥
has_reason t ts e f = let z : ◌≡◌ {A = ℕ} 0 1 = cc in omega arith

can_with : (w : World) (b : ℕ) (t : Ticket) → size w ≡ 2 → w.board.beds ≡ 2 → b < 2 → (bed w b).phase ≡ Idle → (bed w b).round < round_count → (bed w b).waiting ≡ t ∷ [] → InRange 2 t →
    w.kept b (bed w b).round ≡ None → CanPropose w b
can_with w b t two same low idle left set ranged empty = record {
  most = omega arith;
  same = same ∙ sym two;
  low = omega arith;
  idle = idle;
  left = left;
  reason = λ r. has_reason t (bed w b).waiting set r.0;
  sound = subst (λ k. Sound k set_tickets (bed w b).waiting) (sym two) (subst (Sound 2 set_tickets) (sym set) (one_sound set_tickets t (omega arith) ranged));
  empty = empty;
}

can_take : (w : World) (b : ℕ) (t : Ticket) → size w ≡ 2 → b < 2 → (bed w b).phase ≡ Waiting → (bed w b).round < round_count → InRange 2 t → CanCollect w b (batch_bytes (t ∷ [])) (t ∷ [])
can_take w b t two low waits left ranged = record {
  most = omega arith;
  low = omega arith;
  waits = waits;
  left = left;
  batch = subst (λ k. IsBatch k (batch_bytes (t ∷ [])) (t ∷ [])) (sym two) (one_batch t ranged);
}

-- ---- a crash in mid-write

abbrev c₁ : World
c₁ = freshly w₀ 0

abbrev c₂ : World
c₂ = submitted c₁ 0 job

can_trip : CanPropose c₂ 0
can_trip = can_with c₂ 0 job refl refl (omega arith) refl (omega arith) refl job_ranged refl

submits : SubmitDoes c₁ 0 7 300 2 (Ok (rp.Submitted job)) c₂
submits = submit_does c₁ 0 7 300 2 (omega arith) idle_runs job_ranged refl (omega arith)

-- three finished cells are fewer than a batch and two
three_few : 3 < length (batch_bytes (job ∷ [])) + 2
unfolding form list_bytes ticket_bytes
three_few = omega arith

abbrev l₃ : World
l₃ = tripped c₂ 0 nothing

pub lost : Lost
lost = record {
  first = w₀;
  new = w₀_new;
  beds = refl;
  history = event w₀ (call.Start 0) rp.Done c₁ ∷ event c₁ (call.Submit 0 7 300 2) (rp.Submitted job) c₂ ∷ event c₂ (call.Trip 0 3 0) rp.Done l₃ ∷ event l₃ (call.Start 0) rp.Done (freshly l₃ 0) ∷ [];
  last = freshly l₃ 0;
  lived = (
    refl,
    start_fresh w₀ 0 (omega arith) refl refl,
    (refl, submits, (refl, trip_loses 2 c₂ 0 3 can_trip three_few, (refl, start_fresh l₃ 0 (omega arith) refl refl, refl))),
  );
  told = refl;
  then = refl;
}

-- the batch that was kept after all
abbrev job_batch : List ℕ
job_batch = batch_bytes (job ∷ [])

abbrev s₃ : World
s₃ = tripped c₂ 0 (fill 0 0 job_batch nothing)

abbrev s₄ : World
s₄ = waiting s₃ 0 job_batch

one_of_two : Enough (with_proposal s₃.board 0 0 job_batch) 0 → ⊥
unfolding Enough
one_of_two e = omega arith

abbrev crashed : History
crashed = event w₀ (call.Start 0) rp.Done c₁ ∷ event c₁ (call.Submit 0 7 300 2) (rp.Submitted job) c₂ ∷ event c₂ (call.Trip 0 3 0) rp.Done s₃ ∷ event s₃ (call.Start 0) rp.Done s₄ ∷ []

lives_on : (h : History) (w : World) → Lived 2 s₄ h w → Lived 2 w₀ (crashed ++ h) w
lives_on h w l = (
  refl,
  start_fresh w₀ 0 (omega arith) refl refl,
  (refl, submits, (refl, trip_keeps 2 c₂ 0 3 can_trip (omega arith), (refl, start_waits s₃ 0 job_batch (job ∷ []) (omega arith) refl (omega arith) refl refl (one_batch job job_ranged) refl refl one_of_two, l))),
)

pub saved : Saved
saved = record {
  first = w₀;
  new = w₀_new;
  beds = refl;
  history = crashed;
  last = s₄;
  lived = lives_on [] s₄ refl;
  told = refl;
  then = refl;
}

abbrev s₅ : World
s₅ = freshly s₄ 1

abbrev s₆ : World
s₆ = submitted s₅ 1 rival

can_rival : CanPropose s₆ 1
can_rival = can_with s₆ 1 rival refl refl (omega arith) refl (omega arith) refl rival_ranged refl

abbrev s₇ : World
s₇ = proposed s₆ 1

abbrev s₈ : World
s₈ = collected_by s₇ 0 (job ∷ []) (with_decision s₇.board 0 job_batch)

abbrev serving : History
serving = event s₄ (call.Start 1) rp.Done s₅ ∷ event s₅ (call.Submit 1 4 100 1) (rp.Submitted rival) s₆ ∷ event s₆ (call.Propose 1) rp.Done s₇ ∷ event s₇ (call.Collect 0) rp.Done s₈ ∷ []

pub served : Served
served = record {
  first = w₀;
  new = w₀_new;
  beds = refl;
  history = crashed ++ serving;
  last = s₈;
  lived = lives_on serving s₈ (
    refl,
    start_fresh s₄ 1 (omega arith) refl refl,
    (
      refl,
      submit_does s₅ 1 4 100 1 (omega arith) idle_runs rival_ranged refl (omega arith),
      (
        refl,
        propose_does s₆ 1 can_rival refl,
        (
          refl,
          collect_decides s₇ 0 0 job_batch (job ∷ []) (can_take s₇ 0 job refl (omega arith) refl (omega arith) job_ranged) (omega arith) refl refl,
          refl,
        ),
      ),
    ),
  );
  told = refl;
  then = refl;
}

-- ---- what was heard was sent

-- what each call of a list has a bed hear was sent before it
abbrev AllSent : History → History → Type 0
AllSent past [] = Unit {0}
AllSent past (e ∷ todo) = ((bytes : List ℕ) → heard_bytes e.call ≡ Some bytes → Earlier past (WrittenBy bytes)) × AllSent (past ++ e ∷ []) todo

cons_head : (e f : Event) (h g : History) → e ∷ h ≡ f ∷ g → e ≡ f
cons_head e f h g p = cc

cons_tail : (e f : Event) (h g : History) → e ∷ h ≡ f ∷ g → h ≡ g
cons_tail e f h g p = cc

no_event : (e : Event) (h : History) {P : Type 0} → [] ≡ e ∷ h → P
no_event e h p = let z : ◌≡◌ {A = ℕ} 0 1 = cc in absurd (omega arith)

sent_before : (past todo : History) → AllSent past todo → (p rest : History) (e : Event) (bytes : List ℕ) → todo ≡ p ++ (e ∷ rest) → heard_bytes e.call ≡ Some bytes → Earlier (past ++ p) (WrittenBy bytes)
sent_before past [] s [] rest e bytes eq h = no_event e rest eq
sent_before past [] s (f ∷ p) rest e bytes eq h = no_event f (p ++ (e ∷ rest)) eq
sent_before past (g ∷ todo) s [] rest e bytes eq h =
    subst (λ k. Earlier k (WrittenBy bytes)) (sym (append-nil past)) (s.0 bytes (ap (λ (f : Event). heard_bytes f.call) (cons_head g e todo rest eq) ∙ h))
sent_before past (g ∷ todo) s (f ∷ p) rest e bytes eq h =
    subst (λ k. Earlier k (WrittenBy bytes)) (append_assoc past (g ∷ []) p ∙ ap (λ k. past ++ (k ∷ p)) (cons_head g f todo (p ++ (e ∷ rest)) eq))
    (sent_before (past ++ g ∷ []) todo s.1 p rest e bytes (cons_tail g f todo (p ++ (e ∷ rest)) eq) h)

only_sent : (h : History) → AllSent [] h → OnlySentHeard h
only_sent h s past rest e bytes eq heard acc = sent_before [] h s past rest e bytes eq heard

-- ---- a late bed

abbrev a₃ : World
a₃ = proposed c₂ 0

abbrev a₄ : World
a₄ = collected_by a₃ 0 (job ∷ []) (with_decision a₃.board 0 job_batch)

abbrev a₅ : World
a₅ = freshly a₄ 1

-- what bed 0 has left of its set: nothing
abbrev left_over : List Ticket
left_over = (bed a₅ 0).waiting

none_left : left_over ≡ []
unfolding same_identity
none_left = refl

abbrev a₆ : World
a₆ = changed a₅ 1 (hearing (bed a₅ 1) 1 left_over)

round_one : SoundPacket 2 0 1 left_over
round_one = record { bed_in = omega arith; round_in = omega arith; sound = subst (Sound 2 packet_tickets) (sym none_left) (none_sound packet_tickets) }

can_late : CanPropose a₆ 1
unfolding same_identity
can_late = record {
  most = omega arith;
  same = refl;
  low = omega arith;
  idle = refl;
  left = omega arith;
  reason = λ r. omega (arith, r.1);
  sound = none_sound set_tickets;
  empty = refl;
}

abbrev a₇ : World
a₇ = proposed a₆ 1

abbrev a₈ : World
a₈ = collected_by a₇ 1 (job ∷ []) a₇.board

abbrev late_history : History
late_history =
    event w₀ (call.Start 0) rp.Done c₁ ∷ event c₁ (call.Submit 0 7 300 2) (rp.Submitted job) c₂ ∷ event c₂ (call.Propose 0) rp.Done a₃ ∷ event a₃ (call.Collect 0) rp.Done a₄
    ∷ event a₄ (call.Start 1) rp.Done a₅ ∷ event a₅ (call.Send 0 135) (rp.Sent (packet_out a₅ 0)) a₅
    ∷ event a₅ (call.Hear 1 (lent (own_packet a₅ 0))) (rp.Heard (counts_of (heard_by (bed a₅ 1) left_over))) a₆
    ∷ event a₆ (call.Propose 1) rp.Done a₇ ∷ event a₇ (call.Collect 1) rp.Done a₈ ∷ []

late_lived : Lived 2 w₀ late_history a₈
late_lived = (
  refl,
  start_fresh w₀ 0 (omega arith) refl refl,
  (
    refl,
    submits,
    (
      refl,
      propose_does c₂ 0 can_trip refl,
      (
        refl,
        collect_decides a₃ 0 0 job_batch (job ∷ []) (can_take a₃ 0 job refl (omega arith) refl (omega arith) job_ranged) (omega arith) refl refl,
        (
          refl,
          start_fresh a₄ 1 (omega arith) refl refl,
          (
            refl,
            send_does a₅ 0 135 (omega arith) idle_runs (packet_laws.short 2 0 1 left_over (omega arith) round_one),
            (
              refl,
              hear_does a₅ 1 (own_packet a₅ 0) 0 1 left_over (omega arith) idle_runs (record { sound = round_one; bytes = refl }),
              (
                refl,
                propose_does a₆ 1 can_late refl,
                (
                  refl,
                  collect_stands a₇ 1 job_batch (job ∷ []) (can_take a₇ 1 job refl (omega arith) refl (omega arith) job_ranged) refl,
                  refl,
                ),
              ),
            ),
          ),
        ),
      ),
    ),
  ),
)

-- a send that wrote the packet that was heard
wrote : (w : World) (b room : ℕ) (past : History) → Has past (event w (call.Send b room) (rp.Sent (packet_out w b)) w) → (bytes : List ℕ) → Some (own_packet w b) ≡ Some bytes → Earlier past (WrittenBy bytes)
wrote w b room past has bytes e = (
  event w (call.Send b room) (rp.Sent (packet_out w b)) w,
  has,
  record {
    bed = b;
    room = room;
    call = refl;
    packet = packet_out w b;
    answer = refl;
    same = out_bytes w b ∙ same_some (Some (own_packet w b)) (own_packet w b) bytes refl e;
  },
)

-- a call that has no bed hear anything
silent : {P : Type 0} {bytes : List ℕ} → ◌≡◌ {A = Option (List ℕ)} None (Some bytes) → P
silent e = let z : ◌≡◌ {A = ℕ} 0 1 = cc in absurd (omega arith)

late_sent : AllSent [] late_history
late_sent = ((λ b e. silent e), ((λ b e. silent e), ((λ b e. silent e), ((λ b e. silent e), ((λ b e. silent e), ((λ b e. silent e), (wrote a₅ 0 135 (take 6 late_history) (5, omega arith, λ d. refl), ((λ b e. silent e), ((λ b e. silent e), tt)))))))))

pub late : Late
unfolding same_identity
late = (
  packet_out a₅ 0,
  lent (own_packet a₅ 0),
  record {
    first = w₀;
    new = w₀_new;
    beds = refl;
    history = late_history;
    last = a₈;
    lived = late_lived;
    told = refl;
    then = (only_sent late_history late_sent, refl, refl);
  },
)

-- ---- different proposals

abbrev r₂ : World
r₂ = freshly c₁ 1

abbrev r₃ : World
r₃ = submitted r₂ 0 job

abbrev r₄ : World
r₄ = submitted r₃ 1 rival

-- bed 0 with its job, and bed 1 with its own
can_first : CanPropose r₄ 0
can_first = can_with r₄ 0 job refl refl (omega arith) refl (omega arith) refl job_ranged refl

abbrev r₅ : World
r₅ = proposed r₄ 0

can_second : CanPropose r₅ 1
can_second = can_with r₅ 1 rival refl refl (omega arith) refl (omega arith) refl rival_ranged refl

abbrev r₆ : World
r₆ = proposed r₅ 1

abbrev r₇ : World
r₇ = collected_by r₆ 0 (job ∷ []) (with_decision r₆.board 0 job_batch)

abbrev r₈ : World
r₈ = collected_by r₇ 1 (job ∷ []) r₇.board

-- the job that was not decided still waits
can_again : CanPropose r₈ 1
unfolding same_identity
can_again = can_with r₈ 1 rival refl refl (omega arith) refl (omega arith) refl rival_ranged refl

abbrev r₉ : World
r₉ = proposed r₈ 1

abbrev rival_batch : List ℕ
rival_batch = batch_bytes (rival ∷ [])

abbrev r₁₀ : World
r₁₀ = collected_by r₉ 1 (rival ∷ []) (with_decision r₉.board 1 rival_batch)

decides_rival : CollectDoes r₉ 1 (Ok rp.Done) r₁₀
unfolding same_identity
decides_rival = collect_decides r₉ 1 1 rival_batch (rival ∷ []) (can_take r₉ 1 rival refl (omega arith) refl (omega arith) rival_ranged) (omega arith) refl refl

pub rivals : Rivals
unfolding same_identity
rivals = record {
  first = w₀;
  new = w₀_new;
  beds = refl;
  history =
      event w₀ (call.Start 0) rp.Done c₁ ∷ event c₁ (call.Start 1) rp.Done r₂ ∷ event r₂ (call.Submit 0 7 300 2) (rp.Submitted job) r₃ ∷ event r₃ (call.Submit 1 4 100 1) (rp.Submitted rival) r₄
      ∷ event r₄ (call.Propose 0) rp.Done r₅ ∷ event r₅ (call.Propose 1) rp.Done r₆ ∷ event r₆ (call.Collect 0) rp.Done r₇ ∷ event r₇ (call.Collect 1) rp.Done r₈
      ∷ event r₈ (call.Propose 1) rp.Done r₉ ∷ event r₉ (call.Collect 1) rp.Done r₁₀ ∷ [];
  last = r₁₀;
  lived = (
    refl,
    start_fresh w₀ 0 (omega arith) refl refl,
    (
      refl,
      start_fresh c₁ 1 (omega arith) refl refl,
      (
        refl,
        submit_does r₂ 0 7 300 2 (omega arith) idle_runs job_ranged refl (omega arith),
        (
          refl,
          submit_does r₃ 1 4 100 1 (omega arith) idle_runs rival_ranged refl (omega arith),
          (
            refl,
            propose_does r₄ 0 can_first refl,
            (
              refl,
              propose_does r₅ 1 can_second refl,
              (
                refl,
                collect_decides r₆ 0 0 job_batch (job ∷ []) (can_take r₆ 0 job refl (omega arith) refl (omega arith) job_ranged) (omega arith) refl refl,
                (
                  refl,
                  collect_stands r₇ 1 job_batch (job ∷ []) (can_take r₇ 1 job refl (omega arith) refl (omega arith) job_ranged) refl,
                  (
                    refl,
                    propose_does r₈ 1 can_again refl,
                    (
                      refl,
                      decides_rival,
                      refl,
                    ),
                  ),
                ),
              ),
            ),
          ),
        ),
      ),
    ),
  );
  told = refl;
  then = (refl, refl);
}

-- ---- one job, proposed by all

abbrev h₄ : World
h₄ = changed r₃ 1 (hearing (bed r₃ 1) 0 (job ∷ []))

job_packet : SoundPacket 2 0 0 (job ∷ [])
job_packet = record { bed_in = omega arith; round_in = omega arith; sound = one_sound packet_tickets job (omega arith) job_ranged }

can_own : CanPropose h₄ 0
can_own = can_with h₄ 0 job refl refl (omega arith) refl (omega arith) refl job_ranged refl

abbrev h₅ : World
h₅ = proposed h₄ 0

can_heard : CanPropose h₅ 1
can_heard = can_with h₅ 1 job refl refl (omega arith) refl (omega arith) refl job_ranged refl

abbrev h₆ : World
h₆ = proposed h₅ 1

abbrev h₇ : World
h₇ = collected_by h₆ 1 (job ∷ []) (with_decision h₆.board 0 job_batch)

abbrev before : History
before =
    event w₀ (call.Start 0) rp.Done c₁ ∷ event c₁ (call.Start 1) rp.Done r₂ ∷ event r₂ (call.Submit 0 7 300 2) (rp.Submitted job) r₃ ∷ event r₃ (call.Send 0 135) (rp.Sent (packet_out r₃ 0)) r₃
    ∷ event r₃ (call.Hear 1 (lent (own_packet r₃ 0))) (rp.Heard (record { taken = 1; full = 0 })) h₄ ∷ event h₄ (call.Propose 0) rp.Done h₅ ∷ event h₅ (call.Propose 1) rp.Done h₆ ∷ []

abbrev collects : Event
collects = event h₆ (call.Collect 1) rp.Done h₇

shared_sent : AllSent [] (before ++ (collects ∷ []))
shared_sent = ((λ b e. silent e), ((λ b e. silent e), ((λ b e. silent e), ((λ b e. silent e), (wrote r₃ 0 135 (take 4 before) (3, omega arith, λ d. refl), ((λ b e. silent e), ((λ b e. silent e), ((λ b e. silent e), tt))))))))

both_enough : Enough h₆.board 0
unfolding Enough
both_enough = omega arith

held : (bytes : List ℕ) → Some job_batch ≡ Some bytes → known job (tickets_in 2 (Some bytes)) ≡ true
held bytes e =
    let same : job_batch ≡ bytes = same_some (Some job_batch) job_batch bytes refl e in
    ap (λ b. known job (tickets_in 2 (Some b))) (sym same) ∙ ap (known job) (tickets_in_lem 2 job_batch (job ∷ []) (omega arith) (one_batch job job_ranged)) ∙ or_left (same_identity job job) false (order_laws.same_itself job)

-- both proposals are the same batch
all_hold : AllHold h₆ 0 job
all_hold zero bytes l e = held bytes e
all_hold (suc zero) bytes l e = held bytes e
all_hold (suc (suc c)) bytes l e = absurd (omega arith)

pub shared : Shared
shared = (
  packet_out r₃ 0,
  lent (own_packet r₃ 0),
  record {
    first = w₀;
    new = w₀_new;
    beds = refl;
    history = before ++ (collects ∷ []);
    last = h₇;
    lived = (
      refl,
      start_fresh w₀ 0 (omega arith) refl refl,
      (
        refl,
        start_fresh c₁ 1 (omega arith) refl refl,
        (
          refl,
          submit_does r₂ 0 7 300 2 (omega arith) idle_runs job_ranged refl (omega arith),
          (
            refl,
            send_does r₃ 0 135 (omega arith) idle_runs (packet_laws.short 2 0 0 (job ∷ []) (omega arith) job_packet),
            (
              refl,
              hear_does r₃ 1 (own_packet r₃ 0) 0 0 (job ∷ []) (omega arith) idle_runs (record { sound = job_packet; bytes = refl }),
              (
                refl,
                propose_does h₄ 0 can_own refl,
                (
                  refl,
                  propose_does h₅ 1 can_heard refl,
                  (
                    refl,
                    collect_decides h₆ 1 0 job_batch (job ∷ []) (can_take h₆ 1 job refl (omega arith) refl (omega arith) job_ranged) (omega arith) refl refl,
                    refl,
                  ),
                ),
              ),
            ),
          ),
        ),
      ),
    );
    told = refl;
    then = (before, collects, refl, only_sent (before ++ (collects ∷ [])) shared_sent, record { call = refl; in_group = omega arith; waits = refl; enough = both_enough }, all_hold);
  },
)

pub stories : Stories
stories = record { lost = lost; saved = saved; served = served; late = late; rivals = rivals; shared = shared }
