-- Steps that a group can take: for each call that is accepted, a world that may stand after it.
use Rattle.std.proofs.Common.{◌≡◌, ℕ, ◌+◌, ◌-◌, ◌<◌, ◌≤◌, false, cond, ◌&&◌, eqb, List, [], length, replicate, set, is_some, Some, None, Ok, Err, Option, Result, sym, refl, ap, ◌∙◌, subst, inl, inr, arith}
use Rattle.std.proofs.lemmas.Bool.{cases_Bool, eqb-true, ne_eqb, and_parts, cond-true, cond-false, eq-eqb, and_from, both_ways}
use Rattle.codec.specs.Limits.{max_beds, max_batch_bytes}
use Rattle.codec.specs.Ticket.{InRange}
use Rattle.codec.specs.TicketList.{Sound}
use Rattle.codec.specs.Batch.{IsBatch}
use Rattle.codec.specs.Edits.{placed}
use Rattle.codec.specs.Packet.{IsPacket}
use Rattle.codec.specs.declared.ticket.Ticket.{Ticket}
use Rattle.codec.specs.declared.value.Value.{Value}
use Rattle.memory.specs.Meaning.{Slots, Within as WithinMemory, Keeps, Tears}
use Rattle.memory.specs.declared.refusal.MemoryRefusal.TheVariants as mr
use Rattle.decision.specs.Limits.{round_count}
use Rattle.decision.specs.Meaning.{Board, Within as WithinService, Enough, Puts, Polls}
use Rattle.decision.specs.declared.refusal.DecisionRefusal.{DecisionRefusal}
use Rattle.decision.specs.declared.refusal.DecisionRefusal.TheVariants as dr
use Rattle.decision.specs.declared.service.PutAnswer.TheVariants as pa
use Rattle.group.specs.Limits.{set_tickets}
use Rattle.group.specs.World.{World, Bed, bed, size, off_bed, Running, changed}
use Rattle.group.specs.Outcome.{Answer, Outcome, row}
use Rattle.group.specs.Replay.{Replay, Proposed, started}
use Rattle.group.specs.Calls.{StartDoes, ticket_of, with_set, knows, SubmitDoes, sent_bytes, sent_packet, own_packet, SendDoes, heard_by, counts_of, hearing, HearDoes, own_batch, NoReason, proposing, HoldsOther, waiting_now, Proposes, Trips, ProposeDoes, TripDoes, CollectDoes, Collected, collected}
use Rattle.group.specs.declared.bed.Phase.TheVariants.{Off, Idle, Waiting}
use Rattle.group.specs.declared.call.Reply.TheVariants as rp
use Rattle.group.specs.declared.call.SentPacket.{SentPacket}
use Rattle.group.specs.declared.refusal.Refusal.TheVariants as rf
use Rattle.group.proofs.Options.{not_none, same_some}
use Rattle.group.proofs.Replays.{idle_runs, waiting_runs, idle_waits}
use Rattle.group.proofs.Stores.{Batch, batch-length}
use Rattle.group.proofs.Moves.{own_batch_lem}
use Rattle.group.proofs.Runs.{Any, each_any}

-- ---- tables with one place filled

abbrev pub fill : ℕ → ℕ → List ℕ → Slots → Slots
fill b s v m c k = cond (eqb c b && eqb k s) (Some v) (m c k)

pub fill_here : (b s : ℕ) (v : List ℕ) (m : Slots) → fill b s v m b s ≡ Some v
fill_here b s v m = cond-true _ _ _ (and_from (eqb b b) (eqb s s) (eq-eqb b b refl) (eq-eqb s s refl))

pub fill_else : (b s : ℕ) (v : List ℕ) (m : Slots) (c k : ℕ) → (c ≡ b → k ≡ s → ⊥) → fill b s v m c k ≡ m c k
fill_else b s v m c k d =
    elim (cases_Bool (eqb c b && eqb k s)) [
      | inl e ↦ let p = and_parts (eqb c b) (eqb k s) e in absurd (d (eqb-true c b p.0) (eqb-true k s p.1))
      | inr e ↦ cond-false _ _ _ e
    ]

abbrev pub settle : ℕ → List ℕ → (ℕ → Option (List ℕ)) → ℕ → Option (List ℕ)
settle r v d k = cond (eqb k r) (Some v) (d k)

-- ---- what memory and service may do

pub keeps_new : (m : Slots) (b s : ℕ) (v : List ℕ) → WithinMemory b s (length v) → m b s ≡ None → Keeps m b s v (Ok tt) (fill b s v m)
keeps_new m b s v within none =
    record {
      outside = λ f. absurd (f within);
      inside = λ _. record { fresh = λ e. refl; again = λ e. refl; differs = λ old e d. absurd (not_none (m b s) old e none) };
      takes = λ _ e. fill_here b s v m;
      stays = λ old e. absurd (not_none (m b s) old e none);
      elsewhere = fill_else b s v m;
    }

pub tears_whole : (named : ℕ) (m : Slots) (b s : ℕ) (v : List ℕ) («at» : ℕ) → WithinMemory b s (length v) → m b s ≡ None → 0 < «at» → Tears named m b s v «at» (fill b s v m)
tears_whole named m b s v «at» within none some =
    record {
      outside = λ f. absurd (f within);
      either = λ _ e. inr (fill_here b s v m);
      nothing = λ _ e z. absurd (omega arith);
      whole = λ _ e l. fill_here b s v m;
      stays = λ old e. absurd (not_none (m b s) old e none);
      elsewhere = fill_else b s v m;
    }

pub tears_nothing : (named : ℕ) (m : Slots) (b s : ℕ) (v : List ℕ) («at» : ℕ) → m b s ≡ None → «at» < length v + named → Tears named m b s v «at» m
tears_nothing named m b s v «at» none few =
    record {
      outside = λ f. refl;
      either = λ _ e. inl none;
      nothing = λ _ e z. none;
      whole = λ _ e l. absurd (omega arith);
      stays = λ old e. e;
      elsewhere = λ c k d. refl;
    }

-- a proposal more, and no decision yet
abbrev pub with_proposal : Board → ℕ → ℕ → List ℕ → Board
with_proposal s b r v = record { beds = s.beds; proposal = fill b r v s.proposal; decision = s.decision }

pub puts_new : (s : Board) (b r : ℕ) (v : List ℕ) → WithinService s.beds b r (length v) → s.proposal b r ≡ None → Puts s b r v (Ok pa.Taken) (with_proposal s b r v)
puts_new s b r v within none =
    record {
      outside = λ f. absurd (f within);
      taken = λ _ e. (refl, fill_here b r v s.proposal);
      had = λ old _ e. absurd (not_none (s.proposal b r) old e none);
      same_beds = refl;
      others = fill_else b r v s.proposal;
      settles = record { other_rounds = λ k d. refl; stays = λ u e. e; chosen = λ u e f. absurd (not_none (s.decision r) u f e) };
    }

-- bytes as a value, with room for 65 as every value has
abbrev pub value_of : (v : List ℕ) → 1 ≤ length v → length v ≤ max_batch_bytes → Value
value_of v some most = record { bytes = record { items = v; spare = replicate (max_batch_bytes - length v) 0 }; some = some; most = most }

-- a decision more, for a proposal that stands
abbrev pub with_decision : Board → ℕ → List ℕ → Board
with_decision s r v = record { beds = s.beds; proposal = s.proposal; decision = settle r v s.decision }

pub polls_chosen : (s : Board) (r c : ℕ) (v : List ℕ) (some : 1 ≤ length v) (most : length v ≤ max_batch_bytes) → r < round_count → c < s.beds → s.proposal c r ≡ Some v → s.decision r ≡ None →
    Polls s r (Ok (value_of v some most)) (with_decision s r v)
polls_chosen s r c v some most left low stood none =
    record {
      outside = λ f. absurd (f left);
      answer = λ _. record {
        decision = λ u e. (value_of v some most, (refl, same_some ((with_decision s r v).decision r) v u here e));
        none = λ e. absurd (not_none ((with_decision s r v).decision r) v here e);
      };
      same_beds = refl;
      same_proposals = λ b k. refl;
      settles = record {
        other_rounds = λ k d. cond-false _ _ _ (ne_eqb k r d);
        stays = λ u e. absurd (not_none (s.decision r) u e none);
        chosen = λ u e f. (c, low, stood ∙ ap Some (same_some ((with_decision s r v).decision r) v u here f));
      };
      enough = λ _ _. ap is_some here;
    }
  where
    here : settle r v s.decision r ≡ Some v
    here = cond-true _ _ _ (eq-eqb r r refl)

-- a decision that stands
pub polls_stands : (s : Board) (r : ℕ) (v : List ℕ) (some : 1 ≤ length v) (most : length v ≤ max_batch_bytes) → r < round_count → s.decision r ≡ Some v → Polls s r (Ok (value_of v some most)) s
polls_stands s r v some most left stood =
    record {
      outside = λ f. absurd (f left);
      answer = λ _. record {
        decision = λ u e. (value_of v some most, (refl, same_some (s.decision r) v u stood e));
        none = λ e. absurd (not_none (s.decision r) v stood e);
      };
      same_beds = refl;
      same_proposals = λ b k. refl;
      settles = record { other_rounds = λ k d. refl; stays = λ u e. e; chosen = λ u e f. absurd (not_none (s.decision r) u f e) };
      enough = λ _ _. ap is_some stood;
    }

-- too few proposals, and no decision
pub polls_open : (s : Board) (r : ℕ) → r < round_count → s.decision r ≡ None → (Enough s r → ⊥) → Polls s r (Err dr.Undecided) s
polls_open s r left none few =
    record {
      outside = λ f. absurd (f left);
      answer = λ _. record { decision = λ u e. absurd (not_none (s.decision r) u e none); none = λ e. refl };
      same_beds = refl;
      same_proposals = λ b k. refl;
      settles = record { other_rounds = λ k d. refl; stays = λ u e. e; chosen = λ u e f. absurd (not_none (s.decision r) u f e) };
      enough = λ _ e. absurd (few e);
    }

-- ---- what the calls may do

-- a bed that has kept nothing starts idle
abbrev pub freshly : World → ℕ → World
freshly w b = changed w b (started Idle 0 [])

pub start_fresh : (w : World) (b : ℕ) → b < size w → (bed w b).phase ≡ Off → w.kept b 0 ≡ None → StartDoes w b (Ok rp.Done) (freshly w b)
start_fresh w b low off none =
    inr (
      (λ l. omega arith),
      inr (
        (λ f. f off),
        record { kept = refl; end = Ok (started Idle 0 []); replay = Replay.empty (omega arith) none; ends = (refl, refl) },
      ),
    )

-- one that has kept a batch puts it, and waits where too few beds have proposed
abbrev pub waiting : World → ℕ → List ℕ → World
waiting w b v = record { beds = set w.beds b (started Waiting 0 []); kept = w.kept; board = with_proposal w.board b 0 v }

pub start_waits : (w : World) (b : ℕ) (v : List ℕ) (ts : List Ticket) → size w ≤ max_beds → w.board.beds ≡ size w → b < size w → (bed w b).phase ≡ Off →
    w.kept b 0 ≡ Some v → IsBatch (size w) v ts → w.board.proposal b 0 ≡ None → w.board.decision 0 ≡ None → (Enough (with_proposal w.board b 0 v) 0 → ⊥) →
    StartDoes w b (Ok rp.Done) (waiting w b v)
start_waits w b v ts most same low off full sound none undecided few =
    let l = batch-length Any (size w) v most (record { tickets = ts; sound = sound; valid = each_any ts }) in
    let p : Proposed (size w) b 0 (w.kept b 0) w.board (with_proposal w.board b 0 v) = record {
      left = omega arith;
      bytes = v;
      full = full;
      tickets = ts;
      sound = sound;
      put_answer = Ok pa.Taken;
      between = with_proposal w.board b 0 v;
      puts = puts_new w.board b 0 v (record { bed_in = subst (λ k. b < k) (sym same) low; round_in = omega arith; some = l.0; most = l.1 }) none;
      poll_answer = Err dr.Undecided;
      polls = polls_open (with_proposal w.board b 0 v) 0 (omega arith) undecided few;
    } in
    inr ((λ k. omega arith), inr ((λ f. f off), record { kept = refl; end = Ok (started Waiting 0 []); replay = Replay.undecided p undecided; ends = (refl, refl) }))

-- a new ticket
abbrev pub submitted : World → ℕ → Ticket → World
submitted w b t = changed w b (with_set (bed w b) (placed t (bed w b).waiting))

pub submit_does : (w : World) (b number paths sheet : ℕ) → b < size w → Running w b → InRange (size w) (ticket_of b number paths sheet) → knows (bed w b) (ticket_of b number paths sheet) ≡ false →
    length (bed w b).waiting < set_tickets → SubmitDoes w b number paths sheet (Ok (rp.Submitted (ticket_of b number paths sheet))) (submitted w b (ticket_of b number paths sheet))
submit_does w b number paths sheet low run ranged new room =
    inr ((λ l. omega arith), inr (run, inr ((λ f. f ranged), inr ((λ k. both_ways (knows (bed w b) (ticket_of b number paths sheet)) new k), inr ((λ l. omega arith), (refl, refl))))))

-- a packet sent, and one heard
abbrev pub packet_out : World → ℕ → SentPacket
packet_out w b = sent_packet (own_packet w b)

pub out_bytes : (w : World) (b : ℕ) → sent_bytes (packet_out w b) ≡ own_packet w b
out_bytes w b = refl

pub send_does : (w : World) (b room : ℕ) → b < size w → Running w b → length (own_packet w b) ≤ room → SendDoes w b room (Ok (rp.Sent (packet_out w b))) w
send_does w b room low run fits =
    inr ((λ l. omega arith), inr (run, inr ((λ l. omega arith), record { packet = packet_out w b; bytes = out_bytes w b; answer = refl; after = refl })))

pub hear_does : (w : World) (b : ℕ) (bytes : List ℕ) (from round : ℕ) (ts : List Ticket) → b < size w → Running w b → IsPacket (size w) bytes from round ts →
    HearDoes w b bytes (Ok (rp.Heard (counts_of (heard_by (bed w b) ts)))) (changed w b (hearing (bed w b) round ts))
hear_does w b bytes from round ts low run packet =
    inr ((λ l. omega arith), inr (run, inr (record { from = from; round = round; tickets = ts; packet = packet; answer = refl; after = refl })))

-- a bed that can propose: idle, with a round left, a reason, a sound set, and nothing kept or proposed yet
pub record CanPropose (w : World) (b : ℕ) : Type 0 where
  pub most : size w ≤ max_beds
  pub same : w.board.beds ≡ size w
  pub low : b < size w
  pub idle : (bed w b).phase ≡ Idle
  pub left : (bed w b).round < round_count
  pub reason : NoReason (bed w b) → ⊥
  pub sound : Sound (size w) set_tickets (bed w b).waiting
  pub empty : w.kept b (bed w b).round ≡ None

own : (w : World) (b : ℕ) → CanPropose w b → Batch Any (size w) (own_batch (bed w b))
own w b c = own_batch_lem Any (size w) (bed w b) (record { sound = c.sound; valid = each_any (bed w b).waiting })

in_memory : (w : World) (b : ℕ) → CanPropose w b → WithinMemory b (bed w b).round (length (own_batch (bed w b)))
in_memory w b c =
    let l = batch-length Any (size w) (own_batch (bed w b)) c.most (own w b c) in
    record { place = record { bed_in = omega (arith, c.low, c.most); slot_in = c.left }; some = l.0; most = l.1 }

pub can_propose : (w : World) (b : ℕ) (rest : Outcome) (a : Answer) (w' : World) → CanPropose w b → rest a w' → proposing w b rest a w'
can_propose w b rest a w' c h =
    inr (
      (λ l. omega (arith, c.low, l)),
      inr (
        (λ e. idle_runs (sym c.idle ∙ e)),
        inr ((λ e. idle_waits (sym c.idle ∙ e)), inr ((λ l. omega (arith, c.left, l)), inr (c.reason, h))),
      ),
    )

abbrev pub proposed : World → ℕ → World
proposed w b =
    let x : Bed = bed w b in
    record { beds = set w.beds b (waiting_now x); kept = fill b x.round (own_batch x) w.kept; board = with_proposal w.board b x.round (own_batch x) }

pub propose_does : (w : World) (b : ℕ) → CanPropose w b → w.board.proposal b (bed w b).round ≡ None → ProposeDoes w b (Ok rp.Done) (proposed w b)
propose_does w b c none =
    let m = in_memory w b c in
    can_propose w b (row w (HoldsOther w b) (rf.Memory mr.Differs) (Proposes w b)) (Ok rp.Done) (proposed w b) c
    (inr (
      (λ h. not_none (w.kept b (bed w b).round) h.old h.held c.empty),
      record {
        keeps = keeps_new w.kept b (bed w b).round (own_batch (bed w b)) m c.empty;
        put_answer = Ok pa.Taken;
        puts = puts_new w.board b (bed w b).round (own_batch (bed w b)) (record { bed_in = subst (λ k. b < k) (sym c.same) c.low; round_in = c.left; some = m.some; most = m.most }) none;
        beds = refl;
        answer = refl;
      },
    ))

-- power fails and the batch is there, or it is not
abbrev pub tripped : World → ℕ → Slots → World
tripped w b kept = record { beds = set w.beds b off_bed; kept = kept; board = w.board }

pub trip_keeps : (named : ℕ) (w : World) (b «at» : ℕ) → CanPropose w b → 0 < «at» → TripDoes named w b «at» (Ok rp.Done) (tripped w b (fill b (bed w b).round (own_batch (bed w b)) w.kept))
trip_keeps named w b «at» c some =
    can_propose w b (Trips named w b «at») (Ok rp.Done) _ c
    (record { tears = tears_whole named w.kept b (bed w b).round (own_batch (bed w b)) «at» (in_memory w b c) c.empty some; board = refl; beds = refl; answer = refl })

pub trip_loses : (named : ℕ) (w : World) (b «at» : ℕ) → CanPropose w b → «at» < length (own_batch (bed w b)) + named → TripDoes named w b «at» (Ok rp.Done) (tripped w b w.kept)
trip_loses named w b «at» c few =
    can_propose w b (Trips named w b «at») (Ok rp.Done) _ c
    (record { tears = tears_nothing named w.kept b (bed w b).round (own_batch (bed w b)) «at» c.empty few; board = refl; beds = refl; answer = refl })

-- a waiting bed of the group, and a batch that is decided
pub record CanCollect (w : World) (b : ℕ) (v : List ℕ) (ts : List Ticket) : Type 0 where
  pub most : size w ≤ max_beds
  pub low : b < size w
  pub waits : (bed w b).phase ≡ Waiting
  pub left : (bed w b).round < round_count
  pub batch : IsBatch (size w) v ts

value_fits : (w : World) (b : ℕ) (v : List ℕ) (ts : List Ticket) → CanCollect w b v ts → (1 ≤ length v) × (length v ≤ max_batch_bytes)
value_fits w b v ts c = batch-length Any (size w) v c.most (record { tickets = ts; sound = c.batch; valid = each_any ts })

abbrev pub collected_by : World → ℕ → List Ticket → Board → World
collected_by w b ts board = record { beds = set w.beds b (collected (bed w b) ts); kept = w.kept; board = board }

can_collect : (w : World) (b : ℕ) (v : List ℕ) (ts : List Ticket) (board : Board) (answer : Result Value DecisionRefusal) → CanCollect w b v ts → Polls w.board (bed w b).round answer board → board.decision (bed w b).round ≡ Some v →
    CollectDoes w b (Ok rp.Done) (collected_by w b ts board)
can_collect w b v ts board answer c polls stood =
    inr (
      (λ l. omega (arith, c.low, l)),
      inr (
        (λ e. waiting_runs (sym c.waits ∙ e)),
        inr ((λ e. idle_waits (sym e ∙ c.waits)), record { kept = refl; poll_answer = answer; polls = polls; outcome = Collected.decided v ts stood c.batch refl refl }),
      ),
    )

-- the poll decides for the proposal of bed c
pub collect_decides : (w : World) (b c : ℕ) (v : List ℕ) (ts : List Ticket) → CanCollect w b v ts → c < w.board.beds → w.board.proposal c (bed w b).round ≡ Some v → w.board.decision (bed w b).round ≡ None →
    CollectDoes w b (Ok rp.Done) (collected_by w b ts (with_decision w.board (bed w b).round v))
collect_decides w b c v ts can low stood none =
    let l = value_fits w b v ts can in
    can_collect w b v ts _ _ can (polls_chosen w.board (bed w b).round c v l.0 l.1 can.left low stood none) (cond-true _ _ _ (eq-eqb (bed w b).round (bed w b).round refl))

-- the round was decided before
pub collect_stands : (w : World) (b : ℕ) (v : List ℕ) (ts : List Ticket) → CanCollect w b v ts → w.board.decision (bed w b).round ≡ Some v → CollectDoes w b (Ok rp.Done) (collected_by w b ts w.board)
collect_stands w b v ts can stood =
    let l = value_fits w b v ts can in
    can_collect w b v ts _ _ can (polls_stands w.board (bed w b).round v l.0 l.1 can.left stood) stood
