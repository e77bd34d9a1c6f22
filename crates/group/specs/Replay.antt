-- How a bed that starts goes through its kept batches, round by round; assumes the meaning of the decision service.
use Rattle.std.specs.Prelude.{◌≡◌, ℕ, suc, ◌<◌, List, [], Some, None, Ok, Err, Option, Result}
use Rattle.codec.specs.Batch.{IsBatch, batch_of}
use Rattle.codec.specs.declared.ticket.Ticket.{Ticket}
use Rattle.codec.specs.declared.value.Value.{Value}
use Rattle.codec.specs.declared.whole.Source.TheVariants as so
use Rattle.codec.specs.declared.whole.WholeFault.{WholeFault}
use Rattle.decision.specs.Limits.{round_count}
use Rattle.decision.specs.Meaning.{Board, Puts, Polls}
use Rattle.decision.specs.declared.refusal.DecisionRefusal.{DecisionRefusal}
use Rattle.decision.specs.declared.service.PutAnswer.{PutAnswer}
use Rattle.group.specs.Queue.{append}
use Rattle.group.specs.World.{Bed}
use Rattle.group.specs.Outcome.{faulty}
use Rattle.group.specs.declared.bed.Phase.{Phase}
use Rattle.group.specs.declared.bed.Phase.TheVariants.{Idle, Waiting}
use Rattle.group.specs.declared.refusal.Refusal.{Refusal}

-- a bed that has just started
abbrev pub started : Phase → ℕ → List Ticket → Bed
started phase round queue = record { phase = phase; round = round; heard = 0; waiting = []; queue = queue }

-- a slot is full, its bytes are a batch, and they are put and their round polled
pub record Proposed (n bed round : ℕ) (slot : Option (List ℕ)) (s s' : Board) : Type 0 where
  pub left : round < round_count
  pub bytes : List ℕ
  pub full : slot ≡ Some bytes
  pub tickets : List Ticket
  pub sound : IsBatch n bytes tickets
  pub put_answer : Result PutAnswer DecisionRefusal
  pub between : Board
  pub puts : Puts s bed round bytes put_answer between
  pub poll_answer : Result Value DecisionRefusal
  pub polls : Polls between round poll_answer s'

-- From a round and the queue so far to how the bed stands in the end, or to the refusal of faulty bytes; n is the size of the
-- group, and slots are the bed's own.
pub data Replay (n : ℕ) (slots : ℕ → Option (List ℕ)) (bed : ℕ) : ℕ → List Ticket → Board → Result Bed Refusal → Board → Type 0 where
  -- all rounds are over
  over : {queue : List Ticket} {s : Board} → Replay n slots bed round_count queue s (Ok (started Idle round_count queue)) s
  -- the bed kept nothing in this round
  empty : {round : ℕ} {queue : List Ticket} {s : Board} → round < round_count → slots round ≡ None → Replay n slots bed round queue s (Ok (started Idle round queue)) s
  -- what it kept is no batch
  bad_kept : {round : ℕ} {queue : List Ticket} {s : Board} (bytes : List ℕ) (f : WholeFault) →
      round < round_count → slots round ≡ Some bytes → batch_of n bytes ≡ Err f → Replay n slots bed round queue s (Err (faulty f bed round so.Memory)) s
  -- its proposal stands, and there is no decision
  undecided : {round : ℕ} {queue : List Ticket} {s s' : Board} →
      Proposed n bed round (slots round) s s' → s'.decision round ≡ None → Replay n slots bed round queue s (Ok (started Waiting round queue)) s'
  -- what was decided is no batch
  bad_decided : {round : ℕ} {queue : List Ticket} {s s' : Board} (bytes : List ℕ) (f : WholeFault) →
      Proposed n bed round (slots round) s s' → s'.decision round ≡ Some bytes → batch_of n bytes ≡ Err f → Replay n slots bed round queue s (Err (faulty f bed round so.Service)) s'
  -- the decided batch is appended, and the next round follows
  next : {round : ℕ} {queue : List Ticket} {s s' s'' : Board} {end : Result Bed Refusal} (bytes : List ℕ) (tickets : List Ticket) →
      Proposed n bed round (slots round) s s' → s'.decision round ≡ Some bytes → IsBatch n bytes tickets →
      Replay n slots bed (suc round) (append queue tickets) s' end s'' → Replay n slots bed round queue s end s''
