-- Nothing is free in a call but what is decided and when, and what a torn keep leaves: two outcomes that agree on these agree on
-- everything; assumes nothing.
use Rattle.std.specs.Prelude.{◌≡◌, ℕ, Ok}
use Rattle.group.specs.World.{World}
use Rattle.group.specs.Outcome.{Answer}
use Rattle.group.specs.Calls.{Does, sent_bytes}
use Rattle.group.specs.History.{History, New, Lived}
use Rattle.group.specs.declared.call.Call.{Call}
use Rattle.group.specs.declared.call.Reply.TheVariants as rp
use Rattle.group.specs.declared.call.SentPacket.{SentPacket}

-- the same is kept, and the same is decided
pub record SameChoices (v w : World) : Type 0 where
  pub kept : (b slot : ℕ) → v.kept b slot ≡ w.kept b slot
  pub decided : (round : ℕ) → v.board.decision round ≡ w.board.decision round

-- answers are the same; of a packet its bytes count, and not what lies behind them
pub data SameAnswer : Answer → Answer → Type 0 where
  same : {a : Answer} → SameAnswer a a
  packet : (p q : SentPacket) → sent_bytes p ≡ sent_bytes q → SameAnswer (Ok (rp.Sent p)) (Ok (rp.Sent q))

pub record SameOutcome (a : Answer) (v : World) (b : Answer) (w : World) : Type 0 where
  pub answer : SameAnswer a b
  pub beds : v.beds ≡ w.beds
  pub size : v.board.beds ≡ w.board.beds
  pub proposals : (b round : ℕ) → v.board.proposal b round ≡ w.board.proposal b round

-- in every world that a new group can reach, whatever call is made there
abbrev pub Determined : Type 0
Determined =
    (named : ℕ) (w₀ : World) (h : History) (w : World) → New w₀ → Lived named w₀ h w →
    (c : Call) (a : Answer) (v : World) (b : Answer) (v' : World) → Does named w c a v → Does named w c b v' → SameChoices v v' → SameOutcome a v b v'
