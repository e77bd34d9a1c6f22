use Rattle.std.proofs.Common.{◌≡◌, ◌<◌, ◌≤◌, Some, Err, sym, refl, ap, ◌∙◌, subst, arith}
use Rattle.std.proofs.lemmas.Result.{err_from_is_err_and}
use Rattle.codec.specs.Tickets.{listed}
use Rattle.codec.specs.Value.{value_bytes}
use Rattle.memory.specs.Meaning.{behind}
use Rattle.decision.specs.Limits.{round_count}
use Rattle.decision.specs.Meaning.{Puts, Polls}
use Rattle.group.specs.Calls.{waiting_now}
use Rattle.group.specs.Record.{CollectsBatch}
use Rattle.group.specs.Start.{ReplaysRound}
use Rattle.group.specs.declared.bed.Phase.TheVariants.{Waiting}
use Rattle.group.specs.declared.refusal.Refusal.TheVariants as rf
use Rattle.group.proofs.BatchReads.{Sited, sited_batch, sited_fault}
use Rattle.group.proofs.Starts.{read_is, replay_over, replay_empty, replay_bad_kept, proposed, no_decision, a_decision, replay_undecided, replay_bad_decided, next_round, replay_next, next_sound, end_sound, idle_sound}
use Rattle.group.proofs.row.Row.replay.Goals as goal

pub returns-then-round-ge-ROUNDS : goal.returns-then-round-ge-ROUNDS
returns-then-round-ge-ROUNDS g c =
    let t = c.args.self.now.table in
    let slots = g.M.Memory.holds c.args.self.now.memory c.args.bed in
    let s = g.S.DecisionService.board c.args.self.now.service in
    let r = c.args.own.now in
    let same = c.from-round.ensures in
    record { replays = (replay_over t.size.count slots c.args.bed r c.requires.sound s (subst (λ k. round_count ≤ k) same c.if-round-ge-ROUNDS.true), idle_sound t.size.count r c.requires.sound); memory = refl; table = refl }

pub returns-in_default-slot : goal.returns-in_default-slot
returns-in_default-slot g c =
    let t = c.args.self.now.table in
    let slots = g.M.Memory.holds c.args.self.now.memory c.args.bed in
    let s = g.S.DecisionService.board c.args.self.now.service in
    let r = c.args.own.now in
    let same = c.from-round.ensures in
    let left : r.round < round_count = subst (λ k. k < round_count) same c.if-round-ge-ROUNDS.false in
    let held : behind c.in-Ok.slot ≡ slots r.round =
    read_is (g.M.Memory.holds c.args.self.now.memory) c.args.bed c.from-round.result c.read.result c.in-Ok.slot (omega (arith, c.requires.low, t.size.most)) c.if-round-ge-ROUNDS.false c.read.ensures c.in-Ok.is ∙ ap slots same in
    record { replays = (replay_empty t.size.count slots c.args.bed r c.requires.sound left s (sym held ∙ ap behind c.in_default-slot.is), idle_sound t.size.count r c.requires.sound); memory = refl; table = refl }

pub returns-in_err-sited : goal.returns-in_err-sited
returns-in_err-sited g c =
    let t = c.args.self.now.table in
    let slots = g.M.Memory.holds c.args.self.now.memory c.args.bed in
    let s = g.S.DecisionService.board c.args.self.now.service in
    let r = c.args.own.now in
    let same = c.from-round.ensures in
    let left : r.round < round_count = subst (λ k. k < round_count) same c.if-round-ge-ROUNDS.false in
    let held : behind c.in-Ok.slot ≡ slots r.round =
    read_is (g.M.Memory.holds c.args.self.now.memory) c.args.bed c.from-round.result c.read.result c.in-Ok.slot (omega (arith, c.requires.low, t.size.most)) c.if-round-ge-ROUNDS.false c.read.ensures c.in-Ok.is ∙ ap slots same in
    let bytes = c.in-Some.bytes.now in
    let full : slots r.round ≡ Some bytes = sym held ∙ ap behind c.in-Some.is in
    let own : Sited t.size c.size.result bytes bytes _ c.read_batch.result c.sited.result = record { same_size = c.size.ensures; same_bytes = refl; value = c.read_batch.ensures.value; sound = c.read_batch.ensures.sound; sited = c.sited.ensures } in
    let p = err_from_is_err_and c.from_residual.result c.from_residual.ensures.1 in
    let f = sited_fault t.size c.size.result bytes bytes _ c.read_batch.result c.sited.result c.in_err-sited.field-0.0 own c.in_err-sited.was in
    record {
      replays = subst (λ o. ReplaysRound t.size.count slots c.args.bed r s o r s) (sym (p.1 ∙ ap Err (p.2 ∙ ap rf.Faulty f.2))) (replay_bad_kept t.size.count slots c.args.bed r c.requires.sound left s bytes f.0 full f.1);
      memory = refl;
      table = refl;
    }

pub returns-in_default-poll : goal.returns-in_default-poll
returns-in_default-poll g c =
    let t = c.args.self.now.table in
    let slots = g.M.Memory.holds c.args.self.now.memory c.args.bed in
    let s = g.S.DecisionService.board c.args.self.now.service in
    let r = c.args.own.now in
    let same = c.from-round.ensures in
    let left : r.round < round_count = subst (λ k. k < round_count) same c.if-round-ge-ROUNDS.false in
    let held : behind c.in-Ok.slot ≡ slots r.round =
    read_is (g.M.Memory.holds c.args.self.now.memory) c.args.bed c.from-round.result c.read.result c.in-Ok.slot (omega (arith, c.requires.low, t.size.most)) c.if-round-ge-ROUNDS.false c.read.ensures c.in-Ok.is ∙ ap slots same in
    let bytes = c.in-Some.bytes.now in
    let full : slots r.round ≡ Some bytes = sym held ∙ ap behind c.in-Some.is in
    let own : Sited t.size c.size.result bytes bytes _ c.read_batch.result c.sited.result = record { same_size = c.size.ensures; same_bytes = refl; value = c.read_batch.ensures.value; sound = c.read_batch.ensures.sound; sited = c.sited.ensures } in
    let s₁ = g.S.DecisionService.board c.put.new.self in
    let s₂ = g.S.DecisionService.board c.poll.new.self in
    let batch = sited_batch t.size c.size.result bytes bytes _ c.read_batch.result c.sited.result c.in_ok-sited.field-0 own c.in_ok-sited.was in
    let polls = subst (λ k. Polls s₁ k c.poll.result s₂) same c.poll.ensures in
    let p = proposed t.size.count slots c.args.bed r c.requires.sound left s bytes (listed c.in_ok-sited.field-0) c.put.result s₁ c.poll.result s₂ full batch (subst (λ k. Puts s c.args.bed k bytes c.put.result s₁) same c.put.ensures) polls in
    let none = no_decision t.size.count slots c.args.bed r c.requires.sound left s₁ c.poll.result c.in_default-poll.field-0 s₂ polls c.in_default-poll.is in
    record { replays = (replay_undecided t.size.count slots c.args.bed r c.requires.sound left s s₂ (record { phase = Waiting; round = r.round; heard = r.heard; waiting = r.waiting; queue = r.queue }) p none (ap waiting_now c.requires.sound.bed), end_sound t.size.count r (record { phase = Waiting; round = r.round; heard = r.heard; waiting = r.waiting; queue = r.queue }) c.requires.sound refl refl refl (λ _. left)); memory = refl; table = refl }

pub returns-in_err-batch : goal.returns-in_err-batch
returns-in_err-batch g c =
    let t = c.args.self.now.table in
    let slots = g.M.Memory.holds c.args.self.now.memory c.args.bed in
    let s = g.S.DecisionService.board c.args.self.now.service in
    let r = c.args.own.now in
    let same = c.from-round.ensures in
    let left : r.round < round_count = subst (λ k. k < round_count) same c.if-round-ge-ROUNDS.false in
    let held : behind c.in-Ok.slot ≡ slots r.round =
    read_is (g.M.Memory.holds c.args.self.now.memory) c.args.bed c.from-round.result c.read.result c.in-Ok.slot (omega (arith, c.requires.low, t.size.most)) c.if-round-ge-ROUNDS.false c.read.ensures c.in-Ok.is ∙ ap slots same in
    let bytes = c.in-Some.bytes.now in
    let full : slots r.round ≡ Some bytes = sym held ∙ ap behind c.in-Some.is in
    let own : Sited t.size c.size.result bytes bytes _ c.read_batch.result c.sited.result = record { same_size = c.size.ensures; same_bytes = refl; value = c.read_batch.ensures.value; sound = c.read_batch.ensures.sound; sited = c.sited.ensures } in
    let s₁ = g.S.DecisionService.board c.put.new.self in
    let s₂ = g.S.DecisionService.board c.poll.new.self in
    let batch = sited_batch t.size c.size.result bytes bytes _ c.read_batch.result c.sited.result c.in_ok-sited.field-0 own c.in_ok-sited.was in
    let polls = subst (λ k. Polls s₁ k c.poll.result s₂) same c.poll.ensures in
    let p = proposed t.size.count slots c.args.bed r c.requires.sound left s bytes (listed c.in_ok-sited.field-0) c.put.result s₁ c.poll.result s₂ full batch (subst (λ k. Puts s c.args.bed k bytes c.put.result s₁) same c.put.ensures) polls in
    let x = c.in-Ok-poll.decision in
    let d = a_decision t.size.count slots c.args.bed r c.requires.sound left s₁ c.poll.result x s₂ polls c.in-Ok-poll.is in
    let decided : Sited t.size c.size-2.result c.as_slice.result.now (value_bytes x) _ c.read_batch-2.result c.sited-2.result = record { same_size = c.size-2.ensures; same_bytes = c.as_slice.ensures; value = c.read_batch-2.ensures.value; sound = c.read_batch-2.ensures.sound; sited = c.sited-2.ensures } in
    let q = err_from_is_err_and c.from_residual-in_err-batch.result c.from_residual-in_err-batch.ensures.1 in
    let f = sited_fault t.size c.size-2.result c.as_slice.result.now (value_bytes x) _ c.read_batch-2.result c.sited-2.result c.in_err-batch.field-0.0 decided c.in_err-batch.was in
    record {
      replays = subst (λ o. ReplaysRound t.size.count slots c.args.bed r s o r s₂) (sym (q.1 ∙ ap Err (q.2 ∙ ap rf.Faulty f.2))) (replay_bad_decided t.size.count slots c.args.bed r c.requires.sound left s s₂ (value_bytes x) f.0 p d f.1);
      memory = refl;
      table = refl;
    }

pub returns : goal.returns
returns g c =
    let t = c.args.self.now.table in
    let slots = g.M.Memory.holds c.args.self.now.memory c.args.bed in
    let s = g.S.DecisionService.board c.args.self.now.service in
    let r = c.args.own.now in
    let same = c.from-round.ensures in
    let left : r.round < round_count = subst (λ k. k < round_count) same c.if-round-ge-ROUNDS.false in
    let held : behind c.in-Ok.slot ≡ slots r.round =
    read_is (g.M.Memory.holds c.args.self.now.memory) c.args.bed c.from-round.result c.read.result c.in-Ok.slot (omega (arith, c.requires.low, t.size.most)) c.if-round-ge-ROUNDS.false c.read.ensures c.in-Ok.is ∙ ap slots same in
    let bytes = c.in-Some.bytes.now in
    let full : slots r.round ≡ Some bytes = sym held ∙ ap behind c.in-Some.is in
    let own : Sited t.size c.size.result bytes bytes _ c.read_batch.result c.sited.result = record { same_size = c.size.ensures; same_bytes = refl; value = c.read_batch.ensures.value; sound = c.read_batch.ensures.sound; sited = c.sited.ensures } in
    let s₁ = g.S.DecisionService.board c.put.new.self in
    let s₂ = g.S.DecisionService.board c.poll.new.self in
    let batch = sited_batch t.size c.size.result bytes bytes _ c.read_batch.result c.sited.result c.in_ok-sited.field-0 own c.in_ok-sited.was in
    let polls = subst (λ k. Polls s₁ k c.poll.result s₂) same c.poll.ensures in
    let p = proposed t.size.count slots c.args.bed r c.requires.sound left s bytes (listed c.in_ok-sited.field-0) c.put.result s₁ c.poll.result s₂ full batch (subst (λ k. Puts s c.args.bed k bytes c.put.result s₁) same c.put.ensures) polls in
    let x = c.in-Ok-poll.decision in
    let d = a_decision t.size.count slots c.args.bed r c.requires.sound left s₁ c.poll.result x s₂ polls c.in-Ok-poll.is in
    let decided : Sited t.size c.size-2.result c.as_slice.result.now (value_bytes x) _ c.read_batch-2.result c.sited-2.result = record { same_size = c.size-2.ensures; same_bytes = c.as_slice.ensures; value = c.read_batch-2.ensures.value; sound = c.read_batch-2.ensures.sound; sited = c.sited-2.ensures } in
    let l = c.in_ok-batch.batch in
    let new = sited_batch t.size c.size-2.result c.as_slice.result.now (value_bytes x) _ c.read_batch-2.result c.sited-2.result l decided c.in_ok-batch.was in
    let r' = c.collect.new.self in
    let h : CollectsBatch (listed l) r r' = subst (λ ts. CollectsBatch ts r r') c.as_slice-2.ensures.items c.collect.ensures.collects in
    record {
      replays = (
        next_round t.size.count slots c.args.bed r c.requires.sound left (listed l) r' h,
        next_sound t.size.count slots c.args.bed r c.requires.sound left (listed l) r' h new.sound.few,
        replay_next t.size.count slots c.args.bed r c.requires.sound left (listed l) r' h s s₂ (value_bytes x) p d new,
      );
      memory = refl;
      table = refl;
    }
