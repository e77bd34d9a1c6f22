-- From what the tables do to what a service promises.
use Rattle.std.proofs.Common.{◌≡◌, ℕ, ◌<◌, true, List, is_some, Some, None, Ok, Err, Option, Result, sym, refl, ap, ◌∙◌, subst, inl, inr, arith}
use Rattle.std.proofs.lemmas.Bool.{cases_lt}
use Rattle.std.specs.Option.{ok_or}
use Rattle.codec.specs.Value.{value_bytes, shown}
use Rattle.codec.specs.declared.value.Value.{Value}
use Rattle.decision.specs.Limits.{round_count}
use Rattle.decision.specs.Meaning.{Board, Settles, Puts, PollAnswer, Polls, Enough}
use Rattle.decision.specs.Ballots.{Proposes}
use Rattle.decision.specs.declared.refusal.DecisionRefusal.{DecisionRefusal}
use Rattle.decision.specs.declared.refusal.DecisionRefusal.TheVariants.{Undecided}
use Rattle.decision.specs.declared.service.PutAnswer.{PutAnswer}

-- an accepted put was within the limits of the group
pub put_bed : (s s' : Board) (bed round : ℕ) (bytes : List ℕ) (a : PutAnswer) → Proposes s bed round bytes (Ok a) s' → bed < s.beds
put_bed s s' bed round bytes a p = elim (cases_lt bed s.beds) [
  | inl h ↦ h
  | inr g ↦ absurd (cc (p.outside (λ w. omega (arith, w.bed_in))))
]

-- the proposal was recorded, and the round is decided for it or stays as it was
pub put_decides : (s t s' : Board) (bed round : ℕ) (bytes : List ℕ) (a : PutAnswer) (v : List ℕ) → Proposes s bed round bytes (Ok a) t
    → t.decision round ≡ None → t.proposal bed round ≡ Some v
    → s'.beds ≡ t.beds → ((b k : ℕ) → s'.proposal b k ≡ t.proposal b k) → s'.decision round ≡ Some v → ((k : ℕ) → (k ≡ round → ⊥) → s'.decision k ≡ t.decision k)
    → Puts s bed round bytes (Ok a) s'
put_decides s t s' bed round bytes a v p none had beds props here others =
    let b_in = put_bed s t bed round bytes a p in
    record {
      outside = λ o. absurd (cc (p.outside o));
      taken = λ w e. ((p.taken w e).0, props bed round ∙ (p.taken w e).1);
      had = λ old w e. ((p.had old w e).0, props bed round ∙ (p.had old w e).1);
      same_beds = beds ∙ p.same_beds;
      others = λ b k ne. props b k ∙ p.others b k ne;
      settles = record {
        other_rounds = λ k ne. others k ne ∙ p.same_decisions k;
        stays = λ u e. absurd (cc (p.same_decisions round));
        chosen = λ u e f. (bed, subst (λ (n : ℕ). bed < n) (sym (beds ∙ p.same_beds)) b_in, props bed round ∙ had ∙ sym here ∙ f);
      };
    }

-- ---- polls

unchanged : (s : Board) (round : ℕ) → Settles s round s
unchanged s round = record { other_rounds = λ k ne. refl; stays = λ v e. e; chosen = λ v e f. absurd cc }

pub poll_answer_some : (o : Option (List ℕ)) (x : Value) → o ≡ Some (value_bytes x) → PollAnswer o (Ok x)
poll_answer_some o x e = record { decision = λ v f. (x, (refl, cc)); none = λ f. absurd cc }

pub poll_answer_none : (o : Option (List ℕ)) → o ≡ None → PollAnswer o (Err Undecided)
poll_answer_none o e = record { decision = λ v f. absurd cc; none = λ _. refl }

pub poll_answer : (o : Option (List ℕ)) (found : Option Value) → shown found ≡ o → PollAnswer o (ok_or found Undecided)
poll_answer o None e = poll_answer_none o (sym e)
poll_answer o (Some x) e = poll_answer_some o x (sym e)

-- a poll that changes nothing
pub poll_same : (s : Board) (round : ℕ) (r : Result Value DecisionRefusal) → round < round_count → PollAnswer (s.decision round) r
    → (Enough s round → is_some (s.decision round) ≡ true) → Polls s round r s
poll_same s round r h a e = record {
  outside = λ o. absurd (o h);
  answer = λ _. a;
  same_beds = refl;
  same_proposals = λ b k. refl;
  settles = unchanged s round;
  enough = λ _ q. e q;
}

-- a poll that decides for a proposal of the group, and answers what then stands
pub poll_decides : (s s' : Board) (round bed : ℕ) (x : Value) (found : Option Value) → round < round_count → s.decision round ≡ None → bed < s.beds → s.proposal bed round ≡ Some (value_bytes x)
    → s'.beds ≡ s.beds → ((b k : ℕ) → s'.proposal b k ≡ s.proposal b k) → s'.decision round ≡ Some (value_bytes x) → ((k : ℕ) → (k ≡ round → ⊥) → s'.decision k ≡ s.decision k)
    → shown found ≡ s'.decision round → Polls s round (ok_or found Undecided) s'
poll_decides s s' round bed x found h none b_in had beds props here others shows = record {
  outside = λ o. absurd (o h);
  answer = λ _. poll_answer (s'.decision round) found shows;
  same_beds = beds;
  same_proposals = props;
  settles = record {
    other_rounds = others;
    stays = λ v e. absurd cc;
    chosen = λ v e f. (bed, subst (λ (n : ℕ). bed < n) (sym beds) b_in, props bed round ∙ had ∙ sym here ∙ f);
  };
  enough = λ _ _. ap is_some here;
}
