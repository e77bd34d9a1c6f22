-- What holds of memory and service together, and that keeps, puts and polls preserve it.
use Rattle.std.proofs.Common.{◌≡◌, ℕ, ◌+◌, ◌<◌, ◌≤◌, true, ◌⊎◌, List, [], length, is_some, Some, None, Option, Result, sym, ap, ◌∙◌, subst, inl, inr, arith}
use Rattle.std.proofs.lemmas.Bool.{cases_eq}
use Rattle.codec.specs.Limits.{max_beds, max_batch_bytes}
use Rattle.codec.specs.TicketList.{Each}
use Rattle.codec.specs.Batch.{IsBatch}
use Rattle.codec.specs.declared.ticket.Ticket.{Ticket}
use Rattle.codec.specs.declared.value.Value.{Value}
use Rattle.codec.proofs.FormLaws.{batch_laws}
use Rattle.codec.proofs.TicketLists.{each_weaker}
use Rattle.memory.specs.Meaning.{Slots, Within as WithinMemory}
use Rattle.decision.specs.Limits.{round_count}
use Rattle.decision.specs.Meaning.{Board, Within as WithinService, Settles, Puts, Polls}
use Rattle.decision.specs.declared.refusal.DecisionRefusal.{DecisionRefusal}
use Rattle.decision.specs.declared.service.PutAnswer.{PutAnswer}
use Rattle.group.specs.Delivered.{tickets_in}
use Rattle.group.proofs.Options.{not_none, same_some, cases_option, none_from}
use Rattle.group.proofs.Delivered.{Grow, grow_some, tickets_in_lem}

-- ---- rounds that a bed has behind it

-- the bed's slot of the round is full, and the round is decided
abbrev pub Past : (ℕ → Option (List ℕ)) → (ℕ → Option (List ℕ)) → ℕ → Type 0
Past m d r = (is_some (m r) ≡ true) × (is_some (d r) ≡ true)

abbrev pub AllPast : (ℕ → Option (List ℕ)) → (ℕ → Option (List ℕ)) → ℕ → Type 0
AllPast m d k = (r : ℕ) → r < k → Past m d r

pub past_more : (m d : ℕ → Option (List ℕ)) (k : ℕ) → AllPast m d k → Past m d k → AllPast m d (k + 1)
past_more m d k h p r l = elim (cases_eq r k) [ inl e ↦ subst (Past m d) (sym e) p | inr e ↦ h r (omega arith) ]

pub past_grow : (m m' d d' : ℕ → Option (List ℕ)) → Grow m m' → Grow d d' → (k : ℕ) → AllPast m d k → AllPast m' d' k
past_grow m m' d d' g h k p r l = let q = p r l in (grow_some m m' g r q.0, grow_some d d' h r q.1)

-- ---- tables by bed and round

-- what stood still stands
abbrev pub GrowAll : Slots → Slots → Type 0
GrowAll m m' = (c k : ℕ) (u : List ℕ) → m c k ≡ Some u → m' c k ≡ Some u

-- the place (b, r) or another
pub cases_place : (b r c k : ℕ) → ((c ≡ b) × (k ≡ r)) ⊎ (c ≡ b → k ≡ r → ⊥)
cases_place b r c k =
    elim (cases_eq c b) [
      | inl e ↦ elim (cases_eq k r) [ inl f ↦ inl (e, f) | inr f ↦ inr (λ x y. f y) ]
      | inr e ↦ inr (λ x y. e x)
    ]

pub at_place : (m : Slots) (b r c k : ℕ) → (c ≡ b) × (k ≡ r) → m c k ≡ m b r
at_place m b r c k p = ap (λ x. m x k) p.0 ∙ ap (m b) p.1

-- a table that at most one place was changed in
pub one_grows : (m m' : Slots) (b r : ℕ) → ((c k : ℕ) → (c ≡ b → k ≡ r → ⊥) → m' c k ≡ m c k) → ((u : List ℕ) → m b r ≡ Some u → m' b r ≡ Some u) → GrowAll m m'
one_grows m m' b r others here c k u e =
    elim (cases_place b r c k) [
      | inl p ↦ at_place m' b r c k p ∙ here u (sym (at_place m b r c k p) ∙ e)
      | inr p ↦ others c k p ∙ e
    ]

-- ---- batches

-- bytes of a batch of tickets of which V holds, for a group of n beds
pub record Batch (V : Ticket → Type 0) (n : ℕ) (v : List ℕ) : Type 0 where
  pub tickets : List Ticket
  pub sound : IsBatch n v tickets
  pub valid : Each V tickets

pub batch-length : (V : Ticket → Type 0) (n : ℕ) (v : List ℕ) → n ≤ max_beds → Batch V n v → (1 ≤ length v) × (length v ≤ max_batch_bytes)
batch-length V n v most b =
    let e = b.sound.bytes in (
      subst (λ (u : List ℕ). 1 ≤ length u) (sym e) (batch_laws.some b.tickets),
      subst (λ (u : List ℕ). length u ≤ max_batch_bytes) (sym e) (batch_laws.short n b.tickets most b.sound.sound),
    )

-- ---- the store

-- every standing decision is a standing proposal of a bed of the group
abbrev pub Chosen : ℕ → Board → Type 0
Chosen n s = (r : ℕ) (v : List ℕ) → s.decision r ≡ Some v → (c : ℕ) × (c < n) × (s.proposal c r ≡ Some v)

-- what a slot holds: a batch of a bed of the group, kept after the bed had passed all rounds before
pub record Slot (V : Ticket → Type 0) (n b r : ℕ) (m d : ℕ → Option (List ℕ)) (v : List ℕ) : Type 0 where
  pub bed_in : b < n
  pub round_in : r < round_count
  pub batch : Batch V n v
  pub ordered : AllPast m d r

-- slots hold batches, proposals are kept, decisions are proposed
pub record Store (V : Ticket → Type 0) (n : ℕ) (m : Slots) (s : Board) : Type 0 where
  pub beds : s.beds ≡ n
  pub slots : (b r : ℕ) (v : List ℕ) → m b r ≡ Some v → Slot V n b r (m b) s.decision v
  pub proposals : GrowAll s.proposal m
  pub decisions : Chosen n s

pub settles_grow : (s : Board) (r : ℕ) (s' : Board) → Settles s r s' → Grow s.decision s'.decision
settles_grow s r s' h k v e =
    elim (cases_eq k r) [
      | inl f ↦ ap s'.decision f ∙ h.stays v (ap s.decision (sym f) ∙ e)
      | inr f ↦ h.other_rounds k f ∙ e
    ]

settles_chosen : (n : ℕ) (s : Board) (r : ℕ) (s' : Board) → s'.beds ≡ n → GrowAll s.proposal s'.proposal → Settles s r s' → Chosen n s → Chosen n s'
settles_chosen n s r s' beds grow h old k v e =
    elim (cases_eq k r) [ inl f ↦ here f (ap s'.decision (sym f) ∙ e) | inr f ↦ kept k (sym (h.other_rounds k f) ∙ e) ]
  where
    kept : (j : ℕ) → s.decision j ≡ Some v → (c : ℕ) × (c < n) × (s'.proposal c j ≡ Some v)
    kept j d = let p = old j v d in (p.0, p.1, grow p.0 j v p.2)

    new : s'.decision r ≡ Some v → (c : ℕ) × (c < n) × (s'.proposal c r ≡ Some v)
    new d =
        elim (cases_option (s.decision r)) [
          | inl z ↦ let p = h.chosen v z d in (p.0, subst (λ j. p.0 < j) beds p.1, p.2)
          | inr u ↦ let x : u.0 ≡ v = same_some (s'.decision r) u.0 v (h.stays u.0 u.1) d in kept r (u.1 ∙ ap Some x)
        ]

    here : k ≡ r → s'.decision r ≡ Some v → (c : ℕ) × (c < n) × (s'.proposal c k ≡ Some v)
    here f d = subst (λ j. (c : ℕ) × (c < n) × (s'.proposal c j ≡ Some v)) (sym f) (new d)

pub slot_grow : (V V' : Ticket → Type 0) (n b r : ℕ) (m m' d d' : ℕ → Option (List ℕ)) (v : List ℕ) → ((t : Ticket) → V t → V' t) → Grow m m' → Grow d d' → Slot V n b r m d v → Slot V' n b r m' d' v
slot_grow V V' n b r m m' d d' v f g h s =
    record {
      bed_in = s.bed_in;
      round_in = s.round_in;
      batch = record { tickets = s.batch.tickets; sound = s.batch.sound; valid = each_weaker V V' f s.batch.tickets s.batch.valid };
      ordered = past_grow m m' d d' g h r s.ordered;
    }

-- more is true of tickets
pub store_more : (V V' : Ticket → Type 0) (n : ℕ) (m : Slots) (s : Board) → ((t : Ticket) → V t → V' t) → Store V n m s → Store V' n m s
store_more V V' n m s f st =
    record {
      beds = st.beds;
      slots = λ b r v e. slot_grow V V' n b r (m b) (m b) s.decision s.decision v f (λ k u x. x) (λ k u x. x) (st.slots b r v e);
      proposals = st.proposals;
      decisions = st.decisions;
    }

-- a decision's bytes are a batch
pub decided_batch : (V : Ticket → Type 0) (n : ℕ) (m : Slots) (s : Board) → Store V n m s → (r : ℕ) (v : List ℕ) → s.decision r ≡ Some v → Batch V n v
decided_batch V n m s st r v e = let p = st.decisions r v e in (st.slots p.0 r v (st.proposals p.0 r v p.2)).batch

-- so what holds of every batch holds of what is decided
pub decided_tickets : (P : List Ticket → Type 0) (V : Ticket → Type 0) (n : ℕ) (m : Slots) (s : Board) → n ≤ max_beds → Store V n m s → P [] →
    ((v : List ℕ) (b : Batch V n v) → P b.tickets) → (r : ℕ) → P (tickets_in n (s.decision r))
decided_tickets P V n m s most st none some r =
    elim (cases_option (s.decision r)) [
      | inl z ↦ subst (λ o. P (tickets_in n o)) (sym z) none
      | inr u ↦
          let b = decided_batch V n m s st r u.0 u.1 in
          subst (λ o. P (tickets_in n o)) (sym u.1) (subst P (sym (tickets_in_lem n u.0 b.tickets most b.sound)) (some u.0 b))
    ]

-- past the first round that a bed has not passed its slots are empty
pub empty_ahead : (V : Ticket → Type 0) (n : ℕ) (m : Slots) (s : Board) (b r : ℕ) → Store V n m s →
    ((r ≡ round_count) ⊎ ((r < round_count) × (Past (m b) s.decision r → ⊥))) → (k : ℕ) → r < k → m b k ≡ None
empty_ahead V n m s b r st first k l =
    none_from (m b k) (λ v e.
    let slot = st.slots b k v e in
    elim first [ inl f ↦ omega (arith, slot.round_in) | inr f ↦ f.1 (slot.ordered r l) ])

-- ---- a put of what is kept

module _ (V : Ticket → Type 0) (n : ℕ) (most : n ≤ max_beds) (m : Slots) (s : Board) (b r : ℕ) (v : List ℕ) (a : Result PutAnswer DecisionRefusal) (s' : Board)
    (kept : m b r ≡ Some v) (h : Puts s b r v a s') (st : Store V n m s) where
  within : WithinService s.beds b r (length v)
  within =
      let slot = st.slots b r v kept in
      let l = batch-length V n v most slot.batch in
      record { bed_in = subst (λ j. b < j) (sym st.beds) slot.bed_in; round_in = slot.round_in; some = l.0; most = l.1 }

  grow : GrowAll s.proposal s'.proposal
  grow = one_grows s.proposal s'.proposal b r h.others (λ u e. (h.had u within e).1)

  -- the bed's proposal then is what it kept
  pub put_stands : s'.proposal b r ≡ Some v
  put_stands =
      elim (cases_option (s.proposal b r)) [
        | inl z ↦ (h.taken within z).1
        | inr y ↦ (h.had y.0 within y.1).1 ∙ ap Some (same_some (m b r) y.0 v (st.proposals b r y.0 y.1) kept)
      ]

  pub put_store : Store V n m s'
  put_store =
      record {
        beds = h.same_beds ∙ st.beds;
        slots = λ c k u e. slot_grow V V n c k (m c) (m c) s.decision s'.decision u (λ t x. x) (λ j x y. y) (settles_grow s r s' h.settles) (st.slots c k u e);
        proposals = λ c k u e.
            elim (cases_place b r c k) [
              | inl p ↦ at_place m b r c k p ∙ kept ∙ ap Some (same_some (s'.proposal b r) v u put_stands (sym (at_place s'.proposal b r c k p) ∙ e))
              | inr p ↦ st.proposals c k u (sym (h.others c k p) ∙ e)
            ];
        decisions = settles_chosen n s r s' (h.same_beds ∙ st.beds) grow h.settles st.decisions;
      }

-- ---- a poll

pub poll_store : (V : Ticket → Type 0) (n : ℕ) (m : Slots) (s : Board) (r : ℕ) (a : Result Value DecisionRefusal) (s' : Board) → Polls s r a s' → Store V n m s → Store V n m s'
poll_store V n m s r a s' h st =
    record {
      beds = h.same_beds ∙ st.beds;
      slots = λ c k u e. slot_grow V V n c k (m c) (m c) s.decision s'.decision u (λ t x. x) (λ j x y. y) (settles_grow s r s' h.settles) (st.slots c k u e);
      proposals = λ c k u e. st.proposals c k u (sym (h.same_proposals c k) ∙ e);
      decisions = settles_chosen n s r s' (h.same_beds ∙ st.beds) (λ c k u e. h.same_proposals c k ∙ e) h.settles st.decisions;
    }

-- ---- a keep, whole or torn

-- the slot of bed b and round r took these bytes or stayed empty, and nothing else changed
pub record Fills (m : Slots) (b r : ℕ) (v : List ℕ) (m' : Slots) : Type 0 where
  pub was : m b r ≡ None
  pub now : (m' b r ≡ None) ⊎ (m' b r ≡ Some v)
  pub elsewhere : (c k : ℕ) → (c ≡ b → k ≡ r → ⊥) → m' c k ≡ m c k

pub fills_grow : (m : Slots) (b r : ℕ) (v : List ℕ) (m' : Slots) → Fills m b r v m' → GrowAll m m'
fills_grow m b r v m' f = one_grows m m' b r f.elsewhere (λ u e. absurd (not_none (m b r) u e f.was))

pub fills_store : (V : Ticket → Type 0) (n : ℕ) (m m' : Slots) (s : Board) (b r : ℕ) (v : List ℕ) → Fills m b r v m' → Slot V n b r (m b) s.decision v → Store V n m s → Store V n m' s
fills_store V n m m' s b r v f new st =
    record { beds = st.beds; slots = slots; proposals = λ c k u e. grow c k u (st.proposals c k u e); decisions = st.decisions }
  where
    grow : GrowAll m m'
    grow = fills_grow m b r v m' f

    kept : (c k : ℕ) (u : List ℕ) → Slot V n c k (m c) s.decision u → Slot V n c k (m' c) s.decision u
    kept c k u x = slot_grow V V n c k (m c) (m' c) s.decision s.decision u (λ t y. y) (grow c) (λ j y z. z) x

    here : (u : List ℕ) → m' b r ≡ Some u → Slot V n b r (m' b) s.decision u
    here u e =
        elim f.now [
          | inl z ↦ absurd (not_none (m' b r) u e z)
          | inr y ↦ subst (Slot V n b r (m' b) s.decision) (same_some (m' b r) v u y e) (kept b r v new)
        ]

    slots : (c k : ℕ) (u : List ℕ) → m' c k ≡ Some u → Slot V n c k (m' c) s.decision u
    slots c k u e =
        elim (cases_place b r c k) [
          | inl p ↦
              subst (λ j. Slot V n j k (m' j) s.decision u) (sym p.0)
              (subst (λ j. Slot V n b j (m' b) s.decision u) (sym p.1) (here u (sym (at_place m' b r c k p) ∙ e)))
          | inr p ↦ kept c k u (st.slots c k u (sym (f.elsewhere c k p) ∙ e))
        ]

-- so many bytes may be kept in the slot of a round
pub keep_within : (V : Ticket → Type 0) (n b r : ℕ) (v : List ℕ) → n ≤ max_beds → b < n → r < round_count → Batch V n v → WithinMemory b r (length v)
keep_within V n b r v most low left batch =
    let l = batch-length V n v most batch in
    record { place = record { bed_in = omega arith; slot_in = left }; some = l.0; most = l.1 }
