-- What the decisions of the first rounds deliver, and that it only grows.
use Rattle.std.proofs.Common.{◌≡◌, ℕ, zero, suc, ◌*◌, ◌<◌, ◌≤◌, true, List, [], ◌++◌, length, is_some, Some, Option, sym, refl, ap, ◌∙◌, subst, inl, inr, arith}
use Rattle.std.proofs.lemmas.List.{append-nil, append_assoc}
use Rattle.std.proofs.lemmas.Bool.{cases_lt}
use Rattle.codec.specs.Limits.{max_beds, batch_tickets}
use Rattle.codec.specs.TicketList.{Each, Apart}
use Rattle.codec.specs.Batch.{IsBatch}
use Rattle.codec.specs.declared.ticket.Ticket.{Ticket}
use Rattle.codec.proofs.FormLaws.{batch_laws}
use Rattle.group.specs.Queue.{append}
use Rattle.group.specs.Delivered.{readable, tickets_in, delivered}
use Rattle.group.proofs.Options.{is_some_lem, some_of}
use Rattle.group.proofs.Appends.{Begins, append_laws, append_each}

-- what stood still stands
abbrev pub Grow : (ℕ → Option (List ℕ)) → (ℕ → Option (List ℕ)) → Type 0
Grow d d' = (r : ℕ) (v : List ℕ) → d r ≡ Some v → d' r ≡ Some v

pub grow_some : (d d' : ℕ → Option (List ℕ)) → Grow d d' → (r : ℕ) → is_some (d r) ≡ true → is_some (d' r) ≡ true
grow_some d d' g r h = let p = some_of (d r) h in is_some_lem (d' r) p.0 (g r p.0 p.1)

pub grow_trans : (d e f : ℕ → Option (List ℕ)) → Grow d e → Grow e f → Grow d f
grow_trans d e f g h r v k = h r v (g r v k)

pub tickets_in_lem : (n : ℕ) (v : List ℕ) (ts : List Ticket) → n ≤ max_beds → IsBatch n v ts → tickets_in n (Some v) ≡ ts
tickets_in_lem n v ts most b = ap readable (batch_laws.whole n v ts most b)

-- decided rounds deliver the same from then on
pub delivered_grow : (n : ℕ) (d d' : ℕ → Option (List ℕ)) → Grow d d' → (k : ℕ) → ((r : ℕ) → r < k → is_some (d r) ≡ true) → delivered n d k ≡ delivered n d' k
delivered_grow n d d' g zero h = refl
delivered_grow n d d' g (suc k) h =
    let before = delivered_grow n d d' g k (λ r l. h r (omega arith)) in
    let p = some_of (d k) (h k (omega arith)) in
    let here : d k ≡ d' k = p.1 ∙ sym (g k p.0 p.1) in
    ap (λ q. append q (tickets_in n (d k))) before ∙ ap (λ o. append (delivered n d' k) (tickets_in n o)) here

-- more rounds deliver more at the end
pub delivered_more : (n : ℕ) (d : ℕ → Option (List ℕ)) (k m : ℕ) → k ≤ m → Begins (delivered n d m) (delivered n d k)
delivered_more n d k zero h = let e : k ≡ 0 = omega arith in subst (λ j. Begins [] (delivered n d j)) (sym e) ([], refl)
delivered_more n d k (suc m) h =
    elim (cases_lt k (suc m)) [
      | inl l ↦
          let a = delivered_more n d k m (omega arith) in
          let b = append_laws.begins (delivered n d m) (tickets_in n (d m)) in
          (a.0 ++ b.0, b.1 ∙ ap (λ q. q ++ b.0) a.1 ∙ append_assoc (delivered n d k) a.0 b.0)
      | inr l ↦ let e : suc m ≡ k = omega arith in ([], ap (delivered n d) e ∙ sym (append-nil (delivered n d k)))
    ]

pub delivered_apart : (n : ℕ) (d : ℕ → Option (List ℕ)) (k : ℕ) → Apart (delivered n d k)
delivered_apart n d zero = tt
delivered_apart n d (suc k) = append_laws.apart (delivered n d k) (tickets_in n (d k)) (delivered_apart n d k)

pub delivered_each : (P : Ticket → Type 0) (n : ℕ) (d : ℕ → Option (List ℕ)) (k : ℕ) → ((r : ℕ) → Each P (tickets_in n (d r))) → Each P (delivered n d k)
delivered_each P n d zero h = tt
delivered_each P n d (suc k) h = append_each P (delivered n d k) (tickets_in n (d k)) (delivered_each P n d k h) (h k)

pub delivered-length : (n : ℕ) (d : ℕ → Option (List ℕ)) (k : ℕ) → ((r : ℕ) → length (tickets_in n (d r)) ≤ batch_tickets) → length (delivered n d k) ≤ batch_tickets * k
delivered-length n d zero h = omega arith
delivered-length n d (suc k) h = omega (arith, append_laws.length (delivered n d k) (tickets_in n (d k)), delivered-length n d k h, h k)
