-- What hearing does to a waiting set, and that its two counts are true.
use Rattle.std.proofs.Common.{◌≡◌, ℕ, ◌+◌, ◌<◌, ◌≤◌, Bool, true, false, cond, ◌||◌, ltb, List, [], ◌∷◌, length, refl, ◌∙◌, inl, inr, arith}
use Rattle.std.proofs.lemmas.Bool.{ltb-true, ltb-false, or_cases, or_parts, or_left, or_right, cond_both, cases_lt}
use Rattle.codec.specs.Ticket.{same_identity, InRange}
use Rattle.codec.specs.Edits.{placed}
use Rattle.codec.specs.TicketList.{Each, Sound, known}
use Rattle.codec.specs.declared.ticket.Ticket.{Ticket}
use Rattle.codec.proofs.Orders.{order_laws}
use Rattle.codec.proofs.ListEdits.{edit_laws, each_placed}
use Rattle.group.specs.Limits.{set_tickets}
use Rattle.group.specs.Hearing.{Hearing, unheard, took, missed, hear_one, hear_all}
use Rattle.group.specs.Laws.{HearLaws}
use Rattle.group.proofs.Appends.{each_either}

-- the three ways of a ticket: it is known, it is taken, or the set is full
hear_ways : (P : Hearing → Type 0) (queue : List Ticket) (h : Hearing) (t : Ticket) →
    ((known t h.set || known t queue) ≡ true → P h) →
    ((known t h.set || known t queue) ≡ false → length h.set < set_tickets → P (took h t)) →
    (set_tickets ≤ length h.set → P (missed h)) → P (hear_one queue h t)
hear_ways P queue h t skip take miss =
    cond_both (known t h.set || known t queue) h (cond (ltb (length h.set) set_tickets) (took h t) (missed h)) P skip
    (λ k. cond_both (ltb (length h.set) set_tickets) (took h t) (missed h) P (λ l. take k (ltb-true (length h.set) set_tickets l)) (λ l. miss (ltb-false (length h.set) set_tickets l)))

-- ---- what the set holds

hear_sound : (n : ℕ) (queue : List Ticket) (h : Hearing) (ts : List Ticket) → Each (InRange n) ts → Sound n set_tickets h.set → Sound n set_tickets (hear_all queue h ts).set
hear_sound n queue h [] r s = s
hear_sound n queue h (t ∷ ts) r s =
    hear_sound n queue (hear_one queue h t) ts r.1
    (hear_ways (λ g. Sound n set_tickets g.set) queue h t (λ k. s)
    (λ k l. edit_laws.placed_sound n set_tickets t h.set s r.0 (or_parts (known t h.set) (known t queue) k).0 l) (λ l. s))

pub hear_each : (P : Ticket → Type 0) (queue : List Ticket) (h : Hearing) (ts : List Ticket) → Each P h.set → Each P ts → Each P (hear_all queue h ts).set
hear_each P queue h [] e p = e
hear_each P queue h (t ∷ ts) e p =
    hear_each P queue (hear_one queue h t) ts (hear_ways (λ g. Each P g.set) queue h t (λ k. e) (λ k l. each_placed P t h.set p.0 e) (λ l. e)) p.1

-- ---- how many

one_grows : (queue : List Ticket) (h : Hearing) (t : Ticket) → length (hear_one queue h t).set + h.taken ≡ length h.set + (hear_one queue h t).taken
one_grows queue h t =
    hear_ways (λ g. length g.set + h.taken ≡ length h.set + g.taken) queue h t (λ k. refl) (λ k l. omega (arith, edit_laws.placed_length t h.set)) (λ l. refl)

hear_grows : (queue : List Ticket) (h : Hearing) (ts : List Ticket) → length (hear_all queue h ts).set + h.taken ≡ length h.set + (hear_all queue h ts).taken
hear_grows queue h [] = refl
hear_grows queue h (t ∷ ts) = omega (arith, one_grows queue h t, hear_grows queue (hear_one queue h t) ts)

one_counted : (queue : List Ticket) (h : Hearing) (t : Ticket) → (hear_one queue h t).taken + (hear_one queue h t).full ≤ h.taken + h.full + 1
one_counted queue h t = hear_ways (λ g. g.taken + g.full ≤ h.taken + h.full + 1) queue h t (λ k. omega arith) (λ k l. omega arith) (λ l. omega arith)

hear_counted : (queue : List Ticket) (h : Hearing) (ts : List Ticket) → (hear_all queue h ts).taken + (hear_all queue h ts).full ≤ h.taken + h.full + length ts
hear_counted queue h [] = omega arith
hear_counted queue h (t ∷ ts) = omega (arith, one_counted queue h t, hear_counted queue (hear_one queue h t) ts)

one_more : (queue : List Ticket) (h : Hearing) (t : Ticket) → (length h.set ≤ length (hear_one queue h t).set) × (h.full ≤ (hear_one queue h t).full)
one_more queue h t =
    hear_ways (λ g. (length h.set ≤ length g.set) × (h.full ≤ g.full)) queue h t (λ k. (omega arith, omega arith))
    (λ k l. (omega (arith, edit_laws.placed_length t h.set), omega arith)) (λ l. (omega arith, omega arith))

hear_more : (queue : List Ticket) (h : Hearing) (ts : List Ticket) → (length h.set ≤ length (hear_all queue h ts).set) × (h.full ≤ (hear_all queue h ts).full)
hear_more queue h [] = (omega arith, omega arith)
hear_more queue h (t ∷ ts) =
    let a = one_more queue h t in
    let b = hear_more queue (hear_one queue h t) ts in
    (omega (arith, a.0, b.0), omega (arith, a.1, b.1))

-- ---- who found it full

one_full : (queue : List Ticket) (h : Hearing) (t : Ticket) → h.full < (hear_one queue h t).full → set_tickets ≤ length h.set
one_full queue h t = hear_ways (λ g. h.full < g.full → set_tickets ≤ length h.set) queue h t (λ k l. absurd (omega arith)) (λ k r l. absurd (omega arith)) (λ r l. r)

hear_full : (queue : List Ticket) (h : Hearing) (ts : List Ticket) → h.full < (hear_all queue h ts).full → set_tickets ≤ length (hear_all queue h ts).set
hear_full queue h [] l = absurd (omega arith)
hear_full queue h (t ∷ ts) l =
    elim (cases_lt h.full (hear_one queue h t).full) [
      | inl k ↦ omega (arith, one_full queue h t k, (one_more queue h t).0, (hear_more queue (hear_one queue h t) ts).0)
      | inr k ↦ hear_full queue (hear_one queue h t) ts (omega arith)
    ]

-- an identity in the set or in the queue stays there
abbrev Knows : List Ticket → Hearing → Ticket → Type 0
Knows queue h t = (known t h.set || known t queue) ≡ true

or_more : (a b c : Bool) → (a ≡ true → b ≡ true) → (a || c) ≡ true → (b || c) ≡ true
or_more a b c f k = elim (or_cases a c k) [ inl p ↦ or_left b c (f p) | inr p ↦ or_right b c p ]

one_keeps : (queue : List Ticket) (h : Hearing) (t u : Ticket) → Knows queue h u → Knows queue (hear_one queue h t) u
one_keeps queue h t u k =
    hear_ways (λ g. Knows queue g u) queue h t (λ _. k)
    (λ _ l. or_more (known u h.set) (known u (placed t h.set)) (known u queue) (λ p. edit_laws.placed_known u t h.set ∙ or_right (same_identity t u) (known u h.set) p) k)
    (λ l. k)

hear_keeps : (queue : List Ticket) (h : Hearing) (ts : List Ticket) (u : Ticket) → Knows queue h u → Knows queue (hear_all queue h ts) u
hear_keeps queue h [] u k = k
hear_keeps queue h (t ∷ ts) u k = hear_keeps queue (hear_one queue h t) ts u (one_keeps queue h t u k)

one_known : (queue : List Ticket) (h : Hearing) (t : Ticket) → (hear_one queue h t).full ≤ h.full → Knows queue (hear_one queue h t) t
one_known queue h t =
    hear_ways (λ g. g.full ≤ h.full → Knows queue g t) queue h t (λ k l. k)
    (λ k r l. or_left (known t (placed t h.set)) (known t queue) (edit_laws.placed_known t t h.set ∙ or_left (same_identity t t) (known t h.set) (order_laws.same_itself t)))
    (λ r l. absurd (omega arith))

hear_all_lem : (queue : List Ticket) (h : Hearing) (ts : List Ticket) → (hear_all queue h ts).full ≤ h.full → Each (Knows queue (hear_all queue h ts)) ts
hear_all_lem queue h [] l = tt
hear_all_lem queue h (t ∷ ts) l =
    let g = hear_one queue h t in
    let a = one_more queue h t in
    let b = hear_more queue g ts in
    (hear_keeps queue g ts t (one_known queue h t (omega (arith, l, b.1))), hear_all_lem queue g ts (omega (arith, l, a.1)))

pub hear_laws : HearLaws
hear_laws = record {
  sound = λ n queue set ts r s. hear_sound n queue (unheard set) ts r s;
  only = λ queue set ts t h. each_either set ts (hear_all queue (unheard set) ts).set t (λ P a b. hear_each P queue (unheard set) ts a b) h;
  grows = λ queue set ts. omega (arith, hear_grows queue (unheard set) ts);
  all = λ queue set ts e. hear_all_lem queue (unheard set) ts (omega arith);
  full = λ queue set ts l. hear_full queue (unheard set) ts l;
  counted = λ queue set ts. omega (arith, hear_counted queue (unheard set) ts);
}
