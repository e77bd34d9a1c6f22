-- What `append` does: a queue begins with what it was, takes every identity of the batch once, and nothing else.
use Rattle.std.proofs.Common.{◌≡◌, ℕ, zero, suc, ◌+◌, ◌<◌, ◌≤◌, true, false, ◌⊎◌, List, [], ◌∷◌, ◌++◌, length, Some, sym, refl, ap, ◌∙◌, subst, inl, inr, arith}
use Rattle.std.specs.List.{slice_get}
use Rattle.std.proofs.lemmas.List.{append-nil, append_assoc, length-append}
use Rattle.std.proofs.lemmas.Bool.{or_cases, or_parts, or_left, or_right, both_ways, cond_both}
use Rattle.codec.specs.Ticket.{same_identity}
use Rattle.codec.specs.TicketList.{Each, Apart, known}
use Rattle.codec.specs.declared.ticket.Ticket.{Ticket}
use Rattle.codec.proofs.Orders.{order_laws}
use Rattle.codec.proofs.TicketLists.{each_weaker, each_append}
use Rattle.group.specs.Queue.{Holds, added, append}
use Rattle.group.specs.Laws.{AppendLaws}

-- ---- identities in a list

-- an identity is known by any ticket that has it
known_like : (t u : Ticket) (q : List Ticket) → same_identity t u ≡ true → known t q ≡ true → known u q ≡ true
known_like t u [] e k = k
known_like t u (x ∷ q) e k =
    elim (or_cases (same_identity x t) (known t q) k) [
      | inl s ↦ or_left (same_identity x u) (known u q) (order_laws.same_through x t u s e)
      | inr r ↦ or_right (same_identity x u) (known u q) (known_like t u q e r)
    ]

known_front : (t : Ticket) (q rest : List Ticket) → known t q ≡ true → known t (q ++ rest) ≡ true
known_front t [] rest k = absurd (both_ways _ refl k)
known_front t (x ∷ q) rest k =
    elim (or_cases (same_identity x t) (known t q) k) [
      | inl s ↦ or_left (same_identity x t) (known t (q ++ rest)) s
      | inr r ↦ or_right (same_identity x t) (known t (q ++ rest)) (known_front t q rest r)
    ]

known_push : (t : Ticket) (q : List Ticket) → known t (q ++ t ∷ []) ≡ true
known_push t [] = or_left (same_identity t t) false (order_laws.same_itself t)
known_push t (x ∷ q) = or_right (same_identity x t) (known t (q ++ t ∷ [])) (known_push t q)

apart_push : (q : List Ticket) (t : Ticket) → Apart q → known t q ≡ false → Apart (q ++ t ∷ [])
apart_push [] t a k = (tt, tt)
apart_push (x ∷ q) t a k =
    let p = or_parts (same_identity x t) (known t q) k in
    (each_append (λ u. same_identity x u ≡ false) q (t ∷ []) a.0 (p.0, tt), apart_push q t a.1 p.1)

-- ---- one ticket offered

-- the two ways of a ticket: it is there, or it is added
added_ways : (P : List Ticket → Type 0) (q : List Ticket) (t : Ticket) → (known t q ≡ true → P q) → (known t q ≡ false → P (q ++ t ∷ [])) → P (added q t)
added_ways P q t = cond_both (known t q) q (q ++ t ∷ []) P

-- a list begins with another
abbrev pub Begins : List Ticket → List Ticket → Type 0
Begins q p = (rest : List Ticket) × (q ≡ p ++ rest)

added_begins : (q : List Ticket) (t : Ticket) → Begins (added q t) q
added_begins q t = added_ways (λ p. Begins p q) q t (λ _. ([], sym (append-nil q))) (λ _. (t ∷ [], refl))

added-knows : (q : List Ticket) (t : Ticket) → known t (added q t) ≡ true
added-knows q t = added_ways (λ p. known t p ≡ true) q t (λ k. k) (λ _. known_push t q)

added-length : (q : List Ticket) (t : Ticket) → length (added q t) ≤ length q + 1
added-length q t = added_ways (λ p. length p ≤ length q + 1) q t (λ _. omega arith) (λ _. omega (arith, length-append q (t ∷ [])))

-- ---- a batch

append_begins : (q ts : List Ticket) → Begins (append q ts) q
append_begins q [] = ([], sym (append-nil q))
append_begins q (t ∷ ts) =
    let a = added_begins q t in
    let b = append_begins (added q t) ts in
    (a.0 ++ b.0, b.1 ∙ ap (λ l. l ++ b.0) a.1 ∙ append_assoc q a.0 b.0)

append_apart : (q ts : List Ticket) → Apart q → Apart (append q ts)
append_apart q [] a = a
append_apart q (t ∷ ts) a = append_apart (added q t) ts (added_ways Apart q t (λ _. a) (λ k. apart_push q t a k))

append-knows : (q ts : List Ticket) (t : Ticket) → known t ts ≡ true → known t (append q ts) ≡ true
append-knows q [] t k = absurd (both_ways _ refl k)
append-knows q (x ∷ ts) t k =
    elim (or_cases (same_identity x t) (known t ts) k) [
      | inl s ↦
          let b = append_begins (added q x) ts in
          ap (known t) b.1 ∙ known_front t (added q x) b.0 (known_like x t (added q x) s (added-knows q x))
      | inr r ↦ append-knows (added q x) ts t r
    ]

pub append_each : (P : Ticket → Type 0) (q ts : List Ticket) → Each P q → Each P ts → Each P (append q ts)
append_each P q [] a b = a
append_each P q (t ∷ ts) a b = append_each P (added q t) ts (added_ways (Each P) q t (λ _. a) (λ _. each_append P q (t ∷ []) a (b.0, tt))) b.1

append-length : (q ts : List Ticket) → length (append q ts) ≤ length q + length ts
append-length q [] = omega arith
append-length q (t ∷ ts) = omega (arith, added-length q t, append-length (added q t) ts)

-- ---- by place

pub nth_each : (P : Ticket → Type 0) (q : List Ticket) (i : ℕ) (t : Ticket) → Each P q → slice_get q i ≡ Some t → P t
nth_each P [] i t a e = let z : ◌≡◌ {A = ℕ} 0 1 = cc in absurd (omega arith)
nth_each P (x ∷ q) zero t a e = let s : x ≡ t = cc in subst P s a.0
nth_each P (x ∷ q) (suc i) t a e = nth_each P q i t a.1 e

-- a list holds each of its tickets
pub each_held : (q : List Ticket) → Each (Holds q) q
each_held [] = tt
each_held (x ∷ q) = ((0, refl), each_weaker (Holds q) (Holds (x ∷ q)) (λ t h. (suc h.0, h.1)) q (each_held q))

-- tickets of one list or the other are all of them
pub each_either : (q ts us : List Ticket) (t : Ticket) → (((P : Ticket → Type 0) → Each P q → Each P ts → Each P us)) → Holds us t → Holds q t ⊎ Holds ts t
each_either q ts us t all h =
    nth_each (λ u. Holds q u ⊎ Holds ts u) us h.0 t
    (all (λ u. Holds q u ⊎ Holds ts u)
    (each_weaker (Holds q) (λ u. Holds q u ⊎ Holds ts u) (λ u k. inl k) q (each_held q))
    (each_weaker (Holds ts) (λ u. Holds q u ⊎ Holds ts u) (λ u k. inr k) ts (each_held ts)))
    h.1

pub apart_nth : (q : List Ticket) (i j : ℕ) (t u : Ticket) → Apart q → slice_get q i ≡ Some t → slice_get q j ≡ Some u → same_identity t u ≡ true → i ≡ j
apart_nth [] i j t u a p r e = let z : ◌≡◌ {A = ℕ} 0 1 = cc in absurd (omega arith)
apart_nth (x ∷ q) zero zero t u a p r e = refl
apart_nth (x ∷ q) zero (suc j) t u a p r e =
    let s : x ≡ t = cc in
    absurd (both_ways (same_identity x u) (nth_each (λ v. same_identity x v ≡ false) q j u a.0 r) (ap (λ v. same_identity v u) s ∙ e))
apart_nth (x ∷ q) (suc i) zero t u a p r e =
    let s : x ≡ u = cc in
    absurd (both_ways (same_identity x t) (nth_each (λ v. same_identity x v ≡ false) q i t a.0 p) (ap (λ v. same_identity v t) s ∙ order_laws.same_back u t ∙ e))
apart_nth (x ∷ q) (suc i) (suc j) t u a p r e = ap suc (apart_nth q i j t u a.1 p r e)

pub nth_front : (p rest : List Ticket) (i : ℕ) → i < length p → slice_get (p ++ rest) i ≡ slice_get p i
nth_front [] rest i h = absurd (omega arith)
nth_front (x ∷ p) rest zero h = refl
nth_front (x ∷ p) rest (suc i) h = nth_front p rest i (omega arith)

pub nth_within : (p : List Ticket) (i : ℕ) (t : Ticket) → slice_get p i ≡ Some t → i < length p
nth_within [] i t e = let z : ◌≡◌ {A = ℕ} 0 1 = cc in absurd (omega arith)
nth_within (x ∷ p) zero t e = omega arith
nth_within (x ∷ p) (suc i) t e = let h = nth_within p i t e in omega arith

pub append_laws : AppendLaws
append_laws = record {
  begins = append_begins;
  apart = append_apart;
  takes = append-knows;
  only = λ queue ts t h. each_either queue ts (append queue ts) t (λ P. append_each P queue ts) h;
  length = append-length;
}
