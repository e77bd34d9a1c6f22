-- Changes to a list of tickets: what they keep.
use Rattle.std.proofs.Common.{◌≡◌, ℕ, ◌+◌, ◌≤◌, Bool, true, false, ◌||◌, List, [], ◌∷◌, length, take, refl, arith}
use Rattle.std.proofs.lemmas.List.{length-take}
use Rattle.std.proofs.lemmas.Bool.Decides.{nat_tests}
use Rattle.std.proofs.lemmas.Bool.{cond_both, or_parts}
use Rattle.codec.specs.Ticket.{same_identity, stands_before, InRange}
use Rattle.codec.specs.TicketList.{Each, Sound, known}
use Rattle.std.specs.List.{filter}
use Rattle.codec.specs.Edits.{placed}
use Rattle.codec.specs.Laws.{EditLaws}
use Rattle.codec.specs.declared.ticket.Ticket.{Ticket}
use Rattle.codec.proofs.Orders.{order_laws, same_no}
use Rattle.codec.proofs.TicketLists.{each_weaker, each_both, Part, nothing, keep, leave, each_part, take_part, Ahead, Line, line_from, line_parts, known_each}

sound_from : (n most : ℕ) (ts : List Ticket) → Each (InRange n) ts → Line ts → length ts ≤ most → Sound n most ts
sound_from n most ts e l f = let p = line_parts ts l in record { ranged = e; rising = p.0; apart = p.1; few = f }

-- ---- some tickets left out

line_part : (us ts : List Ticket) → Part us ts → Line ts → Line us
line_part _ _ (nothing ts) l = tt
line_part _ _ (keep t us ts p) l = (each_part (Ahead t) us ts p l.0, line_part us ts p l.1)
line_part _ _ (leave t us ts p) l = line_part us ts p l.1

length_part : (us ts : List Ticket) → Part us ts → length us ≤ length ts
length_part _ _ (nothing ts) = omega arith
length_part _ _ (keep t us ts p) = omega (arith, length_part us ts p)
length_part _ _ (leave t us ts p) = omega (arith, length_part us ts p)

sound_part : (n most k : ℕ) (us ts : List Ticket) → Part us ts → Sound n most ts → length us ≤ k → Sound n k us
sound_part n most k us ts p s f =
    sound_from n k us (each_part (InRange n) us ts p s.ranged) (line_part us ts p (line_from ts s.rising s.apart)) f

pub passing_part : (test : Ticket → Bool) (ts : List Ticket) → Part (filter test ts) ts
passing_part test [] = nothing []
passing_part test (t ∷ ts) =
    let p = passing_part test ts in
    cond_both (test t) (t ∷ filter test ts) (filter test ts) (λ us. Part us (t ∷ ts)) (λ _. keep t (filter test ts) ts p) (λ _. leave t (filter test ts) ts p)

-- ---- one more in its place

-- the two ways to place a ticket: here, or further on
placed_ways : (P : List Ticket → Type 0) (t x : Ticket) (xs : List Ticket)
    → (stands_before t x ≡ true → P (t ∷ x ∷ xs)) → (stands_before t x ≡ false → P (x ∷ placed t xs)) → P (placed t (x ∷ xs))
placed_ways P t x xs = cond_both (stands_before t x) (t ∷ x ∷ xs) (x ∷ placed t xs) P

pub each_placed : (P : Ticket → Type 0) (t : Ticket) (ts : List Ticket) → P t → Each P ts → Each P (placed t ts)
each_placed P t [] p e = (p, tt)
each_placed P t (x ∷ xs) p e = placed_ways (Each P) t x xs (λ _. (p, e)) (λ _. (e.0, each_placed P t xs p e.1))

placed_length : (t : Ticket) (ts : List Ticket) → length (placed t ts) ≡ length ts + 1
placed_length t [] = refl
placed_length t (x ∷ xs) = grind (arith, placed_length t xs)

or_swap : (a b c : Bool) → (a || (b || c)) ≡ (b || (a || c))
or_swap a b c = grind (arith, nat_tests)

placed_known : (u t : Ticket) (ts : List Ticket) → known u (placed t ts) ≡ (same_identity t u || known u ts)
placed_known u t [] = refl
placed_known u t (x ∷ xs) = grind (arith, placed_known u t xs, or_swap)

-- one of two tickets stands before the other, so if not the one then the other
before_else : (t x : Ticket) → same_identity x t ≡ false → stands_before t x ≡ false → stands_before x t ≡ true
before_else t x d n = grind (arith, nat_tests, order_laws.one_before x t d)

line_placed : (t : Ticket) (ts : List Ticket) → Line ts → known t ts ≡ false → Line (placed t ts)
line_placed t [] l k = (tt, tt)
line_placed t (x ∷ xs) l k =
    let d = or_parts (same_identity x t) (known t xs) k in
    let rest = each_both (Ahead x) (λ u. same_identity u t ≡ false) xs l.0 (known_each t xs d.1) in
    placed_ways Line t x xs
    (λ b. (
      (
        (b, same_no x t d.0),
        each_weaker (λ u. Ahead x u × (same_identity u t ≡ false)) (Ahead t) (λ u p. (order_laws.before_through t x u b p.0.0, same_no u t p.1)) xs rest,
      ),
      l,
    ))
    (λ b. (each_placed (Ahead x) t xs (before_else t x d.0 b, d.0) l.0, line_placed t xs l.1 d.1))

pub edit_laws : EditLaws
edit_laws = record {
  placed_sound = λ n most t ts s r k f.
      sound_from n most (placed t ts) (each_placed (InRange n) t ts r s.ranged) (line_placed t ts (line_from ts s.rising s.apart) k)
      (omega (arith, placed_length t ts));
  placed_known = placed_known;
  placed_length = placed_length;
  first_sound = λ n most k ts s. sound_part n most k (take k ts) ts (take_part k ts) s (omega (arith, length-take k ts));
  passing_sound = λ n most test ts s.
      let p = passing_part test ts in
      sound_part n most most (filter test ts) ts p s (omega (arith, length_part (filter test ts) ts p, s.few));
}
