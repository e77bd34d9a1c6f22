-- Tickets: what is written is read again, what is read has one form, and a form has at most eight bytes.
use Rattle.std.proofs.Common.{◌≡◌, ℕ, ◌+◌, ◌-◌, ◌<◌, ◌≤◌, List, ◌++◌, length, take, drop, Ok, sym, ap, ◌∙◌, subst, arith}
use Rattle.std.proofs.lemmas.Grind.{common_steps}
use Rattle.std.proofs.lemmas.Bool.Decides.{nat_tests}
use Rattle.std.proofs.lemmas.List.{append_assoc, length-append, length-drop, take_at}
use Rattle.codec.specs.Limits.{max_beds, number_end, max_paths, min_number, max_number, max_sheet}
use Rattle.codec.specs.Number.{form, Bytes}
use Rattle.codec.specs.Ranged.{ranged_at}
use Rattle.codec.specs.Ticket.{InRange, field_at, ticket_at, ticket_bytes}
use Rattle.codec.specs.declared.number.NumberFault.{NumberFault}
use Rattle.codec.specs.declared.ticket.Ticket.{Ticket}
use Rattle.codec.specs.declared.ticket.TicketFault.TheVariants as tf
use Rattle.codec.proofs.Chains.{ok_same, then_inv}
use Rattle.codec.proofs.Numbers.{NumberRead, number_back, number_only, form_short, form_one}

-- ---- a number in a range, at any layer

module _ {F : Type 0} (number : NumberFault → F) (range : ℕ → F) where
  pub ranged_back : (bs : List ℕ) (at v least end : ℕ) (post : List ℕ) → least ≤ v → v < end → v < number_end → drop at bs ≡ form v ++ post
      → (ranged_at number range bs at least end ≡ Ok (v, at + length (form v))) × (drop (at + length (form v)) bs ≡ post)
  unfolding ranged_at
  ranged_back bs at v least end post l h k e = let r = number_back bs at v post k e in grind (arith, nat_tests)

  pub ranged_only : (bs : List ℕ) (at v least end next : ℕ) → Bytes bs → ranged_at number range bs at least end ≡ Ok (v, next)
      → NumberRead bs at v next × (least ≤ v) × (v < end)
  unfolding ranged_at
  ranged_only bs at v least end next small e = grind (arith, nat_tests, number_only bs at v next small)

-- ---- tickets

four : (a b c d post : List ℕ) → a ++ b ++ c ++ d ++ post ≡ a ++ (b ++ (c ++ (d ++ post)))
four a b c d post = simp append_assoc

four_length : (a b c d : List ℕ) → length (a ++ b ++ c ++ d) ≡ length a + length b + length c + length d
four_length a b c d = simp length-append

pub ticket_back : (n : ℕ) (bs : List ℕ) (at : ℕ) (t : Ticket) (post : List ℕ) → n ≤ max_beds → InRange n t → drop at bs ≡ ticket_bytes t ++ post
    → (ticket_at n bs at ≡ Ok (t, at + length (ticket_bytes t))) × (drop (at + length (ticket_bytes t)) bs ≡ post)
unfolding ticket_at ticket_bytes
ticket_back n bs at t post h r e =
    let a = ranged_back tf.Number tf.Range bs at t.paths 0 (max_paths + 1) _ (omega arith) (omega (arith, r.paths)) (omega (arith, r.paths))
    (e ∙ four (form t.paths) (form t.origin) (form t.number) (form t.sheet) post) in
    let b = ranged_back tf.Number tf.Range bs _ t.origin 0 n _ (omega arith) r.origin (omega (arith, r.origin)) a.1 in
    let c = ranged_back tf.Number tf.Range bs _ t.number min_number (max_number + 1) _ r.least (omega (arith, r.number)) (omega (arith, r.number)) b.1 in
    let d = ranged_back tf.Number tf.Range bs _ t.sheet 0 (max_sheet + 1) post (omega arith) (omega (arith, r.sheet)) (omega (arith, r.sheet)) c.1 in
    let l = four_length (form t.paths) (form t.origin) (form t.number) (form t.sheet) in
    grind arith

-- what a ticket at a place says of the bytes there
pub record TicketRead (n : ℕ) (bs : List ℕ) (at : ℕ) (t : Ticket) (next : ℕ) : Type 0 where
  pub ranged : InRange n t
  pub bytes : drop at bs ≡ ticket_bytes t ++ drop next bs
  pub after : at < next
  pub within : next ≤ length bs

pub ticket_only : (n : ℕ) (bs : List ℕ) (at : ℕ) (t : Ticket) (next : ℕ) → Bytes bs → ticket_at n bs at ≡ Ok (t, next) → TicketRead n bs at t next
unfolding ticket_at ticket_bytes
ticket_only n bs at t next small q =
    let p1 = then_inv (field_at bs at 0 (max_paths + 1)) _ (t, next) q in
    let p2 = then_inv (field_at bs p1.1 0 n) _ (t, next) p1.3 in
    let p3 = then_inv (field_at bs p2.1 min_number (max_number + 1)) _ (t, next) p2.3 in
    let p4 = then_inv (field_at bs p3.1 0 (max_sheet + 1)) _ (t, next) p3.3 in
    let r1 = ranged_only tf.Number tf.Range bs at p1.0 0 (max_paths + 1) p1.1 small p1.2 in
    let r2 = ranged_only tf.Number tf.Range bs p1.1 p2.0 0 n p2.1 small p2.2 in
    let r3 = ranged_only tf.Number tf.Range bs p2.1 p3.0 min_number (max_number + 1) p3.1 small p3.2 in
    let r4 = ranged_only tf.Number tf.Range bs p3.1 p4.0 0 (max_sheet + 1) p4.1 small p4.2 in
    let u : Ticket = record { paths = p1.0; origin = p2.0; number = p3.0; sheet = p4.0 } in
    let s = ok_same (u, p4.1) (t, next) p4.3 in
    let w : TicketRead n bs at u p4.1 = record {
      ranged = record { paths = omega (arith, r1.2); origin = r2.2; least = r3.1; number = omega (arith, r3.2); sheet = omega (arith, r4.2) };
      bytes = r1.0.bytes ∙ grind (arith, common_steps, r2.0.bytes, r3.0.bytes, r4.0.bytes);
      after = omega (arith, r1.0.after, r2.0.after, r3.0.after, r4.0.after);
      within = r4.0.within;
    } in
    subst (λ (x : Ticket × ℕ). TicketRead n bs at x.0 x.1) s w

-- a ticket's stretch of the bytes is its form
pub ticket_stretch : (n : ℕ) (bs : List ℕ) (at : ℕ) (t : Ticket) (next : ℕ) → TicketRead n bs at t next → take (next - at) (drop at bs) ≡ ticket_bytes t
ticket_stretch n bs at t next r =
    let l : length bs - at ≡ length (ticket_bytes t) + (length bs - next) =
    sym (length-drop at bs) ∙ ap length r.bytes ∙ length-append (ticket_bytes t) (drop next bs) ∙ ap (λ (k : ℕ). length (ticket_bytes t) + k) (length-drop next bs) in
    let k : length (ticket_bytes t) ≡ next - at = omega (arith, r.after, r.within) in
    ap (take (next - at)) r.bytes ∙ take_at (ticket_bytes t) (drop next bs) (next - at) k

pub ticket-length : (t : Ticket) → length (ticket_bytes t) ≡ length (form t.paths) + length (form t.origin) + length (form t.number) + length (form t.sheet)
unfolding ticket_bytes
ticket-length t = four_length (form t.paths) (form t.origin) (form t.number) (form t.sheet)

-- at most eight bytes: three for the paths and the number, one for the origin and the sheet
pub ticket_short : (t : Ticket) → InRange max_beds t → length (ticket_bytes t) ≤ 8
ticket_short t r =
    let l = ticket-length t in
    let a = form_short t.paths in
    let b = ap length (form_one t.origin (omega (arith, r.origin))) in
    let c = form_short t.number in
    let d = ap length (form_one t.sheet (omega (arith, r.sheet))) in
    omega arith

pub in_range_more : (n m : ℕ) (t : Ticket) → n ≤ m → InRange n t → InRange m t
in_range_more n m t h r = record { paths = r.paths; origin = omega (arith, r.origin); least = r.least; number = r.number; sheet = r.sheet }
