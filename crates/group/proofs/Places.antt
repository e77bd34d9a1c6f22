-- Where a new ticket belongs in a list.
use Rattle.std.proofs.Common.{◌≡◌, ℕ, suc, ◌+◌, ◌≤◌, Bool, true, false, not, cond, ltb, List, [], ◌∷◌, Some, None, Option, refl, ap, ◌∙◌, inl, inr, arith}
use Rattle.std.proofs.lemmas.Bool.{cases_lt, cond-true, cond-false, lt-ltb, le-ltb}
use Rattle.std.specs.Option.{unwrap_or}
use Rattle.std.specs.List.{insert, position_or_len}
use Rattle.codec.specs.Ticket.{stands_before}
use Rattle.codec.specs.Edits.{placed}
use Rattle.codec.specs.declared.ticket.Ticket.{Ticket}

-- in a list with one ticket more at the front, by whether it stands before that
further : (t x : Ticket) (ts us : List Ticket) (p : ℕ) (before : Bool) → us ≡ insert ts p t
    → cond before (t ∷ x ∷ ts) (x ∷ us) ≡ insert (x ∷ ts) (cond (not before) (1 + p) 0) t
further t x ts us p true e = refl
further t x ts us p false e = let n : 1 + p ≡ suc p = omega arith in rw n (ap (λ l. x ∷ l) e)

-- a ticket is placed before the first that it stands before
pub placed-insert : (t : Ticket) (ts : List Ticket) → placed t ts ≡ insert ts (position_or_len (stands_before t) ts) t
placed-insert t [] = refl
placed-insert t (x ∷ ts) = further t x ts (placed t ts) (position_or_len (stands_before t) ts) (stands_before t x) (placed-insert t ts)

-- where a search ends, if it ends at the length where it finds nothing
pub where_found : (n len : ℕ) (r : Option ℕ) (m : ℕ) → n ≤ len → r ≡ cond (ltb n len) (Some n) None → m ≡ unwrap_or r len → m ≡ n
where_found n len r m h e f = elim (cases_lt n len) [
  | inl l ↦ f ∙ ap (λ o. unwrap_or o len) (e ∙ cond-true _ _ _ (lt-ltb n len l))
  | inr g ↦ f ∙ ap (λ o. unwrap_or o len) (e ∙ cond-false _ _ _ (le-ltb n len g)) ∙ omega arith
]
