-- Lists of tickets: soundness one ticket at a time, and the tests against the tickets before.
use Rattle.std.proofs.Common.{◌≡◌, ℕ, zero, suc, ◌-◌, ◌<◌, true, false, List, [], ◌∷◌, ◌++◌, length, get_or, take, refl, ap, ◌∙◌, arith}
use Rattle.std.proofs.lemmas.Bool.Decides.{nat_tests}
use Rattle.std.proofs.lemmas.List.{append-nil, append_assoc}
use Rattle.std.proofs.lemmas.Bool.{or_parts}
use Rattle.codec.specs.Ticket.{same_identity, stands_before, InRange}
use Rattle.codec.specs.TicketList.{none, Each, Pairs, Rising, Apart, known, follows}
use Rattle.codec.specs.declared.ticket.Ticket.{Ticket}
use Rattle.codec.proofs.Orders.{order_laws}

-- ---- facts of each ticket

pub each_weaker : (P Q : Ticket → Type 0) → ((t : Ticket) → P t → Q t) → (ts : List Ticket) → Each P ts → Each Q ts
each_weaker P Q f [] e = tt
each_weaker P Q f (t ∷ ts) e = (f t e.0, each_weaker P Q f ts e.1)

pub each_both : (P Q : Ticket → Type 0) (ts : List Ticket) → Each P ts → Each Q ts → Each (λ t. P t × Q t) ts
each_both P Q [] d e = tt
each_both P Q (t ∷ ts) d e = ((d.0, e.0), each_both P Q ts d.1 e.1)

pub each_append : (P : Ticket → Type 0) (ss ts : List Ticket) → Each P ss → Each P ts → Each P (ss ++ ts)
each_append P [] ts d e = e
each_append P (s ∷ ss) ts d e = (d.0, each_append P ss ts d.1 e)

pub each_parts : (P : Ticket → Type 0) (ss ts : List Ticket) → Each P (ss ++ ts) → Each P ss × Each P ts
each_parts P [] ts e = (tt, e)
each_parts P (s ∷ ss) ts e = let r = each_parts P ss ts e.1 in ((e.0, r.0), r.1)

-- a list is another with some tickets left out
pub data Part : List Ticket → List Ticket → Type 0 where
  nothing : (ts : List Ticket) → Part [] ts
  keep : (t : Ticket) (us ts : List Ticket) → Part us ts → Part (t ∷ us) (t ∷ ts)
  leave : (t : Ticket) (us ts : List Ticket) → Part us ts → Part us (t ∷ ts)

pub each_part : (P : Ticket → Type 0) (us ts : List Ticket) → Part us ts → Each P ts → Each P us
each_part P _ _ (nothing ts) e = tt
each_part P _ _ (keep t us ts p) e = (e.0, each_part P us ts p e.1)
each_part P _ _ (leave t us ts p) e = each_part P us ts p e.1

pub take_part : (k : ℕ) (ts : List Ticket) → Part (take k ts) ts
take_part zero ts = nothing ts
take_part (suc k) [] = nothing []
take_part (suc k) (t ∷ ts) = keep t (take k ts) ts (take_part k ts)

pub each_take : (P : Ticket → Type 0) (k : ℕ) (ts : List Ticket) → Each P ts → Each P (take k ts)
each_take P k ts e = each_part P (take k ts) ts (take_part k ts) e

-- ---- the tests against the tickets before

pub follows_last : (t : Ticket) (xs : List Ticket) → 0 < length xs → stands_before (get_or xs (length xs - 1) none) t ≡ follows t xs
follows_last t [] h = absurd (omega arith)
follows_last t (x ∷ []) h = refl
follows_last t (x ∷ y ∷ ys) h =
    let e : length (x ∷ y ∷ ys) - 1 ≡ suc (length (y ∷ ys) - 1) = omega arith in
    ap (λ (k : ℕ). stands_before (get_or (x ∷ y ∷ ys) k none) t) e ∙ follows_last t (y ∷ ys) (omega arith)

-- ---- soundness, one ticket at a time

-- the tickets can come after those seen
abbrev pub After : ℕ → List Ticket → List Ticket → Type 0
After n seen [] = Unit {0}
After n seen (t ∷ ts) = InRange n t × (follows t seen ≡ true) × (known t seen ≡ false) × After n (seen ++ t ∷ []) ts

pub after_push : (n : ℕ) (seen ts : List Ticket) (t : Ticket) → After n seen ts → InRange n t → follows t (seen ++ ts) ≡ true → known t (seen ++ ts) ≡ false → After n seen (ts ++ t ∷ [])
after_push n seen [] t a r f k = (r, rw append-nil at f, rw append-nil at k, tt)
after_push n seen (u ∷ us) t a r f k =
    let e = append_assoc seen (u ∷ []) us in
    (a.0, a.1, a.2, after_push n (seen ++ u ∷ []) us t a.3 r (rw e f) (rw e k))

-- what the tickets after those seen say of the one at a place
at_from : (n : ℕ) (seen ts : List Ticket) (i : ℕ) → After n seen ts → i < length ts
    → InRange n (get_or ts i none) × (follows (get_or ts i none) (seen ++ take i ts) ≡ true) × (known (get_or ts i none) (seen ++ take i ts) ≡ false)
at_from n seen [] i a h = absurd (omega arith)
at_from n seen (t ∷ ts) zero a h = rw (append-nil seen) (a.0, a.1, a.2)
at_from n seen (t ∷ ts) (suc i) a h = rw append_assoc at (at_from n (seen ++ t ∷ []) ts i a.3 (omega arith))

pub after_at : (n : ℕ) (ts : List Ticket) (i : ℕ) → After n [] ts → i < length ts → InRange n (get_or ts i none) × (follows (get_or ts i none) (take i ts) ≡ true) × (known (get_or ts i none) (take i ts) ≡ false)
after_at n ts i a h = at_from n [] ts i a h

-- ---- the steps are the public facts

-- one ticket may come before another
abbrev pub Ahead : Ticket → Ticket → Type 0
Ahead t u = (stands_before t u ≡ true) × (same_identity t u ≡ false)

-- rising and apart at once
abbrev pub Line : List Ticket → Type 0
Line = Pairs Ahead

pub line_from : (ts : List Ticket) → Rising ts → Apart ts → Line ts
line_from [] r a = tt
line_from (t ∷ ts) r a = (each_both (λ u. stands_before t u ≡ true) (λ u. same_identity t u ≡ false) ts r.0 a.0, line_from ts r.1 a.1)

pub line_parts : (ts : List Ticket) → Line ts → Rising ts × Apart ts
line_parts [] l = (tt, tt)
line_parts (t ∷ ts) l =
    let r = line_parts ts l.1 in (
      (each_weaker (Ahead t) (λ u. stands_before t u ≡ true) (λ u p. p.0) ts l.0, r.0),
      (each_weaker (Ahead t) (λ u. same_identity t u ≡ false) (λ u p. p.1) ts l.0, r.1),
    )

pub known_each : (t : Ticket) (xs : List Ticket) → known t xs ≡ false → Each (λ x. same_identity x t ≡ false) xs
known_each t [] k = tt
known_each t (x ∷ xs) k = let p = or_parts (same_identity x t) (known t xs) k in (p.0, known_each t xs p.1)

-- what follows the last of a line follows all of it
follows_each : (t : Ticket) (xs : List Ticket) → Line xs → follows t xs ≡ true → Each (λ x. stands_before x t ≡ true) xs
follows_each t [] l f = tt
follows_each t (x ∷ []) l f = (f, tt)
follows_each t (x ∷ y ∷ ys) l f =
    let r = follows_each t (y ∷ ys) l.1 f in
    (order_laws.before_through x y t l.0.0.0 r.0, r)

-- a ticket that stands behind each passes both tests
behind : (t : Ticket) (xs : List Ticket) → Each (λ x. Ahead x t) xs → (follows t xs ≡ true) × (known t xs ≡ false)
behind t [] e = (refl, refl)
behind t (x ∷ []) e = grind (arith, nat_tests)
behind t (x ∷ y ∷ ys) e = let r = behind t (y ∷ ys) e.1 in grind (arith, nat_tests)

line_push : (t : Ticket) (xs : List Ticket) → Line xs → Each (λ x. Ahead x t) xs → Line (xs ++ t ∷ [])
line_push t [] l e = (tt, tt)
line_push t (x ∷ xs) l e = (each_append (Ahead x) xs (t ∷ []) l.0 (e.0, tt), line_push t xs l.1 e.1)

line_before : (t : Ticket) (xs ts : List Ticket) → Line (xs ++ t ∷ ts) → Each (λ x. Ahead x t) xs
line_before t [] ts l = tt
line_before t (x ∷ xs) ts l = ((each_parts (Ahead x) xs (t ∷ ts) l.0).1.0, line_before t xs ts l.1)

line_after : (n : ℕ) (seen ts : List Ticket) → Each (InRange n) ts → Line (seen ++ ts) → After n seen ts
line_after n seen [] e l = tt
line_after n seen (t ∷ ts) e l =
    let b = behind t seen (line_before t seen ts l) in
    (e.0, b.0, b.1, line_after n (seen ++ t ∷ []) ts e.1 (rw append_assoc l))

after_line : (n : ℕ) (seen ts : List Ticket) → Line seen → After n seen ts → Each (InRange n) ts × Line (seen ++ ts)
after_line n seen [] l a = (tt, rw append-nil l)
after_line n seen (t ∷ ts) l a =
    let ahead = each_both (λ x. stands_before x t ≡ true) (λ x. same_identity x t ≡ false) seen (follows_each t seen l a.1) (known_each t seen a.2) in
    let r = after_line n (seen ++ t ∷ []) ts (line_push t seen l ahead) a.3 in
    ((a.0, r.0), rw append_assoc at r.1)

pub sound_after : (n : ℕ) (ts : List Ticket) → Each (InRange n) ts → Rising ts → Apart ts → After n [] ts
sound_after n ts e r a = line_after n [] ts e (line_from ts r a)

pub after_sound : (n : ℕ) (ts : List Ticket) → After n [] ts → Each (InRange n) ts × Rising ts × Apart ts
after_sound n ts a = let r = after_line n [] ts tt a in let l = line_parts ts r.1 in (r.0, l.0, l.1)
