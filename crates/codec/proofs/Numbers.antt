-- Numbers: what is written is read again, and what is read has one form.
use Rattle.std.proofs.Common.{◌≡◌, ℕ, zero, suc, ◌+◌, ◌-◌, ◌*◌, ◌/◌, ◌%◌, ◌<◌, ◌≤◌, cond, ◌&&◌, eqb, ltb, min, List, [], ◌∷◌, ◌++◌, length, get_or, take, drop, Ok, Err, Result, sym, refl, ap, ◌∙◌, inl, inr, mul_assoc, mul_comm, mul-le-mul, mul-add, length-drop, length-take-le, get_or-take, get_or-drop, arith, add-one}
use Rattle.std.proofs.lemmas.List.{drop_more, drop_all}
use Rattle.std.proofs.lemmas.Bool.Decides.{nat_tests}
use Rattle.std.proofs.lemmas.Bool.{cond-false, le-ltb, cases_lt}
use Rattle.codec.specs.Limits.{number_bytes, number_end}
use Rattle.codec.specs.Number.{groups, form, above, groups_at, fault_at, number_at, Bytes, group_value, Continued}
use Rattle.codec.specs.Laws.{NumberLaws}
use Rattle.codec.specs.declared.number.NumberCause.{NumberCause}
use Rattle.codec.specs.declared.number.NumberCause.TheVariants.{Ends, NotShortest}
use Rattle.codec.proofs.Chains.{ok_same, never, cond_err}

-- numbers of so many groups are below this
abbrev pub room : ℕ → ℕ
room zero = 1
room (suc k) = 128 * room k

pub room_more : (i k : ℕ) → i ≤ k → room i ≤ room k
room_more zero zero h = omega arith
room_more zero (suc k) h = omega (arith, room_more zero k (omega arith))
room_more (suc i) zero h = absurd (omega arith)
room_more (suc i) (suc k) h = omega (arith, room_more i k (omega arith))

-- the value of what was read so far, and of the rest above it
abbrev pub scaled : ℕ → ℕ → Result (ℕ × ℕ) NumberCause → Result (ℕ × ℕ) NumberCause
scaled v s (Ok p) = Ok (v + s * p.0, p.1)
scaled v s (Err c) = Err c

regroup : (v s low x : ℕ) → v + s * (low + 128 * x) ≡ v + low * s + s * 128 * x
regroup v s low x =
    let a : s * (low + 128 * x) ≡ s * low + s * (128 * x) = mul-add s low (128 * x) in
    let b : s * low ≡ low * s = mul_comm s low in
    let c : s * 128 * x ≡ s * (128 * x) = mul_assoc s 128 x in
    omega arith

pub scaled_above : (v s low : ℕ) (r : Result (ℕ × ℕ) NumberCause) → scaled v s (above low r) ≡ scaled (v + low * s) (s * 128) r
scaled_above v s low (Ok p) = ap (λ (x : ℕ). Ok (x, p.1)) (regroup v s low p.0)
scaled_above v s low (Err c) = refl

-- one byte with the top bit set
pub group_more : (bs : List ℕ) (done left at : ℕ) → at < length bs → 128 ≤ get_or bs at 0
    → groups_at bs done (suc left) at ≡ above (get_or bs at 0 - 128) (groups_at bs (done + 1) left (at + 1))
group_more bs done left at h g = grind (arith, nat_tests)

-- the last byte
pub group_last : (bs : List ℕ) (done left at : ℕ) → at < length bs → get_or bs at 0 < 128
    → groups_at bs done (suc left) at ≡ cond (eqb (get_or bs at 0) 0 && ltb 0 done) (Err NotShortest) (Ok (get_or bs at 0, at + 1))
group_last bs done left at h g = grind (arith, nat_tests)

pub group_none : (bs : List ℕ) (done left at : ℕ) → length bs ≤ at → groups_at bs done (suc left) at ≡ Err Ends
group_none bs done left at h = cond-false (ltb at (length bs)) _ _ (le-ltb at (length bs) h)

-- where a reader stands after i groups: what it has, and what is left, come to the number
abbrev pub So : List ℕ → ℕ → ℕ → ℕ → ℕ → ℕ → Type 0
So bs at i v s next = groups_at bs 0 number_bytes at ≡ scaled v s (groups_at bs i (number_bytes - i) next)

left_more : (i : ℕ) → i < number_bytes → number_bytes - i ≡ suc (number_bytes - (i + 1))
left_more i h = omega arith

-- the reader's state with the next group taken apart
so_next : (bs : List ℕ) (at i v s next : ℕ) → i < number_bytes → So bs at i v s next
    → groups_at bs 0 number_bytes at ≡ scaled v s (groups_at bs i (suc (number_bytes - (i + 1))) next)
so_next bs at i v s next h so = so ∙ ap (λ (k : ℕ). scaled v s (groups_at bs i k next)) (left_more i h)

-- before the first byte
scaled_none : (r : Result (ℕ × ℕ) NumberCause) → r ≡ scaled 0 1 r
scaled_none (Ok p) = let e : p.0 ≡ 0 + 1 * p.0 = omega arith in ap (λ (x : ℕ). Ok (x, p.1)) e
scaled_none (Err c) = refl

pub read_start : (bs : List ℕ) (at : ℕ) → So bs at 0 0 1 at
read_start bs at = scaled_none (groups_at bs 0 number_bytes at)

pub read_ends : (bs : List ℕ) (at i v s next : ℕ) → i < number_bytes → So bs at i v s next → length bs ≤ next → Err Ends ≡ groups_at bs 0 number_bytes at
read_ends bs at i v s next h so n = grind (arith, so_next bs at i v s next h so, group_none bs i (number_bytes - (i + 1)) next n)

pub read_long : (bs : List ℕ) (at i v s next : ℕ) → i < number_bytes → So bs at i v s next → next < length bs → get_or bs next 0 ≡ 0 → 0 < i
    → Err NotShortest ≡ groups_at bs 0 number_bytes at
read_long bs at i v s next h so n z p = grind (arith, nat_tests, so_next bs at i v s next h so)

pub read_last : (bs : List ℕ) (at i v s next : ℕ) → i < number_bytes → So bs at i v s next → next < length bs → get_or bs next 0 < 128
    → (get_or bs next 0 ≡ 0 → 0 < i → ⊥) → Ok (v + get_or bs next 0 * s, next + 1) ≡ groups_at bs 0 number_bytes at
read_last bs at i v s next h so n b z =
    let m : s * get_or bs next 0 ≡ get_or bs next 0 * s = mul_comm s (get_or bs next 0) in
    grind (arith, nat_tests, so_next bs at i v s next h so)

pub read_more : (bs : List ℕ) (at i v s next : ℕ) → i < number_bytes → So bs at i v s next → next < length bs → 128 ≤ get_or bs next 0
    → So bs at (i + 1) (v + (get_or bs next 0 - 128) * s) (s * 128) (next + 1)
read_more bs at i v s next h so n g = grind (arith, nat_tests, so_next bs at i v s next h so, scaled_above)

-- the bytes from a place on, at most as many as a number has
abbrev pub window : List ℕ → ℕ → ℕ → List ℕ
window bs from m = take m (take (length bs - from) (drop from bs))

module _ (bs : List ℕ) (at from m : ℕ) (ef : from ≡ min at (length bs)) (em : m ≡ min (length (take (length bs - from) (drop from bs))) number_bytes) where
  rest_length : length (take (length bs - from) (drop from bs)) ≡ length bs - from
  rest_length = length-take-le (length bs - from) (drop from bs) (omega (arith, length-drop from bs))

  window_length : length (window bs from m) ≡ m
  window_length = length-take-le m _ (omega arith)

  pub window_at : (i : ℕ) → i < length (window bs from m) → (i < number_bytes) × (at + i < length bs) × (get_or (window bs from m) i 0 ≡ get_or bs (at + i) 0)
  window_at i h =
      let l = window_length in
      let r = rest_length in
      let here : from ≡ at = omega arith in (
        omega arith,
        omega arith,
        get_or-take m _ i 0 (omega arith) ∙ get_or-take (length bs - from) _ i 0 (omega arith) ∙ get_or-drop from bs i 0 ∙ ap (λ (k : ℕ). get_or bs (k + i) 0) here,
      )

-- the sum of a turn stays below the next scale, and so below the limit
pub below_next : (v s b : ℕ) → v < s → b < 128 → v + b * s < s * 128
below_next v s b l k = grind (arith, mul-le-mul {n₁ = b} {m₁ = s} {n₂ = 127} {m₂ = s})

pub room_next : (i s : ℕ) → s ≡ room i → s * 128 ≡ room (i + 1)
room_next i s e = rw add-one (omega arith)

pub scale_fits : (i s : ℕ) → i < number_bytes → s ≡ room i → s * 128 ≤ number_end
scale_fits i s h e = let r : room (suc i) ≤ room number_bytes = room_more (suc i) number_bytes (omega arith) in omega arith

-- ---- the form

pub groups_last : (k v : ℕ) → 0 < k → v < 128 → groups k v ≡ v ∷ []
groups_last zero v p h = absurd (omega arith)
groups_last (suc k) v p h = grind (arith, nat_tests)

-- a number of 128 or more: its lowest group, and the form of the rest
pub groups_step : (k v : ℕ) → v < room (suc k) → 128 ≤ v → (0 < k) × (v / 128 < room k) × (groups (suc k) v ≡ (v % 128 + 128) ∷ groups k (v / 128))
groups_step zero v h g = absurd (omega arith)
groups_step (suc k) v h g = grind (arith, nat_tests)

pub form_is : (v : ℕ) → form v ≡ groups number_bytes v
unfolding form
form_is v = refl

pub groups_some : (k v : ℕ) → 0 < k → 0 < length (groups k v)
groups_some zero v p = absurd (omega arith)
groups_some (suc k) v p = grind arith

groups_short : (k v : ℕ) → length (groups k v) ≤ k
groups_short zero v = omega arith
groups_short (suc k) v = grind (arith, nat_tests, groups_short k (v / 128))

pub form_some : (v : ℕ) → 0 < length (form v)
form_some v = rw (form_is v) (groups_some number_bytes v (omega arith))

pub form_short : (v : ℕ) → length (form v) ≤ number_bytes
form_short v = rw (form_is v) (groups_short number_bytes v)

pub form_one : (v : ℕ) → v < 128 → form v ≡ v ∷ []
form_one v h = form_is v ∙ groups_last number_bytes v (omega arith) h

-- ---- what is written is read again

-- the first of what is left from a place on
pub drop_first : (bs : List ℕ) (at x : ℕ) (xs : List ℕ) → drop at bs ≡ x ∷ xs → (at < length bs) × (get_or bs at 0 ≡ x) × (drop (at + 1) bs ≡ xs)
drop_first bs at x xs e =
    elim (cases_lt at (length bs)) [
      | inl h ↦ (let d = drop_more bs at 0 h in (h, cc, cc))
      | inr g ↦ (let d = drop_all at bs g in absurd cc)
    ]

pub groups_back : (k v : ℕ) (bs : List ℕ) (done at : ℕ) (post : List ℕ) → 0 < k → v < room k → (v ≡ 0 → 0 < done → ⊥) → drop at bs ≡ groups k v ++ post
    → (groups_at bs done k at ≡ Ok (v, at + length (groups k v))) × (drop (at + length (groups k v)) bs ≡ post)
groups_back zero v bs done at post p h z e = absurd (omega arith)
groups_back (suc k) v bs done at post p h z e =
    elim (cases_lt v 128) [
      | inl l ↦
          (let g = groups_last (suc k) v p l in
          let d = drop_first bs at v post (rw g at e) in
          grind (arith, nat_tests))
      | inr g ↦
          (let m = groups_step k v h g in
          let d = drop_first bs at (v % 128 + 128) (groups k (v / 128) ++ post) (rw m.2 at e) in
          let r = groups_back k (v / 128) bs (done + 1) (at + 1) post m.0 m.1 (λ q w. omega arith) d.2 in
          grind (arith, nat_tests, ap length m.2))
    ]

pub number_back : (bs : List ℕ) (at v : ℕ) (post : List ℕ) → v < number_end → drop at bs ≡ form v ++ post
    → (number_at bs at ≡ Ok (v, at + length (form v))) × (drop (at + length (form v)) bs ≡ post)
unfolding number_at form
number_back bs at v post h e = grind (arith, groups_back number_bytes v bs 0 at post (omega arith) h (λ q w. omega arith) e)

-- ---- what is read has the form of what it is read as

above_inv : (low v next : ℕ) (r : Result (ℕ × ℕ) NumberCause) → above low r ≡ Ok (v, next) → (x : ℕ) × (r ≡ Ok (x, next)) × (v ≡ low + 128 * x)
above_inv low v next (Ok p) e =
    let s = ok_same (low + 128 * p.0, p.1) (v, next) e in
    (p.0, ap (λ (q : ℕ × ℕ). Ok (p.0, q.1)) s, sym (ap (λ (q : ℕ × ℕ). q.0) s))
above_inv low v next (Err d) e = absurd (never d (v, next) e)

-- what so many groups at a place say of the bytes there
pub record GroupsRead (k : ℕ) (bs : List ℕ) (done at v next : ℕ) : Type 0 where
  pub bytes : drop at bs ≡ groups k v ++ drop next bs
  pub below : v < room k
  pub after : at < next
  pub within : next ≤ length bs
  pub least : v ≡ 0 → 0 < done → ⊥

pub groups_only : (k : ℕ) (bs : List ℕ) (done at v next : ℕ) → Bytes bs → groups_at bs done k at ≡ Ok (v, next) → GroupsRead k bs done at v next
groups_only zero bs done at v next small e = absurd (never NotShortest (v, next) e)
groups_only (suc k) bs done at v next small e =
    elim (cases_lt at (length bs)) [
      | inr n ↦ absurd (never Ends (v, next) (sym (group_none bs done k at n) ∙ e))
      | inl h ↦ elim (cases_lt (get_or bs at 0) 128) [
        | inl b ↦
            (let g = sym (group_last bs done k at h b) ∙ e in
            let c = cond_err (eqb (get_or bs at 0) 0 && ltb 0 done) NotShortest (Ok (get_or bs at 0, at + 1)) (v, next) g in
            let s = ok_same (get_or bs at 0, at + 1) (v, next) c.1 in
            let f = groups_last (suc k) (get_or bs at 0) (omega arith) b in
            let r = room_more zero k (omega arith) in
            let d = drop_more bs at 0 h in
            record { bytes = grind arith; below = grind arith; after = grind arith; within = grind arith; least = λ z p. grind (arith, c.0) })
        | inr g ↦
            (let s = above_inv (get_or bs at 0 - 128) v next (groups_at bs (done + 1) k (at + 1)) (sym (group_more bs done k at h g) ∙ e) in
            let r = groups_only k bs (done + 1) (at + 1) s.0 next small s.1 in
            let w = small at in
            let nz : s.0 ≡ 0 → ⊥ = λ q. r.least q (omega arith) in
            let q : v / 128 ≡ s.0 = omega (arith, s.2) in
            let m : v % 128 + 128 ≡ get_or bs at 0 = omega (arith, s.2) in
            let d = drop_more bs at 0 h in
            record { bytes = grind (arith, nat_tests, r.bytes); below = omega (arith, s.2, r.below); after = omega (arith, r.after); within = r.within; least = λ z p. omega arith })
      ]
    ]

fault_inv : (at v next : ℕ) (r : Result (ℕ × ℕ) NumberCause) → fault_at at r ≡ Ok (v, next) → r ≡ Ok (v, next)
fault_inv at v next (Ok p) e = cc
fault_inv at v next (Err d) e = cc

pub record NumberRead (bs : List ℕ) (at v next : ℕ) : Type 0 where
  pub bytes : drop at bs ≡ form v ++ drop next bs
  pub below : v < number_end
  pub after : at < next
  pub within : next ≤ length bs

pub number_only : (bs : List ℕ) (at v next : ℕ) → Bytes bs → number_at bs at ≡ Ok (v, next) → NumberRead bs at v next
unfolding number_at form
number_only bs at v next small e =
    let r = groups_only number_bytes bs 0 at v next small (fault_inv at v next (groups_at bs 0 number_bytes at) e) in
    record { bytes = r.bytes; below = r.below; after = r.after; within = r.within }

-- equal numbers, as after a widening, have forms of one length
pub form-length : (v w : ℕ) → v ≡ w → length (form v) ≡ length (form w)
form-length v w e = ap (λ (x : ℕ). length (form x)) e

-- ---- the words of the standard

groups_value : (k v : ℕ) → 0 < k → v < room k → group_value (groups k v) ≡ v
groups_value zero v p h = absurd (omega arith)
groups_value (suc k) v p h = grind (arith, nat_tests, groups_step k v h, groups_value k (v / 128))

-- a form with a byte before it that says so
continued_more : (b : ℕ) (bs : List ℕ) → 128 ≤ b → b < 256 → Continued bs → Continued (b ∷ bs)
continued_more b [] l h c = absurd c
continued_more b (x ∷ xs) l h c = (l, h, c)

groups_continued : (k v : ℕ) → 0 < k → v < room k → Continued (groups k v)
groups_continued zero v p h = absurd (omega arith)
groups_continued (suc k) v p h = grind (arith, nat_tests, groups_step k v h, groups_continued k (v / 128), continued_more)

groups_shortest : (k v : ℕ) (bs : List ℕ) → 0 < k → v < room k → 0 < length bs → group_value bs ≡ v → length (groups k v) ≤ length bs
groups_shortest zero v bs p h s e = absurd (omega arith)
groups_shortest (suc k) v [] p h s e = absurd (omega arith)
groups_shortest (suc k) v (b ∷ []) p h s e = grind (arith, nat_tests)
groups_shortest (suc k) v (b ∷ c ∷ cs) p h s e = grind (arith, nat_tests, groups_step k v h, groups_shortest k (v / 128) (c ∷ cs))

pub number_laws : NumberLaws
unfolding form
number_laws = record {
  value = λ v h. groups_value number_bytes v (omega arith) h;
  continued = λ v h. groups_continued number_bytes v (omega arith) h;
  shortest = λ v bs h s e. groups_shortest number_bytes v bs (omega arith) h s e;
  short = form_short;
  back = λ bs at v post h e. (number_back bs at v post h e).0;
  only = λ bs at v next small e. let r = number_only bs at v next small e in (r.below, r.bytes);
}
