-- What the form of a number is, and what stands at a place of the bytes; assumes that bytes are below 256.
use Rattle.std.specs.Prelude.{ℕ, zero, suc, ◌+◌, ◌-◌, ◌*◌, ◌/◌, ◌%◌, ◌<◌, ◌≤◌, cond, ◌&&◌, List, [], ◌∷◌, length, Ok, Err, Result, ◌==◌, nat_lt, slice_index}
use Rattle.codec.specs.Limits.{number_bytes}
use Rattle.codec.specs.declared.number.NumberCause.{NumberCause}
use Rattle.codec.specs.declared.number.NumberCause.TheVariants.{Ends, NotShortest}
use Rattle.codec.specs.declared.number.NumberFault.{NumberFault}

-- a number in at most `left` groups of seven bits, the lowest first, the top bit set in each byte but the last
abbrev pub groups : ℕ → ℕ → List ℕ
groups zero v = []
groups (suc left) v = cond (nat_lt v 128) (v ∷ []) ((v % 128 + 128) ∷ groups left (v / 128))

-- the form of a number
unfoldable pub form : ℕ → List ℕ
form v = groups number_bytes v

-- a group below what the groups after it come to
abbrev pub above : ℕ → Result (ℕ × ℕ) NumberCause → Result (ℕ × ℕ) NumberCause
above low (Ok p) = Ok (low + 128 * p.0, p.1)
above low (Err c) = Err c

-- what at most `left` groups from a place on come to, after `done` others: the value and the place after them.
-- A last group of 0 after another says that a shorter form was to be had.
abbrev pub groups_at : List ℕ → ℕ → ℕ → ℕ → Result (ℕ × ℕ) NumberCause
groups_at bs done zero at = Err NotShortest
groups_at bs done (suc left) at =
    cond (nat_lt at (length bs))
    (cond (nat_lt (slice_index bs at) 128)
    (cond (slice_index bs at == 0 && nat_lt 0 done) (Err NotShortest) (Ok (slice_index bs at, at + 1)))
    (above (slice_index bs at - 128) (groups_at bs (done + 1) left (at + 1))))
    (Err Ends)

-- a fault with the place of the number
abbrev pub fault_at : ℕ → Result (ℕ × ℕ) NumberCause → Result (ℕ × ℕ) NumberFault
fault_at at (Ok p) = Ok p
fault_at at (Err c) = Err (record { cause = c; place = at })

-- what stands at a place: a number and the place after it, or a fault
unfoldable pub number_at : List ℕ → ℕ → Result (ℕ × ℕ) NumberFault
number_at bs at = fault_at at (groups_at bs 0 number_bytes at)

-- bytes are below 256
abbrev pub Bytes : List ℕ → Type 0
Bytes bs = (k : ℕ) → slice_index bs k < 256

-- ---- the same in the words of the standard

-- the value of groups of seven bits, the lowest first, whatever their top bits
abbrev pub group_value : List ℕ → ℕ
group_value [] = 0
group_value (b ∷ bs) = b % 128 + 128 * group_value bs

-- the top bit is set in every byte but the last
abbrev pub Continued : List ℕ → Type 0
Continued [] = ⊥
Continued (b ∷ []) = b < 128
Continued (b ∷ c ∷ bs) = (128 ≤ b) × (b < 256) × Continued (c ∷ bs)
