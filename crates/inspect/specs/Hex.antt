-- Hexadecimal text and the bytes that it stands for; assumes nothing.
use Rattle.std.specs.Prelude.{ℕ, ◌+◌, ◌-◌, ◌*◌, cond, List, [], ◌∷◌, drop, Some, None, Ok, Err, Option, Result, ◌==◌}
use Rattle.codec.specs.Chain.{map_ok}
use Rattle.std.specs.Option.{ok_or}
use Rattle.std.specs.Int.{is_in_range}
use Rattle.inspect.specs.Fault.{and_then}
use Rattle.inspect.specs.declared.fault.LineFault.{LineFault}
use Rattle.inspect.specs.declared.fault.LineFault.TheVariants as lf

-- the value of a digit, by its ASCII code: 0 to 9, A to F, a to f
abbrev pub digit_of : ℕ → Option ℕ
digit_of c =
    cond (is_in_range 48 57 c) (Some (c - 48))
    (cond (is_in_range 65 70 c) (Some (c - 55))
    (cond (is_in_range 97 102 c) (Some (c - 87)) None))

-- the digit at the front of what a line has from an offset on
abbrev pub digit_at : ℕ → List ℕ → Result ℕ LineFault
digit_at at [] = Err (lf.HalfPair at)
digit_at at (c ∷ cs) = cond (c == 32) (Err (lf.HalfPair at)) (ok_or (digit_of c) (lf.NotHex at))

-- the byte that the pair at the front stands for
abbrev pub pair_at : ℕ → List ℕ → Result ℕ LineFault
pair_at at cs = and_then (digit_at at cs) (λ high. and_then (digit_at (at + 1) (drop 1 cs)) (λ low. Ok (high * 16 + low)))

abbrev pub byte_first : Result ℕ LineFault → Result (List ℕ) LineFault → Result (List ℕ) LineFault
byte_first b rest = and_then b (λ x. map_ok (λ xs. x ∷ xs) rest)

-- the bytes that the pairs stand for; spaces before, between and after the pairs say nothing
abbrev pub hex_at : ℕ → List ℕ → Result (List ℕ) LineFault
hex_at at [] = Ok []
hex_at at (c ∷ []) = cond (c == 32) (Ok []) (byte_first (pair_at at (c ∷ [])) (Ok []))
hex_at at (c ∷ d ∷ ds) = cond (c == 32) (hex_at (at + 1) (d ∷ ds)) (byte_first (pair_at at (c ∷ d ∷ ds)) (hex_at (at + 2) ds))
