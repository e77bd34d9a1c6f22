-- The limits of a decision service beside those of the byte forms; assumes nothing.
use Rattle.std.specs.Prelude.{ℕ}

abbrev pub round_count : ℕ
round_count = 32

-- the most proposals, one for each bed and round
abbrev pub all_proposals : ℕ
all_proposals = 256
