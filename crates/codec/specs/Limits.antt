-- The limits of the byte forms; assumes nothing. src/limits.rt has the same numbers for the code.
use Rattle.std.specs.Prelude.{ℕ}

-- the most beds of a group
abbrev pub max_beds : ℕ
max_beds = 8

-- the most bytes of a number
abbrev pub number_bytes : ℕ
number_bytes = 3

-- numbers are below this
abbrev pub number_end : ℕ
number_end = 2097152

abbrev pub max_paths : ℕ
max_paths = 1000000

abbrev pub min_number : ℕ
min_number = 1

abbrev pub max_number : ℕ
max_number = 65535

abbrev pub max_sheet : ℕ
max_sheet = 63

-- the most tickets of a batch, and of a packet
abbrev pub batch_tickets : ℕ
batch_tickets = 8

abbrev pub packet_tickets : ℕ
packet_tickets = 16

abbrev pub max_round : ℕ
max_round = 32

-- the most bytes of a batch, and of a packet
abbrev pub max_batch_bytes : ℕ
max_batch_bytes = 65

abbrev pub max_packet_bytes : ℕ
max_packet_bytes = 135
