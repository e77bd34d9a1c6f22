-- One ticket more in a list, in its place; assumes nothing. Those that pass a test are `filter` of the library.
use Rattle.std.specs.Prelude.{cond, List, [], ◌∷◌}
use Rattle.codec.specs.Ticket.{stands_before}
use Rattle.codec.specs.declared.ticket.Ticket.{Ticket}

-- the tickets with one more, in ticket order
abbrev pub placed : Ticket → List Ticket → List Ticket
placed t [] = t ∷ []
placed t (x ∷ xs) = cond (stands_before t x) (t ∷ x ∷ xs) (x ∷ placed t xs)
