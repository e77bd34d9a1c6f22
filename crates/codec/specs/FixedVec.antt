-- What a contract sees of a list with a fixed number of places; assumes nothing.
use Rattle.std.specs.Prelude.{List}

-- the items in their order, and what lies in the places past them, of which a clause says at most that it is as it was
pub record FixedVec (T : Type 0) : Type 0 where
  pub items : List T
  pub spare : List T
