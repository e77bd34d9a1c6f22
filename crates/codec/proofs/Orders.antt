-- Ticket order and identity: their laws. No other shared proof looks into the two.
use Rattle.std.proofs.Common.{◌≡◌, false, ◌∙◌, arith}
use Rattle.std.proofs.lemmas.Bool.Decides.{nat_tests}
use Rattle.codec.specs.Ticket.{same_identity, stands_before}
use Rattle.codec.specs.Laws.{OrderLaws}
use Rattle.codec.specs.declared.ticket.Ticket.{Ticket}

pub order_laws : OrderLaws
unfolding same_identity stands_before
order_laws = record {
  same_itself = λ t. grind (arith, nat_tests);
  same_back = λ s t. grind (arith, nat_tests);
  same_through = λ s t u p q. grind (arith, nat_tests);
  not_before_itself = λ t. grind (arith, nat_tests);
  before_through = λ s t u p q. grind (arith, nat_tests);
  one_before = λ s t p. grind (arith, nat_tests);
}

pub same_no : (s t : Ticket) → same_identity s t ≡ false → same_identity t s ≡ false
same_no s t e = order_laws.same_back t s ∙ e
