use Rattle.std.proofs.Common.{refl}
use Rattle.codec.specs.Number.{form, number_at}
use Rattle.codec.specs.Ranged.{ranged_at}
use Rattle.codec.specs.Ticket.{same_identity, stands_before, ticket_at, ticket_bytes}
use Rattle.codec.specs.TicketList.{list_bytes, next_at}
use Rattle.codec.specs.Reading.{batch_head, batch_reading}
use Rattle.codec.specs.Batch.{batch_of}
use Rattle.memory.specs.Chip.{torn_cells}
use Rattle.worked.specs.Worked.{Numbers, Batches, Order, Chip}
use Rattle.worked.proofs.worked_examples_hold.Goals as goal

numbers : Numbers
unfolding form
numbers = record { three_hundred = refl; a_million = refl }

batches : Batches
unfolding form number_at same_identity stands_before ranged_at ticket_at ticket_bytes list_bytes next_at batch_head batch_reading batch_of
batches = record {
  long_zero = (refl, refl, refl, refl, refl, refl, refl, refl);
  empty = (refl, refl, refl, refl, refl, refl, refl, refl);
  one_ticket = refl;
  no_such_bed = refl;
  not_rising = (refl, refl, refl, refl, refl, refl, refl, refl);
  repeated = (refl, refl, refl, refl, refl, refl, refl, refl);
  spare = (refl, refl, refl, refl, refl, refl, refl, refl);
  too_many_paths = (refl, refl, refl, refl, refl, refl, refl, refl);
  written = refl;
}

order : Order
unfolding stands_before
order = record { lower_origin = refl }

chip : Chip
unfolding torn_cells
chip = record { broken_off = refl; as_good_as_done = refl }

pub returns : goal.returns
returns c = record { numbers = numbers; batches = batches; order = order; chip = chip }
