-- The laws of batches and packets, from reading and writing.
use Rattle.std.proofs.Common.{List, length, sym, refl, ap, ◌∙◌}
use Rattle.codec.specs.Batch.{batch_bytes}
use Rattle.codec.specs.Packet.{packet_bytes}
use Rattle.codec.specs.Laws.{BatchLaws, PacketLaws}
use Rattle.codec.specs.declared.ticket.Ticket.{Ticket}
use Rattle.codec.specs.declared.reader.Head.{Head}
use Rattle.codec.specs.declared.reader.Head.TheVariants as hd
use Rattle.codec.proofs.Chains.{ok_same}
use Rattle.codec.proofs.ListForms.{batch_back, batch_only, batch_whole, packet_back, packet_whole}
use Rattle.codec.proofs.ListWrites.{batch_some, batch_short, packet_some, packet_short}
use Rattle.codec.proofs.Wholes.{packet_only, packet_same}

pub batch_laws : BatchLaws
batch_laws = record {
  back = batch_back;
  only = batch_only;
  whole = batch_whole;
  one = λ n ts us h s t e. ok_same ts us (sym (batch_whole n (batch_bytes ts) ts h (record { sound = s; bytes = refl })) ∙ batch_whole n (batch_bytes ts) us h (record { sound = t; bytes = e }));
  some = batch_some;
  short = batch_short;
}

pub packet_laws : PacketLaws
packet_laws = record {
  back = packet_back;
  only = packet_only;
  whole = packet_whole;
  one = λ n bed round bed' round' ts us h s t e.
      let w = ok_same (hd.Packet bed round (length ts), ts) (hd.Packet bed' round' (length us), us)
      (sym (packet_whole n (packet_bytes bed round ts) bed round ts h (record { sound = s; bytes = refl })) ∙ packet_whole n (packet_bytes bed round ts) bed' round' us h (record { sound = t; bytes = e })) in
      let p = packet_same bed round (length ts) bed' round' (length us) (ap (λ (x : Head × List Ticket). x.0) w) in
      (p.0, p.1, ap (λ (x : Head × List Ticket). x.1) w);
  some = packet_some;
  short = packet_short;
}
