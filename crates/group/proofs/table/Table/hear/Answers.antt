use Rattle.std.proofs.Common.{◌≡◌, Ok, Err, sym, refl, ap, ◌∙◌, subst, inl}
use Rattle.std.proofs.lemmas.List.{length-set}
use Rattle.std.proofs.lemmas.Result.{err_from_is_err_and}
use Rattle.codec.specs.Chain.{map_ok}
use Rattle.codec.specs.Packet.{IsPacket, ReadPacket, packet_of, packet_parts}
use Rattle.codec.specs.Tickets.{listed}
use Rattle.group.specs.Calls.{HearDoes}
use Rattle.codec.specs.declared.whole.Source.TheVariants as so
use Rattle.group.specs.Outcome.{faulty}
use Rattle.group.specs.Record.{HearsAll}
use Rattle.group.specs.declared.bed.BedRecord.{BedRecord}
use Rattle.group.specs.Table.{world_of, record_of}
use Rattle.group.specs.declared.refusal.Refusal.TheVariants as rf
use Rattle.group.specs.declared.bed.Event.TheVariants as ev
use Rattle.group.specs.declared.call.Reply.TheVariants.{Heard as HeardReply}
use Rattle.group.proofs.Tables.{record_is, table_still_sound, admits_running}
use Rattle.group.proofs.Hears.{heard_sound, hear_faulty, hear_takes}
use Rattle.group.proofs.Options.{raised_err, raised_ok}
use Rattle.group.proofs.table.Table.hear.Goals as goal

pub returns-in_err-packet : goal.returns-in_err-packet
returns-in_err-packet c kept board =
    let t = c.args.self.now in
    let i = c.in_ok-index.index in
    let on = admits_running t c.args.bed ev.Use i c.in_ok-index.field-0-1 (inl refl) c.in_ok-index.ensures in
    let p = err_from_is_err_and c.from_residual-in_err-packet.result c.from_residual-in_err-packet.ensures.1 in
    let f = raised_err _ c.read_packet.result c.in_err-packet.field-0.0 (sym c.sited.ensures ∙ c.in_err-packet.was) in
    let bad : packet_of t.size.count c.args.bytes.now ≡ Err f.0 = sym c.read_packet.ensures.value ∙ ap (map_ok packet_parts) f.1 in
    subst (λ r. HearDoes (world_of t kept board) c.args.bed c.args.bytes.now (map_ok HeardReply r) (world_of t kept board)) (sym (p.1 ∙ ap Err (p.2 ∙ ap rf.Faulty f.2 ∙ ap (λ (x : BedRecord). faulty f.0 c.args.bed x.round so.Packet) (record_is t i c.index-self-index.result on.inside))))
    (hear_faulty t kept board c.args.bed i on c.args.bytes.now f.0 bad)

pub invariant_of-self : goal.invariant_of-self
invariant_of-self c =
    let t = c.args.self.now in
    let i = c.in_ok-index.index in
    let on = admits_running t c.args.bed ev.Use i c.in_ok-index.field-0-1 (inl refl) c.in_ok-index.ensures in
    let p = c.in_ok-packet.packet in
    let read : c.read_packet.result ≡ Ok p = raised_ok _ c.read_packet.result p (sym c.sited.ensures ∙ c.in_ok-packet.was) in
    let packet : IsPacket t.size.count c.args.bytes.now p.bed p.round (listed p.tickets) = subst (ReadPacket t.size.count c.args.bytes.now) read c.read_packet.ensures.sound in
    let all : HearsAll (listed p.tickets) c.hear_round.new.self c.hear_tickets.result c.hear_tickets.new.self =
    subst (λ ts. HearsAll ts c.hear_round.new.self c.hear_tickets.result c.hear_tickets.new.self) c.as_slice.ensures.items c.hear_tickets.ensures.hears in record {
      room = length-set t.beds i c.hear_tickets.new.self ∙ t.room;
      sound = table_still_sound t i c.hear_tickets.new.self on.inside (heard_sound t.size.count _ (listed p.tickets) (record_of t i) c.hear_round.new.self c.hear_tickets.result c.hear_tickets.new.self (rw (record_is t i c.index-self-index-2.result on.inside) at c.hear_round.ensures) all packet.sound.sound.ranged);
    }

pub returns : goal.returns
returns c kept board =
    let t = c.args.self.now in
    let i = c.in_ok-index.index in
    let on = admits_running t c.args.bed ev.Use i c.in_ok-index.field-0-1 (inl refl) c.in_ok-index.ensures in
    let p = c.in_ok-packet.packet in
    let read : c.read_packet.result ≡ Ok p = raised_ok _ c.read_packet.result p (sym c.sited.ensures ∙ c.in_ok-packet.was) in
    let packet : IsPacket t.size.count c.args.bytes.now p.bed p.round (listed p.tickets) = subst (ReadPacket t.size.count c.args.bytes.now) read c.read_packet.ensures.sound in
    let all : HearsAll (listed p.tickets) c.hear_round.new.self c.hear_tickets.result c.hear_tickets.new.self =
    subst (λ ts. HearsAll ts c.hear_round.new.self c.hear_tickets.result c.hear_tickets.new.self) c.as_slice.ensures.items c.hear_tickets.ensures.hears in
    hear_takes t kept board c.args.bed i on c.args.bytes.now p.bed p.round (listed p.tickets) packet c.hear_round.new.self c.hear_tickets.result c.hear_tickets.new.self (rw (record_is t i c.index-self-index-2.result on.inside) at c.hear_round.ensures) all
