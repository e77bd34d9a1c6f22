use Rattle.std.proofs.Common.{rules, refl, ap, ◌∙◌, inl, subst}
use Rattle.group.specs.Record.{waiting_in}
use Rattle.group.specs.declared.bed.BedRecord.{BedRecord}
use Rattle.group.specs.declared.bed.Event.TheVariants as ev
use Rattle.group.proofs.Tables.{record_is, admits_running}
use Rattle.group.proofs.Sends.{send_ends}
use Rattle.codec.specs.Packet.{packet_bytes, SoundPacket}
use Rattle.codec.specs.Write.{Wrote}
use Rattle.group.proofs.table.Table.send.Goals as goal

pub returns-clause-does : goal.returns-clause-does
returns-clause-does c kept board =
    let t = c.args.self.now in
    let i = c.in_ok-index.index in
    let on = admits_running t c.args.bed ev.Use i c.in_ok-index.field-0-1 (inl refl) c.in_ok-index.ensures in
    let own = record_is t i c.index-self-index.result on.inside in
    send_ends t kept board c.args.bed i on _ (c.as_slice.ensures.value ∙ ap (λ (r : BedRecord). waiting_in r.waiting) own) c.args.out.now c.write_packet.new.out c.write_packet.result c.map_err.result
    (subst (λ (r : BedRecord). Wrote (SoundPacket t.size.count c.args.bed r.round c.as_slice.result.now) (packet_bytes c.args.bed r.round c.as_slice.result.now) c.args.out.now c.write_packet.result c.write_packet.new.out) own c.write_packet.ensures.wrote)
    (λ len e. search rules) (λ x e. search rules)
