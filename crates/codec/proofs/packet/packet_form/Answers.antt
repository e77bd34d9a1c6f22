use Rattle.std.proofs.Common.{arith, rules}
use Rattle.std.proofs.lemmas.Grind.{common_steps}
use Rattle.codec.specs.Packet.{SoundPacket}
use Rattle.codec.proofs.ListWrites.{sound_ranged, packet_fits}
use Rattle.codec.proofs.packet.packet_form.Goals as goal

pub push_number-requires : goal.push_number-requires
push_number-requires c =
    let s : SoundPacket c.args.beds.count c.args.bed c.args.round c.args.tickets.now = search rules in
    let fits = packet_fits _ _ _ _ c.args.beds.most s in
    (search rules, (omega (arith, s.bed_in, c.args.beds.most), grind (arith, common_steps)))

pub push_number-requires-2 : goal.push_number-requires-2
push_number-requires-2 c =
    let s : SoundPacket c.args.beds.count c.args.bed c.args.round c.args.tickets.now = search rules in
    let fits = packet_fits _ _ _ _ c.args.beds.most s in
    (search rules, (omega (arith, s.round_in), grind (arith, common_steps)))

pub push_list-requires : goal.push_list-requires
push_list-requires c =
    let s : SoundPacket c.args.beds.count c.args.bed c.args.round c.args.tickets.now = search rules in
    let fits = packet_fits _ _ _ _ c.args.beds.most s in
    (search rules, (sound_ranged _ _ _ c.args.beds.most s.sound, (s.sound.few, grind (arith, common_steps))))
