use Rattle.std.proofs.Common.{set, sym, ap, ◌∙◌}
use Rattle.std.proofs.lemmas.List.{length-set}
use Rattle.group.specs.Calls.{waiting_now}
use Rattle.group.specs.Record.{bed_of}
use Rattle.group.specs.Table.{beds_of, no_record}
use Rattle.group.proofs.Tables.{in_table, record_is, table_bed, beds_set, table_still_sound}
use Rattle.group.proofs.table.Table.wait.Goals as goal

pub invariant_of-self : goal.invariant_of-self
invariant_of-self c =
    let t = c.args.self.now in
    let i = c.args.index in
    let inside = in_table t i c.requires.low in record {
      room = length-set t.beds i _ ∙ t.room;
      sound = rw (record_is t i c.index-self-index.result inside)
          (table_still_sound t i _ inside (λ s. record { set = s.set; queue_len = s.queue_len; round = s.round; waits = λ _. c.requires.left }));
    }

pub returns : goal.returns
returns c =
    let t = c.args.self.now in
    let i = c.args.index in record {
      beds = beds_set t i _ c.requires.low
          ∙ ap (λ r. set (beds_of t) i (waiting_now (bed_of r))) (record_is t i c.index-self-index.result (in_table t i c.requires.low))
          ∙ ap (λ x. set (beds_of t) i (waiting_now x)) (sym (table_bed t i no_record c.requires.low));
    }
