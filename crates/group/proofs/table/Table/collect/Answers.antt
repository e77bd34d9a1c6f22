use Rattle.std.proofs.Common.{set, sym, ap, ◌∙◌, subst}
use Rattle.std.proofs.lemmas.List.{length-set}
use Rattle.group.specs.Calls.{collected}
use Rattle.group.specs.Record.{CollectsBatch}
use Rattle.group.specs.Table.{beds_of, no_record, record_of}
use Rattle.group.proofs.Tables.{in_table, record_is, table_bed, beds_set, table_still_sound}
use Rattle.group.proofs.Collects.{round_left, collected_sound}
use Rattle.group.proofs.table.Table.collect.Goals as goal

pub invariant_of-self : goal.invariant_of-self
invariant_of-self c =
    let t = c.args.self.now in
    let i = c.args.index in
    let inside = in_table t i c.requires.low in
    let collects : CollectsBatch c.args.batch.now (record_of t i) c.collect.new.self =
    subst (λ r. CollectsBatch c.args.batch.now r c.collect.new.self) (record_is t i c.index-self-index.result (in_table t i c.requires.low)) c.collect.ensures.collects in record {
      room = length-set t.beds i _ ∙ t.room;
      sound = table_still_sound t i _ inside (collected_sound t.size.count c.args.batch.now _ c.collect.new.self collects (round_left t i inside c.requires.waits) c.requires.few);
    }

pub returns : goal.returns
returns c =
    let t = c.args.self.now in
    let i = c.args.index in
    let collects : CollectsBatch c.args.batch.now (record_of t i) c.collect.new.self =
    subst (λ r. CollectsBatch c.args.batch.now r c.collect.new.self) (record_is t i c.index-self-index.result (in_table t i c.requires.low)) c.collect.ensures.collects in
    beds_set t i c.collect.new.self c.requires.low ∙ ap (set (beds_of t) i) collects.bed
    ∙ ap (λ x. set (beds_of t) i (collected x c.args.batch.now)) (sym (table_bed t i no_record c.requires.low))
