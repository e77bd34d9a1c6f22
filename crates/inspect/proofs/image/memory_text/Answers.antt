use Rattle.std.proofs.Common.{◌≡◌, Some, None, string_bytes, ap, ◌∙◌, arith}
use Rattle.memory.specs.Meaning.{behind}
use Rattle.inspect.proofs.ImageSteps.{text_told, text_passed, empty_told, empty_counted}
use Rattle.inspect.proofs.image.memory_text.Goals as goal
use Rattle.inspect.proofs.image.memory_text.Goals.{in-Some+in_ok-slot_text-in-Some+in_ok-push_str-in-Some, in-None}

pub loop-slot-preserved : goal.loop-slot-preserved
loop-slot-preserved g c =
    let n = c.args.beds.count in
    let m = g.M.Memory.holds c.args.memory.now in
    let bed = c.loop-bed.bed in
    let slot = c.loop-slot.slot in
    let i = c.loop-slot.invariant in
    let read = c.read.ensures.inside (record { bed_in = omega arith; slot_in = omega arith }) in
    let held : m bed slot ≡ behind c.unwrap.result = cc in
    elim c.match-unwrap.branch [
      | in-Some+in_ok-slot_text-in-Some+in_ok-push_str-in-Some w ↦ (
          let here : m bed slot ≡ Some w.in-Some.bytes.now = held ∙ ap behind w.in-Some.is in
          record {
            text = ap string_bytes w.text-is
                ∙ text_told n m bed slot _ _ _ _ here i.text w.in_ok-push_str-in-Some.ensures.bytes (w.as_str.ensures.value ∙ w.in_ok-slot_text-in-Some.ensures);
            empty = omega (arith, w.empty-is, i.empty, empty_told m bed slot _ here);
            few = omega (arith, i.few, w.empty-is);
          }
          )
      | in-None w ↦ (
          let here : m bed slot ≡ None = held ∙ ap behind w.in-None.is in
          record {
            text = ap string_bytes w.text-is ∙ i.text ∙ text_passed n m bed slot here;
            empty = omega (arith, w.empty-is, i.empty, empty_counted m bed slot here);
            few = omega (arith, i.few, w.empty-is);
          }
          )
    ]
