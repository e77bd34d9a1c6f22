-- One slot of an image more, and one bed.
use Rattle.std.proofs.Common.{◌≡◌, ℕ, ◌+◌, cond, List, [], ◌++◌, is_some, Some, None, Option, sym, refl, ◌∙◌, append-nil, append_assoc, add-one, arith}
use Rattle.memory.specs.Limits.{slot_count}
use Rattle.memory.specs.Meaning.{Slots}
use Rattle.inspect.specs.Image.{slot_text, slots_text, beds_text, empty_slots, empty_of_beds}

-- what the slots up to one of a bed come to, and how many of them are empty
pub text_to : ℕ → Slots → ℕ → ℕ → List ℕ
text_to n m bed k = beds_text n m bed ++ slots_text n m bed k

pub empty_to : Slots → ℕ → ℕ → ℕ
empty_to m bed k = empty_of_beds m bed + empty_slots m bed k

pub text_none : (n : ℕ) (m : Slots) → beds_text n m 0 ≡ []
unfolding beds_text
text_none n m = refl

pub empty_none : (m : Slots) → empty_of_beds m 0 ≡ 0
unfolding empty_of_beds
empty_none m = refl

pub text_begun : (n : ℕ) (m : Slots) (bed : ℕ) → text_to n m bed 0 ≡ beds_text n m bed
unfolding text_to slots_text
text_begun n m bed = append-nil (beds_text n m bed)

pub empty_begun : (m : Slots) (bed : ℕ) → empty_to m bed 0 ≡ empty_of_beds m bed
unfolding empty_to empty_slots
empty_begun m bed = omega arith

pub text_done : (n : ℕ) (m : Slots) (bed : ℕ) → beds_text n m (bed + 1) ≡ text_to n m bed slot_count
unfolding text_to beds_text
text_done n m bed = rw add-one refl

pub empty_done : (m : Slots) (bed : ℕ) → empty_of_beds m (bed + 1) ≡ empty_to m bed slot_count
unfolding empty_to empty_of_beds
empty_done m bed = rw add-one refl

text_more : (n : ℕ) (m : Slots) (bed k : ℕ) (o : Option (List ℕ)) → m bed k ≡ o → text_to n m bed k ++ slot_text n bed k o ≡ text_to n m bed (k + 1)
unfolding text_to slots_text
text_more n m bed k o h = rw (add-one, sym h) (append_assoc (beds_text n m bed) (slots_text n m bed k) (slot_text n bed k (m bed k)))

empty_more : (m : Slots) (bed k : ℕ) (o : Option (List ℕ)) → m bed k ≡ o → empty_to m bed k + cond (is_some o) 0 1 ≡ empty_to m bed (k + 1)
unfolding empty_to empty_slots
empty_more m bed k o h = rw (add-one, sym h) (omega arith)

-- a slot that holds something, and was told of
pub text_told : (n : ℕ) (m : Slots) (bed k : ℕ) (v before after shown : List ℕ) → m bed k ≡ Some v → before ≡ text_to n m bed k → after ≡ before ++ shown
    → shown ≡ slot_text n bed k (Some v) → after ≡ text_to n m bed (k + 1)
text_told n m bed k v before after shown h b a s = rw (a, b, s) (text_more n m bed k (Some v) h)

pub empty_told : (m : Slots) (bed k : ℕ) (v : List ℕ) → m bed k ≡ Some v → empty_to m bed k ≡ empty_to m bed (k + 1)
empty_told m bed k v h = let e = empty_more m bed k (Some v) h in omega arith

-- an empty slot, which was counted
pub text_passed : (n : ℕ) (m : Slots) (bed k : ℕ) → m bed k ≡ None → text_to n m bed k ≡ text_to n m bed (k + 1)
text_passed n m bed k h = sym (append-nil (text_to n m bed k)) ∙ text_more n m bed k None h

pub empty_counted : (m : Slots) (bed k : ℕ) → m bed k ≡ None → empty_to m bed k + 1 ≡ empty_to m bed (k + 1)
empty_counted m bed k h = empty_more m bed k None h

-- where the slots of a bed begin and end
pub ruleset bed_steps = (text_none, empty_none, text_begun, empty_begun, text_done, empty_done)
