-- What a memory means, and what each call does to that; assumes nothing of how it is kept.
use Rattle.std.specs.Prelude.{◌≡◌, ℕ, ◌+◌, ◌<◌, ◌≤◌, ◌⊎◌, List, length, Some, None, Ok, Err, Option, Result, ◌≢◌}
use Rattle.std.specs.Borrow.{Bor}
use Rattle.codec.specs.Limits.{max_beds, max_batch_bytes}
use Rattle.memory.specs.Limits.{slot_count}
use Rattle.memory.specs.declared.refusal.MemoryRefusal.{MemoryRefusal}
use Rattle.memory.specs.declared.refusal.MemoryRefusal.TheVariants.{Limits, Differs}

-- for each bed and slot, nothing or some bytes
abbrev pub Slots : Type 0
Slots = ℕ → ℕ → Option (List ℕ)

-- there is such a bed and slot
pub record InPlace (bed slot : ℕ) : Type 0 where
  pub bed_in : bed < max_beds
  pub slot_in : slot < slot_count

-- so many bytes may be kept there
pub record Within (bed slot len : ℕ) : Type 0 where
  pub place : InPlace bed slot
  pub some : 1 ≤ len
  pub most : len ≤ max_batch_bytes

-- what is held is within the limits; outside them there is nothing
abbrev pub Bounded : Slots → Type 0
Bounded m = (bed slot : ℕ) (v : List ℕ) → m bed slot ≡ Some v → Within bed slot (length v)

-- every other slot is as it was
abbrev pub Elsewhere : Slots → ℕ → ℕ → Slots → Type 0
Elsewhere m bed slot m' = (b s : ℕ) → (b ≡ bed → s ≢ slot) → m' b s ≡ m b s

-- what a keep answers, by what the slot held
pub record KeepAnswer (held : Option (List ℕ)) (bytes : List ℕ) (r : Result (Unit {0}) MemoryRefusal) : Type 0 where
  pub fresh : held ≡ None → r ≡ Ok tt
  pub again : held ≡ Some bytes → r ≡ Ok tt
  pub differs : (old : List ℕ) → held ≡ Some old → (old ≢ bytes) → r ≡ Err Differs

-- a keep: an empty slot takes the bytes; the same bytes again are accepted and others refused, and both leave all as it was
pub record Keeps (m : Slots) (bed slot : ℕ) (bytes : List ℕ) (r : Result (Unit {0}) MemoryRefusal) (m' : Slots) : Type 0 where
  pub outside : (Within bed slot (length bytes) → ⊥) → (r ≡ Err Limits) × (m' bed slot ≡ m bed slot)
  pub inside : Within bed slot (length bytes) → KeepAnswer (m bed slot) bytes r
  pub takes : Within bed slot (length bytes) → m bed slot ≡ None → m' bed slot ≡ Some bytes
  pub stays : (old : List ℕ) → m bed slot ≡ Some old → m' bed slot ≡ Some old
  pub elsewhere : Elsewhere m bed slot m'

-- what is lent, by its value
abbrev pub behind : {X : Type 0} → Option (Bor X) → Option X
behind None = None
behind (Some x) = Some x.now

-- a read: what the slot holds
pub record Reads (m : Slots) (bed slot : ℕ) (r : Result (Option (Bor (List ℕ))) MemoryRefusal) : Type 0 where
  pub outside : (InPlace bed slot → ⊥) → r ≡ Err Limits
  pub inside : InPlace bed slot → (o : Option (Bor (List ℕ))) × ((r ≡ Ok o) × (behind o ≡ m bed slot))

-- a torn keep: an empty slot then holds nothing or all the bytes, nothing if no cell was finished, the bytes if so many were
-- finished as the bytes and the memory's own number; between these two limits it is free which
pub record Tears (named : ℕ) (m : Slots) (bed slot : ℕ) (bytes : List ℕ) («at» : ℕ) (m' : Slots) : Type 0 where
  pub outside : (Within bed slot (length bytes) → ⊥) → m' bed slot ≡ m bed slot
  pub either : Within bed slot (length bytes) → m bed slot ≡ None → (m' bed slot ≡ None) ⊎ (m' bed slot ≡ Some bytes)
  pub nothing : Within bed slot (length bytes) → m bed slot ≡ None → «at» ≡ 0 → m' bed slot ≡ None
  pub whole : Within bed slot (length bytes) → m bed slot ≡ None → length bytes + named ≤ «at» → m' bed slot ≡ Some bytes
  pub stays : (old : List ℕ) → m bed slot ≡ Some old → m' bed slot ≡ Some old
  pub elsewhere : Elsewhere m bed slot m'
