-- What the questions answer, case by case.
use Rattle.std.proofs.Common.{◌≡◌, ℕ, ◌<◌, ◌≤◌, false, leb, Err, Result, sym, refl, ap, ◌∙◌, arith}
use Rattle.std.proofs.lemmas.Bool.{cond-true, cond-false, le-leb, lt-leb}
use Rattle.memory.specs.Meaning.{Slots}
use Rattle.decision.specs.Meaning.{Board}
use Rattle.group.specs.World.{Bed, World, bed, size}
use Rattle.group.specs.Questions.{is_off, of_group, of_running}
use Rattle.group.specs.Table.{world_of, no_record, record_of}
use Rattle.group.specs.declared.bed.Phase.{Phase}
use Rattle.group.specs.declared.bed.Phase.TheVariants.{Off, Idle, Waiting}
use Rattle.group.specs.declared.refusal.Refusal.{Refusal}
use Rattle.group.specs.declared.refusal.Refusal.TheVariants as rf
use Rattle.group.specs.declared.table.Table.{Table}
use Rattle.group.proofs.Tables.{table_size, table_bed, Admitted}

running_phase : (p : Phase) → (p ≡ Off → ⊥) → is_off p ≡ false
running_phase Off f = absurd (f refl)
running_phase Idle f = refl
running_phase Waiting f = refl

module _ {A : Type 0} (t : Table) (kept : Slots) (board : Board) (b : ℕ) (x : Result A Refusal) where
  abbrev world : World
  world = world_of t kept board

  pub outside : t.size.count ≤ b → Err rf.NoBed ≡ of_group world b x
  outside l = sym (cond-true (leb (size world) b) (Err rf.NoBed) x (le-leb (size world) b (omega (arith, l, table_size t))))

  pub inside : b < t.size.count → x ≡ of_group world b x
  inside l = sym (cond-false (leb (size world) b) (Err rf.NoBed) x (lt-leb (size world) b (omega (arith, l, table_size t))))

  phase_of : b < t.size.count → (bed world b).phase ≡ (record_of t b).phase
  phase_of l = ap (λ (y : Bed). y.phase) (table_bed t b no_record l)

module _ {A : Type 0} (t : Table) (kept : Slots) (board : Board) (b : ℕ) (x : Result A Refusal) where
  pub running : (i : ℕ) → Admitted t b i → x ≡ of_running (world_of t kept board) b x
  running i on =
      sym (cond-false (is_off (bed (world_of t kept board) b).phase) (Err rf.BedOff) x (ap is_off (phase_of t kept board b x on.low) ∙ running_phase (record_of t b).phase on.on))
      ∙ inside t kept board b _ on.low
