-- What the slot of a row stands for: the shape of a call row, the body atom of a cont row, the shape of a solution row.
use Rattle.std.specs.Prelude.{ℕ, ◌-◌, ◌≤◌, ◌<◌, ◌≡◌}
use Rattle.table.specs.Keys.{first_cont, first_solution}
use Rattle.concerns.specs.declared.slot.Slot.{Slot}
use Rattle.concerns.specs.declared.slot.Slot.TheVariants.{Call, Cont, Solution}

abbrev pub SlotOf : ℕ → Slot → Type 0
SlotOf slot (Call s) = (slot < first_cont) × (s ≡ slot)
SlotOf slot (Cont j) = (first_cont ≤ slot) × (slot < first_solution) × (j ≡ slot - first_cont)
SlotOf slot (Solution s) = (first_solution ≤ slot) × (s ≡ slot - first_solution)
