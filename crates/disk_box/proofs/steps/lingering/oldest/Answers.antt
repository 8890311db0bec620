use Rattle.std.proofs.Common.{length, subst}
use Rattle.std.proofs.Common.{List}
use Rattle.disk_box.specs.declared.desk.Slot.{Slot}
use Rattle.disk_box.specs.Oldest.{FoundLeast}
use Rattle.disk_box.proofs.Older.{none_found, some_found}
use Rattle.disk_box.proofs.steps.lingering.oldest.Goals as goal

pub returns-clause-some : goal.returns-clause-some
returns-clause-some g c = some_found c.args.desk.now.slots.items c.least_of.result
    (subst (λ (l : List Slot). FoundLeast l (length l) c.least_of.result) c.deref.ensures.value c.least_of.ensures)

pub returns-clause-none : goal.returns-clause-none
returns-clause-none g c = none_found c.args.desk.now.slots.items c.least_of.result
    (subst (λ (l : List Slot). FoundLeast l (length l) c.least_of.result) c.deref.ensures.value c.least_of.ensures)
