-- What a box is made of beside its disk.
use Rattle.std.specs.Prelude.{◌≡◌, ◌<◌, [], replicate, None}
use Rattle.std.specs.Vec.{vec_capacity}
use Rattle.tree_laws.specs.Build.{root_alone}
use Rattle.slot_laws.specs.Labels.{first_past}
use Rattle.commit_ledger.specs.Keeps.{LedgerKeeps}
use Rattle.disk_box.specs.declared.key.BoxKey.{BoxKey}
use Rattle.journal_set.specs.declared.making.Fresh.{Fresh}
use Rattle.journal_set.specs.Making.{AreIdleSlots}

-- Memory for one cell, the tree of a root alone with a core a pen, all slots idle, no turn that waits, a ledger over free space, and no turn yet.
pub record IsFresh {D : Type 0} (key : BoxKey D) (fresh : Fresh D) : Type 0 where
  pub cells_none : fresh.cells.items ≡ []
  pub cells_room : 0 < vec_capacity fresh.cells
  pub tree_is : fresh.tree ≡ root_alone 1 0 key.layout.cores
  pub slots_idle : AreIdleSlots key.layout fresh.slots.items
  pub waits_none : fresh.waits.items ≡ replicate key.layout.cores None
  pub ledger_is : fresh.ledger ≡ record { space = key.space; commits = 0; lasts = []; opens = replicate key.layout.cores None }
  pub keeps : LedgerKeeps fresh.ledger (first_past key.start)
  pub no_turns : fresh.turns.items ≡ []
