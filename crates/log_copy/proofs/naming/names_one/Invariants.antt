use Rattle.std.specs.Prelude.{All, take}
use Rattle.std.proofs.Common.{◌≡◌, false}
use Rattle.tree_laws.specs.declared.changes.Change.{Change}
use Rattle.mem_cells.specs.Part.{changes_kept}
use Rattle.log_copy.specs.Copies.{is_one_of}
use Rattle.log_copy.proofs.naming.names_one.Given as goal

abbrev pub invariant-loop-place : goal.invariant-loop-place
invariant-loop-place l = All (λ (change : Change). is_one_of l.nodes change.child.0 ≡ false) (take l.place (changes_kept l.part l.dir.0))
