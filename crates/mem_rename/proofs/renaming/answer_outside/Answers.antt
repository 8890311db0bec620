use Rattle.std.proofs.Common.{◌≡◌, ap, ◌∙◌, arith}
use Rattle.tree_laws.specs.Verdict.{verdict}
use Rattle.mem_values.specs.Start.{given_by}
use Rattle.mem_values.specs.Places.{node_count}
use Rattle.mem_calls.proofs.HeldKinds.{still_directory}
use Rattle.mem_calls.proofs.Faults.{same_count}
use Rattle.mem_calls.proofs.Stamped as stamped
use Rattle.mem_rename.proofs.Outside.{outside_due}
use Rattle.mem_rename.proofs.renaming.answer_outside.Goals as goal

pub directory_fault_in-requires-clause-held : goal.directory_fault_in-requires-clause-held
directory_fault_in-requires-clause-held g c =
    still_directory c.args.nodes c.hold_directory.new.core c.hold_part.new.core c.args.move_.directory c.bucket_of-number.result c.hold_part.ensures.still
    c.hold_directory.ensures.directory

pub finish-requires-clause-due : goal.finish-requires-clause-due
finish-requires-clause-due g c = λ tree meets.
    let same = same_count c.hold_part.new.core tree meets in
    let counted = stamped.counted (given_by c.args.shared.now) c.args.shared.now c.args.nodes c.hold_part.new.core c.requires.table
    c.hold_part.ensures.work in
    let count : node_count tree ≡ c.args.nodes = omega (arith, same, counted) in
    ap (verdict tree c.hold_part.new.core.view.core) c.into_call.ensures
    ∙ outside_due tree c.hold_part.new.core.view.core c.args.nodes c.args.move_ c.directory_fault_in.result c.fault_or-code.result meets.sound count
    c.requires.outside
    (c.directory_fault_in.ensures.fault tree meets) c.directory_fault_in.ensures.within c.fault_or-code.ensures
