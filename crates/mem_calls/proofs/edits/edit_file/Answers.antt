use Rattle.std.proofs.Common.{refl}
use Rattle.mem_calls.proofs.HeldKinds.{still_holds_file}
use Rattle.mem_calls.proofs.edits.edit_file.Goals as goal

pub edit_answer-requires-clause-held : goal.edit_answer-requires-clause-held
edit_answer-requires-clause-held g c =
    still_holds_file c.nodes-nodes.result c.hold_file.new.core c.hold_part.new.core c.args.file c.hold_part.ensures.still c.hold_file.ensures.file

pub finish_edit-requires-clause-held : goal.finish_edit-requires-clause-held
finish_edit-requires-clause-held g c =
    (still_holds_file c.nodes-nodes.result c.hold_file.new.core c.hold_part.new.core c.args.file c.hold_part.ensures.still c.hold_file.ensures.file).file
    (c.in-None.ensures.within refl)
