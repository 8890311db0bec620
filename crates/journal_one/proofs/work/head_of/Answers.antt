use Rattle.std.proofs.Common.{◌∙◌}
use Rattle.journal_one.proofs.Places.{head_written}
use Rattle.journal_one.proofs.work.head_of.Goals as goal

pub returns : goal.returns
returns c =
    head_written c.args.count c.args.stamp c.copy_from_slice.new.self c.copy_from_slice-2.new.self
    (c.copy_from_slice.ensures.after ∙ c.to_le_bytes.ensures) (c.copy_from_slice-2.ensures.after ∙ c.to_le_bytes-2.ensures)
