use Rattle.image_check.proofs.Accepted.{refused_said, short}
use Rattle.image_check.proofs.making.certificate_of.Goals as goal

pub judged_naming-requires-clause-short : goal.judged_naming-requires-clause-short
judged_naming-requires-clause-short c =
    short c.args.image.now c.requires.read c.as_slice-inodes.result.now c.as_slice.result.now c.as_slice-inodes.ensures.value c.as_slice.ensures.value

pub returns-in-Err-clause-bad : goal.returns-in-Err-clause-bad
returns-in-Err-clause-bad c =
    refused_said c.args.image.now c.requires.read c.as_slice-inodes.result.now c.as_slice.result.now c.as_slice-inodes.ensures.value
    c.as_slice.ensures.value c.in-Err.fault c.in-Err.ensures.bad c.tree_fault.result c.tree_fault.ensures
