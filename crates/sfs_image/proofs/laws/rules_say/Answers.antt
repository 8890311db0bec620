use Rattle.sfs_image.proofs.RuleFacts.{records_say, roots_say, sizes_say, tails_say, slots_say}
use Rattle.sfs_image.proofs.RuleLaws.{pointers_say, blocks_say}
use Rattle.sfs_image.proofs.laws.rules_say.Goals as goal

pub returns : goal.returns
returns c = record {
  records = records_say;
  roots = roots_say;
  sizes = sizes_say;
  pointers = pointers_say;
  blocks = blocks_say;
  tails = tails_say;
  slots = slots_say;
}
