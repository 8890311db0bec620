use Rattle.sfs_image.proofs.RuleFacts.{blocks_cover, tables_cover, limits}
use Rattle.sfs_image.proofs.laws.pointers_cover.Goals as goal

pub returns : goal.returns
returns c = record { blocks = blocks_cover; tables = tables_cover; limits = limits }
