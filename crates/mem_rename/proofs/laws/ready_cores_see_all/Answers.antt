use Rattle.mem_rename.proofs.Readies.{shows_move}
use Rattle.mem_rename.proofs.laws.ready_cores_see_all.Goals as goal

pub returns : goal.returns
returns c = λ given t nodes move plan above hand tree table within ready on. shows_move given t nodes table move within plan above hand ready tree on
