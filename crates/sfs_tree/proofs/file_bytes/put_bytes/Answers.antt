use Rattle.std.proofs.Common.{◌∙◌, arith}
use Rattle.std.proofs.lemmas.Bool.Decides.{nat_tests}
use Rattle.sfs_tree.proofs.FileBytes.{written_over}
use Rattle.sfs_tree.proofs.file_bytes.put_bytes.Goals as goal

pub returns-clause-ok : goal.returns-clause-ok
returns-clause-ok c =
    c.overwrite.ensures
    ∙ written_over c.args.at c.args.from.now c.args.bytes.now.items c.make_room.new.bytes.items (grind (arith, nat_tests)) c.in_ok-make_room.ensures.ok
