use Rattle.std.proofs.Common.{sym}
use Rattle.mem_files.proofs.Sizes.{length-bytes_in}
use Rattle.mem_files.proofs.file.FileBytes.size.Goals as goal

pub returns : goal.returns
returns c = rw (← c.self.view_is) (sym (length-bytes_in c.self.inside.pages.items c.self.inside.size))
