use Rattle.mem_rename.proofs.Home.{replaced_files_lose_a_link as law}
use Rattle.mem_rename.proofs.laws.replaced_files_lose_a_link.Goals as goal

pub returns : goal.returns
returns c = law
