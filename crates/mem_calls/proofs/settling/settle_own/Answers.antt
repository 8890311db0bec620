use Rattle.std.proofs.Common.{sym, subst}
use Rattle.mem_calls.specs.Creations.{HoldsOwn, is_own_cell, SettlesCreation}
use Rattle.mem_calls.proofs.SettledCells.{settles_file, settles_directory}
use Rattle.mem_calls.proofs.settling.settle_own.Goals as goal

pub returns-in-File : goal.returns-in-File
returns-in-File c =
    subst (λ k. SettlesCreation c.args.nodes (is_own_cell c.args.child k) c.args.dir c.args.core.now c.raise_links.new.core) (sym c.in-File.is)
    (settles_file c.args.nodes c.args.dir c.args.core.now c.raise_links.new.core c.args.child c.requires.within c.raise_links.ensures)

pub returns-in-Directory : goal.returns-in-Directory
returns-in-Directory c =
    subst (λ k. SettlesCreation c.args.nodes (is_own_cell c.args.child k) c.args.dir c.args.core.now c.place_directory.new.core) (sym c.in-Directory.is)
    (settles_directory c.args.nodes c.args.dir c.args.core.now c.place_directory.new.core c.args.child c.requires.within
    (subst (HoldsOwn c.args.nodes c.args.core.now.held c.args.child) c.in-Directory.is c.requires.own) c.place_directory.ensures)
