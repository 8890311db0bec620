use Rattle.std.proofs.lemmas.Slice.Eq.{slice_eq-Decides}
use Rattle.fsync_catch.proofs.Going.{same_nodes}
use Rattle.fsync_catch.proofs.catching.are_same.Goals as goal

pub returns : goal.returns
returns c = slice_eq-Decides same_nodes c.args.some.now c.args.others.now c.eq.result c.eq.ensures
