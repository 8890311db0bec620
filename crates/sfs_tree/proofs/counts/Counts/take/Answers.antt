use Rattle.std.proofs.Common.{◌-◌, set, slice_index, refl, ap, ◌∙◌}
use Rattle.sfs_tree.proofs.Counted.{IsCounted-lowered}
use Rattle.sfs_tree.proofs.counts.Counts.take.Goals as goal

pub returns-clause-counted : goal.returns-clause-counted
returns-clause-counted c =
    IsCounted-lowered c.args.directory c.args.child c.args.is_directory c.args.self.now _ (record {
      named = c.fall.ensures;
      inside = c.fall-2.ensures;
      directories =
          c.fall-3.ensures
          ∙ ap (λ n. set c.args.self.now.directories.items c.args.directory (slice_index c.args.self.now.directories.items c.args.directory - n))
          c.number_if.ensures;
      holders = refl;
      total = refl;
    }) c.requires
