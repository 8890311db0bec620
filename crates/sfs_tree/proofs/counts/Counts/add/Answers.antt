use Rattle.std.proofs.Common.{◌+◌, set, slice_index, refl, ap, ◌∙◌}
use Rattle.sfs_tree.proofs.Counted.{IsCounted-raised}
use Rattle.sfs_tree.proofs.counts.Counts.add.Goals as goal

pub returns-clause-counted : goal.returns-clause-counted
returns-clause-counted c =
    IsCounted-raised c.args.directory c.args.child c.args.is_directory c.args.self.now _ (record {
      named = c.rise.ensures;
      inside = c.rise-2.ensures;
      directories =
          c.rise-3.ensures
          ∙ ap (λ n. set c.args.self.now.directories.items c.args.directory (slice_index c.args.self.now.directories.items c.args.directory + n))
          c.number_if.ensures;
      holders = c.put_at.ensures;
      total = refl;
    }) c.requires
