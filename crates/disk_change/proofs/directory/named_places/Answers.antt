use Rattle.std.proofs.Common.{[], get_or, arith}
use Rattle.std.proofs.lemmas.List.Sorted.{Contains-permutation}
use Rattle.disk_change.proofs.Passing.{row_of_net}
use Rattle.disk_change.proofs.directory.named_places.Goals as goal

pub returns : goal.returns
returns c = record {
  sorted = c.sort_unstable.ensures.sorted;
  each = λ n low some.
      let of = row_of_net c.args.net.now (get_or c.args.slots.now n []) some in
      let within = of.within in
      Contains-permutation c.loop-row.named.items c.sort_unstable.new.self.items n c.sort_unstable.ensures.permutation
      (c.loop-row.invariant of.place n of.row (omega (arith, within, c.loop-row.auto.row-index-end)) low of.has);
}
