use Rattle.std.proofs.Common.{rules, sym, subst}
use Rattle.stamp_table.specs.Table.{HaveRoomFor}
use Rattle.stamp_table.proofs.Beginning.{held_snoc}
use Rattle.stamp_table.proofs.make.held_lists.Goals as goal

pub loop-preserved : goal.loop-preserved
loop-preserved g c = record {
  made = search rules;
  within = search rules;
  room = search rules;
  each = subst (HaveRoomFor c.args.room) (sym c.push_reserved.ensures.items)
      (held_snoc c.args.room c.loop.lists.items c.in_ok-list.list c.loop.invariant.each (search rules));
}
