use Rattle.std.proofs.Common.{◌∙◌, map, refl, sym, subst, ap}
use Rattle.sfs_base.proofs.BasicOptions.{some_same}
use Rattle.tree_laws.specs.NameRow.{node_number}
use Rattle.stamp_table.specs.Table.{with_values}
use Rattle.mem_values.specs.Start.{given_by}
use Rattle.mem_calls.specs.Table.{nodes_of}
use Rattle.fsync_end.specs.Trimming.{HasTold, TrimsAll}
use Rattle.fsync_end.specs.Finishing.{logs_trimmed, Finishes}
use Rattle.fsync_end.proofs.Finishes.{FsyncEnd, EndsSo, may_tell, count_told, flushes, has_told, all_go_home, between, finishes}
use Rattle.fsync_end.proofs.finishing.finish.Goals as goal

pub tell_ghost-requires-clause-may : goal.tell_ghost-requires-clause-may
tell_ghost-requires-clause-may g c = (
  c.requires.may.told,
  c.requires.may.told_is,
  rw c.shared-shared.ensures (may_tell (given_by c.args.table.now) c.args.table.now (nodes_of c.args.table.now) g.J.Telling.fact c.args.ending
      c.args.core.now (rw c.nodes-nodes.ensures.count at c.nodes-nodes.ensures.table) c.requires.may),
)

pub swap_values-requires : goal.swap_values-requires
swap_values-requires g c =
    let s : FsyncEnd = record {
      given = given_by c.args.table.now;
      t = c.args.table.now;
      nodes = nodes_of c.args.table.now;
      fact = g.J.Telling.fact;
      ending = c.args.ending;
      before = c.args.core.now;
      told = c.tell_ghost.new.self;
      put = record c.tell_ghost.new.self { held = with_values c.args.ending.values.items c.tell_ghost.new.self.held };
    } in
    let so : EndsSo s = record {
      table = rw c.nodes-nodes.ensures.count at c.nodes-nodes.ensures.table;
      may = c.requires.may;
      tells = rw c.shared-shared.ensures at (c.tell_ghost.ensures c.requires.may.told c.requires.may.told_is);
      puts = refl;
    } in
    count_told s so

pub trim_all-requires-clause-at : goal.trim_all-requires-clause-at
trim_all-requires-clause-at g c =
    let s : FsyncEnd = record {
      given = given_by c.args.table.now;
      t = c.args.table.now;
      nodes = nodes_of c.args.table.now;
      fact = g.J.Telling.fact;
      ending = c.args.ending;
      before = c.args.core.now;
      told = c.tell_ghost.new.self;
      put = c.swap_values.new.self;
    } in
    let so : EndsSo s = record {
      table = rw c.nodes-nodes.ensures.count at c.nodes-nodes.ensures.table;
      may = c.requires.may;
      tells = rw c.shared-shared.ensures at (c.tell_ghost.ensures c.requires.may.told c.requires.may.told_is);
      puts = c.swap_values.ensures.cells;
    } in
    rw c.shared-shared.ensures (flushes s so)

pub trim_all-requires-clause-told : goal.trim_all-requires-clause-told
trim_all-requires-clause-told g c =
    let s : FsyncEnd = record {
      given = given_by c.args.table.now;
      t = c.args.table.now;
      nodes = nodes_of c.args.table.now;
      fact = g.J.Telling.fact;
      ending = c.args.ending;
      before = c.args.core.now;
      told = c.tell_ghost.new.self;
      put = c.swap_values.new.self;
    } in
    let so : EndsSo s = record {
      table = rw c.nodes-nodes.ensures.count at c.nodes-nodes.ensures.table;
      may = c.requires.may;
      tells = rw c.shared-shared.ensures at (c.tell_ghost.ensures c.requires.may.told c.requires.may.told_is);
      puts = c.swap_values.ensures.cells;
    } in
    subst (λ l. HasTold c.swap_values.new.self.view.mine c.swap_values.new.self.view.core c.args.ending.number c.args.ending.stamp.0 (map node_number l))
    (sym c.deref-2.ensures.value) (has_told s so)

pub let_go-requires-clause-home : goal.let_go-requires-clause-home
let_go-requires-clause-home g c =
    let s : FsyncEnd = record {
      given = given_by c.args.table.now;
      t = c.args.table.now;
      nodes = nodes_of c.args.table.now;
      fact = g.J.Telling.fact;
      ending = c.args.ending;
      before = c.args.core.now;
      told = c.tell_ghost.new.self;
      put = c.swap_values.new.self;
    } in
    let so : EndsSo s = record {
      table = rw c.nodes-nodes.ensures.count at c.nodes-nodes.ensures.table;
      may = c.requires.may;
      tells = rw c.shared-shared.ensures at (c.tell_ghost.ensures c.requires.may.told c.requires.may.told_is);
      puts = c.swap_values.ensures.cells;
    } in
    let trims = subst (λ n. TrimsAll (given_by c.args.table.now) c.args.ending.number n c.swap_values.new.self c.trim_all.new.core)
    (c.logs_to_trim-logs.ensures ∙ ap (λ l. logs_trimmed l c.args.cores) c.deref.ensures.value) (rw c.shared-shared.ensures at c.trim_all.ensures.trims) in
    rw c.shared-shared.ensures (all_go_home s so c.args.cores c.trim_all.new.core c.requires.cores trims)

pub returns-clause-between : goal.returns-clause-between
returns-clause-between g c =
    let s : FsyncEnd = record {
      given = given_by c.args.table.now;
      t = c.args.table.now;
      nodes = nodes_of c.args.table.now;
      fact = g.J.Telling.fact;
      ending = c.args.ending;
      before = c.args.core.now;
      told = c.tell_ghost.new.self;
      put = c.swap_values.new.self;
    } in
    let so : EndsSo s = record {
      table = rw c.nodes-nodes.ensures.count at c.nodes-nodes.ensures.table;
      may = c.requires.may;
      tells = rw c.shared-shared.ensures at (c.tell_ghost.ensures c.requires.may.told c.requires.may.told_is);
      puts = c.swap_values.ensures.cells;
    } in
    let trims = subst (λ n. TrimsAll (given_by c.args.table.now) c.args.ending.number n c.swap_values.new.self c.trim_all.new.core)
    (c.logs_to_trim-logs.ensures ∙ ap (λ l. logs_trimmed l c.args.cores) c.deref.ensures.value) (rw c.shared-shared.ensures at c.trim_all.ensures.trims) in
    between s so c.args.cores c.trim_all.new.core c.requires.cores trims c.let_go.new.self c.let_go.ensures.lets_go c.let_go.ensures.left
    c.let_go.ensures.places c.answer.new.self c.answer.ensures

pub returns-clause-finishes : goal.returns-clause-finishes
returns-clause-finishes g c told is =
    let s : FsyncEnd = record {
      given = given_by c.args.table.now;
      t = c.args.table.now;
      nodes = nodes_of c.args.table.now;
      fact = g.J.Telling.fact;
      ending = c.args.ending;
      before = c.args.core.now;
      told = c.tell_ghost.new.self;
      put = c.swap_values.new.self;
    } in
    let so : EndsSo s = record {
      table = rw c.nodes-nodes.ensures.count at c.nodes-nodes.ensures.table;
      may = c.requires.may;
      tells = rw c.shared-shared.ensures at (c.tell_ghost.ensures c.requires.may.told c.requires.may.told_is);
      puts = c.swap_values.ensures.cells;
    } in
    let trims = subst (λ n. TrimsAll (given_by c.args.table.now) c.args.ending.number n c.swap_values.new.self c.trim_all.new.core)
    (c.logs_to_trim-logs.ensures ∙ ap (λ l. logs_trimmed l c.args.cores) c.deref.ensures.value) (rw c.shared-shared.ensures at c.trim_all.ensures.trims) in
    subst (λ t. Finishes (given_by c.args.table.now) c.args.cores t c.args.ending c.args.core.now c.answer.new.self)
    (some_same (sym c.requires.may.told_is ∙ is))
    (finishes s so c.args.cores c.trim_all.new.core c.requires.cores trims c.let_go.new.self c.let_go.ensures.lets_go c.let_go.ensures.left
    c.let_go.ensures.places c.answer.new.self c.answer.ensures)
