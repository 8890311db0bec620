use Rattle.std.proofs.Common.{rules, arith, sym, subst}
use Rattle.std.specs.FinMap.{len-entries}
use Rattle.sfs_base.specs.Name.{bucket}
use Rattle.tree_laws.specs.Tree.{bucket_rows}
use Rattle.mem_begin.proofs.Rows.{bucket_fits}
use Rattle.begun_tables.specs.Begun.{IsBuiltTree}
use Rattle.begun_tables.proofs.Built.{begins_with_row, few_rows, row_fits, within_with_row}
use Rattle.begun_tables.proofs.puts.put_row.Goals as goal

pub put_row-requires-clause-room : goal.put_row-requires-clause-room
put_row-requires-clause-room c =
    let fits = bucket_fits c.args.dir.0 (bucket c.args.name) c.args.tree.now.rows in
    let all = len-entries (bucket_rows c.args.dir.0 (bucket c.args.name) c.args.tree.now.rows) in
    let few = few_rows c.args.tree.now c.args.dir.0 c.args.name c.args.child.0 c.requires.built.begins.sound (search rules) in
    omega (arith, fits, all, few)

pub returns-clause-built : goal.returns-clause-built
returns-clause-built c =
    let fits = bucket_fits c.args.dir.0 (bucket c.args.name) c.args.tree.now.rows in
    let all = len-entries (bucket_rows c.args.dir.0 (bucket c.args.name) c.args.tree.now.rows) in
    let few = few_rows c.args.tree.now c.args.dir.0 c.args.name c.args.child.0 c.requires.built.begins.sound (search rules) in
    subst IsBuiltTree (sym c.in_ok-put_row.ensures.ok) (record {
      begins = begins_with_row c.args.tree.now c.args.dir.0 c.args.name c.args.child.0 c.requires.built.begins
          (row_fits c.args.tree.now c.args.dir.0 c.args.name c.args.child.0 c.requires.built.begins.sound (search rules));
      within = within_with_row c.args.tree.now c.args.dir.0 c.args.name c.args.child.0 c.requires.built.within (omega (arith, fits, all, few));
    })
