use Rattle.std.proofs.Common.{rules, sym, subst}
use Rattle.begun_tables.specs.Begun.{IsBuiltTree}
use Rattle.begun_tables.proofs.Built.{begins_with_node, within_with_node}
use Rattle.begun_tables.proofs.puts.put_node.Goals as goal

pub returns-clause-built : goal.returns-clause-built
returns-clause-built c = subst IsBuiltTree (sym c.in_ok-put_node.ensures.ok) (record {
  begins = begins_with_node c.args.tree.now c.args.node.0 c.args.kind c.args.bytes.items c.requires.built.begins (search rules) c.requires.size;
  within = within_with_node c.args.tree.now c.args.node.0 c.args.kind c.args.bytes.items c.requires.built.within c.requires.directory;
})
