use Rattle.std.proofs.Common.{◌≡◌, true, List, map, ◌↔◌, subst}
use Rattle.std.specs.Ordering.{nat_cmp}
use Rattle.std.specs.BTreeSet.{contains}
use Rattle.sfs_base.specs.declared.numbers.NodeId.{NodeId}
use Rattle.tree_laws.specs.NameRow.{node_number}
use Rattle.look_laws.specs.Look.{SeesNaming}
use Rattle.dep_closure.specs.Gathered.{look_of, lifted_cut}
use Rattle.flush_plan.proofs.moved.facts_of.Goals as goal

pub returns : goal.returns
returns c = record {
  named = c.in_ok-named.ensures;
  unflushed = λ start late node.
      subst (λ (l : List NodeId). (contains nat_cmp c.in_ok-unflushed.unflushed node ≡ true) ↔ SeesNaming (look_of start late c.args.logs.now)
      (lifted_cut c.args.logs.now.cuts.items (map node_number l) c.args.below.0) node)
      c.as_slice.ensures (c.in_ok-unflushed.ensures start late node);
  kinds = c.in_ok-kinds.ensures;
}
