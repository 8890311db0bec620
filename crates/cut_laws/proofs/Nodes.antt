-- Nodes stay along a run.
use Rattle.std.proofs.Common.{ℕ, [], Option, Some, None, IsSome, sym, ap, ◌∙◌}
use Rattle.std.specs.FinMap.{get}
use Rattle.sfs_base.specs.declared.numbers.Kind.{Kind}
use Rattle.tree_laws.specs.Tree.{TreeState}
use Rattle.tree_laws.specs.Effect.{Effect, Stays, Adds, Removes, Moves, Edits, tree_with}
use Rattle.tree_laws.specs.Fits.{Fits}
use Rattle.tree_laws.proofs.KeepsNodes.{KeepKinds-new, KeepKinds-edit}

-- a node stays
pub node_stays : (tree : TreeState) (core : ℕ) (effect : Effect) (makes : Option Kind) (x : ℕ) → Fits tree core effect makes → IsSome (get tree.nodes x)
    → IsSome (get (tree_with tree core effect makes).nodes x)
node_stays tree core Stays None x f some = some
node_stays tree core (Adds d n c) None x f some = some
node_stays tree core (Removes d n c) None x f some = some
node_stays tree core (Moves p n q m c) None x f some = some
node_stays tree core (Edits file edit) None x f some = (KeepKinds-edit tree file edit tree.made).node x some
node_stays tree core (Adds d n c) (Some kind) x f some =
    (KeepKinds-new tree _ (record { kind = kind; bytes = [] }) tree.made (ap (get tree.nodes) (sym f.number) ∙ f.fresh)).node x some
node_stays tree core Stays (Some kind) x f some = absurd f
node_stays tree core (Removes d n c) (Some kind) x f some = absurd f
node_stays tree core (Moves p n q m c) (Some kind) x f some = absurd f
node_stays tree core (Edits file edit) (Some kind) x f some = absurd f
