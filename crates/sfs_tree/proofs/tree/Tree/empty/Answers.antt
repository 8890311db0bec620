use Rattle.std.proofs.Common.{◌≡◌, IsSome, replicate, sym, ap, subst, ◌∙◌, rules}
use Rattle.std.specs.FinMap.{get, insert}
use Rattle.sfs_base.specs.declared.numbers.Kind.TheVariants.{Directory}
use Rattle.tree_laws.specs.Build.{IsFounded}
use Rattle.sfs_tree.proofs.Founded.{IsFounded-new, root_below}
use Rattle.sfs_tree.proofs.tree.Tree.empty.Goals as goal

pub invariant_of-result : goal.invariant_of-result
invariant_of-result c =
    let made : c.in_ok-made.made.items ≡ replicate c.args.cores 0 = search rules in
    let nodes =
    c.put_node.ensures.nodes
    ∙ ap (λ m. insert m 0 (record { kind = Directory; bytes = c.new.result.items })) (c.grow.ensures.nodes ∙ c.new-store.ensures.nodes) in
    subst (IsFounded c.put_node.new.self.nodes c.args.first c.args.share) (sym made)
    (IsFounded-new c.put_node.new.self.nodes c.args.first c.args.share c.args.cores c.requires.low c.requires.shares
    (λ node some. root_below c.args.first (record { kind = Directory; bytes = c.new.result.items }) node c.requires.first
    (subst (λ m. IsSome (get m node)) nodes some)))
