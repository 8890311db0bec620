use Rattle.std.proofs.Common.{◌≡◌, ap, ◌∙◌, slice_index, arith}
use Rattle.sfs_tree.specs.Counts.{holds_directory_in, count_directories}
use Rattle.tree_laws.proofs.Counting.{count-le-len}
use Rattle.sfs_tree.proofs.store.Store.directories.Goals as goal

pub returns-clause-small : goal.returns-clause-small
returns-clause-small c =
    let n = c.self.inside.nodes.nodes in
    let e : c.number_at.result ≡ count_directories c.self.inside.rows.rows n c.args.number =
    c.number_at.ensures ∙ ap (λ ns. slice_index ns c.args.number) c.deref.ensures.value ∙ c.self.invariant.counted.directories c.args.number in
    let l = count-le-len c.self.inside.rows.rows (holds_directory_in n c.args.number) in
    let m = c.self.invariant.most in
    let f = c.self.invariant.few in
    omega arith
