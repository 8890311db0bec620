use Rattle.std.proofs.Common.{sym, ap, ◌∙◌, slice_index}
use Rattle.std.specs.FinMap.{len}
use Rattle.sfs_tree.specs.StoreState.{StoreState}
use Rattle.tree_laws.specs.Tree.{names_of}
use Rattle.tree_laws.proofs.Names.{len-names_of}
use Rattle.sfs_tree.proofs.store.Store.inside.Goals as goal

pub returns : goal.returns
returns c =
    c.number_at.ensures
    ∙ ap (λ ns. slice_index ns c.args.number) c.deref.ensures.value
    ∙ c.self.invariant.counted.standing c.args.number
    ∙ sym (len-names_of c.args.number c.self.inside.rows.rows)
    ∙ ap (λ (s : StoreState). len (names_of c.args.number s.rows)) c.self.view_is
