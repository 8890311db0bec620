use Rattle.std.proofs.Common.{Some, sym, ap, ◌∙◌, subst, ◌≤◌, ℕ, slice_index, option_map}
use Rattle.std.specs.List as list
use Rattle.std.specs.FinMap.{entries}
use Rattle.tree_laws.specs.Tree.{count_of, names_it}
use Rattle.tree_laws.specs.Order.{Key}
use Rattle.sfs_tree.specs.StoreState.{StoreState}
use Rattle.sfs_tree.specs.Counts.{is_directory_in}
use Rattle.sfs_tree.proofs.Moved.{holder_none, holder_some}
use Rattle.sfs_tree.proofs.store.Store.holder.Goals as goal

pub returns-then-number_at-eq0 : goal.returns-then-number_at-eq0
returns-then-number_at-eq0 c =
    holder_none c.self.inside.rows.rows c.self.inside.nodes.nodes c.self.inside.counts c.self.invariant.counted c.args.number
    (ap (λ ns. slice_index ns c.args.number) (sym c.deref.ensures.value) ∙ sym c.number_at.ensures ∙ c.if-number_at-eq0.true)
    ∙ ap (λ (s : StoreState). option_map (λ (row : Key × ℕ). row.0.0) (list.find (names_it c.args.number) (entries s.rows))) c.self.view_is

pub returns : goal.returns
returns c =
    ap Some (c.number_at-2.ensures ∙ ap (λ ns. slice_index ns c.args.number) c.deref-2.ensures.value)
    ∙ holder_some c.self.inside.rows.rows c.self.inside.nodes.nodes c.self.inside.counts c.self.invariant.counted c.args.number
    (ap (λ (s : StoreState). is_directory_in s.nodes c.args.number) c.self.view_is ∙ c.requires.directory)
    (subst (λ (s : StoreState). count_of s.rows c.args.number ≤ 1) (sym c.self.view_is) c.requires.once)
    (λ e. c.if-number_at-eq0.false (c.number_at.ensures ∙ ap (λ ns. slice_index ns c.args.number) c.deref.ensures.value ∙ e))
    ∙ ap (λ (s : StoreState). option_map (λ (row : Key × ℕ). row.0.0) (list.find (names_it c.args.number) (entries s.rows))) c.self.view_is
