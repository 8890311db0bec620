-- The children are put from the last one on, so what is to be met begins with the first.
use Rattle.std.proofs.Common.{◌≡◌, ◌-◌, ◌<◌, ◌≤◌, ◌++◌, ℕ, length, arith, refl, sym, ap, subst, ◌∙◌, List, codes}
use Rattle.std.proofs.lemmas.Option.{slice_get_cases}
use Rattle.std.proofs.Common.{slice_get, inl, inr}
use Rattle.sfs_base.proofs.BasicOptions.{some_not_none}
use Rattle.std.specs.FinMap.{entries, len-entries, len}
use Rattle.sfs_base.proofs.BasicNumbers.{suc_again}
use Rattle.tree_laws.specs.Tree.{names_of}
use Rattle.script.specs.Texts.{name_text}
use Rattle.script.specs.TreeWalk.{item_of, items_of}
use Rattle.script.proofs.TreeWalkLemmas.{none_put, child_put}
use Rattle.script.proofs.writing.tree.add_children.Goals as goal

pub loop-left-init : goal.loop-left-init
loop-left-init c =
    let rows = names_of c.args.met.now.node.0 c.args.tree.now.rows in
    let all : c.len-left.result ≡ len rows = c.len-left.ensures ∙ ap len c.in_ok-names.ensures in
    (omega arith, none_put (entries rows) (item_of c.args.met.now) c.len-left.result (items_of c.args.unmet.now.items) (all ∙ len-entries rows))

pub unreachable-requires : goal.unreachable-requires
unreachable-requires c =
    let rows = names_of c.args.met.now.node.0 c.args.tree.now.rows in
    let left = c.loop-left.left - 1 in
    let past = sym (c.in_default.ensures ∙ ap (λ names. slice_get (entries names) left) c.in_ok-names.ensures) in
    let within : c.loop-left.left ≤ length (entries rows) = subst (λ n. c.loop-left.left ≤ n) (len-entries rows) c.loop-left.invariant.0 in
    elim (slice_get_cases (entries rows) left).1 [
      | inl f ↦ some_not_none (sym f.2 ∙ past)
      | inr f ↦
          beyond c.loop-left.left (length (entries rows)) within f.0 c.loop-left-test.true
    ]
  where
    beyond : (n m : ℕ) → n ≤ m → m ≤ n - 1 → 0 < n → ⊥
    beyond n m a b lt = omega arith

pub loop-left-preserved : goal.loop-left-preserved
loop-left-preserved c =
    let rows = names_of c.args.met.now.node.0 c.args.tree.now.rows in
    let at = sym (c.in-Some.ensures ∙ ap (λ names. slice_get (entries names) (c.loop-left.left - 1)) c.in_ok-names.ensures) in
    let less = c.loop-left.invariant.0 in (
      omega arith,
      child_put (entries rows) (item_of c.args.met.now) c.loop-left.left (c.loop-left.left - 1)
          (c.in-Some.row.now.name, c.in-Some.row.now.child.0) c.push.new.self.items c.loop-left.unmet.items
          (record { path = c.in_ok-child_path.field-0; node = c.in-Some.row.now.child })
          (items_of c.args.unmet.now.items) at (suc_again c.loop-left.left c.loop-left-test.true) c.in_ok-push.ensures.items
          (c.in_ok-child_path.ensures
          ∙ ap (λ (path : List ℕ). path ++ (codes "/" ++ name_text c.in-Some.row.now.name)) c.as_str.ensures.value) refl c.loop-left.invariant.1,
    )
