use Rattle.std.proofs.Common.{◌≡◌, [], length, filter_map, sym, ap, ◌∙◌, arith, subst, ℕ, Option, Some, None, get_or, cond, Bool, true, false}
use Rattle.std.specs.List.Sorted.{IsStrictlyIncreasing}
use Rattle.std.proofs.lemmas.List.{take_all}
use Rattle.sfs_base.proofs.BasicOptions.{none_some, some_same}
use Rattle.sfs_base.specs.declared.numbers.Kind.TheVariants.{File}
use Rattle.disk_change.specs.Links.{directory_old, directory_entering}
use Rattle.disk_change.specs.Nodes.{enter_node}
use Rattle.disk_nodes.specs.Nodes.{entry_node}
use Rattle.disk_change.specs.declared.enter.Enter.{Enter}
use Rattle.disk_change.proofs.Counted.{given_increase, pushed_more}
use Rattle.disk_change.proofs.kinds.Directories.of.Goals as goal

by_test : (b : Bool) (own n : ℕ) → ◌≡◌ {A = Option ℕ} (cond b (Some own) None) (Some n) → n ≡ own
by_test true own n e = sym (some_same e)
by_test false own n e = absurd (none_some e)

abbrev NO_ENTER : Enter
NO_ENTER = record { node = record { 0 = 0 }; kind = File }

pub loop-entry-preserved : goal.loop-entry-preserved
loop-entry-preserved c =
    let same = c.as_slice-entry-items.ensures.items in
    let long = ap length same in
    pushed_more directory_old [] c.args.old.now.items c.loop-entry.entry-index c.entry-item.result c.loop-entry.directories.items _ c.directory_among_old.result
    (omega arith) c.loop-entry.invariant
    (c.directory_among_old.ensures ∙ ap directory_old (c.entry-item.is ∙ ap (λ those. get_or those c.loop-entry.entry-index c.entry-item.result) same))
    c.in_ok-push_some.ensures

pub loop-one-preserved : goal.loop-one-preserved
loop-one-preserved c =
    let same = c.as_slice-one-items.ensures.items in
    let long = ap length same in
    pushed_more directory_entering [] c.args.enter.now.items c.loop-one.one-index NO_ENTER c.loop-one.entering.items _ c.directory_among_entering.result
    (omega arith) c.loop-one.invariant
    (c.directory_among_entering.ensures ∙ ap (λ those. directory_entering (get_or those c.loop-one.one-index NO_ENTER)) same) c.in_ok-push_some-2.ensures

pub invariant_of-result : goal.invariant_of-result
invariant_of-result c =
    let long = ap length c.as_slice-entry-items.ensures.items in
    let short = ap length c.as_slice-one-items.ensures.items in
    let old = c.loop-entry.invariant ∙ ap (filter_map directory_old) (take_all c.loop-entry.entry-index c.args.old.now.items (omega arith)) in
    let entering = c.loop-one.invariant ∙ ap (filter_map directory_entering) (take_all c.loop-one.one-index c.args.enter.now.items (omega arith)) in (
      subst IsStrictlyIncreasing (sym old)
          (given_increase entry_node directory_old (λ x n e. by_test _ _ n e) c.args.old.now.items c.as_slice-entry-items.ensures.ascending),
      subst IsStrictlyIncreasing (sym entering)
          (given_increase enter_node directory_entering (λ x n e. by_test _ _ n e) c.args.enter.now.items c.as_slice-one-items.ensures.ascending),
    )
