use Rattle.std.proofs.Common.{refl, sym, ap, subst, ◌∙◌, map}
use Rattle.std.specs.Ordering.{nat_cmp}
use Rattle.std.specs.List.Sorted.{IsStrictlySortedBy}
use Rattle.std.proofs.lemmas.Iterator.Consumers.{YieldsList-end, YieldsList-from_rest}
use Rattle.std.proofs.lemmas.Map.Keys.{IsStrictlyIncreasing-from_sorted}
use Rattle.disk_change.specs.Records.{record_keyed, record_inode}
use Rattle.disk_change.proofs.Ascending.{keys_are}
use Rattle.disk_change.proofs.Directories.{map_itself}
use Rattle.disk_change.proofs.records.listed.Goals as goal

pub returns-clause-ascending : goal.returns-clause-ascending
returns-clause-ascending c =
    let gives = c.into_iter-inode-iterator.ensures.into_iter_gives in
    let end =
    YieldsList-end
    (YieldsList-from_rest c.args.records.entries gives.0) c.loop-inode.yielded c.loop-inode.inode-iterator c.loop-inode.yielded_by _ c.next.new.self
    c.in-None.is c.next.ensures.steps in
    let all = ap (λ l. l.items) c.from_vec.ensures ∙ c.loop-inode.invariant ∙ ap (map record_keyed) (sym (map_itself c.loop-inode.yielded) ∙ end.0) in
    IsStrictlyIncreasing-from_sorted (map record_inode c.from_vec.result.items)
    (subst (IsStrictlySortedBy nat_cmp) (sym (ap (map record_inode) all ∙ keys_are record_keyed record_inode (λ e. refl) c.args.records.entries)) gives.5)
