use Rattle.std.specs.Prelude.{vec_capacity}
use Rattle.std.proofs.Common.{◌∙◌, ◌∷◌, [], length, get_or, set, sym, ap, subst, arith, append-nil, length-append}
use Rattle.std.proofs.lemmas.List.{take_all}
use Rattle.keyed_list.specs.Ascending.{AscendBy}
use Rattle.disk_nodes.specs.Nodes.{entry_node}
use Rattle.fsync_values.specs.Lending.{old_of_value, entries_of}
use Rattle.fsync_values.proofs.Lent.{with_entry, entries_next, read_was, lend_next}
use Rattle.fsync_values.proofs.Renewed.{entries_ascend}
use Rattle.fsync_values.proofs.lending.lend.Goals as goal
use Rattle.fsync_values.proofs.lending.lend.Goals.{in-Some, in_default}

pub loop-at-preserved : goal.loop-at-preserved
loop-at-preserved c =
    let at = c.loop-at.at in
    let nodes = c.args.nodes.now in
    let was = c.args.values.now.items in
    let now = c.loop-at.values.items in
    let inv = c.loop-at.invariant in
    let within = c.loop-at-test.true in
    let count = c.requires.count in
    let own = read_was at was now c.index_mut.result.now (omega (arith, within, count)) inv.values c.index_mut.ensures.value in
    let values = ap (set now at) c.lend_one.ensures.value
    ∙ lend_next at was now c.index_mut.result.now (omega (arith, within, count)) inv.values c.index_mut.ensures.value in
    let node = get_or nodes at (record { 0 = 0 }) in
    let entries =
    (λ i. with_entry (inv.entries i) node ((c.lend_one.ensures.old ∙ ap old_of_value own) i))
    ∙ sym (entries_next at nodes was (record { 0 = 0 }) c.index_mut.result.now count within) in
    elim c.match-lend_one.branch [
      | in-Some w ↦
          let same = w.entries-is in
          record {
            values = values;
            entries = ap (λ v. v.items) same ∙ w.push_reserved.ensures.items ∙ ap (with_entry c.loop-at.entries.items node) (sym w.in-Some.is) ∙ entries;
            few =
                let long = ap (λ v. length v.items) same ∙ ap length w.push_reserved.ensures.items in
                let few = inv.few in
                let one = length-append c.loop-at.entries.items (record { node = node; old = w.in-Some.old } ∷ []) in
                omega (arith, long, few, one);
            room = let cap = ap vec_capacity same ∙ w.push_reserved.ensures.capacity in let room = inv.room in omega (arith, cap, room);
          }
      | in_default w ↦
          let same = w.entries-is in
          record {
            values = values;
            entries = ap (λ v. v.items) same ∙ sym (append-nil c.loop-at.entries.items)
                ∙ ap (with_entry c.loop-at.entries.items node) (sym w.in_default.is) ∙ entries;
            few = let long = ap (λ v. length v.items) same in let few = inv.few in omega (arith, long, few);
            room = let cap = ap vec_capacity same in let room = inv.room in omega (arith, cap, room);
          }
    ]

pub from_vec-requires : goal.from_vec-requires
from_vec-requires c =
    let at = c.loop-at.at in
    let past = c.loop-at-test.false in
    let count = c.requires.count in
    subst (AscendBy entry_node)
    (sym
    (c.loop-at.invariant.entries
    ∙ (λ i. entries_of (take_all at c.args.nodes.now (omega (arith, past)) i) (take_all at c.args.values.now.items (omega (arith, past, count)) i))))
    (entries_ascend c.args.nodes.now c.args.values.now.items c.requires.ascend)
