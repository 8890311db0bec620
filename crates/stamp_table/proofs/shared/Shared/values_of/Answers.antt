use Rattle.std.proofs.Common.{rules, ◌≡◌, ◌<◌, ◌∙◌, ap, sym, subst, arith, length, false, set, get_or}
use lib.ListN.{get_elem?}
use Rattle.std.specs.Mem.Slots.{slots_items, slots_filled, slots_len, slots_counts}
use Rattle.std.specs.Prelude.{slice_get}
use Rattle.stamp_table.specs.Placing.{FillsSlots}
use Rattle.stamp_table.proofs.Closing.{none_empty}
use Rattle.stamp_table.proofs.Laying.{taken_next, still_filled, emptied_next, all_emptied}
use Rattle.stamp_table.proofs.shared.Shared.values_of.Goals as goal

pub unreachable-requires : goal.unreachable-requires
unreachable-requires g c =
    none_empty c.requires.home.0 (slots_items c.loop-place.closed.slots) c.slot_of.result (c.loop-place.invariant.items ∙ c.requires.home.1) (search rules)

pub loop-place-preserved : goal.loop-place-preserved
loop-place-preserved g c =
    let inv = c.loop-place.invariant in
    let slot_at = g.M.Meaning.slot_at c.args.measure in
    let place_at = g.M.Meaning.place_at c.args.measure in
    let one = g.M.Meaning.one_to_one c.args.measure in
    let place = c.loop-place.place in
    let flags = slots_filled c.loop-place.closed.slots in
    let others = c.take.ensures.others in
    let slot : c.slot_of.result ≡ slot_at place = c.slot_of.ensures in
    let counts = c.slot_count.ensures in
    let long = (slots_counts c.loop-place.closed.slots).1 in
    let lt : place < slots_len c.loop-place.closed.slots = (let t = c.loop-place-test.true in omega (arith, t, counts)) in
    let within : slot_at place < slots_len c.loop-place.closed.slots =
    subst (λ n. slot_at place < n) (sym inv.long) (c.requires.laid.fills.slots place (subst (λ n. place < n) inv.long lt)) in
    let emptied : slots_filled c.take.new.self.slots ≡ set flags (slot_at place) false = others.1 ∙ ap (λ k. set flags k false) slot in
    let next : length c.loop-place.values.items ≡ place = inv.room in
    record {
      filled = λ p le less. ap (λ l. get_or l (slot_at p) false) emptied
          ∙ still_filled slot_at place_at one flags place p (omega (arith, le)) (inv.filled p (omega (arith, le)) (let n = others.2 in omega (arith, less, n)));
      emptied = λ p less. ap (λ l. get_or l (slot_at p) false) emptied
          ∙ emptied_next slot_at place_at one flags place p (omega (arith, within, long)) inv.emptied less;
      items = others.0 ∙ inv.items;
      long = others.2 ∙ inv.long;
      taken = λ p value at. ap (λ l. get_elem? l (slot_at p)) others.0
          ∙ taken_next slot_at place_at one (slots_items c.loop-place.closed.slots) c.loop-place.values.items c.in-Some.value
          (ap (λ k. get_elem? (slots_items c.loop-place.closed.slots) k) (ap slot_at next ∙ sym slot) ∙ (search rules)) inv.taken p value
          (ap (λ l. slice_get l p) (sym c.push_reserved.ensures.items) ∙ at);
      within = (let n = others.2 in omega (arith, lt, n));
      room = search rules;
      capacity = search rules;
    }

pub free-requires : goal.free-requires
free-requires g c =
    let inv = c.loop-place.invariant in
    let counts = c.slot_count.ensures in
    all_emptied (g.M.Meaning.slot_at c.args.measure) (g.M.Meaning.place_at c.args.measure) (g.M.Meaning.one_to_one c.args.measure)
    (slots_len c.loop-place.closed.slots) (slots_filled c.loop-place.closed.slots)
    (subst (λ n. FillsSlots n (g.M.Meaning.slot_at c.args.measure) (g.M.Meaning.place_at c.args.measure)) (sym inv.long) c.requires.laid.fills)
    (λ p less. inv.emptied p (let t = c.loop-place-test.false in omega (arith, less, t, counts)))
