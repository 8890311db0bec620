use Rattle.std.proofs.Common.{◌≡◌, ◌+◌, ◌-◌, ◌/◌, ◌<◌, ℕ, true, false, cond, get_or, length, arith, ap}
use Rattle.space_map.specs.declared.status.Status.{Status}
use Rattle.space_map.specs.Pool.{Pool, is_free}
use Rattle.space_map.proofs.Rows.{IsKept-set, count_after, marked_later}
use Rattle.space_map.proofs.pool.Pool.set.Goals as goal

pub overflow_add-self : goal.overflow_add-self
overflow_add-self c =
    let kept = c.self.invariant in
    let inside : c.args.place < length c.self.inside.statuses.items = rw (ap (λ (p : Pool). p.statuses) c.self.view_is) c.requires in
    let after = count_after _ _ _ _ c.args.place c.index.result.now c.args.status kept inside c.index.ensures in
    omega (arith, kept.within, after.small, c.free_units.ensures, c.free_units-2.ensures)

pub invariant_of-self : goal.invariant_of-self
invariant_of-self c =
    let kept = c.self.invariant in
    let inside : c.args.place < length c.self.inside.statuses.items = rw (ap (λ (p : Pool). p.statuses) c.self.view_is) c.requires in
    let after = count_after _ _ _ _ c.args.place c.index.result.now c.args.status kept inside c.index.ensures in
    let same = ap (λ (s : Status). cond {A = ℕ} (is_free s) 1 0) c.index.ensures in
    let balanced : c.self.inside.free - c.free_units.result + c.free_units-2.result
    + cond (is_free (get_or c.self.inside.statuses.items c.args.place c.index.result.now)) 1 0
    ≡ c.self.inside.free + cond (is_free c.args.status) 1 0 =
    omega (arith, same, after.balanced, c.free_units.ensures, c.free_units-2.ensures) in
    let marked =
    λ (group : ℕ) (mark : get_or c.unmark.new.marks.items group false ≡ true). marked_later c.args.status c.is_free.result group
    (c.args.place / 64) c.is_free.ensures (c.unmark.ensures.unmarked group mark) in
    IsKept-set _ _ _ _ _ _ c.args.place c.args.status c.index.result.now kept inside balanced c.unmark.ensures.groups marked
