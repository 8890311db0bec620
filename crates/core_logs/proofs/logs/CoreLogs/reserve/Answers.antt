use Rattle.std.proofs.Common.{◌≡◌, ◌≤◌, ℕ, true, List, length, take, sym, ap, ◌∙◌, subst, arith}
use Rattle.std.specs.Prelude.{All}
use Rattle.std.specs.Ordering.{nat_cmp}
use Rattle.std.specs.BTreeSet.{contains}
use Rattle.std.proofs.lemmas.List.{take_all}
use Rattle.tree_laws.specs.declared.changes.Change.{Change}
use Rattle.mem_cells.specs.Part.{room_kept}
use Rattle.core_logs.specs.Logs.{part_of}
use Rattle.core_logs.proofs.Reserving.{all_more, room_for, same_both}
use Rattle.core_logs.proofs.logs.CoreLogs.reserve.Goals as goal

pub loop-change-preserved : goal.loop-change-preserved
loop-change-preserved c =
    let count : ℕ = c.len-count.result in
    let next : Change = c.change-item.result in
    record {
      same = same_both c.args.self.now c.loop-change.self c.reserve_one.new.self c.loop-change.invariant.same c.reserve_one.ensures.same;
      room =
          all_more (λ (one : Change). count ≤ room_kept (part_of c.loop-change.self c.args.core.0) one.dir.0)
          (λ (one : Change). count ≤ room_kept (part_of c.reserve_one.new.self c.args.core.0) one.dir.0) c.as_slice-change-items.result.now
          c.loop-change.change-index next c.loop-change-test.true
          (λ one le. let up = c.reserve_one.ensures.never_lowers one.dir.0 in omega (arith, le, up)) c.loop-change.invariant.room
          (subst
          (λ (one : Change). count ≤ room_kept (part_of c.reserve_one.new.self c.args.core.0) one.dir.0) c.change-item.is c.in_ok-reserve_one.ensures.room);
      listed =
          all_more (λ (one : Change). contains nat_cmp c.loop-change.self.directories one.dir.0 ≡ true)
          (λ (one : Change). contains nat_cmp c.reserve_one.new.self.directories one.dir.0 ≡ true) c.as_slice-change-items.result.now
          c.loop-change.change-index next c.loop-change-test.true
          (λ one there. c.reserve_one.ensures.same.listed one.dir.0 there) c.loop-change.invariant.listed
          (subst (λ (one : Change). contains nat_cmp c.reserve_one.new.self.directories one.dir.0 ≡ true) c.change-item.is c.in_ok-reserve_one.ensures.listed);
    }

pub returns-clause-room : goal.returns-clause-room
returns-clause-room c =
    let all : take c.loop-change.change-index c.as_slice-change-items.result.now ≡ c.args.changes.now.items =
    take_all c.loop-change.change-index c.as_slice-change-items.result.now c.loop-change-test.false ∙ c.as_slice-change-items.ensures in
    let counted : c.len-count.result ≡ length c.args.changes.now.items = c.len-count.ensures in
    record {
      room = room_for c.args.changes.now.items (λ directory. room_kept (part_of c.loop-change.self c.args.core.0) directory)
          (subst (λ (z : ℕ × List Change). All (λ (one : Change). z.0 ≤ room_kept (part_of c.loop-change.self c.args.core.0) one.dir.0) z.1)
          (λ i. (counted i, all i)) c.loop-change.invariant.room);
      listed = subst (All (λ (one : Change). contains nat_cmp c.loop-change.self.directories one.dir.0 ≡ true)) all c.loop-change.invariant.listed;
    }
