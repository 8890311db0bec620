use Rattle.std.proofs.Common.{refl, arith, ◌≡◌, ◌∙◌, sym, ap, subst, ◌++◌, length, take, drop}
use Rattle.std.specs.Prelude.{slice_index_or}
use Rattle.stamp_table.specs.Table.{AreAllCores, IsSameCore}
use Rattle.stamp_table.proofs.Beginning.{all_again}
use Rattle.stamp_table.proofs.Exchanging.{written_over}
use Rattle.test_table.proofs.table_calls.tasks.shared_history.Goals as goal

pub close-history-requires : goal.close-history-requires
close-history-requires g c =
    let made = c.in_ok-table.ensures in
    let items = c.in_ok-table.hands.items in
    let done = c.work_all in
    let value = c.as_mut_slice.ensures.value in
    let long : length done.new.cores ≡ length items = done.ensures.count ∙ ap length value in
    let back : take c.in_ok-table.hands.len (done.new.cores ++ drop (length done.new.cores) items) ≡ done.new.cores =
    ap (λ k. take k (done.new.cores ++ drop (length done.new.cores) items)) c.in_ok-table.hands.ok.0 ∙ written_over items done.new.cores
    (length items) refl long in
    rw c.into_shared.ensures (subst (λ l. AreAllCores c.in_ok-table.table l) (sym back)
    (all_again c.in_ok-table.table items done.new.cores long
    (λ place d lt. let s = done.ensures.same place d (omega (arith, lt, ap length value)) in
    (subst (λ l. IsSameCore (slice_index_or l place d) (slice_index_or done.new.cores place d)) value s.0, s.1.holds_none)) made.cores))
