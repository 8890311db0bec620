use Rattle.std.proofs.Common.{refl, arith, ◌≡◌, ◌∙◌, sym, ap, subst, ◌++◌, length, take, drop}
use Rattle.std.specs.Prelude.{slice_index_or}
use Rattle.stamp_table.specs.Table.{AreAllCores, IsSameCore}
use Rattle.stamp_table.proofs.Beginning.{all_again}
use Rattle.stamp_table.proofs.Exchanging.{written_over}
use Rattle.test_table.proofs.table_tree.begins_and_ends.Goals as goal

pub close-history-requires : goal.close-history-requires
close-history-requires g c =
    let made = c.in_ok-shared.ensures in
    let items = c.in_ok-shared.cores.items in
    let shown = c.are_all_shown-found in
    let value = c.as_mut_slice.ensures.value in
    let long : length shown.new.cores ≡ length items = shown.ensures.count ∙ ap length value in
    let back : take c.in_ok-shared.cores.len (shown.new.cores ++ drop (length shown.new.cores) items) ≡ shown.new.cores =
    ap (λ k. take k (shown.new.cores ++ drop (length shown.new.cores) items)) c.in_ok-shared.cores.ok.0 ∙ written_over items shown.new.cores
    (length items) refl long in
    subst (λ l. AreAllCores c.in_ok-shared.shared l) (sym back)
    (all_again c.in_ok-shared.shared items shown.new.cores long
    (λ place d lt. let s = shown.ensures.same place d (omega (arith, lt, ap length value)) in
    (subst (λ l. IsSameCore (slice_index_or l place d) (slice_index_or shown.new.cores place d)) value s.0, s.1.holds_none)) made.cores)
