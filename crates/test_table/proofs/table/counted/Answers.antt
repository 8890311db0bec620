use Rattle.std.proofs.Common.{refl, arith, ◌≡◌, ◌∙◌, sym, ap, subst, ℕ, ◌++◌, length, take, drop, All}
use Rattle.stamp_table.specs.Table.{IsBetweenCalls, IsSameCore, AreNew}
use Rattle.stamp_table.proofs.Beginning.{new_between, all_again}
use Rattle.stamp_table.proofs.Exchanging.{written_over}
use Rattle.test_table.proofs.table.counted.Goals as goal

pub count_all-requires-clause-cores : goal.count_all-requires-clause-cores
count_all-requires-clause-cores g c κs within =
    let made = c.in_ok-shared.ensures in
    subst (All (IsBetweenCalls c.in_ok-shared.shared)) (sym c.as_mut_slice.ensures.value)
    (new_between c.in_ok-shared.shared 0 c.in_ok-shared.hands.items made.cores.ready
    (subst (λ f. AreNew f c.in_ok-shared.hands.items) (sym made.first) made.new)
    (let n = made.count in let cores = ap (λ t. length t.made) (made.first ∙ c.in_ok-first.ensures.ok) in
    let r = Rattle.std.proofs.lemmas.List.length-replicate {A = ℕ} c.args.cores 0 in omega (arith, n, cores, r)))

pub close-history-requires : goal.close-history-requires
close-history-requires g c =
    let made = c.in_ok-shared.ensures in
    let items = c.in_ok-shared.hands.items in
    let value = c.as_mut_slice.ensures.value in
    let long : length c.count_all.new.cores ≡ length items = c.count_all.ensures.count ∙ ap length value in
    let back : take c.in_ok-shared.hands.len (c.count_all.new.cores ++ drop (length c.count_all.new.cores) items) ≡ c.count_all.new.cores =
    ap (λ k. take k (c.count_all.new.cores ++ drop (length c.count_all.new.cores) items)) c.in_ok-shared.hands.ok.0
    ∙ written_over items c.count_all.new.cores (length items) refl long in
    subst (λ l. Rattle.stamp_table.specs.Table.AreAllCores c.in_ok-shared.shared l) (sym back)
    (all_again c.in_ok-shared.shared items c.count_all.new.cores long
    (λ place d lt. let s = c.count_all.ensures.same place d (omega (arith, lt, ap length value)) in (
      subst (λ l. IsSameCore (Rattle.std.specs.Prelude.slice_index_or l place d)
          (Rattle.std.specs.Prelude.slice_index_or c.count_all.new.cores place d)) value s.0,
      s.1.holds_none,
    )) made.cores)
