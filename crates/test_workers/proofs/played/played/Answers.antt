use Rattle.std.proofs.Common.{◌≡◌, ◌++◌, refl, sym, ap, subst, ◌∙◌, length, map, take, drop}
use Rattle.std.specs.Prelude.{All, IfOk}
use Rattle.stamp_table.specs.Table.{AreAllCores, AreNew, IsBetweenCalls}
use Rattle.stamp_table.proofs.Exchanging.{written_over}
use Rattle.workers.specs.Keeping.{agree_always}
use Rattle.workers.specs.Works.{Rests}
use Rattle.test_workers.specs.Teams.{new_worker, worker_core, AreSameCores}
use Rattle.test_workers.proofs.Crews.{rests_new, all_rest}
use Rattle.test_workers.proofs.played.played.Goals as goal

pub drive_all-ended-requires-clause-rest : goal.drive_all-ended-requires-clause-rest
drive_all-ended-requires-clause-rest g c κs within =
    let t = c.got-table.result.0 in
    let hands = c.got-table.result.1.items in
    let made : c.got-workers.result.items ≡ map new_worker hands =
    subst (λ r. IfOk r (λ workers. workers.items ≡ map new_worker hands)) c.got-workers.ensures c.workers_of.ensures in
    subst (λ l. All (Rests t agree_always) l) (sym (c.as_mut_slice.ensures.value ∙ made))
    (rests_new t c.first_tree-tree.result hands
    (subst (λ r. IfOk r (λ m. All (IsBetweenCalls m.0) m.1.items)) c.got-table.ensures c.begun.ensures.between)
    (subst (λ r. IfOk r (λ m. AreNew c.first_tree-tree.result m.1.items)) c.got-table.ensures c.begun.ensures.new))

pub close-history-requires : goal.close-history-requires
close-history-requires g c =
    let t = c.got-table.result.0 in
    let hands = c.got-table.result.1.items in
    let items = c.got-workers.result.items in
    let done = c.drive_all-ended.new.workers in
    let made : items ≡ map new_worker hands =
    subst (λ r. IfOk r (λ workers. workers.items ≡ map new_worker hands)) c.got-workers.ensures c.workers_of.ensures in
    let old = c.as_mut_slice.ensures.value ∙ made in
    let long : length done ≡ length items = c.drive_all-ended.ensures.count ∙ ap length c.as_mut_slice.ensures.value in
    let back : take c.got-workers.result.len (done ++ drop (length done) items) ≡ done =
    ap (λ k. take k (done ++ drop (length done) items)) c.got-workers.result.ok.0 ∙ written_over items done (length items) refl long in
    let cores : c.got-hands.result.items ≡ map worker_core (take c.got-workers.result.len (done ++ drop (length done) items)) =
    subst (λ r. IfOk r (λ cores. cores.items ≡ map worker_core (take c.got-workers.result.len (done ++ drop (length done) items)))) c.got-hands.ensures
    c.cores_of.ensures in
    let all = subst (λ r. IfOk r (λ m. AreAllCores m.0 m.1.items)) c.got-table.ensures c.begun.ensures.cores in
    rw c.into_shared.ensures (subst (λ l. AreAllCores t l) (sym (cores ∙ ap (map worker_core) back))
    (all_rest t hands done all (long ∙ ap length made) (subst (λ l. AreSameCores l done) old c.drive_all-ended.ensures.same) c.drive_all-ended.ensures.rest))
