-- A gate is closed by its byte, and the gates before it stay closed.
use Rattle.std.proofs.Common.{◌≡◌, ◌+◌, ◌<◌, ℕ, List, subst, sym, ◌∙◌, ap, add-one, ◌≤◌, Some, length, ◌∷◌, []}
use Rattle.sfs_dev.specs.Ranges.{put}
use Rattle.sfs_image.specs.Super.{IsLayout}
use Rattle.sfs_image.specs.ImageOf.{IsShut}
use Rattle.sfs_image.specs.Settled.{journal_slot, slot_byte, slot_count}
use Rattle.recovery.proofs.JustMade.{gate_within, shut_next, told_put}
use Rattle.recovery.proofs.Undisturbed.{undisturbed-call}
use Rattle.recovery.proofs.making.close_gates.Goals as goal

pub loop-number-preserved : goal.loop-number-preserved
loop-number-preserved g c =
    let laws = g.met.D.Disk g.world.𝓛 g.world.𝓜 g.world.𝓡 ((λ s x. x), (λ x. x), (λ x. x), λ x. x) in
    let view = g.D.Disk.view in
    let layout = c.args.layout.now in
    let k = c.loop-number.number in
    let invariant = c.loop-number.invariant in
    let old = view c.loop-number.disk in
    let there : k < slot_count layout = subst (λ n. k < n) invariant.end c.loop-number-test.true in
    let fits : IsLayout old.size layout = subst (λ n. IsLayout n layout) (sym invariant.so_far.advances.size) c.requires.layout in
    let within : (content : List ℕ) → old.content ≡ Some content → slot_byte layout k + 1 ≤ length content =
    λ content told. subst (λ n. slot_byte layout k + 1 ≤ n) (sym (laws.whole c.loop-number.disk content told)) (gate_within layout old.size k fits there) in
    record {
      end = invariant.end;
      so_far =
          undisturbed-call (view c.args.disk.now) old (view c.write_at.new.self) _
          (laws.now_fits c.loop-number.disk) invariant.so_far c.in_ok-write_at.ensures.call;
      shut = λ content told j less.
          let t = told_put c.slot_byte.result _ old.content (view c.write_at.new.self).content content c.in_ok-write_at.ensures.ok told in
          subst (λ (content : List ℕ). IsShut (journal_slot layout content j)) (sym (t.2 ∙ ap (λ at. put at (0 ∷ []) t.0) c.slot_byte.ensures))
          (shut_next layout k t.0 (within t.0 t.1) (invariant.shut t.0 t.1) j (subst (λ n. j < n) (add-one k) less));
    }
