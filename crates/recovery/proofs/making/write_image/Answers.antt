-- The table and the superblock are put into a disk whose gates are closed.
use Rattle.std.proofs.Common.{ℕ, List, sym, ap, subst, ◌∙◌}
use Rattle.sfs_dev.specs.Ranges.{put}
use Rattle.sfs_image.specs.ImageOf.{IsJustMade}
use Rattle.sfs_image.specs.Super.{IsLayout}
use Rattle.recovery.proofs.JustMade.{table_within, table_some, made_by_puts, told_put}
use Rattle.recovery.proofs.Undisturbed.{undisturbed-refl, undisturbed-call, undisturbed-ran, failed-call, ran-done}
use Rattle.recovery.proofs.making.write_image.Goals as goal

pub write_at-requires-clause-some : goal.write_at-requires-clause-some
write_at-requires-clause-some g c = table_some c.args.layout.now c.args.table.now c.requires.layout.ranges c.requires.table

pub write_at-requires-clause-within : goal.write_at-requires-clause-within
write_at-requires-clause-within g c =
    rw c.table_byte.ensures
    (rw c.in_ok-close_gates.ensures.ran.advances.size (table_within c.args.layout.now _ c.args.table.now c.requires.layout c.requires.table))

pub returns-in_err-write_at-2-clause-ran : goal.returns-in_err-write_at-2-clause-ran
returns-in_err-write_at-2-clause-ran g c =
    let laws = g.met.D.Disk g.world.𝓛 g.world.𝓜 g.world.𝓡 ((λ s x. x), (λ x. x), (λ x. x), λ x. x) in
    let view = g.D.Disk.view in
    let old = view c.args.disk.now in
    let one = undisturbed-ran old old (view c.close_gates.new.disk) _ (undisturbed-refl old) c.in_ok-close_gates.ensures.ran in
    let two =
    undisturbed-call old (view c.close_gates.new.disk) (view c.write_at.new.self) _
    (laws.now_fits c.close_gates.new.disk) one c.in_ok-write_at.ensures.call in
    failed-call old (view c.write_at.new.self)
    (view c.write_at-2.new.self) _ c.from_residual-in_err-write_at-2.result c.from_residual-in_err-write_at-2.ensures.0
    (laws.now_fits c.write_at.new.self) two
    c.in_err-write_at-2.ensures.call

pub returns-in_err-sync-clause-ran : goal.returns-in_err-sync-clause-ran
returns-in_err-sync-clause-ran g c =
    let laws = g.met.D.Disk g.world.𝓛 g.world.𝓜 g.world.𝓡 ((λ s x. x), (λ x. x), (λ x. x), λ x. x) in
    let view = g.D.Disk.view in
    let old = view c.args.disk.now in
    let one = undisturbed-ran old old (view c.close_gates.new.disk) _ (undisturbed-refl old) c.in_ok-close_gates.ensures.ran in
    let two =
    undisturbed-call old (view c.close_gates.new.disk) (view c.write_at.new.self) _
    (laws.now_fits c.close_gates.new.disk) one c.in_ok-write_at.ensures.call in
    let three =
    undisturbed-call old (view c.write_at.new.self) (view c.write_at-2.new.self) _
    (laws.now_fits c.write_at.new.self) two c.in_ok-write_at-2.ensures.call in
    failed-call old (view c.write_at-2.new.self) (view c.sync.new.self) _ c.from_residual-in_err-sync.result c.from_residual-in_err-sync.ensures.0
    (laws.now_fits c.write_at-2.new.self) three
    c.in_err-sync.ensures.call

pub returns-clause-ran : goal.returns-clause-ran
returns-clause-ran g c =
    let laws = g.met.D.Disk g.world.𝓛 g.world.𝓜 g.world.𝓡 ((λ s x. x), (λ x. x), (λ x. x), λ x. x) in
    let view = g.D.Disk.view in
    let old = view c.args.disk.now in
    let one = undisturbed-ran old old (view c.close_gates.new.disk) _ (undisturbed-refl old) c.in_ok-close_gates.ensures.ran in
    let two =
    undisturbed-call old (view c.close_gates.new.disk) (view c.write_at.new.self) _
    (laws.now_fits c.close_gates.new.disk) one c.in_ok-write_at.ensures.call in
    let three =
    undisturbed-call old (view c.write_at.new.self) (view c.write_at-2.new.self) _
    (laws.now_fits c.write_at.new.self) two c.in_ok-write_at-2.ensures.call in
    ran-done old (view c.sync.new.self) _
    (undisturbed-call old (view c.write_at-2.new.self) (view c.sync.new.self) _ (laws.now_fits c.write_at-2.new.self) three c.in_ok-sync.ensures.call)

pub returns-clause-made : goal.returns-clause-made
returns-clause-made g c = record {
  made = λ content told.
      let laws = g.met.D.Disk g.world.𝓛 g.world.𝓜 g.world.𝓡 ((λ s x. x), (λ x. x), (λ x. x), λ x. x) in
      let view = g.D.Disk.view in
      let layout = c.args.layout.now in
      let block = c.encode.new.block in
      let shut = view c.close_gates.new.disk in
      let second =
      told_put 0 block (view c.write_at.new.self).content (view c.write_at-2.new.self).content content c.in_ok-write_at-2.ensures.ok
      (sym c.sync.ensures.content ∙ told) in
      let first = told_put c.table_byte.result c.args.table.now shut.content (view c.write_at.new.self).content second.0 c.in_ok-write_at.ensures.ok second.1 in
      let long = laws.whole c.close_gates.new.disk first.0 first.1 in
      let fits = subst (λ n. IsLayout n layout) (sym c.in_ok-close_gates.ensures.ran.advances.size) c.requires.layout in
      subst (λ (content : List ℕ). IsJustMade layout content)
      (sym (second.2 ∙ ap (put 0 block) (first.2 ∙ ap (λ at. put at c.args.table.now first.0) c.table_byte.ensures)))
      (made_by_puts layout shut.size first.0 c.args.table.now block fits long c.requires.table c.encode.ensures.spelled
      (c.in_ok-close_gates.ensures.shut first.0 first.1));
  calm = c.in_ok-sync.ensures.ok;
}
