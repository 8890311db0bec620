-- The superblock of a disk is judged by its bytes; a disk of no blocks has none.
use Rattle.std.proofs.Common.{◌∙◌, refl, sym, ap}
use Rattle.sfs_image.specs.Super.{super_of, super_fault}
use Rattle.recovery.proofs.OpenRead.{super_read, no_super, block_given}
use Rattle.sfs_dev.proofs.Runs.{none_read}
use Rattle.sfs_dev.proofs.ReadRuns.{read_call, read_well, read_refused}
use Rattle.recovery.specs.declared.fault.RecoverFault.TheVariants.{BadSuper}
use Rattle.recovery.proofs.journals.read_layout.Goals as goal

pub returns-then-len-eq0-clause-err : goal.returns-then-len-eq0-clause-err
returns-then-len-eq0-clause-err g c = λ image told.
    let laws = g.met.D.Disk g.world.𝓛 g.world.𝓜 g.world.𝓡 ((λ s x. x), (λ x. x), (λ x. x), λ x. x) in
    no_super (g.D.Disk.view c.args.disk.now).size image (sym c.len.ensures.size ∙ c.if-len-eq0.true) (laws.whole c.args.disk.now image told)

pub returns-in-Ok-clause-ok : goal.returns-in-Ok-clause-ok
returns-in-Ok-clause-ok g c = λ image told.
    let laws = g.met.D.Disk g.world.𝓛 g.world.𝓜 g.world.𝓡 ((λ s x. x), (λ x. x), (λ x. x), λ x. x) in
    let block = block_given _ image 0 4096 c.read_at.new.into told c.read_at.auto.into c.in_ok-read_at.ensures.ok in
    let judged = ap (λ n. super_fault n c.read_at.new.into) (c.len-2.ensures.size ∙ c.in_ok-read_at.ensures.call.size)
    ∙ super_read (g.D.Disk.view c.args.disk.now).size image c.read_at.new.into (laws.whole c.args.disk.now image told) block in
    (sym judged ∙ c.in-Ok.ensures.ok.0, c.in-Ok.ensures.ok.1 ∙ ap super_of block)

pub returns-in-Err-clause-err : goal.returns-in-Err-clause-err
returns-in-Err-clause-err g c = λ image told.
    let laws = g.met.D.Disk g.world.𝓛 g.world.𝓜 g.world.𝓡 ((λ s x. x), (λ x. x), (λ x. x), λ x. x) in
    let block = block_given _ image 0 4096 c.read_at.new.into told c.read_at.auto.into c.in_ok-read_at.ensures.ok in
    let judged = ap (λ n. super_fault n c.read_at.new.into) (c.len-2.ensures.size ∙ c.in_ok-read_at.ensures.call.size)
    ∙ super_read (g.D.Disk.view c.args.disk.now).size image c.read_at.new.into (laws.whole c.args.disk.now image told) block in
    sym judged ∙ c.in-Err.ensures.err

pub returns-in-Ok-clause-reads : goal.returns-in-Ok-clause-reads
returns-in-Ok-clause-reads g c =
    let laws = g.met.D.Disk g.world.𝓛 g.world.𝓜 g.world.𝓡 ((λ s x. x), (λ x. x), (λ x. x), λ x. x) in
    let old = g.D.Disk.view c.args.disk.now in
    let new = g.D.Disk.view c.read_at.new.self in
    read_well old new c.in-Ok.layout
    (read_call old old new _ (laws.now_fits c.args.disk.now)
    (none_read old) c.in_ok-read_at.ensures.content c.in_ok-read_at.ensures.images c.in_ok-read_at.ensures.call)

pub returns-in-Err-clause-reads : goal.returns-in-Err-clause-reads
returns-in-Err-clause-reads g c =
    let laws = g.met.D.Disk g.world.𝓛 g.world.𝓜 g.world.𝓡 ((λ s x. x), (λ x. x), (λ x. x), λ x. x) in
    let old = g.D.Disk.view c.args.disk.now in
    let new = g.D.Disk.view c.read_at.new.self in
    read_refused old new (BadSuper c.in-Err.bad.at) refl
    (read_call old old new _ (laws.now_fits c.args.disk.now)
    (none_read old) c.in_ok-read_at.ensures.content c.in_ok-read_at.ensures.images c.in_ok-read_at.ensures.call)
