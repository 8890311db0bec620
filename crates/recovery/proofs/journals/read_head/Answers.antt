-- The head of a slot stands in its first block.
use Rattle.std.proofs.Common.{◌∙◌, ap}
use Rattle.sfs_image.specs.Bytes.{part}
use Rattle.recovery.proofs.OpenRead.{head_read, block_given}
use Rattle.sfs_dev.proofs.Runs.{none_read}
use Rattle.sfs_dev.proofs.ReadRuns.{read_call, read_well}
use Rattle.recovery.proofs.journals.read_head.Goals as goal

pub returns-clause-ok : goal.returns-clause-ok
returns-clause-ok g c = λ image told.
    c.decode_head.ensures
    ∙ head_read c.args.layout.now image c.read_at.new.into c.args.number
    (block_given _ image c.slot_byte.result 4096 c.read_at.new.into told c.read_at.auto.into c.in_ok-read_at.ensures.ok
    ∙ ap (λ at. part at 4096 image) c.slot_byte.ensures)

pub returns-clause-reads : goal.returns-clause-reads
returns-clause-reads g c =
    let laws = g.met.D.Disk g.world.𝓛 g.world.𝓜 g.world.𝓡 ((λ s x. x), (λ x. x), (λ x. x), λ x. x) in
    let view = g.D.Disk.view in
    let old = view c.args.disk.now in
    let new = view c.read_at.new.self in
    read_well old new c.decode_head.result
    (read_call old old new _ (laws.now_fits c.args.disk.now)
    (none_read old) c.in_ok-read_at.ensures.content c.in_ok-read_at.ensures.images c.in_ok-read_at.ensures.call)
