use Rattle.std.proofs.Common.{length, arith}
use Rattle.sfs_dev.proofs.Torn.{torn_after, torn_synced, torn_failed}
use Rattle.sfs_dev.proofs.steps.write_and_sync.Goals as goal

pub returns-in_err-sync-clause-torn : goal.returns-in_err-sync-clause-torn
returns-in_err-sync-clause-torn g c =
    let view = g.D.Disk.view in
    let old = view c.args.disk.now in
    let mid = view c.write_at.new.self in
    let new = view c.sync.new.self in
    let n = length c.args.bytes.now in
    λ content told counts.
    torn_after c.args.at n old mid new counts c.write_at.ensures.call.time c.sync.ensures.call.time c.write_at.ensures.images
    (torn_failed c.args.at n old mid new c.write_at.ensures.images c.in_err-sync.ensures.images)

pub returns-clause-torn : goal.returns-clause-torn
returns-clause-torn g c =
    let laws = g.met.D.Disk g.world.𝓛 g.world.𝓜 g.world.𝓡 ((λ s x. x), (λ x. x), (λ x. x), λ x. x) in
    let view = g.D.Disk.view in
    let old = view c.args.disk.now in
    let mid = view c.write_at.new.self in
    let new = view c.sync.new.self in
    let n = length c.args.bytes.now in
    λ content told counts.
    torn_after c.args.at n old mid new counts c.write_at.ensures.call.time c.sync.ensures.call.time c.write_at.ensures.images
    (torn_synced c.args.at c.args.bytes.now content old mid new (omega (arith, laws.whole c.args.disk.now content told, c.requires.within)) told
    (laws.read_is_left c.args.disk.now content told)
    c.in_ok-write_at.ensures.ok c.sync.ensures.content c.in_ok-sync.ensures.ok)
