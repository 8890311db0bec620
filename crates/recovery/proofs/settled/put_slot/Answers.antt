-- The records that are read are those of the slot's body.
use Rattle.std.proofs.Common.{◌≡◌, ◌*◌, ◌+◌, ◌∙◌, List, ℕ, length, ap, sym, subst, arith}
use Rattle.sfs_image.specs.Bytes.{part}
use Rattle.sfs_image.specs.Settled.{Body}
use Rattle.sfs_image.specs.Super.{Layout}
use Rattle.recovery.specs.Settling.{AreSettled, with_body, packed_body}
use Rattle.recovery.proofs.SettledRead.{records_within, records_lie, body_same}
use Rattle.recovery.proofs.settled.put_slot.Goals as goal

pub read_bytes-requires-clause-within : goal.read_bytes-requires-clause-within
read_bytes-requires-clause-within g c κs within =
    records_within c.args.layout.now (g.D.Disk.view c.args.disk.now).size c.args.one.now _ c.len.result c.requires.layout c.requires.good
    (records_lie c.args.layout.now c.args.one.now c.layout.inside.inodes c.slot_byte.result c.record_place-place.result.block c.record_place-place.result.byte
    c.from.result c.from-2.result
    (ap (λ (layout : Layout). layout.inodes) c.layout.view_is) c.slot_byte.ensures c.from.ensures c.from-2.ensures c.record_place-place.ensures.place)
    (let e = c.len.ensures in omega (arith, c.args.one.now.numbers.ok.0))

pub returns-clause-ok : goal.returns-clause-ok
returns-clause-ok g c = λ image told slot table best are.
    let stamps : length c.args.newest.now.stamps.items ≡ c.args.layout.now.inodes = c.requires.counts.stamps in
    let count : c.len.result ≡ length c.args.one.now.numbers.items = let e = c.len.ensures in omega (arith, c.args.one.now.numbers.ok.0) in
    let lie =
    records_lie c.args.layout.now c.args.one.now c.layout.inside.inodes c.slot_byte.result c.record_place-place.result.block
    c.record_place-place.result.byte c.from.result c.from-2.result
    (ap (λ (layout : Layout). layout.inodes) c.layout.view_is) c.slot_byte.ensures c.from.ensures c.from-2.ensures c.record_place-place.ensures.place in
    let bytes =
    c.deref-2.ensures.value ∙ c.in_ok-bytes.ensures.ok image told
    ∙ ap (λ n. part (c.slot_byte.result + 4096 * c.from.result + c.from-2.result) (512 * n) image) count in
    subst (λ (body : Body). AreSettled c.args.layout.now.inodes table (with_body body best) c.put_all.new.newest)
    (ap (λ (numbers : List ℕ). packed_body c.args.one.now.stamp numbers c.deref-2.result.now) c.deref.ensures.value
    ∙ body_same c.args.layout.now image c.deref-2.result.now c.args.one.now
    (c.slot_byte.result + 4096 * c.from.result + c.from-2.result) slot c.requires.good lie bytes)
    (subst (λ n. AreSettled n table (with_body (packed_body c.args.one.now.stamp c.deref.result.now c.deref-2.result.now) best) c.put_all.new.newest) stamps
    (c.put_all.ensures.settled table best (subst (λ n. AreSettled n table best c.args.newest.now) (sym stamps) are)))
