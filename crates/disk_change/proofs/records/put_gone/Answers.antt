use Rattle.std.proofs.Common.{◌≡◌, subst, map, OnOk}
use Rattle.disk_change.specs.Lists.{put_if}
use Rattle.disk_change.specs.Records.{RecordChange, record_keyed, record_inode, record_written}
use Rattle.disk_change.proofs.records.put_gone.Goals as goal

pub returns : goal.returns
returns c =
    subst (λ (change : RecordChange). OnOk c.put_record.result
    (map record_keyed c.put_record.new.records.entries ≡ put_if record_inode (record_written change) (map record_keyed c.args.records.now.entries)))
    (λ i. record { number = (c.entry.view_is i).old.number; before = (c.entry.view_is i).old.kept.inode; after = c.free.ensures i }) c.put_record.ensures
