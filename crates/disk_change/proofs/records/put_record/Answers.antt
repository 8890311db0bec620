use Rattle.std.proofs.Common.{refl, sym, ap, ◌∙◌, map, Some, None}
use Rattle.std.proofs.lemmas.Bool.{cond-false}
use Rattle.disk_change.specs.Lists.{put_over, put_if}
use Rattle.disk_change.specs.Records.{same_inode, record_keyed, record_inode}
use Rattle.disk_change.proofs.Ascending.{put_keyed}
use Rattle.disk_change.proofs.records.put_record.Goals as goal

pub returns : goal.returns
returns c =
    let entries = map record_keyed c.args.records.now.entries in
    let unlike = sym c.same_inode.ensures ∙ c.if-same_inode.false in
    ap (map record_keyed) c.in_ok-insert.ensures.entries ∙ put_keyed record_keyed record_inode (λ e. refl) c.args.records.now.entries c.args.number _
    ∙ (λ i. put_over record_inode (record { inode = c.args.number; bytes = c.encode.ensures.spelled i }) entries)
    ∙ ap (λ o. put_if record_inode o entries) (sym (cond-false (same_inode c.args.before.now c.args.after.now) None (Some _) unlike))
