use Rattle.std.proofs.Common.{List, ℕ, Option, length, sym, subst, ◌∙◌}
use Rattle.sfs_base.specs.Lists.{Roomy}
use Rattle.sfs_image.specs.Slot.{Row}
use Rattle.disk_tree.specs.Found.{WereReadWell}
use Rattle.disk_tree.specs.Judged.{IsReadRefusal, Refused}
use Rattle.disk_tree.specs.Rows.{AreRowLists}
use Rattle.image_check.specs.Read.{IsFirstFault}
use Rattle.image_check.proofs.FirstFaults.{first_read, within_read}
use Rattle.image_check.proofs.reading.read_image.Goals as goal

pub returns-in-Err-clause-bad : goal.returns-in-Err-clause-bad
returns-in-Err-clause-bad g c = λ image told. c.settling_fault.ensures.first image (c.in-Err.ensures.err image told)

pub tree_fault-requires : goal.tree_fault-requires
tree_fault-requires g c = within_read _ c.in-Ok.settled.layout _ c.in-Ok.ensures.count c.in-Err-read_all.fault c.in-Err-read_all.ensures.bad

pub returns-in-Err-read_all-clause-bad : goal.returns-in-Err-read_all-clause-bad
returns-in-Err-read_all-clause-bad g c = λ image told.
    let settled = c.in-Ok.ensures.ok image told in
    let layout = c.in-Ok.settled.layout in
    let records = c.in-Ok.settled.records.items in
    let mid = c.in-Ok.ensures.reads.unwritten.content ∙ told in
    subst (IsFirstFault image) (sym c.tree_fault.ensures)
    (first_read image layout records
    (record { super = settled.super; layout_is = settled.layout_is; journals = settled.journals; each = settled.records })
    c.in-Err-read_all.fault
    (subst (λ (o : Option (List ℕ)). IsReadRefusal (Refused o layout records) c.in-Err-read_all.fault) mid c.in-Err-read_all.ensures.bad))

pub returns-clause-ok : goal.returns-clause-ok
returns-clause-ok g c =
    let layout = c.in-Ok.settled.layout in
    let records = c.in-Ok.settled.records.items in
    let same = c.in-Ok.ensures.reads.unwritten.content in
    record {
      size = (g.D.Disk.view c.args.disk.now).size;
      fits = c.in-Ok.ensures.fits;
      count = c.in-Ok.ensures.count;
      well = subst (λ (o : Option (List ℕ)). WereReadWell o layout records c.in-Ok-read_all.read) same c.in-Ok-read_all.ensures.ok;
      lists =
          subst (λ (slots : List (Roomy (List (Option Row)))). AreRowLists slots (length slots) c.in_ok-rows.rows.items) c.deref.ensures.value
          c.in_ok-rows.ensures;
      settles = λ image told.
          (let settled = c.in-Ok.ensures.ok image told in
          record { super = settled.super; layout_is = settled.layout_is; journals = settled.journals; each = settled.records });
    }
