-- What was read and judged is the image's.
use Rattle.std.proofs.Common.{◌∙◌, ℕ, List, Option, ap, sym, subst}
use Rattle.sfs_base.specs.Lists.{Roomy}
use Rattle.disk_tree.specs.Found.{IsFoundIn}
use Rattle.disk_tree.specs.Judged.{Refused}
use Rattle.disk_tree.specs.Told.{SettlesRecords}
use Rattle.disk_tree.proofs.ToldRead.{found_is_the_images}
use Rattle.sfs_dev.proofs.Runs.{none_read}
use Rattle.sfs_dev.proofs.ReadRuns.{read_more, read_well}
use Rattle.recovery.specs.Judging.{IsFaultOf, IsTreeRefusal}
use Rattle.recovery.specs.Recovering.{AreNewestOf}
use Rattle.sfs_image.specs.ImageOf.{transaction_in, table_parts}
use Rattle.recovery.proofs.BegunFrom.{newest_were_read}
use Rattle.recovery.proofs.JudgedImage.{tree_fault_is, has_no_fault}
use Rattle.recovery.proofs.ReadRuns.{passed_on}
use Rattle.recovery.proofs.SettledRead.{settled_are}
use Rattle.recovery.proofs.judged.judge.Goals as goal

pub returns-in_err-found-clause-bad : goal.returns-in_err-found-clause-bad
returns-in_err-found-clause-bad g c = λ image told.
    let were = c.in_ok-journals.ensures.ok image told in
    let layout = c.in_ok-journals.journals.layout in
    let records = c.from_vec-records.result.items in
    let settles : SettlesRecords image layout records = record {
      super = were.super;
      layout_is = were.layout_is;
      journals = were.journals;
      each = settled_are image c.in_ok-journals.journals _ were (ap (λ list. list.items) c.from_vec-records.ensures);
    } in
    let mid = c.in_ok-journals.ensures.reads.unwritten.content ∙ told in
    passed_on c.from_residual-in_err-found.result c.in_err-found.field-0.0 (IsFaultOf image) c.from_residual-in_err-found.ensures.1
    (tree_fault_is image layout records settles c.in_err-found.field-0.0
    (subst (λ (o : Option (List ℕ)). IsTreeRefusal (Refused o layout records) c.in_err-found.field-0.0) mid c.in_err-found.ensures.bad))

pub returns-clause-ok : goal.returns-clause-ok
returns-clause-ok g c = λ image told.
    let were = c.in_ok-journals.ensures.ok image told in
    let layout = c.in_ok-journals.journals.layout in
    let records = c.from_vec-records.result.items in
    let items = ap (λ (list : Roomy (List ℕ)). list.items) c.from_vec-records.ensures in
    let settles : SettlesRecords image layout records = record {
      super = were.super;
      layout_is = were.layout_is;
      journals = were.journals;
      each = settled_are image c.in_ok-journals.journals _ were items;
    } in
    let mid = c.in_ok-journals.ensures.reads.unwritten.content ∙ told in
    let found = found_is_the_images image layout records c.in_ok-found.found settles
    (subst (λ (o : Option (List ℕ)). IsFoundIn o layout records c.in_ok-found.found) mid c.in_ok-found.ensures.ok) in
    record {
      faultless = has_no_fault image 0 c.in_ok-found.found.tree found.tree;
      settles = settles;
      open_slots = were.open_slots;
      newest = λ stands.
          subst (AreNewestOf layout (transaction_in layout image) (table_parts layout image) c.in_ok-journals.journals.newest.stamps.items) (sym items)
          (newest_were_read layout image stands c.in_ok-journals.journals.newest were.settled);
      found = found;
    }

pub returns-clause-reads : goal.returns-clause-reads
returns-clause-reads g c =
    let view = g.D.Disk.view in
    let old = view c.args.disk.now in
    let mid = view c.read_journals.new.disk in
    let new = view c.find_tree.new.disk in
    read_well old new _ (read_more old mid new _ (read_more old old mid _ (none_read old) c.in_ok-journals.ensures.reads) c.in_ok-found.ensures.reads)
