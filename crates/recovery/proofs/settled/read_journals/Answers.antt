-- Reads one after another of a disk that stays as it is.
use Rattle.std.proofs.Common.{◌∙◌, ap, sym, subst, List}
use Rattle.std.specs.List.{AllByRecursion}
use Rattle.sfs_image.specs.Settled.{Body, table_record}
use Rattle.recovery.specs.declared.journals.OpenSlot.{OpenSlot}
use Rattle.recovery.specs.Open.{IsOpenSlot}
use Rattle.recovery.specs.Settling.{AreSettled, best_of, bodies_read}
use Rattle.recovery.proofs.OpenRead.{none_wrong}
use Rattle.recovery.proofs.SettledRead.{bodies_are}
use Rattle.recovery.proofs.settled.read_journals.Goals as goal

pub returns-clause-ok : goal.returns-clause-ok
returns-clause-ok g c = λ image told.
    let layout = c.in_ok-layout.ensures.ok image told in
    let first = c.in_ok-layout.ensures.reads.unwritten.content ∙ told in
    let opened = c.in_ok-open.ensures.ok image first in
    let second = c.in_ok-open.ensures.reads.unwritten.content ∙ first in
    let table = c.in_ok-newest.ensures.ok image second in
    let third = c.in_ok-newest.ensures.reads.unwritten.content ∙ second in
    let settled = c.in_ok-settle.ensures.ok image third in
    record {
      super = layout.0;
      layout_is = layout.1;
      journals = none_wrong c.in_ok-layout.layout image c.in_ok-open.open.items opened;
      open_slots = opened;
      settled =
          subst (λ (bodies : List Body). AreSettled c.in_ok-layout.layout.inodes (table_record c.in_ok-layout.layout image)
          (best_of bodies) c.settle.new.newest)
          (ap (bodies_read c.in_ok-layout.layout image) c.deref.ensures.value ∙ bodies_are c.in_ok-layout.layout image c.in_ok-open.open.items opened)
          (settled
          (subst (λ (found : List OpenSlot). AllByRecursion (IsOpenSlot c.in_ok-layout.layout image) found) (sym c.deref.ensures.value) opened.each) table);
    }
