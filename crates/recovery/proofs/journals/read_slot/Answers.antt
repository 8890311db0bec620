-- A slot is judged by its head and then by its numbers.
use Rattle.std.proofs.Common.{◌∙◌, ◌+◌, ap, refl, sym}
use Rattle.sfs_image.specs.Bytes.{u32s_at}
use Rattle.sfs_image.specs.Journal.{Head, numbers_fault}
use Rattle.sfs_image.specs.Super.{Layout}
use Rattle.recovery.proofs.OpenRead.{slot_refused, slot_found}
use Rattle.recovery.proofs.journals.read_slot.Goals as goal

pub returns-in-Some-numbers_fault-clause-err : goal.returns-in-Some-numbers_fault-clause-err
returns-in-Some-numbers_fault-clause-err g c = λ image told.
    slot_refused c.args.layout.now image c.args.stamps.now c.args.number c.layout.inside.inodes c.slot_byte.result c.in_ok-head.head c.deref.result.now
    c.in-Some-numbers_fault.at
    c.bad_journal-in-Some-numbers_fault.result
    (record {
      head_is = c.in_ok-head.ensures.ok image told;
      inodes_is = ap (λ (layout : Layout). layout.inodes) c.layout.view_is;
      gate = ap (λ (head : Head). head.gate) (sym c.head.view_is) ∙ c.if-not-head.false;
      sound = c.in_default.ensures;
      at_is = c.slot_byte.ensures;
      numbers_are =
          c.deref.ensures.value ∙ c.in_ok-numbers.ensures.ok image (c.in_ok-head.ensures.reads.unwritten.content ∙ told)
          ∙ ap (λ (head : Head). u32s_at (c.slot_byte.result + 4096) head.count image) c.head.view_is;
    })
    c.in-Some-numbers_fault.ensures c.bad_journal-in-Some-numbers_fault.ensures

pub returns-clause-ok : goal.returns-clause-ok
returns-clause-ok g c = λ image told.
    slot_found c.args.layout.now image c.args.stamps.now c.args.number c.layout.inside.inodes c.slot_byte.result c.in_ok-head.head _
    (record {
      head_is = c.in_ok-head.ensures.ok image told;
      inodes_is = ap (λ (layout : Layout). layout.inodes) c.layout.view_is;
      gate = ap (λ (head : Head). head.gate) (sym c.head.view_is) ∙ c.if-not-head.false;
      sound = c.in_default.ensures;
      at_is = c.slot_byte.ensures;
      numbers_are =
          c.in_ok-numbers.ensures.ok image (c.in_ok-head.ensures.reads.unwritten.content ∙ told)
          ∙ ap (λ (head : Head). u32s_at (c.slot_byte.result + 4096) head.count image) c.head.view_is;
    })
    (c.in_default-numbers_fault.ensures ∙ ap (numbers_fault c.layout.inside.inodes) c.deref.ensures.value) refl
    (ap (λ (head : Head). head.stamp) c.head.view_is)
