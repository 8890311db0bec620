use Rattle.std.proofs.Common.{ap, sym, subst, ◌∙◌, map, arith, rules}
use Rattle.std.specs.List.{list_any}
use Rattle.fmt_slots.specs.Fault.{Names}
use Rattle.fmt_slots.specs.declared.slot.SlotFault.{SlotFault}
use Rattle.sfs_image.specs.Inode.{Inode}
use Rattle.sfs_image.specs.SlotBlock.{slots_of, slots_fault}
use Rattle.disk_tree.specs.Blocks.{is_malformed}
use Rattle.disk_tree.proofs.SlotsRead.{no_blocks, more_slots, more_kept, seventh_broken}
use Rattle.disk_tree.proofs.blocks.slots_in.Goals as goal

pub loop-n-init : goal.loop-n-init
loop-n-init c =
    record {
      slots = c.new-list.ensures.items ∙ sym (ap (map slots_of) (no_blocks c.args.bytes.now));
      keep = ap (list_any is_malformed) (no_blocks c.args.bytes.now);
    }

pub returns-in-Bad : goal.returns-in-Bad
returns-in-Bad c =
    seventh_broken c.args.inode.now c.args.bytes.now c.copy_from_slice.new.self c.loop-n.n c.in-Bad.at (search rules)
    (omega (arith, ap (λ (i : Inode). i.size) c.inode.view_is))
    (c.copy_from_slice.ensures.after ∙ c.block_at.ensures.block)
    (subst (λ (f : SlotFault). Names f (slots_fault c.copy_from_slice.new.self)) c.in-Bad.is c.in-Err.ensures.err)

pub loop-n-preserved : goal.loop-n-preserved
loop-n-preserved c = record {
  slots =
      more_slots c.loop-n.n c.args.bytes.now c.copy_from_slice.new.self _ _ _
      (c.copy_from_slice.ensures.after ∙ c.block_at.ensures.block) c.loop-n.invariant.slots c.in_ok-push-in-Ok.ensures.items c.in-Ok.ensures.ok.1;
  keep =
      more_kept c.loop-n.n c.args.bytes.now c.copy_from_slice.new.self
      (c.copy_from_slice.ensures.after ∙ c.block_at.ensures.block) c.loop-n.invariant.keep c.in-Ok.ensures.ok.0;
}
