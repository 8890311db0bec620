use Rattle.std.proofs.Common.{ℕ, List, Option, ◌+◌, ◌<◌, sym, subst, arith}
use Rattle.block_map.specs.Kept.{block_kept}
use Rattle.sfs_image.specs.Seen.{FILE_BLOCKS}
use Rattle.disk_tree.specs.Reading.{IsReadBlock, HasContent}
use Rattle.disk_tree.proofs.ContentRead.{more_content, block_named}
use Rattle.sfs_dev.proofs.ReadRuns.{read_more_by}
use Rattle.disk_tree.proofs.gather.read_content.Goals as goal

pub loop-n-preserved : goal.loop-n-preserved
loop-n-preserved g c =
    let below : c.loop-n.n < FILE_BLOCKS = omega arith in
    let named = block_named c.args.inode.now c.args.tables.now.items c.loop-n.n c.block_at.result below c.block_at.ensures in
    let same = c.loop-n.invariant.run.unwritten.content in
    let read : IsReadBlock (g.D.Disk.view c.args.disk.now).content (block_kept c.args.inode.now c.args.tables.now.items c.loop-n.n) c.read_block.new.block =
    subst (λ (pointer : ℕ). IsReadBlock (g.D.Disk.view c.args.disk.now).content pointer c.read_block.new.block) named
    (subst (λ (told : Option (List ℕ)). IsReadBlock told c.block_at.result c.read_block.new.block) same c.in_ok-read_block.ensures.ok) in
    record {
      run = read_more_by _ _ _ c.read_block.result _ c.loop-n.invariant.run c.in_ok-read_block.was c.read_block.ensures.reads;
      content = subst (λ (bytes : List ℕ). HasContent (g.D.Disk.view c.args.disk.now).content c.args.inode.now c.args.tables.now.items (c.loop-n.n + 1) bytes)
          (sym c.in_ok-extend_from_slice.ensures.items)
          (more_content _ c.args.inode.now c.args.tables.now.items c.loop-n.n c.loop-n.bytes.items c.read_block.new.block c.loop-n.invariant.content
          (omega (arith, c.read_block.array_long)) read);
    }
