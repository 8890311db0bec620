use Rattle.std.proofs.Common.{◌≡◌, ℕ, cond, leb, ltb, ◌&&◌, ◌≤◌, max, Some, None, length, get_or}
use Rattle.mem_files.proofs.file.FileBytes.mark.Given as goal

abbrev pub invariant-loop-block : goal.invariant-loop-block
invariant-loop-block l = record {
  passed : l.block ≤ max l.fn.touched.first l.fn.touched.end;
  size : l.self-inside.size ≡ l.initial.self-inside.size;
  pages : l.self-inside.pages.items ≡ l.initial.self-inside.pages.items;
  long : length l.self-inside.marks.items ≡ length l.fn.self.marks;
  marks : (block : ℕ)
      → get_or l.self-inside.marks.items block None
      ≡ cond (leb l.fn.touched.first block && ltb block l.block) (Some l.stamp) (get_or l.fn.self.marks block None);
}
