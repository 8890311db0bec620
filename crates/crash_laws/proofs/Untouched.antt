-- Disks to which nothing was written.
use Rattle.std.proofs.Common.{◌≡◌, ℕ, ◌-◌, ◌^◌, ◌<◌, ◌≤◌, List, inl, refl, sym, subst, ◌∙◌, arith}
use Rattle.sfs_base.proofs.BasicNumbers.{le_itself}
use Rattle.sfs_dev.specs.Disk.{View}
use Rattle.image_laws.specs.Image.{IsReadAsTree}
use Rattle.crash_laws.specs.Laws.{DisksStay, PastIsKept, ReadsWriteNothing, NothingIsACommit}
use Rattle.crash_laws.proofs.Numbers.{less_or_same}
use Rattle.crash_laws.proofs.Shapes.{read_as}

pub disks_stay : (disk : View) → DisksStay disk
disks_stay disk = record {
  keeps = record { later = le_itself disk.now; past = λ k image before left. left };
  moments = λ k image since le left. subst (λ (moment : ℕ). disk.crash_images moment image) (same k since le) left;
  content = refl;
}
  where
    same : (k : ℕ) → disk.now ≤ k → k ≤ disk.now → k ≡ disk.now
    same k since le = omega arith

pub past_is_kept : (old new : View) → PastIsKept old new
past_is_kept old new counts advances = record {
  later = advances.later;
  past = λ k image before left. (advances.past k image (within k before) (less_or_same before)).0 left;
}
  where
    within : (k : ℕ) → k < old.now → k < 2 ^ 64 - 1
    within k before = let later = advances.later in omega arith

pub reads_write_nothing : (old new : View) → ReadsWriteNothing old new
reads_write_nothing old new counts advances unwritten = record {
  keeps = past_is_kept old new counts advances;
  moments = unwritten.at_each_moment counts;
  content = unwritten.content;
}

pub nothing_is_a_commit : (old new : View) → NothingIsACommit old new
nothing_is_a_commit old new share before after wrote holds same = record {
  keeps = wrote.keeps;
  moments = λ k image since le left. inl (read image (holds.left image (wrote.moments k image since le left)));
  makes = record {
    not_before = le_itself old.now;
    not_after = wrote.keeps.later;
    holds = record {
      left = λ image left. read image (holds.left image (wrote.moments new.now image wrote.keeps.later (le_itself new.now) left));
      told = λ content told. read content (holds.told content (sym wrote.content ∙ told));
    };
  };
}
  where
    read : (image : List ℕ) → IsReadAsTree image share before → IsReadAsTree image share after
    read image = read_as image share before after same
