use Rattle.std.proofs.Common.{Option, ℕ, [], length, subst, arith}
use Rattle.disk_tree.specs.First.{FindsFirst, IsFirst}
use Rattle.disk_tree.specs.Ordered.{breaks_numbered}
use Rattle.disk_tree.proofs.RulesOrdered.{breaks_at, kept_8, kept_9, kept_10}
use Rattle.disk_tree.proofs.ordered.judge_rows.Goals as goal

pub returns-in-Some-first_with_full_bucket-clause-bad : goal.returns-in-Some-first_with_full_bucket-clause-bad
returns-in-Some-first_with_full_bucket-clause-bad c =
    let inodes = c.args.inodes.now in
    let rows = c.args.rows.now in
    let eighth = subst (λ (o : Option ℕ). FindsFirst (length rows) (breaks_numbered inodes rows [] 8) o) c.in_default.is c.in_ok-inode.ensures in
    breaks_at inodes rows 9 c.in-Some-first_with_full_bucket.inode (omega arith) (omega arith) (kept_8 inodes rows c.requires.count eighth)
    (subst
    (λ (n : ℕ). IsFirst n (breaks_numbered inodes rows [] 9) c.in-Some-first_with_full_bucket.inode) c.requires.count
    c.in-Some-first_with_full_bucket.ensures)

pub returns-in-Some-first_with_misplaced_row-clause-bad : goal.returns-in-Some-first_with_misplaced_row-clause-bad
returns-in-Some-first_with_misplaced_row-clause-bad c =
    let inodes = c.args.inodes.now in
    let rows = c.args.rows.now in
    let eighth = subst (λ (o : Option ℕ). FindsFirst (length rows) (breaks_numbered inodes rows [] 8) o) c.in_default.is c.in_ok-inode.ensures in
    breaks_at inodes rows 10 c.in-Some-first_with_misplaced_row.inode (omega arith) (omega arith)
    (kept_9 inodes rows c.requires.count eighth c.in_default-first_with_full_bucket.ensures)
    (subst
    (λ (n : ℕ). IsFirst n (breaks_numbered inodes rows [] 10) c.in-Some-first_with_misplaced_row.inode) c.requires.count
    c.in-Some-first_with_misplaced_row.ensures)

pub returns-in-Some-first_that_names_root-clause-bad : goal.returns-in-Some-first_that_names_root-clause-bad
returns-in-Some-first_that_names_root-clause-bad c =
    let inodes = c.args.inodes.now in
    let rows = c.args.rows.now in
    let eighth = subst (λ (o : Option ℕ). FindsFirst (length rows) (breaks_numbered inodes rows [] 8) o) c.in_default.is c.in_ok-inode.ensures in
    breaks_at inodes rows 11 c.in-Some-first_that_names_root.inode (omega arith) (omega arith)
    (kept_10 inodes rows c.requires.count eighth c.in_default-first_with_full_bucket.ensures c.in_default-first_with_misplaced_row.ensures)
    (subst
    (λ (n : ℕ). IsFirst n (breaks_numbered inodes rows [] 11) c.in-Some-first_that_names_root.inode) c.requires.count
    c.in-Some-first_that_names_root.ensures)
