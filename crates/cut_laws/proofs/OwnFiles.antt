-- An fsync of a live file that has an inode leaves all inodes.
use Rattle.std.proofs.Common.{◌≡◌, ℕ, ◌<◌, ◌≤◌, Bool, true, false, List, inl, inr, refl, arith}
use Rattle.std.specs.FinMap.{empty}
use Rattle.tree_laws.specs.declared.history.Entry.{Entry}
use Rattle.tree_laws.specs.Tree.{TreeState, is_alive, is_directory}
use Rattle.tree_laws.specs.History.{tree_after, IsLegal}
use Rattle.tree_laws.specs.Laws.{IsSoundTree}
use Rattle.tree_laws.proofs.RowFacts.{alive_named}
use Rattle.cut_laws.specs.Cut.{Cut, cut_of}
use Rattle.cut_laws.specs.Closure.{every_entry, Flush, IsConcerned, IsRaised, IsDead, AreInodesAfter}
use Rattle.cut_laws.specs.LawsInodes.{IsNeverNamed, FilesKeepInodes}
use Rattle.sfs_base.proofs.BasicTruth.{not_both}
use Rattle.cut_laws.proofs.Along.{change_in, made_at, tree_at, tree_at-after}
use Rattle.cut_laws.proofs.Recount.{named_or_open}
use Rattle.cut_laws.proofs.Lists.{first_row}
use Rattle.cut_laws.proofs.WholeHistory.{none_above}
use Rattle.cut_laws.proofs.NamedKept.{row_before}
use Rattle.cut_laws.proofs.MemberKinds.{root_directory, own_directory, member_alone, concerned_alone}
use Rattle.cut_laws.proofs.KeptInodes.{dead_unnamed}

module _ (first : TreeState) (history : List Entry) (is : IsSoundTree first) (legal : IsLegal first history) where
  -- what is alive at a stamp is the root, or something names it
  pub live_named : (t node : ℕ) → is_directory (tree_after first history) node ≡ false → is_alive (tree_at first history t) node ≡ true
      → is_directory (tree_after first history) 0 ≡ true → IsNeverNamed first history node → ⊥
  live_named t node file alive root never = elim (alive_named (tree_at first history t) node alive) [
    | inl same ↦ not_both root (rw same at file)
    | inr named ↦ elim (named_or_open first history is legal t empty (none_above t) node named) [
      | inl there ↦ never.rows (first_row first history node there)
      | inr o ↦ never.changes o.change (change_in first history o.stamp o.change legal o.made) o.child
    ]
  ]

  module _ (cut raised : Cut) (inodes after : ℕ → Bool) (flush : Flush) (raise : IsRaised first history every_entry cut inodes flush raised)
      (sets : AreInodesAfter first history every_entry cut inodes flush raised after) (file : is_directory (tree_after first history) flush.node ≡ false)
      (has : inodes flush.node ≡ true) where
    -- no directory's stamp moves
    same_stamp : (d : ℕ) → is_directory (tree_after first history) d ≡ true → cut_of raised d ≡ cut_of cut d
    same_stamp d kind = elim (raise.other d) [
      | inl own ↦ absurd (not_both kind (rw (member_alone first history is legal every_entry cut inodes flush file has own) file))
      | inr same ↦ same
    ]

    -- so where the file is dead it was dead before
    was_dead : IsDead first history every_entry raised flush.node → IsDead first history every_entry cut flush.node
    was_dead dead = record {
      no_root = dead.no_root;
      unnamed =
          λ named. elim (row_before first history every_entry flush cut raised inodes is legal
          (λ t lt. refl) raise named.directory named.name flush.node named.row) [
            | inl still ↦ dead.unnamed (record { directory = named.directory; name = named.name; row = still })
            | inr b ↦
                no_less (cut_of cut b.change.directory) (cut_of raised b.change.directory) b.stamp
                (same_stamp b.change.directory (own_directory first history is legal b.stamp b.change b.made)) b.from b.below
          ];
      flushed = λ change one counted child.
          let lt = dead.flushed change one counted child in
          rw (same_stamp change.directory (own_directory first history is legal change.stamp change (made_at first history is legal change one))) at lt;
    }
      where
        no_less : (a b t : ℕ) → b ≡ a → a ≤ t → t < b → ⊥
        no_less a b t e le lt = omega arith

    keeps_inodes : (IsDead first history every_entry cut flush.node → ⊥) → (node : ℕ) → after node ≡ inodes node
    keeps_inodes lives node = elim (inodes node) as (λ b. inodes node ≡ b → after node ≡ b) [
      | false ↦ λ lacks. elim (after node) as (λ b. after node ≡ b → b ≡ false) [
        | true ↦ λ came. absurd (not_both (rw (alone node ((sets.enters node lacks).0 came).0) has) lacks)
        | false ↦ λ _. refl
      ] refl
      | true ↦ λ had. elim (after node) as (λ b. after node ≡ b → b ≡ true) [
        | true ↦ λ _. refl
        | false ↦ λ gone. let left = (sets.leaves node had).0 gone in absurd (lives (was_dead (rw (alone node left.0) at left.1)))
      ] refl
    ] refl
      where
        alone : (node : ℕ) → IsConcerned first history every_entry cut inodes flush node → node ≡ flush.node
        alone node concerned = concerned_alone first history is legal every_entry cut inodes flush file has node concerned

pub files_keep_inodes : FilesKeepInodes
files_keep_inodes first history flushes cut raised inodes after flush node is legal flushed raise sets live file has =
    keeps_inodes first history is legal cut raised inodes after flush raise sets file has (λ dead.
    live_named first history is legal flush.stamp flush.node file (rw (tree_at-after first history flush.stamp) live) (root_directory first history is legal)
    (dead_unnamed first history is legal flushed flush.node has dead))
    node
