-- The members of an fsync's closure are directories, but for its own node.
use Rattle.std.proofs.Common.{◌≡◌, ℕ, Bool, true, false, List, take, Some, None, ◌⊎◌, inl, inr, refl, sym, subst, ◌∙◌}
use Rattle.tree_laws.specs.declared.history.Entry.{Entry}
use Rattle.tree_laws.specs.Tree.{TreeState, is_directory}
use Rattle.tree_laws.specs.Changes.{RowChange, added}
use Rattle.tree_laws.specs.Sound.{Above}
use Rattle.tree_laws.specs.History.{tree_after, IsLegal}
use Rattle.tree_laws.specs.Laws.{IsSoundTree}
use Rattle.tree_laws.proofs.KeepsNodes.{directory_node}
use Rattle.cut_laws.specs.Cut.{Cut}
use Rattle.cut_laws.specs.Rules.{IsOneOf, IsChange, Birth, births_of}
use Rattle.cut_laws.specs.Closure as closure
use Rattle.cut_laws.specs.Closure.{Counts, Flush, Closure, IsConcerned}
use Rattle.cut_laws.specs.LawsInodes.{MembersAreDirectories, FilesFlushThemselves}
use Rattle.sfs_base.proofs.BasicTruth.{not_both}
use Rattle.cut_laws.proofs.Runs.{Run, Made}
use Rattle.cut_laws.proofs.Along.{effect_at, made_at, nodes_at, run_of, sound_at, tree_at, tree_at-after, tree_at-first}
use Rattle.cut_laws.proofs.Lives.{live_at, ended_at}
use Rattle.cut_laws.proofs.Commit.{IsBornAt, birth_at}
use Rattle.cut_laws.proofs.Members.{other_changes, above_directory}

module _ (first : TreeState) (history : List Entry) (is : IsSoundTree first) (legal : IsLegal first history) where
  abbrev run : Run
  run = run_of first history is legal

  abbrev IsDirectory : ℕ → Type 0
  IsDirectory node = is_directory (tree_after first history) node ≡ true

  -- a directory of one of the trees is one of the last
  pub still_directory : (t node : ℕ) → is_directory (tree_at first history t) node ≡ true → IsDirectory node
  still_directory t node kind = (nodes_at first history t is legal node (directory_node (tree_at first history t) node kind)).1 ∙ kind

  pub root_directory : IsDirectory 0
  root_directory = still_directory 0 0 (rw (tree_at-first first history) is.sound.root)

  -- what changes is a directory
  pub own_directory : (t : ℕ) (x : RowChange) → Made run t x → IsDirectory x.directory
  own_directory t x one = still_directory t x.directory (live_at run t x one).kind

  -- so is where a node is made
  birth_directory : (birth : Birth) → IsOneOf (births_of first history) birth → IsDirectory birth.directory
  birth_directory birth one = own_directory birth.stamp (added birth.stamp birth.directory born.name birth.node None) (rw born.adds (inl refl))
    where
      born : IsBornAt first history birth birth.stamp
      born = birth_at first history birth legal one

  -- and the other side of a rename, what a change ends, and those above what changes
  other_directory : (change : RowChange) (other : ℕ) → IsChange first history change → change.other ≡ Some other → IsDirectory other
  other_directory change other one two =
      let own =
      other_changes (tree_at first history change.stamp) change.stamp (effect_at first history change.stamp) change other
      (made_at first history is legal change one) two in
      rw own.2 at (own_directory change.stamp own.0 own.1)

  ended_directory : (change : RowChange) → IsChange first history change → change.ends ≡ true → IsDirectory change.child
  ended_directory change one ends =
      still_directory change.stamp change.child (ended_at run change.stamp change (made_at first history is legal change one) ends).kind

  directory_above : (change : RowChange) (above : List ℕ) (node : ℕ) → Above (tree_after first (take change.stamp history)) change.directory above
      → IsOneOf above node → IsDirectory node
  directory_above change above node way among =
      still_directory change.stamp node
      (above_directory (tree_at first history change.stamp) (sound_at first history 0 change.stamp is legal)
      (subst (λ (tree : TreeState). Above tree change.directory above) (sym (tree_at-after first history change.stamp)) way) node among)

  module _ (counts : Counts) (cut : Cut) (inodes : ℕ → Bool) (flush : Flush) where
    pub member_directory : {node : ℕ} → Closure first history counts cut inodes flush node → (node ≡ flush.node) ⊎ IsDirectory node
    member_directory closure.itself = inl refl
    member_directory (closure.other_side change other own span two) = inr (other_directory change other span.is_change two)
    member_directory (closure.ended change own span ends) = inr (ended_directory change span.is_change ends)
    member_directory (closure.ancestor change above node own span move way among) = inr (directory_above change above node way among)
    member_directory (closure.birth_place birth own one none naming) = inr (birth_directory birth one)

    -- a file with an inode is the one member of its own fsync, and concerns no other node
    module _ (file : is_directory (tree_after first history) flush.node ≡ false) (has : inodes flush.node ≡ true) where
      no_change : (change : RowChange) → IsChange first history change → change.directory ≡ flush.node → ⊥
      no_change change one same = not_both (rw same at (own_directory change.stamp change (made_at first history is legal change one))) file

      pub member_alone : {node : ℕ} → Closure first history counts cut inodes flush node → node ≡ flush.node
      member_alone closure.itself = refl
      member_alone (closure.other_side change other own span two) = absurd (no_change change span.is_change (member_alone own))
      member_alone (closure.ended change own span ends) = absurd (no_change change span.is_change (member_alone own))
      member_alone (closure.ancestor change above node own span move way among) = absurd (no_change change span.is_change (member_alone own))
      member_alone (closure.birth_place birth own one none naming) = absurd (not_both (rw (member_alone own) has) none)

      pub concerned_alone : (node : ℕ) → IsConcerned first history counts cut inodes flush node → node ≡ flush.node
      concerned_alone node (closure.member _ own) = member_alone own
      concerned_alone _ (closure.named change own span) = absurd (no_change change span.is_change (member_alone own))

pub members_are_directories : MembersAreDirectories
members_are_directories first history counts cut inodes flush node is legal own = member_directory first history is legal counts cut inodes flush own

pub files_flush_themselves : FilesFlushThemselves
files_flush_themselves first history counts cut inodes flush node is legal file has concerned =
    concerned_alone first history is legal counts cut inodes flush file has node concerned
