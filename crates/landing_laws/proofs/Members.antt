-- The members that an fsync gathers are directories, but for its own node.
use Rattle.std.specs.FinMap.{empty, get-empty}
use Rattle.std.proofs.Common.{◌≡◌, ◌⊎◌, ◌≤◌, ℕ, false, refl, arith, true, ap, Option, unwrap_or, nat_cmp}
use Rattle.tree_laws.specs.Tree.{is_directory}
use Rattle.tree_laws.specs.History.{tree_after}
use Rattle.cut_laws.specs.Closure.{Closure, every_entry, InSpan, HasNaming}
use Rattle.cut_laws.specs.Closure as closure
use Rattle.cut_laws.specs.Cut.{cut_of}
use Rattle.cut_laws.proofs.MemberKinds.{member_directory}
use Rattle.look_laws.specs.Look.{Noted, InSight, SeesNaming, Gathers, itself, other_side, ended, ancestor, birth_place, member}
use Rattle.beside_laws.specs.Commits.{CoreCommit, HasNotes, commit_fsync}
use Rattle.note_laws.specs.Run.{TableRun, IsTableRun, calls_of}

module _ (run : TableRun) (is : IsTableRun run) (commit : CoreCommit) (notes : HasNotes run.first (calls_of run) commit) where
  -- a member of the fsync's closure in the history, where no cut is above 0 and no node has an inode: what members are does not depend on these
  abbrev IsClosed : ℕ → Type 0
  IsClosed node = Closure run.first (calls_of run) every_entry empty (λ _. false) (commit_fsync commit) node

  -- no cut is above any stamp there
  no_cut : (node stamp : ℕ) → cut_of empty node ≤ stamp
  no_cut node stamp = let none : cut_of empty node ≡ 0 = ap (λ (o : Option ℕ). unwrap_or o 0) (get-empty nat_cmp node) in omega (arith, none)

  -- a change in sight is in its span
  span_of : (one : Noted) → InSight commit.look one → InSpan run.first (calls_of run) every_entry empty (commit_fsync commit).stamp one.change
  span_of one sight = record {
    is_change = (notes.truths one sight.is_noted).is_change;
    counted = refl;
    from = no_cut one.change.directory one.change.stamp;
    below = sight.below;
  }

  -- a node that has a naming which the fsync sees has one
  naming_of : (node : ℕ) → SeesNaming commit.look commit.look.cut node → HasNaming run.first (calls_of run) every_entry empty node
  naming_of node sees = record {
    change = sees.noted.change;
    is_change = (notes.truths sees.noted sees.is_noted).is_change;
    counted = refl;
    child = sees.child;
    unflushed = no_cut sees.noted.change.directory sees.noted.change.stamp;
  }

  -- what is gathered is in the closure there
  gathered_closed : {node : ℕ} → Gathers commit.look node → IsClosed node
  gathered_closed itself = closure.itself
  gathered_closed (other_side one other own sight two) = closure.other_side one.change other (gathered_closed own) (span_of one sight) two
  gathered_closed (ended one own sight ends) = closure.ended one.change (gathered_closed own) (span_of one sight) ends
  gathered_closed (ancestor one node own sight among) =
      let true_one = notes.truths one sight.is_noted in
      closure.ancestor one.change one.above node (gathered_closed own) (span_of one sight) (true_one.moves node among) (true_one.stands node among) among
  gathered_closed (birth_place born own one lacks sees) =
      let birth = (notes.born born.node born.directory (member born.node own)).0 one in
      closure.birth_place (record { stamp = birth.0; directory = born.directory; node = born.node }) (gathered_closed own) birth.1 refl
      (naming_of born.node sees)

  -- so each member but the fsync's own node is a directory
  pub gathered_directory : (node : ℕ) → Gathers commit.look node
      → (node ≡ (commit_fsync commit).node) ⊎ (is_directory (tree_after run.first (calls_of run)) node ≡ true)
  gathered_directory node own =
      member_directory run.first (calls_of run) is.sound is.legal every_entry empty (λ _. false) (commit_fsync commit) (gathered_closed own)
