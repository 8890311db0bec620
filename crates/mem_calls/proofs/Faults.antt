-- Why a node can't be used, by the values that a core holds of it.
use Rattle.std.proofs.Common.{◌≡◌, ◌≤◌, ◌<◌, ◌+◌, ◌*◌, ℕ, Bool, true, false, not, ◌&&◌, ◌==◌, nat_eq, length, Option, Some, None, IsSome, inl, inr, refl, sym, ap, ◌∙◌, eq-eqb, arith, ⊎_elim}
use borrow.Author.Tests.{eqb-true}
use Rattle.std.specs.Prelude.{◌||◌, is_some, if◌then◌else◌}
use Rattle.std.proofs.Math.Nat.{mul-le-mul_left}
use Rattle.std.proofs.lemmas.Bool.{cases_Bool}
use Rattle.std.specs.FinMap.{get}
use Rattle.sfs_base.specs.declared.numbers.NodeId.{NodeId}
use Rattle.sfs_base.proofs.BasicTruth.{and_first, and_second, or_first}
use Rattle.tree_laws.specs.declared.reply.Code.TheVariants.{NoEntry, NotDir, IsDir}
use Rattle.tree_laws.specs.Tree.{TreeState, is_alive, is_directory, count_of}
use Rattle.tree_laws.specs.Lock.{stands_of}
use Rattle.tree_laws.specs.NameRow.{number_of}
use Rattle.tree_laws.specs.Verdict.{directory_fault, file_fault}
use Rattle.tree_laws.specs.Laws.{IsSoundTree}
use Rattle.tree_laws.proofs.RowFacts.{alive_named}
use Rattle.tree_laws.proofs.KeepsNodes.{directory_node}
use Rattle.tree_laws.proofs.Holders.{standing_is_alive}
use Rattle.mem_values.specs.Start.{FileHand}
use Rattle.mem_values.specs.declared.bucket.Bucket.{Bucket}
use Rattle.mem_values.specs.Places.{node_count}
use Rattle.mem_values.specs.Stands.{ShowsBucket, file_links}
use Rattle.mem_values.specs.Laws.{MayMeet}
use Rattle.mem_values.proofs.Basics.{left_false}
use Rattle.mem_calls.specs.Held.{is_standing}

-- a tree that a core may meet has as many numbers as the first one
pub same_count : (hand : FileHand) (tree : TreeState) → MayMeet hand.view hand.held tree → node_count tree ≡ node_count hand.view.first
same_count hand tree meets = λ i. meets.first i + meets.share i * meets.cores i

pub same_some : (o : Option NodeId) (p : Option ℕ) → number_of o ≡ p → is_some p ≡ is_some o
same_some None p is_p = ap is_some (sym is_p)
same_some (Some x) p is_p = ap is_some (sym is_p)

module _ (tree : TreeState) (is : IsSoundTree tree) where
  -- a node of the tree has one of its numbers
  pub node_within : (node : ℕ) → IsSome (get tree.nodes node) → node < node_count tree
  node_within node there = elim (is.numbered.known node there) [
    | inl below ↦ omega (arith, below)
    | inr made ↦
        let few = is.numbered.within made.0 made.2 in
        let creation = made.3 in
        let here = made.4 in
        let lt = made.2 in
        let next : made.0 + 1 ≤ length tree.made = omega (arith, lt) in
        let most = mul-le-mul_left tree.share next in
        omega (arith, few, creation, here, most)
  ]

  pub beyond_dead : (node : ℕ) → node_count tree ≤ node → is_alive tree node ≡ false
  beyond_dead node beyond = ⊎_elim
      (λ alive. absurd (elim (alive_named tree node alive) [
        | inl root ↦ let lt = node_within 0 (directory_node tree 0 is.sound.root) in omega (arith, lt, root, beyond)
        | inr named ↦ let lt = node_within node (is.sound.node named.directory named.name node named.row) in omega (arith, lt, beyond)
      ]))
      (λ dead. dead)
      (cases_Bool (is_alive tree node))

  pub fault_beyond : (node : ℕ) → node_count tree ≤ node → directory_fault tree node ≡ Some NoEntry
  fault_beyond node beyond = rw (beyond_dead node beyond) refl

  pub file_fault_beyond : (node : ℕ) → node_count tree ≤ node → file_fault tree node ≡ Some NoEntry
  file_fault_beyond node beyond = rw (beyond_dead node beyond) refl

  module _ (node : NodeId) (number : ℕ) (bucket : Bucket) (shows : ShowsBucket tree node.0 number bucket) where
    -- a directory is alive exactly where it stands by a bucket of it
    pub standing : (is_alive tree node.0 && is_directory tree node.0) ≡ is_standing node bucket
    standing = sym (standing_is_alive tree node.0 is) ∙ ap (λ b. node.0 == 0 || b) (same_some bucket.stands (stands_of tree node.0) shows.stands)

    pub alive : is_standing node bucket ≡ true → is_alive tree node.0 ≡ true
    alive stands = and_first (is_alive tree node.0) (is_directory tree node.0) (standing ∙ stands)

    pub directory : is_standing node bucket ≡ true → is_directory tree node.0 ≡ true
    directory stands = and_second (is_alive tree node.0) (is_directory tree node.0) (standing ∙ stands)

    pub fault_standing : is_standing node bucket ≡ true → directory_fault tree node.0 ≡ None
    fault_standing stands = rw (alive stands, directory stands) refl

    pub file_fault_standing : is_standing node bucket ≡ true → file_fault tree node.0 ≡ Some IsDir
    file_fault_standing stands = rw (alive stands, directory stands) refl

    not_root : is_standing node bucket ≡ false → (node.0 == 0) ≡ false
    not_root stands = or_first (node.0 == 0) (is_some bucket.stands) stands

    -- one that does not stand, and that no row names as a file, is dead
    pub fallen : is_standing node bucket ≡ false → file_links tree node.0 ≡ 0 → is_alive tree node.0 ≡ false
    fallen stands links = by (is_directory tree node.0) refl links
      where
        by : (b : Bool) → is_directory tree node.0 ≡ b → (if b then 0 else count_of tree.rows node.0) ≡ 0 → is_alive tree node.0 ≡ false
        by true kind none = left_false (is_alive tree node.0) (ap (λ b. is_alive tree node.0 && b) (sym kind) ∙ (standing ∙ stands))
        by false kind none = rw (not_root stands) (ap not (eq-eqb (count_of tree.rows node.0) 0 none))

    pub fault_fallen : is_standing node bucket ≡ false → file_links tree node.0 ≡ 0 → directory_fault tree node.0 ≡ Some NoEntry
    fault_fallen stands links = rw (fallen stands links) refl

    pub file_fault_fallen : is_standing node bucket ≡ false → file_links tree node.0 ≡ 0 → file_fault tree node.0 ≡ Some NoEntry
    file_fault_fallen stands links = rw (fallen stands links) refl

  -- what rows name as a file is one, and alive
  pub linked_file : (node : ℕ) → 0 < file_links tree node → is_directory tree node ≡ false
  linked_file node some = ⊎_elim
      (λ kind. let none : file_links tree node ≡ 0 = rw kind refl in absurd (omega (arith, some, none)))
      (λ kind. kind)
      (cases_Bool (is_directory tree node))

  pub links_counted : (node : ℕ) → is_directory tree node ≡ false → file_links tree node ≡ count_of tree.rows node
  links_counted node kind = rw kind refl

  pub linked_alive : (node : ℕ) → 0 < file_links tree node → is_alive tree node ≡ true
  linked_alive node some = by (nat_eq node 0) (nat_eq (count_of tree.rows node) 0) refl
    where
      counted : file_links tree node ≡ count_of tree.rows node
      counted = links_counted node (linked_file node some)

      by : (a b : Bool) → nat_eq (count_of tree.rows node) 0 ≡ b → (a || not b) ≡ true
      by true b is_b = refl
      by false true is_b = let none = eqb-true (count_of tree.rows node) 0 is_b in absurd (omega (arith, none, some, counted))
      by false false is_b = refl

  pub fault_linked : (node : ℕ) → 0 < file_links tree node → directory_fault tree node ≡ Some NotDir
  fault_linked node some = rw (linked_alive node some, linked_file node some) refl

  pub file_fault_linked : (node : ℕ) → 0 < file_links tree node → file_fault tree node ≡ None
  file_fault_linked node some = rw (linked_alive node some, linked_file node some) refl
