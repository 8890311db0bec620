-- The order in which conditions are tried.
use Rattle.std.proofs.Common.{◌≡◌, ℕ, ◌<◌, ◌≤◌, true, false, List, Some, None, is_some, leb, refl}
use Rattle.std.specs.FinMap.{len}
use Rattle.std.proofs.lemmas.Bool.{le-leb, lt-leb}
use Rattle.sfs_base.specs.Name.{bucket}
use Rattle.tree_laws.specs.LawsOfOrder.{AsksDirectory, AsksLinked, IsLinkable, AsksLink, AsksMake, ConditionsHaveTheirOrder}
use Rattle.tree_laws.specs.Tree.{TreeState, row_of, is_alive, is_directory, count_of, bucket_rows, made_by}
use Rattle.tree_laws.specs.Verdict.{directory_fault, make_fault, link_fault}

asks_directory : (tree : TreeState) (directory : ℕ) → AsksDirectory tree directory
asks_directory tree directory = record {
  dead = λ dead. rw dead refl;
  file = λ alive file. rw (alive, file) refl;
  fine = λ alive is. rw (alive, is) refl;
}

asks_linked : (tree : TreeState) (file directory : ℕ) (name : List ℕ) → AsksLinked tree file directory name
asks_linked tree file directory name = record {
  dead = λ dead. rw dead refl;
  directory_linked = λ alive is. rw (alive, is) refl;
}

asks_link : (tree : TreeState) (file directory : ℕ) (name : List ℕ) → IsLinkable tree file directory → AsksLink tree file directory name
asks_link tree file directory name may =
    let alive = may.alive in
    let is_file = may.is_file in
    let usable = may.usable in
    record {
      there = λ there. rw (alive, is_file, usable, there) refl;
      many = λ none count.
          let many : leb 65535 (count_of tree.rows file) ≡ true = le-leb 65535 (count_of tree.rows file) count in
          rw (alive, is_file, usable, none, many) refl;
      full = λ none count rows.
          let few : leb 65535 (count_of tree.rows file) ≡ false = lt-leb 65535 (count_of tree.rows file) count in
          let full : leb 4096 (len (bucket_rows directory (bucket name) tree.rows)) ≡ true = le-leb 4096 _ rows in
          rw (alive, is_file, usable, none, few, full) refl;
      fine = λ none count rows.
          let few : leb 65535 (count_of tree.rows file) ≡ false = lt-leb 65535 (count_of tree.rows file) count in
          let room : leb 4096 (len (bucket_rows directory (bucket name) tree.rows)) ≡ false = lt-leb 4096 _ rows in
          rw (alive, is_file, usable, none, few, room) refl;
    }

asks_make : (tree : TreeState) (core directory : ℕ) (name : List ℕ) → directory_fault tree directory ≡ None → AsksMake tree core directory name
asks_make tree core directory name usable = record {
  there = λ there. rw (usable, there) refl;
  full = λ none rows.
      let full : leb 4096 (len (bucket_rows directory (bucket name) tree.rows)) ≡ true = le-leb 4096 _ rows in
      rw (usable, none, full) refl;
  share_made = λ none rows made.
      let room : leb 4096 (len (bucket_rows directory (bucket name) tree.rows)) ≡ false = lt-leb 4096 _ rows in
      let all : leb tree.share (made_by tree core) ≡ true = le-leb tree.share (made_by tree core) made in
      rw (usable, none, room, all) refl;
}

pub conditions_have_their_order : ConditionsHaveTheirOrder
conditions_have_their_order = record { directory = asks_directory; linked = asks_linked; link = asks_link; make = asks_make }
