-- What a bucket and a file's links tell of a tree that they show.
use Rattle.std.proofs.Common.{◌≡◌, ℕ, Bool, true, false, cond, not, ◌||◌, ◌&&◌, List, Option, Some, None, inl, inr, refl, sym, ap, ap₂, subst, ◌∙◌, nat_eq}
use borrow.Author.Tests.{eqb-true}
use Rattle.std.specs.Prelude.{is_some}
use Rattle.std.specs.FinMap.{get}
use Rattle.sfs_base.specs.Name.{bucket as name_bucket}
use Rattle.sfs_base.specs.declared.numbers.NodeId.{NodeId}
use Rattle.sfs_base.proofs.BasicTruth.{or_second, and_first, and_second, then_false, not_true, not_false, not_both, true_or_false}
use Rattle.tree_laws.specs.declared.reply.Code.{Code}
use Rattle.tree_laws.specs.declared.reply.Code.TheVariants.{NoEntry, NotDir}
use Rattle.tree_laws.specs.Tree.{TreeState, row_of, is_alive, is_directory, count_of}
use Rattle.tree_laws.specs.NameRow.{number_of}
use Rattle.tree_laws.specs.Verdict.{directory_fault}
use Rattle.tree_laws.specs.Laws.{IsSoundTree}
use Rattle.tree_laws.proofs.Names.{get-own_bucket}
use Rattle.tree_laws.proofs.Holders.{standing_is_alive}
use Rattle.mem_values.specs.declared.bucket.Bucket.{Bucket}
use Rattle.mem_values.specs.Stands.{ShowsBucket, if_directory, file_links}
use Rattle.mem_rename.specs.Sights.{stands_by, fault_seen}

-- a node has a number where it is there
some_number : (node : Option NodeId) → is_some node ≡ is_some (number_of node)
some_number None = refl
some_number (Some node) = refl

some_if : (b : Bool) (child : ℕ) → is_some (cond b (Some child) None) ≡ b
some_if true child = refl
some_if false child = refl

module _ (tree : TreeState) where
  -- a bucket tells what the row of a name names
  pub row_told : (directory : ℕ) (n : List ℕ) (b : Bucket) → ShowsBucket tree directory (name_bucket n) b → get b.rows n ≡ row_of tree directory n
  row_told d n b shows = ap (λ m. get m n) shows.rows ∙ get-own_bucket d n tree.rows

  -- and whether that is a directory
  pub kind_told : (directory : ℕ) (n : List ℕ) (b : Bucket) (child : ℕ) → ShowsBucket tree directory (name_bucket n) b → row_of tree directory n ≡ Some child
      → is_some (get b.directories n) ≡ is_directory tree child
  kind_told d n b child shows row =
      ap is_some (shows.directories n ∙ ap (if_directory tree) (get-own_bucket d n tree.rows ∙ row)) ∙ some_if (is_directory tree child) child

  module _ (is : IsSoundTree tree) where
    -- a bucket tells whether its directory stands: it is alive, and a directory
    pub standing_told : (directory number : ℕ) (b : Bucket) → ShowsBucket tree directory number b
        → stands_by directory b ≡ (is_alive tree directory && is_directory tree directory)
    standing_told d number b shows = ap (λ o. nat_eq d 0 || o) (some_number b.stands ∙ ap is_some shows.stands) ∙ standing_is_alive tree d is

    -- no row names what is not alive
    none_counted : (node : ℕ) → is_alive tree node ≡ false → count_of tree.rows node ≡ 0
    none_counted node dead = eqb-true _ _ (not_false _ (or_second (nat_eq node 0) _ dead))

    -- some row names what is alive and no directory
    pub some_counted : (node : ℕ) → is_alive tree node ≡ true → is_directory tree node ≡ false → nat_eq (count_of tree.rows node) 0 ≡ false
    some_counted node alive file = elim (true_or_false (nat_eq node 0)) [
      | inl root ↦ absurd (not_both (subst (λ (z : ℕ). is_directory tree z ≡ true) (sym (eqb-true _ _ root)) is.sound.root) file)
      | inr other ↦ not_true _ (sym (ap (λ b. b || not (nat_eq (count_of tree.rows node) 0)) other) ∙ alive)
    ]

    abbrev by_links : ℕ → Option Code
    by_links links = cond (nat_eq links 0) (Some NoEntry) (Some NotDir)

    abbrev by_tree : Bool → Bool → Option Code
    by_tree alive kind = cond (not alive) (Some NoEntry) (cond (not kind) (Some NotDir) None)

    links_told : (directory links : ℕ) → links ≡ file_links tree directory → (is_alive tree directory && is_directory tree directory) ≡ false
        → by_links links ≡ by_tree (is_alive tree directory) (is_directory tree directory)
    links_told d links shown apart = elim (true_or_false (is_alive tree d)) [
      | inl alive ↦
          let file = then_false (is_alive tree d) (is_directory tree d) apart alive in
          let counted : links ≡ count_of tree.rows d = shown ∙ ap (λ b. cond b 0 (count_of tree.rows d)) file in
          ap (λ b. cond b (Some NoEntry) (Some NotDir)) (ap (λ l. nat_eq l 0) counted ∙ some_counted d alive file) ∙ sym (ap₂ by_tree alive file)
      | inr dead ↦
          let none : links ≡ 0 = shown ∙ (ap (cond (is_directory tree d) 0) (none_counted d dead) ∙ same_both (is_directory tree d)) in
          ap by_links none ∙ sym (ap (λ a. by_tree a (is_directory tree d)) dead)
    ]
      where
        same_both : (b : Bool) → ◌≡◌ {A = ℕ} (cond b 0 0) 0
        same_both true = refl
        same_both false = refl

    -- so the fault of a directory is known by a bucket of it and, where it does not stand, by its links as a file
    pub fault_told : (directory number links : ℕ) (b : Bucket) → ShowsBucket tree directory number b
        → (stands_by directory b ≡ false → links ≡ file_links tree directory) → fault_seen directory b links ≡ directory_fault tree directory
    fault_told d number links b shows linked = elim (true_or_false (stands_by d b)) [
      | inl stands ↦
          let both : (is_alive tree d && is_directory tree d) ≡ true = sym (standing_told d number b shows) ∙ stands in
          ap (λ s. cond s None (by_links links)) stands ∙ sym (ap₂ by_tree (and_first _ _ both) (and_second _ _ both))
      | inr apart ↦ ap (λ s. cond s None (by_links links)) apart ∙ links_told d links (linked apart) (sym (standing_told d number b shows) ∙ apart)
    ]
