-- The tree at the cut that one fsync more raises.
use Rattle.std.proofs.Common.{◌≡◌, ℕ, ◌≤◌, Bool, true, false, cond, List, [], ◌∷◌, ◌++◌, take, Option, Some, None, IsSome, is_some, inl, inr, refl, sym, ap, subst, ◌∙◌, nat_eq}
use Rattle.std.specs.Prelude.{◌⊎◌, ◌↔◌}
use Rattle.std.specs.Cmp.Lexicographic.{nat_list_cmp_total}
use Rattle.std.specs.FinMap.{FinMap, get, len, same_map}
use Rattle.std.specs.Option.{option_map_or}
use Rattle.sfs_base.specs.Name.{bucket}
use Rattle.sfs_base.proofs.BasicTruth.{false_not_true}
use Rattle.tree_laws.specs.declared.history.Entry.{Entry}
use Rattle.tree_laws.specs.History.{tree_after, IsLegal}
use Rattle.tree_laws.specs.Order.{key_cmp, name_cmp}
use Rattle.tree_laws.specs.Sound.{IsSound, IsWithinLimits}
use Rattle.tree_laws.specs.Tree.{TreeState, Node, row_of, names_of, bucket_rows, bytes_of, kind_of, is_directory, is_directory_kind, BUCKET_ROWS}
use Rattle.tree_laws.specs.Changes.{rows_at, bytes_at}
use Rattle.tree_laws.proofs.FileHistories.{bytes_at-tree_after}
use Rattle.tree_laws.proofs.Histories.{rows_at-tree_after}
use Rattle.tree_laws.proofs.Joined.{name_cmp-IsAntisymmetric}
use Rattle.tree_laws.proofs.Limits.{histories_stay_within}
use Rattle.tree_laws.proofs.Names.{get-names_where}
use Rattle.tree_laws.proofs.Readings.{directory_by_kind}
use Rattle.image_laws.specs.Commit.{IsAside, MayFollow}
use Rattle.image_laws.specs.Renamed.{Numbering, HasNumber, IsMet}
use Rattle.image_laws.specs.Renamed.IsMet.{root as at_root, named as by_row}
use Rattle.image_laws.specs.Stands.{IsStorable}
use Rattle.cut_laws.specs.Closure.{every_entry, Flush, IsConcerned, IsNamedIn, IsRaised, AreInodesAfter, AreFlushed, AreRaised, one_more}
use Rattle.cut_laws.specs.Cut.{Cut, cut_of, rows_at_cut, tree_at_cut}
use Rattle.cut_laws.specs.Laws.{KeepsAll, HasKindsOf}
use Rattle.cut_laws.specs.LawsInodes.{IsNeverNamed, StaysAsItWas}
use Rattle.cut_laws.proofs.Along.{tree_at-after}
use Rattle.cut_laws.proofs.CutNodes.{cuts_keep_kinds, files_are_cut}
use Rattle.cut_laws.proofs.CutRows.{directories_are_cut}
use Rattle.cut_laws.proofs.KeptInodes.{others_stay, directories_are_named}
use Rattle.cut_laws.proofs.Lists.{lists_keep}
use Rattle.cut_laws.proofs.NewNodes.{inodes_are_named}
use Rattle.cut_laws.proofs.Prefix.{kind_whole}
use Rattle.raise_laws.specs.Next.{IsMountedHistory, NumbersInodes, IsStorableAtCut, CutTreesAreStorable, IsOneMore, RaisedTreesFollow, OthersAreAside, KeepsItsOwn, SameStampsKeep}

-- directories that have the same rows have them in the same buckets
same_bucket : (directory number : ℕ) (rows others : FinMap key_cmp ℕ) → names_of directory rows ≡ names_of directory others
    → bucket_rows directory number rows ≡ bucket_rows directory number others
same_bucket directory number rows others same = same_map nat_list_cmp_total name_cmp-IsAntisymmetric _ _ (λ name.
    get-names_where directory (λ n. nat_eq (bucket n) number) rows name
    ∙ ap (λ o. cond (nat_eq (bucket name) number) o None)
    (sym (get-names_where directory (λ _. true) rows name) ∙ ap (λ (m : FinMap name_cmp ℕ). get m name) same
    ∙ get-names_where directory (λ _. true) others name)
    ∙ sym (get-names_where directory (λ n. nat_eq (bucket n) number) others name))

-- so what a directory has under a name is by its rows
row_by_names : (tree other : TreeState) (directory : ℕ) → names_of directory tree.rows ≡ names_of directory other.rows → (name : List ℕ)
    → row_of tree directory name ≡ row_of other directory name
row_by_names tree other directory same name =
    sym (get-names_where directory (λ _. true) tree.rows name) ∙ ap (λ (m : FinMap name_cmp ℕ). get m name) same
    ∙ get-names_where directory (λ _. true) other.rows name

-- a node that a tree has not has no bytes
absent_has_none : (tree : TreeState) (node : ℕ) → (IsSome (get tree.nodes node) → ⊥) → bytes_of tree node ≡ []
absent_has_none tree node none = by (get tree.nodes node) none
  where
    by : (o : Option Node) → (IsSome o → ⊥) → option_map_or (λ (n : Node). n.bytes) o [] ≡ []
    by None h = refl
    by (Some n) h = absurd (h refl)

module _ (first : TreeState) (history : List Entry) (cut : Cut) (is : IsMountedHistory first history) where
  abbrev tree : TreeState
  tree = tree_at_cut first history cut

  abbrev last : TreeState
  last = tree_after first history

  kinds : HasKindsOf tree last
  kinds = cuts_keep_kinds first history cut

  directory_is : (node : ℕ) → is_directory tree node ≡ is_directory last node
  directory_is node = directory_by_kind tree node ∙ ap is_directory_kind (kinds.kinds node) ∙ sym (directory_by_kind last node)

  within : IsWithinLimits tree
  within = record { buckets = few; plain = no_bytes }
    where
      few : (directory number : ℕ) → len (bucket_rows directory number tree.rows) ≤ BUCKET_ROWS
      few directory number =
          let there : names_of directory tree.rows ≡ names_of directory (tree_after first (take (cut_of cut directory) history)).rows =
          directories_are_cut first history cut directory ∙ rows_at-tree_after first history directory (cut_of cut directory) is.legal in
          subst (λ (m : FinMap name_cmp ℕ). len m ≤ BUCKET_ROWS)
          (sym (same_bucket directory number tree.rows (tree_after first (take (cut_of cut directory) history)).rows there))
          ((histories_stay_within first history (cut_of cut directory) is.sound is.legal is.limits).buckets directory number)

      no_bytes : (node : ℕ) → is_directory tree node ≡ true → bytes_of tree node ≡ []
      no_bytes node directory = by (get last.nodes node) refl
        where
          stamp : ℕ
          stamp = cut_of cut node

          early : TreeState
          early = tree_after first (take stamp history)

          -- a node that was there then was a directory
          plain_early : (o : Option Node) → get early.nodes node ≡ o → bytes_of early node ≡ []
          plain_early None e = ap (λ (o : Option Node). option_map_or (λ (n : Node). n.bytes) o []) e
          plain_early (Some n) e = (histories_stay_within first history stamp is.sound is.legal is.limits).plain node
              (sym
              (kind_whole first history stamp is.legal node is.sound
              (rw (ap (λ (t : TreeState). get t.nodes node) (tree_at-after first history stamp) ∙ e) refl))
              ∙ sym (directory_is node) ∙ directory)

          by : (o : Option Node) → get last.nodes node ≡ o → bytes_of tree node ≡ []
          by None e =
              absent_has_none tree node
              (λ some. let there : IsSome (get last.nodes node) = (kinds.nodes node).0 some in absurd (false_not_true (rw e at there)))
          by (Some n) e =
              files_are_cut first history cut node (rw e refl) ∙ bytes_at-tree_after first history node stamp is.sound is.legal
              ∙ plain_early (get early.nodes node) refl

  -- what lists of fsyncs leave
  module _ (flushes : List Flush) (inodes : ℕ → Bool) (flushed : AreFlushed first history every_entry flushes cut inodes) (num : Numbering)
      (numbers : NumbersInodes num inodes) where
    keeps : KeepsAll first history cut inodes
    keeps = lists_keep first history flushes cut inodes is.sound is.legal flushed

    placed : (node i : ℕ) → num node ≡ Some i → is_directory tree node ≡ true → IsMet tree node
    placed node i has directory =
        let inode : inodes node ≡ true = (numbers.each node).1 (i, has) in
        elim (directories_are_named first history flushes cut inodes node is.sound is.legal flushed inode (sym (directory_is node) ∙ directory)) [
          | inl root ↦ subst (IsMet tree) (sym root) at_root
          | inr (inl named) ↦ by_row named.directory named.name node named.row
          | inr (inr never) ↦
              subst (IsMet tree) (sym (inodes_are_named first history flushes cut inodes node is.sound is.legal is.alive flushed inode never)) at_root
        ]

    pub storable : IsStorableAtCut num first history cut
    storable = record { sound = keeps.sound; storable = record { placed = placed; limits = within } }

    pub named : (directory : ℕ) (name : List ℕ) (child : ℕ) → row_of tree directory name ≡ Some child → HasNumber num child
    named directory name child row = (numbers.each child).0 (keeps.named child (record { directory = directory; name = name; row = row }))

pub cut_trees_are_storable : CutTreesAreStorable
cut_trees_are_storable first history flushes cut inodes num is flushed numbers = storable first history cut is flushes inodes flushed num numbers

-- the list with one fsync more
more_flushed : (first : TreeState) (history : List Entry) (flushes : List Flush) (cut : Cut) (inodes : ℕ → Bool) (flush : Flush) (raised : Cut)
    (after : ℕ → Bool)
    → IsOneMore first history flushes cut inodes flush raised after
    → AreFlushed first history every_entry (flushes ++ flush ∷ []) raised after
more_flushed first history flushes cut inodes flush raised after is = one_more flushes flush cut raised inodes after is.before is.raises is.inodes_after

pub raised_trees_follow : RaisedTreesFollow
raised_trees_follow first history flushes cut inodes flush raised after num is numbers = record {
  kinds = λ node. (cuts_keep_kinds first history raised).kinds node ∙ sym ((cuts_keep_kinds first history cut).kinds node);
  root = numbers.root;
  named =
      named first history raised is.history_is (flushes ++ flush ∷ []) after (more_flushed first history flushes cut inodes flush raised after is) num numbers;
}

pub same_stamps_keep : SameStampsKeep
same_stamps_keep first history cut raised node same = record {
  rows = directories_are_cut first history raised node ∙ ap (rows_at first history node) same ∙ sym (directories_are_cut first history cut node);
  bytes = by (get (tree_after first history).nodes node) refl;
}
  where
    by : (o : Option Node) → get (tree_after first history).nodes node ≡ o
        → bytes_of (tree_at_cut first history raised) node ≡ bytes_of (tree_at_cut first history cut) node
    by None e = none raised ∙ sym (none cut)
      where
        none : (c : Cut) → bytes_of (tree_at_cut first history c) node ≡ []
        none c =
            absent_has_none (tree_at_cut first history c) node
            (λ some. let there : IsSome (get (tree_after first history).nodes node) = ((cuts_keep_kinds first history c).nodes node).0 some in
            absurd (false_not_true (rw e at there)))
    by (Some n) e =
        files_are_cut first history raised node (rw e refl) ∙ ap (bytes_at first history node) same ∙ sym (files_are_cut first history cut node (rw e refl))

pub others_are_aside : OthersAreAside
others_are_aside first history flushes cut inodes flush raised after node is aside =
    let stays : StaysAsItWas first history cut raised inodes after node =
    others_stay first history cut raised inodes after flush node is.history_is.sound is.history_is.legal is.raises is.inodes_after aside in
    let kept = same_stamps_keep first history cut raised node stays.stamp in
    record {
      rows = row_by_names (tree_at_cut first history raised) (tree_at_cut first history cut) node kept.rows;
      bytes = kept.bytes;
      naming = stays.rows;
    }
