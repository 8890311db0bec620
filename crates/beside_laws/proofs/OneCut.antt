-- An fsync raises one cut, and leaves one set of nodes with an inode.
use Rattle.std.proofs.Common.{◌≡◌, ℕ, ◌<◌, ◌≤◌, Bool, true, false, nat_lt, List, inl, inr, sym, ap, subst, ◌∙◌}
use Rattle.std.specs.Prelude.{fold}
use Rattle.std.specs.FinMap.{FinMap}
use Rattle.sfs_base.proofs.BasicTruth.{not_both, true_or_false}
use Rattle.tree_laws.specs.declared.history.Entry.{Entry}
use Rattle.tree_laws.specs.Order.{key_cmp}
use Rattle.tree_laws.specs.Tree.{TreeState}
use Rattle.tree_laws.specs.Changes.{changes_of}
use Rattle.cut_laws.specs.Cut.{Cut, cut_of, is_within, with_own, rows_at_cut}
use Rattle.cut_laws.specs.Closure.{every_entry, Flush, HasNaming, IsNamedIn, IsRaised, IsReached, IsDead, AreInodesAfter}
use Rattle.cut_laws.proofs.Basics.{filter_same}
use Rattle.beside_laws.specs.Commits.{commit_fsync}
use Rattle.beside_laws.specs.Laws.{AreTheSame, FsyncsRaiseOneCut}

-- cuts with the same stamps have the same rows
rows_alike : (first : TreeState) (history : List Entry) (cut other : Cut) → ((node : ℕ) → cut_of cut node ≡ cut_of other node)
    → rows_at_cut first history cut ≡ rows_at_cut first history other
rows_alike first history cut other same =
    ap (fold with_own first.rows)
    (filter_same (is_within cut) (is_within other) (changes_of first history) (λ change one. ap (nat_lt change.stamp) (same change.directory)))

module _ (first : TreeState) (history : List Entry) (cut other : Cut) (same : (node : ℕ) → cut_of cut node ≡ cut_of other node) where
  named_there : (node : ℕ) → IsNamedIn (rows_at_cut first history cut) node → IsNamedIn (rows_at_cut first history other) node
  named_there node row = subst (λ (rows : FinMap key_cmp ℕ). IsNamedIn rows node) (rows_alike first history cut other same) row

  naming_there : (node : ℕ) → HasNaming first history every_entry cut node → HasNaming first history every_entry other node
  naming_there node naming = record {
    change = naming.change;
    is_change = naming.is_change;
    counted = naming.counted;
    child = naming.child;
    unflushed = subst (λ n. n ≤ naming.change.stamp) (same naming.change.directory) naming.unflushed;
  }

  pub reached_there : (flush : Flush) (node : ℕ) → IsReached first history every_entry flush cut node → IsReached first history every_entry flush other node
  reached_there flush node (inl row) = inl (named_there node row)
  reached_there flush node (inr (own, file, naming)) = inr (own, file, naming_there node naming)

pub dead_there : (first : TreeState) (history : List Entry) (cut other : Cut) → ((node : ℕ) → cut_of cut node ≡ cut_of other node) → (node : ℕ)
    → IsDead first history every_entry cut node → IsDead first history every_entry other node
dead_there first history cut other same node dead = record {
  no_root = dead.no_root;
  unnamed = λ row. dead.unnamed (named_there first history other cut (λ n. sym (same n)) node row);
  flushed = λ change is_change counted child.
      subst (λ n. change.stamp < n) (same change.directory) (dead.flushed change is_change counted child);
}

module _ (first : TreeState) (history : List Entry) (cut raised other : Cut) (inodes after other_after : ℕ → Bool) (flush : Flush)
    (raise : IsRaised first history every_entry cut inodes flush raised) (sets : AreInodesAfter first history every_entry cut inodes flush raised after)
    (again : IsRaised first history every_entry cut inodes flush other)
    (sets_again : AreInodesAfter first history every_entry cut inodes flush other other_after) where
  stamps : (node : ℕ) → cut_of raised node ≡ cut_of other node
  stamps node = elim (raise.other node) [
    | inl own ↦ raise.member node own ∙ sym (again.member node own)
    | inr same ↦ elim (again.other node) [
      | inl own ↦ raise.member node own ∙ sym (again.member node own)
      | inr also ↦ same ∙ sym also
    ]
  ]

  back : (node : ℕ) → cut_of other node ≡ cut_of raised node
  back node = sym (stamps node)

  -- a node without an inode, and one with an inode
  comes : (node : ℕ) → inodes node ≡ false → after node ≡ other_after node
  comes node lacks = elim (true_or_false (after node)) [
    | inl has ↦
        let entered = (sets.enters node lacks).0 has in
        has ∙ sym ((sets_again.enters node lacks).1 (entered.0, reached_there first history raised other stamps flush node entered.1))
    | inr none ↦ elim (true_or_false (other_after node)) [
      | inr also ↦ none ∙ sym also
      | inl has ↦
          let entered = (sets_again.enters node lacks).0 has in
          absurd (not_both ((sets.enters node lacks).1 (entered.0, reached_there first history other raised back flush node entered.1)) none)
    ]
  ]

  goes : (node : ℕ) → inodes node ≡ true → after node ≡ other_after node
  goes node had = elim (true_or_false (after node)) [
    | inr lost ↦
        let left = (sets.leaves node had).0 lost in
        lost ∙ sym ((sets_again.leaves node had).1 (left.0, dead_there first history raised other stamps node left.1))
    | inl has ↦ elim (true_or_false (other_after node)) [
      | inl also ↦ has ∙ sym also
      | inr lost ↦
          let left = (sets_again.leaves node had).0 lost in
          absurd (not_both has ((sets.leaves node had).1 (left.0, dead_there first history other raised back node left.1)))
    ]
  ]

  pub one_cut : AreTheSame raised other after other_after
  one_cut = record {
    stamps = stamps;
    same_inodes = λ node. elim (true_or_false (inodes node)) [ inl had ↦ goes node had | inr lacked ↦ comes node lacked ];
  }

pub fsyncs_raise_one_cut : FsyncsRaiseOneCut
fsyncs_raise_one_cut run commit raised other after other_after one two =
    one_cut run.first run.history run.cut raised other run.inodes after other_after (commit_fsync commit) one.raises one.inodes_after two.raises two.inodes_after
