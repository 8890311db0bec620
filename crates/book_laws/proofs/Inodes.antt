-- Which nodes an fsync leaves with an inode once another one is on the disk that concerns none of its nodes.
use Rattle.std.specs.Prelude.{◌↔◌}
use Rattle.std.specs.FinMap.{FinMap, get}
use Rattle.std.proofs.Common.{◌≡◌, ◌⊎◌, ◌≤◌, ◌∙◌, ℕ, Bool, true, false, cond, List, Some, inl, inr, refl, sym, ap, subst, arith}
use Rattle.sfs_base.specs.Listed.{is_listed}
use Rattle.sfs_base.proofs.BasicNumbers.{not_less}
use Rattle.sfs_base.proofs.BasicTruth.{not_both, true_or_false}
use Rattle.tree_laws.specs.declared.history.Entry.{Entry}
use Rattle.tree_laws.specs.Changes.{RowChange}
use Rattle.tree_laws.specs.History.{IsLegal}
use Rattle.tree_laws.specs.Laws.{IsSoundTree}
use Rattle.tree_laws.specs.Order.{name_cmp}
use Rattle.tree_laws.specs.Tree.{TreeState, row_of}
use Rattle.tree_laws.proofs.Names.{get-names_where}
use Rattle.cut_laws.specs.Cut.{Cut, cut_of, tree_at_cut}
use Rattle.cut_laws.specs.Closure.{every_entry, Flush, HasNaming, IsConcerned, member, IsReached, IsDead, AreInodesAfter}
use Rattle.cut_laws.specs.Rules.{IsChange}
use Rattle.cut_laws.proofs.Basics.{below_or}
use Rattle.cut_laws.proofs.KeptInodes.{others_stay}
use Rattle.cut_laws.proofs.Listed.{listed_one}
use Rattle.cut_laws.proofs.Raises.{cuts_rise}
use Rattle.raise_laws.proofs.Next.{same_stamps_keep}
use Rattle.book_laws.specs.BringingLaws.{RaisesBeside, MadeOver, MakesTheSame, RaisesStay}
use Rattle.book_laws.proofs.Again.{inode_stays, stays_unflushed, same_concerns}
use Rattle.book_laws.proofs.Raised.{again, raises_again, own_stamps, other_stamps}

-- a directory with one stamp at two cuts has the same rows at both
row_same : (first : TreeState) (history : List Entry) (cut other : Cut) (directory : ℕ) (name : List ℕ) → cut_of other directory ≡ cut_of cut directory
    → row_of (tree_at_cut first history other) directory name ≡ row_of (tree_at_cut first history cut) directory name
row_same first history cut other directory name same =
    sym (get-names_where directory (λ _. true) (tree_at_cut first history other).rows name)
    ∙ ap (λ (m : FinMap name_cmp ℕ). get m name) (same_stamps_keep first history cut other directory same).rows
    ∙ get-names_where directory (λ _. true) (tree_at_cut first history cut).rows name

module _ (first : TreeState) (history : List Entry) (cut : Cut) (inodes : ℕ → Bool) (mine theirs : Flush) (raised : Cut) (after : ℕ → Bool)
    (sound : IsSoundTree first) (legal : IsLegal first history)
    (is : RaisesBeside first history cut inodes mine theirs raised after) (was : MadeOver first history cut inodes mine) where
  abbrev Mine : ℕ → Type 0
  Mine node = IsConcerned first history every_entry cut inodes mine node

  abbrev then : Cut
  then = again first history cut inodes mine theirs raised after is was

  mine_or : (node : ℕ) → (Mine node × (is_listed was.nodes node ≡ true)) ⊎ ((Mine node → ⊥) × (is_listed was.nodes node ≡ false))
  mine_or node = elim (true_or_false (is_listed was.nodes node)) [
    | inl listed ↦ inl ((was.concerns node).0 ((listed_one was.nodes node).0 listed), listed)
    | inr none ↦ inr ((λ own. not_both ((listed_one was.nodes node).1 ((was.concerns node).1 own)) none), none)
  ]

  own : (node : ℕ) → Mine node → cut_of then node ≡ cut_of was.raised node
  own = own_stamps first history cut inodes mine theirs raised after is was

  others : (node : ℕ) → (Mine node → ⊥) → cut_of then node ≡ cut_of raised node
  others = other_stamps first history cut inodes mine theirs raised after is was

  untouched : (node : ℕ) → (Mine node → ⊥) → cut_of was.raised node ≡ cut_of cut node
  untouched node other = elim (was.raises.other node) [ inl in_it ↦ absurd (other (member node in_it)) | inr same ↦ same ]

  -- a row names a node that mine concerns then, where it did at the cut that mine raised before
  same_row : (node directory : ℕ) (name : List ℕ) → Mine node
      → (row_of (tree_at_cut first history then) directory name ≡ Some node) ↔ (row_of (tree_at_cut first history was.raised) directory name ≡ Some node)
  same_row node directory name here = elim (mine_or directory) [
    | inl held ↦
        let same = row_same first history was.raised then directory name (own directory held.0) in
        ((λ row. sym same ∙ row), (λ row. same ∙ row))
    | inr free ↦
        let late = row_same first history raised then directory name (others directory free.0) in
        let early = row_same first history cut was.raised directory name (untouched directory free.0) in
        let aside = (others_stay first history cut raised inodes after theirs node sound legal is.raises is.inodes_after (is.apart node here)).rows directory name in
        ((λ row. early ∙ aside.0 (sym late ∙ row)), (λ row. late ∙ aside.1 (sym early ∙ row)))
  ]

  -- a change that names it is unflushed then, where it was
  same_side : (change : RowChange) → Mine change.child → IsChange first history change
      → (cut_of then change.directory ≤ change.stamp) ↔ (cut_of was.raised change.directory ≤ change.stamp)
  same_side change here is_change = elim (mine_or change.directory) [
    | inl held ↦
        let same = own change.directory held.0 in
        (subst (λ (n : ℕ). n ≤ change.stamp) same, subst (λ (n : ℕ). n ≤ change.stamp) (sym same))
    | inr free ↦
        let late = others change.directory free.0 in
        let early = untouched change.directory free.0 in (
          (λ le. let rise = cuts_rise first history every_entry cut inodes theirs raised is.raises change.directory in omega (arith, le, late, early, rise)),
          (λ le. subst (λ (n : ℕ). n ≤ change.stamp) (sym late)
              (stays_unflushed first history cut inodes mine theirs raised after is change here is_change
              (subst (λ (n : ℕ). n ≤ change.stamp) early le))),
        )
  ]

  naming_same : (node : ℕ) → Mine node → HasNaming first history every_entry then node ↔ HasNaming first history every_entry was.raised node
  naming_same node here = (
    (λ n. record {
      change = n.change;
      is_change = n.is_change;
      counted = n.counted;
      child = n.child;
      unflushed = (same_side n.change (subst Mine (sym n.child) here) n.is_change).0 n.unflushed;
    }),
    (λ n. record {
      change = n.change;
      is_change = n.is_change;
      counted = n.counted;
      child = n.child;
      unflushed = (same_side n.change (subst Mine (sym n.child) here) n.is_change).1 n.unflushed;
    }),
  )

  reached_same : (node : ℕ) → Mine node → IsReached first history every_entry mine then node ↔ IsReached first history every_entry mine was.raised node
  reached_same node here = (
    (λ reached. elim reached [
      | inl row ↦ inl (record { directory = row.directory; name = row.name; row = (same_row node row.directory row.name here).0 row.row })
      | inr file ↦ inr (file.0, file.1, (naming_same node here).0 file.2)
    ]),
    (λ reached. elim reached [
      | inl row ↦ inl (record { directory = row.directory; name = row.name; row = (same_row node row.directory row.name here).1 row.row })
      | inr file ↦ inr (file.0, file.1, (naming_same node here).1 file.2)
    ]),
  )

  dead_same : (node : ℕ) → Mine node → IsDead first history every_entry then node ↔ IsDead first history every_entry was.raised node
  dead_same node here = (
    (λ dead. record {
      no_root = dead.no_root;
      unnamed = λ row. dead.unnamed (record { directory = row.directory; name = row.name; row = (same_row node row.directory row.name here).1 row.row });
      flushed = λ change is_change counted child. elim (below_or change.stamp (cut_of was.raised change.directory)) [
        | inl less ↦ less
        | inr le ↦
            absurd (not_less (dead.flushed change is_change counted child) ((same_side change (subst Mine (sym child) here) is_change).1 le))
      ];
    }),
    (λ dead. record {
      no_root = dead.no_root;
      unnamed = λ row. dead.unnamed (record { directory = row.directory; name = row.name; row = (same_row node row.directory row.name here).0 row.row });
      flushed = λ change is_change counted child. elim (below_or change.stamp (cut_of then change.directory)) [
        | inl less ↦ less
        | inr le ↦
            absurd (not_less (dead.flushed change is_change counted child) ((same_side change (subst Mine (sym child) here) is_change).0 le))
      ];
    }),
  )

  -- its own nodes have an inode as it left them, all others as they are
  abbrev behind : ℕ → Bool
  behind node = cond (is_listed was.nodes node) (was.after node) (after node)

  own_behind : (node : ℕ) → is_listed was.nodes node ≡ true → behind node ≡ was.after node
  own_behind node listed = ap (λ b. cond b (was.after node) (after node)) listed

  other_behind : (node : ℕ) → is_listed was.nodes node ≡ false → behind node ≡ after node
  other_behind node none = ap (λ b. cond b (was.after node) (after node)) none

  concerned_same : (node : ℕ) → Mine node ↔ IsConcerned first history every_entry raised after mine node
  concerned_same = same_concerns first history cut inodes mine theirs raised after is

  inodes_again : AreInodesAfter first history every_entry raised after mine then behind
  inodes_again = record {
    enters = λ node none. elim (mine_or node) [
      | inl here ↦
          let before = was.inodes_after.enters node (sym (inode_stays first history cut inodes mine theirs raised after is node here.0) ∙ none) in
          let made = own_behind node here.1 in (
            (λ has. let now = before.0 (sym made ∙ has) in ((concerned_same node).0 now.0, (reached_same node here.0).1 now.1)),
            (λ now. made ∙ before.1 (here.0, (reached_same node here.0).0 now.1)),
          )
      | inr free ↦ (
        (λ has. absurd (not_both has (other_behind node free.1 ∙ none))),
        (λ now. absurd (free.0 ((concerned_same node).1 now.0))),
      )
    ];
    leaves = λ node has. elim (mine_or node) [
      | inl here ↦
          let before = was.inodes_after.leaves node (sym (inode_stays first history cut inodes mine theirs raised after is node here.0) ∙ has) in
          let made = own_behind node here.1 in (
            (λ gone. let now = before.0 (sym made ∙ gone) in ((concerned_same node).0 now.0, (dead_same node here.0).1 now.1)),
            (λ now. made ∙ before.1 (here.0, (dead_same node here.0).0 now.1)),
          )
      | inr free ↦ (
        (λ gone. absurd (not_both (other_behind node free.1 ∙ has) gone)),
        (λ now. absurd (free.0 ((concerned_same node).1 now.0))),
      )
    ];
  }

  makes_again : MadeOver first history raised after mine
  makes_again = record {
    raised = then;
    after = behind;
    nodes = was.nodes;
    raises = raises_again first history cut inodes mine theirs raised after is was;
    inodes_after = inodes_again;
    concerns = λ node.
        ((λ one. (concerned_same node).0 ((was.concerns node).0 one)), (λ now. (was.concerns node).1 ((concerned_same node).1 now)));
  }

  pub made_again : (again : MadeOver first history raised after mine) × MakesTheSame was again
  unfolding makes_again
  made_again = (
    makes_again,
    record {
      nodes = refl;
      own_stamps = λ node one. own node ((was.concerns node).0 one);
      own_inodes = λ node one. own_behind node ((listed_one was.nodes node).1 one);
      other_stamps = λ node none. others node (λ here. none ((was.concerns node).1 here));
      other_inodes = λ node none. elim (mine_or node) [
        | inl here ↦ absurd (none ((was.concerns node).1 here.0))
        | inr free ↦ other_behind node free.1
      ];
    },
  )

pub raises_stay : RaisesStay
raises_stay two sound legal is once =
    made_again two.first two.history two.cut two.inodes two.mine two.theirs two.raised two.after sound legal is once
