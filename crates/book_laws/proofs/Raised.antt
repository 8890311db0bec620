-- An fsync raises a cut also once another one is on the disk that concerns none of its nodes.
use borrow.Author.Tests.{eqb-true}
use Rattle.std.proofs.Common.{◌≡◌, ◌⊎◌, ◌∙◌, ℕ, Bool, true, false, not, max, nat_eq, filter, List, inl, inr, sym, ap}
use Rattle.sfs_base.proofs.BasicNumbers.{same_number}
use Rattle.sfs_base.proofs.BasicTruth.{not_both, true_or_false}
use Rattle.tree_laws.specs.declared.history.Entry.{Entry}
use Rattle.tree_laws.specs.Tree.{TreeState}
use Rattle.cut_laws.specs.Cut.{Cut, cut_of}
use Rattle.cut_laws.specs.Closure.{every_entry, Flush, Closure, IsConcerned, member, IsRaised}
use Rattle.cut_laws.proofs.Listed.{to_filter}
use Rattle.cut_laws.proofs.RaisedCut.{raised_cut}
use Rattle.cut_laws.proofs.RunFacts.{in_filter}
use Rattle.beside_laws.proofs.Raising.{raised_or}
use Rattle.book_laws.specs.BringingLaws.{RaisesBeside, MadeOver}
use Rattle.book_laws.proofs.Again.{stamp_stays, members_stay, were_members}

module _ (first : TreeState) (history : List Entry) (cut : Cut) (inodes : ℕ → Bool) (mine theirs : Flush) (raised : Cut) (after : ℕ → Bool)
    (is : RaisesBeside first history cut inodes mine theirs raised after) (was : MadeOver first history cut inodes mine) where
  abbrev once : Cut
  once = was.raised

  abbrev nodes : List ℕ
  nodes = was.nodes

  -- whether a node's stamp was raised
  moved : ℕ → Bool
  moved node = not (nat_eq (cut_of once node) (cut_of cut node))

  -- its nodes are those whose stamps were
  pub again : Cut
  again = raised_cut raised (filter moved nodes) mine.stamp

  unmoved : (node : ℕ) → moved node ≡ false → cut_of once node ≡ cut_of cut node
  unfolding moved
  unmoved node e = elim (true_or_false (nat_eq (cut_of once node) (cut_of cut node))) [
    | inl same ↦ eqb-true (cut_of once node) (cut_of cut node) same
    | inr other ↦ absurd (not_both (ap not other) e)
  ]

  has_moved : (node : ℕ) → moved node ≡ true → cut_of once node ≡ cut_of cut node → ⊥
  unfolding moved
  has_moved node e same = not_both e (ap not (ap (λ (n : ℕ). nat_eq n (cut_of cut node)) same ∙ same_number (cut_of cut node)))

  -- a node's stamp was moved and is raised again, or it was not and stays
  moved_or : (node : ℕ) → (Closure first history every_entry cut inodes mine node × (cut_of again node ≡ max (cut_of raised node) mine.stamp))
      ⊎ ((IsConcerned first history every_entry cut inodes mine node → cut_of once node ≡ cut_of cut node) × (cut_of again node ≡ cut_of raised node))
  unfolding again
  moved_or node = elim (raised_or raised (filter moved nodes) mine.stamp node) [
    | inl one ↦ elim (was.raises.other node) [
      | inl own ↦ inl (own, one.1)
      | inr same ↦ absurd (has_moved node ((in_filter moved nodes node one.0).1) same)
    ]
    | inr none ↦ inr (
      (λ own. elim (true_or_false (moved node)) [
        | inl e ↦ absurd (none.0 (to_filter moved nodes node ((was.concerns node).1 own) e))
        | inr e ↦ unmoved node e
      ]),
      none.1,
    )
  ]

  pub raises_again : IsRaised first history every_entry raised after mine again
  raises_again = record {
    member = λ node then.
        let own = were_members first history cut inodes mine theirs raised after is then in
        elim (moved_or node) [
          | inl one ↦ one.1
          | inr none ↦
              none.1 ∙ stamp_stays first history cut inodes mine theirs raised after is node (member node own)
              ∙ sym (none.0 (member node own)) ∙ was.raises.member node own
              ∙ ap (λ (n : ℕ). max n mine.stamp) (sym (stamp_stays first history cut inodes mine theirs raised after is node (member node own)))
        ];
    other = λ node. elim (moved_or node) [
      | inl one ↦ inl (members_stay first history cut inodes mine theirs raised after is one.0)
      | inr none ↦ inr none.1
    ];
  }

  pub own_stamps : (node : ℕ) → IsConcerned first history every_entry cut inodes mine node → cut_of again node ≡ cut_of once node
  own_stamps node own = elim (moved_or node) [
    | inl one ↦
        one.1 ∙ ap (λ (n : ℕ). max n mine.stamp) (stamp_stays first history cut inodes mine theirs raised after is node own)
        ∙ sym (was.raises.member node one.0)
    | inr none ↦ none.1 ∙ stamp_stays first history cut inodes mine theirs raised after is node own ∙ sym (none.0 own)
  ]

  pub other_stamps : (node : ℕ) → (IsConcerned first history every_entry cut inodes mine node → ⊥) → cut_of again node ≡ cut_of raised node
  other_stamps node other = elim (moved_or node) [
    | inl one ↦ absurd (other (member node one.0))
    | inr none ↦ none.1
  ]
