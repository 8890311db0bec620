-- An fsync concerns the same nodes once another one is on the disk that concerns none of them.
use Rattle.std.specs.Prelude.{◌↔◌}
use Rattle.std.proofs.Common.{◌≡◌, ◌≤◌, ◌∙◌, ℕ, Bool, List, inl, inr, refl, sym, subst, arith}
use Rattle.sfs_base.proofs.BasicNumbers.{not_less}
use Rattle.sfs_base.proofs.BasicTruth.{true_or_false}
use Rattle.tree_laws.specs.declared.history.Entry.{Entry}
use Rattle.tree_laws.specs.Tree.{TreeState}
use Rattle.tree_laws.specs.Changes.{RowChange}
use Rattle.cut_laws.specs.Cut.{Cut, cut_of}
use Rattle.cut_laws.specs.Closure.{every_entry, Flush, InSpan, HasNaming, Closure, itself, other_side, ended, ancestor, birth_place, IsConcerned, member, named}
use Rattle.cut_laws.specs.Rules.{IsChange}
use Rattle.cut_laws.proofs.Basics.{below_or}
use Rattle.cut_laws.proofs.Raises.{cuts_rise, was_or_spanned}
use Rattle.book_laws.specs.BringingLaws.{RaisesBeside, ConcernsStay}

module _ (first : TreeState) (history : List Entry) (cut : Cut) (inodes : ℕ → Bool) (mine theirs : Flush) (raised : Cut) (after : ℕ → Bool)
    (is : RaisesBeside first history cut inodes mine theirs raised after) where
  -- the stamp of a node that mine concerns stays
  pub stamp_stays : (node : ℕ) → IsConcerned first history every_entry cut inodes mine node → cut_of raised node ≡ cut_of cut node
  stamp_stays node own = elim (is.raises.other node) [
    | inl other ↦ absurd (is.apart node own (member node other))
    | inr same ↦ same
  ]

  -- so does whether it has an inode
  pub inode_stays : (node : ℕ) → IsConcerned first history every_entry cut inodes mine node → after node ≡ inodes node
  inode_stays node own = elim (true_or_false (inodes node)) [
    | inl has ↦ elim (true_or_false (after node)) [
      | inl then ↦ then ∙ sym has
      | inr gone ↦ absurd (is.apart node own (((is.inodes_after.leaves node has).0 gone).0))
    ]
    | inr none ↦ elim (true_or_false (after node)) [
      | inl comes ↦ absurd (is.apart node own (((is.inodes_after.enters node none).0 comes).0))
      | inr then ↦ then ∙ sym none
    ]
  ]

  -- a change that names a node that mine concerns is unflushed then, where it was
  pub stays_unflushed : (change : RowChange) → IsConcerned first history every_entry cut inodes mine change.child → IsChange first history change
      → cut_of cut change.directory ≤ change.stamp → cut_of raised change.directory ≤ change.stamp
  stays_unflushed change own is_change from = elim (below_or change.stamp (cut_of raised change.directory)) [
    | inl less ↦ elim (was_or_spanned first history every_entry cut inodes theirs raised is.raises change.stamp change.directory less) [
      | inl was ↦ absurd (not_less was from)
      | inr spanned ↦
          absurd (is.apart change.child own (named change spanned.0 (record { is_change = is_change; counted = refl; from = spanned.1; below = spanned.2 })))
    ]
    | inr le ↦ le
  ]

  unflushed_stays : (node : ℕ) → IsConcerned first history every_entry cut inodes mine node
      → HasNaming first history every_entry cut node → HasNaming first history every_entry raised node
  unflushed_stays node own naming = record {
    change = naming.change;
    is_change = naming.is_change;
    counted = naming.counted;
    child = naming.child;
    unflushed =
        stays_unflushed naming.change (subst (IsConcerned first history every_entry cut inodes mine) (sym naming.child) own) naming.is_change naming.unflushed;
  }

  -- and one that is unflushed then was so before
  was_unflushed : (node : ℕ) → HasNaming first history every_entry raised node → HasNaming first history every_entry cut node
  was_unflushed node naming = record {
    change = naming.change;
    is_change = naming.is_change;
    counted = naming.counted;
    child = naming.child;
    unflushed =
        let rise = cuts_rise first history every_entry cut inodes theirs raised is.raises naming.change.directory in
        let le = naming.unflushed in omega (arith, rise, le);
  }

  -- a change in a member's span is in it then
  span_stays : (change : RowChange) → Closure first history every_entry cut inodes mine change.directory
      → InSpan first history every_entry cut mine.stamp change → InSpan first history every_entry raised mine.stamp change
  span_stays change own span = record {
    is_change = span.is_change;
    counted = span.counted;
    from = subst (λ (n : ℕ). n ≤ change.stamp) (sym (stamp_stays change.directory (member change.directory own))) span.from;
    below = span.below;
  }

  was_span : (change : RowChange) → Closure first history every_entry cut inodes mine change.directory
      → InSpan first history every_entry raised mine.stamp change → InSpan first history every_entry cut mine.stamp change
  was_span change own span = record {
    is_change = span.is_change;
    counted = span.counted;
    from = subst (λ (n : ℕ). n ≤ change.stamp) (stamp_stays change.directory (member change.directory own)) span.from;
    below = span.below;
  }

  -- members stay members
  pub members_stay : {node : ℕ} → Closure first history every_entry cut inodes mine node → Closure first history every_entry raised after mine node
  members_stay itself = itself
  members_stay (other_side change other own span side) = other_side change other (members_stay own) (span_stays change own span) side
  members_stay (ended change own span ends) = ended change (members_stay own) (span_stays change own span) ends
  members_stay (ancestor change above node own span move up one) = ancestor change above node (members_stay own) (span_stays change own span) move up one
  members_stay (birth_place birth own among none naming) =
      let here : IsConcerned first history every_entry cut inodes mine birth.node = member birth.node own in
      birth_place birth (members_stay own) among (inode_stays birth.node here ∙ none) (unflushed_stays birth.node here naming)

  -- and were members before
  pub were_members : {node : ℕ} → Closure first history every_entry raised after mine node → Closure first history every_entry cut inodes mine node
  were_members itself = itself
  were_members (other_side change other own span side) = let before = were_members own in other_side change other before (was_span change before span) side
  were_members (ended change own span ends) = let before = were_members own in ended change before (was_span change before span) ends
  were_members (ancestor change above node own span move up one) =
      let before = were_members own in ancestor change above node before (was_span change before span) move up one
  were_members (birth_place birth own among none naming) =
      let before = were_members own in
      birth_place birth before among (sym (inode_stays birth.node (member birth.node before)) ∙ none) (was_unflushed birth.node naming)

  concerned_then : {node : ℕ} → IsConcerned first history every_entry cut inodes mine node → IsConcerned first history every_entry raised after mine node
  concerned_then (member node own) = member node (members_stay own)
  concerned_then (named change own span) = named change (members_stay own) (span_stays change own span)

  concerned_before : {node : ℕ} → IsConcerned first history every_entry raised after mine node → IsConcerned first history every_entry cut inodes mine node
  concerned_before (member node own) = member node (were_members own)
  concerned_before (named change own span) = let before = were_members own in named change before (was_span change before span)

  pub same_concerns : (node : ℕ)
      → IsConcerned first history every_entry cut inodes mine node ↔ IsConcerned first history every_entry raised after mine node
  same_concerns node = (concerned_then, concerned_before)

pub concerns_stay : ConcernsStay
concerns_stay two is = same_concerns two.first two.history two.cut two.inodes two.mine two.theirs two.raised two.after is
