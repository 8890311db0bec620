-- What a raise leaves of cuts that agree.
use Rattle.std.proofs.Common.{◌≡◌, ℕ, ◌<◌, ◌≤◌, Bool, true, false, List, inl, inr, refl, sym, ◌∙◌, arith}
use borrow.Author.Tests.{lt-ltb}
use Rattle.std.specs.Prelude.{◌↔◌}
use Rattle.std.proofs.Math.Nat.{le-max_left, max-le}
use Rattle.tree_laws.specs.declared.history.Entry.{Entry}
use Rattle.tree_laws.specs.Tree.{TreeState}
use Rattle.tree_laws.specs.Changes.{RowChange}
use Rattle.tree_laws.specs.History.{IsLegal}
use Rattle.tree_laws.specs.Laws.{IsSoundTree}
use Rattle.cut_laws.specs.Cut.{Cut, cut_of}
use Rattle.cut_laws.specs.Rules.{IsChange}
use Rattle.cut_laws.specs.Closure.{Flush, Closure, IsConcerned, member, named, IsRaised, AreInodesAfter}
use Rattle.cut_laws.specs.Runs.{CommitView, IsOneCommit, Enters, LosesInodeInView, view_by}
use Rattle.cut_laws.proofs.Basics.{below_or}
use Rattle.cut_laws.proofs.Views.{below, Agree}
use Rattle.cut_laws.proofs.Agree.{stamp_same, leave_same, agrees}

-- answers that are true together are the same, and so are answers that are false together
pub true_alike : (a b : Bool) → (a ≡ true → b ≡ true) → (b ≡ true → a ≡ true) → a ≡ b
true_alike true b there back = sym (there refl)
true_alike false true there back = back refl
true_alike false false there back = refl

pub false_alike : (a b : Bool) → (a ≡ false → b ≡ false) → (b ≡ false → a ≡ false) → a ≡ b
false_alike false b there back = sym (there refl)
false_alike true false there back = back refl
false_alike true true there back = refl

-- a raise is agreed with on each node that it does not concern
module _ (first : TreeState) (history : List Entry) (n : ℕ) (flush : Flush) (cut raised : Cut) (inodes after : ℕ → Bool)
    (raise : IsRaised first history (below n) cut inodes flush raised) (sets : AreInodesAfter first history (below n) cut inodes flush raised after) (node : ℕ)
    (none : IsConcerned first history (below n) cut inodes flush node → ⊥) where
  same_stamp : cut_of cut node ≡ cut_of raised node
  same_stamp = elim (raise.other node) [ inl own ↦ absurd (none (member node own)) | inr e ↦ sym e ]

  same_inode : inodes node ≡ after node
  same_inode = elim (inodes node) as (λ b. inodes node ≡ b → b ≡ after node) [
    | true ↦
        λ has. elim (after node) as (λ b. after node ≡ b → true ≡ b) [ true ↦ λ _. refl | false ↦ λ gone. absurd (none ((sets.leaves node has).0 gone).0) ] refl
    | false ↦
        λ lacks. elim (after node) as (λ b. after node ≡ b → false ≡ b) [
          | true ↦ λ came. absurd (none ((sets.enters node lacks).0 came).0)
          | false ↦
              λ _. refl
        ] refl
  ] refl

  same_unflushed : (x : RowChange) → IsChange first history x → x.stamp < n → x.child ≡ node
      → (cut_of cut x.directory ≤ x.stamp) ↔ (cut_of raised x.directory ≤ x.stamp)
  same_unflushed x one lt child = elim (raise.other x.directory) [
    | inl own ↦ (past_span own, below_raised own)
    | inr e ↦ (λ le. rw e le, λ le. rw e at le)
  ]
    where
      past_span : Closure first history (below n) cut inodes flush x.directory → cut_of cut x.directory ≤ x.stamp → cut_of raised x.directory ≤ x.stamp
      past_span own from = elim (below_or x.stamp flush.stamp) [
        | inl less ↦ absurd (none (rw child at (named x own (record { is_change = one; counted = lt-ltb x.stamp n lt; from = from; below = less }))))
        | inr more ↦ rw (raise.member x.directory own) (max-le from more)
      ]

      below_raised : Closure first history (below n) cut inodes flush x.directory → cut_of raised x.directory ≤ x.stamp → cut_of cut x.directory ≤ x.stamp
      below_raised own le = let e = raise.member x.directory own in let less = le-max_left (cut_of cut x.directory) flush.stamp in omega arith

  pub raise_apart : Agree first history n cut raised inodes after node
  raise_apart = record { cuts = same_stamp; inode = same_inode; unflushed = same_unflushed }

-- where cuts agree on what an fsync concerns, it keeps what else they agree on, when it raises both
module _ (first : TreeState) (history : List Entry) (n : ℕ) (is : IsSoundTree first) (legal : IsLegal first history) (flush : Flush) (cut other : Cut)
    (inodes other_inodes : ℕ → Bool)
    (agree : (node : ℕ) → IsConcerned first history (below n) cut inodes flush node → Agree first history n cut other inodes other_inodes node)
    (raised other_raised : Cut) (after other_after : ℕ → Bool) (raise : IsRaised first history (below n) cut inodes flush raised)
    (other_raise : IsRaised first history (below n) other other_inodes flush other_raised)
    (sets : AreInodesAfter first history (below n) cut inodes flush raised after)
    (other_sets : AreInodesAfter first history (below n) other other_inodes flush other_raised other_after) (node : ℕ)
    (a : Agree first history n cut other inodes other_inodes node) where
  abbrev view : CommitView
  view = view_by history (below n) cut inodes

  abbrev other_view : CommitView
  other_view = view_by history (below n) other other_inodes

  one_commit : IsOneCommit first flush view other_view
  one_commit = agrees first history n flush cut other inodes other_inodes is legal agree

  enter_both : Enters first flush view raised node ↔ Enters first flush other_view other_raised node
  enter_both = one_commit.enters raised other_raised raise other_raise node

  leave_both : LosesInodeInView first flush view raised node ↔ LosesInodeInView first flush other_view other_raised node
  leave_both = one_commit.leaves raised other_raised raise other_raise node

  both_lack : inodes node ≡ false → after node ≡ other_after node
  both_lack lacks =
      let also = sym a.inode ∙ lacks in
      true_alike (after node) (other_after node)
      (λ came. let now = (sets.enters node lacks).0 came in let there = enter_both.0 (lacks, now.0, now.1) in
      (other_sets.enters node also).1 (there.1, there.2))
      (λ came. let now = (other_sets.enters node also).0 came in let back = enter_both.1 (also, now.0, now.1) in (sets.enters node lacks).1 (back.1, back.2))

  both_have : inodes node ≡ true → after node ≡ other_after node
  both_have has =
      let also = sym a.inode ∙ has in
      false_alike (after node) (other_after node)
      (λ gone. let now = (sets.leaves node has).0 gone in let there = leave_both.0 (has, now.0, now.1) in (other_sets.leaves node also).1 (there.1, there.2))
      (λ gone. let now = (other_sets.leaves node also).0 gone in let back = leave_both.1 (also, now.0, now.1) in (sets.leaves node has).1 (back.1, back.2))

  pub raise_both : Agree first history n raised other_raised after other_after node
  raise_both = record {
    cuts = stamp_same first history n is legal flush cut other inodes other_inodes agree raised other_raised raise other_raise node a.cuts;
    inode = elim (inodes node) as (λ b. inodes node ≡ b → after node ≡ other_after node) [ true ↦ both_have | false ↦ both_lack ] refl;
    unflushed = leave_same first history n is legal flush cut other inodes other_inodes agree raised other_raised raise other_raise node a.unflushed;
  }
