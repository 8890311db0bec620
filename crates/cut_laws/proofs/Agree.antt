-- An fsync makes one commit by cuts that agree on what it concerns.
use Rattle.std.proofs.Common.{◌≡◌, ℕ, ◌<◌, ◌≤◌, Bool, List, Some, inl, inr, refl, sym, ap, ◌∙◌, arith}
use borrow.Author.Tests.{ltb-true}
use Rattle.std.specs.Prelude.{◌↔◌, max}
use Rattle.std.specs.FinMap.{get}
use Rattle.tree_laws.specs.declared.history.Entry.{Entry}
use Rattle.tree_laws.specs.Tree.{TreeState}
use Rattle.tree_laws.specs.Changes.{RowChange}
use Rattle.tree_laws.specs.History.{IsLegal}
use Rattle.tree_laws.specs.Laws.{IsSoundTree}
use Rattle.cut_laws.specs.Cut.{Cut, cut_of, counted_rows_at_cut}
use Rattle.cut_laws.specs.Rules.{IsChange}
use Rattle.cut_laws.specs.Closure.{Flush, InSpan, HasNaming, Closure, IsConcerned, member, IsNamedIn, IsRaised, IsReached, IsDead}
use Rattle.cut_laws.specs.Runs.{CommitView, Concerns, view_by}
use Rattle.cut_laws.proofs.Basics.{below_or}
use Rattle.cut_laws.proofs.NamedRows.{names_decide_rows}
use Rattle.cut_laws.proofs.Views.{below, Agree, Agrees}
use Rattle.cut_laws.proofs.Alike.{Carries, member_carried, concerned_carried}

-- Two cuts leave the same changes unflushed of those below a stamp that name a node.
abbrev pub LeaveTheSame : TreeState → List Entry → ℕ → Cut → Cut → ℕ → Type 0
LeaveTheSame first history n cut other node =
    (change : RowChange) → IsChange first history change → change.stamp < n → change.child ≡ node
    → (cut_of cut change.directory ≤ change.stamp) ↔ (cut_of other change.directory ≤ change.stamp)

pub same_back : (first : TreeState) (history : List Entry) (n : ℕ) (cut other : Cut) (node : ℕ) → LeaveTheSame first history n cut other node
    → LeaveTheSame first history n other cut node
same_back first history n cut other node same x one lt child = let both = same x one lt child in (both.1, both.0)

-- a cut agrees with itself
pub agree_itself : (first : TreeState) (history : List Entry) (n : ℕ) (cut : Cut) (inodes : ℕ → Bool) (node : ℕ)
    → Agree first history n cut cut inodes inodes node
agree_itself first history n cut inodes node = record { cuts = refl; inode = refl; unflushed = λ x one lt child. (λ le. le, λ le. le) }

-- to agree is to agree the other way round, and goes on over a third cut
pub agree_back : (first : TreeState) (history : List Entry) (n : ℕ) (cut other : Cut) (inodes other_inodes : ℕ → Bool) (node : ℕ)
    → Agree first history n cut other inodes other_inodes node → Agree first history n other cut other_inodes inodes node
agree_back first history n cut other inodes other_inodes node a =
    record { cuts = sym a.cuts; inode = sym a.inode; unflushed = same_back first history n cut other node a.unflushed }

pub agree_on : (first : TreeState) (history : List Entry) (n : ℕ) (cut other third : Cut) (inodes other_inodes third_inodes : ℕ → Bool) (node : ℕ)
    → Agree first history n cut other inodes other_inodes node → Agree first history n other third other_inodes third_inodes node
    → Agree first history n cut third inodes third_inodes node
agree_on first history n cut other third inodes other_inodes third_inodes node a b = record {
  cuts = a.cuts ∙ b.cuts;
  inode = a.inode ∙ b.inode;
  unflushed = λ x one lt child. let p = a.unflushed x one lt child in let q = b.unflushed x one lt child in (λ le. q.0 (p.0 le), λ le. p.1 (q.1 le));
}

-- what does not lie below one of two stamps lies below neither
parted : (a b t : ℕ) → (a ≤ t → b ≤ t) → t < b → t < a
parted a b t there lt = elim (below_or t a) [ inl less ↦ less | inr le ↦ absurd (no_less lt (there le)) ]
  where
    no_less : t < b → b ≤ t → ⊥
    no_less less le = omega arith

module _ (first : TreeState) (history : List Entry) (n : ℕ) (is : IsSoundTree first) (legal : IsLegal first history) where
  module _ (cut other : Cut) (node : ℕ) (same : LeaveTheSame first history n cut other node) where
    -- a node's rows at the one cut are those at the other
    pub rows_same : (directory : ℕ) (name : List ℕ)
        → (get (counted_rows_at_cut first history (below n) cut) (directory, name) ≡ Some node) ↔
        (get (counted_rows_at_cut first history (below n) other) (directory, name) ≡ Some node)
    rows_same directory name = names_decide_rows first history n cut other node directory name is legal (λ x one lt child dir.
        let both = same x one lt child in
        (parted _ _ _ both.1, parted _ _ _ both.0))

    named_same : IsNamedIn (counted_rows_at_cut first history (below n) cut) node → IsNamedIn (counted_rows_at_cut first history (below n) other) node
    named_same row = record { directory = row.directory; name = row.name; row = (rows_same row.directory row.name).0 row.row }

    -- so is a naming that is not flushed
    pub naming_same : HasNaming first history (below n) cut node → HasNaming first history (below n) other node
    naming_same naming = record {
      change = naming.change;
      is_change = naming.is_change;
      counted = naming.counted;
      child = naming.child;
      unflushed = (same naming.change naming.is_change (ltb-true _ _ naming.counted) naming.child).0 naming.unflushed;
    }

    -- and whether it is reached
    pub reached_same : (flush : Flush) → IsReached first history (below n) flush cut node → IsReached first history (below n) flush other node
    reached_same flush reached = elim reached [
      | inl row ↦ inl (named_same row)
      | inr file ↦ inr (file.0, file.1, naming_same file.2)
    ]

  -- and whether it is dead
  pub dead_same : (cut other : Cut) (node : ℕ) → LeaveTheSame first history n cut other node → IsDead first history (below n) cut node
      → IsDead first history (below n) other node
  dead_same cut other node same dead = record {
    no_root = dead.no_root;
    unnamed = λ row. dead.unnamed (named_same other cut node (same_back first history n cut other node same) row);
    flushed = λ x one counted child. parted _ _ _ (same x one (ltb-true _ _ counted) child).1 (dead.flushed x one counted child);
  }

  module _ (flush : Flush) (cut other : Cut) (inodes other_inodes : ℕ → Bool)
      (agree : (node : ℕ) → IsConcerned first history (below n) cut inodes flush node → Agree first history n cut other inodes other_inodes node) where
    abbrev IsMember : ℕ → Type 0
    IsMember node = Closure first history (below n) cut inodes flush node

    agree_member : {node : ℕ} → IsMember node → Agree first history n cut other inodes other_inodes node
    agree_member {node} own = agree node (member node own)

    span_there : (x : RowChange) → IsMember x.directory → InSpan first history (below n) cut flush.stamp x → InSpan first history (below n) other flush.stamp x
    span_there x own span = record { is_change = span.is_change; counted = span.counted; from = rw (agree_member own).cuts at span.from; below = span.below }

    span_back : (x : RowChange) → IsMember x.directory → InSpan first history (below n) other flush.stamp x → InSpan first history (below n) cut flush.stamp x
    span_back x own span = record { is_change = span.is_change; counted = span.counted; from = rw (agree_member own).cuts span.from; below = span.below }

    abbrev view : CommitView
    view = view_by history (below n) cut inodes

    abbrev other_view : CommitView
    other_view = view_by history (below n) other other_inodes

    -- what makes a member by one of the cuts does so by the other
    there : Carries first flush view other_view
    there = record {
      span = λ x own _ span. span_there x own span;
      moves = λ x span move. move;
      stands = λ x above span way. way;
      births = λ birth own _ l. let a = agree_member own in
          record { one = l.one; lacks = sym a.inode ∙ l.lacks; naming = naming_same cut other birth.node a.unflushed l.naming };
    }

    back : Carries first flush other_view view
    back = record {
      span = λ x _ own span. span_back x own span;
      moves = λ x span move. move;
      stands = λ x above span way. way;
      births = λ birth _ own l. let a = agree_member own in
          record {
            one = l.one;
            lacks = a.inode ∙ l.lacks;
            naming = naming_same other cut birth.node (same_back first history n cut other birth.node a.unflushed) l.naming;
          };
    }

    -- the members are the same
    pub member_there : {node : ℕ} → IsMember node → Closure first history (below n) other other_inodes flush node
    member_there own = member_carried first flush there own

    pub member_back : {node : ℕ} → Closure first history (below n) other other_inodes flush node → IsMember node
    member_back own = member_carried first flush back own

    -- so are the nodes that are concerned
    pub concerned_there : (node : ℕ) → Concerns first flush view node → Concerns first flush other_view node
    concerned_there = concerned_carried first flush there

    pub concerned_back : (node : ℕ) → Concerns first flush other_view node → Concerns first flush view node
    concerned_back = concerned_carried first flush back

    module _ (raised other_raised : Cut) (raise : IsRaised first history (below n) cut inodes flush raised)
        (other_raise : IsRaised first history (below n) other other_inodes flush other_raised) where
      member_stamp : {node : ℕ} → IsMember node → cut_of raised node ≡ cut_of other_raised node
      member_stamp {node} own =
          raise.member node own ∙ ap (λ (k : ℕ). max k flush.stamp) (agree_member own).cuts ∙ sym (other_raise.member node (member_there own))

      -- on what the cuts agree, the raised ones have one stamp
      pub stamp_same : (node : ℕ) → cut_of cut node ≡ cut_of other node → cut_of raised node ≡ cut_of other_raised node
      stamp_same node e = elim (raise.other node) [
        | inl own ↦ member_stamp own
        | inr still ↦ elim (other_raise.other node) [
          | inl own ↦ member_stamp (member_back own)
          | inr stays ↦ still ∙ e ∙ sym stays
        ]
      ]

      -- and leave the same unflushed
      pub leave_same : (node : ℕ) → LeaveTheSame first history n cut other node → LeaveTheSame first history n raised other_raised node
      leave_same node same x one lt child = elim (raise.other x.directory) [
        | inl own ↦ equal (member_stamp own)
        | inr still ↦ elim (other_raise.other x.directory) [
          | inl own ↦ equal (member_stamp (member_back own))
          | inr stays ↦
              let both = same x one lt child in
              (λ le. rw stays (both.0 (rw still at le)), λ le. rw still (both.1 (rw stays at le)))
        ]
      ]
        where
          equal : cut_of raised x.directory ≡ cut_of other_raised x.directory
              → (cut_of raised x.directory ≤ x.stamp) ↔ (cut_of other_raised x.directory ≤ x.stamp)
          equal e = (λ le. rw e at le, λ le. rw e le)

pub agrees : Agrees
agrees first history n flush cut other inodes other_inodes is legal agree = record {
  members =
      λ node. (
        λ own. member_there first history n is legal flush cut other inodes other_inodes agree own,
        λ own. member_back first history n is legal flush cut other inodes other_inodes agree own,
      );
  concerned =
      λ node. (
        concerned_there first history n is legal flush cut other inodes other_inodes agree node,
        concerned_back first history n is legal flush cut other inodes other_inodes agree node,
      );
  stamps =
      λ raised other_raised raise other_raise node concerned. stamp_same first history n is legal flush cut other inodes other_inodes agree raised other_raised
      raise other_raise node
      (agree node concerned).cuts;
  rows =
      λ raised other_raised raise other_raise node directory name concerned. rows_same first history n is legal raised other_raised node
      (leave raised other_raised raise other_raise node concerned) directory name;
  enters = λ raised other_raised raise other_raise node. (
    λ e. (
      sym (agree node e.1).inode
          ∙ e.0,
      concerned_there first history n is legal flush cut other inodes other_inodes agree node e.1,
      reached_same first history n is legal raised other_raised node (leave raised other_raised raise other_raise node e.1) flush e.2,
    ),
    λ e.
        let own = concerned_back first history n is legal flush cut other inodes other_inodes agree node e.1 in (
          (agree node own).inode
              ∙ e.0,
          own,
          reached_same first history n is legal other_raised raised node
              (same_back first history n raised other_raised node (leave raised other_raised raise other_raise node own)) flush e.2,
        ),
  );
  leaves = λ raised other_raised raise other_raise node. (
    λ e. (
      sym (agree node e.1).inode
          ∙ e.0,
      concerned_there first history n is legal flush cut other inodes other_inodes agree node e.1,
      dead_same first history n is legal raised other_raised node (leave raised other_raised raise other_raise node e.1) e.2,
    ),
    λ e.
        let own = concerned_back first history n is legal flush cut other inodes other_inodes agree node e.1 in (
          (agree node own).inode
              ∙ e.0,
          own,
          dead_same first history n is legal other_raised raised node
              (same_back first history n raised other_raised node (leave raised other_raised raise other_raise node own)) e.2,
        ),
  );
}
  where
    leave : (raised other_raised : Cut) → IsRaised first history (below n) cut inodes flush raised
        → IsRaised first history (below n) other other_inodes flush other_raised → (node : ℕ) → IsConcerned first history (below n) cut inodes flush node
        → LeaveTheSame first history n raised other_raised node
    leave raised other_raised raise other_raise node concerned =
        leave_same first history n is legal flush cut other inodes other_inodes agree raised other_raised raise other_raise node
        (agree node concerned).unflushed
