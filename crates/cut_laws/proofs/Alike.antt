-- When an fsync does the same by two histories and two ways to count their entries, at one cut.
use Rattle.std.proofs.Common.{◌≡◌, ℕ, Bool, false, List, take, inl, inr, refl, ap, ◌∙◌}
use Rattle.std.specs.Prelude.{◌↔◌, max}
use Rattle.std.specs.FinMap.{FinMap, get}
use Rattle.tree_laws.specs.Order.{key_cmp}
use Rattle.tree_laws.specs.declared.history.Entry.{Entry}
use Rattle.tree_laws.specs.Tree.{TreeState}
use Rattle.tree_laws.specs.Sound.{Above}
use Rattle.tree_laws.specs.Changes.{RowChange}
use Rattle.tree_laws.specs.History.{tree_after}
use Rattle.cut_laws.specs.Cut.{Cut, cut_of, counted_rows_at_cut}
use Rattle.cut_laws.specs.Rules.{IsOneOf, IsMove, Birth, births_of}
use Rattle.cut_laws.specs.Closure.{Counts, Flush, InSpan, HasNaming, Closure, itself, other_side, ended, ancestor, birth_place, IsConcerned, member, named, IsRaised, IsReached, IsDead, AreInodesAfter}
use Rattle.cut_laws.specs.Runs.{CommitView, Concerns, Raises, view_by}
use Rattle.cut_laws.proofs.Views.{AreAlike}

module _ (first : TreeState) (flush : Flush) where
  -- a member by a view, and a change in a span by it
  abbrev pub IsMember : CommitView → ℕ → Type 0
  IsMember view node = Closure first view.history view.counts view.cut view.inodes flush node

  abbrev pub IsSpanned : CommitView → RowChange → Type 0
  IsSpanned view change = InSpan first view.history view.counts view.cut flush.stamp change

  -- A birth by a view whose node has no inode and a naming that is not flushed.
  pub record IsLacking (view : CommitView) (birth : Birth) : Type 0 where
    pub one : IsOneOf (births_of first view.history) birth
    pub lacks : view.inodes birth.node ≡ false
    pub naming : HasNaming first view.history view.counts view.cut birth.node

  -- What makes a member by one view does so by another, where both have the member that makes it.
  pub record Carries (view other : CommitView) : Type 0 where
    pub span : (change : RowChange) → IsMember view change.directory → IsMember other change.directory → IsSpanned view change → IsSpanned other change
    pub moves : (change : RowChange) → IsSpanned view change → IsMove first view.history change → IsMove first other.history change
    pub stands : (change : RowChange) (above : List ℕ) → IsSpanned view change
        → Above (tree_after first (take change.stamp view.history)) change.directory above
        → Above (tree_after first (take change.stamp other.history)) change.directory above
    pub births : (birth : Birth) → IsMember view birth.node → IsMember other birth.node → IsLacking view birth → IsLacking other birth

  -- members are carried
  pub member_carried : {view other : CommitView} → Carries view other → {node : ℕ} → IsMember view node → IsMember other node
  member_carried c itself = itself
  member_carried c (other_side change node own span two) = let there = member_carried c own in other_side change node there (c.span change own there span) two
  member_carried c (ended change own span ends) = let there = member_carried c own in ended change there (c.span change own there span) ends
  member_carried c (ancestor change above node own span move way among) = let there = member_carried c own in
      ancestor change above node there (c.span change own there span) (c.moves change span move) (c.stands change above span way) among
  member_carried c (birth_place birth own one none naming) =
      let there = member_carried c own in
      let found = c.births birth own there (record { one = one; lacks = none; naming = naming }) in
      birth_place birth there found.one found.lacks found.naming

  -- so are the nodes that are concerned
  pub concerned_carried : {view other : CommitView} → Carries view other → (node : ℕ) → Concerns first flush view node → Concerns first flush other node
  concerned_carried c node (member _ own) = member node (member_carried c own)
  concerned_carried c _ (named change own span) = let there = member_carried c own in named change there (c.span change own there span)

  -- and where they are carried both ways, raised cuts are the same
  pub raise_carried : (view other : CommitView) → view.cut ≡ other.cut → Carries view other → Carries other view → (raised : Cut)
      → Raises first flush view raised → Raises first flush other raised
  raise_carried view other same there back raised raise = record {
    member = λ node own. raise.member node (member_carried back own) ∙ ap (λ (c : Cut). max (cut_of c node) flush.stamp) same;
    other = λ node. elim (raise.other node) [ inl own ↦ inl (member_carried there own) | inr e ↦ inr (e ∙ ap (λ (c : Cut). cut_of c node) same) ];
  }

-- What else two ways to count have to give alike.
pub record GiveAlike (first : TreeState) (history : List Entry) (counts : Counts) (other : List Entry) (other_counts : Counts) (cut : Cut) (inodes : ℕ → Bool)
    (flush : Flush) (raised : Cut) : Type 0 where
  pub rows : counted_rows_at_cut first history counts raised ≡ counted_rows_at_cut first other other_counts raised
  pub reached : (node : ℕ) → IsConcerned first history counts cut inodes flush node
      → IsReached first history counts flush raised node ↔ IsReached first other other_counts flush raised node
  pub dead : (node : ℕ) → IsConcerned first history counts cut inodes flush node
      → IsDead first history counts raised node ↔ IsDead first other other_counts raised node

-- the two make two views alike
pub are_alike : (first : TreeState) (history : List Entry) (counts : Counts) (other : List Entry) (other_counts : Counts) (cut : Cut) (inodes : ℕ → Bool)
    (flush : Flush)
    → Carries first flush (view_by history counts cut inodes) (view_by other other_counts cut inodes)
    → Carries first flush (view_by other other_counts cut inodes) (view_by history counts cut inodes)
    → ((raised : Cut) → IsRaised first history counts cut inodes flush raised → GiveAlike first history counts other other_counts cut inodes flush raised)
    → AreAlike first flush (view_by history counts cut inodes) (view_by other other_counts cut inodes)
are_alike first history counts other other_counts cut inodes flush there back give = record {
  cuts = refl;
  inodes = λ node. refl;
  members = λ node. (λ own. member_carried first flush there own, λ own. member_carried first flush back own);
  concerned = λ node. (concerned_carried first flush there node, concerned_carried first flush back node);
  raises = λ raised. (raise_carried first flush _ _ refl there back raised, raise_carried first flush _ _ refl back there raised);
  rows = λ raised raise directory name. ap (λ (rows : FinMap key_cmp ℕ). get rows (directory, name)) (give raised raise).rows;
  reached = λ raised raise. (give raised raise).reached;
  dead = λ raised raise. (give raised raise).dead;
}

-- views that are alike leave the same inodes
pub inodes_alike : (first : TreeState) (flush : Flush) (view other : CommitView) (raised : Cut) (after : ℕ → Bool) → AreAlike first flush view other
    → IsRaised first view.history view.counts view.cut view.inodes flush raised
    → AreInodesAfter first view.history view.counts view.cut view.inodes flush raised after
    → AreInodesAfter first other.history other.counts other.cut other.inodes flush raised after
inodes_alike first flush view other raised after alike raise sets = record {
  enters = λ node none.
      let own = sets.enters node (alike.inodes node ∙ none) in (
        λ has. let now = own.0 has in
            ((alike.concerned node).0 now.0, (alike.reached raised raise node now.0).0 now.1),
        λ now. let concerned = (alike.concerned node).1 now.0 in
            own.1 (concerned, (alike.reached raised raise node concerned).1 now.1),
      );
  leaves = λ node has.
      let own = sets.leaves node (alike.inodes node ∙ has) in (
        λ gone. let now = own.0 gone in
            ((alike.concerned node).0 now.0, (alike.dead raised raise node now.0).0 now.1),
        λ now. let concerned = (alike.concerned node).1 now.0 in
            own.1 (concerned, (alike.dead raised raise node concerned).1 now.1),
      );
}
