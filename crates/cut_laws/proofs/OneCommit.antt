-- Alike views on both sides of one commit.
use Rattle.std.proofs.Common.{sym, ◌∙◌}
use Rattle.std.specs.Prelude.{◌↔◌}
use Rattle.tree_laws.specs.Tree.{TreeState}
use Rattle.cut_laws.specs.Closure.{Flush}
use Rattle.cut_laws.specs.Runs.{CommitView, IsOneCommit}
use Rattle.cut_laws.proofs.Views.{AreAlike}

turned : {P Q : Type 0} → P ↔ Q → Q ↔ P
turned both = (both.1, both.0)

onward : {P Q R : Type 0} → P ↔ Q → Q ↔ R → P ↔ R
onward a b = (λ p. b.0 (a.0 p), λ r. a.1 (b.1 r))

module _ (first : TreeState) (flush : Flush) where
  -- views are alike the other way round, and over a third one
  pub alike_back : (view other : CommitView) → AreAlike first flush view other → AreAlike first flush other view
  alike_back view other a = record {
    cuts = sym a.cuts;
    inodes = λ node. sym (a.inodes node);
    members = λ node. turned (a.members node);
    concerned = λ node. turned (a.concerned node);
    raises = λ raised. turned (a.raises raised);
    rows = λ raised raise directory name. sym (a.rows raised ((a.raises raised).1 raise) directory name);
    reached = λ raised raise node concerned. turned (a.reached raised ((a.raises raised).1 raise) node ((a.concerned node).1 concerned));
    dead = λ raised raise node concerned. turned (a.dead raised ((a.raises raised).1 raise) node ((a.concerned node).1 concerned));
  }

  pub alike_on : (view other third : CommitView) → AreAlike first flush view other → AreAlike first flush other third → AreAlike first flush view third
  alike_on view other third a b = record {
    cuts = a.cuts ∙ b.cuts;
    inodes = λ node. a.inodes node ∙ b.inodes node;
    members = λ node. onward (a.members node) (b.members node);
    concerned = λ node. onward (a.concerned node) (b.concerned node);
    raises = λ raised. onward (a.raises raised) (b.raises raised);
    rows = λ raised raise directory name. a.rows raised raise directory name ∙ b.rows raised ((a.raises raised).0 raise) directory name;
    reached =
        λ raised raise node concerned. onward (a.reached raised raise node concerned)
        (b.reached raised ((a.raises raised).0 raise) node ((a.concerned node).0 concerned));
    dead =
        λ raised raise node concerned. onward (a.dead raised raise node concerned)
        (b.dead raised ((a.raises raised).0 raise) node ((a.concerned node).0 concerned));
  }

  -- so is one commit
  commit_back : (view other : CommitView) → IsOneCommit first flush view other → IsOneCommit first flush other view
  commit_back view other c = record {
    members = λ node. turned (c.members node);
    concerned = λ node. turned (c.concerned node);
    stamps = λ raised other_raised raise other_raise node concerned. sym (c.stamps other_raised raised other_raise raise node ((c.concerned node).1 concerned));
    rows =
        λ raised other_raised raise other_raise node directory name concerned. turned
        (c.rows other_raised raised other_raise raise node directory name ((c.concerned node).1 concerned));
    enters = λ raised other_raised raise other_raise node. turned (c.enters other_raised raised other_raise raise node);
    leaves = λ raised other_raised raise other_raise node. turned (c.leaves other_raised raised other_raise raise node);
  }

  -- a view that is alike to one of a commit's makes the commit
  pub alike_then : (view other third : CommitView) → AreAlike first flush view other → IsOneCommit first flush other third → IsOneCommit first flush view third
  alike_then view other third a c = record {
    members = λ node. onward (a.members node) (c.members node);
    concerned = λ node. onward (a.concerned node) (c.concerned node);
    stamps = λ raised last raise last_raise node concerned. c.stamps raised last ((a.raises raised).0 raise) last_raise node ((a.concerned node).0 concerned);
    rows = λ raised last raise last_raise node directory name concerned.
        let e = a.rows raised raise directory name in
        let both = c.rows raised last ((a.raises raised).0 raise) last_raise node directory name ((a.concerned node).0 concerned) in
        (λ row. both.0 (sym e ∙ row), λ row. e ∙ both.1 row);
    enters = λ raised last raise last_raise node.
        let both = c.enters raised last ((a.raises raised).0 raise) last_raise node in (
          λ e. both.0 (sym (a.inodes node) ∙ e.0, (a.concerned node).0 e.1, (a.reached raised raise node e.1).0 e.2),
          λ e.
              let back = both.1 e in
              let own = (a.concerned node).1 back.1 in
              (a.inodes node ∙ back.0, own, (a.reached raised raise node own).1 back.2),
        );
    leaves = λ raised last raise last_raise node.
        let both = c.leaves raised last ((a.raises raised).0 raise) last_raise node in (
          λ e. both.0 (sym (a.inodes node) ∙ e.0, (a.concerned node).0 e.1, (a.dead raised raise node e.1).0 e.2),
          λ e.
              let back = both.1 e in
              let own = (a.concerned node).1 back.1 in
              (a.inodes node ∙ back.0, own, (a.dead raised raise node own).1 back.2),
        );
  }

  pub then_alike : (view other third : CommitView) → IsOneCommit first flush view other → AreAlike first flush other third → IsOneCommit first flush view third
  then_alike view other third c a = commit_back third view (alike_then third other view (alike_back other third a) (commit_back view other c))
