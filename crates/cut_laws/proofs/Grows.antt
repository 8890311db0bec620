-- What the fsyncs of a history's first entries keep is kept in the whole history.
use Rattle.std.proofs.Common.{◌≡◌, ℕ, suc, ◌<◌, ◌≤◌, Bool, true, false, List, take, IsSome, inl, inr, refl, sym, ◌∙◌, arith}
use borrow.Author.Tests.{lt-ltb}
use Rattle.std.specs.FinMap.{get}
use Rattle.tree_laws.specs.declared.history.Entry.{Entry}
use Rattle.tree_laws.specs.Tree.{TreeState}
use Rattle.tree_laws.specs.Changes.{RowChange, changes_of}
use Rattle.tree_laws.specs.History.{tree_after, IsLegal}
use Rattle.tree_laws.specs.Laws.{IsSoundTree}
use Rattle.cut_laws.specs.Cut.{Cut, cut_of, is_within, rows_at_cut}
use Rattle.cut_laws.specs.Rules.{IsChange, IsLastPlacing, IsClosed}
use Rattle.cut_laws.specs.Closure.{every_entry, Flush, AreInodesAfter, AreRaised, none, one_more, IsReached, KeepsCut, AreBorn}
use Rattle.cut_laws.proofs.Basics.{below_or}
use Rattle.cut_laws.proofs.Runs.{Run}
use Rattle.cut_laws.proofs.Along.{made_at, node_first, nodes_at, run_of, tree_at, tree_at-after}
use Rattle.cut_laws.proofs.Lives.{born_before, ended_before, no_node_yet}
use Rattle.cut_laws.proofs.Commit.{IsBornAt, birth_at, fsyncs_keep}
use Rattle.cut_laws.proofs.Covered.{from_rows}
use Rattle.cut_laws.proofs.Children.{child_node}
use Rattle.cut_laws.proofs.Prefix.{change_whole, change_prefix, birth_prefix, kind_whole, counted_rows-take}
use Rattle.cut_laws.proofs.Prefixes.{move_prefix, same_tree}
use Rattle.cut_laws.proofs.Views.{below, IsHeld}
use Rattle.cut_laws.proofs.Recount.{counted_rows-low}
use Rattle.cut_laws.proofs.NamedKept.{named_after}

-- each node with an inode is a node of the tree after the history
abbrev pub AreNodes : TreeState → List Entry → (ℕ → Bool) → Type 0
AreNodes first history inodes = (node : ℕ) → inodes node ≡ true → IsSome (get (tree_after first history).nodes node)

module _ (first : TreeState) (history : List Entry) (is : IsSoundTree first) (legal : IsLegal first history) where
  abbrev run : Run
  run = run_of first history is legal

  -- nodes stay up to the end of the history
  at_end : (t x : ℕ) → IsSome (get (tree_at first history t).nodes x) → IsSome (get (tree_after first history).nodes x)
  at_end t x some = (nodes_at first history t is legal x some).0

  module _ (n : ℕ) (cut : Cut) (inodes : ℕ → Bool) (low : (node : ℕ) → cut_of cut node ≤ n) (nodes : AreNodes first (take n history) inodes)
      (kept : KeepsCut first (take n history) cut inodes) where
    -- what lies below the cut lies below the count
    within_low : (t d : ℕ) → t < cut_of cut d → t < n
    within_low t d lt = let le = low d in omega arith

    within_prefix : (x : RowChange) → IsChange first history x → x.stamp < cut_of cut x.directory → IsChange first (take n history) x
    within_prefix x one lt = change_prefix first history n legal x one (within_low x.stamp x.directory lt)

    last_prefix : (node stamp : ℕ) (last : RowChange) → stamp < n → IsLastPlacing first history node stamp last
        → IsLastPlacing first (take n history) node stamp last
    last_prefix node stamp last lt placing = record {
      is_change = change_prefix first history n legal last placing.is_change (let less = placing.below in omega arith);
      places = placing.places;
      child = placing.child;
      below = placing.below;
      latest = λ other one places child less. placing.latest other (change_whole first history n legal other one) places child less;
    }

    closed_whole : IsClosed first history cut
    closed_whole = record {
      renames = λ change other one two within. kept.closed.renames change other (within_prefix change one within) two within;
      removals = λ change own one ends within own_is same.
          let before =
          ended_before run change.stamp change own.stamp own (made_at first history is legal change one) ends
          (made_at first history is legal own own_is) same in
          let lt = within_low change.stamp change.directory within in
          kept.closed.removals change own (within_prefix change one within) ends within (change_prefix first history n legal own own_is (omega arith)) same;
      births = λ birth own one own_is same within.
          let born = birth_at first history birth legal one in
          let before =
          born_before run birth.stamp birth.directory born.name birth.node born.kind born.adds born.made own.stamp own
          (made_at first history is legal own own_is) same in
          let lt = within_low own.stamp own.directory within in
          kept.closed.births birth own (birth_prefix first history n legal birth one (omega arith)) (within_prefix own own_is within) same within;
      ancestors = λ change above node holder name last move within way among row placing.
          let lt = within_low change.stamp change.directory within in
          let tree = sym (same_tree first history is legal n change.stamp lt) in
          kept.closed.ancestors change above node holder name last (move_prefix first history is legal n change lt move) within (rw tree at way) among
          (rw tree at row) (last_prefix node change.stamp last lt placing);
    }

    born_whole : AreBorn first history cut inodes
    born_whole birth one has kind = elim (below_or birth.stamp n) [
      | inl lt ↦ kept.born birth (birth_prefix first history n legal birth one lt) has (sym (kind_whole first history n legal birth.node is there) ∙ kind)
      | inr le ↦ absurd (no_node_yet run birth.stamp birth.directory born.name birth.node born.kind born.adds born.made n le there)
    ]
      where
        born : IsBornAt first history birth birth.stamp
        born = birth_at first history birth legal one

        there : IsSome (get (tree_at first history n).nodes birth.node)
        there = rw (tree_at-after first history n) (nodes birth.node has)

    -- what the fsyncs of the first entries keep is kept in the whole history
    pub kept_whole : KeepsCut first history cut inodes
    kept_whole = record { closed = closed_whole; born = born_whole }

  -- nodes of the tree after the first entries are nodes of the tree after all
  pub nodes_whole : (n : ℕ) (inodes : ℕ → Bool) → AreNodes first (take n history) inodes → AreNodes first history inodes
  nodes_whole n inodes nodes node has =
      let here : IsSome (get (tree_at first history n).nodes node) = rw (tree_at-after first history n) (nodes node has) in
      at_end n node here

  -- the child of a change is a node of the tree after the history
  child_at_end : (x : RowChange) → IsChange first history x → IsSome (get (tree_after first history).nodes x.child)
  child_at_end x one = at_end (suc x.stamp) x.child (child_node run x.stamp x (made_at first history is legal x one) (suc x.stamp) (omega arith))

  -- a node that is reached is one of the tree after the history
  reached_node : (flush : Flush) (raised : Cut) (node : ℕ) → IsReached first history every_entry flush raised node
      → IsSome (get (tree_after first history).nodes node)
  reached_node flush raised node reached = elim reached [
    | inl named ↦ elim (from_rows (is_within raised) (changes_of first history) named.directory named.name first.rows node named.row) [
      | inl before ↦ at_end 0 node (node_first first history node (is.sound.node named.directory named.name node before))
      | inr f ↦ rw f.child at (child_at_end f.change f.one)
    ]
    | inr file ↦ rw file.2.child at (child_at_end file.2.change file.2.is_change)
  ]

  -- an fsync gives inodes to nodes alone
  nodes_raised : (cut : Cut) (inodes : ℕ → Bool) (flush : Flush) (raised : Cut) (after : ℕ → Bool)
      → AreInodesAfter first history every_entry cut inodes flush raised after → AreNodes first history inodes → AreNodes first history after
  nodes_raised cut inodes flush raised after sets nodes node has =
      elim (inodes node) as (λ b. inodes node ≡ b → IsSome (get (tree_after first history).nodes node)) [
        | true ↦ λ e. nodes node e
        | false ↦ λ e. reached_node flush raised node ((sets.enters node e).0 has).1
      ] refl

-- The rows at a cut that has no stamp above a count of first entries are those by these entries.
pub rows_at_cut-take : (first : TreeState) (history : List Entry) (n : ℕ) (cut : Cut) → IsLegal first history → ((node : ℕ) → cut_of cut node ≤ n)
    → rows_at_cut first (take n history) cut ≡ rows_at_cut first history cut
rows_at_cut-take first history n cut legal low =
    counted_rows-take first history n cut legal ∙ counted_rows-low first history n (below n) cut (λ t lt. lt-ltb t n lt) low

-- what any fsyncs keep
pub record IsKeptWell (first : TreeState) (history : List Entry) (cut : Cut) (inodes : ℕ → Bool) : Type 0 where
  pub held : IsHeld first history cut inodes
  pub nodes : AreNodes first history inodes

pub flushes_keep : (first : TreeState) (history : List Entry) → IsSoundTree first → IsLegal first history
    → {cut : Cut} {inodes : ℕ → Bool} {flushes : List Flush} {raised : Cut} {after : ℕ → Bool}
    → AreRaised first history every_entry cut inodes flushes raised after → IsKeptWell first history cut inodes → IsKeptWell first history raised after
flushes_keep first history is legal none was = was
flushes_keep first history is legal (one_more flushes flush before raised inodes_before after earlier raise sets) was =
    let now = flushes_keep first history is legal earlier was in
    record {
      nodes = nodes_raised first history is legal before inodes_before flush raised after sets now.nodes;
      held = record {
        kept = fsyncs_keep first history before raised inodes_before after flush is legal now.held.kept raise sets;
        named =
            named_after first history every_entry flush before raised inodes_before is legal (λ t lt. refl) raise after sets (λ node row. row) now.held.named;
      };
    }
