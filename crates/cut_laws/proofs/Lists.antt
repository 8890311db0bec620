-- A list of fsyncs, from the cut 0 and the nodes of the first tree.
use Rattle.std.proofs.Common.{◌≡◌, ℕ, ◌<◌, Bool, true, List, [], ◌∷◌, is_some, inl, inr, refl, sym, ap, ◌∙◌, arith}
use borrow.Author.Tests.{ltb-true}
use Rattle.std.specs.Option.{unwrap_or}
use Rattle.std.specs.Ordering.{nat_cmp}
use Rattle.std.specs.FinMap.{get, empty, get-empty}
use Rattle.tree_laws.specs.declared.history.Entry.{Entry}
use Rattle.tree_laws.specs.Tree.{TreeState}
use Rattle.tree_laws.specs.History.{IsLegal}
use Rattle.tree_laws.specs.Laws.{IsSoundTree}
use Rattle.cut_laws.specs.Cut.{Cut, cut_of, is_within, rows_at_cut}
use Rattle.cut_laws.specs.Rules.{IsClosed, IsOneOf}
use Rattle.cut_laws.specs.Covers.{ArePlaced, IsCovered}
use Rattle.cut_laws.specs.Closure.{every_entry, Flush, HasNode, IsNamedIn, AreFlushed, none, one_more, KeepsCut}
use Rattle.cut_laws.specs.Laws.{HistoriesAreCovered, ListsCover, ListsKeep}
use Rattle.cut_laws.proofs.Basics.{in_either, in_left, in_right, some_if}
use Rattle.sfs_base.proofs.BasicOptions.{some_true}
use Rattle.cut_laws.proofs.Along.{node_first, run_of, first_nodes}
use Rattle.cut_laws.proofs.Covered.{from_rows, fsyncs_cover}
use Rattle.cut_laws.proofs.Closed.{closed_cuts_are_sound}
use Rattle.cut_laws.proofs.Lives.{no_node_yet}
use Rattle.cut_laws.proofs.Commit.{birth_at}
use Rattle.cut_laws.proofs.Grows.{IsKeptWell, flushes_keep}

-- nothing lies below the cut 0
pub nothing_within : {P : Type 0} (t d : ℕ) → t < cut_of empty d → P
nothing_within t d lt = absurd (no_less (ap (λ o. unwrap_or o 0) (get-empty nat_cmp d)) lt)
  where
    no_less : cut_of empty d ≡ 0 → t < cut_of empty d → ⊥
    no_less e lt = omega arith

empty_closed : (first : TreeState) (history : List Entry) → IsClosed first history empty
empty_closed first history = record {
  renames = λ change other one two within. nothing_within change.stamp change.directory within;
  removals = λ change own one ends within own_is same. nothing_within change.stamp change.directory within;
  births = λ birth own one own_is same within. nothing_within own.stamp own.directory within;
  ancestors = λ change above node holder name last move within way among row placing. nothing_within change.stamp change.directory within;
}

pub first_kept : (first : TreeState) (history : List Entry) (inodes : ℕ → Bool) → IsSoundTree first → IsLegal first history
    → ((node : ℕ) → inodes node ≡ is_some (get first.nodes node)) → KeepsCut first history empty inodes
first_kept first history inodes is legal same = record {
  closed = empty_closed first history;
  born = λ birth one has kind.
      let born = birth_at first history birth legal one in
      absurd
      (no_node_yet (run_of first history is legal) birth.stamp birth.directory born.name birth.node born.kind born.adds born.made 0 (omega arith)
      (node_first first history birth.node (some_if (get first.nodes birth.node) (sym (same birth.node) ∙ has))));
}

-- a row at the cut 0 is one of the first tree
pub first_row : (first : TreeState) (history : List Entry) (node : ℕ) → IsNamedIn (rows_at_cut first history empty) node → IsNamedIn first.rows node
first_row first history node row = elim (from_rows (is_within empty) _ row.directory row.name first.rows node row.row) [
  | inl there ↦ record { directory = row.directory; name = row.name; row = there }
  | inr f ↦ nothing_within f.change.stamp f.change.directory (ltb-true _ _ f.passes)
]

-- so what it names is a node of that
first_named : (first : TreeState) (history : List Entry) → IsSoundTree first → (node : ℕ) → IsNamedIn (rows_at_cut first history empty) node
    → is_some (get first.nodes node) ≡ true
first_named first history is node named = let row = first_row first history node named in
    some_true (get first.nodes node) (is.sound.node row.directory row.name node row.row)

-- at the cut 0, with the nodes of the first tree, all is kept
pub first_kept_well : (first : TreeState) (history : List Entry) → IsSoundTree first → IsLegal first history
    → IsKeptWell first history empty (λ node. is_some (get first.nodes node))
first_kept_well first history is legal = record {
  nodes = λ node has. (first_nodes first history 0 is legal node (some_if (get first.nodes node) has)).0;
  held = record { kept = first_kept first history (λ node. is_some (get first.nodes node)) is legal (λ _. refl); named = first_named first history is };
}

pub lists_keep : ListsKeep
lists_keep first history flushes cut inodes is legal flushed =
    let all = flushes_keep first history is legal flushed (first_kept_well first history is legal) in
    record { kept = all.held.kept; sound = closed_cuts_are_sound first history cut is legal all.held.kept.closed; named = all.held.named; nodes = all.nodes }

first_placed : (first : TreeState) (history : List Entry) (inodes : ℕ → Bool) → IsSoundTree first → IsLegal first history
    → ((node : ℕ) → inodes node ≡ is_some (get first.nodes node)) → ArePlaced first history empty inodes
first_placed first history inodes is legal same birth one has =
    let born = birth_at first history birth legal one in
    absurd
    (no_node_yet (run_of first history is legal) birth.stamp birth.directory born.name birth.node born.kind born.adds born.made 0 (omega arith)
    (node_first first history birth.node (some_if (get first.nodes birth.node) (sym (same birth.node) ∙ has))))

-- what a list of fsyncs leaves: nodes with an inode are placed, and each fsync of the list is covered
record AreCovered (first : TreeState) (history : List Entry) (flushes : List Flush) (cut : Cut) (inodes : ℕ → Bool) : Type 0 where
  placed : ArePlaced first history cut inodes
  each : (flush : Flush) → IsOneOf flushes flush → IsCovered first history cut flush

all_covered : (first : TreeState) (history : List Entry) → IsSoundTree first → IsLegal first history → {flushes : List Flush} {cut : Cut} {inodes : ℕ → Bool}
    → AreFlushed first history every_entry flushes cut inodes → ((flush : Flush) → IsOneOf flushes flush → HasNode first history flush)
    → AreCovered first history flushes cut inodes
all_covered first history is legal none there =
    record { placed = first_placed first history (λ node. is_some (get first.nodes node)) is legal (λ _. refl); each = λ flush one. absurd one }
all_covered first history is legal (one_more flushes flush cut raised inodes after before raise sets) there =
    let was = all_covered first history is legal before (λ other one. there other (in_left flushes (flush ∷ []) other one)) in
    let now =
    fsyncs_cover first history cut raised inodes after flush is legal was.placed
    (there flush (in_right flushes (flush ∷ []) flush (inl refl))) raise sets in
    record {
      placed = now.placed;
      each = λ other one. elim (in_either flushes (flush ∷ []) other one) [
        | inl old ↦ now.earlier other (was.each other old)
        | inr new ↦ elim new [
          | inl e ↦ rw e at now.own
          | inr nothing ↦ absurd nothing
        ]
      ];
    }

pub lists_cover : ListsCover
lists_cover first history flushes cut inodes is legal flushed there flush one = (all_covered first history is legal flushed there).each flush one

pub histories_are_covered : HistoriesAreCovered
histories_are_covered first history flushes cut inodes moment is legal flushed there all flush ack acknowledged le =
    (all_covered first history is legal flushed there).each flush (all flush ack acknowledged le)
