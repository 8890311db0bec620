-- What fsyncs raise over the first entries of a history they raise over the whole of it.
use Rattle.std.proofs.Common.{◌≡◌, ℕ, ◌≤◌, Bool, false, List, [], ◌∷◌, ◌++◌, length, take, Option, Some, None, IsSome, option_map, inl, inr, refl, sym, ap, ◌∙◌}
use borrow.Author.Tests.{lt-ltb}
use Rattle.std.specs.Option.{option_map_or}
use Rattle.std.specs.FinMap.{get, empty}
use Rattle.sfs_base.specs.declared.numbers.Kind.{Kind}
use Rattle.tree_laws.specs.declared.history.Entry.{Entry}
use Rattle.tree_laws.specs.Tree.{TreeState, Node, is_directory, is_directory_kind, kind_if, kind_again, bytes_of}
use Rattle.tree_laws.specs.Changes.{bytes_at}
use Rattle.tree_laws.specs.History.{tree_after, IsLegal}
use Rattle.tree_laws.specs.Laws.{IsSoundTree}
use Rattle.tree_laws.proofs.FileHistories.{bytes_at-tree_after}
use Rattle.cut_laws.specs.Cut.{Cut, cut_of, tree_at_cut}
use Rattle.cut_laws.specs.Rules.{IsOneOf}
use Rattle.cut_laws.specs.Closure.{every_entry, Flush, AreRaised, none, one_more}
use Rattle.cut_laws.specs.LawsGrowth.{AreAmongFirst, FlushesGrow, HasMoreNodes, CutTreesGrow}
use Rattle.cut_laws.specs.Runs.{view_by}
use Rattle.cut_laws.proofs.Basics.{below_or, in_left, in_right}
use Rattle.cut_laws.proofs.Along.{tree_at-after, nodes_at}
use Rattle.cut_laws.proofs.Views.{below, IsHeld}
use Rattle.cut_laws.proofs.RunFacts.{cuts_stay_low}
use Rattle.cut_laws.proofs.Prefix.{legal_take, take_take}
use Rattle.cut_laws.proofs.Prefixes.{prefixes_count}
use Rattle.cut_laws.proofs.Alike.{inodes_alike}
use Rattle.cut_laws.proofs.OneCommit.{alike_on}
use Rattle.cut_laws.proofs.Recount.{recounts}
use Rattle.cut_laws.proofs.Lists.{nothing_within}
use Rattle.cut_laws.proofs.Held.{first_held, flushes_hold}
use Rattle.cut_laws.proofs.Grows.{rows_at_cut-take}
use Rattle.cut_laws.proofs.CutNodes.{node_at_cut_is}

-- no stamp of the cut 0 is above any
pub none_above : (n node : ℕ) → cut_of empty node ≤ n
none_above n node = elim (below_or n (cut_of empty node)) [ inl lt ↦ nothing_within n node lt | inr le ↦ le ]

module _ (first : TreeState) (history : List Entry) (n : ℕ) (is : IsSoundTree first) (legal : IsLegal first history) (within : n ≤ length history) where
  earlier : (flushes : List Flush) (flush : Flush) → AreAmongFirst first history n (flushes ++ flush ∷ []) → AreAmongFirst first history n flushes
  earlier flushes flush are = record {
    low = λ other one. are.low other (in_left flushes (flush ∷ []) other one);
    live = λ other one. are.live other (in_left flushes (flush ∷ []) other one);
  }

  -- fsyncs do the same over the whole history, from a cut that is held there
  pub raised_whole : {cut : Cut} {inodes : ℕ → Bool} {flushes : List Flush} {raised : Cut} {after : ℕ → Bool}
      → AreRaised first (take n history) every_entry cut inodes flushes raised after → AreAmongFirst first history n flushes
      → ((node : ℕ) → cut_of cut node ≤ n)
      → IsHeld first history cut inodes
      → AreRaised first history every_entry cut inodes flushes raised after
  raised_whole none are low held = none
  raised_whole (one_more flushes flush before raised inodes_before after was raise sets) are low held =
      let own : IsOneOf (flushes ++ flush ∷ []) flush = in_right flushes (flush ∷ []) flush (inl refl) in
      let old = earlier flushes flush are in
      let low_before = cuts_stay_low first (take n history) every_entry n was low old.low in
      let held_before = flushes_hold first history n is legal within was low old.low old.live held in
      let alike =
      alike_on first flush (view_by (take n history) every_entry before inodes_before) (view_by history (below n) before inodes_before)
      (view_by history every_entry before inodes_before)
      (prefixes_count first history n flush before inodes_before is legal within (are.low flush own) (are.live flush own))
      (recounts first history n (below n) every_entry flush before inodes_before is legal (λ t lt. lt-ltb t n lt) (λ t lt. refl) low_before (are.low flush own)
      (are.live flush own) held_before) in
      one_more flushes flush before raised inodes_before after (raised_whole was old low held) ((alike.raises raised).0 raise)
      (inodes_alike first flush _ _ raised after alike raise sets)

pub flushes_grow : FlushesGrow
flushes_grow first history count flushes cut inodes is legal within are flushed =
    raised_whole first history count is legal within flushed are (none_above count) (first_held first history is legal)

module _ (first : TreeState) (history : List Entry) (n : ℕ) (cut : Cut) (is : IsSoundTree first) (legal : IsLegal first history)
    (low : (node : ℕ) → cut_of cut node ≤ n) where
  abbrev short : List Entry
  short = take n history

  same_bytes : (x : ℕ) → bytes_at first short x (cut_of cut x) ≡ bytes_at first history x (cut_of cut x)
  same_bytes x =
      bytes_at-tree_after first short x (cut_of cut x) is (legal_take first history n legal)
      ∙ ap (λ (h : List Entry). bytes_of (tree_after first h) x) (take_take history (cut_of cut x) n (low x))
      ∙ sym (bytes_at-tree_after first history x (cut_of cut x) is legal)

  abbrev with_bytes : List ℕ → Node → Node
  with_bytes bytes node = record node { bytes = bytes }

  -- nodes of one kind that get the same bytes are one node
  one_node : (a b : Option Node) (bytes : List ℕ) → IsSome a → IsSome b
      → option_map_or (λ (n : Node). is_directory_kind n.kind) b false ≡ option_map_or (λ (n : Node). is_directory_kind n.kind) a false
      → option_map (with_bytes bytes) b ≡ option_map (with_bytes bytes) a
  one_node (Some a) (Some b) bytes some also same =
      ap (λ (k : Kind). Some (record { kind = k; bytes = bytes })) (sym (kind_again b.kind) ∙ ap kind_if same ∙ kind_again a.kind)
  one_node None b bytes some also same = cc
  one_node (Some a) None bytes some also same = cc

  same_node : (x : ℕ) → IsSome (get (tree_after first short).nodes x) → get (tree_at_cut first history cut).nodes x ≡ get (tree_at_cut first short cut).nodes x
  same_node x some =
      node_at_cut_is first history cut x
      ∙ ap (λ (bytes : List ℕ). option_map (with_bytes bytes) (get (tree_after first history).nodes x)) (sym (same_bytes x))
      ∙ one_node (get (tree_after first short).nodes x) (get (tree_after first history).nodes x) (bytes_at first short x (cut_of cut x)) some there.0 there.1
      ∙ sym (node_at_cut_is first short cut x)
    where
      there : IsSome (get (tree_after first history).nodes x) × (is_directory (tree_after first history) x ≡ is_directory (tree_after first short) x)
      there = rw (tree_at-after first history n) at (nodes_at first history n is legal x (rw (tree_at-after first history n) some))

  more_nodes : HasMoreNodes (tree_at_cut first short cut) (tree_at_cut first history cut)
  more_nodes = record {
    rows = sym (rows_at_cut-take first history n cut legal low);
    nodes =
        λ x some. same_node x
        (was_there (get (tree_after first short).nodes x) (bytes_at first short x (cut_of cut x)) (rw (node_at_cut_is first short cut x) at some));
  }
    where
      was_there : (o : Option Node) (bytes : List ℕ) → IsSome (option_map (with_bytes bytes) o) → IsSome o
      was_there (Some node) bytes some = refl
      was_there None bytes some = some

pub cut_trees_grow : CutTreesGrow
cut_trees_grow first history count cut is legal low = more_nodes first history count cut is legal low
