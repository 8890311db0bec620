-- The nodes at a cut.
use Rattle.std.proofs.Common.{◌≡◌, ℕ, true, false, cond, ◌&&◌, List, [], ◌∷◌, map, Option, Some, None, IsSome, option_map, refl, sym, ap, ◌∙◌}
use Rattle.std.specs.Prelude.{◌↔◌}
use Rattle.std.specs.Option.{option_map_or}
use Rattle.std.specs.Ordering.{nat_cmp, eq_by_cmp}
use Rattle.std.specs.FinMap.{FinMap, find, entries, get, from_sorted, is_sorted, get-from_sorted, get-entries, entries_sorted}
use Rattle.std.specs.FinMap.Entries.{below_all}
use Rattle.std.specs.Cmp.{unsigned_ties}
use borrow.Author.Tests.{eqb-true}
use Rattle.sfs_base.specs.declared.numbers.Kind.TheVariants.{File}
use Rattle.tree_laws.specs.declared.history.Entry.{Entry}
use Rattle.tree_laws.specs.Tree.{TreeState, Node, is_directory_kind, bytes_of, kind_of}
use Rattle.tree_laws.specs.Changes.{bytes_at}
use Rattle.tree_laws.specs.History.{tree_after, tree_after_entry}
use Rattle.cut_laws.specs.Cut.{Cut, cut_of, tree_at_cut}
use Rattle.cut_laws.specs.Laws.{CutsKeepKinds, FilesAreCut}

-- nodes that get other bytes, each by its number
module _ (bytes : ℕ → List ℕ) where
  abbrev pub with_bytes : ℕ × Node → ℕ × Node
  with_bytes entry = (entry.0, record entry.1 { bytes = bytes entry.0 })

  below_kept : (k : ℕ) (es : List (ℕ × Node)) → below_all nat_cmp k (map with_bytes es) ≡ below_all nat_cmp k es
  below_kept k [] = refl
  below_kept k (e ∷ es) = ap (λ b. Rattle.std.specs.Ordering.is_lt (nat_cmp k e.0) && b) (below_kept k es)

  sorted_kept : (es : List (ℕ × Node)) → is_sorted nat_cmp (map with_bytes es) ≡ is_sorted nat_cmp es
  sorted_kept [] = refl
  sorted_kept (e ∷ es) = ap (λ b. b && is_sorted nat_cmp (map with_bytes es)) (below_kept e.0 es) ∙ ap (λ b. below_all nat_cmp e.0 es && b) (sorted_kept es)

  -- a node with its own bytes
  abbrev pub own_bytes_of : ℕ → Node → Node
  own_bytes_of x node = record node { bytes = bytes x }

  given : (q : ℕ) (es : List (ℕ × Node)) → find nat_cmp q (map with_bytes es) ≡ option_map (own_bytes_of q) (find nat_cmp q es)
  given q [] = refl
  given q (e ∷ es) =
      elim (eq_by_cmp nat_cmp q e.0) as (λ b. eq_by_cmp nat_cmp q e.0 ≡ b
      → cond b (Some (own_bytes_of e.0 e.1)) (find nat_cmp q (map with_bytes es)) ≡ option_map (own_bytes_of q) (cond b (Some e.1) (find nat_cmp q es))) [
        | true ↦ λ t. ap (λ k. Some (own_bytes_of k e.1)) (sym (eqb-true q e.0 (unsigned_ties q e.0 ∙ t)))
        | false ↦ λ _. given q es
      ] refl

  -- each node is there, with its own bytes
  pub node_kept : (nodes : FinMap nat_cmp Node) (x : ℕ)
      → get (from_sorted {R = nat_cmp} (map with_bytes (entries nodes))) x ≡ option_map (own_bytes_of x) (get nodes x)
  node_kept nodes x =
      get-from_sorted nat_cmp (map with_bytes (entries nodes)) x (rw (sorted_kept (entries nodes)) (entries_sorted nodes))
      ∙ given x (entries nodes)
      ∙ ap (option_map (own_bytes_of x)) (sym (get-entries nodes x))

  pub still_node : (nodes : FinMap nat_cmp Node) (x : ℕ) → IsSome (get nodes x) → IsSome (get (from_sorted {R = nat_cmp} (map with_bytes (entries nodes))) x)
  still_node nodes x some = rw (node_kept nodes x) (mapped (get nodes x) some)
    where
      mapped : (o : Option Node) → IsSome o → IsSome (option_map (own_bytes_of x) o)
      mapped (Some n) e = refl
      mapped None e = e

  pub still_kind : (nodes : FinMap nat_cmp Node) (x : ℕ)
      → option_map_or (λ (n : Node). is_directory_kind n.kind) (get (from_sorted {R = nat_cmp} (map with_bytes (entries nodes))) x) false
      ≡ option_map_or (λ (n : Node). is_directory_kind n.kind) (get nodes x) false
  still_kind nodes x = ap (λ (o : Option Node). option_map_or (λ (n : Node). is_directory_kind n.kind) o false) (node_kept nodes x) ∙ mapped (get nodes x)
    where
      mapped : (o : Option Node)
          → option_map_or (λ (n : Node). is_directory_kind n.kind) (option_map (own_bytes_of x) o) false
          ≡ option_map_or (λ (n : Node). is_directory_kind n.kind) o false
      mapped (Some n) = refl
      mapped None = refl

module _ (first : TreeState) (history : List Entry) (cut : Cut) where
  abbrev last : TreeState
  last = tree_after first history

  -- a node at a cut is that of the tree after the history, with its bytes at its own stamp
  pub node_at_cut_is : (x : ℕ)
      → get (tree_at_cut first history cut).nodes x ≡ option_map (λ (n : Node). record n { bytes = bytes_at first history x (cut_of cut x) }) (get last.nodes x)
  node_at_cut_is x = node_kept (λ (y : ℕ). bytes_at first history y (cut_of cut y)) last.nodes x

  own_bytes : (x : ℕ) → IsSome (get last.nodes x) → bytes_of (tree_at_cut first history cut) x ≡ bytes_at first history x (cut_of cut x)
  own_bytes x some = ap (λ (o : Option Node). option_map_or (λ (n : Node). n.bytes) o []) (node_at_cut_is x) ∙ mapped (get last.nodes x) some
    where
      mapped : (o : Option Node) → IsSome o
          → option_map_or (λ (n : Node). n.bytes) (option_map (λ (n : Node). record n { bytes = bytes_at first history x (cut_of cut x) }) o) []
          ≡ bytes_at first history x (cut_of cut x)
      mapped (Some n) e = refl
      mapped None e = cc

  own_kind : (x : ℕ) → kind_of (tree_at_cut first history cut) x ≡ kind_of last x
  own_kind x = ap (λ (o : Option Node). option_map_or (λ (n : Node). n.kind) o File) (node_at_cut_is x) ∙ mapped (get last.nodes x)
    where
      mapped : (o : Option Node)
          → option_map_or (λ (n : Node). n.kind) (option_map (λ (n : Node). record n { bytes = bytes_at first history x (cut_of cut x) }) o) File
          ≡ option_map_or (λ (n : Node). n.kind) o File
      mapped (Some n) = refl
      mapped None = refl

  same_nodes : (x : ℕ) → IsSome (get (tree_at_cut first history cut).nodes x) ↔ IsSome (get last.nodes x)
  same_nodes x = (
    λ some. back (get last.nodes x) (rw (node_at_cut_is x) at some),
    λ some. still_node (λ (y : ℕ). bytes_at first history y (cut_of cut y)) last.nodes x some,
  )
    where
      back : (o : Option Node) → IsSome (option_map (λ (n : Node). record n { bytes = bytes_at first history x (cut_of cut x) }) o) → IsSome o
      back (Some n) e = refl
      back None e = e

-- along a history the first number and the share stay
same_first : (first : TreeState) (history : List Entry) → (first.first ≡ (tree_after first history).first) × (first.share ≡ (tree_after first history).share)
same_first first [] = (refl, refl)
same_first first (entry ∷ history) = same_first (tree_after_entry first entry) history

pub cuts_keep_kinds : CutsKeepKinds
cuts_keep_kinds first history cut = record {
  nodes = same_nodes first history cut;
  kinds = own_kind first history cut;
  first = (same_first first history).0;
  share = (same_first first history).1;
  made = refl;
}

pub files_are_cut : FilesAreCut
files_are_cut first history cut node some = own_bytes first history cut node some
