-- How nodes are put into a tree one after another.
use Rattle.std.proofs.Common.{◌≡◌, ◌≢◌, ℕ, zero, suc, ◌+◌, ◌≤◌, Bool, true, false, cond, not, ◌&&◌, List, [], ◌∷◌, ◌++◌, take, replicate, eqb, nat_eq, None, Some, refl, sym, ap, ◌∙◌, arith}
use Rattle.std.specs.Prelude.{slice_index}
use Rattle.std.specs.List.{range_with_len, flat_map}
use Rattle.std.specs.Option.{option_or}
use Rattle.std.specs.Ordering.{nat_cmp}
use Rattle.std.specs.Cmp.{nat_cmp_total, unsigned_ties}
use Rattle.std.specs.FinMap.{find, get, empty, insert, from_entries, from_entries_push, get-from_entries, nat_cmp-IsAntisymmetric}
use Rattle.std.proofs.lemmas.Bool.{cond-true, eq-eqb, ne_eqb}
use Rattle.std.proofs.lemmas.List.{append-nil}
use Rattle.std.proofs.lemmas.Grind.{flat_map-append}
use Rattle.sfs_base.specs.Lists.{Roomy}
use Rattle.sfs_base.specs.declared.numbers.Kind.TheVariants.{File, Directory}
use Rattle.sfs_image.specs.Inode.{Inode}
use Rattle.tree_laws.specs.Build.{with_node, root_alone}
use Rattle.tree_laws.specs.Tree.{TreeState, Node}
use Rattle.tree_laws.proofs.Joined.{find-append}
use Rattle.disk_tree.specs.Built.{node_by_inode, node_at, node_entries, with_nodes, with_node_of}
use Rattle.disk_tree.specs.Contents.{bytes_of_inode}
use Rattle.disk_tree.specs.Inodes.{inode_at}
use Rattle.block_map.proofs.Places.{range_more}

module _ (inodes : List Inode) (named : List ℕ) (contents : List (Roomy ℕ)) where
  pub no_nodes : node_entries inodes named contents 0 ≡ []
  unfolding node_entries
  no_nodes = refl

  pub more_nodes : (n : ℕ) → node_entries inodes named contents (n + 1) ≡ node_entries inodes named contents n ++ node_at inodes named contents n
  unfolding node_entries
  more_nodes n =
      ap (flat_map (node_at inodes named contents)) (range_more 0 n ∙ (let e : 0 + n ≡ n = omega arith in ap (λ (k : ℕ). range_with_len 0 n ++ k ∷ []) e))
      ∙ flat_map-append (node_at inodes named contents) (range_with_len 0 n) (n ∷ [])
      ∙ ap (λ (xs : List (ℕ × Node)). flat_map (node_at inodes named contents) (range_with_len 0 n) ++ xs) (append-nil (node_at inodes named contents n))

-- one key or none, which is another
other_key : (inode : Inode) (count : ℕ) (bytes : List ℕ) (i q : ℕ) → q ≢ i → find nat_cmp q (node_by_inode inode count bytes i) ≡ None
other_key inode count bytes i q other = by (nat_eq inode.kind 2) (nat_eq inode.kind 1 && not (nat_eq count 0))
  where
    apart : (node : Node) → find nat_cmp q ((i, node) ∷ []) ≡ None
    apart node = ap (λ b. cond b (Some node) None) (sym (unsigned_ties q i) ∙ ne_eqb q i other)

    by : (a b : Bool)
        → find {X = Node} nat_cmp q
        (cond a ((i, record { kind = Directory; bytes = [] }) ∷ []) (cond b ((i, record { kind = File; bytes = take inode.size bytes }) ∷ []) []))
        ≡ None
    by true b = apart (record { kind = Directory; bytes = [] })
    by false true = apart (record { kind = File; bytes = take inode.size bytes })
    by false false = refl

module _ (inodes : List Inode) (named : List ℕ) (contents : List (Roomy ℕ)) where
  pub fresh_node : (n q : ℕ) → n ≤ q → find nat_cmp q (node_entries inodes named contents n) ≡ None
  fresh_node zero q le = ap (find nat_cmp q) (no_nodes inodes named contents)
  fresh_node (suc n) q le =
      (let e : suc n ≡ n + 1 = omega arith in ap (λ (k : ℕ). find nat_cmp q (node_entries inodes named contents k)) e)
      ∙ ap (find nat_cmp q) (more_nodes inodes named contents n)
      ∙ find-append nat_cmp q (node_entries inodes named contents n) (node_at inodes named contents n)
      ∙ ap (λ o. option_or o (find nat_cmp q (node_at inodes named contents n))) (fresh_node n q (omega arith))
      ∙ other_key (inode_at inodes n) (slice_index named n) (bytes_of_inode contents n) n q (λ same. omega arith)

  pub absent_node : (n : ℕ) → get (from_entries {R = nat_cmp} (node_entries inodes named contents n)) n ≡ None
  absent_node n = get-from_entries nat_cmp_total (node_entries inodes named contents n) n ∙ fresh_node n n (omega arith)

  pub put_node_more : (start : TreeState) (n : ℕ)
      → with_node_of (with_nodes start (node_entries inodes named contents n)) (inode_at inodes n) (slice_index named n) (bytes_of_inode contents n) n
      ≡ with_nodes start (node_entries inodes named contents (n + 1))
  put_node_more start n =
      by (nat_eq (inode_at inodes n).kind 2) (nat_eq (inode_at inodes n).kind 1 && not (nat_eq (slice_index named n) 0))
      ∙ ap (with_nodes start) (sym (more_nodes inodes named contents n))
    where
      es : List (ℕ × Node)
      es = node_entries inodes named contents n

      push : (node : Node)
          → with_node (with_nodes start (node_entries inodes named contents n)) n node.kind node.bytes
          ≡ with_nodes start (node_entries inodes named contents n ++ (n, node) ∷ [])
      push node =
          let here : insert (from_entries (node_entries inodes named contents n)) n node
          ≡ from_entries {R = nat_cmp} (node_entries inodes named contents n ++ (n, node) ∷ []) =
          sym (from_entries_push nat_cmp_total nat_cmp-IsAntisymmetric (node_entries inodes named contents n) n node (fresh_node n n (omega arith))) in
          λ j. record { rows = start.rows; nodes = here j; first = start.first; share = start.share; made = start.made }

      by : (a b : Bool)
          → cond a (with_node (with_nodes start (node_entries inodes named contents n)) n Directory [])
          (cond b (with_node (with_nodes start (node_entries inodes named contents n)) n File (take (inode_at inodes n).size (bytes_of_inode contents n)))
          (with_nodes start (node_entries inodes named contents n)))
          ≡ with_nodes start
          (node_entries inodes named contents n
          ++ cond a ((n, record { kind = Directory; bytes = [] }) ∷ [])
          (cond b ((n, record { kind = File; bytes = take (inode_at inodes n).size (bytes_of_inode contents n) }) ∷ []) []))
      by true b = push (record { kind = Directory; bytes = [] })
      by false true = push (record { kind = File; bytes = take (inode_at inodes n).size (bytes_of_inode contents n) })
      by false false = ap (with_nodes start) (sym (append-nil (node_entries inodes named contents n)))

-- a tree that has the root alone has the node of the first inode, which is a directory
pub root_put : (inodes : List Inode) (named : List ℕ) (contents : List (Roomy ℕ)) (first share cores : ℕ) → (inode_at inodes 0).kind ≡ 2 →
    root_alone first share cores ≡ with_nodes (root_alone first share cores) (node_entries inodes named contents 1)
root_put inodes named contents first share cores kind =
    let here : insert empty 0 (record { kind = Directory; bytes = [] }) ≡ from_entries {R = nat_cmp} (node_entries inodes named contents 1) =
    sym (ap from_entries (more_nodes inodes named contents 0
    ∙ ap (λ (xs : List (ℕ × Node)). xs ++ node_at inodes named contents 0) (no_nodes inodes named contents)
    ∙ cond-true (eqb (inode_at inodes 0).kind 2) _ _ (eq-eqb _ _ kind))) in
    λ j. record { rows = empty; nodes = here j; first = first; share = share; made = replicate cores 0 }
