-- An effect that fits keeps a tree sound and its nodes numbered.
use Rattle.std.proofs.Common.{◌≡◌, ◌≢◌, ℕ, ◌+◌, ◌*◌, ◌<◌, ◌≤◌, true, false, [], length, set, slice_index, Option, Some, None, IsSome, ◌⊎◌, inl, inr, refl, sym, ap, subst, ◌∙◌, arith, nat_eq, length-set, get_or-set_same, get_or-set_other}
use borrow.Author.Tests.{eqb-true, eqb-false}
use Rattle.std.specs.Ordering.{nat_cmp}
use Rattle.std.specs.FinMap.{FinMap, get, insert}
use Rattle.sfs_base.specs.declared.numbers.Kind.{Kind}
use Rattle.tree_laws.specs.Tree.{TreeState, Node, made_by, next_number}
use Rattle.tree_laws.specs.Effect.{Effect, Stays, Adds, Removes, Moves, Edits, Edit, edited, with_edit, tree_with}
use Rattle.tree_laws.specs.Sound.{IsSound, IsMade, IsNumbered}
use Rattle.tree_laws.specs.Fits.{Fits}
use Rattle.tree_laws.specs.Laws.{FittingKeepsSound}
use Rattle.tree_laws.proofs.KeepsSound.{IsSound-adds, IsSound-removes}
use Rattle.tree_laws.proofs.KeepsMoves.{IsSound-moves}
use Rattle.tree_laws.proofs.KeepsNodes.{with_nodes, KeepKinds, KeepKinds-new, KeepKinds-edit, IsSound-nodes, node_cases, directory_node}
use Rattle.sfs_base.proofs.BasicOptions.{some_is_no_none}

pub IsSound-kept : (tree : TreeState) (core : ℕ) (effect : Effect) (makes : Option Kind) → IsSound tree → Fits tree core effect makes
    → IsSound (tree_with tree core effect makes)
IsSound-kept tree core Stays None s f = s
IsSound-kept tree core (Adds d n c) None s f = IsSound-adds tree s d n c f
IsSound-kept tree core (Removes d n c) None s f = IsSound-removes tree s d n c f
IsSound-kept tree core (Moves p n q m c) None s f = IsSound-moves tree s p n q m c f
IsSound-kept tree core (Edits file edit) None s f = IsSound-nodes tree _ tree.made s (KeepKinds-edit tree file edit tree.made)
IsSound-kept tree core Stays (Some kind) s f = absurd f
IsSound-kept tree core (Removes d n c) (Some kind) s f = absurd f
IsSound-kept tree core (Moves p n q m c) (Some kind) s f = absurd f
IsSound-kept tree core (Edits file edit) (Some kind) s f = absurd f
IsSound-kept tree core (Adds d n c) (Some kind) s f =
    IsSound-adds next sound d n c (record {
      holder = record { kind = keep.kind d (directory_node tree d f.holder.kind) ∙ f.holder.kind; alive = f.holder.alive };
      free = f.free;
      no_root = λ root. some_is_no_none (directory_node tree 0 s.root) (ap (get tree.nodes) (sym root) ∙ f.fresh);
      placeless = λ k e m row. some_is_no_none (s.node e m c row) f.fresh;
      node = elim (node_cases tree.nodes (next_number tree core) (record { kind = kind; bytes = [] }) c) [
        | inl here ↦ subst IsSome (sym here.1) refl
        | inr other ↦ absurd (other.0 f.number)
      ];
    })
  where
    next : TreeState
    next = with_nodes tree (insert tree.nodes (next_number tree core) (record { kind = kind; bytes = [] })) (set tree.made core (made_by tree core + 1))

    keep : KeepKinds tree (insert tree.nodes (next_number tree core) (record { kind = kind; bytes = [] })) (set tree.made core (made_by tree core + 1))
    keep = KeepKinds-new tree (next_number tree core) (record { kind = kind; bytes = [] }) _ (ap (get tree.nodes) (sym f.number) ∙ f.fresh)

    sound : IsSound next
    sound = IsSound-nodes tree _ _ s keep

-- numbers that are known stay known where the nodes that are there keep their numbers and no core has made fewer
module _ (tree next : TreeState) (same_first : next.first ≡ tree.first) (same_share : next.share ≡ tree.share)
    (as_long : length tree.made ≡ length next.made) where
  IsMade-more : ((core : ℕ) → slice_index tree.made core ≤ slice_index next.made core) → (number : ℕ) → IsMade tree number → IsMade next number
  IsMade-more more number made =
      let lt : made.0 < length tree.made = made.2 in
      let before : made.1 < slice_index tree.made made.0 = made.3 in
      let le = more made.0 in (
        made.0,
        made.1,
        omega arith,
        omega arith,
        made.4 ∙ ap (λ n. n + made.0 * tree.share + made.1) (sym same_first)
            ∙ ap (λ n. next.first + made.0 * n + made.1) (sym same_share),
      )

same_made : (tree : TreeState) (nodes : FinMap nat_cmp Node) → IsNumbered tree → ((x : ℕ) → IsSome (get nodes x) → IsSome (get tree.nodes x))
    → IsNumbered (with_nodes tree nodes tree.made)
same_made tree nodes n back = record { known = λ x some. n.known x (back x some); within = n.within }

-- bytes that change give no number
edit_back : (tree : TreeState) (file : ℕ) (edit : Edit) (x : ℕ) → IsSome (get (with_edit tree.nodes file edit (get tree.nodes file)) x)
    → IsSome (get tree.nodes x)
edit_back tree file edit x =
    elim (get tree.nodes file) as (λ o. get tree.nodes file ≡ o → IsSome (get (with_edit tree.nodes file edit o) x) → IsSome (get tree.nodes x)) [
      | None ↦ λ e some. some
      | Some n ↦ λ e some. elim (node_cases tree.nodes file (record n { bytes = edited edit n.bytes }) x) [
        | inl here ↦ subst IsSome (sym (ap (get tree.nodes) here.0 ∙ e)) refl
        | inr other ↦ subst IsSome other.1 some
      ]
    ] refl

-- one more node of a core
module _ (tree : TreeState) (core : ℕ) (node : Node) (n : IsNumbered tree) (lt : core < length tree.made) (room : made_by tree core < tree.share) where
  next_tree : TreeState
  next_tree = with_nodes tree (insert tree.nodes (next_number tree core) node) (set tree.made core (made_by tree core + 1))

  made_at : (other : ℕ)
      → ((other ≡ core) × (slice_index (set tree.made core (made_by tree core + 1)) other ≡ made_by tree core + 1))
      ⊎ ((other ≢ core) × (slice_index (set tree.made core (made_by tree core + 1)) other ≡ slice_index tree.made other))
  made_at other =
      elim (nat_eq other core) as (λ b. nat_eq other core ≡ b
      → ((other ≡ core) × (slice_index (set tree.made core (made_by tree core + 1)) other ≡ made_by tree core + 1))
      ⊎ ((other ≢ core) × (slice_index (set tree.made core (made_by tree core + 1)) other ≡ slice_index tree.made other))) [
        | true ↦
            λ t. inl (
              eqb-true _ _ t,
              ap (slice_index (set tree.made core (made_by tree core + 1))) (eqb-true _ _ t)
                  ∙ get_or-set_same tree.made core (made_by tree core + 1) 0 lt,
            )
        | false ↦ λ t. inr (eqb-false _ _ t, get_or-set_other tree.made core other (made_by tree core + 1) 0 (eqb-false _ _ t))
      ] refl

  made_more : (other : ℕ) → slice_index tree.made other ≤ slice_index (set tree.made core (made_by tree core + 1)) other
  made_more other = elim (made_at other) [
    | inl same ↦ let e : slice_index tree.made other ≡ slice_index tree.made core = ap (slice_index tree.made) same.0 in let f = same.1 in omega arith
    | inr apart ↦ let f = apart.1 in omega arith
  ]

  IsNumbered-next : IsNumbered (with_nodes tree (insert tree.nodes (next_number tree core) node) (set tree.made core (made_by tree core + 1)))
  IsNumbered-next = record {
    known = λ x some. elim (node_cases tree.nodes (next_number tree core) node x) [
      | inl new ↦
          inr (
            core,
            made_by tree core,
            subst (λ k. core < k) (sym (length-set tree.made core _)) lt,
            subst (λ k. made_by tree core < k) (sym (get_or-set_same tree.made core (made_by tree core + 1) 0 lt)) (one_more (made_by tree core)),
            new.0,
          )
      | inr old ↦ elim (n.known x (subst IsSome old.1 some)) [
        | inl low ↦ inl low
        | inr made ↦
            inr
            (IsMade-more tree (with_nodes tree (insert tree.nodes (next_number tree core) node) (set tree.made core (made_by tree core + 1))) refl refl
            (sym (length-set tree.made core _)) made_more x made)
      ]
    ];
    within = λ other less. elim (made_at other) [
      | inl same ↦ let f = same.1 in omega arith
      | inr apart ↦ let f = apart.1 in let old = n.within other (subst (λ k. other < k) (length-set tree.made core _) less) in omega arith
    ];
  }
    where
      one_more : (n : ℕ) → n < n + 1
      one_more n = omega arith

pub IsNumbered-kept : (tree : TreeState) (core : ℕ) (effect : Effect) (makes : Option Kind) → IsNumbered tree → core < length tree.made
    → Fits tree core effect makes → IsNumbered (tree_with tree core effect makes)
IsNumbered-kept tree core Stays None n lt f = n
IsNumbered-kept tree core (Adds d m c) None n lt f = record { known = n.known; within = n.within }
IsNumbered-kept tree core (Removes d m c) None n lt f = record { known = n.known; within = n.within }
IsNumbered-kept tree core (Moves p m q k c) None n lt f = record { known = n.known; within = n.within }
IsNumbered-kept tree core (Edits file edit) None n lt f = same_made tree _ n (edit_back tree file edit)
IsNumbered-kept tree core Stays (Some kind) n lt f = absurd f
IsNumbered-kept tree core (Removes d m c) (Some kind) n lt f = absurd f
IsNumbered-kept tree core (Moves p m q k c) (Some kind) n lt f = absurd f
IsNumbered-kept tree core (Edits file edit) (Some kind) n lt f = absurd f
IsNumbered-kept tree core (Adds d m c) (Some kind) n lt f =
    let next = IsNumbered-next tree core (record { kind = kind; bytes = [] }) n lt f.within in
    record { known = next.known; within = next.within }

pub fitting_keeps_sound : FittingKeepsSound
fitting_keeps_sound = IsSound-kept
