-- What is applied fits the tree at a cut.
use Rattle.std.proofs.Common.{◌≡◌, ◌≢◌, ℕ, zero, suc, ◌<◌, ◌≤◌, true, false, cond, List, [], ◌∷◌, Option, Some, None, IsSome, inl, inr, refl, sym, ap, subst, ◌∙◌, nat_eq, arith}
use borrow.Author.Tests.{eqb-true, lt-ltb}
use Rattle.std.specs.Prelude.{filter, fold}
use Rattle.std.specs.FinMap.{FinMap, get}
use Rattle.sfs_base.specs.declared.numbers.Kind.{Kind}
use Rattle.tree_laws.specs.Order.{key_cmp}
use Rattle.tree_laws.specs.Tree.{TreeState, row_of, is_directory, next_number}
use Rattle.tree_laws.specs.Effect.{Effect, Stays, Adds, Removes, Moves, Edits, tree_with}
use Rattle.tree_laws.specs.Changes.{RowChange, added, removed, other_side, changes_by}
use Rattle.tree_laws.specs.Sound.{Above, at_root, below, IsSound}
use Rattle.tree_laws.specs.Fits.{MayHold, HasNoRows, Fits, FitsAdds, FitsRemoves, FitsMoves}
use Rattle.tree_laws.proofs.RowFacts.{alive_named, root_alive, named_alive}
use Rattle.tree_laws.proofs.KeepsSound.{with_rows, IsSound-adds, IsSound-removes}
use Rattle.tree_laws.proofs.KeepsMoves.{IsSound-moves}
use Rattle.tree_laws.proofs.KeepsNodes.{directory_node, node_cases}
use Rattle.cut_laws.specs.Cut.{with_own}
use Rattle.cut_laws.specs.Rules.{IsOneOf}
use Rattle.cut_laws.proofs.Basics.{below_or, filter_all, filter_none}
use Rattle.sfs_base.proofs.BasicOptions.{some_is_no_none}
use Rattle.sfs_base.proofs.BasicNumbers.{not_less, not_below}
use Rattle.sfs_base.proofs.BasicTruth.{not_both}
use Rattle.cut_laws.proofs.Own.{folds, stamp_of, sides, comes_in, replaced_in}
use Rattle.cut_laws.proofs.Nodes.{node_stays}
use Rattle.cut_laws.proofs.Runs.{Run, Made, IsLast, Keeps, Seen, below_cut}
use Rattle.cut_laws.proofs.Seen.{ahead, behind, held, all_seen, other_end, first_end, stays_named}

-- the nodes of all trees of a run, each with its kind
pub record HasNodes (r : Run) (whole : TreeState) : Type 0 where
  pub node : (t x : ℕ) → IsSome (get (r.tree t).nodes x) → IsSome (get whole.nodes x)
  pub kind : (t x : ℕ) → IsSome (get (r.tree t).nodes x) → is_directory whole x ≡ is_directory (r.tree t) x

module _ (r : Run) (cut : ℕ → ℕ) (s : Seen r cut) (keeps : Keeps r cut) (whole : TreeState) (nodes : HasNodes r whole) where
  -- the tree at the cut, with what lies below a stamp
  abbrev pub seen_tree : ℕ → TreeState
  seen_tree t = with_rows whole (s.rows t)

  made : (t : ℕ) (effect : Effect) (x : RowChange) → r.effect t ≡ effect → IsOneOf (changes_by (r.tree t) t effect) x → Made r t x
  made t effect x e one = rw e one

  kind_seen : (t x : ℕ) → is_directory (r.tree t) x ≡ true → is_directory whole x ≡ true
  kind_seen t x kind = nodes.kind t x (directory_node (r.tree t) x kind) ∙ kind

  kind_was : (t x : ℕ) → IsSome (get (r.tree t).nodes x) → is_directory whole x ≡ true → is_directory (r.tree t) x ≡ true
  kind_was t x some kind = sym (nodes.kind t x some) ∙ kind

  -- a directory with a change below its cut is alive in the tree at the cut
  may_hold : (t d : ℕ) → MayHold (r.tree t) d → (x : RowChange) → Made r t x → x.directory ≡ d → t < cut d → MayHold (seen_tree t) d
  may_hold t d may x one same lt = record {
    kind = kind_seen t d may.kind;
    alive = elim (alive_named (r.tree t) d may.alive) [
      | inl root ↦ root_alive (seen_tree t) d root
      | inr named ↦
          named_alive (seen_tree t) d
          (stays_named r cut s keeps d
          (λ b e n kind adds makes. keeps.births b e n kind d t x adds makes one same lt) t named.directory named.name may.kind named.row)
    ];
  }

  -- what the tree at the cut names is a node of the tree at the stamp
  node_seen : (t d : ℕ) (n : List ℕ) (x : ℕ) → get (s.rows t) (d, n) ≡ Some x → IsSome (get (r.tree t).nodes x)
  node_seen zero d n x row = (r.sound zero).node d n x (sym (ahead r cut s zero d n (omega arith)) ∙ row)
  node_seen (suc t) d n x row = elim (below_or t (cut d)) [
    | inl lt ↦ (r.sound (suc t)).node d n x (sym (ahead r cut s (suc t) d n (omega arith)) ∙ row)
    | inr le ↦ rw (r.next t) (node_stays (r.tree t) (r.core t) (r.effect t) (r.makes t) x (r.fits t) (node_seen t d n x (sym (behind r cut s t d n le) ∙ row)))
  ]

  -- a way up whose placings lie below the cuts of the holders is there
  above_seen : (t : ℕ) {node : ℕ} {above : List ℕ} → Above (r.tree t) node above → is_directory (r.tree t) node ≡ true
      → ((x holder : ℕ) (name : List ℕ) (u : ℕ) → IsOneOf (node ∷ above) x → row_of (r.tree t) holder name ≡ Some x → IsLast r x t u → u < cut holder)
      → Above (seen_tree t) node above
  above_seen t at_root kind h = at_root
  above_seen t (below node holder name above row rest) kind h =
      below node holder name above (held r cut s t holder name node kind row (λ u last. h node holder name u (inl refl) row last))
      (above_seen t rest ((r.sound t).holds holder name node row).0 (λ x other n u one. h x other n u (inr one)))

  -- a directory that a change below its cut ends has no rows
  bare_seen : (t : ℕ) (x : RowChange) (child : ℕ) → Made r t x → x.ends ≡ true → x.child ≡ child → t < cut x.directory → HasNoRows (r.tree t) child
      → HasNoRows (seen_tree t) child
  bare_seen t x child one ends same lt bare n =
      all_seen r cut s child (λ u y own dir. rw dir at (keeps.removals t x u y one ends lt own (dir ∙ sym same))) t n ∙ bare n

  adds_seen : (t d : ℕ) (n : List ℕ) (c : ℕ) (makes : Option Kind) → r.effect t ≡ Adds d n c → r.makes t ≡ makes → Fits (r.tree t) (r.core t) (Adds d n c) makes
      → t < cut d → FitsAdds (seen_tree t) d n c
  adds_seen t d n c None e mk f lt = record {
    holder = may_hold t d f.holder (added t d n c None) (made t (Adds d n c) (added t d n c None) e (inl refl)) refl lt;
    free = ahead r cut s t d n (omega arith) ∙ f.free;
    no_root = f.no_root;
    placeless = λ kind. absurd (not_both (kind_was t c f.node kind) (r.files t d n c e mk));
    node = nodes.node t c f.node;
  }
  adds_seen t d n c (Some kind) e mk f lt = record {
    holder = may_hold t d f.holder (added t d n c None) (made t (Adds d n c) (added t d n c None) e (inl refl)) refl lt;
    free = ahead r cut s t d n (omega arith) ∙ f.free;
    no_root = λ root. some_is_no_none (directory_node (r.tree t) 0 (r.sound t).root) (ap (get (r.tree t).nodes) (sym root) ∙ f.fresh);
    placeless = λ dir k m row. some_is_no_none (node_seen t k m c row) f.fresh;
    node =
        nodes.node (suc t) c
        (subst (λ (tree : TreeState). IsSome (get tree.nodes c))
        (sym (r.next t ∙ ap (λ (g : Effect). tree_with (r.tree t) (r.core t) g (r.makes t)) e ∙ ap (tree_with (r.tree t) (r.core t) (Adds d n c)) mk))
        (elim (node_cases (r.tree t).nodes (next_number (r.tree t) (r.core t)) (record { kind = kind; bytes = [] }) c) [
          | inl here ↦ rw here.1 refl
          | inr other ↦ absurd (other.0 f.number)
        ]));
  }

  removes_seen : (t d : ℕ) (n : List ℕ) (c : ℕ) → r.effect t ≡ Removes d n c → FitsRemoves (r.tree t) d n c → t < cut d → FitsRemoves (seen_tree t) d n c
  removes_seen t d n c e f lt = record {
    row = ahead r cut s t d n (omega arith) ∙ f.row;
    bare = λ kind.
        let dir = kind_was t c ((r.sound t).node d n c f.row) kind in
        let x = removed t d n c None (is_directory (r.tree t) c) in
        bare_seen t x c (made t (Removes d n c) x e (inl refl)) dir refl lt (f.bare dir);
  }

  moves_seen : (t p : ℕ) (n : List ℕ) (q : ℕ) (m : List ℕ) (c : ℕ) → r.effect t ≡ Moves p n q m c → FitsMoves (r.tree t) p n q m c → t < cut p → t < cut q
      → FitsMoves (seen_tree t) p n q m c
  moves_seen t p n q m c e f lp lq = record {
    row = ahead r cut s t p n (omega arith) ∙ f.row;
    holder = may_hold t q f.holder comes (made t (Moves p n q m c) comes e (comes_in (r.tree t) t p n q m c)) refl lq;
    apart = λ same. f.apart (sym there ∙ same);
    bare = λ other row kind.
        let was : row_of (r.tree t) q m ≡ Some other = sym there ∙ row in
        let dir = kind_was t other ((r.sound t).node q m other was) kind in
        let x = removed t q m other (other_side q p) (is_directory (r.tree t) other) in
        bare_seen t x other (made t (Moves p n q m c) x e (replaced_in (r.tree t) t p n q m c other was)) dir refl lq (f.bare other was dir);
    away = λ kind apart.
        let dir = kind_was t c ((r.sound t).node p n c f.row) kind in
        let way = f.away dir apart in (
          way.0,
          above_seen t way.1 f.holder.kind
              (λ x holder name u one row last. keeps.ancestors t comes way.0 x holder name u
              (made t (Moves p n q m c) comes e (comes_in (r.tree t) t p n q m c)) refl (two_sided apart) dir lq way.1 one row last),
          way.2,
        );
  }
    where
      comes : RowChange
      comes = added t q m c (other_side q p)

      there : get (s.rows t) (q, m) ≡ row_of (r.tree t) q m
      there = ahead r cut s t q m (omega arith)

      two_sided : p ≢ q → other_side q p ≢ None
      two_sided apart = elim (nat_eq q p) as (λ b. nat_eq q p ≡ b → cond b None (Some p) ≢ None) [
        | true ↦ λ same. absurd (apart (sym (eqb-true _ _ same)))
        | false ↦ λ _ e. cc
      ] refl

  -- all changes of a stamp are made in the tree at the cut, or none is
  all_made : (t : ℕ) (effect : Effect) → ((x : RowChange) → IsOneOf (changes_by (r.tree t) t effect) x → t < cut x.directory)
      → fold with_own (s.rows t) (filter (below_cut cut) (changes_by (r.tree t) t effect)) ≡ Rattle.tree_laws.specs.Effect.rows_after (s.rows t) effect
  all_made t effect h =
      ap (fold with_own (s.rows t))
      (filter_all (below_cut cut) (changes_by (r.tree t) t effect)
      (λ x one. lt-ltb x.stamp (cut x.directory) (rw (stamp_of (r.tree t) t effect x one) (h x one))))
      ∙ folds (s.rows t) (r.tree t) t effect

  none_made : (t : ℕ) (effect : Effect) → ((x : RowChange) → IsOneOf (changes_by (r.tree t) t effect) x → cut x.directory ≤ t)
      → fold with_own (s.rows t) (filter (below_cut cut) (changes_by (r.tree t) t effect)) ≡ s.rows t
  none_made t effect h =
      ap (fold with_own (s.rows t))
      (filter_none (below_cut cut) (changes_by (r.tree t) t effect)
      (λ x one. not_below x.stamp (cut x.directory) (rw (stamp_of (r.tree t) t effect x one) (h x one))))

  abbrev Next : ℕ → Effect → Type 0
  Next t effect = IsSound (with_rows whole (fold with_own (s.rows t) (filter (below_cut cut) (changes_by (r.tree t) t effect))))

  spared : (t : ℕ) (effect : Effect) → IsSound (seen_tree t) → ((x : RowChange) → IsOneOf (changes_by (r.tree t) t effect) x → cut x.directory ≤ t)
      → Next t effect
  spared t effect sound h = rw (none_made t effect h) sound

  one_dir : (P : ℕ → Type 0) (x : RowChange) (y : RowChange) → P x.directory → IsOneOf (x ∷ []) y → P y.directory
  one_dir P x y h one = elim one [ inl e ↦ rw e at h | inr none ↦ absurd none ]

  adds_next : (t d : ℕ) (n : List ℕ) (c : ℕ) (makes : Option Kind) → r.effect t ≡ Adds d n c → r.makes t ≡ makes → Fits (r.tree t) (r.core t) (Adds d n c) makes
      → IsSound (seen_tree t) → Next t (Adds d n c)
  adds_next t d n c makes e mk f sound = elim (below_or t (cut d)) [
    | inl lt ↦
        rw (all_made t (Adds d n c) (λ y one. one_dir (λ k. t < cut k) (added t d n c None) y lt one))
        (IsSound-adds (seen_tree t) sound d n c (adds_seen t d n c makes e mk f lt))
    | inr le ↦ spared t (Adds d n c) sound (λ y one. one_dir (λ k. cut k ≤ t) (added t d n c None) y le one)
  ]

  removes_next : (t d : ℕ) (n : List ℕ) (c : ℕ) → r.effect t ≡ Removes d n c → FitsRemoves (r.tree t) d n c → IsSound (seen_tree t) → Next t (Removes d n c)
  removes_next t d n c e f sound = elim (below_or t (cut d)) [
    | inl lt ↦
        rw (all_made t (Removes d n c) (λ y one. one_dir (λ k. t < cut k) (removed t d n c None (is_directory (r.tree t) c)) y lt one))
        (IsSound-removes (seen_tree t) sound d n c (removes_seen t d n c e f lt))
    | inr le ↦ spared t (Removes d n c) sound (λ y one. one_dir (λ k. cut k ≤ t) (removed t d n c None (is_directory (r.tree t) c)) y le one)
  ]

  moves_next : (t p : ℕ) (n : List ℕ) (q : ℕ) (m : List ℕ) (c : ℕ) → r.effect t ≡ Moves p n q m c → FitsMoves (r.tree t) p n q m c → IsSound (seen_tree t)
      → Next t (Moves p n q m c)
  moves_next t p n q m c e f sound = elim (below_or t (cut p)) [
    | inl lp ↦
        let lq = other_end r cut s keeps t p n q m c e lp in
        subst (λ (rows : FinMap key_cmp ℕ). IsSound (with_rows whole rows))
        (sym (all_made t (Moves p n q m c) (λ y one. elim (sides (r.tree t) t p n q m c y one) [
          | inl same ↦ rw same lp
          | inr same ↦ rw same lq
        ]))) (IsSound-moves (seen_tree t) sound p n q m c (moves_seen t p n q m c e f lp lq))
    | inr le ↦ spared t (Moves p n q m c) sound (λ y one. elim (sides (r.tree t) t p n q m c y one) [
      | inl same ↦ rw same le
      | inr same ↦ subst (λ (k : ℕ). cut k ≤ t) (sym same) (elim (below_or t (cut q)) [
        | inl lq ↦ absurd (not_less (first_end r cut s keeps t p n q m c e lq) le)
        | inr above ↦ above
      ])
    ])
  ]

  next_sound : (t : ℕ) (effect : Effect) (makes : Option Kind) → r.effect t ≡ effect → r.makes t ≡ makes → Fits (r.tree t) (r.core t) effect makes
      → IsSound (seen_tree t) → Next t effect
  next_sound t Stays makes e mk f sound = sound
  next_sound t (Edits file edit) makes e mk f sound = sound
  next_sound t (Adds d n c) makes e mk f sound = adds_next t d n c makes e mk f sound
  next_sound t (Removes d n c) None e mk f sound = removes_next t d n c e f sound
  next_sound t (Moves p n q m c) None e mk f sound = moves_next t p n q m c e f sound
  next_sound t (Removes d n c) (Some kind) e mk f sound = absurd f
  next_sound t (Moves p n q m c) (Some kind) e mk f sound = absurd f

  -- the tree at the cut is sound, with what lies below any stamp
  pub seen_sound : IsSound (seen_tree 0) → (t : ℕ) → IsSound (seen_tree t)
  seen_sound begin zero = begin
  seen_sound begin (suc t) = rw (s.more t) (next_sound t (r.effect t) (r.makes t) refl refl (r.fits t) (seen_sound begin t))
