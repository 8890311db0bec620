-- A store's parts stay tied to one another by each change.
use Rattle.std.proofs.Common.{◌≡◌, ◌≢◌, ℕ, ◌+◌, ◌*◌, ◌^◌, ◌<◌, ◌≤◌, Bool, true, false, cond, List, Option, Some, None, IsSome, ◌⊎◌, inl, inr, refl, sym, ap, subst, ◌∙◌, arith}
use Rattle.std.specs.Ordering.{nat_cmp, eq_by_cmp, is_eq}
use Rattle.std.specs.Option.{option_map_or}
use Rattle.std.specs.Cmp.{nat_cmp_total, tied_itself}
use Rattle.std.specs.FinMap.{FinMap, get, insert, remove, empty, len, get-empty, len-empty, get-insert, nat_cmp-IsAntisymmetric}
use Rattle.sfs_tree.specs.declared.counts.Counts.{Counts}
use Rattle.tree_laws.specs.Order.{Key, key_cmp}
use Rattle.tree_laws.specs.Tree.{Node, is_directory_kind}
use Rattle.tree_laws.specs.Effect.{Edit, edited, with_edit}
use Rattle.sfs_tree.specs.NodesState.{NodesState}
use Rattle.sfs_tree.specs.RowsState.{RowsState}
use Rattle.sfs_tree.specs.StoreState.{StoreState, HasPlace}
use Rattle.sfs_tree.specs.Counts.{is_directory_in, IsCounted, IsWide, MayRise, MayFall}
use Rattle.sfs_tree.specs.Store.{IsStored}
use Rattle.tree_laws.proofs.Joined.{is_equal}
use Rattle.sfs_tree.proofs.Counted.{IsCounted-nodes, MayRise-counted, MayFall-counted}
use Rattle.tree_laws.proofs.Counting.{came, Came, stayed, len_more}
use Rattle.sfs_base.proofs.BasicOptions.{none_some, none_not_some}

is_some : {X : Type 0} (o : Option X) (x : X) → o ≡ Some x → IsSome o
is_some o x e = subst IsSome (sym e) refl

pub IsStored-new : (n : NodesState) (c : Counts) (r : RowsState) → n.nodes ≡ empty → n.places ≡ 0 → r.rows ≡ empty → r.places ≡ 0
    → ((nodes : FinMap nat_cmp Node) → IsCounted empty nodes c) → IsWide c 0 → IsStored n c r
IsStored-new n c r nodes places rows buckets counted wide = record {
  counted = subst (λ m. IsCounted m n.nodes c) (sym rows) (counted n.nodes);
  wide = subst (IsWide c) (sym places) wide;
  enough = omega arith;
  few = omega arith;
  most = let e : len r.rows ≡ 0 = ap len rows ∙ len-empty key_cmp ℕ in omega arith;
  within = λ node some. absurd (none_not_some _ (ap (λ m. get m node) nodes ∙ get-empty nat_cmp node) some);
  placed = λ d name x is. absurd (none_some (sym (ap (λ m. get m (d, name)) rows ∙ get-empty key_cmp (d, name)) ∙ is));
  children = λ d name x is. absurd (none_some (sym (ap (λ m. get m (d, name)) rows ∙ get-empty key_cmp (d, name)) ∙ is));
}

-- a node's number after another came
nodes_after : (nodes : FinMap nat_cmp Node) (k x : ℕ) (node : Node) → get (insert nodes k node) x ≡ cond (eq_by_cmp nat_cmp x k) (Some node) (get nodes x)
nodes_after nodes k x node = get-insert nat_cmp_total nodes k node x

pub some_more : (nodes : FinMap nat_cmp Node) (k x : ℕ) (node : Node) → IsSome (get nodes x) → IsSome (get (insert nodes k node) x)
some_more nodes k x node some =
    subst IsSome (sym (nodes_after nodes k x node))
    (elim (eq_by_cmp nat_cmp x k) as (λ b. IsSome (cond b (Some node) (get nodes x))) [ true ↦ refl | false ↦ some ])

pub some_before : (nodes : FinMap nat_cmp Node) (k x : ℕ) (node : Node) → IsSome (get (insert nodes k node) x) → (x ≡ k) ⊎ IsSome (get nodes x)
some_before nodes k x node some =
    elim (eq_by_cmp nat_cmp x k) as (λ b. eq_by_cmp nat_cmp x k ≡ b → IsSome (cond b (Some node) (get nodes x)) → (x ≡ k) ⊎ IsSome (get nodes x)) [
      | true ↦ λ t s. inl (nat_cmp-IsAntisymmetric x k (is_equal _ t))
      | false ↦ λ t s. inr s
    ] refl (subst IsSome (nodes_after nodes k x node) some)

-- another node is what it was
other_node : (nodes : FinMap nat_cmp Node) (k x : ℕ) (node : Node) → x ≢ k → get (insert nodes k node) x ≡ get nodes x
other_node nodes k x node differ =
    nodes_after nodes k x node
    ∙ elim (eq_by_cmp nat_cmp x k) as (λ b. eq_by_cmp nat_cmp x k ≡ b → cond b (Some node) (get nodes x) ≡ get nodes x) [
      | true ↦ λ t. absurd (differ (nat_cmp-IsAntisymmetric x k (is_equal _ t)))
      | false ↦ λ t. refl
    ] refl

pub this_node : (nodes : FinMap nat_cmp Node) (k : ℕ) (node : Node) → get (insert nodes k node) k ≡ Some node
this_node nodes k node = nodes_after nodes k k node ∙ ap (λ b. cond b (Some node) (get nodes k)) (ap is_eq (tied_itself nat_cmp_total k))

-- whether what may be a node is a directory
abbrev is_directory_node : Option Node → Bool
is_directory_node o = option_map_or (λ (n : Node). is_directory_kind n.kind) o false

module _ (n : NodesState) (c : Counts) (r : RowsState) (h : IsStored n c r) where
  -- places for one number more
  pub IsStored-place : (m : NodesState) (d : Counts) (s : RowsState) → m.nodes ≡ n.nodes → m.places ≤ s.places → n.places ≤ m.places → s.places ≤ 81920
      → r.places ≤ s.places → s.rows ≡ r.rows → IsWide d m.places → IsCounted r.rows n.nodes d → IsStored m d s
  IsStored-place m d s nodes enough grows few more rows wide counted = record {
    counted = subst (λ rows. IsCounted rows m.nodes d) (sym rows) (subst (λ nodes. IsCounted r.rows nodes d) (sym nodes) counted);
    wide = wide;
    enough = enough;
    few = few;
    most = let e : len s.rows ≡ len r.rows = ap len rows in let l = h.most in omega arith;
    within = λ node some. let lt = h.within node (subst (λ m. IsSome (get m node)) nodes some) in omega arith;
    placed = λ k name x is. let lt = h.placed k name x (sym (ap (λ m. get m (k, name)) rows) ∙ is) in omega arith;
    children = λ k name x is. subst (λ m. IsSome (get m x)) (sym nodes) (h.children k name x (sym (ap (λ m. get m (k, name)) rows) ∙ is));
  }

  -- buckets and counts for further numbers
  pub IsStored-wider : (d : Counts) (s : RowsState) → s.places ≤ 81920 → r.places ≤ s.places → s.rows ≡ r.rows → IsWide d n.places → IsCounted r.rows n.nodes d
      → IsStored n d s
  IsStored-wider d s few more rows wide counted = let e = h.enough in IsStored-place n d s refl (omega arith) (omega arith) few more rows wide counted

  pub rows_small : len r.rows < 2 ^ 32
  rows_small = let a = h.most in let b = h.few in omega arith

  -- a further node
  pub IsStored-node : (m : NodesState) (k : ℕ) (node : Node) → m.nodes ≡ insert n.nodes k node → m.places ≡ n.places → k < n.places → get n.nodes k ≡ None
      → IsStored m c r
  IsStored-node m k node nodes places lt absent = record {
    counted =
        subst (λ nodes. IsCounted r.rows nodes c) (sym nodes)
        (IsCounted-nodes r.rows n.nodes c h.counted (insert n.nodes k node)
        (λ q x is. ap (λ (o : Option Node). is_directory_node o)
        (other_node n.nodes k x node (λ same. none_not_some _ (ap (get n.nodes) same ∙ absent) (h.children q.0 q.1 x is)))));
    wide = subst (IsWide c) (sym places) h.wide;
    enough = let e = h.enough in omega arith;
    few = h.few;
    most = h.most;
    within = λ x some. elim (some_before n.nodes k x node (subst (λ m. IsSome (get m x)) nodes some)) as (λ _. x < m.places) [
      | inl same ↦ omega arith
      | inr old ↦ let b = h.within x old in omega arith
    ];
    placed = λ d name x is. let b = h.placed d name x is in omega arith;
    children = λ d name x is. subst (λ m. IsSome (get m x)) (sym nodes) (some_more n.nodes k x node (h.children d name x is));
  }

  -- another node of the same kind in its place
  pub IsStored-edit : (m : NodesState) (k : ℕ) (node : Node) → m.nodes ≡ insert n.nodes k node → m.places ≡ n.places → IsSome (get n.nodes k)
      → is_directory_in (insert n.nodes k node) k ≡ is_directory_in n.nodes k → IsStored m c r
  IsStored-edit m k node nodes places there same = record {
    counted =
        subst (λ nodes. IsCounted r.rows nodes c) (sym nodes) (IsCounted-nodes r.rows n.nodes c h.counted (insert n.nodes k node) (λ q x is. either_way x));
    wide = subst (IsWide c) (sym places) h.wide;
    enough = let e = h.enough in omega arith;
    few = h.few;
    most = h.most;
    within = λ x some. elim (some_before n.nodes k x node (subst (λ m. IsSome (get m x)) nodes some)) as (λ _. x < m.places) [
      | inl is ↦ let b = h.within k there in omega arith
      | inr old ↦ let b = h.within x old in omega arith
    ];
    placed = λ d name x is. let b = h.placed d name x is in omega arith;
    children = λ d name x is. subst (λ m. IsSome (get m x)) (sym nodes) (some_more n.nodes k x node (h.children d name x is));
  }
    where
      either_way : (x : ℕ) → is_directory_in (insert n.nodes k node) x ≡ is_directory_in n.nodes x
      either_way x =
          elim (eq_by_cmp nat_cmp x k) as (λ b. eq_by_cmp nat_cmp x k ≡ b → is_directory_in (insert n.nodes k node) x ≡ is_directory_in n.nodes x) [
            | true ↦ λ t.
                let is : x ≡ k = nat_cmp-IsAntisymmetric x k (is_equal _ t) in
                ap (is_directory_in (insert n.nodes k node)) is ∙ same ∙ ap (is_directory_in n.nodes) (sym is)
            | false ↦ λ t. ap is_directory_node (nodes_after n.nodes k x node ∙ ap (λ b. cond b (Some node) (get n.nodes x)) t)
          ] refl

  -- a further row
  module _ (directory : ℕ) (name : List ℕ) (child : ℕ) where
    pub IsStored-row : (d : Counts) (s : RowsState) → s.rows ≡ insert r.rows (directory, name) child → s.places ≡ r.places → len s.rows ≤ 32768 * s.places
        → IsCounted (insert r.rows (directory, name) child) n.nodes d → IsWide d n.places → directory < n.places → IsSome (get n.nodes child) → IsStored n d s
    IsStored-row d s rows places most counted wide lt some = record {
      counted = subst (λ m. IsCounted m n.nodes d) (sym rows) counted;
      wide = wide;
      enough = let e = h.enough in omega arith;
      few = let f = h.few in omega arith;
      most = most;
      within = h.within;
      placed = λ e other x is. elim (came r.rows (directory, name) child (e, other) x (sym (ap (λ m. get m (e, other)) rows) ∙ is)) as (λ _. e < n.places) [
        | Came.new key same ↦ let k : e ≡ directory = ap (λ (k : Key). k.0) key in omega arith
        | Came.old differ was ↦ h.placed e other x was
      ];
      children =
          λ e other x is. elim (came r.rows (directory, name) child (e, other) x (sym (ap (λ m. get m (e, other)) rows) ∙ is)) as (λ _. IsSome
          (get n.nodes x)) [
            | Came.new key same ↦ subst (λ x. IsSome (get n.nodes x)) (sym same) some
            | Came.old differ was ↦ h.children e other x was
          ];
    }

    pub may_rise : (s : RowsState) → s.rows ≡ insert r.rows (directory, name) child → s.places ≡ r.places → len s.rows ≤ 32768 * s.places
        → get r.rows (directory, name) ≡ None → directory < n.places → child < n.places → MayRise c directory child
    may_rise s rows places most none lt within =
        let f = h.few in
        let l : len s.rows ≡ len r.rows + 1 = ap len rows ∙ len_more r.rows (directory, name) child none in
        MayRise-counted r.rows n.nodes c h.counted directory child n.places h.wide lt within (omega arith)

    -- a row that goes
    pub IsStored-removed : (d : Counts) (s : RowsState) → s.rows ≡ remove r.rows (directory, name) → s.places ≡ r.places → len s.rows ≤ 32768 * s.places
        → IsCounted (remove r.rows (directory, name)) n.nodes d → IsWide d n.places → IsStored n d s
    IsStored-removed d s rows places most counted wide = record {
      counted = subst (λ m. IsCounted m n.nodes d) (sym rows) counted;
      wide = wide;
      enough = let e = h.enough in omega arith;
      few = let f = h.few in omega arith;
      most = most;
      within = h.within;
      placed = λ e other x is. h.placed e other x (stayed r.rows (directory, name) (e, other) x (sym (ap (λ m. get m (e, other)) rows) ∙ is)).1;
      children = λ e other x is. h.children e other x (stayed r.rows (directory, name) (e, other) x (sym (ap (λ m. get m (e, other)) rows) ∙ is)).1;
    }

    pub may_fall : (is_directory : Bool) → get r.rows (directory, name) ≡ Some child → is_directory ≡ is_directory_in n.nodes child
        → MayFall c directory child is_directory
    may_fall is_directory some is =
        MayFall-counted r.rows n.nodes c h.counted directory child n.places name is_directory h.wide (h.placed directory name child some)
        (h.within child (h.children directory name child some)) some is

pub IsWide-fewer : (c : Counts) (more places : ℕ) → IsWide c more → places ≤ more → IsWide c places
IsWide-fewer c more places w le =
    let a = w.named in
    let b = w.inside in
    let d = w.directories in
    let e = w.holders in
    record { named = omega arith; inside = omega arith; directories = omega arith; holders = omega arith }

-- what a place is, in what a contract sees
pub has_place : (n : NodesState) (c : Counts) (r : RowsState) (s : StoreState) (number : ℕ) → IsStored n c r
    → ◌≡◌ {A = StoreState} (record { rows = r.rows; nodes = n.nodes; places = n.places }) s → HasPlace s number → number < n.places
has_place n c r s number h is (inl some) = h.within number (subst (λ (s : StoreState). IsSome (get s.nodes number)) (sym is) some)
has_place n c r s number h is (inr low) = let e : n.places ≡ s.places = ap (λ (s : StoreState). s.places) is in omega arith

-- bytes that change leave all else as it is
pub IsStored-edited : (n : NodesState) (c : Counts) (r : RowsState) (m : NodesState) (k : ℕ) (edit : Edit) → IsStored n c r
    → m.nodes ≡ with_edit n.nodes k edit (get n.nodes k) → m.places ≡ n.places → IsStored m c r
IsStored-edited n c r m k edit h nodes places = by_node (get n.nodes k) refl
  where
    by_node : (o : Option Node) → get n.nodes k ≡ o → IsStored m c r
    by_node (Some node) e =
        IsStored-edit n c r h m k (record node { bytes = edited edit node.bytes }) (nodes ∙ ap (with_edit n.nodes k edit) e) places (subst IsSome (sym e) refl)
        (ap is_directory_node (this_node n.nodes k (record node { bytes = edited edit node.bytes })) ∙ sym (ap is_directory_node e))
    by_node None e =
        let x = h.enough in
        IsStored-place n c r h m c r (nodes ∙ ap (with_edit n.nodes k edit) e) (omega arith) (omega arith) h.few (omega arith) refl
        (subst (IsWide c) (sym places) h.wide) h.counted
