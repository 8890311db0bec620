-- A call keeps each cell that it does not touch.
use Rattle.std.proofs.Common.{◌≡◌, ◌≢◌, ◌<◌, ℕ, Bool, true, false, not, ◌&&◌, ◌==◌, List, length, Option, Some, None, IsSome, option_map, inl, inr, refl, sym, ap, subst, ◌∙◌, nat_eq, eq-eqb}
use Rattle.std.specs.Prelude.{◌||◌, if◌then◌else◌}
use Rattle.std.specs.List.{find}
use Rattle.std.proofs.lemmas.Bool.{both_ways}
use Rattle.std.specs.FinMap.{FinMap, get}
use Rattle.tree_laws.specs.Order.{name_cmp}
use Rattle.sfs_base.specs.Name.{bucket}
use Rattle.sfs_base.specs.declared.numbers.Kind.{Kind}
use Rattle.sfs_base.proofs.BasicTruth.{or_first, or_second}
use Rattle.tree_laws.specs.declared.call.Call.{Call}
use Rattle.tree_laws.specs.declared.call.Call.TheVariants as call
use Rattle.tree_laws.specs.Tree.{TreeState, row_of, is_directory, is_directory_kind, count_of, bucket_rows, next_number}
use Rattle.tree_laws.specs.Effect.{Effect, Stays, Adds, Edit, Edits, Puts, Resizes, tree_with, Removes}
use Rattle.tree_laws.specs.Verdict.{verdict, tree_after_call}
use Rattle.tree_laws.specs.Footprints.{DoesNothing, KeepsRest, own_kind, own_effect, touches_part, touches_bytes, touches_links}
use Rattle.tree_laws.specs.Laws.{IsSoundTree}
use Rattle.tree_laws.specs.Lock.{needs_lock, moves_between}
use Rattle.tree_laws.proofs.Names.{get-names_where}
use Rattle.tree_laws.proofs.RowFacts.{named_or_none}
use Rattle.tree_laws.proofs.Readings.{directory_by_kind}
use Rattle.tree_laws.proofs.KeepsNodes.{directory_node}
use Rattle.tree_laws.proofs.KeepsRest.{calls_keep_the_rest}
use Rattle.tree_laws.proofs.OwnEffects.{does_its_own}
use Rattle.cut_laws.specs.Rules.{Birth, births_by}
use Rattle.mem_values.specs.declared.bucket.Bucket.{Bucket}
use Rattle.mem_values.specs.Stands.{if_directory, ShowsBucket, file_links}
use Rattle.mem_values.specs.Touches.{touches_standing, makes_node}
use Rattle.mem_values.proofs.Standing.{standing_stays}
use Rattle.mem_values.proofs.Pushes.{IsBornBy, none_born}
use Rattle.mem_values.proofs.Basics.{left_false}
use Rattle.sfs_base.specs.declared.numbers.NodeId.{NodeId}

-- a call that does nothing leaves the tree
pub same_tree : (tree : TreeState) (core : ℕ) (c : Call) → DoesNothing (verdict tree core c) → tree_after_call tree core c ≡ tree
same_tree tree core c nothing = λ i. tree_with tree core (nothing.effect i) (nothing.makes i)

-- and needs no lock
pub nothing_free : (tree : TreeState) (core : ℕ) (c : Call) → DoesNothing (verdict tree core c) → needs_lock tree core c ≡ false
nothing_free tree core c nothing = ap (moves_between tree) nothing.effect

module _ (tree : TreeState) (core : ℕ) (c : Call) (is : IsSoundTree tree) (lt : core < length tree.made) where
  abbrev next : TreeState
  next = tree_after_call tree core c

  rest : KeepsRest tree core c
  rest = calls_keep_the_rest tree core c is lt

  pub directory_kept : (node : ℕ) → IsSome (get tree.nodes node) → is_directory next node ≡ is_directory tree node
  directory_kept node there = directory_by_kind next node ∙ (ap is_directory_kind (rest.kinds node there) ∙ sym (directory_by_kind tree node))

  -- a row's child is a node
  child_there : (directory number : ℕ) (name : List ℕ) (child : ℕ) → get (bucket_rows directory number tree.rows) name ≡ Some child
      → IsSome (get tree.nodes child)
  child_there directory number name child row =
      is.sound.node directory name child (found (nat_eq (bucket name) number) (sym (get-names_where directory (λ n. bucket n == number) tree.rows name) ∙ row))
    where
      found : (b : Bool) → (if b then row_of tree directory name else None) ≡ Some child → row_of tree directory name ≡ Some child
      found true e = e
      found false e = absurd (cc (e))

  directories_kept : (directory number : ℕ) (name : List ℕ) (row : Option ℕ) → get (bucket_rows directory number tree.rows) name ≡ row
      → if_directory next row ≡ if_directory tree row
  directories_kept directory number name None row = refl
  directories_kept directory number name (Some child) row =
      ap (λ b. if b then Some child else None) (directory_kept child (child_there directory number name child row))

  -- A bucket that a call does not touch shows the tree after it.
  pub bucket_kept : (directory number : ℕ) (value : Bucket)
      → (touches_part c directory (λ name. bucket name == number) || touches_standing tree core c directory) ≡ false → ShowsBucket tree directory number value
      → ShowsBucket next directory number value
  bucket_kept directory number value apart shows =
      let same : bucket_rows directory number next.rows ≡ bucket_rows directory number tree.rows =
      rest.rows directory (λ name. bucket name == number) (or_first _ _ apart) in
      record {
        rows = shows.rows ∙ sym same;
        directories = λ name. shows.directories name
            ∙ (sym (directories_kept directory number name (get (bucket_rows directory number tree.rows) name) refl)
            ∙ ap (λ (m : FinMap name_cmp ℕ). if_directory next (get m name)) (sym same));
        stands = shows.stands ∙ sym (standing_stays tree core c directory is lt (or_second _ _ apart));
      }

  -- what is no directory of the tree and is one after the call is new, so no row names it
  no_rows_yet : (node : ℕ) → is_directory tree node ≡ false → is_directory next node ≡ true → count_of tree.rows node ≡ 0
  no_rows_yet node file made = elim (named_or_none tree.rows node) [
    | inl named ↦ absurd (both_ways (is_directory next node) (directory_kept node (is.sound.node named.directory named.name node named.row) ∙ file) made)
    | inr none ↦ none
  ]

  links_by : (node : ℕ) (before after : Bool) → is_directory tree node ≡ before → is_directory next node ≡ after
      → (touches_links tree core c node && not (is_directory next node)) ≡ false
      → file_links next node ≡ file_links tree node
  links_by node true true b a apart = rw (b, a) refl
  links_by node true false b a apart = absurd (both_ways (is_directory next node) a (directory_kept node (directory_node tree node b) ∙ b))
  links_by node false true b a apart = rw (b, a) (sym (no_rows_yet node b a))
  links_by node false false b a apart =
      rw (b, a) (rest.links node (left_false (touches_links tree core c node) (sym (ap (λ x. touches_links tree core c node && not x) a) ∙ apart)))

  -- A file's links stay where a call does not touch it.
  pub links_kept : (node : ℕ) → (touches_links tree core c node && not (is_directory next node)) ≡ false → file_links next node ≡ file_links tree node
  links_kept node apart = links_by node (is_directory tree node) (is_directory next node) refl refl apart

-- a removing is no edit
no_edit : (d : NodeId) (n : List ℕ) (node : ℕ) (edit : Edit) (row : Option ℕ) → option_map (Removes d.0 n) row ≡ Some (Edits node edit) → ⊥
no_edit d n node edit None e = cc
no_edit d n node edit (Some x) e = cc

-- a call that edits a file touches its bytes
edits_touch : (tree : TreeState) (core : ℕ) (c : Call) (node : ℕ) (edit : Edit) → own_effect tree core c ≡ Some (Edits node edit) → touches_bytes c node ≡ true
edits_touch tree core (call.Look d n) node edit own = absurd (cc (own))
edits_touch tree core (call.Read f at count) node edit own = absurd (cc (own))
edits_touch tree core (call.Stat d) node edit own = absurd (cc (own))
edits_touch tree core (call.List d) node edit own = absurd (cc (own))
edits_touch tree core (call.Fsync d) node edit own = absurd (cc (own))
edits_touch tree core (call.Make d n k) node edit own = absurd (cc (own))
edits_touch tree core (call.Link f d n) node edit own = absurd (cc (own))
edits_touch tree core (call.Write f at bytes) node edit own = let same : f.0 ≡ node = cc (own) in eq-eqb f.0 node same
edits_touch tree core (call.Trunc f size) node edit own = let same : f.0 ≡ node = cc (own) in eq-eqb f.0 node same
edits_touch tree core (call.Unlink d n) node edit own = absurd (no_edit d n node edit (row_of tree d.0 n) own)
edits_touch tree core (call.Rmdir d n) node edit own = absurd (no_edit d n node edit (row_of tree d.0 n) own)
edits_touch tree core (call.Rename p n q m) node edit own = absurd (no_edit (row_of tree p.0 n) own)
  where
    no_edit : (row : Option ℕ) → option_map (Rattle.tree_laws.specs.Effect.Moves p.0 n q.0 m) row ≡ Some (Edits node edit) → ⊥
    no_edit None e = cc
    no_edit (Some x) e = cc

-- a call that does nothing edits no file, nor does one that does not touch its bytes
pub nothing_edits : (tree : TreeState) (core : ℕ) (c : Call) (node : ℕ) (edit : Edit) → DoesNothing (verdict tree core c)
    → (verdict tree core c).effect ≢ Edits node edit
nothing_edits tree core c node edit nothing is = let never : Stays ≡ Edits node edit = sym nothing.effect ∙ is in cc

pub untouched_edits : (tree : TreeState) (core : ℕ) (c : Call) (node : ℕ) (edit : Edit) → touches_bytes c node ≡ false
    → (verdict tree core c).effect ≢ Edits node edit
untouched_edits tree core c node edit apart is = elim (does_its_own tree core c) [
  | inl nothing ↦ nothing_edits tree core c node edit nothing is
  | inr own ↦ both_ways (touches_bytes c node) apart (edits_touch tree core c node edit (own.effect ∙ ap Some is))
]

-- a call that does nothing makes no node
pub nothing_born : (tree : TreeState) (core : ℕ) (c : Call) (stamp node : ℕ) → DoesNothing (verdict tree core c)
    → IsBornBy node (births_by stamp (verdict tree core c).effect (verdict tree core c).makes)
nothing_born tree core c stamp node nothing =
    ap (λ l. find (λ (b : Birth). b.node == node) l)
    (ap (births_by stamp (verdict tree core c).effect) nothing.makes ∙ none_born stamp (verdict tree core c).effect)

born_none : (stamp node : ℕ) (effect : Effect) (makes : Option Kind) → None ≡ makes → IsBornBy node (births_by stamp effect makes)
born_none stamp node effect makes none = ap (λ l. find (λ (b : Birth). b.node == node) l) (ap (births_by stamp effect) (sym none) ∙ none_born stamp effect)

-- one that does not make this node brings none of it
own_born : (tree : TreeState) (core : ℕ) (c : Call) (stamp node : ℕ) (effect : Effect) (makes : Option Kind) → makes_node tree core c node ≡ false
    → own_effect tree core c ≡ Some effect → own_kind c ≡ makes → IsBornBy node (births_by stamp effect makes)
own_born tree core (call.Look d n) stamp node effect makes apart own kind = born_none stamp node effect makes kind
own_born tree core (call.Read f at count) stamp node effect makes apart own kind = born_none stamp node effect makes kind
own_born tree core (call.Stat d) stamp node effect makes apart own kind = born_none stamp node effect makes kind
own_born tree core (call.List d) stamp node effect makes apart own kind = born_none stamp node effect makes kind
own_born tree core (call.Fsync d) stamp node effect makes apart own kind = born_none stamp node effect makes kind
own_born tree core (call.Link f d n) stamp node effect makes apart own kind = born_none stamp node effect makes kind
own_born tree core (call.Write f at bytes) stamp node effect makes apart own kind = born_none stamp node effect makes kind
own_born tree core (call.Trunc f size) stamp node effect makes apart own kind = born_none stamp node effect makes kind
own_born tree core (call.Unlink d n) stamp node effect makes apart own kind = born_none stamp node effect makes kind
own_born tree core (call.Rmdir d n) stamp node effect makes apart own kind = born_none stamp node effect makes kind
own_born tree core (call.Rename p n q m) stamp node effect makes apart own kind = born_none stamp node effect makes kind
own_born tree core (call.Make d n k) stamp node effect makes apart own kind =
    let made : Adds d.0 n (next_number tree core) ≡ effect = cc (own) in
    subst (λ (z : Effect × Option Kind). IsBornBy node (births_by stamp z.0 z.1)) (λ i. (made i, kind i))
    (ap (λ b. if b then Some (record { stamp = stamp; directory = d.0; node = next_number tree core }) else None) apart)

pub untouched_born : (tree : TreeState) (core : ℕ) (c : Call) (stamp node : ℕ) → makes_node tree core c node ≡ false
    → IsBornBy node (births_by stamp (verdict tree core c).effect (verdict tree core c).makes)
untouched_born tree core c stamp node apart = elim (does_its_own tree core c) [
  | inl nothing ↦ nothing_born tree core c stamp node nothing
  | inr own ↦ own_born tree core c stamp node (verdict tree core c).effect (verdict tree core c).makes apart own.effect own.makes
]
