-- The kind with which a node gets an inode is the one that it has in the tree at each cut.
use Rattle.std.proofs.Common.{◌≡◌, ℕ, Bool, true, false, cond, List, [], ◌∷◌, map, reverse, filter, Option, Some, None, inl, inr, refl, sym, ap, subst, ◌∙◌, nat_eq}
use Rattle.std.specs.Prelude.{◌⊎◌, ◌↔◌, not, option_map}
use Rattle.std.specs.List.{find}
use Rattle.std.specs.Option.{unwrap_or}
use Rattle.std.proofs.lemmas.List.{reverse-append, reverse-reverse}
use borrow.Author.Tests.{eqb-true}
use Rattle.sfs_base.proofs.BasicNumbers.{same_number}
use Rattle.sfs_base.proofs.BasicOptions.{none_some}
use Rattle.sfs_base.proofs.BasicTruth.{not_both, true_not_false}
use Rattle.sfs_base.specs.declared.numbers.Kind.{Kind}
use Rattle.sfs_base.specs.declared.numbers.Kind.TheVariants.{File, Directory}
use Rattle.sfs_base.specs.declared.numbers.NodeId.{NodeId}
use Rattle.sfs_base.specs.declared.numbers.Stamp.{Stamp}
use Rattle.sfs_base.specs.Listed.{is_listed}
use Rattle.tree_laws.specs.declared.changes.Change.{Change}
use Rattle.tree_laws.specs.declared.history.Entry.{Entry}
use Rattle.tree_laws.specs.History.{tree_after, IsLegal}
use Rattle.tree_laws.specs.Laws.{IsSoundTree}
use Rattle.tree_laws.specs.Logged.{is_logged_in}
use Rattle.tree_laws.specs.NameRow.{node_number}
use Rattle.tree_laws.specs.Tree.{TreeState, kind_of, is_directory, is_directory_kind}
use Rattle.tree_laws.proofs.Readings.{directory_by_kind}
use Rattle.image_laws.proofs.Standing.{directory_kind}
use Rattle.cut_laws.specs.Closure.{every_entry, Closure}
use Rattle.cut_laws.specs.Cut.{Cut, cut_of}
use Rattle.cut_laws.specs.Rules.{IsOneOf}
use Rattle.cut_laws.proofs.Basics.{in_either}
use Rattle.cut_laws.proofs.Listed.{to_map}
use Rattle.cut_laws.proofs.MemberKinds.{members_are_directories}
use Rattle.cut_laws.proofs.RunFacts.{found_in, in_filter}
use Rattle.look_laws.specs.Look.{Gathers, Touches}
use Rattle.dep_closure.specs.declared.gathered.Gathered.{Gathered}
use Rattle.dep_closure.specs.Gathered.{look_of, span_in, IsOrderly}
use Rattle.dep_closure.specs.History.{logged_of}
use Rattle.dep_closure.specs.Spans.{is_in_span}
use Rattle.cut_laws.proofs.Listed.{listed_one}
use Rattle.dep_closure.proofs.Looked.{from_flat, to_flat}
use Rattle.flush_plan.specs.Kinds.{kind_told, spans_in}
use Rattle.flush_plan.specs.Moved.{kind_of_own_node, kind_entering}
use Rattle.flush_plan.proofs.Stood.{none_reversed}
use Rattle.flush_plan.proofs.Touching.{touches_back}
use Rattle.plan_laws.proofs.GatheredSpans.{logged_span}
use Rattle.plan_laws.proofs.LoggedKinds.{kinds_logged}

-- one of a list that is turned around is one of it
one_reversed : {X : Type 0} (xs : List X) (x : X) → IsOneOf (reverse xs) x → IsOneOf xs x
one_reversed [] x one = one
one_reversed (y ∷ ys) x one = elim (in_either (reverse ys) (y ∷ []) x (subst (λ l. IsOneOf l x) (reverse-append (y ∷ []) ys) one)) [
  | inl later ↦ inr (one_reversed ys x later)
  | inr here ↦ elim here [ inl same ↦ inl same | inr none ↦ absurd none ]
]

-- where nothing is found nothing passes
none_passes : {X : Type 0} (test : X → Bool) (xs : List X) → find test xs ≡ None → (x : X) → IsOneOf xs x → test x ≡ true → ⊥
none_passes test [] none x one passes = absurd one
none_passes test (y ∷ ys) none x one passes = by (test y) refl none (λ rest later. none_passes test ys rest x later passes)
  where
    by : (b : Bool) → test y ≡ b → cond b (Some y) (find test ys) ≡ None → (find test ys ≡ None → IsOneOf ys x → ⊥) → ⊥
    by true e found behind = absurd (none_some (sym found))
    by false e rest behind = elim one [ inl same ↦ not_both (ap test same ∙ passes) e | inr later ↦ behind rest later ]

-- what is no directory is of the kind of files
kind_of_file : (tree : TreeState) (node : ℕ) → is_directory tree node ≡ false → kind_of tree node ≡ File
kind_of_file tree node file = by (kind_of tree node) (sym (directory_by_kind tree node) ∙ file)
  where
    by : (k : Kind) → is_directory_kind k ≡ false → k ≡ File
    by File e = refl
    by Directory e = absurd (true_not_false e)

module _ (first : TreeState) (history : List Entry) (cut : Cut) (inodes : ℕ → Bool) (gathered : Gathered) (start : NodeId) (below : Stamp)
    (members : List NodeId) (is_file : Bool)
    (sound : IsSoundTree first) (legal : IsLegal first history) (orderly : IsOrderly gathered)
    (spans : (node : ℕ) → Gathers (look_of start below gathered) node → span_in gathered below node ≡ logged_span first history cut below node)
    (are : (node : ℕ) → (is_listed (map node_number members) node ≡ true) ↔ Gathers (look_of start below gathered) node)
    (closed : (node : ℕ) → Gathers (look_of start below gathered) node
    → Closure first history every_entry cut inodes (record { node = start.0; stamp = below.0 }) node)
    (own_kind : is_directory (tree_after first history) start.0 ≡ not is_file) where
  abbrev last : TreeState
  last = tree_after first history

  abbrev changes : List Change
  changes = spans_in gathered below members

  gathers : (member : NodeId) → IsOneOf members member → Gathers (look_of start below gathered) member.0
  gathers member one = (are member.0).0 ((listed_one (map node_number members) member.0).1 (to_map node_number members member one))

  -- a change in a member's span tells its child's kind
  told : (change : Change) → IsOneOf changes change → change.kind ≡ kind_of last change.child.0
  told change one =
      let member = from_flat (λ (node : NodeId). span_in gathered below node.0) members change one in
      let logged = filter (is_logged_in member.0.0) (logged_of first history) in
      let inside = subst (λ l. IsOneOf l change) (spans member.0.0 (gathers member.0 member.1)) member.2 in
      let own = in_filter (is_in_span (cut_of cut member.0.0) below.0) logged change inside in
      kinds_logged first 0 history sound legal change (in_filter (is_logged_in member.0.0) (logged_of first history) change own.0).0

  -- a touched node that no such change names is a member, and so a directory or the fsync's own
  untold : (node : ℕ) → nat_eq node start.0 ≡ false → Touches (look_of start below gathered) node
      → find (λ (change : Change). nat_eq change.child.0 node) (reverse changes) ≡ None → kind_of last node ≡ Directory
  untold node other touches none = by (touches_back gathered orderly start below members are node touches)
    where
      by : (member : NodeId) × IsOneOf members member
          × ((member.0 ≡ node) ⊎ ((change : Change) × IsOneOf (span_in gathered below member.0) change × (change.child.0 ≡ node)))
          → kind_of last node ≡ Directory
      by (member, one, inr (change, among, child)) =
          let passes : nat_eq change.child.0 node ≡ true = subst (λ n. nat_eq change.child.0 n ≡ true) child (same_number change.child.0) in
          let found = ap (find (λ (change : Change). nat_eq change.child.0 node)) (sym (reverse-reverse changes))
          ∙ none_reversed (λ (change : Change). nat_eq change.child.0 node) (reverse changes) none in
          absurd
          (none_passes (λ (change : Change). nat_eq change.child.0 node) changes found change
          (to_flat (λ (node : NodeId). span_in gathered below node.0) members member change one among) passes)
      by (member, one, inl same) =
          elim (members_are_directories first history every_entry cut inodes (record { node = start.0; stamp = below.0 }) node sound legal
          (closed node (subst (Gathers (look_of start below gathered)) same (gathers member one)))) [
            | inl own ↦ absurd (not_both (subst (λ n. nat_eq n start.0 ≡ true) (sym own) (same_number start.0)) other)
            | inr directory ↦ directory_kind last node directory
          ]

  -- the kind of each that gets an inode
  pub entering_kind : (node : ℕ) → Touches (look_of start below gathered) node → kind_entering start is_file changes node ≡ kind_of last node
  entering_kind node touches = by (nat_eq node start.0) refl
    where
      own : kind_of_own_node is_file ≡ kind_of last start.0
      own = of is_file own_kind
        where
          of : (b : Bool) → is_directory last start.0 ≡ not b → cond b File Directory ≡ kind_of last start.0
          of true e = sym (kind_of_file last start.0 e)
          of false e = sym (directory_kind last start.0 e)

      others : nat_eq node start.0 ≡ false → (o : Option Change) → find (λ (change : Change). nat_eq change.child.0 node) (reverse changes) ≡ o
          → unwrap_or (option_map (λ (change : Change). change.kind) o) Directory ≡ kind_of last node
      others other None none = sym (untold node other touches none)
      others other (Some change) found =
          let there = found_in (λ (change : Change). nat_eq change.child.0 node) (reverse changes) change found in
          told change (one_reversed changes change there.0) ∙ ap (kind_of last) (eqb-true change.child.0 node there.1)

      by : (b : Bool) → nat_eq node start.0 ≡ b → cond b (kind_of_own_node is_file) (unwrap_or (kind_told changes node) Directory) ≡ kind_of last node
      by true same = own ∙ ap (kind_of last) (sym (eqb-true node start.0 same))
      by false other = others other (find (λ (change : Change). nat_eq change.child.0 node) (reverse changes)) refl
