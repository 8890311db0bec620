-- What a call does not touch it keeps.
use Rattle.std.proofs.Common.{◌≡◌, ◌≢◌, ℕ, ◌+◌, ◌-◌, Bool, true, false, cond, List, Option, Some, None, IsSome, inl, inr, refl, sym, ap, ap₂, ◌∙◌, nat_eq}
use borrow.Author.Tests.{eqb-true}
use Rattle.std.specs.FinMap.{FinMap, get, insert, remove}
use Rattle.sfs_base.specs.declared.numbers.Kind.{Kind}
use Rattle.tree_laws.specs.declared.call.Call.{Call}
use Rattle.tree_laws.specs.declared.call.Call.TheVariants as call
use Rattle.tree_laws.specs.Order.{name_cmp}
use Rattle.tree_laws.specs.Tree.{TreeState, row_of, names_where, bytes_of, count_of, kind_of, made_by, next_number}
use Rattle.tree_laws.specs.Effect.{Effect, Stays, Adds, Removes, Moves, Edits, Puts, Resizes, edited}
use Rattle.tree_laws.specs.Verdict.{verdict}
use Rattle.tree_laws.specs.Fits.{Fits}
use Rattle.tree_laws.specs.Parts.{part_after, is_this, links_after, bytes_after, kind_after, count_after}
use Rattle.tree_laws.specs.Footprints.{own_effect, own_kind, touches_part, touches_bytes, touches_links}
use Rattle.tree_laws.specs.Laws.{CallsKeepTheRest}
use Rattle.tree_laws.proofs.OwnEffects.{does_its_own, of_one, of_child, of_what_it_does}
use Rattle.tree_laws.proofs.Parts.{parts_after, nodes_after, counts_after}
use Rattle.tree_laws.proofs.SoundTrees.{calls_fit}
use Rattle.sfs_base.proofs.BasicTruth.{or_first, or_second}
use Rattle.sfs_base.proofs.BasicOptions.{some_is_no_none}

module _ (tree : TreeState) (core : ℕ) where
  keeps_part : (c : Call) (directory : ℕ) (test : List ℕ → Bool) (rows : FinMap name_cmp ℕ) → touches_part c directory test ≡ false → (effect : Effect)
      → own_effect tree core c ≡ Some effect → part_after directory test effect rows ≡ rows
  keeps_part (call.Look d n) at test rows apart effect own = cc
  keeps_part (call.Read f b k) at test rows apart effect own = cc
  keeps_part (call.Stat d) at test rows apart effect own = cc
  keeps_part (call.List d) at test rows apart effect own = cc
  keeps_part (call.Fsync d) at test rows apart effect own = cc
  keeps_part (call.Make d n k) at test rows apart effect own =
      of_one (λ e. part_after at test e rows ≡ rows) (Adds d.0 n (next_number tree core)) effect own
      (ap (λ b. cond b (insert rows n (next_number tree core)) rows) apart)
  keeps_part (call.Link f d n) at test rows apart effect own =
      of_one (λ e. part_after at test e rows ≡ rows) (Adds d.0 n f.0) effect own (ap (λ b. cond b (insert rows n f.0) rows) apart)
  keeps_part (call.Write f b bytes) at test rows apart effect own = of_one (λ e. part_after at test e rows ≡ rows) (Edits f.0 (Puts b bytes)) effect own refl
  keeps_part (call.Trunc f size) at test rows apart effect own = of_one (λ e. part_after at test e rows ≡ rows) (Edits f.0 (Resizes size)) effect own refl
  keeps_part (call.Unlink d n) at test rows apart effect own =
      of_child (λ e. part_after at test e rows ≡ rows) (Removes d.0 n) (row_of tree d.0 n) effect own (λ x e. ap (λ b. cond b (remove rows n) rows) apart)
  keeps_part (call.Rmdir d n) at test rows apart effect own =
      of_child (λ e. part_after at test e rows ≡ rows) (Removes d.0 n) (row_of tree d.0 n) effect own (λ x e. ap (λ b. cond b (remove rows n) rows) apart)
  keeps_part (call.Rename d n q m) at test rows apart effect own =
      of_child (λ e. part_after at test e rows ≡ rows) (Moves d.0 n q.0 m) (row_of tree d.0 n) effect own (λ x e.
      ap₂ (λ a b. cond b (insert (cond a (remove rows n) rows) m x) (cond a (remove rows n) rows)) (or_first _ _ apart) (or_second _ _ apart))

  keeps_bytes : (c : Call) (node : ℕ) (bytes : List ℕ) → touches_bytes c node ≡ false → (effect : Effect) → own_effect tree core c ≡ Some effect
      → bytes_after effect node bytes ≡ bytes
  keeps_bytes (call.Look d n) node bytes apart effect own = cc
  keeps_bytes (call.Read f b k) node bytes apart effect own = cc
  keeps_bytes (call.Stat d) node bytes apart effect own = cc
  keeps_bytes (call.List d) node bytes apart effect own = cc
  keeps_bytes (call.Fsync d) node bytes apart effect own = cc
  keeps_bytes (call.Make d n k) node bytes apart effect own =
      of_one (λ e. bytes_after e node bytes ≡ bytes) (Adds d.0 n (next_number tree core)) effect own refl
  keeps_bytes (call.Link f d n) node bytes apart effect own = of_one (λ e. bytes_after e node bytes ≡ bytes) (Adds d.0 n f.0) effect own refl
  keeps_bytes (call.Write f b written) node bytes apart effect own =
      of_one (λ e. bytes_after e node bytes ≡ bytes) (Edits f.0 (Puts b written)) effect own (ap (λ t. cond t (edited (Puts b written) bytes) bytes) apart)
  keeps_bytes (call.Trunc f size) node bytes apart effect own =
      of_one (λ e. bytes_after e node bytes ≡ bytes) (Edits f.0 (Resizes size)) effect own (ap (λ t. cond t (edited (Resizes size) bytes) bytes) apart)
  keeps_bytes (call.Unlink d n) node bytes apart effect own =
      of_child (λ e. bytes_after e node bytes ≡ bytes) (Removes d.0 n) (row_of tree d.0 n) effect own (λ x e. refl)
  keeps_bytes (call.Rmdir d n) node bytes apart effect own =
      of_child (λ e. bytes_after e node bytes ≡ bytes) (Removes d.0 n) (row_of tree d.0 n) effect own (λ x e. refl)
  keeps_bytes (call.Rename d n q m) node bytes apart effect own =
      of_child (λ e. bytes_after e node bytes ≡ bytes) (Moves d.0 n q.0 m) (row_of tree d.0 n) effect own (λ x e. refl)

  keeps_links : (c : Call) (node links : ℕ) → touches_links tree core c node ≡ false → (effect : Effect) → own_effect tree core c ≡ Some effect
      → links_after tree effect node links ≡ links
  keeps_links (call.Look d n) node links apart effect own = cc
  keeps_links (call.Read f b k) node links apart effect own = cc
  keeps_links (call.Stat d) node links apart effect own = cc
  keeps_links (call.List d) node links apart effect own = cc
  keeps_links (call.Fsync d) node links apart effect own = cc
  keeps_links (call.Make d n k) node links apart effect own =
      of_one (λ e. links_after tree e node links ≡ links) (Adds d.0 n (next_number tree core)) effect own (ap (λ t. cond t (links + 1) links) apart)
  keeps_links (call.Link f d n) node links apart effect own =
      of_one (λ e. links_after tree e node links ≡ links) (Adds d.0 n f.0) effect own (ap (λ t. cond t (links + 1) links) apart)
  keeps_links (call.Write f b written) node links apart effect own =
      of_one (λ e. links_after tree e node links ≡ links) (Edits f.0 (Puts b written)) effect own refl
  keeps_links (call.Trunc f size) node links apart effect own = of_one (λ e. links_after tree e node links ≡ links) (Edits f.0 (Resizes size)) effect own refl
  keeps_links (call.Unlink d n) node links apart effect own =
      of_child (λ e. links_after tree e node links ≡ links) (Removes d.0 n) (row_of tree d.0 n) effect own
      (λ x e. ap (λ t. cond t (links - 1) links) (sym (ap (is_this node) e) ∙ apart))
  keeps_links (call.Rmdir d n) node links apart effect own =
      of_child (λ e. links_after tree e node links ≡ links) (Removes d.0 n) (row_of tree d.0 n) effect own
      (λ x e. ap (λ t. cond t (links - 1) links) (sym (ap (is_this node) e) ∙ apart))
  keeps_links (call.Rename d n q m) node links apart effect own =
      of_child (λ e. links_after tree e node links ≡ links) (Moves d.0 n q.0 m) (row_of tree d.0 n) effect own (λ x e. ap (λ t. cond t (links - 1) links) apart)

-- a node that is there has no new number
keeps_kind : (tree : TreeState) (core : ℕ) (effect : Effect) (makes : Option Kind) (node : ℕ) → Fits tree core effect makes → IsSome (get tree.nodes node)
    → kind_after tree core makes node ≡ kind_of tree node
keeps_kind tree core effect None node f some = refl
keeps_kind tree core Stays (Some kind) node f some = absurd f
keeps_kind tree core (Removes d n c) (Some kind) node f some = absurd f
keeps_kind tree core (Moves p n q m c) (Some kind) node f some = absurd f
keeps_kind tree core (Edits file edit) (Some kind) node f some = absurd f
keeps_kind tree core (Adds d n c) (Some kind) node f some =
    elim (nat_eq node (next_number tree core)) as (λ b. nat_eq node (next_number tree core) ≡ b → cond b kind (kind_of tree node) ≡ kind_of tree node) [
      | true ↦ λ t. absurd (some_is_no_none some (ap (get tree.nodes) (eqb-true _ _ t ∙ sym f.number) ∙ f.fresh))
      | false ↦ λ t. refl
    ] refl

keeps_others : (tree : TreeState) (core : ℕ) (makes : Option Kind) (other : ℕ) → other ≢ core → count_after tree core makes other ≡ made_by tree other
keeps_others tree core None other apart = refl
keeps_others tree core (Some kind) other apart =
    elim (nat_eq other core) as (λ b. nat_eq other core ≡ b → cond b (made_by tree other + 1) (made_by tree other) ≡ made_by tree other) [
      | true ↦ λ t. absurd (apart (eqb-true _ _ t))
      | false ↦ λ t. refl
    ] refl

-- a call that makes no node makes none
makes_none : (tree : TreeState) (core : ℕ) (c : Call) → own_kind c ≡ None → (verdict tree core c).makes ≡ None
makes_none tree core c none = elim (does_its_own tree core c) [ inl quiet ↦ quiet.makes | inr own ↦ sym own.makes ∙ none ]

pub calls_keep_the_rest : CallsKeepTheRest
calls_keep_the_rest tree core c is lt =
    let effect = (verdict tree core c).effect in
    let makes = (verdict tree core c).makes in
    let fits = calls_fit tree core c is lt in
    record {
      rows = λ d test apart.
          parts_after tree core effect makes d test
          ∙ of_what_it_does (λ e. part_after d test e (names_where d test tree.rows) ≡ names_where d test tree.rows) tree core c refl
          (keeps_part tree core c d test (names_where d test tree.rows) apart);
      bytes = λ node apart.
          (nodes_after tree core effect makes node fits).bytes
          ∙ of_what_it_does (λ e. bytes_after e node (bytes_of tree node) ≡ bytes_of tree node) tree core c refl
          (keeps_bytes tree core c node (bytes_of tree node) apart);
      links = λ node apart.
          (nodes_after tree core effect makes node fits).links
          ∙ of_what_it_does (λ e. links_after tree e node (count_of tree.rows node) ≡ count_of tree.rows node) tree core c refl
          (keeps_links tree core c node (count_of tree.rows node) apart);
      kinds = λ node some. (nodes_after tree core effect makes node fits).kind ∙ keeps_kind tree core effect makes node fits some;
      others = λ other apart. counts_after tree core effect makes other lt ∙ keeps_others tree core makes other apart;
      own = λ none. counts_after tree core effect makes core lt ∙ ap (λ k. count_after tree core k core) (makes_none tree core c none);
    }
