-- Where a directory stands stays through each call that does not touch it.
use Rattle.std.proofs.Common.{◌≡◌, ◌<◌, ℕ, Bool, true, false, not, ◌&&◌, ◌==◌, List, length, Option, Some, None, ◌⊎◌, inl, inr, refl, sym, ap, subst, ◌∙◌, nat_eq, ⊎_elim}
use borrow.Author.Tests.{eqb-true, eq-eqb}
use Rattle.std.specs.Prelude.{◌||◌, if◌then◌else◌}
use Rattle.std.proofs.lemmas.Bool.{cases_Bool, both_ways}
use Rattle.std.specs.FinMap.{get}
use Rattle.sfs_base.specs.declared.numbers.Kind.{Kind}
use Rattle.sfs_base.proofs.BasicTruth.{or_first, or_second}
use Rattle.tree_laws.specs.declared.call.Call.{Call}
use Rattle.tree_laws.specs.declared.call.Call.TheVariants as call
use Rattle.tree_laws.specs.declared.reply.Code.{Code}
use Rattle.tree_laws.specs.Tree.{TreeState, row_of, is_alive, is_directory, is_directory_kind, holder_of, next_number}
use Rattle.tree_laws.specs.Effect.{Effect, Stays, Adds, Removes, Moves, Edits, Puts, Resizes, tree_with}
use Rattle.tree_laws.specs.Verdict.{verdict, tree_after_call, or_else, directory_fault, unlink_row}
use Rattle.tree_laws.specs.Sound.{IsSound}
use Rattle.tree_laws.specs.Fits.{Fits}
use Rattle.tree_laws.specs.Parts.{is_this, kind_after}
use Rattle.tree_laws.specs.Footprints.{own_kind}
use Rattle.tree_laws.specs.Lock.{stands_of}
use Rattle.tree_laws.specs.Laws.{IsSoundTree}
use Rattle.tree_laws.proofs.RowFacts.{IsNamed, alive_named, named_alive, holder_found, added_there, added_other, removed_other, is_here, some_not_none, same_some}
use Rattle.tree_laws.proofs.Walks.{holder_is}
use Rattle.tree_laws.proofs.OwnEffects.{does_its_own, of_one, of_child, of_what_it_does}
use Rattle.tree_laws.proofs.Parts.{nodes_after}
use Rattle.tree_laws.proofs.Readings.{directory_by_kind}
use Rattle.tree_laws.proofs.KeepsNodes.{directory_node}
use Rattle.tree_laws.proofs.Holders.{directory_stays, dead_stay_dead}
use Rattle.tree_laws.proofs.SoundTrees.{calls_fit, calls_keep_sound}
use Rattle.mem_values.specs.Touches.{touches_standing}
use Rattle.mem_values.proofs.Basics.{left_false}

-- this is not the node that may be there
pub not_this : (node : ℕ) (there : Option ℕ) → is_this node there ≡ false → there ≡ Some node → ⊥
not_this node there not is = both_ways (is_this node there) not (ap (is_this node) is ∙ eq-eqb node node refl)

right_false : (a b : Bool) → a ≡ true → (a && b) ≡ false → b ≡ false
right_false a b left both = sym (ap (λ x. x && b) left) ∙ both

module _ (tree : TreeState) (node : ℕ) where
  -- an effect takes no row of this node from the directory in which it stands
  abbrev KeepsStanding : Effect → Type 0
  KeepsStanding (Removes directory name child) = child ≡ node → ⊥
  KeepsStanding (Moves directory name to_directory to_name child) =
      (row_of tree to_directory to_name ≡ Some node → ⊥) × (child ≡ node → directory ≡ to_directory)
  KeepsStanding _ = Unit {0}

  unlinked : is_directory tree node ≡ true → (directory : ℕ) (name : List ℕ) (fault : Option Code) (row : Option ℕ)
      → KeepsStanding (or_else fault (unlink_row tree directory name row)).effect
  unlinked kind directory name (Some code) row = tt
  unlinked kind directory name None None = tt
  unlinked kind directory name None (Some child) =
      ⊎_elim (λ is. rw is tt) (λ file. rw file (λ same. both_ways (is_directory tree child) file (ap (is_directory tree) same ∙ kind)))
      (cases_Bool (is_directory tree child))

  -- so does no call that does not touch where it stands
  keeps_standing : (core : ℕ) (c : Call) → is_directory tree node ≡ true → touches_standing tree core c node ≡ false
      → KeepsStanding (verdict tree core c).effect
  keeps_standing core (call.Look d n) kind apart =
      of_what_it_does KeepsStanding tree core (call.Look d n) tt (λ effect own. absurd (let never : None ≡ Some effect = own in cc))
  keeps_standing core (call.Read f at count) kind apart =
      of_what_it_does KeepsStanding tree core (call.Read f at count) tt (λ effect own. absurd (let never : None ≡ Some effect = own in cc))
  keeps_standing core (call.Stat d) kind apart =
      of_what_it_does KeepsStanding tree core (call.Stat d) tt (λ effect own. absurd (let never : None ≡ Some effect = own in cc))
  keeps_standing core (call.List d) kind apart =
      of_what_it_does KeepsStanding tree core (call.List d) tt (λ effect own. absurd (let never : None ≡ Some effect = own in cc))
  keeps_standing core (call.Fsync d) kind apart =
      of_what_it_does KeepsStanding tree core (call.Fsync d) tt (λ effect own. absurd (let never : None ≡ Some effect = own in cc))
  keeps_standing core (call.Make d n k) kind apart =
      of_what_it_does KeepsStanding tree core (call.Make d n k) tt (λ effect own. of_one KeepsStanding (Adds d.0 n (next_number tree core)) effect own tt)
  keeps_standing core (call.Link f d n) kind apart =
      of_what_it_does KeepsStanding tree core (call.Link f d n) tt (λ effect own. of_one KeepsStanding (Adds d.0 n f.0) effect own tt)
  keeps_standing core (call.Write f at bytes) kind apart =
      of_what_it_does KeepsStanding tree core (call.Write f at bytes) tt (λ effect own. of_one KeepsStanding (Edits f.0 (Puts at bytes)) effect own tt)
  keeps_standing core (call.Trunc f size) kind apart =
      of_what_it_does KeepsStanding tree core (call.Trunc f size) tt (λ effect own. of_one KeepsStanding (Edits f.0 (Resizes size)) effect own tt)
  keeps_standing core (call.Unlink d n) kind apart = unlinked kind d.0 n (directory_fault tree d.0) (row_of tree d.0 n)
  keeps_standing core (call.Rmdir d n) kind apart =
      of_what_it_does KeepsStanding tree core (call.Rmdir d n) tt
      (λ effect own. of_child KeepsStanding (Removes d.0 n) (row_of tree d.0 n) effect own
      (λ x e same. not_this node (row_of tree d.0 n) apart (e ∙ ap Some same)))
  keeps_standing core (call.Rename p n q m) kind apart =
      let both : (is_this node (row_of tree q.0 m) || (not (p.0 == q.0) && is_this node (row_of tree p.0 n))) ≡ false =
      right_false (is_directory tree node) _ kind apart in
      let target : is_this node (row_of tree q.0 m) ≡ false = or_first _ _ both in
      let source : (not (p.0 == q.0) && is_this node (row_of tree p.0 n)) ≡ false = or_second _ _ both in
      of_what_it_does KeepsStanding tree core (call.Rename p n q m) tt
      (λ effect own. of_child KeepsStanding (Moves p.0 n q.0 m) (row_of tree p.0 n) effect own (λ x e. (
        not_this node (row_of tree q.0 m) target,
        λ same. ⊎_elim (λ is. eqb-true p.0 q.0 is)
            (λ not_same. absurd (not_this node (row_of tree p.0 n) (right_false (not (p.0 == q.0)) _ (ap not not_same) source) (e ∙ ap Some same)))
            (cases_Bool (p.0 == q.0)),
      )))

  -- a row that names the node, in a directory
  abbrev NamesIn : TreeState → ℕ → Type 0
  NamesIn next directory = (name : List ℕ) × (row_of next directory name ≡ Some node)

  -- a directory still has such a row after such an effect
  named_in : (core : ℕ) (effect : Effect) (makes : Option Kind) (directory : ℕ) → Fits tree core effect makes → KeepsStanding effect → NamesIn tree directory
      → NamesIn (tree_with tree core effect makes) directory
  named_in core Stays None directory fits keeps there = there
  named_in core Stays (Some kind) directory fits keeps there = absurd fits
  named_in core (Edits file edit) None directory fits keeps there = there
  named_in core (Edits file edit) (Some kind) directory fits keeps there = absurd fits
  named_in core (Adds d n c) None directory fits keeps there = (
    there.0,
    added_other tree.rows directory d there.0 n c
        (λ same name. some_not_none (row_of tree directory there.0) node there.1 ((λ i. row_of tree (same i) (name i)) ∙ fits.free))
        ∙ there.1,
  )
  named_in core (Adds d n c) (Some kind) directory fits keeps there = (
    there.0,
    added_other tree.rows directory d there.0 n c
        (λ same name. some_not_none (row_of tree directory there.0) node there.1 ((λ i. row_of tree (same i) (name i)) ∙ fits.free))
        ∙ there.1,
  )
  named_in core (Removes d n c) None directory fits keeps there = (
    there.0,
    removed_other tree.rows directory d there.0 n
        (λ same name. keeps (same_some (row_of tree d n) c node fits.row (sym (λ i. row_of tree (same i) (name i)) ∙ there.1)))
        ∙ there.1,
  )
  named_in core (Removes d n c) (Some kind) directory fits keeps there = absurd fits
  named_in core (Moves p n q m x) (Some kind) directory fits keeps there = absurd fits
  named_in core (Moves p n q m x) None directory fits keeps there = ⊎_elim
      (λ at_source.
      let child : x ≡ node = same_some (row_of tree p n) x node fits.row (sym (λ i. row_of tree (at_source.0 i) (at_source.1 i)) ∙ there.1) in
      let here : directory ≡ q = at_source.0 ∙ keeps.1 child in (
        m,
        subst (λ d. row_of (tree_with tree core (Moves p n q m x) None) d m ≡ Some node) (sym here)
            (added_there (Rattle.std.specs.FinMap.remove tree.rows (p, n)) q m x ∙ ap Some child),
      ))
      (λ other. (
        there.0,
        added_other (Rattle.std.specs.FinMap.remove tree.rows (p, n)) directory q there.0 m x
            (λ same name. keeps.0 (sym (λ i. row_of tree (same i) (name i)) ∙ there.1))
            ∙ (removed_other tree.rows directory p there.0 n other ∙ there.1),
      ))
      (is_here directory p there.0 n)

module _ (tree : TreeState) (core : ℕ) (c : Call) (node : ℕ) (is : IsSoundTree tree) (lt : core < length tree.made)
    (apart : touches_standing tree core c node ≡ false) where
  abbrev next : TreeState
  next = tree_after_call tree core c

  next_sound : IsSound next
  next_sound = (calls_keep_sound tree core c is lt).sound

  fits : Fits tree core (verdict tree core c).effect (verdict tree core c).makes
  fits = calls_fit tree core c is lt

  -- what no row names has no holder
  none_holds : (t : TreeState) → (IsNamed t.rows node → ⊥) → holder_of t node ≡ None
  none_holds t unnamed = elim (holder_found t node) [ inl f ↦ absurd (unnamed (record { directory = f.0; name = f.2.0; row = f.2.1 })) | inr none ↦ none.0 ]

  -- what no row named is named by none after the call
  unnamed_after : is_directory tree node ≡ true → (IsNamed tree.rows node → ⊥) → IsNamed next.rows node → ⊥
  unnamed_after kind unnamed named = ⊎_elim
      (λ root. next_sound.unnamed named.directory named.name (named.row ∙ ap Some root))
      (λ dead. both_ways (is_alive next node) dead (named_alive next node named))
      (root_or_dead (nat_eq node 0) refl)
    where
      not_alive : nat_eq node 0 ≡ false → is_alive tree node ≡ false
      not_alive other =
          ⊎_elim
          (λ alive. ⊎_elim (λ root. absurd (both_ways (nat_eq node 0) other (eq-eqb node 0 root))) (λ n. absurd (unnamed n)) (alive_named tree node alive))
          (λ dead. dead) (cases_Bool (is_alive tree node))

      root_or_dead : (b : Bool) → nat_eq node 0 ≡ b → (node ≡ 0) ⊎ (is_alive next node ≡ false)
      root_or_dead true same = inl (eqb-true node 0 same)
      root_or_dead false other = inr (dead_stay_dead tree core c node is lt kind (not_alive other))

  holder_kept : is_directory tree node ≡ true → is_directory next node ≡ true → holder_of next node ≡ holder_of tree node
  holder_kept kind kind_next = elim (holder_found tree node) [
    | inl f ↦
        let row = named_in tree node core (verdict tree core c).effect (verdict tree core c).makes f.0 fits (keeps_standing tree node core c kind apart) f.2 in
        holder_is next next_sound node f.0 row.0 row.1 kind_next ∙ sym f.1
    | inr none ↦ none_holds next (unnamed_after kind none.1) ∙ sym none.0
  ]

  -- a call that makes a node of this number makes no directory
  made_kind : (d : Call) (kind : Kind) → touches_standing tree core d node ≡ false → own_kind d ≡ Some kind
      → (is_directory_kind kind && (next_number tree core == node)) ≡ false
  made_kind (call.Make directory name k) kind not own = let same : k ≡ kind = cc (own) in
      subst (λ (x : Kind). (is_directory_kind x && (next_number tree core == node)) ≡ false) same not
  made_kind (call.Look directory name) kind not own = absurd (cc (own))
  made_kind (call.Link file directory name) kind not own = absurd (cc (own))
  made_kind (call.Unlink directory name) kind not own = absurd (cc (own))
  made_kind (call.Rmdir directory name) kind not own = absurd (cc (own))
  made_kind (call.Rename directory name to_directory to_name) kind not own = absurd (cc (own))
  made_kind (call.Write file at bytes) kind not own = absurd (cc (own))
  made_kind (call.Read file at count) kind not own = absurd (cc (own))
  made_kind (call.Trunc file size) kind not own = absurd (cc (own))
  made_kind (call.Stat n) kind not own = absurd (cc (own))
  made_kind (call.List directory) kind not own = absurd (cc (own))
  made_kind (call.Fsync n) kind not own = absurd (cc (own))

  not_directory : (makes : Option Kind) → (verdict tree core c).makes ≡ makes → is_directory tree node ≡ false
      → is_directory_kind (kind_after tree core makes node) ≡ false
  not_directory None makes_is file = sym (directory_by_kind tree node) ∙ file
  not_directory (Some kind) makes_is file = ⊎_elim
      (λ here. rw here (elim (does_its_own tree core c) [
        | inl nothing ↦ absurd (let never : None ≡ Some kind = sym nothing.makes ∙ makes_is in cc)
        | inr own ↦
            made_file kind (eq-eqb (next_number tree core) node (sym (eqb-true node (next_number tree core) here)))
            (made_kind c kind apart (own.makes ∙ makes_is))
      ]))
      (λ other. rw other (sym (directory_by_kind tree node) ∙ file))
      (cases_Bool (node == next_number tree core))
    where
      made_file : (k : Kind) → (next_number tree core == node) ≡ true → (is_directory_kind k && (next_number tree core == node)) ≡ false
          → is_directory_kind k ≡ false
      made_file k here not = left_false (is_directory_kind k) (sym (ap (λ b. is_directory_kind k && b) here) ∙ not)

  no_directory_after : is_directory tree node ≡ false → is_directory next node ≡ false
  no_directory_after file =
      directory_by_kind next node
      ∙ (ap is_directory_kind (nodes_after tree core (verdict tree core c).effect (verdict tree core c).makes node fits).kind
      ∙ not_directory (verdict tree core c).makes refl file)

  -- Where it stands stays.
  pub standing_stays : stands_of next node ≡ stands_of tree node
  standing_stays = ⊎_elim
      (λ kind.
      let kind_next : is_directory next node ≡ true =
      directory_stays tree core (verdict tree core c).effect (verdict tree core c).makes node fits (directory_node tree node kind) ∙ kind in
      ap (λ b. if b then holder_of next node else None) kind_next ∙ (holder_kept kind kind_next ∙ sym (ap (λ b. if b then holder_of tree node else None) kind)))
      (λ file. ap (λ b. if b then holder_of next node else None) (no_directory_after file) ∙ sym (ap (λ b. if b then holder_of tree node else None) file))
      (cases_Bool (is_directory tree node))
