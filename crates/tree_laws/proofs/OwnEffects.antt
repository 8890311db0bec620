-- A call does nothing, or its own.
use Rattle.std.proofs.Common.{◌≡◌, ℕ, ◌+◌, Bool, true, false, cond, not, List, length, take, drop, Option, Some, None, option_map, ◌⊎◌, inl, inr, refl, sym, subst, nat_eq, nat_lt}
use Rattle.sfs_base.specs.declared.numbers.Kind.{Kind}
use Rattle.tree_laws.specs.declared.call.Call.{Call}
use Rattle.tree_laws.specs.declared.call.Call.TheVariants as call
use Rattle.tree_laws.specs.declared.reply.Code.{Code}
use Rattle.tree_laws.specs.declared.reply.Code.TheVariants.{NotDir, NotEmpty, FileTooBig, NotPermitted}
use Rattle.tree_laws.specs.declared.reply.Reply.{Reply}
use Rattle.tree_laws.specs.declared.reply.Reply.TheVariants as reply
use Rattle.tree_laws.specs.Names.{with_kinds}
use Rattle.tree_laws.specs.Tree.{TreeState, row_of, is_directory, row_count, kind_of, links_of, bytes_of, names_of}
use Rattle.tree_laws.specs.Effect.{Effect, Stays, Adds, Removes, Moves, Edits, Puts, Resizes}
use Rattle.tree_laws.specs.Verdict.{LARGEST_FILE, Verdict, refused, answered, done, or_else, directory_fault, file_fault, node_fault, size_of, make_fault, link_fault, unlink_row, rmdir_row, move_fault, names_child, move_row, verdict, make_node, look_row, write_bytes, trunc_file}
use Rattle.std.specs.Option.{option_or}
use Rattle.tree_laws.specs.Footprints.{own_effect, DoesNothing, DoesThis, DoesItsOwn}

abbrev DoesOr : Option Effect → Option Kind → Verdict → Type 0
DoesOr own kind v = DoesNothing v ⊎ DoesThis own kind v

or_else_does : (own : Option Effect) (kind : Option Kind) (fault : Option Code) (v : Verdict) → DoesOr own kind v → DoesOr own kind (or_else fault v)
or_else_does own kind (Some code) v h = inl (record { effect = refl; makes = refl })
or_else_does own kind None v h = h

unless_does : (own : Option Effect) (kind : Option Kind) (b : Bool) (code : Code) (v : Verdict) → DoesOr own kind v → DoesOr own kind (cond b (refused code) v)
unless_does own kind true code v h = inl (record { effect = refl; makes = refl })
unless_does own kind false code v h = h

no_change : (own : Option Effect) (kind : Option Kind) (code : Code) → DoesOr own kind (refused code)
no_change own kind code = inl (record { effect = refl; makes = refl })

answers : (own : Option Effect) (kind : Option Kind) (r : Reply) → DoesOr own kind (answered r)
answers own kind r = inl (record { effect = refl; makes = refl })

does : (own : Option Effect) (effect : Effect) → own ≡ Some effect → DoesOr own None (done effect)
does own effect e = inr (record { effect = e; makes = refl })

module _ (tree : TreeState) (core : ℕ) where
  unlink_does : (directory : ℕ) (name : List ℕ) (child : Option ℕ)
      → DoesOr (option_map (Removes directory name) child) None (unlink_row tree directory name child)
  unlink_does directory name None = no_change _ _ _
  unlink_does directory name (Some child) =
      unless_does _ None (is_directory tree child) NotPermitted (done (Removes directory name child)) (does _ (Removes directory name child) refl)

  rmdir_does : (directory : ℕ) (name : List ℕ) (child : Option ℕ)
      → DoesOr (option_map (Removes directory name) child) None (rmdir_row tree directory name child)
  rmdir_does directory name None = no_change _ _ _
  rmdir_does directory name (Some child) =
      unless_does (Some (Removes directory name child)) None (not (is_directory tree child)) NotDir
      (cond (not (nat_eq (row_count tree child) 0)) (refused NotEmpty) (done (Removes directory name child)))
      (unless_does _ None (not (nat_eq (row_count tree child) 0)) NotEmpty (done (Removes directory name child)) (does _ (Removes directory name child) refl))

  move_does : (directory : ℕ) (name : List ℕ) (to_directory : ℕ) (to_name : List ℕ) (child : Option ℕ)
      → DoesOr (option_map (Moves directory name to_directory to_name) child) None (move_row tree directory name to_directory to_name child)
  move_does directory name to_directory to_name None = no_change _ _ _
  move_does directory name to_directory to_name (Some child) =
      elim (names_child (row_of tree to_directory to_name) child) as (λ b. DoesOr (Some (Moves directory name to_directory to_name child)) None
      (cond b (answered reply.Ok) (or_else (move_fault tree child to_directory to_name) (done (Moves directory name to_directory to_name child))))) [
        | true ↦ answers _ _ reply.Ok
        | false ↦
            or_else_does _ None (move_fault tree child to_directory to_name) (done (Moves directory name to_directory to_name child))
            (does _ (Moves directory name to_directory to_name child) refl)
      ]

  write_does : (file at : ℕ) (bytes : List ℕ) → DoesOr (Some (Edits file (Puts at bytes))) None (write_bytes file at bytes)
  write_does file at bytes =
      elim (nat_eq (length bytes) 0) as (λ b. DoesOr (Some (Edits file (Puts at bytes))) None
      (cond b (answered reply.Ok) (cond (nat_lt LARGEST_FILE (at + length bytes)) (refused FileTooBig) (done (Edits file (Puts at bytes)))))) [
        | true ↦ answers _ _ reply.Ok
        | false ↦
            unless_does _ None (nat_lt LARGEST_FILE (at + length bytes)) FileTooBig (done (Edits file (Puts at bytes)))
            (does _ (Edits file (Puts at bytes)) refl)
      ]

  look_does : (child : Option ℕ) → DoesOr None None (look_row tree child)
  look_does None = no_change _ _ _
  look_does (Some child) = answers _ _ (reply.Node (record { 0 = child }) (kind_of tree child))

  asked : (fault : Option Code) (r : Reply) → DoesOr None None (or_else fault (answered r))
  asked fault r = or_else_does None None fault (answered r) (answers None None r)

  pub does_its_own : (c : Call) → DoesItsOwn tree core c
  does_its_own (call.Look directory name) =
      or_else_does None None (directory_fault tree directory.0) (look_row tree (row_of tree directory.0 name)) (look_does (row_of tree directory.0 name))
  does_its_own (call.Make directory name kind) =
      or_else_does _ (Some kind) (make_fault tree core directory.0 name) (make_node tree core directory.0 name kind)
      (inr (record { effect = refl; makes = refl }))
  does_its_own (call.Link file directory name) =
      or_else_does _ None (link_fault tree file.0 directory.0 name) (done (Adds directory.0 name file.0)) (does _ (Adds directory.0 name file.0) refl)
  does_its_own (call.Unlink directory name) =
      or_else_does _ None (directory_fault tree directory.0) (unlink_row tree directory.0 name (row_of tree directory.0 name))
      (unlink_does directory.0 name (row_of tree directory.0 name))
  does_its_own (call.Rmdir directory name) =
      or_else_does _ None (directory_fault tree directory.0) (rmdir_row tree directory.0 name (row_of tree directory.0 name))
      (rmdir_does directory.0 name (row_of tree directory.0 name))
  does_its_own (call.Rename directory name to_directory to_name) =
      or_else_does _ None (option_or (directory_fault tree directory.0) (directory_fault tree to_directory.0))
      (move_row tree directory.0 name to_directory.0 to_name (row_of tree directory.0 name))
      (move_does directory.0 name to_directory.0 to_name (row_of tree directory.0 name))
  does_its_own (call.Write file at bytes) = or_else_does _ None (file_fault tree file.0) (write_bytes file.0 at bytes) (write_does file.0 at bytes)
  does_its_own (call.Read file at count) = asked (file_fault tree file.0) (reply.Bytes (take count (drop at (bytes_of tree file.0))))
  does_its_own (call.Trunc file size) =
      or_else_does _ None (file_fault tree file.0) (trunc_file file.0 size)
      (unless_does _ None (nat_lt LARGEST_FILE size) FileTooBig (done (Edits file.0 (Resizes size))) (does _ (Edits file.0 (Resizes size)) refl))
  does_its_own (call.Stat node) = asked (node_fault tree node.0) (reply.Stat (kind_of tree node.0) (links_of tree node.0) (size_of tree node.0))
  does_its_own (call.List directory) = asked (directory_fault tree directory.0) (reply.Names (with_kinds tree (names_of directory.0 tree.rows)))
  does_its_own (call.Fsync node) = asked (node_fault tree node.0) reply.Ok

-- what holds of nothing and of a call's own effect holds of what it does
pub of_one : (P : Effect → Type 0) (own effect : Effect) → Some own ≡ Some effect → P own → P effect
of_one P own effect e h = subst P (some_is own effect e) h
  where
    some_is : (a b : Effect) → Some a ≡ Some b → a ≡ b
    some_is a b e = cc

pub of_child : (P : Effect → Type 0) (own : ℕ → Effect) (child : Option ℕ) (effect : Effect) → option_map own child ≡ Some effect
    → ((x : ℕ) → child ≡ Some x → P (own x)) → P effect
of_child P own None effect e h = cc
of_child P own (Some x) effect e h = of_one P (own x) effect e (h x refl)

pub of_what_it_does : (P : Effect → Type 0) (tree : TreeState) (core : ℕ) (c : Call) → P Stays
    → ((effect : Effect) → own_effect tree core c ≡ Some effect → P effect) → P (verdict tree core c).effect
of_what_it_does P tree core c nothing own = elim (does_its_own tree core c) [
  | inl quiet ↦ subst P (sym quiet.effect) nothing
  | inr this ↦ own (verdict tree core c).effect this.effect
]
