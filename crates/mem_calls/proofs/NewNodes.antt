-- The node that a call makes, in the tree before it and after it.
use Rattle.std.proofs.Common.{◌≡◌, ◌≢◌, ◌<◌, ◌+◌, ◌*◌, ℕ, Bool, true, false, not, ◌==◌, List, [], ◌∷◌, ◌++◌, length, Some, None, option_map, inl, inr, refl, sym, ap, subst, ◌∙◌, eq-eqb, ⊎_elim}
use borrow.Author.Tests.{eqb-true}
use Rattle.std.specs.Prelude.{◌&&◌, if◌then◌else◌}
use Rattle.std.specs.List.{find}
use Rattle.std.specs.Option.{option_map_or, option_or}
use Rattle.std.proofs.lemmas.Bool.{cases_Bool, both_ways}
use Rattle.std.proofs.lemmas.List.Folds.{find-append}
use Rattle.std.specs.FinMap.{get}
use Rattle.sfs_base.specs.Name.{bucket}
use Rattle.sfs_base.specs.declared.numbers.NodeId.{NodeId}
use Rattle.sfs_base.specs.declared.numbers.Kind.{Kind}
use Rattle.sfs_base.specs.declared.numbers.Kind.TheVariants.{File, Directory}
use Rattle.sfs_base.proofs.BasicTruth.{or_first}
use Rattle.sfs_base.proofs.BasicOptions.{none_not_some}
use Rattle.tree_laws.specs.declared.call.Call.{Call}
use Rattle.tree_laws.specs.declared.call.Call.TheVariants as call
use Rattle.tree_laws.specs.declared.history.Entry.{Entry}
use Rattle.tree_laws.specs.Tree.{TreeState, Node, row_of, is_directory, is_directory_kind, kind_of, count_of, made_by, holder_of, next_number}
use Rattle.tree_laws.specs.Effect.{Effect, Adds, rows_after}
use Rattle.tree_laws.specs.Fits.{Fits, FitsMakes}
use Rattle.tree_laws.specs.History.{tree_after, IsLegal}
use Rattle.tree_laws.specs.Parts.{is_in_part, links_after, kind_after, count_after}
use Rattle.tree_laws.specs.Lock.{stands_of, moves_between}
use Rattle.tree_laws.specs.Verdict.{Verdict, verdict, tree_after_call}
use Rattle.tree_laws.specs.Laws.{IsSoundTree}
use Rattle.tree_laws.proofs.Parts.{nodes_after, counts_after}
use Rattle.tree_laws.proofs.Readings.{directory_by_kind}
use Rattle.tree_laws.proofs.RowFacts.{named_or_none, added_there}
use Rattle.tree_laws.proofs.SoundTrees.{calls_fit, calls_keep_sound}
use Rattle.tree_laws.proofs.Walks.{holder_is}
use Rattle.cut_laws.specs.Rules.{IsOneOf, Birth, births_by, births_of}
use Rattle.cut_laws.proofs.Pushed.{births_of-push}
use Rattle.cut_laws.proofs.NewNodes.{births_are_new_nodes}
use Rattle.mem_values.specs.declared.bucket.Bucket.{Bucket}
use Rattle.mem_values.specs.declared.cell_id.CellId.{CellId}
use Rattle.mem_values.specs.declared.cell_id.CellId.TheVariants as id
use Rattle.mem_values.specs.Logs.{birthplace}
use Rattle.mem_values.specs.Places.{cell_place}
use Rattle.mem_values.specs.Stands.{ShowsBucket, file_links}
use Rattle.mem_values.specs.Touches.{KeepsCell, touches_standing}
use Rattle.mem_values.proofs.Moves.{sound_after}
use Rattle.mem_values.proofs.Basics.{first_false, second_false, both_false}
use Rattle.mem_calls.specs.Ends.{IsPlacedBucket}
use Rattle.mem_calls.specs.Creations.{creates, is_new_cell}
use Rattle.mem_calls.proofs.Placed.{placed_after}
use Rattle.mem_calls.proofs.StandsNowhere.{not_equal}

-- cells that a creation does not change
old_bucket : (child node : NodeId) (kind : Kind) (k : ℕ) → is_new_cell child kind (id.Bucket node k) ≡ false
    → (is_directory_kind kind && (child.0 == node.0)) ≡ false
old_bucket child node File k new = refl
old_bucket child node Directory k new = or_first (child.0 == node.0) false new

old_pending : (child node : NodeId) (kind : Kind) → is_new_cell child kind (id.Pending node) ≡ false → (child.0 == node.0) ≡ false
old_pending child node File new = new
old_pending child node Directory new = new

-- where no birth is one of this node none is found
none_found : (node : ℕ) (births : List Birth) → ((birth : Birth) → IsOneOf births birth → birth.node ≡ node → ⊥)
    → find (λ (birth : Birth). birth.node == node) births ≡ None
none_found node [] none = refl
none_found node (birth ∷ births) none = ⊎_elim
    (λ (here : (birth.node == node) ≡ true). absurd (none birth (inl refl) (eqb-true birth.node node here)))
    (λ (other : (birth.node == node) ≡ false). rw other (none_found node births (λ b one same. none b (inr one) same)))
    (cases_Bool (birth.node == node))

module _ (tree : TreeState) (core : ℕ) (dir : NodeId) (name : List ℕ) (child : NodeId) (kind : Kind) (is : IsSoundTree tree) (lt : core < length tree.made)
    (does : verdict tree core (call.Make dir name kind) ≡ creates child dir name kind) where
  abbrev c : Call
  c = call.Make dir name kind

  abbrev next : TreeState
  next = tree_after_call tree core c

  abbrev effect : Effect
  effect = (verdict tree core c).effect

  pub adds : (verdict tree core (call.Make dir name kind)).effect ≡ Adds dir.0 name child.0
  adds = ap (λ (v : Verdict). v.effect) does

  makes : (verdict tree core c).makes ≡ Some kind
  makes = ap (λ (v : Verdict). v.makes) does

  fits : Fits tree core effect (verdict tree core c).makes
  fits = calls_fit tree core c is lt

  fits_makes : FitsMakes tree core dir.0 name child.0
  fits_makes = subst (λ (v : Verdict). Fits tree core v.effect v.makes) does fits

  number : next_number tree core ≡ child.0
  number = sym fits_makes.number

  here : (child.0 == next_number tree core) ≡ true
  here = eq-eqb child.0 (next_number tree core) fits_makes.number

  -- before the call there is no such node, and no row names it
  pub no_directory : is_directory tree child.0 ≡ false
  no_directory = ap (λ o. option_map_or (λ (n : Node). is_directory_kind n.kind) o false) fits_makes.fresh

  pub unnamed : count_of tree.rows child.0 ≡ 0
  unnamed = elim (named_or_none tree.rows child.0) [
    | inl named ↦ absurd (none_not_some (get tree.nodes child.0) fits_makes.fresh (is.sound.node named.directory named.name child.0 named.row))
    | inr none ↦ none
  ]

  pub no_links : file_links tree child.0 ≡ 0
  no_links = ap (λ b. if b then 0 else count_of tree.rows child.0) no_directory ∙ unnamed

  -- after it the node has this kind
  pub kind_made : kind_after tree core (Some kind) child.0 ≡ kind
  kind_made = ap (λ b. if b then kind else kind_of tree child.0) here

  pub kind_next : is_directory (tree_after_call tree core (call.Make dir name kind)) child.0 ≡ is_directory_kind kind
  kind_next = directory_by_kind next child.0
      ∙ ap is_directory_kind ((nodes_after tree core effect (verdict tree core c).makes child.0 fits).kind
      ∙ (ap (λ m. kind_after tree core m child.0) makes ∙ kind_made))

  count_next : count_of next.rows child.0 ≡ count_of tree.rows child.0 + 1
  count_next = (nodes_after tree core effect (verdict tree core c).makes child.0 fits).links
      ∙ (ap (λ e. links_after tree e child.0 (count_of tree.rows child.0)) adds
      ∙ ap (λ b. if b then count_of tree.rows child.0 + 1 else count_of tree.rows child.0) (eq-eqb child.0 child.0 refl))

  -- a file has one link more
  pub links_next : kind ≡ File → file_links (tree_after_call tree core (call.Make dir name kind)) child.0 ≡ file_links tree child.0 + 1
  links_next file = ap (λ b. if b then 0 else count_of next.rows child.0) (kind_next ∙ ap is_directory_kind file)
      ∙ (count_next ∙ ap (λ n. n + 1) (sym (ap (λ b. if b then 0 else count_of tree.rows child.0) no_directory)))

  row_next : row_of next dir.0 name ≡ Some child.0
  row_next = ap (λ e. get (rows_after tree.rows e) (dir.0, name)) adds ∙ added_there tree.rows dir.0 name child.0

  -- a directory stands where its row is
  stands_next : kind ≡ Directory → stands_of next child.0 ≡ Some dir.0
  stands_next directory =
      let kind_is : is_directory next child.0 ≡ true = kind_next ∙ ap is_directory_kind directory in
      ap (λ b. if b then holder_of next child.0 else None) kind_is
      ∙ holder_is next (calls_keep_sound tree core c is lt).sound child.0 dir.0 name row_next kind_is

  pub made_next : made_by (tree_after_call tree core (call.Make dir name kind)) core ≡ made_by tree core + 1
  made_next = counts_after tree core effect (verdict tree core c).makes core lt
      ∙ (ap (λ m. count_after tree core m core) makes ∙ ap (λ b. if b then made_by tree core + 1 else made_by tree core) (eq-eqb core core refl))

  module _ (apart : child.0 ≢ dir.0) where
    -- where the row's own directory stands stays
    pub stays : touches_standing tree core (call.Make dir name kind) dir.0 ≡ false
    stays = second_false (is_directory_kind kind) (next_number tree core == dir.0) (ap (λ n. n == dir.0) number ∙ not_equal child.0 dir.0 apart)

    -- a bucket of the new directory
    pub placed_next : (k : ℕ) (old new : Bucket) → kind ≡ Directory → ShowsBucket tree child.0 k old → IsPlacedBucket (Some dir) old new
        → ShowsBucket (tree_after_call tree core (call.Make dir name kind)) child.0 k new
    placed_next k old new directory shows placed =
        placed_after tree core c is lt child.0 k (first_false (dir.0 == child.0) (bucket name == k) (not_equal dir.0 child.0 (λ same. apart (sym same))))
        (Some dir) old new shows placed (sym (stands_next directory))

  -- It keeps each cell but the bucket of the name, those of the new node and the own log.
  pub make_keeps : (nodes : ℕ) (which : CellId) → (cell_place nodes (id.Part (record { 0 = core })) ≡ cell_place nodes which → ⊥)
      → (cell_place nodes (id.Bucket dir (bucket name)) ≡ cell_place nodes which → ⊥)
      → is_new_cell child kind which ≡ false → KeepsCell tree core (call.Make dir name kind) which
  make_keeps nodes id.Lock part there new = inl (ap (λ (v : Verdict). moves_between tree v.effect) does)
  make_keeps nodes (id.Bucket node k) part there new = inl
      (both_false (is_in_part node.0 (λ n. bucket n == k) dir.0 name) (is_directory_kind kind && (next_number tree core == node.0))
      (outside (dir.0 == node.0) (bucket name == k) refl refl) (ap (λ n. is_directory_kind kind && (n == node.0)) number ∙ old_bucket child node kind k new))
    where
      outside : (a b : Bool) → (dir.0 == node.0) ≡ a → (bucket name == k) ≡ b → (a && b) ≡ false
      outside true true one two = absurd (there (λ i. 16 + 9 * eqb-true dir.0 node.0 one i + eqb-true (bucket name) k two i))
      outside true false one two = refl
      outside false b one two = refl
  make_keeps nodes (id.File node) part there new = inl (ap (λ n. (n == node.0) && not (is_directory next node.0)) number ∙ ⊎_elim
      (λ same. second_false (child.0 == node.0) (not (is_directory next node.0)) (by kind refl same))
      (λ other. first_false (child.0 == node.0) (not (is_directory next node.0)) other)
      (cases_Bool (child.0 == node.0)))
    where
      by : (k : Kind) → kind ≡ k → (child.0 == node.0) ≡ true → not (is_directory next node.0) ≡ false
      by File is_kind same = absurd (both_ways (child.0 == node.0)
          (or_first (child.0 == node.0) false (ap (λ k. is_new_cell child k (id.File node)) (sym is_kind) ∙ new)) same)
      by Directory is_kind same = ap not (ap (is_directory next) (sym (eqb-true child.0 node.0 same)) ∙ (kind_next ∙ ap is_directory_kind is_kind))
  make_keeps nodes (id.Pending node) part there new = inl (ap (λ n. n == node.0) number ∙ old_pending child node kind new)
  make_keeps nodes (id.Part owner) part there new = ⊎_elim
      (λ same. absurd (part (ap (λ (n : ℕ). cell_place nodes (id.Part (record { 0 = n }))) (eqb-true core owner.0 same))))
      (λ other. inl other)
      (cases_Bool (core == owner.0))

module _ (first : TreeState) (calls : List Entry) (entry : Entry) (dir : NodeId) (name : List ℕ) (child : NodeId) (kind : Kind) (sound : IsSoundTree first)
    (legal : IsLegal first calls) (lt : entry.core.0 < length (tree_after first calls).made) (call_is : entry.call ≡ call.Make dir name kind)
    (does : verdict (tree_after first calls) entry.core.0 (call.Make dir name kind) ≡ creates child dir name kind) where
  abbrev v : Verdict
  v = verdict (tree_after first calls) entry.core.0 entry.call

  abbrev is_its : Birth → Bool
  is_its birth = birth.node == child.0

  abbrev own : Birth
  own = record { stamp = entry.stamp.0; directory = dir.0; node = child.0 }

  does_now : v ≡ creates child dir name kind
  does_now = ap (verdict (tree_after first calls) entry.core.0) call_is ∙ does

  births : births_by entry.stamp.0 v.effect v.makes ≡ own ∷ []
  births = ap (λ (w : Verdict). births_by entry.stamp.0 w.effect w.makes) does_now

  none : find is_its (births_of first calls) ≡ None
  none = none_found child.0 (births_of first calls) (λ birth one same. none_not_some (get (tree_after first calls).nodes child.0)
      (fits_makes (tree_after first calls) entry.core.0 dir name child kind (sound_after first 0 calls sound legal) lt does).fresh
      ((births_are_new_nodes first calls child.0 sound legal).0 (birth, one, same)).0)

  found : find is_its (own ∷ []) ≡ Some own
  found = rw (eq-eqb child.0 child.0 refl) refl

  -- the directory in which a node was made is that of its row
  pub birthplace_next : birthplace first (calls ++ entry ∷ []) child.0 ≡ Some dir.0
  birthplace_next = ap (option_map (λ (birth : Birth). birth.directory)) (ap (find is_its) (births_of-push first calls entry)
      ∙ (find-append is_its (births_of first calls) (births_by entry.stamp.0 v.effect v.makes) ∙ ((λ i. option_or (none i) (find is_its (births i))) ∙ found)))
