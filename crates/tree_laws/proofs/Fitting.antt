-- Where no condition of the table holds, what a call does fits.
use Rattle.std.proofs.Common.{◌≡◌, ◌≢◌, ℕ, ◌+◌, ◌<◌, Bool, true, false, cond, not, ◌||◌, ◌&&◌, List, ◌∷◌, length, take, drop, Option, Some, None, IsSome, inl, inr, refl, sym, ap, subst, ◌∙◌, nat_eq, nat_lt}
use borrow.Author.Tests.{eqb-true, eqb-false, eq-eqb, leb-false}
use Rattle.std.specs.FinMap.{get}
use Rattle.sfs_base.specs.declared.numbers.Kind.{Kind}
use Rattle.tree_laws.specs.declared.call.Call.{Call}
use Rattle.tree_laws.specs.declared.call.Call.TheVariants as call
use Rattle.tree_laws.specs.declared.reply.Code.{Code}
use Rattle.tree_laws.specs.declared.reply.Code.TheVariants.{NotDir, IsDir, NotEmpty, FileTooBig}
use Rattle.tree_laws.specs.declared.reply.Reply.{Reply}
use Rattle.tree_laws.specs.declared.reply.Reply.TheVariants as reply
use Rattle.tree_laws.specs.Tree.{TreeState, row_of, is_alive, is_directory, row_count, lies_below, kind_of, links_of, bytes_of, names_of}
use Rattle.tree_laws.specs.Names.{with_kinds}
use Rattle.tree_laws.specs.Effect.{Effect, Adds, Removes, Moves, Edits, Puts, Resizes}
use Rattle.tree_laws.specs.Verdict.{LARGEST_FILE, Verdict, refused, answered, done, or_else, directory_fault, file_fault, make_fault, link_fault, node_fault, size_of, unlink_row, rmdir_row, place_fault, move_fault, names_child, move_row, verdict, make_node, look_row, write_bytes}
use Rattle.std.specs.Option.{option_or}
use Rattle.tree_laws.specs.Sound.{Above, IsSound, IsNumbered}
use Rattle.tree_laws.specs.Fits.{Fits, FitsTree, FitsEdits, MayHold, HasNoRows, Lacks}
use Rattle.tree_laws.proofs.RowFacts.{alive_named, no_rows}
use Rattle.tree_laws.proofs.KeepsSound.{way_up}
use Rattle.tree_laws.proofs.Numbers.{fresh_number}
use Rattle.tree_laws.proofs.Walks.{not_above}
use Rattle.sfs_base.proofs.BasicTruth.{not_false, not_both, then_false}
use Rattle.sfs_base.proofs.BasicOptions.{none_of, some_is}

-- what a verdict does fits
abbrev pub VerdictFits : TreeState → ℕ → Verdict → Type 0
VerdictFits tree core verdict = Fits tree core verdict.effect verdict.makes

or_else_fits : (tree : TreeState) (core : ℕ) (fault : Option Code) (v : Verdict) → (fault ≡ None → VerdictFits tree core v)
    → VerdictFits tree core (or_else fault v)
or_else_fits tree core (Some code) v h = tt
or_else_fits tree core None v h = h refl

unless_fits : (tree : TreeState) (core : ℕ) (b : Bool) (code : Code) (v : Verdict) → (b ≡ false → VerdictFits tree core v)
    → VerdictFits tree core (cond b (refused code) v)
unless_fits tree core true code v h = tt
unless_fits tree core false code v h = h refl

-- the effect that is done fits, and so does the refusal before it
unless_done : (tree : TreeState) (core : ℕ) (b : Bool) (code : Code) (effect : Effect) → (b ≡ false → FitsTree tree effect)
    → VerdictFits tree core (cond b (refused code) (done effect))
unless_done tree core true code effect h = tt
unless_done tree core false code effect h = h refl

-- an answer changes nothing
answer_fits : (tree : TreeState) (core : ℕ) (fault : Option Code) (r : Reply) → VerdictFits tree core (or_else fault (answered r))
answer_fits tree core fault r = or_else_fits tree core fault (answered r) (λ _. tt)

pub neither : (a b : Option Code) → option_or a b ≡ None → (a ≡ None) × (b ≡ None)
neither (Some code) b e = cc
neither None b e = (refl, e)

pub not_so : (b : Bool) (code : Code) (rest : Option Code) → cond b (Some code) rest ≡ None → (b ≡ false) × (rest ≡ None)
not_so true code rest e = cc
not_so false code rest e = (refl, e)

third_not : (a b c : Bool) (k l m : Code) → cond a (Some k) (cond b (Some l) (cond c (Some m) None)) ≡ None → c ≡ false
third_not a b c k l m none =
    let one = not_so a k (cond b (Some l) (cond c (Some m) None)) none in
    let two = not_so b l (cond c (Some m) None) one.1 in
    (not_so c m None two.1).0

pub may_hold : (tree : TreeState) (directory : ℕ) → directory_fault tree directory ≡ None → MayHold tree directory
may_hold tree directory none =
    let alive = not_so _ _ _ none in
    let kind = not_so _ _ _ alive.1 in
    record { kind = not_false _ kind.0; alive = not_false _ alive.0 }

-- a live file
pub record IsFile (tree : TreeState) (file : ℕ) : Type 0 where
  pub alive : is_alive tree file ≡ true
  pub kind : is_directory tree file ≡ false

pub live_file : (tree : TreeState) (file : ℕ) → file_fault tree file ≡ None → IsFile tree file
live_file tree file none =
    let alive = not_so _ _ _ none in
    let kind = not_so _ _ _ alive.1 in
    record { alive = not_false _ alive.0; kind = kind.0 }

-- a live file is not the root, and a node
pub file_node : (tree : TreeState) → IsSound tree → (file : ℕ) → IsFile tree file → (file ≢ 0) × IsSome (get tree.nodes file)
file_node tree s file f =
    let no_root : file ≢ 0 = λ root. not_both (subst (λ (x : ℕ). is_directory tree x ≡ true) (sym root) s.root) f.kind in (
      no_root,
      elim (alive_named tree file f.alive) [
        | inl root ↦ absurd (no_root root)
        | inr named ↦ s.node named.directory named.name file named.row
      ],
    )

bare_when : (tree : TreeState) (node : ℕ) → (is_directory tree node && not (nat_eq (row_count tree node) 0)) ≡ false → is_directory tree node ≡ true
    → HasNoRows tree node
bare_when tree node none kind = no_rows tree node (eqb-true _ _ (not_false _ (then_false (is_directory tree node) _ none kind)))

module _ (tree : TreeState) (core : ℕ) (s : IsSound tree) where
  make_fits : IsNumbered tree → core < length tree.made → (directory : ℕ) (name : List ℕ) (kind : Kind) → make_fault tree core directory name ≡ None
      → VerdictFits tree core (make_node tree core directory name kind)
  make_fits n lt directory name kind none =
      let both = neither _ _ none in
      let absent = not_so _ _ _ both.1 in
      let room = not_so _ _ _ absent.1 in
      let share = not_so _ _ _ room.1 in
      let within = leb-false _ _ share.0 in
      record { holder = may_hold tree directory both.0; free = none_of _ absent.0; number = refl; within = within; fresh = fresh_number tree core n lt within }

  link_fits : (file directory : ℕ) (name : List ℕ) → link_fault tree file directory name ≡ None → VerdictFits tree core (done (Adds directory name file))
  link_fits file directory name none =
      let alive = not_so _ _ _ none in
      let kind = not_so _ _ _ alive.1 in
      let both = neither _ _ kind.1 in
      let absent = not_so _ _ _ both.1 in
      let node = file_node tree s file (record { alive = not_false _ alive.0; kind = kind.0 }) in
      record {
        holder = may_hold tree directory both.0;
        free = none_of _ absent.0;
        no_root = node.0;
        placeless = λ k. absurd (not_both k kind.0);
        node = node.1;
      }

  unlink_fits : (directory : ℕ) (name : List ℕ) (child : Option ℕ) → row_of tree directory name ≡ child
      → VerdictFits tree core (unlink_row tree directory name child)
  unlink_fits directory name None e = tt
  unlink_fits directory name (Some child) e =
      unless_done tree core _ _ (Removes directory name child) (λ kind. record { row = e; bare = λ k. absurd (not_both k kind) })

  rmdir_fits : (directory : ℕ) (name : List ℕ) (child : Option ℕ) → row_of tree directory name ≡ child
      → VerdictFits tree core (rmdir_row tree directory name child)
  rmdir_fits directory name None e = tt
  rmdir_fits directory name (Some child) e =
      unless_fits tree core (not (is_directory tree child)) NotDir
      (cond (not (nat_eq (row_count tree child) 0)) (refused NotEmpty) (done (Removes directory name child)))
      (λ kind. unless_done tree core _ _ (Removes directory name child)
      (λ rows. record { row = e; bare = λ k. no_rows tree child (eqb-true _ _ (not_false _ rows)) }))

  -- the directories above the target, where a directory may move to it
  away_from : (child to_directory : ℕ) → MayHold tree to_directory
      → (is_directory tree child && (nat_eq to_directory child || lies_below tree to_directory child)) ≡ false → is_directory tree child ≡ true
      → (above : List ℕ) × Above tree to_directory above × Lacks (to_directory ∷ above) child
  away_from child to_directory holder none kind =
      let apart = and_or (is_directory tree child) _ _ none kind in
      let way = way_up tree s to_directory holder.kind holder.alive in
      (way.0, way.1, (eqb-false _ _ apart.0, not_above tree s child way.1 holder.kind apart.1))
    where
      and_or : (a b c : Bool) → (a && (b || c)) ≡ false → a ≡ true → (b ≡ false) × (c ≡ false)
      and_or true true c e t = cc
      and_or true false c e t = (refl, e)
      and_or false b c e t = cc

  place_bare : (child to_directory : ℕ) (to_name : List ℕ) (o : Option ℕ) → place_fault tree child to_directory to_name o ≡ None → (there : ℕ) → o ≡ Some there
      → is_directory tree there ≡ true → HasNoRows tree there
  place_bare child to_directory to_name None none there e kind = cc
  place_bare child to_directory to_name (Some y) none there e kind =
      let third =
      third_not (is_directory tree child && not (is_directory tree y)) (not (is_directory tree child) && is_directory tree y)
      (is_directory tree y && not (nat_eq (row_count tree y) 0)) NotDir IsDir NotEmpty none in
      let same : y ≡ there = some_is y there e in
      subst (λ (z : ℕ). HasNoRows tree z) same (bare_when tree y third (subst (λ (z : ℕ). is_directory tree z ≡ true) (sym same) kind))

  move_fits : (directory : ℕ) (name : List ℕ) (to_directory : ℕ) (to_name : List ℕ) (child : Option ℕ) → MayHold tree to_directory
      → row_of tree directory name ≡ child → VerdictFits tree core (move_row tree directory name to_directory to_name child)
  move_fits directory name to_directory to_name None holder e = tt
  move_fits directory name to_directory to_name (Some child) holder e =
      elim (names_child (row_of tree to_directory to_name) child) as (λ b. names_child (row_of tree to_directory to_name) child ≡ b
      → VerdictFits tree core
      (cond b (answered reply.Ok) (or_else (move_fault tree child to_directory to_name) (done (Moves directory name to_directory to_name child))))) [
        | true ↦ λ t. tt
        | false ↦ λ t. or_else_fits tree core _ (done (Moves directory name to_directory to_name child)) (λ none.
            let below = not_so _ _ _ none in
            record {
              row = e;
              holder = holder;
              apart = λ there. other (row_of tree to_directory to_name) there t;
              bare = place_bare child to_directory to_name (row_of tree to_directory to_name) below.1;
              away = λ kind _. away_from child to_directory holder below.0 kind;
            })
      ] refl
    where
      other : (o : Option ℕ) → o ≡ Some child → names_child o child ≡ false → ⊥
      other o there e = not_both (ap (λ o. names_child o child) there ∙ eq-eqb child child refl) e

  edits_fit : (file : ℕ) → IsFile tree file → FitsEdits tree file
  edits_fit file f = record { node = (file_node tree s file f).1; kind = f.kind }

  write_fits : (file at : ℕ) (bytes : List ℕ) → IsFile tree file → VerdictFits tree core (write_bytes file at bytes)
  write_fits file at bytes f =
      elim (nat_eq (length bytes) 0) as (λ b. VerdictFits tree core
      (cond b (answered reply.Ok) (cond (nat_lt LARGEST_FILE (at + length bytes)) (refused FileTooBig) (done (Edits file (Puts at bytes)))))) [
        | true ↦ tt
        | false ↦ unless_done tree core _ _ (Edits file (Puts at bytes)) (λ _. edits_fit file f)
      ]

  look_fits : (child : Option ℕ) → VerdictFits tree core (look_row tree child)
  look_fits None = tt
  look_fits (Some child) = tt

  -- what any call does fits
  pub verdict_fits : IsNumbered tree → core < length tree.made → (c : Call) → VerdictFits tree core (verdict tree core c)
  verdict_fits n lt (call.Look directory name) = or_else_fits tree core _ _ (λ _. look_fits (row_of tree directory.0 name))
  verdict_fits n lt (call.Make directory name kind) = or_else_fits tree core _ _ (make_fits n lt directory.0 name kind)
  verdict_fits n lt (call.Link file directory name) = or_else_fits tree core _ _ (link_fits file.0 directory.0 name)
  verdict_fits n lt (call.Unlink directory name) = or_else_fits tree core _ _ (λ _. unlink_fits directory.0 name _ refl)
  verdict_fits n lt (call.Rmdir directory name) = or_else_fits tree core _ _ (λ _. rmdir_fits directory.0 name _ refl)
  verdict_fits n lt (call.Rename directory name to_directory to_name) =
      or_else_fits tree core _ _ (λ none. move_fits directory.0 name to_directory.0 to_name _ (may_hold tree to_directory.0 (neither _ _ none).1) refl)
  verdict_fits n lt (call.Write file at bytes) = or_else_fits tree core _ _ (λ none. write_fits file.0 at bytes (live_file tree file.0 none))
  verdict_fits n lt (call.Read file at count) = answer_fits tree core (file_fault tree file.0) (reply.Bytes (take count (drop at (bytes_of tree file.0))))
  verdict_fits n lt (call.Trunc file size) =
      or_else_fits tree core _ _ (λ none. unless_done tree core _ _ (Edits file.0 (Resizes size)) (λ _. edits_fit file.0 (live_file tree file.0 none)))
  verdict_fits n lt (call.Stat node) =
      answer_fits tree core (node_fault tree node.0) (reply.Stat (kind_of tree node.0) (links_of tree node.0) (size_of tree node.0))
  verdict_fits n lt (call.List directory) =
      answer_fits tree core (directory_fault tree directory.0) (reply.Names (with_kinds tree (names_of directory.0 tree.rows)))
  verdict_fits n lt (call.Fsync node) = answer_fits tree core (node_fault tree node.0) reply.Ok
