-- A rename answers and does what the values say.
use Rattle.std.proofs.Common.{◌≡◌, ℕ, Bool, true, false, cond, not, ◌||◌, ◌&&◌, List, Option, Some, None, inl, inr, refl, sym, ap, ap₂, subst, ◌∙◌, nat_eq, nat_le}
use borrow.Author.Tests.{eqb-true}
use Rattle.std.specs.List.{list_any}
use Rattle.std.specs.Option.{option_or}
use Rattle.std.specs.FinMap.{len}
use Rattle.sfs_base.specs.Name.{bucket as name_bucket}
use Rattle.sfs_base.proofs.BasicTruth.{and_first, and_second, true_or_false}
use Rattle.tree_laws.specs.declared.reply.Code.{Code}
use Rattle.tree_laws.specs.declared.reply.Code.TheVariants.{NotDir, IsDir, NotEmpty, Invalid, DirFull}
use Rattle.tree_laws.specs.declared.reply.Reply.TheVariants as reply
use Rattle.tree_laws.specs.Tree.{BUCKET_ROWS, TreeState, row_of, is_directory, lies_below, row_count}
use Rattle.tree_laws.specs.Effect.{Moves}
use Rattle.tree_laws.specs.Fits.{MayHold}
use Rattle.tree_laws.specs.Verdict.{answered, done, or_else, directory_fault, place_fault, move_fault, names_child, move_row}
use Rattle.tree_laws.specs.Laws.{IsSoundTree}
use Rattle.tree_laws.proofs.Fitting.{may_hold}
use Rattle.tree_laws.proofs.Walks.{not_below_own}
use Rattle.tree_laws.proofs.Holders.{read_holders_are_above}
use Rattle.mem_rename.specs.declared.sides.Move.{Move}
use Rattle.mem_rename.specs.Sights.{Sight, rename_call, stands_by, fault_seen, child_seen, there_seen, moves_directory, meets_directory, goes_between, goes_below, are_bare, place_fault_by, move_fault_by, move_by, rename_by, ShowsMove}
use Rattle.mem_rename.specs.Laws.{RenamesAreAsSeen}
use Rattle.mem_rename.proofs.Told.{row_told, kind_told, standing_told, fault_told}
use Rattle.mem_rename.proofs.Bare.{bare_told}

-- the fault of a place by whether the child and what stands there are directories, and whether the latter has no rows
abbrev by_kinds : Bool → Bool → Bool → Option Code
by_kinds moves meets bare = cond (moves && not meets) (Some NotDir) (cond (not moves && meets) (Some IsDir) (cond (meets && not bare) (Some NotEmpty) None))

-- where not both are directories it does not matter whether that has rows
bare_matters_not : (moves meets bare other : Bool) → (moves && meets) ≡ false → by_kinds moves meets bare ≡ by_kinds moves meets other
bare_matters_not true true bare other apart = absurd (Rattle.sfs_base.proofs.BasicTruth.true_not_false apart)
bare_matters_not true false bare other apart = refl
bare_matters_not false true bare other apart = refl
bare_matters_not false false bare other apart = refl

module _ (tree : TreeState) (move : Move) (seen : Sight) (is : IsSoundTree tree) (shows : ShowsMove tree move seen) where
  abbrev p : ℕ
  p = move.directory.0

  abbrev q : ℕ
  q = move.to_directory.0

  abbrev n : List ℕ
  n = move.name

  abbrev m : List ℕ
  m = move.to_name

  pub child_row : child_seen seen move ≡ row_of tree p n
  child_row = row_told tree p n seen.old shows.old

  pub there_row : there_seen seen move ≡ row_of tree q m
  there_row = row_told tree q m seen.new shows.new

  pub child_kind : (child : ℕ) → row_of tree p n ≡ Some child → moves_directory seen move ≡ is_directory tree child
  child_kind child row = kind_told tree p n seen.old child shows.old row

  pub there_kind : (there : ℕ) → row_of tree q m ≡ Some there → meets_directory seen move ≡ is_directory tree there
  there_kind there row = kind_told tree q m seen.new there shows.new row

  -- a directory that may hold rows stands, by its bucket
  pub stands : (directory number : ℕ) (b : Rattle.mem_values.specs.declared.bucket.Bucket.Bucket)
      → Rattle.mem_values.specs.Stands.ShowsBucket tree directory number b → MayHold tree directory → stands_by directory b ≡ true
  stands directory number b shown holder = standing_told tree is directory number b shown ∙ ap₂ (λ a k. a && k) holder.alive holder.kind

  old_fault : fault_seen p seen.old seen.old_links ≡ directory_fault tree p
  old_fault = fault_told tree is p (name_bucket n) seen.old_links seen.old shows.old shows.old_links

  new_fault : directory_fault tree p ≡ None → fault_seen q seen.new seen.new_links ≡ directory_fault tree q
  new_fault none = fault_told tree is q (name_bucket m) seen.new_links seen.new shows.new
      (shows.new_links (stands p (name_bucket n) seen.old shows.old (may_hold tree p none)))

  -- the directories above the new one are those that were read
  pub below_told : MayHold tree q → goes_between seen move ≡ true → (child : ℕ) → lies_below tree q child ≡ list_any (λ above. nat_eq above child) seen.above
  below_told holder between child =
      let way = shows.above (stands q (name_bucket m) seen.new shows.new holder) between in
      ap (λ l. list_any (λ above. nat_eq above child) l) (read_holders_are_above tree q seen.above is holder.alive holder.kind way.holders way.ends).1

  abbrev at_or_below : ℕ → Bool
  at_or_below child = nat_eq q child || list_any (λ above. nat_eq above child) seen.above

  invalid_told : MayHold tree q → (child : ℕ) → row_of tree p n ≡ Some child
      → goes_below seen move child ≡ (is_directory tree child && (nat_eq q child || lies_below tree q child))
  invalid_told holder child row = elim (true_or_false (is_directory tree child)) [
    | inr file ↦ ap (λ k. (not (nat_eq p q) && k) && at_or_below child) (child_kind child row ∙ file)
        ∙ (neither (nat_eq p q) (at_or_below child) ∙ sym (ap (λ k. k && (nat_eq q child || lies_below tree q child)) file))
    | inl kind ↦ elim (true_or_false (nat_eq p q)) [
      | inl same ↦
          ap (λ s. (not s && moves_directory seen move) && at_or_below child) same
          ∙ sym (ap (λ k. k && (nat_eq q child || lies_below tree q child)) kind
          ∙ subst (λ (z : ℕ). (nat_eq z child || lies_below tree z child) ≡ false) (eqb-true _ _ same) (not_below_own tree is.sound p child n row kind))
      | inr other ↦
          let between : goes_between seen move ≡ true = ap₂ (λ s k. not s && k) other (child_kind child row ∙ kind) in
          ap (λ b. b && at_or_below child) between
          ∙ (ap (λ b. nat_eq q child || b) (sym (below_told holder between child)) ∙ sym (ap (λ k. k && (nat_eq q child || lies_below tree q child)) kind))
    ]
  ]
    where
      neither : (same any : Bool) → ((not same && false) && any) ≡ false
      neither true any = refl
      neither false any = refl

  -- the directory that is replaced has no row exactly where its buckets have none
  bare_there : (child there : ℕ) → row_of tree p n ≡ Some child → row_of tree q m ≡ Some there → nat_eq there child ≡ false → is_directory tree child ≡ true
      → is_directory tree there ≡ true
      → are_bare seen.target ≡ nat_eq (row_count tree there) 0
  bare_there child there row met apart kind kind_there =
      bare_told tree there seen.target (shows.target there (
      ap (Rattle.mem_rename.specs.Sights.replaced_directory seen move) (child_row ∙ row)
      ∙ (ap₂ (λ x y. cond (x && y && not (names_child (there_seen seen move) child)) (there_seen seen move) None) (child_kind child row ∙ kind)
      (there_kind there met ∙ kind_there)
      ∙ (ap (λ o. cond (not (names_child o child)) o None) (there_row ∙ met) ∙ ap (λ b. cond (not b) (Some there) None) apart))))

  place_told : (child : ℕ) → row_of tree p n ≡ Some child → names_child (row_of tree q m) child ≡ false → (there : Option ℕ) → row_of tree q m ≡ there
      → place_fault_by seen move there ≡ place_fault tree child q m there
  place_told child row apart None met = ap (λ l. cond (nat_le BUCKET_ROWS l) (Some DirFull) None) (ap len shows.new.rows)
  place_told child row apart (Some there) met =
      ap₂ (λ x y. by_kinds x y (are_bare seen.target)) (child_kind child row) (there_kind there met)
      ∙ elim (true_or_false (is_directory tree child && is_directory tree there)) [
        | inl both ↦ ap (by_kinds (is_directory tree child) (is_directory tree there))
            (bare_there child there row met (sym (ap (λ o. names_child o child) met) ∙ apart) (and_first _ _ both) (and_second _ _ both))
        | inr not_both ↦ bare_matters_not (is_directory tree child) (is_directory tree there) _ _ not_both
      ]

  move_told : MayHold tree q → (child : ℕ) → row_of tree p n ≡ Some child → names_child (row_of tree q m) child ≡ false
      → move_fault_by seen move child ≡ move_fault tree child q m
  move_told holder child row apart =
      ap₂ (λ b f. cond b (Some Invalid) f) (invalid_told holder child row)
      (ap (place_fault_by seen move) there_row ∙ place_told child row apart (row_of tree q m) refl)

  moved_told : MayHold tree q → (child : Option ℕ) → row_of tree p n ≡ child → move_by seen move child ≡ move_row tree p n q m child
  moved_told holder None row = refl
  moved_told holder (Some child) row = elim (true_or_false (names_child (row_of tree q m) child)) [
    | inl same ↦
        ap (λ b. cond b (answered reply.Ok) (or_else (move_fault_by seen move child) (done (Moves p n q m child))))
        (ap (λ o. names_child o child) there_row ∙ same)
        ∙ sym (ap (λ b. cond b (answered reply.Ok) (or_else (move_fault tree child q m) (done (Moves p n q m child)))) same)
    | inr apart ↦
        ap₂ (λ b f. cond b (answered reply.Ok) (or_else f (done (Moves p n q m child)))) (ap (λ o. names_child o child) there_row)
        (move_told holder child row apart)
  ]

  -- the table goes by the faults of both directories
  by_faults : (core : ℕ) (old new : Option Code) → directory_fault tree p ≡ old → directory_fault tree q ≡ new
      → rename_by seen move ≡ or_else (option_or old new) (move_row tree p n q m (row_of tree p n))
  by_faults core (Some code) new old_is new_is = ap
      (λ f. or_else (option_or f (fault_seen q seen.new seen.new_links)) (move_by seen move (child_seen seen move)))
      (old_fault ∙ old_is)
  by_faults core None new old_is new_is =
      ap (λ f. or_else (option_or f (fault_seen q seen.new seen.new_links)) (move_by seen move (child_seen seen move))) (old_fault ∙ old_is)
      ∙ (ap (λ f. or_else f (move_by seen move (child_seen seen move))) (new_fault old_is ∙ new_is) ∙ by_new new new_is)
    where
      by_new : (new : Option Code) → directory_fault tree q ≡ new
          → or_else new (move_by seen move (child_seen seen move)) ≡ or_else new (move_row tree p n q m (row_of tree p n))
      by_new (Some code) is_fault = refl
      by_new None none = ap (move_by seen move) child_row ∙ moved_told (may_hold tree q none) (row_of tree p n) refl

pub renames_are_as_seen : RenamesAreAsSeen
renames_are_as_seen tree core move seen is shows =
    sym (by_faults tree move seen is shows core (directory_fault tree move.directory.0) (directory_fault tree move.to_directory.0) refl refl)
