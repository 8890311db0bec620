-- The values with which the cells that a rename changed go home show the tree after it.
use Rattle.std.proofs.Common.{◌≡◌, ℕ, ◌+◌, ◌-◌, ◌<◌, Bool, true, false, cond, not, ◌||◌, ◌&&◌, List, length, Option, Some, None, ◌⊎◌, inl, inr, refl, sym, ap, ap₂, subst, ◌∙◌, arith, nat_eq}
use borrow.Author.Tests.{eqb-true, eqb-false, eq-eqb}
use Rattle.std.specs.Option.{option_or}
use Rattle.std.specs.FinMap.{FinMap, get, remove}
use Rattle.sfs_base.specs.Name.{bucket as name_bucket}
use Rattle.sfs_base.specs.declared.numbers.Kind.{Kind}
use Rattle.sfs_base.proofs.BasicTruth.{and_first, and_second, true_or_false, not_both}
use Rattle.sfs_base.proofs.BasicOptions.{some_is}
use Rattle.tree_laws.specs.declared.reply.Code.{Code}
use Rattle.tree_laws.specs.declared.reply.Reply.TheVariants as reply
use Rattle.tree_laws.specs.Order.{name_cmp}
use Rattle.tree_laws.specs.Tree.{TreeState, row_of, is_directory, count_of, holder_of, bucket_rows}
use Rattle.tree_laws.specs.Effect.{Effect, Stays, Moves, tree_with}
use Rattle.tree_laws.specs.Fits.{Fits, FitsMoves}
use Rattle.tree_laws.specs.Lock.{stands_of}
use Rattle.tree_laws.specs.Parts.{is_this, is_in_part, part_without}
use Rattle.tree_laws.specs.Sound.{IsSound}
use Rattle.tree_laws.specs.Verdict.{answered, done, or_else, directory_fault, place_fault, move_fault, names_child, move_row, tree_after_call}
use Rattle.tree_laws.specs.Laws.{IsSoundTree}
use Rattle.tree_laws.proofs.Fitting.{not_so}
use Rattle.tree_laws.proofs.Names.{get-names_where}
use Rattle.tree_laws.proofs.Parts.{parts_after, nodes_after}
use Rattle.tree_laws.proofs.RowFacts.{holder_found, named_alive, added_there, added_cases, removed_cases}
use Rattle.tree_laws.proofs.SoundTrees.{calls_fit, calls_keep_sound}
use Rattle.tree_laws.proofs.Walks.{holder_is}
use Rattle.mem_values.specs.declared.bucket.Bucket.{Bucket}
use Rattle.mem_values.specs.Stands.{ShowsBucket, if_directory, file_links}
use Rattle.mem_values.specs.Touches.{touches_standing}
use Rattle.mem_values.proofs.Standing.{standing_stays}
use Rattle.mem_rename.specs.declared.sides.Move.{Move}
use Rattle.mem_rename.specs.Sights.{Sight, rename_call, there_seen, moves_directory, meets_directory, goes_between, ShowsMove}
use Rattle.mem_rename.specs.After.{rows_moved, directories_moved, stands_moved, IsMovedBucket}
use Rattle.mem_rename.specs.Laws.{MovedBucketsShow, ReplacedFilesLoseALink}
use Rattle.mem_rename.proofs.Told.{some_counted}
use Rattle.mem_rename.proofs.Verdicts.{child_kind, there_kind, there_row}
use Rattle.mem_rename.proofs.Moved.{MovesChild, moves_child, is_this_there}
use Rattle.mem_rename.proofs.Logged.{not_refused}
use Rattle.mem_rename.proofs.Rows.{TellsDirectories, tells_gone, tells_come, tells_over, gone_or_same}

module _ (tree : TreeState) (core : ℕ) (move : Move) (seen : Sight) (is : IsSoundTree tree) (lt : core < length tree.made) (shows : ShowsMove tree move seen)
    (child : ℕ) (moves : MovesChild tree core move child) where
  abbrev p : ℕ
  p = move.directory.0

  abbrev q : ℕ
  q = move.to_directory.0

  abbrev n : List ℕ
  n = move.name

  abbrev m : List ℕ
  m = move.to_name

  abbrev effect : Effect
  effect = Moves p n q m child

  abbrev next : TreeState
  next = tree_after_call tree core (rename_call move)

  abbrev moved : TreeState
  moved = tree_with tree core effect None

  next_is : next ≡ moved
  next_is = λ i. tree_with tree core (moves.effect i) (moves.makes i)

  pub fits : FitsMoves tree p n q m child
  fits = subst (λ (z : Effect × Option Kind). Fits tree core z.0 z.1) (λ i. (moves.effect i, moves.makes i)) (calls_fit tree core (rename_call move) is lt)

  moved_sound : IsSound moved
  moved_sound = subst IsSound next_is (calls_keep_sound tree core (rename_call move) is lt).sound

  never : {a : Effect} → a ≡ Stays → a ≡ effect → ⊥
  never {a} stays moved_is = apart (sym stays ∙ moved_is)
    where
      apart : ◌≡◌ {A = Effect} Stays effect → ⊥
      apart e = cc

  row_effect : (move_row tree p n q m (Some child)).effect ≡ effect
  row_effect =
      let none = not_refused tree core move child moves (option_or (directory_fault tree p) (directory_fault tree q)) refl in
      sym (ap (λ f. (or_else f (move_row tree p n q m (row_of tree p n))).effect) none ∙ ap (λ o. (move_row tree p n q m o).effect) moves.row) ∙ moves.effect

  -- what stands at the new row is no reason to refuse
  unrefused : (same : Bool) (fault : Option Code) → (cond same (answered reply.Ok) (or_else fault (done effect))).effect ≡ effect → fault ≡ None
  unrefused true fault is_effect = absurd (never refl is_effect)
  unrefused false (Some code) is_effect = absurd (never refl is_effect)
  unrefused false None is_effect = refl

  pub place_free : place_fault tree child q m (row_of tree q m) ≡ None
  place_free = (not_so _ _ _ (unrefused (names_child (row_of tree q m) child) (move_fault tree child q m) row_effect)).1

  -- a file does not take a directory's place
  no_directory : is_directory tree child ≡ false → (there : Option ℕ) → row_of tree q m ≡ there → place_fault tree child q m there ≡ None
      → if_directory tree there ≡ None
  no_directory file None met free = refl
  no_directory file (Some there) met free =
      let second = (not_so _ _ _ (not_so _ _ _ free).1).0 in
      ap (λ k. cond k (Some there) None) (sym (ap (λ k. not k && is_directory tree there) file) ∙ second)

  module _ (directory number : ℕ) where
    abbrev test : List ℕ → Bool
    test name = nat_eq (name_bucket name) number

    abbrev rows : FinMap name_cmp ℕ
    rows = bucket_rows directory number tree.rows

    rows_next : bucket_rows directory number moved.rows ≡ rows_moved move child directory number rows
    rows_next = parts_after tree core effect None directory test

    -- once the old row went, no directory stands at the new one
    free_there : is_directory tree child ≡ false → is_in_part directory test q m ≡ true
        → if_directory tree (get (part_without directory test p n rows) m) ≡ None
    free_there file here =
        let at : q ≡ directory = eqb-true _ _ (and_first _ _ here) in
        let met : get rows m ≡ row_of tree q m = get-names_where directory test tree.rows m
        ∙ (ap (λ b. cond b (get tree.rows (directory, m)) None) (and_second (nat_eq q directory) _ here) ∙ ap (λ d. row_of tree d m) (sym at)) in
        elim (gone_or_same directory test p n rows m) [
          | inl none ↦ ap (if_directory tree) none
          | inr same ↦ ap (if_directory tree) (same ∙ met) ∙ no_directory file (row_of tree q m) refl place_free
        ]

    directories_next : (directories : FinMap name_cmp ℕ) (kind : Bool) → is_directory tree child ≡ kind → TellsDirectories tree directories rows
        → TellsDirectories tree (directories_moved move kind child directory number directories) (rows_moved move child directory number rows)
    directories_next directories true kind tells =
        tells_come tree directory test q m (part_without directory test p n directories) (part_without directory test p n rows)
        (tells_gone tree directory test p n directories rows tells) child kind
    directories_next directories false file tells =
        tells_over tree directory test q m (part_without directory test p n directories) (part_without directory test p n rows)
        (tells_gone tree directory test p n directories rows tells) child file (free_there file)

    -- a bucket's rows and those that name directories
    pub rows_home : (before after : Bucket) → ShowsBucket tree directory number before → IsMovedBucket seen move child directory number before after
        → after.rows ≡ bucket_rows directory number next.rows
    rows_home before after shown is_moved = is_moved.rows
        ∙ (ap (rows_moved move child directory number) shown.rows ∙ (sym rows_next ∙ ap (λ (t : TreeState). bucket_rows directory number t.rows) (sym next_is)))

    pub directories_home : (before after : Bucket) → ShowsBucket tree directory number before → IsMovedBucket seen move child directory number before after
        → (name : List ℕ) → get after.directories name ≡ if_directory next (get (bucket_rows directory number next.rows) name)
    directories_home before after shown is_moved name =
        ap (λ (d : FinMap name_cmp ℕ). get d name) is_moved.directories
        ∙ (directories_next before.directories (moves_directory seen move) (sym (child_kind tree move seen is shows child moves.row)) shown.directories name
        ∙ (ap (λ (r : FinMap name_cmp ℕ). if_directory moved (get r name)) (sym rows_next)
        ∙ ap (λ (t : TreeState). if_directory t (get (bucket_rows directory number t.rows) name)) (sym next_is)))

  abbrev stood : ℕ → Option ℕ
  stood directory = stands_of tree directory

  -- what comes to another directory stands there
  comes_home : (directory : ℕ) → goes_between seen move ≡ true → child ≡ directory → stands_of moved directory ≡ Some q
  comes_home directory between same =
      let kind : is_directory tree child ≡ true = sym (child_kind tree move seen is shows child moves.row) ∙ and_second (not (nat_eq p q)) _ between in
      subst (λ d. stands_of moved d ≡ Some q) same
      (ap (λ k. cond k (holder_of moved child) None) kind ∙ holder_is moved moved_sound child q m (added_there (remove tree.rows (p, n)) q m child) kind)

  -- what is replaced stands nowhere
  replaced_home : (directory : ℕ) → is_directory tree directory ≡ true → row_of tree q m ≡ Some directory → stands_of moved directory ≡ None
  replaced_home directory kind met = elim (holder_found moved directory) [
    | inr none ↦ ap (λ k. cond k (holder_of moved directory) None) kind ∙ none.0
    | inl f ↦ elim (added_cases (remove tree.rows (p, n)) f.0 q f.2.0 m child directory f.2.1) [
      | inl new ↦ absurd (fits.apart (met ∙ ap Some new.2))
      | inr old ↦
          let row = (removed_cases tree.rows f.0 p f.2.0 n directory old.1).1 in
          let once = is.sound.once f.0 q f.2.0 m directory row met kind in
          absurd (old.0 once.0 once.1)
    ]
  ]

  -- any other directory stands where it did
  others_stay : (directory : ℕ) → (goes_between seen move && nat_eq child directory) ≡ false
      → (meets_directory seen move && is_this directory (there_seen seen move)) ≡ false → stands_of next directory ≡ stood directory
  others_stay directory not_child not_there = elim (true_or_false (touches_standing tree core (rename_call move) directory)) [
    | inr untouched ↦ standing_stays tree core (rename_call move) directory is lt untouched
    | inl touched ↦
        let kind = and_first _ _ touched in
        absurd (elim (true_or_false (is_this directory (row_of tree q m))) [
          | inl met ↦
              let there = is_this_there directory _ met in
              not_both (ap₂ (λ k o. k && is_this directory o) (there_kind tree move seen is shows directory there ∙ kind) (there_row tree move seen is shows)
              ∙ met) not_there
          | inr apart ↦
              let source : (not (nat_eq p q) && is_this directory (row_of tree p n)) ≡ true = sym
              (ap (λ b. b || (not (nat_eq p q) && is_this directory (row_of tree p n))) apart) ∙ and_second (is_directory tree directory) _ touched in
              let row = is_this_there directory _ (and_second (not (nat_eq p q)) _ source) in
              let same : child ≡ directory = some_is child directory (sym moves.row ∙ row) in
              not_both
              (ap₂ (λ b c. b && c) (ap₂ (λ s k. s && k) (and_first (not (nat_eq p q)) _ source) (child_kind tree move seen is shows directory row ∙ kind))
              (eq-eqb child directory same)) not_child
        ])
  ]

  pub stands_home : (directory : ℕ) → stands_moved seen move child directory (stood directory) ≡ stands_of next directory
  stands_home directory = elim (true_or_false (goes_between seen move && nat_eq child directory)) [
    | inl comes ↦
        ap (λ b. cond b (Some q) (cond (meets_directory seen move && is_this directory (there_seen seen move)) None (stood directory))) comes
        ∙ sym (ap (λ t. stands_of t directory) next_is
        ∙ comes_home directory (and_first _ _ comes) (eqb-true _ _ (and_second (goes_between seen move) _ comes)))
    | inr not_child ↦
        ap (λ b. cond b (Some q) (cond (meets_directory seen move && is_this directory (there_seen seen move)) None (stood directory))) not_child
        ∙ elim (true_or_false (meets_directory seen move && is_this directory (there_seen seen move))) [
          | inl met ↦
              let there : row_of tree q m ≡ Some directory = sym (there_row tree move seen is shows)
              ∙ is_this_there directory _ (and_second (meets_directory seen move) _ met) in
              ap (λ b. cond b None (stood directory)) met
              ∙ sym (ap (λ t. stands_of t directory) next_is
              ∙ replaced_home directory (sym (there_kind tree move seen is shows directory there) ∙ and_first _ _ met) there)
          | inr not_there ↦ ap (λ b. cond b None (stood directory)) not_there ∙ sym (others_stay directory not_child not_there)
        ]
  ]

  bucket_home : (directory number : ℕ) (before after : Bucket) → ShowsBucket tree directory number before
      → IsMovedBucket seen move child directory number before after → ShowsBucket next directory number after
  bucket_home directory number before after shown is_moved = record {
    rows = rows_home directory number before after shown is_moved;
    directories = directories_home directory number before after shown is_moved;
    stands = is_moved.stands ∙ (ap (stands_moved seen move child directory) shown.stands ∙ stands_home directory);
  }

  -- a file that is replaced loses the row that named it
  file_home : (there : ℕ) → row_of tree q m ≡ Some there → is_directory tree there ≡ false → file_links next there + 1 ≡ file_links tree there
  file_home there met file =
      let alive = named_alive tree there (record { directory = q; name = m; row = met }) in
      let left = (nodes_after tree core effect None there fits).links
      ∙ ap (λ b. cond b (count_of tree.rows there - 1) (count_of tree.rows there)) (ap (is_this there) met ∙ eq-eqb there there refl) in
      ap (λ (t : TreeState). file_links t there + 1) next_is
      ∙ (ap (λ k. cond k 0 (count_of moved.rows there) + 1) file
      ∙ (ap (λ l. l + 1) left ∙ (one_less (eqb-false _ _ (some_counted tree is there alive file)) ∙ sym (ap (λ k. cond k 0 (count_of tree.rows there)) file))))
    where
      one_less : {c : ℕ} → Rattle.std.proofs.Common.◌≢◌ c 0 → c - 1 + 1 ≡ c
      one_less some = omega (arith, some)

pub moved_buckets_show : MovedBucketsShow
moved_buckets_show tree core move seen child directory number before after is lt shows moves shown is_moved =
    bucket_home tree core move seen is lt shows child (moves_child tree core move seen is shows child moves) directory number before after shown is_moved

pub replaced_files_lose_a_link : ReplacedFilesLoseALink
replaced_files_lose_a_link tree core move seen child there is lt shows moves met file =
    let row = sym (there_row tree move seen is shows) ∙ met in
    file_home tree core move seen is lt shows child (moves_child tree core move seen is shows child moves) there row
    (sym (there_kind tree move seen is shows there row) ∙ file)
