-- A commit keeps directories within the blocks that one may have.
use Rattle.std.proofs.Common.{◌≡◌, ◌≢◌, ℕ, zero, suc, ◌+◌, ◌-◌, ◌*◌, ◌<◌, ◌≤◌, Bool, true, false, cond, ◌&&◌, List, [], ◌∷◌, length, map, Option, Some, None, is_some, IsSome, option_map, ◌⊎◌, inl, inr, refl, sym, ap, subst, ◌∙◌, arith, count_by, nat_eq}
use Rattle.std.specs.Prelude.{bytes_eq, filter_map, is_none}
use Rattle.std.specs.List.{cons_option}
use Rattle.std.specs.Option.{option_map_or}
use Rattle.std.specs.Cmp.Lexicographic.{nat_list_cmp_total}
use Rattle.std.specs.FinMap.{FinMap, get, entries, remove, len, len-entries, len-remove, get-remove, empty_of_len, get-empty}
use Rattle.std.proofs.lemmas.List.{length-map}
use Rattle.std.proofs.lemmas.Map.Text.{is_eq-slice_cmp}
use Rattle.sfs_base.specs.Name.{bucket}
use Rattle.sfs_base.specs.declared.numbers.Kind.TheVariants.{File, Directory}
use Rattle.sfs_base.specs.declared.numbers.Kind.{Kind}
use Rattle.tree_laws.specs.Order.{name_cmp, Key, key_cmp}
use Rattle.tree_laws.specs.Tree.{BUCKET_ROWS, TreeState, row_of, kind_of, name_row, names_of, bucket_rows}
use Rattle.tree_laws.proofs.Joined.{count-cons, bucket_small}
use Rattle.tree_laws.proofs.Names.{entries-names_where, get-names_where}
use Rattle.sfs_image.specs.Rules.{DIRECTORY_BLOCKS}
use Rattle.sfs_image.specs.Slot.{Row, kind_byte}
use Rattle.sfs_image.specs.Seen.{Seen, SeenInodes}
use Rattle.image_laws.specs.Slots.{BLOCK_SLOTS, looked_up, name_count, rows_end, in_blocks}
use Rattle.image_laws.specs.Stands.{row_on}
use Rattle.image_laws.specs.Commit.{slot_after, new_rows, filled, slots_after, Commit, blank, seen_before, ComesBy, had, enters, IsCommitStep}
use Rattle.image_laws.specs.Sizes.{DirectoriesFit}
use Rattle.image_laws.specs.Laws.{CommitsKeepDirectoriesFit}
use Rattle.sfs_base.proofs.BasicOptions.{none_some, none_not_some}
use Rattle.sfs_base.proofs.BasicLists.{bytes_same, same_bytes}
use Rattle.image_laws.proofs.SlotRows.{count_slot, looked_counts}
use Rattle.image_laws.proofs.SlotsAfter.{looked_in_blocks, count_in_blocks, length_in_blocks}
use Rattle.image_laws.proofs.Standing.{not_used}
use Rattle.image_laws.proofs.Committed.{has_slots_after, slots_before, same_row, number_within}

-- how many slots have a row
abbrev taken : List (Option Row) → ℕ
taken slots = count_by is_some slots

taken_rows : (rows : List Row) → taken (map Some rows) ≡ length rows
taken_rows [] = refl
taken_rows (row ∷ rows) = let a = count-cons is_some (Some row) (map Some rows) in let b = taken_rows rows in omega arith

-- slots that are filled up are as many as before, or all have rows
length_filled : (slots : List (Option Row)) (rows : List Row) →
    (length (filled slots rows) ≤ length slots) ⊎ (length (filled slots rows) ≤ taken (filled slots rows))
length_filled [] rows = inr (let a = taken_rows rows in let b = length-map rows Some in omega arith)
length_filled (slot ∷ slots) [] = inl (omega arith)
length_filled (None ∷ slots) (row ∷ rows) = elim (length_filled slots rows) [
  | inl le ↦ inl (omega arith)
  | inr le ↦ inr (let a = count-cons is_some (Some row) (filled slots rows) in omega arith)
]
length_filled (Some held ∷ slots) (row ∷ rows) = elim (length_filled slots (row ∷ rows)) [
  | inl le ↦ inl (omega arith)
  | inr le ↦ inr (let a = count-cons is_some (Some held) (filled slots (row ∷ rows)) in omega arith)
]

rows_end-le : (slots : List (Option Row)) → rows_end slots ≤ length slots
rows_end-le [] = omega arith
rows_end-le (slot ∷ slots) =
    let rest = rows_end-le slots in
    elim (is_none slot && nat_eq (rows_end slots) 0) as (λ b. cond b 0 (suc (rows_end slots)) ≤ suc (length slots)) [ true ↦ omega arith | false ↦ omega arith ]

-- slots that have each name once have no more rows than a map with all their names
taken-le : (slots : List (Option Row)) (names : FinMap name_cmp ℕ) → ((n : List ℕ) → name_count n slots ≤ 1) →
    ((row : Row) → looked_up row.name slots ≡ Some row → IsSome (get names row.name)) → taken slots ≤ len names
taken-le [] names once there = omega arith
taken-le (None ∷ slots) names once there =
    let a = count-cons is_some None slots in
    let rest = taken-le slots names (λ n. let c = count_slot n None slots in let d = once n in omega arith) there in
    omega arith
taken-le (Some first ∷ slots) names once there =
    let a = count-cons is_some (Some first) slots in
    let rest = taken-le slots (remove names first.name) (λ n. fewer n (once n)) others in
    let less = fewer_names in
    omega arith
  where
    fewer : (n : List ℕ) → name_count n (Some first ∷ slots) ≤ 1 → name_count n slots ≤ 1
    fewer n le = let c = count_slot n (Some first) slots in omega arith

    alone : name_count first.name slots ≡ 0
    alone =
        let c : name_count first.name (Some first ∷ slots) ≡ 1 + name_count first.name slots =
        count_slot first.name (Some first) slots ∙ ap (λ b. cond b 1 0 + name_count first.name slots) (same_bytes first.name) in
        let d = once first.name in
        omega arith

    apart : (row : Row) → looked_up row.name slots ≡ Some row → bytes_eq row.name first.name ≡ false
    apart row is = by_test (bytes_eq row.name first.name) refl
      where
        by_test : (b : Bool) → bytes_eq row.name first.name ≡ b → b ≡ false
        by_test false t = refl
        by_test true t =
            let none : name_count row.name slots ≡ 0 = ap (λ n. name_count n slots) (bytes_same row.name first.name t) ∙ alone in
            let some = looked_counts row.name slots row is in
            absurd (omega arith)

    others : (row : Row) → looked_up row.name slots ≡ Some row → IsSome (get (remove names first.name) row.name)
    others row is =
        subst IsSome
        (sym
        (get-remove nat_list_cmp_total names first.name row.name
        ∙ ap (λ b. cond b None (get names row.name)) (is_eq-slice_cmp row.name first.name ∙ apart row is)))
        (there row (ap (λ b. cond b (Some first) (looked_up row.name slots)) (apart row is) ∙ is))

    here : IsSome (get names first.name)
    here = there first (ap (λ b. cond b (Some first) (looked_up first.name slots)) (same_bytes first.name))

    some_names : len names ≢ 0
    some_names none =
        none_not_some (get names first.name) (ap (λ (m : FinMap name_cmp ℕ). get m first.name) (empty_of_len names none) ∙ get-empty name_cmp first.name) here

    fewer_names : len names ≡ suc (len (remove names first.name))
    fewer_names =
        let a : len (remove names first.name) ≡ len names - 1 =
        len-remove nat_list_cmp_total names first.name ∙ ap (λ b. cond b (len names - 1) (len names)) here in
        let b = some_names in
        omega arith

-- the eight buckets of a directory have all its rows
sum_of_eight : (ℕ → ℕ) → ℕ
sum_of_eight f = f 0 + f 1 + f 2 + f 3 + f 4 + f 5 + f 6 + f 7

one_of_eight : (k : ℕ) → k < 8 → sum_of_eight (λ number. cond (nat_eq k number) 1 0) ≡ 1
unfolding sum_of_eight
one_of_eight zero lt = refl
one_of_eight (suc zero) lt = refl
one_of_eight (suc (suc zero)) lt = refl
one_of_eight (suc (suc (suc zero))) lt = refl
one_of_eight (suc (suc (suc (suc zero)))) lt = refl
one_of_eight (suc (suc (suc (suc (suc zero))))) lt = refl
one_of_eight (suc (suc (suc (suc (suc (suc zero)))))) lt = refl
one_of_eight (suc (suc (suc (suc (suc (suc (suc zero))))))) lt = refl
one_of_eight (suc (suc (suc (suc (suc (suc (suc (suc k)))))))) lt = absurd (omega arith)

sum_more : (f g h : ℕ → ℕ) → ((k : ℕ) → f k ≡ g k + h k) → sum_of_eight f ≡ sum_of_eight g + sum_of_eight h
unfolding sum_of_eight
sum_more f g h e =
    let e0 = e 0 in
    let e1 = e 1 in
    let e2 = e 2 in
    let e3 = e 3 in
    let e4 = e 4 in
    let e5 = e 5 in
    let e6 = e 6 in
    let e7 = e 7 in
    omega arith

module _ (d : ℕ) where
  abbrev in_bucket : List (Key × ℕ) → ℕ → ℕ
  in_bucket es number = length (filter_map (name_row d (λ name. nat_eq (bucket name) number)) es)

  abbrev in_all : List (Key × ℕ) → ℕ
  in_all es = length (filter_map (name_row d (λ _. true)) es)

  more_or_not : (b t : Bool) (row : List ℕ × ℕ) (rest : List (List ℕ × ℕ)) →
      length (cons_option (cond (b && t) (Some row) None) rest) ≡ cond b (cond t 1 0) 0 + length rest
  more_or_not true true row rest = omega arith
  more_or_not true false row rest = omega arith
  more_or_not false t row rest = omega arith

  all_in_buckets : (es : List (Key × ℕ)) → in_all es ≡ sum_of_eight (in_bucket es)
  unfolding sum_of_eight
  all_in_buckets [] = refl
  all_in_buckets (e ∷ es) =
      let rest = all_in_buckets es in
      let all = more_or_not (nat_eq e.0.0 d) true (e.0.1, e.1) (filter_map (name_row d (λ _. true)) es) in
      let each =
      sum_more (in_bucket (e ∷ es)) (λ number. cond (nat_eq e.0.0 d) (cond (nat_eq (bucket e.0.1) number) 1 0) 0) (in_bucket es)
      (λ number. more_or_not (nat_eq e.0.0 d) (nat_eq (bucket e.0.1) number) (e.0.1, e.1)
      (filter_map (name_row d (λ name. nat_eq (bucket name) number)) es)) in
      let own = own_bucket (nat_eq e.0.0 d) in
      omega arith
    where
      own_bucket : (b : Bool) → sum_of_eight (λ number. cond b (cond (nat_eq (bucket e.0.1) number) 1 0) 0) ≡ cond b 1 0
      own_bucket true = one_of_eight (bucket e.0.1) (bucket_small e.0.1)
      own_bucket false = refl

  pub rows-le : (rows : FinMap key_cmp ℕ) → ((number : ℕ) → number < 8 → len (bucket_rows d number rows) ≤ BUCKET_ROWS) →
      len (names_of d rows) ≤ 8 * BUCKET_ROWS
  unfolding sum_of_eight
  rows-le rows full =
      let all : len (names_of d rows) ≡ in_all (entries rows) = len-entries _ ∙ ap length (entries-names_where d (λ _. true) rows) in
      let sum = all_in_buckets (entries rows) in
      let a0 = at_most 0 (omega arith) in
      let a1 = at_most 1 (omega arith) in
      let a2 = at_most 2 (omega arith) in
      let a3 = at_most 3 (omega arith) in
      let a4 = at_most 4 (omega arith) in
      let a5 = at_most 5 (omega arith) in
      let a6 = at_most 6 (omega arith) in
      let a7 = at_most 7 (omega arith) in
      omega arith
    where
      at_most : (number : ℕ) → number < 8 → in_bucket (entries rows) number ≤ 4096
      at_most number lt =
          subst (λ (n : ℕ). n ≤ 4096) (len-entries _ ∙ ap length (entries-names_where d (λ name. nat_eq (bucket name) number) rows)) (full number lt)

module _ (commit : Commit) (old new : TreeState) (image next : SeenInodes) (step : IsCommitStep commit old new image next) (fit : DirectoriesFit image) where
  abbrev after_net : ℕ → List (Option Row)
  after_net x = slots_after commit.after new (commit.nets x) (seen_before commit image x).slots

  -- a concerned directory's slots before were within the limit
  before-le : (x i : ℕ) → commit.after x ≡ Some i → kind_of new x ≡ Directory → length (seen_before commit image x).slots ≤ BLOCK_SLOTS * DIRECTORY_BLOCKS
  before-le x i is kind = by_way (step.commits.numbers.comes x i is)
    where
      by_way : ComesBy commit image x i → length (seen_before commit image x).slots ≤ BLOCK_SLOTS * DIRECTORY_BLOCKS
      by_way (had was) =
          subst (λ (o : Option ℕ). length (option_map_or image.seen o blank).slots ≤ BLOCK_SLOTS * DIRECTORY_BLOCKS) (sym was)
          (fit i (step.stands.within x i was, (step.stands.each x i was).kind ∙ ap kind_byte (sym (step.follows.kinds x) ∙ kind)))
      by_way (enters none _ _) =
          subst (λ (o : Option ℕ). length (option_map_or image.seen o blank).slots ≤ BLOCK_SLOTS * DIRECTORY_BLOCKS) (sym none) (omega arith)

  taken_after : (x i : ℕ) → commit.after x ≡ Some i → taken (after_net x) ≤ 8 * BUCKET_ROWS
  taken_after x i is =
      let h =
      has_slots_after commit.before commit.after old new x (commit.nets x) (step.commits.nets x) (same_row commit old new image next step x)
      (seen_before commit image x).slots (slots_before commit old new image next step x) in
      let rows = rows-le x new.rows (λ number lt. step.storable.limits.buckets x number) in
      let few =
      taken-le (after_net x) (names_of x new.rows) (λ n. subst (λ (k : ℕ). k ≤ 1) (count_in_blocks n (after_net x)) (h.once n))
      (λ row found. there row (sym (h.looked row.name) ∙ looked_in_blocks row.name (after_net x) ∙ found)) in
      omega arith
    where
      there : (row : Row) → option_map (row_on commit.after new row.name) (row_of new x row.name) ≡ Some row → IsSome (get (names_of x new.rows) row.name)
      there row e = subst IsSome (sym (get-names_where x (λ _. true) new.rows row.name)) (by_child (row_of new x row.name) e)
        where
          by_child : (o : Option ℕ) → option_map (row_on commit.after new row.name) o ≡ Some row → IsSome o
          by_child (Some y) e = refl
          by_child None e = absurd (none_some e)

  built-le : (x i : ℕ) → commit.after x ≡ Some i → kind_of new x ≡ Directory → length (in_blocks (after_net x)) ≤ BLOCK_SLOTS * DIRECTORY_BLOCKS
  built-le x i is kind =
      let a = length_in_blocks (after_net x) in
      let b = rows_end-le (after_net x) in
      let d = before-le x i is kind in
      let e = taken_after x i is in
      let f = length-map (seen_before commit image x).slots (slot_after commit.after new (commit.nets x)) in
      elim (length_filled (map (slot_after commit.after new (commit.nets x)) (seen_before commit image x).slots)
      (new_rows commit.after new (commit.nets x))) as (λ _. length (in_blocks (after_net x))
      ≤ BLOCK_SLOTS * DIRECTORY_BLOCKS) [
        | inl le ↦ omega arith
        | inr le ↦ omega arith
      ]

  next_fit : DirectoriesFit next
  next_fit i is = elim (step.commits.rest i is.0) as (λ _. length (next.seen i).slots ≤ BLOCK_SLOTS * DIRECTORY_BLOCKS) [
    | inr free ↦ absurd (not_used Directory (sym is.1 ∙ free.kind))
    | inl node ↦ elim (commit.concerns node.0) as (λ b. commit.concerns node.0 ≡ b → length (next.seen i).slots ≤ BLOCK_SLOTS * DIRECTORY_BLOCKS) [
      | true ↦ λ t.
          let b = step.commits.built node.0 i node.1 t in
          subst (λ (slots : List (Option Row)). length slots ≤ BLOCK_SLOTS * DIRECTORY_BLOCKS) (sym b.slots)
          (built-le node.0 i node.1 (same_kind (kind_of new node.0) (sym b.kind ∙ is.1)))
      | false ↦ λ t.
          let a = step.commits.stays node.0 i node.1 t in
          subst (λ (seen : Seen). length seen.slots ≤ BLOCK_SLOTS * DIRECTORY_BLOCKS) (sym a.1)
          (fit i (number_within commit old image step.stands step.commits.numbers node.0 i node.1, ap (λ (seen : Seen). seen.kind) (sym a.1) ∙ is.1))
    ] refl
  ]
    where
      same_kind : (k : Kind) → kind_byte k ≡ kind_byte Directory → k ≡ Directory
      same_kind Directory e = refl
      same_kind File e = absurd (cc)

pub commits_keep_directories_fit : CommitsKeepDirectoriesFit
commits_keep_directories_fit = next_fit
