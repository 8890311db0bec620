-- What a commit leaves of an image once it is durable.
use Rattle.std.proofs.Common.{◌≡◌, ◌≢◌, ℕ, zero, suc, ◌+◌, ◌-◌, ◌*◌, ◌/◌, ◌%◌, ◌<◌, ◌≤◌, Bool, true, false, cond, ◌&&◌, ◌||◌, not, eqb, ltb, List, [], ◌∷◌, length, slice_index, Option, Some, None, ◌⊎◌, inl, inr, refl, sym, ap, subst, ◌∙◌, arith}
use Rattle.std.specs.Prelude.{slice_get}
use Rattle.std.specs.List.{list_any}
use Rattle.std.specs.List.Sorted.{IsStrictlyIncreasing}
use Rattle.std.proofs.lemmas.Bool.{cases_Bool, cases_lt, eqb-true, eqb-false, eq-eqb, ne_eqb, not_from_true, not_from_false, cond-true, cond-false}
use Rattle.sfs_base.proofs.BasicTruth.{false_not_true, true_not_false, or_true, and_first, and_second}
use Rattle.sfs_base.specs.Listed.{is_listed}
use Rattle.sfs_image.specs.Seen.{FILE_BLOCKS, PLACES}
use Rattle.tree_laws.specs.Tree.{is_directory}
use Rattle.image_laws.specs.Need.{Rewrite, rewrites_table, table_has_pointer, takes_place, pointer_after, rank}
use Rattle.image_laws.specs.Numbers.{grant_for, numbers_after}
use Rattle.image_laws.specs.ImageTree.{NOTHING_MADE}
use Rattle.image_laws.proofs.Committed.{commits_keep_standing}
use Rattle.image_laws.proofs.Ranks.{rank_more, rank_up}
use Rattle.cut_laws.specs.Machine.{MachineState}
use Rattle.turn_laws.specs.Books.{GivesGranted, IsRewritten, Leaves, commit_made}
use Rattle.turn_laws.specs.LawsBooks.{IsNumberedAfter, IsPlaceAfter, MayLeave, LeavesNext}
use Rattle.turn_laws.specs.Need.{ImageState, Made, rewrite_needed, seen_under, enters_by_made, needs_in_row, tree_before, tree_made}
use Rattle.turn_laws.proofs.ListedNeeds.{none_counted}

-- the rest of a list that rises does, and has none up to its first
pub tail_rises : (x : ℕ) (xs : List ℕ) → IsStrictlyIncreasing (x ∷ xs) → IsStrictlyIncreasing xs
tail_rises x xs rises k lt =
    let next : suc k + 1 ≡ suc (k + 1) = omega arith in
    subst (λ (n : ℕ). slice_index xs k < slice_index (x ∷ xs) n) next (rises (suc k) (omega arith))

above_first : (x n : ℕ) (xs : List ℕ) → IsStrictlyIncreasing (x ∷ xs) → is_listed xs n ≡ true → x < n
above_first x n [] rises listed = absurd (false_not_true listed)
above_first x n (y ∷ ys) rises listed =
    let first : x < y = rises 0 (omega arith) in
    elim (cases_Bool (eqb y n)) [
      | inl same ↦ (let e : y ≡ n = eqb-true y n same in omega arith)
      | inr other ↦ (let rest : is_listed ys n ≡ true = sym (ap (λ (b : Bool). b || is_listed ys n) other) ∙ listed in
          let above = above_first y n ys (tail_rises x (y ∷ ys) rises) rest in omega arith)
    ]

-- a count stays over numbers that do not pass
rank_flat : (test : ℕ → Bool) (a k : ℕ) → ((n : ℕ) → a ≤ n → n < a + k → test n ≡ false) → rank test (a + k) ≡ rank test a
rank_flat test a zero none = ap (rank test) (let e : a + 0 ≡ a = omega arith in e)
rank_flat test a (suc k) none =
    let rest = rank_flat test a k (λ n low high. none n low (omega arith)) in
    let next : a + suc k ≡ suc (a + k) = omega arith in
    ap (rank test) next ∙ rank_more test (a + k) ∙ ap (λ (b : Bool). rank test (a + k) + cond b 1 0) (none (a + k) (omega arith) (omega arith))
    ∙ (let e : rank test (a + k) + 0 ≡ rank test a = omega (arith, rest) in e)

-- what is granted to the nodes of a list that rises, by how many pass the test below each
granted_by_rank : (test : ℕ → Bool) (low : ℕ) (xs granted : List ℕ) → IsStrictlyIncreasing xs → length granted ≡ length xs
    → ((n : ℕ) → low ≤ n → is_listed xs n ≡ test n) → ((n : ℕ) → is_listed xs n ≡ true → low ≤ n) → (node : ℕ) → low ≤ node → test node ≡ true
    → grant_for xs granted node ≡ slice_get granted (rank test node - rank test low)
granted_by_rank test low [] granted rises enough tells above node from passes = absurd (false_not_true (tells node from ∙ passes))
granted_by_rank test low (x ∷ xs) [] rises enough tells above node from passes = absurd (let e : 0 ≡ suc (length xs) = enough in omega arith)
granted_by_rank test low (x ∷ xs) (i ∷ rest) rises enough tells above node from passes =
    let itself : is_listed (x ∷ xs) x ≡ true = ap (λ (b : Bool). b || is_listed xs x) (eq-eqb x x refl) in
    let first : low ≤ x = above x itself in
    let flat : rank test (low + (x - low)) ≡ rank test low = rank_flat test low (x - low) (λ n a b. none_before n a (omega (arith, first))) in
    let at : low + (x - low) ≡ x = omega (arith, first) in
    let same : rank test x ≡ rank test low = ap (rank test) (sym at) ∙ flat in
    let x_passes : test x ≡ true = sym (tells x first) ∙ itself in
    let next : rank test (suc x) ≡ rank test low + 1 = rank_more test x ∙ ap (λ (b : Bool). rank test x + cond b 1 0) x_passes ∙ ap (λ (n : ℕ). n + 1) same in
    elim (cases_Bool (eqb x node)) [
      | inl here ↦ (let e : x ≡ node = eqb-true x node here in
          let zero_is : rank test node - rank test low ≡ 0 = ap (λ (n : ℕ). n - rank test low) (ap (rank test) (sym e) ∙ same) ∙ (let z : rank test low - rank test low ≡ 0 = omega arith in z) in
          cond-true (eqb x node) (Some i) (grant_for xs rest node) here ∙ sym (ap (slice_get (i ∷ rest)) zero_is))
      | inr other ↦ (let listed : is_listed xs node ≡ true = sym (ap (λ (b : Bool). b || is_listed xs node) other) ∙ tells node from ∙ passes in
          let later : x < node = above_first x node xs rises listed in
          let up : rank test (suc x) ≤ rank test (suc x + (node - suc x)) = rank_up test (suc x) (node - suc x) in
          let whole : rank test (suc x + (node - suc x)) ≡ rank test node = ap (rank test) (let e : suc x + (node - suc x) ≡ node = omega (arith, later) in e) in
          let step : rank test node - rank test low ≡ suc (rank test node - rank test (suc x)) = omega (arith, next, up, whole) in
          cond-false (eqb x node) (Some i) (grant_for xs rest node) other
          ∙ granted_by_rank test (suc x) xs rest (tail_rises x xs rises) (let e : suc (length rest) ≡ suc (length xs) = enough in omega arith)
          (λ n low_n. sym (ap (λ (b : Bool). b || is_listed xs n) (ne_eqb x n (λ e. absurd (omega (arith, low_n))))) ∙ tells n (omega (arith, first, low_n)))
          (λ n is. above_first x n xs rises is) node later passes
          ∙ sym (ap (slice_get (i ∷ rest)) step))
    ]
  where
    none_before : (n : ℕ) → low ≤ n → n < x → test n ≡ false
    none_before n a b = elim (cases_Bool (test n)) [
      | inr none ↦ none
      | inl some ↦ (let listed : is_listed (x ∷ xs) n ≡ true = tells n a ∙ some in
          elim (cases_Bool (eqb x n)) [
            | inl same ↦ absurd (let e : x ≡ n = eqb-true x n same in omega arith)
            | inr other ↦ absurd (let above = above_first x n xs rises (sym (ap (λ (c : Bool). c || is_listed xs n) other) ∙ listed) in omega arith)
          ])
    ]

-- one that is not listed is granted nothing
not_granted : (xs granted : List ℕ) (node : ℕ) → is_listed xs node ≡ false → grant_for xs granted node ≡ None
not_granted [] granted node none = refl
not_granted (x ∷ xs) [] node none = refl
not_granted (x ∷ xs) (i ∷ rest) node none = elim (cases_Bool (eqb x node)) [
  | inl here ↦ absurd (true_not_false (sym (ap (λ (b : Bool). b || is_listed xs node) here) ∙ none))
  | inr other ↦ cond-false (eqb x node) (Some i) (grant_for xs rest node) other
      ∙ not_granted xs rest node (sym (ap (λ (b : Bool). b || is_listed xs node) other) ∙ none)
]

-- the number of a node afterwards, by the one that it had
abbrev number_by : (ℕ → Bool) → List ℕ → List ℕ → ℕ → Option ℕ → Option ℕ
number_by leaves entering granted node (Some i) = cond (leaves node) None (Some i)
number_by leaves entering granted node None = grant_for entering granted node

numbered : (num : ℕ → Option ℕ) (leaves : ℕ → Bool) (entering granted : List ℕ) (node : ℕ) (o : Option ℕ) → num node ≡ o
    → numbers_after num leaves entering granted node ≡ number_by leaves entering granted node o
numbered num leaves entering granted node (Some i) is = rw is refl
numbered num leaves entering granted node None is = rw is refl

pub granted_are_given_in_order : (state : MachineState) (made : Made) (granted : List ℕ) (old new : ImageState) (node : ℕ)
    → GivesGranted state made granted old new → IsNumberedAfter state made granted old new node
granted_are_given_in_order state made granted old new node gives = record {
  stays = λ i had after. after_is (Some i) had ∙ ap (λ (b : Bool). cond (not b) None (Some i)) after;
  leaves = λ i had after. after_is (Some i) had ∙ ap (λ (b : Bool). cond (not b) None (Some i)) after;
  enters = λ none enters.
      after_is None none
      ∙ granted_by_rank (enters_by_made state made) 0 gives.entering granted gives.ascending gives.enough (λ n low. gives.each n) (λ n is. omega arith) node
      (omega arith) enters
      ∙ ap (slice_get granted)
      (let z = none_counted (enters_by_made state made) in
      let e : rank (enters_by_made state made) node - rank (enters_by_made state made) 0 ≡ rank (enters_by_made state made) node = omega (arith, z) in e);
  others = λ none stays. after_is None none ∙ not_granted gives.entering granted node (gives.each node ∙ stays);
}
  where
    after_is : (o : Option ℕ) → old.num node ≡ o → new.num node ≡ number_by (λ other. not (made.after other)) gives.entering granted node o
    after_is o had = gives.numbers node ∙ numbered old.num (λ other. not (made.after other)) gives.entering granted node o had

-- a place by what is done with it
place_left : (rewrite : Rewrite) (fresh : ℕ → ℕ) (place : ℕ) → takes_place rewrite place ≡ false
    → (pointer_after rewrite fresh place ≡ 0) ⊎ (pointer_after rewrite fresh place ≡ rewrite.pointers place)
place_left rewrite fresh place none = elim (cases_Bool (ltb place FILE_BLOCKS)) [
  | inl low ↦ elim (cases_Bool (rewrite.is_rewritten place)) [
    | inr not_so ↦ inr (rw (low, not_so) refl)
    | inl so ↦ elim (cases_Bool (rewrite.is_zero place)) [
      | inl zeros ↦ inl (rw (low, so, zeros) refl)
      | inr some ↦ absurd (true_not_false (sym (let t : takes_place rewrite place ≡ true = rw (low, so, some) refl in t) ∙ none))
    ]
  ]
  | inr high ↦ elim (cases_Bool (rewrites_table rewrite (place - FILE_BLOCKS))) [
    | inr not_so ↦ inr (cond-false (ltb place FILE_BLOCKS) _ _ high ∙ cond-false (rewrites_table rewrite (place - FILE_BLOCKS)) _ _ not_so)
    | inl so ↦ elim (cases_Bool (table_has_pointer rewrite (place - FILE_BLOCKS))) [
      | inr none_left ↦ inl (cond-false (ltb place FILE_BLOCKS) _ _ high ∙ cond-true (rewrites_table rewrite (place - FILE_BLOCKS)) _ _ so
          ∙ cond-false (table_has_pointer rewrite (place - FILE_BLOCKS)) _ _ none_left)
      | inl some ↦ absurd (true_not_false (sym (cond-false (ltb place FILE_BLOCKS) _ _ high ∙ ap (λ (b : Bool). b && table_has_pointer rewrite (place - FILE_BLOCKS)) so ∙ some) ∙ none))
    ]
  ]
]

place_taken : (rewrite : Rewrite) (fresh : ℕ → ℕ) (place : ℕ) → takes_place rewrite place ≡ true → pointer_after rewrite fresh place ≡ fresh place
place_taken rewrite fresh place takes = elim (cases_Bool (ltb place FILE_BLOCKS)) [
  | inl low ↦
      let own : (rewrite.is_rewritten place && not (rewrite.is_zero place)) ≡ true = sym (cond-true (ltb place FILE_BLOCKS) _ _ low) ∙ takes in
      let so = and_first (rewrite.is_rewritten place) _ own in
      let some : rewrite.is_zero place ≡ false = elim (cases_Bool (rewrite.is_zero place)) [
        | inr some ↦ some
        | inl zeros ↦ absurd (true_not_false (sym (and_second (rewrite.is_rewritten place) _ own) ∙ not_from_true (rewrite.is_zero place) zeros))
      ] in
      cond-true (ltb place FILE_BLOCKS) _ _ low ∙ cond-true (rewrite.is_rewritten place) _ _ so ∙ cond-false (rewrite.is_zero place) _ _ some
  | inr high ↦
      let own : (rewrites_table rewrite (place - FILE_BLOCKS) && table_has_pointer rewrite (place - FILE_BLOCKS)) ≡ true =
      sym (cond-false (ltb place FILE_BLOCKS) _ _ high) ∙ takes in
      cond-false (ltb place FILE_BLOCKS) _ _ high
      ∙ cond-true (rewrites_table rewrite (place - FILE_BLOCKS)) _ _ (and_first (rewrites_table rewrite (place - FILE_BLOCKS)) _ own)
      ∙ cond-true (table_has_pointer rewrite (place - FILE_BLOCKS)) _ _ (and_second (rewrites_table rewrite (place - FILE_BLOCKS)) _ own)
]

-- the pointers that a rewriting has are those of the old inode
pointers_are : (state : MachineState) (old : ImageState) (made : Made) (node : ℕ) → (rewrite_needed state old made node).pointers ≡ (seen_under old node).blocks
pointers_are state old made node = elim (cases_Bool (is_directory (tree_made state made) node)) [
  | inl directory ↦ ap (λ (r : Rewrite). r.pointers) (cond-true (is_directory (tree_made state made) node) _ _ directory)
  | inr file ↦ ap (λ (r : Rewrite). r.pointers) (cond-false (is_directory (tree_made state made) node) _ _ file)
]

pub rewritten_have_what_they_need : (state : MachineState) (made : Made) (old new : ImageState) (takes : ℕ → ℕ → Bool) (fresh : ℕ → ℕ → ℕ) (node i place : ℕ)
    → place < PLACES → IsRewritten state made old new takes fresh node i place → IsPlaceAfter state made old new takes fresh node i place
rewritten_have_what_they_need state made old new takes fresh node i place within is = record {
  fresh_is = λ taken. is.pointer ∙ place_taken (rewrite_needed state old made node) (fresh i) place (sym is.taken ∙ taken);
  left = λ none. elim (place_left (rewrite_needed state old made node) (fresh i) place (sym is.taken ∙ none)) [
    | inl hole ↦ inl (is.pointer ∙ hole)
    | inr kept ↦ inr (is.pointer ∙ kept ∙ ap (λ (blocks : ℕ → ℕ). blocks place) (pointers_are state old made node))
  ];
  counted = λ concerned after.
      let quotient : (PLACES * node + place) / PLACES ≡ node = omega (arith, within) in
      let remainder : (PLACES * node + place) % PLACES ≡ place = omega (arith, within) in
      is.taken ∙ sym (rw (quotient, remainder, concerned, after) refl);
}

pub commits_leave_the_next_tree : (state : MachineState) (made : Made) (granted : List ℕ) (old new : ImageState) → Leaves state made granted old new
    → MayLeave state made old new → LeavesNext state made old new
commits_leave_the_next_tree state made granted old new leaves may = record {
  stands =
      (commits_keep_standing (commit_made made old new leaves.takes leaves.fresh) (tree_before state) (tree_made state made) old.image new.image NOTHING_MADE
      (record {
        stands = may.stands;
        sound = may.sound;
        commits = leaves.commits;
        next_sound = may.next_sound;
        follows = may.follows;
        storable = may.storable;
      })).stands;
  first_block = leaves.first_block;
  end_block = leaves.end_block;
}
