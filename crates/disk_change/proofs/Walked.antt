-- The blocks of a directory, walked one by one under a net.
use Rattle.std.proofs.Common.{◌≡◌, ◌≢◌, ℕ, zero, suc, ◌+◌, ◌-◌, ◌<◌, ◌≤◌, Bool, true, false, cond, List, [], ◌∷◌, ◌++◌, length, get_or, take, drop, Option, Some, None, inl, inr, refl, sym, ap, subst, ◌∙◌, arith, nat_eq, All}
use Rattle.std.specs.Prelude.{is_some}
use Rattle.std.specs.List.{list_any}
use Rattle.std.specs.Option.{unwrap_or}
use Rattle.std.proofs.lemmas.Bool.{cases_lt, cond-false, eqb-false}
use Rattle.std.proofs.lemmas.List.{append-nil, length-take, take_all, take_more}
use Rattle.std.proofs.lemmas.List.Elements.{All-push}
use Rattle.sfs_image.specs.Slot.{Row}
use Rattle.keyed_list.proofs.Searched.{no_item}
use Rattle.sfs_base.proofs.BasicNumbers.{not_same, same_number}
use Rattle.sfs_base.proofs.BasicOptions.{some_not_none}
use Rattle.absorb.specs.declared.nets.NetRow.{NetRow}
use Rattle.keyed_list.specs.Ascending.{AscendBy, item_with}
use Rattle.disk_change.specs.Directory.{is_in_net, block_moved, fill_front, rows_left, block_is_touched, old_blocks_after, rows_behind, blocks_touched}
use Rattle.disk_change.specs.Patched.{slots_place, with_placed}
use Rattle.disk_change.specs.declared.placed.PlacedSlots.{PlacedSlots}
use Rattle.disk_change.proofs.Directories.{touched_more, behind_more}
use Rattle.disk_change.proofs.Patches.{placed_last}
use Rattle.disk_change.proofs.Putting.{front_at, last_at}
use Rattle.disk_change.proofs.Untouched.{Stays, next_put, next_stays, untouched_alone}

-- in a list of one more no item has a number where none of the others has it, nor the last one
item_last : {X : Type 0} (key : X → ℕ) (xs : List X) (x : X) (k : ℕ) → item_with key k (xs ++ x ∷ []) ≡ None
    → (item_with key k xs ≡ None) × (nat_eq (key x) k ≡ false)
item_last key [] x k e = (refl, by (nat_eq (key x) k) e)
  where
    by : (b : Bool) → cond b (Some x) None ≡ None → b ≡ false
    by true e = absurd (some_not_none e)
    by false e = refl
item_last {X} key (y ∷ xs) x k e = by (nat_eq (key y) k) e (item_last key xs x k)
  where
    by : (b : Bool) → cond b (Some y) (item_with key k (xs ++ x ∷ [])) ≡ None
        → (item_with key k (xs ++ x ∷ []) ≡ None → (item_with key k xs ≡ None) × (nat_eq (key x) k ≡ false))
        → (cond b (Some y) (item_with key k xs) ≡ None) × (nat_eq (key x) k ≡ false)
    by true e rest = absurd (some_not_none e)
    by false e rest = rest e

-- an item above all others comes last
pub ascends_last : {X : Type 0} (key : X → ℕ) (xs : List X) (x : X) → AscendBy key xs → All (λ one. key one < key x) xs → AscendBy key (xs ++ x ∷ [])
ascends_last key [] x up below i j d lt within = absurd (omega arith)
ascends_last key (y ∷ xs) x up below zero zero d lt within = absurd (omega arith)
ascends_last {X} key (y ∷ xs) x up below zero (suc j) d lt within =
    first xs (λ k e low. up 0 (suc k) e (omega arith) (omega arith)) (below 0 y (omega arith)) j d (omega arith)
  where
    first : (xs : List X) → All (λ one. key y < key one) xs → key y < key x → (j : ℕ) (d : X) → j < length (xs ++ x ∷ [])
        → key y < key (get_or (xs ++ x ∷ []) j d)
    first [] above last zero d within = last
    first [] above last (suc j) d within = absurd (omega arith)
    first (z ∷ xs) above last zero d within = above 0 d (omega arith)
    first (z ∷ xs) above last (suc j) d within = first xs (λ k e low. above (suc k) e (omega arith)) last j d (omega arith)
ascends_last key (y ∷ xs) x up below (suc i) zero d lt within = absurd (omega arith)
ascends_last key (y ∷ xs) x up below (suc i) (suc j) d lt within =
    ascends_last key xs x (λ a b e low high. up (suc a) (suc b) e (omega arith) (omega arith)) (λ k e low. below (suc k) e (omega arith)) i j d
    (omega arith) (omega arith)

-- which blocks change among some first ones, and among one more
touched_length : (directories : List ℕ) (net : List NetRow) (blocks : List (List (Option Row))) (rows : List Row)
    → length (blocks_touched directories net blocks rows) ≡ length blocks
touched_length directories net [] rows = refl
touched_length directories net (block ∷ blocks) rows = ap suc (touched_length directories net blocks _)

-- an item with a number, or none, in a list of one more
item_other : {X : Type 0} (key : X → ℕ) (xs : List X) (x : X) (k : ℕ) → key x ≢ k → item_with key k (xs ++ x ∷ []) ≡ item_with key k xs
item_other key [] x k apart = cond-false (nat_eq (key x) k) (Some x) None (not_same (key x) k apart)
item_other {X} key (y ∷ xs) x k apart = ap (λ (o : Option X). cond (nat_eq (key y) k) (Some y) o) (item_other key xs x k apart)

item_own : {X : Type 0} (key : X → ℕ) (xs : List X) (x : X) (k : ℕ) → key x ≡ k → is_some (item_with key k (xs ++ x ∷ [])) ≡ true
item_own {X} key [] x k same = ap (λ b. is_some (cond b (Some x) None)) (ap (λ m. nat_eq m k) same ∙ same_number k)
item_own {X} key (y ∷ xs) x k same = by (nat_eq (key y) k) (item_own key xs x k same)
  where
    by : (b : Bool) → is_some (item_with key k (xs ++ x ∷ [])) ≡ true → is_some (cond b (Some y) (item_with key k (xs ++ x ∷ []))) ≡ true
    by true rest = refl
    by false rest = rest

-- What is known once the first blocks are walked.
pub record Walked (directories : List ℕ) (net : List NetRow) (rows : List Row) (slots : List (List (Option Row))) (n : ℕ) (changed : List PlacedSlots)
    (waiting : List Row) : Type 0 where
  pub blocks : with_placed changed slots ≡ old_blocks_after directories net (take n slots) rows ++ drop n slots
  pub touched : (k : ℕ) → k < n → get_or (blocks_touched directories net (take n slots) rows) k false ≡ is_some (item_with slots_place k changed)
  pub left : waiting ≡ rows_behind directories net (take n slots) rows
  pub below : All (λ one. one.place < n) changed
  pub ascending : AscendBy slots_place changed
  pub alone : (k : ℕ) → k < n → item_with slots_place k changed ≡ None → list_any (is_in_net net) (get_or slots k []) ≡ false

module _ (directories : List ℕ) (net : List NetRow) (rows : List Row) (slots : List (List (Option Row))) (n : ℕ) (within : n < length slots)
    (changed : List PlacedSlots) (left : List Row) (was : Walked directories net rows slots n changed left)
    (after : Option (List (Option Row))) (rest : List Row)
    (filled : unwrap_or after (get_or slots n []) ≡ fill_front (block_moved directories net (get_or slots n [])) left)
    (is_left : rest ≡ rows_left (block_moved directories net (get_or slots n [])) left)
    (is_touched : is_some after ≡ block_is_touched directories net (get_or slots n []) left) where
  one_more : take (n + 1) slots ≡ take n slots ++ get_or slots n [] ∷ []
  one_more = take_more slots n [] within

  first_count : length (blocks_touched directories net (take n slots) rows) ≡ n
  first_count = let cut = length-take n slots in let long = touched_length directories net (take n slots) rows in omega (arith, cut, long, within)

  more_touched : blocks_touched directories net (take (n + 1) slots) rows ≡ blocks_touched directories net (take n slots) rows ++ is_some after ∷ []
  more_touched =
      ap (λ l. blocks_touched directories net l rows) one_more ∙ touched_more directories net (take n slots) (get_or slots n []) rows
      ∙ ap (λ b. blocks_touched directories net (take n slots) rows ++ b ∷ [])
      (sym (is_touched ∙ ap (block_is_touched directories net (get_or slots n [])) was.left))

  -- what is known of the first blocks and of this one is known of one more
  touched_all : (now : List PlacedSlots) → ((k : ℕ) → k < n → is_some (item_with slots_place k now) ≡ is_some (item_with slots_place k changed))
      → is_some after ≡ is_some (item_with slots_place n now) → (k : ℕ) → k < n + 1
      → get_or (blocks_touched directories net (take (n + 1) slots) rows) k false ≡ is_some (item_with slots_place k now)
  touched_all now same own k low = ap (λ l. get_or l k false) more_touched ∙ elim (cases_lt k n) [
    | inl less ↦
        front_at (blocks_touched directories net (take n slots) rows) (is_some after) false k (omega (arith, less, first_count)) ∙ was.touched k less
        ∙ sym (same k less)
    | inr here ↦
        let is : k ≡ n = omega (arith, here, low) in
        ap (λ m. get_or (blocks_touched directories net (take n slots) rows ++ is_some after ∷ []) m false) (is ∙ sym first_count)
        ∙ last_at (blocks_touched directories net (take n slots) rows) (is_some after) false ∙ own
        ∙ ap (λ m. is_some (item_with slots_place m now)) (sym is)
  ]

  more_left : rest ≡ rows_behind directories net (take (n + 1) slots) rows
  more_left =
      is_left ∙ ap (rows_left (block_moved directories net (get_or slots n []))) was.left
      ∙ sym (ap (λ l. rows_behind directories net l rows) one_more ∙ behind_more directories net (take n slots) (get_or slots n []) rows)

  -- a block that changes
  pub walked_changed : (block : List (Option Row)) → after ≡ Some block
      → Walked directories net rows slots (n + 1) (changed ++ (record { place = n; slots = block }) ∷ []) rest
  walked_changed block is = record {
    blocks =
        placed_last changed (record { place = n; slots = block }) slots
        ∙ next_put directories net rows slots n within (with_placed changed slots) block was.blocks
        (sym (ap (λ (o : Option (List (Option Row))). unwrap_or o (get_or slots n [])) is) ∙ filled
        ∙ ap (fill_front (block_moved directories net (get_or slots n []))) was.left);
    touched =
        touched_all (changed ++ (record { place = n; slots = block }) ∷ [])
        (λ k less. ap is_some (item_other slots_place changed (record { place = n; slots = block }) k (λ e. omega (arith, less, e))))
        (ap is_some is ∙ sym (item_own slots_place changed (record { place = n; slots = block }) n refl));
    left = more_left;
    below = all_below;
    ascending = ascends_last slots_place changed (record { place = n; slots = block }) was.ascending was.below;
    alone = λ k low none.
        let apart = item_last slots_place changed (record { place = n; slots = block }) k none in
        was.alone k (let unlike = eqb-false n k apart.1 in grind (arith, unlike)) apart.0;
  }
    where
      all_below : All (λ (one : PlacedSlots). one.place < n + 1) (changed ++ (record { place = n; slots = block }) ∷ [])
      all_below = All-push (λ (one : PlacedSlots). one.place < n + 1) changed (record { place = n; slots = block })
          (λ k d low. let less = was.below k d low in omega (arith, less)) (omega arith)

  -- and one that stays
  pub walked_past : after ≡ None → Walked directories net rows slots (n + 1) changed rest
  walked_past is = record {
    blocks =
        next_stays directories net rows slots n within (with_placed changed slots) was.blocks
        (sym (ap (λ (o : Option (List (Option Row))). unwrap_or o (get_or slots n [])) is) ∙ filled
        ∙ ap (fill_front (block_moved directories net (get_or slots n []))) was.left);
    touched =
        touched_all changed (λ k less. refl)
        (ap is_some is ∙ sym (ap is_some (no_item slots_place changed n (λ k d low at. let less = was.below k d low in omega (arith, less, at)))));
    left = more_left;
    below = λ k d low. let less = was.below k d low in omega (arith, less);
    ascending = was.ascending;
    alone = λ k low none. elim (cases_lt k n) [
      | inl less ↦ was.alone k less none
      | inr here ↦
          let same : k ≡ n = omega (arith, here, low) in
          ap (λ m. list_any (is_in_net net) (get_or slots m [])) same
          ∙ untouched_alone directories net (get_or slots n []) left (sym is_touched ∙ ap is_some is)
    ];
  }

-- blocks that a net leaves as they are, are walked at once
pub walked_on : (directories : List ℕ) (net : List NetRow) (rows : List Row) (slots : List (List (Option Row))) (n m : ℕ) (changed : List PlacedSlots)
    (left : List Row) → Walked directories net rows slots n changed left → n ≤ m → m ≤ length slots
    → ((k : ℕ) → n ≤ k → k < m → Stays directories net (get_or slots k []) left) → Walked directories net rows slots m changed left
walked_on directories net rows slots n m changed left was on within stays =
    subst (λ k. Walked directories net rows slots k changed left) (let e : n + (m - n) ≡ m = omega (arith, on) in e) (by_count (m - n) (omega (arith, on)))
  where
    by_count : (c : ℕ) → n + c ≤ m → Walked directories net rows slots (n + c) changed left
    by_count zero low = subst (λ k. Walked directories net rows slots k changed left) (let e : n ≡ n + 0 = omega arith in e) was
    by_count (suc c) low =
        let stay = stays (n + c) (omega arith) (omega (arith, low)) in
        subst (λ k. Walked directories net rows slots k changed left) (let e : n + c + 1 ≡ n + suc c = omega arith in e)
        (walked_past directories net rows slots (n + c) (omega (arith, low, within)) changed left (by_count c (omega (arith, low))) None left
        (sym stay.filled) (sym stay.left) (sym stay.untouched) refl)

-- before the first block nothing is walked
pub walked_none : (directories : List ℕ) (net : List NetRow) (rows : List Row) (slots : List (List (Option Row))) (changed : List PlacedSlots)
    → changed ≡ [] → Walked directories net rows slots 0 changed rows
walked_none directories net rows slots changed nothing = record {
  blocks = ap (λ l. with_placed l slots) nothing;
  touched = λ k low. absurd (omega (arith, low));
  left = refl;
  below = λ k d low. absurd (let long = ap length nothing in omega (arith, long, low));
  ascending = λ i j d lt low. absurd (let long = ap length nothing in omega (arith, long, low));
  alone = λ k low. absurd (omega (arith, low));
}

-- What is known once all blocks are walked.
pub record AllWalked (directories : List ℕ) (net : List NetRow) (rows : List Row) (slots : List (List (Option Row))) (changed : List PlacedSlots)
    (waiting : List Row) : Type 0 where
  pub blocks : with_placed changed slots ≡ old_blocks_after directories net slots rows
  pub touched : (k : ℕ) → k < length slots → get_or (blocks_touched directories net slots rows) k false ≡ is_some (item_with slots_place k changed)
  pub left : waiting ≡ rows_behind directories net slots rows
  pub below : All (λ one. one.place < length slots) changed
  pub ascending : AscendBy slots_place changed
  pub alone : (k : ℕ) → k < length slots → item_with slots_place k changed ≡ None → list_any (is_in_net net) (get_or slots k []) ≡ false

pub walked_all : (directories : List ℕ) (net : List NetRow) (rows : List Row) (slots : List (List (Option Row))) (n : ℕ) (changed : List PlacedSlots)
    (waiting : List Row) → Walked directories net rows slots n changed waiting → n ≡ length slots
    → AllWalked directories net rows slots changed waiting
walked_all directories net rows slots n changed waiting was at =
    let all : take n slots ≡ slots = take_all n slots (omega (arith, at)) in
    let none : drop n slots ≡ [] = drop_all n slots (omega (arith, at)) in
    record {
      blocks = was.blocks ∙ (λ i. old_blocks_after directories net (all i) rows ++ none i) ∙ append-nil (old_blocks_after directories net slots rows);
      touched = λ k low. ap (λ l. get_or (blocks_touched directories net l rows) k false) (sym all) ∙ was.touched k (omega (arith, low, at));
      left = was.left ∙ ap (λ l. rows_behind directories net l rows) all;
      below = λ k d low. let less = was.below k d low in omega (arith, less, at);
      ascending = was.ascending;
      alone = λ k low. was.alone k (omega (arith, low, at));
    }
  where
    drop_all : {X : Type 0} (n : ℕ) (xs : List X) → length xs ≤ n → drop n xs ≡ []
    drop_all zero [] le = refl
    drop_all zero (x ∷ xs) le = absurd (omega (arith, le))
    drop_all (suc n) [] le = refl
    drop_all (suc n) (x ∷ xs) le = drop_all n xs (omega (arith, le))
