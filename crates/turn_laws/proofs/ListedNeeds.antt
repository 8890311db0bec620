-- Needs that are counted over all nodes are those of listed ones.
use Rattle.std.proofs.Common.{◌≡◌, ◌≢◌, ℕ, zero, suc, ◌+◌, ◌*◌, ◌/◌, ◌%◌, ◌<◌, ◌≤◌, Bool, true, false, cond, not, ◌&&◌, ◌||◌, List, [], ◌∷◌, length, map, Option, Some, None, IsSome, ◌⊎◌, inl, inr, refl, sym, ap, subst, ◌∙◌, arith, nat_eq}
use Rattle.std.specs.Prelude.{slice_get, ◌↔◌}
use Rattle.std.specs.FinMap.{get, empty}
use Rattle.std.proofs.lemmas.Nat.{mul-add-lt}
use Rattle.std.specs.Option.{option_map_or}
use Rattle.std.proofs.lemmas.Bool.{cases_Bool, cases_lt}
use borrow.Author.Tests.{eqb-true, eqb-false, eq-eqb}
use Rattle.sfs_base.proofs.BasicNumbers.{same_number, not_same}
use Rattle.sfs_base.proofs.BasicTruth.{or_true, and_first, and_second, not_both, true_not_false}
use Rattle.sfs_base.specs.Listed.{is_listed}
use Rattle.sfs_image.specs.Seen.{SeenInodes, PLACES}
use Rattle.tree_laws.specs.declared.history.Entry.{Entry}
use Rattle.tree_laws.specs.History.{tree_after, IsLegal}
use Rattle.tree_laws.specs.Laws.{IsSoundTree}
use Rattle.tree_laws.specs.Sound.{IsMade, IsNumbered}
use Rattle.tree_laws.specs.Tree.{TreeState}
use Rattle.tree_laws.proofs.Cores.{cores_stay}
use Rattle.tree_laws.proofs.FileHistories.{histories_keep_sound}
use Rattle.std.proofs.Math.Seq.{take-length}
use Rattle.image_laws.specs.Need.{Rewrite, takes_place, takes_in_row, rank, blocks_needed}
use Rattle.image_laws.proofs.Ranks.{rank_more, rank_below}
use Rattle.cut_laws.specs.Cut.{Cut}
use Rattle.cut_laws.specs.Machine.{MachineState}
use Rattle.cut_laws.proofs.CutNodes.{cuts_keep_kinds}
use Rattle.turn_laws.specs.LawsNeed.{NodesAreCounted, AreOnce, ListsNodes, BlocksAreListed, InodesAreListed, IsHeldBy, HeldAreFound}
use Rattle.turn_laws.specs.Need.{ImageState, is_unused, holds_in_row, is_held_in, Made, rewrite_needed, node_bound, enters_by_made, needs_in_row, need_of}

pub none_counted : (test : ℕ → Bool) → rank test 0 ≡ 0
unfolding rank
none_counted test = refl

-- tests that agree below a number count the same
pub rank_agrees : (test other : ℕ → Bool) (n : ℕ) → ((k : ℕ) → k < n → test k ≡ other k) → rank test n ≡ rank other n
rank_agrees test other zero same = none_counted test ∙ sym (none_counted other)
rank_agrees test other (suc n) same =
    rank_more test n ∙ (λ i. rank_agrees test other n (λ k lt. same k (omega arith)) i + cond (same n (omega arith) i) 1 0) ∙ sym (rank_more other n)

-- a test that none passes counts none
rank_nothing : (test : ℕ → Bool) (n : ℕ) → ((k : ℕ) → k < n → test k ≡ false) → rank test n ≡ 0
rank_nothing test zero none = none_counted test
rank_nothing test (suc n) none =
    let rest = rank_nothing test n (λ k lt. none k (omega arith)) in
    let last : rank test (suc n) ≡ rank test n + 0 = rank_more test n ∙ ap (λ b. rank test n + cond b 1 0) (none n (omega arith)) in
    omega arith

-- what is counted up to a sum is counted up to the first, and from there on
rank_joined : (test : ℕ → Bool) (a k : ℕ) → rank test (a + k) ≡ rank test a + rank (λ q. test (a + q)) k
rank_joined test a zero = let e = none_counted (λ q. test (a + q)) in let same : a + 0 ≡ a = omega arith in let f = ap (rank test) same in omega arith
rank_joined test a (suc k) =
    let rest = rank_joined test a k in
    let next : a + suc k ≡ suc (a + k) = omega arith in
    let step = ap (rank test) next ∙ rank_more test (a + k) in
    let own = rank_more (λ q. test (a + q)) k in
    omega arith

-- the sum of what is given for the numbers below another
abbrev sum_below : (ℕ → ℕ) → ℕ → ℕ
sum_below value zero = 0
sum_below value (suc n) = sum_below value n + value n

-- rows that are counted one after the other
rank_rows : (test : ℕ → Bool) (value : ℕ → ℕ) (n : ℕ) → ((x : ℕ) → x < n → rank (λ q. test (PLACES * x + q)) PLACES ≡ value x)
    → rank test (PLACES * n) ≡ sum_below value n
rank_rows test value zero each = none_counted test
rank_rows test value (suc n) each =
    let rest = rank_rows test value n (λ x lt. each x (omega arith)) in
    let split = rank_joined test (PLACES * n) PLACES in
    let own = each n (omega arith) in
    let same : PLACES * suc n ≡ PLACES * n + PLACES = omega arith in
    let e = ap (rank test) same in
    omega arith

-- the first one apart
sum_first : (value : ℕ → ℕ) (n : ℕ) → sum_below value (suc n) ≡ value 0 + sum_below (λ m. value (suc m)) n
sum_first value zero = omega arith
sum_first value (suc n) = let rest = sum_first value n in omega arith

-- what rewritings take together
abbrev total : List Rewrite → ℕ
total [] = 0
total (rewrite ∷ rewrites) = rank (takes_place rewrite) PLACES + total rewrites

-- what one of them takes
abbrev taken_at : List Rewrite → ℕ → ℕ
taken_at rewrites m = option_map_or (λ (r : Rewrite). rank (takes_place r) PLACES) (slice_get rewrites m) 0

sum_listed : (rewrites : List Rewrite) → sum_below (taken_at rewrites) (length rewrites) ≡ total rewrites
sum_listed [] = refl
sum_listed (rewrite ∷ rewrites) =
    sum_first (taken_at (rewrite ∷ rewrites)) (length rewrites) ∙ ap (λ n. rank (takes_place rewrite) PLACES + n) (sum_listed rewrites)

blocks_total : (rewrites : List Rewrite) → blocks_needed rewrites ≡ total rewrites
blocks_total rewrites = rank_rows (takes_in_row rewrites) (taken_at rewrites) (length rewrites) each ∙ sum_listed rewrites
  where
    at : (m q : ℕ) → q < PLACES → takes_in_row rewrites (PLACES * m + q) ≡ option_map_or (λ (r : Rewrite). takes_place r q) (slice_get rewrites m) false
    at m q lt =
        let quotient : (PLACES * m + q) / PLACES ≡ m = omega arith in
        let remainder : (PLACES * m + q) % PLACES ≡ q = omega arith in
        λ i. option_map_or (λ (r : Rewrite). takes_place r (remainder i)) (slice_get rewrites (quotient i)) false

    by : (o : Option Rewrite)
        → rank (λ q. option_map_or (λ (r : Rewrite). takes_place r q) o false) PLACES ≡ option_map_or (λ (r : Rewrite). rank (takes_place r) PLACES) o 0
    by None = rank_nothing (λ q. false) PLACES (λ k lt. refl)
    by (Some r) = refl

    each : (m : ℕ) → m < length rewrites → rank (λ q. takes_in_row rewrites (PLACES * m + q)) PLACES ≡ taken_at rewrites m
    each m lt = rank_agrees _ _ PLACES (λ q low. at m q low) ∙ by (slice_get rewrites m)

-- values that are given for listed numbers alone
abbrev listed_value : (ℕ → ℕ) → List ℕ → ℕ → ℕ
listed_value value numbers x = cond (is_listed numbers x) (value x) 0

module _ (value : ℕ → ℕ) (number : ℕ) (numbers : List ℕ) where
  -- a number that stands behind is not met
  none_met : (n : ℕ) → n ≤ number → sum_below (listed_value value (number ∷ numbers)) n ≡ sum_below (listed_value value numbers) n
  none_met zero le = refl
  none_met (suc n) le = λ i. none_met n (omega arith) i + cond (not_same number n (λ e. absurd (omega arith)) i || is_listed numbers n) (value n) 0

  -- and one that stands there is met once
  met_once : is_listed numbers number ≡ false → (n : ℕ) → number < n
      → sum_below (listed_value value (number ∷ numbers)) n ≡ value number + sum_below (listed_value value numbers) n
  met_once none zero lt = absurd (omega arith)
  met_once none (suc n) lt = elim (cases_lt number n) [
    | inl low ↦
        let rest = met_once none n low in
        let last : listed_value value (number ∷ numbers) n ≡ listed_value value numbers n =
        ap (λ b. cond (b || is_listed numbers n) (value n) 0) (not_same number n (λ e. absurd (omega arith))) in
        omega arith
    | inr high ↦
        let same : number ≡ n = omega arith in
        let rest = none_met n (omega arith) in
        let own : listed_value value (number ∷ numbers) n ≡ value number =
        ap (λ k. listed_value value (number ∷ numbers) k) (sym same)
        ∙ ap (λ b. cond (b || is_listed numbers number) (value number) 0) (same_number number) in
        let less : listed_value value numbers n ≡ 0 = ap (λ k. listed_value value numbers k) (sym same) ∙ ap (λ b. cond b (value number) 0) none in
        omega arith
  ]

-- the sum of what is given for the listed numbers
abbrev sum_of : (ℕ → ℕ) → List ℕ → ℕ
sum_of value [] = 0
sum_of value (number ∷ numbers) = value number + sum_of value numbers

sum_once : (value : ℕ → ℕ) (n : ℕ) (numbers : List ℕ) → AreOnce numbers → ((x : ℕ) → is_listed numbers x ≡ true → x < n)
    → sum_below (listed_value value numbers) n ≡ sum_of value numbers
sum_once value n [] once below = none n
  where
    none : (n : ℕ) → sum_below (λ x. 0) n ≡ 0
    none zero = refl
    none (suc n) = let rest = none n in omega arith
sum_once value n (number ∷ numbers) once below =
    met_once value number numbers once.0 n (below number (ap (λ b. b || is_listed numbers number) (same_number number)))
    ∙ ap (λ k. value number + k) (sum_once value n numbers once.1 (λ x listed. below x (behind x listed)))
  where
    behind : (x : ℕ) → is_listed numbers x ≡ true → is_listed (number ∷ numbers) x ≡ true
    behind x listed = ap (λ b. nat_eq number x || b) listed ∙ or_true (nat_eq number x)

module _ (state : MachineState) (image : ImageState) (made : Made) where
  -- what the rewriting of a node takes
  abbrev taken_of : ℕ → ℕ
  taken_of node = rank (takes_place (rewrite_needed state image made node)) PLACES

  total_of : (nodes : List ℕ) → total (map (rewrite_needed state image made) nodes) ≡ sum_of taken_of nodes
  total_of [] = refl
  total_of (node ∷ nodes) = ap (λ n. rank (takes_place (rewrite_needed state image made node)) PLACES + n) (total_of nodes)

  module _ (nodes : List ℕ) (lists : ListsNodes state.first (λ node. made.concerns node && made.after node) nodes) where
    needs_at : (x q : ℕ) → q < PLACES
        → needs_in_row state image made (PLACES * x + q) ≡ (is_listed nodes x && takes_place (rewrite_needed state image made x) q)
    needs_at x q lt =
        let quotient : (PLACES * x + q) / PLACES ≡ x = omega arith in
        let remainder : (PLACES * x + q) % PLACES ≡ q = omega arith in
        (λ i. (made.concerns (quotient i) && made.after (quotient i)) && takes_place (rewrite_needed state image made (quotient i)) (remainder i))
        ∙ ap (λ b. b && takes_place (rewrite_needed state image made x) q) (sym (lists.each x))

    own_row : (x : ℕ) → rank (λ q. needs_in_row state image made (PLACES * x + q)) PLACES ≡ listed_value taken_of nodes x
    own_row x = rank_agrees _ _ PLACES (needs_at x) ∙ by (is_listed nodes x)
      where
        by : (b : Bool) → rank (λ q. b && takes_place (rewrite_needed state image made x) q) PLACES ≡ cond b (taken_of x) 0
        by true = refl
        by false = rank_nothing (λ q. false) PLACES (λ k lt. refl)

    blocks_listed : (need_of state image made).blocks ≡ blocks_needed (map (rewrite_needed state image made) nodes)
    blocks_listed =
        rank_rows (needs_in_row state image made) (listed_value taken_of nodes) (node_bound state.first) (λ x lt. own_row x)
        ∙ sum_once taken_of (node_bound state.first) nodes lists.once (λ x listed. lists.below x (sym (lists.each x) ∙ listed))
        ∙ sym (total_of nodes)
        ∙ sym (blocks_total (map (rewrite_needed state image made) nodes))

pub blocks_are_listed : BlocksAreListed
blocks_are_listed state image made nodes lists = blocks_listed state image made nodes lists

-- so many of the numbers below another are listed
count_listed : (numbers : List ℕ) → sum_of (λ x. 1) numbers ≡ length numbers
count_listed [] = refl
count_listed (number ∷ numbers) = let rest = count_listed numbers in omega arith

rank_listed : (test : ℕ → Bool) (numbers : List ℕ) → ((x : ℕ) → is_listed numbers x ≡ test x) → (n : ℕ)
    → rank test n ≡ sum_below (listed_value (λ x. 1) numbers) n
rank_listed test numbers same zero = none_counted test
rank_listed test numbers same (suc n) =
    rank_more test n ∙ (λ i. rank_listed test numbers same n i + cond (sym (same n) i) 1 0)

pub inodes_are_listed : InodesAreListed
inodes_are_listed state image made entering lists =
    rank_listed (enters_by_made state made) entering lists.each (node_bound state.first)
    ∙ sum_once (λ x. 1) (node_bound state.first) entering lists.once (λ x listed. lists.below x (sym (lists.each x) ∙ listed))
    ∙ count_listed entering

-- a test that passes somewhere is counted, and one that is counted passes somewhere
found_below : (test : ℕ → Bool) (n : ℕ) → not (nat_eq (rank test n) 0) ≡ true → (k : ℕ) × (k < n) × (test k ≡ true)
found_below test zero some = absurd (true_not_false (sym some ∙ ap not (eq-eqb (rank test 0) 0 (none_counted test))))
found_below test (suc n) some = elim (cases_Bool (test n)) [
  | inl t ↦ (n, omega arith, t)
  | inr f ↦
      let same : rank test (suc n) ≡ rank test n + 0 = rank_more test n ∙ ap (λ b. rank test n + cond b 1 0) f in
      let less : rank test (suc n) ≡ rank test n = omega arith in
      let rest = found_below test n (ap (λ k. not (nat_eq k 0)) (sym less) ∙ some) in
      (rest.0, let lt = rest.1 in omega arith, rest.2)
]

pub held_are_found : HeldAreFound
held_are_found image block = (there, back)
  where
    there : is_held_in image block ≡ true → IsHeldBy image block
    there held =
        let at = found_below (holds_in_row image block) (PLACES * image.count) held in
        let p = at.0 in
        let lt = at.1 in
        let unused = and_first (not (is_unused image (p / PLACES))) _ at.2 in
        record {
          inode = p / PLACES;
          place = p % PLACES;
          within = omega arith;
          low = omega arith;
          used = λ free. true_not_false (sym unused ∙ ap not (eq-eqb _ _ free));
          has = eqb-true _ _ (and_second (not (is_unused image (p / PLACES))) _ at.2);
        }

    back : IsHeldBy image block → is_held_in image block ≡ true
    back is =
        let i = is.inode in
        let place = is.place in
        let within = is.within in
        let low = is.low in
        let quotient : (PLACES * i + place) / PLACES ≡ i = omega arith in
        let remainder : (PLACES * i + place) % PLACES ≡ place = omega arith in
        let used : not (is_unused image i) ≡ true = ap not (not_same _ _ is.used) in
        let holds : holds_in_row image block (PLACES * i + place) ≡ true =
        (λ j. not (is_unused image (quotient j)) && nat_eq ((image.seen (quotient j)).blocks (remainder j)) block)
        ∙ ap (λ b. b && nat_eq ((image.seen i).blocks place) block) used
        ∙ eq-eqb _ _ is.has in
        let lt : PLACES * i + place < PLACES * image.count = omega arith in
        let less = rank_below (holds_in_row image block) (PLACES * i + place) (PLACES * image.count) holds lt in
        ap not (not_same (rank (holds_in_row image block) (PLACES * image.count)) 0 (λ e. absurd (omega arith)))

-- the tree after a history counts new nodes as the first one does, and each node's number lies below the bound
module _ (first : TreeState) (history : List Entry) where
  abbrev last : TreeState
  last = tree_after first history

  bound_of : node_bound last ≡ node_bound first
  bound_of =
      let kinds = cuts_keep_kinds first history empty in
      λ i. sym kinds.first i + cores_stay first history i * sym kinds.share i

  below_bound : (node : ℕ) → (node < last.first) ⊎ IsMade last node → IsNumbered last → node < node_bound last
  below_bound node (inl low) numbered = omega arith
  below_bound node (inr made) numbered =
      let few = made.3 in
      let most = numbered.within made.0 made.2 in
      let is = made.4 in
      let small : made.1 < last.share = omega arith in
      let less = mul-add-lt made.0 last.share made.1 (length last.made) made.2 small in
      omega arith

pub nodes_are_counted : NodesAreCounted
nodes_are_counted first history node is legal some =
    let sound = histories_keep_sound first history (length history) is legal in
    let numbered : IsNumbered (tree_after first history) = subst (λ (h : List Entry). IsNumbered (tree_after first h)) (take-length history) sound.numbered in
    subst (λ (n : ℕ). node < n) (bound_of first history) (below_bound first history node (numbered.known node some) numbered)
