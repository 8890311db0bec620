-- What fits what a right map has free, and what does not, is what the books say.
use Rattle.std.proofs.Common.{◌≡◌, ℕ, zero, suc, ◌+◌, ◌-◌, ◌*◌, ◌<◌, ◌≤◌, ◌^◌, Bool, true, false, cond, not, ◌&&◌, List, [], ◌∷◌, length, map, Option, Some, None, option_map, inl, inr, refl, sym, ap, subst, ◌∙◌, arith, nat_lt, count_by, Contains}
use Rattle.std.specs.Prelude.{sum_by}
use Rattle.std.proofs.lemmas.Bool.{cases_lt, lt-ltb, le-ltb}
use Rattle.std.proofs.lemmas.List.{length-map, length-append}
use Rattle.std.proofs.lemmas.List.Sums.{count_by-le-length, length-filter, sum_by-cons}
use Rattle.std.proofs.lemmas.Option.{slice_get-map}
use Rattle.sfs_base.proofs.BasicOptions.{none_some, some_not_none, some_same}
use Rattle.sfs_base.proofs.BasicTruth.{and_false, and_first, and_true}
use Rattle.sfs_base.specs.declared.numbers.SpaceKind.{SpaceKind}
use Rattle.sfs_base.specs.declared.numbers.SpaceKind.TheVariants.{Inodes, Blocks}
use Rattle.sfs_base.specs.Listed.{is_listed}
use Rattle.sfs_image.specs.Seen.{PLACES}
use Rattle.sfs_image.specs.Super.{data_start}
use Rattle.tree_laws.specs.Tree.{TreeState}
use Rattle.image_laws.specs.Image.{inodes_shown}
use Rattle.image_laws.specs.Need.{takes_place, rank}
use Rattle.image_laws.proofs.Ranks.{rank_more}
use Rattle.space_map.specs.Pool.{free_count}
use Rattle.space_map.specs.Space.{Space, shortage}
use Rattle.space_map.specs.declared.fault.SpaceFault.{SpaceFault}
use Rattle.space_map.specs.declared.fault.SpaceFault.TheVariants.{NoSpace, NoMemory}
use Rattle.disk_change.specs.Built.{rewrite_in}
use Rattle.disk_change.specs.GivenUp.{entry_number}
use Rattle.disk_change.specs.Nodes.{enter_node}
use Rattle.disk_nodes.specs.Nodes.{entry_node}
use Rattle.disk_change.specs.Planned.{as_u32, blocks_taken, enters, leaves, staying, seated_old, seated_entering}
use Rattle.disk_change.specs.Seated.{Seated}
use Rattle.commit_laws.specs.CommitMade.{StandOnce}
use Rattle.commit_laws.specs.CommitOfPlan.{change_planned}
use Rattle.commit_laws.specs.NumbersGiven.{AreNumbered}
use Rattle.commit_laws.proofs.CommitMade.{map_there}
use Rattle.commit_laws.proofs.OwnInodes.{mapped_is_in}
use Rattle.commit_laws.proofs.SeatsOfPlan.{among_is_in, ascending_once, there_is_in}
use Rattle.turn_laws.specs.Books.{free_in, FitsFree, amount_of, IsTooFew, IsShortOf}
use Rattle.turn_laws.specs.Need.{Amount, Made, is_unused, is_held_in, free_inodes, free_blocks, enters_by_made, node_bound}
use Rattle.turn_laws.specs.OneThread.{Resting, machine_at}
use Rattle.turn_laws.proofs.ListedNeeds.{inodes_are_listed, none_counted}
use Rattle.space_laws.specs.Laws.{CountsFree}
use Rattle.space_laws.proofs.Asked.{enters_counted}
use Rattle.space_laws.proofs.Counted.{maps_count_free}
use Rattle.flush_laws.specs.Volume.{Volume}
use Rattle.turn_ties.specs.Laws.{FitsAreTheBooks, ShortsAreTheBooks, CountedNodesFit}
use Rattle.turn_ties.specs.Plans.{image_held, rest_of, HasPlan, HasTouchedPages, amount_planned, need_planned, EntersFit, IsRestingMap, Planning, made_of, machine_of_rest, books_of_rest, need_of_planning}
use Rattle.turn_ties.proofs.Needs.{inodes_needed, needs_are_the_books}
use Rattle.turn_ties.proofs.Planned.{ready, from}
use Rattle.turn_ties.proofs.Seats.{once_listed}

pub at_most_one : (b : Bool) → cond b 1 0 ≤ 1
at_most_one true = omega arith
at_most_one false = omega arith

-- no more numbers are counted than there are
pub rank_low : (test : ℕ → Bool) (n : ℕ) → rank test n ≤ n
rank_low test zero = let none = none_counted test in omega (arith, none)
rank_low test (suc n) = let rest = rank_low test n in let more = rank_more test n in let one = at_most_one (test n) in omega (arith, rest, more, one)

-- and fewer where the first one is not
rank_lower : (test : ℕ → Bool) → test 0 ≡ false → (n : ℕ) → rank test (suc n) ≤ n
rank_lower test not_first zero =
    let none = none_counted test in
    let more = rank_more test 0 ∙ ap (λ b. rank test 0 + cond b 1 0) not_first in
    omega (arith, none, more)
rank_lower test not_first (suc n) =
    let rest = rank_lower test not_first n in
    let more = rank_more test (suc n) in
    let one = at_most_one (test (suc n)) in
    omega (arith, rest, more, one)

-- numbers below a count that stand once are no more than it
module _ (volume : Volume) (numbers : List ℕ) (count : ℕ) (once : StandOnce numbers) (below : (i : ℕ) → Contains numbers i → i < count) where
  abbrev counting : TreeState
  counting = record volume.first { first = count; share = 0; made = [] }

  abbrev listed : Made
  listed = record { concerns = is_listed numbers; raised = volume.cut; after = is_listed numbers; nets = λ _. [] }

  pub few_once : length numbers ≤ count
  few_once = omega (arith, all, low)
    where
      own : Resting
      own = record (rest_of volume []) { inodes = λ _. false }

      all : rank (enters_by_made (machine_at counting [] own) listed) (count + 0) ≡ length numbers
      all = inodes_are_listed (machine_at counting [] own) (image_held volume) listed numbers (record {
        once = once_listed numbers once;
        each = λ node. sym (and_true (is_listed numbers node));
        below = λ node t. let low = below node (among_is_in numbers node (and_first (is_listed numbers node) true t)) in omega (arith, low);
      })

      low : rank (enters_by_made (machine_at counting [] own) listed) (count + 0) ≤ count + 0
      low = rank_low (enters_by_made (machine_at counting [] own) listed) (count + 0)

-- nodes take no more blocks than they have places
few_taken : (seats : List Seated) → sum_by blocks_taken seats ≤ PLACES * length seats
few_taken [] = omega arith
few_taken (seat ∷ seats) =
    let rest = few_taken seats in
    let own = rank_low (takes_place (rewrite_in seat)) PLACES in
    let all = sum_by-cons blocks_taken seat seats in
    omega (arith, rest, own, all)

-- a number that 32 bits say is at most so few is itself
low_again : (n free : ℕ) → as_u32 n ≤ free → free < 2 ^ 32 - 1 → n ≤ free
low_again n free low few = elim (cases_lt n (2 ^ 32 - 1)) [
  | inl fits ↦ omega (arith, low, fits)
  | inr high ↦ absurd (omega (arith, high, low, few))
]

low_inodes : (n : ℕ) → n ≤ 16384 → n < 2 ^ 32 - 1
low_inodes n few = omega (arith, few)

low_blocks : (n : ℕ) → n ≤ 262144 → n < 2 ^ 32 - 1
low_blocks n few = omega (arith, few)

fits_again : (n : ℕ) → n < 2 ^ 32 → as_u32 n ≡ n
fits_again n low = omega (arith, low)

-- a need, as far as 32 bits have room for it, beside what is free
module _ (need free : Amount) (few_inodes : free.inodes < 2 ^ 32 - 1) (few_blocks : free.blocks < 2 ^ 32 - 1) where
  -- what is told, by whether there are too few inodes and too few blocks
  abbrev told_by : Bool → Bool → Option SpaceFault
  told_by inodes blocks =
      cond inodes (Some (NoSpace Inodes (as_u32 need.inodes) free.inodes)) (cond blocks (Some (NoSpace Blocks (as_u32 need.blocks) free.blocks)) None)

  abbrev told : Option SpaceFault
  told = told_by (nat_lt free.inodes (as_u32 need.inodes)) (nat_lt free.blocks (as_u32 need.blocks))

  -- the three ways in which it can be
  short_inodes : free.inodes < as_u32 need.inodes → told ≡ Some (NoSpace Inodes (as_u32 need.inodes) free.inodes)
  short_inodes short = ap (λ b. told_by b (nat_lt free.blocks (as_u32 need.blocks))) (lt-ltb free.inodes (as_u32 need.inodes) short)

  short_blocks : as_u32 need.inodes ≤ free.inodes → free.blocks < as_u32 need.blocks → told ≡ Some (NoSpace Blocks (as_u32 need.blocks) free.blocks)
  short_blocks enough short = λ i. told_by (le-ltb free.inodes (as_u32 need.inodes) enough i) (lt-ltb free.blocks (as_u32 need.blocks) short i)

  none_short : as_u32 need.inodes ≤ free.inodes → as_u32 need.blocks ≤ free.blocks → told ≡ None
  none_short enough both = λ i. told_by (le-ltb free.inodes (as_u32 need.inodes) enough i) (le-ltb free.blocks (as_u32 need.blocks) both i)

  pub fits_told : told ≡ None → FitsFree need free
  fits_told none = elim (cases_lt free.inodes (as_u32 need.inodes)) [
    | inl short ↦ absurd (some_not_none (sym (short_inodes short) ∙ none))
    | inr enough ↦ elim (cases_lt free.blocks (as_u32 need.blocks)) [
      | inl short ↦ absurd (some_not_none (sym (short_blocks enough short) ∙ none))
      | inr both ↦ record { inodes = low_again need.inodes free.inodes enough few_inodes; blocks = low_again need.blocks free.blocks both few_blocks }
    ]
  ]

  -- what a fault says of a shortage
  abbrev pub Says : SpaceFault → Type 0
  Says (NoSpace kind asked have) = IsShortOf need free kind asked have
  Says NoMemory = ⊥

  pub says : need.inodes < 2 ^ 32 → (need.inodes ≤ free.inodes → need.blocks < 2 ^ 32) → (fault : SpaceFault) → told ≡ Some fault → Says fault
  says fits fits_too fault is = elim (cases_lt free.inodes (as_u32 need.inodes)) [
    | inl short ↦
        let same = fits_again need.inodes fits in
        subst Says (some_same (sym (short_inodes short) ∙ is)) (short_of Inodes (as_u32 need.inodes) free.inodes (omega (arith, short, same)) same refl)
    | inr enough ↦
        let low = low_again need.inodes free.inodes enough few_inodes in
        let same = fits_again need.blocks (fits_too low) in
        elim (cases_lt free.blocks (as_u32 need.blocks)) [
          | inl short ↦
              subst Says (some_same (sym (short_blocks enough short) ∙ is))
              (short_of Blocks (as_u32 need.blocks) free.blocks (low, omega (arith, short, same)) same refl)
          | inr both ↦ absurd (none_some (sym (none_short enough both) ∙ is))
        ]
  ]
    where
      short_of : (kind : SpaceKind) (asked have : ℕ) → IsTooFew need free kind → asked ≡ amount_of need kind → have ≡ amount_of free kind
          → IsShortOf need free kind asked have
      short_of kind asked have few asked_is have_is = record { too_few = few; asked_is = asked_is; have_is = have_is }

-- what a plan needs of blocks
module _ (volume : Volume) (planning : Planning) (is : HasPlan volume planning) where
  -- nodes with an inode are few
  few_old : length planning.plan.old ≤ 16384
  few_old =
      let range = is.stands.between.sound.ranges.inodes_high in
      let few = few_once volume (map entry_number planning.plan.old) volume.layout.inodes once below in
      let long = length-map planning.plan.old entry_number in
      omega (arith, range, few, long)
    where
      numbered : AreNumbered volume.num planning.plan.old planning.plan.enter
      numbered = (from volume planning is).numbered

      once : StandOnce (map entry_number planning.plan.old)
      once m l i at also =
          let first = map_there entry_number planning.plan.old m i at in
          let later = map_there entry_number planning.plan.old l i also in
          let same : first.0.node.0 ≡ later.0.node.0 =
          is.stands.between.stands.once first.0.node.0 later.0.node.0 i
          (numbered.old_numbers first.0 (there_is_in planning.plan.old m first.0 first.1) ∙ ap Some first.2)
          (numbered.old_numbers later.0 (there_is_in planning.plan.old l later.0 later.1) ∙ ap Some later.2) in
          ascending_once entry_node planning.plan.old numbered.old_ascend m l first.0.node.0
          (slice_get-map entry_node planning.plan.old m ∙ ap (option_map entry_node) first.1)
          (slice_get-map entry_node planning.plan.old l ∙ ap (option_map entry_node) later.1 ∙ ap Some (sym same))

      below : (i : ℕ) → Contains (map entry_number planning.plan.old) i → i < volume.layout.inodes
      below i there =
          let entry = mapped_is_in entry_number planning.plan.old i there in
          is.stands.between.stands.within entry.0.node.0 i (numbered.old_numbers entry.0 entry.1 ∙ ap Some entry.2)

  few_seats : length (change_planned planning.plan).seats ≤ length planning.plan.old + length planning.plan.enter
  few_seats =
      let changes = (change_planned planning.plan).changes in
      let stays = staying planning.plan.old planning.plan.leave in
      let both = length-append (map (seated_old changes) stays) (map (seated_entering changes) planning.plan.enter) in
      let olds = length-map stays (seated_old changes) in
      let enter = length-map planning.plan.enter (seated_entering changes) in
      let kept = length-filter (λ entry. not (leaves planning.plan.leave entry)) planning.plan.old in
      let low = count_by-le-length (λ entry. not (leaves planning.plan.leave entry)) planning.plan.old in
      omega (arith, both, olds, enter, kept, low)

  -- so where it needs no more inodes than a disk may have, 32 bits have room for the number of blocks
  pub blocks_low : (amount_planned planning.plan).inodes ≤ 16384 → (amount_planned planning.plan).blocks < 2 ^ 32
  blocks_low low =
      let entering = enters_counted planning.plan ∙ length-map planning.plan.enter enter_node in
      let taken = few_taken (change_planned planning.plan).seats in
      let old = few_old in
      let seats = few_seats in
      omega (arith, low, entering, taken, old, seats)

-- what is free by the map and by the books
module _ (volume : Volume) (used : List ℕ) (planning : Planning) (space : Space) (is : HasPlan volume planning)
    (resting : IsRestingMap volume planning.entries space) where
  counts : CountsFree space (image_held volume)
  counts = maps_count_free volume planning.entries space is.stands.between is.keeps resting.right resting.none

  minus_none : (n : ℕ) → n ≡ n - 0
  minus_none n = omega arith

  abbrev free : Amount
  free = record { inodes = free_count space.inodes; blocks = free_count space.blocks }

  free_is : free ≡ free_in (books_of_rest volume used)
  free_is = λ i. record {
    inodes = (counts.inodes ∙ minus_none (free_inodes (image_held volume))) i;
    blocks = (counts.blocks ∙ minus_none (free_blocks (image_held volume))) i;
  }

  few_inodes : free_count space.inodes ≤ 16384
  few_inodes =
      let count = counts.inodes in
      let low = rank_low (is_unused (inodes_shown volume.layout volume.parts)) volume.layout.inodes in
      let range = is.stands.between.sound.ranges.inodes_high in
      omega (arith, count, low, range)

  few_blocks : free_count space.blocks ≤ 262144
  few_blocks =
      let count = counts.blocks in
      let unheld : ℕ → Bool = λ n. not (is_held_in (inodes_shown volume.layout volume.parts) (data_start volume.layout + n)) in
      let low = rank_low unheld (volume.layout.blocks - data_start volume.layout) in
      let range = is.stands.between.sound.ranges.blocks in
      omega (arith, count, low, range)

  -- so where there are inodes enough, 32 bits have room for the number of blocks
  blocks_fit : (amount_planned planning.plan).inodes ≤ free_count space.inodes → (amount_planned planning.plan).blocks < 2 ^ 32
  blocks_fit enough = blocks_low volume planning is (let free = few_inodes in omega (arith, enough, free))

  module _ (tells : HasTouchedPages volume planning) where
    needs : amount_planned planning.plan ≡ need_of_planning volume used planning
    needs = sym (needs_are_the_books volume used planning is tells)

    pub fits : shortage space (need_planned planning.plan) ≡ None → FitsFree (need_of_planning volume used planning) (free_in (books_of_rest volume used))
    fits none =
        let own = fits_told (amount_planned planning.plan) free (low_inodes (free_count space.inodes) few_inodes)
        (low_blocks (free_count space.blocks) few_blocks) none in
        subst (λ (need : Amount). FitsFree need (free_in (books_of_rest volume used))) needs (subst (FitsFree (amount_planned planning.plan)) free_is own)

    pub short : (kind : SpaceKind) (asked have : ℕ) → EntersFit planning.plan → shortage space (need_planned planning.plan) ≡ Some (NoSpace kind asked have)
        → IsShortOf (need_of_planning volume used planning) (free_in (books_of_rest volume used)) kind asked have
    short kind asked have fit said =
        let own = says (amount_planned planning.plan) free (low_inodes (free_count space.inodes) few_inodes) (low_blocks (free_count space.blocks) few_blocks)
        fit blocks_fit (NoSpace kind asked have) said in
        subst (λ (need : Amount). IsShortOf need (free_in (books_of_rest volume used)) kind asked have) needs
        (subst (λ (f : Amount). IsShortOf (amount_planned planning.plan) f kind asked have) free_is own)

pub fits_are_the_books : FitsAreTheBooks
fits_are_the_books volume used planning space is tells resting none = fits volume used planning space is resting tells none

pub shorts_are_the_books : ShortsAreTheBooks
shorts_are_the_books volume used planning space kind asked have is tells resting fit said =
    short volume used planning space is resting tells kind asked have fit said

pub counted_nodes_fit : CountedNodesFit
counted_nodes_fit volume planning is bound = by (node_bound volume.first) bound (inodes_needed volume [] planning is)
  where
    test : ℕ → Bool
    test = enters_by_made (machine_of_rest volume []) (made_of planning)

    root : test 0 ≡ false
    root =
        let has = (ready volume planning is).numbers in
        ap (λ b. planning.after 0 && not b) ((has.each 0).1 (0, has.root)) ∙ and_false (planning.after 0)

    by : (n : ℕ) → n ≤ 2 ^ 32 → rank test n ≡ count_by enters (change_planned planning.plan).seats → EntersFit planning.plan
    by zero low same = let none = rank_low test 0 in omega (arith, none, same)
    by (suc n) low same = let less = rank_lower test root n in omega (arith, less, same, low)
