-- The commit of an fsync leaves of the image of a volume what the turns say.
use Rattle.std.proofs.Common.{◌≡◌, ℕ, ◌+◌, ◌*◌, ◌/◌, ◌%◌, ◌<◌, ◌≤◌, Bool, true, false, cond, not, List, [], ◌∷◌, length, map, Option, Some, None, option_map, is_some, inl, inr, refl, sym, ap, subst, ◌∙◌, arith, nat_lt}
use Rattle.std.specs.Prelude.{slice_get}
use Rattle.std.specs.List.Sorted.{IsStrictlyIncreasing}
use Rattle.std.specs.Option.{option_map_or}
use Rattle.std.proofs.lemmas.Bool.{cases_Bool}
use Rattle.std.proofs.lemmas.List.{get_or-map, length-map}
use Rattle.std.proofs.lemmas.List.Elements.{Contains-get_or}
use Rattle.std.proofs.lemmas.Option.{slice_get-map, slice_get_within}
use Rattle.sfs_base.proofs.BasicTruth.{false_not_true, true_not_false, and_second}
use Rattle.sfs_image.specs.Seen.{Seen, SeenInodes, PLACES}
use Rattle.sfs_image.specs.Super.{data_start}
use Rattle.tree_laws.specs.Tree.{TreeState}
use Rattle.image_laws.specs.Commit.{Commit}
use Rattle.image_laws.specs.Made.{IsMadeFrom}
use Rattle.image_laws.specs.Need.{Rewrite, takes_place, pointer_after, takes_in_row, place_in_row, granted_block, rank}
use Rattle.image_laws.specs.Numbers.{grant_for}
use Rattle.image_laws.proofs.Made.{built_seen}
use Rattle.image_laws.proofs.Ranks.{rank_below}
use Rattle.disk_change.specs.Built.{rewrite_in}
use Rattle.disk_change.specs.Directory.{is_among}
use Rattle.keyed_list.specs.Ascending.{AscendBy}
use Rattle.disk_change.specs.Nodes.{enter_node}
use Rattle.disk_change.specs.Planned.{Planned}
use Rattle.disk_change.specs.Seated.{Seated}
use Rattle.commit_laws.specs.CommitMade.{inodes_built, place_among, rewrites_seated, rewrites_of_change}
use Rattle.commit_laws.specs.CommitOfPlan.{change_planned, commit_of}
use Rattle.commit_laws.specs.NumbersGiven.{node_leaves}
use Rattle.commit_laws.specs.Rewritten.{TakeTheSame}
use Rattle.commit_laws.proofs.BegunShown.{made, from as made_from}
use Rattle.commit_laws.proofs.CommitMade.{rewrite_of_node}
use Rattle.commit_laws.proofs.Rewritten.{take_same}
use Rattle.commit_laws.proofs.SeatsOfPlan.{there_is_in, node_seated, node_there}
use Rattle.cut_laws.specs.Machine.{MachineState}
use Rattle.turn_laws.specs.Books.{GivesGranted, IsRewritten, Leaves}
use Rattle.turn_laws.specs.Need.{Amount, Made, rewrite_needed}
use Rattle.space_laws.proofs.Asked.{enters_counted}
use Rattle.volume_laws.specs.Volume.{IsVolumeStanding}
use Rattle.flush_laws.specs.Volume.{Volume, OneFsync}
use Rattle.flush_laws.specs.Planned.{IsPlannedFsync}
use Rattle.turn_ties.specs.Laws.{CommitsLeaveImages, EmptyCommitsLeaveImages}
use Rattle.turn_ties.specs.Plans.{image_held, HasPlan, HasTouchedPages, image_once_left, planning_of, made_of, machine_of_rest}
use Rattle.turn_ties.proofs.Images.{over, node_shows, commits}
use Rattle.turn_ties.proofs.Needs.{inodes_needed, seat_says}
use Rattle.turn_ties.proofs.Planned.{old, new, image, ready, from}
use Rattle.turn_ties.proofs.Seats.{enters_listed}

-- numbers of items that ascend increase
increases : {X : Type 0} (key : X → ℕ) (items : List X) → AscendBy key items → IsStrictlyIncreasing (map key items)
increases key [] up k within = absurd (omega (arith, within))
increases key (x ∷ xs) up k within =
    let long = length-map (x ∷ xs) key in
    let first = get_or-map key (x ∷ xs) k x 0 (omega (arith, within, long)) in
    let later = get_or-map key (x ∷ xs) (k + 1) x 0 (omega (arith, within, long)) in
    let below = up k (k + 1) x (omega arith) (omega (arith, within, long)) in
    omega (arith, first, later, below)

-- a list of no length is empty
empty_list : (numbers : List ℕ) → length numbers ≡ 0 → numbers ≡ []
empty_list [] none = refl
empty_list (number ∷ numbers) none = absurd (omega (arith, none))

module _ (volume : Volume) (used : List ℕ) (one : OneFsync) (stands : IsVolumeStanding volume) (planned : IsPlannedFsync volume one)
    (tells : HasTouchedPages volume (planning_of one)) where
  abbrev state : MachineState
  state = machine_of_rest volume used

  abbrev made_then : Made
  made_then = made_of (planning_of one)

  abbrev change : Planned
  change = change_planned one.plan

  abbrev commit : Commit
  commit = commit_of volume.num one.nodes one.plan one.grant

  has_plan : HasPlan volume (planning_of one)
  has_plan = record { stands = stands; keeps = planned.keeps; raises = planned.raises; inodes_after = planned.inodes_after; plans = planned.plans }

  abbrev before : TreeState
  before = old volume (planning_of one) has_plan

  abbrev later : TreeState
  later = new volume (planning_of one) has_plan

  abbrev held : SeenInodes
  held = image volume (planning_of one) has_plan

  -- whether a node with an inode leaves
  leaves_is : (node : ℕ) → volume.inodes node ≡ true → node_leaves one.plan.leave node ≡ not (one.after node)
  leaves_is node has = by (one.after node) refl
    where
      by : (b : Bool) → one.after node ≡ b → node_leaves one.plan.leave node ≡ not b
      by false e = (planned.plans.moves.leaving node).1 (has, e)
      by true e = elim (cases_Bool (node_leaves one.plan.leave node)) [
        | inr f ↦ f
        | inl t ↦ absurd (true_not_false (sym e ∙ ((planned.plans.moves.leaving node).0 t).1))
      ]

  gives : GivesGranted state made_then one.grant.inodes (image_held volume) (image_once_left volume one)
  gives = record {
    entering = map enter_node one.plan.enter;
    ascending = increases enter_node one.plan.enter planned.plans.moves.ascend;
    each = enters_listed volume.num one.nodes later held volume.inodes one.after one.plan
        (from volume (planning_of one) has_plan) planned.plans.moves
        (ready volume (planning_of one) has_plan).numbers;
    enough = planned.grants.serves.inodes.enough;
    numbers = λ node. by node (volume.num node) refl;
  }
    where
      number : ℕ → Bool → Option ℕ → Option ℕ
      number node gone o = cond (is_some o) (cond gone None o) (grant_for (map enter_node one.plan.enter) one.grant.inodes node)

      by : (node : ℕ) (o : Option ℕ) → volume.num node ≡ o
          → number node (node_leaves one.plan.leave node) (volume.num node) ≡ number node (not (one.after node)) (volume.num node)
      by node None e = ap (number node (node_leaves one.plan.leave node)) e ∙ sym (ap (number node (not (one.after node))) e)
      by node (Some i) e =
          let has = ((ready volume (planning_of one) has_plan).numbers.each node).1 (i, e) in
          ap (λ b. number node b (volume.num node)) (leaves_is node has)

  -- what is rewritten of a node
  abbrev needed : ℕ → Rewrite
  needed = rewrite_needed state (image_held volume) made_then

  rewrites : (node i place : ℕ) → commit.after node ≡ Some i → is_among one.nodes node ≡ true → place < PLACES
      → IsRewritten state made_then (image_held volume) (image_once_left volume one) commit.takes commit.fresh node i place
  rewrites node i place has among low = record {
    taken = whole.takes node i place has among low ∙ ap (λ (r : Rewrite). takes_place r place) is_seat ∙ same.takes place low
        ∙ ap (λ n. takes_place (needed n) place) seat.3;
    pointer =
        (node_shows volume one planned node i has among).blocks place low
        ∙ ap (λ (s : Seen). s.blocks place)
        (built_seen commit before later held (rewrites_of_change commit change held) one.nodes planned.ready.stands whole node i has among)
        ∙ ap (λ (r : Rewrite). pointer_after r (commit.fresh i) place) is_seat ∙ same.after (commit.fresh i) place low
        ∙ ap (λ n. pointer_after (needed n) (commit.fresh i) place) seat.3;
  }
    where
      whole : IsMadeFrom commit before later held (rewrites_of_change commit change held) one.nodes
      whole = made_from volume.num one.nodes before later held one.plan one.grant (over volume one planned).full

      seat : (m : ℕ) × (seat : Seated) × (slice_get change.seats m ≡ Some seat) × (seat.node ≡ node)
      seat = node_seated volume.num one.nodes before later held one.plan one.grant (over volume one planned).full.sound.whole node i has among

      is_seat : rewrites_of_change commit change held node ≡ rewrite_in seat.1
      is_seat =
          rewrite_of_node commit change one.grant before later held one.nodes
          (made volume.num one.nodes before later held one.plan one.grant (over volume one planned).full).is node seat.0 (rewrite_in seat.1)
          (node_there change seat.0 seat.1 seat.2 ∙ ap Some seat.3)
          (slice_get-map rewrite_in change.seats seat.0 ∙ ap (option_map rewrite_in) seat.2)

      same : TakeTheSame (rewrite_in seat.1) (needed seat.1.node)
      same = take_same (rewrite_in seat.1) (needed seat.1.node)
          (seat_says volume used (planning_of one) has_plan tells seat.1 (there_is_in change.seats seat.0 seat.1 seat.2))

  -- a fresh block is one of the grant, and so of the data area
  lies : (i place : ℕ) → commit.takes i place ≡ true → (data_start volume.layout ≤ commit.fresh i place) × (commit.fresh i place < volume.layout.blocks)
  lies i place takes = by (place_among (inodes_built change one.grant) i) refl (and_second (nat_lt place PLACES) _ takes)
    where
      row : List Rewrite
      row = rewrites_seated change

      within : (p : ℕ) (o : Option Rewrite) → slice_get row (p / PLACES) ≡ o → option_map_or (λ (r : Rewrite). takes_place r (p % PLACES)) o false ≡ true
          → p < PLACES * length row
      within p None e t = absurd (false_not_true t)
      within p (Some r) e t = let low = slice_get_within row (p / PLACES) r e in omega (arith, low)

      Lies : ℕ → Type 0
      Lies block = (data_start volume.layout ≤ block) × (block < volume.layout.blocks)

      granted : Option ℕ → ℕ
      granted o = option_map_or (λ m. granted_block row one.grant.blocks (place_in_row m place)) o 0

      in_area : (p : ℕ) → takes_in_row row p ≡ true → Lies (granted_block row one.grant.blocks p)
      in_area p t =
          let below = rank_below (takes_in_row row) p (PLACES * length row) t (within p (slice_get row (p / PLACES)) refl t) in
          let enough = planned.grants.serves.blocks.enough in
          planned.grants.lies (granted_block row one.grant.blocks p)
          (Contains-get_or one.grant.blocks (rank (takes_in_row row) p) 0 (omega (arith, below, enough)))

      by : (o : Option ℕ) → place_among (inodes_built change one.grant) i ≡ o → option_map_or (λ m. takes_in_row row (place_in_row m place)) o false ≡ true
          → Lies (granted (place_among (inodes_built change one.grant) i))
      by None e t = absurd (false_not_true t)
      by (Some m) e t = subst Lies (ap granted (sym e)) (in_area (place_in_row m place) t)

  pub leaves : Leaves state made_then one.grant.inodes (image_held volume) (image_once_left volume one)
  leaves = record {
    takes = commit.takes;
    fresh = commit.fresh;
    commits = commits volume one planned;
    gives = gives;
    rewrites = rewrites;
    lies = lies;
    first_block = refl;
    end_block = refl;
  }

-- what it leaves where so many inodes are reserved
abbrev LeavesWith : Volume → List ℕ → OneFsync → List ℕ → Type 0
LeavesWith volume used one granted = Leaves (machine_of_rest volume used) (made_of (planning_of one)) granted (image_held volume) (image_once_left volume one)

pub commits_leave_images : CommitsLeaveImages
commits_leave_images volume used one stands planned tells least = subst (LeavesWith volume used one) least (leaves volume used one stands planned tells)

pub empty_commits_leave_images : EmptyCommitsLeaveImages
empty_commits_leave_images volume used one stands planned tells none =
    subst (LeavesWith volume used one) (empty_list one.grant.inodes no_inodes) (leaves volume used one stands planned tells)
  where
    no_inodes : length one.grant.inodes ≡ 0
    no_inodes =
        planned.grants.serves.inodes.enough ∙ sym (enters_counted one.plan)
        ∙ sym (inodes_needed volume used (planning_of one) (has_plan volume used one stands planned tells)) ∙ ap (λ (a : Amount). a.inodes) none
