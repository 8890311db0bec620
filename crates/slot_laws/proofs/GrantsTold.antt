-- Behind each history along which a map goes, what is granted is granted to one commit.
use Rattle.std.proofs.Common.{◌≢◌, ◌∷◌, ◌++◌, ◌≡◌, ◌∙◌, ◌||◌, ℕ, arith, subst, sym, List, [], refl, Some, Option, true, nat_eq, length, Bool, false}
use Rattle.sfs_base.specs.declared.numbers.CoreId.{CoreId}
use Rattle.sfs_base.specs.Listed.{is_listed}
use Rattle.sfs_base.proofs.BasicNumbers.{same_number}
use Rattle.sfs_base.proofs.BasicTruth.{true_not_false, or_first, or_second}
use Rattle.sfs_image.specs.Super.{Layout}
use Rattle.space_map.specs.Space.{Space, GrantedNumbers}
use Rattle.space_map.specs.Pool.{Pool, Grants, status_of, BecomeAll, Ends}
use Rattle.space_map.specs.declared.status.Status.TheVariants.{Taken, Free, Granted}
use Rattle.space_map.specs.declared.status.Status.{Status}
use Rattle.space_map.proofs.Others.{free_now}
use Rattle.cut_laws.specs.Rules.{IsOneOf}
use Rattle.stamp_table.specs.declared.event.Event.TheVariants.{Told, Called}
use Rattle.stamp_table.specs.declared.event.Event.{Event}
use Rattle.slot_laws.specs.Labels.{BoxPast, after_label, past_from, first_past, after_event}
use Rattle.slot_laws.specs.declared.label.Label.{Label}
use Rattle.slot_laws.specs.Rules.{MayLabel, MayFrom}
use Rattle.slot_laws.specs.Grants.{SpaceDoes, AreTheirGrants, inodes_granted, blocks_granted, SpaceGoes, NoneGranted, AreGranted, GrantsAreOnes, ReservingsTakeTheLeast, IsOpenNumbered, makes_durable, GivesUpNow, StayTaken, TakenUntilGivenUp}
use Rattle.slot_laws.specs.Nodes.{ReservedCommit, no_numbers}
use Rattle.slot_laws.specs.Lasts.{told_reserving}
use Rattle.slot_laws.specs.declared.label.Label.TheVariants as label
use Rattle.slot_laws.proofs.NodesTold.{LastsOf, lasts_label, first_lasts, may_parts, lasts_from}
use Rattle.slot_laws.proofs.GrantsHeld.{take_fits, return_fits, end_fits_granted, giving_fits, granted_others, not_true_so, returned_others, taken_still}

module _ (layout : Layout) (before : ℕ) (core : CoreId) (past : BoxPast) where
  -- what an event makes of the map goes on to be granted so
  pub grants_label : (fact : Label) (old new : Space) → LastsOf past → MayLabel layout before core.0 fact past
      → SpaceDoes (Told core fact) past old new → AreTheirGrants past.opens old → AreTheirGrants (after_label layout core.0 fact past).opens new
  grants_label (label.Reserved commit seen grant) old new fits rule does held =
      let told : ReservedCommit = record { number = commit; seen = seen.items; grant = grant; gives_up = no_numbers } in
      let differs : (other : ReservedCommit) → IsOneOf past.opens other → other.number ≢ commit =
      λ other among e. let low = fits.given other among in omega (arith, low, rule.next, e) in
      record {
        inodes = take_fits inodes_granted past.opens fits.once old.inodes new.inodes held.inodes told differs does.inodes;
        blocks = take_fits blocks_granted past.opens fits.once old.blocks new.blocks held.blocks told differs does.blocks;
      }
  grants_label (label.Returned commit) old new fits rule does held = record {
    inodes = return_fits inodes_granted past.opens fits.once old.inodes new.inodes held.inodes commit does.own does.inodes;
    blocks = return_fits blocks_granted past.opens fits.once old.blocks new.blocks held.blocks commit does.own does.blocks;
  }
  grants_label (label.Settled k turn) old new fits rule does held = record {
    inodes = end_fits_granted inodes_granted past.opens fits.once old.inodes new.inodes held.inodes turn.commit does.own does.inodes;
    blocks = end_fits_granted blocks_granted past.opens fits.once old.blocks new.blocks held.blocks turn.commit does.own does.blocks;
  }
  grants_label (label.Empty commit cut opened durable) old new fits rule does held = record {
    inodes = end_fits_granted inodes_granted past.opens fits.once old.inodes new.inodes held.inodes commit does.own does.inodes;
    blocks = end_fits_granted blocks_granted past.opens fits.once old.blocks new.blocks held.blocks commit does.own does.blocks;
  }
  grants_label (label.Began filling commit node stamp blocks inodes) old new fits rule does held =
      let numbers : GrantedNumbers = record { inodes = inodes.items; blocks = blocks.items } in
      let same = subst (AreTheirGrants past.opens) (sym does) held in
      record {
        inodes = giving_fits inodes_granted past.opens new.inodes commit numbers same.inodes;
        blocks = giving_fits blocks_granted past.opens new.blocks commit numbers same.blocks;
      }
  grants_label label.Took old new fits rule does held = subst (AreTheirGrants past.opens) (sym does) held
  grants_label label.Gave old new fits rule does held = subst (AreTheirGrants past.opens) (sym does) held
  grants_label (label.Noted turn) old new fits rule does held = subst (AreTheirGrants past.opens) (sym does) held
  grants_label (label.Filled k piece done) old new fits rule does held = subst (AreTheirGrants past.opens) (sym does) held
  grants_label (label.Synced now) old new fits rule does held = subst (AreTheirGrants past.opens) (sym does) held
  grants_label (label.Opened k done cut opened) old new fits rule does held = subst (AreTheirGrants past.opens) (sym does) held
  grants_label (label.Learned turn) old new fits rule does held = subst (AreTheirGrants past.opens) (sym does) held
  grants_label (label.Placed k n done) old new fits rule does held = subst (AreTheirGrants past.opens) (sym does) held
  grants_label (label.Shut k done) old new fits rule does held = subst (AreTheirGrants past.opens) (sym does) held
  grants_label (label.Idled k) old new fits rule does held = subst (AreTheirGrants past.opens) (sym does) held

module _ (layout : Layout) (before : ℕ) where
  grants_from : (log : List (Event Label)) (past : BoxPast) (old new : Space) → LastsOf past → MayFrom layout before log past
      → SpaceGoes layout log past old new → AreTheirGrants past.opens old → AreTheirGrants (past_from layout log past).opens new
  grants_from [] past old new fits may goes held = subst (AreTheirGrants past.opens) (sym goes) held
  grants_from (Called entry ∷ log) past old new fits may goes held = absurd may.0
  grants_from (Told core fact ∷ log) past old new fits may goes held =
      grants_from log (after_label layout core.0 fact past) goes.0.next new (lasts_label layout before core.0 past fits fact may.0.1) may.1 goes.1
      (grants_label layout before core past fact old goes.0.next fits may.0.1 goes.0.does held)

-- before the first label nothing is granted
pub none_granted : (part : GrantedNumbers → List ℕ) (pool : Pool) → NoneGranted pool → AreGranted part [] pool
none_granted part pool none = record {
  own = λ one number never has. absurd never;
  apart = λ one other number never there differ has. absurd never;
  only = λ number granted. absurd (none number granted);
}

pub grants_are_ones : GrantsAreOnes
grants_are_ones layout before moment log first now along =
    grants_from layout before log (first_past moment) first now (first_lasts moment) along.may along.goes
    (record { inodes = none_granted inodes_granted first.inodes along.no_inodes; blocks = none_granted blocks_granted first.blocks along.no_blocks })

-- A map that goes along two histories, one behind the other.
record GoesAlongBoth (layout : Layout) (log more : List (Event Label)) (past : BoxPast) (old new : Space) : Type 0 where
  middle : Space
  front : SpaceGoes layout log past old middle
  back : SpaceGoes layout more (past_from layout log past) middle new

goes_parts : (layout : Layout) (log more : List (Event Label)) (past : BoxPast) (old new : Space) → SpaceGoes layout (log ++ more) past old new
    → GoesAlongBoth layout log more past old new
goes_parts layout [] more past old new goes = record { middle = old; front = refl; back = goes }
goes_parts layout (event ∷ log) more past old new goes =
    let rest = goes_parts layout log more (after_event layout event past) goes.0.next new goes.1 in
    record { middle = rest.middle; front = (goes.0, rest.front); back = rest.back }

module _ (layout : Layout) (more : List (Event Label)) (middle new : Space) where
  pub goes_both : (log : List (Event Label)) (past : BoxPast) (old : Space) → SpaceGoes layout log past old middle
      → SpaceGoes layout more (past_from layout log past) middle new → SpaceGoes layout (log ++ more) past old new
  goes_both [] past old goes later = subst (λ (s : Space). SpaceGoes layout more past s new) goes later
  goes_both (event ∷ log) past old goes later =
      (goes.0, goes_both log (after_event layout event past) goes.0.next goes.1 later)

-- whether an event moves the map
abbrev pub moves_map : Event Label → Bool
moves_map (Told core (label.Reserved commit seen grant)) = true
moves_map (Told core (label.Returned commit)) = true
moves_map (Told core (label.Settled slot turn)) = true
moves_map (Told core (label.Empty commit cut opened durable)) = true
moves_map _ = false

abbrev pub any_moves : List (Event Label) → Bool
any_moves [] = false
any_moves (event ∷ log) = moves_map event || any_moves log

-- a map stays where no event moves it
quiet_step : (event : Event Label) (past : BoxPast) (space : Space) → moves_map event ≡ false → SpaceDoes event past space space
quiet_step (Called entry) past space quiet = refl
quiet_step (Told core (label.Reserved commit seen grant)) past space quiet = absurd (true_not_false quiet)
quiet_step (Told core (label.Returned commit)) past space quiet = absurd (true_not_false quiet)
quiet_step (Told core (label.Settled slot turn)) past space quiet = absurd (true_not_false quiet)
quiet_step (Told core (label.Empty commit cut opened durable)) past space quiet = absurd (true_not_false quiet)
quiet_step (Told core label.Took) past space quiet = refl
quiet_step (Told core label.Gave) past space quiet = refl
quiet_step (Told core (label.Noted turn)) past space quiet = refl
quiet_step (Told core (label.Began filling commit node stamp blocks inodes)) past space quiet = refl
quiet_step (Told core (label.Filled slot piece done)) past space quiet = refl
quiet_step (Told core (label.Synced now)) past space quiet = refl
quiet_step (Told core (label.Opened slot done cut opened)) past space quiet = refl
quiet_step (Told core (label.Learned turn)) past space quiet = refl
quiet_step (Told core (label.Placed slot n done)) past space quiet = refl
quiet_step (Told core (label.Shut slot done)) past space quiet = refl
quiet_step (Told core (label.Idled slot)) past space quiet = refl

pub quiet_goes : (layout : Layout) (log : List (Event Label)) (past : BoxPast) (space : Space) → any_moves log ≡ false → SpaceGoes layout log past space space
quiet_goes layout [] past space quiet = refl
quiet_goes layout (event ∷ log) past space quiet = (
  record { next = space; does = quiet_step event past space (or_first (moves_map event) (any_moves log) quiet) },
  quiet_goes layout log (after_event layout event past) space (or_second (moves_map event) (any_moves log) quiet),
)

pub reservings_take_the_least : ReservingsTakeTheLeast
reservings_take_the_least layout before moment log first now one told along =
    let parts = goes_parts layout told.front (told_reserving one ∷ told.back) (first_past moment) first now
    (subst (λ (l : List (Event Label)). SpaceGoes layout l (first_past moment) first now) told.whole along.goes) in
    let may = may_parts layout before told.front (told_reserving one ∷ told.back) (first_past moment)
    (subst (λ (l : List (Event Label)). MayFrom layout before l (first_past moment)) told.whole along.may) in
    record {
      old = parts.middle;
      new = parts.back.0.next;
      along = record { may = may.0; no_inodes = along.no_inodes; no_blocks = along.no_blocks; goes = parts.front };
      took = parts.back.0.does;
    }

-- a grant leaves what is taken
grant_leaves : (old new : Pool) (count : ℕ) (numbers : List ℕ) → Grants old count numbers new → (number : ℕ) → status_of old number ≡ Some Taken
    → status_of new number ≡ Some Taken
grant_leaves old new count numbers grants number taken =
    granted_others old new count numbers grants number
    (not_true_so (is_listed numbers number)
    (λ listed. (let never : ◌≡◌ {A = Option Status} (Some Taken) (Some Free) = sym taken ∙ free_now old count numbers new number grants listed in cc)))
    ∙ taken

-- of one row of numbers: a return leaves what is taken, and so does an end that does not give it up
module _ (part : GrantedNumbers → List ℕ) (opens : List ReservedCommit) (old new : Pool) (fits : AreGranted part opens old) (number : ℕ)
    (taken : status_of old number ≡ Some Taken) where
  return_leaves : (out : ℕ) (own : IsOpenNumbered opens out) → BecomeAll Free (part own.commit.grant) old new → status_of new number ≡ Some Taken
  return_leaves out own back =
      returned_others old new (part own.commit.grant) back number
      (not_true_so (is_listed (part own.commit.grant) number)
      (λ has. (let never : ◌≡◌ {A = Option Status} (Some Granted) (Some Taken) = sym (fits.own own.commit number own.among has) ∙ taken in cc)))
      ∙ taken

  end_leaves : (out : ℕ) (event : Event Label) (own : IsOpenNumbered opens out) → (makes_durable own.commit.number event ≡ true)
      → Ends (part own.commit.grant) (part own.commit.gives_up) old new → (GivesUpNow part event opens number → ⊥) → status_of new number ≡ Some Taken
  end_leaves out event own durable end none =
      taken_still old new (part own.commit.grant) (part own.commit.gives_up) end number
      (not_true_so (is_listed (part own.commit.gives_up) number)
      (λ gives. none (record { commit = own.commit; among = own.among; durable = durable; gives = gives })))
      taken

-- the number of an ended commit is the event's
same_test : (a b : ℕ) → b ≡ a → nat_eq a b ≡ true
same_test a b same = subst (λ (n : ℕ). nat_eq a n ≡ true) (sym same) (same_number a)

-- the same map has the same rows
abbrev StaysTaken : (Space → Pool) → Space → Space → ℕ → Type 0
StaysTaken row old new number = status_of (row old) number ≡ Some Taken → status_of (row new) number ≡ Some Taken

same_map : (row : Space → Pool) (old new : Space) (number : ℕ) → new ≡ old → StaysTaken row old new number
same_map row old new number same taken = subst (λ (s : Space). status_of (row s) number ≡ Some Taken) (sym same) taken

abbrev inodes_row : Space → Pool
inodes_row space = space.inodes

abbrev blocks_row : Space → Pool
blocks_row space = space.blocks

module _ (core : CoreId) (past : BoxPast) (old new : Space) (number : ℕ) (held : AreTheirGrants past.opens old) where
  -- one event leaves taken inodes
  inodes_stay : (fact : Label) → SpaceDoes (Told core fact) past old new → (GivesUpNow inodes_granted (Told core fact) past.opens number → ⊥)
      → StaysTaken inodes_row old new number
  inodes_stay (label.Reserved commit seen grant) does none taken =
      grant_leaves old.inodes new.inodes (length grant.inodes) grant.inodes does.inodes number taken
  inodes_stay (label.Returned commit) does none taken =
      return_leaves inodes_granted past.opens old.inodes new.inodes held.inodes number taken commit does.own does.inodes
  inodes_stay (label.Settled k turn) does none taken =
      end_leaves inodes_granted past.opens old.inodes new.inodes held.inodes number taken turn.commit (Told core (label.Settled k turn)) does.own
      (same_test turn.commit does.own.commit.number does.own.number_is) does.inodes none
  inodes_stay (label.Empty commit cut opened durable) does none taken =
      end_leaves inodes_granted past.opens old.inodes new.inodes held.inodes number taken commit (Told core (label.Empty commit cut opened durable)) does.own
      (same_test commit does.own.commit.number does.own.number_is) does.inodes none
  inodes_stay label.Took does none taken = same_map inodes_row old new number does taken
  inodes_stay label.Gave does none taken = same_map inodes_row old new number does taken
  inodes_stay (label.Noted turn) does none taken = same_map inodes_row old new number does taken
  inodes_stay (label.Began filling commit node stamp blocks inodes) does none taken = same_map inodes_row old new number does taken
  inodes_stay (label.Filled k piece done) does none taken = same_map inodes_row old new number does taken
  inodes_stay (label.Synced now) does none taken = same_map inodes_row old new number does taken
  inodes_stay (label.Opened k done cut opened) does none taken = same_map inodes_row old new number does taken
  inodes_stay (label.Learned turn) does none taken = same_map inodes_row old new number does taken
  inodes_stay (label.Placed k n done) does none taken = same_map inodes_row old new number does taken
  inodes_stay (label.Shut k done) does none taken = same_map inodes_row old new number does taken
  inodes_stay (label.Idled k) does none taken = same_map inodes_row old new number does taken

  -- one event leaves taken blocks
  blocks_stay : (fact : Label) → SpaceDoes (Told core fact) past old new → (GivesUpNow blocks_granted (Told core fact) past.opens number → ⊥)
      → StaysTaken blocks_row old new number
  blocks_stay (label.Reserved commit seen grant) does none taken =
      grant_leaves old.blocks new.blocks (length grant.blocks) grant.blocks does.blocks number taken
  blocks_stay (label.Returned commit) does none taken =
      return_leaves blocks_granted past.opens old.blocks new.blocks held.blocks number taken commit does.own does.blocks
  blocks_stay (label.Settled k turn) does none taken =
      end_leaves blocks_granted past.opens old.blocks new.blocks held.blocks number taken turn.commit (Told core (label.Settled k turn)) does.own
      (same_test turn.commit does.own.commit.number does.own.number_is) does.blocks none
  blocks_stay (label.Empty commit cut opened durable) does none taken =
      end_leaves blocks_granted past.opens old.blocks new.blocks held.blocks number taken commit (Told core (label.Empty commit cut opened durable)) does.own
      (same_test commit does.own.commit.number does.own.number_is) does.blocks none
  blocks_stay label.Took does none taken = same_map blocks_row old new number does taken
  blocks_stay label.Gave does none taken = same_map blocks_row old new number does taken
  blocks_stay (label.Noted turn) does none taken = same_map blocks_row old new number does taken
  blocks_stay (label.Began filling commit node stamp blocks inodes) does none taken = same_map blocks_row old new number does taken
  blocks_stay (label.Filled k piece done) does none taken = same_map blocks_row old new number does taken
  blocks_stay (label.Synced now) does none taken = same_map blocks_row old new number does taken
  blocks_stay (label.Opened k done cut opened) does none taken = same_map blocks_row old new number does taken
  blocks_stay (label.Learned turn) does none taken = same_map blocks_row old new number does taken
  blocks_stay (label.Placed k n done) does none taken = same_map blocks_row old new number does taken
  blocks_stay (label.Shut k done) does none taken = same_map blocks_row old new number does taken
  blocks_stay (label.Idled k) does none taken = same_map blocks_row old new number does taken

-- and so do all
module _ (layout : Layout) (before : ℕ) where
  pub stay_taken : (log : List (Event Label)) (past : BoxPast) (old new : Space) → LastsOf past → MayFrom layout before log past
      → SpaceGoes layout log past old new → AreTheirGrants past.opens old → StayTaken layout log past old new
  stay_taken [] past old new fits may goes held = record {
    inodes = λ number none. same_map inodes_row old new number goes;
    blocks = λ number none. same_map blocks_row old new number goes;
  }
  stay_taken (Called entry ∷ log) past old new fits may goes held = absurd may.0
  stay_taken (Told core fact ∷ log) past old new fits may goes held =
      let rest = stay_taken log (after_label layout core.0 fact past) goes.0.next new (lasts_label layout before core.0 past fits fact may.0.1) may.1 goes.1
      (grants_label layout before core past fact old goes.0.next fits may.0.1 goes.0.does held) in
      record {
        inodes = λ number none taken.
            rest.inodes number none.1 (inodes_stay core past old goes.0.next number held fact goes.0.does none.0 taken);
        blocks = λ number none taken.
            rest.blocks number none.1 (blocks_stay core past old goes.0.next number held fact goes.0.does none.0 taken);
      }

pub taken_until_given_up : TakenUntilGivenUp
taken_until_given_up layout before moment front back first now there =
    stay_taken layout before back (past_from layout front (first_past moment)) there.middle now
    (lasts_from layout before front (first_past moment) (first_lasts moment) there.along.may) there.may there.goes
    (grants_are_ones layout before moment front first there.middle there.along)
