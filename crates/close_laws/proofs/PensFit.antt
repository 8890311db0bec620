-- That what pens tell turn by turn at the box fits what commits bring, and that pens have the turns that they tell.
use Rattle.std.proofs.Common.{◌≡◌, ◌<◌, ◌∷◌, ◌++◌, ◌∙◌, ℕ, List, [], refl, sym, ap, subst, inl, inr, map, nat_eq}
use Rattle.sfs_base.specs.declared.numbers.CoreId.{CoreId}
use Rattle.sfs_base.specs.declared.numbers.NodeId.{NodeId}
use Rattle.sfs_base.specs.declared.numbers.Stamp.{Stamp}
use Rattle.sfs_base.specs.Lists.{Roomy}
use Rattle.sfs_base.proofs.BasicNumbers.{same_number}
use Rattle.sfs_image.specs.Super.{Layout}
use Rattle.sfs_image.specs.Settled.{slot_count}
use Rattle.journal_one.specs.declared.slot.Filling.{Filling}
use Rattle.journal_one.specs.Job.{Place, Job}
use Rattle.journal_one.specs.Packed.{record_entry, block_of}
use Rattle.space_map.specs.Space.{GrantedNumbers}
use Rattle.tree_laws.specs.declared.turns.Turn.{Turn}
use Rattle.cut_laws.specs.Rules.{IsOneOf}
use Rattle.cut_laws.proofs.Basics.{in_either}
use Rattle.cut_laws.proofs.Listed.{from_map, to_filter}
use Rattle.book_laws.specs.Brings.{Bringing}
use Rattle.stamp_table.specs.declared.event.Event.{Event}
use Rattle.stamp_table.specs.declared.event.Event.TheVariants.{Told, Called}
use Rattle.stamp_table.specs.Events.{event_core}
use Rattle.slot_laws.specs.declared.label.Label.{Label}
use Rattle.slot_laws.specs.declared.label.Label.TheVariants as label
use Rattle.slot_laws.specs.Labels.{BoxPast, after_event, OwnTold, own_from, first_past, nothing_told}
use Rattle.slot_laws.specs.Rules.{MayFrom, MayEvent}
use Rattle.slot_laws.specs.Telling.{IsOfStep, AreSteps, BoxTurn, TellsTurn, labels_in, turn_works, turn_refuses, turn_reserves, turn_returns, turn_empties, turn_begins, turn_opens, turn_lands, turn_fails, turn_fails_begun, at_box, TellTurns, events_in}
use Rattle.slot_laws.proofs.Telling.{pens_tell_turns}
use Rattle.close_laws.specs.Maps.{Numbered, BeginsAs, ReservedAs, bringing_of, IsEmptyAs, FitsBringing}
use Rattle.close_laws.specs.PenLabels.{IsJobBrought, TurnFits, PensTellLabels, PensHaveTurns, PensBeginWell}
use Rattle.close_laws.proofs.PensStand.{works_steps, pens_stand_beside, flights_steps}
use Rattle.close_laws.proofs.Beginning.{commits_begin_well}

-- a commit that begins in a history does so in a slot of the disk's
module _ (layout : Layout) (before : ℕ) (core : CoreId) (filling : Filling) (number : ℕ) (node : NodeId) (stamp : Stamp) (blocks inodes : Roomy ℕ) where
  abbrev begins : Event Label
  begins = Told core (label.Began filling number node stamp blocks inodes)

  pub began_low : (log : List (Event Label)) (past : BoxPast) → MayFrom layout before log past → IsOneOf log begins
      → filling.job.place.slot < slot_count filling.job.place.layout
  began_low [] past may among = absurd among
  began_low (event ∷ log) past may (inl same) =
      let rule = (subst (λ e. MayEvent layout before e past) same may.0).1 in
      subst (λ (l : Layout). filling.job.place.slot < slot_count l) (sym (ap (λ (p : Place). p.layout) rule.place)) rule.within
  began_low (event ∷ log) past may (inr among) = began_low log (after_event layout event past) may.1 among

module _ (named : Numbered) where
  -- a job of the transaction of what an fsync brings writes its plan
  begins_as : (one : Bringing) (job : Job) (numbers : GrantedNumbers) → job.place.slot < slot_count job.place.layout → IsJobBrought one job numbers
      → BeginsAs one job numbers
  begins_as one job numbers low brought = record {
    writes = record {
      slot = low;
      entries = brought.entries ∙ ap (map record_entry) brought.is.records;
      fresh = brought.fresh ∙ ap (map block_of) brought.is.fresh;
    };
    frees = record { tx = brought.tx; is = brought.is; inodes = brought.inodes; blocks = brought.blocks };
  }

  -- what a label fits, but that a commit begins in a slot of the disk's
  abbrev FitsBut : Label → Type 0
  FitsBut (label.Reserved number seen grant) = ReservedAs named number seen.items grant
  FitsBut (label.Began filling number node stamp blocks inodes) =
      IsJobBrought (bringing_of named number) filling.job (record { inodes = inodes.items; blocks = blocks.items })
  FitsBut (label.Empty number cut opened durable) = IsEmptyAs (bringing_of named number)
  FitsBut _ = Unit {0}

  step_fits : (fact : Label) → IsOfStep fact → FitsBut fact
  step_fits (label.Filled slot piece done) step = tt
  step_fits (label.Synced now) step = tt
  step_fits (label.Opened slot done cut opened) step = tt
  step_fits (label.Settled slot turn) step = tt
  step_fits (label.Placed slot n done) step = tt
  step_fits (label.Shut slot done) step = tt
  step_fits (label.Idled slot) step = tt
  step_fits label.Took step = tt
  step_fits label.Gave step = tt
  step_fits (label.Noted turn) step = tt
  step_fits (label.Reserved number seen grant) step = absurd step
  step_fits (label.Returned number) step = tt
  step_fits (label.Began filling number node stamp blocks inodes) step = absurd step
  step_fits (label.Learned turn) step = tt
  step_fits (label.Empty number cut opened durable) step = absurd step

  steps_fit : (facts : List Label) → AreSteps facts → (fact : Label) → IsOneOf facts fact → FitsBut fact
  steps_fit [] steps fact among = absurd among
  steps_fit (one ∷ facts) steps fact (inl same) = subst FitsBut same (step_fits one steps.0)
  steps_fit (one ∷ facts) steps fact (inr among) = steps_fit facts steps.1 fact among

  noted_fit : (turns : List Turn) (fact : Label) → IsOneOf (map (λ turn. label.Noted turn) turns) fact → FitsBut fact
  noted_fit [] fact among = absurd among
  noted_fit (turn ∷ turns) fact (inl same) = subst FitsBut same tt
  noted_fit (turn ∷ turns) fact (inr among) = noted_fit turns fact among

  fits_one : (one fact : Label) → FitsBut one → IsOneOf (one ∷ []) fact → FitsBut fact
  fits_one one fact fits (inl same) = subst FitsBut same fits
  fits_one one fact fits (inr among) = absurd among

  turn_fits : (stamps : ℕ → ℕ) (core : ℕ) (told : OwnTold) (one : BoxTurn) → TellsTurn stamps core told one → TurnFits named one → (fact : Label)
      → IsOneOf (labels_in one) fact → FitsBut fact
  turn_fits stamps core told (turn_works facts) tells fits fact among = steps_fit facts (works_steps facts tells.is) fact among
  turn_fits stamps core told (turn_refuses turn) tells fits fact among = noted_fit (turn ∷ []) fact among
  turn_fits stamps core told (turn_reserves number seen grant turn) tells fits fact (inl same) = subst FitsBut same fits
  turn_fits stamps core told (turn_reserves number seen grant turn) tells fits fact (inr among) = noted_fit (turn ∷ []) fact among
  turn_fits stamps core told (turn_returns number turn) tells fits fact (inl same) = subst FitsBut same tt
  turn_fits stamps core told (turn_returns number turn) tells fits fact (inr among) = noted_fit (turn ∷ []) fact among
  turn_fits stamps core told (turn_empties number seen cut opened durable) tells fits fact (inl same) = subst FitsBut same fits.0
  turn_fits stamps core told (turn_empties number seen cut opened durable) tells fits fact (inr among) =
      fits_one (label.Empty number cut opened durable) fact fits.1 among
  turn_fits stamps core told (turn_begins filling number node stamp blocks inodes) tells fits fact among =
      fits_one (label.Began filling number node stamp blocks inodes) fact fits among
  turn_fits stamps core told (turn_opens slot done cut opened) tells fits fact among = fits_one (label.Opened slot done cut opened) fact tt among
  turn_fits stamps core told (turn_lands turn) tells fits fact among = fits_one (label.Learned turn) fact tt among
  turn_fits stamps core told (turn_fails facts cut fail) tells fits fact among =
      elim (in_either facts (label.Noted cut ∷ label.Noted fail ∷ []) fact among) [
        | inl step ↦ steps_fit facts (works_steps facts tells.is.0) fact step
        | inr turn ↦ noted_fit (cut ∷ fail ∷ []) fact turn
      ]
  turn_fits stamps core told (turn_fails_begun facts fail) tells fits fact among = elim (in_either facts (label.Noted fail ∷ []) fact among) [
    | inl step ↦ steps_fit facts (flights_steps core tells.number tells.flush facts tells.is.0) fact step
    | inr turn ↦ noted_fit (fail ∷ []) fact turn
  ]

  -- a label of one turn at the box
  box_fits : (stamps : ℕ → ℕ) (core : ℕ) (told : OwnTold) (one : BoxTurn) → TellsTurn stamps core told one → TurnFits named one → (fact : Label)
      → IsOneOf (at_box core (labels_in one)) (Told (record { 0 = core }) fact) → FitsBut fact
  box_fits stamps core told one tells fits fact among =
      let was = from_map (Told (record { 0 = core })) (label.Took ∷ labels_in one ++ label.Gave ∷ []) (Told (record { 0 = core }) fact) among in
      let same : was.0 ≡ fact = cc was.2 in
      subst FitsBut same (by was.0 was.1)
    where
      by : (other : Label) → IsOneOf (label.Took ∷ labels_in one ++ label.Gave ∷ []) other → FitsBut other
      by other (inl is) = subst FitsBut is tt
      by other (inr there) = elim (in_either (labels_in one) (label.Gave ∷ []) other there) [
        | inl own ↦ turn_fits stamps core told one tells fits other own
        | inr gave ↦ fits_one label.Gave other tt gave
      ]

  turns_fit : (stamps : ℕ → ℕ) (core : ℕ) (told : OwnTold) (turns : List BoxTurn) → TellTurns stamps core told turns
      → ((one : BoxTurn) → IsOneOf turns one → TurnFits named one) → (fact : Label) → IsOneOf (events_in core turns) (Told (record { 0 = core }) fact)
      → FitsBut fact
  turns_fit stamps core told [] tells fits fact among = absurd among
  turns_fit stamps core told (one ∷ turns) tells fits fact among =
      elim (in_either (at_box core (labels_in one)) (events_in core turns) (Told (record { 0 = core }) fact) among) [
        | inl here ↦ box_fits stamps core told one tells.0 (fits one (inl refl)) fact here
        | inr there ↦
            turns_fit stamps core (own_from (at_box core (labels_in one)) told) turns tells.1 (λ other more. fits other (inr more)) fact there
      ]

  -- an event that fits so in a history that may be told
  event_fits : (layout : Layout) (before : ℕ) (log : List (Event Label)) (past : BoxPast) → MayFrom layout before log past → (core : CoreId) (fact : Label)
      → IsOneOf log (Told core fact) → FitsBut fact → FitsBringing named (Told core fact)
  event_fits layout before log past may core (label.Began filling number node stamp blocks inodes) among fits =
      begins_as (bringing_of named number) filling.job (record { inodes = inodes.items; blocks = blocks.items })
      (began_low layout before core filling number node stamp blocks inodes log past may among) fits
  event_fits layout before log past may core (label.Reserved number seen grant) among fits = fits
  event_fits layout before log past may core (label.Empty number cut opened durable) among fits = fits
  event_fits layout before log past may core label.Took among fits = tt
  event_fits layout before log past may core label.Gave among fits = tt
  event_fits layout before log past may core (label.Noted turn) among fits = tt
  event_fits layout before log past may core (label.Returned number) among fits = tt
  event_fits layout before log past may core (label.Filled slot piece done) among fits = tt
  event_fits layout before log past may core (label.Synced now) among fits = tt
  event_fits layout before log past may core (label.Opened slot done cut opened) among fits = tt
  event_fits layout before log past may core (label.Settled slot turn) among fits = tt
  event_fits layout before log past may core (label.Learned turn) among fits = tt
  event_fits layout before log past may core (label.Placed slot n done) among fits = tt
  event_fits layout before log past may core (label.Shut slot done) among fits = tt
  event_fits layout before log past may core (label.Idled slot) among fits = tt

pub pens_tell_labels : PensTellLabels
pens_tell_labels named told pens = record {
  along = pens.along;
  stand = pens_stand_beside named.stamps told.log pens.pens;
  fit = λ event among. fit event among;
}
  where
    fit : (event : Event Label) → IsOneOf told.log event → FitsBringing named event
    fit (Called entry) among = tt
    fit (Told core fact) among =
        let own = to_filter (λ e. nat_eq (event_core e) core.0) told.log (Told core fact) among (same_number core.0) in
        event_fits named told.layout told.before told.log (first_past told.moment) pens.along.may core fact among
        (turns_fit named named.stamps core.0 nothing_told (pens.pens core.0).turns (pens.pens core.0).tells (pens.fit core.0) fact
        (subst (λ l. IsOneOf l (Told core fact)) (pens.pens core.0).mine_is own))

pub pens_have_turns : PensHaveTurns
pens_have_turns stamps core log fsyncs pen rests same = record {
  rests = rests;
  told = ap (λ l. (own_from l nothing_told).told) pen.mine_is ∙ (pens_tell_turns core pen.turns ∙ same);
}

pub pens_begin_well : PensBeginWell
pens_begin_well start entries named told beside =
    commits_begin_well start entries named told
    (record { is = pens_tell_labels named told beside.pens; begins = beside.begins; tell = beside.tell })
