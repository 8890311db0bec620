-- Which fsyncs became durable by the end of a mount, and of which one each told commit is.
use Rattle.std.proofs.Common.{◌≡◌, ◌∷◌, ◌<◌, ◌∙◌, List, filter_map, [], inr, inl, refl, ap, Option, None, Some, ℕ, length, slice_get, arith, nat_eq, subst, flat_map, sym}
use Rattle.std.proofs.lemmas.Option.{slice_get_cases}
use Rattle.sfs_base.proofs.BasicNumbers.{same_number, not_same}
use Rattle.space_map.specs.Space.{GrantedNumbers}
use Rattle.tree_laws.specs.declared.turns.Turn.{Turn}
use Rattle.tree_laws.specs.declared.turns.TurnAct.TheVariants as act
use Rattle.disk_nodes.specs.OldKept.{OldKept}
use Rattle.disk_change.specs.AllBuilt.{after_commit}
use Rattle.disk_change.specs.Directory.{is_among}
use Rattle.disk_change.specs.Planned.{Planned}
use Rattle.commit_laws.specs.CommitOfPlan.{change_planned}
use Rattle.cut_laws.specs.Rules.{IsOneOf}
use Rattle.cut_laws.specs.Closure.{Flush}
use Rattle.cut_laws.proofs.Basics.{below_or, filter_none}
use Rattle.cut_laws.proofs.Listed.{to_filter}
use Rattle.cut_laws.proofs.RunFacts.{in_filter}
use Rattle.dep_closure.proofs.Looked.{to_flat}
use Rattle.merge_laws.specs.Pens.{turns_of_core}
use Rattle.merge_laws.proofs.Lists.{in_part}
use Rattle.book_laws.specs.Pairs.{commit_under, bringing_under}
use Rattle.reserve_laws.specs.Olds.{IsKeptIn}
use Rattle.stamp_table.specs.Rule.{entries_by}
use Rattle.stamp_table.specs.declared.event.Event.{Event}
use Rattle.stamp_table.specs.Events.{event_core}
use Rattle.stamp_table.specs.declared.event.Event.TheVariants.{Called, Told}
use Rattle.mem_values.specs.declared.fact.Fact.{Fact}
use Rattle.mem_values.specs.Account.{Commitment, commit_told, account_of}
use Rattle.mem_values.specs.declared.fact.Fact.TheVariants.{Trimmed, Committed}
use Rattle.mem_values.proofs.Told.{own_commit}
use Rattle.note_laws.specs.Run.{TellsCommit}
use Rattle.made_laws.specs.Tells.{IsMadeCommit}
use Rattle.slot_laws.specs.Telling.{turns_in, events_in, BoxTurn, turns_told, labels_in}
use Rattle.slot_laws.specs.Labels.{own_from, nothing_told}
use Rattle.slot_laws.specs.declared.label.Label.{Label}
use Rattle.slot_laws.proofs.Lawful.{pens_make_the_record}
use Rattle.slot_laws.proofs.Telling.{pens_tell_turns}
use Rattle.close_laws.specs.Maps.{Numbered, past_of}
use Rattle.flush_agrees.specs.Agreement.{FlushTold, IsDurableFsync, turns_of}
use Rattle.flush_agrees.specs.Made.{FlushMade, LeavesOfNode}
use Rattle.flush_agrees.specs.Closing.{ToldAtEnd}
use Rattle.end_laws.specs.Mount.{MountEnd, IsFsyncAt, run_at, MountEnds, AreNamedAlong}
use Rattle.end_laws.specs.Laws.{PensToldAt}
use Rattle.end_laws.proofs.Told.{named_pens_tell}

-- a commit that a log tells is told by an event of its core
told_event : (log : List (Event Fact)) (told : Commitment) → IsOneOf (filter_map commit_told log) told
    → (event : Event Fact) × IsOneOf log event × (event_core event ≡ told.core)
told_event [] told among = absurd among
told_event (Called entry ∷ log) told among = let r = told_event log told among in (r.0, inr r.1, r.2)
told_event (Told by (Trimmed number part) ∷ log) told among = let r = told_event log told among in (r.0, inr r.1, r.2)
told_event (Told by (Committed number node stamp members held) ∷ log) told among = elim among [
  | inl here ↦ (Told by (Committed number node stamp members held), inl refl, ap (λ (c : Commitment). c.core) here)
  | inr there ↦ let r = told_event log told there in (r.0, inr r.1, r.2)
]

-- the fsyncs of a core that may have some
abbrev fsyncs_by : Option (List FlushTold) → List FlushTold
fsyncs_by None = []
fsyncs_by (Some fsyncs) = fsyncs

-- The fsync with a stamp became durable: it has told a commit of what was made for it.
pub record LandedAt (at : MountEnd) (stamp : ℕ) : Type 0 where
  pub one : FlushTold
  pub there : IsFsyncAt at one
  pub stamp_is : one.flush.stamp ≡ stamp
  pub made : FlushMade
  pub is : one.made ≡ Some made
  pub told : Commitment
  pub tells : ToldAtEnd (run_at at) made told

-- A told commit is that of an fsync, which became durable.
pub record ToldBy (at : MountEnd) (told : Commitment) : Type 0 where
  pub one : FlushTold
  pub there : IsFsyncAt at one
  pub landed : IsDurableFsync one
  pub made : FlushMade
  pub is : one.made ≡ Some made
  pub tells : ToldAtEnd (run_at at) made told

module _ (D : Type 0) (at : MountEnd) (named : Numbered) (ends : MountEnds D at) (are : AreNamedAlong at named) where
  pub pens : PensToldAt at named
  pens = named_pens_tell D at named ends are

  -- the fsyncs of a core that has events
  pub has_fsyncs : (core : ℕ) → core < length at.fsyncs → (fsyncs : List FlushTold) × (slice_get at.fsyncs core ≡ Some fsyncs)
  has_fsyncs core low = elim (slice_get_cases at.fsyncs core).1 [
    | inl within ↦ (within.0, within.2)
    | inr past ↦ absurd (let far = past.0 in omega (arith, far, low))
  ]

  -- the record has of a core exactly its fsyncs' turns
  record_of : (core : ℕ) (fsyncs : List FlushTold) → slice_get at.fsyncs core ≡ Some fsyncs
      → turns_of_core core (past_of at.told).turns ≡ turns_in (turns_of fsyncs)
  record_of core fsyncs there =
      pens_make_the_record at.told.layout at.told.before at.told.log core at.told.moment ends.along.may (ends.rests core)
      ∙ (ap (λ l. (own_from l nothing_told).told) ((pens.pens.pens core).mine_is ∙ ap (events_in core) (pens.turns core fsyncs there))
      ∙ pens_tell_turns core (turns_of fsyncs))

  -- of a core beyond them it has none
  turn_core : (turn : Turn) → IsOneOf (past_of at.told).turns turn → turn.core.0 < length at.fsyncs
  turn_core turn among = elim (below_or turn.core.0 (length at.fsyncs)) [
    | inl low ↦ low
    | inr far ↦
        let none : entries_by event_core turn.core.0 at.told.log ≡ [] =
        filter_none (λ (event : Event Label). nat_eq (event_core event) turn.core.0) at.told.log (λ event one.
        let low = ends.own event one in
        not_same (event_core event) turn.core.0 (λ same. absurd (omega (arith, low, far, same))))
        in
        absurd (subst (λ l. IsOneOf l turn)
        (pens_make_the_record at.told.layout at.told.before at.told.log turn.core.0 at.told.moment ends.along.may (ends.rests turn.core.0)
        ∙ ap (λ l. (own_from l nothing_told).told) none)
        (to_filter (λ (t : Turn). nat_eq t.core.0 turn.core.0) (past_of at.told).turns turn among (same_number turn.core.0)))
  ]

  -- a turn of the record is one of an fsync's, and those of an fsync are the record's
  pub record TurnOf (turn : Turn) : Type 0 where
    pub one : FlushTold
    pub there : IsFsyncAt at one
    pub among : IsOneOf (turns_in one.turns) turn

  pub turn_of : (turn : Turn) → IsOneOf (past_of at.told).turns turn → TurnOf turn
  turn_of turn among =
      let has = has_fsyncs turn.core.0 (turn_core turn among) in
      let own =
      subst (λ l. IsOneOf l turn) (record_of turn.core.0 has.0 has.1)
      (to_filter (λ (t : Turn). nat_eq t.core.0 turn.core.0) (past_of at.told).turns turn among (same_number turn.core.0)) in
      let told = in_part (λ (one : BoxTurn). flat_map turns_told (labels_in one)) (turns_of has.0) turn own in
      let from = in_part (λ (one : FlushTold). one.turns) has.0 told.x told.among in
      record {
        one = from.x;
        there = record { core = turn.core.0; fsyncs = has.0; there = has.1; among = from.among };
        among = to_flat (λ (one : BoxTurn). flat_map turns_told (labels_in one)) from.x.turns told.x turn from.has told.has;
      }

  pub turn_there : (one : FlushTold) → IsFsyncAt at one → (turn : Turn) → IsOneOf (turns_in one.turns) turn → IsOneOf (past_of at.told).turns turn
  turn_there one there turn among =
      let told = in_part (λ (one : BoxTurn). flat_map turns_told (labels_in one)) one.turns turn among in
      let all =
      to_flat (λ (one : BoxTurn). flat_map turns_told (labels_in one)) (turns_of there.fsyncs) told.x turn
      (to_flat (λ (one : FlushTold). one.turns) there.fsyncs one told.x there.among told.among) told.has in
      (in_filter (λ (t : Turn). nat_eq t.core.0 there.core) (past_of at.told).turns turn
      (subst (λ l. IsOneOf l turn) (sym (record_of there.core there.fsyncs there.there)) all)).0

  -- whose turn it is says its stamp
  pub own_stamp : (one : FlushTold) (there : IsFsyncAt at one) (turn : Turn) → IsOneOf (turns_in one.turns) turn → turn.stamp.0 ≡ one.flush.stamp
  own_stamp one there turn among =
      ap (λ (f : Flush). f.stamp) ((ends.each there.core there.fsyncs there.there).agree.of_flush one turn there.among among)

  -- a turn that made a commit durable is that of an fsync that has told one
  pub landed_at : (turn : Turn) → IsOneOf (past_of at.told).turns turn → turn.act ≡ act.Durable → LandedAt at turn.stamp.0
  landed_at turn among durable =
      let of_one = turn_of turn among in
      let there = of_one.there in
      let landed = (ends.each there.core there.fsyncs there.there).agree.landed of_one.one turn there.among of_one.among durable in
      record {
        one = of_one.one;
        there = there;
        stamp_is = sym (own_stamp of_one.one there turn of_one.among);
        made = landed.made;
        is = landed.is;
        told = landed.told;
        tells = landed.tells;
      }

  -- each told commit is that of an fsync that became durable
  pub told_by : (told : Commitment) → IsOneOf (account_of at.logs.log).commits told → ToldBy at told
  told_by told among =
      let event = told_event at.logs.log told among in
      let low = subst (λ n. n < length at.fsyncs) event.2 (ends.owned event.0 event.1) in
      let has = has_fsyncs told.core low in
      let core = ends.each told.core has.0 has.1 in
      let own =
      subst (λ l. IsOneOf (filter_map commit_told l) told) (sym core.mine) (own_commit at.logs.log told.core told among refl)
      in
      let end = core.agree.told told own in
      record {
        one = end.one;
        there = record { core = told.core; fsyncs = has.0; there = has.1; among = end.among };
        landed = end.landed;
        made = end.made;
        is = end.is;
        tells = end.tells;
      }

  -- the number of what was made has the stamp of its fsync, and is that of its pair
  pub pair_number : (one : FlushTold) (there : IsFsyncAt at one) (made : FlushMade) → one.made ≡ Some made
      → (commit_under named.pairs one.flush.stamp).number ≡ made.number
  pair_number one there made is = (are.pair one made there is).commit.number_is

  -- what an fsync told is its pair's commit
  pub tells_pair : (one : FlushTold) (there : IsFsyncAt at one) (made : FlushMade) → one.made ≡ Some made → (told : Commitment)
      → ToldAtEnd (run_at at) made told → TellsCommit (run_at at) (commit_under named.pairs one.flush.stamp) told
  tells_pair one there made is told tells = (are.pair one made there is).tells told tells

  -- so it is made
  pub pair_made : (one : FlushTold) (there : IsFsyncAt at one) (made : FlushMade) → one.made ≡ Some made
      → IsMadeCommit (run_at at) (commit_under named.pairs one.flush.stamp)
  pair_made one there made is = (are.pair one made there is).made_so

  -- and the pair brings its change, of the nodes that it concerns
  pub pair_keeps : (one : FlushTold) (there : IsFsyncAt at one) (made : FlushMade) → one.made ≡ Some made → (node : ℕ) (kept : Option OldKept)
      → LeavesOfNode made node kept
      → IsKeptIn (after_commit (change_planned (bringing_under named.pairs one.flush.stamp).plan) (bringing_under named.pairs one.flush.stamp).grant) node kept
  pair_keeps one there made is node kept leaves =
      let brings = (are.pair one made there is).brings in
      subst (λ (z : Planned × GrantedNumbers). IsKeptIn (after_commit z.0 z.1) node kept) (λ i. (sym brings.change i, sym brings.grant i)) leaves

  pub pair_nodes : (one : FlushTold) (there : IsFsyncAt at one) (made : FlushMade) → one.made ≡ Some made → (node : ℕ)
      → is_among (bringing_under named.pairs one.flush.stamp).nodes node ≡ (commit_under named.pairs one.flush.stamp).holds node
  pair_nodes one there made is node =
      let pair = are.pair one made there is in pair.brings.nodes node ∙ sym (pair.commit.holds node)
