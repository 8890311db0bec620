-- Each turn of a mount's record has the number of its fsync's pair, and is of its core.
-- how the acts of an fsync begin, by its way: it reserves, it begins a commit, or its only turn is a refusal
use Rattle.dep_closure.proofs.Looked.{to_flat}
use Rattle.std.proofs.Common.{◌≡◌, ◌∷◌, ◌++◌, if◌then◌else◌, ◌∙◌, ◌⊎◌, List, [], refl, ℕ, nat_eq, Bool, true, sym, ap, false, map, inl, inr, subst, flat_map, Option, None, Some, eqb-true, arith, unwrap_or, option_map}
use Rattle.sfs_base.specs.declared.numbers.Stamp.{Stamp}
use Rattle.sfs_base.specs.declared.numbers.CoreId.{CoreId}
use Rattle.sfs_base.proofs.BasicNumbers.{same_number}
use Rattle.tree_laws.specs.declared.turns.TurnAct.{TurnAct}
use Rattle.tree_laws.specs.declared.turns.TurnAct.TheVariants as act
use Rattle.tree_laws.specs.declared.turns.Turn.{Turn}
use Rattle.tree_laws.specs.declared.history.Entry.{Entry}
use Rattle.cut_laws.specs.Rules.{IsOneOf}
use Rattle.cut_laws.proofs.Listed.{to_filter}
use Rattle.cut_laws.proofs.RunFacts.{in_filter}
use Rattle.cut_laws.proofs.Entries.{entries_may_come}
use Rattle.turn_laws.specs.Ways.{Way, no_turn, lacked, returned, committed, at_once, doubted, opened_doubted, halted, granted_halted, begun_halted, opened_halted, acts_of_way, own_turns, HasCommit, GoesWay}
use Rattle.turn_laws.specs.Recorded.{IsOfFsync}
use Rattle.turn_laws.specs.Books.{flush_at}
use Rattle.merge_laws.specs.Plays.{PensMerge}
use Rattle.merge_laws.specs.Phases.{phase_of, no_turn_yet, phase_after}
use Rattle.merge_laws.proofs.Lists.{nothing_there, heads_are, in_part}
use Rattle.book_laws.specs.Pairs.{commit_under, bringing_under}
use Rattle.mem_values.specs.Start.{FileHand}
use Rattle.slot_laws.specs.Telling.{BoxTurn, labels_in, turns_told}
use Rattle.slot_laws.specs.Labels.{nothing_told}
use Rattle.disk_box.specs.Pens.{PenHand}
use Rattle.close_laws.specs.Maps.{Numbered, past_of}
use Rattle.flush_agrees.specs.Agreement.{FlushTold, turns_of}
use Rattle.flush_agrees.specs.Closing.{AgreeAtEnd}
use Rattle.flush_agrees.specs.Made.{FlushMade, TurnIsOf}
use Rattle.end_laws.specs.Mount.{MountEnd, MountEnds, AreNamedAlong, IsFsyncAt}
use Rattle.end_laws.proofs.Landed.{TurnOf, own_stamp, turn_of, pair_number}
use Rattle.end_laws.specs.Recorded.{core_at}
use Rattle.end_laws.proofs.Refused.{IsRefused, number_of, told_for, refused_commit}
use Rattle.end_laws.proofs.Turns.{granted_behind, begins_first}
use Rattle.end_laws.proofs.LacksReserved.{own_number, number_up}

data WayStarts (acts : List TurnAct) : Type 0 where
  starts_none : acts ≡ [] → WayStarts acts
  starts_granted : (rest : List TurnAct) → acts ≡ act.Granted ∷ rest → WayStarts acts
  starts_cut : (rest : List TurnAct) → acts ≡ act.CutAt ∷ rest → WayStarts acts
  starts_refused : (did : TurnAct) → IsRefused did → acts ≡ did ∷ [] → WayStarts acts

way_starts : (way : Way) → WayStarts (acts_of_way way)
way_starts no_turn = starts_none refl
way_starts (lacked kind need free) = starts_refused (act.Short kind need free) tt refl
way_starts returned = starts_granted _ refl
way_starts committed = starts_granted _ refl
way_starts at_once = starts_cut _ refl
way_starts doubted = starts_granted _ refl
way_starts opened_doubted = starts_granted _ refl
way_starts (halted faults) = starts_refused act.Halted tt refl
way_starts (granted_halted faults) = starts_granted _ refl
way_starts (begun_halted faults) = starts_granted _ refl
way_starts (opened_halted faults) = starts_granted _ refl

-- the first turn of an fsync stands behind turns of others
pub record FirstOwn (stamp : ℕ) (turns : List Turn) (own : Turn) : Type 0 where
  pub front : List Turn
  pub back : List Turn
  pub whole : turns ≡ front ++ own ∷ back
  pub none : own_turns stamp front ≡ []

first_own : (stamp : ℕ) (turns : List Turn) (own : Turn) (rest : List Turn) → own_turns stamp turns ≡ own ∷ rest → FirstOwn stamp turns own
first_own stamp [] own rest e = absurd (nothing_there [] own rest e)
first_own stamp (turn ∷ turns) own rest e = by (nat_eq turn.stamp.0 stamp) refl (λ later. first_own stamp turns own rest later)
  where
    by : (b : Bool) → nat_eq turn.stamp.0 stamp ≡ b → (own_turns stamp turns ≡ own ∷ rest → FirstOwn stamp turns own) → FirstOwn stamp (turn ∷ turns) own
    by true is more =
        let same = heads_are turn own (own_turns stamp turns) rest (sym (ap (λ b. if b then turn ∷ own_turns stamp turns else own_turns stamp turns) is) ∙ e) in
        record { front = []; back = turns; whole = ap (λ t. t ∷ turns) same.0; none = refl }
    by false is more =
        let later = more (sym (ap (λ b. if b then turn ∷ own_turns stamp turns else own_turns stamp turns) is) ∙ e) in
        record {
          front = turn ∷ later.front;
          back = later.back;
          whole = ap (λ l. turn ∷ l) later.whole;
          none = ap (λ b. if b then turn ∷ own_turns stamp later.front else own_turns stamp later.front) is ∙ later.none;
        }

-- the act of the head of some turns
head_act : (turns : List Turn) (did : TurnAct) (rest : List TurnAct) → map (λ (t : Turn). t.act) turns ≡ did ∷ rest
    → (own : Turn) × (others : List Turn) × (turns ≡ own ∷ others) × (own.act ≡ did)
head_act [] did rest e = absurd (cc e)
head_act (own ∷ others) did rest e = (own, others, refl, cc e)

no_turns_there : (turns : List Turn) → map (λ (t : Turn). t.act) turns ≡ [] → turns ≡ []
no_turns_there [] e = refl
no_turns_there (own ∷ others) e = absurd (cc e)

only_one : (turns : List Turn) (did : TurnAct) → map (λ (t : Turn). t.act) turns ≡ did ∷ [] → (turn : Turn) → IsOneOf turns turn → turn.act ≡ did
only_one [] did e turn among = absurd among
only_one (own ∷ []) did e turn (inl same) = ap (λ (t : Turn). t.act) (sym same) ∙ cc e
only_one (own ∷ []) did e turn (inr never) = absurd never
only_one (own ∷ other ∷ others) did e turn among = absurd (cc e)

by_number : (did : TurnAct) (number other commit : ℕ) → number ≡ other → HasCommit number did commit → HasCommit other did commit
by_number did number other commit same has = subst (λ n. HasCommit n did commit) same has

refused_has : (did : TurnAct) (number commit : ℕ) → IsRefused did → (commit ≡ number) ⊎ (commit ≡ 0) → HasCommit number did commit
refused_has (act.Short kind need free) number commit refused is = is
refused_has act.Halted number commit refused is = is
refused_has act.Granted number commit refused is = absurd refused
refused_has act.GivenBack number commit refused is = absurd refused
refused_has act.CutAt number commit refused is = absurd refused
refused_has act.Opened number commit refused is = absurd refused
refused_has act.Durable number commit refused is = absurd refused
refused_has act.Fail number commit refused is = absurd refused

granted_has : (did : TurnAct) (number commit : ℕ) → did ≡ act.Granted → HasCommit number did commit → (commit ≡ number) ⊎ (commit ≡ 0)
granted_has did number commit is has = subst (λ a. HasCommit number a commit) is has

cut_has : (did : TurnAct) (number commit : ℕ) → did ≡ act.CutAt → HasCommit number did commit → commit ≡ number
cut_has did number commit is has = subst (λ a. HasCommit number a commit) is has

module _ (D : Type 0) (at : MountEnd) (named : Numbered) (ends : MountEnds D at) (are : AreNamedAlong at named)
    (merge : PensMerge at.start.first at.start.history (past_of at.told).turns) where
  abbrev turns : List Turn
  turns = (past_of at.told).turns

  abbrev number_at : ℕ → ℕ
  number_at stamp = (commit_under named.pairs stamp).number

  -- a turn that is refused
  refused_number : (turn : Turn) → IsOneOf turns turn → IsRefused turn.act → (turn.commit ≡ number_at turn.stamp.0) ⊎ (turn.commit ≡ 0)
  refused_number turn among refused = by of_one.one.made refl
    where
      of_one : TurnOf D at named ends are turn
      of_one = turn_of D at named ends are turn among

      there : IsFsyncAt at of_one.one
      there = of_one.there

      stamp_is : turn.stamp.0 ≡ of_one.one.flush.stamp
      stamp_is = own_stamp D at named ends are of_one.one there turn of_one.among

      commit_is : turn.commit ≡ number_of of_one.one.made
      commit_is =
          let told = in_part (λ (one : BoxTurn). flat_map turns_told (labels_in one)) of_one.one.turns turn of_one.among in
          let core = ends.each there.core there.fsyncs there.there in
          let in_all = to_flat (λ (one : FlushTold). one.turns) there.fsyncs of_one.one told.x there.among told.among in
          let tells = told_for named.stamps core.hand.view.core nothing_told (turns_of there.fsyncs)
          (core.agree.tells named.stamps (λ one made own is. are.stamps one made (record {
            core = there.core;
            fsyncs = there.fsyncs;
            there = there.there;
            among = own;
          }) is)) told.x in_all in
          refused_commit core.hand.view.core tells.0 tells.1 turn refused of_one.one.made told.x tells.2
          (is_of core.agree of_one.one.made refl told.x told.among) told.has
        where
          is_of : {hand : FileHand} {pen : PenHand D} → AgreeAtEnd at.t hand pen there.fsyncs at.logs → (o : Option FlushMade) → of_one.one.made ≡ o
              → (one : BoxTurn) → IsOneOf of_one.one.turns one → TurnIsOf o one
          is_of agree None is one own = agree.unnumbered of_one.one there.among is one own
          is_of agree (Some made) is one own = (agree.made of_one.one made there.among is).turns one own

      by : (o : Option FlushMade) → of_one.one.made ≡ o → (turn.commit ≡ number_at turn.stamp.0) ⊎ (turn.commit ≡ 0)
      by None is = inr (commit_is ∙ ap number_of is)
      by (Some made) is =
          inl (commit_is ∙ (ap number_of is
          ∙ (sym (pair_number D at named ends are of_one.one there made is) ∙ ap number_at (sym stamp_is))))

  pub commit_has : (turn : Turn) → IsOneOf turns turn → HasCommit (number_at turn.stamp.0) turn.act turn.commit
  commit_has turn among = by (way_starts way.way)
    where
      its : IsOfFsync at.start.first at.start.history turn
      its = merge.each turn among

      way : GoesWay (own_turns its.entry.stamp.0 turns) its.entry.reply
      way = merge.goes its.entry turn.node its.fsync

      stamp_is : turn.stamp.0 ≡ its.entry.stamp.0
      stamp_is = ap (λ (s : Stamp). s.0) its.stamp

      own_there : IsOneOf (own_turns its.entry.stamp.0 turns) turn
      own_there =
          to_filter (λ (t : Turn). nat_eq t.stamp.0 its.entry.stamp.0) turns turn among
          (subst (λ n. nat_eq turn.stamp.0 n ≡ true) stamp_is (same_number turn.stamp.0))

      -- the stamp of the first one
      head_stamp : (own : Turn) (others : List Turn) → own_turns its.entry.stamp.0 turns ≡ own ∷ others → own.stamp.0 ≡ its.entry.stamp.0
      head_stamp own others e =
          eqb-true own.stamp.0 its.entry.stamp.0
          (in_filter (λ (t : Turn). nat_eq t.stamp.0 its.entry.stamp.0) turns own (subst (λ l. IsOneOf l own) (sym e) (inl refl))).1

      head_commit : (own : Turn) (others : List Turn) → own_turns its.entry.stamp.0 turns ≡ own ∷ others → HasCommit way.number own.act own.commit
      head_commit own others e = way.commits own (subst (λ l. IsOneOf l own) (sym e) (inl refl))

      with_way : way.number ≡ number_at its.entry.stamp.0 → HasCommit (number_at turn.stamp.0) turn.act turn.commit
      with_way same =
          by_number turn.act way.number (number_at turn.stamp.0) turn.commit (same ∙ ap number_at (sym stamp_is)) (way.commits turn own_there)

      by : WayStarts (acts_of_way way.way) → HasCommit (number_at turn.stamp.0) turn.act turn.commit
      by (starts_none e) =
          absurd (subst (λ l. IsOneOf l turn) (no_turns_there (own_turns its.entry.stamp.0 turns) (way.acts ∙ e)) own_there)
      by (starts_refused did refused e) =
          let is = only_one (own_turns its.entry.stamp.0 turns) did (way.acts ∙ e) turn own_there in
          let so = subst IsRefused (sym is) refused in
          refused_has turn.act (number_at turn.stamp.0) turn.commit so (refused_number turn among so)
      by (starts_granted rest e) =
          let head = head_act (own_turns its.entry.stamp.0 turns) act.Granted rest (way.acts ∙ e) in
          let first = first_own its.entry.stamp.0 turns head.0 head.1 head.2 in
          let behind = granted_behind D at named ends are merge first.front head.0 first.back first.whole head.3 in
          let number_is : head.0.commit ≡ number_at its.entry.stamp.0 =
          behind.commit_is
          ∙ (sym (own_number D at named ends are first.front head.0 behind.behind) ∙ ap number_at (head_stamp head.0 head.1 head.2)) in
          elim (granted_has head.0.act way.number head.0.commit head.3 (head_commit head.0 head.1 head.2)) [
            | inl same ↦ with_way (sym same ∙ number_is)
            | inr none ↦ absurd (
                let up = number_up D at named ends are first.front head.0 behind.behind in
                let own = behind.commit_is in omega (arith, up, own, none))
          ]
      by (starts_cut rest e) =
          let head = head_act (own_turns its.entry.stamp.0 turns) act.CutAt rest (way.acts ∙ e) in
          let first = first_own its.entry.stamp.0 turns head.0 head.1 head.2 in
          let stamp_same = head_stamp head.0 head.1 head.2 in
          let phase_is : phase_of head.0.stamp.0 first.front ≡ no_turn_yet =
          ap (λ n. phase_of n first.front) stamp_same ∙ ap (λ (l : List Turn). phase_after no_turn_yet (map (λ (t : Turn). t.act) l)) first.none in
          let begins = begins_first D at named ends are merge first.front head.0 first.back first.whole head.3 phase_is in
          with_way (sym (cut_has head.0.act way.number head.0.commit head.3 (head_commit head.0 head.1 head.2))
          ∙ (begins.commit_is
          ∙ (sym (own_number D at named ends are first.front head.0 begins.behind) ∙ ap number_at stamp_same)))

  -- whose core a turn is of
  pub core_has : (turn : Turn) → IsOneOf turns turn → turn.core.0 ≡ core_at at.start.history turn.stamp.0
  core_has turn among =
      let its = merge.each turn among in
      let stands = (entries_may_come at.start.first at.start.history its.entry ends.begins.labels.walk.stands.between.history_is.legal
      its.fsync.among).stands in
      ap (λ (c : CoreId). c.0) its.core
      ∙ sym (ap (core_at at.start.history) (ap (λ (s : Stamp). s.0) its.stamp)
      ∙ ap (λ (o : Option Entry). unwrap_or (option_map (λ (entry : Entry). entry.core.0) o) 0) stands)

  -- and of which fsync
  pub flush_has : (turn : Turn) → IsOneOf turns turn → (bringing_under named.pairs turn.stamp.0).flush ≡ flush_at turn
  flush_has turn among =
      let of_one = turn_of D at named ends are turn among in
      let there = of_one.there in
      let stamp_is = own_stamp D at named ends are of_one.one there turn of_one.among in
      ap (λ s. (bringing_under named.pairs s).flush) stamp_is
      ∙ (are.flush of_one.one there
      ∙ sym ((ends.each there.core there.fsyncs there.there).agree.of_flush of_one.one turn there.among of_one.among))
