-- From what each pen has to what each turn of the record is of, and to the turns of each fsync.
use borrow.Author.Tests.{eqb-true}
use Rattle.std.specs.Prelude.{slice_get}
use Rattle.std.proofs.lemmas.List.{append-nil}
use Rattle.std.proofs.Common.{◌≡◌, ◌≢◌, ◌<◌, ◌++◌, ◌∙◌, ℕ, true, List, [], take, Some, inl, inr, refl, sym, ap, subst, nat_eq, arith}
use Rattle.sfs_base.specs.declared.numbers.NodeId.{NodeId}
use Rattle.sfs_base.specs.declared.numbers.CoreId.{CoreId}
use Rattle.sfs_base.specs.declared.numbers.Stamp.{Stamp}
use Rattle.sfs_base.proofs.BasicNumbers.{same_number}
use Rattle.tree_laws.specs.declared.reply.Reply.{Reply}
use Rattle.tree_laws.specs.declared.history.Entry.{Entry}
use Rattle.tree_laws.specs.declared.reply.Reply.TheVariants as reply
use Rattle.tree_laws.specs.declared.turns.Turn.{Turn}
use Rattle.tree_laws.specs.declared.turns.TurnAct.TheVariants as act
use Rattle.tree_laws.specs.History.{IsLegal}
use Rattle.tree_laws.specs.Tree.{TreeState}
use Rattle.tree_laws.proofs.Cores.{cores_stay}
use Rattle.cut_laws.specs.Rules.{IsOneOf}
use Rattle.cut_laws.proofs.RunFacts.{event_there}
use Rattle.cut_laws.proofs.Basics.{in_left}
use Rattle.cut_laws.proofs.Entries.{entries_may_come, stamps_are_once}
use Rattle.turn_laws.specs.Recorded.{IsLiveFsync, IsOfFsync}
use Rattle.turn_laws.specs.Ways.{own_turns, no_turn, GoesWay}
use Rattle.cut_laws.proofs.RunFacts.{event_there}
use Rattle.merge_laws.specs.Pens.{failed_in, turns_of_core, FsyncTurns, HasTurnsFor, AgreesAll}
use Rattle.cut_laws.proofs.Listed.{filter_again, to_filter}
use Rattle.merge_laws.proofs.Lists.{in_part}
use Rattle.merge_laws.proofs.Blocks.{pen_turns, AreStamped, has_or_lacks, none_of_pen, own_of_pen}

-- What is had of one fsync: its turns go one of the ways with its answer, its Durable tells its acknowledgement, and its stop the first failure.
pub record FsyncAgrees (turns : List Turn) (entry : Entry) : Type 0 where
  pub goes : GoesWay (own_turns entry.stamp.0 turns) entry.reply
  pub ack : (turn : Turn) → IsOneOf (own_turns entry.stamp.0 turns) turn → turn.act ≡ act.Durable → entry.ack ≡ Some turn.now
  pub stopped : (faults : ℕ) → entry.reply ≡ reply.Stopped faults → failed_in turns ≡ Some faults

-- the turns that go no way but that without turns
pub goes_without : (given : Reply) → given ≡ reply.NoMemory → GoesWay [] given
goes_without given e = record { way = no_turn; acts = refl; answered = e; number = 1; numbered = omega arith; commits = λ turn one. absurd one }

module _ (first : TreeState) (history : List Entry) (before most : ℕ) (turns : List Turn) (pens : List (List FsyncTurns)) (legal : IsLegal first history)
    (agrees : AgreesAll first history before most turns pens) where
  -- A turn of the record, in the pen of its core.
  pub record IsPenned (turn : Turn) : Type 0 where
    pub fsyncs : List FsyncTurns
    pub pen : slice_get pens turn.core.0 ≡ Some fsyncs
    pub one : FsyncTurns
    pub among : IsOneOf fsyncs one
    pub has : IsOneOf one.turns turn

  pub penned : (turn : Turn) → IsOneOf turns turn → IsPenned turn
  penned turn among =
      let pen = event_there pens turn.core.0 (agrees.merges.cores turn among) in
      let own = subst (λ (l : List Turn). IsOneOf l turn) (agrees.merges.own turn.core.0 pen.0 pen.1)
      (to_filter (λ (t : Turn). nat_eq t.core.0 turn.core.0) turns turn among (same_number turn.core.0)) in
      let part = in_part (λ (one : FsyncTurns). one.turns) pen.0 turn own in
      record { fsyncs = pen.0; pen = pen.1; one = part.x; among = part.among; has = part.has }

  pub of_fsync : (turn : Turn) → IsOneOf turns turn → IsOfFsync first history turn
  of_fsync turn among =
      let its = penned turn among in
      let has = (agrees.each turn.core.0 its.fsyncs its.pen).each its.one its.among in
      let own = has.each turn its.has in
      record {
        entry = has.entry;
        fsync = subst (IsLiveFsync first history has.entry) (sym own.node_is) has.live;
        core = own.core_is;
        stamp = own.stamp_is;
      }

  -- two turns with one stamp are of one core
  pub one_core : (turn other : Turn) → IsOneOf turns turn → IsOneOf turns other → turn.stamp.0 ≡ other.stamp.0 → turn.core.0 ≡ other.core.0
  one_core turn other among also same =
      let its = of_fsync turn among in
      let their = of_fsync other also in
      let stamps : its.entry.stamp.0 ≡ their.entry.stamp.0 =
      sym (ap (λ (s : Stamp). s.0) its.stamp) ∙ same ∙ ap (λ (s : Stamp). s.0) their.stamp in
      let entry = stamps_are_once first history its.entry their.entry legal its.fsync.among their.fsync.among stamps in
      ap (λ (c : CoreId). c.0) (its.core ∙ ap (λ (e : Entry). e.core) entry ∙ sym their.core)

  -- the turns with a stamp are those among the turns of its core
  pub own_in_core : (front back : List Turn) → turns ≡ front ++ back → (core stamp : ℕ)
      → ((turn : Turn) → IsOneOf turns turn → turn.stamp.0 ≡ stamp → turn.core.0 ≡ core)
      → own_turns stamp (turns_of_core core front) ≡ own_turns stamp front
  own_in_core front back whole core stamp cores =
      filter_again (λ (t : Turn). nat_eq t.stamp.0 stamp) (λ (t : Turn). nat_eq t.core.0 core) front
      (λ turn among has.
      subst (λ (n : ℕ). nat_eq n core ≡ true)
      (sym (cores turn (subst (λ (l : List Turn). IsOneOf l turn) (sym whole) (in_left front back turn among)) (eqb-true turn.stamp.0 stamp has)))
      (same_number core))

  -- each pen's turns have the stamps of its fsyncs
  pub stamped_pen : (core : ℕ) (fsyncs : List FsyncTurns) → slice_get pens core ≡ Some fsyncs → AreStamped fsyncs
  stamped_pen core fsyncs pen one among turn its =
      let has = (agrees.each core fsyncs pen).each one among in
      ap (λ (s : Stamp). s.0) (has.each turn its).stamp_is ∙ has.own_stamp

  -- the pen of the core of an entry
  pub pen_of : (entry : Entry) → IsOneOf history entry → (fsyncs : List FsyncTurns) × (slice_get pens entry.core.0 ≡ Some fsyncs)
  pen_of entry among =
      let may = (entries_may_come first history entry legal among).may in
      event_there pens entry.core.0
      (subst (λ (n : ℕ). entry.core.0 < n) (cores_stay first (take entry.stamp.0 history) ∙ sym agrees.cores) may.core)

  pub fsync_agrees : (entry : Entry) (node : NodeId) → IsLiveFsync first history entry node → FsyncAgrees turns entry
  fsync_agrees entry node live = elim (has_or_lacks pen.0 entry.stamp.0) [
    | inl there ↦ found there
    | inr none ↦ lacking none
  ]
    where
      pen : (fsyncs : List FsyncTurns) × (slice_get pens entry.core.0 ≡ Some fsyncs)
      pen = pen_of entry live.among

      cores : (turn : Turn) → IsOneOf turns turn → turn.stamp.0 ≡ entry.stamp.0 → turn.core.0 ≡ entry.core.0
      cores turn among same =
          let its = of_fsync turn among in
          let stamps : its.entry.stamp.0 ≡ entry.stamp.0 = sym (ap (λ (s : Stamp). s.0) its.stamp) ∙ same in
          ap (λ (c : CoreId). c.0) (its.core ∙ ap (λ (e : Entry). e.core)
          (stamps_are_once first history its.entry entry legal its.fsync.among live.among stamps))

      own_are : own_turns entry.stamp.0 turns ≡ own_turns entry.stamp.0 (pen_turns pen.0)
      own_are =
          sym (own_in_core turns [] (sym (append-nil turns)) entry.core.0 entry.stamp.0 cores)
          ∙ ap (own_turns entry.stamp.0) (agrees.merges.own entry.core.0 pen.0 pen.1)

      found : HasTurnsFor pen.0 entry.stamp.0 → FsyncAgrees turns entry
      found there =
          let pen_agrees = agrees.each entry.core.0 pen.0 pen.1 in
          let has = pen_agrees.each there.one there.among in
          let same = stamps_are_once first history has.entry entry legal has.live.among live.among (has.own_stamp ∙ there.own) in
          let all : there.one.turns ≡ own_turns entry.stamp.0 turns =
          sym (own_of_pen pen.0 there.one (stamped_pen entry.core.0 pen.0 pen.1) pen_agrees.once there.among)
          ∙ ap (λ (s : ℕ). own_turns s (pen_turns pen.0)) there.own ∙ sym own_are in
          subst (FsyncAgrees turns) same (record {
            goes = subst (λ (l : List Turn). GoesWay l has.entry.reply)
                (all ∙ ap (λ (e : Entry). own_turns e.stamp.0 turns) (sym same)) has.way;
            ack = λ turn one did. has.ack turn
                (subst (λ (l : List Turn). IsOneOf l turn) (ap (λ (e : Entry). own_turns e.stamp.0 turns) same ∙ sym all) one) did;
            stopped = has.stopped;
          })

      lacking : ((one : FsyncTurns) → IsOneOf pen.0 one → one.stamp ≢ entry.stamp.0) → FsyncAgrees turns entry
      lacking none =
          let pen_agrees = agrees.each entry.core.0 pen.0 pen.1 in
          let all : own_turns entry.stamp.0 turns ≡ [] =
          own_are ∙ none_of_pen pen.0 entry.stamp.0 (stamped_pen entry.core.0 pen.0 pen.1) none in
          let given : entry.reply ≡ reply.NoMemory = elim (pen_agrees.others entry node live refl) [
            | inl e ↦ e
            | inr there ↦ absurd (none there.one there.among there.own)
          ] in
          record {
            goes = subst (λ (l : List Turn). GoesWay l entry.reply) (sym all) (goes_without entry.reply given);
            ack = λ turn one did. absurd (subst (λ (l : List Turn). IsOneOf l turn) all one);
            stopped = λ faults e. absurd (no_stop faults (sym given ∙ e));
          }
        where
          no_stop : (faults : ℕ) → reply.NoMemory ≡ reply.Stopped faults → ⊥
          no_stop faults e = cc
