-- A core and its pen agree behind an fsync.
use mathlib.Core.List.{IsPrefix}
use Rattle.std.proofs.Common.{◌≡◌, ◌∙◌, ◌∷◌, ◌≤◌, ◌^◌, ◌-◌, ◌++◌, count_by, ℕ, Some, Err, subst, sym, Ok, List, [], Option, None, refl, ap, append-nil, filter_map, Result, arith, append_assoc, inl, inr}
use Rattle.std.proofs.lemmas.List.{append_cancel_left}
use Rattle.sfs_base.specs.declared.numbers.SpaceKind.{SpaceKind}
use Rattle.sfs_base.proofs.BasicOptions.{some_same, none_some}
use Rattle.space_map.specs.Space.{shortage, GrantedNumbers}
use Rattle.keyed_list.specs.Ascending.{AscendBy}
use Rattle.tree_laws.specs.declared.reply.Code.TheVariants as code
use Rattle.tree_laws.specs.declared.reply.Reply.{Reply}
use Rattle.tree_laws.specs.declared.reply.Reply.TheVariants as reply
use Rattle.tree_laws.specs.Tree.{TreeState}
use Rattle.tree_laws.specs.declared.call.Call.TheVariants as call
use Rattle.disk_nodes.specs.Nodes.{entry_node}
use Rattle.disk_change.specs.Planned.{enters, Planned}
use Rattle.disk_change.specs.AllBuilt.{after_commit}
use Rattle.cut_laws.specs.Closure.{Flush}
use Rattle.cut_laws.specs.Rules.{IsOneOf}
use Rattle.flush_plan.specs.declared.plans.FsyncPlan.{FsyncPlan}
use Rattle.stamp_table.specs.declared.view.View.{View}
use Rattle.stamp_table.specs.Hand.{Desk}
use Rattle.stamp_table.specs.declared.event.Event.{Event}
use Rattle.stamp_table.specs.Events.{told_by}
use Rattle.stamp_table.proofs.Keeps.{begins_on}
use Rattle.mem_values.specs.Start.{FileState, FileHand}
use Rattle.mem_values.specs.Account.{commit_told}
use Rattle.mem_values.specs.Facts.{IsBelowInodes}
use Rattle.mem_values.specs.declared.fact.Fact.{Fact}
use Rattle.note_laws.specs.Run.{TableRun}
use Rattle.made_laws.specs.Made.{CoreMaking, making_flush, MadeEitherWay}
use Rattle.slot_laws.specs.Telling.{turns_in, BoxTurn, TellTurns, at_box, labels_in, events_in}
use Rattle.slot_laws.specs.Labels.{OwnTold, own_from}
use Rattle.slot_laws.proofs.Telling.{events_both, tell_both}
use Rattle.disk_box.specs.Pens.{PenHand, PenGoes, own_at}
use Rattle.disk_box.specs.declared.key.BoxKey.{BoxKey}
use Rattle.journal_set.specs.Reserving.{FindsShort, ReserveRequest, Reserves}
use Rattle.journal_set.specs.Telling.{AreTurns, TellsNothing, TellsCall}
use Rattle.journal_set.specs.declared.fault.CommitFault.{CommitFault}
use Rattle.journal_set.specs.declared.fault.CommitFault.TheVariants as fault
use Rattle.journal_set.specs.Flying.{SeesFailure, IsCausedBy}
use Rattle.journal_set.specs.Emptying.{Empties}
use Rattle.journal_set.specs.Ways.{TakesWay}
use Rattle.journal_set.specs.Numbering.{IsNewerThan}
use Rattle.journal_set.proofs.Ties.{nothing_tells}
use Rattle.fsync_commit.specs.Asked.{need_planned, CommitRequest, reserving_of, emptying_of, IsChangeOn, IsSpaceOn}
use Rattle.fsync_commit.specs.Coming.{committed, GrantComes, gave_back, PlanComesTo, unasked, unnumbered, numbered, settled}
use Rattle.fsync_commit.specs.declared.landing.CommitRefusal.{CommitRefusal}
use Rattle.fsync_commit.specs.declared.landing.Landed.{Landed}
use Rattle.fsync_catch.specs.declared.looking.WaitingFsync.{WaitingFsync}
use Rattle.landing_laws.specs.Made.{PlannedFsync, MakesPlanned}
use Rattle.landing_laws.specs.Landed.{LandedFsync, commitment_of}
use Rattle.fsync_dir.specs.Answering.{reply_to, EndsUntold, EndsWaiting}
use Rattle.fsync_dir.specs.Flush.{FlushAt, TellsNoTurn, IsTried, asked_by, EndsLanded, FsyncComes, wanting, refused, flushed, FlushComes, dead, live}
use Rattle.fsync_dir.specs.Site.{IsSite}
use Rattle.fsync_dir.proofs.Planned.{change_on}
use Rattle.flush_agrees.specs.Agreement.{LacksInSight, MadeInSight, MadeAgrees, MadeIsAgreed, ToldInSight, CoresAgree}
use Rattle.flush_agrees.specs.Made.{FlushMade, TellsNoNumber, TurnIsOf, GrantsNeed, change_of}
use Rattle.flush_agrees.specs.Laws.{FlushesAgree, AgreeBehind}
use Rattle.flush_agrees.proofs.Lacking.{lacked_by, plan_lacks}
use Rattle.flush_agrees.proofs.Behind.{turns_more, ServedBehind, flush_waiting, agrees_more}
use Rattle.flush_agrees.proofs.BoxTurns.{turns_as, nothing_is, both_are}
use Rattle.flush_agrees.proofs.Making.{MadeSeen, made_seen}
use Rattle.flush_agrees.proofs.Planned.{PlanAgrees, plan_agrees, own_behind, LandsMade, IsNumberedPlan}
use Rattle.flush_agrees.proofs.Turns.{TakesOwn, moment_of, plan_taken}
use Rattle.flush_agrees.proofs.Landing.{commits_landed, told_in_sight}
use Rattle.flush_agrees.proofs.Growing.{other_calls_keep, answers_keep_served}

-- the reply to a refusal tells of which
stopped_by : (why : CommitFault) (given : Reply) (faults : ℕ) → reply_to why ≡ Some given → given ≡ reply.Stopped faults → why ≡ fault.Stopped faults
stopped_by (fault.DiskFailed risen) given faults is stops = absurd (cc (some_same is ∙ stops))
stopped_by (fault.NoSpace kind need free) given faults is stops = absurd (cc (some_same is ∙ stops))
stopped_by (fault.Stopped other) given faults is stops = cc (some_same is ∙ stops)
stopped_by (fault.Moved node last) given faults is stops = absurd (none_some is)
stopped_by fault.NoMemory given faults is stops = absurd (cc (some_same is ∙ stops))

-- no refusal is answered Ok
never_ok : (why : CommitFault) (given : Reply) → reply_to why ≡ Some given → given ≡ reply.Ok → ⊥
never_ok (fault.DiskFailed risen) given is ok = cc (some_same is ∙ ok)
never_ok (fault.NoSpace kind need free) given is ok = cc (some_same is ∙ ok)
never_ok (fault.Stopped other) given is ok = cc (some_same is ∙ ok)
never_ok (fault.Moved node last) given is ok = none_some is
never_ok fault.NoMemory given is ok = cc (some_same is ∙ ok)

-- where a plan was stopped its pen has seen the failure
module _ {D : Type 0} (asked : CommitRequest) (before after : PenHand D) (refusal : CommitRefusal) (faults : ℕ)
    (stops : refusal.fault ≡ fault.Stopped faults) where
  finds : (why : CommitFault) → why ≡ fault.Stopped faults → (request : ReserveRequest) → Reserves request before after (Err why) → SeesFailure after faults
  finds why same request is =
      let it = subst (λ (w : CommitFault). Reserves request before after (Err w)) same is in
      record { front = it.front; seen = it.seen; failed = it.failed }

  finds_empty : (why : CommitFault) → why ≡ fault.Stopped faults → (request : ReserveRequest) → Empties request before after (Err why)
      → SeesFailure after faults
  finds_empty why same request is =
      let it = subst (λ (w : CommitFault). Empties request before after (Err w)) same is in
      record { front = it.front; seen = it.seen; failed = it.failed }

  granted_stops : (middle : PenHand D) (grant : GrantedNumbers) → GrantComes asked.flush middle after asked.change grant (Err refusal)
      → SeesFailure after faults
  granted_stops middle grant (gave_back back out) = absurd (cc (sym stops ∙ out.fault_is))
  granted_stops middle grant (committed (Ok ack) commits out) = absurd out
  granted_stops middle grant (committed (Err why) commits out) =
      subst (IsCausedBy after) (sym out.fault_is ∙ stops) commits.cause

  plan_stops : PlanComesTo asked before after (Err refusal) → SeesFailure after faults
  plan_stops (unasked same out) = absurd (cc (sym stops ∙ out.fault_is))
  plan_stops (unnumbered why is out) = finds why (sym out.fault_is ∙ stops) (reserving_of asked) is.comes
  plan_stops (numbered middle grant reserves comes) = granted_stops middle grant comes
  plan_stops (settled (Ok ack) ends out) = absurd out
  plan_stops (settled (Err why) ends out) = finds_empty why (sym out.fault_is ∙ stops) (emptying_of asked) ends.comes

-- turns in which nothing is told are of no commit
idle_tell : (stamps : ℕ → ℕ) (core : ℕ) (flush : Flush) (own : OwnTold) (turns : List BoxTurn) → AreTurns TellsNothing turns → TellTurns stamps core own turns
idle_tell stamps core flush own [] are = tt
idle_tell stamps core flush own (one ∷ turns) are = (
  nothing_tells stamps core own 0 flush one are.0,
  idle_tell stamps core flush (own_from (at_box core (labels_in one)) own) turns are.1,
)

agreed_each : {D : Type 0} (t : FileState) (hand : FileHand) (pen : PenHand D) (flush : Flush) (made : Option FlushMade)
    → ((one : FlushMade) → made ≡ Some one → MadeAgrees t hand pen flush one) → MadeIsAgreed t hand pen flush made
agreed_each t hand pen flush None each = tt
agreed_each t hand pen flush (Some one) each = each one refl

-- What was planned was asked of the journals, by a pen that had told nothing but that it had the box; and what came of it.
record IsAsked {D : Type 0} (at : FlushAt D) (done : PenHand D) (planned : PlannedFsync) (result : Result Landed CommitRefusal) : Type 0 where
  from : PenHand D
  tried : IsTried at planned
  none : TellsNoTurn at.pen from
  comes : PlanComesTo (asked_by planned) from done result

-- The situation: an fsync that waits, where fsyncs are served.
module _ {D : Type 0} (at : FlushAt D) (cores : ℕ) (site : IsSite at.t at.nodes cores at.pen.table.given) (few : at.nodes ≤ 2 ^ 32 - 1) (after : FileHand)
    (done : PenHand D) (given : Reply) (goes : PenGoes at.pen done) (way : TakesWay given (own_at at.pen) (own_at done)) where
  abbrev Served : Type 0
  Served = ServedBehind at.t at.fsync at.hand after at.pen done given

  served_wanting : TellsNoTurn at.pen done → given ≡ reply.NoMemory → EndsUntold at.t at.fsync given at.hand after
      → TellsCall (AreTurns TellsNothing) at.pen done
      → Served
  served_wanting none is ends idle = record {
    turns = idle.turns;
    made = None;
    mine_is = idle.mine_is;
    tells = λ stamps has. idle_tell stamps at.pen.view.core (flush_waiting at.fsync) (own_at at.pen) idle.turns idle.are;
    are = turns_as TellsNothing TellsNoNumber (nothing_is None) idle.turns idle.are;
    ack = None;
    ends = ends.ends;
    own = record { turns = []; told_is = ap (λ (o : OwnTold). o.told) none.own ∙ sym (append-nil (own_at at.pen).told); own = tt };
    way = way;
    stopped = λ faults stops. absurd (cc (sym is ∙ stops));
    told = [];
    commits = ap (filter_map commit_told) ends.mine ∙ sym (append-nil (filter_map commit_told at.hand.view.mine));
    told_ok = λ one among. absurd among;
    told_of = λ one among. absurd among;
    agreed = tt;
    newer = λ one same. absurd (none_some same);
    landed = λ ok. absurd (cc (sym is ∙ ok));
    lacked = λ kind need free short. absurd (cc (sym is ∙ short));
  }

  -- What was planned, and what came of it.
  module _ (planned : PlannedFsync) (result : Result Landed CommitRefusal) (asked : IsAsked at done planned result) where
    abbrev from : PenHand D
    from = asked.from

    abbrev tried : IsTried at planned
    tried = asked.tried

    abbrev none : TellsNoTurn at.pen from
    none = asked.none

    abbrev idle : TellsCall (AreTurns TellsNothing) at.pen from
    idle = none.tells

    abbrev comes : PlanComesTo (asked_by planned) from done result
    comes = asked.comes

    abbrev seen : MadeSeen planned
    seen = made_seen planned tried.is

    abbrev making : CoreMaking
    making = seen.makes.making

    from_table : from.table ≡ at.pen.table
    from_table = ap (λ (h : PenHand D). h.table) none.goes.frame

    from_core : from.view.core ≡ at.pen.view.core
    from_core = ap (λ (v : View _ _). v.core) none.goes.view

    done_table : done.table ≡ at.pen.table
    done_table = ap (λ (h : PenHand D). h.table) goes.frame

    first_low : (of : ℕ) → IsBelowInodes planned.hand.view.first.first (planned.given of)
    first_low of = subst (λ (z : (ℕ → Option _) × ℕ). IsBelowInodes z.1 (z.0 of))
        (λ i. (sym tried.given_is i, ap (λ (tree : TreeState). tree.first) (sym tried.work.first) i)) (site.below of)

    on_disk : IsChangeOn at.pen.table.given.layout planned.drafted.draft.plan.change
    on_disk = change_on planned tried.is first_low at.pen.table.given.layout
        (site.inodes ∙ ap (λ (tree : TreeState). tree.first) (sym tried.work.first)) (let same = tried.nodes_are in let word = few in omega (arith, same, word))

    plan : PlanAgrees (asked_by planned) making from done result
    plan = plan_agrees (asked_by planned) making from done seen.sees (ap (λ (p : FsyncPlan). p.change) seen.makes.plan_is)
        (subst (λ (k : Desk (BoxKey _)). IsChangeOn k.given.layout planned.drafted.draft.plan.change) (sym from_table) on_disk)
        (subst (λ (k : Desk (BoxKey _)). IsSpaceOn k.given.layout k.given.space) (sym from_table) site.space) result comes

    abbrev turns : List BoxTurn
    turns = idle.turns ++ plan.turns

    mine_is : done.view.mine ≡ at.pen.view.mine ++ events_in at.pen.view.core turns
    mine_is =
        subst (λ c. done.view.mine ≡ from.view.mine ++ events_in c plan.turns) from_core plan.mine_is
        ∙ (ap (λ l. l ++ events_in at.pen.view.core plan.turns) idle.mine_is
        ∙ (append_assoc at.pen.view.mine (events_in at.pen.view.core idle.turns) (events_in at.pen.view.core plan.turns)
        ∙ ap (λ l. at.pen.view.mine ++ l) (sym (events_both at.pen.view.core idle.turns plan.turns))))

    own_from_pen : own_at from ≡ own_from (events_in at.pen.view.core idle.turns) (own_at at.pen)
    own_from_pen = own_behind at.pen from idle.turns idle.mine_is

    tells : (stamps : ℕ → ℕ) → ((one : FlushMade) → plan.made ≡ Some one → stamps one.number ≡ at.fsync.stamp.0)
        → TellTurns stamps at.pen.view.core (own_at at.pen) turns
    tells stamps has =
        tell_both stamps at.pen.view.core (own_at at.pen) idle.turns plan.turns
        (idle_tell stamps at.pen.view.core (flush_waiting at.fsync) (own_at at.pen) idle.turns idle.are)
        (subst (λ (z : ℕ × OwnTold). TellTurns stamps z.0 z.1 plan.turns) (λ i. (from_core i, own_from_pen i))
        (plan.tells stamps (λ one same. has one same ∙ ap (λ (f : WaitingFsync). f.stamp.0) (sym tried.fsync_is))))

    are : AreTurns (TurnIsOf plan.made) turns
    are = both_are (TurnIsOf plan.made) idle.turns plan.turns (turns_as TellsNothing (TurnIsOf plan.made) (nothing_is plan.made) idle.turns idle.are) plan.are

    own : TakesOwn at.pen.view.core (flush_waiting at.fsync) (moment_of result) (own_at at.pen) (own_at done)
    own = subst (λ (z : ℕ × WaitingFsync × OwnTold). TakesOwn z.0 (flush_waiting z.1) (moment_of result) z.2 (own_at done))
        (λ i. (from_core i, tried.fsync_is i, none.own i)) (plan_taken (asked_by planned) from done result comes)

    newer : (one : FlushMade) → plan.made ≡ Some one → IsNewerThan at.pen.view.mine one.number
    newer one same other among = (plan.numbered one same).newer other (subst (λ l. IsOneOf l other) (sym none.numbers) among)

    agreed : IsPrefix planned.hand.view.seen after.view.seen → after.view.core ≡ at.hand.view.core
        → MadeIsAgreed at.t after done (flush_waiting at.fsync) plan.made
    agreed since core_is = agreed_each at.t after done (flush_waiting at.fsync) plan.made (λ one same.
        let numbered = plan.numbered one same in
        record {
          sight = record {
            log = planned.hand.view.seen;
            since = since;
            made = subst (λ (z : TableRun × CoreMaking). MadeEitherWay z.0 z.1)
                (λ i. (record { given = tried.given_is i; first = tried.work.first i; log = planned.hand.view.seen }, sym numbered.making_is i))
                seen.makes.made;
            core_is = ap (λ (c : CoreMaking). c.noted.core) numbered.making_is
                ∙ (seen.makes.core_is ∙ (ap (λ (v : View TreeState (Event Fact)). v.core) tried.since.view ∙ sym core_is));
            flush_is = ap making_flush numbered.making_is
                ∙ (λ i. record {
                  node = (seen.makes.node_is ∙ ap (λ (f : WaitingFsync). f.node.0) tried.fsync_is) i;
                  stamp = (seen.makes.stamp_is ∙ ap (λ (f : WaitingFsync). f.stamp.0) tried.fsync_is) i;
                });
          };
          reserved = numbered.reserved;
          grants = subst (λ (k : Desk (BoxKey _)). GrantsNeed k.given.layout one) (from_table ∙ sym done_table) numbered.grants;
        })

    -- what the core made, in its sight
    in_sight : IsPrefix planned.hand.view.seen after.view.seen → after.view.core ≡ at.hand.view.core
        → MadeInSight at.t after (flush_waiting at.fsync) making
    in_sight since core_is = record {
      log = planned.hand.view.seen;
      since = since;
      made = subst (λ (r : TableRun). MadeEitherWay r making)
          (λ i. record { given = tried.given_is i; first = tried.work.first i; log = planned.hand.view.seen }) seen.makes.made;
      core_is = seen.makes.core_is ∙ (ap (λ (v : View TreeState (Event Fact)). v.core) tried.since.view ∙ sym core_is);
      flush_is = λ i. record {
        node = (seen.makes.node_is ∙ ap (λ (f : WaitingFsync). f.node.0) tried.fsync_is) i;
        stamp = (seen.makes.stamp_is ∙ ap (λ (f : WaitingFsync). f.stamp.0) tried.fsync_is) i;
      };
    }

    change_asked : making.plan.change ≡ planned.drafted.draft.plan.change
    change_asked = ap (λ (p : FsyncPlan). p.change) seen.makes.plan_is

    -- and lacked room for
    lacks_there : (kind : SpaceKind) (need free : ℕ) → FindsShort (reserving_of (asked_by planned)) from done kind need free
        → IsPrefix planned.hand.view.seen after.view.seen → after.view.core ≡ at.hand.view.core
        → LacksInSight at.t after done (record { flush = flush_waiting at.fsync; turns = turns; made = plan.made }) kind need free
    lacks_there kind need free finds since core_is = record {
      making = making;
      sight = in_sight since core_is;
      seen = planned.drafted.draft.seen.items;
      sees = seen.sees;
      few = subst (λ (c : Planned). count_by enters c.seats ≤ 2 ^ 32 - 1) (sym change_asked) on_disk.few;
      turn = finds.turn;
      only = append_cancel_left (own_at at.pen).told (turns_in turns) (finds.turn ∷ [])
          (sym (ap (λ (o : OwnTold). o.told) (own_behind at.pen done turns mine_is) ∙ turns_more at.pen.view.core turns (own_at at.pen))
          ∙ (ap (λ (o : OwnTold). o.told) finds.own ∙ ap (λ (o : OwnTold). o.told ++ finds.turn ∷ []) none.own));
      did = finds.by.did_is;
      core = record { 0 = from.view.core };
      front = finds.front;
      back = finds.back;
      whole = finds.whole;
      unmoved = finds.unmoved;
      space = finds.space;
      goes = finds.goes;
      short = ap (λ (c : Planned). shortage finds.space (need_planned c)) change_asked ∙ finds.short;
    }

  served_refused : (planned : PlannedFsync) (refusal : CommitRefusal) → IsAsked at done planned (Err refusal) → reply_to refusal.fault ≡ Some given
      → EndsUntold at.t at.fsync given at.hand after → IsPrefix planned.hand.view.seen after.view.seen → Served
  served_refused planned refusal asked is ends since = record {
    turns = turns planned (Err refusal) asked;
    made = (plan planned (Err refusal) asked).made;
    mine_is = mine_is planned (Err refusal) asked;
    tells = tells planned (Err refusal) asked;
    are = are planned (Err refusal) asked;
    ack = None;
    ends = ends.ends;
    own = own planned (Err refusal) asked;
    way = way;
    stopped = λ faults stops. plan_stops (asked_by planned) asked.from done refusal faults (stopped_by refusal.fault given faults is stops) asked.comes;
    told = [];
    commits = ap (filter_map commit_told) ends.mine ∙ sym (append-nil (filter_map commit_told at.hand.view.mine));
    told_ok = λ one among. absurd among;
    told_of = λ one among. absurd among;
    agreed = agreed planned (Err refusal) asked since ends.ends.same.number;
    newer = newer planned (Err refusal) asked;
    landed = λ ok. absurd (never_ok refusal.fault given is ok);
    lacked = λ kind need free short.
        lacks_there planned (Err refusal) asked kind need free
        (plan_lacks (asked_by planned) asked.from done refusal kind need free (lacked_by refusal.fault given kind need free is short) asked.comes) since
        ends.ends.same.number;
  }

  served_flushed : (s : LandedFsync) (landed : Landed) → IsAsked at done s.planned (Ok landed) → EndsLanded at s landed.ack after → given ≡ reply.Ok
      → landed.nodes.after ≡ s.after → Served
  served_flushed s landed asked lands is after_is = record {
    turns = turns s.planned (Ok landed) asked;
    made = (plan s.planned (Ok landed) asked).made;
    mine_is = mine_is s.planned (Ok landed) asked;
    tells = tells s.planned (Ok landed) asked;
    are = are s.planned (Ok landed) asked;
    ack = Some landed.ack.moment;
    ends = subst (λ g. EndsWaiting at.t at.fsync g (Some landed.ack.moment) at.hand after) (sym is) lands.ends;
    own = own s.planned (Ok landed) asked;
    way = way;
    stopped = λ faults stops. absurd (cc (sym is ∙ stops));
    told = commitment_of s ∷ [];
    commits = commits_landed at s landed.ack after asked.tried lands makes;
    told_ok = λ one among. is;
    told_of = λ one among. elim among [
      | inl same ↦ (lands_made.one, lands_made.is, subst (ToldInSight at.t after lands_made.one) same sight)
      | inr past ↦ absurd past
    ];
    agreed = agreed s.planned (Ok landed) asked since lands.ends.same.number;
    newer = newer s.planned (Ok landed) asked;
    landed = λ ok. (lands_made.one, lands_made.is, commitment_of s, sight);
    lacked = λ kind need free short. absurd (cc (sym is ∙ short));
  }
    where
      makes : MakesPlanned s.planned
      makes = (seen s.planned (Ok landed) asked).makes

      it : PlanAgrees (asked_by s.planned) makes.making asked.from done (Ok landed)
      it = plan s.planned (Ok landed) asked

      lands_made : LandsMade (asked_by s.planned) it.made landed
      lands_made = it.landed landed refl

      numbered : IsNumberedPlan makes.making asked.from done lands_made.one
      numbered = it.numbered lands_made.one lands_made.is

      since : IsPrefix s.planned.hand.view.seen after.view.seen
      since = begins_on s.planned.hand.view.seen lands.behind.log after.view.seen lands.behind.since
          (begins_on lands.behind.log (lands.behind.log ++ told_by s.planned.hand.view.core lands.told 0 ∷ []) after.view.seen
          (told_by s.planned.hand.view.core lands.told 0 ∷ [], refl) lands.behind.there)

      change_same : s.planned.drafted.draft.plan.change ≡ change_of lands_made.one
      change_same = ap (λ (p : FsyncPlan). p.change) (sym makes.plan_is) ∙ ap (λ (c : CoreMaking). c.plan.change) (sym numbered.making_is)

      sight : ToldInSight at.t after lands_made.one (commitment_of s)
      sight = told_in_sight at s landed.ack after asked.tried lands makes lands_made.one numbered.making_is (lands_made.number_is ∙ sym lands.number_is)
          (sym after_is ∙ (lands_made.hands.after_is ∙ ap (λ (c : Planned). after_commit c lands_made.one.grant) change_same))
          (subst (AscendBy entry_node) after_is lands_made.hands.ascends)

  served : FsyncComes at after done given → Served
  served (wanting none is ends) = served_wanting none is ends none.tells
  served (refused planned from refusal tried none comes is ends since) =
      served_refused planned refusal (record { from = from; tried = tried; none = none; comes = comes }) is ends since
  served (flushed s from landed tried none comes lands is same) =
      served_flushed s landed (record { from = from; tried = tried; none = none; comes = comes }) lands is same

pub flushes_agree : (D : Type 0) → FlushesAgree D
flushes_agree D at given fsyncs makes agree = by makes.comes
  where
    by : FlushComes at.t at.nodes at.node at.before at.after at.pen at.done given → AgreeBehind at fsyncs
    by (dead made same is) =
        inl (subst (λ pen. CoresAgree at.t at.after pen fsyncs) (sym same)
        (other_calls_keep D at.t at.before at.after at.pen fsyncs
        (answers_keep_served at.t (call.Fsync at.node) (reply.Error code.NoEntry) at.before at.after made (inr refl)) agree))
    by (live serves) = inr (
      _,
      agrees_more at given fsyncs makes.goes serves.stamped serves.waiting serves.stamps.stamps
          (served _ at.cores makes.site makes.few at.after at.done given makes.goes serves.served.way serves.served.comes) agree,
    )
