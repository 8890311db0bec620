-- What comes of an attempt at an fsync.
use Rattle.std.proofs.Common.{◌≡◌, ◌<◌, ◌+◌, ◌*◌, ◌∙◌, ◌∷◌, ◌++◌, ℕ, List, [], length, Some, Ok, Err, Result, refl, sym, ap, subst, arith}
use Rattle.std.specs.Prelude.{MatchOption}
use Rattle.std.proofs.lemmas.List.{append-nil, length-map}
use mathlib.Core.List.{IsPrefix}
use Rattle.sfs_base.specs.declared.numbers.NodeId.{NodeId}
use Rattle.sfs_base.proofs.BasicOptions.{none_some, some_same}
use Rattle.tree_laws.specs.Tree.{TreeState}
use Rattle.tree_laws.specs.declared.reply.Reply.{Reply}
use Rattle.tree_laws.specs.declared.reply.Reply.TheVariants as reply
use Rattle.turn_laws.specs.Ways.{no_turn}
use Rattle.slot_laws.specs.Labels.{OwnTold, fsync_told}
use Rattle.slot_laws.specs.declared.label.Seen.{Seen}
use Rattle.stamp_table.specs.Ascending.{LiesAbove}
use Rattle.stamp_table.specs.Events.{told_by}
use Rattle.stamp_table.specs.Table.{values_in, with_answer}
use Rattle.stamp_table.specs.declared.event.Event.{Event}
use Rattle.stamp_table.specs.declared.view.View.{View}
use Rattle.stamp_table.proofs.Keeps.{begins_itself}
use Rattle.mem_values.specs.Account.{commit_told}
use Rattle.mem_values.specs.Start.{FileHand, given_by}
use Rattle.mem_values.specs.declared.fact.Fact.{Fact}
use Rattle.disk_box.specs.Pens.{PenGoes, PenHand, own_at}
use Rattle.journal_set.specs.declared.fault.Ack.{Ack}
use Rattle.journal_set.specs.declared.fault.CommitFault.{CommitFault}
use Rattle.journal_set.specs.declared.fault.CommitFault.TheVariants as fault
use Rattle.journal_set.specs.Ways.{IsAnsweredBy, TakesWay}
use Rattle.fsync_catch.specs.declared.looking.WaitingFsync.{WaitingFsync}
use Rattle.fsync_commit.specs.Asked.{CommitRequest, IsChangeOn}
use Rattle.fsync_commit.specs.Coming.{AreLow, GrantComes, PlanComesTo, committed, gave_back, numbered, settled, unasked, unnumbered}
use Rattle.fsync_commit.specs.declared.landing.CommitRefusal.{CommitRefusal}
use Rattle.fsync_commit.specs.declared.landing.Landed.{Landed}
use Rattle.fsync_draft.specs.Drafting.{IsLentOut}
use Rattle.fsync_draft.specs.declared.lending.DraftedFsync.{DraftedFsync}
use Rattle.fsync_end.specs.Finishing.{IsToldBehind, logs_trimmed}
use Rattle.fsync_end.specs.Trimming.{trim_events}
use Rattle.landing_laws.specs.Made.{PlannedFsync}
use Rattle.landing_laws.specs.Landed.{LandedFsync, commitment_of, directories_of}
use Rattle.space_map.specs.Space.{GrantedNumbers}
use Rattle.fsync_dir.specs.Answering.{EndsUntold, EndsWaiting, LetsGoWaiting, reply_to}
use Rattle.fsync_dir.specs.Attempt.{HasDrafted}
use Rattle.fsync_dir.specs.Ending.{HasLandedHere, LandsSo}
use Rattle.fsync_dir.specs.Flush.{AttemptComes, EndsLanded, FlushAt, IsServed, IsTried, TellsNoTurn, asked_by, flushed, refused, wanting}
use Rattle.fsync_dir.specs.Site.{IsSite, ToldAsReserved}
use Rattle.fsync_dir.specs.declared.attempt.PlannedCommit.{PlannedCommit}
use Rattle.fsync_dir.specs.declared.ending.PlanLeft.{PlanLeft}
use Rattle.fsync_dir.proofs.Landing.{durable, got_number, landed_of, may_commit}
use Rattle.fsync_dir.proofs.Pens.{moved_tells}

-- a pen goes on as itself
pub goes_still : {D : Type 0} (pen : PenHand D) → PenGoes pen pen
goes_still pen = record { frame = refl; view = refl; seen = begins_itself pen.view.seen }

-- a pen that has done nothing has told no turn
pub no_turn_yet : {D : Type 0} (pen : PenHand D) → TellsNoTurn pen pen
no_turn_yet pen = record {
  goes = goes_still pen;
  room = refl;
  own = refl;
  numbers = refl;
  tells = record { turns = []; are = tt; mine_is = sym (append-nil pen.view.mine) };
}

-- what a fsync does that takes no turn goes the way of none
pub no_way : {D : Type 0} (before after : PenHand D) → own_at after ≡ own_at before → TakesWay reply.NoMemory (own_at before) (own_at after)
no_way before after own = record {
  turns = [];
  told_is = ap (λ (o : OwnTold). o.told) own ∙ sym (append-nil (own_at before).told);
  way = record {
    way = no_turn;
    acts = refl;
    answered = refl;
    number = 1;
    numbered = omega arith;
    commits = λ turn one. absurd one;
  };
}

-- memory was wanting before the journals were asked
pub untold_serves : {D : Type 0} (at : FlushAt D) (after : FileHand) (given : Reply) → given ≡ reply.NoMemory
    → EndsUntold at.t at.fsync reply.NoMemory at.hand after → IsServed at after at.pen given
untold_serves at after given is ends = record {
  comes = wanting (no_turn_yet at.pen) is (subst (λ (g : Reply). EndsUntold at.t at.fsync g at.hand after) (sym is) ends);
  way = subst (λ (g : Reply). TakesWay g (own_at at.pen) (own_at at.pen)) (sym is) (no_way at.pen at.pen refl);
}

-- what is handed back as a plan is refused
grant_old : {D : Type 0} (asked : CommitRequest) (middle after : PenHand D) (grant : GrantedNumbers) (refusal : CommitRefusal)
    → GrantComes asked.flush middle after asked.change grant (Err refusal) → refusal.old.items ≡ asked.change.old
grant_old asked middle after grant refusal (gave_back back out) = out.old_is
grant_old asked middle after grant refusal (committed (Ok ack) commits out) = absurd out
grant_old asked middle after grant refusal (committed (Err why) commits out) = out.old_is

pub old_back : {D : Type 0} (asked : CommitRequest) (before after : PenHand D) (refusal : CommitRefusal) → PlanComesTo asked before after (Err refusal)
    → refusal.old.items ≡ asked.change.old
old_back asked before after refusal (unasked same out) = out.old_is
old_back asked before after refusal (unnumbered why is out) = out.old_is
old_back asked before after refusal (numbered middle grant reserves comes) = grant_old asked middle after grant refusal comes
old_back asked before after refusal (settled (Ok ack) ends out) = absurd out
old_back asked before after refusal (settled (Err why) ends out) = out.old_is

-- the reply to a refusal is its answer
pub answered_by : (why : CommitFault) (given : Reply) → reply_to why ≡ Some given → IsAnsweredBy (Err why) given
answered_by (fault.DiskFailed faults) given is = some_same (sym is)
answered_by (fault.NoSpace kind need free) given is = some_same (sym is)
answered_by (fault.Stopped faults) given is = some_same (sym is)
answered_by (fault.Moved node last) given is = absurd (none_some is)
answered_by fault.NoMemory given is = some_same (sym is)

-- what is left of a plan once it is committed
abbrev pub left_of : PlannedCommit → PlanLeft
left_of todo = record {
  members = todo.drafted.draft.plan.members;
  directories = todo.directories;
  nodes = todo.drafted.draft.plan.nodes;
  spares = todo.drafted.draft.spares;
  values = todo.drafted.values;
}

module _ {D : Type 0} (at : FlushAt D) (s : PlannedFsync) (todo : PlannedCommit) (hand : FileHand) (cores : ℕ) (has : HasDrafted at s todo hand)
    (site : IsSite at.t at.nodes cores at.pen.table.given) (agree : ToldAsReserved hand at.pen) where
  drafted_back : todo.drafted ≡ s.drafted
  drafted_back = sym has.drafted_is

  module _ (seen : List Seen) (seen_is : seen ≡ todo.drafted.draft.seen.items) where
    -- what was asked, for what was seen
    abbrev asked_of : CommitRequest
    asked_of = record { flush = fsync_told at.fsync.node at.fsync.stamp; seen = seen; change = todo.drafted.draft.plan.change }

    -- is what was planned
    asked_same : asked_of ≡ asked_by s
    asked_same = λ i. record {
      flush = fsync_told (sym has.tried.fsync_is i).node (sym has.tried.fsync_is i).stamp;
      seen = (seen_is ∙ ap (λ (d : DraftedFsync). d.draft.seen.items) drafted_back) i;
      change = (drafted_back i).draft.plan.change;
    }

    pub plan_asked : (done : PenHand D) (result : Result Landed CommitRefusal) → PlanComesTo asked_of at.pen done result
        → PlanComesTo (asked_by s) at.pen done result
    plan_asked done result comes = subst (λ (asked : CommitRequest). PlanComesTo asked at.pen done result) asked_same comes

  pub change_lies : IsChangeOn at.pen.table.given.layout todo.drafted.draft.plan.change
  change_lies = subst (λ (d : DraftedFsync). IsChangeOn at.pen.table.given.layout d.draft.plan.change)
      has.drafted_is (may_commit at s todo hand cores has site)

  pub room_here : 0 < hand.room
  room_here = subst (λ (h : FileHand). 0 < h.room) (sym has.hollow.after_is) has.holds.room

  pub below_here : LiesAbove (32 + 10 * at.nodes) hand.view.held
  below_here = subst (λ (h : FileHand). LiesAbove (32 + 10 * at.nodes) h.view.held) (sym has.hollow.after_is) has.holds.below

  -- the core as it was works, and its fsync waits
  pub works_back : (after : FileHand) → after ≡ s.hand → Rattle.mem_calls.specs.Working.IsWorking (given_by at.t) at.t after
  works_back after same = subst (Rattle.mem_calls.specs.Working.IsWorking (given_by at.t) at.t) (sym same) has.tried.work

  pub waits_back : (after : FileHand) → after ≡ s.hand → after.waiting ≡ Some at.fsync.stamp.0
  waits_back after same = ap (λ (h : FileHand). h.waiting) same ∙ has.holds.waiting

  -- it was lent out
  pub is_lent : (done : PenHand D) (refusal : CommitRefusal) → PlanComesTo (asked_by s) at.pen done (Err refusal)
      → IsLentOut s.hand hand todo.drafted.values.items refusal.old.items
  is_lent done refusal comes = record {
    nodes = s.caught.concern.nodes.items;
    hollow = has.hollow;
    lent = record {
      count = length-map s.hand.held (λ (c : Rattle.stamp_table.specs.declared.held.HeldCell.HeldCell _). c.value)
          ∙ (sym (length-map s.hand.held (λ (c : Rattle.stamp_table.specs.declared.held.HeldCell.HeldCell _). c.place))
          ∙ (ap length has.tried.is.holds
          ∙ length-map s.caught.concern.nodes.items (Rattle.fsync_look.specs.Look.flushed_place s.nodes)));
      values = ap (λ (d : DraftedFsync). d.values.items) drafted_back ∙ has.tried.is.lent.lent;
      entries = old_back (asked_by s) at.pen done refusal comes
          ∙ has.tried.is.lent.old;
    };
  }

  waiting_here : hand.waiting ≡ Some s.fsync.stamp.0
  waiting_here = ap (λ (h : FileHand). h.waiting) has.hollow.after_is
      ∙ (has.holds.waiting ∙ ap (λ (f : WaitingFsync). Some f.stamp.0) (sym has.tried.fsync_is))

  -- it has landed
  pub landed_here : (done : PenHand D) (landed : Landed) (comes : PlanComesTo (asked_by s) at.pen done (Ok landed))
      → AreLow at.pen.table.given.layout (Ok landed)
      → HasLandedHere at.t at.fsync (left_of todo) landed (landed_of s (got_number at s todo hand cores has site done landed comes).0 landed) hand
  landed_here done landed comes low =
      let got = got_number at s todo hand cores has site done landed comes in
      record {
        durable = durable at s todo hand cores has site agree got.0 landed got.1 low;
        given_is = has.tried.given_is;
        fsync_is = has.tried.fsync_is;
        number_is = refl;
        after_is = refl;
        members_are = ap (λ (d : DraftedFsync). d.draft.plan.members.items) drafted_back
            ∙ has.tried.is.lent.members;
        directories_are = has.directories_are;
        nodes_are = ap (λ (d : DraftedFsync). d.draft.plan.nodes.items) drafted_back
            ∙ has.tried.is.lent.nodes;
        boxes = subst (λ (d : DraftedFsync).
            (after : List _) (nodes : List NodeId)
            → Rattle.std.specs.Prelude.◌≤◌ (Rattle.fsync_values.specs.Renewing.boxes_asked after nodes (values_in s.hand.held)) (length d.draft.spares.items))
            has.drafted_is has.tried.is.lent.boxes;
        lent = ap (λ (d : DraftedFsync). d.values.items) drafted_back ∙ has.tried.is.lent.lent;
        hollow = has.hollow;
        waiting = ap (λ (h : FileHand). h.waiting) has.hollow.after_is ∙ has.holds.waiting;
      }

  module _ (same : at.hand ≡ s.hand) (done : PenHand D) (goes : PenGoes at.pen done) (room : done.room ≡ at.pen.room) where
    -- it has ended
    ends_landed : (land : LandedFsync) (land_is : land.planned ≡ s) (ack : Ack) (after : FileHand)
        → Rattle.landing_laws.specs.Landed.HasBecomeDurable at.t land → land.number ≡ ack.commit → LandsSo at.t at.fsync land ack hand after
        → EndsLanded at land ack after
    ends_landed land land_is ack after is number_is lands =
        let hollow : hand ≡ record land.planned.hand { held = hand.held } =
        has.hollow.after_is
        ∙ (λ i. record (sym land_is i).hand { held = ap (λ (h : FileHand). h.held) (sym has.hollow.after_is) i })
        in
        let view : hand.view ≡ land.planned.hand.view = ap (λ (h : FileHand). h.view) hollow in
        let core = ap (λ (v : View TreeState (Event Fact)). v.core) view in
        let mine = ap (λ (v : View TreeState (Event Fact)). v.mine) view in
        let behind : IsToldBehind (given_by at.t) lands.told (record land.planned.hand { held = hand.held }) after =
        subst (λ (h : FileHand). IsToldBehind (given_by at.t) lands.told h after) hollow lands.finishes.told_behind
        in
        record {
          durable = is;
          number_is = number_is;
          told = lands.told;
          tells = ap (λ c. commit_told (told_by c lands.told 0)) (sym core) ∙ lands.tells;
          behind = record { log = behind.log; since = behind.since; there = behind.there; stood = behind.stood };
          lawful = lands.finishes.lawful;
          own = lands.finishes.own;
          mine = lands.finishes.mine
              ∙ (λ i. (mine i ++ told_by (core i) lands.told 0 ∷ [])
              ++ trim_events (core i) (lands.number_is i) (logs_trimmed (lands.members_are i) (length at.t.first.made)));
          ends = subst (λ (h : FileHand). EndsWaiting at.t at.fsync reply.Ok (Some ack.moment) h after) (ap (λ (p : PlannedFsync). p.hand) land_is ∙ sym same)
              (record {
                between = lands.between;
                same = record {
                  table = ap (λ (h : FileHand). h.table) lands.finishes.frame ∙ ap (λ (h : FileHand). h.table) hollow;
                  cores = ap (λ (h : FileHand). h.cores) lands.finishes.frame ∙ ap (λ (h : FileHand). h.cores) hollow;
                  leads = ap (λ (h : FileHand). h.leads) lands.finishes.frame ∙ ap (λ (h : FileHand). h.leads) hollow;
                  number = ap (λ (v : View TreeState (Event Fact)). v.core) lands.finishes.view ∙ core;
                };
                seen = subst (λ (v : View TreeState (Event Fact)). IsPrefix v.seen after.view.seen) view lands.finishes.seen;
                answered = (
                  lands.finishes.answered.0,
                  lands.finishes.answered.1,
                  lands.finishes.answered.2 ∙ ap (λ (n : Rattle.sfs_base.specs.declared.numbers.Stamp.Stamp). n.0) lands.stamp_is,
                  ap (λ (h : FileHand). h.entries) (sym hollow) ∙ lands.finishes.answered.3,
                  lands.finishes.answered.4
                      ∙ (λ i. lands.finishes.answered.0 ++ with_answer lands.finishes.answered.1 reply.Ok (Some (lands.ack_is i)) ∷ []),
                );
              });
        }

    tried_here : IsTried at s
    tried_here = has.tried

    -- the plan has landed and the fsync has ended
    pub serves_ok : (landed : Landed) (comes : PlanComesTo (asked_by s) at.pen done (Ok landed)) → AreLow at.pen.table.given.layout (Ok landed)
        → (after : FileHand)
        → LandsSo at.t at.fsync (landed_of s (got_number at s todo hand cores has site done landed comes).0 landed) landed.ack hand after
        → TakesWay reply.Ok (own_at at.pen) (own_at done) → IsServed at after done reply.Ok
    serves_ok landed comes low after lands way =
        let got = got_number at s todo hand cores has site done landed comes in
        record {
          comes = flushed (landed_of s got.0 landed) at.pen landed has.tried (no_turn_yet at.pen) comes
              (ends_landed (landed_of s got.0 landed) refl landed.ack after (durable at s todo hand cores has site agree got.0 landed got.1 low)
              refl lands) refl refl;
          way = way;
        }

    -- the plan was refused and answered, and the values were put back
    serves_answer : (refusal : CommitRefusal) → PlanComesTo (asked_by s) at.pen done (Err refusal)
        → ((given : Reply) → IsAnsweredBy (Err refusal.fault) given → TakesWay given (own_at at.pen) (own_at done)) → (after : FileHand)
        → (given : Reply) → reply_to refusal.fault ≡ Some given → EndsUntold at.t at.fsync given s.hand after → IsServed at after done given
    serves_answer refusal comes way after given is ends = record {
      comes = refused s at.pen refusal has.tried (no_turn_yet at.pen) comes is
          (subst (λ (h : FileHand). EndsUntold at.t at.fsync given h after) (sym same) ends) ends.ends.seen;
      way = way given (answered_by refusal.fault given is);
    }

    -- the plan was refused
    pub serves_refused : (refusal : CommitRefusal) → PlanComesTo (asked_by s) at.pen done (Err refusal)
        → ((given : Reply) → IsAnsweredBy (Err refusal.fault) given → TakesWay given (own_at at.pen) (own_at done)) → (after : FileHand)
        → (why : CommitFault) → refusal.fault ≡ why
        → MatchOption (reply_to why) (LetsGoWaiting at.t s.hand after) (λ given. EndsUntold at.t at.fsync given s.hand after)
        → AttemptComes at after done (reply_to why)
    serves_refused refusal comes way after (fault.Moved node last) is lets =
        let tells = moved_tells (asked_by s) at.pen done refusal node last is comes in
        record {
          lets = subst (λ (h : FileHand). LetsGoWaiting at.t h after) (sym same) lets;
          no_turn = record { goes = goes; room = room; own = tells.0; numbers = tells.1; tells = tells.2 };
        }
    serves_refused refusal comes way after (fault.DiskFailed faults) is ends = serves_answer refusal comes way after _ (ap reply_to is) ends
    serves_refused refusal comes way after (fault.NoSpace kind need free) is ends = serves_answer refusal comes way after _ (ap reply_to is) ends
    serves_refused refusal comes way after (fault.Stopped faults) is ends = serves_answer refusal comes way after _ (ap reply_to is) ends
    serves_refused refusal comes way after fault.NoMemory is ends = serves_answer refusal comes way after _ (ap reply_to is) ends
