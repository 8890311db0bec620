-- The turns that an fsync takes are its core's own.
use Rattle.journal_set.specs.Committing.{IsShut, FailsCommit}
use Rattle.journal_set.specs.Reserving.{Reserves}
use Rattle.fsync_commit.specs.declared.landing.Landed.{Landed}
use Rattle.fsync_commit.specs.Coming.{committed, settled}
use Rattle.stamp_table.specs.declared.view.View.{View}
use Rattle.journal_set.specs.declared.fault.CommitFault.TheVariants as fault
use Rattle.std.proofs.Common.{◌≡◌, ◌∷◌, ◌++◌, ◌∙◌, ℕ, Option, Some, List, [], inl, subst, inr, sym, ap, append-nil, append_assoc, Err, Result, Ok, None}
use Rattle.space_map.specs.Space.{GrantedNumbers}
use Rattle.tree_laws.specs.declared.turns.Turn.{Turn}
use Rattle.tree_laws.specs.declared.turns.TurnAct.TheVariants as act
use Rattle.tree_laws.specs.declared.turns.TurnAct.{TurnAct}
use Rattle.cut_laws.specs.Closure.{Flush}
use Rattle.cut_laws.specs.Rules.{IsOneOf}
use Rattle.turn_laws.specs.Books.{flush_at}
use Rattle.slot_laws.specs.Labels.{OwnTold}
use Rattle.slot_laws.specs.Rules.{IsTurnBy}
use Rattle.disk_box.specs.Turns.{Halts}
use Rattle.disk_box.specs.Pens.{PenHand, own_at}
use Rattle.journal_set.specs.Returning.{ReturnsNumber}
use Rattle.journal_set.specs.Committing.{not_begun, in_slot, HaltsCommit, Commits, BecomesDurable}
use Rattle.journal_set.specs.declared.fault.CommitFault.{CommitFault}
use Rattle.journal_set.specs.declared.fault.Ack.{Ack}
use Rattle.journal_set.specs.Reserving.{ReserveRequest, ReservesGrant}
use Rattle.journal_set.specs.Emptying.{Empties, EndsAtOnce}
use Rattle.fsync_commit.specs.declared.landing.CommitRefusal.{CommitRefusal}
use Rattle.fsync_commit.specs.Asked.{CommitRequest, reserving_of, emptying_of}
use Rattle.fsync_commit.specs.Coming.{GrantComes, gave_back, PlanComesTo, unasked, unnumbered, numbered}

-- A turn is a core's own, of an fsync; one that makes its commit durable is at the moment of the acknowledgement.
pub record OwnTurn (core : ℕ) (flush : Flush) (ack : Option ℕ) (turn : Turn) : Type 0 where
  pub core_is : turn.core.0 ≡ core
  pub flush_is : flush_at turn ≡ flush
  pub ack_is : turn.act ≡ act.Durable → ack ≡ Some turn.now

-- so is each of some
abbrev pub OwnTurns : ℕ → Flush → Option ℕ → List Turn → Type 0
OwnTurns core flush ack [] = Unit {0}
OwnTurns core flush ack (turn ∷ turns) = OwnTurn core flush ack turn × OwnTurns core flush ack turns

pub own_each : (core : ℕ) (flush : Flush) (ack : Option ℕ) (turns : List Turn) → OwnTurns core flush ack turns → (turn : Turn) → IsOneOf turns turn
    → OwnTurn core flush ack turn
own_each core flush ack [] own turn among = absurd among
own_each core flush ack (one ∷ turns) own turn (inl same) = subst (OwnTurn core flush ack) same own.0
own_each core flush ack (one ∷ turns) own turn (inr among) = own_each core flush ack turns own.1 turn among

-- A core took turns of its own.
pub record TakesOwn (core : ℕ) (flush : Flush) (ack : Option ℕ) (before after : OwnTold) : Type 0 where
  pub turns : List Turn
  pub told_is : after.told ≡ before.told ++ turns
  pub own : OwnTurns core flush ack turns

module _ (core : ℕ) (flush : Flush) (ack : Option ℕ) where
  own_by : (did : TurnAct) (number : ℕ) (turn : Turn) → (did ≡ act.Durable → ⊥) → IsTurnBy turn did core number flush → OwnTurn core flush ack turn
  own_by did number turn away by = record { core_is = by.core_is; flush_is = by.flush_is; ack_is = λ is. absurd (away (sym by.did_is ∙ is)) }

  none_taken : (before after : OwnTold) → after ≡ before → TakesOwn core flush ack before after
  none_taken before after same = record { turns = []; told_is = ap (λ (o : OwnTold). o.told) same ∙ sym (append-nil before.told); own = tt }

  halts_taken : (number : ℕ) (before after : OwnTold) → Halts number flush core before after → TakesOwn core flush ack before after
  halts_taken number before after halts = record {
    turns = halts.turn ∷ [];
    told_is = ap (λ (o : OwnTold). o.told) halts.after_is;
    own = (own_by act.Halted number halts.turn (λ is. cc is) halts.by, tt);
  }

  returns_taken : (before after : OwnTold) → ReturnsNumber core flush before after → TakesOwn core flush ack before after
  returns_taken before after returns = record {
    turns = returns.turn ∷ [];
    told_is = ap (λ (o : OwnTold). o.told) returns.after_is;
    own = (own_by act.GivenBack returns.number returns.turn (λ is. cc is) returns.by, tt);
  }

  -- a commit that has not begun, or whose gate was not written, told nothing of it
  shut_told : (before : OwnTold) (number : ℕ) (own : OwnTold) → IsShut core flush before number own → own.told ≡ before.told
  shut_told before number own (not_begun same) = ap (λ (o : OwnTold). o.told) same
  shut_told before number own (in_slot k is) = ap (λ (o : OwnTold). o.told) is

  fails_taken : (faults : ℕ) (before after : OwnTold) → FailsCommit core flush before faults after → TakesOwn core flush ack before after
  fails_taken faults before after fails = elim fails.fails [
    | inl shut ↦
        let cut = shut.1.cut in
        let fail = shut.1.fails.turn in
        record {
          turns = cut ∷ fail ∷ [];
          told_is = ap (λ (o : OwnTold). o.told) shut.1.fails.after_is
              ∙ (append_assoc fails.middle.told (cut ∷ []) (fail ∷ [])
              ∙ ap (λ l. l ++ cut ∷ fail ∷ []) (shut_told before fails.number fails.middle shut.0));
          own = (own_by act.CutAt fails.number cut (λ is. cc is) shut.1.cut_by, (own_by act.Fail fails.number fail (λ is. cc is) shut.1.fails.by, tt));
        }
    | inr begun ↦
        let cut = begun.0.cut in
        let opened = begun.0.opened in
        let fail = begun.1.turn in
        record {
          turns = cut ∷ opened ∷ fail ∷ [];
          told_is = ap (λ (o : OwnTold). o.told) begun.1.after_is
              ∙ (ap (λ (o : OwnTold). o.told ++ fail ∷ []) begun.0.own_is ∙ append_assoc before.told (cut ∷ opened ∷ []) (fail ∷ []));
          own = (
            own_by act.CutAt fails.number cut (λ is. cc is) begun.0.cut_by,
            (own_by act.Opened fails.number opened (λ is. cc is) begun.0.opened_by, (own_by act.Fail fails.number fail (λ is. cc is) begun.1.by, tt)),
          );
        }
  ]

  stops_taken : (before after : OwnTold) → HaltsCommit core flush before after → TakesOwn core flush ack before after
  stops_taken before after halts = elim halts.far [
    | inl shut ↦ record {
      turns = halts.halts.turn ∷ [];
      told_is = ap (λ (o : OwnTold). o.told) halts.halts.after_is
          ∙ ap (λ l. l ++ halts.halts.turn ∷ []) (shut_told before halts.number halts.middle shut);
      own = (own_by act.Halted halts.number halts.halts.turn (λ is. cc is) halts.halts.by, tt);
    }
    | inr begun ↦ record {
      turns = begun.cut ∷ begun.opened ∷ halts.halts.turn ∷ [];
      told_is = ap (λ (o : OwnTold). o.told) halts.halts.after_is
          ∙ (ap (λ (o : OwnTold). o.told ++ halts.halts.turn ∷ []) begun.own_is
          ∙ append_assoc before.told (begun.cut ∷ begun.opened ∷ []) (halts.halts.turn ∷ []));
      own = (
        own_by act.CutAt halts.number begun.cut (λ is. cc is) begun.cut_by,
        (
          own_by act.Opened halts.number begun.opened (λ is. cc is) begun.opened_by,
          (own_by act.Halted halts.number halts.halts.turn (λ is. cc is) halts.halts.by, tt),
        ),
      );
    }
  ]

  commit_refused : (before after : OwnTold) (why : CommitFault) → Commits core flush before after (Err why) → TakesOwn core flush ack before after
  commit_refused before after (fault.DiskFailed faults) comes = fails_taken faults before after comes
  commit_refused before after (fault.NoSpace kind need free) comes = absurd comes
  commit_refused before after (fault.Stopped faults) comes = stops_taken before after comes
  commit_refused before after (fault.Moved node last) comes = absurd comes
  commit_refused before after fault.NoMemory comes = returns_taken before after comes

commit_landed : (core : ℕ) (flush : Flush) (ack : Ack) (before after : OwnTold) → BecomesDurable core flush before ack after
    → TakesOwn core flush (Some ack.moment) before after
commit_landed core flush ack before after comes = record {
  turns = comes.cut ∷ comes.opened ∷ comes.durable ∷ [];
  told_is = ap (λ (o : OwnTold). o.told) comes.after_is;
  own = (
    own_by core flush (Some ack.moment) act.CutAt ack.commit comes.cut (λ is. cc is) comes.cut_by,
    (
      own_by core flush (Some ack.moment) act.Opened ack.commit comes.opened (λ is. cc is) comes.opened_by,
      (record { core_is = comes.durable_by.core_is; flush_is = comes.durable_by.flush_is; ack_is = λ is. ap Some (sym comes.moment) }, tt),
    ),
  );
}

module _ {D : Type 0} (asked : ReserveRequest) (before after : PenHand D) where
  refusal_taken : (ack : Option ℕ) (why : CommitFault) → Reserves asked before after (Err why)
      → TakesOwn before.view.core asked.flush ack (own_at before) (own_at after)
  refusal_taken ack (fault.DiskFailed faults) comes = absurd comes
  refusal_taken ack (fault.NoSpace kind need free) comes = record {
    turns = comes.turn ∷ [];
    told_is = ap (λ (o : OwnTold). o.told) comes.own;
    own = (own_by before.view.core asked.flush ack (act.Short kind need free) 0 comes.turn (λ is. cc is) comes.by, tt);
  }
  refusal_taken ack (fault.Stopped faults) comes = halts_taken before.view.core asked.flush ack 0 (own_at before) (own_at after) comes.halts
  refusal_taken ack (fault.Moved node last) comes = none_taken before.view.core asked.flush ack (own_at before) (own_at after) comes.own
  refusal_taken ack fault.NoMemory comes = none_taken before.view.core asked.flush ack (own_at before) (own_at after) comes

  empty_refused : (ack : Option ℕ) (why : CommitFault) → Empties asked before after (Err why)
      → TakesOwn before.view.core asked.flush ack (own_at before) (own_at after)
  empty_refused ack (fault.DiskFailed faults) comes = absurd comes
  empty_refused ack (fault.NoSpace kind need free) comes = absurd comes
  empty_refused ack (fault.Stopped faults) comes = halts_taken before.view.core asked.flush ack 0 (own_at before) (own_at after) comes.halts
  empty_refused ack (fault.Moved node last) comes = none_taken before.view.core asked.flush ack (own_at before) (own_at after) comes.own
  empty_refused ack fault.NoMemory comes = none_taken before.view.core asked.flush ack (own_at before) (own_at after) comes

  empty_landed : (ack : Ack) → EndsAtOnce asked before after ack → TakesOwn before.view.core asked.flush (Some ack.moment) (own_at before) (own_at after)
  empty_landed ack comes =
      let ends = comes.ends in
      record {
        turns = ends.cut ∷ ends.opened ∷ ends.durable ∷ [];
        told_is = ap (λ (o : OwnTold). o.told) ends.after_is;
        own = (
          own_by before.view.core asked.flush (Some ack.moment) act.CutAt ack.commit ends.cut (λ is. cc is) ends.cut_by,
          (
            own_by before.view.core asked.flush (Some ack.moment) act.Opened ack.commit ends.opened (λ is. cc is) ends.opened_by,
            (record { core_is = ends.durable_by.core_is; flush_is = ends.durable_by.flush_is; ack_is = λ is. ap Some (sym ends.moments.2) }, tt),
          ),
        );
      }

  -- behind the turn of a grant
  grant_taken : (grant : GrantedNumbers) → ReservesGrant asked before after grant → (ack : Option ℕ) (then : OwnTold)
      → TakesOwn before.view.core asked.flush ack (own_at after) then → TakesOwn before.view.core asked.flush ack (own_at before) then
  grant_taken grant reserves ack then more = record {
    turns = reserves.turn ∷ more.turns;
    told_is = more.told_is
        ∙ (ap (λ (o : OwnTold). o.told ++ more.turns) reserves.own ∙ append_assoc (own_at before).told (reserves.turn ∷ []) more.turns);
    own = (own_by before.view.core asked.flush ack act.Granted reserves.number reserves.turn (λ is. cc is) reserves.by, more.own);
  }

-- the moment of an acknowledgement
abbrev pub moment_of : Result Landed CommitRefusal → Option ℕ
moment_of (Ok landed) = Some landed.ack.moment
moment_of (Err refusal) = None

module _ {D : Type 0} (asked : CommitRequest) (before after : PenHand D) where
  grant_comes : (middle : PenHand D) (grant : GrantedNumbers) (result : Result Landed CommitRefusal) (core : ℕ) → middle.view.core ≡ core
      → GrantComes asked.flush middle after asked.change grant result → TakesOwn core asked.flush (moment_of result) (own_at middle) (own_at after)
  grant_comes middle grant result core same (gave_back back out) =
      subst (λ c. TakesOwn c asked.flush (moment_of result) (own_at middle) (own_at after)) same
      (returns_taken middle.view.core asked.flush (moment_of result) (own_at middle) (own_at after) back.comes)
  grant_comes middle grant result core same (committed (Err why) commits out) =
      subst (λ c. TakesOwn c asked.flush (moment_of result) (own_at middle) (own_at after)) same
      (commit_refused middle.view.core asked.flush (moment_of result) (own_at middle) (own_at after) why commits.comes)
  grant_comes middle grant (Ok landed) core same (committed (Ok ack) commits out) =
      subst (λ (z : ℕ × ℕ). TakesOwn z.0 asked.flush (Some z.1) (own_at middle) (own_at after)) (λ i. (same i, ap (λ (a : Ack). a.moment) (sym out.ack_is) i))
      (commit_landed middle.view.core asked.flush ack (own_at middle) (own_at after) commits.comes)
  grant_comes middle grant (Err refusal) core same (committed (Ok ack) commits out) = absurd out

  -- whatever came of a plan
  pub plan_taken : (result : Result Landed CommitRefusal) → PlanComesTo asked before after result
      → TakesOwn before.view.core asked.flush (moment_of result) (own_at before) (own_at after)
  plan_taken result (unasked same out) =
      none_taken before.view.core asked.flush (moment_of result) (own_at before) (own_at after) (ap own_at same)
  plan_taken result (unnumbered why is out) = refusal_taken (reserving_of asked) before after (moment_of result) why is.comes
  plan_taken result (numbered middle grant reserves comes) =
      grant_taken (reserving_of asked) before middle grant reserves.comes (moment_of result) (own_at after)
      (grant_comes middle grant result before.view.core (ap (λ (v : View _ _). v.core) reserves.goes.view) comes)
  plan_taken result (settled (Err why) ends out) = empty_refused (emptying_of asked) before after (moment_of result) why ends.comes
  plan_taken (Ok landed) (settled (Ok ack) ends out) =
      subst (λ (a : Ack). TakesOwn before.view.core asked.flush (Some a.moment) (own_at before) (own_at after)) (sym out.ack_is)
      (empty_landed (emptying_of asked) before after ack ends.comes)
  plan_taken (Err refusal) (settled (Ok ack) ends out) = absurd out
