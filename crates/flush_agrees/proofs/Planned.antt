-- What came of committing a plan is of what the core made for it.
use Rattle.std.specs.List.Sorted.{IsStrictlyIncreasing}
use Rattle.std.proofs.Common.{◌≡◌, ◌++◌, ◌<◌, ◌≤◌, ◌^◌, ◌-◌, ◌∷◌, ◌∙◌, Option, Some, Result, List, ℕ, Ok, Contains, length, slice_index, count_by, subst, sym, None, [], Err, ap, refl, append_assoc, arith, append-nil}
use Rattle.std.proofs.lemmas.List.Elements.{Contains-get_or}
use Rattle.sfs_base.proofs.BasicOptions.{none_some, some_same}
use Rattle.sfs_image.proofs.EntriesLaws.{few_below, place_below}
use Rattle.space_map.specs.Space.{GrantedNumbers}
use Rattle.disk_change.specs.Planned.{enters, Planned}
use Rattle.disk_change.specs.Written.{IsTransactionOf}
use Rattle.cut_laws.specs.Rules.{IsOneOf}
use Rattle.stamp_table.specs.declared.view.View.{View}
use Rattle.made_laws.specs.Made.{CoreMaking}
use Rattle.slot_laws.specs.Telling.{BoxTurn, events_in, TellTurns, turn_reserves, turn_works, turn_empties}
use Rattle.slot_laws.specs.Labels.{OwnTold, own_from, nothing_told}
use Rattle.slot_laws.specs.Nodes.{no_numbers}
use Rattle.slot_laws.proofs.Telling.{events_both, tell_both, own_both}
use Rattle.disk_box.specs.Pens.{PenHand, own_at}
use Rattle.journal_set.specs.Numbering.{numbers_reserved, IsNewerThan}
use Rattle.journal_set.specs.Telling.{AreTurns, IsOneTurn, TellsRefusal, reserve_labels, OfReserved, TellsReturn, written_of, empty_labels}
use Rattle.journal_set.specs.declared.fault.CommitFault.{CommitFault}
use Rattle.journal_set.specs.declared.fault.Ack.{Ack}
use Rattle.journal_set.specs.declared.fault.CommitFault.TheVariants as fault
use Rattle.journal_set.proofs.Ties.{refusal_tells}
use Rattle.journal_set.proofs.TiedCommits.{reservings_tell, returns_tell, commits_tell, empty_commits_tell}
use Rattle.fsync_commit.specs.Asked.{CommitRequest, IsChangeOn, IsSpaceOn, need_planned, reserving_of, emptying_of}
use Rattle.fsync_commit.specs.declared.landing.Landed.{Landed}
use Rattle.fsync_commit.specs.Coming.{HandsLanded, HandsOut, ReservesItsNumber, GrantComes, gave_back, committed, EndsUnwritten, settled, PlanComesTo, unasked, unnumbered, numbered}
use Rattle.fsync_commit.specs.declared.landing.CommitRefusal.{CommitRefusal}
use Rattle.fsync_commit.proofs.Built.{grant_on}
use Rattle.fsync_dir.proofs.Pens.{landed_reserved, still_reserved, grant_reserved, number_reserved}
use Rattle.flush_agrees.specs.Made.{FlushMade, GrantsNeed, TurnIsOf, SeesConcerned, TellsNoNumber, TurnMade}
use Rattle.flush_agrees.proofs.BoxTurns.{return_made, commit_made_so, both_are, one_turn, refusal_none}

-- What was made for a plan got a number above all of its pen's, which the pen reserved, with a grant of what it needs.
pub record IsNumberedPlan {D : Type 0} (making : CoreMaking) (before after : PenHand D) (one : FlushMade) : Type 0 where
  pub making_is : one.making ≡ making
  pub reserved : IsOneOf (numbers_reserved after.view.mine) one.number
  pub newer : IsNewerThan before.view.mine one.number
  pub grants : GrantsNeed before.table.given.layout one

-- A plan has landed: what was made for it got the commit's number, and the disk has of its nodes what it leaves with its grant.
pub record LandsMade (asked : CommitRequest) (made : Option FlushMade) (landed : Landed) : Type 0 where
  pub one : FlushMade
  pub is : made ≡ Some one
  pub number_is : one.number ≡ landed.ack.commit
  pub hands : HandsLanded asked.change one.grant landed.ack landed

-- What came of a plan that a core made, by its turns at the box.
pub record PlanAgrees {D : Type 0} (asked : CommitRequest) (making : CoreMaking) (before after : PenHand D) (result : Result Landed CommitRefusal)
    : Type 0 where
  pub made : Option FlushMade
  pub turns : List BoxTurn
  pub mine_is : after.view.mine ≡ before.view.mine ++ events_in before.view.core turns
  pub tells : (stamps : ℕ → ℕ) → ((one : FlushMade) → made ≡ Some one → stamps one.number ≡ asked.flush.stamp)
      → TellTurns stamps before.view.core (own_at before) turns
  pub are : AreTurns (TurnIsOf made) turns
  pub numbered : (one : FlushMade) → made ≡ Some one → IsNumberedPlan making before after one
  pub landed : (landed : Landed) → result ≡ Ok landed → LandsMade asked made landed

-- what was told in turns at the box makes of what a core told before
pub own_behind : {D : Type 0} (before after : PenHand D) (turns : List BoxTurn)
    → after.view.mine ≡ before.view.mine ++ events_in before.view.core turns → own_at after ≡ own_from (events_in before.view.core turns) (own_at before)
own_behind before after turns mine =
    ap (λ l. own_from l nothing_told) mine ∙ own_both before.view.mine (events_in before.view.core turns) nothing_told

-- numbers that ascend below a bound are no more than that
few_numbers : (numbers : List ℕ) (bound : ℕ) → IsStrictlyIncreasing numbers → ((number : ℕ) → Contains numbers number → number < bound)
    → length numbers ≤ bound
few_numbers numbers bound up below =
    few_below (length numbers) bound (slice_index numbers) (λ k. place_below numbers k up)
    (λ k within. below (slice_index numbers k) (Contains-get_or numbers k 0 within))

module _ {D : Type 0} (asked : CommitRequest) (making : CoreMaking) (before after : PenHand D) (sees : SeesConcerned making asked.seen)
    (change_is : making.plan.change ≡ asked.change) (on : IsChangeOn before.table.given.layout asked.change)
    (space : IsSpaceOn before.table.given.layout before.table.given.space) where
  few_enter : count_by enters making.plan.change.seats ≤ 2 ^ 32 - 1
  few_enter = subst (λ (c : Planned). count_by enters c.seats ≤ 2 ^ 32 - 1) (sym change_is) on.few

  -- a plan without a number
  unnumbered_agrees : (result : Result Landed CommitRefusal) (turns : List BoxTurn) → after.view.mine ≡ before.view.mine ++ events_in before.view.core turns
      → ((landed : Landed) → result ≡ Ok landed → ⊥) → AreTurns TellsNoNumber turns
      → ((stamps : ℕ → ℕ) → TellTurns stamps before.view.core (own_at before) turns) → PlanAgrees asked making before after result
  unnumbered_agrees result turns mine never are tells = record {
    made = None;
    turns = turns;
    mine_is = mine;
    tells = λ stamps has. tells stamps;
    are = are;
    numbered = λ one is. absurd (none_some is);
    landed = λ landed is. absurd (never landed is);
  }

  refusal_turns : (why : CommitFault) (turns : List BoxTurn) → IsOneTurn (TellsRefusal before.view.core asked.flush why) turns → (stamps : ℕ → ℕ)
      → TellTurns stamps before.view.core (own_at before) turns
  refusal_turns why [] is stamps = absurd is
  refusal_turns why (one ∷ []) is stamps = (refusal_tells stamps before.view.core (own_at before) asked.flush why one is, tt)
  refusal_turns why (one ∷ other ∷ turns) is stamps = absurd is

  -- what is handed out of a commit that was refused is no landing
  not_landed : (change : Planned) (grant : GrantedNumbers) (why : CommitFault) (result : Result Landed CommitRefusal) → HandsOut change grant (Err why) result
      → (landed : Landed) → result ≡ Ok landed → ⊥
  not_landed change grant why (Ok other) out landed is = out
  not_landed change grant why (Err refusal) out landed is = cc is

  -- A plan that reserved a number.
  module _ (middle : PenHand D) (grant : GrantedNumbers) (reserves : ReservesItsNumber asked before middle grant) where
    abbrev m : FlushMade
    m = record { making = making; number = reserves.comes.number; grant = grant }

    abbrev core : ℕ
    core = before.view.core

    core_same : middle.view.core ≡ before.view.core
    core_same = ap (λ (v : View _ _). v.core) reserves.goes.view

    its_number : (number : ℕ) → (own_at middle).reserved ≡ Some number → number ≡ reserves.comes.number
    its_number number had = some_same (sym had ∙ ap (λ (o : OwnTold). o.reserved) reserves.comes.own)

    grants : GrantsNeed before.table.given.layout m
    grants = record {
      need = ap need_planned change_is ∙ (λ i. record { inodes = sym reserves.comes.reserved.inodes i; blocks = sym reserves.comes.reserved.blocks i });
      few = few_enter;
      blocks = few_numbers grant.blocks before.table.given.layout.blocks reserves.comes.reserved.took.blocks.ascending
          (λ number has. ((grant_on asked before middle grant reserves.goes reserves.comes space on).blocks number has).high);
    }

    granted_turns : (turns : List BoxTurn) → IsOneTurn (reserve_labels core (reserving_of asked) (Ok grant)) turns
        → own_at middle ≡ own_from (events_in core turns) (own_at before)
        → AreTurns (TurnMade m) turns
        × ((stamps : ℕ → ℕ) → stamps reserves.comes.number ≡ asked.flush.stamp → TellTurns stamps core (own_at before) turns)
    granted_turns [] is own = absurd is
    granted_turns (turn_reserves number seen given turn ∷ []) is own =
        let same : number ≡ reserves.comes.number =
        some_same (sym (ap (λ (o : OwnTold). o.reserved) own) ∙ ap (λ (o : OwnTold). o.reserved) reserves.comes.own) in (
          ((same, is.0, subst (SeesConcerned making) (sym is.1) sees), tt),
          λ stamps named. (
            reservings_tell stamps core (own_at before) (reserving_of asked) (Ok grant) (turn_reserves number seen given turn)
                (ap stamps same ∙ named) is,
            tt,
          ),
        )
    granted_turns (turn_works facts ∷ []) is own = absurd is
    granted_turns (_ ∷ []) is own = absurd is
    granted_turns (one ∷ other ∷ turns) is own = absurd is

    -- what a core told behind its grant
    record Behind (from : ℕ) (turns : List BoxTurn) : Type 0 where
      mine_is : after.view.mine ≡ middle.view.mine ++ events_in from turns
      are : AreTurns (TurnMade m) turns
      tells : (stamps : ℕ → ℕ) → stamps reserves.comes.number ≡ asked.flush.stamp → TellTurns stamps from (own_at middle) turns

    returned_turns : (turns : List BoxTurn)
        → IsOneTurn (OfReserved (own_at middle) (λ number. TellsReturn middle.view.core number asked.flush)) turns
        → AreTurns (TurnMade m) turns
        × ((stamps : ℕ → ℕ) → stamps reserves.comes.number ≡ asked.flush.stamp → TellTurns stamps middle.view.core (own_at middle) turns)
    returned_turns [] is = absurd is
    returned_turns (one ∷ []) is = (
      (return_made m middle.view.core is.number asked.flush (its_number is.number is.had) one is.is, tt),
      λ stamps named. (
        returns_tell stamps middle.view.core is.number asked.flush (own_at middle) one
            (record { had = is.had; named = ap stamps (its_number is.number is.had) ∙ named }) is.is,
        tt,
      ),
    )
    returned_turns (one ∷ other ∷ turns) is = absurd is

    behind_grant : (result : Result Landed CommitRefusal) → GrantComes asked.flush middle after asked.change grant result
        → (turns : List BoxTurn) × Behind middle.view.core turns
    behind_grant result (gave_back back out) =
        let said = returned_turns back.tells.turns back.tells.are in
        (back.tells.turns, record { mine_is = back.tells.mine_is; are = said.0; tells = said.1 })
    behind_grant result (committed given commits out) =
        let is = commits.tells.are in (
          commits.tells.turns,
          record {
            mine_is = commits.tells.mine_is;
            are = commit_made_so m middle.view.core is.number asked.flush (its_number is.number is.had) commits.tx
                (subst (λ (c : Planned). IsTransactionOf c grant commits.tx) (sym change_is) commits.is) given commits.tells.turns is.is;
            tells = λ stamps named.
                commits_tell stamps middle.view.core is.number asked.flush (written_of commits.tx) (own_at middle) given commits.tells.turns
                (record { had = is.had; named = ap stamps (its_number is.number is.had) ∙ named }) is.is;
          },
        )

    landed_with : (result : Result Landed CommitRefusal) (landed : Landed) → result ≡ Ok landed
        → GrantComes asked.flush middle after asked.change grant result → LandsMade asked (Some m) landed
    landed_with (Err refusal) landed is comes = absurd (cc is)
    landed_with (Ok other) landed is comes = by landed (subst (GrantComes asked.flush middle after asked.change grant) is comes)
      where
        by : (landed : Landed) → GrantComes asked.flush middle after asked.change grant (Ok landed) → LandsMade asked (Some m) landed
        by landed (gave_back back out) = absurd out
        by landed (committed (Err why) commits out) = absurd out
        by landed (committed (Ok ack) commits out) = record {
          one = m;
          is = refl;
          number_is = sym (landed_reserved asked before middle after grant landed reserves (committed (Ok ack) commits out));
          hands = subst (λ (a : Ack). HandsLanded asked.change grant a landed) (sym out.ack_is) out;
        }

    numbered_agrees : (result : Result Landed CommitRefusal) → GrantComes asked.flush middle after asked.change grant result
        → PlanAgrees asked making before after result
    numbered_agrees result comes =
        let own = own_behind before middle reserves.tells.turns reserves.tells.mine_is in
        let first = granted_turns reserves.tells.turns reserves.tells.are own in
        let found = behind_grant result comes in
        let behind : Behind core found.0 = subst (λ c. Behind c found.0) core_same found.1 in
        record {
          made = Some m;
          turns = reserves.tells.turns ++ found.0;
          mine_is = behind.mine_is
              ∙ (ap (λ l. l ++ events_in core found.0) reserves.tells.mine_is
              ∙ (append_assoc before.view.mine (events_in core reserves.tells.turns) (events_in core found.0)
              ∙ ap (λ l. before.view.mine ++ l) (sym (events_both core reserves.tells.turns found.0))));
          tells = λ stamps has.
              tell_both stamps core (own_at before) reserves.tells.turns found.0 (first.1 stamps (has m refl))
              (subst (λ o. TellTurns stamps core o found.0) own (behind.tells stamps (has m refl)));
          are = both_are (TurnMade m) reserves.tells.turns found.0 first.0 behind.are;
          numbered = λ one is. subst (IsNumberedPlan making before after) (some_same is) (record {
            making_is = refl;
            reserved = still_reserved middle after reserves.comes.number (record { more = events_in core found.0; mine_is = behind.mine_is })
                (grant_reserved asked before middle grant reserves);
            newer = reserves.comes.newer;
            grants = grants;
          });
          landed = λ landed is. landed_with result landed is comes;
        }

  -- A plan with nothing to write.
  module _ (given : Result Ack CommitFault) (ends : EndsUnwritten asked before after given) where
    empty_turns : (ack : Ack) (m : FlushMade) → m ≡ record { making = making; number = ack.commit; grant = no_numbers } → (turns : List BoxTurn)
        → IsOneTurn (empty_labels before.view.core (emptying_of asked) (Ok ack)) turns
        → AreTurns (TurnMade m) turns
        × ((stamps : ℕ → ℕ) → stamps ack.commit ≡ asked.flush.stamp → TellTurns stamps before.view.core (own_at before) turns)
    empty_turns ack m same [] is = absurd is
    empty_turns ack m same (turn_empties number seen cut opened durable ∷ []) is = (
      (
        subst (λ (one : FlushMade). TurnMade one (turn_empties number seen cut opened durable)) (sym same) (
          is.0,
          subst (SeesConcerned making) (sym is.1) sees,
          record {
            grant_is = refl;
            tx = ends.tx;
            is = subst (λ (c : Planned). IsTransactionOf c no_numbers ends.tx) (sym change_is) ends.is;
            none = ends.none;
          },
        ),
        tt,
      ),
      λ stamps named. (
        empty_commits_tell stamps before.view.core (own_at before) (emptying_of asked) (Ok ack) (turn_empties number seen cut opened durable)
            (ap stamps is.0 ∙ named) is,
        tt,
      ),
    )
    empty_turns ack m same (turn_works facts ∷ []) is = absurd is
    empty_turns ack m same (_ ∷ []) is = absurd is
    empty_turns ack m same (one ∷ other ∷ turns) is = absurd is

  settled_agrees : (result : Result Landed CommitRefusal) (given : Result Ack CommitFault) → EndsUnwritten asked before after given
      → HandsOut asked.change no_numbers given result → PlanAgrees asked making before after result
  settled_agrees result (Err why) ends out =
      unnumbered_agrees result ends.tells.turns ends.tells.mine_is (not_landed asked.change no_numbers why result out)
      (one_turn (TellsRefusal before.view.core asked.flush why) TellsNoNumber (refusal_none before.view.core asked.flush why) ends.tells.turns ends.tells.are)
      (refusal_turns why ends.tells.turns ends.tells.are)
  settled_agrees (Err refusal) (Ok ack) ends out = absurd out
  settled_agrees (Ok landed) (Ok ack) ends out =
      let said = empty_turns (Ok ack) ends ack m refl ends.tells.turns ends.tells.are in
      record {
        made = Some m;
        turns = ends.tells.turns;
        mine_is = ends.tells.mine_is;
        tells = λ stamps has. said.1 stamps (has m refl);
        are = said.0;
        numbered = λ one is. subst (IsNumberedPlan making before after) (some_same is) (record {
          making_is = refl;
          reserved = subst (IsOneOf (numbers_reserved after.view.mine)) (ap (λ (a : Ack). a.commit) out.ack_is)
              (number_reserved asked before after landed (settled (Ok ack) ends out));
          newer = ends.comes.newer;
          grants = record { need = ap need_planned change_is ∙ ends.nothing; few = few_enter; blocks = omega arith };
        });
        landed = λ other is. lands other (some_ok is);
      }
    where
      m : FlushMade
      m = record { making = making; number = ack.commit; grant = no_numbers }

      some_ok : {other : Landed} → ◌≡◌ {A = Result Landed CommitRefusal} (Ok landed) (Ok other) → landed ≡ other
      some_ok is = cc is

      lands : (other : Landed) → landed ≡ other → LandsMade asked (Some m) other
      lands other same = subst (LandsMade asked (Some m)) same (record {
        one = m;
        is = refl;
        number_is = ap (λ (a : Ack). a.commit) (sym out.ack_is);
        hands = subst (λ (a : Ack). HandsLanded asked.change no_numbers a landed) (sym out.ack_is) out;
      })

  -- whatever came of it
  pub plan_agrees : (result : Result Landed CommitRefusal) → PlanComesTo asked before after result → PlanAgrees asked making before after result
  plan_agrees result (unasked same out) =
      unnumbered_agrees result [] (ap (λ (h : PenHand D). h.view.mine) same ∙ sym (append-nil before.view.mine))
      (not_landed asked.change no_numbers fault.NoMemory result out) tt (λ stamps. tt)
  plan_agrees result (unnumbered why is out) =
      unnumbered_agrees result is.tells.turns is.tells.mine_is (not_landed asked.change no_numbers why result out)
      (one_turn (TellsRefusal before.view.core asked.flush why) TellsNoNumber (refusal_none before.view.core asked.flush why) is.tells.turns is.tells.are)
      (refusal_turns why is.tells.turns is.tells.are)
  plan_agrees result (numbered middle grant reserves comes) = numbered_agrees middle grant reserves result comes
  plan_agrees result (settled given ends out) = settled_agrees result given ends out
