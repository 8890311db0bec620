-- What a pen told as a plan was committed.
use Rattle.std.proofs.Common.{◌≡◌, ◌∙◌, ◌∷◌, ◌++◌, ℕ, List, [], Ok, Err, Result, inl, refl, sym, ap, subst, append_assoc}
use Rattle.std.proofs.lemmas.List.Elements.{filter_map-append}
use Rattle.std.proofs.lemmas.List.{append-nil}
use Rattle.sfs_base.proofs.BasicOptions.{some_same}
use Rattle.sfs_base.specs.declared.numbers.NodeId.{NodeId}
use Rattle.space_map.specs.Space.{GrantedNumbers}
use Rattle.cut_laws.specs.Closure.{Flush}
use Rattle.cut_laws.specs.Rules.{IsOneOf}
use Rattle.cut_laws.proofs.Basics.{in_left, in_right}
use Rattle.stamp_table.specs.declared.event.Event.{Event}
use Rattle.slot_laws.specs.declared.label.Label.{Label}
use Rattle.slot_laws.specs.Labels.{OwnTold, nothing_told, own_from}
use Rattle.slot_laws.specs.Telling.{BoxTurn, events_in, turn_empties, turn_reserves, turn_works}
use Rattle.slot_laws.proofs.Telling.{own_both}
use Rattle.disk_change.specs.Planned.{Planned}
use Rattle.disk_box.specs.Pens.{PenHand, own_at}
use Rattle.journal_set.specs.declared.fault.Ack.{Ack}
use Rattle.journal_set.specs.declared.fault.CommitFault.{CommitFault}
use Rattle.journal_set.specs.declared.fault.CommitFault.TheVariants as fault
use Rattle.journal_set.specs.Committing.{Commits}
use Rattle.journal_set.specs.Numbering.{event_reserves, numbers_reserved}
use Rattle.journal_set.specs.Reserving.{ReserveRequest}
use Rattle.journal_set.specs.Telling.{AreTurns, IsOneTurn, TellsCall, TellsNothing, empty_labels, reserve_labels}
use Rattle.fsync_commit.specs.Asked.{CommitRequest, emptying_of, reserving_of}
use Rattle.fsync_commit.specs.Coming.{EndsUnwritten, GrantComes, IsUnnumbered, PlanComesTo, ReservesItsNumber, committed, gave_back, numbered, settled, unasked, unnumbered}
use Rattle.fsync_commit.specs.declared.landing.CommitRefusal.{CommitRefusal}
use Rattle.fsync_commit.specs.declared.landing.Landed.{Landed}

-- what was reserved in a history and what was behind it
pub numbers_more : (log more : List (Event Label)) → numbers_reserved (log ++ more) ≡ numbers_reserved log ++ numbers_reserved more
numbers_more log more = filter_map-append event_reserves log more

-- A pen has told more.
pub record TellsMore {D : Type 0} (before after : PenHand D) : Type 0 where
  pub more : List (Event Label)
  pub mine_is : after.view.mine ≡ before.view.mine ++ more

same_more : {D : Type 0} (before after : PenHand D) → after ≡ before → TellsMore before after
same_more before after same = record { more = []; mine_is = ap (λ (h : PenHand _). h.view.mine) same ∙ sym (append-nil before.view.mine) }

call_more : {D : Type 0} (Are : List BoxTurn → Type 0) (before after : PenHand D) → TellsCall Are before after → TellsMore before after
call_more Are before after tells = record { more = events_in before.view.core tells.turns; mine_is = tells.mine_is }

pub more_again : {D : Type 0} (a b c : PenHand D) → TellsMore a b → TellsMore b c → TellsMore a c
more_again a b c one two = record {
  more = one.more ++ two.more;
  mine_is = two.mine_is ∙ (ap (λ l. l ++ two.more) one.mine_is ∙ append_assoc a.view.mine one.more two.more);
}

-- a number that was reserved was so still
pub still_reserved : {D : Type 0} (before after : PenHand D) (number : ℕ) → TellsMore before after → IsOneOf (numbers_reserved before.view.mine) number
    → IsOneOf (numbers_reserved after.view.mine) number
still_reserved before after number tells one =
    subst (λ (l : List ℕ). IsOneOf l number) (sym (ap numbers_reserved tells.mine_is ∙ numbers_more before.view.mine tells.more))
    (in_left (numbers_reserved before.view.mine) (numbers_reserved tells.more) number one)

grant_more : {D : Type 0} (flush : Flush) (before after : PenHand D) (change : Planned) (grant : GrantedNumbers) (result : Result Landed CommitRefusal)
    → GrantComes flush before after change grant result → TellsMore before after
grant_more flush before after change grant result (gave_back back out) = call_more _ before after back.tells
grant_more flush before after change grant result (committed given commits out) = call_more _ before after commits.tells

-- whatever came of a plan
pub plan_more : {D : Type 0} (asked : CommitRequest) (before after : PenHand D) (result : Result Landed CommitRefusal) → PlanComesTo asked before after result
    → TellsMore before after
plan_more asked before after result (unasked same out) = same_more before after same
plan_more asked before after result (unnumbered why is out) = call_more _ before after is.tells
plan_more asked before after result (numbered middle grant reserves comes) =
    more_again before middle after (call_more _ before middle reserves.tells) (grant_more asked.flush middle after asked.change grant result comes)
plan_more asked before after result (settled given ends out) = call_more _ before after ends.tells

-- what was told in a call makes of what a core told before
own_told : {D : Type 0} (Are : List BoxTurn → Type 0) (before after : PenHand D) → (tells : TellsCall Are before after)
    → own_at after ≡ own_from (events_in before.view.core tells.turns) (own_at before)
own_told Are before after tells =
    ap (λ l. own_from l nothing_told) tells.mine_is ∙ own_both before.view.mine (events_in before.view.core tells.turns) nothing_told

-- The number of a grant that was told is the one that was reserved.
module _ {D : Type 0} (asked : CommitRequest) (before after : PenHand D) (grant : GrantedNumbers) (reserves : ReservesItsNumber asked before after grant) where
  granted_in : (turns : List BoxTurn) → IsOneTurn (reserve_labels before.view.core (reserving_of asked) (Ok grant)) turns
      → own_at after ≡ own_from (events_in before.view.core turns) (own_at before)
      → IsOneOf (numbers_reserved (events_in before.view.core turns)) reserves.comes.number
  granted_in [] is own = absurd is
  granted_in (turn_reserves number seen given turn ∷ []) is own =
      inl (some_same (sym (ap (λ (o : OwnTold). o.reserved) own) ∙ ap (λ (o : OwnTold). o.reserved) reserves.comes.own))
  granted_in (one ∷ other ∷ turns) is own = absurd is
  granted_in (turn_works facts ∷ []) is own = absurd is
  granted_in (_ ∷ []) is own = absurd is

  pub grant_reserved : IsOneOf (numbers_reserved after.view.mine) reserves.comes.number
  grant_reserved =
      subst (λ (l : List ℕ). IsOneOf l reserves.comes.number)
      (sym (ap numbers_reserved reserves.tells.mine_is ∙ numbers_more before.view.mine (events_in before.view.core reserves.tells.turns)))
      (in_right (numbers_reserved before.view.mine) (numbers_reserved (events_in before.view.core reserves.tells.turns)) reserves.comes.number
      (granted_in reserves.tells.turns reserves.tells.are (own_told _ before after reserves.tells)))

-- The number of an empty commit that was told is the one that it ended with.
emptied_in : (core : ℕ) (asked : ReserveRequest) (ack : Ack) (turns : List BoxTurn) → IsOneTurn (empty_labels core asked (Ok ack)) turns
    → IsOneOf (numbers_reserved (events_in core turns)) ack.commit
emptied_in core asked ack [] is = absurd is
emptied_in core asked ack (turn_empties number seen cut opened durable ∷ []) is = inl is.0
emptied_in core asked ack (one ∷ other ∷ turns) is = absurd is
emptied_in core asked ack (turn_works facts ∷ []) is = absurd is
emptied_in core asked ack (_ ∷ []) is = absurd is

pub landed_reserved : {D : Type 0} (asked : CommitRequest) (before middle after : PenHand D) (grant : GrantedNumbers) (landed : Landed)
    → (reserves : ReservesItsNumber asked before middle grant) → GrantComes asked.flush middle after asked.change grant (Ok landed)
    → landed.ack.commit ≡ reserves.comes.number
landed_reserved asked before middle after grant landed reserves (gave_back back out) = absurd out
landed_reserved asked before middle after grant landed reserves (committed (Ok ack) commits out) =
    ap (λ (a : Ack). a.commit) out.ack_is
    ∙ some_same (sym commits.comes.had ∙ ap (λ (o : OwnTold). o.reserved) reserves.comes.own)
landed_reserved asked before middle after grant landed reserves (committed (Err why) commits out) = absurd out

-- the number of a durable commit was reserved
pub number_reserved : {D : Type 0} (asked : CommitRequest) (before after : PenHand D) (landed : Landed) → PlanComesTo asked before after (Ok landed)
    → IsOneOf (numbers_reserved after.view.mine) landed.ack.commit
number_reserved asked before after landed (unasked same out) = absurd out
number_reserved asked before after landed (unnumbered why is out) = absurd out
number_reserved asked before after landed (numbered middle grant reserves comes) =
    still_reserved middle after landed.ack.commit (grant_more asked.flush middle after asked.change grant (Ok landed) comes)
    (subst (IsOneOf (numbers_reserved middle.view.mine)) (sym (landed_reserved asked before middle after grant landed reserves comes))
    (grant_reserved asked before middle grant reserves))
number_reserved asked before after landed (settled (Ok ack) ends out) =
    subst (λ (l : List ℕ). IsOneOf l landed.ack.commit)
    (sym (ap numbers_reserved ends.tells.mine_is ∙ numbers_more before.view.mine (events_in before.view.core ends.tells.turns)))
    (in_right (numbers_reserved before.view.mine) (numbers_reserved (events_in before.view.core ends.tells.turns)) landed.ack.commit
    (subst (IsOneOf (numbers_reserved (events_in before.view.core ends.tells.turns))) (sym (ap (λ (a : Ack). a.commit) out.ack_is))
    (emptied_in before.view.core (emptying_of asked) ack ends.tells.turns ends.tells.are)))
number_reserved asked before after landed (settled (Err why) ends out) = absurd out

-- where nothing is told in a call nothing is reserved
nothing_in : (core : ℕ) (turns : List BoxTurn) → IsOneTurn TellsNothing turns → numbers_reserved (events_in core turns) ≡ []
nothing_in core [] is = absurd is
nothing_in core (turn_works [] ∷ []) is = refl
nothing_in core (one ∷ other ∷ turns) is = absurd is
nothing_in core (turn_works (fact ∷ facts) ∷ []) is = absurd is
nothing_in core (_ ∷ []) is = absurd is

nothing_reserved : {D : Type 0} (before after : PenHand D) → TellsCall (IsOneTurn TellsNothing) before after
    → numbers_reserved after.view.mine ≡ numbers_reserved before.view.mine
nothing_reserved before after tells =
    ap numbers_reserved tells.mine_is
    ∙ (numbers_more before.view.mine (events_in before.view.core tells.turns)
    ∙ (ap (λ l. numbers_reserved before.view.mine ++ l) (nothing_in before.view.core tells.turns tells.are)
    ∙ append-nil (numbers_reserved before.view.mine)))

-- one turn in which nothing is told is some of them
one_idle : {D : Type 0} (before after : PenHand D) → TellsCall (IsOneTurn TellsNothing) before after → TellsCall (AreTurns TellsNothing) before after
one_idle before after tells = record { turns = tells.turns; are = by tells.turns tells.are; mine_is = tells.mine_is }
  where
    by : (turns : List BoxTurn) → IsOneTurn TellsNothing turns → AreTurns TellsNothing turns
    by [] is = tt
    by (one ∷ []) is = (is, tt)
    by (one ∷ other ∷ turns) is = absurd is

-- A plan whose node has moved took no turn.
module _ {D : Type 0} (asked : CommitRequest) (before after : PenHand D) (refusal : CommitRefusal) (node : NodeId) (last : ℕ)
    (moved : refusal.fault ≡ fault.Moved node last) where
  moved_unnumbered : (why : CommitFault) → why ≡ fault.Moved node last → IsUnnumbered asked before after why
      → (own_at after ≡ own_at before) × (numbers_reserved after.view.mine ≡ numbers_reserved before.view.mine)
      × TellsCall (AreTurns TellsNothing) before after
  moved_unnumbered why same is =
      let it = subst (IsUnnumbered asked before after) same is in (it.comes.own, nothing_reserved before after it.tells, one_idle before after it.tells)

  moved_empty : (why : CommitFault) → why ≡ fault.Moved node last → EndsUnwritten asked before after (Err why)
      → (own_at after ≡ own_at before) × (numbers_reserved after.view.mine ≡ numbers_reserved before.view.mine)
      × TellsCall (AreTurns TellsNothing) before after
  moved_empty why same is =
      let it = subst (λ (w : CommitFault). EndsUnwritten asked before after (Err w)) same is in
      (it.comes.own, nothing_reserved before after it.tells, one_idle before after it.tells)

  moved_granted : (middle : PenHand D) (grant : GrantedNumbers) → GrantComes asked.flush middle after asked.change grant (Err refusal) → ⊥
  moved_granted middle grant (gave_back back out) = cc (sym moved ∙ out.fault_is)
  moved_granted middle grant (committed (Ok ack) commits out) = out
  moved_granted middle grant (committed (Err why) commits out) =
      subst (λ (w : CommitFault). Commits middle.view.core asked.flush (own_at middle) (own_at after) (Err w)) (sym out.fault_is ∙ moved) commits.comes

  pub moved_tells : PlanComesTo asked before after (Err refusal)
      → (own_at after ≡ own_at before) × (numbers_reserved after.view.mine ≡ numbers_reserved before.view.mine)
      × TellsCall (AreTurns TellsNothing) before after
  moved_tells (unasked same out) = (
    ap own_at same,
    ap (λ (h : PenHand D). numbers_reserved h.view.mine) same,
    record { turns = []; are = tt; mine_is = ap (λ (h : PenHand D). h.view.mine) same ∙ sym (append-nil before.view.mine) },
  )
  moved_tells (unnumbered why is out) = moved_unnumbered why (sym out.fault_is ∙ moved) is
  moved_tells (numbered middle grant reserves comes) = absurd (moved_granted middle grant comes)
  moved_tells (settled (Ok ack) ends out) = absurd out
  moved_tells (settled (Err why) ends out) = moved_empty why (sym out.fault_is ∙ moved) ends
