-- That the turns of an fsync whose plan was committed go one of the ways with its answer.
use Rattle.std.proofs.Common.{◌≡◌, ◌∙◌, ◌<◌, ◌++◌, ℕ, List, [], Result, Ok, Err, refl, sym, ap, subst, append-nil}
use Rattle.tree_laws.specs.declared.reply.Reply.{Reply}
use Rattle.tree_laws.specs.declared.reply.Reply.TheVariants as reply
use Rattle.cut_laws.specs.Closure.{Flush}
use Rattle.space_map.specs.Space.{GrantedNumbers}
use Rattle.disk_change.specs.Planned.{Planned}
use Rattle.slot_laws.specs.Labels.{OwnTold}
use Rattle.slot_laws.specs.Nodes.{no_numbers}
use Rattle.disk_box.specs.Pens.{PenHand, own_at}
use Rattle.journal_set.specs.Committing.{Commits}
use Rattle.journal_set.specs.declared.fault.Ack.{Ack}
use Rattle.journal_set.specs.declared.fault.CommitFault.{CommitFault}
use Rattle.journal_set.specs.declared.fault.CommitFault.TheVariants as fault
use Rattle.journal_set.specs.Emptying.{Empties}
use Rattle.journal_set.specs.Returning.{ReturnsNumber}
use Rattle.journal_set.specs.Reserving.{Reserves}
use Rattle.journal_set.specs.Ways.{IsAnsweredBy, IsReplyTo, TakesWay}
use Rattle.journal_set.proofs.Turned.{core_kept}
use Rattle.journal_set.proofs.WaysGone.{commits_go_ways, empty_commits_go_ways, refusals_go_ways, returns_go_ways}
use Rattle.fsync_commit.specs.Asked.{CommitRequest, emptying_of, reserving_of}
use Rattle.fsync_commit.specs.Coming.{PlanComesTo, CommitsBuilt, HandsGrantBack, GrantComes, HandsOut, ReservesItsNumber, committed, gave_back, given_by, numbered, settled, unasked, unnumbered}
use Rattle.fsync_commit.specs.declared.landing.CommitRefusal.{CommitRefusal}
use Rattle.fsync_commit.specs.declared.landing.Landed.{Landed}

-- what is handed out is by what the journals answered
pub handed : (change : Planned) (grant : GrantedNumbers) (given : Result Ack CommitFault) (result : Result Landed CommitRefusal)
    → HandsOut change grant given result → given_by result ≡ given
handed change grant (Ok ack) (Ok landed) out = ap Ok out.ack_is
handed change grant (Ok ack) (Err refusal) out = absurd out
handed change grant (Err why) (Ok landed) out = absurd out
handed change grant (Err why) (Err refusal) out = ap Err out.fault_is

module _ {D : Type 0} (asked : CommitRequest) (before after : PenHand D) (given : Reply) where
  -- so the answer is by that
  answered : (result : Result Landed CommitRefusal) (grant : GrantedNumbers) (told : Result Ack CommitFault) → HandsOut asked.change grant told result
      → IsAnsweredBy (given_by result) given → IsAnsweredBy told given
  answered result grant told out is = subst (λ r. IsAnsweredBy r given) (handed asked.change grant told result out) is

  numbered_way : (middle : PenHand D) (grant : GrantedNumbers) (result : Result Landed CommitRefusal) → ReservesItsNumber asked before middle grant
      → GrantComes asked.flush middle after asked.change grant result → IsAnsweredBy (given_by result) given → TakesWay given (own_at before) (own_at after)
  numbered_way middle grant result has (gave_back back out) is =
      let same = core_kept before middle has.goes in
      subst (λ r. TakesWay r (own_at before) (own_at after)) (sym (answered result no_numbers (Err fault.NoMemory) out is))
      (returns_go_ways D (reserving_of asked) before middle grant (own_at after) has.comes has.comes.reserved.numbered
      (subst (λ core. ReturnsNumber core asked.flush (own_at middle) (own_at after)) same back.comes))
  numbered_way middle grant result has (committed told built out) is =
      let same = core_kept before middle has.goes in
      commits_go_ways D (reserving_of asked) before middle grant (own_at after) told given has.comes has.comes.reserved.numbered
      (subst (λ core. Commits core asked.flush (own_at middle) (own_at after) told) same built.comes) (answered result grant told out is)

  -- The turns go one of the ways.
  pub takes_way : (result : Result Landed CommitRefusal) → PlanComesTo asked before after result → IsAnsweredBy (given_by result) given
      → TakesWay given (own_at before) (own_at after)
  takes_way result (unasked same out) is =
      subst (λ (h : PenHand D). TakesWay given (own_at before) (own_at h)) (sym same)
      (refusals_go_ways D (reserving_of asked) before before fault.NoMemory given refl (answered result no_numbers (Err fault.NoMemory) out is))
  takes_way result (unnumbered why refused out) is =
      refusals_go_ways D (reserving_of asked) before after why given refused.comes (answered result no_numbers (Err why) out is)
  takes_way result (numbered middle grant has came) is = numbered_way middle grant result has came is
  takes_way result (settled told it out) is =
      empty_commits_go_ways D (emptying_of asked) before after told given it.comes (λ ack same. some ack told same it.comes)
      (answered result no_numbers told out is)
    where
      some : (ack : Ack) (told : Result Ack CommitFault) → told ≡ Ok ack → Empties (emptying_of asked) before after told → 0 < ack.commit
      some ack told same comes = (subst (Empties (emptying_of asked) before after) same comes).reserved.numbered
