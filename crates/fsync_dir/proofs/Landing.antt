-- A plan whose commit has become durable has landed.
use Rattle.std.proofs.Common.{◌≡◌, ◌≢◌, ◌<◌, ◌≤◌, ◌∙◌, ℕ, List, length, map, filter_map, Option, Some, Ok, Err, Contains, count_by, refl, sym, ap, subst, arith}
use Rattle.std.specs.FinMap.{get}
use Rattle.space_map.specs.Space.{GrantedNumbers}
use Rattle.disk_change.specs.Planned.{enters}
use Rattle.cut_laws.specs.Rules.{IsOneOf}
use Rattle.slot_laws.specs.Nodes.{last_seen, no_numbers}
use Rattle.slot_laws.specs.declared.label.Seen.{Seen}
use Rattle.mem_values.specs.Account.{commit_told}
use Rattle.mem_values.specs.Facts.{IsBelowInodes}
use Rattle.mem_values.specs.Start.{FileHand}
use Rattle.mem_calls.specs.Working.{IsWorking}
use Rattle.disk_box.specs.Pens.{PenHand}
use Rattle.journal_set.specs.declared.fault.Ack.{Ack}
use Rattle.journal_set.specs.Numbering.{IsNewerThan}
use Rattle.fsync_commit.specs.Asked.{IsChangeOn}
use Rattle.fsync_commit.specs.Coming.{AreLow, GrantComes, HandsLanded, PlanComesTo, committed, gave_back, numbered, settled, unasked, unnumbered}
use Rattle.fsync_commit.specs.declared.landing.Landed.{Landed}
use Rattle.fsync_commit.proofs.Built.{grant_on, none_on}
use Rattle.landing_laws.specs.Made.{PlannedFsync}
use Rattle.landing_laws.specs.Landed.{HasBecomeDurable, LandedFsync}
use Rattle.fsync_dir.specs.Attempt.{HasDrafted}
use Rattle.fsync_dir.specs.Flush.{FlushAt, asked_by}
use Rattle.fsync_dir.specs.Site.{IsSite, ToldAsReserved}
use Rattle.fsync_dir.specs.declared.attempt.PlannedCommit.{PlannedCommit}
use Rattle.fsync_dir.proofs.Pens.{landed_reserved}
use Rattle.fsync_dir.proofs.Planned.{change_on}

-- what landed, of what was planned
abbrev pub landed_of : PlannedFsync → GrantedNumbers → Landed → LandedFsync
landed_of s grant landed = record { planned = s; number = landed.ack.commit; grant = grant; after = landed.nodes.after }

-- The commit of a plan got a number above all that its core had reserved and all that it had seen of its nodes, and a grant that serves it, and with that it
-- has become durable.
pub record GotNumber {D : Type 0} (s : PlannedFsync) (pen : PenHand D) (grant : GrantedNumbers) (landed : Landed) : Type 0 where
  pub newer : IsNewerThan pen.view.mine landed.ack.commit
  pub above : (node last : ℕ) → last_seen s.drafted.draft.seen.items node ≡ Some last → last < landed.ack.commit
  pub enough : count_by enters s.drafted.draft.plan.change.seats ≤ length grant.inodes
  pub hands : HandsLanded s.drafted.draft.plan.change grant landed.ack landed

module _ {D : Type 0} (at : FlushAt D) (s : PlannedFsync) (todo : PlannedCommit) (hand : FileHand) (cores : ℕ) (has : HasDrafted at s todo hand)
    (site : IsSite at.t at.nodes cores at.pen.table.given) where
  first_low : (of : ℕ) → IsBelowInodes s.hand.view.first.first (s.given of)
  first_low of = subst (λ (z : (ℕ → Option _) × ℕ). IsBelowInodes z.1 (z.0 of))
      (λ i. (sym has.tried.given_is i, ap (λ (tree : Rattle.tree_laws.specs.Tree.TreeState). tree.first) (sym has.tried.work.first) i)) (site.below of)

  -- what was planned may be committed
  pub may_commit : IsChangeOn at.pen.table.given.layout s.drafted.draft.plan.change
  may_commit = change_on s has.tried.is first_low at.pen.table.given.layout
      (site.inodes ∙ ap (λ (tree : Rattle.tree_laws.specs.Tree.TreeState). tree.first) (sym has.tried.work.first))
      (let same = has.tried.nodes_are in let few = has.holds.few in omega (arith, same, few))

  module _ (agree : ToldAsReserved hand at.pen) where
    view_same : hand.view ≡ s.hand.view
    view_same = ap (λ (h : FileHand). h.view) has.hollow.after_is

    -- so it has landed
    pub durable : (grant : GrantedNumbers) (landed : Landed) → GotNumber s at.pen grant landed → AreLow at.pen.table.given.layout (Ok landed)
        → HasBecomeDurable at.t (landed_of s grant landed)
    durable grant landed got low = record {
      table = subst (Rattle.mem_calls.specs.Table.IsFileTable at.t) (sym has.tried.nodes_are) site.table;
      disk = subst (λ given. (node : ℕ) → Rattle.std.proofs.Common.is_some (given node) ≡ Rattle.std.proofs.Common.is_some (get at.t.first.nodes node))
          (sym has.tried.given_is) site.disk;
      work = subst (λ given. IsWorking given at.t s.hand) (sym has.tried.given_is) has.tried.work;
      planned = has.tried.is;
      own = subst (λ (f : Rattle.fsync_catch.specs.declared.looking.WaitingFsync.WaitingFsync).
          Rattle.mem_values.specs.Facts.HasFsync (Rattle.stamp_table.specs.Events.calls_in s.hand.view.mine) s.hand.view.core f.node.0 f.stamp.0)
          (sym has.tried.fsync_is) has.holds.mine;
      fresh = λ other told same.
          let lower = got.newer other.number (agree.reserved other
          (subst (λ l. IsOneOf (filter_map commit_told l) other)
          (sym (ap (λ (v : Rattle.stamp_table.specs.declared.view.View.View _ _). v.mine) view_same)) told))
          in
          omega (arith, lower, same);
      above = subst (λ (l : List Seen). (node last : ℕ) → last_seen l node ≡ Some last → last < landed.ack.commit) has.tried.is.lent.seen got.above;
      enough = got.enough;
      after_is = got.hands.after_is;
      low = λ entry there. let one = low entry there in let same = site.inodes in omega (arith, one, same);
    }

  -- the number that it got
  pub got_number : (done : PenHand D) (landed : Landed) → PlanComesTo (asked_by s) at.pen done (Ok landed)
      → (grant : GrantedNumbers) × GotNumber s at.pen grant landed
  got_number done landed (unasked same out) = absurd out
  got_number done landed (unnumbered why is out) = absurd out
  got_number done landed (numbered middle grant reserves comes) =
      let same = landed_reserved (asked_by s) at.pen middle done grant landed reserves comes in (
        grant,
        record {
          newer = subst (IsNewerThan at.pen.view.mine) (sym same) reserves.comes.newer;
          above = subst (λ n. (node last : ℕ) → last_seen s.drafted.draft.seen.items node ≡ Some last → last < n) (sym same) reserves.comes.reserved.above;
          enough = (grant_on (asked_by s) at.pen middle grant reserves.goes reserves.comes site.space may_commit).enough;
          hands = by comes;
        },
      )
    where
      by : GrantComes (asked_by s).flush middle done s.drafted.draft.plan.change grant (Ok landed)
          → HandsLanded s.drafted.draft.plan.change grant landed.ack landed
      by (gave_back back out) = absurd out
      by (committed (Ok ack) commits out) = subst (λ (a : Ack). HandsLanded s.drafted.draft.plan.change grant a landed) (sym out.ack_is) out
      by (committed (Err why) commits out) = absurd out
  got_number done landed (settled (Ok ack) ends out) = (
    no_numbers,
    record {
      newer = subst (λ (a : Ack). IsNewerThan at.pen.view.mine a.commit) (sym out.ack_is) ends.comes.newer;
      above = subst (λ (a : Ack). (node last : ℕ) → last_seen s.drafted.draft.seen.items node ≡ Some last → last < a.commit) (sym out.ack_is)
          ends.comes.reserved.above;
      enough = (none_on at.pen.table.given.layout s.drafted.draft.plan.change may_commit ends.nothing).enough;
      hands = subst (λ (a : Ack). HandsLanded s.drafted.draft.plan.change no_numbers a landed) (sym out.ack_is) out;
    },
  )
  got_number done landed (settled (Err why) ends out) = absurd out
