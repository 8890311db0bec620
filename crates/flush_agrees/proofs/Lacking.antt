-- That a plan which was refused for want of space lacked room: its pen found too little.
use Rattle.std.proofs.Common.{◌≡◌, ◌∙◌, ℕ, Some, Err, subst, sym, Ok, List}
use Rattle.sfs_base.specs.declared.numbers.SpaceKind.{SpaceKind}
use Rattle.sfs_base.proofs.BasicOptions.{some_same, none_some}
use Rattle.space_map.specs.Space.{GrantedNumbers}
use Rattle.tree_laws.specs.declared.reply.Reply.{Reply}
use Rattle.tree_laws.specs.declared.reply.Reply.TheVariants as reply
use Rattle.slot_laws.specs.Telling.{BoxTurn}
use Rattle.disk_box.specs.Pens.{PenHand}
use Rattle.journal_set.specs.Reserving.{FindsShort, Reserves}
use Rattle.journal_set.specs.Telling.{Written, written_of, commit_labels}
use Rattle.journal_set.specs.declared.fault.CommitFault.{CommitFault}
use Rattle.journal_set.specs.declared.fault.CommitFault.TheVariants as fault
use Rattle.journal_set.specs.Emptying.{Empties}
use Rattle.fsync_commit.specs.Asked.{CommitRequest, reserving_of, emptying_of}
use Rattle.fsync_commit.specs.Coming.{committed, GrantComes, gave_back, PlanComesTo, unasked, unnumbered, numbered, settled}
use Rattle.fsync_commit.specs.declared.landing.CommitRefusal.{CommitRefusal}
use Rattle.fsync_dir.specs.Answering.{reply_to}

-- the reply to a refusal tells of how much there was too little
pub lacked_by : (why : CommitFault) (given : Reply) (kind : SpaceKind) (need free : ℕ) → reply_to why ≡ Some given → given ≡ reply.NoSpace kind need free
    → why ≡ fault.NoSpace kind need free
lacked_by (fault.DiskFailed risen) given kind need free is lacks = absurd (cc (some_same is ∙ lacks))
lacked_by (fault.NoSpace own asked have) given kind need free is lacks = cc (some_same is ∙ lacks)
lacked_by (fault.Stopped other) given kind need free is lacks = absurd (cc (some_same is ∙ lacks))
lacked_by (fault.Moved node last) given kind need free is lacks = absurd (none_some is)
lacked_by fault.NoMemory given kind need free is lacks = absurd (cc (some_same is ∙ lacks))

-- where a plan lacked room its pen found that
module _ {D : Type 0} (asked : CommitRequest) (before after : PenHand D) (refusal : CommitRefusal) (kind : SpaceKind) (need free : ℕ)
    (lacks : refusal.fault ≡ fault.NoSpace kind need free) where
  finds_short : (why : CommitFault) → why ≡ fault.NoSpace kind need free → Reserves (reserving_of asked) before after (Err why)
      → FindsShort (reserving_of asked) before after kind need free
  finds_short why same is = subst (λ (w : CommitFault). Reserves (reserving_of asked) before after (Err w)) same is

  empty_never : (why : CommitFault) → why ≡ fault.NoSpace kind need free → Empties (emptying_of asked) before after (Err why) → ⊥
  empty_never why same is = subst (λ (w : CommitFault). Empties (emptying_of asked) before after (Err w)) same is

  commit_never : (core number : ℕ) (written : Written) (why : CommitFault) (turns : List BoxTurn) → why ≡ fault.NoSpace kind need free
      → commit_labels core asked.flush written number (Err why) turns → ⊥
  commit_never core number written why turns same is = subst (λ (w : CommitFault). commit_labels core asked.flush written number (Err w) turns) same is

  granted_never : (middle : PenHand D) (grant : GrantedNumbers) → GrantComes asked.flush middle after asked.change grant (Err refusal) → ⊥
  granted_never middle grant (gave_back back out) = cc (sym lacks ∙ out.fault_is)
  granted_never middle grant (committed (Ok ack) commits out) = out
  granted_never middle grant (committed (Err why) commits out) =
      let are = commits.tells.are in
      commit_never middle.view.core are.number (written_of commits.tx) why commits.tells.turns (sym out.fault_is ∙ lacks) are.is

  pub plan_lacks : PlanComesTo asked before after (Err refusal) → FindsShort (reserving_of asked) before after kind need free
  plan_lacks (unasked same out) = absurd (cc (sym lacks ∙ out.fault_is))
  plan_lacks (unnumbered why is out) = finds_short why (sym out.fault_is ∙ lacks) is.comes
  plan_lacks (numbered middle grant reserves comes) = absurd (granted_never middle grant comes)
  plan_lacks (settled (Ok ack) ends out) = absurd out
  plan_lacks (settled (Err why) ends out) = absurd (empty_never why (sym out.fault_is ∙ lacks) ends.comes)
