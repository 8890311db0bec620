-- When a ledger is what labels have told.
use Rattle.std.specs.Prelude.{◌≡◌, ℕ, List, Option, Some, None}
use Rattle.sfs_base.specs.declared.numbers.CoreId.{CoreId}
use Rattle.sfs_image.specs.Super.{Layout}
use Rattle.space_map.specs.Space.{GrantedNumbers}
use Rattle.cut_laws.specs.Rules.{IsOneOf}
use Rattle.stamp_table.specs.declared.event.Event.TheVariants.{Told}
use Rattle.slot_laws.specs.declared.label.Label.{Label}
use Rattle.slot_laws.specs.Nodes.{ReservedCommit, no_numbers}
use Rattle.slot_laws.specs.Labels.{BoxPast, after_label}
use Rattle.slot_laws.specs.Lasts.{LastsFit}
use Rattle.slot_laws.specs.Grants.{AreTheirGrants, SpaceDoes}
use Rattle.commit_ledger.specs.View.{DebtView, OpenView, LedgerView, last_in, open_in}

-- A commit was granted what a debt is for, and gives up the same.
pub record HasDebt (debt : DebtView) (commit : ReservedCommit) : Type 0 where
  pub grant : commit.grant ≡ debt.grant
  pub gives_up : commit.gives_up ≡ debt.gives_up

-- a commit that has not begun in a slot gives up nothing, and one that has owes what was told
abbrev pub Owes : Option DebtView → ReservedCommit → Type 0
Owes None commit = commit.gives_up ≡ no_numbers
Owes (Some debt) commit = HasDebt debt commit

-- An open commit was told with its number and its nodes, and with its debt where it has one.
pub record IsTold (opens : List ReservedCommit) (one : OpenView) : Type 0 where
  pub commit : ReservedCommit
  pub among : IsOneOf opens commit
  pub number_is : commit.number ≡ one.number
  pub seen_is : commit.seen ≡ one.seen
  pub owes : Owes one.debt commit

-- A ledger is what labels have told: the numbers given, the last commit of each node, and each core's open commit, by a number of its own; what is
-- granted in its map is what the open commits were granted; and last commits fit them.
pub record LedgerKeeps (ledger : LedgerView) (past : BoxPast) : Type 0 where
  pub commits : ledger.commits ≡ past.commits
  pub lasts : (node : ℕ) → last_in ledger node ≡ past.lasts node
  pub opens : (core : ℕ) (one : OpenView) → open_in ledger core ≡ Some one → IsTold past.opens one
  pub apart : (core other : ℕ) (one two : OpenView) → open_in ledger core ≡ Some one → open_in ledger other ≡ Some two → one.number ≡ two.number
      → core ≡ other
  pub grants : AreTheirGrants past.opens ledger.space
  pub fits : LastsFit past.lasts past.opens past.done past.commits

-- From one ledger to another goes what a label tells, whichever core tells it: the other is what is told with it, and its map does what the label says.
pub record LedgerGoes (fact : Label) (past : BoxPast) (old new : LedgerView) : Type 0 where
  pub keeps : (layout : Layout) (core : ℕ) → LedgerKeeps new (after_label layout core fact past)
  pub space : (core : CoreId) → SpaceDoes (Told core fact) past old.space new.space

-- An open commit with a number was granted this.
pub record WasGranted (opens : List ReservedCommit) (number : ℕ) (grant : GrantedNumbers) : Type 0 where
  pub commit : ReservedCommit
  pub among : IsOneOf opens commit
  pub number_is : commit.number ≡ number
  pub grant_is : commit.grant ≡ grant
