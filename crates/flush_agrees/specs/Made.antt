-- What a core made for an fsync whose number its pen reserved, and what the pen's turns at the box say of it.
use Rattle.std.specs.Prelude.{◌≡◌, ◌≤◌, ◌^◌, ◌-◌, ◌↔◌, ℕ, List, is_some, Some, map, [], Option, None, length, count_by, Contains}
use Rattle.sfs_image.specs.Super.{Layout}
use Rattle.fmt_journal.specs.declared.tx.Tx.{Tx}
use Rattle.journal_one.specs.Job.{Job}
use Rattle.journal_one.specs.Packed.{record_entry, block_of}
use Rattle.space_map.specs.Space.{GrantedNumbers}
use Rattle.disk_nodes.specs.OldKept.{OldKept}
use Rattle.disk_change.specs.Planned.{Planned, enters}
use Rattle.disk_change.specs.Written.{IsTransactionOf}
use Rattle.disk_change.specs.AllBuilt.{after_commit, entry_keyed}
use Rattle.made_laws.specs.Made.{CoreMaking, is_concerned}
use Rattle.made_laws.specs.Tells.{last_of_seen}
use Rattle.slot_laws.specs.declared.label.Seen.{Seen}
use Rattle.slot_laws.specs.Nodes.{last_seen, no_numbers}
use Rattle.slot_laws.specs.Telling.{BoxTurn, turn_reserves, turn_empties, turn_begins, turn_refuses}
use Rattle.fsync_commit.specs.Asked.{need_planned}

-- What a core made for an fsync, and the number and the grant of its commit.
pub record FlushMade : Type 0 where
  pub making : CoreMaking
  pub number : ℕ
  pub grant : GrantedNumbers

-- the change of the disk that it planned
abbrev pub change_of : FlushMade → Planned
change_of one = one.making.plan.change

-- what the disk has of a node is what the plan leaves of it with its grant
abbrev pub LeavesOfNode : FlushMade → ℕ → Option OldKept → Type 0
LeavesOfNode one node kept = (old : OldKept) → (kept ≡ Some old) ↔ Contains (after_commit (change_of one) one.grant) (entry_keyed (node, old))

-- Exactly the nodes that an fsync concerns were seen, each with the last commit that its core knew of.
pub record SeesConcerned (making : CoreMaking) (seen : List Seen) : Type 0 where
  pub holds : (node : ℕ) → is_concerned making node ≡ is_some (last_seen seen node)
  pub last : (node last : ℕ) → last_seen seen node ≡ Some last → last_of_seen (making.noted.pending node) ≡ last

-- A job is of the transaction of what was planned with its grant, which gives up these numbers.
pub record IsJobMade (one : FlushMade) (job : Job) (numbers : GrantedNumbers) : Type 0 where
  pub tx : Tx
  pub is : IsTransactionOf (change_of one) one.grant tx
  pub entries : job.entries ≡ map record_entry tx.records.items
  pub fresh : job.fresh ≡ map block_of tx.fresh.items
  pub inodes : tx.freed_inodes.items ≡ numbers.inodes
  pub blocks : tx.freed_blocks.items ≡ numbers.blocks

-- What was planned needs nothing, and its transaction has no record.
pub record WritesNothing (one : FlushMade) : Type 0 where
  pub grant_is : one.grant ≡ no_numbers
  pub tx : Tx
  pub is : IsTransactionOf (change_of one) no_numbers tx
  pub none : tx.records.items ≡ []

-- One turn at the box is of what was made: a number is reserved for exactly the nodes that the fsync concerns, with the grant; a commit begins with the job of
-- its transaction; one that wrote nothing had nothing to write; and a turn that halts it has its number.
abbrev pub TurnMade : FlushMade → BoxTurn → Type 0
TurnMade one (turn_reserves number seen grant turn) = (number ≡ one.number) × (grant ≡ one.grant) × SeesConcerned one.making seen.items
TurnMade one (turn_empties number seen cut opened durable) = (number ≡ one.number) × SeesConcerned one.making seen.items × WritesNothing one
TurnMade one (turn_begins filling number node stamp blocks inodes) =
    (number ≡ one.number) × IsJobMade one filling.job (record { inodes = inodes.items; blocks = blocks.items })
TurnMade one (turn_refuses turn) = turn.commit ≡ one.number
TurnMade one _ = Unit {0}

-- One turn at the box tells no number, and one that is refused a number has none.
abbrev pub TellsNoNumber : BoxTurn → Type 0
TellsNoNumber (turn_reserves number seen grant turn) = ⊥
TellsNoNumber (turn_empties number seen cut opened durable) = ⊥
TellsNoNumber (turn_begins filling number node stamp blocks inodes) = ⊥
TellsNoNumber (turn_refuses turn) = turn.commit ≡ 0
TellsNoNumber _ = Unit {0}

-- what one turn at the box of an fsync says, by what was made for it: it is of that, or tells no number
abbrev pub TurnIsOf : Option FlushMade → BoxTurn → Type 0
TurnIsOf None = TellsNoNumber
TurnIsOf (Some one) = TurnMade one

-- A grant is as much as was planned needs, as far as words have room for it; no more nodes enter than a word counts, and no more blocks were granted than a
-- disk of this layout has.
pub record GrantsNeed (layout : Layout) (one : FlushMade) : Type 0 where
  pub need : need_planned (change_of one) ≡ record { inodes = length one.grant.inodes; blocks = length one.grant.blocks }
  pub few : count_by enters (change_of one).seats ≤ 2 ^ 32 - 1
  pub blocks : length one.grant.blocks ≤ layout.blocks
