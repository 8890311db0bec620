-- What the calls of a ledger do, and what they ask.
use Rattle.std.specs.Prelude.{◌≡◌, ◌+◌, ◌<◌, ℕ, List, length, Some, None, is_some, if◌then◌else◌, slice_set}
use Rattle.space_map.specs.Space.{Space, GrantedNumbers, AllGranted}
use Rattle.space_map.specs.Pool.{BecomeAll, Ends}
use Rattle.space_map.specs.declared.status.Status.TheVariants.{Free}
use Rattle.space_map.specs.declared.grant.Need.{Need}
use Rattle.slot_laws.specs.declared.label.Seen.{Seen}
use Rattle.slot_laws.specs.Nodes.{last_seen, last_ended, returned_last, reserved_lasts}
use Rattle.slot_laws.specs.Grants.{TakesGrant}
use Rattle.commit_ledger.specs.declared.beginning.Prepared.{Prepared}
use Rattle.commit_ledger.specs.View.{DebtView, OpenView, LedgerView, last_in, open_in, HaveNodePlaces}

-- A grant was taken from a ledger's map, and nothing else has changed of what it says.
pub record HasTaken (grant : GrantedNumbers) (old new : LedgerView) : Type 0 where
  pub space : TakesGrant old.space grant new.space
  pub commits : new.commits ≡ old.commits
  pub lasts : (node : ℕ) → last_in new node ≡ last_in old node
  pub opens : new.opens ≡ old.opens

-- A commit is prepared: it has the next number, its nodes as they were seen, and a grant of as many inodes and blocks as it needs; and each of its
-- nodes has its place.
pub record Prepares (seen : List Seen) (need : Need) (prepared : Prepared) (old new : LedgerView) : Type 0 where
  pub number : prepared.number ≡ old.commits + 1
  pub seen_is : prepared.seen.items ≡ seen
  pub inodes : length prepared.grant.inodes ≡ need.inodes
  pub blocks : length prepared.grant.blocks ≡ need.blocks
  pub taken : HasTaken prepared.grant old new
  pub places : HaveNodePlaces new.lasts seen

-- A core of the ledger has no open commit, and each of these nodes has its place.
pub record MayEnter (core : ℕ) (seen : List Seen) (ledger : LedgerView) : Type 0 where
  pub within : core < length ledger.opens
  pub none : open_in ledger core ≡ None
  pub places : HaveNodePlaces ledger.lasts seen

-- A commit is a core's open one, with the last number given, and the last one of each of its nodes.
pub record EntersCommit (core number : ℕ) (seen : List Seen) (old new : LedgerView) : Type 0 where
  pub space : new.space ≡ old.space
  pub commits : new.commits ≡ number
  pub lasts : (node : ℕ) → last_in new node ≡ reserved_lasts number seen (last_in old) node
  pub places : length new.lasts ≡ length old.lasts
  pub opens : new.opens ≡ slice_set old.opens core (Some (record { number = number; seen = seen; debt = None }))

-- A core has an open commit, and each of its nodes has its place.
pub record HasOpen (core : ℕ) (ledger : LedgerView) : Type 0 where
  pub one : OpenView
  pub there : open_in ledger core ≡ Some one
  pub places : HaveNodePlaces ledger.lasts one.seen

-- One that has not begun in a slot.
pub record HasEntered (core : ℕ) (ledger : LedgerView) : Type 0 where
  pub own : HasOpen core ledger
  pub none : own.one.debt ≡ None

-- all numbers of a grant are granted in a map
pub record IsOut (space : Space) (grant : GrantedNumbers) : Type 0 where
  pub inodes : AllGranted space.inodes grant.inodes
  pub blocks : AllGranted space.blocks grant.blocks

-- A commit that has not begun in a slot, and a grant that is out.
pub record MayReturn (core : ℕ) (grant : GrantedNumbers) (ledger : LedgerView) : Type 0 where
  pub entered : HasEntered core ledger
  pub out : IsOut ledger.space grant

-- A commit that has begun in a slot, and its grant is out.
pub record MayEnd (core : ℕ) (ledger : LedgerView) : Type 0 where
  pub own : HasOpen core ledger
  pub debt : DebtView
  pub owes : own.one.debt ≡ Some debt
  pub out : IsOut ledger.space debt.grant

-- A commit has given back: its grant's numbers are free, each of its nodes has the last commit that was seen, and its core has none open.
pub record Returns (core : ℕ) (grant : GrantedNumbers) (old new : LedgerView) : Type 0 where
  pub one : OpenView
  pub there : open_in old core ≡ Some one
  pub inodes : BecomeAll Free grant.inodes old.space.inodes new.space.inodes
  pub blocks : BecomeAll Free grant.blocks old.space.blocks new.space.blocks
  pub commits : new.commits ≡ old.commits
  pub lasts : (node : ℕ) → last_in new node ≡ returned_last (last_seen one.seen node) (last_in old node)
  pub places : length new.lasts ≡ length old.lasts
  pub opens : new.opens ≡ slice_set old.opens core None

-- A commit has this debt now, and nothing else has changed.
pub record TakesDebt (core : ℕ) (debt : DebtView) (old new : LedgerView) : Type 0 where
  pub one : OpenView
  pub there : open_in old core ≡ Some one
  pub after : new ≡ record old { opens = slice_set old.opens core (Some (record one { debt = Some debt })) }

-- A commit has ended: it is the last of each of its nodes, and its core has none open. Of the map nothing is said.
pub record EndsOpen (core : ℕ) (one : OpenView) (old new : LedgerView) : Type 0 where
  pub there : open_in old core ≡ Some one
  pub commits : new.commits ≡ old.commits
  pub lasts : (node : ℕ) → last_in new node ≡ (if is_some (last_seen one.seen node) then last_ended one.number else last_in old node)
  pub places : length new.lasts ≡ length old.lasts
  pub opens : new.opens ≡ slice_set old.opens core None

-- A commit with a debt has ended: its numbers stay taken, and what it gives up is free.
pub record PaysDebt (core : ℕ) (old new : LedgerView) : Type 0 where
  pub one : OpenView
  pub debt : DebtView
  pub owes : one.debt ≡ Some debt
  pub inodes : Ends debt.grant.inodes debt.gives_up.inodes old.space.inodes new.space.inodes
  pub blocks : Ends debt.grant.blocks debt.gives_up.blocks old.space.blocks new.space.blocks
  pub ends : EndsOpen core one old new

-- A commit without a debt has ended, and the map is as it was.
pub record EndsEmpty (core : ℕ) (old new : LedgerView) : Type 0 where
  pub one : OpenView
  pub none : one.debt ≡ None
  pub space : new.space ≡ old.space
  pub ends : EndsOpen core one old new
