-- The laws of what turns say of the fsyncs of a volume, each of which a function of the module laws proves.
use Rattle.std.specs.Prelude.{◌≡◌, ℕ, ◌≤◌, ◌^◌, List, [], ◌∷◌, ◌++◌, None, Some, is_some, take}
use Rattle.sfs_base.specs.declared.numbers.NodeId.{NodeId}
use Rattle.sfs_base.specs.declared.numbers.SpaceKind.{SpaceKind}
use Rattle.tree_laws.specs.declared.history.Entry.{Entry}
use Rattle.tree_laws.specs.History.{IsLegal}
use Rattle.tree_laws.specs.Tree.{TreeState}
use Rattle.mem_files.specs.File.{File}
use Rattle.space_map.specs.Pool.{free_numbers}
use Rattle.space_map.specs.Space.{Space, shortage}
use Rattle.space_map.specs.declared.fault.SpaceFault.TheVariants.{NoSpace}
use Rattle.keyed_list.specs.Ascending.{item_with}
use Rattle.disk_change.specs.Pages.{page_block}
use Rattle.disk_change.specs.declared.files.FileChange.{FileChange}
use Rattle.turn_laws.specs.Books.{free_in, FitsFree, IsShortOf, Leaves}
use Rattle.turn_laws.specs.Need.{nothing, IsMadeBy, node_bound}
use Rattle.turn_laws.specs.OneThread.{resting_after}
use Rattle.turn_laws.specs.Touched.{is_touched_between}
use Rattle.flush_plan.specs.Touched.{IsFileChange}
use Rattle.mark_laws.specs.FileAt.{IsFileAt}
use Rattle.turn_ties.specs.Plans.{image_held, image_once_left, rest_of, machine_of_rest, books_of_rest, Planning, planning_of, made_of, need_of_planning, granted_of_planning, HasPlan, HasTouchedPages, ChangesOwnFile, amount_planned, need_planned, EntersFit, IsRestingMap}
use Rattle.flush_laws.specs.Volume.{volume_left}
use Rattle.volume_laws.specs.Volume.{IsVolumeStanding}
use Rattle.flush_laws.specs.Volume.{Volume, OneFsync}
use Rattle.flush_laws.specs.Planned.{IsPlannedFsync}

-- What an fsync makes that has a plan is what the turns say that it makes.
abbrev pub PlansAreMade : Type 0
PlansAreMade = (volume : Volume) (used : List ℕ) (planning : Planning) → HasPlan volume planning
    → IsMadeBy (machine_of_rest volume used) planning.flush (made_of planning)

-- A plan whose pages are those of touched blocks needs as much as the books say.
abbrev pub NeedsAreTheBooks : Type 0
NeedsAreTheBooks = (volume : Volume) (used : List ℕ) (planning : Planning) → HasPlan volume planning → HasTouchedPages volume planning
    → need_of_planning volume used planning ≡ amount_planned planning.plan

-- The least free inodes of a right map, as many as a plan needs, are those that the books say that are reserved.
abbrev pub GrantsAreTheLeast : Type 0
GrantsAreTheLeast = (volume : Volume) (used : List ℕ) (planning : Planning) (space : Space) → HasPlan volume planning
    → IsRestingMap volume planning.entries space
    → take (need_planned planning.plan).inodes (free_numbers space.inodes) ≡ granted_of_planning volume used planning

-- Where a right map has no shortage, what is needed fits what is free.
abbrev pub FitsAreTheBooks : Type 0
FitsAreTheBooks = (volume : Volume) (used : List ℕ) (planning : Planning) (space : Space) → HasPlan volume planning → HasTouchedPages volume planning
    → IsRestingMap volume planning.entries space → shortage space (need_planned planning.plan) ≡ None
    → FitsFree (need_of_planning volume used planning) (free_in (books_of_rest volume used))

-- Where it has one, there is too little of this kind, and both numbers are told.
abbrev pub ShortsAreTheBooks : Type 0
ShortsAreTheBooks = (volume : Volume) (used : List ℕ) (planning : Planning) (space : Space) (kind : SpaceKind) (asked have : ℕ)
    → HasPlan volume planning → HasTouchedPages volume planning → IsRestingMap volume planning.entries space → EntersFit planning.plan
    → shortage space (need_planned planning.plan) ≡ Some (NoSpace kind asked have)
    → IsShortOf (need_of_planning volume used planning) (free_in (books_of_rest volume used)) kind asked have

-- Fewer nodes enter than there are numbers of 32 bits, where all nodes have such numbers.
abbrev pub CountedNodesFit : Type 0
CountedNodesFit = (volume : Volume) (planning : Planning) → HasPlan volume planning → node_bound volume.first ≤ 2 ^ 32 → EntersFit planning.plan

-- The commit of an fsync that has the least free inodes leaves of the image of a volume what the turns say.
abbrev pub CommitsLeaveImages : Type 0
CommitsLeaveImages = (volume : Volume) (used : List ℕ) (one : OneFsync)
    → IsVolumeStanding volume → IsPlannedFsync volume one → HasTouchedPages volume (planning_of one)
    → one.grant.inodes ≡ granted_of_planning volume used (planning_of one)
    → Leaves (machine_of_rest volume used) (made_of (planning_of one)) (granted_of_planning volume used (planning_of one)) (image_held volume)
    (image_once_left volume one)

-- So does that of one that needs nothing, where nothing is reserved.
abbrev pub EmptyCommitsLeaveImages : Type 0
EmptyCommitsLeaveImages = (volume : Volume) (used : List ℕ) (one : OneFsync)
    → IsVolumeStanding volume → IsPlannedFsync volume one → HasTouchedPages volume (planning_of one)
    → need_of_planning volume used (planning_of one) ≡ nothing
    → Leaves (machine_of_rest volume used) (made_of (planning_of one)) [] (image_held volume) (image_once_left volume one)

-- What there is behind such a commit is what there is between two fsyncs of the volume that it leaves.
abbrev pub RestsGoOn : Type 0
RestsGoOn = (volume : Volume) (used : List ℕ) (one : OneFsync) (later : ℕ → List ℕ) (commit : ℕ)
    → rest_of (volume_left volume one later) (used ++ commit ∷ [])
    ≡ resting_after (rest_of volume used) commit (made_of (planning_of one)) (image_once_left volume one)

-- The change of a file in memory, which is that of a history at a stamp, has a page of each block that a change touches from its cut to the
-- stamp, and of no other.
abbrev pub MarkedPagesAreTouched : Type 0
MarkedPagesAreTouched = (first : TreeState) (history : List Entry) (node : NodeId) (from stamp : ℕ) (file : File) (change : FileChange)
    → IsLegal first history → IsFileAt first history node.0 stamp file → IsFileChange node from file change
    → (n : ℕ) → is_some (item_with page_block n change.pages.items) ≡ is_touched_between first history node.0 from stamp n

-- So a plan that changes its own file by its marks has the pages of touched blocks.
abbrev pub OwnFilesAreTouched : Type 0
OwnFilesAreTouched = (volume : Volume) (planning : Planning) → HasPlan volume planning → ChangesOwnFile volume planning → HasTouchedPages volume planning
