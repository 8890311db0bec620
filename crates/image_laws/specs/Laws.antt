-- The laws of what an image stands for, each of which a function of the module laws proves.
use Rattle.std.specs.List.{list_all}
use Rattle.std.specs.Prelude.{◌≡◌, ◌≢◌, ◌↔◌, ℕ, ◌+◌, ◌<◌, ◌≤◌, Bool, false, List, Option, Some, None, true, slice_get, [], is_none}
use Rattle.tree_laws.specs.Shape.{shape_of}
use Rattle.tree_laws.specs.Sound.{IsSound}
use Rattle.tree_laws.specs.Tree.{TreeState, links_of, bytes_of, names_of}
use Rattle.sfs_image.specs.Bytes.{zeros}
use Rattle.sfs_image.specs.ImageOf.{Transaction}
use Rattle.sfs_image.specs.Part.{Part, seen_of}
use Rattle.sfs_image.specs.Seen.{Seen, SeenInodes, PLACES}
use Rattle.sfs_image.specs.Slot.{Row}
use Rattle.sfs_image.specs.SlotBlock.{slots_of}
use Rattle.sfs_image.specs.Super.{Layout}
use Rattle.absorb.specs.Net.{IsNet}
use Rattle.absorb.specs.declared.nets.NetRow.{NetRow}
use Rattle.image_laws.specs.Blocks.{HasSlotBlocks, HasByteBlocks}
use Rattle.image_laws.specs.Commit.{IsAside, HeldAfter, KeepsPlaces, Commit, TakesBlocks, IsCommit, IsCommitStep}
use Rattle.image_laws.specs.Elsewhere.{ConcernsItsChanges, Elsewhere, commit_there, IsPlanned, Suits}
use Rattle.image_laws.specs.Image.{image_inodes, PartsStandForTree, tree_of, IsMounted, HasGoodBytes, IsReadAsTree}
use Rattle.image_laws.specs.ImageTree.{Making, image_tree}
use Rattle.image_laws.specs.Keeps.{KeepsRules}
use Rattle.image_laws.specs.LinkChanges.{gained, lost, linking, net_changes, AreAllNets}
use Rattle.image_laws.specs.Made.{image_made, IsMadeFrom}
use Rattle.image_laws.specs.Mount.{ShowsByKind, StandsByItself}
use Rattle.image_laws.specs.Need.{slots_in_block, Rewrite, takes_place, place_in_row, takes_in_row, rank, rewrites_slots, KeepsBlock, RanksServe, GrantServes, TakesByRank}
use Rattle.image_laws.specs.Numbers.{numbers_after, InodeGrantServes, NumbersAreGiven}
use Rattle.image_laws.specs.Orphans.{is_orphan, FreesOrphans, IsFreed}
use Rattle.image_laws.specs.Renamed.{Numbering, IsRenamed}
use Rattle.image_laws.specs.Rules.{breaks_tree_rule, first_fault, FindsFault, BYTE_RULES, KeepsByteRules, tree_fault}
use Rattle.image_laws.specs.Sizes.{DirectoriesFit}
use Rattle.image_laws.specs.Slots.{in_blocks, EndsWithRow}
use Rattle.image_laws.specs.Stands.{BLOCK_BYTES, StandsForTree, StandsForSoundTree}

-- A tree under other numbers is sound where the first is, and has its shape.
abbrev pub RenamedTreesHaveOneShape : Type 0
RenamedTreesHaveOneShape =
    (num : Numbering) (tree other : TreeState) → IsSound tree → IsRenamed num tree other → IsSound other × (shape_of other ≡ shape_of tree)

-- What an image shows that stands for a tree: it keeps the rules, and its own tree is sound and has the tree's shape.
pub record ShowsTree (tree : TreeState) (image : SeenInodes) (making : Making) : Type 0 where
  pub rules : KeepsRules image
  pub sound : IsSound (image_tree image making)
  pub shape : shape_of (image_tree image making) ≡ shape_of tree

-- An image that stands for a sound tree shows it.
abbrev pub StandingImagesShow : Type 0
StandingImagesShow =
    (num : Numbering) (tree : TreeState) (image : SeenInodes) (making : Making) → StandsForSoundTree num tree image → ShowsTree tree image making

-- what a commit leaves where an image stood for a tree: it stands for the next tree, and shows it
pub record LeavesTree (commit : Commit) (new : TreeState) (next : SeenInodes) (making : Making) : Type 0 where
  pub stands : StandsForTree commit.after new next
  pub shows : ShowsTree new next making

-- A commit makes of an image that stands for a sound tree one that stands for the next tree, and so keeps the rules.
abbrev pub CommitsKeepStanding : Type 0
CommitsKeepStanding =
    (commit : Commit) (old new : TreeState) (image next : SeenInodes) (making : Making) → IsCommitStep commit old new image next
    → LeavesTree commit new next making

-- A commit keeps directories within the blocks that one may have: no slot behind the last is taken before all are full.
abbrev pub CommitsKeepDirectoriesFit : Type 0
CommitsKeepDirectoriesFit =
    (commit : Commit) (old new : TreeState) (image next : SeenInodes) → IsCommitStep commit old new image next → DirectoriesFit image
    → DirectoriesFit next

-- After a commit a block is held where it was before, or it is a fresh one; so no other block is taken, and what is given up is free.
abbrev pub CommitsHoldTheirBlocks : Type 0
CommitsHoldTheirBlocks = (commit : Commit) (old new : TreeState) (image next : SeenInodes) → IsCommitStep commit old new image next
    → (i place : ℕ) → i < next.count → place < PLACES → (next.seen i).blocks place ≢ 0 → HeldAfter commit image next i place

-- the commit that concerns nothing
abbrev pub no_commit : Numbering → Commit
no_commit num = record { before = num; after = num; concerns = λ _. false; nets = λ _. []; takes = λ _ _. false; fresh = λ _ _. 0 }

-- A commit that concerns nothing is a step from each image that stands for a sound tree to itself.
abbrev pub NoCommitIsAStep : Type 0
NoCommitIsAStep =
    (num : Numbering) (tree : TreeState) (image : SeenInodes) → StandsForSoundTree num tree image → IsCommitStep (no_commit num) tree tree image image

-- What a commit makes of an image is a commit.
abbrev pub MadeImagesAreCommits : Type 0
MadeImagesAreCommits = (commit : Commit) (old new : TreeState) (image : SeenInodes) (rewrites : ℕ → Rewrite) (concerned : List ℕ)
    → StandsForTree commit.before old image → IsMadeFrom commit old new image rewrites concerned
    → IsCommit commit old new image (image_made commit new image rewrites concerned)

-- A serving grant gives a commit its numbers.
abbrev pub GrantsGiveNumbers : Type 0
GrantsGiveNumbers = (commit : Commit) (image : SeenInodes) (leaves : ℕ → Bool) (entering grant : List ℕ) → InodeGrantServes image entering grant
    → ((node : ℕ) → commit.after node ≡ numbers_after commit.before leaves entering grant node) → NumbersAreGiven commit image entering

-- A node that a commit does not concern is left as it is, where the commit concerns all that its nets change and keeps its bytes.
abbrev pub UnconcernedNodesStay : Type 0
UnconcernedNodesStay =
    (commit : Commit) (old new : TreeState) (node : ℕ)
    → ((directory : ℕ) → IsNet (names_of directory old.rows) (names_of directory new.rows) (commit.nets directory))
    → ConcernsItsChanges commit old new → commit.concerns node ≡ false → bytes_of new node ≡ bytes_of old node → IsAside old new node

-- A commit that was planned in one state is one in each other state that agrees with it on what it concerns.
abbrev pub PlannedCommitsHoldElsewhere : Type 0
PlannedCommitsHoldElsewhere =
    (commit : Commit) (old new : TreeState) (image next : SeenInodes) (there : Elsewhere) → IsPlanned commit old new image next
    → Suits commit old new image next there → IsCommit (commit_there commit there) there.old there.new there.image there.next

-- A node's link count in the later tree, with the rows that went, is that in the earlier one with the rows that came.
abbrev pub NetsGiveLinks : Type 0
NetsGiveLinks = (old new : TreeState) (nets : ℕ → List NetRow) (members : List ℕ) (node : ℕ) → AreAllNets old new nets members
    → links_of new node + lost (linking new node) (net_changes nets members) ≡ links_of old node + gained (linking new node) (net_changes nets members)

-- Nets keep rows in their places, and new rows take the lowest empty slots.
abbrev pub NetsKeepPlaces : Type 0
NetsKeepPlaces = (num : Numbering) (tree : TreeState) (net : List NetRow) (slots : List (Option Row)) → KeepsPlaces num tree net slots

-- The blocks that a directory has after a commit end with the last one that has a row.
abbrev pub BlocksEndWithRow : Type 0
BlocksEndWithRow = (slots : List (Option Row)) → EndsWithRow slots

-- A block of a directory is rewritten exactly where it does not keep its slots, or is there behind the last block with a row.
abbrev pub BlocksAreKeptOrRewritten : Type 0
BlocksAreKeptOrRewritten = (old : Seen) (slots : List (Option Row)) (n : ℕ) → (rewrites_slots old slots n ≡ false) ↔ KeepsBlock old slots n

-- The ranks of the places that take a block serve to hand out a grant.
abbrev pub RanksServeGrants : Type 0
RanksServeGrants = (takes : ℕ → Bool) → RanksServe takes

-- The ranks of an inode's places are a slice: they go on from the rank of its first place.
abbrev pub RanksGoOn : Type 0
RanksGoOn = (rewrites : List Rewrite) (m place : ℕ) (rewrite : Rewrite) → slice_get rewrites m ≡ Some rewrite → place ≤ PLACES
    → rank (takes_in_row rewrites) (place_in_row m place) ≡ rank (takes_in_row rewrites) (place_in_row m 0) + rank (takes_place rewrite) place

-- A commit that takes its blocks from a serving grant by their ranks takes free blocks, each once.
abbrev pub RanksTakeFreeBlocks : Type 0
RanksTakeFreeBlocks =
    (commit : Commit) (image next : SeenInodes) (inodes : List ℕ) (rewrites : List Rewrite) (grant : List ℕ) → GrantServes image rewrites grant
    → TakesByRank commit image next inodes rewrites grant → TakesBlocks commit image next

-- The part of a directory whose blocks have a commit's slots shows them, cut behind the last block that has a row.
abbrev pub SlotBlocksShow : Type 0
SlotBlocksShow = (part : Part) (slots : List (Option Row)) → HasSlotBlocks part slots → (seen_of part).slots ≡ in_blocks slots

-- A block of a directory without rows is read from a hole, which reads as zeros.
abbrev pub EmptyBlocksAreHoles : Type 0
EmptyBlocksAreHoles =
    (n : ℕ) (slots : List (Option Row)) → list_all is_none (slots_in_block n slots) ≡ true → slots_of (zeros BLOCK_BYTES) ≡ slots_in_block n slots

-- The part of a file whose blocks have some bytes shows these.
abbrev pub ByteBlocksShow : Type 0
ByteBlocksShow = (part : Part) (bytes : List ℕ) → HasByteBlocks part bytes → (seen_of part).bytes ≡ bytes

-- An image that keeps the rules stands for its own tree.
abbrev pub RulesMakeStanding : Type 0
RulesMakeStanding = (image : SeenInodes) (making : Making) → KeepsRules image → ShowsByKind image → StandsByItself image making

-- Freeing its orphans leaves an image its tree.
abbrev pub FreedOrphansKeepTheTree : Type 0
FreedOrphansKeepTheTree =
    (image next : SeenInodes) (making : Making) → KeepsRules image → ShowsByKind image → FreesOrphans image next → IsFreed image next making

-- The first fault is none exactly where the rules hold, those on bytes being given.
abbrev pub NoFaultIsRulesKept : Type 0
NoFaultIsRulesKept =
    (image : SeenInodes) (breaks_byte_rule : ℕ → ℕ → Bool) → KeepsByteRules image
    → ((rule i : ℕ) → 1 ≤ rule → rule ≤ BYTE_RULES → i < image.count → breaks_byte_rule rule i ≡ false)
    → (tree_fault breaks_byte_rule image ≡ None) ↔ KeepsRules image

-- The first fault is that of the least rule that an inode breaks, and of that the least inode.
abbrev pub FirstFaultIsLeast : Type 0
FirstFaultIsLeast = (breaks : ℕ → ℕ → Bool) (count : ℕ) → FindsFault breaks count (first_fault breaks count)

-- A free inode breaks no rule across inodes.
abbrev pub FreeInodesBreakNoTreeRule : Type 0
FreeInodesBreakNoTreeRule = (image : SeenInodes) (rule i : ℕ) → (image.seen i).kind ≡ 0 → breaks_tree_rule image rule i ≡ false

-- An orphan of link count 0 breaks no rule across inodes.
abbrev pub OrphansBreakNoTreeRule : Type 0
OrphansBreakNoTreeRule =
    (image : SeenInodes) (rule i : ℕ) → i < image.count → is_orphan image i ≡ true → (image.seen i).links ≡ 0 → breaks_tree_rule image rule i ≡ false

-- An image that has a tree is mounted: its tree is sound and within its limits, and it stands for it.
abbrev pub TreesOfImagesAreMounted : Type 0
TreesOfImagesAreMounted = (image : List ℕ) (share : ℕ) (tree : TreeState) → tree_of image share ≡ Some tree → IsMounted image share tree

-- An image with good bytes whose inodes stand for a sound tree has no fault, and a tree of that shape.
abbrev pub StandingImagesAreRead : Type 0
StandingImagesAreRead = (image : List ℕ) (share : ℕ) (num : Numbering) (tree : TreeState) → HasGoodBytes image
    → StandsForSoundTree num tree (image_inodes image) → IsReadAsTree image share tree

-- An image that stands for parts, whichever of its journal slots are open, has no fault where these parts, with what the open slots
-- give, have good bytes and show inodes that stand for a sound tree; and it has a tree of that shape.
abbrev pub StandingPartsAreRead : Type 0
StandingPartsAreRead = (layout : Layout) (opened : ℕ → Option Transaction) (parts : ℕ → Part) (image : List ℕ) (share : ℕ) (num : Numbering) (tree : TreeState)
    → PartsStandForTree layout opened parts image num tree → IsReadAsTree image share tree
