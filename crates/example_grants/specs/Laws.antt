-- The laws of the example, each of which a function of the module laws proves.
use Rattle.std.specs.Prelude.{◌≡◌, ◌∷◌, [], take, true, None}
use Rattle.sfs_image.specs.Bytes.{zeros}
use Rattle.sfs_image.specs.Inode.{inode_bytes}
use Rattle.disk_nodes.specs.Nodes.{old_entry}
use Rattle.disk_change.specs.AllBuilt.{fresh_of_commit, after_commit}
use Rattle.disk_change.specs.Records.{records_written}
use Rattle.commit_laws.specs.CommitOfPlan.{CommitPlan, change_planned}
use Rattle.space_map.specs.Pool.{free_numbers}
use Rattle.tree_laws.specs.declared.turns.TurnAct.TheVariants as act
use Rattle.turn_laws.specs.Recorded.{IsRecorded}
use Rattle.turn_ties.specs.Plans.{amount_planned, image_held}
use Rattle.merge_laws.specs.Plays.{Plays, nothing_played}
use Rattle.book_laws.specs.Along.{MapGoes}
use Rattle.book_laws.specs.Pairs.{ArePairsApart}
use Rattle.book_laws.specs.Walk.{BeginsWalk, FitsRecord, ReservesThere, grant_at}
use Rattle.book_laws.specs.WalkLaws.{AgreesWithBooks}
use Rattle.reserve_laws.specs.Fits.{TellsPair, CoresTell}
use Rattle.reserve_laws.specs.Looks.{ServesPair}
use Rattle.reserve_laws.specs.OwnFile.{MakesOwnFile}
use Rattle.example_grants.specs.Calls.{FIRST_TREE, WRITES_AND_FSYNCS}
use Rattle.example_grants.specs.Image.{TWO_FILES, file_inode}
use Rattle.example_grants.specs.Fsyncs.{Writer, OWN, OTHER, making_by, plan_of_writer, grant_by, pair_made, FILES_KEPT}
use Rattle.example_grants.specs.Map.{FIRST_MAP, map_behind, FILES_MAPPED}
use Rattle.example_grants.specs.Turns.{own_act, other_act, FILES_TURNS, FILES_PENS}

-- The volume of two files stands, and a walk may begin with it.
abbrev pub FilesStand : Type 0
FilesStand = BeginsWalk TWO_FILES

-- A plan needs one block, and with its grant its commit writes the file's record, with the size 1 and the block, and the block, with the byte and zeros behind
-- it; and this is what memory keeps of the file then.
pub record WritesOne (writer : Writer) (plan : CommitPlan) : Type 0 where
  pub needs : amount_planned plan ≡ record { inodes = 0; blocks = 1 }
  pub records : records_written (change_planned plan) (grant_by writer)
      ≡ record { inode = writer.file; bytes = inode_bytes (file_inode 1 writer.block) } ∷ []
  pub fresh : fresh_of_commit (change_planned plan) (grant_by writer) ≡ record { block = writer.block; bytes = writer.byte ∷ zeros 4095 } ∷ []
  pub leaves : after_commit (change_planned plan) (grant_by writer)
      ≡ old_entry (record { 0 = writer.file }) writer.file (file_inode 1 writer.block) [] [] ∷ []

-- The core of an fsync makes its own file, and so tells of its pair beside the first volume; its grant serves its plan; and its commit writes so.
pub record WriterTells (writer : Writer) : Type 0 where
  pub makes : MakesOwnFile TWO_FILES [] (making_by writer)
  pub tells : TellsPair TWO_FILES [] (pair_made writer)
  pub serves : ServesPair TWO_FILES (pair_made writer)
  pub writes : WritesOne writer (plan_of_writer writer)

-- Both cores do.
pub record WritersTell : Type 0 where
  pub own : WriterTells OWN
  pub other : WriterTells OTHER

-- Both fsyncs reserve with the first volume, one behind the other: each gets the least block that is free then, and their pairs share nothing.
pub record WritersReserve : Type 0 where
  pub own : ReservesThere FILES_KEPT [] nothing_played TWO_FILES (own_act 0 act.Granted)
  pub own_least : (grant_by OWN).blocks ≡ take 1 (free_numbers (map_behind 0).blocks)
  pub other : ReservesThere FILES_KEPT (grant_at FILES_KEPT.pairs 2 ∷ []) (record nothing_played { waiting = 2 ∷ [] }) TWO_FILES (other_act 0 act.Granted)
  pub other_least : (grant_by OTHER).blocks ≡ take 1 (free_numbers (map_behind 1).blocks)
  pub apart : ArePairsApart (pair_made OTHER) (pair_made OWN)

-- Both tell what they do along the record in which both commits are aloft at a time, and a map goes along it to its end; so the record fits what its books are
-- kept from, agrees with the books, and its turns are recorded.
pub record WritersGoAlong : Type 0 where
  pub told : CoresTell FILES_MAPPED FILES_TURNS
  pub goes : MapGoes FILES_KEPT.pairs FIRST_MAP FILES_TURNS (map_behind 8)
  pub reserve : WritersReserve
  pub aloft : Plays (take 6 FILES_TURNS)
      (record { done = []; waiting = []; aloft = record { stamp = 3; opened = true } ∷ record { stamp = 2; opened = true } ∷ []; failed = None })
  pub fits : FitsRecord FILES_KEPT FILES_TURNS
  pub agrees : AgreesWithBooks FILES_KEPT 0 0 0 FILES_TURNS FILES_PENS
  pub recorded : IsRecorded FIRST_TREE WRITES_AND_FSYNCS (image_held TWO_FILES) 0 0 FILES_TURNS
