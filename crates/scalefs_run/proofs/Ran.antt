-- A run on a volume that was mounted of a disk, and unmounted.
use Rattle.std.proofs.Common.{◌≡◌, ℕ, List, sym, subst, arith}
use Rattle.sfs_dev.specs.Disk.{View}
use Rattle.sfs_dev.specs.Run.{Advances}
use Rattle.sfs_dev.proofs.Runs.{GoesOn-trans}
use Rattle.tree_laws.specs.declared.history.Entry.{Entry}
use Rattle.tree_laws.specs.declared.turns.Turn.{Turn}
use Rattle.tree_laws.specs.Tree.{TreeState}
use Rattle.turn_laws.specs.Need.{ImageState}
use Rattle.mount_begin.specs.declared.begin.Mounted.{Mounted}
use Rattle.turn_ties.specs.Plans.{image_held}
use Rattle.disk_box.specs.Pens.{PenHand}
use Rattle.mount.specs.Survives.{HasBegunVolume}
use Rattle.workers.specs.declared.worker.Worker.{Worker}
use Rattle.mount.specs.declared.volume.Volume.{Volume}
use Rattle.mount.specs.Ends.{LeavesVolume}
use Rattle.mount.specs.Survives.{MountComesTo, VolumeSurvives}
use Rattle.mount.specs.Volume.{IsMountOfDisk}
use Rattle.scalefs_run.specs.Ran.{LeavesRun}
use Rattle.scalefs_run.specs.Turns.{IsImageAtFirst}
use Rattle.scalefs_run.proofs.AtFirst.{image_at_first}

-- A volume was mounted of a disk with so many new nodes and was unmounted.
pub record EndsMount {D : Type 0} (view : D → View) (nodes : ℕ) (disk left : D) (volume : Volume D) (history : List Entry) (turns : List Turn) : Type 0 where
  pub workers : List (Worker (PenHand D))
  pub leaves : LeavesVolume view volume workers left history turns
  pub survives : VolumeSurvives view volume left history turns
  pub mounted : IsMountOfDisk view nodes disk volume

-- an image that stands at the begin of a call does so of a longer one
image_on : (old mid new : View) (first : TreeState) (image : ImageState) → Advances mid new
    → IsImageAtFirst old mid first image → IsImageAtFirst old new first image
image_on old mid new first image goes is = record {
  num = is.num;
  layout = is.layout;
  parts = is.parts;
  is = is.is;
  stands = is.stands;
  own = is.own;
  of_image = is.of_image;
  told = λ content told calm counts.
      let later = goes.later in
      let found = is.told content told calm (omega (arith, later, counts)) in
      let to = found.2 in (
        found.0,
        found.1,
        omega (arith, to, later),
        λ left among. found.3 left ((goes.past found.0 left (omega (arith, to, later, counts)) to).0 among),
      );
}

module _ {D : Type 0} (view : D → View) (nodes : ℕ) (disk left : D) (volume : Volume D) (history : List Entry) (turns : List Turn)
    (ends : EndsMount view nodes disk left volume history turns) where
  abbrev begun : Mounted
  begun = ends.mounted.begun

  abbrev comes : MountComesTo view nodes disk volume left history turns ends.mounted
  comes = ends.survives nodes disk ends.mounted

  abbrev has : HasBegunVolume nodes begun history (view disk) (view ends.mounted.left)
  has = comes.has

  -- the disk has gone on from the one that was mounted
  goes_on : Advances (view ends.mounted.left) (view left)
  goes_on =
      let over = ends.mounted.over in
      subst (λ (d : D). Advances (view d) (view left)) over.is (ends.leaves.leaves.since.goes over.first over.told)

  -- what was left of the mount's tree
  left_of_tree : LeavesRun nodes volume.table.first (view disk) (view left) history turns
  left_of_tree =
      let tell = comes.turns_tell in
      let same : begun.tree ≡ volume.table.first = sym ends.mounted.tree in
      record {
        legal = ends.leaves.legal;
        turns_are = record {
          image = image_held has.start;
          image_is =
              subst (λ (t : TreeState). IsImageAtFirst (view disk) (view left) t (image_held has.start)) same
              (image_on (view disk) (view ends.mounted.left) (view left) begun.tree (image_held has.start) goes_on
              (image_at_first nodes begun history (view disk) (view ends.mounted.left) ends.mounted.was has));
          recorded = comes.recorded;
          goes = tell.merge.goes;
          dated = comes.dated;
          tell = tell.tell;
        };
        images = comes.survives;
        advances = GoesOn-trans _ _ _ ends.mounted.was.advances goes_on;
      }

  pub leaves_run : (tree : TreeState) → volume.table.first ≡ tree → LeavesRun nodes tree (view disk) (view left) history turns
  leaves_run tree is = subst (λ (t : TreeState). LeavesRun nodes t (view disk) (view left) history turns) is left_of_tree
