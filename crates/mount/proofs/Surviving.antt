-- An unmounted volume survives each crash since its mount began.
use Rattle.std.proofs.Common.{◌≡◌, ◌≤◌, ◌∙◌, ℕ, List, Option, Some, None, is_some, true, false, refl, sym, ap, subst, arith, map}
use Rattle.sfs_image.specs.Super.{Layout}
use Rattle.sfs_image.specs.ImageOf.{IsImageOf}
use Rattle.sfs_image.specs.Settled.{layout_of}
use Rattle.sfs_dev.specs.Disk.{View, images}
use Rattle.sfs_dev.specs.Run.{Advances, CountsOn}
use Rattle.sfs_dev.specs.Steps.{TellsAlike}
use Rattle.journal_one.specs.Calls.{IsCalm}
use Rattle.commit_one.specs.Change.{nothing_open}
use Rattle.tree_laws.specs.declared.turns.Turn.{Turn}
use Rattle.tree_laws.specs.declared.history.Entry.{Entry}
use Rattle.tree_laws.specs.Tree.{TreeState}
use Rattle.cut_laws.specs.Rules.{IsOneOf}
use Rattle.crash_laws.specs.Wrote.{Mounts}
use Rattle.turn_laws.specs.Recorded.{IsRecorded}
use Rattle.merge_laws.specs.LeftByTurns.{SurvivesByTurns}
use Rattle.merge_laws.proofs.ByTurns.{durables_survive}
use Rattle.mount_begin.specs.Mounted.{share_of_nodes}
use Rattle.turn_ties.specs.Plans.{image_held}
use Rattle.slot_image_laws.specs.Run.{BeganWith, RisesFrom}
use Rattle.disk_box.specs.Pens.{PenHand}
use Rattle.disk_box.specs.declared.key.BoxKey.{BoxKey}
use Rattle.close_laws.specs.Close.{TellsAll}
use Rattle.end_laws.specs.Begins.{HasBegunVolume, HoldsStart}
use Rattle.end_laws.proofs.Rests.{closed_disks_began}
use Rattle.flush_agrees.specs.Closing.{pen_fsyncs}
use Rattle.end_laws.specs.Mount.{MountEnd, MountEnds}
use Rattle.close_laws.specs.Maps.{past_of}
use Rattle.end_laws.specs.Survives.{DiskEnds}
use Rattle.end_laws.proofs.Survives.{turns_of_mounts_end, mounts_survive}
use Rattle.end_laws.proofs.LacksAgreed.{agreed_mounts_are_recorded}
use Rattle.workers.specs.declared.worker.Worker.{Worker}
use Rattle.mount.specs.declared.volume.Volume.{Volume}
use Rattle.mount.specs.Volume.{IsMountOfDisk}
use Rattle.mount.specs.Ends.{LeavesVolume}
use Rattle.mount.specs.Survives.{TurnsTellAll, SurvivesSince, MountComesTo, UnmountedSurvive}
use Rattle.mount.proofs.Ending.{Unmounted, end, ends, has_begun, key_fits}
use Rattle.mount.proofs.FromBegin.{rises_before, survive_from_begin}

-- a disk that tells alike goes on telling what a read gives
told_still : (old new : View) → TellsAlike old new → (content : List ℕ) → old.content ≡ Some content → (now : List ℕ) × (new.content ≡ Some now)
told_still old new alike content told = by new.content refl
  where
    by : (o : Option (List ℕ)) → new.content ≡ o → (now : List ℕ) × (new.content ≡ Some now)
    by (Some now) is = (now, is)
    by None is = absurd (let never : false ≡ true = sym (ap is_some is) ∙ alike ∙ ap is_some told in cc)

module _ {D : Type 0} (view : D → View) (volume : Volume D) (workers : List (Worker (PenHand D))) (left : D) (history : List Entry) (turns : List Turn)
    (unmounted : Unmounted view volume workers left history turns) (nodes : ℕ) (disk : D) (mounted : IsMountOfDisk view nodes disk volume) where
  abbrev key : BoxKey D
  key = volume.set.table.given

  abbrev leaves : LeavesVolume view volume workers left history turns
  leaves = unmounted.leaves

  abbrev at : MountEnd
  at = end view volume workers left history turns unmounted nodes disk mounted

  at_ends : MountEnds D at
  at_ends = ends view volume workers left history turns unmounted nodes disk mounted

  abbrev begun : HasBegunVolume nodes mounted.begun history (view disk) (view mounted.left)
  begun = has_begun view volume workers left history turns unmounted nodes disk mounted

  -- what is so of the mount's tree, history and turns is so of the volume's
  of_volume : (P : TreeState → List Entry → List Turn → Type 0) → P at.start.first at.start.history (past_of at.told).turns
      → P volume.table.first history turns
  of_volume P is =
      subst (λ (first : TreeState). P first history turns) at_ends.begins.first
      (subst (λ (entries : List Entry). P at.start.first entries turns) at_ends.begins.history
      (subst (λ (told : List Turn). P at.start.first at.start.history told) (sym leaves.leaves.record_is) is))

  -- the disk has gone on from the one that was mounted
  goes_on : Advances (view mounted.left) (view left)
  goes_on = subst (λ (d : D). Advances (view d) (view left)) mounted.over.is (leaves.leaves.since.goes mounted.over.first mounted.over.told)

  -- its faults have not fallen, and no turn counts more
  until : key.faults ≤ (view left).faults
  until = let never = goes_on.never_falls in let are = mounted.key.faults_are in omega (arith, never, are)

  few : (turn : Turn) → IsOneOf (past_of at.told).turns turn → turn.faults ≤ (view left).faults
  few turn one =
      let low = leaves.leaves.few turn (subst (λ (l : List Turn). IsOneOf l turn) (sym leaves.leaves.record_is) one) in
      let later = until in
      omega (arith, low, later)

  turns_tell : TurnsTellAll volume.table.first history key.faults (view left).faults turns
  turns_tell =
      let end_of = turns_of_mounts_end D at (view left).faults at_ends few in
      of_volume (λ first entries told. TurnsTellAll first entries key.faults (view left).faults told)
      (record { pens = map pen_fsyncs at.fsyncs; agrees = end_of.agrees; merge = end_of.merge; tell = end_of.tell })

  module _ (image : List ℕ) (told : (view disk).content ≡ Some image) (calm : IsCalm (view disk)) (counts : CountsOn (view left)) where
    holds : HoldsStart nodes begun.start (view disk) (view mounted.left)
    holds = begun.told image told calm (let later = goes_on.later in omega (arith, later, counts))

    layout_is : begun.start.layout ≡ key.layout
    layout_is = begun.begins.labels.layout_is ∙ sym mounted.key.layout_is

    began : BeganWith key.layout begun.start.parts key.start (view left)
    began = closed_disks_began view key begun.start.parts mounted.left left (record {
      fits = key_fits view volume workers left history turns unmounted nodes disk mounted;
      key_is = record { layout_is = refl; faults_are = mounted.key.faults_are; start_is = mounted.key.start_is; space_is = refl };
      began = mounted.over;
      left = subst (λ (l : Layout). (now : List ℕ) → images (view mounted.left) now → IsImageOf l nothing_open begun.start.parts now) layout_is holds.left;
      since = leaves.leaves.since;
      counts = counts;
    })

    tells_all : TellsAll (view left)
    tells_all =
        let alike = subst (λ (d : D). TellsAlike (view d) (view left)) mounted.over.is (leaves.leaves.since.tells mounted.over.first mounted.over.told) in
        let now = told_still (view mounted.left) (view left) alike holds.tells.0 holds.tells.1 in
        record { content = now.0; tells = now.1; counts = counts; laws = unmounted.laws left }

    disk_ends : DiskEnds at (view left)
    disk_ends = record {
      run = leaves.leaves.run;
      began = began;
      tells = tells_all;
      most = (view left).faults;
      few = few;
    }

    share_is : share_of_nodes nodes begun.start.layout ≡ share_of_nodes nodes (layout_of image)
    share_is = ap (share_of_nodes nodes) (begun.begins.labels.layout_is ∙ (mounted.was.told image told).layout_is)

    survives : SurvivesSince (share_of_nodes nodes (layout_of image)) (view disk).now volume.table.first history turns (view left)
    survives =
        let share = share_of_nodes nodes (layout_of image) in
        let first = at.start.first in
        let entries = at.start.history in
        let turns_told = (past_of at.told).turns in
        let mount = mounts_survive D (view left) share at at_ends disk_ends in
        let standing = at_ends.begins.labels.walk.stands.between.history_is in
        let by_turns : SurvivesByTurns share (view disk).now first entries turns_told (view left) =
        survive_from_begin share (view disk).now key.start first entries turns_told (view mounted.left) (view left) (record {
          mounts = subst (λ n. Mounts n (view disk).now first (view mounted.left)) share_is holds.mounts;
          start_is = mounted.key.start_is;
          goes = goes_on;
          counts = counts;
          sound = standing.sound;
          legal = standing.legal;
          tell = mount.turns.tell;
          rises = leaves.leaves.run.rises;
          survives = mount.survives_by_turns;
        })
        in
        of_volume (λ tree calls acts. SurvivesSince share (view disk).now tree calls acts (view left)) (record {
          images = durables_survive (view left) share (view disk).now first entries turns_told standing.legal mount.turns.tell by_turns;
          reads_back = mount.reads;
          images_by_turns = by_turns;
          reads_by_turns = mount.reads_by_turns;
        })

  since : (view disk).faults ≤ key.faults
  since = let never = mounted.was.advances.never_falls in let are = mounted.key.faults_are in omega (arith, never, are)

  comes_to : MountComesTo view nodes disk volume left history turns mounted
  comes_to = record {
    since = since;
    until = until;
    dated = subst (λ (l : List Turn). RisesFrom (view disk).now l (view left).now) (sym leaves.leaves.record_is)
        (rises_before (view disk).now key.start (view left).now (past_of at.told).turns
        (let later = mounted.was.advances.later in let is = mounted.key.start_is in omega (arith, later, is)) leaves.leaves.run.rises);
    turns_tell = turns_tell;
    has = begun;
    recorded =
        of_volume (λ first entries told. IsRecorded first entries (image_held begun.start) (view disk).faults (view left).faults told)
        (agreed_mounts_are_recorded D at (view disk).faults (view left).faults at_ends since few);
    survives = survives;
  }

pub unmounted_survive : {D : Type 0} (view : D → View) → UnmountedSurvive view
unmounted_survive view volume workers left history turns laws is are leaves nodes disk mounted =
    comes_to view volume workers left history turns (record { laws = laws; is = is; are = are; leaves = leaves }) nodes disk mounted
