-- A volume that was unmounted has come to the end of its mount.
use Rattle.std.proofs.Common.{◌≡◌, ◌<◌, ◌∷◌, ◌∙◌, if◌then◌else◌, ◌+◌, ℕ, zero, suc, List, [], All, Some, slice_get, length, map, refl, sym, ap, subst, arith, Bool, true, false, option_map, filter}
use Rattle.std.proofs.lemmas.Option.{slice_get-map}
use Rattle.std.proofs.lemmas.List.{length-map}
use Rattle.sfs_base.proofs.BasicOptions.{none_some, some_same}
use Rattle.sfs_image.specs.Super.{IsLayout, Layout}
use Rattle.sfs_dev.specs.Disk.{View}
use Rattle.space_map.specs.Space.{Space}
use Rattle.tree_laws.specs.declared.history.Entry.{Entry}
use Rattle.tree_laws.specs.declared.turns.Turn.{Turn}
use Rattle.tree_laws.specs.Merged.{is_core}
use Rattle.tree_laws.specs.Tree.{TreeState}
use Rattle.tree_laws.specs.History.{IsLegal}
use Rattle.cut_laws.specs.Rules.{IsOneOf}
use Rattle.beside_laws.specs.Answers.{asked}
use Rattle.reserve_laws.specs.Olds.{IsKeptIn}
use Rattle.stamp_table.specs.Answered.{without_answer, unanswered, is_served}
use Rattle.stamp_table.specs.Table.{AreIdleFrom}
use Rattle.stamp_table.specs.declared.event.Event.{Event}
use Rattle.stamp_table.specs.Events.{event_core, calls_in}
use Rattle.stamp_table.specs.Rule.{entries_by}
use Rattle.stamp_table.specs.Hand.{Desk}
use Rattle.mem_values.specs.declared.fact.Fact.{Fact}
use Rattle.mem_values.specs.Start.{given_by, FileHand, GivenDisk, given_in}
use Rattle.note_laws.specs.Run.{IsTableRun}
use Rattle.slot_laws.specs.Grants.{NoneGranted}
use Rattle.slot_laws.specs.Laws.{AreOfCores}
use Rattle.slot_image_laws.specs.Run.{KeepsLaws}
use Rattle.disk_box.specs.Pens.{PenHand}
use Rattle.journal_one.proofs.Kept.{IsLawful}
use Rattle.mount_begin.specs.declared.begin.Mounted.{Mounted}
use Rattle.disk_box.specs.declared.key.BoxKey.{BoxKey}
use Rattle.disk_box.specs.Box.{LawfulBox}
use Rattle.close_laws.specs.Beside.{BeginsLabels}
use Rattle.site_laws.specs.Sites.{IsSiteMount}
use Rattle.site_laws.proofs.Sites.{mounts_are_sites}
use Rattle.end_laws.specs.Begins.{HasBegunVolume}
use Rattle.end_laws.proofs.Begins.{mounts_begin_labels}
use Rattle.end_laws.proofs.Rests.{closed_pens_rest}
use Rattle.flush_agrees.specs.Agreement.{FlushTold, run_to, CoresAgree}
use Rattle.flush_agrees.specs.Closing.{MountLogs, ReachesEnd}
use Rattle.end_laws.specs.Mount.{MountEnd, BeginsAt, MountEnds}
use Rattle.end_laws.specs.Reaches.{MountReaches}
use Rattle.end_laws.proofs.Reaches.{mounts_reach_ends}
use Rattle.end_laws.specs.Agreed.{CoresEnd}
use Rattle.end_laws.specs.Kept.{AreWellKept}
use Rattle.end_laws.proofs.Mounted.{mounts_keep_well}
use Rattle.end_laws.proofs.Agreed.{agreed_free_nothing}
use Rattle.workers.specs.declared.worker.Worker.{Worker}
use Rattle.workers.specs.Works.{Rests}
use Rattle.mount.specs.declared.volume.Volume.{Volume}
use Rattle.mount.specs.Workers.{PairAgrees, core_of, AreWorkers, pen_of}
use Rattle.mount.specs.Volume.{IsVolume, IsMountOfDisk}
use Rattle.mount.specs.Ends.{LeavesVolume}
use Rattle.mount.proofs.Teams.{workers_count, pens_close}
use Rattle.mount.proofs.Owned.{event_owned}

-- an entry asks the same without its answer
asked_so : (entry : Entry) (served : Bool) → asked (if served then without_answer entry else entry) ≡ asked entry
asked_so entry true = refl
asked_so entry false = refl

asked_still : (entries : List Entry) → map asked (map unanswered entries) ≡ map asked entries
asked_still [] = refl
asked_still (entry ∷ entries) = λ i. asked_so entry (is_served entry) i ∷ asked_still entries i

-- so histories that are one but for their answers ask the same
asked_same : (history calls : List Entry) → map unanswered history ≡ map unanswered calls → map asked calls ≡ map asked history
asked_same history calls same = sym (asked_still calls) ∙ (sym (ap (map asked) same) ∙ asked_still history)

-- the fsyncs on which each worker agrees with its pen
abbrev fsyncs_in : {D : Type 0} (volume : Volume D) (workers : List (Worker (PenHand D))) → All (Rests volume.table (PairAgrees volume)) workers
    → List (List FlushTold)
fsyncs_in volume [] rest = []
fsyncs_in volume (worker ∷ workers) rest =
    (rest 0 worker (omega arith)).agree.fsyncs ∷ fsyncs_in volume workers (λ k d within. rest (suc k) d (omega (arith, within)))

-- as many as there are workers
fsyncs_count : {D : Type 0} (volume : Volume D) (workers : List (Worker (PenHand D))) (rest : All (Rests volume.table (PairAgrees volume)) workers)
    → length (fsyncs_in volume workers rest) ≡ length workers
fsyncs_count volume [] rest = refl
fsyncs_count volume (worker ∷ workers) rest = ap suc (fsyncs_count volume workers (λ k d within. rest (suc k) d (omega (arith, within))))

-- A worker is at a place, and rests and agrees with its pen on these fsyncs.
record AgreesThere {D : Type 0} (volume : Volume D) (workers : List (Worker (PenHand D))) (core : ℕ) (fsyncs : List FlushTold) : Type 0 where
  worker : Worker (PenHand D)
  there : slice_get workers core ≡ Some worker
  rests : Rests volume.table (PairAgrees volume) worker
  fsyncs_are : rests.agree.fsyncs ≡ fsyncs

-- there is one for each list of them
agrees_there : {D : Type 0} (volume : Volume D) (workers : List (Worker (PenHand D))) (rest : All (Rests volume.table (PairAgrees volume)) workers)
    (core : ℕ) (fsyncs : List FlushTold) → slice_get (fsyncs_in volume workers rest) core ≡ Some fsyncs → AgreesThere volume workers core fsyncs
agrees_there volume [] rest core fsyncs is = absurd (none_some is)
agrees_there volume (worker ∷ workers) rest zero fsyncs is = record {
  worker = worker;
  there = refl;
  rests = rest 0 worker (omega arith);
  fsyncs_are = some_same is;
}
agrees_there volume (worker ∷ workers) rest (suc core) fsyncs is =
    let more = agrees_there volume workers (λ k d within. rest (suc k) d (omega (arith, within))) core fsyncs is in
    record { worker = more.worker; there = more.there; rests = more.rests; fsyncs_are = more.fsyncs_are }

-- a core that is idle in a row of cores has its place's number
idle_number : {D : Type 0} (volume : Volume D) (number core : ℕ) (workers : List (Worker (PenHand D))) (worker : Worker (PenHand D))
    → AreIdleFrom volume.table.table volume.table.cores number (map core_of workers) → slice_get workers core ≡ Some worker
    → worker.core.view.core ≡ number + core
idle_number volume number core [] worker idle there = absurd (none_some there)
idle_number volume number zero (first ∷ workers) worker idle there =
    ap (λ (w : Worker _). w.core.view.core) (sym (some_same there)) ∙ (idle.0.number_is ∙ omega arith)
idle_number volume number (suc core) (first ∷ workers) worker idle there =
    idle_number volume (number + 1) core workers worker idle.1 there ∙ omega arith

-- What is known of a volume that was unmounted, and of the mount with which it began.
pub record Unmounted {D : Type 0} (view : D → View) (volume : Volume D) (workers : List (Worker (PenHand D))) (left : D) (history : List Entry)
    (turns : List Turn) : Type 0 where
  pub laws : (disk : D) → KeepsLaws (view disk)
  pub is : IsVolume volume
  pub are : AreWorkers volume workers
  pub leaves : LeavesVolume view volume workers left history turns

module _ {D : Type 0} (view : D → View) (volume : Volume D) (workers : List (Worker (PenHand D))) (left : D) (history : List Entry) (turns : List Turn)
    (unmounted : Unmounted view volume workers left history turns) where
  abbrev key : BoxKey D
  key = volume.set.table.given

  abbrev leaves : LeavesVolume view volume workers left history turns
  leaves = unmounted.leaves

  abbrev logs : MountLogs
  logs = record { history = history; log = leaves.log; labels = leaves.labels }

  abbrev fsyncs : List (List FlushTold)
  fsyncs = fsyncs_in volume workers unmounted.are.rest

  fsyncs_many : length fsyncs ≡ length workers
  fsyncs_many = fsyncs_count volume workers unmounted.are.rest

  table_run : IsTableRun (run_to volume.table leaves.log)
  table_run = record {
    sound = unmounted.is.site.table.sound;
    legal = leaves.events.lawful_log.legal_calls;
    lawful = leaves.events.lawful_log.told;
    disk = unmounted.is.site.disk;
  }

  fsyncs_cores : length fsyncs ≡ length volume.table.first.made
  fsyncs_cores =
      fsyncs_many ∙ (workers_count volume workers unmounted.are ∙ (unmounted.is.table_cores ∙ unmounted.is.site.cores_are))

  owned : (event : Event Fact) → IsOneOf leaves.log event → event_core event < length fsyncs
  owned event one =
      subst (λ n. event_core event < n) (sym fsyncs_cores)
      (event_owned (given_by volume.table) volume.table.first leaves.log table_run.legal table_run.lawful event one)

  -- What is so of the worker at a place where the volume has come to its end.
  record EndsThere (core : ℕ) (told : List FlushTold) : Type 0 where
    hand : FileHand
    pen : PenHand D
    core_is : hand.view.core ≡ core
    key_is : pen.table.given ≡ key
    agree : CoresAgree volume.table hand pen told
    reaches : ReachesEnd volume.table hand pen logs
    mine : hand.view.mine ≡ entries_by event_core core leaves.log

  ends_there : (core : ℕ) (told : List FlushTold) → slice_get fsyncs core ≡ Some told → EndsThere core told
  ends_there core told there =
      let at = agrees_there volume workers unmounted.are.rest core told there in
      let worker = at.worker in
      let pair = at.rests.agree in
      let number : worker.core.view.core ≡ core = idle_number volume 0 core workers worker unmounted.are.all.ready at.there ∙ omega arith in
      let key_is : worker.pen.table.given ≡ key = ap (λ (d : Desk (BoxKey D)). d.given) pair.ready.outside.table_is in
      let core_there : slice_get (map core_of workers) core ≡ Some worker.core = slice_get-map core_of workers core ∙ ap (option_map core_of) at.there in
      let pen_there : slice_get (map pen_of workers) core ≡ Some worker.pen = slice_get-map pen_of workers core ∙ ap (option_map pen_of) at.there in
      record {
        hand = worker.core;
        pen = worker.pen;
        core_is = number;
        key_is = key_is;
        agree = subst (CoresAgree volume.table worker.core worker.pen) at.fsyncs_are pair.agree;
        reaches = record {
          table = table_run;
          seen = leaves.events.seen core worker.core core_there;
          legal = leaves.legal;
          entries = sym (leaves.own core worker at.there) ∙ ap (λ n. filter (is_core n) history) (sym number);
          lawful = subst (λ (k : BoxKey D). LawfulBox k leaves.labels) (sym key_is) leaves.leaves.lawful;
          saw = leaves.leaves.seen core worker.pen pen_there;
          mine = leaves.leaves.mine core worker.pen pen_there ∙ ap (λ n. entries_by event_core n leaves.labels) (sym number);
        };
        mine = leaves.events.mine core worker.core core_there;
      }

  module _ (nodes : ℕ) (disk : D) (mounted : IsMountOfDisk view nodes disk volume) where
    abbrev begun : Mounted
    begun = mounted.begun

    lawful_disk : (d : D) → IsLawful (view d)
    lawful_disk d = let laws = unmounted.laws d in record { whole = laws.whole; read_is_left = laws.read_is_left }

    site : IsSiteMount nodes begun
    site = mounts_are_sites nodes (view disk).size begun mounted.was.sound

    -- the volume that the mount began
    pub has_begun : HasBegunVolume nodes begun history (view disk) (view mounted.left)
    has_begun =
        mounts_begin_labels (view disk) (view mounted.left) (lawful_disk disk) (lawful_disk mounted.left) nodes begun history mounted.was
        (subst (λ (t : TreeState). IsLegal t history) mounted.tree leaves.legal)

    -- its mount as it ends
    abbrev pub end : MountEnd
    end = record {
      t = volume.table;
      logs = logs;
      start = has_begun.start;
      entries = begun.old.items;
      told = record {
        layout = key.layout;
        before = key.faults;
        moment = key.start;
        log = leaves.labels;
        first = key.space;
        now = leaves.leaves.space.0;
      };
      fsyncs = fsyncs;
    }

    no_inode : NoneGranted key.space.inodes
    no_inode = subst (λ (s : Space). NoneGranted s.inodes) (sym mounted.key.space_is) site.no_inode

    no_block : NoneGranted key.space.blocks
    no_block = subst (λ (s : Space). NoneGranted s.blocks) (sym mounted.key.space_is) site.no_block

    -- its layout lies in its own blocks
    pub key_fits : IsLayout key.layout.blocks key.layout
    key_fits = subst (λ (l : Layout). IsLayout l.blocks l) (sym mounted.key.layout_is) site.fits

    cores_end : CoresEnd volume.table key logs fsyncs
    cores_end = record {
      given = subst AreWellKept (λ i. (sym mounted.given i).items) (mounts_keep_well nodes (view disk).size begun mounted.was.sound);
      box = record { fits = key_fits; space = unmounted.is.site.space; no_inode = no_inode; no_block = no_block };
      lawful = leaves.leaves.lawful;
      goes = leaves.leaves.space;
      own = owned;
      each = λ core told there. let at = ends_there core told there in record {
        hand = at.hand;
        pen = at.pen;
        core_is = at.core_is;
        key_is = at.key_is;
        agree = at.agree;
        ends = at.reaches;
        mine = at.mine;
      };
    }

    begins_at : BeginsAt end
    begins_at =
        let begins = has_begun.begins in
        let ranges = key_fits.ranges in
        record {
          labels = subst (λ (z : Layout × Space). BeginsLabels z.0 has_begun.start begun.old.items z.1)
              (λ i. (sym mounted.key.layout_is i, sym mounted.key.space_is i)) begins.labels;
          none = begins.none;
          first = begins.first_is ∙ sym mounted.tree;
          history = begins.history_is;
          short = begins.short;
          kept = λ node. subst (λ (g : GivenDisk). IsKeptIn begun.old.items node (given_in g.items node)) (sym mounted.given) (begins.kept node);
          few = omega (arith, ranges.blocks);
        }

    reaches : MountReaches D end
    reaches = record {
      table = table_run;
      asks = asked_same history (calls_in leaves.log) leaves.events.calls;
      owned = owned;
      labels_are = refl;
      along = record { may = leaves.leaves.lawful; no_inodes = no_inode; no_blocks = no_block; goes = leaves.leaves.space.1 };
      own = subst (λ n. AreOfCores n leaves.labels) (length-map workers pen_of ∙ sym fsyncs_many) leaves.leaves.own;
      rests = closed_pens_rest view volume.set (map pen_of workers) leaves.labels left turns (pens_close volume workers unmounted.is unmounted.are)
          leaves.leaves;
      cores = fsyncs_cores;
      each = λ core told there. let at = ends_there core told there in record {
        hand = at.hand;
        pen = at.pen;
        core_is = at.core_is;
        layout_is = ap (λ (k : BoxKey D). k.layout) at.key_is;
        start_is = ap (λ (k : BoxKey D). k.start) at.key_is;
        space_is = ap (λ (k : BoxKey D). k.space) at.key_is;
        agrees = at.agree;
        reaches = at.reaches;
        mine = at.mine;
      };
      frees = λ one made among is. agreed_free_nothing D volume.table key logs fsyncs made cores_end
          (record { core = among.core; told = among.fsyncs; own = among.there; one = one; among = among.among; is = is });
      begins = begins_at;
    }

    -- its mount has ended
    pub ends : MountEnds D end
    ends = mounts_reach_ends D end reaches
