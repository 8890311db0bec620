-- What a core made tells of its pair.
use Rattle.std.specs.FinMap.{get}
use Rattle.std.proofs.Common.{◌≡◌, ◌∙◌, ◌≤◌, ◌<◌, List, map, length, sym, ap, subst, inl, inr, length-append, arith, ℕ, true, is_some, Bool, Option, refl, false}
use Rattle.std.proofs.lemmas.List.{length-map}
use Rattle.sfs_base.specs.declared.numbers.NodeId.{NodeId}
use Rattle.tree_laws.specs.declared.history.Entry.{Entry}
use Rattle.tree_laws.specs.Sound.{IsWithinLimits}
use Rattle.tree_laws.specs.History.{tree_after}
use Rattle.tree_laws.specs.NameRow.{node_number}
use Rattle.tree_laws.specs.Tree.{is_directory}
use Rattle.disk_change.specs.declared.files.FileChange.{FileChange}
use Rattle.cut_laws.specs.Closure.{Counts}
use Rattle.cut_laws.specs.Cut.{cut_of}
use Rattle.cut_laws.specs.LawsInodes.{AreAllAlive}
use Rattle.cut_laws.specs.Rules.{IsOneOf}
use Rattle.look_laws.specs.Look.{itself, member}
use Rattle.beside_laws.specs.Answers.{asked}
use Rattle.beside_laws.specs.Commits.{CoreCommit, IsByItsLook, HasNotes}
use Rattle.beside_laws.specs.Progress.{KnownAtReserving}
use Rattle.beside_laws.specs.Box.{KnewLast}
use Rattle.beside_laws.proofs.Answers.{answers_tell_nothing}
use Rattle.beside_laws.proofs.Ruled.{left_once}
use Rattle.dep_closure.specs.declared.gathered.DirectoryChanges.{DirectoryChanges}
use Rattle.dep_closure.specs.History.{IsLogOf}
use Rattle.raise_laws.specs.Next.{IsMountedHistory}
use Rattle.flush_laws.specs.Volume.{Volume}
use Rattle.flush_laws.specs.Planned.{HasOldEntries}
use Rattle.flush_plan.specs.Touched.{IsFileChange}
use Rattle.mark_laws.specs.FileAt.{IsFileAt}
use Rattle.plan_laws.specs.Plans.{HasFileOf}
use Rattle.book_laws.proofs.Kept.{entries_are_kept}
use Rattle.book_laws.specs.Pairs.{run_with}
use Rattle.book_laws.specs.Walk.{brought_under}
use Rattle.reserve_laws.specs.Looks.{MayPlan, IsGatheredFor, CoreTells}
use Rattle.reserve_laws.specs.Olds.{IsKeptIn}
use Rattle.reserve_laws.proofs.Olds.{olds_are_left}
use Rattle.stamp_table.specs.Events.{calls_in}
use Rattle.mem_values.specs.Stands.{Flushed}
use Rattle.note_laws.specs.Run.{TableRun, IsTableRun, calls_of}
use Rattle.note_laws.specs.Joined.{NotesOrFiles, AreAllOf, CopiedFile, BoxKnows, Reserving, progress_at}
use Rattle.note_laws.specs.Notes.{calls_noted}
use Rattle.note_laws.specs.Merged.{is_noted_by}
use Rattle.note_laws.proofs.Along.{stamp_within, legal_begin, calls_begin}
use Rattle.note_laws.proofs.Answers.{alike_whatever_answered, copies_are_files, known_whatever_answered}
use Rattle.note_laws.proofs.Joining.{joins_give}
use Rattle.tell_laws.proofs.Kept.{saws_are_kept}
use Rattle.note_laws.proofs.Gathered.{notes_are_logs}
use Rattle.made_laws.specs.Tells.{IsMadeCommit, by_notes, by_file, AreAllMade, commit_made, IsKnownMade, last_of_seen}
use Rattle.tell_laws.specs.Tells.{IsVolumeThere, MadePlace, MadeThere, done_at, box_at, entries_at, MadesTell}
use Rattle.made_laws.specs.Made.{CoreMaking, is_concerned, old_of, cut_gathered, HasMadeFile, too_late, in_copy, sources_of}
use Rattle.made_laws.proofs.Known.{mades_are_known}

-- lists that ask the same are as long
pub as_long : (history other : List Entry) → map asked history ≡ map asked other → length history ≡ length other
as_long history other same = sym (length-map history asked) ∙ ap length same ∙ length-map other asked

-- each commit that ever is done follows from its look, and has notes or holds no directory
made_by_look : (run : TableRun) (commit : CoreCommit) → IsTableRun run → IsMadeCommit run commit → IsByItsLook commit
made_by_look run commit is (by_notes making made same) =
    subst IsByItsLook (sym same) (mades_are_known run making commit.number is made).from.by_look
made_by_look run commit is (by_file by_look files) = by_look

made_notes : (run : TableRun) (commit : CoreCommit) → IsTableRun run → IsMadeCommit run commit → NotesOrFiles run commit
made_notes run commit is (by_notes making made same) =
    inl (subst (HasNotes run.first (calls_of run)) (sym same) (mades_are_known run making commit.number is made).notes)
made_notes run commit is (by_file by_look files) = inr files

pub all_are : (run : TableRun) (all : List CoreCommit) → IsTableRun run → AreAllMade run all → AreAllOf run all
all_are run all is made = record {
  by_look = λ commit one. made_by_look run commit is (made.made commit one);
  notes = λ commit one. made_notes run commit is (made.made commit one);
  told = made.told;
}

-- a history that asks what the calls of a mounted history do is of the same trees
module _ (run : TableRun) (volume : Volume) (done : List CoreCommit) (is : IsTableRun run) (there : IsVolumeThere run volume done) where
  pub mounted : IsMountedHistory run.first (calls_of run)
  mounted =
      let history = there.stands.between.history_is in record {
        sound = is.sound;
        limits = subst IsWithinLimits there.first history.limits;
        alive = subst AreAllAlive there.first history.alive;
        legal = is.legal;
      }

  pub same_tree : tree_after run.first (calls_of run) ≡ tree_after volume.first volume.history
  same_tree =
      (answers_tell_nothing run.first (calls_of run) volume.history there.asks).whole ∙ ap (λ first. tree_after first volume.history) (sym there.first)

  pub log_there : (counts : Counts) (log : DirectoryChanges) → IsLogOf run.first (calls_of run) counts log → IsLogOf volume.first volume.history counts log
  log_there counts log one =
      subst (λ first. IsLogOf first volume.history counts log) (sym there.first)
      ((alike_whatever_answered run.first (calls_of run) volume.history there.asks).logs counts log one)

  pub copy_there : (copied : CopiedFile run)
      → IsFileAt volume.first volume.history copied.node (length (calls_in copied.at)) copied.value.file
  copy_there copied =
      subst (λ first. IsFileAt first volume.history copied.node (length (calls_in copied.at)) copied.value.file) (sym there.first)
      ((alike_whatever_answered run.first (calls_of run) volume.history there.asks).files copied.node (length (calls_in copied.at)) copied.value.file
      (copies_are_files run copied mounted))

module _ (at : MadePlace) (there : MadeThere at) where
  abbrev run : TableRun
  run = at.run

  abbrev making : CoreMaking
  making = at.making

  abbrev volume : Volume
  volume = at.beside.volume

  abbrev done : List CoreCommit
  done = done_at at

  abbrev commit : CoreCommit
  commit = commit_made run making there.made.plans at.pair.commit.number

  abbrev start : NodeId
  start = record { 0 = making.noted.node }

  is_known : IsKnownMade run making commit
  is_known = mades_are_known run making at.pair.commit.number there.table there.made

  box : BoxKnows run (box_at at) at.all commit
  box = subst (BoxKnows run (box_at at) at.all) there.pair.commit there.box_knows

  abbrev reserving : Reserving
  reserving = record {
    run = run;
    made = record { noted = making.noted; gathered = making.gathered; commit = commit };
    box = box_at at;
    all = at.all;
  }

  known_there : KnownAtReserving (run_with volume done) commit
  known_there =
      subst (λ first. KnownAtReserving
      (record { first = first; history = volume.history; done = done; cut = volume.cut; inodes = volume.inodes }) commit) (sym there.volume.first)
      (known_whatever_answered (progress_at reserving volume.cut volume.inodes) volume.history commit there.volume.asks
      (joins_give reserving volume.cut volume.inodes
      (record { table = there.table; notes = is_known.from; all_of = all_are run at.all there.table there.all_made; box_knows = box })))

  low : making.noted.stamp ≤ length volume.history
  low =
      let part = there.made.notes.each 0 there.made.some_core in
      let calls = calls_noted making.noted 0 in
      let legal = legal_begin run.first (making.noted.notes 0).at part.rest run.log part.whole there.table.legal in
      let within = stamp_within run.first calls part.stamped.entry legal part.stamped.among in
      let own = part.stamped.stamped in
      let long = ap length (calls_begin (making.noted.notes 0).at part.rest run.log part.whole) in
      let sum = length-append calls (calls_in part.rest) in
      let same = as_long (calls_of run) volume.history there.volume.asks in omega (arith, within, own, long, sum, same)

  may_plan : MayPlan volume done at.pair.commit
  may_plan = subst (MayPlan volume done) (sym there.pair.commit) (record {
    stands = there.volume.stands;
    short = there.volume.short;
    standing = there.volume.standing;
    known = known_there;
    low = low;
  })

  -- what the core saw of a node that is concerned is what memory keeps there
  kept_in : (node : ℕ) → is_concerned making node ≡ true → IsKeptIn (entries_at at) node (old_of (making.noted.pending node))
  kept_in node concerned =
      let value = there.made.gathers.seen node concerned in
      let part = there.made.notes.each 0 there.made.some_core in
      let seen : Flushed = record { cut = value.0.cut.0; last = value.0.last; old = value.0.old } in
      let left =
      saws_are_kept run at.beside node seen there.table there.disk (record {
        at = (making.noted.notes 0).at;
        rest = part.rest;
        whole = part.whole;
        saw = (part.stands node value.0 value.1.seen).flushed;
        told = box.told;
        knew = subst (KnewLast done node) (ap last_of_seen value.1.seen) (box.unmoved.knew node concerned);
      }) in
      subst (IsKeptIn (entries_at at) node) (sym (ap old_of value.1.seen)) (olds_are_left at.beside node value.0.old there.done left)

  old_is : HasOldEntries (map node_number making.concern.nodes.items) (entries_at at) making.old
  old_is = record {
    ascend = there.made.old_is.ascend;
    own = λ entry has.
        let seen = (there.made.old_is.each entry.node.0 entry.old).0 has in
        ((kept_in entry.node.0 seen.0 entry.old).0 seen.1, seen.0);
    all = λ entry has concerned.
        (there.made.old_is.each entry.node.0 entry.old).1 (concerned, (kept_in entry.node.0 concerned entry.old).1 has);
  }

  own_concerned : is_concerned making making.noted.node ≡ true
  own_concerned = (there.made.concern_is.nodes.each making.noted.node).1 (member making.noted.node itself)

  own_cut : cut_gathered making making.noted.node ≡ cut_of volume.cut making.noted.node
  own_cut =
      (left_once done making.noted.node (is_some (get volume.first.nodes making.noted.node))
      (record { stamp = commit.look.cut making.noted.node; inode = commit.look.inodes making.noted.node })
      (record { stamp = cut_of volume.cut making.noted.node; inode = volume.inodes making.noted.node }) there.volume.standing.numbered
      (known_there.fresh making.noted.node own_concerned) (there.volume.standing.left making.noted.node)).0

  abbrev HasFile : Bool → Option FileChange → Type 0
  HasFile is_file change = HasFileOf volume.first volume.history volume.cut start (record { 0 = making.noted.stamp }) is_file change

  file_is : HasFile making.is_file making.change
  file_is = by there.made.file_is
    where
      kind_there : (b : Bool) → is_directory (tree_after run.first (calls_of run)) making.noted.node ≡ b
          → is_directory (tree_after volume.first volume.history) making.noted.node ≡ b
      kind_there b kind = subst (λ tree. is_directory tree making.noted.node ≡ b) (same_tree run volume done there.table there.volume) kind

      by : HasMadeFile run making → HasFile making.is_file making.change
      by (HasMadeFile.directory kind is_file none) =
          subst (λ (p : Bool × Option FileChange). HasFile p.0 p.1) (λ i. (sym is_file i, sym none i)) (kind_there true kind, refl)
      by (too_late kind is_file none late) =
          subst (λ (p : Bool × Option FileChange). HasFile p.0 p.1) (λ i. (sym is_file i, sym none i))
          (kind_there false kind, subst (λ cut. making.noted.stamp < cut) own_cut late)
      by (in_copy change kind is_file some copy) =
          subst (λ (p : Bool × Option FileChange). HasFile p.0 p.1) (λ i. (sym is_file i, sym some i)) (
            kind_there false kind,
            (
              copy.copied.value.file,
              subst (λ (p : ℕ × ℕ). IsFileAt volume.first volume.history p.0 p.1 copy.copied.value.file) (λ i. (copy.own i, copy.drawn i))
                  (copy_there run volume done there.table there.volume copy.copied),
              subst (λ cut. IsFileChange start cut copy.copied.value.file change) own_cut copy.is,
            ),
          )

  logs_are : (log : DirectoryChanges) → IsOneOf making.gathered.logs.items log → IsLogOf volume.first volume.history at.pair.commit.counts log
  logs_are log one =
      subst (λ (c : CoreCommit). IsLogOf volume.first volume.history c.counts log) (sym there.pair.commit)
      (log_there run volume done there.table there.volume (is_noted_by run making.noted) log
      ((notes_are_logs run making.noted making.gathered.logs.items there.table there.made.notes there.made.gathers.merged).each log one).is)

  abbrev gathered_for : IsGatheredFor volume at.pair.commit (sources_of making (entries_at at))
  gathered_for = record {
    look = ap (λ (c : CoreCommit). c.look) (sym there.pair.commit);
    logs = logs_are;
    keeps = entries_are_kept at.beside.start volume (brought_under at.beside.pairs at.beside.done) at.beside.entries there.done.keeps there.done.imagines;
    orderly = there.made.gathers.orderly;
    concern_is = there.made.concern_is;
    old_is = old_is;
    file_is = file_is;
    plans = there.made.plans;
  }

  pub tells : CoreTells volume done at.pair (sources_of making (entries_at at))
  tells = record {
    may = may_plan;
    gathered = gathered_for;
    found = ap (λ (c : CoreCommit). c.makes.found) there.pair.commit;
    later = there.box_knows.gives.later;
    one = there.pair.one;
  }

pub mades_tell : MadesTell
mades_tell at there = tells at there
