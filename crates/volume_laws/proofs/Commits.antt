-- The commit of an fsync of a volume.
use Rattle.std.proofs.Common.{◌≡◌, ℕ, zero, suc, ◌*◌, ◌<◌, ◌≤◌, List, map, get_or, Some, None, inl, refl, sym, ap, subst, ◌∙◌, arith, nat_eq, Contains}
use Rattle.std.specs.List.{find}
use Rattle.std.proofs.lemmas.List.Elements.{Contains-get_or}
use Rattle.sfs_base.proofs.BasicNumbers.{le_itself}
use Rattle.sfs_dev.specs.Disk.{View, images}
use Rattle.sfs_image.specs.ImageOf.{InodePart, FreshBlock, IsImageOf}
use Rattle.sfs_image.specs.Journal.{Entry as JournalEntry}
use Rattle.sfs_image.specs.Settled.{slot_count}
use Rattle.sfs_image.specs.Super.{Layout, InRange}
use Rattle.sfs_image.proofs.ImageOfLaws.{parts_instead}
use Rattle.fmt_journal.specs.declared.tx.Tx.{Tx}
use Rattle.fmt_journal.specs.declared.tx.TxRecord.{TxRecord}
use Rattle.image_laws.specs.Image.{inodes_shown, IsReadAsTree}
use Rattle.journal_one.specs.Job.{Place, Job, LiesInData}
use Rattle.journal_one.specs.Packed.{record_entry, block_of, contents_of}
use Rattle.commit_one.specs.Change.{nothing_open, parts_after, job_for}
use Rattle.disk_change.specs.Records.{records_written}
use Rattle.commit_laws.specs.CommitOfPlan.{change_planned}
use Rattle.commit_laws.specs.PartsMade.{blocks_planned, IsPlanOverParts}
use Rattle.commit_laws.proofs.GrantWritten.{fresh_numbers}
use Rattle.commit_laws.proofs.OwnInodes.{mapped_is_in}
use Rattle.commit_laws.proofs.SeatsOfPlan.{in_mapped}
use Rattle.crash_laws.specs.Wrote.{Wrote}
use Rattle.flush_laws.specs.Journal.{AreSpelled, ShowsCommit, parts_brought, HasJob}
use Rattle.flush_laws.proofs.Clean.{over_parts}
use Rattle.flush_laws.proofs.Journal.{others_stay, record_is_low, job_shows}
use Rattle.volume_laws.specs.Commits.{OkCommitsGoOn, HasNothingToWrite, IsWrittenAlready, EmptyCommitsWrite, WasBuilt, CanCommit, BuiltJobsWritePlans}
use Rattle.flush_laws.specs.Volume.{Volume, OneFsync, tree_held, tree_raised, parts_left}

-- a disk has a journal slot
pub first_slot : (layout : Layout) → InRange layout → 0 < slot_count layout
first_slot layout is = let cores = is.cores_low in let slots = is.slots_low in by layout.cores layout.slots cores slots
  where
    by : (a b : ℕ) → 1 ≤ a → 1 ≤ b → 0 < a * b
    by zero b low some = absurd (omega (arith, low))
    by (suc a) zero low some = absurd (omega (arith, some))
    by (suc a) (suc b) low some = omega arith

module _ (volume : Volume) (one : OneFsync) (job : Job) (has : HasJob volume one job) where
  pub shows : (share : ℕ) → ShowsCommit share (tree_held volume) (tree_raised volume one) job volume.parts (parts_left volume one)
      (parts_brought volume one)
  shows = job_shows volume one job has

  -- an image of the parts after a job's commit is one of those that the fsync leaves
  pub image_left : (image : List ℕ) → IsImageOf job.place.layout nothing_open (parts_after job volume.parts (parts_brought volume one)) image
      → IsImageOf volume.layout nothing_open (parts_left volume one) image
  image_left image is =
      subst (λ (layout : Layout). IsImageOf layout nothing_open (parts_left volume one) image) has.layout
      (parts_instead job.place.layout nothing_open (parts_after job volume.parts (parts_brought volume one)) (parts_left volume one) image
      (λ i low none. sym ((shows 0).after i low)) is)

pub ok_commits_go_on : (old now : View) → OkCommitsGoOn old now
ok_commits_go_on old now volume one job has carried content told image left = image_left volume one job has image (carried.ended content told image left)

module _ (volume : Volume) (one : OneFsync) (disk : View) (is : HasNothingToWrite volume one disk) where
  abbrev job_of_none : Job
  job_of_none = record {
    place = record { layout = volume.layout; slot = 0 };
    stamp = 0;
    entries = map record_entry (records_written (change_planned one.plan) one.grant);
    fresh = blocks_planned one.plan one.grant;
  }

  has_job : HasJob volume one job_of_none
  has_job = record {
    planned = is.planned;
    spelled = is.spelled;
    layout = refl;
    writes = record { slot = first_slot volume.layout is.planned.ready.sound.ranges; entries = refl; fresh = refl };
  }

  none_brought : (i : ℕ) → find (λ (own : InodePart). nat_eq own.inode i) (parts_brought volume one) ≡ None
  none_brought i =
      ap (λ (those : List TxRecord). find (λ (own : InodePart). nat_eq own.inode i)
      (map (λ (one_record : TxRecord). record { inode = one_record.inode; part = parts_left volume one one_record.inode }) those)) is.none

  after_is : (i : ℕ) → parts_after job_of_none volume.parts (parts_brought volume one) i ≡ volume.parts i
  after_is i = others_stay job_of_none has_job.writes.slot (parts_brought volume one) volume.parts i (none_brought i)

  image_after : (image : List ℕ) → IsImageOf volume.layout nothing_open volume.parts image
      → IsImageOf volume.layout nothing_open (parts_after job_of_none volume.parts (parts_brought volume one)) image
  image_after image stands =
      parts_instead volume.layout nothing_open volume.parts (parts_after job_of_none volume.parts (parts_brought volume one)) image
      (λ i low none. after_is i) stands

  read_raised : (share : ℕ) (image : List ℕ) → IsImageOf volume.layout nothing_open volume.parts image
      → IsReadAsTree image share (tree_raised volume one)
  read_raised share image stands = (shows volume one job_of_none has_job share).after_shows image (image_after image stands)

  wrote_none : (content : List ℕ) → disk.content ≡ Some content → (share : ℕ)
      → Wrote share (tree_held volume) (tree_raised volume one) disk disk (Some disk.now)
  wrote_none content told share = record {
    keeps = record { later = le_itself disk.now; past = λ k image low left. left };
    moments = λ k image low high left. inl
        (read_left image (subst (λ (m : ℕ). disk.crash_images m image) (let same : k ≡ disk.now = omega (arith, low, high) in same) left));
    makes = record {
      not_before = le_itself disk.now;
      not_after = le_itself disk.now;
      holds = record { left = read_left; told = λ other also. read_left other (is.leaves other also) };
    };
  }
    where
      read_left : (image : List ℕ) → images disk image → IsReadAsTree image share (tree_raised volume one)
      read_left image left = read_raised share image (is.holds content told image left)

  pub written_already : IsWrittenAlready volume one disk
  written_already = record {
    same = λ i low. sym ((shows volume one job_of_none has_job 0).after i low) ∙ after_is i;
    spelled = (shows volume one job_of_none has_job 0).spelled;
    holds = λ content told image left. image_left volume one job_of_none has_job image (image_after image (is.holds content told image left));
    wrote = wrote_none;
  }

pub empty_commits_write : (disk : View) → EmptyCommitsWrite disk
empty_commits_write disk volume one is = written_already volume one disk is

module _ (volume : Volume) (one : OneFsync) (tx : Tx) (place : Place) (stamp : ℕ) (is : WasBuilt volume one tx place) where
  abbrev job : Job
  job = job_for place (contents_of tx) stamp

  slot_within : place.slot < slot_count place.layout
  slot_within =
      let some = first_slot volume.layout is.planned.ready.sound.ranges in
      subst (λ (n : ℕ). n < slot_count place.layout) (sym is.slot) (subst (λ (layout : Layout). 0 < slot_count layout) (sym is.layout) some)

  built_job : HasJob volume one job
  built_job = record {
    planned = is.planned;
    spelled = is.spelled;
    layout = is.layout;
    writes = record {
      slot = slot_within;
      entries = ap (map record_entry) is.built.records;
      fresh = ap (map block_of) is.built.fresh;
    };
  }

  low_entry : (entry : JournalEntry) → Contains (contents_of tx).entries entry → entry.inode < place.layout.inodes
  low_entry entry there =
      let of_record = mapped_is_in record_entry tx.records.items entry there in
      subst (λ (e : JournalEntry). e.inode < place.layout.inodes) of_record.2
      (record_is_low volume one job built_job of_record.0 (subst (λ (those : List TxRecord). Contains those of_record.0) is.built.records of_record.1))

  over : IsPlanOverParts volume.num one.nodes (tree_held volume) (tree_raised volume one)
      (inodes_shown volume.layout volume.parts) one.plan one.grant volume.store volume.parts
  over = over_parts volume one is.planned

  lies : (fresh : FreshBlock) → Contains (contents_of tx).fresh fresh → LiesInData place.layout fresh
  lies fresh there =
      let planned_block : Contains (blocks_planned one.plan one.grant) fresh =
      subst (λ (those : List FreshBlock). Contains those fresh) (ap (map block_of) is.built.fresh) there in
      let granted : Contains one.grant.blocks fresh.block =
      subst (λ (those : List ℕ). Contains those fresh.block)
      (fresh_numbers volume.num one.nodes (tree_held volume) (tree_raised volume one)
      (inodes_shown volume.layout volume.parts) one.plan one.grant volume.store volume.parts over)
      (in_mapped (λ (block : FreshBlock). block.block) (blocks_planned one.plan one.grant) fresh planned_block) in
      let bounds = is.planned.grants.lies fresh.block granted in
      subst (λ (layout : Layout). LiesInData layout fresh) (sym is.layout) (record { low = bounds.0; high = bounds.1 })

  pub can_commit : CanCommit volume one tx place stamp
  can_commit = record {
    job = built_job;
    below = λ k d low. low_entry (get_or (contents_of tx).entries k d) (Contains-get_or (contents_of tx).entries k d low);
    in_data = λ k d low. lies (get_or (contents_of tx).fresh k d) (Contains-get_or (contents_of tx).fresh k d low);
    spelled = subst (λ (layout : Layout). AreSpelled layout.inodes (parts_left volume one)) is.layout (shows volume one job built_job 0).spelled;
    shows = shows volume one job built_job;
  }

pub built_jobs_write_plans : BuiltJobsWritePlans
built_jobs_write_plans volume one tx place stamp is = can_commit volume one tx place stamp is
