-- The parts of imagined volumes, and that images which stand for them are read.
use Rattle.std.proofs.Common.{◌<◌, ◌≡◌, ◌∙◌, ◌++◌, ◌∷◌, map, refl, ℕ, find, nat_eq, Option, Some, ap, unwrap_or, option_map, sym, None, List, [], subst}
use Rattle.sfs_image.specs.Settled.{slot_count}
use Rattle.sfs_image.specs.ImageOf.{InodePart, with_opened, IsImageOf}
use Rattle.sfs_image.specs.Part.{Part}
use Rattle.sfs_image.specs.Super.{Layout}
use Rattle.journal_one.specs.Job.{Job}
use Rattle.journal_one.specs.Packed.{record_entry}
use Rattle.disk_change.specs.Records.{records_written}
use Rattle.commit_laws.specs.CommitOfPlan.{change_planned}
use Rattle.commit_laws.specs.PartsMade.{blocks_planned}
use Rattle.raise_laws.proofs.Next.{cut_trees_are_storable}
use Rattle.flush_laws.specs.Volume.{Volume, OneFsync, tree_held, tree_raised, parts_left}
use Rattle.flush_laws.specs.Planned.{IsPlannedFsync}
use Rattle.flush_laws.specs.Journal.{IsSpelled, ShowsCommit, parts_brought, AreSpelled}
use Rattle.flush_laws.proofs.Journal.{listed_given, others_stay, parts_read}
use Rattle.volume_laws.proofs.Commits.{first_slot, shows}
use Rattle.book_laws.specs.Brings.{Bringing, brought_by}
use Rattle.book_laws.specs.Imagined.{none_brought, one_brought}
use Rattle.book_laws.proofs.Imagined.{imagined_are_those}
use Rattle.slot_image_laws.specs.Commits.{parts_over}
use Rattle.imagined_laws.specs.Parts.{GivenOnce, parts_once, ImaginedShow, ImagesAreRead}

module _ (volume : Volume) (one : OneFsync) (planned : IsPlannedFsync volume one) (spelled : IsSpelled volume) where
  -- a job that writes its plan through the first slot
  abbrev job : Job
  job = record {
    place = record { layout = volume.layout; slot = 0 };
    stamp = 0;
    entries = map record_entry (records_written (change_planned one.plan) one.grant);
    fresh = blocks_planned one.plan one.grant;
  }

  slot : 0 < slot_count volume.layout
  slot = first_slot volume.layout planned.ready.sound.ranges

  shown : ShowsCommit 0 (tree_held volume) (tree_raised volume one) job volume.parts (parts_left volume one) (parts_brought volume one)
  shown =
      shows volume one job (record { planned = planned; spelled = spelled; layout = refl; writes = record { slot = slot; entries = refl; fresh = refl } }) 0

  pub spelled_then : AreSpelled volume.layout.inodes (parts_left volume one)
  spelled_then = shown.spelled

  pub given_there : (i : ℕ) → i < volume.layout.inodes → parts_over (parts_brought volume one) volume.parts i ≡ parts_left volume one i
  given_there i low = by (find (λ (own : InodePart). nat_eq own.inode i) (parts_brought volume one)) refl
    where
      by : (o : Option InodePart) → find (λ (own : InodePart). nat_eq own.inode i) (parts_brought volume one) ≡ o
          → parts_over (parts_brought volume one) volume.parts i ≡ parts_left volume one i
      by (Some own) e =
          ap (λ (o : Option InodePart). unwrap_or (option_map (λ (own : InodePart). own.part) o) (volume.parts i)) e
          ∙ sym (listed_given job slot (parts_brought volume one) volume.parts i own e) ∙ shown.after i low
      by None e =
          ap (λ (o : Option InodePart). unwrap_or (option_map (λ (own : InodePart). own.part) o) (volume.parts i)) e
          ∙ sym (others_stay job slot (parts_brought volume one) volume.parts i e) ∙ shown.after i low

pub given_once : GivenOnce
given_once volume one i planned spelled low = given_there volume one planned spelled i low

one_more_given : (brought : List Bringing) (one : Bringing) (base : ℕ → Part)
    → parts_once (brought ++ one ∷ []) base ≡ parts_over one.parts (parts_once brought base)
one_more_given [] one base = refl
one_more_given (first ∷ brought) one base = one_more_given brought one (parts_over first.parts base)

pub imagined_show : ImaginedShow
imagined_show start _ _ spelled none_brought = record { layout = refl; spelled = spelled; parts = λ i low. refl }
imagined_show start _ _ spelled (one_brought brought volume one imagines brings) =
    let was = imagined_show start volume brought spelled imagines in record {
      layout = was.layout;
      spelled = spelled_then volume (brought_by one brings) brings.planned was.spelled;
      parts = λ i low.
          ap (λ (f : ℕ → Part). f i) (one_more_given brought one start.parts)
          ∙ ap (λ (part : Part). unwrap_or (option_map (λ (own : InodePart). own.part) (find (λ (own : InodePart). nat_eq own.inode i) one.parts)) part)
          (was.parts i low)
          ∙ ap (λ (given : List InodePart). parts_over given volume.parts i) (sym brings.parts)
          ∙ given_there volume (brought_by one brings) brings.planned was.spelled i
          (subst (λ (layout : Layout). i < layout.inodes) (sym was.layout) low);
    }

pub images_are_read : ImagesAreRead
images_are_read start volume brought image share may imagines stands =
    let is = imagined_are_those start volume brought may.stands imagines in
    let shows_it = imagined_show start volume brought may.spelled imagines in
    let between = is.stands.between in
    let storable =
    cut_trees_are_storable volume.first volume.history volume.flushes volume.cut volume.inodes volume.num between.history_is between.flushed between.numbers in
    parts_read volume.layout volume.num (tree_held volume) volume.parts between.sound.good storable.sound storable.storable between.stands stands.opened
    stands.below image share
    (λ i low.
    let here = subst (λ (layout : Layout). i < layout.inodes) shows_it.layout low in
    subst (λ (layout : Layout). with_opened layout stands.opened stands.below i ≡ volume.parts i) (sym shows_it.layout)
    (stands.same i here ∙ shows_it.parts i here))
    (subst (λ (layout : Layout). IsImageOf layout stands.opened stands.below image) (sym shows_it.layout) stands.image_of)
