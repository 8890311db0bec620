-- What a mount leaves of a disk that told an image.
use Rattle.std.proofs.Common.{ℕ, List, refl, sym, subst, ◌∙◌}
use Rattle.sfs_base.proofs.BasicNumbers.{le_itself}
use Rattle.sfs_dev.specs.Disk.{View}
use Rattle.sfs_image.specs.ImageOf.{IsImageOf}
use Rattle.sfs_image.specs.Settled.{layout_of, parts_of}
use Rattle.sfs_image.specs.Super.{Layout}
use Rattle.sfs_image.proofs.ImageOfLaws.{parts_instead}
use Rattle.commit_one.specs.Change.{nothing_open}
use Rattle.image_laws.specs.Image.{IsReadAsTree}
use Rattle.recovery.specs.Freed.{without_unlinked}
use Rattle.recovery.specs.Recovered.{ShowsTheSame, IsRecoveredFrom}
use Rattle.recovery.proofs.JudgedImage.{has_no_fault}
use Rattle.mount_begin.specs.Mounted.{share_of_nodes}
use Rattle.mount_begin.specs.declared.begin.Mounted.{Mounted}
use Rattle.volume_laws.specs.Begun.{WasTold, LeavesMounted, ToldMountsLeave}

module _ (nodes : ℕ) (image : List ℕ) (mounted : Mounted) (old new : View) (told : WasTold nodes image mounted old new) where
  abbrev share : ℕ
  share = share_of_nodes nodes mounted.layout

  stands_for : (now : List ℕ) → IsRecoveredFrom image now → IsImageOf mounted.layout nothing_open (without_unlinked (parts_of mounted.layout image)) now
  stands_for now recovered =
      subst (λ (layout : Layout). IsImageOf layout nothing_open (without_unlinked (parts_of layout image)) now) (sym told.is.layout_is)
      (parts_instead (layout_of image) nothing_open recovered.parts (without_unlinked (parts_of (layout_of image) image)) now
      (λ i low none. sym (recovered.without i low)) recovered.stands)

  read_same : (now : List ℕ) → ShowsTheSame now image → IsReadAsTree now share mounted.tree
  read_same now same = record {
    faultless = same.fault ∙ has_no_fault image share mounted.tree told.is.tree;
    shown = mounted.tree;
    read = same.tree share ∙ told.is.tree;
    shape = refl;
  }

  pub leaves_mounted : LeavesMounted nodes image mounted old new
  leaves_mounted = record {
    holds = λ content is now left. stands_for now (told.ended content is now left);
    mounts = record {
      later = told.later;
      moments = λ k now low high left. read_same now (told.moments k now low high left);
      told = λ content is. read_same content (told.moments new.now content told.later (le_itself new.now) (told.leaves content is));
    };
  }

pub told_mounts_leave : (old new : View) → ToldMountsLeave old new
told_mounts_leave old new nodes image mounted told = leaves_mounted nodes image mounted old new told
