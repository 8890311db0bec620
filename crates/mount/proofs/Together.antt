-- What is put together as a volume is mounted.
use Rattle.std.proofs.Common.{◌≡◌, ◌≤◌, ◌<◌, ◌+◌, ◌*◌, ◌∙◌, ℕ, List, length, sym, ap, subst, arith}
use Rattle.std.specs.Prelude.{All, slice_get}
use Rattle.sfs_image.specs.Super.{IsLayout, InRange}
use Rattle.sfs_dev.specs.Disk.{View}
use Rattle.tree_laws.specs.Tree.{TreeState}
use Rattle.stamp_table.specs.Table.{TableState}
use Rattle.mem_values.specs.Places.{node_count}
use Rattle.mem_values.specs.Start.{FileHand, FileState, given_by}
use Rattle.disk_box.specs.declared.key.BoxKey.{BoxKey}
use Rattle.disk_box.specs.Pens.{PenHand}
use Rattle.journal_set.specs.Making.{AreNewPens, BeganOver, IsKeyOf}
use Rattle.mount_begin.specs.Mounted.{share_of_nodes}
use Rattle.mount_begin.specs.declared.begin.Mounted.{Mounted as Begun}
use Rattle.volume_laws.specs.Mounting.{WasMounted}
use Rattle.site_laws.specs.Sites.{IsSiteMount}
use Rattle.site_laws.proofs.Sites.{mounts_are_sites}
use Rattle.mem_calls.specs.Table.{AreNumbersOf, nodes_of}
use Rattle.fsync_dir.specs.Site.{IsSite}
use Rattle.table_totals.specs.Seen.{HasNoLongFile}
use Rattle.mount.specs.Begun.{IsTableOver, numbers_for}
use Rattle.mount.specs.Volume.{HasRoomForWorkers, IsMountOfDisk, IsVolume}
use Rattle.mount.specs.declared.mounting.Tabled.{Tabled}
use Rattle.mount.specs.declared.volume.Volume.{Volume}

-- What was mounted, the table over its tree, and the journals over its disk.
pub record PutTogether {D : Type 0} (view : D → View) (nodes : ℕ) (disk left : D) (begun : Begun) (tabled : Tabled D) (set : TableState (BoxKey D))
    (pens : List (PenHand D)) : Type 0 where
  pub was : WasMounted nodes begun (view disk) (view left)
  pub most : nodes ≤ 65536
  pub table : IsTableOver begun.tree begun.old begun.layout.cores tabled
  pub room : HasRoomForWorkers begun.layout.cores tabled.room
  pub key : IsKeyOf begun.layout (view left) begun.space set.table.given
  pub over : BeganOver left set.table.given
  pub new : AreNewPens set pens

-- the site that was mounted
pub site_of : (nodes : ℕ) (begun : Begun) (old new : View) → WasMounted nodes begun old new → IsSiteMount nodes begun
site_of nodes begun old new was = mounts_are_sites nodes old.size begun was.sound

-- its tree's share of new nodes
pub share_is : (nodes : ℕ) (begun : Begun) (old new : View) → WasMounted nodes begun old new → begun.tree.share ≡ share_of_nodes nodes begun.layout
share_is nodes begun old new was = ap (λ (t : TreeState). t.share) was.sound.shown

-- by these its cores number new nodes
pub numbers_are : (nodes : ℕ) (begun : Begun) (old new : View) → WasMounted nodes begun old new → AreNumbersOf begun.tree (numbers_for begun.layout nodes)
numbers_are nodes begun old new was = record {
  first_is = (site_of nodes begun old new was).inodes;
  share_is = sym (share_is nodes begun old new was);
}

module _ {D : Type 0} (view : D → View) (nodes : ℕ) (disk left : D) (begun : Begun) (tabled : Tabled D) (set : TableState (BoxKey D))
    (pens : List (PenHand D)) (put : PutTogether view nodes disk left begun tabled set pens) where
  -- the volume
  abbrev pub volume_of : Volume D
  volume_of = record { table = tabled.table; set = set; cores = begun.layout.cores; room = tabled.room }

  site : IsSiteMount nodes begun
  site = site_of nodes begun (view disk) (view left) put.was

  -- it has the layout's cores
  made_cores : length tabled.table.first.made ≡ begun.layout.cores
  made_cores = ap (λ (t : TreeState). length t.made) put.table.first ∙ site.cores

  table_cores : tabled.table.cores ≡ begun.layout.cores
  table_cores = put.table.counted ∙ made_cores

  site_is : IsSite tabled.table (nodes_of tabled.table) begun.layout.cores set.table.given
  site_is = record {
    table = put.table.is;
    cores_are = sym made_cores;
    inodes = ap (λ (l : Rattle.sfs_image.specs.Super.Layout). l.inodes) put.key.layout_is ∙ (site.inodes ∙ ap (λ (t : TreeState). t.first) (sym put.table.first));
    space = subst (λ (z : Rattle.sfs_image.specs.Super.Layout × Rattle.space_map.specs.Space.Space). Rattle.fsync_commit.specs.Asked.IsSpaceOn z.0 z.1)
        (λ i. (sym put.key.layout_is i, sym put.key.space_is i)) site.space;
    disk = λ node.
        ap (λ (g : Rattle.mem_values.specs.Start.GivenDisk). Rattle.std.specs.Prelude.is_some (Rattle.mem_values.specs.Start.given_in g.items node)) put.table.given_is
        ∙ (site.disk node ∙ ap (λ (t : TreeState). Rattle.std.specs.Prelude.is_some (Rattle.std.specs.FinMap.get t.nodes node)) (sym put.table.first));
    below = λ node.
        subst (λ (z : ℕ × Rattle.mem_values.specs.Start.GivenDisk).
        Rattle.mem_values.specs.Facts.IsBelowInodes z.0 (Rattle.mem_values.specs.Start.given_in z.1.items node))
        (λ i. ((sym put.table.first i).first, sym put.table.given_is i)) (site.below node);
  }

  -- it is one
  pub volume_is : 0 < begun.layout.cores → node_count begun.tree ≤ 131072 → IsVolume volume_of
  volume_is some few = record {
    short = subst HasNoLongFile (sym put.table.first) site.begins.short;
    site = site_is;
    some = some;
    table_cores = table_cores;
    set_cores = put.new.cores ∙ ap (λ (l : Rattle.sfs_image.specs.Super.Layout). l.cores) put.key.layout_is;
    few = let same = ap node_count put.table.first in omega (arith, few, same);
    room = put.room;
  }

  pub mount_is : IsMountOfDisk view nodes disk volume_of
  mount_is = record {
    begun = begun;
    left = left;
    was = put.was;
    tree = put.table.first;
    given = put.table.given_is;
    key = put.key;
    over = put.over;
  }
