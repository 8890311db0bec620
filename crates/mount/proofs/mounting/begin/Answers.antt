use Rattle.std.proofs.Common.{◌≡◌, ◌∙◌, arith, sym, ap, subst}
use Rattle.sfs_image.specs.Super.{Layout}
use Rattle.tree_laws.specs.Tree.{TreeState}
use Rattle.stamp_table.specs.Table.{AreNew}
use Rattle.mem_calls.specs.Table.{AreNumbersOf}
use Rattle.mount.specs.Begun.{IsTableOver, numbers_for}
use Rattle.mount.specs.Volume.{HasRoomForWorkers, IsVolume}
use Rattle.mount.specs.Workers.{AreWorkers, HaveMadeNothing}
use Rattle.mount.proofs.Crew.{BeginsWith, none_made, workers_are}
use Rattle.mount.proofs.Together.{PutTogether, numbers_are, site_of, volume_is}
use Rattle.mount.proofs.mounting.begin.Given as given
use Rattle.mount.proofs.mounting.begin.Goals as goal

pub table_over-requires-clause-begins : goal.table_over-requires-clause-begins
table_over-requires-clause-begins g c κs within =
    (site_of c.args.nodes c.args.begun (g.D.Disk.view c.requires.was.0) (g.D.Disk.view c.args.disk) c.requires.was.1).begins

pub new-requires-clause-free : goal.new-requires-clause-free
new-requires-clause-free g c κs within =
    let site = site_of c.args.nodes c.args.begun (g.D.Disk.view c.requires.was.0) (g.D.Disk.view c.args.disk) c.requires.was.1 in
    (site.no_inode, site.no_block)

pub table_over-requires-clause-sound : goal.table_over-requires-clause-sound
table_over-requires-clause-sound g c κs within =
    let site = site_of c.args.nodes c.args.begun (g.D.Disk.view c.requires.was.0) (g.D.Disk.view c.args.disk) c.requires.was.1 in
    (site.sound, site.limits)

pub table_over-requires-clause-numbers : goal.table_over-requires-clause-numbers
table_over-requires-clause-numbers g c κs within =
    let begun = c.args.begun in
    let numbers : c.numbers_of-numbers.result ≡ numbers_for begun.layout c.args.nodes =
    c.numbers_of-numbers.ensures
    in
    subst (AreNumbersOf begun.tree) (sym numbers)
    (numbers_are c.args.nodes begun (g.D.Disk.view c.requires.was.0) (g.D.Disk.view c.args.disk) c.requires.was.1)

pub table_over-requires-clause-few : goal.table_over-requires-clause-few
table_over-requires-clause-few g c κs within =
    let begun = c.args.begun in
    let view = g.D.Disk.view in
    let site = site_of c.args.nodes begun (view c.requires.was.0) (view c.args.disk) c.requires.was.1 in
    let high = site.fits.ranges.inodes_high in
    let few = site.few in
    let most = c.requires.most in
    omega (arith, high, few, most)

pub returns-clause-volume : goal.returns-clause-volume
returns-clause-volume g c =
    let view = g.D.Disk.view in
    let old = c.requires.was.0 in
    let was = c.requires.was.1 in
    let begun = c.args.begun in
    let cores : c.layout.inside.cores ≡ begun.layout.cores = ap (λ (l : Layout). l.cores) c.layout.view_is in
    let made = c.in-Ok-new.ensures in
    let site = site_of c.args.nodes begun (view old) (view c.args.disk) was in
    let put : PutTogether view c.args.nodes old c.args.disk begun c.in-Ok.tabled c.in-Ok-new.made.0 c.in-Ok-new.made.1.items =
    record {
      was = was;
      most = c.requires.most;
      table = subst (λ n. IsTableOver begun.tree begun.old n c.in-Ok.tabled) cores c.in-Ok.ensures.table;
      room = subst (λ n. HasRoomForWorkers n c.in-Ok.tabled.room) cores c.in-Ok.ensures.room;
      key = made.key;
      over = made.began;
      new = made.pens;
    }
    in
    subst (λ n. IsVolume (record {
      table = c.in-Ok.tabled.table;
      set = c.in-Ok-new.made.0;
      cores = n;
      room = c.in-Ok.tabled.room;
    })) (sym cores)
    (volume_is view c.args.nodes old c.args.disk begun c.in-Ok.tabled c.in-Ok-new.made.0 c.in-Ok-new.made.1.items put
    (let low = site.fits.ranges.cores_low in omega (arith, low))
    (let high = site.fits.ranges.inodes_high in let few = site.few in let most = c.requires.most in omega (arith, high, few, most)))

-- what the cores and pens are with which it begins
begins_with : (g : given.Over) (c : goal.After-drop-tree-inside-8 g) → BeginsWith (record {
  table = c.in-Ok.tabled.table;
  set = c.in-Ok-new.made.0;
  cores = c.layout.inside.cores;
  room = c.in-Ok.tabled.room;
}) c.in-Ok.tabled.cores.items c.in-Ok-new.made.1.items
begins_with g c =
    let table = c.in-Ok.ensures.table in
    let made = c.in-Ok-new.ensures in
    record {
      all = table.all;
      new = subst (λ (t : TreeState). AreNew t c.in-Ok.tabled.cores.items) (sym table.first) table.new;
      between = table.between;
      pens_new = made.pens;
      same = made.pens.all.count ∙ (made.pens.cores ∙ (ap (λ (l : Layout). l.cores) made.key.layout_is
          ∙ (ap (λ (l : Layout). l.cores) (sym c.layout.view_is) ∙ sym table.count)));
    }

pub returns-clause-workers : goal.returns-clause-workers
returns-clause-workers g c =
    subst (AreWorkers (record {
      table = c.in-Ok.tabled.table;
      set = c.in-Ok-new.made.0;
      cores = c.layout.inside.cores;
      room = c.in-Ok.tabled.room;
    })) (sym c.pair_up.ensures) (workers_are _ c.in-Ok.tabled.cores.items c.in-Ok-new.made.1.items (begins_with g c))

pub returns-clause-new : goal.returns-clause-new
returns-clause-new g c =
    subst HaveMadeNothing (sym c.pair_up.ensures) (none_made _ c.in-Ok.tabled.cores.items c.in-Ok-new.made.1.items (begins_with g c))
