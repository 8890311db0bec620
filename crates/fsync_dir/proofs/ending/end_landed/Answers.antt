use Rattle.std.proofs.Common.{◌∙◌, ◌≤◌, ℕ, List, ap, length, refl, subst, sym}
use Rattle.sfs_base.specs.declared.numbers.NodeId.{NodeId}
use Rattle.mem_values.specs.Start.{given_by}
use Rattle.fsync_end.specs.Finishing.{Finishes}
use Rattle.fsync_end.specs.declared.finishing.Ending.{Ending}
use Rattle.fsync_values.specs.Renewing.{boxes_asked, values_renewed}
use Rattle.fsync_dir.proofs.Ended.{EndPlace, LandsThere, count, enough, lands_so, may_end}
use Rattle.fsync_dir.proofs.Told.{fact_of}
use Rattle.mem_calls.specs.Table.{nodes_of}
use Rattle.fsync_dir.proofs.ending.end_landed.Goals as goal

pub renew-requires-clause-count : goal.renew-requires-clause-count
renew-requires-clause-count g c =
    let e : EndPlace = record {
      t = c.args.site.now.table.now;
      nodes = nodes_of c.args.site.now.table.now;
      fsync = c.args.fsync;
      left = c.args.left;
      landed = c.args.landed;
      s = c.requires.landed.0;
      hand = c.args.core.now;
    }
    in
    let there : LandsThere e = record { table = c.requires.table; is = c.requires.landed.1 } in
    count e there ∙ ap length (sym c.as_slice-2.ensures)

pub renew-requires-clause-spares : goal.renew-requires-clause-spares
renew-requires-clause-spares g c =
    let e : EndPlace = record {
      t = c.args.site.now.table.now;
      nodes = nodes_of c.args.site.now.table.now;
      fsync = c.args.fsync;
      left = c.args.left;
      landed = c.args.landed;
      s = c.requires.landed.0;
      hand = c.args.core.now;
    }
    in
    let there : LandsThere e = record { table = c.requires.table; is = c.requires.landed.1 } in
    subst (λ (l : List NodeId). boxes_asked c.into_after.result.items l c.args.left.values.items ≤ length c.args.left.spares.items) (sym c.as_slice-2.ensures)
    (enough e there c.into_after.result.items)

pub finish-requires-clause-may : goal.finish-requires-clause-may
finish-requires-clause-may g c =
    let e : EndPlace = record {
      t = c.args.site.now.table.now;
      nodes = nodes_of c.args.site.now.table.now;
      fsync = c.args.fsync;
      left = c.args.left;
      landed = c.args.landed;
      s = c.requires.landed.0;
      hand = c.args.core.now;
    }
    in
    let there : LandsThere e = record { table = c.requires.table; is = c.requires.landed.1 } in
    let ending : Ending = record {
      number = c.args.landed.ack.commit;
      node = c.args.fsync.node;
      stamp = c.args.fsync.stamp;
      members = c.args.left.directories;
      nodes = c.args.left.nodes;
      values = c.renew.new.values;
      ack = c.args.landed.ack.moment;
    }
    in
    let values = c.renew.ensures
    ∙ (λ i. values_renewed (record { number = c.args.landed.ack.commit; stamp = c.args.fsync.stamp }) (c.as_slice.ensures i) (c.into_after.ensures i)
    (c.as_slice-2.ensures i) c.args.left.values.items)
    in
    may_end e there ending refl refl refl refl refl values

pub returns : goal.returns
returns g c = record {
  lands = λ s has.
      let e : EndPlace = record {
        t = c.args.site.now.table.now;
        nodes = nodes_of c.args.site.now.table.now;
        fsync = c.args.fsync;
        left = c.args.left;
        landed = c.args.landed;
        s = s;
        hand = c.args.core.now;
      }
      in
      let there : LandsThere e = record { table = c.requires.table; is = has } in
      let ending : Ending = record {
        number = c.args.landed.ack.commit;
        node = c.args.fsync.node;
        stamp = c.args.fsync.stamp;
        members = c.args.left.directories;
        nodes = c.args.left.nodes;
        values = c.renew.new.values;
        ack = c.args.landed.ack.moment;
      }
      in
      let values = c.renew.ensures
      ∙ (λ i. values_renewed (record { number = c.args.landed.ack.commit; stamp = c.args.fsync.stamp }) (c.as_slice.ensures i) (c.into_after.ensures i)
      (c.as_slice-2.ensures i) c.args.left.values.items)
      in
      lands_so e there ending refl refl refl refl refl values c.finish.new.core refl c.finish.ensures.between
      (subst (λ (cores : ℕ). Finishes (given_by c.args.site.now.table.now) cores (fact_of ending) ending c.args.core.now c.finish.new.core) c.requires.cores
      (c.finish.ensures.finishes (fact_of ending) refl));
}
