use Rattle.std.proofs.Common.{◌≡◌, refl, sym, subst, ap, ◌∙◌, IsSome, map, nat_le}
use Rattle.std.specs.FinMap.{len}
use Rattle.tree_laws.specs.NameRow.{node_number}
use Rattle.tree_laws.specs.Tree.{BUCKET_ROWS}
use Rattle.mem_calls.specs.Held.{bucket_held}
use Rattle.sfs_base.specs.Name.{bucket as name_bucket}
use Rattle.mem_values.specs.declared.bucket.Bucket.{Bucket}
use Rattle.mem_rename.specs.declared.looking.Look.{Look}
use Rattle.mem_rename.specs.Ready.{bucket_or, is_at_or_in}
use Rattle.mem_rename.proofs.Sighted.{new_there, old_file_there, new_file_there, eight_there, reads_same}
use Rattle.mem_rename.proofs.sights.reads_in.Goals as goal

pub bucket_in-new-requires : goal.bucket_in-new-requires
bucket_in-new-requires c =
    subst (λ n. IsSome (bucket_held c.args.nodes c.args.core.now.held c.args.move_.now.to_directory n)) (sym c.bucket_of.ensures)
    (new_there c.args.nodes c.args.core.now c.args.move_.now c.args.plan c.requires.held)

pub links_in-requires : goal.links_in-requires
links_in-requires c = old_file_there c.args.nodes c.args.core.now c.args.move_.now c.args.plan c.requires.held

pub links_in-requires-2 : goal.links_in-requires-2
links_in-requires-2 c = new_file_there c.args.nodes c.args.core.now c.args.move_.now c.args.plan c.requires.held

pub bare_in-requires : goal.bare_in-requires
bare_in-requires c = eight_there c.args.nodes c.args.core.now c.args.move_.now c.args.plan c.requires.held c.args.plan.directory refl

pub returns : goal.returns
returns c =
    let new : bucket_or (bucket_held c.args.nodes c.args.core.now.held c.args.move_.now.to_directory (name_bucket c.args.move_.now.to_name))
    ≡ c.bucket_in-new.result.now =
    ap (λ n. bucket_or (bucket_held c.args.nodes c.args.core.now.held c.args.move_.now.to_directory n)) (sym c.bucket_of.ensures)
    ∙ ap bucket_or c.bucket_in-new.ensures in
    reads_same c.args.nodes c.args.core.now c.args.move_.now c.args.plan (map node_number c.args.above.now)
    (record {
      old_links = c.links_in.result;
      new_links = c.links_in-2.result;
      full = nat_le 4096 c.len.result;
      bare = c.bare_in.result;
      below = c.is_among.result;
    }) c.links_in.ensures c.links_in-2.ensures
    (ap (nat_le BUCKET_ROWS) (c.len.ensures ∙ ap (λ (b : Bucket). len b.rows) (sym new))) c.bare_in.ensures
    (c.is_among.ensures ∙ ap (λ (l : Look). is_at_or_in l.child c.args.move_.now.to_directory.0 (map node_number c.args.above.now)) c.requires.look)
