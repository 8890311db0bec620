use Rattle.std.proofs.Common.{◌<◌, [], get_or, length, sym, ap, subst, ◌∙◌}
use Rattle.std.proofs.lemmas.Result.{on_ok_weaker}
use Rattle.disk_nodes.specs.Indexed.{Indexed, has_name}
use Rattle.disk_nodes.specs.Names.{tells}
use Rattle.disk_nodes.proofs.Telling.{noted_of, told_of_name}
use Rattle.disk_nodes.proofs.slots.DirectorySlots.push_places.Goals as goal

pub returns-else-bucket-clause-each : goal.returns-else-bucket-clause-each
returns-else-bucket-clause-each c =
    let name = c.args.name.now in
    let index : Indexed = c.self.inside.index in
    let blocks = c.deref-else-bucket.ensures.value ∙ c.self.view_is in
    let bucket = c.bucket_with-bucket.ensures in
    on_ok_weaker c.push_noted.result
    (λ each n within has.
    let own = subst (λ l. n < length l) (sym c.self.view_is) within in
    let named = ap (λ l. has_name name (get_or l n [])) c.self.view_is ∙ has in
    each n (subst (λ l. n < length l) (sym blocks) within)
    (noted_of c.bucket_with-bucket.result n c.if-bucket.false
    (ap (λ b. tells b n) bucket
    ∙ told_of_name index.buckets n (get_or c.self.inside.blocks.items n []) name (c.self.invariant.names n own) named))
    (ap (λ l. has_name name (get_or l n [])) blocks ∙ has))
    c.push_noted.ensures.each
