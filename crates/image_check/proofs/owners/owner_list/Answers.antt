use Rattle.std.proofs.Common.{length, sym, subst}
use Rattle.std.proofs.lemmas.Result.{IfOk-weaker}
use Rattle.sfs_base.specs.Lists.{Roomy}
use Rattle.image_check.specs.Gathered.{AreGatheredOwners, HasOwners}
use Rattle.image_check.specs.declared.certificate.Owner.{Owner}
use Rattle.image_check.proofs.OwnersRead.{listed_are}
use Rattle.image_check.proofs.owners.owner_list.Goals as goal

pub returns : goal.returns
returns c =
    let inodes = c.args.inodes.now in
    let tables = c.args.tables.now in
    let has : HasOwners inodes tables (length inodes) c.deref.result.now =
    subst (HasOwners inodes tables (length inodes)) (sym c.deref.ensures.value) c.in_ok-owners.ensures.owners in
    IfOk-weaker c.listed.result _ (λ (owners : Roomy Owner). AreGatheredOwners inodes tables owners.items)
    (λ list e. listed_are inodes tables c.deref.result.now has list.items e) c.listed.ensures
