use Rattle.std.proofs.Common.{◌≡◌, List, subst}
use Rattle.std.specs.Bool.{Decides}
use Rattle.std.proofs.lemmas.Slice.Eq.{slice_eq-Decides}
use Rattle.image_check.specs.declared.certificate.Owner.{Owner}
use Rattle.image_check.proofs.OwnersRead.{same_owners}
use Rattle.image_check.proofs.owners.are_one.Goals as goal

pub returns : goal.returns
returns c =
    subst (λ (xs : List Owner). Decides c.eq.result (xs ≡ c.args.others.now.items)) c.as_slice.ensures.items
    (subst (λ (ys : List Owner). Decides c.eq.result (c.as_slice.result.now ≡ ys)) c.as_slice-2.ensures.items
    (slice_eq-Decides same_owners c.as_slice.result.now c.as_slice-2.result.now c.eq.result c.eq.ensures))
