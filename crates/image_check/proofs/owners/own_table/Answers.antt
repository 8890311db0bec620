use Rattle.std.proofs.Common.{ℕ, List, Option, ◌<◌, length, sym, subst, arith, Bor}
use Rattle.std.specs.Prelude.{slice_index}
use Rattle.std.specs.Option.{option_copied}
use Rattle.sfs_image.specs.Inode.{Table}
use Rattle.disk_tree.specs.Apart.{entry_kept}
use Rattle.image_check.proofs.owners.own_table.Goals as goal

pub own_each-requires : goal.own_each-requires
own_each-requires c = λ k less.
    subst (λ (xs : List ℕ). slice_index xs k < length c.args.owners.now) (sym c.pointers.ensures.pointers)
    (subst (λ (o : Option (Bor Table)). entry_kept k (option_copied o) < length c.args.owners.now) c.in-Some.is
    (c.requires k (omega (arith, c.pointers.ensures.count))))
