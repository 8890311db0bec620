use Rattle.std.proofs.Common.{◌≡◌, replicate}
use Rattle.fmt_inode.proofs.tables.Table.holes.Goals as goal

pub returns : goal.returns
returns c =
    let e : c.in_ok-pointers.pointers.items ≡ replicate 1024 0 = c.in_ok-pointers.ensures.items_if_clones_equal (λ y same. same) in
    record { ok = λ i. record { place = c.args.place; pointers = e i } }
