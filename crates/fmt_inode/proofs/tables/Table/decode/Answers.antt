use Rattle.std.proofs.Common.{◌≡◌, ◌*◌, ℕ, List, drop, take, length, sym, ap, ◌∙◌, arith}
use Rattle.std.proofs.lemmas.List.{take_all, with_items_is}
use Rattle.sfs_image.specs.Bytes.{number_from}
use Rattle.sfs_image.specs.Inode.{pointers_of}
use Rattle.sfs_image.proofs.PiecesLaws.{u32s_read}
use Rattle.fmt_inode.proofs.tables.Table.decode.Goals as goal

pub returns : goal.returns
returns c =
    let whole : take 4096 c.args.block.now ≡ c.args.block.now = take_all 4096 c.args.block.now (let e = c.told-block in omega arith) in
    let count : length c.read_u32_into.new.dst ≡ 1024 = c.read_u32_into.auto.dst ∙ c.deref_mut.ensures.len ∙ c.in_ok-pointers.ensures.len in
    let numbers : c.read_u32_into.new.dst ≡ pointers_of c.args.block.now =
    u32s_read 0 1024 c.args.block.now c.read_u32_into.new.dst count
    (λ k h. c.read_u32_into.ensures k h ∙ ap (λ (xs : List ℕ). number_from 0 4 (drop (4 * k) xs)) (sym whole)) in
    let items = with_items_is c.in_ok-pointers.pointers c.read_u32_into.new.dst (c.read_u32_into.auto.dst ∙ c.deref_mut.ensures.len) ∙ numbers in
    record { ok = λ i. record { place = c.args.place; pointers = items i } }
