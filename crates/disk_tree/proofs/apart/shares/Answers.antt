use Rattle.std.proofs.Common.{◌≡◌, ℕ, ◌+◌, ◌*◌, ◌<◌, List, Option, length, sym, ap, subst, arith}
use Rattle.sfs_image.specs.Inode.{Inode, Table}
use Rattle.std.specs.Prelude.{slice_index}
use Rattle.block_map.specs.Kept.{pointer_kept}
use Rattle.disk_tree.specs.Apart.{entry_kept, Meets, MarksEach, AnswersMarks}
use Rattle.disk_tree.proofs.MarksSet.{direct_meets, table_marked, table_meets, indirect_answered, entry_within, indirect_within_size}
use Rattle.disk_tree.proofs.apart.shares.Goals as goal

pub meets_in-requires : goal.meets_in-requires
meets_in-requires c = λ k tiny.
    let size = c.loop-place.invariant.size in
    let h = entry_within c.args.inode.now c.args.tables.now.items (length c.args.held.now) c.requires.within c.loop-place.place k (omega arith) tiny in
    subst (λ (o : Option Table). entry_kept k o < length c.loop-place.held) (sym c.find.ensures) (omega arith)

pub returns-then-meets_in : goal.returns-then-meets_in
returns-then-meets_in c =
    table_meets c.args.inode.now c.args.tables.now.items c.args.held.now c.loop-place.held c.loop-place.place (omega arith) c.loop-place.invariant
    (subst (λ (o : Option Table). Meets c.loop-place.held (λ k. entry_kept k o) 1024) c.find.ensures c.if-meets_in.ensures)

pub loop-place-preserved : goal.loop-place-preserved
loop-place-preserved c =
    table_marked c.args.inode.now c.args.tables.now.items c.args.held.now c.loop-place.held c.loop-place.place
    (omega arith) c.loop-place.invariant c.meets_in.new.held
    (subst (λ (o : Option Table). MarksEach c.loop-place.held c.meets_in.new.held (λ k. entry_kept k o) 1024) c.find.ensures c.if-meets_in.ensures)

pub returns-then-meets : goal.returns-then-meets
returns-then-meets c = direct_meets c.args.inode.now c.args.tables.now.items c.args.held.now c.requires.inode.direct_count
    (let e : c.inode.inside.direct ≡ c.args.inode.now.direct = ap (λ (i : Inode). i.direct) c.inode.view_is in
    subst (λ (xs : List ℕ). Meets c.args.held.now (slice_index xs) (length xs)) e c.if-meets.ensures)

pub meets-requires-2 : goal.meets-requires-2
meets-requires-2 c = λ k less.
    let size = c.loop-place.invariant.size in
    let long = c.requires.inode.indirect_count in
    let e : c.inode.inside.indirect ≡ c.args.inode.now.indirect = ap (λ (i : Inode). i.indirect) c.inode.view_is in
    let small : k < 16 = omega (arith, ap length e) in
    let h = indirect_within_size c.args.inode.now c.args.tables.now.items (length c.args.held.now) c.requires.within k small in
    subst (λ (xs : List ℕ). slice_index xs k < length c.loop-place.held) (sym e) (omega arith)

pub returns : goal.returns
returns c =
    let all : c.loop-place.place ≡ 16 = omega arith in
    let e : c.inode.inside.indirect ≡ c.args.inode.now.indirect = ap (λ (i : Inode). i.indirect) c.inode.view_is in
    indirect_answered c.args.inode.now c.args.tables.now.items c.args.held.now c.loop-place.held c.meets-2.new.held
    (subst
    (λ (n : ℕ). MarksEach c.args.held.now c.loop-place.held (pointer_kept c.args.inode.now c.args.tables.now.items) (108 + 1024 * n)) all
    c.loop-place.invariant)
    c.requires.inode.indirect_count c.meets-2.result
    (subst (λ (xs : List ℕ). AnswersMarks c.loop-place.held c.meets-2.new.held (slice_index xs) (length xs) c.meets-2.result) e c.meets-2.ensures)
