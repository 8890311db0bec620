use Rattle.std.proofs.Common.{ℕ, sym, subst, arith}
use Rattle.std.proofs.lemmas.List.Elements.{All-get_or}
use Rattle.sfs_image.specs.Inode.{IsInode}
use Rattle.sfs_image.specs.Seen.{PLACES}
use Rattle.disk_tree.specs.Apart.{Meets, pointer_in}
use Rattle.disk_tree.proofs.HeldOnce.{none_held, held_more, same_pointers, marks_same}
use Rattle.disk_tree.proofs.apart.first_that_meets.Goals as goal

pub loop-place-init : goal.loop-place-init
loop-place-init c = record { once = none_held c.args.inodes.now c.args.tables.now c.args.held.now c.requires.unmarked }

pub shares-requires-clause-inode : goal.shares-requires-clause-inode
shares-requires-clause-inode c =
    subst IsInode (sym c.index-inodes-place.is) (All-get_or IsInode c.args.inodes.now c.loop-place.place _ (omega arith) c.requires.inodes)

pub shares-requires-clause-within : goal.shares-requires-clause-within
shares-requires-clause-within c = λ place less.
    let e =
    same_pointers c.args.inodes.now c.args.tables.now c.loop-place.place _ _ (omega arith)
    (omega arith) c.index-inodes-place.is c.index-tables-place.is place in
    let h = c.requires.within c.loop-place.place place (omega arith) less in
    let size = c.loop-place.auto.held in
    omega arith

pub returns-then-shares : goal.returns-then-shares
returns-then-shares c = record {
  within = omega arith;
  marked = c.loop-place.held;
  lesser = c.loop-place.invariant.once;
  meets =
      (let P : (ℕ → ℕ) → Type 0 = λ f. Meets c.loop-place.held f PLACES in
      subst P
      (λ i k. same_pointers c.args.inodes.now c.args.tables.now c.loop-place.place _ _ (omega arith)
      (omega arith) c.index-inodes-place.is c.index-tables-place.is k i)
      c.if-shares.ensures);
}

pub loop-place-preserved : goal.loop-place-preserved
loop-place-preserved c = record {
  once = held_more c.args.inodes.now c.args.tables.now c.loop-place.place c.loop-place.held c.shares.new.held c.loop-place.invariant.once
      (marks_same c.loop-place.held c.shares.new.held _ (pointer_in c.args.inodes.now c.args.tables.now c.loop-place.place)
      (same_pointers c.args.inodes.now c.args.tables.now c.loop-place.place _ _ (omega arith) (omega arith) c.index-inodes-place.is c.index-tables-place.is)
      PLACES c.if-shares.ensures);
}
