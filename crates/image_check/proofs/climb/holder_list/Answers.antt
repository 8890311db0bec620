use Rattle.std.proofs.Common.{Vec, Global, [], ℕ, ◌+◌, ◌≡◌, length, sym, ap, subst, ◌∙◌, refl, arith}
use Rattle.std.proofs.lemmas.List.{get_or_read}
use Rattle.sfs_image.specs.Inode.{Inode, inode_of}
use Rattle.image_check.specs.Climbs.{AreClimbed}
use Rattle.image_check.specs.declared.certificate.Holder.{Holder}
use Rattle.image_check.proofs.Climbed.{more_climbed, past_climbed}
use Rattle.image_check.proofs.climb.holder_list.Goals.{then-found-eq-DIRECTORY+in_ok-push, else-found-eq-DIRECTORY}
use Rattle.image_check.proofs.climb.holder_list.Goals as goal

pub loop-place-preserved : goal.loop-place-preserved
loop-place-preserved c =
    let inodes = c.args.inodes.now in
    let above = c.args.above.now in
    let n = c.loop-place.place in
    let here = get_or_read inodes n c.index-inodes-place.result (omega arith) c.index-inodes-place.is (inode_of []) in
    let kind = ap (λ (i : Inode). i.kind) c.found.view_is ∙ ap (λ (i : Inode). i.kind) here in
    record {
      climbed = elim c.if-found-eq-DIRECTORY.branch [
        | then-found-eq-DIRECTORY+in_ok-push w ↦
            subst (AreClimbed inodes above (n + 1)) (sym (ap (λ (v : Vec Holder Global). v.items) w.list-is ∙ w.in_ok-push.ensures.items))
            (more_climbed inodes above n _ c.loop-place.invariant.climbed _ refl (record {
              within = omega arith;
              kind = sym kind ∙ w.if-found-eq-DIRECTORY.true;
              no_root = (let low = c.loop-place.auto.place in omega arith);
              holder = refl;
              depth = w.depth_of-depth.ensures;
            }))
        | else-found-eq-DIRECTORY w ↦
            subst (AreClimbed inodes above (n + 1)) (sym (ap (λ (v : Vec Holder Global). v.items) w.list-is))
            (past_climbed inodes above n _ c.loop-place.invariant.climbed (λ is. w.if-found-eq-DIRECTORY.false (kind ∙ is)))
      ];
    }

pub returns : goal.returns
returns c =
    let all : c.loop-place.place ≡ length c.args.inodes.now = (let low = c.loop-place.auto.place in omega arith) in
    subst (λ (n : ℕ). AreClimbed c.args.inodes.now c.args.above.now n c.from_vec.result.items) all
    (subst (AreClimbed c.args.inodes.now c.args.above.now c.loop-place.place) (sym c.from_vec.ensures) c.loop-place.invariant.climbed)
