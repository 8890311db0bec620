-- What is known of a plan of an fsync of a volume before it has a grant.
use Rattle.std.proofs.Common.{◌≡◌, ℕ, Bool, true, false, cond, [], ◌∷◌, ◌++◌, Option, Some, None, refl, sym, ap, subst, ◌∙◌, Contains}
use Rattle.sfs_base.proofs.BasicOptions.{none_some}
use Rattle.sfs_base.proofs.BasicTruth.{true_not_false}
use Rattle.sfs_image.specs.Part.{seen_of}
use Rattle.sfs_image.specs.Seen.{SeenInodes}
use Rattle.tree_laws.specs.History.{tree_after}
use Rattle.tree_laws.specs.Tree.{TreeState, bytes_of, is_directory, is_directory_kind}
use Rattle.tree_laws.proofs.Readings.{directory_by_kind}
use Rattle.image_laws.specs.Commit.{MayFollow}
use Rattle.image_laws.specs.Image.{inodes_shown}
use Rattle.image_laws.specs.Renamed.{Numbering}
use Rattle.disk_change.specs.Directory.{is_among}
use Rattle.disk_change.specs.declared.enter.Enter.{Enter}
use Rattle.disk_nodes.specs.declared.old.OldEntry.{OldEntry}
use Rattle.commit_laws.specs.CommitOfPlan.{PlansFrom, PlansTo}
use Rattle.commit_laws.specs.KeptShown.{KeepsSeen}
use Rattle.commit_laws.proofs.BytesKept.{good_parts_fit, good_parts_have_none_behind}
use Rattle.commit_laws.proofs.KeptShown.{kept_parts_show}
use Rattle.cut_laws.specs.Closure.{one_more}
use Rattle.cut_laws.specs.Cut.{tree_at_cut}
use Rattle.cut_laws.proofs.BlankFiles.{files_enter_blank}
use Rattle.cut_laws.proofs.CutNodes.{cuts_keep_kinds}
use Rattle.raise_laws.specs.Next.{NumbersInodes, IsStorableAtCut, IsOneMore}
use Rattle.raise_laws.proofs.Next.{cut_trees_are_storable, raised_trees_follow, others_are_aside}
use Rattle.flush_laws.specs.Ready.{IsBetweenCommits}
use Rattle.flush_laws.proofs.Clean.{no_net, standing, good_parts}
use Rattle.turn_ties.specs.Plans.{HasPlan, Planning}
use Rattle.flush_laws.specs.Volume.{Volume}
use Rattle.turn_ties.proofs.Between.{IsPlanBetween}

module _ (volume : Volume) (planning : Planning)
    (is : HasPlan volume planning) where
  abbrev pub old : TreeState
  old = tree_at_cut volume.first volume.history volume.cut

  abbrev pub new : TreeState
  new = tree_at_cut volume.first volume.history planning.raised

  abbrev pub image : SeenInodes
  image = inodes_shown volume.layout volume.parts

  pub ready : IsBetweenCommits volume
  ready = is.stands.between

  pub more : IsOneMore volume.first volume.history volume.flushes volume.cut volume.inodes planning.flush planning.raised planning.after
  more = record { history_is = ready.history_is; before = ready.flushed; raises = is.raises; inodes_after = is.inodes_after }

  -- the root keeps its inode
  root_after : planning.after 0 ≡ true
  root_after = by (planning.after 0) refl
    where
      by : (b : Bool) → planning.after 0 ≡ b → b ≡ true
      by true e = refl
      by false e = absurd (((is.inodes_after.leaves 0 ((ready.numbers.each 0).1 (0, ready.numbers.root))).0 e).1.no_root refl)

  -- a numbering of the nodes that then have an inode: each by itself
  abbrev num_after : Numbering
  num_after node = cond (planning.after node) (Some node) None

  numbers_after_it : NumbersInodes num_after planning.after
  numbers_after_it = record {
    root = ap (λ b. cond b (Some 0) None) root_after;
    each = λ node. ((λ has. (node, ap (λ b. cond b (Some node) None) has)), (λ has. back node (planning.after node) refl has.0 has.1));
  }
    where
      back : (node : ℕ) (b : Bool) → planning.after node ≡ b → (i : ℕ) → cond b (Some node) None ≡ Some i → b ≡ true
      back node true e i has = refl
      back node false e i has = absurd (none_some has)

  stored_old : IsStorableAtCut volume.num volume.first volume.history volume.cut
  stored_old = cut_trees_are_storable volume.first volume.history volume.flushes volume.cut volume.inodes volume.num ready.history_is ready.flushed
      ready.numbers

  stored_new : IsStorableAtCut num_after volume.first volume.history planning.raised
  stored_new = cut_trees_are_storable volume.first volume.history (volume.flushes ++ planning.flush ∷ []) planning.raised planning.after num_after
      ready.history_is
      (one_more volume.flushes planning.flush volume.cut planning.raised volume.inodes planning.after ready.flushed is.raises is.inodes_after) numbers_after_it

  follows : MayFollow num_after old new
  follows = raised_trees_follow volume.first volume.history volume.flushes volume.cut volume.inodes planning.flush planning.raised planning.after
      num_after more numbers_after_it

  -- a node without a number has no inode, and the other way round
  no_inode : (node : ℕ) → volume.num node ≡ None → volume.inodes node ≡ false
  no_inode node none = by (volume.inodes node) refl
    where
      by : (b : Bool) → volume.inodes node ≡ b → b ≡ false
      by false t = refl
      by true t = let has = (ready.numbers.each node).0 t in absurd (none_some (sym none ∙ has.1))

  no_number : (node : ℕ) → volume.inodes node ≡ false → volume.num node ≡ None
  no_number node none = by (volume.num node) refl
    where
      by : (o : Option ℕ) → volume.num node ≡ o → o ≡ None
      by None e = refl
      by (Some i) e = absurd (true_not_false (sym ((ready.numbers.each node).1 (i, e)) ∙ none))

  -- what is kept is what the image shows
  shown : (entry : OldEntry) → Contains planning.plan.old entry → KeepsSeen entry.old.kept (image.seen entry.old.number)
  shown entry there =
      let kept = is.keeps.each entry (is.plans.old.own entry there).0 in
      let low = ready.stands.within entry.node.0 entry.old.number kept.0 in
      subst (λ k. KeepsSeen k (seen_of (volume.parts entry.old.number))) (sym kept.1)
      (kept_parts_show volume.store (volume.parts entry.old.number) (ready.sound.gathered entry.old.number low))

  pub from : PlansFrom volume.num planning.nodes image planning.plan
  from = record {
    numbered = record {
      old_ascend = is.plans.old.ascend;
      enter_ascend = is.plans.moves.ascend;
      old_numbers = λ entry there. (is.keeps.each entry (is.plans.old.own entry there).0).0;
      enter_none = λ one there. no_number one.node.0 (is.plans.moves.entering one there).0;
    };
    complete = λ node i among has.
        let entry = is.keeps.all node i has in
        (entry.0, is.plans.old.all entry.0 entry.1 (subst (λ x. is_among planning.nodes x ≡ true) (sym entry.2) among), entry.2);
    own = λ entry there. (is.plans.old.own entry there).1;
    shown = shown;
    entering = λ one there.
        let enters = is.plans.moves.entering one there in
        (is.plans.concerns one.node.0).1 ((is.inodes_after.enters one.node.0 enters.0).0 enters.1).0;
    leaving = λ node leaves.
        let goes = (is.plans.moves.leaving node).0 leaves in
        (is.plans.concerns node).1 ((is.inodes_after.leaves node goes.0).0 goes.1).0;
  }

  to : PlansTo planning.nodes old new planning.plan
  to = record {
    between = record {
      kinds = follows.kinds;
      each = is.plans.nets.each;
      others = λ directory none. no_net planning.plan.nets directory none;
      ascending = is.plans.nets.sorted;
    };
    ascend = is.plans.nets.ascend;
    holders = is.plans.nets.holders;
    kinds = λ one there. (is.plans.moves.entering one there).2;
    others = λ node none.
        others_are_aside volume.first volume.history volume.flushes volume.cut volume.inodes planning.flush planning.raised planning.after node more
        (λ concerned. true_not_false (sym ((is.plans.concerns node).1 concerned) ∙ none));
  }

  -- a node that enters had no bytes
  blank : (one : Enter) → Contains planning.plan.enter one → bytes_of old one.node.0 ≡ []
  blank one there = by (is_directory old one.node.0) refl
    where
      by : (b : Bool) → is_directory old one.node.0 ≡ b → bytes_of old one.node.0 ≡ []
      by true e = stored_old.storable.limits.plain one.node.0 e
      by false e =
          let enters = is.plans.moves.entering one there in
          let file : is_directory (tree_after volume.first volume.history) one.node.0 ≡ false =
          directory_by_kind (tree_after volume.first volume.history) one.node.0
          ∙ ap is_directory_kind (sym ((cuts_keep_kinds volume.first volume.history volume.cut).kinds one.node.0))
          ∙ sym (directory_by_kind old one.node.0) ∙ e in
          (files_enter_blank volume.first volume.history volume.flushes volume.cut planning.raised volume.inodes planning.after planning.flush
          one.node.0 ready.history_is.sound
          ready.history_is.legal ready.flushed is.raises is.inodes_after file enters.0 enters.1).bytes

  pub between : IsPlanBetween volume.num planning.nodes old new image planning.plan
  between = record {
    stands = ready.stands;
    from = from;
    to = to;
    comes = λ directory name child row none.
        let has = follows.named directory name child row in
        is.plans.moves.all_entering child (no_inode child none) ((numbers_after_it.each child).1 has);
    sizes = record { changed = is.plans.files.sizes; others = is.plans.files.others; entering = blank };
    pages = is.plans.files.pages;
    behind = good_parts_have_none_behind volume.store volume.layout image volume.parts (standing volume.layout volume.store volume.parts ready.sound)
        (good_parts volume.layout volume.store volume.parts ready.sound);
    fit = good_parts_fit volume.store volume.layout image volume.parts (standing volume.layout volume.store volume.parts ready.sound)
        (good_parts volume.layout volume.store volume.parts ready.sound);
    limits = stored_new.storable.limits;
  }
