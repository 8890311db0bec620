-- What a plan makes is a commit.
use Rattle.std.proofs.Common.{◌≡◌, ℕ, ◌-◌, ◌<◌, Bool, true, false, cond, List, map, Option, Some, None, inl, inr, refl, sym, ap, ◌∙◌, nat_lt, Contains}
use Rattle.std.specs.Option.{option_map_or}
use Rattle.std.proofs.lemmas.Bool.{cases_Bool}
use Rattle.sfs_base.proofs.BasicLists.{zeros_read}
use Rattle.sfs_base.proofs.BasicTruth.{true_not_false}
use Rattle.sfs_base.specs.declared.numbers.Kind.{Kind}
use Rattle.sfs_base.specs.declared.numbers.Kind.TheVariants.{File, Directory}
use Rattle.sfs_image.specs.Seen.{SeenInodes, FILE_BLOCKS, PLACES}
use Rattle.tree_laws.specs.Tree.{TreeState}
use Rattle.image_laws.specs.Commit.{Commit, blank, seen_before}
use Rattle.image_laws.specs.Numbers.{grant_for}
use Rattle.image_laws.specs.Renamed.{Numbering}
use Rattle.image_laws.proofs.Numbers.{granted}
use Rattle.block_map.specs.Kept.{pointer_kept}
use Rattle.space_map.specs.Space.{GrantedNumbers}
use Rattle.disk_change.specs.Built.{rewrite_in}
use Rattle.disk_change.specs.Directory.{is_among}
use Rattle.disk_change.specs.Nodes.{enter_node}
use Rattle.disk_change.specs.Planned.{Planned}
use Rattle.disk_change.specs.Seated.{CommitChanges, Begun, Seated, seated_as, begun_old, begun_entering}
use Rattle.disk_change.specs.declared.enter.Enter.{Enter}
use Rattle.disk_change.proofs.NumbersGiven.{planned_node}
use Rattle.commit_laws.specs.CommitMade.{IsCommitOf}
use Rattle.commit_laws.specs.CommitOfPlan.{CommitPlan, change_planned, commit_of, IsCommitPlan, PlansMakeCommits, PlansLeaveTrees}
use Rattle.commit_laws.specs.NumbersGiven.{node_leaves}
use Rattle.commit_laws.proofs.KnownDirectories.{directories_known}
use Rattle.commit_laws.proofs.NumbersGiven.{kept_in}
use Rattle.commit_laws.proofs.OwnInodes.{mapped_is_in}
use Rattle.commit_laws.proofs.SeatsOfPlan.{there_is_in, numbers, after_once, after_had, after_none, seat_comes, number_at, seat_at, node_seated, node_there, nodes_once, inodes_once}
use Rattle.commit_laws.proofs.Whole.{changes_leave_trees}

-- what is rewritten of a node begins with the pointers that it has
pub begun_pointers : (changes : CommitChanges) (begun : Begun) (kind : Kind) (place : ℕ)
    → (rewrite_in (seated_as kind changes begun)).pointers place ≡ pointer_kept begun.base begun.tables place
begun_pointers changes begun File place = refl
begun_pointers changes begun Directory place = refl

-- a node that enters has none
pub no_pointers : (one : Enter) (place : ℕ) → pointer_kept (begun_entering one).base (begun_entering one).tables place ≡ 0
no_pointers one place = by (nat_lt place FILE_BLOCKS) (nat_lt place 108) (zeros_read 108 place) (zeros_read 16 (place - FILE_BLOCKS))
  where
    by : (low direct : Bool) {a b : ℕ} → a ≡ 0 → b ≡ 0 → cond low (cond direct a 0) b ≡ 0
    by true true a b = a
    by true false a b = refl
    by false direct a b = b

module _ (num : Numbering) (concerned : List ℕ) (old new : TreeState) (image : SeenInodes) (plan : CommitPlan) (grant : GrantedNumbers)
    (is : IsCommitPlan num concerned old new image plan grant) where
  abbrev change : Planned
  change = change_planned plan

  abbrev commit : Commit
  commit = commit_of num concerned plan grant

  -- a node that is not concerned keeps its number, or gets none
  aside_number : (node : ℕ) → is_among concerned node ≡ false → commit.after node ≡ num node
  aside_number node aside = by (num node) refl
    where
      by : (o : Option ℕ) → num node ≡ o → commit.after node ≡ num node
      by (Some i) e = elim (cases_Bool (node_leaves plan.leave node)) [
        | inl t ↦ absurd (true_not_false (sym (is.from.leaving node t) ∙ aside))
        | inr f ↦ after_had num concerned old new image plan grant is node i e ∙ ap (λ b. cond b None (Some i)) f ∙ sym e
      ]
      by None e = after_none num concerned old new image plan grant is node e ∙ none (grant_for (map enter_node plan.enter) grant.inodes node) refl ∙ sym e
        where
          none : (o : Option ℕ) → grant_for (map enter_node plan.enter) grant.inodes node ≡ o → o ≡ None
          none None f = refl
          none (Some i) f =
              let at = granted (map enter_node plan.enter) grant.inodes node i f in
              let one = mapped_is_in enter_node plan.enter node (there_is_in (map enter_node plan.enter) at.place node at.enters_there) in
              absurd (true_not_false (sym (is.from.entering one.0 one.1) ∙ ap (is_among concerned) one.2 ∙ aside))

  -- a node is rewritten from what its inode shows before
  pointers_are : (seat : Seated) → Contains change.seats seat → (place : ℕ) → place < PLACES
      → (rewrite_in seat).pointers place ≡ (seen_before commit image seat.node).blocks place
  pointers_are seat there place within = elim (seat_comes num concerned old new image plan grant is seat there) [
    | inl (entry, stay, same) ↦
        let kept = kept_in _ plan.old entry stay in
        let node = planned_node change.changes (begun_old entry) (begun_old entry).kind in
        ap (λ (s : Seated). (rewrite_in s).pointers place) (sym same) ∙ begun_pointers change.changes (begun_old entry) (begun_old entry).kind place
        ∙ (is.from.shown entry kept.0).pointers place within
        ∙ sym (ap (λ n. (seen_before commit image n).blocks place) (ap (λ (s : Seated). s.node) (sym same) ∙ node)
        ∙ ap (λ (o : Option ℕ). (option_map_or image.seen o blank).blocks place) (is.from.numbered.old_numbers entry kept.0))
    | inr (one, enter, same) ↦
        let node = planned_node change.changes (begun_entering one) (begun_entering one).kind in
        ap (λ (s : Seated). (rewrite_in s).pointers place) (sym same) ∙ begun_pointers change.changes (begun_entering one) (begun_entering one).kind place
        ∙ no_pointers one place
        ∙ sym (ap (λ n. (seen_before commit image n).blocks place) (ap (λ (s : Seated). s.node) (sym same) ∙ node)
        ∙ ap (λ (o : Option ℕ). (option_map_or image.seen o blank).blocks place) (is.from.numbered.enter_none one enter))
  ]

  is_commit_of : IsCommitOf commit change grant old new image concerned
  is_commit_of = record {
    concerns = λ _. refl;
    nets = λ _. refl;
    takes = λ _ _. refl;
    fresh = λ _ _. refl;
    numbers = (numbers num concerned old new image plan grant is).gives;
    others = λ node aside. (aside_number node aside, is.to.others node aside);
    seated = λ node i has among.
        let at = node_seated num concerned old new image plan grant is node i has among in
        let number = number_at num concerned old new image plan grant is at.0 at.1 at.2 in (
          at.0,
          record {
            node_there = node_there change at.0 at.1 at.2 ∙ ap Some at.3;
            inode_there = number.1 ∙ sym number.2 ∙ ap commit.after at.3 ∙ has;
          },
        );
    own = λ node i m has there.
        let at = seat_at num concerned old new image plan grant is m i there in
        node_there change m at.0 at.1 ∙ ap Some (after_once num concerned old new image plan grant is at.0.node node i at.2 has);
    inodes_once = inodes_once num concerned old new image plan grant is;
    nodes_once = nodes_once num concerned old new image plan grant is;
    pointers = λ m place seat at within. pointers_are seat (there_is_in change.seats m seat at) place within;
  }

pub plans_make_commits : PlansMakeCommits
plans_make_commits num concerned old new image plan grant is = record {
  is = is_commit_of num concerned old new image plan grant is;
  leads = record { between = is.to.between; ascend = is.to.ascend; kinds = directories_known num concerned old new image plan grant is };
}

pub plans_leave_trees : PlansLeaveTrees
plans_leave_trees num concerned old new image plan grant making is =
    let made = plans_make_commits num concerned old new image plan grant is.whole in
    changes_leave_trees (commit_of num concerned plan grant)
    (change_planned plan) grant old new image concerned making is.whole.stands is.sound made.is made.leads is.whole.serves.blocks is.next_sound
    is.whole.follows is.storable
