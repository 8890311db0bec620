-- The numbers after a plan are those of the nodes that then have an inode.
use Rattle.std.proofs.Common.{◌≡◌, ℕ, Bool, true, false, cond, List, [], ◌∷◌, map, Option, Some, None, is_some, inl, inr, refl, sym, ap, subst, ◌∙◌, nat_eq, Contains}
use Rattle.std.specs.Prelude.{◌↔◌}
use borrow.Author.Tests.{eqb-true}
use Rattle.std.proofs.lemmas.Bool.{cases_Bool}
use Rattle.sfs_base.proofs.BasicTruth.{true_not_false}
use Rattle.sfs_base.proofs.BasicOptions.{none_some}
use Rattle.sfs_image.specs.Seen.{SeenInodes}
use Rattle.tree_laws.specs.Tree.{TreeState}
use Rattle.image_laws.specs.Numbers.{grant_for, InodeGrantServes, NumbersAreGiven}
use Rattle.image_laws.specs.Renamed.{Numbering, HasNumber}
use Rattle.image_laws.proofs.Numbers.{grants_give_numbers}
use Rattle.space_map.specs.Space.{GrantedNumbers}
use Rattle.disk_change.specs.Directory.{is_among}
use Rattle.disk_change.specs.Nodes.{enter_node}
use Rattle.disk_change.proofs.NumbersGiven.{first_in, further_in}
use Rattle.commit_laws.specs.CommitOfPlan.{CommitPlan, numbers_planned, commit_of}
use Rattle.commit_laws.specs.NumbersGiven.{node_leaves}
use Rattle.commit_laws.proofs.OwnInodes.{mapped_is_in}
use Rattle.commit_laws.proofs.SeatsOfPlan.{in_mapped, in_is_among}
use Rattle.raise_laws.specs.Next.{NumbersInodes}
use Rattle.flush_laws.specs.Planned.{HasMoves}

-- a node that is granted a number enters
granted_enters : (entering grant : List ℕ) (node i : ℕ) → grant_for entering grant node ≡ Some i → Contains entering node
granted_enters [] grant node i has = absurd (none_some has)
granted_enters (first ∷ entering) [] node i has = absurd (none_some has)
granted_enters (first ∷ entering) (j ∷ grant) node i has = by (nat_eq first node) refl has (granted_enters entering grant node i)
  where
    by : (b : Bool) → nat_eq first node ≡ b → cond b (Some j) (grant_for entering grant node) ≡ Some i
        → (grant_for entering grant node ≡ Some i → Contains entering node) → Contains (first ∷ entering) node
    by true t is rest = subst (λ x. Contains (first ∷ entering) x) (eqb-true first node t) (first_in first entering)
    by false t is rest = further_in first node entering (rest is)

module _ (num : Numbering) (image : SeenInodes) (new : TreeState) (inodes after : ℕ → Bool) (plan : CommitPlan) (grant : GrantedNumbers)
    (numbers : NumbersInodes num inodes) (moves : HasMoves new inodes after plan) (serves : InodeGrantServes image (map enter_node plan.enter) grant.inodes)
    (root : after 0 ≡ true) where
  given : NumbersAreGiven (commit_of num [] plan grant) image (map enter_node plan.enter)
  given = grants_give_numbers (commit_of num [] plan grant) image (node_leaves plan.leave) (map enter_node plan.enter) grant.inodes serves (λ node. refl)

  -- a node that had a number keeps it, or loses it where it leaves
  had : (node i : ℕ) → num node ≡ Some i → numbers_planned num plan grant.inodes node ≡ cond (node_leaves plan.leave node) None (Some i)
  had node i is =
      ap (λ (o : Option ℕ). cond (is_some o) (cond (node_leaves plan.leave node) None o) (grant_for (map enter_node plan.enter) grant.inodes node)) is

  had_none : (node : ℕ) → num node ≡ None → numbers_planned num plan grant.inodes node ≡ grant_for (map enter_node plan.enter) grant.inodes node
  had_none node is =
      ap (λ (o : Option ℕ). cond (is_some o) (cond (node_leaves plan.leave node) None o) (grant_for (map enter_node plan.enter) grant.inodes node)) is

  -- whether it has an inode before
  pub none_for : (node : ℕ) → inodes node ≡ false → num node ≡ None
  none_for node none = by (num node) refl
    where
      by : (o : Option ℕ) → num node ≡ o → o ≡ None
      by None e = refl
      by (Some i) e = absurd (true_not_false (sym ((numbers.each node).1 (i, e)) ∙ none))

  stays : (node i : ℕ) → num node ≡ Some i → after node ≡ true → numbers_planned num plan grant.inodes node ≡ Some i
  stays node i is has = had node i is ∙ elim (cases_Bool (node_leaves plan.leave node)) [
    | inl leaves ↦ absurd (true_not_false (sym has ∙ ((moves.leaving node).0 leaves).1))
    | inr still ↦ ap (λ b. cond b None (Some i)) still
  ]

  of_old : (node i : ℕ) → num node ≡ Some i → (after node ≡ true) ↔ HasNumber (numbers_planned num plan grant.inodes) node
  of_old node i is = ((λ has. (i, stays node i is has)), back)
    where
      back : HasNumber (numbers_planned num plan grant.inodes) node → after node ≡ true
      back (j, at) = by (after node) refl
        where
          by : (b : Bool) → after node ≡ b → b ≡ true
          by true e = refl
          by false e =
              let leaves = (moves.leaving node).1 ((numbers.each node).1 (i, is), e) in
              absurd (none_some (sym (had node i is ∙ ap (λ b. cond b None (Some i)) leaves) ∙ at))

  of_none : (node : ℕ) → inodes node ≡ false → (after node ≡ true) ↔ HasNumber (numbers_planned num plan grant.inodes) node
  of_none node none = (forth, back)
    where
      forth : after node ≡ true → HasNumber (numbers_planned num plan grant.inodes) node
      forth has =
          let one = moves.all_entering node none has in
          let among = in_is_among (map enter_node plan.enter) one.0.node.0 (in_mapped enter_node plan.enter one.0 one.1) in
          given.each node (none_for node none) (ap (is_among (map enter_node plan.enter)) (sym one.2) ∙ among)

      back : HasNumber (numbers_planned num plan grant.inodes) node → after node ≡ true
      back (i, at) =
          let one =
          mapped_is_in enter_node plan.enter node
          (granted_enters (map enter_node plan.enter) grant.inodes node i (sym (had_none node (none_for node none)) ∙ at)) in
          ap after (sym one.2) ∙ (moves.entering one.0 one.1).1

  pub numbers_then : NumbersInodes (numbers_planned num plan grant.inodes) after
  numbers_then = record { root = stays 0 0 numbers.root root; each = each }
    where
      each : (node : ℕ) → (after node ≡ true) ↔ HasNumber (numbers_planned num plan grant.inodes) node
      each node = by (num node) refl
        where
          none : num node ≡ None → inodes node ≡ false
          none e = by (inodes node) refl
            where
              by : (b : Bool) → inodes node ≡ b → b ≡ false
              by false t = refl
              by true t = let has = (numbers.each node).0 t in absurd (none_some (sym e ∙ has.1))

          by : (o : Option ℕ) → num node ≡ o → (after node ≡ true) ↔ HasNumber (numbers_planned num plan grant.inodes) node
          by (Some i) e = of_old node i e
          by None e = of_none node (none e)
