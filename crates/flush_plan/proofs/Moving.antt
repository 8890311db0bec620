-- The nodes that are picked by the facts are those that the rule of an fsync moves.
use Rattle.std.proofs.Common.{◌≡◌, ℕ, ◌+◌, ◌<◌, Bool, true, false, cond, List, [], ◌∷◌, length, map, filter, get_or, inl, inr, ◌⊎◌, max, refl, sym, ap, subst, ◌∙◌, arith, nat_eq}
use Rattle.std.specs.Prelude.{All, AllPairs, not, ◌&&◌, ◌||◌}
use Rattle.std.specs.Option.{unwrap_or}
use Rattle.std.specs.List.Sorted.{IsStrictlyIncreasing}
use Rattle.std.specs.Ordering.{nat_cmp}
use Rattle.std.specs.BTreeSet.{contains}
use Rattle.std.proofs.lemmas.Bool.{cond-true}
use Rattle.std.proofs.lemmas.List.{get_or-map, length-map}
use Rattle.std.proofs.lemmas.List.Kept.{AllPairs-filter}
use Rattle.std.proofs.lemmas.List.Elements.{All-map}
use borrow.Author.Tests.{eqb-true}
use Rattle.sfs_base.proofs.BasicNumbers.{same_number}
use Rattle.sfs_base.proofs.BasicTruth.{not_false, and_false}
use Rattle.sfs_base.specs.declared.numbers.Kind.TheVariants.{Directory}
use Rattle.sfs_base.specs.declared.numbers.NodeId.{NodeId}
use Rattle.sfs_base.specs.declared.numbers.Stamp.{Stamp}
use Rattle.sfs_base.specs.Listed.{is_listed}
use Rattle.tree_laws.specs.NameRow.{node_number}
use Rattle.look_laws.specs.Look.{Look, Gathers, Touches}
use Rattle.look_laws.specs.Made.{Found, Lifts, SeesReached, SeesDead, AreMoved}
use Rattle.dep_closure.specs.declared.gathered.Gathered.{Gathered}
use Rattle.dep_closure.specs.Gathered.{look_of, cut_in}
use Rattle.dep_closure.proofs.Searches.{numbers_rise}
use Rattle.keyed_list.specs.Ascending.{AscendBy}
use Rattle.disk_change.specs.Nodes.{enter_node}
use Rattle.disk_change.specs.declared.enter.Enter.{Enter}
use Rattle.disk_nodes.specs.declared.old.OldEntry.{OldEntry}
use Rattle.flush_plan.specs.declared.concern.Concern.{Concern}
use Rattle.flush_plan.specs.declared.facts.Facts.{Facts}
use Rattle.flush_plan.specs.Concerned.{IsConcernOf}
use Rattle.flush_plan.specs.Kinds.{spans_in}
use Rattle.flush_plan.specs.Moved.{AreFacts, cuts_after, found_by, gets_inode, loses_inode, enter_by, kind_entering, kind_of_own_node}
use Rattle.flush_plan.specs.Plan.{MovesInodes}

-- tests that hold together hold each
two : (a b : Bool) → (a && b) ≡ true → (a ≡ true) × (b ≡ true)
two true b e = (refl, e)
two false b e = absurd (cc)

three : (a b c : Bool) → (a && b && c) ≡ true → (a ≡ true) × (b ≡ true) × (c ≡ true)
three true true c e = (refl, refl, e)
three true false c e = absurd (cc)
three false b c e = absurd (cc)

four : (a b c d : Bool) → (a && b && c && d) ≡ true → (a ≡ true) × (b ≡ true) × (c ≡ true) × (d ≡ true)
four true true true d e = (refl, refl, refl, e)
four true true false d e = absurd (cc)
four true false c d e = absurd (cc)
four false b c d e = absurd (cc)

-- one of two tests that hold together holds
either : (a b : Bool) → (a || b) ≡ true → (a ≡ true) ⊎ (b ≡ true)
either true b e = inl refl
either false b e = inr e

or_late : (a b : Bool) → b ≡ true → (a || b) ≡ true
or_late true b e = refl
or_late false b e = e

was_false : (b : Bool) → not b ≡ true → b ≡ false
was_false false e = refl
was_false true e = absurd (cc)

-- a number is among those of picked nodes where it is one of theirs and passes the test
listed_picked : (test : ℕ → Bool) (nodes : List NodeId) (number : ℕ)
    → is_listed (map node_number (filter (λ node. test node.0) nodes)) number ≡ (is_listed (map node_number nodes) number && test number)
listed_picked test [] number = refl
listed_picked test (node ∷ nodes) number = by (test node.0) (nat_eq node.0 number) refl refl (listed_picked test nodes number)
  where
    by : (passes same : Bool) → test node.0 ≡ passes → nat_eq node.0 number ≡ same
        → is_listed (map node_number (filter (λ one. test one.0) nodes)) number ≡ (is_listed (map node_number nodes) number && test number)
        → is_listed (map node_number (cond passes (node ∷ filter (λ one. test one.0) nodes) (filter (λ one. test one.0) nodes))) number
        ≡ ((same || is_listed (map node_number nodes) number) && test number)
    by true true passes same rest =
        ap (λ b. b || is_listed (map node_number (filter (λ one. test one.0) nodes)) number) same
        ∙ sym (subst (λ n. test n ≡ true) (eqb-true node.0 number same) passes)
    by true false passes same rest = ap (λ b. b || is_listed (map node_number (filter (λ one. test one.0) nodes)) number) same ∙ rest
    by false false passes same rest = rest
    by false true passes same rest =
        let fails : test number ≡ false = subst (λ n. test n ≡ false) (eqb-true node.0 number same) passes in
        rest ∙ ap (λ b. is_listed (map node_number nodes) number && b) fails ∙ and_false (is_listed (map node_number nodes) number) ∙ sym fails

-- what enters has the numbers of its nodes
entered_numbers : (start : NodeId) (is_file : Bool) (facts : Facts) (nodes : List NodeId)
    → map enter_node (map (enter_by start is_file facts) nodes) ≡ map node_number nodes
entered_numbers start is_file facts [] = refl
entered_numbers start is_file facts (node ∷ nodes) = ap (λ l. node.0 ∷ l) (entered_numbers start is_file facts nodes)

module _ (nodes : List NodeId) (up : IsStrictlyIncreasing (map node_number nodes)) (test : NodeId → Bool) where
  pairs_rise : AllPairs (λ first later. first.0 < later.0) (filter test nodes)
  pairs_rise = AllPairs-filter (λ first later. first.0 < later.0) test nodes (λ i j d less within. numbers_rise node_number nodes up i j d less within)

  pub picked_increase : IsStrictlyIncreasing (map node_number (filter test nodes))
  picked_increase k within =
      let no_node : NodeId = record { 0 = 0 } in
      let long = length-map (filter test nodes) node_number in
      let inside : k + 1 < length (filter test nodes) = omega arith in
      let rise = pairs_rise k (k + 1) no_node (omega arith) inside in
      let first = get_or-map node_number (filter test nodes) k no_node 0 (omega arith) in
      let later = get_or-map node_number (filter test nodes) (k + 1) no_node 0 inside in
      omega arith

  pub picked_ascend : (make : NodeId → Enter) → ((node : NodeId) → enter_node (make node) ≡ node.0) → AscendBy enter_node (map make (filter test nodes))
  picked_ascend make own i j d less within =
      let no_node : NodeId = record { 0 = 0 } in
      let long = length-map (filter test nodes) make in
      let inside : j < length (filter test nodes) = omega arith in
      let rise = pairs_rise i j no_node less inside in
      let first = ap enter_node (get_or-map make (filter test nodes) i no_node d (omega arith)) ∙ own (get_or (filter test nodes) i no_node) in
      let later = ap enter_node (get_or-map make (filter test nodes) j no_node d inside) ∙ own (get_or (filter test nodes) j no_node) in
      omega arith

module _ (start : NodeId) (below : Stamp) (gathered : Gathered) (concern : Concern) (old : List OldEntry) (is_file : Bool) (facts : Facts)
    (are : IsConcernOf start below gathered concern) (known : AreFacts below gathered concern old facts) where
  abbrev look : Look
  look = look_of start below gathered

  abbrev lifted : ℕ → ℕ
  lifted = cuts_after below gathered concern

  abbrev found : Found
  found = found_by old concern.nets.items is_file

  -- the members' cuts are lifted, and no others
  lifts : Lifts look lifted
  lifts = record {
    members =
        λ node gathers. cond-true (is_listed (map node_number concern.members.items) node) (max (cut_in gathered.cuts.items node) below.0)
        (cut_in gathered.cuts.items node) ((are.members.each node).1 gathers);
    others = λ node. by node (is_listed (map node_number concern.members.items) node) refl;
  }
    where
      by : (node : ℕ) (b : Bool) → is_listed (map node_number concern.members.items) node ≡ b
          → Gathers look node ⊎ (cond b (max (cut_in gathered.cuts.items node) below.0) (cut_in gathered.cuts.items node) ≡ cut_in gathered.cuts.items node)
      by node true listed = inl ((are.members.each node).0 listed)
      by node false listed = inr refl

  -- a node gets an inode
  gets_there : (node : ℕ) → is_listed (map node_number concern.nodes.items) node ≡ true → gets_inode start is_file gathered facts node ≡ true
      → (look.inodes node ≡ false) × Touches look node × SeesReached look lifted found node
  gets_there node listed gets =
      let both =
      two (not (look.inodes node))
      (contains nat_cmp facts.named node || (nat_eq node start.0 && is_file && contains nat_cmp facts.unflushed node)) gets in (
        was_false (look.inodes node) both.0,
        (are.nodes.each node).0 listed,
        elim (either (contains nat_cmp facts.named node) (nat_eq node start.0 && is_file && contains nat_cmp facts.unflushed node) both.1) [
          | inl named ↦ inl (sym (known.named node listed) ∙ named)
          | inr own ↦
              let all = three (nat_eq node start.0) is_file (contains nat_cmp facts.unflushed node) own in
              inr (eqb-true node start.0 all.0, ap not all.1, (known.unflushed start below node).0 all.2)
        ],
      )

  gets_back : (node : ℕ) → is_listed (map node_number concern.nodes.items) node ≡ true → look.inodes node ≡ false → SeesReached look lifted found node
      → gets_inode start is_file gathered facts node ≡ true
  gets_back node listed none reached =
      ap (λ b. not b && (contains nat_cmp facts.named node || (nat_eq node start.0 && is_file && contains nat_cmp facts.unflushed node))) none
      ∙ elim reached [
        | inl named ↦ ap (λ b. b || (nat_eq node start.0 && is_file && contains nat_cmp facts.unflushed node)) (known.named node listed ∙ named)
        | inr own ↦ or_late (contains nat_cmp facts.named node) (nat_eq node start.0 && is_file && contains nat_cmp facts.unflushed node)
            ((λ i. same own.0 i && not_false is_file own.1 i && (known.unflushed start below node).1 own.2 i))
      ]
    where
      same : node ≡ start.0 → nat_eq node start.0 ≡ true
      same one = subst (λ n. nat_eq node n ≡ true) one (same_number node)

  -- a node loses its inode
  loses_there : (node : ℕ) → is_listed (map node_number concern.nodes.items) node ≡ true → loses_inode gathered facts node ≡ true
      → (look.inodes node ≡ true) × Touches look node × SeesDead look lifted found node
  loses_there node listed loses =
      let all = four (look.inodes node) (not (nat_eq node 0)) (not (contains nat_cmp facts.named node)) (not (contains nat_cmp facts.unflushed node)) loses in (
        all.0,
        (are.nodes.each node).0 listed,
        record {
          no_root = λ root. let zero_is = subst (λ n. nat_eq n 0 ≡ true) (sym root) (same_number 0) in let other = was_false (nat_eq node 0) all.1 in
              absurd (cc);
          unnamed = sym (known.named node listed) ∙ was_false (contains nat_cmp facts.named node) all.2;
          flushed = λ sees. let there = (known.unflushed start below node).1 sees in let none = was_false (contains nat_cmp facts.unflushed node) all.3 in
              absurd (cc);
        },
      )

  loses_back : (node : ℕ) → is_listed (map node_number concern.nodes.items) node ≡ true → look.inodes node ≡ true → SeesDead look lifted found node
      → loses_inode gathered facts node ≡ true
  loses_back node listed has dead = λ i. has i && not (no_root i) && not (unnamed i) && not (flushed i)
    where
      no_root : nat_eq node 0 ≡ false
      no_root =
          elim (nat_eq node 0) as (λ b. nat_eq node 0 ≡ b → b ≡ false) [ true ↦ λ same. absurd (dead.no_root (eqb-true node 0 same)) | false ↦ λ _. refl ] refl

      unnamed : contains nat_cmp facts.named node ≡ false
      unnamed = known.named node listed ∙ dead.unnamed

      flushed : contains nat_cmp facts.unflushed node ≡ false
      flushed =
          elim (contains nat_cmp facts.unflushed node) as (λ b. contains nat_cmp facts.unflushed node ≡ b → b ≡ false) [
            | true ↦
                λ has_one. absurd (dead.flushed ((known.unflushed start below node).0 has_one))
            | false ↦ λ _. refl
          ] refl

  -- what is picked by the facts moves
  module _ (enter : List Enter) (leave : List NodeId)
      (enter_is : enter
      ≡ map (enter_by start is_file facts) (filter (λ node. gets_inode start is_file gathered facts node.0) concern.nodes.items))
      (leave_is : leave ≡ filter (λ node. loses_inode gathered facts node.0) concern.nodes.items) where
    entering_is : (node : ℕ)
        → is_listed (map enter_node enter) node ≡ (is_listed (map node_number concern.nodes.items) node && gets_inode start is_file gathered facts node)
    entering_is node =
        ap (λ l. is_listed (map enter_node l) node) enter_is
        ∙ ap (λ l. is_listed l node)
        (entered_numbers start is_file facts (filter (λ one. gets_inode start is_file gathered facts one.0) concern.nodes.items))
        ∙ listed_picked (gets_inode start is_file gathered facts) concern.nodes.items node

    leaving_is : (node : ℕ) → is_listed (map node_number leave) node ≡ (is_listed (map node_number concern.nodes.items) node && loses_inode gathered facts node)
    leaving_is node = ap (λ l. is_listed (map node_number l) node) leave_is ∙ listed_picked (loses_inode gathered facts) concern.nodes.items node

    moved : AreMoved look lifted found (is_listed (map enter_node enter)) (is_listed (map node_number leave))
    moved = record {
      enters = λ node. (
        λ has. let both =
            two (is_listed (map node_number concern.nodes.items) node) (gets_inode start is_file gathered facts node) (sym (entering_is node) ∙ has) in
            gets_there node both.0 both.1,
        λ (none, touches, reached). let listed = (are.nodes.each node).1 touches in entering_is node ∙ (λ i. listed i && gets_back node listed none reached i),
      );
      leaves = λ node. (
        λ has. let both = two (is_listed (map node_number concern.nodes.items) node) (loses_inode gathered facts node) (sym (leaving_is node) ∙ has) in
            loses_there node both.0 both.1,
        λ (one, touches, dead). let listed = (are.nodes.each node).1 touches in leaving_is node ∙ (λ i. listed i && loses_back node listed one dead i),
      );
    }

    kinds : All (λ one. one.kind ≡ kind_entering start is_file (spans_in gathered below concern.members.items) one.node.0) enter
    kinds = subst (All (λ one. one.kind ≡ kind_entering start is_file (spans_in gathered below concern.members.items) one.node.0)) (sym enter_is)
        (All-map (λ one. one.kind ≡ kind_entering start is_file (spans_in gathered below concern.members.items) one.node.0)
        (enter_by start is_file facts) (filter (λ node. gets_inode start is_file gathered facts node.0) concern.nodes.items)
        (λ k d within. let node = get_or (filter (λ one. gets_inode start is_file gathered facts one.0) concern.nodes.items) k d in
        ap (λ told. cond (nat_eq node.0 start.0) (kind_of_own_node is_file) (unwrap_or told Directory)) (known.kinds node.0)))

    pub moves : MovesInodes start below gathered concern old is_file enter leave
    moves = record {
      enter_ascends =
          subst (AscendBy enter_node) (sym enter_is)
          (picked_ascend concern.nodes.items are.nodes.ascending (λ node. gets_inode start is_file gathered facts node.0)
          (enter_by start is_file facts) (λ node. refl));
      leave_ascends =
          subst (λ (l : List NodeId). IsStrictlyIncreasing (map node_number l)) (sym leave_is)
          (picked_increase concern.nodes.items are.nodes.ascending (λ node. loses_inode gathered facts node.0));
      lifts = lifts;
      moved = moved;
      kinds = kinds;
    }
