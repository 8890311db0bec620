-- A commit that was planned in one state is one in each other that agrees with it on what it concerns.
use Rattle.std.proofs.Common.{◌≡◌, ℕ, ◌<◌, true, false, cond, List, [], ◌∷◌, map, Option, Some, None, option_map, ◌⊎◌, inl, inr, refl, sym, ap, subst, ◌∙◌}
use Rattle.std.specs.Prelude.{is_none, All, ◌↔◌}
use Rattle.std.specs.List.{cons_option}
use Rattle.std.specs.List.Sorted.{IsStrictlySortedBy}
use Rattle.std.specs.Option.{option_map_or}
use Rattle.std.specs.Cmp.Lexicographic.{nat_list_cmp_total}
use Rattle.std.specs.FinMap.{FinMap, get, same_map}
use Rattle.std.proofs.lemmas.List.Elements.{All-nil, All-head, All-tail}
use Rattle.tree_laws.specs.NameRow.{number_of}
use Rattle.tree_laws.specs.Order.{name_cmp}
use Rattle.tree_laws.specs.Tree.{TreeState, row_of, kind_of, links_of, names_of}
use Rattle.tree_laws.proofs.Joined.{name_cmp-IsAntisymmetric}
use Rattle.tree_laws.proofs.Names.{get-names_where}
use Rattle.sfs_image.specs.Slot.{Row, kind_byte}
use Rattle.sfs_image.specs.Seen.{Seen, SeenInodes, PLACES}
use Rattle.absorb.specs.declared.nets.NetRow.{NetRow}
use Rattle.absorb.specs.Net.{IsNetRow, IsNet}
use Rattle.image_laws.specs.Slots.{in_blocks}
use Rattle.image_laws.specs.Renamed.{Numbering}
use Rattle.image_laws.specs.Stands.{row_on, IsUnused}
use Rattle.image_laws.specs.Commit.{row_in_net, brought_row, slot_after, new_rows, filled, slots_after, Commit, blank, seen_before, IsBuiltAnew, IsAside, HasBlock, hole, kept, fresh, ComesBy, had, enters, IsCommit}
use Rattle.image_laws.specs.Elsewhere.{Elsewhere, commit_there, IsTouched, IsPlanned, Suits}
use Rattle.image_laws.specs.Laws.{PlannedCommitsHoldElsewhere, UnconcernedNodesStay}
use Rattle.sfs_base.proofs.BasicTruth.{not_both}
use Rattle.sfs_base.proofs.BasicOptions.{none_some, some_same}
use Rattle.image_laws.proofs.NetRows.{same_option, net_row_is, no_net_row}
use Rattle.image_laws.proofs.Committed.{links_alike, number_once, number_within}
use Rattle.image_laws.proofs.Standing.{not_used}

-- the net of rows that stay has no row
pub no_net : (rows : FinMap name_cmp ℕ) → IsNet rows rows []
unfolding IsStrictlySortedBy
no_net rows = record { ascending = tt; each = All-nil (IsNetRow rows rows); complete = λ name differ. absurd (differ refl) }

-- directories with the same rows
same_names : (tree other : TreeState) (x : ℕ) → ((n : List ℕ) → row_of other x n ≡ row_of tree x n) → names_of x other.rows ≡ names_of x tree.rows
same_names tree other x rows =
    same_map nat_list_cmp_total name_cmp-IsAntisymmetric (names_of x other.rows) (names_of x tree.rows)
    (λ n. get-names_where x (λ _. true) other.rows n ∙ rows n ∙ sym (get-names_where x (λ _. true) tree.rows n))

-- slots after a net, under numbers and in trees that agree on the children that it brings
module _ (num other_num : Numbering) (tree other : TreeState) (earlier later : FinMap name_cmp ℕ)
    (alike : (n : List ℕ) (row : NetRow) → IsNetRow earlier later row → brought_row other_num other row ≡ brought_row num tree row) where
  new_rows_alike : (net : List NetRow) → All (IsNetRow earlier later) net → new_rows other_num other net ≡ new_rows num tree net
  new_rows_alike [] all = refl
  new_rows_alike (row ∷ rows) all =
      ap (λ o. cons_option (cond (is_none row.before) o None) (new_rows other_num other rows))
      (alike row.name row (All-head (IsNetRow earlier later) row rows all))
      ∙ ap (cons_option (cond (is_none row.before) (brought_row num tree row) None)) (new_rows_alike rows (All-tail (IsNetRow earlier later) row rows all))

  module _ (net : List NetRow) (is : IsNet earlier later net) where
    slot_alike : (slot : Option Row) → slot_after other_num other net slot ≡ slot_after num tree net slot
    slot_alike None = refl
    slot_alike (Some row) = by_net (row_in_net row.name net) refl
      where
        by_net : (o : Option NetRow) → row_in_net row.name net ≡ o →
            option_map_or (brought_row other_num other) o (Some row) ≡ option_map_or (brought_row num tree) o (Some row)
        by_net None e = refl
        by_net (Some r) e = alike row.name r (net_row_is earlier later net is row.name r e).1

    changed_alike : (slots : List (Option Row)) → map (slot_after other_num other net) slots ≡ map (slot_after num tree net) slots
    changed_alike [] = refl
    changed_alike (slot ∷ slots) =
        ap (λ s. s ∷ map (slot_after other_num other net) slots) (slot_alike slot) ∙ ap (λ l. slot_after num tree net slot ∷ l) (changed_alike slots)

    slots_alike : (slots : List (Option Row)) → slots_after other_num other net slots ≡ slots_after num tree net slots
    slots_alike slots =
        ap (λ l. filled l (new_rows other_num other net)) (changed_alike slots) ∙ ap (filled (map (slot_after num tree net) slots)) (new_rows_alike net is.each)

module _ (commit : Commit) (old new : TreeState) (image next : SeenInodes) (there : Elsewhere) (plan : IsPlanned commit old new image next)
    (suits : Suits commit old new image next there) where
  -- rows of a directory that the commit does not concern stay
  rows_stay : (d : ℕ) → commit.concerns d ≡ false → (n : List ℕ) → row_of old d n ≡ row_of new d n
  rows_stay d other n =
      sym (get-names_where d (λ _. true) old.rows n)
      ∙ no_net_row (names_of d old.rows) (names_of d new.rows) (commit.nets d) (plan.commits.nets d) n (ap (row_in_net n) (plan.concerns.nets d other))
      ∙ get-names_where d (λ _. true) new.rows n

  nets_there : (x : ℕ) → IsNet (names_of x there.old.rows) (names_of x there.new.rows) (commit.nets x)
  nets_there x = elim (commit.concerns x) as (λ b. commit.concerns x ≡ b → IsNet (names_of x there.old.rows) (names_of x there.new.rows) (commit.nets x)) [
    | true ↦ λ t.
        subst (λ (rows : FinMap name_cmp ℕ). IsNet rows (names_of x there.new.rows) (commit.nets x)) (sym (same_names old there.old x (suits.agrees.rows x t)))
        (subst (λ (rows : FinMap name_cmp ℕ). IsNet (names_of x old.rows) rows (commit.nets x)) (sym (same_names new there.new x (suits.follows.nodes x t).0))
        (plan.commits.nets x))
    | false ↦ λ t.
        subst (IsNet (names_of x there.old.rows) (names_of x there.new.rows)) (sym (plan.concerns.nets x t))
        (subst (λ (rows : FinMap name_cmp ℕ). IsNet (names_of x there.old.rows) rows [])
        (sym (same_names there.old there.new x (suits.follows.other_nodes x t).0)) (no_net (names_of x there.old.rows)))
  ] refl

  -- a row that names a concerned node there, after the commit, is a planned one
  naming_there : (x : ℕ) → commit.concerns x ≡ true → (d : ℕ) (n : List ℕ) → (row_of there.new d n ≡ Some x) ↔ (row_of new d n ≡ Some x)
  naming_there x concerned d n = elim (commit.concerns d) as (λ b. commit.concerns d ≡ b → (row_of there.new d n ≡ Some x) ↔ (row_of new d n ≡ Some x)) [
    | true ↦ λ t. let same = (suits.follows.nodes d t).0 n in (λ row. sym same ∙ row, λ row. same ∙ row)
    | false ↦ λ t.
        let same = (suits.follows.other_nodes d t).0 n in
        let stay = rows_stay d t n in
        let both = suits.agrees.naming x concerned d n in
        (λ row. sym stay ∙ both.0 (sym same ∙ row), λ row. same ∙ both.1 (stay ∙ row))
  ] refl

  links_there : (x : ℕ) → commit.concerns x ≡ true → links_of new x ≡ links_of there.new x
  links_there x concerned = links_alike new there.new suits.follows.kinds x (suits.follows.nodes x concerned).0 (naming_there x concerned)

  -- a row that the commit brings is the same there
  after_there : (x : ℕ) (n : List ℕ) (row : NetRow) → IsNetRow (names_of x old.rows) (names_of x new.rows) row →
      brought_row there.after there.new row ≡ brought_row commit.after new row
  after_there x n row is = by_child (number_of row.after) refl
    where
      before_is : number_of row.before ≡ row_of old x row.name
      before_is = is.before ∙ get-names_where x (λ _. true) old.rows row.name

      after_is : number_of row.after ≡ row_of new x row.name
      after_is = is.after ∙ get-names_where x (λ _. true) new.rows row.name

      same_node : (o p : Option Rattle.sfs_base.specs.declared.numbers.NodeId.NodeId) → number_of o ≡ number_of p → o ≡ p
      same_node None None e = refl
      same_node None (Some q) e = absurd (none_some e)
      same_node (Some o) None e = absurd (none_some (sym e))
      same_node (Some o) (Some q) e = let same : o.0 ≡ q.0 = some_same e in λ i. Some (record { 0 = same i })

      by_child : (o : Option ℕ) → number_of row.after ≡ o →
          option_map (row_on there.after there.new row.name) o ≡ option_map (row_on commit.after new row.name) o
      by_child None e = refl
      by_child (Some y) e =
          let concerned = plan.concerns.comes x row.name y (sym after_is ∙ e) (λ was. is.differs (same_node row.before row.after (before_is ∙ was ∙ sym e))) in
          let inode = ap (λ (o : Option ℕ). Rattle.std.specs.Option.unwrap_or o 0) (suits.follows.numbers y concerned) in
          let kinds = suits.follows.kinds y in
          ap Some (λ i. record { inode = inode i; kind = kinds i; name = row.name })

  before_there : (x : ℕ) → commit.concerns x ≡ true → seen_before (commit_there commit there) there.image x ≡ seen_before commit image x
  before_there x concerned = ap (λ (o : Option ℕ). option_map_or there.image.seen o blank) (suits.agrees.numbers x concerned) ∙ by_number (commit.before x) refl
    where
      by_number : (o : Option ℕ) → commit.before x ≡ o → option_map_or there.image.seen o blank ≡ option_map_or image.seen o blank
      by_number None e = refl
      by_number (Some i) e = suits.agrees.seen x i concerned e

  -- a concerned node's inode is as planned
  as_planned : (x i : ℕ) → i < there.image.count → commit.concerns x ≡ true → (commit.before x ≡ Some i) ⊎ (commit.after x ≡ Some i) →
      there.next.seen i ≡ next.seen i
  as_planned x i lt concerned is = elim (suits.follows.inodes i lt) as (λ _. there.next.seen i ≡ next.seen i) [
    | inl touched ↦ touched.1
    | inr other ↦ absurd (other.0 (record { node = x; concerned = concerned; number = is }))
  ]

  within_there : (x i : ℕ) → commit.concerns x ≡ true → commit.after x ≡ Some i → i < there.image.count
  within_there x i concerned is = subst (λ (n : ℕ). i < n) (sym suits.agrees.count) (number_within commit old image plan.stands plan.commits.numbers x i is)

  built_there : (x i : ℕ) → there.after x ≡ Some i → commit.concerns x ≡ true →
      IsBuiltAnew (commit_there commit there) there.new x (seen_before (commit_there commit there) there.image x) (there.next.seen i)
  built_there x i is concerned =
      let planned = sym (suits.follows.numbers x concerned) ∙ is in
      let b = plan.commits.built x i planned concerned in
      let same = as_planned x i (within_there x i concerned planned) concerned (inr planned) in
      subst (IsBuiltAnew (commit_there commit there) there.new x (seen_before (commit_there commit there) there.image x)) (sym same)
      (subst (λ (s : Seen). IsBuiltAnew (commit_there commit there) there.new x s (next.seen i)) (sym (before_there x concerned)) (record {
        kind = b.kind ∙ ap kind_byte (sym (suits.follows.kinds x));
        links = b.links ∙ links_there x concerned;
        size = b.size;
        bytes = b.bytes ∙ sym (suits.follows.nodes x concerned).1;
        slots =
            b.slots
            ∙ ap in_blocks
            (sym
            (slots_alike commit.after there.after new there.new (names_of x old.rows) (names_of x new.rows) (after_there x) (commit.nets x)
            (plan.commits.nets x) (seen_before commit image x).slots));
      }))

  comes_there : (x i : ℕ) → there.after x ≡ Some i → ComesBy (commit_there commit there) there.image x i
  comes_there x i is = elim (commit.concerns x) as (λ b. commit.concerns x ≡ b → ComesBy (commit_there commit there) there.image x i) [
    | false ↦ λ t. had (sym (suits.follows.other_numbers x t) ∙ is)
    | true ↦ λ t. by_way t (sym (suits.follows.numbers x t) ∙ is) (plan.commits.numbers.comes x i (sym (suits.follows.numbers x t) ∙ is))
  ] refl
    where
      by_way : commit.concerns x ≡ true → commit.after x ≡ Some i → ComesBy commit image x i → ComesBy (commit_there commit there) there.image x i
      by_way t planned (had was) = had (suits.agrees.numbers x t ∙ was)
      by_way t planned (enters none lt _) =
          enters (suits.agrees.numbers x t ∙ none) (subst (λ (n : ℕ). i < n) (sym suits.agrees.count) lt) (suits.agrees.entering x i t none planned)

  concerned_if_entering : (x i : ℕ) → there.before x ≡ None → there.after x ≡ Some i → commit.concerns x ≡ true
  concerned_if_entering x i none is = elim (commit.concerns x) as (λ b. commit.concerns x ≡ b → b ≡ true) [
    | true ↦ λ _. refl
    | false ↦ λ t. absurd (none_some (sym none ∙ sym (suits.follows.other_numbers x t) ∙ is))
  ] refl

  -- the inode of a node aside is no concerned node's
  untouched : (x i : ℕ) → commit.concerns x ≡ false → there.before x ≡ Some i → IsTouched commit i → ⊥
  untouched x i other is t = elim t.number [
    | inl was ↦ apart t.node t.concerned (suits.agrees.numbers t.node t.concerned ∙ was)
    | inr now ↦ by_way now (plan.commits.numbers.comes t.node i now)
  ]
    where
      apart : (y : ℕ) → commit.concerns y ≡ true → there.before y ≡ Some i → ⊥
      apart y concerned same = not_both (ap commit.concerns (suits.stands.once x y i is same) ∙ concerned) other

      by_way : commit.after t.node ≡ Some i → ComesBy commit image t.node i → ⊥
      by_way now (had was) = apart t.node t.concerned (suits.agrees.numbers t.node t.concerned ∙ was)
      by_way now (enters none _ _) =
          not_used (kind_of there.old x) (sym (suits.stands.each x i is).kind ∙ (suits.agrees.entering t.node i t.concerned none now).kind)

  aside_there : (x : ℕ) → commit.concerns x ≡ false → IsAside there.old there.new x
  aside_there x other = record {
    rows = (suits.follows.other_nodes x other).0;
    bytes = (suits.follows.other_nodes x other).1;
    naming = λ d n. elim (commit.concerns d) as (λ b. commit.concerns d ≡ b → (row_of there.new d n ≡ Some x) ↔ (row_of there.old d n ≡ Some x)) [
      | false ↦ λ t. let same = (suits.follows.other_nodes d t).0 n in (λ row. sym same ∙ row, λ row. same ∙ row)
      | true ↦ λ t.
          let now = (suits.follows.nodes d t).0 n in
          let was = suits.agrees.rows d t n in
          (λ row. was ∙ stayed d n (sym now ∙ row), λ row. now ∙ stays d n (sym was ∙ row))
    ] refl;
  }
    where
      stayed : (d : ℕ) (n : List ℕ) → row_of new d n ≡ Some x → row_of old d n ≡ Some x
      stayed d n row =
          elim (same_option (row_of old d n) (Some x)) [ inl same ↦ same | inr differ ↦ absurd (not_both (plan.concerns.comes d n x row differ) other) ]

      stays : (d : ℕ) (n : List ℕ) → row_of old d n ≡ Some x → row_of new d n ≡ Some x
      stays d n row =
          elim (same_option (row_of new d n) (Some x)) [ inl same ↦ same | inr differ ↦ absurd (not_both (plan.concerns.goes d n x row differ) other) ]

  stays_there : (x i : ℕ) → there.after x ≡ Some i → commit.concerns x ≡ false →
      (there.before x ≡ Some i) × (there.next.seen i ≡ there.image.seen i) × IsAside there.old there.new x
  stays_there x i is other =
      let was = sym (suits.follows.other_numbers x other) ∙ is in (
        was,
        elim (suits.follows.inodes i (suits.stands.within x i was)) as (λ _. there.next.seen i ≡ there.image.seen i) [
          | inl touched ↦ absurd (untouched x i other was touched.0)
          | inr apart ↦ apart.1
        ],
        aside_there x other,
      )

  -- an inode that the commit plans for a concerned node, or leaves free
  abbrev Rests : ℕ → Type 0
  Rests i = ((x : ℕ) × (there.after x ≡ Some i)) ⊎ IsUnused (there.next.seen i)

  rest_planned : (i : ℕ) → there.next.seen i ≡ next.seen i → i < next.count → ((y : ℕ) → commit.concerns y ≡ false → commit.after y ≡ Some i → ⊥) → Rests i
  rest_planned i same lt alone = elim (plan.commits.rest i lt) as (λ _. Rests i) [
    | inr free ↦ inr (subst IsUnused (sym same) free)
    | inl node ↦ elim (commit.concerns node.0) as (λ b. commit.concerns node.0 ≡ b → Rests i) [
      | true ↦ λ t. inl (node.0, suits.follows.numbers node.0 t ∙ node.1)
      | false ↦ λ t. absurd (alone node.0 t node.1)
    ] refl
  ]

  -- a touched inode is no other node's in the plan
  touched_alone : (i : ℕ) → IsTouched commit i → (y : ℕ) → commit.concerns y ≡ false → commit.after y ≡ Some i → ⊥
  touched_alone i t y other is = elim t.number [
    | inl was ↦ same_concern (plan.stands.once t.node y i was (plan.commits.stays y i is other).0)
    | inr now ↦ same_concern (number_once commit old image plan.stands plan.commits.numbers t.node y i now is)
  ]
    where
      same_concern : t.node ≡ y → ⊥
      same_concern same = not_both t.concerned (ap commit.concerns same ∙ other)

  rest_there : (i : ℕ) → i < there.next.count → Rests i
  rest_there i lt = elim (suits.follows.inodes i within) as (λ _. Rests i) [
    | inl touched ↦ rest_planned i touched.1 planned_within (touched_alone i touched.0)
    | inr apart ↦ elim (suits.stands.rest i within) as (λ _. Rests i) [
      | inr free ↦ inr (subst IsUnused (sym apart.1) free)
      | inl node ↦ elim (commit.concerns node.0) as (λ b. commit.concerns node.0 ≡ b → Rests i) [
        | false ↦ λ t. inl (node.0, suits.follows.other_numbers node.0 t ∙ node.1)
        | true ↦ λ t. absurd (apart.0 (record { node = node.0; concerned = t; number = inl (sym (suits.agrees.numbers node.0 t) ∙ node.1) }))
      ] refl
    ]
  ]
    where
      within : i < there.image.count
      within = subst (λ (n : ℕ). i < n) suits.follows.count lt

      planned_within : i < next.count
      planned_within = subst (λ (n : ℕ). i < n) (suits.agrees.count ∙ sym plan.commits.count) within

  has_there : (x i place : ℕ) → place < PLACES → there.after x ≡ Some i → commit.concerns x ≡ true →
      HasBlock (commit_there commit there) i place (seen_before (commit_there commit there) there.image x) (there.next.seen i)
  has_there x i place small is concerned = by_block (plan.commits.blocks.has x i place small planned concerned)
    where
      planned : commit.after x ≡ Some i
      planned = sym (suits.follows.numbers x concerned) ∙ is

      block : (there.next.seen i).blocks place ≡ (next.seen i).blocks place
      block = ap (λ (s : Seen). s.blocks place) (as_planned x i (within_there x i concerned planned) concerned (inr planned))

      by_block : HasBlock commit i place (seen_before commit image x) (next.seen i) →
          HasBlock (commit_there commit there) i place (seen_before (commit_there commit there) there.image x) (there.next.seen i)
      by_block (hole none) = hole (block ∙ none)
      by_block (kept same) = kept (block ∙ same ∙ ap (λ (s : Seen). s.blocks place) (sym (before_there x concerned)))
      by_block (fresh takes same) = fresh takes (block ∙ same)

  pub commit_elsewhere : IsCommit (commit_there commit there) there.old there.new there.image there.next
  commit_elsewhere = record {
    count = suits.follows.count;
    nets = nets_there;
    numbers = record {
      comes = comes_there;
      once = λ x y i p q is twin.
          let cx = concerned_if_entering x i p is in
          let cy = concerned_if_entering y i q twin in
          plan.commits.numbers.once x y i (sym (suits.agrees.numbers x cx) ∙ p) (sym (suits.agrees.numbers y cy) ∙ q) (sym (suits.follows.numbers x cx) ∙ is)
          (sym (suits.follows.numbers y cy) ∙ twin);
    };
    built = built_there;
    stays = stays_there;
    rest = rest_there;
    blocks = record { has = has_there; unheld = suits.agrees.unheld; once = plan.commits.blocks.once };
  }

pub planned_commits_hold_elsewhere : PlannedCommitsHoldElsewhere
planned_commits_hold_elsewhere = commit_elsewhere

pub unconcerned_nodes_stay : UnconcernedNodesStay
unconcerned_nodes_stay commit old new node nets w other bytes = record {
  rows = λ name.
      sym (sym (get-names_where node (λ _. true) old.rows name)
      ∙ no_net_row (names_of node old.rows) (names_of node new.rows) (commit.nets node) (nets node) name (ap (row_in_net name) (w.nets node other))
      ∙ get-names_where node (λ _. true) new.rows name);
  bytes = bytes;
  naming = λ d n. (
    λ row. elim (same_option (row_of old d n) (Some node)) as (λ _. row_of old d n ≡ Some node) [
      | inl same ↦ same
      | inr differ ↦
          absurd (not_both (w.comes d n node row differ) other)
    ],
    λ row. elim (same_option (row_of new d n) (Some node)) as (λ _. row_of new d n ≡ Some node) [
      | inl same ↦ same
      | inr differ ↦
          absurd (not_both (w.goes d n node row differ) other)
    ],
  );
}
