-- What is gathered of the nodes that are held.
use Rattle.std.specs.Prelude.{if◌then◌else◌, All, filter_map, option_map, is_some}
use Rattle.std.specs.Option.{unwrap_or}
use Rattle.std.specs.List.{find, cons_option}
use Rattle.std.specs.List.Sorted.{IsStrictlyIncreasing}
use Rattle.std.proofs.Common.{◌≡◌, ◌+◌, ◌<◌, ◌∷◌, ◌++◌, ◌∙◌, ℕ, Bool, true, false, nat_eq, List, [], map, length, take, get_or, Option, Some, None, IsSome, inl, inr, refl, sym, ap, subst}
use Rattle.std.proofs.lemmas.Bool.{cases_Bool}
use Rattle.std.proofs.lemmas.List.{take_more}
use Rattle.std.proofs.lemmas.List.Elements.{filter_map-append, All-head, All-tail}
use Rattle.sfs_base.specs.declared.numbers.NodeId.{NodeId}
use Rattle.sfs_base.specs.Listed.{is_listed}
use Rattle.sfs_base.proofs.BasicTruth.{true_not_false}
use Rattle.sfs_base.proofs.BasicOptions.{none_some, some_same}
use Rattle.tree_laws.specs.NameRow.{node_number, number_of}
use Rattle.cut_laws.specs.Rules.{IsOneOf}
use Rattle.cut_laws.proofs.Listed.{from_map, to_map, listed_one}
use Rattle.look_laws.specs.Look.{Born}
use Rattle.dep_closure.specs.declared.gathered.Gathered.{Gathered}
use Rattle.dep_closure.specs.declared.gathered.NodeCut.{NodeCut}
use Rattle.dep_closure.specs.declared.gathered.NodeBirth.{NodeBirth}
use Rattle.dep_closure.specs.Gathered.{cut_in, cut_node, birth_node, born_as, log_directory, IsOwnLog, IsOrderly}
use Rattle.dep_closure.proofs.Looked.{found_listed, one_of_all, only_one}
use Rattle.stamp_table.specs.declared.held.HeldCell.{HeldCell}
use Rattle.mem_values.specs.declared.cell.Cell.{Cell}
use Rattle.mem_values.specs.declared.cell.Pending.{Pending}
use Rattle.mem_values.proofs.Basics.{is_value}
use Rattle.mem_calls.specs.Held.{pending_held}
use Rattle.fsync_gather.specs.Gathers.{IsHeldOf, SeenNode, node_seen, nodes_seen, cut_seen, birth_seen, inode_seen, GathersNode, GathersNodes}
use Rattle.fsync_gather.proofs.Rising.{from_given, to_given, given_rise}

-- one node more is gathered: what is pushed of it is what a function gives of what is held
module _ {Y : Type 0} (f : SeenNode → Option Y) (nodes : ℕ) (cells : List (HeldCell Cell)) where
  abbrev given : List NodeId → List Y
  given list = filter_map f (nodes_seen nodes cells list)

  pub given_next : (list : List NodeId) (at : ℕ) (default : NodeId) (value : Pending) → at < length list
      → pending_held nodes cells (get_or list at default) ≡ Some value
      → given (take (at + 1) list) ≡ given (take at list) ++ cons_option (f (record { node = get_or list at default; value = value })) []
  given_next list at default value within held =
      let node = get_or list at default in
      ap given (take_more list at default within)
      ∙ ap (filter_map f) (filter_map-append (node_seen nodes cells) (take at list) (node ∷ []))
      ∙ filter_map-append f (nodes_seen nodes cells (take at list)) (filter_map (node_seen nodes cells) (node ∷ []))
      ∙ ap (λ (o : Option Pending). given (take at list)
      ++ filter_map f (cons_option (option_map (λ v. record { node = node; value = v }) o) [])) held

-- a node that was seen, by its number
abbrev seen_number : SeenNode → ℕ
seen_number seen = seen.node.0

-- the numbers of those that were seen are those of the nodes
numbers_seen : (nodes : ℕ) (cells : List (HeldCell Cell)) (list : List NodeId) → All (IsHeldOf nodes cells) list
    → map seen_number (nodes_seen nodes cells list) ≡ map node_number list
numbers_seen nodes cells [] held = refl
numbers_seen nodes cells (node ∷ list) held =
    by (pending_held nodes cells node) (All-head (IsHeldOf nodes cells) node list held)
    (numbers_seen nodes cells list (All-tail (IsHeldOf nodes cells) node list held))
  where
    by : (o : Option Pending) → IsSome o → map seen_number (nodes_seen nodes cells list) ≡ map node_number list
        → map seen_number (cons_option (option_map (λ v. record { node = node; value = v }) o) (nodes_seen nodes cells list)) ≡ map node_number (node ∷ list)
    by None some rest = absurd (true_not_false (sym some))
    by (Some value) some rest = ap (λ l. node.0 ∷ l) rest

-- what was seen of a node is what is held of it
seen_held : (nodes : ℕ) (cells : List (HeldCell Cell)) (list : List NodeId) (seen : SeenNode) → IsOneOf (nodes_seen nodes cells list) seen
    → pending_held nodes cells seen.node ≡ Some seen.value
seen_held nodes cells list seen one =
    let found = from_given (node_seen nodes cells) list seen one in by found.0 (pending_held nodes cells found.0) refl found.2
  where
    by : (node : NodeId) (o : Option Pending) → pending_held nodes cells node ≡ o
        → option_map (λ v. record { node = node; value = v }) o ≡ Some seen → pending_held nodes cells seen.node ≡ Some seen.value
    by node None is given = absurd (none_some given)
    by node (Some value) is given = subst (λ (s : SeenNode). pending_held nodes cells s.node ≡ Some s.value) (some_same given) is

held_seen : (nodes : ℕ) (cells : List (HeldCell Cell)) (list : List NodeId) (node : NodeId) (value : Pending) → IsOneOf list node
    → pending_held nodes cells node ≡ Some value → IsOneOf (nodes_seen nodes cells list) (record { node = node; value = value })
held_seen nodes cells list node value one held =
    to_given (node_seen nodes cells) list node (record { node = node; value = value }) one (ap (option_map (λ v. record { node = node; value = v })) held)

-- All that a gathering has of the nodes is what is given of those that were seen.
pub record AreGiven (nodes : ℕ) (cells : List (HeldCell Cell)) (list : List NodeId) (gathered : Gathered) : Type 0 where
  pub cuts : gathered.cuts.items ≡ filter_map cut_seen (nodes_seen nodes cells list)
  pub births : gathered.births.items ≡ filter_map birth_seen (nodes_seen nodes cells list)
  pub inodes : gathered.inodes.items ≡ filter_map inode_seen (nodes_seen nodes cells list)

cut_own : (s : SeenNode) (c : NodeCut) → cut_seen s ≡ Some c → cut_node c ≡ s.node.0
cut_own s c is = sym (ap cut_node (some_same is))

birth_own : (s : SeenNode) (b : NodeBirth) → birth_seen s ≡ Some b → birth_node b ≡ s.node.0
birth_own s b is = by s.value.made_in is
  where
    by : (o : Option NodeId) → option_map (λ d. record { node = s.node; dir = d }) o ≡ Some b → birth_node b ≡ s.node.0
    by None none = absurd (none_some none)
    by (Some d) some = sym (ap birth_node (some_same some))

inode_is : (s : SeenNode) (n : NodeId) → inode_seen s ≡ Some n → (s.node ≡ n) × (is_some s.value.old ≡ true)
inode_is s n is = by (is_some s.value.old) refl is
  where
    by : (b : Bool) → is_some s.value.old ≡ b → (if b then Some s.node else None) ≡ Some n → (s.node ≡ n) × (is_some s.value.old ≡ true)
    by true old some = (some_same some, old)
    by false old none = absurd (none_some none)

inode_own : (s : SeenNode) (n : NodeId) → inode_seen s ≡ Some n → node_number n ≡ s.node.0
inode_own s n is = sym (ap node_number (inode_is s n is).0)

module _ (nodes : ℕ) (cells : List (HeldCell Cell)) (list : List NodeId) (gathered : Gathered) (held : All (IsHeldOf nodes cells) list)
    (up : IsStrictlyIncreasing (map node_number list)) (are : AreGiven nodes cells list gathered) where
  abbrev all_seen : List SeenNode
  all_seen = nodes_seen nodes cells list

  seen_rise : IsStrictlyIncreasing (map seen_number all_seen)
  seen_rise = subst IsStrictlyIncreasing (sym (numbers_seen nodes cells list held)) up

  cuts_rise : IsStrictlyIncreasing (map cut_node gathered.cuts.items)
  cuts_rise = subst (λ l. IsStrictlyIncreasing (map cut_node l)) (sym are.cuts) (given_rise seen_number cut_seen cut_node cut_own all_seen seen_rise)

  births_rise : IsStrictlyIncreasing (map birth_node gathered.births.items)
  births_rise =
      subst (λ l. IsStrictlyIncreasing (map birth_node l)) (sym are.births) (given_rise seen_number birth_seen birth_node birth_own all_seen seen_rise)

  inodes_rise : IsStrictlyIncreasing (map node_number gathered.inodes.items)
  inodes_rise =
      subst (λ l. IsStrictlyIncreasing (map node_number l)) (sym are.inodes) (given_rise seen_number inode_seen node_number inode_own all_seen seen_rise)

  -- all stands in order where the logs do
  pub gathers_in_order : IsStrictlyIncreasing (map log_directory gathered.logs.items) → All IsOwnLog gathered.logs.items → IsOrderly gathered
  gathers_in_order logs own = record { logs = logs; cuts = cuts_rise; births = births_rise; inodes = inodes_rise; own_logs = own }

  -- a node that was seen is one of the list
  seen_listed : (seen : SeenNode) → IsOneOf all_seen seen → is_listed (map node_number list) seen.node.0 ≡ true
  seen_listed seen one =
      (listed_one (map node_number list) seen.node.0).1
      (subst (λ l. IsOneOf l seen.node.0) (numbers_seen nodes cells list held) (to_map seen_number all_seen seen one))

  not_seen : (node : ℕ) → is_listed (map node_number list) node ≡ false → (seen : SeenNode) → IsOneOf all_seen seen → seen.node.0 ≡ node → ⊥
  not_seen node none seen one is = true_not_false (sym (subst (λ n. is_listed (map node_number list) n ≡ true) is (seen_listed seen one)) ∙ none)

  module _ (node : ℕ) (listed : is_listed (map node_number list) node ≡ true) where
    abbrev id_of : NodeId
    id_of = record { 0 = node }

    in_list : IsOneOf list id_of
    in_list =
        let found = from_map node_number list node ((listed_one (map node_number list) node).0 listed) in
        subst (λ (n : NodeId). IsOneOf list n) (λ i. record { 0 = found.2 i }) found.1

    found_value : (value : Pending) × (pending_held nodes cells id_of ≡ Some value)
    found_value = is_value (pending_held nodes cells id_of) (one_of_all (IsHeldOf nodes cells) list id_of held in_list)

    abbrev own_seen : SeenNode
    own_seen = record { node = id_of; value = found_value.0 }

    is_seen : IsOneOf all_seen own_seen
    is_seen = held_seen nodes cells list id_of found_value.0 in_list found_value.1

    -- who has its number is it
    same_value : (seen : SeenNode) → IsOneOf all_seen seen → seen.node.0 ≡ node → seen.value ≡ found_value.0
    same_value seen one is =
        some_same (sym (seen_held nodes cells list seen one) ∙ ap (λ n. pending_held nodes cells (record { 0 = n })) is ∙ found_value.1)

    abbrev own_cut : NodeCut
    own_cut = record { node = id_of; cut = found_value.0.cut }

    cut_is : cut_in gathered.cuts.items node ≡ found_value.0.cut.0
    cut_is =
        ap (λ (o : Option NodeCut). unwrap_or (option_map (λ c. c.cut.0) o) 0)
        (only_one cut_node gathered.cuts.items cuts_rise node own_cut
        (subst (λ l. IsOneOf l own_cut) (sym are.cuts) (to_given cut_seen all_seen own_seen own_cut is_seen refl)) refl)

    inode_has : is_some found_value.0.old ≡ true → is_listed (map node_number gathered.inodes.items) node ≡ true
    inode_has some =
        (listed_one (map node_number gathered.inodes.items) node).1
        (to_map node_number gathered.inodes.items id_of
        (subst (λ l. IsOneOf l id_of) (sym are.inodes)
        (to_given inode_seen all_seen own_seen id_of is_seen (ap (λ b. if b then Some id_of else None) some))))

    has_inode : is_listed (map node_number gathered.inodes.items) node ≡ true → is_some found_value.0.old ≡ true
    has_inode there =
        let listed_node = from_map node_number gathered.inodes.items node ((listed_one (map node_number gathered.inodes.items) node).0 there) in
        let seen = from_given inode_seen all_seen listed_node.0 (subst (λ l. IsOneOf l listed_node.0) are.inodes listed_node.1) in
        let own = inode_is seen.0 listed_node.0 seen.2 in
        ap (λ (v : Pending). is_some v.old) (sym (same_value seen.0 seen.1 (ap node_number own.0 ∙ listed_node.2))) ∙ own.1

    inode_same : is_listed (map node_number gathered.inodes.items) node ≡ is_some found_value.0.old
    inode_same = by (is_listed (map node_number gathered.inodes.items) node) (is_some found_value.0.old) refl refl
      where
        by : (b c : Bool) → is_listed (map node_number gathered.inodes.items) node ≡ b → is_some found_value.0.old ≡ c
            → is_listed (map node_number gathered.inodes.items) node ≡ is_some found_value.0.old
        by true c there some = there ∙ sym (has_inode there)
        by false true there some = absurd (true_not_false (sym (inode_has some) ∙ there))
        by false false there some = there ∙ sym some

    born_from : (directory : ℕ) → IsOneOf (map born_as gathered.births.items) (record { node = node; directory = directory })
        → number_of found_value.0.made_in ≡ Some directory
    born_from directory one =
        let birth = from_map born_as gathered.births.items (record { node = node; directory = directory }) one in
        let seen = from_given birth_seen all_seen birth.0 (subst (λ l. IsOneOf l birth.0) are.births birth.1) in
        let number : seen.0.node.0 ≡ node = sym (birth_own seen.0 birth.0 seen.2) ∙ ap (λ (b : Born). b.node) birth.2 in
        ap (λ (v : Pending). number_of v.made_in) (sym (same_value seen.0 seen.1 number))
        ∙ by birth.0 seen.0.node seen.0.value.made_in seen.2 (ap (λ (b : Born). b.directory) birth.2)
      where
        by : (b : NodeBirth) (n : NodeId) (o : Option NodeId) → option_map (λ d. record { node = n; dir = d }) o ≡ Some b → b.dir.0 ≡ directory
            → number_of o ≡ Some directory
        by b n None none is = absurd (none_some none)
        by b n (Some d) some is = ap Some (ap (λ (c : NodeBirth). c.dir.0) (some_same some) ∙ is)

    born_to : (directory : ℕ) → number_of found_value.0.made_in ≡ Some directory
        → IsOneOf (map born_as gathered.births.items) (record { node = node; directory = directory })
    born_to directory made = by found_value.0.made_in refl made
      where
        by : (o : Option NodeId) → found_value.0.made_in ≡ o → number_of o ≡ Some directory
            → IsOneOf (map born_as gathered.births.items) (record { node = node; directory = directory })
        by None is none = absurd (none_some none)
        by (Some d) is some =
            let birth : NodeBirth = record { node = id_of; dir = d } in
            subst (λ (x : ℕ). IsOneOf (map born_as gathered.births.items) (record { node = node; directory = x })) (some_same some)
            (to_map born_as gathered.births.items birth
            (subst (λ l. IsOneOf l birth) (sym are.births)
            (to_given birth_seen all_seen own_seen birth is_seen (ap (option_map (λ e. record { node = id_of; dir = e })) is))))

    pub gathers_node : GathersNode nodes cells gathered node
    gathers_node = record {
      value = found_value.0;
      held = found_value.1;
      cut = cut_is;
      inode = inode_same;
      born = λ directory. (born_from directory, born_to directory);
    }

  -- of no other node anything was gathered
  module _ (node : ℕ) (none : is_listed (map node_number list) node ≡ false) where
    no_cut : cut_in gathered.cuts.items node ≡ 0
    no_cut = by (find (λ c. nat_eq (cut_node c) node) gathered.cuts.items) (found_listed cut_node gathered.cuts.items node)
      where
        unlisted : is_listed (map cut_node gathered.cuts.items) node ≡ true → ⊥
        unlisted there =
            let cut = from_map cut_node gathered.cuts.items node ((listed_one (map cut_node gathered.cuts.items) node).0 there) in
            let seen = from_given cut_seen all_seen cut.0 (subst (λ l. IsOneOf l cut.0) are.cuts cut.1) in
            not_seen node none seen.0 seen.1 (sym (cut_own seen.0 cut.0 seen.2) ∙ cut.2)

        by : (o : Option NodeCut) → is_some o ≡ is_listed (map cut_node gathered.cuts.items) node → unwrap_or (option_map (λ c. c.cut.0) o) 0 ≡ 0
        by None is = refl
        by (Some c) is = absurd (unlisted (sym is))

    no_inode : is_listed (map node_number gathered.inodes.items) node ≡ false
    no_inode = elim (cases_Bool (is_listed (map node_number gathered.inodes.items) node)) [
      | inl there ↦
          let inode = from_map node_number gathered.inodes.items node ((listed_one (map node_number gathered.inodes.items) node).0 there) in
          let seen = from_given inode_seen all_seen inode.0 (subst (λ l. IsOneOf l inode.0) are.inodes inode.1) in
          absurd (not_seen node none seen.0 seen.1 (sym (inode_own seen.0 inode.0 seen.2) ∙ inode.2))
      | inr not ↦ not
    ]

    no_birth : (directory : ℕ) → IsOneOf (map born_as gathered.births.items) (record { node = node; directory = directory }) → ⊥
    no_birth directory one =
        let birth = from_map born_as gathered.births.items (record { node = node; directory = directory }) one in
        let seen = from_given birth_seen all_seen birth.0 (subst (λ l. IsOneOf l birth.0) are.births birth.1) in
        not_seen node none seen.0 seen.1 (sym (birth_own seen.0 birth.0 seen.2) ∙ ap (λ (b : Born). b.node) birth.2)

  pub gathers_nodes : GathersNodes nodes cells list gathered
  gathers_nodes = record
      { each = gathers_node; other_cuts = no_cut; other_inodes = no_inode; other_births = λ node directory none. no_birth node none directory }
