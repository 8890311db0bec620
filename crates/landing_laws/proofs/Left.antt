-- Which nodes have an inode once a commit is durable.
use Rattle.std.proofs.Common.{◌≡◌, ◌∙◌, ◌∷◌, if◌then◌else◌, ◌||◌, ◌++◌, ◌+◌, ◌&&◌, List, ℕ, is_some, map, [], refl, nat_eq, Bool, option_map, Some, true, false, Contains, subst, Option, ap, drop, not, cond, arith, eqb-true, sym}
use Rattle.std.proofs.lemmas.List.Folds.{list_any-append}
use Rattle.sfs_base.specs.Listed.{is_listed}
use Rattle.sfs_base.specs.declared.numbers.NodeId.{NodeId}
use Rattle.sfs_base.proofs.BasicNumbers.{not_same, zero_plus}
use Rattle.sfs_base.proofs.BasicTruth.{and_false}
use Rattle.space_map.specs.Space.{GrantedNumbers}
use Rattle.keyed_list.specs.Ascending.{item_with}
use Rattle.tree_laws.specs.NameRow.{node_number}
use Rattle.tree_laws.proofs.Joined.{count-cons}
use Rattle.disk_nodes.specs.declared.old.OldEntry.{OldEntry}
use Rattle.disk_nodes.specs.Nodes.{entry_node, entry_old}
use Rattle.disk_change.specs.Lists.{ascending_by}
use Rattle.disk_change.specs.Seated.{Seated, CommitChanges, begun_entering, begun_old, changes_in}
use Rattle.disk_change.specs.AllBuilt.{entry_after, nodes_built, after_commit, nodes_with_grant, numbers_with}
use Rattle.disk_change.specs.Planned.{blocks_taken, seated_entering, seated_old, staying, Planned, planned}
use Rattle.disk_change.specs.declared.enter.Enter.{Enter}
use Rattle.disk_change.specs.declared.files.FileChange.{FileChange}
use Rattle.disk_change.specs.Nodes.{enter_node}
use Rattle.disk_change.specs.Links.{times_in, directories_concerned}
use Rattle.disk_change.specs.declared.directory_net.DirectoryNet.{DirectoryNet}
use Rattle.disk_change.proofs.NumbersGiven.{planned_node}
use Rattle.commit_laws.proofs.SeatsOfPlan.{in_is_among, in_mapped, among_is_in}
use Rattle.commit_laws.proofs.OwnInodes.{mapped_is_in, ascending_is_in, number_in_ascending}
use Rattle.cut_laws.proofs.Raising.{true_alike}
use Rattle.fsync_values.specs.Renewing.{kept_of_node}

-- entries have something of a node where one of them is the node's
kept_listed : (entries : List OldEntry) (node : ℕ) → is_some (kept_of_node entries node) ≡ is_listed (map entry_node entries) node
kept_listed [] node = refl
kept_listed (entry ∷ entries) node = by (nat_eq (entry_node entry) node) (kept_listed entries node)
  where
    by : (b : Bool) → is_some (kept_of_node entries node) ≡ is_listed (map entry_node entries) node
        → is_some (option_map entry_old (if b then Some entry else item_with entry_node node entries)) ≡ (b || is_listed (map entry_node entries) node)
    by true rest = refl
    by false rest = rest

-- the numbers of items are those of the items in their order
listed_ascending : {X : Type 0} (key : X → ℕ) (items : List X) (n : ℕ) → is_listed (map key (ascending_by key items)) n ≡ is_listed (map key items) n
listed_ascending {X} key items n = true_alike (is_listed (map key (ascending_by key items)) n) (is_listed (map key items) n) there back
  where
    listed_of : (xs : List X) (x : X) → Contains xs x → key x ≡ n → is_listed (map key xs) n ≡ true
    listed_of xs x has same = subst (λ k. is_listed (map key xs) k ≡ true) same (in_is_among (map key xs) (key x) (in_mapped key xs x has))

    there : is_listed (map key (ascending_by key items)) n ≡ true → is_listed (map key items) n ≡ true
    there listed =
        let found = mapped_is_in key (ascending_by key items) n (among_is_in (map key (ascending_by key items)) n listed) in
        listed_of items found.0 (ascending_is_in key items found.0 found.1) found.2

    back : is_listed (map key items) n ≡ true → is_listed (map key (ascending_by key items)) n ≡ true
    back listed =
        let found = mapped_is_in key items n (among_is_in (map key items) n listed) in
        let one = number_in_ascending key items found.0 found.1 in
        listed_of (ascending_by key items) one.0 one.1 (one.2 ∙ found.2)

-- the node of a seat
abbrev seat_node : Seated → ℕ
seat_node seat = seat.node

-- what is built is of the nodes of the seats
built_nodes : (changes : CommitChanges) (numbers : ℕ → Option ℕ) (seats : List Seated) (fresh : List ℕ)
    → map entry_node (map entry_after (nodes_built changes numbers seats fresh)) ≡ map seat_node seats
built_nodes changes numbers [] fresh = refl
built_nodes changes numbers (seat ∷ seats) fresh = ap (λ nodes. seat.node ∷ nodes) (built_nodes changes numbers seats (drop (blocks_taken seat) fresh))

-- the seats are of the nodes that stay and of those that enter
seats_entering : (changes : CommitChanges) (enter : List Enter) → map seat_node (map (seated_entering changes) enter) ≡ map enter_node enter
seats_entering changes [] = refl
seats_entering changes (one ∷ enter) =
    let node = planned_node changes (begun_entering one) (begun_entering one).kind in λ i. node i ∷ seats_entering changes enter i

seats_staying : (changes : CommitChanges) (entries : List OldEntry) (others : List Seated)
    → map seat_node (map (seated_old changes) entries ++ others) ≡ map entry_node entries ++ map seat_node others
seats_staying changes [] others = refl
seats_staying changes (entry ∷ entries) others =
    let node = planned_node changes (begun_old entry) (begun_old entry).kind in λ i. node i ∷ seats_staying changes entries others i

-- a number stands in a list some times exactly where it is in it
times_listed : (numbers : List ℕ) (n : ℕ) → not (nat_eq (times_in numbers n) 0) ≡ is_listed numbers n
times_listed [] n = refl
times_listed (m ∷ numbers) n = ap (λ k. not (nat_eq k 0)) (count-cons (λ other. nat_eq other n) m numbers) ∙ by (nat_eq m n) (times_listed numbers n)
  where
    by : (b : Bool) → not (nat_eq (times_in numbers n) 0) ≡ is_listed numbers n → not (nat_eq (cond b 1 0 + times_in numbers n) 0) ≡ (b || is_listed numbers n)
    by true rest = ap not (not_same (1 + times_in numbers n) 0 (λ e. absurd (omega arith)))
    by false rest = ap (λ k. not (nat_eq k 0)) (zero_plus (times_in numbers n)) ∙ rest

-- the nodes that stay are those that do not leave
staying_listed : (leave : List NodeId) (old : List OldEntry) (node : ℕ)
    → is_listed (map entry_node (staying old leave)) node ≡ (is_listed (map entry_node old) node && not (is_listed (map node_number leave) node))
staying_listed leave [] node = refl
staying_listed leave (entry ∷ old) node =
    ap (λ b. is_listed (map entry_node (if not b then entry ∷ staying old leave else staying old leave)) node)
    (times_listed (map node_number leave) entry.node.0)
    ∙ by (is_listed (map node_number leave) entry.node.0) refl (nat_eq entry.node.0 node) refl (staying_listed leave old node)
  where
    Rest : Type 0
    Rest = is_listed (map entry_node (staying old leave)) node ≡ (is_listed (map entry_node old) node && not (is_listed (map node_number leave) node))

    by : (gone : Bool) → is_listed (map node_number leave) entry.node.0 ≡ gone → (here : Bool) → nat_eq entry.node.0 node ≡ here → Rest
        → is_listed (map entry_node (if not gone then entry ∷ staying old leave else staying old leave)) node
        ≡ (is_listed (map entry_node (entry ∷ old)) node && not (is_listed (map node_number leave) node))
    by true left true own rest =
        let same : is_listed (map node_number leave) node ≡ true =
        subst (λ n. is_listed (map node_number leave) n ≡ true) (eqb-true entry.node.0 node own) left in
        rest ∙ ap (λ b. is_listed (map entry_node old) node && not b) same ∙ and_false (is_listed (map entry_node old) node)
        ∙ sym (and_false (is_listed (map entry_node (entry ∷ old)) node)) ∙ ap (λ b. is_listed (map entry_node (entry ∷ old)) node && not b) (sym same)
    by true left false other rest =
        rest ∙ ap (λ b. (b || is_listed (map entry_node old) node) && not (is_listed (map node_number leave) node)) (sym other)
    by false stays true own rest =
        let same : is_listed (map node_number leave) node ≡ false =
        subst (λ n. is_listed (map node_number leave) n ≡ false) (eqb-true entry.node.0 node own) stays in
        ap (λ b. b || is_listed (map entry_node (staying old leave)) node) own
        ∙ sym (ap (λ b. (b || is_listed (map entry_node old) node) && not (is_listed (map node_number leave) node)) own ∙ ap not same)
    by false stays false other rest =
        ap (λ b. b || is_listed (map entry_node (staying old leave)) node) other ∙ rest
        ∙ ap (λ b. (b || is_listed (map entry_node old) node) && not (is_listed (map node_number leave) node)) (sym other)

-- A node has an inode then where it had one and does not leave, or enters.
module _ (old : List OldEntry) (nets : List DirectoryNet) (files : List FileChange) (enter : List Enter) (leave : List NodeId) (grant : GrantedNumbers) where
  abbrev changes : CommitChanges
  changes = changes_in (directories_concerned old enter) nets files

  abbrev change : Planned
  change = planned old nets files enter leave

  pub left_listed : (node : ℕ) → is_some (kept_of_node (after_commit change grant) node)
      ≡ ((is_listed (map entry_node old) node && not (is_listed (map node_number leave) node)) || is_listed (map enter_node enter) node)
  left_listed node =
      kept_listed (after_commit change grant) node
      ∙ listed_ascending entry_node (map entry_after (nodes_with_grant change grant)) node
      ∙ ap (λ nodes. is_listed nodes node)
      (built_nodes changes (numbers_with change grant.inodes) change.seats grant.blocks
      ∙ seats_staying changes (staying old leave) (map (seated_entering changes) enter)
      ∙ ap (λ nodes. map entry_node (staying old leave) ++ nodes) (seats_entering changes enter))
      ∙ list_any-append (λ (n : ℕ). nat_eq n node) (map entry_node (staying old leave)) (map enter_node enter)
      ∙ ap (λ b. b || is_listed (map enter_node enter) node) (staying_listed leave old node)
