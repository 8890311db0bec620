-- The nodes that a plan builds: each stands once, and is built with its number.
use Rattle.std.proofs.Common.{◌≡◌, ℕ, zero, suc, ◌+◌, ◌<◌, Bool, true, false, cond, not, ◌&&◌, ◌||◌, List, [], ◌∷◌, ◌++◌, length, get_or, map, filter, Option, Some, None, option_map, is_some, inl, inr, refl, sym, ap, subst, ◌∙◌, arith, nat_eq, Contains}
use Rattle.std.specs.Prelude.{slice_get, ◌⊎◌}
use Rattle.std.specs.Option.{unwrap_or}
use borrow.Author.Tests.{eqb-true}
use Rattle.std.proofs.lemmas.Bool.{cases_Bool, cases_lt}
use Rattle.std.proofs.lemmas.List.{length-map, map-append}
use Rattle.std.proofs.lemmas.List.Elements.{Contains-append_left, Contains-append_right, Contains-append_cases}
use Rattle.std.proofs.lemmas.List.Kept.{AllPairs-filter}
use Rattle.std.proofs.lemmas.Option.{slice_get-map, slice_get-get_or, slice_get_within, get_or_from_slice_get}
use Rattle.sfs_base.proofs.BasicNumbers.{same_number, zero_plus}
use Rattle.sfs_base.proofs.BasicOptions.{none_some, some_not_none}
use Rattle.sfs_base.proofs.BasicTruth.{not_true, or_true, true_not_false}
use Rattle.sfs_image.specs.Seen.{SeenInodes}
use Rattle.tree_laws.specs.Tree.{TreeState}
use Rattle.image_laws.specs.Commit.{Commit}
use Rattle.image_laws.specs.Numbers.{grant_for, NumbersAreGiven}
use Rattle.image_laws.specs.Renamed.{Numbering}
use Rattle.image_laws.proofs.Committed.{number_once}
use Rattle.image_laws.proofs.Numbers.{grants_give_numbers, granted}
use Rattle.space_map.specs.Space.{GrantedNumbers}
use Rattle.disk_change.specs.AllBuilt.{numbers_with, nodes_with_grant}
use Rattle.disk_change.specs.Built.{Built}
use Rattle.disk_change.specs.Directory.{is_among}
use Rattle.keyed_list.specs.Ascending.{AscendBy}
use Rattle.disk_change.specs.Nodes.{enter_node}
use Rattle.disk_nodes.specs.Nodes.{entry_node}
use Rattle.disk_change.specs.Planned.{Planned, staying, leaves, seated_old, seated_entering}
use Rattle.disk_change.specs.Seated.{Seated, begun_old, begun_entering}
use Rattle.disk_change.specs.declared.enter.Enter.{Enter}
use Rattle.disk_nodes.specs.declared.old.OldEntry.{OldEntry}
use Rattle.disk_change.proofs.NumbersGiven.{first_in, further_in, planned_node}
use Rattle.commit_laws.specs.CommitMade.{StandOnce, inodes_built, seated_nodes}
use Rattle.commit_laws.specs.CommitOfPlan.{CommitPlan, change_planned, has_inode_then, numbers_planned, commit_of, IsCommitPlan}
use Rattle.commit_laws.specs.NumbersGiven.{node_leaves, NumbersAreThose}
use Rattle.commit_laws.proofs.CommitMade.{map_there, some_there, length_built}
use Rattle.commit_laws.proofs.NumbersGiven.{kept_in, given_numbers_are_those}
use Rattle.commit_laws.proofs.OwnInodes.{mapped_is_in}
use Rattle.commit_laws.proofs.Ranked.{nodes_are_built_by_rank}

-- what stands at a place of a list is in it
pub there_is_in : {X : Type 0} (xs : List X) (m : ℕ) (x : X) → slice_get xs m ≡ Some x → Contains xs x
there_is_in xs m x is = (m, slice_get_within xs m x is, get_or_from_slice_get xs m x x is)

-- and what is in a list stands at a place
pub in_is_there : {X : Type 0} (xs : List X) (x : X) → Contains xs x → (m : ℕ) × (slice_get xs m ≡ Some x)
in_is_there xs x (m, within, is) = (m, slice_get-get_or xs m x within ∙ ap Some is)

-- what is in a list is there mapped
pub in_mapped : {X Y : Type 0} (f : X → Y) (xs : List X) (x : X) → Contains xs x → Contains (map f xs) (f x)
in_mapped f xs x is = let there = in_is_there xs x is in there_is_in (map f xs) there.0 (f x) (slice_get-map f xs there.0 ∙ ap (option_map f) there.1)

-- what passes a test stays in a list of what does
pub in_kept : {X : Type 0} (p : X → Bool) (xs : List X) (x : X) → Contains xs x → p x ≡ true → Contains (filter p xs) x
in_kept p [] x is passes = is
in_kept p (y ∷ ys) x (zero, within, is) passes = by (p y) (ap p is ∙ passes)
  where
    by : (b : Bool) → b ≡ true → Contains (cond b (y ∷ filter p ys) (filter p ys)) x
    by true t = (0, omega arith, is)
    by false t = absurd (true_not_false (sym t))
in_kept p (y ∷ ys) x (suc k, within, is) passes = by (p y) (in_kept p ys x (k, omega arith, is) passes)
  where
    by : (b : Bool) → Contains (filter p ys) x → Contains (cond b (y ∷ filter p ys) (filter p ys)) x
    by true rest = further_in y x (filter p ys) rest
    by false rest = rest

-- a number of a list is among it, and what is among it is one of the list
pub in_is_among : (numbers : List ℕ) (n : ℕ) → Contains numbers n → is_among numbers n ≡ true
in_is_among [] n (k, within, is) = absurd (omega arith)
in_is_among (m ∷ numbers) n (zero, within, is) = ap (λ b. b || is_among numbers n) (ap (λ k. nat_eq k n) is ∙ same_number n)
in_is_among (m ∷ numbers) n (suc k, within, is) = ap (λ b. nat_eq m n || b) (in_is_among numbers n (k, omega arith, is)) ∙ or_true (nat_eq m n)

pub among_is_in : (numbers : List ℕ) (n : ℕ) → is_among numbers n ≡ true → Contains numbers n
among_is_in [] n t = absurd (true_not_false (sym t))
among_is_in (m ∷ numbers) n t = by (nat_eq m n) refl t (among_is_in numbers n)
  where
    by : (b : Bool) → nat_eq m n ≡ b → (b || is_among numbers n) ≡ true → (is_among numbers n ≡ true → Contains numbers n) → Contains (m ∷ numbers) n
    by true e t later = subst (λ k. Contains (m ∷ numbers) k) (eqb-true m n e) (first_in m numbers)
    by false e t later = further_in m n numbers (later t)

-- a node that stays has an inode after the commit of a plan, and so has one that enters
pub stays_held : (plan : CommitPlan) (entry : OldEntry) → Contains plan.old entry → not (leaves plan.leave entry) ≡ true
    → has_inode_then plan entry.node.0 ≡ true
stays_held plan entry there stays =
    let among = in_is_among (map entry_node plan.old) entry.node.0 (in_mapped entry_node plan.old entry there) in
    λ j. (among j && stays j) || is_among (map enter_node plan.enter) entry.node.0

pub enters_held : (plan : CommitPlan) (one : Enter) → Contains plan.enter one → has_inode_then plan one.node.0 ≡ true
enters_held plan one there =
    let stays = is_among (map entry_node plan.old) one.node.0 && not (node_leaves plan.leave one.node.0) in
    ap (λ b. stays || b) (in_is_among (map enter_node plan.enter) one.node.0 (in_mapped enter_node plan.enter one there)) ∙ or_true stays

-- the numbers of items that ascend stand once
pub ascending_once : {X : Type 0} (key : X → ℕ) (xs : List X) → AscendBy key xs → StandOnce (map key xs)
ascending_once key xs up m l i at also =
    let first = map_there key xs m i at in
    let later = map_there key xs l i also in
    let in_first = slice_get_within xs m first.0 first.1 in
    let in_later = slice_get_within xs l later.0 later.1 in
    let one : key (get_or xs m first.0) ≡ i = ap key (get_or_from_slice_get xs m first.0 first.0 first.1) ∙ first.2 in
    let two : key (get_or xs l first.0) ≡ i = ap key (get_or_from_slice_get xs l later.0 first.0 later.1) ∙ later.2 in
    elim (cases_lt m l) [
      | inl lt ↦ absurd (let below : key (get_or xs m first.0) < key (get_or xs l first.0) = up m l first.0 lt in_later in omega arith)
      | inr ge ↦ elim (cases_lt l m) [
        | inl lt ↦ absurd (let below : key (get_or xs l first.0) < key (get_or xs m first.0) = up l m first.0 lt in_first in omega arith)
        | inr le ↦ omega arith
      ]
    ]

-- a place of two lists is one of the first, or one of the second
split_there : {X : Type 0} (xs ys : List X) (m : ℕ) (x : X) → slice_get (xs ++ ys) m ≡ Some x
    → (slice_get xs m ≡ Some x) ⊎ ((k : ℕ) × (m ≡ length xs + k) × (slice_get ys k ≡ Some x))
split_there [] ys m x is = inr (m, sym (zero_plus m), is)
split_there (y ∷ xs) ys zero x is = inl is
split_there (y ∷ xs) ys (suc m) x is = elim (split_there xs ys m x is) [
  | inl at ↦ inl at
  | inr at ↦ inr (at.0, (let same = at.1 in omega arith), at.2)
]

-- two lists whose numbers stand once, and none in both
pub once_append : (xs ys : List ℕ) → StandOnce xs → StandOnce ys → ((i : ℕ) → Contains xs i → Contains ys i → ⊥) → StandOnce (xs ++ ys)
once_append xs ys one two apart m l i at also = by (split_there xs ys m i at) (split_there xs ys l i also)
  where
    Split : ℕ → Type 0
    Split n = (slice_get xs n ≡ Some i) ⊎ ((k : ℕ) × (n ≡ length xs + k) × (slice_get ys k ≡ Some i))

    by : Split m → Split l → m ≡ l
    by (inl a) (inl b) = one m l i a b
    by (inl a) (inr b) = absurd (apart i (there_is_in xs m i a) (there_is_in ys b.0 i b.2))
    by (inr a) (inl b) = absurd (apart i (there_is_in xs l i b) (there_is_in ys a.0 i a.2))
    by (inr a) (inr b) = a.1 ∙ ap (λ k. length xs + k) (two a.0 b.0 i a.2 b.2) ∙ sym b.1

-- a node that is built at a place stands there among the nodes
pub node_there : (change : Planned) (m : ℕ) (seat : Seated) → slice_get change.seats m ≡ Some seat → slice_get (seated_nodes change) m ≡ Some seat.node
node_there change m seat at = slice_get-map (λ (s : Seated). s.node) change.seats m ∙ ap (option_map (λ (s : Seated). s.node)) at

module _ (num : Numbering) (concerned : List ℕ) (old new : TreeState) (image : SeenInodes) (plan : CommitPlan) (grant : GrantedNumbers)
    (is : IsCommitPlan num concerned old new image plan grant) where
  abbrev change : Planned
  change = change_planned plan

  abbrev commit : Commit
  commit = commit_of num concerned plan grant

  abbrev after : Numbering
  after = numbers_planned num plan grant.inodes

  abbrev stays : List OldEntry
  stays = staying plan.old plan.leave

  pub numbers : NumbersAreGiven commit image (map enter_node plan.enter)
  numbers = grants_give_numbers commit image (node_leaves plan.leave) (map enter_node plan.enter) grant.inodes is.serves.inodes (λ node. refl)

  those : NumbersAreThose num plan.old plan.nets plan.files plan.enter plan.leave grant.inodes
  those = given_numbers_are_those num plan.old plan.nets plan.files plan.enter plan.leave grant.inodes is.from.numbered

  -- no two nodes have one number
  pub after_once : (x y i : ℕ) → after x ≡ Some i → after y ≡ Some i → x ≡ y
  after_once x y i a b = number_once commit old image is.stands numbers.gives x y i a b

  -- a node with a number keeps it, or leaves
  pub after_had : (node i : ℕ) → num node ≡ Some i → after node ≡ cond (node_leaves plan.leave node) None (Some i)
  after_had node i had =
      ap (λ (o : Option ℕ). cond (is_some o) (cond (node_leaves plan.leave node) None o) (grant_for (map enter_node plan.enter) grant.inodes node)) had

  -- and one without gets that of the grant
  pub after_none : (node : ℕ) → num node ≡ None → after node ≡ grant_for (map enter_node plan.enter) grant.inodes node
  after_none node none =
      ap (λ (o : Option ℕ). cond (is_some o) (cond (node_leaves plan.leave node) None o) (grant_for (map enter_node plan.enter) grant.inodes node)) none

  stays_after : (entry : OldEntry) → Contains stays entry → after entry.node.0 ≡ Some entry.old.number
  stays_after entry there =
      let kept = kept_in (λ e. not (leaves plan.leave e)) plan.old entry there in
      after_had entry.node.0 entry.old.number (is.from.numbered.old_numbers entry kept.0)
      ∙ ap (λ b. cond b None (Some entry.old.number)) (not_true (node_leaves plan.leave entry.node.0) kept.1)

  enters_after : (one : Enter) → Contains plan.enter one → (i : ℕ) × (after one.node.0 ≡ Some i)
  enters_after one there =
      numbers.each one.node.0 (is.from.numbered.enter_none one there)
      (in_is_among (map enter_node plan.enter) one.node.0 (in_mapped enter_node plan.enter one there))

  -- what is built is that of a node that stays, or of one that enters
  pub seat_comes : (seat : Seated) → Contains change.seats seat
      → ((entry : OldEntry) × Contains stays entry × (seated_old change.changes entry ≡ seat))
      ⊎ ((one : Enter) × Contains plan.enter one × (seated_entering change.changes one ≡ seat))
  seat_comes seat there = elim (Contains-append_cases (map (seated_old change.changes) stays) (map (seated_entering change.changes) plan.enter) seat there) [
    | inl old_one ↦ inl (mapped_is_in (seated_old change.changes) stays seat old_one)
    | inr new_one ↦ inr (mapped_is_in (seated_entering change.changes) plan.enter seat new_one)
  ]

  old_node : (entry : OldEntry) → (seated_old change.changes entry).node ≡ entry.node.0
  old_node entry = planned_node change.changes (begun_old entry) (begun_old entry).kind

  entering_node : (one : Enter) → (seated_entering change.changes one).node ≡ one.node.0
  entering_node one = planned_node change.changes (begun_entering one) (begun_entering one).kind

  -- a node has the number with which it is built
  record IsNumberedSeat (seat : Seated) : Type 0 where
    i : ℕ
    given : numbers_with change grant.inodes seat.node ≡ Some i
    after_is : after seat.node ≡ Some i

  seat_numbered : (seat : Seated) → Contains change.seats seat → IsNumberedSeat seat
  seat_numbered seat there = elim (seat_comes seat there) [
    | inl (entry, stay, same) ↦
        let node : seat.node ≡ entry.node.0 = ap (λ (s : Seated). s.node) (sym same) ∙ old_node entry in
        let number = stays_after entry stay in
        record { i = entry.old.number; given = ap (numbers_with change grant.inodes) node ∙ those.stays entry stay ∙ number; after_is = ap after node ∙ number }
    | inr (one, enter, same) ↦
        let node : seat.node ≡ one.node.0 = ap (λ (s : Seated). s.node) (sym same) ∙ entering_node one in
        let number = enters_after one enter in
        record { i = number.0; given = ap (numbers_with change grant.inodes) node ∙ those.enters one enter ∙ number.1; after_is = ap after node ∙ number.1 }
  ]

  -- what is built at a place has its node's number
  pub number_at : (m : ℕ) (seat : Seated) → slice_get change.seats m ≡ Some seat
      → (i : ℕ) × (slice_get (inodes_built change grant) m ≡ Some i) × (after seat.node ≡ Some i)
  number_at m seat at =
      let own = seat_numbered seat (there_is_in change.seats m seat at) in
      let ranked = nodes_are_built_by_rank change grant m seat at in (
        own.i,
        slice_get-map (λ (one : Built). one.number) (nodes_with_grant change grant) m ∙ ap (option_map (λ (one : Built). one.number)) ranked.built
            ∙ ap (λ (o : Option ℕ). Some (unwrap_or o 0)) own.given,
        own.after_is,
      )

  -- and a number that is built is that of a node
  pub seat_at : (m i : ℕ) → slice_get (inodes_built change grant) m ≡ Some i
      → (seat : Seated) × (slice_get change.seats m ≡ Some seat) × (after seat.node ≡ Some i)
  seat_at m i there =
      let long =
      length-map (nodes_with_grant change grant) (λ (one : Built). one.number)
      ∙ length_built change.changes (numbers_with change grant.inodes) change.seats grant.blocks in
      let within = slice_get_within (inodes_built change grant) m i there in
      let found = some_there change.seats m (omega (arith, within, long)) in
      let number = number_at m found.0 found.1 in
      (found.0, found.1, number.2 ∙ sym number.1 ∙ there)

  -- each node that has a number afterwards and is concerned is built
  pub node_seated : (node i : ℕ) → after node ≡ Some i → is_among concerned node ≡ true
      → (m : ℕ) × (seat : Seated) × (slice_get change.seats m ≡ Some seat) × (seat.node ≡ node)
  node_seated node i has among = by (num node) refl
    where
      built : (seat : Seated) → Contains change.seats seat → seat.node ≡ node
          → (m : ℕ) × (seat : Seated) × (slice_get change.seats m ≡ Some seat) × (seat.node ≡ node)
      built seat there same = let at = in_is_there change.seats seat there in (at.0, seat, at.1, same)

      by : (o : Option ℕ) → num node ≡ o → (m : ℕ) × (seat : Seated) × (slice_get change.seats m ≡ Some seat) × (seat.node ≡ node)
      by (Some j) e =
          let entry = is.from.complete node j among e in
          let stays_there : node_leaves plan.leave node ≡ false = elim (cases_Bool (node_leaves plan.leave node)) [
            | inl t ↦ absurd (none_some (sym (ap (λ b. cond b None (Some j)) t) ∙ sym (after_had node j e) ∙ has))
            | inr f ↦ f
          ] in
          let kept = in_kept (λ e. not (leaves plan.leave e)) plan.old entry.0 entry.1 (ap not (ap (node_leaves plan.leave) entry.2 ∙ stays_there)) in
          built (seated_old change.changes entry.0)
          (Contains-append_left (map (seated_old change.changes) stays) (map (seated_entering change.changes) plan.enter) _
          (in_mapped (seated_old change.changes) stays entry.0 kept))
          (old_node entry.0 ∙ entry.2)
      by None e =
          let at = granted (map enter_node plan.enter) grant.inodes node i (sym (after_none node e) ∙ has) in
          let one = mapped_is_in enter_node plan.enter node (there_is_in (map enter_node plan.enter) at.place node at.enters_there) in
          built (seated_entering change.changes one.0)
          (Contains-append_right (map (seated_old change.changes) stays) (map (seated_entering change.changes) plan.enter) _
          (in_mapped (seated_entering change.changes) plan.enter one.0 one.1))
          (entering_node one.0 ∙ one.2)

  -- each node is built once
  pub nodes_once : StandOnce (seated_nodes change)
  nodes_once =
      subst StandOnce (sym nodes_are)
      (once_append (map entry_node stays) (map enter_node plan.enter) (ascending_once entry_node stays stays_ascend)
      (ascending_once enter_node plan.enter is.from.numbered.enter_ascend) apart)
    where
      stays_ascend : AscendBy entry_node stays
      stays_ascend = AllPairs-filter (λ first later. entry_node first < entry_node later) (λ e. not (leaves plan.leave e)) plan.old is.from.numbered.old_ascend

      olds_are : (entries : List OldEntry) → map (λ (s : Seated). s.node) (map (seated_old change.changes) entries) ≡ map entry_node entries
      olds_are [] = refl
      olds_are (entry ∷ entries) = λ i. old_node entry i ∷ olds_are entries i

      enters_are : (enter : List Enter) → map (λ (s : Seated). s.node) (map (seated_entering change.changes) enter) ≡ map enter_node enter
      enters_are [] = refl
      enters_are (one ∷ enter) = λ i. entering_node one i ∷ enters_are enter i

      nodes_are : seated_nodes change ≡ map entry_node stays ++ map enter_node plan.enter
      nodes_are =
          map-append (λ (s : Seated). s.node) (map (seated_old change.changes) stays) (map (seated_entering change.changes) plan.enter)
          ∙ (λ i. olds_are stays i ++ enters_are plan.enter i)

      apart : (i : ℕ) → Contains (map entry_node stays) i → Contains (map enter_node plan.enter) i → ⊥
      apart i one two =
          let entry = mapped_is_in entry_node stays i one in
          let enter = mapped_is_in enter_node plan.enter i two in
          let own = is.from.numbered.old_numbers entry.0 (kept_in (λ e. not (leaves plan.leave e)) plan.old entry.0 entry.1).0 in
          some_not_none (sym own ∙ ap num (entry.2 ∙ sym enter.2) ∙ is.from.numbered.enter_none enter.0 enter.1)

  -- and so is each number
  pub inodes_once : StandOnce (inodes_built change grant)
  inodes_once m l i at also =
      let one = seat_at m i at in
      let two = seat_at l i also in
      nodes_once m l one.0.node (node_there change m one.0 one.1) (node_there change l two.0 two.1 ∙ ap Some (after_once two.0.node one.0.node i two.2 one.2))
