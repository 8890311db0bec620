-- What the plan of an fsync builds of directories can stand in slots.
use Rattle.std.proofs.Common.{◌≡◌, ℕ, zero, suc, ◌+◌, ◌-◌, ◌*◌, ◌<◌, Bool, true, false, cond, not, List, [], ◌∷◌, length, map, drop, Option, Some, None, is_none, inl, inr, refl, sym, ap, subst, ◌∙◌, arith, nat_eq, Contains}
use Rattle.std.specs.Prelude.{◌⊎◌, ◌^◌, slice_index}
use Rattle.std.specs.List.{position, range_with_len, AllByRecursion}
use Rattle.std.specs.Option.{option_map_or, unwrap_or}
use Rattle.std.proofs.lemmas.Bool.{cond-true, cond-false, cases_Bool, eq-eqb, eqb-true}
use Rattle.std.proofs.lemmas.List.{get_or-take, get_or-drop}
use Rattle.std.proofs.lemmas.List.Elements.{All-contains, Contains-append_left, Contains-append_right, Contains-append_cases}
use Rattle.std.proofs.lemmas.List.FromFn.{get_or-range_with_len, length-range_with_len}
use Rattle.std.proofs.lemmas.Option.{slice_get_within, get_or_from_slice_get}
use Rattle.sfs_base.specs.Name.{name_fault}
use Rattle.sfs_base.specs.declared.name.NameFault.{NameFault}
use Rattle.sfs_base.specs.declared.name.NameFault.TheVariants.{Empty, TooLong, BadByte, Dot, NoMemory}
use Rattle.sfs_base.specs.declared.numbers.Kind.{Kind}
use Rattle.sfs_base.specs.declared.numbers.Kind.TheVariants.{File, Directory}
use Rattle.sfs_base.proofs.BasicOptions.{none_some, some_same}
use Rattle.sfs_base.proofs.BasicTruth.{true_not_false}
use Rattle.sfs_image.specs.Bytes.{part, nonzero_in, is_nonzero, fault_at}
use Rattle.sfs_image.specs.Part.{inode_in, is_directory_part, directory_blocks, seen_of}
use Rattle.sfs_image.specs.Seen.{SeenInodes}
use Rattle.sfs_image.specs.Slot.{Row, slot_of, slot_fault, row_fault, name_place, is_kind, kind_byte}
use Rattle.sfs_image.specs.SlotBlock.{AreSlots, slot_in, slots_of, slots_fault}
use Rattle.sfs_image.proofs.BytesLaws.{zeros_from_none, none_from_map, zeros-byte, option_or-None}
use Rattle.sfs_image.proofs.RuleFacts.{slots_say}
use Rattle.sfs_image.proofs.SlotBlockLaws.{slot_in-sound}
use Rattle.absorb.specs.declared.nets.NetRow.{NetRow}
use Rattle.image_laws.specs.Image.{inodes_shown}
use Rattle.image_laws.specs.Keeps.{MayStand, KeepsRules}
use Rattle.image_laws.proofs.Standing.{keeps as standing_keeps}
use Rattle.block_map.specs.Kept.{kept_of, kept_slots}
use Rattle.disk_nodes.specs.OldKept.{Kept}
use Rattle.space_map.specs.Space.{GrantedNumbers}
use Rattle.disk_change.specs.AllBuilt.{numbers_with, built_by, nodes_with_grant}
use Rattle.disk_change.specs.Built.{Built}
use Rattle.disk_change.specs.Directory.{is_among, slot_blocks_after}
use Rattle.keyed_list.specs.Ascending.{item_with}
use Rattle.disk_change.specs.Nodes.{enter_node, net_node}
use Rattle.disk_nodes.specs.Nodes.{entry_node}
use Rattle.disk_change.specs.Numbered.{block_numbered}
use Rattle.disk_change.specs.Planned.{Planned, staying, leaves, seated_old, seated_entering}
use Rattle.disk_change.specs.Seat.{blocks_to_last_row}
use Rattle.disk_change.specs.Seated.{CommitChanges, Begun, Seated, seated_as, begun_old, begun_entering, net_of_node}
use Rattle.disk_change.specs.declared.directory_net.DirectoryNet.{DirectoryNet}
use Rattle.disk_nodes.specs.declared.old.OldEntry.{OldEntry}
use Rattle.disk_change.proofs.NumbersGiven.{IsOwnOrGranted, planned_node, number_known, unnumbered}
use Rattle.commit_laws.specs.CommitOfPlan.{CommitPlan, change_planned, ServesPlan}
use Rattle.commit_laws.specs.KeptShown.{KeepsSeen}
use Rattle.commit_laws.specs.Ranked.{fresh_cut}
use Rattle.commit_laws.proofs.CommitMade.{some_there, length_built}
use Rattle.commit_laws.proofs.GoodParts.{good_part}
use Rattle.commit_laws.proofs.KeptShown.{kept_parts_show}
use Rattle.commit_laws.proofs.NumbersGiven.{kept_in}
use Rattle.commit_laws.proofs.OwnInodes.{mapped_is_in}
use Rattle.commit_laws.proofs.PartsMade.{in_flat}
use Rattle.commit_laws.proofs.Ranked.{nodes_are_built_by_rank}
use Rattle.commit_laws.proofs.SeatsOfPlan.{in_is_there, there_is_in, in_mapped, in_is_among, among_is_in}
use Rattle.commit_laws.proofs.Shown.{found_is_in}
use Rattle.raise_laws.specs.Next.{IsStorableAtCut}
use Rattle.raise_laws.proofs.Next.{cut_trees_are_storable}
use Rattle.flush_laws.specs.Volume.{Volume, tree_held}
use Rattle.flush_laws.specs.Ready.{IsBetweenCommits, KeepsEntries}
use Rattle.space_laws.proofs.Holders.{low_number}
use Rattle.space_laws.specs.Laws.{BringsNames, PlansFillSlots, GrantsServePlans}
use Rattle.space_laws.proofs.Asked.{enters_counted}
use Rattle.space_laws.proofs.Holders.{in_front}
use Rattle.space_laws.proofs.Served.{grants_serve}
use Rattle.space_laws.proofs.Slots.{SlotFits, BlockFits, slots_fit, after_fits, block_stands}

-- bytes of zeros have no row
no_row : (raw : List ℕ) → is_none (nonzero_in 0 264 raw) ≡ true → slot_of raw ≡ None
no_row raw empty = cond-true (nat_eq (slice_index raw 5) 0) None _ (eq-eqb (slice_index raw 5) 0 five)
  where
    none : position is_nonzero (part 0 264 raw) ≡ None
    none = none_from_map _ _ empty

    five : slice_index raw 5 ≡ 0
    five =
        sym (get_or-take 264 (drop 0 raw) 5 0 (omega arith) ∙ get_or-drop 0 raw 5 0)
        ∙ ap (λ those. slice_index those 5) (zeros_from_none (part 0 264 raw) none) ∙ zeros-byte (length (part 0 264 raw)) 5

-- a row in bytes without a fault has a name
row_named : (raw : List ℕ) (row : Row) → slot_fault raw ≡ None → slot_of raw ≡ Some row → name_fault row.name ≡ None
row_named raw row sound is = elim (cases_Bool (is_none (nonzero_in 0 264 raw))) [
  | inl empty ↦ absurd (none_some (sym (no_row raw empty) ∙ is))
  | inr some ↦ by (cases_Bool (nat_eq (slice_index raw 5) 0)) (sym (cond-false (is_none (nonzero_in 0 264 raw)) None (row_fault raw) some) ∙ sound)
]
  where
    name : List ℕ
    name = part 8 (slice_index raw 5) raw

    named : (fault : Option NameFault) → name_place fault ≡ None → fault ≡ None
    named None h = refl
    named (Some Empty) h = absurd (none_some (sym h))
    named (Some (TooLong len)) h = absurd (none_some (sym h))
    named (Some (BadByte at)) h = absurd (none_some (sym h))
    named (Some Dot) h = absurd (none_some (sym h))
    named (Some NoMemory) h = absurd (none_some (sym h))

    by : (nat_eq (slice_index raw 5) 0 ≡ true) ⊎ (nat_eq (slice_index raw 5) 0 ≡ false) → row_fault raw ≡ None → name_fault row.name ≡ None
    by (inl none) fault = absurd (none_some (sym (cond-true (nat_eq (slice_index raw 5) 0) None _ none) ∙ is))
    by (inr full) fault =
        let kinds = option_or-None (fault_at (not (is_kind (slice_index raw 4))) 4) _ fault in
        let lengths = option_or-None (fault_at (nat_eq (slice_index raw 5) 0) 5) _ kinds.1 in
        let gaps = option_or-None (nonzero_in 6 2 raw) _ lengths.1 in
        let names = option_or-None (name_place (name_fault name)) (nonzero_in (8 + slice_index raw 5) (256 - slice_index raw 5) raw) gaps.1 in
        let own : name ≡ row.name = ap (λ (r : Row). r.name) (some_same (sym (cond-false (nat_eq (slice_index raw 5) 0) None _ full) ∙ is)) in
        ap name_fault (sym own) ∙ named (name_fault name) names.0

-- so has each row of a block without a fault
rows_named : (block : List ℕ) (row : Row) → slots_fault block ≡ None → Contains (slots_of block) (Some row) → name_fault row.name ≡ None
unfolding slots_of
rows_named block row none there =
    let k = mapped_is_in (slot_in block) (range_with_len 0 15) (Some row) there in
    row_named (part (264 * k.0) 264 block) row (slot_in-sound block none k.0 (in_range k.0 k.1)) k.2
  where
    in_range : (k : ℕ) → Contains (range_with_len 0 15) k → k < 15
    in_range k (i, within, is) = let low = length-range_with_len 0 15 in let at = get_or-range_with_len 0 15 i k (omega (arith, within, low)) in
        omega (arith, is, at, within, low)

-- what holds of all slots holds of each
each_of : (image : SeenInodes) (slots : List (Option Row)) → AllByRecursion (MayStand image) slots → (slot : Option Row) → Contains slots slot
    → MayStand image slot
each_of image [] all slot (k, within, is) = absurd (omega arith)
each_of image (first ∷ slots) all slot (zero, within, is) = subst (MayStand image) is all.0
each_of image (first ∷ slots) all slot (suc k, within, is) = each_of image slots all.1 slot (k, omega arith, is)

-- a number that may be there has 32 bits
abbrev Low : Option ℕ → Type 0
Low o = unwrap_or o 0 < 2 ^ 32

-- an old number is the node's own, and one that enters has none
number_of_old : (changes : CommitChanges) (begun : Begun) (kind : Kind) → (seated_as kind changes begun).number ≡ begun.number
number_of_old changes begun File = refl
number_of_old changes begun Directory = refl

module _ (volume : Volume) (entries : List OldEntry) (plan : CommitPlan) (grant : GrantedNumbers)
    (ready : IsBetweenCommits volume) (keeps : KeepsEntries volume.num volume.parts entries)
    (owned : (entry : OldEntry) → Contains plan.old entry → Contains entries entry)
    (names : BringsNames plan.nets) (serves : ServesPlan (inodes_shown volume.layout volume.parts) plan grant) where
  abbrev image : SeenInodes
  image = inodes_shown volume.layout volume.parts

  abbrev change : Planned
  change = change_planned plan

  stored : IsStorableAtCut volume.num volume.first volume.history volume.cut
  stored = cut_trees_are_storable volume.first volume.history volume.flushes volume.cut volume.inodes volume.num ready.history_is ready.flushed ready.numbers

  rules : KeepsRules image
  rules = standing_keeps volume.num (tree_held volume) image stored.sound ready.stands stored.storable

  -- the blocks that an entry has fit any net
  old_fits : (net : List NetRow) (entry : OldEntry) → Contains entries entry → (block : List (Option Row)) → Contains entry.old.kept.slots block
      → BlockFits net block
  old_fits net entry there block in_slots =
      by (is_directory_part (volume.parts entry.old.number)) refl (subst (λ (k : Kept). Contains k.slots block) kept_is in_slots)
    where
      kept_is : entry.old.kept ≡ kept_of (volume.parts entry.old.number)
      kept_is = (keeps.each entry there).1

      by : (b : Bool) → is_directory_part (volume.parts entry.old.number) ≡ b → Contains
          (cond b (map slots_of (directory_blocks (volume.parts entry.old.number))) []) block
          → BlockFits net block
      by false e (k, within, is) = absurd (omega arith)
      by true e has = record { count = shows.blocks block has_kept; slots = slots_fit net block each }
        where
          shows : KeepsSeen (kept_of (volume.parts entry.old.number)) (seen_of (volume.parts entry.old.number))
          shows = kept_parts_show volume.store (volume.parts entry.old.number) (ready.sound.gathered entry.old.number (low_number volume entries ready keeps entry there))

          has_kept : Contains (kept_slots (volume.parts entry.old.number)) block
          has_kept = subst (λ (k : Kept). Contains k.slots block) kept_is in_slots

          raw : (raw : List ℕ) × Contains (directory_blocks (volume.parts entry.old.number)) raw × (slots_of raw ≡ block)
          raw = mapped_is_in slots_of (directory_blocks (volume.parts entry.old.number)) block has

          sound : slots_fault raw.0 ≡ None
          sound =
              All-contains (λ b. slots_fault b ≡ None) (directory_blocks (volume.parts entry.old.number)) raw.0
              ((slots_say (volume.parts entry.old.number)).0 (good_part volume.layout volume.parts ready.sound.good entry.old.number
              (low_number volume entries ready keeps entry there)).slots e) raw.1

          each : (slot : Option Row) → Contains block slot → SlotFits net slot
          each None in_block = tt
          each (Some row) in_block =
              let in_seen : Contains (seen_of (volume.parts entry.old.number)).slots (Some row) =
              subst (λ those. Contains those (Some row)) shows.slots
              (in_flat (λ (b : List (Option Row)). b) (kept_slots (volume.parts entry.old.number)) block (Some row) has_kept in_block) in
              let may =
              each_of image (image.seen entry.old.number).slots
              (rules.children entry.old.number (low_number volume entries ready keeps entry there, eqb-true (inode_in (volume.parts entry.old.number)).kind (kind_byte Directory) e))
              (Some row) in_seen in
              record {
                name = rows_named raw.0 row sound (subst (λ those. Contains those (Some row)) (sym raw.2) in_block);
                inode = λ _. let within = may.within in let few = ready.sound.ranges.inodes_high in omega (arith, within, few);
              }

  -- the rows of each net have names
  good_names : (node : ℕ) (row : NetRow) → Contains (net_of_node plan.nets node) row → name_fault row.name ≡ None
  good_names node row there = by (item_with net_node node plan.nets) refl there
    where
      by : (o : Option DirectoryNet) → item_with net_node node plan.nets ≡ o → Contains (option_map_or (λ (one : DirectoryNet). one.net.items) o []) row
          → name_fault row.name ≡ None
      by None e (k, within, is) = absurd (omega arith)
      by (Some one) e has = names one (found_is_in (λ item. nat_eq (net_node item) node) plan.nets one e) row has

  -- the blocks of a node that is seated, before its children have numbers
  seated_fits : (begun : Begun) (kind : Kind) → ((block : List (Option Row)) → Contains begun.slots block → BlockFits (net_of_node plan.nets begun.node)
      block)
      → (block : List (Option Row)) → Contains (seated_as kind change.changes begun).slots block → BlockFits (net_of_node plan.nets begun.node) block
  seated_fits begun File each block (k, within, is) = absurd (omega arith)
  seated_fits begun Directory each block there =
      let net : List NetRow = net_of_node plan.nets begun.node in
      let blocks : List (List (Option Row)) = slot_blocks_after change.changes.directories net begun.slots in
      after_fits change.changes.directories net (good_names begun.node) begun.slots each block (in_front (blocks_to_last_row blocks) blocks block there)

  -- A seat, with what it begins with.
  record IsBegun (seat : Seated) : Type 0 where
    begun : Begun
    same : seated_as begun.kind change.changes begun ≡ seat
    slots : (block : List (Option Row)) → Contains begun.slots block → BlockFits (net_of_node plan.nets begun.node) block
    low : Low begun.number

  seat_begun : (seat : Seated) → Contains change.seats seat → IsBegun seat
  seat_begun seat there =
      elim (Contains-append_cases (map (seated_old change.changes) (staying plan.old plan.leave))
      (map (seated_entering change.changes) plan.enter) seat there) [
        | inl stays ↦
            let entry = mapped_is_in (seated_old change.changes) (staying plan.old plan.leave) seat stays in
            let in_entries = owned entry.0 (kept_in (λ e. not (leaves plan.leave e)) plan.old entry.0 entry.1).0 in
            record {
              begun = begun_old entry.0;
              same = entry.2;
              slots = old_fits (net_of_node plan.nets entry.0.node.0) entry.0 in_entries;
              low = let within = low_number volume entries ready keeps entry.0 in_entries in let few = ready.sound.ranges.inodes_high in omega (arith, within, few);
            }
        | inr enters ↦
            let one = mapped_is_in (seated_entering change.changes) plan.enter seat enters in
            record { begun = begun_entering one.0; same = one.2; slots = λ block has. absurd (let within = has.1 in omega arith); low = omega arith }
      ]

  -- each number that the commit gives has 32 bits: it is an old one, or one of the grant
  known_low : (n : ℕ) → IsOwnOrGranted change.seats grant.inodes n → n < 2 ^ 32
  known_low n (inl (seat, there, own)) = subst Low own (number_is seat (seat_begun seat there))
    where
      number_is : (seat : Seated) → IsBegun seat → Low seat.number
      number_is seat is = subst Low (sym (number_of_old change.changes is.begun is.begun.kind) ∙ ap (λ (s : Seated). s.number) is.same) is.low
  known_low n (inr there) =
      let at = in_is_there grant.inodes n there in
      let within = slice_get_within grant.inodes at.0 n at.1 in
      let low = serves.inodes.within at.0 within in
      let is : slice_index grant.inodes at.0 ≡ n = get_or_from_slice_get grant.inodes at.0 n 0 at.1 in
      let few = ready.sound.ranges.inodes_high in
      omega (arith, low, is, few)

  seated_low : (node : ℕ) (seat : Seated) → Contains change.seats seat → seat.node ≡ node → Low (numbers_with change grant.inodes node)
  seated_low node seat there same =
      let enough = enters_counted plan ∙ sym serves.inodes.enough in
      let number = number_known (λ n. n < 2 ^ 32) node change.seats grant.inodes (omega (arith, enough)) known_low None (inr (seat, there, same)) in
      subst Low (sym number.1) number.2

  numbers_are_low : (node : ℕ) → Low (numbers_with change grant.inodes node)
  numbers_are_low node = elim (cases_Bool (is_among (map entry_node (staying plan.old plan.leave)) node)) [
    | inl old_one ↦
        let entry = mapped_is_in entry_node (staying plan.old plan.leave) node (among_is_in (map entry_node (staying plan.old plan.leave)) node old_one) in
        seated_low node (seated_old change.changes entry.0)
        (Contains-append_left (map (seated_old change.changes) (staying plan.old plan.leave)) (map (seated_entering change.changes) plan.enter) _
        (in_mapped (seated_old change.changes) (staying plan.old plan.leave) entry.0 entry.1))
        (planned_node change.changes (begun_old entry.0) (begun_old entry.0).kind ∙ entry.2)
    | inr no_old ↦ elim (cases_Bool (is_among (map enter_node plan.enter) node)) [
      | inl new_one ↦
          let one = mapped_is_in enter_node plan.enter node (among_is_in (map enter_node plan.enter) node new_one) in
          seated_low node (seated_entering change.changes one.0)
          (Contains-append_right (map (seated_old change.changes) (staying plan.old plan.leave)) (map (seated_entering change.changes) plan.enter) _
          (in_mapped (seated_entering change.changes) plan.enter one.0 one.1))
          (planned_node change.changes (begun_entering one.0) (begun_entering one.0).kind ∙ one.2)
      | inr no_new ↦ subst Low (sym (unnumbered change.changes (staying plan.old plan.leave) plan.enter grant.inodes node
          (λ entry there same. true_not_false
          (sym
          (in_is_among (map entry_node (staying plan.old plan.leave)) node
          (subst (λ n. Contains (map entry_node (staying plan.old plan.leave)) n) same
          (in_mapped entry_node (staying plan.old plan.leave) entry there)))
          ∙ no_old))
          (λ one there same. true_not_false
          (sym
          (in_is_among (map enter_node plan.enter) node
          (subst (λ n. Contains (map enter_node plan.enter) n) same (in_mapped enter_node plan.enter one there)))
          ∙ no_new))))
          (omega arith)
    ]
  ]

  -- so each block of what is built can stand in slots
  pub filled : (one : Built) → Contains (nodes_with_grant change grant) one → (block : List (Option Row)) → Contains one.slots block → AreSlots block
  filled one there block in_slots =
      let at = in_is_there (nodes_with_grant change grant) one there in
      let within = slice_get_within (nodes_with_grant change grant) at.0 one at.1 in
      let seat =
      some_there change.seats at.0 (omega (arith, within, length_built change.changes (numbers_with change grant.inodes) change.seats grant.blocks)) in
      by seat.0 (seat_begun seat.0 (there_is_in change.seats at.0 seat.0 seat.1)) (fresh_cut change.seats grant.blocks at.0 seat.0)
      (some_same (sym at.1 ∙ (nodes_are_built_by_rank change grant at.0 seat.0 seat.1).built))
    where
      by : (seat : Seated) → IsBegun seat → (fresh : List ℕ) → one ≡ built_by change.changes (numbers_with change grant.inodes) fresh seat → AreSlots block
      by seat is fresh made =
          let node : seat.node ≡ is.begun.node = ap (λ (s : Seated). s.node) (sym is.same) ∙ planned_node change.changes is.begun is.begun.kind in
          let before =
          mapped_is_in (block_numbered (numbers_with change grant.inodes) (net_of_node plan.nets seat.node)) seat.slots block
          (subst (λ (b : Built). Contains b.slots block) made in_slots) in
          let fits = seated_fits is.begun is.begun.kind is.slots before.0 (subst (λ (s : Seated). Contains s.slots before.0) (sym is.same) before.1) in
          subst AreSlots before.2
          (block_stands (net_of_node plan.nets seat.node) (numbers_with change grant.inodes) numbers_are_low before.0
          (subst (λ n. BlockFits (net_of_node plan.nets n) before.0) (sym node) fits))

pub plans_fill_slots : PlansFillSlots
plans_fill_slots volume fsync ready keeps plans names serves =
    filled volume fsync.entries fsync.plan fsync.grant ready keeps (λ entry there. (plans.old.own entry there).0) names serves

pub grants_serve_plans : GrantsServePlans
grants_serve_plans volume fsync old new ready keeps plans names mapped granted =
    let serves = grants_serve volume fsync.entries fsync.plan old new fsync.grant ready keeps mapped granted in
    record {
      serves = serves.serves;
      lies = serves.lies;
      slots =
          plans_fill_slots volume fsync ready keeps plans names
          serves.serves;
    }
