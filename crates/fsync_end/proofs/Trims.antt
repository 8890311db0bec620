-- A log that a core holds, trims, tells of and lets go.
use Rattle.std.proofs.Common.{◌≡◌, ◌<◌, ◌+◌, ◌∷◌, ◌++◌, ◌∙◌, ℕ, List, [], length, reverse, map, filter_map, Option, Some, IsSome, option_map, inl, inr, refl, sym, ap, subst, arith, length-append}
use mathlib.Core.List.{IsPrefix}
use Rattle.sfs_base.specs.declared.numbers.CoreId.{CoreId}
use Rattle.sfs_base.proofs.BasicOptions.{some_same}
use Rattle.tree_laws.specs.Tree.{TreeState}
use Rattle.disk_nodes.specs.OldKept.{OldKept}
use Rattle.cut_laws.specs.Rules.{IsOneOf}
use Rattle.stamp_table.specs.declared.event.Event.{Event}
use Rattle.stamp_table.specs.declared.view.View.{View}
use Rattle.stamp_table.specs.declared.held.HeldCell.{HeldCell}
use Rattle.stamp_table.specs.Rule.{Has, is_by, entries_by}
use Rattle.stamp_table.specs.Events.{event_core, told_by, IsLawful}
use Rattle.stamp_table.specs.Hand.{places_of}
use Rattle.stamp_table.specs.Ascending.{LiesAbove, Falls}
use Rattle.stamp_table.specs.Table.{HoldsMore, TellsFact, MayTell, LetsGo, Stands, EachFrom, with_value, left_below}
use Rattle.stamp_table.proofs.Hands.{above_all, places_snoc}
use Rattle.mem_values.specs.Start.{FileHand, FileState}
use Rattle.mem_values.specs.declared.cell.Cell.{Cell}
use Rattle.mem_values.specs.declared.cell.Cell.TheVariants as cell
use Rattle.mem_values.specs.declared.cell.PartCell.{PartCell}
use Rattle.mem_values.specs.declared.cell_id.CellId.{CellId}
use Rattle.mem_values.specs.declared.cell_id.CellId.TheVariants as id
use Rattle.mem_values.specs.declared.fact.Fact.{Fact}
use Rattle.mem_values.specs.declared.fact.Fact.TheVariants.{Trimmed}
use Rattle.mem_values.specs.Places.{node_count, cell_place, IsCell}
use Rattle.mem_values.specs.Account.{Commitment, commit_told, account_of}
use Rattle.mem_values.specs.Facts.{IsLawfulLog}
use Rattle.mem_values.specs.Stands.{StandsAt, StandsPart, StandsForCell}
use Rattle.mem_values.proofs.Places.{places_apart}
use Rattle.mem_values.proofs.Home.{told_parts_stand}
use Rattle.mem_values.proofs.Telling.{trims_may_be_told}
use Rattle.mem_values.proofs.Told.{one_of_some}
use Rattle.mem_calls.specs.Table.{IsFileTable}
use Rattle.mem_calls.specs.Held.{as_part, part_held, value_held}
use Rattle.mem_calls.specs.Changes.{PutsValue}
use Rattle.mem_calls.proofs.Cells.{has_reverse, last_at}
use Rattle.fsync_end.specs.Trimming.{IsFlushing, HasTold, AreTrimmedOrBlank, trim_event, TrimsPart}
use Rattle.fsync_end.proofs.Logs.{all_stay, all_trimmed}
use Rattle.fsync_look.proofs.Cells.{AllBelow, none_there, with_last, of_last, left_last}

-- A core holds a log to trim it for its commit.
pub record LogTrim : Type 0 where
  pub given : ℕ → Option OldKept
  pub t : FileState
  pub nodes : ℕ
  pub part : CoreId
  pub number : ℕ
  pub stamp : ℕ
  pub members : List ℕ
  pub before : FileHand
  pub holding : FileHand

abbrev pub log_place : LogTrim → ℕ
log_place s = cell_place s.nodes (id.Part s.part)

pub record MayTrim (s : LogTrim) : Type 0 where
  pub table : IsFileTable s.t s.nodes
  pub at : IsFlushing s.t s.before
  pub within : s.part.0 < length s.t.first.made
  pub above : LiesAbove (log_place s) s.before.view.held
  pub told : HasTold s.before.view.mine s.before.view.core s.number s.stamp s.members
  pub holds : HoldsMore (IsLawfulLog s.given) (StandsAt s.given) (log_place s) s.before s.holding

-- a value that stands for a log is one
there_part : (given : ℕ → Option OldKept) (first : TreeState) (log : List (Event Fact)) (core : CoreId) (value : Cell)
    → StandsForCell given first (account_of log) (id.Part core) value
    → (p : PartCell) × (as_part value ≡ Some p) × StandsPart first (account_of log) core.0 p
there_part given first log core (cell.Part part) stood = (part.value, refl, stood)
there_part given first log core (cell.Bucket bucket) stood = absurd stood
there_part given first log core (cell.Lock lock) stood = absurd stood
there_part given first log core (cell.Pending pending) stood = absurd stood
there_part given first log core (cell.File file) stood = absurd stood

-- and so is what stands for one whose value is a log
stands_by : (given : ℕ → Option OldKept) (first : TreeState) (log : List (Event Fact)) (core : CoreId) (value : Cell) (p : PartCell) → as_part value ≡ Some p
    → StandsPart first (account_of log) core.0 p → StandsForCell given first (account_of log) (id.Part core) value
stands_by given first log core (cell.Part part) p is stands = subst (StandsPart first (account_of log) core.0) (sym (some_same is)) stands
stands_by given first log core (cell.Bucket bucket) p is stands = absurd (cc (is))
stands_by given first log core (cell.Lock lock) p is stands = absurd (cc (is))
stands_by given first log core (cell.Pending pending) p is stands = absurd (cc (is))
stands_by given first log core (cell.File file) p is stands = absurd (cc (is))

module _ (s : LogTrim) (may : MayTrim s) where
  abbrev first : TreeState
  first = s.before.view.first

  abbrev place : ℕ
  place = log_place s

  abbrev old : Cell
  old = may.holds.value.0

  first_same : s.holding.view.first ≡ first
  first_same = ap (λ (v : View TreeState (Event Fact)). v.first) may.holds.saw.frame

  core_same : s.holding.view.core ≡ s.before.view.core
  core_same = ap (λ (v : View TreeState (Event Fact)). v.core) may.holds.saw.frame

  mine_same : s.holding.view.mine ≡ s.before.view.mine
  mine_same = ap (λ (v : View TreeState (Event Fact)). v.mine) may.holds.saw.frame

  -- the number of nodes is that of the first tree
  counted : s.nodes ≡ node_count first
  counted = may.table.counted ∙ ap node_count (sym may.at.first)

  to_first : (which : CellId) → IsCell (node_count first) (length first.made) which → IsCell s.nodes (length s.t.first.made) which
  to_first which is = subst (λ (f : TreeState). IsCell s.nodes (length f.made) which) may.at.first
      (subst (λ n. IsCell n (length first.made) which) (sym counted) is)

  from_first : (which : CellId) → IsCell s.nodes (length s.t.first.made) which → IsCell (node_count first) (length first.made) which
  from_first which is = subst (λ (f : TreeState). IsCell (node_count first) (length f.made) which) (sym may.at.first)
      (subst (λ n. IsCell n (length s.t.first.made) which) counted is)

  -- what is held below
  pub all_below : AllBelow place s.before.held
  all_below other has = above_all place other s.before.view.held may.above may.at.falls
      (subst (λ l. Has l other) (sym may.at.places) (has_reverse (places_of s.before.held) other has))

  pub below : Has (places_of s.before.held) place → ⊥
  below = none_there place s.before.held all_below

  stood : StandsForCell s.given first (account_of s.holding.view.seen) (id.Part s.part) old
  stood = may.holds.value.2 (id.Part s.part) (from_first (id.Part s.part) may.within) (ap (λ n. cell_place n (id.Part s.part)) (sym counted))

  -- the log that it is
  pub log_there : (p : PartCell) × (as_part old ≡ Some p) × StandsPart first (account_of s.holding.view.seen) s.part.0 p
  log_there = there_part s.given first s.holding.view.seen s.part old stood

  pub log_held : part_held s.nodes s.holding.held s.part.0 ≡ Some log_there.0
  log_held =
      ap (λ (l : List (HeldCell Cell)). part_held s.nodes l s.part.0) may.holds.value.1
      ∙ (ap (λ o. Rattle.std.specs.Option.option_and_then as_part (option_map (λ (h : HeldCell Cell). h.value) o)) (last_at place s.before.held old below)
      ∙ log_there.1)

  pub log_some : IsSome (part_held s.nodes s.holding.held s.part.0)
  log_some = subst IsSome (sym log_held) refl

  -- another value in its cell
  pub put_once : (value : Cell) (after : FileHand) → PutsValue s.nodes (id.Part s.part) value s.holding after
      → after.held ≡ s.before.held ++ record { place = place; value = value } ∷ []
  put_once value after puts =
      ap (λ (h : FileHand). h.held) puts
      ∙ (ap (with_value place value) may.holds.value.1 ∙ with_last place old value s.before.held below)

  pub value_some : (value : Cell) (after : FileHand) → PutsValue s.nodes (id.Part s.part) value s.holding after
      → IsSome (value_held s.nodes after.held (id.Part s.part))
  value_some value after puts = subst IsSome
      (sym
      (ap (λ (l : List (HeldCell Cell)). value_held s.nodes l (id.Part s.part)) (put_once value after puts)
      ∙ ap (option_map (λ (h : HeldCell Cell). h.value)) (last_at place s.before.held value below)))
      refl

  -- and one more, behind another one
  pub put_twice : (hollow value : Cell) (taken put : FileHand) → PutsValue s.nodes (id.Part s.part) hollow s.holding taken
      → PutsValue s.nodes (id.Part s.part) value taken put
      → put ≡ record s.holding { held = s.before.held ++ record { place = place; value = value } ∷ [] }
  put_twice hollow value taken put one two =
      two
      ∙ (λ i. record (one i) {
        held = (ap (with_value place value) (put_once hollow taken one) ∙ with_last place hollow value s.before.held below) i;
      })

  -- the commit is one of the log that the core sees
  commit_seen : IsOneOf (account_of s.holding.view.seen).commits may.told.commit
  commit_seen = one_of_some commit_told (is_by event_core s.before.view.core) s.holding.view.seen may.told.commit
      (subst (λ l. IsOneOf (filter_map commit_told l) may.told.commit) may.holds.saw.mine may.told.among)

  pub may_tell : (view : View TreeState (Event Fact)) → view ≡ s.holding.view
      → MayTell (IsLawfulLog s.given) (StandsAt s.given) view (Trimmed s.number s.part)
  may_tell view same = subst (λ v. MayTell (IsLawfulLog s.given) (StandsAt s.given) v (Trimmed s.number s.part)) (sym same)
      (trims_may_be_told s.given s.holding.view may.told.commit s.number s.part
      (subst (λ l. IsOneOf (filter_map commit_told l) may.told.commit) (sym mine_same) may.told.among)
      (may.told.own ∙ sym core_same) may.told.numbered
      (subst (λ (z : ℕ × List ℕ). Has z.1 z.0)
      (λ i. (ap (λ n. cell_place n (id.Part s.part)) (counted ∙ ap node_count (sym first_same)) i, sym may.holds.saw.held i)) (inl refl)))

  -- The log without what is below the stamp, back in its cell, and told of.
  module _ (value : Cell) (next : PartCell) (put told : FileHand) (is_next : as_part value ≡ Some next)
      (trims : AreTrimmedOrBlank log_there.0.log s.members s.stamp next.log) (made : next.made ≡ log_there.0.made)
      (put_is : put ≡ record s.holding { held = s.before.held ++ record { place = place; value = value } ∷ [] })
      (tells : TellsFact (IsLawfulLog s.given) (StandsAt s.given) (Trimmed s.number s.part) put told) where
    abbrev log : List (Event Fact)
    log = tells.told.0

    view_put : put.view ≡ s.holding.view
    view_put = ap (λ (h : FileHand). h.view) put_is

    drew_view : told.view ≡ record s.holding.view { seen = told.view.seen; mine = told.view.mine }
    drew_view =
        ap (λ (v : View TreeState (Event Fact)). record v { seen = told.view.seen; mine = told.view.mine }) tells.told.2.frame
        ∙ ap (λ (v : View TreeState (Event Fact)). record v { seen = told.view.seen; mine = told.view.mine }) view_put

    pub held_told : told.held ≡ s.before.held ++ record { place = place; value = value } ∷ []
    held_told = ap (λ (h : FileHand). h.held) tells.frame ∙ ap (λ (h : FileHand). h.held) put_is

    stood_next : StandsPart first (account_of s.holding.view.seen) s.part.0 next
    stood_next =
        all_stay s.given first s.holding.view.seen s.part.0 may.told.commit may.holds.saw.legal_seen.told commit_seen s.members log_there.0 next
        (λ directory among. subst (λ l. IsOneOf l directory) (sym may.told.members_are) among)
        (subst (λ n. AreTrimmedOrBlank log_there.0.log s.members n next.log) (sym may.told.stamped) trims) made log_there.2

    stands_holding : StandsAt s.given first s.holding.view.seen place value
    stands_holding which is_cell at =
        subst (λ w. StandsForCell s.given first (account_of s.holding.view.seen) w value)
        (places_apart s.nodes (length s.t.first.made) (id.Part s.part) which may.within (to_first which is_cell)
        (sym (ap (λ n. cell_place n which) counted ∙ at)))
        (stands_by s.given first s.holding.view.seen s.part value next is_next stood_next)

    has_place : Has put.view.held place
    has_place = subst (λ (v : View TreeState (Event Fact)). Has v.held place) (sym view_put) (subst (λ l. Has l place) (sym may.holds.saw.held) (inl refl))

    first_put : put.view.first ≡ first
    first_put = ap (λ (v : View TreeState (Event Fact)). v.first) view_put ∙ first_same

    stands_log : StandsAt s.given first log place value
    stands_log =
        subst (λ f. StandsAt s.given f log place value) first_put
        (tells.told.2.kept place (Some value) has_place
        (subst (λ (v : View TreeState (Event Fact)). StandsAt s.given v.first v.seen place value) (sym view_put)
        (subst (λ f. StandsAt s.given f s.holding.view.seen place value) (sym first_same) stands_holding)))

    part_at_log : StandsPart first (account_of log) s.part.0 next
    part_at_log =
        let there = there_part s.given first log s.part value
        (stands_log (id.Part s.part) (from_first (id.Part s.part) may.within) (ap (λ n. cell_place n (id.Part s.part)) (sym counted))) in
        subst (StandsPart first (account_of log) s.part.0) (some_same (sym there.1 ∙ is_next)) there.2

    seen_told : told.view.seen ≡ log ++ trim_event s.before.view.core s.number s.part.0 ∷ []
    seen_told = tells.told.2.entry_last
        ∙ ap (λ c. log ++ trim_event c s.number s.part.0 ∷ []) (ap (λ (v : View TreeState (Event Fact)). v.core) view_put ∙ core_same)

    core_told : told.view.core ≡ s.before.view.core
    core_told = ap (λ (v : View TreeState (Event Fact)). v.core) drew_view ∙ core_same

    first_told : told.view.first ≡ first
    first_told = ap (λ (v : View TreeState (Event Fact)). v.first) drew_view ∙ first_same

    lawful_told : IsLawful (IsLawfulLog s.given) told.view.first told.view.seen
    lawful_told = subst (λ f. IsLawful (IsLawfulLog s.given) f told.view.seen) (first_put ∙ sym first_told) tells.told.2.legal_seen

    lawful_log : IsLawfulLog s.given first log
    lawful_log = Rattle.fsync_end.proofs.Homewards.lawful_front s.given first log (trim_event s.before.view.core s.number s.part.0 ∷ [])
        (subst (λ (z : TreeState × List (Event Fact)). IsLawfulLog s.given z.0 z.1) (λ i. (first_told i, seen_told i)) lawful_told.told)

    saw_log : IsPrefix s.holding.view.seen log
    saw_log = subst (λ (v : View TreeState (Event Fact)). IsPrefix v.seen log) view_put tells.told.2.seen

    commit_log : IsOneOf (account_of log).commits may.told.commit
    commit_log = Rattle.fsync_end.proofs.Homewards.commits_stay s.holding.view.seen log may.told.commit saw_log commit_seen

    -- it goes home
    pub goes_home : EachFrom place (Stands (IsLawfulLog s.given) (StandsAt s.given) told.view) told.held
    goes_home = subst (EachFrom place (Stands (IsLawfulLog s.given) (StandsAt s.given) told.view)) (sym held_told)
        (of_last place (Stands (IsLawfulLog s.given) (StandsAt s.given) told.view) s.before.held (record { place = place; value = value }) all_below
        (λ which is_cell at.
        let is_first = subst (λ (f : TreeState). IsCell (node_count f) (length f.made) which) first_told is_cell in
        subst (λ w. StandsForCell s.given told.view.first (account_of told.view.seen) w value)
        (places_apart s.nodes (length s.t.first.made) (id.Part s.part) which may.within (to_first which is_first)
        (sym (ap (λ n. cell_place n which) (counted ∙ ap node_count (sym first_told)) ∙ at)))
        (subst (λ (z : TreeState × List (Event Fact)). StandsForCell s.given z.0 (account_of z.1) (id.Part s.part) value)
        (λ i. (sym first_told i, sym seen_told i))
        (stands_by s.given first (log ++ trim_event s.before.view.core s.number s.part.0 ∷ []) s.part value next is_next
        (subst (λ n. StandsPart first (account_of (log ++ trim_event s.before.view.core n s.part.0 ∷ [])) s.part.0 next) may.told.numbered
        (told_parts_stand s.given first log may.told.commit (record { 0 = s.before.view.core }) s.part next lawful_log commit_log may.told.own part_at_log
        (λ directory among.
        subst (λ n. Rattle.mem_values.specs.Stands.KeepFrom n (Rattle.mem_cells.specs.Part.changes_kept next.log directory)) (sym may.told.stamped)
        (all_trimmed s.members log_there.0.log next.log s.stamp directory trims
        (subst (λ l. IsOneOf l directory) may.told.members_are among)))))))))

    -- and the core is as before, but for what it has seen and told
    module _ (after : FileHand) (lets : LetsGo told after) (left : after.held ≡ left_below place told.held)
        (places : after.view.held ≡ reverse (places_of after.held)) where
      held_after : after.held ≡ s.before.held
      held_after = left ∙ (ap (left_below place) held_told ∙ left_last place value s.before.held all_below)

      view_held : after.view.held ≡ s.before.view.held
      view_held = places ∙ (ap (λ (l : List (HeldCell Cell)). reverse (places_of l)) held_after ∙ sym may.at.places)

      seen_after : after.view.seen ≡ told.view.seen
      seen_after = ap (λ (v : View TreeState (Event Fact)). v.seen) lets.view

      mine_after : after.view.mine ≡ told.view.mine
      mine_after = ap (λ (v : View TreeState (Event Fact)). v.mine) lets.view

      view_after : record after.view { seen = s.before.view.seen; mine = s.before.view.mine } ≡ s.before.view
      view_after =
          (λ i. record (lets.view i) {
            seen = s.before.view.seen;
            mine = s.before.view.mine;
            held = view_held i;
          })
          ∙ ((λ i. record (drew_view i) { seen = s.before.view.seen; mine = s.before.view.mine; held = s.before.view.held })
          ∙ (λ i. record (may.holds.saw.frame i) { seen = s.before.view.seen; mine = s.before.view.mine; held = s.before.view.held }))

      room_after : after.room ≡ s.before.room
      room_after =
          let one = may.holds.room in
          let held = ap length held_told ∙ length-append s.before.held (record { place = place; value = value } ∷ []) in
          let same = ap (λ (h : FileHand). h.room) tells.frame ∙ ap (λ (h : FileHand). h.room) put_is in
          let room = lets.room in
          let back = ap length held_after in
          omega (arith, one, held, same, room, back)

      frame_after : record after { view = s.before.view } ≡ s.before
      frame_after =
          (λ i. record (lets.frame i) { view = s.before.view; held = held_after i; room = room_after i })
          ∙ ((λ i. record (tells.frame i) { view = s.before.view; held = s.before.held; room = s.before.room })
          ∙ ((λ i. record (put_is i) { view = s.before.view; held = s.before.held; room = s.before.room })
          ∙ (λ i. record (may.holds.frame i) { view = s.before.view; held = s.before.held; room = s.before.room })))

      pub flushes : IsFlushing s.t after
      flushes = record {
        table = ap (λ (h : FileHand). h.table) frame_after ∙ may.at.table;
        first = ap (λ (v : View TreeState (Event Fact)). v.first) view_after ∙ may.at.first;
        core = subst (λ n. n < length s.t.first.made) (sym (ap (λ (v : View TreeState (Event Fact)). v.core) view_after)) may.at.core;
        places = places;
        falls = subst Falls (sym view_held) may.at.falls;
      }

      pub trims_part : TrimsPart s.given s.number s.part.0 s.before after
      trims_part = record {
        frame = frame_after;
        view = view_after;
        log = log;
        seen = (
          may.holds.saw.seen.0 ++ saw_log.0,
          sym (Rattle.std.proofs.Common.append_assoc s.before.view.seen may.holds.saw.seen.0 saw_log.0)
              ∙ (ap (λ l. l ++ saw_log.0) may.holds.saw.seen.1 ∙ saw_log.1),
        );
        last = seen_after ∙ seen_told;
        mine = mine_after
            ∙ (tells.told.2.mine
            ∙ (λ i. (ap (λ (v : View TreeState (Event Fact)). v.mine) view_put ∙ mine_same) i
            ++ trim_event ((ap (λ (v : View TreeState (Event Fact)). v.core) view_put ∙ core_same) i) s.number s.part.0 ∷ []));
        lawful = subst (λ (v : View TreeState (Event Fact)). IsLawful (IsLawfulLog s.given) v.first v.seen)
            (λ i. record told.view { first = sym (ap (λ (v : View TreeState (Event Fact)). v.first) lets.view) i; seen = sym seen_after i }) lawful_told;
        own = mine_after
            ∙ (tells.told.2.own
            ∙ (λ i. entries_by event_core ((ap (λ (v : View TreeState (Event Fact)). v.core) view_put ∙ (core_same
            ∙ sym (ap (λ (v : View TreeState (Event Fact)). v.core) view_after))) i) (sym seen_after i)));
      }
