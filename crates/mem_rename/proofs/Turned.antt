-- A core that moves a child: its room, its stamp and its end.
use Rattle.std.proofs.Common.{◌≡◌, ℕ, ◌^◌, ◌<◌, ◌≤◌, Bool, true, false, List, length, Option, Some, None, IsSome, inl, refl, sym, ap, subst, ◌∙◌, arith}
use Rattle.std.specs.Prelude.{is_some, MatchOption}
use Rattle.std.specs.Option.{option_and_then}
use Rattle.sfs_base.specs.Name.{bucket as name_bucket}
use Rattle.sfs_base.specs.declared.numbers.NodeId.{NodeId}
use Rattle.disk_nodes.specs.OldKept.{OldKept}
use Rattle.tree_laws.specs.Tree.{TreeState}
use Rattle.tree_laws.specs.declared.reply.Reply.{Reply}
use Rattle.tree_laws.specs.declared.reply.Reply.TheVariants as reply
use Rattle.tree_laws.specs.Effect.{Moves}
use Rattle.tree_laws.specs.Verdict.{Verdict, done}
use Rattle.tree_laws.proofs.Joined.{bucket_small}
use Rattle.stamp_table.specs.declared.event.Event.{Event}
use Rattle.stamp_table.specs.declared.view.View.{View}
use Rattle.stamp_table.specs.Hand.{places_of}
use Rattle.stamp_table.specs.Table.{MayCall, Stamps}
use Rattle.stamp_table.proofs.Replacing.{same_places}
use Rattle.stamp_table.specs.Events.{calls_in}
use Rattle.mem_values.specs.Start.{FileHand, FileState}
use Rattle.mem_values.specs.declared.cell.PartCell.{PartCell}
use Rattle.mem_values.specs.declared.cell_id.CellId.TheVariants as id
use Rattle.mem_values.specs.declared.fact.Fact.{Fact}
use Rattle.mem_values.specs.Places.{cell_place}
use Rattle.mem_values.specs.Account.{account_of}
use Rattle.mem_values.specs.Stands.{StandsAt, StandsPart}
use Rattle.mem_values.specs.Facts.{IsLawfulLog}
use Rattle.mem_values.proofs.Basics.{some_of}
use Rattle.mem_calls.specs.Table.{IsFileTable}
use Rattle.mem_calls.specs.Held.{value_held, as_part, bucket_held, file_held, part_held}
use Rattle.mem_calls.specs.Parts.{HasRoomFor, MayTake}
use Rattle.mem_calls.proofs.Edited.{stamps_back}
use Rattle.mem_calls.proofs.Nothing.{some_first}
use Rattle.mem_calls.proofs.PartKept.{same_part_stands}
use Rattle.mem_calls.proofs.Taken.{value_with}
use Rattle.mem_calls.proofs.Unlinked.{apart_value}
use Rattle.mem_calls.proofs.Finished as finished
use Rattle.mem_calls.proofs.Stamped as stamped
use Rattle.mem_rename.specs.declared.sides.Move.{Move}
use Rattle.mem_rename.specs.declared.plans.Plan.{Plan}
use Rattle.mem_rename.specs.declared.shifts.Shift.{Shift}
use Rattle.mem_rename.specs.declared.shifts.Noted.{Noted}
use Rattle.mem_rename.specs.Sights.{rename_call, rename_by}
use Rattle.mem_rename.specs.Shifts.{shift_logged}
use Rattle.mem_rename.specs.Ready.{sight_of, AreSidesWithin, HoldsRename}
use Rattle.mem_rename.specs.Rounds.{IsPlanWithin}
use Rattle.mem_rename.specs.Moving.{with_row, less_one, same_file, at_bucket, at_file, bucket_moved, KeepsPart, CanChange, IsPrepared, ChangesHeld, SetsLock}
use Rattle.mem_rename.proofs.Answering as answering
use Rattle.mem_rename.proofs.Readies.{held_bucket, held_file, comes_asked, directory_asked, file_asked}
use Rattle.mem_rename.proofs.Kept.{bucket_in}
use Rattle.mem_rename.proofs.Changeable.{still_can}
use Rattle.mem_rename.proofs.HeldChanges.{both_held, bucket_step}
use Rattle.mem_rename.proofs.Readied.{kept_value, kept_bucket, kept_file}
use Rattle.mem_rename.proofs.Room.{room_for_shift}

each_of : (o : Option NodeId) (P : NodeId → Type 0) → ((n : NodeId) → o ≡ Some n → P n) → MatchOption o Unit P
each_of None P each = tt
each_of (Some n) P each = each n refl

module _ (given : ℕ → Option OldKept) (t : FileState) (nodes : ℕ) (table : IsFileTable t nodes) (move : Move) (within : AreSidesWithin nodes move)
    (plan : Plan) (plan_within : IsPlanWithin nodes plan) (above : List ℕ) (before : FileHand)
    (ready : HoldsRename given t nodes move plan above before) (child : NodeId)
    (moves_is : rename_by (sight_of nodes before.held move plan above) move ≡ done
    (Moves move.directory.0 move.name move.to_directory.0 move.to_name child.0))
    (shift : Shift) (noted : Noted) (row_hand : FileHand) (prepared : IsPrepared nodes move shift before noted row_hand) where
  abbrev mid0 : FileHand
  mid0 = prepared.mid

  abbrev keeps : KeepsPart nodes before mid0
  keeps = prepared.room.keeps

  abbrev own : Rattle.mem_values.specs.declared.cell_id.CellId.CellId
  own = id.Part (record { 0 = before.view.core })

  pub row_step : ChangesHeld nodes
      (at_bucket move.to_directory (name_bucket move.to_name) (with_row shift.child_is_directory move.to_name shift.child.0)) same_file mid0 row_hand
  row_step = bucket_step nodes move.to_directory (name_bucket move.to_name)
      (with_row shift.child_is_directory move.to_name shift.child.0) mid0 row_hand within.new
      (bucket_small move.to_name) prepared.row

  bucket_there : (node : NodeId) (number : ℕ) → node.0 < nodes → number < 8
      → Rattle.cut_laws.specs.Rules.IsOneOf (Rattle.mem_rename.specs.Plans.asked_cells move plan) (id.Bucket node number)
      → IsSome (bucket_held nodes mid0.held node number)
  bucket_there node number lt small among =
      let b = held_bucket nodes before node number (ready.cells (id.Bucket node number) among) in
      subst IsSome (sym (kept_bucket nodes before mid0 keeps node number lt small)) (some_of (bucket_held nodes before.held node number) b.0 b.1)

  can_mid : CanChange nodes move plan mid0.held
  can_mid = record {
    old = bucket_there move.directory (name_bucket move.name) within.old (bucket_small move.name) (inl refl);
    comes = each_of plan.comes (λ node. (number : ℕ) → number < 8 → IsSome (bucket_held nodes mid0.held node number))
        (λ node is number small. bucket_there node number (plan_within.comes node is) small
        (comes_asked move plan node (id.Bucket node number) is (bucket_in node number small)));
    directory = each_of plan.directory (λ node. (number : ℕ) → number < 8 → IsSome (bucket_held nodes mid0.held node number))
        (λ node is number small. bucket_there node number (plan_within.directory node is) small
        (directory_asked move plan node (id.Bucket node number) is (bucket_in node number small)));
    file = each_of plan.file (λ node. IsSome (file_held nodes mid0.held node))
        (λ node is.
        let f = held_file nodes before node (ready.cells (id.File node) (file_asked move plan node (id.File node) is (inl refl))) in
        subst IsSome (sym (kept_file nodes before mid0 keeps node (plan_within.file node is))) (some_of (file_held nodes before.held node) f.0 f.1));
  }

  -- all that changes is held
  pub can_change : CanChange nodes move plan row_hand.held
  can_change = still_can nodes move plan within plan_within _ same_file mid0 row_hand row_step can_mid

  module _ (out : FileHand) (change : ChangesHeld nodes (bucket_moved move plan) (at_file plan.file less_one) row_hand out) where
    pub all : ChangesHeld nodes (λ at n x. bucket_moved move plan at n
        (at_bucket move.to_directory (name_bucket move.to_name) (with_row shift.child_is_directory move.to_name shift.child.0) at n x))
        (λ at x. at_file plan.file less_one at x) mid0 out
    all = both_held nodes _ _ same_file _ mid0 row_hand out row_step change

    pub out_is : out ≡ record before { held = out.held }
    out_is = all.frame ∙ ap (λ (h : FileHand). record h { held = out.held }) keeps.puts

    pub out_places : places_of out.held ≡ places_of before.held
    out_places = all.places ∙ (ap (λ (h : FileHand). places_of h.held) keeps.puts ∙ same_places (cell_place nodes own) before.held keeps.value)

    -- it may be stamped
    pub may : MayCall (IsLawfulLog given) (StandsAt given) out.view (rename_call move) reply.Ok
    may = subst (λ (z : View TreeState (Event Fact) × Reply). MayCall (IsLawfulLog given) (StandsAt given) z.0 (rename_call move) z.1)
        (λ i. (sym (ap (λ (h : FileHand). h.view) out_is) i, ap (λ (v : Verdict). v.reply) moves_is i))
        (answering.may_come given t nodes table move within plan above before ready)

    module _ (number : ℕ) (mid : FileHand) (drawn : Stamps (IsLawfulLog given) (StandsAt given) (rename_call move) reply.Ok out number mid) where
      abbrev pub back : FileHand
      back = record mid { held = before.held }

      abbrev pub stamps : Stamps (IsLawfulLog given) (StandsAt given) (rename_call move) reply.Ok before number back
      stamps = stamps_back given (rename_call move) reply.Ok before out number mid out.held out_is drawn

      pub mid_held : mid.held ≡ out.held
      mid_held = ap (λ (h : FileHand). h.held) drawn.frame

      pub mid_core : mid.view.core ≡ before.view.core
      mid_core = finished.core_mid given t nodes before table ready.work (rename_call move) reply.Ok number back stamps

      -- the lock is held where it is needed
      pub lock_there : is_some plan.comes ≡ true → IsSome (value_held nodes mid.held id.Lock)
      lock_there comes =
          let l = ready.lock comes in
          some_of (value_held nodes mid.held id.Lock) l.0
          (ap (λ h. value_held nodes h id.Lock) mid_held
          ∙ (all.others id.Lock tt ∙ (kept_value nodes before mid0 keeps id.Lock (λ place. omega (arith, place)) ∙ l.1)))

      own_mid : value_held nodes mid.held own ≡ Some keeps.value
      own_mid =
          ap (λ h. value_held nodes h own) mid_held ∙ (all.others own tt
          ∙ (ap (λ (h : FileHand). value_held nodes h.held own) keeps.puts
          ∙ value_with nodes own keeps.value before.held (some_first as_part (value_held nodes before.held own) ready.part)))

      module _ (comes : Bool) (locked : FileHand) (lock : SetsLock nodes comes (record { 0 = number }) mid locked) where
        own_by : (b : Bool) → SetsLock nodes b (record { 0 = number }) mid locked → (value_held nodes locked.held own ≡ Some keeps.value)
            × (locked.view ≡ mid.view)
        own_by true puts = (
          ap (λ (h : FileHand). value_held nodes h.held own) puts ∙ (apart_value nodes mid.held id.Lock own _ (λ place. omega (arith, place)) ∙ own_mid),
          ap (λ (h : FileHand). h.view) puts,
        )
        own_by false same = (ap (λ (h : FileHand). value_held nodes h.held own) same ∙ own_mid, ap (λ (h : FileHand). h.view) same)

        pub part_locked : part_held nodes locked.held locked.view.core ≡ Some keeps.next
        part_locked =
            let both = own_by comes lock in
            (λ i. part_held nodes locked.held ((ap (λ (v : View TreeState (Event Fact)). v.core) both.1 ∙ mid_core) i))
            ∙ (ap (option_and_then as_part) both.0 ∙ keeps.is)

        pub stands : StandsPart before.view.first
            (account_of (stamped.log given t nodes before table ready.work (rename_call move) reply.Ok number back stamps)) before.view.core keeps.next
        stands = same_part_stands given before.view.first
            (account_of (stamped.log given t nodes before table ready.work
            (rename_call move) reply.Ok number back stamps)) before.view.core keeps.part keeps.next keeps.same keeps.made
            (finished.part_stood given t nodes before table ready.work (rename_call move) reply.Ok number back stamps keeps.part keeps.was)

        some_one : {x y : PartCell} → ◌≡◌ {A = Option PartCell} (Some x) (Some y) → x ≡ y
        some_one e = cc (e)

        -- the own log has room for what it logs
        pub takes_shift : (name to_name : List ℕ) (way : List ℕ) → shift.from ≡ move.directory → shift.to ≡ move.to_directory
            → length (calls_in before.view.mine) ≤ 2 ^ 50
            → MayTake nodes (shift_logged shift name to_name number way) locked
        takes_shift name to_name way from to few part found =
            let same : keeps.next ≡ part = some_one (sym part_locked ∙ found) in
            let fewer = finished.few_entries given t nodes before table ready.work (rename_call move) reply.Ok number back stamps keeps.part keeps.was few in
            let entries = keeps.same.entries in
            subst (HasRoomFor (shift_logged shift name to_name number way)) same
            (room_for_shift before.view.first
            (account_of (stamped.log given t nodes before table ready.work
            (rename_call move) reply.Ok number back stamps)) before.view.core keeps.next stands
            (stamped.legal_log given t nodes before table ready.work (rename_call move) reply.Ok number back stamps)
            (omega (arith, fewer, entries)) shift name to_name number way
            (stamped.number_is given t nodes before table ready.work (rename_call move) reply.Ok number back stamps)
            (subst (λ (n : NodeId). 3 ≤ Rattle.mem_cells.specs.Part.room_kept keeps.next.log n.0) (sym from) prepared.room.old)
            (subst (λ (n : NodeId). 3 ≤ Rattle.mem_cells.specs.Part.room_kept keeps.next.log n.0) (sym to) prepared.room.new))
