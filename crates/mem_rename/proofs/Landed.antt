-- Each cell of a core that moved a child goes home, and the call has ended.
use Rattle.std.proofs.Common.{◌≡◌, ℕ, ◌+◌, ◌*◌, ◌<◌, Bool, true, false, cond, not, ◌&&◌, nat_eq, List, [], ◌∷◌, ◌++◌, length, reverse, Option, Some, None, IsSome, option_map, inl, inr, refl, sym, ap, subst, ◌∙◌, arith}
use borrow.Author.Tests.{eqb-true}
use Rattle.std.specs.Prelude.{is_some}
use Rattle.std.specs.Option.{option_and_then}
use Rattle.sfs_base.proofs.BasicTruth.{true_or_false, and_first, and_second, not_true}
use Rattle.sfs_base.specs.Name.{bucket as name_bucket}
use Rattle.sfs_base.specs.declared.numbers.NodeId.{NodeId}
use Rattle.sfs_base.proofs.BasicOptions.{some_same}
use Rattle.disk_nodes.specs.OldKept.{OldKept}
use Rattle.tree_laws.specs.Tree.{TreeState}
use Rattle.tree_laws.specs.declared.changes.Change.{Change}
use Rattle.tree_laws.specs.declared.reply.Reply.TheVariants as reply
use Rattle.tree_laws.specs.Effect.{Moves}
use Rattle.tree_laws.specs.Logged.{numbered_node, log_entry}
use Rattle.tree_laws.specs.declared.changes.Act.TheVariants.{Add, Remove}
use Rattle.tree_laws.specs.Tree.{kind_if}
use Rattle.tree_laws.specs.Changes.{other_side}
use Rattle.tree_laws.specs.Parts.{is_this}
use Rattle.tree_laws.specs.Verdict.{Verdict, done}
use Rattle.stamp_table.specs.declared.event.Event.{Event}
use Rattle.stamp_table.specs.declared.event.Event.TheVariants.{Called}
use Rattle.stamp_table.specs.declared.view.View.{View}
use Rattle.stamp_table.specs.declared.held.HeldCell.{HeldCell}
use Rattle.stamp_table.specs.Hand.{places_of}
use Rattle.stamp_table.specs.Table.{Stamps, LetsGo, Stands, EachFrom, with_value, left_below}
use Rattle.stamp_table.proofs.Replacing.{same_places}
use Rattle.mem_cells.specs.Part.{IsAddedTo}
use Rattle.mem_values.specs.Start.{FileHand, FileState}
use Rattle.mem_values.specs.declared.cell.Cell.{Cell}
use Rattle.mem_values.specs.declared.cell.Cell.TheVariants as cell
use Rattle.mem_values.specs.declared.cell.FileCell.{FileCell}
use Rattle.mem_values.specs.declared.bucket.Bucket.{Bucket}
use Rattle.mem_values.specs.declared.cell_id.CellId.{CellId}
use Rattle.mem_values.specs.declared.cell_id.CellId.TheVariants as id
use Rattle.mem_values.specs.declared.fact.Fact.{Fact}
use Rattle.mem_values.specs.Places.{cell_place, IsCell}
use Rattle.mem_values.specs.Account.{account_of}
use Rattle.mem_values.specs.Stands.{StandsForCell, StandsAt}
use Rattle.mem_values.specs.Facts.{IsLawfulLog}
use Rattle.mem_calls.specs.Table.{IsFileTable}
use Rattle.mem_calls.specs.Held.{value_held, as_part, as_bucket, as_file}
use Rattle.mem_calls.specs.Parts.{TakesEntry}
use Rattle.mem_calls.specs.Outcome.{IsAnswered}
use Rattle.mem_calls.proofs.PartKept.{value_of_part}
use Rattle.mem_calls.proofs.Taken.{value_with}
use Rattle.mem_calls.proofs.Unlinked.{apart_value}
use Rattle.mem_calls.proofs.Finished as finished
use Rattle.mem_calls.proofs.Stamped as stamped
use Rattle.mem_rename.specs.declared.sides.Move.{Move}
use Rattle.mem_rename.specs.declared.plans.Plan.{Plan}
use Rattle.mem_rename.specs.declared.shifts.Shift.{Shift}
use Rattle.mem_rename.specs.declared.shifts.Noted.{Noted}
use Rattle.mem_rename.specs.Sights.{Sight, rename_call, rename_by, there_seen, moves_directory, meets_directory, goes_between}
use Rattle.mem_rename.specs.After.{IsMovedCell}
use Rattle.mem_rename.specs.Logged.{rename_logged, effect_logged, replaced_logged}
use Rattle.mem_rename.specs.Decisions.{look_seen}
use Rattle.mem_rename.specs.Shifts.{shift_of, shift_logged, gone_by}
use Rattle.mem_rename.specs.Ready.{sight_of, AreSidesWithin, HoldsRename}
use Rattle.mem_rename.specs.Rounds.{IsPlanWithin}
use Rattle.mem_rename.specs.Moving.{with_row, less_one, at_bucket, at_file, bucket_moved, IsPrepared, ChangesHeld, SetsLock}
use Rattle.mem_rename.proofs.Answering as answering
use Rattle.mem_rename.proofs.Fitted as fitted
use Rattle.mem_rename.proofs.Home.{replaced_files_lose_a_link}
use Rattle.mem_rename.proofs.Homecoming as homecoming
use Rattle.mem_rename.proofs.Moved.{MovesChild, moves_child, renames_need_lock, is_this_there}
use Rattle.mem_rename.proofs.MovedHome.{plans, held_too}
use Rattle.mem_rename.proofs.Readied.{kept_value, kept_bucket, kept_file}
use Rattle.mem_rename.proofs.Shifting.{PlansMove, bucket_is_moved, file_is_moved}
use Rattle.mem_rename.proofs.Turned as turned

-- what is logged in the words of the code is what the rename logs
gone_same : (seen : Sight) (move : Move) (child : NodeId) (number : ℕ) (there : Option ℕ)
    → gone_by (shift_of (look_seen seen move) move child) move.to_name number (option_map numbered_node there) ≡ replaced_logged seen move number there
gone_same seen move child number None = refl
gone_same seen move child number (Some there) = refl

between_comes : (b : Bool) (child : NodeId) → is_some (cond b (Some child) None) ≡ b
between_comes true child = refl
between_comes false child = refl

some_mapped : {X Y : Type 0} (f : X → Y) (o : Option X) → IsSome (option_map f o) → IsSome o
some_mapped f None some = some
some_mapped f (Some x) some = refl

mapped_some : {X Y : Type 0} (f : X → Y) (o : Option X) → IsSome o → (y : Y) × (option_map f o ≡ Some y)
mapped_some f None some = absurd cc
mapped_some f (Some x) some = (f x, refl)

module _ (given : ℕ → Option OldKept) (t : FileState) (nodes : ℕ) (table : IsFileTable t nodes) (move : Move) (within : AreSidesWithin nodes move)
    (plan : Plan) (plan_within : IsPlanWithin nodes plan) (above : List ℕ) (before : FileHand)
    (ready : HoldsRename given t nodes move plan above before) (child : NodeId)
    (moves_is : rename_by (sight_of nodes before.held move plan above) move ≡ done
    (Moves move.directory.0 move.name move.to_directory.0 move.to_name child.0))
    (shift : Shift) (noted : Noted) (row_hand : FileHand) (prepared : IsPrepared nodes move shift before noted row_hand) (out : FileHand)
    (change : ChangesHeld nodes (bucket_moved move plan) (at_file plan.file less_one) row_hand out)
    (number : ℕ) (mid : FileHand) (drawn : Stamps (IsLawfulLog given) (StandsAt given) (rename_call move) reply.Ok out number mid)
    (locked : FileHand) (lock : SetsLock nodes (is_some plan.comes) (record { 0 = number }) mid locked)
    (shift_is : shift ≡ shift_of (look_seen (sight_of nodes before.held move plan above) move) move child) (final : FileHand)
    (takes : TakesEntry nodes (shift_logged shift noted.old noted.new number (cond (is_some plan.comes) above [])) locked final) where
  abbrev seen : Sight
  seen = sight_of nodes before.held move plan above

  abbrev core : ℕ
  core = before.view.core

  abbrev own : CellId
  own = id.Part (record { 0 = core })

  abbrev back : FileHand
  back =
      turned.back given t nodes table move within plan plan_within above before ready child moves_is shift noted row_hand prepared out change number mid drawn

  abbrev stamps : Stamps (IsLawfulLog given) (StandsAt given) (rename_call move) reply.Ok before number back
  stamps =
      turned.stamps given t nodes table move within plan plan_within above before ready child moves_is shift noted row_hand prepared out change number mid drawn

  abbrev S : TreeState
  S = stamped.tree given t nodes before table ready.work (rename_call move) reply.Ok number back stamps

  abbrev log : List (Event Fact)
  log = stamped.log given t nodes before table ready.work (rename_call move) reply.Ok number back stamps

  abbrev entry : Rattle.tree_laws.specs.declared.history.Entry.Entry
  entry = stamped.entry given t nodes before table ready.work (rename_call move) reply.Ok number back stamps

  abbrev after_log : List (Event Fact)
  after_log = log ++ Called entry ∷ []

  abbrev first : TreeState
  first = before.view.first

  on : Rattle.mem_rename.specs.Ready.MayMeetOn plan move.to_directory.0 above before S
  on = answering.on_stamped given t nodes table move within plan above before ready reply.Ok number back stamps

  shows : Rattle.mem_rename.specs.Sights.ShowsMove S move seen
  shows = fitted.shows given t nodes table move within plan above before ready S on

  effect_is : (rename_by seen move).effect ≡ Moves move.directory.0 move.name move.to_directory.0 move.to_name child.0
  effect_is = ap (λ (v : Verdict). v.effect) moves_is

  moved : MovesChild S core move child.0
  moved = moves_child S core move seen on.meets.sound shows child.0 effect_is

  plan_is : PlansMove seen move plan child
  plan_is = plans given t nodes table move within plan above before ready S on child moved

  comes_is : is_some plan.comes ≡ goes_between seen move
  comes_is = ap is_some plan_is.comes ∙ between_comes (goes_between seen move) child

  logged_is : shift_logged shift noted.old noted.new number (cond (is_some plan.comes) above []) ≡ rename_logged seen move number
  logged_is =
      (λ i. shift_logged (shift_is i) (prepared.noted_is.old i) (prepared.noted_is.new i) number (cond (comes_is i) above []))
      ∙ (ap (λ (l : List Change). l ++ log_entry number move.directory.0 move.name child.0 (kind_if (moves_directory seen move)) Remove
      (other_side move.directory.0 move.to_directory.0) []
      ∷ log_entry number move.to_directory.0 move.to_name child.0 (kind_if (moves_directory seen move)) Add (other_side move.to_directory.0 move.directory.0)
      (cond (goes_between seen move) above [])
      ∷ []) (gone_same seen move child number (there_seen seen move)) ∙ ap (effect_logged seen move number) (sym effect_is))

  -- the values of cells that go home
  core_locked : locked.view ≡ mid.view
  core_locked = by (is_some plan.comes) lock
    where
      by : (b : Bool) → SetsLock nodes b (record { 0 = number }) mid locked → locked.view ≡ mid.view
      by true puts = ap (λ (h : FileHand). h.view) puts
      by false same = ap (λ (h : FileHand). h.view) same

  core_is : locked.view.core ≡ core
  core_is = ap (λ (v : View TreeState (Event Fact)). v.core) core_locked
      ∙ turned.mid_core given t nodes table move within plan plan_within above before ready child moves_is shift noted row_hand prepared out change number mid
      drawn

  final_held : final.held ≡ with_value (cell_place nodes own) takes.value locked.held
  final_held = ap (λ (h : FileHand). h.held) takes.frame
      ∙ (λ i. with_value (cell_place nodes (id.Part (record { 0 = core_is i }))) takes.value locked.held)

  locked_else : (b : Bool) → SetsLock nodes b (record { 0 = number }) mid locked → (which : CellId) → (0 ≡ cell_place nodes which → ⊥)
      → value_held nodes locked.held which ≡ value_held nodes mid.held which
  locked_else true puts which apart = ap (λ (h : FileHand). value_held nodes h.held which) puts ∙ apart_value nodes mid.held id.Lock which _ apart
  locked_else false same which apart = ap (λ (h : FileHand). value_held nodes h.held which) same

  locked_places : (b : Bool) → SetsLock nodes b (record { 0 = number }) mid locked → places_of locked.held ≡ places_of mid.held
  locked_places true puts = ap (λ (h : FileHand). places_of h.held) puts ∙ same_places 0 mid.held _
  locked_places false same = ap (λ (h : FileHand). places_of h.held) same

  mid_held : mid.held ≡ out.held
  mid_held =
      turned.mid_held given t nodes table move within plan plan_within above before ready child moves_is shift noted row_hand prepared out change number mid
      drawn

  final_places : places_of final.held ≡ places_of before.held
  final_places = ap (λ (l : List (HeldCell Cell)). places_of l) final_held
      ∙ (same_places (cell_place nodes own) locked.held takes.value
      ∙ (locked_places (is_some plan.comes) lock ∙ (ap (λ (l : List (HeldCell Cell)). places_of l) mid_held
      ∙ turned.out_places given t nodes table move within plan plan_within above before ready child moves_is shift noted row_hand prepared out change)))

  final_else : (which : CellId) → (cell_place nodes own ≡ cell_place nodes which → ⊥) → (0 ≡ cell_place nodes which → ⊥)
      → value_held nodes final.held which ≡ value_held nodes out.held which
  final_else which not_own not_lock = ap (λ l. value_held nodes l which) final_held ∙ (apart_value nodes locked.held own which takes.value not_own
      ∙ (locked_else (is_some plan.comes) lock which not_lock ∙ ap (λ l. value_held nodes l which) mid_held))

  before_there : (which : CellId) (y : Cell) → value_held nodes final.held which ≡ Some y → (x : Cell) × (value_held nodes before.held which ≡ Some x)
  before_there which y found = mapped_some (λ (h : HeldCell Cell). h.value) (Rattle.stamp_table.specs.Table.cell_at (cell_place nodes which) before.held)
      (held_too (cell_place nodes which) final.held before.held final_places
      (some_mapped (λ (h : HeldCell Cell). h.value) (Rattle.stamp_table.specs.Table.cell_at (cell_place nodes which) final.held)
      (subst IsSome (sym found) refl)))

  stood : (which : CellId) (x : Cell) → IsCell nodes (length t.first.made) which → value_held nodes before.held which ≡ Some x
      → StandsForCell given first (account_of log) which x
  stood which x is_cell is = stamped.stood given t nodes before table ready.work (rename_call move) reply.Ok number back stamps which x is_cell is

  home : (which : CellId) (x y : Cell) → StandsForCell given first (account_of log) which x
      → IsMovedCell seen move core child.0 (record { 0 = number }) which x y → StandsForCell given first (account_of after_log) which y
  home which x y stands is = homecoming.moved_cells_go_home given first log entry move seen child.0 which x y
      (stamped.sound given t nodes before table ready.work)
      (stamped.lawful_log given t nodes before table ready.work (rename_call move) reply.Ok number back stamps)
      (stamped.legal_next given t nodes before table ready.work (rename_call move) reply.Ok number back stamps) refl shows effect_is stands is

  part_home : (y : Cell) → value_held nodes final.held own ≡ Some y → StandsForCell given first (account_of after_log) own y
  part_home y found =
      let held = value_with nodes own takes.value locked.held
      (subst IsSome (sym (ap (λ (n : ℕ). value_held nodes locked.held (id.Part (record { 0 = n }))) (sym core_is)))
      (Rattle.mem_calls.proofs.Taken.some_and_then as_part
      (value_held nodes locked.held (id.Part (record { 0 = locked.view.core }))) takes.part takes.was)) in
      let value_is : takes.value ≡ y = some_same (sym (ap (λ l. value_held nodes l own) final_held ∙ held) ∙ found) in
      let part_is : prepared.room.keeps.next ≡ takes.part = some_same
      (sym
      (turned.part_locked given t nodes table move within plan plan_within above before ready child moves_is shift noted row_hand prepared out change number
      mid drawn
      (is_some plan.comes) locked lock)
      ∙ takes.was) in
      subst (StandsForCell given first (account_of after_log) own) value_is
      (value_of_part given first (account_of after_log) core takes.value takes.next takes.is
      (homecoming.part_home given first log entry move seen child.0 (stamped.sound given t nodes before table ready.work)
      (stamped.lawful_log given t nodes before table ready.work (rename_call move) reply.Ok number back stamps)
      (stamped.legal_next given t nodes before table ready.work (rename_call move) reply.Ok number back stamps) refl shows effect_is takes.part takes.next
      (subst (Rattle.mem_values.specs.Stands.StandsPart first (account_of log) core) part_is
      (turned.stands given t nodes table move within plan plan_within above before ready child moves_is shift noted row_hand prepared out change number mid
      drawn
      (is_some plan.comes) locked lock))
      (record { log = subst (λ l. IsAddedTo takes.part.log l takes.next.log) logged_is takes.log; made = takes.made })))

  bucket_home : (at : NodeId) (n : ℕ) (x y : Cell) → at.0 < nodes → n < 8 → value_held nodes before.held (id.Bucket at n) ≡ Some x
      → value_held nodes final.held (id.Bucket at n) ≡ Some y
      → StandsForCell given first (account_of log) (id.Bucket at n) x → StandsForCell given first (account_of after_log) (id.Bucket at n) y
  bucket_home at n (cell.Bucket bx) y lt small was found stands =
      let after : as_bucket y ≡ Some (Rattle.mem_rename.proofs.Shifting.bucket_after seen move plan child plan_is at n bx.value) =
      ap (option_and_then as_bucket) (sym found ∙ final_else (id.Bucket at n) (λ place. omega (arith, place, lt, small)) (λ place. omega (arith, place)))
      ∙ ((turned.all given t nodes table move within plan plan_within above before ready child moves_is shift noted row_hand prepared out change).buckets at n
      lt small
      ∙ (ap (option_map _) (kept_bucket nodes before prepared.mid prepared.room.keeps at n lt small ∙ ap (option_and_then as_bucket) was)
      ∙ ap (λ (s : Shift). Some (bucket_moved move plan at n
      (at_bucket move.to_directory (name_bucket move.to_name) (with_row s.child_is_directory move.to_name s.child.0) at n bx.value))) shift_is)) in
      by y after
    where
      by : (y : Cell) → as_bucket y ≡ Some (Rattle.mem_rename.proofs.Shifting.bucket_after seen move plan child plan_is at n bx.value)
          → StandsForCell given first (account_of after_log) (id.Bucket at n) y
      by (cell.Bucket b) after = home (id.Bucket at n) (cell.Bucket bx) (cell.Bucket b) stands
          (subst (λ (v : Bucket). Rattle.mem_rename.specs.After.IsMovedBucket seen move child.0 at.0 n bx.value v) (sym (some_same after))
          (bucket_is_moved seen move plan child plan_is at n bx.value))
      by (cell.Lock l) after = absurd (cc (after))
      by (cell.File l) after = absurd (cc (after))
      by (cell.Pending l) after = absurd (cc (after))
      by (cell.Part l) after = absurd (cc (after))
  bucket_home at n (cell.Lock l) y lt small was found stands = absurd stands
  bucket_home at n (cell.File l) y lt small was found stands = absurd stands
  bucket_home at n (cell.Pending l) y lt small was found stands = absurd stands
  bucket_home at n (cell.Part l) y lt small was found stands = absurd stands

  some_links : (at : NodeId) (f : FileCell) → f.links ≡ Rattle.mem_values.specs.Stands.file_links S at.0
      → (not (meets_directory seen move) && is_this at.0 (there_seen seen move)) ≡ true → 0 < f.links
  some_links at f links is =
      let there = is_this_there at.0 (there_seen seen move) (and_second (not (meets_directory seen move)) _ is) in
      let less = replaced_files_lose_a_link S core move seen child.0 at.0 on.meets.sound
      (fitted.core_there given t nodes table move within plan above before ready S on) shows effect_is there (not_true _ (and_first _ _ is)) in
      omega (arith, less, links)

  file_home : (at : NodeId) (x y : Cell) → at.0 < nodes → value_held nodes before.held (id.File at) ≡ Some x → value_held nodes final.held (id.File at) ≡ Some y
      → StandsForCell given first (account_of log) (id.File at) x → StandsForCell given first (account_of after_log) (id.File at) y
  file_home at (cell.File bx) y lt was found stands =
      let after : as_file y ≡ Some (at_file plan.file less_one at bx.value) =
      ap (option_and_then as_file) (sym found ∙ final_else (id.File at) (λ place. omega (arith, place, lt)) (λ place. omega (arith, place)))
      ∙ ((turned.all given t nodes table move within plan plan_within above before ready child moves_is shift noted row_hand prepared out change).files at lt
      ∙ ap (option_map _) (kept_file nodes before prepared.mid prepared.room.keeps at lt ∙ ap (option_and_then as_file) was)) in
      by y after
    where
      by : (y : Cell) → as_file y ≡ Some (at_file plan.file less_one at bx.value) → StandsForCell given first (account_of after_log) (id.File at) y
      by (cell.File b) after = home (id.File at) (cell.File bx) (cell.File b) stands
          (subst (λ (v : FileCell). Rattle.mem_rename.specs.After.IsMovedFile seen move at.0 bx.value v) (sym (some_same after))
          (file_is_moved seen move plan child plan_is at bx.value (some_links at bx.value stands.links)))
      by (cell.Lock l) after = absurd (cc (after))
      by (cell.Bucket l) after = absurd (cc (after))
      by (cell.Pending l) after = absurd (cc (after))
      by (cell.Part l) after = absurd (cc (after))
  file_home at (cell.Lock l) y lt was found stands = absurd stands
  file_home at (cell.Bucket l) y lt was found stands = absurd stands
  file_home at (cell.Pending l) y lt was found stands = absurd stands
  file_home at (cell.Part l) y lt was found stands = absurd stands

  kept_home : (which : CellId) (y : Cell) → IsCell nodes (length t.first.made) which → value_held nodes before.held which ≡ Some y
      → Rattle.mem_values.specs.Touches.KeepsCell S core (rename_call move) which → StandsForCell given first (account_of after_log) which y
  kept_home which y is_cell is keeps = stamped.kept given t nodes before table ready.work
      (rename_call move) reply.Ok number back stamps which y is_cell is keeps

  out_before : (which : CellId) → Rattle.mem_rename.specs.Moving.IsOther nodes which → (cell_place nodes own ≡ cell_place nodes which → ⊥)
      → value_held nodes out.held which ≡ value_held nodes before.held which
  out_before which other apart =
      (turned.all given t nodes table move within plan plan_within above before ready child moves_is shift noted row_hand prepared out change).others which
      other
      ∙ kept_value nodes before prepared.mid prepared.room.keeps which apart

  lock_home : (b : Bool) → SetsLock nodes b (record { 0 = number }) mid locked → is_some plan.comes ≡ b → (x y : Cell)
      → value_held nodes before.held id.Lock ≡ Some x → value_held nodes final.held id.Lock ≡ Some y
      → StandsForCell given first (account_of log) id.Lock x → StandsForCell given first (account_of after_log) id.Lock y
  lock_home true puts is (cell.Lock l) y was found stands =
      let there =
      turned.lock_there given t nodes table move within plan plan_within above before ready child moves_is shift noted row_hand prepared out change number
      mid drawn is in
      let value : cell.Lock (record { moved = Some (record { 0 = number }) }) ≡ y = some_same
      (sym (ap (λ l. value_held nodes l id.Lock) final_held ∙ (apart_value nodes locked.held own id.Lock takes.value (λ place. omega (arith, place))
      ∙ (ap (λ (h : FileHand). value_held nodes h.held id.Lock) puts ∙ value_with nodes id.Lock _ mid.held there))) ∙ found) in
      subst (StandsForCell given first (account_of after_log) id.Lock) value
      (home id.Lock (cell.Lock l) (cell.Lock (record { moved = Some (record { 0 = number }) })) stands
      (subst (λ b. Rattle.mem_rename.specs.After.IsMovedLock b (record { 0 = number }) l (record { moved = Some (record { 0 = number }) }))
      (sym (sym comes_is ∙ is)) refl))
  lock_home true puts is (cell.Bucket l) y was found stands = absurd stands
  lock_home true puts is (cell.File l) y was found stands = absurd stands
  lock_home true puts is (cell.Pending l) y was found stands = absurd stands
  lock_home true puts is (cell.Part l) y was found stands = absurd stands
  lock_home false same is x y was found stands =
      let value : value_held nodes before.held id.Lock ≡ Some y = sym
      (ap (λ l. value_held nodes l id.Lock) final_held ∙ (apart_value nodes locked.held own id.Lock takes.value (λ place. omega (arith, place))
      ∙ (ap (λ (h : FileHand). value_held nodes h.held id.Lock) same
      ∙ (ap (λ l. value_held nodes l id.Lock) mid_held ∙ out_before id.Lock tt (λ place. omega (arith, place)))))) ∙ found in
      kept_home id.Lock y tt value (inl (renames_need_lock S core move seen child.0 on.meets.sound shows effect_is ∙ (sym comes_is ∙ is)))

  each : (which : CellId) (y : Cell) → IsCell nodes (length t.first.made) which → value_held nodes final.held which ≡ Some y
      → StandsForCell given first (account_of after_log) which y
  each id.Lock y is_cell found = let x = before_there id.Lock y found in
      lock_home (is_some plan.comes) lock refl x.0 y x.1 found (stood id.Lock x.0 is_cell x.1)
  each (id.Bucket at n) y is_cell found = let x = before_there (id.Bucket at n) y found in
      bucket_home at n x.0 y is_cell.0 is_cell.1 x.1 found (stood (id.Bucket at n) x.0 is_cell x.1)
  each (id.File at) y is_cell found = let x = before_there (id.File at) y found in file_home at x.0 y is_cell x.1 found (stood (id.File at) x.0 is_cell x.1)
  each (id.Pending at) y is_cell found = kept_home (id.Pending at) y is_cell
      (sym (final_else (id.Pending at) (λ place. pending_low at is_cell place) (λ place. omega (arith, place))
      ∙ out_before (id.Pending at) is_cell (λ place. pending_low at is_cell place)) ∙ found) (inl refl)
    where
      pending_low : (at : NodeId) → at.0 < nodes → 32 + 10 * nodes + 16 * core ≡ 16 + 9 * nodes + at.0 → ⊥
      pending_low at lt place = omega (arith, lt, place)
  each (id.Part owner) y is_cell found = elim (true_or_false (nat_eq core owner.0)) [
    | inl same ↦ subst (λ (n : ℕ). StandsForCell given first (account_of after_log) (id.Part (record { 0 = n })) y) (eqb-true _ _ same)
        (part_home y (ap (λ (n : ℕ). value_held nodes final.held (id.Part (record { 0 = n }))) (eqb-true _ _ same) ∙ found))
    | inr other ↦ let far = borrow.Author.Tests.eqb-false _ _ other in kept_home (id.Part owner) y is_cell
        (sym (final_else (id.Part owner) (λ place. far (omega (arith, place))) (λ place. omega (arith, place))
        ∙ out_before (id.Part owner) tt (λ place. far (omega (arith, place)))) ∙ found) (inl other)
  ]

  view_is : final.view ≡ mid.view
  view_is = ap (λ (h : FileHand). h.view) takes.frame ∙ core_locked

  pub goes_home : EachFrom 0 (Stands (IsLawfulLog given) (StandsAt given) final.view) final.held
  goes_home = stamped.home given t nodes before table ready.work (rename_call move) reply.Ok number back stamps final view_is
      (finished.view_held_mid given t nodes before table ready.work (rename_call move) reply.Ok number back stamps) final_places each

  same_rest : (b : Bool) → SetsLock nodes b (record { 0 = number }) mid locked → record locked { held = before.held } ≡ back
  same_rest true puts = ap (λ (h : FileHand). record h { held = before.held }) puts
  same_rest false same = ap (λ (h : FileHand). record h { held = before.held }) same

  many : length final.held ≡ length before.held
  many =
      let same = ap (λ (l : List ℕ). length l) final_places in
      let a = Rattle.std.proofs.lemmas.List.length-map final.held (λ (h : HeldCell Cell). h.place) in
      let b = Rattle.std.proofs.lemmas.List.length-map before.held (λ (h : HeldCell Cell). h.place) in
      omega (arith, same, a, b)

  pub answers : (last : FileHand) → LetsGo final last → last.held ≡ left_below 0 final.held → last.view.held ≡ reverse (places_of last.held)
      → IsAnswered t (rename_call move) reply.Ok before last
  answers last lets left at = finished.ends_as given t nodes before table ready.work (rename_call move) reply.Ok number back stamps
      (done (Moves move.directory.0 move.name move.to_directory.0 move.to_name child.0)) final last
      (answering.verdict_stamped given t nodes table move within plan above before ready reply.Ok number back stamps ∙ moves_is) refl refl
      (ap (λ (h : FileHand). record h { held = before.held }) takes.frame ∙ same_rest (is_some plan.comes) lock) many lets left at
