-- A core that goes on with its fsync: it holds, looks, lets go, makes room.
use Rattle.std.proofs.Common.{◌≡◌, ℕ, ◌+◌, ◌*◌, ◌<◌, Bool, true, false, List, [], ◌∷◌, map, length, reverse, Option, Some, IsSome, inl, inr, refl, sym, ap, ◌∙◌, subst, arith}
use Rattle.std.specs.Prelude.{All, nat_eq, option_map, if◌then◌else◌}
use Rattle.std.specs.Bool.{Decides}
use mathlib.Core.List.{IsPrefix}
use Rattle.std.specs.List.Sorted.{IsStrictlyIncreasing}
use Rattle.std.proofs.lemmas.List.{length-map, reverse-reverse}
use Rattle.sfs_base.specs.declared.numbers.NodeId.{NodeId}
use Rattle.sfs_base.proofs.BasicTruth.{true_not_false}
use Rattle.tree_laws.specs.NameRow.{node_number}
use Rattle.tree_laws.specs.Tree.{TreeState}
use Rattle.disk_nodes.specs.OldKept.{OldKept}
use Rattle.cut_laws.specs.Rules.{IsOneOf}
use Rattle.core_logs.proofs.Ordered.{all_of}
use Rattle.dep_closure.proofs.Looked.{one_of_all}
use borrow.Author.Tests.{eqb-true, eq-eqb}
use Rattle.stamp_table.specs.declared.event.Event.{Event}
use Rattle.stamp_table.specs.declared.view.View.{View}
use Rattle.stamp_table.specs.declared.held.HeldCell.{HeldCell}
use Rattle.stamp_table.specs.Ascending.{LiesAbove, RiseAbove}
use Rattle.stamp_table.specs.Events.{calls_in}
use Rattle.stamp_table.specs.Hand.{places_of}
use Rattle.stamp_table.specs.Rule.{Has}
use Rattle.stamp_table.specs.Table.{Looked, cell_at, is_at}
use Rattle.stamp_table.proofs.Keeps.{begins_itself, begins_on}
use Rattle.mem_values.specs.Start.{FileHand, FileState}
use Rattle.mem_values.specs.declared.fact.Fact.{Fact}
use Rattle.mem_values.specs.declared.cell.Cell.{Cell}
use Rattle.mem_values.specs.declared.cell.Cell.TheVariants as cell
use Rattle.mem_values.specs.declared.cell_id.CellId.TheVariants as id
use Rattle.mem_values.specs.Account.{account_of}
use Rattle.mem_values.specs.Facts.{IsLawfulLog}
use Rattle.mem_values.specs.Laws.{KnowsCells}
use Rattle.mem_values.specs.Stands.{StandsAt, StandsForCell}
use Rattle.mem_calls.specs.Held.{value_held, as_pending}
use Rattle.mem_calls.specs.Table.{IsFileTable}
use Rattle.mem_calls.specs.Working.{IsWorking, WorksOn}
use Rattle.mem_calls.proofs.Cells.{has_reverse}
use Rattle.mem_calls.proofs.PutBack.{stands_now}
use Rattle.fsync_look.specs.Look.{IsBelow, flushed_place, HoldsNodes, SawMore}
use Rattle.fsync_gather.specs.Gathers.{IsHeldOf}
use Rattle.fsync_gather.proofs.Rising.{head_below, tail_rises}
use Rattle.fsync_catch.specs.Catch.{GoesOn, HasItsFsync}
use Rattle.fsync_catch.specs.declared.looking.WaitingFsync.{WaitingFsync}
use Rattle.fsync_catch.proofs.Noted.{fsync_on}

-- it goes on from itself, and one going on after another is one
pub goes_none : (hand : FileHand) → GoesOn hand hand
goes_none hand = record { frame = refl; view = refl; seen = begins_itself hand.view.seen }

pub goes_again : (a b c : FileHand) → GoesOn a b → GoesOn b c → GoesOn a c
goes_again a b c one two = record {
  frame = (λ i. record (two.frame i) { view = a.view; held = a.held; room = a.room; spare = a.spare }) ∙ one.frame;
  view = (λ i. record (two.view i) { seen = a.view.seen; held = a.view.held }) ∙ one.view;
  seen = begins_on a.view.seen b.view.seen c.view.seen one.seen two.seen;
}

pub works_goes : (a b : FileHand) → WorksOn a b → GoesOn a b
works_goes a b on = record { frame = λ i. record (on.frame i) { spare = a.spare }; view = on.view; seen = on.seen }

pub saw_goes : (a b : FileHand) → SawMore a b → GoesOn a b
saw_goes a b saw = record {
  frame = λ i. record (saw.frame i) { held = a.held; room = a.room; spare = a.spare };
  view = λ i. record (saw.view i) { held = a.view.held };
  seen = saw.seen;
}

-- a core with other room
abbrev pub IsRoomier : FileHand → FileHand → Type 0
IsRoomier a b = record b { spare = a.spare; room = a.room } ≡ a

view_roomier : (a b : FileHand) → IsRoomier a b → b.view ≡ a.view
view_roomier a b same = ap (λ (h : FileHand). h.view) same

pub roomier_goes : (a b : FileHand) → IsRoomier a b → GoesOn a b
roomier_goes a b same = record {
  frame = λ i. record (same i) { view = a.view; held = a.held };
  view = ap (λ (v : View TreeState (Event Fact)). record v { seen = a.view.seen; held = a.view.held }) (view_roomier a b same);
  seen = subst (IsPrefix a.view.seen) (sym (ap (λ (v : View TreeState (Event Fact)). v.seen) (view_roomier a b same))) (begins_itself a.view.seen);
}

pub roomier_works : (given : ℕ → Option OldKept) (t : FileState) (a b : FileHand) → IsRoomier a b → IsWorking given t a → IsWorking given t b
roomier_works given t a b same work = record {
  table = ap (λ (h : FileHand). h.table) same ∙ work.table;
  first = ap (λ (v : View TreeState (Event Fact)). v.first) view ∙ work.first;
  core = subst (λ (v : View TreeState (Event Fact)). v.core < length t.first.made) (sym view) work.core;
  places = ap (λ (v : View TreeState (Event Fact)). v.held) view ∙ work.places ∙ ap (λ (l : List (HeldCell Cell)). reverse (places_of l)) (sym held);
  falls = subst (λ (v : View TreeState (Event Fact)). Rattle.stamp_table.specs.Ascending.Falls v.held) (sym view) work.falls;
  knows = subst (λ (l : List (HeldCell Cell)). KnowsCells given b.view l) (sym held)
      (subst (λ (v : View TreeState (Event Fact)). KnowsCells given v a.held) (sym view) work.knows);
}
  where
    view : b.view ≡ a.view
    view = ap (λ (h : FileHand). h.view) same

    held : b.held ≡ a.held
    held = ap (λ (h : FileHand). h.held) same

pub roomier_none : (a b : FileHand) → IsRoomier a b → (a.held ≡ []) × (a.view.held ≡ []) → (b.held ≡ []) × (b.view.held ≡ [])
roomier_none a b same none = (
  ap (λ (h : FileHand). h.held) same ∙ none.0,
  ap (λ (v : View TreeState (Event Fact)). v.held) (view_roomier a b same) ∙ none.1,
)

-- its fsync waits on
pub waits_on : (a b : FileHand) (fsync : WaitingFsync) → GoesOn a b → HasItsFsync a fsync → HasItsFsync b fsync
waits_on a b fsync on waits =
    subst (λ core. Rattle.mem_values.specs.Facts.HasFsync (calls_in b.view.seen) core fsync.node.0 fsync.stamp.0)
    (sym (ap (λ (v : View TreeState (Event Fact)). v.core) on.view))
    (fsync_on a.view.seen b.view.seen a.view.core fsync.node.0 fsync.stamp.0 on.seen waits)

-- A core that has looked at the history has seen more, and works on.
module _ (given : ℕ → Option OldKept) (t : FileState) (before : FileHand) (number : ℕ) (after : FileHand)
    (looked : Looked (IsLawfulLog given) (StandsAt given) before number after) where
  pub looked_saw : SawMore before after
  looked_saw = record { frame = looked.frame; view = looked.saw.frame; seen = looked.saw.seen }

  held_same : after.held ≡ before.held
  held_same = ap (λ (h : FileHand). h.held) looked.frame

  first_same : after.view.first ≡ before.view.first
  first_same = ap (λ (v : View TreeState (Event Fact)). v.first) looked.saw.frame

  places_same : after.view.held ≡ before.view.held
  places_same = ap (λ (v : View TreeState (Event Fact)). v.held) looked.saw.frame

  still_known : (cells : List (HeldCell Cell)) → KnowsCells given before.view cells → KnowsCells given after.view cells
  still_known [] knows = tt
  still_known (c ∷ cells) knows = (
    record {
      holds = subst (λ l. Has l c.place) (sym places_same) knows.0.holds;
      stood = subst (λ f. StandsAt given f after.view.seen c.place c.value) (sym first_same)
          (looked.saw.kept c.place (Some c.value) knows.0.holds knows.0.stood);
    },
    still_known cells knows.1,
  )

  pub looked_works : IsWorking given t before → IsWorking given t after
  looked_works work = record {
    table = ap (λ (h : FileHand). h.table) looked.frame ∙ work.table;
    first = first_same ∙ work.first;
    core = subst (λ n. n < length t.first.made) (sym (ap (λ (v : View TreeState (Event Fact)). v.core) looked.saw.frame)) work.core;
    places = places_same ∙ work.places ∙ ap (λ (l : List (HeldCell Cell)). reverse (places_of l)) (sym held_same);
    falls = subst Rattle.stamp_table.specs.Ascending.Falls (sym places_same) work.falls;
    knows = subst (KnowsCells given after.view) (sym held_same) (still_known before.held work.knows);
  }

-- nodes that ascend have places that rise
rise_from : (nodes : ℕ) (held : List ℕ) (list : List NodeId) → IsStrictlyIncreasing (map node_number list)
    → ((node : NodeId) → IsOneOf list node → LiesAbove (flushed_place nodes node) held) → RiseAbove held (map (flushed_place nodes) list)
rise_from nodes held [] up above = tt
rise_from nodes held (node ∷ list) up above = (
  above node (inl refl),
  rise_from nodes (flushed_place nodes node ∷ held) list (tail_rises node.0 (map node_number list) up)
      (λ other one.
      let less = head_below node.0 (map node_number list) up other.0 (numbered list other one) in omega (arith, less)),
)
  where
    numbered : (l : List NodeId) (n : NodeId) → IsOneOf l n → IsOneOf (map node_number l) n.0
    numbered [] n one = absurd one
    numbered (m ∷ l) n one = elim one [ inl same ↦ inl (ap node_number same) | inr later ↦ inr (numbered l n later) ]

pub places_rise : (nodes : ℕ) (list : List NodeId) → IsStrictlyIncreasing (map node_number list) → RiseAbove [] (map (flushed_place nodes) list)
places_rise nodes list up = rise_from nodes [] list up (λ node one. tt)

-- of a list of one node
pub one_rises : (node : NodeId) → IsStrictlyIncreasing (map node_number (node ∷ []))
one_rises node k within = absurd (omega (arith, within))

pub one_below : (nodes : ℕ) (node : NodeId) → node.0 < nodes → All (IsBelow nodes) (node ∷ [])
one_below nodes node less = all_of (IsBelow nodes) (node ∷ []) (λ other one. elim one [ inl same ↦ subst (IsBelow nodes) same less | inr past ↦ absurd past ])

-- what is held is still held after more was seen
pub holds_on : (nodes : ℕ) (list : List NodeId) (a b : FileHand) → SawMore a b → HoldsNodes nodes list a → HoldsNodes nodes list b
holds_on nodes list a b saw holds = ap (λ (h : FileHand). places_of h.held) saw.frame ∙ holds

-- as many cells as nodes are held
held_as_many : (nodes : ℕ) (list : List NodeId) (hand : FileHand) → HoldsNodes nodes list hand → length hand.held ≡ length list
held_as_many nodes list hand holds =
    sym (length-map hand.held (λ (c : HeldCell Cell). c.place)) ∙ ap length holds ∙ length-map list (flushed_place nodes)

-- so room for one more than these leaves room
pub room_left : (nodes : ℕ) (list : List NodeId) (before after : FileHand) → WorksOn before after → HoldsNodes nodes list after → before.held ≡ []
    → length list < before.room → 0 < after.room
room_left nodes list before after on holds none room =
    let many = held_as_many nodes list after holds in
    let left = on.room in
    let empty : length before.held ≡ 0 = ap length none in
    omega (arith, many, left, empty, room)

-- a place among those that are held has a cell there
found_there : (place : ℕ) (cells : List (HeldCell Cell)) → Has (places_of cells) place → (h : HeldCell Cell) × (cell_at place cells ≡ Some h)
found_there place [] has = absurd has
found_there place (c ∷ cells) has = by (is_at place c) refl (λ rest. found_there place cells rest) has
  where
    Found : Type 0
    Found = (h : HeldCell Cell) × (cell_at place (c ∷ cells) ≡ Some h)

    by : (b : Bool) → is_at place c ≡ b → (Has (places_of cells) place → (h : HeldCell Cell) × (cell_at place cells ≡ Some h))
        → Has (places_of (c ∷ cells)) place → Found
    by true here rest has = (c, ap (λ b. if b then Some c else cell_at place cells) here)
    by false other rest has = elim has [
      | inl same ↦ absurd (true_not_false (sym (eq-eqb c.place place same) ∙ other))
      | inr later ↦ let found = rest later in (found.0, ap (λ b. if b then Some c else cell_at place cells) other ∙ found.1)
    ]

-- a place above each that is held lies above those that are
above_each : (place : ℕ) (held : List ℕ) → ((other : ℕ) → Has held other → other < place) → LiesAbove place held
above_each place [] below = tt
above_each place (other ∷ held) below = below other (inl refl)

module _ (given : ℕ → Option OldKept) (t : FileState) (nodes : ℕ) (list : List NodeId) (hand : FileHand) (table : IsFileTable t nodes)
    (work : IsWorking given t hand) (holds : HoldsNodes nodes list hand) (within : All (IsBelow nodes) list) where
  has_place : (l : List NodeId) (node : NodeId) → IsOneOf l node → Has (map (flushed_place nodes) l) (flushed_place nodes node)
  has_place [] node one = absurd one
  has_place (n ∷ l) node one = elim one [ inl same ↦ inl (ap (flushed_place nodes) same) | inr later ↦ inr (has_place l node later) ]

  -- a value that stands for what was flushed of a node is one of that kind
  is_flushed : (node : NodeId) (value : Cell) → StandsForCell given hand.view.first (account_of hand.view.seen) (id.Pending node) value
      → IsSome (as_pending value)
  is_flushed node (cell.Pending p) stood = refl
  is_flushed node (cell.Lock l) stood = absurd stood
  is_flushed node (cell.Bucket b) stood = absurd stood
  is_flushed node (cell.File f) stood = absurd stood
  is_flushed node (cell.Part p) stood = absurd stood

  held_of : (node : NodeId) → IsOneOf list node → IsHeldOf nodes hand.held node
  held_of node one =
      let place = flushed_place nodes node in
      let found = found_there place hand.held (subst (λ l. Has l place) (sym holds) (has_place list node one)) in
      let value : value_held nodes hand.held (id.Pending node) ≡ Some found.0.value = ap (option_map (λ (h : HeldCell Cell). h.value)) found.1 in
      let stood = stands_now given t nodes hand table work (id.Pending node) found.0.value (one_of_all (IsBelow nodes) list node within one) value in
      subst (λ (o : Option Cell). IsSome (Rattle.std.specs.Option.option_and_then as_pending o)) (sym value) (is_flushed node found.0.value stood)

  pub all_held : All (IsHeldOf nodes hand.held) list
  all_held = all_of (IsHeldOf nodes hand.held) list held_of

  node_at : (l : List NodeId) (place : ℕ) → Has (map (flushed_place nodes) l) place → (node : NodeId) × IsOneOf l node × (flushed_place nodes node ≡ place)
  node_at [] place has = absurd has
  node_at (node ∷ l) place has = elim has [
    | inl here ↦ (node, inl refl, here)
    | inr later ↦ let found = node_at l place later in (found.0, inr found.1, found.2)
  ]

  -- the logs' cells lie above all that is held
  pub logs_above : LiesAbove (32 + 10 * nodes) hand.view.held
  logs_above = above_each (32 + 10 * nodes) hand.view.held (λ place has.
      let there = subst (λ l. Has l place) (reverse-reverse (places_of hand.held))
      (has_reverse (reverse (places_of hand.held)) place (subst (λ l. Has l place) work.places has)) in
      let found = node_at list place (subst (λ l. Has l place) holds there) in
      let less = one_of_all (IsBelow nodes) list found.0 within found.1 in
      let at : 16 + 9 * nodes + found.0.0 ≡ place = found.2 in
      omega (arith, less, at))

-- two nodes are one where their numbers are
pub same_nodes : (a b : NodeId) → Decides (nat_eq a.0 b.0) (a ≡ b)
same_nodes a b = (
  (λ is. let same = eqb-true a.0 b.0 is in λ i. record { 0 = same i }),
  (λ one. eq-eqb a.0 b.0 (ap node_number one)),
)
