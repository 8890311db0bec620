-- Cells that are held one after the other, the least place first.
use Rattle.std.proofs.Common.{◌≡◌, ◌⊎◌, ℕ, ◌+◌, ◌*◌, ◌<◌, ◌≤◌, Bool, true, false, cond, List, [], ◌∷◌, length, Option, None, inl, inr, refl, sym, subst, arith, nat_le, append-nil}
use borrow.Author.Tests.{leb-true, le-leb}
use Rattle.sfs_base.proofs.BasicTruth.{true_or_false}
use Rattle.disk_nodes.specs.OldKept.{OldKept}
use Rattle.cut_laws.specs.Rules.{IsOneOf}
use Rattle.stamp_table.specs.Ascending.{LiesAbove}
use Rattle.mem_values.specs.Start.{FileHand, FileState}
use Rattle.mem_values.specs.declared.cell_id.CellId.{CellId}
use Rattle.mem_values.specs.declared.cell_id.CellId.TheVariants as id
use Rattle.mem_values.specs.Places.{cell_place, IsCell}
use Rattle.mem_values.proofs.Places.{places_apart}
use Rattle.mem_calls.specs.Working.{IsWorking, WorksOn, StillHolds, Gains}
use Rattle.mem_calls.proofs.Left.{on_again, still_again}
use Rattle.mem_rename.specs.Ways.{HasMet}
use Rattle.mem_rename.specs.Holding.{IsTreeCell, AreTreeCells, IsLeastAbove, IsNextAbove, HoldsCell, HoldsAsked}

-- what works on works on
pub works_on_same : (hand : FileHand) → WorksOn hand hand
works_on_same hand = record { frame = refl; view = refl; seen = ([], append-nil hand.view.seen); room = refl }

pub still_same : (nodes : ℕ) (hand : FileHand) → StillHolds nodes hand hand
still_same nodes hand = record { values = λ which value is. is; trees = λ tree meets. meets }

-- what is held is still held
pub holds_still : (nodes : ℕ) (before after : FileHand) (cell : CellId) → StillHolds nodes before after → HoldsCell nodes before.held cell
    → HoldsCell nodes after.held cell
holds_still nodes before after cell still holds = (holds.0, still.values cell holds.0 holds.1, holds.2)

-- a bucket or a file lies between the lock and the logs
pub tree_place : (nodes : ℕ) (cell : CellId) → IsTreeCell nodes cell → (16 ≤ cell_place nodes cell) × (cell_place nodes cell < 32 + 10 * nodes)
tree_place nodes (id.Bucket node number) is = (omega arith, let n = is.0 in let k = is.1 in omega (arith, n, k))
tree_place nodes (id.File node) is = (omega arith, omega (arith, is))
tree_place nodes id.Lock is = absurd is
tree_place nodes (id.Pending node) is = absurd is
tree_place nodes (id.Part core) is = absurd is

pub tree_cell : (nodes cores : ℕ) (cell : CellId) → IsTreeCell nodes cell → IsCell nodes cores cell
tree_cell nodes cores (id.Bucket node number) is = is
tree_cell nodes cores (id.File node) is = is
tree_cell nodes cores id.Lock is = absurd is
tree_cell nodes cores (id.Pending node) is = absurd is
tree_cell nodes cores (id.Part core) is = absurd is

pub one_is_tree_cell : (nodes : ℕ) (cells : List CellId) (cell : CellId) → AreTreeCells nodes cells → IsOneOf cells cell → IsTreeCell nodes cell
one_is_tree_cell nodes [] cell are among = absurd among
one_is_tree_cell nodes (c ∷ cells) cell are among = elim among [
  | inl same ↦ subst (IsTreeCell nodes) same are.0
  | inr rest ↦ one_is_tree_cell nodes cells cell are.1 rest
]

-- how many of some cells lie up to a place
abbrev pub count_low : ℕ → ℕ → List CellId → ℕ
count_low nodes last [] = 0
count_low nodes last (c ∷ cells) = cond (nat_le (cell_place nodes c) last) 1 0 + count_low nodes last cells

low_one : (place last later : ℕ) → last ≤ later → ◌≤◌ (cond (nat_le place last) 1 0) (cond (nat_le place later) 1 0)
low_one place last later le = elim (true_or_false (nat_le place last)) [
  | inl low ↦ rw low (let a = leb-true _ _ low in rw (le-leb place later (omega (arith, a, le))) (omega arith))
  | inr high ↦ rw high (omega arith)
]

count_more : (nodes last later : ℕ) (cells : List CellId) → last ≤ later → count_low nodes last cells ≤ count_low nodes later cells
count_more nodes last later [] le = omega arith
count_more nodes last later (c ∷ cells) le = let a = low_one (cell_place nodes c) last later le in let b = count_more nodes last later cells le in
    omega (arith, a, b)

-- one more where a cell lies between
count_next : (nodes last : ℕ) (cells : List CellId) (next : CellId) → IsOneOf cells next → last < cell_place nodes next
    → count_low nodes last cells + 1 ≤ count_low nodes (cell_place nodes next) cells
count_next nodes last [] next among above = absurd among
count_next nodes last (c ∷ cells) next among above = elim among [
  | inl same ↦
      let le = count_more nodes last (cell_place nodes next) cells (omega (arith, above)) in
      subst (λ (x : CellId). cond (nat_le (cell_place nodes x) last) 1 0 + count_low nodes last cells + 1 ≤ cond
      (nat_le (cell_place nodes x) (cell_place nodes next)) 1 0 + count_low nodes (cell_place nodes next) cells) (sym same) (here le)
  | inr rest ↦ let a = low_one (cell_place nodes c) last (cell_place nodes next) (omega (arith, above)) in
      let b = count_next nodes last cells next rest above in omega (arith, a, b)
]
  where
    here : count_low nodes last cells ≤ count_low nodes (cell_place nodes next) cells
        → cond (nat_le (cell_place nodes next) last) 1 0 + count_low nodes last cells + 1 ≤ cond
        (nat_le (cell_place nodes next) (cell_place nodes next)) 1 0 + count_low nodes (cell_place nodes next) cells
    here le = elim (true_or_false (nat_le (cell_place nodes next) last)) [
      | inl low ↦ let a = leb-true _ _ low in absurd (omega (arith, a, above))
      | inr high ↦ rw high (rw (le-leb (cell_place nodes next) (cell_place nodes next) (omega arith)) (omega (arith, le)))
    ]

count_all : (nodes last : ℕ) (cells : List CellId) → count_low nodes last cells ≤ length cells
count_all nodes last [] = omega arith
count_all nodes last (c ∷ cells) = let a = at_most (nat_le (cell_place nodes c) last) in let b = count_all nodes last cells in omega (arith, a, b)
  where
    at_most : (b : Bool) → cond b 1 0 ≤ 1
    at_most true = omega arith
    at_most false = omega arith

higher : (places : List ℕ) (last place : ℕ) → LiesAbove (last + 1) places → last < place → LiesAbove place places
higher [] last place above lt = tt
higher (p ∷ places) last place above lt = omega (arith, above, lt)

-- So far a core holds those of some cells that lie up to a place.
pub record HoldsSoFar (given : ℕ → Option OldKept) (t : FileState) (nodes : ℕ) (cells : List CellId) (last : ℕ) (start now : FileHand) : Type 0 where
  pub work : IsWorking given t now
  pub on : WorksOn start now
  pub still : StillHolds nodes start now
  pub held : (cell : CellId) → IsOneOf cells cell → cell_place nodes cell ≤ last → HoldsCell nodes now.held cell
  pub above : LiesAbove (last + 1) now.view.held
  pub low : last < 32 + 10 * nodes
  pub met : (last ≡ 15) ⊎ HasMet now
  pub room : start.room ≤ now.room + count_low nodes last cells

module _ (given : ℕ → Option OldKept) (t : FileState) (nodes : ℕ) (cells : List CellId) (are : AreTreeCells nodes cells) (start : FileHand) where
  pub begins : IsWorking given t start → LiesAbove 16 start.view.held → HoldsSoFar given t nodes cells 15 start start
  begins work above = record {
    work = work;
    on = works_on_same start;
    still = still_same nodes start;
    held = λ cell among le. let place = (tree_place nodes cell (one_is_tree_cell nodes cells cell are among)).0 in absurd (omega (arith, place, le));
    above = above;
    low = omega arith;
    met = inl refl;
    room = omega arith;
  }

  module _ (last : ℕ) (now : FileHand) (so : HoldsSoFar given t nodes cells last start now) where
    pub goes_on : (next : CellId) (after : FileHand) → IsLeastAbove nodes last cells next → IsWorking given t after → Gains nodes next now after
        → HoldsSoFar given t nodes cells (cell_place nodes next) start after
    goes_on next after least work gains = record {
      work = work;
      on = on_again start now after so.on gains.on;
      still = still_again nodes start now after so.still gains.still;
      held = λ cell among le. elim (least.least cell among) [
        | inl below ↦ holds_still nodes now after cell gains.still (so.held cell among below)
        | inr further ↦
            let same = places_apart nodes 0 next cell (tree_cell nodes 0 next (one_is_tree_cell nodes cells next are least.among))
            (tree_cell nodes 0 cell (one_is_tree_cell nodes cells cell are among)) (omega (arith, le, further)) in
            subst (HoldsCell nodes after.held) same gains.there
      ];
      above = subst (LiesAbove (cell_place nodes next + 1)) (sym gains.top) (omega arith);
      low = (tree_place nodes next (one_is_tree_cell nodes cells next are least.among)).1;
      met = inr (record { legal = gains.legal; met = gains.seen_met });
      room = (let r = so.room in let one = gains.room in let more = count_next nodes last cells next least.among least.above in omega (arith, r, one, more));
    }

    pub may_go_on : (next : CellId) → IsLeastAbove nodes last cells next → LiesAbove (cell_place nodes next) now.view.held
    may_go_on next least = higher now.view.held last (cell_place nodes next) so.above least.above

    pub room_for : (next : CellId) → IsLeastAbove nodes last cells next → length cells ≤ start.room → 0 < now.room
    room_for next least enough =
        let more = count_next nodes last cells next least.among least.above in
        let all = count_all nodes (cell_place nodes next) cells in
        let r = so.room in
        omega (arith, more, all, r, enough)

    pub ends : IsNextAbove nodes last cells None → HoldsAsked nodes cells start now
    ends none = record {
      on = so.on;
      still = so.still;
      holds = λ cell among. so.held cell among (none cell among);
      below = higher now.view.held last (32 + 10 * nodes) so.above so.low;
      met = λ cell among. elim so.met [
        | inl first ↦
            let le = none cell among in let place = (tree_place nodes cell (one_is_tree_cell nodes cells cell are among)).0 in
            absurd (omega (arith, le, first, place))
        | inr met ↦ met
      ];
    }

    pub room_left : start.room ≤ now.room + length cells
    room_left = let r = so.room in let all = count_all nodes last cells in omega (arith, r, all)
