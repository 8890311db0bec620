-- That the map from places to slots is one to one, and that the cells fill the slots: a table with these cells asks for both.
use Rattle.std.proofs.Common.{◌≡◌, ℕ, zero, suc, ◌+◌, ◌-◌, ◌*◌, ◌/◌, ◌%◌, ◌<◌, ◌≤◌, Bool, true, false, cond, ◌&&◌, nat_lt, nat_le, refl, sym, ap, ◌∙◌, arith}
use Rattle.std.specs.Prelude.{◌↔◌}
use Rattle.std.proofs.Math.Nat.{mod-lt, div-lt_iff_lt-mul, mul_comm}
use Rattle.std.proofs.lemmas.Nat.{mul-add-lt, div-mul-add, mod-mul-add, div-add-mod'}
use Rattle.std.proofs.lemmas.Bool.{cond-true, lt-ltb, ltb-true}
use Rattle.stamp_table.specs.Placing.{IsOneToOne, IsLaidOut}
use Rattle.mem_values.specs.Lines.{turned, stride, seat_of, node_at, is_of_node, slot_behind, place_behind, slot_in, place_in}

-- Where a place within so many rows and columns is.
record IsWithin (rows columns at : ℕ) : Type 0 where
  pub row : at / columns < rows
  pub column : at % columns < columns

within : (rows columns at : ℕ) → at < rows * columns → IsWithin rows columns at
within rows zero at lt = absurd (omega (arith, lt))
within rows (suc columns) at lt =
    let iff : (at / suc columns < rows) ↔ (at < rows * suc columns) = div-lt_iff_lt-mul (omega arith) in
    record { row = iff.1 lt; column = mod-lt at (omega arith) }

-- turned it is within so many columns and rows
turned_within : (rows columns at : ℕ) → at < rows * columns → turned rows columns at < rows * columns
turned_within rows columns at lt = let is = within rows columns at lt in mul-add-lt (at % columns) rows (at / columns) columns is.column is.row

-- turned back it is where it was
turned_back : (rows columns at : ℕ) → at < rows * columns → turned columns rows (turned rows columns at) ≡ at
turned_back rows columns at lt =
    let is = within rows columns at lt in
    ap (λ m. m * columns + turned rows columns at / rows) (mod-mul-add (at % columns) rows (at / columns) is.row)
    ∙ ap (λ d. at / columns * columns + d) (div-mul-add (at % columns) rows (at / columns) is.row)
    ∙ div-add-mod' at columns

module _ (rows columns total number : ℕ) (fits : rows * columns ≡ total) where
  -- a node among those that are parted goes to its seat
  abbrev parted : ℕ → ℕ
  parted at = cond (nat_lt number 8 && nat_lt at total) (turned rows columns at) at

  -- and stays below a bound where all of these are
  parted_within : (bound at : ℕ) → total ≤ bound → at < bound → parted at < bound
  parted_within bound at all lt = by_test (nat_lt number 8) (nat_lt at total) refl
    where
      by_test : (first second : Bool) → nat_lt at total ≡ second → cond (first && second) (turned rows columns at) at < bound
      by_test true true is = let less = turned_within rows columns at (let small = ltb-true at total is in omega (arith, small, fits)) in omega (arith, less, fits, all)
      by_test true false is = lt
      by_test false second is = lt

  -- back from its seat it is that node
  parted_back : (at : ℕ) → cond (nat_lt number 8 && nat_lt (parted at) total) (turned columns rows (parted at)) (parted at) ≡ at
  parted_back at = by_test (nat_lt number 8) (nat_lt at total) refl refl
    where
      by_test : (first second : Bool) → nat_lt number 8 ≡ first → nat_lt at total ≡ second
          → (let seat = cond (first && second) (turned rows columns at) at in
          cond (nat_lt number 8 && nat_lt seat total) (turned columns rows seat) seat ≡ at)
      by_test true true low is =
          let small : at < rows * columns = (let less = ltb-true at total is in omega (arith, less, fits)) in
          let there = turned_within rows columns at small in
          ap (λ b. cond (b && nat_lt (turned rows columns at) total) (turned columns rows (turned rows columns at)) (turned rows columns at)) low
          ∙ cond-true (nat_lt (turned rows columns at) total) _ _ (lt-ltb (turned rows columns at) total (omega (arith, there, fits)))
          ∙ turned_back rows columns at small
      by_test true false low is = ap (λ b. cond (b && nat_lt at total) (turned columns rows at) at) low ∙ ap (λ b. cond b (turned columns rows at) at) is
      by_test false second low is = ap (λ b. cond (b && nat_lt at total) (turned columns rows at) at) low

seats_fit : (nodes : ℕ) → stride nodes * 64 ≡ 64 * stride nodes
seats_fit nodes = mul_comm (stride nodes) 64

pub seat_within : (nodes number node : ℕ) → node < nodes → seat_of nodes number node < nodes
seat_within nodes number node = parted_within (stride nodes) 64 (64 * stride nodes) number (seats_fit nodes) nodes node (omega arith)

pub node_within : (nodes number seat : ℕ) → seat < nodes → node_at nodes number seat < nodes
node_within nodes number seat = parted_within 64 (stride nodes) (64 * stride nodes) number refl nodes seat (omega arith)

pub seat_back : (nodes number node : ℕ) → node_at nodes number (seat_of nodes number node) ≡ node
seat_back nodes number node = parted_back (stride nodes) 64 (64 * stride nodes) number (seats_fit nodes) node

pub node_back : (nodes number seat : ℕ) → seat_of nodes number (node_at nodes number seat) ≡ seat
node_back nodes number seat = parted_back 64 (stride nodes) (64 * stride nodes) number refl seat

-- what lies so far behind the first bucket is one of so many nodes
of_node : (nodes behind : ℕ) → behind < 9 * nodes → is_of_node nodes (16 + behind) ≡ true
of_node nodes behind lt =
    ap (λ b. b && nat_lt (16 + behind) (16 + 9 * nodes)) (lt-ltb 15 (16 + behind) (omega arith)) ∙ lt-ltb (16 + behind) (16 + 9 * nodes) (omega (arith, lt))

-- Where a bucket or a file lies: so far behind the first bucket.
record LiesSoFar (nodes at : ℕ) : Type 0 where
  pub far : at - 16 < 9 * nodes
  pub is : at ≡ 16 + (at - 16)

so_far : (nodes at : ℕ) → is_of_node nodes at ≡ true → LiesSoFar nodes at
so_far nodes at is = by_tests (nat_le 16 at) refl is
  where
    by_tests : (low : Bool) → nat_le 16 at ≡ low → low && nat_lt at (16 + 9 * nodes) ≡ true → LiesSoFar nodes at
    by_tests true low high =
        let least = ltb-true 15 at low in let below = ltb-true at (16 + 9 * nodes) high in
        record { far = omega (arith, least, below); is = omega (arith, least) }
    by_tests false low high = absurd (cc high)

-- The slot of a bucket or a file, in its number and its seat.
record HasSlot (nodes number seat slot : ℕ) : Type 0 where
  pub is : slot ≡ 16 + (number * nodes + seat)
  pub far : number * nodes + seat < 9 * nodes
  pub number_is : (slot - 16) / nodes ≡ number
  pub seat_is : (slot - 16) % nodes ≡ seat

has_slot : (nodes number seat : ℕ) → number < 9 → seat < nodes → HasSlot nodes number seat (16 + number * nodes + seat)
has_slot nodes number seat low few =
    let far = mul-add-lt number nodes seat 9 low few in
    let left : (16 + number * nodes + seat) - 16 ≡ number * nodes + seat = omega arith in
    record {
      is = omega arith;
      far = omega (arith, far);
      number_is = ap (λ n. n / nodes) left ∙ div-mul-add number nodes seat few;
      seat_is = ap (λ n. n % nodes) left ∙ mod-mul-add number nodes seat few;
    }

-- The place of a bucket or a file, in its node and its number.
record HasPlace (nodes number node place : ℕ) : Type 0 where
  pub is : place ≡ 16 + (9 * node + number)
  pub far : 9 * node + number < 9 * nodes
  pub number_is : (place - 16) % 9 ≡ number
  pub node_is : (place - 16) / 9 ≡ node

has_place : (nodes number node : ℕ) → number < 9 → node < nodes → HasPlace nodes number node (16 + 9 * node + number)
has_place nodes number node low few = record {
  is = omega arith;
  far = omega (arith, low, few);
  number_is = omega (arith, low);
  node_is = omega (arith, low);
}

-- The number and the node of what lies so far behind the first bucket.
record IsParted (nodes behind : ℕ) : Type 0 where
  pub low : behind % 9 < 9
  pub few : behind / 9 < nodes

is_parted : (nodes behind : ℕ) → behind < 9 * nodes → IsParted nodes behind
is_parted nodes behind lt = record { low = omega arith; few = omega (arith, lt) }

slot_back : (nodes behind : ℕ) → behind < 9 * nodes → place_in nodes (slot_behind nodes behind) ≡ 16 + behind
slot_back nodes behind lt =
    let own = is_parted nodes behind lt in
    let seat : ℕ = seat_of nodes (behind % 9) (behind / 9) in
    let has = has_slot nodes (behind % 9) seat own.low (seat_within nodes (behind % 9) (behind / 9) own.few) in
    cond-true (is_of_node nodes (slot_behind nodes behind)) _ _ (ap (is_of_node nodes) has.is ∙ of_node nodes ((behind % 9) * nodes + seat) has.far)
    ∙ ap (λ n. 16 + 9 * node_at nodes n ((slot_behind nodes behind - 16) % nodes) + n) has.number_is
    ∙ ap (λ s. 16 + 9 * node_at nodes (behind % 9) s + behind % 9) has.seat_is
    ∙ ap (λ n. 16 + 9 * n + behind % 9) (seat_back nodes (behind % 9) (behind / 9))
    ∙ omega arith

place_back : (nodes behind : ℕ) → behind < 9 * nodes → slot_in nodes (place_behind nodes behind) ≡ 16 + behind
place_back nodes behind lt =
    let own = within 9 nodes behind lt in
    let node : ℕ = node_at nodes (behind / nodes) (behind % nodes) in
    let has = has_place nodes (behind / nodes) node own.row (node_within nodes (behind / nodes) (behind % nodes) own.column) in
    cond-true (is_of_node nodes (place_behind nodes behind)) _ _ (ap (is_of_node nodes) has.is ∙ of_node nodes (9 * node + behind / nodes) has.far)
    ∙ ap (λ n. 16 + n * nodes + seat_of nodes n ((place_behind nodes behind - 16) / 9)) has.number_is
    ∙ ap (λ d. 16 + behind / nodes * nodes + seat_of nodes (behind / nodes) d) has.node_is
    ∙ ap (λ s. 16 + behind / nodes * nodes + s) (node_back nodes (behind / nodes) (behind % nodes))
    ∙ (let all = div-add-mod' behind nodes in omega (arith, all))

-- a map to one side and back leaves each number where it is, where it does so with those of buckets and files, and the others stay
either_way : (nodes : ℕ) (there back : ℕ → ℕ)
    → ((behind : ℕ) → behind < 9 * nodes → cond (is_of_node nodes (there behind)) (back (there behind - 16)) (there behind) ≡ 16 + behind)
    → (at : ℕ) (is : Bool) → is_of_node nodes at ≡ is
    → (let to = cond is (there (at - 16)) at in cond (is_of_node nodes to) (back (to - 16)) to ≡ at)
either_way nodes there back inside at true is = let has = so_far nodes at is in inside (at - 16) has.far ∙ sym has.is
either_way nodes there back inside at false is = ap (λ b. cond b (back (at - 16)) at) is

pub lines_apart : (nodes : ℕ) → IsOneToOne (slot_in nodes) (place_in nodes)
lines_apart nodes = record {
  back = λ place. either_way nodes (slot_behind nodes) (place_behind nodes) (slot_back nodes) place (is_of_node nodes place) refl;
  forth = λ slot. either_way nodes (place_behind nodes) (slot_behind nodes) (place_back nodes) slot (is_of_node nodes slot) refl;
}

-- what goes from those of buckets and files to those of buckets and files stays below a bound above them
stays_below : (nodes cells : ℕ) (there : ℕ → ℕ) → 16 + 9 * nodes ≤ cells → ((behind : ℕ) → behind < 9 * nodes → there behind < 16 + 9 * nodes)
    → (at : ℕ) → at < cells → (is : Bool) → is_of_node nodes at ≡ is → cond is (there (at - 16)) at < cells
stays_below nodes cells there all inside at lt true is =
    let has = so_far nodes at is in let less = inside (at - 16) has.far in omega (arith, less, all)
stays_below nodes cells there all inside at lt false is = lt

slot_below : (nodes behind : ℕ) → behind < 9 * nodes → slot_behind nodes behind < 16 + 9 * nodes
slot_below nodes behind lt =
    let own = is_parted nodes behind lt in
    let has = has_slot nodes (behind % 9) (seat_of nodes (behind % 9) (behind / 9)) own.low (seat_within nodes (behind % 9) (behind / 9) own.few) in
    let is = has.is in let far = has.far in omega (arith, is, far)

place_below : (nodes behind : ℕ) → behind < 9 * nodes → place_behind nodes behind < 16 + 9 * nodes
place_below nodes behind lt =
    let own = within 9 nodes behind lt in
    let has = has_place nodes (behind / nodes) (node_at nodes (behind / nodes) (behind % nodes)) own.row
    (node_within nodes (behind / nodes) (behind % nodes) own.column) in
    let is = has.is in let far = has.far in omega (arith, is, far)

pub lines_laid : (nodes cells : ℕ) → 16 + 9 * nodes ≤ cells → IsLaidOut cells (slot_in nodes) (place_in nodes) nodes
lines_laid nodes cells all = record {
  few = omega (arith, all);
  fills = record {
    slots = λ place lt. stays_below nodes cells (slot_behind nodes) all (slot_below nodes) place lt (is_of_node nodes place) refl;
    places = λ slot lt. stays_below nodes cells (place_behind nodes) all (place_below nodes) slot lt (is_of_node nodes slot) refl;
  };
}
