-- What the values that a core holds show of each tree that it may meet.
use Rattle.std.proofs.Common.{◌≡◌, ◌<◌, ℕ, List, [], ◌∷◌, ◌++◌, length, Option, Some, None, option_map, refl, sym, ap, subst, ◌∙◌, ⊎_elim}
use Rattle.std.specs.Prelude.{if◌then◌else◌}
use Rattle.std.proofs.lemmas.Bool.{cases_Bool}
use Rattle.std.proofs.lemmas.Option.{option_and_then_some}
use Rattle.sfs_base.specs.declared.numbers.NodeId.{NodeId}
use Rattle.sfs_base.specs.Name.{bucket}
use Rattle.disk_nodes.specs.OldKept.{OldKept}
use Rattle.tree_laws.specs.Tree.{TreeState, made_by, bytes_of}
use Rattle.tree_laws.proofs.Joined.{bucket_small}
use Rattle.stamp_table.specs.declared.view.View.{View}
use Rattle.stamp_table.specs.declared.event.Event.{Event}
use Rattle.stamp_table.specs.declared.held.HeldCell.{HeldCell}
use Rattle.stamp_table.specs.Table.{is_at, cell_at}
use Rattle.mem_values.specs.Start.{FileHand}
use Rattle.mem_values.specs.declared.cell.Cell.{Cell}
use Rattle.mem_values.specs.declared.cell.Cell.TheVariants as cell
use Rattle.mem_values.specs.declared.cell.FileCell.{FileCell}
use Rattle.mem_values.specs.declared.cell.PartCell.{PartCell}
use Rattle.mem_values.specs.declared.bucket.Bucket.{Bucket}
use Rattle.mem_values.specs.declared.cell_id.CellId.{CellId}
use Rattle.mem_values.specs.declared.cell_id.CellId.TheVariants as id
use Rattle.mem_values.specs.declared.fact.Fact.{Fact}
use Rattle.mem_values.specs.Places.{node_count, cell_place, IsCell}
use Rattle.mem_values.specs.Stands.{ShowsBucket, file_links}
use Rattle.mem_values.specs.Laws.{ShowsCell, ShowCells, KnowsCell, KnowsCells, MayMeet}
use Rattle.mem_calls.specs.Held.{value_held, as_bucket, as_file, as_part, bucket_held, file_held, part_held}
use Rattle.mem_calls.proofs.Cells.{found_place}

-- a core knows each value that is found
pub knows_found : (given : ℕ → Option OldKept) (view : View TreeState (Event Fact)) (cells : List (HeldCell Cell)) (place : ℕ) (h : HeldCell Cell)
    → KnowsCells given view cells → cell_at place cells ≡ Some h → KnowsCell given view h
knows_found given view [] place h knows is = absurd (cc (is))
knows_found given view (c ∷ cells) place h knows is = ⊎_elim
    (λ here. let same : c ≡ h = cc (subst (λ b. (if b then Some c else cell_at place cells) ≡ Some h) here is) in subst (KnowsCell given view) same knows.0)
    (λ other. knows_found given view cells place h knows.1 (subst (λ b. (if b then Some c else cell_at place cells) ≡ Some h) other is))
    (cases_Bool (is_at place c))

-- a value that is found shows its cell of the tree
abbrev ShowsHeld : TreeState → TreeState → HeldCell Cell → Type 0
ShowsHeld first tree h = (which : CellId) → IsCell (node_count first) (length first.made) which → cell_place (node_count first) which ≡ h.place
    → ShowsCell tree which h.value

show_found : (first tree : TreeState) (cells : List (HeldCell Cell)) (place : ℕ) (h : HeldCell Cell) → ShowCells first tree cells → cell_at place cells ≡ Some h
    → ShowsHeld first tree h
show_found first tree [] place h shows is = absurd (cc (is))
show_found first tree (c ∷ cells) place h shows is = ⊎_elim
    (λ here. let same : c ≡ h = cc (subst (λ b. (if b then Some c else cell_at place cells) ≡ Some h) here is) in subst (ShowsHeld first tree) same shows.0)
    (λ other. show_found first tree cells place h shows.1 (subst (λ b. (if b then Some c else cell_at place cells) ≡ Some h) other is))
    (cases_Bool (is_at place c))

pub show_front : (first tree : TreeState) (cells more : List (HeldCell Cell)) → ShowCells first tree (cells ++ more) → ShowCells first tree cells
show_front first tree [] more shows = tt
show_front first tree (c ∷ cells) more shows = (shows.0, show_front first tree cells more shows.1)

-- the cell of a value that is held
pub held_cell : (nodes : ℕ) (held : List (HeldCell Cell)) (which : CellId) (value : Cell) → value_held nodes held which ≡ Some value → (h : HeldCell Cell)
    × (cell_at (cell_place nodes which) held ≡ Some h) × (h.value ≡ value)
held_cell nodes held which value is = by (cell_at (cell_place nodes which) held) refl is
  where
    by : (o : Option (HeldCell Cell)) → cell_at (cell_place nodes which) held ≡ o → option_map (λ h. h.value) o ≡ Some value → (h : HeldCell Cell)
        × (cell_at (cell_place nodes which) held ≡ Some h) × (h.value ≡ value)
    by None found is = absurd (cc (is))
    by (Some h) found is = (h, found, cc (is))

module _ (hand : FileHand) (nodes : ℕ) (counted : nodes ≡ node_count hand.view.first) (tree : TreeState) (meets : MayMeet hand.view hand.held tree) where
  -- a value that is held shows its cell
  pub value_shows : (which : CellId) (value : Cell) → IsCell nodes (length hand.view.first.made) which → value_held nodes hand.held which ≡ Some value
      → ShowsCell tree which value
  value_shows which value is_cell is =
      let h = held_cell nodes hand.held which value is in
      let place : cell_place (node_count hand.view.first) which ≡ h.0.place = ap (λ n. cell_place n which) (sym counted)
      ∙ sym (found_place (cell_place nodes which) hand.held h.0 h.1) in
      subst (ShowsCell tree which) h.2
      (show_found hand.view.first tree hand.held (cell_place nodes which) h.0 meets.shows h.1 which
      (subst (λ n. IsCell n (length hand.view.first.made) which) counted is_cell) place)

  bucket_of_value : (node : NodeId) (number : ℕ) (value : Cell) (b : Bucket) → as_bucket value ≡ Some b → ShowsCell tree (id.Bucket node number) value
      → ShowsBucket tree node.0 number b
  bucket_of_value node number (cell.Bucket bucket) b is shows = let same : bucket.value ≡ b = cc (is) in subst (ShowsBucket tree node.0 number) same shows
  bucket_of_value node number (cell.Lock lock) b is shows = absurd (cc (is))
  bucket_of_value node number (cell.File file) b is shows = absurd (cc (is))
  bucket_of_value node number (cell.Pending pending) b is shows = absurd (cc (is))
  bucket_of_value node number (cell.Part part) b is shows = absurd (cc (is))

  pub bucket_shows : (node : NodeId) (number : ℕ) (b : Bucket) → node.0 < nodes → number < 8 → bucket_held nodes hand.held node number ≡ Some b
      → ShowsBucket tree node.0 number b
  bucket_shows node number b within eight is = option_and_then_some as_bucket (value_held nodes hand.held (id.Bucket node number)) b is
      (λ value found kind. bucket_of_value node number value b kind (value_shows (id.Bucket node number) value (within, eight) found))

  -- the bucket of a name
  pub name_shows : (node : NodeId) (name : List ℕ) (number : ℕ) (b : Bucket) → node.0 < nodes → number ≡ bucket name
      → bucket_held nodes hand.held node number ≡ Some b → ShowsBucket tree node.0 (bucket name) b
  name_shows node name number b within same is = bucket_shows node (bucket name) b within (bucket_small name)
      (subst (λ n. bucket_held nodes hand.held node n ≡ Some b) same is)

  abbrev ShowsFile : NodeId → FileCell → Type 0
  ShowsFile node file = (file.links ≡ file_links tree node.0) × (file.file.bytes ≡ bytes_of tree node.0)

  file_of_value : (node : NodeId) (value : Cell) (f : FileCell) → as_file value ≡ Some f → ShowsCell tree (id.File node) value → ShowsFile node f
  file_of_value node (cell.File file) f is shows = let same : file.value ≡ f = cc (is) in subst (ShowsFile node) same shows
  file_of_value node (cell.Bucket bucket) f is shows = absurd (cc (is))
  file_of_value node (cell.Lock lock) f is shows = absurd (cc (is))
  file_of_value node (cell.Pending pending) f is shows = absurd (cc (is))
  file_of_value node (cell.Part part) f is shows = absurd (cc (is))

  pub file_shows : (node : NodeId) (f : FileCell) → node.0 < nodes → file_held nodes hand.held node ≡ Some f → ShowsFile node f
  file_shows node f within is = option_and_then_some as_file (value_held nodes hand.held (id.File node)) f is
      (λ value found kind. file_of_value node value f kind (value_shows (id.File node) value within found))

  part_of_value : (core : ℕ) (value : Cell) (p : PartCell) → as_part value ≡ Some p → ShowsCell tree (id.Part (record { 0 = core })) value
      → p.made ≡ made_by tree core
  part_of_value core (cell.Part part) p is shows = let same : part.value ≡ p = cc (is) in subst (λ (x : PartCell). x.made ≡ made_by tree core) same shows
  part_of_value core (cell.Bucket bucket) p is shows = absurd (cc (is))
  part_of_value core (cell.Lock lock) p is shows = absurd (cc (is))
  part_of_value core (cell.Pending pending) p is shows = absurd (cc (is))
  part_of_value core (cell.File file) p is shows = absurd (cc (is))

  pub part_shows : (core : ℕ) (p : PartCell) → core < length hand.view.first.made → part_held nodes hand.held core ≡ Some p → p.made ≡ made_by tree core
  part_shows core p within is = option_and_then_some as_part (value_held nodes hand.held (id.Part (record { 0 = core }))) p is
      (λ value found kind. part_of_value core value p kind (value_shows (id.Part (record { 0 = core })) value within found))
