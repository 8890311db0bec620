-- Values are renewed from the last one on.
use Rattle.std.specs.Prelude.{if◌then◌else◌, ◌&&◌, ◌||◌, option_map, is_some, not, AllPairs}
use Rattle.std.specs.List.{cons_option}
use Rattle.std.specs.List.Sorted.{IsStrictlyIncreasing}
use borrow.Author.Tests.{eqb-true}
use Rattle.std.proofs.Common.{◌≡◌, ◌≢◌, ◌+◌, ◌-◌, ◌<◌, ◌≤◌, ◌∷◌, ◌++◌, ◌∙◌, ℕ, zero, suc, true, false, Bool, nat_eq, List, [], map, length, take, drop, set, get_or, Option, Some, None, refl, sym, ap, subst, arith}
use Rattle.std.proofs.Math.ListN.{get_or-map as get_or-mapped}
use Rattle.std.proofs.lemmas.List.{length-map, take_all}
use Rattle.std.proofs.lemmas.List.Kept.{AllPairs-cons, AllPairs-from_increasing}
use Rattle.sfs_base.specs.declared.numbers.NodeId.{NodeId}
use Rattle.sfs_base.specs.Listed.{is_listed}
use Rattle.sfs_base.proofs.BasicNumbers.{not_same}
use Rattle.sfs_base.proofs.BasicTruth.{true_not_false}
use Rattle.keyed_list.specs.Ascending.{AscendBy, item_with, without}
use Rattle.tree_laws.specs.NameRow.{node_number}
use Rattle.disk_nodes.specs.OldKept.{OldKept}
use Rattle.disk_nodes.specs.declared.old.OldEntry.{OldEntry}
use Rattle.disk_nodes.specs.Nodes.{entry_node, entry_old}
use Rattle.mem_values.specs.declared.cell.Cell.{Cell}
use Rattle.fsync_values.specs.Lending.{old_of_value, entries_of}
use Rattle.fsync_values.specs.Renewing.{kept_of_node, values_by, asks_box, boxes_asked}

-- the values once those from a place on are renewed
abbrev pub behind : (NodeId → Cell → Cell) → ℕ → List NodeId → List Cell → List Cell
behind f at nodes values = take at values ++ values_by f (drop at nodes) (drop at values)

pub behind_long : (f : NodeId → Cell → Cell) (at : ℕ) (nodes : List NodeId) (values : List Cell) → length values ≡ length nodes
    → length (behind f at nodes values) ≡ length values
behind_long f zero [] [] same = refl
behind_long f zero [] (v ∷ values) same = absurd (omega (arith, same))
behind_long f zero (n ∷ nodes) [] same = absurd (omega (arith, same))
behind_long f zero (n ∷ nodes) (v ∷ values) same = ap suc (behind_long f zero nodes values (omega (arith, same)))
behind_long f (suc at) [] [] same = refl
behind_long f (suc at) [] (v ∷ values) same = absurd (omega (arith, same))
behind_long f (suc at) (n ∷ nodes) [] same = absurd (omega (arith, same))
behind_long f (suc at) (n ∷ nodes) (v ∷ values) same = ap suc (behind_long f at nodes values (omega (arith, same)))

-- the last one before them is as it was
pub behind_there : (f : NodeId → Cell → Cell) (at : ℕ) (nodes : List NodeId) (values : List Cell) (d : Cell) → length values ≡ length nodes
    → at < length values → get_or (behind f (at + 1) nodes values) at d ≡ get_or values at d
behind_there f at [] [] d same within = absurd (omega (arith, within))
behind_there f at [] (v ∷ values) d same within = absurd (omega (arith, same))
behind_there f at (n ∷ nodes) [] d same within = absurd (omega (arith, within))
behind_there f zero (n ∷ nodes) (v ∷ values) d same within = refl
behind_there f (suc at) (n ∷ nodes) (v ∷ values) d same within =
    let next : suc at + 1 ≡ suc (at + 1) = omega arith in
    ap (λ k. get_or (behind f k (n ∷ nodes) (v ∷ values)) (suc at) d) next ∙ behind_there f at nodes values d (omega (arith, same)) (omega (arith, within))

-- and is renewed
pub behind_next : (f : NodeId → Cell → Cell) (at : ℕ) (nodes : List NodeId) (values : List Cell) (m : NodeId) (d : Cell) → length values ≡ length nodes
    → at < length values → set (behind f (at + 1) nodes values) at (f (get_or nodes at m) (get_or values at d)) ≡ behind f at nodes values
behind_next f at [] [] m d same within = absurd (omega (arith, within))
behind_next f at [] (v ∷ values) m d same within = absurd (omega (arith, same))
behind_next f at (n ∷ nodes) [] m d same within = absurd (omega (arith, within))
behind_next f zero (n ∷ nodes) (v ∷ values) m d same within = refl
behind_next f (suc at) (n ∷ nodes) (v ∷ values) m d same within =
    let next : suc at + 1 ≡ suc (at + 1) = omega arith in
    ap (λ k. set (behind f k (n ∷ nodes) (v ∷ values)) (suc at) (f (get_or nodes at m) (get_or values at d))) next
    ∙ ap (λ l. v ∷ l) (behind_next f at nodes values m d (omega (arith, same)) (omega (arith, within)))

-- at first none is, in the end all are
pub behind_none : (f : NodeId → Cell → Cell) (nodes : List NodeId) (values : List Cell) → length values ≡ length nodes
    → behind f (length nodes) nodes values ≡ values
behind_none f [] [] same = refl
behind_none f [] (v ∷ values) same = absurd (omega (arith, same))
behind_none f (n ∷ nodes) [] same = absurd (omega (arith, same))
behind_none f (n ∷ nodes) (v ∷ values) same = ap (λ l. v ∷ l) (behind_none f nodes values (omega (arith, same)))

-- the boxes that the first ones ask, with the last of them
pub boxes_next : (after : List OldEntry) (at : ℕ) (nodes : List NodeId) (values : List Cell) (m : NodeId) (d : Cell) → length values ≡ length nodes
    → at < length values → boxes_asked after (take (at + 1) nodes) (take (at + 1) values)
    ≡ boxes_asked after (take at nodes) (take at values)
    + (if asks_box (kept_of_node after (get_or nodes at m).0) (get_or values at d) then 1 else 0)
boxes_next after at [] [] m d same within = absurd (omega (arith, within))
boxes_next after at [] (v ∷ values) m d same within = absurd (omega (arith, same))
boxes_next after at (n ∷ nodes) [] m d same within = absurd (omega (arith, within))
boxes_next after zero (n ∷ nodes) (v ∷ values) m d same within = plus (if asks_box (kept_of_node after n.0) v then 1 else 0)
  where
    plus : (k : ℕ) → k + 0 ≡ 0 + k
    plus k = omega arith
boxes_next after (suc at) (n ∷ nodes) (v ∷ values) m d same within =
    let next : suc at + 1 ≡ suc (at + 1) = omega arith in
    ap (λ k. boxes_asked after (take k (n ∷ nodes)) (take k (v ∷ values))) next
    ∙ ap (λ k. (if asks_box (kept_of_node after n.0) v then 1 else 0) + k)
    (boxes_next after at nodes values m d (omega (arith, same)) (omega (arith, within)))
    ∙ joined (if asks_box (kept_of_node after n.0) v then 1 else 0) (boxes_asked after (take at nodes) (take at values))
    (if asks_box (kept_of_node after (get_or nodes at m).0) (get_or values at d) then 1 else 0)
  where
    joined : (a b c : ℕ) → a + (b + c) ≡ (a + b) + c
    joined a b c = omega arith

-- nodes that ascend differ
pub earlier_differs : (nodes : List NodeId) (low high : ℕ) (m : NodeId) → IsStrictlyIncreasing (map node_number nodes) → low < high → high < length nodes
    → (get_or nodes low m).0 ≢ (get_or nodes high m).0
earlier_differs nodes low high m up less within same =
    let pairs = AllPairs-from_increasing (map node_number nodes) up low high m.0 less (rw length-map within) in
    let lt = subst (λ k. k < (get_or nodes high m).0) (get_or-mapped node_number nodes low m)
    (subst (λ k. get_or (map node_number nodes) low m.0 < k) (get_or-mapped node_number nodes high m) pairs) in
    omega (arith, lt, same)

-- of another number nothing changes where an item goes
without_other : {X : Type 0} (key : X → ℕ) (items : List X) (n other : ℕ) → other ≢ n → item_with key other (without key n items) ≡ item_with key other items
without_other key [] n other apart = refl
without_other key (item ∷ items) n other apart = by (nat_eq (key item) n) refl (without_other key items n other apart)
  where
    by : (b : Bool) → nat_eq (key item) n ≡ b → item_with key other (without key n items) ≡ item_with key other items
        → item_with key other (if b then items else item ∷ without key n items) ≡ item_with key other (item ∷ items)
    by true is rest =
        let no : nat_eq (key item) other ≡ false = not_same (key item) other (λ same. apart (sym same ∙ eqb-true (key item) n is)) in
        sym (ap (λ b. if b then Some item else item_with key other items) no)
    by false is rest = ap (λ o. if nat_eq (key item) other then Some item else o) rest

-- How far values are renewed: those from a place on are; of the nodes before it the entries are still there, and there are boxes enough for them.
pub record IsRenewing (f : NodeId → Cell → Cell) (after left : List OldEntry) (nodes : List NodeId) (at : ℕ) (was now : List Cell) (spares : ℕ) : Type 0 where
  pub count : length was ≡ length nodes
  pub values : now ≡ behind f at nodes was
  pub others : (k : ℕ) (m : NodeId) → k < at → kept_of_node left (get_or nodes k m).0 ≡ kept_of_node after (get_or nodes k m).0
  pub enough : boxes_asked after (take at nodes) (take at was) ≤ spares

pub renewing_none : (f : NodeId → Cell → Cell) (after : List OldEntry) (nodes : List NodeId) (was : List Cell) (spares at : ℕ) → length was ≡ length nodes
    → at ≡ length nodes → boxes_asked after nodes was ≤ spares → IsRenewing f after after nodes at was was spares
renewing_none f after nodes was spares at count all enough = record {
  count = count;
  values = sym (subst (λ k. behind f k nodes was ≡ was) (sym all) (behind_none f nodes was count));
  others = λ k m lt. refl;
  enough = subst (λ k. k ≤ spares)
      (λ i. boxes_asked after (sym (take_all at nodes (omega (arith, all))) i) (sym (take_all at was (let n = count in omega (arith, all, n))) i)) enough;
}

-- the next one's entry goes, its value is renewed, and a box where it asks one
module _ (f : NodeId → Cell → Cell) (after left : List OldEntry) (nodes : List NodeId) (at : ℕ) (was now : List Cell) (spares : ℕ) (m : NodeId) (d : Cell)
    (up : IsStrictlyIncreasing (map node_number nodes)) (within : at < length nodes) (so_far : IsRenewing f after left nodes (at + 1) was now spares) where
  abbrev node : NodeId
  node = get_or nodes at m

  within_was : at < length was
  within_was = let same = so_far.count in omega (arith, within, same)

  pub same_entry : kept_of_node left node.0 ≡ kept_of_node after node.0
  same_entry = so_far.others at m (omega arith)

  pub same_value : get_or now at d ≡ get_or was at d
  same_value = ap (λ l. get_or l at d) so_far.values ∙ behind_there f at nodes was d so_far.count within_was

  pub box_left : asks_box (kept_of_node after node.0) (get_or was at d) ≡ true → 0 < spares
  box_left asks =
      let more = boxes_next after at nodes was m d so_far.count within_was in
      let one = counted (asks_box (kept_of_node after node.0) (get_or was at d)) asks in
      let enough = so_far.enough in
      omega (arith, more, one, enough)
    where
      counted : (b : Bool) → b ≡ true → 0 < (if b then 1 else 0)
      counted true yes_it = omega arith
      counted false none = absurd (true_not_false (sym none))

  pub renewing_next : (spares_then : ℕ) → spares ≤ spares_then + (if asks_box (kept_of_node after node.0) (get_or was at d) then 1 else 0)
      → IsRenewing f after (without entry_node node.0 left) nodes at was (set now at (f node (get_or was at d))) spares_then
  renewing_next spares_then few = record {
    count = so_far.count;
    values = ap (λ l. set l at (f node (get_or was at d))) so_far.values ∙ behind_next f at nodes was m d so_far.count within_was;
    others = λ k n lt.
        ap (option_map entry_old) (without_other entry_node left node.0 (get_or nodes k n).0
        (λ same. earlier_differs nodes k at n up lt within (same ∙ ap (λ (x : NodeId). x.0) (same_default nodes at m n within))))
        ∙ so_far.others k n (omega (arith, lt));
    enough =
        let more = boxes_next after at nodes was m d so_far.count within_was in
        let enough = so_far.enough in
        omega (arith, more, enough, few);
  }
    where
      same_default : (l : List NodeId) (k : ℕ) (x y : NodeId) → k < length l → get_or l k x ≡ get_or l k y
      same_default [] k x y lt = absurd (omega (arith, lt))
      same_default (z ∷ l) zero x y lt = refl
      same_default (z ∷ l) (suc k) x y lt = same_default l k x y (omega (arith, lt))

-- no more boxes are asked with one value more, and one where that has nothing of the disk
pub boxes_more : (after : List OldEntry) (nodes : List NodeId) (at : ℕ) (values : List Cell) (d : Cell) → at < length values
    → boxes_asked after nodes (take (at + 1) values)
    ≤ boxes_asked after nodes (take at values) + (if is_some (old_of_value (get_or values at d)) then 0 else 1)
boxes_more after [] at values d within = omega arith
boxes_more after (n ∷ nodes) at [] d within = absurd (omega (arith, within))
boxes_more after (n ∷ nodes) zero (v ∷ values) d within = by (is_some (kept_of_node after n.0)) (is_some (old_of_value v)) (boxes_asked after nodes [])
    (none nodes)
  where
    none : (l : List NodeId) → boxes_asked after l [] ≡ 0
    none [] = refl
    none (m ∷ l) = refl

    by : (old had : Bool) (rest : ℕ) → rest ≡ 0 → (if old && not had then 1 else 0) + rest ≤ 0 + (if had then 0 else 1)
    by true true rest is = omega (arith, is)
    by true false rest is = omega (arith, is)
    by false true rest is = omega (arith, is)
    by false false rest is = omega (arith, is)
boxes_more after (n ∷ nodes) (suc at) (v ∷ values) d within =
    let next : suc at + 1 ≡ suc (at + 1) = omega arith in
    let more = boxes_more after nodes at values d (omega (arith, within)) in
    let same = ap (λ k. boxes_asked after (n ∷ nodes) (take k (v ∷ values))) next in
    omega (arith, more, same)

-- whether a node is listed is whether an item has its number
pub listed_item : (nodes : List NodeId) (n : ℕ) → is_listed (map node_number nodes) n ≡ is_some (item_with node_number n nodes)
listed_item [] n = refl
listed_item (node ∷ nodes) n = by (nat_eq node.0 n) (listed_item nodes n)
  where
    by : (b : Bool) → is_listed (map node_number nodes) n ≡ is_some (item_with node_number n nodes)
        → (b || is_listed (map node_number nodes) n) ≡ is_some (if b then Some node else item_with node_number n nodes)
    by true rest = refl
    by false rest = rest

-- entries of nodes that ascend do so
pub entries_ascend : (nodes : List NodeId) (values : List Cell) → IsStrictlyIncreasing (map node_number nodes) → AscendBy entry_node (entries_of nodes values)
entries_ascend nodes values up = ascending nodes values (AllPairs-from_increasing (map node_number nodes) up)
  where
    Ascend : List NodeId → Type 0
    Ascend l = AllPairs (λ (a b : ℕ). a < b) (map node_number l)

    all_above : (low : ℕ) (l : List NodeId) (vs : List Cell) → ((k : ℕ) (d : ℕ) → k < length (map node_number l) → low < get_or (map node_number l) k d)
        → (k : ℕ) (d : OldEntry) → k < length (entries_of l vs) → low < entry_node (get_or (entries_of l vs) k d)
    all_above low [] vs above k d within = absurd (omega (arith, within))
    all_above low (n ∷ l) [] above k d within = absurd (omega (arith, within))
    all_above low (n ∷ l) (v ∷ vs) above k d within =
        by (old_of_value v) (above 0 0 (omega arith)) (all_above low l vs (λ j e less. above (suc j) e (omega (arith, less)))) k d within
      where
        by : (o : Option OldKept) → low < n.0 → ((j : ℕ) (e : OldEntry) → j < length (entries_of l vs) → low < entry_node (get_or (entries_of l vs) j e))
            → (j : ℕ) (e : OldEntry) → j < length (cons_option (option_map (λ old. record { node = n; old = old }) o) (entries_of l vs))
            → low < entry_node (get_or (cons_option (option_map (λ old. record { node = n; old = old }) o) (entries_of l vs)) j e)
        by None first rest j e less = rest j e less
        by (Some old) first rest zero e less = first
        by (Some old) first rest (suc j) e less = rest j e (omega (arith, less))

    ascending : (l : List NodeId) (vs : List Cell) → Ascend l → AscendBy entry_node (entries_of l vs)
    ascending [] vs all = λ i j d lt within. absurd (omega (arith, within))
    ascending (n ∷ l) [] all = λ i j d lt within. absurd (omega (arith, within))
    ascending (n ∷ l) (v ∷ vs) all =
        by (old_of_value v)
        (all_above n.0 l vs (λ k d less. all 0 (suc k) d (omega arith) (omega (arith, less))))
        (ascending l vs (λ i j d lt less. all (suc i) (suc j) d (omega (arith, lt)) (omega (arith, less))))
      where
        by : (o : Option OldKept) → ((k : ℕ) (d : OldEntry) → k < length (entries_of l vs) → n.0 < entry_node (get_or (entries_of l vs) k d))
            → AscendBy entry_node (entries_of l vs)
            → AscendBy entry_node (cons_option (option_map (λ old. record { node = n; old = old }) o) (entries_of l vs))
        by None above rest = rest
        by (Some old) above rest = AllPairs-cons (λ a b. entry_node a < entry_node b) (record { node = n; old = old }) (entries_of l vs) above rest

-- nodes whose numbers rise ascend
pub nodes_ascend : (nodes : List NodeId) → IsStrictlyIncreasing (map node_number nodes) → AscendBy node_number nodes
nodes_ascend nodes up i j d less within =
    let pairs = AllPairs-from_increasing (map node_number nodes) up i j d.0 less (rw length-map within) in
    subst (λ k. k < (get_or nodes j d).0) (get_or-mapped node_number nodes i d)
    (subst (λ k. get_or (map node_number nodes) i d.0 < k) (get_or-mapped node_number nodes j d) pairs)

-- One value is renewed, in the words of a loop that goes down.
module _ (f : NodeId → Cell → Cell) (after left : List OldEntry) (nodes : List NodeId) (at : ℕ) (was now : List Cell) (spares : ℕ) (m : NodeId) (v : Cell)
    (up : IsStrictlyIncreasing (map node_number nodes)) (some : 0 < at) (low : at ≤ length nodes) (read : v ≡ get_or now (at - 1) v)
    (so_far : IsRenewing f after left nodes at was now spares) where
  before : IsRenewing f after left nodes ((at - 1) + 1) was now spares
  before = let same : (at - 1) + 1 ≡ at = omega (arith, some) in subst (λ k. IsRenewing f after left nodes k was now spares) (sym same) so_far

  within : at - 1 < length nodes
  within = omega (arith, some, low)

  -- what is taken of the entries is what they had at first, and what is read is what was there
  pub taken : kept_of_node left (get_or nodes (at - 1) m).0 ≡ kept_of_node after (get_or nodes (at - 1) m).0
  taken = same_entry f after left nodes (at - 1) was now spares m v up within before

  own : v ≡ get_or was (at - 1) v
  own = read ∙ same_value f after left nodes (at - 1) was now spares m v up within before

  pub renew_needs : asks_box (kept_of_node left (get_or nodes (at - 1) m).0) v ≡ true → 0 < spares
  renew_needs asks =
      box_left f after left nodes (at - 1) was now spares m v up within before
      ((λ i. asks_box (sym taken i) (sym own i)) ∙ asks)

  pub renew_step : (new : Cell) (rest : List OldEntry) (spares_then : ℕ) → new ≡ f (get_or nodes (at - 1) m) v
      → rest ≡ without entry_node (get_or nodes (at - 1) m).0 left
      → spares ≤ spares_then + (if asks_box (kept_of_node left (get_or nodes (at - 1) m).0) v then 1 else 0)
      → IsRenewing f after rest nodes (at - 1) was (set now (at - 1) new) spares_then
  renew_step new rest spares_then is gone few =
      subst (λ (x : List OldEntry × Cell). IsRenewing f after x.0 nodes (at - 1) was (set now (at - 1) x.1) spares_then)
      (λ i. (sym gone i, (ap (f (get_or nodes (at - 1) m)) (sym own) ∙ sym is) i))
      (renewing_next f after left nodes (at - 1) was now spares m v up within before spares_then
      (subst (λ k. spares ≤ spares_then + k) (λ i. if asks_box (taken i) (own i) then 1 else 0) few))

-- of no values no box is asked
pub boxes_none : (after : List OldEntry) (nodes : List NodeId) → boxes_asked after nodes [] ≡ 0
boxes_none after [] = refl
boxes_none after (_ ∷ _) = refl

-- of a value that was read one box more is enough where that has nothing of the disk
pub boxes_enough : (after : List OldEntry) (nodes : List NodeId) (at : ℕ) (values : List Cell) (v : Cell) → at < length values → v ≡ get_or values at v
    → boxes_asked after nodes (take (at + 1) values) ≤ boxes_asked after nodes (take at values) + (if is_some (old_of_value v) then 0 else 1)
boxes_enough after nodes at values v within read =
    subst (λ (x : Cell). boxes_asked after nodes (take (at + 1) values) ≤ boxes_asked after nodes (take at values) +
    (if is_some (old_of_value x) then 0 else 1))
    (sym read) (boxes_more after nodes at values v within)
