-- Values are lent one after another, and restored from the last one on.
use Rattle.std.specs.Prelude.{option_map, is_some}
use Rattle.std.specs.List.{cons_option}
use Rattle.std.proofs.Common.{◌≡◌, ◌+◌, ◌-◌, ◌<◌, ◌≤◌, ◌∷◌, ◌++◌, ◌∙◌, ℕ, zero, suc, true, false, List, [], map, length, take, drop, set, get_or, Option, Some, None, refl, sym, ap, subst, arith, append-nil, length-append}
use Rattle.std.proofs.lemmas.List.{length-map, take_all, get_or-set_same, set-get_or, set-set}
use Rattle.sfs_base.specs.declared.numbers.NodeId.{NodeId}
use Rattle.sfs_base.proofs.BasicTruth.{true_not_false}
use Rattle.disk_nodes.specs.OldKept.{OldKept}
use Rattle.disk_nodes.specs.declared.old.OldEntry.{OldEntry}
use Rattle.mem_values.specs.declared.cell.Cell.{Cell}
use Rattle.mem_values.specs.declared.cell.Cell.TheVariants as cell
use Rattle.mem_values.proofs.Basics.{is_value}
use Rattle.fsync_values.specs.Lending.{HOLLOW, old_of_value, with_old, lent_value, entry_of, entries_of, IsLent}

-- the values once the first ones are lent
abbrev pub lent_until : ℕ → List Cell → List Cell
lent_until at values = map lent_value (take at values) ++ drop at values

pub lent_long : (at : ℕ) (values : List Cell) → length (lent_until at values) ≡ length values
lent_long zero values = refl
lent_long (suc at) [] = refl
lent_long (suc at) (v ∷ values) = ap suc (lent_long at values)

-- the next one is as it was
pub lent_there : (at : ℕ) (values : List Cell) (d : Cell) → at < length values → get_or (lent_until at values) at d ≡ get_or values at d
lent_there at [] d within = absurd (omega (arith, within))
lent_there zero (v ∷ values) d within = refl
lent_there (suc at) (v ∷ values) d within = lent_there at values d (omega (arith, within))

-- and is lent
pub lent_next : (at : ℕ) (values : List Cell) (d : Cell) → at < length values
    → set (lent_until at values) at (lent_value (get_or values at d)) ≡ lent_until (at + 1) values
lent_next at [] d within = absurd (omega (arith, within))
lent_next zero (v ∷ values) d within = refl
lent_next (suc at) (v ∷ values) d within =
    let next : suc at + 1 ≡ suc (at + 1) = omega arith in
    ap (λ l. lent_value v ∷ l) (lent_next at values d (omega (arith, within))) ∙ ap (λ n. lent_until n (v ∷ values)) (sym next)

pub lent_all : (values : List Cell) (at : ℕ) → at ≡ length values → lent_until at values ≡ map lent_value values
lent_all [] at all = subst (λ n. lent_until n [] ≡ []) (sym all) refl
lent_all (v ∷ values) at all =
    subst (λ n. lent_until n (v ∷ values) ≡ map lent_value (v ∷ values)) (sym all) (ap (λ l. lent_value v ∷ l) (lent_all values (length values) refl))

-- entries, and behind them that of a node, where the disk has something of it
abbrev pub with_entry : List OldEntry → NodeId → Option OldKept → List OldEntry
with_entry entries node old = entries ++ cons_option (option_map (λ o. record { node = node; old = o }) old) []

-- the entries of the first ones, with the next one's
pub entries_next : (at : ℕ) (nodes : List NodeId) (values : List Cell) (n : NodeId) (v : Cell) → length values ≡ length nodes → at < length nodes
    → entries_of (take (at + 1) nodes) (take (at + 1) values)
    ≡ with_entry (entries_of (take at nodes) (take at values)) (get_or nodes at n) (old_of_value (get_or values at v))
entries_next at [] values n v long within = absurd (omega (arith, within))
entries_next at (m ∷ nodes) [] n v long within = absurd (omega (arith, long))
entries_next zero (m ∷ nodes) (w ∷ values) n v long within = refl
entries_next (suc at) (m ∷ nodes) (w ∷ values) n v long within =
    let next : suc at + 1 ≡ suc (at + 1) = omega arith in
    ap (λ k. entries_of (take k (m ∷ nodes)) (take k (w ∷ values))) next
    ∙ ap (cons_option (entry_of m w)) (entries_next at nodes values n v (omega (arith, long)) (omega (arith, within)))
    ∙ joined (entry_of m w) (entries_of (take at nodes) (take at values)) (cons_option (entry_of (get_or nodes at n) (get_or values at v)) [])
  where
    joined : (o : Option OldEntry) (xs ys : List OldEntry) → cons_option o (xs ++ ys) ≡ cons_option o xs ++ ys
    joined None xs ys = refl
    joined (Some x) xs ys = refl

-- a lent value has something where it had
pub lent_has : (value : Cell) → is_some (old_of_value (lent_value value)) ≡ is_some (old_of_value value)
lent_has (cell.Pending pending) = by pending.value.old
  where
    by : (o : Option OldKept) → is_some (option_map (λ (old : OldKept). HOLLOW) o) ≡ is_some o
    by None = refl
    by (Some old) = refl
lent_has (cell.Lock lock) = refl
lent_has (cell.Bucket bucket) = refl
lent_has (cell.File file) = refl
lent_has (cell.Part part) = refl

-- with what was taken of it it is what it was
pub lent_back : (value : Cell) (old : OldKept) → old_of_value value ≡ Some old → with_old (Some old) (lent_value value) ≡ value
lent_back (cell.Pending pending) old is = ap (λ o. cell.Pending (record pending { value = record pending.value { old = o } })) (sym is)
lent_back (cell.Lock lock) old is = refl
lent_back (cell.Bucket bucket) old is = refl
lent_back (cell.File file) old is = refl
lent_back (cell.Part part) old is = refl

-- and a value of which nothing was taken is what it was
pub lent_same : (value : Cell) → old_of_value value ≡ None → lent_value value ≡ value
lent_same (cell.Pending pending) is =
    ap (λ o. cell.Pending (record pending { value = record pending.value { old = option_map (λ (old : OldKept). HOLLOW) o } })) is
    ∙ ap (λ o. cell.Pending (record pending { value = record pending.value { old = o } })) (sym is)
lent_same (cell.Lock lock) is = refl
lent_same (cell.Bucket bucket) is = refl
lent_same (cell.File file) is = refl
lent_same (cell.Part part) is = refl

-- Values from a place on are restored, and the entries of those before it are left.
pub record IsRestored (at : ℕ) (nodes : List NodeId) (was now : List Cell) (left : List OldEntry) : Type 0 where
  pub values : now ≡ lent_until at was
  pub entries : left ≡ entries_of (take at nodes) (take at was)
  pub count : length was ≡ length nodes

-- at first none is
pub none_restored : (nodes : List NodeId) (was now : List Cell) (old : List OldEntry) (at : ℕ) → at ≡ length now → IsLent nodes was now old
    → IsRestored at nodes was now old
none_restored nodes was now old at all lent =
    let long : at ≡ length was = all ∙ ap length lent.values ∙ length-map was lent_value in
    record {
      values = lent.values ∙ sym (lent_all was at long);
      entries = lent.entries
          ∙ (λ i. entries_of (sym (take_all at nodes (let n = long ∙ lent.count in omega (arith, n))) i) (sym (take_all at was (omega (arith, long))) i));
      count = lent.count;
    }

-- a list with one at its end tells that and what is before
last_one : {A : Type 0} (xs ys : List A) (x y : A) → xs ++ x ∷ [] ≡ ys ++ y ∷ [] → (xs ≡ ys) × (x ≡ y)
last_one [] [] x y same = (refl, cc same)
last_one [] (z ∷ ys) x y same = absurd (let long = ap length same ∙ length-append (z ∷ ys) (y ∷ []) in omega (arith, long))
last_one (z ∷ xs) [] x y same = absurd (let long = sym (length-append (z ∷ xs) (x ∷ [])) ∙ ap length same in omega (arith, long))
last_one (z ∷ xs) (w ∷ ys) x y same = let rest = last_one xs ys x y (cc same) in ((λ i. heads i ∷ rest.0 i), rest.1)
  where
    heads : z ≡ w
    heads = cc same

-- The value before a place is restored.
module _ (at : ℕ) (nodes : List NodeId) (was now : List Cell) (left : List OldEntry) (d : Cell) (within : at < length was)
    (so_far : IsRestored (at + 1) nodes was now left) where
  abbrev value : Cell
  value = get_or was at d

  abbrev node : NodeId
  node = get_or nodes at (record { 0 = 0 })

  there : get_or now at d ≡ lent_value value
  there = ap (λ l. get_or l at d) (so_far.values ∙ sym (lent_next at was d within))
      ∙ get_or-set_same (lent_until at was) at (lent_value value) d (subst (λ n. at < n) (sym (lent_long at was)) within)

  has_same : is_some (old_of_value value) ≡ is_some (old_of_value (get_or now at d))
  has_same = sym (lent_has value) ∙ ap (λ v. is_some (old_of_value v)) (sym there)

  left_is : left ≡ with_entry (entries_of (take at nodes) (take at was)) node (old_of_value value)
  left_is = so_far.entries ∙ entries_next at nodes was (record { 0 = 0 }) d so_far.count (let same = so_far.count in omega (arith, within, same))

  -- where it had nothing it is as it was
  pub one_without : is_some (old_of_value (get_or now at d)) ≡ false → IsRestored at nodes was now left
  one_without has_none = record {
    values = so_far.values ∙ sym (lent_next at was d within)
        ∙ (ap (set (lent_until at was) at) (lent_same value none ∙ sym (lent_there at was d within)) ∙ set-get_or (lent_until at was) at d);
    entries = left_is ∙ ap (with_entry (entries_of (take at nodes) (take at was)) node) none ∙ append-nil (entries_of (take at nodes) (take at was));
    count = so_far.count;
  }
    where
      none_of : (o : Option OldKept) → is_some o ≡ false → o ≡ None
      none_of None is = refl
      none_of (Some x) is = absurd (true_not_false is)

      none : old_of_value value ≡ None
      none = none_of (old_of_value value) (has_same ∙ has_none)

  -- where it had something it gets it back, and its entry goes
  module _ (has : is_some (old_of_value (get_or now at d)) ≡ true) where
    found : (old : OldKept) × (old_of_value value ≡ Some old)
    found = is_value (old_of_value value) (has_same ∙ has)

    abbrev own : OldEntry
    own = record { node = node; old = found.0 }

    last_is : left ≡ entries_of (take at nodes) (take at was) ++ own ∷ []
    last_is = left_is ∙ ap (with_entry (entries_of (take at nodes) (take at was)) node) found.1

    pub some_left : left ≡ [] → ⊥
    some_left none =
        let long = ap length (sym none ∙ last_is) ∙ length-append (entries_of (take at nodes) (take at was)) (own ∷ []) in omega (arith, long)

    pub one_back : (front : List OldEntry) (entry : OldEntry) → left ≡ front ++ entry ∷ []
        → IsRestored at nodes was (set now at (with_old (Some entry.old) (get_or now at d))) front
    one_back front entry is =
        let same = last_one front (entries_of (take at nodes) (take at was)) entry own (sym is ∙ last_is) in
        record {
          values =
              (λ i. set ((so_far.values ∙ sym (lent_next at was d within)) i) at (with_old (Some (ap (λ (e : OldEntry). e.old) same.1 i)) (there i)))
              ∙ set-set (lent_until at was) at (lent_value value) (with_old (Some found.0) (lent_value value))
              ∙ ap (set (lent_until at was) at) (lent_back value found.0 found.1 ∙ sym (lent_there at was d within))
              ∙ set-get_or (lent_until at was) at d;
          entries = same.0;
          count = so_far.count;
        }

-- a value that is read where the first ones are lent is as it was
pub read_was : (at : ℕ) (was now : List Cell) (before : Cell) → at < length was → now ≡ lent_until at was → before ≡ get_or now at before
    → before ≡ get_or was at before
read_was at was now before within is there = there ∙ ap (λ l. get_or l at before) is ∙ lent_there at was before within

-- and once it is lent one more is
pub lend_next : (at : ℕ) (was now : List Cell) (before : Cell) → at < length was → now ≡ lent_until at was → before ≡ get_or now at before
    → set now at (lent_value before) ≡ lent_until (at + 1) was
lend_next at was now before within is there =
    (λ i. set (is i) at (lent_value (read_was at was now before within is there i))) ∙ lent_next at was before within

-- A value gets back what was taken of it, in the words of a loop that goes down.
module _ (at : ℕ) (nodes : List NodeId) (was now : List Cell) (left : List OldEntry) (v : Cell) (some : 0 < at) (low : at ≤ length was)
    (read : v ≡ get_or now (at - 1) v) (so_far : IsRestored at nodes was now left) where
  before : IsRestored ((at - 1) + 1) nodes was now left
  before = let same : (at - 1) + 1 ≡ at = omega (arith, some) in subst (λ k. IsRestored k nodes was now left) (sym same) so_far

  pub back_step : (w after : Cell) (front : List OldEntry) (entry : OldEntry) → is_some (old_of_value v) ≡ true → w ≡ get_or now (at - 1) w
      → left ≡ front ++ entry ∷ [] → after ≡ with_old (Some entry.old) w → IsRestored (at - 1) nodes was (set now (at - 1) after) front
  back_step w after front entry has again is put =
      subst (λ (x : Cell). IsRestored (at - 1) nodes was (set now (at - 1) x) front)
      (ap (with_old (Some entry.old))
      (read_twice now (at - 1) (subst (λ n. at - 1 < n) (sym (ap length so_far.values ∙ lent_long at was)) (omega (arith, some, low)))
      ∙ sym again) ∙ sym put)
      (one_back (at - 1) nodes was now left v (omega (arith, some, low)) before (ap (λ x. is_some (old_of_value x)) (sym read) ∙ has) front entry is)
    where
      read_twice : (l : List Cell) (k : ℕ) → k < length l → get_or l k v ≡ get_or l k w
      read_twice [] k within = absurd (omega (arith, within))
      read_twice (x ∷ l) zero within = refl
      read_twice (x ∷ l) (suc k) within = read_twice l k (omega (arith, within))

  pub never_empty : is_some (old_of_value v) ≡ true → left ≡ [] → ⊥
  never_empty has none =
      some_left (at - 1) nodes was now left v (omega (arith, some, low)) before (ap (λ x. is_some (old_of_value x)) (sym read) ∙ has) none

  pub skip_step : is_some (old_of_value v) ≡ false → IsRestored (at - 1) nodes was now left
  skip_step has_none = one_without (at - 1) nodes was now left v (omega (arith, some, low)) before (ap (λ x. is_some (old_of_value x)) (sym read) ∙ has_none)
