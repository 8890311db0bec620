-- Items ascending by a number of theirs, put among others one by one.
use Rattle.std.proofs.Common.{◌≡◌, ℕ, ◌+◌, ◌<◌, List, [], ◌∷◌, ◌++◌, length, get_or, take, map, filter_map, Option, Some, None, refl, sym, ap, subst, ◌∙◌, arith}
use Rattle.std.specs.Prelude.{option_to_list}
use Rattle.std.specs.Ordering.{nat_cmp, match_ordering}
use Rattle.std.specs.declared.cmp.Ordering.{Ordering}
use Rattle.std.specs.declared.cmp.Ordering.TheVariants.{Less, Equal, Greater}
use Rattle.std.specs.BTreeMap.{insert_entry}
use Rattle.std.specs.FinMap.{nat_cmp-IsAntisymmetric}
use Rattle.std.specs.List.Sorted.{IsStrictlySortedBy}
use Rattle.std.proofs.lemmas.List.{append-nil, append_assoc, get_or-map, length-map}
use Rattle.std.proofs.lemmas.List.Sums.{fold-append}
use Rattle.std.proofs.lemmas.Map.Keys.{below_from_sorted}
use Rattle.disk_change.specs.Lists.{put_over, put_if, ascending_by}
use Rattle.keyed_list.specs.Ascending.{AscendBy}
use Rattle.disk_change.proofs.Directories.{filter_map_more}

module _ {X : Type 0} (key : X → ℕ) where
  -- of one item more that one is put in last
  pub ascending_last : (items : List X) (item : X) → ascending_by key (items ++ item ∷ []) ≡ put_over key item (ascending_by key items)
  ascending_last items item = fold-append (λ others one. put_over key one others) [] items (item ∷ [])

  pub ascending_maybe : (items : List X) (o : Option X) → ascending_by key (items ++ option_to_list o) ≡ put_if key o (ascending_by key items)
  ascending_maybe items None = ap (ascending_by key) (append-nil items)
  ascending_maybe items (Some item) = ascending_last items item

  -- and so what a function gives of one more
  pub ascending_more : {Y : Type 0} (f : Y → Option X) (front : List X) (ys : List Y) (i : ℕ) (d : Y) (before new : List X) (o : Option X) → i < length ys
      → before ≡ ascending_by key (front ++ filter_map f (take i ys)) → o ≡ f (get_or ys i d) → new ≡ put_if key o before
      → new ≡ ascending_by key (front ++ filter_map f (take (i + 1) ys))
  ascending_more f front ys i d before new o within was is after =
      after ∙ (λ j. put_if key (is j) (was j)) ∙ sym (ascending_maybe (front ++ filter_map f (take i ys)) (f (get_or ys i d)))
      ∙ ap (ascending_by key)
      (append_assoc front (filter_map f (take i ys)) (option_to_list (f (get_or ys i d)))
      ∙ ap (λ rest. front ++ rest) (sym (filter_map_more f ys i d within)))

  -- items whose numbers are sorted ascend
  pub sorted_ascend : (items : List X) (numbers : List ℕ) → map key items ≡ numbers → IsStrictlySortedBy nat_cmp numbers → AscendBy key items
  sorted_ascend items numbers are sorted i j d lt within =
      let first = get_or-map key items i d 0 (omega arith) in
      let later = get_or-map key items j d 0 within in
      let below =
      below_from_sorted (map key items) i j 0 (subst (IsStrictlySortedBy nat_cmp) (sym are) sorted) lt (omega (arith, within, length-map items key)) in
      omega (arith, below, first, later)

module _ {V X : Type 0} (entry : ℕ × V → X) (key : X → ℕ) (own : (e : ℕ × V) → key (entry e) ≡ e.0) where
  -- the entries of a map are items by their keys
  pub keys_are : (es : List (ℕ × V)) → map key (map entry es) ≡ map (λ e. e.0) es
  keys_are [] = refl
  keys_are (e ∷ es) = λ i. own e i ∷ keys_are es i

  -- and an entry that is put into the map is put among them
  pub put_keyed : (es : List (ℕ × V)) (k : ℕ) (v : V) → map entry (insert_entry nat_cmp es k v) ≡ put_over key (entry (k, v)) (map entry es)
  put_keyed [] k v = refl
  put_keyed (e ∷ es) k v =
      by (nat_cmp k e.0) (λ same. sym (nat_cmp-IsAntisymmetric k e.0 same)) (put_keyed es k v)
      ∙ sym
      (λ i. match_ordering (nat_cmp (own (k, v) i) (own e i)) (entry (k, v) ∷ entry e ∷ map entry es) (entry (k, v) ∷ map entry es)
      (entry e ∷ put_over key (entry (k, v)) (map entry es)))
    where
      by : (o : Ordering) → (o ≡ Equal → e.0 ≡ k) → map entry (insert_entry nat_cmp es k v) ≡ put_over key (entry (k, v)) (map entry es)
          → map entry (match_ordering o ((k, v) ∷ e ∷ es) ((e.0, v) ∷ es) (e ∷ insert_entry nat_cmp es k v))
          ≡ match_ordering o (entry (k, v) ∷ entry e ∷ map entry es) (entry (k, v) ∷ map entry es) (entry e ∷ put_over key (entry (k, v)) (map entry es))
      by Less is rest = refl
      by Equal is rest = ap (λ n. entry (n, v) ∷ map entry es) (is refl)
      by Greater is rest = ap (λ those. entry e ∷ those) rest
