-- The entries of parts ascend.
use Rattle.std.proofs.Common.{◌≡◌, ℕ, zero, suc, ◌+◌, ◌<◌, ◌≤◌, Bool, true, false, cond, List, [], ◌∷◌, length, map, filter_map, get_or, All, Option, None, Some, refl, sym, subst, arith}
use Rattle.std.specs.List.{range_with_len, cons_option}
use Rattle.std.proofs.lemmas.List.Elements.{All-nil, All-cons}
use Rattle.std.proofs.lemmas.List.Kept.{AllPairs-cons}
use Rattle.sfs_image.specs.Part.{Part, is_free_part}
use Rattle.block_map.specs.Kept.{kept_of}
use Rattle.keyed_list.specs.Ascending.{AscendBy}
use Rattle.disk_nodes.specs.Nodes.{entry_node}
use Rattle.disk_nodes.specs.declared.old.OldEntry.{OldEntry}
use Rattle.disk_tree.specs.KeptParts.{NumberedKept, kept_if_used, kept_in_use}
use Rattle.mount_begin.specs.Mounted.{entry_mounted}

module _ (parts : ℕ → Part) where
  abbrev entries_in : ℕ → ℕ → List OldEntry
  entries_in from count = map entry_mounted (filter_map (kept_if_used parts) (range_with_len from count))

  -- the entry of one inode in front of others, where it is in use
  abbrev in_front : Bool → ℕ → List OldEntry → List OldEntry
  in_front free i others = cond free others (entry_mounted (record { number = i; kept = kept_of (parts i) }) ∷ others)

  one_more : (free : Bool) (i : ℕ) (others : List NumberedKept)
      → map entry_mounted (cons_option (cond free None (Some (record { number = i; kept = kept_of (parts i) }))) others)
      ≡ in_front free i (map entry_mounted others)
  one_more true i others = refl
  one_more false i others = refl

  all_above : (low from count : ℕ) → low < from → All (λ (entry : OldEntry). low < entry_node entry) (entries_in from count)
  all_above low from zero less = All-nil (λ (entry : OldEntry). low < entry_node entry)
  all_above low from (suc count) less =
      subst (All (λ (entry : OldEntry). low < entry_node entry))
      (sym (one_more (is_free_part (parts from)) from (filter_map (kept_if_used parts) (range_with_len (from + 1) count))))
      (by (is_free_part (parts from)) (all_above low (from + 1) count (omega (arith, less))))
    where
      by : (free : Bool) → All (λ (entry : OldEntry). low < entry_node entry) (entries_in (from + 1) count)
          → All (λ (entry : OldEntry). low < entry_node entry) (in_front free from (entries_in (from + 1) count))
      by true rest = rest
      by false rest =
          All-cons (λ (entry : OldEntry). low < entry_node entry) (entry_mounted (record { number = from; kept = kept_of (parts from) }))
          (entries_in (from + 1) count) less rest

  ascend_from : (from count : ℕ) → AscendBy entry_node (entries_in from count)
  ascend_from from zero = λ i j d less within. absurd (omega arith)
  ascend_from from (suc count) =
      subst (AscendBy entry_node) (sym (one_more (is_free_part (parts from)) from (filter_map (kept_if_used parts) (range_with_len (from + 1) count))))
      (by (is_free_part (parts from)) (ascend_from (from + 1) count) (all_above from (from + 1) count (omega arith)))
    where
      by : (free : Bool) → AscendBy entry_node (entries_in (from + 1) count) → All (λ (entry : OldEntry). from < entry_node entry) (entries_in (from + 1) count)
          → AscendBy entry_node (in_front free from (entries_in (from + 1) count))
      by true rest above = rest
      by false rest above =
          AllPairs-cons (λ (a b : OldEntry). entry_node a < entry_node b) (entry_mounted (record { number = from; kept = kept_of (parts from) }))
          (entries_in (from + 1) count) above rest

-- the entries of the parts that are in use ascend
pub entries_ascend : (count : ℕ) (parts : ℕ → Part) → AscendBy entry_node (map entry_mounted (kept_in_use count parts))
unfolding kept_in_use
entries_ascend count parts = ascend_from parts 0 count
