-- What was merged of each directory up to one, and of all.
use Rattle.std.specs.Prelude.{All, nat_lt, slice_index_or}
use Rattle.std.specs.List.Sorted.{IsStrictlyIncreasing}
use borrow.Author.Tests.{eq-eqb}
use Rattle.std.proofs.Common.{◌≡◌, ◌⊎◌, ◌<◌, ◌≤◌, ◌-◌, ◌^◌, ◌∷◌, ◌++◌, ℕ, zero, suc, Bool, true, false, List, [], map, length, Option, Some, None, inl, inr, refl, sym, subst, arith}
use Rattle.std.proofs.lemmas.Bool.{ltb-true, ltb-false}
use Rattle.std.proofs.lemmas.List.{map-append}
use Rattle.sfs_base.specs.declared.numbers.NodeId.{NodeId}
use Rattle.sfs_base.proofs.BasicNumbers.{not_below}
use Rattle.sfs_base.proofs.BasicTruth.{true_not_false}
use Rattle.tree_laws.specs.declared.changes.Change.{Change}
use Rattle.mem_cells.specs.Log.{log_place}
use Rattle.mem_cells.specs.Part.{CoreLog, changes_kept, is_after}
use Rattle.cut_laws.specs.Rules.{IsOneOf}
use Rattle.cut_laws.proofs.Basics.{in_left, in_right, in_either}
use Rattle.cut_laws.proofs.Listed.{from_map, to_filter}
use Rattle.cut_laws.proofs.RunFacts.{in_filter}
use Rattle.log_merge.specs.Merge.{is_under, stands_at, part_changes, parts_changes, IsMergeOf}
use Rattle.dep_closure.specs.declared.gathered.DirectoryChanges.{DirectoryChanges}
use Rattle.dep_closure.specs.Gathered.{log_directory, IsOwnLog}
use Rattle.dep_closure.proofs.Looked.{one_of_all}
use Rattle.core_logs.specs.Logs.{blank_part}
use Rattle.core_logs.proofs.Ordered.{all_of}
use Rattle.note_laws.specs.Merged.{IsMergedOf, AreMergedOf}
use Rattle.fsync_gather.specs.Next.{KeepNone, IsLeastOfAll, IsNextOfAll}
use Rattle.fsync_gather.specs.Gathers.{KeepOwn}
use Rattle.fsync_gather.proofs.Rising.{push_rises}

-- What was merged so far: directories rise and lie up to one, each log is merged and is one of its directory, and of each directory up to there no log
-- keeps a change or there is a merged one.
pub record MergedSoFar (parts : List CoreLog) (after : Option NodeId) (logs : List DirectoryChanges) : Type 0 where
  pub rise : IsStrictlyIncreasing (map log_directory logs)
  pub reached : (log : DirectoryChanges) → IsOneOf logs log → is_after after log.dir.0 ≡ false
  pub merged : (log : DirectoryChanges) → IsOneOf logs log → IsMergedOf parts log
  pub own : (log : DirectoryChanges) → IsOneOf logs log → IsOwnLog log
  pub covered : (directory : ℕ) → is_after after directory ≡ false
      → KeepNone parts directory ⊎ ((log : DirectoryChanges) × IsOneOf logs log × (log.dir.0 ≡ directory))

-- how many nodes may come after one
abbrev pub left_after : Option NodeId → ℕ
left_after None = 2 ^ 32
left_after (Some node) = 2 ^ 32 - 1 - node.0

-- they get fewer with each one that comes after it
pub left_falls : (after : Option NodeId) (next : NodeId) → is_after after next.0 ≡ true → next.0 < 2 ^ 32 → left_after (Some next) < left_after after
left_falls None next is within = omega (arith, within)
left_falls (Some node) next is within = let lt = ltb-true node.0 next.0 is in omega (arith, lt, within)

-- at first nothing is
pub none_merged : (parts : List CoreLog) → MergedSoFar parts None []
none_merged parts = record {
  rise = λ k within. absurd (omega (arith, within));
  reached = λ log one. absurd one;
  merged = λ log one. absurd one;
  own = λ log one. absurd one;
  covered = λ directory is. absurd (true_not_false is);
}

-- a change that some logs keep is one that one of them keeps
in_parts : (directory all : ℕ) (parts : List CoreLog) (change : Change) → IsOneOf (parts_changes directory all parts) change
    → (log : CoreLog) × IsOneOf parts log × IsOneOf (changes_kept log directory) change
in_parts directory all [] change one = absurd one
in_parts directory all (log ∷ parts) change one = elim (in_either (part_changes directory all log) (parts_changes directory all parts) change one) [
  | inl here ↦ (log, inl refl, (in_filter (is_under all) (changes_kept log directory) change here).0)
  | inr there ↦ let found = in_parts directory all parts change there in (found.0, inr found.1, found.2)
]

-- what is merged is one of what it is merged of
in_merge : (changes merged : List Change) → IsMergeOf changes merged → (change : Change) → IsOneOf merged change → IsOneOf changes change
in_merge changes merged is change one =
    (in_filter (stands_at (log_place change)) changes change
    (subst (λ l. IsOneOf l change) (is.same (log_place change))
    (to_filter (stands_at (log_place change)) merged change one (eq-eqb (log_place change) (log_place change) refl)))).0

-- a merge of logs that keep their own directories' changes is a log of its directory
pub own_merge : (parts : List CoreLog) (all : ℕ) (log : DirectoryChanges) → KeepOwn parts → IsMergeOf (parts_changes log.dir.0 all parts) log.changes.items
    → IsOwnLog log
own_merge parts all log keep is = record {
  own = all_of (λ change. change.dir.0 ≡ log.dir.0) log.changes.items (λ change one.
      let found = in_parts log.dir.0 all parts change (in_merge (parts_changes log.dir.0 all parts) log.changes.items is change one) in
      one_of_all (λ (c : Change). c.dir.0 ≡ log.dir.0) (changes_kept found.0 log.dir.0) change (keep found.0 log.dir.0 found.1) found.2);
  in_order = is.in_order;
}

-- what is not after one that another comes after is not after that either
not_after : (after : Option NodeId) (next directory : ℕ) → is_after after next ≡ true → is_after after directory ≡ false → directory < next
not_after None next directory is not = absurd (true_not_false not)
not_after (Some node) next directory is not =
    let lt = ltb-true node.0 next is in let le = ltb-false node.0 directory not in omega (arith, lt, le)

-- the next directory's log goes behind
pub merged_more : (parts : List CoreLog) (after : Option NodeId) (logs : List DirectoryChanges) (one : DirectoryChanges) → KeepOwn parts
    → IsLeastOfAll parts after one.dir.0 → IsMergedOf parts one → MergedSoFar parts after logs → MergedSoFar parts (Some one.dir) (logs ++ one ∷ [])
merged_more parts after logs one keep least is so_far = record {
  rise = subst IsStrictlyIncreasing (sym (map-append log_directory logs (one ∷ [])))
      (push_rises (map log_directory logs) one.dir.0 so_far.rise (λ n among.
      let log = from_map log_directory logs n among in subst (λ m. m < one.dir.0) log.2 (below log.0 log.1)));
  reached = λ log there. of_each (λ (l : DirectoryChanges). is_after (Some one.dir) l.dir.0 ≡ false)
      (λ other among. let lt = below other among in not_below one.dir.0 other.dir.0 (omega (arith, lt)))
      (not_below one.dir.0 one.dir.0 (omega arith)) log there;
  merged = of_each (IsMergedOf parts) so_far.merged is;
  own = of_each IsOwnLog so_far.own (own_merge parts is.all one keep is.merge);
  covered = λ directory upto. by directory upto (is_after after directory) refl;
}
  where
    below : (log : DirectoryChanges) → IsOneOf logs log → log.dir.0 < one.dir.0
    below log among = not_after after one.dir.0 log.dir.0 least.comes_after (so_far.reached log among)

    of_each : (P : DirectoryChanges → Type 0) → ((log : DirectoryChanges) → IsOneOf logs log → P log) → P one → (log : DirectoryChanges)
        → IsOneOf (logs ++ one ∷ []) log → P log
    of_each P old own log there = elim (in_either logs (one ∷ []) log there) [
      | inl among ↦ old log among
      | inr last ↦ elim last [ inl same ↦ subst P same own | inr past ↦ absurd past ]
    ]

    found : (directory : ℕ) → directory ≡ one.dir.0
        → KeepNone parts directory ⊎ ((log : DirectoryChanges) × IsOneOf (logs ++ one ∷ []) log × (log.dir.0 ≡ directory))
    found directory same = inr (one, in_right logs (one ∷ []) one (inl refl), sym same)

    earlier : (directory : ℕ) → KeepNone parts directory ⊎ ((log : DirectoryChanges) × IsOneOf logs log × (log.dir.0 ≡ directory))
        → KeepNone parts directory ⊎ ((log : DirectoryChanges) × IsOneOf (logs ++ one ∷ []) log × (log.dir.0 ≡ directory))
    earlier directory (inl none) = inl none
    earlier directory (inr log) = inr (log.0, in_left logs (one ∷ []) log.0 log.1, log.2)

    at_most : (directory : ℕ) → directory ≤ one.dir.0 → is_after after directory ≡ true → (b : Bool) → nat_lt directory one.dir.0 ≡ b
        → KeepNone parts directory ⊎ ((log : DirectoryChanges) × IsOneOf (logs ++ one ∷ []) log × (log.dir.0 ≡ directory))
    at_most directory le behind true is = inl (least.is_least directory behind (ltb-true directory one.dir.0 is))
    at_most directory le behind false is = let ge = ltb-false directory one.dir.0 is in found directory (omega (arith, le, ge))

    by : (directory : ℕ) → is_after (Some one.dir) directory ≡ false → (b : Bool) → is_after after directory ≡ b
        → KeepNone parts directory ⊎ ((log : DirectoryChanges) × IsOneOf (logs ++ one ∷ []) log × (log.dir.0 ≡ directory))
    by directory upto false not = earlier directory (so_far.covered directory not)
    by directory upto true behind =
        at_most directory (ltb-false one.dir.0 directory upto) behind (nat_lt directory one.dir.0) refl

one_at : (parts : List CoreLog) (part : ℕ) → part < length parts → IsOneOf parts (slice_index_or parts part blank_part)
one_at [] part within = absurd (omega (arith, within))
one_at (log ∷ parts) zero within = inl refl
one_at (log ∷ parts) (suc part) within = inr (one_at parts part (omega (arith, within)))

-- where no other directory follows all are merged
pub all_merged : (parts : List CoreLog) (after : Option NodeId) (logs : List DirectoryChanges) → IsNextOfAll parts after None → MergedSoFar parts after logs
    → AreMergedOf parts logs
all_merged parts after logs none so_far = record {
  merged = so_far.merged;
  whole = λ part directory within. by part directory within (is_after after directory) refl;
}
  where
    at_part : (part directory : ℕ) → part < length parts
        → KeepNone parts directory ⊎ ((log : DirectoryChanges) × IsOneOf logs log × (log.dir.0 ≡ directory))
        → (changes_kept (slice_index_or parts part blank_part) directory ≡ []) ⊎ ((log : DirectoryChanges) × IsOneOf logs log × (log.dir.0 ≡ directory))
    at_part part directory within (inl empty) = inl (empty (slice_index_or parts part blank_part) (one_at parts part within))
    at_part part directory within (inr log) = inr log

    by : (part directory : ℕ) → part < length parts → (b : Bool) → is_after after directory ≡ b
        → (changes_kept (slice_index_or parts part blank_part) directory ≡ []) ⊎ ((log : DirectoryChanges) × IsOneOf logs log × (log.dir.0 ≡ directory))
    by part directory within true behind = at_part part directory within (inl (none directory behind))
    by part directory within false upto = at_part part directory within (so_far.covered directory upto)

pub all_own : (logs : List DirectoryChanges) → ((log : DirectoryChanges) → IsOneOf logs log → IsOwnLog log) → All IsOwnLog logs
all_own logs each = all_of IsOwnLog logs each
