-- The next directory of all logs is found by asking one after the other.
use Rattle.std.proofs.Common.{◌≡◌, ℕ, ◌<◌, Bool, true, false, List, [], ◌∷◌, ◌++◌, Option, Some, None, inl, inr, refl, subst, arith}
use Rattle.std.specs.Prelude.{nat_lt, if◌then◌else◌}
use Rattle.std.proofs.lemmas.Bool.{ltb-true, ltb-false}
use Rattle.sfs_base.specs.declared.numbers.NodeId.{NodeId}
use Rattle.cut_laws.proofs.Basics.{in_left, in_right, in_either}
use Rattle.mem_cells.specs.Part.{CoreLog, changes_kept, is_after, IsNextDirectory, IsLeastAfter}
use Rattle.fsync_gather.specs.Next.{KeepNone, IsLeastOfAll, IsNextOfAll, lesser_of}

-- without logs there is none
pub none_follows : (after : Option NodeId) → IsNextOfAll [] after None
none_follows after directory is log one = absurd one

-- one more log keeps none either
none_more : (parts : List CoreLog) (log : CoreLog) (directory : ℕ) → KeepNone parts directory → changes_kept log directory ≡ []
    → KeepNone (parts ++ log ∷ []) directory
none_more parts log directory none own other one = elim (in_either parts (log ∷ []) other one) [
  | inl there ↦ none other there
  | inr last ↦ elim last [ inl same ↦ subst (λ (l : CoreLog). changes_kept l directory ≡ []) same own | inr past ↦ absurd past ]
]

-- the least of the logs before, where the log has none below
old_least : (parts : List CoreLog) (log : CoreLog) (after : Option NodeId) (next : ℕ) → IsLeastOfAll parts after next
    → ((directory : ℕ) → is_after after directory ≡ true → directory < next → changes_kept log directory ≡ []) → IsLeastOfAll (parts ++ log ∷ []) after next
old_least parts log after next old none = record {
  comes_after = old.comes_after;
  keeper = old.keeper;
  is_part = in_left parts (log ∷ []) old.keeper old.is_part;
  keeps = old.keeps;
  is_least = λ directory is less. none_more parts log directory (old.is_least directory is less) (none directory is less);
}

-- the log's own, where those before have none below
own_least : (parts : List CoreLog) (log : CoreLog) (after : Option NodeId) (next : ℕ) → IsLeastAfter log after next
    → ((directory : ℕ) → is_after after directory ≡ true → directory < next → KeepNone parts directory) → IsLeastOfAll (parts ++ log ∷ []) after next
own_least parts log after next own none = record {
  comes_after = own.comes_after;
  keeper = log;
  is_part = in_right parts (log ∷ []) log (inl refl);
  keeps = own.has_changes;
  is_least = λ directory is less. none_more parts log directory (none directory is less) (own.is_least directory is less);
}

-- with one more log the next is the lesser of both
pub next_more : (parts : List CoreLog) (log : CoreLog) (after next found : Option NodeId) → IsNextOfAll parts after next → IsNextDirectory log after found
    → IsNextOfAll (parts ++ log ∷ []) after (lesser_of next found)
next_more parts log after None None old own = λ directory is. none_more parts log directory (old directory is) (own directory is)
next_more parts log after None (Some found) old own = own_least parts log after found.0 own (λ directory is less. old directory is)
next_more parts log after (Some next) None old own = old_least parts log after next.0 old (λ directory is less. own directory is)
next_more parts log after (Some next) (Some found) old own = by (nat_lt found.0 next.0) refl
  where
    by : (b : Bool) → nat_lt found.0 next.0 ≡ b → IsNextOfAll (parts ++ log ∷ []) after (if b then Some found else Some next)
    by true is =
        let lt = ltb-true found.0 next.0 is in
        own_least parts log after found.0 own (λ directory after_it less. old.is_least directory after_it (omega (arith, lt, less)))
    by false is =
        let le = ltb-false found.0 next.0 is in
        old_least parts log after next.0 old (λ directory after_it less. own.is_least directory after_it (omega (arith, le, less)))
