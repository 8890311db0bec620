-- The law of merging, which a function of the module laws proves.
use Rattle.std.specs.Prelude.{◌≡◌, List}
use Rattle.tree_laws.specs.declared.changes.Change.{Change}
use Rattle.log_merge.specs.Merge.{IsMergeOf}

-- Some changes have one merge.
abbrev pub ThereIsOneMerge : Type 0
ThereIsOneMerge = (changes merged other : List Change) → IsMergeOf changes merged → IsMergeOf changes other → merged ≡ other
