-- What a rename logs, by the values that it reads.
use Rattle.std.specs.Prelude.{ℕ, List, [], ◌∷◌, ◌++◌, Option, Some, None, if◌then◌else◌}
use Rattle.tree_laws.specs.declared.changes.Act.TheVariants.{Add, Remove}
use Rattle.tree_laws.specs.declared.changes.Change.{Change}
use Rattle.tree_laws.specs.Tree.{kind_if}
use Rattle.tree_laws.specs.Changes.{other_side}
use Rattle.tree_laws.specs.Effect.{Effect, Moves}
use Rattle.tree_laws.specs.Logged.{log_entry}
use Rattle.mem_rename.specs.declared.sides.Move.{Move}
use Rattle.mem_rename.specs.Sights.{Sight, there_seen, moves_directory, meets_directory, goes_between, rename_by}

-- what is replaced goes, where something stands at the new row
abbrev pub replaced_logged : Sight → Move → ℕ → Option ℕ → List Change
replaced_logged seen move stamp None = []
replaced_logged seen move stamp (Some there) =
    log_entry stamp move.to_directory.0 move.to_name there (kind_if (meets_directory seen move)) Remove (other_side move.to_directory.0 move.directory.0) [] ∷
    []

-- what an effect logs: what is replaced goes, the old row goes, and the new row comes, with the directories above it where a directory
-- comes to another one
abbrev pub effect_logged : Sight → Move → ℕ → Effect → List Change
effect_logged seen move stamp (Moves directory name to_directory to_name child) =
    replaced_logged seen move stamp (there_seen seen move)
    ++ log_entry stamp move.directory.0 move.name child (kind_if (moves_directory seen move)) Remove (other_side move.directory.0 move.to_directory.0) []
    ∷ log_entry stamp move.to_directory.0 move.to_name child (kind_if (moves_directory seen move)) Add (other_side move.to_directory.0 move.directory.0)
    (if goes_between seen move then seen.above else [])
    ∷ []
effect_logged seen move stamp _ = []

-- What a rename logs.
abbrev pub rename_logged : Sight → Move → ℕ → List Change
rename_logged seen move stamp = effect_logged seen move stamp (rename_by seen move).effect
