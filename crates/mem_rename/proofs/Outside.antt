-- A rename of which a directory has a number that the table does not have.
use Rattle.std.proofs.Common.{◌≡◌, ℕ, ◌<◌, ◌≤◌, Option, Some, None, ◌⊎◌, inl, inr, sym, ap, ap₂, ◌∙◌, arith}
use Rattle.std.specs.Prelude.{MatchOption}
use Rattle.std.specs.Option.{option_or}
use Rattle.tree_laws.specs.declared.reply.Code.{Code}
use Rattle.tree_laws.specs.declared.reply.Code.TheVariants.{NoEntry}
use Rattle.tree_laws.specs.declared.reply.Reply.TheVariants as reply
use Rattle.tree_laws.specs.Tree.{TreeState, row_of}
use Rattle.tree_laws.specs.Verdict.{verdict, answered, refused, or_else, directory_fault, move_row}
use Rattle.mem_values.specs.Places.{node_count}
use Rattle.tree_laws.specs.Laws.{IsSoundTree}
use Rattle.mem_calls.proofs.Faults.{fault_beyond}
use Rattle.mem_rename.specs.declared.sides.Move.{Move}
use Rattle.mem_rename.specs.Sights.{rename_call}

pub outside_due : (tree : TreeState) (core nodes : ℕ) (move : Move) (fault : Option Code) (code : Code) → IsSoundTree tree → node_count tree ≡ nodes
    → (nodes ≤ move.directory.0) ⊎ (nodes ≤ move.to_directory.0)
    → fault ≡ directory_fault tree move.directory.0 → (fault ≡ None → move.directory.0 < nodes) → MatchOption fault (code ≡ NoEntry) (λ c. code ≡ c)
    → verdict tree core (rename_call move) ≡ answered (reply.Error code)
outside_due tree core nodes move (Some found) code is count outside first within told =
    ap (λ f. or_else (option_or f (directory_fault tree move.to_directory.0))
    (move_row tree move.directory.0 move.name move.to_directory.0 move.to_name (row_of tree move.directory.0 move.name))) (sym first)
    ∙ ap refused (sym told)
outside_due tree core nodes move None code is count outside first within told =
    ap₂ (λ f g. or_else (option_or f g) (move_row tree move.directory.0 move.name move.to_directory.0 move.to_name (row_of tree move.directory.0 move.name)))
    (sym first)
    (fault_beyond tree is move.to_directory.0 (beyond outside)) ∙ ap refused (sym told)
  where
    beyond : (nodes ≤ move.directory.0) ⊎ (nodes ≤ move.to_directory.0) → node_count tree ≤ move.to_directory.0
    beyond (inl old) = let lt = within Rattle.std.proofs.Common.refl in absurd (omega (arith, old, lt))
    beyond (inr new) = omega (arith, new, count)
