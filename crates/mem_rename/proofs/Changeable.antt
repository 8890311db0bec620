-- What a rename changes is held, and still is once some of it changed.
use Rattle.std.proofs.Common.{◌≡◌, ℕ, ◌<◌, Option, Some, None, IsSome, refl}
use Rattle.std.specs.Prelude.{MatchOption}
use Rattle.sfs_base.specs.Name.{bucket as name_bucket}
use Rattle.sfs_base.specs.declared.numbers.NodeId.{NodeId}
use Rattle.tree_laws.proofs.Joined.{bucket_small}
use Rattle.mem_values.specs.Start.{FileHand}
use Rattle.mem_values.specs.declared.cell.FileCell.{FileCell}
use Rattle.mem_values.specs.declared.bucket.Bucket.{Bucket}
use Rattle.mem_calls.specs.Held.{bucket_held, file_held}
use Rattle.mem_rename.specs.declared.sides.Move.{Move}
use Rattle.mem_rename.specs.declared.plans.Plan.{Plan}
use Rattle.mem_rename.specs.Ready.{AreSidesWithin}
use Rattle.mem_rename.specs.Rounds.{IsPlanWithin}
use Rattle.mem_rename.specs.Moving.{CanChange, ChangesHeld}
use Rattle.mem_rename.proofs.HeldChanges.{bucket_stays, file_stays}

pub on_option : (o : Option NodeId) (P Q : NodeId → Type 0) → ((n : NodeId) → o ≡ Some n → P n → Q n) → MatchOption o Unit P → MatchOption o Unit Q
on_option None P Q goes p = tt
on_option (Some n) P Q goes p = goes n refl p

pub of_within : (o : Option NodeId) (nodes : ℕ) → ((n : NodeId) → o ≡ Some n → n.0 < nodes) → MatchOption o Unit (λ n. n.0 < nodes)
of_within None nodes within = tt
of_within (Some n) nodes within = within n refl

module _ (nodes : ℕ) (move : Move) (plan : Plan) (within : AreSidesWithin nodes move) (plan_within : IsPlanWithin nodes plan) where
  pub still_can : (b : NodeId → ℕ → Bucket → Bucket) (f : NodeId → FileCell → FileCell) (before after : FileHand) → ChangesHeld nodes b f before after
      → CanChange nodes move plan before.held → CanChange nodes move plan after.held
  still_can b f before after change can = record {
    old = bucket_stays nodes b f before after move.directory (name_bucket move.name) change within.old (bucket_small move.name) can.old;
    comes = on_option plan.comes (λ node. (number : ℕ) → number < 8 → IsSome (bucket_held nodes before.held node number))
        (λ node. (number : ℕ) → number < 8 → IsSome (bucket_held nodes after.held node number))
        (λ node is held number small. bucket_stays nodes b f before after node number change (plan_within.comes node is) small (held number small)) can.comes;
    directory = on_option plan.directory (λ node. (number : ℕ) → number < 8 → IsSome (bucket_held nodes before.held node number))
        (λ node. (number : ℕ) → number < 8 → IsSome (bucket_held nodes after.held node number))
        (λ node is held number small. bucket_stays nodes b f before after node number change (plan_within.directory node is) small
        (held number small)) can.directory;
    file = on_option plan.file (λ node. IsSome (file_held nodes before.held node)) (λ node. IsSome (file_held nodes after.held node))
        (λ node is held. file_stays nodes b f before after node change (plan_within.file node is) held) can.file;
  }
