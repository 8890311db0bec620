-- What a crash leaves of a run.
use Rattle.std.specs.Prelude.{ℕ, Bool, true, false, List}
use Rattle.sfs_image.specs.Settled.{layout_of}
use Rattle.sfs_dev.specs.Disk.{View}
use Rattle.sfs_dev.specs.Run.{CountsOn, EachMoment}
use Rattle.sfs_dev.specs.Steps.{IfTold}
use Rattle.journal_one.specs.Calls.{IsCalm}
use Rattle.tree_laws.specs.declared.history.Entry.{Entry}
use Rattle.tree_laws.specs.declared.turns.Turn.{Turn}
use Rattle.tree_laws.specs.Tree.{TreeState}
use Rattle.recovery.specs.Recovered.{ShowsTheSame}
use Rattle.mount_begin.specs.Mounted.{share_of_nodes}
use Rattle.mount.specs.Survives.{SurvivesSince}

-- This holds of the image at the entry of a disk that told it and on which nothing was pending, while the count of its device calls has not
-- come to its last value.
abbrev pub IfToldAndCalm : View → View → (List ℕ → Type 0) → Type 0
IfToldAndCalm old new P = IfTold old.content (λ image. IsCalm old → CountsOn new → P image)

-- What a crash during a call leaves, by whether the image was mounted: a run that survives, in the order of acknowledgements and in that of turns; or
-- else at each moment what the image at the entry shows, its first fault or its tree.
abbrev pub HasImagesBy : Bool → ℕ → TreeState → View → View → List Entry → List Turn → List ℕ → Type 0
HasImagesBy true nodes first old new history turns image =
    SurvivesSince (share_of_nodes nodes (layout_of image)) old.now first history turns new
HasImagesBy false nodes first old new history turns image = EachMoment old new (λ _ now. ShowsTheSame now image)
