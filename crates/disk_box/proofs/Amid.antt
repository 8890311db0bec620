-- Labels that are told while a core has the box.
use Rattle.std.proofs.Common.{◌≡◌, ℕ, Option, Some, refl}
use Rattle.sfs_image.specs.Super.{Layout}
use Rattle.slot_laws.specs.declared.label.Label.{Label}
use Rattle.slot_laws.specs.declared.label.Label.TheVariants as label
use Rattle.slot_laws.specs.Labels.{BoxPast, after_label}
use Rattle.slot_laws.specs.Rules.{HasTurn}
use Rattle.disk_box.specs.Pens.{IsAmid}

-- one is told by who has the box
pub amid_turn : (fact : Label) (core : ℕ) (busy : Option ℕ) → IsAmid fact → busy ≡ Some core → HasTurn core fact busy
amid_turn label.Took core busy amid is = absurd amid
amid_turn label.Gave core busy amid is = absurd amid
amid_turn (label.Noted t) core busy amid is = is
amid_turn (label.Reserved c s g) core busy amid is = is
amid_turn (label.Returned c) core busy amid is = is
amid_turn (label.Began f c n s b i) core busy amid is = is
amid_turn (label.Filled k p d) core busy amid is = is
amid_turn (label.Synced n) core busy amid is = is
amid_turn (label.Opened k d c o) core busy amid is = is
amid_turn (label.Settled k t) core busy amid is = is
amid_turn (label.Learned t) core busy amid is = is
amid_turn (label.Placed k n d) core busy amid is = is
amid_turn (label.Shut k d) core busy amid is = is
amid_turn (label.Idled k) core busy amid is = is
amid_turn (label.Empty c u o d) core busy amid is = is

-- who has it has it still
pub amid_busy : (layout : Layout) (fact : Label) (core : ℕ) (past : BoxPast) → IsAmid fact → (after_label layout core fact past).busy ≡ past.busy
amid_busy layout label.Took core past amid = absurd amid
amid_busy layout label.Gave core past amid = absurd amid
amid_busy layout (label.Noted t) core past amid = refl
amid_busy layout (label.Reserved c s g) core past amid = refl
amid_busy layout (label.Returned c) core past amid = refl
amid_busy layout (label.Began f c n s b i) core past amid = refl
amid_busy layout (label.Filled k p d) core past amid = refl
amid_busy layout (label.Synced n) core past amid = refl
amid_busy layout (label.Opened k d c o) core past amid = refl
amid_busy layout (label.Settled k t) core past amid = refl
amid_busy layout (label.Learned t) core past amid = refl
amid_busy layout (label.Placed k n d) core past amid = refl
amid_busy layout (label.Shut k d) core past amid = refl
amid_busy layout (label.Idled k) core past amid = refl
amid_busy layout (label.Empty c u o d) core past amid = refl
