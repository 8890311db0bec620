-- What comes of giving back.
use Rattle.std.specs.Prelude.{◌≡◌, ℕ, Some}
use Rattle.tree_laws.specs.declared.turns.Turn.{Turn}
use Rattle.tree_laws.specs.declared.turns.TurnAct.TheVariants as act
use Rattle.cut_laws.specs.Closure.{Flush}
use Rattle.slot_laws.specs.declared.label.Label.TheVariants as label
use Rattle.slot_laws.specs.Labels.{OwnTold, own_label}
use Rattle.slot_laws.specs.Rules.{IsTurnBy}

-- A core has given back the number that it had reserved, and the turn GivenBack was taken.
pub record ReturnsNumber (core : ℕ) (flush : Flush) (before after : OwnTold) : Type 0 where
  pub number : ℕ
  pub had : before.reserved ≡ Some number
  pub turn : Turn
  pub by : IsTurnBy turn act.GivenBack core number flush
  pub after_is : after ≡ own_label (label.Noted turn) (own_label (label.Returned number) before)
