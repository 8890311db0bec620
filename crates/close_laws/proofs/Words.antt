-- Words of the files on fronts.
use Rattle.std.proofs.Common.{◌≡◌, ◌≢◌, ◌∙◌, Bool, true, false, List, ℕ, filter, nat_eq, not, ap, subst, sym}
use Rattle.sfs_base.proofs.BasicNumbers.{same_number}
use Rattle.sfs_base.proofs.BasicTruth.{false_not_true}
use Rattle.sfs_image.specs.Super.{Layout}
use Rattle.tree_laws.specs.declared.turns.Turn.{Turn}
use Rattle.tree_laws.specs.declared.turns.TurnAct.{TurnAct}
use Rattle.tree_laws.specs.declared.turns.TurnAct.TheVariants as act
use Rattle.flush_laws.specs.Volume.{Volume}
use Rattle.turn_laws.specs.Books.{flush_at}
use Rattle.book_laws.specs.Pairs.{bringing_under}
use Rattle.slot_image_laws.specs.Images.{RunStart, disk_books}
use Rattle.close_laws.specs.Maps.{Numbered, bringing_of}

-- the run from a volume on, whose commits bring what their numbers name
abbrev pub run_from : Layout → ℕ → Volume → Numbered → RunStart
run_from layout moment start named = record { layout = layout; moment = moment; parts = start.parts; gives = λ number. (bringing_of named number).parts }

-- the commits that turns have opened and not made durable
abbrev pub flying : RunStart → List Turn → List ℕ
flying run turns = (disk_books run turns).flying

-- numbers without one
abbrev pub without : ℕ → List ℕ → List ℕ
without number numbers = filter (λ other. not (nat_eq other number)) numbers

-- one that is left is not it
pub not_without : (number other : ℕ) → not (nat_eq other number) ≡ true → other ≢ number
not_without number other is same = by (nat_eq other number) (subst (λ n. nat_eq other n ≡ true) same (same_number other)) is
  where
    by : (b : Bool) → b ≡ true → not b ≡ true → ⊥
    by true yes_is no_is = absurd (false_not_true no_is)
    by false yes_is no_is = absurd (false_not_true yes_is)

-- a turn that does something else makes no commit durable
pub no_end : (did : TurnAct) (turn : Turn) → turn.act ≡ did → did ≢ act.Durable → turn.act ≢ act.Durable
no_end did turn is away e = away (sym is ∙ e)

-- what a turn's fsync brings under a number
pub flush_of : (named : Numbered) (number : ℕ) (turn : Turn) → turn.stamp.0 ≡ named.stamps number
    → (bringing_under named.pairs turn.stamp.0).flush ≡ flush_at turn → (bringing_of named number).flush ≡ flush_at turn
flush_of named number turn stamp own = ap (λ s. (bringing_under named.pairs s).flush) (sym stamp) ∙ own
