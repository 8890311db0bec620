-- What does not fit a map with grants out does not fit the books.
use Rattle.std.proofs.Common.{◌≡◌, ◌<◌, ◌≤◌, ◌^◌, ◌-◌, ℕ, subst, arith}
use Rattle.sfs_base.specs.declared.numbers.SpaceKind.{SpaceKind}
use Rattle.space_map.specs.Pool.{free_count}
use Rattle.space_map.specs.Space.{Space}
use Rattle.space_map.specs.declared.fault.SpaceFault.TheVariants.{NoSpace}
use Rattle.commit_laws.specs.CommitOfPlan.{CommitPlan}
use Rattle.turn_laws.specs.Books.{free_in, IsShortOf}
use Rattle.turn_laws.specs.Need.{Amount}
use Rattle.turn_ties.specs.Plans.{amount_planned}
use Rattle.turn_ties.proofs.Fits.{says}
use Rattle.book_laws.specs.MapLaws.{MapsLack}
use Rattle.book_laws.specs.Out.{Beside, IsMapWithOut, CountsBooks, books_out, IsLacking}
use Rattle.book_laws.proofs.Counted.{maps_count_books}
use Rattle.book_laws.proofs.Reserved.{low_inodes, low_blocks}

module _ (beside : Beside) (space : Space) (is : IsMapWithOut beside space) where
  abbrev left : Amount
  left = record { inodes = free_count space.inodes; blocks = free_count space.blocks }

  counts : CountsBooks space (books_out beside)
  counts = maps_count_books beside space is

  left_is : left ≡ free_in (books_out beside)
  left_is = λ i. record { inodes = counts.inodes i; blocks = counts.blocks i }

  lacks : (plan : CommitPlan) (kind : SpaceKind) (asked have : ℕ) → IsLacking space plan kind asked have
      → IsShortOf (amount_planned plan) (free_in (books_out beside)) kind asked have
  lacks plan kind asked have lacking =
      subst (λ (free : Amount). IsShortOf (amount_planned plan) free kind asked have) left_is
      (says (amount_planned plan) left (low_number few_inodes_left) (low_number few_blocks_left) lacking.inodes lacking.blocks
      (NoSpace kind asked have) lacking.short)
    where
      low_number : {n : ℕ} → n ≤ 262144 → n < 2 ^ 32 - 1
      low_number few = omega (arith, few)

      few_inodes_left : free_count space.inodes ≤ 262144
      few_inodes_left = low_inodes beside space is

      few_blocks_left : free_count space.blocks ≤ 262144
      few_blocks_left = low_blocks beside space is

pub maps_lack : MapsLack
maps_lack beside space plan kind asked have is lacking = lacks beside space is plan kind asked have lacking
