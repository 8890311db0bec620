-- What is reserved from a map with grants out fits the books.
use Rattle.std.proofs.Common.{◌≡◌, ◌+◌, ◌-◌, ◌≤◌, ◌^◌, ◌∙◌, ℕ, Bool, not, length, inl, inr, ap, arith}
use Rattle.std.proofs.lemmas.Bool.{cases_lt}
use Rattle.sfs_image.specs.Super.{data_start}
use Rattle.space_map.specs.Pool.{free_count}
use Rattle.space_map.specs.Space.{Space}
use Rattle.space_map.proofs.Free.{length-free_from}
use Rattle.image_laws.specs.Image.{inodes_shown}
use Rattle.disk_change.specs.Planned.{as_u32}
use Rattle.commit_laws.specs.CommitOfPlan.{CommitPlan}
use Rattle.turn_laws.specs.Need.{Amount, is_held_in}
use Rattle.turn_ties.specs.Plans.{amount_planned}
use Rattle.turn_ties.proofs.Fits.{rank_low}
use Rattle.book_laws.specs.MapLaws.{MapsReserve}
use Rattle.book_laws.specs.Out.{Beside, GrantOut, IsMapWithOut, CountsBooks, books_out, WasReserved}
use Rattle.book_laws.proofs.Counted.{few_inodes, maps_count_books}

-- so much as 32 bits have room for, of which there is little, is as much as was asked
asked_is : (asked free left : ℕ) → left + as_u32 asked ≡ free → free ≤ 262144 → as_u32 asked ≡ asked
asked_is asked free left taken few = elim (cases_lt asked (2 ^ 32 - 1)) [
  | inl low ↦ omega (arith, low)
  | inr high ↦ absurd (omega (arith, high, taken, few))
]

-- and there is as much
few : (need free left now : ℕ) → as_u32 need ≡ need → left + as_u32 need ≡ now → now ≡ free → need ≤ free
few need free left now same taken count = omega (arith, same, taken, count)

-- a map with grants out has little of both
module _ (beside : Beside) (space : Space) (is : IsMapWithOut beside space) where
  counts : CountsBooks space (books_out beside)
  counts = maps_count_books beside space is

  pub low_inodes : free_count space.inodes ≤ 262144
  low_inodes =
      let few = few_inodes beside space is in
      let long = length-free_from space.inodes.first space.inodes.statuses in
      omega (arith, few, long)

  pub low_blocks : free_count space.blocks ≤ 262144
  low_blocks =
      let count = counts.blocks in
      let unheld : ℕ → Bool = λ n. not (is_held_in (inodes_shown beside.volume.layout beside.volume.parts) (data_start beside.volume.layout + n)) in
      let low = rank_low unheld (beside.volume.layout.blocks - data_start beside.volume.layout) in
      let range = is.stands.between.sound.ranges.blocks in
      omega (arith, count, low, range)

module _ (beside : Beside) (old new : Space) (plan : CommitPlan) (out : GrantOut) (is : IsMapWithOut beside old)
    (was : WasReserved plan old out.numbers new) where
  inodes_are : as_u32 (amount_planned plan).inodes ≡ (amount_planned plan).inodes
  inodes_are = asked_is (amount_planned plan).inodes (free_count old.inodes) (free_count new.inodes) was.taken.inodes.left (low_inodes beside old is)

  blocks_are : as_u32 (amount_planned plan).blocks ≡ (amount_planned plan).blocks
  blocks_are = asked_is (amount_planned plan).blocks (free_count old.blocks) (free_count new.blocks) was.taken.blocks.left (low_blocks beside old is)

  abbrev granted : Amount
  granted = record { inodes = length out.numbers.inodes; blocks = length out.numbers.blocks }

  need_is : granted ≡ amount_planned plan
  need_is = λ i. record { inodes = (was.taken.inodes.counted ∙ inodes_are) i; blocks = (was.taken.blocks.counted ∙ blocks_are) i }

pub maps_reserve : MapsReserve
maps_reserve beside old new plan out is was = record {
  fits = record {
    inodes =
        few (amount_planned plan).inodes _ (free_count new.inodes) (free_count old.inodes)
        (inodes_are beside old new plan out is was) was.taken.inodes.left (counts beside old is).inodes;
    blocks =
        few (amount_planned plan).blocks _ (free_count new.blocks) (free_count old.blocks)
        (blocks_are beside old new plan out is was) was.taken.blocks.left (counts beside old is).blocks;
  };
  least = was.least ∙ (counts beside old is).least (amount_planned plan).inodes;
  as_needed = ap (λ (need : Amount). record { stamp = out.stamp; need = need; inodes = out.numbers.inodes })
      (need_is beside old new plan out is was);
}
