-- A block stays free where another fsync was not granted it, and so a grant goes on serving its plan.
use Rattle.std.proofs.Common.{◌<◌, ◌≢◌, ◌∙◌, ◌≤◌, ℕ, Contains, sym, inl, subst, inr, List, length, slice_index, arith}
use Rattle.std.proofs.lemmas.List.Elements.{Contains-get_or}
use Rattle.sfs_image.specs.Seen.{SeenInodes, PLACES}
use Rattle.sfs_image.specs.Part.{pointer_at}
use Rattle.sfs_image.specs.Super.{data_start}
use Rattle.space_map.specs.Space.{GrantedNumbers}
use Rattle.image_laws.specs.Image.{inodes_shown}
use Rattle.disk_change.specs.Built.{Built}
use Rattle.disk_change.specs.AllBuilt.{nodes_with_grant}
use Rattle.commit_laws.specs.PartsMade.{IsPlanOverParts, part_made}
use Rattle.commit_laws.specs.CommitOfPlan.{change_planned, CommitPlan}
use Rattle.commit_laws.proofs.PlanShown.{IsBuiltNode, node_built}
use Rattle.commit_laws.proofs.PartsMade.{pointer_after_is, granted_or_old, within}
use Rattle.commit_laws.proofs.PartsTurned.{by_part, free_has_none}
use Rattle.flush_laws.specs.Volume.{Volume, OneFsync, tree_held, tree_raised, parts_left}
use Rattle.flush_laws.specs.Planned.{GrantsPlan}
use Rattle.flush_laws.proofs.Clean.{over_parts}
use Rattle.book_laws.specs.Free.{IsBlockFreeBeside, NonePointTo, BlocksStayFree, ServesBeside, GrantsStay}
use Rattle.book_laws.proofs.Free.{free_then}

module _ (volume : Volume) (theirs : OneFsync) (block : ℕ) (is : IsBlockFreeBeside volume theirs block) where
  abbrev image : SeenInodes
  image = inodes_shown volume.layout volume.parts

  over : IsPlanOverParts volume.num theirs.nodes (tree_held volume) (tree_raised volume theirs) image theirs.plan theirs.grant volume.store volume.parts
  over = over_parts volume theirs is.planned

  -- no node that the fsync builds points to it
  not_built : (one : Built) → Contains (nodes_with_grant (change_planned theirs.plan) theirs.grant) one → (place : ℕ) → place < PLACES
      → pointer_at (part_made volume.store theirs.plan theirs.grant one) place ≢ block
  not_built one there place low has =
      let node : IsBuiltNode volume.num theirs.nodes (tree_held volume) (tree_raised volume theirs) image theirs.plan theirs.grant over.full one =
      node_built volume.num theirs.nodes (tree_held volume) (tree_raised volume theirs) image theirs.plan theirs.grant over.full one there in
      let at =
      sym (pointer_after_is volume.num theirs.nodes (tree_held volume) (tree_raised volume theirs) image theirs.plan theirs.grant volume.store volume.parts
      over one there node place low) ∙ has in
      elim (granted_or_old volume.num theirs.nodes (tree_held volume) (tree_raised volume theirs) image theirs.plan theirs.grant volume.store volume.parts
      over one there node place low (λ none. is.is_block (sym at ∙ none))) [
        | inl granted ↦ is.apart (subst (Contains theirs.grant.blocks) at granted)
        | inr was ↦
            is.free node.of.inode place
            (within volume.num theirs.nodes (tree_held volume) (tree_raised volume theirs) image theirs.plan theirs.grant volume.store volume.parts over one
            there node)
            low (sym was ∙ at)
      ]

  pub none_points : NonePointTo volume.layout (parts_left volume theirs) block
  none_points i place low few =
      by_part volume.num theirs.nodes (tree_held volume) (tree_raised volume theirs) image theirs.plan theirs.grant volume.store volume.parts over
      (λ _ part. (at : ℕ) → at < PLACES → pointer_at part at ≢ block) not_built
      (λ _ at _ has. is.is_block (sym has ∙ free_has_none volume.store at)) (λ j within at small. is.free j at within small) i low place few

pub blocks_stay_free : BlocksStayFree
blocks_stay_free = none_points

module _ (volume : Volume) (theirs : OneFsync) (later : ℕ → List ℕ) (plan : CommitPlan) (grant : GrantedNumbers)
    (is : ServesBeside volume theirs later plan grant) where
  -- the block at a place of the grant is free then
  block_free : (k : ℕ) → k < length grant.blocks → NonePointTo volume.layout (parts_left volume theirs) (slice_index grant.blocks k)
  block_free k low =
      let there : Contains grant.blocks (slice_index grant.blocks k) = Contains-get_or grant.blocks k 0 low in
      let high = (is.grants.lies (slice_index grant.blocks k) there).0 in
      none_points volume theirs (slice_index grant.blocks k) (record {
        planned = is.planned;
        is_block = λ none. let begin = start_is in omega (arith, high, none, begin);
        free = λ i place within few. is.grants.serves.blocks.free k i place low within few;
        apart = is.blocks (slice_index grant.blocks k) there;
      })
    where
      start_is : 1 ≤ data_start volume.layout
      start_is = omega arith

  pub serves_then : GrantsPlan volume.layout (parts_left volume theirs) plan grant
  serves_then = record {
    serves = record {
      inodes = record {
        enough = is.grants.serves.inodes.enough;
        once = is.grants.serves.inodes.once;
        within = is.grants.serves.inodes.within;
        free = λ k low. free_then volume theirs later (slice_index grant.inodes k) (record {
          planned = is.planned;
          left = is.left;
          within = is.grants.serves.inodes.within k low;
          free = is.grants.serves.inodes.free k low;
          apart = λ j few same.
              is.inodes (slice_index grant.inodes k) (Contains-get_or grant.inodes k 0 low)
              (subst (Contains theirs.grant.inodes) same (Contains-get_or theirs.grant.inodes j 0 few));
        });
      };
      blocks = record {
        enough = is.grants.serves.blocks.enough;
        once = is.grants.serves.blocks.once;
        free = λ k i place low within few. block_free k low i place within few;
      };
    };
    lies = is.grants.lies;
    slots = is.grants.slots;
  }

pub grants_stay : GrantsStay
grants_stay = serves_then
