-- A grant from a right map serves the plan that it was taken for.
use Rattle.std.proofs.Common.{◌≡◌, ℕ, ◌+◌, ◌*◌, ◌<◌, ◌≤◌, List, length, map, Some, inl, inr, sym, ap, subst, ◌∙◌, arith, Contains}
use Rattle.std.specs.Prelude.{◌≢◌, slice_index}
use Rattle.std.specs.List.Sorted.{IsStrictlyIncreasing}
use Rattle.std.proofs.lemmas.Bool.{cases_lt}
use Rattle.std.proofs.lemmas.List.Elements.{All-contains}
use Rattle.std.proofs.lemmas.List.Kept.{AllPairs-from_increasing}
use Rattle.sfs_base.proofs.BasicOptions.{some_same}
use Rattle.sfs_image.specs.Part.{seen_of}
use Rattle.sfs_image.specs.Seen.{PLACES}
use Rattle.sfs_image.specs.Super.{Layout, slot_blocks, record_blocks, data_start}
use Rattle.image_laws.specs.Image.{inodes_shown}
use Rattle.image_laws.specs.Need.{GrantServes}
use Rattle.image_laws.specs.Numbers.{InodeGrantServes}
use Rattle.image_laws.specs.Stands.{IsUnused}
use Rattle.block_map.specs.Kept.{kept_of, pointer_kept}
use Rattle.space_map.specs.Pool.{status_of}
use Rattle.space_map.specs.Space.{Space, GrantedNumbers}
use Rattle.space_map.specs.declared.status.Status.TheVariants.{Free, Taken}
use Rattle.disk_change.specs.GivenUp.{IsLeftByGone, entry_number}
use Rattle.disk_change.specs.Nodes.{enter_node}
use Rattle.disk_nodes.specs.declared.old.OldEntry.{OldEntry}
use Rattle.commit_laws.specs.CommitMade.{rewrites_seated}
use Rattle.commit_laws.specs.CommitOfPlan.{CommitPlan, change_planned}
use Rattle.commit_laws.proofs.KeptShown.{kept_parts_show}
use Rattle.commit_laws.proofs.Ranked.{needs_are_those}
use Rattle.commit_laws.proofs.SeatsOfPlan.{in_mapped}
use Rattle.flush_laws.specs.Volume.{Volume}
use Rattle.flush_laws.specs.Ready.{IsBetweenCommits, KeepsEntries}
use Rattle.space_laws.specs.Laws.{GrantsServe}
use Rattle.space_laws.specs.Map.{IsMapOf, WasGranted}
use Rattle.space_laws.proofs.Asked.{all_asked, enters_counted}

-- numbers that ascend stand once
stands_once : (numbers : List ℕ) → IsStrictlyIncreasing numbers → (j k : ℕ) → j < length numbers → k < length numbers
    → slice_index numbers j ≡ slice_index numbers k → j ≡ k
stands_once numbers rise j k jn kn same = elim (cases_lt j k) [
  | inl below ↦ absurd (let less = AllPairs-from_increasing numbers rise j k 0 below kn in omega (arith, less, same))
  | inr above ↦ elim (cases_lt k j) [
    | inl over ↦ absurd (let less = AllPairs-from_increasing numbers rise k j 0 over jn in omega (arith, less, same))
    | inr equal ↦ omega (arith, above, equal)
  ]
]

-- the data area does not begin with block 0
pub data_behind_super : (layout : Layout) → 0 < data_start layout
data_behind_super layout = above (layout.cores * layout.slots * slot_blocks layout.inodes) (record_blocks layout.inodes)
  where
    above : (a b : ℕ) → 0 < 1 + a + b
    above a b = omega arith

module _ (volume : Volume) (entries : List OldEntry) (plan : CommitPlan) (old new : Space) (grant : GrantedNumbers)
    (ready : IsBetweenCommits volume) (keeps : KeepsEntries volume.num volume.parts entries)
    (mapped : IsMapOf volume.layout entries old) (granted : WasGranted plan old grant new) where
  -- the entry of an inode that a node has
  pub record HasEntry (i : ℕ) : Type 0 where
    pub entry : OldEntry
    pub among : Contains entries entry
    pub number : entry.old.number ≡ i
    pub kept : entry.old.kept ≡ kept_of (volume.parts i)

  entry_of : (node i : ℕ) → volume.num node ≡ Some i → HasEntry i
  entry_of node i has =
      let one = keeps.all node i has in
      let each = keeps.each one.0 one.1 in
      let number : one.0.old.number ≡ i = some_same (sym each.0 ∙ ap volume.num one.2 ∙ has) in
      record { entry = one.0; among = one.1; number = number; kept = each.1 ∙ ap (λ n. kept_of (volume.parts n)) number }

  -- a free block is held at no place
  unheld : (block i place : ℕ) → status_of old.blocks block ≡ Some Free → i < volume.layout.inodes → place < PLACES → (seen_of (volume.parts i)).blocks place
      ≢ block
  unheld block i place free inside low is = elim (ready.stands.rest i inside) [
    | inl (node, has) ↦
        let one = entry_of node i has in
        let shows = kept_parts_show volume.store (volume.parts i) (ready.sound.gathered i inside) in
        let held : IsLeftByGone entries block = record {
          entry = one.entry;
          one = one.among;
          held = record {
            some = λ none. omega (arith, lies, behind, none);
            place = place;
            within = low;
            stands = ap (λ k. pointer_kept k.inode k.tables place) one.kept ∙ shows.pointers place low ∙ is;
          };
        } in
        let never : Free ≡ Taken = mapped.blocks.held_is_taken block Free free held in cc
    | inr unused ↦ let none = sym is ∙ unused.blocks place low in omega (arith, lies, behind, none)
  ]
    where
      behind : 0 < data_start volume.layout
      behind = data_behind_super volume.layout

      lies : data_start volume.layout ≤ block
      lies = (mapped.blocks.within block Free free).0

  -- a free inode is no node's
  unused_inode : (i : ℕ) → status_of old.inodes i ≡ Some Free → i < volume.layout.inodes → IsUnused (seen_of (volume.parts i))
  unused_inode i free inside = elim (ready.stands.rest i inside) [
    | inl (node, has) ↦
        let one = entry_of node i has in
        let held : Contains (map entry_number entries) i =
        subst (λ n. Contains (map entry_number entries) n) one.number (in_mapped entry_number entries one.entry one.among) in
        absurd (let never : Free ≡ Taken = mapped.inodes.held_is_taken i Free free held in cc)
    | inr unused ↦ unused
  ]

  blocks_serve : GrantServes (inodes_shown volume.layout volume.parts) (rewrites_seated (change_planned plan)) grant.blocks
  blocks_serve = record {
    enough = all_asked _ _ _ old.blocks mapped.blocks (omega (arith, ready.sound.ranges.blocks)) _ grant.blocks new.blocks granted.blocks
        ∙ sym (needs_are_those (change_planned plan).seats);
    once = stands_once grant.blocks granted.blocks.ascending;
    free = λ k i place kn inside low. unheld (slice_index grant.blocks k) i place (granted.blocks.free k 0 kn) inside low;
  }

  inodes_serve : InodeGrantServes (inodes_shown volume.layout volume.parts) (map enter_node plan.enter) grant.inodes
  inodes_serve = record {
    enough = all_asked _ _ _ old.inodes mapped.inodes (omega (arith, ready.sound.ranges.inodes_high)) _ grant.inodes new.inodes granted.inodes
        ∙ enters_counted plan;
    once = stands_once grant.inodes granted.inodes.ascending;
    within = within;
    free = λ k kn. unused_inode (slice_index grant.inodes k) (granted.inodes.free k 0 kn) (within k kn);
  }
    where
      within : (k : ℕ) → k < length grant.inodes → slice_index grant.inodes k < volume.layout.inodes
      within k kn = (mapped.inodes.within (slice_index grant.inodes k) Free (granted.inodes.free k 0 kn)).1

  lies_in_data : (block : ℕ) → Contains grant.blocks block → (data_start volume.layout ≤ block) × (block < volume.layout.blocks)
  lies_in_data block there =
      mapped.blocks.within block Free (All-contains (λ n. status_of old.blocks n ≡ Some Free) grant.blocks block granted.blocks.free there)

pub grants_serve : GrantsServe
grants_serve volume entries plan old new grant ready keeps mapped granted = record {
  serves = record {
    inodes = inodes_serve volume entries plan old new grant ready keeps mapped granted;
    blocks = blocks_serve volume entries plan old new grant ready keeps mapped granted;
  };
  lies = lies_in_data volume entries plan old new grant ready keeps mapped granted;
}
