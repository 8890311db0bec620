-- What was mounted is a site.
use Rattle.std.specs.Prelude.{◌&&◌, nat_le, slice_index, replicate}
use Rattle.std.specs.FinMap.{get}
use Rattle.std.proofs.Common.{◌≡◌, ◌≢◌, ◌+◌, ◌*◌, ◌/◌, ◌<◌, ◌≤◌, ◌∙◌, ℕ, zero, suc, Bool, true, false, cond, List, length, map, Option, Some, None, is_some, refl, sym, ap, subst, arith, nat_lt}
use Rattle.std.proofs.lemmas.Bool.{leb-true, ltb-true}
use Rattle.std.proofs.lemmas.List.{length-replicate}
use Rattle.std.proofs.Math.Nat.{div-mul-le_self}
use Rattle.sfs_base.specs.Listed.{is_listed}
use Rattle.sfs_base.proofs.BasicNumbers.{le_itself}
use Rattle.sfs_base.proofs.BasicOptions.{none_some, some_same}
use Rattle.sfs_base.proofs.BasicTruth.{true_not_false, and_first, and_second}
use Rattle.sfs_image.specs.Part.{Part}
use Rattle.sfs_image.specs.Seen.{SeenInodes}
use Rattle.sfs_image.specs.Super.{Layout, data_start}
use Rattle.space_map.specs.Pool.{first_status}
use Rattle.space_map.specs.declared.status.Status.TheVariants.{Free, Taken, Granted}
use Rattle.tree_laws.specs.Tree.{TreeState, made_by}
use Rattle.image_laws.specs.Image.{inodes_shown}
use Rattle.image_laws.specs.ImageTree.{NOTHING_MADE, image_tree}
use Rattle.disk_nodes.specs.Nodes.{entry_node, entry_old}
use Rattle.disk_nodes.specs.OldKept.{OldKept}
use Rattle.disk_nodes.specs.declared.old.OldEntry.{OldEntry}
use Rattle.disk_change.specs.GivenUp.{entry_number}
use Rattle.recovery.specs.Freed.{without_unlinked}
use Rattle.mount_begin.specs.Mounted.{IsSoundMount, making_with}
use Rattle.mount_begin.specs.declared.begin.Mounted.{Mounted}
use Rattle.volume_laws.specs.Begun.{BeginsVolume}
use Rattle.volume_laws.proofs.Begun.{numbered}
use Rattle.volume_laws.proofs.Mounts.{mounts_begin}
use Rattle.volume_laws.proofs.ReadParts.{read_parts_stand}
use Rattle.mem_values.specs.Facts.{IsBelowInodes}
use Rattle.mem_values.specs.Places.{node_count}
use Rattle.mem_values.specs.Start.{given_in}
use Rattle.mem_begin.specs.Beginning.{CanBeginTable}
use Rattle.fsync_commit.specs.Asked.{IsSpaceOn}
use Rattle.site_laws.specs.Sites.{IsSiteMount, MountsAreSites}
use Rattle.site_laws.proofs.Given.{given_is, given_of_entry}

-- a number that has a first status is of its range
first_within : (first end : ℕ) (taken : List ℕ) (number : ℕ) → is_some (first_status first end taken number) ≡ true → (first ≤ number) × (number < end)
first_within first end taken number is = by (nat_le first number && nat_lt number end) refl is
  where
    by : (b : Bool) → (nat_le first number && nat_lt number end) ≡ b → is_some (cond b (Some (cond (is_listed taken number) Taken Free)) None) ≡ true
        → (first ≤ number) × (number < end)
    by true both some = (
      leb-true first number (and_first (nat_le first number) (nat_lt number end) both),
      ltb-true number end (and_second (nat_le first number) (nat_lt number end) both),
    )
    by false both some = absurd (true_not_false (sym some))

-- and is not granted
first_not_granted : (first end : ℕ) (taken : List ℕ) (number : ℕ) → first_status first end taken number ≢ Some Granted
first_not_granted first end taken number is = by (nat_le first number && nat_lt number end) (is_listed taken number) is
  where
    by : (b c : Bool) → cond b (Some (cond c Taken Free)) None ≡ Some Granted → ⊥
    by true true e = let same : Taken ≡ Granted = some_same e in cc
    by true false e = let same : Free ≡ Granted = some_same e in cc
    by false c e = none_some e

-- zeros are zeros
zero_at : (n core : ℕ) → slice_index (replicate n 0) core ≡ 0
zero_at zero core = refl
zero_at (suc n) zero = refl
zero_at (suc n) (suc core) = zero_at n core

module _ (nodes size : ℕ) (mounted : Mounted) (sound : IsSoundMount nodes size mounted) where
  abbrev layout : Layout
  layout = mounted.layout

  abbrev entries : List OldEntry
  entries = mounted.old.items

  abbrev linked : ℕ → Part
  linked = without_unlinked sound.parts

  abbrev image : SeenInodes
  image = inodes_shown layout linked

  -- the tree as it was made
  abbrev shown : TreeState
  shown = image_tree (inodes_shown layout sound.parts) (making_with nodes layout)

  begins : (store : ℕ → List ℕ) × BeginsVolume mounted store linked
  begins =
      let some : 0 < layout.inodes = (let low = sound.fits.ranges.inodes_low in omega (arith, low)) in
      let stand = read_parts_stand layout sound.parts some sound.faultless sound.whole in
      (stand.0, mounts_begin nodes size mounted stand.0 sound stand.1)

  inodes : layout.inodes ≡ mounted.tree.first
  inodes = sym (ap (λ (tree : TreeState). tree.first) sound.shown)

  cores : length mounted.tree.made ≡ layout.cores
  cores = ap (λ (tree : TreeState). length tree.made) sound.shown ∙ length-replicate {A = ℕ} layout.cores 0

  unmade : (core : ℕ) → made_by mounted.tree core ≡ 0
  unmade core = ap (λ (tree : TreeState). made_by tree core) sound.shown ∙ zero_at layout.cores core

  few : node_count mounted.tree ≤ layout.inodes + nodes
  few = subst (λ (tree : TreeState). node_count tree ≤ layout.inodes + nodes) (sym sound.shown)
      (subst (λ (n : ℕ). layout.inodes + nodes / layout.cores * n ≤ layout.inodes + nodes) (sym (length-replicate {A = ℕ} layout.cores 0))
      (let low = div-mul-le_self nodes layout.cores in omega (arith, low)))

  -- what is given of a node is the inode of its own number
  below : (node : ℕ) → IsBelowInodes mounted.tree.first (given_in entries node)
  below node old given =
      let there = given_is entries node old given in
      let own = begins.1.keeps.each there.entry there.among in
      let is = numbered image NOTHING_MADE (entry_node there.entry) (entry_old there.entry).number own.0 in
      subst (λ (n : ℕ). old.number < n) inodes (subst (λ (kept : OldKept). kept.number < layout.inodes) there.old_is
      (let low = is.low in let same = is.same in omega (arith, low, same)))

  -- and of a node of the tree something is
  given_there : (node : ℕ) → is_some (get mounted.tree.nodes node) ≡ true → is_some (given_in entries node) ≡ true
  given_there node some =
      let has = (begins.1.stands.between.numbers.each node).0 some in
      let entry = begins.1.keeps.all node has.0 has.1 in
      subst (λ (n : ℕ). is_some (given_in entries n) ≡ true) entry.2 (ap is_some (given_of_entry entries begins.1.keeps.ascend entry.0 entry.1))

  there_given : (node : ℕ) → is_some (given_in entries node) ≡ true → is_some (get mounted.tree.nodes node) ≡ true
  there_given node some = by (given_in entries node) refl some
    where
      by : (o : Option OldKept) → given_in entries node ≡ o → is_some o ≡ true → is_some (get mounted.tree.nodes node) ≡ true
      by None none is = absurd (true_not_false (sym is))
      by (Some old) given is =
          let there = given_is entries node old given in
          let own = begins.1.keeps.each there.entry there.among in
          subst (λ (n : ℕ). is_some (get mounted.tree.nodes n) ≡ true) there.node_is
          ((begins.1.stands.between.numbers.each (entry_node there.entry)).1 ((entry_old there.entry).number, own.0))

  same_truth : (b c : Bool) → (b ≡ true → c ≡ true) → (c ≡ true → b ≡ true) → b ≡ c
  same_truth true c to from = sym (to refl)
  same_truth false true to from = from refl
  same_truth false false to from = refl

  can_begin : CanBeginTable mounted.tree
  can_begin = record { sound = sound.sound.sound; short = begins.1.short; unmade = unmade }

  space : IsSpaceOn layout mounted.space
  space = record {
    inodes = λ number some. (first_within 0 layout.inodes (map entry_number entries) number (sym (ap is_some (sound.space.inodes number)) ∙ some)).1;
    blocks = λ number some.
        let is = first_within (data_start layout) layout.blocks sound.space.held number (sym (ap is_some (sound.space.blocks number)) ∙ some) in
        record { low = is.0; high = is.1 };
  }

  pub site : IsSiteMount nodes mounted
  site = record {
    sound = sound.sound;
    limits = sound.limits;
    begins = can_begin;
    cores = cores;
    inodes = inodes;
    few = few;
    disk = λ node. same_truth _ _ (there_given node) (given_there node);
    below = below;
    fits = record { ranges = sound.fits.ranges; room = sound.fits.room; within = le_itself layout.blocks };
    space = space;
    no_inode = λ number is. first_not_granted 0 layout.inodes (map entry_number entries) number (sym (sound.space.inodes number) ∙ is);
    no_block = λ number is. first_not_granted (data_start layout) layout.blocks sound.space.held number (sym (sound.space.blocks number) ∙ is);
  }

pub mounts_are_sites : MountsAreSites
mounts_are_sites nodes size mounted sound = site nodes size mounted sound
