-- What the places of a commit's nodes have of blocks, before and after it.
use Rattle.std.proofs.Common.{◌≡◌, ◌≢◌, ℕ, ◌-◌, ◌<◌, Bool, true, false, cond, not, ◌&&◌, List, take, drop, Some, inl, inr, refl, sym, ap, subst, ◌∙◌, arith, nat_eq, nat_lt, length-take, Contains}
use Rattle.std.specs.Prelude.{◌⊎◌}
use Rattle.std.proofs.lemmas.Bool.Decides.{nat_tests}
use Rattle.std.proofs.lemmas.List.{get_or-take}
use Rattle.sfs_base.proofs.BasicOptions.{some_same}
use Rattle.sfs_image.specs.Part.{seen_of}
use Rattle.sfs_image.specs.Seen.{PLACES, FILE_BLOCKS}
use Rattle.image_laws.specs.Need.{Rewrite, pointer_after, rewrites_table, table_has_pointer}
use Rattle.block_map.specs.Kept.{pointer_kept}
use Rattle.disk_nodes.specs.OldKept.{Kept}
use Rattle.block_map.specs.Remap.{gives_up, fresh_for}
use Rattle.keyed_list.specs.Ascending.{item_with}
use Rattle.disk_nodes.specs.Nodes.{entry_node}
use Rattle.disk_nodes.specs.declared.old.OldEntry.{OldEntry}
use Rattle.commit_laws.proofs.Granted.{is_in, in_dropped}
use Rattle.commit_laws.proofs.KeptShown.{kept_parts_show}
use Rattle.commit_laws.proofs.KnownDirectories.{own_item}
use Rattle.flush_laws.specs.Volume.{Volume}
use Rattle.flush_laws.specs.Ready.{IsBetweenCommits, KeepsEntries}

-- the block that an entry has at a place
abbrev pub pointer_in : OldEntry → ℕ → ℕ
pointer_in entry place = pointer_kept entry.old.kept.inode entry.old.kept.tables place

-- what is in the front of a list is in it
pub in_front : {X : Type 0} (n : ℕ) (xs : List X) (x : X) → Contains (take n xs) x → Contains xs x
in_front n xs x (k, within, is) =
    let long = length-take n xs in
    (k, omega (arith, within, long), sym (get_or-take n xs k x (omega (arith, within, long))) ∙ is)

-- a block that a rewriting leaves at a place is fresh, or stood there and is not given up
stays_or_fresh : (rewritten zero : Bool) (fresh pointer block : ℕ) → block ≢ 0 → cond rewritten (cond zero 0 fresh) pointer ≡ block
    → (fresh ≡ block) ⊎ ((pointer ≡ block) × ((rewritten && not (nat_eq pointer 0)) ≡ false))
stays_or_fresh true true fresh pointer block some e = absurd (some (sym e))
stays_or_fresh true false fresh pointer block some e = inl e
stays_or_fresh false zero fresh pointer block some e = inr (e, refl)

stays_or_written : (rewritten has : Bool) (fresh pointer block : ℕ) → block ≢ 0 → cond rewritten (cond has fresh 0) pointer ≡ block
    → (fresh ≡ block) ⊎ ((pointer ≡ block) × ((rewritten && not (nat_eq pointer 0)) ≡ false))
stays_or_written true true fresh pointer block some e = inl e
stays_or_written true false fresh pointer block some e = absurd (some (sym e))
stays_or_written false has fresh pointer block some e = inr (e, refl)

-- a block that is not given up stays
not_rewritten : (rewritten : Bool) (pointer other : ℕ) → pointer ≢ 0 → (rewritten && not (nat_eq pointer 0)) ≡ false → cond rewritten other pointer ≡ pointer
not_rewritten false pointer other some e = refl
not_rewritten true pointer other some e = absurd (some (zero_is (nat_eq pointer 0) refl e))
  where
    zero_is : (b : Bool) → nat_eq pointer 0 ≡ b → not b ≡ false → pointer ≡ 0
    zero_is true test none = grind (arith, nat_tests)
    zero_is false test none = cc

module _ (rewrite : Rewrite) (fresh : ℕ → ℕ) (place block : ℕ) (some : block ≢ 0) where
  pub after_place : pointer_after rewrite fresh place ≡ block → (fresh place ≡ block) ⊎ ((rewrite.pointers place ≡ block) × (gives_up rewrite place ≡ false))
  after_place = by (nat_lt place FILE_BLOCKS)
    where
      by : (b : Bool)
          → cond b (cond (rewrite.is_rewritten place) (cond (rewrite.is_zero place) 0 (fresh place)) (rewrite.pointers place))
          (cond (rewrites_table rewrite (place - FILE_BLOCKS)) (cond (table_has_pointer rewrite (place - FILE_BLOCKS)) (fresh place) 0)
          (rewrite.pointers place))
          ≡ block
          → (fresh place ≡ block)
          ⊎ ((rewrite.pointers place ≡ block)
          × ((cond b (rewrite.is_rewritten place) (rewrites_table rewrite (place - FILE_BLOCKS)) && not (nat_eq (rewrite.pointers place) 0)) ≡ false))
      by true e = stays_or_fresh (rewrite.is_rewritten place) (rewrite.is_zero place) (fresh place) (rewrite.pointers place) block some e
      by false e =
          stays_or_written (rewrites_table rewrite (place - FILE_BLOCKS)) (table_has_pointer rewrite (place - FILE_BLOCKS)) (fresh place)
          (rewrite.pointers place) block some e

  pub place_stays : rewrite.pointers place ≡ block → gives_up rewrite place ≡ false → pointer_after rewrite fresh place ≡ block
  place_stays is kept = by (nat_lt place FILE_BLOCKS) kept ∙ is
    where
      there : rewrite.pointers place ≢ 0
      there none = some (sym is ∙ none)

      by : (b : Bool) → (cond b (rewrite.is_rewritten place) (rewrites_table rewrite (place - FILE_BLOCKS)) && not (nat_eq (rewrite.pointers place) 0))
          ≡ false
          → cond b (cond (rewrite.is_rewritten place) (cond (rewrite.is_zero place) 0 (fresh place)) (rewrite.pointers place))
          (cond (rewrites_table rewrite (place - FILE_BLOCKS)) (cond (table_has_pointer rewrite (place - FILE_BLOCKS)) (fresh place) 0)
          (rewrite.pointers place))
          ≡ rewrite.pointers place
      by true e = not_rewritten (rewrite.is_rewritten place) (rewrite.pointers place) (cond (rewrite.is_zero place) 0 (fresh place)) there e
      by false e =
          not_rewritten (rewrites_table rewrite (place - FILE_BLOCKS)) (rewrite.pointers place)
          (cond (table_has_pointer rewrite (place - FILE_BLOCKS)) (fresh place) 0) there e

-- a fresh block of a node is one of the grant
pub fresh_is_granted : (rewrite : Rewrite) (n m : ℕ) (grant : List ℕ) (place block : ℕ) → block ≢ 0 → fresh_for rewrite (take n (drop m grant)) place ≡ block
    → Contains grant block
fresh_is_granted rewrite n m grant place block some is =
    subst (λ b. Contains grant b) is
    (in_dropped m grant (fresh_for rewrite (take n (drop m grant)) place)
    (in_front n (drop m grant) (fresh_for rewrite (take n (drop m grant)) place) (is_in (take n (drop m grant)) _ (λ none. some (sym is ∙ none)))))

module _ (volume : Volume) (entries : List OldEntry)
    (ready : IsBetweenCommits volume) (keeps : KeepsEntries volume.num volume.parts entries) where
  pub low_number : (entry : OldEntry) → Contains entries entry → entry.old.number < volume.layout.inodes
  low_number entry there = ready.stands.within entry.node.0 entry.old.number (keeps.each entry there).0

  -- what an entry has at a place is what its part points to there
  pub shown_at : (entry : OldEntry) → Contains entries entry → (place : ℕ) → place < PLACES
      → pointer_in entry place ≡ (seen_of (volume.parts entry.old.number)).blocks place
  shown_at entry there place low =
      ap (λ (k : Kept). pointer_kept k.inode k.tables place) (keeps.each entry there).1
      ∙ (kept_parts_show volume.store (volume.parts entry.old.number) (ready.sound.gathered entry.old.number (low_number entry there))).pointers place low

  -- entries of one node are one
  pub same_entry : (a b : OldEntry) → Contains entries a → Contains entries b → a.node.0 ≡ b.node.0 → a ≡ b
  same_entry a b there also same =
      some_same
      (sym (own_item entry_node entries keeps.ascend a there) ∙ ap (λ n. item_with entry_node n entries) same
      ∙ own_item entry_node entries keeps.ascend b also)

  -- and so are entries with one number
  pub same_number : (a b : OldEntry) → Contains entries a → Contains entries b → a.old.number ≡ b.old.number → a ≡ b
  same_number a b there also same =
      same_entry a b there also (ready.stands.once a.node.0 b.node.0 b.old.number ((keeps.each a there).0 ∙ ap Some same) (keeps.each b also).0)

  -- a block stands in one entry, at one place
  pub stands_apart : (a b : OldEntry) (place other block : ℕ) → Contains entries a → Contains entries b → place < PLACES → other < PLACES → block ≢ 0
      → pointer_in a place ≡ block → pointer_in b other ≡ block → (a ≡ b) × (place ≡ other)
  stands_apart a b place other block there also low low_other some is is_other =
      let here = sym (shown_at a there place low) ∙ is in
      let here_too = sym (shown_at b also other low_other) ∙ is_other in
      let one =
      ready.stands.apart a.old.number place b.old.number other (low_number a there) (low_number b also) low low_other (λ none. some (sym here ∙ none))
      (here ∙ sym here_too) in
      (same_number a b there also one.0, one.1)
