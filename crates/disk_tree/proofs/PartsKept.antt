-- What is kept of the inodes in use, one inode after another.
use Rattle.std.proofs.Common.{◌≡◌, ◌≢◌, ℕ, ◌+◌, ◌<◌, eqb, List, [], ◌∷◌, ◌++◌, length, get_or, Option, None, refl, sym, ap, ◌∙◌, arith}
use Rattle.std.specs.Prelude.{filter_map}
use Rattle.std.specs.List.{range_with_len}
use Rattle.std.specs.Option.{option_to_list}
use Rattle.std.proofs.lemmas.Bool.{cond-true, cond-false, eq-eqb, ne_eqb}
use Rattle.std.proofs.lemmas.List.{append-nil, get_or_read}
use Rattle.std.proofs.lemmas.List.Elements.{filter_map-append}
use Rattle.sfs_base.specs.Lists.{Roomy}
use Rattle.sfs_image.specs.Inode.{Inode, Table, inode_of}
use Rattle.sfs_image.specs.Slot.{Row}
use Rattle.disk_tree.specs.Blocks.{slots_at}
use Rattle.disk_tree.specs.Gathered.{tables_at}
use Rattle.disk_tree.specs.Inodes.{inode_at}
use Rattle.disk_tree.specs.KeptParts.{NumberedKept, gathered_if_used, gathered_in_use}
use Rattle.block_map.proofs.Places.{range_more}
use Rattle.block_map.proofs.Places.{as_list}

module _ (inodes : List Inode) (tables : List (Roomy Table)) (slots : List (Roomy (List (Option Row)))) where
  pub none_kept : gathered_in_use inodes tables slots 0 ≡ []
  unfolding gathered_in_use
  none_kept = refl

  more_kept : (n : ℕ)
      → gathered_in_use inodes tables slots (n + 1) ≡ gathered_in_use inodes tables slots n ++ option_to_list (gathered_if_used inodes tables slots n)
  unfolding gathered_in_use
  more_kept n =
      ap (filter_map (gathered_if_used inodes tables slots))
      (range_more 0 n ∙ (let e : 0 + n ≡ n = omega arith in ap (λ (k : ℕ). range_with_len 0 n ++ k ∷ []) e))
      ∙ filter_map-append (gathered_if_used inodes tables slots) (range_with_len 0 n) (n ∷ [])
      ∙ ap (λ (xs : List NumberedKept). filter_map (gathered_if_used inodes tables slots) (range_with_len 0 n) ++ xs)
      (as_list (gathered_if_used inodes tables slots n))

  module _ (n : ℕ) (inode : Inode) (within : n < length inodes) (inode_is : inode ≡ get_or inodes n inode) where
    here : inode ≡ inode_at inodes n
    here = get_or_read inodes n inode within inode_is (inode_of [])

    -- a free inode has nothing that is kept
    pub free_passed : (old : List NumberedKept) → old ≡ gathered_in_use inodes tables slots n → inode.kind ≡ 0
        → old ≡ gathered_in_use inodes tables slots (n + 1)
    free_passed old before free =
        before ∙ sym (append-nil (gathered_in_use inodes tables slots n))
        ∙ ap (λ (o : Option NumberedKept). gathered_in_use inodes tables slots n ++ option_to_list o)
        (sym (cond-true (eqb (inode_at inodes n).kind 0) None _ (eq-eqb _ _ (ap (λ (i : Inode). i.kind) (sym here) ∙ free))))
        ∙ sym (more_kept n)

    -- what is kept of an inode in use is put last
    pub used_put : (own : Roomy Table) (blocks : Roomy (List (Option Row))) (old new : List NumberedKept) (part : NumberedKept) → n < length tables
        → n < length slots →
        own ≡ get_or tables n own → blocks ≡ get_or slots n blocks → old ≡ gathered_in_use inodes tables slots n → inode.kind ≢ 0 →
        part ≡ (record { number = n; kept = record { inode = inode; tables = own.items; slots = blocks.items } }) → new ≡ old ++ part ∷ []
        → new ≡ gathered_in_use inodes tables slots (n + 1)
    used_put own blocks old new part in_tables in_slots own_is blocks_is before used is put =
        put ∙ ap (λ (xs : List NumberedKept). xs ++ part ∷ []) before
        ∙ ap (λ (p : NumberedKept). gathered_in_use inodes tables slots n ++ p ∷ []) (is ∙ same)
        ∙ ap (λ (o : Option NumberedKept). gathered_in_use inodes tables slots n ++ option_to_list o)
        (sym (cond-false (eqb (inode_at inodes n).kind 0) None _ (ne_eqb _ _ (λ free. used (ap (λ (i : Inode). i.kind) here ∙ free)))))
        ∙ sym (more_kept n)
      where
        tables_here : own.items ≡ tables_at tables n
        tables_here = ap (λ (t : Roomy Table). t.items) (get_or_read tables n own in_tables own_is (record { items = []; spare = 0 }))

        slots_here : blocks.items ≡ slots_at slots n
        slots_here = ap (λ (b : Roomy (List (Option Row))). b.items) (get_or_read slots n blocks in_slots blocks_is (record { items = []; spare = 0 }))

        same : (let p : NumberedKept = record { number = n; kept = record { inode = inode; tables = own.items; slots = blocks.items } } in p)
            ≡ record { number = n; kept = record { inode = inode_at inodes n; tables = tables_at tables n; slots = slots_at slots n } }
        same = λ j. record { number = n; kept = record { inode = here j; tables = tables_here j; slots = slots_here j } }
