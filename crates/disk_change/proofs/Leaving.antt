-- The nodes of a list that leave, one by one.
use Rattle.std.proofs.Common.{◌≡◌, ℕ, ◌+◌, ◌<◌, Bool, true, false, cond, List, [], ◌∷◌, ◌++◌, length, get_or, take, map, filter, filter_map, Option, inl, inr, ◌⊎◌, refl, sym, ap, subst, ◌∙◌, Contains}
use Rattle.std.specs.Prelude.{option_to_list, ◌↔◌}
use Rattle.std.proofs.lemmas.List.{append-nil, append_assoc}
use Rattle.std.proofs.lemmas.List.Elements.{filter_more, filter_map-append}
use Rattle.block_map.specs.Kept.{pointer_kept}
use Rattle.block_map.specs.RemapLaws.{IsHeld}
use Rattle.block_map.proofs.Places.{as_list}
use Rattle.disk_nodes.specs.declared.old.OldEntry.{OldEntry}
use Rattle.std.specs.List.{cons_option}
use Rattle.sfs_image.specs.Slot.{Row}
use Rattle.disk_change.specs.Built.{Built}
use Rattle.disk_change.specs.Parts.{BuiltParts, built_in, built_with}
use Rattle.disk_change.specs.Records.{written_of_built}
use Rattle.disk_change.specs.GivenUp.{IsLeftByGone}
use Rattle.disk_change.specs.Lists.{ascending_by, put_if}
use Rattle.disk_change.specs.Planned.{has_listed_node}
use Rattle.disk_change.proofs.Ascending.{ascending_maybe}
use Rattle.disk_change.proofs.Left.{in_last, last_in}

module _ (leaving : List ℕ) (old : List OldEntry) (i : ℕ) (entry : OldEntry) (within : i < length old) (is : entry ≡ get_or old i entry) where
  abbrev leave : List OldEntry → List OldEntry
  leave entries = filter (has_listed_node leaving) entries

  next : (b : Bool) → has_listed_node leaving entry ≡ b → leave (take (i + 1) old) ≡ leave (take i old) ++ cond b (entry ∷ []) []
  next b listed =
      filter_more (has_listed_node leaving) old i entry within
      ∙ (λ j. leave (take i old) ++ cond (has_listed_node leaving (sym is j)) (sym is j ∷ []) []) ∙ ap (λ l. leave (take i old) ++ cond l (entry ∷ []) []) listed

  -- one more leaves
  pub one_leaves : has_listed_node leaving entry ≡ true → filter (has_listed_node leaving) (take (i + 1) old) ≡ filter (has_listed_node leaving) (take i old) ++ entry ∷ []
  one_leaves listed = next true listed

  -- or stays
  pub one_stays : has_listed_node leaving entry ≡ false → filter (has_listed_node leaving) (take (i + 1) old) ≡ filter (has_listed_node leaving) (take i old)
  one_stays listed = next false listed ∙ append-nil (leave (take i old))

-- what is put among others of one node more that leaves
pub put_leaving : {X : Type 0} (key : X → ℕ) (f : OldEntry → Option X) (front : List X) (gone more : List OldEntry) (entry : OldEntry) (before new : List X)
    → more ≡ gone ++ entry ∷ [] → before ≡ ascending_by key (front ++ filter_map f gone) → new ≡ put_if key (f entry) before
    → new ≡ ascending_by key (front ++ filter_map f more)
put_leaving key f front gone more entry before new grown was after =
    after ∙ ap (put_if key (f entry)) was ∙ sym (ascending_maybe key (front ++ filter_map f gone) (f entry))
    ∙ ap (ascending_by key)
    (append_assoc front (filter_map f gone) (option_to_list (f entry))
    ∙ ap (λ rest. front ++ rest)
    (ap (λ rest. filter_map f gone ++ rest) (sym (as_list (f entry))) ∙ sym (filter_map-append f gone (entry ∷ [])) ∙ sym (ap (filter_map f) grown)))

-- what nodes hold that leave, and one more of them
pub held_more : (gone more : List OldEntry) (entry : OldEntry) (freed before after : List ℕ) → more ≡ gone ++ entry ∷ []
    → ((block : ℕ) → Contains before block ↔ (Contains freed block ⊎ IsLeftByGone gone block))
    → ((block : ℕ) → Contains after block ↔ (Contains before block ⊎ IsHeld (pointer_kept entry.old.kept.inode entry.old.kept.tables) block))
    → (block : ℕ) → Contains after block ↔ (Contains freed block ⊎ IsLeftByGone more block)
held_more gone more entry freed before after grown was now block = (
  λ has. elim ((now block).0 has) [
    | inl earlier ↦ elim ((was block).0 earlier) [
      | inl left ↦ inl left
      | inr one ↦
          inr
          (record {
            entry = one.entry;
            one = subst (λ xs. Contains xs one.entry) (sym grown) (last_in gone entry one.entry (inl one.one));
            held = one.held;
          })
    ]
    | inr held ↦ inr (record { entry = entry; one = subst (λ xs. Contains xs entry) (sym grown) (last_in gone entry entry (inr refl)); held = held })
  ],
  λ has. elim has [
    | inl left ↦ (now block).1 (inl ((was block).1 (inl left)))
    | inr one ↦ elim (in_last gone entry one.entry (subst (λ xs. Contains xs one.entry) grown one.one)) [
      | inl earlier ↦ (now block).1 (inl ((was block).1 (inr (record { entry = one.entry; one = earlier; held = one.held }))))
      | inr same ↦ (now block).1 (inr (subst (λ (e : OldEntry). IsHeld (pointer_kept e.old.kept.inode e.old.kept.tables) block) (sym same) one.held))
    ]
  ],
)

-- what a function gives of nodes with these slots
pub filter_of_map : {Y : Type 0} (slots : List (List (Option Row))) (f : Built → Option Y) (nodes : List BuiltParts)
    → filter_map (λ node. f (built_with slots node)) nodes ≡ filter_map f (map (built_with slots) nodes)
filter_of_map slots f [] = refl
filter_of_map {Y} slots f (node ∷ nodes) = by (f (built_with slots node)) (filter_of_map slots f nodes)
  where
    by : (o : Option Y) → filter_map (λ n. f (built_with slots n)) nodes ≡ filter_map f (map (built_with slots) nodes)
        → cons_option o (filter_map (λ n. f (built_with slots n)) nodes)
        ≡ cons_option o (filter_map f (map (built_with slots) nodes))
    by o rest = ap (cons_option o) rest

-- the records of nodes do not depend on their slots
pub same_written : (old : List OldEntry) (nodes : List BuiltParts)
    → filter_map written_of_built (map (built_with []) nodes) ≡ filter_map written_of_built (map (built_in old) nodes)
same_written old [] = refl
same_written old (node ∷ nodes) = ap (cons_option (written_of_built (built_with [] node))) (same_written old nodes)
