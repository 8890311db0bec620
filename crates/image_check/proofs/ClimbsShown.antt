-- The entries of directories that were gathered tell the places of the image's directories.
use Rattle.std.proofs.Common.{◌≡◌, ◌≢◌, ℕ, zero, suc, ◌+◌, ◌*◌, ◌<◌, ◌≤◌, Bool, true, false, cond, List, [], ◌∷◌, ◌++◌, All, length, map, nat_eq, eqb, count_by, Option, Some, None, IsSome, option_map, refl, sym, ap, subst, ◌∙◌, arith, inl, inr}
use Rattle.std.specs.Prelude.{slice_index}
use Rattle.std.specs.FinMap.{entries, len, len-entries}
use Rattle.std.proofs.lemmas.Bool.{cases_Bool, cond-true, cond-false, eq-eqb, eqb-true, eqb-false}
use Rattle.std.proofs.lemmas.List.{length-append, length-map}
use Rattle.sfs_base.proofs.BasicOptions.{none_some, none_not_some, some_same}
use Rattle.sfs_base.specs.Lists.{Roomy}
use Rattle.sfs_image.specs.Inode.{Inode}
use Rattle.sfs_image.specs.Seen.{SeenInodes}
use Rattle.sfs_image.specs.Slot.{Row}
use Rattle.tree_laws.specs.Sound.{Above, IsSound, at_root as above_root, below as above_below}
use Rattle.tree_laws.specs.Tree.{TreeState, and_above, holder_of, is_directory_kind, names_it, row_of, walk_up}
use Rattle.tree_laws.proofs.Counting.{count_some}
use Rattle.tree_laws.proofs.Joined.{count-cons}
use Rattle.tree_laws.proofs.Walks.{walk_is}
use Rattle.image_laws.specs.ImageTree.{NOTHING_MADE, image_rows}
use Rattle.image_laws.specs.Keeps.{IsDirectoryInode, KeepsRules, ruled_tree}
use Rattle.image_laws.proofs.Images.{directory_shown, slot_back}
use Rattle.image_laws.proofs.Mounted.{sound_shown}
use Rattle.keyed_list.specs.Ascending.{item_with}
use Rattle.disk_tree.specs.Built.{entry_of_row, entries_at, row_entries}
use Rattle.disk_tree.specs.First.{NonePasses}
use Rattle.disk_tree.specs.Inodes.{inode_at}
use Rattle.disk_tree.specs.Ordered.{AreFewRows}
use Rattle.disk_tree.specs.Reached.{row_at}
use Rattle.disk_tree.specs.Rows.{named_rows, rows_of_inode}
use Rattle.disk_tree.specs.Shown.{ShowsRows}
use Rattle.disk_tree.specs.Tests.{breaks_eighth, breaks_eleventh, breaks_tenth, breaks_twelfth}
use Rattle.disk_tree.proofs.CountsShown.{counted}
use Rattle.disk_tree.proofs.Entries.{more_entries, no_entries}
use Rattle.disk_tree.proofs.ReachedShown.{child_kind, holder_is, kind_again, row_back}
use Rattle.disk_tree.proofs.RulesOrdered.{few_rows}
use Rattle.image_check.specs.Climbs.{AreClimbed, CanClimb, Climbs, HasHolders, IsClimbed, NamesAlone, at_root, below, named_directory}
use Rattle.image_check.specs.Entries.{holder_inode}
use Rattle.image_check.specs.Holders.{AreHolders, IsPlace, depth_by}
use Rattle.image_check.specs.declared.certificate.Holder.{Holder}
use Rattle.image_check.proofs.Climbed.{climbs_on, one_depth, root_climbs}
use Rattle.image_check.proofs.Items.{found_item, of_found}

-- a walk up has no more steps than it may
walk_short : (steps : ℕ) (tree : TreeState) (node : ℕ) → length (walk_up steps tree node) ≤ steps
walk_short zero tree node = omega arith
walk_short (suc steps) tree node = by (holder_of tree node) (walk_short steps tree)
  where
    by : (o : Option ℕ) → ((y : ℕ) → length (walk_up steps tree y) ≤ steps) → length (and_above (walk_up steps tree) o) ≤ suc steps
    by None up = omega arith
    by (Some holder) up = (let h = up holder in omega arith)

-- all of a list are counted by a test that each passes
count_all : {X : Type 0} (xs : List X) → count_by (λ _. true) xs ≡ length xs
count_all [] = refl
count_all {X} (x ∷ xs) = (let h = count-cons (λ (_ : X). true) x xs in let more = count_all xs in omega arith)

entries_many : (rows : List (Roomy Row)) (n : ℕ) → length (row_entries rows n) ≡ named_rows rows n
entries_many rows zero = ap length (no_entries rows)
entries_many rows (suc n) =
    (let e : suc n ≡ n + 1 = omega arith in ap (λ (k : ℕ). length (row_entries rows k)) e)
    ∙ ap length (more_entries rows n)
    ∙ (let h = length-append (row_entries rows n) (entries_at rows n) in
    let own = length-map (rows_of_inode rows n) (entry_of_row n) in
    let before = entries_many rows n in
    omega arith)

-- a row that names a directory
pub named_is : (rows : List Row) (k x : ℕ) → named_directory rows k ≡ Some x → (is_directory_kind (row_at rows k).kind ≡ true) × ((row_at rows k).inode ≡ x)
named_is rows k x is = elim (cases_Bool (is_directory_kind (row_at rows k).kind)) [
  | inl directory ↦ (directory, some_same (sym (cond-true (is_directory_kind (row_at rows k).kind) (Some (row_at rows k).inode) None directory) ∙ is))
  | inr other ↦ absurd (none_some (sym (cond-false (is_directory_kind (row_at rows k).kind) (Some (row_at rows k).inode) None other) ∙ is))
]

module _ (image : SeenInodes) (inodes : List Inode) (rows : List (Roomy Row)) (shows : ShowsRows image inodes rows) (long : length rows ≡ length inodes)
    (once : NonePasses image.count (breaks_eighth rows)) (placed : NonePasses image.count (breaks_tenth inodes rows))
    (rootless : NonePasses image.count (breaks_eleventh rows)) (single : NonePasses image.count (breaks_twelfth inodes rows (length inodes)))
    (keeps : KeepsRules image) where
  abbrev tree : TreeState
  tree = ruled_tree image

  sound : IsSound tree
  sound = sound_shown image NOTHING_MADE keeps

  -- what a row names is held by the row's directory
  held_by : (d k x : ℕ) → k < length (rows_of_inode rows d) → named_directory (rows_of_inode rows d) k ≡ Some x → holder_of tree x ≡ Some d
  held_by d k x inside names =
      let is = named_is (rows_of_inode rows d) k x names in
      subst (λ (y : ℕ). holder_of tree y ≡ Some d) is.1 (holder_is image inodes rows shows long once placed rootless single d k inside is.0)

  alone : (d k x : ℕ) → k < length (rows_of_inode rows d) → named_directory (rows_of_inode rows d) k ≡ Some x → NamesAlone rows (length rows) d x
  alone d k x inside names other j low within also = some_same (sym (held_by other j x within also) ∙ held_by d k x inside names)

  -- a row of the tree that names a directory, as one that was gathered
  record IsNamedBy (holder node : ℕ) : Type 0 where
    low : holder < length rows
    k : ℕ
    inside : k < length (rows_of_inode rows holder)
    names : named_directory (rows_of_inode rows holder) k ≡ Some node
    directory : IsDirectoryInode image holder

  named_by : (holder : ℕ) (name : List ℕ) (node : ℕ) → row_of tree holder name ≡ Some node → IsDirectoryInode image node → IsNamedBy holder node
  named_by holder name node row directory =
      let back = row_back image inodes rows shows long once holder name node row in
      let slot = slot_back image holder name node row in
      let kind : is_directory_kind (row_at (rows_of_inode rows holder) back.k).kind ≡ true =
      kind_again image inodes rows shows long once placed rootless single (row_at (rows_of_inode rows holder) back.k).kind
      (sym (child_kind image inodes rows shows long once placed rootless single holder back.k back.inside)
      ∙ ap (λ (j : ℕ). (inode_at inodes j).kind) back.is ∙ sym (shows.kind node directory.0) ∙ directory.1) in
      record {
        low = (let w = back.within in let c = shows.count in omega arith);
        k = back.k;
        inside = back.inside;
        names =
            cond-true (is_directory_kind (row_at (rows_of_inode rows holder) back.k).kind) (Some (row_at (rows_of_inode rows holder) back.k).inode) None kind
            ∙ ap Some back.is;
        directory = (slot.within, slot.kind);
      }

  -- there are few rows
  len_few : AreFewRows rows → length rows ≤ 16384 → len (image_rows image) < 4294967295
  len_few few many =
      let e : len (image_rows image) ≡ named_rows rows image.count =
      len-entries (image_rows image) ∙ sym (count_all (entries (image_rows image))) ∙ counted image inodes rows shows long once (λ _. true)
      ∙ count_all (row_entries rows image.count) ∙ entries_many rows image.count in
      let h = few_rows rows few image.count in
      let c = shows.count in
      omega arith

  module _ (above : List ℕ) (has : HasHolders rows (length rows) above) where
    -- the holder of a directory stands in the table
    table_is : (holder : ℕ) (name : List ℕ) (node : ℕ) → row_of tree holder name ≡ Some node → IsDirectoryInode image node → slice_index above node ≡ holder
    table_is holder name node row directory =
        let one = named_by holder name node row directory in
        has holder one.k node one.low one.inside one.names (alone holder one.k node one.inside one.names)

    climbs : {node : ℕ} {l : List ℕ} → Above tree node l → IsDirectoryInode image node → Climbs above node (length l)
    climbs above_root directory = at_root
    climbs (above_below node holder name l row rest) directory =
        let one = named_by holder name node row directory in
        below node (length l) (λ zero_is. sound.unnamed holder name (row ∙ ap Some zero_is))
        (subst (λ (d : ℕ). Climbs above d (length l)) (sym (table_is holder name node row directory)) (climbs rest one.directory))

    pub can_climb : AreFewRows rows → length rows ≤ 16384 → CanClimb inodes above
    can_climb few many i less kind =
        let within : i < image.count = (let c = shows.count in omega arith) in
        let directory : IsDirectoryInode image i = (within, shows.kind i within ∙ kind) in
        let way = keeps.reached i directory in
        let walk = walk_is tree sound way.1 (directory_shown image NOTHING_MADE i within ∙ eq-eqb _ _ directory.1) in
        let short = walk_short (len (image_rows image)) tree i in
        let same = ap length walk in
        let most = len_few few many in
        record { depth = length way.0; small = omega arith; climbs = climbs way.1 directory }

    module _ (holders : List Holder) (are : AreClimbed inodes above (length inodes) holders) where
      -- the holder of a directory below the root, and the row that names it
      record IsHeld (node : ℕ) : Type 0 where
        holder : ℕ
        name : List ℕ
        row : row_of tree holder name ≡ Some node

      held : {node : ℕ} {l : List ℕ} → Above tree node l → node ≢ 0 → IsHeld node
      held above_root some = absurd (some refl)
      held (above_below node holder name l row rest) some = record { holder = holder; name = name; row = row }

      depth_is : (holder less : ℕ) → IsDirectoryInode image holder → Climbs above holder less → depth_by holders holder ≡ Some less
      depth_is holder less directory climb = elim (cases_Bool (nat_eq holder 0)) [
        | inl zero_is ↦
            cond-true (nat_eq holder 0) (Some 0) (option_map (λ (h : Holder). h.depth) (item_with holder_inode holder holders)) zero_is
            ∙ ap Some (sym (root_climbs above less (subst (λ (d : ℕ). Climbs above d less) (eqb-true _ _ zero_is) climb)))
        | inr other ↦
            cond-false (nat_eq holder 0) (Some 0) (option_map (λ (h : Holder). h.depth) (item_with holder_inode holder holders)) other
            ∙ by (item_with holder_inode holder holders) refl
            (are.each holder (let w = directory.0 in let c = shows.count in omega arith) (sym (shows.kind holder directory.0) ∙ directory.1) (eqb-false _ _ other))
      ]
        where
          by : (o : Option Holder) → item_with holder_inode holder holders ≡ o → IsSome o → option_map (λ (h : Holder). h.depth) o ≡ Some less
          by None is some = absurd (none_not_some {X = Holder} None refl some)
          by (Some h) is some =
              let inode = (found_item holder_inode holders holder h is).number in
              let right = of_found holder_inode (IsClimbed inodes above (length inodes)) holders holder h are.right is in
              ap Some (one_depth above holder h.depth less (subst (λ (d : ℕ). Climbs above d h.depth) inode right.depth) climb)

      place : (h : Holder) → IsClimbed inodes above (length inodes) h → IsPlace image holders h
      place h is =
          let within : h.inode < image.count = (let w = is.within in let c = shows.count in omega arith) in
          let directory : IsDirectoryInode image h.inode = (within, shows.kind h.inode within ∙ is.kind) in
          let one = held (keeps.reached h.inode directory).1 is.no_root in
          let named = named_by one.holder one.name h.inode one.row directory in
          let holder : one.holder ≡ h.holder = sym (table_is one.holder one.name h.inode one.row directory) ∙ sym is.holder in
          let some = count_some (names_it h.inode) (image_rows image) (one.holder, one.name) h.inode one.row (eq-eqb h.inode h.inode refl) in
          let most = keeps.named_once h.inode directory in
          let on = climbs_on above h.inode h.depth is.depth is.no_root in
          record {
            directory = directory;
            no_root = is.no_root;
            once = omega arith;
            holder = held_by one.holder named.k h.inode named.inside named.names ∙ ap Some holder;
            depth =
                ap (option_map suc)
                (depth_is h.holder on.less (subst (IsDirectoryInode image) holder named.directory)
                (subst (λ (d : ℕ). Climbs above d on.less) (sym is.holder) on.rest))
                ∙ ap Some on.one_more;
          }

      pub places : AreHolders image holders
      places = record {
        ascend = are.ascend;
        each = λ i directory some.
            are.each i (let w = directory.0 in let c = shows.count in omega arith) (sym (shows.kind i directory.0) ∙ directory.1) some;
        right = λ k d less. place (Rattle.std.proofs.Common.get_or holders k d) (are.right k d less);
      }
