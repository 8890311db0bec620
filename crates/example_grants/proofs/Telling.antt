-- What the core of each of the two fsyncs tells of its pair.
use Rattle.std.specs.FinMap.{get, empty}
use Rattle.std.specs.List.{range_with_len}
use Rattle.std.proofs.Common.{◌∷◌, ◌≡◌, ◌⊎◌, ◌≤◌, ◌<◌, ◌∙◌, ◌↔◌, ◌+◌, if◌then◌else◌, [], subst, refl, ap, length, arith, List, Contains, zero, inl, suc, inr, Some, sym, true, is_some, Option, ℕ, false, Bool, map, filter, take, replicate}
use Rattle.std.proofs.lemmas.Bool.{le-leb}
use Rattle.std.proofs.lemmas.Bool.Decides.{nat_tests}
use Rattle.sfs_image.specs.Bytes.{zeros}
use Rattle.mem_files.specs.File.{is_touched}
use Rattle.keyed_list.specs.Ascending.{AscendBy}
use Rattle.tree_laws.specs.Changes.{FileChange, edits_of, bytes_at}
use Rattle.tree_laws.specs.Effect.{Puts}
use Rattle.tree_laws.specs.History.{tree_after}
use Rattle.tree_laws.specs.Tree.{Node, TreeState, is_alive, is_directory}
use Rattle.disk_nodes.specs.declared.old.OldEntry.{OldEntry}
use Rattle.disk_nodes.specs.Nodes.{entry_node}
use Rattle.disk_change.specs.declared.pages.Page.{Page}
use Rattle.block_map.specs.Kept.{kept_of}
use Rattle.cut_laws.specs.Rules.{IsChange, IsOneOf}
use Rattle.cut_laws.specs.Closure.{none, IsNamedIn}
use Rattle.cut_laws.specs.Cut.{cut_of}
use Rattle.beside_laws.specs.Progress.{Standing, HasLeft}
use Rattle.flush_laws.specs.Ready.{KeepsEntries}
use Rattle.flush_plan.specs.Touched.{pages_from, page_of, is_marked_from}
use Rattle.mark_laws.specs.Changed.{HasShortFiles}
use Rattle.mark_laws.specs.FileAt.{IsFileAt}
use Rattle.mark_laws.specs.Touched.{IsTouchedBetween, touched_by}
use Rattle.space_laws.proofs.Mapped.{grants_keep_maps}
use Rattle.space_laws.proofs.Served.{grants_serve}
use Rattle.book_laws.specs.Pairs.{run_with}
use Rattle.reserve_laws.specs.Fits.{TellsPair, by_own}
use Rattle.reserve_laws.specs.Looks.{ServesPair}
use Rattle.reserve_laws.specs.OwnFile.{MakesOwnFile, ChangesOwn, in_time}
use Rattle.tree_laws.specs.Changes.{RowChange}
use Rattle.example_grants.specs.Calls.{FIRST_TREE, WRITES_AND_FSYNCS, own_file_flush, other_write}
use Rattle.example_grants.specs.Image.{TWO_FILES, FIRST_NUMBERS, FIRST_PARTS, FIFTEEN_BLOCKS}
use Rattle.example_grants.specs.Fsyncs.{Writer, OWN, OTHER, ENTRIES, entry_for_node, file_by, change_by, page_by, making_by, plan_of_writer, grant_by, pair_made}
use Rattle.example_grants.specs.Laws.{WritersTell}
use Rattle.example_grants.specs.Map.{map_with, FIRST_MAP}
use Rattle.example_grants.proofs.Tree.{node_get, no_bytes, own_alive, other_alive, own_no_directory, other_no_directory, rows_are}
use Rattle.example_grants.proofs.Calls.{LAST_TREE, own_step, other_step, own_stays, same_after, nothing_changes, two_edits, OWN_EDIT, OTHER_EDIT, own_bytes, other_bytes, no_cut, same_rows}
use Rattle.example_grants.proofs.Standing.{numbered, volume_stands}
use Rattle.example_grants.proofs.Plans.{own_writes, other_writes}
use Rattle.example_grants.proofs.Mapped.{entry_cases, map_right, own_reserved, other_reserved}
use Rattle.space_map.specs.declared.status.Status.TheVariants.{Granted, Free}

no_change : (change : RowChange) → IsChange FIRST_TREE WRITES_AND_FSYNCS change → ⊥
no_change change one = subst (λ l. IsOneOf l change) nothing_changes one

-- what stands before any commit
pub standing : Standing (run_with TWO_FILES [])
standing = record {
  flushed = none;
  left = λ node. HasLeft.nobody (λ other one. absurd one) (no_cut node) refl;
  passed = λ change one. absurd (no_change change one);
  members = λ commit node one. absurd one;
  numbered = λ one two first. absurd first;
}

pub short_files : HasShortFiles FIRST_TREE
short_files node = let long = ap length (no_bytes node) in omega (arith, long)

-- what memory keeps
entry_of : (node : ℕ) → (node ≡ 0) ⊎ ((node ≡ 1) ⊎ (node ≡ 2)) → (entry : OldEntry) × Contains ENTRIES entry × (entry.node.0 ≡ node)
entry_of node known = elim known [
  | inl root ↦ (entry_for_node 0, (0, omega arith, refl), sym root)
  | inr file ↦ elim file [ inl own ↦ (entry_for_node 1, (1, omega arith, refl), sym own) | inr other ↦ (entry_for_node 2, (2, omega arith, refl), sym other) ]
]

abbrev IsKept : OldEntry → Type 0
IsKept entry = (FIRST_NUMBERS entry.node.0 ≡ Some entry.old.number) × (entry.old.kept ≡ kept_of (FIRST_PARTS entry.old.number))

pub entries_kept : KeepsEntries FIRST_NUMBERS FIRST_PARTS ENTRIES
entries_kept = record {
  ascend = ascend;
  each = λ entry has. elim (entry_cases entry has) [
    | inl root ↦ subst IsKept root (refl, refl)
    | inr file ↦ elim file [ inl own ↦ subst IsKept own (refl, refl) | inr other ↦ subst IsKept other (refl, refl) ]
  ];
  all = λ node i has. entry_of node (numbered node i has).1;
}
  where
    ascend : AscendBy entry_node ENTRIES
    ascend zero zero d less within = absurd (omega (arith, less))
    ascend zero (suc zero) d less within = omega arith
    ascend zero (suc (suc zero)) d less within = omega arith
    ascend zero (suc (suc (suc j))) d less within = absurd (omega (arith, within))
    ascend (suc i) zero d less within = absurd (omega (arith, less))
    ascend (suc zero) (suc zero) d less within = absurd (omega (arith, less))
    ascend (suc zero) (suc (suc zero)) d less within = omega arith
    ascend (suc zero) (suc (suc (suc j))) d less within = absurd (omega (arith, within))
    ascend (suc (suc i)) (suc zero) d less within = absurd (omega (arith, less))
    ascend (suc (suc i)) (suc (suc zero)) d less within = absurd (omega (arith, less))
    ascend (suc (suc i)) (suc (suc (suc j))) d less within = absurd (omega (arith, within))

-- What is known of a file to which a core writes one byte and which it flushes: the file is there, with one of the first entries, and is alive as its
-- fsync comes; a row names it; the write is the only change of it; and it has the byte then.
pub record IsWriter (w : Writer) : Type 0 where
  pub there : is_some (get FIRST_TREE.nodes w.file) ≡ true
  pub entry : Contains ENTRIES (entry_for_node w.file)
  pub then_is : tree_after FIRST_TREE (take w.flushed WRITES_AND_FSYNCS) ≡ LAST_TREE
  pub alive : is_alive LAST_TREE w.file ≡ true
  pub no_directory : is_directory LAST_TREE w.file ≡ false
  pub named : IsNamedIn FIRST_TREE.rows w.file
  pub before : w.written < w.flushed
  pub low : w.flushed ≤ 4
  pub edit : IsOneOf (edits_of FIRST_TREE WRITES_AND_FSYNCS) (record { stamp = w.written; file = w.file; edit = Puts 0 (w.byte ∷ []) })
  pub only : (change : FileChange) → IsOneOf (edits_of FIRST_TREE WRITES_AND_FSYNCS) change → change.file ≡ w.file
      → record { stamp = w.written; file = w.file; edit = Puts 0 (w.byte ∷ []) } ≡ change
  pub bytes : bytes_at FIRST_TREE WRITES_AND_FSYNCS w.file w.flushed ≡ w.byte ∷ []

writes_then : tree_after FIRST_TREE (take 2 WRITES_AND_FSYNCS) ≡ LAST_TREE
writes_then = ap (λ t. tree_after t (other_write ∷ [])) own_step ∙ other_step

own_flushed_then : tree_after FIRST_TREE (take 3 WRITES_AND_FSYNCS) ≡ LAST_TREE
own_flushed_then =
    ap (λ t. tree_after t (other_write ∷ own_file_flush ∷ [])) own_step ∙ ap (λ t. tree_after t (own_file_flush ∷ [])) other_step ∙ own_stays

edit_cases : (change : FileChange) → IsOneOf (edits_of FIRST_TREE WRITES_AND_FSYNCS) change → (OWN_EDIT ≡ change) ⊎ (OTHER_EDIT ≡ change)
edit_cases change one = elim (subst (λ l. IsOneOf l change) two_edits one) [
  | inl own ↦ inl own
  | inr more ↦ elim more [ inl other ↦ inr other | inr never ↦ absurd never ]
]

pub own_is : IsWriter OWN
own_is = record {
  there = ap (λ (o : Option Node). is_some o) (node_get [] [] 1);
  entry = (1, omega arith, refl);
  then_is = writes_then;
  alive = own_alive (65 ∷ []) (66 ∷ []);
  no_directory = own_no_directory (65 ∷ []) (66 ∷ []);
  named = record { directory = 0; name = 97 ∷ []; row = rows_are [] [] 0 (97 ∷ []) };
  before = omega arith;
  low = omega arith;
  edit = subst (λ l. IsOneOf l OWN_EDIT) (sym two_edits) (inl refl);
  only = λ change one same. elim (edit_cases change one) [
    | inl own ↦ own
    | inr other ↦ absurd (let e = ap (λ (c : FileChange). c.file) other in omega (arith, e, same))
  ];
  bytes = own_bytes;
}

pub other_is : IsWriter OTHER
other_is = record {
  there = ap (λ (o : Option Node). is_some o) (node_get [] [] 2);
  entry = (2, omega arith, refl);
  then_is = own_flushed_then;
  alive = other_alive (65 ∷ []) (66 ∷ []);
  no_directory = other_no_directory (65 ∷ []) (66 ∷ []);
  named = record { directory = 0; name = 98 ∷ []; row = rows_are [] [] 0 (98 ∷ []) };
  before = omega arith;
  low = omega arith;
  edit = subst (λ l. IsOneOf l OTHER_EDIT) (sym two_edits) (inr (inl refl));
  only = λ change one same. elim (edit_cases change one) [
    | inl own ↦ absurd (let e = ap (λ (c : FileChange). c.file) own in omega (arith, e, same))
    | inr other ↦ other
  ];
  bytes = other_bytes;
}

-- the page of a file of one byte
take_same : (n more : ℕ) → take n (replicate {A = ℕ} (n + more) 0) ≡ replicate n 0
take_same zero more = none (replicate more 0)
  where
    none : (l : List ℕ) → take 0 l ≡ []
    none [] = refl
    none (x ∷ l) = refl
take_same (suc n) more =
    ap (λ m. take (suc n) (replicate {A = ℕ} m 0)) (let e : suc n + more ≡ suc (n + more) = omega arith in e) ∙ ap (λ l. 0 ∷ l) (take_same n more)

one_page : (byte : ℕ) → page_of (byte ∷ []) 0 ≡ record { block = 0; bytes = byte ∷ zeros 4095 }
unfolding zeros
one_page byte = λ i. record { block = 0; bytes = byte ∷ take_same 4095 1 i }

kept_one : (test : ℕ → Bool) → test 0 ≡ true → filter test (range_with_len 0 1) ≡ 0 ∷ []
kept_one test passes = ap (λ b. if b then 0 ∷ [] else []) passes

module _ (w : Writer) (is : IsWriter w) where
  abbrev EDIT : FileChange
  EDIT = record { stamp = w.written; file = w.file; edit = Puts 0 (w.byte ∷ []) }

  marks : (from block : ℕ) → (is_marked_from from (file_by w) block ≡ true) ↔ IsTouchedBetween FIRST_TREE WRITES_AND_FSYNCS w.file from w.flushed block
  marks from block = (touched from block, λ t. marked from block (only_one t) (sees t))
    where
      touched : (from block : ℕ) → is_marked_from from (file_by w) block ≡ true → IsTouchedBetween FIRST_TREE WRITES_AND_FSYNCS w.file from w.flushed block
      touched from zero marked = record {
        change = EDIT;
        among = is.edit;
        own = refl;
        since = grind (arith, nat_tests, marked);
        below = is.before;
        touches = refl;
      }
      touched from (suc block) marked = cc marked

      only_one : IsTouchedBetween FIRST_TREE WRITES_AND_FSYNCS w.file from w.flushed block → from ≤ w.written
      only_one t = let same = ap (λ (c : FileChange). c.stamp) (is.only t.change t.among t.own) in let since = t.since in omega (arith, same, since)

      sees : (t : IsTouchedBetween FIRST_TREE WRITES_AND_FSYNCS w.file from w.flushed block) → is_touched (touched_by EDIT.edit 0) block ≡ true
      sees t = subst (λ (c : FileChange). is_touched (touched_by c.edit 0) block ≡ true) (sym (is.only t.change t.among t.own)) (edit_touches t)
        where
          edit_touches : (t : IsTouchedBetween FIRST_TREE WRITES_AND_FSYNCS w.file from w.flushed block) → is_touched (touched_by t.change.edit 0) block ≡ true
          edit_touches t =
              subst (λ (c : FileChange). is_touched (touched_by c.edit (length (bytes_at FIRST_TREE WRITES_AND_FSYNCS w.file t.change.stamp))) block ≡ true
              → is_touched (touched_by c.edit 0) block ≡ true) (is.only t.change t.among t.own) (λ e. e) t.touches

      marked : (from block : ℕ) → from ≤ w.written → is_touched (touched_by EDIT.edit 0) block ≡ true → is_marked_from from (file_by w) block ≡ true
      marked from zero since touches = le-leb from w.written since
      marked from (suc block) since touches = absurd (grind (arith, nat_tests, touches))

  file_then : IsFileAt FIRST_TREE WRITES_AND_FSYNCS w.file w.flushed (file_by w)
  file_then = record { bytes = sym is.bytes; marks = marks }

  pages : page_by w ∷ [] ≡ pages_from (cut_of empty w.file) (file_by w)
  pages =
      sym
      (ap (λ cut. pages_from cut (file_by w)) (no_cut w.file)
      ∙ ap (map (page_of (w.byte ∷ []))) (kept_one (is_marked_from 0 (file_by w)) (le-leb 0 w.written (omega arith)))
      ∙ ap (λ (page : Page). page ∷ []) (one_page w.byte))

  changes : ChangesOwn TWO_FILES (making_by w).flush (change_by w ∷ [])
  changes =
      in_time (file_by w) (change_by w) (let none = no_cut w.file in omega (arith, none)) file_then (record { own = refl; size = refl; pages = pages })

  pub makes : MakesOwnFile TWO_FILES [] (making_by w)
  makes = record {
    stands = volume_stands;
    short = short_files;
    standing = standing;
    is_own = record {
      live = subst (λ (t : TreeState). is_alive t w.file ≡ true) (sym is.then_is) is.alive;
      file = subst (λ (t : TreeState). is_directory t w.file ≡ false) (sym same_after) is.no_directory;
      has = is.there;
      named = (λ same. subst (λ rows. IsNamedIn rows w.file) (sym same_rows) is.named, λ there. refl);
    };
    low = is.low;
    entry_is = record { entries = ENTRIES; keeps = entries_kept; there = is.entry; own = refl };
    changes = changes;
  }

  pub tells : TellsPair TWO_FILES [] (pair_made w)
  tells = by_own (making_by w) makes (record { other_number = λ other one. absurd one; greater = λ other one. absurd one }) refl

pub own_serves : ServesPair TWO_FILES (pair_made OWN)
own_serves =
    grants_serve TWO_FILES ENTRIES (plan_of_writer OWN) FIRST_MAP (map_with Granted Free) (grant_by OWN) volume_stands.between entries_kept map_right
    own_reserved.taken

pub other_serves : ServesPair TWO_FILES (pair_made OTHER)
other_serves =
    grants_serve TWO_FILES ENTRIES (plan_of_writer OTHER) (map_with Granted Free) (map_with Granted Granted) (grant_by OTHER) volume_stands.between entries_kept
    (grants_keep_maps FIFTEEN_BLOCKS ENTRIES (plan_of_writer OWN) FIRST_MAP (map_with Granted Free) (grant_by OWN) map_right own_reserved.taken)
    other_reserved.taken

pub writers_tell : WritersTell
writers_tell = record {
  own = record { makes = makes OWN own_is; tells = tells OWN own_is; serves = own_serves; writes = own_writes };
  other = record { makes = makes OTHER other_is; tells = tells OTHER other_is; serves = other_serves; writes = other_writes };
}
