-- The first fault is none exactly where the rules hold.
use Rattle.std.proofs.Common.{◌≡◌, ◌≢◌, ℕ, zero, suc, ◌+◌, ◌<◌, ◌≤◌, Bool, true, false, cond, not, ◌||◌, ◌&&◌, List, [], ◌∷◌, Option, Some, None, option_map, inl, inr, refl, sym, ap, subst, ◌∙◌, arith, nat_eq, nat_lt, count_by}
use borrow.Author.Tests.{eqb-true, eq-eqb, eqb-false, ltb-true, ltb-false, lt-ltb}
use Rattle.std.specs.Prelude.{bytes_eq, filter_map, slice_get}
use Rattle.std.specs.List.{range_with_len, list_any, find, cons_option, AllByRecursion}
use Rattle.std.specs.Option.{option_map_or}
use Rattle.std.specs.FinMap.{len, entries}
use Rattle.tree_laws.specs.Tree.{BUCKET_ROWS, TreeState, bucket_rows, walk_up, and_above, lies_below, holds_directory, links_of, count_of}
use Rattle.tree_laws.specs.Sound.{Above, at_root, below}
use Rattle.tree_laws.proofs.RowFacts.{holder_found}
use Rattle.tree_laws.proofs.Walks.{walk_is}
use Rattle.sfs_image.specs.Slot.{Row, kind_byte}
use Rattle.sfs_image.specs.Seen.{SeenInodes}
use Rattle.image_laws.specs.Slots.{name_count}
use Rattle.image_laws.specs.ImageTree.{NOTHING_MADE, shows_directory, is_used, image_rows, shows_file}
use Rattle.sfs_base.specs.declared.numbers.Kind.TheVariants.{File, Directory}
use Rattle.sfs_base.proofs.BasicTruth.{and_first, and_second, and_false, or_first, or_second, or_true, not_false, then_false, not_both}
use Rattle.image_laws.specs.Keeps.{ruled_tree, IsDirectoryInode, MayName, MayStand, KeepsRules}
use Rattle.image_laws.specs.Rules.{has_name_twice, has_overfull_bucket, is_misplaced, has_misplaced_row, names_root, is_named_twice, has_wrong_links, is_unreached, breaks_tree_rule, BYTE_RULES, RULES, TreeFault, fault_by, first_fault, breaks_rule, KeepsByteRules}
use Rattle.image_laws.specs.Laws.{NoFaultIsRulesKept, FreeInodesBreakNoTreeRule, OrphansBreakNoTreeRule}
use Rattle.sfs_base.proofs.BasicNumbers.{not_below, not_same}
use Rattle.sfs_base.proofs.BasicOptions.{none_some}
use Rattle.sfs_base.proofs.BasicLists.{bytes_same}
use Rattle.sfs_image.proofs.RuleFacts.{asked}
use Rattle.image_laws.proofs.SlotRows.{count_slot}
use Rattle.image_laws.proofs.Images.{directory_shown}
use Rattle.image_laws.proofs.Mounted.{sound_shown, used_not_free}

either_false : (b x y : Bool) → x ≡ false → y ≡ false → cond b x y ≡ false
either_false true x y e f = e
either_false false x y e f = f

-- numbers in turn of which none passes
module _ (p : ℕ → Bool) where
  find_none : (a n : ℕ) → ((k : ℕ) → a ≤ k → k < a + n → p k ≡ false) → find p (range_with_len a n) ≡ None
  find_none a zero h = refl
  find_none a (suc n) h =
      ap (λ b. cond b (Some a) (find p (range_with_len (a + 1) n))) (h a (omega arith) (omega arith))
      ∙ find_none (a + 1) n (λ k le lt. h k (omega arith) (omega arith))

  pub none_found : (a n : ℕ) → find p (range_with_len a n) ≡ None → (k : ℕ) → a ≤ k → k < a + n → p k ≡ false
  none_found a zero e k le lt = absurd (omega arith)
  none_found a (suc n) e k le lt =
      elim (p a) as (λ b. p a ≡ b → cond b (Some a) (find p (range_with_len (a + 1) n)) ≡ None → p k ≡ false) [
        | true ↦ λ t f. absurd (none_some (sym f))
        | false ↦ λ t f. elim (nat_eq a k) as (λ b. nat_eq a k ≡ b → p k ≡ false) [
          | true ↦ λ u. ap p (sym (eqb-true _ _ u)) ∙ t
          | false ↦ λ u. let other : a ≢ k = eqb-false _ _ u in none_found (a + 1) n f k (omega arith) (omega arith)
        ] refl
      ] refl e

  any_none : (a n : ℕ) → ((k : ℕ) → a ≤ k → k < a + n → p k ≡ false) → list_any p (range_with_len a n) ≡ false
  any_none a zero h = refl
  any_none a (suc n) h =
      ap (λ b. b || list_any p (range_with_len (a + 1) n)) (h a (omega arith) (omega arith)) ∙ any_none (a + 1) n (λ k le lt. h k (omega arith) (omega arith))

  none_any : (a n : ℕ) → list_any p (range_with_len a n) ≡ false → (k : ℕ) → a ≤ k → k < a + n → p k ≡ false
  none_any a zero e k le lt = absurd (omega arith)
  none_any a (suc n) e k le lt =
      elim (p a) as (λ b. p a ≡ b → (b || list_any p (range_with_len (a + 1) n)) ≡ false → p k ≡ false) [
        | true ↦ λ t f. absurd (not_both refl f)
        | false ↦ λ t f. elim (nat_eq a k) as (λ b. nat_eq a k ≡ b → p k ≡ false) [
          | true ↦ λ u. ap p (sym (eqb-true _ _ u)) ∙ t
          | false ↦ λ u. let other : a ≢ k = eqb-false _ _ u in none_any (a + 1) n f k (omega arith) (omega arith)
        ] refl
      ] refl e

module _ (f : ℕ → Option TreeFault) where
  gather_none : (a n : ℕ) → ((k : ℕ) → a ≤ k → k < a + n → f k ≡ None) → filter_map f (range_with_len a n) ≡ []
  gather_none a zero h = refl
  gather_none a (suc n) h =
      ap (λ o. cons_option o (filter_map f (range_with_len (a + 1) n))) (h a (omega arith) (omega arith))
      ∙ gather_none (a + 1) n (λ k le lt. h k (omega arith) (omega arith))

  none_gathered : (a n : ℕ) → slice_get (filter_map f (range_with_len a n)) 0 ≡ None → (k : ℕ) → a ≤ k → k < a + n → f k ≡ None
  none_gathered a zero e k le lt = absurd (omega arith)
  none_gathered a (suc n) e k le lt = by_first (f a) refl e (none_gathered (a + 1) n)
    where
      by_first : (o : Option TreeFault) → f a ≡ o → slice_get (cons_option o (filter_map f (range_with_len (a + 1) n))) 0 ≡ None →
          (slice_get (filter_map f (range_with_len (a + 1) n)) 0 ≡ None → (k : ℕ) → a + 1 ≤ k → k < a + 1 + n → f k ≡ None) → f k ≡ None
      by_first (Some x) is e rest = absurd (none_some (sym e))
      by_first None is e rest = elim (nat_eq a k) as (λ b. nat_eq a k ≡ b → f k ≡ None) [
        | true ↦ λ u. ap f (sym (eqb-true _ _ u)) ∙ is
        | false ↦ λ u. let other : a ≢ k = eqb-false _ _ u in rest e k (omega arith) (omega arith)
      ] refl

pub unmapped : (rule : ℕ) (o : Option ℕ) → ◌≡◌ {A = Option TreeFault} (option_map (λ i. record { rule = rule; inode = i }) o) None → o ≡ None
unmapped rule None e = refl
unmapped rule (Some i) e = absurd (none_some (sym e))

module _ (breaks : ℕ → ℕ → Bool) (count : ℕ) where
  -- where no inode breaks a rule there is no first fault
  no_fault : ((rule i : ℕ) → 1 ≤ rule → i < count → breaks rule i ≡ false) → first_fault breaks count ≡ None
  no_fault h =
      ap (λ (l : List TreeFault). slice_get l 0)
      (gather_none (fault_by breaks count) 1 RULES
      (λ rule le lt. ap (option_map (λ i. record { rule = rule; inode = i }))
      (find_none (breaks rule) 0 count (λ i _ less. h rule i le (omega arith)))))

  -- and where there is none, no inode breaks one
  pub no_break : first_fault breaks count ≡ None → (rule i : ℕ) → 1 ≤ rule → rule < 15 → i < count → breaks rule i ≡ false
  no_break none rule i le lt less =
      none_found (breaks rule) 0 count
      (unmapped rule (find (breaks rule) (range_with_len 0 count)) (none_gathered (fault_by breaks count) 1 RULES none rule le (omega arith))) i
      (omega arith) (omega arith)

-- rows in slots of which none passes
no_row_passes : (test : Row → Bool) (slots : List (Option Row)) → AllByRecursion (λ slot. option_map_or test slot false ≡ false) slots →
    list_any (λ slot. option_map_or test slot false) slots ≡ false
no_row_passes test [] h = refl
no_row_passes test (slot ∷ slots) h = ap (λ b. b || list_any (λ slot. option_map_or test slot false) slots) h.0 ∙ no_row_passes test slots h.1

every_row : (P : Row → Bool) → ((row : Row) → P row ≡ false) → (slots : List (Option Row)) → AllByRecursion (λ slot. option_map_or P slot false ≡ false) slots
every_row P h [] = tt
every_row P h (None ∷ slots) = (refl, every_row P h slots)
every_row P h (Some row ∷ slots) = (h row, every_row P h slots)

-- a name that is counted stands in a slot
counted_row : (test : Row → Bool) (n : List ℕ) → ((row : Row) → row.name ≡ n → test row ≡ true) → (slots : List (Option Row)) →
    0 < name_count n slots → list_any (λ slot. option_map_or test slot false) slots ≡ true
counted_row test n h [] lt = absurd (omega arith)
counted_row test n h (None ∷ slots) lt = counted_row test n h slots (let c = count_slot n None slots in omega arith)
counted_row test n h (Some row ∷ slots) lt =
    elim (bytes_eq n row.name) as (λ b. bytes_eq n row.name ≡ b → (test row || list_any (λ slot. option_map_or test slot false) slots) ≡ true) [
      | true ↦ λ t. ap (λ b. b || list_any (λ slot. option_map_or test slot false) slots) (h row (sym (bytes_same n row.name t)))
      | false ↦ λ t.
          let c : name_count n (Some row ∷ slots) ≡ 0 + name_count n slots = count_slot n (Some row) slots ∙ ap (λ b. cond b 1 0 + name_count n slots) t in
          ap (λ b. test row || b) (counted_row test n h slots (omega arith)) ∙ or_true (test row)
    ] refl

-- rows that are not misplaced and do not name the root may stand
may_stand : (image : SeenInodes) (slots : List (Option Row)) → list_any (λ slot. option_map_or (is_misplaced image) slot false) slots ≡ false →
    list_any (λ slot. option_map_or (λ (row : Row). nat_eq row.inode 0) slot false) slots ≡ false → AllByRecursion (MayStand image) slots
may_stand image [] a b = tt
may_stand image (None ∷ slots) a b = (tt, may_stand image slots a b)
may_stand image (Some row ∷ slots) a b = (here, may_stand image slots (or_second (is_misplaced image row) _ a) (or_second (nat_eq row.inode 0) _ b))
  where
    here : MayName image row
    here = record {
      within = ltb-true _ _ (not_false _ (or_first (not (nat_lt row.inode image.count)) _ (or_first (is_misplaced image row) _ a)));
      kind = eqb-true _ _ (not_false _ (or_second (not (nat_lt row.inode image.count)) _ (or_first (is_misplaced image row) _ a)));
      no_root = eqb-false _ _ (or_first (nat_eq row.inode 0) _ b);
    }

placed : (image : SeenInodes) (slots : List (Option Row)) → AllByRecursion (MayStand image) slots
    → list_any (λ slot. option_map_or (is_misplaced image) slot false) slots ≡ false
placed image [] h = refl
placed image (None ∷ slots) h = placed image slots h.1
placed image (Some row ∷ slots) h =
    ap (λ b. (not b || not (nat_eq (image.seen row.inode).kind (kind_byte row.kind))) || list_any (λ slot. option_map_or (is_misplaced image) slot false) slots)
    (lt-ltb _ _ h.0.within)
    ∙ ap (λ b. not b || list_any (λ slot. option_map_or (is_misplaced image) slot false) slots) (eq-eqb _ _ h.0.kind)
    ∙ placed image slots h.1

no_root_named : (image : SeenInodes) (slots : List (Option Row)) → AllByRecursion (MayStand image) slots
    → list_any (λ slot. option_map_or (λ (row : Row). nat_eq row.inode 0) slot false) slots ≡ false
no_root_named image [] h = refl
no_root_named image (None ∷ slots) h = no_root_named image slots h.1
no_root_named image (Some row ∷ slots) h =
    ap (λ b. b || list_any (λ slot. option_map_or (λ (row : Row). nat_eq row.inode 0) slot false) slots) (not_same _ _ h.0.no_root)
    ∙ no_root_named image slots h.1

-- a walk up that meets the root gives the directories above
walked : (tree : TreeState) (steps x : ℕ) → list_any (λ above. nat_eq above 0) (walk_up steps tree x) ≡ true → (l : List ℕ) × Above tree x l
walked tree zero x e = absurd (not_both e refl)
walked tree (suc steps) x e = elim (holder_found tree x) as (λ _. (l : List ℕ) × Above tree x l) [
  | inr none ↦ absurd (not_both e (ap (λ o. list_any (λ above. nat_eq above 0) (and_above (walk_up steps tree) o)) none.0))
  | inl f ↦
      let met : (nat_eq f.0 0 || list_any (λ above. nat_eq above 0) (walk_up steps tree f.0)) ≡ true =
      sym (ap (λ o. list_any (λ above. nat_eq above 0) (and_above (walk_up steps tree) o)) f.1) ∙ e in
      elim (nat_eq f.0 0) as (λ b. nat_eq f.0 0 ≡ b → (b || list_any (λ above. nat_eq above 0) (walk_up steps tree f.0)) ≡ true
      → (l : List ℕ) × Above tree x l) [
        | true ↦ λ t _. (f.0 ∷ [], below x f.0 f.2.0 [] f.2.1 (subst (λ (r : ℕ). Above tree r []) (sym (eqb-true _ _ t)) at_root))
        | false ↦ λ t m. let up = walked tree steps f.0 m in (f.0 ∷ up.0, below x f.0 f.2.0 up.0 f.2.1 up.1)
      ] refl met
]

-- the directories above one end with the root
ends_at_root : {tree : TreeState} {x : ℕ} {l : List ℕ} → Above tree x l → (nat_eq x 0 || list_any (λ above. nat_eq above 0) l) ≡ true
ends_at_root at_root = refl
ends_at_root (below node holder name l row rest) = ap (λ b. nat_eq node 0 || b) (ends_at_root rest) ∙ or_true (nat_eq node 0)

module _ (image : SeenInodes) (breaks_byte_rule : ℕ → ℕ → Bool) (r : KeepsByteRules image) where
  module _ (none : (rule i : ℕ) → 1 ≤ rule → rule < 15 → i < image.count → breaks_rule breaks_byte_rule image rule i ≡ false) where
    directory_not : (i : ℕ) (p : Bool) → IsDirectoryInode image i → (shows_directory (image.seen i) && p) ≡ false → p ≡ false
    directory_not i p is e = then_false (shows_directory (image.seen i)) p e (eq-eqb _ _ is.1)

    kept : KeepsRules image
    kept = record {
      root = r.root;
      apart = r.apart;
      once = λ i is n. once i n (directory_not i (has_name_twice image i) is (none 8 i (omega arith) (omega arith) is.0));
      full =
          λ i number is lt. ltb-false _ _
          (none_any (λ number. nat_lt BUCKET_ROWS (len (bucket_rows i number (image_rows image)))) 0 8
          (directory_not i (has_overfull_bucket image i) is (none 9 i (omega arith) (omega arith) is.0)) number (omega arith) (omega arith));
      children =
          λ i is. may_stand image (image.seen i).slots (directory_not i (has_misplaced_row image i) is (none 10 i (omega arith) (omega arith) is.0))
          (directory_not i (names_root image i) is (none 11 i (omega arith) (omega arith) is.0));
      named_once = λ i is. ltb-false _ _ (directory_not i (is_named_twice image i) is (none 12 i (omega arith) (omega arith) is.0));
      links =
          λ i lt used. eqb-true _ _
          (not_false _ (then_false (is_used image i) (has_wrong_links image i) (none 13 i (omega arith) (omega arith) lt) (ap not (not_same _ _ used))));
      reached = λ i is. reached i (not_false _ (directory_not i (is_unreached image i) is (none 14 i (omega arith) (omega arith) is.0)));
    }
      where
        once : (i : ℕ) (n : List ℕ) → has_name_twice image i ≡ false → name_count n (image.seen i).slots ≤ 1
        once i n e =
            elim (nat_lt 1 (name_count n (image.seen i).slots)) as (λ b. nat_lt 1 (name_count n (image.seen i).slots) ≡ b
            → name_count n (image.seen i).slots ≤ 1) [
              | false ↦ λ t. ltb-false _ _ t
              | true ↦ λ t.
                  let lt = ltb-true _ _ t in
                  absurd
                  (not_both
                  (counted_row (λ (row : Row). nat_lt 1 (name_count row.name (image.seen i).slots)) n
                  (λ row same. ap (λ m. nat_lt 1 (name_count m (image.seen i).slots)) same ∙ t) (image.seen i).slots (omega arith))
                  e)
            ] refl

        reached : (i : ℕ) → (nat_eq i 0 || lies_below (ruled_tree image) i 0) ≡ true → (l : List ℕ) × Above (ruled_tree image) i l
        reached i e =
            elim (nat_eq i 0) as (λ b. nat_eq i 0 ≡ b → (b || lies_below (ruled_tree image) i 0) ≡ true → (l : List ℕ) × Above (ruled_tree image) i l) [
              | true ↦ λ t _. ([], subst (λ (j : ℕ). Above (ruled_tree image) j []) (sym (eqb-true _ _ t)) at_root)
              | false ↦ λ t m. walked (ruled_tree image) (len (image_rows image)) i m
            ] refl e

  module _ (k : KeepsRules image) where
    holds_of_directory : (i : ℕ) (p : Bool) → i < image.count → (IsDirectoryInode image i → p ≡ false) → (shows_directory (image.seen i) && p) ≡ false
    holds_of_directory i p lt h = asked (shows_directory (image.seen i)) p (λ t. h (lt, eqb-true _ _ t))

    reached_test : (i : ℕ) → IsDirectoryInode image i → is_unreached image i ≡ false
    reached_test i is =
        let up = k.reached i is in
        let walk = walk_is (ruled_tree image) (sound_shown image NOTHING_MADE k) up.1 (directory_shown image NOTHING_MADE i is.0 ∙ eq-eqb _ _ is.1) in
        ap not (ap (λ l. nat_eq i 0 || list_any (λ above. nat_eq above 0) l) walk ∙ ends_at_root up.1)

    tree_rules : (rule i : ℕ) → i < image.count → breaks_tree_rule image rule i ≡ false
    tree_rules rule i lt =
        either_false (nat_eq rule 8) _ _
        (holds_of_directory i (has_name_twice image i) lt
        (λ is. no_row_passes _ (image.seen i).slots
        (every_row (λ (row : Row). nat_lt 1 (name_count row.name (image.seen i).slots)) (λ row. not_below _ _ (k.once i is row.name))
        (image.seen i).slots)))
        (either_false (nat_eq rule 9) _ _
        (holds_of_directory i (has_overfull_bucket image i) lt
        (λ is. any_none (λ number. nat_lt BUCKET_ROWS (len (bucket_rows i number (image_rows image)))) 0 8
        (λ number _ less. not_below _ _ (k.full i number is (omega arith)))))
        (either_false (nat_eq rule 10) _ _ (holds_of_directory i (has_misplaced_row image i) lt (λ is. placed image (image.seen i).slots (k.children i is)))
        (either_false (nat_eq rule 11) _ _ (holds_of_directory i (names_root image i) lt (λ is. no_root_named image (image.seen i).slots (k.children i is)))
        (either_false (nat_eq rule 12) _ _ (holds_of_directory i (is_named_twice image i) lt (λ is. not_below _ _ (k.named_once i is)))
        (either_false (nat_eq rule 13) _ _
        (asked (is_used image i) (has_wrong_links image i) (λ used. ap not (eq-eqb _ _ (k.links i lt (used_not_free image i used)))))
        (either_false (nat_eq rule 14) _ _ (holds_of_directory i (is_unreached image i) lt (reached_test i)) refl))))))

    no_rule_broken : ((rule i : ℕ) → 1 ≤ rule → rule ≤ BYTE_RULES → i < image.count → breaks_byte_rule rule i ≡ false) → (rule i : ℕ) → 1 ≤ rule →
        i < image.count → breaks_rule breaks_byte_rule image rule i ≡ false
    no_rule_broken bytes rule i le lt =
        elim (nat_lt BYTE_RULES rule) as (λ b. nat_lt BYTE_RULES rule ≡ b → cond b (breaks_tree_rule image rule i) (breaks_byte_rule rule i) ≡ false) [
          | true ↦ λ t. tree_rules rule i lt
          | false ↦ λ t. bytes rule i le (ltb-false _ _ t) lt
        ] refl

pub no_fault_is_rules_kept : NoFaultIsRulesKept
no_fault_is_rules_kept image breaks_byte_rule r bytes = (
  λ none. kept image breaks_byte_rule r (no_break (breaks_rule breaks_byte_rule image) image.count none),
  λ k. no_fault (breaks_rule breaks_byte_rule image) image.count (no_rule_broken image breaks_byte_rule r k bytes),
)

-- only what an inode in use has can break a rule across inodes
breaks_nothing : (image : SeenInodes) (rule i : ℕ) → shows_directory (image.seen i) ≡ false → (is_used image i && has_wrong_links image i) ≡ false →
    breaks_tree_rule image rule i ≡ false
breaks_nothing image rule i other links =
    either_false (nat_eq rule 8) _ _ (no_directory (has_name_twice image i))
    (either_false (nat_eq rule 9) _ _ (no_directory (has_overfull_bucket image i))
    (either_false (nat_eq rule 10) _ _ (no_directory (has_misplaced_row image i))
    (either_false (nat_eq rule 11) _ _ (no_directory (names_root image i))
    (either_false (nat_eq rule 12) _ _ (no_directory (is_named_twice image i))
    (either_false (nat_eq rule 13) _ _ links
    (either_false (nat_eq rule 14) _ _ (no_directory (is_unreached image i)) refl))))))
  where
    no_directory : (p : Bool) → (shows_directory (image.seen i) && p) ≡ false
    no_directory p = ap (λ b. b && p) other

pub free_inodes_break_no_tree_rule : FreeInodesBreakNoTreeRule
free_inodes_break_no_tree_rule image rule i free =
    breaks_nothing image rule i (ap (λ n. nat_eq n (kind_byte Directory)) free) (ap (λ n. not (nat_eq n 0) && has_wrong_links image i) free)

pub orphans_break_no_tree_rule : OrphansBreakNoTreeRule
orphans_break_no_tree_rule image rule i lt orphan none =
    breaks_nothing image rule i other (ap (λ b. is_used image i && not b) (eq-eqb _ _ (none ∙ sym links)) ∙ and_false (is_used image i))
  where
    file : (image.seen i).kind ≡ kind_byte File
    file = eqb-true _ _ (and_first (shows_file (image.seen i)) _ orphan)

    other : shows_directory (image.seen i) ≡ false
    other = ap (λ n. nat_eq n (kind_byte Directory)) file

    links : links_of (ruled_tree image) i ≡ 0
    links =
        ap (λ b. cond b (2 + count_by (holds_directory (ruled_tree image) i) (entries (image_rows image))) (count_of (image_rows image) i))
        (directory_shown image NOTHING_MADE i lt ∙ other)
        ∙ eqb-true _ _ (and_second (shows_file (image.seen i)) _ orphan)
