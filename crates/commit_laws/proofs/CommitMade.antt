-- A change with a grant is a commit.
use Rattle.std.proofs.Common.{◌≡◌, ℕ, zero, suc, ◌<◌, true, false, ◌&&◌, List, [], ◌∷◌, length, map, drop, Option, Some, None, option_map, inl, inr, refl, sym, ap, subst, ◌∙◌, arith, nat_lt, nat_eq}
use Rattle.std.specs.Prelude.{slice_get, ◌⊎◌}
use Rattle.std.specs.Option.{option_map_or, unwrap_or}
use Rattle.std.proofs.lemmas.Bool.{cond-true, cond-false, cases_Bool, lt-ltb}
use Rattle.std.proofs.lemmas.List.{length-map}
use Rattle.std.proofs.lemmas.Option.{slice_get-map, slice_get_cases, slice_get_within}
use borrow.Author.Tests.{eqb-true, ltb-true}
use Rattle.sfs_base.proofs.BasicNumbers.{same_number}
use Rattle.sfs_base.proofs.BasicOptions.{none_some, some_not_none, some_same}
use Rattle.sfs_base.proofs.BasicTruth.{and_first, and_second, false_not_true}
use Rattle.tree_laws.specs.Tree.{TreeState, names_of}
use Rattle.sfs_image.specs.Seen.{SeenInodes, PLACES}
use Rattle.absorb.specs.Net.{IsNet}
use Rattle.image_laws.specs.Commit.{Commit, TakesBlocks, blank, seen_before}
use Rattle.image_laws.specs.Made.{IsMadeFrom}
use Rattle.image_laws.specs.Need.{Rewrite, takes_place, takes_in_row, place_in_row, granted_block, pointer_after, GrantServes, IsListed, TakesByRank}
use Rattle.image_laws.proofs.Made.{made_images_are_commits}
use Rattle.image_laws.proofs.Ranks.{ranks_take_free_blocks, place_takes}
use Rattle.space_map.specs.Space.{GrantedNumbers}
use Rattle.disk_change.specs.AllBuilt.{numbers_with, nodes_built, nodes_with_grant}
use Rattle.disk_change.specs.Built.{Built, rewrite_in}
use Rattle.disk_change.specs.Planned.{Planned, blocks_taken}
use Rattle.disk_change.specs.Seated.{CommitChanges, Seated}
use Rattle.commit_laws.specs.Counting.{LeadTo}
use Rattle.commit_laws.specs.CommitMade.{place_among, StandOnce, inodes_built, seated_nodes, rewrites_seated, takes_of_change, rewrite_still, rewrites_of_change, IsCommitOf, ChangesMakeCommits}

-- what stands at the place of a number is the number
found_at : (numbers : List ℕ) (i k : ℕ) → place_among numbers i ≡ Some k → slice_get numbers k ≡ Some i
found_at [] i k e = absurd (none_some e)
found_at (j ∷ numbers) i k e = by (cases_Bool (nat_eq j i)) (place_among numbers i) refl (λ p. found_at numbers i p)
  where
    further : (o : Option ℕ) → place_among numbers i ≡ o → option_map suc o ≡ Some k → ((p : ℕ) → place_among numbers i ≡ Some p → slice_get numbers p ≡ Some i)
        → slice_get (j ∷ numbers) k ≡ Some i
    further None is same later = absurd (none_some same)
    further (Some p) is same later = ap (slice_get (j ∷ numbers)) (sym (some_same same)) ∙ later p is

    by : (nat_eq j i ≡ true) ⊎ (nat_eq j i ≡ false) → (o : Option ℕ) → place_among numbers i ≡ o
        → ((p : ℕ) → place_among numbers i ≡ Some p → slice_get numbers p ≡ Some i) → slice_get (j ∷ numbers) k ≡ Some i
    by (inl t) o is later = ap (slice_get (j ∷ numbers)) (sym (some_same (sym (cond-true (nat_eq j i) (Some 0) _ t) ∙ e))) ∙ ap Some (eqb-true j i t)
    by (inr f) o is later = further o is (ap (option_map suc) (sym is) ∙ sym (cond-false (nat_eq j i) (Some 0) _ f) ∙ e) later

-- a number that stands in a list has a place
has_place : (numbers : List ℕ) (i m : ℕ) → slice_get numbers m ≡ Some i → place_among numbers i ≡ None → ⊥
has_place [] i m e none = none_some e
has_place (j ∷ numbers) i zero e none =
    some_not_none (sym (cond-true (nat_eq j i) (Some 0) (option_map suc (place_among numbers i)) (ap (nat_eq j) (sym (some_same e)) ∙ same_number j)) ∙ none)
has_place (j ∷ numbers) i (suc m) e none = elim (cases_Bool (nat_eq j i)) [
  | inl t ↦ some_not_none (sym (cond-true (nat_eq j i) (Some 0) (option_map suc (place_among numbers i)) t) ∙ none)
  | inr f ↦ has_place numbers i m e (by (place_among numbers i) (sym (cond-false (nat_eq j i) (Some 0) (option_map suc (place_among numbers i)) f) ∙ none))
]
  where
    by : (o : Option ℕ) → option_map suc o ≡ None → o ≡ None
    by None e = refl
    by (Some p) e = absurd (some_not_none e)

place_found : (numbers : List ℕ) → StandOnce numbers → (i m : ℕ) → slice_get numbers m ≡ Some i → place_among numbers i ≡ Some m
place_found numbers once i m is = by (place_among numbers i) refl
  where
    by : (o : Option ℕ) → place_among numbers i ≡ o → o ≡ Some m
    by None e = absurd (has_place numbers i m is e)
    by (Some k) e = ap Some (once k m i (found_at numbers i k e) is)

-- what stands in a list of what a function gives
pub map_there : {X Y : Type 0} (f : X → Y) (xs : List X) (m : ℕ) (y : Y) → slice_get (map f xs) m ≡ Some y → (x : X) × (slice_get xs m ≡ Some x) × (f x ≡ y)
map_there f [] m y e = absurd (none_some e)
map_there f (x ∷ xs) zero y e = (x, refl, some_same e)
map_there f (x ∷ xs) (suc m) y e = map_there f xs m y e

-- each place of a list has an item
pub some_there : {X : Type 0} (xs : List X) (m : ℕ) → m < length xs → (x : X) × (slice_get xs m ≡ Some x)
some_there [] m within = absurd (omega arith)
some_there (x ∷ xs) zero within = (x, refl)
some_there (x ∷ xs) (suc m) within = some_there xs m (omega arith)

-- as many nodes are built as there are seats
pub length_built : (changes : CommitChanges) (numbers : ℕ → Option ℕ) (seats : List Seated) (fresh : List ℕ)
    → length (nodes_built changes numbers seats fresh) ≡ length seats
length_built changes numbers [] fresh = refl
length_built changes numbers (seat ∷ seats) fresh = ap suc (length_built changes numbers seats (drop (blocks_taken seat) fresh))

module _ (commit : Commit) (change : Planned) (grant : GrantedNumbers) (old new : TreeState) (image : SeenInodes) (concerned : List ℕ)
    (is : IsCommitOf commit change grant old new image concerned) where
  abbrev inodes : List ℕ
  inodes = inodes_built change grant

  abbrev rewrites : List Rewrite
  rewrites = rewrites_seated change

  -- an inode of a built node is listed with what is rewritten of it
  listed_at : (i m : ℕ) → slice_get inodes m ≡ Some i → (rewrite : Rewrite) × IsListed inodes rewrites i m rewrite
  listed_at i m there =
      let long =
      length-map (nodes_with_grant change grant) (λ (one : Built). one.number)
      ∙ length_built change.changes (numbers_with change grant.inodes) change.seats grant.blocks in
      let within = slice_get_within inodes m i there in
      elim (slice_get_cases rewrites m).1 [
        | inl found ↦ (found.0, record { inode = there; rewritten = found.2 })
        | inr past ↦ absurd (omega (arith, past.0, within, long, length-map change.seats rewrite_in))
      ]

  takes_at : (i m place : ℕ) (rewrite : Rewrite) → IsListed inodes rewrites i m rewrite → place < PLACES → commit.takes i place ≡ takes_place rewrite place
  takes_at i m place rewrite listed within =
      is.takes i place
      ∙ ap (λ b. b && option_map_or (λ m. takes_in_row rewrites (place_in_row m place)) (place_among inodes i) false) (lt-ltb place PLACES within)
      ∙ ap (λ (o : Option ℕ). option_map_or (λ m. takes_in_row rewrites (place_in_row m place)) o false) (place_found inodes is.inodes_once i m listed.inode)
      ∙ place_takes rewrites m place rewrite listed.rewritten within

  takes_only : (i place : ℕ) → commit.takes i place ≡ true → (m : ℕ) × (rewrite : Rewrite) × IsListed inodes rewrites i m rewrite × (place < PLACES)
  takes_only i place t = by (place_among inodes i) refl (and_second (nat_lt place PLACES) _ test)
    where
      test : takes_of_change change grant i place ≡ true
      test = sym (is.takes i place) ∙ t

      by : (o : Option ℕ) → place_among inodes i ≡ o → option_map_or (λ m. takes_in_row rewrites (place_in_row m place)) o false ≡ true
          → (m : ℕ) × (rewrite : Rewrite) × IsListed inodes rewrites i m rewrite × (place < PLACES)
      by None e f = absurd (false_not_true f)
      by (Some m) e f = let found = listed_at i m (found_at inodes i m e) in
          (m, found.0, found.1, ltb-true place PLACES (and_first (nat_lt place PLACES) _ test))

  -- what a listed inode's blocks become
  abbrev rewrite_at : ℕ → Rewrite
  rewrite_at i = option_map_or (λ m. unwrap_or (slice_get rewrites m) (rewrite_still (λ _. 0))) (place_among inodes i) (rewrite_still (λ _. 0))

  abbrev blocks_next : SeenInodes
  blocks_next = record { count = image.count; seen = λ i. record blank { blocks = pointer_after (rewrite_at i) (commit.fresh i) } }

  rewrite_found : (i m : ℕ) (rewrite : Rewrite) → IsListed inodes rewrites i m rewrite → rewrite_at i ≡ rewrite
  rewrite_found i m rewrite listed =
      ap (λ (o : Option ℕ). option_map_or (λ m. unwrap_or (slice_get rewrites m) (rewrite_still (λ _. 0))) o (rewrite_still (λ _. 0)))
      (place_found inodes is.inodes_once i m listed.inode)
      ∙ ap (λ (o : Option Rewrite). unwrap_or o (rewrite_still (λ _. 0))) listed.rewritten

  pub by_rank : TakesByRank commit image blocks_next inodes rewrites grant.blocks
  by_rank = record {
    listed = λ node i has concerns. let at = is.seated node i has concerns in let found = listed_at i at.0 at.1.inode_there in (at.0, found.0, found.1);
    once = is.inodes_once;
    takes = takes_at;
    only = takes_only;
    fresh =
        λ i m place there. is.fresh i place
        ∙ ap (λ (o : Option ℕ). option_map_or (λ m. granted_block rewrites grant.blocks (place_in_row m place)) o 0)
        (place_found inodes is.inodes_once i m there);
    before = λ node i m place rewrite has listed within.
        let seat = map_there rewrite_in change.seats m rewrite listed.rewritten in
        let own = map_there (λ (s : Seated). s.node) change.seats m node (is.own node i m has listed.inode) in
        let same : seat.0 ≡ own.0 = some_same (sym seat.1 ∙ own.1) in
        ap (λ (r : Rewrite). r.pointers place) (sym seat.2) ∙ is.pointers m place seat.0 seat.1 within
        ∙ ap (λ n. (seen_before commit image n).blocks place) (ap (λ (s : Seated). s.node) same ∙ own.2);
    after = λ i m place rewrite listed within. ap (λ (r : Rewrite). pointer_after r (commit.fresh i) place) (rewrite_found i m rewrite listed);
  }

  -- what is rewritten of a node that is built
  pub rewrite_of_node : (node m : ℕ) (rewrite : Rewrite) → slice_get (seated_nodes change) m ≡ Some node → slice_get rewrites m ≡ Some rewrite
      → rewrites_of_change commit change image node ≡ rewrite
  rewrite_of_node node m rewrite there at =
      ap (λ (o : Option ℕ). option_map_or (λ m. unwrap_or (slice_get rewrites m) (rewrite_still (seen_before commit image node).blocks)) o
      (rewrite_still (seen_before commit image node).blocks))
      (place_found (seated_nodes change) is.nodes_once node m there)
      ∙ ap (λ (o : Option Rewrite). unwrap_or o (rewrite_still (seen_before commit image node).blocks)) at

  pointers_are : (node place : ℕ) → place < PLACES → (rewrites_of_change commit change image node).pointers place ≡ (seen_before commit image node).blocks place
  pointers_are node place within = by (place_among (seated_nodes change) node) refl
    where
      still : Rewrite
      still = rewrite_still (seen_before commit image node).blocks

      by : (o : Option ℕ) → place_among (seated_nodes change) node ≡ o
          → (option_map_or (λ m. unwrap_or (slice_get rewrites m) still) o still).pointers place ≡ (seen_before commit image node).blocks place
      by None e = refl
      by (Some m) e =
          let seat = map_there (λ (s : Seated). s.node) change.seats m node (found_at (seated_nodes change) node m e) in
          ap (λ (o : Option Rewrite). (unwrap_or o still).pointers place) (slice_get-map rewrite_in change.seats m ∙ ap (option_map rewrite_in) seat.1)
          ∙ is.pointers m place seat.0 seat.1 within ∙ ap (λ n. (seen_before commit image n).blocks place) seat.2

  -- and so the image is made from the change
  pub made_from : LeadTo old new change.changes.directories change.changes.nets → GrantServes image rewrites grant.blocks
      → IsMadeFrom commit old new image (rewrites_of_change commit change image) concerned
  made_from leads serves =
      let blocks : TakesBlocks commit image blocks_next = ranks_take_free_blocks commit image blocks_next inodes rewrites grant.blocks serves by_rank in
      record {
        concerns = is.concerns;
        nets = λ node. subst (IsNet (names_of node old.rows) (names_of node new.rows)) (sym (is.nets node)) (leads.between.each node);
        numbers = is.numbers;
        others = is.others;
        takes = λ node i place has concerns within.
            let at = is.seated node i has concerns in
            let found = listed_at i at.0 at.1.inode_there in
            takes_at i at.0 place found.0 found.1 within
            ∙ ap (λ (r : Rewrite). takes_place r place) (sym (rewrite_of_node node at.0 found.0 at.1.node_there found.1.rewritten));
        pointers = λ node place concerns within. pointers_are node place within;
        unheld = blocks.unheld;
        once = blocks.once;
      }

pub changes_make_commits : ChangesMakeCommits
changes_make_commits commit change grant old new image concerned stands is leads serves =
    made_images_are_commits commit old new image (rewrites_of_change commit change image) concerned stands
    (made_from commit change grant old new image concerned is leads serves)
