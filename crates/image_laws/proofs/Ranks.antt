-- Ranks of the places that take a block, by which a grant is handed out.
use Rattle.std.proofs.Common.{◌≡◌, ℕ, zero, suc, ◌+◌, ◌-◌, ◌*◌, ◌/◌, ◌%◌, ◌<◌, ◌≤◌, Bool, true, false, cond, not, ◌&&◌, List, [], ◌∷◌, length, Option, Some, inl, inr, refl, sym, ap, subst, ◌∙◌, arith, count_by, nat_lt, slice_index}
use Rattle.std.specs.Prelude.{slice_get}
use Rattle.std.specs.List.{range_with_len}
use Rattle.std.specs.Option.{option_map_or}
use Rattle.std.proofs.lemmas.Bool.{cases_lt}
use Rattle.tree_laws.proofs.Joined.{count-cons}
use Rattle.sfs_image.specs.Seen.{Seen, SeenInodes, FILE_BLOCKS, PLACES}
use Rattle.image_laws.specs.Commit.{Commit, seen_before, HasBlock, hole, kept, fresh, TakesBlocks}
use Rattle.image_laws.specs.Need.{Rewrite, rewrites_table, table_has_pointer, takes_place, pointer_after, place_in_row, takes_in_row, rank, RanksServe, GrantServes, IsListed, TakesByRank}
use Rattle.image_laws.specs.Laws.{RanksServeGrants, RanksTakeFreeBlocks, RanksGoOn}
use Rattle.sfs_base.proofs.BasicOptions.{none_some, some_same}
use Rattle.sfs_base.proofs.BasicNumbers.{from_plus_zero, zero_plus, plus_zero, suc_moves}

module _ (takes : ℕ → Bool) where
  count_more : (a n : ℕ) → count_by takes (range_with_len a (suc n)) ≡ count_by takes (range_with_len a n) + cond (takes (a + n)) 1 0
  count_more a zero = count-cons takes a (range_with_len (a + 1) 0) ∙ ap (λ m. cond (takes m) 1 0 + 0) (from_plus_zero a) ∙ swap _
    where
      swap : (x : ℕ) → x + 0 ≡ 0 + x
      swap x = omega arith
  count_more a (suc n) =
      let first = count-cons takes a (range_with_len (a + 1) (suc n)) in
      let rest = count_more (a + 1) n in
      let again = count-cons takes a (range_with_len (a + 1) n) in
      let last : cond {A = ℕ} (takes (a + 1 + n)) 1 0 ≡ cond (takes (a + suc n)) 1 0 = ap (λ m. cond {A = ℕ} (takes m) 1 0) (suc_moves a n) in
      omega arith

  pub rank_more : (p : ℕ) → rank takes (suc p) ≡ rank takes p + cond (takes p) 1 0
  unfolding rank
  rank_more p = count_more 0 p ∙ ap (λ m. count_by takes (range_with_len 0 p) + cond (takes m) 1 0) (zero_plus p)

  pub rank_up : (p more : ℕ) → rank takes p ≤ rank takes (p + more)
  rank_up p zero = let e = ap (rank takes) (plus_zero p) in omega arith
  rank_up p (suc more) =
      let rest = rank_up p more in
      let step = rank_more (p + more) in
      let next : p + suc more ≡ suc (p + more) = omega arith in
      let e = ap (rank takes) next in
      omega arith

  pub rank_below : (p n : ℕ) → takes p ≡ true → p < n → rank takes p < rank takes n
  rank_below p n t lt =
      let own : rank takes (suc p) ≡ rank takes p + 1 = rank_more p ∙ ap (λ b. rank takes p + cond b 1 0) t in
      let up = rank_up (suc p) (n - suc p) in
      let e = ap (rank takes) (whole p n lt) in
      omega arith
    where
      whole : (p n : ℕ) → p < n → suc p + (n - suc p) ≡ n
      whole p n lt = omega arith

  pub ranks_serve : RanksServe takes
  ranks_serve = record {
    below = rank_below;
    once = λ p q t u same. elim (cases_lt p q) [
      | inl lt ↦ absurd (let less = rank_below p q t lt in omega arith)
      | inr le ↦ elim (cases_lt q p) [
        | inl lt ↦ absurd (let less = rank_below q p u lt in omega arith)
        | inr ge ↦ omega arith
      ]
    ];
  }

pub ranks_serve_grants : RanksServeGrants
ranks_serve_grants takes = ranks_serve takes

rank_none : (takes : ℕ → Bool) → rank takes 0 ≡ 0
unfolding rank
rank_none takes = refl

-- a place in the row is that of its inode
pub place_takes : (rewrites : List Rewrite) (m place : ℕ) (rewrite : Rewrite) → slice_get rewrites m ≡ Some rewrite → place < PLACES →
    takes_in_row rewrites (place_in_row m place) ≡ takes_place rewrite place
place_takes rewrites m place rewrite is small =
    let quotient : (PLACES * m + place) / PLACES ≡ m = omega arith in
    let remainder : (PLACES * m + place) % PLACES ≡ place = omega arith in
    ap (λ n. option_map_or (λ (r : Rewrite). takes_place r ((PLACES * m + place) % PLACES)) (slice_get rewrites n) false) quotient
    ∙ ap (λ (o : Option Rewrite). option_map_or (λ (r : Rewrite). takes_place r ((PLACES * m + place) % PLACES)) o false) is
    ∙ ap (takes_place rewrite) remainder

pub ranks_go_on : RanksGoOn
ranks_go_on rewrites m place rewrite is le = go place le
  where
    next : (place : ℕ) → PLACES * m + suc place ≡ suc (PLACES * m + place)
    next place = omega arith

    go : (place : ℕ) → place ≤ PLACES →
        rank (takes_in_row rewrites) (place_in_row m place) ≡ rank (takes_in_row rewrites) (place_in_row m 0) + rank (takes_place rewrite) place
    go zero le = let a = rank_none (takes_place rewrite) in omega arith
    go (suc place) le =
        let rest = go place (omega arith) in
        let more = ap (rank (takes_in_row rewrites)) (next place) ∙ rank_more (takes_in_row rewrites) (PLACES * m + place) in
        let own = rank_more (takes_place rewrite) place in
        let same : cond {A = ℕ} (takes_in_row rewrites (place_in_row m place)) 1 0 ≡ cond {A = ℕ} (takes_place rewrite place) 1 0 =
        ap (λ b. cond {A = ℕ} b 1 0) (place_takes rewrites m place rewrite is (omega arith)) in
        omega arith

listed_below : {A : Type 0} (xs : List A) (m : ℕ) (x : A) → slice_get xs m ≡ Some x → m < length xs
listed_below [] m x e = absurd (none_some e)
listed_below (y ∷ ys) zero x e = omega arith
listed_below (y ∷ ys) (suc m) x e = let lt = listed_below ys m x e in omega arith

-- a place that follows what is rewritten has a hole, its old block, or a fresh one that it takes
module _ (commit : Commit) (i place : ℕ) (r : Rewrite) (old new : Seen) where
  abbrev Has : Type 0
  Has = HasBlock commit i place old new

  at_block : (rewritten empty : Bool) → new.blocks place ≡ cond rewritten (cond empty 0 (commit.fresh i place)) (r.pointers place) →
      commit.takes i place ≡ (rewritten && not empty) → r.pointers place ≡ old.blocks place → Has
  at_block true true after takes before = hole after
  at_block true false after takes before = fresh takes after
  at_block false empty after takes before = kept (after ∙ before)

  at_table : (rewritten some : Bool) → new.blocks place ≡ cond rewritten (cond some (commit.fresh i place) 0) (r.pointers place) →
      commit.takes i place ≡ (rewritten && some) → r.pointers place ≡ old.blocks place → Has
  at_table true true after takes before = fresh takes after
  at_table true false after takes before = hole after
  at_table false some after takes before = kept (after ∙ before)

  pub pointer_has_block : new.blocks place ≡ pointer_after r (commit.fresh i) place → commit.takes i place ≡ takes_place r place →
      r.pointers place ≡ old.blocks place → Has
  pointer_has_block after takes before =
      elim (nat_lt place FILE_BLOCKS) as (λ b. new.blocks place
      ≡ cond b (cond (r.is_rewritten place) (cond (r.is_zero place) 0 (commit.fresh i place)) (r.pointers place))
      (cond (rewrites_table r (place - FILE_BLOCKS)) (cond (table_has_pointer r (place - FILE_BLOCKS)) (commit.fresh i place) 0) (r.pointers place))
      → commit.takes i place
      ≡ cond b (r.is_rewritten place && not (r.is_zero place)) (rewrites_table r (place - FILE_BLOCKS) && table_has_pointer r (place - FILE_BLOCKS))
      → Has) [
        | true ↦ λ a k. at_block (r.is_rewritten place) (r.is_zero place) a k before
        | false ↦ λ a k. at_table (rewrites_table r (place - FILE_BLOCKS)) (table_has_pointer r (place - FILE_BLOCKS)) a k before
      ] after takes

module _ (commit : Commit) (image next : SeenInodes) (inodes : List ℕ) (rewrites : List Rewrite) (grant : List ℕ) (g : GrantServes image rewrites grant)
    (t : TakesByRank commit image next inodes rewrites grant) where
  -- a place that takes a block does so in the row, at its rank
  record InRow (i place : ℕ) : Type 0 where
    number : ℕ
    inode : slice_get inodes number ≡ Some i
    small : place < PLACES
    takes : takes_in_row rewrites (place_in_row number place) ≡ true
    within : rank (takes_in_row rewrites) (place_in_row number place) < length grant
    block : commit.fresh i place ≡ slice_index grant (rank (takes_in_row rewrites) (place_in_row number place))

  in_row : (i place : ℕ) → commit.takes i place ≡ true → InRow i place
  in_row i place taken =
      let found = t.only i place taken in
      let takes = row_takes found.0 found.1 found.2 found.3 in
      let less = listed_below rewrites found.0 found.1 found.2.rewritten in
      record {
        number = found.0;
        inode = found.2.inode;
        small = found.3;
        takes = takes;
        within =
            subst (λ (n : ℕ). rank (takes_in_row rewrites) (place_in_row found.0 place) < n) (sym g.enough)
            ((ranks_serve (takes_in_row rewrites)).below (place_in_row found.0 place) (PLACES * length rewrites) takes (row_below found.0 less found.3));
        block = t.fresh i found.0 place found.2.inode;
      }
    where
      row_below : (m : ℕ) → m < length rewrites → place < PLACES → PLACES * m + place < PLACES * length rewrites
      row_below m less small = omega arith

      row_takes : (m : ℕ) (rewrite : Rewrite) → IsListed inodes rewrites i m rewrite → place < PLACES → takes_in_row rewrites (place_in_row m place) ≡ true
      row_takes m rewrite is small =
          place_takes rewrites m place rewrite is.rewritten small
          ∙ sym (t.takes i m place rewrite is small)
          ∙ taken

  has_block : (node i place : ℕ) → place < PLACES → commit.after node ≡ Some i → commit.concerns node ≡ true →
      HasBlock commit i place (seen_before commit image node) (next.seen i)
  has_block node i place small is concerned =
      let l = t.listed node i is concerned in
      pointer_has_block commit i place l.1 (seen_before commit image node) (next.seen i) (t.after i l.0 place l.1 l.2 small) (t.takes i l.0 place l.1 l.2 small)
      (t.before node i l.0 place l.1 is l.2 small)

  pub taken_by_rank : TakesBlocks commit image next
  taken_by_rank = record {
    has = has_block;
    unheld = λ i place j other taken lt small same.
        let r = in_row i place taken in
        g.free (rank (takes_in_row rewrites) (place_in_row r.number place)) j other r.within lt small (same ∙ r.block);
    once = λ i place j other taken also same.
        let r = in_row i place taken in
        let q = in_row j other also in
        let ranks =
        g.once (rank (takes_in_row rewrites) (place_in_row r.number place)) (rank (takes_in_row rewrites) (place_in_row q.number other)) r.within q.within
        (sym r.block ∙ same ∙ q.block) in
        let rows = (ranks_serve (takes_in_row rewrites)).once (place_in_row r.number place) (place_in_row q.number other) r.takes q.takes ranks in
        let numbers = same_number r.number q.number place other r.small q.small rows in
        (some_same (sym r.inode ∙ ap (slice_get inodes) numbers.0 ∙ q.inode), numbers.1);
  }
    where
      same_number : (m l place other : ℕ) → place < PLACES → other < PLACES → PLACES * m + place ≡ PLACES * l + other → (m ≡ l) × (place ≡ other)
      same_number m l place other small tiny same =
          let numbers : m ≡ l = omega arith in
          (numbers, omega arith)

pub ranks_take_free_blocks : RanksTakeFreeBlocks
ranks_take_free_blocks commit image next inodes rewrites grant g t = taken_by_rank commit image next inodes rewrites grant g t
