-- How many files a row names, as inodes are counted one after another.
use Rattle.std.proofs.Common.{◌≡◌, ℕ, zero, suc, ◌+◌, ◌<◌, ◌≤◌, Bool, true, false, cond, not, ◌&&◌, List, [], ◌∷◌, ◌++◌, length, get_or, nat_eq, count_by, refl, sym, ap, ◌∙◌, arith}
use Rattle.std.specs.Prelude.{slice_index}
use Rattle.std.specs.List.{range_with_len}
use Rattle.std.proofs.lemmas.List.{get_or_read}
use Rattle.sfs_image.specs.Inode.{Inode, inode_of}
use Rattle.tree_laws.proofs.Joined.{count-cons}
use Rattle.block_map.proofs.Places.{range_more}
use Rattle.disk_tree.proofs.Entries.{count_append}
use Rattle.image_check.specs.Gathered.{files_counted, is_counted_file}

pub none_counted : (inodes : List Inode) (named : List ℕ) → files_counted inodes named 0 ≡ 0
unfolding files_counted
none_counted inodes named = refl

more_counted : (inodes : List Inode) (named : List ℕ) (n : ℕ) → files_counted inodes named (n + 1) ≡ files_counted inodes named n + cond (is_counted_file inodes named n) 1 0
unfolding files_counted
more_counted inodes named n =
    ap (count_by (is_counted_file inodes named))
    (range_more 0 n ∙ (let e : 0 + n ≡ n = omega arith in ap (λ (k : ℕ). range_with_len 0 n ++ k ∷ []) e))
    ∙ count_append (is_counted_file inodes named) (range_with_len 0 n) (n ∷ [])
    ∙ (let h = count-cons (is_counted_file inodes named) n [] in omega arith)

pub few_counted : (inodes : List Inode) (named : List ℕ) (n : ℕ) → files_counted inodes named n ≤ n
few_counted inodes named zero = (let h = none_counted inodes named in omega arith)
few_counted inodes named (suc n) =
    let before = few_counted inodes named n in
    let e : suc n ≡ n + 1 = omega arith in
    let h = ap (files_counted inodes named) e ∙ more_counted inodes named n in
    let one = at_most (is_counted_file inodes named n) in
    omega arith
  where
    at_most : (b : Bool) → cond b 1 0 ≤ 1
    at_most true = omega arith
    at_most false = omega arith

-- one inode more, which is counted or not
module _ (inodes : List Inode) (named : List ℕ) (n : ℕ) (inode : Inode) (within : n < length inodes) (is : inode ≡ get_or inodes n inode) where
  same_test : is_counted_file inodes named n ≡ (nat_eq inode.kind 1 && not (nat_eq (slice_index named n) 0))
  same_test = ap (λ (i : Inode). nat_eq i.kind 1 && not (nat_eq (slice_index named n) 0)) (sym (get_or_read inodes n inode within is (inode_of [])))

  pub one_counted : (b : Bool) → b ≡ (nat_eq inode.kind 1 && not (nat_eq (slice_index named n) 0)) → (files : ℕ) → files ≡ files_counted inodes named n
      → files + cond b 1 0 ≡ files_counted inodes named (n + 1)
  one_counted b test files before =
      let h = more_counted inodes named n in
      let t : ◌≡◌ {A = ℕ} (cond b 1 0) (cond (is_counted_file inodes named n) 1 0) = ap (λ (x : Bool). cond {A = ℕ} x 1 0) (test ∙ sym same_test) in
      omega arith
