-- Two valid certificates of one image are one.
use Rattle.std.proofs.Common.{◌≡◌, ◌≢◌, ℕ, zero, suc, ◌<◌, ◌≤◌, false, List, [], ◌∷◌, nat_eq, Option, Some, None, IsSome, option_map, refl, sym, ap, ap₂, subst, ◌∙◌, arith, inl, inr}
use Rattle.std.proofs.lemmas.Bool.{cases_Bool, cond-true, cond-false, eqb-true, eqb-false}
use Rattle.sfs_base.proofs.BasicNumbers.{not_same, same_number}
use Rattle.sfs_base.proofs.BasicOptions.{none_not_some, none_some, some_same}
use Rattle.sfs_image.specs.Seen.{SeenInodes}
use Rattle.image_laws.specs.Image.{image_inodes}
use Rattle.image_laws.specs.Keeps.{IsDirectoryInode}
use Rattle.keyed_list.specs.Ascending.{AscendBy, item_with}
use Rattle.keyed_list.proofs.Searched.{ascends_behind, first_is_least}
use Rattle.image_check.specs.Entries.{holder_inode, owner_block}
use Rattle.image_check.specs.Holders.{AreHolders, IsPlace, depth_by}
use Rattle.image_check.specs.Laws.{CertificatesAreOne}
use Rattle.image_check.specs.Owners.{AreOwners, IsOwner}
use Rattle.image_check.specs.declared.certificate.Holder.{Holder}
use Rattle.image_check.specs.declared.certificate.Owner.{Owner}
use Rattle.image_check.proofs.Items.{found_item, of_found}

-- lists that ascend are one where what is found in each is found in the other
module _ {X : Type 0} (key : X → ℕ) where
  abbrev IsIn : List X → List X → Type 0
  IsIn items others = (n : ℕ) (x : X) → item_with key n items ≡ Some x → item_with key n others ≡ Some x

  first_found : (x : X) (xs : List X) → item_with key (key x) (x ∷ xs) ≡ Some x
  first_found x xs = cond-true (nat_eq (key x) (key x)) (Some x) (item_with key (key x) xs) (same_number (key x))

  rest_found : (x : X) (xs : List X) (n : ℕ) → key x ≢ n → item_with key n (x ∷ xs) ≡ item_with key n xs
  rest_found x xs n other = cond-false (nat_eq (key x) n) (Some x) (item_with key n xs) (not_same (key x) n other)

  -- an item of a list is not below its first
  not_below : (y : X) (ys : List X) → AscendBy key (y ∷ ys) → (n : ℕ) (x : X) → item_with key n (y ∷ ys) ≡ Some x → key y ≤ n
  not_below y ys up n x is = elim (cases_Bool (nat_eq (key y) n)) [
    | inl same ↦ (let e = eqb-true _ _ same in omega arith)
    | inr other ↦
        (let one = found_item key ys n x (sym (rest_found y ys n (eqb-false _ _ other)) ∙ is) in
        let least = first_is_least key y ys up one.place x one.within in
        let e = ap key (one.is x) in
        let number = one.number in
        omega arith)
  ]

  behind_in : (x : X) (xs ys : List X) → AscendBy key (x ∷ xs) → IsIn (x ∷ xs) (x ∷ ys) → IsIn xs ys
  behind_in x xs ys up into n z is =
      let one = found_item key xs n z is in
      let least = first_is_least key x xs up one.place z one.within in
      let e = ap key (one.is z) in
      let number = one.number in
      let other : key x ≢ n = λ same. not_less (key x) n (key z) same (subst (λ (k : ℕ). key x < k) e least) number in
      sym (rest_found x ys n other) ∙ into n z (rest_found x xs n other ∙ is)
    where
      not_less : (a b c : ℕ) → a ≡ b → a < c → c ≡ b → ⊥
      not_less a b c e lt f = omega arith

  pub one_list : (items others : List X) → AscendBy key items → AscendBy key others → IsIn items others → IsIn others items → items ≡ others
  one_list [] [] up also into back = refl
  one_list [] (y ∷ ys) up also into back = absurd (none_some (back (key y) y (first_found y ys)))
  one_list (x ∷ xs) [] up also into back = absurd (none_some (into (key x) x (first_found x xs)))
  one_list (x ∷ xs) (y ∷ ys) up also into back =
      let low = not_below y ys also (key x) x (into (key x) x (first_found x xs)) in
      let high = not_below x xs up (key y) y (back (key y) y (first_found y ys)) in
      let keys : key y ≡ key x = omega arith in
      let same : y ≡ x =
      some_same (sym (first_found y ys) ∙ ap (λ (n : ℕ). item_with key n (y ∷ ys)) keys ∙ into (key x) x (first_found x xs)) in
      let own : AscendBy key (x ∷ ys) = subst (λ (z : X). AscendBy key (z ∷ ys)) same also in
      let into_own : IsIn (x ∷ xs) (x ∷ ys) = subst (λ (z : X). IsIn (x ∷ xs) (z ∷ ys)) same into in
      let back_own : IsIn (x ∷ ys) (x ∷ xs) = subst (λ (z : X). IsIn (z ∷ ys) (x ∷ xs)) same back in
      ap₂ (λ (z : X) (zs : List X). z ∷ zs) (sym same)
      (one_list xs ys (ascends_behind key x xs up) (ascends_behind key y ys also) (behind_in x xs ys up into_own) (behind_in x ys xs own back_own))

-- an owner of one list is that of another
owner_in_other : (image : SeenInodes) (owners others : List Owner) → AreOwners image owners → AreOwners image others → IsIn owner_block owners others
owner_in_other image owners others are also n x is =
    let right = of_found owner_block (IsOwner image) owners n x are.right is in
    let number : x.block ≡ n = (found_item owner_block owners n x is).number in
    let e = also.each x.inode right.place right.within right.used right.low (λ none. right.there (sym right.names ∙ none)) in
    let names = right.names ∙ number in
    let same : x ≡ record { block = (image.seen x.inode).blocks right.place; inode = x.inode } =
    (let b = sym right.names in λ i. record { block = b i; inode = x.inode }) in
    sym (ap (λ (k : ℕ). item_with owner_block k others) names) ∙ e ∙ ap Some (sym same)

pub one_owners : (image : SeenInodes) (owners others : List Owner) → AreOwners image owners → AreOwners image others → owners ≡ others
one_owners image owners others are also =
    one_list owner_block owners others are.ascend also.ascend (owner_in_other image owners others are also) (owner_in_other image others owners also are)

module _ (image : SeenInodes) (holders others : List Holder) (are : AreHolders image holders) (also : AreHolders image others) where
  -- how deep an entry lies, by its holder
  depth_at : (list : List Holder) (i : ℕ) → nat_eq i 0 ≡ false → depth_by list i ≡ option_map (λ (h : Holder). h.depth) (item_with holder_inode i list)
  depth_at list i below = cond-false (nat_eq i 0) (Some 0) (option_map (λ (h : Holder). h.depth) (item_with holder_inode i list)) below

  one_less : (o : Option ℕ) (depth : ℕ) → option_map suc o ≡ Some (suc depth) → o ≡ Some depth
  one_less None depth same = absurd (none_some same)
  one_less (Some n) depth same = ap Some (let e : suc n ≡ suc depth = some_same same in omega arith)

  not_zero : (o : Option ℕ) → option_map suc o ≡ Some 0 → ⊥
  not_zero None same = none_some same
  not_zero (Some n) same = (let e : suc n ≡ 0 = some_same same in omega arith)

  there : (list : List Holder) → AreHolders image list → (i : ℕ) → IsDirectoryInode image i → i ≢ 0 → (h : Holder) × (item_with holder_inode i list ≡ Some h)
  there list is i directory below = by (item_with holder_inode i list) refl (is.each i directory below)
    where
      by : (o : Option Holder) → item_with holder_inode i list ≡ o → IsSome o → (h : Holder) × (item_with holder_inode i list ≡ Some h)
      by None e some = absurd (none_not_some {X = Holder} None refl some)
      by (Some h) e some = (h, e)

  -- two entries of one directory have one holder
  one_holder : (i : ℕ) (h other : Holder) → item_with holder_inode i holders ≡ Some h → item_with holder_inode i others ≡ Some other → h.holder ≡ other.holder
  one_holder i h other is found =
      let number = (found_item holder_inode holders i h is).number in
      let second = (found_item holder_inode others i other found).number in
      some_same
      (sym (of_found holder_inode (IsPlace image holders) holders i h are.right is).holder
      ∙ ap (Rattle.tree_laws.specs.Tree.holder_of (Rattle.image_laws.specs.Keeps.ruled_tree image)) (number ∙ sym second)
      ∙ (of_found holder_inode (IsPlace image others) others i other also.right found).holder)

  -- and one depth
  one_depth : (depth i : ℕ) (h other : Holder) → item_with holder_inode i holders ≡ Some h → item_with holder_inode i others ≡ Some other → h.depth ≡ depth
      → other.depth ≡ depth
  one_depth zero i h other is found same =
      absurd
      (not_zero (depth_by holders h.holder)
      ((of_found holder_inode (IsPlace image holders) holders i h are.right is).depth ∙ ap Some same))
  one_depth (suc depth) i h other is found same = by (λ j k more e f g. one_depth depth j k more e f g)
    where
      by : ((j : ℕ) (k more : Holder) → item_with holder_inode j holders ≡ Some k → item_with holder_inode j others ≡ Some more → k.depth ≡ depth → more.depth ≡ depth)
          → other.depth ≡ suc depth
      by up =
          let place = of_found holder_inode (IsPlace image holders) holders i h are.right is in
          let second = of_found holder_inode (IsPlace image others) others i other also.right found in
          let holder = one_holder i h other is found in
          let first = one_less (depth_by holders h.holder) depth (place.depth ∙ ap Some same) in
          some_same (sym second.depth ∙ ap (option_map suc) (above holder first up))
        where
          above : h.holder ≡ other.holder → depth_by holders h.holder ≡ Some depth
              → ((j : ℕ) (k more : Holder) → item_with holder_inode j holders ≡ Some k → item_with holder_inode j others ≡ Some more → k.depth ≡ depth → more.depth ≡ depth)
              → depth_by others other.holder ≡ Some depth
          above holder first up = elim (cases_Bool (nat_eq h.holder 0)) [
            | inl zero_is ↦
                (let none = eqb-true _ _ zero_is in
                ap (depth_by others) (sym holder ∙ none) ∙ sym (ap (depth_by holders) none) ∙ first)
            | inr below ↦ entries holder first up below (item_with holder_inode h.holder holders) refl
          ]
            where
              entries : h.holder ≡ other.holder → depth_by holders h.holder ≡ Some depth
                  → ((j : ℕ) (k more : Holder) → item_with holder_inode j holders ≡ Some k → item_with holder_inode j others ≡ Some more → k.depth ≡ depth → more.depth ≡ depth)
                  → nat_eq h.holder 0 ≡ false → (o : Option Holder) → item_with holder_inode h.holder holders ≡ o → depth_by others other.holder ≡ Some depth
              entries holder first up below None e =
                  absurd (none_some (sym (ap (option_map (λ (h : Holder). h.depth)) e) ∙ sym (depth_at holders h.holder below) ∙ first))
              entries holder first up below (Some k) e =
                  (let right = of_found holder_inode (IsPlace image holders) holders h.holder k are.right e in
                  let number = (found_item holder_inode holders h.holder k e).number in
                  let second =
                  there others also h.holder (subst (IsDirectoryInode image) number right.directory) (eqb-false _ _ below) in
                  let own : k.depth ≡ depth = some_same (sym (ap (option_map (λ (h : Holder). h.depth)) e) ∙ sym (depth_at holders h.holder below) ∙ first) in
                  let depth_is = up h.holder k second.0 e second.1 own in
                  ap (depth_by others) (sym holder) ∙ depth_at others h.holder below ∙ ap (option_map (λ (h : Holder). h.depth)) second.1 ∙ ap Some depth_is)

  pub holder_in_other : IsIn holder_inode holders others
  holder_in_other n x is =
      let place = of_found holder_inode (IsPlace image holders) holders n x are.right is in
      let number = (found_item holder_inode holders n x is).number in
      let one = there others also n (subst (IsDirectoryInode image) number place.directory) (λ none. place.no_root (number ∙ none)) in
      let second = (found_item holder_inode others n one.0 one.1).number in
      let inode : one.0.inode ≡ x.inode = second ∙ sym number in
      let holder : one.0.holder ≡ x.holder = sym (one_holder n x one.0 is one.1) in
      let depth : one.0.depth ≡ x.depth = one_depth x.depth n x one.0 is one.1 refl in
      one.1 ∙ ap Some (λ i. record { inode = inode i; holder = holder i; depth = depth i })

pub one_holders : (image : SeenInodes) (holders others : List Holder) → AreHolders image holders → AreHolders image others → holders ≡ others
one_holders image holders others are also =
    one_list holder_inode holders others are.ascend also.ascend (holder_in_other image holders others are also)
    (holder_in_other image others holders also are)

pub certificates_are_one : CertificatesAreOne
certificates_are_one image cert other valid also = record {
  holders = one_holders (image_inodes image) cert.holders.items other.holders.items valid.holders also.holders;
  owners = one_owners (image_inodes image) cert.owners.items other.owners.items valid.owners also.owners;
  files = valid.files ∙ sym also.files;
}
