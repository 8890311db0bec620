-- The entries of directories, one inode after another, and how deep these lie.
use Rattle.std.proofs.Common.{◌≡◌, ◌≢◌, ℕ, zero, suc, ◌+◌, ◌<◌, List, [], ◌∷◌, ◌++◌, get_or, Option, Some, None, IsSome, nat_eq, refl, sym, ap, subst, ◌∙◌, arith, inl, inr}
use Rattle.std.specs.Prelude.{slice_index}
use Rattle.std.specs.Option.{option_or}
use Rattle.std.proofs.lemmas.Bool.{cases_lt, cond-true}
use Rattle.std.proofs.lemmas.List.Elements.{All-push}
use Rattle.std.proofs.lemmas.List.Folds.{find-append}
use Rattle.std.proofs.lemmas.List.Quantifiers.{all_pairs_push}
use Rattle.sfs_base.proofs.BasicNumbers.{same_number}
use Rattle.sfs_base.proofs.BasicOptions.{none_not_some}
use Rattle.sfs_image.specs.Inode.{Inode}
use Rattle.keyed_list.specs.Ascending.{item_with}
use Rattle.disk_tree.specs.Inodes.{inode_at}
use Rattle.image_check.specs.Climbs.{AreClimbed, Climbs, IsClimbed, at_root, below}
use Rattle.image_check.specs.Entries.{holder_inode}
use Rattle.image_check.specs.declared.certificate.Holder.{Holder}

-- the steps from a directory up to the root are so many or other ones
climbs_root : (above : List ℕ) (directory depth : ℕ) → Climbs above directory depth → directory ≡ 0 → depth ≡ 0
climbs_root above directory depth at_root zero_is = refl
climbs_root above directory depth (below d less some rest) zero_is = absurd (some zero_is)

-- what lies at depth 0 is the root
climbs_none : (above : List ℕ) (directory depth : ℕ) → Climbs above directory depth → depth ≡ 0 → directory ≡ 0
climbs_none above directory depth at_root none = refl
climbs_none above directory depth (below d less some rest) none = absurd (let e : suc less ≡ 0 = none in omega arith)

-- What is left of a climb behind its first step.
pub record ClimbsOn (above : List ℕ) (directory depth : ℕ) : Type 0 where
  pub less : ℕ
  pub one_more : suc less ≡ depth
  pub rest : Climbs above (slice_index above directory) less

pub climbs_on : (above : List ℕ) (directory depth : ℕ) → Climbs above directory depth → directory ≢ 0 → ClimbsOn above directory depth
climbs_on above directory depth at_root some = absurd (some refl)
climbs_on above directory depth (below d less other rest) some = record { less = less; one_more = refl; rest = rest }

pub root_climbs : (above : List ℕ) (depth : ℕ) → Climbs above 0 depth → depth ≡ 0
root_climbs above depth climbs = climbs_root above 0 depth climbs refl

-- a directory lies at one depth
pub one_depth : (above : List ℕ) (directory depth other : ℕ) → Climbs above directory depth → Climbs above directory other → depth ≡ other
one_depth above directory zero other climbs also =
    sym (climbs_root above directory other also (climbs_none above directory 0 climbs refl))
one_depth above directory (suc depth) other climbs also =
    let some : directory ≢ 0 = λ zero_is. (let e = climbs_root above directory (suc depth) climbs zero_is in omega arith) in
    let on = climbs_on above directory (suc depth) climbs some in
    let also_on = climbs_on above directory other also some in
    let same : on.less ≡ depth = (let h = on.one_more in omega arith) in
    let e =
    one_depth above (slice_index above directory) depth also_on.less
    (subst (Climbs above (slice_index above directory)) same on.rest) also_on.rest in
    let more = also_on.one_more in
    omega arith

module _ (inodes : List Inode) (above : List ℕ) where
  -- the root has no entry
  pub none_climbed : AreClimbed inodes above 1 []
  none_climbed = record {
    ascend = λ i j d less within. absurd (omega arith);
    each = λ i less kind some. absurd (some (omega arith));
    right = λ k d less. absurd (omega arith);
  }

  module _ (n : ℕ) (holders : List Holder) (first : AreClimbed inodes above n holders) where
    later : (h : Holder) → IsClimbed inodes above n h → IsClimbed inodes above (n + 1) h
    later h is = record { within = (let w = is.within in omega arith); kind = is.kind; no_root = is.no_root; holder = is.holder; depth = is.depth }

    -- what is no directory has no entry
    pub past_climbed : (inode_at inodes n).kind ≢ 2 → AreClimbed inodes above (n + 1) holders
    past_climbed other = record {
      ascend = first.ascend;
      each = λ i less kind some. elim (cases_lt i n) [
        | inl before ↦ first.each i before kind some
        | inr here ↦ (let e : i ≡ n = omega arith in absurd (other (sym (ap (λ (j : ℕ). (inode_at inodes j).kind) e) ∙ kind)))
      ];
      right = λ k d less. later (get_or holders k d) (first.right k d less);
    }

    some_or : (o p : Option Holder) → IsSome o → IsSome (option_or o p)
    some_or (Some h) p some = some
    some_or None p some = absurd (none_not_some {X = Holder} None refl some)

    or_some : (o : Option Holder) (h : Holder) → IsSome (option_or o (Some h))
    or_some None h = refl
    or_some (Some other) h = refl

    -- a directory has its entry
    pub more_climbed : (h : Holder) → h.inode ≡ n → IsClimbed inodes above (n + 1) h → AreClimbed inodes above (n + 1) (holders ++ h ∷ [])
    more_climbed h inode is = record {
      ascend = all_pairs_push (λ first later. holder_inode first < holder_inode later) holders h first.ascend
          (λ k d less. let w = (first.right k d less).within in omega arith);
      each = λ i less kind some. subst IsSome (sym (find-append (λ (one : Holder). nat_eq (holder_inode one) i) holders (h ∷ []))) (elim (cases_lt i n) [
        | inl before ↦ some_or (item_with holder_inode i holders) (item_with holder_inode i (h ∷ [])) (first.each i before kind some)
        | inr here ↦
            (let e : holder_inode h ≡ i = omega arith in
            let own : item_with holder_inode i (h ∷ []) ≡ Some h =
            cond-true (nat_eq (holder_inode h) i) (Some h) None (ap (λ (j : ℕ). nat_eq j i) e ∙ same_number i) in
            subst (λ (o : Option Holder). IsSome (option_or (item_with holder_inode i holders) o)) (sym own)
            (or_some (item_with holder_inode i holders) h))
      ]);
      right = All-push (IsClimbed inodes above (n + 1)) holders h (λ k d less. later (get_or holders k d) (first.right k d less)) is;
    }

-- Some steps up from a directory were made, and so many are left.
pub record OnTheWay (above : List ℕ) (directory at depth : ℕ) : Type 0 where
  pub left : ℕ
  pub rest : Climbs above at left
  pub all : Climbs above directory (depth + left)
  pub small : depth + left < 4294967295

pub on_begun : (above : List ℕ) (directory depth : ℕ) → Climbs above directory depth → depth < 4294967295 → OnTheWay above directory directory 0
on_begun above directory depth climbs small =
    let same : depth ≡ 0 + depth = omega arith in
    record { left = depth; rest = climbs; all = subst (Climbs above directory) same climbs; small = omega arith }

pub on_more : (above : List ℕ) (directory at depth : ℕ) → OnTheWay above directory at depth → at ≢ 0
    → OnTheWay above directory (slice_index above at) (depth + 1)
on_more above directory at depth way some =
    let on = climbs_on above at way.left way.rest some in
    let one = on.one_more in
    let same : depth + way.left ≡ depth + 1 + on.less = omega arith in
    let small = way.small in
    record { left = on.less; rest = on.rest; all = subst (Climbs above directory) same way.all; small = omega arith }

pub on_ends : (above : List ℕ) (directory at depth : ℕ) → OnTheWay above directory at depth → at ≡ 0 → Climbs above directory depth
on_ends above directory at depth way zero_is =
    let none = climbs_root above at way.left way.rest zero_is in
    let same : depth + way.left ≡ depth = omega arith in
    subst (Climbs above directory) same way.all
