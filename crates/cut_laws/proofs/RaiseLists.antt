-- Lists of fsyncs that raise a cut, and their last ones.
use Rattle.std.proofs.Common.{◌≡◌, ℕ, Bool, List, [], ◌∷◌, ◌++◌, map, refl, sym, ap, subst}
use Rattle.tree_laws.specs.declared.history.Entry.{Entry}
use Rattle.tree_laws.specs.Tree.{TreeState}
use Rattle.cut_laws.specs.Cut.{Cut}
use Rattle.cut_laws.specs.Closure.{Counts, Flush, IsRaised, AreInodesAfter, AreRaised, none, one_more}

no_last : {X : Type 0} (xs : List X) (x : X) → xs ++ x ∷ [] ≡ [] → ⊥
no_last [] x e = cc
no_last (y ∷ xs) x e = cc

tail_is : {X : Type 0} {x y : X} {xs ys : List X} → x ∷ xs ≡ y ∷ ys → xs ≡ ys
tail_is e = cc

head_is : {X : Type 0} {x y : X} {xs ys : List X} → x ∷ xs ≡ y ∷ ys → x ≡ y
head_is e = cc

-- lists that are the same have the same last one, and the same before it
last_same : {X : Type 0} (xs ys : List X) (x y : X) → xs ++ x ∷ [] ≡ ys ++ y ∷ [] → (xs ≡ ys) × (x ≡ y)
last_same [] [] x y e = (refl, head_is e)
last_same [] (z ∷ ys) x y e = absurd (no_last ys y (sym (tail_is e)))
last_same (w ∷ xs) [] x y e = absurd (no_last xs x (tail_is e))
last_same {X} (w ∷ xs) (z ∷ ys) x y e =
    let rest = last_same xs ys x y (tail_is e) in
    (subst (λ (v : X). w ∷ xs ≡ v ∷ ys) (head_is e) (ap (λ l. w ∷ l) rest.0), rest.1)

-- A list whose images have a last one: its own last one, and what comes before it.
pub record HasLast {X Y : Type 0} (f : X → Y) (xs : List X) (ys : List Y) (y : Y) : Type 0 where
  pub before : List X
  pub last : X
  pub whole : xs ≡ before ++ last ∷ []
  pub images : ys ≡ map f before
  pub image : y ≡ f last

pub map_last : {X Y : Type 0} (f : X → Y) (xs : List X) (ys : List Y) (y : Y) → ys ++ y ∷ [] ≡ map f xs → HasLast f xs ys y
map_last f [] ys y e = absurd (no_last ys y e)
map_last f (x ∷ []) [] y e = record { before = []; last = x; whole = refl; images = refl; image = head_is e }
map_last f (x ∷ []) (z ∷ ys) y e = absurd (no_last ys y (tail_is e))
map_last f (x ∷ (w ∷ xs)) [] y e = absurd (nothing (tail_is e))
  where
    nothing : [] ≡ f w ∷ map f xs → ⊥
    nothing q = cc
map_last {X} {Y} f (x ∷ (w ∷ xs)) (z ∷ ys) y e =
    let rest = map_last f (w ∷ xs) ys y (tail_is e) in
    record {
      before = x ∷ rest.before;
      last = rest.last;
      whole = ap (λ l. x ∷ l) rest.whole;
      images = subst (λ (v : Y). z ∷ ys ≡ v ∷ map f rest.before) (head_is e) (ap (λ l. z ∷ l) rest.images);
      image = rest.image;
    }

-- The last of some fsyncs raised what those before it left.
pub record RaisedLast (first : TreeState) (history : List Entry) (counts : Counts) (cut : Cut) (inodes : ℕ → Bool) (flushes : List Flush) (flush : Flush)
    (raised : Cut) (after : ℕ → Bool) : Type 0 where
  pub before : Cut
  pub inodes_before : ℕ → Bool
  pub earlier : AreRaised first history counts cut inodes flushes before inodes_before
  pub raise : IsRaised first history counts before inodes_before flush raised
  pub sets : AreInodesAfter first history counts before inodes_before flush raised after

module _ (first : TreeState) (history : List Entry) (counts : Counts) (cut : Cut) (inodes : ℕ → Bool) where
  pub raised_last : {all : List Flush} {raised : Cut} {after : ℕ → Bool} → AreRaised first history counts cut inodes all raised after
      → (flushes : List Flush) (flush : Flush) → all ≡ flushes ++ flush ∷ [] → RaisedLast first history counts cut inodes flushes flush raised after
  raised_last none flushes flush e = absurd (no_last flushes flush (sym e))
  raised_last (one_more others other before raised inodes_before after was raise sets) flushes flush e =
      let same = last_same others flushes other flush e in
      record {
        before = before;
        inodes_before = inodes_before;
        earlier = rw same.0 at was;
        raise = rw same.1 at raise;
        sets = rw same.1 at sets;
      }

  -- no fsyncs raise nothing
  pub nothing_raised : {all : List Flush} {raised : Cut} {after : ℕ → Bool} → AreRaised first history counts cut inodes all raised after → all ≡ []
      → (cut ≡ raised) × (inodes ≡ after)
  nothing_raised none e = (refl, refl)
  nothing_raised (one_more others other before raised inodes_before after was raise sets) e = absurd (no_last others other e)

  -- one fsync raises the cut itself
  pub raised_once : (flush : Flush) (raised : Cut) (after : ℕ → Bool) → AreRaised first history counts cut inodes (flush ∷ []) raised after
      → IsRaised first history counts cut inodes flush raised × AreInodesAfter first history counts cut inodes flush raised after
  raised_once flush raised after are =
      let last = raised_last are [] flush refl in
      let same = nothing_raised last.earlier refl in (
        subst (λ (c : Cut). IsRaised first history counts c inodes flush raised) (sym same.0)
            (subst (λ (i : ℕ → Bool). IsRaised first history counts last.before i flush raised) (sym same.1) last.raise),
        subst (λ (c : Cut). AreInodesAfter first history counts c inodes flush raised after) (sym same.0)
            (subst (λ (i : ℕ → Bool). AreInodesAfter first history counts last.before i flush raised after) (sym same.1) last.sets),
      )
