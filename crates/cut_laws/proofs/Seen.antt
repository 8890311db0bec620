-- What the rows at a cut have of the rows of the trees.
use Rattle.std.proofs.Common.{◌≡◌, ◌≢◌, ℕ, zero, suc, ◌+◌, ◌<◌, ◌≤◌, Bool, true, false, List, ◌∷◌, Option, Some, None, ◌⊎◌, inl, inr, refl, sym, ap, subst, ◌∙◌, nat_lt, nat_eq, arith}
use borrow.Author.Tests.{eqb-true, lt-ltb}
use Rattle.std.specs.FinMap.{FinMap, get, remove}
use Rattle.sfs_base.specs.declared.numbers.Kind.{Kind}
use Rattle.tree_laws.specs.Order.{key_cmp}
use Rattle.tree_laws.specs.Tree.{TreeState, row_of, is_directory}
use Rattle.tree_laws.specs.Effect.{Effect, Adds, Moves, tree_with}
use Rattle.tree_laws.specs.Changes.{RowChange, added, removed, other_side}
use Rattle.tree_laws.proofs.RowFacts.{IsNamed, added_there}
use Rattle.tree_laws.proofs.Holders.{directory_stays}
use Rattle.cut_laws.proofs.Basics.{below_or}
use Rattle.sfs_base.proofs.BasicNumbers.{not_less, not_below}
use Rattle.cut_laws.proofs.Own.{skip, keep, folds, stamp_of, goes_in, comes_in}
use Rattle.cut_laws.proofs.Placed.{placed, came, named_before, row_stays}
use Rattle.cut_laws.proofs.Runs.{Run, changes_at, Made, IsLast, Keeps, Seen, below_cut}

-- the rows of a directory without a change stay
pub quiet : (r : Run) (t d : ℕ) (n : List ℕ) → ((x : RowChange) → Made r t x → x.directory ≢ d) → row_of (r.tree (suc t)) d n ≡ row_of (r.tree t) d n
quiet r t d n none =
    ap (λ (tree : TreeState). row_of tree d n) (r.next t)
    ∙ ap (λ (rows : FinMap key_cmp ℕ). get rows (d, n)) (sym (folds (r.tree t).rows (r.tree t) t (r.effect t)))
    ∙ sym (keep (λ _. false) d n (r.tree t).rows (r.tree t).rows (changes_at r t) (λ x one same. absurd (none x one same)) refl)
    ∙ skip (λ _. false) d n (r.tree t).rows (changes_at r t) (λ x one same. refl)

-- what an effect places stands there after it
pub row_added : (r : Run) (t e : ℕ) (k : List ℕ) (x : ℕ) → r.effect t ≡ Adds e k x → row_of (r.tree (suc t)) e k ≡ Some x
row_added r t e k x adds =
    ap (λ (tree : TreeState). row_of tree e k) (r.next t)
    ∙ ap (λ (f : Effect). row_of (tree_with (r.tree t) (r.core t) f (r.makes t)) e k) adds
    ∙ added_there (r.tree t).rows e k x

pub row_moved : (r : Run) (t e : ℕ) (k : List ℕ) (q : ℕ) (m : List ℕ) (x : ℕ) → r.effect t ≡ Moves e k q m x → row_of (r.tree (suc t)) q m ≡ Some x
row_moved r t e k q m x moves =
    ap (λ (tree : TreeState). row_of tree q m) (r.next t)
    ∙ ap (λ (f : Effect). row_of (tree_with (r.tree t) (r.core t) f (r.makes t)) q m) moves
    ∙ added_there (remove (r.tree t).rows (e, k)) q m x

module _ (r : Run) (cut : ℕ → ℕ) (s : Seen r cut) where
  -- up to its cut a directory has the rows of the tree
  pub ahead : (t d : ℕ) (n : List ℕ) → t ≤ cut d → get (s.rows t) (d, n) ≡ row_of (r.tree t) d n
  ahead zero d n le = ap (λ (rows : FinMap key_cmp ℕ). get rows (d, n)) s.begin
  ahead (suc t) d n le =
      ap (λ (rows : FinMap key_cmp ℕ). get rows (d, n)) (s.more t)
      ∙ keep (below_cut cut) d n (s.rows t) (r.tree t).rows (changes_at r t) (λ x one same. within x (stamp_of (r.tree t) t (r.effect t) x one) same)
      (ahead t d n (omega arith))
      ∙ ap (λ (rows : FinMap key_cmp ℕ). get rows (d, n)) (folds (r.tree t).rows (r.tree t) t (r.effect t))
      ∙ ap (λ (tree : TreeState). row_of tree d n) (sym (r.next t))
    where
      within : (x : RowChange) → x.stamp ≡ t → x.directory ≡ d → below_cut cut x ≡ true
      within x stamp same = lt-ltb x.stamp (cut x.directory) (rw stamp (rw same (omega arith)))

  -- from its cut on its rows stay
  pub behind : (t d : ℕ) (n : List ℕ) → cut d ≤ t → get (s.rows (suc t)) (d, n) ≡ get (s.rows t) (d, n)
  behind t d n le =
      ap (λ (rows : FinMap key_cmp ℕ). get rows (d, n)) (s.more t)
      ∙ skip (below_cut cut) d n (s.rows t) (changes_at r t) (λ x one same. past x (stamp_of (r.tree t) t (r.effect t) x one) same)
    where
      past : (x : RowChange) → x.stamp ≡ t → x.directory ≡ d → below_cut cut x ≡ false
      past x stamp same = not_below x.stamp (cut x.directory) (rw stamp (rw same le))

  -- the kind that a named node has at the next stamp it has at this one
  kind_before : (t d : ℕ) (n : List ℕ) (x : ℕ) → row_of (r.tree t) d n ≡ Some x → is_directory (r.tree (suc t)) x ≡ true → is_directory (r.tree t) x ≡ true
  kind_before t d n x row kind =
      sym
      (ap (λ (tree : TreeState). is_directory tree x) (r.next t)
      ∙ directory_stays (r.tree t) (r.core t) (r.effect t) (r.makes t) x (r.fits t) ((r.sound t).node d n x row))
      ∙ kind

  -- a directory's row whose last placing lies below its holder's cut is there
  pub held : (t h : ℕ) (k : List ℕ) (a : ℕ) → is_directory (r.tree t) a ≡ true → row_of (r.tree t) h k ≡ Some a → ((u : ℕ) → IsLast r a t u → u < cut h)
      → get (s.rows t) (h, k) ≡ Some a
  held zero h k a kind row last = ahead zero h k (omega arith) ∙ row
  held (suc t) h k a kind row last =
      elim (came (r.tree t) (r.core t) (r.sound t) (r.effect t) (r.makes t) (r.fits t) h k a
      (sym (ap (λ (tree : TreeState). is_directory tree a) (r.next t)) ∙ kind) (sym (ap (λ (tree : TreeState). row_of tree h k) (r.next t)) ∙ row)) [
        | inl old ↦ elim (below_or t (cut h)) [
          | inl lt ↦ ahead (suc t) h k (omega arith) ∙ row
          | inr le ↦ behind t h k le ∙ held t h k a (kind_before t h k a old.0 kind) old.0 (λ u is. last u (longer u is old.1))
        ]
        | inr new ↦ let lt = last t (record { below = one_more; places = new; latest = λ u less _. at_most u less }) in ahead (suc t) h k (omega arith) ∙ row
      ]
    where
      one_more : t < suc t
      one_more = omega arith

      at_most : (u : ℕ) → u < suc t → u ≤ t
      at_most u less = omega arith

      longer : (u : ℕ) → IsLast r a t u → placed (r.effect t) ≢ Some a → IsLast r a (suc t) u
      longer u is other = record {
        below = less u is.below;
        places = is.places;
        latest = λ v lt places. elim (below_or v t) [
          | inl earlier ↦ is.latest v earlier places
          | inr le ↦ absurd (other (ap (λ (w : ℕ). placed (r.effect w)) (same v lt le) ∙ places))
        ];
      }
        where
          less : (v : ℕ) → v < t → v < suc t
          less v lt = omega arith

          same : (v : ℕ) → v < suc t → t ≤ v → t ≡ v
          same v lt le = omega arith

  -- a node that was made only below the cut of its birth place
  abbrev pub IsSettled : ℕ → Type 0
  IsSettled x = (b d : ℕ) (n : List ℕ) (kind : Kind) → r.effect b ≡ Adds d n x → r.makes b ≡ Some kind → b < cut d

  -- a directory whose changes all lie below its cut has all rows of the tree
  pub all_seen : (y : ℕ) → ((u : ℕ) (x : RowChange) → Made r u x → x.directory ≡ y → u < cut y) → (t : ℕ) (n : List ℕ)
      → get (s.rows t) (y, n) ≡ row_of (r.tree t) y n
  all_seen y all zero n = ahead zero y n (omega arith)
  all_seen y all (suc t) n = elim (below_or t (cut y)) [
    | inl lt ↦ ahead (suc t) y n (omega arith)
    | inr le ↦ behind t y n le ∙ all_seen y all t n ∙ sym (quiet r t y n (λ x one same. let lt = all t x one same in not_less lt le))
  ]

  module _ (keeps : Keeps r cut) where
    -- a move below the cut of its old directory lies below that of the new one
    pub other_end : (t p : ℕ) (n : List ℕ) (q : ℕ) (m : List ℕ) (c : ℕ) → r.effect t ≡ Moves p n q m c → t < cut p → t < cut q
    other_end t p n q m c e lt =
        elim (nat_eq p q) as (λ b. nat_eq p q ≡ b → t < cut q) [
          | true ↦ λ same. rw (eqb-true _ _ same) at lt
          | false ↦
              λ apart. keeps.renames t (removed t p n c (other_side p q) false) q (rw e (goes_in (r.tree t) t p n q m c))
              (ap (λ b. Rattle.std.proofs.Common.cond b None (Some q)) apart) lt
        ] refl

    -- a move below the cut of its new directory lies below that of the old one
    pub first_end : (t p : ℕ) (n : List ℕ) (q : ℕ) (m : List ℕ) (c : ℕ) → r.effect t ≡ Moves p n q m c → t < cut q → t < cut p
    first_end t p n q m c e lt =
        elim (nat_eq q p) as (λ b. nat_eq q p ≡ b → t < cut p) [
          | true ↦ λ same. rw (eqb-true _ _ same) at lt
          | false ↦
              λ apart. keeps.renames t (added t q m c (other_side q p)) p (rw e (comes_in (r.tree t) t p n q m c))
              (ap (λ b. Rattle.std.proofs.Common.cond b None (Some p)) apart) lt
        ] refl

    -- a directory that was made below the cut of its birth place is named where the tree names it
    pub stays_named : (x : ℕ) → IsSettled x → (t d : ℕ) (n : List ℕ) → is_directory (r.tree t) x ≡ true → row_of (r.tree t) d n ≡ Some x → IsNamed (s.rows t) x
    stays_named x settled zero d n kind row = record { directory = d; name = n; row = ahead zero d n (omega arith) ∙ row }
    stays_named x settled (suc t) d n kind row =
        elim (named_before (r.tree t) (r.core t) (r.sound t) (r.effect t) (r.makes t) (r.fits t) (r.files t) d n x
        (sym (ap (λ (tree : TreeState). is_directory tree x) (r.next t)) ∙ kind) now) [
          | inl was ↦ onward was.0 (stays_named x settled t was.1.directory was.1.name was.0 was.1.row)
          | inr born ↦
              let lt = settled t born.directory born.name born.kind born.adds born.made in
              record {
                directory = born.directory;
                name = born.name;
                row = ahead (suc t) born.directory born.name (omega arith) ∙ row_added r t born.directory born.name x born.adds;
              }
        ]
      where
        now : row_of (tree_with (r.tree t) (r.core t) (r.effect t) (r.makes t)) d n ≡ Some x
        now = sym (ap (λ (tree : TreeState). row_of tree d n) (r.next t)) ∙ row

        onward : is_directory (r.tree t) x ≡ true → IsNamed (s.rows t) x → IsNamed (s.rows (suc t)) x
        onward was named = elim (below_or t (cut named.directory)) [
          | inr le ↦ record { directory = named.directory; name = named.name; row = behind t named.directory named.name le ∙ named.row }
          | inl lt ↦
              elim (row_stays (r.tree t) (r.core t) (r.sound t) (r.effect t) (r.makes t) (r.fits t) named.directory named.name x was
              (sym (ahead t named.directory named.name (omega arith)) ∙ named.row) (record { directory = d; name = n; row = now })) [
                | inl stays ↦
                    record {
                      directory = named.directory;
                      name = named.name;
                      row =
                          ahead (suc t) named.directory named.name (omega arith)
                          ∙ ap (λ (tree : TreeState). row_of tree named.directory named.name) (r.next t) ∙ stays;
                    }
                | inr moves ↦
                    let less = other_end t named.directory named.name moves.to_directory moves.to_name x moves.moves lt in
                    record {
                      directory = moves.to_directory;
                      name = moves.to_name;
                      row =
                          ahead (suc t) moves.to_directory moves.to_name (omega arith)
                          ∙ row_moved r t named.directory named.name moves.to_directory moves.to_name x moves.moves;
                    }
              ]
        ]
