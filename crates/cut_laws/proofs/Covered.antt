-- An fsync is covered by the cut that it leaves.
use Rattle.std.proofs.Common.{◌≡◌, ℕ, ◌<◌, Bool, true, false, cond, List, [], ◌∷◌, Some, None, ◌⊎◌, inl, inr, refl, sym, arith}
use borrow.Author.Tests.{ltb-true}
use Rattle.std.specs.Prelude.{filter, fold}
use Rattle.std.specs.FinMap.{FinMap, get, insert, remove}
use Rattle.tree_laws.specs.declared.history.Entry.{Entry}
use Rattle.tree_laws.specs.Order.{key_cmp}
use Rattle.tree_laws.specs.Tree.{TreeState}
use Rattle.tree_laws.specs.Changes.{RowChange, added, changes_of}
use Rattle.tree_laws.specs.History.{IsLegal}
use Rattle.tree_laws.specs.Laws.{IsSoundTree}
use Rattle.tree_laws.proofs.RowFacts.{added_cases, removed_cases}
use Rattle.cut_laws.specs.Cut.{Cut, cut_of, is_within, with_own, rows_at_cut}
use Rattle.cut_laws.specs.Rules.{IsOneOf, Birth, births_of}
use Rattle.cut_laws.specs.Closure.{every_entry, Flush, HasNode, HasNaming, itself, birth_place, IsRaised, AreInodesAfter}
use Rattle.cut_laws.specs.Covers.{IsPlacedByCut, IsCovered, ArePlaced}
use Rattle.cut_laws.specs.Laws.{FsyncsCover}
use Rattle.cut_laws.proofs.Basics.{below_or}
use Rattle.cut_laws.proofs.Raises.{cuts_rise, members_rise}
use Rattle.cut_laws.proofs.Along.{node_first, tree_at-after, run_of, change_in}
use Rattle.cut_laws.proofs.Lives.{no_node_yet}
use Rattle.cut_laws.proofs.Commit.{IsBornAt, birth_at}

-- a change of a list that passes a test and places a node
pub record IsFrom (w : RowChange → Bool) (cs : List RowChange) (x : ℕ) : Type 0 where
  pub change : RowChange
  pub one : IsOneOf cs change
  pub passes : w change ≡ true
  pub places : change.places ≡ true
  pub child : change.child ≡ x

further : (w : RowChange → Bool) (c : RowChange) (cs : List RowChange) (x : ℕ) → IsFrom w cs x → IsFrom w (c ∷ cs) x
further w c cs x f = record { change = f.change; one = inr f.one; passes = f.passes; places = f.places; child = f.child }

by_one : (d : ℕ) (n : List ℕ) (rows : FinMap key_cmp ℕ) (c : RowChange) (x : ℕ) → get (with_own rows c) (d, n) ≡ Some x
    → (get rows (d, n) ≡ Some x) ⊎ ((c.places ≡ true) × (c.child ≡ x))
by_one d n rows c x row =
    elim c.places as (λ b. get (cond b (insert rows (c.directory, c.name) c.child) (remove rows (c.directory, c.name))) (d, n) ≡ Some x
    → (get rows (d, n) ≡ Some x) ⊎ ((b ≡ true) × (c.child ≡ x))) [
      | true ↦ λ r. elim (added_cases rows d c.directory n c.name c.child x r) [ inl new ↦ inr (refl, sym new.2) | inr old ↦ inl old.1 ]
      | false ↦ λ r. inl (removed_cases rows d c.directory n c.name x r).1
    ] row

-- a row was there, or a change placed it
pub from_rows : (w : RowChange → Bool) (cs : List RowChange) (d : ℕ) (n : List ℕ) (rows : FinMap key_cmp ℕ) (x : ℕ)
    → get (fold with_own rows (filter w cs)) (d, n) ≡ Some x → (get rows (d, n) ≡ Some x) ⊎ IsFrom w cs x
from_rows w [] d n rows x row = inl row
from_rows w (c ∷ cs) d n rows x row =
    elim (w c) as (λ b. w c ≡ b → get (fold with_own rows (cond b (c ∷ filter w cs) (filter w cs))) (d, n) ≡ Some x
    → (get rows (d, n) ≡ Some x) ⊎ IsFrom w (c ∷ cs) x) [
      | true ↦ λ t r. elim (from_rows w cs d n (with_own rows c) x r) [
        | inl there ↦ elim (by_one d n rows c x there) [
          | inl before ↦ inl before
          | inr here ↦ inr (record { change = c; one = inl refl; passes = t; places = here.0; child = here.1 })
        ]
        | inr f ↦ inr (further w c cs x f)
      ]
      | false ↦ λ _ r. elim (from_rows w cs d n rows x r) [ inl there ↦ inl there | inr f ↦ inr (further w c cs x f) ]
    ] refl row

module _ (first : TreeState) (history : List Entry) (cut : Cut) (inodes : ℕ → Bool) (flush : Flush) (raised : Cut)
    (raise : IsRaised first history every_entry cut inodes flush raised) where
  pub up : (node : ℕ) → IsPlacedByCut first history cut node → IsPlacedByCut first history raised node
  up node p =
      record {
        change = p.change;
        is_change = p.is_change;
        places = p.places;
        child = p.child;
        within = let lt = p.within in
            let le = cuts_rise first history every_entry cut inodes flush raised raise p.change.directory in omega arith;
      }

  -- what was covered still is
  pub raised_covers : (other : Flush) → IsCovered first history cut other → IsCovered first history raised other
  raised_covers other c = record {
    stamp = let before = c.stamp in let le = cuts_rise first history every_entry cut inodes flush raised raise other.node in omega arith;
    placed = λ birth one same. up other.node (c.placed birth one same);
  }

module _ (first : TreeState) (history : List Entry) (is : IsSoundTree first) (legal : IsLegal first history) (cut : Cut) (inodes : ℕ → Bool) (flush : Flush)
    (raised : Cut) (placed : ArePlaced first history cut inodes) (there : HasNode first history flush)
    (raise : IsRaised first history every_entry cut inodes flush raised) where
  -- the making of a node is a change that places it
  by_birth : (birth : Birth) → IsOneOf (births_of first history) birth → birth.stamp < cut_of raised birth.directory
      → IsPlacedByCut first history raised birth.node
  by_birth birth one lt = record {
    change = added birth.stamp birth.directory born.name birth.node None;
    is_change = change_in first history birth.stamp (added birth.stamp birth.directory born.name birth.node None) legal (rw born.adds (inl refl));
    places = refl;
    child = refl;
    within = lt;
  }
    where
      born : IsBornAt first history birth birth.stamp
      born = birth_at first history birth legal one

  -- the fsync's own node is placed, with an inode or without
  own_without : (birth : Birth) → IsOneOf (births_of first history) birth → birth.node ≡ flush.node → inodes birth.node ≡ false
      → IsPlacedByCut first history raised birth.node
  own_without birth one same out = elim (below_or birth.stamp (cut_of raised birth.directory)) [
    | inl lt ↦ by_birth birth one lt
    | inr le ↦
        let naming : HasNaming first history every_entry cut birth.node = record {
          change = added birth.stamp birth.directory born.name birth.node None;
          is_change = change_in first history birth.stamp (added birth.stamp birth.directory born.name birth.node None) legal (rw born.adds (inl refl));
          counted = refl;
          child = refl;
          unflushed = let lower = cuts_rise first history every_entry cut inodes flush raised raise birth.directory in omega arith;
        } in
        let most = members_rise first history every_entry cut inodes flush raised raise birth.directory (birth_place birth (rw same itself) one out naming) in
        let earlier = made_before in
        by_birth birth one (omega arith)
  ]
    where
      born : IsBornAt first history birth birth.stamp
      born = birth_at first history birth legal one

      made_before : birth.stamp < flush.stamp
      made_before = elim (below_or birth.stamp flush.stamp) [
        | inl lt ↦ lt
        | inr le ↦
            absurd
            (no_node_yet (run_of first history is legal) birth.stamp birth.directory born.name birth.node born.kind born.adds born.made flush.stamp le
            (rw (tree_at-after first history flush.stamp) (rw same there)))
      ]

  own_placed : (birth : Birth) → IsOneOf (births_of first history) birth → birth.node ≡ flush.node → IsPlacedByCut first history raised birth.node
  own_placed birth one same = elim (inodes birth.node) as (λ b. inodes birth.node ≡ b → IsPlacedByCut first history raised birth.node) [
    | true ↦ λ e. up first history cut inodes flush raised raise birth.node (placed birth one e)
    | false ↦ λ e. own_without birth one same e
  ] refl

  -- a node that a row at the raised cut names is placed
  row_placed : (birth : Birth) → IsOneOf (births_of first history) birth → (d : ℕ) (n : List ℕ)
      → get (rows_at_cut first history raised) (d, n) ≡ Some birth.node → IsPlacedByCut first history raised birth.node
  row_placed birth one d n row = elim (from_rows (is_within raised) (changes_of first history) d n first.rows birth.node row) [
    | inl before ↦
        absurd
        (no_node_yet (run_of first history is legal) birth.stamp birth.directory born.name birth.node born.kind born.adds born.made 0 (omega arith)
        (node_first first history birth.node (is.sound.node d n birth.node before)))
    | inr f ↦ record { change = f.change; is_change = f.one; places = f.places; child = f.child; within = ltb-true _ _ f.passes }
  ]
    where
      born : IsBornAt first history birth birth.stamp
      born = birth_at first history birth legal one

  all_placed : (after : ℕ → Bool) → AreInodesAfter first history every_entry cut inodes flush raised after → ArePlaced first history raised after
  all_placed after sets birth one has =
      elim (inodes birth.node) as (λ b. inodes birth.node ≡ b → IsPlacedByCut first history raised birth.node) [
        | true ↦ λ e. up first history cut inodes flush raised raise birth.node (placed birth one e)
        | false ↦ λ e. elim ((sets.enters birth.node e).0 has).1 [
          | inl named ↦ row_placed birth one named.directory named.name named.row
          | inr file ↦ own_placed birth one file.0
        ]
      ] refl

  own_covered : IsCovered first history raised flush
  own_covered = record {
    stamp = members_rise first history every_entry cut inodes flush raised raise flush.node itself;
    placed = λ birth one same. rw same at (own_placed birth one same);
  }

pub fsyncs_cover : FsyncsCover
fsyncs_cover first history cut raised inodes after flush is legal placed there raise sets = record {
  own = own_covered first history is legal cut inodes flush raised placed there raise;
  earlier = raised_covers first history cut inodes flush raised raise;
  placed = all_placed first history is legal cut inodes flush raised placed there raise after sets;
}
