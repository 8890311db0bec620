-- A tree under other numbers: its rows, its counts, and that it is sound.
use Rattle.std.proofs.Common.{◌≡◌, ℕ, ◌+◌, Bool, true, false, cond, ◌&&◌, List, [], ◌∷◌, length, Option, Some, None, IsSome, inl, inr, refl, sym, ap, subst, ◌∙◌, arith, count_by, nat_eq}
use Rattle.std.specs.Option.{unwrap_or, option_and_then, option_map_or}
use Rattle.std.specs.FinMap.{get, entries, len, len-entries}
use Rattle.tree_laws.specs.Order.{Key}
use Rattle.tree_laws.specs.Tree.{TreeState, Node, is_directory_kind, row_of, is_directory, is_alive, kind_of, bytes_of, count_of, links_of, names_it, holds_directory}
use Rattle.tree_laws.specs.Sound.{Above, at_root, below, IsSound}
use Rattle.tree_laws.proofs.Joined.{count-cons}
use Rattle.tree_laws.proofs.RowFacts.{alive_named, root_alive, named_alive}
use Rattle.image_laws.specs.Renamed.{Numbering, HasNumber, IsMet, root, named, IsRenamed}
use Rattle.image_laws.specs.Stands.{inode_under}
use Rattle.sfs_base.proofs.BasicOptions.{none_some, some_same}
use Rattle.image_laws.proofs.Basics.{same_test}
use Rattle.image_laws.proofs.Paired.{count_paired}

pub under_is : (num : Numbering) (node i : ℕ) → num node ≡ Some i → inode_under num node ≡ i
under_is num node i e = ap (λ o. unwrap_or o 0) e

count_all : (es : List (Key × ℕ)) → count_by (λ _. true) es ≡ length es
count_all [] = refl
count_all (e ∷ es) = let a = count-cons (λ (_ : Key × ℕ). true) e es in let b = count_all es in omega arith

-- a row of a renamed tree, as the row that it is
pub record RowBack (num : Numbering) (tree : TreeState) (i : ℕ) (name : List ℕ) (j : ℕ) : Type 0 where
  pub directory : ℕ
  pub child : ℕ
  pub from : num directory ≡ Some i
  pub row : row_of tree directory name ≡ Some child
  pub to : num child ≡ Some j

module _ (num : Numbering) (tree other : TreeState) (r : IsRenamed num tree other) where
  pub row_forth : (d i x j : ℕ) (n : List ℕ) → num d ≡ Some i → row_of tree d n ≡ Some x → num x ≡ Some j → row_of other i n ≡ Some j
  row_forth d i x j n from row to = r.rows d i from n ∙ ap (option_and_then num) row ∙ to

  back_at : (d i j : ℕ) (n : List ℕ) (o : Option ℕ) → num d ≡ Some i → row_of tree d n ≡ o → option_and_then num o ≡ Some j → RowBack num tree i n j
  back_at d i j n (Some x) from is to = record { directory = d; child = x; from = from; row = is; to = to }
  back_at d i j n None from is to = absurd (none_some to)

  pub row_back : (i j : ℕ) (n : List ℕ) → row_of other i n ≡ Some j → RowBack num tree i n j
  row_back i j n row = let d = r.only i n j row in back_at d.0 i j n (row_of tree d.0 n) d.1 refl (sym (r.rows d.0 i d.1 n) ∙ row)

  pub met_number : (x : ℕ) → IsMet tree x → HasNumber num x
  met_number x root = (0, r.root)
  met_number x (named d n _ row) = r.child d n x row

  abbrev renumbered : Key × ℕ → Key × ℕ
  renumbered row = ((inode_under num row.0.0, row.0.1), inode_under num row.1)

  -- rows that pass tests alike are counted alike
  pub count_renamed : (p q : Key × ℕ → Bool) →
      ((d i x j : ℕ) (n : List ℕ) → row_of tree d n ≡ Some x → num d ≡ Some i → num x ≡ Some j → q ((i, n), j) ≡ p ((d, n), x)) →
      count_by p (entries tree.rows) ≡ count_by q (entries other.rows)
  count_renamed p q alike = count_paired p q renumbered tree.rows other.rows (record { forth = forth; back = back; once = once })
    where
      forth : (k : Key) (x : ℕ) → get tree.rows k ≡ Some x → p (k, x) ≡ true →
          (get other.rows (renumbered (k, x)).0 ≡ Some (renumbered (k, x)).1) × (q (renumbered (k, x)) ≡ true)
      forth k x is passes =
          let h = r.holder k.0 k.1 x is in
          let c = r.child k.0 k.1 x is in
          let hi = under_is num k.0 h.0 h.1 in
          let ci = under_is num x c.0 c.1 in (
            subst (λ (i : ℕ). get other.rows (i, k.1) ≡ Some (inode_under num x)) (sym hi) (row_forth k.0 h.0 x c.0 k.1 h.1 is c.1 ∙ ap Some (sym ci)),
            subst (λ (i : ℕ). q ((i, k.1), inode_under num x) ≡ true) (sym hi)
                (subst (λ (j : ℕ). q ((h.0, k.1), j) ≡ true) (sym ci) (alike k.0 h.0 x c.0 k.1 is h.1 c.1 ∙ passes)),
          )

      back : (l : Key) (y : ℕ) → get other.rows l ≡ Some y → q (l, y) ≡ true →
          (k : Key) × (x : ℕ) × (get tree.rows k ≡ Some x) × (p (k, x) ≡ true) × ((renumbered (k, x)).0 ≡ l)
      back l y is passes =
          let b = row_back l.0 y l.1 is in (
            (b.directory, l.1),
            b.child,
            b.row,
            sym (alike b.directory l.0 b.child y l.1 b.row b.from b.to)
                ∙ passes,
            ap (λ (i : ℕ). (i, l.1)) (under_is num b.directory l.0 b.from),
          )

      once : (k l : Key) (x y : ℕ) → get tree.rows k ≡ Some x → p (k, x) ≡ true → get tree.rows l ≡ Some y → p (l, y) ≡ true →
          (renumbered (k, x)).0 ≡ (renumbered (l, y)).0 → k ≡ l
      once k l x y a pa b pb same =
          let h = r.holder k.0 k.1 x a in
          let g = r.holder l.0 l.1 y b in
          let numbers : h.0 ≡ g.0 = sym (under_is num k.0 h.0 h.1) ∙ ap (λ (z : Key). z.0) same ∙ under_is num l.0 g.0 g.1 in
          let directories : k.0 ≡ l.0 = r.once k.0 l.0 h.0 h.1 (g.1 ∙ ap Some (sym numbers)) in
          let names : k.1 ≡ l.1 = ap (λ (z : Key). z.1) same in
          λ i. (directories i, names i)

  -- a tree has as many rows under other numbers
  pub len_renamed : len other.rows ≡ len tree.rows
  len_renamed =
      len-entries other.rows ∙ sym (count_all (entries other.rows)) ∙ sym (count_renamed (λ _. true) (λ _. true) (λ d i x j n _ _ _. refl))
      ∙ count_all (entries tree.rows) ∙ sym (len-entries tree.rows)

  pub directory_renamed : (x j : ℕ) → num x ≡ Some j → IsMet tree x → is_directory other j ≡ is_directory tree x
  directory_renamed x j is met = ap (λ (o : Option Node). option_map_or (λ n. is_directory_kind n.kind) o false) (r.nodes x j is met)

  pub kind_renamed : (x j : ℕ) → num x ≡ Some j → IsMet tree x → kind_of other j ≡ kind_of tree x
  kind_renamed x j is met =
      ap (λ (o : Option Node). option_map_or (λ n. n.kind) o Rattle.sfs_base.specs.declared.numbers.Kind.TheVariants.File) (r.nodes x j is met)

  pub bytes_renamed : (x j : ℕ) → num x ≡ Some j → IsMet tree x → bytes_of other j ≡ bytes_of tree x
  bytes_renamed x j is met = ap (λ (o : Option Node). option_map_or (λ n. n.bytes) o []) (r.nodes x j is met)

  -- two numbered nodes are one where their numbers are
  pub number_same : (x y i j : ℕ) → num x ≡ Some i → num y ≡ Some j → nat_eq j i ≡ nat_eq y x
  number_same x y i j a b =
      same_test y x j i (λ (e : y ≡ x). some_same (sym b ∙ ap num e ∙ a)) (λ (e : j ≡ i). r.once y x j b (a ∙ ap Some (sym e)))

  -- as many rows name a number as name its node
  pub naming_renamed : (x j : ℕ) → num x ≡ Some j → count_of other.rows j ≡ count_of tree.rows x
  naming_renamed x j is = sym (count_renamed (names_it x) (names_it j) (λ d i y k n row from to. number_same x y j k is to))

  pub links_renamed : (x j : ℕ) → num x ≡ Some j → IsMet tree x → links_of other j ≡ links_of tree x
  links_renamed x j is met =
      ap (λ b. cond b (2 + count_by (holds_directory other j) (entries other.rows)) (count_of other.rows j)) (directory_renamed x j is met)
      ∙ ap (λ n. cond (is_directory tree x) (2 + n) (count_of other.rows j)) (sym directories)
      ∙ ap (cond (is_directory tree x) (2 + count_by (holds_directory tree x) (entries tree.rows))) (naming_renamed x j is)
    where
      directories : count_by (holds_directory tree x) (entries tree.rows) ≡ count_by (holds_directory other j) (entries other.rows)
      directories = count_renamed (holds_directory tree x) (holds_directory other j) (λ d i y k n row from to.
          ap (λ b. b && is_directory other k) (number_same x d j i is from)
          ∙ ap (λ b. nat_eq d x && b) (directory_renamed y k to (named d n y row)))

  module _ (s : IsSound tree) where
    holder_met : (d : ℕ) (n : List ℕ) (x : ℕ) → row_of tree d n ≡ Some x → IsMet tree d
    holder_met d n x row = elim (alive_named tree d (s.holds d n x row).1) [
      | inl is ↦ subst (IsMet tree) (sym is) root
      | inr name ↦ named name.directory name.name d name.row
    ]

    alive_renamed : (d i : ℕ) (n : List ℕ) (x : ℕ) → num d ≡ Some i → row_of tree d n ≡ Some x → is_alive other i ≡ true
    alive_renamed d i n x from row = elim (alive_named tree d (s.holds d n x row).1) [
      | inl is ↦ root_alive other i (some_same (sym from ∙ ap num is ∙ r.root))
      | inr name ↦
          let h = r.holder name.directory name.name d name.row in
          named_alive other i (record { directory = h.0; name = name.name; row = row_forth name.directory h.0 d i name.name h.1 name.row from })
    ]

    pub above_renamed : (x j : ℕ) (above : List ℕ) → num x ≡ Some j → Above tree x above → (l : List ℕ) × Above other j l
    above_renamed x j above is way = go x above way j is
      where
        go : (x : ℕ) (above : List ℕ) → Above tree x above → (j : ℕ) → num x ≡ Some j → (l : List ℕ) × Above other j l
        go _ _ at_root j is = ([], subst (λ (k : ℕ). Above other k []) (some_same (sym r.root ∙ is)) at_root)
        go _ _ (below node holder name above row rest) j is =
            let h = r.holder holder name node row in
            let up = go holder above rest h.0 h.1 in
            (h.0 ∷ up.0, below j h.0 name up.0 (row_forth holder h.0 node j name h.1 row is) up.1)

    -- a tree is sound under other numbers
    pub sound_renamed : IsSound other
    sound_renamed = record {
      root = directory_renamed 0 0 r.root root ∙ s.root;
      unnamed = λ i n row. let b = row_back i 0 n row in s.unnamed b.directory n (b.row ∙ ap Some (r.once b.child 0 0 b.to r.root));
      node = λ i n j row. let b = row_back i j n row in
          subst IsSome (sym (r.nodes b.child j b.to (named b.directory n b.child b.row))) (s.node b.directory n b.child b.row);
      once = λ i k n m j row twin kind.
          let b = row_back i j n row in
          let c = row_back k j m twin in
          let same : c.child ≡ b.child = r.once c.child b.child j c.to b.to in
          let places =
          s.once b.directory c.directory n m b.child b.row (c.row ∙ ap Some same)
          (sym (directory_renamed b.child j b.to (named b.directory n b.child b.row)) ∙ kind) in
          (some_same (sym b.from ∙ ap num places.0 ∙ c.from), places.1);
      holds = λ i n j row.
          let b = row_back i j n row in (
            directory_renamed b.directory i b.from (holder_met b.directory n b.child b.row)
                ∙ (s.holds b.directory n b.child b.row).0,
            alive_renamed b.directory i n b.child b.from b.row,
          );
      climbs = λ i n j row kind.
          let b = row_back i j n row in
          let way = s.climbs b.directory n b.child b.row (sym (directory_renamed b.child j b.to (named b.directory n b.child b.row)) ∙ kind) in
          above_renamed b.child j way.0 b.to way.1;
    }
