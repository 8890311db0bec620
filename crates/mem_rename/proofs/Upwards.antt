-- Directories that are read upwards, one after the other.
use Rattle.std.proofs.Common.{◌≡◌, ◌≢◌, ℕ, Bool, true, false, ◌||◌, ◌&&◌, List, [], ◌∷◌, ◌++◌, Some, None, inl, inr, refl, sym, ap, ap₂, subst, ◌∙◌, nat_eq}
use Rattle.std.specs.Prelude.{is_some}
use Rattle.std.proofs.lemmas.List.Elements.{filter_map-append}
use Rattle.std.proofs.lemmas.Bool.{false_from_ne_true}
use Rattle.sfs_base.proofs.BasicTruth.{and_first, not_both}
use Rattle.sfs_base.proofs.BasicOptions.{some_is, none_some}
use Rattle.sfs_base.proofs.BasicNumbers.{not_same}
use Rattle.tree_laws.specs.Tree.{TreeState, row_of, is_alive, is_directory, holder_of}
use Rattle.tree_laws.specs.Lock.{IsHolder, AreHolders}
use Rattle.tree_laws.specs.NameRow.{number_of}
use Rattle.tree_laws.specs.Laws.{IsSoundTree}
use Rattle.tree_laws.proofs.Holders.{standing_is_alive}
use Rattle.tree_laws.proofs.RowFacts.{holder_found}
use Rattle.stamp_table.specs.Events.{calls_in, called}
use Rattle.mem_values.specs.declared.bucket.Bucket.{Bucket}
use Rattle.mem_values.specs.declared.cell.Cell.TheVariants as cell
use Rattle.mem_values.specs.Stands.{ShowsBucket}
use Rattle.mem_values.proofs.Moves.{told_ways_stay}
use Rattle.mem_rename.specs.Ways.{last_read}
use Rattle.mem_rename.specs.Laws.{ReadingGoesUp, ReadingEndsAtTheRoot, ReadingBreaksOffBelowTheDead, ReadWaysStay}

-- what stands in another directory is a directory, and the other is its holder
standing_holder : (tree : TreeState) (node holder : ℕ) (kind : Bool) → is_directory tree node ≡ kind
    → Rattle.std.specs.Prelude.if◌then◌else◌ kind (holder_of tree node) None ≡ Some holder → IsHolder tree node holder
standing_holder tree node holder true is stands = record { kind = is; held = λ alive. stands }
standing_holder tree node holder false is stands = absurd (none_some stands)

pub reading_goes_up : ReadingGoesUp
reading_goes_up tree node number holder [] bucket are shows stands =
    (standing_holder tree node holder (is_directory tree node) refl (sym shows.stands ∙ stands), tt)
reading_goes_up tree node number holder (next ∷ above) bucket are shows stands =
    (are.0, reading_goes_up tree next number holder above bucket are.1 shows stands)

pub reading_ends_at_the_root : ReadingEndsAtTheRoot
reading_ends_at_the_root node [] last = last
reading_ends_at_the_root node (next ∷ above) last = reading_ends_at_the_root next above last

module _ (tree : TreeState) (is : IsSoundTree tree) where
  -- above a live directory its holder is a live directory
  holder_lives : (node holder : ℕ) → IsHolder tree node holder → is_alive tree node ≡ true → (is_alive tree holder && is_directory tree holder) ≡ true
  holder_lives node holder held alive = elim (holder_found tree node) [
    | inl f ↦
        let same : f.0 ≡ holder = some_is f.0 holder (sym f.1 ∙ held.held alive) in
        let row : row_of tree holder f.2.0 ≡ Some node = subst (λ (d : ℕ). row_of tree d f.2.0 ≡ Some node) same f.2.1 in
        let holds = is.sound.holds holder f.2.0 node row in
        ap₂ (λ a k. a && k) holds.1 holds.0
    | inr none ↦ absurd (none_some (sym none.0 ∙ held.held alive))
  ]

  -- so all directories that were read above a live one are live
  last_lives : (node : ℕ) (above : List ℕ) → AreHolders tree node above → (is_alive tree node && is_directory tree node) ≡ true
      → (is_alive tree (last_read node above) && is_directory tree (last_read node above)) ≡ true
  last_lives node [] are lives = lives
  last_lives node (next ∷ above) are lives = last_lives next above are.1 (holder_lives node next are.0 (and_first _ _ lives))

  -- what stands nowhere and is not the root is no live directory
  stands_nowhere : (node number : ℕ) (bucket : Bucket) → ShowsBucket tree node number bucket → number_of bucket.stands ≡ None → node ≢ 0
      → (is_alive tree node && is_directory tree node) ≡ false
  stands_nowhere node number bucket shows none other =
      sym (standing_is_alive tree node is) ∙ (ap (λ o. nat_eq node 0 || is_some o) (sym shows.stands ∙ none) ∙ ap (λ b. b || false) (not_same node 0 other))

pub reading_breaks_off_below_the_dead : ReadingBreaksOffBelowTheDead
reading_breaks_off_below_the_dead tree node number above bucket is are shows none other =
    false_from_ne_true _ (λ lives. not_both (last_lives tree is node above are lives)
    (stands_nowhere tree is (last_read node above) number bucket shows none other))

pub read_ways_stay : ReadWaysStay
read_ways_stay given first before after (cell.Lock lock) node above sound legal stood stands are =
    let calls : calls_in (before ++ after) ≡ calls_in before ++ calls_in after = filter_map-append called before after in
    subst (λ l. AreHolders (Rattle.tree_laws.specs.History.tree_after first l) node above) (sym calls)
    (told_ways_stay first (calls_in before) (calls_in after) node above sound (subst (λ l. Rattle.tree_laws.specs.History.IsLegal first l) calls legal)
    (sym stood ∙ (stands ∙ ap (Rattle.mem_values.specs.Logs.last_move first None) calls)) are)
read_ways_stay given first before after (cell.Bucket b) node above sound legal stood stands are = absurd stood
read_ways_stay given first before after (cell.File f) node above sound legal stood stands are = absurd stood
read_ways_stay given first before after (cell.Pending p) node above sound legal stood stands are = absurd stood
read_ways_stay given first before after (cell.Part p) node above sound legal stood stands are = absurd stood
