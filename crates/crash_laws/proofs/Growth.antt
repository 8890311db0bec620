-- What listed fsyncs have raised, over a history with one more entry.
use Rattle.std.proofs.Common.{◌≡◌, ℕ, ◌≤◌, Bool, List, [], ◌∷◌, ◌++◌, length, take, sym, subst, arith}
use Rattle.std.proofs.Math.Seq.{take-append_seam}
use Rattle.std.proofs.lemmas.List.{length-append}
use Rattle.tree_laws.specs.declared.history.Entry.{Entry}
use Rattle.tree_laws.specs.Shape.{shape_of}
use Rattle.tree_laws.specs.Tree.{TreeState}
use Rattle.cut_laws.specs.Closure.{every_entry, Flush, AreFlushed}
use Rattle.cut_laws.specs.Covers.{IsAcknowledged}
use Rattle.cut_laws.specs.Cut.{Cut, tree_at_cut}
use Rattle.cut_laws.specs.LawsGrowth.{HasMoreNodes}
use Rattle.cut_laws.specs.Rules.{IsOneOf}
use Rattle.cut_laws.proofs.Lists.{lists_keep}
use Rattle.cut_laws.proofs.RunFacts.{cuts_stay_low}
use Rattle.cut_laws.proofs.WholeHistory.{none_above, flushes_grow, cut_trees_grow}
use Rattle.image_laws.specs.Image.{IsReadAsTree}
use Rattle.crash_laws.specs.Listed.{IsListedFsync}
use Rattle.crash_laws.specs.SoFar.{IsAtACut}
use Rattle.crash_laws.proofs.Fsyncs.{HasLast, listed_live, listed_within, legal_before}
use Rattle.crash_laws.proofs.Longer.{listed_on}
use Rattle.crash_laws.proofs.Shapes.{shape_of_more, read_as}

module _ {first : TreeState} {history : List Entry} {entry : Entry} (last : HasLast first history entry) where
  abbrev longer : List Entry
  longer = history ++ entry ∷ []

  before_is : take (length history) longer ≡ history
  before_is = take-append_seam history (entry ∷ [])

  within : length history ≤ length longer
  within = let e = length-append history (entry ∷ []) in omega arith

  listed_low : (flush : Flush) → IsListedFsync longer flush → flush.stamp ≤ length history
  listed_low flush is =
      let lt = listed_within first longer last.legal flush is in
      let e = length-append history (entry ∷ []) in
      omega arith

  module _ {flushes : List Flush} {cut : Cut} {inodes : ℕ → Bool} (each : (flush : Flush) → IsOneOf flushes flush → IsListedFsync longer flush)
      (flushed : AreFlushed first history every_entry flushes cut inodes) where
    -- they have raised the same
    pub flushed_on : AreFlushed first longer every_entry flushes cut inodes
    flushed_on =
        flushes_grow first longer (length history) flushes cut inodes last.sound last.legal within
        (record { low = λ flush one. listed_low flush (each flush one); live = λ flush one. listed_live first longer last.legal flush (each flush one) })
        (subst (λ (h : List Entry). AreFlushed first h every_entry flushes cut inodes) (sym before_is) flushed)

    -- and the tree at the cut has the same shape
    pub shape_on : shape_of (tree_at_cut first longer cut) ≡ shape_of (tree_at_cut first history cut)
    shape_on =
        shape_of_more (tree_at_cut first history cut) (tree_at_cut first longer cut)
        (lists_keep first history flushes cut inodes last.sound (legal_before last) flushed).sound
        (subst (λ (h : List Entry). HasMoreNodes (tree_at_cut first h cut) (tree_at_cut first longer cut)) before_is
        (cut_trees_grow first longer (length history) cut last.sound last.legal
        (cuts_stay_low first history every_entry (length history) flushed (none_above (length history)) (λ flush one. listed_low flush (each flush one)))))

    pub read_on : (share : ℕ) (image : List ℕ) → IsReadAsTree image share (tree_at_cut first history cut)
        → IsReadAsTree image share (tree_at_cut first longer cut)
    read_on share image = read_as image share (tree_at_cut first history cut) (tree_at_cut first longer cut) shape_on

  -- where the entry is not acknowledged by a moment, an image stays at its cut
  pub at_cut_on : (share moment : ℕ) (image : List ℕ) → ((flush : Flush) (ack : ℕ) → IsAcknowledged (entry ∷ []) flush ack → ack ≤ moment → ⊥)
      → IsAtACut share first history moment image → IsAtACut share first longer moment image
  at_cut_on share moment image none at =
      let listed = listed_on history entry moment none at.flushes at.listed in
      record {
        flushes = at.flushes;
        cut = at.cut;
        inodes = at.inodes;
        listed = listed;
        flushed = flushed_on listed.each at.flushed;
        read = read_on listed.each at.flushed share image at.read;
      }
