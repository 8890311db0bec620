-- A volume over a longer history.
use Rattle.std.proofs.Common.{◌≡◌, ℕ, ◌≤◌, List, [], ◌∷◌, ◌++◌, length, take, Some, IsSome, sym, ap, subst, ◌∙◌, arith}
use Rattle.std.specs.FinMap.{get}
use Rattle.std.proofs.Math.Seq.{take-append_seam}
use Rattle.std.proofs.lemmas.List.{length-append}
use Rattle.tree_laws.specs.declared.history.Entry.{Entry}
use Rattle.tree_laws.specs.History.{tree_after}
use Rattle.tree_laws.specs.Tree.{TreeState, is_alive}
use Rattle.image_laws.specs.Image.{inodes_shown}
use Rattle.image_laws.specs.Stands.{StandsForTree}
use Rattle.cut_laws.specs.Closure.{every_entry, Flush, HasLiveNode, AreFlushed}
use Rattle.cut_laws.specs.Cut.{tree_at_cut}
use Rattle.cut_laws.specs.Laws.{KeepsAll}
use Rattle.cut_laws.specs.LawsGrowth.{HasMoreNodes}
use Rattle.cut_laws.specs.Rules.{IsOneOf}
use Rattle.cut_laws.proofs.CutNodes.{cuts_keep_kinds}
use Rattle.cut_laws.proofs.Lists.{lists_keep}
use Rattle.cut_laws.proofs.Prefix.{take_take}
use Rattle.cut_laws.proofs.RunFacts.{cuts_stay_low}
use Rattle.cut_laws.proofs.WholeHistory.{none_above, flushes_grow, cut_trees_grow}
use Rattle.raise_laws.specs.Next.{IsMountedHistory}
use Rattle.volume_laws.proofs.MoreNodes.{stands_more}
use Rattle.volume_laws.specs.Laws.{LongerHistoriesStayBetween}
use Rattle.volume_laws.specs.Volume.{IsVolumeStanding}
use Rattle.flush_laws.specs.Volume.{Volume, tree_held}

module _ (volume : Volume) (entry : Entry) (is : IsVolumeStanding volume) (mounted : IsMountedHistory volume.first (volume.history ++ entry ∷ [])) where
  abbrev longer : List Entry
  longer = volume.history ++ entry ∷ []

  abbrev count : ℕ
  count = length volume.history

  abbrev tree : TreeState
  tree = tree_held volume

  abbrev more : TreeState
  more = tree_at_cut volume.first longer volume.cut

  before_is : take count longer ≡ volume.history
  before_is = take-append_seam volume.history (entry ∷ [])

  within : count ≤ length longer
  within = let e = length-append volume.history (entry ∷ []) in omega arith

  keeps : KeepsAll volume.first volume.history volume.cut volume.inodes
  keeps = lists_keep volume.first volume.history volume.flushes volume.cut volume.inodes is.between.history_is.sound is.between.history_is.legal
      is.between.flushed

  -- what was alive at a stamp is so in the longer history
  live : (flush : Flush) → IsOneOf volume.flushes flush → HasLiveNode volume.first longer flush
  live flush one =
      ap (λ (h : List Entry). is_alive (tree_after volume.first h) flush.node)
      (sym (take_take longer flush.stamp count (is.among.low flush one)) ∙ ap (take flush.stamp) before_is)
      ∙ is.among.live flush one

  has_more : HasMoreNodes tree more
  has_more =
      subst (λ (h : List Entry). HasMoreNodes (tree_at_cut volume.first h volume.cut) more) before_is
      (cut_trees_grow volume.first longer count volume.cut mounted.sound mounted.legal
      (cuts_stay_low volume.first volume.history every_entry count is.between.flushed (none_above count) is.among.low))

  -- a node with a number is one of the tree's
  numbered_node : (node i : ℕ) → volume.num node ≡ Some i → IsSome (get tree.nodes node)
  numbered_node node i has =
      ((cuts_keep_kinds volume.first volume.history volume.cut).nodes node).1 (keeps.nodes node ((is.between.numbers.each node).1 (i, has)))

  stands_longer : StandsForTree volume.num more (inodes_shown volume.layout volume.parts)
  stands_longer = stands_more volume.num tree more keeps.sound has_more numbered_node (inodes_shown volume.layout volume.parts) is.between.stands

  flushed_more : AreFlushed volume.first longer every_entry volume.flushes volume.cut volume.inodes
  flushed_more =
      flushes_grow volume.first longer count volume.flushes volume.cut volume.inodes mounted.sound mounted.legal within
      (record { low = is.among.low; live = live })
      (subst (λ (h : List Entry). AreFlushed volume.first h every_entry volume.flushes volume.cut volume.inodes) (sym before_is) is.between.flushed)

  pub stays_between : IsVolumeStanding (record volume { history = longer })
  stays_between = record {
    between = record {
      history_is = mounted;
      flushed = flushed_more;
      numbers = is.between.numbers;
      sound = is.between.sound;
      stands = stands_longer;
    };
    among = record {
      low = λ flush one. let e = length-append volume.history (entry ∷ []) in let low = is.among.low flush one in omega arith;
      live = live;
    };
  }

pub longer_histories_stay_between : LongerHistoriesStayBetween
longer_histories_stay_between volume entry is mounted = stays_between volume entry is mounted
