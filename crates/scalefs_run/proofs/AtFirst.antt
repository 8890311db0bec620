-- The image with which a run on many cores begins.
use Rattle.std.specs.FinMap.{empty, get}
use Rattle.std.specs.Prelude.{is_some, Contains}
use Rattle.std.proofs.Common.{◌≡◌, ◌∙◌, ℕ, List, [], Option, Some, None, IsSome, option_map, refl, sym, ap, subst, arith, true, Bool}
use Rattle.sfs_base.proofs.BasicOptions.{some_same}
use Rattle.sfs_image.specs.Part.{Part}
use Rattle.sfs_image.specs.Seen.{Seen, SeenInodes}
use Rattle.sfs_image.specs.Settled.{parts_of}
use Rattle.sfs_image.specs.Slot.{kind_byte}
use Rattle.sfs_image.specs.Super.{Layout}
use Rattle.sfs_dev.specs.Disk.{View}
use Rattle.tree_laws.specs.declared.history.Entry.{Entry}
use Rattle.tree_laws.specs.Sound.{IsSound}
use Rattle.tree_laws.specs.Tree.{TreeState, row_of}
use Rattle.image_laws.specs.Image.{inodes_shown}
use Rattle.image_laws.specs.Renamed.{Numbering}
use Rattle.image_laws.specs.Stands.{inode_under, row_on, ShowsNode, StandsForTree}
use Rattle.disk_nodes.specs.declared.old.OldEntry.{OldEntry}
use Rattle.commit_laws.proofs.OwnInodes.{mapped_is_in}
use Rattle.disk_tree.specs.KeptParts.{kept_in_use}
use Rattle.cut_laws.specs.Closure.{none}
use Rattle.cut_laws.specs.Cut.{Cut, cut_of, tree_at_cut}
use Rattle.cut_laws.specs.LawsGrowth.{HasMoreNodes}
use Rattle.cut_laws.proofs.Lists.{lists_keep}
use Rattle.cut_laws.proofs.WholeHistory.{cut_trees_grow}
use Rattle.crash_laws.proofs.Begins.{first_nodes}
use Rattle.flush_laws.specs.Volume.{Volume}
use Rattle.turn_laws.proofs.MoreNodes.{kind_more, bytes_more, links_more, row_more}
use Rattle.recovery.specs.Freed.{AreUnlinkedFree, without_unlinked}
use Rattle.mount_begin.specs.Mounted.{entry_mounted}
use Rattle.mount_begin.specs.declared.begin.Mounted.{Mounted}
use Rattle.volume_laws.specs.Mounting.{WasMounted}
use Rattle.turn_ties.specs.Plans.{image_held}
use Rattle.mount.specs.Survives.{HasBegunVolume}
use Rattle.scalefs_run.specs.Turns.{HaveOwnNumbers, IsImageAtFirst}

-- What stands for a tree with more nodes stands for the tree, where each node with a number is one of it.
module _ (num : Numbering) (tree more : TreeState) (sound : IsSound tree) (has : HasMoreNodes tree more)
    (numbered : (node i : ℕ) → num node ≡ Some i → IsSome (get tree.nodes node)) where
  row_same : (directory : ℕ) (name : List ℕ)
      → option_map (row_on num more name) (row_of more directory name) ≡ option_map (row_on num tree name) (row_of tree directory name)
  row_same directory name = ap (option_map (row_on num more name)) (row_more tree more sound has directory name) ∙ by (row_of tree directory name) refl
    where
      by : (o : Option ℕ) → row_of tree directory name ≡ o → option_map (row_on num more name) o ≡ option_map (row_on num tree name) o
      by None e = refl
      by (Some child) e =
          let kind = kind_more tree more sound has child (sound.node directory name child e) in
          λ i. Some (record { inode = inode_under num child; kind = kind i; name = name })

  shows_fewer : (node i : ℕ) (seen : Seen) → num node ≡ Some i → ShowsNode num more node seen → ShowsNode num tree node seen
  shows_fewer node i seen number shows = record {
    kind = shows.kind ∙ ap kind_byte (kind_more tree more sound has node (numbered node i number));
    links = shows.links ∙ links_more tree more sound has node (numbered node i number);
    size = shows.size;
    bytes = shows.bytes ∙ bytes_more tree more sound has node (numbered node i number);
    slots = λ name. shows.slots name ∙ row_same node name;
    once = shows.once;
  }

  stands_fewer : (image : SeenInodes) → StandsForTree num more image → StandsForTree num tree image
  stands_fewer image stands = record {
    root = stands.root;
    once = stands.once;
    within = stands.within;
    named = λ directory name child row. stands.named directory name child (row_more tree more sound has directory name ∙ row);
    each = λ node i number. shows_fewer node i (image.seen i) number (stands.each node i number);
    rest = stands.rest;
    apart = stands.apart;
  }

-- A volume has begun over a mounted disk.
module _ (nodes : ℕ) (begun : Mounted) (history : List Entry) (old new : View) (was : WasMounted nodes begun old new)
    (has : HasBegunVolume nodes begun history old new) where
  abbrev start : Volume
  start = has.start

  abbrev first : TreeState
  first = start.first

  -- a node with a number is one of the first tree
  in_first : (node i : ℕ) → start.num node ≡ Some i → is_some (get first.nodes node) ≡ true
  in_first node i number =
      let walk = has.begins.labels.walk in
      sym (ap (λ (inodes : ℕ → Bool). inodes node) walk.inodes) ∙ (walk.stands.between.numbers.each node).1 (i, number)

  -- its number is its own
  own_number : (node i : ℕ) → start.num node ≡ Some i → i ≡ node
  own_number node i number =
      let keeps = has.begins.labels.keeps in
      let kept = keeps.all node i number in
      let same : start.num node ≡ Some kept.0.old.number =
      subst (λ n. start.num n ≡ Some kept.0.old.number) kept.2 (keeps.each kept.0 kept.1).0
      in
      let found = mapped_is_in entry_mounted (kept_in_use begun.layout.inodes (without_unlinked was.sound.parts)) kept.0
      (subst (λ (entries : List OldEntry). Contains entries kept.0) was.sound.entries kept.1)
      in
      some_same (sym number ∙ same) ∙ (sym (ap (λ (e : OldEntry). e.old.number) found.2) ∙ (ap (λ (e : OldEntry). e.node.0) found.2 ∙ kept.2))

  -- the first tree at the cut 0 is sound, and has its nodes
  abbrev at_first : TreeState
  at_first = tree_at_cut first [] empty

  stands_at_first : StandsForTree start.num at_first (inodes_shown start.layout start.parts)
  stands_at_first =
      let walk = has.begins.labels.walk in
      let between = walk.stands.between in
      let is = between.history_is in
      stands_fewer start.num at_first (tree_at_cut first start.history empty)
      (lists_keep first [] [] empty _ is.sound tt none).sound
      (cut_trees_grow first start.history 0 empty is.sound is.legal (λ node. omega (arith, cut_zero node)))
      there
      (inodes_shown start.layout start.parts)
      (subst (λ (c : Cut). StandsForTree start.num (tree_at_cut first start.history c) (inodes_shown start.layout start.parts)) walk.cut between.stands)
    where
      cut_zero : (node : ℕ) → cut_of empty node ≡ 0
      cut_zero node = ap (λ (o : Option ℕ). Rattle.std.proofs.Common.unwrap_or o 0) (Rattle.std.specs.FinMap.get-empty Rattle.std.proofs.Common.nat_cmp node)

      there : (node i : ℕ) → start.num node ≡ Some i → IsSome (get at_first.nodes node)
      there node i number =
          let here : IsSome (get first.nodes node) = in_first node i number in
          subst IsSome (sym ((first_nodes first).nodes node here)) here

  pub image_at_first : IsImageAtFirst old new begun.tree (image_held start)
  image_at_first = record {
    num = start.num;
    layout = start.layout;
    parts = start.parts;
    is = refl;
    stands =
        subst (λ (tree : TreeState). StandsForTree start.num (tree_at_cut tree [] empty) (inodes_shown start.layout start.parts)) has.begins.first_is
        stands_at_first;
    own =
        subst (HaveOwnNumbers start.num) has.begins.first_is
        (λ node i number. (own_number node i number, in_first node i number));
    of_image = λ image told.
        let same : start.layout ≡ begun.layout = has.begins.labels.layout_is in
        record {
          layout_is = same ∙ (was.told image told).layout_is;
          freed = subst (λ (layout : Layout). AreUnlinkedFree layout (parts_of layout image) start.parts) (sym same)
              (λ i within. ap (λ (parts : ℕ → Part). parts i) (has.of_image image told));
        };
    told = λ content told calm counts.
        let later = was.advances.later in
        (new.now, later, omega arith, λ left is. (has.told content told calm counts).left left is);
  }
