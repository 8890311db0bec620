-- The nets of members are those between the trees at the cut and at the raised cut.
use Rattle.std.proofs.Common.{◌≡◌, ◌≢◌, ℕ, ◌+◌, ◌<◌, Bool, true, false, cond, max, List, [], ◌∷◌, length, map, filter, Option, Some, None, inl, inr, refl, sym, ap, subst, ◌∙◌, arith, Contains}
use Rattle.std.specs.Prelude.{◌⊎◌, All}
use Rattle.std.specs.FinMap.{get}
use Rattle.std.specs.List.Sorted.{IsStrictlySortedBy}
use Rattle.std.specs.Option.{option_map_or}
use Rattle.std.specs.Ordering.{nat_cmp}
use Rattle.std.proofs.Math.Nat.{le-max_left}
use Rattle.std.proofs.lemmas.List.{get_or-map, length-map}
use Rattle.std.proofs.lemmas.List.Elements.{All-head}
use Rattle.std.proofs.lemmas.Map.Keys.{sorted_from_strictly_increasing}
use Rattle.sfs_base.specs.declared.numbers.NodeId.{NodeId}
use Rattle.sfs_base.specs.declared.numbers.Stamp.{Stamp}
use Rattle.sfs_base.specs.Listed.{is_listed}
use Rattle.tree_laws.specs.declared.history.Entry.{Entry}
use Rattle.tree_laws.specs.History.{IsLegal}
use Rattle.tree_laws.specs.Laws.{IsSoundTree}
use Rattle.tree_laws.specs.Logged.{is_logged_in}
use Rattle.tree_laws.specs.NameRow.{node_number, number_of}
use Rattle.tree_laws.specs.Sound.{IsSound}
use Rattle.tree_laws.specs.Tree.{TreeState, names_of, row_of, kind_of, is_directory, is_directory_kind}
use Rattle.tree_laws.proofs.Names.{get-names_where}
use Rattle.tree_laws.proofs.Readings.{directory_by_kind}
use Rattle.absorb.specs.declared.nets.NetRow.{NetRow}
use Rattle.absorb.specs.Net.{IsNetRow, IsNet}
use Rattle.image_laws.proofs.Elsewhere.{no_net}
use Rattle.commit_laws.proofs.KnownDirectories.{own_item}
use Rattle.cut_laws.specs.Cut.{Cut, cut_of, tree_at_cut}
use Rattle.cut_laws.proofs.Basics.{filter_same}
use Rattle.raise_laws.proofs.Next.{same_stamps_keep}
use Rattle.dep_closure.specs.declared.gathered.Gathered.{Gathered}
use Rattle.dep_closure.specs.Gathered.{span_in}
use Rattle.dep_closure.specs.History.{logged_of}
use Rattle.dep_closure.specs.Spans.{is_in_span}
use Rattle.keyed_list.specs.Ascending.{AscendBy}
use Rattle.disk_change.specs.Nodes.{net_node}
use Rattle.disk_change.specs.Seated.{net_of_node}
use Rattle.disk_change.specs.declared.directory_net.DirectoryNet.{DirectoryNet}
use Rattle.flush_laws.specs.Planned.{HasNets}
use Rattle.flush_plan.specs.Concerned.{AreNetsOf}
use Rattle.flush_plan.proofs.Stood.{nets_need_no_rows}
use Rattle.plan_laws.proofs.EntryRows.{LeadRows}
use Rattle.plan_laws.proofs.GatheredSpans.{logged_span}
use Rattle.cut_laws.proofs.RaisedCut.{raised_cut, stamp_raised}
use Rattle.plan_laws.proofs.Raised.{span_raised}
use Rattle.plan_laws.proofs.SpanRows.{lead_cuts}

-- numbers of items that ascend are sorted
pub ascend_sorted : {X : Type 0} (key : X → ℕ) (items : List X) → AscendBy key items → IsStrictlySortedBy nat_cmp (map key items)
ascend_sorted key [] up = sorted_from_strictly_increasing [] (λ k within. absurd (omega arith))
ascend_sorted key (x ∷ xs) up = sorted_from_strictly_increasing (map key (x ∷ xs)) (λ k within.
    let inside : k + 1 < length (x ∷ xs) = omega (arith, within, length-map (x ∷ xs) key) in
    let here = get_or-map key (x ∷ xs) k x 0 (omega arith) in
    let next = get_or-map key (x ∷ xs) (k + 1) x 0 inside in
    let less = up k (k + 1) x (omega arith) inside in
    omega (arith, less, here, next))

-- a row of a net whose children differ is a row before or after it
some_row : (before after : Option NodeId) → before ≢ after → (node : ℕ) × ((number_of before ≡ Some node) ⊎ (number_of after ≡ Some node))
some_row None None differ = absurd (differ refl)
some_row (Some node) after differ = (node.0, inl refl)
some_row None (Some node) differ = (node.0, inr refl)

module _ (first : TreeState) (history : List Entry) (cut : Cut) (gathered : Gathered) (below : Stamp) (members : List NodeId) (nets : List DirectoryNet)
    (sound : IsSoundTree first) (legal : IsLegal first history)
    (spans : (node : ℕ) → is_listed (map node_number members) node ≡ true → span_in gathered below node ≡ logged_span first history cut below node)
    (are : AreNetsOf gathered below members nets) where
  abbrev raised : Cut
  raised = raised_cut cut (map node_number members) below.0

  abbrev old : TreeState
  old = tree_at_cut first history cut

  abbrev new : TreeState
  new = tree_at_cut first history raised

  -- the net of a member
  own_net : (d : ℕ) → is_listed (map node_number members) d ≡ true → IsNet (names_of d old.rows) (names_of d new.rows) (net_of_node nets d)
  own_net d listed =
      let logged = filter (is_logged_in d) (logged_of first history) in
      let stamp : cut_of raised d ≡ max (cut_of cut d) below.0 = stamp_raised cut (map node_number members) below.0 d
      ∙ ap (λ b. cond b (max (cut_of cut d) below.0) (cut_of cut d)) listed in
      let span : span_in gathered below d ≡ filter (is_in_span (cut_of cut d) (cut_of raised d)) logged =
      spans d listed
      ∙ filter_same (is_in_span (cut_of cut d) below.0) (is_in_span (cut_of cut d) (cut_of raised d)) logged
      (λ change one. span_raised (cut_of cut d) below.0 change ∙ ap (λ n. is_in_span (cut_of cut d) n change) (sym stamp)) in
      let lead : LeadRows (names_of d old.rows) (span_in gathered below d) (names_of d new.rows) =
      subst (λ l. LeadRows (names_of d old.rows) l (names_of d new.rows)) (sym span)
      (lead_cuts first history cut raised d sound legal (let most = le-max_left (cut_of cut d) below.0 in omega arith)) in
      subst (λ rows. IsNet (names_of d old.rows) rows (net_of_node nets d)) lead.make
      (nets_need_no_rows (names_of d old.rows) (span_in gathered below d) (net_of_node nets d) lead.fit (are.own_nets d listed))

  -- and of a node that is none
  other_net : (d : ℕ) → is_listed (map node_number members) d ≡ false → IsNet (names_of d old.rows) (names_of d new.rows) (net_of_node nets d)
  other_net d unlisted =
      let stamp : cut_of raised d ≡ cut_of cut d = stamp_raised cut (map node_number members) below.0 d
      ∙ ap (λ b. cond b (max (cut_of cut d) below.0) (cut_of cut d)) unlisted in
      let same = (same_stamps_keep first history cut raised d stamp).rows in
      let none : net_of_node nets d ≡ [] = ap (λ (o : Option DirectoryNet). option_map_or (λ one. one.net.items) o []) (are.others d unlisted) in
      subst (IsNet (names_of d old.rows) (names_of d new.rows)) (sym none)
      (subst (λ rows. IsNet (names_of d old.rows) rows []) (sym same) (no_net (names_of d old.rows)))

  pub each_net : (d : ℕ) → IsNet (names_of d old.rows) (names_of d new.rows) (net_of_node nets d)
  each_net d = by (is_listed (map node_number members) d) refl
    where
      by : (b : Bool) → is_listed (map node_number members) d ≡ b → IsNet (names_of d old.rows) (names_of d new.rows) (net_of_node nets d)
      by true e = own_net d e
      by false e = other_net d e

  module _ (up : AscendBy net_node nets) (old_sound : IsSound old) (new_sound : IsSound new) (kinds : (node : ℕ) → kind_of new node ≡ kind_of old node) where
    -- what has a net with a row is a directory
    holder : (one : DirectoryNet) → Contains nets one → is_directory new one.node.0 ≡ true
    holder one there = by one.net.items refl (net_there (each_net one.node.0))
      where
        net_there : IsNet (names_of one.node.0 old.rows) (names_of one.node.0 new.rows) (net_of_node nets one.node.0)
            → IsNet (names_of one.node.0 old.rows) (names_of one.node.0 new.rows) one.net.items
        net_there =
            subst (IsNet (names_of one.node.0 old.rows) (names_of one.node.0 new.rows))
            (ap (λ (o : Option DirectoryNet). option_map_or (λ one. one.net.items) o []) (own_item net_node nets up one there))

        row_there : (tree : TreeState) (name : List ℕ) (child : ℕ) → get (names_of one.node.0 tree.rows) name ≡ Some child
            → row_of tree one.node.0 name ≡ Some child
        row_there tree name child row = sym (get-names_where one.node.0 (λ _. true) tree.rows name) ∙ row

        by : (rows : List NetRow) → one.net.items ≡ rows → IsNet (names_of one.node.0 old.rows) (names_of one.node.0 new.rows) one.net.items
            → is_directory new one.node.0 ≡ true
        by [] e net = absurd (are.some_row there.0 one there.1 (ap (λ (it : DirectoryNet). it.net.items) there.2 ∙ e))
        by (row ∷ rows) e net =
            let is : IsNetRow (names_of one.node.0 old.rows) (names_of one.node.0 new.rows) row =
            All-head (IsNetRow (names_of one.node.0 old.rows) (names_of one.node.0 new.rows)) row rows
            (subst (All (IsNetRow (names_of one.node.0 old.rows) (names_of one.node.0 new.rows))) e net.each) in
            let named = some_row row.before row.after is.differs in
            elim named.1 [
              | inl before ↦
                  directory_by_kind new one.node.0 ∙ ap is_directory_kind (kinds one.node.0) ∙ sym (directory_by_kind old one.node.0)
                  ∙ (old_sound.holds one.node.0 row.name named.0 (row_there old row.name named.0 (sym is.before ∙ before))).0
              | inr after ↦ (new_sound.holds one.node.0 row.name named.0 (row_there new row.name named.0 (sym is.after ∙ after))).0
            ]

    pub nets_lead : HasNets old new nets
    nets_lead = record { ascend = up; sorted = ascend_sorted net_node nets up; each = each_net; holders = holder }
