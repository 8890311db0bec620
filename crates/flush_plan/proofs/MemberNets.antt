-- The nets of members, one member after the other.
use Rattle.std.proofs.Common.{◌≡◌, ◌≢◌, ℕ, ◌<◌, Bool, true, false, cond, List, [], ◌∷◌, ◌++◌, map, Option, Some, None, refl, sym, ap, subst, ◌∙◌, nat_eq}
use Rattle.std.specs.Prelude.{All, ◌||◌}
use Rattle.std.specs.Option.{option_or, option_map_or}
use borrow.Author.Tests.{eqb-true}
use Rattle.std.proofs.lemmas.List.{map-append}
use Rattle.std.proofs.lemmas.List.Elements.{All-nil, All-cons, All-append}
use Rattle.std.proofs.lemmas.List.Folds.{list_any-append, find-append}
use Rattle.sfs_base.proofs.BasicNumbers.{same_number}
use Rattle.sfs_base.specs.declared.numbers.NodeId.{NodeId}
use Rattle.sfs_base.specs.declared.numbers.Stamp.{Stamp}
use Rattle.sfs_base.specs.Listed.{is_listed}
use Rattle.tree_laws.specs.NameRow.{node_number}
use Rattle.dep_closure.specs.declared.gathered.Gathered.{Gathered}
use Rattle.dep_closure.specs.Gathered.{span_in}
use Rattle.disk_change.specs.declared.directory_net.DirectoryNet.{DirectoryNet}
use Rattle.keyed_list.specs.Ascending.{item_with}
use Rattle.disk_change.specs.Nodes.{net_node}
use Rattle.disk_change.specs.Seated.{net_of_node}
use Rattle.flush_plan.specs.Concerned.{AreNetsOf}
use Rattle.flush_plan.specs.Net.{IsNetBy}
use Rattle.sfs_base.proofs.BasicTruth.{or_false}

-- a number is among those of one node more where it was before or is that node's
pub listed_more : (nodes : List NodeId) (node : NodeId) (number : ℕ)
    → is_listed (map node_number (nodes ++ node ∷ [])) number ≡ (is_listed (map node_number nodes) number || nat_eq node.0 number)
listed_more nodes node number =
    ap (λ l. is_listed l number) (map-append node_number nodes (node ∷ []))
    ∙ list_any-append (λ listed. nat_eq listed number) (map node_number nodes) (node.0 ∷ [])
    ∙ ap (λ b. is_listed (map node_number nodes) number || b) (or_false (nat_eq node.0 number))

-- what is none of two is neither
neither : (a b : Bool) → (a || b) ≡ false → (a ≡ false) × (b ≡ false)
neither false b e = (refl, e)
neither true b e = absurd (cc)

or_none : (o : Option DirectoryNet) → option_or o None ≡ o
or_none None = refl
or_none (Some one) = refl

module _ (gathered : Gathered) (below : Stamp) where
  -- no members have no nets
  pub no_nets : AreNetsOf gathered below [] []
  no_nets = record { own_nets = λ node e. absurd (cc); others = λ node e. refl; some_row = All-nil (λ one. one.net.items ≢ []) }

  module _ (members : List NodeId) (member : NodeId) (apart : is_listed (map node_number members) member.0 ≡ false) (nets : List DirectoryNet)
      (are : AreNetsOf gathered below members nets) where
    -- a number that is among those of one member more
    by_member : (P : ℕ → Type 0) → ((node : ℕ) → is_listed (map node_number members) node ≡ true → P node) → P member.0 → (node : ℕ)
        → is_listed (map node_number (members ++ member ∷ [])) node ≡ true → P node
    by_member P old new node listed = by (is_listed (map node_number members) node) refl (sym (listed_more members member node) ∙ listed)
      where
        by : (b : Bool) → is_listed (map node_number members) node ≡ b → (b || nat_eq member.0 node) ≡ true → P node
        by true was _ = old node was
        by false _ same = subst P (eqb-true member.0 node same) new

    unlisted : (node : ℕ) → is_listed (map node_number (members ++ member ∷ [])) node ≡ false
        → (is_listed (map node_number members) node ≡ false) × (nat_eq member.0 node ≡ false)
    unlisted node none = neither (is_listed (map node_number members) node) (nat_eq member.0 node) (sym (listed_more members member node) ∙ none)

    -- one member more whose changes come to nothing
    pub none_more : IsNetBy (span_in gathered below member.0) [] → AreNetsOf gathered below (members ++ member ∷ []) nets
    none_more nothing = record {
      own_nets = by_member (λ node. IsNetBy (span_in gathered below node) (net_of_node nets node)) are.own_nets
          (subst (IsNetBy (span_in gathered below member.0))
          (sym (ap (λ (o : Option DirectoryNet). option_map_or (λ one. one.net.items) o []) (are.others member.0 apart))) nothing);
      others = λ node none. are.others node (unlisted node none).0;
      some_row = are.some_row;
    }

    -- one member more with its net
    module _ (one : DirectoryNet) (own : one.node ≡ member) (net : IsNetBy (span_in gathered below member.0) one.net.items)
        (some_row : one.net.items ≢ []) where
      item_more : (node : ℕ)
          → item_with net_node node (nets ++ one ∷ []) ≡ option_or (item_with net_node node nets) (cond (nat_eq member.0 node) (Some one) None)
      item_more node =
          find-append (λ item. nat_eq (net_node item) node) nets (one ∷ [])
          ∙ ap (λ (n : NodeId). option_or (item_with net_node node nets) (cond (nat_eq n.0 node) (Some one) None)) own

      other_than : (node : ℕ) → is_listed (map node_number members) node ≡ true → nat_eq member.0 node ≡ false
      other_than node listed = elim (nat_eq member.0 node) as (λ b. nat_eq member.0 node ≡ b → b ≡ false) [
        | true ↦ λ same. let there = subst (λ n. is_listed (map node_number members) n ≡ true) (sym (eqb-true member.0 node same)) listed in absurd (cc)
        | false ↦ λ _. refl
      ] refl

      same_item : (node : ℕ) → nat_eq member.0 node ≡ false → item_with net_node node (nets ++ one ∷ []) ≡ item_with net_node node nets
      same_item node other =
          item_more node ∙ ap (λ b. option_or (item_with net_node node nets) (cond b (Some one) None)) other ∙ or_none (item_with net_node node nets)

      own_item : item_with net_node member.0 (nets ++ one ∷ []) ≡ Some one
      own_item =
          item_more member.0 ∙ ap (λ o. option_or o (cond (nat_eq member.0 member.0) (Some one) None)) (are.others member.0 apart)
          ∙ ap (λ b. cond b (Some one) None) (same_number member.0)

      pub one_more : AreNetsOf gathered below (members ++ member ∷ []) (nets ++ one ∷ [])
      one_more = record {
        own_nets = by_member (λ node. IsNetBy (span_in gathered below node) (net_of_node (nets ++ one ∷ []) node))
            (λ node listed. subst (IsNetBy (span_in gathered below node))
            (sym (ap (λ (o : Option DirectoryNet). option_map_or (λ item. item.net.items) o []) (same_item node (other_than node listed))))
            (are.own_nets node listed))
            (subst (IsNetBy (span_in gathered below member.0))
            (sym (ap (λ (o : Option DirectoryNet). option_map_or (λ item. item.net.items) o []) own_item)) net);
        others = λ node none. same_item node (unlisted node none).1 ∙ are.others node (unlisted node none).0;
        some_row =
            All-append (λ item. item.net.items ≢ []) nets (one ∷ []) are.some_row
            (All-cons (λ item. item.net.items ≢ []) one [] some_row (All-nil (λ item. item.net.items ≢ [])));
      }

    -- the same of a net that was pushed
    pub pushed_net : (one : DirectoryNet) (reserved new : List DirectoryNet) → new ≡ reserved ++ one ∷ [] → reserved ≡ nets → one.node ≡ member
        → IsNetBy (span_in gathered below member.0) one.net.items → one.net.items ≢ [] → AreNetsOf gathered below (members ++ member ∷ []) new
    pushed_net one reserved new grown same own net some_row =
        subst (AreNetsOf gathered below (members ++ member ∷ [])) (sym (grown ∙ ap (λ l. l ++ one ∷ []) same)) (one_more one own net some_row)

-- and nets that lie below a number do so with one more that does
pub pushed_below : (one : DirectoryNet) (nets reserved new : List DirectoryNet) → new ≡ reserved ++ one ∷ [] → reserved ≡ nets → (b : ℕ)
    → All (λ item. net_node item < b) nets → net_node one < b → All (λ item. net_node item < b) new
pushed_below one nets reserved new grown same b low own =
    subst (All (λ item. net_node item < b)) (sym (grown ∙ ap (λ l. l ++ one ∷ []) same))
    (All-append (λ item. net_node item < b) nets (one ∷ []) low (All-cons (λ item. net_node item < b) one [] own (All-nil (λ item. net_node item < b))))
