-- What is given of a node by a list that ascends is its entry there.
use Rattle.std.proofs.Common.{◌≡◌, ◌∷◌, ℕ, Bool, true, false, cond, List, [], Some, option_map, refl, ap, arith, nat_eq, Contains}
use Rattle.std.proofs.lemmas.Bool.{eqb-true}
use Rattle.sfs_base.proofs.BasicOptions.{none_some, some_same}
use Rattle.keyed_list.specs.Ascending.{AscendBy, item_with}
use Rattle.disk_nodes.specs.Nodes.{entry_node, entry_old}
use Rattle.disk_nodes.specs.OldKept.{OldKept}
use Rattle.disk_nodes.specs.declared.old.OldEntry.{OldEntry}
use Rattle.disk_change.proofs.NumbersGiven.{further_in}
use Rattle.commit_laws.proofs.KnownDirectories.{own_item}
use Rattle.mem_values.specs.Start.{given_in}

-- An entry of a node that has this.
pub record IsEntryThere (entries : List OldEntry) (node : ℕ) (old : OldKept) : Type 0 where
  pub entry : OldEntry
  pub among : Contains entries entry
  pub node_is : entry_node entry ≡ node
  pub old_is : entry_old entry ≡ old

-- what is given of a node is an entry's
pub given_is : (entries : List OldEntry) (node : ℕ) (old : OldKept) → given_in entries node ≡ Some old → IsEntryThere entries node old
given_is [] node old is = absurd (none_some is)
given_is (one ∷ rest) node old is = by (nat_eq (entry_node one) node) refl is (given_is rest node old)
  where
    by : (same : Bool) → nat_eq (entry_node one) node ≡ same → option_map entry_old (cond same (Some one) (item_with entry_node node rest)) ≡ Some old
        → (given_in rest node ≡ Some old → IsEntryThere rest node old) → IsEntryThere (one ∷ rest) node old
    by true same given behind = record { entry = one; among = (0, omega arith, refl); node_is = eqb-true _ _ same; old_is = some_same given }
    by false other given behind =
        let more = behind given in
        record { entry = more.entry; among = further_in one more.entry rest more.among; node_is = more.node_is; old_is = more.old_is }

-- and of each entry's node that entry's
pub given_of_entry : (entries : List OldEntry) → AscendBy entry_node entries → (entry : OldEntry) → Contains entries entry
    → given_in entries (entry_node entry) ≡ Some (entry_old entry)
given_of_entry entries up entry there = ap (option_map entry_old) (own_item entry_node entries up entry there)
