-- The plan of an fsync leads on from the tree that another one left.
use Rattle.std.proofs.Common.{◌≡◌, ◌⊎◌, ℕ, ◌<◌, ◌≤◌, ◌*◌, Bool, true, false, List, [], length, inl, inr, sym, ap, subst, ◌∙◌}
use Rattle.std.specs.FinMap.{FinMap}
use Rattle.sfs_base.specs.Listed.{is_listed}
use Rattle.sfs_base.proofs.BasicTruth.{not_both, true_or_false}
use Rattle.sfs_image.specs.Seen.{FILE_BLOCKS}
use Rattle.tree_laws.specs.declared.history.Entry.{Entry}
use Rattle.tree_laws.specs.Order.{name_cmp}
use Rattle.tree_laws.specs.Tree.{TreeState, names_of, bytes_of, kind_of, is_directory, is_directory_kind}
use Rattle.tree_laws.proofs.Readings.{directory_by_kind}
use Rattle.absorb.specs.Net.{IsNet}
use Rattle.absorb.specs.declared.nets.NetRow.{NetRow}
use Rattle.absorb.proofs.OneNet.{one_net}
use Rattle.image_laws.specs.Stands.{BLOCK_BYTES}
use Rattle.image_laws.proofs.Elsewhere.{no_net}
use Rattle.disk_change.specs.Seated.{net_of_node}
use Rattle.commit_laws.specs.CommitOfPlan.{CommitPlan, has_inode_then}
use Rattle.commit_laws.specs.Rewritten.{bytes_in_block, has_page}
use Rattle.turn_laws.specs.Touched.{is_touched_between}
use Rattle.cut_laws.specs.Cut.{Cut, cut_of, tree_at_cut}
use Rattle.cut_laws.specs.Closure.{Flush, member}
use Rattle.cut_laws.specs.Rules.{IsOneOf}
use Rattle.cut_laws.proofs.CutNodes.{cuts_keep_kinds}
use Rattle.cut_laws.proofs.Listed.{listed_one}
use Rattle.raise_laws.specs.Next.{KeepsItsOwn}
use Rattle.raise_laws.proofs.Next.{same_stamps_keep}
use Rattle.flush_laws.specs.Planned.{HasNets, HasMoves, HasFiles}
use Rattle.book_laws.specs.BringingLaws.{RaisesBeside, MadeOver, MakesTheSame}
use Rattle.book_laws.specs.Plans.{LeadsOver, AreShortAt, PlansStay}
use Rattle.book_laws.proofs.Again.{stamp_stays, inode_stays}

-- rows that stay have no net
empty_net : (rows : FinMap name_cmp ℕ) (net : List NetRow) → IsNet rows rows net → net ≡ []
empty_net rows net is = one_net rows rows net [] is (no_net rows)

module _ (first : TreeState) (history : List Entry) (cut : Cut) (inodes : ℕ → Bool) (mine theirs : Flush) (raised : Cut) (after : ℕ → Bool)
    (is : RaisesBeside first history cut inodes mine theirs raised after) (short : AreShortAt first history raised)
    (once : MadeOver first history cut inodes mine) (again : MadeOver first history raised after mine) (same : MakesTheSame once again)
    (plan : CommitPlan) (leads : LeadsOver once plan) where
  abbrev at : Cut → TreeState
  at c = tree_at_cut first history c

  held_or : (node : ℕ) → IsOneOf once.nodes node ⊎ (IsOneOf once.nodes node → ⊥)
  held_or node = elim (true_or_false (is_listed once.nodes node)) [
    | inl listed ↦ inl ((listed_one once.nodes node).0 listed)
    | inr none ↦ inr (λ one. not_both ((listed_one once.nodes node).1 one) none)
  ]

  -- what a node that it concerns has at the later cuts is what it had at the earlier ones
  old_same : (node : ℕ) → IsOneOf once.nodes node → KeepsItsOwn (at cut) (at raised) node
  old_same node one = same_stamps_keep first history cut raised node
      (stamp_stays first history cut inodes mine theirs raised after is node ((once.concerns node).0 one))

  new_same : (node : ℕ) → IsOneOf once.nodes node → KeepsItsOwn (at once.raised) (at again.raised) node
  new_same node one = same_stamps_keep first history once.raised again.raised node (same.own_stamps node one)

  -- any other stays
  late_same : (node : ℕ) → (IsOneOf once.nodes node → ⊥) → KeepsItsOwn (at raised) (at again.raised) node
  late_same node none = same_stamps_keep first history raised again.raised node (same.other_stamps node none)

  early_same : (node : ℕ) → (IsOneOf once.nodes node → ⊥) → KeepsItsOwn (at cut) (at once.raised) node
  early_same node none = same_stamps_keep first history cut once.raised node (elim (once.raises.other node) [
    | inl own ↦ absurd (none ((once.concerns node).1 (member node own)))
    | inr stays ↦ stays
  ])

  kinds_same : (node : ℕ) → kind_of (at again.raised) node ≡ kind_of (at once.raised) node
  kinds_same node = (cuts_keep_kinds first history again.raised).kinds node ∙ sym ((cuts_keep_kinds first history once.raised).kinds node)

  nets : HasNets (at raised) (at again.raised) plan.nets
  nets = record {
    ascend = leads.nets.ascend;
    sorted = leads.nets.sorted;
    each = λ directory. elim (held_or directory) [
      | inl one ↦
          subst (λ (rows : FinMap name_cmp ℕ). IsNet rows (names_of directory (at again.raised).rows) (net_of_node plan.nets directory))
          (sym (old_same directory one).rows)
          (subst (λ (rows : FinMap name_cmp ℕ). IsNet (names_of directory (at cut).rows) rows (net_of_node plan.nets directory))
          (sym (new_same directory one).rows) (leads.nets.each directory))
      | inr none ↦
          subst (λ (rows : FinMap name_cmp ℕ). IsNet (names_of directory (at raised).rows) rows (net_of_node plan.nets directory))
          (sym (late_same directory none).rows)
          (subst (λ (net : List NetRow). IsNet (names_of directory (at raised).rows) (names_of directory (at raised).rows) net)
          (sym (empty_net (names_of directory (at cut).rows) (net_of_node plan.nets directory)
          (subst (λ (rows : FinMap name_cmp ℕ). IsNet (names_of directory (at cut).rows) rows (net_of_node plan.nets directory))
          (early_same directory none).rows (leads.nets.each directory))))
          (no_net (names_of directory (at raised).rows)))
    ];
    holders = λ one own.
        directory_by_kind (at again.raised) one.node.0 ∙ ap is_directory_kind (kinds_same one.node.0)
        ∙ sym (directory_by_kind (at once.raised) one.node.0) ∙ leads.nets.holders one own;
  }

  inode_same : (node : ℕ) → IsOneOf once.nodes node → after node ≡ inodes node
  inode_same node one = inode_stays first history cut inodes mine theirs raised after is node ((once.concerns node).0 one)

  enters : (node : ℕ) → inodes node ≡ false → once.after node ≡ true → IsOneOf once.nodes node
  enters node none has = (once.concerns node).1 (((once.inodes_after.enters node none).0 has).0)

  leaves : (node : ℕ) → inodes node ≡ true → once.after node ≡ false → IsOneOf once.nodes node
  leaves node has none = (once.concerns node).1 (((once.inodes_after.leaves node has).0 none).0)

  moves : HasMoves (at again.raised) after again.after plan
  moves = record {
    ascend = leads.moves.ascend;
    entering = λ one own.
        let before = leads.moves.entering one own in
        let held = enters one.node.0 before.0 before.1 in
        (inode_same one.node.0 held ∙ before.0, same.own_inodes one.node.0 held ∙ before.1, before.2 ∙ sym (kinds_same one.node.0));
    all_entering = λ node none has. elim (held_or node) [
      | inl held ↦ leads.moves.all_entering node (sym (inode_same node held) ∙ none) (sym (same.own_inodes node held) ∙ has)
      | inr free ↦ absurd (not_both has (same.other_inodes node free ∙ none))
    ];
    leaving = λ node. (
      (λ gone.
          let before = (leads.moves.leaving node).0 gone in
          let held = leaves node before.0 before.1 in
          (inode_same node held ∙ before.0, same.own_inodes node held ∙ before.1)),
      (λ now. elim (held_or node) [
        | inl held ↦ (leads.moves.leaving node).1 (sym (inode_same node held) ∙ now.0, sym (same.own_inodes node held) ∙ now.1)
        | inr free ↦ absurd (not_both (same.other_inodes node free ∙ now.0) now.1)
      ]),
    );
  }

  old_bytes : (node : ℕ) → is_listed once.nodes node ≡ true → bytes_of (at raised) node ≡ bytes_of (at cut) node
  old_bytes node listed = (old_same node ((listed_one once.nodes node).0 listed)).bytes

  new_bytes : (node : ℕ) → is_listed once.nodes node ≡ true → bytes_of (at again.raised) node ≡ bytes_of (at once.raised) node
  new_bytes node listed = (new_same node ((listed_one once.nodes node).0 listed)).bytes

  before_as : (node : ℕ) → is_listed again.nodes node ≡ true → is_listed once.nodes node ≡ true
  before_as node listed = subst (λ (nodes : List ℕ). is_listed nodes node ≡ true) same.nodes listed

  files : HasFiles again.nodes (at raised) (at again.raised) plan
  files = record {
    sizes = λ one own. leads.files.sizes one own ∙ ap length (sym (new_bytes one.node.0 (leads.own one own)));
    others = λ node has none. elim (held_or node) [
      | inl held ↦ (new_same node held).bytes ∙ leads.files.others node has none ∙ sym (old_same node held).bytes
      | inr free ↦ (late_same node free).bytes
    ];
    ascend = leads.files.ascend;
    pages = λ one own page among.
        leads.files.pages one own page among ∙ ap (bytes_in_block page.block) (sym (new_bytes one.node.0 (leads.own one own)));
    untouched = λ node n listed has none.
        ap (bytes_in_block n) (new_bytes node (before_as node listed))
        ∙ leads.files.untouched node n (before_as node listed) has none
        ∙ ap (bytes_in_block n) (sym (old_bytes node (before_as node listed)));
    ends = λ node n listed has had ends.
        leads.files.ends node n (before_as node listed) has
        (subst (λ (bytes : List ℕ). BLOCK_BYTES * n < length bytes) (old_bytes node (before_as node listed)) had)
        (subst (λ (bytes : List ℕ). length bytes ≤ BLOCK_BYTES * n) (new_bytes node (before_as node listed)) ends);
    short = λ node. elim (held_or node) [
      | inl held ↦ subst (λ (bytes : List ℕ). length bytes ≤ BLOCK_BYTES * FILE_BLOCKS) (sym (new_same node held).bytes) (leads.files.short node)
      | inr free ↦ subst (λ (bytes : List ℕ). length bytes ≤ BLOCK_BYTES * FILE_BLOCKS) (sym (late_same node free).bytes) (short node)
    ];
  }

  directory_same : (node : ℕ) → is_directory (at again.raised) node ≡ is_directory (at once.raised) node
  directory_same node =
      directory_by_kind (at again.raised) node ∙ ap is_directory_kind (kinds_same node) ∙ sym (directory_by_kind (at once.raised) node)

  touched : (node n : ℕ) → is_listed again.nodes node ≡ true → has_inode_then plan node ≡ true → is_directory (at again.raised) node ≡ false
      → n < FILE_BLOCKS
      → has_page plan.files node n ≡ is_touched_between first history node (cut_of raised node) (cut_of again.raised node) n
  touched node n listed has file low =
      let here = before_as node listed in
      let one = (listed_one once.nodes node).0 here in
      leads.touched node n here has (sym (directory_same node) ∙ file) low
      ∙ ap (λ (from : ℕ). is_touched_between first history node from (cut_of once.raised node) n)
      (sym (stamp_stays first history cut inodes mine theirs raised after is node ((once.concerns node).0 one)))
      ∙ ap (λ (to : ℕ). is_touched_between first history node (cut_of raised node) to n) (sym (same.own_stamps node one))

  pub leads_again : LeadsOver again plan
  leads_again = record {
    nets = nets;
    moves = moves;
    files = files;
    touched = touched;
    own = λ change among. subst (λ (nodes : List ℕ). is_listed nodes change.node.0 ≡ true) (sym same.nodes) (leads.own change among);
  }

pub plans_stay : PlansStay
plans_stay two is short once again same plan leads =
    leads_again two.first two.history two.cut two.inodes two.mine two.theirs two.raised two.after is short once again same plan leads
