-- Each number of a grant is used by its commit.
use Rattle.std.proofs.Common.{◌≡◌, ℕ, zero, suc, ◌+◌, ◌<◌, ◌||◌, List, [], ◌∷◌, filter_map, Some, None, inl, inr, sym, ap, subst, ◌∙◌, arith, nat_eq, Contains}
use Rattle.std.specs.Prelude.{nat_le, slice_get, slice_index, slice_index_or}
use Rattle.std.specs.List.{flat_map, find, range_with_len}
use Rattle.std.proofs.lemmas.Bool.{cond-true, cond-false, cases_Bool, eqb-false, leb-false}
use Rattle.std.proofs.lemmas.List.Elements.{Contains-append_cases}
use Rattle.std.proofs.lemmas.List.FromFn.{get_or-range_with_len, length-range_with_len}
use Rattle.sfs_base.proofs.BasicNumbers.{same_number, not_same}
use Rattle.sfs_base.proofs.BasicOptions.{none_some, some_same}
use Rattle.sfs_base.proofs.BasicTruth.{or_first, or_second}
use Rattle.sfs_image.specs.Part.{Part}
use Rattle.sfs_image.specs.Seen.{SeenInodes, FILE_BLOCKS}
use Rattle.tree_laws.specs.Tree.{TreeState}
use Rattle.fmt_journal.specs.declared.tx.TxBlock.{TxBlock}
use Rattle.image_laws.specs.Numbers.{grant_for}
use Rattle.image_laws.specs.Renamed.{Numbering}
use Rattle.block_map.specs.Kept.{pointer_kept}
use Rattle.block_map.specs.RemapLaws.{IsHeld}
use Rattle.block_map.specs.declared.changed.ChangedBlock.{ChangedBlock}
use Rattle.block_map.specs.declared.rewrite.TableFate.{TableFate}
use Rattle.block_map.specs.declared.rewrite.TableFate.TheVariants.{Stays, Goes, IsWritten}
use Rattle.block_map.proofs.Places.{own_place}
use Rattle.space_map.specs.Space.{GrantedNumbers}
use Rattle.disk_change.specs.AllBuilt.{nodes_with_grant, fresh_of_node, fresh_of_commit, pages_of_node}
use Rattle.disk_change.specs.Built.{Built}
use Rattle.disk_change.specs.Fresh.{data_written, table_of_place, indirect_block_written, fresh_written}
use Rattle.disk_change.specs.declared.pages.Page.{Page}
use Rattle.disk_change.proofs.NumbersGiven.{first_in, further_in}
use Rattle.commit_laws.specs.CommitMade.{StandOnce}
use Rattle.commit_laws.specs.CommitOfPlan.{CommitPlan, change_planned}
use Rattle.commit_laws.specs.PartsMade.{IsPlanOverParts}
use Rattle.commit_laws.proofs.AllWritten.{granted_blocks_are_written}
use Rattle.commit_laws.proofs.Granted.{given_by, low_place}
use Rattle.commit_laws.proofs.GrantWritten.{each_ascends, grant_for as blocks_granted}
use Rattle.commit_laws.proofs.OwnInodes.{mapped_is_in}

-- a node that enters at a place gets the number that a grant has there
pub grant_at : (entering grant : List ℕ) (k node i : ℕ) → StandOnce entering → slice_get entering k ≡ Some node → slice_get grant k ≡ Some i
    → grant_for entering grant node ≡ Some i
grant_at [] grant k node i once at gives = absurd (none_some at)
grant_at (x ∷ entering) [] k node i once at gives = absurd (none_some gives)
grant_at (x ∷ entering) (j ∷ grant) zero node i once at gives =
    cond-true (nat_eq x node) (Some j) (grant_for entering grant node) (ap (λ n. nat_eq n node) (some_same at) ∙ same_number node) ∙ gives
grant_at (x ∷ entering) (j ∷ grant) (suc k) node i once at gives =
    cond-false (nat_eq x node) (Some j) (grant_for entering grant node)
    (not_same x node (λ same. let never : zero ≡ suc k = once 0 (suc k) node (ap Some same) at in omega (arith, never)))
    ∙ grant_at entering grant k node i (λ m l n first later. let same : suc m ≡ suc l = once (suc m) (suc l) n first later in omega (arith, same)) at gives

-- what is in all that a function gives of some items is in what it gives of one
pub in_some : {X Y : Type 0} (f : X → List Y) (xs : List X) (y : Y) → Contains (flat_map f xs) y → (x : X) × Contains xs x × Contains (f x) y
in_some f [] y (k, within, is) = absurd (omega arith)
in_some f (x ∷ xs) y there = elim (Contains-append_cases (f x) (flat_map f xs) y there) [
  | inl own ↦ (x, first_in x xs, own)
  | inr rest ↦ let later = in_some f xs y rest in (later.0, further_in x later.0 xs later.1, later.2)
]

-- a block of a node that is written is held by it
module _ (one : Built) (pages : List Page) where
  data_held : (c : ChangedBlock) (written : TxBlock) → data_written one pages c ≡ Some written → IsHeld (pointer_kept one.meta one.tables) written.block
  data_held c written e = elim (cases_Bool (c.is_zero || (nat_le FILE_BLOCKS c.block || nat_eq (pointer_kept one.meta one.tables c.block) 0))) [
    | inl t ↦ absurd (none_some (sym (cond-true _ None _ t) ∙ e))
    | inr f ↦
        let rest = or_second c.is_zero _ f in
        let low = leb-false FILE_BLOCKS c.block (or_first (nat_le FILE_BLOCKS c.block) _ rest) in
        let is : pointer_kept one.meta one.tables c.block ≡ written.block = ap (λ (w : TxBlock). w.block) (some_same (sym (cond-false _ None _ f) ∙ e)) in
        record {
          some = λ none. eqb-false (pointer_kept one.meta one.tables c.block) 0 (or_second (nat_le FILE_BLOCKS c.block) _ rest) (is ∙ none);
          place = c.block;
          within = omega (arith, low);
          stands = is;
        }
  ]

  table_held : (k : ℕ) → k < 16 → (written : TxBlock) → table_of_place one k ≡ Some written → IsHeld (pointer_kept one.meta one.tables) written.block
  table_held k low written e = by (slice_index_or one.fates k Stays) e
    where
      by : (fate : TableFate) → indirect_block_written fate (slice_index one.meta.indirect k) (find (λ t. nat_eq t.place k) one.tables) ≡ Some written
          → IsHeld (pointer_kept one.meta one.tables) written.block
      by Stays e = absurd (none_some e)
      by Goes e = absurd (none_some e)
      by IsWritten e = elim (cases_Bool (nat_eq (slice_index one.meta.indirect k) 0)) [
        | inl t ↦ absurd (none_some (sym (cond-true (nat_eq (slice_index one.meta.indirect k) 0) None _ t) ∙ e))
        | inr f ↦
            let is : slice_index one.meta.indirect k ≡ written.block =
            ap (λ (w : TxBlock). w.block) (some_same (sym (cond-false (nat_eq (slice_index one.meta.indirect k) 0) None _ f) ∙ e)) in
            record {
              some = λ none. eqb-false (slice_index one.meta.indirect k) 0 f (is ∙ none);
              place = FILE_BLOCKS + k;
              within = omega (arith, low);
              stands = own_place one.meta one.tables k ∙ is;
            }
      ]

  node_held : (written : TxBlock) → Contains (fresh_written one pages) written → IsHeld (pointer_kept one.meta one.tables) written.block
  node_held written has =
      elim (Contains-append_cases (filter_map (data_written one pages) one.changed) (filter_map (table_of_place one) (range_with_len 0 16)) written has) [
        | inl data_ ↦ let c = given_by (data_written one pages) one.changed written data_ in data_held c.0 written c.2
        | inr table ↦ let k = given_by (table_of_place one) (range_with_len 0 16) written table in table_held k.0 (low_place 16 k.0 k.1) written k.2
      ]

-- so each block of a grant is held by a node that is built
pub block_is_used : (num : Numbering) (concerned : List ℕ) (old new : TreeState) (image : SeenInodes) (plan : CommitPlan) (grant : GrantedNumbers)
    (store : ℕ → List ℕ) (parts : ℕ → Part)
    → IsPlanOverParts num concerned old new image plan grant store parts → (block : ℕ) → Contains grant.blocks block
    → (one : Built) × Contains (nodes_with_grant (change_planned plan) grant) one × IsHeld (pointer_kept one.meta one.tables) block
block_is_used num concerned old new image plan grant store parts is block there =
    let written =
    granted_blocks_are_written (change_planned plan) grant (each_ascends num concerned old new image plan grant store parts is)
    (blocks_granted num concerned old new image plan grant store parts is) in
    let tx =
    mapped_is_in (λ (one : TxBlock). one.block) (fresh_of_commit (change_planned plan) grant) block
    (subst (λ those. Contains those block) (sym written) there) in
    let one = in_some (fresh_of_node plan.files) (nodes_with_grant (change_planned plan) grant) tx.0 tx.1 in
    (one.0, one.1, subst (λ b. IsHeld (pointer_kept one.0.meta one.0.tables) b) tx.2 (node_held one.0 (pages_of_node plan.files one.0.node) tx.0 one.2))
