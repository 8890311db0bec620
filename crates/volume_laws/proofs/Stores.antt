-- The blocks of a volume after a commit.
use Rattle.std.proofs.Common.{◌≡◌, ℕ, ◌<◌, ◌≤◌, List, [], ◌∷◌, length, filter_map, get_or, Option, Some, None, inl, inr, refl, sym, ap, subst, ◌∙◌, arith, nat_eq, Contains}
use Rattle.std.specs.List.{range_with_len, find}
use Rattle.std.specs.Option.{option_map_or, unwrap_or}
use Rattle.std.proofs.lemmas.Bool.{cases_lt}
use Rattle.std.proofs.lemmas.List.Elements.{Contains-append_cases, Contains-get_or}
use Rattle.std.proofs.lemmas.List.FromFn.{length-range_with_len, get_or-range_with_len}
use Rattle.sfs_image.specs.ImageOf.{FreshBlock, StandIn}
use Rattle.sfs_image.specs.Part.{part_of, pointer_at, IsGathered}
use Rattle.sfs_image.specs.Seen.{SeenInodes, PLACES}
use Rattle.sfs_image.specs.Super.{data_start}
use Rattle.sfs_image.proofs.PartLaws.{gather_same, none_past_places}
use Rattle.tree_laws.specs.Tree.{TreeState, bytes_of}
use Rattle.fmt_journal.specs.declared.tx.TxBlock.{TxBlock}
use Rattle.image_laws.specs.Image.{inodes_shown}
use Rattle.journal_one.specs.Packed.{block_of}
use Rattle.disk_change.specs.AllBuilt.{numbers_with, nodes_with_grant, pages_of_node, fresh_of_node, fresh_of_commit}
use Rattle.disk_change.specs.Built.{Built}
use Rattle.disk_change.specs.Fresh.{data_written, table_of_place}
use Rattle.disk_change.specs.Seated.{net_of_node}
use Rattle.commit_laws.specs.CommitOfPlan.{change_planned}
use Rattle.commit_laws.specs.PartsMade.{blocks_planned, store_planned, IsPlanOverParts}
use Rattle.commit_laws.specs.Ranked.{fresh_cut}
use Rattle.commit_laws.proofs.FilesMade.{length_block}
use Rattle.commit_laws.proofs.Granted.{given_by, low_place}
use Rattle.commit_laws.proofs.GrantWritten.{each_once, held_is_old, found_once}
use Rattle.commit_laws.proofs.OwnInodes.{mapped_is_in}
use Rattle.commit_laws.proofs.PlanShown.{IsBuiltNode, node_built}
use Rattle.commit_laws.proofs.RewrittenBlocks.{page_bytes}
use Rattle.commit_laws.proofs.Shown.{found_is_in}
use Rattle.cut_laws.specs.Closure.{Flush}
use Rattle.cut_laws.proofs.Basics.{in_either}
use Rattle.flush_laws.proofs.Clean.{over_parts}
use Rattle.flush_laws.proofs.Later.{fsyncs_leave_ready}
use Rattle.space_laws.proofs.Used.{in_some}
use Rattle.volume_laws.specs.Stores.{StoresGoOn, CommitsStayStanding}
use Rattle.flush_laws.specs.Laws.{IsStoreLeft}
use Rattle.flush_laws.specs.Volume.{Volume, OneFsync, tree_held, tree_raised}
use Rattle.flush_laws.specs.Planned.{IsPlannedFsync}
use Rattle.volume_laws.proofs.FreshBlocks.{table_long, data_long}

module _ (volume : Volume) (one : OneFsync) (is : IsPlannedFsync volume one) where
  abbrev old : TreeState
  old = tree_held volume

  abbrev new : TreeState
  new = tree_raised volume one

  abbrev image : SeenInodes
  image = inodes_shown volume.layout volume.parts

  abbrev fresh : List FreshBlock
  fresh = blocks_planned one.plan one.grant

  abbrev later : ℕ → List ℕ
  later = store_planned volume.store one.plan one.grant

  over : IsPlanOverParts volume.num one.nodes old new image one.plan one.grant volume.store volume.parts
  over = over_parts volume one is

  stand_fresh : StandIn later fresh
  stand_fresh = λ k d low.
      let block : FreshBlock = get_or fresh k d in
      ap (λ (o : Option FreshBlock). option_map_or (λ (other : FreshBlock). other.bytes) o (volume.store block.block))
      (found_once (λ (other : FreshBlock). other.block) fresh
      (each_once volume.num one.nodes old new image one.plan one.grant volume.store volume.parts over) block (Contains-get_or fresh k d low))

  -- a part before is gathered as it was, since no fresh block is one that it points to
  gathered_still : (i : ℕ) → i < volume.layout.inodes → IsGathered later (volume.parts i)
  gathered_still i low = gather_same volume.store later (volume.parts i).raw kept ∙ is.ready.sound.gathered i low
    where
      kept : (place : ℕ) → (pointer_at (part_of volume.store (volume.parts i).raw) place ≡ 0 → ⊥)
          → later (pointer_at (part_of volume.store (volume.parts i).raw) place)
          ≡ volume.store (pointer_at (part_of volume.store (volume.parts i).raw) place)
      kept place some = elim (cases_lt place PLACES) [
        | inl within ↦
            let here : pointer_at (part_of volume.store (volume.parts i).raw) place ≡ pointer_at (volume.parts i) place =
            ap (λ p. pointer_at p place) (is.ready.sound.gathered i low) in
            ap later here
            ∙ ap (λ (o : Option FreshBlock). option_map_or (λ (block : FreshBlock). block.bytes) o (volume.store (pointer_at (volume.parts i) place)))
            (held_is_old volume.num one.nodes old new image one.plan one.grant volume.store volume.parts over i place low within)
            ∙ ap volume.store (sym here)
        | inr past ↦ absurd (some (none_past_places volume.store (volume.parts i).raw place past))
      ]

  fresh_long : (block : FreshBlock) → Contains fresh block → length block.bytes ≡ 4096
  fresh_long block there =
      let tx = mapped_is_in block_of (fresh_of_commit (change_planned one.plan) one.grant) block there in
      let node = in_some (fresh_of_node one.plan.files) (nodes_with_grant (change_planned one.plan) one.grant) tx.0 tx.1 in
      ap (λ (b : FreshBlock). length b.bytes) (sym tx.2) ∙ of_node node.0 node.1 tx.0 node.2
    where
      of_node : (made : Built) → Contains (nodes_with_grant (change_planned one.plan) one.grant) made → (tx : TxBlock)
          → Contains (fresh_of_node one.plan.files made) tx → length tx.bytes ≡ 4096
      of_node made there_made tx has =
          elim (Contains-append_cases (filter_map (data_written made (pages_of_node one.plan.files made.node)) made.changed)
          (filter_map (table_of_place made) (range_with_len 0 16)) tx has) [
            | inl data_ ↦
                let c = given_by (data_written made (pages_of_node one.plan.files made.node)) made.changed tx data_ in
                data_long made (pages_of_node one.plan.files made.node) (is.grants.slots made there_made)
                (λ n page e. ap length (page_bytes new one.plan is.plans.files.pages made.node n page e) ∙ length_block n (bytes_of new made.node)) c.0 tx c.2
            | inr table ↦
                let k = given_by (table_of_place made) (range_with_len 0 16) tx table in
                let node : IsBuiltNode volume.num one.nodes old new image one.plan one.grant over.full made =
                node_built volume.num one.nodes old new image one.plan one.grant over.full made there_made in
                table_long (numbers_with (change_planned one.plan) one.grant.inodes) (net_of_node one.plan.nets node.seat.node)
                (unwrap_or (numbers_with (change_planned one.plan) one.grant.inodes node.seat.node) 0)
                (fresh_cut (change_planned one.plan).seats one.grant.blocks node.m node.seat) node.seat k.0 (low_place 16 k.0 k.1) tx
                (subst (λ (b : Built). table_of_place b k.0 ≡ Some tx) node.is k.2)
          ]

  whole_still : (block : ℕ) → data_start volume.layout ≤ block → block < volume.layout.blocks → length (later block) ≡ 4096
  whole_still block low high = by (find (λ (other : FreshBlock). nat_eq other.block block) fresh) refl
    where
      by : (o : Option FreshBlock) → find (λ (other : FreshBlock). nat_eq other.block block) fresh ≡ o
          → length (option_map_or (λ (other : FreshBlock). other.bytes) o (volume.store block)) ≡ 4096
      by None e = is.ready.sound.whole block low high
      by (Some other) e = fresh_long other (found_is_in (λ (other : FreshBlock). nat_eq other.block block) fresh other e)

  pub store_left : IsStoreLeft volume one later
  store_left = record { fresh = stand_fresh; gathered = gathered_still; whole = whole_still }

pub stores_go_on : StoresGoOn
stores_go_on volume one is = (store_planned volume.store one.plan one.grant, store_left volume one is)

pub commits_stay_standing : CommitsStayStanding
commits_stay_standing volume one later stands is comes there = record {
  between =
      fsyncs_leave_ready volume one later is there;
  among = record {
    low = λ flush among. elim (in_either volume.flushes (one.flush ∷ []) flush among) [
      | inl before ↦ stands.among.low flush before
      | inr own ↦ elim own [ inl same ↦ subst (λ (f : Flush). f.stamp ≤ length volume.history) same comes.low | inr none ↦ absurd none ]
    ];
    live = λ flush among. elim (in_either volume.flushes (one.flush ∷ []) flush among) [
      | inl before ↦ stands.among.live flush before
      | inr own ↦ elim own [
        | inl same ↦
            subst (λ (f : Flush). Rattle.cut_laws.specs.Closure.HasLiveNode volume.first volume.history f) same comes.live
        | inr none ↦ absurd none
      ]
    ];
  };
}
