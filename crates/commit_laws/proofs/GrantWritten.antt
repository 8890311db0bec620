-- A plan's grant is written whole: each fresh block stands under its own number.
use Rattle.std.proofs.Common.{◌≡◌, ℕ, zero, suc, ◌+◌, ◌<◌, Bool, true, false, cond, List, [], ◌∷◌, length, get_or, map, filter_map, min, Option, Some, None, option_map, refl, sym, ap, subst, ◌∙◌, arith, nat_eq, All, Contains}
use Rattle.std.specs.Prelude.{slice_get, slice_index}
use Rattle.std.specs.List.{find, cons_option, range_with_len}
use Rattle.std.specs.Option.{option_map_or}
use borrow.Author.Tests.{eqb-true}
use Rattle.std.proofs.lemmas.Bool.{cond-true}
use Rattle.std.proofs.lemmas.List.{get_or-map, length-map}
use Rattle.std.proofs.lemmas.List.Elements.{All-cons}
use Rattle.std.proofs.lemmas.List.Kept.{AllPairs-cons}
use Rattle.std.proofs.lemmas.Option.{slice_get-map, slice_get_within, get_or_from_slice_get}
use Rattle.sfs_base.proofs.BasicNumbers.{same_number}
use Rattle.sfs_base.proofs.BasicOptions.{none_some}
use Rattle.sfs_base.specs.declared.numbers.Kind.{Kind}
use Rattle.sfs_base.specs.declared.numbers.Kind.TheVariants.{File, Directory}
use Rattle.sfs_image.specs.ImageOf.{FreshBlock}
use Rattle.sfs_image.specs.Part.{Part, pointer_at}
use Rattle.sfs_image.specs.Seen.{Seen, SeenInodes, PLACES, FILE_BLOCKS}
use Rattle.sfs_image.proofs.Basics.{found_passes}
use Rattle.tree_laws.specs.Tree.{TreeState}
use Rattle.fmt_journal.specs.declared.tx.TxBlock.{TxBlock}
use Rattle.image_laws.specs.Renamed.{Numbering}
use Rattle.journal_one.specs.Job.{no_block}
use Rattle.journal_one.specs.Packed.{block_of}
use Rattle.block_map.specs.Changed.{AscendByBlock}
use Rattle.block_map.specs.Kept.{pointer_kept}
use Rattle.block_map.specs.declared.changed.ChangedBlock.{ChangedBlock}
use Rattle.space_map.specs.Space.{GrantedNumbers}
use Rattle.disk_change.specs.AllBuilt.{fresh_of_commit}
use Rattle.disk_change.specs.Directory.{slot_blocks_after, directory_touched}
use Rattle.keyed_list.specs.Ascending.{AscendBy, item_with}
use Rattle.disk_change.specs.Nodes.{file_node}
use Rattle.disk_change.specs.Pages.{page_block}
use Rattle.disk_change.specs.Planned.{Planned}
use Rattle.disk_change.specs.Seat.{block_said, page_said, file_changed}
use Rattle.disk_change.specs.Seated.{Begun, Seated, seated_as, net_of_node}
use Rattle.disk_change.specs.declared.files.FileChange.{FileChange}
use Rattle.disk_change.specs.declared.pages.Page.{Page}
use Rattle.disk_change.proofs.Rewriting.{said_at}
use Rattle.commit_laws.specs.CommitMade.{StandOnce}
use Rattle.commit_laws.specs.CommitOfPlan.{CommitPlan, change_planned}
use Rattle.commit_laws.specs.Granted.{EachAscends, IsGrantFor}
use Rattle.commit_laws.specs.PartsMade.{blocks_planned, IsPlanOverParts, PlansWriteApart}
use Rattle.commit_laws.proofs.AllWritten.{granted_blocks_are_written}
use Rattle.commit_laws.proofs.BegunShown.{seat_is}
use Rattle.commit_laws.proofs.CommitMade.{some_there}
use Rattle.commit_laws.proofs.Ranked.{needs_are_those}
use Rattle.commit_laws.proofs.SeatsOfPlan.{in_is_there}
use Rattle.commit_laws.proofs.Shown.{found_is_in}

-- what is said of a range of blocks ascends
module _ (said : ℕ → Option ChangedBlock) (own : (n : ℕ) (one : ChangedBlock) → said n ≡ Some one → one.block ≡ n) where
  said_above : (a n b : ℕ) → b < a → All (λ (one : ChangedBlock). b < one.block) (filter_map said (range_with_len a n))
  said_above a zero b below = λ k d within. absurd (omega arith)
  said_above a (suc n) b below = by (said a) refl (said_above (a + 1) n b (omega arith))
    where
      by : (o : Option ChangedBlock) → said a ≡ o → All (λ (one : ChangedBlock). b < one.block) (filter_map said (range_with_len (a + 1) n))
          → All (λ (one : ChangedBlock). b < one.block) (cons_option o (filter_map said (range_with_len (a + 1) n)))
      by None e rest = rest
      by (Some one) e rest =
          All-cons (λ (one : ChangedBlock). b < one.block) one (filter_map said (range_with_len (a + 1) n)) (let at = own a one e in omega arith) rest

  said_ascends : (a n : ℕ) → AscendByBlock (filter_map said (range_with_len a n))
  said_ascends a zero = λ i j d lt within. absurd (omega arith)
  said_ascends a (suc n) = by (said a) refl (said_ascends (a + 1) n)
    where
      by : (o : Option ChangedBlock) → said a ≡ o → AscendByBlock (filter_map said (range_with_len (a + 1) n))
          → AscendByBlock (cons_option o (filter_map said (range_with_len (a + 1) n)))
      by None e rest = rest
      by (Some one) e rest =
          AllPairs-cons (λ first later. first.block < later.block) one (filter_map said (range_with_len (a + 1) n))
          (let at = own a one e in said_above (a + 1) n one.block (omega arith)) rest

-- and so do the pages of a file
pages_ascend : (pages : List Page) → AscendBy page_block pages → AscendByBlock (file_changed pages)
pages_ascend pages up i j d lt within =
    let long = length-map pages page_said in
    let one = some_there pages j (omega (arith, within, long)) in
    let first = get_or-map page_said pages i one.0 d (omega (arith, within, long)) in
    let later = get_or-map page_said pages j one.0 d (omega (arith, within, long)) in
    let below = up i j one.0 lt (omega (arith, within, long)) in
    let a : (get_or (file_changed pages) i d).block ≡ page_block (get_or pages i one.0) = ap (λ (c : ChangedBlock). c.block) first in
    let b : (get_or (file_changed pages) j d).block ≡ page_block (get_or pages j one.0) = ap (λ (c : ChangedBlock). c.block) later in
    omega arith

-- what is in a list and passes is found
pub none_found : {Y : Type 0} (test : Y → Bool) (ys : List Y) (y : Y) → Contains ys y → test y ≡ true → find test ys ≡ None → ⊥
none_found test [] y (k, within, is) passes none = absurd (omega arith)
none_found test (first ∷ ys) y (zero, within, is) passes none =
    none_some (sym none ∙ cond-true (test first) (Some first) (find test ys) (ap test is ∙ passes))
none_found test (first ∷ ys) y (suc k, within, is) passes none = step (test first) none (λ rest. none_found test ys y (k, omega arith, is) passes rest)
  where
    step : (b : Bool) → cond b (Some first) (find test ys) ≡ None → (find test ys ≡ None → ⊥) → ⊥
    step true e later = none_some (sym e)
    step false e later = later e

-- an item is found by its number where each number stands once
pub found_once : {X : Type 0} (key : X → ℕ) (xs : List X) → StandOnce (map key xs) → (x : X) → Contains xs x → find (λ y. nat_eq (key y) (key x)) xs ≡ Some x
found_once key xs once x there = by (find (λ y. nat_eq (key y) (key x)) xs) refl
  where
    at : (m : ℕ) × (slice_get xs m ≡ Some x)
    at = in_is_there xs x there

    by : (o : Option _) → find (λ y. nat_eq (key y) (key x)) xs ≡ o → o ≡ Some x
    by None e = absurd (none_found (λ y. nat_eq (key y) (key x)) xs x there (same_number (key x)) e)
    by (Some y) e =
        let there_y = in_is_there xs y (found_is_in (λ y. nat_eq (key y) (key x)) xs y e) in
        let same : key y ≡ key x = eqb-true (key y) (key x) (found_passes (λ y. nat_eq (key y) (key x)) xs y e) in
        let first : slice_get (map key xs) there_y.0 ≡ Some (key x) = slice_get-map key xs there_y.0 ∙ ap (option_map key) there_y.1 ∙ ap Some same in
        let second : slice_get (map key xs) at.0 ≡ Some (key x) = slice_get-map key xs at.0 ∙ ap (option_map key) at.1 in
        let places = once there_y.0 at.0 (key x) first second in
        sym there_y.1 ∙ ap (slice_get xs) places ∙ at.1

module _ (num : Numbering) (concerned : List ℕ) (old new : TreeState) (image : SeenInodes) (plan : CommitPlan) (grant : GrantedNumbers) (store : ℕ → List ℕ)
    (parts : ℕ → Part)
    (is : IsPlanOverParts num concerned old new image plan grant store parts) where
  abbrev change : Planned
  change = change_planned plan

  abbrev fresh : List FreshBlock
  fresh = blocks_planned plan grant

  -- what is rewritten of each node ascends
  pub each_ascends : EachAscends change.seats
  each_ascends seat there =
      let at = in_is_there change.seats seat there in
      let of = seat_is num concerned old new image plan grant is.full at.0 seat at.1 in
      subst (λ (s : Seated). AscendByBlock s.changed) of.begins (by_kind of.begun of.begun.kind)
    where
      of_file : (begun : Begun) (o : Option FileChange) → item_with file_node begun.node plan.files ≡ o
          → AscendByBlock (option_map_or (λ (one : FileChange). file_changed one.pages.items) o [])
      of_file begun None e = λ i j d lt within. absurd (omega arith)
      of_file begun (Some one) e = pages_ascend one.pages.items (is.over.pages one (found_is_in (λ item. nat_eq (file_node item) begun.node) plan.files one e))

      by_kind : (begun : Begun) (kind : Kind) → AscendByBlock (seated_as kind change.changes begun).changed
      by_kind begun File = of_file begun (item_with file_node begun.node plan.files) refl
      by_kind begun Directory =
          let net = net_of_node plan.nets begun.node in
          let blocks = slot_blocks_after change.changes.directories net begun.slots in
          let touched = directory_touched change.changes.directories net begun.slots in
          said_ascends (block_said (pointer_kept begun.base begun.tables) blocks touched) (said_at (pointer_kept begun.base begun.tables) blocks touched) 0
          (min (length blocks) FILE_BLOCKS)

  pub grant_for : IsGrantFor change.seats grant.blocks
  grant_for = record { enough = is.full.sound.whole.serves.blocks.enough ∙ needs_are_those change.seats; some = is.over.some }

  -- the numbers of the fresh blocks are those of the grant
  pub fresh_numbers : map (λ (one : FreshBlock). one.block) fresh ≡ grant.blocks
  fresh_numbers = numbers (fresh_of_commit change grant) ∙ granted_blocks_are_written change grant each_ascends grant_for
    where
      numbers : (txs : List TxBlock) → map (λ (one : FreshBlock). one.block) (map block_of txs) ≡ map (λ (one : TxBlock). one.block) txs
      numbers [] = refl
      numbers (tx ∷ txs) = ap (λ rest. tx.block ∷ rest) (numbers txs)

  number_of_block : (k : ℕ) → k < length fresh → (get_or fresh k no_block).block ≡ slice_index grant.blocks k
  number_of_block k within = sym (get_or-map (λ (one : FreshBlock). one.block) fresh k no_block 0 within) ∙ ap (λ those. slice_index those k) fresh_numbers

  long_fresh : length fresh ≡ length grant.blocks
  long_fresh = sym (length-map fresh (λ (one : FreshBlock). one.block)) ∙ ap length fresh_numbers

  pub each_once : StandOnce (map (λ (one : FreshBlock). one.block) fresh)
  each_once m l i at also =
      is.full.sound.whole.serves.blocks.once m l (in_grant m i at) (in_grant l i also) (value m i at ∙ sym (value l i also))
    where
      in_grant : (m i : ℕ) → slice_get (map (λ (one : FreshBlock). one.block) fresh) m ≡ Some i → m < length grant.blocks
      in_grant m i at = subst (λ those. m < length those) fresh_numbers (slice_get_within (map (λ (one : FreshBlock). one.block) fresh) m i at)

      value : (m i : ℕ) → slice_get (map (λ (one : FreshBlock). one.block) fresh) m ≡ Some i → slice_index grant.blocks m ≡ i
      value m i at = ap (λ those. slice_index those m) (sym fresh_numbers) ∙ get_or_from_slice_get (map (λ (one : FreshBlock). one.block) fresh) m i 0 at

  -- a block of a part before is none of them
  pub held_is_old : (i place : ℕ) → i < image.count → place < PLACES → find (λ (one : FreshBlock). nat_eq one.block (pointer_at (parts i) place)) fresh ≡ None
  held_is_old i place within low = by (find (λ (one : FreshBlock). nat_eq one.block (pointer_at (parts i) place)) fresh) refl
    where
      by : (o : Option FreshBlock) → find (λ (one : FreshBlock). nat_eq one.block (pointer_at (parts i) place)) fresh ≡ o → o ≡ None
      by None e = refl
      by (Some one) e =
          let at = in_is_there fresh one (found_is_in (λ (one : FreshBlock). nat_eq one.block (pointer_at (parts i) place)) fresh one e) in
          let same : one.block ≡ pointer_at (parts i) place =
          eqb-true one.block (pointer_at (parts i) place)
          (found_passes (λ (one : FreshBlock). nat_eq one.block (pointer_at (parts i) place)) fresh one e) in
          let there : slice_get (map (λ (one : FreshBlock). one.block) fresh) at.0 ≡ Some one.block =
          slice_get-map (λ (one : FreshBlock). one.block) fresh at.0 ∙ ap (option_map (λ (one : FreshBlock). one.block)) at.1 in
          let in_fresh = slice_get_within fresh at.0 one at.1 in
          absurd (is.full.sound.whole.serves.blocks.free at.0 i place (subst (λ n. at.0 < n) long_fresh in_fresh) within low
          (ap (λ (s : Seen). s.blocks place) (is.standing.shown i within) ∙ sym same
          ∙ sym (get_or_from_slice_get (map (λ (one : FreshBlock). one.block) fresh) at.0 one.block 0 there)
          ∙ ap (λ those. slice_index those at.0) fresh_numbers))

pub plans_write_apart : PlansWriteApart
plans_write_apart num concerned old new image plan grant store parts is = record {
  own = λ j k in_j in_k same.
      is.full.sound.whole.serves.blocks.once j k (omega (arith, in_j, long)) (omega (arith, in_k, long))
      (sym (number_of_block num concerned old new image plan grant store parts is j in_j) ∙ same
      ∙ number_of_block num concerned old new image plan grant store parts is k in_k);
  free = λ i place k within low in_k same.
      is.full.sound.whole.serves.blocks.free k i place (omega (arith, in_k, long)) within low
      (ap (λ (s : Seen). s.blocks place) (is.standing.shown i within) ∙ sym same
      ∙ number_of_block num concerned old new image plan grant store parts is k in_k);
}
  where
    long : length (blocks_planned plan grant) ≡ length grant.blocks
    long = long_fresh num concerned old new image plan grant store parts is
