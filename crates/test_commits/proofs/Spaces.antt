-- What is free on the disk of the tests, and who may begin there.
use Rattle.std.proofs.Common.{◌≡◌, ◌∙◌, ◌<◌, ◌≤◌, ℕ, List, Bool, true, false, Some, None, ◌&&◌, nat_le, nat_lt, get_or, inr, refl, sym, ap, subst, arith}
use Rattle.std.specs.Prelude.{All, if◌then◌else◌, is_some}
use Rattle.std.proofs.lemmas.Option.{slice_get-get_or}
use Rattle.std.proofs.lemmas.Bool.Decides.{nat_tests}
use Rattle.sfs_base.proofs.BasicOptions.{some_same}
use Rattle.sfs_base.proofs.BasicTruth.{true_not_false}
use Rattle.sfs_base.specs.Listed.{is_listed}
use Rattle.sfs_image.specs.Super.{Layout, data_start}
use Rattle.space_map.specs.Pool.{Pool, first_status, status_of}
use Rattle.space_map.specs.Space.{Space}
use Rattle.space_map.specs.declared.status.Status.{Status}
use Rattle.space_map.specs.declared.status.Status.TheVariants.{Free, Granted, Taken}
use Rattle.slot_laws.specs.Grants.{NoneGranted}
use Rattle.slot_laws.specs.Labels.{nothing_told, own_from}
use Rattle.sfs_dev.specs.Disk.{View}
use Rattle.stamp_table.specs.Hand.{Desk}
use Rattle.stamp_table.specs.Table.{TableState}
use Rattle.disk_box.specs.declared.key.BoxKey.{BoxKey}
use Rattle.disk_box.specs.Pens.{PenHand}
use Rattle.journal_set.specs.Making.{AreNewPens, IsKeyOf, IsNewPen}
use Rattle.journal_set.specs.Ready.{IsReady}
use Rattle.fsync_commit.specs.Asked.{IsSpaceOn}
use Rattle.test_commits.specs.Disk.{HasItsSpace, HasLayout, SMALL}

-- what is free or taken is not granted
not_granted : (within listed : Bool) → (if within then Some (if listed then Taken else Free) else None) ≡ Some Granted → ⊥
not_granted true true is = absurd (cc (some_same is))
not_granted true false is = absurd (cc (some_same is))
not_granted false listed is = absurd (cc (is))

-- what has a status lies within
lies_within : (within : Bool) (status : Status) → is_some (if within then Some status else None) ≡ true → within ≡ true
lies_within true status is = refl
lies_within false status is = absurd (true_not_false (sym is))

module _ (first end : ℕ) (taken : List ℕ) (pool : Pool) (begins : (number : ℕ) → status_of pool number ≡ first_status first end taken number) where
  -- in a row of numbers that begins none is granted
  pub none_granted : NoneGranted pool
  none_granted number is = not_granted (nat_le first number && nat_lt number end) (is_listed taken number) (sym (begins number) ∙ is)

  ranged : (number : ℕ) → is_some (status_of pool number) ≡ true → (nat_le first number && nat_lt number end) ≡ true
  ranged number has =
      lies_within (nat_le first number && nat_lt number end) (if is_listed taken number then Taken else Free) (ap is_some (sym (begins number)) ∙ has)

  pub from_first : (number : ℕ) → is_some (status_of pool number) ≡ true → first ≤ number
  from_first number has = let within = ranged number has in grind (arith, nat_tests, within)

  pub below_end : (number : ℕ) → is_some (status_of pool number) ≡ true → number < end
  below_end number has = let within = ranged number has in grind (arith, nat_tests, within)

-- the numbers of a map that begins are the disk's
pub space_on : (layout : Layout) (held used : List ℕ) (space : Space)
    → ((block : ℕ) → status_of space.blocks block ≡ first_status (data_start layout) layout.blocks held block)
    → ((inode : ℕ) → status_of space.inodes inode ≡ first_status 0 layout.inodes used inode) → IsSpaceOn layout space
space_on layout held used space blocks inodes = record {
  inodes = below_end 0 layout.inodes used space.inodes inodes;
  blocks = λ number has. record {
    low = from_first (data_start layout) layout.blocks held space.blocks blocks number has;
    high = below_end (data_start layout) layout.blocks held space.blocks blocks number has;
  };
}

-- so are those of the map that new journals are about, as a pen of theirs has it
pub new_on : {D : Type 0} (t : TableState (BoxKey D)) (core : ℕ) (pen : PenHand D) (layout : Layout) (disk : View) (space : Space) → IsNewPen t core pen
    → IsKeyOf layout disk space t.table.given → IsSpaceOn layout space → IsSpaceOn pen.table.given.layout pen.table.given.space
new_on t core pen layout disk space new key on =
    subst (λ (k : BoxKey _). IsSpaceOn k.layout k.space) (sym (ap (λ (d : Desk (BoxKey _)). d.given) new.outside.table_is))
    (subst (λ (z : Layout × Space). IsSpaceOn z.0 z.1) (λ i. (sym key.layout_is i, sym key.space_is i)) on)

-- and the layout is theirs
pub new_layout : {D : Type 0} (t : TableState (BoxKey D)) (core : ℕ) (pen : PenHand D) (layout : Layout) (disk : View) (space : Space) → IsNewPen t core pen
    → IsKeyOf layout disk space t.table.given → pen.table.given.layout ≡ layout
new_layout t core pen layout disk space new key = ap (λ (d : Desk (BoxKey _)). d.given.layout) new.outside.table_is ∙ key.layout_is

-- a pen that begins is ready
pub new_ready : {D : Type 0} (t : TableState (BoxKey D)) (core : ℕ) (pen : PenHand D) → IsNewPen t core pen → IsReady t pen
new_ready t core pen new = record {
  outside = new.outside;
  room = new.room;
  rests = inr (ap (λ l. (own_from l nothing_told).reserved) new.none_told, ap (λ l. (own_from l nothing_told).flight) new.none_told);
}

module _ {D : Type 0} (t : TableState (BoxKey D)) (pens : List (PenHand D)) (disk : View) (space : Space) (new : AreNewPens t pens)
    (key : IsKeyOf SMALL disk space t.table.given) where
  -- so is each of the pens of new journals, and each is about their disk
  pub all_ready : All (IsReady t) pens
  all_ready place d within = new_ready t place (get_or pens place d) (new.each place (get_or pens place d) (slice_get-get_or pens place d within))

  pub all_on : IsSpaceOn SMALL space → All HasItsSpace pens
  all_on on place d within =
      new_on t place (get_or pens place d) SMALL disk space (new.each place (get_or pens place d) (slice_get-get_or pens place d within)) key on

  pub all_small : All HasLayout pens
  all_small place d within =
      new_layout t place (get_or pens place d) SMALL disk space (new.each place (get_or pens place d) (slice_get-get_or pens place d within)) key
