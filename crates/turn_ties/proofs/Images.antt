-- The parts that the commit of an fsync leaves are those that a commit makes of the parts before it.
use Rattle.std.proofs.Common.{◌≡◌, ℕ, zero, suc, ◌*◌, ◌/◌, ◌<◌, Bool, true, false, cond, List, [], ◌∷◌, length, map, Option, Some, None, refl, sym, ap, subst, ◌∙◌, arith, nat_eq, Contains}
use Rattle.std.specs.List.{find}
use Rattle.std.specs.Option.{option_map_or}
use borrow.Author.Tests.{eqb-true}
use Rattle.std.proofs.lemmas.Bool.{cond-true}
use Rattle.sfs_base.proofs.BasicNumbers.{same_number}
use Rattle.sfs_base.proofs.BasicOptions.{none_some, some_same}
use Rattle.sfs_base.proofs.BasicTruth.{true_not_false}
use Rattle.sfs_base.specs.declared.numbers.Kind.{Kind}
use Rattle.sfs_base.specs.declared.numbers.Kind.TheVariants.{File, Directory}
use Rattle.sfs_image.specs.Inode.{inode_bytes}
use Rattle.sfs_image.specs.Part.{Part, part_of, seen_of}
use Rattle.sfs_image.specs.Seen.{Seen, SeenInodes, PLACES}
use Rattle.sfs_image.proofs.Basics.{found_passes}
use Rattle.tree_laws.specs.Tree.{TreeState, kind_of}
use Rattle.image_laws.specs.Commit.{Commit, IsCommit, IsBuiltAnew, HasBlock, hole, kept, fresh, seen_before}
use Rattle.image_laws.specs.Image.{inodes_shown}
use Rattle.disk_change.specs.AllBuilt.{nodes_with_grant}
use Rattle.disk_change.specs.Built.{Built}
use Rattle.disk_change.specs.Directory.{is_among}
use Rattle.disk_change.specs.GivenUp.{entry_number}
use Rattle.disk_change.specs.Planned.{Planned, leaves}
use Rattle.disk_change.specs.Seated.{free_inode}
use Rattle.commit_laws.specs.BytesKept.{IsCleanPlan}
use Rattle.commit_laws.specs.CommitOfPlan.{change_planned, commit_of, image_planned}
use Rattle.commit_laws.specs.FilesMade.{ShowTheSame}
use Rattle.commit_laws.specs.PartsMade.{part_made, IsPlanOverParts}
use Rattle.commit_laws.proofs.BegunShown.{step}
use Rattle.commit_laws.proofs.CommitMade.{map_there}
use Rattle.commit_laws.proofs.DirectoriesMade.{plans_make_directories}
use Rattle.commit_laws.proofs.FilesMade.{plans_make_files}
use Rattle.commit_laws.proofs.PartsStand.{plans_leave_parts}
use Rattle.commit_laws.proofs.NumbersGiven.{kept_in}
use Rattle.commit_laws.proofs.OwnInodes.{mapped_is_in}
use Rattle.commit_laws.proofs.PlanShown.{IsBuiltNode, node_built}
use Rattle.commit_laws.proofs.SeatsOfPlan.{there_is_in, among_is_in, node_seated, number_at}
use Rattle.commit_laws.proofs.Shown.{found_is_in}
use Rattle.cut_laws.specs.Cut.{tree_at_cut}
use Rattle.flush_laws.proofs.Clean.{next_stands, over_parts, clean_plan}
use Rattle.flush_laws.proofs.Later.{kept_number}
use Rattle.flush_laws.specs.Volume.{parts_left}
use Rattle.flush_laws.specs.Volume.{Volume, OneFsync}
use Rattle.flush_laws.specs.Planned.{IsPlannedFsync}

-- of two inodes that show the same one is built anew as the other one is, and has the same blocks
module _ (commit : Commit) (new : TreeState) (node i : ℕ) (before seen twin : Seen) (same : ShowTheSame seen twin) where
  built_alike : IsBuiltAnew commit new node before twin → IsBuiltAnew commit new node before seen
  built_alike is = record {
    kind = same.kind ∙ is.kind;
    links = same.links ∙ is.links;
    size = same.size ∙ is.size ∙ sym (λ j. cond (nat_eq (same.kind j) 2) (4096 * (length (same.slots j) / 15)) (length (same.bytes j)));
    bytes = same.bytes ∙ is.bytes;
    slots = same.slots ∙ is.slots;
  }

  block_alike : (place : ℕ) → place < PLACES → HasBlock commit i place before twin → HasBlock commit i place before seen
  block_alike place low (hole none) = hole (same.blocks place low ∙ none)
  block_alike place low (kept stays) = kept (same.blocks place low ∙ stays)
  block_alike place low (fresh takes is) = fresh takes (same.blocks place low ∙ is)

-- what is in a list is found in it
found_there : (ones : List Built) (one : Built) (i : ℕ) → Contains ones one → one.number ≡ i → find (λ (b : Built). nat_eq b.number i) ones ≡ None → ⊥
found_there [] one i (k, low, e) same none = absurd (omega arith)
found_there (first ∷ ones) one i (zero, low, e) same none =
    let here : nat_eq first.number i ≡ true = ap (λ (b : Built). nat_eq b.number i) e ∙ ap (λ n. nat_eq n i) same ∙ same_number i in
    none_some (sym none ∙ cond-true (nat_eq first.number i) (Some first) _ here)
found_there (first ∷ ones) one i (suc k, low, e) same none = further (nat_eq first.number i) none (λ rest. found_there ones one i (k, omega arith, e) same rest)
  where
    further : (b : Bool) → cond b (Some first) (find (λ (b : Built). nat_eq b.number i) ones) ≡ None
        → (find (λ (b : Built). nat_eq b.number i) ones ≡ None → ⊥) → ⊥
    further true e later = none_some (sym e)
    further false e later = later e

module _ (volume : Volume) (one : OneFsync) (planned : IsPlannedFsync volume one) where
  abbrev old : TreeState
  old = tree_at_cut volume.first volume.history volume.cut

  abbrev new : TreeState
  new = tree_at_cut volume.first volume.history one.raised

  abbrev image : SeenInodes
  image = inodes_shown volume.layout volume.parts

  abbrev change : Planned
  change = change_planned one.plan

  abbrev commit : Commit
  commit = commit_of volume.num one.nodes one.plan one.grant

  abbrev nodes : List Built
  nodes = nodes_with_grant change one.grant

  abbrev shown : SeenInodes
  shown = image_planned volume.num one.nodes new image one.plan one.grant

  abbrev pub next : SeenInodes
  next = inodes_shown volume.layout (parts_left volume one)

  pub over : IsPlanOverParts volume.num one.nodes old new image one.plan one.grant volume.store volume.parts
  over = over_parts volume one planned

  clean : IsCleanPlan volume.num one.nodes old new image one.plan one.grant volume.layout volume.parts
  clean = clean_plan volume one planned

  built_shows : (built : Built) → Contains nodes built → ShowTheSame (seen_of (part_made volume.store one.plan one.grant built)) (shown.seen built.number)
  built_shows built there = by (kind_of new built.node) refl
    where
      by : (kind : Kind) → kind_of new built.node ≡ kind
          → ShowTheSame (seen_of (part_made volume.store one.plan one.grant built)) (shown.seen built.number)
      by File e =
          (plans_make_files volume.num one.nodes old new image one.plan one.grant volume.store volume.parts over clean.contents.files built there e).shows
      by Directory e =
          (plans_make_directories volume.num one.nodes old new image one.plan one.grant volume.store volume.parts over clean.contents.directories built
          there e).shows

  -- the part of a node that the commit concerns shows what the commit makes
  pub node_shows : (node i : ℕ) → commit.after node ≡ Some i → is_among one.nodes node ≡ true → ShowTheSame (next.seen i) (shown.seen i)
  node_shows node i has among = by (find (λ (b : Built). nat_eq b.number i) nodes) refl
    where
      rest : Part
      rest = cond (is_among (map entry_number change.gone) i) (part_of volume.store (inode_bytes free_inode)) (volume.parts i)

      is_there : find (λ (b : Built). nat_eq b.number i) nodes ≡ None → ⊥
      is_there none =
          let at = node_seated volume.num one.nodes old new image one.plan one.grant over.full.sound.whole node i has among in
          let number = number_at volume.num one.nodes old new image one.plan one.grant over.full.sound.whole at.0 at.1 at.2 in
          let same : number.0 ≡ i = some_same (sym number.2 ∙ ap commit.after at.3 ∙ has) in
          let built = map_there (λ (b : Built). b.number) nodes at.0 number.0 number.1 in
          found_there nodes built.0 i (there_is_in nodes at.0 built.0 built.1) (built.2 ∙ same) none

      by : (o : Option Built) → find (λ (b : Built). nat_eq b.number i) nodes ≡ o → ShowTheSame (next.seen i) (shown.seen i)
      by None e = absurd (is_there e)
      by (Some built) e =
          let number = eqb-true built.number i (found_passes (λ (b : Built). nat_eq b.number i) nodes built e) in
          subst (λ (p : Part). ShowTheSame (seen_of p) (shown.seen i))
          (sym (ap (λ (o : Option Built). option_map_or (part_made volume.store one.plan one.grant) o rest) e))
          (subst (λ n. ShowTheSame (seen_of (part_made volume.store one.plan one.grant built)) (shown.seen n)) number
          (built_shows built (found_is_in (λ (b : Built). nat_eq b.number i) nodes built e)))

  -- and that of any other one is as it was
  aside_part : (node i : ℕ) → is_among one.nodes node ≡ false → volume.num node ≡ Some i → parts_left volume one i ≡ volume.parts i
  aside_part node i aside has = by (find (λ (b : Built). nat_eq b.number i) nodes) refl
    where
      rest : Bool → Part
      rest gone = cond gone (part_of volume.store (inode_bytes free_inode)) (volume.parts i)

      -- a node that is concerned is another one
      other : (x : ℕ) → is_among one.nodes x ≡ true → x ≡ node → ⊥
      other x among same = true_not_false (sym among ∙ ap (is_among one.nodes) same ∙ aside)

      no_gone : is_among (map entry_number change.gone) i ≡ false
      no_gone = by_gone (is_among (map entry_number change.gone) i) refl
        where
          by_gone : (b : Bool) → is_among (map entry_number change.gone) i ≡ b → b ≡ false
          by_gone false e = refl
          by_gone true e =
              let entry = mapped_is_in entry_number change.gone i (among_is_in (map entry_number change.gone) i e) in
              let there = (kept_in (leaves one.plan.leave) one.plan.old entry.0 entry.1).0 in
              let own = planned.plans.old.own entry.0 there in
              absurd (other entry.0.node.0 own.1 (planned.ready.stands.once entry.0.node.0 node i ((planned.keeps.each entry.0 own.0).0 ∙ ap Some entry.2) has))

      by : (o : Option Built) → find (λ (b : Built). nat_eq b.number i) nodes ≡ o → parts_left volume one i ≡ volume.parts i
      by None e =
          ap (λ (o : Option Built). option_map_or (part_made volume.store one.plan one.grant) o (rest (is_among (map entry_number change.gone) i))) e
          ∙ ap rest no_gone
      by (Some built) e =
          let there = found_is_in (λ (b : Built). nat_eq b.number i) nodes built e in
          let number = eqb-true built.number i (found_passes (λ (b : Built). nat_eq b.number i) nodes built e) in
          let is : IsBuiltNode volume.num one.nodes old new image one.plan one.grant over.full built =
          node_built volume.num one.nodes old new image one.plan one.grant over.full built there in
          let next_is = next_stands volume one planned in
          let still = kept_number volume one planned node aside in
          absurd (other is.of.begun.node is.of.among (next_is.once is.of.begun.node node i (is.of.number ∙ ap Some (sym is.inode ∙ number)) (still ∙ has)))

  -- so it is a commit that leaves them
  pub commits : IsCommit commit old new image next
  commits = record {
    count = refl;
    nets = made.nets;
    numbers = made.numbers;
    built = λ node i has concerns.
        built_alike commit new node i (seen_before commit image node) (next.seen i) (shown.seen i) (node_shows node i has concerns)
        (made.built node i has concerns);
    stays = λ node i has aside.
        let stay = made.stays node i has aside in
        (stay.0, ap seen_of (aside_part node i aside stay.0), stay.2);
    rest = (plans_leave_parts volume.num one.nodes old new image one.plan one.grant volume.store volume.parts over clean.contents).rest;
    blocks = record {
      has = λ node i place low has concerns.
          block_alike commit new node i (seen_before commit image node) (next.seen i) (shown.seen i) (node_shows node i has concerns) place low
          (made.blocks.has node i place low has concerns);
      unheld = made.blocks.unheld;
      once = made.blocks.once;
    };
  }
    where
      made : IsCommit commit old new image shown
      made = (step volume.num one.nodes old new image one.plan one.grant over.full).commits
