-- What a plan rewrites of each node is what an fsync's need counts, whichever inodes it is granted.
use Rattle.std.proofs.Common.{◌≡◌, ℕ, ◌+◌, ◌*◌, ◌/◌, ◌<◌, Bool, true, false, cond, not, List, length, map, Option, Some, None, is_none, is_some, option_map, inl, inr, refl, sym, ap, subst, ◌∙◌, arith, nat_eq, Contains}
use Rattle.std.specs.Option.{option_map_or}
use borrow.Author.Tests.{eqb-true}
use Rattle.std.proofs.lemmas.Bool.{cond-true, cond-false}
use Rattle.std.proofs.lemmas.List.Elements.{Contains-append_cases}
use Rattle.sfs_base.proofs.BasicTruth.{true_not_false}
use Rattle.sfs_base.specs.declared.numbers.Kind.{Kind}
use Rattle.sfs_base.specs.declared.numbers.Kind.TheVariants.{File, Directory}
use Rattle.sfs_image.specs.Bytes.{nonzero_in}
use Rattle.sfs_image.specs.Seen.{Seen, SeenInodes, FILE_BLOCKS}
use Rattle.sfs_image.specs.Slot.{kind_byte, kind_of as kind_at}
use Rattle.sfs_image.proofs.Basics.{found_passes}
use Rattle.tree_laws.specs.Tree.{TreeState, kind_of, bytes_of, is_directory, is_directory_kind}
use Rattle.tree_laws.proofs.Readings.{directory_by_kind}
use Rattle.image_laws.specs.Commit.{blank, slots_after}
use Rattle.image_laws.specs.Need.{Rewrite, directory_rewrite, file_rewrite}
use Rattle.image_laws.specs.Renamed.{Numbering}
use Rattle.image_laws.specs.Stands.{ShowsNode}
use Rattle.image_laws.proofs.Images.{kind_again}
use Rattle.block_map.specs.declared.changed.ChangedBlock.{ChangedBlock}
use Rattle.disk_change.specs.AllBuilt.{pages_of_node}
use Rattle.disk_change.specs.Built.{rewrite_in}
use Rattle.disk_change.specs.Directory.{is_among}
use Rattle.keyed_list.specs.Ascending.{item_with}
use Rattle.disk_change.specs.Nodes.{file_node}
use Rattle.disk_change.specs.Pages.{page_block}
use Rattle.disk_change.specs.Planned.{Planned, leaves, staying, seated_old, seated_entering}
use Rattle.disk_change.specs.Seat.{page_said}
use Rattle.disk_change.specs.Seated.{Begun, Seated, seated, seated_as, begun_old, begun_entering, net_of_node}
use Rattle.disk_change.specs.declared.enter.Enter.{Enter}
use Rattle.disk_change.specs.declared.files.FileChange.{FileChange}
use Rattle.disk_nodes.specs.declared.old.OldEntry.{OldEntry}
use Rattle.disk_change.specs.declared.pages.Page.{Page}
use Rattle.commit_laws.specs.CommitOfPlan.{CommitPlan, change_planned, has_inode_then}
use Rattle.commit_laws.specs.KeptShown.{KeepsSeen}
use Rattle.commit_laws.specs.Rewritten.{SayTheSame, has_page}
use Rattle.commit_laws.specs.Shown.{size_given}
use Rattle.commit_laws.proofs.CommitOfPlan.{begun_pointers, no_pointers}
use Rattle.commit_laws.proofs.NumbersGiven.{kept_in}
use Rattle.commit_laws.proofs.OwnInodes.{mapped_is_in}
use Rattle.commit_laws.proofs.RewrittenBlocks.{change_said, page_bytes, block_zeros}
use Rattle.commit_laws.proofs.SeatsOfPlan.{stays_held, enters_held}
use Rattle.commit_laws.proofs.Shown.{found_is_in}
use Rattle.turn_laws.specs.Need.{stand_in}
use Rattle.turn_ties.proofs.Between.{IsPlanBetween, seen}
use Rattle.turn_ties.proofs.Directories.{Begins, directory_says}

-- the changes that have pages of the blocks that a test says, of the files that a plan concerns and that then have an inode
abbrev pub HasPagesOf : List ℕ → TreeState → CommitPlan → (ℕ → ℕ → Bool) → Type 0
HasPagesOf concerned new plan touched = (node n : ℕ) → is_among concerned node ≡ true → has_inode_then plan node ≡ true → is_directory new node ≡ false → n < FILE_BLOCKS
    → has_page plan.files node n ≡ touched node n

module _ (num : Numbering) (concerned : List ℕ) (old new : TreeState) (image : SeenInodes) (plan : CommitPlan)
    (is : IsPlanBetween num concerned old new image plan) where
  abbrev change : Planned
  change = change_planned plan

  abbrev seen_of_node : ℕ → Seen
  seen_of_node = seen num concerned old new image plan is

  -- what is rewritten of a node, by numbers that stand in, and where a test tells which blocks of files are touched
  abbrev pub rewrite_by : (ℕ → ℕ → Bool) → ℕ → Rewrite
  rewrite_by touched node = cond (is_directory new node)
      (directory_rewrite (seen_of_node node) (slots_after (stand_in image) new (net_of_node plan.nets node) (seen_of_node node).slots))
      (file_rewrite (touched node) (seen_of_node node) (bytes_of new node))

  old_had : (entry : OldEntry) → Contains plan.old entry → seen_of_node entry.node.0 ≡ image.seen entry.old.number
  old_had entry there = ap (λ (o : Option ℕ). option_map_or image.seen o blank) (is.from.numbered.old_numbers entry there)

  entering_had : (one : Enter) → Contains plan.enter one → seen_of_node one.node.0 ≡ blank
  entering_had one there = ap (λ (o : Option ℕ). option_map_or image.seen o blank) (is.from.numbered.enter_none one there)

  -- what a node begins with
  old_begins : (entry : OldEntry) → Contains plan.old entry → Begins old (seen_of_node entry.node.0) (begun_old entry)
  old_begins entry there = subst (λ (s : Seen). Begins old s (begun_old entry)) (sym (old_had entry there)) (record {
    kind = ap kind_at (shown.kind ∙ own.kind) ∙ kind_again (kind_of old entry.node.0);
    slots = shown.slots;
    blocks = shown.blocks;
    pointers = shown.pointers;
  })
    where
      shown : KeepsSeen entry.old.kept (image.seen entry.old.number)
      shown = is.from.shown entry there

      own : ShowsNode num old entry.node.0 (image.seen entry.old.number)
      own = is.stands.each entry.node.0 entry.old.number (is.from.numbered.old_numbers entry there)

  entering_begins : (one : Enter) → Contains plan.enter one → Begins old (seen_of_node one.node.0) (begun_entering one)
  entering_begins one there = subst (λ (s : Seen). Begins old s (begun_entering one)) (sym (entering_had one there)) (record {
    kind = is.to.kinds one there ∙ is.to.between.kinds one.node.0;
    slots = refl;
    blocks = λ block there. absurd (let within = there.1 in omega arith);
    pointers = λ place _. no_pointers one place;
  })

  -- the size that a file has before
  abbrev HasOldSize : Begun → Type 0
  HasOldSize begun = begun.kind ≡ File → begun.base.size ≡ length (bytes_of old begun.node)

  old_size : (entry : OldEntry) → Contains plan.old entry → HasOldSize (begun_old entry)
  old_size entry there file =
      shown.size ∙ own.size
      ∙ ap (λ k. cond (nat_eq k 2) (4096 * (length (image.seen entry.old.number).slots / 15)) (length (image.seen entry.old.number).bytes)) seen_file
      ∙ ap length own.bytes
    where
      shown : KeepsSeen entry.old.kept (image.seen entry.old.number)
      shown = is.from.shown entry there

      own : ShowsNode num old entry.node.0 (image.seen entry.old.number)
      own = is.stands.each entry.node.0 entry.old.number (is.from.numbered.old_numbers entry there)

      seen_file : (image.seen entry.old.number).kind ≡ kind_byte File
      seen_file = own.kind ∙ ap kind_byte (sym (kind_again (kind_of old entry.node.0)) ∙ ap kind_at (sym (shown.kind ∙ own.kind)) ∙ file)

  -- What a node of a plan begins with.
  record IsSeatOf (seat : Seated) : Type 0 where
    begun : Begun
    begins : seated change.changes begun ≡ seat
    among : is_among concerned begun.node ≡ true
    held : has_inode_then plan begun.node ≡ true
    shows : Begins old (seen_of_node begun.node) begun
    size : HasOldSize begun

  seat_is : (seat : Seated) → Contains change.seats seat → IsSeatOf seat
  seat_is seat there =
      let stays = map (seated_old change.changes) (staying plan.old plan.leave) in
      elim (Contains-append_cases stays (map (seated_entering change.changes) plan.enter) seat there) [
        | inl old_one ↦
            let entry = mapped_is_in (seated_old change.changes) (staying plan.old plan.leave) seat old_one in
            let kept = kept_in (λ e. not (leaves plan.leave e)) plan.old entry.0 entry.1 in
            let in_old = kept.0 in
            record {
              begun = begun_old entry.0;
              begins = entry.2;
              among = is.from.own entry.0 in_old;
              held = stays_held plan entry.0 in_old kept.1;
              shows = old_begins entry.0 in_old;
              size = old_size entry.0 in_old;
            }
        | inr enters ↦
            let one = mapped_is_in (seated_entering change.changes) plan.enter seat enters in
            record {
              begun = begun_entering one.0;
              begins = one.2;
              among = is.from.entering one.0 one.1;
              held = enters_held plan one.0 one.1;
              shows = entering_begins one.0 one.1;
              size = λ _. sym (ap length (is.sizes.entering one.0 one.1));
            }
      ]

  -- the size that a file gets
  size_is : (begun : Begun) → HasOldSize begun → has_inode_then plan begun.node ≡ true → begun.kind ≡ File → size_given change.changes begun ≡ length (bytes_of new begun.node)
  size_is begun size held file = by (item_with file_node begun.node plan.files) refl
    where
      by : (o : Option FileChange) → item_with file_node begun.node plan.files ≡ o
          → option_map_or (λ (one : FileChange). one.size) o begun.base.size ≡ length (bytes_of new begun.node)
      by None e = size file ∙ ap length (sym (is.sizes.others begun.node held e))
      by (Some one) e =
          let here = eqb-true (file_node one) begun.node (found_passes (λ item. nat_eq (file_node item) begun.node) plan.files one e) in
          is.sizes.changed one (found_is_in (λ item. nat_eq (file_node item) begun.node) plan.files one e) ∙ ap (λ n. length (bytes_of new n)) here

  module _ (touched : ℕ → ℕ → Bool) (tells : HasPagesOf concerned new plan touched) (seat : Seated) (of : IsSeatOf seat) where
    abbrev begun : Begun
    begun = of.begun

    abbrev own : Seen
    own = seen_of_node of.begun.node

    page_zero : (n : ℕ) (p : Option Page) → item_with page_block n (pages_of_node plan.files of.begun.node) ≡ p → is_some p ≡ true
        → option_map_or (λ (one : ChangedBlock). one.is_zero) (option_map page_said p) false ≡ is_none (nonzero_in (4096 * n) 4096 (bytes_of new of.begun.node))
    page_zero n None there some = absurd (true_not_false (sym some))
    page_zero n (Some page) there some =
        ap (λ bytes. is_none (nonzero_in 0 4096 bytes)) (page_bytes new plan is.pages of.begun.node n page there) ∙ block_zeros n (bytes_of new of.begun.node)

    some_mapped : (o : Option Page) → is_some (option_map page_said o) ≡ is_some o
    some_mapped None = refl
    some_mapped (Some page) = refl

    is_kind : (k : Kind) → begun.kind ≡ k → is_directory new of.begun.node ≡ is_directory_kind k
    is_kind k e = directory_by_kind new of.begun.node ∙ ap is_directory_kind (is.to.between.kinds of.begun.node ∙ sym of.shows.kind ∙ e)

    file_says : begun.kind ≡ File
        → SayTheSame (rewrite_in (seated_as File change.changes of.begun)) (file_rewrite (touched of.begun.node) own (bytes_of new of.begun.node))
    file_says kind = record {
      blocks = ap (λ n. (n + 4095) / 4096) (size_is of.begun of.size of.held kind);
      rewritten = λ n low.
          ap is_some (change_said (item_with file_node of.begun.node plan.files) n)
          ∙ some_mapped (item_with page_block n (pages_of_node plan.files of.begun.node))
          ∙ tells of.begun.node n of.among of.held (is_kind File kind) low;
      zero = λ n low rewritten.
          ap (λ (o : Option ChangedBlock). option_map_or (λ one. one.is_zero) o false) (change_said (item_with file_node of.begun.node plan.files) n)
          ∙ page_zero n (item_with page_block n (pages_of_node plan.files of.begun.node)) refl
          (tells of.begun.node n of.among of.held (is_kind File kind) low ∙ rewritten);
      pointers = λ place within. begun_pointers change.changes of.begun File place ∙ of.shows.pointers place within;
    }

    says_by_kind : (kind : Kind) → begun.kind ≡ kind
        → SayTheSame (rewrite_in (seated_as kind change.changes of.begun)) (rewrite_by touched (seated_as kind change.changes of.begun).node)
    says_by_kind Directory kind = subst (SayTheSame (rewrite_in (seated_as Directory change.changes of.begun)))
        (sym (cond-true (is_directory new of.begun.node)
        (directory_rewrite own (slots_after (stand_in image) new (net_of_node plan.nets of.begun.node) own.slots))
        (file_rewrite (touched of.begun.node) own (bytes_of new of.begun.node)) (is_kind Directory kind)))
        (directory_says num concerned old new image plan is of.begun of.shows kind)
    says_by_kind File kind = subst (SayTheSame (rewrite_in (seated_as File change.changes of.begun)))
        (sym (cond-false (is_directory new of.begun.node)
        (directory_rewrite own (slots_after (stand_in image) new (net_of_node plan.nets of.begun.node) own.slots))
        (file_rewrite (touched of.begun.node) own (bytes_of new of.begun.node)) (is_kind File kind)))
        (file_says kind)

    says : SayTheSame (rewrite_in seat) (rewrite_by touched seat.node)
    says = subst (λ (s : Seated). SayTheSame (rewrite_in s) (rewrite_by touched s.node)) of.begins (says_by_kind begun.kind refl)

  -- what is planned of each node says what its rewriting says
  pub seats_say : (touched : ℕ → ℕ → Bool) → HasPagesOf concerned new plan touched → (seat : Seated) → Contains change.seats seat
      → SayTheSame (rewrite_in seat) (rewrite_by touched seat.node)
  seats_say touched tells seat there = says touched tells seat (seat_is seat there)
