-- What the labels so far come to in the parts on the disk, and that each commit began where it may.
use Rattle.std.proofs.Common.{◌++◌, ◌≡◌, ◌∷◌, ◌≢◌, ◌∙◌, ◌<◌, ℕ, List, [], refl, Contains, All, get_or, ap, subst, sym, map, slice_index_or, find, nat_eq, eqb-true, Some, Bool}
use Rattle.std.proofs.lemmas.List.Elements.{Contains-get_or, All-append, All-cons, All-nil}
use Rattle.std.proofs.lemmas.List.{map-append}
use Rattle.sfs_base.specs.declared.numbers.CoreId.{CoreId}
use Rattle.sfs_base.specs.declared.numbers.NodeId.{NodeId}
use Rattle.sfs_base.specs.declared.numbers.Stamp.{Stamp}
use Rattle.sfs_base.specs.Lists.{Roomy}
use Rattle.sfs_image.specs.ImageOf.{InodePart, PointsToData, TurnsInto}
use Rattle.sfs_image.specs.Part.{Part, pointer_at}
use Rattle.sfs_image.specs.Super.{Layout}
use Rattle.sfs_image.specs.Settled.{Stamped}
use Rattle.sfs_image.proofs.Basics.{found_passes}
use Rattle.journal_one.specs.Job.{Job, Place, no_block}
use Rattle.journal_one.specs.declared.slot.Filling.{Filling}
use Rattle.commit_one.specs.Change.{IsChangeOf, entry_of_part}
use Rattle.space_map.specs.Space.{Space}
use Rattle.tree_laws.specs.declared.turns.TurnAct.TheVariants as act
use Rattle.tree_laws.specs.declared.turns.Turn.{Turn}
use Rattle.tree_laws.specs.declared.turns.TurnAct.{TurnAct}
use Rattle.disk_nodes.specs.declared.old.OldEntry.{OldEntry}
use Rattle.commit_laws.proofs.Shown.{found_is_in}
use Rattle.cut_laws.specs.Rules.{IsOneOf}
use Rattle.cut_laws.specs.Closure.{Flush}
use Rattle.cut_laws.proofs.Listed.{to_map}
use Rattle.flush_laws.specs.Volume.{Volume, OneFsync}
use Rattle.flush_laws.specs.Planned.{IsPlannedFsync}
use Rattle.flush_laws.specs.Journal.{parts_brought, WritesPlan}
use Rattle.flush_laws.proofs.Journal.{jobs_show_commits}
use Rattle.book_laws.specs.Brings.{Bringing, brought_by, BringApart}
use Rattle.book_laws.specs.Pairs.{IsOpenBeside, commit_under, bringing_under}
use Rattle.book_laws.specs.Walk.{brought_under}
use Rattle.book_laws.proofs.Ended.{bring_apart}
use Rattle.stamp_table.specs.declared.event.Event.{Event}
use Rattle.stamp_table.specs.declared.event.Event.TheVariants.{Told}
use Rattle.slot_laws.specs.declared.label.Label.{Label}
use Rattle.slot_laws.specs.declared.label.Label.TheVariants as label
use Rattle.slot_laws.specs.Labels.{BoxPast, BegunCommit, after_label, fsync_told}
use Rattle.slot_laws.specs.Slots.{place_at, begun_work, SlotWork}
use Rattle.slot_laws.specs.Rules.{BeganRule}
use Rattle.slot_laws.specs.Nodes.{ReservedCommit}
use Rattle.slot_laws.specs.Grants.{EndsGrant, SpaceDoes}
use Rattle.slot_laws.proofs.Basics.{mapped_some}
use Rattle.slot_image_laws.specs.Images.{DiskBooks, book_act, RunStart, disk_books}
use Rattle.slot_image_laws.specs.Commits.{parts_over, IsCommitAt, IsCommitJob, TurnsParts, BlocksApart}
use Rattle.slot_image_laws.proofs.Trails.{books_more}
use Rattle.imagined_laws.specs.Parts.{parts_once, ShowsBrought}
use Rattle.imagined_laws.proofs.Parts.{imagined_show}
use Rattle.close_laws.specs.Maps.{Numbered, bringing_of, BeginsAs, IsEmptyAs, FitsBringing}
use Rattle.close_laws.specs.Beside.{BeginsLabels, brought_at, stamps_under}
use Rattle.close_laws.proofs.Walking.{BesideSo, stamps_differ, done_more}
use Rattle.close_laws.proofs.Drawn.{Drawing}
use Rattle.close_laws.proofs.Fsyncs.{part_low, AreBeside, fresh_apart, reached_apart, jobs_apart}
use Rattle.close_laws.proofs.Opens.{ReservedOpen, AloftOpen}

-- a turn that does not make a commit durable leaves the parts
base_stays : (gives : ℕ → List InodePart) (did : TurnAct) (commit : ℕ) (books : DiskBooks) → did ≢ act.Durable → (book_act gives did commit books).base
    ≡ books.base
base_stays gives act.Durable commit books away = absurd (away refl)
base_stays gives act.Opened commit books away = refl
base_stays gives act.Granted commit books away = refl
base_stays gives act.GivenBack commit books away = refl
base_stays gives (act.Short kind asked have) commit books away = refl
base_stays gives act.CutAt commit books away = refl
base_stays gives act.Fail commit books away = refl
base_stays gives act.Halted commit books away = refl

once_push : (brought : List Bringing) (one : Bringing) (base : ℕ → Part) → parts_once (brought ++ one ∷ []) base
    ≡ parts_over one.parts (parts_once brought base)
once_push [] one base = refl
once_push (first ∷ brought) one base = once_push brought one (parts_over first.parts base)

-- all of a list, by what is so of each
all_through : {X : Type 0} (P Q : X → Type 0) (xs : List X) → ((x : X) → Contains xs x → P x → Q x) → All P xs → All Q xs
all_through P Q xs each all i d within = each (get_or xs i d) (Contains-get_or xs i d within) (all i d within)

module _ (layout : Layout) (start : Volume) (entries : List OldEntry) (named : Numbered) (first : Space) (begins : BeginsLabels layout start entries first)
    (moment : ℕ) (before : ℕ) where
  abbrev run : RunStart
  run = record { layout = layout; moment = moment; parts = start.parts; gives = λ number. (bringing_of named number).parts }

  abbrev gives : ℕ → List InodePart
  gives number = (bringing_of named number).parts

  -- What the labels so far come to: the parts by the turns, and that each commit began where it may.
  pub record BooksSo (past : BoxPast) : Type 0 where
    pub base : (disk_books run past.turns).base ≡ parts_once (brought_at named past) start.parts
    pub begun : All (λ (one : BegunCommit). IsCommitAt gives layout (disk_books run one.turns).base one.slots one.work) past.begun
    pub empties : All (λ (commit : ℕ). gives commit ≡ []) past.empties

  module _ (done : List (Event Label)) (past : BoxPast) (core : CoreId) (rest : List (Event Label)) (space : Space) (books : BooksSo past)
      (so : BesideSo layout start entries named first begins (stamps_under named past.done) (stamps_under named past.opens) space) where
    abbrev Here : Label → Type 0
    Here fact = Drawing named layout before first done past (Told core fact ∷ rest) space

    abbrev Then : Label → Type 0
    Then fact = BooksSo (after_label layout core.0 fact past)

    abbrev volume : Volume
    volume = so.volume

    shows : ShowsBrought start (brought_at named past) volume
    shows = imagined_show start volume (brought_at named past) begins.spelled so.imagines

    layout_is : volume.layout ≡ layout
    layout_is = shows.layout ∙ begins.layout_is

    base_at : (i : ℕ) → i < layout.inodes → (disk_books run past.turns).base i ≡ volume.parts i
    base_at i within =
        ap (λ f. f i) books.base ∙ shows.parts i (subst (λ (l : Layout). i < l.inodes) (sym begins.layout_is) within)

    -- the commit with a number, which is open
    module _ (number : ℕ) (among : IsOneOf (stamps_under named past.opens) (named.stamps number)) where
      open_beside : IsOpenBeside volume (map (commit_under named.pairs) (stamps_under named past.done)) (named.pairs (named.stamps number))
      open_beside = (so.beside volume so.imagines).opens (named.stamps number) among

      abbrev fsync_of : OneFsync
      fsync_of = brought_by (bringing_of named number) open_beside.brings

      planned_of : IsPlannedFsync volume fsync_of
      planned_of = open_beside.brings.planned

      own_low : (own : InodePart) → Contains (parts_brought volume fsync_of) own → own.inode < layout.inodes
      own_low own there = subst (λ (l : Layout). own.inode < l.inodes) layout_is (part_low volume fsync_of planned_of own there)

      module _ (job : Job) (k : ℕ) (place : job.place ≡ place_at layout k)
          (writes : WritesPlan (bringing_of named number).plan (bringing_of named number).grant job)
        where
          change : IsChangeOf job volume.parts (parts_brought volume fsync_of)
          change =
              (jobs_show_commits volume fsync_of job 0 (record {
                planned = planned_of;
                spelled = shows.spelled;
                layout = ap (λ (p : Place). p.layout) place ∙ sym layout_is;
                writes = writes;
              })).change

          job_layout : job.place.layout ≡ layout
          job_layout = ap (λ (p : Place). p.layout) place

          commit_job : (flush : Flush) → IsCommitJob gives layout (begun_work job number flush)
          commit_job flush = record {
            records = ap (map entry_of_part) (sym open_beside.brings.parts) ∙ change.records;
            pointers = subst (All (λ (own : InodePart). PointsToData layout own.part)) open_beside.brings.parts
                (subst (λ l. All (λ (own : InodePart). PointsToData l own.part) (parts_brought volume fsync_of)) job_layout change.pointers);
            own = change.own;
          }

          turns_parts : (flush : Flush) → TurnsParts gives layout (disk_books run past.turns).base (begun_work job number flush)
          turns_parts flush = record {
            turns = subst (All (λ (own : InodePart). TurnsInto job.fresh ((disk_books run past.turns).base own.inode) own.part)) open_beside.brings.parts
                (all_through (λ (own : InodePart). TurnsInto job.fresh (volume.parts own.inode) own.part)
                (λ (own : InodePart). TurnsInto job.fresh ((disk_books run past.turns).base own.inode) own.part) (parts_brought volume fsync_of)
                (λ own there turns. subst (λ p. TurnsInto job.fresh p own.part) (sym (base_at own.inode (own_low own there))) turns) change.turns);
            free = λ i at n within low some.
                subst (λ p. (slice_index_or job.fresh n no_block).block ≢ pointer_at p at) (sym (base_at i within))
                (change.free i at n (subst (λ (l : Layout). i < l.inodes) (sym job_layout) within) low
                (subst (λ p. pointer_at p at ≢ 0) (base_at i within) some));
          }

    -- two open commits of other numbers
    module _ (mine theirs : ℕ) (one : IsOneOf (stamps_under named past.opens) (named.stamps mine))
        (two : IsOneOf (stamps_under named past.opens) (named.stamps theirs))
        (differ : named.stamps mine ≢ named.stamps theirs) where
      apart_so : BringApart (bringing_of named mine) (bringing_of named theirs)
      apart_so =
          bring_apart (named.pairs (named.stamps mine)) (named.pairs (named.stamps theirs)) (open_beside mine one).nodes (open_beside theirs two).nodes
          ((so.beside volume so.imagines).apart (named.stamps mine) (named.stamps theirs) one two differ)

      are_beside : AreBeside volume (fsync_of mine one) (fsync_of theirs two)
      are_beside = record {
        one = planned_of mine one;
        two = planned_of theirs two;
        nodes = apart_so.nodes;
        inodes = apart_so.inodes;
        blocks = apart_so.blocks;
      }

      blocks_apart : (work other : SlotWork) → work.commit ≡ mine → other.commit ≡ theirs
          → WritesPlan (bringing_of named mine).plan (bringing_of named mine).grant work.job
          → WritesPlan (bringing_of named theirs).plan (bringing_of named theirs).grant other.job → BlocksApart gives work other
      blocks_apart work other is also writes writes_too = record {
        blocks = λ n m within low. fresh_apart volume (fsync_of mine one) (fsync_of theirs two) are_beside work.job other.job writes writes_too n m within low;
        reached = λ n i at part within given some.
            let own = mapped_some (λ (own : InodePart). record { stamp = other.job.stamp; value = own.part })
            (find (λ (own : InodePart). nat_eq own.inode i) (gives other.commit))
            (record { stamp = other.job.stamp; value = part }) given in
            let there : Contains (gives other.commit) own.0 = found_is_in (λ (own : InodePart). nat_eq own.inode i) (gives other.commit) own.0 own.1 in
            let inode : own.0.inode ≡ i = eqb-true own.0.inode i (found_passes (λ (own : InodePart). nat_eq own.inode i) (gives other.commit) own.0 own.1) in
            let same : own.0.part ≡ part = ap (λ (s : Stamped Part). s.value) own.2 in
            subst (λ p. (slice_index_or work.job.fresh n no_block).block ≢ pointer_at p at) same
            (reached_apart volume (fsync_of mine one) (fsync_of theirs two) are_beside work.job writes n i at own.0 within
            (subst (λ l. Contains l own.0) (ap gives also ∙ sym (open_beside theirs two).brings.parts) there) inode
            (subst (λ p. pointer_at p at ≢ 0) (sym same) some));
      }

    -- the commit that begins, and others in slots
    began_at : (filling : Filling) (commit : ℕ) (node : NodeId) (stamp : Stamp) (blocks : Roomy ℕ) (inodes : Roomy ℕ)
        → Here (label.Began filling commit node stamp blocks inodes)
        → BeginsAs (bringing_of named commit) filling.job (record { inodes = inodes.items; blocks = blocks.items })
        → IsCommitAt gives layout (disk_books run past.turns).base past.slots (begun_work filling.job commit (fsync_told node stamp))
    began_at filling commit node stamp blocks inodes at begins_as = record {
      commit = commit_job commit mine_there filling.job filling.job.place.slot rule.place begins_as.writes (fsync_told node stamp);
      parts = turns_parts commit mine_there filling.job filling.job.place.slot rule.place begins_as.writes (fsync_told node stamp);
      inodes = λ k other there aloft share.
          let theirs = at.opens.aloft k other there aloft in
          jobs_apart volume (fsync_of commit mine_there) (fsync_of other.commit (there_of other theirs))
          (are_beside commit other.commit mine_there (there_of other theirs) (differs k other there theirs)) filling.job other.job begins_as.writes
          theirs.writes share;
      blocks = λ k other there aloft.
          let theirs = at.opens.aloft k other there aloft in (
            blocks_apart commit other.commit mine_there (there_of other theirs) (differs k other there theirs)
                (begun_work filling.job commit (fsync_told node stamp)) other refl refl begins_as.writes theirs.writes,
            blocks_apart other.commit commit (there_of other theirs) mine_there (λ e. differs k other there theirs (sym e)) other
                (begun_work filling.job commit (fsync_told node stamp)) refl refl theirs.writes begins_as.writes,
          );
    }
      where
        rule : BeganRule layout core.0 filling.job commit past
        rule = at.owing.may.0.1

        mine : ReservedOpen named past.opens commit (at.owing.own core.0).granted
        mine = at.opens.reserved_open core.0 commit rule.number

        mine_there : IsOneOf (stamps_under named past.opens) (named.stamps commit)
        mine_there =
            subst (λ n. IsOneOf (stamps_under named past.opens) (named.stamps n)) mine.number_is
            (to_map (λ (c : ReservedCommit). named.stamps c.number) past.opens mine.one mine.among)

        there_of : (other : SlotWork) → AloftOpen named past.opens other → IsOneOf (stamps_under named past.opens) (named.stamps other.commit)
        there_of other theirs =
            subst (λ n. IsOneOf (stamps_under named past.opens) (named.stamps n)) theirs.number_is
            (to_map (λ (c : ReservedCommit). named.stamps c.number) past.opens theirs.one theirs.among)

        differs : (k : ℕ) (other : SlotWork) → past.slots k ≡ Some other → AloftOpen named past.opens other → named.stamps commit ≢ named.stamps other.commit
        differs k other there theirs same =
            stamps_differ layout start entries named first begins before done past core rest space space so
            (label.Began filling commit node stamp blocks inodes) at mine.one theirs.one mine.among theirs.among
            (λ e. at.fits.numbers.unused core.0 commit k other rule.number there (sym theirs.number_is ∙ (sym e ∙ mine.number_is)))
            (ap named.stamps mine.number_is ∙ (same ∙ ap named.stamps (sym theirs.number_is)))

    quiet_books : (later : BoxPast) → later.turns ≡ past.turns → later.done ≡ past.done → later.begun ≡ past.begun → later.empties ≡ past.empties
        → BooksSo later
    quiet_books later turns done_is begun_is empties = record {
      base = ap (λ t. (disk_books run t).base) turns
          ∙ (books.base ∙ ap (λ d. parts_once (brought_under named.pairs (stamps_under named d)) start.parts) (sym done_is));
      begun = subst (All (λ (one : BegunCommit). IsCommitAt gives layout (disk_books run one.turns).base one.slots one.work)) (sym begun_is) books.begun;
      empties = subst (All (λ (commit : ℕ). gives commit ≡ [])) (sym empties) books.empties;
    }

    noted_books : (turn : Turn) → Here (label.Noted turn) → Then (label.Noted turn)
    noted_books turn at = record {
      base = ap (λ (b : DiskBooks). b.base) (books_more gives past.turns (turn ∷ []) (record { base = start.parts; flying = [] }))
          ∙ (base_stays gives turn.act turn.commit (disk_books run past.turns) at.owing.may.0.1.no_durable ∙ books.base);
      begun = books.begun;
      empties = books.empties;
    }

    opened_books : (k : ℕ) (done_so : Bool) (cut opened : Turn) → Here (label.Opened k done_so cut opened) → Then (label.Opened k done_so cut opened)
    opened_books k done_so cut opened at =
        let rule = at.owing.may.0.1 in
        let no_end : (did : TurnAct) (turn : Turn) → turn.act ≡ did → did ≢ act.Durable → turn.act ≢ act.Durable = λ did turn is away e. away (sym is ∙ e) in
        record {
          base = ap (λ (b : DiskBooks). b.base) (books_more gives past.turns (cut ∷ opened ∷ []) (record { base = start.parts; flying = [] }))
              ∙ (base_stays gives opened.act opened.commit (book_act gives cut.act cut.commit (disk_books run past.turns))
              (no_end act.Opened opened rule.opened_is.did_is (λ e. cc e))
              ∙ (base_stays gives cut.act cut.commit (disk_books run past.turns) (no_end act.CutAt cut rule.cut_is.did_is (λ e. cc e)) ∙ books.base));
          begun = books.begun;
          empties = books.empties;
        }

    -- a commit that becomes durable
    ended_base : (number commit : ℕ) (turn : Turn) → turn.act ≡ act.Durable → turn.commit ≡ commit → number ≡ commit → (was : DiskBooks) → was.base
        ≡ (disk_books run past.turns).base
        → (book_act gives turn.act turn.commit was).base
        ≡ parts_once (brought_under named.pairs (stamps_under named past.done ++ named.stamps number ∷ [])) start.parts
    ended_base number commit turn did of same was base =
        ap (λ (p : TurnAct × ℕ). (book_act gives p.0 p.1 was).base) (λ i. (did i, (of ∙ sym same) i))
        ∙ (ap (parts_over (gives number)) (base ∙ books.base)
        ∙ (sym (once_push (brought_at named past) (bringing_of named number) start.parts)
        ∙ ap (λ l. parts_once l start.parts) (sym (map-append (bringing_under named.pairs) (stamps_under named past.done) (named.stamps number ∷ [])))))

    settled_books : (k : ℕ) (turn : Turn) (next : Space) → Here (label.Settled k turn) → EndsGrant past.opens turn.commit space next
        → Then (label.Settled k turn)
    settled_books k turn next at ends =
        record {
          base = ap (λ (b : DiskBooks). b.base) (books_more gives past.turns (turn ∷ []) (record { base = start.parts; flying = [] }))
              ∙ (ended_base ends.own.commit.number turn.commit turn at.owing.may.0.1.is.did_is refl ends.own.number_is (disk_books run past.turns) refl
              ∙ ap (λ l. parts_once (brought_under named.pairs l) start.parts)
              (sym (done_more layout start entries named first begins before done past core rest space space so turn.commit ends.own at.lasts.once)));
          begun = books.begun;
          empties = books.empties;
        }

    empty_books : (commit : ℕ) (cut opened durable : Turn) (next : Space) → Here (label.Empty commit cut opened durable)
        → EndsGrant past.opens commit space next
        → IsEmptyAs (bringing_of named commit) → Then (label.Empty commit cut opened durable)
    empty_books commit cut opened durable next at ends empty =
        let rule = at.owing.may.0.1 in
        let no_end : (did : TurnAct) (turn : Turn) → turn.act ≡ did → did ≢ act.Durable → turn.act ≢ act.Durable = λ did turn is away e. away (sym is ∙ e) in
        let begun_books = book_act gives cut.act cut.commit (disk_books run past.turns) in
        let opened_books = book_act gives opened.act opened.commit begun_books in
        let base : opened_books.base ≡ (disk_books run past.turns).base =
        base_stays gives opened.act opened.commit begun_books (no_end act.Opened opened rule.opened_is.did_is (λ e. cc e))
        ∙ base_stays gives cut.act cut.commit (disk_books run past.turns) (no_end act.CutAt cut rule.cut_is.did_is (λ e. cc e)) in
        record {
          base = ap (λ (b : DiskBooks). b.base) (books_more gives past.turns (cut ∷ opened ∷ durable ∷ []) (record { base = start.parts; flying = [] }))
              ∙ (ended_base ends.own.commit.number commit durable rule.durable_is.did_is rule.durable_is.commit_is ends.own.number_is opened_books base
              ∙ ap (λ l. parts_once (brought_under named.pairs l) start.parts)
              (sym (done_more layout start entries named first begins before done past core rest space space so commit ends.own at.lasts.once)));
          begun = books.begun;
          empties = All-append (λ (c : ℕ). gives c ≡ []) past.empties (commit ∷ []) books.empties
              (All-cons (λ (c : ℕ). gives c ≡ []) commit [] empty.gives (All-nil (λ (c : ℕ). gives c ≡ [])));
        }

    began_books : (filling : Filling) (commit : ℕ) (node : NodeId) (stamp : Stamp) (blocks : Roomy ℕ) (inodes : Roomy ℕ)
        → Here (label.Began filling commit node stamp blocks inodes)
        → BeginsAs (bringing_of named commit) filling.job (record { inodes = inodes.items; blocks = blocks.items })
        → Then (label.Began filling commit node stamp blocks inodes)
    began_books filling commit node stamp blocks inodes at begins_as = record {
      base = books.base;
      begun = All-append (λ (one : BegunCommit). IsCommitAt gives layout (disk_books run one.turns).base one.slots one.work) past.begun
          (record { turns = past.turns; slots = past.slots; work = begun_work filling.job commit (fsync_told node stamp) } ∷ []) books.begun
          (All-cons (λ (one : BegunCommit). IsCommitAt gives layout (disk_books run one.turns).base one.slots one.work)
          (record { turns = past.turns; slots = past.slots; work = begun_work filling.job commit (fsync_told node stamp) }) []
          (began_at filling commit node stamp blocks inodes at begins_as)
          (All-nil (λ (one : BegunCommit). IsCommitAt gives layout (disk_books run one.turns).base one.slots one.work)));
      empties = books.empties;
    }

    pub books_label : (fact : Label) (next : Space) → Here fact → SpaceDoes (Told core fact) past space next → FitsBringing named (Told core fact) → Then fact
    books_label label.Took next at does told = quiet_books (after_label layout core.0 label.Took past) refl refl refl refl
    books_label label.Gave next at does told = quiet_books (after_label layout core.0 label.Gave past) refl refl refl refl
    books_label (label.Noted turn) next at does told = noted_books turn at
    books_label (label.Reserved commit seen grant) next at does told =
        quiet_books (after_label layout core.0 (label.Reserved commit seen grant) past) refl refl refl refl
    books_label (label.Returned commit) next at does told = quiet_books (after_label layout core.0 (label.Returned commit) past) refl refl refl refl
    books_label (label.Began filling commit node stamp blocks inodes) next at does told = began_books filling commit node stamp blocks inodes at told
    books_label (label.Filled k piece done_so) next at does told =
        quiet_books (after_label layout core.0 (label.Filled k piece done_so) past) refl refl refl refl
    books_label (label.Synced now) next at does told = quiet_books (after_label layout core.0 (label.Synced now) past) refl refl refl refl
    books_label (label.Opened k done_so cut opened) next at does told = opened_books k done_so cut opened at
    books_label (label.Settled k turn) next at does told = settled_books k turn next at does
    books_label (label.Learned turn) next at does told = quiet_books (after_label layout core.0 (label.Learned turn) past) refl refl refl refl
    books_label (label.Placed k n done_so) next at does told = quiet_books (after_label layout core.0 (label.Placed k n done_so) past) refl refl refl refl
    books_label (label.Shut k done_so) next at does told = quiet_books (after_label layout core.0 (label.Shut k done_so) past) refl refl refl refl
    books_label (label.Idled k) next at does told = quiet_books (after_label layout core.0 (label.Idled k) past) refl refl refl refl
    books_label (label.Empty commit cut opened durable) next at does told = empty_books commit cut opened durable next at does told
