-- What stands beside imagined volumes along labels.
use Rattle.std.proofs.Common.{◌≡◌, ◌∙◌, ◌++◌, ◌∷◌, ◌≢◌, List, ℕ, [], map, inl, inr, sym, subst, ap, refl, nat_eq, true, Bool, not, false, arith, Contains}
use Rattle.std.proofs.lemmas.List.{map-append}
use Rattle.sfs_base.specs.declared.numbers.CoreId.{CoreId}
use Rattle.sfs_base.specs.Lists.{Roomy}
use Rattle.sfs_base.specs.Listed.{is_listed}
use Rattle.sfs_base.proofs.BasicNumbers.{same_number}
use Rattle.sfs_base.proofs.BasicTruth.{not_both, false_not_true}
use Rattle.sfs_image.specs.Super.{Layout}
use Rattle.space_map.specs.Space.{Space, GrantedNumbers}
use Rattle.tree_laws.specs.declared.turns.Turn.{Turn}
use Rattle.disk_nodes.specs.declared.old.OldEntry.{OldEntry}
use Rattle.commit_laws.proofs.SeatsOfPlan.{in_is_among}
use Rattle.cut_laws.specs.Rules.{IsOneOf}
use Rattle.cut_laws.proofs.Listed.{from_map, to_map}
use Rattle.cut_laws.proofs.RunFacts.{in_filter}
use Rattle.cut_laws.proofs.Basics.{in_left, in_right, in_either}
use Rattle.flush_laws.specs.Volume.{Volume}
use Rattle.flush_laws.specs.Ready.{KeepsEntries}
use Rattle.space_laws.specs.Map.{IsMapOf, WasGranted, WasReturned}
use Rattle.space_laws.proofs.Served.{grants_serve}
use Rattle.space_laws.proofs.Mapped.{grants_keep_maps, returns_keep_maps}
use Rattle.space_laws.proofs.Committed.{commits_keep_maps}
use Rattle.book_laws.specs.Imagined.{Imagines, entries_once, IsImagined, none_brought}
use Rattle.book_laws.specs.Brings.{Bringing, Brings}
use Rattle.book_laws.specs.Entries.{entries_behind}
use Rattle.book_laws.proofs.Kept.{entries_are_kept, once_more, with_those, planned_those, after_those}
use Rattle.book_laws.proofs.Imagined.{imagined_are_those, last_imagined, first_imagined}
use Rattle.book_laws.specs.Walk.{brought_under}
use Rattle.book_laws.specs.Pairs.{PairsBeside, bringing_under, commit_under, ArePairsApart}
use Rattle.book_laws.proofs.Ended.{Ending, ended, ended_beside, ended_imagines}
use Rattle.book_laws.proofs.Beside.{more_beside, fewer_beside}
use Rattle.book_laws.proofs.Walked.{standing_first}
use Rattle.book_laws.specs.Along.{EndsBringing}
use Rattle.reserve_laws.specs.Fits.{TellsPair}
use Rattle.reserve_laws.proofs.Fits.{told_reserve}
use Rattle.stamp_table.specs.declared.event.Event.{Event}
use Rattle.stamp_table.specs.declared.event.Event.TheVariants.{Told}
use Rattle.slot_laws.specs.Lasts.{Reserving, AreNumberedOnce}
use Rattle.slot_laws.specs.declared.label.Seen.{Seen}
use Rattle.slot_laws.specs.declared.label.Label.{Label}
use Rattle.slot_laws.specs.declared.label.Label.TheVariants as label
use Rattle.slot_laws.specs.Labels.{BoxPast, after_label}
use Rattle.slot_laws.specs.Nodes.{ReservedCommit, giving_up, commits_but, is_numbered_otherwise, commits_numbered, no_numbers}
use Rattle.slot_laws.specs.Grants.{IsOpenNumbered, EndsGrant, GivesGrantBack, TakesGrant, SpaceDoes}
use Rattle.slot_laws.specs.Rules.{ReservedRule}
use Rattle.slot_laws.proofs.NodesTold.{giving_number, reserving_knew}
use Rattle.slot_laws.proofs.Numbered.{find_split, at_seam}
use Rattle.slot_laws.proofs.GrantsHeld.{same_commit}
use Rattle.close_laws.specs.Maps.{Numbered, AreSameMaps, bringing_of, FreesAs, IsEmptyAs, ReservedAs, FitsBringing}
use Rattle.close_laws.specs.Beside.{BeginsLabels, stamps_under, TellsAt}
use Rattle.close_laws.proofs.Drawn.{Drawing, ends_from, returned_from, reserved_from}

module _ (layout : Layout) (start : Volume) (entries : List OldEntry) (named : Numbered) (first : Space)
    (begins : BeginsLabels layout start entries first) where
  -- By the stamps of the commits that are done and those that are open.
  pub record BesideSo (done opens : List ℕ) (space : Space) : Type 0 where
    pub volume : Volume
    pub imagines : Imagines start (brought_under named.pairs done) volume
    pub beside : (other : Volume) → Imagines start (brought_under named.pairs done) other → PairsBeside named.pairs done opens other
    pub right : IsMapOf layout (entries_once (brought_under named.pairs done) entries) space

  abbrev one_under : ℕ → Bringing
  one_under stamp = bringing_under named.pairs stamp

  imagined : (done : List ℕ) (volume : Volume) → Imagines start (brought_under named.pairs done) volume
      → IsImagined start (brought_under named.pairs done) volume
  imagined done volume imagines = imagined_are_those start volume (brought_under named.pairs done) begins.walk.stands imagines

  layout_at : (done : List ℕ) (volume : Volume) → Imagines start (brought_under named.pairs done) volume → volume.layout ≡ layout
  layout_at done volume imagines = (imagined done volume imagines).layout ∙ begins.layout_is

  kept_at : (done : List ℕ) (volume : Volume) → Imagines start (brought_under named.pairs done) volume
      → KeepsEntries volume.num volume.parts (entries_once (brought_under named.pairs done) entries)
  kept_at done volume imagines = entries_are_kept start volume (brought_under named.pairs done) entries begins.keeps imagines

  brought_more : (done : List ℕ) (own : ℕ) → brought_under named.pairs (done ++ own ∷ []) ≡ brought_under named.pairs done ++ one_under own ∷ []
  brought_more done own = map-append (bringing_under named.pairs) done (own ∷ [])

  module _ (done opens : List ℕ) (space next : Space) (so : BesideSo done opens space) where
    abbrev brought : List Bringing
    brought = brought_under named.pairs done

    pub reserve_step : (own : ℕ)
        → ((volume : Volume) → Imagines start brought volume → PairsBeside named.pairs done opens volume
        → TellsPair volume (map (commit_under named.pairs) done) (named.pairs own))
        → ((other : ℕ) → IsOneOf opens other → ArePairsApart (named.pairs own) (named.pairs other))
        → WasGranted (one_under own).plan space (one_under own).grant next → BesideSo done (opens ++ own ∷ []) next
    reserve_step own tells apart granted = record {
      volume = so.volume;
      imagines = so.imagines;
      beside = λ volume imagines.
          more_beside named.pairs volume done opens (opens ++ own ∷ []) own
          (λ stamp one. elim (in_either opens (own ∷ []) stamp one) [
            | inl old ↦ inr old
            | inr new ↦ elim new [ inl same ↦ inl (sym same) | inr never ↦ absurd never ]
          ])
          (told_reserve named.pairs volume done opens own (record {
            tells = tells volume imagines (so.beside volume imagines);
            serves = grants_serve volume (entries_once brought entries) (one_under own).plan space next (one_under own).grant
                (imagined done volume imagines).stands.between (kept_at done volume imagines)
                (subst (λ l. IsMapOf l (entries_once brought entries) space) (sym (layout_at done volume imagines)) so.right) granted;
            apart = apart;
          }))
          (so.beside volume imagines);
      right = grants_keep_maps layout (entries_once brought entries) (one_under own).plan space next (one_under own).grant so.right granted;
    }

    pub return_step : (fewer : List ℕ) (grant : GrantedNumbers) → ((stamp : ℕ) → IsOneOf fewer stamp → IsOneOf opens stamp) → WasReturned space grant next
        → BesideSo done fewer next
    return_step fewer grant within returned = record {
      volume = so.volume;
      imagines = so.imagines;
      beside = λ volume imagines. fewer_beside named.pairs volume done opens fewer within (so.beside volume imagines);
      right = returns_keep_maps layout (entries_once brought entries) space next grant so.right returned;
    }

    module _ (own : ℕ) (among : IsOneOf opens own) (rest : List ℕ) (within : (stamp : ℕ) → IsOneOf rest stamp → IsOneOf opens stamp × (stamp ≢ own)) where
      ending : (volume : Volume) (imagines : Imagines start brought volume) → Brings volume (one_under own) → Ending named.pairs
      ending volume imagines brings = record {
        volume = volume;
        done = done;
        opens = opens;
        own = own;
        among = among;
        stands = (imagined done volume imagines).stands;
        beside = so.beside volume imagines;
        brings = brings;
      }

      its : (volume : Volume) → Imagines start brought volume → Brings volume (one_under own)
      its volume imagines = ((so.beside volume imagines).opens own among).brings

      beside_then : (volume : Volume) → Imagines start (brought_under named.pairs (done ++ own ∷ [])) volume
          → PairsBeside named.pairs (done ++ own ∷ []) rest volume
      unfolding ending
      beside_then volume imagines =
          let last = last_imagined start volume (brought_under named.pairs (done ++ own ∷ [])) imagines brought (one_under own) (brought_more done own) in
          subst (PairsBeside named.pairs (done ++ own ∷ []) rest) (sym last.is)
          (ended_beside named.pairs (ending last.was last.imagines last.brings) rest within)

      right_then : EndsBringing (one_under own) space next → IsMapOf layout (entries_once (brought_under named.pairs (done ++ own ∷ [])) entries) next
      right_then ends =
          let volume = so.volume in
          let brings = its so.volume so.imagines in
          let keeps = kept_at done so.volume so.imagines in
          let layout_is = layout_at done so.volume so.imagines in
          subst (λ those. IsMapOf layout those next)
          (sym (ap (λ l. entries_once l entries) (brought_more done own) ∙ once_more brought (one_under own) entries))
          (subst (λ l. IsMapOf l (entries_behind (one_under own).nodes (one_under own).plan (one_under own).grant (entries_once brought entries)) next)
          layout_is
          (commits_keep_maps so.volume (with_those so.volume (one_under own) brings (entries_once brought entries) keeps)
          (entries_behind (one_under own).nodes (one_under own).plan (one_under own).grant (entries_once brought entries)) ends.tx space next
          (planned_those so.volume (one_under own) brings (entries_once brought entries) keeps)
          (after_those so.volume (one_under own) brings (entries_once brought entries) keeps)
          (subst (λ l. IsMapOf l (entries_once brought entries) space) (sym layout_is) so.right) ends.used))

      pub end_step : EndsBringing (one_under own) space next → BesideSo (done ++ own ∷ []) rest next
      unfolding ending
      end_step ends = record {
        volume = ended named.pairs (ending so.volume so.imagines (its so.volume so.imagines));
        imagines = ended_imagines named.pairs (ending so.volume so.imagines (its so.volume so.imagines)) start so.imagines;
        beside = beside_then;
        right = right_then ends;
      }

  pub first_so : BesideSo [] [] first
  first_so = record {
    volume = start;
    imagines = none_brought;
    beside = λ volume imagines.
        subst (PairsBeside named.pairs [] []) (sym (first_imagined start volume [] imagines refl)) (record {
          standing = standing_first (record { start = start; pairs = named.pairs; cores = λ stamp. 0 }) 0 0 begins.walk;
          opens = λ stamp one. absurd one;
          apart = λ stamp other one. absurd one;
        });
    right = begins.right;
  }

  module _ (before : ℕ) where
    abbrev At : List (Event Label) → BoxPast → List (Event Label) → Space → Type 0
    At = Drawing named layout before first

    abbrev Beside : BoxPast → Space → Type 0
    Beside past space = BesideSo (stamps_under named past.done) (stamps_under named past.opens) space

    module _ (done : List (Event Label)) (past : BoxPast) (core : CoreId) (rest : List (Event Label)) (space next : Space) (so : Beside past space) where
      abbrev Here : Label → Type 0
      Here fact = At done past (Told core fact ∷ rest) space

      abbrev There : Label → Type 0
      There fact = At (done ++ Told core fact ∷ []) (after_label layout core.0 fact past) rest next

      abbrev Then : Label → Type 0
      Then fact = Beside (after_label layout core.0 fact past) next

      same_map : AreSameMaps space space
      same_map = record { inodes = λ n. refl; blocks = λ n. refl }

      quiet : (opens : List ℕ) → opens ≡ stamps_under named past.opens → next ≡ space → BesideSo (stamps_under named past.done) opens next
      quiet opens same_opens same_space =
          subst (λ (p : List ℕ × Space). BesideSo (stamps_under named past.done) p.0 p.1) (λ i. (sym same_opens i, sym same_space i)) so

      giving_stamps : (number : ℕ) (numbers : GrantedNumbers) (opens : List ReservedCommit)
          → stamps_under named (map (giving_up number numbers) opens) ≡ stamps_under named opens
      giving_stamps number numbers [] = refl
      giving_stamps number numbers (one ∷ opens) =
          ap (λ (p : ℕ × List ℕ). named.stamps p.0 ∷ p.1) (λ i. (giving_number number numbers one i, giving_stamps number numbers opens i))

      -- the stamps of open commits with other numbers differ
      pub stamps_differ : (fact : Label) (at : Here fact) (one other : ReservedCommit) → IsOneOf past.opens one → IsOneOf past.opens other
          → one.number ≢ other.number
          → named.stamps one.number ≢ named.stamps other.number
      stamps_differ fact at one other among there apart same =
          apart (sym (at.opens.grants one among).made.number_is
          ∙ (ap (λ s. (commit_under named.pairs s).number) same ∙ (at.opens.grants other there).made.number_is))

      fewer_open : (number stamp : ℕ) → IsOneOf (stamps_under named (commits_but number past.opens)) stamp → IsOneOf (stamps_under named past.opens) stamp
      fewer_open number stamp one =
          let from = from_map (λ (c : ReservedCommit). named.stamps c.number) (commits_but number past.opens) stamp one in
          subst (IsOneOf (stamps_under named past.opens)) from.2
          (to_map (λ (c : ReservedCommit). named.stamps c.number) past.opens from.0
          (in_filter (is_numbered_otherwise number) past.opens from.0 from.1).0)

      others_open : (fact : Label) (at : Here fact) (number : ℕ) (own : IsOpenNumbered past.opens number) (stamp : ℕ)
          → IsOneOf (stamps_under named (commits_but number past.opens)) stamp
          → IsOneOf (stamps_under named past.opens) stamp × (stamp ≢ named.stamps own.commit.number)
      others_open fact at number own stamp one =
          let from = from_map (λ (c : ReservedCommit). named.stamps c.number) (commits_but number past.opens) stamp one in
          let was = in_filter (is_numbered_otherwise number) past.opens from.0 from.1 in (
            fewer_open number stamp one,
            λ same. stamps_differ fact at from.0 own.commit was.0 own.among
                (λ e. not_both (same_test (e ∙ own.number_is)) (not_is (nat_eq from.0.number number) was.1)) (from.2 ∙ same),
          )
        where
          same_test : {a b : ℕ} → a ≡ b → nat_eq a b ≡ true
          same_test {a} {b} same = subst (λ n. nat_eq a n ≡ true) same (same_number a)

          not_is : (b : Bool) → not b ≡ true → b ≡ false
          not_is true is = absurd (false_not_true is)
          not_is false is = refl

      -- the commit that ends is done then
      pub done_more : (number : ℕ) (own : IsOpenNumbered past.opens number) → AreNumberedOnce past.opens
          → stamps_under named (past.done ++ commits_numbered number past.opens) ≡ stamps_under named past.done ++ named.stamps own.commit.number ∷ []
      done_more number own once =
          ap (λ l. stamps_under named (past.done ++ l)) (elim (find_split number past.opens once) [
            | inl split ↦
                split.own
                ∙ ap (λ c. c ∷ []) (same_commit past.opens once split.one own.commit
                (subst (λ l. IsOneOf l split.one) (sym split.whole) (at_seam split.before split.behind split.one)) own.among
                (split.number_is ∙ sym own.number_is))
            | inr lacks ↦ absurd (lacks.none own.commit own.among own.number_is)
          ])
          ∙ map-append (λ (c : ReservedCommit). named.stamps c.number) past.done (own.commit ∷ [])

      ended_so : (fact : Label) (at : Here fact) (number : ℕ) (own : IsOpenNumbered past.opens number)
          → EndsBringing (bringing_of named own.commit.number) space next
          → BesideSo (stamps_under named (past.done ++ commits_numbered number past.opens)) (stamps_under named (commits_but number past.opens)) next
      ended_so fact at number own ends =
          subst (λ l. BesideSo l (stamps_under named (commits_but number past.opens)) next) (sym (done_more number own at.lasts.once))
          (end_step (stamps_under named past.done) (stamps_under named past.opens) space next so (named.stamps own.commit.number)
          (to_map (λ (c : ReservedCommit). named.stamps c.number) past.opens own.commit own.among) (stamps_under named (commits_but number past.opens))
          (others_open fact at number own) ends)

      settled_so : (k : ℕ) (turn : Turn) → Here (label.Settled k turn) → EndsGrant past.opens turn.commit space next → Then (label.Settled k turn)
      settled_so k turn at ends =
          let rule = at.owing.may.0.1 in
          let aloft = at.opens.aloft k rule.has.work rule.has.there rule.has.aloft in
          let number : ends.own.commit.number ≡ aloft.one.number = ends.own.number_is ∙ (rule.is.commit_is ∙ sym aloft.number_is) in
          let same_one : aloft.one ≡ ends.own.commit =
          same_commit past.opens at.lasts.once aloft.one ends.own.commit aloft.among ends.own.among (sym number) in
          let work_number : rule.has.work.commit ≡ ends.own.commit.number = sym (number ∙ aloft.number_is) in
          let frees : FreesAs (bringing_of named ends.own.commit.number) ends.own.commit.gives_up =
          subst (λ (p : ℕ × ReservedCommit). FreesAs (bringing_of named p.0) p.1.gives_up) (λ i. (work_number i, same_one i)) aloft.frees in
          ended_so (label.Settled k turn) at turn.commit ends.own
          (ends_from (bringing_of named ends.own.commit.number) ends.own.commit space space next (at.opens.grants ends.own.commit ends.own.among).grants frees
          same_map ends.inodes ends.blocks)

      empty_so : (commit : ℕ) (cut opened durable : Turn) → Here (label.Empty commit cut opened durable) → EndsGrant past.opens commit space next
          → IsEmptyAs (bringing_of named commit) → Then (label.Empty commit cut opened durable)
      empty_so commit cut opened durable at ends empty =
          let rule = at.owing.may.0.1 in
          let open_one = at.opens.reserved_open core.0 commit rule.number in
          let same_one : open_one.one ≡ ends.own.commit =
          same_commit past.opens at.lasts.once open_one.one ends.own.commit open_one.among ends.own.among (open_one.number_is ∙ sym ends.own.number_is) in
          let gives : FreesAs (bringing_of named ends.own.commit.number) ends.own.commit.gives_up =
          subst (λ (p : ℕ × GrantedNumbers). FreesAs (bringing_of named p.0) p.1)
          (λ i. (sym ends.own.number_is i, sym (ap (λ (o : ReservedCommit). o.gives_up) (sym same_one) ∙ open_one.gives) i)) empty.frees in
          ended_so (label.Empty commit cut opened durable) at commit ends.own
          (ends_from (bringing_of named ends.own.commit.number) ends.own.commit space space next (at.opens.grants ends.own.commit ends.own.among).grants gives
          same_map ends.inodes ends.blocks)

      returned_so : (commit : ℕ) → Here (label.Returned commit) → GivesGrantBack past.opens commit space next → Then (label.Returned commit)
      returned_so commit at back =
          return_step (stamps_under named past.done) (stamps_under named past.opens) space next so (stamps_under named (commits_but commit past.opens))
          (bringing_of named back.own.commit.number).grant (fewer_open commit)
          (returned_from (bringing_of named back.own.commit.number) past.opens commit space space next back
          (at.opens.grants back.own.commit back.own.among).grants same_map at.theirs)

      -- a commit that reserves is apart from those that are open
      reserved_apart : (commit : ℕ) (seen : Roomy Seen) (grant : GrantedNumbers) → Here (label.Reserved commit seen grant)
          → There (label.Reserved commit seen grant)
          → ReservedAs named commit seen.items grant → (other : ℕ) → IsOneOf (stamps_under named past.opens) other
          → ArePairsApart (named.pairs (named.stamps commit)) (named.pairs other)
      reserved_apart commit seen grant at then told other one =
          let from = from_map (λ (c : ReservedCommit). named.stamps c.number) past.opens other one in
          subst (λ s. ArePairsApart (named.pairs (named.stamps commit)) (named.pairs s)) from.2 (record {
            numbers = λ same. differs from.0 from.1 (sym (at.opens.grants from.0 from.1).made.number_is ∙ (same ∙ told.made.number_is));
            nodes = λ share.
                not_both (sym ((at.opens.grants from.0 from.1).made.holds share.node) ∙ share.two)
                ((reserving_knew past reserving at.lasts rule).none_open from.0 share.node from.1 (sym (told.made.holds share.node) ∙ share.one));
            inodes = λ i mine theirs.
                not_both (listed_in i (at.opens.grants from.0 from.1).grants.grant_is (λ g. g.inodes) theirs)
                (then.theirs.inodes.apart new from.0 i new_there (old_there from.0 from.1) (λ e. differs from.0 from.1 (sym e))
                (listed_in i told.grants.grant_is (λ g. g.inodes) mine));
            blocks = λ i mine theirs.
                not_both (listed_in i (at.opens.grants from.0 from.1).grants.grant_is (λ g. g.blocks) theirs)
                (then.theirs.blocks.apart new from.0 i new_there (old_there from.0 from.1) (λ e. differs from.0 from.1 (sym e))
                (listed_in i told.grants.grant_is (λ g. g.blocks) mine));
          })
        where
          rule : ReservedRule core.0 commit seen.items past
          rule = at.owing.may.0.1

          reserving : Reserving
          reserving = record { core = core; commit = commit; seen = seen; grant = grant }

          new : ReservedCommit
          new = record { number = commit; seen = seen.items; grant = grant; gives_up = no_numbers }

          new_there : IsOneOf (past.opens ++ new ∷ []) new
          new_there = in_right past.opens (new ∷ []) new (inl refl)

          old_there : (x : ReservedCommit) → IsOneOf past.opens x → IsOneOf (past.opens ++ new ∷ []) x
          old_there x among = in_left past.opens (new ∷ []) x among

          differs : (x : ReservedCommit) → IsOneOf past.opens x → x.number ≢ commit
          differs x among same = let low = at.lasts.given x among in let next_is = rule.next in omega (arith, low, next_is, same)

          listed_in : (i : ℕ) {one other : GrantedNumbers} → one ≡ other → (part : GrantedNumbers → List ℕ) → Contains (part one) i
              → is_listed (part other) i ≡ true
          listed_in i {one} {other} same part there = subst (λ g. is_listed (part g) i ≡ true) same (in_is_among (part one) i there)

      reserved_so : (commit : ℕ) (seen : Roomy Seen) (grant : GrantedNumbers) → Here (label.Reserved commit seen grant)
          → There (label.Reserved commit seen grant)
          → TakesGrant space grant next → ReservedAs named commit seen.items grant
          → TellsAt start named (Told core (label.Reserved commit seen grant)) past → Then (label.Reserved commit seen grant)
      reserved_so commit seen grant at then takes told tells =
          subst (λ l. BesideSo (stamps_under named past.done) l next)
          (sym (map-append (λ (c : ReservedCommit). named.stamps c.number) past.opens
          (record { number = commit; seen = seen.items; grant = grant; gives_up = no_numbers } ∷ [])))
          (reserve_step (stamps_under named past.done) (stamps_under named past.opens) space next so (named.stamps commit) tells
          (reserved_apart commit seen grant at then told)
          (reserved_from (bringing_of named commit) grant space space next told.grants same_map takes).taken)

      pub beside_label : (fact : Label) → Here fact → There fact → SpaceDoes (Told core fact) past space next → FitsBringing named (Told core fact)
          → TellsAt start named (Told core fact) past → Then fact
      beside_label label.Took at then does told tells = quiet (stamps_under named past.opens) refl does
      beside_label label.Gave at then does told tells = quiet (stamps_under named past.opens) refl does
      beside_label (label.Noted turn) at then does told tells = quiet (stamps_under named past.opens) refl does
      beside_label (label.Reserved commit seen grant) at then does told tells = reserved_so commit seen grant at then does told tells
      beside_label (label.Returned commit) at then does told tells = returned_so commit at does
      beside_label (label.Began filling commit node stamp blocks inodes) at then does told tells =
          quiet (stamps_under named (map (giving_up commit (record { inodes = inodes.items; blocks = blocks.items })) past.opens))
          (giving_stamps commit (record { inodes = inodes.items; blocks = blocks.items }) past.opens) does
      beside_label (label.Filled k piece done_so) at then does told tells = quiet (stamps_under named past.opens) refl does
      beside_label (label.Synced now) at then does told tells = quiet (stamps_under named past.opens) refl does
      beside_label (label.Opened k done_so cut opened) at then does told tells = quiet (stamps_under named past.opens) refl does
      beside_label (label.Settled k turn) at then does told tells = settled_so k turn at does
      beside_label (label.Learned turn) at then does told tells = quiet (stamps_under named past.opens) refl does
      beside_label (label.Placed k n done_so) at then does told tells = quiet (stamps_under named past.opens) refl does
      beside_label (label.Shut k done_so) at then does told tells = quiet (stamps_under named past.opens) refl does
      beside_label (label.Idled k) at then does told tells = quiet (stamps_under named past.opens) refl does
      beside_label (label.Empty commit cut opened durable) at then does told tells = empty_so commit cut opened durable at does told
