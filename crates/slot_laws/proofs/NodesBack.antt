-- A commit that gives back leaves each of its nodes the last commit that it had; and the labels are a record of the box.
use Rattle.std.specs.Prelude.{map}
use Rattle.std.proofs.Common.{◌≡◌, ◌∷◌, ◌∙◌, ◌++◌, List, ℕ, subst, inl, inr, ap, [], Option, sym, false, arith, append-nil, true, Some, refl}
use Rattle.std.proofs.lemmas.List.{map-append}
use Rattle.sfs_base.specs.declared.numbers.CoreId.{CoreId}
use Rattle.sfs_base.proofs.BasicOptions.{none_of}
use Rattle.sfs_base.proofs.BasicTruth.{not_both}
use Rattle.sfs_image.specs.Super.{Layout}
use Rattle.space_map.specs.Space.{GrantedNumbers}
use Rattle.cut_laws.specs.Rules.{IsOneOf}
use Rattle.cut_laws.proofs.Basics.{in_either, in_left, in_right}
use Rattle.cut_laws.proofs.Listed.{from_map, to_map}
use Rattle.cut_laws.proofs.RunFacts.{in_filter}
use Rattle.beside_laws.specs.Commits.{CoreCommit}
use Rattle.beside_laws.specs.Box.{nobody, somebody, KnewLast, BoxGoesOn, NO_COMMIT, ends, gives_back, IsUnmoved, reserves, here}
use Rattle.stamp_table.specs.declared.event.Event.{Event}
use Rattle.stamp_table.specs.declared.event.Event.TheVariants.{Told, Called}
use Rattle.slot_laws.specs.Nodes.{ReservedCommit, LastCommit, returned_lasts, commits_numbered, returned_last, last_seen, commits_but, is_numbered_otherwise, is_numbered, giving_up, no_numbers}
use Rattle.slot_laws.specs.declared.label.Seen.{Seen}
use Rattle.slot_laws.specs.Lasts.{AreNumberedOnce, ReturnsRestore, told_reserving, IsMadeAs, NamesLast, held_by_none, held_last_by, box_of, Reserving, KnewItsNodes, AreMadeBy, LabelsKeepTheBox}
use Rattle.slot_laws.specs.Labels.{first_past, past_from, BoxPast, with_end, after_label}
use Rattle.slot_laws.specs.declared.label.Label.{Label}
use Rattle.slot_laws.specs.declared.label.Label.TheVariants as label
use Rattle.slot_laws.specs.Rules.{MayFrom, MayLabel}
use Rattle.slot_laws.proofs.NodesTold.{IsOpenAs, may_parts, reserving_at, first_lasts, lasts_from, past_parts, LastsOf, giving_number, giving_seen, reserving_knew, lasts_label, still_open}
use Rattle.slot_laws.proofs.Numbered.{SplitAt, find_split}
use Rattle.slot_laws.proofs.Lasts.{seen_some}

-- of the open commits the one with a number is the only one
module _ (opens : List ReservedCommit) (number : ℕ) (seen : List Seen) (it : IsOpenAs opens number seen) where
  pub only_one : (split : SplitAt number opens) → split.one.seen ≡ seen
  only_one split =
      elim (in_either split.before (split.one ∷ split.behind) it.commit (subst (λ (l : List ReservedCommit). IsOneOf l it.commit) split.whole it.among)) [
        | inl left ↦ absurd (split.others it.commit (in_left split.before split.behind it.commit left) it.number_is)
        | inr right ↦ elim right [
          | inl same ↦ ap (λ (c : ReservedCommit). c.seen) same ∙ it.seen_is
          | inr after ↦ absurd (split.others it.commit (in_right split.before split.behind it.commit after) it.number_is)
        ]
      ]

  -- what its return makes of the last commit of a node
  pub returned_at : (lasts : ℕ → LastCommit) → AreNumberedOnce opens → (node : ℕ)
      → returned_lasts (commits_numbered number opens) lasts node ≡ returned_last (last_seen seen node) (lasts node)
  returned_at lasts once node = elim (find_split number opens once) [
    | inl split ↦
        ap (λ (own : List ReservedCommit). returned_lasts own lasts node) split.own
        ∙ ap (λ (s : List Seen). returned_last (last_seen s node) (lasts node)) (only_one split)
    | inr lacks ↦ absurd (lacks.none it.commit it.among it.number_is)
  ]

pub returns_restore : ReturnsRestore
returns_restore layout before moment log one back may =
    let first = first_past moment in
    let history = back.front ++ told_reserving one ∷ back.middle in
    let last : Event Label = Told back.core (label.Returned one.commit) in
    let told = subst (λ (l : List (Event Label)). MayFrom layout before l first) back.whole may in
    let parts = may_parts layout before history (last ∷ []) first told in
    let at = reserving_at layout before one back.middle back.front first (first_lasts moment) parts.0 in
    let fits = lasts_from layout before history first (first_lasts moment) parts.0 in
    let it = still_open layout one back.front back.middle first back.goes in
    let same : (node : ℕ) → (past_from layout log first).lasts node
    ≡ returned_last (last_seen one.seen.items node) ((past_from layout history first).lasts node) =
    λ node.
    ap (λ (l : List (Event Label)). (past_from layout l first).lasts node) back.whole
    ∙ ap (λ (p : BoxPast). p.lasts node) (past_parts layout before history (last ∷ []) first)
    ∙ returned_at (past_from layout history first).opens one.commit one.seen.items it (past_from layout history first).lasts fits.once node in
    record {
      own = λ node held.
          let seen = seen_some (last_seen one.seen.items node) held in
          same node ∙ ap (λ (o : Option ℕ). returned_last o ((past_from layout history first).lasts node)) seen.1 ∙ sym (at.0.unmoved node seen.0 seen.1);
      others = λ node away.
          same node
          ∙ ap (λ (o : Option ℕ). returned_last o ((past_from layout history first).lasts node)) (none_of (last_seen one.seen.items node) away);
    }

-- the commits that cores made, by number
module _ (made : ℕ → CoreCommit) where
  abbrev made_of : ReservedCommit → CoreCommit
  made_of one = made one.number

  -- each of some commits is made as it was told
  abbrev AreMadeAs : List ReservedCommit → Type 0
  AreMadeAs commits = (one : ReservedCommit) → IsOneOf commits one → IsMadeAs (made one.number) one.number one.seen

  -- what names the last commit of a node is what was known of it
  knew_made : (done : List ReservedCommit) (node last : ℕ) → AreMadeAs done → NamesLast done node last → KnewLast (map made_of done) node last
  knew_made done node last are (held_by_none none nothing) =
      nobody
      (λ other among.
      let was = from_map made_of done other among in
      subst (λ (c : CoreCommit). c.holds node ≡ false) was.2 ((are was.0 was.1).holds node ∙ none was.0 was.1))
      nothing
  knew_made done node last are (held_last_by commit is named) =
      let own = are commit is.among in
      somebody (made_of commit)
      (record {
        among = to_map made_of done commit is.among;
        held = own.holds node ∙ is.held;
        latest = λ other among held.
            let was = from_map made_of done other among in
            let its = are was.0 was.1 in
            let low = is.latest was.0 was.1 (sym (its.holds node) ∙ ap (λ (c : CoreCommit). c.holds node) was.2 ∙ held) in
            omega (arith, low, own.number_is, its.number_is, ap (λ (c : CoreCommit). c.number) was.2);
      })
      (named ∙ sym own.number_is)

  -- what was told of commits goes on
  but_made : (commits : List ReservedCommit) (number : ℕ) → AreMadeAs commits → AreMadeAs (commits_but number commits)
  but_made commits number are one among = are one (in_filter (is_numbered_otherwise number) commits one among).0

  own_made : (commits : List ReservedCommit) (number : ℕ) → AreMadeAs commits → AreMadeAs (commits_numbered number commits)
  own_made commits number are one among = are one (in_filter (is_numbered number) commits one among).0

  both_made : (commits more : List ReservedCommit) → AreMadeAs commits → AreMadeAs more → AreMadeAs (commits ++ more)
  both_made commits more are too one among = elim (in_either commits more one among) [ inl left ↦ are one left | inr right ↦ too one right ]

  -- the box goes on where a commit ends, and where one gives back
  module _ (past : BoxPast) (fits : LastsOf past) (number : ℕ) (box : BoxGoesOn NO_COMMIT (box_of made past)) where
    -- the open commits, with the one that is taken out
    parted : (split : SplitAt number past.opens) → map made_of past.opens ≡ map made_of split.before ++ made_of split.one ∷ map made_of split.behind
    parted split = ap (map made_of) split.whole ∙ map-append made_of split.before (split.one ∷ split.behind)

    joined : (split : SplitAt number past.opens) → map made_of (commits_but number past.opens) ≡ map made_of split.before ++ map made_of split.behind
    joined split = ap (map made_of) split.rest ∙ map-append made_of split.before split.behind

    box_parted : (split : SplitAt number past.opens) → BoxGoesOn NO_COMMIT (record {
      done = map made_of past.done;
      opens = map made_of split.before ++ made_of split.one ∷ map made_of split.behind;
      number = past.commits;
    })
    box_parted split =
        subst (λ (l : List CoreCommit). BoxGoesOn NO_COMMIT (record { done = map made_of past.done; opens = l; number = past.commits })) (parted split) box

    pub box_ends : BoxGoesOn NO_COMMIT (box_of made (with_end number past))
    box_ends = elim (find_split number past.opens fits.once) [
      | inl split ↦
          subst
          (λ (l : List CoreCommit). BoxGoesOn NO_COMMIT (record {
            done = map made_of (past.done ++ commits_numbered number past.opens);
            opens = l;
            number = past.commits;
          }))
          (sym (joined split))
          (subst
          (λ (l : List CoreCommit). BoxGoesOn NO_COMMIT (record {
            done = l;
            opens = map made_of split.before ++ map made_of split.behind;
            number = past.commits;
          }))
          (sym (ap (λ (own : List ReservedCommit). map made_of (past.done ++ own)) split.own ∙ map-append made_of past.done (split.one ∷ [])))
          (ends (map made_of past.done) (map made_of split.before) (map made_of split.behind) past.commits (made_of split.one) (box_parted split)))
      | inr lacks ↦
          subst
          (λ (l : List ReservedCommit). BoxGoesOn NO_COMMIT (record {
            done = map made_of (past.done ++ commits_numbered number past.opens);
            opens = map made_of l;
            number = past.commits;
          }))
          (sym lacks.rest)
          (subst
          (λ (l : List ReservedCommit). BoxGoesOn NO_COMMIT (record { done = map made_of l; opens = map made_of past.opens; number = past.commits }))
          (sym (ap (λ (own : List ReservedCommit). past.done ++ own) lacks.own ∙ append-nil past.done)) box)
    ]

    pub box_returns : BoxGoesOn NO_COMMIT (record {
      done = map made_of past.done;
      opens = map made_of (commits_but number past.opens);
      number = past.commits;
    })
    box_returns = elim (find_split number past.opens fits.once) [
      | inl split ↦
          subst (λ (l : List CoreCommit). BoxGoesOn NO_COMMIT (record { done = map made_of past.done; opens = l; number = past.commits }))
          (sym (joined split))
          (gives_back (map made_of past.done) (map made_of split.before) (map made_of split.behind) past.commits (made_of split.one) (box_parted split))
      | inr lacks ↦
          subst
          (λ (l : List ReservedCommit). BoxGoesOn NO_COMMIT (record { done = map made_of past.done; opens = map made_of l; number = past.commits }))
          (sym lacks.rest) box
    ]

  -- and where one reserves
  module _ (past : BoxPast) (one : Reserving) (knew : KnewItsNodes past one) (own : IsMadeAs (made one.commit) one.commit one.seen.items)
      (done_are : AreMadeAs past.done) (opens_are : AreMadeAs past.opens) (box : BoxGoesOn NO_COMMIT (box_of made past)) where
    seen_there : (node : ℕ) → (made one.commit).holds node ≡ true → (last : ℕ) × (last_seen one.seen.items node ≡ Some last)
    seen_there node held = seen_some (last_seen one.seen.items node) (sym (own.holds node) ∙ held)

    unmoved : IsUnmoved (box_of made past) (made one.commit)
    unmoved = record {
      none_open = λ other among share.
          let was = from_map made_of past.opens other among in
          let away = knew.none_open was.0 share.node was.1 (sym (own.holds share.node) ∙ share.one) in
          not_both share.two (ap (λ (c : CoreCommit). c.holds share.node) (sym was.2) ∙ (opens_are was.0 was.1).holds share.node ∙ away);
      knew = λ node held.
          let last = seen_there node held in
          subst (KnewLast (map made_of past.done) node) (sym (own.last node last.0 last.1))
          (knew_made past.done node last.0 done_are (knew.knew node last.0 last.1));
    }

    pub box_reserves : (commit : ReservedCommit) → commit.number ≡ one.commit → BoxGoesOn NO_COMMIT (record {
      done = map made_of past.done;
      opens = map made_of (past.opens ++ commit ∷ []);
      number = one.commit;
    })
    box_reserves commit is =
        subst (λ (n : ℕ). BoxGoesOn NO_COMMIT (record { done = map made_of past.done; opens = map made_of (past.opens ++ commit ∷ []); number = n }))
        own.number_is
        (subst (λ (l : List CoreCommit). BoxGoesOn NO_COMMIT (record { done = map made_of past.done; opens = l; number = (made one.commit).number }))
        (sym
        (map-append made_of past.opens (commit ∷ []) ∙ ap (λ (n : ℕ). map made_of past.opens ++ made n ∷ []) is))
        (reserves (box_of made past) (made one.commit) box (omega (arith, knew.next, own.number_is)) unmoved))

  -- a commit that begins is the one that reserved
  same_made : (number : ℕ) (numbers : GrantedNumbers) (commits : List ReservedCommit)
      → map made_of (map (giving_up number numbers) commits) ≡ map made_of commits
  same_made number numbers [] = refl
  same_made number numbers (one ∷ rest) =
      ap (λ (n : ℕ). made n ∷ map made_of (map (giving_up number numbers) rest)) (giving_number number numbers one)
      ∙ ap (λ (l : List CoreCommit). made_of one ∷ l) (same_made number numbers rest)

  giving_made : (number : ℕ) (numbers : GrantedNumbers) (commits : List ReservedCommit) → AreMadeAs commits → AreMadeAs (map (giving_up number numbers) commits)
  giving_made number numbers commits are one among =
      let was = from_map (giving_up number numbers) commits one among in
      subst (λ (c : ReservedCommit). IsMadeAs (made c.number) c.number c.seen) was.2
      (subst (λ (n : ℕ). IsMadeAs (made n) n (giving_up number numbers was.0).seen) (sym (giving_number number numbers was.0))
      (subst (IsMadeAs (made was.0.number) was.0.number) (sym (giving_seen number numbers was.0)) (are was.0 was.1)))

  -- What has been told is a record of the box, of commits that were made so.
  record KeepsTheBox (past : BoxPast) : Type 0 where
    box : BoxGoesOn NO_COMMIT (box_of made past)
    opens_are : AreMadeAs past.opens
    done_are : AreMadeAs past.done

  keeps_end : (past : BoxPast) (number : ℕ) → LastsOf past → KeepsTheBox past → KeepsTheBox (with_end number past)
  keeps_end past number fits keeps = record {
    box = box_ends past fits number keeps.box;
    opens_are = but_made past.opens number keeps.opens_are;
    done_are = both_made past.done (commits_numbered number past.opens) keeps.done_are (own_made past.opens number keeps.opens_are);
  }

  -- the same box and commits
  keeps_same : (past now : BoxPast) → now.opens ≡ past.opens → now.done ≡ past.done → now.commits ≡ past.commits → KeepsTheBox past → KeepsTheBox now
  keeps_same past now opens done commits keeps = record {
    box =
        subst (λ (l : List ReservedCommit). BoxGoesOn NO_COMMIT (record { done = map made_of now.done; opens = map made_of l; number = now.commits }))
        (sym opens)
        (subst (λ (l : List ReservedCommit). BoxGoesOn NO_COMMIT (record { done = map made_of l; opens = map made_of past.opens; number = now.commits }))
        (sym done)
        (subst (λ (n : ℕ). BoxGoesOn NO_COMMIT (record { done = map made_of past.done; opens = map made_of past.opens; number = n })) (sym commits) keeps.box));
    opens_are = subst AreMadeAs (sym opens) keeps.opens_are;
    done_are = subst AreMadeAs (sym done) keeps.done_are;
  }

  module _ (layout : Layout) (before : ℕ) where
    keeps_label : (core : CoreId) (past : BoxPast) (fact : Label) → LastsOf past → MayLabel layout before core.0 fact past
        → AreMadeBy made (Told core fact ∷ []) → KeepsTheBox past → KeepsTheBox (after_label layout core.0 fact past)
    keeps_label core past (label.Reserved commit seen grant) fits rule by keeps =
        let one : Reserving = record { core = core; commit = commit; seen = seen; grant = grant } in
        let told : ReservedCommit = record { number = commit; seen = seen.items; grant = grant; gives_up = no_numbers } in
        let own = by one (inl refl) in
        record {
          box = box_reserves past one (reserving_knew past one fits rule) own keeps.done_are keeps.opens_are keeps.box told refl;
          opens_are = both_made past.opens (told ∷ []) keeps.opens_are (λ other among. elim among [
            | inl same ↦ subst (λ (c : ReservedCommit). IsMadeAs (made c.number) c.number c.seen) same own
            | inr never ↦ absurd never
          ]);
          done_are = keeps.done_are;
        }
    keeps_label core past (label.Returned commit) fits rule by keeps = record {
      box = box_returns past fits commit keeps.box;
      opens_are = but_made past.opens commit keeps.opens_are;
      done_are = keeps.done_are;
    }
    keeps_label core past (label.Began filling commit node stamp blocks inodes) fits rule by keeps =
        let numbers : GrantedNumbers = record { inodes = inodes.items; blocks = blocks.items } in
        record {
          box = subst (λ (l : List CoreCommit). BoxGoesOn NO_COMMIT (record { done = map made_of past.done; opens = l; number = past.commits }))
              (sym (same_made commit numbers past.opens)) keeps.box;
          opens_are = giving_made commit numbers past.opens keeps.opens_are;
          done_are = keeps.done_are;
        }
    keeps_label core past (label.Settled k turn) fits rule by keeps =
        let ended = keeps_end past turn.commit fits keeps in
        record { box = ended.box; opens_are = ended.opens_are; done_are = ended.done_are }
    keeps_label core past (label.Empty commit cut opened durable) fits rule by keeps =
        let ended = keeps_end past commit fits keeps in
        record { box = ended.box; opens_are = ended.opens_are; done_are = ended.done_are }
    keeps_label core past label.Took fits rule by keeps = keeps_same past (after_label layout core.0 label.Took past) refl refl refl keeps
    keeps_label core past label.Gave fits rule by keeps = keeps_same past (after_label layout core.0 label.Gave past) refl refl refl keeps
    keeps_label core past (label.Noted turn) fits rule by keeps =
        keeps_same past (after_label layout core.0 (label.Noted turn) past) refl refl refl keeps
    keeps_label core past (label.Filled k piece done) fits rule by keeps =
        keeps_same past (after_label layout core.0 (label.Filled k piece done) past) refl refl refl keeps
    keeps_label core past (label.Synced now) fits rule by keeps =
        keeps_same past (after_label layout core.0 (label.Synced now) past) refl refl refl keeps
    keeps_label core past (label.Opened k done cut opened) fits rule by keeps =
        keeps_same past (after_label layout core.0 (label.Opened k done cut opened) past) refl refl refl keeps
    keeps_label core past (label.Learned turn) fits rule by keeps =
        keeps_same past (after_label layout core.0 (label.Learned turn) past) refl refl refl keeps
    keeps_label core past (label.Placed k n done) fits rule by keeps =
        keeps_same past (after_label layout core.0 (label.Placed k n done) past) refl refl refl keeps
    keeps_label core past (label.Shut k done) fits rule by keeps =
        keeps_same past (after_label layout core.0 (label.Shut k done) past) refl refl refl keeps
    keeps_label core past (label.Idled k) fits rule by keeps =
        keeps_same past (after_label layout core.0 (label.Idled k) past) refl refl refl keeps

    keeps_from : (log : List (Event Label)) (past : BoxPast) → LastsOf past → MayFrom layout before log past → AreMadeBy made log → KeepsTheBox past
        → KeepsTheBox (past_from layout log past)
    keeps_from [] past fits may by keeps = keeps
    keeps_from (Called entry ∷ log) past fits may by keeps = absurd may.0
    keeps_from (Told core fact ∷ log) past fits may by keeps =
        keeps_from log (after_label layout core.0 fact past) (lasts_label layout before core.0 past fits fact may.0.1) may.1
        (λ one among. by one (inr among))
        (keeps_label core past fact fits may.0.1
        (λ one among. elim among [ inl same ↦ by one (inl same) | inr never ↦ absurd never ]) keeps)

pub labels_keep_the_box : LabelsKeepTheBox
labels_keep_the_box layout before moment log made may by =
    (keeps_from made layout before log (first_past moment) (first_lasts moment) may by
    (record { box = here; opens_are = λ one never. absurd never; done_are = λ one never. absurd never })).box
