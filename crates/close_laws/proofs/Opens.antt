-- Which open commit a reserved number is, and which one a slot has: what labels told of it stays.
use Rattle.std.proofs.Common.{◌≡◌, ◌∙◌, ◌≢◌, if◌then◌else◌, ◌∷◌, ◌++◌, List, ℕ, Bool, Option, Some, false, sym, ap, subst, inl, inr, not, None, nat_eq, true, map, option_map, [], refl}
use Rattle.sfs_base.specs.declared.numbers.NodeId.{NodeId}
use Rattle.sfs_base.specs.declared.numbers.Stamp.{Stamp}
use Rattle.sfs_base.specs.Lists.{Roomy}
use Rattle.sfs_base.specs.declared.numbers.CoreId.{CoreId}
use Rattle.sfs_base.proofs.BasicNumbers.{same_number, not_same}
use Rattle.sfs_base.proofs.BasicTruth.{true_not_false}
use Rattle.sfs_image.specs.Super.{Layout}
use Rattle.journal_one.specs.declared.slot.Filling.{Filling}
use Rattle.journal_one.specs.Job.{Job}
use Rattle.space_map.specs.Space.{GrantedNumbers}
use Rattle.tree_laws.specs.declared.turns.Turn.{Turn}
use Rattle.cut_laws.specs.Rules.{IsOneOf}
use Rattle.cut_laws.specs.Closure.{Flush}
use Rattle.cut_laws.proofs.Basics.{in_left, in_right}
use Rattle.cut_laws.proofs.Listed.{to_filter, from_map, to_map}
use Rattle.cut_laws.proofs.RunFacts.{in_filter}
use Rattle.flush_laws.specs.Journal.{WritesPlan}
use Rattle.merge_laws.proofs.Blocks.{same_or_not}
use Rattle.stamp_table.specs.declared.event.Event.TheVariants.{Told}
use Rattle.slot_laws.specs.Slots.{with_at, SlotWork, Slots, SlotKnown, changed_slot, knowing, begun_work, settled_work, known_filled, known_synced, known_gated, open_gate, known_placed, shut_gate}
use Rattle.slot_laws.specs.declared.label.Seen.{Seen}
use Rattle.slot_laws.specs.declared.label.Label.{Label}
use Rattle.slot_laws.specs.declared.label.Label.TheVariants as label
use Rattle.slot_laws.specs.Nodes.{ReservedCommit, no_numbers, commits_but, is_numbered_otherwise, giving_up}
use Rattle.slot_laws.specs.Labels.{BoxPast, after_label, own_label, OwnTold, box_label, fsync_told}
use Rattle.slot_laws.specs.Fits.{PastFits}
use Rattle.slot_laws.specs.Rules.{BeganRule, SettledRule, MayLabel}
use Rattle.slot_laws.proofs.Came.{Came, KeepsTold, knowing_told, told_itself, same_came, changed_came, synced_came, idled_came}
use Rattle.slot_laws.proofs.Basics.{at_same, at_other, none_there, mapped_some}
use Rattle.slot_laws.proofs.NodesTold.{giving_number, giving_seen}
use Rattle.slot_laws.proofs.GrantsHeld.{giving_grant}
use Rattle.slot_laws.proofs.Numbered.{last_or_before}
use Rattle.close_laws.specs.Maps.{Numbered, FreesAs, bringing_of, FitsBringing, BeginsAs, ReservedAs}
use Rattle.close_laws.specs.Own.{OwesTurn, owes_granted, owes_given_back, owes_nothing, has_numbers, OwnOwed, own_owed, TellsBeside}

module _ (named : Numbered) where
  -- A number that is reserved is an open commit's, which gives nothing up yet.
  pub record ReservedOpen (opens : List ReservedCommit) (number : ℕ) (granted : Bool) : Type 0 where
    pub one : ReservedCommit
    pub among : IsOneOf opens one
    pub number_is : one.number ≡ number
    pub gives : one.gives_up ≡ no_numbers
    pub some : granted ≡ has_numbers one.grant

  -- The commit in a slot that is not durable is an open one, of the fsync of its number, and gives up what it brings.
  pub record AloftOpen (opens : List ReservedCommit) (work : SlotWork) : Type 0 where
    pub one : ReservedCommit
    pub among : IsOneOf opens one
    pub number_is : one.number ≡ work.commit
    pub stamp_is : work.flush.stamp ≡ named.stamps work.commit
    pub frees : FreesAs (bringing_of named work.commit) one.gives_up
    pub writes : WritesPlan (bringing_of named work.commit).plan (bringing_of named work.commit).grant work.job

  -- All of it, by the open commits, the slots, and for each core the number that it has reserved and whether something is granted for it.
  pub record OpensFit (opens : List ReservedCommit) (slots : Slots) (reserved : ℕ → Option ℕ) (granted : ℕ → Bool) : Type 0 where
    pub reserved_open : (core number : ℕ) → reserved core ≡ Some number → ReservedOpen opens number (granted core)
    pub aloft : (k : ℕ) (work : SlotWork) → slots k ≡ Some work → work.settled ≡ false → AloftOpen opens work
    pub grants : (one : ReservedCommit) → IsOneOf opens one → ReservedAs named one.number one.seen one.grant

  abbrev pub OpensSo : BoxPast → (ℕ → OwnOwed) → Type 0
  OpensSo past own = OpensFit past.opens past.slots (λ core. (past.owns core).reserved) (λ core. (own core).granted)

  came_aloft : (opens : List ReservedCommit) (work new : SlotWork) → KeepsTold work new → AloftOpen opens work → AloftOpen opens new
  came_aloft opens work new keeps at = record {
    one = at.one;
    among = at.among;
    number_is = at.number_is ∙ sym keeps.numbers.commit;
    stamp_is = ap (λ (f : Flush). f.stamp) keeps.flush ∙ (at.stamp_is ∙ ap named.stamps (sym keeps.numbers.commit));
    frees = subst (λ n. FreesAs (bringing_of named n) at.one.gives_up) (sym keeps.numbers.commit) at.frees;
    writes = subst (λ (p : ℕ × Job). WritesPlan (bringing_of named p.0).plan (bringing_of named p.0).grant p.1)
        (λ i. (sym keeps.numbers.commit i, sym keeps.numbers.job i)) at.writes;
  }

  module _ (layout : Layout) (before core : ℕ) (past : BoxPast) (own : ℕ → OwnOwed) (fits : PastFits layout before past) (so : OpensSo past own) where
    abbrev own_then : Label → ℕ → OwnOwed
    own_then fact = with_at own core (own_owed fact (own core))

    abbrev SoThen : Label → Type 0
    SoThen fact = OpensSo (after_label layout core fact past) (own_then fact)

    -- what is reserved behind a label, of its core and of others
    reserved_by : (fact : Label) (opens : List ReservedCommit)
        → ((n : ℕ) → (own_label fact (past.owns core)).reserved ≡ Some n → ReservedOpen opens n (own_owed fact (own core)).granted)
        → ((c n : ℕ) → c ≢ core → (past.owns c).reserved ≡ Some n → ReservedOpen opens n (own c).granted)
        → (c n : ℕ) → (with_at past.owns core (own_label fact (past.owns core)) c).reserved ≡ Some n → ReservedOpen opens n (own_then fact c).granted
    reserved_by fact opens here others c n is = elim (same_or_not c core) [
      | inl same ↦
          subst (λ (o : OwnOwed). ReservedOpen opens n o.granted) (sym (at_same own core (own_owed fact (own core)) c same))
          (here n (sym (ap (λ (o : OwnTold). o.reserved) (at_same past.owns core (own_label fact (past.owns core)) c same)) ∙ is))
      | inr apart ↦
          subst (λ (o : OwnOwed). ReservedOpen opens n o.granted) (sym (at_other own core (own_owed fact (own core)) c apart))
          (others c n apart (sym (ap (λ (o : OwnTold). o.reserved) (at_other past.owns core (own_label fact (past.owns core)) c apart)) ∙ is))
    ]

    -- a label that changes of each slot at most what is known keeps it so
    quiet_fit : (fact : Label) → (own_label fact (past.owns core)).reserved ≡ (past.owns core).reserved → (own_owed fact (own core)).granted
        ≡ (own core).granted
        → (box_label layout core fact past).opens ≡ past.opens
        → ((j : ℕ) (new : SlotWork) → (box_label layout core fact past).slots j ≡ Some new → Came (λ k. KeepsTold) past.slots j new) → SoThen fact
    quiet_fit fact same_reserved same_granted same_opens come =
        subst (λ opens. OpensFit opens (box_label layout core fact past).slots
        (λ c. ((with_at past.owns core (own_label fact (past.owns core))) c).reserved) (λ c. (own_then fact c).granted)) (sym same_opens) (record {
          reserved_open = reserved_by fact past.opens
              (λ n is. subst (λ b. ReservedOpen past.opens n b) (sym same_granted) (so.reserved_open core n (sym same_reserved ∙ is)))
              (λ c n apart is. so.reserved_open c n is);
          aloft = λ j new there aloft.
              let came = come j new there in
              came_aloft past.opens came.work new came.stays (so.aloft j came.work came.there (sym came.stays.settled ∙ aloft));
          grants = so.grants;
        })

    same_slots : (j : ℕ) (new : SlotWork) → past.slots j ≡ Some new → Came (λ k. KeepsTold) past.slots j new
    same_slots = same_came (λ k. KeepsTold) past.slots (λ j work. told_itself work)

    changed_slots : (k : ℕ) (change : SlotKnown → SlotKnown) (j : ℕ) (new : SlotWork) → changed_slot past.slots k (knowing change) j ≡ Some new
        → Came (λ k. KeepsTold) past.slots j new
    changed_slots k change =
        changed_came (λ k. KeepsTold) past.slots (λ j work. told_itself work) k (knowing change) (λ work there. knowing_told change work)

    -- a commit that is another than the one that leaves is still open
    still_open : (number : ℕ) (one : ReservedCommit) → IsOneOf past.opens one → one.number ≢ number → IsOneOf (commits_but number past.opens) one
    still_open number one among apart = to_filter (is_numbered_otherwise number) past.opens one among (ap not (not_same one.number number apart))

    reserved_still : (number c n : ℕ) → n ≢ number → (past.owns c).reserved ≡ Some n → ReservedOpen (commits_but number past.opens) n (own c).granted
    reserved_still number c n apart is =
        let at = so.reserved_open c n is in record {
          one = at.one;
          among = still_open number at.one at.among (λ same. apart (sym at.number_is ∙ same));
          number_is = at.number_is;
          gives = at.gives;
          some = at.some;
        }

    aloft_still : (number k : ℕ) (work : SlotWork) → past.slots k ≡ Some work → work.settled ≡ false → work.commit ≢ number
        → AloftOpen (commits_but number past.opens) work
    aloft_still number k work there aloft apart =
        let at = so.aloft k work there aloft in record {
          one = at.one;
          among = still_open number at.one at.among (λ same. apart (sym at.number_is ∙ same));
          number_is = at.number_is;
          stamp_is = at.stamp_is;
          frees = at.frees;
          writes = at.writes;
        }

    grants_still : (number : ℕ) (one : ReservedCommit) → IsOneOf (commits_but number past.opens) one → ReservedAs named one.number one.seen one.grant
    grants_still number one among = so.grants one (in_filter (is_numbered_otherwise number) past.opens one among).0

    -- the commit with a reserved number leaves
    leaves_fit : (fact : Label) (number : ℕ) → (past.owns core).reserved ≡ Some number → (own_label fact (past.owns core)).reserved ≡ None
        → OpensFit (commits_but number past.opens) past.slots
        (λ c. ((with_at past.owns core (own_label fact (past.owns core))) c).reserved) (λ c. (own_then fact c).granted)
    leaves_fit fact number mine none = record {
      reserved_open = reserved_by fact (commits_but number past.opens) (λ n is. none_there (sym none ∙ is))
          (λ c n apart is. reserved_still number c n
          (λ same. apart (fits.numbers.once c core number (subst (λ m. (past.owns c).reserved ≡ Some m) same is) mine)) is);
      aloft = λ k work there aloft. aloft_still number k work there aloft (fits.numbers.unused core number k work mine there);
      grants = grants_still number;
    }

    giving_other : (number : ℕ) (numbers : GrantedNumbers) (one : ReservedCommit) → one.number ≢ number → giving_up number numbers one ≡ one
    giving_other number numbers one apart =
        ap (λ b. if b then record one { gives_up = numbers } else one) (not_same one.number number apart)

    giving_own : (number : ℕ) (numbers : GrantedNumbers) (one : ReservedCommit) → one.number ≡ number
        → giving_up number numbers one ≡ record one { gives_up = numbers }
    giving_own number numbers one same =
        ap (λ b. if b then record one { gives_up = numbers } else one) (subst (λ n. nat_eq one.number n ≡ true) same (same_number one.number))

    began_fit : (filling : Filling) (commit : ℕ) (node : NodeId) (stamp : Stamp) (blocks : Roomy ℕ) (inodes : Roomy ℕ)
        → BeganRule layout core filling.job commit past → stamp.0 ≡ named.stamps commit
        → BeginsAs (bringing_of named commit) filling.job (record { inodes = inodes.items; blocks = blocks.items })
        → SoThen (label.Began filling commit node stamp blocks inodes)
    began_fit filling commit node stamp blocks inodes rule stamped begins = record {
      reserved_open = reserved_by fact opens (λ n is. none_there is) (λ c n apart is. others_reserved c n apart is);
      aloft = aloft_then;
      grants = λ one among.
          let was = from_map give past.opens one among in
          subst (λ (o : ReservedCommit). ReservedAs named o.number o.seen o.grant) was.2
          (subst (λ (p : ℕ × List Seen × GrantedNumbers). ReservedAs named p.0 p.1 p.2)
          (λ i. (sym (giving_number commit numbers was.0) i, sym (giving_seen commit numbers was.0) i, sym (giving_grant commit numbers was.0) i))
          (so.grants was.0 was.1));
    }
      where
        fact : Label
        fact = label.Began filling commit node stamp blocks inodes

        numbers : GrantedNumbers
        numbers = record { inodes = inodes.items; blocks = blocks.items }

        give : ReservedCommit → ReservedCommit
        give = giving_up commit numbers

        opens : List ReservedCommit
        opens = map give past.opens

        there_other : (one : ReservedCommit) → IsOneOf past.opens one → one.number ≢ commit → IsOneOf opens one
        there_other one among apart = subst (IsOneOf opens) (giving_other commit numbers one apart) (to_map give past.opens one among)

        others_reserved : (c n : ℕ) → c ≢ core → (past.owns c).reserved ≡ Some n → ReservedOpen opens n (own c).granted
        others_reserved c n apart is =
            let at = so.reserved_open c n is in
            record {
              one = at.one;
              among = there_other at.one at.among
                  (λ same. apart (fits.numbers.once c core commit (subst (λ m. (past.owns c).reserved ≡ Some m) (sym at.number_is ∙ same) is) rule.number));
              number_is = at.number_is;
              gives = at.gives;
              some = at.some;
            }

        new_aloft : AloftOpen opens (begun_work filling.job commit (fsync_told node stamp))
        new_aloft =
            let at = so.reserved_open core commit rule.number in
            record {
              one = record at.one { gives_up = numbers };
              among = subst (IsOneOf opens) (giving_own commit numbers at.one at.number_is) (to_map give past.opens at.one at.among);
              number_is = at.number_is;
              stamp_is = stamped;
              frees = begins.frees;
              writes = begins.writes;
            }

        aloft_then : (j : ℕ) (work : SlotWork)
            → with_at past.slots filling.job.place.slot (Some (begun_work filling.job commit (fsync_told node stamp))) j ≡ Some work
            → work.settled ≡ false → AloftOpen opens work
        aloft_then j work there aloft = elim (same_or_not j filling.job.place.slot) [
          | inl same ↦
              let is : begun_work filling.job commit (fsync_told node stamp) ≡ work =
              cc (sym (at_same past.slots filling.job.place.slot (Some (begun_work filling.job commit (fsync_told node stamp))) j same) ∙ there) in
              subst (AloftOpen opens) is new_aloft
          | inr apart ↦
              let was = sym (at_other past.slots filling.job.place.slot (Some (begun_work filling.job commit (fsync_told node stamp))) j apart) ∙ there in
              let at = so.aloft j work was aloft in
              record {
                one = at.one;
                among = there_other at.one at.among (λ same. fits.numbers.unused core commit j work rule.number was (sym at.number_is ∙ same));
                number_is = at.number_is;
                stamp_is = at.stamp_is;
                frees = at.frees;
                writes = at.writes;
              }
        ]

    settled_fit : (k : ℕ) (turn : Turn) → SettledRule layout before k turn past → SoThen (label.Settled k turn)
    settled_fit k turn rule = record {
      reserved_open = reserved_by (label.Settled k turn) (commits_but turn.commit past.opens)
          (λ n is. mine core n is) (λ c n apart is. mine c n is);
      aloft = λ j new there aloft. elim (same_or_not j k) [
        | inl same ↦
            let was = mapped_some settled_work (past.slots k) new (sym (at_same past.slots k (option_map settled_work (past.slots k)) j same) ∙ there) in
            let never : true ≡ false = ap (λ (w : SlotWork). w.settled) was.2 ∙ aloft in absurd (true_not_false never)
        | inr apart ↦
            let was = sym (at_other past.slots k (option_map settled_work (past.slots k)) j apart) ∙ there in
            aloft_still turn.commit j new was aloft
            (λ same. apart (fits.numbers.numbered j k new rule.has.work was rule.has.there (same ∙ rule.is.commit_is)))
      ];
      grants = grants_still turn.commit;
    }
      where
        mine : (c n : ℕ) → (past.owns c).reserved ≡ Some n → ReservedOpen (commits_but turn.commit past.opens) n (own c).granted
        mine c n is =
            reserved_still turn.commit c n
            (λ same. fits.numbers.unused c n k rule.has.work is rule.has.there (sym rule.is.commit_is ∙ sym same)) is

    reserved_fit : (commit : ℕ) (seen : Roomy Seen) (grant : GrantedNumbers) → ReservedAs named commit seen.items grant
        → SoThen (label.Reserved commit seen grant)
    reserved_fit commit seen grant grants = record {
      reserved_open = reserved_by (label.Reserved commit seen grant) opens
          (λ n is. record { one = new; among = in_right past.opens (new ∷ []) new (inl refl); number_is = cc is; gives = refl; some = refl })
          (λ c n apart is. let at = so.reserved_open c n is in
          record { one = at.one; among = in_left past.opens (new ∷ []) at.one at.among; number_is = at.number_is; gives = at.gives; some = at.some });
      aloft = λ k work there aloft. let at = so.aloft k work there aloft in
          record {
            one = at.one;
            among = in_left past.opens (new ∷ []) at.one at.among;
            number_is = at.number_is;
            stamp_is = at.stamp_is;
            frees =
                at.frees;
            writes = at.writes;
          };
      grants = λ one among. elim (last_or_before past.opens new one among) [
        | inl old ↦ so.grants one old
        | inr same ↦ subst (λ (o : ReservedCommit). ReservedAs named o.number o.seen o.grant) same grants
      ];
    }
      where
        new : ReservedCommit
        new = record { number = commit; seen = seen.items; grant = grant; gives_up = no_numbers }

        opens : List ReservedCommit
        opens = past.opens ++ new ∷ []

    pub opens_label : (teller : CoreId) → teller.0 ≡ core → (fact : Label) → MayLabel layout before core fact past
        → TellsBeside named.stamps (own core).owes (own core).may (past.owns core) fact
        → FitsBringing named (Told teller fact) → SoThen fact
    opens_label teller at_core label.Took rule tells told = quiet_fit label.Took refl refl refl same_slots
    opens_label teller at_core label.Gave rule tells told = quiet_fit label.Gave refl refl refl same_slots
    opens_label teller at_core (label.Noted turn) rule tells told = quiet_fit (label.Noted turn) refl refl refl same_slots
    opens_label teller at_core (label.Reserved commit seen grant) rule tells told = reserved_fit commit seen grant told
    opens_label teller at_core (label.Returned commit) rule tells told = leaves_fit (label.Returned commit) commit rule refl
    opens_label teller at_core (label.Began filling commit node stamp blocks inodes) rule tells told =
        began_fit filling commit node stamp blocks inodes rule (freely (own core).owes (own core).may tells) told
      where
        freely : (o may : OwesTurn) → TellsBeside named.stamps o may (past.owns core) (label.Began filling commit node stamp blocks inodes)
            → stamp.0 ≡ named.stamps commit
        freely owes_nothing may is = is
        freely (owes_granted n) may is = absurd (cc is.is)
        freely (owes_given_back n) may is = absurd (cc is.is)
    opens_label teller at_core (label.Filled k piece done) rule tells told =
        quiet_fit (label.Filled k piece done) refl refl refl (changed_slots k (known_filled done piece))
    opens_label teller at_core (label.Synced now) rule tells told =
        quiet_fit (label.Synced now) refl refl refl
        (synced_came (λ k. KeepsTold) past.slots (λ j work. knowing_told known_synced work))
    opens_label teller at_core (label.Opened k done cut opened) rule tells told =
        quiet_fit (label.Opened k done cut opened) refl refl refl (changed_slots k (known_gated done open_gate))
    opens_label teller at_core (label.Settled k turn) rule tells told = settled_fit k turn rule
    opens_label teller at_core (label.Learned turn) rule tells told = quiet_fit (label.Learned turn) refl refl refl same_slots
    opens_label teller at_core (label.Placed k n done) rule tells told =
        quiet_fit (label.Placed k n done) refl refl refl (changed_slots k (known_placed done n))
    opens_label teller at_core (label.Shut k done) rule tells told =
        quiet_fit (label.Shut k done) refl refl refl (changed_slots k (known_gated done shut_gate))
    opens_label teller at_core (label.Idled k) rule tells told =
        quiet_fit (label.Idled k) refl refl refl (idled_came (λ k. KeepsTold) past.slots (λ j work. told_itself work) k)
    opens_label teller at_core (label.Empty commit cut opened durable) rule tells told =
        leaves_fit (label.Empty commit cut opened durable) commit rule.number refl
