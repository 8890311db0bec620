-- Which turns made the commits durable that are done, along labels that are told beside what commits bring: each has one, and each such turn is of one; and
-- numbers rise along those that share a node.
use Rattle.std.proofs.Common.{◌<◌, ◌++◌, ◌∷◌, ◌≡◌, ◌≢◌, ◌∙◌, ℕ, List, [], inl, inr, subst, refl, sym, ap, arith, append-nil, nat_eq, true, eqb-true, append_assoc}
use Rattle.std.proofs.lemmas.List.{map-append}
use Rattle.sfs_base.specs.declared.numbers.CoreId.{CoreId}
use Rattle.sfs_image.specs.Super.{Layout}
use Rattle.space_map.specs.Space.{Space}
use Rattle.tree_laws.specs.declared.turns.Turn.{Turn}
use Rattle.tree_laws.specs.declared.turns.TurnAct.TheVariants as act
use Rattle.close_laws.proofs.Owing.{tells}
use Rattle.cut_laws.specs.Rules.{IsOneOf}
use Rattle.cut_laws.specs.Closure.{Flush}
use Rattle.cut_laws.proofs.Basics.{in_left, in_either, in_right}
use Rattle.cut_laws.proofs.Listed.{from_map, to_filter}
use Rattle.cut_laws.proofs.RunFacts.{in_filter}
use Rattle.beside_laws.specs.Commits.{Share}
use Rattle.book_laws.specs.Pairs.{Pair, commit_under}
use Rattle.reserve_laws.specs.Olds.{NumbersRise}
use Rattle.stamp_table.specs.declared.event.Event.{Event}
use Rattle.close_laws.proofs.Drawn.{Drawing}
use Rattle.sfs_base.proofs.BasicNumbers.{same_number}
use Rattle.stamp_table.specs.declared.event.Event.TheVariants.{Told, Called}
use Rattle.slot_laws.specs.Nodes.{ReservedCommit, commits_numbered, is_numbered}
use Rattle.slot_laws.specs.Lasts.{IsMadeAs}
use Rattle.slot_laws.specs.Labels.{BoxPast, after_label, first_past, past_from}
use Rattle.slot_laws.specs.declared.label.Label.{Label}
use Rattle.slot_laws.specs.declared.label.Label.TheVariants as label
use Rattle.slot_laws.specs.Grants.{SpaceGoes, GoesAlong}
use Rattle.slot_laws.proofs.Numbered.{last_or_before, find_split, at_seam}
use Rattle.slot_laws.proofs.NodesTold.{LastsOf}
use Rattle.close_laws.specs.Maps.{Numbered, commit_numbered, ReservedAs, FitBringings}
use Rattle.close_laws.specs.Beside.{stamps_under}
use Rattle.close_laws.specs.Own.{OwesTurn, owes_granted, owes_given_back, owes_nothing, StandBeside, TellsBeside}
use Rattle.close_laws.proofs.AlongLabels.{drawing_first, through_label}
use Rattle.end_laws.proofs.Later.{IsNumberedIn}

-- numbers go on rising with one that has a greater number than those before it with which it shares a node
rise_more : (pairs : ℕ → Pair) (done : List ℕ) (stamp : ℕ) → NumbersRise pairs done
    → ((other : ℕ) → IsOneOf done other → Share (commit_under pairs other) (commit_under pairs stamp)
    → (commit_under pairs other).number < (commit_under pairs stamp).number)
    → NumbersRise pairs (done ++ stamp ∷ [])
rise_more pairs [] stamp rise greater = (λ other none. absurd none, tt)
rise_more pairs (first ∷ done) stamp rise greater = (
  λ other one share. elim (last_or_before done stamp other one) [
    | inl there ↦ rise.0 other there share
    | inr same ↦
        subst (λ s. (commit_under pairs first).number < (commit_under pairs s).number) same
        (greater first (inl refl) (subst (λ s. Share (commit_under pairs first) (commit_under pairs s)) (sym same) share))
  ],
  rise_more pairs done stamp rise.1 (λ other one. greater other (inr one)),
)

-- A turn of some made the fsync with a stamp durable.
pub record LandedUnder (turns : List Turn) (stamp : ℕ) : Type 0 where
  pub turn : Turn
  pub among : IsOneOf turns turn
  pub durable : turn.act ≡ act.Durable
  pub stamp_is : turn.stamp.0 ≡ stamp

module _ (named : Numbered) where
  -- A commit of some is that of the fsync with a stamp.
  pub record IsUnder (commits : List ReservedCommit) (stamp : ℕ) : Type 0 where
    pub one : ReservedCommit
    pub among : IsOneOf commits one
    pub stamp_is : named.stamps one.number ≡ stamp

  -- All of it, by the turns and the commits that are done.
  pub record LandSo (turns : List Turn) (done : List ReservedCommit) : Type 0 where
    pub landed : (one : ReservedCommit) → IsOneOf done one → LandedUnder turns (named.stamps one.number)
    pub ended : (turn : Turn) → IsOneOf turns turn → turn.act ≡ act.Durable → IsUnder done turn.stamp.0
    pub made : (one : ReservedCommit) → IsOneOf done one → IsMadeAs (commit_numbered named one.number) one.number one.seen
    pub rise : NumbersRise named.pairs (stamps_under named done)

  landed_more : (turns more : List Turn) (stamp : ℕ) → LandedUnder turns stamp → LandedUnder (turns ++ more) stamp
  landed_more turns more stamp landed =
      record { turn = landed.turn; among = in_left turns more landed.turn landed.among; durable = landed.durable; stamp_is = landed.stamp_is }

  -- with turns of which none makes a commit durable
  quiet_more : (turns more : List Turn) (done : List ReservedCommit) → ((turn : Turn) → IsOneOf more turn → turn.act ≢ act.Durable) → LandSo turns done
      → LandSo (turns ++ more) done
  quiet_more turns more done none so = record {
    landed = λ one among. landed_more turns more (named.stamps one.number) (so.landed one among);
    ended = λ turn among durable. elim (in_either turns more turn among) [
      | inl was ↦ so.ended turn was durable
      | inr new ↦ absurd (none turn new durable)
    ];
    made = so.made;
    rise = so.rise;
  }

  -- What ends with a commit: the turns that come, of which one makes it durable, and each that does is of its fsync.
  pub record EndsNow (past : BoxPast) (number : ℕ) (more : List Turn) : Type 0 where
    pub own : IsNumberedIn past.opens number
    pub turn : Turn
    pub among : IsOneOf more turn
    pub durable : turn.act ≡ act.Durable
    pub stamps : (other : Turn) → IsOneOf more other → other.act ≡ act.Durable → other.stamp.0 ≡ named.stamps number

  module _ (past : BoxPast) (number : ℕ) (more : List Turn) (lasts : LastsOf past)
      (grants : (one : ReservedCommit) → IsOneOf past.opens one → ReservedAs named one.number one.seen one.grant) (so : LandSo past.turns past.done) where
    -- what a commit that is done shares with an open one came before it
    earlier : (one : ReservedCommit) → IsOneOf past.opens one → (other : ℕ) → IsOneOf (stamps_under named past.done) other
        → Share (commit_under named.pairs other) (commit_under named.pairs (named.stamps one.number))
        → (commit_under named.pairs other).number < (commit_under named.pairs (named.stamps one.number)).number
    earlier one among other there share =
        let was = from_map (λ (c : ReservedCommit). named.stamps c.number) past.done other there in
        let its = so.made was.0 was.1 in
        let own = (grants one among).made in
        let less =
        lasts.earlier one was.0 share.node among was.1 (sym (own.holds share.node) ∙ share.two)
        (sym (its.holds share.node) ∙ (ap (λ s. (commit_under named.pairs s).holds share.node) was.2 ∙ share.one)) in
        let same = ap (λ s. (commit_under named.pairs s).number) was.2 in
        omega (arith, less, same, its.number_is, own.number_is)

    -- the commits with the number are that of its fsync, of which there is one
    rise_then : NumbersRise named.pairs (stamps_under named (past.done ++ commits_numbered number past.opens))
    rise_then = elim (find_split number past.opens lasts.once) [
      | inl split ↦
          subst (λ l. NumbersRise named.pairs (stamps_under named (past.done ++ l))) (sym split.own)
          (subst (NumbersRise named.pairs) (sym (map-append (λ (c : ReservedCommit). named.stamps c.number) past.done (split.one ∷ [])))
          (rise_more named.pairs (stamps_under named past.done) (named.stamps split.one.number) so.rise
          (earlier split.one (subst (λ l. IsOneOf l split.one) (sym split.whole) (at_seam split.before split.behind split.one)))))
      | inr lacks ↦
          subst (λ l. NumbersRise named.pairs (stamps_under named (past.done ++ l))) (sym lacks.own)
          (subst (λ l. NumbersRise named.pairs (stamps_under named l)) (sym (append-nil past.done)) so.rise)
    ]

    pub ends_more : EndsNow past number more → LandSo (past.turns ++ more) (past.done ++ commits_numbered number past.opens)
    ends_more ends = record {
      landed = λ one among. elim (in_either past.done (commits_numbered number past.opens) one among) [
        | inl was ↦ landed_more past.turns more (named.stamps one.number) (so.landed one was)
        | inr new ↦ record {
          turn = ends.turn;
          among = in_right past.turns more ends.turn ends.among;
          durable = ends.durable;
          stamp_is = ends.stamps ends.turn ends.among ends.durable
              ∙ ap named.stamps (sym (nat_same one.number (in_filter (is_numbered number) past.opens one new).1));
        }
      ];
      ended = λ turn among durable. elim (in_either past.turns more turn among) [
        | inl was ↦
            let at = so.ended turn was durable in
            record { one = at.one; among = in_left past.done (commits_numbered number past.opens) at.one at.among; stamp_is = at.stamp_is }
        | inr new ↦ record {
          one = ends.own.one;
          among = in_right past.done (commits_numbered number past.opens) ends.own.one
              (to_filter (is_numbered number) past.opens ends.own.one ends.own.among
              (subst (λ n. nat_eq ends.own.one.number n ≡ true) ends.own.number_is (same_number ends.own.one.number)));
          stamp_is = ap named.stamps ends.own.number_is ∙ sym (ends.stamps turn new durable);
        }
      ];
      made = λ one among. elim (in_either past.done (commits_numbered number past.opens) one among) [
        | inl was ↦ so.made one was
        | inr new ↦ (grants one (in_filter (is_numbered number) past.opens one new).0).made
      ];
      rise = rise_then;
    }
      where
        nat_same : (n : ℕ) → nat_eq n number ≡ true → n ≡ number
        nat_same n is = eqb-true n number is

  module _ (layout : Layout) (before : ℕ) (first : Space) (done : List (Event Label)) (past : BoxPast) (core : CoreId) (rest : List (Event Label))
      (space : Space) (so : LandSo past.turns past.done) where
    abbrev At : Label → Type 0
    At fact = Drawing named layout before first done past (Told core fact ∷ rest) space

    abbrev Then : Label → Type 0
    Then fact = LandSo (after_label layout core.0 fact past).turns (after_label layout core.0 fact past).done

    settled_ends : (k : ℕ) (turn : Turn) → At (label.Settled k turn) → EndsNow past turn.commit (turn ∷ [])
    settled_ends k turn at =
        let rule = at.owing.may.0.1 in
        let aloft = at.opens.aloft k rule.has.work rule.has.there rule.has.aloft in
        let stamp : turn.stamp.0 ≡ named.stamps turn.commit =
        ap (λ (f : Flush). f.stamp) rule.is.flush_is ∙ (aloft.stamp_is ∙ ap named.stamps (sym rule.is.commit_is)) in
        record {
          own = record { one = aloft.one; among = aloft.among; number_is = aloft.number_is ∙ sym rule.is.commit_is };
          turn = turn;
          among = inl refl;
          durable = rule.is.did_is;
          stamps = λ other among durable. elim among [
            | inl same ↦ ap (λ (t : Turn). t.stamp.0) (sym same) ∙ stamp
            | inr never ↦ absurd never
          ];
        }

    empty_ends : (commit : ℕ) (cut opened durable : Turn) → At (label.Empty commit cut opened durable)
        → EndsNow past commit (cut ∷ opened ∷ durable ∷ [])
    empty_ends commit cut opened durable at =
        let rule = at.owing.may.0.1 in
        let open_one = at.opens.reserved_open core.0 commit rule.number in
        let cut_stamp : cut.stamp.0 ≡ named.stamps commit =
        freely (at.owing.own core.0).owes (at.owing.own core.0).may
        (tells layout before named.stamps done past core (label.Empty commit cut opened durable) rest at.owing) in
        let stamp : durable.stamp.0 ≡ named.stamps commit =
        ap (λ (f : Flush). f.stamp) (rule.durable_is.flush_is ∙ sym rule.cut_is.flush_is) ∙ cut_stamp in
        record {
          own = record { one = open_one.one; among = open_one.among; number_is = open_one.number_is };
          turn = durable;
          among = inr (inr (inl refl));
          durable = rule.durable_is.did_is;
          stamps = λ other among is. elim among [
            | inl first_one ↦ absurd (cc (sym rule.cut_is.did_is ∙ (ap (λ (t : Turn). t.act) first_one ∙ is)))
            | inr more ↦ elim more [
              | inl second ↦ absurd (cc (sym rule.opened_is.did_is ∙ (ap (λ (t : Turn). t.act) second ∙ is)))
              | inr last ↦ elim last [ inl same ↦ ap (λ (t : Turn). t.stamp.0) (sym same) ∙ stamp | inr never ↦ absurd never ]
            ]
          ];
        }
      where
        freely : (o may : OwesTurn) → TellsBeside named.stamps o may (past.owns core.0) (label.Empty commit cut opened durable) → cut.stamp.0
            ≡ named.stamps commit
        freely owes_nothing may is = is
        freely (owes_granted n) may is = absurd (cc is.is)
        freely (owes_given_back n) may is = absurd (cc is.is)

    pub land_label : (fact : Label) → At fact → Then fact
    land_label label.Took at = so
    land_label label.Gave at = so
    land_label (label.Noted turn) at =
        quiet_more past.turns (turn ∷ []) past.done (λ other among is. elim among [
          | inl same ↦ at.owing.may.0.1.no_durable (ap (λ (t : Turn). t.act) same ∙ is)
          | inr never ↦ never
        ]) so
    land_label (label.Reserved commit seen grant) at = so
    land_label (label.Returned commit) at = so
    land_label (label.Began filling commit node stamp blocks inodes) at = so
    land_label (label.Filled k piece done_so) at = so
    land_label (label.Synced now) at = so
    land_label (label.Opened k done_so cut opened) at =
        quiet_more past.turns (cut ∷ opened ∷ []) past.done (λ other among is. elim among [
          | inl same ↦ cc (sym at.owing.may.0.1.cut_is.did_is ∙ (ap (λ (t : Turn). t.act) same ∙ is))
          | inr more ↦ elim more [
            | inl same ↦ cc (sym at.owing.may.0.1.opened_is.did_is ∙ (ap (λ (t : Turn). t.act) same ∙ is))
            | inr never ↦ never
          ]
        ]) so
    land_label (label.Settled k turn) at =
        ends_more past turn.commit (turn ∷ []) at.lasts at.opens.grants so (settled_ends k turn at)
    land_label (label.Learned turn) at = so
    land_label (label.Placed k n done_so) at = so
    land_label (label.Shut k done_so) at = so
    land_label (label.Idled k) at = so
    land_label (label.Empty commit cut opened durable) at =
        ends_more past commit (cut ∷ opened ∷ durable ∷ []) at.lasts at.opens.grants so (empty_ends commit cut opened durable at)

  -- All that is known at a place of a history, and what comes behind it.
  pub record PlaceOn (layout : Layout) (before : ℕ) (first : Space) (done : List (Event Label)) (past : BoxPast) (rest : List (Event Label)) (now : Space)
      : Type 0 where
    pub space : Space
    pub drawing : Drawing named layout before first done past rest space
    pub lands : LandSo past.turns past.done
    pub goes : SpaceGoes layout rest past space now
    pub fit : FitBringings named rest

  module _ (layout : Layout) (before : ℕ) (first : Space) where
    abbrev Place : List (Event Label) → BoxPast → List (Event Label) → Space → Type 0
    Place = PlaceOn layout before first

    pub place_first : (moment : ℕ) (log : List (Event Label)) (now : Space) → GoesAlong layout before moment log first now → StandBeside named.stamps log
        → FitBringings named log → Place [] (first_past moment) log now
    place_first moment log now along stand fit = record {
      space = first;
      drawing = drawing_first named layout before first moment log now along stand;
      lands = record {
        landed = λ one never. absurd never;
        ended = λ turn never. absurd never;
        made = λ one never. absurd never;
        rise = tt;
      };
      goes = along.goes;
      fit = fit;
    }

    -- behind each front
    pub place_at : (done front back : List (Event Label)) (past : BoxPast) (now : Space) → Place done past (front ++ back) now
        → Place (done ++ front) (past_from layout front past) back now
    place_at done [] back past now at = subst (λ l. Place l past back now) (sym (append-nil done)) at
    place_at done (Called entry ∷ front) back past now at = absurd at.drawing.owing.may.0
    place_at done (Told core fact ∷ front) back past now at =
        subst (λ l. Place l (past_from layout front (after_label layout core.0 fact past)) back now) (append_assoc done (Told core fact ∷ []) front)
        (place_at (done ++ Told core fact ∷ []) front back (after_label layout core.0 fact past) now (record {
          space = at.goes.0.next;
          drawing = through_label named layout before first done past core (front ++ back) at.space at.goes.0.next fact at.drawing at.goes.0.does
              (at.fit (Told core fact) (inl refl));
          lands = land_label layout before first done past core (front ++ back) at.space at.lands fact at.drawing;
          goes = at.goes.1;
          fit = λ event among. at.fit event (inr among);
        }))
