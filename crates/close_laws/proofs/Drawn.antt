-- The map of free space along turns, drawn from the one along labels.
use Rattle.std.proofs.Common.{◌≡◌, ◌+◌, ◌∷◌, ◌<◌, ◌^◌, ◌∙◌, if◌then◌else◌, ◌⊎◌, ◌++◌, ◌≢◌, false, [], length, arith, ℕ, not, nat_eq, refl, List, ap, subst, sym, take, option_map, true, Some, inl, inr, Bool, eqb-true, All}
use Rattle.std.proofs.lemmas.List.{nil_from_length}
use Rattle.std.proofs.lemmas.List.Elements.{All-nil, All-cons}
use Rattle.sfs_base.specs.Listed.{is_listed}
use Rattle.sfs_base.specs.declared.numbers.CoreId.{CoreId}
use Rattle.sfs_base.proofs.BasicNumbers.{same_number}
use Rattle.sfs_base.proofs.BasicTruth.{not_false}
use Rattle.sfs_image.specs.Super.{Layout}
use Rattle.space_map.specs.declared.status.Status.TheVariants.{Granted, Free}
use Rattle.space_map.specs.Pool.{Pool, Grants, status_of, BecomeAll, Ends}
use Rattle.space_map.specs.Space.{GrantedNumbers, Space, AllGranted}
use Rattle.tree_laws.specs.declared.turns.TurnAct.TheVariants as act
use Rattle.tree_laws.specs.declared.turns.Turn.{Turn}
use Rattle.tree_laws.specs.declared.turns.TurnAct.{TurnAct}
use Rattle.disk_change.specs.Planned.{as_u32}
use Rattle.cut_laws.specs.Rules.{IsOneOf}
use Rattle.cut_laws.proofs.Listed.{to_filter, listed_one}
use Rattle.cut_laws.proofs.RunFacts.{in_filter}
use Rattle.cut_laws.proofs.Basics.{in_left}
use Rattle.turn_laws.specs.Need.{nothing, Amount}
use Rattle.turn_laws.specs.Ways.{own_turns}
use Rattle.merge_laws.proofs.Blocks.{same_or_not}
use Rattle.space_laws.specs.Map.{WasReturned}
use Rattle.turn_ties.specs.Plans.{amount_planned}
use Rattle.book_laws.specs.Brings.{Bringing}
use Rattle.book_laws.specs.Out.{WasReserved}
use Rattle.book_laws.specs.Along.{EndsBringing, MapGoes, MapDoes, one_turn_made}
use Rattle.stamp_table.specs.declared.event.Event.{Event}
use Rattle.stamp_table.specs.declared.event.Event.TheVariants.{Told}
use Rattle.slot_laws.specs.Slots.{with_at}
use Rattle.slot_laws.specs.declared.label.Label.{Label}
use Rattle.slot_laws.specs.Grants.{TakesGrant, GivesGrantBack, AreTheirGrants, SpaceDoes}
use Rattle.slot_laws.specs.Nodes.{ReservedCommit, commits_but, is_numbered_otherwise}
use Rattle.slot_laws.specs.Labels.{BoxPast, after_label}
use Rattle.slot_laws.specs.Fits.{PastFits}
use Rattle.slot_laws.specs.Rules.{MayLabel}
use Rattle.slot_laws.proofs.Basics.{at_same, at_other, none_there}
use Rattle.slot_laws.proofs.NodesTold.{LastsOf, lasts_label}
use Rattle.slot_laws.proofs.Labels.{label_fits}
use Rattle.slot_laws.proofs.GrantsTold.{grants_label}
use Rattle.close_laws.specs.Own.{has_numbers, OwnOwed, owes_granted, owes_nothing, owes_given_back, TellsBeside, own_owed}
use Rattle.close_laws.specs.Maps.{GrantFits, AreSameMaps, FreesAs, Numbered, bringing_of, FitsBringing}
use Rattle.close_laws.proofs.Same.{same_grants, same_free, same_become, same_ends}
use Rattle.close_laws.proofs.Owing.{Owing, owing_then, tells, nobody, owing_own}
use Rattle.close_laws.proofs.Opens.{OpensSo, opens_label}

-- where nothing is granted there are no numbers
no_numbers_there : (grant : GrantedNumbers) → has_numbers grant ≡ false → (grant.inodes ≡ []) × (grant.blocks ≡ [])
no_numbers_there grant none =
    let sum = zero_by (length grant.inodes + length grant.blocks) none in
    (nil_from_length grant.inodes (omega (arith, sum)), nil_from_length grant.blocks (omega (arith, sum)))
  where
    zero_by : (n : ℕ) → not (nat_eq n 0) ≡ false → n ≡ 0
    zero_by n is = eqb-true n 0 (not_false (nat_eq n 0) is)

word_fits : (n m : ℕ) → n ≡ m → n < 2 ^ 32 → as_u32 n ≡ m
word_fits n m same less = omega (arith, same, less)

-- what was taken from one map was taken from each with the same statuses, for a plan that needs as much
pub reserved_from : (one : Bringing) (grant : GrantedNumbers) (drawn space next : Space) → GrantFits one grant → AreSameMaps drawn space
    → TakesGrant space grant next
    → WasReserved one.plan drawn one.grant next
reserved_from one grant drawn space next fits same takes =
    let inodes = word_fits (amount_planned one.plan).inodes (length grant.inodes) (ap (λ (a : Amount). a.inodes) fits.needed) fits.words.inodes in
    let blocks = word_fits (amount_planned one.plan).blocks (length grant.blocks) (ap (λ (a : Amount). a.blocks) fits.needed) fits.words.blocks in
    subst (λ (g : GrantedNumbers). WasReserved one.plan drawn g next) (sym fits.grant_is) (record {
      taken = record {
        inodes = subst (λ n. Grants drawn.inodes n grant.inodes next.inodes) (sym inodes)
            (same_grants drawn.inodes space.inodes same.inodes (length grant.inodes) grant.inodes next.inodes takes.inodes);
        blocks = subst (λ n. Grants drawn.blocks n grant.blocks next.blocks) (sym blocks)
            (same_grants drawn.blocks space.blocks same.blocks (length grant.blocks) grant.blocks next.blocks takes.blocks);
      };
      least = takes.least
          ∙ ap (λ (p : ℕ × List ℕ). take p.0 p.1) (λ i. (sym inodes i, sym (same_free drawn.inodes space.inodes same.inodes) i));
    })

-- where nothing was taken the map is as it was
pub taken_nothing : (grant : GrantedNumbers) (drawn space next : Space) → has_numbers grant ≡ false → AreSameMaps drawn space → TakesGrant space grant next
    → AreSameMaps drawn next
taken_nothing grant drawn space next none same takes =
    let nil = no_numbers_there grant none in record {
      inodes = λ n. same.inodes n
          ∙ sym (takes.inodes.granted n
          ∙ ap (λ l. if is_listed l n then option_map (λ _. Granted) (status_of space.inodes n) else status_of space.inodes n) nil.0);
      blocks = λ n. same.blocks n
          ∙ sym (takes.blocks.granted n
          ∙ ap (λ l. if is_listed l n then option_map (λ _. Granted) (status_of space.blocks n) else status_of space.blocks n) nil.1);
    }

pub returned_nothing : (grant : GrantedNumbers) (drawn space next : Space) → has_numbers grant ≡ false → AreSameMaps drawn space
    → BecomeAll Free grant.inodes space.inodes next.inodes → BecomeAll Free grant.blocks space.blocks next.blocks → AreSameMaps drawn next
returned_nothing grant drawn space next none same inodes blocks =
    let nil = no_numbers_there grant none in record {
      inodes = λ n. same.inodes n
          ∙ sym (inodes n ∙ ap (λ l. if is_listed l n then option_map (λ _. Free) (status_of space.inodes n) else status_of space.inodes n) nil.0);
      blocks = λ n. same.blocks n
          ∙ sym (blocks n ∙ ap (λ l. if is_listed l n then option_map (λ _. Free) (status_of space.blocks n) else status_of space.blocks n) nil.1);
    }

all_by : (P : ℕ → Type 0) (xs : List ℕ) → ((x : ℕ) → IsOneOf xs x → P x) → All P xs
all_by P [] each = All-nil P
all_by P (x ∷ xs) each = All-cons P x xs (each x (inl refl)) (all_by P xs (λ y among. each y (inr among)))

-- all of a grant is granted in each map with the statuses of one in which it is
all_granted : (one other : Pool) (numbers : List ℕ) → ((n : ℕ) → status_of one n ≡ status_of other n)
    → ((n : ℕ) → is_listed numbers n ≡ true → status_of other n ≡ Some Granted) → AllGranted one numbers
all_granted one other numbers same own =
    all_by (λ n. status_of one n ≡ Some Granted) numbers (λ n among. same n ∙ own n ((listed_one numbers n).1 among))

pub returned_from : (one : Bringing) (opens : List ReservedCommit) (number : ℕ) (drawn space next : Space) (back : GivesGrantBack opens number space next)
    → GrantFits one back.own.commit.grant → AreSameMaps drawn space → AreTheirGrants opens space → WasReturned drawn one.grant next
returned_from one opens number drawn space next back fits same theirs =
    let commit = back.own.commit in
    subst (λ (g : GrantedNumbers). WasReturned drawn g next) (sym fits.grant_is) (record {
      granted_inodes = all_granted drawn.inodes space.inodes back.own.commit.grant.inodes same.inodes
          (λ n listed. theirs.inodes.own back.own.commit n back.own.among listed);
      granted_blocks = all_granted drawn.blocks space.blocks back.own.commit.grant.blocks same.blocks
          (λ n listed. theirs.blocks.own back.own.commit n back.own.among listed);
      inodes = same_become drawn.inodes space.inodes same.inodes Free back.own.commit.grant.inodes next.inodes back.inodes;
      blocks = same_become drawn.blocks space.blocks same.blocks Free back.own.commit.grant.blocks next.blocks back.blocks;
    })

pub ends_from : (one : Bringing) (commit : ReservedCommit) (drawn space next : Space) → GrantFits one commit.grant → FreesAs one commit.gives_up
    → AreSameMaps drawn space → Ends commit.grant.inodes commit.gives_up.inodes space.inodes next.inodes
    → Ends commit.grant.blocks commit.gives_up.blocks space.blocks next.blocks → EndsBringing one drawn next
ends_from one commit drawn space next fits frees same inodes blocks =
    record {
      tx = frees.tx;
      used = record {
        gives_up = frees.is;
        inodes = subst (λ (p : List ℕ × List ℕ). Ends p.0 p.1 drawn.inodes next.inodes)
            (λ i. (ap (λ (g : GrantedNumbers). g.inodes) (sym fits.grant_is) i, sym frees.inodes i))
            (same_ends drawn.inodes space.inodes same.inodes commit.grant.inodes commit.gives_up.inodes next.inodes inodes);
        blocks = subst (λ (p : List ℕ × List ℕ). Ends p.0 p.1 drawn.blocks next.blocks)
            (λ i. (ap (λ (g : GrantedNumbers). g.blocks) (sym fits.grant_is) i, sym frees.blocks i))
            (same_ends drawn.blocks space.blocks same.blocks commit.grant.blocks commit.gives_up.blocks next.blocks blocks);
      };
    }

-- the same commits, or fewer, where their numbers and grants stay
abbrev pub WereOpen : List ReservedCommit → List ReservedCommit → Type 0
WereOpen opens later = (one : ReservedCommit) → IsOneOf later one
    → (was : ReservedCommit) × IsOneOf opens was × (was.number ≡ one.number) × (was.grant ≡ one.grant)

pub all_were : (opens : List ReservedCommit) → WereOpen opens opens
all_were opens one among = (one, among, refl, refl)

pub fewer_were : (opens : List ReservedCommit) (number : ℕ) → WereOpen opens (commits_but number opens)
fewer_were opens number one among = (one, (in_filter (is_numbered_otherwise number) opens one among).0, refl, refl)

module _ (named : Numbered) (layout : Layout) (before : ℕ) (first : Space) where
  -- a turn of an fsync is among these
  pub record HasTurnOf (stamp : ℕ) (turns : List Turn) : Type 0 where
    pub turn : Turn
    pub among : IsOneOf turns turn
    pub stamp_is : turn.stamp.0 ≡ stamp

  -- some core owes the turn that says that this number was granted something
  abbrev pub OwesGrant : (ℕ → OwnOwed) → ℕ → Type 0
  OwesGrant own number = (core : ℕ) × ((own core).owes ≡ owes_granted number)

  -- an open commit that was granted something has a turn, or owes it
  abbrev pub HadTurns : List ReservedCommit → (ℕ → OwnOwed) → List Turn → Type 0
  HadTurns opens own turns = (one : ReservedCommit) → IsOneOf opens one → has_numbers one.grant ≡ true
      → OwesGrant own one.number ⊎ HasTurnOf (named.stamps one.number) turns

  -- The map along the turns so far, beside the labels'.
  pub record DrawnSo (opens : List ReservedCommit) (turns : List Turn) (own : ℕ → OwnOwed) (space : Space) : Type 0 where
    pub drawn : Space
    pub goes : MapGoes named.pairs first turns drawn
    pub same : ((core : ℕ) → (own core).owes ≡ owes_nothing) → AreSameMaps drawn space
    pub to_grant : (core number : ℕ) → (own core).may ≡ owes_granted number
        → WasReserved (bringing_of named number).plan drawn (bringing_of named number).grant space
    pub to_return : (core number : ℕ) → (own core).may ≡ owes_given_back number → WasReturned drawn (bringing_of named number).grant space
    pub had : HadTurns opens own turns

  -- All that is known at a place of a history.
  pub record Drawing (done : List (Event Label)) (past : BoxPast) (rest : List (Event Label)) (space : Space) : Type 0 where
    pub owing : Owing layout before named.stamps done past rest
    pub fits : PastFits layout before past
    pub lasts : LastsOf past
    pub theirs : AreTheirGrants past.opens space
    pub opens : OpensSo named past owing.own
    pub so : DrawnSo past.opens past.turns owing.own space

  pub had_on : (turns more : List Turn) (stamp : ℕ) → HasTurnOf stamp turns → HasTurnOf stamp (turns ++ more)
  had_on turns more stamp had = record { turn = had.turn; among = in_left turns more had.turn had.among; stamp_is = had.stamp_is }

  -- one turn more
  pub push : (turns : List Turn) (turn : Turn) (did : TurnAct) (stamp : ℕ) (old new : Space) → turn.act ≡ did → turn.stamp.0 ≡ stamp
      → MapGoes named.pairs first turns old → MapDoes did named.pairs turns stamp old new → MapGoes named.pairs first (turns ++ turn ∷ []) new
  push turns turn did stamp old new did_is stamp_is goes does =
      one_turn_made turns turn old new goes
      (subst (λ (p : TurnAct × ℕ). MapDoes p.0 named.pairs turns p.1 old new) (λ i. (sym did_is i, sym stamp_is i)) does)

  module _ (opens : List ReservedCommit) (turns : List Turn) (own : ℕ → OwnOwed) (space : Space) (so : DrawnSo opens turns own space)
      (nobody : (core : ℕ) → (own core).owes ≡ owes_nothing)
      (grants : (one : ReservedCommit) → IsOneOf opens one → GrantFits (bringing_of named one.number) one.grant) where
    pub same_now : AreSameMaps so.drawn space
    same_now = so.same nobody

    pub had_turn : (one : ReservedCommit) → IsOneOf opens one → has_numbers one.grant ≡ true → HasTurnOf (named.stamps one.number) turns
    had_turn one among some = elim (so.had one among some) [
      | inl owes ↦ let never = sym (nobody owes.0) ∙ owes.1 in absurd (cc never)
      | inr had ↦ had
    ]

    -- a commit that begins with its fsync's first turn needs nothing
    pub needs_none : (one : ReservedCommit) → IsOneOf opens one → own_turns (named.stamps one.number) turns ≡ []
        → amount_planned (bringing_of named one.number).plan ≡ nothing
    needs_none one among none = by (has_numbers one.grant) refl
      where
        by : (b : Bool) → has_numbers one.grant ≡ b → amount_planned (bringing_of named one.number).plan ≡ nothing
        by true some =
            let had = had_turn one among some in
            absurd (subst (λ l. IsOneOf l had.turn) none
            (to_filter (λ t. nat_eq t.stamp.0 (named.stamps one.number)) turns had.turn had.among
            (subst (λ n. nat_eq had.turn.stamp.0 n ≡ true) had.stamp_is (same_number had.turn.stamp.0))))
        by false none_there =
            let nil = no_numbers_there one.grant none_there in
            (grants one among).needed
            ∙ ap (λ (p : List ℕ × List ℕ). record { inodes = length p.0; blocks = length p.1 }) (λ i. (nil.0 i, nil.1 i))

    pub cut_goes : (one : ReservedCommit) → IsOneOf opens one → (turn : Turn) → turn.act ≡ act.CutAt → turn.stamp.0 ≡ named.stamps one.number
        → MapGoes named.pairs first (turns ++ turn ∷ []) so.drawn
    cut_goes one among turn did stamp_is =
        push turns turn act.CutAt (named.stamps one.number) so.drawn so.drawn did stamp_is so.goes (needs_none one among, refl)

    pub had_then : (later : List ReservedCommit) (own_then : ℕ → OwnOwed) (more : List Turn) → WereOpen opens later → HadTurns later own_then (turns ++ more)
    had_then later own_then more were one among some =
        let was = were one among in
        inr (subst (λ n. HasTurnOf (named.stamps n) (turns ++ more)) was.2
        (had_on turns more (named.stamps was.0.number)
        (had_turn was.0 was.1 (ap has_numbers was.3 ∙ some))))

    -- behind a label after which nobody owes a turn
    pub free_drawn : (later : List ReservedCommit) (own_then : ℕ → OwnOwed) (more : List Turn) (next drawn : Space)
        → ((core : ℕ) → (own_then core).may ≡ owes_nothing) → WereOpen opens later → MapGoes named.pairs first (turns ++ more) drawn → AreSameMaps drawn next
        → DrawnSo later (turns ++ more) own_then next
    free_drawn later own_then more next drawn none were goes same = record {
      drawn = drawn;
      goes = goes;
      same = λ _. same;
      to_grant = λ core number may. let never = sym (none core) ∙ may in absurd (cc never);
      to_return = λ core number may. let never = sym (none core) ∙ may in absurd (cc never);
      had = had_then later own_then more were;
    }

  module _ (done : List (Event Label)) (past : BoxPast) (core : CoreId) (fact : Label) (rest : List (Event Label)) (space next : Space)
      (at : Drawing done past (Told core fact ∷ rest) space) (does : SpaceDoes (Told core fact) past space next)
      (told : FitsBringing named (Told core fact)) where
    abbrev pub later : BoxPast
    later = after_label layout core.0 fact past

    abbrev pub own_later : ℕ → OwnOwed
    own_later = with_at at.owing.own core.0 (own_owed fact (at.owing.own core.0))

    abbrev pub owing_later : Owing layout before named.stamps (done ++ Told core fact ∷ []) later rest
    owing_later = owing_then layout before named.stamps done past core fact rest at.owing

    pub tells_now : TellsBeside named.stamps (at.owing.own core.0).owes (at.owing.own core.0).may (past.owns core.0) fact
    tells_now = tells layout before named.stamps done past core fact rest at.owing

    pub nobody_now : (at.owing.own core.0).owes ≡ owes_nothing → (c : ℕ) → (at.owing.own c).owes ≡ owes_nothing
    nobody_now none = nobody layout before named.stamps done past core fact rest at.owing none

    pub rule : MayLabel layout before core.0 fact past
    rule = at.owing.may.0.1

    pub drawing_then : DrawnSo later.opens later.turns own_later next → Drawing (done ++ Told core fact ∷ []) later rest next
    drawing_then so = let own_is = owing_own layout before named.stamps done past core fact rest at.owing in record {
      owing = owing_later;
      fits = label_fits layout before core.0 past at.fits fact rule;
      lasts = lasts_label layout before core.0 past at.lasts fact rule;
      theirs = grants_label layout before core past fact space next at.lasts rule does at.theirs;
      opens = subst (OpensSo named later) (sym own_is)
          (opens_label named layout before core.0 past at.owing.own at.fits at.opens core refl fact rule tells_now told);
      so = subst (λ own. DrawnSo later.opens later.turns own next) (sym own_is) so;
    }

  -- no turn may be told next where a label leaves none
  module _ (past : BoxPast) (core : ℕ) (own : ℕ → OwnOwed) (others : (c : ℕ) → c ≢ core → (own c).may ≡ owes_nothing) where
    pub none_then : (fact : Label) → (own_owed fact (own core)).may ≡ owes_nothing → (c : ℕ) → (with_at own core (own_owed fact (own core)) c).may
        ≡ owes_nothing
    none_then fact none c = elim (same_or_not c core) [
      | inl same ↦ ap (λ (o : OwnOwed). o.may) (at_same own core (own_owed fact (own core)) c same) ∙ none
      | inr apart ↦ ap (λ (o : OwnOwed). o.may) (at_other own core (own_owed fact (own core)) c apart) ∙ others c apart
    ]
