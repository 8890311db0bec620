-- Where a turn of the record was told: behind which labels, and by which one.
-- a label begins with a turn, which it notes, or which begins a commit that it opens or ends
use Rattle.std.proofs.Common.{◌≡◌, ◌++◌, ◌∷◌, ◌≢◌, ◌∙◌, ℕ, Bool, List, inl, inr, [], sym, append-nil, subst, refl, ap, append_assoc}
use Rattle.sfs_base.specs.declared.numbers.CoreId.{CoreId}
use Rattle.sfs_image.specs.Super.{Layout}
use Rattle.tree_laws.specs.declared.turns.Turn.{Turn}
use Rattle.tree_laws.specs.declared.turns.TurnAct.TheVariants as act
use Rattle.cut_laws.specs.Rules.{IsOneOf}
use Rattle.merge_laws.proofs.Lists.{joined_at, heads_are, among_at, nothing_there}
use Rattle.stamp_table.specs.declared.event.Event.{Event}
use Rattle.stamp_table.specs.declared.event.Event.TheVariants.{Told, Called}
use Rattle.slot_laws.specs.declared.label.Label.{Label}
use Rattle.slot_laws.specs.declared.label.Label.TheVariants as label
use Rattle.slot_laws.specs.Labels.{BoxPast, past_from, after_label}
use Rattle.slot_laws.specs.Rules.{MayFrom, MayLabel}
use Rattle.slot_laws.proofs.NodesTold.{may_parts, past_parts}

pub data StartsWith (turn : Turn) (fact : Label) : Type 0 where
  notes_it : fact ≡ label.Noted turn → StartsWith turn fact
  opens_it : (k : ℕ) (ok : Bool) (opened : Turn) → fact ≡ label.Opened k ok turn opened → StartsWith turn fact
  ends_it : (commit : ℕ) (opened durable : Turn) → fact ≡ label.Empty commit turn opened durable → StartsWith turn fact

module _ (layout : Layout) (before : ℕ) (begun : BoxPast) (log : List (Event Label)) (may : MayFrom layout before log begun) where
  -- A turn of the record was told behind some labels, which come to the turns before it.
  pub record ToldFrom (front : List Turn) (turn : Turn) : Type 0 where
    pub done : List (Event Label)
    pub core : CoreId
    pub fact : Label
    pub rest : List (Event Label)
    pub whole : log ≡ done ++ Told core fact ∷ rest
    pub turns : (past_from layout done begun).turns ≡ front
    pub starts : StartsWith turn fact

  -- each turn so far that neither opens a commit nor makes one durable was
  abbrev pub AreTold : List Turn → Type 0
  AreTold turns = (front : List Turn) (turn : Turn) (back : List Turn) → turns ≡ front ++ turn ∷ back → turn.act ≢ act.Opened
      → turn.act ≢ act.Durable → ToldFrom front turn

  module _ (done : List (Event Label)) (core : CoreId) (rest : List (Event Label)) (so : AreTold (past_from layout done begun).turns) where
    abbrev past : BoxPast
    past = past_from layout done begun

    abbrev Is : Label → Type 0
    Is fact = log ≡ done ++ Told core fact ∷ rest

    Rule : Label → Type 0
    Rule fact = MayLabel layout before core.0 fact past

    -- turns that a label adds: its first one, and behind that only such as open a commit or make one durable
    more_told : (fact : Label) → Is fact → (first : Turn) (others : List Turn)
        → (first.act ≢ act.Opened → first.act ≢ act.Durable → StartsWith first fact)
        → ((turn : Turn) → IsOneOf others turn → turn.act ≢ act.Opened → turn.act ≢ act.Durable → ⊥)
        → AreTold (past.turns ++ first ∷ others)
    more_told fact whole first others starts none front turn back e no_open no_durable = elim (joined_at past.turns (first ∷ others) front turn back e) [
      | inl within ↦ so front turn within.others within.whole no_open no_durable
      | inr new ↦ by new.more new.back new.front_is new.whole
    ]
      where
        by : (more tail : List Turn) → front ≡ past.turns ++ more → first ∷ others ≡ more ++ turn ∷ tail → ToldFrom front turn
        by [] tail front_is at =
            let same = heads_are first turn others tail at in
            record {
              done = done;
              core = core;
              fact = fact;
              rest = rest;
              whole = whole;
              turns = sym (front_is ∙ append-nil past.turns);
              starts = subst (λ t. StartsWith t fact) same.0
                  (starts (subst (λ (t : Turn). t.act ≢ act.Opened) (sym same.0) no_open)
                  (subst (λ (t : Turn). t.act ≢ act.Durable) (sym same.0) no_durable));
            }
        by (x ∷ more) tail front_is at =
            absurd (none turn
            (subst (λ l. IsOneOf l turn) (sym (heads_are first x others (more ++ turn ∷ tail) at).1) (among_at more turn tail)) no_open no_durable)

    none_more : (turn : Turn) → IsOneOf [] turn → turn.act ≢ act.Opened → turn.act ≢ act.Durable → ⊥
    none_more turn among = absurd among

    told_through : (fact : Label) → Is fact → MayLabel layout before core.0 fact past → AreTold (after_label layout core.0 fact past).turns
    told_through label.Took whole rule = so
    told_through label.Gave whole rule = so
    told_through (label.Noted turn) whole rule =
        more_told (label.Noted turn) whole turn [] (λ no_open no_durable. notes_it refl) none_more
    told_through (label.Reserved commit seen grant) whole rule = so
    told_through (label.Returned commit) whole rule = so
    told_through (label.Began filling commit node stamp blocks inodes) whole rule = so
    told_through (label.Filled k piece ok) whole rule = so
    told_through (label.Synced now) whole rule = so
    told_through (label.Opened k ok cut opened) whole rule =
        more_told (label.Opened k ok cut opened) whole cut (opened ∷ []) (λ no_open no_durable. opens_it k ok opened refl)
        (λ turn among no_open no_durable. elim among [
          | inl same ↦ no_open (ap (λ (t : Turn). t.act) (sym same) ∙ rule.opened_is.did_is)
          | inr never ↦ absurd never
        ])
    told_through (label.Settled k turn) whole rule =
        more_told (label.Settled k turn) whole turn [] (λ no_open no_durable. absurd (no_durable rule.is.did_is)) none_more
    told_through (label.Learned turn) whole rule = so
    told_through (label.Placed k n ok) whole rule = so
    told_through (label.Shut k ok) whole rule = so
    told_through (label.Idled k) whole rule = so
    told_through (label.Empty commit cut opened durable) whole rule =
        more_told (label.Empty commit cut opened durable) whole cut (opened ∷ durable ∷ []) (λ no_open no_durable. ends_it commit opened durable refl)
        (λ turn among no_open no_durable. elim among [
          | inl same ↦ no_open (ap (λ (t : Turn). t.act) (sym same) ∙ rule.opened_is.did_is)
          | inr more ↦ elim more [
            | inl same ↦ no_durable (ap (λ (t : Turn). t.act) (sym same) ∙ rule.durable_is.did_is)
            | inr never ↦ absurd never
          ]
        ])

  told_event : (done : List (Event Label)) (event : Event Label) (rest : List (Event Label)) → log ≡ done ++ event ∷ rest
      → AreTold (past_from layout done begun).turns → AreTold (past_from layout (done ++ event ∷ []) begun).turns
  told_event done (Called entry) rest whole so =
      absurd ((may_parts layout before done (Called entry ∷ rest) begun (subst (λ l. MayFrom layout before l begun) whole may)).1.0)
  told_event done (Told core fact) rest whole so =
      subst (λ (p : BoxPast). AreTold p.turns) (sym (past_parts layout before done (Told core fact ∷ []) begun))
      (told_through done core rest so fact whole
      (may_parts layout before done (Told core fact ∷ rest) begun (subst (λ l. MayFrom layout before l begun) whole may)).1.0.1)

  told_events : (done some rest : List (Event Label)) → log ≡ done ++ (some ++ rest) → AreTold (past_from layout done begun).turns
      → AreTold (past_from layout (done ++ some) begun).turns
  told_events done [] rest whole so = subst (λ l. AreTold (past_from layout l begun).turns) (sym (append-nil done)) so
  told_events done (event ∷ some) rest whole so =
      subst (λ l. AreTold (past_from layout l begun).turns) (append_assoc done (event ∷ []) some)
      (told_events (done ++ event ∷ []) some rest (whole ∙ sym (append_assoc done (event ∷ []) (some ++ rest)))
      (told_event done event (some ++ rest) whole so))

  pub turns_are_told : begun.turns ≡ [] → AreTold (past_from layout log begun).turns
  turns_are_told none = told_events [] log [] (sym (append-nil log))
      (λ front turn back e. absurd (nothing_there front turn back (sym none ∙ e)))
