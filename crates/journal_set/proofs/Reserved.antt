-- A core reserves a number: what lies in the box goes on to fit.
use Rattle.std.proofs.Common.{◌≡◌, ◌≢◌, ◌+◌, ◌*◌, ◌<◌, ◌≤◌, ◌∙◌, ℕ, zero, suc, Bool, true, false, List, length, slice_set, slice_index_or, Option, Some, None, inl, inr, refl, sym, ap, subst, arith, option_map}
use Rattle.std.proofs.lemmas.List.{get_or-set_other, length-set}
use Rattle.std.proofs.lemmas.Grind.{get_or-set_at}
use Rattle.sfs_base.specs.Lists.{Roomy}
use Rattle.sfs_base.proofs.BasicOptions.{some_not_none}
use Rattle.sfs_dev.specs.Disk.{View}
use Rattle.space_map.specs.Space.{GrantedNumbers}
use Rattle.tree_laws.specs.declared.turns.Turn.{Turn}
use Rattle.merge_laws.proofs.Blocks.{same_or_not}
use Rattle.slot_laws.specs.declared.label.Seen.{Seen}
use Rattle.slot_laws.specs.declared.label.Label.TheVariants as label
use Rattle.slot_laws.specs.Nodes.{last_seen, last_ended}
use Rattle.slot_laws.specs.Labels.{BoxPast, OwnTold, SlotFlight, after_label, own_label}
use Rattle.slot_laws.specs.Rules.{ReservedRule}
use Rattle.slot_laws.specs.Fits.{PastFits}
use Rattle.slot_image_laws.proofs.Running.{told_labels_fit}
use Rattle.commit_ledger.specs.View.{LedgerView, OpenView, open_in, HaveNodePlaces}
use Rattle.commit_ledger.specs.Keeps.{LedgerGoes}
use Rattle.commit_ledger.specs.Calls.{EntersCommit, MayEnter}
use Rattle.disk_box.specs.declared.key.BoxKey.{BoxKey}
use Rattle.disk_box.specs.declared.desk.Desk.{Desk}
use Rattle.disk_box.specs.Desk.{DeskFits, FrameFits, open_for, open_told, owed_by, owed_in, owed_of}
use Rattle.disk_box.proofs.Frames.{own_after, others_after}

-- no core may take more turns than a commit has
owed_flight : (flight : Option SlotFlight) → owed_in flight ≤ 3
owed_flight None = omega arith
owed_flight (Some flight) = most flight.opened where
  most : (opened : Bool) → Rattle.std.proofs.Common.cond opened 1 3 ≤ 3
  most true = omega arith
  most false = omega arith

owed_few : (own : OwnTold) (waits : Option Turn) → owed_of own waits ≤ 3
owed_few own (Some turn) = omega arith
owed_few own None = by own.over (Rattle.std.proofs.Common.is_some own.reserved) where
  by : (over reserved : Bool) → Rattle.std.proofs.Common.cond over 0 (Rattle.std.proofs.Common.cond reserved 3 (owed_in own.flight)) ≤ 3
  by true reserved = omega arith
  by false true = omega arith
  by false false = owed_flight own.flight

pub owed_most : (n : ℕ) (past : BoxPast) → owed_by n past ≤ 3 * n
owed_most zero past = omega arith
owed_most (suc n) past = let front = owed_most n past in let last = owed_few (past.owns n) (past.waits n) in omega arith

-- where what an option maps to is nothing, it is nothing
none_mapped : {X Y : Type 0} (f : X → Y) (o : Option X) → option_map f o ≡ None → o ≡ None
none_mapped f None is = refl
none_mapped f (Some x) is = absurd (some_not_none is)

-- A core that has nothing due.
module _ {D : Type 0} (view : D → View) (key : BoxKey D) (core : ℕ) (past : BoxPast) (fits : PastFits key.layout key.faults past) (was : Desk D)
    (frame : FrameFits view key past was) (low : core < key.layout.cores) (none : (past.owns core).reserved ≡ None) (rests : (past.owns core).flight ≡ None)
  where
    pub waits_none : past.waits core ≡ None
    waits_none = fits.flights.idle core rests

    nothing : open_for (past.owns core) (past.waits core) ≡ None
    nothing =
        ap (open_for (past.owns core)) waits_none
        ∙ ap (λ (z : Option ℕ × Option SlotFlight). Rattle.std.specs.Option.option_or (option_map (λ number. (number, false)) z.0)
        (option_map (λ (f : SlotFlight). (f.commit, true)) z.1)) (λ i. (none i, rests i))

    pub none_open : open_in was.ledger core ≡ None
    none_open = none_mapped open_told (open_in was.ledger core) (frame.opens core ∙ nothing)

    -- it may have one
    pub may_enter : (mid : LedgerView) (seen : List Seen) → mid.opens ≡ was.ledger.opens → HaveNodePlaces mid.lasts seen → MayEnter core seen mid
    may_enter mid seen same places = record {
      within = subst (λ n. core < n) (sym (ap length same ∙ frame.places)) low;
      none = ap (λ (l : List (Option OpenView)). slice_index_or l core None) same ∙ none_open;
      places = places;
    }

    -- It has reserved this number.
    module _ (number : ℕ) (nodes : Roomy Seen) (grant : GrantedNumbers) (calm : past.failed ≡ None) (next : number ≡ past.commits + 1)
        (unmoved : (node last : ℕ) → last_seen nodes.items node ≡ Some last → past.lasts node ≡ last_ended last) where
      pub reserved_rule : ReservedRule core number nodes.items past
      reserved_rule = record { calm = calm; next = next; none = none; rests = rests; unmoved = unmoved }

      abbrev later : BoxPast
      later = after_label key.layout core (label.Reserved number nodes grant) past

      own_now : later.owns core ≡ own_label (label.Reserved number nodes grant) (past.owns core)
      own_now = own_after key.layout core (label.Reserved number nodes grant) past

      -- and is entered in the ledger
      module _ (mid next_ledger : LedgerView) (same : mid.opens ≡ was.ledger.opens) (enters : EntersCommit core number nodes.items mid next_ledger)
          (goes : LedgerGoes (label.Reserved number nodes grant) past was.ledger next_ledger) where
        abbrev entered : OpenView
        entered = record { number = number; seen = nodes.items; debt = None }

        opens_are : next_ledger.opens ≡ slice_set was.ledger.opens core (Some entered)
        opens_are = enters.opens ∙ ap (λ (l : List (Option OpenView)). slice_set l core (Some entered)) same

        open_entered : (other : ℕ) → option_map open_told (open_in next_ledger other) ≡ open_for (later.owns other) (past.waits other)
        open_entered other = elim (same_or_not other core) [
          | inl is ↦
              ap (λ (l : List (Option OpenView)). option_map open_told (slice_index_or l other None)) opens_are
              ∙ (ap (option_map open_told) (get_or-set_at was.ledger.opens core other (Some entered) None is (subst (λ n. core < n) (sym frame.places) low))
              ∙ (sym (λ i. open_for (own_now i) (waits_none i)) ∙ ap (λ c. open_for (later.owns c) (past.waits c)) (sym is)))
          | inr not ↦
              ap (λ (l : List (Option OpenView)). option_map open_told (slice_index_or l other None)) opens_are
              ∙ (ap (option_map open_told) (get_or-set_other was.ledger.opens core other (Some entered) None not)
              ∙ (frame.opens other ∙ ap (λ (o : OwnTold). open_for o (past.waits other))
              (sym (others_after key.layout core (label.Reserved number nodes grant) past other not))))
        ]

        pub entered_frame : FrameFits view key later (record was { ledger = next_ledger })
        entered_frame = record {
          layout = frame.layout;
          large = frame.large;
          laws = frame.laws;
          count = frame.count;
          cores = frame.cores;
          waits = frame.waits;
          ledger = goes.keeps key.layout core;
          places = ap length opens_are ∙ (length-set was.ledger.opens core (Some entered) ∙ frame.places);
          opens = open_entered;
          stamps = frame.stamps;
          faults = frame.faults;
          failed = frame.failed;
          turns = frame.turns;
          few = frame.few;
          moment = frame.moment;
          since = frame.since;
          run = told_labels_fit (view was.disk) key.layout key.faults core key.start (label.Reserved number nodes grant) past fits reserved_rule tt
              (frame.laws was.disk) frame.run;
        }

        pub entered_fits : DeskFits view key past was → 4 * key.layout.cores ≤ was.turns.spare → DeskFits view key later (record was { ledger = next_ledger })
        entered_fits old room = record {
          frame = entered_frame;
          room = (let most = owed_most key.layout.cores later in omega (arith, most, room));
          faults = old.faults;
          slots = old.slots;
        }
