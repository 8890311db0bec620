-- While a core has the box all that is told is its own, and neither takes the box nor brings it home.
use Rattle.std.proofs.Common.{◌≡◌, ◌∷◌, ◌++◌, ◌∙◌, ℕ, List, [], Some, cond, refl, sym, ap, subst, nat_eq}
use Rattle.sfs_base.proofs.BasicNumbers.{same_number}
use Rattle.sfs_image.specs.Super.{Layout}
use Rattle.cut_laws.specs.Closure.{Flush}
use Rattle.stamp_table.specs.declared.event.Event.{Event}
use Rattle.stamp_table.specs.declared.event.Event.TheVariants.{Called, Told}
use Rattle.stamp_table.specs.Events.{event_core}
use Rattle.stamp_table.specs.Rule.{entries_by}
use Rattle.slot_laws.specs.declared.label.Label.{Label}
use Rattle.slot_laws.specs.declared.label.Label.TheVariants as label
use Rattle.slot_laws.specs.Labels.{BoxPast, after_label}
use Rattle.slot_laws.specs.Rules.{MayFrom}
use Rattle.slot_laws.specs.Telling.{AreOfFlight, AreOfWork, BoxTurn, IsOfFlight, IsOfWork, IsTurnFor, labels_by, labels_in, turn_begins, turn_empties, turn_fails, turn_fails_begun, turn_lands, turn_opens, turn_refuses, turn_reserves, turn_returns, turn_works}
use Rattle.disk_box.specs.Pens.{IsAmid}
use Rattle.disk_box.proofs.Amid.{amid_busy}
use Rattle.disk_box.proofs.Still.{some_own, who_tells}

-- each of these labels is told while a core has the box
abbrev pub AreAmid : List Label → Type 0
AreAmid [] = Unit {0}
AreAmid (fact ∷ facts) = IsAmid fact × AreAmid facts

work_amid : (fact : Label) → IsOfWork fact → IsAmid fact
work_amid (label.Filled slot piece done) work = tt
work_amid (label.Synced now) work = tt
work_amid (label.Settled slot turn) work = tt
work_amid (label.Placed slot n done) work = tt
work_amid (label.Shut slot done) work = tt
work_amid (label.Idled slot) work = tt
work_amid (label.Opened slot done cut opened) work = absurd work
work_amid label.Took work = absurd work
work_amid label.Gave work = absurd work
work_amid (label.Noted turn) work = absurd work
work_amid (label.Reserved commit seen grant) work = absurd work
work_amid (label.Returned commit) work = absurd work
work_amid (label.Began filling commit node stamp blocks inodes) work = absurd work
work_amid (label.Learned turn) work = absurd work
work_amid (label.Empty commit cut opened durable) work = absurd work

flight_amid : (core number : ℕ) (flush : Flush) (fact : Label) → IsOfFlight core number flush fact → IsAmid fact
flight_amid core number flush (label.Opened slot done cut opened) of = tt
flight_amid core number flush (label.Filled slot piece done) of = tt
flight_amid core number flush (label.Synced now) of = tt
flight_amid core number flush (label.Settled slot turn) of = tt
flight_amid core number flush (label.Placed slot n done) of = tt
flight_amid core number flush (label.Shut slot done) of = tt
flight_amid core number flush (label.Idled slot) of = tt
flight_amid core number flush label.Took of = absurd of
flight_amid core number flush label.Gave of = absurd of
flight_amid core number flush (label.Noted turn) of = absurd of
flight_amid core number flush (label.Reserved commit seen grant) of = absurd of
flight_amid core number flush (label.Returned commit) of = absurd of
flight_amid core number flush (label.Began filling commit node stamp blocks inodes) of = absurd of
flight_amid core number flush (label.Learned turn) of = absurd of
flight_amid core number flush (label.Empty commit cut opened durable) of = absurd of

works_amid : (facts more : List Label) → AreOfWork facts → AreAmid more → AreAmid (facts ++ more)
works_amid [] more work rest = rest
works_amid (fact ∷ facts) more work rest = (work_amid fact work.0, works_amid facts more work.1 rest)

flights_amid : (core number : ℕ) (flush : Flush) (facts more : List Label) → AreOfFlight core number flush facts → AreAmid more → AreAmid (facts ++ more)
flights_amid core number flush [] more of rest = rest
flights_amid core number flush (fact ∷ facts) more of rest =
    (flight_amid core number flush fact of.0, flights_amid core number flush facts more of.1 rest)

all_work : (facts : List Label) → AreOfWork facts → AreAmid facts
all_work [] work = tt
all_work (fact ∷ facts) work = (work_amid fact work.0, all_work facts work.1)

-- so is each that is told in one turn
pub turn_amid : (core number : ℕ) (flush : Flush) (one : BoxTurn) → IsTurnFor core number flush one → AreAmid (labels_in one)
turn_amid core number flush (turn_works facts) is = all_work facts is
turn_amid core number flush (turn_refuses turn) is = (tt, tt)
turn_amid core number flush (turn_reserves own seen grant turn) is = (tt, (tt, tt))
turn_amid core number flush (turn_returns own turn) is = (tt, (tt, tt))
turn_amid core number flush (turn_empties own seen cut opened durable) is = (tt, (tt, tt))
turn_amid core number flush (turn_begins filling own node stamp blocks inodes) is = (tt, tt)
turn_amid core number flush (turn_opens slot done cut opened) is = (tt, tt)
turn_amid core number flush (turn_lands turn) is = (tt, tt)
turn_amid core number flush (turn_fails facts cut fail) is = works_amid facts (label.Noted cut ∷ label.Noted fail ∷ []) is.0 (tt, (tt, tt))
turn_amid core number flush (turn_fails_begun facts fail) is = flights_amid core number flush facts (label.Noted fail ∷ []) is.0 (tt, tt)

-- what is told from where a core has the box on is its own, where its own labels are such
pub all_own : (layout : Layout) (before core : ℕ) (more : List (Event Label)) (past : BoxPast) (facts : List Label) → MayFrom layout before more past
    → past.busy ≡ Some core → entries_by event_core core more ≡ labels_by core facts → AreAmid facts → entries_by event_core core more ≡ more
all_own layout before core [] past facts may busy mine amid = refl
all_own layout before core (Called entry ∷ more) past facts may busy mine amid = absurd may.0
all_own layout before core (Told other fact ∷ more) past [] may busy mine amid =
    absurd (some_own core (Told other fact) more (who_tells other.0 core fact past.busy may.0.0 busy) mine)
all_own layout before core (Told other fact ∷ more) past (first ∷ facts) may busy mine amid =
    let own = who_tells other.0 core fact past.busy may.0.0 busy in
    let event : Event Label = Told other fact in
    let there : entries_by event_core core (event ∷ more) ≡ event ∷ entries_by event_core core more =
    ap (λ b. cond b (event ∷ entries_by event_core core more) (entries_by event_core core more)) (ap (λ n. nat_eq n core) own ∙ same_number core)
    in
    let whole : event ∷ entries_by event_core core more ≡ Told (record { 0 = core }) first ∷ labels_by core facts = sym there ∙ mine in
    let fact_is : fact ≡ first = cc whole in
    let rest : entries_by event_core core more ≡ labels_by core facts = cc whole in
    let busy_still : (after_label layout other.0 fact past).busy ≡ Some core =
    amid_busy layout fact other.0 past (subst IsAmid (sym fact_is) amid.0) ∙ busy
    in
    there ∙ ap (λ l. event ∷ l) (all_own layout before core more (after_label layout other.0 fact past) facts may.1 busy_still rest amid.1)
