-- The commits that turns have opened and not made durable, along labels.
use Rattle.std.specs.List.{cons_option}
use Rattle.std.proofs.Common.{◌≢◌, ◌≡◌, ◌++◌, ◌∷◌, ◌∙◌, if◌then◌else◌, ◌⊎◌, ℕ, List, refl, None, [], ap, append-nil, inl, inr, sym, Bool, filter, true, false, Some, map, subst}
use Rattle.std.proofs.lemmas.List.Elements.{filter_map-append}
use Rattle.sfs_image.specs.ImageOf.{InodePart}
use Rattle.sfs_image.specs.Super.{Layout}
use Rattle.space_map.specs.Space.{Space}
use Rattle.tree_laws.specs.declared.turns.TurnAct.TheVariants as act
use Rattle.tree_laws.specs.declared.turns.TurnAct.{TurnAct}
use Rattle.tree_laws.specs.declared.turns.Turn.{Turn}
use Rattle.disk_nodes.specs.declared.old.OldEntry.{OldEntry}
use Rattle.cut_laws.specs.Closure.{Flush}
use Rattle.cut_laws.specs.Rules.{IsOneOf}
use Rattle.cut_laws.proofs.RunFacts.{in_filter}
use Rattle.cut_laws.proofs.Basics.{in_left, in_right, in_either}
use Rattle.flush_laws.specs.Volume.{Volume}
use Rattle.turn_laws.specs.LawsTurns.{durable_by_act, durable_flush}
use Rattle.turn_laws.specs.Books.{flush_at}
use Rattle.merge_laws.specs.Plays.{durables}
use Rattle.merge_laws.proofs.Lists.{joined_at, nothing_there, heads_are}
use Rattle.book_laws.specs.Imagined.{flush_brought}
use Rattle.book_laws.specs.Walk.{brought_under}
use Rattle.book_laws.specs.Pairs.{bringing_under}
use Rattle.slot_laws.specs.Labels.{BoxPast, SlotFlight}
use Rattle.slot_image_laws.specs.Images.{DiskBooks, book_act, RunStart, disk_books, first_books}
use Rattle.slot_image_laws.proofs.Trails.{books_more}
use Rattle.imagined_laws.specs.Parts.{parts_once}
use Rattle.close_laws.specs.Maps.{Numbered, bringing_of}
use Rattle.close_laws.specs.Beside.{BeginsLabels, stamps_under, brought_at}
use Rattle.close_laws.specs.Fronts.{DifferBy, WasOpened, IsOneRecord, AreOneRecord, ImaginedPlace}
use Rattle.close_laws.proofs.Words.{run_from, flying}

-- turns that neither open a commit nor make one durable
pub books_stay : (gives : ℕ → List InodePart) (did : TurnAct) (commit : ℕ) (books : DiskBooks) → did ≢ act.Opened → did ≢ act.Durable
    → book_act gives did commit books ≡ books
books_stay gives act.Opened commit books away apart = absurd (away refl)
books_stay gives act.Durable commit books away apart = absurd (apart refl)
books_stay gives act.Granted commit books away apart = refl
books_stay gives act.GivenBack commit books away apart = refl
books_stay gives (act.Short kind asked have) commit books away apart = refl
books_stay gives act.CutAt commit books away apart = refl
books_stay gives act.Fail commit books away apart = refl
books_stay gives act.Halted commit books away apart = refl

none_durable : (did : TurnAct) (flush : Flush) → did ≢ act.Durable → durable_by_act did flush ≡ None
none_durable act.Durable flush away = absurd (away refl)
none_durable act.Opened flush away = refl
none_durable act.Granted flush away = refl
none_durable act.GivenBack flush away = refl
none_durable (act.Short kind asked have) flush away = refl
none_durable act.CutAt flush away = refl
none_durable act.Fail flush away = refl
none_durable act.Halted flush away = refl

pub durables_stay : (turns : List Turn) (turn : Turn) → turn.act ≢ act.Durable → durables (turns ++ turn ∷ []) ≡ durables turns
durables_stay turns turn away =
    filter_map-append durable_flush turns (turn ∷ [])
    ∙ (ap (λ o. durables turns ++ cons_option o []) (none_durable turn.act (flush_at turn) away) ∙ append-nil (durables turns))

pub durables_more : (turns : List Turn) (turn : Turn) → turn.act ≡ act.Durable → durables (turns ++ turn ∷ []) ≡ durables turns ++ flush_at turn ∷ []
durables_more turns turn did =
    filter_map-append durable_flush turns (turn ∷ []) ∙ ap (λ a. durables turns ++ cons_option (durable_by_act a (flush_at turn)) []) did

-- one more that has another number
pub differ_more : {X : Type 0} (key : X → ℕ) (xs : List X) (x : X) → DifferBy key xs → ((y : X) → IsOneOf xs y → key y ≢ key x) → DifferBy key (xs ++ x ∷ [])
differ_more key [] x differ apart = ((λ y among. absurd among), tt)
differ_more key (z ∷ xs) x differ apart = (
  (λ y among. elim (in_either xs (x ∷ []) y among) [
    | inl old ↦ differ.0 y old
    | inr new ↦ elim new [ inl same ↦ λ e. apart z (inl refl) (sym e ∙ ap key (sym same)) | inr never ↦ absurd never ]
  ]),
  differ_more key xs x differ.1 (λ y among. apart y (inr among)),
)

pub differ_fewer : {X : Type 0} (key : X → ℕ) (test : X → Bool) (xs : List X) → DifferBy key xs → DifferBy key (filter test xs)
differ_fewer key test [] differ = tt
differ_fewer key test (x ∷ xs) differ = by (test x) (differ_fewer key test xs differ.1)
  where
    by : (b : Bool) → DifferBy key (filter test xs) → DifferBy key (if b then x ∷ filter test xs else filter test xs)
    by true rest = ((λ y among. differ.0 y (in_filter test xs y among).0), rest)
    by false rest = rest

module _ (layout : Layout) (start : Volume) (entries : List OldEntry) (named : Numbered) (first : Space) (begins : BeginsLabels layout start entries first)
    (moment : ℕ) (before : ℕ) where
  abbrev run : RunStart
  run = run_from layout moment start named

  abbrev books_at : List Turn → DiskBooks
  books_at turns = disk_books run turns

  pub books_on : (turns : List Turn) (turn : Turn) → books_at (turns ++ turn ∷ []) ≡ book_act run.gives turn.act turn.commit (books_at turns)
  books_on turns turn = books_more run.gives turns (turn ∷ []) (first_books run)

  -- with one turn more that neither opens a commit nor makes one durable they stay
  pub books_quiet : (turns : List Turn) (turn : Turn) → turn.act ≢ act.Opened → turn.act ≢ act.Durable → books_at (turns ++ turn ∷ []) ≡ books_at turns
  books_quiet turns turn no_open no_durable = books_on turns turn ∙ books_stay run.gives turn.act turn.commit (books_at turns) no_open no_durable

  -- a core's commit flies, whose gate was written
  pub record FliesAt (past : BoxPast) (number : ℕ) : Type 0 where
    pub core : ℕ
    pub flight : SlotFlight
    pub is : (past.owns core).flight ≡ Some flight
    pub number_is : flight.commit ≡ number
    pub opened : flight.opened ≡ true
    pub waits : past.waits core ≡ None

  -- What is so of the commits that turns have opened and not made durable, and of those that are durable.
  pub record FliesSo (past : BoxPast) : Type 0 where
    pub flown : (number : ℕ) → IsOneOf (books_at past.turns).flying number → FliesAt past number
    pub once : DifferBy named.stamps (books_at past.turns).flying
    pub differ : DifferBy (λ stamp. stamp) (stamps_under named past.done)
    pub flushes : map flush_brought (brought_at named past) ≡ durables past.turns
    pub opened : (number : ℕ) → IsOneOf (books_at past.turns).flying number → WasOpened named past.turns number
    pub own : (stamp : ℕ) → IsOneOf (stamps_under named past.done) stamp → (bringing_under named.pairs stamp).flush.stamp ≡ stamp

  pub opened_on : (turns more : List Turn) (number : ℕ) → WasOpened named turns number → WasOpened named (turns ++ more) number
  opened_on turns more number was =
      record { turn = was.turn; among = in_left turns more was.turn was.among; did = was.did; own = was.own; stamp_is = was.stamp_is }

  abbrev Front : List Turn → Type 0
  Front = IsOneRecord start named run

  -- what is so of a front, with these fsyncs done and those open
  pub record FrontAt (done opens : List ℕ) (front : List Turn) : Type 0 where
    pub place : ImaginedPlace start named done opens
    pub flushes : map flush_brought (brought_under named.pairs done) ≡ durables front
    pub base : (disk_books run front).base ≡ parts_once (brought_under named.pairs done) start.parts
    pub flies : (number : ℕ) → IsOneOf (disk_books run front).flying number → IsOneOf opens (named.stamps number) × WasOpened named front number
    pub own : (stamp : ℕ) → IsOneOf done stamp → (bringing_under named.pairs stamp).flush.stamp ≡ stamp
    pub differ : DifferBy (λ stamp. stamp) done
    pub once : DifferBy named.stamps (disk_books run front).flying

  pub as_record : (done opens : List ℕ) (front : List Turn) → FrontAt done opens front → Front front
  as_record done opens front at = record {
    done = done;
    opens = opens;
    place = at.place;
    flushes = at.flushes;
    base = at.base;
    flies = at.flies;
    own = at.own;
    once = (at.differ, at.once);
  }

  -- a front with one turn more that opens nothing and makes nothing durable
  pub front_quiet : (done opens : List ℕ) (front : List Turn) (turn : Turn) → turn.act ≢ act.Opened → turn.act ≢ act.Durable → FrontAt done opens front
      → FrontAt done opens (front ++ turn ∷ [])
  front_quiet done opens front turn no_open no_end at =
      let same = books_quiet front turn no_open no_end in
      record {
        place = at.place;
        flushes = at.flushes ∙ sym (durables_stay front turn no_end);
        base = ap (λ (b : DiskBooks). b.base) same ∙ at.base;
        flies = λ number one.
            let was = at.flies number (subst (λ (b : DiskBooks). IsOneOf b.flying number) same one) in
            (was.0, opened_on front (turn ∷ []) number was.1);
        own = at.own;
        differ = at.differ;
        once = subst (λ (b : DiskBooks). DifferBy named.stamps b.flying) (sym same) at.once;
      }

  -- one with a turn more that opens a commit
  pub front_opened : (done opens : List ℕ) (front : List Turn) (turn : Turn) (number : ℕ) (at : FrontAt done opens front) → turn.act ≡ act.Opened
      → turn.commit ≡ number
      → IsOneOf opens (named.stamps number) → ((other : ℕ) → IsOneOf (books_at front).flying other → named.stamps other ≢ named.stamps number)
      → (bringing_of named number).flush ≡ flush_at turn → turn.stamp.0 ≡ named.stamps number → FrontAt done opens (front ++ turn ∷ [])
  front_opened done opens front turn number at did of open_one apart own stamp_is =
      let same : books_at (front ++ turn ∷ []) ≡ record (books_at front) { flying = (books_at front).flying ++ number ∷ [] } =
      books_on front turn ∙ ap (λ (p : TurnAct × ℕ). book_act run.gives p.0 p.1 (books_at front)) (λ i. (did i, of i)) in
      let no_end : turn.act ≢ act.Durable = λ e. never_both (sym did ∙ e) in
      record {
        place = at.place;
        flushes = at.flushes ∙ sym (durables_stay front turn no_end);
        base = ap (λ (b : DiskBooks). b.base) same ∙ at.base;
        flies = λ other one. elim (in_either (books_at front).flying (number ∷ []) other (subst (λ (b : DiskBooks). IsOneOf b.flying other) same one)) [
          | inl old ↦ let was = at.flies other old in (was.0, opened_on front (turn ∷ []) other was.1)
          | inr new ↦ elim new [
            | inl is ↦ (
              subst (λ n. IsOneOf opens (named.stamps n)) is open_one,
              subst (WasOpened named (front ++ turn ∷ [])) is
                  (record { turn = turn; among = in_right front (turn ∷ []) turn (inl refl); did = did; own = own; stamp_is = stamp_is }),
            )
            | inr never ↦ absurd never
          ]
        ];
        own = at.own;
        differ = at.differ;
        once = subst (λ (b : DiskBooks). DifferBy named.stamps b.flying) (sym same) (differ_more named.stamps (books_at front).flying number at.once apart);
      }
    where
      never_both : act.Opened ≡ act.Durable → ⊥
      never_both e = cc e

  -- fronts of turns with one more
  front_split : (turns : List Turn) (turn : Turn) (front back : List Turn) → turns ++ turn ∷ [] ≡ front ++ back
      → (front ≡ turns ++ turn ∷ []) ⊎ ((more : List Turn) × (turns ≡ front ++ more))
  front_split turns turn front [] e = inl (sym (e ∙ append-nil front))
  front_split turns turn front (x ∷ back) e = elim (joined_at turns (turn ∷ []) front x back e) [
    | inl cut ↦ inr (x ∷ cut.others, cut.whole)
    | inr cut ↦ inr (by cut.more cut.back cut.front_is cut.whole)
  ]
    where
      by : (more rest : List Turn) → front ≡ turns ++ more → turn ∷ [] ≡ more ++ x ∷ rest → (later : List Turn) × (turns ≡ front ++ later)
      by [] rest front_is whole = ([], sym (append-nil turns) ∙ (sym front_is ∙ sym (append-nil front)))
      by (y ∷ more) rest front_is whole = absurd (nothing_there more x rest (heads_are turn y [] (more ++ x ∷ rest) whole).1)

  pub fronts_push : (turns : List Turn) (turn : Turn) → AreOneRecord start named run turns → Front (turns ++ turn ∷ [])
      → AreOneRecord start named run (turns ++ turn ∷ [])
  fronts_push turns turn fronts whole front back e = elim (front_split turns turn front back e) [
    | inl all ↦ subst Front (sym all) whole
    | inr less ↦ fronts front less.0 less.1
  ]
