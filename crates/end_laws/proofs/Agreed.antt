-- What agreeing cores made gives nothing up, where it writes nothing.
use Rattle.std.proofs.Common.{◌≡◌, ◌≢◌, ◌∷◌, ◌++◌, ◌≤◌, ℕ, List, [], Some, is_some, refl, sym, ap, subst, arith, inl, inr, Contains, slice_get, nat_eq, get_or}
use Rattle.std.proofs.lemmas.Bool.{eq-eqb}
use Rattle.std.proofs.lemmas.List.Elements.{All-contains}
use Rattle.std.proofs.lemmas.Option.{slice_get-get_or}
use Rattle.sfs_image.specs.Super.{data_start}
use Rattle.space_map.specs.Pool.{status_of}
use Rattle.space_map.specs.declared.status.Status.TheVariants.{Free}
use Rattle.space_map.specs.Space.{GrantedNumbers}
use Rattle.disk_nodes.specs.OldKept.{OldKept}
use Rattle.cut_laws.specs.Rules.{IsOneOf}
use Rattle.cut_laws.proofs.Listed.{to_filter}
use Rattle.cut_laws.proofs.RunFacts.{in_filter}
use Rattle.stamp_table.specs.declared.event.Event.{Event}
use Rattle.stamp_table.specs.Events.{event_core}
use Rattle.stamp_table.specs.Rule.{entries_by}
use Rattle.mem_values.specs.Account.{commit_told}
use Rattle.mem_values.specs.Start.{FileState}
use Rattle.mem_values.specs.declared.fact.Fact.{Fact}
use Rattle.note_laws.specs.Run.{TableRun}
use Rattle.slot_laws.specs.declared.label.Label.{Label}
use Rattle.slot_laws.specs.Grants.{GoesAlong}
use Rattle.slot_laws.specs.Labels.{first_past}
use Rattle.slot_laws.specs.Lasts.{Reserving, ReservesIn, told_reserving}
use Rattle.slot_laws.proofs.GrantsTold.{reservings_take_the_least}
use Rattle.disk_box.specs.declared.key.BoxKey.{BoxKey}
use Rattle.fsync_commit.proofs.OnDisk.{space_on}
use Rattle.fsync_gather.proofs.Rising.{from_given, to_given}
use Rattle.site_laws.proofs.Given.{given_is}
use Rattle.flush_agrees.specs.Agreement.{FlushTold, run_to}
use Rattle.flush_agrees.specs.Closing.{AgreeAtEnd, AgreesInPart, HasStamps, MountLogs}
use Rattle.flush_agrees.specs.Made.{FlushMade, GrantsNeed}
use Rattle.flush_agrees.proofs.Closing.{agreements_end}
use Rattle.flush_agrees.proofs.Stamps.{stamps_are_given}
use Rattle.end_laws.specs.Fitting.{FreesNothing}
use Rattle.end_laws.specs.Agreed.{AgreedFreeNothing, CoresEnd, IsMadeOne}
use Rattle.end_laws.specs.Frees.{WasGranted}
use Rattle.end_laws.specs.Kept.{IsWellKept}
use Rattle.end_laws.specs.Runs.{AreToldWell, IsAboveSeen, IsGivenWell, IsToldWell}
use Rattle.end_laws.proofs.FreesReserved.{reserved_are_above}
use Rattle.end_laws.proofs.Runs.{runs_free_nothing}
use Rattle.end_laws.proofs.FreesTold.{HasReserved, has_reserved}

-- What stands in a list stands between a front and a back of it.
record IsBetween {X : Type 0} (xs : List X) (x : X) : Type 0 where
  front : List X
  back : List X
  whole : xs ≡ front ++ x ∷ back

between : {X : Type 0} (xs : List X) (x : X) → IsOneOf xs x → IsBetween xs x
between [] x among = absurd among
between (y ∷ xs) x (inl same) = record { front = []; back = xs; whole = ap (λ z. z ∷ xs) same }
between (y ∷ xs) x (inr among) =
    let more = between xs x among in record { front = y ∷ more.front; back = more.back; whole = ap (λ zs. y ∷ zs) more.whole }

module _ {D : Type 0} (t : FileState) (key : BoxKey D) (logs : MountLogs) (fsyncs : List (List FlushTold)) (all : CoresEnd t key logs fsyncs) where
  abbrev run : TableRun
  run = run_to t logs.log

  -- what the table was given is well kept
  given_well : IsGivenWell run
  given_well node old is =
      let there = given_is t.table.given.items node old is in
      subst (λ (kept : OldKept). IsWellKept kept.kept) there.old_is (all.given there.entry there.among)

  in_part : (core : ℕ) (told : List FlushTold) → slice_get fsyncs core ≡ Some told → AgreesInPart D t logs.labels core told
  in_part core told is =
      let it = all.each core told is in
      record {
        hand = it.hand;
        pen = it.pen;
        agree = it.agree;
        mine = subst (λ (c : ℕ). it.pen.view.mine ≡ entries_by event_core c logs.labels) it.core_is it.ends.mine;
      }

  stamps : HasStamps fsyncs
  stamps = stamps_are_given D t key logs.labels fsyncs all.lawful in_part

  -- a number of what was made was reserved
  reserved : (core : ℕ) (told : List FlushTold) (is : slice_get fsyncs core ≡ Some told) (one : FlushTold) (made : FlushMade) → IsOneOf told one
      → one.made ≡ Some made → HasReserved logs.labels (all.each core told is).pen.view.core made
  reserved core told is one made among got =
      let it = all.each core told is in
      let has = has_reserved t it.hand it.pen told it.agree stamps.stamps (stamps.each core told is) one made among got in
      record {
        one = has.one;
        among = (in_filter (λ (event : Event Label). nat_eq (event_core event) it.hand.view.core) logs.labels (told_reserving has.one)
            (subst (λ (events : List (Event Label)). IsOneOf events (told_reserving has.one)) it.ends.mine has.among)).0;
        number_is = has.number_is;
        grant_is = has.grant_is;
        sees = has.sees;
      }

  along : GoesAlong key.layout key.faults key.start logs.labels key.space all.goes.0
  along = record { may = all.lawful; no_inodes = all.box.no_inode; no_blocks = all.box.no_block; goes = all.goes.1 }

  -- a block that was granted is no superblock
  some_block : (one : Reserving) → IsOneOf logs.labels (told_reserving one) → (block : ℕ) → Contains one.grant.blocks block → block ≢ 0
  some_block one among block there hole =
      let place = between logs.labels (told_reserving one) among in
      let told : ReservesIn logs.labels one = record { front = place.front; back = place.back; whole = place.whole } in
      let took = reservings_take_the_least key.layout key.faults key.start logs.labels key.space all.goes.0 one told along in
      let on = space_on key.layout place.front (first_past key.start) key.space took.old took.along.goes all.box.space in
      let free : status_of took.old.blocks block ≡ Some Free = All-contains (λ number. status_of took.old.blocks number ≡ Some Free) one.grant.blocks
      block took.took.blocks.free there in
      let low = (on.blocks block (ap is_some free)).low in
      let first : 1 ≤ data_start key.layout = omega arith in
      omega (arith, low, first, hole)

  made_at : (core : ℕ) (told : List FlushTold) (is : slice_get fsyncs core ≡ Some told)
      → AgreeAtEnd t (all.each core told is).hand (all.each core told is).pen told logs
  made_at core told is = let it = all.each core told is in agreements_end D t it.hand it.pen told logs it.agree it.ends

  -- what was made was granted what it needs
  granted : (core : ℕ) (told : List FlushTold) (is : slice_get fsyncs core ≡ Some told) (one : FlushTold) (made : FlushMade) → IsOneOf told one
      → one.made ≡ Some made → WasGranted key.layout made
  granted core told is one made among got =
      let it = all.each core told is in
      let at = (made_at core told is).made one made among got in
      let has = reserved core told is one made among got in
      let ranges = all.box.fits.ranges in
      record {
        grants = subst (λ (k : BoxKey D). GrantsNeed k.layout made) it.key_is at.grants;
        few = omega (arith, ranges.blocks);
        some = λ block there. some_block has.one has.among block (subst (λ (g : GrantedNumbers). Contains g.blocks block) (sym has.grant_is) there);
      }

  -- and has a number above those that its core knew of
  above : (core : ℕ) (told : List FlushTold) (is : slice_get fsyncs core ≡ Some told) (one : FlushTold) (made : FlushMade) → IsOneOf told one
      → one.made ≡ Some made → IsAboveSeen made
  above core told is one made among got =
      let has = reserved core told is one made among got in
      let place = between logs.labels (told_reserving has.one) has.among in
      reserved_are_above key.layout key.faults key.start logs.labels has.one made
      (record { front = place.front; back = place.back; whole = place.whole }) all.lawful has.number_is has.sees

  -- each commit that the table tells was told by a core
  told_well : AreToldWell run key.layout
  told_well told there =
      let from = from_given commit_told logs.log told there in
      let low = all.own from.0 from.1 in
      of from.0 from.1 from.2 (slice_get-get_or fsyncs (event_core from.0) [] low)
    where
      of : (event : Event Fact) → IsOneOf logs.log event → commit_told event ≡ Some told
          → slice_get fsyncs (event_core event) ≡ Some (get_or fsyncs (event_core event) []) → IsToldWell run key.layout told
      of event among tells own =
          let core = event_core event in
          let it = all.each core (get_or fsyncs core []) own in
          let mine : IsOneOf it.hand.view.mine event = subst (λ (events : List (Event Fact)). IsOneOf events event) (sym it.mine)
          (to_filter (λ (e : Event Fact). nat_eq (event_core e) core) logs.log event among (eq-eqb core core refl)) in
          let at = (made_at core (get_or fsyncs core []) own).told told (to_given commit_told it.hand.view.mine event told mine tells) in
          record {
            made = at.made;
            tells = at.tells;
            granted = granted core (get_or fsyncs core []) own at.one at.made at.among at.is;
            above = above core (get_or fsyncs core []) own at.one at.made at.among at.is;
          }

  pub made_free : (made : FlushMade) → IsMadeOne fsyncs made → FreesNothing made
  made_free made is =
      runs_free_nothing run key.layout made given_well told_well ((made_at is.core is.told is.own).made is.one made is.among is.is).made_in

pub agreed_free_nothing : (D : Type 0) → AgreedFreeNothing D
agreed_free_nothing D t key logs fsyncs made all is = made_free t key logs fsyncs all made is
