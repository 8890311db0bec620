use Rattle.std.proofs.Common.{◌≡◌, ◌+◌, ◌∷◌, ◌++◌, ◌∙◌, ℕ, [], length, Some, None, refl, sym, ap, subst, arith}
use Rattle.sfs_base.specs.Lists.{Roomy}
use Rattle.space_map.specs.Space.{GrantedNumbers}
use Rattle.tree_laws.specs.Tree.{TreeState}
use Rattle.stamp_table.specs.declared.event.Event.{Event}
use Rattle.stamp_table.specs.declared.event.Event.TheVariants.{Told}
use Rattle.stamp_table.specs.declared.view.View.{View as Sight}
use Rattle.slot_laws.specs.declared.label.Label.{Label}
use Rattle.slot_laws.specs.declared.label.Label.TheVariants as label
use Rattle.slot_laws.specs.declared.label.Seen.{Seen}
use Rattle.slot_laws.specs.Nodes.{last_ended, last_seen}
use Rattle.slot_laws.specs.Labels.{OwnTold, first_past}
use Rattle.slot_laws.specs.Rules.{MayLabel, ReservedRule}
use Rattle.slot_laws.specs.Grants.{SpaceGoes, TakesGrant}
use Rattle.commit_ledger.specs.Calls.{EntersCommit, MayEnter}
use Rattle.commit_ledger.specs.Keeps.{LedgerGoes}
use Rattle.commit_ledger.specs.View.{HaveNodePlaces}
use Rattle.disk_box.specs.declared.key.BoxKey.{BoxKey}
use Rattle.disk_box.specs.declared.desk.Desk.{Desk}
use Rattle.disk_box.specs.Pens.{PenHand, TellsLabel, past_at}
use Rattle.disk_box.proofs.After.{at_told, failed_told, past_fits_at}
use Rattle.disk_box.proofs.Owes.{owns_own}
use Rattle.journal_set.specs.Grants.{grant_from}
use Rattle.journal_set.proofs.Parts.{grant_more, same_grant, same_nodes}
use Rattle.journal_set.proofs.Newer.{mine_among, newer_than}
use Rattle.journal_set.proofs.Rising.{seen_below}
use Rattle.journal_set.proofs.Reserved.{entered_fits, may_enter, reserved_rule}
use Rattle.journal_set.proofs.numbering.number_commit.Goals as goal

pub note-requires-clause-may : goal.note-requires-clause-may
note-requires-clause-may g c κs within =
    let pen = c.args.pen.now in
    let desk = c.args.desk.now in
    let work = c.requires.may.work in
    let own = owns_own c.args.table.now pen work.holds in
    let ok = c.in_ok-prepared.ensures.ok in
    let made = c.in_ok-prepared.prepared in
    let next = ok.number ∙ ap (λ n. n + 1) work.fits.frame.ledger.commits in
    let unmoved = subst (λ l. (node last : ℕ) → last_seen l node ≡ Some last → (past_at pen).lasts node ≡ last_ended last) (sym ok.seen_is)
    c.requires.may.unmoved in
    subst (λ (l : Label). MayLabel pen.table.given.layout pen.table.given.faults pen.view.core l (past_at pen)) (sym c.label_for-label.ensures)
    (reserved_rule g.D.Disk.view pen.table.given pen.view.core (past_at pen) (past_fits_at c.args.table.now pen work.holds) desk work.fits.frame
    work.holds.core_is (ap (λ (o : OwnTold). o.reserved) own ∙ c.requires.may.rests.0) (ap (λ (o : OwnTold). o.flight) own ∙ c.requires.may.rests.1) made.number
    made.seen made.grant work.calm next unmoved)

pub enter-requires : goal.enter-requires
enter-requires g c =
    let pen = c.args.pen.now in
    let desk = c.args.desk.now in
    let work = c.requires.may.work in
    let own = owns_own c.args.table.now pen work.holds in
    let ok = c.in_ok-prepared.ensures.ok in
    let made = c.in_ok-prepared.prepared in
    let parts = c.parts_of-nodes.ensures in
    let nodes = same_nodes made.number parts.0 made.seen c.parts_of-nodes.result.0 made.grant c.parts_of-nodes.result.1
    (sym c.label_for-label.ensures ∙ parts.1)
    in
    let places = subst (λ l. HaveNodePlaces c.prepare.new.self.lasts l) (sym ok.seen_is ∙ ap (λ (r : Roomy Seen). r.items) nodes) ok.places in
    let enter = may_enter g.D.Disk.view pen.table.given pen.view.core (past_at pen) (past_fits_at c.args.table.now pen work.holds) desk work.fits.frame
    work.holds.core_is (ap (λ (o : OwnTold). o.reserved) own ∙ c.requires.may.rests.0) (ap (λ (o : OwnTold). o.flight) own ∙ c.requires.may.rests.1)
    c.prepare.new.self c.parts_of-nodes.result.0.items ok.taken.opens places
    in
    let core_same = ap (λ (v : Sight TreeState (Event Label)). v.core) c.note.ensures.tells.goes.view in
    record { may = subst (λ n. MayEnter n c.parts_of-nodes.result.0.items c.prepare.new.self) (sym (c.number.ensures ∙ core_same)) enter }

pub returns-clause-ok : goal.returns-clause-ok
returns-clause-ok g c =
    let D = g.row.D.Denot in
    let t = c.args.table.now in
    let pen = c.args.pen.now in
    let after = c.note.new.pen in
    let desk = c.args.desk.now in
    let work = c.requires.may.work in
    let own = owns_own t pen work.holds in
    let ok = c.in_ok-prepared.ensures.ok in
    let made = c.in_ok-prepared.prepared in
    let parts = c.parts_of-nodes.ensures in
    let told : Label = label.Reserved made.number made.seen made.grant in
    let both = sym c.label_for-label.ensures ∙ parts.1 in
    let nodes = same_nodes made.number parts.0 made.seen c.parts_of-nodes.result.0 made.grant c.parts_of-nodes.result.1 both in
    let grants = same_grant made.number parts.0 made.seen c.parts_of-nodes.result.0 made.grant c.parts_of-nodes.result.1 both in
    let tells : TellsLabel told pen after = subst (λ (l : Label). TellsLabel l pen after) c.label_for-label.ensures c.note.ensures.tells in
    let core_same = ap (λ (v : Sight TreeState (Event Label)). v.core) tells.goes.view in
    let none = ap (λ (o : OwnTold). o.reserved) own ∙ c.requires.may.rests.0 in
    let rests = ap (λ (o : OwnTold). o.flight) own ∙ c.requires.may.rests.1 in
    let next = ok.number ∙ ap (λ n. n + 1) work.fits.frame.ledger.commits in
    let unmoved = subst (λ l. (node last : ℕ) → last_seen l node ≡ Some last → (past_at pen).lasts node ≡ last_ended last) (sym ok.seen_is)
    c.requires.may.unmoved in
    let fits = past_fits_at t pen work.holds in
    let rule = reserved_rule g.D.Disk.view pen.table.given pen.view.core (past_at pen) fits desk work.fits.frame work.holds.core_is none rests made.number
    made.seen made.grant work.calm next unmoved
    in
    let enters : EntersCommit pen.view.core made.number made.seen.items c.prepare.new.self c.enter.new.self =
    subst (λ (z : ℕ × Roomy Seen). EntersCommit z.0 made.number z.1.items c.prepare.new.self c.enter.new.self) (λ i. (
      (c.number.ensures ∙ core_same) i,
      sym
          nodes i,
    ))
    c.enter.ensures.enters
    in
    let goes : LedgerGoes told (past_at pen) desk.ledger c.enter.new.self =
    subst (λ (r : Roomy Seen). LedgerGoes (label.Reserved made.number r made.grant) (past_at pen) desk.ledger c.enter.new.self) (sym nodes)
    (c.enter.ensures.goes desk.ledger made.grant (past_at pen) ok.taken work.fits.frame.ledger
    (subst (λ (z : ℕ × Roomy Seen). ReservedRule z.0 made.number z.1.items (past_at pen)) (λ i. (sym (c.number.ensures ∙ core_same) i, nodes i)) rule))
    in
    let now : Desk D = record desk { ledger = c.enter.new.self } in
    let at = at_told g.D.Disk.view t pen after told c.note.ensures.holds tells desk now work.space (goes.space (record { 0 = pen.view.core }))
    (entered_fits g.D.Disk.view pen.table.given pen.view.core (past_at pen) fits desk work.fits.frame work.holds.core_is none rests made.number made.seen
    made.grant work.calm next unmoved c.prepare.new.self c.enter.new.self ok.taken.opens enters goes work.fits c.requires.may.room)
    in
    let key_same : after.table.given ≡ pen.table.given = ap (λ (h : PenHand D). h.table.given) tells.goes.frame in
    record {
      goes = tells.goes;
      room = tells.room;
      own = tells.own;
      grant = ap (λ l. grant_from l None) tells.mine_is ∙ (grant_more pen.view.mine told pen.view.core None ∙ ap Some grants);
      newer = λ other one. newer_than pen.table.given pen.view.seen work.holds.lawful made.number next other (mine_among t pen work.holds other one);
      reserved = record {
        front = pen.view.seen;
        back = [];
        told = made.seen;
        seen_is = ok.seen_is;
        whole = tells.seen_is
            ∙ (λ i. pen.view.seen ++ Told (record { 0 = sym core_same i }) (label.Reserved made.number made.seen (grants i)) ∷ []);
        space = desk.ledger.space;
        goes = subst (λ (k : BoxKey _). SpaceGoes k.layout pen.view.seen (first_past k.start) k.space desk.ledger.space) (sym key_same) work.space;
        enough = c.in_ok-prepared.ensures.enough;
        next = c.enter.new.self.space;
        took = subst (λ (numbers : GrantedNumbers). TakesGrant desk.ledger.space numbers c.enter.new.self.space) grants
            (goes.space (record { 0 = pen.view.core }));
        numbered = omega (arith, next);
        above = λ node last seen. seen_below pen.table.given pen.view.seen work.holds.lawful made.number next node last (c.requires.may.unmoved node last seen);
        inodes = ap (λ (n : GrantedNumbers). length n.inodes) (sym grants) ∙ ok.inodes;
        blocks = ap (λ (n : GrantedNumbers). length n.blocks) (sym grants) ∙ ok.blocks;
      };
      tells = tells.mine_is
          ∙ (λ i. pen.view.mine ++ Told (record { 0 = pen.view.core }) (label.Reserved made.number made.seen (grants i)) ∷ []);
      work = record {
        holds = at.holds;
        calm = failed_told g.D.Disk.view t pen after told c.note.ensures.holds tells None work.calm;
        fits = at.fits;
        space = at.space;
      };
      turns = refl;
    }
