use Rattle.std.proofs.Common.{◌∙◌, length, sym, subst}
use Rattle.space_map.specs.Space.{GrantedNumbers}
use Rattle.slot_laws.specs.Nodes.{no_numbers}
use Rattle.fsync_commit.specs.Granting.{IsBuiltOf}
use Rattle.fsync_commit.proofs.Built.{can_commit, none_on}
use Rattle.fsync_commit.proofs.Came.{none_are, nothing_granted, some_are}
use Rattle.fsync_commit.proofs.building.end_or_commit.Goals as goal

pub returns-then-is_empty-clause-comes : goal.returns-then-is_empty-clause-comes
returns-then-is_empty-clause-comes g c =
    let ok = c.in-Ok.ensures in
    let of = subst (λ (grant : GrantedNumbers). IsBuiltOf c.args.change grant c.in-Ok.built)
    (nothing_granted c.none.result c.none.ensures.inodes c.none.ensures.blocks)
    (record { tx = ok.tx; old = ok.old; after = ok.after; ascends = ok.ascending })
    in
    c.end_empty.ensures.comes c.args.change c.requires.nothing of (none_are c.in-Ok.built.tx.records.items (sym c.is_empty.ensures ∙ c.if-is_empty.true))

pub commit_settled-requires-clause-can : goal.commit_settled-requires-clause-can
commit_settled-requires-clause-can g c κs within =
    let ok = c.in-Ok.ensures in
    let of = subst (λ (grant : GrantedNumbers). IsBuiltOf c.args.change grant c.in-Ok.built)
    (nothing_granted c.none.result c.none.ensures.inodes c.none.ensures.blocks)
    (record { tx = ok.tx; old = ok.old; after = ok.after; ascends = ok.ascending })
    in
    let layout = c.args.pen.now.table.given.layout in
    can_commit layout c.args.change no_numbers c.requires.change (none_on layout c.args.change c.requires.change c.requires.nothing) c.in-Ok.built.tx of.tx
    (some_are (length c.in-Ok.built.tx.records.items) (sym c.is_empty.ensures ∙ c.if-is_empty.false))

pub returns-in-Ok-clause-comes : goal.returns-in-Ok-clause-comes
returns-in-Ok-clause-comes g c =
    let ok = c.in-Ok.ensures in
    let of = subst (λ (grant : GrantedNumbers). IsBuiltOf c.args.change grant c.in-Ok.built)
    (nothing_granted c.none.result c.none.ensures.inodes c.none.ensures.blocks)
    (record { tx = ok.tx; old = ok.old; after = ok.after; ascends = ok.ascending })
    in
    c.commit_settled.ensures.comes c.args.change c.requires.nothing of
