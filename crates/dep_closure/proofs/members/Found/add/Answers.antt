use Rattle.std.proofs.Common.{arith, ap, ◌∙◌, sym, subst, refl, ◌+◌, cond, length}
use Rattle.std.specs.Bool.{OnFalse}
use Rattle.std.specs.BTreeSet.{IsUnchanged}
use Rattle.sfs_base.proofs.BasicTruth.{not_false}
use Rattle.cut_laws.specs.Rules.{IsOneOf}
use Rattle.dep_closure.proofs.Growing.{grows_one, grows_same, has_one}
use Rattle.dep_closure.proofs.members.Found.add.Goals as goal

pub returns-in_ok-push : goal.returns-in_ok-push
returns-in_ok-push c =
    grows_one c.args.self.now (record { members = c.insert.new.self; due = c.push.new.self }) c.args.node.0 (omega arith) c.in_ok-insert.ensures.keys
    (c.in_ok-insert.ensures.len ∙ ap (λ b. length c.args.self.now.members.keys + cond b 1 0) c.if-branch.true) c.insert.ensures.ordered
    c.in_ok-push.ensures.items

pub returns-else-branch : goal.returns-else-branch
returns-else-branch c =
    let same = subst (λ b. OnFalse b (IsUnchanged c.args.self.now.members c.insert.new.self)) c.if-branch.false c.in_ok-insert.ensures.unchanged in
    grows_same c.args.self.now (record { members = c.insert.new.self; due = c.args.self.now.due }) _ same refl
    (λ other is. subst (IsOneOf c.args.self.now.members.keys) is
    (has_one c.args.self.now.members c.args.node.0 (not_false _ (sym c.in_ok-insert.ensures.added ∙ c.if-branch.false))))
