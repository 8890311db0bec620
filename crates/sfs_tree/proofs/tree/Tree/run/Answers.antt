use Rattle.std.proofs.Common.{◌≡◌, ℕ, Result, Ok, Err, IfOk, sym, subst}
use Rattle.tree_laws.specs.declared.call.Call.{Call}
use Rattle.tree_laws.specs.declared.reply.Reply.{Reply}
use Rattle.tree_laws.specs.Tree.{TreeState}
use Rattle.tree_laws.specs.Step.{IsStep}
use Rattle.sfs_tree.proofs.tree.Tree.run.Goals as goal

-- what is done for a call is done for the one that was given
given : (tree : TreeState) (core : ℕ) (call own : Call) (reply : Reply) (after : TreeState) → call ≡ own → IsStep tree core own reply after
    → IsStep tree core call reply after
given tree core call own reply after is step = subst (λ call. IsStep tree core call reply after) (sym is) step

-- where it is not refused memory
given_ok : {E : Type 0} (tree : TreeState) (core : ℕ) (call own : Call) (after : TreeState) (r : Result Reply E) → call ≡ own
    → IfOk r (λ reply. (core : ℕ) → IsStep tree core own reply after) → IfOk r (λ reply. IsStep tree core call reply after)
given_ok tree core call own after (Ok reply) is steps = given tree core call own reply after is (steps core)
given_ok tree core call own after (Err e) is steps = tt

pub returns-in-Look-clause-ok : goal.returns-in-Look-clause-ok
returns-in-Look-clause-ok c = given c.args.self.now c.args.core.0 c.args.call.now _ c.look.result c.args.self.now c.in-Look.is (c.look.ensures c.args.core.0)

pub returns-in-Stat-clause-ok : goal.returns-in-Stat-clause-ok
returns-in-Stat-clause-ok c = given c.args.self.now c.args.core.0 c.args.call.now _ c.stat.result c.args.self.now c.in-Stat.is (c.stat.ensures c.args.core.0)

pub returns-in-Fsync-clause-ok : goal.returns-in-Fsync-clause-ok
returns-in-Fsync-clause-ok c =
    given c.args.self.now c.args.core.0 c.args.call.now _ c.fsync.result c.args.self.now c.in-Fsync.is (c.fsync.ensures c.args.core.0)

pub returns-in-Unlink-clause-ok : goal.returns-in-Unlink-clause-ok
returns-in-Unlink-clause-ok c =
    given c.args.self.now c.args.core.0 c.args.call.now _ c.unlink.result c.unlink.new.self c.in-Unlink.is (c.unlink.ensures c.args.core.0)

pub returns-in-Rmdir-clause-ok : goal.returns-in-Rmdir-clause-ok
returns-in-Rmdir-clause-ok c =
    given c.args.self.now c.args.core.0 c.args.call.now _ c.rmdir.result c.rmdir.new.self c.in-Rmdir.is (c.rmdir.ensures c.args.core.0)

pub returns-in-Link-clause-ok : goal.returns-in-Link-clause-ok
returns-in-Link-clause-ok c = given_ok c.args.self.now c.args.core.0 c.args.call.now _ c.link.new.self c.link.result c.in-Link.is c.link.ensures.ok

pub returns-in-Rename-clause-ok : goal.returns-in-Rename-clause-ok
returns-in-Rename-clause-ok c = given_ok c.args.self.now c.args.core.0 c.args.call.now _ c.rename.new.self c.rename.result c.in-Rename.is c.rename.ensures.ok

pub returns-in-Write-clause-ok : goal.returns-in-Write-clause-ok
returns-in-Write-clause-ok c = given_ok c.args.self.now c.args.core.0 c.args.call.now _ c.write.new.self c.write.result c.in-Write.is c.write.ensures.ok

pub returns-in-Trunc-clause-ok : goal.returns-in-Trunc-clause-ok
returns-in-Trunc-clause-ok c = given_ok c.args.self.now c.args.core.0 c.args.call.now _ c.trunc.new.self c.trunc.result c.in-Trunc.is c.trunc.ensures.ok

pub returns-in-Read-clause-ok : goal.returns-in-Read-clause-ok
returns-in-Read-clause-ok c = given_ok c.args.self.now c.args.core.0 c.args.call.now _ c.args.self.now c.read.result c.in-Read.is c.read.ensures
