use Rattle.std.proofs.Common.{None, length, option_map, sym, ap, ◌∙◌, subst}
use Rattle.tree_laws.specs.declared.history.Entry.{Entry}
use Rattle.tree_laws.specs.Tree.{TreeState}
use Rattle.tree_laws.proofs.Cores.{cores_after}
use Rattle.history_check.specs.Steps.{IsFollowed}
use Rattle.history_check.proofs.Followed.{LineAt, core_missing, call_missing, reply_missing, followed, readable, line_bytes}
use Rattle.history_check.proofs.ReadValues.{line_call_is}
use Rattle.history_check.proofs.line.follow.Goals as goal

pub returns-in_default-clause-line : goal.returns-in_default-clause-line
returns-in_default-clause-line c =
    core_missing (record {
      tree = c.args.tree.now;
      stamp = c.args.stamp;
      cores = c.args.cores;
      text = c.args.text.now;
      line = c.first_line-line.result.now;
      all = c.requires.cores;
      few = c.ranges.cores.fits;
      first = c.first_line-line.ensures;
      bytes = line_bytes c.args.text.now c.first_line-line.result.now c.type_inv.text c.first_line-line.ensures;
    }) (sym c.core_of.ensures ∙ c.in_default.is)

pub returns-in_default-2-clause-line : goal.returns-in_default-2-clause-line
returns-in_default-2-clause-line c =
    call_missing (record {
      tree = c.args.tree.now;
      stamp = c.args.stamp;
      cores = c.args.cores;
      text = c.args.text.now;
      line = c.first_line-line.result.now;
      all = c.requires.cores;
      few = c.ranges.cores.fits;
      first = c.first_line-line.ensures;
      bytes = line_bytes c.args.text.now c.first_line-line.result.now c.type_inv.text c.first_line-line.ensures;
    }) (sym c.in_ok-call.ensures ∙ c.in_default-2.is)

pub reply_of-requires-clause-readable : goal.reply_of-requires-clause-readable
reply_of-requires-clause-readable c =
    let bytes = line_bytes c.args.text.now c.first_line-line.result.now c.type_inv.text c.first_line-line.ensures in
    readable c.in-Some-2.call (line_call_is c.first_line-line.result.now c.in-Some-2.call bytes (sym c.in_ok-call.ensures ∙ c.in-Some-2.is))

pub returns-in_default-3-clause-line : goal.returns-in_default-3-clause-line
returns-in_default-3-clause-line c =
    reply_missing (record {
      tree = c.args.tree.now;
      stamp = c.args.stamp;
      cores = c.args.cores;
      text = c.args.text.now;
      line = c.first_line-line.result.now;
      all = c.requires.cores;
      few = c.ranges.cores.fits;
      first = c.first_line-line.ensures;
      bytes = line_bytes c.args.text.now c.first_line-line.result.now c.type_inv.text c.first_line-line.ensures;
    }) c.in-Some.core c.in-Some-2.call (sym c.core_of.ensures ∙ c.in-Some.is) (sym c.in_ok-call.ensures ∙ c.in-Some-2.is)
    (sym c.in_ok-reply.ensures.reply ∙ c.in_default-3.is)

pub returns-clause-line : goal.returns-clause-line
returns-clause-line c =
    let line : LineAt = record {
      tree = c.args.tree.now;
      stamp = c.args.stamp;
      cores = c.args.cores;
      text = c.args.text.now;
      line = c.first_line-line.result.now;
      all = c.requires.cores;
      few = c.ranges.cores.fits;
      first = c.first_line-line.ensures;
      bytes = line_bytes c.args.text.now c.first_line-line.result.now c.type_inv.text c.first_line-line.ensures;
    } in
    let own : Entry = record {
      stamp = record { 0 = c.from.result };
      core = c.in-Some.core;
      call = c.in-Some-2.call;
      reply = c.in-Some-3.reply;
      ack = None;
    } in
    let due = c.as_slice.ensures.value ∙ c.in_ok-due.ensures in
    let followed_by = followed line own c.as_slice.result.now c.strip_prefix.result (record {
      stamp_is = c.from.ensures;
      core_is = sym c.core_of.ensures ∙ c.in-Some.is;
      call_is = sym c.in_ok-call.ensures ∙ c.in-Some-2.is;
      reply_is = sym c.in_ok-reply.ensures.reply ∙ c.in-Some-3.is;
    }) due c.strip_prefix.ensures.cases in
    subst (λ (t : TreeState). IsFollowed c.args.tree.now c.args.stamp c.args.text.now t (option_map (λ left. left.now) c.strip_prefix.result))
    (sym c.in_ok-reply.ensures.tree) followed_by

pub returns-clause-cores : goal.returns-clause-cores
returns-clause-cores c = ap (λ t. length t.made) c.in_ok-reply.ensures.tree ∙ cores_after c.args.tree.now c.in-Some.core.0 c.in-Some-2.call
