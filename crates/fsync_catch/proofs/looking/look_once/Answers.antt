use Rattle.std.proofs.Common.{rules, ◌<◌, ◌≤◌, ◌^◌, ◌-◌, ℕ, List, length, sym, ap, ◌∙◌, subst, arith}
use Rattle.tree_laws.specs.Tree.{TreeState}
use Rattle.tree_laws.specs.Laws.{IsSoundTree}
use Rattle.mem_cells.specs.Part.{CoreLog}
use Rattle.mem_values.specs.Start.{given_by}
use Rattle.mem_values.specs.Places.{node_count}
use Rattle.fsync_look.specs.Look.{AreCopies}
use Rattle.fsync_catch.proofs.Noted.{Copying, keep_own, end_below}
use Rattle.fsync_catch.proofs.Counts.{no_more}
use Rattle.fsync_catch.proofs.Copies.{LooksAfterCopies, hold_still, copying}
use Rattle.fsync_catch.proofs.Going.{logs_above, looked_works}
use Rattle.fsync_catch.proofs.Looked.{is_look}
use Rattle.fsync_catch.proofs.looking.look_once.Goals as goal

pub copy_logs-requires-clause-below : goal.copy_logs-requires-clause-below
copy_logs-requires-clause-below g c =
    logs_above (given_by c.args.shared.now)
    c.args.shared.now c.args.nodes c.args.held.nodes.now c.args.core.now c.requires.table c.requires.work c.requires.holds
    c.requires.within

pub copy_logs-requires-clause-few : goal.copy_logs-requires-clause-few
copy_logs-requires-clause-few g c =
    let long = no_more c.args.nodes c.args.held.nodes.now c.requires.ascend c.requires.within in
    let fits : c.args.nodes < 2 ^ 32 = search rules in
    omega (arith, long, fits)

pub gather-requires-clause-holds : goal.gather-requires-clause-holds
gather-requires-clause-holds g c =
    let t = c.args.shared.now in
    let few : c.look.result ≤ 2 ^ 64 - 1 = let fits = c.look.type_inv in omega (arith, fits) in
    let s : Copying = record {
      given = given_by t;
      nodes = c.args.nodes;
      fsync = c.args.fsync;
      list = c.args.held.nodes.now;
      before = c.args.core.now;
      after = c.look.new.self;
      copies = c.deref.result.now;
    } in
    let is : LooksAfterCopies s t c.copy_logs.new.core c.look.result = record {
      work = c.requires.work;
      still = c.in_ok-parts.ensures.work;
      copies = subst (λ (l : List CoreLog). AreCopies (given_by t) c.args.nodes (length t.first.made)
          c.args.held.nodes.now c.args.core.now c.copy_logs.new.core l)
          (sym c.deref.ensures.value)
          (subst (λ (n : ℕ). AreCopies (given_by t) c.args.nodes n c.args.held.nodes.now c.args.core.now c.copy_logs.new.core c.in_ok-parts.parts.items)
          c.requires.cores
          c.in_ok-parts.ensures.copies);
      saw = c.in_ok-parts.ensures.saw;
      looked = c.look.ensures;
      waits = c.requires.waits;
      within = c.requires.within;
      few = few;
    } in
    hold_still s t c.copy_logs.new.core c.look.result is c.requires.table c.requires.holds

pub gather-requires-clause-ends : goal.gather-requires-clause-ends
gather-requires-clause-ends g c =
    let t = c.args.shared.now in
    let few : c.look.result ≤ 2 ^ 64 - 1 = let fits = c.look.type_inv in omega (arith, fits) in
    let s : Copying = record {
      given = given_by t;
      nodes = c.args.nodes;
      fsync = c.args.fsync;
      list = c.args.held.nodes.now;
      before = c.args.core.now;
      after = c.look.new.self;
      copies = c.deref.result.now;
    } in
    let is : LooksAfterCopies s t c.copy_logs.new.core c.look.result = record {
      work = c.requires.work;
      still = c.in_ok-parts.ensures.work;
      copies = subst (λ (l : List CoreLog). AreCopies (given_by t) c.args.nodes (length t.first.made)
          c.args.held.nodes.now c.args.core.now c.copy_logs.new.core l)
          (sym c.deref.ensures.value)
          (subst (λ (n : ℕ). AreCopies (given_by t) c.args.nodes n c.args.held.nodes.now c.args.core.now c.copy_logs.new.core c.in_ok-parts.parts.items)
          c.requires.cores
          c.in_ok-parts.ensures.copies);
      saw = c.in_ok-parts.ensures.saw;
      looked = c.look.ensures;
      waits = c.requires.waits;
      within = c.requires.within;
      few = few;
    } in
    end_below s (copying s t c.copy_logs.new.core c.look.result is) (2 ^ 64 - 1) (copying s t c.copy_logs.new.core c.look.result is).few

pub gather-requires-clause-own : goal.gather-requires-clause-own
gather-requires-clause-own g c =
    let t = c.args.shared.now in
    let few : c.look.result ≤ 2 ^ 64 - 1 = let fits = c.look.type_inv in omega (arith, fits) in
    let s : Copying = record {
      given = given_by t;
      nodes = c.args.nodes;
      fsync = c.args.fsync;
      list = c.args.held.nodes.now;
      before = c.args.core.now;
      after = c.look.new.self;
      copies = c.deref.result.now;
    } in
    let is : LooksAfterCopies s t c.copy_logs.new.core c.look.result = record {
      work = c.requires.work;
      still = c.in_ok-parts.ensures.work;
      copies = subst (λ (l : List CoreLog). AreCopies (given_by t) c.args.nodes (length t.first.made)
          c.args.held.nodes.now c.args.core.now c.copy_logs.new.core l)
          (sym c.deref.ensures.value)
          (subst (λ (n : ℕ). AreCopies (given_by t) c.args.nodes n c.args.held.nodes.now c.args.core.now c.copy_logs.new.core c.in_ok-parts.parts.items)
          c.requires.cores
          c.in_ok-parts.ensures.copies);
      saw = c.in_ok-parts.ensures.saw;
      looked = c.look.ensures;
      waits = c.requires.waits;
      within = c.requires.within;
      few = few;
    } in
    keep_own s (copying s t c.copy_logs.new.core c.look.result is)

pub returns-in_err-gathered-clause-work : goal.returns-in_err-gathered-clause-work
returns-in_err-gathered-clause-work g c =
    looked_works (given_by c.args.shared.now) c.args.shared.now c.copy_logs.new.core c.look.result c.look.new.self c.look.ensures c.in_ok-parts.ensures.work

pub returns-in_err-concern-clause-work : goal.returns-in_err-concern-clause-work
returns-in_err-concern-clause-work g c =
    looked_works (given_by c.args.shared.now) c.args.shared.now c.copy_logs.new.core c.look.result c.look.new.self c.look.ensures c.in_ok-parts.ensures.work

pub returns-clause-work : goal.returns-clause-work
returns-clause-work g c =
    looked_works (given_by c.args.shared.now) c.args.shared.now c.copy_logs.new.core c.look.result c.look.new.self c.look.ensures c.in_ok-parts.ensures.work

pub returns-clause-look : goal.returns-clause-look
returns-clause-look g c =
    let t = c.args.shared.now in
    let few : c.look.result ≤ 2 ^ 64 - 1 = let fits = c.look.type_inv in omega (arith, fits) in
    let s : Copying = record {
      given = given_by t;
      nodes = c.args.nodes;
      fsync = c.args.fsync;
      list = c.args.held.nodes.now;
      before = c.args.core.now;
      after = c.look.new.self;
      copies = c.deref.result.now;
    } in
    let is : LooksAfterCopies s t c.copy_logs.new.core c.look.result = record {
      work = c.requires.work;
      still = c.in_ok-parts.ensures.work;
      copies = subst (λ (l : List CoreLog). AreCopies (given_by t) c.args.nodes (length t.first.made)
          c.args.held.nodes.now c.args.core.now c.copy_logs.new.core l)
          (sym c.deref.ensures.value)
          (subst (λ (n : ℕ). AreCopies (given_by t) c.args.nodes n c.args.held.nodes.now c.args.core.now c.copy_logs.new.core c.in_ok-parts.parts.items)
          c.requires.cores
          c.in_ok-parts.ensures.copies);
      saw = c.in_ok-parts.ensures.saw;
      looked = c.look.ensures;
      waits = c.requires.waits;
      within = c.requires.within;
      few = few;
    } in
    let first = c.requires.work.first in
    let core = c.requires.work.core in
    is_look s (copying s t c.copy_logs.new.core c.look.result is) (subst IsSoundTree (sym first) c.requires.table.sound)
    (subst (λ (f : TreeState). 0 < length f.made) (sym first) (omega (arith, core)))
    (c.requires.table.counted ∙ ap node_count (sym first))
    (record { gathered = c.in_ok-gathered.gathered; concern = c.in_ok-concern.concern })
    (record {
      orderly = c.in_ok-gathered.ensures.orderly;
      merged = c.in_ok-gathered.ensures.merged;
      gathers = c.in_ok-gathered.ensures.nodes;
      concern_is = c.in_ok-concern.ensures;
    })
