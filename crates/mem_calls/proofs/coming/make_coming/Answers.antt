use Rattle.std.proofs.Common.{rules, ◌≡◌, Some, refl, sym, ap, subst, ◌∙◌, IsSome}
use Rattle.std.specs.Prelude.{OnOk, OnErr}
use Rattle.std.specs.FinMap.{get}
use Rattle.mem_values.specs.Start.{given_by}
use Rattle.mem_values.specs.declared.cell.Cell.TheVariants as cell
use Rattle.mem_values.specs.declared.cell_id.CellId.TheVariants as id
use Rattle.mem_values.specs.declared.bucket.Bucket.{Bucket}
use Rattle.mem_calls.specs.Held.{value_held, bucket_held}
use Rattle.mem_calls.specs.Changes.{PutsValue, IsWithRow}
use Rattle.mem_calls.proofs.Left.{known_home, refused}
use Rattle.mem_calls.proofs.Comings.{bucket_there, same_bucket, row_free, directory_free, at_there, part_back}
use Rattle.mem_calls.proofs.ComingBack.{IsBack, works_again, back_again}
use Rattle.mem_calls.proofs.coming.make_coming.Goals as goal

pub take_bucket-taken-requires : goal.take_bucket-taken-requires
take_bucket-taken-requires c =
    subst (λ n. IsSome (bucket_held c.args.nodes c.make_ready.new.core.held c.args.dir n)) (sym c.bucket_of-number.ensures)
    (bucket_there c.args.nodes c.args.core.now c.args.dir c.args.name.now c.requires.free c.requires.part c.in_ok-ready.ready c.make_ready.new.core
    c.in_ok-ready.ensures)

pub with_row-bucket-requires-clause-row : goal.with_row-bucket-requires-clause-row
with_row-bucket-requires-clause-row c =
    let was = subst (λ n. bucket_held c.args.nodes c.make_ready.new.core.held c.args.dir n
    ≡ Some c.take_bucket-taken.result.value) c.bucket_of-number.ensures c.take_bucket-taken.ensures.bucket in
    row_free c.args.nodes c.args.core.now c.args.dir c.args.name.now c.requires.free c.requires.part c.in_ok-ready.ready c.make_ready.new.core
    c.in_ok-ready.ensures c.take_bucket-taken.result.value was

pub with_row-bucket-requires-clause-directory : goal.with_row-bucket-requires-clause-directory
with_row-bucket-requires-clause-directory c =
    let was = subst (λ n. bucket_held c.args.nodes c.make_ready.new.core.held c.args.dir n
    ≡ Some c.take_bucket-taken.result.value) c.bucket_of-number.ensures c.take_bucket-taken.ensures.bucket in
    ap (λ (b : Bucket). get b.directories c.args.name.now)
    (sym (same_bucket c.args.nodes c.args.core.now c.args.dir c.args.name.now c.requires.free c.requires.part c.in_ok-ready.ready
    c.make_ready.new.core c.in_ok-ready.ensures c.take_bucket-taken.result.value was))
    ∙ directory_free (given_by c.args.shared.now) c.args.shared.now c.args.nodes c.args.core.now c.requires.table c.requires.work c.args.dir
    c.args.name.now c.requires.free

pub put_bucket-requires : goal.put_bucket-requires
put_bucket-requires c =
    let taken = subst (λ n. PutsValue c.args.nodes
    (id.Bucket c.args.dir n) c.take_bucket-taken.ensures.held.0 c.make_ready.new.core c.take_bucket-taken.new.core)
    c.bucket_of-number.ensures c.take_bucket-taken.ensures.held.1 in
    subst (λ n. IsSome (value_held c.args.nodes c.take_bucket-taken.new.core.held (id.Bucket c.args.dir n))) (sym c.bucket_of-number.ensures)
    (at_there c.args.nodes c.args.core.now c.args.dir c.args.name.now c.requires.free c.requires.part c.in_ok-ready.ready c.make_ready.new.core
    c.in_ok-ready.ensures
    c.take_bucket-taken.new.core c.take_bucket-taken.ensures.held.0 taken c.take_bucket-taken.new.core refl)

pub put_part-requires : goal.put_part-requires
put_part-requires c =
    let taken = subst (λ n. PutsValue c.args.nodes
    (id.Bucket c.args.dir n) c.take_bucket-taken.ensures.held.0 c.make_ready.new.core c.take_bucket-taken.new.core)
    c.bucket_of-number.ensures c.take_bucket-taken.ensures.held.1 in
    let puts = subst (λ n. PutsValue c.args.nodes (id.Bucket c.args.dir n)
    (cell.Bucket c.with_row-bucket.result.0) c.take_bucket-taken.new.core c.put_bucket.new.core)
    c.bucket_of-number.ensures c.put_bucket.ensures in
    part_back c.args.nodes c.args.core.now c.args.dir c.args.name.now c.requires.free c.requires.part c.in_ok-ready.ready c.make_ready.new.core
    c.in_ok-ready.ensures
    c.take_bucket-taken.new.core c.take_bucket-taken.ensures.held.0 taken (cell.Bucket c.with_row-bucket.result.0) c.put_bucket.new.core puts

pub let_go-requires-clause-home : goal.let_go-requires-clause-home
let_go-requires-clause-home c =
    let taken = subst (λ n. PutsValue c.args.nodes
    (id.Bucket c.args.dir n) c.take_bucket-taken.ensures.held.0 c.make_ready.new.core c.take_bucket-taken.new.core)
    c.bucket_of-number.ensures c.take_bucket-taken.ensures.held.1 in
    let puts = subst (λ n. PutsValue c.args.nodes (id.Bucket c.args.dir n)
    (cell.Bucket c.with_row-bucket.result.0) c.take_bucket-taken.new.core c.put_bucket.new.core)
    c.bucket_of-number.ensures c.put_bucket.ensures in
    let back : IsBack c.args.nodes c.args.core.now c.args.dir c.args.name.now c.in_ok-ready.ready c.make_ready.new.core c.put_part.new.core = record {
      out = c.take_bucket-taken.new.core;
      none = c.take_bucket-taken.ensures.held.0;
      taken = taken;
      b = c.take_bucket-taken.result.value;
      was = subst (λ n. bucket_held c.args.nodes c.make_ready.new.core.held c.args.dir n
          ≡ Some c.take_bucket-taken.result.value) c.bucket_of-number.ensures c.take_bucket-taken.ensures.bucket;
      vb = cell.Bucket c.with_row-bucket.result.0;
      is_b = ap Some (subst (λ r. OnErr r (c.with_row-bucket.result.0.value ≡ c.take_bucket-taken.result.value)) c.in-Err.is c.with_row-bucket.ensures.err);
      then = c.put_bucket.new.core;
      puts_b = puts;
      vp = c.put_part.ensures.0;
      is_p = c.put_part.ensures.1;
      puts_p = c.put_part.ensures.2;
    } in
    known_home (given_by c.args.shared.now) c.put_part.new.core.view c.put_part.new.core.held
    (works_again (given_by c.args.shared.now) c.args.shared.now c.args.nodes c.args.core.now c.requires.table c.requires.work c.args.dir c.args.name.now
    c.requires.free
    c.requires.part
    c.in_ok-ready.ready c.make_ready.new.core c.in_ok-ready.ensures c.put_part.new.core back).knows

pub returns-in-Err : goal.returns-in-Err
returns-in-Err c =
    let taken = subst (λ n. PutsValue c.args.nodes
    (id.Bucket c.args.dir n) c.take_bucket-taken.ensures.held.0 c.make_ready.new.core c.take_bucket-taken.new.core)
    c.bucket_of-number.ensures c.take_bucket-taken.ensures.held.1 in
    let puts = subst (λ n. PutsValue c.args.nodes (id.Bucket c.args.dir n)
    (cell.Bucket c.with_row-bucket.result.0) c.take_bucket-taken.new.core c.put_bucket.new.core)
    c.bucket_of-number.ensures c.put_bucket.ensures in
    let back : IsBack c.args.nodes c.args.core.now c.args.dir c.args.name.now c.in_ok-ready.ready c.make_ready.new.core c.put_part.new.core = record {
      out = c.take_bucket-taken.new.core;
      none = c.take_bucket-taken.ensures.held.0;
      taken = taken;
      b = c.take_bucket-taken.result.value;
      was = subst (λ n. bucket_held c.args.nodes c.make_ready.new.core.held c.args.dir n
          ≡ Some c.take_bucket-taken.result.value) c.bucket_of-number.ensures c.take_bucket-taken.ensures.bucket;
      vb = cell.Bucket c.with_row-bucket.result.0;
      is_b = ap Some (subst (λ r. OnErr r (c.with_row-bucket.result.0.value ≡ c.take_bucket-taken.result.value)) c.in-Err.is c.with_row-bucket.ensures.err);
      then = c.put_bucket.new.core;
      puts_b = puts;
      vp = c.put_part.ensures.0;
      is_p = c.put_part.ensures.1;
      puts_p = c.put_part.ensures.2;
    } in
    let works = works_again (given_by c.args.shared.now) c.args.shared.now c.args.nodes c.args.core.now c.requires.table c.requires.work c.args.dir
    c.args.name.now
    c.requires.free c.requires.part
    c.in_ok-ready.ready c.make_ready.new.core c.in_ok-ready.ensures c.put_part.new.core back in
    back_again (given_by c.args.shared.now) c.args.shared.now c.args.nodes c.args.core.now c.requires.table c.requires.work c.args.dir c.args.name.now
    c.requires.free
    c.requires.part
    c.in_ok-ready.ready c.make_ready.new.core c.in_ok-ready.ensures c.put_part.new.core back c.let_go.new.self
    (refused (given_by c.args.shared.now) c.args.shared.now c.put_part.new.core c.let_go.new.self works c.let_go.ensures.lets_go c.let_go.ensures.left
    c.let_go.ensures.places (search rules))

pub returns-in-Ok : goal.returns-in-Ok
returns-in-Ok c =
    let was = subst (λ n. bucket_held c.args.nodes c.make_ready.new.core.held c.args.dir n
    ≡ Some c.take_bucket-taken.result.value) c.bucket_of-number.ensures c.take_bucket-taken.ensures.bucket in
    let same = same_bucket c.args.nodes c.args.core.now c.args.dir c.args.name.now c.requires.free c.requires.part c.in_ok-ready.ready c.make_ready.new.core
    c.in_ok-ready.ensures c.take_bucket-taken.result.value was in
    record {
      mid = c.make_ready.new.core;
      ready = c.in_ok-ready.ensures;
      out = (
        c.take_bucket-taken.ensures.held.0,
        subst (λ n. PutsValue c.args.nodes (id.Bucket c.args.dir n) c.take_bucket-taken.ensures.held.0 c.make_ready.new.core c.take_bucket-taken.new.core)
            c.bucket_of-number.ensures c.take_bucket-taken.ensures.held.1,
      );
      old = c.requires.free.bucket_of;
      was = c.requires.free.bucket_is;
      row = subst (λ (b : Bucket). IsWithRow c.args.name.now c.args.child.0.0 c.args.child.1 b c.with_row-bucket.result.0.value) (sym same)
          (subst (λ r. OnOk r (IsWithRow c.args.name.now c.args.child.0.0 c.args.child.1 c.take_bucket-taken.result.value c.with_row-bucket.result.0.value))
          c.in-Ok.is c.with_row-bucket.ensures.ok);
    }
