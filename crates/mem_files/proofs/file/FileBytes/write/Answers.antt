use Rattle.std.proofs.Common.{◌≡◌, ◌<◌, ◌∙◌, ap, ℕ, length, refl, arith}
use Rattle.std.proofs.lemmas.Bool.Decides.{nat_tests}
use Rattle.mem_files.specs.Kept.{bytes_in}
use Rattle.mem_files.specs.Pages.{byte_at, byte_after}
use Rattle.mem_files.proofs.Fresh.{byte_at-fresh}
use Rattle.mem_files.proofs.Puts.{byte_after-behind}
use Rattle.mem_files.proofs.Sizes.{bytes_in-written}
use Rattle.mem_files.specs.declared.touched.Touched.{Touched}
use Rattle.mem_files.proofs.file.FileBytes.write.Goals as goal

-- the bytes of the pages behind the write
puts : (c : goal.After-self-1) → (place : ℕ) → byte_at c.put.new.pages.items place
    ≡ byte_after (byte_at c.self.inside.pages.items) c.args.at c.args.from.now place
puts c =
    let some : 0 < length c.args.from.now = grind (arith, nat_tests) in
    let first = ap (λ (t : Touched). t.first) c.of-touched.ensures in
    let end = ap (λ (t : Touched). t.end) c.of-touched.ensures in
    let written = rw c.deref.ensures.value at c.in_ok-fresh.ensures.written in
    byte_at-fresh c.grow.new.pages.items c.put.new.pages.items c.in_ok-fresh.fresh.items (byte_at c.self.inside.pages.items)
    c.of-touched.result.first c.of-touched.result.end c.args.at c.args.from.now (omega (arith, first)) (omega (arith, first, end))
    (omega (arith, end)) c.in_ok-fresh.ensures.count c.put.ensures.pages written c.in_ok-grow.ensures.same

pub returns-clause-bytes : goal.returns-clause-bytes
returns-clause-bytes c =
    let some : 0 < length c.args.from.now = grind (arith, nat_tests) in
    ap (λ n. bytes_in c.put.new.pages.items n) c.max-self-inside.ensures
    ∙ rw (← c.self.view_is)
    (bytes_in-written c.self.inside.pages.items c.self.inside.pages.items c.put.new.pages.items c.self.inside.size c.args.at c.args.from.now some
    c.self.invariant.kept (λ place. refl) (puts c))

pub invariant_of-self-2 : goal.invariant_of-self-2
invariant_of-self-2 c =
    let some : 0 < length c.args.from.now = grind (arith, nat_tests) in
    let fits = c.requires some in
    let end = ap (λ (t : Touched). t.end) c.of-touched.ensures in
    let long = c.in_ok-make_room.ensures.no_longer in
    record {
      kept = record {
        within = omega (arith, c.max-self-inside.ensures, fits, c.self.invariant.kept.within);
        clean = λ place past.
            puts c place
            ∙ byte_after-behind (byte_at c.self.inside.pages.items) c.args.at c.args.from.now place (omega (arith, past, c.max-self-inside.ensures))
            ∙ c.self.invariant.kept.clean place (omega (arith, past, c.max-self-inside.ensures));
      };
      few = omega arith;
    }
