use Rattle.std.proofs.Common.{◌≡◌, ◌<◌, ◌∙◌, sym, ap, cond, true, false, ℕ, ltb, length, refl, arith, rules}
use Rattle.std.proofs.lemmas.Bool.Decides.{nat_tests}
use Rattle.mem_files.specs.File.{File}
use Rattle.mem_files.specs.Pages.{byte_at}
use Rattle.mem_files.proofs.Sizes.{length-bytes_in, bytes_in-resized}
use Rattle.mem_files.specs.declared.touched.Touched.{Touched}
use Rattle.mem_files.proofs.file.FileBytes.trunc.Goals as goal

pub returns-then-size-self-clause-ok : goal.returns-then-size-self-clause-ok
returns-then-size-self-clause-ok c =
    let long : length c.args.self.now.bytes ≡ c.self.inside.size =
    sym (ap (λ (f : File). length f.bytes) c.self.view_is) ∙ length-bytes_in c.self.inside.pages.items c.self.inside.size in
    let test : ltb c.args.size c.self.inside.size ≡ false = grind (arith, nat_tests) in
    rw (long, test) c.none.ensures

pub returns-then-size-self-clause-bytes : goal.returns-then-size-self-clause-bytes
returns-then-size-self-clause-bytes c =
    rw (← c.self.view_is)
    (bytes_in-resized c.self.inside.pages.items c.self.inside.pages.items c.self.inside.size c.args.size c.self.invariant.kept (λ _ _. refl))

pub returns-clause-ok : goal.returns-clause-ok
returns-clause-ok c =
    let long : length c.args.self.now.bytes ≡ c.self.inside.size =
    sym (ap (λ (f : File). length f.bytes) c.self.view_is) ∙ length-bytes_in c.self.inside.pages.items c.self.inside.size in
    let test : ltb c.args.size c.self.inside.size ≡ true = grind (arith, nat_tests) in
    rw (long, test) c.of-touched.ensures

pub returns-clause-bytes : goal.returns-clause-bytes
returns-clause-bytes c =
    rw (← c.self.view_is) (bytes_in-resized c.self.inside.pages.items c.cut.new.pages.items c.self.inside.size c.args.size c.self.invariant.kept same)
  where
    same : (place : ℕ) → place < c.args.size → byte_at c.cut.new.pages.items place ≡ byte_at c.self.inside.pages.items place
    same place below =
        let test : ltb place c.args.size ≡ true = grind (arith, nat_tests) in
        c.cut.ensures place ∙ ap (λ b. cond b (byte_at c.self.inside.pages.items place) 0) test

pub returns-in_err-make_room-clause-grows : goal.returns-in_err-make_room-clause-grows
returns-in_err-make_room-clause-grows c grows =
    let long : length c.args.self.now.bytes ≡ c.self.inside.size =
    sym (ap (λ (f : File). length f.bytes) c.self.view_is) ∙ length-bytes_in c.self.inside.pages.items c.self.inside.size in
    absurd (omega (arith, grows, long, c.if-size-self.false))

pub invariant_of-self-2 : goal.invariant_of-self-2
invariant_of-self-2 c =
    let end = ap (λ (t : Touched). t.end) c.of-touched.ensures in
    let long = c.in_ok-make_room.ensures.no_longer in
    record { kept = search rules; few = omega arith }
